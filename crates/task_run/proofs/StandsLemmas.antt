-- A machine between two parts, after what its task computes there.
use Rattle.std.proofs.Common.{◌≡◌, ◌↔◌, ◌∙◌, ◌+◌, ◌++◌, ℕ, zero, suc, true, false, IsTrue, List, [], ◌∷◌, Option, ap, append_assoc, arith, length, refl, replicate, subst, sym}
use Rattle.std.proofs.lemmas.List.{append-nil, replicate_more}
use Rattle.access_types.specs.Marked.{is_disable, is_enable, is_nest_close, is_nest_open}
use Rattle.access_types.specs.declared.history.Happening.{Happening}
use Rattle.access_types.specs.declared.history.Happening.TheVariants as happenings
use Rattle.access_types.specs.declared.history.Mark.{Mark}
use Rattle.access_types.specs.declared.history.Mark.TheVariants as marks
use Rattle.setup_access.specs.Leads as checks
use Rattle.setup_access.specs.Lending.{with_context}
use Rattle.setup_access.specs.Setting as settings
use Rattle.setup_access.specs.Shown.{context_of}
use Rattle.setup_access.specs.declared.begun.Begun.{Begun}
use Rattle.setup_access.specs.declared.checker.Checker.{Checker}
use Rattle.slot_table.specs.declared.records.Record.{Record}
use Rattle.task_context.specs.Context.{Context}
use Rattle.task_context.specs.History.{LeadsTo, MarkFollows}
use Rattle.task_context.proofs.Surpluses.{EndsRaised-surplus, surplus-EndsRaised}
use Rattle.task_plan.proofs.KeepsLemmas.{keeps_on}
use Rattle.task_plan.specs.Keeps.{Keeps}
use Rattle.task_plan.specs.declared.progress.Progress.{Progress}
use Rattle.task_run.proofs.CountsLemmas.{counts_as, history_of, history_on}
use Rattle.task_run.specs.Stands.{AfterMark, Stands}
use Rattle.task_run.specs.declared.machine.Machine.{Machine}
use Rattle.program_order.specs.Standing.{EndsNothing, IsDisabled, IsNested, Setting, Standing, checks_of, doing}
use Rattle.program_order.specs.WrittenOrder.{marked_so_often}

-- a checker rests with another context too
rests_with : (s : settings.Setting) (scopes : List Begun) (asked : ℕ) (last : Option Begun) (checker : Checker) (context : Context)
    → checks.Rests s scopes asked last checker → checks.Rests s scopes asked last (with_context checker context)
rests_with s scopes asked last checker context rests = record {
  setting = rests.setting;
  in_force = rests.in_force;
  own = rests.own;
  samples = rests.samples;
  may_open = rests.may_open;
  stage = rests.stage;
}

-- it stands where it stands: how it came there is no matter
pub state_eq : (s : Setting) (before after : Standing) (machine : Machine) → after.progress ≡ before.progress → after.unbalanced ≡ before.unbalanced
    → after.scopes ≡ before.scopes → after.asked ≡ before.asked → Stands s before machine → Stands s after machine
state_eq s before after machine same count scopes asked stands = record {
  of = stands.of;
  counts = counts_as s before machine stands.counts after same count (ap (λ (l : List Begun). length l) scopes);
  rests = (
    stands.rests.0,
    subst (λ (n : ℕ). checks.Rests (checks_of s) after.scopes n stands.rests.0 machine.checker) (sym asked)
        (subst (λ (l : List Begun). checks.Rests (checks_of s) l before.asked stands.rests.0 machine.checker) (sym scopes) stands.rests.1),
  );
}

-- after a mark
pub stands_marked : (s : Setting) (before : Standing) (later : List Record) (m : Mark) (machine : Machine) (context : Context)
    → MarkFollows (context_of machine.checker) m context → Stands s before machine
    → Stands s (doing before later (happenings.Mark m ∷ [])) (record machine { checker = with_context machine.checker context })
stands_marked s before later m machine context follows stands = record {
  of = record {
    task = stands.of.task;
    rules = stands.of.rules;
    variables = stands.of.variables;
    layout = stands.of.layout;
    sites = stands.of.sites;
  };
  counts = record {
    keeps = keeps_on (length s.text.variables) before machine.progress later (happenings.Mark m ∷ []) (tt, tt) stands.counts.keeps;
    context = history_on s.rules.plain_writes_atomic s.text.task before.progress.did (happenings.Mark m) (context_of machine.checker) context
        stands.counts.context (follows s.rules.plain_writes_atomic s.text.task);
    in_force = stands.counts.in_force;
  };
  rests = (stands.rests.0, rests_with (checks_of s) before.scopes before.asked stands.rests.0 machine.checker context stands.rests.1);
}

-- after something else is kept
pub stands_keeping : (s : Setting) (before after : Standing) (machine : Machine) (progress : Progress) → after.progress.did ≡ before.progress.did
    → after.scopes ≡ before.scopes → after.asked ≡ before.asked → Keeps (length s.text.variables) after progress → Stands s before machine
    → Stands s after (record machine { progress = progress })
stands_keeping s before after machine progress did scopes asked keeps stands = record {
  of = record {
    task = stands.of.task;
    rules = stands.of.rules;
    variables = stands.of.variables;
    layout = stands.of.layout;
    sites = stands.of.sites;
  };
  counts = record {
    keeps = keeps;
    context = subst (λ (d : List Happening). LeadsTo s.rules.plain_writes_atomic s.text.task (history_of s.text.task d) (context_of machine.checker))
        (sym did) stands.counts.context;
    in_force = stands.counts.in_force ∙ sym (ap (λ (l : List Begun). length l) scopes);
  };
  rests = (
    stands.rests.0,
    subst (λ (n : ℕ). checks.Rests (checks_of s) after.scopes n stands.rests.0 machine.checker) (sym asked)
        (subst (λ (l : List Begun). checks.Rests (checks_of s) l before.asked stands.rests.0 machine.checker) (sym scopes) stands.rests.1),
  );
}

-- none of the marks
pub stands_still : (s : Setting) (before : Standing) (later : List Record) (mark : Happening) (machine : Machine) → Stands s before machine
    → Stands s (marked_so_often 0 mark before later) machine
stands_still s before later mark machine stands =
    state_eq s before (marked_so_often 0 mark before later) machine
    (ap (λ (d : List Happening). record before.progress { did = d }) (append-nil before.progress.did)) refl refl refl stands

-- one mark more
pub stands_more : (s : Setting) (before : Standing) (later : List Record) (count : ℕ) (m : Mark) (old new : Machine)
    → AfterMark m old new → Stands s (marked_so_often count (happenings.Mark m) before later) old
    → Stands s (marked_so_often (count + 1) (happenings.Mark m) before later) new
stands_more s before later count m old new goes stands =
    let mark : Happening = happenings.Mark m in
    let so_far : Standing = marked_so_often count mark before later in
    let did : before.progress.did ++ replicate (count + 1) mark ≡ (before.progress.did ++ replicate count mark) ++ mark ∷ [] =
    ap (λ (l : List Happening). before.progress.did ++ l) (sym (replicate_more count mark)) ∙ sym (append_assoc before.progress.did (replicate count mark) (mark ∷ [])) in
    state_eq s (doing so_far later (mark ∷ [])) (marked_so_often (count + 1) mark before later) new
    (ap (λ (d : List Happening). record before.progress { did = d }) did) refl refl refl (goes s so_far later stands)

-- whether reports are off, and whether the task is in a region
pub no_report : (s : Setting) (before : Standing) (machine : Machine) → Stands s before machine
    → ((context_of machine.checker).disable_count ≡ 0) ↔ EndsNothing s before marks.Enable
no_report s before machine stands = (
  λ none raised. let some = surplus-EndsRaised is_disable is_enable _ _ stands.counts.context.disabled raised in omega arith,
  λ never. by_count (context_of machine.checker).disable_count refl never,
)
  where
    by_count : (count : ℕ) → (context_of machine.checker).disable_count ≡ count → (¬ IsDisabled s before) → (context_of machine.checker).disable_count ≡ 0
    by_count zero is never = is
    by_count (suc count) is never =
        absurd (never (EndsRaised-surplus is_disable is_enable _ _ stands.counts.context.disabled (omega (arith, is))))

pub no_region : (s : Setting) (before : Standing) (machine : Machine) → Stands s before machine
    → ((context_of machine.checker).nest_count ≡ 0) ↔ EndsNothing s before marks.NestClose
no_region s before machine stands = (
  λ none raised. let some = surplus-EndsRaised is_nest_open is_nest_close _ _ stands.counts.context.nested raised in omega arith,
  λ never. by_count (context_of machine.checker).nest_count refl never,
)
  where
    by_count : (count : ℕ) → (context_of machine.checker).nest_count ≡ count → (¬ IsNested s before) → (context_of machine.checker).nest_count ≡ 0
    by_count zero is never = is
    by_count (suc count) is never =
        absurd (never (EndsRaised-surplus is_nest_open is_nest_close _ _ stands.counts.context.nested (omega (arith, is))))

-- what is false is never true
pub never : {P : Type 0} → IsTrue false → P
never is = absurd (let no : false ≡ true = is in cc)
