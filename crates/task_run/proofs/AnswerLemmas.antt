-- One record more of each part: the part goes on, or is over, and what is left of the text follows.
use Rattle.std.proofs.Common.{◌≡◌, ◌↔◌, ◌∙◌, ◌++◌, ℕ, Bool, IsTrue, List, [], ◌∷◌, None, Option, Some, ap, drop, length, refl, subst, sym}
use Rattle.std.proofs.lemmas.List.{append-nil}
use Rattle.access_run.specs.Leads.{AccessIsComplete}
use Rattle.access_run.specs.Moved.{moved}
use Rattle.access_run.specs.Whole.{IsWhole, NoneWhole}
use Rattle.access_run.proofs.CheckFronts.{check, close, framed_checks}
use Rattle.access_run.proofs.WholeLemmas.{none_more, whole_now}
use Rattle.access_types.specs.Access as access
use Rattle.access_types.specs.declared.history.Happening.{Happening}
use Rattle.access_types.specs.declared.history.Happening.TheVariants as happenings
use Rattle.access_run.specs.memory_operation.Locks.{TakesLock}
use Rattle.access_run.specs.declared.memory_operation.effect.Effect.{Effect}
use Rattle.access_run.specs.declared.memory_operation.operation.Operation.{Operation}
use Rattle.access_run.specs.declared.memory_operation.operation.Operation.TheVariants as operations
use Rattle.setup_access.specs.Check.{Check, Close, Passes}
use Rattle.setup_access.specs.Checker.{Checks, Closes, Does, Doing, StageLeft}
use Rattle.setup_access.specs.Fallen.{followed}
use Rattle.setup_access.specs.Leads as checks
use Rattle.setup_access.specs.Setting as settings
use Rattle.setup_access.specs.Shown.{context_of}
use Rattle.setup_access.specs.declared.begun.Begun.{Begun}
use Rattle.setup_access.specs.declared.checker.Checker.{Checker}
use Rattle.setup_access.specs.declared.stage.CheckStage.TheVariants as check_stages
use Rattle.slot_table.specs.declared.records.Record.{Record}
use Rattle.task_context.specs.Context.{Context}
use Rattle.task_context.specs.History.{Concerns, LeadsTo}
use Rattle.task_plan.specs.Follow.{Follow}
use Rattle.task_plan.specs.Keeps.{Keeps}
use Rattle.task_plan.specs.declared.progress.Progress.{Progress}
use Rattle.task_run.proofs.CountsLemmas.{counts_as, counts_operated, counts_silent, history_of, unconcerned}
use Rattle.task_run.proofs.EndLemmas.{access_made, access_only, after_access, after_closing, after_opening, closing_only, lock_only, lock_taken, opening_only, passes_of, scope_closed, scope_opened}
use Rattle.task_run.specs.Agrees.{begins_now}
use Rattle.task_run.specs.Part.{FollowLeft, PartLeft, closes, locks, makes, opens}
use Rattle.task_run.specs.Stands.{Counts, IsOf, Stands}
use Rattle.task_run.specs.declared.machine.Machine.{Machine}
use Rattle.task_plan.specs.Left.{WalkLeft}
use Rattle.task_plan.specs.declared.walk.Walk.{Walk}
use Rattle.program_order.specs.Access.{operated}
use Rattle.program_order.specs.Standing.{BeginsNow, IsDisabled, IsLockAt, Setting, Standing, checks_of, doing, lock_number}

-- only the checker is another, and the access whose begin is the next step
abbrev pub OtherChecker : Machine → Machine → Type 0
OtherChecker old new = new ≡ record old { checker = new.checker; begins = new.begins }

module _ (s : Setting) (old new : Machine) (kept : OtherChecker old new) where
  pub of_kept : IsOf s old → IsOf s new
  of_kept of = subst (λ (m : Machine). IsOf s m) (sym kept) (record {
    task = of.task;
    rules = of.rules;
    variables = of.variables;
    layout = of.layout;
    sites = of.sites;
  })

  pub counts_kept : (before : Standing) → context_of new.checker ≡ context_of old.checker → Counts s before old → Counts s before new
  counts_kept before context counts = subst (λ (m : Machine). Counts s before m) (sym kept) (record {
    keeps = counts.keeps;
    context = subst (λ (c : Context). LeadsTo s.rules.plain_writes_atomic s.text.task (history_of s.text.task before.progress.did) c) (sym context) counts.context;
    in_force = counts.in_force;
  })

  pub walk_kept : new.walk ≡ old.walk
  walk_kept = ap (λ (m : Machine). m.walk) kept

-- after a record no begin is the next step
pub begun_before : (begun : Begun) (records : List Record) (last : Record) (next : Option Begun) → next ≡ None → next ≡ begins_now begun (records ++ last ∷ [])
begun_before begun [] last next none = none
begun_before begun (first ∷ later) last next none = none

-- the operation of an access leaves all but what the task did
operated_scopes : (a : access.Access) (operation : Option Operation) (before : Standing) (records : List Record) (effect : Effect) (rest : List Record)
    → (operated a operation before records effect rest).scopes ≡ before.scopes
operated_scopes a None before records effect rest = refl
operated_scopes a (Some operations.Load) before records effect rest = refl
operated_scopes a (Some (operations.Add amount)) before records effect rest = refl
operated_scopes a (Some (operations.Change change)) before records effect rest = refl

-- an access is over
module _ (s : Setting) (before : Standing) (a : access.Access) (operation : Option Operation) (begun : Begun) (mine : List Record) (effect : Effect)
    (machine : Machine) (begins : BeginsNow s before a begun)
    (complete : AccessIsComplete (checks_of s) before.scopes begun before.asked operation mine effect machine.checker) where
  accessed_stands : IsOf s machine → Counts s (doing before [] (happenings.Begin a ∷ [])) machine → (later : List Record)
      → Stands s (after_access s before a operation begun mine effect machine.checker begins complete later) machine
  accessed_stands of counts later =
      let began : Standing = doing before (drop 1 (mine ++ later)) (happenings.Begin a ∷ []) in
      let began_counts : Counts s began machine = counts_as s (doing before [] (happenings.Begin a ∷ [])) machine counts began refl refl refl in
      let made : Standing = operated a operation began (complete.makes.checked ++ later) effect (complete.makes.done ++ later) in
      let made_counts : Counts s made machine =
      counts_operated s a operation began (complete.makes.checked ++ later) effect (complete.makes.done ++ later) machine began_counts in
      let ended : Counts s (doing made later (happenings.End a ∷ [])) machine = counts_silent s made machine made_counts later (happenings.End a ∷ []) (tt, tt) in
      let scopes : made.scopes ≡ before.scopes =
      operated_scopes a operation began (complete.makes.checked ++ later) effect (complete.makes.done ++ later) in record {
        of = of;
        counts = counts_as s (doing made later (happenings.End a ∷ [])) machine ended
            (after_access s before a operation begun mine effect machine.checker begins complete later) refl refl refl;
        rests = (Some begun, subst (λ (l : List Begun). checks.Rests (checks_of s) l complete.now (Some begun) machine.checker) (sym scopes) complete.rests);
      }

  pub access_over : (walk : Walk) (follow : Follow) (later : List Record) (after : Standing)
      → PartLeft s (makes a operation follow) walk before (mine ++ later) after []
      ↔ FollowLeft s walk follow effect (after_access s before a operation begun mine effect machine.checker begins complete later) later after []
  access_over walk follow later after = (
    λ h. let own = access_only s before a operation begun mine effect machine.checker begins complete later h.0 h.1 h.2 h.3 in
        subst (λ (e : Effect). FollowLeft s walk follow e (after_access s before a operation begun mine effect machine.checker begins complete later) later after []) own.0
        (subst (λ (x : Standing). FollowLeft s walk follow h.0 x later after []) own.2
        (subst (λ (l : List Record). FollowLeft s walk follow h.0 h.1 l after []) own.1 h.4)),
    λ q. (
      effect,
      after_access s before a operation begun mine effect machine.checker begins complete later,
      later,
      access_made s before a operation begun mine effect machine.checker begins complete later,
      q,
    ),
  )

  pub access_stands : IsOf s machine → Counts s (doing before [] (happenings.Begin a ∷ [])) machine → (later : List Record)
      → Stands s (after_access s before a operation begun mine effect machine.checker begins complete later) machine
  access_stands = accessed_stands

-- the checks of the records are whole: nothing goes on with them, and they come to the same
module _ (s : settings.Setting) (scopes : List Begun) (doing : Doing) (asked : ℕ) where
  alone_at_rest : (records : List Record) (checker : Checker) (leads : checks.Leads s scopes doing asked records checker)
      → checker.stage ≡ check_stages.Rest → (more : List Record) (other : Passes) → Does s scopes doing asked (records ++ more) other
      → (more ≡ []) × (other ≡ passes_of leads.now (followed [] leads.fallen ++ []))
  alone_at_rest records checker leads rests more other h =
      let left = (leads.left more other).0 h in
      let over : StageLeft s scopes check_stages.Rest leads.now more left.0 = subst (λ x. StageLeft s scopes x leads.now more left.0) rests left.1 in (
        sym over.1,
        left.2 ∙ (ap (λ (m : Passes). passes_of m.asked (followed more leads.fallen ++ m.outcomes)) over.0
            ∙ ap (λ r. passes_of leads.now (followed r leads.fallen ++ [])) (sym over.1)),
      )

  pub does_alone : (records : List Record) (checker : Checker) → checks.Leads s scopes doing asked records checker
      → (complete : checks.IsComplete s scopes doing asked records checker) → (more : List Record) (other : Passes)
      → Does s scopes doing asked (records ++ more) other → (more ≡ []) × (other ≡ passes_of complete.now complete.fallen)
  does_alone records checker leads complete more other h =
      let there = alone_at_rest records checker leads complete.rests.stage more other h in
      let here = alone_at_rest records checker leads complete.rests.stage [] (passes_of complete.now complete.fallen)
      (subst (λ r. Does s scopes doing asked r (passes_of complete.now complete.fallen)) (sym (append-nil records)) complete.does) in
      (there.0, there.1 ∙ sym here.1)

-- the check of a scoped assertion, and its last check: whole once they are done, and going on until then
module _ (s : settings.Setting) (scopes : List Begun) (begun : Begun) (asked : ℕ) (records : List Record) (last : Record) where
  pub check_whole : (checker : Checker) → checks.Leads s scopes (Checks begun) asked (records ++ last ∷ []) checker
      → NoneWhole (Check s scopes begun asked) records → (complete : checks.IsComplete s scopes (Checks begun) asked (records ++ last ∷ []) checker)
      → IsWhole moved (Check s scopes begun asked) (records ++ last ∷ []) (passes_of complete.now complete.fallen)
  check_whole checker leads none complete =
      whole_now moved (Check s scopes begun asked)
      (λ r passes rest h. (framed_checks (Check s scopes begun asked) (check s scopes begun asked) r passes rest).0 h)
      records last (passes_of complete.now complete.fallen) none complete.does
      (does_alone s scopes (Checks begun) asked (records ++ last ∷ []) checker leads complete)

  pub check_goes : NoneWhole (Check s scopes begun asked) records → ¬ checks.IsDone s scopes (Checks begun) asked (records ++ last ∷ [])
      → NoneWhole (Check s scopes begun asked) (records ++ last ∷ [])
  check_goes none going = none_more moved (Check s scopes begun asked) records last none (λ passes h. going (passes, h))

module _ (s : settings.Setting) (scopes : List Begun) (scope : Begun) (silenced : Bool) (asked : ℕ) (records : List Record) (last : Record) where
  pub close_whole : (checker : Checker) → checks.Leads s scopes (Closes scope silenced) asked (records ++ last ∷ []) checker
      → NoneWhole (Close s scope silenced asked) records → (complete : checks.IsComplete s scopes (Closes scope silenced) asked (records ++ last ∷ []) checker)
      → IsWhole moved (Close s scope silenced asked) (records ++ last ∷ []) (passes_of complete.now complete.fallen)
  close_whole checker leads none complete =
      whole_now moved (Close s scope silenced asked)
      (λ r passes rest h. (framed_checks (Close s scope silenced asked) (close s scope silenced asked) r passes rest).0 h)
      records last (passes_of complete.now complete.fallen) none complete.does
      (does_alone s scopes (Closes scope silenced) asked (records ++ last ∷ []) checker leads complete)

  pub close_goes : NoneWhole (Close s scope silenced asked) records → ¬ checks.IsDone s scopes (Closes scope silenced) asked (records ++ last ∷ [])
      → NoneWhole (Close s scope silenced asked) (records ++ last ∷ [])
  close_goes none going = none_more moved (Close s scope silenced asked) records last none (λ passes h. going (passes, h))

-- a scoped assertion is in force
module _ (s : Setting) (before : Standing) (a : access.Access) (begun : Begun) (mine : List Record) (passes : Passes) (begins : BeginsNow s before a begun)
    (whole : IsWhole moved (Check (checks_of s) before.scopes begun before.asked) mine passes) where
  pub opening_over : (walk : Walk) (later : List Record) (after : Standing) → PartLeft s (opens a) walk before (mine ++ later) after []
      ↔ WalkLeft s walk (after_opening s before a begun mine passes begins whole later) later after []
  opening_over walk later after = (
    λ h. let own = opening_only s before a begun mine passes begins whole later h.0 h.1 h.2 h.3 in
        subst (λ (x : Standing). WalkLeft s walk x later after []) own.1 (subst (λ (l : List Record). WalkLeft s walk h.1 l after []) own.0 h.4),
    λ q. (begun, after_opening s before a begun mine passes begins whole later, later, scope_opened s before a begun mine passes begins whole later, q),
  )

-- one is in force no more
module _ (s : Setting) (before : Standing) (scopes : List Begun) (newest : Begun) (silenced : Bool) (mine : List Record) (passes : Passes)
    (in_force : before.scopes ≡ scopes ++ newest ∷ []) (is_silenced : IsTrue silenced ↔ IsDisabled s before)
    (whole : IsWhole moved (Close (checks_of s) newest silenced before.asked) mine passes) where
  pub closing_over : (walk : Walk) (later : List Record) (after : Standing) → PartLeft s closes walk before (mine ++ later) after []
      ↔ WalkLeft s walk (after_closing s before scopes newest silenced mine passes in_force is_silenced whole later) later after []
  closing_over walk later after = (
    λ h. let own = closing_only s before scopes newest silenced mine passes in_force is_silenced whole later h.0 h.1 h.2 in
        subst (λ (x : Standing). WalkLeft s walk x later after []) own.1 (subst (λ (l : List Record). WalkLeft s walk h.0 l after []) own.0 h.3),
    λ q. (
      after_closing s before scopes newest silenced mine passes in_force is_silenced whole later,
      later,
      scope_closed s before scopes newest silenced mine passes in_force is_silenced whole later,
      q,
    ),
  )

-- a lock is taken
pub lock_over : (s : Setting) (before : Standing) (variable : ℕ) (mine : List Record) (walk : Walk) → IsLockAt s variable
    → TakesLock s.text.task (lock_number s variable) mine [] → (later : List Record) (after : Standing)
    → PartLeft s (locks variable) walk before (mine ++ later) after []
    ↔ WalkLeft s walk (doing before later (happenings.Lock variable ∷ [])) later after []
lock_over s before variable mine walk is_lock taken later after = (
  λ h. subst (λ (l : List Record). WalkLeft s walk (doing before l (happenings.Lock variable ∷ [])) l after [])
      (lock_only s.text.task (lock_number s variable) mine later h.0 taken h.2) h.3,
  λ q. (later, is_lock, lock_taken s.text.task (lock_number s variable) mine later taken, q),
)

-- the task took a lock or gave it back
pub stands_locked : (s : Setting) (before : Standing) (machine : Machine) (progress : Progress) (later : List Record) (happening : Happening)
    → ((task : ℕ) → ¬ Concerns task task happening)
    → Keeps (length s.text.variables) (doing before later (happening ∷ [])) progress → Stands s before machine
    → Stands s (doing before later (happening ∷ [])) (record machine { progress = progress })
stands_locked s before machine progress later happening other keeps stands = record {
  of = record {
    task = stands.of.task;
    rules = stands.of.rules;
    variables = stands.of.variables;
    layout = stands.of.layout;
    sites = stands.of.sites;
  };
  counts = record {
    keeps = keeps;
    context = unconcerned s.rules.plain_writes_atomic s.text.task before.progress.did happening (context_of machine.checker) (other s.text.task) stands.counts.context;
    in_force = stands.counts.in_force;
  };
  rests = stands.rests;
}
