-- What a checker has left goes on with the step that it says.
use Rattle.std.proofs.Common.{◌≡◌, ◌↔◌, ◌∷◌, ◌++◌, [], ◌∙◌, ℕ, Bool, false, true, List, Option, None, Some, IfSome, IsNone, ap, inl, inr, refl, subst, sym}
use Rattle.std.proofs.lemmas.List.{append-nil}
use Rattle.access_types.specs.Access.{Access}
use Rattle.slot.specs.Pair.{Halves}
use Rattle.slot_table.specs.Answer.{IsFlag, IsHalves, IsWord}
use Rattle.slot_table.specs.declared.records.Record.{Record}
use Rattle.slot_table.specs.declared.step.Answer.{Answer}
use Rattle.slot_table.specs.declared.step.Answer.TheVariants as answers
use Rattle.slot_table.specs.declared.step.Step.{Step}
use Rattle.slot_table.specs.declared.step.Step.TheVariants.{Clock}
use Rattle.setup_access.specs.Check.{Fallen, Passes}
use Rattle.setup_access.specs.Checker.{Does, Doing, StageLeft}
use Rattle.setup_access.specs.Fallen.{followed}
use Rattle.setup_access.specs.Kept.{setting_with}
use Rattle.setup_access.specs.Leads.{GoOn, IsComplete, IsDone, IsCheckOver, Leads, OnlyStep, Rests, stage_step}
use Rattle.setup_access.specs.Parts.{FindLeft, FoundLeft, SetupLeft, find_step, found_step, setup_step}
use Rattle.setup_access.specs.PassLeft.{Given, PassLeft, pass_step}
use Rattle.setup_access.specs.Records.{OnFlag, OnHalves, OnWord}
use Rattle.setup_access.specs.Setting.{Setting}
use Rattle.setup_access.specs.Setup.{Judged}
use Rattle.setup_access.specs.Waits.{IsStuckBy}
use Rattle.setup_access.specs.declared.begun.Begun.{Begun}
use Rattle.setup_access.specs.declared.checker.Checker.{Checker}
use Rattle.setup_access.specs.declared.found.Found.{Found}
use Rattle.setup_access.specs.declared.found.Found.TheVariants as founds
use Rattle.setup_access.specs.declared.outcome.Outcome.{Outcome}
use Rattle.setup_access.specs.declared.outcome.Watchpoint.{Watchpoint}
use Rattle.setup_access.specs.declared.pass.Pass.{Pass}
use Rattle.setup_access.specs.declared.pass.Pass.TheVariants as parts
use Rattle.slot_table.specs.declared.index_order.place.ProbeIndex.{ProbeIndex}
use Rattle.slot_table.specs.declared.index_order.place.ProbeIndex.TheVariants.{First, Second, Third}
use Rattle.setup_access.specs.declared.setup.Setup.{Setup}
use Rattle.setup_access.specs.declared.setup.Setup.TheVariants as setups
use Rattle.setup_access.specs.declared.stage.CheckStage.{CheckStage}
use Rattle.setup_access.specs.declared.stage.CheckStage.TheVariants as stages
use Rattle.setup_access.proofs.LeadsLemmas.{outcomes_followed}

-- the kind of an answer of which something holds
word_kind : (answer : Answer) (P : ℕ → Type 0) → OnWord answer P → IsWord answer
word_kind (answers.Word word) P h = tt
word_kind (answers.Flag flag) P h = absurd h
word_kind (answers.Halves setter finder) P h = absurd h
word_kind answers.Done P h = absurd h

flag_kind : (answer : Answer) (P : Bool → Type 0) → OnFlag answer P → IsFlag answer
flag_kind (answers.Word word) P h = absurd h
flag_kind (answers.Flag flag) P h = tt
flag_kind (answers.Halves setter finder) P h = absurd h
flag_kind answers.Done P h = absurd h

halves_kind : (answer : Answer) (P : Halves → Type 0) → OnHalves answer P → IsHalves answer
halves_kind (answers.Word word) P h = absurd h
halves_kind (answers.Flag flag) P h = absurd h
halves_kind (answers.Halves setter finder) P h = tt
halves_kind answers.Done P h = absurd h

find_goes : (s : Setting) (a : Access) (place : ProbeIndex) (records : List Record) (found : Option Watchpoint) (rest : List Record)
    → FindLeft s a (record { place = place }) records found rest → GoOn s.task (find_step s a (record { place = place })) records
find_goes s a First [] found rest h = h
find_goes s a Second [] found rest h = h
find_goes s a Third [] found rest h = h
find_goes s a First (first ∷ later) found rest h = (h.0, h.1, word_kind first.answer _ h.2)
find_goes s a Second (first ∷ later) found rest h = (h.0, h.1, word_kind first.answer _ h.2)
find_goes s a Third (first ∷ later) found rest h = (h.0, h.1, word_kind first.answer _ h.2)

found_goes : (s : Setting) (a : Access) (found : Found) (records : List Record) (outcome : Outcome) (rest : List Record)
    → FoundLeft s a found records outcome rest → GoOn s.task (found_step a found) records
found_goes s a (founds.TryConsume watchpoint) [] outcome rest h = h
found_goes s a (founds.HearSetter index tries) [] outcome rest h = h.2
found_goes s a (founds.Tell index setter) [] outcome rest h = h
found_goes s a (founds.TryConsume watchpoint) (first ∷ later) outcome rest h = (h.0, h.1, flag_kind first.answer _ h.2)
found_goes s a (founds.HearSetter index tries) (first ∷ later) outcome rest h = (h.2.0, h.2.1, halves_kind first.answer _ h.2.2)
found_goes s a (founds.Tell index setter) (first ∷ later) outcome rest h = (h.0, h.1, h.2.0)

setup_goes : (s : Setting) (a : Access) (setup : Setup) (records : List Record) (judged : Option Judged) (rest : List Record)
    → SetupLeft s a setup records judged rest → GoOn s.task (setup_step s a setup) records
setup_goes s a (setups.Insert First word) [] judged rest h = h.2
setup_goes s a (setups.Insert Second word) [] judged rest h = h.2
setup_goes s a (setups.Insert Third word) [] judged rest h = h.2
setup_goes s a (setups.Name index) [] judged rest h = h.1
setup_goes s a (setups.LoadOld index source) [] judged rest h = h.1.4
setup_goes s a (setups.LoadNew index source old) [] judged rest h = h.1.2
setup_goes s a (setups.Consume index values) [] judged rest h = h.1
setup_goes s a (setups.HearFinder index values tries) [] judged rest h = h.1.1
setup_goes s a (setups.Insert First word) (first ∷ later) judged rest h = (h.2.0, h.2.1, flag_kind first.answer _ h.2.2)
setup_goes s a (setups.Insert Second word) (first ∷ later) judged rest h = (h.2.0, h.2.1, flag_kind first.answer _ h.2.2)
setup_goes s a (setups.Insert Third word) (first ∷ later) judged rest h = (h.2.0, h.2.1, flag_kind first.answer _ h.2.2)
setup_goes s a (setups.Name index) (first ∷ later) judged rest h = (h.1.0, h.1.1, h.1.2.0)
setup_goes s a (setups.LoadOld index source) (first ∷ later) judged rest h = (h.1.4.0, h.1.4.1, word_kind first.answer _ h.1.4.2)
setup_goes s a (setups.LoadNew index source old) (first ∷ later) judged rest h = (h.1.2.0, h.1.2.1, word_kind first.answer _ h.1.2.2)
setup_goes s a (setups.Consume index values) (first ∷ later) judged rest h = (h.1.0, h.1.1, flag_kind first.answer _ h.1.2)
setup_goes s a (setups.HearFinder index values tries) (first ∷ later) judged rest h = (h.1.1.0, h.1.1.1, halves_kind first.answer _ h.1.1.2)

pass_goes : (s : Setting) (begun : Begun) (pass : Pass) (asked : ℕ) (records : List Record) (given : Given) (rest : List Record)
    → PassLeft s begun pass asked records given rest → GoOn s.task (pass_step s begun pass) records
pass_goes s begun (parts.Find find) asked records given rest h = find_goes s begun.access find.place records h.0 h.1 h.2
pass_goes s begun (parts.Found found) asked records given rest h = found_goes s begun.access found records h.0 rest h.1
pass_goes s begun (parts.Setup setup) asked records given rest h = setup_goes s begun.access setup records h.0 h.1 h.2
pass_goes s begun (parts.Clear index) asked [] given rest h = h.0
pass_goes s begun (parts.Remove index) asked [] given rest h = h.0
pass_goes s begun (parts.Clear index) asked (first ∷ later) given rest h = (h.0.0, h.0.1, h.0.2.0)
pass_goes s begun (parts.Remove index) asked (first ∷ later) given rest h = (h.0.0, h.0.1, h.0.2.0)

known_step : (a b : Step) → Some a ≡ Some b → a ≡ b
known_step a b e = cc

stage_goes : (s : Setting) (scopes : List Begun) (stage : CheckStage) (now : ℕ) (records : List Record) (more : Passes) (step : Step)
    → StageLeft s scopes stage now records more → stage_step s stage ≡ Some step → GoOn s.task step records
stage_goes s scopes stages.Rest now records more step h is = absurd (let no : None ≡ Some step = is in cc)
stage_goes s scopes (stages.Begin begun) now [] more step h is = h
stage_goes s scopes (stages.Begin begun) now (first ∷ later) more step h is =
    subst (λ x. GoOn s.task x (first ∷ later)) (known_step Clock step is) (h.0, h.1, word_kind first.answer _ h.2)
stage_goes s scopes (stages.Check role begun pass) now records more step h is =
    subst (λ x. GoOn s.task x records) (known_step (pass_step s begun pass) step is) (pass_goes s begun pass now records h.0 h.1 h.3)
stage_goes s scopes (stages.End scope) now [] more step h is = h.1
stage_goes s scopes (stages.End scope) now (first ∷ later) more step h is =
    subst (λ x. GoOn s.task x (first ∷ later)) (known_step Clock step is) (h.1.0, h.1.1, word_kind first.answer _ h.1.2)

-- whatever completes the records goes on with the step that the checker says
pub only_step : (s : Setting) (scopes : List Begun) (doing : Doing) (asked : ℕ) (records : List Record) (checker : Checker) (step : Step)
    → Leads s scopes doing asked records checker → stage_step s checker.stage ≡ Some step → OnlyStep s scopes doing asked records step
only_step s scopes doing asked records checker step leads is = λ later passes does.
    let left = (leads.left later passes).0 does in stage_goes s scopes checker.stage leads.now later left.0 step left.1 is

-- at rest the records are complete
pub complete_at_rest : (s : Setting) (scopes : List Begun) (doing : Doing) (asked : ℕ) (records : List Record) (checker : Checker)
    → Leads s scopes doing asked records checker → checker.stage ≡ stages.Rest → IsComplete s scopes doing asked records checker
complete_at_rest s scopes doing asked records checker leads rests =
    let none : Passes = record { outcomes = []; asked = leads.now } in
    let fallen : List Fallen = followed [] leads.fallen in
    let all : Passes = record { outcomes = fallen; asked = leads.now } in
    let rest_left : StageLeft s scopes checker.stage leads.now [] none = rw rests (refl, refl) in
    let outcomes : all ≡ record { outcomes = fallen ++ []; asked = leads.now } = ap (λ (o : List Fallen). record { outcomes = o; asked = leads.now }) (sym (append-nil fallen)) in
    record {
      now = leads.now;
      fallen = fallen;
      outcomes = leads.outcomes ∙ sym (outcomes_followed [] leads.fallen);
      does = rw append-nil at ((leads.left [] all).1 (none, rest_left, outcomes));
      ends = λ later passes does.
          let left = (leads.left later passes).0 does in
          let over : StageLeft s scopes stages.Rest leads.now later left.0 = rw rests at left.1 in
          sym over.1;
      rests = record { setting = leads.setting; in_force = leads.in_force; own = leads.own; samples = leads.samples; may_open = leads.last; stage = rests };
    }

-- where the records are all of what is done, the checker rests
rests_where_done : (s : Setting) (scopes : List Begun) (doing : Doing) (asked : ℕ) (records : List Record) (checker : Checker)
    → Leads s scopes doing asked records checker → IsDone s scopes doing asked records → (stage : CheckStage) → checker.stage ≡ stage → checker.stage ≡ stages.Rest
rests_where_done s scopes doing asked records checker leads done stage is = by_step (stage_step s checker.stage) refl
  where
    none_left : (step : Step) → stage_step s checker.stage ≡ Some step → ⊥
    none_left step says = only_step s scopes doing asked records checker step leads says [] done.0
        (subst (λ (r : List Record). Does s scopes doing asked r done.0) (sym (append-nil records)) done.1)

    at_rest : (there : CheckStage) → checker.stage ≡ there → stage_step s checker.stage ≡ None → checker.stage ≡ stages.Rest
    at_rest stages.Rest there none = there
    at_rest (stages.Begin begun) there none = absurd (let no : stage_step s (stages.Begin begun) ≡ None = subst (λ x. stage_step s x ≡ None) there none in cc)
    at_rest (stages.Check role begun pass) there none = absurd (let no : stage_step s (stages.Check role begun pass) ≡ None = subst (λ x. stage_step s x ≡ None) there none in cc)
    at_rest (stages.End scope) there none = absurd (let no : stage_step s (stages.End scope) ≡ None = subst (λ x. stage_step s x ≡ None) there none in cc)

    by_step : (says : Option Step) → stage_step s checker.stage ≡ says → checker.stage ≡ stages.Rest
    by_step None says = at_rest stage is says
    by_step (Some step) says = absurd (none_left step says)

-- so it has their outcomes
pub complete_where_done : (s : Setting) (scopes : List Begun) (doing : Doing) (asked : ℕ) (records : List Record) (checker : Checker)
    → Leads s scopes doing asked records checker → IsDone s scopes doing asked records → IsComplete s scopes doing asked records checker
complete_where_done s scopes doing asked records checker leads done =
    complete_at_rest s scopes doing asked records checker leads (rests_where_done s scopes doing asked records checker leads done checker.stage refl)

-- unless the records are stuck, there is no step exactly where they are over
pub over_where_none : (s : Setting) (scopes : List Begun) (doing : Doing) (asked : ℕ) (records : List Record) (checker : Checker) (stage : CheckStage)
    → Leads s scopes doing asked records checker → checker.stage ≡ stage → ¬ IsStuckBy s.rules.turns records
    → (IsNone (stage_step s stage) ↔ IsCheckOver s scopes doing asked records)
over_where_none s scopes doing asked records checker stage leads is going = (rest_over stage is, over_rest)
  where
    rest_over : (there : CheckStage) → checker.stage ≡ there → IsNone (stage_step s there) → IsCheckOver s scopes doing asked records
    rest_over stages.Rest there none = inl (let complete = complete_at_rest s scopes doing asked records checker leads there in (_, complete.does))
    rest_over (stages.Begin begun) there none = absurd (let no : true ≡ false = none in cc)
    rest_over (stages.Check role begun pass) there none = absurd (let no : true ≡ false = none in cc)
    rest_over (stages.End scope) there none = absurd (let no : true ≡ false = none in cc)

    over_rest : IsCheckOver s scopes doing asked records → IsNone (stage_step s stage)
    over_rest (inl done) =
        let rests : stage ≡ stages.Rest = sym is ∙ rests_where_done s scopes doing asked records checker leads done stage is in
        subst (λ x. IsNone (stage_step s x)) (sym rests) refl
    over_rest (inr stuck) = absurd (going stuck)

module _ (s : Setting) (scopes : List Begun) (checker : Checker) (result : Option Step) (is : result ≡ stage_step (setting_with checker.setting s.sites) checker.stage) where
  in_setting : setting_with checker.setting s.sites ≡ s → result ≡ stage_step s checker.stage
  in_setting setting = subst (λ (t : Setting). result ≡ stage_step t checker.stage) setting is

  -- the step that the checker's stage says is the only one
  pub only_next : (doing : Doing) (asked : ℕ) (records : List Record) → Leads s scopes doing asked records checker → IfSome result (OnlyStep s scopes doing asked records)
  only_next doing asked records leads = by_step result (in_setting leads.setting)
    where
      by_step : (says : Option Step) → says ≡ stage_step s checker.stage → IfSome says (OnlyStep s scopes doing asked records)
      by_step None there = tt
      by_step (Some step) there = only_step s scopes doing asked records checker step leads (sym there)

  -- there is none exactly where the records are over, unless they are stuck
  pub next_over : (doing : Doing) (asked : ℕ) (records : List Record) → Leads s scopes doing asked records checker → ¬ IsStuckBy s.rules.turns records → (IsNone result ↔ IsCheckOver s scopes doing asked records)
  next_over doing asked records leads going =
      rw (in_setting leads.setting) (over_where_none s scopes doing asked records checker checker.stage leads refl going)

  -- at rest there is none
  pub none_at_rest : (asked : ℕ) (last : Option Begun) → Rests s scopes asked last checker → IsNone result
  none_at_rest asked last rests = rw (in_setting rests.setting, rests.stage) refl
