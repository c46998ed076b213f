-- What is known of an access under way, by its records.
use Rattle.std.proofs.Common.{◌≡◌, ◌↔◌, ◌∙◌, ◌++◌, ◌∷◌, [], ℕ, List, Option, None, Some, IfSome, IsSome, ap, append_assoc, inl, inr, refl, subst, sym}
use Rattle.std.proofs.lemmas.List.{append-nil}
use Rattle.access_run.specs.Access.{MakesAccess}
use Rattle.access_run.specs.Leads.{AccessIsComplete, AccessIsDone, AccessIsOver, AccessIsStuck, AccessOnlyStep, HasCell, IsChecked, IsStuckIn, Runs, StageLeads, WaitsTooLong, in_check, in_operation, same_effect}
use Rattle.access_run.specs.Moved.{moved}
use Rattle.access_run.specs.Whole.{IsWhole, NoneWhole}
use Rattle.access_run.specs.declared.stage.AccessStage.{AccessStage}
use Rattle.access_run.specs.declared.stage.AccessStage.TheVariants as stages
use Rattle.access_types.specs.Access.{Access}
use Rattle.access_run.specs.memory_operation.Leads as operations
use Rattle.access_run.specs.memory_operation.Effects.{nothing}
use Rattle.access_run.specs.memory_operation.Operations.{Operates, OperatesIn}
use Rattle.access_run.specs.declared.memory_operation.effect.Effect.{Effect}
use Rattle.access_run.specs.declared.memory_operation.operation.Operation.{Operation}
use Rattle.access_run.specs.declared.memory_operation.operation.Operation.TheVariants as kinds
use Rattle.access_run.specs.declared.memory_operation.run.OperationRun.{OperationRun}
use Rattle.access_run.proofs.memory_operation.Fronts.{framed}
use Rattle.setup_access.specs.Check.{Check, Fallen, Passes}
use Rattle.setup_access.specs.Checker.{Checks, StageLeft}
use Rattle.setup_access.specs.Fallen.{followed}
use Rattle.setup_access.specs.Leads as checks
use Rattle.setup_access.specs.Parts.{made}
use Rattle.setup_access.specs.Records.{MakesWord, OnWord}
use Rattle.setup_access.specs.Setting.{Setting}
use Rattle.setup_access.specs.Values.{source_of}
use Rattle.setup_access.specs.Waits.{IsStuckBy}
use Rattle.setup_access.specs.declared.begun.Begun.{Begun}
use Rattle.setup_access.specs.declared.checker.Checker.{Checker}
use Rattle.setup_access.specs.declared.source.Source.{Source}
use Rattle.setup_access.specs.declared.stage.CheckStage.TheVariants as check_stages
use Rattle.setup_access.proofs.LeadsLemmas.{outcomes_followed}
use Rattle.slot_table.specs.Answer.{IsWord}
use Rattle.slot_table.specs.declared.records.Record.{Record}
use Rattle.slot_table.specs.declared.step.Answer.{Answer}
use Rattle.slot_table.specs.declared.step.Answer.TheVariants as answers
use Rattle.slot_table.specs.declared.step.Step.{Step}
use Rattle.slot_table.specs.declared.step.Step.TheVariants.{Clock}
use Rattle.access_run.proofs.CheckFronts.{check, framed_checks, moved_twice, operates}
use Rattle.access_run.proofs.WholeLemmas.{Parts, none_more, split, whole_now}

abbrev passes_of : ℕ → List Fallen → Passes
passes_of asked outcomes = record { outcomes = outcomes; asked = asked }

-- where an option has something
pub if_map : {A : Type 0} (o : Option A) (P Q : A → Type 0) → ((x : A) → P x → Q x) → IfSome o P → IfSome o Q
if_map None P Q map h = tt
if_map (Some x) P Q map h = map x h

-- what goes on with a step goes on with it before more records too
goes_further : (task : ℕ) (step : Step) (records more : List Record) → checks.GoOn task step records → checks.GoOn task step (records ++ more)
goes_further task step [] more h = absurd h
goes_further task step (first ∷ later) more h = h

operation_goes : (task : ℕ) (step : Step) (records : List Record) → operations.GoesOn task step records → checks.GoOn task step records
operation_goes task step [] h = absurd h
operation_goes task step (first ∷ later) h = h

-- an answer that is a word, whichever
on_word : (answer : Answer) (P : Type 0) → IsWord answer → P → OnWord answer (λ stamp. P)
on_word (answers.Word word) P is p = p
on_word (answers.Flag flag) P is p = absurd is
on_word (answers.Halves setter finder) P is p = absurd is
on_word answers.Done P is p = absurd is

word_gives : (answer : Answer) (P : Type 0) → OnWord answer (λ stamp. P) → IsWord answer × P
word_gives (answers.Word word) P h = (tt, h)
word_gives (answers.Flag flag) P h = absurd h
word_gives (answers.Halves setter finder) P h = absurd h
word_gives answers.Done P h = absurd h

clock_goes : (task : ℕ) (records rest : List Record) → MakesWord task Clock (λ stamp later. rest ≡ later) records → checks.GoOn task Clock records
clock_goes task [] rest h = absurd h
clock_goes task (first ∷ later) rest h = (h.0, h.1, (word_gives first.answer (rest ≡ later) h.2).0)

-- an operation has records
no_operation : (task : ℕ) (a : Access) (source : Source) (operation : Operation) (effect : Effect) → ¬ OperatesIn task a source operation [] effect []
no_operation task a source kinds.Load effect h = h
no_operation task a source (kinds.Add amount) effect h = h
no_operation task a source (kinds.Change change) effect h = h

module _ (s : Setting) (scopes : List Begun) (begun : Begun) (asked : ℕ) where
  check_parts : Parts moved (Check s scopes begun asked)
  check_parts records passes rest h = (framed_checks (Check s scopes begun asked) (check s scopes begun asked) records passes rest).0 h

  pub check_joined : (part later : List Record) (passes : Passes) → Check s scopes begun asked part passes [] → Check s scopes begun asked (part ++ later) (moved later passes) later
  check_joined part later passes h =
      (framed_checks (Check s scopes begun asked) (check s scopes begun asked) (part ++ later) (moved later passes) later).1 (part, passes, h, refl, refl)

  -- an access has made no step
  pub nothing_checked : NoneWhole (Check s scopes begun asked) []
  nothing_checked [] later passes e h = h.2
  nothing_checked (one ∷ part) later passes e h = absurd (let no : [] ≡ one ∷ (part ++ later) = e in cc)

  -- while the check isn't over
  pub still_checked : (records : List Record) (last : Record) → NoneWhole (Check s scopes begun asked) records
      → ¬ checks.IsDone s scopes (Checks begun) asked (records ++ last ∷ []) → NoneWhole (Check s scopes begun asked) (records ++ last ∷ [])
  still_checked records last none going = none_more moved (Check s scopes begun asked) records last none (λ passes h. going (passes, h))

  -- the checker rests: nothing goes on with the records, and they come to the same
  alone_at_rest : (records : List Record) (checker : Checker) (leads : checks.Leads s scopes (Checks begun) asked records checker)
      → checker.stage ≡ check_stages.Rest → (more : List Record) (other : Passes) → Check s scopes begun asked (records ++ more) other []
      → (more ≡ []) × (other ≡ passes_of leads.now (followed [] leads.fallen ++ []))
  alone_at_rest records checker leads rests more other h =
      let left = (leads.left more other).0 h in
      let over : StageLeft s scopes check_stages.Rest leads.now more left.0 = subst (λ x. StageLeft s scopes x leads.now more left.0) rests left.1 in (
        sym over.1,
        left.2 ∙ (ap (λ (m : Passes). passes_of m.asked (followed more leads.fallen ++ m.outcomes)) over.0
            ∙ ap (λ r. passes_of leads.now (followed r leads.fallen ++ [])) (sym over.1)),
      )

  pub checked_now : (records : List Record) (last : Record) (checker : Checker) → checks.Leads s scopes (Checks begun) asked (records ++ last ∷ []) checker
      → NoneWhole (Check s scopes begun asked) records → checks.IsComplete s scopes (Checks begun) asked (records ++ last ∷ []) checker
      → IsChecked s scopes begun asked (records ++ last ∷ []) checker
  checked_now records last checker leads none complete = record {
    now = complete.now;
    fallen = complete.fallen;
    outcomes = complete.outcomes;
    whole = whole_now moved (Check s scopes begun asked) check_parts records last all none complete.does
        (λ more other h. let there = alone more other h in (there.0, there.1 ∙ sym here));
    rests = complete.rests;
  }
    where
      now : List Record
      now = records ++ last ∷ []

      all : Passes
      all = passes_of complete.now complete.fallen

      alone : (more : List Record) (other : Passes) → Check s scopes begun asked (now ++ more) other []
          → (more ≡ []) × (other ≡ passes_of leads.now (followed [] leads.fallen ++ []))
      alone = alone_at_rest now checker leads complete.rests.stage

      here : all ≡ passes_of leads.now (followed [] leads.fallen ++ [])
      here = (alone [] all (subst (λ r. Check s scopes begun asked r all []) (sym (append-nil now)) complete.does)).1

module _ (s : Setting) (a : Access) where
  operates_parts : (operation : Option Operation) → Parts same_effect (Operates s a operation)
  operates_parts operation records effect rest h =
      let own = (framed (λ r l. Operates s a operation r effect l) (operates s a operation effect) records rest).0 h in
      (own.0, effect, own.1, own.2, refl)

  pub operates_joined : (operation : Option Operation) (part later : List Record) (effect : Effect) → Operates s a operation part effect []
      → Operates s a operation (part ++ later) effect later
  operates_joined operation part later effect h =
      (framed (λ r l. Operates s a operation r effect l) (operates s a operation effect) (part ++ later) later).1 (part, h, refl)

  one_source : (first second : Source) → source_of s a ≡ Some first → source_of s a ≡ Some second → second ≡ first
  one_source first second is there = let same : Some first ≡ Some second = sym is ∙ there in cc

  in_source : (operation : Operation) (source : Source) → source_of s a ≡ Some source → (records : List Record) (effect : Effect) (rest : List Record)
      → Operates s a (Some operation) records effect rest → OperatesIn s.task a source operation records effect rest
  in_source operation source is records effect rest h =
      subst (λ (x : Source). OperatesIn s.task a x operation records effect rest) (one_source source h.0 is h.1) h.2

  -- an access without an operation has made it
  pub nothing_operated : IsWhole same_effect (Operates s a None) [] nothing
  nothing_operated = ((refl, refl), λ later other rest h. (h.1, h.0))

  -- one with an operation has it before it
  pub not_operated : (operation : Option Operation) (run : OperationRun) → Runs s a operation [] run → NoneWhole (Operates s a operation) []
  not_operated None run runs = absurd runs
  not_operated (Some operation) run runs = none
    where
      none : NoneWhole (Operates s a (Some operation)) []
      none [] later effect e h = no_operation s.task a h.0 operation effect h.2
      none (one ∷ part) later effect e h = absurd (let no : [] ≡ one ∷ (part ++ later) = e in cc)

  -- while it isn't over
  pub still_operates : (operation : Option Operation) (done : List Record) (last : Record) (run : OperationRun) → NoneWhole (Operates s a operation) done
      → Runs s a operation (done ++ last ∷ []) run
      → ((source : Source) (of : Operation) → operations.Leads s.task a source of (done ++ last ∷ []) run → ¬ operations.IsDone s.task a source of (done ++ last ∷ []))
      → NoneWhole (Operates s a operation) (done ++ last ∷ [])
  still_operates None done last run none runs going = absurd runs
  still_operates (Some operation) done last run none runs going =
      none_more same_effect (Operates s a (Some operation)) done last none
      (λ effect h. going runs.0 operation runs.2 (effect, in_source operation runs.0 runs.1 (done ++ last ∷ []) effect [] h))

  pub operated_now : (operation : Option Operation) (done : List Record) (last : Record) (run : OperationRun) (effect : Effect) → NoneWhole (Operates s a operation) done
      → Runs s a operation (done ++ last ∷ []) run
      → ((source : Source) (of : Operation) → operations.Leads s.task a source of (done ++ last ∷ []) run → operations.IsComplete s.task a source of (done ++ last ∷ []) effect)
      → IsWhole same_effect (Operates s a operation) (done ++ last ∷ []) effect
  operated_now None done last run effect none runs complete = absurd runs
  operated_now (Some operation) done last run effect none runs complete =
      let all = complete runs.0 operation runs.2 in
      whole_now same_effect (Operates s a (Some operation)) (operates_parts (Some operation)) done last effect none (runs.0, runs.1, all.operates)
      (λ more other h. all.alone more other (in_source operation runs.0 runs.1 ((done ++ last ∷ []) ++ more) other [] h))

module _ (s : Setting) (scopes : List Begun) (begun : Begun) (asked : ℕ) (operation : Option Operation) where
  -- in its check the access isn't done
  checking : (records : List Record) → NoneWhole (Check s scopes begun asked) records → ¬ AccessIsDone s scopes begun asked operation records
  checking records none done =
      let part = check_parts s scopes begun asked records done.0 done.2.checked done.2.check in
      none part.0 done.2.checked part.1 part.3 part.2

  pub check_going : (records : List Record) (checker : Checker) (run : Option OperationRun) → StageLeads s scopes begun asked operation records (stages.Check run) checker
      → ¬ AccessIsDone s scopes begun asked operation records
  check_going records checker run leads = checking records leads.1

  check_waits : (records : List Record) → NoneWhole (Check s scopes begun asked) records → WaitsTooLong s scopes begun asked operation records
      → IsStuckBy s.rules.turns records
  check_waits records none (in_check going stuck) = stuck
  check_waits records none (in_operation checked done passes is whole stuck) = absurd (none checked done passes is whole)

  pub check_stuck : (records : List Record) (checker : Checker) (run : Option OperationRun) → StageLeads s scopes begun asked operation records (stages.Check run) checker
      → IsStuckBy s.rules.turns records ↔ AccessIsStuck s scopes begun asked operation records
  check_stuck records checker run leads =
      (λ stuck. record { going = checking records leads.1; waits = in_check leads.1 stuck }, λ stuck. check_waits records leads.1 stuck.waits)

  pub check_over : (records : List Record) (checker : Checker) (run : Option OperationRun) → StageLeads s scopes begun asked operation records (stages.Check run) checker
      → checks.IsCheckOver s scopes (Checks begun) asked records ↔ AccessIsOver s scopes begun asked operation records
  check_over records checker run leads = (to, from)
    where
      to : checks.IsCheckOver s scopes (Checks begun) asked records → AccessIsOver s scopes begun asked operation records
      to (inl done) = absurd (leads.1 records [] done.0 (sym (append-nil records)) done.1)
      to (inr stuck) = inr ((check_stuck records checker run leads).0 stuck)

      from : AccessIsOver s scopes begun asked operation records → checks.IsCheckOver s scopes (Checks begun) asked records
      from (inl done) = absurd (checking records leads.1 done)
      from (inr stuck) = inr ((check_stuck records checker run leads).1 stuck)

  pub check_only : (records : List Record) (checker : Checker) (run : Option OperationRun) → StageLeads s scopes begun asked operation records (stages.Check run) checker
      → (step : Step) → checks.OnlyStep s scopes (Checks begun) asked records step → AccessOnlyStep s scopes begun asked operation records step
  check_only records checker run leads step only = λ later passes effect rest makes.
      let part = check_parts s scopes begun asked (records ++ later) passes makes.checked makes.check in
      elim (split records later part.0 makes.checked part.3) [
        | inl less ↦ absurd (leads.1 part.0 less.0 part.1 less.1 part.2)
        | inr more ↦
            subst (λ r. checks.GoOn s.task step r) (sym more.2)
            (goes_further s.task step more.0 makes.checked
            (only more.0 part.1 (subst (λ r. Check s scopes begun asked r part.1 []) more.1 part.2)))
      ]

  -- after the check: what is left of a list that begins with the access, and its check's outcomes
  after : (records checked done later : List Record) (checker : Checker) (passes : Passes) (effect : Effect) (rest : List Record) → records ≡ checked ++ done
      → (whole : IsChecked s scopes begun asked checked checker) (makes : MakesAccess s scopes begun asked operation (records ++ later) passes effect rest)
      → Operates s begun.access operation (done ++ later) effect makes.done
      × (passes ≡ moved (done ++ later) (passes_of whole.now whole.fallen))
  after records checked done later checker passes effect rest is whole makes =
      let joined : records ++ later ≡ checked ++ (done ++ later) = ap (λ r. r ++ later) is ∙ append_assoc checked done later in
      let own = whole.whole.1 (done ++ later) passes makes.checked (subst (λ r. Check s scopes begun asked r passes makes.checked) joined makes.check) in (
        subst (λ r. Operates s begun.access operation r effect makes.done) own.0 makes.operates,
        own.1 ∙ ap (λ r. moved r (passes_of whole.now whole.fallen)) own.0,
      )

  -- the same where nothing follows
  after_all : (records checked done : List Record) (checker : Checker) (passes : Passes) (effect : Effect) (rest : List Record) → records ≡ checked ++ done
      → IsChecked s scopes begun asked checked checker → (makes : MakesAccess s scopes begun asked operation records passes effect rest)
      → Operates s begun.access operation done effect makes.done
  after_all records checked done checker passes effect rest is whole makes =
      let own = whole.whole.1 done passes makes.checked (subst (λ r. Check s scopes begun asked r passes makes.checked) is makes.check) in
      subst (λ r. Operates s begun.access operation r effect makes.done) own.0 makes.operates

  same_done : (records checked done part rest : List Record) (checker : Checker) (passes : Passes) → records ≡ checked ++ done → IsChecked s scopes begun asked checked checker
      → records ≡ part ++ rest → Check s scopes begun asked part passes [] → rest ≡ done
  same_done records checked done part rest checker passes is whole is_part h =
      (whole.whole.1 done (moved rest passes) rest
      (subst (λ r. Check s scopes begun asked r (moved rest passes) rest) (sym is_part ∙ is) (check_joined s scopes begun asked part rest passes h))).0

  waits_in : (records checked done : List Record) (checker : Checker) → records ≡ checked ++ done → IsChecked s scopes begun asked checked checker
      → WaitsTooLong s scopes begun asked operation records → IsStuckIn s begun.access operation done
  waits_in records checked done checker is whole (in_check none stuck) = absurd (none checked done (passes_of whole.now whole.fallen) is whole.whole.0)
  waits_in records checked done checker is whole (in_operation part rest passes is_part check stuck) =
      subst (λ r. IsStuckIn s begun.access operation r) (same_done records checked done part rest checker passes is whole is_part check) stuck

  pub operate_going : (records : List Record) (checker : Checker) (run : OperationRun) → StageLeads s scopes begun asked operation records (stages.Operate run) checker
      → ¬ AccessIsDone s scopes begun asked operation records
  operate_going records checker run leads done =
      let part = operates_parts s begun.access operation leads.1 done.1 done.2.done (after_all records leads.0 leads.1 checker done.0 done.1 [] leads.2 leads.3 done.2) in
      leads.4 part.0 done.2.done part.1 part.3 part.2

  pub operate_stuck : (records : List Record) (checker : Checker) (run : OperationRun)
      → (leads : StageLeads s scopes begun asked operation records (stages.Operate run) checker) → (IsStuckIn s begun.access operation leads.1 ↔ AccessIsStuck s scopes begun asked operation records)
  operate_stuck records checker run leads = (
    λ stuck. record {
      going = operate_going records checker run leads;
      waits = in_operation leads.0 leads.1 (passes_of leads.3.now leads.3.fallen) leads.2 leads.3.whole.0 stuck;
    },
    λ stuck. waits_in records leads.0 leads.1 checker leads.2 leads.3 stuck.waits,
  )

  pub operate_only : (records : List Record) (checker : Checker) (run : OperationRun) → StageLeads s scopes begun asked operation records (stages.Operate run) checker
      → (step : Step) → ((source : Source) (of : Operation) (done : List Record) → operations.Leads s.task begun.access source of done run → operations.OnlyStep s.task begun.access source of done step)
      → AccessOnlyStep s scopes begun asked operation records step
  operate_only records checker run leads step only = λ later passes effect rest makes.
      let own = after records leads.0 leads.1 later checker passes effect rest leads.2 leads.3 makes in
      let part = operates_parts s begun.access operation (leads.1 ++ later) effect makes.done own.0 in
      elim (split leads.1 later part.0 makes.done part.3) [
        | inl less ↦ absurd (leads.4 part.0 less.0 part.1 less.1 part.2)
        | inr more ↦
            subst (λ r. checks.GoOn s.task step r) (sym more.2)
            (goes_further s.task step more.0 makes.done
            (operation_goes s.task step more.0
            (operation_only operation run leads.1 leads.5 step only more.0 part.1
            (subst (λ r. Operates s begun.access operation r part.1 []) more.1 part.2))))
      ]
    where
      operation_only : (kind : Option Operation) (now : OperationRun) (done : List Record) → Runs s begun.access kind done now → (says : Step)
          → ((source : Source) (of : Operation) (made : List Record) → operations.Leads s.task begun.access source of made now → operations.OnlyStep s.task begun.access source of made says)
          → (more : List Record) (effect : Effect) → Operates s begun.access kind (done ++ more) effect [] → operations.GoesOn s.task says more
      operation_only None now done runs says only more effect h = absurd runs
      operation_only (Some of) now done runs says only more effect h =
          only runs.0 of done runs.2 more effect (in_source s begun.access of runs.0 runs.1 (done ++ more) effect [] h)

  pub operate_only_if : (records : List Record) (checker : Checker) (run : OperationRun) → StageLeads s scopes begun asked operation records (stages.Operate run) checker
      → (says : Option Step)
      → ((source : Source) (of : Operation) (done : List Record) → operations.Leads s.task begun.access source of done run → IfSome says (operations.OnlyStep s.task begun.access source of done))
      → IfSome says (AccessOnlyStep s scopes begun asked operation records)
  operate_only_if records checker run leads None only = tt
  operate_only_if records checker run leads (Some step) only = operate_only records checker run leads step only

  pub end_going : (records : List Record) (checker : Checker) (effect : Effect) → StageLeads s scopes begun asked operation records (stages.End effect) checker
      → ¬ AccessIsDone s scopes begun asked operation records
  end_going records checker effect leads done =
      let operated = after_all records leads.0 leads.1 checker done.0 done.1 [] leads.2 leads.3 done.2 in
      let over = leads.4.1 [] done.1 done.2.done (subst (λ r. Operates s begun.access operation r done.1 done.2.done) (sym (append-nil leads.1)) operated) in
      clock_goes s.task [] [] (subst (λ r. MakesWord s.task Clock (λ stamp later. [] ≡ later) r) over.0 done.2.ends)

  pub end_not_stuck : (records : List Record) (checker : Checker) (effect : Effect) → StageLeads s scopes begun asked operation records (stages.End effect) checker
      → ¬ AccessIsStuck s scopes begun asked operation records
  end_not_stuck records checker effect leads stuck =
      never operation leads.4.0 (waits_in records leads.0 leads.1 checker leads.2 leads.3 stuck.waits)
    where
      never : (kind : Option Operation) → Operates s begun.access kind leads.1 effect [] → ¬ IsStuckIn s begun.access kind leads.1
      never None whole waits = waits
      never (Some of) whole waits = waits.2.0 (effect, in_source s begun.access of waits.0 waits.1 leads.1 effect [] whole)

  pub end_only : (records : List Record) (checker : Checker) (effect : Effect) → StageLeads s scopes begun asked operation records (stages.End effect) checker
      → AccessOnlyStep s scopes begun asked operation records Clock
  end_only records checker effect leads = λ later passes other rest makes.
      let own = after records leads.0 leads.1 later checker passes other rest leads.2 leads.3 makes in
      let over = leads.4.1 later other makes.done own.0 in
      clock_goes s.task later rest (subst (λ r. MakesWord s.task Clock (λ stamp more. rest ≡ more) r) over.0 makes.ends)

  -- the clock gives the stamp of the end
  pub ended : (records : List Record) (checker : Checker) (effect : Effect) (answer : Answer) → StageLeads s scopes begun asked operation records (stages.End effect) checker
      → IsWord answer → AccessIsComplete s scopes begun asked operation (records ++ made s.task Clock answer ∷ []) effect checker
  ended records checker effect answer leads word = record {
    now = leads.3.now;
    fallen = followed left leads.3.fallen;
    outcomes = leads.3.outcomes ∙ sym (outcomes_followed left leads.3.fallen);
    makes = record {
      checked = left;
      done = last ∷ [];
      check = subst (λ r. Check s scopes begun asked r (moved left all) left) (sym joined) (check_joined s scopes begun asked leads.0 left all leads.3.whole.0);
      operates = operates_joined s begun.access operation leads.1 (last ∷ []) effect leads.4.0;
      ends = (refl, refl, on_word answer ([] ≡ []) word refl);
    };
    alone = alone;
    rests = leads.3.rests;
  }
    where
      last : Record
      last = made s.task Clock answer

      left : List Record
      left = leads.1 ++ last ∷ []

      all : Passes
      all = passes_of leads.3.now leads.3.fallen

      joined : records ++ last ∷ [] ≡ leads.0 ++ left
      joined = ap (λ r. r ++ last ∷ []) leads.2 ∙ append_assoc leads.0 leads.1 (last ∷ [])

      alone : (later : List Record) (passes : Passes) (other : Effect) (rest : List Record)
          → (whole : MakesAccess s scopes begun asked operation ((records ++ last ∷ []) ++ later) passes other rest)
          → (rest ≡ later) × (passes ≡ moved rest (moved left all)) × (other ≡ effect) × (whole.checked ≡ left ++ later) × (whole.done ≡ last ∷ later)
      alone later passes other rest makes =
          let on : (records ++ last ∷ []) ++ later ≡ leads.0 ++ (left ++ later) =
          ap (λ r. r ++ later) joined ∙ append_assoc leads.0 left later in
          let check_ends : makes.checked ≡ left ++ later = (leads.3.whole.1 (left ++ later) passes makes.checked
          (subst (λ r. Check s scopes begun asked r passes makes.checked) on makes.check)).0 in
          let own = after (records ++ last ∷ []) leads.0 left later checker passes other rest joined leads.3 makes in
          let operated = leads.4.1 (last ∷ later) other makes.done
          (subst (λ r. Operates s begun.access operation r other makes.done) (append_assoc leads.1 (last ∷ []) later) own.0) in
          let over : rest ≡ later = (word_gives answer (rest ≡ later)
          (subst (λ r. MakesWord s.task Clock (λ stamp more. rest ≡ more) r) operated.0 makes.ends).2).1 in
          (over, own.1 ∙ (ap (λ r. moved (left ++ r) all) (sym over) ∙ sym (moved_twice left rest all)), operated.1, check_ends, operated.0)

  pub over_done : (records : List Record) (checker : Checker) (effect : Effect) → StageLeads s scopes begun asked operation records (stages.Over effect) checker
      → AccessIsDone s scopes begun asked operation records
  over_done records checker effect leads = (passes_of leads.now leads.fallen, effect, leads.makes)

  -- only at that stage is it done
  pub over_where_done : (records : List Record) (checker : Checker) (stage : AccessStage) → StageLeads s scopes begun asked operation records stage checker
      → AccessIsDone s scopes begun asked operation records → (effect : Effect) × (stage ≡ stages.Over effect)
  over_where_done records checker (stages.Check run) leads done = absurd (check_going records checker run leads done)
  over_where_done records checker (stages.Operate run) leads done = absurd (operate_going records checker run leads done)
  over_where_done records checker (stages.End effect) leads done = absurd (end_going records checker effect leads done)
  over_where_done records checker (stages.Over effect) leads done = (effect, refl)

  -- where the operation is stuck, and where it is over or stuck
  pub run_stuck : (records : List Record) (checker : Checker) (run : OperationRun) (turns : ℕ) (Says : Type 0) → StageLeads s scopes begun asked operation records (stages.Operate run) checker
      → turns ≡ s.rules.turns
      → ((source : Source) (of : Operation) (done : List Record) → operations.Leads s.task begun.access source of done run → Says ↔ operations.IsStuck turns s.task begun.access source of done)
      → Says ↔ AccessIsStuck s scopes begun asked operation records
  run_stuck records checker run turns Says leads turns_is says =
      let own = of_operation operation leads.1 leads.5 in
      let all = operate_stuck records checker run leads in
      (λ h. all.0 (own.0 h), λ stuck. own.1 (all.1 stuck))
    where
      of_operation : (kind : Option Operation) (done : List Record) → Runs s begun.access kind done run → Says ↔ IsStuckIn s begun.access kind done
      of_operation None done runs = absurd runs
      of_operation (Some of) done runs =
          let here : Says ↔ operations.IsStuck s.rules.turns s.task begun.access runs.0 of done =
          subst (λ n. Says ↔ operations.IsStuck n s.task begun.access runs.0 of done) turns_is (says runs.0 of done runs.2) in (
            λ h. (runs.0, runs.1, here.0 h),
            λ stuck. here.1 (subst (λ (x : Source). operations.IsStuck s.rules.turns s.task begun.access x of done) (one_source s begun.access runs.0 stuck.0 runs.1 stuck.1) stuck.2),
          )

  pub run_over : (records : List Record) (checker : Checker) (run : OperationRun) (turns : ℕ) (Says : Type 0) → StageLeads s scopes begun asked operation records (stages.Operate run) checker
      → turns ≡ s.rules.turns
      → ((source : Source) (of : Operation) (done : List Record) → operations.Leads s.task begun.access source of done run → Says ↔ operations.IsOperationOver turns s.task begun.access source of done)
      → Says ↔ AccessIsOver s scopes begun asked operation records
  run_over records checker run turns Says leads turns_is says =
      let own = of_operation operation leads.1 leads.5 leads.4 in
      let all = operate_stuck records checker run leads in (
        λ h. inr (all.0 (own.0 h)),
        λ h. elim h [
          | inl done ↦ absurd (operate_going records checker run leads done)
          | inr stuck ↦ own.1 (all.1 stuck)
        ],
      )
    where
      of_operation : (kind : Option Operation) (done : List Record) → Runs s begun.access kind done run → NoneWhole (Operates s begun.access kind) done
          → Says ↔ IsStuckIn s begun.access kind done
      of_operation None done runs none = absurd runs
      of_operation (Some of) done runs none =
          let here : Says ↔ operations.IsOperationOver s.rules.turns s.task begun.access runs.0 of done =
          subst (λ n. Says ↔ operations.IsOperationOver n s.task begun.access runs.0 of done) turns_is (says runs.0 of done runs.2) in (
            λ h. elim (here.0 h) [
              | inl all ↦ absurd (none done [] all.0 (sym (append-nil done)) (runs.0, runs.1, all.1))
              | inr stuck ↦ (runs.0, runs.1, stuck)
            ],
            λ stuck. here.1 (inr (subst (λ (x : Source). operations.IsStuck s.rules.turns s.task begun.access x of done) (one_source s begun.access runs.0 stuck.0 runs.1 stuck.1) stuck.2)),
          )

  -- at the end no step is missing but the clock's
  pub end_over : (records : List Record) (checker : Checker) (effect : Effect) → StageLeads s scopes begun asked operation records (stages.End effect) checker
      → ¬ AccessIsOver s scopes begun asked operation records
  end_over records checker effect leads over = elim over [
    | inl done ↦ end_going records checker effect leads done
    | inr stuck ↦ end_not_stuck records checker effect leads stuck
  ]

-- an answer of the operation's step
pub run_on : (s : Setting) (a : Access) (operation : Option Operation) (done : List Record) (last : Record) (old new : OperationRun) → Runs s a operation done old
    → ((source : Source) (of : Operation) → operations.Leads s.task a source of done old → operations.Leads s.task a source of (done ++ last ∷ []) new)
    → Runs s a operation (done ++ last ∷ []) new
run_on s a None done last old new runs on = absurd runs
run_on s a (Some operation) done last old new runs on = (runs.0, runs.1, on runs.0 operation runs.2)

-- one record more of what follows on the check
pub one_more : (records checked done : List Record) (last : Record) → records ≡ checked ++ done → records ++ last ∷ [] ≡ checked ++ (done ++ last ∷ [])
one_more records checked done last is = ap (λ r. r ++ last ∷ []) is ∙ append_assoc checked done (last ∷ [])

-- an operation is held ready only in a cell
pub ready_run : (s : Setting) (a : Access) (operation : Option Operation) (of : Operation) (source : Source) (run : OperationRun) → operation ≡ Some of → source_of s a ≡ Some source
    → operations.Leads s.task a source of [] run → Runs s a operation [] run
ready_run s a operation of source run is found leads = subst (λ o. Runs s a o [] run) (sym is) (source, found, leads)

pub never_ready : (s : Setting) (a : Access) (operation : Option Operation) (of : Operation) → operation ≡ Some of → source_of s a ≡ None → ¬ HasCell s a operation
never_ready s a operation of is none has =
    let some : IsSome (source_of s a) = subst (λ o. HasCell s a o) is has in
    let never : IsSome {T = Source} None = subst (λ (o : Option Source). IsSome o) none some in cc
