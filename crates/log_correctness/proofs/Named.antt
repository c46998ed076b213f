-- Where a verdict falls, the ticket of its access is the last name of its task.
use Rattle.std.proofs.Common.{◌≡◌, ◌∙◌, ◌++◌, ◌∷◌, [], ℕ, All, Contains, List, Option, Some, ap, arith, length, map, refl, reverse, subst, sym, true}
use Rattle.std.proofs.lemmas.List.Elements.{All-contains, Contains-append_left, Contains-append_right}
use Rattle.access_types.specs.Ticket.{ticket_number}
use Rattle.executions.specs.execution.Run.{Run, first_cells, locks_of, task_setting}
use Rattle.executions.specs.execution.Execution.{Execution}
use Rattle.executions.specs.execution.Observed.{Armed, OutcomeAt, armed_by, came_next, made_by, outcome_at, outcomes_by, outcomes_of}
use Rattle.executions.proofs.execution.OwnLasts.{own_latest}
use Rattle.log_correctness.proofs.Naming.{last_name, watch_named}
use Rattle.log_correctness.proofs.OutcomesOfOwnTask.{AllOfTask}
use Rattle.log_correctness.proofs.Verdicts.{fell_own, same_end}
use Rattle.soundness.specs.Watches.{IfVerdict, IsOfWatch, is_verdict}
use Rattle.soundness.proofs.Lists.{SettledAt, settled_at}
use Rattle.setup_access.specs.Check.{Fallen}
use Rattle.slot_table.specs.Records.{records_of}
use Rattle.slot_table.specs.declared.records.Record.{Record}
use Rattle.slot_table.proofs.Lists.{Keeps, keeps_before}
use Rattle.program_order.specs.Standing.{checks_of}

module _ (run : Run) (all : List Record) (list : Execution run all) where
  abbrev Rules : List Record → Type 0
  Rules records = Keeps run.rules.slots (locks_of run) (first_cells run) records

  rules_before : (later earlier : List Record) → Rules (later ++ earlier) → Rules earlier
  rules_before [] earlier kept = kept
  rules_before (latest ∷ later) earlier kept =
      rules_before later earlier (keeps_before run.rules.slots (locks_of run) (first_cells run) latest (later ++ earlier) kept)

  told_in_all : (later earlier : List Record) (came : OutcomeAt) → Contains (outcomes_by list earlier) came
      → Contains (outcomes_by list (later ++ earlier)) came
  told_in_all [] earlier came there = there
  told_in_all (latest ∷ later) earlier came there =
      Contains-append_left (outcomes_by list (later ++ earlier)) (came_next list latest (later ++ earlier)) came (told_in_all later earlier came there)

  -- at one of its records
  module _ (later : List Record) (latest : Record) (earlier : List Record) (is : all ≡ later ++ latest ∷ earlier) where
    abbrev task : ℕ
    task = latest.task

    abbrev own : List Record
    own = records_of task earlier

    abbrev with_it : List Record
    with_it = latest ∷ earlier

    pub rules_then : Rules all → Rules with_it
    rules_then rules = rules_before later with_it (subst Rules is rules)

    abbrev settled : SettledAt run all list latest earlier
    settled = settled_at run all list later latest earlier is

    abbrev arming : Option Armed
    arming = armed_by task with_it

    abbrev here : List Fallen
    here = settled.here

    -- what falls is told
    pub told_there : (fallen : Fallen) → here ≡ fallen ∷ [] → Contains (outcomes_of list) (outcome_at (length earlier) arming fallen)
    told_there fallen one =
        let came : OutcomeAt = outcome_at (length earlier) arming fallen in
        let next : came_next list latest earlier ≡ came ∷ [] = ap (λ (l : List Fallen). map (outcome_at (length earlier) arming) l) (settled.all ∙ one) in
        let now : Contains (outcomes_by list with_it) came =
        Contains-append_right (outcomes_by list earlier) (came_next list latest earlier) came
        (subst (λ (l : List OutcomeAt). Contains l came) (sym next) (0, omega arith, refl)) in
        subst (λ (r : List Record). Contains (outcomes_by list r) came) (sym is) (told_in_all later with_it came now)

    pub named_so : All (IfVerdict list) (outcomes_of list) → (fallen : Fallen) → here ≡ fallen ∷ [] → is_verdict fallen.outcome ≡ true
        → last_name (latest ∷ own) ≡ Some (ticket_number fallen.access)
    named_so watches fallen one verdict =
        let came : OutcomeAt = outcome_at (length earlier) arming fallen in
        let it : IsOfWatch list came = All-contains (IfVerdict list) (outcomes_of list) came watches (told_there fallen one) verdict in
        let of : fallen.access.task ≡ task =
        (subst (λ (l : List Fallen). AllOfTask task l) (settled.all ∙ one) (fell_own run all list task (made_by task earlier))).0 in
        let same : it.by_then ≡ with_it = same_end it.later it.by_then later with_it (sym it.split ∙ is) it.at in
        let mine : records_of task with_it ≡ latest ∷ own = own_latest task latest earlier refl in
        let own_is : latest ∷ own ≡ reverse it.watch ++ it.before =
        sym mine ∙ (ap (λ (t : ℕ). records_of t with_it) (sym of)
        ∙ (ap (λ (r : List Record). records_of fallen.access.task r) (sym same) ∙ it.own)) in
        ap last_name own_is
        ∙ watch_named (checks_of (task_setting run fallen.access.task)) fallen.access _ it.watch _ it.is_watch.sets_up it.before
