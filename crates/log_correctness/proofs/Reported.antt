-- What is reported at a task's record is of a watchpoint of the task.
use Rattle.std.proofs.Common.{◌≡◌, ◌≢◌, ◌∙◌, ◌≤◌, ◌++◌, ◌∷◌, [], inl, inr, ℕ, All, Bool, true, List, None, Option, Some, ap, append_assoc, arith, cond, length, map, refl, subst, sym, unwrap_or}
use Rattle.std.specs.List.{cons_option, filter_map}
use Rattle.std.specs.Option.{option_or, option_to_list}
use Rattle.std.proofs.lemmas.Bool.{eq-eqb, ne_eqb}
use Rattle.std.proofs.lemmas.Bool.Decides.{eqb_tells}
use Rattle.std.proofs.lemmas.List.{append-nil}
use Rattle.std.proofs.lemmas.List.Elements.{All-contains, filter-append, filter_map-append}
use Rattle.access_types.specs.Ticket.{task_in, ticket_number}
use Rattle.access_types.specs.declared.report.Report.{Report}
use Rattle.access_types.specs.declared.report.Report.TheVariants as reports
use Rattle.executions.specs.execution.Answers.{AnswersTaking, IfAnswer, IsOfPair, is_answer}
use Rattle.executions.specs.execution.Reports as lists
use Rattle.executions.specs.execution.Run.{Run, first_cells, locks_of}
use Rattle.executions.specs.execution.Execution.{Execution}
use Rattle.executions.specs.execution.Observed.{Armed, OutcomeAt, armed_by, came_next, made_by, outcome_at, outcomes_by, outcomes_of}
use Rattle.executions.proofs.execution.OwnLasts.{own_latest}
use Rattle.log_correctness.specs.Noted.{AreNoted, IsNoted, Notes}
use Rattle.log_correctness.proofs.Naming.{last_name, names_noted}
use Rattle.log_correctness.proofs.Named.{named_so, rules_then, told_there}
use Rattle.log_correctness.specs.Setters.{is_by, reports_by, setter_of}
use Rattle.soundness.specs.Settles.{Settles}
use Rattle.soundness.specs.Watches.{IfVerdict, is_verdict}
use Rattle.soundness.proofs.Falls.{outcomes_in}
use Rattle.soundness.proofs.Lists.{SettledAt, settled_at}
use Rattle.setup_access.specs.Check.{Fallen}
use Rattle.setup_access.specs.declared.outcome.Outcome.{Outcome}
use Rattle.setup_access.specs.declared.outcome.Outcome.TheVariants as outcomes
use Rattle.slot.specs.Pair.{Halves}
use Rattle.slot_table.specs.Discipline.{Allows, Discipline, in_hand}
use Rattle.slot_table.specs.Records.{records_of}
use Rattle.slot_table.specs.declared.discipline.InHand.{InHand}
use Rattle.slot_table.specs.declared.records.Record.{Record}
use Rattle.slot_table.specs.declared.step.Answer.{Answer}
use Rattle.slot_table.specs.declared.step.Step.{Step}
use Rattle.slot_table.specs.declared.step.Step.TheVariants as steps
use Rattle.slot_table.proofs.Lists.{Keeps}
use Rattle.slot_table.proofs.Moves.{some_same}
use Rattle.task_log.specs.Arms.{setter_named}
use Rattle.task_log.specs.Noted.{named_by}
use Rattle.task_log.specs.Reports as logs
use Rattle.task_log.specs.Reports.{reported_in}
use Rattle.task_log.specs.declared.noted.Noted.{Noted}
use Rattle.program_order.specs.TaskObserved.{fell_next}

-- a task's last name is a ticket of its own
named_now : (task : ℕ) (own : List Record) (step : Step) (ticket : ℕ) → Allows task own step
    → ((its : ℕ) → last_name own ≡ Some its → task_in its ≡ task) → option_or (named_by step) (last_name own) ≡ Some ticket
    → task_in ticket ≡ task
named_now task own (steps.Name index its) ticket allows before is = ap task_in (sym (some_same is)) ∙ allows.0.1
named_now task own (steps.Load index) ticket allows before is = before ticket is
named_now task own (steps.Insert index word) ticket allows before is = before ticket is
named_now task own (steps.TryConsume index word) ticket allows before is = before ticket is
named_now task own (steps.Consume index) ticket allows before is = before ticket is
named_now task own (steps.Remove index) ticket allows before is = before ticket is
named_now task own (steps.PairLoad index) ticket allows before is = before ticket is
named_now task own (steps.Tell index told) ticket allows before is = before ticket is
named_now task own (steps.Clear index) ticket allows before is = before ticket is
named_now task own (steps.CellLoad cell) ticket allows before is = before ticket is
named_now task own (steps.CellExchange cell expected new) ticket allows before is = before ticket is
named_now task own (steps.LockTry lock holder) ticket allows before is = before ticket is
named_now task own (steps.LockStore lock) ticket allows before is = before ticket is
named_now task own steps.Clock ticket allows before is = before ticket is

own_name : (task : ℕ) (own : List Record) → Discipline task own → (ticket : ℕ) → last_name own ≡ Some ticket → task_in ticket ≡ task
own_name task [] keeps ticket is = absurd (let no : None ≡ Some ticket = is in cc)
own_name task (latest ∷ earlier) keeps ticket is = named_now task earlier latest.step ticket keeps.1 (own_name task earlier keeps.0) is

-- a naming settles nothing
unnamed : (step : Step) (answer : Answer) (hand : Option InHand) (outcome : Outcome) → Settles hand step answer (outcome ∷ [])
    → named_by step ≡ None
unnamed (steps.Name index ticket) answer hand outcome settles = absurd (let no : outcome ∷ [] ≡ [] = settles in cc)
unnamed (steps.Load index) answer hand outcome settles = refl
unnamed (steps.Insert index word) answer hand outcome settles = refl
unnamed (steps.TryConsume index word) answer hand outcome settles = refl
unnamed (steps.Consume index) answer hand outcome settles = refl
unnamed (steps.Remove index) answer hand outcome settles = refl
unnamed (steps.PairLoad index) answer hand outcome settles = refl
unnamed (steps.Tell index ticket) answer hand outcome settles = refl
unnamed (steps.Clear index) answer hand outcome settles = refl
unnamed (steps.CellLoad cell) answer hand outcome settles = refl
unnamed (steps.CellExchange cell expected new) answer hand outcome settles = refl
unnamed (steps.LockTry lock holder) answer hand outcome settles = refl
unnamed (steps.LockStore lock) answer hand outcome settles = refl
unnamed steps.Clock answer hand outcome settles = refl

-- what all are kept of, or none
abbrev AllBy : ℕ → List Report → Type 0
AllBy task [] = Unit {0}
AllBy task (report ∷ more) = (task_in (setter_of report) ≡ task) × AllBy task more

kept_all : (task : ℕ) (all : List Report) → AllBy task all → reports_by task all ≡ all
kept_all task [] by = refl
kept_all task (report ∷ more) by =
    ap (λ (b : Bool). cond b (report ∷ reports_by task more) (reports_by task more)) (eq-eqb (task_in (setter_of report)) task by.0)
    ∙ ap (λ (l : List Report). report ∷ l) (kept_all task more by.1)

kept_none : (task other : ℕ) (all : List Report) → other ≢ task → AllBy other all → reports_by task all ≡ []
kept_none task other [] apart by = refl
kept_none task other (report ∷ more) apart by =
    ap (λ (b : Bool). cond b (report ∷ reports_by task more) (reports_by task more))
    (ne_eqb (task_in (setter_of report)) task (λ is. apart (sym by.0 ∙ is)))
    ∙ kept_none task other more apart by.1

module _ (run : Run) (all : List Record) (list : Execution run all) (rules : Keeps run.rules.slots (locks_of run) (first_cells run) all)
    (watches : All (IfVerdict list) (outcomes_of list)) (answered : All (IfAnswer list) (outcomes_of list)) where
  abbrev reported_at : OutcomeAt → Option Report
  reported_at c = lists.reported c.access c.outcome

  module _ (later : List Record) (latest : Record) (earlier : List Record) (is : all ≡ later ++ latest ∷ earlier) where
    abbrev task : ℕ
    task = latest.task

    abbrev own : List Record
    own = records_of task earlier

    abbrev with_it : List Record
    with_it = latest ∷ earlier

    now_kept : Keeps run.rules.slots (locks_of run) (first_cells run) with_it
    now_kept = rules_then run all list later latest earlier is rules

    abbrev settled : SettledAt run all list latest earlier
    settled = settled_at run all list later latest earlier is

    abbrev arming : Option Armed
    arming = armed_by task with_it

    abbrev here : List Fallen
    here = settled.here

    mine : records_of task with_it ≡ latest ∷ own
    mine = own_latest task latest earlier refl

    next_is : came_next list latest earlier ≡ map (outcome_at (length earlier) arming) here
    next_is = ap (λ (l : List Fallen). map (outcome_at (length earlier) arming) l) settled.all

    by_its_task : (fallen : Fallen) → here ≡ fallen ∷ [] → is_verdict fallen.outcome ≡ true → task_in (ticket_number fallen.access) ≡ task
    by_its_task fallen one verdict =
        own_name task (latest ∷ own) (subst (λ (r : List Record). Discipline task r) mine (now_kept.keeps task)) (ticket_number fallen.access)
        (named_so run all list later latest earlier is watches fallen one verdict)

    last_before : (fallen : Fallen) → here ≡ fallen ∷ [] → is_verdict fallen.outcome ≡ true
        → last_name own ≡ Some (ticket_number fallen.access)
    last_before fallen one verdict =
        let fell : Settles (in_hand own) latest.step latest.answer (fallen.outcome ∷ []) =
        subst (λ (l : List Fallen). Settles (in_hand own) latest.step latest.answer (outcomes_in l)) one settled.settles in
        ap (λ (o : Option ℕ). option_or o (last_name own)) (sym (unnamed latest.step latest.answer (in_hand own) fallen.outcome fell))
        ∙ named_so run all list later latest earlier is watches fallen one verdict

    -- what the record reports is of its task
    one_by : (fallen : Fallen) → here ≡ fallen ∷ [] → (o : Outcome) → fallen.outcome ≡ o
        → AllBy task (cons_option (lists.reported fallen.access o) [])
    one_by fallen one (outcomes.Report pair seen) falls =
        let answer : AnswersTaking list (outcome_at (length earlier) arming fallen) =
        All-contains (IfAnswer list) (outcomes_of list) (outcome_at (length earlier) arming fallen) answered
        (told_there run all list later latest earlier is fallen one) (ap is_answer falls) in
        let same : pair ≡ answer.pair = subst (λ (o : Outcome). IsOfPair answer.pair o) falls answer.of_pair in (
          ap task_in (ap (λ (p : Halves). p.setter) same ∙ answer.setter_named) ∙ by_its_task fallen one (ap is_verdict falls),
          tt,
        )
    one_by fallen one (outcomes.Unknown old new) falls = (by_its_task fallen one (ap is_verdict falls), tt)
    one_by fallen one outcomes.Nothing falls = tt
    one_by fallen one outcomes.Lost falls = tt
    one_by fallen one (outcomes.Told pair) falls = tt
    one_by fallen one outcomes.Capacity falls = tt
    one_by fallen one outcomes.Unencodable falls = tt
    one_by fallen one outcomes.Quiet falls = tt
    one_by fallen one (outcomes.Dropped reason) falls = tt

    -- and what its log reports
    one_logged : (fallen : Fallen) → here ≡ fallen ∷ [] → (before : List Noted) → AreNoted (list.tasks task) own before → (o : Outcome)
        → fallen.outcome ≡ o
        → cons_option (lists.reported fallen.access o) [] ≡ option_to_list (logs.reported (Some o) before)
    one_logged fallen one before are (outcomes.Unknown old new) falls =
        let ticket : setter_named before ≡ ticket_number fallen.access =
        ap (λ (o : Option ℕ). unwrap_or o 0) (names_noted (list.tasks task) own before are ∙ last_before fallen one (ap is_verdict falls)) in
        ap (λ (n : ℕ). reports.Unknown n old new ∷ []) (sym ticket)
    one_logged fallen one before are (outcomes.Report pair seen) falls = refl
    one_logged fallen one before are outcomes.Nothing falls = refl
    one_logged fallen one before are outcomes.Lost falls = refl
    one_logged fallen one before are (outcomes.Told pair) falls = refl
    one_logged fallen one before are outcomes.Capacity falls = refl
    one_logged fallen one before are outcomes.Unencodable falls = refl
    one_logged fallen one before are outcomes.Quiet falls = refl
    one_logged fallen one before are (outcomes.Dropped reason) falls = refl

    abbrev its : List Report
    its = filter_map reported_at (came_next list latest earlier)

    its_is : its ≡ filter_map reported_at (map (outcome_at (length earlier) arming) here)
    its_is = ap (λ (l : List OutcomeAt). filter_map reported_at l) next_is

    all_by : (fell : List Fallen) → here ≡ fell → length fell ≤ 1
        → AllBy task (filter_map reported_at (map (outcome_at (length earlier) arming) fell))
    all_by [] is_fell few = tt
    all_by (fallen ∷ []) is_fell few = one_by fallen is_fell fallen.outcome refl
    all_by (fallen ∷ other ∷ fell) is_fell few = absurd (omega (arith, few))

    step_by : length (fell_next (list.tasks task) (made_by task earlier)) ≤ 1 → AllBy task its
    step_by few =
        let size : length (fell_next (list.tasks task) (made_by task earlier)) ≡ length here = ap (λ (l : List Fallen). length l) settled.all in
        subst (λ (l : List Report). AllBy task l) (sym its_is) (all_by here refl (omega (arith, few, size)))

    logged : (fell : List Fallen) → here ≡ fell → (before : List Noted) → AreNoted (list.tasks task) own before → (o : Option Outcome)
        → outcomes_in fell ≡ option_to_list o
        → filter_map reported_at (map (outcome_at (length earlier) arming) fell) ≡ option_to_list (logs.reported o before)
    logged [] is_fell before are None same = refl
    logged [] is_fell before are (Some outcome) same = absurd (let no : [] ≡ outcome ∷ [] = same in cc)
    logged (fallen ∷ fell) is_fell before are None same = absurd (let no : fallen.outcome ∷ outcomes_in fell ≡ [] = same in cc)
    logged (fallen ∷ other ∷ fell) is_fell before are (Some outcome) same =
        absurd (let no : fallen.outcome ∷ other.outcome ∷ outcomes_in fell ≡ outcome ∷ [] = same in cc)
    logged (fallen ∷ []) is_fell before are (Some outcome) same =
        let falls : fallen.outcome ≡ outcome = let both : fallen.outcome ∷ [] ≡ outcome ∷ [] = same in cc in
        ap (λ (o : Outcome). cons_option (lists.reported fallen.access o) []) falls ∙ one_logged fallen is_fell before are outcome falls

    step_logged : (before : List Noted) (now : Noted) → AreNoted (list.tasks task) own before
        → IsNoted (list.tasks task) (made_by task earlier) latest now
        → its ≡ option_to_list (logs.reported now.outcome before)
    step_logged before now are noted_so =
        its_is ∙ logged here refl before are now.outcome (ap outcomes_in (sym settled.all) ∙ noted_so.outcome)

  abbrev reported_by : List Record → List Report
  reported_by records = lists.reports_by list records

  with_one : (task : ℕ) (latest : Record) (earlier : List Record)
      → reports_by task (reported_by (latest ∷ earlier)) ≡ reports_by task (reported_by earlier) ++ reports_by task (filter_map reported_at (came_next list latest earlier))
  with_one task latest earlier =
      ap (λ (l : List Report). reports_by task l) (filter_map-append reported_at (outcomes_by list earlier) (came_next list latest earlier))
      ∙ filter-append (is_by task) (reported_by earlier) (filter_map reported_at (came_next list latest earlier))

  module _ (few : (task made : ℕ) → length (fell_next (list.tasks task) made) ≤ 1) where
    own_by : (task : ℕ) (later earlier : List Record) → all ≡ later ++ earlier → (noted : List Noted)
        → AreNoted (list.tasks task) (records_of task earlier) noted
        → reports_by task (reported_by earlier) ≡ reported_in noted
    own_by task later [] is [] are = refl
    own_by task later [] is (noted ∷ before) are = absurd are
    own_by task later (latest ∷ earlier) is noted are =
        let back : all ≡ (later ++ latest ∷ []) ++ earlier = is ∙ sym (append_assoc later (latest ∷ []) earlier) in
        let by : AllBy latest.task (filter_map reported_at (came_next list latest earlier)) =
        step_by later latest earlier is (few latest.task (made_by latest.task earlier)) in
        elim (eqb_tells latest.task task) [
          | inl mine ↦
              its_own (λ kept are_so. own_by task (later ++ latest ∷ []) earlier back kept are_so) noted
              (subst (λ (r : List Record). AreNoted (list.tasks task) r noted) (own_latest task latest earlier mine.1) are) mine.1
          | inr others ↦
              let same : records_of task (latest ∷ earlier) ≡ records_of task earlier = rw others.0 refl in
              with_one task latest earlier
              ∙ (ap (λ (l : List Report). reports_by task (reported_by earlier) ++ l) (kept_none task latest.task _ others.1 by)
              ∙ (append-nil (reports_by task (reported_by earlier))
              ∙ own_by task (later ++ latest ∷ []) earlier back noted (subst (λ (r : List Record). AreNoted (list.tasks task) r noted) same are)))
        ]
      where
        its_own : ((kept : List Noted) → AreNoted (list.tasks task) (records_of task earlier) kept → reports_by task (reported_by earlier) ≡ reported_in kept)
            → (noted : List Noted) → AreNoted (list.tasks task) (latest ∷ records_of task earlier) noted → latest.task ≡ task
            → reports_by task (reported_by (latest ∷ earlier)) ≡ reported_in noted
        its_own rest [] are mine = absurd are
        its_own rest (now ∷ before) are mine =
            subst (λ (t : ℕ). ((kept : List Noted) → AreNoted (list.tasks t) (records_of t earlier) kept → reports_by t (reported_by earlier) ≡ reported_in kept)
            → AreNoted (list.tasks t) (latest ∷ records_of t earlier) (now ∷ before)
            → reports_by t (reported_by (latest ∷ earlier)) ≡ reported_in (now ∷ before)) mine
            (λ back_then are_so.
            let by : AllBy latest.task (filter_map reported_at (came_next list latest earlier)) =
            step_by later latest earlier is (few latest.task (made_by latest.task earlier)) in
            with_one latest.task latest earlier
            ∙ (ap (λ (l : List Report). reports_by latest.task (reported_by earlier) ++ l)
            (kept_all latest.task (filter_map reported_at (came_next list latest earlier)) by ∙ step_logged later latest earlier is before now are_so.0 are_so.1)
            ∙ ap (λ (l : List Report). l ++ option_to_list (logs.reported now.outcome before)) (back_then before are_so.0))) rest are

    pub own_reports : (task : ℕ) (noted : List Noted) → Notes list task noted → reports_by task (lists.reports_of list) ≡ reported_in noted
    own_reports task noted notes = own_by task [] all refl noted notes
