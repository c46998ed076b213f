-- What a log reports at a step is what the execution reports with the record.
use Rattle.std.proofs.Common.{◌≡◌, ◌∙◌, ◌+◌, ◌==◌, ◌++◌, ◌∷◌, [], ℕ, suc, All, Bool, Contains, List, None, Option, Some, ap, append_assoc, arith, false, filter, true}
use Rattle.std.proofs.Common.{length, map, refl, reverse, subst, sym, unwrap_or}
use Rattle.std.specs.List.{cons_option, filter_map}
use Rattle.std.specs.Option.{option_or, option_to_list}
use Rattle.std.proofs.lemmas.List.{length-append, length-reverse, reverse-append}
use Rattle.std.proofs.lemmas.List.Elements.{All-contains, Contains-append_right, filter_map-append}
use Rattle.access_types.specs.Ticket.{ticket_number}
use Rattle.access_types.specs.declared.report.Report.{Report}
use Rattle.access_types.specs.declared.report.Report.TheVariants as reports
use Rattle.executions.specs.execution.Reports as lists
use Rattle.executions.specs.execution.Reports.{reports_by, reports_of}
use Rattle.executions.specs.execution.Run.{Run, task_of, task_setting}
use Rattle.executions.specs.execution.Execution.{Execution}
use Rattle.executions.specs.execution.Observed.{Armed, OutcomeAt, armed_by, came_next, made_by, outcome_at, outcomes_by, outcomes_of}
use Rattle.executions.proofs.execution.OwnLasts.{own_latest, own_split}
use Rattle.log_correctness.specs.Noted.{AreNoted, IsNoted, Notes}
use Rattle.log_correctness.proofs.Growth.{one_more_listed}
use Rattle.log_correctness.proofs.Naming.{last_name, names_noted, watch_named}
use Rattle.log_correctness.proofs.OutcomesOfOwnTask.{AllOfTask, whole_own}
use Rattle.soundness.specs.Settles.{Settles}
use Rattle.soundness.specs.Takings.{EachSettles}
use Rattle.soundness.specs.Watches.{IfVerdict, IsOfWatch, is_verdict}
use Rattle.setup_access.specs.Check.{Fallen}
use Rattle.setup_access.specs.declared.outcome.Outcome.{Outcome}
use Rattle.setup_access.specs.declared.outcome.Outcome.TheVariants as outcomes
use Rattle.slot_table.specs.Discipline.{in_hand}
use Rattle.slot_table.specs.Records.{records_of}
use Rattle.slot_table.specs.declared.discipline.InHand.{InHand}
use Rattle.slot_table.specs.declared.records.Record.{Record}
use Rattle.slot_table.specs.declared.step.Answer.{Answer}
use Rattle.slot_table.specs.declared.step.Step.{Step}
use Rattle.slot_table.specs.declared.step.Step.TheVariants as steps
use Rattle.task_log.specs.Arms.{setter_named}
use Rattle.task_log.specs.Noted.{named_by}
use Rattle.task_log.specs.Reports as logs
use Rattle.task_log.specs.declared.noted.Noted.{Noted}
use Rattle.program_order.specs.Standing.{checks_of}
use Rattle.program_order.specs.TaskObserved.{Came, came_of, fell_next, to_come}
use Rattle.executions.specs.observation_determinism.TellAlike.{TellAlike}
use Rattle.executions.proofs.observation_determinism.Telling.{told_alike}

-- a naming settles nothing
unnamed : (step : Step) (answer : Answer) (hand : Option InHand) (outcome : Outcome) → Settles hand step answer (outcome ∷ []) → named_by step ≡ None
unnamed (steps.Name index ticket) answer hand outcome settles = absurd (let no : outcome ∷ [] ≡ [] = settles in cc)
unnamed (steps.Load index) answer hand outcome settles = refl
unnamed (steps.Insert index word) answer hand outcome settles = refl
unnamed (steps.TryConsume index word) answer hand outcome settles = refl
unnamed (steps.Consume index) answer hand outcome settles = refl
unnamed (steps.Remove index) answer hand outcome settles = refl
unnamed (steps.PairLoad index) answer hand outcome settles = refl
unnamed (steps.Tell index ticket) answer hand outcome settles = refl
unnamed (steps.Clear index) answer hand outcome settles = refl
unnamed (steps.CellLoad cell) answer hand outcome settles = refl
unnamed (steps.CellExchange cell expected new) answer hand outcome settles = refl
unnamed (steps.LockTry lock holder) answer hand outcome settles = refl
unnamed (steps.LockStore lock) answer hand outcome settles = refl
unnamed steps.Clock answer hand outcome settles = refl

-- those that are left by a test are of the task too
pub left_of : (task n : ℕ) (fallen : List Fallen) → AllOfTask task fallen → AllOfTask task (filter (λ (f : Fallen). length f.later == n) fallen)
left_of task n [] of = tt
left_of task n (one ∷ others) of = by_test (left_of task n others of.1) (length one.later == n) refl
  where
    by_test : AllOfTask task (filter (λ (f : Fallen). length f.later == n) others) → (b : Bool) → (length one.later == n) ≡ b
        → AllOfTask task (filter (λ (f : Fallen). length f.later == n) (one ∷ others))
    by_test rest true is = rw is (of.0, rest)
    by_test rest false is = rw is rest

-- what is by then is all, where it is as long
all_by_then : (latest : Record) (earlier later by_then : List Record) → latest ∷ earlier ≡ later ++ by_then → length by_then ≡ suc (length earlier)
    → by_then ≡ latest ∷ earlier
all_by_then latest earlier [] by_then is long = sym is
all_by_then latest earlier (first ∷ later) by_then is long =
    let all : suc (length earlier) ≡ suc (length later + length by_then) = ap (λ (r : List Record). length r) is ∙ ap suc (length-append later by_then) in
    absurd (omega (arith, all, long))

module _ (run : Run) (latest : Record) (earlier : List Record) (list : Execution run (latest ∷ earlier)) where
  abbrev task : ℕ
  task = latest.task

  abbrev fell : List Fallen
  fell = fell_next (list.tasks task) (made_by task earlier)

  abbrev arming : Option Armed
  arming = armed_by task (latest ∷ earlier)

  fell_own : AllOfTask task fell
  fell_own = left_of task (to_come (list.tasks task) (made_by task earlier + 1)) (list.tasks task).whole.end.outcomes
      (whole_own (task_setting run task) (length (task_of run task).registers) (task_of run task).body
      (reverse (records_of task (latest ∷ earlier)) ++ (list.tasks task).more) (list.tasks task).whole)

  -- a change of unknown origin is reported by the ticket by which the task has last named itself
  own_ticket : (f : Fallen) (old new : ℕ) → fell ≡ f ∷ [] → f.outcome ≡ outcomes.Unknown old new → All (IfVerdict list) (outcomes_of list)
      → EachSettles list (latest ∷ earlier) → last_name (records_of task earlier) ≡ Some (ticket_number f.access)
  own_ticket f old new one is watches settles =
      let came : OutcomeAt = outcome_at (length earlier) arming f in
      let next : came_next list latest earlier ≡ came ∷ [] = ap (λ (l : List Fallen). map (outcome_at (length earlier) arming) l) one in
      let there : Contains (outcomes_of list) came =
      Contains-append_right (outcomes_by list earlier) (came_next list latest earlier) came
      (subst (λ (l : List OutcomeAt). Contains l came) (sym next) (0, omega arith, refl)) in
      let it : IsOfWatch list came = All-contains (IfVerdict list) (outcomes_of list) came watches there (ap is_verdict is) in
      let mine : f.access.task ≡ task = (subst (λ (l : List Fallen). AllOfTask task l) one fell_own).0 in
      let all : it.by_then ≡ latest ∷ earlier = all_by_then latest earlier it.later it.by_then it.split it.at in
      let own : latest ∷ records_of task earlier ≡ reverse it.watch ++ it.before =
      sym (own_latest task latest earlier refl) ∙ (ap (λ (t : ℕ). records_of t (latest ∷ earlier)) (sym mine)
      ∙ (ap (λ (r : List Record). records_of f.access.task r) (sym all) ∙ it.own)) in
      let named_so : last_name (latest ∷ records_of task earlier) ≡ Some (ticket_number f.access) =
      ap last_name own
      ∙ watch_named (checks_of (task_setting run f.access.task)) f.access _ it.watch _ it.is_watch.sets_up it.before in
      let settled : Settles (in_hand (records_of task earlier)) latest.step latest.answer (f.outcome ∷ []) =
      subst (λ (l : List OutcomeAt). Settles (in_hand (records_of task earlier)) latest.step latest.answer (map (λ (c : OutcomeAt). c.outcome) l)) next settles.1 in
      let none : named_by latest.step ≡ None = unnamed latest.step latest.answer (in_hand (records_of task earlier)) f.outcome settled in
      ap (λ (o : Option ℕ). option_or o (last_name (records_of task earlier))) (sym none) ∙ named_so

  reports_with : (before : List Noted) → AreNoted (list.tasks task) (records_of task earlier) before → All (IfVerdict list) (outcomes_of list)
      → EachSettles list (latest ∷ earlier) → (outcome : Option Outcome) (its : List Fallen) → fell ≡ its
      → map (λ (f : Fallen). f.outcome) its ≡ option_to_list outcome
      → filter_map (λ (c : OutcomeAt). lists.reported c.access c.outcome) (map (outcome_at (length earlier) arming) its) ≡ option_to_list (logs.reported outcome before)
  reports_with before are watches settles None [] is same = refl
  reports_with before are watches settles (Some outcome) [] is same = absurd (let no : [] ≡ outcome ∷ [] = same in cc)
  reports_with before are watches settles None (f ∷ its) is same = absurd (let no : f.outcome ∷ map (λ (g : Fallen). g.outcome) its ≡ [] = same in cc)
  reports_with before are watches settles (Some outcome) (f ∷ g ∷ its) is same =
      absurd (let no : f.outcome ∷ g.outcome ∷ map (λ (h : Fallen). h.outcome) its ≡ outcome ∷ [] = same in cc)
  reports_with before are watches settles (Some outcome) (f ∷ []) is same =
      let falls : f.outcome ≡ outcome = let both : f.outcome ∷ [] ≡ outcome ∷ [] = same in cc in
      ap (λ (o : Outcome). cons_option (lists.reported f.access o) []) falls ∙ by_kind outcome falls
    where
      by_kind : (o : Outcome) → f.outcome ≡ o → cons_option (lists.reported f.access o) [] ≡ option_to_list (logs.reported (Some o) before)
      by_kind (outcomes.Report pair seen) falls = refl
      by_kind (outcomes.Unknown old new) falls =
          let ticket : last_name (records_of task earlier) ≡ Some (ticket_number f.access) = own_ticket f old new is falls watches settles in
          let named_so : setter_named before ≡ ticket_number f.access =
          ap (λ (o : Option ℕ). unwrap_or o 0) (names_noted (list.tasks task) (records_of task earlier) before are ∙ ticket) in
          ap (λ (n : ℕ). reports.Unknown n old new ∷ []) (sym named_so)
      by_kind outcomes.Nothing falls = refl
      by_kind outcomes.Lost falls = refl
      by_kind (outcomes.Told pair) falls = refl
      by_kind outcomes.Capacity falls = refl
      by_kind outcomes.Unencodable falls = refl
      by_kind outcomes.Quiet falls = refl
      by_kind (outcomes.Dropped reason) falls = refl

  module _ (one : Execution run earlier) where
    alike : (t : ℕ) → TellAlike (one.tasks t) (list.tasks t) (length (records_of t earlier))
    alike t =
        let own : List Record = records_of t earlier in
        let split : records_of t (latest ∷ earlier) ≡ records_of t (latest ∷ []) ++ own = own_split t (latest ∷ []) earlier in
        let all : reverse (records_of t (latest ∷ earlier)) ≡ reverse own ++ reverse (records_of t (latest ∷ [])) =
        ap (λ (r : List Record). reverse r) split ∙ reverse-append (records_of t (latest ∷ [])) own in
        subst (λ (n : ℕ). TellAlike (one.tasks t) (list.tasks t) n) (length-reverse own)
        (told_alike (task_setting run t) (length (task_of run t).registers) (task_of run t).body (reverse own) (reverse own) (reverse (records_of t (latest ∷ earlier)))
        (one.tasks t).more (reverse (records_of t (latest ∷ [])) ++ (list.tasks t).more) (one.tasks t) (list.tasks t) refl
        (ap (λ (r : List Record). r ++ (list.tasks t).more) all
        ∙ append_assoc (reverse own) (reverse (records_of t (latest ∷ []))) (list.tasks t).more))

    told_at : (at : ℕ) (its : Option Armed) (fallen : List Fallen) → map (outcome_at at its) fallen
        ≡ map (λ (c : Came). record { access = c.access; outcome = c.outcome; at = at; arming = its }) (map came_of fallen)
    told_at at its [] = refl
    told_at at its (f ∷ fallen) = ap (λ (l : List OutcomeAt). outcome_at at its f ∷ l) (told_at at its fallen)

    outcomes_alike : (later back : List Record) → earlier ≡ later ++ back → outcomes_by one back ≡ outcomes_by list back
    outcomes_alike later [] is = refl
    outcomes_alike later (first ∷ back) is =
        let t : ℕ = first.task in
        let own : records_of t earlier ≡ records_of t later ++ records_of t (first ∷ back) = ap (λ (r : List Record). records_of t r) is ∙ own_split t later (first ∷ back) in
        let mine : records_of t (first ∷ back) ≡ first ∷ records_of t back = own_latest t first back refl in
        let size : length (records_of t earlier) ≡ length (records_of t later) + suc (made_by t back) =
        ap (λ (r : List Record). length r) own ∙ (length-append (records_of t later) (records_of t (first ∷ back))
        ∙ ap (λ (r : List Record). length (records_of t later) + length r) mine) in
        let same : map came_of (fell_next (one.tasks t) (made_by t back)) ≡ map came_of (fell_next (list.tasks t) (made_by t back)) =
        (alike t).came (made_by t back) (omega (arith, size)) in
        let its : Option Armed = armed_by t (first ∷ back) in
        let next : came_next one first back ≡ came_next list first back =
        told_at (length back) its (fell_next (one.tasks t) (made_by t back))
        ∙ (ap (λ (l : List Came). map (λ (c : Came). record { access = c.access; outcome = c.outcome; at = length back; arming = its }) l) same
        ∙ sym (told_at (length back) its (fell_next (list.tasks t) (made_by t back)))) in
        let before : outcomes_by one back ≡ outcomes_by list back =
        outcomes_alike (later ++ first ∷ []) back (is ∙ sym (append_assoc later (first ∷ []) back)) in
        ap (λ (l : List OutcomeAt). l ++ came_next one first back) before ∙ ap (λ (l : List OutcomeAt). outcomes_by list back ++ l) next

    pub one_report : (before : List Noted) (noted : Noted) → Notes one task before → IsNoted (list.tasks task) (made_by task earlier) latest noted
        → All (IfVerdict list) (outcomes_of list) → EachSettles list (latest ∷ earlier)
        → reports_of list ≡ reports_of one ++ option_to_list (logs.reported noted.outcome before)
    one_report before noted notes is watches settles =
        let reported : OutcomeAt → Option Report = λ c. lists.reported c.access c.outcome in
        let whole = one_more_listed run latest earlier one list before noted notes is in
        let are : AreNoted (list.tasks task) (records_of task earlier) before =
        (subst (λ (r : List Record). AreNoted (list.tasks task) r (noted ∷ before)) (own_latest task latest earlier refl) whole).0 in
        filter_map-append reported (outcomes_by list earlier) (came_next list latest earlier)
        ∙ (ap (λ (l : List OutcomeAt). filter_map reported l ++ filter_map reported (came_next list latest earlier)) (sym (outcomes_alike [] earlier refl))
        ∙ ap (λ (l : List Report). reports_of one ++ l) (reports_with before are watches settles noted.outcome fell refl is.outcome))
