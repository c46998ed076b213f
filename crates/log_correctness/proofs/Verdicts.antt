-- Each arming that a task removes has its verdict: the last that fell for the task is on this arming.
use Rattle.std.proofs.Common.{◌≡◌, ◌≢◌, ◌∙◌, ◌+◌, ◌==◌, ◌&&◌, ◌++◌, ◌∷◌, if◌then◌else◌, [], inl, inr}
use Rattle.std.proofs.Common.{ℕ, suc, All, Bool, true, false, Contains, List, MatchBool, None, Option, Some, ap, append_assoc, arith, filter}
use Rattle.std.proofs.Common.{length, map, refl, reverse, subst, sym, unwrap_or}
use Rattle.std.specs.Option.{option_map, option_or, option_to_list}
use Rattle.std.proofs.lemmas.Bool.{eq-eqb}
use Rattle.std.proofs.lemmas.Bool.Decides.{eqb_tells}
use Rattle.std.proofs.lemmas.List.{append-nil, length-append}
use Rattle.std.proofs.lemmas.List.Elements.{All-contains, Contains-append_left, Contains-append_right}
use Rattle.access_types.specs.Arms.{Arm}
use Rattle.access_types.specs.Ticket.{ticket_number}
use Rattle.access_types.specs.declared.arms.ArmOutcome.{ArmOutcome}
use Rattle.access_types.specs.declared.arms.ArmOutcome.TheVariants as became_as
use Rattle.access_types.specs.declared.arms.HitResult.TheVariants as results
use Rattle.executions.specs.execution.Answers.{is_answer}
use Rattle.executions.specs.execution.Run.{Run, first_cells, locks_of, task_of, task_setting}
use Rattle.executions.specs.execution.Execution.{Execution}
use Rattle.executions.specs.execution.Observed.{Armed, OutcomeAt, armed_by, armed_in, came_next, made_by, outcome_at, outcomes_by, outcomes_of}
use Rattle.executions.proofs.execution.OwnLasts.{finder_told, own_latest, own_name, still_told}
use Rattle.log_correctness.specs.Lists.{AreArmsAt, AreArmsBy, Became, IsArm, verdicts_by}
use Rattle.log_correctness.specs.Noted.{AreNoted, IsNoted, Notes}
use Rattle.log_correctness.proofs.HandIsLastArming.{IsNamed, Says, all_say, in_part, last_word}
use Rattle.log_correctness.proofs.Naming.{last_name, names_noted, watch_named}
use Rattle.log_correctness.proofs.OutcomesOfOwnTask.{AllOfTask, whole_own}
use Rattle.log_correctness.proofs.Removals.{AtRemove, at_remove, of_task, some_is, words_noted}
use Rattle.log_correctness.proofs.Reporting.{left_of}
use Rattle.log_correctness.proofs.Settling.{HandSays, HitSays, Known, Pending, Settled, Suits, in_hand_says, match_with, carried, silently, unheard_settled}
use Rattle.soundness.specs.Settles.{AnswersTo, IsUntouched, IsUnwatched, One, OneAtMost, Settles, TellsOf, hears_finder}
use Rattle.soundness.specs.Watches.{IfVerdict, IsOfWatch, is_verdict}
use Rattle.soundness.proofs.Counts.{Answered, NoAnswer, Unanswered, fell_cases}
use Rattle.soundness.proofs.Falls.{outcomes_in}
use Rattle.soundness.proofs.Lists.{SettledAt, settled_at}
use Rattle.setup_access.specs.Check.{Fallen}
use Rattle.setup_access.specs.declared.outcome.Outcome.{Outcome}
use Rattle.setup_access.specs.declared.outcome.Outcome.TheVariants as outcomes
use Rattle.slot.specs.Pair.{Halves}
use Rattle.slot_table.specs.Armings.{Arming, armed_after, last_arming, last_arming_number, named_at, number_after, number_made, number_made_after}
use Rattle.slot_table.specs.Discipline.{Allows, hand_after, heard, heard_after, in_hand}
use Rattle.slot_table.specs.Meetings.{finders_told}
use Rattle.slot_table.specs.Records.{records_of}
use Rattle.slot_table.specs.Roles.{part_of}
use Rattle.slot_table.specs.declared.discipline.InHand.{InHand}
use Rattle.slot_table.specs.declared.discipline.Part.{Part}
use Rattle.slot_table.specs.declared.discipline.Part.TheVariants.{Cleared, Hit, Named, Taken, Untouched}
use Rattle.slot_table.specs.declared.records.Record.{Record}
use Rattle.slot_table.specs.declared.step.Answer.{Answer}
use Rattle.slot_table.specs.declared.step.Answer.TheVariants as answers
use Rattle.slot_table.specs.declared.step.Step.{Step}
use Rattle.slot_table.specs.declared.step.Step.TheVariants as steps
use Rattle.slot_table.proofs.Hearings.{heard_finder}
use Rattle.slot_table.proofs.Lists.{Keeps, allowed_at, fits_all, keeps_before, view_of}
use Rattle.slot_table.proofs.Moves.{is_setter, some_same}
use Rattle.slot_table.proofs.Phases.{Fits, View, meeting}
use Rattle.slot_table.proofs.Steps.{here_part}
use Rattle.task_log.specs.Arms.{arm_removed, arms_at, arms_of, setter_named}
use Rattle.task_log.specs.Noted.{armed, became, became_of, dropped, finder_heard, last_of}
use Rattle.task_log.specs.declared.noted.Noted.{Noted}
use Rattle.program_order.specs.Standing.{checks_of}
use Rattle.program_order.specs.TaskObserved.{fell_next, to_come}

-- the number of the last arming at an index is that of its setter's own last one there
made_step : (setter index word task : ℕ) (step : Step) (answer : Answer) (number : ℕ) (before : Option Arming) (last made : Option ℕ)
    → armed_after index task step answer before ≡ Some (record { setter = setter; word = word })
    → (before ≡ Some (record { setter = setter; word = word }) → made ≡ last)
    → number_made_after setter index task step answer number made ≡ number_after index step answer number last
made_step setter index word task (steps.Insert at its) (answers.Flag true) number before last made is same = elim (eqb_tells at index) [
  | inl here ↦
      let one : Some (record { setter = task; word = its }) ≡ Some (record { setter = setter; word = word }) = rw here.0 at is in
      let who : task ≡ setter = ap (λ (a : Arming). a.setter) (some_same one) in rw (here.0, eq-eqb task setter who) refl
  | inr apart ↦
      let one : before ≡ Some (record { setter = setter; word = word }) = rw apart.0 at is in rw apart.0 (same one)
]
made_step setter index word task step answer number before last made is same = same is

pub made_last : (setter index word : ℕ) (records : List Record) → last_arming index records ≡ Some (record { setter = setter; word = word })
    → number_made setter index records ≡ last_arming_number index records
made_last setter index word [] is = refl
made_last setter index word (latest ∷ earlier) is =
    made_step setter index word latest.task latest.step latest.answer (length earlier) (last_arming index earlier) (last_arming_number index earlier)
    (number_made setter index earlier) is (made_last setter index word earlier)

-- who has an arming in hand is the setter of the last one at its index
pub record IsItsSetter (index task : ℕ) (v : View) : Type 0 where
  pub number : ℕ
  pub word : ℕ
  pub numbered : v.last.number ≡ Some number
  pub arming : v.last.arming ≡ Some (record { setter = task; word = word })

pub its_setter : (index task : ℕ) (v : View) (part : Part) → ((word : ℕ) → part ≢ Taken word) → Fits index v → v.part task ≡ Some part
    → IsItsSetter index task v
its_setter index task v part other (hears, inl idle) has = let none = idle.nobody task in absurd (cc)
its_setter index task v part other (hears, inr (phase, h)) has =
    let it = is_setter index phase v h task part has other in record {
      number = h.number;
      word = h.word;
      numbered = h.numbered;
      arming = h.arming ∙ ap (λ (t : ℕ). Some (record { setter = t; word = h.word })) (sym it.0);
    }

-- the ends of one list that are as long are one
pub same_end : (first later other others : List Record) → first ++ later ≡ other ++ others → length later ≡ length others → later ≡ others
same_end [] later [] others is long = is
same_end [] later (x ∷ other) others is long =
    let all : length later ≡ suc (length other + length others) = ap (λ (r : List Record). length r) is ∙ ap suc (length-append other others) in
    absurd (omega (arith, all, long))
same_end (y ∷ first) later [] others is long =
    let all : suc (length first + length later) ≡ length others = sym (ap suc (length-append first later)) ∙ ap (λ (r : List Record). length r) is in
    absurd (omega (arith, all, long))
same_end (y ∷ first) later (x ∷ other) others is long =
    let tails : first ++ later ≡ other ++ others = cc in same_end first later other others tails long

-- which outcomes are verdicts
unwatched_none : (outcome : Outcome) → IsUnwatched outcome → is_verdict outcome ≡ false
unwatched_none outcomes.Nothing is = refl
unwatched_none outcomes.Unencodable is = refl
unwatched_none outcome is = absurd is

tells_none : (ticket : ℕ) (outcome : Outcome) → TellsOf ticket outcome → is_verdict outcome ≡ false
tells_none ticket (outcomes.Told pair) is = refl
tells_none ticket outcome is = absurd is

pub untouched_is : (outcome : Outcome) → IsUntouched outcome → is_verdict outcome ≡ true
untouched_is outcomes.Quiet is = refl
untouched_is (outcomes.Unknown old new) is = refl
untouched_is outcome is = absurd is

pub answer_is : (outcome : Outcome) → is_answer outcome ≡ true → is_verdict outcome ≡ true
answer_is (outcomes.Report pair seen) is = refl
answer_is (outcomes.Dropped reason) is = refl
answer_is outcome is = absurd (cc)

answers_so : (both : Halves) (outcome : Outcome) → AnswersTo both outcome → is_answer outcome ≡ true
answers_so both (outcomes.Report pair seen) is = refl
answers_so both (outcomes.Dropped reason) is = refl
answers_so both outcome is = absurd is

-- none of these is a verdict
abbrev pub NoVerdict : List Outcome → Type 0
NoVerdict [] = Unit {0}
NoVerdict (outcome ∷ others) = (is_verdict outcome ≡ false) × NoVerdict others

pub none_fell : (fell : List Outcome) → fell ≡ [] → NoVerdict fell
none_fell fell is = subst NoVerdict (sym is) tt

one_fell : (fell : List Outcome) (outcome : Outcome) → fell ≡ outcome ∷ [] → is_verdict outcome ≡ false → NoVerdict fell
one_fell fell outcome is none = subst NoVerdict (sym is) (none, tt)

most_fell : (Is : Outcome → Type 0) → ((outcome : Outcome) → Is outcome → is_verdict outcome ≡ false) → (fell : List Outcome)
    → OneAtMost Is fell → NoVerdict fell
most_fell Is none fell (inl empty) = none_fell fell empty
most_fell Is none fell (inr one) = one_fell fell one.0 one.1 (none one.0 one.2)

-- the verdict on an untouched watch falls
pub record QuietFalls (step : Step) (answer : Answer) (fell : List Outcome) : Type 0 where
  pub index : ℕ
  pub step_is : step ≡ steps.Consume index
  pub answer_is : answer ≡ answers.Flag true
  pub outcome : Outcome
  pub only : fell ≡ outcome ∷ []
  pub untouched : IsUntouched outcome

-- what falls at a record: no verdict, that on an untouched watch, or that on one that was hit
pub data FallsHere (hand : Option InHand) (step : Step) (answer : Answer) (fell : List Outcome) : Type 0 where
  nothing_falls : NoVerdict fell → ((index : ℕ) → step ≡ steps.Consume index → answer ≢ answers.Flag true)
      → Unanswered hand step answer fell
      → FallsHere hand step answer fell
  quiet_falls : QuietFalls step answer fell → FallsHere hand step answer fell
  hit_falls : Answered hand step answer fell → FallsHere hand step answer fell

heard_none : (b : Bool) (both : Halves) (fell : List Outcome) → MatchBool b (One (AnswersTo both) fell) (fell ≡ []) → NoAnswer fell
    → NoVerdict fell
heard_none true both fell h none =
    let its : NoAnswer (h.0 ∷ []) = subst NoAnswer h.1 none in
    absurd (let both_ways : true ≡ false = sym (answers_so both h.0 h.2) ∙ its.0 in cc)
heard_none false both fell h none = none_fell fell h

unanswered : (hand : Option InHand) (step : Step) (answer : Answer) (fell : List Outcome) → Settles hand step answer fell
    → Unanswered hand step answer fell
    → FallsHere hand step answer fell
unanswered hand (steps.Consume index) (answers.Flag true) fell h un =
    quiet_falls (record { index = index; step_is = refl; answer_is = refl; outcome = h.0; only = h.1; untouched = h.2 })
unanswered hand (steps.PairLoad index) (answers.Halves setter finder) fell h un =
    nothing_falls (heard_none (hears_finder hand index finder) (record { setter = setter; finder = finder }) fell h un.none) (λ at is. absurd (cc)) un
unanswered hand (steps.Load index) answer fell h un = nothing_falls (most_fell IsUnwatched unwatched_none fell h) (λ at is. absurd (cc)) un
unanswered hand (steps.Insert index word) (answers.Flag false) fell h un =
    nothing_falls (most_fell (λ (o : Outcome). o ≡ outcomes.Capacity) (λ o is. ap is_verdict is) fell h) (λ at is. absurd (cc)) un
unanswered hand (steps.TryConsume index word) (answers.Flag false) fell h un =
    nothing_falls (one_fell fell h.0 h.1 (ap is_verdict h.2)) (λ at is. absurd (cc)) un
unanswered hand (steps.Tell index ticket) answer fell h un =
    nothing_falls (one_fell fell h.0 h.1 (tells_none ticket h.0 h.2)) (λ at is. absurd (cc)) un
unanswered hand step answer fell h un = nothing_falls (none_fell fell h) (λ at is yes. absurd (cc)) un

pub falls_here : (hand : Option InHand) (step : Step) (answer : Answer) (fell : List Outcome) → Settles hand step answer fell
    → FallsHere hand step answer fell
falls_here hand step answer fell h = elim (fell_cases hand step answer fell h) [
  | inl un ↦ unanswered hand step answer fell h un
  | inr some ↦ hit_falls some
]

-- the verdicts among what fell at a record
abbrev pub verdicts_in : List OutcomeAt → List OutcomeAt
verdicts_in came = filter (λ (one : OutcomeAt). is_verdict one.outcome) came

pub no_verdicts : (at : ℕ) (arming : Option Armed) (here : List Fallen) → NoVerdict (outcomes_in here)
    → verdicts_in (map (outcome_at at arming) here) ≡ []
no_verdicts at arming [] none = refl
no_verdicts at arming (fallen ∷ here) none = rw none.0 (no_verdicts at arming here none.1)

pub one_verdict : (at : ℕ) (arming : Option Armed) (fallen : Fallen) → is_verdict fallen.outcome ≡ true
    → verdicts_in (outcome_at at arming fallen ∷ []) ≡ outcome_at at arming fallen ∷ []
one_verdict at arming fallen is = rw is refl

pub only_one : (here : List Fallen) (outcome : Outcome) → outcomes_in here ≡ outcome ∷ []
    → (fallen : Fallen) × (here ≡ fallen ∷ []) × (fallen.outcome ≡ outcome)
only_one [] outcome is = absurd (cc)
only_one (fallen ∷ []) outcome is = (fallen, refl, cc)
only_one (fallen ∷ other ∷ here) outcome is = absurd (cc)

-- what is noted of it
pub noted_one : (o : Option Outcome) (outcome : Outcome) → option_to_list o ≡ outcome ∷ [] → o ≡ Some outcome
noted_one None outcome is = absurd (let no : [] ≡ outcome ∷ [] = is in cc)
noted_one (Some one) outcome is = let heads : one ∷ [] ≡ outcome ∷ [] = is in cc

none_became : (outcome : Outcome) (finder : ℕ) → is_verdict outcome ≡ false → became_of (Some outcome) finder ≡ None
none_became outcomes.Quiet finder is = absurd (cc)
none_became (outcomes.Unknown old new) finder is = absurd (cc)
none_became (outcomes.Report pair seen) finder is = absurd (cc)
none_became (outcomes.Dropped reason) finder is = absurd (cc)
none_became outcome finder is = refl

noted_none : (o : Option Outcome) (finder : ℕ) → NoVerdict (option_to_list o) → became_of o finder ≡ None
noted_none None finder none = refl
noted_none (Some outcome) finder none = none_became outcome finder none.0

-- what became of an arming, by the verdict
pub record BecameSo (records : List Record) (index number setter : ℕ) (outcome : Outcome) (finder : ℕ) : Type 0 where
  pub result : ArmOutcome
  pub noted_so : became_of (Some outcome) finder ≡ Some result
  pub is : Became records index number setter outcome result

pub untouched_so : (records : List Record) (index number setter : ℕ) (outcome : Outcome) (finder : ℕ) → IsUntouched outcome
    → BecameSo records index number setter outcome finder
untouched_so records index number setter outcomes.Quiet finder is = record { result = became_as.Quiet; noted_so = refl; is = refl }
untouched_so records index number setter (outcomes.Unknown old new) finder is =
    record { result = became_as.Origin; noted_so = refl; is = refl }
untouched_so records index number setter outcome finder is = absurd is

pub hit_so : (records : List Record) (index number setter : ℕ) (outcome : Outcome) (finder : ℕ) → is_answer outcome ≡ true
    → Contains (finders_told records) (meeting index number setter finder) → BecameSo records index number setter outcome finder
hit_so records index number setter (outcomes.Report pair seen) finder is told =
    record { result = became_as.Hit finder results.Report; noted_so = refl; is = record { finder = finder; told = told; is = refl } }
hit_so records index number setter (outcomes.Dropped reason) finder is told =
    record { result = became_as.Hit finder (dropped reason); noted_so = refl; is = record { finder = finder; told = told; is = refl } }
hit_so records index number setter outcome finder is told = absurd (cc)

-- arms grow by a remove alone
same_arms : (step : Step) (earlier : List Noted) (before : List Arm) → ((index : ℕ) → step ≢ steps.Remove index)
    → arms_at step earlier before ≡ before
same_arms (steps.Remove index) earlier before other = absurd (other index refl)
same_arms (steps.Load index) earlier before other = refl
same_arms (steps.Insert index word) earlier before other = refl
same_arms (steps.TryConsume index word) earlier before other = refl
same_arms (steps.Consume index) earlier before other = refl
same_arms (steps.PairLoad index) earlier before other = refl
same_arms (steps.Name index ticket) earlier before other = refl
same_arms (steps.Tell index ticket) earlier before other = refl
same_arms (steps.Clear index) earlier before other = refl
same_arms (steps.CellLoad cell) earlier before other = refl
same_arms (steps.CellExchange cell expected new) earlier before other = refl
same_arms (steps.LockTry lock holder) earlier before other = refl
same_arms (steps.LockStore lock) earlier before other = refl
same_arms steps.Clock earlier before other = refl

-- is the step a remove?
pub data Removing (step : Step) : Type 0 where
  of_index : (index : ℕ) → step ≡ steps.Remove index → Removing step
  of_none : ((index : ℕ) → step ≢ steps.Remove index) → Removing step

pub removing : (step : Step) → Removing step
removing (steps.Remove index) = of_index index refl
removing (steps.Load index) = of_none (λ at is. cc)
removing (steps.Insert index word) = of_none (λ at is. cc)
removing (steps.TryConsume index word) = of_none (λ at is. cc)
removing (steps.Consume index) = of_none (λ at is. cc)
removing (steps.PairLoad index) = of_none (λ at is. cc)
removing (steps.Name index ticket) = of_none (λ at is. cc)
removing (steps.Tell index ticket) = of_none (λ at is. cc)
removing (steps.Clear index) = of_none (λ at is. cc)
removing (steps.CellLoad cell) = of_none (λ at is. cc)
removing (steps.CellExchange cell expected new) = of_none (λ at is. cc)
removing (steps.LockTry lock holder) = of_none (λ at is. cc)
removing (steps.LockStore lock) = of_none (λ at is. cc)
removing steps.Clock = of_none (λ at is. cc)

-- another task arms nothing of this one
others_made : (here : Bool) (n : ℕ) (before : Option ℕ) → (if here && false then Some n else before) ≡ before
others_made true n before = refl
others_made false n before = refl

pub made_by_others : (task index maker : ℕ) (step : Step) (answer : Answer) (n : ℕ) (before : Option ℕ) → (maker == task) ≡ false
    → number_made_after task index maker step answer n before ≡ before
made_by_others task index maker (steps.Insert at word) (answers.Flag true) n before others =
    ap (λ (c : Bool). if (at == index) && c then Some n else before) others ∙ others_made (at == index) n before
made_by_others task index maker step answer n before others = refl

-- what falls at a record of a task is of the task
pub fell_own : (run : Run) (all : List Record) (list : Execution run all) (task made : ℕ) → AllOfTask task (fell_next (list.tasks task) made)
fell_own run all list task made =
    left_of task (to_come (list.tasks task) (made + 1)) (list.tasks task).whole.end.outcomes
    (whole_own (task_setting run task) (length (task_of run task).registers) (task_of run task).body
    (reverse (records_of task all) ++ (list.tasks task).more) (list.tasks task).whole)

module _ (run : Run) (all : List Record) (list : Execution run all) (rules : Keeps run.rules.slots (locks_of run) (first_cells run) all)
    (watches : All (IfVerdict list) (outcomes_of list)) where
  abbrev Rules : List Record → Type 0
  Rules records = Keeps run.rules.slots (locks_of run) (first_cells run) records

  rules_before : (later earlier : List Record) → Rules (later ++ earlier) → Rules earlier
  rules_before [] earlier kept = kept
  rules_before (latest ∷ later) earlier kept =
      rules_before later earlier (keeps_before run.rules.slots (locks_of run) (first_cells run) latest (later ++ earlier) kept)

  told_in_all : (later earlier : List Record) (came : OutcomeAt) → Contains (outcomes_by list earlier) came
      → Contains (outcomes_by list (later ++ earlier)) came
  told_in_all [] earlier came there = there
  told_in_all (latest ∷ later) earlier came there =
      Contains-append_left (outcomes_by list (later ++ earlier)) (came_next list latest (later ++ earlier)) came (told_in_all later earlier came there)

  -- what is known of a task by these records
  abbrev known_by : ℕ → List Record → List Noted → Known
  known_by task records noted = record {
    verdicts = verdicts_by list task records;
    arms = arms_of noted;
    name = last_name (records_of task records);
    made = λ index. number_made task index records;
    kept = last_of became noted;
  }

  abbrev SaysOf : ℕ → List Record → Known → Type 0
  SaysOf task records known = HandSays all (in_hand (records_of task records)) (λ index. heard index (records_of task records)) known

  pub record Good (task : ℕ) (records : List Record) (noted : List Noted) : Type 0 where
    pub arms : AreArmsBy list task records (arms_of noted)
    pub says : SaysOf task records (known_by task records noted)

  -- one more record of another task
  of_another : (task : ℕ) (latest : Record) (earlier : List Record) (noted : List Noted) → (latest.task == task) ≡ false
      → Good task earlier noted
      → Good task (latest ∷ earlier) noted
  of_another task latest earlier noted others good =
      let same : records_of task (latest ∷ earlier) ≡ records_of task earlier = rw others refl in
      let verdicts : verdicts_by list task (latest ∷ earlier) ≡ verdicts_by list task earlier = rw others (append-nil (verdicts_by list task earlier)) in
      let known : Known = known_by task earlier noted in
      let carried_so : HandSays all (in_hand (records_of task earlier)) (λ index. heard index (records_of task earlier))
      (record known { made = λ index. number_made task index (latest ∷ earlier) }) =
      carried all (in_hand (records_of task earlier)) (λ index. heard index (records_of task earlier)) known (λ index. number_made task index (latest ∷ earlier))
      (λ index n is. made_by_others task index latest.task latest.step latest.answer (length earlier) (number_made task index earlier) others ∙ is)
      good.says in
      record {
        arms = (arms_of noted, good.arms, rw others refl);
        says = subst (λ (own : List Record). HandSays all (in_hand own) (λ index. heard index own)
            (record known { verdicts = verdicts_by list task (latest ∷ earlier); name = last_name own; made = λ index. number_made task index (latest ∷ earlier) }))
            (sym same)
            (subst (λ (v : List OutcomeAt). HandSays all (in_hand (records_of task earlier)) (λ index. heard index (records_of task earlier))
            (record known { verdicts = v; made = λ index. number_made task index (latest ∷ earlier) })) (sym verdicts) carried_so);
      }

  -- one more record of the task
  module _ (later : List Record) (latest : Record) (earlier : List Record) (is : all ≡ later ++ latest ∷ earlier) (now : Noted) (before : List Noted)
      (noted_so : IsNoted (list.tasks latest.task) (made_by latest.task earlier) latest now)
      (are : AreNoted (list.tasks latest.task) (records_of latest.task earlier) before) (good : Good latest.task earlier before) where
    abbrev task : ℕ
    task = latest.task

    abbrev own : List Record
    own = records_of task earlier

    abbrev with_it : List Record
    with_it = latest ∷ earlier

    now_kept : Rules with_it
    now_kept = rules_before later with_it (subst Rules is rules)

    kept : Rules earlier
    kept = keeps_before run.rules.slots (locks_of run) (first_cells run) latest earlier now_kept

    allowed : Allows task own latest.step
    allowed = allowed_at latest earlier now_kept.keeps

    settled : SettledAt run all list latest earlier
    settled = settled_at run all list later latest earlier is

    abbrev arming : Option Armed
    arming = armed_by task with_it

    abbrev here : List Fallen
    here = settled.here

    abbrev known : Known
    known = known_by task earlier before

    mine : records_of task with_it ≡ latest ∷ own
    mine = own_latest task latest earlier refl

    next_is : came_next list latest earlier ≡ map (outcome_at (length earlier) arming) here
    next_is = ap (λ (l : List Fallen). map (outcome_at (length earlier) arming) l) settled.all

    verdicts_are : verdicts_by list task with_it ≡ verdicts_by list task earlier ++ verdicts_in (map (outcome_at (length earlier) arming) here)
    verdicts_are =
        ap (λ (b : Bool). verdicts_by list task earlier ++ (if b then verdicts_in (came_next list latest earlier) else [])) (eq-eqb task task refl)
        ∙ ap (λ (l : List OutcomeAt). verdicts_by list task earlier ++ verdicts_in l) next_is

    fell_is : outcomes_in here ≡ option_to_list now.outcome
    fell_is = ap outcomes_in (sym settled.all) ∙ noted_so.outcome

    -- what it comes to
    abbrev known_with : List OutcomeAt → List Arm → Option ArmOutcome → Known
    known_with verdicts arms became_so = record {
      verdicts = verdicts;
      arms = arms;
      name = last_name (latest ∷ own);
      made = λ index. number_made task index with_it;
      kept = became_so;
    }

    comes_to : (verdicts : List OutcomeAt) (arms : List Arm) (became_so : Option ArmOutcome) → verdicts_by list task with_it ≡ verdicts
        → arms_of (now ∷ before) ≡ arms → last_of became (now ∷ before) ≡ became_so
        → HandSays all (in_hand (latest ∷ own)) (λ index. heard index (latest ∷ own)) (known_with verdicts arms became_so)
        → SaysOf task with_it (known_by task with_it (now ∷ before))
    comes_to verdicts arms became_so verdicts_so arms_so last_so says =
        subst (λ (r : List Record). HandSays all (in_hand r) (λ index. heard index r) (record {
          verdicts = verdicts_by list task with_it;
          arms = arms_of (now ∷ before);
          name = last_name r;
          made = λ index. number_made task index with_it;
          kept = last_of became (now ∷ before);
        })) (sym mine)
        (subst (λ (v : List OutcomeAt). HandSays all (in_hand (latest ∷ own)) (λ index. heard index (latest ∷ own))
        (known_with v (arms_of (now ∷ before)) (last_of became (now ∷ before)))) (sym verdicts_so)
        (subst (λ (a : List Arm). HandSays all (in_hand (latest ∷ own)) (λ index. heard index (latest ∷ own))
        (known_with verdicts a (last_of became (now ∷ before)))) (sym arms_so)
        (subst (λ (b : Option ArmOutcome). HandSays all (in_hand (latest ∷ own)) (λ index. heard index (latest ∷ own))
        (known_with verdicts arms b)) (sym last_so) says)))

    arms_same : ((index : ℕ) → latest.step ≢ steps.Remove index) → arms_of (now ∷ before) ≡ arms_of before
    arms_same other =
        ap (λ (st : Step). arms_at st before (arms_of before)) noted_so.step ∙ same_arms latest.step before (arms_of before) other

    still_arms_at : (step : Step) → ((index : ℕ) → step ≢ steps.Remove index)
        → AreArmsAt list task step earlier (arms_of before) (arms_of before)
    still_arms_at (steps.Remove index) other = absurd (other index refl)
    still_arms_at (steps.Load index) other = refl
    still_arms_at (steps.Insert index word) other = refl
    still_arms_at (steps.TryConsume index word) other = refl
    still_arms_at (steps.Consume index) other = refl
    still_arms_at (steps.PairLoad index) other = refl
    still_arms_at (steps.Name index ticket) other = refl
    still_arms_at (steps.Tell index ticket) other = refl
    still_arms_at (steps.Clear index) other = refl
    still_arms_at (steps.CellLoad cell) other = refl
    still_arms_at (steps.CellExchange cell expected new) other = refl
    still_arms_at (steps.LockTry lock holder) other = refl
    still_arms_at (steps.LockStore lock) other = refl
    still_arms_at steps.Clock other = refl

    as_before : ((index : ℕ) → latest.step ≢ steps.Remove index) → AreArmsBy list task with_it (arms_of (now ∷ before))
    as_before other = (
      arms_of before,
      good.arms,
      rw (eq-eqb task task refl)
          (subst (λ (a : List Arm). AreArmsAt list task latest.step earlier (arms_of before) a) (sym (arms_same other)) (still_arms_at latest.step other)),
    )

    -- no verdict falls
    quietly : NoVerdict (outcomes_in here) → ((index : ℕ) → latest.step ≡ steps.Consume index → latest.answer ≢ answers.Flag true)
        → Unanswered (in_hand own) latest.step latest.answer (outcomes_in here) → ((index : ℕ) → latest.step ≢ steps.Remove index)
        → SaysOf task with_it (known_by task with_it (now ∷ before))
    quietly none consumes un other =
        let verdicts : verdicts_by list task with_it ≡ verdicts_by list task earlier =
        verdicts_are ∙ (ap (λ (l : List OutcomeAt). verdicts_by list task earlier ++ l) (no_verdicts (length earlier) arming here none)
        ∙ append-nil (verdicts_by list task earlier)) in
        let no_more : became now ≡ None =
        noted_none now.outcome (finder_heard now.step now.answer) (subst NoVerdict fell_is none) in
        comes_to (verdicts_by list task earlier) (arms_of before) (last_of became before) verdicts (arms_same other)
        (ap (λ (o : Option ArmOutcome). option_or o (last_of became before)) no_more)
        (silently all task own known (length earlier) good.says latest.step latest.answer allowed settled.clears (record {
          consumes = consumes;
          hears = λ index setter finder step_is answer_is has above. un.silent index setter finder step_is answer_is has above;
          removes = other;
        }))

    -- the verdict on an access's watch names it
    named_so : (fallen : Fallen) → here ≡ fallen ∷ [] → is_verdict fallen.outcome ≡ true
        → last_name (latest ∷ own) ≡ Some (ticket_number fallen.access)
    named_so fallen one verdict =
        let came : OutcomeAt = outcome_at (length earlier) arming fallen in
        let next : came_next list latest earlier ≡ came ∷ [] = next_is ∙ ap (λ (l : List Fallen). map (outcome_at (length earlier) arming) l) one in
        let there : Contains (outcomes_by list with_it) came =
        Contains-append_right (outcomes_by list earlier) (came_next list latest earlier) came
        (subst (λ (l : List OutcomeAt). Contains l came) (sym next) (0, omega arith, refl)) in
        let in_all : Contains (outcomes_of list) came =
        subst (λ (r : List Record). Contains (outcomes_by list r) came) (sym is) (told_in_all later with_it came there) in
        let it : IsOfWatch list came = All-contains (IfVerdict list) (outcomes_of list) came watches in_all verdict in
        let of : fallen.access.task ≡ task =
        (subst (λ (l : List Fallen). AllOfTask task l) (settled.all ∙ one) (fell_own run all list task (made_by task earlier))).0 in
        let same : it.by_then ≡ with_it = same_end it.later it.by_then later with_it (sym it.split ∙ is) it.at in
        let own_is : latest ∷ own ≡ reverse it.watch ++ it.before =
        sym mine ∙ (ap (λ (t : ℕ). records_of t with_it) (sym of)
        ∙ (ap (λ (r : List Record). records_of fallen.access.task r) (sym same) ∙ it.own)) in
        ap last_name own_is
        ∙ watch_named (checks_of (task_setting run fallen.access.task)) fallen.access _ it.watch _ it.is_watch.sets_up it.before

    -- a verdict falls on the arming in hand
    pends : (index : ℕ) (part : Part) → ((word : ℕ) → part ≢ Taken word) → in_hand (latest ∷ own) ≡ Some (record { index = index; part = part })
        → Settled all known → ((i : ℕ) → latest.step ≢ steps.Remove i) → (outcome : Outcome) → outcomes_in here ≡ outcome ∷ []
        → is_verdict outcome ≡ true
        → ((number : ℕ) → last_arming_number index with_it ≡ Some number → (fallen : Fallen) → last_name (latest ∷ own) ≡ Some (ticket_number fallen.access)
        → BecameSo all index number (ticket_number fallen.access) outcome (finder_heard now.step now.answer))
        → (kept_as : Option ArmOutcome) × (verdicts : List OutcomeAt) × (verdicts_by list task with_it ≡ verdicts) × (last_of became (now ∷ before) ≡ kept_as)
        × Pending all index (known_with verdicts (arms_of before) kept_as)
    pends index part other has settled_so never outcome only verdict became_so =
        let one = only_one here outcome only in
        let fallen : Fallen = one.0 in
        let its : is_verdict fallen.outcome ≡ true = ap is_verdict one.2 ∙ verdict in
        let name = named_so fallen one.1 its in
        let at = its_setter index task (view_of run.rules.slots (locks_of run) (first_cells run) with_it index) part other
        (fits_all run.rules.slots (locks_of run) (first_cells run) with_it now_kept index)
        (here_part index (in_hand (records_of task with_it)) part (ap in_hand mine ∙ has)) in
        let so = became_so at.number at.numbered fallen name in
        let came : OutcomeAt = outcome_at (length earlier) arming fallen in
        let verdicts_so : verdicts_by list task with_it ≡ verdicts_by list task earlier ++ came ∷ [] =
        verdicts_are ∙ (ap (λ (l : List Fallen). verdicts_by list task earlier ++ verdicts_in (map (outcome_at (length earlier) arming) l)) one.1
        ∙ ap (λ (l : List OutcomeAt). verdicts_by list task earlier ++ l) (one_verdict (length earlier) arming fallen its)) in
        let armed : arming ≡ Some (record { index = index; number = at.number }) =
        ap (λ (r : List Record). armed_in (in_hand r) with_it) mine
        ∙ (ap (λ (h : Option InHand). armed_in h with_it) has
        ∙ ap (λ (o : Option ℕ). option_map (λ (n : ℕ). record { index = index; number = n }) o) at.numbered) in
        let noted_outcome : now.outcome ≡ Some outcome = noted_one now.outcome outcome (sym fell_is ∙ only) in
        let kept_so : became now ≡ Some so.result =
        ap (λ (o : Option Outcome). became_of o (finder_heard now.step now.answer)) noted_outcome ∙ so.noted_so in (
          Some so.result,
          verdicts_by list task earlier ++ came ∷ [],
          verdicts_so,
          ap (λ (o : Option ArmOutcome). option_or o (last_of became before)) kept_so,
          record {
            older = verdicts_by list task earlier;
            verdict = came;
            all_are = refl;
            matched = settled_so;
            number = at.number;
            made = made_last task index at.word with_it at.arming ∙ at.numbered;
            on = armed;
            named = name;
            outcome = so.result;
            kept = refl;
            became = subst (λ (o : Outcome). Became all index at.number (ticket_number fallen.access) o so.result) (sym one.2) so.is;
          },
        )

    -- on one that nobody hit
    untouched : QuietFalls latest.step latest.answer (outcomes_in here) → SaysOf task with_it (known_by task with_it (now ∷ before))
    untouched falls =
        let allows : Allows task own (steps.Consume falls.index) = subst (λ (st : Step). Allows task own st) falls.step_is allowed in
        let hand : in_hand (latest ∷ own) ≡ Some (record { index = falls.index; part = Untouched }) =
        ap (λ (st : Step). hand_after st latest.answer (in_hand own)) falls.step_is
        ∙ ap (λ (an : Answer). hand_after (steps.Consume falls.index) an (in_hand own)) falls.answer_is in
        let settled_so : Settled all known =
        in_hand_says all task own known (length earlier) good.says (Some (record { index = falls.index; part = Named allows.0 })) allows.1 in
        let never : (i : ℕ) → latest.step ≢ steps.Remove i = λ i is_remove. let no : steps.Consume falls.index ≡ steps.Remove i = sym falls.step_is ∙ is_remove in cc in
        let it = pends falls.index Untouched (λ w e. cc) hand settled_so never falls.outcome falls.only (untouched_is falls.outcome falls.untouched)
        (λ number numbered fallen name. untouched_so all falls.index number (ticket_number fallen.access) falls.outcome (finder_heard now.step now.answer)
        falls.untouched) in
        comes_to it.1 (arms_of before) it.0 it.2 (arms_same never) it.3
        (subst (λ (h : Option InHand). HandSays all h (λ index. heard index (latest ∷ own)) (known_with it.1 (arms_of before) it.0)) (sym hand) it.4)

    -- on one that was hit, whose finder is heard now
    hit : Answered (in_hand own) latest.step latest.answer (outcomes_in here) → SaysOf task with_it (known_by task with_it (now ∷ before))
    hit falls =
        let index : ℕ = falls.index in
        let both : Halves = record { setter = falls.setter; finder = falls.finder } in
        let hand : in_hand (latest ∷ own) ≡ Some (record { index = index; part = Hit }) =
        ap (λ (st : Step). hand_after st latest.answer (in_hand own)) falls.step_is ∙ falls.has in
        let hears : heard index (latest ∷ own) ≡ Some both =
        ap (λ (st : Step). heard_after index st latest.answer (heard index own)) falls.step_is
        ∙ (ap (λ (an : Answer). heard_after index (steps.PairLoad index) an (heard index own)) falls.answer_is ∙ rw (eq-eqb index index refl) refl) in
        let part : part_of task index with_it ≡ Some Hit = here_part index (in_hand (records_of task with_it)) Hit (ap in_hand mine ∙ hand) in
        let hears_so : heard index (records_of task with_it) ≡ Some both = ap (heard index) mine ∙ hears in
        let other = heard_finder run.rules.slots (locks_of run) (first_cells run) with_it now_kept task index both part hears_so falls.above in
        let told = finder_told run.rules.slots (locks_of run) (first_cells run) with_it index task both now_kept part hears_so falls.above in
        let never : (i : ℕ) → latest.step ≢ steps.Remove i = λ i is_remove. let no : steps.PairLoad index ≡ steps.Remove i = sym falls.step_is ∙ is_remove in cc in
        let before_hit : HitSays all (heard index own) index known =
        in_hand_says all task own known (length earlier) good.says (Some (record { index = index; part = Hit })) falls.has in
        let settled_so : Settled all known =
        unheard_settled all task own known (length earlier) good.says index (heard index own)
        (λ half is_half above. let no : steps.PairLoad index ≡ steps.Clear index = sym falls.step_is ∙ settled.clears index falls.has (half, is_half, above) in cc)
        before_hit in
        let own_says : IsNamed (last_word (latest ∷ own)) (last_arming index (latest ∷ own)) (last_name (latest ∷ own)) (named_at index (latest ∷ own)) =
        in_part task (latest ∷ own) (subst Says mine (all_say task (records_of task with_it) (of_task task with_it) (now_kept.keeps task))) index Hit hand in
        let ticket : last_name (latest ∷ own) ≡ Some both.setter =
        own_says.1.1 ∙ (sym own_says.1.2 ∙ (ap (named_at index) (sym mine)
        ∙ (own_name run.rules.slots (locks_of run) (first_cells run) with_it index (record { setter = task; word = other.word }) now_kept other.met.armed
        ∙ other.named))) in
        let finder : finder_heard now.step now.answer ≡ falls.finder =
        ap (λ (st : Step). finder_heard st now.answer) (noted_so.step ∙ falls.step_is)
        ∙ ap (λ (an : Answer). finder_heard (steps.PairLoad index) an) (noted_so.answer ∙ falls.answer_is) in
        let it = pends index Hit (λ w e. cc) hand settled_so never falls.outcome falls.only (answer_is falls.outcome falls.answers)
        (λ number numbered fallen name.
        let same_number : told.0 ≡ number = some_is told.0 number (sym told.1 ∙ numbered) in
        let same_setter : both.setter ≡ ticket_number fallen.access = some_is both.setter (ticket_number fallen.access) (sym ticket ∙ name) in
        let meets : Contains (finders_told with_it) (meeting index number (ticket_number fallen.access) falls.finder) =
        subst (λ (n : ℕ). Contains (finders_told with_it) (meeting index n (ticket_number fallen.access) falls.finder)) same_number
        (subst (λ (n : ℕ). Contains (finders_told with_it) (meeting index told.0 n falls.finder)) same_setter told.2) in
        let in_all : Contains (finders_told all) (meeting index number (ticket_number fallen.access) falls.finder) =
        subst (λ (r : List Record). Contains (finders_told r) (meeting index number (ticket_number fallen.access) falls.finder)) (sym is)
        (still_told later with_it (meeting index number (ticket_number fallen.access) falls.finder) meets) in
        subst (λ (n : ℕ). BecameSo all index number (ticket_number fallen.access) falls.outcome n) (sym finder)
        (hit_so all index number (ticket_number fallen.access) falls.outcome falls.finder falls.answers in_all)) in
        comes_to it.1 (arms_of before) it.0 it.2 (arms_same never) it.3
        (subst (λ (h : Option InHand). HandSays all h (λ i. heard i (latest ∷ own)) (known_with it.1 (arms_of before) it.0)) (sym hand)
        (subst (λ (h : Option Halves). HitSays all h index (known_with it.1 (arms_of before) it.0)) (sym hears) (inr (falls.above, it.4))))

    -- the arming is removed
    removed : (index : ℕ) → latest.step ≡ steps.Remove index → Good task with_it (now ∷ before)
    removed index step_is =
        let allows : Allows task own (steps.Remove index) = subst (λ (st : Step). Allows task own st) step_is allowed in
        let pending : Pending all index known =
        in_hand_says all task own known (length earlier) good.says (Some (record { index = index; part = Cleared })) allows in
        let at : AtRemove run.rules.slots (locks_of run) (first_cells run) task index earlier =
        at_remove run.rules.slots (locks_of run) (first_cells run) latest earlier index now_kept step_is in
        let arm : Arm = arm_removed index before (arms_of before) in
        let word : unwrap_or (last_of armed before) 0 ≡ at.word =
        ap (λ (o : Option ℕ). unwrap_or o 0) (words_noted (list.tasks task) own before are ∙ at.own_armed) in
        let ticket : setter_named before ≡ ticket_number pending.verdict.access =
        ap (λ (o : Option ℕ). unwrap_or o 0) (names_noted (list.tasks task) own before are ∙ pending.named) in
        let result : unwrap_or (last_of became before) became_as.Quiet ≡ pending.outcome =
        ap (λ (o : Option ArmOutcome). unwrap_or o became_as.Quiet) pending.kept in
        let numbered : last_arming_number index earlier ≡ Some pending.number = sym (made_last task index at.word earlier at.armed_so) ∙ pending.made in
        let became_so : Became all index pending.number arm.setter pending.verdict.outcome arm.outcome =
        subst (λ (t : ℕ). Became all index pending.number t pending.verdict.outcome arm.outcome) (sym ticket)
        (subst (λ (o : ArmOutcome). Became all index pending.number (ticket_number pending.verdict.access) pending.verdict.outcome o) (sym result) pending.became) in
        let its : IsArm list task index earlier (arms_of before) arm = record {
          number = pending.number;
          last = numbered;
          armed = at.armed_so ∙ ap (λ (w : ℕ). Some (record { setter = task; word = w })) (sym word);
          index_is = refl;
          older = pending.older;
          verdict = pending.verdict;
          verdict_is = pending.all_are;
          on = pending.on;
          setter = ticket;
          became = became_so;
          repeats = refl;
        } in
        let suits : Suits all arm pending.verdict = record { number = pending.number; on = pending.on; setter = ticket; became = became_so } in
        let nothing : outcomes_in here ≡ [] = subst (λ (st : Step). Settles (in_hand own) st latest.answer (outcomes_in here)) step_is settled.settles in
        let arms_are : arms_of (now ∷ before) ≡ arms_of before ++ arm ∷ [] =
        ap (λ (st : Step). arms_at st before (arms_of before)) (noted_so.step ∙ step_is) in
        let verdicts : verdicts_by list task with_it ≡ pending.older ++ pending.verdict ∷ [] =
        verdicts_are ∙ (ap (λ (l : List OutcomeAt). verdicts_by list task earlier ++ l)
        (no_verdicts (length earlier) arming here (none_fell (outcomes_in here) nothing))
        ∙ (append-nil (verdicts_by list task earlier) ∙ pending.all_are)) in
        let hand : in_hand (latest ∷ own) ≡ None = ap (λ (st : Step). hand_after st latest.answer (in_hand own)) step_is in
        record {
          arms = (
            arms_of before,
            good.arms,
            rw (eq-eqb task task refl)
                (subst (λ (st : Step). AreArmsAt list task st earlier (arms_of before) (arms_of (now ∷ before))) (sym step_is) (arm, its, arms_are)),
          );
          says =
              comes_to (pending.older ++ pending.verdict ∷ []) (arms_of before ++ arm ∷ []) (last_of became (now ∷ before)) verdicts arms_are refl
              (subst (λ (h : Option InHand). HandSays all h (λ i. heard i (latest ∷ own))
              (known_with (pending.older ++ pending.verdict ∷ []) (arms_of before ++ arm ∷ []) (last_of became (now ∷ before)))) (sym hand)
              (match_with all (arms_of before) pending.older arm pending.verdict pending.matched suits));
        }

    says_on : ((index : ℕ) → latest.step ≢ steps.Remove index) → FallsHere (in_hand own) latest.step latest.answer (outcomes_in here)
        → SaysOf task with_it (known_by task with_it (now ∷ before))
    says_on never (nothing_falls none consumes un) = quietly none consumes un never
    says_on never (quiet_falls falls) = untouched falls
    says_on never (hit_falls falls) = hit falls

    by_step : Removing latest.step → Good task with_it (now ∷ before)
    by_step (of_index index step_is) = removed index step_is
    by_step (of_none never) = record {
      arms = as_before never;
      says = says_on never (falls_here (in_hand own) latest.step latest.answer (outcomes_in here) settled.settles);
    }

    pub one_more : Good task with_it (now ∷ before)
    one_more = by_step (removing latest.step)

  -- by all records of a task
  pub all_good : (task : ℕ) (later earlier : List Record) → all ≡ later ++ earlier → (noted : List Noted)
      → AreNoted (list.tasks task) (records_of task earlier) noted → Good task earlier noted
  all_good task later [] is [] are = record { arms = refl; says = tt }
  all_good task later [] is (noted ∷ before) are = absurd are
  all_good task later (latest ∷ earlier) is noted are =
      let back : all ≡ (later ++ latest ∷ []) ++ earlier = is ∙ sym (append_assoc later (latest ∷ []) earlier) in
      elim (eqb_tells latest.task task) [
        | inl mine ↦
            its (λ kept are_so. all_good task (later ++ latest ∷ []) earlier back kept are_so) noted
            (subst (λ (r : List Record). AreNoted (list.tasks task) r noted) (own_latest task latest earlier mine.1) are) mine.1
        | inr others ↦
            let same : records_of task (latest ∷ earlier) ≡ records_of task earlier = rw others.0 refl in
            of_another task latest earlier noted others.0
            (all_good task (later ++ latest ∷ []) earlier back noted (subst (λ (r : List Record). AreNoted (list.tasks task) r noted) same are))
      ]
    where
      its : ((kept : List Noted) → AreNoted (list.tasks task) (records_of task earlier) kept → Good task earlier kept)
          → (noted : List Noted)
          → AreNoted (list.tasks task) (latest ∷ records_of task earlier) noted → latest.task ≡ task → Good task (latest ∷ earlier) noted
      its rest [] are mine = absurd are
      its rest (now ∷ before) are mine =
          subst (λ (t : ℕ). ((kept : List Noted) → AreNoted (list.tasks t) (records_of t earlier) kept → Good t earlier kept)
          → AreNoted (list.tasks t) (latest ∷ records_of t earlier) (now ∷ before) → Good t (latest ∷ earlier) (now ∷ before)) mine
          (λ back_then are_so. one_more later latest earlier is now before are_so.1 are_so.0 (back_then before are_so.0)) rest are

  pub kept_arms_of : (task : ℕ) (noted : List Noted) → Notes list task noted → AreArmsBy list task all (arms_of noted)
  kept_arms_of task noted notes = (all_good task [] all refl noted notes).arms
