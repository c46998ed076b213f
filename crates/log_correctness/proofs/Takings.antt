-- The takings that a log keeps are those over which its task told.
use Rattle.std.proofs.Common.{◌≡◌, ◌∙◌, ◌++◌, ◌∷◌, if◌then◌else◌, [], inl, inr, ℕ, All, Bool, Contains, List, Option, Some, ap, append_assoc, arith, length, map, refl, reverse, subst, sym}
use Rattle.std.proofs.lemmas.Bool.{eq-eqb}
use Rattle.std.proofs.lemmas.Bool.Decides.{eqb_tells}
use Rattle.std.proofs.lemmas.List.{append-nil}
use Rattle.std.proofs.lemmas.List.Elements.{All-contains, Contains-append_left, Contains-append_right}
use Rattle.access_types.specs.Takes.{Take}
use Rattle.access_types.specs.Ticket.{ticket_number}
use Rattle.executions.specs.execution.Run.{Run}
use Rattle.executions.specs.execution.Execution.{Execution}
use Rattle.executions.specs.execution.Observed.{Armed, OutcomeAt, armed_by, came_next, made_by, outcome_at, outcomes_by, outcomes_of}
use Rattle.executions.proofs.execution.OwnLasts.{hears_at, own_latest}
use Rattle.log_correctness.specs.Lists.{take_of, takes_by}
use Rattle.log_correctness.specs.Noted.{AreNoted, IsNoted, Notes}
use Rattle.log_correctness.proofs.OutcomesOfOwnTask.{AllOfTask}
use Rattle.log_correctness.proofs.Verdicts.{fell_own, noted_one, only_one, same_end}
use Rattle.soundness.specs.Finds.{IfTelling, IsOfFind, is_telling}
use Rattle.soundness.specs.Settles.{Settles, TellsOf}
use Rattle.soundness.proofs.Falls.{outcomes_in}
use Rattle.soundness.proofs.Finds.{ends_so}
use Rattle.soundness.proofs.Lists.{SettledAt, settled_at}
use Rattle.setup_access.specs.Check.{Fallen}
use Rattle.setup_access.specs.declared.outcome.Outcome.{Outcome}
use Rattle.setup_access.specs.declared.outcome.Outcome.TheVariants as outcomes
use Rattle.slot.specs.Pair.{Halves}
use Rattle.slot_table.specs.Discipline.{heard, in_hand}
use Rattle.slot_table.specs.Hearings.{EachHearsTheOther, HearsTheOther}
use Rattle.slot_table.specs.Meetings.{Meeting, told_by, told_to}
use Rattle.slot_table.specs.Records.{records_of}
use Rattle.slot_table.specs.declared.records.Record.{Record}
use Rattle.slot_table.specs.declared.step.Step.{Step}
use Rattle.slot_table.specs.declared.step.Step.TheVariants as steps
use Rattle.slot_table.proofs.Moves.{some_same}
use Rattle.task_log.specs.Arms.{setter_told, takes_at, takes_of}
use Rattle.task_log.specs.declared.noted.Noted.{Noted}

-- a tell's one outcome has a pair
record TellsPair (outcome : Outcome) : Type 0 where
  pair : Halves
  is : outcome ≡ outcomes.Told pair

tells_pair : (ticket : ℕ) (outcome : Outcome) → TellsOf ticket outcome → TellsPair outcome
tells_pair ticket (outcomes.Told pair) is = record { pair = pair; is = refl }
tells_pair ticket outcome is = absurd is

same_told : (one other : Halves) → outcomes.Told one ≡ outcomes.Told other → one ≡ other
same_told one other is = cc

same_tell : (index ticket at told : ℕ) → steps.Tell index ticket ≡ steps.Tell at told → index ≡ at
same_tell index ticket at told is = cc

-- is the step a tell?
data Telling (step : Step) : Type 0 where
  of_one : (index ticket : ℕ) → step ≡ steps.Tell index ticket → Telling step
  of_none : ((outcome : Option Outcome) (before : List Take) → takes_at step outcome before ≡ before)
      → ((task : ℕ) (earlier : List Record) → told_by task step earlier [] ≡ []) → Telling step

telling : (step : Step) → Telling step
telling (steps.Tell index ticket) = of_one index ticket refl
telling (steps.Remove index) = of_none (λ outcome before. refl) (λ task earlier. refl)
telling (steps.Load index) = of_none (λ outcome before. refl) (λ task earlier. refl)
telling (steps.Insert index word) = of_none (λ outcome before. refl) (λ task earlier. refl)
telling (steps.TryConsume index word) = of_none (λ outcome before. refl) (λ task earlier. refl)
telling (steps.Consume index) = of_none (λ outcome before. refl) (λ task earlier. refl)
telling (steps.PairLoad index) = of_none (λ outcome before. refl) (λ task earlier. refl)
telling (steps.Name index ticket) = of_none (λ outcome before. refl) (λ task earlier. refl)
telling (steps.Clear index) = of_none (λ outcome before. refl) (λ task earlier. refl)
telling (steps.CellLoad cell) = of_none (λ outcome before. refl) (λ task earlier. refl)
telling (steps.CellExchange cell expected new) = of_none (λ outcome before. refl) (λ task earlier. refl)
telling (steps.LockTry lock holder) = of_none (λ outcome before. refl) (λ task earlier. refl)
telling (steps.LockStore lock) = of_none (λ outcome before. refl) (λ task earlier. refl)
telling steps.Clock = of_none (λ outcome before. refl) (λ task earlier. refl)

module _ (run : Run) (all : List Record) (list : Execution run all) (hears : EachHearsTheOther all) (finds : All (IfTelling list) (outcomes_of list)) where
  told_in_all : (later earlier : List Record) (came : OutcomeAt) → Contains (outcomes_by list earlier) came
      → Contains (outcomes_by list (later ++ earlier)) came
  told_in_all [] earlier came there = there
  told_in_all (latest ∷ later) earlier came there =
      Contains-append_left (outcomes_by list (later ++ earlier)) (came_next list latest (later ++ earlier)) came (told_in_all later earlier came there)

  -- one more record of the task
  module _ (later : List Record) (latest : Record) (earlier : List Record) (is : all ≡ later ++ latest ∷ earlier) (now : Noted) (before : List Noted)
      (noted_so : IsNoted (list.tasks latest.task) (made_by latest.task earlier) latest now) where
    abbrev task : ℕ
    task = latest.task

    abbrev with_it : List Record
    with_it = latest ∷ earlier

    settled : SettledAt run all list latest earlier
    settled = settled_at run all list later latest earlier is

    abbrev arming : Option Armed
    arming = armed_by task with_it

    -- the setter that is told is the one that was heard
    told_one : (index ticket : ℕ) → latest.step ≡ steps.Tell index ticket
        → record { finder = ticket; index = index; setter = setter_told now.outcome } ∷ [] ≡ map take_of (told_by task (steps.Tell index ticket) earlier [])
    told_one index ticket step_is =
        let falls = subst (λ (st : Step). Settles (in_hand (records_of task earlier)) st latest.answer (outcomes_in settled.here)) step_is settled.settles in
        let one = only_one settled.here falls.0 falls.1 in
        let fallen : Fallen = one.0 in
        let tells = tells_pair ticket falls.0 falls.2 in
        let its : fallen.outcome ≡ outcomes.Told tells.pair = one.2 ∙ tells.is in
        let noted_outcome : now.outcome ≡ Some falls.0 =
        noted_one now.outcome falls.0 (sym noted_so.outcome ∙ (ap outcomes_in settled.all ∙ falls.1)) in
        let setter : setter_told now.outcome ≡ tells.pair.setter = ap setter_told (noted_outcome ∙ ap Some tells.is) in
        let came : OutcomeAt = outcome_at (length earlier) arming fallen in
        let next : came_next list latest earlier ≡ came ∷ [] =
        ap (λ (l : List Fallen). map (outcome_at (length earlier) arming) l) (settled.all ∙ one.1) in
        let there : Contains (outcomes_by list with_it) came =
        Contains-append_right (outcomes_by list earlier) (came_next list latest earlier) came
        (subst (λ (l : List OutcomeAt). Contains l came) (sym next) (0, omega arith, refl)) in
        let in_all : Contains (outcomes_of list) came =
        subst (λ (r : List Record). Contains (outcomes_by list r) came) (sym is) (told_in_all later with_it came there) in
        let it : IsOfFind list came = All-contains (IfTelling list) (outcomes_of list) came finds in_all (ap is_telling its) in
        let of : fallen.access.task ≡ task =
        (subst (λ (l : List Fallen). AllOfTask task l) (settled.all ∙ one.1) (fell_own run all list task (made_by task earlier))).0 in
        let same : it.by_then ≡ with_it = same_end it.later it.by_then later with_it (sym it.split ∙ is) it.at in
        let own_is : records_of fallen.access.task with_it ≡ reverse it.find ++ it.before =
        ap (λ (r : List Record). records_of fallen.access.task r) (sym same) ∙ it.own in
        let ends = ends_so run came it.index it.word it.find it.before latest earlier it.is_find (sym of) own_is in
        let index_is : it.index ≡ index = same_tell it.index (ticket_number fallen.access) index ticket (sym ends.step ∙ step_is) in
        let hears_so = subst (λ (st : Step). HearsTheOther task st earlier) step_is (hears_at later latest earlier (subst EachHearsTheOther is hears)) in
        let both : Halves = hears_so.1 in
        let heard_pair : heard index (records_of task earlier) ≡ Some ends.pair =
        subst (λ (t : ℕ). heard index (records_of t earlier) ≡ Some ends.pair) of
        (subst (λ (i : ℕ). heard i (records_of fallen.access.task earlier) ≡ Some ends.pair) index_is ends.hears) in
        let same_pair : both ≡ ends.pair = some_same (sym hears_so.3 ∙ heard_pair) in
        let other_pair : Halves = record { setter = ends.pair.setter; finder = ticket_number fallen.access } in
        let told_pair : tells.pair ≡ other_pair = same_told tells.pair other_pair (sym its ∙ ends.told) in
        let setter_is : setter_told now.outcome ≡ both.setter = setter ∙ (ap (λ (p : Halves). p.setter) told_pair ∙ sym (ap (λ (p : Halves). p.setter) same_pair)) in
        let meets : told_by task (steps.Tell index ticket) earlier [] ≡ record { index = index; number = hears_so.4.number; setter = both.setter; finder = ticket } ∷ [] =
        ap (λ (n : Option ℕ). told_to index ticket n (heard index (records_of task earlier)) []) hears_so.4.met.last
        ∙ ap (λ (h : Option Halves). told_to index ticket (Some hears_so.4.number) h []) hears_so.3 in
        ap (λ (n : ℕ). record { finder = ticket; index = index; setter = n } ∷ []) setter_is ∙ ap (map take_of) (sym meets)

    abbrev took : Step → List Take
    took step = map take_of (told_by task step earlier [])

    by_step : Telling latest.step → takes_of before ≡ takes_by task earlier
        → takes_at latest.step now.outcome (takes_of before) ≡ takes_by task earlier ++ took latest.step
    by_step (of_one index ticket step_is) rest =
        ap (λ (st : Step). takes_at st now.outcome (takes_of before)) step_is
        ∙ (ap (λ (l : List Take). takes_of before ++ l) (told_one index ticket step_is)
        ∙ (ap (λ (st : Step). takes_of before ++ took st) (sym step_is) ∙ ap (λ (l : List Take). l ++ took latest.step) rest))
    by_step (of_none same none) rest =
        same now.outcome (takes_of before) ∙ (rest ∙ (sym (append-nil (takes_by task earlier))
        ∙ ap (λ (l : List Meeting). takes_by task earlier ++ map take_of l) (sym (none task earlier))))

    one_more : takes_of before ≡ takes_by task earlier → takes_of (now ∷ before) ≡ takes_by task with_it
    one_more rest =
        ap (λ (st : Step). takes_at st now.outcome (takes_of before)) noted_so.step
        ∙ (by_step (telling latest.step) rest
        ∙ ap (λ (b : Bool). takes_by task earlier ++ (if b then took latest.step else [])) (sym (eq-eqb task task refl)))

  all_taken : (task : ℕ) (later earlier : List Record) → all ≡ later ++ earlier → (noted : List Noted)
      → AreNoted (list.tasks task) (records_of task earlier) noted → takes_of noted ≡ takes_by task earlier
  all_taken task later [] is [] are = refl
  all_taken task later [] is (noted ∷ before) are = absurd are
  all_taken task later (latest ∷ earlier) is noted are =
      let back : all ≡ (later ++ latest ∷ []) ++ earlier = is ∙ sym (append_assoc later (latest ∷ []) earlier) in
      elim (eqb_tells latest.task task) [
        | inl mine ↦
            its (λ kept are_so. all_taken task (later ++ latest ∷ []) earlier back kept are_so) noted
            (subst (λ (r : List Record). AreNoted (list.tasks task) r noted) (own_latest task latest earlier mine.1) are) mine.1
        | inr others ↦
            let same : records_of task (latest ∷ earlier) ≡ records_of task earlier = rw others.0 refl in
            all_taken task (later ++ latest ∷ []) earlier back noted (subst (λ (r : List Record). AreNoted (list.tasks task) r noted) same are)
            ∙ (sym (append-nil (takes_by task earlier))
            ∙ ap (λ (b : Bool). takes_by task earlier ++ (if b then map take_of (told_by latest.task latest.step earlier []) else [])) (sym others.0))
      ]
    where
      its : ((kept : List Noted) → AreNoted (list.tasks task) (records_of task earlier) kept → takes_of kept ≡ takes_by task earlier)
          → (noted : List Noted)
          → AreNoted (list.tasks task) (latest ∷ records_of task earlier) noted → latest.task ≡ task
          → takes_of noted ≡ takes_by task (latest ∷ earlier)
      its rest [] are mine = absurd are
      its rest (now ∷ before) are mine =
          subst (λ (t : ℕ). ((kept : List Noted) → AreNoted (list.tasks t) (records_of t earlier) kept → takes_of kept ≡ takes_by t earlier)
          → AreNoted (list.tasks t) (latest ∷ records_of t earlier) (now ∷ before)
          → takes_of (now ∷ before) ≡ takes_by t (latest ∷ earlier)) mine
          (λ back_then are_so. one_more later latest earlier is now before are_so.1 (back_then before are_so.0)) rest are

  pub kept_takes_of : (task : ℕ) (noted : List Noted) → Notes list task noted → takes_of noted ≡ takes_by task all
  kept_takes_of task noted notes = all_taken task [] all refl noted notes
