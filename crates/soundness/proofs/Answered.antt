-- Each hearing has one answer, and a report of unknown origin comes of a quiet end.
use Rattle.std.proofs.Common.{◌≡◌, ◌≤◌, ◌+◌, ◌++◌, ◌∷◌, ◌∙◌, [], inl, inr, ℕ, Bool, true, false, List, Option, Some, MatchBool, ap, arith, cond, count_by, map, refl, subst, sym}
use Rattle.setup_access.specs.declared.outcome.Outcome.{Outcome}
use Rattle.setup_access.specs.declared.outcome.Outcome.TheVariants as outcomes
use Rattle.slot.specs.Pair.{Halves}
use Rattle.slot_table.specs.Discipline.{in_hand}
use Rattle.slot_table.specs.Records.{records_of}
use Rattle.slot_table.specs.declared.discipline.InHand.{InHand}
use Rattle.slot_table.specs.declared.records.Record.{Record}
use Rattle.slot_table.specs.declared.step.Answer.{Answer}
use Rattle.slot_table.specs.declared.step.Answer.TheVariants as answers
use Rattle.slot_table.specs.declared.step.Step.{Step}
use Rattle.slot_table.specs.declared.step.Step.TheVariants.{Consume, Insert, Load, PairLoad, Tell, TryConsume}
use Rattle.task_log.specs.Counters.{is_encoding, is_masked, is_quiet, is_same, is_two_sided, is_unknown}
use Rattle.value_filter.specs.declared.verdict.Reason.TheVariants.{Encoding, MaskedBits, SameValue}
use Rattle.executions.specs.execution.Answers.{is_answer}
use Rattle.executions.specs.execution.Run.{Run}
use Rattle.executions.specs.execution.Execution.{Execution}
use Rattle.executions.specs.execution.Observed.{OutcomeAt, came_next, outcomes_by}
use Rattle.soundness.specs.Settles.{AnswersTo, IsUntouched, IsUnwatched, One, OneAtMost, Settles, TellsOf, hears_finder}
use Rattle.soundness.specs.Takings.{EachSettles}
use Rattle.soundness.proofs.Heard.{hears_now, of_hearing}
use Rattle.soundness.proofs.Counts.{answers_all, tells_none, untouched_none, unwatched_none}
use Rattle.soundness.proofs.Weights.{counted, of_step, weigh}

-- how many outcomes of a list are such
none_fell : (p : Outcome → Bool) (fell : List Outcome) → fell ≡ [] → count_by p fell ≡ 0
none_fell p fell is = ap (λ (l : List Outcome). count_by p l) is

one_fell : (p : Outcome → Bool) (outcome : Outcome) (fell : List Outcome) → fell ≡ outcome ∷ [] → count_by p fell ≡ cond (p outcome) 1 0
one_fell p outcome fell is =
    let one : count_by p (outcome ∷ []) ≡ cond (p outcome) 1 0 + 0 = counted p outcome [] in
    let same : count_by p fell ≡ count_by p (outcome ∷ []) = ap (λ (l : List Outcome). count_by p l) is in omega (arith, one, same)

one_of : (p : Outcome → Bool) (b : Bool) (Is : Outcome → Type 0) (fell : List Outcome) → ((outcome : Outcome) → Is outcome → p outcome ≡ b) → One Is fell
    → count_by p fell ≡ cond b 1 0
one_of p b Is fell are one = one_fell p one.0 fell one.1 ∙ ap (λ (c : Bool). cond c 1 0) (are one.0 one.2)

most_none : (p : Outcome → Bool) (Is : Outcome → Type 0) (fell : List Outcome) → ((outcome : Outcome) → Is outcome → p outcome ≡ false) → OneAtMost Is fell
    → count_by p fell ≡ 0
most_none p Is fell are (inl none) = none_fell p fell none
most_none p Is fell are (inr one) = one_of p false Is fell are one

-- which of them tell of an unknown origin
abbrev unknown_one : Outcome → Bool
unknown_one outcome = is_unknown (Some outcome)

unwatched_known : (outcome : Outcome) → IsUnwatched outcome → unknown_one outcome ≡ false
unwatched_known outcomes.Nothing is = refl
unwatched_known outcomes.Unencodable is = refl
unwatched_known outcome is = absurd is

tells_known : (ticket : ℕ) (outcome : Outcome) → TellsOf ticket outcome → unknown_one outcome ≡ false
tells_known ticket (outcomes.Told pair) is = refl
tells_known ticket outcome is = absurd is

answers_known : (both : Halves) (outcome : Outcome) → AnswersTo both outcome → unknown_one outcome ≡ false
answers_known both (outcomes.Report pair seen) is = refl
answers_known both (outcomes.Dropped reason) is = refl
answers_known both outcome is = absurd is

-- what falls at the load by which a setter hears, and at any other load of a pair
heard_one : (b : Bool) (both : Halves) (fell : List Outcome) → MatchBool b (One (AnswersTo both) fell) (fell ≡ []) → count_by is_answer fell ≡ cond b 1 0
heard_one true both fell h = one_of is_answer true (AnswersTo both) fell (answers_all both) h
heard_one false both fell h = none_fell is_answer fell h

heard_known : (b : Bool) (both : Halves) (fell : List Outcome) → MatchBool b (One (AnswersTo both) fell) (fell ≡ []) → count_by unknown_one fell ≡ 0
heard_known true both fell h = one_of unknown_one false (AnswersTo both) fell (answers_known both) h
heard_known false both fell h = none_fell unknown_one fell h

answers_here : (hand : Option InHand) (step : Step) (answer : Answer) (fell : List Outcome) → Settles hand step answer fell
    → count_by is_answer fell ≡ cond (hears_now step answer hand) 1 0
answers_here hand (Load index) answer fell h = most_none is_answer IsUnwatched fell unwatched_none h
answers_here hand (Insert index word) (answers.Flag false) fell h =
    most_none is_answer (λ o. o ≡ outcomes.Capacity) fell (λ o is. ap is_answer is) h
answers_here hand (TryConsume index word) (answers.Flag false) fell h = one_of is_answer false (λ o. o ≡ outcomes.Lost) fell (λ o is. ap is_answer is) h
answers_here hand (Consume index) (answers.Flag true) fell h = one_of is_answer false IsUntouched fell untouched_none h
answers_here hand (PairLoad index) (answers.Halves setter finder) fell h =
    heard_one (hears_finder hand index finder) (record { setter = setter; finder = finder }) fell h
answers_here hand (Tell index ticket) answer fell h = one_of is_answer false (TellsOf ticket) fell (tells_none ticket) h
answers_here hand step answer fell h = none_fell is_answer fell h

no_more : (n : ℕ) (b : Bool) → n ≡ 0 → n ≤ cond b 1 0
no_more n true is = omega (arith, is)
no_more n false is = omega (arith, is)

one_at_most : (p : Outcome → Bool) (fell : List Outcome) (Is : Outcome → Type 0) → One Is fell → count_by p fell ≤ 1
one_at_most p fell Is one = by_flag (p one.0) (one_fell p one.0 fell one.1)
  where
    by_flag : (b : Bool) → count_by p fell ≡ cond b 1 0 → count_by p fell ≤ 1
    by_flag true is = omega (arith, is)
    by_flag false is = omega (arith, is)

unknown_here : (hand : Option InHand) (step : Step) (answer : Answer) (fell : List Outcome) → Settles hand step answer fell
    → count_by unknown_one fell ≤ cond (is_quiet step answer) 1 0
unknown_here hand (Load index) answer fell h = no_more _ false (most_none unknown_one IsUnwatched fell unwatched_known h)
unknown_here hand (Insert index word) (answers.Flag false) fell h =
    no_more _ false (most_none unknown_one (λ o. o ≡ outcomes.Capacity) fell (λ o is. ap unknown_one is) h)
unknown_here hand (TryConsume index word) (answers.Flag false) fell h =
    no_more _ false (one_of unknown_one false (λ o. o ≡ outcomes.Lost) fell (λ o is. ap unknown_one is) h)
unknown_here hand (Consume index) (answers.Flag true) fell h = one_at_most unknown_one fell IsUntouched h
unknown_here hand (PairLoad index) (answers.Halves setter finder) fell h =
    no_more _ false (heard_known (hears_finder hand index finder) (record { setter = setter; finder = finder }) fell h)
unknown_here hand (Tell index ticket) answer fell h = no_more _ false (one_of unknown_one false (TellsOf ticket) fell (tells_known ticket) h)
unknown_here hand step answer fell h = no_more _ (is_quiet step answer) (none_fell unknown_one fell h)

-- the outcomes that the list tells, record by record
counted_both : {X : Type 0} (p : X → Bool) (first later : List X) → count_by p (first ++ later) ≡ count_by p first + count_by p later
counted_both p [] later = let same : count_by p later ≡ 0 + count_by p later = omega arith in same
counted_both p (x ∷ first) later =
    let one = counted p x (first ++ later) in
    let two = counted p x first in
    let rest = counted_both p first later in omega (arith, one, two, rest)

counted_alike : (p : Outcome → Bool) (came : List OutcomeAt)
    → count_by (λ (c : OutcomeAt). p c.outcome) came ≡ count_by p (map (λ (c : OutcomeAt). c.outcome) came)
counted_alike p [] = refl
counted_alike p (one ∷ others) =
    counted (λ (c : OutcomeAt). p c.outcome) one others
    ∙ (ap (λ (n : ℕ). cond (p one.outcome) 1 0 + n) (counted_alike p others)
    ∙ sym (counted p one.outcome (map (λ (c : OutcomeAt). c.outcome) others)))

module _ {run : Run} {all : List Record} (list : Execution run all) where
  abbrev told_so : (Outcome → Bool) → List Record → ℕ
  told_so p records = count_by (λ (came : OutcomeAt). p came.outcome) (outcomes_by list records)

  one_record : (p : Outcome → Bool) (latest : Record) (earlier : List Record)
      → told_so p (latest ∷ earlier) ≡ told_so p earlier + count_by p (map (λ (c : OutcomeAt). c.outcome) (came_next list latest earlier))
  one_record p latest earlier =
      counted_both (λ (c : OutcomeAt). p c.outcome) (outcomes_by list earlier) (came_next list latest earlier)
      ∙ ap (λ (n : ℕ). told_so p earlier + n) (counted_alike p (came_next list latest earlier))

  pub answers_heard : (records : List Record) → EachSettles list records → told_so is_answer records ≡ weigh of_hearing records
  answers_heard [] settles = refl
  answers_heard (latest ∷ earlier) settles =
      let rest : told_so is_answer earlier ≡ weigh of_hearing earlier = answers_heard earlier settles.0 in
      let one = one_record is_answer latest earlier in
      let now = answers_here (in_hand (records_of latest.task earlier)) latest.step latest.answer _ settles.1 in
      let here : ℕ = cond (hears_now latest.step latest.answer (in_hand (records_of latest.task earlier))) 1 0 in
      let fell : ℕ = count_by is_answer (map (λ (c : OutcomeAt). c.outcome) (came_next list latest earlier)) in
      let now_so : fell ≡ here = now in
      let sum : told_so is_answer earlier + fell ≡ here + weigh of_hearing earlier = omega (arith, now_so, rest) in one ∙ sum

  pub unknown_quiet : (records : List Record) → EachSettles list records → told_so unknown_one records ≤ weigh (of_step is_quiet) records
  unknown_quiet [] settles = omega arith
  unknown_quiet (latest ∷ earlier) settles =
      let rest : told_so unknown_one earlier ≤ weigh (of_step is_quiet) earlier = unknown_quiet earlier settles.0 in
      let one = one_record unknown_one latest earlier in
      let now = unknown_here (in_hand (records_of latest.task earlier)) latest.step latest.answer _ settles.1 in
      let here : ℕ = cond (is_quiet latest.step latest.answer) 1 0 in
      let fell : ℕ = count_by unknown_one (map (λ (c : OutcomeAt). c.outcome) (came_next list latest earlier)) in
      let now_so : fell ≤ here = now in
      let sum : told_so unknown_one earlier + fell ≤ here + weigh (of_step is_quiet) earlier = omega (arith, now_so, rest) in
      subst (λ (n : ℕ). n ≤ here + weigh (of_step is_quiet) earlier) (sym one) sum

-- an answer is a report of two sides, or a discard with one of three names
answer_kinds : (o : Outcome)
    → cond (is_answer o) 1 0
    ≡ ((cond (is_two_sided (Some o)) 1 0 + cond (is_encoding (Some o)) 1 0) + cond (is_same (Some o)) 1 0) + cond (is_masked (Some o)) 1 0
answer_kinds (outcomes.Report pair seen) = refl
answer_kinds (outcomes.Dropped Encoding) = refl
answer_kinds (outcomes.Dropped SameValue) = refl
answer_kinds (outcomes.Dropped MaskedBits) = refl
answer_kinds outcome = refl

abbrev so : (Option Outcome → Bool) → List OutcomeAt → ℕ
so p came = count_by (λ (c : OutcomeAt). p (Some c.outcome)) came

pub kinds_of_answers : (came : List OutcomeAt)
    → count_by (λ (c : OutcomeAt). is_answer c.outcome) came ≡ so is_two_sided came + so is_encoding came + so is_same came + so is_masked came
kinds_of_answers [] = refl
kinds_of_answers (one ∷ others) =
    let rest = kinds_of_answers others in
    let all = counted (λ (c : OutcomeAt). is_answer c.outcome) one others in
    let two = counted (λ (c : OutcomeAt). is_two_sided (Some c.outcome)) one others in
    let encoding = counted (λ (c : OutcomeAt). is_encoding (Some c.outcome)) one others in
    let same = counted (λ (c : OutcomeAt). is_same (Some c.outcome)) one others in
    let masked = counted (λ (c : OutcomeAt). is_masked (Some c.outcome)) one others in
    let now = answer_kinds one.outcome in omega (arith, rest, all, two, encoding, same, masked, now)
