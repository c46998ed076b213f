-- Each arming and each taking that a task has begun has ended or is the one in its hand.
use Rattle.std.proofs.Common.{◌≡◌, ◌+◌, ◌∷◌, [], inl, inr, ℕ, Bool, true, false, List, Option, None, Some, ap, arith, cond, refl}
use Rattle.slot_table.specs.Discipline.{Allows, Discipline, IsFinished, hand_after, in_hand}
use Rattle.slot_table.specs.declared.discipline.InHand.{InHand}
use Rattle.slot_table.specs.declared.discipline.Part.{Part}
use Rattle.slot_table.specs.declared.discipline.Part.TheVariants.{Hit, Inserted, Named, Taken}
use Rattle.slot_table.specs.declared.records.Record.{Record}
use Rattle.slot_table.specs.declared.step.Answer.{Answer}
use Rattle.slot_table.specs.declared.step.Answer.TheVariants as answers
use Rattle.slot_table.specs.declared.step.Step.{Step}
use Rattle.slot_table.specs.declared.step.Step.TheVariants.{Clear, Consume, Insert, Name, Remove, Tell, TryConsume}
use Rattle.task_log.specs.Counters.{is_arming, is_quiet, is_taken}
use Rattle.soundness.proofs.Weights.{Weight, of_step, weigh_own}

-- a watchpoint is taken, and its setter told
abbrev pub is_taking : Step → Answer → Bool
is_taking (TryConsume index word) (answers.Flag true) = true
is_taking step answer = false

abbrev pub is_tell : Step → Answer → Bool
is_tell (Tell index ticket) answer = true
is_tell step answer = false

-- an arming that its setter has not ended
abbrev waits_in : Part → ℕ
waits_in (Inserted word) = 1
waits_in (Named ticket) = 1
waits_in part = 0

-- a taking that its finder has not told
abbrev takes_in : Part → ℕ
takes_in (Taken word) = 1
takes_in part = 0

-- an arming that was hit, until its pair is cleared
abbrev hits_in : Part → ℕ
hits_in Hit = 1
hits_in part = 0

abbrev pub by_part : (Part → ℕ) → Option InHand → ℕ
by_part of None = 0
by_part of (Some hand) = of hand.part

-- a pair is cleared of which the word was hit
abbrev pub clears_hit : Step → Option InHand → ℕ
clears_hit (Clear index) hand = by_part hits_in hand
clears_hit step hand = 0

abbrev pub of_clear : Weight
of_clear latest own = clears_hit latest.step (in_hand own)

abbrev pub of_end : Weight
of_end latest own = of_step is_quiet latest own + of_step is_taken latest own

-- each step that is allowed keeps these equal
arms_step : (task : ℕ) (own : List Record) (step : Step) (answer : Answer) → Allows task own step
    → cond (is_arming step answer) 1 0 + by_part waits_in (in_hand own)
    ≡ (cond (is_quiet step answer) 1 0 + cond (is_taken step answer) 1 0) + by_part waits_in (hand_after step answer (in_hand own))
arms_step task own (Insert index word) (answers.Flag true) allows = rw allows.1 refl
arms_step task own (TryConsume index word) (answers.Flag true) allows = rw allows.2 refl
arms_step task own (Name index ticket) answer allows = rw allows.2 refl
arms_step task own (Consume index) (answers.Flag true) allows = rw allows.1 refl
arms_step task own (Consume index) (answers.Flag false) allows = rw allows.1 refl
arms_step task own (Clear index) answer (inl untouched) = rw untouched refl
arms_step task own (Clear index) answer (inr hit) = rw hit.0 refl
arms_step task own (Remove index) answer allows = rw allows refl
arms_step task own (Tell index ticket) answer allows = rw allows.1.1 refl
arms_step task own step answer allows = refl

takes_step : (task : ℕ) (own : List Record) (step : Step) (answer : Answer) → Allows task own step
    → cond (is_taking step answer) 1 0 + by_part takes_in (in_hand own)
    ≡ cond (is_tell step answer) 1 0 + by_part takes_in (hand_after step answer (in_hand own))
takes_step task own (Insert index word) (answers.Flag true) allows = rw allows.1 refl
takes_step task own (TryConsume index word) (answers.Flag true) allows = rw allows.2 refl
takes_step task own (Name index ticket) answer allows = rw allows.2 refl
takes_step task own (Consume index) (answers.Flag true) allows = rw allows.1 refl
takes_step task own (Consume index) (answers.Flag false) allows = rw allows.1 refl
takes_step task own (Clear index) answer (inl untouched) = rw untouched refl
takes_step task own (Clear index) answer (inr hit) = rw hit.0 refl
takes_step task own (Remove index) answer allows = rw allows refl
takes_step task own (Tell index ticket) answer allows = rw allows.1.1 refl
takes_step task own step answer allows = refl

hits_step : (task : ℕ) (own : List Record) (step : Step) (answer : Answer) → Allows task own step
    → cond (is_taken step answer) 1 0 + by_part hits_in (in_hand own)
    ≡ clears_hit step (in_hand own) + by_part hits_in (hand_after step answer (in_hand own))
hits_step task own (Insert index word) (answers.Flag true) allows = rw allows.1 refl
hits_step task own (TryConsume index word) (answers.Flag true) allows = rw allows.2 refl
hits_step task own (Name index ticket) answer allows = rw allows.2 refl
hits_step task own (Consume index) (answers.Flag true) allows = rw allows.1 refl
hits_step task own (Consume index) (answers.Flag false) allows = rw allows.1 refl
hits_step task own (Clear index) answer (inl untouched) = rw untouched refl
hits_step task own (Clear index) answer (inr hit) = rw hit.0 refl
hits_step task own (Remove index) answer allows = rw allows refl
hits_step task own (Tell index ticket) answer allows = rw allows.1.1 refl
hits_step task own step answer allows = refl

-- so what a task has begun is what it has ended, and what it has in hand
module _ (of : Part → ℕ) (begun ended : Weight)
    (one : (task : ℕ) (latest : Record) (own : List Record) → Allows task own latest.step
    → begun latest own + by_part of (in_hand own) ≡ ended latest own + by_part of (hand_after latest.step latest.answer (in_hand own))) where
  held : (task : ℕ) (own : List Record) → Discipline task own → weigh_own begun own ≡ weigh_own ended own + by_part of (in_hand own)
  held task [] keeps = refl
  held task (latest ∷ earlier) keeps =
      let before = held task earlier keeps.0 in
      let now = one task latest earlier keeps.1 in
      let both : begun latest earlier + weigh_own begun earlier
      ≡ (ended latest earlier + weigh_own ended earlier) + by_part of (hand_after latest.step latest.answer (in_hand earlier)) =
      omega (arith, before, now) in both

  finished : (task : ℕ) (own : List Record) → Discipline task own → IsFinished own → weigh_own begun own ≡ weigh_own ended own
  finished task own keeps over =
      let all = held task own keeps in
      let none : by_part of (in_hand own) ≡ 0 = ap (by_part of) over in omega (arith, all, none)

pub arms_end : (task : ℕ) (own : List Record) → Discipline task own → IsFinished own → weigh_own (of_step is_arming) own ≡ weigh_own of_end own
arms_end = finished waits_in (of_step is_arming) of_end (λ task latest own. arms_step task own latest.step latest.answer)

pub takings_end : (task : ℕ) (own : List Record) → Discipline task own → IsFinished own
    → weigh_own (of_step is_taking) own ≡ weigh_own (of_step is_tell) own
takings_end = finished takes_in (of_step is_taking) (of_step is_tell) (λ task latest own. takes_step task own latest.step latest.answer)

pub hits_end : (task : ℕ) (own : List Record) → Discipline task own → IsFinished own → weigh_own (of_step is_taken) own ≡ weigh_own of_clear own
hits_end = finished hits_in (of_step is_taken) of_clear (λ task latest own. hits_step task own latest.step latest.answer)
