-- What the records of a task settle: the outcomes of its checks that fall at each.
use Rattle.std.specs.Prelude.{◌≡◌, ◌==◌, ◌&&◌, ◌⊎◌, ℕ, suc, Bool, true, false, List, [], ◌∷◌, Option, Some, MatchBool}
use Rattle.setup_access.specs.declared.outcome.Outcome.{Outcome}
use Rattle.setup_access.specs.declared.outcome.Outcome.TheVariants as outcomes
use Rattle.slot.specs.Pair.{Halves}
use Rattle.slot_table.specs.declared.discipline.InHand.{InHand}
use Rattle.slot_table.specs.declared.discipline.Part.{Part}
use Rattle.slot_table.specs.declared.discipline.Part.TheVariants.{Hit}
use Rattle.slot_table.specs.declared.step.Answer.{Answer}
use Rattle.slot_table.specs.declared.step.Answer.TheVariants as answers
use Rattle.slot_table.specs.declared.step.Step.{Step}
use Rattle.slot_table.specs.declared.step.Step.TheVariants.{Consume, Insert, Load, PairLoad, Tell, TryConsume}

-- nothing was found or set up
abbrev pub IsUnwatched : Outcome → Type 0
IsUnwatched outcomes.Nothing = Unit {0}
IsUnwatched outcomes.Unencodable = Unit {0}
IsUnwatched outcome = ⊥

-- the verdict on a watchpoint that nobody hit
abbrev pub IsUntouched : Outcome → Type 0
IsUntouched outcomes.Quiet = Unit {0}
IsUntouched (outcomes.Unknown old new) = Unit {0}
IsUntouched outcome = ⊥

-- the verdict on a watchpoint that was hit, by the pair that was heard: it is reported, or dropped
abbrev pub AnswersTo : Halves → Outcome → Type 0
AnswersTo both (outcomes.Report pair seen) = pair ≡ both
AnswersTo both (outcomes.Dropped reason) = Unit {0}
AnswersTo both outcome = ⊥

-- a finder told its own ticket
abbrev pub TellsOf : ℕ → Outcome → Type 0
TellsOf ticket (outcomes.Told pair) = pair.finder ≡ ticket
TellsOf ticket outcome = ⊥

-- there is one outcome, of this kind
abbrev pub One : (Outcome → Type 0) → List Outcome → Type 0
One Is fell = (outcome : Outcome) × (fell ≡ outcome ∷ []) × Is outcome

-- there is one at most
abbrev pub OneAtMost : (Outcome → Type 0) → List Outcome → Type 0
OneAtMost Is fell = (fell ≡ []) ⊎ One Is fell

abbrev pub is_hit : Part → Bool
is_hit Hit = true
is_hit part = false

-- a setter that found its word hit hears its finder: that half of the pair is above 0
abbrev pub hears_finder : Option InHand → ℕ → ℕ → Bool
hears_finder (Some hand) index (suc finder) = is_hit hand.part && hand.index == index
hears_finder hand index finder = false

-- What falls at a record of a task which had this in its hand before. A refused try-consume is lost,
-- a tell tells, an untouched consume has its verdict, and the load by which a setter hears its finder
-- that on two sides; each of these is one outcome. A load of a watch word may end a look-up of which
-- nothing comes, and a refused insertion the last place. No other record settles anything.
abbrev pub Settles : Option InHand → Step → Answer → List Outcome → Type 0
Settles hand (Load index) answer fell = OneAtMost IsUnwatched fell
Settles hand (Insert index word) (answers.Flag false) fell =
    OneAtMost (λ outcome. outcome ≡ outcomes.Capacity) fell
Settles hand (TryConsume index word) (answers.Flag false) fell =
    One (λ outcome. outcome ≡ outcomes.Lost) fell
Settles hand (Consume index) (answers.Flag true) fell = One IsUntouched fell
Settles hand (PairLoad index) (answers.Halves setter finder) fell =
    MatchBool (hears_finder hand index finder)
    (One (AnswersTo (record { setter = setter; finder = finder })) fell) (fell ≡ [])
Settles hand (Tell index ticket) answer fell = One (TellsOf ticket) fell
Settles hand step answer fell = fell ≡ []
