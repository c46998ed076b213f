-- Records with other answers of the clock: each step that has them goes on as before.
use Rattle.std.proofs.Common.{◌≡◌, ◌∷◌, [], ℕ, Bool, List, MatchBool, true, false, arith, length, refl, subst, sym}
use Rattle.slot.specs.Pair.{Halves}
use Rattle.slot_table.specs.Answer.{IsWord}
use Rattle.slot_table.specs.declared.records.Record.{Record}
use Rattle.slot_table.specs.declared.step.Answer.{Answer}
use Rattle.slot_table.specs.declared.step.Answer.TheVariants as answers
use Rattle.slot_table.specs.declared.step.Step.{Step}
use Rattle.slot_table.specs.declared.step.Step.TheVariants.{Clock}
use Rattle.setup_access.specs.Records.{Makes, MakesDone, MakesFlag, MakesWord, OnFlag, OnHalves, OnWord}

abbrev pub AsksClock : Step → Type 0
AsksClock Clock = Unit {0}
AsksClock step = ⊥

-- what is answered in place, by how many records follow: the same, but for stamps
pub record GivesStamps (given : ℕ → Record → Answer) : Type 0 where
  pub keeps : (left : ℕ) (made : Record) → (AsksClock made.step → ⊥) → given left made ≡ made.answer
  pub stamps : (left : ℕ) (made : Record) → AsksClock made.step → IsWord made.answer → IsWord (given left made)

-- the records with these answers
abbrev pub restamped : (ℕ → Record → Answer) → List Record → List Record
restamped given [] = []
restamped given (first ∷ later) = record first { answer = given (length later) first } ∷ restamped given later

pub same_length : (given : ℕ → Record → Answer) (records : List Record) → length (restamped given records) ≡ length records
same_length given [] = refl
same_length given (first ∷ later) = let more : length (restamped given later) ≡ length later = same_length given later in omega (arith, more)

pub either_way : (b : Bool) (A B C D : Type 0) → (A → C) → (B → D) → MatchBool b A B → MatchBool b C D
either_way true A B C D holds fails h = holds h
either_way false A B C D holds fails h = fails h

word_so : (answer : Answer) (P Q : ℕ → Type 0) → ((word : ℕ) → P word → Q word) → OnWord answer P → OnWord answer Q
word_so (answers.Word word) P Q on h = on word h
word_so (answers.Flag flag) P Q on h = h
word_so (answers.Halves setter finder) P Q on h = h
word_so answers.Done P Q on h = h

pub flag_so : (answer : Answer) (P Q : Bool → Type 0) → ((flag : Bool) → P flag → Q flag) → OnFlag answer P → OnFlag answer Q
flag_so (answers.Word word) P Q on h = h
flag_so (answers.Flag flag) P Q on h = on flag h
flag_so (answers.Halves setter finder) P Q on h = h
flag_so answers.Done P Q on h = h

pub halves_so : (answer : Answer) (P Q : Halves → Type 0) → ((heard : Halves) → P heard → Q heard) → OnHalves answer P → OnHalves answer Q
halves_so (answers.Word word) P Q on h = h
halves_so (answers.Flag flag) P Q on h = h
halves_so (answers.Halves setter finder) P Q on h = on (record { setter = setter; finder = finder }) h
halves_so answers.Done P Q on h = h

stamp_of : (answer : Answer) (P : Type 0) → OnWord answer (λ word. P) → IsWord answer × P
stamp_of (answers.Word word) P h = (tt, h)
stamp_of (answers.Flag flag) P h = absurd h
stamp_of (answers.Halves setter finder) P h = absurd h
stamp_of answers.Done P h = absurd h

with_stamp : (answer : Answer) (P : Type 0) → IsWord answer → P → OnWord answer (λ word. P)
with_stamp (answers.Word word) P is so = so
with_stamp (answers.Flag flag) P is so = absurd is
with_stamp (answers.Halves setter finder) P is so = absurd is
with_stamp answers.Done P is so = absurd is

module _ (given : ℕ → Record → Answer) (gives : GivesStamps given) where
  abbrev put : List Record → List Record
  put records = restamped given records

  -- the answer of a step that asks for no stamp is the same
  pub same_answer : (left : ℕ) (made : Record) (step : Step) → (AsksClock step → ⊥) → made.step ≡ step → given left made ≡ made.answer
  same_answer left made step none is = gives.keeps left made (λ asks. none (subst AsksClock is asks))

  makes : (task : ℕ) (step : Step) (Next Too : Answer → List Record → Type 0) → (AsksClock step → ⊥) → (records : List Record)
      → Makes task step Next records → ((answer : Answer) (later : List Record) → Next answer later → Too answer (put later))
      → Makes task step Too (put records)
  makes task step Next Too none [] h on = absurd h
  makes task step Next Too none (first ∷ later) h on = (
    h.0,
    h.1,
    subst (λ (x : Answer). Too x (put later)) (sym (same_answer (length later) first step none h.1)) (on first.answer later h.2),
  )

  pub word : (task : ℕ) (step : Step) (Next Too : ℕ → List Record → Type 0) → (AsksClock step → ⊥) → (records : List Record)
      → MakesWord task step Next records → ((word : ℕ) (later : List Record) → Next word later → Too word (put later))
      → MakesWord task step Too (put records)
  word task step Next Too none records h on =
      makes task step (λ answer later. OnWord answer (λ w. Next w later)) (λ answer later. OnWord answer (λ w. Too w later)) none records h
      (λ answer later so. word_so answer (λ w. Next w later) (λ w. Too w (put later)) (λ w next. on w later next) so)

  pub flag : (task : ℕ) (step : Step) (Next Too : Bool → List Record → Type 0) → (AsksClock step → ⊥) → (records : List Record)
      → MakesFlag task step Next records → ((flag : Bool) (later : List Record) → Next flag later → Too flag (put later))
      → MakesFlag task step Too (put records)
  flag task step Next Too none records h on =
      makes task step (λ answer later. OnFlag answer (λ b. Next b later)) (λ answer later. OnFlag answer (λ b. Too b later)) none records h
      (λ answer later so. flag_so answer (λ b. Next b later) (λ b. Too b (put later)) (λ b next. on b later next) so)

  pub done : (task : ℕ) (step : Step) (Next Too : List Record → Type 0) → (AsksClock step → ⊥) → (records : List Record)
      → MakesDone task step Next records → ((later : List Record) → Next later → Too (put later)) → MakesDone task step Too (put records)
  done task step Next Too none records h on =
      makes task step (λ answer later. (answer ≡ answers.Done) × Next later) (λ answer later. (answer ≡ answers.Done) × Too later) none records h
      (λ answer later so. (so.0, on later so.1))

  -- a stamp may be any
  pub stamp : (task : ℕ) (Next Too : List Record → Type 0) (records : List Record) → MakesWord task Clock (λ stamp later. Next later) records
      → ((later : List Record) → Next later → Too (put later)) → MakesWord task Clock (λ stamp later. Too later) (put records)
  stamp task Next Too [] h on = absurd h
  stamp task Next Too (first ∷ later) h on =
      let it = stamp_of first.answer (Next later) h.2 in (
        h.0,
        h.1,
        with_stamp (given (length later) first) (Too (put later))
            (gives.stamps (length later) first (subst AsksClock (sym h.1) tt) it.0) (on later it.1),
      )
