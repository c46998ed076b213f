-- A taking of a list is the latest record or one of the rest.
use Rattle.std.proofs.Common.{◌≡◌, ◌<◌, ◌≤◌, ◌-◌, ◌∷◌, [], inl, inr, ℕ, suc, List, arith, drop, length, slice_index_or, subst, sym, take}
use Rattle.std.proofs.Math.Seq.{take-length}
use Rattle.oracle_soundness.specs.oracle_headline.Tried.{Account, Answered, HasEnded, TakingsAnswered, WasArmed}
use Rattle.slot_table.specs.Hearings.{IsArming, IsTaking}
use Rattle.slot_table.specs.declared.records.Record.{Record}

-- the latest record of a list, and those before it, as the code says them
abbrev front : List Record → Record → Record
front records other = slice_index_or records 0 other

abbrev rest : List Record → List Record
rest records = take (length records - 1) (drop 1 records)

rest_is : (l : List Record) → take (suc (length l) - 1) l ≡ l
rest_is l = let n : suc (length l) - 1 ≡ length l = omega arith in rw n (take-length l)

armed_later : (told : Account) (index number : ℕ) (latest : Record) (earlier : List Record)
    → ((setter word : ℕ) → IsArming index number setter word latest earlier
    → HasEnded told.history latest.task (told.moments (length earlier)) → ⊥)
    → WasArmed told index number (latest ∷ earlier) → WasArmed told index number earlier
armed_later told index number latest earlier none was = elim was.there [
  | inl here ↦ absurd (none was.setter was.word here.0 here.1)
  | inr there ↦ record { setter = was.setter; word = was.word; there = there }
]

-- An arming that isn't the latest record is one of the rest.
pub armed_on : (told : Account) (index number : ℕ) (records : List Record) (other : Record) → 1 ≤ length records
    → ((setter word : ℕ) → IsArming index number setter word (front records other) (rest records)
    → HasEnded told.history (front records other).task (told.moments (length (rest records))) → ⊥)
    → WasArmed told index number records → WasArmed told index number (rest records)
armed_on told index number [] other some none was = absurd (omega (arith, some))
armed_on told index number (latest ∷ earlier) other some none was =
    subst (λ (l : List Record). WasArmed told index number l) (sym (rest_is earlier))
    (armed_later told index number latest earlier
    (subst (λ (l : List Record). (setter word : ℕ) → IsArming index number setter word latest l
    → HasEnded told.history latest.task (told.moments (length l)) → ⊥) (rest_is earlier) none) was)

answered_first : (told : Account) (latest : Record) (earlier : List Record)
    → ((index number finder word : ℕ) → IsTaking index number finder word latest earlier
    → HasEnded told.history latest.task (told.moments (length earlier)) → WasArmed told index number told.records
    → Answered told index number)
    → TakingsAnswered told earlier → TakingsAnswered told (latest ∷ earlier)
answered_first told latest earlier first others = λ index number taken armed. elim taken.there [
  | inl here ↦ first index number taken.finder taken.word here.0 here.1 armed
  | inr there ↦ others index number (record { finder = taken.finder; word = taken.word; there = there }) armed
]

-- If what the latest record takes is answered, and what the others take, all are.
pub answered_on : (told : Account) (records : List Record) (other : Record) → 1 ≤ length records
    → ((index number finder word : ℕ) → IsTaking index number finder word (front records other) (rest records)
    → HasEnded told.history (front records other).task (told.moments (length (rest records)))
    → WasArmed told index number told.records → Answered told index number)
    → TakingsAnswered told (rest records) → TakingsAnswered told records
answered_on told [] other some first others = absurd (omega (arith, some))
answered_on told (latest ∷ earlier) other some first others =
    answered_first told latest earlier
    (subst (λ (l : List Record). (index number finder word : ℕ) → IsTaking index number finder word latest l
    → HasEnded told.history latest.task (told.moments (length l)) → WasArmed told index number told.records
    → Answered told index number) (rest_is earlier) first)
    (subst (λ (l : List Record). TakingsAnswered told l) (rest_is earlier) others)

-- Of no records all takings are answered.
pub none_taken : (told : Account) (records : List Record) → length records < 1 → TakingsAnswered told records
none_taken told [] none = λ index number taken armed. absurd taken.there
none_taken told (latest ∷ earlier) none = absurd (omega (arith, none))
