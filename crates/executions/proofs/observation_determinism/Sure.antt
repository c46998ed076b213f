-- Two readings of lists of records that begin alike go together for as long as the lists do.
use Rattle.std.proofs.Common.{◌≡◌, ◌∙◌, ◌<◌, ◌≤◌, ◌⊎◌, ◌++◌, ◌∷◌, [], ℕ, Bool, true, false, List, MatchBool, ap, arith, inl, inr, length, subst, sym}
use Rattle.setup_access.specs.Records.{Makes, MakesDone, MakesFlag, MakesWord, OnFlag, OnWord}
use Rattle.slot_table.specs.declared.records.Record.{Record}
use Rattle.slot_table.specs.declared.step.Answer.{Answer}
use Rattle.slot_table.specs.declared.step.Answer.TheVariants as answers
use Rattle.slot_table.specs.declared.step.Step.{Step}

-- Of two lists the one ends with X and the other with Y, after one beginning. Of the beginning so much is left to both,
-- and this holds; or both have come into their own ends, and that holds.
abbrev pub Goes : List Record → List Record → Type 0 → Type 0 → List Record → List Record → Type 0
Goes X Y Same Alike q r =
    ((S : List Record) × (q ≡ S ++ X) × (r ≡ S ++ Y) × Same)
    ⊎ ((length q < length X) × (length r < length Y) × Alike)

-- what is read of the records is told by them, up to where they part
pub record Sure {V : Type 0} (P : List Record → V → List Record → Type 0) : Type 0 where
  pub shrinks : (records : List Record) (v : V) (rest : List Record) → P records v rest → length rest ≤ length records
  pub agrees : (X Y S : List Record) (v w : V) (q r : List Record) → P (S ++ X) v q → P (S ++ Y) w r → Goes X Y (v ≡ w) (Unit {0}) q r

pub same_length : (records rest : List Record) → rest ≡ records → length rest ≤ length records
same_length records rest same =
    let lengths : length rest ≡ length records = ap (λ (l : List Record). length l) same in omega (arith, lengths)

-- nothing is read
pub sure_gives : {V : Type 0} (c : V) → Sure (λ records v rest. (v ≡ c) × (rest ≡ records))
sure_gives c = record {
  shrinks = λ records v rest h. same_length records rest h.1;
  agrees = λ X Y S v w q r h g. inl (S, h.1, g.1, h.0 ∙ sym g.0);
}

-- nothing is read, and there is one such value
pub sure_unique : {V : Type 0} (T : V → Type 0) → ((v w : V) → T v → T w → v ≡ w) → Sure (λ records v rest. T v × (rest ≡ records))
sure_unique T unique = record {
  shrinks = λ records v rest h. same_length records rest h.1;
  agrees = λ X Y S v w q r h g. inl (S, h.1, g.1, unique v w h.0 g.0);
}

pub sure_none : {V : Type 0} → Sure {V = V} (λ records v rest. ⊥)
sure_none = record { shrinks = λ records v rest h. absurd h; agrees = λ X Y S v w q r h g. absurd h }

-- what is read says more
pub sure_by : {V : Type 0} (P Q : List Record → V → List Record → Type 0) → Sure Q
    → ((records : List Record) (v : V) (rest : List Record) → P records v rest → Q records v rest) → Sure P
sure_by P Q sure to = record {
  shrinks = λ records v rest h. sure.shrinks records v rest (to records v rest h);
  agrees = λ X Y S v w q r h g. sure.agrees X Y S v w q r (to (S ++ X) v q h) (to (S ++ Y) w r g);
}

-- one step, and what its answer leads to
module _ {V : Type 0} (task : ℕ) (step : Step) (Next : Answer → List Record → V → List Record → Type 0) (each : (answer : Answer) → Sure (Next answer)) where
  abbrev Stepped : List Record → V → List Record → Type 0
  Stepped records v rest = Makes task step (λ answer later. Next answer later v rest) records

  stepped_less : (records : List Record) (v : V) (rest : List Record) → Stepped records v rest → length rest ≤ length records
  stepped_less [] v rest h = absurd h
  stepped_less (first ∷ later) v rest h =
      let less : length rest ≤ length later = (each first.answer).shrinks later v rest h.2 in omega (arith, less)

  stepped_agree : (X Y S : List Record) (v w : V) (q r : List Record) → Stepped (S ++ X) v q → Stepped (S ++ Y) w r → Goes X Y (v ≡ w) (Unit {0}) q r
  stepped_agree [] Y [] v w q r h g = absurd h
  stepped_agree (x ∷ X) [] [] v w q r h g = absurd g
  stepped_agree (x ∷ X) (y ∷ Y) [] v w q r h g =
      let less : length q ≤ length X = (each x.answer).shrinks X v q h.2 in
      let fewer : length r ≤ length Y = (each y.answer).shrinks Y w r g.2 in
      inr (omega (arith, less), omega (arith, fewer), tt)
  stepped_agree X Y (s ∷ S) v w q r h g = (each s.answer).agrees X Y S v w q r h.2 g.2

  pub sure_step : Sure Stepped
  sure_step = record { shrinks = stepped_less; agrees = stepped_agree }

pub sure_if : {V : Type 0} (T : Type 0) (P : List Record → V → List Record → Type 0) → Sure P → Sure (λ records v rest. T × P records v rest)
sure_if T P sure = sure_by (λ records v rest. T × P records v rest) P sure (λ records v rest h. h.1)

module _ {V : Type 0} (task : ℕ) (step : Step) where
  word_next : (Next : ℕ → List Record → V → List Record → Type 0) → ((word : ℕ) → Sure (Next word)) → (answer : Answer)
      → Sure (λ later v rest. OnWord answer (λ word. Next word later v rest))
  word_next Next each (answers.Word word) = each word
  word_next Next each (answers.Flag flag) = sure_none
  word_next Next each (answers.Halves setter finder) = sure_none
  word_next Next each answers.Done = sure_none

  pub sure_word : (Next : ℕ → List Record → V → List Record → Type 0) → ((word : ℕ) → Sure (Next word))
      → Sure (λ records v rest. MakesWord task step (λ word later. Next word later v rest) records)
  sure_word Next each = sure_step task step (λ answer later v rest. OnWord answer (λ word. Next word later v rest)) (word_next Next each)

  flag_next : (Next : Bool → List Record → V → List Record → Type 0) → ((flag : Bool) → Sure (Next flag)) → (answer : Answer)
      → Sure (λ later v rest. OnFlag answer (λ flag. Next flag later v rest))
  flag_next Next each (answers.Word word) = sure_none
  flag_next Next each (answers.Flag flag) = each flag
  flag_next Next each (answers.Halves setter finder) = sure_none
  flag_next Next each answers.Done = sure_none

  pub sure_flag : (Next : Bool → List Record → V → List Record → Type 0) → ((flag : Bool) → Sure (Next flag))
      → Sure (λ records v rest. MakesFlag task step (λ flag later. Next flag later v rest) records)
  sure_flag Next each = sure_step task step (λ answer later v rest. OnFlag answer (λ flag. Next flag later v rest)) (flag_next Next each)

  pub sure_done : (Next : List Record → V → List Record → Type 0) → Sure Next
      → Sure (λ records v rest. MakesDone task step (λ later. Next later v rest) records)
  sure_done Next next = sure_step task step (λ answer later v rest. (answer ≡ answers.Done) × Next later v rest)
      (λ answer. sure_if (answer ≡ answers.Done) Next next)

-- one thing after another
module _ {U V : Type 0} (A : List Record → U → List Record → Type 0) (B : U → List Record → V → List Record → Type 0)
    (first : Sure A) (next : (u : U) → Sure (B u)) where
  abbrev Then : List Record → V → List Record → Type 0
  Then records v rest = (u : U) × (mid : List Record) × A records u mid × B u mid v rest

  then_less : (records : List Record) (v : V) (rest : List Record) → Then records v rest → length rest ≤ length records
  then_less records v rest h =
      let one : length h.1 ≤ length records = first.shrinks records h.0 h.1 h.2 in
      let other : length rest ≤ length h.1 = (next h.0).shrinks h.1 v rest h.3 in omega (arith, one, other)

  then_agree : (X Y S : List Record) (v w : V) (q r : List Record) → Then (S ++ X) v q → Then (S ++ Y) w r → Goes X Y (v ≡ w) (Unit {0}) q r
  then_agree X Y S v w q r h g = elim (first.agrees X Y S h.0 g.0 h.1 g.1 h.2 g.2) [
    | inl near ↦
        (next g.0).agrees X Y near.0 v w q r
        (subst (λ (u : U). B u (near.0 ++ X) v q) near.3 (subst (λ (m : List Record). B h.0 m v q) near.1 h.3))
        (subst (λ (m : List Record). B g.0 m w r) near.2 g.3)
    | inr far ↦
        let less : length q ≤ length h.1 = (next h.0).shrinks h.1 v q h.3 in
        let fewer : length r ≤ length g.1 = (next g.0).shrinks g.1 w r g.3 in
        inr (omega (arith, less, far.0), omega (arith, fewer, far.1), tt)
  ]

  pub sure_then : Sure Then
  sure_then = record { shrinks = then_less; agrees = then_agree }

-- the one or the other, by what is so
module _ {V : Type 0} (T : Type 0) (A B : List Record → V → List Record → Type 0) (at_true : Sure A) (at_false : Sure B) where
  abbrev Either : List Record → V → List Record → Type 0
  Either records v rest = (T × A records v rest) ⊎ ((¬ T) × B records v rest)

  pub sure_choice : Sure Either
  sure_choice = record {
    shrinks = λ records v rest h. elim h [ inl at ↦ at_true.shrinks records v rest at.1 | inr at ↦ at_false.shrinks records v rest at.1 ];
    agrees = λ X Y S v w q r h g. elim h [
      | inl one ↦ elim g [ inl other ↦ at_true.agrees X Y S v w q r one.1 other.1 | inr other ↦ absurd (other.0 one.0) ]
      | inr one ↦ elim g [ inl other ↦ absurd (one.0 other.0) | inr other ↦ at_false.agrees X Y S v w q r one.1 other.1 ]
    ];
  }

pub sure_bool : {V : Type 0} (b : Bool) (A B : List Record → V → List Record → Type 0) → Sure A → Sure B
    → Sure (λ records v rest. MatchBool b (A records v rest) (B records v rest))
sure_bool true A B at_true at_false = at_true
sure_bool false A B at_true at_false = at_false
