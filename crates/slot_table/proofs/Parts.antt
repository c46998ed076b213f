-- What a task's own records leave open, index by index, is what it has in hand.
use Rattle.std.proofs.Common.{◌≡◌, ◌⊎◌, inl, inr, ℕ, Bool, true, false, IsTrue, cond, eqb, List, []}
use Rattle.std.proofs.Common.{◌∷◌, Option, None, Some, refl, sym, ◌∙◌}
use Rattle.std.proofs.lemmas.Bool.{eqb-true}
use Rattle.slot_table.specs.Discipline.{Allows, Discipline, hand_after, in_hand}
use Rattle.slot_table.specs.Parts.{has_open_arming, has_untold_taking, open_after, untold_after}
use Rattle.slot_table.specs.declared.discipline.InHand.{InHand}
use Rattle.slot_table.specs.declared.discipline.Part.{Part}
use Rattle.slot_table.specs.declared.discipline.Part.TheVariants.{Taken}
use Rattle.slot_table.specs.declared.records.Record.{Record}
use Rattle.slot_table.specs.declared.step.Answer.{Answer}
use Rattle.slot_table.specs.declared.step.Answer.TheVariants as answers
use Rattle.slot_table.specs.declared.step.Step.{Step}
use Rattle.slot_table.specs.declared.step.Step.TheVariants.{Insert, TryConsume, Consume, Remove}
use Rattle.slot_table.specs.declared.step.Step.TheVariants.{Name, Tell, Clear}

-- is what a hand holds an arming, or a taking, at this index?
abbrev is_taken : Part → Bool
is_taken (Taken word) = true
is_taken part = false

abbrev is_set : Part → Bool
is_set (Taken word) = false
is_set part = true

abbrev holds_arming : ℕ → Option InHand → Bool
holds_arming index None = false
holds_arming index (Some hand) = cond (eqb hand.index index) (is_set hand.part) false

abbrev holds_taking : ℕ → Option InHand → Bool
holds_taking index None = false
holds_taking index (Some hand) = cond (eqb hand.index index) (is_taken hand.part) false

-- what is closed there is no more
closed : (b : Bool) → cond b false (cond b true false) ≡ false
closed true = refl
closed false = refl

no_other : (b : Bool) → cond b false false ≡ false
no_other true = refl
no_other false = refl

-- each step that is allowed keeps both equal
arming_step : (task index : ℕ) (own : List Record) (step : Step) (answer : Answer)
    → Allows task own step
    → has_open_arming index own ≡ holds_arming index (in_hand own)
    → open_after index step answer (has_open_arming index own)
    ≡ holds_arming index (hand_after step answer (in_hand own))
arming_step task index own (Insert at word) (answers.Flag true) allows same =
    rw (same, allows.1) refl
arming_step task index own (TryConsume at word) (answers.Flag true) allows same =
    rw (same, allows.2) (sym (no_other (eqb at index)))
arming_step task index own (Name at ticket) answer allows same = rw (same, allows.2) refl
arming_step task index own (Consume at) (answers.Flag true) allows same = rw (same, allows.1) refl
arming_step task index own (Consume at) (answers.Flag false) allows same = rw (same, allows.1) refl
arming_step task index own (Clear at) answer (inl untouched) same = rw (same, untouched) refl
arming_step task index own (Clear at) answer (inr hit) same = rw (same, hit.0) refl
arming_step task index own (Remove at) answer allows same =
    rw (same, allows) (closed (eqb at index))
arming_step task index own (Tell at ticket) answer allows same =
    rw (same, allows.1.1) (no_other (eqb at index))
arming_step task index own step answer allows same = same

taking_step : (task index : ℕ) (own : List Record) (step : Step) (answer : Answer)
    → Allows task own step
    → has_untold_taking index own ≡ holds_taking index (in_hand own)
    → untold_after index step answer (has_untold_taking index own)
    ≡ holds_taking index (hand_after step answer (in_hand own))
taking_step task index own (Insert at word) (answers.Flag true) allows same =
    rw (same, allows.1) (sym (no_other (eqb at index)))
taking_step task index own (TryConsume at word) (answers.Flag true) allows same =
    rw (same, allows.2) refl
taking_step task index own (Name at ticket) answer allows same = rw (same, allows.2) refl
taking_step task index own (Consume at) (answers.Flag true) allows same = rw (same, allows.1) refl
taking_step task index own (Consume at) (answers.Flag false) allows same = rw (same, allows.1) refl
taking_step task index own (Clear at) answer (inl untouched) same = rw (same, untouched) refl
taking_step task index own (Clear at) answer (inr hit) same = rw (same, hit.0) refl
taking_step task index own (Remove at) answer allows same =
    rw (same, allows) (no_other (eqb at index))
taking_step task index own (Tell at ticket) answer allows same =
    rw (same, allows.1.1) (closed (eqb at index))
taking_step task index own step answer allows same = same

arming_held : (task index : ℕ) (own : List Record)
    → Discipline task own → has_open_arming index own ≡ holds_arming index (in_hand own)
arming_held task index [] keeps = refl
arming_held task index (latest ∷ earlier) keeps =
    arming_step task index earlier latest.step latest.answer keeps.1
    (arming_held task index earlier keeps.0)

taking_held : (task index : ℕ) (own : List Record)
    → Discipline task own → has_untold_taking index own ≡ holds_taking index (in_hand own)
taking_held task index [] keeps = refl
taking_held task index (latest ∷ earlier) keeps =
    taking_step task index earlier latest.step latest.answer keeps.1
    (taking_held task index earlier keeps.0)

-- a hand that holds something at an index holds it there
if_both : (b part : Bool) → cond b part false ≡ true → (b ≡ true) × (part ≡ true)
if_both true part e = (refl, e)
if_both false part e = absurd (cc)

arming_index : (index : ℕ) (hand : Option InHand)
    → holds_arming index hand ≡ true
    → (held : InHand) × (hand ≡ Some held) × (held.index ≡ index) × (is_set held.part ≡ true)
arming_index index None e = absurd (cc)
arming_index index (Some hand) e =
    let both = if_both (eqb hand.index index) (is_set hand.part) e in
    (hand, refl, eqb-true hand.index index both.0, both.1)

taking_index : (index : ℕ) (hand : Option InHand)
    → holds_taking index hand ≡ true
    → (held : InHand) × (hand ≡ Some held) × (held.index ≡ index) × (is_taken held.part ≡ true)
taking_index index None e = absurd (cc)
taking_index index (Some hand) e =
    let both = if_both (eqb hand.index index) (is_taken hand.part) e in
    (hand, refl, eqb-true hand.index index both.0, both.1)

-- so what is open is at one index
held_at : (task index : ℕ) (own : List Record)
    → Discipline task own
    → IsTrue (has_open_arming index own) ⊎ IsTrue (has_untold_taking index own)
    → (held : InHand) × (in_hand own ≡ Some held) × (held.index ≡ index)
held_at task index own keeps (inl arming) =
    let at = arming_index index (in_hand own) (sym (arming_held task index own keeps) ∙ arming) in
    (at.0, at.1, at.2)
held_at task index own keeps (inr taking) =
    let at = taking_index index (in_hand own) (sym (taking_held task index own keeps) ∙ taking) in
    (at.0, at.1, at.2)

pub one_index : (task i j : ℕ) (own : List Record)
    → Discipline task own
    → IsTrue (has_open_arming i own) ⊎ IsTrue (has_untold_taking i own)
    → IsTrue (has_open_arming j own) ⊎ IsTrue (has_untold_taking j own)
    → i ≡ j
one_index task i j own keeps here there =
    let one = held_at task i own keeps here in
    let other = held_at task j own keeps there in
    let first : in_hand own ≡ Some one.0 = one.1 in
    let second : in_hand own ≡ Some other.0 = other.1 in
    let is : one.0.index ≡ i = one.2 in
    let its : other.0.index ≡ j = other.2 in
    cc

-- and never both
no_part : (part : Part) → is_set part ≡ true → is_taken part ≡ true → ⊥
no_part (Taken word) set taken = absurd (cc)
no_part part set taken = absurd (cc)

pub not_both : (task i j : ℕ) (own : List Record)
    → Discipline task own
    → IsTrue (has_open_arming i own) → IsTrue (has_untold_taking j own) → ⊥
not_both task i j own keeps arming taking =
    let one = arming_index i (in_hand own) (sym (arming_held task i own keeps) ∙ arming) in
    let other = taking_index j (in_hand own) (sym (taking_held task j own keeps) ∙ taking) in
    let first : in_hand own ≡ Some one.0 = one.1 in
    let second : in_hand own ≡ Some other.0 = other.1 in
    let same : other.0 ≡ one.0 = cc in
    no_part one.0.part one.3 (rw same at other.3)
