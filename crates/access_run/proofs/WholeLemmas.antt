-- Whatever begins with something begins with a part that is the whole of it, found as records come one by one.
use Rattle.std.proofs.Common.{◌≡◌, ◌∙◌, ◌⊎◌, ◌++◌, ◌∷◌, [], List, ap, inl, inr, refl, subst, sym}
use Rattle.std.proofs.lemmas.List.{append-nil}
use Rattle.access_run.specs.Whole.{IsWhole, NoneWhole}
use Rattle.slot_table.specs.declared.records.Record.{Record}

-- of two beginnings of a list one is a beginning of the other
pub split : (a b c d : List Record) → a ++ b ≡ c ++ d
    → ((x : List Record) × (a ≡ c ++ x) × (d ≡ x ++ b)) ⊎ ((x : List Record) × (c ≡ a ++ x) × (b ≡ x ++ d))
split [] b c d e = inr (c, refl, e)
split (one ∷ a) b [] d e = inl (one ∷ a, refl, sym e)
split (one ∷ a) b (two ∷ c) d e =
    let same : one ≡ two = cc in
    let tails : a ++ b ≡ c ++ d = cc in
    elim (split a b c d tails) [
      | inl h ↦ inl (h.0, (let more : a ≡ c ++ h.0 = h.1 in cc), h.2)
      | inr h ↦ inr (h.0, (let more : c ≡ a ++ h.0 = h.1 in cc), h.2)
    ]

-- a beginning of a list with a last record is all of it, or one without that record
pub last_part : (records part later : List Record) (last : Record) → records ++ last ∷ [] ≡ part ++ later
    → (later ≡ []) ⊎ ((more : List Record) × (records ≡ part ++ more))
last_part records [] later last e = inr (records, refl)
last_part [] (one ∷ part) later last e = inl (none part later (let tails : [] ≡ part ++ later = cc in tails))
  where
    none : (some more : List Record) → [] ≡ some ++ more → more ≡ []
    none [] more is = sym is
    none (first ∷ some) more is = absurd (let no : [] ≡ first ∷ (some ++ more) = is in cc)
last_part (one ∷ records) (two ∷ part) later last e =
    let same : one ≡ two = cc in
    let tails : records ++ last ∷ [] ≡ part ++ later = cc in
    elim (last_part records part later last tails) [
      | inl h ↦ inl h
      | inr h ↦ inr (h.0, (let more : records ≡ part ++ h.0 = h.1 in cc))
    ]

-- whatever begins with something begins with a part that is the whole of it
abbrev pub Parts : {X : Type 0} → (List Record → X → X) → (List Record → X → List Record → Type 0) → Type 0
Parts {X = X} moves Begins = (records : List Record) (value : X) (rest : List Record) → Begins records value rest
    → (part : List Record) × (alone : X) × Begins part alone [] × (records ≡ part ++ rest) × (value ≡ moves rest alone)

module _ {X : Type 0} (moves : List Record → X → X) (Begins : List Record → X → List Record → Type 0) where
  -- one record more, and still it isn't the whole
  pub none_more : (records : List Record) (last : Record) → NoneWhole Begins records
      → ((value : X) → ¬ Begins (records ++ last ∷ []) value []) → NoneWhole Begins (records ++ last ∷ [])
  none_more records last none never = λ part later value e h.
      elim (last_part records part later last e) [
        | inl over ↦ never value (subst (λ r. Begins r value []) (all part later over e) h)
        | inr before ↦ none part before.0 value before.1 h
      ]
    where
      all : (part later : List Record) → later ≡ [] → records ++ last ∷ [] ≡ part ++ later → part ≡ records ++ last ∷ []
      all part later over e = sym (e ∙ (ap (λ l. part ++ l) over ∙ append-nil part))

  -- one record more, and it is
  pub whole_now : Parts moves Begins → (records : List Record) (last : Record) (value : X) → NoneWhole Begins records
      → Begins (records ++ last ∷ []) value []
      → ((more : List Record) (other : X) → Begins ((records ++ last ∷ []) ++ more) other [] → (more ≡ []) × (other ≡ value))
      → IsWhole moves Begins (records ++ last ∷ []) value
  whole_now parts records last value none whole ends = (whole, alone)
    where
      now : List Record
      now = records ++ last ∷ []

      part_is : (part more : List Record) (other : X) → now ≡ part ++ more → Begins part other [] → more ≡ []
      part_is part more other e h = elim (last_part records part more last e) [
        | inl over ↦ over
        | inr before ↦ absurd (none part before.0 other before.1 h)
      ]

      alone : (later : List Record) (other : X) (rest : List Record) → Begins (now ++ later) other rest → (rest ≡ later) × (other ≡ moves rest value)
      alone later other rest h =
          let own = parts (now ++ later) other rest h in
          elim (split now later own.0 rest own.3) [
            | inl less ↦
                let over : less.0 ≡ [] = part_is own.0 less.0 own.1 less.1 own.2 in
                let all : own.0 ≡ now ++ [] = sym (append-nil now ∙ (less.1 ∙ (ap (λ l. own.0 ++ l) over ∙ append-nil own.0))) in
                let same = ends [] own.1 (subst (λ r. Begins r own.1 []) all own.2) in
                (less.2 ∙ ap (λ l. l ++ later) over, own.4 ∙ ap (moves rest) same.1)
            | inr more ↦
                let same = ends more.0 own.1 (subst (λ r. Begins r own.1 []) more.1 own.2) in
                (sym (more.2 ∙ ap (λ l. l ++ rest) same.0), own.4 ∙ ap (moves rest) same.1)
          ]
