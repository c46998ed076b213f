-- A text spells at most one list of items: the one read between its commas.
use Rattle.std.proofs.Common.{◌≡◌, ◌≢◌, ◌<◌, ◌++◌, ◌↔◌, ◌∙◌, ℕ, zero, suc, List, [], ◌∷◌, Bor}
use Rattle.std.proofs.Common.{Option, None, Some, false, ap, arith, get_or, length, map, refl, subst, sym, take}
use Rattle.std.specs.Prelude.{All, ◌==◌}
use Rattle.std.specs.List.{join_with_byte, slice_split}
use Rattle.std.proofs.lemmas.List.{length-append}
use Rattle.std.proofs.lemmas.List.Splits.{join_with_byte-slice_split, slice_split_at, slice_split_none}
use Rattle.prepared_program.specs.Lists.{SpellEach, SpellsList}

-- no byte of the text is a comma
abbrev pub NoComma : List ℕ → Type 0
NoComma text = All (λ byte. (byte == 44) ≡ false) text

-- the texts of these
abbrev pub texts_of : List (Bor (List ℕ)) → List (List ℕ)
texts_of items = map (λ item. item.now) items

pub no-bytes : (text : List ℕ) → length text ≡ 0 → text ≡ []
no-bytes [] none = refl
no-bytes (byte ∷ text) none = absurd (omega arith)

-- what spells an item has no comma, is not empty, and spells no other item
pub record IsItem {A : Type 0} (SpellsItem : List ℕ → A → Type 0) : Type 0 where
  pub no_comma : (text : List ℕ) (value : A) → SpellsItem text value → NoComma text
  pub some : (text : List ℕ) (value : A) → SpellsItem text value → 0 < length text
  pub one : (text : List ℕ) (value other : A) → SpellsItem text value → SpellsItem text other → value ≡ other

module _ {A : Type 0} {SpellsItem : List ℕ → A → Type 0} (is : IsItem SpellsItem) where
  -- joined, they are cut there again
  joined-split : (item : List ℕ) (items : List (List ℕ)) (value : A) (values : List A)
      → SpellsItem item value → SpellEach SpellsItem items values
      → slice_split (λ byte. byte == 44) (join_with_byte 44 (item ∷ items)) ≡ item ∷ items
  joined-split item [] value values first each = slice_split_none (λ byte. byte == 44) item (is.no_comma item value first)
  joined-split item (next ∷ items) value [] first each = absurd each
  joined-split item (next ∷ items) value (second ∷ values) first each =
      slice_split_at (λ byte. byte == 44) item 44 (join_with_byte 44 (next ∷ items)) (is.no_comma item value first) refl
      ∙ ap (λ more. item ∷ more) (joined-split next items second values each.0 each.1)

  joined-some : (item : List ℕ) (items : List (List ℕ)) → 0 < length item
      → 0 < length (join_with_byte 44 (item ∷ items))
  joined-some item [] long = long
  joined-some item (next ∷ items) long = omega (arith, length-append item (44 ∷ join_with_byte 44 (next ∷ items)))

  -- the empty text spells no item
  pub spells-empty : (text : List ℕ) (read values : List A) → text ≡ [] → read ≡ []
      → SpellsList SpellsItem text values ↔ (Some read ≡ Some values)
  spells-empty text read values empty nothing = (
    λ spelled. ap Some (nothing ∙ none spelled.items values (sym spelled.joined ∙ empty) spelled.each),
    λ e. let same : read ≡ values = cc in record {
      items = [];
      joined = empty;
      each = subst (SpellEach SpellsItem []) (sym nothing ∙ same) tt;
    },
  )
    where
      none : (items : List (List ℕ)) (values : List A) → join_with_byte 44 items ≡ []
          → SpellEach SpellsItem items values → [] ≡ values
      none [] [] e each = refl
      none [] (value ∷ values) e each = absurd each
      none (item ∷ items) [] e each = absurd each
      none (item ∷ items) (value ∷ values) e each =
          let long = joined-some item items (is.some item value each.0) in absurd (omega (arith, ap length e))

  -- any other text spells what its parts between the commas do
  pub spells-parts : (text : List ℕ) (values : List A) → text ≢ []
      → SpellsList SpellsItem text values ↔ SpellEach SpellsItem (slice_split (λ byte. byte == 44) text) values
  spells-parts text values some = (
    λ spelled. each-part spelled.items values spelled.joined spelled.each,
    λ each. record {
      items = slice_split (λ byte. byte == 44) text;
      joined = sym (join_with_byte-slice_split 44 text);
      each = each;
    },
  )
    where
      each-part : (items : List (List ℕ)) (values : List A) → text ≡ join_with_byte 44 items
          → SpellEach SpellsItem items values → SpellEach SpellsItem (slice_split (λ byte. byte == 44) text) values
      each-part [] values joined each = absurd (some joined)
      each-part (item ∷ items) [] joined each = absurd each
      each-part (item ∷ items) (value ∷ values) joined each =
          subst (λ parts. SpellEach SpellsItem parts (value ∷ values)) (sym (joined-split item items value values each.0
          each.1) ∙ ap (slice_split (λ byte. byte == 44)) (sym joined)) each

  -- one more item is spelled
  pub each-more : (items : List (Bor (List ℕ))) (i : ℕ) (d : Bor (List ℕ)) (values : List A) (value : A) → i < length items
      → SpellEach SpellsItem (texts_of (take i items)) values → SpellsItem ((get_or items i d).now) value
      → SpellEach SpellsItem (texts_of (take (suc i) items)) (values ++ value ∷ [])
  each-more [] i d values value within each spelled = absurd (omega arith)
  each-more (item ∷ items) zero d [] value within each spelled = (spelled, tt)
  each-more (item ∷ items) zero d (other ∷ values) value within each spelled = absurd each
  each-more (item ∷ items) (suc i) d [] value within each spelled = absurd each
  each-more (item ∷ items) (suc i) d (other ∷ values) value within each spelled =
      (each.0, each-more items i d values value (omega arith) each.1 spelled)

  -- each text spells an item
  pub each-at : (items : List (Bor (List ℕ))) (i : ℕ) (d : Bor (List ℕ)) (values : List A)
      → i < length items
      → SpellEach SpellsItem (texts_of items) values → (value : A) × SpellsItem ((get_or items i d).now) value
  each-at [] i d values within each = absurd (omega arith)
  each-at (item ∷ items) i d [] within each = absurd each
  each-at (item ∷ items) zero d (value ∷ values) within each = (value, each.0)
  each-at (item ∷ items) (suc i) d (value ∷ values) within each = each-at items i d values (omega arith)
      each.1

  -- texts spell at most one list
  pub each-one : (texts : List (List ℕ)) (one other : List A) → SpellEach SpellsItem texts one
      → SpellEach SpellsItem texts other → one ≡ other
  each-one [] [] [] s t = refl
  each-one [] [] (value ∷ other) s t = absurd t
  each-one [] (value ∷ one) other s t = absurd s
  each-one (text ∷ texts) [] other s t = absurd s
  each-one (text ∷ texts) (value ∷ one) [] s t = absurd t
  each-one (text ∷ texts) (value ∷ one) (same ∷ other) s t =
      let first = is.one text value same s.0 t.0 in
      let rest = each-one texts one other s.1 t.1 in
      cc

  -- what the parts of a text between its commas spell, it spells, and no other list
  pub spells-read : (text : List ℕ) (parts : List (List ℕ)) (read : List A) → text ≢ []
      → parts ≡ slice_split (λ byte. byte == 44) text → SpellEach SpellsItem parts read
      → (values : List A) → SpellsList SpellsItem text values ↔ (Some read ≡ Some values)
  spells-read text parts read some are each values =
      let whole = spells-parts text values some in (
        λ spelled. ap Some (each-one parts read values each (subst (λ p. SpellEach SpellsItem p values) (sym are)
            (whole.0 spelled))),
        λ e. let same : read ≡ values = cc in whole.1 (subst (λ p. SpellEach SpellsItem p values) are (subst (SpellEach SpellsItem
            parts) same each)),
      )

  -- a part that spells nothing: nor does the text
  pub spells-nothing : (text : List ℕ) (items : List (Bor (List ℕ))) (i : ℕ) (d : Bor (List ℕ)) (read : Option
      (List A)) → text ≢ [] → texts_of items ≡ slice_split (λ byte. byte == 44) text → i < length items
      → ((value : A) → SpellsItem ((get_or items i d).now) value → ⊥) → read ≡ None
      → (values : List A) → SpellsList SpellsItem text values ↔ (read ≡ Some values)
  spells-nothing text items i d read some are within nothing none values = (
    λ spelled. let each = subst (λ p. SpellEach SpellsItem p values) (sym are) ((spells-parts text values some).0
        spelled) in
        let at = each-at items i d values within each in absurd (nothing at.0 at.1),
    λ e. absurd cc,
  )
