-- The cells are blocks of 8 bytes, and no two of them share a byte.
use Rattle.std.proofs.Common.{◌≡◌, ◌≢◌, ◌∙◌, ◌⊎◌, ◌<◌, ◌≤◌, ◌+◌, ◌-◌, ◌%◌, ◌++◌, ◌==◌, ◌||◌, inl, inr, ℕ, zero, suc, Bool, true, false, List, [], ◌∷◌}
use Rattle.std.proofs.Common.{ap, arith, fold, length, refl, sym, if◌then◌else◌}
use Rattle.std.specs.Prelude.{slice_index}
use Rattle.std.proofs.lemmas.Bool.{cases_lt, cases_order, eq-eqb}
use Rattle.std.proofs.lemmas.List.{get_or_append_left, length-append}
use Rattle.std.proofs.Math.Seq.{get_or-append_seam}
use Rattle.std.specs.List.{list_any}
use Rattle.access_types.specs.declared.history.Bytes.{Bytes}
use Rattle.litmus_semantics.specs.Layout.{VariablePlace, block_of, cells_of, initial_values, with_cell}
use Rattle.litmus_syntax.specs.declared.program.Variable.{Variable}

-- each stands at a multiple of 8, and none twice
pub record AreBlocks (cells : List ℕ) : Type 0 where
  pub multiple : (i : ℕ) → i < length cells → slice_index cells i % 8 ≡ 0
  pub once : (i j : ℕ) → i < length cells → j < length cells → slice_index cells i ≡ slice_index cells j → i ≡ j

-- one that isn't found stands nowhere
absent : (cells : List ℕ) (cell : ℕ) → list_any (λ other. other == cell) cells ≡ false → (i : ℕ) → i < length cells → slice_index cells i ≢ cell
absent [] cell none i below same = omega (arith, below)
absent (first ∷ cells) cell none zero below same =
    let is : (first == cell) ≡ true = eq-eqb first cell same in
    let found : ((first == cell) || list_any (λ other. other == cell) cells) ≡ false = none in
    let yes : ((first == cell) || list_any (λ other. other == cell) cells) ≡ true = ap (λ (b : Bool). b || list_any (λ other. other == cell) cells) is in
    absurd (let both : true ≡ false = sym yes ∙ found in cc)
absent (first ∷ cells) cell none (suc i) below same =
    absent cells cell (later (first == cell) (list_any (λ other. other == cell) cells) none) i (omega (arith, below)) same where
      later : (one other : Bool) → (one || other) ≡ false → other ≡ false
      later true other is = absurd (cc)
      later false other is = is

last_is : (cells : List ℕ) (cell : ℕ) → slice_index (cells ++ cell ∷ []) (length cells) ≡ cell
last_is cells cell = get_or-append_seam cells cell [] 0

early_is : (cells : List ℕ) (cell i : ℕ) → i < length cells → slice_index (cells ++ cell ∷ []) i ≡ slice_index cells i
early_is cells cell i below = get_or_append_left cells (cell ∷ []) 0 i below

module _ (cells : List ℕ) (cell : ℕ) where
  long : length (cells ++ cell ∷ []) ≡ length cells + 1
  long = length-append cells (cell ∷ [])

  at_last : (i : ℕ) → i < length (cells ++ cell ∷ []) → length cells ≤ i → i ≡ length cells
  at_last i below above = let l = long in omega (arith, below, above, l)

  one_more : AreBlocks cells → cell % 8 ≡ 0 → ((i : ℕ) → i < length cells → slice_index cells i ≢ cell) → AreBlocks (cells ++ cell ∷ [])
  one_more blocks is none = record { multiple = multiple; once = once } where
    multiple : (i : ℕ) → i < length (cells ++ cell ∷ []) → slice_index (cells ++ cell ∷ []) i % 8 ≡ 0
    multiple i below = elim (cases_lt i (length cells)) [
      | inl early ↦ ap (λ n. n % 8) (early_is cells cell i early) ∙ blocks.multiple i early
      | inr late ↦ ap (λ n. slice_index (cells ++ cell ∷ []) n % 8) (at_last i below late) ∙ (ap (λ n. n % 8) (last_is cells cell) ∙ is)
    ]

    never : (i j : ℕ) → i < length cells → length cells ≤ j → j < length (cells ++ cell ∷ [])
        → slice_index (cells ++ cell ∷ []) i ≡ slice_index (cells ++ cell ∷ []) j → ⊥
    never i j early late below same =
        none i early (sym (early_is cells cell i early) ∙ (same ∙ (ap (λ n. slice_index (cells ++ cell ∷ []) n) (at_last j below late) ∙ last_is cells cell)))

    once : (i j : ℕ) → i < length (cells ++ cell ∷ []) → j < length (cells ++ cell ∷ [])
        → slice_index (cells ++ cell ∷ []) i ≡ slice_index (cells ++ cell ∷ []) j → i ≡ j
    once i j i_below j_below same = elim (cases_lt i (length cells)) [
      | inl i_early ↦ elim (cases_lt j (length cells)) [
        | inl j_early ↦ blocks.once i j i_early j_early (sym (early_is cells cell i i_early) ∙ (same ∙ early_is cells cell j j_early))
        | inr j_late ↦ absurd (never i j i_early j_late j_below same)
      ]
      | inr i_late ↦ elim (cases_lt j (length cells)) [
        | inl j_early ↦ absurd (never j i j_early i_late i_below (sym same))
        | inr j_late ↦ at_last i i_below i_late ∙ sym (at_last j j_below j_late)
      ]
    ]

with_or_without : (none there : Bool) (cells : List ℕ) (cell : ℕ) → list_any (λ other. other == cell) cells ≡ there → AreBlocks cells → cell % 8 ≡ 0
    → AreBlocks (if none || there then cells else cells ++ cell ∷ [])
with_or_without true there cells cell is blocks multiple = blocks
with_or_without false true cells cell is blocks multiple = blocks
with_or_without false false cells cell is blocks multiple = one_more cells cell blocks multiple (absent cells cell is)

block_is : (addr : ℕ) → (addr - addr % 8) % 8 ≡ 0
block_is addr = omega arith

are_blocks : (cells : List ℕ) (values : List (Bytes × ℕ)) → AreBlocks cells → AreBlocks (fold with_cell cells values)
are_blocks cells [] blocks = blocks
are_blocks cells (value ∷ values) blocks =
    are_blocks (with_cell cells value) values
    (with_or_without (value.0.size == 0) (list_any (λ other. other == block_of value.0.addr) cells) cells (block_of value.0.addr) refl blocks (block_is value.0.addr))

-- so are the cells of variables
pub cells_are_blocks : (places : List VariablePlace) (variables : List Variable) → AreBlocks (cells_of places variables)
cells_are_blocks places variables =
    are_blocks [] (initial_values places 0 variables)
    (record { multiple = λ i below. absurd (omega (arith, below)); once = λ i j below other same. absurd (omega (arith, below)) })

-- two of them are apart
pub apart : (cells : List ℕ) → AreBlocks cells → (i j : ℕ) → i < length cells → j < length cells → i ≢ j
    → (slice_index cells i + 8 ≤ slice_index cells j) ⊎ (slice_index cells j + 8 ≤ slice_index cells i)
apart cells blocks i j i_below j_below differs =
    let one = blocks.multiple i i_below in
    let other = blocks.multiple j j_below in
    elim (cases_order (slice_index cells i) (slice_index cells j)) [
      | inl same ↦ absurd (differs (blocks.once i j i_below j_below same))
      | inr apart_so ↦ elim apart_so [
        | inl before ↦ inl (omega (arith, one, other, before))
        | inr after ↦ inr (omega (arith, one, other, after))
      ]
    ]
