-- A section of a row of words, and how a write to the row shows in it.
use Rattle.std.proofs.Common.{◌≡◌, ℕ, ◌+◌, ◌-◌, ◌<◌, ◌≤◌, List, length, get_or, take, drop, set, sym, ap, ◌∙◌, subst, arith}
use Rattle.std.proofs.lemmas.List.{drop-set-add, drop-set-lt, get_or-drop, get_or-take, length-drop, length-replicate, length-take-le, take-set-le}
use Rattle.std.proofs.Math.Seq.{take-set-lt}
use Rattle.shared_table.specs.Row.{section}

-- a write within it
pub section_here : (from count : ℕ) (row : List ℕ) (i place a : ℕ) → from + i ≡ place → i < count
    → section from count (set row place a) ≡ set (section from count row) i a
section_here from count row i place a is within =
    let P : ℕ → Type 0 = λ k. section from count (set row k a) ≡ set (section from count row) i a in
    subst P is
    (ap (λ (rest : List ℕ). take count rest) (drop-set-add from row i a)
    ∙ take-set-lt count (drop from row) i a within)

-- a write behind it
pub section_past : (from count : ℕ) (row : List ℕ) (i a : ℕ) → from + count ≤ i
    → section from count (set row i a) ≡ section from count row
section_past from count row i a past =
    let j : ℕ = i - from in
    let is : from + j ≡ i = omega arith in
    let P : ℕ → Type 0 = λ k. section from count (set row k a) ≡ section from count row in
    subst P is
    (ap (λ (rest : List ℕ). take count rest) (drop-set-add from row j a)
    ∙ take-set-le count (drop from row) j a (omega arith))

-- a write before it
pub section_before : (from count : ℕ) (row : List ℕ) (i a : ℕ) → i < from
    → section from count (set row i a) ≡ section from count row
section_before from count row i a before =
    ap (λ (rest : List ℕ). take count rest) (drop-set-lt from row i a before)

pub section_at : (from count : ℕ) (row : List ℕ) (i place : ℕ) → from + i ≡ place → i < count
    → get_or row place 0 ≡ get_or (section from count row) i 0
section_at from count row i place is within =
    ap (λ (k : ℕ). get_or row k 0) (sym is) ∙ sym (get_or-drop from row i 0) ∙ sym (get_or-take count (drop from row) i 0 within)

pub section_length : (from count : ℕ) (row : List ℕ) → from + count ≤ length row
    → length (section from count row) ≡ count
section_length from count row fits =
    length-take-le count (drop from row) (let l = length-drop from row in omega arith)

-- how many words there are
pub ruleset lengths = (length-replicate)
