-- The cells of variables begin at multiples of 8, and locks lie in none.
use Rattle.std.proofs.Common.{◌≡◌, ◌≢◌, ◌∙◌, ◌+◌, ◌-◌, ◌*◌, ◌/◌, ◌%◌, ◌++◌, ◌==◌, ◌||◌, ℕ, suc}
use Rattle.std.proofs.Common.{Bool, true, false, List, [], ◌∷◌, ap, arith, cond, count_by, fold, inl, inr, map, refl, if◌then◌else◌}
use Rattle.std.proofs.lemmas.Bool.Decides.{eqb_tells}
use Rattle.std.proofs.lemmas.List.Sums.{sum_by-cons}
use Rattle.std.specs.List.{list_any}
use Rattle.std.specs.Int.{from_le_bytes, w64}
use Rattle.access_types.specs.History.{Memory, value_from}
use Rattle.access_types.specs.declared.history.Bytes.{Bytes}
use Rattle.litmus_semantics.specs.Layout.{VariablePlace, block_of, initial_value, initial_values, with_cell, bytes_at}
use Rattle.litmus_semantics.specs.Values.{size_of}
use Rattle.litmus_syntax.specs.declared.program.Contents.TheVariants.{Atomic, Char, Int, Lock, Long, Short}
use Rattle.litmus_syntax.specs.declared.program.Contents.{Contents}
use Rattle.litmus_syntax.specs.declared.program.Variable.{Variable}
use Rattle.prepared_program.specs.program_layout.Lays.{holds_lock, is_lock}

-- the 8 bytes of a block, one by one
pub word_of_bytes : (m : Memory) (first : ℕ)
    → from_le_bytes w64
    (m first ∷ m (first + 1) ∷ m (first + 2) ∷ m (first + 3) ∷ m (first + 4) ∷ m (first + 5) ∷ m (first + 6) ∷ m (first + 7) ∷ [])
    ≡ value_from m first 8
word_of_bytes m first =
    let two : m (first + 1 + 1) ≡ m (first + 2) = ap m (omega arith) in
    let three : m (first + 1 + 1 + 1) ≡ m (first + 3) = ap m (omega arith) in
    let four : m (first + 1 + 1 + 1 + 1) ≡ m (first + 4) = ap m (omega arith) in
    let five : m (first + 1 + 1 + 1 + 1 + 1) ≡ m (first + 5) = ap m (omega arith) in
    let six : m (first + 1 + 1 + 1 + 1 + 1 + 1) ≡ m (first + 6) = ap m (omega arith) in
    let seven : m (first + 1 + 1 + 1 + 1 + 1 + 1 + 1) ≡ m (first + 7) = ap m (omega arith) in
    omega arith

-- all of these are multiples of 8
abbrev AreBlocks : List ℕ → Type 0
AreBlocks [] = Unit {0}
AreBlocks (cell ∷ cells) = (8 * (cell / 8) ≡ cell) × AreBlocks cells

one_more : (cells : List ℕ) (cell : ℕ) → AreBlocks cells → 8 * (cell / 8) ≡ cell → AreBlocks (cells ++ cell ∷ [])
one_more [] cell blocks is = (is, tt)
one_more (first ∷ cells) cell blocks is = (blocks.0, one_more cells cell blocks.1 is)

with_or_without : (there : Bool) (cells : List ℕ) (cell : ℕ) → AreBlocks cells → 8 * (cell / 8) ≡ cell → AreBlocks (if there then cells else cells ++ cell ∷ [])
with_or_without true cells cell blocks is = blocks
with_or_without false cells cell blocks is = one_more cells cell blocks is

block_is : (addr : ℕ) → 8 * ((addr - addr % 8) / 8) ≡ addr - addr % 8
block_is addr = omega arith

are_blocks : (cells : List ℕ) (values : List (Bytes × ℕ)) → AreBlocks cells → AreBlocks (fold with_cell cells values)
are_blocks cells [] blocks = blocks
are_blocks cells (value ∷ values) blocks =
    are_blocks (with_cell cells value) values
    (with_or_without ((value.0.size == 0) || list_any (λ other. other == block_of value.0.addr) cells) cells (block_of value.0.addr) blocks (block_is value.0.addr))

same_words : (m : Memory) (cells : List ℕ) → AreBlocks cells → map (λ address. value_from m (8 * (address / 8)) 8) cells ≡ map (λ cell. value_from m cell 8) cells
same_words m [] blocks = refl
same_words m (cell ∷ cells) blocks =
    ap (λ (n : ℕ). value_from m n 8 ∷ map (λ address. value_from m (8 * (address / 8)) 8) cells) blocks.0
    ∙ ap (λ (words : List ℕ). value_from m cell 8 ∷ words) (same_words m cells blocks.1)

-- the words of the blocks of cells are those of the cells
pub words_of_cells : (m : Memory) (values : List (Bytes × ℕ))
    → map (λ address. value_from m (8 * (address / 8)) 8) (fold with_cell [] values) ≡ map (λ cell. value_from m cell 8) (fold with_cell [] values)
words_of_cells m values = same_words m (fold with_cell [] values) (are_blocks [] values tt)

neither : (first second : Bool) (cells more : List ℕ) → first ≡ false → second ≡ false → more ≡ (if first || second then cells else more)
neither false false cells more p q = refl
neither false true cells more p q = cc
neither true second cells more p q = cc

-- the cell of bytes that isn't there comes last
pub new_cell : (cells : List ℕ) (value : Bytes × ℕ) → value.0.size ≢ 0 → list_any (λ other. other == block_of value.0.addr) cells ≡ false
    → cells ++ block_of value.0.addr ∷ [] ≡ with_cell cells value
new_cell cells value some none =
    neither (value.0.size == 0) (list_any (λ other. other == block_of value.0.addr) cells) cells (cells ++ block_of value.0.addr ∷ []) differs none where
      differs : (value.0.size == 0) ≡ false
      differs = elim (eqb_tells value.0.size 0) [ inl p ↦ absurd (some p.1) | inr p ↦ p.0 ]

no_bytes_is_lock : (contents : Contents) → (size_of contents == 0) ≡ holds_lock contents
no_bytes_is_lock (Char n) = refl
no_bytes_is_lock (Short n) = refl
no_bytes_is_lock (Int n) = refl
no_bytes_is_lock (Long n) = refl
no_bytes_is_lock (Atomic n) = refl
no_bytes_is_lock Lock = refl

-- locks are the variables without bytes
pub locks_counted : (places : List VariablePlace) (number : ℕ) (variables : List Variable)
    → count_by (λ (laid : Bytes × ℕ). laid.0.size == 0) (initial_values places number variables) ≡ count_by is_lock variables
locks_counted places number [] = refl
locks_counted places number (variable ∷ later) =
    let left = sum_by-cons (λ (laid : Bytes × ℕ). cond (laid.0.size == 0) 1 0) (bytes_at places number variable, initial_value variable.contents) (initial_values places (suc number) later) in
    let right = sum_by-cons (λ (v : Variable). cond (is_lock v) 1 0) variable later in
    let rest = locks_counted places (suc number) later in
    let head : ◌≡◌ {A = ℕ} (cond {A = ℕ} (size_of variable.contents == 0) 1 0) (cond {A = ℕ} (holds_lock variable.contents) 1 0) = ap (λ (b : Bool). cond {A = ℕ} b 1 0) (no_bytes_is_lock variable.contents) in
    omega arith
