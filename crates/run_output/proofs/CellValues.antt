-- The value of a variable, by the words of the cells, is the content of its bytes.
use Rattle.std.proofs.Common.{◌≡◌, ◌≢◌, ◌∙◌, ◌<◌, ◌≤◌, ◌+◌, ◌*◌, ◌/◌, ◌%◌, ◌^◌, ◌==◌, inl, inr, ℕ, zero, suc, Bool}
use Rattle.std.proofs.Common.{true, false, List, [], ◌∷◌, Option, None, Some, ap, arith, length, refl, slice_get, slice_index}
use Rattle.std.proofs.Common.{sym, if◌then◌else◌}
use Rattle.std.specs.Prelude.{unwrap_or}
use Rattle.std.specs.Option.{option_map}
use Rattle.std.proofs.lemmas.Bool.{eq-eqb}
use Rattle.std.proofs.lemmas.Bool.Decides.{eqb_tells}
use Rattle.std.proofs.lemmas.List.{get_or_default}
use Rattle.std.proofs.Math.Nat.{mod-mod, mod-one}
use Rattle.std.proofs.Math.Seq.{take-length}
use Rattle.access_types.specs.History.{History, Memory, after_moments, byte_of, value_from}
use Rattle.access_types.specs.declared.history.Bytes.{Bytes}
use Rattle.litmus_semantics.specs.Layout.{VariablePlace, block_of, bytes_at, bytes_of_variable, cells_of, memory_at_first, no_bytes}
use Rattle.litmus_semantics.specs.Values.{sign_extended, size_of, with_sign}
use Rattle.litmus_syntax.specs.declared.program.Variable.{Variable}
use Rattle.prepared_program.specs.program_layout.Cells.{LieInOneCell}
use Rattle.run_output.specs.Finals.{value_in_cells, value_of, variable_value, word_at}
use Rattle.access_run.proofs.memory_operation.WordLemmas.{range_is}
use Rattle.soundness.specs.Cells.{CellsHold}
use Rattle.soundness.proofs.WordBytes.{value_of_bytes}

chosen : (same : Bool) (word other : ℕ) → same ≡ true → (if same then word else other) ≡ word
chosen true word other is = refl
chosen false word other is = absurd (cc)

passed : (same : Bool) (word other : ℕ) → same ≡ false → (if same then word else other) ≡ other
passed true word other is = absurd (cc)
passed false word other is = refl

-- where a cell stands at an address, memory has the bytes of its word there
word_there : (cells words : List ℕ) (memory : Memory) (addr k : ℕ) → CellsHold cells memory words → k < length cells
    → slice_index cells k ≡ addr → (offset : ℕ) → offset < 8 → memory (addr + offset) ≡ byte_of (word_at cells words addr) offset
word_there [] words memory addr k holds there is offset below = absurd (omega (arith, there))
word_there (cell ∷ cells) [] memory addr k holds there is offset below =
    ap (λ n. memory (n + offset)) (sym is) ∙ holds k offset there below
word_there (cell ∷ cells) (word ∷ words) memory addr zero holds there is offset below =
    ap (λ n. memory (n + offset)) (sym is)
    ∙ (holds 0 offset there below
    ∙ ap (λ n. byte_of n offset) (sym (chosen (cell == addr) word (word_at cells words addr) (eq-eqb cell addr is))))
word_there (cell ∷ cells) (word ∷ words) memory addr (suc k) holds there is offset below =
    elim (eqb_tells cell addr) [
      | inl same ↦
          ap (λ n. memory (n + offset)) (sym same.1)
          ∙ (holds 0 offset (omega arith) below
          ∙ ap (λ n. byte_of n offset) (sym (chosen (cell == addr) word (word_at cells words addr) same.0)))
      | inr differs ↦
          word_there cells words memory addr k (λ i o below_i below_o. holds (suc i) o (omega (arith, below_i)) below_o)
          (omega (arith, there)) is offset below
          ∙ ap (λ n. byte_of n offset) (sym (passed (cell == addr) word (word_at cells words addr) differs.0))
    ]

-- no bytes hold nothing
nothing_held : (size one other : ℕ) → size ≡ 0 → sign_extended size one ≡ sign_extended size other
nothing_held size one other is =
    ap (with_sign (256 ^ size))
    (ap (λ n. one % 256 ^ n) is ∙ (mod-one one ∙ (sym (mod-one other) ∙ sym (ap (λ n. other % 256 ^ n) is))))

-- the value of bytes that lie in a cell is that of their content
module _ (cells words : List ℕ) (memory : Memory) (multiple : (i : ℕ) → i < length cells → slice_index cells i % 8 ≡ 0)
    (holds : CellsHold cells memory words) where
  lying : (bytes : Bytes) → 0 < bytes.size → LieInOneCell cells bytes
      → value_of cells words bytes ≡ sign_extended bytes.size (value_from memory bytes.addr bytes.size)
  lying bytes some lies =
      let k = lies.is_there.0 in
      let at : slice_index cells k ≡ lies.cell = get_or_default cells k 0 lies.cell lies.is_there.1 ∙ lies.is_there.2 in
      let aligned : lies.cell % 8 ≡ 0 = ap (λ n. n % 8) (sym at) ∙ multiple k lies.is_there.1 in
      let low = lies.low in
      let high = lies.high in
      let block : lies.cell ≡ block_of bytes.addr = omega (arith, aligned, low, high, some) in
      let fits : bytes.addr % 8 + bytes.size ≤ 8 = omega (arith, aligned, low, high, some) in
      let word : ℕ = word_at cells words (block_of bytes.addr) in
      let same : value_from memory bytes.addr bytes.size ≡ word / 256 ^ (bytes.addr % 8) % 256 ^ bytes.size =
      value_of_bytes memory word bytes.size bytes.addr (bytes.addr % 8)
      (λ offset below. ap memory (let split : bytes.addr + offset ≡ block_of bytes.addr + (bytes.addr % 8 + offset) = omega arith in split)
      ∙ word_there cells words memory (block_of bytes.addr) k holds lies.is_there.1 (at ∙ block) (bytes.addr % 8 + offset)
      (omega (arith, below, fits))) in
      ap (λ range. with_sign (256 ^ bytes.size) (word / range % 256 ^ bytes.size)) (sym (range_is (bytes.addr % 8)))
      ∙ ap (with_sign (256 ^ bytes.size)) (sym (mod-mod (word / 256 ^ (bytes.addr % 8)) (256 ^ bytes.size)) ∙ ap (λ n. n % 256 ^ bytes.size) (sym same))

  none : (bytes : Bytes) → bytes.size ≡ 0
      → value_of cells words bytes ≡ sign_extended bytes.size (value_from memory bytes.addr bytes.size)
  none bytes is =
      nothing_held bytes.size (word_at cells words (block_of bytes.addr) / 2 ^ (8 * (bytes.addr % 8)))
      (value_from memory bytes.addr bytes.size) is

  pub told : (bytes : Bytes) → (bytes.size ≢ 0 → LieInOneCell cells bytes)
      → value_of cells words bytes ≡ sign_extended bytes.size (value_from memory bytes.addr bytes.size)
  told bytes lies = elim (eqb_tells bytes.size 0) [
    | inl is ↦ none bytes is.1
    | inr some ↦ lying bytes (let other = some.1 in omega (arith, other)) (lies some.1)
  ]

-- the bytes of a variable of some bytes lie in one of its cells
abbrev AreInCells : List VariablePlace → List Variable → Type 0
AreInCells places variables = (number : ℕ) (variable : Variable) → slice_get variables number ≡ Some variable
    → size_of variable.contents ≢ 0 → LieInOneCell (cells_of places variables) (bytes_at places number variable)

in_one : (places : List VariablePlace) (variables : List Variable) → AreInCells places variables → (number : ℕ) (found : Option Variable)
    → slice_get variables number ≡ found → (unwrap_or (option_map (bytes_at places number) found) no_bytes).size ≢ 0
    → LieInOneCell (cells_of places variables) (unwrap_or (option_map (bytes_at places number) found) no_bytes)
in_one places variables lie number None is some = absurd (some refl)
in_one places variables lie number (Some variable) is some = lie number variable is some

-- so the value of a variable is that of the content of its bytes at the end of a history
pub variable_told : (places : List VariablePlace) (variables : List Variable) (history : History) (words : List ℕ)
    → ((i : ℕ) → i < length (cells_of places variables) → slice_index (cells_of places variables) i % 8 ≡ 0)
    → CellsHold (cells_of places variables) (after_moments (memory_at_first places variables) history) words
    → AreInCells places variables
    → (number : ℕ) → value_in_cells places variables words number ≡ variable_value places variables history number
variable_told places variables history words multiple holds lie number =
    let bytes = bytes_of_variable places variables number in
    told (cells_of places variables) words (after_moments (memory_at_first places variables) history) multiple holds
    bytes (in_one places variables lie number (slice_get variables number) refl)
    ∙ ap (λ (h : History). sign_extended bytes.size (value_from (after_moments (memory_at_first places variables) h) bytes.addr bytes.size))
    (sym (take-length history))
