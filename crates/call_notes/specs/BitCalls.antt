-- Calls of bits of a word.
use Rattle.std.specs.Prelude.{◌∷◌, [], ℕ, List, codes}
use Rattle.call_notes.specs.NoteRows.{Row, begun_note, named_note}
use Rattle.call_notes.specs.SharedLines.{bit_lock_note}

-- a bit by marked accesses
abbrev bit_text : List ℕ
bit_text =
    codes "note: bit 1 of an `int`: `ok = 0; for (n = 0; n < 3; n++) if (!ok) { old = READ_ONCE(*x); was = cmpxchg(x, old, old | 2); ok = was == old; }` sets it, `old & ~2` there clears it, and `old ^ 2` changes it; its value is `(ok & ((old & 2) != 0))`, and for `if (!test_and_set_bit(1, x)) { .. }` write `if (ok & !(old & 2)) { .. }`; `if (ok) { .. }` stands round what follows, with `ok = 1;` before an `if` that may leave this out, and `exists` asks `1:ok=1 /\\ ..` of P1, and `forall` `1:ok=0 \\/ ..`\n"

-- a bit by plain accesses
abbrev plain_bit_text : List ℕ
plain_bit_text =
    codes "note: bit 1 of an `int` by plain accesses: `old = *x; *x = old | 2;` sets it, `old & ~2` clears it, `old ^ 2` changes it; `((old & 2) != 0)` is what it was\n"

-- the lines on a call of a bit, by its name
abbrev pub bit_name_rows : List Row
bit_name_rows =
    (codes "set_bit", bit_text)
    ∷ (codes "change_bit", bit_text)
    ∷ (codes "clear_and_wake_up_bit", bit_text)
    ∷ (codes "assign_bit", bit_text)
    ∷ (codes "__set_bit", plain_bit_text)
    ∷ (codes "__clear_bit", plain_bit_text)
    ∷ (codes "__change_bit", plain_bit_text)
    ∷ (codes "__assign_bit", plain_bit_text)
    ∷ (codes "__clear_bit_unlock", codes "note: bit 1 of an `int`: write `old = READ_ONCE(*x); *x = old & ~2;`\n") ∷ []

-- the line on a call of a bit, by its name, or else this one
unfoldable pub bit_name_line : (name otherwise : List ℕ) → List ℕ
bit_name_line name otherwise = named_note bit_name_rows name otherwise

-- the lines on a call of a bit: the first row that a name begins with counts
abbrev pub bit_rows : List Row
bit_rows =
    (codes "test_bit", codes "note: bit 1 of an `int`: write `r0 = (READ_ONCE(*x) & 2) != 0;`\n")
    ∷ (codes "clear_bit_unlock", bit_lock_note)
    ∷ (codes "bit_spin_", bit_lock_note)
    ∷ (codes "clear_bit", bit_text)
    ∷ (codes "test_and_", bit_text)
    ∷ (codes "__test_and_", plain_bit_text) ∷ []

-- the line on a call of a bit, or else this one
unfoldable pub bit_line : (name otherwise : List ℕ) → List ℕ
bit_line name otherwise = begun_note bit_rows name otherwise
