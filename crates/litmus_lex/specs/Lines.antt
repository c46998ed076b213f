-- Lines of a text, and columns in them.
use Rattle.std.specs.Prelude.{ℕ, List, ◌+◌, ◌==◌, count_by, length, not, reverse, take, take_while}

-- the line of a place: 1 plus the number of LF before it
abbrev pub line_at : List ℕ → ℕ → ℕ
line_at text at = 1 + count_by (λ byte. byte == 10) (take at text)

-- the column of a place: 1 plus the number of bytes before it from there back to an LF, or to the front
abbrev pub column_at : List ℕ → ℕ → ℕ
column_at text at = 1 + length (take_while (λ byte. not (byte == 10)) (reverse (take at text)))
