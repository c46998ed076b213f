-- How long texts are, up to a limit.
use Rattle.std.specs.Prelude.{ℕ, List, length, min}

-- one that is longer than 200 counts as 200
abbrev pub len_of : List ℕ → ℕ
len_of text = min (length text) 200
