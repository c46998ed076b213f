-- The word before a place in its line.
use Rattle.std.specs.Prelude.{◌==◌, ◌||◌, ◌-◌, ℕ, Bool, List, length, take}
use Rattle.std.specs.List.{after_last, suffix_len}
use Rattle.diagnostics.specs.refusal_text.Excerpt.{before_of}
use Rattle.diagnostics.specs.refusal_text.Token.{is_no_name_byte}

-- a byte between tokens of one line: a blank, a tab or a CR
abbrev pub is_blank : ℕ → Bool
is_blank byte = byte == 32 || byte == 9 || byte == 13

-- bytes without the blanks at their end
abbrev pub unblanked : List ℕ → List ℕ
unblanked bytes = take (length bytes - suffix_len is_blank bytes) bytes

-- the letters, digits and `_` that stand in the line of a place before it, with blanks behind them or none
unfoldable pub word_before : (text : List ℕ) → (at : ℕ) → List ℕ
word_before text at = after_last is_no_name_byte (unblanked (before_of text at))
