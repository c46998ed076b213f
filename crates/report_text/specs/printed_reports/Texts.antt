-- Which texts of reports are printed.
use Rattle.std.specs.Prelude.{◌++◌, ◌&&◌, ◌||◌, ◌∷◌, [], ℕ, Bool, List, codes, drop, filter, if◌then◌else◌, length, nat_eq, not}
use Rattle.std.specs.Char.{is_ascii_digit}
use Rattle.std.specs.List.{starts_with}
use Rattle.access_types.specs.ReportText.{rule}

-- how the text of a report begins in which no assertion has a part, up to the number of its first task
abbrev pub head : List ℕ
head = rule ++ codes "BUG: KCSAN: data-race in P"

-- what stands behind the digits at the head of a text
abbrev pub behind_digits : List ℕ → List ℕ
behind_digits [] = []
behind_digits (byte ∷ more) = if is_ascii_digit byte then behind_digits more else byte ∷ more

-- the text is that of a report of unknown origin, of an access that asserts nothing: its title has no assertion, and one
-- task alone
unfoldable pub is_hidden_text : List ℕ → Bool
is_hidden_text text =
    starts_with nat_eq text head && starts_with nat_eq (behind_digits (drop (length head) text)) (10 ∷ [])

-- a text is printed where those of unknown origin are wanted, or where it isn't hidden
abbrev pub is_printed_text : (unknown : Bool) → List ℕ → Bool
is_printed_text unknown text = unknown || not (is_hidden_text text)

-- the texts that are printed
abbrev pub printed_texts : (unknown : Bool) → List (List ℕ) → List (List ℕ)
printed_texts unknown texts = filter (is_printed_text unknown) texts
