-- Words and signs of C and of the kernel that a text of this format doesn't have.
use Rattle.std.specs.Prelude.{◌&&◌, ◌||◌, ◌==◌, ℕ, Bool, List, [], ◌∷◌, bytes_eq, codes, false, if◌then◌else◌, nat_eq, not}
use Rattle.std.specs.Char.{is_ascii_digit, is_ascii_uppercase}
use Rattle.std.specs.List.{starts_with}

-- a name begins so
abbrev pub begins : List ℕ → List ℕ → Bool
begins name front = starts_with nat_eq name front

-- a word that goes on elsewhere in a function of C
unfoldable pub is_jump : List ℕ → Bool
is_jump word = bytes_eq word (codes "return") || bytes_eq word (codes "goto") || bytes_eq word (codes "break")
    || bytes_eq word (codes "continue")

-- it begins with a digit
unfoldable pub is_number : List ℕ → Bool
is_number [] = false
is_number (first ∷ others) = is_ascii_digit first

-- a word beside a type that changes nothing here
unfoldable pub is_qualifier : List ℕ → Bool
is_qualifier word = bytes_eq word (codes "const") || bytes_eq word (codes "static") || bytes_eq word (codes "restrict")
    || bytes_eq word (codes "__rcu") || bytes_eq word (codes "__user") || bytes_eq word (codes "__percpu")

-- it begins with a capital letter, as macros do that stand for numbers
unfoldable pub is_constant : List ℕ → Bool
is_constant [] = false
is_constant (first ∷ others) = is_ascii_uppercase first && not (begins (first ∷ others) (codes "READ_ONCE"))

-- letters that C has behind a number
unfoldable pub is_suffix : List ℕ → Bool
is_suffix word = bytes_eq word (codes "U") || bytes_eq word (codes "L") || bytes_eq word (codes "UL")
    || bytes_eq word (codes "LL") || bytes_eq word (codes "ULL") || bytes_eq word (codes "u")

-- an operator between two numbers
unfoldable pub is_operator : List ℕ → Bool
is_operator sign = bytes_eq sign (codes "|") || bytes_eq sign (codes "&") || bytes_eq sign (codes "^")
    || bytes_eq sign (codes "+") || bytes_eq sign (codes "-") || bytes_eq sign (codes "*")
    || bytes_eq sign (codes "/") || bytes_eq sign (codes "%") || bytes_eq sign (codes "<<") || bytes_eq sign (codes ">>")

-- bytes without the blanks, `(` (40) and `!` (33) before them, as before what a loop asks for
abbrev pub without_signs : List ℕ → List ℕ
without_signs [] = []
without_signs (byte ∷ bytes) =
    if byte == 32 || byte == 40 || byte == 33 || byte == 9 || byte == 10 || byte == 13 then without_signs bytes
    else byte ∷ bytes

-- a structure or an `enum` of C goes on here: a `}` (125) comes before each `{` (123), and behind it `;`
abbrev pub ends_structure : List ℕ → Bool
ends_structure [] = false
ends_structure (byte ∷ bytes) =
    if byte == 123 then false
    else if byte == 125 then begins (without_signs bytes) (codes ";")
    else ends_structure bytes
