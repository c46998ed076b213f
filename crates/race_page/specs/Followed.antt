-- Texts in which each place of a sign is followed by one of some words.
use Rattle.std.specs.Prelude.{◌==◌, ◌&&◌, ℕ, Bool, List, [], ◌∷◌, false, if◌then◌else◌, true}
use Rattle.std.specs.List.{list_any}

-- the word stands at the front of the text
abbrev pub is_prefix : (word text : List ℕ) → Bool
is_prefix [] text = true
is_prefix (sign ∷ word) [] = false
is_prefix (sign ∷ word) (byte ∷ more) = (sign == byte) && is_prefix word more

-- wherever the sign stands, one of the words follows
abbrev pub followed : (sign : ℕ) → (words : List (List ℕ)) → (text : List ℕ) → Bool
followed sign words [] = true
followed sign words (byte ∷ more) =
    (if byte == sign then list_any (λ word. is_prefix word more) words else true) && followed sign words more
