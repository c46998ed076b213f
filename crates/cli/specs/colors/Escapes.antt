-- A text without the escapes in it.
use Rattle.std.specs.Prelude.{◌==◌, ◌∷◌, [], ℕ, Bool, List, false, if◌then◌else◌, not, true}

-- the bytes of a text that are in no escape, each of which is an ESC with all behind it up to an `m`; whether the text
-- begins in one
abbrev pub outside_escapes : (inside : Bool) → List ℕ → List ℕ
outside_escapes inside [] = []
outside_escapes true (byte ∷ text) = outside_escapes (not (byte == 109)) text
outside_escapes false (byte ∷ text) = if byte == 27 then outside_escapes true text else byte ∷ outside_escapes false text

-- a text without its escapes
abbrev pub without_escapes : List ℕ → List ℕ
without_escapes text = outside_escapes false text
