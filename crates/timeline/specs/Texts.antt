-- Texts from elsewhere, and how they are written.
use Rattle.std.specs.Prelude.{◌==◌, ◌&&◌, ◌++◌, ◌∷◌, ℕ, List, [], codes, if◌then◌else◌, length, nat_le, take}
use Rattle.std.specs.List.{flat_map}
use Rattle.timeline.specs.declared.texts.Markup.{Markup}
use Rattle.timeline.specs.declared.texts.Markup.TheVariants.{Plain, Xml}

-- a byte as it is shown: ? where it is no printable sign of ASCII
abbrev pub printable : ℕ → ℕ
printable byte = if nat_le 32 byte && nat_le byte 126 then byte else 63

abbrev pub plain_byte : ℕ → List ℕ
plain_byte byte = printable byte ∷ []

-- the same in XML, where &, < and > are escaped
abbrev pub escaped_byte : ℕ → List ℕ
escaped_byte byte = if byte == 38 then codes "&amp;" else if byte == 60 then codes "&lt;" else if byte == 62 then codes "&gt;" else plain_byte byte

abbrev pub byte_text : Markup → ℕ → List ℕ
byte_text Plain byte = plain_byte byte
byte_text Xml byte = escaped_byte byte

-- a text as it is written
abbrev pub spelled : Markup → List ℕ → List ℕ
spelled markup text = flat_map (byte_text markup) text

-- a text as it is shown where there is room for 62 signs: cut, with `..` behind it, where it has more
unfoldable pub shortened : List ℕ → List ℕ
shortened text = if nat_le (length text) 62 then text else take 60 text ++ codes ".."

abbrev pub short : Markup → List ℕ → List ℕ
short markup text = spelled markup (shortened text)

-- a text as it stands
abbrev pub unchanged : List ℕ → List ℕ
unchanged text = text

-- a text in a spelling, or what stands in its place, where it isn't known
abbrev pub known_or : (spelling : List ℕ → List ℕ) → (otherwise text : List ℕ) → List ℕ
known_or spelling otherwise [] = otherwise
known_or spelling otherwise (byte ∷ more) = spelling (byte ∷ more)
