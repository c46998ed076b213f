-- What a list of pieces, texts and numbers, spells.
use Rattle.std.specs.Prelude.{ℕ, List}
use Rattle.std.specs.Borrow.{Bor}
use Rattle.std.specs.Fmt.{decimal}
use Rattle.std.specs.List.{flat_map}
use Rattle.access_types.specs.ReportText.{hex}
use Rattle.report_text.specs.declared.pieces.Piece.{Piece}
use Rattle.report_text.specs.declared.pieces.Piece.TheVariants.{Text, Decimal, Hex}

-- what a piece spells
abbrev pub piece_text : Piece → List ℕ
piece_text (Text text) = text.now
piece_text (Decimal number) = decimal number
piece_text (Hex width number) = hex width number

-- what pieces spell, one after the other
abbrev pub text_of : List Piece → List ℕ
text_of pieces = flat_map piece_text pieces

-- what parts spell, one after the other
abbrev pub text_of_parts : List (Bor (List Piece)) → List ℕ
text_of_parts parts = flat_map (λ part. text_of part.now) parts
