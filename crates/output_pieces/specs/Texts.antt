-- Texts that are built piece by piece.
use Rattle.std.specs.Prelude.{◌≡◌, ℕ, IfOk, List}
use Rattle.std.specs.List.{concat}
use Rattle.output_pieces.specs.declared.texts.TextBuilder.{TextBuilder}

-- These are the pieces so far, if there was room for each.
pub record HasPieces (built : TextBuilder) (pieces : List (List ℕ)) : Type 0 where
  pub are : IfOk built.text (λ text. text.items ≡ concat pieces)
