-- Each token that isn't the last moves on in the text, and what is left spells the rest.
use Rattle.std.proofs.Common.{◌≤◌, ◌-◌, List, length}
use Rattle.std.specs.Prelude.{◌↔◌}
use Rattle.litmus_lex.specs.Tokens.{Placed, TokensFrom}
use Rattle.litmus_lex.specs.Spots.{AreSpots}
use Rattle.litmus_lex.proofs.Spelled.{GoesOn}
use Rattle.litmus_lex.proofs.cursor.tokens.Given as goal

abbrev pub invariant-loop-spots : goal.invariant-loop-spots
invariant-loop-spots l = record {
  within : l.place.at ≤ length l.text;
  spelled : (found : List Placed) → TokensFrom l.text l.fn.start found ↔ GoesOn l.spots.items (TokensFrom l.text l.place) found;
  found : (read : List Placed) × AreSpots l.spots.items read;
}

abbrev pub decreases-loop-spots : goal.decreases-loop-spots
decreases-loop-spots l = length l.text - l.place.at
