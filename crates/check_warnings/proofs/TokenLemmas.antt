-- Nothing is warned of behind a text, and of tokens what is warned of their places.
use Rattle.std.proofs.Common.{◌≡◌, ◌<◌, ◌∷◌, ℕ, List, [], ap, ap₂, arith, length, refl}
use Rattle.std.proofs.Math.ListN.{drop_of_length-le}
use Rattle.litmus_lex.specs.Spots.{AreSpots}
use Rattle.litmus_lex.specs.Tokens.{Placed}
use Rattle.litmus_lex.specs.declared.cursor.Spot.{Spot}
use Rattle.check_warnings.specs.OtherReadings.{is_octal, places_of, places_of_spots, reading_line, reading_of, token_line}

pub none_past : (file text : List ℕ) (at : ℕ) → length text < at → token_line file text at ≡ []
unfolding token_line reading_line reading_of is_octal
none_past file text at past =
    ap (λ (rest : List ℕ). reading_line file text at (reading_of rest)) (drop_of_length-le text (omega (arith, past)))

pub same_places : (spots : List Spot) (tokens : List Placed) → AreSpots spots tokens → places_of_spots spots ≡ places_of tokens
same_places [] [] same = refl
same_places [] (token ∷ tokens) same = absurd same
same_places (spot ∷ spots) [] same = absurd same
same_places (spot ∷ spots) (token ∷ tokens) same =
    ap₂ (λ (at : ℕ) (places : List ℕ). at ∷ places) same.1.0 (same_places spots tokens same.1.1)
