-- The spots are the tokens of the text, and there is a head.
use Rattle.std.proofs.Common.{◌≡◌, ◌∙◌, IfOk, List, ap, subst, sym, ℕ}
use Rattle.litmus_lex.specs.Tokens.{TokensAt}
use Rattle.litmus_lex.specs.declared.token.Part.{Part}
use Rattle.litmus_lex.specs.declared.token.Part.TheVariants.{Init}
use Rattle.litmus_lex.specs.declared.cursor.Spot.{Spot}
use Rattle.check_warnings.proofs.TokenLemmas.{same_places}
use Rattle.check_warnings.specs.OtherReadings.{lines_at, places_of_spots}
use Rattle.check_warnings.proofs.other_readings.tokens_lines.Goals as goal

pub returns-in-Err : goal.returns-in-Err
returns-in-Err c = λ name found spelled. absurd (c.in-Err.ensures.only name spelled.at spelled.head)

pub returns-in_ok-spots-in-Ok : goal.returns-in_ok-spots-in-Ok
returns-in_ok-spots-in-Ok c = λ name found spelled.
    let heads = c.in-Ok.ensures.only name spelled.at spelled.head in
    let body = subst (λ (part : Part). TokensAt c.args.text.now part c.in-Ok.head.after.at found) (sym c.in-Ok.ensures.part)
    (subst (λ (at : ℕ). TokensAt c.args.text.now Init at found) (sym heads.1) spelled.body) in
    let same = same_places c.in_ok-spots-in-Ok.spots.items found ((c.in_ok-spots-in-Ok.ensures.spelled found).0 body) in
    subst (λ (places : List ℕ). IfOk c.spots_lines.result (λ lines. lines.items ≡ lines_at c.args.file.now c.args.text.now places))
    (ap (λ (spots : List Spot). places_of_spots spots) c.deref.ensures.value ∙ same) c.spots_lines.ensures
