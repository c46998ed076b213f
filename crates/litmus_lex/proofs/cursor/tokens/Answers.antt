-- What is read and what is left are the tokens of the text, at each turn and at the end.
use Rattle.std.proofs.Common.{List, [], ◌∷◌, ◌++◌, subst, sym, refl}
use Rattle.std.specs.Prelude.{◌↔◌, Option, Some}
use Rattle.litmus_lex.specs.declared.token.Token.{Token}
use Rattle.litmus_lex.specs.Token.{Terminal, terminal_of}
use Rattle.litmus_lex.specs.Tokens.{Continues, Placed, TokensFrom}
use Rattle.litmus_lex.specs.declared.cursor.Spot.{Spot}
use Rattle.litmus_lex.specs.Spots.{AreSpots}
use Rattle.litmus_lex.proofs.Spelled.{AreSpots-push, GoesOn, terminal_there, one_more, all_read}
use Rattle.litmus_lex.proofs.cursor.tokens.Goals as goal

pub loop-spots-preserved : goal.loop-spots-preserved
loop-spots-preserved c =
    let lexeme = c.next_token-lexeme.result in
    let there = terminal_there lexeme.token c.in_default.not-End in
    let next : Continues c.args.text.now c.loop-spots.place (Some there.0) lexeme.at lexeme.after.part lexeme.after.at =
    subst (λ (o : Option Terminal). Continues c.args.text.now c.loop-spots.place o lexeme.at lexeme.after.part lexeme.after.at) there.1 c.next_token-lexeme.ensures.next in
    let All : List Placed → Type 0 = TokensFrom c.args.text.now c.args.start in
    let grown = one_more All (TokensFrom c.args.text.now c.loop-spots.place) (TokensFrom c.args.text.now lexeme.after)
    c.loop-spots.spots.items (record { token = lexeme.token; at = lexeme.at }) (record { terminal = there.0; at = lexeme.at })
    c.loop-spots.invariant.spelled next (there.1, refl) in
    record {
      within = c.next_token-lexeme.ensures.within;
      spelled = subst (λ (l : List Spot). (found : List Placed) → All found ↔ GoesOn l (TokensFrom c.args.text.now lexeme.after) found) (sym c.in_ok-push.ensures.items) grown;
      found = subst (λ (l : List Spot). (read : List Placed) × AreSpots l read) (sym c.in_ok-push.ensures.items) (
        c.loop-spots.invariant.found.0 ++ record { terminal = there.0; at = lexeme.at } ∷ [],
        AreSpots-push c.loop-spots.spots.items c.loop-spots.invariant.found.0 (record { token = lexeme.token; at = lexeme.at })
            (record { terminal = there.0; at = lexeme.at }) c.loop-spots.invariant.found.1 (there.1, refl),
      );
    }

pub returns-in-End-clause-spelled : goal.returns-in-End-clause-spelled
returns-in-End-clause-spelled c =
    let lexeme = c.next_token-lexeme.result in
    all_read (TokensFrom c.args.text.now c.args.start) (TokensFrom c.args.text.now c.loop-spots.place) c.loop-spots.spots.items c.loop-spots.invariant.spelled
    (subst (λ (t : Token). Continues c.args.text.now c.loop-spots.place (terminal_of t) lexeme.at lexeme.after.part lexeme.after.at) c.in-End.is c.next_token-lexeme.ensures.next)
