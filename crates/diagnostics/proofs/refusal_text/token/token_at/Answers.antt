-- The token is the next one.
use Rattle.std.proofs.Common.{◌-◌, ◌∙◌, List, ap, arith, drop, length, refl, ℕ}
use Rattle.std.proofs.lemmas.List.{length-drop, take_all}
use Rattle.litmus_lex.specs.Token.{terminal_of}
use Rattle.litmus_lex.specs.declared.token.Part.TheVariants.{Body}
use Rattle.diagnostics.specs.refusal_text.Token.{bytes_of}
use Rattle.diagnostics.proofs.refusal_text.token.token_at.Goals as goal

pub returns : goal.returns
returns c =
    let text : List ℕ = c.args.text.now in
    let behind = drop c.args.at text in
    let whole = take_all (length text - c.args.at) behind (omega (arith, length-drop c.args.at text)) in
    record {
      place = record { at = c.args.at; part = Body 0; shallow = omega arith };
      there = refl;
      part = refl;
      lexeme = c.next_token.result;
      next = c.next_token.ensures.next;
      is = c.bytes_of.ensures ∙ ap (λ (bytes : List ℕ). bytes_of bytes (terminal_of c.next_token.result.token)) whole;
    }
