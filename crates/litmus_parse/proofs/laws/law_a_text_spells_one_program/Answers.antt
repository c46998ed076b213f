-- The text has one name and one list of tokens, and both programs are what is read of these.
use Rattle.std.proofs.Common.{◌∙◌, ℕ, List, ap, map, subst, sym}
use Rattle.litmus_lex.specs.Tokens.{Placed}
use Rattle.litmus_expression.proofs.Taken.{same_given}
use Rattle.litmus_parse.specs.Grammar.{Grammar, symbol_at}
use Rattle.litmus_parse.specs.TextReader.{program_at}
use Rattle.litmus_parse.proofs.TextComplete.{text_complete}
use Rattle.litmus_parse.proofs.laws.law_a_text_spells_one_program.Goals as goal

pub returns : goal.returns
returns c = λ text one two first second.
    let same = c.law_a_text_has_one_reading.ensures text one.name two.name first.tokens second.tokens first.lexed second.lexed in
    let grammar : Grammar (map symbol_at second.tokens) one =
    subst (λ (l : List Placed). Grammar (map symbol_at l) one) same.1 first.parsed in
    same_given one two
    (sym (text_complete (map symbol_at second.tokens) one grammar)
    ∙ ap (λ (n : List ℕ). program_at n (map symbol_at second.tokens)) same.0
    ∙ text_complete (map symbol_at second.tokens) two second.parsed)
