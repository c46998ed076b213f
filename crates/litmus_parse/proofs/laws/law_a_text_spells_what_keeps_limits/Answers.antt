-- By its symbols, of which there are no more than bytes.
use Rattle.std.proofs.Common.{arith, map}
use Rattle.litmus_parse.specs.Grammar.{symbol_at}
use Rattle.litmus_parse.proofs.GrammarKeeps.{grammar_keeps}
use Rattle.litmus_parse.proofs.NamesUtf8.{names_are_utf8, symbols_few}
use Rattle.litmus_parse.proofs.laws.law_a_text_spells_what_keeps_limits.Goals as goal

pub returns : goal.returns
returns c = record {
  limits = λ text program spells.
      let few = symbols_few text program.name spells.tokens spells.lexed in
      let size = spells.size in
      grammar_keeps (map symbol_at spells.tokens) program spells.parsed (omega (arith, few, size));
  names = λ text program spells. let are = names_are_utf8 text program spells in (are.2, are.0, are.1);
}
