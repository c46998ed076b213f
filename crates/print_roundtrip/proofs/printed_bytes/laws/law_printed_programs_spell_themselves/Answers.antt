-- The tokens of the printed form have the symbols that spell the program.
use Rattle.print_roundtrip.proofs.printed_bytes.Wholes.{printed_spells}
use Rattle.print_roundtrip.proofs.printed_bytes.laws.law_printed_programs_spell_themselves.Goals as goal

pub returns : goal.returns
returns c = printed_spells
