-- Names and numbers are those of tokens.
use Rattle.print_roundtrip.proofs.printed_bytes.Spelled.{program_spelled}
use Rattle.print_roundtrip.proofs.printed_bytes.laws.law_texts_spell_programs_with_their_names.Goals as goal

pub returns : goal.returns
returns c = program_spelled
