-- Part by part.
use Rattle.print_roundtrip.proofs.printed_bytes.Wholes.{program_read}
use Rattle.print_roundtrip.proofs.printed_bytes.laws.law_printed_programs_are_read.Goals as goal

pub returns : goal.returns
returns c = program_read
