-- By the place in the list.
use Rattle.std.proofs.Common.{◌∙◌}
use Rattle.prepared_program.proofs.program_layout.LayLemmas.{bytes_got}
use Rattle.prepared_program.proofs.program_layout.layout.Layout.bytes_in.Goals as goal

pub returns : goal.returns
returns c = λ places variables lays. c.bytes_of.ensures ∙ bytes_got places variables c.args.self.now.variables.items c.args.variable lays
