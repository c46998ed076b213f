-- one is found
use Rattle.std.proofs.Common.{◌↔◌, sym, subst}
use Rattle.std.specs.Prelude.{IsTrue}
use Rattle.report_text.specs.Standing.{NamesOne, accesses_of}
use Rattle.trace_replay.proofs.Naming.{names_one}
use Rattle.trace_replay.proofs.story.Story.names.Goals as goal

pub returns : goal.returns
returns c = λ all knows. subst (λ b. IsTrue b ↔ NamesOne all c.args.ticket) (sym c.is_some.ensures)
    (names_one c.named.result all c.args.ticket (c.named.ensures (accesses_of all) knows.accesses))
