-- The warnings are told where there are some.
use Rattle.file_commands.proofs.CheckLemmas.{some_text, warned_so}
use Rattle.file_commands.proofs.check.warn.Goals as goal

pub returns-then-not-is_empty-clause-told : goal.returns-then-not-is_empty-clause-told
returns-then-not-is_empty-clause-told g c =
    warned_so c.args.warnings _ _
    (some_text c.args.warnings c.is_empty.result c.is_empty.ensures c.if-not-is_empty.true)
    c.complain.ensures.told
