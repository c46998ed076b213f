-- A text is made of checks, with other steps between them.
use Rattle.std.proofs.Common.{◌++◌}
use Rattle.program_order.specs.Standing.{checks_of}
use Rattle.program_order.proofs.DisciplineKept.{whole_text}
use Rattle.program_order.proofs.laws.law_the_written_order_keeps_the_discipline.Goals as goal

pub returns-clause-keeps : goal.returns-clause-keeps
returns-clause-keeps c = λ s registers body records written.
    let whole = whole_text s registers body (records ++ written.more) written.whole in
    c.law_checks_keep_the_discipline.ensures.keeps (checks_of s) records written.more whole.0 whole.1

pub returns-clause-finished : goal.returns-clause-finished
returns-clause-finished c = λ s registers body records whole.
    c.law_checks_keep_the_discipline.ensures.finished (checks_of s) records (whole_text s registers body records whole).0
