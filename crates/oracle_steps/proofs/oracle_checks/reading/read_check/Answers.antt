-- A new checker reads the records of the access that it begins.
use Rattle.std.proofs.Common.{[], None, refl, sym}
use Rattle.setup_access.specs.Checker.{Checks}
use Rattle.setup_access.specs.Setting.{Setting}
use Rattle.oracle_steps.proofs.oracle_checks.reading.read_check.Goals as goal

pub returns : goal.returns
returns c = λ own.
    let s : Setting = record { task = c.args.access.now.task; rules = c.args.rules.now; cells = c.args.cells.now; sites = c.args.sites.now } in
    let begins = c.begin.ensures.begins in
    let goes = begins.2 s [] 0 None (rw c.task.ensures.value at (c.in_ok-checker.ensures.rests c.args.sites.now)) own in
    (begins.0, begins.1, rw c.in_ok-checker.ensures.context at goes.0, c.read_on-reading.ensures s [] (Checks begins.0) 0 refl (sym c.task-2.ensures.value) goes.1)
