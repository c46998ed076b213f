-- the file was written, and then what is printed, or it wasn't
use Rattle.std.proofs.Common.{inl, inr, subst}
use Rattle.file_commands.specs.Check.{IsPrinted}
use Rattle.file_commands.specs.Desks.{DeskState}
use Rattle.file_commands.specs.Files.{Has, noted}
use Rattle.page_command.proofs.PageLemmas.{same_but_files, write_failed}
use Rattle.page_command.proofs.page.write_page.Goals as goal

pub returns-in-Ok : goal.returns-in-Ok
returns-in-Ok g c =
    let before : DeskState = g.D.Desk.state c.args.desk.now in
    let middle : DeskState = g.D.Desk.state c.write_file.new.self in
    let after : DeskState = g.D.Desk.state c.print_checked.new.desk in
    let wrote = c.in-Ok.ensures in
    let files = noted before.files (Has c.args.path.now c.args.page.now) in
    let output = c.args.checked.now.output.items in
    inl (subst (λ (at : DeskState). IsPrinted output c.args.checked.now.status c.print_checked.result at after)
    (same_but_files before middle files wrote.written wrote.works wrote.has wrote.told wrote.faults) c.print_checked.ensures)

pub returns-in-Err : goal.returns-in-Err
returns-in-Err g c =
    let wrote = c.in-Err.ensures in
    inr (write_failed (g.D.Desk.state c.args.desk.now) (g.D.Desk.state c.write_file.new.self) (g.D.Desk.state c.tell.new.desk) c.tell.result
    c.tell.ensures.status c.tell.ensures.told wrote.written wrote.kept wrote.told wrote.faults wrote.failed)
