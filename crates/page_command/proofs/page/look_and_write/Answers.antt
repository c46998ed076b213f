-- the files were looked into
use Rattle.std.proofs.Common.{inl, inr}
use Rattle.page_command.proofs.PageLemmas.{all_left}
use Rattle.page_command.specs.Ends.{Left, Told}
use Rattle.file_commands.specs.Desks.{DeskState}
use Rattle.file_commands.specs.FilesAsked.{asked_by}
use Rattle.page_command.proofs.page.look_and_write.Goals as goal

pub returns-in-Ok : goal.returns-in-Ok
returns-in-Ok g c =
    let asked = asked_by c.args.asked.now in
    let format = c.args.work.format in
    let settings = c.args.settings.now in
    let all = c.in-Ok.all in
    let before : DeskState = g.D.Desk.state c.args.desk.now in
    let middle : DeskState = g.D.Desk.state c.look_into_files.new.desk in
    let looked = c.in-Ok.ensures.looked in
    elim c.write_all.ensures [
      | inl written ↦ Told (record { settings = settings; all = all; middle = middle; looked = looked; page = written })
      | inr over ↦ Left (record { middle = middle; left = all_left asked format settings all before middle looked; over = over })
    ]

pub returns-in-Err : goal.returns-in-Err
returns-in-Err g c = Left (record {
  middle = g.D.Desk.state c.look_into_files.new.desk;
  left = c.in-Err.ensures.left;
  over = record { status_is = c.tell.ensures.status; told = c.tell.ensures.told };
})
