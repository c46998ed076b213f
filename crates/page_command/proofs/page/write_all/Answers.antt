-- the page was written, or memory ran out
use Rattle.std.proofs.Common.{ℕ, List, inl, inr, subst}
use Rattle.file_commands.specs.Desks.{DeskState}
use Rattle.page_command.specs.Ends.{IsWritten}
use Rattle.page_command.specs.Told.{IsPageText}
use Rattle.race_page.specs.declared.values.FileTold.{FileTold}
use Rattle.page_command.proofs.page.write_all.Goals as goal

pub returns-in-Ok : goal.returns-in-Ok
returns-in-Ok g c =
    let all = c.args.all.now in
    let page = c.in-Ok.page.items in
    let before : DeskState = g.D.Desk.state c.args.desk.now in
    let after : DeskState = g.D.Desk.state c.write_page.new.desk in
    inl (record {
      bytes = page;
      page = subst (λ (files : List FileTold). IsPageText c.args.settings.now files page) c.deref.ensures.value c.in-Ok.ensures;
      written = subst (λ (bytes : List ℕ). IsWritten c.args.path.now bytes all.checked.output.items all.checked.status c.write_page.result before after)
          c.deref-in-Ok.ensures.value c.write_page.ensures;
    })

pub returns-in-Err : goal.returns-in-Err
returns-in-Err g c = inr (record { status_is = c.tell.ensures.status; told = c.tell.ensures.told })
