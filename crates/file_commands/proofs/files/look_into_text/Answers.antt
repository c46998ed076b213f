-- it isn't read, or it was looked into
use Rattle.std.proofs.Common.{IfSome, Option, subst}
use Rattle.file_commands.specs.FileWork.{IsLookedAt}
use Rattle.file_commands.specs.FilesAsked.{asked_by}
use Rattle.file_commands.specs.declared.files.FileSaid.{FileSaid}
use Rattle.file_commands.proofs.files.look_into_text.Goals as goal

pub returns-in-Some-clause-looked : goal.returns-in-Some-clause-looked
returns-in-Some-clause-looked g c = λ before given.
    let after = g.D.Desk.state c.tell_unread.new.desk in
    subst (λ (told : Option FileSaid). IfSome told (λ said.
    IsLookedAt (asked_by c.args.asked.now) c.args.settings.now c.args.name.now said before after)) c.in-Some.is
    (c.in_ok-said.ensures.found before given)
