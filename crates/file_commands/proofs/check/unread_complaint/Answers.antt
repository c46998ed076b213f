-- of several files a line names it
use Rattle.std.proofs.Common.{◌≡◌, rules, true}
use Rattle.file_commands.proofs.CheckLemmas.{lost_of_several}
use Rattle.file_commands.proofs.check.unread_complaint.Goals as goal

pub returns-clause-told : goal.returns-clause-told
returns-clause-told c = λ before.
    let many : c.args.files.several ≡ true = search rules in
    lost_of_several c.args.files.several c.args.name.now before c.in_ok-bytes.bytes many c.in_ok-bytes.ensures
