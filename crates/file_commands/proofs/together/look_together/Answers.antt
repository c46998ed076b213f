-- memory ran out before anything was told
use Rattle.file_commands.proofs.CheckLemmas.{on_err}
use Rattle.file_commands.proofs.TogetherLemmas.{all_are_first, left_untold}
use Rattle.file_commands.specs.FileWork.{AreLeftTogether}
use Rattle.file_commands.specs.FilesAsked.{asked_by}
use Rattle.file_commands.specs.Together.{texts_of}
use Rattle.file_commands.proofs.together.look_together.Goals as goal

pub returns-in_err-texts-clause-left : goal.returns-in_err-texts-clause-left
returns-in_err-texts-clause-left g c =
    let seen = g.D.Desk.state in
    let asked = asked_by c.args.asked.now in
    on_err (AreLeftTogether asked (seen c.args.desk.now) (seen c.read_files.new.desk)) _
    (left_untold asked c.args.settings.now (seen c.args.desk.now) (seen c.read_files.new.desk) c.requires.asks c.requires.several c.requires.jobs
    c.in_err-texts.ensures.left)

pub returns-in_err-ends-clause-left : goal.returns-in_err-ends-clause-left
returns-in_err-ends-clause-left g c =
    let seen = g.D.Desk.state in
    let asked = asked_by c.args.asked.now in
    on_err (AreLeftTogether asked (seen c.args.desk.now) (seen c.read_files.new.desk)) _
    (left_untold asked c.args.settings.now (seen c.args.desk.now) (seen c.read_files.new.desk) c.requires.asks c.requires.several c.requires.jobs
    (all_are_first asked (texts_of c.in_ok-texts.texts.items) (seen c.args.desk.now) (seen c.read_files.new.desk) c.in_ok-texts.ensures.read))
