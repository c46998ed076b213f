-- it is told as `check` tells it
use Rattle.std.proofs.Common.{◌∙◌, Vec, ℕ, ap}
use Rattle.std.specs.Global.{Global}
use Rattle.file_commands.proofs.TogetherLemmas.{unread_once}
use Rattle.file_commands.specs.FileWork.{files_of}
use Rattle.file_commands.specs.FilesAsked.{asked_by}
use Rattle.file_commands.proofs.together.tell_unread_text.Goals as goal

pub returns-clause-said : goal.returns-clause-said
returns-clause-said g c = λ settings text is.
    let seen = g.D.Desk.state in
    let asked = asked_by c.args.asked.now in
    let name = c.args.name.now in
    unread_once asked settings name text c.args.unread c.passed_over.result (seen c.args.desk.now) (seen c.tell_file-end.new.desk) c.requires is
    (λ check made. c.tell_file-end.ensures.told (files_of asked) name text check made)
    (ap (λ (v : Vec ℕ Global). v.items) c.passed_over.ensures.text ∙ c.in_ok-text.ensures.text) c.passed_over.ensures.verdict
    c.passed_over.ensures.status
