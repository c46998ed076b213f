-- a thread looked into the text
use Rattle.file_commands.proofs.TogetherLemmas.{end_as_given}
use Rattle.file_commands.specs.FilesAsked.{asked_by}
use Rattle.file_commands.proofs.together.end_at.Goals as goal

pub returns-in-Some-clause-end : goal.returns-in-Some-clause-end
returns-in-Some-clause-end g c = λ texts given are given_is name_is text_is.
    let asked = asked_by c.args.asked.now in
    let settings = c.args.settings.now in
    end_as_given asked settings texts c.args.at c.in-Some.end given c.args.name.now c.args.text.now
    (c.in-Some.ensures.end asked settings texts are) given_is name_is text_is
