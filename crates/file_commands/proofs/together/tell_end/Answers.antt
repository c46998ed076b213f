-- nothing is told of a text that was looked into; it is told why one has no output
use Rattle.std.proofs.Common.{refl, subst}
use Rattle.std.proofs.lemmas.Result.{IfOk-weaker}
use Rattle.file_commands.proofs.TogetherLemmas.{found_once, refused_once}
use Rattle.file_commands.specs.FilesAsked.{asked_by}
use Rattle.file_commands.specs.Together.{IsEndOfText}
use Rattle.file_commands.specs.declared.together.TextEnd.{TextEnd}
use Rattle.file_commands.specs.declared.together.TextEnd.TheVariants as ends
use Rattle.file_commands.proofs.together.tell_end.Goals as goal

pub returns-in-Found-clause-said : goal.returns-in-Found-clause-said
returns-in-Found-clause-said g c = λ settings text is.
    let at = g.D.Desk.state c.args.desk.now in
    let asked = asked_by c.args.asked.now in
    let name = c.args.name.now in
    let found : IsEndOfText asked settings name text (ends.Found c.in-Found.found) =
    subst (λ (end : TextEnd). IsEndOfText asked settings name text end) c.in-Found.is is in
    IfOk-weaker c.said_of.result _ _ (λ said own. found_once asked settings name text c.in-Found.found.output.items
    c.in-Found.found.verdict said at at found own refl)
    (c.said_of.ensures text)

pub returns-in-Refused-clause-said : goal.returns-in-Refused-clause-said
returns-in-Refused-clause-said g c = λ settings text is.
    let seen = g.D.Desk.state in
    let asked = asked_by c.args.asked.now in
    let name = c.args.name.now in
    let refused : IsEndOfText asked settings name text (ends.Refused c.in-Refused.error) =
    subst (λ (end : TextEnd). IsEndOfText asked settings name text end) c.in-Refused.is is in
    IfOk-weaker c.refuse.result _ _ (λ said told. refused_once asked settings name text c.in-Refused.error said (seen c.args.desk.now)
    (seen c.refuse.new.desk) refused.0 told) c.refuse.ensures.refused
