-- what was found of the text
use Rattle.std.proofs.Common.{◌∙◌, ap, refl}
use Rattle.std.proofs.lemmas.Result.{IfOk-weaker}
use Rattle.file_commands.specs.Desks.{DeskState, once_told}
use Rattle.file_commands.specs.FileWork.{Refused, Searched}
use Rattle.file_commands.specs.declared.failure.Failure.TheVariants.{Engine}
use Rattle.file_commands.specs.declared.complaint.Complaint.TheVariants.{Failure}
use Rattle.file_commands.proofs.files.look_into.Goals as goal

pub returns-in-Ok-clause-looked : goal.returns-in-Ok-clause-looked
returns-in-Ok-clause-looked g c = λ before given.
    let found = c.in-Ok.found in
    IfOk-weaker c.said_of.result _ _ (λ said is. record {
      found = Searched c.args.name.now c.args.text.now found.output.items found.verdict;
      file_is = refl;
      is_found = c.in-Ok.ensures.found;
      said_is = is;
      looked_into = given;
    }) (c.said_of.ensures c.args.text.now)

pub returns-in-Err-clause-looked : goal.returns-in-Err-clause-looked
returns-in-Err-clause-looked g c = λ before given.
    let error = c.in-Err.error in
    IfOk-weaker c.refuse.result _ _ (λ said is. record {
      found = Refused c.args.name.now c.args.text.now error;
      file_is = refl;
      is_found = (c.in-Err.ensures.refused, λ no. is.some (is.status_is ∙ no));
      said_is = record { text_is = is.text_is; verdict_is = is.verdict_is; status_is = is.status_is };
      looked_into = is.told ∙ ap (λ (at : DeskState). once_told (Failure (Engine error)) at) given;
    }) c.refuse.ensures.refused
