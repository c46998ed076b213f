-- `check` finds that the text isn't read as a program
use Rattle.std.proofs.Common.{◌≡◌, ◌∙◌, Some, rules, subst}
use Rattle.diagnostics.specs.check_output.Output.{IsMadeOf}
use Rattle.diagnostics.specs.declared.check_output.file.Files.{Files}
use Rattle.file_commands.specs.FileWork.{refused_by}
use Rattle.file_commands.proofs.together.end_of.Goals as goal

pub returns-in-Some : goal.returns-in-Some
returns-in-Some g c =
    let name = c.args.name.now in
    let files = c.files_for.result in
    let check = c.in_ok-comes.ensures.0 in
    let made = c.in_ok-comes.ensures.2 in
    let refused : c.refused_by.result ≡ refused_by check = c.refused_by.ensures files name check made in
    let found : Some (c.in-Some.status, c.in-Some.why) ≡ c.refused_by.result = search rules in
    record {
      check = check;
      is_check = c.in_ok-comes.ensures.1;
      made = subst (λ (f : Files). IsMadeOf f name check c.in_ok-comes.comes) c.files_for.ensures made;
      why_is = found ∙ refused;
    }
