-- what `check` says of the text
use Rattle.std.proofs.Common.{◌≡◌, ◌∙◌, Some, Vec, ℕ, ap, rules, subst, true}
use Rattle.std.specs.Global.{Global}
use Rattle.diagnostics.specs.check_output.Diagnosis.{Gave}
use Rattle.diagnostics.specs.declared.check_output.file.Files.{Files}
use Rattle.file_commands.proofs.FilesLemmas.{unread_said}
use Rattle.file_commands.specs.Check.{IsToldOf}
use Rattle.file_commands.specs.Desks.{DeskState}
use Rattle.file_commands.specs.FileWork.{files_of, refused_by}
use Rattle.file_commands.specs.FilesAsked.{asked_by}
use Rattle.file_commands.proofs.files.tell_unread.Goals as goal

pub returns-clause-found : goal.returns-clause-found
returns-clause-found g c = λ before given.
    let asked = asked_by c.args.asked.now in
    let name = c.args.name.now in
    let text = c.args.text.now in
    let files = c.files_for-files.result in
    let files_are : files ≡ files_of asked = c.files_for-files.ensures in
    let middle : DeskState = g.D.Desk.state c.args.desk.now in
    let after : DeskState = g.D.Desk.state c.tell_file-end.new.desk in
    let check = c.in_ok-comes.ensures.0 in
    let is_check = c.in_ok-comes.ensures.1 in
    let made = c.in_ok-comes.ensures.2 in
    let several : files.several ≡ true = search rules in
    let refused : c.refused_by.result ≡ refused_by check = c.refused_by.ensures files name check made in
    let found : Some (c.in-Some.status, c.in-Some.why) ≡ c.refused_by.result = search rules in
    unread_said asked c.args.settings.now name text check c.in-Some.status c.in-Some.why c.passed_over.result before middle after
    (subst (λ (f : Files). f.several ≡ true) files_are several) is_check (found ∙ refused) given c.tell_file-end.ensures.rest
    (subst (λ (f : Files). IsToldOf f (Gave name text check) middle.told after.told) files_are
    (c.tell_file-end.ensures.told files name text check made))
    (ap (λ (v : Vec ℕ Global). v.items) c.passed_over.ensures.text ∙ c.in_ok-text.ensures.text) c.passed_over.ensures.verdict
    c.passed_over.ensures.status
