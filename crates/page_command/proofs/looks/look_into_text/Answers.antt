-- it isn't read, or it was looked into
use Rattle.std.proofs.Common.{◌≡◌, ◌∙◌, List, Some, Vec, ℕ, ap, rules, subst, true}
use Rattle.std.specs.Global.{Global}
use Rattle.diagnostics.specs.check_output.Diagnosis.{Gave}
use Rattle.diagnostics.specs.declared.check_output.file.Files.{Files}
use Rattle.diagnostics.specs.text_check.Check.{IsCheckOf}
use Rattle.file_commands.specs.Check.{IsToldOf}
use Rattle.file_commands.specs.Desks.{DeskState}
use Rattle.file_commands.specs.FileWork.{files_of, refused_by}
use Rattle.file_commands.specs.FilesAsked.{asked_by}
use Rattle.page_command.proofs.LookLemmas.{unread_looked}
use Rattle.page_command.proofs.looks.look_into_text.Goals as goal

pub returns-clause-looked : goal.returns-clause-looked
returns-clause-looked g c = λ before given.
    let asked = asked_by c.args.asked.now in
    let name = c.args.name.now in
    let text = c.args.text.items in
    let files = c.files_for-files.result in
    let files_are : files ≡ files_of asked = c.files_for-files.ensures in
    let middle : DeskState = g.D.Desk.state c.args.desk.now in
    let after : DeskState = g.D.Desk.state c.tell_file-end.new.desk in
    let check = c.in_ok-comes.ensures.0 in
    let is_check = c.in_ok-comes.ensures.1 in
    let made = c.in_ok-comes.ensures.2 in
    let several : files.several ≡ true = search rules in
    let refused : c.refused_by.result ≡ refused_by check = c.refused_by.ensures files name check made in
    let found : Some (c.in-Some.status, c.in-Some.why) ≡ c.refused_by.result = search rules in
    unread_looked asked c.args.work c.args.settings.now name text check c.in-Some.status c.in-Some.why
    (record { said = c.passed_over.result; told = c.in_ok-told.told }) before middle after c.requires.work
    (subst (λ (f : Files). f.several ≡ true) files_are several)
    (subst (λ (own : List ℕ). IsCheckOf name own c.args.settings.now check) c.deref.ensures.value is_check) (found ∙ refused) given c.tell_file-end.ensures.rest
    (subst (λ (f : Files). IsToldOf f (Gave name text check) middle.told after.told) files_are
    (c.tell_file-end.ensures.told files name text check made))
    (ap (λ (v : Vec ℕ Global). v.items) c.passed_over.ensures.text ∙ c.new.ensures.items) c.passed_over.ensures.verdict
    c.passed_over.ensures.status c.in_ok-told.ensures
