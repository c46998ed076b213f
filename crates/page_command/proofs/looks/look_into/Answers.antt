-- what was found of the text
use Rattle.std.proofs.Common.{◌≡◌, ◌∙◌, ℕ, List, ap, refl, subst, sym}
use Rattle.std.proofs.lemmas.Result.{IfOk-weaker}
use Rattle.file_commands.specs.Desks.{DeskState, once_told}
use Rattle.file_commands.specs.FileWork.{Refused, Searched}
use Rattle.file_commands.specs.FilesAsked.{asked_by}
use Rattle.file_search.specs.Work.{IsFoundIn}
use Rattle.file_commands.specs.declared.complaint.Complaint.TheVariants.{Failure}
use Rattle.file_commands.specs.declared.failure.Failure.TheVariants.{Engine}
use Rattle.file_search.specs.declared.work.Work.{Work}
use Rattle.page_command.specs.Looks.{IsFoundLooked, IsLooked}
use Rattle.page_command.specs.Told.{IsRefusedTold}
use Rattle.race_page.specs.page_findings.Results.{AreFindingsOfText}
use Rattle.race_output.specs.Results.{AreRacesOfText, IsFree}
use Rattle.race_output.specs.declared.words.FileVerdict.TheVariants as verdicts
use Rattle.search_formats.specs.declared.refusal.Refusal as refusal
use Rattle.search_output.specs.Texts.{IsRefused}
use Rattle.page_command.proofs.looks.look_into.Goals as goal

pub returns-in-Ok-clause-looked : goal.returns-in-Ok-clause-looked
returns-in-Ok-clause-looked g c = λ before given.
    let found = c.in-Ok.found in
    let name = c.args.name.now in
    let text = c.args.text.items in
    let settings = c.args.settings.now in
    let format = c.args.work.format in
    let output = found.races.output.items in
    let verdict = found.races.verdict in
    let same : c.deref.result.now ≡ text = c.deref.ensures.value in
    let races : AreRacesOfText text settings format name output verdict =
    subst (λ (own : List ℕ). AreRacesOfText own settings format name output verdict) same c.in-Ok.ensures.races in
    let free : verdict ≡ verdicts.Free → IsFree text settings =
    λ is. subst (λ (own : List ℕ). IsFree own settings) same (c.in-Ok.ensures.free is) in
    let asked = asked_by c.args.asked.now in
    let after : DeskState = g.D.Desk.state c.args.desk.now in
    IfOk-weaker c.found_looked.result (IsFoundLooked asked name text found) (λ looked. IsLooked asked format settings name looked before after)
    (λ looked is. record {
      said = record {
        found = Searched name text output verdict;
        file_is = refl;
        is_found = subst (λ (own : Work). IsFoundIn own settings name text output verdict) (sym c.requires.work) (races, free);
        said_is = is.said;
        looked_into = given;
      };
      told = record {
        name_is = is.name_is;
        text_is = is.text_is;
        found = found;
        are = subst (λ (own : List ℕ). AreFindingsOfText own settings format name found) same c.in-Ok.ensures.found;
        output_is = refl;
        verdict_is = refl;
        end_is = is.end_is;
      };
    }) c.found_looked.ensures

pub returns-in_ok-said-in-Err-clause-looked : goal.returns-in_ok-said-in-Err-clause-looked
returns-in_ok-said-in-Err-clause-looked g c = λ before given.
    let error = c.in-Err.error in
    let name = c.args.name.now in
    let text = c.args.text.items in
    let told = c.in_ok-told-in-Err.told in
    let is = c.in_ok-said-in-Err.ensures.refused in record {
      said = record {
        found = Refused name text error;
        file_is = refl;
        is_found = (
          subst (λ (own : List ℕ). IsRefused own c.args.settings.now error) c.deref.ensures.value c.in-Err.ensures.refused,
          λ no. is.some (is.status_is ∙ no),
        );
        said_is = record { text_is = is.text_is; verdict_is = is.verdict_is; status_is = is.status_is };
        looked_into = is.told ∙ ap (λ (at : DeskState). once_told (Failure (Engine error)) at) given;
      };
      told = subst (λ (why : refusal.Refusal). IsRefusedTold name text why told) c.refusal_in.ensures c.in_ok-told-in-Err.ensures;
    }
