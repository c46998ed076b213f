-- What is found of a program that is made ready is written, and told.
use Rattle.std.proofs.Common.{◌∙◌, Err, ap, map}
use Rattle.race_page.proofs.page_findings.file.program_findings.Goals as goal
use Rattle.prepared_program.specs.program_sites.Prepared.{sites_in}
use Rattle.race_output.specs.Words.{verdict_of}
use Rattle.run_output.specs.declared.error.EngineError.TheVariants.{Run}
use Rattle.search_output.proofs.Results.{err_holds, preparing_stops}
use Rattle.search_output.specs.Texts.{ProgramStops}

pub returns-clause-found : goal.returns-clause-found
returns-clause-found g c =
    let ready = c.in_ok-prepared.ensures.prepared in
    record {
      fit = ready.fit;
      sites = sites_in c.in_ok-prepared.prepared;
      sites_are = ready.sites;
      found = c.in_ok-found.found;
      races = c.in_ok-found.ensures c.args.settings.now ready c.requires.turns;
      places = map (λ own. own.items) c.args.reading.now.places.items;
      output_is = c.in_ok-output.ensures;
      verdict_is = c.verdict_of-verdict.ensures ∙ ap verdict_of c.as_slice.ensures.value;
      told = c.in_ok-told.ensures;
    }

pub returns-in_err-prepared-clause-stops : goal.returns-in_err-prepared-clause-stops
returns-in_err-prepared-clause-stops g c =
    let error = c.in_err-prepared.field-0.0 in
    let program = c.args.reading.now.program in
    let settings = c.args.settings.now in
    err_holds (ProgramStops program settings) c.from_residual.result (Run error) c.from_residual.ensures.1
    (preparing_stops program settings error c.in_err-prepared.ensures.errors
    (λ is. c.in_err-prepared.ensures.bad_slots (ap Err is)) (λ is. c.in_err-prepared.ensures.bad_place.0 (ap Err is)))
