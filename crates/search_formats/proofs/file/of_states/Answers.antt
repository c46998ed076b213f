-- What is found is written.
use Rattle.std.proofs.Common.{◌∙◌, ◌==◌, ap, false, length, map, not}
use Rattle.prepared_program.specs.program_sites.Prepared.{sites_in}
use Rattle.search_formats.proofs.Written.{same_written}
use Rattle.search_formats.proofs.file.of_states.Goals as goal
use Rattle.search_output.specs.declared.findings.Findings.{Findings}
use Rattle.search_text.specs.declared.found.SearchFindings.{SearchFindings}

pub returns : goal.returns
returns c = λ of.
    let settings = c.args.settings.now in
    let program = c.args.reading.now.program in
    let searched = c.args.searched in
    let sites = sites_in c.args.prepared.now in
    let spots = map (λ own. own.items) c.args.reading.now.places.items in
    let reported_is = c.found-reported.ensures ∙ ap (λ (findings : Findings). findings.found) c.reported.ensures
    ∙ c.keep_printed.ensures.reported in
    let ended_is = c.found-ended.ensures ∙ ap (λ (findings : Findings). findings.found) (c.ended.ensures ∙ c.keep_printed.ensures.ended) in
    record {
      fit = c.requires.fit;
      sites = sites;
      sites_are = c.requires.sites;
      searched = searched;
      of = of;
      stopped_is = c.is_stopped.ensures;
      spots = spots;
      output_is = c.in_ok-output.ensures
          ∙ same_written c.args.format c.args.name.now program c.args.text.now spots sites settings false searched.visited _ _ _ _ _ _
          reported_is ended_is c.is_stopped.ensures;
      raced_is = c.has_reports.ensures ∙ ap (λ (found : SearchFindings). not (length found.reports == 0)) reported_is;
    }
