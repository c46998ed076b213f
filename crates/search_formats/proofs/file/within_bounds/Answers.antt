-- What is found is written.
use Rattle.std.proofs.Common.{◌∙◌, ◌==◌, Some, ap, length, map, not, sym, true}
use Rattle.litmus_step.specs.Runs.{run_of}
use Rattle.prepared_program.specs.program_sites.Prepared.{sites_in}
use Rattle.search_formats.proofs.Written.{same_written}
use Rattle.search_formats.proofs.file.within_bounds.Goals as goal
use Rattle.search_run.proofs.AllTold.{all_told}
use Rattle.search_text.specs.declared.found.SearchFindings.{SearchFindings}

pub returns : goal.returns
returns c = λ of enough.
    let settings = c.args.settings.now in
    let program = c.args.reading.now.program in
    let wanted = c.args.wanted in
    let searched = c.args.searched in
    let sites = sites_in c.args.prepared.now in
    let spots = map (λ own. own.items) c.args.reading.now.places.items in
    let found_is = c.found-found.ensures ∙ c.keep_printed.ensures.found in
    record {
      fit = c.requires.fit;
      sites = sites;
      sites_are = c.requires.sites;
      findings = searched.findings;
      nodes = searched.nodes;
      how = searched.stopped;
      stopped_is = c.is_stopped.ensures;
      searched = of;
      enough = enough;
      all_told = λ whole. all_told c.law_longer_lists_report_no_less.ensures (run_of program settings sites) (Some wanted.switches) wanted.limit
          wanted.seconds searched.nodes searched.stopped of.lists (sym c.is_stopped.ensures ∙ whole) of.searched enough;
      spots = spots;
      output_is = c.in_ok-output.ensures
          ∙ same_written c.args.format c.args.name.now program c.args.text.now spots sites settings true searched.nodes _ _ _ _ _ _
          found_is found_is c.is_stopped.ensures;
      raced_is = c.has_reports.ensures ∙ ap (λ (found : SearchFindings). not (length found.reports == 0)) found_is;
    }
