-- what is found of the run is written
use Rattle.std.proofs.Common.{◌≡◌, ◌∙◌, ap, rules}
use Rattle.prepared_program.specs.program_sites.Prepared.{sites_in}
use Rattle.run_output.proofs.output.output_of.Goals as goal
use Rattle.run_output.specs.Output.{output_text}

pub returns-in-Ok : goal.returns-in-Ok
returns-in-Ok g c = λ settings records comes prepared.
    let found = c.in_ok-found.found in
    let spelled : c.into_bytes.result.items ≡ output_text c.sites.result.now c.reports.result.now found = search rules in
    record {
      found = found;
      found_of = c.in_ok-found.ensures settings (sites_in c.args.prepared.now) records comes prepared;
      spelled = spelled ∙ (ap (λ sites. output_text sites c.reports.result.now found) c.sites.ensures
          ∙ ap (λ reports. output_text (sites_in c.args.prepared.now) reports found) c.reports.ensures.reports);
    }
