-- What is found of the program is found of its text, and what is refused is no program.
use Rattle.std.proofs.Common.{◌∙◌, sym}
use Rattle.litmus_parse.specs.Read.{IsReadAs}
use Rattle.race_page.proofs.page_findings.file.file_findings.Goals as goal
use Rattle.race_output.proofs.Free.{free_of}
use Rattle.search_output.proofs.Results.{map_ok, refused_of}

pub returns-in-Ok-clause-found : goal.returns-in-Ok-clause-found
returns-in-Ok-clause-found g c =
    let reading = c.in-Ok.reading in
    let read : IsReadAs c.args.text.now reading.program = record {
      spelled = c.in-Ok.ensures.spelled;
      limits = c.in-Ok.ensures.keeps_limits;
    } in
    map_ok c.program_findings.result (λ file are. record { program = reading.program; read = read; are = are })
    c.program_findings.ensures.found

pub returns-in-Ok-clause-races : goal.returns-in-Ok-clause-races
returns-in-Ok-clause-races g c =
    let reading = c.in-Ok.reading in
    let read : IsReadAs c.args.text.now reading.program = record {
      spelled = c.in-Ok.ensures.spelled;
      limits = c.in-Ok.ensures.keeps_limits;
    } in
    map_ok c.program_findings.result (λ file are. record {
      program = reading.program;
      read = read;
      are = record {
        fit = are.fit;
        sites = are.sites;
        sites_are = are.sites_are;
        found = are.found;
        races = are.races;
        places = are.places;
        output_is = are.output_is;
        verdict_is = are.verdict_is;
      };
    })
    c.program_findings.ensures.found

pub returns-in-Ok-clause-free : goal.returns-in-Ok-clause-free
returns-in-Ok-clause-free g c =
    let reading = c.in-Ok.reading in
    let read : IsReadAs c.args.text.now reading.program = record {
      spelled = c.in-Ok.ensures.spelled;
      limits = c.in-Ok.ensures.keeps_limits;
    } in
    map_ok c.program_findings.result (λ file are free. record {
      program = reading.program;
      read = read;
      sites = are.sites;
      sites_are = are.sites_are;
      no_race = free_of _ are.found are.races (sym are.verdict_is ∙ free);
    })
    c.program_findings.ensures.found

pub returns-in-Ok-clause-refused : goal.returns-in-Ok-clause-refused
returns-in-Ok-clause-refused g c =
    let reading = c.in-Ok.reading in
    let read : IsReadAs c.args.text.now reading.program = record {
      spelled = c.in-Ok.ensures.spelled;
      limits = c.in-Ok.ensures.keeps_limits;
    } in
    refused_of c.args.text.now reading.program c.args.settings.now c.program_findings.result read c.program_findings.ensures.stops

pub returns-in-Err-clause-refused : goal.returns-in-Err-clause-refused
returns-in-Err-clause-refused g c = λ program spells. (c.in-Err.ensures.complete program spells).1
