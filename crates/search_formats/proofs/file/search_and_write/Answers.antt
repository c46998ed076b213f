-- What is found of the program is found of its text, and what is refused is no program.
use Rattle.litmus_parse.specs.Read.{IsReadAs}
use Rattle.search_formats.proofs.file.search_and_write.Goals as goal
use Rattle.search_output.proofs.Results.{map_ok, refused_of}

pub returns-in-Ok-clause-searched : goal.returns-in-Ok-clause-searched
returns-in-Ok-clause-searched g c =
    let reading = c.in-Ok.reading in
    let read : IsReadAs c.args.text.now reading.program = record {
      spelled = c.in-Ok.ensures.spelled;
      limits = c.in-Ok.ensures.keeps_limits;
    } in
    map_ok c.search_program.result (λ found is. record { program = reading.program; read = read; is = is })
    c.search_program.ensures.searched

pub returns-in-Ok-clause-refused : goal.returns-in-Ok-clause-refused
returns-in-Ok-clause-refused g c =
    let reading = c.in-Ok.reading in
    let read : IsReadAs c.args.text.now reading.program = record {
      spelled = c.in-Ok.ensures.spelled;
      limits = c.in-Ok.ensures.keeps_limits;
    } in
    refused_of c.args.text.now reading.program c.args.settings.now c.search_program.result read c.search_program.ensures.stops

pub returns-in-Err-clause-refused : goal.returns-in-Err-clause-refused
returns-in-Err-clause-refused g c = λ program spells. (c.in-Err.ensures.complete program spells).1
