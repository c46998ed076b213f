-- Its parameters, a line for each register, and its body.
use Rattle.print_roundtrip.proofs.printed_texts.Processes.{process_printed}
use Rattle.print_roundtrip.proofs.printed_texts.laws.law_printed_processes_are_spelled.Goals as goal

pub returns : goal.returns
returns c = λ variables names before task symbols behind rest process are spelled keeps grown nests.
    process_printed variables names task process.parameters before process.registers symbols behind rest process.body are spelled keeps
    (record { keeps = grown }) nests
