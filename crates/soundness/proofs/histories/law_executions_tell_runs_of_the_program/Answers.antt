-- By what each record tells, and what its text means.
use Rattle.soundness.proofs.RunsOfPrograms.{is_run}
use Rattle.soundness.proofs.histories.law_executions_tell_runs_of_the_program.Goals as goal

pub returns : goal.returns
returns c = λ run records list.
    let told = c.law_records_tell_their_events.ensures in
    is_run run records list (told.first run records list) (told.each run records list) (c.law_reads_hold_the_content.ensures run records list)
