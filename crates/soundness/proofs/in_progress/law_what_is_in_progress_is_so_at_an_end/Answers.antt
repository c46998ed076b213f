-- The accesses that have begun and not ended by a moment are those by the end of some of the records.
use Rattle.soundness.proofs.InProgress.{both_go}
use Rattle.soundness.proofs.in_progress.law_what_is_in_progress_is_so_at_an_end.Goals as goal

pub returns : goal.returns
returns c = λ run records list first second moment apart one other.
    let told = c.law_records_tell_their_events.ensures in
    both_go run records list (told.first run records list) (told.each run records list)
    (c.law_executions_tell_runs_of_the_program.ensures run records list).tasks first second moment one other
