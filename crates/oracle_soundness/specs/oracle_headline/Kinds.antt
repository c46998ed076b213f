-- The kinds of records that the totals count.
use Rattle.std.specs.Prelude.{Bool}
use Rattle.oracle_soundness.specs.declared.oracle_headline.totals.Made.{Made}
use Rattle.oracle_soundness.specs.declared.oracle_headline.totals.Made.TheVariants as mades
use Rattle.oracle_soundness.specs.oracle_headline.Tried.{is_try}
use Rattle.slot_table.specs.declared.step.Answer.{Answer}
use Rattle.slot_table.specs.declared.step.Step.{Step}
use Rattle.task_log.specs.Counters.{is_arming, is_lost, is_quiet, is_taken}

abbrev pub is_made : Made → Step → Answer → Bool
is_made mades.Arming = is_arming
is_made mades.Quiet = is_quiet
is_made mades.Taken = is_taken
is_made mades.Try = is_try
is_made mades.Lost = is_lost
