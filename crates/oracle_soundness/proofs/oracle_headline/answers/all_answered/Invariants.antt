-- Those passed are answered.
use Rattle.std.proofs.Common.{◌<◌, ℕ, slice_index_or}
use Rattle.oracle_soundness.specs.oracle_headline.Tried.{IsAnswered, account_of}
use Rattle.slot_table.specs.Meetings.{Meeting}
use Rattle.oracle_soundness.proofs.oracle_headline.answers.all_answered.Given as goal

abbrev pub invariant-loop-meeting : goal.invariant-loop-meeting
invariant-loop-meeting l = (k : ℕ) (d : Meeting) → k < l.meeting-index → IsAnswered (account_of l.told) (slice_index_or l.met k d)
