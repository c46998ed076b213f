-- If those of the rest are answered, all are.
use Rattle.std.proofs.Common.{length}
use Rattle.oracle_soundness.specs.oracle_headline.Tried.{TakingsAnswered, account_of}
use Rattle.oracle_soundness.proofs.oracle_headline.endings.takings_answered.Given as goal

abbrev pub invariant-loop-records : goal.invariant-loop-records
invariant-loop-records l = TakingsAnswered (account_of l.told) l.records → TakingsAnswered (account_of l.told) l.initial.records

abbrev pub decreases-loop-records : goal.decreases-loop-records
decreases-loop-records l = length l.records
