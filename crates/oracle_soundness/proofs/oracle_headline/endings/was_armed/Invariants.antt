-- If it is one of the list, it is one of the rest.
use Rattle.std.proofs.Common.{length}
use Rattle.oracle_soundness.specs.oracle_headline.Tried.{WasArmed, account_of}
use Rattle.oracle_soundness.proofs.oracle_headline.endings.was_armed.Given as goal

abbrev pub invariant-loop-records : goal.invariant-loop-records
invariant-loop-records l =
    WasArmed (account_of l.told) l.index l.number l.initial.records → WasArmed (account_of l.told) l.index l.number l.records

abbrev pub decreases-loop-records : goal.decreases-loop-records
decreases-loop-records l = length l.records
