-- What the name is in the rest of the table, it is in the table.
use Rattle.std.proofs.Common.{◌≡◌, length, map}
use Rattle.litmus_lex.specs.Words.{look_up}
use Rattle.litmus_lex.proofs.words.look_up.Given as goal

abbrev pub invariant-loop-table : goal.invariant-loop-table
invariant-loop-table l =
    look_up (map (λ entry. (entry.0.now, entry.1)) l.table) l.name
    ≡ look_up (map (λ entry. (entry.0.now, entry.1)) l.initial.table) l.name

abbrev pub decreases-loop-table : goal.decreases-loop-table
decreases-loop-table l = length l.table
