-- The names so far and those to come are all.
use Rattle.std.proofs.Common.{◌≡◌, ◌++◌, length, map}
use Rattle.litmus_lex.specs.Front.{now}
use Rattle.litmus_parse.proofs.text.names_of.Given as goal

abbrev pub invariant-loop-all : goal.invariant-loop-all
invariant-loop-all l = l.names.items ++ map now l.all ≡ map now l.initial.all

abbrev pub decreases-loop-all : goal.decreases-loop-all
decreases-loop-all l = length l.all
