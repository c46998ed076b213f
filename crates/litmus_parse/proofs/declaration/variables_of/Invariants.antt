-- The variables so far and those to come are all.
use Rattle.std.proofs.Common.{◌≡◌, ◌++◌, length, map}
use Rattle.litmus_parse.specs.Entries.{entry_of}
use Rattle.litmus_parse.specs.Variables.{variables_in}
use Rattle.litmus_parse.specs.VariableReader.{name_of}
use Rattle.litmus_parse.proofs.declaration.variables_of.Given as goal

abbrev pub invariant-loop-all : goal.invariant-loop-all
invariant-loop-all l =
    l.variables.items ++ variables_in (map name_of l.all) (map entry_of l.all)
    ≡ variables_in (map name_of l.initial.all) (map entry_of l.initial.all)

abbrev pub decreases-loop-all : goal.decreases-loop-all
decreases-loop-all l = length l.all
