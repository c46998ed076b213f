-- What the code has of simple statements.
use Rattle.std.specs.Prelude.{ℕ}
use Rattle.litmus_syntax.specs.Views.{assignment_of, load_of}
use Rattle.litmus_body.specs.declared.simple.Simple.{Simple}
use Rattle.litmus_body.specs.declared.simple.Simple.TheVariants.{Load, Assignment}
use Rattle.litmus_body.specs.Statements.{Enclosable, load, assignment}

-- how many `data_race( )` stand round the load that a simple statement is
abbrev pub data_races_of : Simple → ℕ
data_races_of (Load l) = l.data_races
data_races_of (Assignment a) = 0

-- a simple statement without where it lies in memory
abbrev pub enclosable_of : Simple → Enclosable
enclosable_of (Load l) = load (load_of l)
enclosable_of (Assignment a) = assignment (assignment_of a)
