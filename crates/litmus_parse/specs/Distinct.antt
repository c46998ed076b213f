-- What is asked of names in processes where what is spelled is read.
use Rattle.std.specs.Prelude.{List, [], ◌∷◌, map}
use Rattle.litmus_expression.specs.Followed.{Differ, name_of}
use Rattle.litmus_expression.specs.States.{State}
use Rattle.litmus_syntax.specs.Tree as tree
use Rattle.litmus_parse.specs.ProcessHeaders.{Process}

-- names of parameters differ, and so do names of registers
abbrev pub Distinct : State → Type 0
Distinct s = Differ (map name_of s.parameters) × Differ s.names

abbrev pub AllDistinct : List State → Type 0
AllDistinct [] = Unit {0}
AllDistinct (s ∷ states) = Distinct s × AllDistinct states

-- the body of a process
abbrev pub body_of : Process → tree.Block
body_of p = p.body
