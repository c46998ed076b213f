-- Which processes there are, by the states that they are read to and by their bodies.
use Rattle.std.specs.Prelude.{List, [], ◌∷◌}
use Rattle.litmus_syntax.specs.Tree as tree
use Rattle.litmus_expression.specs.States.{State}
use Rattle.litmus_parse.specs.ProcessHeaders.{Process}

-- the process that a state is, with its body
abbrev pub process_of : State → tree.Block → Process
process_of s body = record { parameters = s.parameters; registers = s.names; body = body }

-- the processes that states are, with their bodies
abbrev pub seen : List State → List tree.Block → List Process
seen [] bodies = []
seen (s ∷ states) [] = process_of s tree.empty ∷ seen states []
seen (s ∷ states) (body ∷ bodies) = process_of s body ∷ seen states bodies
