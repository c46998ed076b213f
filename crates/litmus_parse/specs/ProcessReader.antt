-- Reading processes: what the parser's functions answer, apart from which refusal it is.
use Rattle.std.specs.Prelude.{◌==◌, ◌++◌, ℕ, suc, List, [], ◌∷◌, Option, Some, None, Bool, false, length, if◌then◌else◌}
use Rattle.litmus_syntax.specs.Limits.{tasks_limit}
use Rattle.litmus_syntax.specs.Tree as tree
use Rattle.litmus_lex.specs.Front.{◌>>=◌, first, identifier_at}
use Rattle.litmus_lex.specs.Words.{Symbol, is_same}
use Rattle.litmus_expression.specs.Names.{Parameter}
use Rattle.litmus_expression.specs.Places.{outermost}
use Rattle.litmus_expression.specs.States.{State, entering}
use Rattle.litmus_body.specs.StatementReader.{block_at}
use Rattle.litmus_parse.specs.ItemReader.{Heading, past}
use Rattle.litmus_parse.specs.ParameterReader.{parameters_at}
use Rattle.litmus_parse.specs.Turns.{Turn, again, done, going}
use Rattle.litmus_parse.specs.Processes.{process_name}

-- what stands before the condition: a heading, and the processes with their bodies
pub record Course : Type 0 where
  pub heading : Heading
  pub states : List State
  pub bodies : List tree.Block

abbrev pub process_with : List Parameter × Heading → Option ((State × tree.Block) × Heading)
process_with p =
    block_at outermost (entering p.0 p.1.symbols) >>= λ b. Some ((b.1, b.0), record p.1 { symbols = b.1.symbols })

-- a process behind its name
unfoldable pub process_at : Heading → Option ((State × tree.Block) × Heading)
process_at h = parameters_at h >>= λ p. process_with p

abbrev pub is_called : List ℕ → Option (List ℕ) → Bool
is_called name None = false
is_called name (Some found) = is_same found name

-- whether the symbol is the name of the process of a number
abbrev pub is_process : (number : ℕ) → Symbol → Bool
is_process number symbol = is_called (process_name number) (identifier_at symbol)

-- one more process is read
abbrev pub and_process : Course → Option (Turn Course Course)
and_process c =
    if length c.states == tasks_limit
    then None
    else (process_at (past c.heading) >>= λ p.
    Some (again (record { heading = p.1; states = c.states ++ p.0.0 ∷ []; bodies = c.bodies ++ p.0.1 ∷ [] })))

abbrev pub processes_by : Course → Option (Turn Course Course)
processes_by c =
    if is_process (length c.states) (first c.heading.symbols)
    then and_process c
    else (if length c.states == 0 then None else Some (done c))

-- processes, as long as the next one begins
unfoldable pub processes_at : Course → Option Course
processes_at c = going processes_by (suc (length c.heading.symbols)) c

-- before the first process
abbrev pub unbegun : Heading → Course
unbegun h = record { heading = h; states = []; bodies = [] }
