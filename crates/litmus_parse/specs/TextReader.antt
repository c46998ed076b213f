-- Reading whole texts behind their heads: what the parser's functions answer, apart from which refusal it is.
use Rattle.std.specs.Prelude.{ℕ, List, Option, Some, None, map, Vec, if◌then◌else◌}
use Rattle.litmus_syntax.specs.declared.statement.Statement.{Statement}
use Rattle.std.specs.Global.{Global}
use Rattle.litmus_syntax.specs.Tree as tree
use Rattle.litmus_syntax.specs.Views.{block_of, proposition_of}
use Rattle.litmus_syntax.specs.declared.proposition.Quantifier.{Quantifier}
use Rattle.litmus_lex.specs.Front.{◌>>=◌}
use Rattle.litmus_lex.specs.Words.{Symbol}
use Rattle.litmus_expression.specs.Names.{Names}
use Rattle.litmus_expression.specs.States.{State, state_of}
use Rattle.litmus_parse.specs.declared.initialization.Header.{Header}
use Rattle.litmus_parse.specs.ConditionReader.{quantifier_at}
use Rattle.litmus_parse.specs.Entries.{Entry, table_of}
use Rattle.litmus_parse.specs.ItemReader.{heading_of, initialization_at, unnamed}
use Rattle.litmus_parse.specs.Seen.{seen}
use Rattle.litmus_parse.specs.PropositionReader.{whole_at}
use Rattle.litmus_parse.specs.VariableReader.{names_of}
use Rattle.litmus_parse.specs.Variables.{has_contradiction, locks_in, variables_in}
use Rattle.litmus_parse.specs.declared.text.Processes.{Processes}
use Rattle.litmus_parse.specs.declared.text.Pieces.{Pieces}
use Rattle.litmus_parse.specs.Grammar.{task_of}
use Rattle.litmus_parse.specs.ProcessReader.{Course, processes_at, unbegun}

-- the bodies of processes
abbrev pub bodies_of : List (Vec Statement Global) → List tree.Block
bodies_of bodies = map (λ (body : Vec Statement Global). block_of body.items) bodies

-- how far the text is read behind its processes
abbrev pub course_of : Header → Processes → Course
course_of header found = record {
  heading = heading_of header;
  states = map state_of found.processes.items;
  bodies = bodies_of found.bodies.items;
}

-- the program that was read, if no variable has two types
abbrev pub ended : (name : List ℕ) → Course → Quantifier → tree.Proposition × List State → Option tree.Program
ended name c quantifier x =
    if has_contradiction c.heading.table
    then None
    else Some (record {
      name = name;
      variables = variables_in c.heading.names c.heading.table;
      tasks = map task_of (seen x.1 c.bodies);
      quantifier = quantifier;
      condition = x.0;
    })

-- the condition, and what was read in all
abbrev pub condition_at : (name : List ℕ) → Course → Option tree.Program
condition_at name c =
    quantifier_at c.heading.symbols >>= λ q. whole_at c.heading.names (locks_in c.heading.table) q.1 c.states >>= λ x. ended name c q.0 x

-- the program of a test's name and the symbols behind the head
unfoldable pub program_at : (name : List ℕ) → List Symbol → Option tree.Program
program_at name symbols =
    initialization_at (unnamed symbols) >>= λ h. processes_at (unbegun h) >>= λ c. condition_at name c

-- what is read of a text, of which its program is put together
pub record Parts : Type 0 where
  pub names : Names
  pub table : List Entry
  pub states : List State
  pub bodies : List tree.Block
  pub quantifier : Quantifier
  pub condition : tree.Proposition

abbrev pub parts_of : Pieces → Parts
parts_of read = record {
  names = names_of read.declarations;
  table = table_of read.declarations;
  states = map state_of read.processes.items;
  bodies = bodies_of read.bodies.items;
  quantifier = read.quantifier;
  condition = proposition_of read.proposition;
}

-- the program of a test's name and of what is read
abbrev pub put_together : (name : List ℕ) → Parts → tree.Program
put_together name parts = record {
  name = name;
  variables = variables_in parts.names parts.table;
  tasks = map task_of (seen parts.states parts.bodies);
  quantifier = parts.quantifier;
  condition = parts.condition;
}

-- what was read in all, if no variable has two types
abbrev pub parts_behind : Course → Quantifier → tree.Proposition × List State → Option Parts
parts_behind c quantifier x =
    if has_contradiction c.heading.table
    then None
    else Some (record {
      names = c.heading.names;
      table = c.heading.table;
      states = x.1;
      bodies = c.bodies;
      quantifier = quantifier;
      condition = x.0;
    })

-- the symbols behind the head
unfoldable pub parts_at : List Symbol → Option Parts
parts_at symbols =
    initialization_at (unnamed symbols) >>= λ h. processes_at (unbegun h) >>= λ c. quantifier_at c.heading.symbols >>= λ q.
    whole_at c.heading.names (locks_in c.heading.table) q.1 c.states >>= λ x. parts_behind c q.0 x
