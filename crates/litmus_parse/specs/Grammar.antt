-- Which texts spell which programs.
use Rattle.std.specs.Prelude.{◌≡◌, ◌≤◌, ℕ, List, [], ◌∷◌, ◌++◌, All, flat_map, length, map}
use Rattle.litmus_lex.specs.declared.sign.Sign.TheVariants.{OpenBrace}
use Rattle.litmus_lex.specs.Head.{IsText}
use Rattle.litmus_lex.specs.Tokens.{Placed}
use Rattle.litmus_syntax.specs.Tree.{Program, Task}
use Rattle.litmus_lex.specs.Words.{Symbol, sign, symbol_of}
use Rattle.litmus_syntax.specs.Limits.{connectives, file_bytes, operators_limit}
use Rattle.litmus_expression.specs.Names.{Names, Parameter}
use Rattle.litmus_parse.specs.Conditions.{Disjoined, Quantifies}
use Rattle.litmus_parse.specs.Mentions.{AreDeclared, AreNumbered, Mention}
use Rattle.litmus_parse.specs.Headers.{Items, Process, Processes, mention_of}
use Rattle.litmus_parse.specs.Text.{IsTextByte}

-- the number of a parameter's variable
abbrev pub variable_of : Parameter → ℕ
variable_of p = p.variable

-- the task that a process is, with all its registers
abbrev pub task_of : Process → Task
task_of process = record { parameters = map variable_of process.parameters; registers = process.registers; body = process.body }

-- what a process's parameters say
abbrev pub mentions_of : Process → List Mention
mentions_of process = map mention_of process.parameters

-- what items and then the parameters of processes say
abbrev pub said_by : List Mention → List Process → List Mention
said_by items processes = items ++ flat_map mentions_of processes

-- the symbols of a text behind its head spell a program: its initialization block, its processes and its
-- condition, behind which nothing stands
pub record Grammar (symbols : List Symbol) (program : Program) : Type 0 where
  pub items : List Mention
  pub item_names : Names
  pub names : Names
  pub processes : List Process
  pub later : List Process
  pub after_brace : List Symbol
  pub after_items : List Symbol
  pub after_processes : List Symbol
  pub after_quantifier : List Symbol
  pub begins : symbols ≡ sign OpenBrace ∷ after_brace
  pub initialization : Items after_brace items after_items
  pub numbered : AreNumbered [] items item_names
  pub bodies : Processes 0 item_names after_items processes after_processes names
  pub quantifier : Quantifies after_processes program.quantifier after_quantifier
  pub condition : Disjoined (said_by items processes) names 0 processes after_quantifier program.condition [] later
  pub operators : connectives program.condition ≤ operators_limit
  pub declared : AreDeclared (said_by items processes) names program.variables
  pub tasks : program.tasks ≡ map task_of later

-- the symbol of a token at its place
abbrev pub symbol_at : Placed → Symbol
symbol_at token = symbol_of token.terminal

-- a text spells a program: its head has the program's name, and the tokens after it spell the rest
pub record SpellsProgram (text : List ℕ) (program : Program) : Type 0 where
  pub tokens : List Placed
  pub size : length text ≤ file_bytes
  pub bytes : All IsTextByte text
  pub lexed : IsText text program.name tokens
  pub parsed : Grammar (map symbol_at tokens) program
