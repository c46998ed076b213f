-- What `check` warns of in a text that is read: text in its head that is passed over, tokens that C reads otherwise,
-- registers that are 0 all the time, registers that have the name of a variable, and variables that are compared with a
-- number that they never are.
use Rattle.std.specs.Prelude.{◌≡◌, ◌++◌, ℕ, suc, List, [], ◌∷◌, Option, None, Some, codes}
use Rattle.std.specs.Fmt.{decimal}
use Rattle.std.specs.List.{concat}
use Rattle.litmus_lex.specs.Head.{IsText}
use Rattle.litmus_lex.specs.Tokens.{Placed}
use Rattle.litmus_syntax.specs.Tree.{Block, Program, Proposition, Task}
use Rattle.litmus_syntax.specs.declared.program.Variable.{Variable}
use Rattle.program_table.specs.text_pieces.Shown.{shown}
use Rattle.check_warnings.specs.Comparisons.{variables_from}
use Rattle.check_warnings.specs.HeadText.{text_in}
use Rattle.check_warnings.specs.OtherReadings.{lines_at, placed_line, places_of}
use Rattle.check_warnings.specs.Registers.{role_of}
use Rattle.check_warnings.specs.SameNames.{named, same_name_words}
use Rattle.check_warnings.specs.declared.registers.Role.{Role}
use Rattle.check_warnings.specs.declared.registers.Role.TheVariants as roles

-- a line on a register of a task, in a file of this name
unfoldable pub register_line : (file : List ℕ) → (task : ℕ) → (register words : List ℕ) → List ℕ
register_line file task register words = concat
    (shown file ∷ codes ": warning: `" ∷ shown register ∷ codes "` of P" ∷ decimal task ∷ words ∷ [])

-- the line on a register of a task whose name this variable has
unfoldable pub same_name_line : (file : List ℕ) → (task : ℕ) → Variable → List ℕ
same_name_line file task variable = register_line file task variable.name (same_name_words task variable)

-- the warning on a register that a statement assigns, beside the variable of its name, if the program has one
unfoldable pub assigned_warning : (file : List ℕ) → (task : ℕ) → Option Variable → List ℕ
assigned_warning file task None = []
assigned_warning file task (Some variable) = same_name_line file task variable

-- the warning on a register that a statement reads and none assigns, beside the variable of its name
unfoldable pub read_warning : (file : List ℕ) → (task : ℕ) → (register : List ℕ) → Option Variable → List ℕ
read_warning file task register None = register_line file task register (codes " is read and never assigned: it is 0\n")
read_warning file task register (Some variable) = same_name_line file task variable

-- the warning on a register that is this, beside the variable of its name: a register that a statement reads or assigns
-- isn't that variable; one that is read or named by the condition is 0 where none assigns it
unfoldable pub warning_of : (file : List ℕ) → (task : ℕ) → (register : List ℕ) → Option Variable → Role → List ℕ
warning_of file task register variable roles.Assigned = assigned_warning file task variable
warning_of file task register variable roles.Read = read_warning file task register variable
warning_of file task register variable roles.Named =
    register_line file task register (codes " is named by the condition, and no statement reads or assigns it: it is 0\n")
warning_of file task register variable roles.Unused = []

-- the warnings on programs with these variables and this condition, in a file of this name
module _ (file : List ℕ) (variables : List Variable) (condition : Proposition) where
  -- the warnings on the registers of a task from this number on
  abbrev pub registers_from : (task : ℕ) → Block → (number : ℕ) → List (List ℕ) → List ℕ
  registers_from task body number [] = []
  registers_from task body number (register ∷ more) =
      warning_of file task register (named variables register) (role_of task number body condition)
      ++ registers_from task body (suc number) more

  -- the warnings on the registers of the tasks from this number on
  abbrev pub tasks_from : (number : ℕ) → List Task → List ℕ
  tasks_from number [] = []
  tasks_from number (task ∷ more) = registers_from number task.body 0 task.registers ++ tasks_from (suc number) more

-- the warnings on a program, in a file of this name: first those on its registers, then those on its variables
unfoldable pub program_lines : (file : List ℕ) → Program → List ℕ
program_lines file program =
    tasks_from file program.variables program.condition 0 program.tasks
    ++ variables_from file program.tasks program.condition 0 program.variables

-- the warning on text at this place of a head, in a file of this name
unfoldable pub head_line : (file text : List ℕ) → Option ℕ → List ℕ
head_line file text None = []
head_line file text (Some at) = placed_line file text at (codes ": warning: text before the `{` is passed over\n")

-- these are the warnings on a text that spells a program, in a file of this name: first that on its head, then those on
-- its tokens, then those on the program
abbrev pub AreWarningsOf : (file text : List ℕ) → Program → (lines : List ℕ) → Type 0
AreWarningsOf file text program lines = (name : List ℕ) (tokens : List Placed) (spelled : IsText text name tokens)
    → lines ≡ head_line file text (text_in spelled.head)
    ++ (lines_at file text (places_of tokens) ++ program_lines file program)
