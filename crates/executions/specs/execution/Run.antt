-- What a run goes by: its program, where the variables stand, and the rules.
use Rattle.std.specs.Prelude.{◌≡◌, ◌↔◌, ℕ, List, [], Some, count_by, slice_index_or}
use Rattle.std.specs.FinMap as map
use Rattle.access_types.specs.Access.{Access}
use Rattle.access_types.specs.Sites.{AccessMap}
use Rattle.access_types.specs.Ticket.{ticket_number}
use Rattle.litmus_semantics.specs.Layout.{VariablePlace, cells_at_first}
use Rattle.litmus_semantics.specs.RunOfProgram.{setting_of}
use Rattle.litmus_semantics.specs.TextSites.{IsOfText}
use Rattle.litmus_syntax.specs.Tree.{Program, Task}
use Rattle.litmus_syntax.specs.Tree as tree
use Rattle.setup_access.specs.declared.rules.Rules.{Rules}
use Rattle.slot_table.specs.Words.{Words, words_at_first}
use Rattle.program_order.specs.Standing.{Setting, is_lock}

-- a program, where its variables are placed, the rules, and the accesses that tickets name
pub record Run : Type 0 where
  pub program : Program
  pub places : List VariablePlace
  pub rules : Rules
  pub sites : AccessMap

-- a task that does nothing
abbrev pub idle : Task
idle = record { parameters = []; registers = []; body = tree.empty }

-- the task of a number; where the program has none it does nothing
abbrev pub task_of : Run → ℕ → Task
task_of run number = slice_index_or run.program.tasks number idle

-- what it goes by
abbrev pub task_setting : Run → ℕ → Setting
task_setting run number = record {
  text = setting_of run.program run.places number;
  rules = run.rules;
  sites = run.sites;
}

-- the access is one of the text of its task
abbrev pub IsOfProgram : Run → Access → Type 0
IsOfProgram run a = IsOfText (setting_of run.program run.places a.task) (task_of run a.task).body a

-- under a ticket stands the access of the program that it names, if there is one
abbrev pub AreItsSites : Run → Type 0
AreItsSites run =
    (ticket : ℕ) (a : Access)
    → map.get run.sites ticket ≡ Some a ↔ ((ticket ≡ ticket_number a) × IsOfProgram run a)

-- how many of its variables are locks
abbrev pub locks_of : Run → ℕ
locks_of run = count_by (λ variable. is_lock variable.contents) run.program.variables

-- what its cells hold at first
abbrev pub first_cells : Run → List ℕ
first_cells run = cells_at_first run.places run.program.variables

-- the words that its tasks share, at first
abbrev pub first_words : Run → Words
first_words run = words_at_first run.rules.slots (locks_of run) (first_cells run)
