-- Which accesses a program can make, and a map that has them.
use Rattle.std.specs.Prelude.{◌≡◌, ℕ, List, IsSomeAnd, Some, slice_get}
use Rattle.std.specs.FinMap as map
use Rattle.access_types.specs.Access.{Access}
use Rattle.access_types.specs.Sites.{AccessMap}
use Rattle.access_types.specs.Ticket.{ticket_number}
use Rattle.litmus_semantics.specs.Layout.{VariablePlace}
use Rattle.litmus_semantics.specs.RunOfProgram.{setting_of}
use Rattle.litmus_semantics.specs.TextSites.{IsOfText}
use Rattle.litmus_syntax.specs.Tree.{Program}

-- the access is one of a program whose variables are placed so: one of the text of its task
abbrev pub IsOfProgram : Program → List VariablePlace → Access → Type 0
IsOfProgram program places a =
    IsSomeAnd (slice_get program.tasks a.task)
    (λ task. IsOfText (setting_of program places a.task) task.body a)

-- the map has exactly the accesses of the program, each under its ticket
pub record AreSitesOf (program : Program) (places : List VariablePlace) (sites : AccessMap) : Type 0 where
  pub each : (ticket : ℕ) (a : Access) → map.get sites ticket ≡ Some a
      → IsOfProgram program places a × (ticket_number a ≡ ticket)
  pub all : (a : Access) → IsOfProgram program places a → map.get sites (ticket_number a) ≡ Some a
