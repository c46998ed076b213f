-- What a task goes by, and how far it has come.
use Rattle.std.specs.Prelude.{◌==◌, ◌++◌, ℕ, List, Bool, true, false, Option, count_by, fold, slice_set, if◌then◌else◌}
use Rattle.access_types.specs.Access.{Access}
use Rattle.access_types.specs.declared.history.Bytes.{Bytes}
use Rattle.access_types.specs.declared.history.Happening.{Happening}
use Rattle.access_types.specs.declared.history.Happening.TheVariants as happenings
use Rattle.access_types.specs.declared.kind.Kind.{Kind}
use Rattle.litmus_syntax.specs.declared.program.Variable.{Variable}
use Rattle.litmus_semantics.specs.Layout.{VariablePlace, bytes_of_variable}

-- a task of a program, by its number, and where the program's variables are placed
pub record Setting : Type 0 where
  pub task : ℕ
  pub variables : List Variable
  pub places : List VariablePlace

-- what the task has done so far, in order, and its registers
pub record Progress : Type 0 where
  pub did : List Happening
  pub registers : List ℕ

-- after it has done this too
abbrev pub doing : Progress → List Happening → Progress
doing before does = record before { did = before.did ++ does }

-- after a register has got a value
abbrev pub assigning : Progress → ℕ → ℕ → Progress
assigning before register value =
    record before { registers = slice_set before.registers register value }

-- an access of the site begins
abbrev pub begins_at : ℕ → Happening → Bool
begins_at site (happenings.Begin a) = a.site == site
begins_at site happening = false

-- The task's access at a site, which begins now: to these bytes, of this kind, with this mask. Its
-- repetition is how many of the task's accesses at the site began before.
abbrev pub access_now : Setting → ℕ → Progress → Bytes → Kind → Option ℕ → Access
access_now s site before bytes kind mask = record {
  task = s.task;
  site = site;
  rep = count_by (begins_at site) before.did;
  addr = bytes.addr;
  size = bytes.size;
  kind = kind;
  mask = mask;
}

-- the bytes of a variable
abbrev pub bytes_in : Setting → ℕ → Bytes
bytes_in s variable = bytes_of_variable s.places s.variables variable

-- a task has a lock, named by the number of its variable, from its Lock to its Unlock
abbrev pub has_after : ℕ → Bool → Happening → Bool
has_after lock before (happenings.Lock at) = if at == lock then true else before
has_after lock before (happenings.Unlock at) = if at == lock then false else before
has_after lock before happening = before

-- the task has the lock after what it did
abbrev pub has_lock : ℕ → List Happening → Bool
has_lock lock did = fold (has_after lock) false did
