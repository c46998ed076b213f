-- How far a task has come that walks through its text, with values given for its reads.
use Rattle.std.specs.Prelude.{◌≡◌, ◌++◌, ℕ, List, [], ◌∷◌}
use Rattle.access_types.specs.declared.history.Happening.{Happening}
use Rattle.access_types.specs.declared.history.Happening.TheVariants.{Read}
use Rattle.litmus_semantics.specs.Task.{Progress, Setting}
use Rattle.litmus_semantics.specs.TextSites.{AreBytesOf}
use Rattle.oracle_semantics.specs.declared.oracle_meaning.walk.Given.{Given}
use Rattle.oracle_semantics.specs.declared.oracle_meaning.walk.Walk.{Walk}

-- the task of the setting, and the bytes of its variables, are those given
abbrev pub IsOf : Setting → Given → Type 0
IsOf s given = (s.task ≡ given.task) × AreBytesOf s given.bytes.now

-- what the task did, and its registers
abbrev pub stands : Walk → Progress
stands walk = record { did = walk.did.items; registers = walk.registers.items }

-- the value that is read, if one is
abbrev pub value_read : Happening → List ℕ
value_read (Read bytes value) = value ∷ []
value_read happening = []

-- the values that are read, in order
abbrev pub values_read : List Happening → List ℕ
values_read [] = []
values_read (happening ∷ later) = value_read happening ++ values_read later

-- what was read on the way is the first of what was given for it
abbrev pub Takes : Walk → Walk → Type 0
Takes before after =
    values_read before.did.items ++ before.values.items ≡ values_read after.did.items ++ after.values.items
