-- What an assignment means.
use Rattle.std.specs.Prelude.{◌≡◌, ◌+◌, ◌-◌, ◌%◌, ◌^◌, ℕ, Bool, List, [], ◌∷◌, None, if◌then◌else◌}
use Rattle.access_types.specs.Access.{Access}
use Rattle.access_types.specs.Race.{bytes_of}
use Rattle.access_types.specs.declared.history.Happening.{Happening}
use Rattle.access_types.specs.declared.history.Happening.TheVariants as happenings
use Rattle.access_types.specs.declared.kind.Kind.{Kind}
use Rattle.access_types.specs.declared.kind.Kind.TheVariants as kinds
use Rattle.access_types.specs.declared.kind.Operation.TheVariants as operations
use Rattle.access_types.specs.declared.history.Mark.TheVariants as marks
use Rattle.litmus_syntax.specs.Tree.{Assignment}
use Rattle.litmus_syntax.specs.Tree as tree
use Rattle.litmus_syntax.specs.declared.statement.WriteForm.{WriteForm}
use Rattle.litmus_syntax.specs.declared.statement.WriteForm.TheVariants as forms
use Rattle.litmus_semantics.specs.Expressions.{pure_value}
use Rattle.litmus_semantics.specs.Loads.{Evaluates, exchange_kind, updating}
use Rattle.litmus_semantics.specs.Task.{Progress, Setting, access_now, assigning, bytes_in, doing}
use Rattle.litmus_semantics.specs.Values.{cut, sign_extended}

-- only a plain write isn't declared marked
abbrev pub write_kind : WriteForm → Kind
write_kind forms.Plain = kinds.Plain operations.Write
write_kind forms.Once = kinds.Marked operations.Write
write_kind forms.Release = kinds.Marked operations.Write
write_kind forms.Atomic = kinds.Marked operations.Write

-- an access writes a value
abbrev pub writing : Access → ℕ → List Happening
writing a value =
    happenings.Begin a ∷ happenings.Write (bytes_of a) value ∷ happenings.End a ∷ []

-- a variable is written: a value, cut to its size
abbrev pub Writes : Setting → ℕ → Kind → ℕ → ℕ → Progress → Progress → Type 0
Writes s site kind x value before after =
    let bytes = bytes_in s x in
    after ≡ doing before
    (writing (access_now s site before bytes kind None) (cut bytes.size value))

-- an amount is added to a variable, whatever it holds
abbrev pub Adds : Setting → ℕ → Kind → ℕ → ℕ → Progress → Progress → Type 0
Adds s site kind x amount before after =
    let bytes = bytes_in s x in
    (old : ℕ) × (after ≡ doing before
    (updating (access_now s site before bytes kind None) old
    (cut bytes.size ((sign_extended bytes.size old + amount) % 2 ^ 64))))

-- a compound assignment is a plain access that reads and writes
abbrev pub compound_kind : Kind
compound_kind = kinds.Plain operations.ReadWrite

-- what an assignment of a site means
abbrev pub Assigns : Setting → ℕ → Assignment → Progress → Progress → Type 0
Assigns s site (tree.to_register r e) before after =
    (value : ℕ) × (between : Progress)
    × Evaluates s site e before value between × (after ≡ assigning between r value)
Assigns s site (tree.write form x e) before after =
    Writes s site (write_kind form) x (pure_value before.registers e) before after
Assigns s site (tree.add x e) before after =
    Adds s site compound_kind x (pure_value before.registers e) before after
Assigns s site (tree.increment x) before after = Adds s site compound_kind x 1 before after
Assigns s site (tree.atomic_add e x) before after =
    Adds s site exchange_kind x (pure_value before.registers e) before after
Assigns s site (tree.atomic_increment x) before after = Adds s site exchange_kind x 1 before after
-- to take 1 away is to add the number of 64 bits that is -1
Assigns s site (tree.atomic_decrement x) before after =
    Adds s site exchange_kind x (2 ^ 64 - 1) before after

-- reports are off while an assignment inside data_race( ) is made
abbrev pub AssignsIn : Setting → ℕ → Bool → Assignment → Progress → Progress → Type 0
AssignsIn s site data_race assignment before after =
    (between : Progress)
    × Assigns s site assignment
    (doing before (if data_race then happenings.Mark marks.Disable ∷ [] else [])) between
    × (after ≡ doing between (if data_race then happenings.Mark marks.Enable ∷ [] else []))
