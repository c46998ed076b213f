-- The steps that an access makes on memory, between its check and its end. Lists of records are of
-- one task's own steps, the oldest first: they are read as they are made.
use Rattle.std.specs.Prelude.{◌≡◌, ℕ, true, false, List, [], ◌∷◌, Option, None, Some, MatchBool}
use Rattle.access_types.specs.Access.{Access}
use Rattle.access_run.specs.memory_operation.Effects.{and_then, changed, nothing, only_read}
use Rattle.access_run.specs.memory_operation.Values.{is_wanted, new_value, sum_of, with_value}
use Rattle.access_run.specs.declared.memory_operation.effect.Effect.{Effect}
use Rattle.access_run.specs.declared.memory_operation.operation.Change.{Change}
use Rattle.access_run.specs.declared.memory_operation.operation.Change.TheVariants as changes
use Rattle.access_run.specs.declared.memory_operation.operation.Operation.{Operation}
use Rattle.access_run.specs.declared.memory_operation.operation.Operation.TheVariants as operations
use Rattle.setup_access.specs.Records.{MakesWord}
use Rattle.setup_access.specs.Setting.{Setting}
use Rattle.setup_access.specs.Values.{source_of, value_in}
use Rattle.setup_access.specs.declared.source.Source.{Source}
use Rattle.slot_table.specs.declared.records.Record.{Record}
use Rattle.slot_table.specs.declared.step.Answer.{Answer}
use Rattle.slot_table.specs.declared.step.Answer.TheVariants as answers
use Rattle.slot_table.specs.declared.step.Step.TheVariants.{CellExchange, CellLoad}

-- an exchange is accepted, or refused with the word that stands there
abbrev pub OnExchange : Answer → Type 0 → (ℕ → Type 0) → Type 0
OnExchange (answers.Flag true) Accepted Refused = Accepted
OnExchange (answers.Flag false) Accepted Refused = ⊥
OnExchange (answers.Word word) Accepted Refused = Refused word
OnExchange (answers.Halves setter finder) Accepted Refused = ⊥
OnExchange answers.Done Accepted Refused = ⊥

-- the record is the exchange of a change from the word that was seen: its bytes get their new value
abbrev pub IsExchange : ℕ → Access → Source → Change → ℕ → Record → Type 0
IsExchange task a source change seen made =
    (made.task ≡ task)
    × (made.step ≡ CellExchange source.cell seen
    (with_value a source seen (new_value a.size change (value_in a source seen))))

-- a change ends where it saw another value than the wanted one: it has only read
abbrev pub Ends : Access → Source → ℕ → List Record → Effect → List Record → Type 0
Ends a source seen records effect rest =
    (effect ≡ only_read (value_in a source seen)) × (rest ≡ records)

-- The records begin with the exchanges of a change from the word that was seen, up to the one that
-- is accepted: a refused one is tried again from the word that it saw, as long as that shows a value
-- that is wanted.
abbrev pub Exchanges : ℕ → Access → Source → Change → ℕ → List Record → Effect → List Record
    → Type 0
Exchanges task a source change seen [] effect rest =
    MatchBool (is_wanted a.size change (value_in a source seen))
    ⊥
    (Ends a source seen [] effect rest)
Exchanges task a source change seen (first ∷ later) effect rest =
    MatchBool (is_wanted a.size change (value_in a source seen))
    (IsExchange task a source change seen first
    × OnExchange first.answer
    ((effect ≡ changed a.size change (value_in a source seen)) × (rest ≡ later))
    (λ word. Exchanges task a source change word later effect rest))
    (Ends a source seen (first ∷ later) effect rest)

-- the records begin with a change: a load of the cell, and exchanges from what it shows
abbrev pub Changes : ℕ → Access → Source → Change → List Record → Effect → List Record → Type 0
Changes task a source change records effect rest =
    MakesWord task (CellLoad source.cell)
    (λ seen later. Exchanges task a source change seen later effect rest) records

-- The records begin with an operation on an access's bytes in their cell, and this comes of it. A
-- compound assignment reads, and then writes the sum with what it read, whatever stands there by
-- then.
abbrev pub OperatesIn : ℕ → Access → Source → Operation → List Record → Effect → List Record
    → Type 0
OperatesIn task a source operations.Load records effect rest =
    MakesWord task (CellLoad source.cell)
    (λ word later. (effect ≡ only_read (value_in a source word)) × (rest ≡ later)) records
OperatesIn task a source (operations.Add amount) records effect rest =
    MakesWord task (CellLoad source.cell)
    (λ word later. let old = value_in a source word in
    (more : Effect)
    × Changes task a source (changes.Write (sum_of a.size old amount)) later more rest
    × (effect ≡ and_then (only_read old) more)) records
OperatesIn task a source (operations.Change change) records effect rest =
    Changes task a source change records effect rest

-- the records begin with the operation of an access in the cell that its bytes lie in; an access
-- without an operation leaves memory alone
abbrev pub Operates : Setting → Access → Option Operation → List Record → Effect → List Record
    → Type 0
Operates s a None records effect rest = (effect ≡ nothing) × (rest ≡ records)
Operates s a (Some operation) records effect rest =
    (source : Source) × (source_of s a ≡ Some source)
    × OperatesIn s.task a source operation records effect rest

-- the operation of a load
abbrev pub Reads : Option Operation → Type 0
Reads None = ⊥
Reads (Some operations.Load) = Unit {0}
Reads (Some (operations.Add amount)) = ⊥
Reads (Some (operations.Change (changes.Write value))) = ⊥
Reads (Some (operations.Change (changes.Exchange value))) = Unit {0}
Reads (Some (operations.Change (changes.AtomicAdd amount))) = ⊥
Reads (Some (operations.Change (changes.CompareExchange expected replacement))) = Unit {0}
