-- What a seat notes of each operation on the row of words: the step that it is, and its answer.
use Rattle.std.specs.Prelude.{◌≡◌, ◌==◌, ◌||◌, ℕ, not, ◌^◌, ◌-◌, ◌/◌, true, if◌then◌else◌, []}
use Rattle.atomic_table.specs.Table as table
use Rattle.slot_table.specs.declared.step.Answer.{Answer}
use Rattle.slot_table.specs.declared.step.Answer.TheVariants as answers
use Rattle.slot_table.specs.declared.step.Step.{Step}
use Rattle.slot_table.specs.declared.step.Step.TheVariants.{Load, Insert, TryConsume, Consume}
use Rattle.slot_table.specs.declared.step.Step.TheVariants.{Remove, PairLoad, Name, Tell, Clear}
use Rattle.slot_table.specs.declared.step.Step.TheVariants.{CellLoad, CellExchange, LockTry}
use Rattle.slot_table.specs.declared.step.Step.TheVariants.{LockStore, Clock}
use Rattle.shared_table.specs.Row.{halves_in, pairs_from, cells_from, locks_from}
use Rattle.shared_table.specs.Views.{noted}
use Rattle.shared_table.specs.declared.view.View.{View}

-- a seat of the row of words, which has no slots
abbrev pub Me : Type 0
Me = table.Me (Unit {0}) View

abbrev pub Operation : Type 0
Operation = table.Step (Unit {0})

-- the seat has noted the step with its answer, and nothing else
abbrev pub Notes : Step → Answer → Me → Me → Type 0
Notes step answer before after = after ≡ (noted before.0 step answer, before.1)

abbrev pub Loads : Operation → Me → ℕ → Me → Type 0
Loads on before found after = Notes (Load on.word) (answers.Word found) before after

abbrev pub Inserts : Operation → Me → ℕ → Me → Type 0
Inserts on before found after =
    Notes (Insert on.word on.second) (answers.Flag (found == 0)) before after

abbrev pub TriesToConsume : Operation → Me → ℕ → Me → Type 0
TriesToConsume on before found after =
    Notes (TryConsume on.word on.first) (answers.Flag (found == on.first)) before after

abbrev pub Consumes : Operation → Me → ℕ → Me → Type 0
Consumes on before found after =
    Notes (Consume on.word) (answers.Flag (not (found == 0 || found == 1))) before after

abbrev pub Removes : Operation → Me → ℕ → Me → Type 0
Removes on before found after = Notes (Remove on.word) answers.Done before after

-- the pair words stand behind the watch words
abbrev pub pair_index : Operation → Me → ℕ
pair_index on before = on.word - pairs_from before.0.opening

abbrev pub LoadsPair : Operation → Me → ℕ → Me → Type 0
LoadsPair on before found after =
    Notes (PairLoad (pair_index on before))
    (answers.Halves (halves_in found).setter (halves_in found).finder) before after

-- the setter's half is the upper one
abbrev pub Names : Operation → Me → ℕ → Me → Type 0
Names on before found after =
    Notes (Name (pair_index on before) (on.first / 2 ^ 32)) answers.Done before after

abbrev pub TellsFinder : Operation → Me → ℕ → Me → Type 0
TellsFinder on before found after =
    Notes (Tell (pair_index on before) on.first) answers.Done before after

abbrev pub Clears : Operation → Me → ℕ → Me → Type 0
Clears on before found after = Notes (Clear (pair_index on before)) answers.Done before after

-- the cells stand behind the pair words
abbrev pub cell_index : Operation → Me → ℕ
cell_index on before = on.word - cells_from before.0.opening

abbrev pub LoadsCell : Operation → Me → ℕ → Me → Type 0
LoadsCell on before found after =
    Notes (CellLoad (cell_index on before)) (answers.Word found) before after

abbrev pub ExchangesCell : Operation → Me → ℕ → Me → Type 0
ExchangesCell on before found after =
    Notes (CellExchange (cell_index on before) on.first on.second)
    (if found == on.first then answers.Flag true else answers.Word found) before after

-- the locks stand behind the cells
abbrev pub lock_index : Operation → Me → ℕ
lock_index on before = on.word - locks_from before.0.opening

abbrev pub TriesLock : Operation → Me → ℕ → Me → Type 0
TriesLock on before found after =
    Notes (LockTry (lock_index on before) (on.second - 1)) (answers.Flag (found == 0)) before after

abbrev pub StoresLock : Operation → Me → ℕ → Me → Type 0
StoresLock on before found after =
    Notes (LockStore (lock_index on before)) answers.Done before after

abbrev pub Ticks : Operation → Me → ℕ → Me → Type 0
Ticks on before found after = Notes Clock (answers.Word found) before after

-- a new seat holds nothing
abbrev pub Sits : Operation → Me → ℕ → Me → Type 0
Sits on before found after = after ≡ (record before.0 { held = [] }, [])
