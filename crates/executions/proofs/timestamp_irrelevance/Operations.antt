-- An operation on memory with other stamps, and the tries of a lock, come to the same.
use Rattle.std.proofs.Common.{◌≡◌, ◌∷◌, [], ℕ, true, false, List, MatchBool, Option, None, Some, ap, length, subst, sym}
use Rattle.access_types.specs.Access.{Access}
use Rattle.slot_table.specs.declared.records.Record.{Record}
use Rattle.slot_table.specs.declared.step.Answer.{Answer}
use Rattle.slot_table.specs.declared.step.Answer.TheVariants as answers
use Rattle.slot_table.specs.declared.step.Step.TheVariants.{CellExchange, CellLoad, LockTry}
use Rattle.access_run.specs.memory_operation.Effects.{changed}
use Rattle.access_run.specs.memory_operation.Locks.{TakesLock}
use Rattle.access_run.specs.memory_operation.Operations.{Changes, Exchanges, OnExchange, Operates, OperatesIn}
use Rattle.access_run.specs.memory_operation.Values.{is_wanted, new_value, sum_of, with_value}
use Rattle.access_run.specs.declared.memory_operation.effect.Effect.{Effect}
use Rattle.access_run.specs.declared.memory_operation.operation.Change.{Change}
use Rattle.access_run.specs.declared.memory_operation.operation.Change.TheVariants as changes
use Rattle.access_run.specs.declared.memory_operation.operation.Operation.{Operation}
use Rattle.access_run.specs.declared.memory_operation.operation.Operation.TheVariants as operations
use Rattle.setup_access.specs.Records.{OnFlag}
use Rattle.setup_access.specs.Setting.{Setting}
use Rattle.setup_access.specs.Values.{value_in}
use Rattle.setup_access.specs.declared.source.Source.{Source}
use Rattle.executions.proofs.timestamp_irrelevance.Restamped.{GivesStamps, either_way, flag_so, restamped, same_answer, word}

exchange_so : (answer : Answer) (A C : Type 0) (B D : ℕ → Type 0) → (A → C) → ((word : ℕ) → B word → D word) → OnExchange answer A B → OnExchange answer C D
exchange_so (answers.Word word) A C B D over again h = again word h
exchange_so (answers.Flag true) A C B D over again h = over h
exchange_so (answers.Flag false) A C B D over again h = h
exchange_so (answers.Halves setter finder) A C B D over again h = h
exchange_so answers.Done A C B D over again h = h

module _ (given : ℕ → Record → Answer) (gives : GivesStamps given) where
  abbrev put : List Record → List Record
  put records = restamped given records

  module _ (task : ℕ) (a : Access) (source : Source) (change : Change) where
    exchanges : (seen : ℕ) (records : List Record) (effect : Effect) (rest : List Record)
        → Exchanges task a source change seen records effect rest → Exchanges task a source change seen (put records) effect (put rest)
    exchanges seen [] effect rest h =
        either_way (is_wanted a.size change (value_in a source seen)) _ _ _ _ (λ none. none) (λ over. (over.0, ap put over.1)) h
    exchanges seen (first ∷ later) effect rest h =
        either_way (is_wanted a.size change (value_in a source seen)) _ _ _ _
        (λ on. (
          on.0,
          subst (λ (x : Answer). OnExchange x ((effect ≡ changed a.size change (value_in a source seen)) × (put rest ≡ put later))
              (λ w. Exchanges task a source change w (put later) effect (put rest)))
              (sym (same_answer given gives (length later) first
              (CellExchange source.cell seen (with_value a source seen (new_value a.size change (value_in a source seen)))) (λ none. none) (on.0).1))
              (exchange_so first.answer _ _ _ _ (λ over. (over.0, ap put over.1)) (λ w more. exchanges w later effect rest more) on.1),
        ))
        (λ over. (over.0, ap put over.1)) h

    changing : (records : List Record) (effect : Effect) (rest : List Record)
        → Changes task a source change records effect rest → Changes task a source change (put records) effect (put rest)
    changing records effect rest h =
        word given gives task (CellLoad source.cell) _ _ (λ none. none) records h (λ seen later more. exchanges seen later effect rest more)

  operates_in : (task : ℕ) (a : Access) (source : Source) (operation : Operation) (records : List Record) (effect : Effect) (rest : List Record)
      → OperatesIn task a source operation records effect rest → OperatesIn task a source operation (put records) effect (put rest)
  operates_in task a source operations.Load records effect rest h =
      word given gives task (CellLoad source.cell) _ _ (λ none. none) records h (λ w later got. (got.0, ap put got.1))
  operates_in task a source (operations.Add amount) records effect rest h =
      word given gives task (CellLoad source.cell) _ _ (λ none. none) records h
      (λ w later got. (got.0, changing task a source (changes.Write (sum_of a.size (value_in a source w) amount)) later got.0 rest got.1, got.2))
  operates_in task a source (operations.Change change) records effect rest h = changing task a source change records effect rest h

  pub operates : (s : Setting) (a : Access) (operation : Option Operation) (records : List Record) (effect : Effect) (rest : List Record)
      → Operates s a operation records effect rest → Operates s a operation (put records) effect (put rest)
  operates s a None records effect rest h = (h.0, ap put h.1)
  operates s a (Some operation) records effect rest h = (h.0, h.1, operates_in s.task a h.0 operation records effect rest h.2)

  pub locks : (task lock : ℕ) (records rest : List Record) → TakesLock task lock records rest → TakesLock task lock (put records) (put rest)
  locks task lock [] rest h = absurd h
  locks task lock (first ∷ later) rest h = (
    h.0,
    h.1,
    subst (λ (x : Answer). OnFlag x (λ free. MatchBool free (put rest ≡ put later) (TakesLock task lock (put later) (put rest))))
        (sym (same_answer given gives (length later) first (LockTry lock task) (λ none. none) h.1))
        (flag_so first.answer _ _ (λ free got. either_way free _ _ _ _ (λ over. ap put over) (λ more. locks task lock later rest more) got) h.2),
  )
