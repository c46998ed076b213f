-- Whatever an operation on memory, a wait for a lock or an access has left can be completed.
use Rattle.std.proofs.Common.{◌≡◌, ◌∙◌, ◌++◌, ◌∷◌, [], ℕ, Bool, true, false, List, Option, None, Some, IsSome, ap, append_assoc, refl, subst, sym}
use Rattle.std.proofs.lemmas.List.{append-nil}
use Rattle.access_types.specs.Access.{Access}
use Rattle.access_run.specs.memory_operation.Effects.{and_then, changed, nothing, only_read}
use Rattle.access_run.specs.memory_operation.Leads as operations
use Rattle.access_run.specs.memory_operation.LockLeads.{LockLeads, LockLeft}
use Rattle.access_run.specs.memory_operation.Locks.{TakesLock}
use Rattle.access_run.specs.memory_operation.Operations.{Exchanges, Operates, OperatesIn}
use Rattle.access_run.specs.memory_operation.Stages.{StageLeft}
use Rattle.access_run.specs.memory_operation.Values.{is_wanted, new_value, sum_of, with_value}
use Rattle.access_run.specs.declared.memory_operation.effect.Effect.{Effect}
use Rattle.access_run.specs.declared.memory_operation.lock.LockWait.{LockWait}
use Rattle.access_run.specs.declared.memory_operation.operation.Change.{Change}
use Rattle.access_run.specs.declared.memory_operation.operation.Change.TheVariants as changes
use Rattle.access_run.specs.declared.memory_operation.operation.Operation.{Operation}
use Rattle.access_run.specs.declared.memory_operation.operation.Operation.TheVariants as kinds
use Rattle.access_run.specs.declared.memory_operation.run.OperationRun.{OperationRun}
use Rattle.access_run.specs.declared.memory_operation.stage.OperationStage as code
use Rattle.access_run.specs.declared.memory_operation.stage.OperationStage.TheVariants as operating
use Rattle.setup_access.specs.Check.{Check, Passes}
use Rattle.setup_access.specs.Checker.{Checks}
use Rattle.setup_access.specs.OwnAccesses.{AreOwn, IsOwn}
use Rattle.setup_access.specs.Parts.{made}
use Rattle.setup_access.specs.Setting.{Setting}
use Rattle.setup_access.specs.Values.{source_of, value_in}
use Rattle.setup_access.specs.declared.begun.Begun.{Begun}
use Rattle.setup_access.specs.declared.checker.Checker.{Checker}
use Rattle.setup_access.specs.declared.source.Source.{Source}
use Rattle.slot_table.specs.declared.records.Record.{Record}
use Rattle.slot_table.specs.declared.step.Answer.TheVariants as answers
use Rattle.slot_table.specs.declared.step.Step.TheVariants.{CellExchange, CellLoad, Clock, LockTry}
use Rattle.access_run.specs.Access.{MakesAccess}
use Rattle.access_run.specs.Leads.{HasCell, IsReady, Runs, StageLeads}
use Rattle.access_run.specs.Moved.{moved}
use Rattle.access_run.specs.declared.stage.AccessStage.{AccessStage}
use Rattle.access_run.specs.declared.stage.AccessStage.TheVariants as stages
use Rattle.access_run.proofs.CheckEnds.{check_ends, some_check}
use Rattle.access_run.proofs.LeadsLemmas.{check_joined, operates_joined}

module _ (task : ℕ) (a : Access) (source : Source) where
  abbrev Ending : (List Record → Effect → Type 0) → Type 0
  Ending Left = (records : List Record) × (effect : Effect) × Left records effect

  -- an exchange that is accepted at once, where the value is wanted
  exchanged : (change : Change) (seen : ℕ) → Ending (λ records effect. Exchanges task a source change seen records effect [])
  exchanged change seen = by (is_wanted a.size change (value_in a source seen)) refl
    where
      by : (wanted : Bool) → is_wanted a.size change (value_in a source seen) ≡ wanted → Ending (λ records effect. Exchanges task a source change seen records effect [])
      by true is = (
        made task (CellExchange source.cell seen (with_value a source seen (new_value a.size change (value_in a source seen)))) (answers.Flag true) ∷ [],
        changed a.size change (value_in a source seen),
        rw is ((refl, refl), (refl, refl)),
      )
      by false is = ([], only_read (value_in a source seen), rw is (refl, refl))

  pub some_operation : (operation : Operation) → Ending (λ records effect. OperatesIn task a source operation records effect [])
  some_operation kinds.Load = (made task (CellLoad source.cell) (answers.Word 0) ∷ [], only_read (value_in a source 0), (refl, refl, (refl, refl)))
  some_operation (kinds.Add amount) =
      let last = exchanged (changes.Write (sum_of a.size (value_in a source 0) amount)) 0 in (
        made task (CellLoad source.cell) (answers.Word 0) ∷ made task (CellLoad source.cell) (answers.Word 0) ∷ last.0,
        and_then (only_read (value_in a source 0)) last.1,
        (refl, refl, (last.1, (refl, refl, last.2), refl)),
      )
  some_operation (kinds.Change change) =
      let last = exchanged change 0 in (made task (CellLoad source.cell) (answers.Word 0) ∷ last.0, last.1, (refl, refl, last.2))

  stage_left : (stage : code.OperationStage) → Ending (StageLeft task a source stage)
  stage_left operating.Over = ([], nothing, (refl, refl))
  stage_left (operating.Load operation) = some_operation operation
  stage_left (operating.Exchange change seen tries) = exchanged change seen

  -- what leads to an operation can be completed
  pub operation_ends : (operation : Operation) (records : List Record) (run : OperationRun) → operations.Leads task a source operation records run
      → Ending (λ later effect. OperatesIn task a source operation (records ++ later) effect [])
  operation_ends operation records run leads =
      let own = stage_left run.stage in (own.0, and_then run.effect own.1, (leads.left own.0 (and_then run.effect own.1)).1 (own.1, own.2, refl))

-- so can what leads to a wait for a lock
lock_left : (task lock : ℕ) (taken : Bool) → (later : List Record) × LockLeft task lock taken later
lock_left task lock true = ([], refl)
lock_left task lock false = (made task (LockTry lock task) (answers.Flag true) ∷ [], (refl, refl, refl))

pub some_tries : (task lock : ℕ) → (records : List Record) × TakesLock task lock records []
some_tries task lock = lock_left task lock false

pub lock_ends : (task lock : ℕ) (records : List Record) (wait : LockWait) → LockLeads task lock records wait → (later : List Record) × TakesLock task lock (records ++ later) []
lock_ends task lock records wait leads = let own = lock_left task lock wait.is_taken in (own.0, (leads.left own.0).1 own.1)

module _ (s : Setting) (a : Access) where
  of_source : (source : Option Source) → IsSome source → (some : Source) × (source ≡ Some some)
  of_source None is = absurd (let no : false ≡ true = is in cc)
  of_source (Some source) is = (source, refl)

  operated : (operation : Option Operation) → HasCell s a operation → (records : List Record) × (effect : Effect) × Operates s a operation records effect []
  operated None has = ([], nothing, (refl, refl))
  operated (Some operation) has =
      let source = of_source (source_of s a) has in
      let own = some_operation s.task a source.0 operation in (own.0, own.1, (source.0, source.1, own.2))

  has_cell : (operation : Option Operation) (run : Option OperationRun) → IsReady s a operation run → HasCell s a operation
  has_cell operation None ready = subst (λ o. HasCell s a o) (sym ready) tt
  has_cell None (Some run) runs = tt
  has_cell (Some operation) (Some run) runs = subst (λ (o : Option Source). IsSome o) (sym runs.1) refl

  runs_end : (operation : Option Operation) (done : List Record) (run : OperationRun) → Runs s a operation done run
      → (later : List Record) × (effect : Effect) × Operates s a operation (done ++ later) effect []
  runs_end None done run runs = absurd runs
  runs_end (Some operation) done run runs =
      let own = operation_ends s.task a runs.0 operation done run runs.2 in (own.0, own.1, (runs.0, runs.1, own.2))

module _ (s : Setting) (scopes : List Begun) (begun : Begun) (asked : ℕ) (operation : Option Operation) where
  abbrev ends_clock : List Record
  ends_clock = made s.task Clock (answers.Word 0) ∷ []

  abbrev Whole : List Record → Type 0
  Whole records = (passes : Passes) × (effect : Effect) × MakesAccess s scopes begun asked operation records passes effect []

  -- a check, an operation and the clock
  joined : (checked done : List Record) (passes : Passes) (effect : Effect) → Check s scopes begun asked checked passes []
      → Operates s begun.access operation done effect [] → Whole (checked ++ (done ++ ends_clock))
  joined checked done passes effect check operates = (
    moved (done ++ ends_clock) passes,
    effect,
    record {
      checked = done ++ ends_clock;
      done = ends_clock;
      check = check_joined s scopes begun asked checked (done ++ ends_clock) passes check;
      operates = operates_joined s begun.access operation done ends_clock effect operates;
      ends = (refl, refl, refl);
    },
  )

  -- some records are an access
  pub some_access : IsOwn s begun.access → AreOwn s scopes → HasCell s begun.access operation → (records : List Record) × Whole records
  some_access own others has =
      let check = some_check s scopes begun asked own others in
      let operates = operated s begun.access operation has in
      (check.0 ++ (operates.0 ++ ends_clock), joined check.0 operates.0 check.1 operates.1 check.2 operates.2)

  -- what leads to an access can be completed
  pub access_ends : (records : List Record) (stage : AccessStage) (checker : Checker) → StageLeads s scopes begun asked operation records stage checker
      → (later : List Record) × Whole (records ++ later)
  access_ends records (stages.Check run) checker leads =
      let check = check_ends s scopes (Checks begun) asked records checker leads.0 in
      let operates = operated s begun.access operation (has_cell s begun.access operation run leads.2) in (
        check.0 ++ (operates.0 ++ ends_clock),
        subst (λ r. Whole r) (append_assoc records check.0 (operates.0 ++ ends_clock)) (joined (records ++ check.0) operates.0 check.1 operates.1 check.2 operates.2),
      )
  access_ends records (stages.Operate run) checker leads =
      let operates = runs_end s begun.access operation leads.1 run leads.5 in
      let all : records ++ (operates.0 ++ ends_clock) ≡ leads.0 ++ ((leads.1 ++ operates.0) ++ ends_clock) =
      ap (λ r. r ++ (operates.0 ++ ends_clock)) leads.2
      ∙ (append_assoc leads.0 leads.1 (operates.0 ++ ends_clock) ∙ ap (λ r. leads.0 ++ r) (sym (append_assoc leads.1 operates.0 ends_clock))) in
      (operates.0 ++ ends_clock, subst (λ r. Whole r) (sym all) (joined leads.0 (leads.1 ++ operates.0) _ operates.1 leads.3.whole.0 operates.2))
  access_ends records (stages.End effect) checker leads =
      let all : records ++ ends_clock ≡ leads.0 ++ (leads.1 ++ ends_clock) = ap (λ r. r ++ ends_clock) leads.2 ∙ append_assoc leads.0 leads.1 ends_clock in
      (ends_clock, subst (λ r. Whole r) (sym all) (joined leads.0 leads.1 _ effect leads.3.whole.0 leads.4.0))
  access_ends records (stages.Over effect) checker leads = ([], subst (λ r. Whole r) (sym (append-nil records)) (_, effect, leads.makes))
