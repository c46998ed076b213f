-- A step that is a try too much is not made: the part that it is of is stuck.
use Rattle.std.proofs.Common.{◌≡◌, ◌<◌, ◌≤◌, ◌+◌, ◌==◌, ◌∙◌, ◌++◌, ◌∷◌, [], ℕ, zero, suc, Bool, true, false}
use Rattle.std.proofs.Common.{IsSomeAnd, List, None, Option, Some, ap, append_assoc, arith, le_refl, refl, reverse, subst, sym, if◌then◌else◌}
use Rattle.task_run.proofs.SaysLemmas.{one_some}
use Rattle.std.proofs.lemmas.List.{append-nil, reverse-append}
use Rattle.access_run.specs.Leads.{AccessIsDone, AccessIsStuck, AccessLeads, Runs, StageLeads, in_check, in_operation}
use Rattle.access_run.specs.Leads as accesses
use Rattle.access_run.specs.declared.access.AccessRun.{AccessRun}
use Rattle.access_run.specs.declared.stage.AccessStage as access_stages
use Rattle.access_run.specs.declared.stage.AccessStage.TheVariants.{Check, End, Operate, Over}
use Rattle.access_types.specs.Access.{Access}
use Rattle.access_types.specs.Sites.{map_of}
use Rattle.access_run.specs.memory_operation.LockLeads.{IsStuckAtLock, LockSays}
use Rattle.access_run.specs.memory_operation.Leads as operations
use Rattle.access_run.specs.memory_operation.Locks.{TakesLock}
use Rattle.access_run.specs.memory_operation.Operations.{Exchanges, Operates, OperatesIn}
use Rattle.access_run.specs.memory_operation.Stages as operation_stages
use Rattle.access_run.specs.memory_operation.Values.{is_wanted, new_value, with_value}
use Rattle.access_run.specs.memory_operation.Effects.{and_then, changed}
use Rattle.access_run.specs.memory_operation.Waits as waits
use Rattle.access_run.specs.declared.memory_operation.effect.Effect.{Effect}
use Rattle.access_run.specs.declared.memory_operation.lock.LockWait.{LockWait}
use Rattle.access_run.specs.declared.memory_operation.operation.Change.{Change}
use Rattle.access_run.specs.declared.memory_operation.operation.Operation.{Operation}
use Rattle.access_run.specs.declared.memory_operation.operation.Operation.TheVariants as kinds
use Rattle.access_run.specs.declared.memory_operation.run.OperationRun.{OperationRun}
use Rattle.access_run.specs.declared.memory_operation.stage.OperationStage as operating
use Rattle.access_run.specs.declared.memory_operation.stage.OperationStage.TheVariants as operating_stages
use Rattle.setup_access.specs.Checker.{Doing}
use Rattle.setup_access.specs.Kept.{setting_with}
use Rattle.setup_access.specs.Leads as checks
use Rattle.setup_access.specs.Parts.{made}
use Rattle.setup_access.specs.PassLeft.{pass_step}
use Rattle.setup_access.specs.Setting as settings
use Rattle.setup_access.specs.Values.{value_in}
use Rattle.setup_access.specs.Waiting.{capped, pass_wait, stage_wait}
use Rattle.setup_access.specs.Waits.{Wait, after_half, after_load, wait_after, wait_from, wait_on}
use Rattle.setup_access.specs.declared.begun.Begun.{Begun}
use Rattle.setup_access.specs.declared.checker.Checker.{Checker}
use Rattle.setup_access.specs.declared.found.Found.TheVariants as founds
use Rattle.setup_access.specs.declared.pass.Pass.{Pass}
use Rattle.setup_access.specs.declared.pass.Pass.TheVariants as passes
use Rattle.setup_access.specs.declared.setup.Setup.TheVariants as setups
use Rattle.setup_access.specs.declared.source.Source.{Source}
use Rattle.setup_access.specs.declared.stage.CheckStage as check_stages
use Rattle.setup_access.specs.declared.stage.CheckStage.TheVariants as checking
use Rattle.slot_table.specs.declared.records.Record.{Record}
use Rattle.slot_table.specs.declared.step.Answer.{Answer}
use Rattle.slot_table.specs.declared.step.Answer.TheVariants as answers
use Rattle.slot_table.specs.declared.step.Step.{Step}
use Rattle.slot_table.specs.declared.step.Step.TheVariants.{CellExchange, CellLoad, Clear, Clock, Consume, Insert, Load, LockStore, LockTry, Name, PairLoad, Remove, Tell, TryConsume}
use Rattle.task_run.proofs.WaitLemmas.{check_says}
use Rattle.program_order.specs.Waits.{IsTooMuch, failed_tries, is_tried_again}

-- records, the oldest first, before others, which stand with the latest first
abbrev pub onto : List Record → List Record → List Record
onto [] before = before
onto (first ∷ later) before = onto later (first ∷ before)

pub onto_is : (mine before : List Record) → reverse mine ++ before ≡ onto mine before
onto_is [] before = refl
onto_is (first ∷ later) before =
    ap (λ (r : List Record). r ++ before) (reverse-append (first ∷ []) later)
    ∙ (append_assoc (reverse later) (first ∷ []) before ∙ onto_is later (first ∷ before))

pub all_onto : (earlier mine : List Record) → reverse (earlier ++ mine) ≡ onto mine (reverse earlier)
all_onto earlier mine = reverse-append earlier mine ∙ onto_is mine (reverse earlier)

pub onto_both : (one other before : List Record) → onto (one ++ other) before ≡ onto other (onto one before)
onto_both [] other before = refl
onto_both (first ∷ later) other before = onto_both later other (first ∷ before)

-- one failed try more, or none
up_one : (b : Bool) (v n : ℕ) → v ≤ n → (if b then suc v else 0) ≤ n + 1
up_one true v n most = omega (arith, most)
up_one false v n most = omega arith

-- exchanges of a cell come after no more failed tries than these
abbrev FewExchanges : ℕ → List Record → Type 0
FewExchanges n before = (cell seen new : ℕ) → failed_tries (CellExchange cell seen new) before ≤ n

exchange_grows : (at : Step) (answer : Answer) (before : List Record) (n cell seen new : ℕ) → FewExchanges n before
    → (if is_tried_again at answer (CellExchange cell seen new) then suc (failed_tries at before) else 0) ≤ (if waits.is_refusal at answer then n + 1 else 0)
exchange_grows (Load index) answer before n cell seen new few = le_refl 0
exchange_grows (Insert index word) answer before n cell seen new few = le_refl 0
exchange_grows (TryConsume index word) answer before n cell seen new few = le_refl 0
exchange_grows (Consume index) answer before n cell seen new few = le_refl 0
exchange_grows (Remove index) answer before n cell seen new few = le_refl 0
exchange_grows (PairLoad index) answer before n cell seen new few = le_refl 0
exchange_grows (Name index ticket) answer before n cell seen new few = le_refl 0
exchange_grows (Tell index ticket) answer before n cell seen new few = le_refl 0
exchange_grows (Clear index) answer before n cell seen new few = le_refl 0
exchange_grows (CellLoad at) answer before n cell seen new few = le_refl 0
exchange_grows (LockStore at) answer before n cell seen new few = le_refl 0
exchange_grows Clock answer before n cell seen new few = le_refl 0
exchange_grows (CellExchange at had put) (answers.Word word) before n cell seen new few =
    up_one (cell == at) (failed_tries (CellExchange at had put) before) n (few at had put)
exchange_grows (CellExchange at had put) (answers.Flag flag) before n cell seen new few = le_refl 0
exchange_grows (CellExchange at had put) (answers.Halves setter finder) before n cell seen new few = le_refl 0
exchange_grows (CellExchange at had put) answers.Done before n cell seen new few = le_refl 0
exchange_grows (LockTry at holder) (answers.Word word) before n cell seen new few = le_refl 0
exchange_grows (LockTry at holder) (answers.Flag true) before n cell seen new few = le_refl 0
exchange_grows (LockTry at holder) (answers.Flag false) before n cell seen new few = omega arith
exchange_grows (LockTry at holder) (answers.Halves setter finder) before n cell seen new few = le_refl 0
exchange_grows (LockTry at holder) answers.Done before n cell seen new few = le_refl 0

exchanges_on : (mine before : List Record) (n : ℕ) → FewExchanges n before → FewExchanges (waits.failed_from n mine) (onto mine before)
exchanges_on [] before n few = few
exchanges_on (first ∷ later) before n few =
    exchanges_on later (first ∷ before) (if waits.is_refusal first.step first.answer then n + 1 else 0)
    (λ cell seen new. exchange_grows first.step first.answer before n cell seen new few)

-- so do tries of a lock
abbrev FewTries : ℕ → List Record → Type 0
FewTries n before = (lock task : ℕ) → failed_tries (LockTry lock task) before ≤ n

try_grows : (at : Step) (answer : Answer) (before : List Record) (n lock task : ℕ) → FewTries n before
    → (if is_tried_again at answer (LockTry lock task) then suc (failed_tries at before) else 0) ≤ (if waits.is_refusal at answer then n + 1 else 0)
try_grows (Load index) answer before n lock task few = le_refl 0
try_grows (Insert index word) answer before n lock task few = le_refl 0
try_grows (TryConsume index word) answer before n lock task few = le_refl 0
try_grows (Consume index) answer before n lock task few = le_refl 0
try_grows (Remove index) answer before n lock task few = le_refl 0
try_grows (PairLoad index) answer before n lock task few = le_refl 0
try_grows (Name index ticket) answer before n lock task few = le_refl 0
try_grows (Tell index ticket) answer before n lock task few = le_refl 0
try_grows (Clear index) answer before n lock task few = le_refl 0
try_grows (CellLoad at) answer before n lock task few = le_refl 0
try_grows (LockStore at) answer before n lock task few = le_refl 0
try_grows Clock answer before n lock task few = le_refl 0
try_grows (CellExchange at had put) (answers.Word word) before n lock task few = omega arith
try_grows (CellExchange at had put) (answers.Flag flag) before n lock task few = le_refl 0
try_grows (CellExchange at had put) (answers.Halves setter finder) before n lock task few = le_refl 0
try_grows (CellExchange at had put) answers.Done before n lock task few = le_refl 0
try_grows (LockTry at holder) (answers.Word word) before n lock task few = le_refl 0
try_grows (LockTry at holder) (answers.Flag true) before n lock task few = le_refl 0
try_grows (LockTry at holder) (answers.Flag false) before n lock task few =
    up_one (lock == at) (failed_tries (LockTry at holder) before) n (few at holder)
try_grows (LockTry at holder) (answers.Halves setter finder) before n lock task few = le_refl 0
try_grows (LockTry at holder) answers.Done before n lock task few = le_refl 0

tries_on : (mine before : List Record) (n : ℕ) → FewTries n before → FewTries (waits.failed_from n mine) (onto mine before)
tries_on [] before n few = few
tries_on (first ∷ later) before n few =
    tries_on later (first ∷ before) (if waits.is_refusal first.step first.answer then n + 1 else 0)
    (λ lock task. try_grows first.step first.answer before n lock task few)

-- a load of a pair comes after no more failed ones than the wait has counted
abbrev FewLoads : Option Wait → List Record → Type 0
FewLoads None before = Unit {0}
FewLoads (Some wait) before = (index : ℕ) → failed_tries (PairLoad index) before ≤ wait.tries

-- the same after one step more and its answer
abbrev FewAfter : Option Wait → Step → Answer → List Record → Type 0
FewAfter None at answer before = Unit {0}
FewAfter (Some wait) at answer before =
    (index : ℕ) → (if is_tried_again at answer (PairLoad index) then suc (failed_tries at before) else 0) ≤ wait.tries

few_with : (wait : Option Wait) (first : Record) (before : List Record) → FewAfter wait first.step first.answer before → FewLoads wait (first ∷ before)
few_with None first before few = few
few_with (Some wait) first before few = few

heard_grows : (heard : ℕ) (wait : Wait) (before : List Record) (at : ℕ) (answer : Answer) → FewLoads (Some wait) before
    → FewAfter (after_half wait heard) (PairLoad at) answer before
heard_grows zero wait before at answer few = λ index. up_one (index == at) (failed_tries (PairLoad at) before) wait.tries (few at)
heard_grows (suc ticket) wait before at answer few = tt

pair_grows : (wait : Option Wait) (before : List Record) (at : ℕ) (answer : Answer) → FewLoads wait before
    → FewAfter (after_load wait answer) (PairLoad at) answer before
pair_grows None before at answer few = tt
pair_grows (Some wait) before at (answers.Halves setter finder) few =
    heard_grows (wait.half (record { setter = setter; finder = finder })) wait before at (answers.Halves setter finder) few
pair_grows (Some wait) before at (answers.Word word) few = tt
pair_grows (Some wait) before at (answers.Flag flag) few = tt
pair_grows (Some wait) before at answers.Done few = tt

wait_grows : (wait : Option Wait) (before : List Record) (at : Step) (answer : Answer) → FewLoads wait before
    → FewAfter (wait_on wait at answer) at answer before
wait_grows wait before (Load index) answer few = tt
wait_grows wait before (Insert index word) answer few = tt
wait_grows wait before (TryConsume index word) (answers.Flag true) few = λ index. le_refl 0
wait_grows wait before (TryConsume index word) (answers.Flag false) few = tt
wait_grows wait before (TryConsume index word) (answers.Word got) few = tt
wait_grows wait before (TryConsume index word) (answers.Halves setter finder) few = tt
wait_grows wait before (TryConsume index word) answers.Done few = tt
wait_grows wait before (Consume index) (answers.Flag true) few = tt
wait_grows wait before (Consume index) (answers.Flag false) few = λ index. le_refl 0
wait_grows wait before (Consume index) (answers.Word got) few = tt
wait_grows wait before (Consume index) (answers.Halves setter finder) few = tt
wait_grows wait before (Consume index) answers.Done few = tt
wait_grows wait before (PairLoad index) answer few = pair_grows wait before index answer few
wait_grows wait before (Remove index) answer few = tt
wait_grows wait before (Name index ticket) answer few = tt
wait_grows wait before (Tell index ticket) answer few = tt
wait_grows wait before (Clear index) answer few = tt
wait_grows wait before (CellLoad cell) answer few = tt
wait_grows wait before (CellExchange cell seen new) answer few = tt
wait_grows wait before (LockTry lock holder) answer few = tt
wait_grows wait before (LockStore lock) answer few = tt
wait_grows wait before Clock answer few = tt

waits_on : (mine before : List Record) (wait : Option Wait) → FewLoads wait before → FewLoads (wait_from wait mine) (onto mine before)
waits_on [] before wait few = few
waits_on (first ∷ later) before wait few =
    waits_on later (first ∷ before) (wait_on wait first.step first.answer) (few_with (wait_on wait first.step first.answer) first before (wait_grows wait before first.step first.answer few))

-- a check that loads a pair is in a wait
pair_waits : (s : settings.Setting) (begun : Begun) (pass : Pass) (index : ℕ) → pass_step s begun pass ≡ PairLoad index
    → (wait : Wait) × (pass_wait pass ≡ Some wait)
pair_waits s begun (passes.Find find) index is = absurd (let no : Load _ ≡ PairLoad index = is in cc)
pair_waits s begun (passes.Found (founds.TryConsume watchpoint)) index is = absurd (let no : TryConsume watchpoint.index watchpoint.word ≡ PairLoad index = is in cc)
pair_waits s begun (passes.Found (founds.HearSetter at tries)) index is = (_, refl)
pair_waits s begun (passes.Found (founds.Tell at setter)) index is = absurd (let no : Tell at _ ≡ PairLoad index = is in cc)
pair_waits s begun (passes.Setup (setups.Insert place word)) index is = absurd (let no : Insert _ word ≡ PairLoad index = is in cc)
pair_waits s begun (passes.Setup (setups.Name at)) index is = absurd (let no : Name at _ ≡ PairLoad index = is in cc)
pair_waits s begun (passes.Setup (setups.LoadOld at source)) index is = absurd (let no : CellLoad source.cell ≡ PairLoad index = is in cc)
pair_waits s begun (passes.Setup (setups.LoadNew at source old)) index is = absurd (let no : CellLoad source.cell ≡ PairLoad index = is in cc)
pair_waits s begun (passes.Setup (setups.Consume at values)) index is = absurd (let no : Consume at ≡ PairLoad index = is in cc)
pair_waits s begun (passes.Setup (setups.HearFinder at values tries)) index is = (_, refl)
pair_waits s begun (passes.Clear at) index is = absurd (let no : Clear at ≡ PairLoad index = is in cc)
pair_waits s begun (passes.Remove at) index is = absurd (let no : Remove at ≡ PairLoad index = is in cc)

stage_waits : (s : settings.Setting) (stage : check_stages.CheckStage) (index : ℕ) → checks.stage_step s stage ≡ Some (PairLoad index)
    → (wait : Wait) × (stage_wait stage ≡ Some wait)
stage_waits s checking.Rest index is = absurd (let no : None ≡ Some (PairLoad index) = is in cc)
stage_waits s (checking.Begin begun) index is = absurd (let no : Clock ≡ PairLoad index = one_some Clock (PairLoad index) is in cc)
stage_waits s (checking.Check role begun pass) index is = pair_waits s begun pass index (one_some (pass_step s begun pass) (PairLoad index) is)
stage_waits s (checking.End scope) index is = absurd (let no : Clock ≡ PairLoad index = one_some Clock (PairLoad index) is in cc)

too_many : (wait : Option Wait) (here : Wait) (turns index : ℕ) (records : List Record) → Some here ≡ capped wait → FewLoads wait records
    → turns ≤ failed_tries (PairLoad index) records → IsSomeAnd wait (λ w. turns ≤ w.tries)
too_many None here turns index records is few tried = absurd (let no : Some here ≡ None = is in cc)
too_many (Some wait) here turns index records is few tried = let most = few index in omega (arith, most, tried)

-- a step of a check that is a try too much is a load of a pair, in a wait that had as many failed tries
pub check_tried : (s : settings.Setting) (scopes : List Begun) (doing : Doing) (asked : ℕ) (mine : List Record) (checker : Checker)
    → checks.Leads s scopes doing asked mine checker → (turns : ℕ) (before : List Record) (step : Step) → checks.Says checker step
    → IsTooMuch turns step (onto mine before) → IsSomeAnd (wait_after mine) (λ wait. turns ≤ wait.tries)
check_tried s scopes doing asked mine checker leads turns before (PairLoad index) says tried =
    let waiting = stage_waits (setting_with checker.setting (map_of [])) checker.stage index (says (map_of [])) in
    too_many (wait_after mine) waiting.0 turns index (onto mine before) (sym waiting.1 ∙ leads.waits) (waits_on mine before None tt) tried.1
check_tried s scopes doing asked mine checker leads turns before (LockTry lock task) says tried = absurd (check_says checker (LockTry lock task) says)
check_tried s scopes doing asked mine checker leads turns before (CellExchange cell seen new) says tried =
    absurd (check_says checker (CellExchange cell seen new) says)
check_tried s scopes doing asked mine checker leads turns before (Load index) says tried = absurd tried.0
check_tried s scopes doing asked mine checker leads turns before (Insert index word) says tried = absurd tried.0
check_tried s scopes doing asked mine checker leads turns before (TryConsume index word) says tried = absurd tried.0
check_tried s scopes doing asked mine checker leads turns before (Consume index) says tried = absurd tried.0
check_tried s scopes doing asked mine checker leads turns before (Remove index) says tried = absurd tried.0
check_tried s scopes doing asked mine checker leads turns before (Name index ticket) says tried = absurd tried.0
check_tried s scopes doing asked mine checker leads turns before (Tell index ticket) says tried = absurd tried.0
check_tried s scopes doing asked mine checker leads turns before (Clear index) says tried = absurd tried.0
check_tried s scopes doing asked mine checker leads turns before (CellLoad cell) says tried = absurd tried.0
check_tried s scopes doing asked mine checker leads turns before (LockStore lock) says tried = absurd tried.0
check_tried s scopes doing asked mine checker leads turns before Clock says tried = absurd tried.0

-- an operation loads the cell first
abbrev LoadsFirst : Source → List Record → Type 0
LoadsFirst source [] = ⊥
LoadsFirst source (first ∷ later) = first.step ≡ CellLoad source.cell

operation_loads : (task : ℕ) (a : Access) (source : Source) (operation : Operation) (records : List Record) (effect : Effect) (rest : List Record)
    → OperatesIn task a source operation records effect rest → LoadsFirst source records
operation_loads task a source kinds.Load [] effect rest h = h
operation_loads task a source kinds.Load (first ∷ later) effect rest h = h.1
operation_loads task a source (kinds.Add amount) [] effect rest h = h
operation_loads task a source (kinds.Add amount) (first ∷ later) effect rest h = h.1
operation_loads task a source (kinds.Change change) [] effect rest h = h
operation_loads task a source (kinds.Change change) (first ∷ later) effect rest h = h.1

module _ (task : ℕ) (a : Access) (source : Source) (operation : Operation) (done : List Record) (run : OperationRun)
    (leads : operations.Leads task a source operation done run) where
  -- one more exchange would end it
  abbrev exchange : Change → ℕ → Record
  exchange change seen =
      made task (CellExchange source.cell seen (with_value a source seen (new_value a.size change (value_in a source seen)))) (answers.Flag true)

  accepted : (change : Change) (seen : ℕ) → is_wanted a.size change (value_in a source seen) ≡ true
      → Exchanges task a source change seen (exchange change seen ∷ []) (changed a.size change (value_in a source seen)) []
  accepted change seen wanted = rw wanted ((refl, refl), (refl, refl))

  pub exchange_ends : (change : Change) (seen tries : ℕ) → run.stage ≡ operating_stages.Exchange change seen tries
      → OperatesIn task a source operation (done ++ exchange change seen ∷ []) (and_then run.effect (changed a.size change (value_in a source seen))) []
  exchange_ends change seen tries is =
      let ready : is_wanted a.size change (value_in a source seen) ≡ true =
      subst (λ (stage : operating.OperationStage). operation_stages.IsReady a source stage) is leads.ready in
      let more : Effect = changed a.size change (value_in a source seen) in
      let left : operation_stages.StageLeft task a source run.stage (exchange change seen ∷ []) more =
      subst (λ (stage : operating.OperationStage). operation_stages.StageLeft task a source stage (exchange change seen ∷ []) more) (sym is) (accepted change seen ready) in
      (leads.left (exchange change seen ∷ []) (and_then run.effect more)).1 (more, left, refl)

  ended : (change : Change) (seen tries : ℕ) → run.stage ≡ operating_stages.Exchange change seen tries → LoadsFirst source (done ++ exchange change seen ∷ [])
  ended change seen tries is = operation_loads task a source operation _ _ [] (exchange_ends change seen tries is)

  few_exchanges : (last : Record) (cell seen new : ℕ) → last.step ≡ CellExchange cell seen new → LoadsFirst source (done ++ last ∷ []) → (before : List Record)
      → FewExchanges (waits.failed_tries done) (onto done before)
  few_exchanges last cell seen new is first before = by_first done first
    where
      by_first : (mine : List Record) → LoadsFirst source (mine ++ last ∷ []) → FewExchanges (waits.failed_tries mine) (onto mine before)
      by_first [] loads = absurd (let no : CellExchange cell seen new ≡ CellLoad source.cell = sym is ∙ loads in cc)
      by_first (one ∷ later) loads =
          let none : waits.is_refusal one.step one.answer ≡ false = ap (λ (step : Step). waits.is_refusal step one.answer) loads in
          let few : FewExchanges 0 (one ∷ before) = λ at had put.
          subst (λ (step : Step). (if is_tried_again step one.answer (CellExchange at had put) then suc (failed_tries step before) else 0) ≤ 0) (sym loads) (le_refl 0) in
          let on : FewExchanges (waits.failed_from 0 later) (onto later (one ∷ before)) = exchanges_on later (one ∷ before) 0 few in
          subst (λ (b : Bool). FewExchanges (waits.failed_from (if b then 0 + 1 else 0) later) (onto later (one ∷ before))) (sym none) on

  -- a step of an operation that is a try too much is an exchange that was refused as often
  pub operation_tried : (turns : ℕ) (before : List Record) (step : Step) → operations.Says run step → IsTooMuch turns step (onto done before)
      → (0 < waits.failed_tries done) × (turns ≤ waits.failed_tries done)
  operation_tried turns before step says tried = by_stage run.stage refl says
    where
      by_stage : (stage : operating.OperationStage) → run.stage ≡ stage → operation_stages.stage_step run.access run.source stage ≡ Some step
          → (0 < waits.failed_tries done) × (turns ≤ waits.failed_tries done)
      by_stage operating_stages.Over is h = absurd (let no : None ≡ Some step = h in cc)
      by_stage (operating_stages.Load now) is h =
          let none : IsTooMuch turns (CellLoad run.source.cell) (onto done before) =
          subst (λ (x : Step). IsTooMuch turns x (onto done before)) (sym (one_some (CellLoad run.source.cell) step h)) tried in
          absurd none.0
      by_stage (operating_stages.Exchange change seen tries) is h =
          let new : ℕ = with_value run.access run.source seen (new_value run.access.size change (value_in run.access run.source seen)) in
          let now : IsTooMuch turns (CellExchange run.source.cell seen new) (onto done before) =
          subst (λ (x : Step). IsTooMuch turns x (onto done before)) (sym (one_some (CellExchange run.source.cell seen new) step h)) tried in
          let most = few_exchanges (exchange change seen) source.cell seen
          (with_value a source seen (new_value a.size change (value_in a source seen))) refl (ended change seen tries is) before run.source.cell seen new in
          let some = now.0 in
          let many = now.1 in
          (omega (arith, some, most), omega (arith, many, most))

-- where an access makes a try too much it is stuck
module _ (s : settings.Setting) (scopes : List Begun) (begun : Begun) (asked : ℕ) (operation : Option Operation) (mine : List Record) (checker : Checker)
    (going : ¬ AccessIsDone s scopes begun asked operation mine) (before : List Record) (step : Step)
    (tried : IsTooMuch s.rules.turns step (onto mine before)) where
  in_stage : (stage : access_stages.AccessStage) → StageLeads s scopes begun asked operation mine stage checker → accesses.StageSays stage checker step
      → AccessIsStuck s scopes begun asked operation mine
  in_stage (Check run) leads says = record {
    going = going;
    waits = in_check leads.1 (check_tried s scopes _ asked mine checker leads.0 s.rules.turns before step says tried);
  }
  in_stage (Operate run) leads says = by_operation operation refl leads.5
    where
      by_operation : (o : Option Operation) → operation ≡ o → Runs s begun.access o leads.1 run → AccessIsStuck s scopes begun asked operation mine
      by_operation None is runs = absurd runs
      by_operation (Some now) is runs =
          let tried_there : IsTooMuch s.rules.turns step (onto leads.1 (onto leads.0 before)) =
          subst (λ (r : List Record). IsTooMuch s.rules.turns step r) (ap (λ (r : List Record). onto r before) leads.2 ∙ onto_both leads.0 leads.1 before) tried in
          let stuck = operation_tried s.task begun.access runs.0 now leads.1 run runs.2 s.rules.turns (onto leads.0 before) step says tried_there in
          let not_done : ¬ operations.IsDone s.task begun.access runs.0 now leads.1 = λ h. leads.4 leads.1 [] h.0 (sym (append-nil leads.1))
          (subst (λ (o : Option Operation). Operates s begun.access o leads.1 h.0 []) (sym is) (runs.0, runs.1, h.1)) in
          record {
            going = going;
            waits = in_operation leads.0 leads.1 _ leads.2 leads.3.whole.0
                (subst (λ (o : Option Operation). accesses.IsStuckIn s begun.access o leads.1) (sym is) (runs.0, runs.1, (not_done, stuck.0, stuck.1)));
          }
  in_stage (End effect) leads says =
      let none : IsTooMuch s.rules.turns Clock (onto mine before) = subst (λ (x : Step). IsTooMuch s.rules.turns x (onto mine before)) says tried in absurd none.0
  in_stage (Over effect) leads says = absurd says

pub access_tried : (s : settings.Setting) (scopes : List Begun) (begun : Begun) (asked : ℕ) (operation : Option Operation) (mine : List Record) (run : AccessRun)
    (checker : Checker) → AccessLeads s scopes begun asked operation mine run checker → ¬ AccessIsDone s scopes begun asked operation mine
    → (before : List Record) (step : Step) → accesses.AccessSays run checker step → IsTooMuch s.rules.turns step (onto mine before)
    → AccessIsStuck s scopes begun asked operation mine
access_tried s scopes begun asked operation mine run checker leads going before step says tried =
    in_stage s scopes begun asked operation mine checker going before step tried run.stage leads.stage says

-- where a task tries a lock too often it is stuck
pub lock_tried : (turns task lock : ℕ) (mine before : List Record) (wait : LockWait) → ((at holder : ℕ) → failed_tries (LockTry at holder) before ≡ 0)
    → ¬ TakesLock task lock mine [] → (step : Step) → LockSays wait step → IsTooMuch turns step (onto mine before) → IsStuckAtLock turns task lock mine
lock_tried turns task lock mine before wait none going step says tried =
    let now : IsTooMuch turns (LockTry wait.lock wait.task) (onto mine before) =
    subst (λ (x : Step). IsTooMuch turns x (onto mine before)) says.1 tried in
    let many = now.1 in
    let most = tries_on mine before 0 (λ at holder. let is = none at holder in omega (arith, is)) wait.lock wait.task in
    (going, omega (arith, many, most))
