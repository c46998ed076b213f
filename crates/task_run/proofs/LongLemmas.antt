-- A wait that has had so many failed tries goes on with a step that comes after as many, by the records alone.
use Rattle.std.proofs.Common.{◌≡◌, ◌<◌, ◌≤◌, ◌+◌, ◌∙◌, ◌++◌, ◌∷◌, [], ℕ, zero, suc, Bool, true, false, IsSomeAnd}
use Rattle.std.proofs.Common.{List, MatchBool, None, Option, Some, ap, arith, eq-eqb, le_refl, refl, subst, sym, if◌then◌else◌}
use Rattle.access_types.specs.Access.{Access}
use Rattle.access_run.proofs.memory_operation.LeadsLemmas.{over_is_whole}
use Rattle.access_run.specs.memory_operation.LockLeads.{LockLeads, LockLeft}
use Rattle.access_run.specs.memory_operation.Leads as operations
use Rattle.access_run.specs.memory_operation.Locks.{TakesLock}
use Rattle.access_run.specs.memory_operation.Operations.{Exchanges, OnExchange, OperatesIn}
use Rattle.access_run.specs.memory_operation.Stages as operation_stages
use Rattle.access_run.specs.memory_operation.Values.{is_wanted, new_value, sum_of, with_value}
use Rattle.access_run.specs.memory_operation.Waits as waits
use Rattle.access_run.specs.declared.memory_operation.effect.Effect.{Effect}
use Rattle.access_run.specs.declared.memory_operation.lock.LockWait.{LockWait}
use Rattle.access_run.specs.declared.memory_operation.operation.Change.{Change}
use Rattle.access_run.specs.declared.memory_operation.operation.Change.TheVariants as changes
use Rattle.access_run.specs.declared.memory_operation.operation.Operation.{Operation}
use Rattle.access_run.specs.declared.memory_operation.operation.Operation.TheVariants as kinds
use Rattle.access_run.specs.declared.memory_operation.run.OperationRun.{OperationRun}
use Rattle.access_run.specs.declared.memory_operation.stage.OperationStage as operating
use Rattle.access_run.specs.declared.memory_operation.stage.OperationStage.TheVariants as operating_stages
use Rattle.setup_access.proofs.DisciplineLemmas.{on_flag, on_word}
use Rattle.setup_access.specs.Checker.{Doing}
use Rattle.setup_access.specs.Leads as checks
use Rattle.setup_access.specs.Parts.{made}
use Rattle.setup_access.specs.Setting as settings
use Rattle.setup_access.specs.Values.{value_in}
use Rattle.setup_access.specs.Waiting.{capped, pass_wait, stage_wait}
use Rattle.setup_access.specs.Waits.{Wait, after_half, after_load, wait_after, wait_from, wait_on}
use Rattle.setup_access.specs.declared.begun.Begun.{Begun}
use Rattle.setup_access.specs.declared.checker.Checker.{Checker}
use Rattle.setup_access.specs.declared.found.Found.TheVariants as founds
use Rattle.setup_access.specs.declared.pass.Pass.{Pass}
use Rattle.setup_access.specs.declared.pass.Pass.TheVariants as passes
use Rattle.setup_access.specs.PassLeft.{pass_step}
use Rattle.setup_access.specs.declared.setup.Setup.TheVariants as setups
use Rattle.setup_access.specs.declared.source.Source.{Source}
use Rattle.setup_access.specs.declared.stage.CheckStage as check_stages
use Rattle.setup_access.specs.declared.stage.CheckStage.TheVariants as checking
use Rattle.slot_table.specs.declared.records.Record.{Record}
use Rattle.slot_table.specs.declared.step.Answer.{Answer}
use Rattle.slot_table.specs.declared.step.Answer.TheVariants as answers
use Rattle.slot_table.specs.declared.step.Step.{Step}
use Rattle.slot_table.specs.declared.step.Step.TheVariants.{CellExchange, CellLoad, Clear, Clock, Consume, Insert, Load, LockStore, LockTry, Name, PairLoad, Remove, Tell, TryConsume}
use Rattle.task_run.proofs.PairLemmas.{AreOfOne, GoesOnAt, IsOfIndex, StartsAt}
use Rattle.task_run.proofs.TriesLemmas.{exchange_ends, onto}
use Rattle.program_order.specs.Waits.{IsTooMuch, failed_tries, is_tried_again}

-- the records go on with a load of the pair at this index
abbrev pub LoadsNext : ℕ → List Record → Type 0
LoadsNext index [] = ⊥
LoadsNext index (first ∷ later) = first.step ≡ PairLoad index

abbrev LongLoads : Option Wait → List Record → List Record → Type 0
LongLoads None before rest = Unit {0}
LongLoads (Some wait) before rest = (index : ℕ) → LoadsNext index rest → wait.tries ≤ failed_tries (PairLoad index) before

abbrev LongBefore : Option Wait → Step → List Record → Type 0
LongBefore None at before = Unit {0}
LongBefore (Some wait) at before = (index : ℕ) → at ≡ PairLoad index → wait.tries ≤ failed_tries (PairLoad index) before

abbrev LongAfter : Option Wait → Step → Answer → List Record → List Record → Type 0
LongAfter None at answer before rest = Unit {0}
LongAfter (Some wait) at answer before rest = (index : ℕ) → LoadsNext index rest
    → wait.tries ≤ (if is_tried_again at answer (PairLoad index) then suc (failed_tries at before) else 0)

same_index : (at index : ℕ) (rest : List Record) → StartsAt at rest → LoadsNext index rest → index ≡ at
same_index at index [] starts next = absurd next
same_index at index (first ∷ later) starts next = subst (λ (x : Step). IsOfIndex at x) next starts

half_long : (heard : ℕ) (wait : Wait) (before rest : List Record) (at : ℕ) (answer : Answer) → StartsAt at rest → wait.tries ≤ failed_tries (PairLoad at) before
    → LongAfter (after_half wait heard) (PairLoad at) answer before rest
half_long zero wait before rest at answer starts long = λ index next.
    subst (λ (b : Bool). wait.tries + 1 ≤ (if b then suc (failed_tries (PairLoad at) before) else 0))
    (sym (eq-eqb index at (same_index at index rest starts next))) (omega (arith, long))
half_long (suc ticket) wait before rest at answer starts long = tt

load_long : (wait : Option Wait) (before rest : List Record) (at : ℕ) (answer : Answer) → StartsAt at rest → LongBefore wait (PairLoad at) before
    → LongAfter (after_load wait answer) (PairLoad at) answer before rest
load_long None before rest at answer starts long = tt
load_long (Some wait) before rest at (answers.Halves setter finder) starts long =
    half_long (wait.half (record { setter = setter; finder = finder })) wait before rest at (answers.Halves setter finder) starts (long at refl)
load_long (Some wait) before rest at (answers.Word word) starts long = tt
load_long (Some wait) before rest at (answers.Flag flag) starts long = tt
load_long (Some wait) before rest at answers.Done starts long = tt

step_long : (wait : Option Wait) (before rest : List Record) (at : Step) (answer : Answer) → GoesOnAt at rest → LongBefore wait at before
    → LongAfter (wait_on wait at answer) at answer before rest
step_long wait before rest (Load index) answer goes long = tt
step_long wait before rest (Insert index word) answer goes long = tt
step_long wait before rest (TryConsume index word) (answers.Flag true) goes long = λ at next. le_refl 0
step_long wait before rest (TryConsume index word) (answers.Flag false) goes long = tt
step_long wait before rest (TryConsume index word) (answers.Word got) goes long = tt
step_long wait before rest (TryConsume index word) (answers.Halves setter finder) goes long = tt
step_long wait before rest (TryConsume index word) answers.Done goes long = tt
step_long wait before rest (Consume index) (answers.Flag true) goes long = tt
step_long wait before rest (Consume index) (answers.Flag false) goes long = λ at next. le_refl 0
step_long wait before rest (Consume index) (answers.Word got) goes long = tt
step_long wait before rest (Consume index) (answers.Halves setter finder) goes long = tt
step_long wait before rest (Consume index) answers.Done goes long = tt
step_long wait before rest (PairLoad index) answer goes long = load_long wait before rest index answer goes long
step_long wait before rest (Remove index) answer goes long = tt
step_long wait before rest (Name index ticket) answer goes long = tt
step_long wait before rest (Tell index ticket) answer goes long = tt
step_long wait before rest (Clear index) answer goes long = tt
step_long wait before rest (CellLoad cell) answer goes long = tt
step_long wait before rest (CellExchange cell seen new) answer goes long = tt
step_long wait before rest (LockTry lock holder) answer goes long = tt
step_long wait before rest (LockStore lock) answer goes long = tt
step_long wait before rest Clock answer goes long = tt

long_before : (wait : Option Wait) (first : Record) (before later : List Record) → LongLoads wait before (first ∷ later) → LongBefore wait first.step before
long_before None first before later long = tt
long_before (Some wait) first before later long = long

long_after : (wait : Option Wait) (first : Record) (before rest : List Record) → LongAfter wait first.step first.answer before rest → LongLoads wait (first ∷ before) rest
long_after None first before rest long = tt
long_after (Some wait) first before rest long = long

loads_long : (mine before rest : List Record) (wait : Option Wait) → AreOfOne (mine ++ rest) → LongLoads wait before (mine ++ rest)
    → LongLoads (wait_from wait mine) (onto mine before) rest
loads_long [] before rest wait one long = long
loads_long (first ∷ later) before rest wait one long =
    loads_long later (first ∷ before) rest (wait_on wait first.step first.answer) one.1
    (long_after (wait_on wait first.step first.answer) first before (later ++ rest)
    (step_long wait before (later ++ rest) first.step first.answer one.0 (long_before wait first before (later ++ rest) long)))

pass_loads : (pass : Pass) (wait : Wait) → pass_wait pass ≡ Some wait → (index : ℕ) × ((s : settings.Setting) (begun : Begun) → pass_step s begun pass ≡ PairLoad index)
pass_loads (passes.Find find) wait is = absurd (let no : None ≡ Some wait = is in cc)
pass_loads (passes.Found (founds.TryConsume watchpoint)) wait is = absurd (let no : None ≡ Some wait = is in cc)
pass_loads (passes.Found (founds.HearSetter index tries)) wait is = (index, λ s begun. refl)
pass_loads (passes.Found (founds.Tell index setter)) wait is = absurd (let no : None ≡ Some wait = is in cc)
pass_loads (passes.Setup (setups.Insert place word)) wait is = absurd (let no : None ≡ Some wait = is in cc)
pass_loads (passes.Setup (setups.Name index)) wait is = absurd (let no : None ≡ Some wait = is in cc)
pass_loads (passes.Setup (setups.LoadOld index source)) wait is = absurd (let no : None ≡ Some wait = is in cc)
pass_loads (passes.Setup (setups.LoadNew index source old)) wait is = absurd (let no : None ≡ Some wait = is in cc)
pass_loads (passes.Setup (setups.Consume index values)) wait is = absurd (let no : None ≡ Some wait = is in cc)
pass_loads (passes.Setup (setups.HearFinder index values tries)) wait is = (index, λ s begun. refl)
pass_loads (passes.Clear index) wait is = absurd (let no : None ≡ Some wait = is in cc)
pass_loads (passes.Remove index) wait is = absurd (let no : None ≡ Some wait = is in cc)

-- a check in a wait loads a pair next
stage_loads : (stage : check_stages.CheckStage) (wait : Wait) → stage_wait stage ≡ Some wait
    → (index : ℕ) × ((s : settings.Setting) → checks.stage_step s stage ≡ Some (PairLoad index))
stage_loads checking.Rest wait is = absurd (let no : None ≡ Some wait = is in cc)
stage_loads (checking.Begin begun) wait is = absurd (let no : None ≡ Some wait = is in cc)
stage_loads (checking.Check role begun pass) wait is =
    let loads = pass_loads pass wait is in (loads.0, λ s. ap (λ (step : Step). Some step) (loads.1 s begun))
stage_loads (checking.End scope) wait is = absurd (let no : None ≡ Some wait = is in cc)

-- so many failed tries of a wait stand in the records
abbrev pub CheckWaits : Checker → ℕ → List Record → Type 0
CheckWaits checker turns mine = (index : ℕ) × ((s : settings.Setting) → checks.stage_step s checker.stage ≡ Some (PairLoad index))
    × ((before more : List Record) → AreOfOne (mine ++ more) → LoadsNext index more → IsTooMuch turns (PairLoad index) (onto mine before))

pub check_long : (s : settings.Setting) (scopes : List Begun) (doing : Doing) (asked : ℕ) (mine : List Record) (checker : Checker) → checks.Leads s scopes doing asked mine checker
    → (turns : ℕ) → IsSomeAnd (wait_after mine) (λ wait. turns ≤ wait.tries) → CheckWaits checker turns mine
check_long s scopes doing asked mine checker leads turns stuck = by_wait (wait_after mine) refl stuck
  where
    by_wait : (wait : Option Wait) → wait_after mine ≡ wait → IsSomeAnd wait (λ wait. turns ≤ wait.tries) → CheckWaits checker turns mine
    by_wait None is many = absurd many
    by_wait (Some wait) is many =
        let loads = stage_loads checker.stage _ (leads.waits ∙ ap capped is) in (
          loads.0,
          loads.1,
          λ before more one next.
              let long : LongLoads (wait_after mine) (onto mine before) more = loads_long mine before more None one tt in
              let least : wait.tries ≤ failed_tries (PairLoad loads.0) (onto mine before) =
              (subst (λ (w : Option Wait). LongLoads w (onto mine before) more) is long) loads.0 next in
              (tt, omega (arith, many, least)),
        )

-- exchanges of one cell, and no tries of a lock
abbrev IsAtCell : ℕ → Step → Type 0
IsAtCell cell (CellExchange at seen new) = at ≡ cell
IsAtCell cell (LockTry lock task) = ⊥
IsAtCell cell step = Unit {0}

abbrev AreAtCell : ℕ → List Record → Type 0
AreAtCell cell [] = Unit {0}
AreAtCell cell (first ∷ later) = IsAtCell cell first.step × AreAtCell cell later

pick : (b : Bool) (Yes No Goal : Type 0) → MatchBool b Yes No → (Yes → Goal) → (No → Goal) → Goal
pick true Yes No Goal h at_true at_false = at_true h
pick false Yes No Goal h at_true at_false = at_false h

on_exchange : (answer : Answer) (Accepted : Type 0) (Refused : ℕ → Type 0) (Goal : Type 0) → OnExchange answer Accepted Refused → (Accepted → Goal)
    → ((word : ℕ) → Refused word → Goal) → Goal
on_exchange (answers.Word word) Accepted Refused Goal h accepted refused = refused word h
on_exchange (answers.Flag true) Accepted Refused Goal h accepted refused = accepted h
on_exchange (answers.Flag false) Accepted Refused Goal h accepted refused = absurd h
on_exchange (answers.Halves setter finder) Accepted Refused Goal h accepted refused = absurd h
on_exchange answers.Done Accepted Refused Goal h accepted refused = absurd h

exchanges_at : (task : ℕ) (a : Access) (source : Source) (change : Change) (seen : ℕ) (records : List Record) (effect : Effect)
    → Exchanges task a source change seen records effect [] → AreAtCell source.cell records
exchanges_at task a source change seen [] effect h = tt
exchanges_at task a source change seen (first ∷ later) effect h =
    pick (is_wanted a.size change (value_in a source seen)) _ _ _ h
    (λ now. (
      subst (λ (x : Step). IsAtCell source.cell x) (sym now.0.1) refl,
      on_exchange first.answer _ _ (AreAtCell source.cell later) now.1 (λ over. subst (λ (r : List Record). AreAtCell source.cell r) over.1 tt)
          (λ word again. exchanges_at task a source change word later effect again),
    ))
    (λ over. absurd (let no : [] ≡ first ∷ later = over.1 in cc))

changes_at : (task : ℕ) (a : Access) (source : Source) (change : Change) (records : List Record) (effect : Effect)
    → OperatesIn task a source (kinds.Change change) records effect [] → AreAtCell source.cell records
changes_at task a source change [] effect h = absurd h
changes_at task a source change (first ∷ later) effect h =
    let got = on_word first.answer _ h.2 in
    (subst (λ (x : Step). IsAtCell source.cell x) (sym h.1) tt, exchanges_at task a source change got.0 later effect got.2)

operation_at : (task : ℕ) (a : Access) (source : Source) (operation : Operation) (records : List Record) (effect : Effect)
    → OperatesIn task a source operation records effect [] → AreAtCell source.cell records
operation_at task a source kinds.Load [] effect h = absurd h
operation_at task a source kinds.Load (first ∷ later) effect h =
    let got = on_word first.answer _ h.2 in
    (subst (λ (x : Step). IsAtCell source.cell x) (sym h.1) tt, subst (λ (r : List Record). AreAtCell source.cell r) got.2.1 tt)
operation_at task a source (kinds.Add amount) [] effect h = absurd h
operation_at task a source (kinds.Add amount) (first ∷ later) effect h =
    let got = on_word first.answer _ h.2 in (
      subst (λ (x : Step). IsAtCell source.cell x) (sym h.1) tt,
      changes_at task a source (changes.Write (sum_of a.size (value_in a source got.0) amount)) later got.2.0 got.2.1,
    )
operation_at task a source (kinds.Change change) records effect h = changes_at task a source change records effect h

front_at : (cell : ℕ) (done more : List Record) → AreAtCell cell (done ++ more) → AreAtCell cell done
front_at cell [] more so = tt
front_at cell (first ∷ later) more so = (so.0, front_at cell later more so.1)

abbrev LongExchanges : ℕ → ℕ → List Record → Type 0
LongExchanges cell n before = (seen new : ℕ) → n ≤ failed_tries (CellExchange cell seen new) before

exchange_long : (cell : ℕ) (at : Step) (answer : Answer) (before : List Record) (n seen new : ℕ) → IsAtCell cell at → LongExchanges cell n before
    → (if waits.is_refusal at answer then n + 1 else 0) ≤ (if is_tried_again at answer (CellExchange cell seen new) then suc (failed_tries at before) else 0)
exchange_long cell (Load index) answer before n seen new is long = le_refl 0
exchange_long cell (Insert index word) answer before n seen new is long = le_refl 0
exchange_long cell (TryConsume index word) answer before n seen new is long = le_refl 0
exchange_long cell (Consume index) answer before n seen new is long = le_refl 0
exchange_long cell (Remove index) answer before n seen new is long = le_refl 0
exchange_long cell (PairLoad index) answer before n seen new is long = le_refl 0
exchange_long cell (Name index ticket) answer before n seen new is long = le_refl 0
exchange_long cell (Tell index ticket) answer before n seen new is long = le_refl 0
exchange_long cell (Clear index) answer before n seen new is long = le_refl 0
exchange_long cell (CellLoad at) answer before n seen new is long = le_refl 0
exchange_long cell (LockTry lock task) answer before n seen new is long = absurd is
exchange_long cell (LockStore lock) answer before n seen new is long = le_refl 0
exchange_long cell Clock answer before n seen new is long = le_refl 0
exchange_long cell (CellExchange at had put) (answers.Word word) before n seen new is long =
    let least : n ≤ failed_tries (CellExchange at had put) before =
    subst (λ (c : ℕ). n ≤ failed_tries (CellExchange c had put) before) (sym is) (long had put) in
    subst (λ (b : Bool). n + 1 ≤ (if b then suc (failed_tries (CellExchange at had put) before) else 0)) (sym (eq-eqb cell at (sym is))) (omega (arith, least))
exchange_long cell (CellExchange at had put) (answers.Flag flag) before n seen new is long = le_refl 0
exchange_long cell (CellExchange at had put) (answers.Halves setter finder) before n seen new is long = le_refl 0
exchange_long cell (CellExchange at had put) answers.Done before n seen new is long = le_refl 0

exchanges_long : (cell : ℕ) (done before : List Record) (n : ℕ) → AreAtCell cell done → LongExchanges cell n before
    → LongExchanges cell (waits.failed_from n done) (onto done before)
exchanges_long cell [] before n at long = long
exchanges_long cell (first ∷ later) before n at long =
    exchanges_long cell later (first ∷ before) (if waits.is_refusal first.step first.answer then n + 1 else 0) at.1
    (λ seen new. exchange_long cell first.step first.answer before n seen new at.0 long)

-- an operation that was refused so often goes on with an exchange that comes after as many
pub operation_long : (task : ℕ) (a : Access) (source : Source) (operation : Operation) (done : List Record) (run : OperationRun)
    → operations.Leads task a source operation done run → (turns : ℕ) → 0 < waits.failed_tries done → turns ≤ waits.failed_tries done
    → (¬ operations.IsDone task a source operation done)
    → (step : Step) × operations.Says run step × ((before : List Record) → IsTooMuch turns step (onto done before))
operation_long task a source operation done run leads turns some many going = by_stage run.stage refl
  where
    by_stage : (stage : operating.OperationStage) → run.stage ≡ stage
        → (step : Step) × operations.Says run step × ((before : List Record) → IsTooMuch turns step (onto done before))
    by_stage operating_stages.Over is = absurd (going (run.effect, over_is_whole task a source operation done run leads is))
    by_stage (operating_stages.Load now) is =
        let none : waits.failed_tries done ≡ 0 = subst (λ (x : operating.OperationStage). operation_stages.Counts x done) is leads.counts in
        absurd (let no : 0 < 0 = subst (λ (n : ℕ). 0 < n) none some in omega (arith, no))
    by_stage (operating_stages.Exchange change seen tries) is =
        let new : ℕ = with_value run.access run.source seen (new_value run.access.size change (value_in run.access run.source seen)) in
        let ended = exchange_ends task a source operation done run leads change seen tries is in
        let at : AreAtCell source.cell done = front_at source.cell done _ (operation_at task a source operation _ _ ended) in (
          CellExchange run.source.cell seen new,
          ap (λ (x : operating.OperationStage). operation_stages.stage_step run.access run.source x) is,
          λ before. subst (λ (x : Source). IsTooMuch turns (CellExchange x.cell seen new) (onto done before)) (sym leads.in_source)
              (let least = exchanges_long source.cell done before 0 at (λ had put. omega arith) seen new in
              (omega (arith, some, least), omega (arith, many, least))),
        )

-- tries of one lock
abbrev IsAtLock : ℕ → Step → Type 0
IsAtLock lock (LockTry at task) = at ≡ lock
IsAtLock lock (CellExchange cell seen new) = ⊥
IsAtLock lock step = Unit {0}

abbrev AreAtLock : ℕ → List Record → Type 0
AreAtLock lock [] = Unit {0}
AreAtLock lock (first ∷ later) = IsAtLock lock first.step × AreAtLock lock later

tries_at : (task lock : ℕ) (records : List Record) → TakesLock task lock records [] → AreAtLock lock records
tries_at task lock [] h = absurd h
tries_at task lock (first ∷ later) h =
    let got = on_flag first.answer _ h.2 in (
      subst (λ (x : Step). IsAtLock lock x) (sym h.1) refl,
      pick got.0 _ _ (AreAtLock lock later) got.2 (λ over. subst (λ (r : List Record). AreAtLock lock r) over tt) (λ again. tries_at task lock later again),
    )

lock_front : (lock : ℕ) (mine more : List Record) → AreAtLock lock (mine ++ more) → AreAtLock lock mine
lock_front lock [] more so = tt
lock_front lock (first ∷ later) more so = (so.0, lock_front lock later more so.1)

abbrev LongTries : ℕ → ℕ → List Record → Type 0
LongTries lock n before = (task : ℕ) → n ≤ failed_tries (LockTry lock task) before

try_long : (lock : ℕ) (at : Step) (answer : Answer) (before : List Record) (n task : ℕ) → IsAtLock lock at → LongTries lock n before
    → (if waits.is_refusal at answer then n + 1 else 0) ≤ (if is_tried_again at answer (LockTry lock task) then suc (failed_tries at before) else 0)
try_long lock (Load index) answer before n task is long = le_refl 0
try_long lock (Insert index word) answer before n task is long = le_refl 0
try_long lock (TryConsume index word) answer before n task is long = le_refl 0
try_long lock (Consume index) answer before n task is long = le_refl 0
try_long lock (Remove index) answer before n task is long = le_refl 0
try_long lock (PairLoad index) answer before n task is long = le_refl 0
try_long lock (Name index ticket) answer before n task is long = le_refl 0
try_long lock (Tell index ticket) answer before n task is long = le_refl 0
try_long lock (Clear index) answer before n task is long = le_refl 0
try_long lock (CellLoad at) answer before n task is long = le_refl 0
try_long lock (CellExchange cell seen new) answer before n task is long = absurd is
try_long lock (LockStore at) answer before n task is long = le_refl 0
try_long lock Clock answer before n task is long = le_refl 0
try_long lock (LockTry at holder) (answers.Word word) before n task is long = le_refl 0
try_long lock (LockTry at holder) (answers.Flag true) before n task is long = le_refl 0
try_long lock (LockTry at holder) (answers.Flag false) before n task is long =
    let least : n ≤ failed_tries (LockTry at holder) before = subst (λ (l : ℕ). n ≤ failed_tries (LockTry l holder) before) (sym is) (long holder) in
    subst (λ (b : Bool). n + 1 ≤ (if b then suc (failed_tries (LockTry at holder) before) else 0)) (sym (eq-eqb lock at (sym is))) (omega (arith, least))
try_long lock (LockTry at holder) (answers.Halves setter finder) before n task is long = le_refl 0
try_long lock (LockTry at holder) answers.Done before n task is long = le_refl 0

tries_long : (lock : ℕ) (mine before : List Record) (n : ℕ) → AreAtLock lock mine → LongTries lock n before → LongTries lock (waits.failed_from n mine) (onto mine before)
tries_long lock [] before n at long = long
tries_long lock (first ∷ later) before n at long =
    tries_long lock later (first ∷ before) (if waits.is_refusal first.step first.answer then n + 1 else 0) at.1
    (λ task. try_long lock first.step first.answer before n task at.0 long)

-- a task that was refused a lock so often goes on with a try that comes after as many
pub lock_long : (task lock : ℕ) (mine : List Record) (wait : LockWait) → LockLeads task lock mine wait → wait.is_taken ≡ false → (turns : ℕ)
    → turns ≤ waits.failed_tries mine → (before : List Record) → IsTooMuch turns (LockTry wait.lock wait.task) (onto mine before)
lock_long task lock mine wait leads going turns many before =
    let free : List Record = made task (LockTry lock task) (answers.Flag true) ∷ [] in
    let left : LockLeft task lock wait.is_taken free = subst (λ (b : Bool). LockLeft task lock b free) (sym going) (refl, refl, refl) in
    let at : AreAtLock lock mine = lock_front lock mine free (tries_at task lock (mine ++ free) ((leads.left free).1 left)) in
    let least = tries_long lock mine before 0 at (λ holder. omega arith) wait.task in
    subst (λ (l : ℕ). IsTooMuch turns (LockTry l wait.task) (onto mine before)) (sym leads.of_lock) (tt, omega (arith, many, least))
