-- How many steps of the clock each part of a text makes: one as an access begins, and one as it ends.
use native.Mathlib.Omega.{arith}
use Rattle.std.proofs.Common.{◌≡◌, ◌∙◌, ◌||◌, ◌+◌, ◌++◌, ◌∷◌, [], ℕ, Bool, false, List, MatchBool, None, Option, Some, ap, cond, refl, sym}
use Rattle.std.proofs.lemmas.List.Sums.{sum_by-append, sum_by-cons}
use Rattle.access_types.specs.Access.{Access}
use Rattle.access_run.specs.memory_operation.Locks.{TakesLock}
use Rattle.access_run.specs.memory_operation.Operations.{Changes, Ends, Exchanges, Operates, OperatesIn}
use Rattle.access_run.specs.memory_operation.Values.{is_wanted, sum_of}
use Rattle.access_run.specs.declared.memory_operation.effect.Effect.{Effect}
use Rattle.access_run.specs.declared.memory_operation.operation.Change.{Change}
use Rattle.access_run.specs.declared.memory_operation.operation.Change.TheVariants as changes
use Rattle.access_run.specs.declared.memory_operation.operation.Operation.{Operation}
use Rattle.access_run.specs.declared.memory_operation.operation.Operation.TheVariants as operations
use Rattle.program_order.specs.InProgress.{clock_steps, is_clock}
use Rattle.setup_access.proofs.DisciplineLemmas.{on_flag}
use Rattle.setup_access.proofs.QuietSteps.{IsOfCheck, on_word, once, rechecks}
use Rattle.setup_access.specs.Check.{Check, ChecksBegun, Close, Passes, left_to_check}
use Rattle.setup_access.specs.Records.{MakesWord}
use Rattle.setup_access.specs.Setting.{Setting}
use Rattle.setup_access.specs.Values.{value_in}
use Rattle.setup_access.specs.declared.begun.Begun.{Begun}
use Rattle.setup_access.specs.declared.source.Source.{Source}
use Rattle.slot_table.specs.declared.records.Record.{Record}
use Rattle.slot_table.specs.declared.step.Step.{Step}
use Rattle.slot_table.specs.declared.step.Step.TheVariants.{CellExchange, CellLoad, Clear, Clock, Consume, Insert, Load, LockStore, LockTry, Name, PairLoad}
use Rattle.slot_table.specs.declared.step.Step.TheVariants.{Remove, Tell, TryConsume}
use Rattle.access_run.proofs.memory_operation.ReadLemmas.{either, on_exchange}

pub clocks_both : (first later : List Record) → clock_steps (first ++ later) ≡ clock_steps first + clock_steps later
clocks_both first later = sum_by-append (λ (r : Record). cond (is_clock r.step) 1 0) first later

one_quiet : (first : Record) (later : List Record) → is_clock first.step ≡ false → clock_steps (first ∷ later) ≡ clock_steps later
one_quiet first later none =
    let all : clock_steps (first ∷ later) ≡ cond {A = ℕ} (is_clock first.step) 1 0 + clock_steps later =
    sum_by-cons (λ (r : Record). cond (is_clock r.step) 1 0) first later in
    let own : cond {A = ℕ} (is_clock first.step) 1 0 ≡ 0 = ap (λ (b : Bool). cond {A = ℕ} b 1 0) none in
    omega (arith, all, own)

one_clock : (first : Record) (later : List Record) → first.step ≡ Clock → clock_steps (first ∷ later) ≡ clock_steps later + 1
one_clock first later is =
    let all : clock_steps (first ∷ later) ≡ cond {A = ℕ} (is_clock first.step) 1 0 + clock_steps later =
    sum_by-cons (λ (r : Record). cond (is_clock r.step) 1 0) first later in
    let own : cond {A = ℕ} (is_clock first.step) 1 0 ≡ 1 = ap (λ (x : Step). cond {A = ℕ} (is_clock x) 1 0) is in
    omega (arith, all, own)

not_clock : (step : Step) → IsOfCheck step → is_clock step ≡ false
not_clock (Load index) of = refl
not_clock (Insert index word) of = refl
not_clock (TryConsume index word) of = refl
not_clock (Consume index) of = refl
not_clock (Remove index) of = refl
not_clock (PairLoad index) of = refl
not_clock (Name index ticket) of = refl
not_clock (Tell index ticket) of = refl
not_clock (Clear index) of = refl
not_clock (CellLoad cell) of = refl
not_clock (CellExchange cell seen new) of = refl
not_clock (LockTry lock task) of = refl
not_clock (LockStore lock) of = refl
not_clock Clock of = absurd of

word_quiet : (task : ℕ) (step : Step) (Goes : ℕ → List Record → Type 0) (records rest : List Record) → is_clock step ≡ false → MakesWord task step Goes records
    → ((word : ℕ) (later : List Record) → Goes word later → clock_steps later ≡ clock_steps rest) → clock_steps records ≡ clock_steps rest
word_quiet task step Goes [] rest none h goes = absurd h
word_quiet task step Goes (first ∷ later) rest none h goes =
    one_quiet first later (ap is_clock h.1 ∙ none)
    ∙ on_word first.answer (λ word. Goes word later) (clock_steps later ≡ clock_steps rest) h.2 (λ word got. goes word later got)

-- the stamp of an end
pub end_clocks : (task : ℕ) (records rest : List Record) → MakesWord task Clock (λ stamp later. rest ≡ later) records
    → clock_steps records ≡ clock_steps rest + 1
end_clocks task [] rest h = absurd h
end_clocks task (first ∷ later) rest h =
    let over : rest ≡ later = on_word first.answer (λ stamp. rest ≡ later) (rest ≡ later) h.2 (λ stamp is. is) in
    one_clock first later h.1 ∙ ap (λ (l : List Record). clock_steps l + 1) (sym over)

-- a check has one step of the clock, its first
pub check_clocks : (s : Setting) (scopes : List Begun) (begun : Begun) (asked : ℕ) (records : List Record) (passes : Passes) (rest : List Record)
    → Check s scopes begun asked records passes rest → clock_steps records ≡ clock_steps rest + 1
check_clocks s scopes begun asked [] passes rest h = absurd h.2
check_clocks s scopes begun asked (first ∷ later) passes rest h =
    one_clock first later h.2.1
    ∙ on_word first.answer (λ stamp. ChecksBegun s scopes begun asked later passes rest) (clock_steps later + 1 ≡ clock_steps rest + 1) h.2.2
    (λ stamp got. ap (λ (n : ℕ). n + 1) (either begun.silenced _ _ (Quiet later) got
    (λ quiet. ap clock_steps (sym quiet.1))
    (λ now. once Quiet before s begun.access begun.marked asked later now.0 now.1 now.3
    (rechecks Quiet before s (left_to_check now.0.settled scopes) now.0.asked now.1 (record { outcomes = now.2; asked = passes.asked }) rest now.4 refl))))
  where
    Quiet : List Record → Type 0
    Quiet records = clock_steps records ≡ clock_steps rest

    before : (first : Record) (later : List Record) → IsOfCheck first.step → Quiet later → Quiet (first ∷ later)
    before first later of quiet = one_quiet first later (not_clock first.step of) ∙ quiet

-- and the last check of a scoped assertion one, its last
pub close_clocks : (s : Setting) (scope : Begun) (silenced : Bool) (asked : ℕ) (records : List Record) (passes : Passes) (rest : List Record)
    → Close s scope silenced asked records passes rest → clock_steps records ≡ clock_steps rest + 1
close_clocks s scope silenced asked records passes rest h =
    rechecks Quiet before s ((record scope { silenced = scope.silenced || silenced }) ∷ []) asked records passes h.1.0 h.1.1 refl
    ∙ end_clocks s.task h.1.0 rest h.1.2
  where
    Quiet : List Record → Type 0
    Quiet records = clock_steps records ≡ clock_steps h.1.0

    before : (first : Record) (later : List Record) → IsOfCheck first.step → Quiet later → Quiet (first ∷ later)
    before first later of quiet = one_quiet first later (not_clock first.step of) ∙ quiet

-- an operation has none
exchanges_clocks : (task : ℕ) (a : Access) (source : Source) (change : Change) (seen : ℕ) (records : List Record) (effect : Effect) (rest : List Record)
    → Exchanges task a source change seen records effect rest → clock_steps records ≡ clock_steps rest
exchanges_clocks task a source change seen [] effect rest h =
    either (is_wanted a.size change (value_in a source seen)) _ _ (clock_steps [] ≡ clock_steps rest) h (λ no. absurd no)
    (λ (ends : Ends a source seen [] effect rest). ap clock_steps (sym ends.1))
exchanges_clocks task a source change seen (first ∷ later) effect rest h =
    either (is_wanted a.size change (value_in a source seen)) _ _ (clock_steps (first ∷ later) ≡ clock_steps rest) h
    (λ tried. one_quiet first later (ap is_clock tried.0.1)
    ∙ on_exchange first.answer _ _ (clock_steps later ≡ clock_steps rest) tried.1
    (λ accepted. ap clock_steps (sym accepted.1))
    (λ word refused. exchanges_clocks task a source change word later effect rest refused))
    (λ (ends : Ends a source seen (first ∷ later) effect rest). ap clock_steps (sym ends.1))

changes_clocks : (task : ℕ) (a : Access) (source : Source) (change : Change) (records : List Record) (effect : Effect) (rest : List Record)
    → Changes task a source change records effect rest → clock_steps records ≡ clock_steps rest
changes_clocks task a source change records effect rest h =
    word_quiet task (CellLoad source.cell) (λ seen later. Exchanges task a source change seen later effect rest) records rest refl h
    (λ seen later got. exchanges_clocks task a source change seen later effect rest got)

operates_in_clocks : (task : ℕ) (a : Access) (source : Source) (operation : Operation) (records : List Record) (effect : Effect) (rest : List Record)
    → OperatesIn task a source operation records effect rest → clock_steps records ≡ clock_steps rest
operates_in_clocks task a source operations.Load records effect rest h =
    word_quiet task (CellLoad source.cell) _ records rest refl h (λ word later got. ap clock_steps (sym got.1))
operates_in_clocks task a source (operations.Add amount) records effect rest h =
    word_quiet task (CellLoad source.cell) _ records rest refl h
    (λ word later got. changes_clocks task a source (changes.Write (sum_of a.size (value_in a source word) amount)) later got.0 rest got.1)
operates_in_clocks task a source (operations.Change change) records effect rest h = changes_clocks task a source change records effect rest h

pub operates_clocks : (s : Setting) (a : Access) (operation : Option Operation) (records : List Record) (effect : Effect) (rest : List Record)
    → Operates s a operation records effect rest → clock_steps records ≡ clock_steps rest
operates_clocks s a None records effect rest h = ap clock_steps (sym h.1)
operates_clocks s a (Some operation) records effect rest h = operates_in_clocks s.task a h.0 operation records effect rest h.2

-- nor have the tries of a lock
pub lock_clocks : (task lock : ℕ) (records rest : List Record) → TakesLock task lock records rest → clock_steps records ≡ clock_steps rest
lock_clocks task lock [] rest h = absurd h
lock_clocks task lock (first ∷ later) rest h =
    let got = on_flag first.answer (λ was_free. MatchBool was_free (rest ≡ later) (TakesLock task lock later rest)) h.2 in
    one_quiet first later (ap is_clock h.1)
    ∙ either got.0 _ _ (clock_steps later ≡ clock_steps rest) got.2 (λ over. ap clock_steps (sym over)) (λ tries. lock_clocks task lock later rest tries)

-- nor has the step that gives a lock back
pub store_clocks : (first : Record) (lock : ℕ) → first.step ≡ LockStore lock → clock_steps (first ∷ []) ≡ 0
store_clocks first lock is = one_quiet first [] (ap is_clock is)
