-- The points of a task's way come in order: ever fewer records are to come.
use Rattle.std.proofs.Common.{◌≡◌, ◌<◌, ◌≤◌, ◌++◌, ◌∷◌, [], ℕ, suc, Bool, true, false, List, Option, None, Some, ap, arith, drop, length, replicate, subst, sym}
use Rattle.access_types.specs.Access as access
use Rattle.access_types.specs.declared.history.Happening.TheVariants as happenings
use Rattle.litmus_semantics.specs.Task as meaning
use Rattle.litmus_syntax.specs.Tree.{Block}
use Rattle.access_run.specs.memory_operation.Effects.{moments_of, read_moments, write_moments}
use Rattle.access_run.specs.memory_operation.Operations.{Operates}
use Rattle.access_run.specs.declared.memory_operation.effect.Effect.{Effect}
use Rattle.access_run.specs.declared.memory_operation.operation.Operation.{Operation}
use Rattle.access_run.specs.declared.memory_operation.operation.Operation.TheVariants as operations
use Rattle.slot_table.specs.declared.records.Record.{Record}
use Rattle.slot_table.specs.declared.step.Step.TheVariants.{LockStore}
use Rattle.program_order.specs.Access.{Makes, operated}
use Rattle.program_order.specs.Standing.{Point, Setting, Standing, checks_of, coming, counting, doing, lock_number}
use Rattle.program_order.specs.WrittenOrder.{SpellsAll, at_first}
use Rattle.program_order.proofs.Induction.{Kept, by_block}
use Rattle.executions.proofs.observation_determinism.CheckGoes.{check_low}
use Rattle.executions.proofs.observation_determinism.ScopeGoes.{closes_low, opens_low}
use Rattle.executions.proofs.observation_determinism.SureOperations.{add_later, clocks, lock_less, operates, stores}

abbrev AllFrom : ℕ → List Point → Type 0
AllFrom n [] = Unit {0}
AllFrom n (point ∷ points) = (n ≤ point.to_come) × AllFrom n points

abbrev pub AllUpTo : ℕ → List Point → Type 0
AllUpTo n [] = Unit {0}
AllUpTo n (point ∷ points) = (point.to_come ≤ n) × AllUpTo n points

abbrev pub IsFalling : List Point → Type 0
IsFalling [] = Unit {0}
IsFalling (point ∷ points) = AllUpTo point.to_come points × IsFalling points

from_fewer : (n m : ℕ) (points : List Point) → m ≤ n → AllFrom n points → AllFrom m points
from_fewer n m [] fewer all = tt
from_fewer n m (point ∷ points) fewer all = (let here : n ≤ point.to_come = all.0 in omega (arith, here, fewer), from_fewer n m points fewer all.1)

from_with : (n : ℕ) (points : List Point) (last : Point) → AllFrom n points → n ≤ last.to_come → AllFrom n (points ++ last ∷ [])
from_with n [] last all more = (more, tt)
from_with n (point ∷ points) last all more = (all.0, from_with n points last all.1 more)

up_to_with : (n : ℕ) (points : List Point) (last : Point) → AllUpTo n points → last.to_come ≤ n → AllUpTo n (points ++ last ∷ [])
up_to_with n [] last all fewer = (fewer, tt)
up_to_with n (point ∷ points) last all fewer = (all.0, up_to_with n points last all.1 fewer)

falling_with : (n : ℕ) (points : List Point) (last : Point) → IsFalling points → AllFrom n points → last.to_come ≤ n → IsFalling (points ++ last ∷ [])
falling_with n [] last falls from fewer = (tt, tt)
falling_with n (point ∷ points) last falls from fewer = (
  up_to_with point.to_come points last falls.0 (let here : n ≤ point.to_come = from.0 in omega (arith, here, fewer)),
  falling_with n points last falls.1 from.1 fewer,
)

-- the way so far falls, to no less than this
abbrev Falls : ℕ → Standing → Type 0
Falls n before = IsFalling before.way × AllFrom n before.way

falls_on : (n : ℕ) (before : Standing) (later : List Record) (progress : meaning.Progress) → length later ≤ n → Falls n before
    → Falls (length later) (coming before later progress)
falls_on n before later progress fewer falls =
    let last : Point = record { to_come = length later; progress = progress; unbalanced = before.unbalanced } in (
      falling_with n before.way last falls.0 falls.1 fewer,
      from_with (length later) before.way last (from_fewer n (length later) before.way fewer falls.1) (omega arith),
    )

falls_to : (n m : ℕ) (before : Standing) → m ≤ n → Falls n before → Falls m before
falls_to n m before fewer falls = (falls.0, from_fewer n m before.way fewer falls.1)

falls_same : (n : ℕ) (one other : Standing) → other.way ≡ one.way → Falls n one → Falls n other
falls_same n one other same falls = subst (λ (w : List Point). IsFalling w × AllFrom n w) (sym same) falls

counted : (n : ℕ) (ends_nothing : Bool) (before : Standing) → Falls n before → Falls n (counting ends_nothing before)
counted n true before falls = falls
counted n false before falls = falls

-- the length of what is left of a list
drop_less : (records : List Record) → length (drop 1 records) ≤ length records
drop_less [] = omega arith
drop_less (first ∷ later) = omega arith

module _ (s : Setting) (a : access.Access) where
  operated_falls : (n : ℕ) (operation : Option Operation) (before : Standing) (records : List Record) (effect : Effect) (rest : List Record)
      → Operates (checks_of s) a operation records effect rest → length records ≤ n → Falls n before
      → Falls (length rest) (operated a operation before records effect rest)
  operated_falls n None before records effect rest h fewer falls =
      let less : length rest ≤ length records = (operates (checks_of s) a None).shrinks records effect rest h in
      falls_to n (length rest) before (omega (arith, less, fewer)) falls
  operated_falls n (Some operations.Load) before records effect rest h fewer falls =
      let less : length rest ≤ length records = (operates (checks_of s) a (Some operations.Load)).shrinks records effect rest h in
      falls_on n before rest (meaning.doing before.progress (moments_of a effect)) (omega (arith, less, fewer)) falls
  operated_falls n (Some (operations.Add amount)) before [] effect rest h fewer falls = absurd h.2
  operated_falls n (Some (operations.Add amount)) before (first ∷ later) effect rest h fewer falls =
      let less : length rest ≤ length later = add_later s.text.task a h.0 amount first later effect rest h.2 in
      let most : suc (length later) ≤ n = fewer in
      let read : Standing = doing before later (read_moments a effect.read) in
      falls_on (length later) read rest (meaning.doing read.progress (write_moments a effect.written)) less
      (falls_on n before later (meaning.doing before.progress (read_moments a effect.read)) (omega (arith, most)) falls)
  operated_falls n (Some (operations.Change change)) before records effect rest h fewer falls =
      let less : length rest ≤ length records = (operates (checks_of s) a (Some (operations.Change change))).shrinks records effect rest h in
      falls_on n before rest (meaning.doing before.progress (moments_of a effect)) (omega (arith, less, fewer)) falls

abbrev FallsOn : Standing → List Record → Standing → List Record → Type 0
FallsOn before records after rest = Falls (length records) before → Falls (length rest) after

makes_falls : (s : Setting) (a : access.Access) (operation : Option Operation) (effect : Effect) (before : Standing) (records : List Record) (after : Standing)
    (rest : List Record) → Makes s before a operation records effect after rest → FallsOn before records after rest
makes_falls s a operation effect before records after rest h falls =
    let checked = check_low (checks_of s) before.scopes h.begun before.asked records h.passes h.checked h.check in
    let began : Standing = doing before (drop 1 records) (happenings.Begin a ∷ []) in
    let made : Standing = operated a operation began h.checked effect h.done in
    let one : length h.checked < length records = checked.0 in
    let three : length rest ≤ length h.done = (clocks s.text.task).shrinks h.done tt rest h.ends in
    falls_same (length rest) (doing made rest (happenings.End a ∷ [])) after (ap (λ (st : Standing). st.way) h.comes_to)
    (falls_on (length h.done) made rest (meaning.doing made.progress (happenings.End a ∷ [])) three
    (operated_falls s a (length (drop 1 records)) operation began h.checked effect h.done h.operates (dropped records h.checked one)
    (falls_on (length records) before (drop 1 records) (meaning.doing before.progress (happenings.Begin a ∷ [])) (drop_less records) falls)))
  where
    dropped : (records checked : List Record) → length checked < length records → length checked ≤ length (drop 1 records)
    dropped [] checked less = omega (arith, less)
    dropped (first ∷ later) checked less = omega (arith, less)

kept_falling : (s : Setting) → Kept s FallsOn
kept_falling s = record {
  still = λ before records falls. falls;
  joins = λ before between after records later rest p q falls. q (p falls);
  marked = λ ends_nothing count m before records falls.
      falls_on (length records) (counting ends_nothing before) records
      (meaning.doing (counting ends_nothing before).progress (replicate count (happenings.Mark m))) (omega arith)
      (counted (length records) ends_nothing before falls);
  lost = λ before records falls. falls_on (length records) (counting true before) records before.progress (omega arith)
      (counted (length records) true before falls);
  assigned = λ before records register value falls.
      falls_on (length records) before records (meaning.assigning before.progress register value) (omega arith) falls;
  makes = λ a operation effect before records after rest h falls. makes_falls s a operation effect before records after rest h falls;
  locks = λ lock before records rest is takes falls.
      let less : length rest < length records = lock_less s.text.task (lock_number s lock) records rest takes in
      falls_on (length records) before rest (meaning.doing before.progress (happenings.Lock lock ∷ [])) (omega (arith, less)) falls;
  unlocks = λ lock before records rest has frees falls.
      falls_on (length records) before rest (meaning.doing before.progress (happenings.Unlock lock ∷ []))
      ((stores s.text.task (LockStore (lock_number s lock))).shrinks records tt rest frees) falls;
  scoped = λ a assertion begun before opened closing after records inside later rest opens inner closes falls.
      let first = opens_low s a before records begun opened inside opens in
      let less : length inside < length records = first.0 in
      let last = closes_low s closing begun before.scopes later after rest closes in
      let began : Standing = doing before (drop 1 records) (happenings.Begin a ∷ []) in
      let start : Falls (length (drop 1 records)) began =
      falls_on (length records) before (drop 1 records) (meaning.doing before.progress (happenings.Begin a ∷ [])) (drop_less records) falls in
      let begun_so : Falls (length inside) opened =
      falls_same (length inside) began opened (ap (λ (st : Standing). st.way) opens.comes_to)
      (falls_to (length (drop 1 records)) (length inside) began (dropped records inside less) start) in
      falls_same (length rest) (doing closing rest (happenings.End begun.access ∷ [])) after (ap (λ (st : Standing). st.way) closes.comes_to)
      (falls_on (length later) closing rest (meaning.doing closing.progress (happenings.End begun.access ∷ [])) last.0 (inner begun_so));
}
  where
    dropped : (records inside : List Record) → length inside < length records → length inside ≤ length (drop 1 records)
    dropped [] inside less = omega (arith, less)
    dropped (first ∷ later) inside less = omega (arith, less)

pub falling_way : (s : Setting) (registers : ℕ) (body : Block) (records : List Record) (whole : SpellsAll s registers body records) → IsFalling whole.end.way
falling_way s registers body records whole =
    (by_block s FallsOn (kept_falling s) 0 body (at_first registers) records whole.end [] whole.steps (tt, tt)).0
