-- Each statement without a block is spelled by some records where it fits.
use Rattle.std.proofs.Common.{◌≡◌, ◌≢◌, ◌<◌, ◌≤◌, ◌⊎◌, ◌+◌, ◌-◌, ◌^◌, ◌==◌, ◌++◌, ℕ, zero, suc}
use Rattle.std.proofs.Common.{Bool, true, false, List, [], ◌∷◌, ◌↔◌, IsTrue, Option, None, Some, MatchBool, arith, count_by, eq-eqb}
use Rattle.std.proofs.Common.{inl, inr, le_refl, not, refl, replicate, if◌then◌else◌}
use Rattle.std.proofs.lemmas.Bool.{cases_Bool}
use Rattle.std.proofs.lemmas.List.Sums.{sum_by-append}
use Rattle.access_types.specs.Access.{proper_mask}
use Rattle.access_types.specs.declared.history.Bytes.{Bytes}
use Rattle.access_types.specs.declared.history.Happening.{Happening}
use Rattle.access_types.specs.declared.history.Happening.TheVariants as happenings
use Rattle.access_types.specs.declared.history.Mark.{Mark}
use Rattle.access_types.specs.declared.history.Mark.TheVariants as marks
use Rattle.access_types.specs.declared.kind.Claim.TheVariants.{NoAccesses, NoWrites}
use Rattle.access_types.specs.declared.kind.Kind.{Kind}
use Rattle.access_types.specs.declared.kind.Kind.TheVariants as kinds
use Rattle.litmus_semantics.specs.Assignments.{compound_kind, write_kind}
use Rattle.litmus_semantics.specs.Calls.{check_kind, checked_bytes}
use Rattle.litmus_semantics.specs.Expressions.{loading_value, pure_value}
use Rattle.litmus_semantics.specs.Loads.{exchange_kind, fetch_kind, load_in, variable_of}
use Rattle.litmus_semantics.specs.Task as meaning
use Rattle.litmus_semantics.specs.Task.{access_now, begins_at, bytes_in, has_lock}
use Rattle.litmus_semantics.specs.Values.{sign_extended}
use Rattle.litmus_syntax.specs.Limits.{AssignmentTyped, CallTyped, ExpressionTyped, FetchTyped, IsLock, IsOfSort, IsVariable, LoadingTyped, atomics, integers, locks, memory, write_takes}
use Rattle.litmus_syntax.specs.Sites.{assignment_has_access, call_has_access, expression_has_access}
use Rattle.litmus_syntax.specs.Tree.{Assignment, Expression, Fetch, Load, Loading}
use Rattle.litmus_syntax.specs.Tree as tree
use Rattle.litmus_syntax.specs.declared.program.Contents.{Contents}
use Rattle.litmus_syntax.specs.declared.program.Contents.TheVariants.{Atomic, Char, Int, Lock, Long, Short}
use Rattle.litmus_syntax.specs.declared.expression.ReadForm.TheVariants as reads
use Rattle.litmus_syntax.specs.declared.statement.Call.{Call}
use Rattle.litmus_syntax.specs.declared.statement.Call.TheVariants as calls
use Rattle.litmus_syntax.specs.declared.statement.WriteForm.{WriteForm}
use Rattle.litmus_syntax.specs.declared.statement.WriteForm.TheVariants as writes
use Rattle.access_run.specs.declared.memory_operation.effect.Effect.{Effect}
use Rattle.access_run.specs.declared.memory_operation.operation.Change.TheVariants as changes
use Rattle.access_run.specs.declared.memory_operation.operation.Operation.{Operation}
use Rattle.access_run.specs.declared.memory_operation.operation.Operation.TheVariants as operations
use Rattle.setup_access.specs.Check.{Fallen}
use Rattle.setup_access.specs.OwnAccesses.{AreOwn, IsOwn}
use Rattle.setup_access.specs.Parts.{made}
use Rattle.setup_access.specs.Records.{MakesDone}
use Rattle.slot_table.specs.declared.records.Record.{Record}
use Rattle.slot_table.specs.declared.step.Answer.TheVariants as answers
use Rattle.slot_table.specs.declared.step.Step.TheVariants.{LockStore, LockTry}
use Rattle.task_plan.proofs.task_laws.SpelledAccesses.{Made, some_access}
use Rattle.task_plan.proofs.task_laws.Decided.{nothing_told}
use Rattle.task_plan.proofs.task_laws.Parts.{Spelled, set_at, spelled_as}
use Rattle.task_plan.proofs.task_laws.ReadLemmas.{fetch_reads}
use Rattle.task_plan.specs.task_laws.Begins.{one_at, own_begins}
use Rattle.task_plan.specs.task_laws.StandingButWay.{Core, begun_at, standing}
use Rattle.task_plan.specs.task_laws.Fits.{ArePlaced, HasBytes}
use Rattle.task_plan.proofs.KeepsLemmas.{begun_still, marks_other}
use Rattle.program_order.specs.Standing.{EndsNothing, IsLockAt, Point, Setting, Standing, checks_of, coming, counting, doing, is_lock, lock_number, registered}
use Rattle.program_order.specs.WrittenOrder.{ChecksAt, MakesTo, Only, Steps, StepsInDataRace, StepsOfAssignment, StepsOfCall, StepsOfExpression, StepsOfLoad, fetch_operation}

-- after the task has done this
abbrev pub doing_at : Core → List Happening → Core
doing_at at does = record {
  progress = meaning.doing at.progress does;
  unbalanced = at.unbalanced;
  asked = at.asked;
  scopes = at.scopes;
}

integer_no_lock : (contents : Contents) → IsOfSort integers contents → ¬ IsLock contents
integer_no_lock (Char n) is = λ lock. lock
integer_no_lock (Short n) is = λ lock. lock
integer_no_lock (Int n) is = λ lock. lock
integer_no_lock (Long n) is = λ lock. lock
integer_no_lock (Atomic n) is = absurd is
integer_no_lock Lock is = absurd is

atomic_no_lock : (contents : Contents) → IsOfSort atomics contents → ¬ IsLock contents
atomic_no_lock (Char n) is = absurd is
atomic_no_lock (Short n) is = absurd is
atomic_no_lock (Int n) is = absurd is
atomic_no_lock (Long n) is = absurd is
atomic_no_lock (Atomic n) is = λ lock. lock
atomic_no_lock Lock is = absurd is

lock_is : (contents : Contents) → IsLock contents → is_lock contents ≡ true
lock_is (Char n) is = absurd is
lock_is (Short n) is = absurd is
lock_is (Int n) is = absurd is
lock_is (Long n) is = absurd is
lock_is (Atomic n) is = absurd is
lock_is Lock is = refl

module _ (s : Setting) (placed : ArePlaced s) where
  pub integer_bytes : (x : ℕ) → IsVariable s.text.variables integers x → HasBytes s x
  integer_bytes x is = placed.bytes x is.variable is.stands (integer_no_lock is.variable.contents is.of_sort)

  pub atomic_bytes : (x : ℕ) → IsVariable s.text.variables atomics x → HasBytes s x
  atomic_bytes x is = placed.bytes x is.variable is.stands (atomic_no_lock is.variable.contents is.of_sort)

  pub memory_bytes : (x : ℕ) → IsVariable s.text.variables memory x → HasBytes s x
  memory_bytes x is = placed.bytes x is.variable is.stands is.of_sort

  pub lock_at : (x : ℕ) → IsVariable s.text.variables locks x → IsLockAt s x
  lock_at x is = rw is.stands (lock_is is.variable.contents is.of_sort)

  pub fetch_bytes : (registers : ℕ) (fetch : Fetch) → FetchTyped (IsVariable s.text.variables) registers fetch → HasBytes s (variable_of fetch)
  fetch_bytes registers (tree.read reads.Plain x) is = integer_bytes x is
  fetch_bytes registers (tree.read reads.Once x) is = integer_bytes x is
  fetch_bytes registers (tree.read reads.Acquire x) is = integer_bytes x is
  fetch_bytes registers (tree.read reads.Atomic x) is = atomic_bytes x is
  fetch_bytes registers (tree.exchange x e) is = integer_bytes x is.0
  fetch_bytes registers (tree.compare_exchange x e f) is = integer_bytes x is.0

  pub write_bytes : (form : WriteForm) (x : ℕ) → IsVariable s.text.variables (write_takes form) x → HasBytes s x
  write_bytes writes.Plain x is = integer_bytes x is
  write_bytes writes.Once x is = integer_bytes x is
  write_bytes writes.Release x is = integer_bytes x is
  write_bytes writes.Atomic x is = atomic_bytes x is

  pub load_bytes : (registers : ℕ) (e : Loading) → LoadingTyped (IsVariable s.text.variables) registers e → HasBytes s (variable_of (load_in e).fetch)
  load_bytes registers (tree.load l) is = fetch_bytes registers l.fetch is
  load_bytes registers (tree.unary_of op e) is = load_bytes registers e is
  load_bytes registers (tree.left op a b) is = load_bytes registers a is.0
  load_bytes registers (tree.right op a b) is = load_bytes registers b is.1

  -- an access of the task
  pub own_access : (site : ℕ) (progress : meaning.Progress) (bytes : Bytes) (kind : Kind) (mask : Option ℕ) → site < 256
      → count_by (begins_at site) progress.did < 256 → bytes.addr + bytes.size ≤ 2 ^ 63 → (mask ≢ Some 0)
      → IsOwn (checks_of s) (access_now s.text site progress bytes kind mask)
  own_access site progress bytes kind mask below few range proper = record {
    task = refl;
    in_limits = record { task = placed.task; site = below; rep = few; range = range };
    mask = proper;
  }

  pub no_mask : let none : Option ℕ = None in none ≢ Some 0
  no_mask is = cc

  pub in_range : (x : ℕ) → HasBytes s x → (bytes_in s.text x).addr + (bytes_in s.text x).size ≤ 2 ^ 63
  in_range x has = let low = has.low in let few = has.few in omega (arith, low, few)

  -- an access to a variable, with an operation
  pub made_to : (at : Core) (site x : ℕ) (kind : Kind) (operation : Operation) → site < 256 → begun_at site at < 256
      → AreOwn (checks_of s) at.scopes → HasBytes s x
      → Made s at (access_now s.text site at.progress (bytes_in s.text x) kind None) (Some operation)
  made_to at site x kind operation below few own has =
      some_access s at (access_now s.text site at.progress (bytes_in s.text x) kind None) (Some operation)
      (own_access site at.progress (bytes_in s.text x) kind None below few (in_range x has) no_mask)
      has.some own (has.in_cell (access_now s.text site at.progress (bytes_in s.text x) kind None) refl refl)

  -- an access that leaves memory alone
  pub made_at : (at : Core) (site : ℕ) (bytes : Bytes) (kind : Kind) (mask : Option ℕ) → site < 256 → begun_at site at < 256
      → AreOwn (checks_of s) at.scopes → 0 < bytes.size → bytes.addr + bytes.size ≤ 2 ^ 63 → (mask ≢ Some 0)
      → Made s at (access_now s.text site at.progress bytes kind mask) None
  made_at at site bytes kind mask below few own some range proper =
      some_access s at (access_now s.text site at.progress bytes kind mask) None
      (own_access site at.progress bytes kind mask below few range proper) some own tt

  pub few_at : (site : ℕ) (at : Core) → ((k : ℕ) → begun_at k at + one_at site k ≤ 256) → begun_at site at < 256
  few_at site at room =
      let all : begun_at site at + one_at site site ≤ 256 = room site in
      let one : one_at site site ≡ 1 = rw (eq-eqb site site refl) refl in
      omega (arith, all, one)

  -- a load, and the value that it gives
  pub load_spelled : (at : Core) (site : ℕ) (load : Load) → site < 256 → begun_at site at < 256 → AreOwn (checks_of s) at.scopes
      → HasBytes s (variable_of load.fetch)
      → (loaded : ℕ) × Spelled (λ before records after rest. StepsOfLoad s site load before records loaded after rest) at (one_at site)
  load_spelled at site load below few own has =
      let off : List Happening = replicate load.data_races (happenings.Mark marks.Disable) in
      let on : List Happening = replicate load.data_races (happenings.Mark marks.Enable) in
      let begun_off : (k : ℕ) → begun_at k (doing_at at off) ≡ begun_at k at =
      λ k. begun_still k at.progress.did off (marks_other load.data_races marks.Disable) in
      let operation : Operation = fetch_operation at.progress.registers load.fetch in
      let few_off : begun_at site (doing_at at off) < 256 = (let same = begun_off site in omega (arith, same, few)) in
      let made : Made s (doing_at at off) (access_now s.text site (doing_at at off).progress (bytes_in s.text (variable_of load.fetch)) (fetch_kind load.fetch) None) (Some operation) =
      made_to (doing_at at off) site (variable_of load.fetch) (fetch_kind load.fetch) operation below few_off own has in
      let old = made.reads (fetch_reads at.progress.registers load.fetch) in (
        sign_extended (bytes_in s.text (variable_of load.fetch)).size old.0,
        record {
          after = doing_at made.after on;
          records = made.records;
          spells = λ way outcomes rest.
              let first : Standing = doing (standing at way outcomes) (made.records ++ rest) off in
              let one = made.spells first.way outcomes rest in
              let between : Standing = standing made.after one.0 one.1 in
              ((doing between rest on).way, one.1, (old.0, made.effect, between, one.2, old.1, refl, refl));
          counts = λ k.
              let first = begun_off k in
              let more = made.counts k in
              let last : begun_at k (doing_at made.after on) ≡ begun_at k made.after =
              begun_still k made.after.progress.did on (marks_other load.data_races marks.Enable) in
              omega (arith, first, more, last);
          scopes = made.scopes;
        },
      )

  -- an expression, and its value
  pub expression_spelled : (registers : ℕ) (at : Core) (site : ℕ) (e : Expression) → ExpressionTyped (IsVariable s.text.variables) registers e
      → (expression_has_access e ≡ true → site < 256) → ((k : ℕ) → begun_at k at + own_begins (expression_has_access e) site k ≤ 256)
      → AreOwn (checks_of s) at.scopes
      → (value : ℕ) × Spelled (λ before records after rest. StepsOfExpression s site e before records value after rest) at (own_begins (expression_has_access e) site)
  expression_spelled registers at site (tree.pure e) typed below room own = (
    pure_value at.progress.registers e,
    record {
      after = at;
      records = [];
      spells = λ way outcomes rest. (way, outcomes, (refl, refl, refl));
      counts = λ k. omega arith;
      scopes = refl;
    },
  )
  expression_spelled registers at site (tree.loading e) typed below room own =
      let few : begun_at site at < 256 = few_at site at room in
      let load = load_spelled at site (load_in e) (below refl) few own (load_bytes registers e typed) in (
        loading_value at.progress.registers load.0 e,
        record {
          after = load.1.after;
          records = load.1.records;
          spells = λ way outcomes rest. let one = load.1.spells way outcomes rest in (one.0, one.1, (load.0, one.2, refl));
          counts = load.1.counts;
          scopes = load.1.scopes;
        },
      )

  -- an access to a variable, by an assignment
  change_spelled : (at : Core) (site x : ℕ) (kind : Kind) (operation : Operation) → site < 256 → ((k : ℕ) → begun_at k at + one_at site k ≤ 256)
      → AreOwn (checks_of s) at.scopes → HasBytes s x
      → Spelled (λ before records after rest. (effect : Effect) × MakesTo s site x kind operation before records effect after rest) at (one_at site)
  change_spelled at site x kind operation below room own has =
      let made = made_to at site x kind operation below (few_at site at room) own has in
      record {
        after = made.after;
        records = made.records;
        spells = λ way outcomes rest. let one = made.spells way outcomes rest in (one.0, one.1, (made.effect, one.2));
        counts = λ k. let more = made.counts k in omega (arith, more);
        scopes = made.scopes;
      }

  abbrev MakesChange : ℕ → ℕ → Kind → Operation → Steps
  MakesChange site x kind operation before records after rest = (effect : Effect) × MakesTo s site x kind operation before records effect after rest

  assignment_spelled : (registers : ℕ) (at : Core) (site : ℕ) (a : Assignment) → AssignmentTyped (IsVariable s.text.variables) registers a
      → (assignment_has_access a ≡ true → site < 256) → ((k : ℕ) → begun_at k at + own_begins (assignment_has_access a) site k ≤ 256)
      → AreOwn (checks_of s) at.scopes → Spelled (λ before records after rest. StepsOfAssignment s site a before records after rest) at (own_begins (assignment_has_access a) site)
  assignment_spelled registers at site (tree.to_register r e) typed below room own =
      let own_value = expression_spelled registers at site e typed.1 below room own in
      let spelled = own_value.1 in
      record {
        after = set_at spelled.after r own_value.0;
        records = spelled.records;
        spells = λ way outcomes rest.
            let one = spelled.spells way outcomes rest in
            let between : Standing = standing spelled.after one.0 one.1 in
            ((registered between rest r own_value.0).way, one.1, (own_value.0, between, one.2, refl));
        counts = spelled.counts;
        scopes = spelled.scopes;
      }
  assignment_spelled registers at site (tree.write form x e) typed below room own =
      let operation = operations.Change (changes.Write (pure_value at.progress.registers e)) in
      spelled_as (MakesChange site x (write_kind form) operation) (StepsOfAssignment s site (tree.write form x e)) at (one_at site) (one_at site)
      (change_spelled at site x (write_kind form) operation (below refl) room own (write_bytes form x typed.0))
      (λ k. le_refl (one_at site k)) (λ way outcomes records after rest h. h)
  assignment_spelled registers at site (tree.add x e) typed below room own =
      let operation = operations.Add (pure_value at.progress.registers e) in
      spelled_as (MakesChange site x compound_kind operation) (StepsOfAssignment s site (tree.add x e)) at (one_at site) (one_at site)
      (change_spelled at site x compound_kind operation (below refl) room own (integer_bytes x typed.0))
      (λ k. le_refl (one_at site k)) (λ way outcomes records after rest h. h)
  assignment_spelled registers at site (tree.increment x) typed below room own =
      let operation = operations.Add 1 in
      spelled_as (MakesChange site x compound_kind operation) (StepsOfAssignment s site (tree.increment x)) at (one_at site) (one_at site)
      (change_spelled at site x compound_kind operation (below refl) room own (integer_bytes x typed))
      (λ k. le_refl (one_at site k)) (λ way outcomes records after rest h. h)
  assignment_spelled registers at site (tree.atomic_add e x) typed below room own =
      let operation = operations.Change (changes.AtomicAdd (pure_value at.progress.registers e)) in
      spelled_as (MakesChange site x exchange_kind operation) (StepsOfAssignment s site (tree.atomic_add e x)) at (one_at site) (one_at site)
      (change_spelled at site x exchange_kind operation (below refl) room own (atomic_bytes x typed.1))
      (λ k. le_refl (one_at site k)) (λ way outcomes records after rest h. h)
  assignment_spelled registers at site (tree.atomic_increment x) typed below room own =
      let operation = operations.Change (changes.AtomicAdd 1) in
      spelled_as (MakesChange site x exchange_kind operation) (StepsOfAssignment s site (tree.atomic_increment x)) at (one_at site) (one_at site)
      (change_spelled at site x exchange_kind operation (below refl) room own (atomic_bytes x typed))
      (λ k. le_refl (one_at site k)) (λ way outcomes records after rest h. h)
  assignment_spelled registers at site (tree.atomic_decrement x) typed below room own =
      let operation = operations.Change (changes.AtomicAdd (2 ^ 64 - 1)) in
      spelled_as (MakesChange site x exchange_kind operation) (StepsOfAssignment s site (tree.atomic_decrement x)) at (one_at site) (one_at site)
      (change_spelled at site x exchange_kind operation (below refl) room own (atomic_bytes x typed))
      (λ k. le_refl (one_at site k)) (λ way outcomes records after rest h. h)

  -- the same inside data_race( ) or not
  pub assign_spelled : (registers : ℕ) (at : Core) (site : ℕ) (data_race : Bool) (a : Assignment) → AssignmentTyped (IsVariable s.text.variables) registers a
      → (assignment_has_access a ≡ true → site < 256) → ((k : ℕ) → begun_at k at + own_begins (assignment_has_access a) site k ≤ 256)
      → AreOwn (checks_of s) at.scopes
      → Spelled (λ before records after rest. StepsInDataRace s site data_race a before records after rest) at (own_begins (assignment_has_access a) site)
  assign_spelled registers at site data_race a typed below room own =
      let count = if data_race then 1 else 0 in
      let off : List Happening = replicate count (happenings.Mark marks.Disable) in
      let on : List Happening = replicate count (happenings.Mark marks.Enable) in
      let begun_off : (k : ℕ) → begun_at k (doing_at at off) ≡ begun_at k at =
      λ k. begun_still k at.progress.did off (marks_other count marks.Disable) in
      let spelled = assignment_spelled registers (doing_at at off) site a typed below
      (λ k. let same = begun_off k in let all = room k in omega (arith, same, all)) own in
      record {
        after = doing_at spelled.after on;
        records = spelled.records;
        spells = λ way outcomes rest.
            let first : Standing = doing (standing at way outcomes) (spelled.records ++ rest) off in
            let one = spelled.spells first.way outcomes rest in
            let between : Standing = standing spelled.after one.0 one.1 in
            ((doing between rest on).way, one.1, (between, one.2, refl));
        counts = λ k.
            let first = begun_off k in
            let more = spelled.counts k in
            let last : begun_at k (doing_at spelled.after on) ≡ begun_at k spelled.after =
            begun_still k spelled.after.progress.did on (marks_other count marks.Enable) in
            omega (arith, first, more, last);
        scopes = spelled.scopes;
      }

  -- a call that makes no step
  still : (at after : Core) (most : ℕ → ℕ) (P : Steps)
      → ((way : List Point) (outcomes : List Fallen) (rest : List Record) → (farther : List Point) × (more : List Fallen)
      × P (standing at way outcomes) rest (standing after farther more) rest)
      → ((k : ℕ) → begun_at k after ≤ begun_at k at + most k) → after.scopes ≡ at.scopes → Spelled P at most
  still at after most P spells counts scopes = record { after = after; records = []; spells = spells; counts = counts; scopes = scopes }

  -- one thing is done that begins no access
  pub begun_same : (at : Core) (does : List Happening) (k : ℕ) → count_by (begins_at k) does ≡ 0 → begun_at k (doing_at at does) ≡ begun_at k at
  begun_same at does k none =
      let parts : begun_at k (doing_at at does) ≡ begun_at k at + count_by (begins_at k) does =
      sum_by-append (λ (h : Happening). if begins_at k h then 1 else 0) at.progress.did does in
      omega (arith, parts, none)

  marked_spelled : (at : Core) (m : Mark) (told : Bool)
      → Spelled (λ before records after rest. Only (doing (counting told before) records (happenings.Mark m ∷ [])) records after rest) at (λ k. 0)
  marked_spelled at m true =
      still at (doing_at (record at { unbalanced = at.unbalanced + 1 }) (happenings.Mark m ∷ [])) (λ k. 0) _
      (λ way outcomes rest. ((doing (counting true (standing at way outcomes)) rest (happenings.Mark m ∷ [])).way, outcomes, (refl, refl)))
      (λ k. let same = begun_same at (happenings.Mark m ∷ []) k refl in omega (arith, same)) refl
  marked_spelled at m false =
      still at (doing_at at (happenings.Mark m ∷ [])) (λ k. 0) _
      (λ way outcomes rest. ((doing (standing at way outcomes) rest (happenings.Mark m ∷ [])).way, outcomes, (refl, refl)))
      (λ k. let same = begun_same at (happenings.Mark m ∷ []) k refl in omega (arith, same)) refl

  -- an access that leaves memory alone
  checks_spelled : (at : Core) (site : ℕ) (bytes : Bytes) (kind : Kind) (mask : Option ℕ) → site < 256 → ((k : ℕ) → begun_at k at + one_at site k ≤ 256)
      → AreOwn (checks_of s) at.scopes → 0 < bytes.size → bytes.addr + bytes.size ≤ 2 ^ 63 → (mask ≢ Some 0)
      → Spelled (λ before records after rest. ChecksAt s site bytes kind mask before records after rest) at (one_at site)
  checks_spelled at site bytes kind mask below room own some range proper =
      let made = made_at at site bytes kind mask below (few_at site at room) own some range proper in
      record {
        after = made.after;
        records = made.records;
        spells = λ way outcomes rest. let one = made.spells way outcomes rest in (one.0, one.1, (made.effect, one.2));
        counts = λ k. let more = made.counts k in omega (arith, more);
        scopes = made.scopes;
      }

  abbrev ChecksOrNot : Bool → ℕ → Bytes → Kind → Steps
  ChecksOrNot none site bytes kind before records after rest =
      MatchBool none (Only before records after rest) (ChecksAt s site bytes kind None before records after rest)

  check_spelled : (none : Bool) (at : Core) (site : ℕ) (bytes : Bytes) (kind : Kind) → (not none ≡ true → site < 256)
      → ((k : ℕ) → begun_at k at + own_begins (not none) site k ≤ 256) → AreOwn (checks_of s) at.scopes → (none ≡ false → 0 < bytes.size)
      → bytes.addr + bytes.size ≤ 2 ^ 63
      → Spelled (λ before records after rest. ChecksOrNot none site bytes kind before records after rest) at (own_begins (not none) site)
  check_spelled true at site bytes kind below room own some range =
      still at at (λ k. 0) _ (λ way outcomes rest. (way, outcomes, (refl, refl))) (λ k. omega arith) refl
  check_spelled false at site bytes kind below room own some range =
      checks_spelled at site bytes kind None (below refl) room own (some refl) range no_mask

  abbrev Unlocks : Bool → ℕ → Steps
  Unlocks held l before records after rest =
      MatchBool held
      (MakesDone s.text.task (LockStore (lock_number s l)) (λ later. rest ≡ later) records
      × (after ≡ doing before rest (happenings.Unlock l ∷ [])))
      (Only (coming (counting true before) records before.progress) records after rest)

  unlock_spelled : (held : Bool) (at : Core) (l : ℕ) → Spelled (λ before records after rest. Unlocks held l before records after rest) at (λ k. 0)
  unlock_spelled true at l = record {
    after = doing_at at (happenings.Unlock l ∷ []);
    records = made s.text.task (LockStore (lock_number s l)) answers.Done ∷ [];
    spells = λ way outcomes rest.
        ((doing (standing at way outcomes) rest (happenings.Unlock l ∷ [])).way, outcomes, ((refl, refl, (refl, refl)), refl));
    counts = λ k. let same = begun_same at (happenings.Unlock l ∷ []) k refl in omega (arith, same);
    scopes = refl;
  }
  unlock_spelled false at l =
      still at (record at { unbalanced = at.unbalanced + 1 }) (λ k. 0) _
      (λ way outcomes rest. ((coming (counting true (standing at way outcomes)) rest at.progress).way, outcomes, (refl, refl)))
      (λ k. omega arith) refl

  pub proper : (mask : ℕ) → proper_mask (Some mask) ≢ Some 0
  proper mask = by (cases_Bool (mask == 0))
    where
      by : ((mask == 0) ≡ true) ⊎ ((mask == 0) ≡ false) → proper_mask (Some mask) ≢ Some 0
      by (inl zero_mask) = rw zero_mask (λ is. cc)
      by (inr other) = rw other (λ is. absurd (let same : mask ≡ 0 = cc in let tells : (mask == 0) ≡ true = eq-eqb mask 0 same in cc))

  pub above_zero : (size : ℕ) → (size == 0) ≡ false → 0 < size
  above_zero zero some = cc
  above_zero (suc size) some = omega arith

  -- that a mark ends nothing hangs on what the task did alone
  nothing_same : (at : Core) (way : List Point) (outcomes : List Fallen) (m : Mark) (told : Bool) → (IsTrue told ↔ EndsNothing s (standing at [] []) m)
      → (IsTrue told ↔ EndsNothing s (standing at way outcomes) m)
  nothing_same at way outcomes marks.Disable told is = is
  nothing_same at way outcomes marks.Enable told is = is
  nothing_same at way outcomes marks.NestOpen told is = is
  nothing_same at way outcomes marks.NestClose told is = is
  nothing_same at way outcomes marks.FlatBegin told is = is
  nothing_same at way outcomes marks.FlatEnd told is = is
  nothing_same at way outcomes (marks.Next count) told is = is

  pub call_spelled : (registers : ℕ) (at : Core) (site : ℕ) (c : Call) → CallTyped (IsVariable s.text.variables) registers c
      → (call_has_access c ≡ true → site < 256) → ((k : ℕ) → begun_at k at + own_begins (call_has_access c) site k ≤ 256)
      → AreOwn (checks_of s) at.scopes → Spelled (λ before records after rest. StepsOfCall s site c before records after rest) at (own_begins (call_has_access c) site)
  call_spelled registers at site (calls.Barrier b) typed below room own =
      still at at (λ k. 0) _ (λ way outcomes rest. (way, outcomes, (refl, refl))) (λ k. omega arith) refl
  call_spelled registers at site (calls.Lock l) typed below room own = record {
    after = doing_at at (happenings.Lock l ∷ []);
    records = made s.text.task (LockTry (lock_number s l) s.text.task) (answers.Flag true) ∷ [];
    spells = λ way outcomes rest.
        ((doing (standing at way outcomes) rest (happenings.Lock l ∷ [])).way, outcomes, (lock_at l typed, (refl, refl, refl), refl));
    counts = λ k. let same = begun_same at (happenings.Lock l ∷ []) k refl in omega (arith, same);
    scopes = refl;
  }
  call_spelled registers at site (calls.Unlock l) typed below room own =
      spelled_as (Unlocks (has_lock l at.progress.did) l) (StepsOfCall s site (calls.Unlock l)) at (λ k. 0) (λ k. 0)
      (unlock_spelled (has_lock l at.progress.did) at l) (λ k. le_refl 0) (λ way outcomes records after rest h. h)
  call_spelled registers at site (calls.AssertWriter x scoped) typed below room own =
      let has = memory_bytes x typed in
      checks_spelled at site (bytes_in s.text x) (kinds.Assert NoWrites) None (below refl) room own has.some (in_range x has) no_mask
  call_spelled registers at site (calls.AssertAccess x scoped) typed below room own =
      let has = memory_bytes x typed in
      checks_spelled at site (bytes_in s.text x) (kinds.Assert NoAccesses) None (below refl) room own has.some (in_range x has) no_mask
  call_spelled registers at site (calls.AssertBits x mask) typed below room own =
      let has = memory_bytes x typed in
      let spelled = checks_spelled at site (bytes_in s.text x) (kinds.Assert NoWrites) (proper_mask (Some mask)) (below refl) room own has.some (in_range x has) (proper mask) in
      record {
        after = doing_at spelled.after (happenings.Mark (marks.Next 1) ∷ []);
        records = spelled.records;
        spells = λ way outcomes rest.
            let one = spelled.spells way outcomes rest in
            let between : Standing = standing spelled.after one.0 one.1 in
            ((doing between rest (happenings.Mark (marks.Next 1) ∷ [])).way, one.1, (between, one.2, refl));
        counts = λ k.
            let more = spelled.counts k in
            let same = begun_same spelled.after (happenings.Mark (marks.Next 1) ∷ []) k refl in
            omega (arith, more, same);
        scopes = spelled.scopes;
      }
  call_spelled registers at site (calls.Mark m) typed below room own =
      let told = nothing_told s (standing at [] []) m in
      let spelled = marked_spelled at m told.0 in
      record {
        after = spelled.after;
        records = spelled.records;
        spells = λ way outcomes rest. let one = spelled.spells way outcomes rest in (one.0, one.1, (told.0, nothing_same at way outcomes m told.0 told.1, one.2));
        counts = spelled.counts;
        scopes = spelled.scopes;
      }
  call_spelled registers at site (calls.Check is_write x size) typed below room own =
      let has = memory_bytes x typed.0 in
      let low = has.low in
      let few : size ≤ 1048576 = typed.1 in
      check_spelled (size == 0) at site (checked_bytes s.text x size) (check_kind is_write) below room own
      (λ some. above_zero size some) (omega (arith, low, few))
