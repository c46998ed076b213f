-- The order in which a task makes its steps, by cases over its text. Answers are free in it: what
-- they are is a matter of the words that the steps are made on.
use Rattle.std.specs.Prelude.{◌≡◌, ◌↔◌, ◌++◌, ◌+◌, ◌-◌, ◌^◌, ◌==◌, ℕ, zero, suc, Bool, List, [], ◌∷◌, IsTrue, Option, None, Some, MatchBool, drop, length, replicate, true, if◌then◌else◌}
use Rattle.access_types.specs.Access as access
use Rattle.access_types.specs.Access.{proper_mask}
use Rattle.access_types.specs.declared.history.Bytes.{Bytes}
use Rattle.access_types.specs.declared.history.Happening.{Happening}
use Rattle.access_types.specs.declared.history.Happening.TheVariants as happenings
use Rattle.access_types.specs.declared.history.Mark.{Mark}
use Rattle.access_types.specs.declared.history.Mark.TheVariants as marks
use Rattle.access_types.specs.declared.kind.Claim.TheVariants.{NoAccesses, NoWrites}
use Rattle.access_types.specs.declared.kind.Kind.{Kind}
use Rattle.access_types.specs.declared.kind.Kind.TheVariants as kinds
use Rattle.litmus_syntax.specs.Sites.{accesses_of, sites_of}
use Rattle.litmus_syntax.specs.Tree.{Assignment, Block, Expression, Fetch, Load, Statement}
use Rattle.litmus_syntax.specs.Tree as tree
use Rattle.litmus_syntax.specs.declared.statement.Call.{Call}
use Rattle.litmus_syntax.specs.declared.statement.Call.TheVariants as calls
use Rattle.litmus_semantics.specs.Assignments.{compound_kind, write_kind}
use Rattle.litmus_semantics.specs.Calls.{Scoped, check_kind, checked_bytes, scoped_access, scoped_assertion}
use Rattle.litmus_semantics.specs.Expressions.{loading_value, pure_value}
use Rattle.litmus_semantics.specs.Loads.{exchange_kind, fetch_kind, load_in, variable_of}
use Rattle.litmus_semantics.specs.Meaning.{Chooses, after_condition}
use Rattle.litmus_semantics.specs.Task.{access_now, bytes_in, has_lock}
use Rattle.litmus_semantics.specs.Values.{sign_extended}
use Rattle.access_run.specs.memory_operation.Locks.{TakesLock}
use Rattle.access_run.specs.declared.memory_operation.effect.Effect.{Effect}
use Rattle.access_run.specs.declared.memory_operation.operation.Change.TheVariants as changes
use Rattle.access_run.specs.declared.memory_operation.operation.Operation.{Operation}
use Rattle.access_run.specs.declared.memory_operation.operation.Operation.TheVariants as operations
use Rattle.setup_access.specs.Check.{Check, Close, Passes}
use Rattle.setup_access.specs.Records.{MakesDone}
use Rattle.setup_access.specs.declared.begun.Begun.{Begun}
use Rattle.slot_table.specs.declared.records.Record.{Record}
use Rattle.slot_table.specs.declared.step.Step.TheVariants.{LockStore}
use Rattle.program_order.specs.Access.{Makes}
use Rattle.program_order.specs.Standing.{BeginsNow, EndsNothing, IsDisabled, IsLockAt, Point, Setting, Standing, checks_of, coming, counting, doing, lock_number, point_by, registered}

-- what the records from here on are, up to those that are left, of a part of a text
abbrev pub Steps : Type 1
Steps = Standing → List Record → Standing → List Record → Type 0

-- the records begin with an access to a variable
abbrev pub MakesTo : Setting → ℕ → ℕ → Kind → Operation → Standing → List Record → Effect
    → Standing → List Record → Type 0
MakesTo s site x kind operation before records effect after rest =
    Makes s before (access_now s.text site before.progress (bytes_in s.text x) kind None)
    (Some operation) records effect after rest

-- the operation of a load
abbrev pub fetch_operation : List ℕ → Fetch → Operation
fetch_operation registers (tree.read form x) = operations.Load
fetch_operation registers (tree.exchange x e) =
    operations.Change (changes.Exchange (pure_value registers e))
fetch_operation registers (tree.compare_exchange x e f) =
    operations.Change (changes.CompareExchange (pure_value registers e) (pure_value registers f))

-- data_race( ) makes no step
abbrev pub marked_so_often : ℕ → Happening → Standing → List Record → Standing
marked_so_often count mark before later = doing before later (replicate count mark)

-- the records begin with a load, which gives this value
abbrev pub StepsOfLoad : Setting → ℕ → Load → Standing → List Record → ℕ → Standing → List Record
    → Type 0
StepsOfLoad s site load before records loaded after rest =
    let x = variable_of load.fetch in
    (old : ℕ) × (effect : Effect) × (between : Standing)
    × MakesTo s site x (fetch_kind load.fetch)
    (fetch_operation before.progress.registers load.fetch)
    (marked_so_often load.data_races (happenings.Mark marks.Disable) before records) records
    effect between rest
    × (effect.read ≡ Some old)
    × (loaded ≡ sign_extended (bytes_in s.text x).size old)
    × (after ≡ marked_so_often load.data_races (happenings.Mark marks.Enable) between rest)

-- the records begin with the load of an expression, if it has one; then its value is this
abbrev pub StepsOfExpression : Setting → ℕ → Expression → Standing → List Record → ℕ → Standing
    → List Record → Type 0
StepsOfExpression s site (tree.pure e) before records value after rest =
    (value ≡ pure_value before.progress.registers e) × (after ≡ before) × (rest ≡ records)
StepsOfExpression s site (tree.loading e) before records value after rest =
    (loaded : ℕ) × StepsOfLoad s site (load_in e) before records loaded after rest
    × (value ≡ loading_value before.progress.registers loaded e)

-- the records begin with an assignment
abbrev pub StepsOfAssignment : Setting → ℕ → Assignment → Standing → List Record → Standing
    → List Record → Type 0
StepsOfAssignment s site (tree.to_register r e) before records after rest =
    (value : ℕ) × (between : Standing)
    × StepsOfExpression s site e before records value between rest
    × (after ≡ registered between rest r value)
StepsOfAssignment s site (tree.write form x e) before records after rest =
    (effect : Effect) × MakesTo s site x (write_kind form)
    (operations.Change (changes.Write (pure_value before.progress.registers e)))
    before records effect after rest
StepsOfAssignment s site (tree.add x e) before records after rest =
    (effect : Effect) × MakesTo s site x compound_kind
    (operations.Add (pure_value before.progress.registers e)) before records effect after rest
StepsOfAssignment s site (tree.increment x) before records after rest =
    (effect : Effect) × MakesTo s site x compound_kind (operations.Add 1)
    before records effect after rest
StepsOfAssignment s site (tree.atomic_add e x) before records after rest =
    (effect : Effect) × MakesTo s site x exchange_kind
    (operations.Change (changes.AtomicAdd (pure_value before.progress.registers e)))
    before records effect after rest
StepsOfAssignment s site (tree.atomic_increment x) before records after rest =
    (effect : Effect) × MakesTo s site x exchange_kind
    (operations.Change (changes.AtomicAdd 1)) before records effect after rest
-- to take 1 away is to add the number of 64 bits that is -1
StepsOfAssignment s site (tree.atomic_decrement x) before records after rest =
    (effect : Effect) × MakesTo s site x exchange_kind
    (operations.Change (changes.AtomicAdd (2 ^ 64 - 1))) before records effect after rest

-- the same inside data_race( ) or not
abbrev pub StepsInDataRace : Setting → ℕ → Bool → Assignment → Standing → List Record → Standing
    → List Record → Type 0
StepsInDataRace s site data_race assignment before records after rest =
    let count = if data_race then 1 else 0 in
    (between : Standing)
    × StepsOfAssignment s site assignment
    (marked_so_often count (happenings.Mark marks.Disable) before records) records between rest
    × (after ≡ marked_so_often count (happenings.Mark marks.Enable) between rest)

-- a call that makes no step comes to this
abbrev pub Only : Standing → List Record → Standing → List Record → Type 0
Only comes_to records after rest = (after ≡ comes_to) × (rest ≡ records)

-- the task makes a mark, which makes no step: one that has nothing to end is counted
abbrev pub MakesMark : Setting → Mark → Standing → List Record → Standing → List Record → Type 0
MakesMark s m before records after rest =
    (ends_nothing : Bool) × (IsTrue ends_nothing ↔ EndsNothing s before m)
    × Only (doing (counting ends_nothing before) records (happenings.Mark m ∷ [])) records after rest

-- the records begin with an access that leaves memory alone, to these bytes
abbrev pub ChecksAt : Setting → ℕ → Bytes → Kind → Option ℕ → Standing → List Record → Standing
    → List Record → Type 0
ChecksAt s site bytes kind mask before records after rest =
    (effect : Effect) × Makes s before (access_now s.text site before.progress bytes kind mask)
    None records effect after rest

-- the records begin with a call that gives no value; a scoped assertion is its block's
abbrev pub StepsOfCall : Setting → ℕ → Call → Standing → List Record → Standing → List Record
    → Type 0
StepsOfCall s site (calls.Barrier b) before records after rest = Only before records after rest
StepsOfCall s site (calls.Lock l) before records after rest =
    IsLockAt s l × TakesLock s.text.task (lock_number s l) records rest
    × (after ≡ doing before rest (happenings.Lock l ∷ []))
-- a task that hasn't the lock makes no step, and its call is counted
StepsOfCall s site (calls.Unlock l) before records after rest =
    MatchBool (has_lock l before.progress.did)
    (MakesDone s.text.task (LockStore (lock_number s l)) (λ later. rest ≡ later) records
    × (after ≡ doing before rest (happenings.Unlock l ∷ [])))
    (Only (coming (counting true before) records before.progress) records after rest)
StepsOfCall s site (calls.AssertWriter x scoped) before records after rest =
    ChecksAt s site (bytes_in s.text x) (kinds.Assert NoWrites) None before records after rest
StepsOfCall s site (calls.AssertAccess x scoped) before records after rest =
    ChecksAt s site (bytes_in s.text x) (kinds.Assert NoAccesses) None before records after rest
StepsOfCall s site (calls.AssertBits x mask) before records after rest =
    (between : Standing)
    × ChecksAt s site (bytes_in s.text x) (kinds.Assert NoWrites) (proper_mask (Some mask))
    before records between rest
    × (after ≡ doing between rest (happenings.Mark (marks.Next 1) ∷ []))
StepsOfCall s site (calls.Mark m) before records after rest =
    MakesMark s m before records after rest
StepsOfCall s site (calls.Check is_write x size) before records after rest =
    MatchBool (size == 0)
    (Only before records after rest)
    (ChecksAt s site (checked_bytes s.text x size) (check_kind is_write) None
    before records after rest)

-- the records begin with the check of a scoped assertion, which is in force from then on
pub record OpensScope (s : Setting) (before : Standing) (a : access.Access)
    (records : List Record) (begun : Begun) (after : Standing) (rest : List Record) :
    Type 0 where
  pub passes : Passes
  pub begins : BeginsNow s before a begun
  pub check : Check (checks_of s) before.scopes begun before.asked records passes rest
  pub comes_to : after ≡ record (doing before (drop 1 records) (happenings.Begin a ∷ [])) {
    asked = passes.asked;
    scopes = before.scopes ++ begun ∷ [];
    outcomes = before.outcomes ++ passes.outcomes;
  }

-- the records begin with the close of a scoped assertion: these were in force before its statement
pub record ClosesScope (s : Setting) (before : Standing) (begun : Begun) (scopes : List Begun)
    (records : List Record) (after : Standing) (rest : List Record) : Type 0 where
  pub passes : Passes
  pub silenced : Bool
  pub is_silenced : IsTrue silenced ↔ IsDisabled s before
  pub close : Close (checks_of s) begun silenced before.asked records passes rest
  pub comes_to : after ≡ record (doing before rest (happenings.End begun.access ∷ [])) {
    asked = passes.asked;
    scopes = scopes;
    outcomes = before.outcomes ++ passes.outcomes;
  }

-- the steps of a statement and of those after it in its block, where these are theirs
abbrev pub StepsInBlock : Setting → ℕ → Option Scoped → Steps → Steps → Steps
StepsInBlock s site None Own Later before records after rest =
    (between : Standing) × (later : List Record)
    × Own before records between later × Later between later after rest
StepsInBlock s site (Some scoped) Own Later before records after rest =
    let a = scoped_access s.text site before.progress scoped in
    (begun : Begun) × (opened closing : Standing) × (inside later : List Record)
    × OpensScope s before a records begun opened inside
    × Later opened inside closing later
    × ClosesScope s closing begun before.scopes later after rest

-- the steps of the turns of a loop, from one on, of which so many are left
abbrev pub StepsOfTurns : Steps → ℕ → ℕ → ℕ → Steps
StepsOfTurns Body r turn zero before records after rest =
    (after ≡ registered before records r turn) × (rest ≡ records)
StepsOfTurns Body r turn (suc left) before records after rest =
    (between : Standing) × (later : List Record)
    × Body (registered before records r turn) records between later
    × StepsOfTurns Body r (suc turn) left between later after rest

abbrev mutual
  -- the records begin with the steps of a statement whose first site is this one
  pub StepsOf : Setting → ℕ → Statement → Steps
  StepsOf s site (tree.load_only l) before records after rest =
      (loaded : ℕ) × StepsOfLoad s site l before records loaded after rest
  StepsOf s site (tree.assign data_race a) before records after rest =
      StepsInDataRace s site data_race a before records after rest
  StepsOf s site (tree.call c) before records after rest =
      StepsOfCall s site c before records after rest
  StepsOf s site (tree.if_block e body) before records after rest =
      (value : ℕ) × (between : Standing) × (later : List Record)
      × StepsOfExpression s site e before records value between later
      × Chooses value
      (StepsOfBlock s (after_condition site e) body between later after rest)
      ((after ≡ between) × (rest ≡ later))
  StepsOf s site (tree.if_else e body otherwise) before records after rest =
      (value : ℕ) × (between : Standing) × (later : List Record)
      × StepsOfExpression s site e before records value between later
      × Chooses value
      (StepsOfBlock s (after_condition site e) body between later after rest)
      (StepsOfBlock s (after_condition site e + length (sites_of body)) otherwise
      between later after rest)
  StepsOf s site (tree.for_turns r turns body) before records after rest =
      StepsOfTurns (λ b records a rest. StepsOfBlock s site body b records a rest) r 0 turns
      before records after rest

  -- the records begin with the steps of a block: of its statements, one after the other
  pub StepsOfBlock : Setting → ℕ → Block → Steps
  StepsOfBlock s site tree.empty before records after rest = (after ≡ before) × (rest ≡ records)
  StepsOfBlock s site (tree.first statement later) before records after rest =
      StepsInBlock s site (scoped_assertion statement)
      (λ b records a rest. StepsOf s site statement b records a rest)
      (λ b records a rest.
      StepsOfBlock s (site + length (accesses_of statement)) later b records a rest)
      before records after rest

-- a task at its beginning, with so many registers
abbrev pub at_first : ℕ → Standing
at_first registers = record {
  progress = record { did = []; registers = replicate registers 0 };
  unbalanced = 0;
  way = [];
  asked = 0;
  scopes = [];
  outcomes = [];
}

-- the records, the oldest first, spell the whole text of a task with so many registers
pub record SpellsAll (s : Setting) (registers : ℕ) (body : Block) (records : List Record) :
    Type 0 where
  pub end : Standing
  pub steps : StepsOfBlock s 0 body (at_first registers) records end []

-- the records are in the written order: some more complete them
pub record WrittenOrder (s : Setting) (registers : ℕ) (body : Block) (records : List Record) :
    Type 0 where
  pub more : List Record
  pub whole : SpellsAll s registers body (records ++ more)

-- a task before its first step
abbrev pub first_point : ℕ → ℕ → Point
first_point to_come registers = record {
  to_come = to_come;
  progress = (at_first registers).progress;
  unbalanced = 0;
}

-- where a task stands after these records of it: what it did, its registers, and how many of its
-- calls had nothing to end
abbrev pub stands_after : {s : Setting} {registers : ℕ} {body : Block} {records : List Record}
    → WrittenOrder s registers body records → Point
stands_after {registers = registers} {records = records} written =
    point_by (length written.more)
    (first_point (length (records ++ written.more)) registers)
    written.whole.end.way
