-- What each part of a text keeps, the whole text keeps; a scoped assertion is known to be one.
use Rattle.std.proofs.Common.{◌≡◌, ◌+◌, ℕ, zero, suc, Bool, true, false, List, [], ◌∷◌, IsTrue, Option, None, Some, MatchBool, inl, inr, length, replicate, refl, subst, sym, if◌then◌else◌}
use Rattle.access_types.specs.Access as access
use Rattle.access_types.specs.declared.history.Bytes.{Bytes}
use Rattle.access_types.specs.declared.history.Happening.TheVariants as happenings
use Rattle.access_types.specs.declared.history.Mark.{Mark}
use Rattle.access_types.specs.declared.history.Mark.TheVariants as marks
use Rattle.access_types.specs.Kind.{is_scoped}
use Rattle.access_types.specs.declared.kind.Claim.TheVariants.{NoAccesses, NoWrites}
use Rattle.access_types.specs.declared.kind.Kind.{Kind}
use Rattle.access_types.specs.declared.kind.Kind.TheVariants as kinds
use Rattle.litmus_syntax.specs.Sites.{accesses_of, sites_of}
use Rattle.litmus_syntax.specs.Tree.{Assignment, Block, Expression, Load, Statement}
use Rattle.litmus_syntax.specs.Tree as tree
use Rattle.litmus_syntax.specs.declared.statement.Call.{Call}
use Rattle.litmus_syntax.specs.declared.statement.Call.TheVariants as calls
use Rattle.litmus_semantics.specs.Calls.{Scoped, check_kind, checked_bytes, scoped_access, scoped_assertion, scoped_by, scoped_call}
use Rattle.litmus_semantics.specs.Loads.{load_in}
use Rattle.litmus_semantics.specs.Meaning.{Chooses, after_condition}
use Rattle.litmus_semantics.specs.Task.{has_lock}
use Rattle.access_run.specs.memory_operation.Locks.{TakesLock}
use Rattle.access_run.specs.declared.memory_operation.effect.Effect.{Effect}
use Rattle.access_run.specs.declared.memory_operation.operation.Operation.{Operation}
use Rattle.setup_access.specs.Records.{MakesDone}
use Rattle.setup_access.specs.declared.begun.Begun.{Begun}
use Rattle.slot_table.specs.declared.records.Record.{Record}
use Rattle.slot_table.specs.declared.step.Step.TheVariants.{LockStore}
use Rattle.program_order.specs.Access.{Makes}
use Rattle.program_order.specs.Standing.{IsLockAt, Setting, Standing, coming, counting, doing, lock_number, registered}
use Rattle.program_order.specs.WrittenOrder.{ChecksAt, ClosesScope, MakesMark, Only, OpensScope, StepsInBlock, StepsInDataRace, StepsOf, StepsOfAssignment, StepsOfBlock, StepsOfCall, StepsOfExpression, StepsOfLoad, StepsOfTurns}

-- it is kept by each part that makes steps or computes, and from part to part
pub record Kept (s : Setting) (Q : Standing → List Record → Standing → List Record → Type 0) : Type 0 where
  pub still : (before : Standing) (records : List Record) → Q before records before records
  pub joins : (before between after : Standing) (records later rest : List Record)
      → Q before records between later → Q between later after rest → Q before records after rest
  pub marked : (ends_nothing : Bool) (count : ℕ) (m : Mark) (before : Standing) (records : List Record)
      → Q before records (doing (counting ends_nothing before) records (replicate count (happenings.Mark m))) records
  pub lost : (before : Standing) (records : List Record)
      → Q before records (coming (counting true before) records before.progress) records
  pub assigned : (before : Standing) (records : List Record) (register value : ℕ)
      → Q before records (registered before records register value) records
  pub makes : (a : access.Access) (operation : Option Operation) (effect : Effect) (before : Standing) (records : List Record)
      (after : Standing) (rest : List Record) → Makes s before a operation records effect after rest
      → Q before records after rest
  pub locks : (lock : ℕ) (before : Standing) (records rest : List Record) → IsLockAt s lock
      → TakesLock s.text.task (lock_number s lock) records rest
      → Q before records (doing before rest (happenings.Lock lock ∷ [])) rest
  pub unlocks : (lock : ℕ) (before : Standing) (records rest : List Record) → IsTrue (has_lock lock before.progress.did)
      → MakesDone s.text.task (LockStore (lock_number s lock)) (λ later. rest ≡ later) records
      → Q before records (doing before rest (happenings.Unlock lock ∷ [])) rest
  pub scoped : (a : access.Access) → is_scoped a.kind ≡ true → (begun : Begun) (before opened closing after : Standing)
      (records inside later rest : List Record)
      → OpensScope s before a records begun opened inside → Q opened inside closing later
      → ClosesScope s closing begun before.scopes later after rest → Q before records after rest

-- a statement that is a scoped assertion has an access of such a kind
abbrev AreScoped : Option Scoped → Type 0
AreScoped None = Unit {0}
AreScoped (Some scoped) = is_scoped scoped.kind ≡ true

by_scoped : (scoped : Bool) (kind : Kind) (x : ℕ) → is_scoped kind ≡ true → AreScoped (scoped_by scoped kind x)
by_scoped true kind x is = is
by_scoped false kind x is = tt

call_scoped : (c : Call) → AreScoped (scoped_call c)
call_scoped (calls.Barrier b) = tt
call_scoped (calls.Lock l) = tt
call_scoped (calls.Unlock l) = tt
call_scoped (calls.AssertWriter x scoped) = by_scoped scoped (kinds.AssertScoped NoWrites) x refl
call_scoped (calls.AssertAccess x scoped) = by_scoped scoped (kinds.AssertScoped NoAccesses) x refl
call_scoped (calls.AssertBits x mask) = tt
call_scoped (calls.Mark m) = tt
call_scoped (calls.Check is_write x size) = tt

assertion_scoped : (st : Statement) → AreScoped (scoped_assertion st)
assertion_scoped (tree.load_only l) = tt
assertion_scoped (tree.assign data_race a) = tt
assertion_scoped (tree.call c) = call_scoped c
assertion_scoped (tree.if_block e body) = tt
assertion_scoped (tree.if_else e body otherwise) = tt
assertion_scoped (tree.for_turns r turns body) = tt

module _ (s : Setting) (Q : Standing → List Record → Standing → List Record → Type 0) (kept : Kept s Q) where
  -- what comes to this
  to_this : (before after this : Standing) (records rest : List Record) → after ≡ this → Q before records this rest → Q before records after rest
  to_this before after this records rest same q = subst (λ (a : Standing). Q before records a rest) (sym same) q

  nothing_done : (before after this : Standing) (records rest : List Record) → Only this records after rest → Q before records this records → Q before records after rest
  nothing_done before after this records rest h q =
      to_this before after this records rest h.0 (subst (λ (r : List Record). Q before records this r) (sym h.1) q)

  going_on : (before between after : Standing) (records later rest : List Record) → Q before records between later → Q between later after rest → Q before records after rest
  going_on before between after records later rest p q = kept.joins before between after records later rest p q

  by_load : (site : ℕ) (l : Load) (before : Standing) (records : List Record) (loaded : ℕ) (after : Standing) (rest : List Record)
      → StepsOfLoad s site l before records loaded after rest → Q before records after rest
  by_load site l before records loaded after rest h =
      let off : Standing = doing before records (replicate l.data_races (happenings.Mark marks.Disable)) in
      let on : Standing = doing h.2 rest (replicate l.data_races (happenings.Mark marks.Enable)) in
      to_this before after on records rest h.6
      (going_on before off on records records rest (kept.marked false l.data_races marks.Disable before records)
      (going_on off h.2 on records rest rest (kept.makes _ _ h.1 off records h.2 rest h.3)
      (kept.marked false l.data_races marks.Enable h.2 rest)))

  by_expression : (site : ℕ) (e : Expression) (before : Standing) (records : List Record) (value : ℕ) (after : Standing) (rest : List Record)
      → StepsOfExpression s site e before records value after rest → Q before records after rest
  by_expression site (tree.pure e) before records value after rest h =
      nothing_done before after before records rest (h.1, h.2) (kept.still before records)
  by_expression site (tree.loading e) before records value after rest h =
      by_load site (load_in e) before records h.0 after rest h.1

  by_assignment : (site : ℕ) (a : Assignment) (before : Standing) (records : List Record) (after : Standing) (rest : List Record)
      → StepsOfAssignment s site a before records after rest → Q before records after rest
  by_assignment site (tree.to_register r e) before records after rest h =
      to_this before after (registered h.1 rest r h.0) records rest h.3
      (going_on before h.1 (registered h.1 rest r h.0) records rest rest (by_expression site e before records h.0 h.1 rest h.2)
      (kept.assigned h.1 rest r h.0))
  by_assignment site (tree.write form x e) before records after rest h = kept.makes _ _ h.0 before records after rest h.1
  by_assignment site (tree.add x e) before records after rest h = kept.makes _ _ h.0 before records after rest h.1
  by_assignment site (tree.increment x) before records after rest h = kept.makes _ _ h.0 before records after rest h.1
  by_assignment site (tree.atomic_add e x) before records after rest h = kept.makes _ _ h.0 before records after rest h.1
  by_assignment site (tree.atomic_increment x) before records after rest h = kept.makes _ _ h.0 before records after rest h.1
  by_assignment site (tree.atomic_decrement x) before records after rest h = kept.makes _ _ h.0 before records after rest h.1

  by_data_race : (site : ℕ) (data_race : Bool) (a : Assignment) (before : Standing) (records : List Record) (after : Standing) (rest : List Record)
      → StepsInDataRace s site data_race a before records after rest → Q before records after rest
  by_data_race site data_race a before records after rest h =
      let count : ℕ = if data_race then 1 else 0 in
      let off : Standing = doing before records (replicate count (happenings.Mark marks.Disable)) in
      let on : Standing = doing h.0 rest (replicate count (happenings.Mark marks.Enable)) in
      to_this before after on records rest h.2
      (going_on before off on records records rest (kept.marked false count marks.Disable before records)
      (going_on off h.0 on records rest rest (by_assignment site a off records h.0 rest h.1)
      (kept.marked false count marks.Enable h.0 rest)))

  by_mark : (m : Mark) (before : Standing) (records : List Record) (after : Standing) (rest : List Record)
      → MakesMark s m before records after rest → Q before records after rest
  by_mark m before records after rest h =
      nothing_done before after (doing (counting h.0 before) records (happenings.Mark m ∷ [])) records rest h.2 (kept.marked h.0 1 m before records)

  by_unlock : (lock : ℕ) (has : Bool) (before : Standing) (records : List Record) (after : Standing) (rest : List Record)
      → has_lock lock before.progress.did ≡ has
      → MatchBool has
      (MakesDone s.text.task (LockStore (lock_number s lock)) (λ later. rest ≡ later) records
      × (after ≡ doing before rest (happenings.Unlock lock ∷ [])))
      (Only (coming (counting true before) records before.progress) records after rest)
      → Q before records after rest
  by_unlock lock true before records after rest is h =
      to_this before after (doing before rest (happenings.Unlock lock ∷ [])) records rest h.1
      (kept.unlocks lock before records rest is h.0)
  by_unlock lock false before records after rest is h =
      nothing_done before after (coming (counting true before) records before.progress) records rest h (kept.lost before records)

  by_check : (empty : Bool) (site : ℕ) (bytes : Bytes) (kind : Kind) (before : Standing) (records : List Record) (after : Standing) (rest : List Record)
      → MatchBool empty (Only before records after rest) (ChecksAt s site bytes kind None before records after rest) → Q before records after rest
  by_check true site bytes kind before records after rest h = nothing_done before after before records rest h (kept.still before records)
  by_check false site bytes kind before records after rest h = kept.makes _ _ h.0 before records after rest h.1

  by_call : (site : ℕ) (c : Call) (before : Standing) (records : List Record) (after : Standing) (rest : List Record)
      → StepsOfCall s site c before records after rest → Q before records after rest
  by_call site (calls.Barrier b) before records after rest h = nothing_done before after before records rest h (kept.still before records)
  by_call site (calls.Lock l) before records after rest h =
      to_this before after (doing before rest (happenings.Lock l ∷ [])) records rest h.2 (kept.locks l before records rest h.0 h.1)
  by_call site (calls.Unlock l) before records after rest h = by_unlock l (has_lock l before.progress.did) before records after rest refl h
  by_call site (calls.AssertWriter x scoped) before records after rest h = kept.makes _ _ h.0 before records after rest h.1
  by_call site (calls.AssertAccess x scoped) before records after rest h = kept.makes _ _ h.0 before records after rest h.1
  by_call site (calls.AssertBits x mask) before records after rest h =
      let next : Standing = doing h.0 rest (happenings.Mark (marks.Next 1) ∷ []) in
      to_this before after next records rest h.2
      (going_on before h.0 next records rest rest (kept.makes _ _ h.1.0 before records h.0 rest h.1.1) (kept.marked false 1 (marks.Next 1) h.0 rest))
  by_call site (calls.Mark m) before records after rest h = by_mark m before records after rest h
  by_call site (calls.Check is_write x size) before records after rest h =
      by_check _ site (checked_bytes s.text x size) (check_kind is_write) before records after rest h

  by_turns : (Body : Standing → List Record → Standing → List Record → Type 0)
      → ((before : Standing) (records : List Record) (after : Standing) (rest : List Record) → Body before records after rest → Q before records after rest)
      → (r turn left : ℕ) (before : Standing) (records : List Record) (after : Standing) (rest : List Record)
      → StepsOfTurns Body r turn left before records after rest → Q before records after rest
  by_turns Body each r turn zero before records after rest h =
      nothing_done before after (registered before records r turn) records rest h (kept.assigned before records r turn)
  by_turns Body each r turn (suc left) before records after rest h =
      let start : Standing = registered before records r turn in
      going_on before start after records records rest (kept.assigned before records r turn)
      (going_on start h.0 after records h.1 rest (each start records h.0 h.1 h.2) (by_turns Body each r (suc turn) left h.0 h.1 after rest h.3))

  by_block_of : (site : ℕ) (scoped : Option Scoped) → AreScoped scoped → (Own Later : Standing → List Record → Standing → List Record → Type 0)
      → ((before : Standing) (records : List Record) (after : Standing) (rest : List Record) → Own before records after rest → Q before records after rest)
      → ((before : Standing) (records : List Record) (after : Standing) (rest : List Record) → Later before records after rest → Q before records after rest)
      → (before : Standing) (records : List Record) (after : Standing) (rest : List Record)
      → StepsInBlock s site scoped Own Later before records after rest → Q before records after rest
  by_block_of site None is Own Later own later before records after rest h =
      going_on before h.0 after records h.1 rest (own before records h.0 h.1 h.2) (later h.0 h.1 after rest h.3)
  by_block_of site (Some scoped) is Own Later own later before records after rest h =
      kept.scoped (scoped_access s.text site before.progress scoped) is h.0 before h.1 h.2 after records h.3 h.4 rest h.5 (later h.1 h.3 h.2 h.4 h.6) h.7

  chosen : (value : ℕ) (Holds Fails Goal : Type 0) → Chooses value Holds Fails → (Holds → Goal) → (Fails → Goal) → Goal
  chosen value Holds Fails Goal h holds fails = elim h [ inl p ↦ holds p.1 | inr p ↦ fails p.1 ]

  mutual
    by_statement : (site : ℕ) (st : Statement) (before : Standing) (records : List Record) (after : Standing) (rest : List Record)
        → StepsOf s site st before records after rest → Q before records after rest
    by_statement site (tree.load_only l) before records after rest h = by_load site l before records h.0 after rest h.1
    by_statement site (tree.assign data_race a) before records after rest h = by_data_race site data_race a before records after rest h
    by_statement site (tree.call c) before records after rest h = by_call site c before records after rest h
    by_statement site (tree.if_block e body) before records after rest h =
        going_on before h.1 after records h.2 rest (by_expression site e before records h.0 h.1 h.2 h.3)
        (chosen h.0 _ _ _ h.4 (λ p. by_block (after_condition site e) body h.1 h.2 after rest p)
        (λ p. nothing_done h.1 after h.1 h.2 rest p (kept.still h.1 h.2)))
    by_statement site (tree.if_else e body otherwise) before records after rest h =
        going_on before h.1 after records h.2 rest (by_expression site e before records h.0 h.1 h.2 h.3)
        (chosen h.0 _ _ _ h.4 (λ p. by_block (after_condition site e) body h.1 h.2 after rest p)
        (λ p. by_block (after_condition site e + length (sites_of body)) otherwise h.1 h.2 after rest p))
    by_statement site (tree.for_turns r turns body) before records after rest h =
        by_turns (λ b records a rest. StepsOfBlock s site body b records a rest)
        (λ b records a rest p. by_block site body b records a rest p) r 0 turns before records after rest h

    pub by_block : (site : ℕ) (body : Block) (before : Standing) (records : List Record) (after : Standing) (rest : List Record)
        → StepsOfBlock s site body before records after rest → Q before records after rest
    by_block site tree.empty before records after rest h = nothing_done before after before records rest h (kept.still before records)
    by_block site (tree.first st more) before records after rest h =
        by_block_of site (scoped_assertion st) (assertion_scoped st)
        (λ b records a rest. StepsOf s site st b records a rest)
        (λ b records a rest. StepsOfBlock s (site + length (accesses_of st)) more b records a rest)
        (λ b records a rest p. by_statement site st b records a rest p)
        (λ b records a rest p. by_block (site + length (accesses_of st)) more b records a rest p)
        before records after rest h
