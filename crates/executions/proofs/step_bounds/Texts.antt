-- How many steps of a text are no failed tries.
use Rattle.std.proofs.Common.{◌≡◌, ◌≤◌, ◌∙◌, ◌+◌, ◌*◌, ◌==◌, ◌∷◌, [], ℕ, zero, suc, Bool, true, false, List, MatchBool, None, Option, Some, ap, arith, drop, inl, inr, length, subst, sym}
use Rattle.std.proofs.lemmas.List.{length-append}
use Rattle.access_types.specs.Access as access
use Rattle.access_types.specs.Access.{proper_mask}
use Rattle.access_types.specs.declared.history.Bytes.{Bytes}
use Rattle.access_types.specs.declared.history.Happening.TheVariants as happenings
use Rattle.access_types.specs.declared.kind.Kind.{Kind}
use Rattle.litmus_semantics.specs.Calls.{Scoped, check_kind, checked_bytes, scoped_assertion}
use Rattle.litmus_semantics.specs.Loads.{load_in}
use Rattle.litmus_semantics.specs.Meaning.{Chooses, after_condition}
use Rattle.litmus_semantics.specs.Task.{has_lock}
use Rattle.litmus_syntax.specs.Limits.{BlockScopes, StatementScopes, scopes_of}
use Rattle.litmus_syntax.specs.Sites.{accesses_of, sites_of}
use Rattle.litmus_syntax.specs.Tree.{Assignment, Block, Expression, Load, Statement}
use Rattle.litmus_syntax.specs.Tree as tree
use Rattle.litmus_syntax.specs.declared.statement.Call.{Call}
use Rattle.litmus_syntax.specs.declared.statement.Call.TheVariants as calls
use Rattle.access_run.specs.declared.memory_operation.effect.Effect.{Effect}
use Rattle.access_run.specs.declared.memory_operation.operation.Operation.{Operation}
use Rattle.setup_access.specs.Records.{MakesDone}
use Rattle.setup_access.specs.declared.begun.Begun.{Begun}
use Rattle.slot_table.specs.declared.records.Record.{Record}
use Rattle.slot_table.specs.declared.step.Step.TheVariants.{LockStore}
use Rattle.executions.proofs.step_bounds.Checks.{Few, check_few, close_few, done_few, few_both, few_more, lock_few, none_few, operates_few, word_few}
use Rattle.program_order.proofs.text_bounds.Scopes.{BeginsScope, begins_scope, has_room}
use Rattle.program_order.proofs.ScopesLemmas.{counting_scopes, operated_scopes}
use Rattle.program_order.specs.Access.{Makes}
use Rattle.program_order.specs.Standing.{Setting, Standing, checks_of, coming, counting, doing, lock_number, registered}
use Rattle.program_order.specs.WrittenOrder.{ChecksAt, ClosesScope, Only, OpensScope, Steps, StepsInBlock, StepsInDataRace, StepsOf, StepsOfAssignment, StepsOfBlock, StepsOfCall, StepsOfExpression, StepsOfLoad, StepsOfTurns}

abbrev mutual
  -- how many steps a statement makes that are no failed tries, at most
  pub statement_steps : Statement → ℕ
  statement_steps (tree.load_only l) = 256
  statement_steps (tree.assign data_race a) = 256
  statement_steps (tree.call c) = 256
  statement_steps (tree.if_block condition body) = 256 + block_steps body
  statement_steps (tree.if_else condition body otherwise) = 256 + (block_steps body + block_steps otherwise)
  statement_steps (tree.for_turns register turns body) = turns * block_steps body

  pub block_steps : Block → ℕ
  block_steps tree.empty = 0
  block_steps (tree.first first rest) = statement_steps first + block_steps rest

-- from one point of a text to another, where no more than so many scoped assertions are in force: as many are then
pub record Part (n scopes : ℕ) (before : Standing) (records : List Record) (after : Standing) (rest : List Record) : Type 0 where
  pub leaves : after.scopes ≡ before.scopes
  pub few : length before.scopes ≤ scopes → Few n records rest

abbrev pub Parts : ℕ → ℕ → Steps → Type 0
Parts n scopes P = (before : Standing) (records : List Record) (after : Standing) (rest : List Record) → P before records after rest
    → Part n scopes before records after rest

module _ (s : Setting) where
  still : (n scopes : ℕ) (before : Standing) (records : List Record) (after : Standing) (rest : List Record)
      → after.scopes ≡ before.scopes → rest ≡ records
      → Part n scopes before records after rest
  still n scopes before records after rest same is = record {
    leaves = same;
    few = λ room. few_more 0 n records rest (omega arith) (none_few records rest is);
  }

  both : (n m scopes : ℕ) (before between after : Standing) (records later rest : List Record) → Part n scopes before records between later
      → Part m scopes between later after rest → Part (n + m) scopes before records after rest
  both n m scopes before between after records later rest first second = record {
    leaves = second.leaves ∙ first.leaves;
    few = λ room.
        few_both n m records later rest (first.few room)
        (second.few (subst (λ (b : List Begun). length b ≤ scopes) (sym first.leaves) room));
  }

  more : (n m scopes : ℕ) (before after : Standing) (records rest : List Record) → n ≤ m → Part n scopes before records after rest
      → Part m scopes before records after rest
  more n m scopes before after records rest fewer own = record {
    leaves = own.leaves;
    few = λ room. few_more n m records rest fewer (own.few room);
  }

  module _ (scopes : ℕ) (few_scopes : scopes ≤ 8) where
    makes : (a : access.Access) (operation : Option Operation) (before : Standing) (records : List Record) (effect : Effect)
        (after : Standing)
        (rest : List Record) → Makes s before a operation records effect after rest → Part 128 scopes before records after rest
    makes a operation before records effect after rest h = record {
      leaves = ap (λ (st : Standing). st.scopes) h.comes_to
          ∙ operated_scopes a operation (doing before (drop 1 records) (happenings.Begin a ∷ [])) h.checked effect h.done;
      few = λ room.
          let checked = check_few (checks_of s) before.scopes h.begun before.asked records h.passes h.checked h.check
          (omega (arith, room, few_scopes)) in
          let operated = operates_few (checks_of s) a operation h.checked effect h.done h.operates in
          let ended = word_few s.text.task _ _ 0 h.done rest (λ stamp later over. none_few later rest over) h.ends in
          omega (arith, checked, operated, ended);
    }

    load_part : (site : ℕ) (l : Load) (loaded : ℕ) → Parts 128 scopes (λ b records a rest. StepsOfLoad s site l b records loaded a rest)
    load_part site l loaded before records after rest h =
        let own = makes _ _ _ records h.1 h.2 rest h.3 in
        record { leaves = ap (λ (st : Standing). st.scopes) h.6 ∙ own.leaves; few = λ room. own.few room }

    expression_part : (site : ℕ) (e : Expression) (value : ℕ) → Parts 128 scopes
        (λ b records a rest. StepsOfExpression s site e b records value a rest)
    expression_part site (tree.pure e) value before records after rest h =
        still 128 scopes before records after rest (ap (λ (st : Standing). st.scopes) h.1) h.2
    expression_part site (tree.loading e) value before records after rest h = load_part site (load_in e) h.0 before records after rest h.1

    assignment_part : (site : ℕ) (a : Assignment) → Parts 128 scopes (StepsOfAssignment s site a)
    assignment_part site (tree.to_register r e) before records after rest h =
        let own = expression_part site e h.0 before records h.1 rest h.2 in
        record { leaves = ap (λ (st : Standing). st.scopes) h.3 ∙ own.leaves; few = λ room. own.few room }
    assignment_part site (tree.write form x e) before records after rest h = makes _ _ before records h.0 after rest h.1
    assignment_part site (tree.add x e) before records after rest h = makes _ _ before records h.0 after rest h.1
    assignment_part site (tree.increment x) before records after rest h = makes _ _ before records h.0 after rest h.1
    assignment_part site (tree.atomic_add e x) before records after rest h = makes _ _ before records h.0 after rest h.1
    assignment_part site (tree.atomic_increment x) before records after rest h = makes _ _ before records h.0 after rest h.1
    assignment_part site (tree.atomic_decrement x) before records after rest h = makes _ _ before records h.0 after rest h.1

    assign_part : (site : ℕ) (data_race : Bool) (a : Assignment) → Parts 256 scopes (StepsInDataRace s site data_race a)
    assign_part site data_race a before records after rest h =
        let own = assignment_part site a _ records h.0 rest h.1 in
        record {
          leaves = ap (λ (st : Standing). st.scopes) h.2 ∙ own.leaves;
          few =
              λ room. few_more 128 256 records rest (omega arith) (own.few room);
        }

    checks_part : (site : ℕ) (bytes : Bytes) (kind : Kind) (mask : Option ℕ) → Parts 128 scopes (ChecksAt s site bytes kind mask)
    checks_part site bytes kind mask before records after rest h = makes _ None before records h.0 after rest h.1

    check_part : (empty : Bool) (site : ℕ) (bytes : Bytes) (kind : Kind) (before : Standing) (records : List Record) (after : Standing)
        (rest : List Record)
        → MatchBool empty (Only before records after rest) (ChecksAt s site bytes kind None before records after rest)
        → Part 256 scopes before records after rest
    check_part true site bytes kind before records after rest h =
        still 256 scopes before records after rest (ap (λ (st : Standing). st.scopes) h.0) h.1
    check_part false site bytes kind before records after rest h =
        more 128 256 scopes before after records rest (omega arith) (checks_part site bytes kind None before records after rest h)

    call_part : (site : ℕ) (c : Call) → Parts 256 scopes (StepsOfCall s site c)
    call_part site (calls.Barrier b) before records after rest h =
        still 256 scopes before records after rest (ap (λ (st : Standing). st.scopes) h.0) h.1
    call_part site (calls.Lock l) before records after rest h = record {
      leaves = ap (λ (st : Standing). st.scopes) h.2;
      few = λ room. few_more 1 256 records rest (omega arith) (lock_few s.text.task (lock_number s l) records rest h.1);
    }
    call_part site (calls.Unlock l) before records after rest h = unlocked (has_lock l before.progress.did) h
      where
        unlocked : (has : Bool)
            → MatchBool has
            (MakesDone s.text.task (LockStore (lock_number s l)) (λ later. rest ≡ later) records
            × (after ≡ doing before rest (happenings.Unlock l ∷ [])))
            (Only (coming (counting true before) records before.progress) records after rest)
            → Part 256 scopes before records after rest
        unlocked true h = record {
          leaves = ap (λ (st : Standing). st.scopes) h.1;
          few = λ room. few_more 1 256 records rest (omega arith)
              (done_few s.text.task _ _ 0 records rest (λ later over. none_few later rest over) h.0);
        }
        unlocked false h = still 256 scopes before records after rest (ap (λ (st : Standing). st.scopes) h.0) h.1
    call_part site (calls.AssertWriter x scoped) before records after rest h =
        more 128 256 scopes before after records rest (omega arith) (checks_part site _ _ None before records after rest h)
    call_part site (calls.AssertAccess x scoped) before records after rest h =
        more 128 256 scopes before after records rest (omega arith) (checks_part site _ _ None before records after rest h)
    call_part site (calls.AssertBits x mask) before records after rest h =
        let own = checks_part site _ _ _ before records h.0 rest h.1 in
        record {
          leaves = ap (λ (st : Standing). st.scopes) h.2 ∙ own.leaves;
          few =
              λ room. few_more 128 256 records rest (omega arith) (own.few room);
        }
    call_part site (calls.Mark m) before records after rest h =
        still 256 scopes before records after rest (ap (λ (st : Standing). st.scopes) h.2.0 ∙ counting_scopes h.0 before) h.2.1
    call_part site (calls.Check is_write x size) before records after rest h =
        check_part (size == 0) site (checked_bytes s.text x size) (check_kind is_write) before records after rest h

    turns_part : (Body : Steps) (n : ℕ) → Parts n scopes Body → (r turn left : ℕ) → Parts (left * n) scopes (StepsOfTurns Body r turn left)
    turns_part Body n each r turn zero before records after rest h =
        still (0 * n) scopes before records after rest (ap (λ (st : Standing). st.scopes) h.0) h.1
    turns_part Body n each r turn (suc left) before records after rest h =
        let own = each (registered before records r turn) records h.0 h.1 h.2 in
        let others = turns_part Body n each r (suc turn) left h.0 h.1 after rest h.3 in
        record {
          leaves = others.leaves ∙ own.leaves;
          few = λ room.
              let first = own.few room in
              let later = others.few (subst (λ (b : List Begun). length b ≤ scopes) (sym own.leaves) room) in
              omega (arith, first, later);
        }

    chosen : (n m value : ℕ) (Holds Fails : Type 0) (before after : Standing) (records rest : List Record) → Chooses value Holds Fails
        → (Holds → Part n scopes before records after rest) → (Fails → Part m scopes before records after rest)
        → Part (n + m) scopes before records after rest
    chosen n m value Holds Fails before after records rest h first second = elim h [
      | inl is_chosen ↦ more n (n + m) scopes before after records rest (omega arith) (first is_chosen.1)
      | inr is_not ↦ more m (n + m) scopes before after records rest (omega arith) (second is_not.1)
    ]

  -- a scoped assertion is in force while what follows in its block is made
  scope_part : (n scopes : ℕ) → scopes + 1 ≤ 8 → (a : access.Access) (begun : Begun) (before opened closing after : Standing)
      (records inside later rest : List Record)
      → OpensScope s before a records begun opened inside → Part n (scopes + 1) opened inside closing later
      → ClosesScope s closing begun before.scopes later after rest → Part (256 + n) scopes before records after rest
  scope_part n scopes room a begun before opened closing after records inside later rest opens inner closes = record {
    leaves = ap (λ (st : Standing). st.scopes) closes.comes_to;
    few = λ fewer.
        let first = check_few (checks_of s) before.scopes begun before.asked records opens.passes inside opens.check
        (omega (arith, fewer, room)) in
        let in_force : length opened.scopes ≡ length before.scopes + 1 =
        ap (λ (st : Standing). length st.scopes) opens.comes_to ∙ length-append before.scopes (begun ∷ []) in
        let between = inner.few (omega (arith, in_force, fewer)) in
        let last = close_few (checks_of s) begun closes.silenced closing.asked later closes.passes rest closes.close in
        omega (arith, first, between, last);
  }

  in_block_part : (scoped : Option Scoped) (Own Later : Steps) (site scopes begins n m : ℕ) → BeginsScope scoped begins
      → scopes + begins ≤ 8
      → (begins ≡ 1 → 256 ≤ n) → Parts n scopes Own → Parts m (scopes + begins) Later
      → Parts (n + m) scopes (StepsInBlock s site scoped Own Later)
  in_block_part None Own Later site scopes begins n m is room most own later before records after rest h =
      let same : scopes + begins ≡ scopes = omega (arith, is) in
      both n m scopes before h.0 after records h.1 rest (own before records h.0 h.1 h.2)
      (subst (λ (k : ℕ). Part m k h.0 h.1 after rest) same (later h.0 h.1 after rest h.3))
  in_block_part (Some scoped) Own Later site scopes begins n m is room most own later before records after rest h =
      let one : begins ≡ 1 = is.0 in
      let enough : 256 ≤ n = most one in
      let inner : Part m (scopes + 1) h.1 h.3 h.2 h.4 =
      subst (λ (k : ℕ). Part m (scopes + k) h.1 h.3 h.2 h.4) one (later h.1 h.3 h.2 h.4 h.6) in
      more (256 + m) (n + m) scopes before after records rest (omega (arith, enough))
      (scope_part m scopes (omega (arith, room, one)) _ h.0 before h.1 h.2 after records h.3 h.4 rest h.5 inner h.7)

  -- only calls begin a scope
  scope_most : (statement : Statement) → scopes_of statement ≡ 1 → 256 ≤ statement_steps statement
  scope_most (tree.load_only l) one = omega arith
  scope_most (tree.assign data_race a) one = omega arith
  scope_most (tree.call c) one = omega arith
  scope_most (tree.if_block e body) one = omega arith
  scope_most (tree.if_else e body otherwise) one = omega arith
  scope_most (tree.for_turns r turns body) one = absurd (omega (arith, one))

  mutual
    statement_part : (statement : Statement) (site scopes : ℕ) → scopes ≤ 8 → StatementScopes scopes statement
        → Parts (statement_steps statement) scopes (StepsOf s site statement)
    statement_part (tree.load_only l) site scopes room fits before records after rest h =
        more 128 256 scopes before after records rest (omega arith) (load_part scopes room site l h.0 before records after rest h.1)
    statement_part (tree.assign data_race a) site scopes room fits before records after rest h =
        assign_part scopes room site data_race a before records after rest h
    statement_part (tree.call c) site scopes room fits before records after rest h =
        call_part scopes room site c before records after rest h
    statement_part (tree.if_block e body) site scopes room fits before records after rest h =
        let value = expression_part scopes room site e h.0 before records h.1 h.2 h.3 in
        let made : Part (block_steps body + 0) scopes h.1 h.2 after rest =
        chosen scopes room (block_steps body) 0 h.0 _ _ h.1 after h.2 rest h.4
        (λ steps. block_part body (after_condition site e) scopes room fits h.1 h.2 after rest steps)
        (λ same. still 0 scopes h.1 h.2 after rest (ap (λ (st : Standing). st.scopes) same.0) same.1) in
        more (128 + (block_steps body + 0)) (256 + block_steps body) scopes before after records rest (omega arith)
        (both 128 (block_steps body + 0) scopes before h.1 after records h.2 rest value made)
    statement_part (tree.if_else e body otherwise) site scopes room fits before records after rest h =
        let value = expression_part scopes room site e h.0 before records h.1 h.2 h.3 in
        let made : Part (block_steps body + block_steps otherwise) scopes h.1 h.2 after rest =
        chosen scopes room (block_steps body) (block_steps otherwise) h.0 _ _ h.1 after h.2 rest h.4
        (λ steps. block_part body (after_condition site e) scopes room fits.0 h.1 h.2 after rest steps)
        (λ steps. block_part otherwise (after_condition site e + length (sites_of body)) scopes room fits.1 h.1 h.2 after rest steps) in
        more (128 + (block_steps body + block_steps otherwise)) (256 + (block_steps body + block_steps otherwise)) scopes before after
        records rest (omega arith)
        (both 128 (block_steps body + block_steps otherwise) scopes before h.1 after records h.2 rest value made)
    statement_part (tree.for_turns r turns body) site scopes room fits before records after rest h =
        turns_part scopes room (λ b records a rest. StepsOfBlock s site body b records a rest) (block_steps body)
        (λ b records a rest steps. block_part body site scopes room fits b records a rest steps) r 0 turns before records after rest h

    pub block_part : (body : Block) (site scopes : ℕ) → scopes ≤ 8 → BlockScopes scopes body
        → Parts (block_steps body) scopes (StepsOfBlock s site body)
    block_part tree.empty site scopes room fits before records after rest h =
        still 0 scopes before records after rest (ap (λ (st : Standing). st.scopes) h.0) h.1
    block_part (tree.first statement later) site scopes room fits before records after rest h =
        let enough = has_room statement scopes fits.0 room in
        in_block_part (scoped_assertion statement) (λ b records a rest. StepsOf s site statement b records a rest)
        (λ b records a rest. StepsOfBlock s (site + length (accesses_of statement)) later b records a rest) site scopes
        (scopes_of statement)
        (statement_steps statement) (block_steps later) (begins_scope statement) enough (scope_most statement)
        (λ b records a rest steps. statement_part statement site scopes room fits.0 b records a rest steps)
        (λ b records a rest steps.
        block_part later (site + length (accesses_of statement)) (scopes + scopes_of statement) enough fits.1 b records a rest steps)
        before records after rest h
