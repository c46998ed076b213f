-- A part of a text adds at most nine outcomes for each access of which its statements make one.
use Rattle.std.proofs.Common.{◌≡◌, ◌∙◌, ◌≤◌, ◌+◌, ◌*◌, ◌==◌, ◌||◌, ◌++◌, ◌∷◌, [], inl, inr, ℕ, zero, suc}
use Rattle.std.proofs.Common.{Bool, true, false, List, MatchBool, Option, None, Some, ap, arith, length, not, refl, subst, sym, if◌then◌else◌}
use Rattle.std.proofs.Math.Nat.{one-mul, suc-mul}
use Rattle.std.proofs.lemmas.List.{length-append}
use Rattle.access_types.specs.Access as access
use Rattle.access_types.specs.declared.history.Bytes.{Bytes}
use Rattle.access_types.specs.declared.history.Happening.TheVariants as happenings
use Rattle.access_types.specs.declared.history.Mark.{Mark}
use Rattle.access_types.specs.declared.history.Mark.TheVariants as marks
use Rattle.access_types.specs.declared.kind.Kind.{Kind}
use Rattle.litmus_semantics.specs.Calls.{Scoped, scoped_assertion}
use Rattle.litmus_semantics.specs.Loads.{load_in}
use Rattle.litmus_semantics.specs.Meaning.{Chooses, after_condition}
use Rattle.litmus_semantics.specs.Task.{has_lock}
use Rattle.litmus_syntax.specs.Limits.{BlockScopes, StatementScopes, block_repeats, scoped_limit, scopes_of, statement_repeats}
use Rattle.litmus_syntax.specs.Sites.{accesses_of, assignment_has_access, call_has_access, expression_has_access, sites_of}
use Rattle.litmus_syntax.specs.Tree.{Assignment, Block, Expression, Load, Statement}
use Rattle.litmus_syntax.specs.Tree as tree
use Rattle.litmus_syntax.specs.declared.statement.Call.{Call}
use Rattle.litmus_syntax.specs.declared.statement.Call.TheVariants as calls
use Rattle.access_run.specs.declared.memory_operation.effect.Effect.{Effect}
use Rattle.access_run.specs.declared.memory_operation.operation.Operation.{Operation}
use Rattle.setup_access.specs.Check.{Check, ChecksAll, ChecksBegun, ChecksOnce, Close, Fallen, Pass, Passes, Rechecks, fallen_of, left_to_check}
use Rattle.setup_access.specs.Setting as checks
use Rattle.setup_access.specs.declared.begun.Begun.{Begun}
use Rattle.setup_access.proofs.DisciplineLemmas.{on_word}
use Rattle.slot_table.specs.declared.records.Record.{Record}
use Rattle.program_order.specs.Access.{Makes}
use Rattle.program_order.specs.Standing.{Setting, Standing, checks_of, coming, counting, doing}
use Rattle.program_order.specs.WrittenOrder.{ChecksAt, ClosesScope, MakesMark, Only, OpensScope, SpellsAll, Steps, StepsInBlock, StepsInDataRace, StepsOf}
use Rattle.program_order.specs.WrittenOrder.{StepsOfAssignment, StepsOfBlock, StepsOfCall, StepsOfExpression, StepsOfLoad, StepsOfTurns, at_first, marked_so_often}
use Rattle.program_order.proofs.ScopesLemmas.{counting_scopes, operated_scopes}
use Rattle.executions.proofs.observation_determinism.BeginsBound.{scaled}

-- a check of an access has one outcome, and those of the scoped assertions in force, at most
module _ (s : checks.Setting) where
  rechecks_many : (scopes : List Begun) (asked : ℕ) (records : List Record) (passes : Passes) (rest : List Record)
      → Rechecks s scopes asked records passes rest
      → length passes.outcomes ≤ length scopes
  rechecks_many [] asked records passes rest h =
      let none : length passes.outcomes ≡ 0 = ap (λ (p : Passes). length p.outcomes) h.0 in omega (arith, none)
  rechecks_many (scope ∷ scopes) asked records passes rest h =
      by_silence scope.silenced h (λ now left some more. rechecks_many scopes now left some rest more)
    where
      by_silence : (silenced : Bool)
          → MatchBool silenced (Rechecks s scopes asked records passes rest)
          ((pass : Pass) × (later : List Record) × (more : List Fallen) × ChecksOnce s scope.access scope.marked asked records pass later
          × Rechecks s scopes pass.asked later (record { outcomes = more; asked = passes.asked }) rest × (passes.outcomes ≡ fallen_of scope.access pass ∷ more))
          → ((now : ℕ) (left : List Record) (some : Passes) → Rechecks s scopes now left some rest → length some.outcomes ≤ length scopes)
          → length passes.outcomes ≤ suc (length scopes)
      by_silence true h on = let less = on asked records passes h in omega (arith, less)
      by_silence false h on =
          let less = on h.0.asked h.1 (record { outcomes = h.2; asked = passes.asked }) h.4 in
          let all : length passes.outcomes ≡ suc (length h.2) = ap (λ (l : List Fallen). length l) h.5 in omega (arith, less, all)

  fewer_left : (settled : Bool) (scopes : List Begun) → length (left_to_check settled scopes) ≤ length scopes
  fewer_left true scopes = omega arith
  fewer_left false scopes = omega arith

  begun_many : (silenced : Bool) (scopes : List Begun) (begun : Begun) (asked now : ℕ) (records : List Record) (passes : Passes) (rest : List Record)
      → MatchBool silenced ((passes ≡ record { outcomes = []; asked = now }) × (rest ≡ records)) (ChecksAll s scopes begun asked records passes rest)
      → length passes.outcomes ≤ suc (length scopes)
  begun_many true scopes begun asked now records passes rest h =
      let none : length passes.outcomes ≡ 0 = ap (λ (p : Passes). length p.outcomes) h.0 in omega (arith, none)
  begun_many false scopes begun asked now records passes rest h =
      let less = rechecks_many (left_to_check h.0.settled scopes) h.0.asked h.1 (record { outcomes = h.2; asked = passes.asked }) rest h.4 in
      let fewer = fewer_left h.0.settled scopes in
      let all : length passes.outcomes ≡ suc (length h.2) = ap (λ (l : List Fallen). length l) h.5 in omega (arith, less, fewer, all)

  check_many : (scopes : List Begun) (begun : Begun) (asked : ℕ) (records : List Record) (passes : Passes) (rest : List Record)
      → Check s scopes begun asked records passes rest → length passes.outcomes ≤ suc (length scopes)
  check_many scopes begun asked [] passes rest h = absurd h.2
  check_many scopes begun asked (first ∷ later) passes rest h =
      let got = on_word first.answer (λ stamp. ChecksBegun s scopes begun asked later passes rest) h.2.2 in
      begun_many begun.silenced scopes begun asked _ later passes rest got.2

  close_many : (scope : Begun) (silenced : Bool) (asked : ℕ) (records : List Record) (passes : Passes) (rest : List Record)
      → Close s scope silenced asked records passes rest → length passes.outcomes ≤ 1
  close_many scope silenced asked records passes rest h =
      rechecks_many (record scope { silenced = scope.silenced || silenced } ∷ []) asked records passes h.1.0 h.1.1

-- the outcomes that a part of a text adds, which leaves the scoped assertions in force as they were
record Adds (n : ℕ) (before after : Standing) : Type 0 where
  scopes : after.scopes ≡ before.scopes
  most : length after.outcomes ≤ length before.outcomes + 9 * n

adds_none : (before after : Standing) → after.scopes ≡ before.scopes → after.outcomes ≡ before.outcomes → Adds 0 before after
adds_none before after scopes is =
    record { scopes = scopes; most = let same : length after.outcomes ≡ length before.outcomes = ap (λ (l : List Fallen). length l) is in omega (arith, same) }

adds_both : (n m : ℕ) (before between after : Standing) → Adds n before between → Adds m between after → Adds (n + m) before after
adds_both n m before between after p q = record {
  scopes = q.scopes ∙ p.scopes;
  most = let one = p.most in let other = q.most in omega (arith, one, other);
}

adds_more : (n m : ℕ) (before after : Standing) → n ≤ m → Adds n before after → Adds m before after
adds_more n m before after more p = record { scopes = p.scopes; most = let one = p.most in omega (arith, one, more) }

adds_is : (n : ℕ) (before between after : Standing) → after ≡ between → Adds n before between → Adds n before after
adds_is n before between after is p = subst (λ (st : Standing). Adds n before st) (sym is) p

module _ (s : Setting) where
  counted : (ends_nothing : Bool) (before : Standing) → (counting ends_nothing before).outcomes ≡ before.outcomes
  counted true before = refl
  counted false before = refl

  makes_adds : (a : access.Access) (operation : Option Operation) (effect : Effect) (before : Standing) (records : List Record) (after : Standing) (rest : List Record)
      → length before.scopes ≤ scoped_limit → Makes s before a operation records effect after rest → Adds 1 before after
  makes_adds a operation effect before records after rest few h =
      let all : length after.outcomes ≡ length (before.outcomes ++ h.passes.outcomes) = ap (λ (st : Standing). length st.outcomes) h.comes_to in
      let parts = length-append before.outcomes h.passes.outcomes in
      let many = check_many (checks_of s) before.scopes h.begun before.asked records h.passes h.checked h.check in record {
        scopes =
            ap (λ (st : Standing). st.scopes) h.comes_to ∙ operated_scopes a operation (doing before _ (happenings.Begin a ∷ [])) h.checked effect h.done;
        most = omega (arith, all, parts, many, few);
      }

  only_adds : (before comes_to after : Standing) (records rest : List Record) → comes_to.scopes ≡ before.scopes
      → comes_to.outcomes ≡ before.outcomes
      → Only comes_to records after rest → Adds 0 before after
  only_adds before comes_to after records rest scopes outcomes h =
      adds_is 0 before comes_to after h.0 (adds_none before comes_to scopes outcomes)

  load_adds : (site : ℕ) (l : Load) (before : Standing) (records : List Record) (loaded : ℕ) (after : Standing) (rest : List Record)
      → length before.scopes ≤ scoped_limit → StepsOfLoad s site l before records loaded after rest → Adds 1 before after
  load_adds site l before records loaded after rest few h =
      let off : Standing = marked_so_often l.data_races (happenings.Mark marks.Disable) before records in
      let made : Adds 1 off h.2 = makes_adds _ _ h.1 off records h.2 rest few h.3 in
      adds_is 1 before _ after h.6 (record { scopes = made.scopes; most = made.most })

  expression_adds : (site : ℕ) (e : Expression) (before : Standing) (records : List Record) (value : ℕ) (after : Standing) (rest : List Record)
      → length before.scopes ≤ scoped_limit → StepsOfExpression s site e before records value after rest
      → Adds (if expression_has_access e then 1 else 0) before after
  expression_adds site (tree.pure e) before records value after rest few h =
      adds_is 0 before before after h.1 (adds_none before before refl refl)
  expression_adds site (tree.loading e) before records value after rest few h =
      load_adds site (load_in e) before records h.0 after rest few h.1

  assignment_adds : (site : ℕ) (a : Assignment) (before : Standing) (records : List Record) (after : Standing) (rest : List Record)
      → length before.scopes ≤ scoped_limit → StepsOfAssignment s site a before records after rest
      → Adds (if assignment_has_access a then 1 else 0) before after
  assignment_adds site (tree.to_register r e) before records after rest few h =
      let own = expression_adds site e before records h.0 h.1 rest few h.2 in
      adds_is (if expression_has_access e then 1 else 0) before _ after h.3 (record { scopes = own.scopes; most = own.most })
  assignment_adds site (tree.write form x e) before records after rest few h = makes_adds _ _ h.0 before records after rest few h.1
  assignment_adds site (tree.add x e) before records after rest few h = makes_adds _ _ h.0 before records after rest few h.1
  assignment_adds site (tree.increment x) before records after rest few h = makes_adds _ _ h.0 before records after rest few h.1
  assignment_adds site (tree.atomic_add e x) before records after rest few h = makes_adds _ _ h.0 before records after rest few h.1
  assignment_adds site (tree.atomic_increment x) before records after rest few h = makes_adds _ _ h.0 before records after rest few h.1
  assignment_adds site (tree.atomic_decrement x) before records after rest few h = makes_adds _ _ h.0 before records after rest few h.1

  in_race_adds : (site : ℕ) (data_race : Bool) (a : Assignment) (before : Standing) (records : List Record) (after : Standing) (rest : List Record)
      → length before.scopes ≤ scoped_limit → StepsInDataRace s site data_race a before records after rest
      → Adds (if assignment_has_access a then 1 else 0) before after
  in_race_adds site data_race a before records after rest few h =
      let start : Standing = marked_so_often (if data_race then 1 else 0) (happenings.Mark marks.Disable) before records in
      let own = assignment_adds site a start records h.0 rest few h.1 in
      adds_is (if assignment_has_access a then 1 else 0) before _ after h.2 (record { scopes = own.scopes; most = own.most })

  unlock_adds : (held : Bool) (l : ℕ) (before : Standing) (records : List Record) (after : Standing) (rest : List Record) (Frees : Type 0)
      → MatchBool held (Frees × (after ≡ doing before rest (happenings.Unlock l ∷ [])))
      (Only (coming (counting true before) records before.progress) records after rest) → Adds 0 before after
  unlock_adds true l before records after rest Frees h = adds_is 0 before _ after h.1 (adds_none before _ refl refl)
  unlock_adds false l before records after rest Frees h = only_adds before _ after records rest refl refl h

  checked_adds : (empty : Bool) (before : Standing) (records : List Record) (after : Standing) (rest : List Record) (site : ℕ) (bytes : Bytes) (kind : Kind)
      → length before.scopes ≤ scoped_limit
      → MatchBool empty (Only before records after rest) (ChecksAt s site bytes kind None before records after rest)
      → Adds (if not empty then 1 else 0) before after
  checked_adds true before records after rest site bytes kind few h = only_adds before before after records rest refl refl h
  checked_adds false before records after rest site bytes kind few h = makes_adds _ _ h.0 before records after rest few h.1

  mark_adds : (m : Mark) (before : Standing) (records : List Record) (after : Standing) (rest : List Record)
      → MakesMark s m before records after rest
      → Adds 0 before after
  mark_adds m before records after rest h =
      only_adds before _ after records rest (counting_scopes h.0 before) (counted h.0 before) h.2

  call_adds : (site : ℕ) (c : Call) (before : Standing) (records : List Record) (after : Standing) (rest : List Record)
      → length before.scopes ≤ scoped_limit → StepsOfCall s site c before records after rest
      → Adds (if call_has_access c then 1 else 0) before after
  call_adds site (calls.Barrier b) before records after rest few h = only_adds before before after records rest refl refl h
  call_adds site (calls.Lock l) before records after rest few h = adds_is 0 before _ after h.2 (adds_none before _ refl refl)
  call_adds site (calls.Unlock l) before records after rest few h =
      unlock_adds (has_lock l before.progress.did) l before records after rest _ h
  call_adds site (calls.AssertWriter x scoped) before records after rest few h = makes_adds _ _ h.0 before records after rest few h.1
  call_adds site (calls.AssertAccess x scoped) before records after rest few h = makes_adds _ _ h.0 before records after rest few h.1
  call_adds site (calls.AssertBits x mask) before records after rest few h =
      let own = makes_adds _ _ h.1.0 before records h.0 rest few h.1.1 in
      adds_is 1 before _ after h.2 (record { scopes = own.scopes; most = own.most })
  call_adds site (calls.Mark m) before records after rest few h = mark_adds m before records after rest h
  call_adds site (calls.Check is_write x size) before records after rest few h =
      checked_adds (size == 0) before records after rest site _ _ few h

-- a scoped assertion makes an access, and puts one scope in force
record IsScope (st : Statement) : Type 0 where
  once : 1 ≤ statement_repeats 1 st
  begins : scopes_of st ≡ 1

abbrev Scopes : Statement → Option Scoped → Type 0
Scopes st None = scopes_of st ≡ 0
Scopes st (Some scoped) = IsScope st

scopes_are : (st : Statement) → Scopes st (scoped_assertion st)
scopes_are (tree.load_only l) = refl
scopes_are (tree.assign data_race a) = refl
scopes_are (tree.call (calls.Barrier b)) = refl
scopes_are (tree.call (calls.Lock l)) = refl
scopes_are (tree.call (calls.Unlock l)) = refl
scopes_are (tree.call (calls.AssertWriter x true)) = record { once = omega arith; begins = refl }
scopes_are (tree.call (calls.AssertWriter x false)) = refl
scopes_are (tree.call (calls.AssertAccess x true)) = record { once = omega arith; begins = refl }
scopes_are (tree.call (calls.AssertAccess x false)) = refl
scopes_are (tree.call (calls.AssertBits x mask)) = refl
scopes_are (tree.call (calls.Mark m)) = refl
scopes_are (tree.call (calls.Check is_write x size)) = refl
scopes_are (tree.if_block e body) = refl
scopes_are (tree.if_else e body otherwise) = refl
scopes_are (tree.for_turns r turns body) = refl

has_room : (statement : Statement) (scopes : ℕ) → StatementScopes scopes statement → scopes ≤ scoped_limit
    → scopes + scopes_of statement ≤ scoped_limit
has_room (tree.load_only l) scopes fits within = omega (arith, within)
has_room (tree.assign data_race a) scopes fits within = omega (arith, within)
has_room (tree.call c) scopes fits within = fits
has_room (tree.if_block e body) scopes fits within = omega (arith, within)
has_room (tree.if_else e body otherwise) scopes fits within = omega (arith, within)
has_room (tree.for_turns r turns body) scopes fits within = omega (arith, within)

module _ (s : Setting) where
  -- with so many scoped assertions in force a part adds so much
  abbrev AddsFrom : ℕ → ℕ → Steps → Type 0
  AddsFrom scopes n Part =
      (before : Standing) (records : List Record) (after : Standing) (rest : List Record) → length before.scopes ≡ scopes → Part before records after rest
      → Adds n before after

  turns_add : (Body : Steps) (scopes n : ℕ) → AddsFrom scopes n Body → (register turn left : ℕ)
      → AddsFrom scopes (left * n) (StepsOfTurns Body register turn left)
  turns_add Body scopes n each register turn zero before records after rest has h =
      adds_more 0 (zero * n) before after (omega arith) (adds_is 0 before _ after h.0 (adds_none before _ refl refl))
  turns_add Body scopes n each register turn (suc left) before records after rest has h =
      let first = each _ records h.0 h.1 has h.2 in
      let own : Adds n before h.0 = record { scopes = first.scopes; most = first.most } in
      let others = turns_add Body scopes n each register (suc turn) left h.0 h.1 after rest (ap (λ (l : List Begun). length l) own.scopes ∙ has) h.3 in
      let all : suc left * n ≡ left * n + n = suc-mul left n in
      adds_more (n + left * n) (suc left * n) before after (omega (arith, all)) (adds_both n (left * n) before h.0 after own others)

  in_block : (site : ℕ) (st : Statement) (scoped : Option Scoped) (scopes n : ℕ) (Own Later : Steps) → Scopes st scoped
      → scopes + scopes_of st ≤ scoped_limit
      → AddsFrom scopes (statement_repeats 1 st) Own → AddsFrom (scopes + scopes_of st) n Later
      → AddsFrom scopes (statement_repeats 1 st + n) (StepsInBlock s site scoped Own Later)
  in_block site st None scopes n Own Later is room own later before records after rest has h =
      let first = own before records h.0 h.1 has h.2 in
      let still : length h.0.scopes ≡ scopes + scopes_of st =
      let same : length h.0.scopes ≡ length before.scopes = ap (λ (l : List Begun). length l) first.scopes in omega (arith, is, has, same) in
      adds_both (statement_repeats 1 st) n before h.0 after first (later h.0 h.1 after rest still h.3)
  in_block site st (Some scoped) scopes n Own Later is room own later before records after rest has h =
      let begun : Begun = h.0 in
      let opened : Standing = h.1 in
      let closing : Standing = h.2 in
      let opens : OpensScope s before _ records begun opened h.3 = h.5 in
      let closes : ClosesScope s closing begun before.scopes h.4 after rest = h.7 in
      let at_open : length opened.outcomes ≡ length (before.outcomes ++ opens.passes.outcomes) = ap (λ (x : Standing). length x.outcomes) opens.comes_to in
      let parts = length-append before.outcomes opens.passes.outcomes in
      let many = check_many (checks_of s) before.scopes begun before.asked records opens.passes h.3 opens.check in
      let in_force : length opened.scopes ≡ length (before.scopes ++ begun ∷ []) = ap (λ (x : Standing). length x.scopes) opens.comes_to in
      let one_more = length-append before.scopes (begun ∷ []) in
      let one : scopes_of st ≡ 1 = is.begins in
      let inside = later opened h.3 closing h.4 (omega (arith, in_force, one_more, has, one)) h.6 in
      let inner = inside.most in
      let at_close : length after.outcomes ≡ length (closing.outcomes ++ closes.passes.outcomes) = ap (λ (x : Standing). length x.outcomes) closes.comes_to in
      let last = length-append closing.outcomes closes.passes.outcomes in
      let few = close_many (checks_of s) begun closes.silenced closing.asked h.4 closes.passes rest closes.close in
      let enough = is.once in record {
        scopes = ap (λ (x : Standing). x.scopes) closes.comes_to;
        most = omega (arith, at_open, parts, many, inner, at_close, last, few, enough, has, one, room);
      }

  chosen : (value n m : ℕ) (First Second : Type 0) (before after : Standing) → Chooses value First Second → (First → Adds n before after)
      → (Second → Adds m before after) → Adds (n + m) before after
  chosen value n m First Second before after h first second = elim h [
    | inl p ↦ adds_more n (n + m) before after (omega arith) (first p.1)
    | inr p ↦ adds_more m (n + m) before after (omega arith) (second p.1)
  ]

  mutual
    statement_adds : (st : Statement) (site scopes : ℕ) → StatementScopes scopes st → scopes ≤ scoped_limit
        → (before : Standing) (records : List Record) (after : Standing) (rest : List Record) → length before.scopes ≡ scopes
        → StepsOf s site st before records after rest
        → Adds (statement_repeats 1 st) before after
    statement_adds (tree.load_only l) site scopes fits within before records after rest has h =
        load_adds s site l before records h.0 after rest (omega (arith, has, within)) h.1
    statement_adds (tree.assign data_race a) site scopes fits within before records after rest has h =
        in_race_adds s site data_race a before records after rest (omega (arith, has, within)) h
    statement_adds (tree.call c) site scopes fits within before records after rest has h =
        call_adds s site c before records after rest (omega (arith, has, within)) h
    statement_adds (tree.if_block e body) site scopes fits within before records after rest has h =
        let first = expression_adds s site e before records h.0 h.1 h.2 (omega (arith, has, within)) h.3 in
        let still : length h.1.scopes ≡ scopes = ap (λ (l : List Begun). length l) first.scopes ∙ has in
        let second = chosen h.0 (block_repeats 1 body) 0 (StepsOfBlock s (after_condition site e) body h.1 h.2 after rest) ((after ≡ h.1) × (rest ≡ h.2)) h.1 after h.4
        (λ steps. block_adds body (after_condition site e) scopes fits within h.1 h.2 after rest still steps)
        (λ same. adds_is 0 h.1 h.1 after same.0 (adds_none h.1 h.1 refl refl)) in
        adds_more ((if expression_has_access e then 1 else 0) + (block_repeats 1 body + 0)) ((if expression_has_access e then 1 else 0) + block_repeats 1 body)
        before after (omega arith)
        (adds_both (if expression_has_access e then 1 else 0) (block_repeats 1 body + 0) before h.1 after first second)
    statement_adds (tree.if_else e body otherwise) site scopes fits within before records after rest has h =
        let first = expression_adds s site e before records h.0 h.1 h.2 (omega (arith, has, within)) h.3 in
        let still : length h.1.scopes ≡ scopes = ap (λ (l : List Begun). length l) first.scopes ∙ has in
        let second = chosen h.0 (block_repeats 1 body) (block_repeats 1 otherwise) (StepsOfBlock s (after_condition site e) body h.1 h.2 after rest)
        (StepsOfBlock s (after_condition site e + length (sites_of body)) otherwise h.1 h.2 after rest) h.1 after h.4
        (λ steps. block_adds body (after_condition site e) scopes fits.0 within h.1 h.2 after rest still steps)
        (λ steps. block_adds otherwise (after_condition site e + length (sites_of body)) scopes fits.1 within h.1 h.2 after rest still steps) in
        adds_more ((if expression_has_access e then 1 else 0) + (block_repeats 1 body + block_repeats 1 otherwise))
        ((if expression_has_access e then 1 else 0) + block_repeats 1 body + block_repeats 1 otherwise) before after (omega arith)
        (adds_both (if expression_has_access e then 1 else 0) (block_repeats 1 body + block_repeats 1 otherwise) before h.1 after first second)
    statement_adds (tree.for_turns register turns body) site scopes fits within before records after rest has h =
        let all : block_repeats (1 * turns) body ≡ turns * block_repeats 1 body =
        scaled (1 * turns) body ∙ ap (λ (k : ℕ). k * block_repeats 1 body) (one-mul turns) in
        adds_more (turns * block_repeats 1 body) (block_repeats (1 * turns) body) before after (omega (arith, all))
        (turns_add (λ b r a e. StepsOfBlock s site body b r a e) scopes (block_repeats 1 body)
        (λ b r a e its steps. block_adds body site scopes fits within b r a e its steps) register 0 turns before records after rest has h)

    block_adds : (body : Block) (site scopes : ℕ) → BlockScopes scopes body → scopes ≤ scoped_limit
        → (before : Standing) (records : List Record) (after : Standing) (rest : List Record) → length before.scopes ≡ scopes
        → StepsOfBlock s site body before records after rest → Adds (block_repeats 1 body) before after
    block_adds tree.empty site scopes fits within before records after rest has h =
        adds_is 0 before before after h.0 (adds_none before before refl refl)
    block_adds (tree.first st more) site scopes fits within before records after rest has h =
        in_block site st (scoped_assertion st) scopes (block_repeats 1 more) (λ b r a e. StepsOf s site st b r a e)
        (λ b r a e. StepsOfBlock s (site + length (accesses_of st)) more b r a e) (scopes_are st) (has_room st scopes fits.0 within)
        (λ b r a e its steps. statement_adds st site scopes fits.0 within b r a e its steps)
        (λ b r a e its steps. block_adds more (site + length (accesses_of st)) (scopes + scopes_of st) fits.1 (has_room st scopes fits.0 within) b r a e its steps)
        before records after rest has h

pub few_outcomes : (s : Setting) (registers : ℕ) (body : Block) (records : List Record) → BlockScopes 0 body
    → (whole : SpellsAll s registers body records)
    → length whole.end.outcomes ≤ 9 * block_repeats 1 body
few_outcomes s registers body records fits whole =
    let all = (block_adds s body 0 0 fits (omega arith) (at_first registers) records whole.end [] refl whole.steps).most in omega (arith, all)
