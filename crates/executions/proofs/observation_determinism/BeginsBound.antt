-- A text begins at most as many accesses as its statements are repeated.
use Rattle.std.proofs.Common.{◌≡◌, ◌∙◌, ◌≤◌, ◌+◌, ◌*◌, ◌==◌, ◌++◌, ◌∷◌, [], ℕ, zero, suc, Bool, true, false, List, Option, None, Some, ap, arith}
use Rattle.std.proofs.Common.{cond, inl, inr, length, not, refl, replicate, subst, sym, if◌then◌else◌}
use Rattle.std.proofs.Math.Nat.{mul-one, mul-zero, mul_assoc, one-mul, suc-mul, zero-mul}
use Rattle.std.proofs.lemmas.List.Sums.{sum_by-append}
use native.Mathlib.Nat.{mul-add}
use Rattle.access_types.specs.Access.{Access}
use Rattle.access_types.specs.declared.history.Happening.{Happening}
use Rattle.access_types.specs.declared.history.Happening.TheVariants as happenings
use Rattle.access_types.specs.declared.history.Mark.{Mark}
use Rattle.access_types.specs.declared.history.Mark.TheVariants as marks
use Rattle.litmus_semantics.specs.Assignments.{Assigns, AssignsIn}
use Rattle.litmus_semantics.specs.Calls.{Scoped, call_does, scoped_access, scoped_assertion}
use Rattle.litmus_semantics.specs.Loads as loads
use Rattle.litmus_semantics.specs.Loads.{ComparesAndWrites, Evaluates, Fetches, Loads, in_data_races, load_in}
use Rattle.litmus_semantics.specs.Meaning.{Chooses, InBlock, Means, MeansBlock, Turns, after_condition}
use Rattle.litmus_semantics.specs.Task.{Progress, Setting, assigning, doing, has_lock}
use Rattle.litmus_syntax.specs.Limits.{block_repeats, own_repeats, statement_repeats}
use Rattle.litmus_syntax.specs.Sites.{accesses_of, assignment_has_access, call_has_access, expression_has_access, sites_of}
use Rattle.litmus_syntax.specs.Tree.{Assignment, Block, Expression, Fetch, Load, Statement}
use Rattle.litmus_syntax.specs.Tree as tree
use Rattle.litmus_syntax.specs.declared.statement.Call.{Call}
use Rattle.litmus_syntax.specs.declared.statement.Call.TheVariants as calls
use Rattle.slot_table.specs.declared.records.Record.{Record}
use Rattle.program_order.specs.Standing as order
use Rattle.program_order.specs.WrittenOrder.{SpellsAll, WrittenOrder, at_first, stands_after}
use Rattle.program_order.proofs.WayLemmas.{did_by_then}
use Rattle.executions.specs.observation_determinism.Begins.{begins_in, is_begin}

-- one, if there is one
abbrev one_if : Bool → ℕ
one_if b = if b then 1 else 0

both_begin : (first second : List Happening) → begins_in (first ++ second) ≡ begins_in first + begins_in second
both_begin first second = sum_by-append (λ (h : Happening). cond (is_begin h) 1 0) first second

marks_begin : (count : ℕ) (m : Mark) → begins_in (replicate count (happenings.Mark m)) ≡ 0
marks_begin zero m = refl
marks_begin (suc count) m =
    let more : begins_in (replicate count (happenings.Mark m)) ≡ 0 = marks_begin count m in
    let all : begins_in (happenings.Mark m ∷ replicate count (happenings.Mark m)) ≡ begins_in (happenings.Mark m ∷ []) + begins_in
    (replicate count (happenings.Mark m)) =
    both_begin (happenings.Mark m ∷ []) (replicate count (happenings.Mark m)) in
    let none : begins_in (happenings.Mark m ∷ []) ≡ 0 = refl in
    omega (arith, all, more, none)

-- so many more began
abbrev Grows : ℕ → Progress → Progress → Type 0
Grows n before after = begins_in after.did ≤ begins_in before.did + n

grows_by : (n : ℕ) (before : Progress) (does : List Happening) → begins_in does ≤ n → Grows n before (doing before does)
grows_by n before does few =
    let all : begins_in (before.did ++ does) ≡ begins_in before.did + begins_in does = both_begin before.did does in omega (arith, all, few)

grows_is : (n : ℕ) (before after is : Progress) → after ≡ is → Grows n before is → Grows n before after
grows_is n before after is same h = subst (λ (p : Progress). Grows n before p) (sym same) h

grows_on : (n m : ℕ) (before between after : Progress) → Grows n before between → Grows m between after → Grows (n + m) before after
grows_on n m before between after p q = omega (arith, p, q)

grows_more : (n m : ℕ) (before after : Progress) → n ≤ m → Grows n before after → Grows m before after
grows_more n m before after fewer p = omega (arith, p, fewer)

module _ (s : Setting) where
  fetch_begins : (site : ℕ) (f : Fetch) (before : Progress) (old : ℕ) (does : List Happening) → Fetches s site f before old does → begins_in does ≡ 1
  fetch_begins site (tree.read form x) before old does h = ap begins_in h ∙ refl
  fetch_begins site (tree.exchange x e) before old does h = ap begins_in h ∙ refl
  fetch_begins site (tree.compare_exchange x e f) before old does (loads.same is h) = ap begins_in h ∙ refl
  fetch_begins site (tree.compare_exchange x e f) before old does (loads.other isnt h) = ap begins_in h ∙ refl

  load_grows : (site : ℕ) (l : Load) (before : Progress) (loaded : ℕ) (after : Progress) → Loads s site l before loaded after → Grows 1 before after
  load_grows site l before loaded after h =
      let off : List Happening = replicate l.data_races (happenings.Mark marks.Disable) in
      let on : List Happening = replicate l.data_races (happenings.Mark marks.Enable) in
      let first : begins_in (in_data_races l.data_races h.does) ≡ begins_in (off ++ h.does) + begins_in on = both_begin (off ++ h.does) on in
      let second : begins_in (off ++ h.does) ≡ begins_in off + begins_in h.does = both_begin off h.does in
      let none : begins_in off ≡ 0 = marks_begin l.data_races marks.Disable in
      let none_on : begins_in on ≡ 0 = marks_begin l.data_races marks.Enable in
      let one : begins_in h.does ≡ 1 = fetch_begins site l.fetch before h.old h.does h.fetches in
      grows_is 1 before after (doing before (in_data_races l.data_races h.does)) h.comes_to
      (grows_by 1 before (in_data_races l.data_races h.does) (omega (arith, first, second, none, none_on, one)))

  expression_grows : (site : ℕ) (e : Expression) (before : Progress) (value : ℕ) (after : Progress) → Evaluates s site e before value after
      → Grows (one_if (expression_has_access e)) before after
  expression_grows site (tree.pure e) before value after h = grows_is 0 before after before h.1 (omega arith)
  expression_grows site (tree.loading e) before value after h = load_grows site (load_in e) before h.0 after h.1

  assigns_grow : (site : ℕ) (a : Assignment) (before after : Progress) → Assigns s site a before after → Grows (one_if (assignment_has_access a)) before after
  assigns_grow site (tree.to_register r e) before after h =
      grows_is (one_if (expression_has_access e)) before after (assigning h.1 r h.0) h.3 (expression_grows site e before h.0 h.1 h.2)
  assigns_grow site (tree.write form x e) before after h = grows_is 1 before after _ h (grows_by 1 before _ (omega arith))
  assigns_grow site (tree.add x e) before after h = grows_is 1 before after _ h.1 (grows_by 1 before _ (omega arith))
  assigns_grow site (tree.increment x) before after h = grows_is 1 before after _ h.1 (grows_by 1 before _ (omega arith))
  assigns_grow site (tree.atomic_add e x) before after h = grows_is 1 before after _ h.1 (grows_by 1 before _ (omega arith))
  assigns_grow site (tree.atomic_increment x) before after h = grows_is 1 before after _ h.1 (grows_by 1 before _ (omega arith))
  assigns_grow site (tree.atomic_decrement x) before after h = grows_is 1 before after _ h.1 (grows_by 1 before _ (omega arith))

  in_race : (data_race : Bool) (m : Mark) (before : Progress) → Grows 0 before (doing before (if data_race then happenings.Mark m ∷ [] else []))
  in_race true m before = grows_by 0 before (happenings.Mark m ∷ []) (omega arith)
  in_race false m before = grows_by 0 before [] (omega arith)

  assignment_grows : (site : ℕ) (data_race : Bool) (a : Assignment) (before after : Progress) → AssignsIn s site data_race a before after
      → Grows (one_if (assignment_has_access a)) before after
  assignment_grows site data_race a before after h =
      let start : Progress = doing before (if data_race then happenings.Mark marks.Disable ∷ [] else []) in
      let first : Grows 0 before start = in_race data_race marks.Disable before in
      let second : Grows (one_if (assignment_has_access a)) start h.0 = assigns_grow site a start h.0 h.1 in
      let third : Grows 0 h.0 (doing h.0 (if data_race then happenings.Mark marks.Enable ∷ [] else [])) = in_race data_race marks.Enable h.0 in
      grows_is (one_if (assignment_has_access a)) before after (doing h.0 (if data_race then happenings.Mark marks.Enable ∷ [] else [])) h.2
      (omega (arith, first, second, third))

  unlock_begins : (has : Bool) (l : ℕ) → begins_in (if has then happenings.Unlock l ∷ [] else []) ≤ 0
  unlock_begins true l = omega arith
  unlock_begins false l = omega arith

  sized_begins : (empty : Bool) (a : Access) → begins_in (if empty then [] else (happenings.Begin a ∷ happenings.End a ∷ [])) ≤ one_if (not empty)
  sized_begins true a = omega arith
  sized_begins false a = omega arith

  call_begins : (site : ℕ) (c : Call) (before : Progress) → begins_in (call_does s site c before) ≤ one_if (call_has_access c)
  call_begins site (calls.Barrier b) before = omega arith
  call_begins site (calls.Lock l) before = omega arith
  call_begins site (calls.Unlock l) before = unlock_begins (has_lock l before.did) l
  call_begins site (calls.AssertWriter x scoped) before = omega arith
  call_begins site (calls.AssertAccess x scoped) before = omega arith
  call_begins site (calls.AssertBits x mask) before = omega arith
  call_begins site (calls.Mark m) before = omega arith
  call_begins site (calls.Check is_write x size) before = sized_begins (size == 0) _

-- what is repeated so often as one thing and as another is so as both
two_scaled : (turns x y one other : ℕ) → x ≡ turns * one → y ≡ turns * other → x + y ≡ turns * (one + other)
two_scaled turns x y one other p q = let all : turns * (one + other) ≡ turns * one + turns * other = mul-add turns one other in omega (arith, p, q, all)

own_scaled : (turns : ℕ) (b : Bool) → (if b then turns else 0) ≡ turns * (if b then 1 else 0)
own_scaled turns true = sym (mul-one turns)
own_scaled turns false = sym (mul-zero turns)

loop_scaled : (turns inner x y n : ℕ) → x ≡ turns * inner * n → y ≡ 1 * inner * n → x ≡ turns * y
loop_scaled turns inner x y n p q =
    let once : y ≡ inner * n = q ∙ ap (λ (k : ℕ). k * n) (one-mul inner) in
    p ∙ (mul_assoc turns inner n ∙ ap (λ (k : ℕ). turns * k) (sym once))

mutual
  scaled_statement : (turns : ℕ) (st : Statement) → statement_repeats turns st ≡ turns * statement_repeats 1 st
  scaled_statement turns (tree.load_only l) = own_scaled turns true
  scaled_statement turns (tree.assign data_race a) = own_scaled turns (assignment_has_access a)
  scaled_statement turns (tree.call c) = own_scaled turns (call_has_access c)
  scaled_statement turns (tree.if_block e body) =
      two_scaled turns (own_repeats turns (tree.if_block e body)) (block_repeats turns body) (own_repeats 1 (tree.if_block e body)) (block_repeats 1 body)
      (own_scaled turns (expression_has_access e)) (scaled turns body)
  scaled_statement turns (tree.if_else e body otherwise) =
      two_scaled turns (own_repeats turns (tree.if_else e body otherwise) + block_repeats turns body) (block_repeats turns otherwise)
      (own_repeats 1 (tree.if_else e body otherwise) + block_repeats 1 body) (block_repeats 1 otherwise)
      (two_scaled turns (own_repeats turns (tree.if_else e body otherwise)) (block_repeats turns body) (own_repeats 1 (tree.if_else e body otherwise))
      (block_repeats 1 body) (own_scaled turns (expression_has_access e)) (scaled turns body)) (scaled turns otherwise)
  scaled_statement turns (tree.for_turns register inner body) =
      loop_scaled turns inner (block_repeats (turns * inner) body) (block_repeats (1 * inner) body) (block_repeats 1 body)
      (scaled (turns * inner) body) (scaled (1 * inner) body)

  pub scaled : (turns : ℕ) (body : Block) → block_repeats turns body ≡ turns * block_repeats 1 body
  scaled turns tree.empty = sym (mul-zero turns)
  scaled turns (tree.first st more) =
      two_scaled turns (statement_repeats turns st) (block_repeats turns more) (statement_repeats 1 st) (block_repeats 1 more)
      (scaled_statement turns st) (scaled turns more)

-- a scoped assertion makes an access
scoped_once : (st : Statement) (scoped : Scoped) → scoped_assertion st ≡ Some scoped → 1 ≤ statement_repeats 1 st
scoped_once (tree.load_only l) scoped is = omega arith
scoped_once (tree.assign data_race a) scoped is = absurd (let no : None ≡ Some scoped = is in cc)
scoped_once (tree.call (calls.Barrier b)) scoped is = absurd (let no : None ≡ Some scoped = is in cc)
scoped_once (tree.call (calls.Lock l)) scoped is = absurd (let no : None ≡ Some scoped = is in cc)
scoped_once (tree.call (calls.Unlock l)) scoped is = absurd (let no : None ≡ Some scoped = is in cc)
scoped_once (tree.call (calls.AssertWriter x b)) scoped is = omega arith
scoped_once (tree.call (calls.AssertAccess x b)) scoped is = omega arith
scoped_once (tree.call (calls.AssertBits x mask)) scoped is = omega arith
scoped_once (tree.call (calls.Mark m)) scoped is = absurd (let no : None ≡ Some scoped = is in cc)
scoped_once (tree.call (calls.Check is_write x size)) scoped is = absurd (let no : None ≡ Some scoped = is in cc)
scoped_once (tree.if_block e body) scoped is = absurd (let no : None ≡ Some scoped = is in cc)
scoped_once (tree.if_else e body otherwise) scoped is = absurd (let no : None ≡ Some scoped = is in cc)
scoped_once (tree.for_turns register inner body) scoped is = absurd (let no : None ≡ Some scoped = is in cc)

module _ (s : Setting) where
  turns_grow : (Body : Progress → Progress → Type 0) (n : ℕ) → ((before after : Progress) → Body before after → Grows n before after)
      → (register turn left : ℕ) (before after : Progress) → Turns Body register turn left before after → Grows (left * n) before after
  turns_grow Body n each register turn zero before after h =
      grows_is (zero * n) before after (assigning before register turn) h (let none : zero * n ≡ 0 = zero-mul n in omega (arith, none))
  turns_grow Body n each register turn (suc left) before after h =
      let first : Grows n (assigning before register turn) h.0 = each (assigning before register turn) h.0 h.1 in
      let second : Grows (left * n) h.0 after = turns_grow Body n each register (suc turn) left h.0 after h.2 in
      let all : suc left * n ≡ left * n + n = suc-mul left n in
      omega (arith, first, second, all)

  in_block : (site : ℕ) (scoped : Option Scoped) (own n : ℕ) (First Rest : Progress → Progress → Type 0) → ((one : Scoped) → scoped ≡ Some one → 1 ≤ own)
      → ((before after : Progress) → First before after → Grows own before after) → ((before after : Progress) → Rest before after → Grows n before after)
      → (before after : Progress) → InBlock s site scoped First Rest before after → Grows (own + n) before after
  in_block site None own n First Rest has first rest before after h =
      let one : Grows own before h.0 = first before h.0 h.1 in
      let other : Grows n h.0 after = rest h.0 after h.2 in omega (arith, one, other)
  in_block site (Some scoped) own n First Rest has first rest before after h =
      let enough : 1 ≤ own = has scoped refl in
      let a : Access = scoped_access s site before scoped in
      let start : Progress = doing before (happenings.Begin a ∷ []) in
      let began : Grows 1 before start = grows_by 1 before (happenings.Begin a ∷ []) (omega arith) in
      let inner : Grows n start h.0 = rest start h.0 h.1 in
      let ended : Grows 0 h.0 (doing h.0 (happenings.End a ∷ [])) = grows_by 0 h.0 (happenings.End a ∷ []) (omega arith) in
      grows_is (own + n) before after (doing h.0 (happenings.End a ∷ [])) h.2 (omega (arith, enough, began, inner, ended))

  either : (value n m : ℕ) (First Second : Type 0) (before after : Progress) → Chooses value First Second → (First → Grows n before after)
      → (Second → Grows m before after) → Grows (n + m) before after
  either value n m First Second before after h first second = elim h [
    | inl p ↦ let grows : Grows n before after = first p.1 in omega (arith, grows)
    | inr p ↦ let grows : Grows m before after = second p.1 in omega (arith, grows)
  ]

  mutual
    statement_grows : (site : ℕ) (st : Statement) (before after : Progress) → Means s site st before after → Grows (statement_repeats 1 st) before after
    statement_grows site (tree.load_only l) before after h = load_grows s site l before h.0 after h.1
    statement_grows site (tree.assign data_race a) before after h = assignment_grows s site data_race a before after h
    statement_grows site (tree.call c) before after h =
        grows_is (one_if (call_has_access c)) before after (doing before (call_does s site c before)) h
        (grows_by (one_if (call_has_access c)) before (call_does s site c before) (call_begins s site c before))
    statement_grows site (tree.if_block e body) before after h =
        let first : Grows (one_if (expression_has_access e)) before h.1 = expression_grows s site e before h.0 h.1 h.2 in
        let second : Grows (block_repeats 1 body + 0) h.1 after =
        either h.0 (block_repeats 1 body) 0 (MeansBlock s (after_condition site e) body h.1 after) (after ≡ h.1) h.1 after h.3
        (λ means. block_grows (after_condition site e) body h.1 after means) (λ same. grows_is 0 h.1 after h.1 same (omega arith)) in
        omega (arith, first, second)
    statement_grows site (tree.if_else e body otherwise) before after h =
        let first : Grows (one_if (expression_has_access e)) before h.1 = expression_grows s site e before h.0 h.1 h.2 in
        let second : Grows (block_repeats 1 body + block_repeats 1 otherwise) h.1 after =
        either h.0 (block_repeats 1 body) (block_repeats 1 otherwise) (MeansBlock s (after_condition site e) body h.1 after)
        (MeansBlock s (after_condition site e + length (sites_of body)) otherwise h.1 after) h.1 after h.3
        (λ means. block_grows (after_condition site e) body h.1 after means)
        (λ means. block_grows (after_condition site e + length (sites_of body)) otherwise h.1 after means) in
        omega (arith, first, second)
    statement_grows site (tree.for_turns register turns body) before after h =
        let grows : Grows (turns * block_repeats 1 body) before after =
        turns_grow (λ start end. MeansBlock s site body start end) (block_repeats 1 body)
        (λ b a means. block_grows site body b a means) register 0 turns before after h in
        let all : block_repeats (1 * turns) body ≡ turns * block_repeats 1 body =
        scaled (1 * turns) body ∙ ap (λ (k : ℕ). k * block_repeats 1 body) (one-mul turns) in
        omega (arith, grows, all)

    block_grows : (site : ℕ) (body : Block) (before after : Progress) → MeansBlock s site body before after → Grows (block_repeats 1 body) before after
    block_grows site tree.empty before after h = grows_is 0 before after before h (omega arith)
    block_grows site (tree.first st more) before after h =
        in_block site (scoped_assertion st) (statement_repeats 1 st) (block_repeats 1 more) (λ start end. Means s site st start end)
        (λ start end. MeansBlock s (site + length (accesses_of st)) more start end) (scoped_once st)
        (λ b a means. statement_grows site st b a means) (λ b a means. block_grows (site + length (accesses_of st)) more b a means) before after h

-- by its records a text began no more
pub few_begin : (s : order.Setting) (registers : ℕ) (body : Block) (records : List Record) (written : WrittenOrder s registers body records)
    → ((spells : SpellsAll s registers body (records ++ written.more)) → MeansBlock s.text 0 body (at_first registers).progress spells.end.progress)
    → begins_in (stands_after written).progress.did ≤ block_repeats 1 body
few_begin s registers body records written means =
    let all : Grows (block_repeats 1 body) (at_first registers).progress written.whole.end.progress =
    block_grows s.text 0 body (at_first registers).progress written.whole.end.progress (means written.whole) in
    let by_then = did_by_then s registers body records written in
    let parts : begins_in written.whole.end.progress.did ≡ begins_in (stands_after written).progress.did + begins_in by_then.0 =
    ap begins_in by_then.1 ∙ both_begin (stands_after written).progress.did by_then.0 in
    let none : begins_in (at_first registers).progress.did ≡ 0 = refl in
    omega (arith, all, parts, none)
