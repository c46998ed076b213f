-- While an access is in progress its task has but the access's own moments, scoped assertions aside: by what its text
-- means.
use Rattle.std.proofs.Common.{◌≡◌, ◌∙◌, ◌<◌, ◌+◌, ◌==◌, ◌∷◌, ◌++◌, [], inl, inr, ℕ, zero, suc, Bool, true, false, All, IfSome, IsTrue, List, Option}
use Rattle.std.proofs.Common.{None, Some, MatchOption, ap, append_assoc, drop, length, refl, replicate, slice_get, subst, sym, take, if◌then◌else◌}
use Rattle.std.proofs.lemmas.Bool.{eq-eqb}
use Rattle.std.proofs.lemmas.List.{append-nil}
use Rattle.std.proofs.lemmas.Option.{get_or_from_slice_get, slice_get_within}
use Rattle.access_types.specs.Access.{Access}
use Rattle.access_types.specs.History.{History, InProgress, beginning, ending, happenings_of}
use Rattle.access_types.specs.Kind.{is_scoped}
use Rattle.access_types.specs.Race.{bytes_of}
use Rattle.access_types.specs.declared.history.Happening.{Happening}
use Rattle.access_types.specs.declared.history.Happening.TheVariants as happenings
use Rattle.access_types.specs.declared.history.Mark.{Mark}
use Rattle.access_types.specs.declared.history.Mark.TheVariants as marks
use Rattle.access_types.specs.declared.kind.Claim.TheVariants.{NoAccesses, NoWrites}
use Rattle.access_types.specs.declared.kind.Kind.TheVariants as kinds
use Rattle.access_types.specs.declared.history.Moment.{Moment}
use Rattle.litmus_semantics.specs.Assignments.{Assigns, AssignsIn, writing}
use Rattle.litmus_semantics.specs.Calls.{Scoped, call_does, check_kind, checked_bytes, scoped_access, scoped_assertion}
use Rattle.litmus_semantics.specs.Loads as loads
use Rattle.litmus_semantics.specs.Loads.{ComparesAndWrites, Evaluates, Fetches, Loads, load_in}
use Rattle.litmus_semantics.specs.Meaning.{Chooses, InBlock, Means, MeansBlock, Turns, after_condition}
use Rattle.litmus_semantics.specs.RunOfProgram.{DoesNothingElse, IsOwn}
use Rattle.litmus_semantics.specs.Task.{Progress, Setting, access_now, assigning, bytes_in, doing, has_lock}
use Rattle.litmus_syntax.specs.Sites.{accesses_of, sites_of}
use Rattle.litmus_syntax.specs.Tree.{Assignment, Block, Expression, Fetch, Load, Statement}
use Rattle.litmus_syntax.specs.Tree as tree
use Rattle.litmus_syntax.specs.declared.statement.Call.{Call}
use Rattle.litmus_syntax.specs.declared.statement.Call.TheVariants as calls
use Rattle.slot_table.specs.declared.records.Record.{Record}
use Rattle.program_order.proofs.MeaningLemmas.{whole_means}
use Rattle.executions.specs.execution.Run.{Run, task_of, task_setting}
use Rattle.executions.specs.execution.Execution.{Execution}
use Rattle.executions.specs.execution.Observed.{history_of, made_by}
use Rattle.executions.proofs.execution.Histories.{did_of_all, has_own, of_both, of_task, own_has}
use Rattle.executions.proofs.execution.Intervals.{Has, contains_has, has_contains}
use Rattle.soundness.proofs.Opens.{has_split}

-- what follows on the begin of an access: its reads and writes, and its end
abbrev To : Access → List Happening → Type 0
To a [] = ⊥
To a (happenings.Read bytes value ∷ later) = (bytes ≡ bytes_of a) × To a later
To a (happenings.Write bytes value ∷ later) = (bytes ≡ bytes_of a) × To a later
To a (happenings.End b ∷ later) = b ≡ a
To a (happenings.Begin b ∷ later) = ⊥
To a (happenings.Lock lock ∷ later) = ⊥
To a (happenings.Unlock lock ∷ later) = ⊥
To a (happenings.Mark mark ∷ later) = ⊥

abbrev BeginsTo : Happening → List Happening → Type 0
BeginsTo (happenings.Begin a) later = ¬ IsTrue (is_scoped a.kind) → To a later
BeginsTo happening later = Unit {0}

-- so it is of each access that begins, scoped assertions aside
abbrev AreAlone : List Happening → Type 0
AreAlone [] = Unit {0}
AreAlone (first ∷ did) = BeginsTo first did × AreAlone did

to_more : (a : Access) (did more : List Happening) → To a did → To a (did ++ more)
to_more a [] more h = absurd h
to_more a (happenings.Read bytes value ∷ did) more h = (h.0, to_more a did more h.1)
to_more a (happenings.Write bytes value ∷ did) more h = (h.0, to_more a did more h.1)
to_more a (happenings.End b ∷ did) more h = h
to_more a (happenings.Begin b ∷ did) more h = absurd h
to_more a (happenings.Lock lock ∷ did) more h = absurd h
to_more a (happenings.Unlock lock ∷ did) more h = absurd h
to_more a (happenings.Mark mark ∷ did) more h = absurd h

begins_more : (first : Happening) (did more : List Happening) → BeginsTo first did → BeginsTo first (did ++ more)
begins_more (happenings.Begin a) did more h = λ plain. to_more a did more (h plain)
begins_more (happenings.Read bytes value) did more h = tt
begins_more (happenings.Write bytes value) did more h = tt
begins_more (happenings.End b) did more h = tt
begins_more (happenings.Lock lock) did more h = tt
begins_more (happenings.Unlock lock) did more h = tt
begins_more (happenings.Mark mark) did more h = tt

alone_both : (first second : List Happening) → AreAlone first → AreAlone second → AreAlone (first ++ second)
alone_both [] second one two = two
alone_both (x ∷ first) second one two = (begins_more x first second one.0, alone_both first second one.1 two)

alone_marks : (count : ℕ) (m : Mark) → AreAlone (replicate count (happenings.Mark m))
alone_marks zero m = tt
alone_marks (suc count) m = (tt, alone_marks count m)

reads_so : (a : Access) (value : ℕ) (does : List Happening) → does ≡ loads.reading a value → AreAlone does
reads_so a value does is = subst (λ (d : List Happening). AreAlone d) (sym is) (λ plain. (refl, refl), (tt, (tt, tt)))

updates_so : (a : Access) (old new : ℕ) (does : List Happening) → does ≡ loads.updating a old new → AreAlone does
updates_so a old new does is = subst (λ (d : List Happening). AreAlone d) (sym is) (λ plain. (refl, (refl, refl)), (tt, (tt, (tt, tt))))

-- what a part of a text does
record Does (before after : Progress) : Type 0 where
  new : List Happening
  is : after.did ≡ before.did ++ new
  alone : AreAlone new

nothing : (before after : Progress) → after.did ≡ before.did → Does before after
nothing before after same = record { new = []; is = same ∙ sym (append-nil before.did); alone = tt }

this : (before after : Progress) (new : List Happening) → after ≡ doing before new → AreAlone new → Does before after
this before after new is alone = record { new = new; is = ap (λ (p : Progress). p.did) is; alone = alone }

writes_once : (before after : Progress) (a : Access) (value : ℕ) → after ≡ doing before (writing a value) → Does before after
writes_once before after a value is = this before after (writing a value) is (λ plain. (refl, refl), (tt, (tt, tt)))

updates_once : (before after : Progress) (a : Access) (old new : ℕ) → after ≡ doing before (loads.updating a old new) → Does before after
updates_once before after a old new is = this before after (loads.updating a old new) is (updates_so a old new (loads.updating a old new) refl)

one_then : (before between after : Progress) → Does before between → Does between after → Does before after
one_then before between after p q = record {
  new = p.new ++ q.new;
  is = q.is ∙ (ap (λ (d : List Happening). d ++ q.new) p.is ∙ append_assoc before.did p.new q.new);
  alone = alone_both p.new q.new p.alone q.alone;
}

module _ (s : Setting) where
  compared : (a : Access) (expected replacement old : ℕ) (does : List Happening) → ComparesAndWrites a expected replacement old does → AreAlone does
  compared a expected replacement old does (loads.same is does_so) = updates_so a old replacement does does_so
  compared a expected replacement old does (loads.other is does_so) = reads_so a old does does_so

  fetched : (site : ℕ) (fetch : Fetch) (before : Progress) (old : ℕ) (does : List Happening) → Fetches s site fetch before old does → AreAlone does
  fetched site (tree.read form x) before old does h = reads_so _ old does h
  fetched site (tree.exchange x e) before old does h = updates_so _ old _ does h
  fetched site (tree.compare_exchange x e f) before old does h = compared _ _ _ old does h

  by_load : (site : ℕ) (load : Load) (before : Progress) (loaded : ℕ) (after : Progress) → Loads s site load before loaded after → Does before after
  by_load site load before loaded after h =
      let off : List Happening = replicate load.data_races (happenings.Mark marks.Disable) in
      let on : List Happening = replicate load.data_races (happenings.Mark marks.Enable) in
      this before after ((off ++ h.does) ++ on) h.comes_to
      (alone_both (off ++ h.does) on
      (alone_both off h.does (alone_marks load.data_races marks.Disable) (fetched site load.fetch before h.old h.does h.fetches))
      (alone_marks load.data_races marks.Enable))

  by_expression : (site : ℕ) (e : Expression) (before : Progress) (value : ℕ) (after : Progress) → Evaluates s site e before value after → Does before after
  by_expression site (tree.pure e) before value after h = nothing before after (ap (λ (p : Progress). p.did) h.1)
  by_expression site (tree.loading e) before value after h = by_load site (load_in e) before h.0 after h.1

  by_assignment : (site : ℕ) (a : Assignment) (before after : Progress) → Assigns s site a before after → Does before after
  by_assignment site (tree.to_register r e) before after h =
      one_then before h.1 after (by_expression site e before h.0 h.1 h.2) (nothing h.1 after (ap (λ (p : Progress). p.did) h.3))
  by_assignment site (tree.write form x e) before after h = writes_once before after _ _ h
  by_assignment site (tree.add x e) before after h = updates_once before after _ h.0 _ h.1
  by_assignment site (tree.increment x) before after h = updates_once before after _ h.0 _ h.1
  by_assignment site (tree.atomic_add e x) before after h = updates_once before after _ h.0 _ h.1
  by_assignment site (tree.atomic_increment x) before after h = updates_once before after _ h.0 _ h.1
  by_assignment site (tree.atomic_decrement x) before after h = updates_once before after _ h.0 _ h.1

  alone_mark : (b : Bool) (m : Mark) → AreAlone (if b then happenings.Mark m ∷ [] else [])
  alone_mark true m = (tt, tt)
  alone_mark false m = tt

  by_data_race : (site : ℕ) (data_race : Bool) (a : Assignment) (before after : Progress) → AssignsIn s site data_race a before after → Does before after
  by_data_race site data_race a before after h =
      let off : List Happening = if data_race then happenings.Mark marks.Disable ∷ [] else [] in
      let on : List Happening = if data_race then happenings.Mark marks.Enable ∷ [] else [] in
      one_then before (doing before off) after (this before (doing before off) off refl (alone_mark data_race marks.Disable))
      (one_then (doing before off) h.0 after (by_assignment site a (doing before off) h.0 h.1) (this h.0 after on h.2 (alone_mark data_race marks.Enable)))

  alone_checking : (a : Access) → AreAlone (happenings.Begin a ∷ happenings.End a ∷ [])
  alone_checking a = (λ plain. refl, (tt, tt))

  alone_unlock : (has : Bool) (lock : ℕ) → AreAlone (if has then happenings.Unlock lock ∷ [] else [])
  alone_unlock true lock = (tt, tt)
  alone_unlock false lock = tt

  alone_check : (empty : Bool) (a : Access) → AreAlone (if empty then [] else happenings.Begin a ∷ happenings.End a ∷ [])
  alone_check true a = tt
  alone_check false a = alone_checking a

  alone_call : (site : ℕ) (c : Call) (before : Progress) → AreAlone (call_does s site c before)
  alone_call site (calls.Barrier b) before = tt
  alone_call site (calls.Lock l) before = (tt, tt)
  alone_call site (calls.Unlock l) before = alone_unlock (has_lock l before.did) l
  alone_call site (calls.AssertWriter x scoped) before = alone_checking (access_now s site before (bytes_in s x) (kinds.Assert NoWrites) None)
  alone_call site (calls.AssertAccess x scoped) before = alone_checking (access_now s site before (bytes_in s x) (kinds.Assert NoAccesses) None)
  alone_call site (calls.AssertBits x mask) before = (λ plain. refl, (tt, (tt, tt)))
  alone_call site (calls.Mark m) before = (tt, tt)
  alone_call site (calls.Check is_write x size) before =
      alone_check (size == 0) (access_now s site before (checked_bytes s x size) (check_kind is_write) None)

  by_turns : (Body : Progress → Progress → Type 0) → ((before after : Progress) → Body before after → Does before after) → (r turn left : ℕ) (before after : Progress)
      → Turns Body r turn left before after → Does before after
  by_turns Body each r turn zero before after h = nothing before after (ap (λ (p : Progress). p.did) h)
  by_turns Body each r turn (suc left) before after h =
      one_then before (assigning before r turn) after (nothing before (assigning before r turn) refl)
      (one_then (assigning before r turn) h.0 after (each (assigning before r turn) h.0 h.1) (by_turns Body each r (suc turn) left h.0 after h.2))

  -- a scoped assertion is scoped
  scoped_so : (st : Statement) → MatchOption (scoped_assertion st) (Unit {0}) (λ scoped. is_scoped scoped.kind ≡ true)
  scoped_so (tree.load_only l) = tt
  scoped_so (tree.assign data_race a) = tt
  scoped_so (tree.call (calls.AssertWriter x true)) = refl
  scoped_so (tree.call (calls.AssertWriter x false)) = tt
  scoped_so (tree.call (calls.AssertAccess x true)) = refl
  scoped_so (tree.call (calls.AssertAccess x false)) = tt
  scoped_so (tree.call (calls.Barrier b)) = tt
  scoped_so (tree.call (calls.Lock l)) = tt
  scoped_so (tree.call (calls.Unlock l)) = tt
  scoped_so (tree.call (calls.AssertBits x mask)) = tt
  scoped_so (tree.call (calls.Mark m)) = tt
  scoped_so (tree.call (calls.Check is_write x size)) = tt
  scoped_so (tree.if_block e body) = tt
  scoped_so (tree.if_else e body otherwise) = tt
  scoped_so (tree.for_turns r turns body) = tt

  by_block_of : (site : ℕ) (scoped : Option Scoped) → MatchOption scoped (Unit {0}) (λ sc. is_scoped sc.kind ≡ true) → (Own Rest : Progress → Progress → Type 0)
      → ((before after : Progress) → Own before after → Does before after) → ((before after : Progress) → Rest before after → Does before after)
      → (before after : Progress) → InBlock s site scoped Own Rest before after → Does before after
  by_block_of site None kind Own Rest own rest before after h = one_then before h.0 after (own before h.0 h.1) (rest h.0 after h.2)
  by_block_of site (Some scoped) kind Own Rest own rest before after h =
      let a : Access = scoped_access s site before scoped in
      let begun : Progress = doing before (happenings.Begin a ∷ []) in
      let inner = rest begun h.0 h.1 in
      record {
        new = happenings.Begin a ∷ (inner.new ++ happenings.End a ∷ []);
        is = ap (λ (p : Progress). p.did) h.2
            ∙ (ap (λ (d : List Happening). d ++ happenings.End a ∷ []) inner.is
            ∙ (append_assoc (before.did ++ happenings.Begin a ∷ []) inner.new (happenings.End a ∷ [])
            ∙ append_assoc before.did (happenings.Begin a ∷ []) (inner.new ++ happenings.End a ∷ [])));
        alone = (λ plain. absurd (plain kind), alone_both inner.new (happenings.End a ∷ []) inner.alone (tt, tt));
      }

  chosen : (value : ℕ) (Holds Fails Goal : Type 0) → Chooses value Holds Fails → (Holds → Goal) → (Fails → Goal) → Goal
  chosen value Holds Fails Goal h holds fails = elim h [ inl p ↦ holds p.1 | inr p ↦ fails p.1 ]

  mutual
    by_statement : (site : ℕ) (st : Statement) (before after : Progress) → Means s site st before after → Does before after
    by_statement site (tree.load_only l) before after h = by_load site l before h.0 after h.1
    by_statement site (tree.assign data_race a) before after h = by_data_race site data_race a before after h
    by_statement site (tree.call c) before after h = this before after (call_does s site c before) h (alone_call site c before)
    by_statement site (tree.if_block e body) before after h =
        one_then before h.1 after (by_expression site e before h.0 h.1 h.2)
        (chosen h.0 _ _ _ h.3 (λ p. by_block (after_condition site e) body h.1 after p)
        (λ p. nothing h.1 after (ap (λ (q : Progress). q.did) p)))
    by_statement site (tree.if_else e body otherwise) before after h =
        one_then before h.1 after (by_expression site e before h.0 h.1 h.2)
        (chosen h.0 _ _ _ h.3 (λ p. by_block (after_condition site e) body h.1 after p)
        (λ p. by_block (after_condition site e + length (sites_of body)) otherwise h.1 after p))
    by_statement site (tree.for_turns r turns body) before after h =
        by_turns (λ start end. MeansBlock s site body start end) (λ start end p. by_block site body start end p) r 0 turns before after h

    by_block : (site : ℕ) (body : Block) (before after : Progress) → MeansBlock s site body before after → Does before after
    by_block site tree.empty before after h = nothing before after (ap (λ (p : Progress). p.did) h)
    by_block site (tree.first st rest) before after h =
        by_block_of site (scoped_assertion st) (scoped_so st)
        (λ start end. Means s site st start end) (λ start end. MeansBlock s (site + length (accesses_of st)) rest start end)
        (λ start end p. by_statement site st start end p) (λ start end p. by_block (site + length (accesses_of st)) rest start end p) before after h

-- an access's own moments follow on its begin, up to its end
after_begin : (a : Access) (p q : List Happening) → AreAlone (p ++ happenings.Begin a ∷ q) → ¬ IsTrue (is_scoped a.kind) → To a q
after_begin a [] q alone plain = alone.0 plain
after_begin a (x ∷ p) q alone plain = after_begin a p q alone.1 plain

first_own : (a : Access) (x : Happening) (later : List Happening) → To a (x ∷ later) → IsOwn a x
first_own a (happenings.Read bytes value) later h = h.0
first_own a (happenings.Write bytes value) later h = h.0
first_own a (happenings.End b) later h = h
first_own a (happenings.Begin b) later h = absurd h
first_own a (happenings.Lock lock) later h = absurd h
first_own a (happenings.Unlock lock) later h = absurd h
first_own a (happenings.Mark mark) later h = absurd h

next_own : (a : Access) (q : List Happening) (x : Happening) (later : List Happening) → To a (q ++ x ∷ later) → ¬ Has q (happenings.End a) → IsOwn a x
next_own a [] x later h open_so = first_own a x later h
next_own a (happenings.Read bytes value ∷ q) x later h open_so = next_own a q x later h.1 (λ ended. open_so (inr ended))
next_own a (happenings.Write bytes value ∷ q) x later h open_so = next_own a q x later h.1 (λ ended. open_so (inr ended))
next_own a (happenings.End b ∷ q) x later h open_so = absurd (open_so (inl (ap (λ (c : Access). happenings.End c) h)))
next_own a (happenings.Begin b ∷ q) x later h open_so = absurd h
next_own a (happenings.Lock lock ∷ q) x later h open_so = absurd h
next_own a (happenings.Unlock lock ∷ q) x later h open_so = absurd h
next_own a (happenings.Mark mark ∷ q) x later h open_so = absurd h

has_later : (p q : List Happening) (x y : Happening) → Has q y → Has (p ++ x ∷ q) y
has_later [] q x y h = inr h
has_later (z ∷ p) q x y h = inr (has_later p q x y h)

parted : (history : History) (k : ℕ) (moment : Moment) → slice_get history k ≡ Some moment → history ≡ take k history ++ moment ∷ drop (suc k) history
parted [] k moment is = absurd (cc)
parted (first ∷ history) zero moment is = let same : first ≡ moment = cc in ap (λ (m : Moment). m ∷ history) same
parted (first ∷ history) (suc k) moment is = ap (λ (h : History). first ∷ h) (parted history k moment is)

if_some : (o : Option Moment) (Q : Moment → Type 0) → ((moment : Moment) → o ≡ Some moment → Q moment) → IfSome o Q
if_some None Q each = tt
if_some (Some moment) Q each = each moment refl

module _ (run : Run) (records : List Record) (list : Execution run records)
    (tasks : All (λ (moment : Moment). moment.task < length run.program.tasks) (history_of list)) where
  own_moment : (task : ℕ) (moment : Moment) (later : History) → moment.task ≡ task → happenings_of task (moment ∷ later) ≡ moment.happening ∷ happenings_of task later
  own_moment task moment later is = rw (eq-eqb moment.task task is) refl

  does_no_more : (a : Access) → ¬ IsTrue (is_scoped a.kind) → (k : ℕ) → InProgress (history_of list) a k → (moment : Moment)
      → slice_get (history_of list) k ≡ Some moment → moment.task ≡ a.task → IsOwn a moment.happening
  does_no_more a plain k goes moment at mine =
      let history : History = history_of list in
      let task : ℕ = a.task in
      let early : History = take k history in
      let below : task < length run.program.tasks =
      subst (λ (t : ℕ). t < length run.program.tasks) mine
      (subst (λ (m : Moment). m.task < length run.program.tasks) (get_or_from_slice_get history k moment moment at)
      (tasks k moment (slice_get_within history k moment at))) in
      let own : happenings_of task history ≡ happenings_of task early ++ moment.happening ∷ happenings_of task (drop (suc k) history) =
      ap (λ (h : History). happenings_of task h) (parted history k moment at)
      ∙ (of_both task early (moment ∷ drop (suc k) history)
      ∙ ap (λ (d : List Happening). happenings_of task early ++ d) (own_moment task moment (drop (suc k) history) mine)) in
      let begun : Has (happenings_of task early) (happenings.Begin a) = has_own task early (happenings.Begin a) (contains_has early (beginning a) goes.begun) in
      let split = has_split (happenings_of task early) (happenings.Begin a) begun in
      let unended : ¬ Has (happenings_of task early) (happenings.End a) =
      λ ended. goes.unended (has_contains early (ending a) (own_has task early (happenings.End a) ended)) in
      let written = list.tasks task in
      let begins = did_of_all written (made_by task records) in
      let text : Setting = (task_setting run task).text in
      let means = whole_means (task_setting run task) (length (task_of run task).registers) (task_of run task).body _ written.whole in
      let does = by_block text 0 (task_of run task).body _ written.whole.end.progress means in
      let rest : List Happening = happenings_of task (drop (suc k) history) ++ begins.0 in
      let all : does.new ≡ split.0 ++ happenings.Begin a ∷ (split.1 ++ moment.happening ∷ rest) =
      sym does.is ∙ (begins.1 ∙ (ap (λ (d : List Happening). d ++ begins.0) (sym (of_task run records list task below records) ∙ own)
      ∙ (ap (λ (d : List Happening). (d ++ moment.happening ∷ happenings_of task (drop (suc k) history)) ++ begins.0) split.2
      ∙ (append_assoc (split.0 ++ happenings.Begin a ∷ split.1) (moment.happening ∷ happenings_of task (drop (suc k) history)) begins.0
      ∙ append_assoc split.0 (happenings.Begin a ∷ split.1) (moment.happening ∷ rest))))) in
      next_own a split.1 moment.happening rest
      (after_begin a split.0 (split.1 ++ moment.happening ∷ rest) (subst (λ (d : List Happening). AreAlone d) all does.alone) plain)
      (λ ended. unended (subst (λ (d : List Happening). Has d (happenings.End a)) (sym split.2) (has_later split.0 split.1 (happenings.Begin a) (happenings.End a) ended)))

  pub nothing_else : (a : Access) → ¬ IsTrue (is_scoped a.kind) → DoesNothingElse (history_of list) a
  nothing_else a plain k goes = if_some (slice_get (history_of list) k) _ (λ moment at mine. does_no_more a plain k goes moment at mine)
