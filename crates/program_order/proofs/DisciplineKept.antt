-- The steps of a text are checks one after the other, with steps of memory and of locks between them, and free only
-- locks that the task holds.
use Rattle.std.proofs.Common.{◌≡◌, ◌∙◌, ◌++◌, ℕ, Bool, true, false, List, [], ◌∷◌, IsTrue, None, Option, Some, MatchBool, ap, refl, replicate, subst, sym}
use Rattle.access_types.specs.Access as access
use Rattle.access_types.specs.declared.history.Happening.{Happening}
use Rattle.access_types.specs.declared.history.Happening.TheVariants as happenings
use Rattle.litmus_semantics.specs.Task.{has_lock}
use Rattle.litmus_semantics.specs.Task as meaning
use Rattle.litmus_syntax.specs.Tree.{Block}
use Rattle.access_run.specs.memory_operation.Locks.{TakesLock}
use Rattle.access_run.specs.memory_operation.Operations.{Changes, Exchanges, OnExchange, Operates, OperatesIn}
use Rattle.access_run.specs.memory_operation.Values.{is_wanted, new_value, sum_of, with_value}
use Rattle.access_run.specs.declared.memory_operation.effect.Effect.{Effect}
use Rattle.access_run.specs.declared.memory_operation.operation.Change.{Change}
use Rattle.access_run.specs.declared.memory_operation.operation.Change.TheVariants as changes
use Rattle.access_run.specs.declared.memory_operation.operation.Operation.{Operation}
use Rattle.access_run.specs.declared.memory_operation.operation.Operation.TheVariants as operations
use Rattle.setup_access.specs.Values.{value_in}
use Rattle.setup_access.proofs.LocksLemmas.{TouchesNoLock, check_leaves_locks, close_leaves_locks}
use Rattle.setup_access.specs.Check.{Check, Close, Passes}
use Rattle.setup_access.specs.MadeOfChecks as shapes
use Rattle.setup_access.specs.MadeOfChecks.{FreesHeldLocks, IsBesides, MadeOfChecks}
use Rattle.setup_access.specs.OwnAccesses.{AreOwn, IsOwn}
use Rattle.setup_access.specs.Records.{MakesDone, MakesWord, OnFlag, OnWord}
use Rattle.setup_access.specs.declared.begun.Begun.{Begun}
use Rattle.setup_access.specs.declared.source.Source.{Source}
use Rattle.slot_table.specs.Discipline.{holds}
use Rattle.slot_table.specs.declared.records.Record.{Record}
use Rattle.slot_table.specs.declared.step.Answer.{Answer}
use Rattle.slot_table.specs.declared.step.Answer.TheVariants as answers
use Rattle.slot_table.specs.declared.step.Step.{Step}
use Rattle.slot_table.specs.declared.step.Step.TheVariants.{CellExchange, CellLoad, Clear, Clock, Consume, Insert, Load, LockStore, LockTry, Name, PairLoad, Remove, Tell, TryConsume}
use Rattle.program_order.specs.Access.{Makes}
use Rattle.program_order.specs.Standing.{IsLockAt, Setting, Standing, checks_of, lock_number}
use Rattle.program_order.specs.WrittenOrder.{ClosesScope, OpensScope, SpellsAll, at_first}
use Rattle.program_order.proofs.AccessLemmas.{access_does, access_quiet, counting_progress, makes_did}
use Rattle.program_order.proofs.HeldLocks.{Agree, AreQuiet, agree_freed, agree_quiet, agree_refused, agree_step, agree_taken, frees_none, marks_quiet, same_store}
use Rattle.program_order.proofs.Induction.{Kept, by_block}
use Rattle.program_order.proofs.ScopesLemmas.{SameScopes, kept_scopes}

-- what goes on, where the task did this, is made of checks, and frees only what it holds
abbrev pub Goes : Setting → List Happening → List Record → Type 0
Goes s did records =
    MadeOfChecks (checks_of s) records × ((own : List Record) → Agree s did own → FreesHeldLocks own records)

-- a step of memory, or of the clock, in front
abbrev pub IsPlain : Step → Type 0
IsPlain (CellLoad cell) = Unit {0}
IsPlain (CellExchange cell expected new) = Unit {0}
IsPlain Clock = Unit {0}
IsPlain step = ⊥

-- the step tries a lock
abbrev IsTry : Step → Type 0
IsTry (LockTry lock holder) = Unit {0}
IsTry step = ⊥

plain_besides : (task : ℕ) (step : Step) → IsPlain step → IsBesides task step × TouchesNoLock step
plain_besides task (Load index) ok = absurd ok
plain_besides task (Insert index word) ok = absurd ok
plain_besides task (TryConsume index word) ok = absurd ok
plain_besides task (Consume index) ok = absurd ok
plain_besides task (Remove index) ok = absurd ok
plain_besides task (PairLoad index) ok = absurd ok
plain_besides task (Name index ticket) ok = absurd ok
plain_besides task (Tell index ticket) ok = absurd ok
plain_besides task (Clear index) ok = absurd ok
plain_besides task (CellLoad cell) ok = (tt, tt)
plain_besides task (CellExchange cell expected new) ok = (tt, tt)
plain_besides task (LockTry lock holder) ok = absurd ok
plain_besides task (LockStore lock) ok = absurd ok
plain_besides task Clock ok = (tt, tt)

module _ (s : Setting) where
  frees_more : (did : List Happening) (first : Record) (later : List Record) → TouchesNoLock first.step
      → ((own : List Record) → Agree s did own → FreesHeldLocks own later) → (own : List Record) → Agree s did own → FreesHeldLocks own (first ∷ later)
  frees_more did first later ok goes own agree =
      ((λ lock is. frees_none lock first.step (IsTrue (holds lock own)) ok is), goes (first ∷ own) (agree_step s did own first ok agree))

  plain : (did : List Happening) (first : Record) (later : List Record) (step : Step) → first.step ≡ step → IsPlain step → Goes s did later → Goes s did (first ∷ later)
  plain did first later step is ok goes =
      let both = plain_besides s.text.task first.step (subst IsPlain (sym is) ok) in
      (shapes.besides first later both.0 goes.0, frees_more did first later both.1 goes.1)

  ends : (did : List Happening) (records rest : List Record) → rest ≡ records → Goes s did rest → Goes s did records
  ends did records rest same goes = subst (λ (r : List Record). Goes s did r) same goes

  -- after quiet things the same goes on
  quietly : (did does : List Happening) (records : List Record) → AreQuiet does → Goes s (did ++ does) records → Goes s did records
  quietly did does records quiet goes = (goes.0, λ own agree. goes.1 own (agree_quiet s did does own quiet agree))

  on_word : (answer : Answer) (P : ℕ → Type 0) (Goal : Type 0) → OnWord answer P → ((word : ℕ) → P word → Goal) → Goal
  on_word (answers.Word word) P Goal h on = on word h
  on_word (answers.Flag flag) P Goal h on = absurd h
  on_word (answers.Halves setter finder) P Goal h on = absurd h
  on_word answers.Done P Goal h on = absurd h

  on_exchange : (answer : Answer) (Accepted : Type 0) (Refused : ℕ → Type 0) (Goal : Type 0) → OnExchange answer Accepted Refused → (Accepted → Goal) → ((word : ℕ) → Refused word → Goal) → Goal
  on_exchange (answers.Word word) Accepted Refused Goal h accepted refused = refused word h
  on_exchange (answers.Flag true) Accepted Refused Goal h accepted refused = accepted h
  on_exchange (answers.Flag false) Accepted Refused Goal h accepted refused = absurd h
  on_exchange (answers.Halves setter finder) Accepted Refused Goal h accepted refused = absurd h
  on_exchange answers.Done Accepted Refused Goal h accepted refused = absurd h

  word_step : (did : List Happening) (step : Step) (Next : ℕ → List Record → Type 0) (records : List Record) → IsPlain step → MakesWord s.text.task step Next records
      → ((word : ℕ) (later : List Record) → Next word later → Goes s did later) → Goes s did records
  word_step did step Next [] ok h on = absurd h
  word_step did step Next (first ∷ later) ok h on =
      plain did first later step h.1 ok (on_word first.answer _ _ h.2 (λ word got. on word later got))

  pick : (b : Bool) (AtTrue AtFalse : Type 0) (Goal : Type 0) → MatchBool b AtTrue AtFalse → (AtTrue → Goal) → (AtFalse → Goal) → Goal
  pick true AtTrue AtFalse Goal h at_true at_false = at_true h
  pick false AtTrue AtFalse Goal h at_true at_false = at_false h

  exchanges : (did : List Happening) (a : access.Access) (source : Source) (change : Change) (seen : ℕ) (records : List Record) (effect : Effect) (rest : List Record)
      → Exchanges s.text.task a source change seen records effect rest → Goes s did rest → Goes s did records
  exchanges did a source change seen [] effect rest h goes =
      pick (is_wanted a.size change (value_in a source seen)) _ _ _ h (λ none. absurd none) (λ over. ends did [] rest over.1 goes)
  exchanges did a source change seen (first ∷ later) effect rest h goes =
      pick (is_wanted a.size change (value_in a source seen)) _ _ _ h
      (λ now. plain did first later (CellExchange source.cell seen (with_value a source seen (new_value a.size change (value_in a source seen)))) now.0.1 tt
      (on_exchange first.answer _ _ _ now.1 (λ done. ends did later rest done.1 goes)
      (λ word again. exchanges did a source change word later effect rest again goes)))
      (λ over. ends did (first ∷ later) rest over.1 goes)

  makes_changes : (did : List Happening) (a : access.Access) (source : Source) (change : Change) (records : List Record) (effect : Effect) (rest : List Record)
      → Changes s.text.task a source change records effect rest → Goes s did rest → Goes s did records
  makes_changes did a source change records effect rest h goes =
      word_step did (CellLoad source.cell) _ records tt h (λ seen later got. exchanges did a source change seen later effect rest got goes)

  operates_in : (did : List Happening) (a : access.Access) (source : Source) (operation : Operation) (records : List Record) (effect : Effect) (rest : List Record)
      → OperatesIn s.text.task a source operation records effect rest → Goes s did rest → Goes s did records
  operates_in did a source operations.Load records effect rest h goes =
      word_step did (CellLoad source.cell) _ records tt h (λ word later got. ends did later rest got.1 goes)
  operates_in did a source (operations.Add amount) records effect rest h goes =
      word_step did (CellLoad source.cell) _ records tt h (λ word later got.
      makes_changes did a source (changes.Write (sum_of a.size (value_in a source word) amount)) later got.0 rest got.1 goes)
  operates_in did a source (operations.Change change) records effect rest h goes = makes_changes did a source change records effect rest h goes

  operates : (did : List Happening) (a : access.Access) (operation : Option Operation) (records : List Record) (effect : Effect) (rest : List Record)
      → Operates (checks_of s) a operation records effect rest → Goes s did rest → Goes s did records
  operates did a None records effect rest h goes = ends did records rest h.1 goes
  operates did a (Some operation) records effect rest h goes = operates_in did a h.0 operation records effect rest h.2 goes

  -- the check of an access
  checked : (did : List Happening) (begun : Begun) (scopes : List Begun) (asked : ℕ) (records : List Record) (passes : Passes) (rest : List Record)
      → AreOwn (checks_of s) scopes → IsOwn (checks_of s) begun.access → Check (checks_of s) scopes begun asked records passes rest → Goes s did rest → Goes s did records
  checked did begun scopes asked records passes rest all own h goes = (
    shapes.checks scopes begun asked records passes rest h goes.0,
    check_leaves_locks (λ (r : List Record). (o : List Record) → Agree s did o → FreesHeldLocks o r) (frees_more did) (checks_of s) scopes begun asked records passes rest h goes.1,
  )

  -- a close
  closed : (did : List Happening) (scope : Begun) (silenced : Bool) (asked : ℕ) (records : List Record) (passes : Passes) (rest : List Record)
      → IsOwn (checks_of s) scope.access → Close (checks_of s) scope silenced asked records passes rest → Goes s did rest → Goes s did records
  closed did scope silenced asked records passes rest own h goes = (
    shapes.closes scope silenced asked records passes rest h goes.0,
    close_leaves_locks (λ (r : List Record). (o : List Record) → Agree s did o → FreesHeldLocks o r) (frees_more did) (checks_of s) scope silenced asked records passes rest h goes.1,
  )

  on_flag : (answer : Answer) (P : Bool → Type 0) (Goal : Type 0) → OnFlag answer P → (answer ≡ answers.Flag true → P true → Goal) → (answer ≡ answers.Flag false → P false → Goal) → Goal
  on_flag (answers.Word word) P Goal h free held = absurd h
  on_flag (answers.Flag true) P Goal h free held = free refl h
  on_flag (answers.Flag false) P Goal h free held = held refl h
  on_flag (answers.Halves setter finder) P Goal h free held = absurd h
  on_flag answers.Done P Goal h free held = absurd h

  besides_try : (lock : ℕ) (first : Record) → first.step ≡ LockTry (lock_number s lock) s.text.task → IsBesides s.text.task first.step
  besides_try lock first is = subst (IsBesides s.text.task) (sym is) refl

  no_store : (lock : ℕ) (first : Record) (own : List Record) → first.step ≡ LockTry (lock_number s lock) s.text.task
      → (other : ℕ) → first.step ≡ LockStore other → IsTrue (holds other own)
  no_store lock first own is other store = let no : ⊥ = subst IsTry (sym is ∙ store) tt in absurd no

  ends_made : (later rest : List Record) → rest ≡ later → MadeOfChecks (checks_of s) rest → MadeOfChecks (checks_of s) later
  ends_made later rest same made_so = subst (λ (r : List Record). MadeOfChecks (checks_of s) r) same made_so

  ends_frees : (later rest own : List Record) → rest ≡ later → FreesHeldLocks own rest → FreesHeldLocks own later
  ends_frees later rest own same frees = subst (λ (r : List Record). FreesHeldLocks own r) same frees

  -- an access
  one_access : (a : access.Access) (operation : Option Operation) (effect : Effect) (before : Standing) (records : List Record) (after : Standing) (rest : List Record)
      → Makes s before a operation records effect after rest → AreOwn (checks_of s) before.scopes → Goes s after.progress.did rest → Goes s before.progress.did records
  one_access a operation effect before records after rest h scopes goes =
      let did : List Happening = before.progress.did in
      let does : List Happening = access_does a effect in
      let all : Goes s (did ++ does) rest = subst (λ (d : List Happening). Goes s d rest) (makes_did s a operation effect before records after rest h) goes in
      let ended : Goes s did h.done = word_step did Clock _ h.done tt h.ends (λ stamp later got. ends did later rest got (quietly did does rest (access_quiet a effect) all)) in
      let operated : Goes s did h.checked = operates did a operation h.checked effect h.done h.operates ended in
      checked did h.begun before.scopes before.asked records h.passes h.checked scopes
      (subst (λ (b : access.Access). IsOwn (checks_of s) b) (sym h.begins.access) h.begins.own) h.check operated

  -- tries of a lock
  locks : (lock : ℕ) (did : List Happening) (records rest : List Record) → IsLockAt s lock → TakesLock s.text.task (lock_number s lock) records rest
      → Goes s (did ++ happenings.Lock lock ∷ []) rest → Goes s did records
  locks lock did [] rest is h goes = absurd h
  locks lock did (first ∷ later) rest is h goes = on_flag first.answer _ _ h.2
      (λ answer taken. (
        shapes.besides first later (besides_try lock first h.1) (ends_made later rest taken goes.0),
        λ own agree. (
          no_store lock first own h.1,
          ends_frees later rest (first ∷ own) taken (goes.1 (first ∷ own) (agree_taken s did own first lock s.text.task is h.1 answer agree)),
        ),
      ))
      (λ answer again.
      let more : Goes s did later = locks lock did later rest is again goes in (
        shapes.besides first later (besides_try lock first h.1) more.0,
        λ own agree. (no_store lock first own h.1, more.1 (first ∷ own) (agree_refused s did own first (lock_number s lock) s.text.task h.1 answer agree)),
      ))

  -- the task does what keeps its scopes, and goes on as it should if what follows does
  abbrev pub KeepsOn : Standing → List Record → Standing → List Record → Type 0
  KeepsOn before records after rest =
      (after.scopes ≡ before.scopes)
      × (AreOwn (checks_of s) before.scopes → Goes s after.progress.did rest → Goes s before.progress.did records)

  own_more : (scopes : List Begun) (scope : Begun) → AreOwn (checks_of s) scopes → IsOwn (checks_of s) scope.access → AreOwn (checks_of s) (scopes ++ scope ∷ [])
  own_more [] scope all own = (own, tt)
  own_more (first ∷ scopes) scope all own = (all.0, own_more scopes scope all.1 own)

  one_store : (lock : ℕ) (did : List Happening) (records rest : List Record) → IsTrue (has_lock lock did)
      → MakesDone s.text.task (LockStore (lock_number s lock)) (λ later. rest ≡ later) records
      → Goes s (did ++ happenings.Unlock lock ∷ []) rest → Goes s did records
  one_store lock did [] rest has h goes = absurd h
  one_store lock did (first ∷ later) rest has h goes = (
    shapes.besides first later (subst (IsBesides s.text.task) (sym h.1) tt) (ends_made later rest h.2.1 goes.0),
    λ own agree. (
      (λ other store. subst (λ (l : ℕ). IsTrue (holds l own)) (same_store (lock_number s lock) other (sym h.1 ∙ store)) (agree lock has).1),
      ends_frees later rest (first ∷ own) h.2.1 (goes.1 (first ∷ own) (agree_freed s did own first lock has h.1 agree)),
    ),
  )

  one_scope : (a : access.Access) (begun : Begun) (before opened closing after : Standing) (records inside later rest : List Record)
      → OpensScope s before a records begun opened inside → KeepsOn opened inside closing later
      → ClosesScope s closing begun before.scopes later after rest
      → AreOwn (checks_of s) before.scopes → Goes s after.progress.did rest → Goes s before.progress.did records
  one_scope a begun before opened closing after records inside later rest opens inner closes scopes goes =
      let own : IsOwn (checks_of s) begun.access = subst (λ (b : access.Access). IsOwn (checks_of s) b) (sym opens.begins.access) opens.begins.own in
      let ended : Goes s (closing.progress.did ++ happenings.End begun.access ∷ []) rest = subst (λ (st : Standing). Goes s st.progress.did rest) closes.comes_to goes in
      let close : Goes s closing.progress.did later =
      closed closing.progress.did begun closes.silenced closing.asked later closes.passes rest own closes.close
      (quietly closing.progress.did (happenings.End begun.access ∷ []) rest (tt, tt) ended) in
      let all : AreOwn (checks_of s) opened.scopes =
      subst (λ (b : List Begun). AreOwn (checks_of s) b) (sym (ap (λ (st : Standing). st.scopes) opens.comes_to)) (own_more before.scopes begun scopes own) in
      let began : Goes s (before.progress.did ++ happenings.Begin a ∷ []) inside =
      subst (λ (st : Standing). Goes s st.progress.did inside) opens.comes_to (inner.1 all close) in
      checked before.progress.did begun before.scopes before.asked records opens.passes inside scopes own opens.check
      (quietly before.progress.did (happenings.Begin a ∷ []) inside (tt, tt) began)

  pub keeps_on : Kept s KeepsOn
  keeps_on =
      let scopes : Kept s SameScopes = kept_scopes s in
      record {
        still = λ before records. (refl, λ own goes. goes);
        joins = λ before between after records later rest p q.
            (q.0 ∙ p.0, λ own goes. p.1 own (q.1 (subst (λ (b : List Begun). AreOwn (checks_of s) b) (sym p.0) own) goes));
        marked = λ ends_nothing count m before records. (
          scopes.marked ends_nothing count m before records,
          λ own goes.
              let does : List Happening = replicate count (happenings.Mark m) in
              let same : Goes s (before.progress.did ++ does) records =
              subst (λ (p : meaning.Progress). Goes s (p.did ++ does) records) (counting_progress ends_nothing before) goes in
              quietly before.progress.did does records (marks_quiet count (happenings.Mark m) tt) same,
        );
        lost = λ before records. (refl, λ own goes. goes);
        assigned = λ before records register value. (refl, λ own goes. goes);
        makes = λ a operation effect before records after rest h.
            (scopes.makes a operation effect before records after rest h, one_access a operation effect before records after rest h);
        locks = λ lock before records rest is takes. (refl, λ own goes. locks lock before.progress.did records rest is takes goes);
        unlocks = λ lock before records rest has stores. (refl, λ own goes. one_store lock before.progress.did records rest has stores goes);
        scoped = λ a assertion begun before opened closing after records inside later rest opens inner closes.
            (ap (λ (st : Standing). st.scopes) closes.comes_to, one_scope a begun before opened closing after records inside later rest opens inner closes);
      }

  -- the records of a whole text are checks with other steps between them, and free only what the task holds
  pub whole_text : (registers : ℕ) (body : Block) (records : List Record) → SpellsAll s registers body records
      → MadeOfChecks (checks_of s) records × FreesHeldLocks [] records
  whole_text registers body records h =
      let goes : Goes s [] records =
      (by_block s KeepsOn keeps_on 0 body (at_first registers) records h.end [] h.steps).1 tt (shapes.nothing, λ own agree. tt) in
      (goes.0, goes.1 [] (λ lock has. let no : false ≡ true = has in cc))
