-- In the written order a try of a wait comes after as many failed tries as the records end with: a load of a pair is
-- followed by another only where it heard nobody, and a failed try by one of the same.
use Rattle.std.proofs.Common.{◌≡◌, ◌↔◌, ◌≤◌, ◌+◌, ◌&&◌, ◌∙◌, ◌++◌, ℕ, suc, Bool, true, false, List}
use Rattle.std.proofs.Common.{[], ◌∷◌, None, Option, Some, MatchBool, ap, arith, eq-eqb, refl, reverse, subst, sym, if◌then◌else◌}
use Rattle.std.proofs.lemmas.List.{append-nil, append_assoc, reverse-append}
use Rattle.access_types.specs.Access as access
use Rattle.litmus_syntax.specs.Tree.{Block}
use Rattle.access_run.specs.memory_operation.Leads.{GoesOn}
use Rattle.access_run.specs.memory_operation.Locks.{TakesLock}
use Rattle.access_run.specs.memory_operation.Operations.{Changes, Exchanges, OnExchange, Operates, OperatesIn}
use Rattle.access_run.specs.memory_operation.Values.{is_wanted, new_value, sum_of, with_value}
use Rattle.access_run.specs.declared.memory_operation.effect.Effect.{Effect}
use Rattle.access_run.specs.declared.memory_operation.operation.Change.{Change}
use Rattle.access_run.specs.declared.memory_operation.operation.Change.TheVariants as changes
use Rattle.access_run.specs.declared.memory_operation.operation.Operation.{Operation}
use Rattle.access_run.specs.declared.memory_operation.operation.Operation.TheVariants as operations
use Rattle.setup_access.specs.Values.{value_in}
use Rattle.setup_access.specs.Waits.{awaited, is_failed, is_word, failed_from}
use Rattle.setup_access.specs.Waits as checks
use Rattle.slot.specs.Pair.{Halves}
use Rattle.setup_access.specs.Records.{OnFlag}
use Rattle.setup_access.specs.declared.source.Source.{Source}
use Rattle.setup_access.proofs.FailedTryLemmas.{FailsAgain, Both, FailedWait, LoadsNext, LoadsPair, SameNext, Tries, TriesNext, TriesSame, as_rest, by_done, by_word, check_failed_wait, close_failed_wait, try_step}
use Rattle.slot_table.specs.declared.records.Record.{Record}
use Rattle.slot_table.specs.declared.step.Answer.{Answer}
use Rattle.slot_table.specs.declared.step.Answer.TheVariants as answers
use Rattle.slot_table.specs.declared.step.Step.{Step}
use Rattle.slot_table.specs.declared.step.Step.TheVariants.{CellExchange, CellLoad, Clear, Clock, Consume, Insert, Load, LockStore, LockTry, Name, PairLoad, Remove, Tell, TryConsume}
use Rattle.program_order.specs.Standing.{Setting, Standing, checks_of, lock_number}
use Rattle.program_order.specs.Waits.{IsStuck, IsStuckByFailedTries, IsTry, OnlyStep, exchanges_in, loads_pair, tries_lock, failed_tries, is_tried_again}
use Rattle.program_order.specs.WrittenOrder.{SpellsAll, WrittenOrder, at_first}
use Rattle.program_order.proofs.Induction.{Kept, by_block}

pick : (b : Bool) (AtTrue AtFalse : Type 0) (Goal : Type 0) → MatchBool b AtTrue AtFalse → (AtTrue → Goal) → (AtFalse → Goal) → Goal
pick true AtTrue AtFalse Goal h at_true at_false = at_true h
pick false AtTrue AtFalse Goal h at_true at_false = at_false h

on_exchange : (answer : Answer) (Accepted : Type 0) (Refused : ℕ → Type 0) (Goal : Type 0) → OnExchange answer Accepted Refused → (Accepted → Goal) → ((word : ℕ) → Refused word → Goal) → Goal
on_exchange (answers.Word word) Accepted Refused Goal h accepted refused = refused word h
on_exchange (answers.Flag true) Accepted Refused Goal h accepted refused = accepted h
on_exchange (answers.Flag false) Accepted Refused Goal h accepted refused = absurd h
on_exchange (answers.Halves setter finder) Accepted Refused Goal h accepted refused = absurd h
on_exchange answers.Done Accepted Refused Goal h accepted refused = absurd h

on_flag : (answer : Answer) (P : Bool → Type 0) (Goal : Type 0) → OnFlag answer P → ((flag : Bool) → answer ≡ answers.Flag flag → P flag → Goal) → Goal
on_flag (answers.Word word) P Goal h on = absurd h
on_flag (answers.Flag flag) P Goal h on = on flag refl h
on_flag (answers.Halves setter finder) P Goal h on = absurd h
on_flag answers.Done P Goal h on = absurd h

module _ (task : ℕ) (a : access.Access) (source : Source) (change : Change) where
  -- exchanges that go on begin with one of this cell, and else what follows on them comes
  exchanges_next : (seen old new : ℕ) (records : List Record) (effect : Effect) (rest : List Record) → Exchanges task a source change seen records effect rest
      → (TriesNext rest → ⊥) → TriesNext records → SameNext (CellExchange source.cell old new) records
  exchanges_next seen old new [] effect rest h last tries = tt
  exchanges_next seen old new (first ∷ later) effect rest h last tries =
      pick (is_wanted a.size change (value_in a source seen)) _ _ (SameNext (CellExchange source.cell old new) (first ∷ later)) h
      (λ now. (seen, with_value a source seen (new_value a.size change (value_in a source seen)), now.0.1))
      (λ over. absurd (last (subst TriesNext (sym over.1) tries)))

  exchanges : (seen : ℕ) (records : List Record) (effect : Effect) (rest : List Record)
      → Exchanges task a source change seen records effect rest → Both rest → FailedWait records
  exchanges seen [] effect rest h so =
      pick (is_wanted a.size change (value_in a source seen)) _ _ (FailedWait []) h (λ none. absurd none) (λ over. as_rest [] rest over.1 so.0)
  exchanges seen (first ∷ later) effect rest h so =
      let wrote : ℕ = with_value a source seen (new_value a.size change (value_in a source seen)) in
      let Goal : Type 0 = (TriesNext later → SameNext (CellExchange source.cell seen wrote) later) × FailedWait later in
      pick (is_wanted a.size change (value_in a source seen)) _ _ (FailedWait (first ∷ later)) h
      (λ now.
      let next : Goal = on_exchange first.answer _ _ Goal now.1
      (λ over. (λ tries. absurd (so.1 (subst TriesNext (sym over.1) tries)), as_rest later rest over.1 so.0))
      (λ word again. (exchanges_next word seen wrote later effect rest again so.1, exchanges word later effect rest again so)) in
      try_step first later (CellExchange source.cell seen wrote) now.0.1 (λ none. none) (λ half failed. next.0) next.1)
      (λ over. as_rest (first ∷ later) rest over.1 so.0)

  makes_changes : (records : List Record) (effect : Effect) (rest : List Record) → Changes task a source change records effect rest → Both rest → FailedWait records
  makes_changes records effect rest h so =
      (by_word task (CellLoad source.cell) _ records (λ none. none) h (λ seen later got. exchanges seen later effect rest got so)).0

operates_in : (task : ℕ) (a : access.Access) (source : Source) (operation : Operation) (records : List Record) (effect : Effect) (rest : List Record)
    → OperatesIn task a source operation records effect rest → Both rest → FailedWait records
operates_in task a source operations.Load records effect rest h so =
    (by_word task (CellLoad source.cell) _ records (λ none. none) h (λ word later got. as_rest later rest got.1 so.0)).0
operates_in task a source (operations.Add amount) records effect rest h so =
    (by_word task (CellLoad source.cell) _ records (λ none. none) h (λ word later got.
    makes_changes task a source (changes.Write (sum_of a.size (value_in a source word) amount)) later got.0 rest got.1 so)).0
operates_in task a source (operations.Change change) records effect rest h so = makes_changes task a source change records effect rest h so

locks_first : (task lock : ℕ) (records rest : List Record) → TakesLock task lock records rest → SameNext (LockTry lock task) records
locks_first task lock [] rest h = tt
locks_first task lock (first ∷ later) rest h = h.1

-- a try of a lock, where the tries that follow on a refused one are known
lock_on : (task lock : ℕ) (first : Record) (later rest : List Record) → FailedWait rest → (TakesLock task lock later rest → FailedWait later)
    → (was_free : Bool) → first.answer ≡ answers.Flag was_free → MatchBool was_free (rest ≡ later) (TakesLock task lock later rest)
    → (checks.is_no first.answer ≡ true → SameNext (LockTry lock task) later) × FailedWait later
lock_on task lock first later rest so again true answer over = (
  λ failed. absurd (let none : false ≡ true = ap checks.is_no (sym answer) ∙ failed in cc),
  as_rest later rest over so,
)
lock_on task lock first later rest so again false answer on = (λ failed. locks_first task lock later rest on, again on)

locks : (task lock : ℕ) (records rest : List Record) → TakesLock task lock records rest → FailedWait rest → FailedWait records
locks task lock [] rest h so = absurd h
locks task lock (first ∷ later) rest h so =
    let Goal : Type 0 = (checks.is_no first.answer ≡ true → SameNext (LockTry lock task) later) × FailedWait later in
    let next : Goal = on_flag first.answer _ Goal h.2 (lock_on task lock first later rest so (λ on. locks task lock later rest on so)) in
    try_step first later (LockTry lock task) h.1 (λ none. none) (λ half failed tries. next.0 failed) next.1

module _ (s : Setting) where
  operates : (a : access.Access) (operation : Option Operation) (records : List Record) (effect : Effect) (rest : List Record)
      → Operates (checks_of s) a operation records effect rest → Both rest → FailedWait records
  operates a None records effect rest h so = as_rest records rest h.1 so.0
  operates a (Some operation) records effect rest h so = operates_in s.text.task a h.0 operation records effect rest h.2 so

  abbrev GoesByFailedTries : Standing → List Record → Standing → List Record → Type 0
  GoesByFailedTries before records after rest = FailedWait rest → FailedWait records

  failed_wait : Kept s GoesByFailedTries
  failed_wait = record {
    still = λ before records so. so;
    joins = λ before between after records later rest p q so. p (q so);
    marked = λ ends_nothing count m before records so. so;
    lost = λ before records so. so;
    assigned = λ before records register value so. so;
    makes = λ a operation effect before records after rest h so.
        check_failed_wait (checks_of s) before.scopes h.begun before.asked records h.passes h.checked h.check
        (operates a operation h.checked effect h.done h.operates
        (by_word s.text.task Clock _ h.done (λ none. none) h.ends (λ stamp later over. as_rest later rest over so)));
    locks = λ lock before records rest is takes so. locks s.text.task (lock_number s lock) records rest takes so;
    unlocks = λ lock before records rest has stores so.
        (by_done s.text.task (LockStore (lock_number s lock)) _ records (λ none. none) stores (λ later over. as_rest later rest over so)).0;
    scoped = λ a assertion begun before opened closing after records inside later rest opens inner closes so.
        check_failed_wait (checks_of s) before.scopes begun before.asked records opens.passes inside opens.check
        (inner (close_failed_wait (checks_of s) begun closes.silenced closing.asked later closes.passes rest closes.close so));
  }

  text_failed_wait : (registers : ℕ) (body : Block) (records : List Record) → SpellsAll s registers body records → FailedWait records
  text_failed_wait registers body records h = by_block s GoesByFailedTries failed_wait 0 body (at_first registers) records h.end [] h.steps (λ half. tt)

-- the left one of two that are both true
left_of : (a b : Bool) → a && b ≡ true → a ≡ true
left_of true b h = refl
left_of false b h = h

loads_on : (index : ℕ) (next : Step) → loads_pair index next ≡ true → LoadsPair next
loads_on index (PairLoad at) h = tt
loads_on index (Load at) h = absurd (let none : false ≡ true = h in cc)
loads_on index (Insert at word) h = absurd (let none : false ≡ true = h in cc)
loads_on index (TryConsume at word) h = absurd (let none : false ≡ true = h in cc)
loads_on index (Consume at) h = absurd (let none : false ≡ true = h in cc)
loads_on index (Remove at) h = absurd (let none : false ≡ true = h in cc)
loads_on index (Name at ticket) h = absurd (let none : false ≡ true = h in cc)
loads_on index (Tell at ticket) h = absurd (let none : false ≡ true = h in cc)
loads_on index (Clear at) h = absurd (let none : false ≡ true = h in cc)
loads_on index (CellLoad cell) h = absurd (let none : false ≡ true = h in cc)
loads_on index (CellExchange cell seen new) h = absurd (let none : false ≡ true = h in cc)
loads_on index (LockTry lock task) h = absurd (let none : false ≡ true = h in cc)
loads_on index (LockStore lock) h = absurd (let none : false ≡ true = h in cc)
loads_on index Clock h = absurd (let none : false ≡ true = h in cc)

-- a step that is tried again was a failed try
was_failed_wait : (half : Option (Halves → ℕ)) (step : Step) (answer : Answer) (next : Step) → (LoadsPair step → LoadsPair next → is_failed half step answer ≡ true)
    → is_tried_again step answer next ≡ true → is_failed half step answer ≡ true
was_failed_wait half (CellExchange cell seen new) answer next again h = left_of (is_word answer) (exchanges_in cell next) h
was_failed_wait half (LockTry lock task) answer next again h = left_of (checks.is_no answer) (tries_lock lock next) h
was_failed_wait half (PairLoad index) answer next again h = again tt (loads_on index next h)
was_failed_wait half (Load at) answer next again h = h
was_failed_wait half (Insert at word) answer next again h = h
was_failed_wait half (TryConsume at word) answer next again h = h
was_failed_wait half (Consume at) answer next again h = h
was_failed_wait half (Remove at) answer next again h = h
was_failed_wait half (Name at ticket) answer next again h = h
was_failed_wait half (Tell at ticket) answer next again h = h
was_failed_wait half (Clear at) answer next again h = h
was_failed_wait half (CellLoad cell) answer next again h = h
was_failed_wait half (LockStore lock) answer next again h = h
was_failed_wait half Clock answer next again h = h

one_more : (was failed : Bool) (tries most : ℕ) → (was ≡ true → failed ≡ true) → tries ≤ most → (if was then suc tries else 0) ≤ (if failed then most + 1 else 0)
one_more true true tries most so few = omega (arith, few)
one_more true false tries most so few = absurd (let none : false ≡ true = so refl in cc)
one_more false true tries most so few = omega arith
one_more false false tries most so few = omega arith

-- records, the oldest first, before others, which stand with the latest first
abbrev onto : List Record → List Record → List Record
onto [] before = before
onto (first ∷ later) before = onto later (first ∷ before)

onto_is : (mine before : List Record) → reverse mine ++ before ≡ onto mine before
onto_is [] before = refl
onto_is (first ∷ later) before =
    ap (λ (r : List Record). r ++ before) (reverse-append (first ∷ []) later)
    ∙ (append_assoc (reverse later) (first ∷ []) before ∙ onto_is later (first ∷ before))

-- the step that comes next comes after no more tries than these
abbrev FirstFew : List Record → List Record → ℕ → Type 0
FirstFew [] before most = Unit {0}
FirstFew (first ∷ later) before most = failed_tries first.step before ≤ most

next_few : (first : Record) (later before : List Record) (half : Option (Halves → ℕ)) (most : ℕ)
    → (LoadsPair first.step → LoadsNext later → is_failed half first.step first.answer ≡ true) → failed_tries first.step before ≤ most
    → FirstFew later (first ∷ before) (if is_failed half first.step first.answer then most + 1 else 0)
next_few first [] before half most again few = tt
next_few first (next ∷ later) before half most again few =
    one_more (is_tried_again first.step first.answer next.step) (is_failed half first.step first.answer) (failed_tries first.step before) most
    (was_failed_wait half first.step first.answer next.step again) few

tries_fail : (mine before rest : List Record) (last : Record) (half : Option (Halves → ℕ)) (most : ℕ) → FailsAgain half (mine ++ last ∷ rest)
    → FirstFew (mine ++ last ∷ rest) before most → failed_tries last.step (onto mine before) ≤ failed_from half most mine
tries_fail [] before rest last half most so few = few
tries_fail (first ∷ later) before rest last half most so few =
    tries_fail later (first ∷ before) rest last (awaited half first.step) (if is_failed half first.step first.answer then most + 1 else 0) so.2
    (next_few first (later ++ last ∷ rest) before half most so.0 few)

none_first : (records : List Record) → FirstFew records [] 0
none_first [] = tt
none_first (first ∷ later) = omega arith

-- a failed try is of a kind that is tried again
failed_tries_so : (half : Option (Halves → ℕ)) (step : Step) (answer : Answer) → is_failed half step answer ≡ true → Tries step
failed_tries_so half (PairLoad at) answer h = tt
failed_tries_so half (CellExchange cell seen new) answer h = tt
failed_tries_so half (LockTry lock task) answer h = tt
failed_tries_so half (Load at) answer h = absurd (let none : false ≡ true = h in cc)
failed_tries_so half (Insert at word) answer h = absurd (let none : false ≡ true = h in cc)
failed_tries_so half (TryConsume at word) answer h = absurd (let none : false ≡ true = h in cc)
failed_tries_so half (Consume at) answer h = absurd (let none : false ≡ true = h in cc)
failed_tries_so half (Remove at) answer h = absurd (let none : false ≡ true = h in cc)
failed_tries_so half (Name at ticket) answer h = absurd (let none : false ≡ true = h in cc)
failed_tries_so half (Tell at ticket) answer h = absurd (let none : false ≡ true = h in cc)
failed_tries_so half (Clear at) answer h = absurd (let none : false ≡ true = h in cc)
failed_tries_so half (CellLoad cell) answer h = absurd (let none : false ≡ true = h in cc)
failed_tries_so half (LockStore lock) answer h = absurd (let none : false ≡ true = h in cc)
failed_tries_so half Clock answer h = absurd (let none : false ≡ true = h in cc)

both_true : (a b : Bool) → a ≡ true → b ≡ true → a && b ≡ true
both_true a b p q = rw (p, q) refl

-- a failed try before one of the same is one before that step
was_same : (half : Option (Halves → ℕ)) (step : Step) (answer : Answer) (next : Step) → is_failed half step answer ≡ true → TriesSame step next
    → is_tried_again step answer next ≡ true
was_same half (PairLoad at) answer next h same = subst (λ (x : Step). loads_pair at x ≡ true) (sym same) (eq-eqb at at refl)
was_same half (CellExchange cell seen new) answer next h same =
    both_true (is_word answer) (exchanges_in cell next) h
    (subst (λ (x : Step). exchanges_in cell x ≡ true) (sym same.2) (eq-eqb cell cell refl))
was_same half (LockTry lock task) answer next h same =
    both_true (checks.is_no answer) (tries_lock lock next) h
    (subst (λ (x : Step). tries_lock lock x ≡ true) (sym same) (eq-eqb lock lock refl))
was_same half (Load at) answer next h same = h
was_same half (Insert at word) answer next h same = h
was_same half (TryConsume at word) answer next h same = h
was_same half (Consume at) answer next h same = h
was_same half (Remove at) answer next h same = h
was_same half (Name at ticket) answer next h same = h
was_same half (Tell at ticket) answer next h same = h
was_same half (Clear at) answer next h same = h
was_same half (CellLoad cell) answer next h same = h
was_same half (LockStore lock) answer next h same = h
was_same half Clock answer next h same = h

one_less : (was failed : Bool) (tries least : ℕ) → (failed ≡ true → was ≡ true) → (failed ≡ true → least ≤ tries) → (if failed then least + 1 else 0) ≤ (if was then suc tries else 0)
one_less was false tries least so many = omega arith
one_less true true tries least so many = let enough : least ≤ tries = many refl in omega (arith, enough)
one_less false true tries least so many = absurd (let none : false ≡ true = so refl in cc)

-- where the step that comes next is a try, it comes after as many tries as these
abbrev FirstMany : List Record → List Record → ℕ → Type 0
FirstMany [] before least = Unit {0}
FirstMany (first ∷ later) before least = Tries first.step → least ≤ failed_tries first.step before

next_many : (first : Record) (later before : List Record) (half : Option (Halves → ℕ)) (least : ℕ)
    → (is_failed half first.step first.answer ≡ true → TriesNext later → SameNext first.step later) → (Tries first.step → least ≤ failed_tries first.step before)
    → FirstMany later (first ∷ before) (if is_failed half first.step first.answer then least + 1 else 0)
next_many first [] before half least same many = tt
next_many first (next ∷ later) before half least same many = λ tries.
    one_less (is_tried_again first.step first.answer next.step) (is_failed half first.step first.answer) (failed_tries first.step before) least
    (λ failed. was_same half first.step first.answer next.step failed (same failed tries))
    (λ failed. many (failed_tries_so half first.step first.answer failed))

failed_are_tries : (mine before rest : List Record) (last : Record) (half : Option (Halves → ℕ)) (least : ℕ) → FailsAgain half (mine ++ last ∷ rest)
    → FirstMany (mine ++ last ∷ rest) before least → Tries last.step → failed_from half least mine ≤ failed_tries last.step (onto mine before)
failed_are_tries [] before rest last half least so many tries = many tries
failed_are_tries (first ∷ later) before rest last half least so many tries =
    failed_are_tries later (first ∷ before) rest last (awaited half first.step) (if is_failed half first.step first.answer then least + 1 else 0) so.2
    (next_many first (later ++ last ∷ rest) before half least so.1 many) tries

none_before : (records : List Record) → FirstMany records [] 0
none_before [] = tt
none_before (first ∷ later) = λ tries. omega arith

-- a try of a wait is of a kind that is tried again
tries_so : (step : Step) (earlier : List Record) → IsTry step earlier → Tries step
tries_so (PairLoad at) earlier h = tt
tries_so (CellExchange cell seen new) earlier h = tt
tries_so (LockTry lock task) earlier h = tt
tries_so (Load at) earlier h = h
tries_so (Insert at word) earlier h = h
tries_so (TryConsume at word) earlier h = h
tries_so (Consume at) earlier h = h
tries_so (Remove at) earlier h = h
tries_so (Name at ticket) earlier h = h
tries_so (Tell at ticket) earlier h = h
tries_so (Clear at) earlier h = h
tries_so (CellLoad cell) earlier h = h
tries_so (LockStore lock) earlier h = h
tries_so Clock earlier h = h

as_many : (task : ℕ) (records more : List Record) (step : Step) → FailedWait (records ++ more) → GoesOn task step more → Tries step
    → failed_tries step (reverse records) ≡ checks.failed_tries records
as_many task records [] step so goes tries = absurd goes
as_many task records (last ∷ rest) step so goes tries =
    let turned : onto records [] ≡ reverse records = sym (onto_is records []) ∙ append-nil (reverse records) in
    let few : failed_tries last.step (onto records []) ≤ checks.failed_tries records =
    tries_fail records [] rest last None 0 (so None) (none_first (records ++ last ∷ rest)) in
    let many : checks.failed_tries records ≤ failed_tries last.step (onto records []) =
    failed_are_tries records [] rest last None 0 (so None) (none_before (records ++ last ∷ rest)) (subst Tries (sym goes.1) tries) in
    let same : failed_tries last.step (onto records []) ≡ checks.failed_tries records = omega (arith, few, many) in
    subst (λ (r : List Record). failed_tries step r ≡ checks.failed_tries records) turned
    (subst (λ (x : Step). failed_tries x (onto records []) ≡ checks.failed_tries records) goes.1 same)

pub tries_are_failed : (s : Setting) (registers : ℕ) (body : Block) (records : List Record) (step : Step) → WrittenOrder s registers body records
    → OnlyStep s registers body records step → IsTry step (reverse records) → failed_tries step (reverse records) ≡ checks.failed_tries records
tries_are_failed s registers body records step written only tried =
    as_many s.text.task records written.more step (text_failed_wait s registers body (records ++ written.more) written.whole)
    (only written.more written.whole) (tries_so step (reverse records) tried)

pub stuck_by_failed_tries : (s : Setting) (registers : ℕ) (body : Block) (records : List Record)
    → IsStuck s registers body records ↔ IsStuckByFailedTries s registers body records
stuck_by_failed_tries s registers body records = (
  λ stuck. record {
    step = stuck.step;
    written = stuck.written;
    only = stuck.only;
    tries = stuck.tried.0;
    failed_wait = subst (λ (n : ℕ). s.rules.turns ≤ n) (tries_are_failed s registers body records stuck.step stuck.written stuck.only stuck.tried.0) stuck.tried.1;
  },
  λ stuck. record {
    step = stuck.step;
    written = stuck.written;
    only = stuck.only;
    tried = (stuck.tries, subst (λ (n : ℕ). s.rules.turns ≤ n) (sym (tries_are_failed s registers body records stuck.step stuck.written stuck.only stuck.tries)) stuck.failed_wait);
  },
)
