-- How many steps of a check, and of an operation on memory, are no failed tries.
use Rattle.std.proofs.Common.{◌≡◌, ◌≤◌, ◌∙◌, ◌+◌, ◌*◌, ◌||◌, ◌∷◌, [], ℕ, Bool, true, false, List, MatchBool, MatchOption, None, Option, Some, ap, arith, eq-eqb, inl, inr, length, refl}
use Rattle.access_types.specs.Access.{Access}
use Rattle.access_run.specs.memory_operation.Locks.{TakesLock}
use Rattle.access_run.specs.memory_operation.Operations.{Exchanges, OnExchange, Operates, OperatesIn}
use Rattle.access_run.specs.memory_operation.Values.{is_wanted, sum_of}
use Rattle.access_run.specs.declared.memory_operation.effect.Effect.{Effect}
use Rattle.access_run.specs.declared.memory_operation.operation.Change.{Change}
use Rattle.access_run.specs.declared.memory_operation.operation.Change.TheVariants as changes
use Rattle.access_run.specs.declared.memory_operation.operation.Operation.{Operation}
use Rattle.access_run.specs.declared.memory_operation.operation.Operation.TheVariants as operations
use Rattle.setup_access.proofs.DisciplineLemmas.{on_flag, on_halves, on_word}
use Rattle.setup_access.specs.Check as cases
use Rattle.setup_access.specs.Check.{Check, ChecksAll, ChecksBegun, ChecksOnce, Close, Fallen, GoesOn, NoneFound, Pass, Passes, Rechecks, fallen_of, left_to_check}
use Rattle.setup_access.specs.Find.{LooksUp}
use Rattle.setup_access.specs.Found.{Hears, Takes, setter_half, finder_half}
use Rattle.setup_access.specs.Records.{MakesDone, MakesFlag, MakesWord}
use Rattle.setup_access.specs.Setting.{Setting, look_order, slot_of, try_order}
use Rattle.setup_access.specs.Setup.{Arms, Frees, Judged, Judges, TriesInsert, WatchesAt}
use Rattle.setup_access.specs.Values.{LoadsFrom, both_values, source_of, value_in}
use Rattle.setup_access.specs.declared.begun.Begun.{Begun}
use Rattle.setup_access.specs.declared.outcome.Outcome.{Outcome}
use Rattle.setup_access.specs.declared.outcome.Watchpoint.{Watchpoint}
use Rattle.setup_access.specs.declared.source.Source.{Source}
use Rattle.slot.specs.Pair.{Halves}
use Rattle.slot_table.specs.declared.records.Record.{Record}
use Rattle.slot_table.specs.declared.step.Answer.{Answer}
use Rattle.slot_table.specs.declared.step.Answer.TheVariants as answers
use Rattle.slot_table.specs.declared.step.Step.{Step}
use Rattle.slot_table.specs.declared.step.Step.TheVariants.{CellExchange, LockTry, PairLoad}
use Rattle.executions.proofs.step_bounds.Firm.{firm, none_firm, one_firm, failed_before}
use Rattle.program_order.specs.Waits.{is_tried_again}

-- up to the rest, no more than so many of the records are no failed tries
abbrev pub Few : ℕ → List Record → List Record → Type 0
Few n records rest = firm records ≤ firm rest + n

pub none_few : (records rest : List Record) → rest ≡ records → Few 0 records rest
none_few records rest is = let same : firm rest ≡ firm records = ap firm is in omega (arith, same)

-- after one step
few_after : (n : ℕ) (first : Record) (later rest : List Record) → Few n later rest → Few (n + 1) (first ∷ later) rest
few_after n first later rest few = let one = one_firm first later in omega (arith, one, few)

pub few_more : (n m : ℕ) (records rest : List Record) → n ≤ m → Few n records rest → Few m records rest
few_more n m records rest more few = omega (arith, more, few)

pub few_both : (n m : ℕ) (records later rest : List Record) → Few n records later → Few m later rest → Few (n + m) records rest
few_both n m records later rest first second = omega (arith, first, second)

pub word_few : (task : ℕ) (step : Step) (Goes : ℕ → List Record → Type 0) (n : ℕ) (records rest : List Record)
    → ((word : ℕ) (later : List Record) → Goes word later → Few n later rest) → MakesWord task step Goes records → Few (n + 1) records rest
word_few task step Goes n [] rest goes h = absurd h
word_few task step Goes n (first ∷ later) rest goes h =
    let got = on_word first.answer (λ word. Goes word later) h.2 in few_after n first later rest (goes got.0 later got.2)

flag_few : (task : ℕ) (step : Step) (Goes : Bool → List Record → Type 0) (n : ℕ) (records rest : List Record)
    → ((flag : Bool) (later : List Record) → Goes flag later → Few n later rest) → MakesFlag task step Goes records
    → Few (n + 1) records rest
flag_few task step Goes n [] rest goes h = absurd h
flag_few task step Goes n (first ∷ later) rest goes h =
    let got = on_flag first.answer (λ flag. Goes flag later) h.2 in few_after n first later rest (goes got.0 later got.2)

pub done_few : (task : ℕ) (step : Step) (Goes : List Record → Type 0) (n : ℕ) (records rest : List Record)
    → ((later : List Record) → Goes later → Few n later rest) → MakesDone task step Goes records → Few (n + 1) records rest
done_few task step Goes n [] rest goes h = absurd h
done_few task step Goes n (first ∷ later) rest goes h = few_after n first later rest (goes later h.2.1)

by_bool : (b : Bool) (A B R : Type 0) → MatchBool b A B → (A → R) → (B → R) → R
by_bool true A B R h at_true at_false = at_true h
by_bool false A B R h at_true at_false = at_false h

-- a look-up, and an insertion
looks_few : (s : Setting) (a : Access) (indices : List ℕ) (records : List Record) (found : Option Watchpoint) (rest : List Record)
    → LooksUp s a indices records found rest → Few (length indices) records rest
looks_few s a [] records found rest h = none_few records rest h.1
looks_few s a (index ∷ indices) records found rest h =
    let few = word_few s.task _ _ (length indices) records rest (λ word later goes. elim goes [
      | inl it ↦ few_more 0 (length indices) later rest (omega arith) (none_few later rest it.2)
      | inr on ↦ looks_few s a indices later found rest on.1
    ]) h in omega (arith, few)

inserts_few : (task word : ℕ) (indices : List ℕ) (records : List Record) (place : Option ℕ) (rest : List Record)
    → TriesInsert task word indices records place rest → Few (length indices) records rest
inserts_few task word [] records place rest h = none_few records rest h.1
inserts_few task word (index ∷ indices) records place rest h =
    let few = flag_few task _ _ (length indices) records rest (λ accepted later goes. by_bool accepted _ _
    (Few (length indices) later rest) goes
    (λ it. few_more 0 (length indices) later rest (omega arith) (none_few later rest it.1))
    (λ on. inserts_few task word indices later place rest on)) h in omega (arith, few)

-- loads of a pair that were heard no half go on with one more
loads_again : (half : Halves → ℕ) (task index : ℕ) (first : Record) (later : List Record) (both : Halves) (rest : List Record)
    → first.step ≡ PairLoad index
    → Hears half task index later both rest → failed_before first later ≡ true
loads_again half task index first [] both rest is h = absurd h
loads_again half task index first (next ∷ later) both rest is h =
    ap (λ (x : Step). is_tried_again x first.answer next.step) is ∙ (ap (λ (x : Step). is_tried_again (PairLoad index) first.answer x) h.1
    ∙ eq-eqb index index refl)

hears_few : (half : Halves → ℕ) (task index : ℕ) (records : List Record) (both : Halves) (rest : List Record)
    → Hears half task index records both rest
    → Few 1 records rest
hears_few half task index [] both rest h = absurd h
hears_few half task index (first ∷ later) both rest h =
    let got = on_halves first.answer _ h.2 in
    elim got.2 [
      | inl it ↦ few_after 0 first later rest (none_few later rest it.2)
      | inr on ↦
          let more = hears_few half task index later both rest on.1 in
          let same = none_firm first later (loads_again half task index first later both rest h.1 on.1) in
          omega (arith, more, same)
    ]

-- tries of a lock that isn't free go on with one more
tries_again : (task lock : ℕ) (first : Record) (later rest : List Record) → first.step ≡ LockTry lock task
    → first.answer ≡ answers.Flag false
    → TakesLock task lock later rest → failed_before first later ≡ true
tries_again task lock first [] rest is refused h = absurd h
tries_again task lock first (next ∷ later) rest is refused h =
    ap (λ (x : Step). is_tried_again x first.answer next.step) is
    ∙ (ap (λ (x : Answer). is_tried_again (LockTry lock task) x next.step) refused
    ∙ (ap (λ (x : Step). is_tried_again (LockTry lock task) (answers.Flag false) x) h.1 ∙ eq-eqb lock lock refl))

pub lock_few : (task lock : ℕ) (records rest : List Record) → TakesLock task lock records rest → Few 1 records rest
lock_few task lock [] rest h = absurd h
lock_few task lock (first ∷ later) rest h =
    let got = on_flag first.answer _ h.2 in
    by_flag got.0 (λ refused on. tries_again task lock first later rest h.1 (got.1 ∙ ap (λ (b : Bool). answers.Flag b) refused) on)
    (λ on. lock_few task lock later rest on) got.2
  where
    by_flag : (was_free : Bool) → (was_free ≡ false → TakesLock task lock later rest → failed_before first later ≡ true)
        → (TakesLock task lock later rest → Few 1 later rest) → MatchBool was_free (rest ≡ later) (TakesLock task lock later rest)
        → Few 1 (first ∷ later) rest
    by_flag true again goes over = few_after 0 first later rest (none_few later rest over)
    by_flag false again goes on =
        let more = goes on in
        let same = none_firm first later (again refl on) in
        omega (arith, more, same)

-- a refused exchange goes on with one more, or the change ends
on_exchange : (answer : Answer) (Accepted : Type 0) (Refused : ℕ → Type 0) (R : Type 0) → OnExchange answer Accepted Refused
    → (Accepted → R) → ((word : ℕ) → answer ≡ answers.Word word → Refused word → R) → R
on_exchange (answers.Word word) Accepted Refused R h accepted refused = refused word refl h
on_exchange (answers.Flag true) Accepted Refused R h accepted refused = accepted h
on_exchange (answers.Flag false) Accepted Refused R h accepted refused = absurd h
on_exchange (answers.Halves setter finder) Accepted Refused R h accepted refused = absurd h
on_exchange answers.Done Accepted Refused R h accepted refused = absurd h

module _ (task : ℕ) (a : Access) (source : Source) (change : Change) where
  exchanges_again : (old new word : ℕ) (first : Record) (later : List Record) (effect : Effect) (rest : List Record)
      → first.step ≡ CellExchange source.cell old new → first.answer ≡ answers.Word word
      → Exchanges task a source change word later effect rest
      → Few 1 later rest → Few 1 (first ∷ later) rest
  exchanges_again old new word first [] effect rest is refused h more =
      by_bool (is_wanted a.size change (value_in a source word)) _ _ (Few 1 (first ∷ []) rest) h (λ no. absurd no)
      (λ over. few_after 0 first [] rest (none_few [] rest over.1))
  exchanges_again old new word first (next ∷ later) effect rest is refused h more =
      by_bool (is_wanted a.size change (value_in a source word)) _ _ (Few 1 (first ∷ (next ∷ later)) rest) h
      (λ again.
      let failed : failed_before first (next ∷ later) ≡ true =
      ap (λ (x : Step). is_tried_again x first.answer next.step) is
      ∙ (ap (λ (x : Answer). is_tried_again (CellExchange source.cell old new) x next.step) refused
      ∙ (ap (λ (x : Step). is_tried_again (CellExchange source.cell old new) (answers.Word word) x) again.0.1
      ∙ eq-eqb source.cell source.cell refl)) in
      let same = none_firm first (next ∷ later) failed in omega (arith, more, same))
      (λ over. few_after 0 first (next ∷ later) rest (none_few (next ∷ later) rest over.1))

  exchanges_few : (seen : ℕ) (records : List Record) (effect : Effect) (rest : List Record)
      → Exchanges task a source change seen records effect rest
      → Few 1 records rest
  exchanges_few seen [] effect rest h =
      by_bool (is_wanted a.size change (value_in a source seen)) _ _ (Few 1 [] rest) h (λ no. absurd no)
      (λ over. few_more 0 1 [] rest (omega arith) (none_few [] rest over.1))
  exchanges_few seen (first ∷ later) effect rest h =
      by_bool (is_wanted a.size change (value_in a source seen)) _ _ (Few 1 (first ∷ later) rest) h
      (λ tried. on_exchange first.answer _ _ (Few 1 (first ∷ later) rest) tried.1
      (λ accepted. few_after 0 first later rest (none_few later rest accepted.1))
      (λ word refused on. exchanges_again seen _ word first later effect rest tried.0.1 refused on
      (exchanges_few word later effect rest on)))
      (λ over. few_more 0 1 (first ∷ later) rest (omega arith) (none_few (first ∷ later) rest over.1))

  changes_few : (records : List Record) (effect : Effect) (rest : List Record)
      → OperatesIn task a source (operations.Change change) records effect rest
      → Few 2 records rest
  changes_few records effect rest h =
      word_few task _ _ 1 records rest (λ seen later goes. exchanges_few seen later effect rest goes) h

-- an operation on memory
operates_in_few : (task : ℕ) (a : Access) (source : Source) (operation : Operation) (records : List Record) (effect : Effect)
    (rest : List Record)
    → OperatesIn task a source operation records effect rest → Few 3 records rest
operates_in_few task a source operations.Load records effect rest h =
    let few = word_few task _ _ 0 records rest (λ word later goes. none_few later rest goes.1) h in few_more 1 3 records rest
    (omega arith) few
operates_in_few task a source (operations.Add amount) records effect rest h =
    word_few task _ _ 2 records rest
    (λ word later goes. changes_few task a source (changes.Write (sum_of a.size
    (value_in a source word) amount)) later goes.0 rest goes.1) h
operates_in_few task a source (operations.Change change) records effect rest h =
    few_more 2 3 records rest (omega arith) (changes_few task a source change records effect rest h)

pub operates_few : (s : Setting) (a : Access) (operation : Option Operation) (records : List Record) (effect : Effect) (rest : List Record)
    → Operates s a operation records effect rest → Few 3 records rest
operates_few s a None records effect rest h = few_more 0 3 records rest (omega arith) (none_few records rest h.1)
operates_few s a (Some operation) records effect rest h = operates_in_few s.task a h.0 operation records effect rest h.2

-- the parts of a check
module _ (s : Setting) (a : Access) where
  takes_few : (found : Watchpoint) (records : List Record) (outcome : Outcome) (rest : List Record) → Takes s a found records outcome rest
      → Few 3 records rest
  takes_few found records outcome rest h =
      flag_few s.task _ _ 2 records rest (λ taken later goes. by_bool taken _ _ (Few 2 later rest) goes
      (λ tells. few_both 1 1 later tells.1 rest (hears_few setter_half s.task found.index later tells.0 tells.1 tells.2)
      (done_few s.task _ _ 0 tells.1 rest (λ after told. none_few after rest told.1) tells.3))
      (λ lost. few_more 0 2 later rest (omega arith) (none_few later rest lost.1))) h

  found_few : (mask : Option ℕ) (found : Watchpoint) (records : List Record) (outcome : Outcome) (rest : List Record) (Masked : ℕ → Type 0)
      → ((mask : ℕ) → Masked mask → rest ≡ records) → MatchOption mask (Takes s a found records outcome rest) Masked → Few 3 records rest
  found_few None found records outcome rest Masked none h = takes_few found records outcome rest h
  found_few (Some mask) found records outcome rest Masked none h = few_more 0 3 records rest (omega arith)
      (none_few records rest (none mask h))

  loads_few : (source : Option Source) (records : List Record) (value : Option ℕ) (rest : List Record)
      → LoadsFrom s a source records value rest
      → Few 1 records rest
  loads_few None records value rest h = few_more 0 1 records rest (omega arith) (none_few records rest h.1)
  loads_few (Some source) records value rest h = word_few s.task _ _ 0 records rest (λ word later goes. none_few later rest goes.1) h

  judges_few : (index : ℕ) (values : Option (ℕ × ℕ)) (records : List Record) (outcome : Outcome) (rest : List Record)
      → Judges s a index values records outcome rest → Few 2 records rest
  judges_few index values records outcome rest h =
      flag_few s.task _ _ 1 records rest (λ untouched later goes. by_bool untouched _ _ (Few 1 later rest) goes
      (λ over. few_more 0 1 later rest (omega arith) (none_few later rest over.1))
      (λ hit. hears_few finder_half s.task index later hit.0 rest hit.1)) h

  arms_few : (index : ℕ) (records : List Record) (outcome : Outcome) (rest : List Record) → Arms s a index records outcome rest
      → Few 5 records rest
  arms_few index records outcome rest h =
      done_few s.task _ _ 4 records rest (λ later watches.
      few_both 1 3 later watches.2 rest (loads_few (source_of s a) later watches.0 watches.2 watches.4)
      (few_both 1 2 watches.2 watches.3 rest (loads_few (source_of s a) watches.2 watches.1 watches.3 watches.5)
      (judges_few index (both_values watches.0 watches.1) watches.3 outcome rest watches.6))) h

  watches_few : (place : Option ℕ) (records : List Record) (judged : Option Judged) (rest : List Record)
      → WatchesAt s a place records judged rest
      → Few 5 records rest
  watches_few None records judged rest h = few_more 0 5 records rest (omega arith) (none_few records rest h.1)
  watches_few (Some index) records judged rest h = arms_few index records h.0 rest h.1

  frees_few : (index : ℕ) (records rest : List Record) → Frees s index records rest → Few 2 records rest
  frees_few index records rest h =
      done_few s.task _ _ 1 records rest (λ later removes. done_few s.task _ _ 0 later rest
      (λ after over. none_few after rest over) removes) h

  ends_few : (asked : ℕ) (judged : Option Judged) (records : List Record) (pass : Pass) (rest : List Record)
      → cases.Ends s asked judged records pass rest
      → Few 2 records rest
  ends_few asked None records pass rest h = few_more 0 2 records rest (omega arith) (none_few records rest h.1)
  ends_few asked (Some judged) records pass rest h = frees_few judged.index records rest h.1

  none_found_few : (marked : Bool) (asked : ℕ) (records : List Record) (pass : Pass) (rest : List Record)
      → NoneFound s a marked asked records pass rest
      → Few 10 records rest
  none_found_few marked asked records pass rest (cases.counts_as_marked m is over) =
      few_more 0 10 records rest (omega arith) (none_few records rest over)
  none_found_few marked asked records pass rest (cases.skipped m n is over) =
      few_more 0 10 records rest (omega arith) (none_few records rest over)
  none_found_few marked asked records pass rest (cases.unencodable m w n is over) =
      few_more 0 10 records rest (omega arith) (none_few records rest over)
  none_found_few marked asked records pass rest (cases.watched judged later m w e up ends) =
      few_both 8 2 records later rest
      (few_both 3 5 records up.1 later (inserts_few s.task _ (try_order (slot_of s a)) records up.0 up.1 up.2)
      (watches_few up.0 up.1 judged later up.3))
      (ends_few (asked + 1) judged later pass rest ends)

  goes_on_few : (found : Option Watchpoint) (marked : Bool) (asked : ℕ) (records : List Record) (pass : Pass) (rest : List Record)
      → GoesOn s a marked asked found records pass rest → Few 10 records rest
  goes_on_few None marked asked records pass rest h = none_found_few marked asked records pass rest h
  goes_on_few (Some found) marked asked records pass rest h =
      few_more 3 10 records rest (omega arith) (found_few a.mask found records pass.outcome rest _ (λ mask none. none.1) h.3)

  once_few : (marked : Bool) (asked : ℕ) (records : List Record) (pass : Pass) (rest : List Record)
      → ChecksOnce s a marked asked records pass rest
      → Few 13 records rest
  once_few marked asked records pass rest h =
      few_both 3 10 records h.1 rest (looks_few s a (look_order (slot_of s a)) records h.0 h.1 h.2)
      (goes_on_few h.0 marked asked h.1 pass rest h.3)

-- a check, and a close
module _ (s : Setting) where
  rechecks_few : (scopes : List Begun) (asked : ℕ) (records : List Record) (passes : Passes) (rest : List Record)
      → Rechecks s scopes asked records passes rest
      → Few (13 * length scopes) records rest
  rechecks_few [] asked records passes rest h = none_few records rest h.1
  rechecks_few (scope ∷ scopes) asked records passes rest h =
      by_bool scope.silenced _ _ (Few (13 * length (scope ∷ scopes)) records rest) h
      (λ on. let few = rechecks_few scopes asked records passes rest on in omega (arith, few))
      (λ both.
      let once = once_few s scope.access scope.marked asked records both.0 both.1 both.3 in
      let few = rechecks_few scopes both.0.asked both.1 (record { outcomes = both.2; asked = passes.asked }) rest both.4 in
      omega (arith, once, few))

  left_fewer : (settled : Bool) (scopes : List Begun) → length (left_to_check settled scopes) ≤ length scopes
  left_fewer true scopes = omega arith
  left_fewer false scopes = omega arith

  all_few : (scopes : List Begun) (begun : Begun) (asked : ℕ) (records : List Record) (passes : Passes) (rest : List Record)
      → ChecksAll s scopes begun asked records passes rest → Few (13 + 13 * length scopes) records rest
  all_few scopes begun asked records passes rest h =
      let once = once_few s begun.access begun.marked asked records h.0 h.1 h.3 in
      let few = rechecks_few (left_to_check h.0.settled scopes) h.0.asked h.1 (record { outcomes = h.2; asked = passes.asked }) rest h.4 in
      let left = left_fewer h.0.settled scopes in
      omega (arith, once, few, left)

  pub check_few : (scopes : List Begun) (begun : Begun) (asked : ℕ) (records : List Record) (passes : Passes) (rest : List Record)
      → Check s scopes begun asked records passes rest → length scopes ≤ 8 → Few 118 records rest
  check_few scopes begun asked records passes rest h room =
      word_few s.task _ _ 117 records rest (λ stamp later goes. by_bool begun.silenced _ _ (Few 117 later rest) goes
      (λ quiet. few_more 0 117 later rest (omega arith) (none_few later rest quiet.1))
      (λ all. let few = all_few scopes begun asked later passes rest all in omega (arith, few, room))) h.2

  pub close_few : (scope : Begun) (silenced : Bool) (asked : ℕ) (records : List Record) (passes : Passes) (rest : List Record)
      → Close s scope silenced asked records passes rest → Few 14 records rest
  close_few scope silenced asked records passes rest h =
      let last = h.1 in
      few_both 13 1 records last.0 rest (rechecks_few (record scope {
        silenced =
            scope.silenced || silenced;
      } ∷ []) asked records passes last.0 last.1)
      (word_few s.task _ _ 0 last.0 rest (λ stamp after over. none_few after rest over) last.2)
