-- An operation and the tries of a lock end where they end, whatever follows; and what comes of an
-- operation is what its records did.
use Rattle.std.proofs.Common.{◌≡◌, ◌∙◌, ◌∷◌, [], ℕ, Bool, true, false, List, MatchBool, ap, refl, sym}
use Rattle.access_types.specs.Access.{Access}
use Rattle.access_run.specs.memory_operation.Effects.{and_then, change_did, changed, did, exchange_did, load_did, nothing, only_read, shown}
use Rattle.access_run.specs.memory_operation.Locks.{TakesLock}
use Rattle.access_run.specs.memory_operation.Operations.{Changes, Exchanges, OnExchange, OperatesIn}
use Rattle.access_run.specs.memory_operation.Values.{is_wanted, sum_of}
use Rattle.access_run.specs.declared.memory_operation.effect.Effect.{Effect}
use Rattle.access_run.specs.declared.memory_operation.operation.Change.{Change}
use Rattle.access_run.specs.declared.memory_operation.operation.Change.TheVariants as changes
use Rattle.access_run.specs.declared.memory_operation.operation.Operation.{Operation}
use Rattle.access_run.specs.declared.memory_operation.operation.Operation.TheVariants as operations
use Rattle.setup_access.specs.Records.{OnFlag, OnWord}
use Rattle.setup_access.specs.Values.{value_in}
use Rattle.setup_access.specs.declared.source.Source.{Source}
use Rattle.slot_table.specs.declared.records.Record.{Record}
use Rattle.slot_table.specs.declared.step.Answer.{Answer}
use Rattle.slot_table.specs.declared.step.Answer.TheVariants as answers
use Rattle.slot_table.specs.declared.step.Step.TheVariants.{CellLoad}
use Rattle.access_run.proofs.memory_operation.EffectLemmas.{then_nothing}
use Rattle.access_run.proofs.memory_operation.Fronts.{Front, front_first, front_map, front_none, front_word}
use Rattle.access_run.proofs.memory_operation.TurnLemmas.{ends_now, none_end}

module _ (task : ℕ) (a : Access) (source : Source) (change : Change) (effect : Effect) where
  -- what an exchange comes to by its answer
  abbrev Answered : ℕ → Answer → List Record → List Record → Type 0
  Answered seen answer later rest = OnExchange answer
      ((effect ≡ changed a.size change (value_in a source seen)) × (rest ≡ later))
      (λ word. Exchanges task a source change word later effect rest)

  exchanges_front : (wanted : Bool) (seen : ℕ) (records rest : List Record) → is_wanted a.size change (value_in a source seen) ≡ wanted
      → Exchanges task a source change seen records effect rest
      → Front (λ r l. Exchanges task a source change seen r effect l) records rest
  exchanges_front false seen records rest is h =
      let over = (ends_now task a source change seen records effect rest is).0 h in
      ([], sym over.1, λ other. (ends_now task a source change seen other effect other is).1 (over.0, refl))
  exchanges_front true seen [] rest is h = absurd (none_end task a source change seen effect rest is h)
  exchanges_front true seen (first ∷ later) rest is h =
      let tried = rw is at h in
      front_first (λ r l. Exchanges task a source change seen r effect l) (Answered seen first.answer) first later rest
      (answered first.answer (λ word got. exchanges_front (is_wanted a.size change (value_in a source word)) word later rest refl got) tried.1)
      (λ more left got. rw is (tried.0, got))
    where
      answered : (answer : Answer)
          → ((word : ℕ) → Exchanges task a source change word later effect rest → Front (λ r l. Exchanges task a source change word r effect l) later rest)
          → Answered seen answer later rest → Front (Answered seen answer) later rest
      answered (answers.Word word) again got = again word got
      answered (answers.Flag true) again got = front_none (effect ≡ changed a.size change (value_in a source seen)) later rest got.0 got.1
      answered (answers.Flag false) again got = absurd got
      answered (answers.Halves setter finder) again got = absurd got
      answered answers.Done again got = absurd got

  pub changes_front : (records rest : List Record) → Changes task a source change records effect rest
      → Front (λ r l. Changes task a source change r effect l) records rest
  changes_front records rest h = front_word task (CellLoad source.cell)
      (λ seen later l. Exchanges task a source change seen later effect l) records rest h
      (λ seen later got. exchanges_front (is_wanted a.size change (value_in a source seen)) seen later rest refl got)

pub operation_front : (task : ℕ) (a : Access) (source : Source) (operation : Operation) (effect : Effect) (records rest : List Record)
    → OperatesIn task a source operation records effect rest
    → Front (λ r l. OperatesIn task a source operation r effect l) records rest
operation_front task a source operations.Load effect records rest h = front_word task (CellLoad source.cell)
    (λ word later l. (effect ≡ only_read (value_in a source word)) × (l ≡ later)) records rest h
    (λ word later got. front_none (effect ≡ only_read (value_in a source word)) later rest got.0 got.1)
operation_front task a source (operations.Add amount) effect records rest h = front_word task (CellLoad source.cell)
    (λ word later l. (more : Effect) × Changes task a source (changes.Write (sum_of a.size (value_in a source word) amount)) later more l
    × (effect ≡ and_then (only_read (value_in a source word)) more)) records rest h
    (λ word later got. front_map
    (λ r l. Changes task a source (changes.Write (sum_of a.size (value_in a source word) amount)) r got.0 l)
    (λ r l. (more : Effect) × Changes task a source (changes.Write (sum_of a.size (value_in a source word) amount)) r more l
    × (effect ≡ and_then (only_read (value_in a source word)) more)) later rest
    (changes_front task a source (changes.Write (sum_of a.size (value_in a source word) amount)) got.0 later rest got.1)
    (λ r l own. (got.0, own, got.2)))
operation_front task a source (operations.Change change) effect records rest h =
    changes_front task a source change effect records rest h

-- the tries of a lock
module _ (task lock : ℕ) where
  abbrev Tried : Answer → List Record → List Record → Type 0
  Tried answer later rest = OnFlag answer (λ was_free. MatchBool was_free (rest ≡ later) (TakesLock task lock later rest))

  pub lock_front : (records rest : List Record) → TakesLock task lock records rest
      → Front (λ r l. TakesLock task lock r l) records rest
  lock_front [] rest h = absurd h
  lock_front (first ∷ later) rest h =
      front_first (λ r l. TakesLock task lock r l) (Tried first.answer) first later rest
      (tried first.answer (λ got. lock_front later rest got) h.2) (λ more left got. (h.0, h.1, got))
    where
      tried : (answer : Answer) → (TakesLock task lock later rest → Front (λ r l. TakesLock task lock r l) later rest)
          → Tried answer later rest → Front (Tried answer) later rest
      tried (answers.Flag true) again got = ([], sym got, λ other. refl)
      tried (answers.Flag false) again got = again got
      tried (answers.Word word) again got = absurd got
      tried (answers.Halves setter finder) again got = absurd got
      tried answers.Done again got = absurd got

-- what an answered word did
word_did : (answer : Answer) (F : ℕ → Effect) (P : ℕ → Type 0) (effect : Effect) → OnWord answer P
    → ((word : ℕ) → P word → effect ≡ F word) → effect ≡ load_did F answer
word_did (answers.Word word) F P effect h is = is word h
word_did (answers.Flag flag) F P effect h is = absurd h
word_did (answers.Halves setter finder) F P effect h is = absurd h
word_did answers.Done F P effect h is = absurd h

module _ (task : ℕ) (a : Access) (source : Source) (change : Change) (effect : Effect) where
  exchanges_did : (wanted : Bool) (seen : ℕ) (records : List Record) → is_wanted a.size change (value_in a source seen) ≡ wanted
      → Exchanges task a source change seen records effect []
      → effect ≡ and_then (shown a source change seen) (change_did a source change records)
  exchanges_did false seen records is h =
      let over = (ends_now task a source change seen records effect [] is).0 h in
      let nothing_more : nothing ≡ change_did a source change records = ap (change_did a source change) over.1 in
      rw is (over.0 ∙ ap (and_then (only_read (value_in a source seen))) nothing_more)
  exchanges_did true seen [] is h = absurd (none_end task a source change seen effect [] is h)
  exchanges_did true seen (first ∷ later) is h =
      let tried = rw is at h in
      rw (is, tried.0.1) (answered first.answer (λ word got. exchanges_did (is_wanted a.size change (value_in a source word)) word later refl got) tried.1)
    where
      answered : (answer : Answer)
          → ((word : ℕ) → Exchanges task a source change word later effect [] → effect ≡ and_then (shown a source change word) (change_did a source change later))
          → Answered task a source change effect seen answer later []
          → effect ≡ and_then (exchange_did a source change seen answer) (change_did a source change later)
      answered (answers.Word word) again got = again word got
      answered (answers.Flag true) again got =
          let made : Effect = changed a.size change (value_in a source seen) in
          let nothing_more : nothing ≡ change_did a source change later = ap (change_did a source change) got.1 in
          got.0 ∙ (sym (then_nothing made) ∙ ap (and_then made) nothing_more)
      answered (answers.Flag false) again got = absurd got
      answered (answers.Halves setter finder) again got = absurd got
      answered answers.Done again got = absurd got

  -- the load of a change, and what follows on it
  loaded_did : (answer : Answer) (later : List Record)
      → OnWord answer (λ seen. Exchanges task a source change seen later effect [])
      → effect ≡ and_then (load_did (shown a source change) answer) (change_did a source change later)
  loaded_did (answers.Word word) later h = exchanges_did (is_wanted a.size change (value_in a source word)) word later refl h
  loaded_did (answers.Flag flag) later h = absurd h
  loaded_did (answers.Halves setter finder) later h = absurd h
  loaded_did answers.Done later h = absurd h

  pub changes_did : (records : List Record) → Changes task a source change records effect []
      → effect ≡ change_did a source change records
  changes_did [] h = absurd h
  changes_did (first ∷ later) h = rw h.1 (loaded_did first.answer later h.2)

pub operation_did : (task : ℕ) (a : Access) (source : Source) (operation : Operation) (records : List Record) (effect : Effect)
    → OperatesIn task a source operation records effect [] → effect ≡ did a source operation records
operation_did task a source operations.Load [] effect h = absurd h
operation_did task a source operations.Load (first ∷ later) effect h =
    word_did first.answer (λ word. only_read (value_in a source word)) _ effect h.2 (λ word got. got.0)
operation_did task a source (operations.Add amount) [] effect h = absurd h
operation_did task a source (operations.Add amount) (first ∷ later) effect h =
    word_did first.answer
    (λ word. and_then (only_read (value_in a source word)) (change_did a source (changes.Write (sum_of a.size (value_in a source word) amount)) later))
    _ effect h.2
    (λ word got. got.2 ∙ ap (and_then (only_read (value_in a source word)))
    (changes_did task a source (changes.Write (sum_of a.size (value_in a source word) amount)) got.0 later got.1))
operation_did task a source (operations.Change change) records effect h = changes_did task a source change effect records h
