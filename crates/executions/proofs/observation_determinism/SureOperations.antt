-- Operations on memory, tries of a lock and single steps are told by their records.
use Rattle.std.proofs.Common.{◌≡◌, ◌∙◌, ◌<◌, ◌≤◌, ◌++◌, ◌∷◌, [], ℕ, Bool, true, false, List, Option, None, Some, MatchBool, ap, arith, inl, inr, length, refl}
use Rattle.std.proofs.Common.{subst, sym}
use Rattle.access_types.specs.Access.{Access}
use Rattle.access_run.specs.memory_operation.Effects.{and_then, changed, nothing, only_read}
use Rattle.access_run.specs.memory_operation.Locks.{TakesLock}
use Rattle.access_run.specs.memory_operation.Operations.{Changes, Ends, Exchanges, IsExchange, OnExchange, Operates, OperatesIn}
use Rattle.access_run.specs.memory_operation.Values.{is_wanted, sum_of}
use Rattle.access_run.specs.declared.memory_operation.effect.Effect.{Effect}
use Rattle.access_run.specs.declared.memory_operation.operation.Change.{Change}
use Rattle.access_run.specs.declared.memory_operation.operation.Change.TheVariants as changes
use Rattle.access_run.specs.declared.memory_operation.operation.Operation.{Operation}
use Rattle.access_run.specs.declared.memory_operation.operation.Operation.TheVariants as operations
use Rattle.setup_access.specs.Records.{MakesDone, MakesWord, OnFlag, OnWord}
use Rattle.setup_access.specs.Setting.{Setting}
use Rattle.setup_access.specs.Values.{source_of, value_in}
use Rattle.setup_access.specs.declared.source.Source.{Source}
use Rattle.setup_access.proofs.DisciplineLemmas.{on_flag, on_word}
use Rattle.slot_table.specs.declared.records.Record.{Record}
use Rattle.slot_table.specs.declared.step.Answer.{Answer}
use Rattle.slot_table.specs.declared.step.Answer.TheVariants as answers
use Rattle.slot_table.specs.declared.step.Step.{Step}
use Rattle.slot_table.specs.declared.step.Step.TheVariants.{CellLoad, Clock}
use Rattle.executions.proofs.observation_determinism.Sure.{Goes, Sure, same_length, sure_by, sure_done, sure_gives, sure_then, sure_unique, sure_word}

by_bool : (b : Bool) (A B R : Type 0) → MatchBool b A B → (A → R) → (B → R) → R
by_bool true A B R h at_true at_false = at_true h
by_bool false A B R h at_true at_false = at_false h

both_bool : (b : Bool) (A B C D R : Type 0) → MatchBool b A B → MatchBool b C D → (A → C → R) → (B → D → R) → R
both_bool true A B C D R h g at_true at_false = at_true h g
both_bool false A B C D R h g at_true at_false = at_false h g

on_exchange : (answer : Answer) (Accepted : Type 0) (Refused : ℕ → Type 0) (R : Type 0) → OnExchange answer Accepted Refused
    → (Accepted → R) → ((word : ℕ) → Refused word → R) → R
on_exchange (answers.Word word) Accepted Refused R h accepted refused = refused word h
on_exchange (answers.Flag true) Accepted Refused R h accepted refused = accepted h
on_exchange (answers.Flag false) Accepted Refused R h accepted refused = absurd h
on_exchange (answers.Halves setter finder) Accepted Refused R h accepted refused = absurd h
on_exchange answers.Done Accepted Refused R h accepted refused = absurd h

both_exchange : (answer : Answer) (A : Type 0) (B : ℕ → Type 0) (C : Type 0) (D : ℕ → Type 0) (R : Type 0) → OnExchange answer A B → OnExchange answer C D
    → (A → C → R) → ((word : ℕ) → B word → D word → R) → R
both_exchange (answers.Word word) A B C D R h g accepted refused = refused word h g
both_exchange (answers.Flag true) A B C D R h g accepted refused = accepted h g
both_exchange (answers.Flag false) A B C D R h g accepted refused = absurd h
both_exchange (answers.Halves setter finder) A B C D R h g accepted refused = absurd h
both_exchange answers.Done A B C D R h g accepted refused = absurd h

-- the exchanges of a change
module _ (task : ℕ) (a : Access) (source : Source) (change : Change) where
  abbrev wanted : ℕ → Bool
  wanted seen = is_wanted a.size change (value_in a source seen)

  abbrev Exchanged : ℕ → List Record → Effect → List Record → Type 0
  Exchanged seen [] effect rest = ⊥
  Exchanged seen (first ∷ later) effect rest =
      IsExchange task a source change seen first
      × OnExchange first.answer
      ((effect ≡ changed a.size change (value_in a source seen)) × (rest ≡ later))
      (λ word. Exchanges task a source change word later effect rest)

  tried : (seen : ℕ) (records : List Record) (effect : Effect) (rest : List Record) → Exchanges task a source change seen records effect rest
      → MatchBool (wanted seen) (Exchanged seen records effect rest) (Ends a source seen records effect rest)
  tried seen [] effect rest h = h
  tried seen (first ∷ later) effect rest h = h

  exchanges_less : (seen : ℕ) (records : List Record) (effect : Effect) (rest : List Record) → Exchanges task a source change seen records effect rest
      → length rest ≤ length records
  exchanges_less seen [] effect rest h =
      by_bool (wanted seen) ⊥ (Ends a source seen [] effect rest) (length rest ≤ length {A = Record} []) (tried seen [] effect rest h)
      (λ no. absurd no) (λ ends. same_length [] rest ends.1)
  exchanges_less seen (first ∷ later) effect rest h =
      by_bool (wanted seen) (Exchanged seen (first ∷ later) effect rest) (Ends a source seen (first ∷ later) effect rest) (length rest ≤ length (first ∷ later))
      (tried seen (first ∷ later) effect rest h)
      (λ made. on_exchange first.answer _ _ _ made.1
      (λ over. let less : length rest ≤ length later = same_length later rest over.1 in omega (arith, less))
      (λ word again. let less : length rest ≤ length later = exchanges_less word later effect rest again in omega (arith, less)))
      (λ ends. same_length (first ∷ later) rest ends.1)

  exchanged_less : (seen : ℕ) (first : Record) (later : List Record) (effect : Effect) (rest : List Record) → Exchanged seen (first ∷ later) effect rest
      → length rest ≤ length later
  exchanged_less seen first later effect rest h = on_exchange first.answer _ _ _ h.1
      (λ over. same_length later rest over.1) (λ word again. exchanges_less word later effect rest again)

  exchanged_far : (X Y : List Record) (seen : ℕ) (v w : Effect) (q r : List Record) → Exchanged seen X v q → Exchanged seen Y w r
      → Goes X Y (v ≡ w) (Unit {0}) q r
  exchanged_far [] Y seen v w q r h g = absurd h
  exchanged_far (x ∷ X) [] seen v w q r h g = absurd g
  exchanged_far (x ∷ X) (y ∷ Y) seen v w q r h g =
      let less : length q ≤ length X = exchanged_less seen x X v q h in
      let fewer : length r ≤ length Y = exchanged_less seen y Y w r g in inr (omega (arith, less), omega (arith, fewer), tt)

  exchanges_agree : (X Y S : List Record) (seen : ℕ) (v w : Effect) (q r : List Record) → Exchanges task a source change seen (S ++ X) v q
      → Exchanges task a source change seen (S ++ Y) w r → Goes X Y (v ≡ w) (Unit {0}) q r
  exchanges_agree X Y [] seen v w q r h g =
      both_bool (wanted seen) (Exchanged seen X v q) (Ends a source seen X v q) (Exchanged seen Y w r) (Ends a source seen Y w r)
      (Goes X Y (v ≡ w) (Unit {0}) q r)
      (tried seen X v q h) (tried seen Y w r g)
      (exchanged_far X Y seen v w q r)
      (λ one other. inl ([], one.1, other.1, one.0 ∙ sym other.0))
  exchanges_agree X Y (s ∷ S) seen v w q r h g =
      both_bool (wanted seen) (Exchanged seen (s ∷ (S ++ X)) v q) (Ends a source seen (s ∷ (S ++ X)) v q)
      (Exchanged seen (s ∷ (S ++ Y)) w r) (Ends a source seen (s ∷ (S ++ Y)) w r) (Goes X Y (v ≡ w) (Unit {0}) q r)
      (tried seen (s ∷ (S ++ X)) v q h) (tried seen (s ∷ (S ++ Y)) w r g)
      (λ one other. both_exchange s.answer
      ((v ≡ changed a.size change (value_in a source seen)) × (q ≡ S ++ X)) (λ word. Exchanges task a source change word (S ++ X) v q)
      ((w ≡ changed a.size change (value_in a source seen)) × (r ≡ S ++ Y)) (λ word. Exchanges task a source change word (S ++ Y) w r)
      (Goes X Y (v ≡ w) (Unit {0}) q r) one.1 other.1
      (λ here there. inl (S, here.1, there.1, here.0 ∙ sym there.0))
      (λ word here there. exchanges_agree X Y S word v w q r here there))
      (λ one other. inl (s ∷ S, one.1, other.1, one.0 ∙ sym other.0))

  exchanges : (seen : ℕ) → Sure (λ records effect rest. Exchanges task a source change seen records effect rest)
  exchanges seen = record {
    shrinks = λ records effect rest h. exchanges_less seen records effect rest h;
    agrees = λ X Y S v w q r h g. exchanges_agree X Y S seen v w q r h g;
  }

  makes_changes : Sure (λ records effect rest. Changes task a source change records effect rest)
  makes_changes = sure_word task (CellLoad source.cell) (λ seen later effect rest. Exchanges task a source change seen later effect rest) exchanges

pub operates_in : (task : ℕ) (a : Access) (source : Source) (operation : Operation)
    → Sure (λ records effect rest. OperatesIn task a source operation records effect rest)
operates_in task a source operations.Load = sure_word task (CellLoad source.cell)
    (λ word later effect rest. (effect ≡ only_read (value_in a source word)) × (rest ≡ later)) (λ word. sure_gives (only_read (value_in a source word)))
operates_in task a source (operations.Add amount) =
    let Adds : ℕ → Change = λ word. changes.Write (sum_of a.size (value_in a source word) amount) in
    sure_word task (CellLoad source.cell)
    (λ word later effect rest. (more : Effect) × Changes task a source (changes.Write (sum_of a.size (value_in a source word) amount)) later more rest
    × (effect ≡ and_then (only_read (value_in a source word)) more))
    (λ word. sure_by _ _
    (sure_then (λ later more rest. Changes task a source (Adds word) later more rest)
    (λ more later effect rest. (effect ≡ and_then (only_read (value_in a source word)) more) × (rest ≡ later))
    (makes_changes task a source (Adds word)) (λ more. sure_gives (and_then (only_read (value_in a source word)) more)))
    (λ later effect rest h. (h.0, rest, h.1, (h.2, refl))))
operates_in task a source (operations.Change change) = makes_changes task a source change

-- what a compound assignment reads is told by its first record
abbrev pub read_by : Access → Source → Answer → Option ℕ
read_by a source (answers.Word word) = Some (value_in a source word)
read_by a source answer = None

pub add_reads : (task : ℕ) (a : Access) (source : Source) (amount : ℕ) (first : Record) (later : List Record) (effect : Effect) (rest : List Record)
    → OperatesIn task a source (operations.Add amount) (first ∷ later) effect rest → effect.read ≡ read_by a source first.answer
add_reads task a source amount first later effect rest h = by_answer first.answer h.2
  where
    by_answer : (answer : Answer)
        → OnWord answer (λ word. (more : Effect) × Changes task a source (changes.Write (sum_of a.size (value_in a source word) amount)) later more rest
        × (effect ≡ and_then (only_read (value_in a source word)) more))
        → effect.read ≡ read_by a source answer
    by_answer (answers.Word word) got = ap (λ (e : Effect). e.read) got.2
    by_answer (answers.Flag flag) got = absurd got
    by_answer (answers.Halves setter finder) got = absurd got
    by_answer answers.Done got = absurd got

-- and it makes a step
pub add_later : (task : ℕ) (a : Access) (source : Source) (amount : ℕ) (first : Record) (later : List Record) (effect : Effect) (rest : List Record)
    → OperatesIn task a source (operations.Add amount) (first ∷ later) effect rest → length rest ≤ length later
add_later task a source amount first later effect rest h =
    let got = on_word first.answer
    (λ word. (more : Effect) × Changes task a source (changes.Write (sum_of a.size (value_in a source word) amount)) later more rest
    × (effect ≡ and_then (only_read (value_in a source word)) more)) h.2 in
    (makes_changes task a source (changes.Write (sum_of a.size (value_in a source got.0) amount))).shrinks later got.2.0 rest got.2.1

some_source : Source → Option Source → Source
some_source other None = other
some_source other (Some source) = source

pub one_source : (s : Setting) (a : Access) (v w : Source) → source_of s a ≡ Some v → source_of s a ≡ Some w → v ≡ w
unfolding some_source
one_source s a v w one other = ap (some_source v) (sym one ∙ other)

pub operates : (s : Setting) (a : Access) (operation : Option Operation) → Sure (λ records effect rest. Operates s a operation records effect rest)
operates s a None = sure_gives nothing
operates s a (Some operation) = sure_by _ _
    (sure_then (λ records source rest. (source_of s a ≡ Some source) × (rest ≡ records))
    (λ source later effect rest. OperatesIn s.task a source operation later effect rest)
    (sure_unique (λ source. source_of s a ≡ Some source) (one_source s a)) (λ source. operates_in s.task a source operation))
    (λ records effect rest h. (h.0, records, (h.1, refl), h.2))

-- one step
pub clocks : (task : ℕ) → Sure {V = Unit {0}} (λ records v rest. MakesWord task Clock (λ stamp later. rest ≡ later) records)
clocks task = sure_word task Clock (λ stamp later v rest. rest ≡ later)
    (λ stamp. sure_by (λ later v rest. rest ≡ later) _ (sure_gives tt) (λ later v rest same. (refl, same)))

pub stores : (task : ℕ) (step : Step) → Sure {V = Unit {0}} (λ records v rest. MakesDone task step (λ later. rest ≡ later) records)
stores task step = sure_done task step (λ later v rest. rest ≡ later)
    (sure_by (λ later v rest. rest ≡ later) _ (sure_gives tt) (λ later v rest same. (refl, same)))

-- tries of a lock
module _ (task lock : ℕ) where
  abbrev Taken : List Record → List Record → Bool → Type 0
  Taken later rest was_free = MatchBool was_free (rest ≡ later) (TakesLock task lock later rest)

  taken_less : (was_free : Bool) (later rest : List Record) → Taken later rest was_free → (TakesLock task lock later rest → length rest ≤ length later)
      → length rest ≤ length later
  taken_less true later rest h again = same_length later rest h
  taken_less false later rest h again = again h

  pub lock_less : (records rest : List Record) → TakesLock task lock records rest → length rest < length records
  lock_less [] rest h = absurd h
  lock_less (first ∷ later) rest h =
      let got = on_flag first.answer (Taken later rest) h.2 in
      let less : length rest ≤ length later =
      taken_less got.0 later rest got.2 (λ again. let fewer : length rest < length later = lock_less later rest again in omega (arith, fewer)) in
      omega (arith, less)

  lock_agree : (X Y S : List Record) (v w : Unit {0}) (q r : List Record) → TakesLock task lock (S ++ X) q → TakesLock task lock (S ++ Y) r
      → Goes X Y (v ≡ w) (Unit {0}) q r
  lock_agree X Y [] v w q r h g = inr (lock_less X q h, lock_less Y r g, tt)
  lock_agree X Y (s ∷ S) v w q r h g =
      let one = on_flag s.answer (Taken (S ++ X) q) h.2 in
      let other : Taken (S ++ Y) r one.0 = subst (λ (a : Answer). OnFlag a (Taken (S ++ Y) r)) one.1 g.2 in
      both_bool one.0 (q ≡ S ++ X) (TakesLock task lock (S ++ X) q) (r ≡ S ++ Y) (TakesLock task lock (S ++ Y) r) (Goes X Y (v ≡ w) (Unit {0}) q r) one.2 other
      (λ here there. inl (S, here, there, refl)) (λ here there. lock_agree X Y S v w q r here there)

  pub locks : Sure {V = Unit {0}} (λ records v rest. TakesLock task lock records rest)
  locks = record {
    shrinks = λ records v rest h. let less : length rest < length records = lock_less records rest h in omega (arith, less);
    agrees = lock_agree;
  }
