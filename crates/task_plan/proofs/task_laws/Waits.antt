-- Waits are open: each answer ends them, or they go on.
use Rattle.std.proofs.Common.{◌≡◌, ◌⊎◌, ◌∙◌, ◌++◌, ◌<◌, ℕ, zero, suc, true, false, List, [], ◌∷◌, MatchBool, arith, inl, inr, refl, subst}
use Rattle.access_run.specs.memory_operation.Locks.{TakesLock}
use Rattle.setup_access.specs.Found.{Hears}
use Rattle.setup_access.specs.Parts.{made}
use Rattle.setup_access.specs.Records.{OnFlag, OnHalves}
use Rattle.slot.specs.Pair.{Halves}
use Rattle.slot_table.specs.Answer.{Answers, IsFlag, IsHalves}
use Rattle.slot_table.specs.declared.records.Record.{Record}
use Rattle.slot_table.specs.declared.step.Answer.{Answer}
use Rattle.slot_table.specs.declared.step.Answer.TheVariants as answers
use Rattle.slot_table.specs.declared.step.Step.{Step}
use Rattle.slot_table.specs.declared.step.Step.TheVariants.{LockTry, PairLoad}
use Rattle.task_plan.proofs.task_laws.Opens.{After, Begins, IsOpen, Lists, Open, SomeIs, Turns}

-- a wait made of one step again and again, which some answers end
module _ (task : ℕ) (step : Step) (E A : Lists) (KE KA : Answer → Lists) (Stops Again : Answer → Type 0)
    (splits : (first : Record) (later : List Record) → E (first ∷ later)
    → (first.task ≡ task) × (first.step ≡ step) × ((Stops first.answer × KE first.answer later) ⊎ (Again first.answer × E later)))
    (stops : (first : Record) (later : List Record) → first.task ≡ task → first.step ≡ step → Stops first.answer → KA first.answer later → A (first ∷ later))
    (again : (first : Record) (later : List Record) → first.task ≡ task → first.step ≡ step → Again first.answer → A later → A (first ∷ later))
    (decides : (answer : Answer) → Answers step answer → Stops answer ⊎ Again answer) (one : Answer) (one_stops : Stops one)
    (follows : (answer : Answer) → Open (KE answer) (KA answer)) where
  waited : SomeIs A
  waited =
      let own = (follows one).some in (made task step one ∷ own.0, stops (made task step one) own.0 refl refl one_stops own.1)

  wait_turns : Turns E A
  wait_turns [] first other back h alike =
      let split = splits first back h in
      let fits : Answers step other.answer = subst (λ (st : Step). Answers st other.answer) split.1 alike.answers in
      elim (decides other.answer fits) [
        | inl ends ↦
            let own = (follows other.answer).some in (own.0, stops other own.0 (alike.task ∙ split.0) (alike.step ∙ split.1) ends own.1)
        | inr waits ↦ (waited.0, again other waited.0 (alike.task ∙ split.0) (alike.step ∙ split.1) waits waited.1)
      ]
  wait_turns (before ∷ front) first other back h alike =
      let split = splits before (front ++ first ∷ back) h in
      elim split.2 [
        | inl ends ↦
            let own = (follows before.answer).turns front first other back ends.1 alike in
            (own.0, stops before (front ++ other ∷ own.0) split.0 split.1 ends.0 own.1)
        | inr waits ↦
            let own = wait_turns front first other back waits.1 alike in
            (own.0, again before (front ++ other ∷ own.0) split.0 split.1 waits.0 own.1)
      ]

  pub wait_open : Open E A
  wait_open = record { some = waited; turns = wait_turns }

-- the tries of a lock
module _ (task lock : ℕ) where
  abbrev Tries : Begins (Unit {0})
  Tries records value rest = TakesLock task lock records rest

  abbrev IsTaken : Answer → Type 0
  IsTaken answer = answer ≡ answers.Flag true

  abbrev IsFailed : Answer → Type 0
  IsFailed answer = answer ≡ answers.Flag false

  module _ (E : Unit {0} → Lists) where
    tried : (answer : Answer) (later rest : List Record) → OnFlag answer (λ was_free. MatchBool was_free (rest ≡ later) (TakesLock task lock later rest))
        → E tt rest → ((IsTaken answer × E tt later) ⊎ (IsFailed answer × After (Unit {0}) Tries E later))
    tried (answers.Word word) later rest h follows = absurd h
    tried (answers.Flag true) later rest h follows = inl (refl, subst (λ (r : List Record). E tt r) h follows)
    tried (answers.Flag false) later rest h follows = inr (refl, (tt, rest, h, follows))
    tried (answers.Halves setter finder) later rest h follows = absurd h
    tried answers.Done later rest h follows = absurd h

    lock_splits : (first : Record) (later : List Record) → After (Unit {0}) Tries E (first ∷ later)
        → (first.task ≡ task) × (first.step ≡ LockTry lock task)
        × ((IsTaken first.answer × E tt later) ⊎ (IsFailed first.answer × After (Unit {0}) Tries E later))
    lock_splits first later h = (h.2.0, h.2.1, tried first.answer later h.1 h.2.2 h.3)

    lock_stops : (first : Record) (later : List Record) → first.task ≡ task → first.step ≡ LockTry lock task → IsTaken first.answer → E tt later
        → After (Unit {0}) Tries E (first ∷ later)
    lock_stops first later task_is step_is is follows = (tt, later, (task_is, step_is, rw is refl), follows)

    lock_again : (first : Record) (later : List Record) → first.task ≡ task → first.step ≡ LockTry lock task → IsFailed first.answer
        → After (Unit {0}) Tries E later → After (Unit {0}) Tries E (first ∷ later)
    lock_again first later task_is step_is is more = (tt, more.1, (task_is, step_is, rw is more.2), more.3)

  flag_decides : (answer : Answer) → IsFlag answer → IsTaken answer ⊎ IsFailed answer
  flag_decides (answers.Word word) is = absurd is
  flag_decides (answers.Flag true) is = inl refl
  flag_decides (answers.Flag false) is = inr refl
  flag_decides (answers.Halves setter finder) is = absurd is
  flag_decides answers.Done is = absurd is

  pub lock_open : IsOpen (Unit {0}) Tries
  lock_open E A follows =
      wait_open task (LockTry lock task) (After (Unit {0}) Tries E) (After (Unit {0}) Tries A) (λ answer. E tt) (λ answer. A tt) IsTaken IsFailed
      (lock_splits E) (lock_stops A) (lock_again A) flag_decides (answers.Flag true) refl (λ answer. follows tt)

-- the loads of a pair until a half stands in it
module _ (half : Halves → ℕ) (both_stand : 0 < half (record { setter = 1; finder = 1 })) (task index : ℕ) where
  abbrev Loads : Begins Halves
  Loads records value rest = Hears half task index records value rest

  abbrev Stands : Answer → Type 0
  Stands answer = OnHalves answer (λ heard. 0 < half heard)

  abbrev Lacks : Answer → Type 0
  Lacks answer = OnHalves answer (λ heard. half heard ≡ 0)

  -- the halves that an answer tells
  abbrev told : Answer → Halves
  told (answers.Word word) = record { setter = 0; finder = 0 }
  told (answers.Flag flag) = record { setter = 0; finder = 0 }
  told (answers.Halves setter finder) = record { setter = setter; finder = finder }
  told answers.Done = record { setter = 0; finder = 0 }

  module _ (E : Halves → Lists) where
    heard : (answer : Answer) (later : List Record) (both : Halves) (rest : List Record) → OnHalves answer (λ heard.
        ((0 < half heard) × (both ≡ heard) × (rest ≡ later)) ⊎ ((half heard ≡ 0) × Hears half task index later both rest))
        → E both rest → ((Stands answer × E (told answer) later) ⊎ (Lacks answer × After Halves Loads E later))
    heard (answers.Word word) later both rest h follows = absurd h
    heard (answers.Flag flag) later both rest h follows = absurd h
    heard answers.Done later both rest h follows = absurd h
    heard (answers.Halves setter finder) later both rest h follows = elim h [
      | inl ends ↦ inl (
        ends.0,
        subst (λ (r : List Record). E (record { setter = setter; finder = finder }) r) ends.2
            (subst (λ (b : Halves). E b rest) ends.1 follows),
      )
      | inr waits ↦ inr (waits.0, (both, rest, waits.1, follows))
    ]

    pair_splits : (first : Record) (later : List Record) → After Halves Loads E (first ∷ later)
        → (first.task ≡ task) × (first.step ≡ PairLoad index)
        × ((Stands first.answer × E (told first.answer) later) ⊎ (Lacks first.answer × After Halves Loads E later))
    pair_splits first later h = (h.2.0, h.2.1, heard first.answer later h.0 h.1 h.2.2 h.3)

    stands : (answer : Answer) (later : List Record) → Stands answer → OnHalves answer (λ heard.
        ((0 < half heard) × (told answer ≡ heard) × (later ≡ later)) ⊎ ((half heard ≡ 0) × Hears half task index later (told answer) later))
    stands (answers.Word word) later is = absurd is
    stands (answers.Flag flag) later is = absurd is
    stands answers.Done later is = absurd is
    stands (answers.Halves setter finder) later is = inl (is, refl, refl)

    pair_stops : (first : Record) (later : List Record) → first.task ≡ task → first.step ≡ PairLoad index → Stands first.answer → E (told first.answer) later
        → After Halves Loads E (first ∷ later)
    pair_stops first later task_is step_is is follows = (told first.answer, later, (task_is, step_is, stands first.answer later is), follows)

    lacks : (answer : Answer) (later : List Record) (both : Halves) (rest : List Record) → Lacks answer → Hears half task index later both rest
        → OnHalves answer (λ heard. ((0 < half heard) × (both ≡ heard) × (rest ≡ later)) ⊎ ((half heard ≡ 0) × Hears half task index later both rest))
    lacks (answers.Word word) later both rest is more = absurd is
    lacks (answers.Flag flag) later both rest is more = absurd is
    lacks answers.Done later both rest is more = absurd is
    lacks (answers.Halves setter finder) later both rest is more = inr (is, more)

    pair_again : (first : Record) (later : List Record) → first.task ≡ task → first.step ≡ PairLoad index → Lacks first.answer
        → After Halves Loads E later → After Halves Loads E (first ∷ later)
    pair_again first later task_is step_is is more = (more.0, more.1, (task_is, step_is, lacks first.answer later more.0 more.1 is more.2), more.3)

  none_or_some : (n : ℕ) → (0 < n) ⊎ (n ≡ 0)
  none_or_some zero = inr refl
  none_or_some (suc n) = inl (omega arith)

  pair_decides : (answer : Answer) → IsHalves answer → Stands answer ⊎ Lacks answer
  pair_decides (answers.Word word) is = absurd is
  pair_decides (answers.Flag flag) is = absurd is
  pair_decides (answers.Halves setter finder) is = none_or_some (half (record { setter = setter; finder = finder }))
  pair_decides answers.Done is = absurd is

  pub hears_open : IsOpen Halves Loads
  hears_open E A follows =
      wait_open task (PairLoad index) (After Halves Loads E) (After Halves Loads A) (λ answer. E (told answer)) (λ answer. A (told answer)) Stands Lacks
      (pair_splits E) (pair_stops A) (pair_again A) pair_decides (answers.Halves 1 1) both_stand (λ answer. follows (told answer))
