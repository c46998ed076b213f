-- Operations on memory are open.
use Rattle.std.proofs.Common.{◌≡◌, ◌⊎◌, ◌∙◌, ◌++◌, ℕ, Bool, true, false, List, [], ◌∷◌, Option, None, Some, IsSome, inl, inr, refl, subst, sym}
use Rattle.access_run.specs.Leads.{HasCell}
use Rattle.access_types.specs.Access.{Access}
use Rattle.access_run.proofs.memory_operation.TurnLemmas.{ends_now}
use Rattle.access_run.specs.memory_operation.Effects.{and_then, changed, nothing, only_read}
use Rattle.access_run.specs.memory_operation.Operations.{Changes, Exchanges, IsExchange, OnExchange, Operates, OperatesIn}
use Rattle.access_run.specs.memory_operation.Values.{is_wanted, new_value, sum_of, with_value}
use Rattle.access_run.specs.declared.memory_operation.effect.Effect.{Effect}
use Rattle.access_run.specs.declared.memory_operation.operation.Change.{Change}
use Rattle.access_run.specs.declared.memory_operation.operation.Change.TheVariants as changes
use Rattle.access_run.specs.declared.memory_operation.operation.Operation.{Operation}
use Rattle.access_run.specs.declared.memory_operation.operation.Operation.TheVariants as operations
use Rattle.setup_access.specs.Parts.{made}
use Rattle.setup_access.specs.Records.{MakesWord}
use Rattle.setup_access.specs.Setting.{Setting}
use Rattle.setup_access.specs.Values.{source_of, value_in}
use Rattle.setup_access.specs.declared.source.Source.{Source}
use Rattle.slot_table.specs.Answer.{Answers, IsWord}
use Rattle.slot_table.specs.declared.records.Record.{Record}
use Rattle.slot_table.specs.declared.step.Answer.{Answer}
use Rattle.slot_table.specs.declared.step.Answer.TheVariants as answers
use Rattle.slot_table.specs.declared.step.Step.{Step}
use Rattle.slot_table.specs.declared.step.Step.TheVariants.{CellExchange, CellLoad}
use Rattle.task_plan.specs.task_laws.SameStep.{IsAlike}
use Rattle.task_plan.proofs.task_laws.Opens.{After, Begins, IsOpen, Lists, Open, SomeIs, is_open_as, mapped_open, none_open, word_then}

module _ (task : ℕ) (a : Access) (source : Source) where
  module _ (change : Change) where
    abbrev From : ℕ → Begins Effect
    From seen records effect rest = Exchanges task a source change seen records effect rest

    abbrev wanted_in : ℕ → Bool
    wanted_in seen = is_wanted a.size change (value_in a source seen)

    abbrev step_from : ℕ → Step
    step_from seen = CellExchange source.cell seen (with_value a source seen (new_value a.size change (value_in a source seen)))

    abbrev ended : ℕ → Effect
    ended seen = only_read (value_in a source seen)

    abbrev made_from : ℕ → Effect
    made_from seen = changed a.size change (value_in a source seen)

    module _ (E A : Effect → Lists) (follows : (effect : Effect) → Open (E effect) (A effect)) where
      accepted : (seen : ℕ) (other : Record) (later : List Record) → wanted_in seen ≡ true → IsExchange task a source change seen other
          → other.answer ≡ answers.Flag true → A (made_from seen) later → After Effect (From seen) A (other ∷ later)
      accepted seen other later is exchange answer_is k = (made_from seen, later, rw is (exchange, rw answer_is (refl, refl)), k)

      refused : (seen word : ℕ) (other : Record) (later : List Record) → wanted_in seen ≡ true → IsExchange task a source change seen other
          → other.answer ≡ answers.Word word → After Effect (From word) A later → After Effect (From seen) A (other ∷ later)
      refused seen word other later is exchange answer_is more = (more.0, more.1, rw is (exchange, rw answer_is more.2), more.3)

      some_from : (seen : ℕ) (wanted : Bool) → wanted_in seen ≡ wanted → SomeIs (After Effect (From seen) A)
      some_from seen true is =
          let own = (follows (made_from seen)).some in (
            made task (step_from seen) (answers.Flag true) ∷ own.0,
            accepted seen (made task (step_from seen) (answers.Flag true)) own.0 is
                (refl, refl) refl own.1,
          )
      some_from seen false is =
          let own = (follows (ended seen)).some in
          (own.0, (ended seen, own.0, (ends_now task a source change seen own.0 (ended seen) own.0 is).1 (refl, refl), own.1))

      other_answer : (seen : ℕ) (other : Record) (answer : Answer) → wanted_in seen ≡ true → IsExchange task a source change seen other
          → other.answer ≡ answer → (answer ≡ answers.Flag true) ⊎ IsWord answer → (more : List Record) × After Effect (From seen) A (other ∷ more)
      other_answer seen other answer is exchange answer_is (inl accepts) =
          let own = (follows (made_from seen)).some in (own.0, accepted seen other own.0 is exchange (answer_is ∙ accepts) own.1)
      other_answer seen other (answers.Word word) is exchange answer_is (inr refuses) =
          let own = some_from word (wanted_in word) refl in (own.0, refused seen word other own.0 is exchange answer_is own.1)
      other_answer seen other (answers.Flag flag) is exchange answer_is (inr refuses) = absurd refuses
      other_answer seen other (answers.Halves setter finder) is exchange answer_is (inr refuses) = absurd refuses
      other_answer seen other answers.Done is exchange answer_is (inr refuses) = absurd refuses

      -- what an exchange was answered, and what follows on it
      answered : (before : Record) (later : List Record) (effect : Effect) (rest : List Record) (seen : ℕ) (answer : Answer) → before.answer ≡ answer
          → OnExchange answer ((effect ≡ made_from seen) × (rest ≡ later)) (λ word. Exchanges task a source change word later effect rest) → E effect rest
          → (((before.answer ≡ answers.Flag true) × E (made_from seen) later)
          ⊎ ((word : ℕ) × (before.answer ≡ answers.Word word) × After Effect (From word) E later))
      answered before later effect rest seen (answers.Flag true) is h k =
          inl (is, subst (λ (r : List Record). E (made_from seen) r) h.1 (subst (λ (e : Effect). E e rest) h.0 k))
      answered before later effect rest seen (answers.Flag false) is h k = absurd h
      answered before later effect rest seen (answers.Word word) is h k = inr (word, is, (effect, rest, h, k))
      answered before later effect rest seen (answers.Halves setter finder) is h k = absurd h
      answered before later effect rest seen answers.Done is h k = absurd h

      turns_from : (front : List Record) (seen : ℕ) (wanted : Bool) → wanted_in seen ≡ wanted → (first other : Record) (back : List Record)
          → After Effect (From seen) E (front ++ first ∷ back) → IsAlike first other → (more : List Record) × After Effect (From seen) A (front ++ other ∷ more)
      turns_from front seen false is first other back h alike =
          let all : List Record = front ++ first ∷ back in
          let over = (ends_now task a source change seen all h.0 h.1 is).0 h.2 in
          let k : E (ended seen) all = subst (λ (r : List Record). E (ended seen) r) over.1 (subst (λ (e : Effect). E e h.1) over.0 h.3) in
          let own = (follows (ended seen)).turns front first other back k alike in
          let new : List Record = front ++ other ∷ own.0 in
          (own.0, (ended seen, new, (ends_now task a source change seen new (ended seen) new is).1 (refl, refl), own.1))
      turns_from [] seen true is first other back h alike =
          let tried = rw is at h.2 in
          let exchange : IsExchange task a source change seen other = (alike.task ∙ tried.0.0, alike.step ∙ tried.0.1) in
          let fits : Answers (step_from seen) other.answer = subst (λ (st : Step). Answers st other.answer) tried.0.1 alike.answers in
          other_answer seen other other.answer is exchange refl fits
      turns_from (before ∷ front) seen true is first other back h alike =
          let tried = rw is at h.2 in
          elim (answered before (front ++ first ∷ back) h.0 h.1 seen before.answer refl tried.1 h.3) [
            | inl accepts ↦
                let own = (follows (made_from seen)).turns front first other back accepts.1 alike in
                (own.0, accepted seen before (front ++ other ∷ own.0) is tried.0 accepts.0 own.1)
            | inr refuses ↦
                let own = turns_from front refuses.0 (wanted_in refuses.0) refl first other back refuses.2 alike in
                (own.0, refused seen refuses.0 before (front ++ other ∷ own.0) is tried.0 refuses.1 own.1)
          ]

    exchanges_open : (seen : ℕ) → IsOpen Effect (From seen)
    exchanges_open seen E A follows = record {
      some = some_from E A follows seen (wanted_in seen) refl;
      turns = λ front first other back h alike. turns_from E A follows front seen (wanted_in seen) refl first other back h alike;
    }

  -- a load of the cell, and what follows on its word
  loaded_open : (R : ℕ → Begins Effect) → ((word : ℕ) → IsOpen Effect (R word))
      → IsOpen Effect (λ records effect rest. MakesWord task (CellLoad source.cell) (λ word later. R word later effect rest) records)
  loaded_open R opens = word_then task (CellLoad source.cell) Effect R (λ answer fits. fits) tt opens

  changes_open : (change : Change) → IsOpen Effect (λ records effect rest. Changes task a source change records effect rest)
  changes_open change = loaded_open (λ seen. From change seen) (λ seen. exchanges_open change seen)

  added : (amount word : ℕ) → IsOpen Effect (λ records effect rest. (more : Effect)
      × Changes task a source (changes.Write (sum_of a.size (value_in a source word) amount)) records more rest
      × (effect ≡ and_then (only_read (value_in a source word)) more))
  added amount word =
      let change : Change = changes.Write (sum_of a.size (value_in a source word) amount) in
      mapped_open Effect Effect (λ records effect rest. Changes task a source change records effect rest)
      (λ more. and_then (only_read (value_in a source word)) more)
      (changes_open change)

  pub operation_open : (operation : Operation) → IsOpen Effect (λ records effect rest. OperatesIn task a source operation records effect rest)
  operation_open operations.Load =
      loaded_open (λ word records effect rest. (effect ≡ only_read (value_in a source word)) × (rest ≡ records))
      (λ word. none_open Effect (only_read (value_in a source word)))
  operation_open (operations.Add amount) =
      loaded_open (λ word records effect rest. (more : Effect)
      × Changes task a source (changes.Write (sum_of a.size (value_in a source word) amount)) records more rest
      × (effect ≡ and_then (only_read (value_in a source word)) more)) (λ word. added amount word)
  operation_open (operations.Change change) = changes_open change

of_source : (source : Option Source) → IsSome source → (some : Source) × (source ≡ Some some)
of_source None is = absurd (let no : false ≡ true = is in cc)
of_source (Some source) is = (source, refl)

-- an access whose bytes lie in a cell, if it has an operation
pub operates_open : (s : Setting) (a : Access) (operation : Option Operation) → HasCell s a operation
    → IsOpen Effect (λ records effect rest. Operates s a operation records effect rest)
operates_open s a None has = none_open Effect nothing
operates_open s a (Some operation) has =
    let source = of_source (source_of s a) has in
    is_open_as Effect (λ records effect rest. OperatesIn s.task a source.0 operation records effect rest)
    (λ records effect rest. Operates s a (Some operation) records effect rest)
    (λ records effect rest. (
      λ h. (source.0, source.1, h),
      λ h. let same : h.0 ≡ source.0 = some_is h.0 source.0 (sym h.1 ∙ source.1) in
          subst (λ (one : Source). OperatesIn s.task a one operation records effect rest) same h.2,
    )) (operation_open s.task a source.0 operation)
  where
    some_is : (one two : Source) → (Some one ≡ Some two) → one ≡ two
    some_is one two is = cc
