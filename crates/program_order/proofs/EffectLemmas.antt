-- What comes of an operation on memory.
use Rattle.std.proofs.Common.{◌≡◌, ◌⊎◌, ◌∙◌, ℕ, Bool, true, false, List, [], ◌∷◌, MatchBool, None, Some, ap, inl, inr, refl}
use Rattle.access_types.specs.Access.{Access}
use Rattle.access_run.specs.memory_operation.Effects.{and_then, changed, only_read}
use Rattle.access_run.specs.memory_operation.Operations.{Changes, Exchanges, OnExchange, Operates, OperatesIn}
use Rattle.access_run.specs.memory_operation.Values.{is_wanted, sum_of}
use Rattle.access_run.specs.declared.memory_operation.effect.Effect.{Effect}
use Rattle.access_run.specs.declared.memory_operation.operation.Change.{Change}
use Rattle.access_run.specs.declared.memory_operation.operation.Change.TheVariants as changes
use Rattle.access_run.specs.declared.memory_operation.operation.Operation.{Operation}
use Rattle.access_run.specs.declared.memory_operation.operation.Operation.TheVariants as operations
use Rattle.litmus_semantics.specs.Values.{cut}
use Rattle.setup_access.specs.Records.{MakesWord, OnWord}
use Rattle.setup_access.specs.Setting.{Setting}
use Rattle.setup_access.specs.Values.{value_in}
use Rattle.setup_access.specs.declared.source.Source.{Source}
use Rattle.slot_table.specs.declared.records.Record.{Record}
use Rattle.slot_table.specs.declared.step.Answer.{Answer}
use Rattle.slot_table.specs.declared.step.Answer.TheVariants as answers
use Rattle.slot_table.specs.declared.step.Step.{Step}

-- a change was made where the bytes held a wanted value, or read another one
abbrev pub ChangeGives : ℕ → Change → Effect → Type 0
ChangeGives size change effect =
    (old : ℕ) × (((is_wanted size change old ≡ true) × (effect ≡ changed size change old))
    ⊎ ((is_wanted size change old ≡ false) × (effect ≡ only_read old)))

on_word : (answer : Answer) (P : ℕ → Type 0) (Goal : Type 0) → OnWord answer P → ((word : ℕ) → P word → Goal) → Goal
on_word (answers.Word word) P Goal h on = on word h
on_word (answers.Flag flag) P Goal h on = absurd h
on_word (answers.Halves setter finder) P Goal h on = absurd h
on_word answers.Done P Goal h on = absurd h

on_exchange : (answer : Answer) (Accepted : Type 0) (Refused : ℕ → Type 0) (Goal : Type 0) → OnExchange answer Accepted Refused → (Accepted → Goal) → ((word : ℕ) → Refused word → Goal) → Goal
on_exchange (answers.Word word) Accepted Refused Goal h accepted refused = refused word h
on_exchange (answers.Flag true) Accepted Refused Goal h accepted refused = accepted h
on_exchange (answers.Flag false) Accepted Refused Goal h accepted refused = absurd h
on_exchange (answers.Halves setter finder) Accepted Refused Goal h accepted refused = absurd h
on_exchange answers.Done Accepted Refused Goal h accepted refused = absurd h

pub pick : (b : Bool) (AtTrue AtFalse : Type 0) (Goal : Type 0) → MatchBool b AtTrue AtFalse → (b ≡ true → AtTrue → Goal) → (b ≡ false → AtFalse → Goal) → Goal
pick true AtTrue AtFalse Goal h at_true at_false = at_true refl h
pick false AtTrue AtFalse Goal h at_true at_false = at_false refl h

word_first : (task : ℕ) (step : Step) (Next : ℕ → List Record → Type 0) (records : List Record) (Goal : Type 0) → MakesWord task step Next records
    → ((word : ℕ) (later : List Record) → Next word later → Goal) → Goal
word_first task step Next [] Goal h on = absurd h
word_first task step Next (first ∷ later) Goal h on = on_word first.answer _ Goal h.2 (λ word got. on word later got)

exchanges_give : (task : ℕ) (a : Access) (source : Source) (change : Change) (seen : ℕ) (records : List Record) (effect : Effect) (rest : List Record)
    → Exchanges task a source change seen records effect rest → ChangeGives a.size change effect
exchanges_give task a source change seen [] effect rest h =
    pick (is_wanted a.size change (value_in a source seen)) _ _ _ h (λ wanted none. absurd none) (λ unwanted over. (value_in a source seen, inr (unwanted, over.0)))
exchanges_give task a source change seen (first ∷ later) effect rest h =
    pick (is_wanted a.size change (value_in a source seen)) _ _ _ h
    (λ wanted now. on_exchange first.answer _ _ _ now.1 (λ done. (value_in a source seen, inl (wanted, done.0)))
    (λ word again. exchanges_give task a source change word later effect rest again))
    (λ unwanted over. (value_in a source seen, inr (unwanted, over.0)))

pub changes_give : (task : ℕ) (a : Access) (source : Source) (change : Change) (records : List Record) (effect : Effect) (rest : List Record)
    → Changes task a source change records effect rest → ChangeGives a.size change effect
changes_give task a source change records effect rest h =
    word_first task _ _ records _ h (λ seen later got. exchanges_give task a source change seen later effect rest got)

-- a write reads nothing
write_gives : (size value : ℕ) (effect : Effect) → ChangeGives size (changes.Write value) effect → effect ≡ record { read = None; written = Some (cut size value) }
write_gives size value effect h = elim h.1 [ inl p ↦ p.1 | inr p ↦ let no : true ≡ false = p.0 in cc ]

exchange_gives : (size value : ℕ) (effect : Effect) → ChangeGives size (changes.Exchange value) effect → (old : ℕ) × (effect ≡ record { read = Some old; written = Some (cut size value) })
exchange_gives size value effect h = elim h.1 [ inl p ↦ (h.0, p.1) | inr p ↦ let no : true ≡ false = p.0 in cc ]

add_gives : (size amount : ℕ) (effect : Effect) → ChangeGives size (changes.AtomicAdd amount) effect → (old : ℕ) × (effect ≡ record { read = Some old; written = Some (cut size (sum_of size old amount)) })
add_gives size amount effect h = elim h.1 [ inl p ↦ (h.0, p.1) | inr p ↦ let no : true ≡ false = p.0 in cc ]

-- what comes of each operation
abbrev pub Gives : ℕ → Operation → Effect → Type 0
Gives size operations.Load effect = (old : ℕ) × (effect ≡ record { read = Some old; written = None })
Gives size (operations.Add amount) effect =
    (old : ℕ) × (effect ≡ record { read = Some old; written = Some (cut size (sum_of size old amount)) })
Gives size (operations.Change (changes.Write value)) effect = effect ≡ record { read = None; written = Some (cut size value) }
Gives size (operations.Change (changes.Exchange value)) effect =
    (old : ℕ) × (effect ≡ record { read = Some old; written = Some (cut size value) })
Gives size (operations.Change (changes.AtomicAdd amount)) effect =
    (old : ℕ) × (effect ≡ record { read = Some old; written = Some (cut size (sum_of size old amount)) })
Gives size (operations.Change (changes.CompareExchange expected replacement)) effect =
    ChangeGives size (changes.CompareExchange expected replacement) effect

gives_in : (task : ℕ) (a : Access) (source : Source) (operation : Operation) (records : List Record) (effect : Effect) (rest : List Record)
    → OperatesIn task a source operation records effect rest → Gives a.size operation effect
gives_in task a source operations.Load records effect rest h =
    word_first task _ _ records _ h (λ word later got. (value_in a source word, got.0))
gives_in task a source (operations.Add amount) records effect rest h = word_first task _ _ records _ h (λ word later got.
    let old : ℕ = value_in a source word in
    let wrote = write_gives a.size (sum_of a.size old amount) got.0 (changes_give task a source (changes.Write (sum_of a.size old amount)) later got.0 rest got.1) in
    (old, got.2 ∙ ap (λ (e : Effect). and_then (only_read old) e) wrote))
gives_in task a source (operations.Change (changes.Write value)) records effect rest h =
    write_gives a.size value effect (changes_give task a source (changes.Write value) records effect rest h)
gives_in task a source (operations.Change (changes.Exchange value)) records effect rest h =
    exchange_gives a.size value effect (changes_give task a source (changes.Exchange value) records effect rest h)
gives_in task a source (operations.Change (changes.AtomicAdd amount)) records effect rest h =
    add_gives a.size amount effect (changes_give task a source (changes.AtomicAdd amount) records effect rest h)
gives_in task a source (operations.Change (changes.CompareExchange expected replacement)) records effect rest h =
    changes_give task a source (changes.CompareExchange expected replacement) records effect rest h

pub operation_gives : (s : Setting) (a : Access) (operation : Operation) (records : List Record) (effect : Effect) (rest : List Record)
    → Operates s a (Some operation) records effect rest → Gives a.size operation effect
operation_gives s a operation records effect rest h = gives_in s.task a h.0 operation records effect rest h.2
