-- How records of one task, the oldest first, begin with a step and go on by its answer.
use Rattle.std.specs.Prelude.{◌≡◌, ℕ, Bool, List, [], ◌∷◌}
use Rattle.slot.specs.Pair.{Halves}
use Rattle.slot_table.specs.declared.records.Record.{Record}
use Rattle.slot_table.specs.declared.step.Answer.{Answer}
use Rattle.slot_table.specs.declared.step.Answer.TheVariants as answers
use Rattle.slot_table.specs.declared.step.Step.{Step}

-- lists of records here are of one task's own steps, the oldest first: they are read as they are made

-- the first record is this step of the task, and of its answer and of the records after it this holds
abbrev pub Makes : ℕ → Step → (Answer → List Record → Type 0) → List Record → Type 0
Makes task step Goes [] = ⊥
Makes task step Goes (first ∷ later) = (first.task ≡ task) × (first.step ≡ step) × Goes first.answer later

-- the answer is a word, of which this holds
abbrev pub OnWord : Answer → (ℕ → Type 0) → Type 0
OnWord (answers.Word word) P = P word
OnWord (answers.Flag flag) P = ⊥
OnWord (answers.Halves setter finder) P = ⊥
OnWord answers.Done P = ⊥

-- the answer is whether the step was accepted, of which this holds
abbrev pub OnFlag : Answer → (Bool → Type 0) → Type 0
OnFlag (answers.Word word) P = ⊥
OnFlag (answers.Flag flag) P = P flag
OnFlag (answers.Halves setter finder) P = ⊥
OnFlag answers.Done P = ⊥

-- the answer is both halves of a pair, of which this holds
abbrev pub OnHalves : Answer → (Halves → Type 0) → Type 0
OnHalves (answers.Word word) P = ⊥
OnHalves (answers.Flag flag) P = ⊥
OnHalves (answers.Halves setter finder) P = P (record { setter = setter; finder = finder })
OnHalves answers.Done P = ⊥

-- the first record is a step of the task with a word for its answer, and of this word and of the records after it this
-- holds
abbrev pub MakesWord : ℕ → Step → (ℕ → List Record → Type 0) → List Record → Type 0
MakesWord task step Goes = Makes task step (λ answer later. OnWord answer (λ word. Goes word later))

-- the same of a step that is accepted or refused
abbrev pub MakesFlag : ℕ → Step → (Bool → List Record → Type 0) → List Record → Type 0
MakesFlag task step Goes = Makes task step (λ answer later. OnFlag answer (λ flag. Goes flag later))

-- the same of a step with no answer
abbrev pub MakesDone : ℕ → Step → (List Record → Type 0) → List Record → Type 0
MakesDone task step Goes = Makes task step (λ answer later. (answer ≡ answers.Done) × Goes later)
