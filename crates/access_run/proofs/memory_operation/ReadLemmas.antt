-- The operation of a load reads a value.
use Rattle.std.proofs.Common.{◌≡◌, ◌∙◌, ℕ, Bool, true, false, List, [], ◌∷◌, MatchBool, None, Option, Some, ap, refl}
use Rattle.access_types.specs.Access.{Access}
use Rattle.access_run.specs.memory_operation.Effects.{changed}
use Rattle.access_run.specs.memory_operation.Operations.{Ends, Exchanges, OnExchange, Operates, Reads}
use Rattle.access_run.specs.memory_operation.Values.{is_wanted}
use Rattle.access_run.specs.declared.memory_operation.effect.Effect.{Effect}
use Rattle.access_run.specs.declared.memory_operation.operation.Change.{Change}
use Rattle.access_run.specs.declared.memory_operation.operation.Change.TheVariants as changes
use Rattle.access_run.specs.declared.memory_operation.operation.Operation.{Operation}
use Rattle.access_run.specs.declared.memory_operation.operation.Operation.TheVariants as operations
use Rattle.setup_access.specs.Records.{MakesWord, OnWord}
use Rattle.setup_access.specs.Setting.{Setting}
use Rattle.setup_access.specs.Values.{value_in}
use Rattle.setup_access.specs.declared.source.Source.{Source}
use Rattle.slot_table.specs.declared.records.Record.{Record}
use Rattle.slot_table.specs.declared.step.Answer.{Answer}
use Rattle.slot_table.specs.declared.step.Answer.TheVariants as answers
use Rattle.slot_table.specs.declared.step.Step.{Step}

abbrev pub HasRead : Effect → Type 0
HasRead effect = (old : ℕ) × (effect.read ≡ Some old)

-- whichever of two cases it is
pub either : (b : Bool) (P Q R : Type 0) → MatchBool b P Q → (P → R) → (Q → R) → R
either true P Q R h first second = first h
either false P Q R h first second = second h

pub on_exchange : (answer : Answer) (P : Type 0) (Q : ℕ → Type 0) (R : Type 0) → OnExchange answer P Q → (P → R) → ((word : ℕ) → Q word → R) → R
on_exchange (answers.Flag true) P Q R h accepted refused = accepted h
on_exchange (answers.Flag false) P Q R h accepted refused = absurd h
on_exchange (answers.Word word) P Q R h accepted refused = refused word h
on_exchange (answers.Halves setter finder) P Q R h accepted refused = absurd h
on_exchange answers.Done P Q R h accepted refused = absurd h

on_word : (answer : Answer) (P : ℕ → Type 0) (R : Type 0) → OnWord answer P → ((word : ℕ) → P word → R) → R
on_word (answers.Word word) P R h goes = goes word h
on_word (answers.Flag flag) P R h goes = absurd h
on_word (answers.Halves setter finder) P R h goes = absurd h
on_word answers.Done P R h goes = absurd h

makes_word : (task : ℕ) (step : Step) (Goes : ℕ → List Record → Type 0) (records : List Record) (R : Type 0)
    → MakesWord task step Goes records → ((word : ℕ) (later : List Record) → Goes word later → R) → R
makes_word task step Goes [] R h goes = absurd h
makes_word task step Goes (first ∷ later) R h goes = on_word first.answer (λ word. Goes word later) R h.2 (λ word got. goes word later got)

changed_reads : (size : ℕ) (change : Change) (old : ℕ) → Reads (Some (operations.Change change))
    → (changed size change old).read ≡ Some old
changed_reads size (changes.Write value) old reads = absurd reads
changed_reads size (changes.Exchange value) old reads = refl
changed_reads size (changes.AtomicAdd amount) old reads = absurd reads
changed_reads size (changes.CompareExchange expected replacement) old reads = refl

module _ (task : ℕ) (a : Access) (source : Source) (change : Change) (reads : Reads (Some (operations.Change change))) where
  ends_read : (seen : ℕ) (records : List Record) (effect : Effect) (rest : List Record) → Ends a source seen records effect rest
      → HasRead effect
  ends_read seen records effect rest ends = (value_in a source seen, ap (λ (e : Effect). e.read) ends.0)

  exchanges_read : (seen : ℕ) (records : List Record) (effect : Effect) (rest : List Record)
      → Exchanges task a source change seen records effect rest → HasRead effect
  exchanges_read seen [] effect rest h =
      either (is_wanted a.size change (value_in a source seen)) _ _ _ h (λ no. absurd no) (ends_read seen [] effect rest)
  exchanges_read seen (first ∷ later) effect rest h =
      either (is_wanted a.size change (value_in a source seen)) _ _ _ h
      (λ tried. on_exchange first.answer _ _ _ tried.1
      (λ accepted. (value_in a source seen, ap (λ (e : Effect). e.read) accepted.0 ∙ changed_reads a.size change (value_in a source seen) reads))
      (λ word refused. exchanges_read word later effect rest refused))
      (ends_read seen (first ∷ later) effect rest)

pub operation_reads : (s : Setting) (a : Access) (operation : Option Operation) (records : List Record) (effect : Effect) (rest : List Record)
    → Reads operation → Operates s a operation records effect rest → HasRead effect
operation_reads s a None records effect rest reads h = absurd reads
operation_reads s a (Some operations.Load) records effect rest reads h =
    makes_word s.task _ _ records (HasRead effect) h.2 (λ word later got. (value_in a h.0 word, ap (λ (e : Effect). e.read) got.0))
operation_reads s a (Some (operations.Add amount)) records effect rest reads h = absurd reads
operation_reads s a (Some (operations.Change change)) records effect rest reads h =
    makes_word s.task _ _ records (HasRead effect) h.2
    (λ seen later got. exchanges_read s.task a h.0 change reads seen later effect rest got)
