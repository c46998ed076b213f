-- What comes of an operation on memory, and of its records so far.
use Rattle.std.specs.Prelude.{◌++◌, ℕ, List, [], ◌∷◌, Option, None, Some, if◌then◌else◌}
use Rattle.access_types.specs.Access.{Access}
use Rattle.access_types.specs.Race.{bytes_of}
use Rattle.access_types.specs.declared.history.Happening.{Happening}
use Rattle.access_types.specs.declared.history.Happening.TheVariants as happenings
use Rattle.access_run.specs.memory_operation.Values.{is_wanted, new_value, sum_of}
use Rattle.access_run.specs.declared.memory_operation.effect.Effect.{Effect}
use Rattle.access_run.specs.declared.memory_operation.operation.Change.{Change}
use Rattle.access_run.specs.declared.memory_operation.operation.Change.TheVariants as changes
use Rattle.access_run.specs.declared.memory_operation.operation.Operation.{Operation}
use Rattle.access_run.specs.declared.memory_operation.operation.Operation.TheVariants as operations
use Rattle.setup_access.specs.Values.{value_in}
use Rattle.setup_access.specs.declared.source.Source.{Source}
use Rattle.slot_table.specs.declared.records.Record.{Record}
use Rattle.slot_table.specs.declared.step.Answer.{Answer}
use Rattle.slot_table.specs.declared.step.Answer.TheVariants as answers
use Rattle.slot_table.specs.declared.step.Step.{Step}
use Rattle.slot_table.specs.declared.step.Step.TheVariants as steps

-- nothing was read and nothing written
abbrev pub nothing : Effect
nothing = record { read = None; written = None }

-- a value was read
abbrev pub only_read : ℕ → Effect
only_read old = record { read = Some old; written = None }

-- a change was made where the bytes held `old`; a write reads nothing
abbrev pub changed : ℕ → Change → ℕ → Effect
changed size (changes.Write value) old =
    record { read = None; written = Some (new_value size (changes.Write value) old) }
changed size (changes.Exchange value) old =
    record { read = Some old; written = Some (new_value size (changes.Exchange value) old) }
changed size (changes.AtomicAdd amount) old =
    record { read = Some old; written = Some (new_value size (changes.AtomicAdd amount) old) }
changed size (changes.CompareExchange expected replacement) old = record {
  read = Some old;
  written = Some (new_value size (changes.CompareExchange expected replacement) old);
}

-- the first of two values that is there
abbrev pub first_of : Option ℕ → Option ℕ → Option ℕ
first_of None later = later
first_of (Some value) later = Some value

-- what comes of one thing and another after it
abbrev pub and_then : Effect → Effect → Effect
and_then first later = record {
  read = first_of first.read later.read;
  written = first_of first.written later.written;
}

abbrev pub read_moments : Access → Option ℕ → List Happening
read_moments a None = []
read_moments a (Some value) = happenings.Read (bytes_of a) value ∷ []

abbrev pub write_moments : Access → Option ℕ → List Happening
write_moments a None = []
write_moments a (Some value) = happenings.Write (bytes_of a) value ∷ []

-- what comes of an access's operation, as moments: the read is first
abbrev pub moments_of : Access → Effect → List Happening
moments_of a effect = read_moments a effect.read ++ write_moments a effect.written

-- a change that shows a word reads only where that keeps it from being made
abbrev pub shown : Access → Source → Change → ℕ → Effect
shown a source change word =
    if is_wanted a.size change (value_in a source word)
    then nothing
    else only_read (value_in a source word)

-- what an exchange from a word did: accepted, the change is made
abbrev pub exchange_did : Access → Source → Change → ℕ → Answer → Effect
exchange_did a source change seen (answers.Flag accepted) =
    changed a.size change (value_in a source seen)
exchange_did a source change seen (answers.Word word) = shown a source change word
exchange_did a source change seen (answers.Halves setter finder) = nothing
exchange_did a source change seen answers.Done = nothing

-- what a load did, where a word has this effect
abbrev pub load_did : (ℕ → Effect) → Answer → Effect
load_did effect (answers.Word word) = effect word
load_did effect (answers.Flag flag) = nothing
load_did effect (answers.Halves setter finder) = nothing
load_did effect answers.Done = nothing

-- what a step of a change did
abbrev pub step_did : Access → Source → Change → Step → Answer → Effect
step_did a source change (steps.CellExchange cell seen new) answer =
    exchange_did a source change seen answer
step_did a source change step answer = load_did (shown a source change) answer

-- what the records of a change did
abbrev pub change_did : Access → Source → Change → List Record → Effect
change_did a source change [] = nothing
change_did a source change (first ∷ later) =
    and_then (step_did a source change first.step first.answer)
    (change_did a source change later)

-- What the records of an operation did so far. A compound assignment reads at its first load, and
-- its sum is of what it read there.
abbrev pub did : Access → Source → Operation → List Record → Effect
did a source operations.Load [] = nothing
did a source operations.Load (first ∷ later) =
    load_did (λ word. only_read (value_in a source word)) first.answer
did a source (operations.Add amount) [] = nothing
did a source (operations.Add amount) (first ∷ later) =
    load_did (λ word. let old = value_in a source word in
    and_then (only_read old)
    (change_did a source (changes.Write (sum_of a.size old amount)) later)) first.answer
did a source (operations.Change change) records = change_did a source change records
