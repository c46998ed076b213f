-- What memory holds after happenings, and after a list of them.
use Rattle.std.proofs.Common.{◌≡◌, ◌⊎◌, ◌<◌, ◌≤◌, ◌+◌, ◌++◌, ℕ, List, [], ◌∷◌, arith, fold, refl}
use Rattle.std.proofs.lemmas.List.Sums.{fold-append}
use Rattle.access_types.specs.History.{History, Memory, after_happening, after_moments, byte_of, initial_memory, laid}
use Rattle.access_types.specs.declared.history.Bytes.{Bytes}
use Rattle.access_types.specs.declared.history.Happening.{Happening}
use Rattle.access_types.specs.declared.history.Happening.TheVariants as happenings
use Rattle.executions.specs.execution.Observed.{moments_of}
use Rattle.soundness.specs.Events.{AreMarks}

-- what was laid at an offset of the bytes, and what stands at an address that is none of them
pub laid_inside : (memory : Memory) (bytes : Bytes) (value offset : ℕ) → offset < bytes.size
    → laid memory bytes value (bytes.addr + offset) ≡ byte_of value offset
laid_inside memory bytes value offset within = grind (arith)

pub laid_outside : (memory : Memory) (bytes : Bytes) (value address : ℕ)
    → (address < bytes.addr) ⊎ (bytes.addr + bytes.size ≤ address)
    → laid memory bytes value address ≡ memory address
laid_outside memory bytes value address outside = grind (arith)

-- what memory holds after a task did this
abbrev pub after_did : Memory → List Happening → Memory
after_did memory did = fold after_happening memory did

pub after_both : (memory : Memory) (first second : List Happening) → after_did memory (first ++ second) ≡ after_did (after_did memory first) second
after_both memory first second = fold-append after_happening memory first second

pub after_history : (memory : Memory) (first second : History) → after_moments memory (first ++ second) ≡ after_moments (after_moments memory first) second
after_history memory first second = fold-append (λ before moment. after_happening before moment.happening) memory first second

pub after_its : (memory : Memory) (task : ℕ) (did : List Happening) → after_moments memory (moments_of task did) ≡ after_did memory did
after_its memory task [] = refl
after_its memory task (first ∷ did) = after_its (after_happening memory first) task did

-- marks leave memory as it is
pub after_marks : (memory : Memory) (marks : List Happening) → AreMarks marks → after_did memory marks ≡ memory
after_marks memory [] are = refl
after_marks memory (happenings.Mark mark ∷ marks) are = after_marks memory marks are.1
after_marks memory (happenings.Begin a ∷ marks) are = absurd are.0
after_marks memory (happenings.End a ∷ marks) are = absurd are.0
after_marks memory (happenings.Read bytes value ∷ marks) are = absurd are.0
after_marks memory (happenings.Write bytes value ∷ marks) are = absurd are.0
after_marks memory (happenings.Lock lock ∷ marks) are = absurd are.0
after_marks memory (happenings.Unlock lock ∷ marks) are = absurd are.0

-- each address holds a byte at first
abbrev pub HoldsBytes : Memory → Type 0
HoldsBytes memory = (address : ℕ) → memory address < 256

laid_bytes : (memory : Memory) (bytes : Bytes) (value : ℕ) → HoldsBytes memory → HoldsBytes (laid memory bytes value)
laid_bytes memory bytes value holds address = let here = holds address in grind (arith, here)

fold_bytes : (memory : Memory) (values : List (Bytes × ℕ)) → HoldsBytes memory
    → HoldsBytes (fold (λ before value. laid before value.0 value.1) memory values)
fold_bytes memory [] holds = holds
fold_bytes memory (value ∷ values) holds = fold_bytes (laid memory value.0 value.1) values (laid_bytes memory value.0 value.1 holds)

pub first_bytes : (values : List (Bytes × ℕ)) → HoldsBytes (initial_memory values)
first_bytes values = fold_bytes (λ _. 0) values (λ address. omega arith)
