-- The definitions, tried on lists of records whose effects are known by hand. The cell 2 has eight
-- bytes; the accesses are to one byte, two, four and eight of it.
use Rattle.std.proofs.Common.{◌≡◌, ◌+◌, ◌∷◌, [], ℕ, true, false, List, None, Some, refl}
use Rattle.access_types.specs.Access.{Access}
use Rattle.access_types.specs.declared.kind.Kind.TheVariants as kinds
use Rattle.access_types.specs.declared.kind.Operation.TheVariants as accesses
use Rattle.access_run.specs.memory_operation.Effects.{did}
use Rattle.access_run.specs.memory_operation.Locks.{TakesLock}
use Rattle.access_run.specs.memory_operation.Operations.{OperatesIn}
use Rattle.access_run.specs.memory_operation.Waits.{failed_tries}
use Rattle.access_run.specs.declared.memory_operation.effect.Effect.{Effect}
use Rattle.access_run.specs.declared.memory_operation.operation.Change.TheVariants as changes
use Rattle.access_run.specs.declared.memory_operation.operation.Operation.{Operation}
use Rattle.access_run.specs.declared.memory_operation.operation.Operation.TheVariants as operations
use Rattle.setup_access.specs.Parts.{made}
use Rattle.setup_access.specs.declared.source.Source.{Source}
use Rattle.slot_table.specs.declared.records.Record.{Record}
use Rattle.slot_table.specs.declared.step.Answer.TheVariants.{Flag, Word}
use Rattle.slot_table.specs.declared.step.Step.TheVariants.{CellExchange, CellLoad, LockTry}

-- an access of task 1 to so many bytes, from one of the cell's on
abbrev bytes : ℕ → ℕ → Access
bytes first size = record {
  task = 1;
  site = 0;
  rep = 0;
  addr = 0x10000 + first;
  size = size;
  kind = kinds.Plain accesses.ReadWrite;
  mask = None;
}

abbrev at : ℕ → Source
at first = record { cell = 2; first = first }

abbrev load : ℕ → Record
load word = made 1 (CellLoad 2) (Word word)

abbrev accepted : ℕ → ℕ → Record
accepted seen new = made 1 (CellExchange 2 seen new) (Flag true)

abbrev refused : ℕ → ℕ → ℕ → Record
refused seen new word = made 1 (CellExchange 2 seen new) (Word word)

-- the whole records of an operation on so many bytes, and their effect
abbrev Whole : ℕ → ℕ → Operation → List Record → Effect → Type 0
Whole first size operation records effect =
    OperatesIn 1 (bytes first size) (at first) operation records effect []
    × (did (bytes first size) (at first) operation records ≡ effect)

-- the third byte is loaded alone
loads_a_byte : Whole 2 1 operations.Load (load 0x1122334455667788 ∷ [])
    (record { read = Some 0x66; written = None })
loads_a_byte = ((refl, refl, (refl, refl)), refl)

-- a write of the upper four bytes leaves the lower four, and is cut
writes_four_bytes : Whole 4 4 (operations.Change (changes.Write 0x9aabbccdd))
    (load 0x1122334455667788 ∷ accepted 0x1122334455667788 0xaabbccdd55667788 ∷ [])
    (record { read = None; written = Some 0xaabbccdd })
writes_four_bytes = ((refl, refl, ((refl, refl), (refl, refl))), refl)

-- a compound assignment reads -1 in two bytes, and writes the sum, though another value stands there
-- by then
adds_to_what_it_read : Whole 2 2 (operations.Add 3)
    (load 0xffff0000 ∷ load 0x70000 ∷ accepted 0x70000 0x20000 ∷ [])
    (record { read = Some 0xffff; written = Some 2 })
adds_to_what_it_read = (
  (
    refl,
    refl,
    (
      record { read = None; written = Some 2 },
      (refl, refl, ((refl, refl), (refl, refl))),
      refl,
    ),
  ),
  refl,
)

-- an exchange that is refused once goes on from the word that it saw, and reads there
exchanges_at_the_second_try : Whole 0 1 (operations.Change (changes.Exchange 0x1ff))
    (load 0x0100 ∷ refused 0x0100 0x01ff 0x0203 ∷ accepted 0x0203 0x02ff ∷ [])
    (record { read = Some 3; written = Some 0xff })
exchanges_at_the_second_try = (
  (refl, refl, ((refl, refl), ((refl, refl), (refl, refl)))),
  refl,
)

-- the sum is made anew from each word: 255 and 2 are 1 in a byte, and 5 and 2 are 7
adds_atomically : Whole 1 1 (operations.Change (changes.AtomicAdd 2))
    (load 0xff00 ∷ refused 0xff00 0x0100 0x0500 ∷ accepted 0x0500 0x0700 ∷ [])
    (record { read = Some 5; written = Some 7 })
adds_atomically = ((refl, refl, ((refl, refl), ((refl, refl), (refl, refl)))), refl)

-- a cmpxchg that finds the expected value, of which it compares what a byte can hold
compares_and_writes : Whole 0 1
    (operations.Change (changes.CompareExchange 0x105 0x106))
    (load 0x1105 ∷ accepted 0x1105 0x1106 ∷ [])
    (record { read = Some 5; written = Some 6 })
compares_and_writes = ((refl, refl, ((refl, refl), (refl, refl))), refl)

-- one that finds another value
compares_and_ends : Whole 0 1
    (operations.Change (changes.CompareExchange 5 6)) (load 0x1107 ∷ [])
    (record { read = Some 7; written = None })
compares_and_ends = ((refl, refl, (refl, refl)), refl)

-- one that is refused since another byte changed, tried again, and refused with another value
compares_and_ends_refused : Whole 0 1
    (operations.Change (changes.CompareExchange 5 6))
    (load 0x1105 ∷ refused 0x1105 0x1106 0x2205 ∷ refused 0x2205 0x2206 0x3309 ∷ [])
    (record { read = Some 9; written = None })
compares_and_ends_refused = (
  (refl, refl, ((refl, refl), ((refl, refl), (refl, refl)))),
  refl,
)

-- a lock that is taken at the third try
takes_a_lock : TakesLock 1 4
    (made 1 (LockTry 4 1) (Flag false) ∷ made 1 (LockTry 4 1) (Flag false)
    ∷ made 1 (LockTry 4 1) (Flag true) ∷ []) []
takes_a_lock = (refl, refl, (refl, refl, (refl, refl, refl)))

-- only the refusals at the end count, since what is not refused ends the wait
two_failed_tries : failed_tries (made 1 (LockTry 4 1) (Flag false) ∷ made 1 (LockTry 4 1) (Flag true)
    ∷ load 3 ∷ refused 3 2 5 ∷ refused 5 2 3 ∷ []) ≡ 2
two_failed_tries = refl

no_failed_try : failed_tries (load 3 ∷ refused 3 2 5 ∷ accepted 5 2 ∷ []) ≡ 0
no_failed_try = refl
