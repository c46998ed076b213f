-- What tasks do, as a list of moments; what memory holds after some of them, and which accesses are in progress.
use Rattle.std.specs.Prelude.{◌≤◌, ◌+◌, ◌*◌, ◌/◌, ◌%◌, ◌^◌, ◌-◌, ◌&&◌, ◌==◌, ◌⊎◌, ℕ, List, Contains}
use Rattle.std.specs.Prelude.{filter, fold, map, nat_le, nat_lt, suc, zero, take, if◌then◌else◌}
use Rattle.access_types.specs.Access.{Access}
use Rattle.access_types.specs.declared.history.Bytes.{Bytes}
use Rattle.access_types.specs.declared.history.Happening.{Happening}
use Rattle.access_types.specs.declared.history.Happening.TheVariants.{Begin, End, Read, Write, Lock}
use Rattle.access_types.specs.declared.history.Happening.TheVariants.{Unlock}
use Rattle.access_types.specs.declared.history.Happening.TheVariants as happenings
use Rattle.access_types.specs.declared.history.Moment.{Moment}

-- what the tasks of a run did, moment by moment
abbrev pub History : Type 0
History = List Moment

-- what each address holds, a byte
abbrev pub Memory : Type 0
Memory = ℕ → ℕ

-- the byte of a number at an offset, from the lowest on
abbrev pub byte_of : ℕ → ℕ → ℕ
byte_of value offset = value / 256 ^ offset % 256

-- the bytes of a value laid over a memory
abbrev pub laid : Memory → Bytes → ℕ → Memory
laid memory bytes value =
    λ address. if nat_le bytes.addr address && nat_lt address (bytes.addr + bytes.size)
    then byte_of value (address - bytes.addr)
    else memory address

-- the value of so many bytes from an address on
abbrev pub value_from : Memory → ℕ → ℕ → ℕ
value_from memory address zero = 0
value_from memory address (suc size) = memory address + 256 * value_from memory (address + 1) size

-- no byte is one of both
abbrev pub AreApart : Bytes → Bytes → Type 0
AreApart first second =
    (first.addr + first.size ≤ second.addr) ⊎ (second.addr + second.size ≤ first.addr)

-- a memory after a moment: a Write lays its value down
abbrev pub after_happening : Memory → Happening → Memory
after_happening memory (Begin access) = memory
after_happening memory (End access) = memory
after_happening memory (Read bytes value) = memory
after_happening memory (Write bytes value) = laid memory bytes value
after_happening memory (Lock lock) = memory
after_happening memory (Unlock lock) = memory
after_happening memory (happenings.Mark mark) = memory

-- a memory after some moments, one after the other
abbrev pub after_moments : Memory → History → Memory
after_moments memory history =
    fold (λ before moment. after_happening before moment.happening) memory history

-- what memory holds at first: initial values laid down in order, and all else 0
abbrev pub initial_memory : List (Bytes × ℕ) → Memory
initial_memory values = fold (λ before value. laid before value.0 value.1) (λ _. 0) values

-- the content of some bytes after k moments: the initial content with the Writes among the first k
-- moments laid over it in order
abbrev pub content : Memory → History → ℕ → Bytes → ℕ
content initial history k bytes =
    value_from (after_moments initial (take k history)) bytes.addr bytes.size

-- what a task did, in order
abbrev pub happenings_of : ℕ → History → List Happening
happenings_of task history =
    map (λ moment. moment.happening) (filter (λ moment. moment.task == task) history)

-- the moment at which an access begins
abbrev pub beginning : Access → Moment
beginning a = record { task = a.task; happening = Begin a }

-- the moment at which it ends
abbrev pub ending : Access → Moment
ending a = record { task = a.task; happening = End a }

-- the access is in progress after k moments: it has begun and not ended
pub record InProgress (history : History) (a : Access) (k : ℕ) : Type 0 where
  pub begun : Contains (take k history) (beginning a)
  pub unended : ¬ Contains (take k history) (ending a)
