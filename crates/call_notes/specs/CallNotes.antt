-- What to write in the place of a call of the kernel or of C that isn't read.
use Rattle.std.specs.Prelude.{ℕ, List, codes, drop, if◌then◌else◌, nat_eq}
use Rattle.std.specs.List.{starts_with}
use Rattle.call_notes.specs.AtomicCalls.{bits_line, builtin_line, count_line, decrease_line, exchange_line, increase_line}
use Rattle.call_notes.specs.BitCalls.{bit_line, bit_name_line}
use Rattle.call_notes.specs.LockCalls.{lock_line, lock_name_line, rcu_line, shared_lock_line, wait_line}
use Rattle.call_notes.specs.OtherCalls.{access_line, access_name_line, left_out_line, left_out_name_line}
use Rattle.call_notes.specs.SequenceCalls.{latch_line, reading_line, writing_line}
use Rattle.call_notes.specs.SharedLines.{atomic_note}

-- the line on a call of another function
abbrev function_text : List ℕ
function_text =
    codes "note: no other function is called: write its statements in its place, with its variables as parameters of the process\n"

-- the line on a call of an atomic variable that does this
unfoldable pub operation_note : List ℕ → List ℕ
operation_note operation = exchange_line operation (increase_line operation (decrease_line operation (bits_line operation atomic_note)))

-- the line on a call of locks, bits and the like, or else this one
unfoldable pub kernel_note : (name otherwise : List ℕ) → List ℕ
kernel_note name otherwise = rcu_line name (lock_line name (shared_lock_line name (wait_line name (bit_line name otherwise))))

-- the line on a call of a sequence count, or else this one
unfoldable pub sequence_note : (name otherwise : List ℕ) → List ℕ
sequence_note name otherwise = latch_line name (writing_line name (reading_line name otherwise))

-- the line on a call whose name begins as one of the kernel or of C
unfoldable pub other_note : List ℕ → List ℕ
other_note name = kernel_note name (sequence_note name (left_out_line name (access_line name (builtin_line name function_text))))

-- the line on a call that has no row of its name
unfoldable pub front_note : List ℕ → List ℕ
front_note name =
    if starts_with nat_eq name (codes "atomic_long_") then operation_note (drop 12 name)
    else if starts_with nat_eq name (codes "atomic64_") then operation_note (drop 9 name)
    else if starts_with nat_eq name (codes "atomic_") then operation_note (drop 7 name)
    else if starts_with nat_eq name (codes "refcount_") then operation_note (drop 9 name)
    else other_note name

-- the line that says why a call isn't read that the kernel's format or C has
unfoldable pub call_note : List ℕ → List ℕ
call_note name =
    count_line name (lock_name_line name (bit_name_line name (left_out_name_line name (access_name_line name (front_note name)))))
