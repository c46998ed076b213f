-- Calls that are left out, and others.
use Rattle.std.specs.Prelude.{◌∷◌, [], ℕ, List, codes}
use Rattle.call_notes.specs.NoteRows.{Row, begun_note, named_note}
use Rattle.call_notes.specs.SharedLines.{jump_note, number_note, try_note}

-- a call without an effect
abbrev without_effect_text : List ℕ
without_effect_text =
    codes "note: it changes nothing here: leave it out\n"

-- a call that prints
abbrev printed_text : List ℕ
printed_text =
    codes "note: it prints, and nothing here does: write `*x;` for each plain load among its arguments, `READ_ONCE(*x);` for each marked one, and leave the rest out\n"

-- no time
abbrev time_text : List ℕ
time_text =
    codes "note: no time passes here: keep its loads, as `r1 = *exp;`, and compare with a number, as `if (r1 < 3) { .. }`; in a wait leave it out: that has a number of tries\n"

-- a store and a barrier
abbrev store_mb_text : List ℕ
store_mb_text =
    codes "note: write `WRITE_ONCE(*x, 1); smp_mb();`\n"

-- an exchange with an order
abbrev ordered_text : List ℕ
ordered_text =
    codes "note: write `xchg(x, 1)` or `cmpxchg(x, 0, 1)`, with no order in the name\n"

-- a completion
abbrev completion_text : List ℕ
completion_text =
    codes "note: a completion is an `int *done`: write `smp_store_release(done, 1);`, and what waits for it as a wait for 1; where several wait and complete lets one of them through, each of them tries `was = cmpxchg(done, 1, 0); ok = was == 1;`\n"

-- what may come
abbrev asserted_text : List ℕ
asserted_text =
    codes "note: keep its loads, as `r1 = *x;` or `r1 = READ_ONCE(*x);`, and let the condition ask whether it can fail, as `exists (1:r1=0)`\n"

-- a value that is its argument
abbrev transparent_text : List ℕ
transparent_text =
    codes "note: write what its parentheses have\n"

-- no memory
abbrev memory_text : List ℕ
memory_text =
    codes "note: no memory is allocated here: a variable, as `int *b`, is there from the start, and `r0 = 1;` is its address\n"

-- memory that is freed
abbrev freed_text : List ℕ
freed_text =
    codes "note: no memory is freed here: write `ASSERT_EXCLUSIVE_ACCESS(*x);` for each variable of what is freed: that is what kfree checks\n"

-- a variable of each CPU
abbrev per_cpu_text : List ℕ
per_cpu_text =
    codes "note: a variable of each CPU is one variable for each of them, as `int *cnt0` and `int *cnt1`: write `(*cnt0)++;` for this_cpu_inc in P0, and `r0 = *cnt1;` for a read of that of P1\n"

-- a check of KCSAN
abbrev check_text : List ℕ
check_text =
    codes "note: it depends on the flags: for 0 write `kcsan_check_read(x, 4);`, for KCSAN_ACCESS_WRITE `kcsan_check_write(x, 4);`, with KCSAN_ACCESS_COMPOUND too `*x += 0;`, with KCSAN_ACCESS_ASSERT too `ASSERT_EXCLUSIVE_ACCESS(*x);`; for KCSAN_ACCESS_ASSERT alone `ASSERT_EXCLUSIVE_WRITER(*x);`, and for KCSAN_ACCESS_ATOMIC alone `READ_ONCE(*x);`\n"

-- the lines on a call that is left out, by its name
abbrev pub left_out_name_rows : List Row
left_out_name_rows =
    (codes "barrier", without_effect_text)
    ∷ (codes "cpu_relax", without_effect_text)
    ∷ (codes "mb", without_effect_text)
    ∷ (codes "rmb", without_effect_text)
    ∷ (codes "wmb", without_effect_text)
    ∷ (codes "cond_resched", without_effect_text)
    ∷ (codes "printk", printed_text)
    ∷ (codes "printf", printed_text)
    ∷ (codes "sleep", without_effect_text)
    ∷ (codes "sched_yield", without_effect_text)
    ∷ (codes "schedule", without_effect_text)
    ∷ (codes "udelay", without_effect_text)
    ∷ (codes "mdelay", without_effect_text)
    ∷ (codes "ndelay", without_effect_text)
    ∷ (codes "msleep", without_effect_text)
    ∷ (codes "ssleep", without_effect_text)
    ∷ (codes "fsleep", without_effect_text) ∷ []

-- the line on a call that is left out, by its name, or else this one
unfoldable pub left_out_name_line : (name otherwise : List ℕ) → List ℕ
left_out_name_line name otherwise = named_note left_out_name_rows name otherwise

-- the lines on a call that is left out: the first row that a name begins with counts
abbrev pub left_out_rows : List Row
left_out_rows =
    (codes "local_irq_", without_effect_text)
    ∷ (codes "local_bh_", without_effect_text)
    ∷ (codes "preempt_", without_effect_text)
    ∷ (codes "pr_", printed_text)
    ∷ (codes "wake_up", without_effect_text)
    ∷ (codes "lockdep_", without_effect_text)
    ∷ (codes "seqcount_init", without_effect_text)
    ∷ (codes "dma_rmb", without_effect_text)
    ∷ (codes "dma_wmb", without_effect_text)
    ∷ (codes "smp_acquire__after_ctrl_dep", without_effect_text)
    ∷ (codes "smp_read_barrier_depends", without_effect_text)
    ∷ (codes "read_barrier_depends", without_effect_text)
    ∷ (codes "usleep", without_effect_text)
    ∷ (codes "time_after", time_text)
    ∷ (codes "time_before", time_text)
    ∷ (codes "printk_", printed_text)
    ∷ (codes "trace_", printed_text)
    ∷ (codes "dev_info", printed_text)
    ∷ (codes "dev_warn", printed_text)
    ∷ (codes "dev_err", printed_text)
    ∷ (codes "dev_dbg", printed_text) ∷ []

-- the line on a call that is left out, or else this one
unfoldable pub left_out_line : (name otherwise : List ℕ) → List ℕ
left_out_line name otherwise = begun_note left_out_rows name otherwise

-- the lines on another call, by its name
abbrev pub access_name_rows : List Row
access_name_rows =
    (codes "RCU_INIT_POINTER", codes "note: write `WRITE_ONCE(*x, 1)`, of an `int`\n")
    ∷ (codes "BIT", number_note)
    ∷ (codes "BIT_ULL", number_note)
    ∷ (codes "GENMASK", number_note)
    ∷ (codes "sizeof", number_note)
    ∷ (codes "return", jump_note)
    ∷ (codes "goto", jump_note)
    ∷ (codes "break", jump_note)
    ∷ (codes "continue", jump_note)
    ∷ (codes "smp_store_mb", store_mb_text)
    ∷ (codes "set_mb", store_mb_text)
    ∷ (codes "ACCESS_ONCE", codes "note: write `READ_ONCE(*x)`, and `WRITE_ONCE(*x, 1)` for `ACCESS_ONCE(*x) = 1`\n")
    ∷ (codes "complete", completion_text)
    ∷ (codes "complete_all", completion_text)
    ∷ (codes "init_completion", codes "note: of an `int *done` write `*done = 0;`\n")
    ∷ (codes "reinit_completion", codes "note: of an `int *done` write `*done = 0;`\n")
    ∷ (codes "completion_done", codes "note: of an `int *done` write `READ_ONCE(*done) != 0`\n")
    ∷ (codes "try_wait_for_completion", codes "note: of an `int *done` in each task write `was = cmpxchg(done, 1, 0);`, with `(was == 1)` for its value\n")
    ∷ (codes "assert", asserted_text)
    ∷ (codes "likely", transparent_text)
    ∷ (codes "unlikely", transparent_text)
    ∷ (codes "switch", codes "note: write `if` and `else`\n") ∷ []

-- the line on another call, by its name, or else this one
unfoldable pub access_name_line : (name otherwise : List ℕ) → List ℕ
access_name_line name otherwise = named_note access_name_rows name otherwise

-- the lines on another call: the first row that a name begins with counts
abbrev pub access_rows : List Row
access_rows =
    (codes "try_cmpxchg", try_note)
    ∷ (codes "xchg_", ordered_text)
    ∷ (codes "cmpxchg_", ordered_text)
    ∷ (codes "BUG_ON", asserted_text)
    ∷ (codes "WARN_ON", asserted_text)
    ∷ (codes "kmalloc", memory_text)
    ∷ (codes "kzalloc", memory_text)
    ∷ (codes "kfree", freed_text)
    ∷ (codes "kvfree", freed_text)
    ∷ (codes "this_cpu_", per_cpu_text)
    ∷ (codes "__this_cpu_", per_cpu_text)
    ∷ (codes "raw_cpu_", per_cpu_text)
    ∷ (codes "per_cpu", per_cpu_text)
    ∷ (codes "get_cpu_var", per_cpu_text)
    ∷ (codes "put_cpu_var", per_cpu_text)
    ∷ (codes "for_each_", codes "note: write the body once for each, with variables of its own, as `*cnt0` and `*cnt1`\n")
    ∷ (codes "kcsan_check_access", check_text)
    ∷ (codes "__kcsan_check_access", check_text)
    ∷ (codes "kcsan_check_read_write", codes "note: write `*x += 0;`, one access that reads and writes\n")
    ∷ (codes "__kcsan_check_read_write", codes "note: write `*x += 0;`, one access that reads and writes\n")
    ∷ (codes "kcsan_check_atomic_read", codes "note: write `READ_ONCE(*x);`\n")
    ∷ (codes "__kcsan_check_read", codes "note: write `kcsan_check_read(x, 4);`\n")
    ∷ (codes "__kcsan_check_write", codes "note: write `kcsan_check_write(x, 4);`\n")
    ∷ (codes "__kcsan_disable_current", codes "note: write `kcsan_disable_current();`\n")
    ∷ (codes "__kcsan_enable_current", codes "note: write `kcsan_enable_current();`\n")
    ∷ (codes "kcsan_enable_current_nowarn", codes "note: write `kcsan_enable_current();`\n")
    ∷ (codes "__READ_ONCE", codes "note: write `READ_ONCE(*x)`\n")
    ∷ (codes "__WRITE_ONCE", codes "note: write `WRITE_ONCE(*x, 1)`\n")
    ∷ (codes "READ_ONCE_NOCHECK", codes "note: write `kcsan_disable_current(); r0 = READ_ONCE(*x); kcsan_enable_current();`\n")
    ∷ (codes "typeof", codes "note: write the type itself, as `int r0;`\n") ∷ []

-- the line on another call, or else this one
unfoldable pub access_line : (name otherwise : List ℕ) → List ℕ
access_line name otherwise = begun_note access_rows name otherwise
