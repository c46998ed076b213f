-- Calls of atomic variables, of the kernel and of C11.
use Rattle.std.specs.Prelude.{◌∷◌, [], ℕ, List, codes}
use Rattle.call_notes.specs.NoteRows.{Row, begun_note, named_note}
use Rattle.call_notes.specs.SharedLines.{try_note}

-- the calls of a count
abbrev refcount_text : List ℕ
refcount_text =
    codes "note: of an `atomic_t` write `atomic_inc(f)`, `atomic_dec(f)`, `atomic_read(f)` or `atomic_set(f, 1)`\n"

-- a call without an effect
abbrev without_effect_text : List ℕ
without_effect_text =
    codes "note: it changes nothing here: leave it out\n"

-- a store of C11
abbrev store_text : List ℕ
store_text =
    codes "note: of an `int` write `smp_store_release(y, 1)`, and `WRITE_ONCE(*y, 1)` for memory_order_relaxed\n"

-- a load of C11
abbrev load_text : List ℕ
load_text =
    codes "note: of an `int` write `smp_load_acquire(y)`, and `READ_ONCE(*y)` for memory_order_relaxed\n"

-- an exchange
abbrev xchg_text : List ℕ
xchg_text =
    codes "note: of an `int` in each task, with READ_ONCE and WRITE_ONCE for atomic_read and atomic_set, write `xchg(f, 1)`\n"

-- an addition, and the value before
abbrev add_text : List ℕ
add_text =
    codes "note: of an `int` in each task, with READ_ONCE and WRITE_ONCE for atomic_read and atomic_set: `ok = 0; for (n = 0; n < 3; n++) if (!ok) { old = READ_ONCE(*f); was = cmpxchg(f, old, old + 1); ok = was == old; }`; its value is `old`; `if (ok) { .. }` stands round what follows, and `exists` asks `1:ok=1 /\\ ..` of P1, and `forall` `1:ok=0 \\/ ..`\n"

-- an addition, and the value behind it
abbrev add_return_text : List ℕ
add_return_text =
    codes "note: of an `int` in each task, with READ_ONCE and WRITE_ONCE for atomic_read and atomic_set: `ok = 0; for (n = 0; n < 3; n++) if (!ok) { old = READ_ONCE(*f); was = cmpxchg(f, old, old + 1); ok = was == old; }`; its value is `(old + 1)`; `if (ok) { .. }` stands round what follows, and `exists` asks `1:ok=1 /\\ ..` of P1, and `forall` `1:ok=0 \\/ ..`\n"

-- an addition, and whether 0 comes of it
abbrev add_test_text : List ℕ
add_test_text =
    codes "note: of an `int` in each task, with READ_ONCE and WRITE_ONCE for atomic_read and atomic_set: `ok = 0; for (n = 0; n < 3; n++) if (!ok) { old = READ_ONCE(*f); was = cmpxchg(f, old, old + 1); ok = was == old; }`; its value is `(ok & (old + 1 == 0))`; `if (ok) { .. }` stands round what follows, and `exists` asks `1:ok=1 /\\ ..` of P1, and `forall` `1:ok=0 \\/ ..`\n"

-- an addition, unless the value is one that is left alone
abbrev add_unless_text : List ℕ
add_unless_text =
    codes "note: of an `int` in each task, with READ_ONCE and WRITE_ONCE for atomic_read and atomic_set: `ok = 0; for (n = 0; n < 3; n++) if (!ok) { old = READ_ONCE(*f); was = old; if (old != 0) was = cmpxchg(f, old, old + 1); ok = was == old; }`; it adds unless the value is 0, or the number of atomic_add_unless, and `(ok & (old != 0))` is its value, with the number for 0, or `old` that of atomic_fetch_add_unless; `if (ok) { .. }` stands round what follows, and `exists` asks `1:ok=1 /\\ ..` of P1, and `forall` `1:ok=0 \\/ ..`\n"

-- a subtraction, and the value before
abbrev sub_text : List ℕ
sub_text =
    codes "note: of an `int` in each task, with READ_ONCE and WRITE_ONCE for atomic_read and atomic_set: `ok = 0; for (n = 0; n < 3; n++) if (!ok) { old = READ_ONCE(*f); was = cmpxchg(f, old, old - 1); ok = was == old; }`; its value is `old`; `if (ok) { .. }` stands round what follows, and `exists` asks `1:ok=1 /\\ ..` of P1, and `forall` `1:ok=0 \\/ ..`\n"

-- a subtraction, and the value behind it
abbrev sub_return_text : List ℕ
sub_return_text =
    codes "note: of an `int` in each task, with READ_ONCE and WRITE_ONCE for atomic_read and atomic_set: `ok = 0; for (n = 0; n < 3; n++) if (!ok) { old = READ_ONCE(*f); was = cmpxchg(f, old, old - 1); ok = was == old; }`; its value is `(old - 1)`; `if (ok) { .. }` stands round what follows, and `exists` asks `1:ok=1 /\\ ..` of P1, and `forall` `1:ok=0 \\/ ..`\n"

-- a subtraction, and whether 0 comes of it
abbrev sub_test_text : List ℕ
sub_test_text =
    codes "note: of an `int` in each task, with READ_ONCE and WRITE_ONCE for atomic_read and atomic_set: `ok = 0; for (n = 0; n < 3; n++) if (!ok) { old = READ_ONCE(*f); was = cmpxchg(f, old, old - 1); ok = was == old; }`; its value is `(ok & (old - 1 == 0))`; `if (ok) { .. }` stands round what follows, and `exists` asks `1:ok=1 /\\ ..` of P1, and `forall` `1:ok=0 \\/ ..`\n"

-- a subtraction where the value is above 0
abbrev sub_if_text : List ℕ
sub_if_text =
    codes "note: of an `int` in each task, with READ_ONCE and WRITE_ONCE for atomic_read and atomic_set: `ok = 0; for (n = 0; n < 3; n++) if (!ok) { old = READ_ONCE(*f); was = old; if (old > 0) was = cmpxchg(f, old, old - 1); ok = was == old; }`; for `atomic_dec_if_positive(f) >= 0` write `(ok & (old > 0))`, and `(old - 1)` is its value; refcount_dec_not_one has `old != 1` there and the value `(ok & (old != 1))`, and refcount_dec_if_one `old == 1` and `(ok & (old == 1))`; `if (ok) { .. }` stands round what follows, and `exists` asks `1:ok=1 /\\ ..` of P1, and `forall` `1:ok=0 \\/ ..`\n"

-- bits that are set
abbrev or_text : List ℕ
or_text =
    codes "note: of an `int` in each task, with READ_ONCE and WRITE_ONCE for atomic_read and atomic_set: `ok = 0; for (n = 0; n < 3; n++) if (!ok) { old = READ_ONCE(*f); was = cmpxchg(f, old, old | 1); ok = was == old; }`; its value is `old`, as of atomic_fetch_or; `if (ok) { .. }` stands round what follows, and `exists` asks `1:ok=1 /\\ ..` of P1, and `forall` `1:ok=0 \\/ ..`\n"

-- bits that are cleared
abbrev andnot_text : List ℕ
andnot_text =
    codes "note: of an `int` in each task, with READ_ONCE and WRITE_ONCE for atomic_read and atomic_set: `ok = 0; for (n = 0; n < 3; n++) if (!ok) { old = READ_ONCE(*f); was = cmpxchg(f, old, old & ~1); ok = was == old; }`; its value is `old`, as of atomic_fetch_andnot; `if (ok) { .. }` stands round what follows, and `exists` asks `1:ok=1 /\\ ..` of P1, and `forall` `1:ok=0 \\/ ..`\n"

-- bits that stay
abbrev and_text : List ℕ
and_text =
    codes "note: of an `int` in each task, with READ_ONCE and WRITE_ONCE for atomic_read and atomic_set: `ok = 0; for (n = 0; n < 3; n++) if (!ok) { old = READ_ONCE(*f); was = cmpxchg(f, old, old & 1); ok = was == old; }`; its value is `old`, as of atomic_fetch_and; `if (ok) { .. }` stands round what follows, and `exists` asks `1:ok=1 /\\ ..` of P1, and `forall` `1:ok=0 \\/ ..`\n"

-- bits that are changed
abbrev xor_text : List ℕ
xor_text =
    codes "note: of an `int` in each task, with READ_ONCE and WRITE_ONCE for atomic_read and atomic_set: `ok = 0; for (n = 0; n < 3; n++) if (!ok) { old = READ_ONCE(*f); was = cmpxchg(f, old, old ^ 1); ok = was == old; }`; its value is `old`, as of atomic_fetch_xor; `if (ok) { .. }` stands round what follows, and `exists` asks `1:ok=1 /\\ ..` of P1, and `forall` `1:ok=0 \\/ ..`\n"

-- the lines on what stores, loads or exchanges: the first row that a name begins with counts
abbrev pub exchange_rows : List Row
exchange_rows =
    (codes "load", load_text)
    ∷ (codes "store", store_text)
    ∷ (codes "thread_fence", without_effect_text)
    ∷ (codes "signal_fence", without_effect_text)
    ∷ (codes "read_acquire", codes "note: write `atomic_read(f)`\n")
    ∷ (codes "set_release", codes "note: write `atomic_set(f, 1)`\n")
    ∷ (codes "xchg", xchg_text)
    ∷ (codes "exchange", xchg_text)
    ∷ (codes "cmpxchg", codes "note: of an `int` in each task, with READ_ONCE and WRITE_ONCE for atomic_read and atomic_set, write `cmpxchg(f, 0, 1)`\n")
    ∷ (codes "try_cmpxchg", try_note)
    ∷ (codes "compare_exchange", try_note) ∷ []

-- the line on what stores, loads or exchanges, or else this one
unfoldable pub exchange_line : (name otherwise : List ℕ) → List ℕ
exchange_line name otherwise = begun_note exchange_rows name otherwise

-- the lines on what adds: the first row that a name begins with counts
abbrev pub increase_rows : List Row
increase_rows =
    (codes "inc_not_zero", add_unless_text)
    ∷ (codes "add_unless", add_unless_text)
    ∷ (codes "add_not_zero", add_unless_text)
    ∷ (codes "fetch_add_unless", add_unless_text)
    ∷ (codes "inc_return", add_return_text)
    ∷ (codes "add_return", add_return_text)
    ∷ (codes "inc_and_test", add_test_text)
    ∷ (codes "fetch_add", add_text)
    ∷ (codes "fetch_inc", add_text) ∷ []

-- the line on what adds, or else this one
unfoldable pub increase_line : (name otherwise : List ℕ) → List ℕ
increase_line name otherwise = begun_note increase_rows name otherwise

-- the lines on what takes away: the first row that a name begins with counts
abbrev pub decrease_rows : List Row
decrease_rows =
    (codes "dec_if_positive", sub_if_text)
    ∷ (codes "dec_if_one", sub_if_text)
    ∷ (codes "dec_not_one", sub_if_text)
    ∷ (codes "dec_return", sub_return_text)
    ∷ (codes "sub_return", sub_return_text)
    ∷ (codes "dec_and_test", sub_test_text)
    ∷ (codes "sub_and_test", sub_test_text)
    ∷ (codes "fetch_sub", sub_text)
    ∷ (codes "fetch_dec", sub_text)
    ∷ (codes "sub", codes "note: write `atomic_add(-1, f)`\n") ∷ []

-- the line on what takes away, or else this one
unfoldable pub decrease_line : (name otherwise : List ℕ) → List ℕ
decrease_line name otherwise = begun_note decrease_rows name otherwise

-- the lines on what changes bits: the first row that a name begins with counts
abbrev pub bits_rows : List Row
bits_rows =
    (codes "fetch_or", or_text)
    ∷ (codes "or", or_text)
    ∷ (codes "fetch_andnot", andnot_text)
    ∷ (codes "andnot", andnot_text)
    ∷ (codes "fetch_and", and_text)
    ∷ (codes "and", and_text)
    ∷ (codes "fetch_xor", xor_text)
    ∷ (codes "xor", xor_text) ∷ []

-- the line on what changes bits, or else this one
unfoldable pub bits_line : (name otherwise : List ℕ) → List ℕ
bits_line name otherwise = begun_note bits_rows name otherwise

-- the lines on a count of references
abbrev pub count_rows : List Row
count_rows =
    (codes "refcount_inc", refcount_text)
    ∷ (codes "refcount_dec", refcount_text)
    ∷ (codes "refcount_read", refcount_text)
    ∷ (codes "refcount_set", refcount_text)
    ∷ (codes "refcount_add", refcount_text) ∷ []

-- the line on a count of references, or else this one
unfoldable pub count_line : (name otherwise : List ℕ) → List ℕ
count_line name otherwise = named_note count_rows name otherwise

-- the lines on a builtin of a compiler: the first row that a name begins with counts
abbrev pub builtin_rows : List Row
builtin_rows =
    (codes "__atomic_load", load_text)
    ∷ (codes "__atomic_store", store_text)
    ∷ (codes "__atomic_thread_fence", without_effect_text)
    ∷ (codes "__sync_synchronize", without_effect_text)
    ∷ (codes "__atomic_exchange", xchg_text)
    ∷ (codes "__atomic_compare_exchange", try_note) ∷ []

-- the line on a builtin of a compiler, or else this one
unfoldable pub builtin_line : (name otherwise : List ℕ) → List ℕ
builtin_line name otherwise = begun_note builtin_rows name otherwise
