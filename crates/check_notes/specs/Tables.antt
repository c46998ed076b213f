-- Tables of types, loops and structures of C and of the kernel.
use Rattle.std.specs.Prelude.{◌∷◌, [], ℕ, List, codes}
use Rattle.call_notes.specs.NoteRows.{Row, begun_note, named_note}
use Rattle.check_notes.specs.CommonNotes.{turns_note}

-- a type of 1 byte
abbrev one_byte_text : List ℕ
one_byte_text = codes "note: the type of 1 byte is `char`, with a sign: for `u8` write `(*f & 0xff)` where `*f` is loaded, and the same round a marked load, `xchg` and `cmpxchg`, as `(READ_ONCE(*f) & 0xff)`; `(r0 - r1) & 0xff` keeps a register in 8 bits; in `exists` it has its sign, `f=-1` for 0xff\n"

-- a truth value
abbrev bool_text : List ℕ
bool_text =
    codes "note: a `bool` is a `char` of 0 or 1: for `bool r0 = *x & 4;` write `r0 = (*x & 4) != 0;`\n"

-- a type of 2 bytes
abbrev two_bytes_text : List ℕ
two_bytes_text = codes "note: the type of 2 bytes is `short`, with a sign: for `u16` write `(*f & 0xffff)` where `*f` is loaded, and the same round a marked load, `xchg` and `cmpxchg`, as `(READ_ONCE(*f) & 0xffff)`; `(r0 - r1) & 0xffff` keeps a register in 16 bits; in `exists` it has its sign, `f=-1` for 0xffff\n"

-- a type of 4 bytes
abbrev four_bytes_text : List ℕ
four_bytes_text = codes "note: the type of 4 bytes is `int`, with a sign: for `u32` write `(*f & 0xffffffff)` where `*f` is loaded, and the same round a marked load, `xchg` and `cmpxchg`, as `(READ_ONCE(*f) & 0xffffffff)`; `(r0 - r1) & 0xffffffff` keeps a register in 32 bits; in `exists` it has its sign, `f=-1` for 0xffffffff\n"

-- a type of 8 bytes
abbrev eight_bytes_text : List ℕ
eight_bytes_text = codes "note: the type of 8 bytes is `long`, with a sign\n"

-- a lock
abbrev lock_text : List ℕ
lock_text = codes "note: a lock is a `spinlock_t`\n"

-- a lock that readers share
abbrev readers_text : List ℕ
readers_text = codes "note: a lock is a `spinlock_t`: readers then exclude each other too\n"

-- a sequence count
abbrev sequence_text : List ℕ
sequence_text = codes "note: a sequence count is an `int *seq`; a sequence lock is one and a `spinlock_t *l`\n"

-- an atomic variable
abbrev atomic_text : List ℕ
atomic_text = codes "note: an atomic variable is an `atomic_t`, of 4 bytes\n"

-- an atomic variable of C11
abbrev standard_atomic_text : List ℕ
standard_atomic_text = codes "note: an atomic variable of C11 is an `int`, with smp_load_acquire and smp_store_release, and READ_ONCE and WRITE_ONCE for memory_order_relaxed\n"

-- a queue of tasks that wait
abbrev queue_text : List ℕ
queue_text = codes "note: leave it out: what waits on it is a wait with a number of tries of a variable\n"

-- which type is read in the place of one of these
abbrev pub types : List Row
types =
    (codes "u8", one_byte_text)
    ∷ (codes "s8", one_byte_text)
    ∷ (codes "bool", bool_text)
    ∷ (codes "uint8_t", one_byte_text)
    ∷ (codes "int8_t", one_byte_text)
    ∷ (codes "u16", two_bytes_text)
    ∷ (codes "s16", two_bytes_text)
    ∷ (codes "uint16_t", two_bytes_text)
    ∷ (codes "int16_t", two_bytes_text)
    ∷ (codes "u32", four_bytes_text)
    ∷ (codes "s32", four_bytes_text)
    ∷ (codes "uint32_t", four_bytes_text)
    ∷ (codes "int32_t", four_bytes_text)
    ∷ (codes "u64", eight_bytes_text)
    ∷ (codes "s64", eight_bytes_text)
    ∷ (codes "uint64_t", eight_bytes_text)
    ∷ (codes "int64_t", eight_bytes_text)
    ∷ (codes "size_t", eight_bytes_text)
    ∷ (codes "ssize_t", eight_bytes_text)
    ∷ (codes "uintptr_t", eight_bytes_text)
    ∷ (codes "intptr_t", eight_bytes_text)
    ∷ (codes "raw_spinlock_t", lock_text)
    ∷ (codes "pthread_mutex_t", lock_text)
    ∷ (codes "rwlock_t", readers_text)
    ∷ (codes "seqlock_t", sequence_text)
    ∷ (codes "seqcount_t", sequence_text)
    ∷ (codes "seqcount_latch_t", sequence_text)
    ∷ (codes "seqcount_spinlock_t", sequence_text)
    ∷ (codes "seqcount_raw_spinlock_t", sequence_text)
    ∷ (codes "seqcount_rwlock_t", sequence_text)
    ∷ (codes "seqcount_mutex_t", sequence_text)
    ∷ (codes "atomic64_t", atomic_text)
    ∷ (codes "atomic_long_t", atomic_text)
    ∷ (codes "refcount_t", atomic_text)
    ∷ (codes "_Atomic", standard_atomic_text)
    ∷ (codes "atomic_int", standard_atomic_text)
    ∷ (codes "atomic_uint", standard_atomic_text)
    ∷ (codes "atomic_bool", standard_atomic_text)
    ∷ (codes "atomic_long", standard_atomic_text)
    ∷ (codes "wait_queue_head_t", queue_text)
    ∷ (codes "union", codes "note: each field of a `union` is a variable of its own, and all stand at one address: give each command `--place lo=0x10000,word=0x10000`\n")
    ∷ (codes "__auto_type", codes "note: a register is declared by its type, as `int r0 = *x;`\n") ∷ []

-- which type is read in the place of this word, or else this line
unfoldable pub type_line : (word otherwise : List ℕ) → List ℕ
type_line word otherwise = named_note types word otherwise

-- a loop that tries to exchange
abbrev tried_exchange_text : List ℕ
tried_exchange_text =
    codes "note: a loop has a number of tries of an `int` in each task: `ok = 0; for (n = 0; n < 3; n++) if (!ok) { was = cmpxchg(x, old, old | 1); ok = was == old; old = was; }`; `if (ok) { .. }` stands round what follows, and `exists` asks `1:ok=1 /\\ ..` of P1, and `forall` `1:ok=0 \\/ ..`\n"

-- a loop that exchanges what it expects
abbrev expected_exchange_text : List ℕ
expected_exchange_text =
    codes "note: a loop has a number of tries of an `int` in each task: `ok = 0; for (n = 0; n < 3; n++) if (!ok) { was = cmpxchg(x, 0, 1); ok = was == 0; }`; `if (ok) { .. }` stands round what follows, and `exists` asks `1:ok=1 /\\ ..` of P1, and `forall` `1:ok=0 \\/ ..`\n"

-- a loop that exchanges
abbrev exchange_text : List ℕ
exchange_text =
    codes "note: a loop has a number of tries of an `int` in each task: `ok = 0; for (n = 0; n < 3; n++) if (!ok) { was = xchg(x, 1); ok = was == 0; }`; `if (ok) { .. }` stands round what follows, and `exists` asks `1:ok=1 /\\ ..` of P1, and `forall` `1:ok=0 \\/ ..`\n"

-- a loop that tries to take a lock
abbrev tried_lock_text : List ℕ
tried_lock_text =
    codes "note: write `spin_lock(l);` for the loop: it waits by itself\n"

-- loops, by what they ask for
abbrev pub loops : List Row
loops =
    (codes "try_cmpxchg", tried_exchange_text)
    ∷ (codes "atomic_try_cmpxchg", tried_exchange_text)
    ∷ (codes "atomic64_try_cmpxchg", tried_exchange_text)
    ∷ (codes "atomic_long_try_cmpxchg", tried_exchange_text)
    ∷ (codes "cmpxchg", expected_exchange_text)
    ∷ (codes "atomic_cmpxchg", expected_exchange_text)
    ∷ (codes "xchg", exchange_text)
    ∷ (codes "atomic_xchg", exchange_text)
    ∷ (codes "spin_trylock", tried_lock_text)
    ∷ (codes "raw_spin_trylock", tried_lock_text)
    ∷ (codes "mutex_trylock", tried_lock_text)
    ∷ (codes "1)", turns_note)
    ∷ (codes "true)", turns_note) ∷ []

-- the line on a loop that asks for this before each turn, or else this one
unfoldable pub loop_line : (asked otherwise : List ℕ) → List ℕ
loop_line asked otherwise = begun_note loops asked otherwise

-- structures of the kernel that aren't written as their fields
abbrev pub structures : List Row
structures =
    (codes "struct mutex", codes "note: a mutex is a `spinlock_t`, with `spin_lock` and `spin_unlock`\n")
    ∷ (codes "struct completion", codes "note: a completion is an `int done` as an item and an `int *done` as a parameter\n")
    ∷ (codes "struct srcu_struct", codes "note: leave it out: no RCU is read\n")
    ∷ (codes "struct rcu_head", codes "note: leave it out: no RCU is read\n")
    ∷ (codes "struct rw_semaphore", codes "note: it is a `spinlock_t`, with `spin_lock` and `spin_unlock`: readers then exclude each other too\n")
    ∷ (codes "struct semaphore", codes "note: a semaphore that one task holds at a time is a `spinlock_t`, with `spin_lock` and `spin_unlock`\n")
    ∷ (codes "struct wait_queue_head", codes "note: leave it out: what waits on it is a wait with a number of tries of a variable\n")
    ∷ (codes "struct task_struct", codes "note: leave it out: tasks are the processes, and a task that is woken waits for a variable\n")
    ∷ (codes "struct list_head", codes "note: a list is a variable for each of its pointers, as `int *next`, 1 for the first entry and 0 for none, and one for each field of each entry\n") ∷ []

-- the line on a structure that a text goes on with, or else this one
unfoldable pub structure_line : (rest otherwise : List ℕ) → List ℕ
structure_line rest otherwise = begun_note structures rest otherwise
