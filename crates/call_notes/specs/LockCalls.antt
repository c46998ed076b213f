-- Calls of locks and of RCU, and what waits.
use Rattle.std.specs.Prelude.{◌∷◌, [], ℕ, List, codes}
use Rattle.call_notes.specs.NoteRows.{Row, begun_note, named_note}
use Rattle.call_notes.specs.SharedLines.{wait_note}

-- no RCU
abbrev rcu_text : List ℕ
rcu_text =
    codes "note: there is no RCU here, and nothing waits for readers: leave the call out\n"

-- a grace period
abbrev grace_text : List ℕ
grace_text =
    codes "note: no grace period is read: left out, races and results come that RCU forbids; with one reader `spin_lock(l); spin_unlock(l);` is one, where the reader has `spin_lock(l);` and `spin_unlock(l);` for rcu_read_lock and rcu_read_unlock\n"

-- a call behind a grace period
abbrev callback_text : List ℕ
callback_text =
    codes "note: no grace period is read: what it calls would come too soon, and races and results come that RCU forbids\n"

-- the calls of a lock
abbrev lock_text : List ℕ
lock_text =
    codes "note: of a lock `spin_lock` and `spin_unlock` are read\n"

-- readers of a lock
abbrev readers_text : List ℕ
readers_text =
    codes "note: of a lock `spin_lock` and `spin_unlock` are read: readers then exclude each other too\n"

-- a mutex
abbrev mutex_text : List ℕ
mutex_text =
    codes "note: a mutex is written as a spinlock_t, with `spin_lock` and `spin_unlock`\n"

-- no interrupts
abbrev interrupts_text : List ℕ
interrupts_text =
    codes "note: there are no interrupts here: `spin_lock` and `spin_unlock` are read\n"

-- a lock that is tried
abbrev tried_text : List ℕ
tried_text =
    codes "note: a lock that is tried is an `int *l` in each task: `was = cmpxchg(l, 0, 1);`, then `if (was == 0) { .. smp_store_release(l, 0); }`, and `(was == 0)` is the value; spin_lock of it is `ok = 0; for (n = 0; n < 3; n++) if (!ok) { was = cmpxchg(l, 0, 1); ok = was == 0; }`, with `if (ok) { .. }` round what follows\n"

-- a lock that readers share and that is tried
abbrev shared_tried_text : List ℕ
shared_tried_text =
    codes "note: a lock that is tried is an `int *l` in each task, and readers then exclude each other too: `was = cmpxchg(l, 0, 1);`, then `if (was == 0) { .. smp_store_release(l, 0); }`, and `(was == 0)` is the value; to wait for it is `ok = 0; for (n = 0; n < 3; n++) if (!ok) { was = cmpxchg(l, 0, 1); ok = was == 0; }`, with `if (ok) { .. }` round what follows\n"

-- a lock that is asked for
abbrev asked_text : List ℕ
asked_text =
    codes "note: no value comes of a lock: one that is asked for is an `int *l` in each task, taken by `cmpxchg(l, 0, 1)`, and `READ_ONCE(*l)` is 1 then\n"

-- a call without an effect
abbrev without_effect_text : List ℕ
without_effect_text =
    codes "note: it changes nothing here: leave it out\n"

-- the lines on a call of RCU: the first row that a name begins with counts
abbrev pub rcu_rows : List Row
rcu_rows =
    (codes "rcu_assign_pointer", codes "note: write `smp_store_release(x, 1)`, of an `int`\n")
    ∷ (codes "rcu_dereference_protected", codes "note: write `*x`, a plain read of an `int`\n")
    ∷ (codes "rcu_dereference", codes "note: write `READ_ONCE(*x)`, of an `int`\n")
    ∷ (codes "rcu_access_pointer", codes "note: write `READ_ONCE(*x)`, of an `int`\n")
    ∷ (codes "rcu_replace_pointer", codes "note: of an `int` write `old = *x; smp_store_release(x, 1);`: its value is `old`\n")
    ∷ (codes "rcu_barrier", grace_text)
    ∷ (codes "srcu_dereference", codes "note: write `READ_ONCE(*x)`, of an `int`\n")
    ∷ (codes "rcu_", rcu_text)
    ∷ (codes "srcu_", rcu_text)
    ∷ (codes "smp_mb__after_srcu_read_unlock", without_effect_text)
    ∷ (codes "synchronize_", grace_text)
    ∷ (codes "call_rcu", callback_text)
    ∷ (codes "call_srcu", callback_text)
    ∷ (codes "kfree_rcu", callback_text) ∷ []

-- the line on a call of RCU, or else this one
unfoldable pub rcu_line : (name otherwise : List ℕ) → List ℕ
rcu_line name otherwise = begun_note rcu_rows name otherwise

-- the lines on a call of a lock, by its name
abbrev pub lock_name_rows : List Row
lock_name_rows =
    (codes "guard", lock_text)
    ∷ (codes "scoped_guard", lock_text)
    ∷ (codes "down", lock_text)
    ∷ (codes "up", lock_text)
    ∷ (codes "spin_is_locked", asked_text)
    ∷ (codes "mutex_is_locked", asked_text) ∷ []

-- the line on a call of a lock, by its name, or else this one
unfoldable pub lock_name_line : (name otherwise : List ℕ) → List ℕ
lock_name_line name otherwise = named_note lock_name_rows name otherwise

-- the lines on a call of a lock that one task holds: the first row that a name begins with counts
abbrev pub lock_rows : List Row
lock_rows =
    (codes "spin_trylock", tried_text)
    ∷ (codes "raw_spin_trylock", tried_text)
    ∷ (codes "mutex_trylock", tried_text)
    ∷ (codes "pthread_mutex_trylock", tried_text)
    ∷ (codes "pthread_mutex_", mutex_text)
    ∷ (codes "mutex_", mutex_text)
    ∷ (codes "spin_lock_irq", interrupts_text)
    ∷ (codes "spin_lock_bh", interrupts_text)
    ∷ (codes "spin_unlock_irq", interrupts_text)
    ∷ (codes "spin_unlock_bh", interrupts_text)
    ∷ (codes "spin_", lock_text)
    ∷ (codes "raw_spin_", lock_text) ∷ []

-- the line on a call of a lock that one task holds, or else this one
unfoldable pub lock_line : (name otherwise : List ℕ) → List ℕ
lock_line name otherwise = begun_note lock_rows name otherwise

-- the lines on a call of a lock that readers share: the first row that a name begins with counts
abbrev pub shared_lock_rows : List Row
shared_lock_rows =
    (codes "read_trylock", shared_tried_text)
    ∷ (codes "write_trylock", shared_tried_text)
    ∷ (codes "down_read_trylock", shared_tried_text)
    ∷ (codes "down_write_trylock", shared_tried_text)
    ∷ (codes "down_trylock", codes "note: a semaphore that is tried is an `int *l` in each task: `was = cmpxchg(l, 0, 1);`, then `if (was == 0) { .. smp_store_release(l, 0); }`, and `(was != 0)` is the value, 0 where it is taken; down of it is `ok = 0; for (n = 0; n < 3; n++) if (!ok) { was = cmpxchg(l, 0, 1); ok = was == 0; }`, with `if (ok) { .. }` round what follows\n")
    ∷ (codes "read_lock", readers_text)
    ∷ (codes "read_unlock", readers_text)
    ∷ (codes "write_lock", readers_text)
    ∷ (codes "write_unlock", readers_text)
    ∷ (codes "down_", readers_text)
    ∷ (codes "up_", readers_text) ∷ []

-- the line on a call of a lock that readers share, or else this one
unfoldable pub shared_lock_line : (name otherwise : List ℕ) → List ℕ
shared_lock_line name otherwise = begun_note shared_lock_rows name otherwise

-- the lines on a call that waits: the first row that a name begins with counts
abbrev pub wait_rows : List Row
wait_rows =
    (codes "smp_cond_load_", codes "note: a wait has a number of tries: `ok = 0; for (n = 0; n < 3; n++) if (!ok) { old = smp_load_acquire(x); ok = old == 1; }` waits for 1; `if (ok) { .. }` stands round what follows, and `exists` asks `1:ok=1 /\\ ..` of P1, and `forall` `1:ok=0 \\/ ..`\n")
    ∷ (codes "wait_for_completion", codes "note: a completion is an `int *done`: `ok = 0; for (n = 0; n < 3; n++) if (!ok) { old = smp_load_acquire(done); ok = old == 1; }` waits for it, or `was = cmpxchg(done, 1, 0); ok = was == 1;` in the loop, where several wait and complete lets one of them through; `if (ok) { .. }` stands round what follows, and `exists` asks `1:ok=1 /\\ ..` of P1, and `forall` `1:ok=0 \\/ ..`\n")
    ∷ (codes "wait_", wait_note) ∷ []

-- the line on a call that waits, or else this one
unfoldable pub wait_line : (name otherwise : List ℕ) → List ℕ
wait_line name otherwise = begun_note wait_rows name otherwise
