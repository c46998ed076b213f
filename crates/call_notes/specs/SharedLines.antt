-- Lines that more than one refusal ends with.
use Rattle.std.specs.Prelude.{ℕ, List, codes}

-- no `return`, `goto` or `break`
unfoldable pub jump_note : List ℕ
jump_note =
    codes "note: no jump is read: write an `if` round what it would skip; a `return` at the end is left out, and of what P1 returns `exists` asks, as `1:ret=0`\n"

-- where nothing is computed
unfoldable pub number_note : List ℕ
number_note =
    codes "note: write the number itself, as 0x1\n"

-- a wait ends
unfoldable pub wait_note : List ℕ
wait_note =
    codes "note: a wait has a number of tries: `ok = 0; for (n = 0; n < 3; n++) if (!ok) { old = READ_ONCE(*x); ok = old == 1; }` waits for 1, with `old = *x;` where the load is plain, `ok = (old & 1) == 0;` for bit 0 to be 0, and `if (!ok) { .. }` behind it round the body of the loop; `if (ok) { .. }` stands round what follows, and `exists` asks `1:ok=1 /\\ ..` of P1, and `forall` `1:ok=0 \\/ ..`\n"

-- a lock that is one bit of a word
unfoldable pub bit_lock_note : List ℕ
bit_lock_note =
    codes "note: a lock in bit 0 of an `int`: `ok = 0; for (n = 0; n < 3; n++) if (!ok) { old = READ_ONCE(*x); was = cmpxchg(x, old, old | 1); ok = (was == old) & !(old & 1); }` takes it where `ok` is 1, with `if (ok) { .. }` round what follows; the same with `old & ~1` and `ok = was == old;` gives it back, and `READ_ONCE(*x) & 1` asks for it; `exists` asks `1:ok=1 /\\ ..` of P1, and `forall` `1:ok=0 \\/ ..`\n"

-- an exchange that says whether it was made
abbrev pub try_note : List ℕ
try_note =
    codes "note: for `try_cmpxchg(x, &old, 2)`, of an `int` in each task, write `was = cmpxchg(x, old, 2); ok = was == old; old = was;`: `ok` is its value, and 2 was written where it is 1\n"

-- the calls that an atomic variable has
abbrev pub atomic_note : List ℕ
atomic_note =
    codes "note: an `atomic_t` has atomic_read, atomic_set, atomic_add, atomic_inc and atomic_dec; other changes are `cmpxchg` of an `int` in each task\n"
