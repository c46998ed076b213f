-- Lines that more than one refusal ends with.
use Rattle.std.specs.Prelude.{ℕ, List, codes}

-- a variable without `*` and `&`
unfoldable pub name_note : List ℕ
name_note = codes "note: write the name alone, as in `spin_lock(l)`, and `p_f` for a field `&p->f`; for `**p` write `r0 = *p; if (r0) r1 = *b;`\n"

-- a variable behind `*`
unfoldable pub star_note : List ℕ
star_note = codes "note: `*` stands before the variable, as in `int *x` and `READ_ONCE(*x)`\n"

-- a loop ends
unfoldable pub turns_note : List ℕ
turns_note =
    codes "note: a loop has a number of turns: `ok = 0; for (n = 0; n < 3; n++) if (!ok) { old = *x; ok = old == 1; }` ends once `old` is 1, and a turn that ends by `while (!try_cmpxchg(x, &old, 2))` has `was = cmpxchg(x, old, 2); ok = was == old; old = was;` there; `if (ok) { .. }` stands round what follows, and `exists` asks `1:ok=1 /\\ ..` of P1, and `forall` `1:ok=0 \\/ ..`\n"

-- that `~` is what says that something isn't so
unfoldable pub tilde_note : List ℕ
tilde_note = codes "note: in the condition `~` stands before what isn't so, as `~0:r0=1`\n"

-- a structure has no place before the processes
unfoldable pub structure_note : List ℕ
structure_note =
    codes "note: the first `{` begins the initialization block, with no `;` behind it: leave a structure out, and write a variable for each field, as `P0(int *msg_f, int *msg_g)`, and one for all bit-fields that share their bytes, as `int *m` where one is an `unsigned` and `char *m` where all are `u8`; leave an `enum` out, and write each constant as its number\n"

-- a field has no name of its own here
unfoldable pub field_note : List ℕ
field_note = codes "note: a field is a variable of its own, of an `int *p_f`: for `p->f` write `*p_f`, with `(*p_f)++;` for `p->f++;`, and for `&p->f` `p_f`; the bit-fields of a word are one variable together, and a write of one reads and writes all of it, never `*p_f = 1;`: `*p_f += 4;` sets a bit 2 that is 0, as one access, and `val = *p_f & ~0x70 | 0x50; *p_f = val;` makes bits 4 to 6 a 5, as two; where `p` was loaded, with 1 for `&b`, write `if (p == 1) r0 = *b_f;`\n"

-- an element has no name of its own here
unfoldable pub element_note : List ℕ
element_note = codes "note: there are no arrays: each element is a variable of its own, as `*x0` of an `int *x0`; for `x[i] = 2;` write `if (i == 0) *x0 = 2; if (i == 1) *x1 = 2;`\n"

-- a pointer is a number
unfoldable pub pointer_note : List ℕ
pointer_note =
    codes "note: a pointer is a number here, 1 for `&b` and 0 for NULL; what it points to is read as `if (r0) r1 = *b;`\n"

-- a number stands in the place of an address
unfoldable pub value_note : List ℕ
value_note = codes "note: write the number itself, as 0x1; a pointer is a number here, 1 for `&b` and 0 for NULL\n"

-- in the condition `/\` and `\/` join
unfoldable pub join_note : List ℕ
join_note = codes "note: in the condition `/\\` is and, `\\/` is or, as `exists (x=1 /\\ 0:r0=0)`\n"

-- in the condition nothing is implied
unfoldable pub implied_note : List ℕ
implied_note = codes "note: in the condition write `~p \\/ q` for `p -> q`\n"

-- in the condition `=` alone compares
unfoldable pub compared_note : List ℕ
compared_note =
    codes "note: in the condition `=` alone compares, as `x=1`; for another comparison keep it in a register, as `r1 = r0 > 1;`\n"

-- words that change nothing here
unfoldable pub const_note : List ℕ
const_note = codes "note: leave out `const`, `static`, `restrict`, `__rcu`, `__user` and `__percpu`\n"

-- how one is added
unfoldable pub increase_note : List ℕ
increase_note = codes "note: write `(*x)++;` or `r0 = r0 + 1;` as a statement of its own, and for `r0 = (*x)++;`, one access in C, the two of `r0 = *x; *x = r0 + 1;`; for `*p++ = 1;` write `*x0 = 1;`, with a variable for each element\n"

-- a variable of the condition has no `*`
unfoldable pub bare_note : List ℕ
bare_note = codes "note: in the condition a variable stands without `*`, as `x=1`; `(*` begins a comment\n"

-- where the initialization block begins
unfoldable pub block_note : List ℕ
block_note = codes "note: this is the initialization block, which begins at the first `{`: write `{ }` before `P0`; a function before it isn't read: write its statements in the processes\n"
