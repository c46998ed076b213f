-- The last line of what is said of a text that is refused: where no note on the token itself is known, the form that is
-- read there, or how the limit is kept.
use Rattle.std.specs.Prelude.{◌==◌, ℕ, List, [], codes, if◌then◌else◌, length}
use Rattle.check_notes.specs.Notes.{note_of}
use Rattle.litmus_lex.specs.declared.cursor.Excess.{Excess}
use Rattle.litmus_lex.specs.declared.cursor.Excess.TheVariants as excesses
use Rattle.litmus_lex.specs.declared.reason.Expected.{Expected}
use Rattle.litmus_lex.specs.declared.reason.Expected.TheVariants as places
use Rattle.litmus_lex.specs.declared.reason.Fault.{Fault}
use Rattle.litmus_lex.specs.declared.reason.Fault.TheVariants as faults
use Rattle.litmus_lex.specs.declared.sign.Sign.{Sign}
use Rattle.litmus_lex.specs.declared.sign.Sign.TheVariants as signs
use Rattle.litmus_parse.specs.declared.answer.Reason.{Reason}
use Rattle.litmus_parse.specs.declared.answer.Reason.TheVariants as reasons

-- the form of a loop
unfoldable pub loop_note : List ℕ
loop_note = codes "note: a loop is as `for (i = 0; i < 3; i++) { .. }`: one register, from 0, below a number, by `++`\n"

-- where this sign stands
unfoldable pub sign_form : Sign → List ℕ
sign_form signs.OpenBrace = codes "note: the statements of a process stand in `{ .. }` behind its parameters, as `P0(int *x) { *x = 1; }`\n"
sign_form signs.OpenParen =
    codes "note: `(` stands behind `if`, `for` and the name of a call or a process, as `if (r0 == 1) *x = 1;`, `smp_mb();`, `P0() { }` and `ATOMIC_INIT(1)`\n"
sign_form signs.CloseParen =
    codes "note: `)` closes the last `(`, as in `READ_ONCE(*x)`, `WRITE_ONCE(*x, 1)`, `(r0 & 2) == 0` and `exists (0:r0=1 /\\ x=2)`\n"
sign_form signs.CloseBracket = codes "note: `]` stands behind the name of a variable, as `exists ([x]=1)`\n"
sign_form signs.Semicolon = codes "note: `;` ends a statement, as `r0 = *x;`, `smp_mb();` and `int r0 = 1;`\n"
sign_form signs.Comma =
    codes "note: `,` stands between the arguments of a call, as `WRITE_ONCE(*x, 1)`, `cmpxchg(x, 0, 1)`, `atomic_add(1, a)` and `kcsan_check_read(x, 4)`\n"
sign_form signs.Colon =
    codes "note: in the condition a register stands behind the number of its process, as `0:r0=1`, and a variable alone, as `x=1`\n"
sign_form signs.Assign =
    codes "note: a register is assigned as `r0 = 1;` and declared as `int r0;`, and the condition has `=` too, as `0:r0=1` and `x=1`\n"
sign_form signs.Increment = codes "note: `++` stands behind `(*x)`, as `(*x)++;`, and in a loop, as `for (i = 0; i < 3; i++) { .. }`\n"
sign_form signs.Star = codes "note: `*` stands before the variable, as `*x = 1;`, `READ_ONCE(*x)` and the parameter `int *x`\n"
sign_form signs.Less = loop_note
sign_form sign = codes "note: write this sign there\n"

-- the form that is read where this is expected
unfoldable pub form_note : Expected → List ℕ
form_note places.Head = codes "note: a whole text is as `C t { int x; } P0(int *x) { *x = 1; } exists (x=1)`\n"
form_note (places.Sign sign) = sign_form sign
form_note places.ParameterEnd =
    codes "note: `,` stands between two parameters, and `)` behind the last one, as `P0(int *x, int *y)`\n"
form_note places.ItemEnd = codes "note: `;` stands between two items, and `}` behind the last one, as `{ int x = 1; int y; }`\n"
form_note places.DeclarationEnd = codes "note: a declaration is as `int r0, r1;`, or with a value as `int r0 = 1;`\n"
form_note places.Number = codes "note: a number is decimal or hexadecimal, as `10` and `0xa`\n"
form_note places.Zero = loop_note
form_note places.Value =
    codes "note: an initial value is a number, as `int x = -1;`, or `ATOMIC_INIT` of one, as `atomic_t a = ATOMIC_INIT(1);`\n"
form_note places.Type = codes "note: a parameter is a type and a name behind `*`, as `P0(int *x)`, and `P0()` has none\n"
form_note places.Variable =
    codes "note: the name of a variable stands there, as `x` in the item `int x = 1;`, the parameter `int *x` and the condition `exists ([x]=1)`\n"
form_note places.IntegerVariable =
    codes "note: the name of a parameter stands there, as `x` of `P0(int *x)` in `*x`, `READ_ONCE(*x)` and `xchg(x, 1)`\n"
form_note places.AtomicVariable =
    codes "note: the name of a parameter stands there, as `a` of `P0(atomic_t *a)` in `atomic_read(a)` and `atomic_inc(a)`\n"
form_note places.LockVariable =
    codes "note: the name of a parameter stands there, as `l` of `P0(spinlock_t *l)` in `spin_lock(l)` and `spin_unlock(l)`\n"
form_note places.MemoryVariable =
    codes "note: the name of a parameter stands there, as `x` of `P0(int *x)` in `ASSERT_EXCLUSIVE_WRITER(*x)` and `kcsan_check_read(x, 4)`\n"
form_note places.Process =
    codes "note: behind the `}` of the initialization block stands the first process, as `P0(int *x) { *x = 1; }`, then P1, and so on\n"
form_note places.Register =
    codes "note: the name of a register stands there, as `r0` in `int r0;`, `r0 = 1;` and `exists (0:r0=1)`: a name that no parameter of its process has\n"
form_note places.Counter = loop_note
form_note places.Statement =
    codes "note: a statement is as `int r0;`, `r0 = READ_ONCE(*x);`, `*x = 1;`, `WRITE_ONCE(*x, r0 + 1);`, `if (r0 == 1) { .. } else { .. }`, `for (i = 0; i < 3; i++) { .. }` or `spin_lock(l);`, and `}` ends the block\n"
form_note places.Simple =
    codes "note: `data_race( )` is round one load or assignment, as `data_race(*x);`, `data_race(r0 = *x);`, `data_race(*x = 1);` or `data_race(WRITE_ONCE(*x, 1));`\n"
form_note places.Load =
    codes "note: a load is as `*x`, `READ_ONCE(*x)`, `smp_load_acquire(x)`, `xchg(x, 1)` or `cmpxchg(x, 0, 1)`, or `atomic_read(a)` of an `atomic_t`\n"
form_note places.Expression =
    codes "note: an expression has numbers and registers, as `(r0 & 2) == 0`, and one load at most, as `r0 = *x + 1;`; what is written or exchanged has no load\n"
form_note places.Pure = codes "note: what is written or exchanged has no load in it: load before, as `r0 = *x;`, and write `r0 + 1`\n"
form_note places.Operator =
    codes "note: the operators are `*`, `+`, `-`, `<`, `>`, `<=`, `>=`, `==`, `!=`, `&`, `^` and `|`, as `(r0 & 2) == 0`\n"
form_note places.Condition =
    codes "note: behind the `}` of a process stands the next one, as `P1(int *x) { *x = 1; }`, or the condition, as `exists (0:r0=1)`, `~exists (x=2)` or `forall (x=1)`\n"
form_note places.Exists =
    codes "note: `~` stands before `exists`, as `~exists (0:r0=1)`, and in the proposition before what isn't so, as `forall (~0:r0=1)`\n"
form_note places.Proposition =
    codes "note: a proposition is as `(0:r0=1 /\\ x=2)`, of registers and variables with their values, with `/\\`, `\\/`, `~` and parentheses\n"
form_note places.Task = codes "note: the number of a process of the text stands there, as 0 for P0 in `exists (0:r0=1)`\n"
form_note places.End = codes "note: the text ends behind one proposition, as `exists (0:r0=1 /\\ x=2)`; more are joined by `/\\` or `\\/`\n"

-- how a text keeps this limit
unfoldable pub limit_note : Excess → List ℕ
limit_note excesses.Tasks = codes "note: leave out processes: a race is of two of them\n"
limit_note excesses.Statements =
    codes "note: write what repeats as a loop, as `for (i = 0; i < 3; i++) { .. }`: its statements count once\n"
limit_note excesses.Variables = codes "note: what one process alone uses is kept in a register, as `r0 = 1;`, without an item and a parameter\n"
limit_note excesses.Registers = codes "note: assign a register again once its value isn't needed, as `r0 = *x; r0 = *y;`\n"
limit_note excesses.Nesting =
    codes "note: keep a part in a register before, as `r1 = r0 + 1;` or `ok = (r0 == 1) & (r1 == 2);` for one `if (ok) { .. }`; in the condition leave out parentheses: `/\\` binds more tightly than `\\/`\n"
limit_note excesses.Operators =
    codes "note: keep a part in a register before, as `r1 = r0 + 1;`, which the condition can ask for too, as `exists (0:r1=2)`\n"
limit_note excesses.Scoped =
    codes "note: a scoped assertion holds to the end of its block, so end the block before: `if (1) { ASSERT_EXCLUSIVE_WRITER_SCOPED(*x); .. }`\n"
limit_note excesses.Number = codes "note: numbers have 64 bits: the greatest is 0xffffffffffffffff\n"
limit_note excesses.Check = codes "note: a check is of the bytes of a variable, as `kcsan_check_read(x, 4);` of an `int`\n"
limit_note excesses.Turns =
    codes "note: write fewer turns, as `for (i = 0; i < 3; i++) { .. }`: those of a loop in a loop are multiplied\n"
limit_note excesses.Repeats =
    codes "note: write fewer turns, as `for (i = 0; i < 3; i++) { .. }`, or fewer accesses in the loop: statements of registers alone don't count\n"

-- what to write where a text has this fault
unfoldable pub fault_form : Fault → Expected → List ℕ
fault_form faults.Unclosed expected =
    codes "note: a comment is as `/* .. */`, or `(* .. *)` outside the bodies of processes: write its end; `// ..` ends with its line\n"
fault_form fault expected = form_note expected

-- what to write where a text is refused for this reason
unfoldable pub general_note : Reason → List ℕ
general_note reasons.OutOfMemory = []
general_note reasons.File = codes "note: blanks and comments count too: leave out what the race doesn't need\n"
general_note reasons.NotAscii =
    codes "note: a litmus file has tabs, LF, CR and the bytes from a blank to `~`, in comments too: write it in ASCII\n"
general_note (reasons.Limit excess) = limit_note excess
general_note (reasons.Syntax fault expected) = fault_form fault expected
general_note (reasons.Unsupported unread expected) = form_note expected

-- the last line of what is said of a text that is refused where this token stands, behind this word in its line, where
-- the text goes on with these bytes from the token on: the note on the token, if there is one
unfoldable pub note_line : Reason → (token before rest : List ℕ) → List ℕ
note_line reason token before rest =
    let note = note_of reason token before rest in
    if length note == 0 then general_note reason else note
