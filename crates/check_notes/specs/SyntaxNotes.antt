-- What to write in the place of a token that isn't of this format.
use Rattle.std.specs.Prelude.{◌&&◌, ◌||◌, ℕ, Bool, List, [], ◌∷◌, bytes_eq, codes, drop, if◌then◌else◌, length, not}
use Rattle.call_notes.specs.SharedLines.{jump_note, number_note}
use Rattle.check_notes.specs.CommonNotes.{bare_note, block_note, compared_note, const_note, element_note, field_note, implied_note, increase_note, join_note, name_note}
use Rattle.check_notes.specs.CommonNotes.{star_note, structure_note, tilde_note}
use Rattle.check_notes.specs.Tables.{type_line}
use Rattle.check_notes.specs.Words.{begins, is_constant, is_jump, is_number, is_operator, is_qualifier, is_suffix}
use Rattle.litmus_lex.specs.declared.reason.Expected.{Expected}
use Rattle.litmus_lex.specs.declared.reason.Expected.TheVariants as places
use Rattle.litmus_lex.specs.declared.reason.Fault.{Fault}
use Rattle.litmus_lex.specs.declared.reason.Fault.TheVariants as faults
use Rattle.litmus_lex.specs.declared.sign.Sign.{Sign}
use Rattle.litmus_lex.specs.declared.sign.Sign.TheVariants as signs

-- what stands behind a token, where the text goes on with these bytes from it on
unfoldable pub behind_token : (token rest : List ℕ) → List ℕ
behind_token token rest = drop (length token) rest

-- which type is read in the place of this word, or how a parameter is written
unfoldable pub type_note : List ℕ → List ℕ
type_note word = type_line word
    (codes "note: a parameter is a type and a name behind `*`, as `int *x`, and a structure one for each field, as `int *m_f`\n")

-- a word or an operator that joins conditions in C
unfoldable pub joins : List ℕ → Bool
joins token = bytes_eq token (codes "&&") || bytes_eq token (codes "||") || bytes_eq token (codes "and")
    || bytes_eq token (codes "or")

-- an arrow of a condition
unfoldable pub implies : List ℕ → Bool
implies rest = begins rest (codes "->") || begins rest (codes "=>")

-- a comparison of C, or the end of what would be one
unfoldable pub compares : List ℕ → Bool
compares token = bytes_eq token (codes "<") || bytes_eq token (codes ">") || bytes_eq token (codes "<=")
    || bytes_eq token (codes ">=") || bytes_eq token (codes ")")

-- behind a number: an operator of C in the condition or where nothing is computed, or a suffix
unfoldable pub behind_number : List ℕ → List ℕ → List ℕ
behind_number token rest =
    if joins token then join_note
    else if implies rest then implied_note
    else if is_operator token then number_note
    else if is_suffix token then codes "note: a number has no suffix\n"
    else if bytes_eq token (codes ",") then codes "note: `;` stands between two items, as in `int x = 1; int y = 2;`, and `/\\` between two atoms of the condition\n"
    else if bytes_eq token (codes ":")
    then codes "note: a register is compared with a number alone: for two of P0 write `eq = r0 == r1;` there and `0:eq=1` here; for those of two processes write each case, as `0:r0=1 /\\ 1:r0=1`\n"
    else if begins token (codes "b")
    then codes "note: a number is decimal, or hexadecimal behind 0x: for 0b11 write 3\n"
    else []

-- behind a register: its assignment, its value in the condition, or a label
unfoldable pub register_note : List ℕ → List ℕ → List ℕ
register_note token rest =
    if bytes_eq token (codes ":")
    then codes "note: no label is read: leave it out; what `goto` would repeat is a loop, as `ok = 0; for (n = 0; n < 3; n++) if (!ok) { old = *x; ok = old == 1; }`, with `if (ok) { .. }` round what follows\n"
    else if bytes_eq token (codes "*") && not (begins rest (codes "*="))
    then codes "note: a register is declared as `int r0`, also for a pointer, which is a number\n"
    else if begins rest (codes "->") then field_note
    else if bytes_eq token (codes "-") then codes "note: write `r0 = r0 - 1`\n"
    else if is_operator token || bytes_eq token (codes "+=")
    then codes "note: a register is assigned by `=` alone, as `r0 = r0 | 1;`; the condition computes nothing: it has `0:r1=2` for `r1 = r0 & 2;` in P0, and `x=1` for `x + 1 = 2`\n"
    else if bytes_eq token (codes "==") then codes "note: it is one `=`, as `exists (0:r0=1)`\n"
    else if bytes_eq token (codes "!=") then tilde_note
    else if compares token then compared_note
    else []

-- behind a statement, as `*x`
unfoldable pub statement_note : List ℕ → List ℕ → List ℕ
statement_note token rest =
    if begins rest (codes "->") then field_note
    else if bytes_eq token (codes "-") then codes "note: for `-=` and `--` write `*x += -1`\n"
    else if bytes_eq token (codes ",") then codes "note: `;` stands between two statements, and a declaration gives one value: `int r0 = *x; int r1 = *y;`\n"
    else if bytes_eq token (codes "=") then codes "note: an assignment has no value: for `a = b = 1;` write `b = 1; a = 1;`\n"
    else if is_operator token
    then codes "note: with an operator there is `+=` alone, one access that reads and writes, as `|=`, `&=` and `^=` are: `*x += 4;` sets a bit that is 0, and `*x += -4;` clears one that is 1, where no other task changes it meanwhile; `val = *x | 4; *x = val;`, and the same with `& ~4`, `^ 4` and `* 4`, has the right value in any case, and is two accesses, the second of which counts as marked but for `--strict`\n"
    else []

-- behind `(*x)`
unfoldable pub increment_note : List ℕ → List ℕ → List ℕ
increment_note token rest =
    if begins rest (codes "->") then field_note
    else if bytes_eq token (codes "-") then codes "note: for `-=` and `--` write `*x += -1`\n"
    else codes "note: `(*x)++` alone has parentheses: write `*x = 1` or `*x += 1`\n"

-- in the place of a `*`: a cast, or a variable
unfoldable pub unstarred_note : List ℕ → List ℕ
unstarred_note token =
    if bytes_eq token (codes "void") then codes "note: a load is a statement without a cast\n"
    else if is_qualifier token then const_note
    else star_note

-- behind the condition, or a part of it
unfoldable pub joined_note : List ℕ → List ℕ → List ℕ
joined_note token rest =
    if joins token then join_note
    else if implies rest then implied_note
    else if bytes_eq token (codes "=")
    then codes "note: an assignment is a statement of its own, as `r0 = *x;` before the `if`\n"
    else if bytes_eq token (codes ";") then codes "note: no `;` stands behind the condition\n"
    else []

-- an arrow behind this word, or behind a parenthesis
unfoldable pub arrow_note : List ℕ → List ℕ
arrow_note [] = implied_note
arrow_note (first ∷ others) = field_note

-- an operator of C behind this word, or behind a parenthesis
unfoldable pub operand_note : List ℕ → List ℕ
operand_note [] = join_note
operand_note (first ∷ others) = codes "note: a call has the variable alone: compute behind a load, as `READ_ONCE(*x) + 1`\n"

-- behind a variable in a call, or a part of the condition in parentheses
unfoldable pub closing_note : List ℕ → List ℕ → List ℕ → List ℕ
closing_note token before rest =
    if begins rest (codes "->") then arrow_note before
    else if is_operator token then operand_note before
    else if bytes_eq token (codes ",") then codes "note: no `,` joins two values, and a call has no more arguments: for `r0 = (READ_ONCE(*x), 3);` write `READ_ONCE(*x); r0 = 3;`\n"
    else joined_note token rest

-- what to write where this sign is expected
unfoldable pub sign_note : Sign → (token before rest : List ℕ) → List ℕ
sign_note signs.Assign token before rest = register_note token rest
sign_note signs.Semicolon token before rest = statement_note token rest
sign_note signs.Increment token before rest = increment_note token rest
sign_note signs.Star token before rest = unstarred_note token
sign_note signs.CloseParen token before rest = closing_note token before rest
sign_note signs.Comma token before rest = closing_note token before rest
sign_note sign token before rest = []

-- in the place of a variable's name
unfoldable pub starred_note : List ℕ → List ℕ
starred_note token =
    if bytes_eq token (codes "*") then name_note
    else if bytes_eq token (codes "(") || bytes_eq token (codes "READ_ONCE")
    then codes "note: a name alone stands behind `*`: write `*x` for `*(int *)x`, or with `volatile` `READ_ONCE(*x)` and `WRITE_ONCE(*x, 1)`; a variable of its own for `*(x + 1)`; and `r0 = READ_ONCE(*p); if (r0) r1 = *b;` for `*READ_ONCE(*p)`\n"
    else if is_number token
    then codes "note: the variable comes first, as in `atomic_set(f, 1)` and `xchg(x, 1)`, and last in `atomic_add(1, f)`\n"
    else []

-- in the place of the type of a parameter
unfoldable pub parameter_note : List ℕ → List ℕ
parameter_note token =
    if is_qualifier token then const_note
    else if bytes_eq token (codes "void") then codes "note: a process without variables begins with `P0()`; a variable of the file is a parameter of each process that uses it, as `P0(int *ready)`, and a `void *x` is an `int *x`\n"
    else type_note token

-- a word that C has before a function
unfoldable pub is_before_function : List ℕ → Bool
is_before_function token = bytes_eq token (codes "static") || bytes_eq token (codes "void")
    || bytes_eq token (codes "int") || bytes_eq token (codes "typedef") || bytes_eq token (codes "noinline")
    || bytes_eq token (codes "__no_kcsan")

-- a word or a sign that would deny what comes
unfoldable pub denies : List ℕ → Bool
denies token = bytes_eq token (codes "never") || bytes_eq token (codes "not") || bytes_eq token (codes "!")

-- in the place of a process or of the condition
unfoldable pub process_note : List ℕ → List ℕ
process_note token =
    if is_before_function token
    then codes "note: no word stands before `P0`: a variable is an item in the `{ }` and a parameter of each process, and statements of another function stand in the processes themselves; a process with `__no_kcsan` begins by `kcsan_disable_current();` and ends by `kcsan_enable_current();`\n"
    else if begins token (codes "DEFINE_")
    then codes "note: a variable is an item in the `{ }`: `spinlock_t l;` for a lock, `int seq;` for a sequence count, both for a seqlock, and `int cnt0; int cnt1;` for a variable of each CPU\n"
    else if denies token then codes "note: that it never comes is asked by `~exists (0:r0=1)`\n"
    else if bytes_eq token (codes ";")
    then codes "note: no `;` stands behind a process\n"
    else if bytes_eq token (codes "always") then codes "note: that it always comes is asked by `forall (0:r0=1)`\n"
    else if begins token (codes "P") || begins token (codes "p")
    then codes "note: processes are P0, P1 and so on, in this order and without a gap\n"
    else []

-- a structure of C ended before this token, or behind it, or an `enum` begins
unfoldable pub ended_structure : (token rest : List ℕ) → Bool
ended_structure token rest = bytes_eq token (codes ";") || bytes_eq token (codes "{")
    || bytes_eq token (codes "enum") || begins (behind_token token rest) (codes ";")

-- in the place of the first process
unfoldable pub first_process_note : (token rest : List ℕ) → List ℕ
first_process_note token rest =
    if ended_structure token rest then structure_note
    else process_note token

-- in the place of a proposition
unfoldable pub proposition_note : List ℕ → List ℕ
proposition_note token =
    if bytes_eq token (codes "!") then tilde_note
    else if bytes_eq token (codes "*") then bare_note
    else []

-- a type that is read
unfoldable pub is_read_type : List ℕ → Bool
is_read_type token = bytes_eq token (codes "int") || bytes_eq token (codes "long") || bytes_eq token (codes "char")
    || bytes_eq token (codes "short")

-- in the place of an expression: a field, its end, or a cast
unfoldable pub expression_note : List ℕ → List ℕ
expression_note token =
    if bytes_eq token (codes ">") then field_note
    else if bytes_eq token (codes ";") || bytes_eq token (codes ")")
    then codes "note: an operand is missing: for `r1 = r0--;` write `r1 = r0; r0 = r0 - 1;`, and for `r1 = (*x)--;` `r1 = *x; *x = r1 - 1;`\n"
    else if is_read_type token then codes "note: no cast is read: leave it out where the value fits, and write `(r0 & 0xffff)` for `(u16)r0` and `((r0 & 0x80000000) != 0)` for `(int)r0 < 0`\n"
    else []

-- behind an item, or behind this word that is taken for one
unfoldable pub item_end_note : (token before : List ℕ) → List ℕ
item_end_note token before =
    if bytes_eq token (codes "(") && is_constant before
    then codes "note: an item is a type and a name: `spinlock_t l;` for a lock, `int seq;` for a sequence count, both for a seqlock, `int f;` for bits, and `int done;` for a completion\n"
    else if bytes_eq token (codes "(") then block_note
    else if bytes_eq token (codes ",") then codes "note: each variable is an item of its own, as `int x; int y;`\n"
    else if bytes_eq token (codes ":")
    then codes "note: the bit-fields of a word are one `int *x` together: a write of one reads and writes all of it, as `*x += 2;` sets a bit 1 that is 0 and `*x += -2;` clears one that is 1, and never `*x = 1;`; `(*x & 2) != 0` reads it\n"
    else codes "note: this is the initialization block, from the first `{`: an item is `int x;` or `int x = 1;`; leave out one of another type than char, short, int, long, atomic_t and spinlock_t, or write it as an `int`\n"

-- in the place of an item
unfoldable pub item_note : List ℕ → List ℕ
item_note token =
    if bytes_eq token (codes ")") || bytes_eq token (codes ",") || bytes_eq token (codes "]") then []
    else block_note

-- in the place of an initial value
unfoldable pub initial_note : List ℕ → List ℕ
initial_note token =
    if bytes_eq token (codes "*") then block_note
    else if bytes_eq token (codes "(") then number_note
    else if bytes_eq token (codes "{") then codes "note: leave the braces out, as in `atomic_t f = 0;`\n"
    else []

-- in the place of a statement
unfoldable pub statement_place_note : (token rest : List ℕ) → List ℕ
statement_place_note token rest =
    if bytes_eq token (codes "{") then codes "note: a block stands behind `if (..)`, `else` or `for (..)` alone\n"
    else if begins rest (codes "--") then codes "note: for `--r0;` write `r0 = r0 - 1;`, and for `--*x;` `*x += -1;`\n"
    else []

-- behind a register of a declaration
unfoldable pub declaration_note : List ℕ → List ℕ
declaration_note token =
    if bytes_eq token (codes "=") then codes "note: of several registers none is given a value: write `int n; int r0 = -1;`\n"
    else []

-- what to write where this is expected
unfoldable pub place_note : Expected → (token before rest : List ℕ) → List ℕ
place_note places.Number token before rest =
    codes "note: write the number itself, as 0x1, and 1 for a pointer `&b` and 0 for NULL; two values are compared in a process, as `r2 = r0 == r1;`, or case by case, as `x=0 /\\ y=0 \\/ x=1 /\\ y=1`\n"
place_note places.Type token before rest = parameter_note token
place_note places.Expression token before rest = expression_note token
place_note places.ItemEnd token before rest = item_end_note token before
place_note places.ParameterEnd token before rest = codes "note: `,` stands between two parameters, as `int *x, int *y`\n"
place_note places.Variable token before rest = item_note token
place_note places.Value token before rest = initial_note token
place_note places.Statement token before rest = statement_place_note token rest
place_note places.DeclarationEnd token before rest = declaration_note token
place_note places.Head token before rest =
    codes "note: the text begins with `C` and a name, as `C t`, and nothing but comments `(* .. *)` stands before them\n"
place_note places.Process token before rest = first_process_note token rest
place_note places.Condition token before rest = process_note token
place_note places.Proposition token before rest = proposition_note token
place_note places.End token before rest = joined_note token rest
place_note places.Operator token before rest = joined_note token rest
place_note places.IntegerVariable token before rest = starred_note token
place_note places.AtomicVariable token before rest = starred_note token
place_note places.LockVariable token before rest = starred_note token
place_note places.MemoryVariable token before rest = starred_note token
place_note (places.Sign sign) token before rest = sign_note sign token before rest
place_note expected token before rest = []

-- a value that C has a word for
unfoldable pub is_truth : List ℕ → Bool
is_truth token = bytes_eq token (codes "true") || bytes_eq token (codes "false")

-- a jump of C, behind this word
unfoldable pub jumped_note : List ℕ → List ℕ
jumped_note before =
    if bytes_eq before (codes "break")
    then codes "note: no jump is read: a loop ends sooner as `ok = 0; for (n = 0; n < 3; n++) if (!ok) { old = *x; ok = old == 1; }`, with `if (!ok) { .. }` round what else a turn has\n"
    else jump_note

-- a jump of C, behind this word, where this is expected: in the initialization block it is of a function
unfoldable pub jump_place_note : Expected → List ℕ → List ℕ
jump_place_note places.ItemEnd before = block_note
jump_place_note expected before = jumped_note before

-- a `[` where this is expected
unfoldable pub bracket_note : Expected → List ℕ
bracket_note places.Variable = codes "note: an item has no brackets: write `x = 1;`\n"
bracket_note expected = element_note

-- what to write in the place of a token behind this word, which is no type of the kernel
unfoldable pub other_token_note : Expected → (token before rest : List ℕ) → List ℕ
other_token_note expected token before rest =
    if is_number before then behind_number token rest
    else if is_qualifier before then const_note
    else if bytes_eq before (codes "enum")
    then codes "note: write a constant of an `enum` as its number, and leave this out\n"
    else if is_read_type before && is_read_type token
    then codes "note: a type is one word: char, short, int or long, of 1, 2, 4 and 8 bytes, as `long` for `long long`\n"
    else if bytes_eq token (codes "++") then increase_note
    else if is_truth token then codes "note: write 1 for `true`, and 0 for `false`\n"
    else if bytes_eq token (codes "[") then bracket_note expected
    else place_note expected token before rest

-- what to write in the place of a token behind this word, which the program takes for a register or a variable, or
-- behind this number; the text goes on with these bytes from the token on
unfoldable pub token_note : Expected → (token before rest : List ℕ) → List ℕ
token_note expected token before rest =
    if is_jump before then jump_place_note expected before
    else type_line before (other_token_note expected token before rest)

-- in the place of a variable that the process, or of one that the text, doesn't have
unfoldable pub unknown_note : Expected → (token : List ℕ) → List ℕ
unknown_note places.Variable token =
    if bytes_eq token (codes "not") then tilde_note
    else codes "note: a register stands behind its process, as `0:r0`; a variable is an item, as `{ int x; }`, or a parameter\n"
unknown_note expected token =
    codes "note: a process has its variables as parameters, as `P0(int *x)`; a pointer in a register is a number: `if (r0) r1 = *b;`\n"

-- in the place of a sign that begins no token
unfoldable pub stray_note : (token rest : List ℕ) → List ℕ
stray_note token rest =
    if begins rest (codes "#include") || begins rest (codes "# include")
    then codes "note: no file is included: leave the line out\n"
    else if bytes_eq token (codes "#") then codes "note: no macro is read: write in its place what it stands for\n"
    else if bytes_eq token (codes ".") then field_note
    else if bytes_eq token (codes "'") then codes "note: a character is a number: write 97 for `'a'`\n"
    else []

-- a variable of the process, where it is neither written nor read
unfoldable pub unaccessed_note : Expected → List ℕ
unaccessed_note places.Statement = codes "note: its memory is written as `*x`, or by a call, as `WRITE_ONCE(*x, 1)`; a register has another name\n"
unaccessed_note expected = codes "note: its value is read as `r0 = *x;` or `r0 = READ_ONCE(*x);`, and its address is a number, as 1 for `&x`\n"

-- in the place of a variable of the process, behind this word and before these bytes
unfoldable pub variable_note : Expected → (before behind : List ℕ) → List ℕ
variable_note expected before behind =
    if is_read_type before
    then codes "note: a parameter has this name: give the register another one\n"
    else if begins behind (codes "++") then increase_note
    else if begins behind (codes ",")
    then codes "note: a value is a number or a register, as `r0 = *x;` gives, and an address a number, as 1 for `&x`; `atomic_add(1, f)` has the variable last\n"
    else unaccessed_note expected

-- in the place of a comment that goes on to the end
unfoldable pub comment_note : Expected → List ℕ
comment_note places.Proposition = bare_note
comment_note expected = []

-- what to write where a text has this fault
unfoldable pub fault_note : Fault → Expected → (token before rest : List ℕ) → List ℕ
fault_note faults.Token expected token before rest = token_note expected token before rest
fault_note faults.Variable expected token before rest = variable_note expected before (behind_token token rest)
fault_note faults.Twice expected token before rest = codes "note: leave it out: the process has this parameter\n"
fault_note faults.Unknown expected token before rest = unknown_note expected token
fault_note faults.Stray expected token before rest = stray_note token rest
fault_note faults.Unclosed expected token before rest = comment_note expected
fault_note fault expected token before rest = []

-- a field or an element of what stands before it begins so
unfoldable pub is_part : List ℕ → Bool
is_part behind = begins behind (codes "->") || begins behind (codes ".") || begins behind (codes "[")

-- what to write in the place of a field or an element that begins so
unfoldable pub part_note : List ℕ → List ℕ
part_note behind =
    if begins behind (codes "->counter") || begins behind (codes ".counter")
    then codes "note: it is the value of the `atomic_t *f` itself: write `atomic_read(f)`, `atomic_set(f, 1)` or `atomic_add(1, f)`\n"
    else if begins behind (codes "[") then element_note
    else field_note
