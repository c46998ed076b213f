-- The last line of a message: what to write in the place of what C or the kernel's format have, or why it isn't read.
use Rattle.std.specs.Prelude.{◌&&◌, ◌||◌, ◌==◌, ℕ, Bool, List, [], ◌∷◌, bytes_eq, codes, false, if◌then◌else◌, length, not, true}
use Rattle.call_notes.specs.CallNotes.{call_note}
use Rattle.call_notes.specs.SharedLines.{bit_lock_note, wait_note}
use Rattle.check_notes.specs.CommonNotes.{block_note, name_note, pointer_note, star_note, structure_note, turns_note, value_note}
use Rattle.check_notes.specs.SyntaxNotes.{behind_token, fault_note, is_part, part_note}
use Rattle.check_notes.specs.Tables.{loop_line, structure_line}
use Rattle.check_notes.specs.Words.{begins, ends_structure, is_constant, without_signs}
use Rattle.litmus_lex.specs.declared.reason.Expected.{Expected}
use Rattle.litmus_lex.specs.declared.reason.Expected.TheVariants as places
use Rattle.litmus_lex.specs.declared.reason.Unread.{Unread}
use Rattle.litmus_lex.specs.declared.reason.Unread.TheVariants as unreads
use Rattle.litmus_parse.specs.declared.answer.Reason.{Reason}
use Rattle.litmus_parse.specs.declared.answer.Reason.TheVariants as reasons

-- the line that says why a part of a text isn't read that the kernel's format has
unfoldable pub section_why : List ℕ → List ℕ
section_why name =
    if begins name (codes "locations") then codes "note: it changes nothing here: leave it out\n" else codes "note: no run is left out here: for `filter (F) exists (C)` write `exists ((F) /\\ (C))`, and for `filter (F) forall (C)` `forall (~(F) \\/ (C))`\n"

-- a loop that asks for this before each turn
unfoldable pub while_note : List ℕ → List ℕ
while_note asked =
    if begins asked (codes "test_and_set_bit") then bit_lock_note
    else loop_line asked wait_note

-- the line on a loop that begins with this word
unfoldable pub loop_why : (word rest : List ℕ) → List ℕ
loop_why word rest =
    if bytes_eq word (codes "while") then while_note (without_signs (behind_token word rest))
    else if bytes_eq word (codes "do") then turns_note
    else []

-- the line on the head of a loop that leaves the form that is read where this is expected
unfoldable pub head_why : Expected → List ℕ
head_why places.Register = codes "note: a register stands there without a type, as in `for (i = 0; i < 3; i++)`, and need not be declared\n"
head_why places.Number = codes "note: the number of turns is a number: write the greatest, as in `for (i = 0; i < 3; i++) if (i < r0) { .. }`\n"
head_why expected = codes "note: a loop counts up from 0 by 1, below a number: for 1 to 2 write `for (i = 0; i < 2; i++) { j = i + 1; .. }`\n"

-- the line on the head of a loop that leaves that form at this token
unfoldable pub form_why : Expected → List ℕ → List ℕ
form_why expected token =
    if bytes_eq token (codes ";") then turns_note
    else head_why expected

-- the line on a structure of C
unfoldable pub structure_why : List ℕ → List ℕ
structure_why rest = structure_line rest
    (codes "note: each field is a variable of its own, as `int *m_f` for `m->f`, and the bit-fields of a word are one together; a pointer is a number of 8 bytes, 1 for `&m` and 0 for NULL: `long *p` for a parameter `struct msg **p`, and `long p` as an item or a register\n")

-- a word of C
unfoldable pub word_why : List ℕ → List ℕ → List ℕ
word_why word rest =
    if bytes_eq word (codes "unsigned") then codes "note: each type has a sign: char, short, int and long; of an unsigned char compare `(READ_ONCE(*f) & 0xff) == 0x80`, and of an unsigned int `(r0 & 0xffffffff) > 5`\n"
    else if bytes_eq word (codes "struct") then structure_why rest
    else if bytes_eq word (codes "volatile") then codes "note: an access is marked itself, as `READ_ONCE(*x)`: leave `volatile` out, and `asm volatile` with its parentheses\n"
    else []

-- the line on a division of C
unfoldable pub division_why : List ℕ → List ℕ
division_why sign =
    if bytes_eq sign (codes "/")
    then codes "note: of a register from 0 to 5, as `r0 = *x;` loads, `r0 / 2` is `((r0 >= 2) + (r0 >= 4))`; of two numbers write the result\n"
    else if bytes_eq sign (codes "%")
    then codes "note: of a register, as `r0 = *x;` loads, `r0 % 4` is `(r0 & 3)` where it isn't negative, and `r0 % 3` is `(r0 - 3 * (r0 >= 3))` from 0 to 5\n"
    else []

-- an operator of C
unfoldable pub operator_why : List ℕ → List ℕ
operator_why sign =
    if bytes_eq sign (codes "&&") then codes "note: comparisons are joined by `&`, as `(r0 == 1) & (r1 == 2)`, with `(r0 != 0)` for `r0`; where the right side loads or assigns, write `ok = r0 == 1; if (ok) ok = *y == 2; if (ok) ..`\n"
    else if bytes_eq sign (codes "||") then codes "note: comparisons are joined by `|`, as `(r0 == 1) | (r1 == 2)`, with `(r0 != 0)` for `r0`; where the right side loads or assigns, write `ok = r0 == 1; if (!ok) ok = *y == 2; if (ok) ..`\n"
    else if bytes_eq sign (codes "?") then codes "note: write `if (r0) r1 = 1; else r1 = 2;`\n"
    else if bytes_eq sign (codes "<<") then codes "note: write `(r0 * 4)` for `r0 << 2`, and the number itself for `1 << 2`\n"
    else if bytes_eq sign (codes ">>") then codes "note: a bit is tested by `r0 & 4`, and `(r0 >> 2) & 1` is `((r0 & 4) != 0)`; of a register from 0 to 7, as `r0 = *x;` loads, `r0 >> 2` is `(r0 >= 4)`; for `(r0 & 0xf0) >> 4 == 2` write `(r0 & 0xf0) == 0x20`, and `(r0 & 0xf0) + 0x10` has 1 more in those bits\n"
    else division_why sign

-- an address where this is expected
unfoldable pub address_why : Expected → List ℕ
address_why places.IntegerVariable = name_note
address_why places.AtomicVariable = name_note
address_why places.LockVariable = name_note
address_why places.MemoryVariable = name_note
address_why (places.Sign sign) = star_note
address_why expected = pointer_note

-- a variable of another type than this that is expected
unfoldable pub type_why : Expected → List ℕ
type_why places.IntegerVariable =
    codes "note: an `atomic_t` is accessed by calls, as `atomic_read(f)` and `atomic_add(1, f)`; a lock that is tried is an `int` in each task\n"
type_why places.AtomicVariable =
    codes "note: an atomic variable is an `atomic_t *f`; an `int` has READ_ONCE(*f), WRITE_ONCE(*f, 1), xchg(f, 1) and cmpxchg(f, 0, 1), and for atomic_inc `ok = 0; for (n = 0; n < 3; n++) if (!ok) { old = READ_ONCE(*f); was = cmpxchg(f, old, old + 1); ok = was == old; }`; `if (ok) { .. }` stands round what follows, and `exists` asks `1:ok=1 /\\ ..` of P1, and `forall` `1:ok=0 \\/ ..`\n"
type_why places.LockVariable =
    codes "note: a lock is a `spinlock_t *l`; one that is tried is an `int`, taken in each task by `r0 = cmpxchg(l, 0, 1);` where `r0` is 0\n"
type_why places.MemoryVariable = codes "note: a lock has no bytes: write a variable of another type\n"
type_why expected = []

-- a parameter ends behind the name that these bytes have: of `,` (44), `)` (41), `=` (61) and `;` (59) one of the first
-- two comes first
abbrev pub ends_parameter : List ℕ → Bool
ends_parameter [] = false
ends_parameter (byte ∷ bytes) =
    if byte == 44 || byte == 41 then true
    else if byte == 61 || byte == 59 then false
    else ends_parameter bytes

-- a pointer that is made behind this word or behind a sign, by a `*` that these bytes begin with
unfoldable pub variable_pointer_why : (before rest : List ℕ) → List ℕ
variable_pointer_why before rest =
    if not (length before == 0)
    then codes "note: an item is `int x`, with no `*`: a pointer is a `long p`, 1 for `&b` and 0 for NULL\n"
    else if ends_parameter rest
    then codes "note: a pointer is a number of 8 bytes, 1 for `&b` and 0 for NULL: write `long *p` for `int **p`\n"
    else block_note

-- a pointer that is made where this is expected
unfoldable pub pointer_why : Expected → (before rest : List ℕ) → List ℕ
pointer_why places.Register before rest = codes "note: a register is `int r0`, and a pointer in it a number, 1 for `&b` and 0 for NULL\n"
pointer_why expected before rest = variable_pointer_why before rest

-- a name as an initial value, which these bytes follow
unfoldable pub name_why : (name behind : List ℕ) → List ℕ
name_why name behind =
    if begins behind (codes "(") && not (is_constant name) && not (begins name (codes "sizeof")) then block_note
    else value_note

-- the line that says why this isn't read, where the kernel's format or C has it
unfoldable pub why : Unread → Expected → (token before rest : List ℕ) → List ℕ
why unreads.Call expected token before rest = call_note token
why unreads.Section expected token before rest = section_why token
why unreads.Loop expected token before rest = loop_why token rest
why unreads.Type expected token before rest = word_why token rest
why unreads.Operator expected token before rest = operator_why token
why unreads.Address expected token before rest = address_why expected
why unreads.Load expected token before rest = codes "note: load into a register first, as `r0 = *x;`; for `*x = *y = 1;` write `*y = 1; *x = 1;`\n"
why unreads.OtherType expected token before rest = type_why expected
why unreads.Pointer expected token before rest = pointer_why expected before rest
why unreads.Label expected token before rest = codes "note: a process gives it a value, as `r0 = 1;`\n"
why unreads.Name expected token before rest = name_why token (behind_token token rest)
why unreads.LockValue expected token before rest = codes "note: an item `spinlock_t l` has no value, and the condition no lock\n"
why unreads.Counter expected token before rest =
    codes "note: the loop alone changes the register that it counts with: assign another one, and to end sooner write `ok = 1;` and `if (!ok) { .. }` in the loop\n"
why unreads.LoopForm expected token before rest = form_why expected token
why unreads.TwoTypes expected token before rest =
    codes "note: a variable has one type: write the same one in each process and in its item, as `int *x` and `{ int x; }`\n"

-- what is said of a token that isn't read, where the text goes on with these bytes from it on
unfoldable pub reason_note : Reason → (token before rest : List ℕ) → List ℕ
reason_note reasons.OutOfMemory token before rest = []
reason_note reasons.File token before rest = []
reason_note reasons.NotAscii token before rest = []
reason_note (reasons.Limit excess) token before rest = []
reason_note (reasons.Syntax fault expected) token before rest = fault_note fault expected token before rest
reason_note (reasons.Unsupported unread expected) token before rest = why unread expected token before rest

-- it is the token that is refused
unfoldable pub is_at_token : Reason → Bool
is_at_token (reasons.Syntax fault expected) = true
is_at_token (reasons.Unsupported unread expected) = true
is_at_token reason = false

-- a token stands in the initialization block, where this is expected
unfoldable pub is_in_block : Expected → Bool
is_in_block places.Variable = true
is_in_block places.ItemEnd = true
is_in_block places.Value = true
is_in_block expected = false

-- what is expected where a token is refused is expected in the initialization block
unfoldable pub is_of_block : Reason → Bool
is_of_block (reasons.Syntax fault expected) = is_in_block expected
is_of_block (reasons.Unsupported unread expected) = is_in_block expected
is_of_block reason = false

-- the last line of what is said of a text that is refused where this token stands, behind this word in its line; the
-- text goes on with these bytes from the token on
unfoldable pub note_of : Reason → (token before rest : List ℕ) → List ℕ
note_of reason token before rest =
    if is_of_block reason && ends_structure rest then structure_note
    else if is_at_token reason && is_part (behind_token token rest) then part_note (behind_token token rest)
    else reason_note reason token before rest
