-- Why a text is refused, in words.
use Rattle.std.specs.Prelude.{◌==◌, ◌-◌, ◌^◌, ℕ, List, [], ◌∷◌, codes, if◌then◌else◌, length}
use Rattle.std.specs.Fmt.{decimal}
use Rattle.std.specs.List.{concat}
use Rattle.litmus_syntax.specs.Limits.{check_limit, nesting_limit, operators_limit, registers_limit, repeats_limit, scoped_limit, statements_limit, tasks_limit, turns_limit, variables_limit}
use Rattle.program_table.specs.text_pieces.Shown.{shown}
use Rattle.litmus_lex.specs.declared.cursor.Excess.{Excess}
use Rattle.litmus_lex.specs.declared.cursor.Excess.TheVariants as excesses
use Rattle.litmus_lex.specs.declared.reason.Fault.{Fault}
use Rattle.litmus_lex.specs.declared.reason.Fault.TheVariants as faults
use Rattle.litmus_lex.specs.declared.reason.Unread.{Unread}
use Rattle.litmus_lex.specs.declared.reason.Unread.TheVariants as unreads

-- what is wrong with a token, behind its bytes
abbrev pub fault_words : Fault → List ℕ
fault_words faults.Token = codes "has no place here"
fault_words faults.Stray = codes "begins no token"
fault_words faults.Unclosed = codes "a comment doesn't end"
fault_words faults.End = codes "the text ends too early"
fault_words faults.Variable = codes "is a variable of the process, which only calls and `*` take"
fault_words faults.Unknown = codes "is no variable here"
fault_words faults.Twice = codes "is a parameter of the process already"
fault_words faults.Task = codes "is the number of no process"

-- why a token isn't read, behind its bytes
abbrev pub unread_words : Unread → List ℕ
unread_words unreads.Call = codes "is no call that is read here"
unread_words unreads.Pointer = codes "makes a pointer, and none is read"
unread_words unreads.Address = codes "takes an address, and none is read"
unread_words unreads.Operator = codes "is an operator of C that isn't read"
unread_words unreads.Load = codes "is one load too many: an expression has one at most, and a value that is written none"
unread_words unreads.Loop = codes "begins no loop that is read: that is `for (r = 0; r < 3; r++)`"
unread_words unreads.LoopForm = codes "leaves the one form of a loop that is read: `for (r = 0; r < 3; r++)`"
unread_words unreads.Section = codes "begins a part of the kernel's format that isn't read"
unread_words unreads.Type = codes "is a word of C that isn't read"
unread_words unreads.Label = codes "would give a register a value: each is 0 at first"
unread_words unreads.Name = codes "is a name, and an initial value is a number"
unread_words unreads.LockValue = codes "would give a lock a value, and it has none"
unread_words unreads.OtherType = codes "has a type that isn't read here"
unread_words unreads.TwoTypes = codes "has another type before"
unread_words unreads.Counter = codes "counts the loop round it, and isn't changed there"

-- how much there may be of what there is more of
abbrev pub limit_number : Excess → ℕ
limit_number excesses.Tasks = tasks_limit
limit_number excesses.Statements = statements_limit
limit_number excesses.Variables = variables_limit
limit_number excesses.Registers = registers_limit
limit_number excesses.Nesting = nesting_limit
limit_number excesses.Operators = operators_limit
limit_number excesses.Scoped = scoped_limit
limit_number excesses.Number = 2 ^ 64 - 1
limit_number excesses.Check = check_limit
limit_number excesses.Turns = turns_limit
limit_number excesses.Repeats = repeats_limit

-- and of what
abbrev pub limit_words : Excess → List ℕ
limit_words excesses.Tasks = codes " processes"
limit_words excesses.Statements = codes " statements in a process"
limit_words excesses.Variables = codes " variables"
limit_words excesses.Registers = codes " registers in a process"
limit_words excesses.Nesting = codes " open blocks and parentheses"
limit_words excesses.Operators = codes " operators in an expression or in the condition"
limit_words excesses.Scoped = codes " scoped assertions in force"
limit_words excesses.Number = codes " as a number"
limit_words excesses.Check = codes " bytes of a check"
limit_words excesses.Turns = codes " turns of loops in loops"
limit_words excesses.Repeats = codes " turns of loops over the statements of a process with an access"

-- there is more than so much of something
abbrev pub more_than : (limit : ℕ) → (words : List ℕ) → List ℕ
more_than limit words = concat (codes "more than " ∷ decimal limit ∷ words ∷ [])

-- which limit is passed
abbrev pub excess_words : Excess → List ℕ
excess_words excess = more_than (limit_number excess) (limit_words excess)

-- a token as a message begins with it: nothing at the end of a text
unfoldable pub quoted : List ℕ → List ℕ
quoted token = if length token == 0 then [] else concat (codes "`" ∷ shown token ∷ codes "` " ∷ [])

-- words behind a token
abbrev pub behind : (token words : List ℕ) → List ℕ
behind token words = concat (quoted token ∷ words ∷ [])
