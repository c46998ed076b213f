-- What would stand where a text is refused, in words.
use Rattle.std.specs.Prelude.{ℕ, List, [], ◌∷◌, codes}
use Rattle.std.specs.List.{concat}
use Rattle.litmus_lex.specs.declared.reason.Expected.{Expected}
use Rattle.litmus_lex.specs.declared.reason.Expected.TheVariants as places
use Rattle.litmus_lex.specs.Sign.{sign_bytes}

-- what would stand there, where that is no sign alone
abbrev pub place_words : Expected → List ℕ
place_words places.Head = codes "`C`, the test's name, and behind it the `{` of the initialization block"
place_words places.ParameterEnd = codes "`,` or `)`"
place_words places.ItemEnd = codes "`;` or `}`"
place_words places.DeclarationEnd = codes "`,`, `;`, or `=` behind the first register"
place_words places.Number = codes "a number"
place_words places.Zero = codes "`0`"
place_words places.Value = codes "a number, or `ATOMIC_INIT` of one"
place_words places.Type = codes "a type: char, short, int, long, atomic_t or spinlock_t"
place_words places.Variable = codes "the name of a variable"
place_words places.IntegerVariable = codes "a variable of the process, of type char, short, int or long"
place_words places.AtomicVariable = codes "a variable of the process, of type atomic_t"
place_words places.LockVariable = codes "a variable of the process, of type spinlock_t"
place_words places.MemoryVariable = codes "a variable that is no lock"
place_words places.Process = codes "a process: `P0` first, then `P1`, and so on"
place_words places.Register = codes "a register"
place_words places.Counter = codes "the register that the loop counts with"
place_words places.Statement = codes "a statement: a declaration, a store, a load, if, for, or one of the calls in `check --calls`; or `}`"
place_words places.Simple = codes "a load, or an assignment"
place_words places.Load = codes "a load"
place_words places.Expression = codes "an expression"
place_words places.Pure = codes "an expression without a load"
place_words places.Operator = codes "an operator, or what ends the expression"
place_words places.Condition = codes "the next process, or `exists`, `~exists` or `forall`"
place_words places.Exists = codes "`exists`"
place_words places.Proposition = codes "a proposition"
place_words places.Task = codes "the number of a process"
place_words places.End = codes "the end of the text"
place_words (places.Sign sign) = []

-- the line that says what would stand there
abbrev pub expected_text : Expected → List ℕ
expected_text (places.Sign sign) = concat (codes "expected `" ∷ sign_bytes sign ∷ codes "`\n" ∷ [])
expected_text expected = concat (codes "expected " ∷ place_words expected ∷ codes "\n" ∷ [])
