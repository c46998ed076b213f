-- The symbols of the printed form of a process, before what follows it.
use Rattle.std.specs.Prelude.{ℕ, Option, Some, None, List, [], ◌∷◌, slice_get}
use Rattle.litmus_lex.specs.declared.sign.Sign.TheVariants.{OpenBrace, CloseBrace, OpenParen, CloseParen, Semicolon, Comma, Star}
use Rattle.litmus_syntax.specs.declared.program.Contents.{Contents}
use Rattle.litmus_syntax.specs.declared.program.Contents.TheVariants as contents
use Rattle.litmus_syntax.specs.declared.program.Variable.{Variable}
use Rattle.litmus_syntax.specs.Tree.{Task}
use Rattle.litmus_lex.specs.declared.words.VariableType.{VariableType}
use Rattle.litmus_lex.specs.declared.words.VariableType.TheVariants.{Char, Short, Int, Long, Atomic, Lock}
use Rattle.litmus_lex.specs.declared.words.Word.TheVariants as words
use Rattle.litmus_lex.specs.Words.{Symbol, word, identifier, sign}
use Rattle.litmus_expression.specs.Names.{Names}
use Rattle.litmus_parse.specs.Headers.{process_name}
use Rattle.print_roundtrip.specs.printed_texts.PrintedSymbols.{block_symbols}

-- the type of contents
abbrev pub type_of : Contents → VariableType
type_of (contents.Char n) = Char
type_of (contents.Short n) = Short
type_of (contents.Int n) = Int
type_of (contents.Long n) = Long
type_of (contents.Atomic n) = Atomic
type_of contents.Lock = Lock

abbrev pub parameter_symbols : Option Variable → List Symbol → List Symbol
parameter_symbols None rest = rest
parameter_symbols (Some v) rest = word (words.Type (type_of v.contents)) ∷ sign Star ∷ identifier v.name ∷ rest

-- more parameters, each behind a `,`
abbrev pub continued_symbols : List Variable → List ℕ → List Symbol → List Symbol
continued_symbols variables [] rest = rest
continued_symbols variables (n ∷ more) rest = sign Comma ∷ parameter_symbols (slice_get variables n) (continued_symbols variables more rest)

abbrev pub listed_symbols : List Variable → List ℕ → List Symbol → List Symbol
listed_symbols variables [] rest = rest
listed_symbols variables (n ∷ more) rest = parameter_symbols (slice_get variables n) (continued_symbols variables more rest)

-- a line for each register
abbrev pub declarations_symbols : Names → List Symbol → List Symbol
declarations_symbols [] rest = rest
declarations_symbols (r ∷ more) rest = word (words.Type Int) ∷ identifier r ∷ sign Semicolon ∷ declarations_symbols more rest

-- the task of a number
abbrev pub task_symbols : List Variable → ℕ → Task → List Symbol → List Symbol
task_symbols variables k t rest =
    identifier (process_name k) ∷ sign OpenParen ∷ listed_symbols variables t.parameters (sign CloseParen ∷ sign OpenBrace
    ∷ declarations_symbols t.registers (block_symbols variables t.registers t.body (sign CloseBrace ∷ rest)))
