-- The symbols of the printed form of a program behind its name, and its nesting.
use Rattle.std.specs.Prelude.{◌-◌, ◌%◌, ◌^◌, ℕ, suc, ℤ, pos, negsuc, List, [], ◌∷◌, Some, None}
use Rattle.litmus_lex.specs.declared.sign.Sign.TheVariants.{OpenBrace, CloseBrace, Semicolon, Assign, Minus}
use Rattle.litmus_syntax.specs.declared.program.Contents.{Contents}
use Rattle.litmus_syntax.specs.declared.program.Contents.TheVariants as contents
use Rattle.litmus_syntax.specs.declared.program.Variable.{Variable}
use Rattle.litmus_syntax.specs.Tree.{Program, Task}
use Rattle.litmus_lex.specs.declared.words.VariableType.TheVariants.{Char, Short, Int, Long, Atomic, Lock}
use Rattle.litmus_lex.specs.declared.words.Word.TheVariants as words
use Rattle.litmus_lex.specs.Words.{Symbol, word, identifier, number, sign}
use Rattle.litmus_parse.specs.Mentions.{Mention, Said, item}
use Rattle.print_roundtrip.specs.printed_texts.PrintedCondition.{PropositionNests, proposition_symbols, quantifier_symbols}
use Rattle.print_roundtrip.specs.printed_texts.PrintedNesting.{BlockNests}
use Rattle.print_roundtrip.specs.printed_texts.PrintedProcess.{task_symbols, type_of}

-- a number with its sign
abbrev pub signed_symbols : ℤ → List Symbol → List Symbol
signed_symbols (pos n) rest = number n ∷ rest
signed_symbols (negsuc n) rest = sign Minus ∷ number (suc n) ∷ rest

-- what it is modulo 2^64
abbrev pub signed_value : ℤ → ℕ
signed_value (pos n) = n
signed_value (negsuc n) = (2 ^ 64 - suc n) % 2 ^ 64

-- the initial value of a variable; a lock has none
abbrev pub initial_symbols : Contents → List Symbol → List Symbol
initial_symbols (contents.Char n) rest = sign Assign ∷ signed_symbols n rest
initial_symbols (contents.Short n) rest = sign Assign ∷ signed_symbols n rest
initial_symbols (contents.Int n) rest = sign Assign ∷ signed_symbols n rest
initial_symbols (contents.Long n) rest = sign Assign ∷ signed_symbols n rest
initial_symbols (contents.Atomic n) rest = sign Assign ∷ signed_symbols n rest
initial_symbols contents.Lock rest = rest

-- what an item of the printed form says
abbrev pub said_of : Contents → Said
said_of (contents.Char n) = item (Some Char) (Some (signed_value n))
said_of (contents.Short n) = item (Some Short) (Some (signed_value n))
said_of (contents.Int n) = item (Some Int) (Some (signed_value n))
said_of (contents.Long n) = item (Some Long) (Some (signed_value n))
said_of (contents.Atomic n) = item (Some Atomic) (Some (signed_value n))
said_of contents.Lock = item (Some Lock) None

abbrev pub mention_of : Variable → Mention
mention_of v = record { name = v.name; said = said_of v.contents }

abbrev pub items_symbols : List Variable → List Symbol → List Symbol
items_symbols [] rest = rest
items_symbols (v ∷ more) rest =
    word (words.Type (type_of v.contents)) ∷ identifier v.name ∷ initial_symbols v.contents (sign Semicolon ∷ items_symbols more rest)

-- tasks, from a number on
abbrev pub tasks_symbols : List Variable → ℕ → List Task → List Symbol → List Symbol
tasks_symbols variables k [] rest = rest
tasks_symbols variables k (t ∷ more) rest = task_symbols variables k t (tasks_symbols variables (suc k) more rest)

abbrev pub program_symbols : Program → List Symbol
program_symbols p =
    sign OpenBrace ∷ items_symbols p.variables (sign CloseBrace ∷ tasks_symbols p.variables 0 p.tasks
    (quantifier_symbols p.quantifier (proposition_symbols p.variables p.tasks p.condition [])))

-- the printed form keeps the limit of nesting
abbrev pub TasksNest : List Task → Type 0
TasksNest [] = Unit {0}
TasksNest (t ∷ more) = BlockNests 1 t.body × TasksNest more

pub record Nests (p : Program) : Type 0 where
  pub tasks : TasksNest p.tasks
  pub condition : PropositionNests 0 p.condition
