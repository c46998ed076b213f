-- Programs whose names and numbers a text can have.
use Rattle.std.specs.Prelude.{◌<◌, ℕ, suc, ℤ, pos, negsuc, Option, Some, None, List, [], ◌∷◌, length, slice_get}
use Rattle.litmus_lex.specs.declared.bytes.Class.TheVariants.{Graphic}
use Rattle.litmus_lex.specs.Bytes.{IsRun}
use Rattle.litmus_syntax.specs.declared.program.Contents.{Contents}
use Rattle.litmus_syntax.specs.declared.program.Contents.TheVariants as contents
use Rattle.litmus_syntax.specs.declared.program.Variable.{Variable}
use Rattle.litmus_syntax.specs.PrintedForm.{name_at, registers_of}
use Rattle.litmus_syntax.specs.Tree.{Program, Proposition, Task}
use Rattle.litmus_syntax.specs.Tree as tree
use Rattle.litmus_expression.specs.Names.{Names}
use Rattle.print_roundtrip.specs.printed_bytes.Reads.{IsIdentifier}
use Rattle.print_roundtrip.specs.printed_bytes.Expressions.{IsNamed, IsShort}
use Rattle.print_roundtrip.specs.printed_bytes.Statements.{BlockIsSpelled}

abbrev pub PropositionIsSpelled : List Variable → List Task → Proposition → Type 0
PropositionIsSpelled variables tasks tree.always = Unit {0}
PropositionIsSpelled variables tasks tree.never = Unit {0}
PropositionIsSpelled variables tasks (tree.register_is k r n) =
    IsShort k × (IsIdentifier (name_at (registers_of tasks k) r) × IsShort n)
PropositionIsSpelled variables tasks (tree.variable_is x n) = IsNamed variables x × IsShort n
PropositionIsSpelled variables tasks (tree.negation p) = PropositionIsSpelled variables tasks p
PropositionIsSpelled variables tasks (tree.both p q) = PropositionIsSpelled variables tasks p × PropositionIsSpelled variables tasks q
PropositionIsSpelled variables tasks (tree.either p q) = PropositionIsSpelled variables tasks p × PropositionIsSpelled variables tasks q

-- a parameter is of a variable that is there, and has its name
abbrev pub ParameterIsSpelled : Option Variable → Type 0
ParameterIsSpelled None = ⊥
ParameterIsSpelled (Some v) = IsIdentifier v.name

abbrev pub ParametersAreSpelled : List Variable → List ℕ → Type 0
ParametersAreSpelled variables [] = Unit {0}
ParametersAreSpelled variables (n ∷ more) = ParameterIsSpelled (slice_get variables n) × ParametersAreSpelled variables more

abbrev pub NamesAreSpelled : Names → Type 0
NamesAreSpelled [] = Unit {0}
NamesAreSpelled (name ∷ more) = IsIdentifier name × NamesAreSpelled more

-- a number with its sign
abbrev pub SignedIsShort : ℤ → Type 0
SignedIsShort (pos n) = IsShort n
SignedIsShort (negsuc n) = IsShort (suc n)

abbrev pub ContentsAreSpelled : Contents → Type 0
ContentsAreSpelled (contents.Char n) = SignedIsShort n
ContentsAreSpelled (contents.Short n) = SignedIsShort n
ContentsAreSpelled (contents.Int n) = SignedIsShort n
ContentsAreSpelled (contents.Long n) = SignedIsShort n
ContentsAreSpelled (contents.Atomic n) = SignedIsShort n
ContentsAreSpelled contents.Lock = Unit {0}

abbrev pub VariablesAreSpelled : List Variable → Type 0
VariablesAreSpelled [] = Unit {0}
VariablesAreSpelled (v ∷ more) = IsIdentifier v.name × (ContentsAreSpelled v.contents × VariablesAreSpelled more)

-- tasks, from a number on
abbrev pub TasksAreSpelled : List Variable → ℕ → List Task → Type 0
TasksAreSpelled variables k [] = Unit {0}
TasksAreSpelled variables k (t ∷ more) =
    (IsShort k × (ParametersAreSpelled variables t.parameters × (NamesAreSpelled t.registers
    × BlockIsSpelled variables t.registers t.body))) × TasksAreSpelled variables (suc k) more

-- the name of a test
abbrev pub IsTestName : List ℕ → Type 0
IsTestName name = (0 < length name) × IsRun Graphic name []

pub record IsSpelled (p : Program) : Type 0 where
  pub name : IsTestName p.name
  pub variables : VariablesAreSpelled p.variables
  pub tasks : TasksAreSpelled p.variables 0 p.tasks
  pub condition : PropositionIsSpelled p.variables p.tasks p.condition
