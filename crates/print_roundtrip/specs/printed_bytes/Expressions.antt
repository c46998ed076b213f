-- Expressions whose names and numbers a text can have.
use Rattle.std.specs.Prelude.{◌^◌, ◌<◌, ℕ, List}
use Rattle.litmus_syntax.specs.declared.program.Variable.{Variable}
use Rattle.litmus_syntax.specs.PrintedForm.{name_at, variable_name}
use Rattle.litmus_syntax.specs.Tree.{Pure, Fetch, Loading, Load, Expression}
use Rattle.litmus_syntax.specs.Tree as tree
use Rattle.litmus_expression.specs.Names.{Names}
use Rattle.print_roundtrip.specs.printed_bytes.Reads.{IsIdentifier}

-- the number of a token
abbrev pub IsShort : ℕ → Type 0
IsShort n = n < 2 ^ 64

-- the variable of a number has a name that a text can have
abbrev pub IsNamed : List Variable → ℕ → Type 0
IsNamed variables x = IsIdentifier (variable_name variables x)

abbrev pub PureIsSpelled : Names → Pure → Type 0
PureIsSpelled registers (tree.number n) = IsShort n
PureIsSpelled registers (tree.register r) = IsIdentifier (name_at registers r)
PureIsSpelled registers (tree.unary op e) = PureIsSpelled registers e
PureIsSpelled registers (tree.binary op a b) = PureIsSpelled registers a × PureIsSpelled registers b

abbrev pub FetchIsSpelled : List Variable → Names → Fetch → Type 0
FetchIsSpelled variables registers (tree.read form x) = IsNamed variables x
FetchIsSpelled variables registers (tree.exchange x e) = IsNamed variables x × PureIsSpelled registers e
FetchIsSpelled variables registers (tree.compare_exchange x e f) =
    IsNamed variables x × (PureIsSpelled registers e × PureIsSpelled registers f)

abbrev pub LoadIsSpelled : List Variable → Names → Load → Type 0
LoadIsSpelled variables registers l = FetchIsSpelled variables registers l.fetch

abbrev pub LoadingIsSpelled : List Variable → Names → Loading → Type 0
LoadingIsSpelled variables registers (tree.load l) = LoadIsSpelled variables registers l
LoadingIsSpelled variables registers (tree.unary_of op e) = LoadingIsSpelled variables registers e
LoadingIsSpelled variables registers (tree.left op a b) = LoadingIsSpelled variables registers a × PureIsSpelled registers b
LoadingIsSpelled variables registers (tree.right op a b) = PureIsSpelled registers a × LoadingIsSpelled variables registers b

abbrev pub ExpressionIsSpelled : List Variable → Names → Expression → Type 0
ExpressionIsSpelled variables registers (tree.pure e) = PureIsSpelled registers e
ExpressionIsSpelled variables registers (tree.loading e) = LoadingIsSpelled variables registers e
