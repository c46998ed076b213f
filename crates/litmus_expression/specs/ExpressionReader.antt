-- Reading expressions: what the parser's functions answer, apart from which refusal it is. Each part is given
-- by how it calls the parts; the parts that it calls are a record of readers. With fuel for a call less each
-- time that is a recursion, and where the fuel suffices, it doesn't count.
use Rattle.std.specs.Prelude.{ℕ, zero, suc, List, [], ◌∷◌, ◌+◌, ◌-◌, ◌*◌, ◌==◌, Option, Some, None, Bool, true, false, length, if◌then◌else◌}
use Rattle.litmus_lex.specs.declared.sign.Sign.{Sign}
use Rattle.litmus_lex.specs.declared.sign.Sign.TheVariants.{OpenParen, CloseParen, Comma, Star, Plus, Minus, Tilde, Not, Ampersand, Caret, Bar, Less, Greater, LessEqual, GreaterEqual, Equal, NotEqual}
use Rattle.litmus_lex.specs.declared.sign.Sign.TheVariants.{Slash, Percent, ShiftLeft, ShiftRight, LogicalAnd, LogicalOr, Question}
use Rattle.litmus_syntax.specs.declared.expression.UnaryOperator.{UnaryOperator}
use Rattle.litmus_syntax.specs.declared.expression.UnaryOperator.TheVariants as unaries
use Rattle.litmus_syntax.specs.declared.expression.BinaryOperator.{BinaryOperator}
use Rattle.litmus_syntax.specs.declared.expression.BinaryOperator.TheVariants as binaries
use Rattle.litmus_syntax.specs.declared.expression.ReadForm.{ReadForm}
use Rattle.litmus_syntax.specs.declared.expression.ReadForm.TheVariants as reads
use Rattle.litmus_syntax.specs.Tree as tree
use Rattle.litmus_lex.specs.declared.words.LoadWord.{LoadWord}
use Rattle.litmus_lex.specs.declared.words.LoadWord.TheVariants as loads
use Rattle.litmus_lex.specs.declared.words.Word.{Word}
use Rattle.litmus_lex.specs.declared.words.Word.TheVariants as words
use Rattle.litmus_lex.specs.Front.{◌>>=◌, begins_call, first, is_sign, others, take_sign, word_at}
use Rattle.litmus_lex.specs.Words.{Symbol, word, identifier, number, sign, fault}
use Rattle.litmus_expression.specs.declared.expression.Rest.{Rest}
use Rattle.litmus_expression.specs.declared.process.Takes.{Takes}
use Rattle.litmus_expression.specs.declared.process.Takes.TheVariants.{Integers, Atomics}
use Rattle.litmus_expression.specs.Expressions.{level_of}
use Rattle.litmus_syntax.specs.Limits.{nesting_limit, operators_limit}
use Rattle.litmus_expression.specs.NameReader.{count_access, take_register, take_variable}
use Rattle.litmus_expression.specs.States.{State, after, with_left}

-- the unary operator that a symbol is
abbrev pub unary_at : Symbol → Option UnaryOperator
unary_at (sign Minus) = Some unaries.Negate
unary_at (sign Not) = Some unaries.Not
unary_at (sign Tilde) = Some unaries.Complement
unary_at _ = None

-- the binary operator that a symbol is
abbrev pub binary_at : Symbol → Option BinaryOperator
binary_at (sign Star) = Some binaries.Multiply
binary_at (sign Plus) = Some binaries.Add
binary_at (sign Minus) = Some binaries.Subtract
binary_at (sign Less) = Some binaries.Less
binary_at (sign Greater) = Some binaries.Greater
binary_at (sign LessEqual) = Some binaries.LessOrEqual
binary_at (sign GreaterEqual) = Some binaries.GreaterOrEqual
binary_at (sign Equal) = Some binaries.Equal
binary_at (sign NotEqual) = Some binaries.NotEqual
binary_at (sign Ampersand) = Some binaries.BitAnd
binary_at (sign Caret) = Some binaries.BitXor
binary_at (sign Bar) = Some binaries.BitOr
binary_at _ = None

-- an operator, if it is of the level
abbrev pub of_level : ℕ → Option BinaryOperator → Option BinaryOperator
of_level level None = None
of_level level (Some op) = if level_of op == level then Some op else None

-- an operator of C that no expression takes
abbrev pub is_foreign : Symbol → Bool
is_foreign (sign Slash) = true
is_foreign (sign Percent) = true
is_foreign (sign ShiftLeft) = true
is_foreign (sign ShiftRight) = true
is_foreign (sign LogicalAnd) = true
is_foreign (sign LogicalOr) = true
is_foreign (sign Question) = true
is_foreign _ = false

-- an operator is counted
abbrev pub take_operator : Rest → Option Rest
take_operator rest = if rest.operators == 0 then None else Some (record rest { operators = rest.operators - 1 })

-- an operator before an operand
abbrev pub applied : UnaryOperator → tree.Expression → tree.Expression
applied op (tree.pure a) = tree.pure (tree.unary op a)
applied op (tree.loading a) = tree.loading (tree.unary_of op a)

-- an operator between two operands, of which one at most has a load
abbrev pub combined : tree.Expression → BinaryOperator → tree.Expression → Option tree.Expression
combined (tree.pure a) op (tree.pure b) = Some (tree.pure (tree.binary op a b))
combined (tree.pure a) op (tree.loading b) = Some (tree.loading (tree.right op a b))
combined (tree.loading a) op (tree.pure b) = Some (tree.loading (tree.left op a b))
combined (tree.loading a) op (tree.loading b) = None

-- how an operand begins
pub data Beginning : Type 0 where
  a_number : ℕ → Beginning
  parenthesis : Beginning
  a_load : Beginning
  a_name : Beginning
  nothing : Beginning

abbrev pub beginning_of_word : Word → Beginning
beginning_of_word words.DataRace = a_load
beginning_of_word (words.Load l) = a_load
beginning_of_word _ = nothing

abbrev pub beginning_of : Symbol → Beginning
beginning_of (word w) = beginning_of_word w
beginning_of (identifier name) = a_name
beginning_of (number n) = a_number n
beginning_of (sign OpenParen) = parenthesis
beginning_of (sign Star) = a_load
beginning_of (sign _) = nothing
beginning_of fault = nothing

abbrev pub is_a_load : Beginning → Bool
is_a_load a_load = true
is_a_load _ = false

-- how a load without `data_race` begins
pub data Loader : Type 0 where
  starred : Loader
  called : LoadWord → Loader
  nothing_loads : Loader

abbrev pub loader_of_word : Word → Loader
loader_of_word (words.Load l) = called l
loader_of_word _ = nothing_loads

abbrev pub loader_of : Symbol → Loader
loader_of (word w) = loader_of_word w
loader_of (identifier name) = nothing_loads
loader_of (number n) = nothing_loads
loader_of (sign Star) = starred
loader_of (sign _) = nothing_loads
loader_of fault = nothing_loads

-- the word of a load, if it begins with one
abbrev pub called_word : Loader → Option LoadWord
called_word starred = None
called_word (called l) = Some l
called_word nothing_loads = None

abbrev pub is_race : Option Word → Bool
is_race (Some words.DataRace) = true
is_race _ = false

abbrev pub is_data_race : Symbol → Bool
is_data_race symbol = is_race (word_at symbol)

-- each `data_race (` is taken, and how many they are with those before
unfoldable pub opened : ℕ → List Symbol → Option (ℕ × List Symbol)
opened count [] = Some (count, [])
opened count (a ∷ []) = if is_data_race a then None else Some (count, a ∷ [])
opened count (a ∷ b ∷ symbols) =
    if is_data_race a
    then (if is_sign OpenParen b then opened (count + 1) symbols else None)
    else Some (count, a ∷ b ∷ symbols)

-- so many `)` are taken
unfoldable pub closed : ℕ → List Symbol → Option (List Symbol)
closed zero symbols = Some symbols
closed (suc count) symbols = take_sign CloseParen symbols >>= λ rest. closed count rest

-- REG as an operand
unfoldable pub register_operand : State → Option (tree.Expression × State)
register_operand s =
    if begins_call s.symbols
    then None
    else (take_register s >>= λ x. Some (tree.pure (tree.register x.0), x.1))

-- a number or REG as an operand
abbrev pub plain_with : State → Beginning → Option (tree.Expression × State)
plain_with s (a_number n) = Some (tree.pure (tree.number n), after s)
plain_with s parenthesis = None
plain_with s a_load = None
plain_with s a_name = register_operand s
plain_with s nothing = None

unfoldable pub plain_operand : State → Option (tree.Expression × State)
plain_operand s = plain_with s (beginning_of (first s.symbols))

-- the `*` before a variable is taken
unfoldable pub take_star : State → Option State
take_star s = take_sign Star s.symbols >>= λ symbols. Some (with_left s symbols)

-- which variables a load of a form takes
abbrev pub read_by : ReadForm → Takes
read_by reads.Plain = Integers
read_by reads.Once = Integers
read_by reads.Acquire = Integers
read_by reads.Atomic = Atomics

-- VAR of a load
unfoldable pub read_of : ReadForm → State → Option (tree.Fetch × State)
read_of form s = take_variable (read_by form) s >>= λ x. Some (tree.read form x.0, x.1)

-- `* VAR` as a load
abbrev pub starred_with : State → Loader → Option (tree.Fetch × State)
starred_with s starred = read_of reads.Plain (after s)
starred_with s (called w) = None
starred_with s nothing_loads = None

unfoldable pub starred_read : State → Option (tree.Fetch × State)
starred_read s = starred_with s (loader_of (first s.symbols))

-- a load's access is counted, each `data_race (` before it is taken, and how many they are
unfoldable pub open_load : (turns : ℕ) → State → Option (ℕ × State)
open_load turns s =
    count_access turns s >>= λ counted. opened 0 counted.symbols >>= λ races. Some (races.0, with_left counted races.1)

-- what an expression may have before anything of it is read
abbrev pub all_of_it : Bool → Rest
all_of_it may_load = record { operators = operators_limit; may_load = may_load }

-- the parts: in loops that repeat so often, and inside so many blocks and parentheses
pub record Readers : Type 0 where
  pub level : (turns depth level : ℕ) → State → Rest → Option (tree.Expression × State × Rest)
  pub more : (turns depth level : ℕ) → tree.Expression → State → Rest → Option (tree.Expression × State × Rest)
  pub prefixed : (turns depth : ℕ) → State → Rest → Option (tree.Expression × State × Rest)
  pub operand : (turns depth : ℕ) → State → Rest → Option (tree.Expression × State × Rest)
  pub loading : (turns depth : ℕ) → State → Rest → Option (tree.Expression × State × Rest)
  pub load : (turns depth : ℕ) → State → Option (tree.Load × State)
  pub fetch : (turns depth : ℕ) → State → Option (tree.Fetch × State)
  pub arguments : (turns depth : ℕ) → LoadWord → State → Option (tree.Fetch × State)
  pub pure : (turns depth : ℕ) → State → Option (tree.Pure × State)

abbrev pub level_by : Readers → (turns depth level : ℕ) → State → Rest → Option (tree.Expression × State × Rest)
level_by R turns depth level s rest =
    if level == 0
    then R.prefixed turns depth s rest
    else (R.level turns depth (level - 1) s rest >>= λ x. R.more turns depth level x.0 x.1 x.2)

abbrev pub more_with : Readers → (turns depth level : ℕ) → tree.Expression → State → Rest → Option BinaryOperator → Option (tree.Expression × State × Rest)
more_with R turns depth level left s rest None = Some (left, s, rest)
more_with R turns depth level left s rest (Some op) =
    take_operator rest >>= λ fewer. R.level turns depth (level - 1) (after s) fewer >>= λ x. combined left op x.0 >>= λ both. R.more turns depth level both x.1 x.2

abbrev pub more_by : Readers → (turns depth level : ℕ) → tree.Expression → State → Rest → Option (tree.Expression × State × Rest)
more_by R turns depth level left s rest = more_with R turns depth level left s rest (of_level level (binary_at (first s.symbols)))

abbrev pub prefixed_with : Readers → (turns depth : ℕ) → State → Rest → Option UnaryOperator → Option (tree.Expression × State × Rest)
prefixed_with R turns depth s rest None =
    R.operand turns depth s rest >>= λ x. if is_foreign (first x.1.symbols) then None else Some x
prefixed_with R turns depth s rest (Some op) =
    take_operator rest >>= λ fewer. R.prefixed turns depth (after s) fewer >>= λ x. Some (applied op x.0, x.1, x.2)

abbrev pub prefixed_by : Readers → (turns depth : ℕ) → State → Rest → Option (tree.Expression × State × Rest)
prefixed_by R turns depth s rest = prefixed_with R turns depth s rest (unary_at (first s.symbols))

abbrev pub operand_with : Readers → (turns depth : ℕ) → State → Rest → Beginning → Option (tree.Expression × State × Rest)
operand_with R turns depth s rest (a_number n) = Some (tree.pure (tree.number n), after s, rest)
operand_with R turns depth s rest parenthesis =
    if depth == nesting_limit
    then None
    else (R.level turns (depth + 1) 7 (after s) rest >>= λ x. take_sign CloseParen x.1.symbols >>= λ symbols. Some (x.0, with_left x.1 symbols, x.2))
operand_with R turns depth s rest a_load = R.loading turns depth s rest
operand_with R turns depth s rest a_name = register_operand s >>= λ x. Some (x.0, x.1, rest)
operand_with R turns depth s rest nothing = None

abbrev pub operand_by : Readers → (turns depth : ℕ) → State → Rest → Option (tree.Expression × State × Rest)
operand_by R turns depth s rest = operand_with R turns depth s rest (beginning_of (first s.symbols))

abbrev pub loading_by : Readers → (turns depth : ℕ) → State → Rest → Option (tree.Expression × State × Rest)
loading_by R turns depth s rest =
    if rest.may_load
    then (R.load turns depth s >>= λ x. Some (tree.loading (tree.load x.0), x.1, record rest { may_load = false }))
    else None

abbrev pub load_by : Readers → (turns depth : ℕ) → State → Option (tree.Load × State)
load_by R turns depth s =
    count_access turns s >>= λ counted. opened 0 counted.symbols >>= λ races. R.fetch turns depth (with_left counted races.1) >>= λ x.
    closed races.0 x.1.symbols >>= λ symbols. Some (record { data_races = races.0; fetch = x.0 }, with_left x.1 symbols)

abbrev pub fetch_with : Readers → (turns depth : ℕ) → State → Loader → Option (tree.Fetch × State)
fetch_with R turns depth s starred = read_of reads.Plain (after s)
fetch_with R turns depth s (called w) =
    take_sign OpenParen (others s.symbols) >>= λ symbols. R.arguments turns depth w (with_left s symbols) >>= λ x.
    take_sign CloseParen x.1.symbols >>= λ symbols. Some (x.0, with_left x.1 symbols)
fetch_with R turns depth s nothing_loads = None

abbrev pub fetch_by : Readers → (turns depth : ℕ) → State → Option (tree.Fetch × State)
fetch_by R turns depth s = fetch_with R turns depth s (loader_of (first s.symbols))

abbrev pub read_with : ReadForm → State → Option (tree.Fetch × State)
read_with reads.Plain s = None
read_with reads.Once s = take_star s >>= λ starred. read_of reads.Once starred
read_with reads.Acquire s = read_of reads.Acquire s
read_with reads.Atomic s = read_of reads.Atomic s

abbrev pub arguments_by : Readers → (turns depth : ℕ) → LoadWord → State → Option (tree.Fetch × State)
arguments_by R turns depth (loads.Read form) s = read_with form s
arguments_by R turns depth loads.Exchange s =
    take_variable Integers s >>= λ v. take_sign Comma v.1.symbols >>= λ symbols. R.pure turns depth (with_left v.1 symbols) >>= λ x.
    Some (tree.exchange v.0 x.0, x.1)
arguments_by R turns depth loads.CompareExchange s =
    take_variable Integers s >>= λ v. take_sign Comma v.1.symbols >>= λ symbols. R.pure turns depth (with_left v.1 symbols) >>= λ x.
    take_sign Comma x.1.symbols >>= λ symbols. R.pure turns depth (with_left x.1 symbols) >>= λ y. Some (tree.compare_exchange v.0 x.0 y.0, y.1)

abbrev pub pure_of : tree.Expression × State × Rest → Option (tree.Pure × State)
pure_of (tree.pure a, s, rest) = Some (a, s)
pure_of (tree.loading a, s, rest) = None

abbrev pub pure_by : Readers → (turns depth : ℕ) → State → Option (tree.Pure × State)
pure_by R turns depth s = R.level turns depth 7 s (all_of_it false) >>= λ x. pure_of x

-- the readers that call these
abbrev pub by : Readers → Readers
by R = record {
  level = level_by R;
  more = more_by R;
  prefixed = prefixed_by R;
  operand = operand_by R;
  loading = loading_by R;
  load = load_by R;
  fetch = fetch_by R;
  arguments = arguments_by R;
  pure = pure_by R;
}

-- the readers that read nothing
abbrev pub idle : Readers
idle = record {
  level = λ turns depth level s rest. None;
  more = λ turns depth level left s rest. None;
  prefixed = λ turns depth s rest. None;
  operand = λ turns depth s rest. None;
  loading = λ turns depth s rest. None;
  load = λ turns depth s. None;
  fetch = λ turns depth s. None;
  arguments = λ turns depth w s. None;
  pure = λ turns depth s. None;
}

-- the readers whose calls go so deep
unfoldable pub deep : ℕ → Readers
deep zero = idle
deep (suc fuel) = by (deep fuel)

-- how deep calls go at most
abbrev pub depth_of : State → ℕ
depth_of s = 20 * length s.symbols + 20

unfoldable pub level_at : (turns depth level : ℕ) → State → Rest → Option (tree.Expression × State × Rest)
level_at turns depth level s rest = (deep (depth_of s + level)).level turns depth level s rest

unfoldable pub more_at : (turns depth level : ℕ) → tree.Expression → State → Rest → Option (tree.Expression × State × Rest)
more_at turns depth level left s rest = (deep (depth_of s + level)).more turns depth level left s rest

unfoldable pub prefixed_at : (turns depth : ℕ) → State → Rest → Option (tree.Expression × State × Rest)
prefixed_at turns depth s rest = (deep (depth_of s)).prefixed turns depth s rest

unfoldable pub operand_at : (turns depth : ℕ) → State → Rest → Option (tree.Expression × State × Rest)
operand_at turns depth s rest = (deep (depth_of s)).operand turns depth s rest

unfoldable pub loading_at : (turns depth : ℕ) → State → Rest → Option (tree.Expression × State × Rest)
loading_at turns depth s rest = (deep (depth_of s)).loading turns depth s rest

unfoldable pub load_at : (turns depth : ℕ) → State → Option (tree.Load × State)
load_at turns depth s = (deep (depth_of s)).load turns depth s

unfoldable pub fetch_at : (turns depth : ℕ) → State → Option (tree.Fetch × State)
fetch_at turns depth s = (deep (depth_of s)).fetch turns depth s

unfoldable pub arguments_at : (turns depth : ℕ) → LoadWord → State → Option (tree.Fetch × State)
arguments_at turns depth w s = (deep (depth_of s)).arguments turns depth w s

unfoldable pub pure_at : (turns depth : ℕ) → State → Option (tree.Pure × State)
pure_at turns depth s = (deep (depth_of s)).pure turns depth s

-- the readers, each as deep as it has to be
abbrev pub readers : Readers
readers = record {
  level = level_at;
  more = more_at;
  prefixed = prefixed_at;
  operand = operand_at;
  loading = loading_at;
  load = load_at;
  fetch = fetch_at;
  arguments = arguments_at;
  pure = pure_at;
}

-- a whole expression
unfoldable pub expression_at : (turns depth : ℕ) → State → Option (tree.Expression × State)
expression_at turns depth s = level_at turns depth 7 s (all_of_it true) >>= λ x. Some (x.0, x.1)
