-- Reading statements and blocks: what the parser's functions answer, apart from which refusal it is. As with
-- expressions, each part is given by how it calls the parts, which are a record of readers, with fuel.
use Rattle.std.specs.Prelude.{ℕ, zero, suc, List, [], ◌∷◌, ◌+◌, ◌*◌, ◌==◌, Option, Some, None, Bool, true, false, length, if◌then◌else◌}
use Rattle.litmus_lex.specs.declared.sign.Sign.TheVariants.{OpenBrace, CloseBrace, OpenParen, CloseParen, Semicolon, Comma, Assign, Increment, Star, Less}
use Rattle.litmus_lex.specs.declared.sign.Sign.{Sign}
use Rattle.litmus_syntax.specs.Tree as tree
use Rattle.litmus_syntax.specs.declared.statement.Call.{Call}
use Rattle.litmus_syntax.specs.declared.statement.Call.TheVariants as calls
use Rattle.litmus_lex.specs.declared.words.CallWord.{CallWord}
use Rattle.litmus_lex.specs.declared.words.VariableType.{VariableType}
use Rattle.litmus_lex.specs.declared.words.VariableType.TheVariants.{Char, Short, Int, Long, Atomic, Lock}
use Rattle.litmus_lex.specs.declared.words.Word.{Word}
use Rattle.litmus_lex.specs.declared.words.Word.TheVariants as words
use Rattle.litmus_lex.specs.Front.{◌>>=◌, begins_call, first, is_sign, others, take_number, take_sign, word_at}
use Rattle.litmus_lex.specs.Words.{Symbol, word, identifier, number, sign, fault}
use Rattle.litmus_expression.specs.ExpressionReader.{expression_at}
use Rattle.litmus_expression.specs.NameReader.{index_of, parameter_named, register_name}
use Rattle.litmus_expression.specs.Names.{Names, Parameter}
use Rattle.litmus_expression.specs.PlaceReader.{count_statement, take_changed}
use Rattle.litmus_expression.specs.Places.{NestingPlace, asserting, deeper, in_loop, repeats_of}
use Rattle.litmus_expression.specs.States.{State, after, with_left}
use Rattle.litmus_body.specs.declared.statement.Counted.{Counted}
use Rattle.litmus_body.specs.declared.statement.Counted.TheVariants as counteds
use Rattle.litmus_body.specs.declared.statement.LoopHeader.{LoopHeader}
use Rattle.litmus_body.specs.declared.statement.Opening.{Opening}
use Rattle.litmus_body.specs.declared.statement.Opening.TheVariants as openings
use Rattle.litmus_body.specs.CallReader.{call_at}
use Rattle.litmus_body.specs.SimpleReader.{data_race_at, simple_at}
use Rattle.litmus_body.specs.Statements.{alone, kept}

-- how a statement begins that begins with a type
abbrev pub opening_of_type : VariableType → Option Opening
opening_of_type Char = Some openings.Declaration
opening_of_type Short = Some openings.Declaration
opening_of_type Int = Some openings.Declaration
opening_of_type Long = Some openings.Declaration
opening_of_type Atomic = None
opening_of_type Lock = None

-- how a statement begins that begins with a word
abbrev pub opening_of_word : Word → Option Opening
opening_of_word (words.Type type) = opening_of_type type
opening_of_word words.If = Some (openings.Counted counteds.If)
opening_of_word words.For = Some (openings.Counted counteds.For)
opening_of_word words.DataRace = Some (openings.Counted counteds.DataRace)
opening_of_word (words.Call w) = Some (openings.Counted (counteds.Call w))
opening_of_word (words.Load w) = Some (openings.Counted counteds.Simple)
opening_of_word (words.Store w) = Some (openings.Counted counteds.Simple)
opening_of_word _ = None

-- how a statement begins that begins with a name: no parameter's does
abbrev pub opening_of_name : Option Parameter → Option Opening
opening_of_name (Some p) = None
opening_of_name None = Some (openings.Counted counteds.Simple)

abbrev pub opening_with : State → Symbol → Option Opening
opening_with s (word w) = opening_of_word w
opening_with s (identifier name) =
    if begins_call s.symbols then None else opening_of_name (parameter_named s.parameters name)
opening_with s (number n) = None
opening_with s (sign Semicolon) = Some openings.Empty
opening_with s (sign Star) = Some (openings.Counted counteds.Simple)
opening_with s (sign OpenParen) = Some (openings.Counted counteds.Simple)
opening_with s (sign _) = None
opening_with s fault = None

-- how the statement that is next begins
unfoldable pub opening_at : State → Option Opening
opening_at s = opening_with s (first s.symbols)

-- each `, REG` is taken
unfoldable pub more_declared : (counters : List Bool) → State → List Symbol → Option State
more_declared counters s [] = Some (with_left s [])
more_declared counters s (a ∷ []) = if is_sign Comma a then None else Some (with_left s (a ∷ []))
more_declared counters s (a ∷ b ∷ symbols) =
    if is_sign Comma a
    then (take_changed counters (with_left s (b ∷ symbols)) >>= λ r. more_declared counters r.1 symbols)
    else Some (with_left s (a ∷ b ∷ symbols))

-- `= expr ;` behind `stype REG`
abbrev pub declared_value : NestingPlace → (register : ℕ) → State → Option (Option tree.Statement × State)
declared_value p register s =
    count_statement s >>= λ counted. expression_at p.turns p.depth (after counted) >>= λ x.
    take_sign Semicolon x.1.symbols >>= λ symbols.
    Some (Some (tree.assign false (tree.to_register register x.0)), with_left x.1 symbols)

-- what may stand behind `stype REG`: `= expr ;`, or more registers and `;`
abbrev pub behind_register : NestingPlace → (register : ℕ) → State → Option (Option tree.Statement × State)
behind_register p register s =
    if is_sign Assign (first s.symbols)
    then declared_value p register s
    else (more_declared p.counters s s.symbols >>= λ u. take_sign Semicolon u.symbols >>= λ symbols.
    Some (None, with_left u symbols))

-- a declaration whose type is next
unfoldable pub declaration_at : NestingPlace → State → Option (Option tree.Statement × State)
declaration_at p s = take_changed p.counters (after s) >>= λ r. behind_register p r.0 r.1

-- a zero is taken
abbrev pub zero_of : Symbol → List Symbol → Option (List Symbol)
zero_of (number n) rest = if n == 0 then Some rest else None
zero_of _ rest = None

abbrev pub take_zero : List Symbol → Option (List Symbol)
take_zero symbols = zero_of (first symbols) (others symbols)

abbrev pub is_number : ℕ → Option ℕ → Bool
is_number register None = false
is_number register (Some found) = found == register

abbrev pub is_the_register : Names → (register : ℕ) → Option (List ℕ) → Bool
is_the_register names register None = false
is_the_register names register (Some name) = is_number register (index_of names name)

-- the register of a loop is taken once more
unfoldable pub take_again : (register : ℕ) → State → Option State
take_again register s = if is_the_register s.names register (register_name s) then Some (after s) else None

-- the register of a loop is taken once more, and the sign behind it
unfoldable pub again_before : Sign → (register : ℕ) → State → Option State
again_before g register s = take_again register s >>= λ u. take_sign g u.symbols >>= λ symbols. Some (with_left u symbols)

-- `= 0 ;`
abbrev pub take_start : List Symbol → Option (List Symbol)
take_start symbols = take_sign Assign symbols >>= λ given. take_zero given >>= λ behind_zero. take_sign Semicolon behind_zero

-- `( REG = 0 ;` of a loop
unfoldable pub counter_at : (counters : List Bool) → State → Option (ℕ × State)
counter_at counters s =
    take_sign OpenParen s.symbols >>= λ opened. take_changed counters (with_left s opened) >>= λ r.
    take_sign Assign r.1.symbols >>= λ given. take_zero given >>= λ behind_zero. take_sign Semicolon behind_zero >>= λ symbols.
    Some (r.0, with_left r.1 symbols)

-- `REG < NUMBER ;`
unfoldable pub bound_at : NestingPlace → (register : ℕ) → State → Option (LoopHeader × State)
bound_at p register s =
    take_again register s >>= λ u. take_sign Less u.symbols >>= λ below. take_number below >>= λ n.
    repeats_of p n.0 >>= λ repeats. take_sign Semicolon n.1 >>= λ symbols.
    Some (record { register = register; turns = n.0; repeats = repeats }, with_left u symbols)

-- `REG ++ )`
unfoldable pub step_at : (register : ℕ) → State → Option State
step_at register s =
    take_again register s >>= λ u. take_sign Increment u.symbols >>= λ stepped. take_sign CloseParen stepped >>= λ symbols.
    Some (with_left u symbols)

-- `( REG = 0 ; REG < NUMBER ; REG ++ )`
unfoldable pub header_at : NestingPlace → State → Option (LoopHeader × State)
header_at p s =
    counter_at p.counters s >>= λ r. bound_at p r.0 r.1 >>= λ h. step_at r.0 h.1 >>= λ u. Some (h.0, u)

-- a block with another behind it
abbrev pub joined : tree.Block → tree.Block → tree.Block
joined tree.empty later = later
joined (tree.first s rest) later = tree.first s (joined rest later)

-- a statement at the end of a block, if it is kept
abbrev pub added : tree.Block → Option tree.Statement → tree.Block
added before None = before
added before (Some s) = joined before (tree.first s tree.empty)

-- whether a call or a statement begins a scope
abbrev pub is_scoped : Call → Bool
is_scoped (calls.AssertWriter variable scoped) = scoped
is_scoped (calls.AssertAccess variable scoped) = scoped
is_scoped _ = false

abbrev pub begins_scope : tree.Statement → Bool
begins_scope (tree.call c) = is_scoped c
begins_scope _ = false

-- where the statement behind one stands in a block
abbrev pub behind : NestingPlace → Option tree.Statement → Option NestingPlace
behind p None = Some p
behind p (Some s) = if begins_scope s then asserting p else Some p

-- `if ( expr )`, whose word is next
unfoldable pub condition_at : NestingPlace → State → Option (tree.Expression × State)
condition_at p s =
    take_sign OpenParen (others s.symbols) >>= λ opened. expression_at p.turns p.depth (with_left s opened) >>= λ condition.
    take_sign CloseParen condition.1.symbols >>= λ symbols. Some (condition.0, with_left condition.1 symbols)

-- the parts, each at a place
pub record Readers : Type 0 where
  pub statement : NestingPlace → State → Option (Option tree.Statement × State)
  pub counted : NestingPlace → Counted → State → Option (tree.Statement × State)
  pub branch : NestingPlace → State → Option (tree.Statement × State)
  pub repetition : NestingPlace → State → Option (tree.Statement × State)
  pub body : NestingPlace → State → Option (tree.Block × State)
  pub block : NestingPlace → State → Option (tree.Block × State)
  pub more : NestingPlace → (before : tree.Block) → State → Option (tree.Block × State)

abbrev pub statement_with : Readers → NestingPlace → State → Opening → Option (Option tree.Statement × State)
statement_with R p s openings.Empty = Some (None, after s)
statement_with R p s openings.Declaration = declaration_at p s
statement_with R p s (openings.Counted c) =
    count_statement s >>= λ counted. R.counted p c counted >>= λ x. Some (Some x.0, x.1)

abbrev pub statement_by : Readers → NestingPlace → State → Option (Option tree.Statement × State)
statement_by R p s = opening_at s >>= λ o. statement_with R p s o

abbrev pub counted_by : Readers → NestingPlace → Counted → State → Option (tree.Statement × State)
counted_by R p counteds.If s = R.branch p s
counted_by R p counteds.For s = R.repetition p s
counted_by R p counteds.DataRace s = data_race_at p s
counted_by R p (counteds.Call w) s =
    call_at p.turns p.scopes w s >>= λ x. take_sign Semicolon x.1.symbols >>= λ symbols.
    Some (tree.call x.0, with_left x.1 symbols)
counted_by R p counteds.Simple s =
    simple_at p s >>= λ x. take_sign Semicolon x.1.symbols >>= λ symbols. Some (alone x.0, with_left x.1 symbols)

abbrev pub is_else_word : Option Word → Bool
is_else_word (Some words.Else) = true
is_else_word _ = false

abbrev pub is_else : Symbol → Bool
is_else symbol = is_else_word (word_at symbol)

-- what may stand behind the body of an `if`
abbrev pub behind_body : Readers → NestingPlace → tree.Expression → tree.Block → State → Option (tree.Statement × State)
behind_body R p condition body s =
    if is_else (first s.symbols)
    then (R.body p (after s) >>= λ x. Some (tree.if_else condition body x.0, x.1))
    else Some (tree.if_block condition body, s)

abbrev pub branch_by : Readers → NestingPlace → State → Option (tree.Statement × State)
branch_by R p s =
    take_sign OpenParen (others s.symbols) >>= λ opened. expression_at p.turns p.depth (with_left s opened) >>= λ condition.
    take_sign CloseParen condition.1.symbols >>= λ symbols. R.body p (with_left condition.1 symbols) >>= λ body.
    behind_body R p condition.0 body.0 body.1

abbrev pub repetition_by : Readers → NestingPlace → State → Option (tree.Statement × State)
repetition_by R p s =
    header_at p (after s) >>= λ h. R.body (in_loop p h.0.register h.0.repeats) h.1 >>= λ x.
    Some (tree.for_turns h.0.register h.0.turns x.0, x.1)

abbrev pub body_by : Readers → NestingPlace → State → Option (tree.Block × State)
body_by R p s =
    if is_sign OpenBrace (first s.symbols)
    then R.block p s
    else (opening_at s >>= λ _. deeper p >>= λ inside. R.statement inside s >>= λ x. Some (kept x.0 tree.empty, x.1))

abbrev pub block_by : Readers → NestingPlace → State → Option (tree.Block × State)
block_by R p s =
    if is_sign OpenBrace (first s.symbols)
    then (deeper p >>= λ inside. R.more inside tree.empty (after s))
    else None

abbrev pub more_by : Readers → NestingPlace → (before : tree.Block) → State → Option (tree.Block × State)
more_by R p before s =
    if is_sign CloseBrace (first s.symbols)
    then Some (before, after s)
    else (R.statement p s >>= λ x. behind p x.0 >>= λ later. R.more later (added before x.0) x.1)

-- the readers that call these
abbrev pub by : Readers → Readers
by R = record {
  statement = statement_by R;
  counted = counted_by R;
  branch = branch_by R;
  repetition = repetition_by R;
  body = body_by R;
  block = block_by R;
  more = more_by R;
}

-- the readers that read nothing
abbrev pub idle : Readers
idle = record {
  statement = λ p s. None;
  counted = λ p c s. None;
  branch = λ p s. None;
  repetition = λ p s. None;
  body = λ p s. None;
  block = λ p s. None;
  more = λ p before s. None;
}

-- the readers whose calls go so deep
unfoldable pub deep : ℕ → Readers
deep zero = idle
deep (suc fuel) = by (deep fuel)

-- how deep calls go at most
abbrev pub depth_of : State → ℕ
depth_of s = 10 * length s.symbols + 10

unfoldable pub statement_at : NestingPlace → State → Option (Option tree.Statement × State)
statement_at p s = (deep (depth_of s)).statement p s

unfoldable pub counted_at : NestingPlace → Counted → State → Option (tree.Statement × State)
counted_at p c s = (deep (depth_of s)).counted p c s

unfoldable pub branch_at : NestingPlace → State → Option (tree.Statement × State)
branch_at p s = (deep (depth_of s)).branch p s

unfoldable pub repetition_at : NestingPlace → State → Option (tree.Statement × State)
repetition_at p s = (deep (depth_of s)).repetition p s

unfoldable pub body_at : NestingPlace → State → Option (tree.Block × State)
body_at p s = (deep (depth_of s)).body p s

unfoldable pub block_at : NestingPlace → State → Option (tree.Block × State)
block_at p s = (deep (depth_of s)).block p s

unfoldable pub more_at : NestingPlace → (before : tree.Block) → State → Option (tree.Block × State)
more_at p before s = (deep (depth_of s)).more p before s

-- the readers, each as deep as it has to be
abbrev pub readers : Readers
readers = record {
  statement = statement_at;
  counted = counted_at;
  branch = branch_at;
  repetition = repetition_at;
  body = body_at;
  block = block_at;
  more = more_at;
}
