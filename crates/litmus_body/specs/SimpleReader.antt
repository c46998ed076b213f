-- Reading simple statements: what the parser's functions answer, apart from which refusal it is.
use Rattle.std.specs.Prelude.{ℕ, List, Option, Some, None, if◌then◌else◌}
use Rattle.litmus_lex.specs.declared.sign.Sign.TheVariants.{OpenParen, CloseParen, Semicolon, Assign, AddAssign, Increment, Star}
use Rattle.litmus_syntax.specs.Tree as tree
use Rattle.litmus_syntax.specs.declared.expression.ReadForm.TheVariants as reads
use Rattle.litmus_syntax.specs.declared.statement.WriteForm.TheVariants as writes
use Rattle.litmus_lex.specs.declared.words.StoreWord.{StoreWord}
use Rattle.litmus_lex.specs.declared.words.Word.{Word}
use Rattle.litmus_lex.specs.declared.words.Word.TheVariants as words
use Rattle.litmus_lex.specs.Front.{◌>>=◌, begins_call, first, is_sign, others, take_sign}
use Rattle.litmus_lex.specs.Words.{Symbol, word, identifier, number, sign, fault}
use Rattle.litmus_expression.specs.declared.process.Takes.{Takes}
use Rattle.litmus_expression.specs.declared.process.Takes.TheVariants.{Integers}
use Rattle.litmus_expression.specs.Expressions.{bare}
use Rattle.litmus_expression.specs.ExpressionReader.{expression_at, load_at, pure_at, take_star}
use Rattle.litmus_expression.specs.NameReader.{count_access, take_variable}
use Rattle.litmus_expression.specs.PlaceReader.{take_changed}
use Rattle.litmus_expression.specs.Places.{NestingPlace}
use Rattle.litmus_expression.specs.States.{State, after, with_left}
use Rattle.litmus_body.specs.Statements.{Enclosable, load, assignment, raced}
use Rattle.litmus_body.specs.StoreReader.{store_at}

-- how a simple statement begins
pub data Start : Type 0 where
  star : Start
  parenthesis : Start
  a_store : StoreWord → Start
  a_load : Start
  a_name : Start
  nothing : Start

abbrev pub start_of_word : Word → Start
start_of_word words.DataRace = a_load
start_of_word (words.Load l) = a_load
start_of_word (words.Store w) = a_store w
start_of_word _ = nothing

abbrev pub start_of : Symbol → Start
start_of (word w) = start_of_word w
start_of (identifier name) = a_name
start_of (number n) = nothing
start_of (sign OpenParen) = parenthesis
start_of (sign Star) = star
start_of (sign _) = nothing
start_of fault = nothing

-- an assignment as a simple statement
abbrev pub assigned : Option (tree.Assignment × State) → Option (Enclosable × State)
assigned found = found >>= λ x. Some (assignment x.0, x.1)

-- REG = expr
unfoldable pub register_assignment : NestingPlace → State → Option (tree.Assignment × State)
register_assignment p s =
    if begins_call s.symbols
    then None
    else (take_changed p.counters s >>= λ r. take_sign Assign r.1.symbols >>= λ symbols.
    expression_at p.turns p.depth (with_left r.1 symbols) >>= λ x. Some (tree.to_register r.0 x.0, x.1))

-- what may stand behind `* VAR`: `= pure`, `+= pure`, or nothing
abbrev pub behind_variable : NestingPlace → (variable : ℕ) → State → Option (Enclosable × State)
behind_variable p variable s =
    if is_sign Assign (first s.symbols)
    then (pure_at p.turns p.depth (after s) >>= λ x. Some (assignment (tree.write writes.Plain variable x.0), x.1))
    else (if is_sign AddAssign (first s.symbols)
    then (pure_at p.turns p.depth (after s) >>= λ x. Some (assignment (tree.add variable x.0), x.1))
    else Some (load (bare (tree.read reads.Plain variable)), s))

-- `* VAR`
unfoldable pub starred_variable : Takes → State → Option (ℕ × State)
starred_variable takes s = take_star s >>= λ u. take_variable takes u

-- `* VAR = pure`, `* VAR += pure`, or the load `* VAR`
unfoldable pub starred : NestingPlace → State → Option (Enclosable × State)
starred p s =
    count_access p.turns s >>= λ counted. take_star counted >>= λ u. take_variable Integers u >>= λ v.
    behind_variable p v.0 v.1

-- `( * VAR ) ++`
unfoldable pub increment : NestingPlace → State → Option (Enclosable × State)
increment p s =
    count_access p.turns s >>= λ counted. take_sign OpenParen counted.symbols >>= λ opened.
    take_star (with_left counted opened) >>= λ u. take_variable Integers u >>= λ v.
    take_sign CloseParen v.1.symbols >>= λ closed. take_sign Increment closed >>= λ symbols.
    Some (assignment (tree.increment v.0), with_left v.1 symbols)

abbrev pub simple_with : NestingPlace → State → Start → Option (Enclosable × State)
simple_with p s star = starred p s
simple_with p s parenthesis = increment p s
simple_with p s (a_store w) = store_at p.turns p.depth w s >>= λ x. Some (assignment x.0, x.1)
simple_with p s a_load = load_at p.turns p.depth s >>= λ x. Some (load x.0, x.1)
simple_with p s a_name = register_assignment p s >>= λ x. Some (assignment x.0, x.1)
simple_with p s nothing = None

-- a simple statement, without what ends it
unfoldable pub simple_at : NestingPlace → State → Option (Enclosable × State)
simple_at p s = simple_with p s (start_of (first s.symbols))

-- `data_race ( simple ) ;` behind its word
unfoldable pub data_race_at : NestingPlace → State → Option (tree.Statement × State)
data_race_at p s =
    take_sign OpenParen (others s.symbols) >>= λ opened. simple_at p (with_left s opened) >>= λ x.
    take_sign CloseParen x.1.symbols >>= λ closed. take_sign Semicolon closed >>= λ symbols.
    Some (raced x.0, with_left x.1 symbols)
