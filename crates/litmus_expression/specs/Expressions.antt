-- The grammar of expressions. Each relation is between the registers known before, the symbols, what they
-- spell at their front, the symbols left behind it, and the registers known after.
use Rattle.std.specs.Prelude.{◌≡◌, ◌+◌, ◌≤◌, ◌<◌, ℕ, suc, List, ◌∷◌}
use Rattle.litmus_lex.specs.declared.sign.Sign.{Sign}
use Rattle.litmus_lex.specs.declared.sign.Sign.TheVariants.{OpenParen, CloseParen, Comma, Star, Plus, Minus, Tilde, Not, Ampersand, Caret, Bar, Less, Greater, LessEqual, GreaterEqual, Equal, NotEqual}
use Rattle.litmus_syntax.specs.declared.expression.UnaryOperator.{UnaryOperator}
use Rattle.litmus_syntax.specs.declared.expression.UnaryOperator.TheVariants as unaries
use Rattle.litmus_syntax.specs.declared.expression.BinaryOperator.{BinaryOperator}
use Rattle.litmus_syntax.specs.declared.expression.BinaryOperator.TheVariants as binaries
use Rattle.litmus_syntax.specs.declared.expression.ReadForm.TheVariants as reads
use Rattle.litmus_syntax.specs.Tree as tree
use Rattle.litmus_lex.specs.declared.words.Word.TheVariants as words
use Rattle.litmus_lex.specs.declared.words.LoadWord.TheVariants as loads
use Rattle.litmus_lex.specs.Words.{Symbol, word, identifier, number, sign}
use Rattle.litmus_syntax.specs.Limits.{nesting_limit, operators, operators_limit, pure_operators}
use Rattle.litmus_expression.specs.Names.{Names, Parameter, IsVariable, IsInteger, IsAtomic, IsRegister}

-- the sign of a unary operator
abbrev pub sign_of_unary : UnaryOperator → Sign
sign_of_unary unaries.Negate = Minus
sign_of_unary unaries.Not = Not
sign_of_unary unaries.Complement = Tilde

-- the sign of a binary operator
abbrev pub sign_of_binary : BinaryOperator → Sign
sign_of_binary binaries.Multiply = Star
sign_of_binary binaries.Add = Plus
sign_of_binary binaries.Subtract = Minus
sign_of_binary binaries.Less = Less
sign_of_binary binaries.Greater = Greater
sign_of_binary binaries.LessOrEqual = LessEqual
sign_of_binary binaries.GreaterOrEqual = GreaterEqual
sign_of_binary binaries.Equal = Equal
sign_of_binary binaries.NotEqual = NotEqual
sign_of_binary binaries.BitAnd = Ampersand
sign_of_binary binaries.BitXor = Caret
sign_of_binary binaries.BitOr = Bar

-- binary operators by falling strength
abbrev pub level_of : BinaryOperator → ℕ
level_of binaries.Multiply = 1
level_of binaries.Add = 2
level_of binaries.Subtract = 2
level_of binaries.Less = 3
level_of binaries.Greater = 3
level_of binaries.LessOrEqual = 3
level_of binaries.GreaterOrEqual = 3
level_of binaries.Equal = 4
level_of binaries.NotEqual = 4
level_of binaries.BitAnd = 5
level_of binaries.BitXor = 6
level_of binaries.BitOr = 7

-- an operator before an operand
pub data Applied (op : UnaryOperator) : tree.Expression → tree.Expression → Type 0 where
  to_pure : {a : tree.Pure} → Applied op (tree.pure a) (tree.pure (tree.unary op a))
  to_loading : {a : tree.Loading} → Applied op (tree.loading a) (tree.loading (tree.unary_of op a))

-- an operator between two operands, of which one at most has a load
pub data Combined (op : BinaryOperator) : tree.Expression → tree.Expression → tree.Expression → Type 0 where
  none : {a b : tree.Pure} → Combined op (tree.pure a) (tree.pure b) (tree.pure (tree.binary op a b))
  left : {a : tree.Loading} {b : tree.Pure} → Combined op (tree.loading a) (tree.pure b) (tree.loading (tree.left op a b))
  right : {a : tree.Pure} {b : tree.Loading} → Combined op (tree.pure a) (tree.loading b) (tree.loading (tree.right op a b))

-- a load without data_race, and one inside data_race more
abbrev pub bare : tree.Fetch → tree.Load
bare fetch = record { data_races = 0; fetch = fetch }

abbrev pub enclosed_once : tree.Load → tree.Load
enclosed_once l = record { data_races = l.data_races + 1; fetch = l.fetch }

mutual
  -- an expression whose binary operators outside parentheses are of a level or stronger, where so many
  -- blocks and parentheses are open: from the left, and at level 0 an operand behind unary operators
  pub data Level (parameters : List Parameter) : (level depth : ℕ) (before : Names) → List Symbol → tree.Expression → List Symbol → (after : Names) → Type 0 where
    operand : {depth : ℕ} {before after : Names} {symbols rest : List Symbol} {e : tree.Expression}
        → Operand parameters depth before symbols e rest after
        → Level parameters 0 depth before symbols e rest after
    prefixed : {depth : ℕ} {before after : Names} {symbols rest : List Symbol} {e f : tree.Expression} (op : UnaryOperator)
        → Level parameters 0 depth before symbols e rest after
        → Applied op e f
        → Level parameters 0 depth before (sign (sign_of_unary op) ∷ symbols) f rest after
    stronger : {level depth : ℕ} {before after : Names} {symbols rest : List Symbol} {e : tree.Expression}
        → Level parameters level depth before symbols e rest after
        → Level parameters (suc level) depth before symbols e rest after
    infixed : {level depth : ℕ} {before between after : Names} {symbols middle rest : List Symbol} {a b c : tree.Expression} (op : BinaryOperator)
        → level_of op ≡ suc level
        → Level parameters (suc level) depth before symbols a (sign (sign_of_binary op) ∷ middle) between
        → Level parameters level depth between middle b rest after
        → Combined op a b c
        → Level parameters (suc level) depth before symbols c rest after

  -- a number, a register, a load, or an expression in parentheses
  pub data Operand (parameters : List Parameter) : (depth : ℕ) (before : Names) → List Symbol → tree.Expression → List Symbol → (after : Names) → Type 0 where
    a_number : {depth n : ℕ} {before : Names} {rest : List Symbol}
        → Operand parameters depth before (number n ∷ rest) (tree.pure (tree.number n)) rest before
    a_register : {depth register : ℕ} {before after : Names} {rest : List Symbol} {name : List ℕ}
        → IsRegister parameters before name register after
        → Operand parameters depth before (identifier name ∷ rest) (tree.pure (tree.register register)) rest after
    a_load : {depth : ℕ} {before after : Names} {symbols rest : List Symbol} {l : tree.Load}
        → Load parameters depth before symbols l rest after
        → Operand parameters depth before symbols (tree.loading (tree.load l)) rest after
    parenthesized : {depth : ℕ} {before after : Names} {symbols rest : List Symbol} {e : tree.Expression}
        → depth < nesting_limit
        → Level parameters 7 (suc depth) before symbols e (sign CloseParen ∷ rest) after
        → Operand parameters depth before (sign OpenParen ∷ symbols) e rest after

  -- a load
  pub data Load (parameters : List Parameter) : (depth : ℕ) (before : Names) → List Symbol → tree.Load → List Symbol → (after : Names) → Type 0 where
    plain : {depth variable : ℕ} {before : Names} {rest : List Symbol} {name : List ℕ}
        → IsVariable parameters IsInteger name variable
        → Load parameters depth before (sign Star ∷ identifier name ∷ rest) (bare (tree.read reads.Plain variable)) rest before
    once : {depth variable : ℕ} {before : Names} {rest : List Symbol} {name : List ℕ}
        → IsVariable parameters IsInteger name variable
        → Load parameters depth before (word (words.Load (loads.Read reads.Once)) ∷ sign OpenParen ∷ sign Star ∷ identifier name ∷ sign CloseParen ∷ rest)
        (bare (tree.read reads.Once variable)) rest before
    acquire : {depth variable : ℕ} {before : Names} {rest : List Symbol} {name : List ℕ}
        → IsVariable parameters IsInteger name variable
        → Load parameters depth before (word (words.Load (loads.Read reads.Acquire)) ∷ sign OpenParen ∷ identifier name ∷ sign CloseParen ∷ rest)
        (bare (tree.read reads.Acquire variable)) rest before
    atomic : {depth variable : ℕ} {before : Names} {rest : List Symbol} {name : List ℕ}
        → IsVariable parameters IsAtomic name variable
        → Load parameters depth before (word (words.Load (loads.Read reads.Atomic)) ∷ sign OpenParen ∷ identifier name ∷ sign CloseParen ∷ rest)
        (bare (tree.read reads.Atomic variable)) rest before
    exchange : {depth variable : ℕ} {before after : Names} {symbols rest : List Symbol} {name : List ℕ} {value : tree.Pure}
        → IsVariable parameters IsInteger name variable
        → Pure parameters depth before symbols value (sign CloseParen ∷ rest) after
        → Load parameters depth before (word (words.Load loads.Exchange) ∷ sign OpenParen ∷ identifier name ∷ sign Comma ∷ symbols)
        (bare (tree.exchange variable value)) rest after
    compare_exchange : {depth variable : ℕ} {before between after : Names} {symbols middle rest : List Symbol} {name : List ℕ} {expected replacement : tree.Pure}
        → IsVariable parameters IsInteger name variable
        → Pure parameters depth before symbols expected (sign Comma ∷ middle) between
        → Pure parameters depth between middle replacement (sign CloseParen ∷ rest) after
        → Load parameters depth before (word (words.Load loads.CompareExchange) ∷ sign OpenParen ∷ identifier name ∷ sign Comma ∷ symbols)
        (bare (tree.compare_exchange variable expected replacement)) rest after
    enclosed : {depth : ℕ} {before after : Names} {symbols rest : List Symbol} {l : tree.Load}
        → Load parameters depth before symbols l (sign CloseParen ∷ rest) after
        → Load parameters depth before (word words.DataRace ∷ sign OpenParen ∷ symbols) (enclosed_once l) rest after

  -- an expression without a load
  pub data Pure (parameters : List Parameter) : (depth : ℕ) (before : Names) → List Symbol → tree.Pure → List Symbol → (after : Names) → Type 0 where
    whole : {depth : ℕ} {before after : Names} {symbols rest : List Symbol} {value : tree.Pure}
        → Level parameters 7 depth before symbols (tree.pure value) rest after
        → pure_operators value ≤ operators_limit
        → Pure parameters depth before symbols value rest after

-- an expression
pub record Expression (parameters : List Parameter) (depth : ℕ) (before : Names) (symbols : List Symbol) (value : tree.Expression) (rest : List Symbol) (after : Names) : Type 0 where
  pub level : Level parameters 7 depth before symbols value rest after
  pub limit : operators value ≤ operators_limit
