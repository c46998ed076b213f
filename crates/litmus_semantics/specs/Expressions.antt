-- The values of expressions: numbers of 64 bits, over the registers of a task.
use Rattle.std.specs.Prelude.{◌+◌, ◌-◌, ◌*◌, ◌%◌, ◌^◌, ◌==◌, ℕ, ℤ, List, Bool, not, bit_and, bit_or, bit_xor, int_lt, slice_index, if◌then◌else◌}
use Rattle.std.specs.Int.{cast_signed, w64}
use Rattle.litmus_syntax.specs.Tree.{Pure, Loading, Expression}
use Rattle.litmus_syntax.specs.Tree as tree
use Rattle.litmus_syntax.specs.declared.expression.UnaryOperator.{UnaryOperator}
use Rattle.litmus_syntax.specs.declared.expression.UnaryOperator.TheVariants.{Negate, Not, Complement}
use Rattle.litmus_syntax.specs.declared.expression.BinaryOperator.{BinaryOperator}
use Rattle.litmus_syntax.specs.declared.expression.BinaryOperator.TheVariants.{Multiply, Add, Subtract, Less, Greater, LessOrEqual, GreaterOrEqual, Equal, NotEqual, BitAnd, BitXor, BitOr}

-- 1 where it holds, 0 where it doesn't
abbrev pub truth : Bool → ℕ
truth holds = if holds then 1 else 0

-- the number that 64 bits are with a sign, in two's complement
abbrev pub signed : ℕ → ℤ
signed n = cast_signed w64 n

-- the first is less, as signed numbers
abbrev pub is_less : ℕ → ℕ → Bool
is_less a b = int_lt (signed a) (signed b)

abbrev pub unary_value : UnaryOperator → ℕ → ℕ
unary_value Negate a = (2 ^ 64 - a) % 2 ^ 64
unary_value Not a = truth (a == 0)
unary_value Complement a = 2 ^ 64 - 1 - a

-- arithmetic wraps at 64 bits, and comparisons are signed
abbrev pub binary_value : BinaryOperator → ℕ → ℕ → ℕ
binary_value Multiply a b = (a * b) % 2 ^ 64
binary_value Add a b = (a + b) % 2 ^ 64
binary_value Subtract a b = (a + (2 ^ 64 - b)) % 2 ^ 64
binary_value Less a b = truth (is_less a b)
binary_value Greater a b = truth (is_less b a)
binary_value LessOrEqual a b = truth (not (is_less b a))
binary_value GreaterOrEqual a b = truth (not (is_less a b))
binary_value Equal a b = truth (a == b)
binary_value NotEqual a b = truth (not (a == b))
binary_value BitAnd a b = bit_and a b
binary_value BitXor a b = bit_xor a b
binary_value BitOr a b = bit_or a b

-- the value of an expression without a load; a register that isn't there is 0
abbrev pub pure_value : List ℕ → Pure → ℕ
pure_value registers (tree.number n) = n
pure_value registers (tree.register r) = slice_index registers r
pure_value registers (tree.unary op e) = unary_value op (pure_value registers e)
pure_value registers (tree.binary op a b) =
    binary_value op (pure_value registers a) (pure_value registers b)

-- the value of an expression whose load gave this value
abbrev pub loading_value : List ℕ → ℕ → Loading → ℕ
loading_value registers loaded (tree.load l) = loaded
loading_value registers loaded (tree.unary_of op e) =
    unary_value op (loading_value registers loaded e)
loading_value registers loaded (tree.left op a b) =
    binary_value op (loading_value registers loaded a) (pure_value registers b)
loading_value registers loaded (tree.right op a b) =
    binary_value op (pure_value registers a) (loading_value registers loaded b)

-- the value of an expression; what a load gave has no part in one without a load
abbrev pub value_of : List ℕ → ℕ → Expression → ℕ
value_of registers loaded (tree.pure e) = pure_value registers e
value_of registers loaded (tree.loading e) = loading_value registers loaded e
