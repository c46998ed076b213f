-- Each example is put together by the rules, from its parts up. What begins with `+` fits no rule.
use Rattle.std.proofs.Common.{◌≡◌, ◌<◌, ℕ, zero, suc, List, [], ◌∷◌, refl, ap, get_or, arith, lit<, lit≤}
use Rattle.std.specs.Prelude.{Contains, codes}
use Rattle.litmus_lex.specs.declared.sign.Sign.TheVariants.{Plus, Semicolon}
use Rattle.litmus_syntax.specs.declared.expression.UnaryOperator.{UnaryOperator}
use Rattle.litmus_syntax.specs.declared.expression.UnaryOperator.TheVariants as unaries
use Rattle.litmus_syntax.specs.declared.expression.BinaryOperator.TheVariants as binaries
use Rattle.litmus_syntax.specs.declared.expression.ReadForm.TheVariants.{Plain}
use Rattle.litmus_syntax.specs.Tree as tree
use Rattle.litmus_lex.specs.declared.words.VariableType.TheVariants.{Int}
use Rattle.litmus_lex.specs.Words.{Symbol, number, sign}
use Rattle.litmus_expression.specs.Names.{Names, Parameter, IsFree, IsRegister, IsVariable, IsInteger, new}
use Rattle.litmus_expression.specs.Expressions.{Level, operand, prefixed, stronger, infixed, Operand, a_number, a_register, a_load, parenthesized, Load}
use Rattle.litmus_expression.specs.Expressions.{plain, once, acquire, atomic, exchange, compare_exchange, enclosed, to_loading, none, bare, Expression, sign_of_unary}
use Rattle.worked_examples.specs.example_grammar.Examples.{differences, differences_tree, factors, factors_tree, masks, masks_tree, loads, loads_tree, r0_r1, x}

-- from the level of sums to that of all
sums : {P : List Parameter} {depth : ℕ} {before after : Names} {symbols rest : List Symbol} {e : tree.Expression}
    → Level P 2 depth before symbols e rest after → Level P 7 depth before symbols e rest after
sums l = stronger (stronger (stronger (stronger (stronger l))))

-- a number, at the levels of products and of sums
factor : {P : List Parameter} {depth n : ℕ} {before : Names} {rest : List Symbol}
    → Level P 1 depth before (number n ∷ rest) (tree.pure (tree.number n)) rest before
factor = stronger (operand a_number)

pub differences-spelled : Expression [] 1 [] differences differences_tree (sign Semicolon ∷ []) []
differences-spelled = record {
  level = sums (infixed binaries.Subtract refl (infixed binaries.Subtract refl (stronger factor) factor none) factor none);
  limit = lit≤ tt;
}

pub factors-spelled : Expression [] 1 [] factors factors_tree (sign Semicolon ∷ []) []
factors-spelled =
    let inner = sums (infixed binaries.Add refl (stronger factor) factor none) in
    record {
      level = sums (infixed binaries.Add refl (stronger factor) (infixed binaries.Multiply refl factor (operand (parenthesized (lit< tt) inner)) none) none);
      limit = lit≤ tt;
    }

-- no name stands among none
in_none : (name : List ℕ) → Contains [] name → ⊥
in_none name (k, lt, e) = omega arith

-- two numbers, of which one is below the other
apart : (m n : ℕ) → m < n → m ≡ n → ⊥
apart m n lt e = omega arith

-- r1 stands not where r0 stands alone
r0_alone : Contains (codes "r0" ∷ []) (codes "r1") → ⊥
r0_alone (zero, lt, e) = apart 48 49 (lit< tt) (ap (λ (name : List ℕ). get_or name 1 0) e)
r0_alone (suc k, lt, e) = omega arith

-- without parameters each name is free
free : (name : List ℕ) → IsFree [] name
free name variable type (k, lt, e) = omega arith

r0-is : IsRegister [] [] (codes "r0") 0 (codes "r0" ∷ [])
r0-is = record { free = free (codes "r0"); numbered = new (in_none (codes "r0")) (lit< tt) }

r1-is : IsRegister [] (codes "r0" ∷ []) (codes "r1") 1 r0_r1
r1-is = record { free = free (codes "r1"); numbered = new r0_alone (lit< tt) }

pub masks-spelled : Expression [] 1 [] masks masks_tree (sign Semicolon ∷ []) r0_r1
masks-spelled =
    let first = stronger (stronger (stronger (stronger (operand (a_register r0-is))))) in
    let second = stronger (stronger (stronger (stronger (operand (a_register r1-is))))) in
    record {
      level = stronger (stronger (infixed binaries.BitAnd refl (stronger first) (infixed binaries.Equal refl second (stronger (stronger factor)) none) none));
      limit = lit≤ tt;
    }

-- x is the one parameter's name
x-is : IsVariable x IsInteger (codes "x") 0
x-is = record { type = Int; parameter = (0, lit< tt, refl); of_form = tt }

pub loads-spelled : Expression x 1 [] loads loads_tree (sign Semicolon ∷ []) []
loads-spelled = record {
  level = sums (stronger (stronger (prefixed unaries.Negate (operand (a_load (enclosed {l = bare (tree.read Plain 0)} (plain x-is)))) to_loading)));
  limit = lit≤ tt;
}

-- the sign of no unary operator is `+`
no_unary : (op : UnaryOperator) → sign_of_unary op ≡ Plus → ⊥
no_unary unaries.Negate e = cc
no_unary unaries.Not e = cc
no_unary unaries.Complement e = cc

no_load : {P : List Parameter} {depth : ℕ} {before after : Names} {symbols rest more : List Symbol} {l : tree.Load}
    → Load P depth before symbols l rest after → symbols ≡ sign Plus ∷ more → ⊥
no_load (plain v) e = cc
no_load (once v) e = cc
no_load (acquire v) e = cc
no_load (atomic v) e = cc
no_load (exchange v p) e = cc
no_load (compare_exchange v p q) e = cc
no_load (enclosed l) e = cc

no_operand : {P : List Parameter} {depth : ℕ} {before after : Names} {symbols rest more : List Symbol} {e : tree.Expression}
    → Operand P depth before symbols e rest after → symbols ≡ sign Plus ∷ more → ⊥
no_operand a_number e = cc
no_operand (a_register r) e = cc
no_operand (a_load l) e = no_load l e
no_operand (parenthesized lt l) e = cc

pub no_level : {P : List Parameter} {level depth : ℕ} {before after : Names} {symbols rest more : List Symbol} {e : tree.Expression}
    → Level P level depth before symbols e rest after → symbols ≡ sign Plus ∷ more → ⊥
no_level (operand o) e = no_operand o e
no_level (prefixed op l a) e = no_unary op cc
no_level (stronger l) e = no_level l e
no_level (infixed op is l r c) e = no_level l e
