-- A small program is put together by the rules: its initialization block, its process and its condition.
use Rattle.std.proofs.Common.{◌≡◌, ◌<◌, ℕ, zero, suc, List, [], ◌∷◌, Option, refl, sym, ap, length, drop, arith, lit<, lit≤}
use Rattle.std.specs.Prelude.{Contains, codes}
use Rattle.std.specs.Fmt.{digits}
use Rattle.litmus_lex.specs.declared.words.VariableType.{VariableType}
use Rattle.litmus_lex.specs.declared.words.VariableType.TheVariants.{Int}
use Rattle.litmus_syntax.specs.Limits.{BodyKeepsLimits}
use Rattle.litmus_expression.specs.Names.{Parameter, IsChanged, IsFree, IsRegister, IsVariable, IsInteger, known, new}
use Rattle.litmus_expression.specs.Expressions.{operand, a_load, plain, stronger}
use Rattle.litmus_body.specs.Statements.{to_register, simple, Statements, end, next}
use Rattle.litmus_parse.specs.Conditions as conditions
use Rattle.litmus_parse.specs.Grammar.{Grammar}
use Rattle.litmus_parse.specs.Headers as headers
use Rattle.litmus_parse.specs.Mentions as mentions
use Rattle.worked_examples.specs.example_grammar.Examples.{small, small_tree, small_body, x}

-- what the one parameter says
said : List mentions.Mention
said = record { name = codes "x"; said = mentions.parameter Int } ∷ []

-- nothing stands in an empty list
in_none : (name : List ℕ) → Contains [] name → ⊥
in_none name (k, lt, e) = omega arith

-- two numbers, of which one is below the other
apart : (m n : ℕ) → m < n → m ≡ n → ⊥
apart m n lt e = omega arith

item_no_parameter : (type : Option VariableType) (value : Option ℕ) → mentions.item type value ≡ mentions.parameter Int → ⊥
item_no_parameter type value e = cc

given_is : (given : VariableType) → mentions.parameter given ≡ mentions.parameter Int → given ≡ Int
given_is given e = cc

-- what is said is said by the parameter
said_once : (name : List ℕ) (what : mentions.Said) → mentions.Says said name what → what ≡ mentions.parameter Int
unfolding said
said_once name what (zero, lt, e) = ap (λ (m : mentions.Mention). m.said) (sym e)
said_once name what (suc k, lt, e) = let no : ⊥ = omega arith in absurd no

-- x is an int
x-type : mentions.HasType said (codes "x") Int
x-type = record {
  items = λ given value says. absurd (item_no_parameter _ _ (said_once _ _ says));
  parameters = λ given says. sym (given_is _ (said_once _ _ says));
  untyped = λ value says. absurd (item_no_parameter _ _ (said_once _ _ says));
  unvalued = λ given value says. absurd (item_no_parameter _ _ (said_once _ _ says));
}

-- x is the variable 0
x-is : IsVariable x IsInteger (codes "x") 0
x-is = record { type = Int; parameter = (0, lit< tt, refl); of_form = tt }

-- r0 is no parameter
r0-free : IsFree x (codes "r0")
r0-free variable type (zero, lt, e) = apart 1 2 (lit< tt) (ap (λ (p : Parameter). length p.name) e)
r0-free variable type (suc k, lt, e) = omega arith

r0-new : IsRegister x [] (codes "r0") 0 (codes "r0" ∷ [])
r0-new = record { free = r0-free; numbered = new (in_none (codes "r0")) (lit< tt) }

r0-known : IsRegister x (codes "r0" ∷ []) (codes "r0") 0 (codes "r0" ∷ [])
r0-known = record { free = r0-free; numbered = known refl }

-- r0 = * x ; }
body-spelled : Statements x 1 [] [] (drop 9 small) small_body (drop 15 small) (codes "r0" ∷ [])
body-spelled =
    let changed : IsChanged x [] [] (codes "r0") 0 (codes "r0" ∷ []) = record { is = r0-new; counts_none = λ (k, lt, e). omega arith } in
    let loads = stronger (stronger (stronger (stronger (stronger (stronger (stronger (operand (a_load (plain x-is))))))))) in
    next (simple (λ more e. cc) (to_register changed (record { level = loads; limit = lit≤ tt }))) end

keeps : BodyKeepsLimits small_body
keeps = record { statements = lit≤ tt; turns = (tt, tt); repeats = lit≤ tt; scopes = (tt, tt) }

abbrev process : headers.Process
process = record { parameters = x; registers = codes "r0" ∷ []; body = small_body }

pub small-spelled : Grammar small small_tree
unfolding said digits
small-spelled = record {
  items = [];
  item_names = [];
  names = codes "x" ∷ [];
  processes = process ∷ [];
  later = process ∷ [];
  after_brace = drop 1 small;
  after_items = drop 2 small;
  after_processes = drop 15 small;
  after_quantifier = drop 16 small;
  begins = refl;
  initialization = headers.none;
  numbered = mentions.none;
  bodies = headers.last (lit< tt) (headers.process (headers.some (headers.last (new (in_none (codes "x")) (lit< tt)))) body-spelled keeps);
  quantifier = conditions.exists;
  condition = conditions.conjunction (conditions.negation (conditions.parenthesized (lit< tt)
      (conditions.conjunction (conditions.negation (conditions.atom (conditions.register_is refl r0-known headers.positive))))));
  operators = lit≤ tt;
  declared = mentions.more (record { type = Int; name_is = refl; typed = x-type; contents = refl }) mentions.none;
  tasks = refl;
}
