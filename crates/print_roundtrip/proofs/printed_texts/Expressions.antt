-- The symbols of an expression's printed form spell it, where some symbols do and the form keeps the limit of nesting.
use Rattle.std.proofs.Common.{◌≡◌, ◌+◌, ◌<◌, ◌≤◌, ℕ, zero, suc, List, [], ◌∷◌, Option, Some, refl, sym, ap, subst, arith}
use Rattle.std.specs.Prelude.{Contains, slice_get, unwrap_or}
use Rattle.litmus_lex.specs.declared.sign.Sign.TheVariants.{OpenParen, CloseParen, Comma}
use Rattle.litmus_syntax.specs.declared.expression.BinaryOperator.{BinaryOperator}
use Rattle.litmus_syntax.specs.declared.expression.BinaryOperator.TheVariants as binaries
use Rattle.litmus_syntax.specs.declared.expression.UnaryOperator.{UnaryOperator}
use Rattle.litmus_syntax.specs.declared.program.Variable.{Variable}
use Rattle.litmus_syntax.specs.PrintedForm.{name_at, variable_name}
use Rattle.litmus_syntax.specs.Limits.{operators, pure_operators}
use Rattle.litmus_syntax.specs.Tree as tree
use Rattle.litmus_lex.specs.declared.words.VariableType.{VariableType}
use Rattle.litmus_lex.specs.Words.{Symbol, sign}
use Rattle.litmus_expression.specs.Expressions as grammar
use Rattle.litmus_expression.specs.Expressions.{Applied, Combined, Expression, Level, Load, Operand, Pure, bare, level_of, sign_of_binary, sign_of_unary}
use Rattle.litmus_expression.specs.Names.{IsChanged, IsRegister, IsVariable, Names, Parameter, known}
use Rattle.litmus_parse.proofs.Becomes.{numbered_at}
use Rattle.print_roundtrip.specs.printed_texts.PrintedNesting.{ExpressionNests, FetchNests, PureNests}
use Rattle.print_roundtrip.specs.printed_texts.PrintedSymbols.{expression_symbols, fetch_symbols, load_symbols, pure_symbols}
use Rattle.print_roundtrip.proofs.printed_texts.Grown.{Grown, level_grows, pure_grows, then}

-- ---- levels

-- the level of an operator, which is no weaker than any
record IsLevel (op : BinaryOperator) : Type 0 where
  below : ℕ
  rest : ℕ
  is : level_of op ≡ suc below
  all : 7 ≡ rest + suc below

level_is : (op : BinaryOperator) → IsLevel op
level_is binaries.Multiply = record { below = 0; rest = 6; is = refl; all = refl }
level_is binaries.Add = record { below = 1; rest = 5; is = refl; all = refl }
level_is binaries.Subtract = record { below = 1; rest = 5; is = refl; all = refl }
level_is binaries.Less = record { below = 2; rest = 4; is = refl; all = refl }
level_is binaries.Greater = record { below = 2; rest = 4; is = refl; all = refl }
level_is binaries.LessOrEqual = record { below = 2; rest = 4; is = refl; all = refl }
level_is binaries.GreaterOrEqual = record { below = 2; rest = 4; is = refl; all = refl }
level_is binaries.Equal = record { below = 3; rest = 3; is = refl; all = refl }
level_is binaries.NotEqual = record { below = 3; rest = 3; is = refl; all = refl }
level_is binaries.BitAnd = record { below = 4; rest = 2; is = refl; all = refl }
level_is binaries.BitXor = record { below = 5; rest = 1; is = refl; all = refl }
level_is binaries.BitOr = record { below = 6; rest = 0; is = refl; all = refl }

module _ (P : List Parameter) (variables : List Variable) (names : Names)
    (named : (name : List ℕ) (v : ℕ) (type : VariableType) → Contains P (record { name = name; variable = v; type = type }) → variable_name variables v ≡ name) where
  -- symbols that spell an expression at a level, and leave the names as they are
  abbrev At : ℕ → ℕ → List Symbol → tree.Expression → List Symbol → Type 0
  At k d symbols e rest = Level P k d names symbols e rest names

  lifted : (k : ℕ) (d : ℕ) (symbols : List Symbol) (e : tree.Expression) (rest : List Symbol) → At 0 d symbols e rest
      → At k d symbols e rest
  lifted zero d symbols e rest l = l
  lifted (suc k) d symbols e rest l = grammar.stronger (lifted k d symbols e rest l)

  raised : (k j m : ℕ) (d : ℕ) (symbols : List Symbol) (e : tree.Expression) (rest : List Symbol) → m ≡ k + j → At j d symbols e rest
      → At m d symbols e rest
  raised zero j m d symbols e rest is l = let same : j ≡ m = omega arith in subst (λ (n : ℕ). At n d symbols e rest) same l
  raised (suc k) j m d symbols e rest is l = raised k (suc j) m d symbols e rest (omega arith) (grammar.stronger l)

  prefix_spelled : (op : UnaryOperator) (e f : tree.Expression) (d : ℕ) (symbols rest : List Symbol) → Applied op e f → d < 16
      → Operand P (suc d) names symbols e (sign CloseParen ∷ rest) names
      → Operand P d names (sign OpenParen ∷ sign (sign_of_unary op) ∷ symbols) f rest names
  prefix_spelled op e f d symbols rest applied lt o =
      grammar.parenthesized lt (lifted 7 (suc d) (sign (sign_of_unary op) ∷ symbols) f (sign CloseParen ∷ rest)
      (grammar.prefixed op (grammar.operand o) applied))

  infix_spelled : (op : BinaryOperator) (a b c : tree.Expression) (d : ℕ) (symbols middle rest : List Symbol) → Combined op a b c → d < 16
      → Operand P (suc d) names symbols a (sign (sign_of_binary op) ∷ middle) names
      → Operand P (suc d) names middle b (sign CloseParen ∷ rest) names
      → Operand P d names (sign OpenParen ∷ symbols) c rest names
  infix_spelled op a b c d symbols middle rest both lt l r =
      let j = level_is op in
      grammar.parenthesized lt (raised j.rest (suc j.below) 7 (suc d) symbols c (sign CloseParen ∷ rest) j.all
      (grammar.infixed op j.is
      (lifted (suc j.below) (suc d) symbols a (sign (sign_of_binary op) ∷ middle) (grammar.operand l))
      (lifted j.below (suc d) middle b (sign CloseParen ∷ rest) (grammar.operand r)) both))

  -- ---- what the printed form is

  abbrev pub Printed : tree.Expression → Type 0
  Printed e = (d : ℕ) → ExpressionNests d e → (rest : List Symbol) → Operand P d names (expression_symbols variables names e rest) e rest names

  abbrev pub PrintedPure : tree.Pure → Type 0
  PrintedPure a = (d : ℕ) → PureNests d a → (rest : List Symbol) → Pure P d names (pure_symbols variables names a rest) a rest names

  abbrev pub PrintedFetch : tree.Fetch → Type 0
  PrintedFetch f = (d : ℕ) → FetchNests d f → (rest : List Symbol) → Load P d names (fetch_symbols variables names f rest) (bare f) rest names

  abbrev with_races : ℕ → tree.Fetch → tree.Load
  with_races n f = record { data_races = n; fetch = f }

  pub whole_pure : (a : tree.Pure) → pure_operators a ≤ 256 → Printed (tree.pure a) → PrintedPure a
  whole_pure a few printed = λ d nests rest.
      grammar.whole (lifted 7 d (pure_symbols variables names a rest) (tree.pure a) rest (grammar.operand (printed d nests rest))) few

  pub whole_expression : (e : tree.Expression) → operators e ≤ 256 → Printed e → (d : ℕ) → ExpressionNests d e → (rest : List Symbol)
      → Expression P d names (expression_symbols variables names e rest) e rest names
  whole_expression e few printed d nests rest = record {
    level = lifted 7 d (expression_symbols variables names e rest) e rest (grammar.operand (printed d nests rest));
    limit = few;
  }

  pub whole_load : (n : ℕ) (f : tree.Fetch) → PrintedFetch f → (d : ℕ) → FetchNests d f → (rest : List Symbol)
      → Load P d names (load_symbols variables names (with_races n f) rest) (with_races n f) rest names
  whole_load zero f printed d nests rest = printed d nests rest
  whole_load (suc n) f printed d nests rest =
      let more : n + 1 ≡ suc n = omega arith in
      subst (λ (k : ℕ). Load P d names (load_symbols variables names (with_races (suc n) f) rest) (with_races k f) rest names) more
      (grammar.enclosed (whole_load n f printed d nests (sign CloseParen ∷ rest)))

  -- ---- names

  pub printed_variable : {Form : VariableType → Type 0} {name : List ℕ} {v : ℕ} → IsVariable P Form name v
      → IsVariable P Form (variable_name variables v) v
  printed_variable {Form} {name} {v} is =
      subst (λ (n : List ℕ). IsVariable P Form n v) (sym (named name v is.type is.parameter)) is

  name_there : (r : ℕ) (name : List ℕ) → slice_get names r ≡ Some name → name_at names r ≡ name
  name_there r name there = ap (λ (o : Option (List ℕ)). unwrap_or o []) there

  pub printed_register : {name : List ℕ} {r : ℕ} {before later : Names} → IsRegister P before name r later → Grown later names
      → IsRegister P names (name_at names r) r names
  printed_register {name} {r} is grown =
      let there : slice_get names r ≡ Some name = grown.keeps r name (numbered_at is.numbered) in
      subst (λ (n : List ℕ). IsRegister P names n r names) (sym (name_there r name there))
      (record { free = is.free; numbered = known there })

  pub printed_changed : {counters : List ℕ} {name : List ℕ} {r : ℕ} {before later : Names} → IsChanged P counters before name r later
      → Grown later names → IsChanged P counters names (name_at names r) r names
  printed_changed is grown = record { is = printed_register is.is grown; counts_none = is.counts_none }

  -- ---- expressions

  applied_printed : (op : UnaryOperator) (e f : tree.Expression) → Applied op e f → Printed e → Printed f
  applied_printed op e f (grammar.to_pure {a = a}) printed = λ d nests rest.
      prefix_spelled op (tree.pure a) (tree.pure (tree.unary op a)) d (pure_symbols variables names a (sign CloseParen ∷ rest)) rest
      grammar.to_pure nests.0 (printed (suc d) nests.1 (sign CloseParen ∷ rest))
  applied_printed op e f (grammar.to_loading {a = a}) printed = λ d nests rest.
      prefix_spelled op (tree.loading a) (tree.loading (tree.unary_of op a)) d
      (expression_symbols variables names (tree.loading a) (sign CloseParen ∷ rest)) rest
      grammar.to_loading nests.0 (printed (suc d) nests.1 (sign CloseParen ∷ rest))

  both_printed : (op : BinaryOperator) (a b c : tree.Expression) (d : ℕ) (rest : List Symbol) → Combined op a b c → d < 16
      → Printed a → Printed b → ExpressionNests (suc d) a → ExpressionNests (suc d) b
      → Operand P d names (sign OpenParen ∷ expression_symbols variables names a (sign (sign_of_binary op)
      ∷ expression_symbols variables names b (sign CloseParen ∷ rest))) c rest names
  both_printed op a b c d rest both lt one two nests more =
      let behind : List Symbol = expression_symbols variables names b (sign CloseParen ∷ rest) in
      infix_spelled op a b c d (expression_symbols variables names a (sign (sign_of_binary op) ∷ behind)) behind rest both lt
      (one (suc d) nests (sign (sign_of_binary op) ∷ behind)) (two (suc d) more (sign CloseParen ∷ rest))

  combined_printed : (op : BinaryOperator) (a b c : tree.Expression) → Combined op a b c → Printed a → Printed b → Printed c
  combined_printed op a b c (grammar.none {a = x} {b = y}) one two = λ d nests rest.
      both_printed op (tree.pure x) (tree.pure y) (tree.pure (tree.binary op x y)) d rest grammar.none nests.0 one two nests.1.0 nests.1.1
  combined_printed op a b c (grammar.left {a = x} {b = y}) one two = λ d nests rest.
      both_printed op (tree.loading x) (tree.pure y) (tree.loading (tree.left op x y)) d rest grammar.left nests.0 one two nests.1.0 nests.1.1
  combined_printed op a b c (grammar.right {a = x} {b = y}) one two = λ d nests rest.
      both_printed op (tree.pure x) (tree.loading y) (tree.loading (tree.right op x y)) d rest grammar.right nests.0 one two nests.1.0 nests.1.1

  mutual
    pub level_printed : {k d : ℕ} {before later : Names} {symbols rest : List Symbol} {e : tree.Expression}
        → Level P k d before symbols e rest later → Grown later names → Printed e
    level_printed (grammar.operand o) grown = operand_printed o grown
    level_printed (grammar.prefixed {e = e} {f = f} op l a) grown = applied_printed op e f a (level_printed l grown)
    level_printed (grammar.stronger l) grown = level_printed l grown
    level_printed (grammar.infixed {a = a} {b = b} {c = c} op is l r both) grown =
        combined_printed op a b c both (level_printed l (then (level_grows r) grown)) (level_printed r grown)

    operand_printed : {d : ℕ} {before later : Names} {symbols rest : List Symbol} {e : tree.Expression}
        → Operand P d before symbols e rest later → Grown later names → Printed e
    operand_printed grammar.a_number grown = λ d nests rest. grammar.a_number
    operand_printed (grammar.a_register r) grown = λ d nests rest. grammar.a_register (printed_register r grown)
    operand_printed (grammar.a_load {l = l} x) grown = λ d nests rest.
        grammar.a_load (whole_load l.data_races l.fetch (load_printed x grown) d nests rest)
    operand_printed (grammar.parenthesized lt l) grown = level_printed l grown

    pub load_printed : {d : ℕ} {before later : Names} {symbols rest : List Symbol} {l : tree.Load}
        → Load P d before symbols l rest later → Grown later names → PrintedFetch l.fetch
    load_printed (grammar.plain v) grown = λ d nests rest. grammar.plain (printed_variable v)
    load_printed (grammar.once v) grown = λ d nests rest. grammar.once (printed_variable v)
    load_printed (grammar.acquire v) grown = λ d nests rest. grammar.acquire (printed_variable v)
    load_printed (grammar.atomic v) grown = λ d nests rest. grammar.atomic (printed_variable v)
    load_printed (grammar.exchange v p) grown = λ d nests rest.
        grammar.exchange (printed_variable v) (pure_printed p grown d nests (sign CloseParen ∷ rest))
    load_printed (grammar.compare_exchange {replacement = f} v p q) grown = λ d nests rest.
        grammar.compare_exchange (printed_variable v)
        (pure_printed p (then (pure_grows q) grown) d nests.0 (sign Comma ∷ pure_symbols variables names f (sign CloseParen ∷ rest)))
        (pure_printed q grown d nests.1 (sign CloseParen ∷ rest))
    load_printed (grammar.enclosed l) grown = load_printed l grown

    pub pure_printed : {d : ℕ} {before later : Names} {symbols rest : List Symbol} {a : tree.Pure}
        → Pure P d before symbols a rest later → Grown later names → PrintedPure a
    pure_printed (grammar.whole {value = a} l few) grown = whole_pure a few (level_printed l grown)

  pub expression_printed : {d : ℕ} {before later : Names} {symbols rest : List Symbol} {e : tree.Expression}
      → Expression P d before symbols e rest later → Grown later names → (d : ℕ) → ExpressionNests d e → (rest : List Symbol)
      → Expression P d names (expression_symbols variables names e rest) e rest names
  expression_printed {e = e} spelled grown = whole_expression e spelled.limit (level_printed spelled.level grown)
