-- What small lists of symbols don't spell. Each relation is taken apart by its rules: what a rule has at its
-- front is not what the list has, or a condition of the rule fails.
use Rattle.std.proofs.Common.{◌≡◌, ◌+◌, ◌≤◌, ◌==◌, ◌∙◌, ℕ, zero, suc, List, [], ◌∷◌, ◌++◌, Option, Some, None, ⊎_elim, refl, sym, ap, subst, length, drop, arith, lit<, if◌then◌else◌}
use Rattle.std.specs.Prelude.{Contains, codes, slice_get}
use Rattle.std.proofs.lemmas.Bool.Decides.{eqb_tells}
use Rattle.litmus_lex.specs.declared.sign.Sign.TheVariants.{CloseParen, Semicolon, Star, OpenParen}
use Rattle.litmus_syntax.specs.declared.expression.UnaryOperator.{UnaryOperator}
use Rattle.litmus_syntax.specs.declared.expression.BinaryOperator.{BinaryOperator}
use Rattle.litmus_syntax.specs.declared.expression.BinaryOperator.TheVariants as binaries
use Rattle.litmus_syntax.specs.declared.statement.Call.{Call}
use Rattle.litmus_syntax.specs.Tree as tree
use Rattle.litmus_lex.specs.declared.words.VariableType.{VariableType}
use Rattle.litmus_lex.specs.declared.words.VariableType.TheVariants.{Int, Atomic}
use Rattle.litmus_lex.specs.declared.words.Word.TheVariants as words
use Rattle.litmus_lex.specs.Words.{Symbol, word, identifier, number, sign, fault}
use Rattle.litmus_expression.specs.Names.{Names, Numbered, known, new, Parameter, IsFree, IsVariable, IsInteger}
use Rattle.litmus_expression.specs.Expressions.{Applied, to_pure, to_loading, Combined, none, left, right, Level, operand, prefixed, stronger, infixed, sign_of_binary, sign_of_unary}
use Rattle.litmus_expression.specs.Expressions.{Operand, a_number, a_register, parenthesized, Load, plain, once, acquire, atomic, exchange, compare_exchange, enclosed, Pure, whole}
use Rattle.litmus_expression.specs.Expressions as expressions
use Rattle.litmus_body.specs.Statements.{Enclosable, Simple, Calls, Statement, Body, Declared, kept, alone, raced, IsNoElse}
use Rattle.litmus_body.specs.Statements as rules
use Rattle.worked_examples.specs.example_grammar.Examples.{x, a_counted, two_loads, atomic_read, own_counter, dangling, outer_else}

-- symbols that can begin a load, a simple statement, a call
abbrev BeginsLoad : List Symbol → Type 0
BeginsLoad (sign Star ∷ symbols) = Unit {0}
BeginsLoad (word (words.Load w) ∷ symbols) = Unit {0}
BeginsLoad (word words.DataRace ∷ symbols) = Unit {0}
BeginsLoad _ = ⊥

abbrev BeginsSimple : List Symbol → Type 0
BeginsSimple (identifier name ∷ symbols) = Unit {0}
BeginsSimple (sign Star ∷ symbols) = Unit {0}
BeginsSimple (sign OpenParen ∷ symbols) = Unit {0}
BeginsSimple (word (words.Load w) ∷ symbols) = Unit {0}
BeginsSimple (word (words.Store w) ∷ symbols) = Unit {0}
BeginsSimple (word words.DataRace ∷ symbols) = Unit {0}
BeginsSimple _ = ⊥

abbrev BeginsCall : List Symbol → Type 0
BeginsCall (word (words.Call w) ∷ symbols) = Unit {0}
BeginsCall _ = ⊥

load_begins : {P : List Parameter} {depth : ℕ} {before after : Names} {symbols rest : List Symbol} {l : tree.Load}
    → Load P depth before symbols l rest after → BeginsLoad symbols
load_begins (plain v) = tt
load_begins (once v) = tt
load_begins (acquire v) = tt
load_begins (atomic v) = tt
load_begins (exchange v p) = tt
load_begins (compare_exchange v p q) = tt
load_begins (enclosed l) = tt

simple_begins : {P : List Parameter} {depth : ℕ} {counters : List ℕ} {before after : Names} {symbols rest : List Symbol} {s : Enclosable}
    → Simple P depth counters before symbols s rest after → BeginsSimple symbols
simple_begins (rules.to_register c e) = tt
simple_begins (rules.a_load (plain v)) = tt
simple_begins (rules.a_load (once v)) = tt
simple_begins (rules.a_load (acquire v)) = tt
simple_begins (rules.a_load (atomic v)) = tt
simple_begins (rules.a_load (exchange v p)) = tt
simple_begins (rules.a_load (compare_exchange v p q)) = tt
simple_begins (rules.a_load (enclosed l)) = tt
simple_begins (rules.write v p) = tt
simple_begins (rules.add v p) = tt
simple_begins (rules.increment v) = tt
simple_begins (rules.write_once v p) = tt
simple_begins (rules.release v p) = tt
simple_begins (rules.atomic_set v p) = tt
simple_begins (rules.atomic_add p v) = tt
simple_begins (rules.atomic_increment v) = tt
simple_begins (rules.atomic_decrement v) = tt

call_begins : {P : List Parameter} {symbols rest : List Symbol} {c : Call} → Calls P symbols c rest → BeginsCall symbols
call_begins (rules.barrier b) = tt
call_begins (rules.lock v) = tt
call_begins (rules.unlock v) = tt
call_begins (rules.assert_writer s v) = tt
call_begins (rules.assert_access s v) = tt
call_begins (rules.assert_bits v) = tt
call_begins (rules.mark m is) = tt
call_begins rules.atomic_next = tt
call_begins (rules.check w v lt) = tt

-- the place of the one parameter x
x_there : (name : List ℕ) → name ≡ codes "x" → Contains x (record { name = name; variable = 0; type = Int })
x_there name e = (0, lit< tt, sym (ap (λ (n : List ℕ). record { name = n; variable = 0; type = Int }) e))

-- 1 for the name x, 0 for every other
abbrev is_x : List ℕ → ℕ
is_x [] = 0
is_x (byte ∷ []) = if byte == 120 then 1 else 0
is_x (byte ∷ other ∷ more) = 0

-- how often symbols name x
abbrev times : List Symbol → ℕ
times [] = 0
times (identifier name ∷ symbols) = is_x name + times symbols
times (word w ∷ symbols) = times symbols
times (number n ∷ symbols) = times symbols
times (sign s ∷ symbols) = times symbols
times (fault ∷ symbols) = times symbols

free_is_no_x : (name : List ℕ) → IsFree x name → is_x name ≡ 0
free_is_no_x [] free = refl
free_is_no_x (byte ∷ []) free =
    ⊎_elim (λ same. absurd (free 0 Int (x_there (byte ∷ []) (ap (λ (b : ℕ). b ∷ []) same.1)))) (λ other. rw other.0 refl) (eqb_tells byte 120)
free_is_no_x (byte ∷ other ∷ more) free = refl

-- a variable's name is x
variable_is_x : {Form : VariableType → Type 0} {name : List ℕ} {variable : ℕ} → IsVariable x Form name variable → is_x name ≡ 1
variable_is_x v = parameter_is_x _ v.parameter
  where
    parameter_is_x : (p : Parameter) → Contains x p → is_x p.name ≡ 1
    parameter_is_x p (zero, lt, e) = ap (λ (q : Parameter). is_x q.name) (sym e)
    parameter_is_x p (suc k, lt, e) = let no : ⊥ = omega arith in absurd no

-- how many loads an expression has
abbrev loads : tree.Expression → ℕ
loads (tree.pure a) = 0
loads (tree.loading a) = 1

one_load : (e : tree.Expression) → loads e ≤ 1
one_load (tree.pure a) = omega arith
one_load (tree.loading a) = omega arith

applied_loads : {op : UnaryOperator} {e f : tree.Expression} → Applied op e f → loads e ≡ loads f
applied_loads to_pure = refl
applied_loads to_loading = refl

combined_loads : {op : BinaryOperator} {a b c : tree.Expression} → Combined op a b c → loads a + loads b ≡ loads c
combined_loads none = refl
combined_loads left = refl
combined_loads right = refl

mutual
  -- symbols name x as often as their expression has a load
  level_times : {level depth : ℕ} {before after : Names} {symbols rest : List Symbol} {e : tree.Expression}
      → Level x level depth before symbols e rest after → times symbols ≡ loads e + times rest
  level_times (operand o) = operand_times o
  level_times (prefixed op l a) =
      let inner = level_times l in
      let same = applied_loads a in
      omega arith
  level_times (stronger l) = level_times l
  level_times (infixed op is l r c) =
      let first = level_times l in
      let second = level_times r in
      let sum = combined_loads c in
      omega arith

  operand_times : {depth : ℕ} {before after : Names} {symbols rest : List Symbol} {e : tree.Expression}
      → Operand x depth before symbols e rest after → times symbols ≡ loads e + times rest
  operand_times a_number = omega arith
  operand_times (a_register r) =
      let no_x = free_is_no_x _ r.free in
      omega arith
  operand_times (expressions.a_load l) = load_times l
  operand_times (parenthesized lt l) = level_times l

  load_times : {depth : ℕ} {before after : Names} {symbols rest : List Symbol} {l : tree.Load}
      → Load x depth before symbols l rest after → times symbols ≡ 1 + times rest
  load_times (plain v) = let is = variable_is_x v in omega arith
  load_times (once v) = let is = variable_is_x v in omega arith
  load_times (acquire v) = let is = variable_is_x v in omega arith
  load_times (atomic v) = let is = variable_is_x v in omega arith
  load_times (exchange v p) =
      let is = variable_is_x v in
      let value = pure_times p in
      omega arith
  load_times (compare_exchange v p q) =
      let is = variable_is_x v in
      let expected = pure_times p in
      let replacement = pure_times q in
      omega arith
  load_times (enclosed l) = load_times l

  pure_times : {depth : ℕ} {before after : Names} {symbols rest : List Symbol} {value : tree.Pure}
      → Pure x depth before symbols value rest after → times symbols ≡ times rest
  pure_times (whole l limit) = let is = level_times l in omega arith

-- r0 = * x + * x ;
two_in_simple : {depth : ℕ} {counters : List ℕ} {before after : Names} {symbols rest : List Symbol} {s : Enclosable}
    → Simple x depth counters before symbols s (sign Semicolon ∷ rest) after → symbols ≡ two_loads → rest ≡ [] → ⊥
two_in_simple (rules.to_register {symbols = symbols} {value = value} c e) is ends =
    let tail : symbols ≡ drop 2 two_loads = cc in
    let counted = level_times e.level in
    let twice : times symbols ≡ 2 = ap times tail in
    let none_left = ap times ends in
    let one = one_load value in
    omega arith
two_in_simple (rules.a_load l) is ends = absurd (subst BeginsLoad is (load_begins l))
two_in_simple (rules.write v p) is ends = cc
two_in_simple (rules.add v p) is ends = cc
two_in_simple (rules.increment v) is ends = cc
two_in_simple (rules.write_once v p) is ends = cc
two_in_simple (rules.release v p) is ends = cc
two_in_simple (rules.atomic_set v p) is ends = cc
two_in_simple (rules.atomic_add p v) is ends = cc
two_in_simple (rules.atomic_increment v) is ends = cc
two_in_simple (rules.atomic_decrement v) is ends = cc

pub two_in_statement : {depth : ℕ} {counters : List ℕ} {before after : Names} {symbols rest : List Symbol} {s : Option tree.Statement}
    → Statement x depth counters before symbols s rest after → symbols ≡ two_loads → rest ≡ [] → ⊥
two_in_statement rules.nothing is ends = cc
two_in_statement (rules.declaration type d) is ends = cc
two_in_statement (rules.given type c e) is ends = cc
two_in_statement (rules.simple other s) is ends = two_in_simple s is ends
two_in_statement (rules.data_race s) is ends = cc
two_in_statement (rules.a_call c) is ends = absurd (subst BeginsCall is (call_begins c))
two_in_statement (rules.if_alone e b other) is ends = cc
two_in_statement (rules.if_else e b o) is ends = cc
two_in_statement (rules.for_turns c b) is ends = cc

-- * a ;
no_plain_atomic : {depth : ℕ} {before after : Names} {symbols rest : List Symbol} {l : tree.Load}
    → Load a_counted depth before symbols l rest after → symbols ≡ atomic_read → ⊥
no_plain_atomic (plain v) is = subst IsInteger (parameter_type _ v.parameter) v.of_form
  where
    parameter_type : (p : Parameter) → Contains a_counted p → p.type ≡ Atomic
    parameter_type p (zero, lt, e) = ap (λ (q : Parameter). q.type) (sym e)
    parameter_type p (suc k, lt, e) = let no : ⊥ = omega arith in absurd no
no_plain_atomic (once v) is = cc
no_plain_atomic (acquire v) is = cc
no_plain_atomic (atomic v) is = cc
no_plain_atomic (exchange v p) is = cc
no_plain_atomic (compare_exchange v p q) is = cc
no_plain_atomic (enclosed l) is = cc

no_simple_atomic : {depth : ℕ} {counters : List ℕ} {before after : Names} {symbols rest : List Symbol} {s : Enclosable}
    → Simple a_counted depth counters before symbols s rest after → symbols ≡ atomic_read → ⊥
no_simple_atomic (rules.to_register c e) is = cc
no_simple_atomic (rules.a_load l) is = no_plain_atomic l is
no_simple_atomic (rules.write v p) is = cc
no_simple_atomic (rules.add v p) is = cc
no_simple_atomic (rules.increment v) is = cc
no_simple_atomic (rules.write_once v p) is = cc
no_simple_atomic (rules.release v p) is = cc
no_simple_atomic (rules.atomic_set v p) is = cc
no_simple_atomic (rules.atomic_add p v) is = cc
no_simple_atomic (rules.atomic_increment v) is = cc
no_simple_atomic (rules.atomic_decrement v) is = cc

pub no_atomic_statement : {depth : ℕ} {counters : List ℕ} {before after : Names} {symbols rest : List Symbol} {s : Option tree.Statement}
    → Statement a_counted depth counters before symbols s rest after → symbols ≡ atomic_read → ⊥
no_atomic_statement rules.nothing is = cc
no_atomic_statement (rules.declaration type d) is = cc
no_atomic_statement (rules.given type c e) is = cc
no_atomic_statement (rules.simple other s) is = no_simple_atomic s is
no_atomic_statement (rules.data_race s) is = cc
no_atomic_statement (rules.a_call c) is = absurd (subst BeginsCall is (call_begins c))
no_atomic_statement (rules.if_alone e b other) is = cc
no_atomic_statement (rules.if_else e b o) is = cc
no_atomic_statement (rules.for_turns c b) is = cc

-- the first name of all has the number 0, and has it again
first_number : {limit register : ℕ} {before after : Names} {name : List ℕ}
    → Numbered limit before name register after → before ≡ [] → (register ≡ 0) × (after ≡ name ∷ [])
first_number {name = name} (known {number} e) is =
    let none : slice_get [] number ≡ Some name = ap (λ (n : Names). slice_get n number) (sym is) ∙ e in
    cc
first_number {name = name} (new unseen lt) is = (ap length is, ap (λ (n : Names). n ++ name ∷ []) is)

same_number : {limit register : ℕ} {before after : Names} {name : List ℕ}
    → Numbered limit before name register after → before ≡ name ∷ [] → register ≡ 0
same_number {name = name} (known {number} e) is = at number (ap (λ (n : Names). slice_get n number) (sym is) ∙ e)
  where
    at : (k : ℕ) → slice_get (name ∷ []) k ≡ Some name → k ≡ 0
    at zero e = refl
    at (suc k) e = cc
same_number {name = name} (new unseen lt) is = absurd (unseen (subst (λ (n : Names). Contains n name) (sym is) (0, lit< tt, refl)))

-- i = 1 ; in a loop that i counts
own_in_simple : {depth register : ℕ} {counters : List ℕ} {before after : Names} {symbols rest more : List Symbol} {name : List ℕ} {s : Enclosable}
    → Simple [] depth (register ∷ counters) before symbols s rest after → register ≡ 0 → symbols ≡ identifier name ∷ more → before ≡ name ∷ [] → ⊥
own_in_simple {before = before} {name = name} (rules.to_register {name = other} c e) zeroth is names =
    let same : other ≡ name = cc in
    let number_is = same_number c.is.numbered (subst (λ (n : List ℕ). before ≡ n ∷ []) (sym same) names) in
    c.counts_none (0, omega arith, zeroth ∙ sym number_is)
own_in_simple (rules.a_load l) zeroth is names = absurd (subst BeginsLoad is (load_begins l))
own_in_simple (rules.write v p) zeroth is names = cc
own_in_simple (rules.add v p) zeroth is names = cc
own_in_simple (rules.increment v) zeroth is names = cc
own_in_simple (rules.write_once v p) zeroth is names = cc
own_in_simple (rules.release v p) zeroth is names = cc
own_in_simple (rules.atomic_set v p) zeroth is names = cc
own_in_simple (rules.atomic_add p v) zeroth is names = cc
own_in_simple (rules.atomic_increment v) zeroth is names = cc
own_in_simple (rules.atomic_decrement v) zeroth is names = cc

own_in_statement : {depth register : ℕ} {counters : List ℕ} {before after : Names} {symbols rest more : List Symbol} {name : List ℕ} {s : Option tree.Statement}
    → Statement [] depth (register ∷ counters) before symbols s rest after → register ≡ 0 → symbols ≡ identifier name ∷ more → before ≡ name ∷ [] → ⊥
own_in_statement rules.nothing zeroth is names = cc
own_in_statement (rules.declaration type d) zeroth is names = cc
own_in_statement (rules.given type c e) zeroth is names = cc
own_in_statement (rules.simple other s) zeroth is names = own_in_simple s zeroth is names
own_in_statement (rules.data_race s) zeroth is names = cc
own_in_statement (rules.a_call c) zeroth is names = absurd (subst BeginsCall is (call_begins c))
own_in_statement (rules.if_alone e b other) zeroth is names = cc
own_in_statement (rules.if_else e b o) zeroth is names = cc
own_in_statement (rules.for_turns c b) zeroth is names = cc

own_in_body : {depth register : ℕ} {counters : List ℕ} {before after : Names} {symbols rest more : List Symbol} {name : List ℕ} {block : tree.Block}
    → Body [] depth (register ∷ counters) before symbols block rest after → register ≡ 0 → symbols ≡ identifier name ∷ more → before ≡ name ∷ [] → ⊥
own_in_body (rules.braces lt s) zeroth is names = cc
own_in_body (rules.one lt s) zeroth is names = own_in_statement s zeroth is names

pub own_in_loop : {depth : ℕ} {counters : List ℕ} {before after : Names} {symbols rest : List Symbol} {s : Option tree.Statement}
    → Statement [] depth counters before symbols s rest after → symbols ≡ own_counter → before ≡ [] → ⊥
own_in_loop rules.nothing is names = cc
own_in_loop (rules.declaration type d) is names = cc
own_in_loop (rules.given type c e) is names = cc
own_in_loop (rules.simple other s) is names = absurd (subst BeginsSimple is (simple_begins s))
own_in_loop (rules.data_race s) is names = cc
own_in_loop (rules.a_call c) is names = absurd (subst BeginsCall is (call_begins c))
own_in_loop (rules.if_alone e b other) is names = cc
own_in_loop (rules.if_else e b o) is names = cc
own_in_loop (rules.for_turns {symbols = symbols} {name = name} c b) is names =
    let first = first_number c.is.numbered names in
    let same : name ≡ codes "i" = cc in
    let body : symbols ≡ identifier name ∷ drop 14 own_counter = cc in
    own_in_body b first.0 body first.1

-- a number and then a parenthesis is an expression alone
closes_nothing : (op : BinaryOperator) → sign_of_binary op ≡ CloseParen → ⊥
closes_nothing binaries.Multiply e = cc
closes_nothing binaries.Add e = cc
closes_nothing binaries.Subtract e = cc
closes_nothing binaries.Less e = cc
closes_nothing binaries.Greater e = cc
closes_nothing binaries.LessOrEqual e = cc
closes_nothing binaries.GreaterOrEqual e = cc
closes_nothing binaries.Equal e = cc
closes_nothing binaries.NotEqual e = cc
closes_nothing binaries.BitAnd e = cc
closes_nothing binaries.BitXor e = cc
closes_nothing binaries.BitOr e = cc

number_operand : {depth n : ℕ} {before after : Names} {symbols rest more : List Symbol} {e : tree.Expression}
    → Operand [] depth before symbols e rest after → symbols ≡ number n ∷ more → rest ≡ more
number_operand a_number is = cc
number_operand (a_register r) is = cc
number_operand (expressions.a_load l) is = absurd (subst BeginsLoad is (load_begins l))
number_operand (parenthesized lt l) is = cc

number_alone : {level depth n : ℕ} {before after : Names} {symbols rest more : List Symbol} {e : tree.Expression}
    → Level [] level depth before symbols e rest after → symbols ≡ number n ∷ sign CloseParen ∷ more → rest ≡ sign CloseParen ∷ more
number_alone (operand o) is = number_operand o is
number_alone (prefixed op l a) is = cc
number_alone (stronger l) is = number_alone l is
number_alone (infixed op level l r c) is =
    let closed = number_alone l is in
    absurd (closes_nothing op cc)

-- the inner `if` would have no `else`, though one follows
no_inner_if : {depth : ℕ} {counters : List ℕ} {before after : Names} {symbols rest others : List Symbol} {s : Option tree.Statement} {condition : tree.Expression} {body : tree.Block}
    → Statement [] depth counters before symbols s rest after → s ≡ Some (tree.if_block condition body) → rest ≡ word words.Else ∷ others → ⊥
no_inner_if rules.nothing is ends = cc
no_inner_if (rules.declaration type d) is ends = cc
no_inner_if (rules.given type c e) is ends = cc
no_inner_if (rules.simple {s = rules.load l} other s) is ends = cc
no_inner_if (rules.simple {s = rules.assignment a} other s) is ends = cc
no_inner_if (rules.data_race {s = rules.load l} s) is ends = cc
no_inner_if (rules.data_race {s = rules.assignment a} s) is ends = cc
no_inner_if (rules.a_call c) is ends = cc
no_inner_if (rules.if_alone e b other) is ends = other _ ends
no_inner_if (rules.if_else e b o) is ends = cc
no_inner_if (rules.for_turns c b) is ends = cc

no_inner_body : {depth : ℕ} {counters : List ℕ} {before after : Names} {symbols rest more others : List Symbol} {block : tree.Block} {condition : tree.Expression} {body : tree.Block}
    → Body [] depth counters before symbols block rest after → symbols ≡ word words.If ∷ more → block ≡ tree.first (tree.if_block condition body) tree.empty
    → rest ≡ word words.Else ∷ others → ⊥
no_inner_body (rules.braces lt s) is tree_is ends = cc
no_inner_body (rules.one {s = None} lt s) is tree_is ends = cc
no_inner_body {condition = condition} {body = body} (rules.one {s = Some t} lt s) is tree_is ends =
    let inner : Some t ≡ Some (tree.if_block condition body) = cc in
    no_inner_if s inner ends

pub else_is_inner : {depth : ℕ} {counters : List ℕ} {before after : Names} {symbols rest : List Symbol} {s : Option tree.Statement}
    → Statement [] depth counters before symbols s rest after → symbols ≡ dangling → s ≡ Some outer_else → ⊥
else_is_inner rules.nothing is tree_is = cc
else_is_inner (rules.declaration type d) is tree_is = cc
else_is_inner (rules.given type c e) is tree_is = cc
else_is_inner (rules.simple other s) is tree_is = absurd (subst BeginsSimple is (simple_begins s))
else_is_inner (rules.data_race s) is tree_is = cc
else_is_inner (rules.a_call c) is tree_is = absurd (subst BeginsCall is (call_begins c))
else_is_inner (rules.if_alone e b other) is tree_is = cc
else_is_inner (rules.if_else {symbols = symbols} {middle = middle} {body = body} e b o) is tree_is =
    let condition : symbols ≡ drop 2 dangling = cc in
    let closed = number_alone e.level condition in
    let inner : middle ≡ drop 4 dangling = cc in
    let block : body ≡ tree.first (tree.if_block (tree.pure (tree.number 2)) tree.empty) tree.empty = cc in
    no_inner_body b inner block refl
else_is_inner (rules.for_turns c b) is tree_is = cc
