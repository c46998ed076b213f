-- What the readers of expressions read is spelled so.
use Rattle.std.proofs.Common.{◌≡◌, ◌∙◌, ℕ, zero, suc, ◌+◌, ◌-◌, ◌*◌, ◌<◌, ◌≤◌, ◌==◌, nat_lt, List, [], ◌∷◌, ◌++◌, Bool, true, false, cond, Option, Some, None, length}
use Rattle.std.proofs.Common.{refl, sym, ap, subst, arith, add-one, eq-eqb, length-append}
use Rattle.std.specs.Prelude.{Contains}
use Rattle.std.proofs.lemmas.Bool.{eqb-true}
use Rattle.litmus_lex.specs.declared.sign.Sign.TheVariants.{OpenParen, CloseParen, Comma, Star, Plus, Minus, Tilde, Not, Ampersand, Caret, Bar, Less, Greater, LessEqual, GreaterEqual, Equal, NotEqual}
use Rattle.litmus_syntax.specs.declared.expression.BinaryOperator.{BinaryOperator}
use Rattle.litmus_syntax.specs.declared.expression.BinaryOperator.TheVariants as binaries
use Rattle.litmus_syntax.specs.declared.expression.UnaryOperator.{UnaryOperator}
use Rattle.litmus_syntax.specs.declared.expression.UnaryOperator.TheVariants as unaries
use Rattle.litmus_syntax.specs.declared.expression.ReadForm.{ReadForm}
use Rattle.litmus_syntax.specs.declared.expression.ReadForm.TheVariants as reads
use Rattle.litmus_syntax.specs.Tree as tree
use Rattle.litmus_lex.specs.declared.words.LoadWord.{LoadWord}
use Rattle.litmus_lex.specs.declared.words.LoadWord.TheVariants as loads
use Rattle.litmus_lex.specs.declared.words.VariableType.{VariableType}
use Rattle.litmus_lex.specs.declared.words.VariableType.TheVariants as types
use Rattle.litmus_lex.specs.declared.words.Word.{Word}
use Rattle.litmus_lex.specs.declared.words.Word.TheVariants as words
use Rattle.litmus_lex.specs.Front.{◌>>=◌, begins_call, first, identifier_at, is_sign, others, take_sign}
use Rattle.litmus_lex.specs.Words.{Symbol, word, identifier, number, sign, fault}
use Rattle.litmus_expression.specs.declared.expression.Rest.{Rest}
use Rattle.litmus_expression.specs.declared.process.Takes.{Takes}
use Rattle.litmus_expression.specs.declared.process.Takes.TheVariants.{Integers, Atomics, Locks, Memory}
use Rattle.litmus_syntax.specs.Limits.{operators, pure_operators}
use Rattle.litmus_expression.specs.ExpressionReader.{Readers, Beginning, a_number, parenthesis, a_load, a_name, nothing, Loader, starred, called, nothing_loads, by, deep, idle, all_of_it, beginning_of, binary_at, closed, fetch_with}
use Rattle.litmus_expression.specs.ExpressionReader.{is_data_race, is_foreign, loader_of, more_with, of_level, opened, operand_with, prefixed_with, pure_of, read_by, read_of, read_with, register_operand, take_operator, take_star, unary_at}
use Rattle.litmus_expression.specs.ExpressionReader as reader
use Rattle.litmus_expression.specs.Expressions as grammar
use Rattle.litmus_expression.specs.Expressions.{Level, Operand, Load, Pure, Applied, Combined, bare, enclosed_once, level_of, sign_of_binary, sign_of_unary}
use Rattle.litmus_expression.specs.Followed.{accesses}
use Rattle.litmus_expression.specs.NameReader.{count_access, free_name, index_of, name_among, numbered, parameter_named, register_at, register_name, register_named, take_register, take_variable, takes_type, variable_named, variable_of}
use Rattle.litmus_expression.specs.Names.{Names, Parameter, IsAtomic, IsFree, IsInteger, IsRegister, IsVariable, Numbered, known, new}
use Rattle.litmus_expression.specs.States.{State, after, with_left}
use Rattle.litmus_expression.proofs.Named.{index_nowhere, index_there, no_parameter, parameter_there}
use Rattle.litmus_expression.proofs.Shorter.{Found}
use Rattle.litmus_expression.proofs.Taken.{allowed, bind_some, chosen, front, guarded, is_sign_is, same_given, sign_taken}

-- ---- operators

pub binary_is : (x : Symbol) (op : BinaryOperator) → binary_at x ≡ Some op → x ≡ sign (sign_of_binary op)
binary_is (sign Star) op e = ap (λ (o : BinaryOperator). sign (sign_of_binary o)) (same_given binaries.Multiply op e)
binary_is (sign Plus) op e = ap (λ (o : BinaryOperator). sign (sign_of_binary o)) (same_given binaries.Add op e)
binary_is (sign Minus) op e = ap (λ (o : BinaryOperator). sign (sign_of_binary o)) (same_given binaries.Subtract op e)
binary_is (sign Less) op e = ap (λ (o : BinaryOperator). sign (sign_of_binary o)) (same_given binaries.Less op e)
binary_is (sign Greater) op e = ap (λ (o : BinaryOperator). sign (sign_of_binary o)) (same_given binaries.Greater op e)
binary_is (sign LessEqual) op e = ap (λ (o : BinaryOperator). sign (sign_of_binary o)) (same_given binaries.LessOrEqual op e)
binary_is (sign GreaterEqual) op e = ap (λ (o : BinaryOperator). sign (sign_of_binary o)) (same_given binaries.GreaterOrEqual op e)
binary_is (sign Equal) op e = ap (λ (o : BinaryOperator). sign (sign_of_binary o)) (same_given binaries.Equal op e)
binary_is (sign NotEqual) op e = ap (λ (o : BinaryOperator). sign (sign_of_binary o)) (same_given binaries.NotEqual op e)
binary_is (sign Ampersand) op e = ap (λ (o : BinaryOperator). sign (sign_of_binary o)) (same_given binaries.BitAnd op e)
binary_is (sign Caret) op e = ap (λ (o : BinaryOperator). sign (sign_of_binary o)) (same_given binaries.BitXor op e)
binary_is (sign Bar) op e = ap (λ (o : BinaryOperator). sign (sign_of_binary o)) (same_given binaries.BitOr op e)
binary_is _ op e = absurd cc

pub unary_is : (x : Symbol) (op : UnaryOperator) → unary_at x ≡ Some op → x ≡ sign (sign_of_unary op)
unary_is (sign Minus) op e = ap (λ (o : UnaryOperator). sign (sign_of_unary o)) (same_given unaries.Negate op e)
unary_is (sign Not) op e = ap (λ (o : UnaryOperator). sign (sign_of_unary o)) (same_given unaries.Not op e)
unary_is (sign Tilde) op e = ap (λ (o : UnaryOperator). sign (sign_of_unary o)) (same_given unaries.Complement op e)
unary_is _ op e = absurd cc

pub level_is : (k : ℕ) (o : Option BinaryOperator) (op : BinaryOperator) → of_level k o ≡ Some op → (o ≡ Some op) × (level_of op ≡ k)
level_is k None op e = absurd cc
level_is k (Some other) op e =
    let a = allowed (level_of other == k) (Some other) op e in
    let same = same_given other op a.1 in
    (ap (λ (o : BinaryOperator). Some o) same, ap level_of (sym same) ∙ eqb-true (level_of other) k a.0)

pub operator_taken : (r f : Rest) → take_operator r ≡ Some f → r.operators ≡ f.operators + 1
operator_taken r f e =
    let g = guarded (r.operators == 0) (Some (record r { operators = r.operators - 1 })) f e in
    let same = ap (λ (q : Rest). q.operators) (same_given (record r { operators = r.operators - 1 }) f g.1) in
    some r.operators f.operators g.0 same
  where
    some : (n m : ℕ) → (n == 0) ≡ false → n - 1 ≡ m → n ≡ m + 1
    some zero m e is = absurd cc
    some (suc n) m e is = omega arith

pub applied_is : (op : UnaryOperator) (a : tree.Expression) → Applied op a (reader.applied op a)
applied_is op (tree.pure a) = grammar.to_pure
applied_is op (tree.loading a) = grammar.to_loading

pub applied_counts : (t : ℕ) (op : UnaryOperator) (a : tree.Expression) → (operators (reader.applied op a) ≡ operators a + 1) × (accesses t (reader.applied op a) ≡ accesses t a)
applied_counts t op (tree.pure a) = (refl, refl)
applied_counts t op (tree.loading a) = (refl, refl)

pub record Combines (t : ℕ) (op : BinaryOperator) (a b c : tree.Expression) : Type 0 where
  pub is : Combined op a b c
  pub operators_are : operators c ≡ operators a + operators b + 1
  pub accesses_are : accesses t c ≡ accesses t a + accesses t b

pub combined_is : (t : ℕ) (op : BinaryOperator) (a b c : tree.Expression) → reader.combined a op b ≡ Some c → Combines t op a b c
combined_is t op (tree.pure a) (tree.pure b) c e =
    subst (Combines t op (tree.pure a) (tree.pure b)) (same_given (tree.pure (tree.binary op a b)) c e) (record { is = grammar.none; operators_are = refl; accesses_are = refl })
combined_is t op (tree.pure a) (tree.loading b) c e =
    subst (Combines t op (tree.pure a) (tree.loading b)) (same_given (tree.loading (tree.right op a b)) c e) (record { is = grammar.right; operators_are = refl; accesses_are = omega arith })
combined_is t op (tree.loading a) (tree.pure b) c e =
    subst (Combines t op (tree.loading a) (tree.pure b)) (same_given (tree.loading (tree.left op a b)) c e) (record { is = grammar.left; operators_are = refl; accesses_are = omega arith })
combined_is t op (tree.loading a) (tree.loading b) c e = absurd cc

-- ---- names

integer_type : (type : VariableType) → takes_type Integers type ≡ true → IsInteger type
integer_type types.Char e = tt
integer_type types.Short e = tt
integer_type types.Int e = tt
integer_type types.Long e = tt
integer_type types.Atomic e = absurd cc
integer_type types.Lock e = absurd cc

atomic_type : (type : VariableType) → takes_type Atomics type ≡ true → IsAtomic type
atomic_type types.Char e = absurd cc
atomic_type types.Short e = absurd cc
atomic_type types.Int e = absurd cc
atomic_type types.Long e = absurd cc
atomic_type types.Atomic e = refl
atomic_type types.Lock e = absurd cc

-- the state where only these symbols are left
pub record Moved (s x : State) : Type 0 where
  pub parameters : x.parameters ≡ s.parameters
  pub names : x.names ≡ s.names
  pub statements : x.statements ≡ s.statements
  pub repeats : x.repeats ≡ s.repeats

pub record ReadsVariable (takes : Takes) (s : State) (x : ℕ × State) : Type 0 where
  pub name : List ℕ
  pub p : Parameter
  pub next : s.symbols ≡ identifier name ∷ x.1.symbols
  pub there : Contains s.parameters p
  pub name_is : p.name ≡ name
  pub variable_is : p.variable ≡ x.0
  pub takes_it : takes_type takes p.type ≡ true
  pub moved : Moved s x.1

identifier_is : (x : Symbol) (name : List ℕ) → identifier_at x ≡ Some name → x ≡ identifier name
identifier_is (word w) name e = absurd cc
identifier_is (identifier other) name e = ap identifier (same_given other name e)
identifier_is (number n) name e = absurd cc
identifier_is (sign t) name e = absurd cc
identifier_is fault name e = absurd cc

name_next : (symbols : List Symbol) (name : List ℕ) → identifier_at (first symbols) ≡ Some name → symbols ≡ identifier name ∷ others symbols
name_next symbols name e = front symbols (identifier name) (identifier_is (first symbols) name e) (λ never. cc)

stays : (s : State) → Moved s s
stays s = record { parameters = refl; names = refl; statements = refl; repeats = refl }

variable_of_reads : (takes : Takes) (s : State) (name : List ℕ) (o : Option Parameter) (x : ℕ × State)
    → identifier_at (first s.symbols) ≡ Some name → parameter_named s.parameters name ≡ o → variable_of takes s o ≡ Some x → ReadsVariable takes s x
variable_of_reads takes s name None x next is e = absurd cc
variable_of_reads takes s name (Some p) x next is e =
    let a = allowed (takes_type takes p.type) (Some (p.variable, after s)) x e in
    let there = parameter_there s.parameters name p is in
    subst (ReadsVariable takes s) (same_given (p.variable, after s) x a.1) (record {
      name = name;
      p = p;
      next = name_next s.symbols name next;
      there = there.0;
      name_is = there.1;
      variable_is = refl;
      takes_it = a.0;
      moved = record { parameters = refl; names = refl; statements = refl; repeats = refl };
    })

variable_named_reads : (takes : Takes) (s : State) (o : Option (List ℕ)) (x : ℕ × State) → identifier_at (first s.symbols) ≡ o → variable_named takes s o ≡ Some x → ReadsVariable takes s x
variable_named_reads takes s None x next e = absurd cc
variable_named_reads takes s (Some name) x next e = variable_of_reads takes s name (parameter_named s.parameters name) x next refl e

pub variable_reads : (takes : Takes) (s : State) (x : ℕ × State) → take_variable takes s ≡ Some x → ReadsVariable takes s x
unfolding take_variable
variable_reads takes s x e = variable_named_reads takes s (identifier_at (first s.symbols)) x refl e

pub integer_variable : (s : State) (x : ℕ × State) (v : ReadsVariable Integers s x) → IsVariable s.parameters IsInteger v.name x.0
integer_variable s x v =
    let at_name = subst (λ (n : List ℕ). IsVariable s.parameters IsInteger n v.p.variable) v.name_is (record { type = v.p.type; parameter = v.there; of_form = integer_type v.p.type v.takes_it }) in
    subst (λ (n : ℕ). IsVariable s.parameters IsInteger v.name n) v.variable_is at_name

pub atomic_variable : (s : State) (x : ℕ × State) (v : ReadsVariable Atomics s x) → IsVariable s.parameters IsAtomic v.name x.0
atomic_variable s x v =
    let at_name = subst (λ (n : List ℕ). IsVariable s.parameters IsAtomic n v.p.variable) v.name_is (record { type = v.p.type; parameter = v.there; of_form = atomic_type v.p.type v.takes_it }) in
    subst (λ (n : ℕ). IsVariable s.parameters IsAtomic v.name n) v.variable_is at_name

-- REG that is read
pub record ReadsRegister (s : State) (x : ℕ × State) : Type 0 where
  pub name : List ℕ
  pub next : s.symbols ≡ identifier name ∷ others s.symbols
  pub is : IsRegister s.parameters s.names name x.0 x.1.names
  pub within : length x.1.names ≤ 32
  pub symbols : x.1.symbols ≡ s.symbols
  pub parameters : x.1.parameters ≡ s.parameters
  pub statements : x.1.statements ≡ s.statements
  pub repeats : x.1.repeats ≡ s.repeats

free_is : (parameters : List Parameter) (name : List ℕ) → parameter_named parameters name ≡ None → IsFree parameters name
free_is parameters name e variable type there = no_parameter parameters name e (record { name = name; variable = variable; type = type }) refl there

not_all : (n : ℕ) → (n == 32) ≡ false → n ≤ 32 → n < 32
not_all n e le = grind (arith, eq-eqb n 32)

numbered_reads : (s : State) (name : List ℕ) (o : Option ℕ) (x : ℕ × State)
    → s.symbols ≡ identifier name ∷ others s.symbols → IsFree s.parameters name → length s.names ≤ 32 → index_of s.names name ≡ o → numbered s name o ≡ Some x → ReadsRegister s x
numbered_reads s name (Some n) x next free le is e =
    subst (ReadsRegister s) (same_given (n, s) x e) (record {
      name = name;
      next = next;
      is = record { free = free; numbered = known (index_there s.names name n is) };
      within = le;
      symbols = refl;
      parameters = refl;
      statements = refl;
      repeats = refl;
    })
numbered_reads s name None x next free le is e =
    let grown : State = record s { names = s.names ++ name ∷ [] } in
    let g = guarded (length s.names == 32) (Some (length s.names, grown)) x e in
    subst (ReadsRegister s) (same_given (length s.names, grown) x g.1) (record {
      name = name;
      next = next;
      is = record { free = free; numbered = new (index_nowhere s.names name is) (not_all (length s.names) g.0 le) };
      within = (let lt : length s.names < 32 = not_all (length s.names) g.0 le in omega (arith, length-append s.names (name ∷ [])));
      symbols = refl;
      parameters = refl;
      statements = refl;
      repeats = refl;
    })

free_name_is : (other name : List ℕ) (o : Option Parameter) → free_name other o ≡ Some name → (o ≡ None) × (other ≡ name)
free_name_is other name None e = (refl, same_given other name e)
free_name_is other name (Some p) e = absurd cc

among_is : (parameters : List Parameter) (o : Option (List ℕ)) (name : List ℕ) → name_among parameters o ≡ Some name → (o ≡ Some name) × (parameter_named parameters name ≡ None)
among_is parameters None name e = absurd cc
among_is parameters (Some other) name e =
    let f = free_name_is other name (parameter_named parameters other) e in
    (ap (λ (n : List ℕ). Some n) f.1, ap (parameter_named parameters) (sym f.1) ∙ f.0)

register_named_reads : (s : State) (o : Option (List ℕ)) (x : ℕ × State) → length s.names ≤ 32 → register_name s ≡ o → register_named s o ≡ Some x → ReadsRegister s x
register_named_reads s None x le is e = absurd cc
register_named_reads s (Some name) x le is e =
    let a = among_is s.parameters (identifier_at (first s.symbols)) name is in
    numbered_reads s name (index_of s.names name) x (name_next s.symbols name a.0) (free_is s.parameters name a.1) le refl e

pub register_reads : (s : State) (x : ℕ × State) → length s.names ≤ 32 → register_at s ≡ Some x → ReadsRegister s x
unfolding register_at
register_reads s x le e = register_named_reads s (register_name s) x le refl e

-- ---- pieces of loads

-- so many `data_race (` and then these symbols
abbrev Opens : ℕ → List Symbol → List Symbol → Type 0
Opens zero outer inner = outer ≡ inner
Opens (suc n) outer inner = (middle : List Symbol) × Opens n outer middle × (middle ≡ word words.DataRace ∷ sign OpenParen ∷ inner)

opens_before : (n : ℕ) (symbols inner : List Symbol) → Opens n symbols inner → Opens (suc n) (word words.DataRace ∷ sign OpenParen ∷ symbols) inner
opens_before zero symbols inner e = (word words.DataRace ∷ sign OpenParen ∷ symbols, refl, ap (λ (l : List Symbol). word words.DataRace ∷ sign OpenParen ∷ l) e)
opens_before (suc n) symbols inner (middle, opens, e) = (middle, opens_before n symbols middle opens, e)

race_is : (x : Symbol) → is_data_race x ≡ true → x ≡ word words.DataRace
race_is (word words.DataRace) e = refl
race_is _ e = absurd cc

opened_is : (count : ℕ) (symbols : List Symbol) (x : ℕ × List Symbol) → opened count symbols ≡ Some x → (n : ℕ) × (x.0 ≡ count + n) × Opens n symbols x.1
unfolding opened
opened_is count [] x e =
    subst (λ (y : ℕ × List Symbol). (n : ℕ) × (y.0 ≡ count + n) × Opens n [] y.1) (same_given (count, []) x e) (0, omega arith, refl)
opened_is count (a ∷ []) x e =
    let g = guarded (is_data_race a) (Some (count, a ∷ [])) x e in
    subst (λ (y : ℕ × List Symbol). (n : ℕ) × (y.0 ≡ count + n) × Opens n (a ∷ []) y.1) (same_given (count, a ∷ []) x g.1) (0, omega arith, refl)
opened_is count (a ∷ b ∷ symbols) x e =
    chosen (is_data_race a) (cond (is_sign OpenParen b) (opened (count + 1) symbols) None) (Some (count, a ∷ b ∷ symbols)) x ((n : ℕ) × (x.0 ≡ count + n) × Opens n (a ∷ b ∷ symbols) x.1) e
    (λ race rest.
    let inside = allowed (is_sign OpenParen b) (opened (count + 1) symbols) x rest in
    let found = opened_is (count + 1) symbols x inside.1 in
    let whole : a ∷ b ∷ symbols ≡ word words.DataRace ∷ sign OpenParen ∷ symbols =
    ap (λ (y : Symbol). y ∷ b ∷ symbols) (race_is a race) ∙ ap (λ (y : Symbol). word words.DataRace ∷ y ∷ symbols) (is_sign_is OpenParen b inside.0) in
    (suc found.0, omega (arith, found.1), subst (λ (l : List Symbol). Opens (suc found.0) l x.1) (sym whole) (opens_before found.0 symbols x.1 found.2)))
    (λ none rest.
    subst (λ (y : ℕ × List Symbol). (n : ℕ) × (y.0 ≡ count + n) × Opens n (a ∷ b ∷ symbols) y.1) (same_given (count, a ∷ b ∷ symbols) x rest) (0, omega arith, refl))

abbrev load_in : ℕ → tree.Fetch → tree.Load
load_in n fetch = record { data_races = n; fetch = fetch }

wrapped : (P : List Parameter) (d : ℕ) (before later : Names) (fetch : tree.Fetch) (n m : ℕ) (outer inner closing rest : List Symbol) → Opens m outer inner → closed m closing ≡ Some rest
    → Load P d before inner (load_in n fetch) closing later → Load P d before outer (load_in (n + m) fetch) rest later
unfolding closed
wrapped P d before later fetch n zero outer inner closing rest opens closes l =
    let same : closing ≡ rest = same_given closing rest closes in
    let count : n ≡ n + 0 = omega arith in
    let one = subst (λ (r : List Symbol). Load P d before inner (load_in n fetch) r later) same l in
    let two = subst (λ (k : ℕ). Load P d before inner (load_in k fetch) rest later) count one in
    subst (λ (o : List Symbol). Load P d before o (load_in (n + 0) fetch) rest later) (sym opens) two
wrapped P d before later fetch n (suc m) outer inner closing rest (middle, opens, e) closes l =
    let b = bind_some (take_sign CloseParen closing) (λ r. closed m r) rest closes in
    let at_close = subst (λ (r : List Symbol). Load P d before inner (load_in n fetch) r later) (sign_taken CloseParen closing b.0 b.1) l in
    let enclosed_here = grammar.enclosed at_close in
    let here = subst (λ (o : List Symbol). Load P d before o (load_in (n + 1) fetch) b.0 later) (sym e) enclosed_here in
    let all = wrapped P d before later fetch (n + 1) m outer middle b.0 rest opens b.2 here in
    let count : (n + 1) + m ≡ n + suc m = omega arith in
    subst (λ (k : ℕ). Load P d before outer (load_in k fetch) rest later) count all

-- ---- the parts

pub record ReadsExpression (Spelled : State → tree.Expression → State → Type 0) (t : ℕ) (s : State) (r : Rest) (x : Found) : Type 0 where
  pub spelled : Spelled s x.0 x.1
  pub within : length x.1.names ≤ 32
  pub parameters : x.1.parameters ≡ s.parameters
  pub statements : x.1.statements ≡ s.statements
  pub repeats : x.1.repeats ≡ s.repeats + accesses t x.0
  pub operators_are : r.operators ≡ x.2.operators + operators x.0

abbrev pub AtLevel : ℕ → ℕ → State → tree.Expression → State → Type 0
AtLevel k d s a u = Level s.parameters k d s.names s.symbols a u.symbols u.names

abbrev pub AsOperand : ℕ → State → tree.Expression → State → Type 0
AsOperand d s a u = Operand s.parameters d s.names s.symbols a u.symbols u.names

-- what is read behind an expression goes on with it
abbrev pub GoesOn : ℕ → ℕ → tree.Expression → State → tree.Expression → State → Type 0
GoesOn k d a s b u = (before : Names) (symbols : List Symbol) → Level s.parameters k d before symbols a s.symbols s.names → Level s.parameters k d before symbols b u.symbols u.names

pub record ReadsMore (t d k : ℕ) (a : tree.Expression) (s : State) (r : Rest) (x : Found) : Type 0 where
  pub goes_on : GoesOn k d a s x.0 x.1
  pub within : length x.1.names ≤ 32
  pub parameters : x.1.parameters ≡ s.parameters
  pub statements : x.1.statements ≡ s.statements
  pub repeats : x.1.repeats + accesses t a ≡ s.repeats + accesses t x.0
  pub operators_are : r.operators + operators a ≡ x.2.operators + operators x.0

pub record ReadsLoad (A : Type 0) (Spelled : State → A → State → Type 0) (turns : ℕ) (s : State) (x : A × State) : Type 0 where
  pub spelled : Spelled s x.0 x.1
  pub within : length x.1.names ≤ 32
  pub parameters : x.1.parameters ≡ s.parameters
  pub statements : x.1.statements ≡ s.statements
  pub repeats : x.1.repeats ≡ s.repeats + turns

abbrev pub AsLoad : ℕ → State → tree.Load → State → Type 0
AsLoad d s l u = Load s.parameters d s.names s.symbols l u.symbols u.names

abbrev pub AsFetch : ℕ → State → tree.Fetch → State → Type 0
AsFetch d s f u = Load s.parameters d s.names s.symbols (bare f) u.symbols u.names

-- between the parentheses of a load
abbrev pub AsArguments : ℕ → LoadWord → State → tree.Fetch → State → Type 0
AsArguments d w s f u = (rest : List Symbol) → u.symbols ≡ sign CloseParen ∷ rest → Load s.parameters d s.names (word (words.Load w) ∷ sign OpenParen ∷ s.symbols) (bare f) rest u.names

abbrev pub AsPure : ℕ → State → tree.Pure → State → Type 0
AsPure d s a u = Pure s.parameters d s.names s.symbols a u.symbols u.names

pub record Sound (R : Readers) : Type 0 where
  pub level : (t d k : ℕ) (s : State) (r : Rest) (x : Found) → d ≤ 16 → length s.names ≤ 32 → R.level t d k s r ≡ Some x → ReadsExpression (AtLevel k d) t s r x
  pub more : (t d k : ℕ) (a : tree.Expression) (s : State) (r : Rest) (x : Found) → 0 < k → d ≤ 16 → length s.names ≤ 32 → R.more t d k a s r ≡ Some x → ReadsMore t d k a s r x
  pub prefixed : (t d : ℕ) (s : State) (r : Rest) (x : Found) → d ≤ 16 → length s.names ≤ 32 → R.prefixed t d s r ≡ Some x → ReadsExpression (AtLevel 0 d) t s r x
  pub operand : (t d : ℕ) (s : State) (r : Rest) (x : Found) → d ≤ 16 → length s.names ≤ 32 → R.operand t d s r ≡ Some x → ReadsExpression (AsOperand d) t s r x
  pub loading : (t d : ℕ) (s : State) (r : Rest) (x : Found) → d ≤ 16 → length s.names ≤ 32 → R.loading t d s r ≡ Some x → ReadsExpression (AsOperand d) t s r x
  pub load : (t d : ℕ) (s : State) (x : tree.Load × State) → d ≤ 16 → length s.names ≤ 32 → R.load t d s ≡ Some x → ReadsLoad tree.Load (AsLoad d) t s x
  pub fetch : (t d : ℕ) (s : State) (x : tree.Fetch × State) → d ≤ 16 → length s.names ≤ 32 → R.fetch t d s ≡ Some x → ReadsLoad tree.Fetch (AsFetch d) 0 s x
  pub arguments : (t d : ℕ) (w : LoadWord) (s : State) (x : tree.Fetch × State) → d ≤ 16 → length s.names ≤ 32 → R.arguments t d w s ≡ Some x → ReadsLoad tree.Fetch (AsArguments d w) 0 s x
  pub pure : (t d : ℕ) (s : State) (x : tree.Pure × State) → d ≤ 16 → length s.names ≤ 32 → R.pure t d s ≡ Some x → ReadsLoad tree.Pure (AsPure d) 0 s x

begins : (symbols : List Symbol) (x : Symbol) → first symbols ≡ x → ¬ (x ≡ fault) → symbols ≡ x ∷ others symbols
begins symbols x e some = front symbols x e some

pub record ReadsName (d : ℕ) (s : State) (x : tree.Expression × State) : Type 0 where
  pub reads : ReadsLoad tree.Expression (AsOperand d) 0 s x
  pub no_operator : operators x.0 ≡ 0
  pub no_access : (t : ℕ) → accesses t x.0 ≡ 0

register_operand_reads : (d : ℕ) (s : State) (x : tree.Expression × State) → length s.names ≤ 32 → register_operand s ≡ Some x → ReadsName d s x
unfolding register_operand take_register
register_operand_reads d s x within e =
    let g = guarded (begins_call s.symbols) ((register_at s >>= λ y. Some (y.0, after y.1)) >>= λ y. Some (tree.pure (tree.register y.0), y.1)) x e in
    let b = bind_some (register_at s >>= λ y. Some (y.0, after y.1)) (λ y. Some (tree.pure (tree.register y.0), y.1)) x g.1 in
    let c = bind_some (register_at s) (λ y. Some (y.0, after y.1)) b.0 b.1 in
    let r = register_reads s c.0 within c.1 in
    let b_is : (c.0.0, after c.0.1) ≡ b.0 = same_given (c.0.0, after c.0.1) b.0 c.2 in
    let there : others s.symbols ≡ others c.0.1.symbols = ap others (sym r.symbols) in
    let one : Operand s.parameters d s.names (identifier r.name ∷ others s.symbols) (tree.pure (tree.register c.0.0)) (others s.symbols) c.0.1.names = grammar.a_register r.is in
    let two = subst (λ (l : List Symbol). Operand s.parameters d s.names l (tree.pure (tree.register c.0.0)) (others s.symbols) c.0.1.names) (sym r.next) one in
    let three = subst (λ (l : List Symbol). Operand s.parameters d s.names s.symbols (tree.pure (tree.register c.0.0)) l c.0.1.names) there two in
    let made : ReadsName d s (tree.pure (tree.register c.0.0), after c.0.1) = record {
      reads = record { spelled = three; within = r.within; parameters = r.parameters; statements = r.statements; repeats = omega (arith, r.repeats) };
      no_operator = refl;
      no_access = λ t. refl;
    } in
    let with_b = subst (λ (y : ℕ × State). ReadsName d s (tree.pure (tree.register y.0), y.1)) b_is made in
    subst (ReadsName d s) (same_given (tree.pure (tree.register b.0.0), b.0.1) x b.2) with_b

pub record Counted (t : ℕ) (s c : State) : Type 0 where
  pub symbols : c.symbols ≡ s.symbols
  pub parameters : c.parameters ≡ s.parameters
  pub names : c.names ≡ s.names
  pub statements : c.statements ≡ s.statements
  pub repeats : c.repeats ≡ s.repeats + t

access_is : (t : ℕ) (s c : State) → count_access t s ≡ Some c → Counted t s c
access_is t s c e =
    let g = guarded (nat_lt 1024 (s.repeats + t)) (Some (record s { repeats = s.repeats + t })) c e in
    subst (Counted t s) (same_given (record s { repeats = s.repeats + t }) c g.1) (record { symbols = refl; parameters = refl; names = refl; statements = refl; repeats = refl })

-- ---- variables that are read

-- a variable of a form stands there
integer_read : (form : ReadForm) (s : State) (x : tree.Fetch × State) → read_by form ≡ Integers → read_of form s ≡ Some x
    → (v : ℕ × State) × (is : ReadsVariable Integers s v) × ((tree.read form v.0, v.1) ≡ x)
unfolding read_of
integer_read form s x is e =
    let b = bind_some (take_variable (read_by form) s) (λ v. Some (tree.read form v.0, v.1)) x e in
    (b.0, subst (λ (k : Takes). ReadsVariable k s b.0) is (variable_reads (read_by form) s b.0 b.1), same_given (tree.read form b.0.0, b.0.1) x b.2)

atomic_read : (s : State) (x : tree.Fetch × State) → read_of reads.Atomic s ≡ Some x
    → (v : ℕ × State) × (is : ReadsVariable Atomics s v) × ((tree.read reads.Atomic v.0, v.1) ≡ x)
unfolding read_of
atomic_read s x e =
    let b = bind_some (take_variable Atomics s) (λ v. Some (tree.read reads.Atomic v.0, v.1)) x e in
    (b.0, variable_reads Atomics s b.0 b.1, same_given (tree.read reads.Atomic b.0.0, b.0.1) x b.2)

star_is : (s u : State) → take_star s ≡ Some u → (symbols : List Symbol) × (s.symbols ≡ sign Star ∷ symbols) × (with_left s symbols ≡ u)
unfolding take_star
star_is s u e =
    let b = bind_some (take_sign Star s.symbols) (λ l. Some (with_left s l)) u e in
    (b.0, sign_taken Star s.symbols b.0 b.1, same_given (with_left s b.0) u b.2)

plain_sound : (d : ℕ) (s : State) (x : tree.Fetch × State) → length s.names ≤ 32 → s.symbols ≡ sign Star ∷ others s.symbols → read_of reads.Plain (after s) ≡ Some x → ReadsLoad tree.Fetch (AsFetch d) 0 s x
plain_sound d s x within next e =
    let (v, is, made) = integer_read reads.Plain (after s) x refl e in
    let all : s.symbols ≡ sign Star ∷ identifier is.name ∷ v.1.symbols = next ∙ ap (λ (l : List Symbol). sign Star ∷ l) is.next in
    let one : Load s.parameters d s.names (sign Star ∷ identifier is.name ∷ v.1.symbols) (bare (tree.read reads.Plain v.0)) v.1.symbols s.names = grammar.plain (integer_variable (after s) v is) in
    let two = subst (λ (l : List Symbol). Load s.parameters d s.names l (bare (tree.read reads.Plain v.0)) v.1.symbols s.names) (sym all) one in
    subst (ReadsLoad tree.Fetch (AsFetch d) 0 s) made (record {
      spelled = subst (λ (n : Names). Load s.parameters d s.names s.symbols (bare (tree.read reads.Plain v.0)) v.1.symbols n) (sym is.moved.names) two;
      within = subst (λ (n : Names). length n ≤ 32) (sym is.moved.names) within;
      parameters = is.moved.parameters;
      statements = is.moved.statements;
      repeats = omega (arith, is.moved.repeats);
    })

module _ (d : ℕ) (w : LoadWord) (s : State) (within : length s.names ≤ 32) where
  -- between the parentheses a variable was read, behind which the symbols are closed
  arguments_made : (x : tree.Fetch × State) (names : x.1.names ≡ s.names) (parameters : x.1.parameters ≡ s.parameters) (statements : x.1.statements ≡ s.statements) (repeats : x.1.repeats ≡ s.repeats)
      → ((rest : List Symbol) → x.1.symbols ≡ sign CloseParen ∷ rest → Load s.parameters d s.names (word (words.Load w) ∷ sign OpenParen ∷ s.symbols) (bare x.0) rest s.names)
      → ReadsLoad tree.Fetch (AsArguments d w) 0 s x
  arguments_made x names parameters statements repeats spelled = record {
    spelled = λ rest closes. subst (λ (n : Names). Load s.parameters d s.names (word (words.Load w) ∷ sign OpenParen ∷ s.symbols) (bare x.0) rest n) (sym names) (spelled rest closes);
    within = subst (λ (n : Names). length n ≤ 32) (sym names) within;
    parameters = parameters;
    statements = statements;
    repeats = omega (arith, repeats);
  }

read_sound : (d : ℕ) (form : ReadForm) (s : State) (x : tree.Fetch × State) → length s.names ≤ 32 → read_with form s ≡ Some x → ReadsLoad tree.Fetch (AsArguments d (loads.Read form)) 0 s x
read_sound d reads.Plain s x within e = absurd cc
read_sound d reads.Once s x within e =
    let b = bind_some (take_star s) (λ u. read_of reads.Once u) x e in
    let (symbols, next, u_is) = star_is s b.0 b.1 in
    let behind : read_of reads.Once (with_left s symbols) ≡ Some x = subst (λ (u : State). read_of reads.Once u ≡ Some x) (sym u_is) b.2 in
    let (v, is, made) = integer_read reads.Once (with_left s symbols) x refl behind in
    let all : s.symbols ≡ sign Star ∷ identifier is.name ∷ v.1.symbols = next ∙ ap (λ (l : List Symbol). sign Star ∷ l) is.next in
    subst (ReadsLoad tree.Fetch (AsArguments d (loads.Read reads.Once)) 0 s) made
    (arguments_made d (loads.Read reads.Once) s within (tree.read reads.Once v.0, v.1) is.moved.names is.moved.parameters is.moved.statements is.moved.repeats
    (λ rest closes.
    let whole : s.symbols ≡ sign Star ∷ identifier is.name ∷ sign CloseParen ∷ rest = all ∙ ap (λ (l : List Symbol). sign Star ∷ identifier is.name ∷ l) closes in
    subst (λ (l : List Symbol). Load s.parameters d s.names (word (words.Load (loads.Read reads.Once)) ∷ sign OpenParen ∷ l) (bare (tree.read reads.Once v.0)) rest s.names) (sym whole)
    (grammar.once (integer_variable (with_left s symbols) v is))))
read_sound d reads.Acquire s x within e =
    let (v, is, made) = integer_read reads.Acquire s x refl e in
    subst (ReadsLoad tree.Fetch (AsArguments d (loads.Read reads.Acquire)) 0 s) made
    (arguments_made d (loads.Read reads.Acquire) s within (tree.read reads.Acquire v.0, v.1) is.moved.names is.moved.parameters is.moved.statements is.moved.repeats
    (λ rest closes.
    let whole : s.symbols ≡ identifier is.name ∷ sign CloseParen ∷ rest = is.next ∙ ap (λ (l : List Symbol). identifier is.name ∷ l) closes in
    subst (λ (l : List Symbol). Load s.parameters d s.names (word (words.Load (loads.Read reads.Acquire)) ∷ sign OpenParen ∷ l) (bare (tree.read reads.Acquire v.0)) rest s.names) (sym whole)
    (grammar.acquire (integer_variable s v is))))
read_sound d reads.Atomic s x within e =
    let (v, is, made) = atomic_read s x e in
    subst (ReadsLoad tree.Fetch (AsArguments d (loads.Read reads.Atomic)) 0 s) made
    (arguments_made d (loads.Read reads.Atomic) s within (tree.read reads.Atomic v.0, v.1) is.moved.names is.moved.parameters is.moved.statements is.moved.repeats
    (λ rest closes.
    let whole : s.symbols ≡ identifier is.name ∷ sign CloseParen ∷ rest = is.next ∙ ap (λ (l : List Symbol). identifier is.name ∷ l) closes in
    subst (λ (l : List Symbol). Load s.parameters d s.names (word (words.Load (loads.Read reads.Atomic)) ∷ sign OpenParen ∷ l) (bare (tree.read reads.Atomic v.0)) rest s.names) (sym whole)
    (grammar.atomic (atomic_variable s v is))))

level_zero : (P : List Parameter) (d : ℕ) (before later : Names) (symbols rest : List Symbol) (a : tree.Expression) → Operand P d before symbols a rest later → Level P 0 d before symbols a rest later
level_zero P d before later symbols rest a o = grammar.operand o

module _ (R : Readers) (h : Sound R) where
  more_sound : (t d j : ℕ) (a : tree.Expression) (s : State) (r : Rest) (o : Option BinaryOperator) (x : Found) → d ≤ 16 → length s.names ≤ 32 → of_level (suc j) (binary_at (first s.symbols)) ≡ o
      → more_with R t d (suc j) a s r o ≡ Some x
      → ReadsMore t d (suc j) a s r x
  more_sound t d j a s r None x deep within is e =
      subst (ReadsMore t d (suc j) a s r) (same_given (a, s, r) x e) (record { goes_on = λ before symbols l. l; within = within; parameters = refl; statements = refl; repeats = refl; operators_are = refl })
  more_sound t d j a s r (Some op) x deep within is e =
      let one = bind_some (take_operator r) (λ fewer. R.level t d (suc j - 1) (after s) fewer >>= λ y. reader.combined a op y.0 >>= λ both. R.more t d (suc j) both y.1 y.2) x e in
      let two = bind_some (R.level t d (suc j - 1) (after s) one.0) (λ y. reader.combined a op y.0 >>= λ both. R.more t d (suc j) both y.1 y.2) x one.2 in
      let three = bind_some (reader.combined a op two.0.0) (λ both. R.more t d (suc j) both two.0.1 two.0.2) x two.2 in
      let op_is = level_is (suc j) (binary_at (first s.symbols)) op is in
      let next : s.symbols ≡ sign (sign_of_binary op) ∷ others s.symbols = begins s.symbols (sign (sign_of_binary op)) (binary_is (first s.symbols) op op_is.0) (λ never. cc) in
      let right = h.level t d (suc j - 1) (after s) one.0 two.0 deep within two.1 in
      let both = combined_is t op a two.0.0 three.0 three.1 in
      let rest = h.more t d (suc j) three.0 two.0.1 two.0.2 x (omega arith) deep right.within three.2 in
      let j_is : suc j - 1 ≡ j = omega arith in
      let right_at : Level s.parameters j d s.names (others s.symbols) two.0.0 two.0.1.symbols two.0.1.names
      = subst (λ (k : ℕ). Level s.parameters k d s.names (others s.symbols) two.0.0 two.0.1.symbols two.0.1.names) j_is right.spelled in
      record {
        goes_on = λ before symbols l.
            let left = subst (λ (m : List Symbol). Level s.parameters (suc j) d before symbols a m s.names) next l in
            let whole : Level s.parameters (suc j) d before symbols three.0 two.0.1.symbols two.0.1.names = grammar.infixed op op_is.1 left right_at both.is in
            let there = subst (λ (P : List Parameter). Level P (suc j) d before symbols three.0 two.0.1.symbols two.0.1.names) (sym right.parameters) whole in
            subst (λ (P : List Parameter). Level P (suc j) d before symbols x.0 x.1.symbols x.1.names) right.parameters (rest.goes_on before symbols there);
        within = rest.within;
        parameters = rest.parameters ∙ right.parameters;
        statements = rest.statements ∙ right.statements;
        repeats = omega (arith, rest.repeats, right.repeats, both.accesses_are);
        operators_are = omega (arith, rest.operators_are, right.operators_are, both.operators_are, operator_taken r one.0 one.1);
      }

  prefixed_sound : (t d : ℕ) (s : State) (r : Rest) (o : Option UnaryOperator) (x : Found) → d ≤ 16 → length s.names ≤ 32 → unary_at (first s.symbols) ≡ o
      → prefixed_with R t d s r o ≡ Some x → ReadsExpression (AtLevel 0 d) t s r x
  prefixed_sound t d s r None x deep within is e =
      let b = bind_some (R.operand t d s r) (λ y. cond (is_foreign (first y.1.symbols)) None (Some y)) x e in
      let g = guarded (is_foreign (first b.0.1.symbols)) (Some b.0) x b.2 in
      let o = h.operand t d s r b.0 deep within b.1 in
      subst (ReadsExpression (AtLevel 0 d) t s r) (same_given b.0 x g.1) (record {
        spelled = grammar.operand o.spelled;
        within = o.within;
        parameters = o.parameters;
        statements = o.statements;
        repeats = o.repeats;
        operators_are = o.operators_are;
      })
  prefixed_sound t d s r (Some op) x deep within is e =
      let one = bind_some (take_operator r) (λ fewer. R.prefixed t d (after s) fewer >>= λ y. Some (reader.applied op y.0, y.1, y.2)) x e in
      let two = bind_some (R.prefixed t d (after s) one.0) (λ y. Some (reader.applied op y.0, y.1, y.2)) x one.2 in
      let next : s.symbols ≡ sign (sign_of_unary op) ∷ others s.symbols = begins s.symbols (sign (sign_of_unary op)) (unary_is (first s.symbols) op is) (λ never. cc) in
      let inside = h.prefixed t d (after s) one.0 two.0 deep within two.1 in
      let counts = applied_counts t op two.0.0 in
      let whole = grammar.prefixed op inside.spelled (applied_is op two.0.0) in
      subst (ReadsExpression (AtLevel 0 d) t s r) (same_given (reader.applied op two.0.0, two.0.1, two.0.2) x two.2) (record {
        spelled = subst (λ (l : List Symbol). Level s.parameters 0 d s.names l (reader.applied op two.0.0) two.0.1.symbols two.0.1.names) (sym next) whole;
        within = inside.within;
        parameters = inside.parameters;
        statements = inside.statements;
        repeats = omega (arith, inside.repeats, counts.1);
        operators_are = omega (arith, inside.operators_are, counts.0, operator_taken r one.0 one.1);
      })

  beginning_number : (x : Symbol) (n : ℕ) → beginning_of x ≡ a_number n → x ≡ number n
  beginning_number (number m) n e = cc
  beginning_number (word words.DataRace) n e = absurd cc
  beginning_number (word (words.Load l)) n e = absurd cc
  beginning_number (word _) n e = absurd cc
  beginning_number (identifier name) n e = absurd cc
  beginning_number (sign OpenParen) n e = absurd cc
  beginning_number (sign Star) n e = absurd cc
  beginning_number (sign _) n e = absurd cc
  beginning_number fault n e = absurd cc

  beginning_parenthesis : (x : Symbol) → beginning_of x ≡ parenthesis → x ≡ sign OpenParen
  beginning_parenthesis (sign OpenParen) e = refl
  beginning_parenthesis (word words.DataRace) e = absurd cc
  beginning_parenthesis (word (words.Load l)) e = absurd cc
  beginning_parenthesis (word _) e = absurd cc
  beginning_parenthesis _ e = absurd cc

  loader_starred : (x : Symbol) → loader_of x ≡ starred → x ≡ sign Star
  loader_starred (sign Star) e = refl
  loader_starred (word (words.Load l)) e = absurd cc
  loader_starred (word _) e = absurd cc
  loader_starred _ e = absurd cc

  loader_called : (x : Symbol) (w : LoadWord) → loader_of x ≡ called w → x ≡ word (words.Load w)
  loader_called (word (words.Load v)) w e = cc
  loader_called (word _) w e = absurd cc
  loader_called (sign Star) w e = absurd cc
  loader_called _ w e = absurd cc

  operand_sound : (t d : ℕ) (s : State) (r : Rest) (b : Beginning) (x : Found) → d ≤ 16 → length s.names ≤ 32 → beginning_of (first s.symbols) ≡ b
      → operand_with R t d s r b ≡ Some x → ReadsExpression (AsOperand d) t s r x
  operand_sound t d s r (a_number n) x deep within is e =
      let next : s.symbols ≡ number n ∷ others s.symbols = begins s.symbols (number n) (beginning_number (first s.symbols) n is) (λ never. cc) in
      subst (ReadsExpression (AsOperand d) t s r) (same_given (tree.pure (tree.number n), after s, r) x e) (record {
        spelled = subst (λ (l : List Symbol). Operand s.parameters d s.names l (tree.pure (tree.number n)) (others s.symbols) s.names) (sym next) grammar.a_number;
        within = within;
        parameters = refl;
        statements = refl;
        repeats = omega arith;
        operators_are = omega arith;
      })
  operand_sound t d s r parenthesis x deep within is e =
      let next : s.symbols ≡ sign OpenParen ∷ others s.symbols = begins s.symbols (sign OpenParen) (beginning_parenthesis (first s.symbols) is) (λ never. cc) in
      let g = guarded (d == 16) (R.level t (d + 1) 7 (after s) r >>= λ y. take_sign CloseParen y.1.symbols >>= λ l. Some (y.0, with_left y.1 l, y.2)) x e in
      let lt : d < 16 = grind (arith, g.0, eq-eqb d 16) in
      let one = bind_some (R.level t (d + 1) 7 (after s) r) (λ y. take_sign CloseParen y.1.symbols >>= λ l. Some (y.0, with_left y.1 l, y.2)) x g.1 in
      let two = bind_some (take_sign CloseParen one.0.1.symbols) (λ l. Some (one.0.0, with_left one.0.1 l, one.0.2)) x one.2 in
      let inside = h.level t (d + 1) 7 (after s) r one.0 (omega arith) within one.1 in
      let d_is : d + 1 ≡ suc d = omega arith in
      let level = subst (λ (k : ℕ). Level s.parameters 7 k s.names (others s.symbols) one.0.0 one.0.1.symbols one.0.1.names) d_is inside.spelled in
      let closing = subst (λ (l : List Symbol). Level s.parameters 7 (suc d) s.names (others s.symbols) one.0.0 l one.0.1.names) (sign_taken CloseParen one.0.1.symbols two.0 two.1) level in
      subst (ReadsExpression (AsOperand d) t s r) (same_given (one.0.0, with_left one.0.1 two.0, one.0.2) x two.2) (record {
        spelled = subst (λ (l : List Symbol). Operand s.parameters d s.names l one.0.0 two.0 one.0.1.names) (sym next) (grammar.parenthesized lt closing);
        within = inside.within;
        parameters = inside.parameters;
        statements = inside.statements;
        repeats = inside.repeats;
        operators_are = inside.operators_are;
      })
  operand_sound t d s r a_load x deep within is e = h.loading t d s r x deep within e
  operand_sound t d s r a_name x deep within is e =
      let b = bind_some (register_operand s) (λ y. Some (y.0, y.1, r)) x e in
      let n = register_operand_reads d s b.0 within b.1 in
      subst (ReadsExpression (AsOperand d) t s r) (same_given (b.0.0, b.0.1, r) x b.2) (record {
        spelled = n.reads.spelled;
        within = n.reads.within;
        parameters = n.reads.parameters;
        statements = n.reads.statements;
        repeats = omega (arith, n.reads.repeats, n.no_access t);
        operators_are = omega (arith, n.no_operator);
      })
  operand_sound t d s r nothing x deep within is e = absurd cc

  loading_sound : (t d : ℕ) (s : State) (r : Rest) (x : Found) → d ≤ 16 → length s.names ≤ 32 → (by R).loading t d s r ≡ Some x → ReadsExpression (AsOperand d) t s r x
  loading_sound t d s r x deep within e =
      let a = allowed r.may_load (R.load t d s >>= λ y. Some (tree.loading (tree.load y.0), y.1, record r { may_load = false })) x e in
      let b = bind_some (R.load t d s) (λ y. Some (tree.loading (tree.load y.0), y.1, record r { may_load = false })) x a.1 in
      let l = h.load t d s b.0 deep within b.1 in
      subst (ReadsExpression (AsOperand d) t s r) (same_given (tree.loading (tree.load b.0.0), b.0.1, record r { may_load = false }) x b.2) (record {
        spelled = grammar.a_load l.spelled;
        within = l.within;
        parameters = l.parameters;
        statements = l.statements;
        repeats = l.repeats;
        operators_are = omega arith;
      })

  level_sound : (t d k : ℕ) (s : State) (r : Rest) (x : Found) → d ≤ 16 → length s.names ≤ 32 → (by R).level t d k s r ≡ Some x → ReadsExpression (AtLevel k d) t s r x
  level_sound t d zero s r x deep within e = h.prefixed t d s r x deep within e
  level_sound t d (suc j) s r x deep within e =
      chosen (suc j == 0) (R.prefixed t d s r) (R.level t d (suc j - 1) s r >>= λ y. R.more t d (suc j) y.0 y.1 y.2) x (ReadsExpression (AtLevel (suc j) d) t s r x) e
      (λ is found. let never : suc j ≡ 0 = eqb-true (suc j) 0 is in absurd (omega arith))
      (λ is found.
      let b = bind_some (R.level t d (suc j - 1) s r) (λ y. R.more t d (suc j) y.0 y.1 y.2) x found in
      let left = h.level t d (suc j - 1) s r b.0 deep within b.1 in
      let rest = h.more t d (suc j) b.0.0 b.0.1 b.0.2 x (omega arith) deep left.within b.2 in
      let j_is : suc j - 1 ≡ j = omega arith in
      let at_j : Level s.parameters j d s.names s.symbols b.0.0 b.0.1.symbols b.0.1.names = subst (λ (k : ℕ). Level s.parameters k d s.names s.symbols b.0.0 b.0.1.symbols b.0.1.names) j_is left.spelled in
      let stronger = subst (λ (P : List Parameter). Level P (suc j) d s.names s.symbols b.0.0 b.0.1.symbols b.0.1.names) (sym left.parameters) (grammar.stronger at_j) in
      record {
        spelled = subst (λ (P : List Parameter). Level P (suc j) d s.names s.symbols x.0 x.1.symbols x.1.names) left.parameters (rest.goes_on s.names s.symbols stronger);
        within = rest.within;
        parameters = rest.parameters ∙ left.parameters;
        statements = rest.statements ∙ left.statements;
        repeats = omega (arith, rest.repeats, left.repeats);
        operators_are = omega (arith, rest.operators_are, left.operators_are);
      })

  load_sound : (t d : ℕ) (s : State) (x : tree.Load × State) → d ≤ 16 → length s.names ≤ 32 → (by R).load t d s ≡ Some x → ReadsLoad tree.Load (AsLoad d) t s x
  load_sound t d s x deep within e =
      let one = bind_some (count_access t s) (λ c. opened 0 c.symbols >>= λ o. R.fetch t d (with_left c o.1) >>= λ y. closed o.0 y.1.symbols >>= λ l. Some (load_in o.0 y.0, with_left y.1 l)) x e in
      let two = bind_some (opened 0 one.0.symbols) (λ o. R.fetch t d (with_left one.0 o.1) >>= λ y. closed o.0 y.1.symbols >>= λ l. Some (load_in o.0 y.0, with_left y.1 l)) x one.2 in
      let three = bind_some (R.fetch t d (with_left one.0 two.0.1)) (λ y. closed two.0.0 y.1.symbols >>= λ l. Some (load_in two.0.0 y.0, with_left y.1 l)) x two.2 in
      let four = bind_some (closed two.0.0 three.0.1.symbols) (λ l. Some (load_in two.0.0 three.0.0, with_left three.0.1 l)) x three.2 in
      let counted = access_is t s one.0 one.1 in
      let opens = opened_is 0 one.0.symbols two.0 two.1 in
      let within_too : length one.0.names ≤ 32 = subst (λ (n : Names). length n ≤ 32) (sym counted.names) within in
      let inside = h.fetch t d (with_left one.0 two.0.1) three.0 deep within_too three.1 in
      let n_is : two.0.0 ≡ opens.0 = omega (arith, opens.1) in
      let closes = subst (λ (n : ℕ). closed n three.0.1.symbols ≡ Some four.0) n_is four.1 in
      let whole = wrapped one.0.parameters d one.0.names three.0.1.names three.0.0 0 opens.0 one.0.symbols two.0.1 three.0.1.symbols four.0 opens.2 closes inside.spelled in
      let n_back : 0 + opens.0 ≡ two.0.0 = omega (arith, opens.1) in
      let counted_load = subst (λ (n : ℕ). Load one.0.parameters d one.0.names one.0.symbols (load_in n three.0.0) four.0 three.0.1.names) n_back whole in
      let P_is = subst (λ (P : List Parameter). Load P d one.0.names one.0.symbols (load_in two.0.0 three.0.0) four.0 three.0.1.names) counted.parameters counted_load in
      let names_are = subst (λ (n : Names). Load s.parameters d n one.0.symbols (load_in two.0.0 three.0.0) four.0 three.0.1.names) counted.names P_is in
      let symbols_are = subst (λ (l : List Symbol). Load s.parameters d s.names l (load_in two.0.0 three.0.0) four.0 three.0.1.names) counted.symbols names_are in
      subst (ReadsLoad tree.Load (AsLoad d) t s) (same_given (load_in two.0.0 three.0.0, with_left three.0.1 four.0) x four.2) (record {
        spelled = symbols_are;
        within = inside.within;
        parameters = inside.parameters ∙ counted.parameters;
        statements = inside.statements ∙ counted.statements;
        repeats = omega (arith, inside.repeats, counted.repeats);
      })

  fetch_sound : (t d : ℕ) (s : State) (l : Loader) (x : tree.Fetch × State) → d ≤ 16 → length s.names ≤ 32 → loader_of (first s.symbols) ≡ l → fetch_with R t d s l ≡ Some x → ReadsLoad tree.Fetch (AsFetch d) 0 s x
  fetch_sound t d s starred x deep within is e =
      let next : s.symbols ≡ sign Star ∷ others s.symbols = begins s.symbols (sign Star) (loader_starred (first s.symbols) is) (λ never. cc) in
      plain_sound d s x within next e
  fetch_sound t d s (called w) x deep within is e =
      let next : s.symbols ≡ word (words.Load w) ∷ others s.symbols = begins s.symbols (word (words.Load w)) (loader_called (first s.symbols) w is) (λ never. cc) in
      let one = bind_some (take_sign OpenParen (others s.symbols)) (λ l. R.arguments t d w (with_left s l) >>= λ y. take_sign CloseParen y.1.symbols >>= λ m. Some (y.0, with_left y.1 m)) x e in
      let two = bind_some (R.arguments t d w (with_left s one.0)) (λ y. take_sign CloseParen y.1.symbols >>= λ m. Some (y.0, with_left y.1 m)) x one.2 in
      let three = bind_some (take_sign CloseParen two.0.1.symbols) (λ m. Some (two.0.0, with_left two.0.1 m)) x two.2 in
      let inside = h.arguments t d w (with_left s one.0) two.0 deep within two.1 in
      let whole = inside.spelled three.0 (sign_taken CloseParen two.0.1.symbols three.0 three.1) in
      let all : s.symbols ≡ word (words.Load w) ∷ sign OpenParen ∷ one.0 = next ∙ ap (λ (l : List Symbol). word (words.Load w) ∷ l) (sign_taken OpenParen (others s.symbols) one.0 one.1) in
      subst (ReadsLoad tree.Fetch (AsFetch d) 0 s) (same_given (two.0.0, with_left two.0.1 three.0) x three.2) (record {
        spelled = subst (λ (l : List Symbol). Load s.parameters d s.names l (bare two.0.0) three.0 two.0.1.names) (sym all) whole;
        within = inside.within;
        parameters = inside.parameters;
        statements = inside.statements;
        repeats = inside.repeats;
      })
  fetch_sound t d s nothing_loads x deep within is e = absurd cc

  arguments_sound : (t d : ℕ) (w : LoadWord) (s : State) (x : tree.Fetch × State) → d ≤ 16 → length s.names ≤ 32 → (by R).arguments t d w s ≡ Some x → ReadsLoad tree.Fetch (AsArguments d w) 0 s x
  arguments_sound t d (loads.Read form) s x deep within e = read_sound d form s x within e
  arguments_sound t d loads.Exchange s x deep within e =
      let one = bind_some (take_variable Integers s) (λ v. take_sign Comma v.1.symbols >>= λ l. R.pure t d (with_left v.1 l) >>= λ y. Some (tree.exchange v.0 y.0, y.1)) x e in
      let two = bind_some (take_sign Comma one.0.1.symbols) (λ l. R.pure t d (with_left one.0.1 l) >>= λ y. Some (tree.exchange one.0.0 y.0, y.1)) x one.2 in
      let three = bind_some (R.pure t d (with_left one.0.1 two.0)) (λ y. Some (tree.exchange one.0.0 y.0, y.1)) x two.2 in
      let v = variable_reads Integers s one.0 one.1 in
      let within_too : length one.0.1.names ≤ 32 = subst (λ (n : Names). length n ≤ 32) (sym v.moved.names) within in
      let value = h.pure t d (with_left one.0.1 two.0) three.0 deep within_too three.1 in
      let P_is = subst (λ (P : List Parameter). Pure P d one.0.1.names two.0 three.0.0 three.0.1.symbols three.0.1.names) v.moved.parameters value.spelled in
      let value_is = subst (λ (n : Names). Pure s.parameters d n two.0 three.0.0 three.0.1.symbols three.0.1.names) v.moved.names P_is in
      let all : s.symbols ≡ identifier v.name ∷ sign Comma ∷ two.0 = v.next ∙ ap (λ (l : List Symbol). identifier v.name ∷ l) (sign_taken Comma one.0.1.symbols two.0 two.1) in
      subst (ReadsLoad tree.Fetch (AsArguments d loads.Exchange) 0 s) (same_given (tree.exchange one.0.0 three.0.0, three.0.1) x three.2) (record {
        spelled = λ rest closes.
            let closing = subst (λ (l : List Symbol). Pure s.parameters d s.names two.0 three.0.0 l three.0.1.names) closes value_is in
            subst (λ (l : List Symbol). Load s.parameters d s.names (word (words.Load loads.Exchange) ∷ sign OpenParen ∷ l) (bare (tree.exchange one.0.0 three.0.0)) rest three.0.1.names) (sym all)
            (grammar.exchange (integer_variable s one.0 v) closing);
        within = value.within;
        parameters = value.parameters ∙ v.moved.parameters;
        statements = value.statements ∙ v.moved.statements;
        repeats = omega (arith, value.repeats, v.moved.repeats);
      })
  arguments_sound t d loads.CompareExchange s x deep within e =
      let one = bind_some (take_variable Integers s)
      (λ v. take_sign Comma v.1.symbols >>= λ l. R.pure t d (with_left v.1 l) >>= λ y. take_sign Comma y.1.symbols >>= λ l. R.pure t d (with_left y.1 l) >>= λ z. Some (tree.compare_exchange v.0 y.0 z.0, z.1)) x e in
      let two = bind_some (take_sign Comma one.0.1.symbols)
      (λ l. R.pure t d (with_left one.0.1 l) >>= λ y. take_sign Comma y.1.symbols >>= λ l. R.pure t d (with_left y.1 l) >>= λ z. Some (tree.compare_exchange one.0.0 y.0 z.0, z.1)) x one.2 in
      let three = bind_some (R.pure t d (with_left one.0.1 two.0)) (λ y. take_sign Comma y.1.symbols >>= λ l. R.pure t d (with_left y.1 l) >>= λ z. Some (tree.compare_exchange one.0.0 y.0 z.0, z.1)) x two.2 in
      let four = bind_some (take_sign Comma three.0.1.symbols) (λ l. R.pure t d (with_left three.0.1 l) >>= λ z. Some (tree.compare_exchange one.0.0 three.0.0 z.0, z.1)) x three.2 in
      let five = bind_some (R.pure t d (with_left three.0.1 four.0)) (λ z. Some (tree.compare_exchange one.0.0 three.0.0 z.0, z.1)) x four.2 in
      let v = variable_reads Integers s one.0 one.1 in
      let within_too : length one.0.1.names ≤ 32 = subst (λ (n : Names). length n ≤ 32) (sym v.moved.names) within in
      let expected = h.pure t d (with_left one.0.1 two.0) three.0 deep within_too three.1 in
      let replacement = h.pure t d (with_left three.0.1 four.0) five.0 deep expected.within five.1 in
      let expected_P = subst (λ (P : List Parameter). Pure P d one.0.1.names two.0 three.0.0 three.0.1.symbols three.0.1.names) v.moved.parameters expected.spelled in
      let expected_names = subst (λ (n : Names). Pure s.parameters d n two.0 three.0.0 three.0.1.symbols three.0.1.names) v.moved.names expected_P in
      let expected_is = subst (λ (l : List Symbol). Pure s.parameters d s.names two.0 three.0.0 l three.0.1.names) (sign_taken Comma three.0.1.symbols four.0 four.1) expected_names in
      let replacement_is = subst (λ (P : List Parameter). Pure P d three.0.1.names four.0 five.0.0 five.0.1.symbols five.0.1.names) (expected.parameters ∙ v.moved.parameters) replacement.spelled in
      let all : s.symbols ≡ identifier v.name ∷ sign Comma ∷ two.0 = v.next ∙ ap (λ (l : List Symbol). identifier v.name ∷ l) (sign_taken Comma one.0.1.symbols two.0 two.1) in
      subst (ReadsLoad tree.Fetch (AsArguments d loads.CompareExchange) 0 s) (same_given (tree.compare_exchange one.0.0 three.0.0 five.0.0, five.0.1) x five.2) (record {
        spelled = λ rest closes.
            let closing = subst (λ (l : List Symbol). Pure s.parameters d three.0.1.names four.0 five.0.0 l five.0.1.names) closes replacement_is in
            subst (λ (l : List Symbol). Load s.parameters d s.names (word (words.Load loads.CompareExchange) ∷ sign OpenParen ∷ l) (bare (tree.compare_exchange one.0.0 three.0.0 five.0.0)) rest five.0.1.names) (sym all)
            (grammar.compare_exchange (integer_variable s one.0 v) expected_is closing);
        within = replacement.within;
        parameters = replacement.parameters ∙ expected.parameters ∙ v.moved.parameters;
        statements = replacement.statements ∙ expected.statements ∙ v.moved.statements;
        repeats = omega (arith, replacement.repeats, expected.repeats, v.moved.repeats);
      })

  pure_sound : (t d : ℕ) (s : State) (x : tree.Pure × State) → d ≤ 16 → length s.names ≤ 32 → (by R).pure t d s ≡ Some x → ReadsLoad tree.Pure (AsPure d) 0 s x
  pure_sound t d s x deep within e =
      let b = bind_some (R.level t d 7 s (all_of_it false)) (λ y. pure_of y) x e in
      pure_is t d s b.0 x (h.level t d 7 s (all_of_it false) b.0 deep within b.1) b.2
    where
      pure_is : (t d : ℕ) (s : State) (y : Found) (x : tree.Pure × State) → ReadsExpression (AtLevel 7 d) t s (all_of_it false) y → pure_of y ≡ Some x → ReadsLoad tree.Pure (AsPure d) 0 s x
      pure_is t d s (tree.pure a, u, r) x l e =
          let le : pure_operators a ≤ 256 = omega (arith, l.operators_are) in
          subst (ReadsLoad tree.Pure (AsPure d) 0 s) (same_given (a, u) x e) (record {
            spelled = grammar.whole l.spelled le;
            within = l.within;
            parameters = l.parameters;
            statements = l.statements;
            repeats = l.repeats;
          })
      pure_is t d s (tree.loading a, u, r) x l e = absurd cc

  by_sound : Sound (by R)
  by_sound = record {
    level = level_sound;
    more = more_any;
    prefixed = λ t d s r x deep within e. prefixed_sound t d s r (unary_at (first s.symbols)) x deep within refl e;
    operand = λ t d s r x deep within e. operand_sound t d s r (beginning_of (first s.symbols)) x deep within refl e;
    loading = loading_sound;
    load = load_sound;
    fetch = λ t d s x deep within e. fetch_sound t d s (loader_of (first s.symbols)) x deep within refl e;
    arguments = arguments_sound;
    pure = pure_sound;
  }
    where
      more_any : (t d k : ℕ) (a : tree.Expression) (s : State) (r : Rest) (x : Found) → 0 < k → d ≤ 16 → length s.names ≤ 32 → (by R).more t d k a s r ≡ Some x → ReadsMore t d k a s r x
      more_any t d zero a s r x some deep within e = absurd (omega arith)
      more_any t d (suc j) a s r x some deep within e = more_sound t d j a s r (of_level (suc j) (binary_at (first s.symbols))) x deep within refl e

idle_sound : Sound idle
idle_sound = record {
  level = λ t d k s r x deep within e. absurd cc;
  more = λ t d k a s r x some deep within e. absurd cc;
  prefixed = λ t d s r x deep within e. absurd cc;
  operand = λ t d s r x deep within e. absurd cc;
  loading = λ t d s r x deep within e. absurd cc;
  load = λ t d s x deep within e. absurd cc;
  fetch = λ t d s x deep within e. absurd cc;
  arguments = λ t d w s x deep within e. absurd cc;
  pure = λ t d s x deep within e. absurd cc;
}

pub deep_sound : (fuel : ℕ) → Sound (deep fuel)
unfolding deep
deep_sound zero = idle_sound
deep_sound (suc fuel) = by_sound (deep fuel) (deep_sound fuel)

-- ---- whole readers

pub expression_spelled : (t d : ℕ) (s : State) (x : tree.Expression × State) → d ≤ 16 → length s.names ≤ 32 → reader.expression_at t d s ≡ Some x
    → grammar.Expression s.parameters d s.names s.symbols x.0 x.1.symbols x.1.names
unfolding reader.expression_at reader.level_at
expression_spelled t d s x deep within e =
    let fuel = 20 * length s.symbols + 20 + 7 in
    let b = bind_some ((reader.deep fuel).level t d 7 s (all_of_it true)) (λ y. Some (y.0, y.1)) x e in
    let l = (deep_sound fuel).level t d 7 s (all_of_it true) b.0 deep within b.1 in
    let le : operators b.0.0 ≤ 256 = omega (arith, l.operators_are) in
    subst (λ (y : tree.Expression × State). grammar.Expression s.parameters d s.names s.symbols y.0 y.1.symbols y.1.names) (same_given (b.0.0, b.0.1) x b.2) (record { level = l.spelled; limit = le })

pub pure_spelled : (t d : ℕ) (s : State) (x : tree.Pure × State) → d ≤ 16 → length s.names ≤ 32 → reader.pure_at t d s ≡ Some x
    → Pure s.parameters d s.names s.symbols x.0 x.1.symbols x.1.names
unfolding reader.pure_at
pure_spelled t d s x deep within e = ((deep_sound (20 * length s.symbols + 20)).pure t d s x deep within e).spelled

pub load_spelled : (t d : ℕ) (s : State) (x : tree.Load × State) → d ≤ 16 → length s.names ≤ 32 → reader.load_at t d s ≡ Some x
    → Load s.parameters d s.names s.symbols x.0 x.1.symbols x.1.names
unfolding reader.load_at
load_spelled t d s x deep within e = ((deep_sound (20 * length s.symbols + 20)).load t d s x deep within e).spelled
