-- What is spelled as an expression is read so, whatever follows it that can't continue it.
use Rattle.std.proofs.Common.{eqb, map, ◌≡◌, ◌∙◌, ℕ, zero, suc, ◌+◌, ◌-◌, ◌<◌, ◌≤◌, ◌==◌, nat_lt, List, [], ◌∷◌, ◌++◌, Bool, true, false, cond, Option, Some, None, length}
use Rattle.std.proofs.Common.{refl, sym, ap, subst, arith, add-one, eq-eqb, length-append}
use Rattle.std.specs.Prelude.{Contains}
use Rattle.std.proofs.lemmas.Bool.{eqb-true, le-ltb}
use Rattle.litmus_lex.specs.declared.sign.Sign.{Sign}
use Rattle.litmus_lex.specs.declared.sign.Sign.TheVariants.{OpenParen, CloseParen, Comma, Star, Plus, Minus, Tilde, Not, Ampersand, Caret, Bar, Less, Greater, LessEqual, GreaterEqual, Equal, NotEqual}
use Rattle.litmus_syntax.specs.declared.expression.BinaryOperator.{BinaryOperator}
use Rattle.litmus_syntax.specs.declared.expression.BinaryOperator.TheVariants as binaries
use Rattle.litmus_syntax.specs.declared.expression.UnaryOperator.{UnaryOperator}
use Rattle.litmus_syntax.specs.declared.expression.UnaryOperator.TheVariants as unaries
use Rattle.litmus_syntax.specs.declared.expression.ReadForm.{ReadForm}
use Rattle.litmus_syntax.specs.declared.expression.ReadForm.TheVariants as reads
use Rattle.litmus_syntax.specs.Tree as tree
use Rattle.litmus_lex.specs.declared.words.LoadWord.{LoadWord}
use Rattle.litmus_lex.specs.declared.words.LoadWord.TheVariants as loads
use Rattle.litmus_lex.specs.declared.words.VariableType.{VariableType}
use Rattle.litmus_lex.specs.declared.words.VariableType.TheVariants as types
use Rattle.litmus_lex.specs.declared.words.Word.{Word}
use Rattle.litmus_lex.specs.declared.words.Word.TheVariants as words
use Rattle.litmus_lex.specs.Front.{◌>>=◌, begins_call, first, identifier_at, is_sign, others, sign_number, take_sign}
use Rattle.litmus_lex.specs.Words.{Symbol, word, identifier, number, sign, fault}
use Rattle.litmus_expression.specs.declared.expression.Rest.{Rest}
use Rattle.litmus_expression.specs.declared.process.Takes.{Takes}
use Rattle.litmus_expression.specs.declared.process.Takes.TheVariants.{Integers, Atomics, Locks, Memory}
use Rattle.litmus_syntax.specs.Limits.{operators, pure_operators}
use Rattle.litmus_expression.specs.ExpressionReader.{Readers, Beginning, a_number, parenthesis, a_load, a_name, nothing, level_at, more_at, prefixed_at, operand_at, loading_at, load_at}
use Rattle.litmus_expression.specs.ExpressionReader.{fetch_at, arguments_at, pure_at, readers, Loader, starred, called, nothing_loads, by, deep, idle, all_of_it, beginning_of, binary_at, closed, fetch_with}
use Rattle.litmus_expression.specs.ExpressionReader.{is_data_race, is_foreign, loader_of, more_with, of_level, opened, operand_with, prefixed_with, pure_of, read_by, read_of, read_with, register_operand, take_operator, take_star, unary_at}
use Rattle.litmus_expression.specs.ExpressionReader as reader
use Rattle.litmus_expression.specs.Expressions as grammar
use Rattle.litmus_expression.specs.Expressions.{Level, Operand, Load, Pure, Applied, Combined, bare, enclosed_once, level_of, sign_of_binary, sign_of_unary}
use Rattle.litmus_expression.specs.Followed.{Differ, Follows, accesses, name_of}
use Rattle.litmus_expression.specs.NameReader.{count_access, free_name, index_of, name_among, numbered, parameter_named, register_at, register_name, register_named, take_register, take_variable, takes_type, variable_named, variable_of}
use Rattle.litmus_expression.specs.Names.{Names, Parameter, IsAtomic, IsFree, IsInteger, IsRegister, IsVariable, Numbered, known, new}
use Rattle.litmus_expression.specs.States.{State, after, with_left}
use Rattle.litmus_expression.proofs.Named.{differ_more, found_at, free_named, named_there, nowhere}
use Rattle.litmus_expression.proofs.Races.{opened_unrolls}
use Rattle.litmus_expression.proofs.Shorter.{Found}
use Rattle.litmus_expression.proofs.Unrolled.{level_unrolls, more_unrolls, prefixed_unrolls, operand_unrolls, loading_unrolls, load_unrolls, fetch_unrolls, arguments_unrolls, pure_unrolls}
use Rattle.litmus_expression.proofs.Taken.{allowed, bind_some, chosen, front, guarded, is_sign_is, same_given, sign_taken}

-- ---- the front, the other way

sign_there : (s : Sign) (rest : List Symbol) → take_sign s (sign s ∷ rest) ≡ Some rest
unfolding take_sign
sign_there s rest = ap (λ (b : Bool). cond b (Some rest) None) (eq-eqb (sign_number s) (sign_number s) refl)

binary_back : (op : BinaryOperator) → binary_at (sign (sign_of_binary op)) ≡ Some op
binary_back binaries.Multiply = refl
binary_back binaries.Add = refl
binary_back binaries.Subtract = refl
binary_back binaries.Less = refl
binary_back binaries.Greater = refl
binary_back binaries.LessOrEqual = refl
binary_back binaries.GreaterOrEqual = refl
binary_back binaries.Equal = refl
binary_back binaries.NotEqual = refl
binary_back binaries.BitAnd = refl
binary_back binaries.BitXor = refl
binary_back binaries.BitOr = refl

unary_back : (op : UnaryOperator) → unary_at (sign (sign_of_unary op)) ≡ Some op
unary_back unaries.Negate = refl
unary_back unaries.Not = refl
unary_back unaries.Complement = refl

not_foreign : (op : BinaryOperator) → (is_foreign (sign (sign_of_binary op)) ≡ false) × (is_sign OpenParen (sign (sign_of_binary op)) ≡ false)
not_foreign binaries.Multiply = (refl, refl)
not_foreign binaries.Add = (refl, refl)
not_foreign binaries.Subtract = (refl, refl)
not_foreign binaries.Less = (refl, refl)
not_foreign binaries.Greater = (refl, refl)
not_foreign binaries.LessOrEqual = (refl, refl)
not_foreign binaries.GreaterOrEqual = (refl, refl)
not_foreign binaries.Equal = (refl, refl)
not_foreign binaries.NotEqual = (refl, refl)
not_foreign binaries.BitAnd = (refl, refl)
not_foreign binaries.BitXor = (refl, refl)
not_foreign binaries.BitOr = (refl, refl)

applied_back : (op : UnaryOperator) (e f : tree.Expression) → Applied op e f → reader.applied op e ≡ f
applied_back op e f grammar.to_pure = refl
applied_back op e f grammar.to_loading = refl

combined_back : (op : BinaryOperator) (a b c : tree.Expression) → Combined op a b c → reader.combined a op b ≡ Some c
combined_back op a b c grammar.none = refl
combined_back op a b c grammar.left = refl
combined_back op a b c grammar.right = refl

-- ---- what may follow

follows_more : (j : ℕ) (rest : List Symbol) → Follows (suc j) rest → Follows j rest
follows_more j rest f = record { no_foreign = f.no_foreign; no_call = f.no_call; weaker = λ op is. let lt = f.weaker op is in omega arith }

pub follows_close : (rest : List Symbol) → Follows 7 (sign CloseParen ∷ rest)
follows_close rest = record { no_foreign = refl; no_call = refl; weaker = λ op is. absurd cc }

pub follows_comma : (rest : List Symbol) → Follows 7 (sign Comma ∷ rest)
follows_comma rest = record { no_foreign = refl; no_call = refl; weaker = λ op is. absurd cc }

follows_operator : (j : ℕ) (op : BinaryOperator) (rest : List Symbol) → level_of op ≡ suc j → Follows j (sign (sign_of_binary op) ∷ rest)
follows_operator j op rest is = record {
  no_foreign = (not_foreign op).0;
  no_call = (not_foreign op).1;
  weaker = λ other found. let same : op ≡ other = same_given op other (sym (binary_back op) ∙ found) in let lt : j < level_of op = omega arith in subst (λ (o : BinaryOperator). j < level_of o) same lt;
}

-- ---- what is spent

abbrev may_after : tree.Expression → Bool → Bool
may_after (tree.pure a) may = may
may_after (tree.loading a) may = false

abbrev Can : tree.Expression → Bool → Type 0
Can (tree.pure a) may = Unit {0}
Can (tree.loading a) may = may ≡ true

pub record Spends (t : ℕ) (e : tree.Expression) (n m : ℕ) (r q : Rest) : Type 0 where
  pub operators_are : r.operators ≡ q.operators + operators e
  pub may_load : q.may_load ≡ may_after e r.may_load
  pub can : Can e r.may_load
  pub repeats : m ≡ n + accesses t e
  pub limit : m ≤ 1024

rest_same : (r q : Rest) → r.operators ≡ q.operators → r.may_load ≡ q.may_load → r ≡ q
rest_same r q e f = ap (λ (n : ℕ). rest_of n r.may_load) e ∙ ap (λ (b : Bool). rest_of q.operators b) f
  where
    rest_of : ℕ → Bool → Rest
    rest_of n b = record { operators = n; may_load = b }

-- ---- names

abbrev pub placed : List Parameter → ℕ → List Symbol → Names → ℕ → State
placed P statements symbols names repeats = record { symbols = symbols; parameters = P; names = names; statements = statements; repeats = repeats }

integer_taken : (type : VariableType) → IsInteger type → takes_type Integers type ≡ true
integer_taken types.Char is = refl
integer_taken types.Short is = refl
integer_taken types.Int is = refl
integer_taken types.Long is = refl
integer_taken types.Atomic is = absurd is
integer_taken types.Lock is = absurd is

module _ (P : List Parameter) (st : ℕ) (apart : Differ (map name_of P)) where
  variable_back : (takes : Takes) (Form : VariableType → Type 0) → ((type : VariableType) → Form type → takes_type takes type ≡ true) → (name : List ℕ) (variable : ℕ) → IsVariable P Form name variable
      → (rest : List Symbol) (names : Names) (n : ℕ) → take_variable takes (placed P st (identifier name ∷ rest) names n) ≡ Some (variable, placed P st rest names n)
  unfolding take_variable
  variable_back takes Form form name variable is rest names n =
      ap (variable_of takes (placed P st (identifier name ∷ rest) names n)) (named_there P (record { name = name; variable = variable; type = is.type }) apart is.parameter)
      ∙ ap (λ (b : Bool). cond b (Some (variable, placed P st rest names n)) None) (form is.type is.of_form)

  pub integer_back : (name : List ℕ) (variable : ℕ) → IsVariable P IsInteger name variable → (rest : List Symbol) (names : Names) (n : ℕ)
      → take_variable Integers (placed P st (identifier name ∷ rest) names n) ≡ Some (variable, placed P st rest names n)
  integer_back name variable is rest names n = variable_back Integers IsInteger integer_taken name variable is rest names n

  pub atomic_back : (name : List ℕ) (variable : ℕ) → IsVariable P IsAtomic name variable → (rest : List Symbol) (names : Names) (n : ℕ)
      → take_variable Atomics (placed P st (identifier name ∷ rest) names n) ≡ Some (variable, placed P st rest names n)
  atomic_back name variable is rest names n = variable_back Atomics IsAtomic (λ type same. ap (takes_type Atomics) same) name variable is rest names n

  not_limit : (n : ℕ) → n < 32 → (n == 32) ≡ false
  not_limit n lt = grind (arith, eqb-true n 32)

  numbered_back : (name : List ℕ) (register : ℕ) (before later : Names) (symbols : List Symbol) (n : ℕ) → Differ before → Numbered 32 before name register later
      → numbered (placed P st symbols before n) name (index_of before name) ≡ Some (register, placed P st symbols later n)
  numbered_back name register before later symbols n differ (known there) =
      ap (numbered (placed P st symbols before n) name) (found_at before name register differ there)
  numbered_back name register before later symbols n differ (new out lt) =
      ap (numbered (placed P st symbols before n) name) (nowhere before name out)
      ∙ ap (λ (b : Bool). cond b None (Some (length before, placed P st symbols (before ++ name ∷ []) n))) (not_limit (length before) lt)

  pub register_back : (name : List ℕ) (register : ℕ) (before later : Names) (rest : List Symbol) (n : ℕ) → Differ before → IsRegister P before name register later
      → register_at (placed P st (identifier name ∷ rest) before n) ≡ Some (register, placed P st (identifier name ∷ rest) later n)
  unfolding register_at
  register_back name register before later rest n differ is =
      let free : parameter_named P name ≡ None = free_named P name (λ p named there. is.free p.variable p.type (subst (λ (m : List ℕ). Contains P (record { name = m; variable = p.variable; type = p.type })) named there)) in
      ap (λ (o : Option Parameter). register_named (placed P st (identifier name ∷ rest) before n) (free_name name o)) free
      ∙ numbered_back name register before later (identifier name ∷ rest) n differ is.numbered

  abbrev taken_after : Option (ℕ × State) → Option (ℕ × State)
  taken_after o = o >>= λ y. Some (y.0, after y.1)

  abbrev as_operand : Option (ℕ × State) → Option (tree.Expression × State)
  as_operand o = o >>= λ x. Some (tree.pure (tree.register x.0), x.1)

  operand_register : (name : List ℕ) (register : ℕ) (before later : Names) (rest : List Symbol) (n : ℕ) → Differ before → IsRegister P before name register later → is_sign OpenParen (first rest) ≡ false
      → register_operand (placed P st (identifier name ∷ rest) before n) ≡ Some (tree.pure (tree.register register), placed P st rest later n)
  unfolding register_operand take_register
  operand_register name register before later rest n differ is no_call =
      ap (λ (b : Bool). cond b None (as_operand (taken_after (register_at (placed P st (identifier name ∷ rest) before n))))) no_call
      ∙ ap (λ (o : Option (ℕ × State)). as_operand (taken_after o)) (register_back name register before later rest n differ is)

pub numbered_differ : (name : List ℕ) (register : ℕ) (before later : Names) → Differ before → Numbered 32 before name register later → Differ later
numbered_differ name register before later differ (known there) = differ
numbered_differ name register before later differ (new out lt) = differ_more before name differ out

-- names that differ still differ behind what is spelled
mutual
  level_differs : {P : List Parameter} {k d : ℕ} {before later : Names} {symbols rest : List Symbol} {e : tree.Expression} → Differ before → Level P k d before symbols e rest later → Differ later
  level_differs differ (grammar.operand o) = operand_differs differ o
  level_differs differ (grammar.prefixed op l a) = level_differs differ l
  level_differs differ (grammar.stronger l) = level_differs differ l
  level_differs differ (grammar.infixed op is l r c) = level_differs (level_differs differ l) r

  operand_differs : {P : List Parameter} {d : ℕ} {before later : Names} {symbols rest : List Symbol} {e : tree.Expression} → Differ before → Operand P d before symbols e rest later → Differ later
  operand_differs differ grammar.a_number = differ
  operand_differs differ (grammar.a_register r) = numbered_differ _ _ _ _ differ r.numbered
  operand_differs differ (grammar.a_load l) = load_differs differ l
  operand_differs differ (grammar.parenthesized lt l) = level_differs differ l

  load_differs : {P : List Parameter} {d : ℕ} {before later : Names} {symbols rest : List Symbol} {l : tree.Load} → Differ before → Load P d before symbols l rest later → Differ later
  load_differs differ (grammar.plain v) = differ
  load_differs differ (grammar.once v) = differ
  load_differs differ (grammar.acquire v) = differ
  load_differs differ (grammar.atomic v) = differ
  load_differs differ (grammar.exchange v p) = pure_differs differ p
  load_differs differ (grammar.compare_exchange v p q) = pure_differs (pure_differs differ p) q
  load_differs differ (grammar.enclosed l) = load_differs differ l

  pure_differs : {P : List Parameter} {d : ℕ} {before later : Names} {symbols rest : List Symbol} {a : tree.Pure} → Differ before → Pure P d before symbols a rest later → Differ later
  pure_differs differ (grammar.whole l le) = level_differs differ l

closed_none : (rest : List Symbol) → closed 0 rest ≡ Some rest
unfolding closed
closed_none rest = refl

last : (k : ℕ) (closing rest : List Symbol) → closed k closing ≡ Some (sign CloseParen ∷ rest) → closed (suc k) closing ≡ Some rest
unfolding closed
last zero closing rest e =
    let same : closing ≡ sign CloseParen ∷ rest = same_given closing (sign CloseParen ∷ rest) e in
    ap (λ (l : List Symbol). take_sign CloseParen l >>= λ v. Some v) same ∙ ap (λ (o : Option (List Symbol)). o >>= λ v. Some v) (sign_there CloseParen rest)
last (suc k) closing rest e =
    let b = bind_some (take_sign CloseParen closing) (λ v. closed k v) (sign CloseParen ∷ rest) e in
    ap (λ (o : Option (List Symbol)). o >>= λ v. closed (suc k) v) b.1 ∙ last k b.0 rest b.2

-- ---- what the parts of an expression spend

record AppliedSpends (t : ℕ) (e f : tree.Expression) (n m : ℕ) (r q : Rest) : Type 0 where
  fewer : Rest
  one_less : r.operators ≡ fewer.operators + 1
  may_same : r.may_load ≡ fewer.may_load
  inside : Spends t e n m fewer q

applied_spends : (t : ℕ) (op : UnaryOperator) (e f : tree.Expression) (n m : ℕ) (r q : Rest) → Applied op e f → Spends t f n m r q → AppliedSpends t e f n m r q
applied_spends t op e f n m r q (grammar.to_pure {a = a}) s = record {
  fewer = record { operators = q.operators + pure_operators a; may_load = r.may_load };
  one_less = omega (arith, s.operators_are);
  may_same = refl;
  inside = record { operators_are = refl; may_load = s.may_load; can = tt; repeats = s.repeats; limit = s.limit };
}
applied_spends t op e f n m r q (grammar.to_loading {a = a}) s = record {
  fewer = record { operators = q.operators + operators (tree.loading a); may_load = r.may_load };
  one_less = omega (arith, s.operators_are);
  may_same = refl;
  inside = record { operators_are = refl; may_load = s.may_load; can = s.can; repeats = s.repeats; limit = s.limit };
}

record CombinedSpends (t : ℕ) (a b c : tree.Expression) (n m : ℕ) (r q : Rest) : Type 0 where
  before_it : Rest
  behind_it : Rest
  one_less : before_it.operators ≡ behind_it.operators + 1
  may_same : before_it.may_load ≡ behind_it.may_load
  left_side : Spends t a n (n + accesses t a) r before_it
  right_side : Spends t b (n + accesses t a) m behind_it q

combined_spends : (t : ℕ) (op : BinaryOperator) (a b c : tree.Expression) (n m : ℕ) (r q : Rest) → Combined op a b c → Spends t c n m r q → CombinedSpends t a b c n m r q
combined_spends t op a b c n m r q (grammar.none {a = x} {b = y}) s = record {
  before_it = record { operators = q.operators + pure_operators y + 1; may_load = r.may_load };
  behind_it = record { operators = q.operators + pure_operators y; may_load = r.may_load };
  one_less = refl;
  may_same = refl;
  left_side = record { operators_are = omega (arith, s.operators_are); may_load = refl; can = tt; repeats = refl; limit = omega (arith, s.repeats, s.limit) };
  right_side = record { operators_are = refl; may_load = s.may_load; can = tt; repeats = omega (arith, s.repeats); limit = s.limit };
}
combined_spends t op a b c n m r q (grammar.left {a = x} {b = y}) s = record {
  before_it = record { operators = q.operators + pure_operators y + 1; may_load = false };
  behind_it = record { operators = q.operators + pure_operators y; may_load = false };
  one_less = refl;
  may_same = refl;
  left_side = record { operators_are = omega (arith, s.operators_are); may_load = refl; can = s.can; repeats = refl; limit = omega (arith, s.repeats, s.limit) };
  right_side = record { operators_are = refl; may_load = s.may_load; can = tt; repeats = omega (arith, s.repeats); limit = s.limit };
}
combined_spends t op a b c n m r q (grammar.right {a = x} {b = y}) s = record {
  before_it = record { operators = q.operators + operators (tree.loading y) + 1; may_load = r.may_load };
  behind_it = record { operators = q.operators + operators (tree.loading y); may_load = r.may_load };
  one_less = refl;
  may_same = refl;
  left_side = record { operators_are = omega (arith, s.operators_are); may_load = refl; can = tt; repeats = refl; limit = omega (arith, s.repeats, s.limit) };
  right_side = record { operators_are = refl; may_load = s.may_load; can = s.can; repeats = omega (arith, s.repeats); limit = s.limit };
}

-- ---- the parts

module _ (P : List Parameter) (st t : ℕ) (apart : Differ (map name_of P)) where
  -- a level of which the rest may still go on: at level 0 nothing may
  abbrev Reached : ℕ → ℕ → Names → List Symbol → tree.Expression → List Symbol → Names → Type 0
  Reached zero d before symbols e rest later =
      (n m : ℕ) (r q : Rest) → Spends t e n m r q → Follows 0 rest
      → level_at t d 0 (placed P st symbols before n) r ≡ Some (e, placed P st rest later m, q)
  Reached (suc j) d before symbols e rest later =
      (n m : ℕ) (r q : Rest) → Spends t e n m r q → Follows j rest
      → level_at t d (suc j) (placed P st symbols before n) r ≡ more_at t d (suc j) e (placed P st rest later m) q

  abbrev Whole : ℕ → ℕ → Names → List Symbol → tree.Expression → List Symbol → Names → Type 0
  Whole k d before symbols e rest later =
      (n m : ℕ) (r q : Rest) → Spends t e n m r q → Follows k rest
      → level_at t d k (placed P st symbols before n) r ≡ Some (e, placed P st rest later m, q)

  none_of_level : (j : ℕ) (o : Option BinaryOperator) → ((op : BinaryOperator) → o ≡ Some op → suc j < level_of op) → of_level (suc j) o ≡ None
  none_of_level j None f = refl
  none_of_level j (Some op) f =
      let lt = f op refl in
      let no : (level_of op == suc j) ≡ false = grind (arith, eqb-true (level_of op) (suc j)) in
      ap (λ (b : Bool). cond b (Some op) None) no

  more_stops : (d j : ℕ) (e : tree.Expression) (s : State) (r : Rest) → Follows (suc j) s.symbols → more_at t d (suc j) e s r ≡ Some (e, s, r)
  more_stops d j e s r f =
      more_unrolls t d (suc j) e s r
      ∙ ap (more_with readers t d (suc j) e s r) (none_of_level j (binary_at (first s.symbols)) f.weaker)

  finish : (k d : ℕ) (before later : Names) (symbols rest : List Symbol) (e : tree.Expression) → Reached k d before symbols e rest later → Whole k d before symbols e rest later
  finish zero d before later symbols rest e reached n m r q spends f = reached n m r q spends f
  finish (suc j) d before later symbols rest e reached n m r q spends f =
      reached n m r q spends (follows_more j rest f) ∙ more_stops d j e (placed P st rest later m) q f

  above : (d j : ℕ) (s : State) (r : Rest) (e : tree.Expression) (u : State) (q : Rest) → level_at t d j s r ≡ Some (e, u, q) → level_at t d (suc j) s r ≡ more_at t d (suc j) e u q
  above d j s r e u q is =
      let j_is : suc j - 1 ≡ j = omega arith in
      let no : (suc j == 0) ≡ false = grind (arith, eqb-true (suc j) 0) in
      level_unrolls t d (suc j) s r
      ∙ ap (λ (b : Bool). cond b (prefixed_at t d s r) (level_at t d (suc j - 1) s r >>= λ y. more_at t d (suc j) y.0 y.1 y.2)) no
      ∙ ap (λ (k : ℕ). level_at t d k s r >>= λ y. more_at t d (suc j) y.0 y.1 y.2) j_is
      ∙ ap (λ (o : Option Found). o >>= λ y. more_at t d (suc j) y.0 y.1 y.2) is

  joined : (d j : ℕ) (op : BinaryOperator) (a b c : tree.Expression) (s : State) (r f : Rest) (u : State) (q : Rest) → first s.symbols ≡ sign (sign_of_binary op) → level_of op ≡ suc j → take_operator r ≡ Some f
      → level_at t d j (after s) f ≡ Some (b, u, q) → Combined op a b c → more_at t d (suc j) a s r ≡ more_at t d (suc j) c u q
  joined d j op a b c s r f u q next is taken right both =
      let j_is : suc j - 1 ≡ j = omega arith in
      let here : of_level (suc j) (binary_at (first s.symbols)) ≡ Some op =
      ap (λ (x : Symbol). of_level (suc j) (binary_at x)) next ∙ ap (of_level (suc j)) (binary_back op)
      ∙ ap (λ (b : Bool). cond b (Some op) None) (eq-eqb (level_of op) (suc j) is) in
      more_unrolls t d (suc j) a s r
      ∙ ap (more_with readers t d (suc j) a s r) here
      ∙ ap (λ (o : Option Rest). o >>= λ fewer. level_at t d (suc j - 1) (after s) fewer >>= λ y. reader.combined a op y.0 >>= λ w. more_at t d (suc j) w y.1 y.2) taken
      ∙ ap (λ (k : ℕ). level_at t d k (after s) f >>= λ y. reader.combined a op y.0 >>= λ w. more_at t d (suc j) w y.1 y.2) j_is
      ∙ ap (λ (o : Option Found). o >>= λ y. reader.combined a op y.0 >>= λ w. more_at t d (suc j) w y.1 y.2) right
      ∙ ap (λ (o : Option tree.Expression). o >>= λ w. more_at t d (suc j) w u q) (combined_back op a b c both)

  operator_back : (r f : Rest) → r.operators ≡ f.operators + 1 → r.may_load ≡ f.may_load → take_operator r ≡ Some f
  operator_back r f e same =
      let no : (r.operators == 0) ≡ false = grind (arith, eqb-true r.operators 0) in
      ap (λ (b : Bool). cond b None (Some (record r { operators = r.operators - 1 }))) no
      ∙ ap (λ (q : Rest). Some q) (rest_same (record r { operators = r.operators - 1 }) f (omega arith) same)

  -- what begins an operand or a load is no unary operator, and what begins a load is one of them
  load_begins : {d : ℕ} {before later : Names} {symbols rest : List Symbol} {l : tree.Load} → Load P d before symbols l rest later → (unary_at (first symbols) ≡ None) × (beginning_of (first symbols) ≡ a_load)
  load_begins (grammar.plain v) = (refl, refl)
  load_begins (grammar.once v) = (refl, refl)
  load_begins (grammar.acquire v) = (refl, refl)
  load_begins (grammar.atomic v) = (refl, refl)
  load_begins (grammar.exchange v p) = (refl, refl)
  load_begins (grammar.compare_exchange v p q) = (refl, refl)
  load_begins (grammar.enclosed l) = (refl, refl)

  operand_begins : {d : ℕ} {before later : Names} {symbols rest : List Symbol} {e : tree.Expression} → Operand P d before symbols e rest later → unary_at (first symbols) ≡ None
  operand_begins grammar.a_number = refl
  operand_begins (grammar.a_register r) = refl
  operand_begins (grammar.a_load l) = (load_begins l).0
  operand_begins (grammar.parenthesized lt l) = refl

  prefixed_operand : (d : ℕ) (s : State) (r : Rest) (x : Found) → unary_at (first s.symbols) ≡ None → operand_at t d s r ≡ Some x → is_foreign (first x.1.symbols) ≡ false → level_at t d 0 s r ≡ Some x
  prefixed_operand d s r x begins found ends =
      level_unrolls t d 0 s r ∙ prefixed_unrolls t d s r
      ∙ ap (prefixed_with readers t d s r) begins
      ∙ ap (λ (o : Option Found). o >>= λ y. cond (is_foreign (first y.1.symbols)) None (Some y)) found
      ∙ ap (λ (b : Bool). cond b None (Some x)) ends

  prefixed_operator : (d : ℕ) (op : UnaryOperator) (s : State) (r f : Rest) (e : tree.Expression) (u : State) (q : Rest) → unary_at (first s.symbols) ≡ Some op
      → take_operator r ≡ Some f → level_at t d 0 (after s) f ≡ Some (e, u, q)
      → level_at t d 0 s r ≡ Some (reader.applied op e, u, q)
  prefixed_operator d op s r f e u q begins taken inside =
      let inner : prefixed_at t d (after s) f ≡ Some (e, u, q) = sym (level_unrolls t d 0 (after s) f) ∙ inside in
      level_unrolls t d 0 s r ∙ prefixed_unrolls t d s r
      ∙ ap (prefixed_with readers t d s r) begins
      ∙ ap (λ (o : Option Rest). o >>= λ fewer. prefixed_at t d (after s) fewer >>= λ y. Some (reader.applied op y.0, y.1, y.2)) taken
      ∙ ap (λ (o : Option Found). o >>= λ y. Some (reader.applied op y.0, y.1, y.2)) inner

  operand_number : (d k : ℕ) (before : Names) (rest : List Symbol) (n m : ℕ) (r q : Rest) → Spends t (tree.pure (tree.number k)) n m r q
      → operand_at t d (placed P st (number k ∷ rest) before n) r ≡ Some (tree.pure (tree.number k), placed P st rest before m, q)
  operand_number d k before rest n m r q spends =
      let same : r ≡ q = rest_same r q (omega (arith, spends.operators_are)) (sym spends.may_load) in
      let count : n ≡ m = omega (arith, spends.repeats) in
      operand_unrolls t d (placed P st (number k ∷ rest) before n) r
      ∙ ap (λ (i : ℕ). Some (tree.pure (tree.number k), placed P st rest before i, r)) count
      ∙ ap (λ (v : Rest). Some (tree.pure (tree.number k), placed P st rest before m, v)) same

  operand_name : (d register : ℕ) (name : List ℕ) (before later : Names) (rest : List Symbol) (n m : ℕ) (r q : Rest) → Differ before → IsRegister P before name register later
      → Spends t (tree.pure (tree.register register)) n m r q
      → is_sign OpenParen (first rest) ≡ false
      → operand_at t d (placed P st (identifier name ∷ rest) before n) r ≡ Some (tree.pure (tree.register register), placed P st rest later m, q)
  operand_name d register name before later rest n m r q differ is spends no_call =
      let same : r ≡ q = rest_same r q (omega (arith, spends.operators_are)) (sym spends.may_load) in
      let count : n ≡ m = omega (arith, spends.repeats) in
      operand_unrolls t d (placed P st (identifier name ∷ rest) before n) r
      ∙ ap (λ (o : Option (tree.Expression × State)). o >>= λ x. Some (x.0, x.1, r)) (operand_register P st apart name register before later rest n differ is no_call)
      ∙ ap (λ (i : ℕ). Some (tree.pure (tree.register register), placed P st rest later i, r)) count
      ∙ ap (λ (v : Rest). Some (tree.pure (tree.register register), placed P st rest later m, v)) same

  operand_inside : (d : ℕ) (before later : Names) (symbols rest : List Symbol) (e : tree.Expression) (n m : ℕ) (r q : Rest) → d < 16
      → level_at t (suc d) 7 (placed P st symbols before n) r ≡ Some (e, placed P st (sign CloseParen ∷ rest) later m, q)
      → operand_at t d (placed P st (sign OpenParen ∷ symbols) before n) r ≡ Some (e, placed P st rest later m, q)
  operand_inside d before later symbols rest e n m r q lt inside =
      let no : (d == 16) ≡ false = grind (arith, eqb-true d 16) in
      let d_is : d + 1 ≡ suc d = omega arith in
      operand_unrolls t d (placed P st (sign OpenParen ∷ symbols) before n) r
      ∙ ap (λ (b : Bool). cond b None (level_at t (d + 1) 7 (placed P st symbols before n) r >>= λ x. take_sign CloseParen x.1.symbols >>= λ l. Some (x.0, with_left x.1 l, x.2))) no
      ∙ ap (λ (k : ℕ). level_at t k 7 (placed P st symbols before n) r >>= λ x. take_sign CloseParen x.1.symbols >>= λ l. Some (x.0, with_left x.1 l, x.2)) d_is
      ∙ ap (λ (o : Option Found). o >>= λ x. take_sign CloseParen x.1.symbols >>= λ l. Some (x.0, with_left x.1 l, x.2)) inside
      ∙ ap (λ (o : Option (List Symbol)). o >>= λ l. Some (e, placed P st l later m, q)) (sign_there CloseParen rest)

  operand_load : (d : ℕ) (s : State) (r q : Rest) (l : tree.Load) (u : State) → beginning_of (first s.symbols) ≡ a_load → r.may_load ≡ true → record r { may_load = false } ≡ q → load_at t d s ≡ Some (l, u)
      → operand_at t d s r ≡ Some (tree.loading (tree.load l), u, q)
  operand_load d s r q l u begins may same found =
      operand_unrolls t d s r
      ∙ ap (operand_with readers t d s r) begins
      ∙ loading_unrolls t d s r
      ∙ ap (λ (b : Bool). cond b (load_at t d s >>= λ x. Some (tree.loading (tree.load x.0), x.1, record r { may_load = false })) None) may
      ∙ ap (λ (o : Option (tree.Load × State)). o >>= λ x. Some (tree.loading (tree.load x.0), x.1, record r { may_load = false })) found
      ∙ ap (λ (v : Rest). Some (tree.loading (tree.load l), u, v)) same

  -- ---- loads: what is opened, what is inside, what is closed
  record LoadParts (d : ℕ) (before : Names) (symbols : List Symbol) (l : tree.Load) (rest : List Symbol) (later : Names) (n : ℕ) : Type 0 where
    inner : List Symbol
    closing : List Symbol
    opens : (count : ℕ) → opened count symbols ≡ Some (count + l.data_races, inner)
    fetches : fetch_at t d (placed P st inner before n) ≡ Some (l.fetch, placed P st closing later n)
    closes : closed l.data_races closing ≡ Some rest

  whole_load : (d : ℕ) (before later : Names) (symbols rest : List Symbol) (l : tree.Load) (n m : ℕ) → m ≡ n + t → m ≤ 1024 → LoadParts d before symbols l rest later m
      → load_at t d (placed P st symbols before n) ≡ Some (l, placed P st rest later m)
  whole_load d before later symbols rest l n m is le p =
      let no : nat_lt 1024 (n + t) ≡ false = le-ltb 1024 (n + t) (omega arith) in
      let none : 0 + l.data_races ≡ l.data_races = omega arith in
      load_unrolls t d (placed P st symbols before n)
      ∙ ap (λ (b : Bool). cond b None (Some (placed P st symbols before (n + t))) >>= λ c. opened 0 c.symbols >>= λ o.
      fetch_at t d (with_left c o.1) >>= λ y. closed o.0 y.1.symbols >>= λ v. Some (record { data_races = o.0; fetch = y.0 }, with_left y.1 v)) no
      ∙ ap (λ (i : ℕ). opened 0 symbols >>= λ o. fetch_at t d (placed P st o.1 before i) >>= λ y. closed o.0 y.1.symbols >>= λ v. Some (record { data_races = o.0; fetch = y.0 }, with_left y.1 v)) (sym is)
      ∙ ap (λ (o : Option (ℕ × List Symbol)). o >>= λ o. fetch_at t d (placed P st o.1 before m) >>= λ y. closed o.0 y.1.symbols >>= λ v. Some (record { data_races = o.0; fetch = y.0 }, with_left y.1 v))
      (p.opens 0 ∙ ap (λ (i : ℕ). Some (i, p.inner)) none)
      ∙ ap (λ (o : Option (tree.Fetch × State)). o >>= λ y. closed l.data_races y.1.symbols >>= λ v. Some (record { data_races = l.data_races; fetch = y.0 }, with_left y.1 v)) p.fetches
      ∙ ap (λ (o : Option (List Symbol)). o >>= λ v. Some (l, placed P st v later m)) p.closes

  -- a load without `data_race` has its parts as they are
  bare_parts : (d : ℕ) (before later : Names) (symbols rest : List Symbol) (fetch : tree.Fetch) (n : ℕ) → is_data_race (first symbols) ≡ false
      → fetch_at t d (placed P st symbols before n) ≡ Some (fetch, placed P st rest later n) → LoadParts d before symbols (bare fetch) rest later n
  bare_parts d before later symbols rest fetch n none fetches = record {
    inner = symbols;
    closing = rest;
    opens = λ count.
        let same : count ≡ count + 0 = omega arith in
        opened_unrolls count symbols ∙ ap (λ (b : Bool). cond b (take_sign OpenParen (others symbols) >>= λ l. opened (count + 1) l) (Some (count, symbols))) none ∙ ap (λ (i : ℕ). Some (i, symbols)) same;
    fetches = fetches;
    closes = closed_none rest;
  }

  closed_last : (k : ℕ) (closing rest : List Symbol) → closed k closing ≡ Some (sign CloseParen ∷ rest) → closed (k + 1) closing ≡ Some rest
  closed_last k closing rest e = let k_is : k + 1 ≡ suc k = omega arith in ap (λ (i : ℕ). closed i closing) k_is ∙ last k closing rest e

  enclosed_parts : (d : ℕ) (before later : Names) (symbols rest : List Symbol) (l : tree.Load) (n : ℕ) → LoadParts d before symbols l (sign CloseParen ∷ rest) later n
      → LoadParts d before (word words.DataRace ∷ sign OpenParen ∷ symbols) (enclosed_once l) rest later n
  enclosed_parts d before later symbols rest l n p = record {
    inner = p.inner;
    closing = p.closing;
    opens = λ count.
        let same : (count + 1) + l.data_races ≡ count + (l.data_races + 1) = omega arith in
        opened_unrolls count (word words.DataRace ∷ sign OpenParen ∷ symbols)
        ∙ ap (λ (o : Option (List Symbol)). o >>= λ v. opened (count + 1) v) (sign_there OpenParen symbols)
        ∙ p.opens (count + 1) ∙ ap (λ (i : ℕ). Some (i, p.inner)) same;
    fetches = p.fetches;
    closes = closed_last l.data_races p.closing rest p.closes;
  }

  -- between `(` and `)` of a call
  called_fetch : (d : ℕ) (w : LoadWord) (before later : Names) (symbols rest : List Symbol) (fetch : tree.Fetch) (n : ℕ)
      → arguments_at t d w (placed P st symbols before n) ≡ Some (fetch, placed P st (sign CloseParen ∷ rest) later n)
      → fetch_at t d (placed P st (word (words.Load w) ∷ sign OpenParen ∷ symbols) before n) ≡ Some (fetch, placed P st rest later n)
  called_fetch d w before later symbols rest fetch n inside =
      fetch_unrolls t d (placed P st (word (words.Load w) ∷ sign OpenParen ∷ symbols) before n)
      ∙ ap (λ (o : Option (List Symbol)). o >>= λ l. arguments_at t d w (placed P st l before n) >>= λ y. take_sign CloseParen y.1.symbols >>= λ v. Some (y.0, with_left y.1 v)) (sign_there OpenParen symbols)
      ∙ ap (λ (o : Option (tree.Fetch × State)). o >>= λ y. take_sign CloseParen y.1.symbols >>= λ v. Some (y.0, with_left y.1 v)) inside
      ∙ ap (λ (o : Option (List Symbol)). o >>= λ v. Some (fetch, placed P st v later n)) (sign_there CloseParen rest)

  integer_read : (form : ReadForm) (name : List ℕ) (variable : ℕ) (names : Names) (rest : List Symbol) (n : ℕ) → read_by form ≡ Integers → IsVariable P IsInteger name variable
      → read_of form (placed P st (identifier name ∷ rest) names n) ≡ Some (tree.read form variable, placed P st rest names n)
  unfolding read_of
  integer_read form name variable names rest n is v =
      ap (λ (k : Takes). take_variable k (placed P st (identifier name ∷ rest) names n) >>= λ x. Some (tree.read form x.0, x.1)) is
      ∙ ap (λ (o : Option (ℕ × State)). o >>= λ x. Some (tree.read form x.0, x.1)) (integer_back P st apart name variable v rest names n)

  atomic_read : (name : List ℕ) (variable : ℕ) (names : Names) (rest : List Symbol) (n : ℕ) → IsVariable P IsAtomic name variable
      → read_of reads.Atomic (placed P st (identifier name ∷ rest) names n) ≡ Some (tree.read reads.Atomic variable, placed P st rest names n)
  unfolding read_of
  atomic_read name variable names rest n v =
      ap (λ (o : Option (ℕ × State)). o >>= λ x. Some (tree.read reads.Atomic x.0, x.1)) (atomic_back P st apart name variable v rest names n)

  pub star_there : (symbols : List Symbol) (names : Names) (n : ℕ) → take_star (placed P st (sign Star ∷ symbols) names n) ≡ Some (placed P st symbols names n)
  unfolding take_star
  star_there symbols names n = ap (λ (o : Option (List Symbol)). o >>= λ l. Some (placed P st l names n)) (sign_there Star symbols)

  exchange_read : (d : ℕ) (name : List ℕ) (variable : ℕ) (before later : Names) (symbols rest : List Symbol) (value : tree.Pure) (n : ℕ) → IsVariable P IsInteger name variable
      → pure_at t d (placed P st symbols before n) ≡ Some (value, placed P st rest later n)
      → arguments_at t d loads.Exchange (placed P st (identifier name ∷ sign Comma ∷ symbols) before n) ≡ Some (tree.exchange variable value, placed P st rest later n)
  exchange_read d name variable before later symbols rest value n v inside =
      arguments_unrolls t d loads.Exchange (placed P st (identifier name ∷ sign Comma ∷ symbols) before n)
      ∙ ap (λ (o : Option (ℕ × State)). o >>= λ v. take_sign Comma v.1.symbols >>= λ l. pure_at t d (with_left v.1 l) >>= λ x. Some (tree.exchange v.0 x.0, x.1))
      (integer_back P st apart name variable v (sign Comma ∷ symbols) before n)
      ∙ ap (λ (o : Option (List Symbol)). o >>= λ l. pure_at t d (placed P st l before n) >>= λ x. Some (tree.exchange variable x.0, x.1)) (sign_there Comma symbols)
      ∙ ap (λ (o : Option (tree.Pure × State)). o >>= λ x. Some (tree.exchange variable x.0, x.1)) inside

  compare_read : (d : ℕ) (name : List ℕ) (variable : ℕ) (before between later : Names) (symbols middle rest : List Symbol) (expected replacement : tree.Pure) (n : ℕ) → IsVariable P IsInteger name variable
      → pure_at t d (placed P st symbols before n) ≡ Some (expected, placed P st (sign Comma ∷ middle) between n)
      → pure_at t d (placed P st middle between n) ≡ Some (replacement, placed P st rest later n)
      → arguments_at t d loads.CompareExchange (placed P st (identifier name ∷ sign Comma ∷ symbols) before n) ≡ Some (tree.compare_exchange variable expected replacement, placed P st rest later n)
  compare_read d name variable before between later symbols middle rest expected replacement n v one two =
      arguments_unrolls t d loads.CompareExchange (placed P st (identifier name ∷ sign Comma ∷ symbols) before n)
      ∙ ap (λ (o : Option (ℕ × State)). o >>= λ v. take_sign Comma v.1.symbols >>= λ l. pure_at t d (with_left v.1 l) >>= λ x.
      take_sign Comma x.1.symbols >>= λ l. pure_at t d (with_left x.1 l) >>= λ y. Some (tree.compare_exchange v.0 x.0 y.0, y.1))
      (integer_back P st apart name variable v (sign Comma ∷ symbols) before n)
      ∙ ap (λ (o : Option (List Symbol)). o >>= λ l. pure_at t d (placed P st l before n) >>= λ x.
      take_sign Comma x.1.symbols >>= λ l. pure_at t d (with_left x.1 l) >>= λ y. Some (tree.compare_exchange variable x.0 y.0, y.1)) (sign_there Comma symbols)
      ∙ ap (λ (o : Option (tree.Pure × State)). o >>= λ x. take_sign Comma x.1.symbols >>= λ l. pure_at t d (with_left x.1 l) >>= λ y. Some (tree.compare_exchange variable x.0 y.0, y.1)) one
      ∙ ap (λ (o : Option (List Symbol)). o >>= λ l. pure_at t d (placed P st l between n) >>= λ y. Some (tree.compare_exchange variable expected y.0, y.1)) (sign_there Comma middle)
      ∙ ap (λ (o : Option (tree.Pure × State)). o >>= λ y. Some (tree.compare_exchange variable expected y.0, y.1)) two

  whole_pure : (d : ℕ) (before later : Names) (symbols rest : List Symbol) (value : tree.Pure) (n m : ℕ) → pure_operators value ≤ 256 → n ≡ m → m ≤ 1024
      → Whole 7 d before symbols (tree.pure value) rest later → Follows 7 rest
      → pure_at t d (placed P st symbols before n) ≡ Some (value, placed P st rest later m)
  whole_pure d before later symbols rest value n m le same limit whole follows =
      let q : Rest = record { operators = 256 - pure_operators value; may_load = false } in
      let spends : Spends t (tree.pure value) n m (all_of_it false) q = record { operators_are = omega arith; may_load = refl; can = tt; repeats = omega arith; limit = limit } in
      pure_unrolls t d (placed P st symbols before n)
      ∙ ap (λ (o : Option Found). o >>= λ x. pure_of x) (whole n m (all_of_it false) q spends follows)

  mutual
    level_reached : {k d : ℕ} {before later : Names} {symbols rest : List Symbol} {e : tree.Expression} → Differ before → Level P k d before symbols e rest later → Reached k d before symbols e rest later
    level_reached differ (grammar.operand o) = λ n m r q spends f. prefixed_operand _ _ r _ (operand_begins o) (operand_read differ o n m r q spends f) f.no_foreign
    level_reached differ (grammar.prefixed {depth = d} {before = before} {after = later} {symbols = symbols} {rest = rest} {e = a} {f = g} op l is) = λ n m r q spends f.
        let p = applied_spends t op a g n m r q is spends in
        prefixed_operator d op (placed P st (sign (sign_of_unary op) ∷ symbols) before n) r p.fewer a (placed P st rest later m) q (unary_back op) (operator_back r p.fewer p.one_less p.may_same)
        (level_reached differ l n m p.fewer q p.inside f)
        ∙ ap (λ (w : tree.Expression). Some (w, placed P st rest later m, q)) (applied_back op a g is)
    level_reached differ (grammar.stronger {level = j} l) = λ n m r q spends f. above _ j _ r _ _ q (finish j _ _ _ _ _ _ (level_reached differ l) n m r q spends f)
    level_reached differ (grammar.infixed {level = j} {depth = d} {before = before} {between = between} {after = later} {symbols = symbols} {middle = middle} {rest = rest} {a = a} {b = b} {c = c} op is l s both) = λ n m r q spends f.
        let p = combined_spends t op a b c n m r q both spends in
        level_reached differ l n (n + accesses t a) r p.before_it p.left_side (follows_operator j op middle is)
        ∙ joined d j op a b c (placed P st (sign (sign_of_binary op) ∷ middle) between (n + accesses t a)) p.before_it p.behind_it (placed P st rest later m) q refl is (operator_back p.before_it p.behind_it p.one_less p.may_same)
        (finish j d between later middle rest b (level_reached (level_differs differ l) s) (n + accesses t a) m p.behind_it q p.right_side f) both

    operand_read : {d : ℕ} {before later : Names} {symbols rest : List Symbol} {e : tree.Expression} → Differ before → Operand P d before symbols e rest later
        → (n m : ℕ) (r q : Rest) → Spends t e n m r q → Follows 0 rest → operand_at t d (placed P st symbols before n) r ≡ Some (e, placed P st rest later m, q)
    operand_read differ grammar.a_number n m r q spends f = operand_number _ _ _ _ n m r q spends
    operand_read differ (grammar.a_register is) n m r q spends f = operand_name _ _ _ _ _ _ n m r q differ is spends f.no_call
    operand_read differ (grammar.a_load l) n m r q spends f =
        operand_load _ _ r q _ _ (load_begins l).1 spends.can (rest_same (record r { may_load = false }) q (omega (arith, spends.operators_are)) (sym spends.may_load))
        (whole_load _ _ _ _ _ _ n m spends.repeats spends.limit (load_parts differ l m spends.limit))
    operand_read differ (grammar.parenthesized {rest = rest} lt l) n m r q spends f =
        operand_inside _ _ _ _ rest _ n m r q lt (finish 7 _ _ _ _ _ _ (level_reached differ l) n m r q spends (follows_close rest))

    load_parts : {d : ℕ} {before later : Names} {symbols rest : List Symbol} {l : tree.Load} → Differ before → Load P d before symbols l rest later → (n : ℕ) → n ≤ 1024 → LoadParts d before symbols l rest later n
    load_parts differ (grammar.plain {depth = d} {variable = variable} {before = before} {rest = rest} {name = name} v) n le =
        bare_parts d before before (sign Star ∷ identifier name ∷ rest) rest (tree.read reads.Plain variable) n refl
        (fetch_unrolls t d (placed P st (sign Star ∷ identifier name ∷ rest) before n) ∙ integer_read reads.Plain name variable before rest n refl v)
    load_parts differ (grammar.once {depth = d} {variable = variable} {before = before} {rest = rest} {name = name} v) n le =
        let inside : List Symbol = sign Star ∷ identifier name ∷ sign CloseParen ∷ rest in
        bare_parts d before before (word (words.Load (loads.Read reads.Once)) ∷ sign OpenParen ∷ inside) rest (tree.read reads.Once variable) n refl
        (called_fetch d (loads.Read reads.Once) before before inside rest (tree.read reads.Once variable) n
        (arguments_unrolls t d (loads.Read reads.Once) (placed P st inside before n)
        ∙ ap (λ (o : Option State). o >>= λ u. read_of reads.Once u) (star_there (identifier name ∷ sign CloseParen ∷ rest) before n)
        ∙ integer_read reads.Once name variable before (sign CloseParen ∷ rest) n refl v))
    load_parts differ (grammar.acquire {depth = d} {variable = variable} {before = before} {rest = rest} {name = name} v) n le =
        let inside : List Symbol = identifier name ∷ sign CloseParen ∷ rest in
        bare_parts d before before (word (words.Load (loads.Read reads.Acquire)) ∷ sign OpenParen ∷ inside) rest (tree.read reads.Acquire variable) n refl
        (called_fetch d (loads.Read reads.Acquire) before before inside rest (tree.read reads.Acquire variable) n
        (arguments_unrolls t d (loads.Read reads.Acquire) (placed P st inside before n) ∙ integer_read reads.Acquire name variable before (sign CloseParen ∷ rest) n refl v))
    load_parts differ (grammar.atomic {depth = d} {variable = variable} {before = before} {rest = rest} {name = name} v) n le =
        let inside : List Symbol = identifier name ∷ sign CloseParen ∷ rest in
        bare_parts d before before (word (words.Load (loads.Read reads.Atomic)) ∷ sign OpenParen ∷ inside) rest (tree.read reads.Atomic variable) n refl
        (called_fetch d (loads.Read reads.Atomic) before before inside rest (tree.read reads.Atomic variable) n
        (arguments_unrolls t d (loads.Read reads.Atomic) (placed P st inside before n) ∙ atomic_read name variable before (sign CloseParen ∷ rest) n v))
    load_parts differ (grammar.exchange {rest = rest} v p) n le =
        bare_parts _ _ _ _ rest _ n refl (called_fetch _ loads.Exchange _ _ _ rest _ n (exchange_read _ _ _ _ _ _ _ _ n v (pure_read differ p n le (follows_close rest))))
    load_parts differ (grammar.compare_exchange {middle = middle} {rest = rest} v p q) n le =
        bare_parts _ _ _ _ rest _ n refl (called_fetch _ loads.CompareExchange _ _ _ rest _ n
        (compare_read _ _ _ _ _ _ _ middle _ _ _ n v (pure_read differ p n le (follows_comma middle)) (pure_read (pure_differs differ p) q n le (follows_close rest))))
    load_parts differ (grammar.enclosed l) n le = enclosed_parts _ _ _ _ _ _ n (load_parts differ l n le)

    pure_read : {d : ℕ} {before later : Names} {symbols rest : List Symbol} {value : tree.Pure} → Differ before → Pure P d before symbols value rest later → (n : ℕ) → n ≤ 1024 → Follows 7 rest
        → pure_at t d (placed P st symbols before n) ≡ Some (value, placed P st rest later n)
    pure_read differ (grammar.whole l le) n limit f = whole_pure _ _ _ _ _ _ n n le refl limit (finish 7 _ _ _ _ _ _ (level_reached differ l)) f

  -- ---- whole readers

  pub expression_read : (d : ℕ) (before later : Names) (symbols rest : List Symbol) (e : tree.Expression) (n : ℕ) → Differ before → grammar.Expression P d before symbols e rest later → Follows 7 rest → n + accesses t e ≤ 1024
      → reader.expression_at t d (placed P st symbols before n) ≡ Some (e, placed P st rest later (n + accesses t e))
  unfolding reader.expression_at
  expression_read d before later symbols rest e n differ spelled follows limit =
      let q : Rest = record { operators = 256 - operators e; may_load = may_after e true } in
      let le : operators e ≤ 256 = spelled.limit in
      let spends : Spends t e n (n + accesses t e) (all_of_it true) q = record { operators_are = omega arith; may_load = refl; can = can_load e; repeats = refl; limit = limit } in
      ap (λ (o : Option Found). o >>= λ x. Some (x.0, x.1))
      (finish 7 d before later symbols rest e (level_reached differ spelled.level) n (n + accesses t e) (all_of_it true) q spends follows)
    where
      can_load : (e : tree.Expression) → Can e true
      can_load (tree.pure a) = tt
      can_load (tree.loading a) = refl

  pub pure_is_read : (d : ℕ) (before later : Names) (symbols rest : List Symbol) (value : tree.Pure) (n : ℕ) → Differ before → Pure P d before symbols value rest later → Follows 7 rest → n ≤ 1024
      → pure_at t d (placed P st symbols before n) ≡ Some (value, placed P st rest later n)
  pure_is_read d before later symbols rest value n differ spelled follows limit = pure_read differ spelled n limit follows

  pub load_is_read : (d : ℕ) (before later : Names) (symbols rest : List Symbol) (l : tree.Load) (n : ℕ) → Differ before → Load P d before symbols l rest later → n + t ≤ 1024
      → load_at t d (placed P st symbols before n) ≡ Some (l, placed P st rest later (n + t))
  load_is_read d before later symbols rest l n differ spelled limit =
      whole_load d before later symbols rest l n (n + t) refl limit (load_parts differ spelled (n + t) limit)

-- two readings of the same symbols are one
pub one_reading : (P : List Parameter) → Differ (map name_of P) → (d : ℕ) (before after_one after_two : Names) (symbols rest_one rest_two : List Symbol) (one two : tree.Expression) → Differ before
    → grammar.Expression P d before symbols one rest_one after_one → Follows 7 rest_one
    → grammar.Expression P d before symbols two rest_two after_two → Follows 7 rest_two
    → (one ≡ two) × (rest_one ≡ rest_two) × (after_one ≡ after_two)
one_reading P apart d before after_one after_two symbols rest_one rest_two one two differ spelled_one follows_one spelled_two follows_two =
    let first_read = expression_read P 0 0 apart d before after_one symbols rest_one one 0 differ spelled_one follows_one (none one) in
    let second_read = expression_read P 0 0 apart d before after_two symbols rest_two two 0 differ spelled_two follows_two (none two) in
    let same = same_given (one, placed P 0 rest_one after_one (0 + accesses 0 one)) (two, placed P 0 rest_two after_two (0 + accesses 0 two)) (sym first_read ∙ second_read) in
    (ap (λ (x : tree.Expression × State). x.0) same, ap (λ (x : tree.Expression × State). x.1.symbols) same, ap (λ (x : tree.Expression × State). x.1.names) same)
  where
    none : (e : tree.Expression) → 0 + accesses 0 e ≤ 1024
    none (tree.pure a) = omega arith
    none (tree.loading a) = omega arith
