-- What is read takes symbols.
use Rattle.std.proofs.Common.{◌≡◌, ◌∙◌, ℕ, zero, suc, ◌+◌, ◌-◌, ◌<◌, ◌≤◌, ◌==◌, List, [], ◌∷◌, ◌++◌, Bool, true, false, cond, Option, Some, None, length, refl, sym, ap, subst, arith}
use Rattle.std.specs.Prelude.{if◌then◌else◌, nat_lt}
use Rattle.litmus_lex.specs.declared.sign.Sign.{Sign}
use Rattle.litmus_lex.specs.declared.sign.Sign.TheVariants.{OpenParen, CloseParen, Comma, Star}
use Rattle.litmus_syntax.specs.declared.expression.BinaryOperator.{BinaryOperator}
use Rattle.litmus_syntax.specs.declared.expression.UnaryOperator.{UnaryOperator}
use Rattle.litmus_syntax.specs.declared.expression.ReadForm.{ReadForm}
use Rattle.litmus_syntax.specs.declared.expression.ReadForm.TheVariants as reads
use Rattle.litmus_syntax.specs.Tree as tree
use Rattle.litmus_lex.specs.declared.words.LoadWord.{LoadWord}
use Rattle.litmus_lex.specs.declared.words.LoadWord.TheVariants as loads
use Rattle.litmus_lex.specs.Front.{◌>>=◌, begins_call, first, identifier_at, is_sign, others, take_sign}
use Rattle.litmus_lex.specs.Words.{Symbol, word, identifier, number, sign, fault}
use Rattle.litmus_expression.specs.declared.expression.Rest.{Rest}
use Rattle.litmus_expression.specs.declared.process.Takes.{Takes}
use Rattle.litmus_expression.specs.declared.process.Takes.TheVariants.{Integers}
use Rattle.litmus_expression.specs.ExpressionReader.{Readers, Beginning, a_number, parenthesis, a_load, a_name, nothing, Loader, starred, called, by, deep, all_of_it, applied, beginning_of, binary_at, closed, combined}
use Rattle.litmus_expression.specs.ExpressionReader.{fetch_with, is_foreign}
use Rattle.litmus_expression.specs.ExpressionReader.{idle, is_data_race, loader_of, more_with, of_level, opened, operand_with, prefixed_with, pure_of, read_by, read_of, read_with, register_operand, take_operator, take_star, unary_at}
use Rattle.litmus_expression.specs.ExpressionReader as reader
use Rattle.litmus_expression.specs.NameReader.{count_access, index_of, name_among, numbered, parameter_named, register_at, register_name, register_named, take_register, take_variable, takes_type, variable_named, variable_of}
use Rattle.litmus_expression.specs.Names.{Parameter}
use Rattle.litmus_expression.specs.States.{State, after, with_left}
use Rattle.litmus_expression.proofs.Taken.{bind_some, guarded, allowed, chosen, same_given, front, fewer, sign_taken, sign_fewer, others_fewer}

-- fewer symbols are left, or no more
abbrev pub Less : State → State → Type 0
Less t s = length t.symbols < length s.symbols

abbrev pub AtMost : State → State → Type 0
AtMost t s = length t.symbols ≤ length s.symbols

-- ---- names

variable_fewer_of : (takes : Takes) (s : State) (o : Option Parameter) (x : ℕ × State) → variable_of takes s o ≡ Some x → x.1 ≡ after s
variable_fewer_of takes s None x e = absurd cc
variable_fewer_of takes s (Some p) x e =
    let a = allowed (takes_type takes p.type) (Some (p.variable, after s)) x e in
    sym (ap (λ (y : ℕ × State). y.1) (same_given (p.variable, after s) x a.1))

identifier_fewer : (symbols : List Symbol) (y : Symbol) (name : List ℕ) → first symbols ≡ y → identifier_at y ≡ Some name → length (others symbols) < length symbols
identifier_fewer symbols (word w) name e is = absurd cc
identifier_fewer symbols (identifier other) name e is = others_fewer symbols (identifier other) e (λ no. cc)
identifier_fewer symbols (number n) name e is = absurd cc
identifier_fewer symbols (sign t) name e is = absurd cc
identifier_fewer symbols fault name e is = absurd cc

variable_fewer_named : (takes : Takes) (s : State) (o : Option (List ℕ)) (x : ℕ × State) → identifier_at (first s.symbols) ≡ o → variable_named takes s o ≡ Some x → Less x.1 s
variable_fewer_named takes s None x is e = absurd cc
variable_fewer_named takes s (Some name) x is e =
    let same = variable_fewer_of takes s (parameter_named s.parameters name) x e in
    let lt = identifier_fewer s.symbols (first s.symbols) name refl is in
    subst (λ (t : State). Less t s) (sym same) lt

pub variable_fewer : (takes : Takes) (s : State) (x : ℕ × State) → take_variable takes s ≡ Some x → Less x.1 s
unfolding take_variable
variable_fewer takes s x e = variable_fewer_named takes s (identifier_at (first s.symbols)) x refl e

numbered_same : (s : State) (name : List ℕ) (o : Option ℕ) (x : ℕ × State) → numbered s name o ≡ Some x → x.1.symbols ≡ s.symbols
numbered_same s name (Some n) x e = sym (ap (λ (y : ℕ × State). y.1.symbols) (same_given (n, s) x e))
numbered_same s name None x e =
    let g = guarded (length s.names == 32) (Some (length s.names, record s { names = s.names ++ name ∷ [] })) x e in
    sym (ap (λ (y : ℕ × State). y.1.symbols) (same_given (length s.names, record s { names = s.names ++ name ∷ [] }) x g.1))

name_among_fewer : (parameters : List Parameter) (symbols : List Symbol) (o : Option (List ℕ)) (name : List ℕ) → identifier_at (first symbols) ≡ o → name_among parameters o ≡ Some name
    → length (others symbols) < length symbols
name_among_fewer parameters symbols None name is e = absurd cc
name_among_fewer parameters symbols (Some other) name is e = identifier_fewer symbols (first symbols) other refl is

pub register_fewer_named : (s : State) (o : Option (List ℕ)) (x : ℕ × State) → register_name s ≡ o → register_named s o ≡ Some x → (x.1.symbols ≡ s.symbols) × (length (others s.symbols) < length s.symbols)
register_fewer_named s None x is e = absurd cc
register_fewer_named s (Some name) x is e =
    (numbered_same s name (index_of s.names name) x e, name_among_fewer s.parameters s.symbols (identifier_at (first s.symbols)) name refl is)

pub register_fewer : (s : State) (x : ℕ × State) → take_register s ≡ Some x → Less x.1 s
unfolding take_register register_at
register_fewer s x e =
    let b = bind_some (register_named s (register_name s)) (λ y. Some (y.0, after y.1)) x e in
    let r = register_fewer_named s (register_name s) b.0 refl b.1 in
    let same : after b.0.1 ≡ x.1 = ap (λ (y : ℕ × State). y.1) (same_given (b.0.0, after b.0.1) x b.2) in
    let lt : length (others b.0.1.symbols) < length s.symbols = rw r.0 r.1 in
    subst (λ (t : State). Less t s) same lt

pub access_same : (turns : ℕ) (s t : State) → count_access turns s ≡ Some t → t.symbols ≡ s.symbols
access_same turns s t e =
    let g = guarded (nat_lt 1024 (s.repeats + turns)) (Some (record s { repeats = s.repeats + turns })) t e in
    sym (ap (λ (y : State). y.symbols) (same_given (record s { repeats = s.repeats + turns }) t g.1))

-- ---- pieces of loads

pub opened_at_most : (count : ℕ) (symbols : List Symbol) (x : ℕ × List Symbol) → opened count symbols ≡ Some x → length x.1 ≤ length symbols
unfolding opened
opened_at_most count [] x e = let same : [] ≡ x.1 = ap (λ (y : ℕ × List Symbol). y.1) (same_given (count, []) x e) in rw (← same) (omega arith)
opened_at_most count (a ∷ []) x e =
    let g = guarded (is_data_race a) (Some (count, a ∷ [])) x e in
    let same : a ∷ [] ≡ x.1 = ap (λ (y : ℕ × List Symbol). y.1) (same_given (count, a ∷ []) x g.1) in
    rw (← same) (omega arith)
opened_at_most count (a ∷ b ∷ symbols) x e =
    chosen (is_data_race a) (cond (is_sign OpenParen b) (opened (count + 1) symbols) None) (Some (count, a ∷ b ∷ symbols)) x (length x.1 ≤ length (a ∷ b ∷ symbols)) e
    (λ race rest.
    let inside = allowed (is_sign OpenParen b) (opened (count + 1) symbols) x rest in
    let le : length x.1 ≤ length symbols = opened_at_most (count + 1) symbols x inside.1 in
    omega arith)
    (λ none rest.
    let same : a ∷ b ∷ symbols ≡ x.1 = ap (λ (y : ℕ × List Symbol). y.1) (same_given (count, a ∷ b ∷ symbols) x rest) in
    rw (← same) (omega arith))

pub closed_at_most : (count : ℕ) (symbols rest : List Symbol) → closed count symbols ≡ Some rest → length rest ≤ length symbols
unfolding closed
closed_at_most zero symbols rest e = rw (← same_given symbols rest e) (omega arith)
closed_at_most (suc count) symbols rest e =
    let b = bind_some (take_sign CloseParen symbols) (λ l. closed count l) rest e in
    let lt = sign_fewer CloseParen symbols b.0 b.1 in
    let le = closed_at_most count b.0 rest b.2 in
    omega arith

read_fewer : (form : ReadForm) (s : State) (x : tree.Fetch × State) → read_of form s ≡ Some x → Less x.1 s
unfolding read_of
read_fewer form s x e =
    let b = bind_some (take_variable (read_by form) s) (λ v. Some (tree.read form v.0, v.1)) x e in
    let same : b.0.1 ≡ x.1 = ap (λ (y : tree.Fetch × State). y.1) (same_given (tree.read form b.0.0, b.0.1) x b.2) in
    subst (λ (t : State). Less t s) same (variable_fewer (read_by form) s b.0 b.1)

star_fewer : (s t : State) → take_star s ≡ Some t → Less t s
unfolding take_star
star_fewer s t e =
    let b = bind_some (take_sign Star s.symbols) (λ l. Some (with_left s l)) t e in
    subst (λ (u : State). Less u s) (same_given (with_left s b.0) t b.2) (sign_fewer Star s.symbols b.0 b.1)

read_with_fewer : (form : ReadForm) (s : State) (x : tree.Fetch × State) → read_with form s ≡ Some x → Less x.1 s
read_with_fewer reads.Plain s x e = absurd cc
read_with_fewer reads.Once s x e =
    let b = bind_some (take_star s) (λ t. read_of reads.Once t) x e in
    let one : Less b.0 s = star_fewer s b.0 b.1 in
    let two : Less x.1 b.0 = read_fewer reads.Once b.0 x b.2 in
    omega arith
read_with_fewer reads.Acquire s x e = read_fewer reads.Acquire s x e
read_with_fewer reads.Atomic s x e = read_fewer reads.Atomic s x e

register_operand_fewer : (s : State) (x : tree.Expression × State) → register_operand s ≡ Some x → Less x.1 s
unfolding register_operand
register_operand_fewer s x e =
    let g = guarded (begins_call s.symbols) (take_register s >>= λ y. Some (tree.pure (tree.register y.0), y.1)) x e in
    let b = bind_some (take_register s) (λ y. Some (tree.pure (tree.register y.0), y.1)) x g.1 in
    let same : b.0.1 ≡ x.1 = ap (λ (y : tree.Expression × State). y.1) (same_given (tree.pure (tree.register b.0.0), b.0.1) x b.2) in
    subst (λ (t : State). Less t s) same (register_fewer s b.0 b.1)

-- ---- what begins a part is a symbol that is left

pub unary_some : (symbols : List Symbol) (x : Symbol) (op : UnaryOperator) → first symbols ≡ x → unary_at x ≡ Some op → length (others symbols) < length symbols
unary_some symbols (word w) op e is = absurd cc
unary_some symbols (identifier name) op e is = absurd cc
unary_some symbols (number n) op e is = absurd cc
unary_some symbols (sign t) op e is = others_fewer symbols (sign t) e (λ no. cc)
unary_some symbols fault op e is = absurd cc

pub binary_some : (symbols : List Symbol) (x : Symbol) (k : ℕ) (op : BinaryOperator) → first symbols ≡ x → of_level k (binary_at x) ≡ Some op → length (others symbols) < length symbols
binary_some symbols (word w) k op e is = absurd cc
binary_some symbols (identifier name) k op e is = absurd cc
binary_some symbols (number n) k op e is = absurd cc
binary_some symbols (sign t) k op e is = others_fewer symbols (sign t) e (λ no. cc)
binary_some symbols fault k op e is = absurd cc

pub beginning_some : (symbols : List Symbol) (x : Symbol) (b : Beginning) → first symbols ≡ x → beginning_of x ≡ b → ¬ (b ≡ nothing) → length (others symbols) < length symbols
beginning_some symbols (word w) b e is some = others_fewer symbols (word w) e (λ no. cc)
beginning_some symbols (identifier name) b e is some = others_fewer symbols (identifier name) e (λ no. cc)
beginning_some symbols (number n) b e is some = others_fewer symbols (number n) e (λ no. cc)
beginning_some symbols (sign t) b e is some = others_fewer symbols (sign t) e (λ no. cc)
beginning_some symbols fault b e is some = absurd (some (sym is))

pub loader_some : (symbols : List Symbol) (x : Symbol) (b : Loader) → first symbols ≡ x → loader_of x ≡ b → ¬ (b ≡ reader.nothing_loads) → length (others symbols) < length symbols
loader_some symbols (word w) b e is some = others_fewer symbols (word w) e (λ no. cc)
loader_some symbols (identifier name) b e is some = others_fewer symbols (identifier name) e (λ no. cc)
loader_some symbols (number n) b e is some = others_fewer symbols (number n) e (λ no. cc)
loader_some symbols (sign t) b e is some = others_fewer symbols (sign t) e (λ no. cc)
loader_some symbols fault b e is some = absurd (some (sym is))

-- ---- the parts

abbrev pub Found : Type 0
Found = tree.Expression × State × Rest

pub record Shorter (R : Readers) : Type 0 where
  pub level : (t d k : ℕ) (s : State) (r : Rest) (x : Found) → R.level t d k s r ≡ Some x → Less x.1 s
  pub more : (t d k : ℕ) (a : tree.Expression) (s : State) (r : Rest) (x : Found) → R.more t d k a s r ≡ Some x → AtMost x.1 s
  pub prefixed : (t d : ℕ) (s : State) (r : Rest) (x : Found) → R.prefixed t d s r ≡ Some x → Less x.1 s
  pub operand : (t d : ℕ) (s : State) (r : Rest) (x : Found) → R.operand t d s r ≡ Some x → Less x.1 s
  pub loading : (t d : ℕ) (s : State) (r : Rest) (x : Found) → R.loading t d s r ≡ Some x → Less x.1 s
  pub load : (t d : ℕ) (s : State) (x : tree.Load × State) → R.load t d s ≡ Some x → Less x.1 s
  pub fetch : (t d : ℕ) (s : State) (x : tree.Fetch × State) → R.fetch t d s ≡ Some x → Less x.1 s
  pub arguments : (t d : ℕ) (w : LoadWord) (s : State) (x : tree.Fetch × State) → R.arguments t d w s ≡ Some x → Less x.1 s
  pub pure : (t d : ℕ) (s : State) (x : tree.Pure × State) → R.pure t d s ≡ Some x → Less x.1 s

more_shorter : (R : Readers) → Shorter R → (t d k : ℕ) (a : tree.Expression) (s : State) (r : Rest) (o : Option BinaryOperator) (x : Found) → of_level k (binary_at (first s.symbols)) ≡ o
    → more_with R t d k a s r o ≡ Some x → AtMost x.1 s
more_shorter R h t d k a s r None x is e =
    let same : s ≡ x.1 = ap (λ (y : Found). y.1) (same_given (a, s, r) x e) in
    subst (λ (u : State). AtMost u s) same (omega arith)
more_shorter R h t d k a s r (Some op) x is e =
    let begun = binary_some s.symbols (first s.symbols) k op refl is in
    let one = bind_some (take_operator r) (λ fewer. R.level t d (k - 1) (after s) fewer >>= λ y. combined a op y.0 >>= λ both. R.more t d k both y.1 y.2) x e in
    let two = bind_some (R.level t d (k - 1) (after s) one.0) (λ y. combined a op y.0 >>= λ both. R.more t d k both y.1 y.2) x one.2 in
    let three = bind_some (combined a op two.0.0) (λ both. R.more t d k both two.0.1 two.0.2) x two.2 in
    let right : Less two.0.1 (after s) = h.level t d (k - 1) (after s) one.0 two.0 two.1 in
    let rest : AtMost x.1 two.0.1 = h.more t d k three.0 two.0.1 two.0.2 x three.2 in
    omega arith

prefixed_shorter : (R : Readers) → Shorter R → (t d : ℕ) (s : State) (r : Rest) (o : Option UnaryOperator) (x : Found) → unary_at (first s.symbols) ≡ o → prefixed_with R t d s r o ≡ Some x → Less x.1 s
prefixed_shorter R h t d s r None x is e =
    let b = bind_some (R.operand t d s r) (λ y. cond (is_foreign (first y.1.symbols)) None (Some y)) x e in
    let g = guarded (is_foreign (first b.0.1.symbols)) (Some b.0) x b.2 in
    subst (λ (y : Found). Less y.1 s) (same_given b.0 x g.1) (h.operand t d s r b.0 b.1)
prefixed_shorter R h t d s r (Some op) x is e =
    let begun = unary_some s.symbols (first s.symbols) op refl is in
    let one = bind_some (take_operator r) (λ fewer. R.prefixed t d (after s) fewer >>= λ y. Some (applied op y.0, y.1, y.2)) x e in
    let two = bind_some (R.prefixed t d (after s) one.0) (λ y. Some (applied op y.0, y.1, y.2)) x one.2 in
    let same : two.0.1 ≡ x.1 = ap (λ (y : Found). y.1) (same_given (applied op two.0.0, two.0.1, two.0.2) x two.2) in
    let inside : Less two.0.1 (after s) = h.prefixed t d (after s) one.0 two.0 two.1 in
    subst (λ (u : State). Less u s) same (omega arith)

operand_shorter : (R : Readers) → Shorter R → (t d : ℕ) (s : State) (r : Rest) (b : Beginning) (x : Found) → beginning_of (first s.symbols) ≡ b → operand_with R t d s r b ≡ Some x → Less x.1 s
operand_shorter R h t d s r (a_number n) x is e =
    let same : after s ≡ x.1 = ap (λ (y : Found). y.1) (same_given (tree.pure (tree.number n), after s, r) x e) in
    subst (λ (u : State). Less u s) same (beginning_some s.symbols (first s.symbols) (a_number n) refl is (λ no. cc))
operand_shorter R h t d s r parenthesis x is e =
    let begun = beginning_some s.symbols (first s.symbols) parenthesis refl is (λ no. cc) in
    let g = guarded (d == 16) (R.level t (d + 1) 7 (after s) r >>= λ y. take_sign CloseParen y.1.symbols >>= λ l. Some (y.0, with_left y.1 l, y.2)) x e in
    let one = bind_some (R.level t (d + 1) 7 (after s) r) (λ y. take_sign CloseParen y.1.symbols >>= λ l. Some (y.0, with_left y.1 l, y.2)) x g.1 in
    let two = bind_some (take_sign CloseParen one.0.1.symbols) (λ l. Some (one.0.0, with_left one.0.1 l, one.0.2)) x one.2 in
    let same : with_left one.0.1 two.0 ≡ x.1 = ap (λ (y : Found). y.1) (same_given (one.0.0, with_left one.0.1 two.0, one.0.2) x two.2) in
    let inside : Less one.0.1 (after s) = h.level t (d + 1) 7 (after s) r one.0 one.1 in
    let close = sign_fewer CloseParen one.0.1.symbols two.0 two.1 in
    subst (λ (u : State). Less u s) same (omega arith)
operand_shorter R h t d s r a_load x is e = h.loading t d s r x e
operand_shorter R h t d s r a_name x is e =
    let b = bind_some (register_operand s) (λ y. Some (y.0, y.1, r)) x e in
    let same : b.0.1 ≡ x.1 = ap (λ (y : Found). y.1) (same_given (b.0.0, b.0.1, r) x b.2) in
    subst (λ (u : State). Less u s) same (register_operand_fewer s b.0 b.1)
operand_shorter R h t d s r nothing x is e = absurd cc

fetch_shorter : (R : Readers) → Shorter R → (t d : ℕ) (s : State) (l : Loader) (x : tree.Fetch × State) → loader_of (first s.symbols) ≡ l → fetch_with R t d s l ≡ Some x → Less x.1 s
fetch_shorter R h t d s starred x is e =
    let begun = loader_some s.symbols (first s.symbols) starred refl is (λ no. cc) in
    let rest : Less x.1 (after s) = read_fewer reads.Plain (after s) x e in
    omega arith
fetch_shorter R h t d s (called w) x is e =
    let begun = loader_some s.symbols (first s.symbols) (called w) refl is (λ no. cc) in
    let one = bind_some (take_sign OpenParen (others s.symbols)) (λ l. R.arguments t d w (with_left s l) >>= λ y. take_sign CloseParen y.1.symbols >>= λ l. Some (y.0, with_left y.1 l)) x e in
    let two = bind_some (R.arguments t d w (with_left s one.0)) (λ y. take_sign CloseParen y.1.symbols >>= λ l. Some (y.0, with_left y.1 l)) x one.2 in
    let three = bind_some (take_sign CloseParen two.0.1.symbols) (λ l. Some (two.0.0, with_left two.0.1 l)) x two.2 in
    let same : with_left two.0.1 three.0 ≡ x.1 = ap (λ (y : tree.Fetch × State). y.1) (same_given (two.0.0, with_left two.0.1 three.0) x three.2) in
    let open_fewer = sign_fewer OpenParen (others s.symbols) one.0 one.1 in
    let inside : Less two.0.1 (with_left s one.0) = h.arguments t d w (with_left s one.0) two.0 two.1 in
    let close_fewer = sign_fewer CloseParen two.0.1.symbols three.0 three.1 in
    subst (λ (u : State). Less u s) same (omega arith)
fetch_shorter R h t d s reader.nothing_loads x is e = absurd cc

load_shorter : (R : Readers) → Shorter R → (t d : ℕ) (s : State) (x : tree.Load × State) → (by R).load t d s ≡ Some x → Less x.1 s
load_shorter R h t d s x e =
    let one = bind_some (count_access t s) (λ c. opened 0 c.symbols >>= λ o. R.fetch t d (with_left c o.1) >>= λ y. closed o.0 y.1.symbols >>= λ l. Some (record { data_races = o.0; fetch = y.0 }, with_left y.1 l)) x e in
    let two = bind_some (opened 0 one.0.symbols) (λ o. R.fetch t d (with_left one.0 o.1) >>= λ y. closed o.0 y.1.symbols >>= λ l. Some (record { data_races = o.0; fetch = y.0 }, with_left y.1 l)) x one.2 in
    let three = bind_some (R.fetch t d (with_left one.0 two.0.1)) (λ y. closed two.0.0 y.1.symbols >>= λ l. Some (record { data_races = two.0.0; fetch = y.0 }, with_left y.1 l)) x two.2 in
    let four = bind_some (closed two.0.0 three.0.1.symbols) (λ l. Some (record { data_races = two.0.0; fetch = three.0.0 }, with_left three.0.1 l)) x three.2 in
    let same : with_left three.0.1 four.0 ≡ x.1 = ap (λ (y : tree.Load × State). y.1) (same_given (record { data_races = two.0.0; fetch = three.0.0 }, with_left three.0.1 four.0) x four.2) in
    let counted = ap (λ (l : List Symbol). length l) (access_same t s one.0 one.1) in
    let races = opened_at_most 0 one.0.symbols two.0 two.1 in
    let inside : Less three.0.1 (with_left one.0 two.0.1) = h.fetch t d (with_left one.0 two.0.1) three.0 three.1 in
    let closes = closed_at_most two.0.0 three.0.1.symbols four.0 four.1 in
    subst (λ (u : State). Less u s) same (omega arith)

loading_shorter : (R : Readers) → Shorter R → (t d : ℕ) (s : State) (r : Rest) (x : Found) → (by R).loading t d s r ≡ Some x → Less x.1 s
loading_shorter R h t d s r x e =
    let a = allowed r.may_load (R.load t d s >>= λ y. Some (tree.loading (tree.load y.0), y.1, record r { may_load = false })) x e in
    let b = bind_some (R.load t d s) (λ y. Some (tree.loading (tree.load y.0), y.1, record r { may_load = false })) x a.1 in
    let same : b.0.1 ≡ x.1 = ap (λ (y : Found). y.1) (same_given (tree.loading (tree.load b.0.0), b.0.1, record r { may_load = false }) x b.2) in
    subst (λ (u : State). Less u s) same (h.load t d s b.0 b.1)

arguments_shorter : (R : Readers) → Shorter R → (t d : ℕ) (w : LoadWord) (s : State) (x : tree.Fetch × State) → (by R).arguments t d w s ≡ Some x → Less x.1 s
arguments_shorter R h t d (loads.Read form) s x e = read_with_fewer form s x e
arguments_shorter R h t d loads.Exchange s x e =
    let one = bind_some (take_variable Integers s) (λ v. take_sign Comma v.1.symbols >>= λ l. R.pure t d (with_left v.1 l) >>= λ y. Some (tree.exchange v.0 y.0, y.1)) x e in
    let two = bind_some (take_sign Comma one.0.1.symbols) (λ l. R.pure t d (with_left one.0.1 l) >>= λ y. Some (tree.exchange one.0.0 y.0, y.1)) x one.2 in
    let three = bind_some (R.pure t d (with_left one.0.1 two.0)) (λ y. Some (tree.exchange one.0.0 y.0, y.1)) x two.2 in
    let same : three.0.1 ≡ x.1 = ap (λ (y : tree.Fetch × State). y.1) (same_given (tree.exchange one.0.0 three.0.0, three.0.1) x three.2) in
    let variable : Less one.0.1 s = variable_fewer Integers s one.0 one.1 in
    let comma = sign_fewer Comma one.0.1.symbols two.0 two.1 in
    let value : Less three.0.1 (with_left one.0.1 two.0) = h.pure t d (with_left one.0.1 two.0) three.0 three.1 in
    subst (λ (u : State). Less u s) same (omega arith)
arguments_shorter R h t d loads.CompareExchange s x e =
    let one = bind_some (take_variable Integers s)
    (λ v. take_sign Comma v.1.symbols >>= λ l. R.pure t d (with_left v.1 l) >>= λ y. take_sign Comma y.1.symbols >>= λ l. R.pure t d (with_left y.1 l) >>= λ z. Some (tree.compare_exchange v.0 y.0 z.0, z.1)) x e in
    let two = bind_some (take_sign Comma one.0.1.symbols)
    (λ l. R.pure t d (with_left one.0.1 l) >>= λ y. take_sign Comma y.1.symbols >>= λ l. R.pure t d (with_left y.1 l) >>= λ z. Some (tree.compare_exchange one.0.0 y.0 z.0, z.1)) x one.2 in
    let three = bind_some (R.pure t d (with_left one.0.1 two.0)) (λ y. take_sign Comma y.1.symbols >>= λ l. R.pure t d (with_left y.1 l) >>= λ z. Some (tree.compare_exchange one.0.0 y.0 z.0, z.1)) x two.2 in
    let four = bind_some (take_sign Comma three.0.1.symbols) (λ l. R.pure t d (with_left three.0.1 l) >>= λ z. Some (tree.compare_exchange one.0.0 three.0.0 z.0, z.1)) x three.2 in
    let five = bind_some (R.pure t d (with_left three.0.1 four.0)) (λ z. Some (tree.compare_exchange one.0.0 three.0.0 z.0, z.1)) x four.2 in
    let same : five.0.1 ≡ x.1 = ap (λ (y : tree.Fetch × State). y.1) (same_given (tree.compare_exchange one.0.0 three.0.0 five.0.0, five.0.1) x five.2) in
    let variable : Less one.0.1 s = variable_fewer Integers s one.0 one.1 in
    let comma = sign_fewer Comma one.0.1.symbols two.0 two.1 in
    let value : Less three.0.1 (with_left one.0.1 two.0) = h.pure t d (with_left one.0.1 two.0) three.0 three.1 in
    let comma_too = sign_fewer Comma three.0.1.symbols four.0 four.1 in
    let value_too : Less five.0.1 (with_left three.0.1 four.0) = h.pure t d (with_left three.0.1 four.0) five.0 five.1 in
    subst (λ (u : State). Less u s) same (omega arith)

pure_fewer : (y : Found) (x : tree.Pure × State) → pure_of y ≡ Some x → y.1 ≡ x.1
pure_fewer (tree.pure a, s, r) x e = ap (λ (z : tree.Pure × State). z.1) (same_given (a, s) x e)
pure_fewer (tree.loading a, s, r) x e = absurd cc

pure_shorter : (R : Readers) → Shorter R → (t d : ℕ) (s : State) (x : tree.Pure × State) → (by R).pure t d s ≡ Some x → Less x.1 s
pure_shorter R h t d s x e =
    let b = bind_some (R.level t d 7 s (all_of_it false)) (λ y. pure_of y) x e in
    subst (λ (u : State). Less u s) (pure_fewer b.0 x b.2) (h.level t d 7 s (all_of_it false) b.0 b.1)

level_shorter : (R : Readers) → Shorter R → (t d k : ℕ) (s : State) (r : Rest) (x : Found) → (by R).level t d k s r ≡ Some x → Less x.1 s
level_shorter R h t d k s r x e =
    chosen (k == 0) (R.prefixed t d s r) (R.level t d (k - 1) s r >>= λ y. R.more t d k y.0 y.1 y.2) x (Less x.1 s) e
    (λ is found. h.prefixed t d s r x found)
    (λ is found.
    let b = bind_some (R.level t d (k - 1) s r) (λ y. R.more t d k y.0 y.1 y.2) x found in
    let left : Less b.0.1 s = h.level t d (k - 1) s r b.0 b.1 in
    let rest : AtMost x.1 b.0.1 = h.more t d k b.0.0 b.0.1 b.0.2 x b.2 in
    omega arith)

pub by_shorter : (R : Readers) → Shorter R → Shorter (by R)
by_shorter R h = record {
  level = level_shorter R h;
  more = λ t d k a s r x e. more_shorter R h t d k a s r (of_level k (binary_at (first s.symbols))) x refl e;
  prefixed = λ t d s r x e. prefixed_shorter R h t d s r (unary_at (first s.symbols)) x refl e;
  operand = λ t d s r x e. operand_shorter R h t d s r (beginning_of (first s.symbols)) x refl e;
  loading = loading_shorter R h;
  load = load_shorter R h;
  fetch = λ t d s x e. fetch_shorter R h t d s (loader_of (first s.symbols)) x refl e;
  arguments = arguments_shorter R h;
  pure = pure_shorter R h;
}

idle_shorter : Shorter idle
idle_shorter = record {
  level = λ t d k s r x e. absurd cc;
  more = λ t d k a s r x e. absurd cc;
  prefixed = λ t d s r x e. absurd cc;
  operand = λ t d s r x e. absurd cc;
  loading = λ t d s r x e. absurd cc;
  load = λ t d s x e. absurd cc;
  fetch = λ t d s x e. absurd cc;
  arguments = λ t d w s x e. absurd cc;
  pure = λ t d s x e. absurd cc;
}

pub deep_shorter : (fuel : ℕ) → Shorter (deep fuel)
unfolding deep
deep_shorter zero = idle_shorter
deep_shorter (suc fuel) = by_shorter (deep fuel) (deep_shorter fuel)
