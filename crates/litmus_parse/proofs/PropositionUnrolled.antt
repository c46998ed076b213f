-- How deep the calls of readers of propositions go doesn't count where it suffices: each is given by the others.
use Rattle.std.proofs.Common.{◌≡◌, ◌∙◌, ℕ, zero, suc, ◌+◌, ◌*◌, ◌-◌, ◌<◌, ◌≤◌, ◌==◌, nat_lt, List, [], ◌∷◌, Bool, true, false, cond, get_or}
use Rattle.std.proofs.Common.{Option, Some, None, length, refl, sym, ap, subst, arith}
use Rattle.std.specs.Prelude.{set, slice_get}
use Rattle.litmus_lex.specs.declared.sign.Sign.TheVariants.{OpenParen, CloseParen, OpenBracket, CloseBracket, Colon, Assign, Tilde}
use Rattle.litmus_lex.specs.declared.sign.Sign.TheVariants.{Conjunction, Disjunction}
use Rattle.litmus_lex.specs.declared.sign.Sign.{Sign}
use Rattle.litmus_syntax.specs.Tree as tree
use Rattle.litmus_lex.specs.declared.words.Word.TheVariants as words
use Rattle.litmus_lex.specs.Front.{◌>>=◌, first, identifier_at, is_sign, number_of, others, take_sign, take_signed}
use Rattle.litmus_lex.specs.Words.{Symbol, word, identifier, number, sign, fault}
use Rattle.litmus_expression.specs.NameReader.{index_of, take_register}
use Rattle.litmus_expression.specs.Names.{Names}
use Rattle.litmus_expression.specs.States.{with_left}
use Rattle.litmus_expression.proofs.Fewer.{at_last, behind_it, either_way, unless_it}
use Rattle.litmus_expression.proofs.Shorter.{register_fewer}
use Rattle.litmus_expression.proofs.Taken.{is_sign_is, others_fewer, same_given, sign_fewer}
use Rattle.litmus_expression.proofs.Unrolled.{bind_same, then_same}
use Rattle.litmus_parse.specs.ConditionReader.{given_value}
use Rattle.litmus_parse.specs.ProcessHeaders as headers
use Rattle.litmus_parse.specs.ProcessHeaders.{Signed}
use Rattle.litmus_parse.specs.PropositionReader.{Asked, Readers, asked_behind, asked_past, atom_at, behind_bracket, by, deep, idle}
use Rattle.litmus_parse.specs.PropositionReader.{inside_by, is_false, is_true}
use Rattle.litmus_parse.specs.PropositionReader.{numbered_or_not, readers, register_atom, register_in, register_with, take_connective}
use Rattle.litmus_parse.specs.PropositionReader.{variable_atom}
use Rattle.litmus_parse.specs.PropositionReader.{disjunction_at, or_more_at, conjunction_at, and_more_at, negation_at}
use Rattle.litmus_parse.specs.VariableReader.{known_named, known_variable, unless_lock}
use Rattle.litmus_parse.proofs.Values.{signed_spelled}

abbrev pub Found : Type 0
Found = tree.Proposition × Asked

abbrev left : Asked → ℕ
left a = length a.symbols

-- fewer symbols are left
abbrev TakesSome : Asked → Found → Type 0
TakesSome a x = left x.1 < left a

abbrev TakesAny : Asked → Found → Type 0
TakesAny a x = left x.1 ≤ left a

-- ---- atoms take symbols

others_at_most : (symbols : List Symbol) → length (others symbols) ≤ length symbols
others_at_most [] = omega arith
others_at_most (s ∷ rest) = omega arith

signed_fewer : {symbols rest : List Symbol} {value : ℕ} → Signed symbols value rest → length rest < length symbols
signed_fewer headers.positive = omega arith
signed_fewer headers.negative = omega arith

pub value_fewer : (symbols : List Symbol) (x : ℕ × List Symbol) → given_value symbols ≡ Some x → length x.1 < length symbols
unfolding given_value
value_fewer symbols x e =
    behind_it (take_sign Assign symbols) (λ l. take_signed l) (λ (y : ℕ × List Symbol). length y.1 < length symbols) x e (λ l given e.
    let one = sign_fewer Assign symbols l given in
    let two = signed_fewer (signed_spelled l x e) in
    omega arith)

pub register_at_most : (task : ℕ) (a : Asked) (x : ℕ × Asked) → register_in task a ≡ Some x → left x.1 ≤ left a
unfolding register_in
register_at_most task a x e =
    behind_it (slice_get a.states task) (λ s. register_with task a s) (λ (y : ℕ × Asked). left y.1 ≤ left a) x e (λ s there e.
    behind_it (take_register (with_left s a.symbols)) (λ r. Some (r.0, record a { symbols = r.1.symbols; states = set a.states task r.1 }))
    (λ (y : ℕ × Asked). left y.1 ≤ left a) x e (λ r is e.
    at_last _ (λ (y : ℕ × Asked). left y.1 ≤ left a) x e (let lt = register_fewer (with_left s a.symbols) r is in omega arith)))

pub register_atom_fewer : (task : ℕ) (a : Asked) (x : Found) → register_atom task a ≡ Some x → TakesSome a x
unfolding register_atom
register_atom_fewer task a x e =
    behind_it (take_sign Colon a.symbols) (λ l. register_in task (asked_behind a l) >>= λ r. given_value r.1.symbols >>= λ v.
    Some (tree.register_is task r.0 v.0, asked_behind r.1 v.1)) (TakesSome a) x e (λ l colon e.
    behind_it (register_in task (asked_behind a l)) (λ r. given_value r.1.symbols >>= λ v. Some
    (tree.register_is task r.0 v.0, asked_behind r.1 v.1))
    (TakesSome a) x e (λ r is e.
    behind_it (given_value r.1.symbols) (λ v. Some (tree.register_is task r.0 v.0, asked_behind r.1 v.1)) (TakesSome a) x e (λ v value e.
    at_last _ (TakesSome a) x e
    (let one = sign_fewer Colon a.symbols l colon in
    let two = register_at_most task (asked_behind a l) r is in
    let three = value_fewer r.1.symbols v value in
    omega arith))))

known_there : (locks : List Bool) (symbols : List Symbol) (o : Option ℕ) (x : ℕ × List Symbol) → unless_lock locks symbols o ≡ Some x → x.1
    ≡ others symbols
known_there locks symbols None x e = absurd cc
known_there locks symbols (Some v) x e =
    unless_it (get_or locks v false) (Some (v, others symbols)) (λ (y : ℕ × List Symbol). y.1 ≡ others symbols) x e (λ no_lock e.
    at_last (v, others symbols) (λ (y : ℕ × List Symbol). y.1 ≡ others symbols) x e refl)

known_at_most_of : (names : Names) (locks : List Bool) (symbols : List Symbol) (o : Option (List ℕ)) (x : ℕ × List Symbol)
    → known_named names locks symbols o ≡ Some x
    → length x.1 ≤ length symbols
known_at_most_of names locks symbols None x e = absurd cc
known_at_most_of names locks symbols (Some name) x e =
    subst (λ (l : List Symbol). length l ≤ length symbols) (sym (known_there locks symbols (index_of names name) x e))
    (others_at_most symbols)

pub known_at_most : (names : Names) (locks : List Bool) (symbols : List Symbol) (x : ℕ × List Symbol) → known_variable names locks symbols
    ≡ Some x
    → length x.1 ≤ length symbols
unfolding known_variable
known_at_most names locks symbols x e = known_at_most_of names locks symbols (identifier_at (first symbols)) x e

bracket_at_most : (b : Bool) (symbols rest : List Symbol) → behind_bracket b symbols ≡ Some rest → length rest ≤ length symbols
bracket_at_most true symbols rest e = let lt = sign_fewer CloseBracket symbols rest e in omega arith
bracket_at_most false symbols rest e = subst (λ (l : List Symbol). length l ≤ length symbols) (same_given symbols rest e) (omega arith)

pub variable_atom_fewer : (names : Names) (locks : List Bool) (b : Bool) (a : Asked) (x : Found) → variable_atom names locks b a ≡ Some x
    → TakesSome a x
unfolding variable_atom
variable_atom_fewer names locks b a x e =
    behind_it (known_variable names locks a.symbols) (λ v. behind_bracket b v.1 >>= λ l. given_value l >>= λ w.
    Some (tree.variable_is v.0 w.0, asked_behind a w.1)) (TakesSome a) x e (λ v known e.
    behind_it (behind_bracket b v.1) (λ l. given_value l >>= λ w. Some (tree.variable_is v.0 w.0, asked_behind a w.1)) (TakesSome a) x e
    (λ l closes e.
    behind_it (given_value l) (λ w. Some (tree.variable_is v.0 w.0, asked_behind a w.1)) (TakesSome a) x e (λ w value e.
    at_last _ (TakesSome a) x e
    (let one = known_at_most names locks a.symbols v known in
    let two = bracket_at_most b v.1 l closes in
    let three = value_fewer l w value in
    omega arith))))

pub true_is : (y : Symbol) → is_true y ≡ true → y ≡ word words.True
true_is (word words.True) e = refl
true_is _ e = absurd cc

pub false_is : (y : Symbol) → is_false y ≡ true → y ≡ word words.False
false_is (word words.False) e = refl
false_is _ e = absurd cc

number_left : (a : Asked) (y : Symbol) (x : ℕ × List Symbol) → number_of y (others a.symbols) ≡ Some x → x.1 ≡ others a.symbols
number_left a (word w) x e = absurd cc
number_left a (identifier name) x e = absurd cc
number_left a (number n) x e = sym (ap (λ (z : ℕ × List Symbol). z.1) (same_given (n, others a.symbols) x e))
number_left a (sign t) x e = absurd cc
number_left a fault x e = absurd cc

module _ (names : Names) (locks : List Bool) where
  number_or_not_fewer : (a : Asked) (o : Option (ℕ × List Symbol)) (x : Found) → number_of (first a.symbols) (others a.symbols) ≡ o
      → numbered_or_not names locks a o ≡ Some x → TakesSome a x
  number_or_not_fewer a None x is e =
      either_way (is_sign OpenBracket (first a.symbols)) (variable_atom names locks true (asked_past a))
      (variable_atom names locks false a) (TakesSome a) x e
      (λ opens e.
      let le = others_at_most a.symbols in
      let lt : TakesSome (asked_past a) x = variable_atom_fewer names locks true (asked_past a) x e in
      omega arith)
      (λ none e. variable_atom_fewer names locks false a x e)
  number_or_not_fewer a (Some n) x is e =
      let le = others_at_most a.symbols in
      let lt : TakesSome (asked_behind a n.1) x = register_atom_fewer n.0 (asked_behind a n.1) x e in
      let same : length n.1 ≡ length (others a.symbols) = ap (λ (l : List Symbol). length l) (number_left a (first a.symbols) n is) in
      omega arith

  pub atom_fewer : (a : Asked) (x : Found) → atom_at names locks a ≡ Some x → TakesSome a x
  unfolding atom_at
  atom_fewer a x e =
      either_way (is_true (first a.symbols)) (Some (tree.always, asked_past a))
      (cond (is_false (first a.symbols)) (Some (tree.never, asked_past a))
      (numbered_or_not names locks a (number_of (first a.symbols) (others a.symbols))))
      (TakesSome a) x e
      (λ is e. at_last (tree.always, asked_past a) (TakesSome a) x e
      (others_fewer a.symbols (word words.True) (true_is (first a.symbols) is) (λ never. cc)))
      (λ no e.
      either_way (is_false (first a.symbols)) (Some (tree.never, asked_past a))
      (numbered_or_not names locks a (number_of (first a.symbols) (others a.symbols)))
      (TakesSome a) x e
      (λ is e. at_last (tree.never, asked_past a) (TakesSome a) x e
      (others_fewer a.symbols (word words.False) (false_is (first a.symbols) is) (λ never. cc)))
      (λ no e. number_or_not_fewer a (number_of (first a.symbols) (others a.symbols)) x refl e))

-- ---- what readers read takes symbols

connective_left : (a u : Asked) → take_connective a ≡ Some u → u.symbols ≡ others a.symbols
unfolding take_connective
connective_left a u e =
    unless_it (a.operators == 0) (Some (record { symbols = others a.symbols; states = a.states; operators = a.operators - 1 }))
    (λ (v : Asked). v.symbols ≡ others a.symbols) u e (λ some e. at_last _ (λ (v : Asked). v.symbols ≡ others a.symbols) u e refl)

pub connective_at_most : (a u : Asked) → take_connective a ≡ Some u → left u ≤ left a
connective_at_most a u e = subst (λ (l : List Symbol). length l ≤ length a.symbols) (sym (connective_left a u e)) (others_at_most a.symbols)

pub sign_some : (s : Sign) (a : Asked) → is_sign s (first a.symbols) ≡ true → length (others a.symbols) < length a.symbols
sign_some s a is = others_fewer a.symbols (sign s) (is_sign_is s (first a.symbols) is) (λ never. cc)

pub connective_fewer : (s : Sign) (a u : Asked) → is_sign s (first a.symbols) ≡ true → take_connective a ≡ Some u → left u < left a
connective_fewer s a u is e = subst (λ (l : List Symbol). length l < length a.symbols) (sym (connective_left a u e)) (sign_some s a is)

pub record Shorter (R : Readers) : Type 0 where
  pub disjunction : (d : ℕ) (a : Asked) (x : Found) → R.disjunction d a ≡ Some x → TakesSome a x
  pub or_more : (d : ℕ) (p : tree.Proposition) (a : Asked) (x : Found) → R.or_more d p a ≡ Some x → TakesAny a x
  pub conjunction : (d : ℕ) (a : Asked) (x : Found) → R.conjunction d a ≡ Some x → TakesSome a x
  pub and_more : (d : ℕ) (p : tree.Proposition) (a : Asked) (x : Found) → R.and_more d p a ≡ Some x → TakesAny a x
  pub negation : (d : ℕ) (a : Asked) (x : Found) → R.negation d a ≡ Some x → TakesSome a x

module _ (names : Names) (locks : List Bool) (R : Readers) (h : Shorter R) where
  disjunction_short : (d : ℕ) (a : Asked) (x : Found) → (by names locks R).disjunction d a ≡ Some x → TakesSome a x
  disjunction_short d a x e =
      behind_it (R.conjunction d a) (λ y. R.or_more d y.0 y.1) (TakesSome a) x e (λ y is e.
      let one : TakesSome a y = h.conjunction d a y is in
      let two : TakesAny y.1 x = h.or_more d y.0 y.1 x e in
      omega arith)

  or_more_short : (d : ℕ) (p : tree.Proposition) (a : Asked) (x : Found) → (by names locks R).or_more d p a ≡ Some x → TakesAny a x
  or_more_short d p a x e =
      either_way (is_sign Disjunction (first a.symbols)) (take_connective a >>= λ u. R.conjunction d u >>= λ y. R.or_more d
      (tree.either p y.0) y.1) (Some (p, a))
      (TakesAny a) x e
      (λ or e.
      behind_it (take_connective a) (λ u. R.conjunction d u >>= λ y. R.or_more d (tree.either p y.0) y.1) (TakesAny a) x e (λ u taken e.
      behind_it (R.conjunction d u) (λ y. R.or_more d (tree.either p y.0) y.1) (TakesAny a) x e (λ y is e.
      let zero = connective_at_most a u taken in
      let one : TakesSome u y = h.conjunction d u y is in
      let two : TakesAny y.1 x = h.or_more d (tree.either p y.0) y.1 x e in
      omega arith)))
      (λ none e. at_last (p, a) (TakesAny a) x e (omega arith))

  conjunction_short : (d : ℕ) (a : Asked) (x : Found) → (by names locks R).conjunction d a ≡ Some x → TakesSome a x
  conjunction_short d a x e =
      behind_it (R.negation d a) (λ y. R.and_more d y.0 y.1) (TakesSome a) x e (λ y is e.
      let one : TakesSome a y = h.negation d a y is in
      let two : TakesAny y.1 x = h.and_more d y.0 y.1 x e in
      omega arith)

  and_more_short : (d : ℕ) (p : tree.Proposition) (a : Asked) (x : Found) → (by names locks R).and_more d p a ≡ Some x → TakesAny a x
  and_more_short d p a x e =
      either_way (is_sign Conjunction (first a.symbols)) (take_connective a >>= λ u. R.negation d u >>= λ y. R.and_more d
      (tree.both p y.0) y.1) (Some (p, a))
      (TakesAny a) x e
      (λ and e.
      behind_it (take_connective a) (λ u. R.negation d u >>= λ y. R.and_more d (tree.both p y.0) y.1) (TakesAny a) x e (λ u taken e.
      behind_it (R.negation d u) (λ y. R.and_more d (tree.both p y.0) y.1) (TakesAny a) x e (λ y is e.
      let zero = connective_at_most a u taken in
      let one : TakesSome u y = h.negation d u y is in
      let two : TakesAny y.1 x = h.and_more d (tree.both p y.0) y.1 x e in
      omega arith)))
      (λ none e. at_last (p, a) (TakesAny a) x e (omega arith))

  negation_short : (d : ℕ) (a : Asked) (x : Found) → (by names locks R).negation d a ≡ Some x → TakesSome a x
  negation_short d a x e =
      either_way (is_sign Tilde (first a.symbols)) (take_connective a >>= λ u. R.negation d u >>= λ y. Some (tree.negation y.0, y.1))
      (cond (is_sign OpenParen (first a.symbols)) (cond (nat_lt d 16) (inside_by R d (asked_past a)) None) (atom_at names locks a))
      (TakesSome a) x e
      (λ denied e.
      behind_it (take_connective a) (λ u. R.negation d u >>= λ y. Some (tree.negation y.0, y.1)) (TakesSome a) x e (λ u taken e.
      behind_it (R.negation d u) (λ y. Some (tree.negation y.0, y.1)) (TakesSome a) x e (λ y is e.
      at_last (tree.negation y.0, y.1) (TakesSome a) x e
      (let zero = connective_at_most a u taken in
      let one : TakesSome u y = h.negation d u y is in
      omega arith))))
      (λ plain e.
      either_way (is_sign OpenParen (first a.symbols)) (cond (nat_lt d 16) (inside_by R d (asked_past a)) None) (atom_at names locks a)
      (TakesSome a) x e
      (λ opens e.
      either_way (nat_lt d 16) (inside_by R d (asked_past a)) None (TakesSome a) x e
      (λ few e.
      behind_it (R.disjunction (d + 1) (asked_past a)) (λ y. take_sign CloseParen y.1.symbols >>= λ l. Some (y.0, asked_behind y.1 l))
      (TakesSome a) x e (λ y is e.
      behind_it (take_sign CloseParen y.1.symbols) (λ l. Some (y.0, asked_behind y.1 l)) (TakesSome a) x e (λ l closes e.
      at_last (y.0, asked_behind y.1 l) (TakesSome a) x e
      (let zero = others_at_most a.symbols in
      let one : TakesSome (asked_past a) y = h.disjunction (d + 1) (asked_past a) y is in
      let two = sign_fewer CloseParen y.1.symbols l closes in
      omega arith))))
      (λ many e. absurd cc))
      (λ none e. atom_fewer names locks a x e))

  by_shorter : Shorter (by names locks R)
  by_shorter = record {
    disjunction = disjunction_short;
    or_more = or_more_short;
    conjunction = conjunction_short;
    and_more = and_more_short;
    negation = negation_short;
  }

idle_shorter : Shorter idle
idle_shorter = record {
  disjunction = λ d a x e. absurd cc;
  or_more = λ d p a x e. absurd cc;
  conjunction = λ d a x e. absurd cc;
  and_more = λ d p a x e. absurd cc;
  negation = λ d a x e. absurd cc;
}

pub deep_shorter : (names : Names) (locks : List Bool) (f : ℕ) → Shorter (deep names locks f)
unfolding deep
deep_shorter names locks zero = idle_shorter
deep_shorter names locks (suc f) = by_shorter names locks (deep names locks f) (deep_shorter names locks f)

-- ---- readers that agree where calls go no deeper than so

pub record Agree (f g : ℕ) (R Q : Readers) : Type 0 where
  pub disjunction : (d : ℕ) (a : Asked) → 10 * left a + 2 < f → 10 * left a + 2 < g → R.disjunction d a ≡ Q.disjunction d a
  pub or_more : (d : ℕ) (p : tree.Proposition) (a : Asked) → 10 * left a < f → 10 * left a < g → R.or_more d p a ≡ Q.or_more d p a
  pub conjunction : (d : ℕ) (a : Asked) → 10 * left a + 1 < f → 10 * left a + 1 < g → R.conjunction d a ≡ Q.conjunction d a
  pub and_more : (d : ℕ) (p : tree.Proposition) (a : Asked) → 10 * left a < f → 10 * left a < g → R.and_more d p a ≡ Q.and_more d p a
  pub negation : (d : ℕ) (a : Asked) → 10 * left a < f → 10 * left a < g → R.negation d a ≡ Q.negation d a

module _ (names : Names) (locks : List Bool) (f g : ℕ) (R Q : Readers) (short : Shorter R) (h : Agree f g R Q) where
  disjunction_agrees : (d : ℕ) (a : Asked) → 10 * left a + 2 < suc f → 10 * left a + 2 < suc g → (by names locks R).disjunction d a
      ≡ (by names locks Q).disjunction d a
  disjunction_agrees d a lf lg =
      bind_same (R.conjunction d a) (Q.conjunction d a) (λ y. R.or_more d y.0 y.1) (λ y. Q.or_more d y.0 y.1)
      (h.conjunction d a (omega arith) (omega arith))
      (λ y is. let lt : TakesSome a y = short.conjunction d a y is in h.or_more d y.0 y.1 (omega arith) (omega arith))

  or_more_agrees : (d : ℕ) (p : tree.Proposition) (a : Asked) (b : Bool) → is_sign Disjunction (first a.symbols) ≡ b → 10 * left a < suc f
      → 10 * left a < suc g
      → cond b (take_connective a >>= λ u. R.conjunction d u >>= λ y. R.or_more d (tree.either p y.0) y.1) (Some (p, a))
      ≡ cond b (take_connective a >>= λ u. Q.conjunction d u >>= λ y. Q.or_more d (tree.either p y.0) y.1) (Some (p, a))
  or_more_agrees d p a true is lf lg =
      then_same (take_connective a) (λ u. R.conjunction d u >>= λ y. R.or_more d (tree.either p y.0) y.1)
      (λ u. Q.conjunction d u >>= λ y. Q.or_more d (tree.either p y.0) y.1)
      (λ u taken.
      let fewer = connective_fewer Disjunction a u is taken in
      bind_same (R.conjunction d u) (Q.conjunction d u) (λ y. R.or_more d (tree.either p y.0) y.1)
      (λ y. Q.or_more d (tree.either p y.0) y.1)
      (h.conjunction d u (omega arith) (omega arith))
      (λ y is. let lt : TakesSome u y = short.conjunction d u y is in h.or_more d (tree.either p y.0) y.1 (omega arith) (omega arith)))
  or_more_agrees d p a false is lf lg = refl

  conjunction_agrees : (d : ℕ) (a : Asked) → 10 * left a + 1 < suc f → 10 * left a + 1 < suc g → (by names locks R).conjunction d a
      ≡ (by names locks Q).conjunction d a
  conjunction_agrees d a lf lg =
      bind_same (R.negation d a) (Q.negation d a) (λ y. R.and_more d y.0 y.1) (λ y. Q.and_more d y.0 y.1)
      (h.negation d a (omega arith) (omega arith))
      (λ y is. let lt : TakesSome a y = short.negation d a y is in h.and_more d y.0 y.1 (omega arith) (omega arith))

  and_more_agrees : (d : ℕ) (p : tree.Proposition) (a : Asked) (b : Bool) → is_sign Conjunction (first a.symbols) ≡ b → 10 * left a < suc f
      → 10 * left a < suc g
      → cond b (take_connective a >>= λ u. R.negation d u >>= λ y. R.and_more d (tree.both p y.0) y.1) (Some (p, a))
      ≡ cond b (take_connective a >>= λ u. Q.negation d u >>= λ y. Q.and_more d (tree.both p y.0) y.1) (Some (p, a))
  and_more_agrees d p a true is lf lg =
      then_same (take_connective a) (λ u. R.negation d u >>= λ y. R.and_more d (tree.both p y.0) y.1)
      (λ u. Q.negation d u >>= λ y. Q.and_more d (tree.both p y.0) y.1)
      (λ u taken.
      let fewer = connective_fewer Conjunction a u is taken in
      bind_same (R.negation d u) (Q.negation d u) (λ y. R.and_more d (tree.both p y.0) y.1) (λ y. Q.and_more d (tree.both p y.0) y.1)
      (h.negation d u (omega arith) (omega arith))
      (λ y is. let lt : TakesSome u y = short.negation d u y is in h.and_more d (tree.both p y.0) y.1 (omega arith) (omega arith)))
  and_more_agrees d p a false is lf lg = refl

  inside_agrees : (d : ℕ) (a : Asked) (b : Bool) → is_sign OpenParen (first a.symbols) ≡ b → 10 * left a < suc f → 10 * left a < suc g
      → cond b (cond (nat_lt d 16) (inside_by R d (asked_past a)) None) (atom_at names locks a)
      ≡ cond b (cond (nat_lt d 16) (inside_by Q d (asked_past a)) None) (atom_at names locks a)
  inside_agrees d a true is lf lg =
      let fewer = sign_some OpenParen a is in
      ap (λ (o : Option Found). cond (nat_lt d 16) (o >>= λ y. take_sign CloseParen y.1.symbols >>= λ l. Some
      (y.0, asked_behind y.1 l)) None)
      (h.disjunction (d + 1) (asked_past a) (omega arith) (omega arith))
  inside_agrees d a false is lf lg = refl

  negation_agrees : (d : ℕ) (a : Asked) (b : Bool) → is_sign Tilde (first a.symbols) ≡ b → 10 * left a < suc f → 10 * left a < suc g
      → cond b (take_connective a >>= λ u. R.negation d u >>= λ y. Some (tree.negation y.0, y.1))
      (cond (is_sign OpenParen (first a.symbols)) (cond (nat_lt d 16) (inside_by R d (asked_past a)) None) (atom_at names locks a))
      ≡ cond b (take_connective a >>= λ u. Q.negation d u >>= λ y. Some (tree.negation y.0, y.1))
      (cond (is_sign OpenParen (first a.symbols)) (cond (nat_lt d 16) (inside_by Q d (asked_past a)) None) (atom_at names locks a))
  negation_agrees d a true is lf lg =
      then_same (take_connective a) (λ u. R.negation d u >>= λ y. Some (tree.negation y.0, y.1))
      (λ u. Q.negation d u >>= λ y. Some (tree.negation y.0, y.1))
      (λ u taken.
      let fewer = connective_fewer Tilde a u is taken in
      ap (λ (o : Option Found). o >>= λ y. Some (tree.negation y.0, y.1)) (h.negation d u (omega arith) (omega arith)))
  negation_agrees d a false is lf lg = inside_agrees d a (is_sign OpenParen (first a.symbols)) refl lf lg

  by_agrees : Agree (suc f) (suc g) (by names locks R) (by names locks Q)
  by_agrees = record {
    disjunction = disjunction_agrees;
    or_more = λ d p a lf lg. or_more_agrees d p a (is_sign Disjunction (first a.symbols)) refl lf lg;
    conjunction = conjunction_agrees;
    and_more = λ d p a lf lg. and_more_agrees d p a (is_sign Conjunction (first a.symbols)) refl lf lg;
    negation = λ d a lf lg. negation_agrees d a (is_sign Tilde (first a.symbols)) refl lf lg;
  }

none_agree : (f g : ℕ) (R Q : Readers) → ((n : ℕ) → n < f → n < g → ⊥) → Agree f g R Q
none_agree f g R Q never = record {
  disjunction = λ d a lf lg. absurd (never (10 * left a + 2) lf lg);
  or_more = λ d p a lf lg. absurd (never (10 * left a) lf lg);
  conjunction = λ d a lf lg. absurd (never (10 * left a + 1) lf lg);
  and_more = λ d p a lf lg. absurd (never (10 * left a) lf lg);
  negation = λ d a lf lg. absurd (never (10 * left a) lf lg);
}

module _ (names : Names) (locks : List Bool) where
  deep_agree : (f g : ℕ) → Agree f g (deep names locks f) (deep names locks g)
  unfolding deep
  deep_agree zero g = none_agree zero g (deep names locks zero) (deep names locks g) (λ n lf lg. omega arith)
  deep_agree (suc f) zero = none_agree (suc f) zero (deep names locks (suc f)) (deep names locks zero) (λ n lf lg. omega arith)
  deep_agree (suc f) (suc g) = by_agrees names locks f g (deep names locks f) (deep names locks g) (deep_shorter names locks f)
      (deep_agree f g)

  -- readers that are as deep as they have to be are as deep as any
  deep_readers : (f : ℕ) → Agree f f (deep names locks f) (readers names locks)
  unfolding disjunction_at or_more_at conjunction_at and_more_at negation_at
  deep_readers f = record {
    disjunction = λ d a lf lg. (deep_agree f (10 * left a + 10)).disjunction d a lf (omega arith);
    or_more = λ d p a lf lg. (deep_agree f (10 * left a + 10)).or_more d p a lf (omega arith);
    conjunction = λ d a lf lg. (deep_agree f (10 * left a + 10)).conjunction d a lf (omega arith);
    and_more = λ d p a lf lg. (deep_agree f (10 * left a + 10)).and_more d p a lf (omega arith);
    negation = λ d a lf lg. (deep_agree f (10 * left a + 10)).negation d a lf (omega arith);
  }

  -- one call deeper
  step_readers : (f : ℕ) → Agree (suc f) (suc f) (deep names locks (suc f)) (by names locks (readers names locks))
  unfolding deep
  step_readers f = by_agrees names locks f f (deep names locks f) (readers names locks) (deep_shorter names locks f) (deep_readers f)

  enough : (a : Asked) → Agree (10 * left a + 10) (suc (10 * left a + 9)) (deep names locks (10 * left a + 10))
      (deep names locks (suc (10 * left a + 9)))
  enough a = deep_agree (10 * left a + 10) (suc (10 * left a + 9))

  one_more : (a : Asked) → Agree (suc (10 * left a + 9)) (suc (10 * left a + 9)) (deep names locks (suc (10 * left a + 9)))
      (by names locks (readers names locks))
  one_more a = step_readers (10 * left a + 9)

  pub disjunction_unrolls : (d : ℕ) (a : Asked) → disjunction_at names locks d a ≡ (by names locks (readers names locks)).disjunction d a
  unfolding disjunction_at
  disjunction_unrolls d a = (enough a).disjunction d a (omega arith) (omega arith)
      ∙ (one_more a).disjunction d a (omega arith) (omega arith)

  pub or_more_unrolls : (d : ℕ) (p : tree.Proposition) (a : Asked) → or_more_at names locks d p a
      ≡ (by names locks (readers names locks)).or_more d p a
  unfolding or_more_at
  or_more_unrolls d p a = (enough a).or_more d p a (omega arith) (omega arith) ∙ (one_more a).or_more d p a (omega arith) (omega arith)

  pub conjunction_unrolls : (d : ℕ) (a : Asked) → conjunction_at names locks d a ≡ (by names locks (readers names locks)).conjunction d a
  unfolding conjunction_at
  conjunction_unrolls d a = (enough a).conjunction d a (omega arith) (omega arith)
      ∙ (one_more a).conjunction d a (omega arith) (omega arith)

  pub and_more_unrolls : (d : ℕ) (p : tree.Proposition) (a : Asked) → and_more_at names locks d p a
      ≡ (by names locks (readers names locks)).and_more d p a
  unfolding and_more_at
  and_more_unrolls d p a = (enough a).and_more d p a (omega arith) (omega arith) ∙ (one_more a).and_more d p a (omega arith) (omega arith)

  pub negation_unrolls : (d : ℕ) (a : Asked) → negation_at names locks d a ≡ (by names locks (readers names locks)).negation d a
  unfolding negation_at
  negation_unrolls d a = (enough a).negation d a (omega arith) (omega arith) ∙ (one_more a).negation d a (omega arith) (omega arith)

pub ruleset unrolls = (disjunction_unrolls, or_more_unrolls, conjunction_unrolls, and_more_unrolls, negation_unrolls)
