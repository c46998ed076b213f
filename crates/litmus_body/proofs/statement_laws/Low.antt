-- What is read of expressions makes no more accesses than may be, and counts no statement.
use Rattle.std.proofs.Common.{◌≡◌, ◌∙◌, ℕ, zero, suc, ◌+◌, ◌-◌, ◌*◌, ◌≤◌, ◌==◌, nat_lt, List, [], ◌∷◌, ◌++◌, true, false, cond, Option, Some, None, length, refl, sym}
use Rattle.std.proofs.Common.{subst}
use Rattle.std.proofs.lemmas.Bool.{ltb-false}
use Rattle.litmus_lex.specs.declared.sign.Sign.TheVariants.{OpenParen, CloseParen, Comma}
use Rattle.litmus_syntax.specs.declared.expression.BinaryOperator.{BinaryOperator}
use Rattle.litmus_syntax.specs.declared.expression.UnaryOperator.{UnaryOperator}
use Rattle.litmus_syntax.specs.declared.expression.ReadForm.{ReadForm}
use Rattle.litmus_syntax.specs.declared.expression.ReadForm.TheVariants as reads
use Rattle.litmus_syntax.specs.Tree as tree
use Rattle.litmus_lex.specs.declared.words.LoadWord.{LoadWord}
use Rattle.litmus_lex.specs.declared.words.LoadWord.TheVariants as loads
use Rattle.litmus_lex.specs.Front.{◌>>=◌, begins_call, first, others, take_sign}
use Rattle.litmus_expression.specs.declared.process.Takes.{Takes}
use Rattle.litmus_expression.specs.declared.process.Takes.TheVariants.{Integers}
use Rattle.litmus_expression.specs.ExpressionReader.{Readers, Beginning, a_number, parenthesis, a_load, a_name, nothing, Loader, starred, called, by, deep}
use Rattle.litmus_expression.specs.ExpressionReader.{all_of_it, applied, beginning_of, binary_at, closed, combined, expression_at, fetch_with, idle}
use Rattle.litmus_expression.specs.ExpressionReader.{is_foreign, level_at, load_at, loader_of, more_with, of_level, opened, operand_with, prefixed_with, pure_of, read_by, read_of}
use Rattle.litmus_expression.specs.ExpressionReader.{read_with, register_operand, take_operator, take_star, unary_at}
use Rattle.litmus_expression.specs.ExpressionReader as reader
use Rattle.litmus_expression.specs.NameReader.{count_access, index_of, numbered, register_at, register_name, register_named, take_register, take_variable}
use Rattle.litmus_expression.specs.States.{State, after, with_left}
use Rattle.litmus_expression.proofs.Fewer.{at_last, behind_it, either_way, unless_it}
use Rattle.litmus_expression.proofs.Shorter.{Found}
use Rattle.litmus_expression.proofs.Sound.{variable_reads}
use Rattle.litmus_expression.proofs.Whole.{star_reads}

-- no more accesses than may be
abbrev pub Low : State → Type 0
Low s = s.repeats ≤ 1024

-- as many statements and accesses as before
pub record Same (s u : State) : Type 0 where
  pub statements : u.statements ≡ s.statements
  pub repeats : u.repeats ≡ s.repeats

pub same_both : (s u v : State) → Same s u → Same u v → Same s v
same_both s u v one two = record { statements = two.statements ∙ one.statements; repeats = two.repeats ∙ one.repeats }

pub same_itself : (s : State) → Same s s
same_itself s = record { statements = refl; repeats = refl }

pub low_same : (s u : State) → Same s u → Low s → Low u
low_same s u same low = subst (λ (n : ℕ). n ≤ 1024) (sym same.repeats) low

-- ---- names

pub variable_same : (takes : Takes) (s : State) (x : ℕ × State) → take_variable takes s ≡ Some x → Same s x.1
variable_same takes s x e =
    let r = variable_reads takes s x e in
    record { statements = r.moved.statements; repeats = r.moved.repeats }

pub star_same : (s u : State) → take_star s ≡ Some u → Same s u
star_same s u e =
    let r = star_reads s u e in
    record { statements = r.statements; repeats = r.repeats }

numbered_same : (s : State) (name : List ℕ) (o : Option ℕ) (x : ℕ × State) → numbered s name o ≡ Some x → Same s x.1
numbered_same s name (Some n) x e = at_last (n, s) (λ (y : ℕ × State). Same s y.1) x e (same_itself s)
numbered_same s name None x e =
    unless_it (length s.names == 32) (Some (length s.names, record s { names = s.names ++ name ∷ [] })) (λ (y : ℕ × State). Same s y.1) x e
    (λ free e. at_last _ (λ (y : ℕ × State). Same s y.1) x e (record { statements = refl; repeats = refl }))

register_named_same : (s : State) (o : Option (List ℕ)) (x : ℕ × State) → register_named s o ≡ Some x → Same s x.1
register_named_same s None x e = absurd cc
register_named_same s (Some name) x e = numbered_same s name (index_of s.names name) x e

pub register_same : (s : State) (x : ℕ × State) → register_at s ≡ Some x → Same s x.1
unfolding register_at
register_same s x e = register_named_same s (register_name s) x e

-- ---- accesses

pub counted_low : (t : ℕ) (s c : State) → count_access t s ≡ Some c → s.repeats + t ≤ 1024
counted_low t s c e =
    unless_it (nat_lt 1024 (s.repeats + t)) (Some (record s { repeats = s.repeats + t })) (λ (u : State). s.repeats + t ≤ 1024) c e
    (λ few e. ltb-false 1024 (s.repeats + t) few)

pub access_low : (t : ℕ) (s c : State) → count_access t s ≡ Some c → Low c
access_low t s c e =
    unless_it (nat_lt 1024 (s.repeats + t)) (Some (record s { repeats = s.repeats + t })) Low c e
    (λ few e. at_last (record s { repeats = s.repeats + t }) Low c e (ltb-false 1024 (s.repeats + t) few))

-- ---- pieces of loads

read_low : (form : ReadForm) (s : State) (x : tree.Fetch × State) → Low s → read_of form s ≡ Some x → Low x.1
unfolding read_of
read_low form s x low e =
    behind_it (take_variable (read_by form) s) (λ v. Some (tree.read form v.0, v.1)) (λ (y : tree.Fetch × State). Low y.1) x e (λ v is e.
    at_last (tree.read form v.0, v.1) (λ (y : tree.Fetch × State). Low y.1) x e (low_same s v.1 (variable_same (read_by form) s v is) low))

read_with_low : (form : ReadForm) (s : State) (x : tree.Fetch × State) → Low s → read_with form s ≡ Some x → Low x.1
read_with_low reads.Plain s x low e = absurd cc
read_with_low reads.Once s x low e =
    behind_it (take_star s) (λ u. read_of reads.Once u) (λ (y : tree.Fetch × State). Low y.1) x e (λ u is e.
    read_low reads.Once u x (low_same s u (star_same s u is) low) e)
read_with_low reads.Acquire s x low e = read_low reads.Acquire s x low e
read_with_low reads.Atomic s x low e = read_low reads.Atomic s x low e

register_operand_low : (s : State) (x : tree.Expression × State) → Low s → register_operand s ≡ Some x → Low x.1
unfolding register_operand take_register
register_operand_low s x low e =
    unless_it (begins_call s.symbols) ((register_at s >>= λ r. Some (r.0, after r.1)) >>= λ y. Some (tree.pure (tree.register y.0), y.1))
    (λ (y : tree.Expression × State). Low y.1) x e (λ none e.
    behind_it (register_at s >>= λ r. Some (r.0, after r.1)) (λ y. Some (tree.pure (tree.register y.0), y.1))
    (λ (y : tree.Expression × State). Low y.1) x e (λ y is e.
    at_last (tree.pure (tree.register y.0), y.1) (λ (z : tree.Expression × State). Low z.1) x e
    (behind_it (register_at s) (λ r. Some (r.0, after r.1)) (λ (z : ℕ × State). Low z.1) y is (λ r there is.
    at_last (r.0, after r.1) (λ (z : ℕ × State). Low z.1) y is (low_same s r.1 (register_same s r there) low)))))

-- ---- the parts

pub record Lows (R : Readers) : Type 0 where
  pub level : (t d k : ℕ) (s : State) (r : _) (x : Found) → Low s → R.level t d k s r ≡ Some x → Low x.1
  pub more : (t d k : ℕ) (a : tree.Expression) (s : State) (r : _) (x : Found) → Low s → R.more t d k a s r ≡ Some x → Low x.1
  pub prefixed : (t d : ℕ) (s : State) (r : _) (x : Found) → Low s → R.prefixed t d s r ≡ Some x → Low x.1
  pub operand : (t d : ℕ) (s : State) (r : _) (x : Found) → Low s → R.operand t d s r ≡ Some x → Low x.1
  pub loading : (t d : ℕ) (s : State) (r : _) (x : Found) → Low s → R.loading t d s r ≡ Some x → Low x.1
  pub load : (t d : ℕ) (s : State) (x : tree.Load × State) → Low s → R.load t d s ≡ Some x → Low x.1
  pub fetch : (t d : ℕ) (s : State) (x : tree.Fetch × State) → Low s → R.fetch t d s ≡ Some x → Low x.1
  pub arguments : (t d : ℕ) (w : LoadWord) (s : State) (x : tree.Fetch × State) → Low s → R.arguments t d w s ≡ Some x → Low x.1
  pub pure : (t d : ℕ) (s : State) (x : tree.Pure × State) → Low s → R.pure t d s ≡ Some x → Low x.1

abbrev LowFound : Found → Type 0
LowFound y = Low y.1

abbrev LowFetch : tree.Fetch × State → Type 0
LowFetch y = Low y.1

abbrev LowLoad : tree.Load × State → Type 0
LowLoad y = Low y.1

abbrev LowPure : tree.Pure × State → Type 0
LowPure y = Low y.1

module _ (R : Readers) (h : Lows R) where
  more_low : (t d k : ℕ) (a : tree.Expression) (s : State) (r : _) (o : Option BinaryOperator) (x : Found) → Low s
      → more_with R t d k a s r o ≡ Some x → Low x.1
  more_low t d k a s r None x low e = at_last (a, s, r) LowFound x e low
  more_low t d k a s r (Some op) x low e =
      behind_it (take_operator r) (λ f. R.level t d (k - 1) (after s) f >>= λ y. combined a op y.0 >>= λ both. R.more t d k both y.1 y.2)
      LowFound x e (λ f is e.
      behind_it (R.level t d (k - 1) (after s) f) (λ y. combined a op y.0 >>= λ both. R.more t d k both y.1 y.2) LowFound x e (λ y right e.
      behind_it (combined a op y.0) (λ both. R.more t d k both y.1 y.2) LowFound x e (λ both is e.
      h.more t d k both y.1 y.2 x (h.level t d (k - 1) (after s) f y low right) e)))

  prefixed_low : (t d : ℕ) (s : State) (r : _) (o : Option UnaryOperator) (x : Found) → Low s → prefixed_with R t d s r o ≡ Some x → Low x.1
  prefixed_low t d s r None x low e =
      behind_it (R.operand t d s r) (λ y. cond (is_foreign (first y.1.symbols)) None (Some y)) LowFound x e (λ y is e.
      unless_it (is_foreign (first y.1.symbols)) (Some y) LowFound x e (λ none e. at_last y LowFound x e (h.operand t d s r y low is)))
  prefixed_low t d s r (Some op) x low e =
      behind_it (take_operator r) (λ f. R.prefixed t d (after s) f >>= λ y. Some (applied op y.0, y.1, y.2)) LowFound x e (λ f is e.
      behind_it (R.prefixed t d (after s) f) (λ y. Some (applied op y.0, y.1, y.2)) LowFound x e (λ y is e.
      at_last (applied op y.0, y.1, y.2) LowFound x e (h.prefixed t d (after s) f y low is)))

  operand_low : (t d : ℕ) (s : State) (r : _) (b : Beginning) (x : Found) → Low s → operand_with R t d s r b ≡ Some x → Low x.1
  operand_low t d s r (a_number n) x low e = at_last (tree.pure (tree.number n), after s, r) LowFound x e low
  operand_low t d s r parenthesis x low e =
      unless_it (d == 16) (R.level t (d + 1) 7 (after s) r >>= λ y. take_sign CloseParen y.1.symbols >>= λ l. Some (y.0, with_left y.1 l, y.2))
      LowFound x e (λ few e.
      behind_it (R.level t (d + 1) 7 (after s) r) (λ y. take_sign CloseParen y.1.symbols >>= λ l. Some (y.0, with_left y.1 l, y.2)) LowFound x e (λ y is e.
      behind_it (take_sign CloseParen y.1.symbols) (λ l. Some (y.0, with_left y.1 l, y.2)) LowFound x e (λ l closes e.
      at_last (y.0, with_left y.1 l, y.2) LowFound x e (h.level t (d + 1) 7 (after s) r y low is))))
  operand_low t d s r a_load x low e = h.loading t d s r x low e
  operand_low t d s r a_name x low e =
      behind_it (register_operand s) (λ y. Some (y.0, y.1, r)) LowFound x e (λ y is e.
      at_last (y.0, y.1, r) LowFound x e (register_operand_low s y low is))
  operand_low t d s r nothing x low e = absurd cc

  loading_low : (t d : ℕ) (s : State) (r : _) (x : Found) → Low s → (by R).loading t d s r ≡ Some x → Low x.1
  loading_low t d s r x low e =
      either_way r.may_load (R.load t d s >>= λ y. Some (tree.loading (tree.load y.0), y.1, record r { may_load = false })) None LowFound x e
      (λ may e.
      behind_it (R.load t d s) (λ y. Some (tree.loading (tree.load y.0), y.1, record r { may_load = false })) LowFound x e (λ y is e.
      at_last (tree.loading (tree.load y.0), y.1, record r { may_load = false }) LowFound x e (h.load t d s y low is)))
      (λ none e. absurd cc)

  load_low : (t d : ℕ) (s : State) (x : tree.Load × State) → Low s → (by R).load t d s ≡ Some x → Low x.1
  load_low t d s x low e =
      behind_it (count_access t s) (λ c. opened 0 c.symbols >>= λ o. R.fetch t d (with_left c o.1) >>= λ y. closed o.0 y.1.symbols >>= λ l.
      Some (record { data_races = o.0; fetch = y.0 }, with_left y.1 l)) LowLoad x e (λ c counted e.
      behind_it (opened 0 c.symbols) (λ o. R.fetch t d (with_left c o.1) >>= λ y. closed o.0 y.1.symbols >>= λ l.
      Some (record { data_races = o.0; fetch = y.0 }, with_left y.1 l)) LowLoad x e (λ o opens e.
      behind_it (R.fetch t d (with_left c o.1)) (λ y. closed o.0 y.1.symbols >>= λ l.
      Some (record { data_races = o.0; fetch = y.0 }, with_left y.1 l)) LowLoad x e (λ y is e.
      behind_it (closed o.0 y.1.symbols) (λ l. Some (record { data_races = o.0; fetch = y.0 }, with_left y.1 l)) LowLoad x e (λ l closes e.
      at_last _ LowLoad x e (h.fetch t d (with_left c o.1) y (access_low t s c counted) is)))))

  fetch_low : (t d : ℕ) (s : State) (l : Loader) (x : tree.Fetch × State) → Low s → fetch_with R t d s l ≡ Some x → Low x.1
  fetch_low t d s starred x low e = read_low reads.Plain (after s) x low e
  fetch_low t d s (called w) x low e =
      behind_it (take_sign OpenParen (others s.symbols)) (λ l. R.arguments t d w (with_left s l) >>= λ y. take_sign CloseParen y.1.symbols >>= λ m.
      Some (y.0, with_left y.1 m)) LowFetch x e (λ l opens e.
      behind_it (R.arguments t d w (with_left s l)) (λ y. take_sign CloseParen y.1.symbols >>= λ m. Some (y.0, with_left y.1 m)) LowFetch x e (λ y is e.
      behind_it (take_sign CloseParen y.1.symbols) (λ m. Some (y.0, with_left y.1 m)) LowFetch x e (λ m closes e.
      at_last (y.0, with_left y.1 m) LowFetch x e (h.arguments t d w (with_left s l) y low is))))
  fetch_low t d s reader.nothing_loads x low e = absurd cc

  arguments_low : (t d : ℕ) (w : LoadWord) (s : State) (x : tree.Fetch × State) → Low s → (by R).arguments t d w s ≡ Some x → Low x.1
  arguments_low t d (loads.Read form) s x low e = read_with_low form s x low e
  arguments_low t d loads.Exchange s x low e =
      behind_it (take_variable Integers s) (λ v. take_sign Comma v.1.symbols >>= λ l. R.pure t d (with_left v.1 l) >>= λ y.
      Some (tree.exchange v.0 y.0, y.1)) LowFetch x e (λ v named e.
      behind_it (take_sign Comma v.1.symbols) (λ l. R.pure t d (with_left v.1 l) >>= λ y. Some (tree.exchange v.0 y.0, y.1)) LowFetch x e (λ l comma e.
      behind_it (R.pure t d (with_left v.1 l)) (λ y. Some (tree.exchange v.0 y.0, y.1)) LowFetch x e (λ y is e.
      at_last (tree.exchange v.0 y.0, y.1) LowFetch x e
      (h.pure t d (with_left v.1 l) y (low_same s v.1 (variable_same Integers s v named) low) is))))
  arguments_low t d loads.CompareExchange s x low e =
      behind_it (take_variable Integers s) (λ v. take_sign Comma v.1.symbols >>= λ l. R.pure t d (with_left v.1 l) >>= λ y.
      take_sign Comma y.1.symbols >>= λ m. R.pure t d (with_left y.1 m) >>= λ z. Some (tree.compare_exchange v.0 y.0 z.0, z.1)) LowFetch x e (λ v named e.
      behind_it (take_sign Comma v.1.symbols) (λ l. R.pure t d (with_left v.1 l) >>= λ y.
      take_sign Comma y.1.symbols >>= λ m. R.pure t d (with_left y.1 m) >>= λ z. Some (tree.compare_exchange v.0 y.0 z.0, z.1)) LowFetch x e (λ l comma e.
      behind_it (R.pure t d (with_left v.1 l)) (λ y. take_sign Comma y.1.symbols >>= λ m. R.pure t d (with_left y.1 m) >>= λ z.
      Some (tree.compare_exchange v.0 y.0 z.0, z.1)) LowFetch x e (λ y is e.
      behind_it (take_sign Comma y.1.symbols) (λ m. R.pure t d (with_left y.1 m) >>= λ z. Some (tree.compare_exchange v.0 y.0 z.0, z.1)) LowFetch x e (λ m also e.
      behind_it (R.pure t d (with_left y.1 m)) (λ z. Some (tree.compare_exchange v.0 y.0 z.0, z.1)) LowFetch x e (λ z last e.
      at_last (tree.compare_exchange v.0 y.0 z.0, z.1) LowFetch x e
      (h.pure t d (with_left y.1 m) z (h.pure t d (with_left v.1 l) y (low_same s v.1 (variable_same Integers s v named) low) is) last))))))

  of_pure : (y : Found) (x : tree.Pure × State) → Low y.1 → pure_of y ≡ Some x → Low x.1
  of_pure (tree.pure a, s, r) x low e = at_last (a, s) LowPure x e low
  of_pure (tree.loading a, s, r) x low e = absurd cc

  pure_low : (t d : ℕ) (s : State) (x : tree.Pure × State) → Low s → (by R).pure t d s ≡ Some x → Low x.1
  pure_low t d s x low e =
      behind_it (R.level t d 7 s (all_of_it false)) (λ y. pure_of y) LowPure x e (λ y is e.
      of_pure y x (h.level t d 7 s (all_of_it false) y low is) e)

  level_low : (t d k : ℕ) (s : State) (r : _) (x : Found) → Low s → (by R).level t d k s r ≡ Some x → Low x.1
  level_low t d k s r x low e =
      either_way (k == 0) (R.prefixed t d s r) (R.level t d (k - 1) s r >>= λ y. R.more t d k y.0 y.1 y.2) LowFound x e
      (λ zero e. h.prefixed t d s r x low e)
      (λ more e.
      behind_it (R.level t d (k - 1) s r) (λ y. R.more t d k y.0 y.1 y.2) LowFound x e (λ y is e.
      h.more t d k y.0 y.1 y.2 x (h.level t d (k - 1) s r y low is) e))

  by_low : Lows (by R)
  by_low = record {
    level = level_low;
    more = λ t d k a s r x low e. more_low t d k a s r (of_level k (binary_at (first s.symbols))) x low e;
    prefixed = λ t d s r x low e. prefixed_low t d s r (unary_at (first s.symbols)) x low e;
    operand = λ t d s r x low e. operand_low t d s r (beginning_of (first s.symbols)) x low e;
    loading = loading_low;
    load = load_low;
    fetch = λ t d s x low e. fetch_low t d s (loader_of (first s.symbols)) x low e;
    arguments = arguments_low;
    pure = pure_low;
  }

idle_low : Lows idle
idle_low = record {
  level = λ t d k s r x low e. absurd cc;
  more = λ t d k a s r x low e. absurd cc;
  prefixed = λ t d s r x low e. absurd cc;
  operand = λ t d s r x low e. absurd cc;
  loading = λ t d s r x low e. absurd cc;
  load = λ t d s x low e. absurd cc;
  fetch = λ t d s x low e. absurd cc;
  arguments = λ t d w s x low e. absurd cc;
  pure = λ t d s x low e. absurd cc;
}

deep_low : (fuel : ℕ) → Lows (deep fuel)
unfolding deep
deep_low zero = idle_low
deep_low (suc fuel) = by_low (deep fuel) (deep_low fuel)

pub expression_low : (t d : ℕ) (s : State) (x : tree.Expression × State) → Low s → expression_at t d s ≡ Some x → Low x.1
unfolding expression_at level_at
expression_low t d s x low e =
    behind_it ((deep (20 * length s.symbols + 20 + 7)).level t d 7 s (all_of_it true)) (λ y. Some (y.0, y.1))
    (λ (y : tree.Expression × State). Low y.1) x e (λ y is e.
    at_last (y.0, y.1) (λ (z : tree.Expression × State). Low z.1) x e
    ((deep_low (20 * length s.symbols + 20 + 7)).level t d 7 s (all_of_it true) y low is))

pub load_is_low : (t d : ℕ) (s : State) (x : tree.Load × State) → Low s → load_at t d s ≡ Some x → Low x.1
unfolding load_at
load_is_low t d s x low e = (deep_low (20 * length s.symbols + 20)).load t d s x low e
