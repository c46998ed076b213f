-- How deep the calls of readers go doesn't count where it suffices: each reader is given by the others.
use Rattle.std.proofs.Common.{◌≡◌, ◌∙◌, ℕ, zero, suc, ◌+◌, ◌-◌, ◌*◌, ◌<◌, ◌≤◌, ◌==◌, List, Bool, true, false, cond, Option, Some, None, length, refl, sym, ap, subst, arith}
use Rattle.std.specs.Option.{is_some}
use Rattle.litmus_lex.specs.declared.sign.Sign.TheVariants.{OpenParen, CloseParen, Comma}
use Rattle.litmus_syntax.specs.declared.expression.BinaryOperator.{BinaryOperator}
use Rattle.litmus_syntax.specs.declared.expression.ReadForm.{ReadForm}
use Rattle.litmus_syntax.specs.declared.expression.UnaryOperator.{UnaryOperator}
use Rattle.litmus_syntax.specs.Tree as tree
use Rattle.litmus_lex.specs.declared.words.LoadWord.{LoadWord}
use Rattle.litmus_lex.specs.declared.words.LoadWord.TheVariants as loads
use Rattle.litmus_lex.specs.Front.{◌>>=◌, first, is_sign, others, take_sign}
use Rattle.litmus_lex.specs.declared.sign.Sign.{Sign}
use Rattle.litmus_lex.specs.declared.words.Word.TheVariants as words
use Rattle.litmus_lex.specs.Words.{Symbol, word, sign}
use Rattle.litmus_expression.specs.declared.expression.Rest.{Rest}
use Rattle.litmus_expression.specs.declared.process.Takes.{Takes}
use Rattle.litmus_expression.specs.declared.process.Takes.TheVariants.{Integers}
use Rattle.litmus_expression.specs.ExpressionReader.{Readers, Beginning, a_number, parenthesis, a_load, a_name, nothing}
use Rattle.litmus_expression.specs.ExpressionReader.{Loader, starred, called, nothing_loads, by, deep, idle, readers, all_of_it, applied, beginning_of, binary_at, closed, combined}
use Rattle.litmus_expression.specs.ExpressionReader.{called_word, is_a_load, open_load, plain_operand, plain_with, read_with, starred_read, starred_with}
use Rattle.litmus_expression.specs.ExpressionReader.{fetch_with, is_foreign, loader_of, more_with, of_level, opened, operand_with, prefixed_with, pure_of, take_operator, unary_at}
use Rattle.litmus_expression.specs.ExpressionReader.{level_at, more_at, prefixed_at, operand_at, loading_at, load_at, fetch_at, arguments_at, pure_at}
use Rattle.litmus_expression.specs.NameReader.{count_access, take_variable, variable_before}
use Rattle.litmus_expression.specs.States.{State, after, with_left}
use Rattle.litmus_expression.proofs.Taken.{is_sign_is, sign_fewer}
use Rattle.litmus_expression.proofs.Shorter.{Shorter, Less, AtMost, Found, deep_shorter, access_same, opened_at_most, variable_fewer, unary_some, binary_some, beginning_some, loader_some}

-- ---- two readings that agree go on alike

pub bind_same : {A B : Type 0} (o p : Option A) (f g : A → Option B) → o ≡ p → ((x : A) → o ≡ Some x → f x ≡ g x) → (o >>= f) ≡ (p >>= g)
bind_same None p f g e h = ap (λ (q : Option _). q >>= g) e
bind_same (Some x) p f g e h = h x refl ∙ ap (λ (q : Option _). q >>= g) e

pub then_same : {A B : Type 0} (o : Option A) (f g : A → Option B) → ((x : A) → o ≡ Some x → f x ≡ g x) → (o >>= f) ≡ (o >>= g)
then_same o f g h = bind_same o o f g refl h

pub choice_same : {A : Type 0} (b : Bool) (o p q r : Option A) → o ≡ q → (b ≡ false → p ≡ r) → cond b o p ≡ cond b q r
choice_same true o p q r e f = e
choice_same false o p q r e f = f refl

-- ---- readers that agree where calls go no deeper than so

pub record Agree (f g : ℕ) (R Q : Readers) : Type 0 where
  pub level : (t d k : ℕ) (s : State) (r : Rest) → 20 * length s.symbols + 5 + k < f → 20 * length s.symbols + 5 + k < g → R.level t d k s r ≡ Q.level t d k s r
  pub more : (t d k : ℕ) (a : tree.Expression) (s : State) (r : Rest) → 20 * length s.symbols + k < f → 20 * length s.symbols + k < g → R.more t d k a s r ≡ Q.more t d k a s r
  pub prefixed : (t d : ℕ) (s : State) (r : Rest) → 20 * length s.symbols + 4 < f → 20 * length s.symbols + 4 < g → R.prefixed t d s r ≡ Q.prefixed t d s r
  pub operand : (t d : ℕ) (s : State) (r : Rest) → 20 * length s.symbols + 3 < f → 20 * length s.symbols + 3 < g → R.operand t d s r ≡ Q.operand t d s r
  pub loading : (t d : ℕ) (s : State) (r : Rest) → 20 * length s.symbols + 2 < f → 20 * length s.symbols + 2 < g → R.loading t d s r ≡ Q.loading t d s r
  pub load : (t d : ℕ) (s : State) → 20 * length s.symbols + 1 < f → 20 * length s.symbols + 1 < g → R.load t d s ≡ Q.load t d s
  pub fetch : (t d : ℕ) (s : State) → 20 * length s.symbols < f → 20 * length s.symbols < g → R.fetch t d s ≡ Q.fetch t d s
  pub arguments : (t d : ℕ) (w : LoadWord) (s : State) → 20 * length s.symbols < f → 20 * length s.symbols < g → R.arguments t d w s ≡ Q.arguments t d w s
  pub pure : (t d : ℕ) (s : State) → 20 * length s.symbols + 13 < f → 20 * length s.symbols + 13 < g → R.pure t d s ≡ Q.pure t d s

module _ (f g : ℕ) (R Q : Readers) (short : Shorter R) (h : Agree f g R Q) where
  level_agrees : (t d k : ℕ) (s : State) (r : Rest) → 20 * length s.symbols + 5 + k < suc f → 20 * length s.symbols + 5 + k < suc g → (by R).level t d k s r ≡ (by Q).level t d k s r
  level_agrees t d k s r lf lg =
      choice_same (k == 0) (R.prefixed t d s r) (R.level t d (k - 1) s r >>= λ y. R.more t d k y.0 y.1 y.2) (Q.prefixed t d s r) (Q.level t d (k - 1) s r >>= λ y. Q.more t d k y.0 y.1 y.2)
      (h.prefixed t d s r (omega arith) (omega arith))
      (λ some.
      bind_same (R.level t d (k - 1) s r) (Q.level t d (k - 1) s r) (λ y. R.more t d k y.0 y.1 y.2) (λ y. Q.more t d k y.0 y.1 y.2)
      (h.level t d (k - 1) s r (below k some f lf) (below k some g lg))
      (λ x e. let lt : Less x.1 s = short.level t d (k - 1) s r x e in h.more t d k x.0 x.1 x.2 (omega arith) (omega arith)))
    where
      below : (k : ℕ) → (k == 0) ≡ false → (f : ℕ) → 20 * length s.symbols + 5 + k < suc f → 20 * length s.symbols + 5 + (k - 1) < f
      below zero some f lt = absurd cc
      below (suc j) some f lt = omega arith

  more_agrees : (t d k : ℕ) (a : tree.Expression) (s : State) (r : Rest) (o : Option BinaryOperator) → of_level k (binary_at (first s.symbols)) ≡ o → 20 * length s.symbols + k < suc f → 20 * length s.symbols + k < suc g
      → more_with R t d k a s r o ≡ more_with Q t d k a s r o
  more_agrees t d k a s r None is lf lg = refl
  more_agrees t d k a s r (Some op) is lf lg =
      let begun = binary_some s.symbols (first s.symbols) k op refl is in
      then_same (take_operator r) (λ fewer. R.level t d (k - 1) (after s) fewer >>= λ y. combined a op y.0 >>= λ both. R.more t d k both y.1 y.2)
      (λ fewer. Q.level t d (k - 1) (after s) fewer >>= λ y. combined a op y.0 >>= λ both. Q.more t d k both y.1 y.2)
      (λ fewer taken.
      bind_same (R.level t d (k - 1) (after s) fewer) (Q.level t d (k - 1) (after s) fewer) (λ y. combined a op y.0 >>= λ both. R.more t d k both y.1 y.2) (λ y. combined a op y.0 >>= λ both. Q.more t d k both y.1 y.2)
      (h.level t d (k - 1) (after s) fewer (omega arith) (omega arith))
      (λ x e.
      let lt : Less x.1 (after s) = short.level t d (k - 1) (after s) fewer x e in
      then_same (combined a op x.0) (λ both. R.more t d k both x.1 x.2) (λ both. Q.more t d k both x.1 x.2)
      (λ both is. h.more t d k both x.1 x.2 (omega arith) (omega arith))))

  prefixed_agrees : (t d : ℕ) (s : State) (r : Rest) (o : Option UnaryOperator) → unary_at (first s.symbols) ≡ o → 20 * length s.symbols + 4 < suc f → 20 * length s.symbols + 4 < suc g
      → prefixed_with R t d s r o ≡ prefixed_with Q t d s r o
  prefixed_agrees t d s r None is lf lg =
      ap (λ (o : Option Found). o >>= λ y. cond (is_foreign (first y.1.symbols)) None (Some y)) (h.operand t d s r (omega arith) (omega arith))
  prefixed_agrees t d s r (Some op) is lf lg =
      let begun = unary_some s.symbols (first s.symbols) op refl is in
      then_same (take_operator r) (λ fewer. R.prefixed t d (after s) fewer >>= λ y. Some (applied op y.0, y.1, y.2)) (λ fewer. Q.prefixed t d (after s) fewer >>= λ y. Some (applied op y.0, y.1, y.2))
      (λ fewer taken. ap (λ (o : Option Found). o >>= λ y. Some (applied op y.0, y.1, y.2)) (h.prefixed t d (after s) fewer (omega arith) (omega arith)))

  operand_agrees : (t d : ℕ) (s : State) (r : Rest) (b : Beginning) → beginning_of (first s.symbols) ≡ b → 20 * length s.symbols + 3 < suc f → 20 * length s.symbols + 3 < suc g
      → operand_with R t d s r b ≡ operand_with Q t d s r b
  operand_agrees t d s r (a_number n) is lf lg = refl
  operand_agrees t d s r parenthesis is lf lg =
      let begun = beginning_some s.symbols (first s.symbols) parenthesis refl is (λ no. cc) in
      ap (λ (o : Option Found). cond (d == 16) None (o >>= λ y. take_sign CloseParen y.1.symbols >>= λ l. Some (y.0, with_left y.1 l, y.2))) (h.level t (d + 1) 7 (after s) r (omega arith) (omega arith))
  operand_agrees t d s r a_load is lf lg = h.loading t d s r (omega arith) (omega arith)
  operand_agrees t d s r a_name is lf lg = refl
  operand_agrees t d s r nothing is lf lg = refl

  loading_agrees : (t d : ℕ) (s : State) (r : Rest) → 20 * length s.symbols + 2 < suc f → 20 * length s.symbols + 2 < suc g → (by R).loading t d s r ≡ (by Q).loading t d s r
  loading_agrees t d s r lf lg =
      ap (λ (o : Option (tree.Load × State)). cond r.may_load (o >>= λ y. Some (tree.loading (tree.load y.0), y.1, record r { may_load = false })) None) (h.load t d s (omega arith) (omega arith))

  load_agrees : (t d : ℕ) (s : State) → 20 * length s.symbols + 1 < suc f → 20 * length s.symbols + 1 < suc g → (by R).load t d s ≡ (by Q).load t d s
  load_agrees t d s lf lg =
      then_same (count_access t s)
      (λ c. opened 0 c.symbols >>= λ o. R.fetch t d (with_left c o.1) >>= λ y. closed o.0 y.1.symbols >>= λ l. Some (record { data_races = o.0; fetch = y.0 }, with_left y.1 l))
      (λ c. opened 0 c.symbols >>= λ o. Q.fetch t d (with_left c o.1) >>= λ y. closed o.0 y.1.symbols >>= λ l. Some (record { data_races = o.0; fetch = y.0 }, with_left y.1 l))
      (λ c counted.
      then_same (opened 0 c.symbols)
      (λ o. R.fetch t d (with_left c o.1) >>= λ y. closed o.0 y.1.symbols >>= λ l. Some (record { data_races = o.0; fetch = y.0 }, with_left y.1 l))
      (λ o. Q.fetch t d (with_left c o.1) >>= λ y. closed o.0 y.1.symbols >>= λ l. Some (record { data_races = o.0; fetch = y.0 }, with_left y.1 l))
      (λ o races.
      let same = ap (λ (l : List Symbol). length l) (access_same t s c counted) in
      let le = opened_at_most 0 c.symbols o races in
      ap (λ (p : Option (tree.Fetch × State)). p >>= λ y. closed o.0 y.1.symbols >>= λ l. Some (record { data_races = o.0; fetch = y.0 }, with_left y.1 l)) (h.fetch t d (with_left c o.1) (omega arith) (omega arith))))

  fetch_agrees : (t d : ℕ) (s : State) (l : Loader) → loader_of (first s.symbols) ≡ l → 20 * length s.symbols < suc f → 20 * length s.symbols < suc g → fetch_with R t d s l ≡ fetch_with Q t d s l
  fetch_agrees t d s starred is lf lg = refl
  fetch_agrees t d s (called w) is lf lg =
      let begun = loader_some s.symbols (first s.symbols) (called w) refl is (λ no. cc) in
      then_same (take_sign OpenParen (others s.symbols))
      (λ l. R.arguments t d w (with_left s l) >>= λ y. take_sign CloseParen y.1.symbols >>= λ m. Some (y.0, with_left y.1 m))
      (λ l. Q.arguments t d w (with_left s l) >>= λ y. take_sign CloseParen y.1.symbols >>= λ m. Some (y.0, with_left y.1 m))
      (λ l opens.
      let lt = sign_fewer OpenParen (others s.symbols) l opens in
      ap (λ (p : Option (tree.Fetch × State)). p >>= λ y. take_sign CloseParen y.1.symbols >>= λ m. Some (y.0, with_left y.1 m)) (h.arguments t d w (with_left s l) (omega arith) (omega arith)))
  fetch_agrees t d s nothing_loads is lf lg = refl

  arguments_agree : (t d : ℕ) (w : LoadWord) (s : State) → 20 * length s.symbols < suc f → 20 * length s.symbols < suc g → (by R).arguments t d w s ≡ (by Q).arguments t d w s
  arguments_agree t d (loads.Read form) s lf lg = refl
  arguments_agree t d loads.Exchange s lf lg =
      then_same (take_variable Integers s)
      (λ v. take_sign Comma v.1.symbols >>= λ l. R.pure t d (with_left v.1 l) >>= λ y. Some (tree.exchange v.0 y.0, y.1))
      (λ v. take_sign Comma v.1.symbols >>= λ l. Q.pure t d (with_left v.1 l) >>= λ y. Some (tree.exchange v.0 y.0, y.1))
      (λ v named.
      let one : Less v.1 s = variable_fewer Integers s v named in
      then_same (take_sign Comma v.1.symbols)
      (λ l. R.pure t d (with_left v.1 l) >>= λ y. Some (tree.exchange v.0 y.0, y.1))
      (λ l. Q.pure t d (with_left v.1 l) >>= λ y. Some (tree.exchange v.0 y.0, y.1))
      (λ l comma.
      let two = sign_fewer Comma v.1.symbols l comma in
      ap (λ (p : Option (tree.Pure × State)). p >>= λ y. Some (tree.exchange v.0 y.0, y.1)) (h.pure t d (with_left v.1 l) (omega arith) (omega arith))))
  arguments_agree t d loads.CompareExchange s lf lg =
      then_same (take_variable Integers s)
      (λ v. take_sign Comma v.1.symbols >>= λ l. R.pure t d (with_left v.1 l) >>= λ y. take_sign Comma y.1.symbols >>= λ m. R.pure t d (with_left y.1 m) >>= λ z. Some (tree.compare_exchange v.0 y.0 z.0, z.1))
      (λ v. take_sign Comma v.1.symbols >>= λ l. Q.pure t d (with_left v.1 l) >>= λ y. take_sign Comma y.1.symbols >>= λ m. Q.pure t d (with_left y.1 m) >>= λ z. Some (tree.compare_exchange v.0 y.0 z.0, z.1))
      (λ v named.
      let one : Less v.1 s = variable_fewer Integers s v named in
      then_same (take_sign Comma v.1.symbols)
      (λ l. R.pure t d (with_left v.1 l) >>= λ y. take_sign Comma y.1.symbols >>= λ m. R.pure t d (with_left y.1 m) >>= λ z. Some (tree.compare_exchange v.0 y.0 z.0, z.1))
      (λ l. Q.pure t d (with_left v.1 l) >>= λ y. take_sign Comma y.1.symbols >>= λ m. Q.pure t d (with_left y.1 m) >>= λ z. Some (tree.compare_exchange v.0 y.0 z.0, z.1))
      (λ l comma.
      let two = sign_fewer Comma v.1.symbols l comma in
      bind_same (R.pure t d (with_left v.1 l)) (Q.pure t d (with_left v.1 l))
      (λ y. take_sign Comma y.1.symbols >>= λ m. R.pure t d (with_left y.1 m) >>= λ z. Some (tree.compare_exchange v.0 y.0 z.0, z.1))
      (λ y. take_sign Comma y.1.symbols >>= λ m. Q.pure t d (with_left y.1 m) >>= λ z. Some (tree.compare_exchange v.0 y.0 z.0, z.1))
      (h.pure t d (with_left v.1 l) (omega arith) (omega arith))
      (λ y value.
      let three : Less y.1 (with_left v.1 l) = short.pure t d (with_left v.1 l) y value in
      then_same (take_sign Comma y.1.symbols)
      (λ m. R.pure t d (with_left y.1 m) >>= λ z. Some (tree.compare_exchange v.0 y.0 z.0, z.1))
      (λ m. Q.pure t d (with_left y.1 m) >>= λ z. Some (tree.compare_exchange v.0 y.0 z.0, z.1))
      (λ m comma_too.
      let four = sign_fewer Comma y.1.symbols m comma_too in
      ap (λ (p : Option (tree.Pure × State)). p >>= λ z. Some (tree.compare_exchange v.0 y.0 z.0, z.1)) (h.pure t d (with_left y.1 m) (omega arith) (omega arith))))))

  pure_agrees : (t d : ℕ) (s : State) → 20 * length s.symbols + 13 < suc f → 20 * length s.symbols + 13 < suc g → (by R).pure t d s ≡ (by Q).pure t d s
  pure_agrees t d s lf lg = ap (λ (o : Option Found). o >>= λ y. pure_of y) (h.level t d 7 s (all_of_it false) (omega arith) (omega arith))

  by_agrees : Agree (suc f) (suc g) (by R) (by Q)
  by_agrees = record {
    level = level_agrees;
    more = λ t d k a s r lf lg. more_agrees t d k a s r (of_level k (binary_at (first s.symbols))) refl lf lg;
    prefixed = λ t d s r lf lg. prefixed_agrees t d s r (unary_at (first s.symbols)) refl lf lg;
    operand = λ t d s r lf lg. operand_agrees t d s r (beginning_of (first s.symbols)) refl lf lg;
    loading = loading_agrees;
    load = load_agrees;
    fetch = λ t d s lf lg. fetch_agrees t d s (loader_of (first s.symbols)) refl lf lg;
    arguments = arguments_agree;
    pure = pure_agrees;
  }

none_agree : (f g : ℕ) (R Q : Readers) → ((n : ℕ) → n < f → n < g → ⊥) → Agree f g R Q
none_agree f g R Q never = record {
  level = λ t d k s r lf lg. absurd (never (20 * length s.symbols + 5 + k) lf lg);
  more = λ t d k a s r lf lg. absurd (never (20 * length s.symbols + k) lf lg);
  prefixed = λ t d s r lf lg. absurd (never (20 * length s.symbols + 4) lf lg);
  operand = λ t d s r lf lg. absurd (never (20 * length s.symbols + 3) lf lg);
  loading = λ t d s r lf lg. absurd (never (20 * length s.symbols + 2) lf lg);
  load = λ t d s lf lg. absurd (never (20 * length s.symbols + 1) lf lg);
  fetch = λ t d s lf lg. absurd (never (20 * length s.symbols) lf lg);
  arguments = λ t d w s lf lg. absurd (never (20 * length s.symbols) lf lg);
  pure = λ t d s lf lg. absurd (never (20 * length s.symbols + 13) lf lg);
}

deep_agree : (f g : ℕ) → Agree f g (deep f) (deep g)
unfolding deep
deep_agree zero g = none_agree zero g (deep zero) (deep g) (λ n lf lg. omega arith)
deep_agree (suc f) zero = none_agree (suc f) zero (deep (suc f)) (deep zero) (λ n lf lg. omega arith)
deep_agree (suc f) (suc g) = by_agrees f g (deep f) (deep g) (deep_shorter f) (deep_agree f g)

-- readers that are as deep as they have to be are as deep as any
deep_readers : (f : ℕ) → Agree f f (deep f) readers
unfolding level_at more_at prefixed_at operand_at loading_at load_at fetch_at arguments_at pure_at
deep_readers f = record {
  level = λ t d k s r lf lg. (deep_agree f (20 * length s.symbols + 20 + k)).level t d k s r lf (omega arith);
  more = λ t d k a s r lf lg. (deep_agree f (20 * length s.symbols + 20 + k)).more t d k a s r lf (omega arith);
  prefixed = λ t d s r lf lg. (deep_agree f (20 * length s.symbols + 20)).prefixed t d s r lf (omega arith);
  operand = λ t d s r lf lg. (deep_agree f (20 * length s.symbols + 20)).operand t d s r lf (omega arith);
  loading = λ t d s r lf lg. (deep_agree f (20 * length s.symbols + 20)).loading t d s r lf (omega arith);
  load = λ t d s lf lg. (deep_agree f (20 * length s.symbols + 20)).load t d s lf (omega arith);
  fetch = λ t d s lf lg. (deep_agree f (20 * length s.symbols + 20)).fetch t d s lf (omega arith);
  arguments = λ t d w s lf lg. (deep_agree f (20 * length s.symbols + 20)).arguments t d w s lf (omega arith);
  pure = λ t d s lf lg. (deep_agree f (20 * length s.symbols + 20)).pure t d s lf (omega arith);
}

-- one call deeper
step_readers : (f : ℕ) → Agree (suc f) (suc f) (deep (suc f)) (by readers)
unfolding deep
step_readers f = by_agrees f f (deep f) readers (deep_shorter f) (deep_readers f)

pub level_unrolls : (t d k : ℕ) (s : State) (r : Rest) → level_at t d k s r ≡ (by readers).level t d k s r
unfolding level_at
level_unrolls t d k s r =
    let n = 20 * length s.symbols + 19 + k in
    (deep_agree (20 * length s.symbols + 20 + k) (suc n)).level t d k s r (omega arith) (omega arith) ∙ (step_readers n).level t d k s r (omega arith) (omega arith)

pub more_unrolls : (t d k : ℕ) (a : tree.Expression) (s : State) (r : Rest) → more_at t d k a s r ≡ (by readers).more t d k a s r
unfolding more_at
more_unrolls t d k a s r =
    let n = 20 * length s.symbols + 19 + k in
    (deep_agree (20 * length s.symbols + 20 + k) (suc n)).more t d k a s r (omega arith) (omega arith) ∙ (step_readers n).more t d k a s r (omega arith) (omega arith)

pub prefixed_unrolls : (t d : ℕ) (s : State) (r : Rest) → prefixed_at t d s r ≡ (by readers).prefixed t d s r
unfolding prefixed_at
prefixed_unrolls t d s r =
    let n = 20 * length s.symbols + 19 in
    (deep_agree (20 * length s.symbols + 20) (suc n)).prefixed t d s r (omega arith) (omega arith) ∙ (step_readers n).prefixed t d s r (omega arith) (omega arith)

pub operand_unrolls : (t d : ℕ) (s : State) (r : Rest) → operand_at t d s r ≡ (by readers).operand t d s r
unfolding operand_at
operand_unrolls t d s r =
    let n = 20 * length s.symbols + 19 in
    (deep_agree (20 * length s.symbols + 20) (suc n)).operand t d s r (omega arith) (omega arith) ∙ (step_readers n).operand t d s r (omega arith) (omega arith)

pub loading_unrolls : (t d : ℕ) (s : State) (r : Rest) → loading_at t d s r ≡ (by readers).loading t d s r
unfolding loading_at
loading_unrolls t d s r =
    let n = 20 * length s.symbols + 19 in
    (deep_agree (20 * length s.symbols + 20) (suc n)).loading t d s r (omega arith) (omega arith) ∙ (step_readers n).loading t d s r (omega arith) (omega arith)

pub load_unrolls : (t d : ℕ) (s : State) → load_at t d s ≡ (by readers).load t d s
unfolding load_at
load_unrolls t d s =
    let n = 20 * length s.symbols + 19 in
    (deep_agree (20 * length s.symbols + 20) (suc n)).load t d s (omega arith) (omega arith) ∙ (step_readers n).load t d s (omega arith) (omega arith)

pub fetch_unrolls : (t d : ℕ) (s : State) → fetch_at t d s ≡ (by readers).fetch t d s
unfolding fetch_at
fetch_unrolls t d s =
    let n = 20 * length s.symbols + 19 in
    (deep_agree (20 * length s.symbols + 20) (suc n)).fetch t d s (omega arith) (omega arith) ∙ (step_readers n).fetch t d s (omega arith) (omega arith)

pub arguments_unrolls : (t d : ℕ) (w : LoadWord) (s : State) → arguments_at t d w s ≡ (by readers).arguments t d w s
unfolding arguments_at
arguments_unrolls t d w s =
    let n = 20 * length s.symbols + 19 in
    (deep_agree (20 * length s.symbols + 20) (suc n)).arguments t d w s (omega arith) (omega arith) ∙ (step_readers n).arguments t d w s (omega arith) (omega arith)

pub pure_unrolls : (t d : ℕ) (s : State) → pure_at t d s ≡ (by readers).pure t d s
unfolding pure_at
pure_unrolls t d s =
    let n = 20 * length s.symbols + 19 in
    (deep_agree (20 * length s.symbols + 20) (suc n)).pure t d s (omega arith) (omega arith) ∙ (step_readers n).pure t d s (omega arith) (omega arith)

-- ---- a level is what the stronger one is, and what its own operators join to that

level_next : (t d k : ℕ) (s : State) (r : Rest) → level_at t d (k + 1) s r ≡ (level_at t d k s r >>= λ x. more_at t d (k + 1) x.0 x.1 x.2)
level_next t d k s r =
    let some : (k + 1 == 0) ≡ false = grind arith in
    let one_less : k + 1 - 1 ≡ k = omega arith in
    level_unrolls t d (k + 1) s r
    ∙ ap (λ (b : Bool). cond b (prefixed_at t d s r) (level_at t d (k + 1 - 1) s r >>= λ x. more_at t d (k + 1) x.0 x.1 x.2)) some
    ∙ ap (λ (n : ℕ). level_at t d n s r >>= λ x. more_at t d (k + 1) x.0 x.1 x.2) one_less

-- from a level to the next, where operators of that are joined, and where none is next
pub level_joins : (t d k : ℕ) (s : State) (r : Rest) (x y : Found) → level_at t d k s r ≡ Some x → more_at t d (k + 1) x.0 x.1 x.2 ≡ Some y → level_at t d (k + 1) s r ≡ Some y
level_joins t d k s r x y e joined = level_next t d k s r ∙ ap (λ (o : Option Found). o >>= λ z. more_at t d (k + 1) z.0 z.1 z.2) e ∙ joined

pub no_operator : (o : Option BinaryOperator) → is_some o ≡ false → o ≡ None
no_operator None e = refl
no_operator (Some op) e = absurd cc

pub level_stays : (t d k : ℕ) (s : State) (r : Rest) (x : Found) → level_at t d k s r ≡ Some x → of_level (k + 1) (binary_at (first x.1.symbols)) ≡ None → level_at t d (k + 1) s r ≡ Some x
level_stays t d k s r x e none =
    level_joins t d k s r x x e (more_unrolls t d (k + 1) x.0 x.1 x.2 ∙ ap (λ (o : Option BinaryOperator). more_with readers t d (k + 1) x.0 x.1 x.2 o) none)

-- where a level can't be read, none of the weaker can
level_fails_after : (t d j n : ℕ) (s : State) (r : Rest) → level_at t d j s r ≡ None → level_at t d (j + n) s r ≡ None
level_fails_after t d j zero s r e =
    let same : j ≡ j + 0 = omega arith in
    subst (λ (k : ℕ). level_at t d k s r ≡ None) same e
level_fails_after t d j (suc n) s r e =
    let same : j + n + 1 ≡ j + suc n = omega arith in
    let next = level_next t d (j + n) s r ∙ ap (λ (o : Option Found). o >>= λ y. more_at t d (j + n + 1) y.0 y.1 y.2) (level_fails_after t d j n s r e) in
    subst (λ (k : ℕ). level_at t d k s r ≡ None) same next

level_fails : (t d j k : ℕ) (s : State) (r : Rest) → j ≤ k → level_at t d j s r ≡ None → level_at t d k s r ≡ None
level_fails t d j k s r le e =
    let whole : j + (k - j) ≡ k = omega arith in
    subst (λ (n : ℕ). level_at t d n s r ≡ None) whole (level_fails_after t d j (k - j) s r e)

pub prefixed_fails : (t d k : ℕ) (s : State) (r : Rest) → prefixed_at t d s r ≡ None → level_at t d k s r ≡ None
prefixed_fails t d k s r e = level_fails t d 0 k s r (omega arith) (level_unrolls t d 0 s r ∙ e)

pub more_fails : (t d j k : ℕ) (s : State) (r : Rest) (x : Found) → level_at t d j s r ≡ Some x → more_at t d (j + 1) x.0 x.1 x.2 ≡ None → j < k → level_at t d k s r ≡ None
more_fails t d j k s r x e none lt =
    level_fails t d (j + 1) k s r (omega arith) (level_next t d j s r ∙ ap (λ (o : Option Found). o >>= λ z. more_at t d (j + 1) z.0 z.1 z.2) e ∙ none)

-- ---- parts that are read without the readers: which of them an operand and a load are

pub beginning_parenthesis : (x : Symbol) → beginning_of x ≡ parenthesis → x ≡ sign OpenParen
beginning_parenthesis (sign OpenParen) e = refl
beginning_parenthesis (word words.DataRace) e = absurd cc
beginning_parenthesis (word (words.Load l)) e = absurd cc
beginning_parenthesis (word _) e = absurd cc
beginning_parenthesis _ e = absurd cc

pub operand_enclosed : (t d : ℕ) (s : State) (r : Rest) → is_sign OpenParen (first s.symbols) ≡ true
    → operand_at t d s r ≡ operand_with readers t d s r parenthesis
operand_enclosed t d s r e =
    operand_unrolls t d s r ∙ ap (λ (b : Beginning). operand_with readers t d s r b) (ap beginning_of (is_sign_is OpenParen (first s.symbols) e))

operand_loads_by : (t d : ℕ) (s : State) (r : Rest) (b : Beginning) → is_a_load b ≡ true → operand_with readers t d s r b ≡ loading_at t d s r
operand_loads_by t d s r (a_number n) e = absurd cc
operand_loads_by t d s r parenthesis e = absurd cc
operand_loads_by t d s r a_load e = refl
operand_loads_by t d s r a_name e = absurd cc
operand_loads_by t d s r nothing e = absurd cc

pub operand_loads : (t d : ℕ) (s : State) (r : Rest) → is_a_load (beginning_of (first s.symbols)) ≡ true
    → operand_at t d s r ≡ loading_at t d s r
operand_loads t d s r e = operand_unrolls t d s r ∙ operand_loads_by t d s r (beginning_of (first s.symbols)) e

operand_plain_by : (t d : ℕ) (s : State) (r : Rest) (b : Beginning) → beginning_of (first s.symbols) ≡ b → is_sign OpenParen (first s.symbols) ≡ false
    → is_a_load b ≡ false → operand_with readers t d s r b ≡ (plain_with s b >>= λ x. Some (x.0, x.1, r))
operand_plain_by t d s r (a_number n) is no_parenthesis no_load = refl
operand_plain_by t d s r parenthesis is no_parenthesis no_load =
    let enclosed : is_sign OpenParen (first s.symbols) ≡ true = ap (is_sign OpenParen) (beginning_parenthesis (first s.symbols) is) in
    absurd cc
operand_plain_by t d s r a_load is no_parenthesis no_load = absurd cc
operand_plain_by t d s r a_name is no_parenthesis no_load = refl
operand_plain_by t d s r nothing is no_parenthesis no_load = refl

pub operand_plain : (t d : ℕ) (s : State) (r : Rest) → is_sign OpenParen (first s.symbols) ≡ false → is_a_load (beginning_of (first s.symbols)) ≡ false
    → operand_at t d s r ≡ (plain_operand s >>= λ x. Some (x.0, x.1, r))
unfolding plain_operand
operand_plain t d s r no_parenthesis no_load =
    operand_unrolls t d s r ∙ operand_plain_by t d s r (beginning_of (first s.symbols)) refl no_parenthesis no_load

pub ruleset operands = (operand_enclosed, operand_loads, operand_plain)

abbrev pub fetch_by_word : (t d : ℕ) → State → Option LoadWord → Option (tree.Fetch × State)
fetch_by_word t d s (Some w) = fetch_with readers t d s (called w)
fetch_by_word t d s None = starred_read s

fetch_by : (t d : ℕ) (s : State) (l : Loader) → loader_of (first s.symbols) ≡ l → fetch_with readers t d s l ≡ fetch_by_word t d s (called_word l)
unfolding starred_read
fetch_by t d s starred is = ap (starred_with s) (sym is)
fetch_by t d s (called w) is = refl
fetch_by t d s nothing_loads is = ap (starred_with s) (sym is)

pub fetch_begins : (t d : ℕ) (s : State) → fetch_at t d s ≡ fetch_by_word t d s (called_word (loader_of (first s.symbols)))
fetch_begins t d s = fetch_unrolls t d s ∙ fetch_by t d s (loader_of (first s.symbols)) refl

-- a variable and the sign behind it, or one reader behind the other
pub variable_joins : {A : Type 0} (g : Sign) (k : Takes) (s : State) (f : ℕ × State → Option A)
    → (variable_before g k s >>= f) ≡ (take_variable k s >>= λ v. take_sign g v.1.symbols >>= λ l. f (v.0, with_left v.1 l))
unfolding variable_before
variable_joins {A} g k s f = bound (take_variable k s)
  where
    signed : (v : ℕ × State) (o : Option (List Symbol)) → ((o >>= λ l. Some (v.0, with_left v.1 l)) >>= f) ≡ (o >>= λ l. f (v.0, with_left v.1 l))
    signed v None = refl
    signed v (Some l) = refl

    bound : (o : Option (ℕ × State)) → ((o >>= λ v. take_sign g v.1.symbols >>= λ l. Some (v.0, with_left v.1 l)) >>= f)
        ≡ (o >>= λ v. take_sign g v.1.symbols >>= λ l. f (v.0, with_left v.1 l))
    bound None = refl
    bound (Some v) = signed v (take_sign g v.1.symbols)

pub arguments_read : (t d : ℕ) (form : ReadForm) (s : State) → arguments_at t d (loads.Read form) s ≡ read_with form s
arguments_read t d form s = arguments_unrolls t d (loads.Read form) s

pub arguments_exchange : (t d : ℕ) (s : State) → arguments_at t d loads.Exchange s
    ≡ (variable_before Comma Integers s >>= λ v. pure_at t d v.1 >>= λ x. Some (tree.exchange v.0 x.0, x.1))
arguments_exchange t d s =
    arguments_unrolls t d loads.Exchange s ∙ sym (variable_joins Comma Integers s (λ v. pure_at t d v.1 >>= λ x. Some (tree.exchange v.0 x.0, x.1)))

pub arguments_compare : (t d : ℕ) (s : State) → arguments_at t d loads.CompareExchange s
    ≡ (variable_before Comma Integers s >>= λ v. pure_at t d v.1 >>= λ x. take_sign Comma x.1.symbols >>= λ l.
    pure_at t d (with_left x.1 l) >>= λ y. Some (tree.compare_exchange v.0 x.0 y.0, y.1))
arguments_compare t d s =
    arguments_unrolls t d loads.CompareExchange s
    ∙ sym (variable_joins Comma Integers s (λ v. pure_at t d v.1 >>= λ x. take_sign Comma x.1.symbols >>= λ l.
    pure_at t d (with_left x.1 l) >>= λ y. Some (tree.compare_exchange v.0 x.0 y.0, y.1)))

pub ruleset arguments = (arguments_read, arguments_exchange, arguments_compare)

-- a load, where its access is counted with each `data_race (`
pub load_opens : (t d : ℕ) (s : State) → load_at t d s
    ≡ (open_load t s >>= λ o. fetch_at t d o.1 >>= λ x. closed o.0 x.1.symbols >>= λ l. Some (record { data_races = o.0; fetch = x.0 }, with_left x.1 l))
unfolding open_load
load_opens t d s = load_unrolls t d s ∙ bound (count_access t s)
  where
    behind : ℕ × State → Option (tree.Load × State)
    behind o = fetch_at t d o.1 >>= λ x. closed o.0 x.1.symbols >>= λ l. Some (record { data_races = o.0; fetch = x.0 }, with_left x.1 l)

    raced : (c : State) (o : Option (ℕ × List Symbol)) → (o >>= λ races. behind (races.0, with_left c races.1)) ≡ ((o >>= λ races. Some (races.0, with_left c races.1)) >>= behind)
    raced c None = refl
    raced c (Some races) = refl

    bound : (o : Option State) → (o >>= λ c. opened 0 c.symbols >>= λ races. behind (races.0, with_left c races.1))
        ≡ ((o >>= λ c. opened 0 c.symbols >>= λ races. Some (races.0, with_left c races.1)) >>= behind)
    bound None = refl
    bound (Some c) = raced c (opened 0 c.symbols)

pub ruleset unrolls = (level_unrolls, more_unrolls, prefixed_unrolls, operand_unrolls, loading_unrolls, load_unrolls, fetch_unrolls, arguments_unrolls, pure_unrolls)
