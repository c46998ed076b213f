-- What whole readers read is spelled so, and counted.
use Rattle.std.proofs.Common.{◌≡◌, ◌∙◌, ℕ, ◌+◌, ◌*◌, ◌<◌, ◌≤◌, ◌==◌, nat_lt, List, [], ◌∷◌, Bool, true, false, cond, Option, Some, None, length, refl}
use Rattle.std.proofs.Common.{sym, ap, subst, arith}
use Rattle.std.specs.Prelude.{Contains, get_or, slice_get}
use Rattle.litmus_lex.specs.declared.sign.Sign.TheVariants.{Star}
use Rattle.litmus_syntax.specs.Limits.{operators}
use Rattle.litmus_syntax.specs.Tree as tree
use Rattle.litmus_lex.specs.Front.{◌>>=◌, others, take_sign}
use Rattle.litmus_lex.specs.Words.{Symbol, identifier, sign}
use Rattle.litmus_expression.specs.Counters.{AreCounters}
use Rattle.litmus_expression.specs.Expressions as grammar
use Rattle.litmus_expression.specs.ExpressionReader.{all_of_it, deep, expression_at, level_at, load_at, pure_at, take_star}
use Rattle.litmus_expression.specs.Followed.{accesses}
use Rattle.litmus_expression.specs.NameReader.{count_access, register_at}
use Rattle.litmus_expression.specs.Names.{IsChanged, Names}
use Rattle.litmus_expression.specs.PlaceReader.{take_changed}
use Rattle.litmus_expression.specs.Places.{is_counter}
use Rattle.litmus_expression.specs.States.{State, after, with_left}
use Rattle.litmus_expression.proofs.Fewer.{at_last, behind_it, unless_it}
use Rattle.litmus_expression.proofs.Sound.{AsLoad, AsPure, Counted, ReadsLoad, ReadsRegister, deep_sound, register_reads}
use Rattle.litmus_expression.proofs.Taken.{sign_taken}

-- ---- expressions

-- a whole expression is spelled so
abbrev pub AsWhole : ℕ → State → tree.Expression → State → Type 0
AsWhole d s a u = grammar.Expression s.parameters d s.names s.symbols a u.symbols u.names

pub record ReadsWhole (t d : ℕ) (s : State) (x : tree.Expression × State) : Type 0 where
  pub reads : ReadsLoad tree.Expression (AsWhole d) (accesses t x.0) s x

pub expression_reads : (t d : ℕ) (s : State) (x : tree.Expression × State) → d ≤ 16 → length s.names ≤ 32 → expression_at t d s ≡ Some x → ReadsWhole t d s x
unfolding expression_at level_at
expression_reads t d s x deep_enough within e =
    behind_it ((deep (20 * length s.symbols + 20 + 7)).level t d 7 s (all_of_it true)) (λ y. Some (y.0, y.1)) (ReadsWhole t d s) x e (λ y found e.
    let l = (deep_sound (20 * length s.symbols + 20 + 7)).level t d 7 s (all_of_it true) y deep_enough within found in
    let le : operators y.0 ≤ 256 = omega (arith, l.operators_are) in
    at_last (y.0, y.1) (ReadsWhole t d s) x e (record {
      reads = record {
        spelled = record { level = l.spelled; limit = le };
        within = l.within;
        parameters = l.parameters;
        statements = l.statements;
        repeats = l.repeats;
      };
    }))

pub pure_reads : (t d : ℕ) (s : State) (x : tree.Pure × State) → d ≤ 16 → length s.names ≤ 32 → pure_at t d s ≡ Some x → ReadsLoad tree.Pure (AsPure d) 0 s x
unfolding pure_at
pure_reads t d s x deep_enough within e = (deep_sound (20 * length s.symbols + 20)).pure t d s x deep_enough within e

pub load_reads : (t d : ℕ) (s : State) (x : tree.Load × State) → d ≤ 16 → length s.names ≤ 32 → load_at t d s ≡ Some x → ReadsLoad tree.Load (AsLoad d) t s x
unfolding load_at
load_reads t d s x deep_enough within e = (deep_sound (20 * length s.symbols + 20)).load t d s x deep_enough within e

-- ---- registers that are changed

pub record ReadsChanged (counters : List ℕ) (s : State) (x : ℕ × State) : Type 0 where
  pub name : List ℕ
  pub next : s.symbols ≡ identifier name ∷ x.1.symbols
  pub is : IsChanged s.parameters counters s.names name x.0 x.1.names
  pub within : length x.1.names ≤ 32
  pub parameters : x.1.parameters ≡ s.parameters
  pub statements : x.1.statements ≡ s.statements
  pub repeats : x.1.repeats ≡ s.repeats

uncounted : (flags : List Bool) (counters : List ℕ) (register : ℕ) → AreCounters flags counters → is_counter flags register ≡ false
    → ¬ Contains counters register
uncounted flags counters register are is_not there = not_both (is_counter flags register) (are.flagged register there) is_not
  where
    not_both : (b : Bool) → b ≡ true → b ≡ false → ⊥
    not_both b e f = cc

pub changed_reads : (flags : List Bool) (counters : List ℕ) (s : State) (x : ℕ × State) → AreCounters flags counters → length s.names ≤ 32
    → take_changed flags s ≡ Some x
    → ReadsChanged counters s x
unfolding take_changed
changed_reads flags counters s x are within e =
    behind_it (register_at s) (λ r. cond (is_counter flags r.0) None (Some (r.0, after r.1))) (ReadsChanged counters s) x e (λ r is e.
    unless_it (is_counter flags r.0) (Some (r.0, after r.1)) (ReadsChanged counters s) x e (λ no e.
    let y = register_reads s r within is in
    let there : others s.symbols ≡ others r.1.symbols = ap others (sym y.symbols) in
    at_last (r.0, after r.1) (ReadsChanged counters s) x e (record {
      name = y.name;
      next = y.next ∙ ap (λ (l : List Symbol). identifier y.name ∷ l) there;
      is = record { is = y.is; counts_none = uncounted flags counters r.0 are no };
      within = y.within;
      parameters = y.parameters;
      statements = y.statements;
      repeats = y.repeats;
    })))

-- ---- the `*` before a variable

pub record ReadsStar (s u : State) : Type 0 where
  pub next : s.symbols ≡ sign Star ∷ u.symbols
  pub parameters : u.parameters ≡ s.parameters
  pub names : u.names ≡ s.names
  pub statements : u.statements ≡ s.statements
  pub repeats : u.repeats ≡ s.repeats

pub star_reads : (s u : State) → take_star s ≡ Some u → ReadsStar s u
unfolding take_star
star_reads s u e =
    behind_it (take_sign Star s.symbols) (λ l. Some (with_left s l)) (ReadsStar s) u e (λ l is e.
    at_last (with_left s l) (ReadsStar s) u e
    (record { next = sign_taken Star s.symbols l is; parameters = refl; names = refl; statements = refl; repeats = refl }))

-- ---- accesses

pub counted_reads : (t : ℕ) (s c : State) → count_access t s ≡ Some c → Counted t s c
counted_reads t s c e =
    unless_it (nat_lt 1024 (s.repeats + t)) (Some (record s { repeats = s.repeats + t })) (Counted t s) c e (λ no e.
    at_last (record s { repeats = s.repeats + t }) (Counted t s) c e
    (record { symbols = refl; parameters = refl; names = refl; statements = refl; repeats = refl }))
