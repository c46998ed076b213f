-- What whole readers read takes symbols.
use Rattle.std.proofs.Common.{◌≡◌, ◌∙◌, ℕ, ◌+◌, ◌*◌, ◌<◌, ◌≤◌, List, Bool, true, false, cond, Option, Some, None, length, refl, ap, subst}
use Rattle.litmus_lex.specs.declared.sign.Sign.TheVariants.{Star}
use Rattle.litmus_syntax.specs.Tree as tree
use Rattle.litmus_lex.specs.Front.{◌>>=◌, take_sign}
use Rattle.litmus_lex.specs.Words.{Symbol}
use Rattle.litmus_expression.specs.ExpressionReader.{all_of_it, deep, expression_at, level_at, load_at, pure_at, take_star}
use Rattle.litmus_expression.specs.NameReader.{register_at, take_register}
use Rattle.litmus_expression.specs.PlaceReader.{take_changed}
use Rattle.litmus_expression.specs.Places.{is_counter}
use Rattle.litmus_expression.specs.States.{State, after, with_left}
use Rattle.litmus_expression.proofs.Shorter.{Less, deep_shorter, register_fewer}
use Rattle.litmus_expression.proofs.Taken.{bind_some, guarded, same_given, sign_fewer}

-- ---- steps that gave a value

-- what is so behind each value of the first of two readers is so
pub behind_it : {A B : Type 0} (o : Option A) (f : A → Option B) (P : B → Type 0) (y : B)
    → (o >>= f) ≡ Some y → ((x : A) → o ≡ Some x → f x ≡ Some y → P y) → P y
behind_it None f P y e h = absurd cc
behind_it (Some x) f P y e h = h x refl e

pub unless_it : {B : Type 0} (b : Bool) (o : Option B) (P : B → Type 0) (y : B)
    → cond b None o ≡ Some y → (b ≡ false → o ≡ Some y → P y) → P y
unless_it true o P y e h = absurd cc
unless_it false o P y e h = h refl e

pub either_way : {B : Type 0} (b : Bool) (o p : Option B) (P : B → Type 0) (y : B)
    → cond b o p ≡ Some y → (b ≡ true → o ≡ Some y → P y) → (b ≡ false → p ≡ Some y → P y) → P y
either_way true o p P y e f g = f refl e
either_way false o p P y e f g = g refl e

pub at_last : {B : Type 0} (v : B) (P : B → Type 0) (y : B) → Some v ≡ Some y → P v → P y
at_last v P y e p = subst P (same_given v y e) p

-- fewer symbols are left behind a value, or no more
abbrev pub TakesSome : {A : Type 0} → State → A × State → Type 0
TakesSome s x = length x.1.symbols < length s.symbols

abbrev pub TakesAny : {A : Type 0} → State → A × State → Type 0
TakesAny s x = length x.1.symbols ≤ length s.symbols

-- ---- parts of expressions

pub expression_fewer : (t d : ℕ) (s : State) (x : tree.Expression × State) → expression_at t d s ≡ Some x → TakesSome s x
unfolding expression_at level_at
expression_fewer t d s x e =
    behind_it ((deep (20 * length s.symbols + 20 + 7)).level t d 7 s (all_of_it true)) (λ found. Some (found.0, found.1)) (TakesSome s) x e (λ found is e.
    at_last _ (TakesSome s) x e
    ((deep_shorter (20 * length s.symbols + 20 + 7)).level t d 7 s (all_of_it true) found is))

pub pure_fewer : (t d : ℕ) (s : State) (x : tree.Pure × State) → pure_at t d s ≡ Some x → TakesSome s x
unfolding pure_at
pure_fewer t d s x e = (deep_shorter (20 * length s.symbols + 20)).pure t d s x e

pub load_fewer : (t d : ℕ) (s : State) (x : tree.Load × State) → load_at t d s ≡ Some x → TakesSome s x
unfolding load_at
load_fewer t d s x e = (deep_shorter (20 * length s.symbols + 20)).load t d s x e

-- ---- names

pub changed_fewer : (counters : List Bool) (s : State) (x : ℕ × State) → take_changed counters s ≡ Some x → TakesSome s x
unfolding take_changed take_register
changed_fewer counters s x e =
    behind_it (register_at s) (λ r. cond (is_counter counters r.0) None (Some (r.0, after r.1))) (TakesSome s) x e (λ r is e.
    unless_it (is_counter counters r.0) (Some (r.0, after r.1)) (TakesSome s) x e (λ no e.
    register_fewer s x (ap (λ (o : Option (ℕ × State)). o >>= λ y. Some (y.0, after y.1)) is ∙ e)))

pub star_fewer : (s u : State) → take_star s ≡ Some u → Less u s
unfolding take_star
star_fewer s u e =
    behind_it (take_sign Star s.symbols) (λ rest. Some (with_left s rest)) (λ (w : State). Less w s) u e (λ rest is e.
    at_last _ (λ (w : State). Less w s) u e
    (sign_fewer Star s.symbols rest is))
