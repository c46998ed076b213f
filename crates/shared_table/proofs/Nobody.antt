-- That no seat holds a task, while seats change.
use Rattle.std.proofs.Common.{◌≡◌, ◌≢◌, ⊎_elim, ℕ, zero, suc, List, [], ◌∷◌, ◌++◌, All, set, refl, sym, ap, ◌∙◌, subst}
use Rattle.std.proofs.lemmas.Bool.Decides.{eqb_tells}
use Rattle.std.proofs.lemmas.List.Elements.{All-cons, All-head, All-nil, All-tail}
use mathlib.Core.Option.{some, some-injective, some-ne-none}
use lib.ListN.{get_elem?}
use Rattle.atomic_table.proofs.Lists.{set_else, at_longer as at_before}
use Rattle.shared_table.specs.RunningWords.{IsHeldByNobody}
use Rattle.shared_table.specs.declared.view.Held.{Held}
use Rattle.shared_table.specs.declared.view.View.{View}

-- a fact of two lists in a row is one of each
pub All-left : {X : Type 0} (P : X → Type 0) (xs ys : List X) → All P (xs ++ ys) → All P xs
All-left P [] ys all = All-nil P
All-left P (x ∷ xs) ys all =
    All-cons P x xs (All-head P x (xs ++ ys) all) (All-left P xs ys (All-tail P x (xs ++ ys) all))

pub All-right : {X : Type 0} (P : X → Type 0) (xs ys : List X) → All P (xs ++ ys) → All P ys
All-right P [] ys all = all
All-right P (x ∷ xs) ys all = All-right P xs ys (All-tail P x (xs ++ ys) all)

-- what was written over something stands there
pub set_over : {X : Type 0} (xs : List X) (i : ℕ) (a b : X) → get_elem? xs i ≡ some a
    → get_elem? (set xs i b) i ≡ some b
set_over [] i a b is = absurd (some-ne-none a (sym is))
set_over (x ∷ xs) zero a b is = refl
set_over (x ∷ xs) (suc i) a b is = set_over xs i a b is

-- each of these is another task
abbrev pub Others : ℕ → List Held → Type 0
Others task held = All (λ (one : Held). one.task ≢ task) held

-- one seat has changed, and held the task as little as it does now
pub before_change : (views : List View) (id : ℕ) (was is : View) (task : ℕ) → get_elem? views id ≡ some was
    → (Others task is.held → Others task was.held) → IsHeldByNobody (set views id is) task → IsHeldByNobody views task
before_change views id was is task at back nobody seat view there =
    ⊎_elim
    (λ here.
    let P : View → Type 0 = λ v. Others task v.held in
    subst P (some-injective was view (sym at ∙ ap (λ (i : ℕ). get_elem? views i) (sym here.1) ∙ there))
    (back (nobody id is (set_over views id was is at))))
    (λ else. nobody seat view (set_else views id seat is else.1 ∙ there))
    (eqb_tells seat id)

-- one seat is new
pub before_new : (views : List View) (new : View) (task : ℕ) → IsHeldByNobody (views ++ new ∷ []) task → IsHeldByNobody views task
before_new views new task nobody seat view there = nobody seat view (at_before views (new ∷ []) seat view there)
