-- The rule holds before the first step, and goes on to hold as each task gets a seat of its own.
use Rattle.std.proofs.Common.{◌≡◌, ◌≢◌, ◌⊎◌, inl, inr, ⊎_elim, ℕ, zero, suc, ◌+◌, ◌≤◌, cond, eqb, List, [], ◌∷◌, ◌++◌, All, length, set, refl, sym, ap, ◌∙◌, subst, arith}
use Rattle.std.proofs.lemmas.Bool.{eq-eqb}
use Rattle.std.proofs.lemmas.Bool.Decides.{eqb_tells}
use Rattle.std.proofs.lemmas.List.{length-set}
use Rattle.std.proofs.lemmas.List.Elements.{All-cons, All-head, All-nil, All-tail, All-weaker}
use mathlib.Core.Option.{some, some-injective, some-ne-none}
use lib.ListN.{get_elem?}
use Rattle.atomic_table.proofs.Lists.{at_last, at_set}
use Rattle.shared_table.specs.Given.{Given}
use Rattle.shared_table.specs.RunningWords.{IsHeld, IsHeldByNobody, RunningWords}
use Rattle.shared_table.specs.Views.{alone, holding, unbegun}
use Rattle.shared_table.specs.declared.view.Held.{Held}
use Rattle.shared_table.specs.declared.view.View.{View}
use Rattle.shared_table.proofs.Nobody.{before_change, before_new}

-- what stands in a list with one more at its end
pub at_longer : {X : Type 0} (xs : List X) (a b : X) (j : ℕ) → get_elem? (xs ++ a ∷ []) j ≡ some b
    → (get_elem? xs j ≡ some b) ⊎ ((j ≡ length xs) × (a ≡ b))
at_longer [] a b zero is = inr (refl, some-injective a b is)
at_longer [] a b (suc j) is = absurd (some-ne-none b (sym is))
at_longer (x ∷ xs) a b zero is = inl is
at_longer (x ∷ xs) a b (suc j) is =
    ⊎_elim (λ there. inl there) (λ last. inr (ap suc last.0, last.1)) (at_longer xs a b j is)

-- the task with that number
abbrev pub new_task : ℕ → Held
new_task task = record { task = task; records = [] }

-- a fact of each task from a number on
pub from_each : (P : Held → Type 0) (from count : ℕ) → ((task : ℕ) → from ≤ task → P (new_task task)) → All P (unbegun from count)
from_each P from zero each = All-nil P
from_each P from (suc count) each =
    All-cons P (new_task from) (unbegun (from + 1) count) (each from (omega arith))
    (from_each P (from + 1) count (λ task past. each task (omega arith)))

each_from : (P Q : Held → Type 0) (from count : ℕ)
    → ((held : Held) → from ≤ held.task → P held → Q held) → All P (unbegun from count) → All Q (unbegun from count)
each_from P Q from zero weaker all = All-nil Q
each_from P Q from (suc count) weaker all =
    All-cons Q (new_task from) (unbegun (from + 1) count)
    (weaker (new_task from) (omega arith) (All-head P (new_task from) (unbegun (from + 1) count) all))
    (each_from P Q (from + 1) count (λ held past. weaker held (omega arith))
    (All-tail P (new_task from) (unbegun (from + 1) count) all))

-- the first task of a seat gets one of its own
module _ (given : Given) (id task count : ℕ) (row : List ℕ) (views : List View)
    (now : RunningWords given row views) (at : get_elem? views id ≡ some (holding given task (suc count))) where
  abbrev seat_of : ℕ → ℕ
  seat_of other = cond (eqb other task) (length views) (now.seat_of other)

  abbrev Was : ℕ → View → Held → Type 0
  Was = IsHeld given now.records now.seat_of

  abbrev Is : ℕ → View → Held → Type 0
  Is = IsHeld given now.records seat_of

  abbrev before : View
  before = holding given task (suc count)

  all : All (Was id before) (unbegun task (suc count))
  all = now.held id before at

  its : Was id before (new_task task)
  its = All-head (Was id before) (new_task task) (unbegun (task + 1) count) all

  stays : (seat : ℕ) (was_in is_in : View) → is_in.opening ≡ was_in.opening → (held : Held) → held.task ≢ task
      → Was seat was_in held → Is seat is_in held
  stays seat was_in is_in same held apart was =
      ⊎_elim (λ this. absurd (apart this.1)) (λ other. record { knows = same ∙ was.knows; only = rw other.0 was.only; all = was.all })
      (eqb_tells held.task task)

  abbrev left : View
  left = holding given (task + 1) count

  abbrev right : View
  right = alone given task []

  moved : (seat : ℕ) → seat ≡ length views → All (Is seat right) right.held
  moved seat last =
      All-cons (Is seat right) (new_task task) []
      (record { knows = refl; only = rw (eq-eqb task task refl) (sym last); all = its.all })
      (All-nil (Is seat right))

  rest : All (Is id left) left.held
  rest =
      each_from (Was id before) (Is id left) (task + 1) count
      (λ held past was. stays id before left refl held (λ same. omega arith) was)
      (All-tail (Was id before) (new_task task) (unbegun (task + 1) count) all)

  held_after : (seat : ℕ) (view : View) → get_elem? (set views id left ++ right ∷ []) seat ≡ some view → All (Is seat view) view.held
  held_after seat view is =
      let P : ℕ × View → Type 0 = λ p. All (Is p.0 p.1) p.1.held in
      ⊎_elim
      (λ there.
      ⊎_elim
      (λ here. subst P (λ i. (sym here.0 i, here.1 i)) rest)
      (λ other.
      All-weaker (Was seat view) (Is seat view)
      (λ held was. stays seat view view refl held (λ same. other.0 (sym was.only ∙ ap now.seat_of same ∙ its.only)) was)
      view.held (now.held seat view other.1))
      (at_set views id seat left view there))
      (λ last. let Q : View → Type 0 = λ v. All (Is seat v) v.held in subst Q last.1 (moved seat (last.0 ∙ length-set views id left)))
      (at_longer (set views id left) right view seat is)

  unheld : (other : ℕ) → IsHeldByNobody (set views id left ++ right ∷ []) other → IsHeldByNobody views other
  unheld other nobody =
      let P : Held → Type 0 = λ held. held.task ≢ other in
      let last = nobody (length views) right (at_last (set views id left) right (length views) (length-set views id left)) in
      before_change views id before left other at
      (λ others. All-cons P (new_task task) (unbegun (task + 1) count) (All-head P (new_task task) [] last) others)
      (before_new (set views id left) right other nobody)

  pub split : RunningWords given row (set views id left ++ right ∷ [])
  split = record {
    records = now.records;
    legal = now.legal;
    counts = now.counts;
    stand = now.stand;
    seat_of = seat_of;
    held = held_after;
    nobody = λ other nobody. now.nobody other (unheld other nobody);
    others = now.others;
  }

-- the words of the first row
