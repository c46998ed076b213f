-- What is asked of the moments before an access begins is asked of its own task's alone; and an access begins once.
use Rattle.std.proofs.Common.{◌≡◌, ◌≢◌, ◌==◌, ◌<◌, ◌≤◌, ◌+◌, ◌∙◌, ◌++◌, inl, inr, ℕ, Bool, true, false, List, [], ◌∷◌}
use Rattle.std.proofs.Common.{ap, arith, cond, count_by, length, refl, subst, sym}
use Rattle.std.proofs.lemmas.Bool.{and_right, eq-eqb}
use Rattle.std.proofs.lemmas.List.Sums.{sum_by-cons}
use Rattle.std.proofs.lemmas.Bool.Decides.{eqb_tells, leb_tells}
use Rattle.std.proofs.lemmas.List.{map-append}
use Rattle.access_types.specs.Access.{Access}
use Rattle.access_types.specs.History.{History, happenings_of}
use Rattle.access_types.specs.Marked as spec
use Rattle.access_types.specs.Marked.{CountsAfter, EndsRaised, IsWithinNext, begins_countable, is_countable_begin, is_next, mark_before, marks_of, next_mark}
use Rattle.access_types.specs.declared.history.Happening.{Happening}
use Rattle.access_types.specs.declared.history.Happening.TheVariants as happenings
use Rattle.access_types.specs.declared.history.Mark.{Mark}
use Rattle.access_types.specs.declared.history.Moment.{Moment}
use Rattle.litmus_semantics.specs.Task.{begins_at}
use Rattle.litmus_semantics.proofs.TextSitesLemmas.{begun_append, begun_at, begun_cons}
use Rattle.executions.specs.execution.Observed.{moments_of}
use Rattle.executions.proofs.execution.Histories.{of_both}

-- a task's own moments of a history
abbrev pub own_of : ℕ → History → History
own_of task history = moments_of task (happenings_of task history)

pub own_both : (task : ℕ) (first second : History) → own_of task (first ++ second) ≡ own_of task first ++ own_of task second
own_both task first second =
    ap (λ (d : List Happening). moments_of task d) (of_both task first second)
    ∙ map-append (λ (happening : Happening). record { task = task; happening = happening }) (happenings_of task first) (happenings_of task second)

pub own_head : (task : ℕ) (first : Moment) (later : History) → first.task ≡ task
    → own_of task (first ∷ later) ≡ record { task = task; happening = first.happening } ∷ own_of task later
own_head task first later is = rw (eq-eqb first.task task is) refl

pub marks_same : (task : ℕ) (history : History) → marks_of task (own_of task history) ≡ marks_of task history
marks_same task [] = refl
marks_same task (first ∷ later) = elim (eqb_tells first.task task) [
  | inl mine ↦ rw (mine.0, eq-eqb task task refl) (ap (λ (m : List Mark). mark_before true first.happening m) (marks_same task later))
  | inr others ↦ rw others.0 (marks_same task later)
]

count_cons : {X : Type 0} (p : X → Bool) (x : X) (xs : List X) → count_by p (x ∷ xs) ≡ cond (p x) 1 0 + count_by p xs
count_cons p x xs = sum_by-cons (λ g. cond (p g) 1 0) x xs

pub countable_same : (plain : Bool) (task : ℕ) (history : History)
    → count_by (begins_countable plain task) (own_of task history) ≡ count_by (begins_countable plain task) history
countable_same plain task [] = refl
countable_same plain task (first ∷ later) =
    let own : Moment = record { task = task; happening = first.happening } in
    elim (eqb_tells first.task task) [
      | inl mine ↦
          let same : begins_countable plain task own ≡ begins_countable plain task first = ap (λ (n : ℕ). begins_countable plain task (record { task = n; happening = first.happening })) (sym mine.1) in
          ap (λ (h : History). count_by (begins_countable plain task) h) (own_head task first later mine.1)
          ∙ (count_cons (begins_countable plain task) own (own_of task later)
          ∙ (ap (λ (b : Bool). cond b 1 0 + count_by (begins_countable plain task) (own_of task later)) same
          ∙ (ap (λ (n : ℕ). cond (begins_countable plain task first) 1 0 + n) (countable_same plain task later)
          ∙ sym (count_cons (begins_countable plain task) first later))))
      | inr others ↦
          let none : begins_countable plain task first ≡ false = and_right (is_countable_begin plain task first.happening) (first.task == task) others.0 in
          let skipped : own_of task (first ∷ later) ≡ own_of task later = rw others.0 refl in
          let zero_head : ◌≡◌ {A = ℕ} (cond {A = ℕ} (begins_countable plain task first) 1 0) 0 = ap (λ (b : Bool). cond {A = ℕ} b 1 0) none in
          let all : count_by (begins_countable plain task) (first ∷ later)
          ≡ cond {A = ℕ} (begins_countable plain task first) 1 0 + count_by (begins_countable plain task) later = count_cons (begins_countable plain task) first later in
          let rest : count_by (begins_countable plain task) (own_of task later) ≡ count_by (begins_countable plain task) later = countable_same plain task later in
          let last : count_by (begins_countable plain task) (own_of task later) ≡ count_by (begins_countable plain task) (first ∷ later) = omega (arith, zero_head, all, rest) in
          ap (λ (h : History). count_by (begins_countable plain task) h) skipped ∙ last
    ]

within_own : (plain : Bool) (task : ℕ) (history : History) → IsWithinNext plain task history → IsWithinNext plain task (own_of task history)
within_own plain task history h = record {
  count = h.count;
  earlier = own_of task h.earlier;
  later = own_of task h.later;
  split = ap (λ (l : History). own_of task l) h.split
      ∙ (own_both task h.earlier (next_mark task h.count ∷ h.later)
      ∙ ap (λ (l : History). own_of task h.earlier ++ l) (own_head task (next_mark task h.count) h.later refl));
  last = ap (λ (m : List Mark). count_by is_next m) (marks_same task h.later) ∙ h.last;
  fewer = subst (λ (n : ℕ). n < h.count) (sym (countable_same plain task h.later)) h.fewer;
}

pub counts_own : (plain : Bool) (a : Access) (history : History) → CountsAfter plain a history → CountsAfter plain a (own_of a.task history)
counts_own plain a history (spec.declared is) = spec.declared is
counts_own plain a history (spec.atomic_write plain_one is) = spec.atomic_write plain_one is
counts_own plain a history (spec.within_next plain_one apart within) = spec.within_next plain_one apart (within_own plain a.task history within)
counts_own plain a history (spec.in_nest plain_one raised) =
    spec.in_nest plain_one (subst (λ (m : List Mark). EndsRaised spec.is_nest_open spec.is_nest_close m) (sym (marks_same a.task history)) raised)
counts_own plain a history (spec.in_flat plain_one opens) =
    spec.in_flat plain_one (subst (λ (m : List Mark). spec.IsFlatOpen m) (sym (marks_same a.task history)) opens)

-- two fronts of one list
front_more : (p q r t : List Happening) → p ++ q ≡ r ++ t → length p < length r
    → (x : Happening) × (m : List Happening) × (r ≡ p ++ x ∷ m) × (q ≡ x ∷ (m ++ t))
front_more [] q [] t is shorter = absurd (omega (arith, shorter))
front_more [] q (x ∷ m) t is shorter = (x, m, refl, is)
front_more (one ∷ p) q [] t is shorter = absurd (omega (arith, shorter))
front_more (one ∷ p) q (other ∷ r) t is shorter =
    let first : one ≡ other = cc in
    let rest : p ++ q ≡ r ++ t = cc in
    let it = front_more p q r t rest (omega (arith, shorter)) in
    (it.0, it.1, ap (λ (h : Happening). h ∷ r) (sym first) ∙ ap (λ (l : List Happening). one ∷ l) it.2, it.3)

pub front_same : (p q r t : List Happening) → p ++ q ≡ r ++ t → length p ≡ length r → p ≡ r
front_same [] q [] t is same = refl
front_same [] q (x ∷ r) t is same = absurd (omega (arith, same))
front_same (one ∷ p) q [] t is same = absurd (omega (arith, same))
front_same (one ∷ p) q (other ∷ r) t is same =
    let first : one ≡ other = cc in
    let rest : p ++ q ≡ r ++ t = cc in
    ap (λ (h : Happening). h ∷ p) first ∙ ap (λ (l : List Happening). other ∷ l) (front_same p q r t rest (omega (arith, same)))

begins_there : (site : ℕ) → (x : Happening) (a : Access) → x ≡ happenings.Begin a → a.site ≡ site → begins_at site x ≡ true
begins_there site x a is at = ap (λ (h : Happening). begins_at site h) is ∙ eq-eqb a.site site at

-- of two beginnings of one access the longer one has one more of its site
more_begun : (a : Access) (p r m : List Happening) (x : Happening) → x ≡ happenings.Begin a → r ≡ p ++ x ∷ m → begun_at a.site p < begun_at a.site r
more_begun a p r m x is split =
    let all : begun_at a.site r ≡ begun_at a.site p + begun_at a.site (x ∷ m) =
    ap (λ (d : List Happening). begun_at a.site d) split ∙ begun_append a.site p (x ∷ m) in
    let head : begun_at a.site (x ∷ m) ≡ 1 + begun_at a.site m =
    begun_cons a.site x m ∙ ap (λ (b : Bool). cond b 1 0 + begun_at a.site m) (begins_there a.site x a is refl) in
    omega (arith, all, head)

-- where the repetition of each access tells how many of its site began before it, an access begins once
pub begins_once : (a : Access) (did p q r t : List Happening) → did ≡ p ++ happenings.Begin a ∷ q → did ≡ r ++ happenings.Begin a ∷ t
    → a.rep ≡ begun_at a.site p → a.rep ≡ begun_at a.site r → p ≡ r
begins_once a did p q r t first second before before_too = elim (leb_tells (length r) (length p)) [
  | inr longer ↦
      let shorter : length p < length r = longer.1 in
      let it = front_more p (happenings.Begin a ∷ q) r (happenings.Begin a ∷ t) (sym first ∙ second) shorter in
      let is : it.0 ≡ happenings.Begin a = let both : happenings.Begin a ∷ q ≡ it.0 ∷ (it.1 ++ happenings.Begin a ∷ t) = it.3 in cc in
      let more = more_begun a p r it.1 it.0 is it.2 in absurd (omega (arith, more, before, before_too))
  | inl fits ↦ let most : length r ≤ length p = fits.1 in elim (eqb_tells (length p) (length r)) [
    | inl same ↦ front_same p (happenings.Begin a ∷ q) r (happenings.Begin a ∷ t) (sym first ∙ second) same.1
    | inr differs ↦
        let apart : length p ≢ length r = differs.1 in
        let shorter : length r < length p = omega (arith, most, apart) in
        let it = front_more r (happenings.Begin a ∷ t) p (happenings.Begin a ∷ q) (sym second ∙ first) shorter in
        let is : it.0 ≡ happenings.Begin a = let both : happenings.Begin a ∷ t ≡ it.0 ∷ (it.1 ++ happenings.Begin a ∷ q) = it.3 in cc in
        let more = more_begun a r p it.1 it.0 is it.2 in absurd (omega (arith, more, before, before_too))
  ]
]
