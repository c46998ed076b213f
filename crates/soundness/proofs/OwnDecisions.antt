-- What is decided of an access by its task's own moments is decided by all moments of a history.
use Rattle.std.proofs.Common.{◌≡◌, ◌<◌, ◌∙◌, ◌++◌, ◌∷◌, [], inl, inr, ℕ, Bool, List, ap, count_by, refl, subst, sym}
use Rattle.std.proofs.lemmas.Bool.Decides.{eqb_tells}
use Rattle.access_types.specs.Access.{Access}
use Rattle.access_types.specs.History.{History, beginning}
use Rattle.access_types.specs.Marked as spec
use Rattle.access_types.specs.Marked.{CountedAsMarked, CountsAfter, EndsRaised, IsWithinNext, Silenced, begins_countable, is_countable_begin, is_disable, is_enable, is_next, marks_of, next_mark}
use Rattle.access_types.specs.declared.history.Mark.{Mark}
use Rattle.access_types.specs.declared.history.Moment.{Moment}
use Rattle.executions.proofs.execution.OwnMarks.{countable_same, counts_own, marks_same, own_both, own_head, own_of}
use Rattle.setup_access.specs.declared.begun.Begun.{Begun}
use Rattle.soundness.specs.InProgress.{IsDecidedIn}

-- where a moment of the task's own stands among all
record Stands (task : ℕ) (history before : History) (moment : Moment) (last : History) : Type 0 where
  earlier : History
  later : History
  split : history ≡ earlier ++ moment ∷ later
  own_before : own_of task earlier ≡ before
  own_last : own_of task later ≡ last

own_stands : (task : ℕ) (history before : History) (moment : Moment) (last : History) → own_of task history ≡ before ++ moment ∷ last
    → Stands task history before moment last
own_stands task [] [] moment last is = absurd (cc)
own_stands task [] (one ∷ before) moment last is = absurd (cc)
own_stands task (first ∷ history) before moment last is = elim (eqb_tells first.task task) [
  | inl mine ↦
      let own : Moment = record { task = task; happening = first.happening } in
      let all : own ∷ own_of task history ≡ before ++ moment ∷ last = sym (own_head task first history mine.1) ∙ is in
      by_front own before (ap (λ (n : ℕ). record { task = n; happening = first.happening }) mine.1) (λ h. own_head task first h mine.1) all
      (λ more rest. own_stands task history more moment last rest)
  | inr others ↦
      let skips : (h : History) → own_of task (first ∷ h) ≡ own_of task h = λ h. rw others.0 refl in
      let it = own_stands task history before moment last (sym (skips history) ∙ is) in
      record {
        earlier = first ∷ it.earlier;
        later = it.later;
        split = ap (λ (h : History). first ∷ h) it.split;
        own_before = skips it.earlier ∙ it.own_before;
        own_last = it.own_last;
      }
]
  where
    by_front : (own : Moment) (front : History) → first ≡ own → ((h : History) → own_of task (first ∷ h) ≡ own ∷ own_of task h)
        → own ∷ own_of task history ≡ front ++ moment ∷ last
        → ((more : History) → own_of task history ≡ more ++ moment ∷ last → Stands task history more moment last)
        → Stands task (first ∷ history) front moment last
    by_front own [] same heads all rest =
        let one : own ≡ moment = cc in
        let tails : own_of task history ≡ last = cc in
        record { earlier = []; later = history; split = ap (λ (m : Moment). m ∷ history) (same ∙ one); own_before = refl; own_last = tails }
    by_front own (one ∷ more) same heads all rest =
        let here : own ≡ one = cc in
        let tails : own_of task history ≡ more ++ moment ∷ last = cc in
        let it = rest more tails in
        record {
          earlier = first ∷ it.earlier;
          later = it.later;
          split = ap (λ (h : History). first ∷ h) it.split;
          own_before = heads it.earlier ∙ (ap (λ (h : History). own ∷ h) it.own_before ∙ ap (λ (m : Moment). m ∷ more) here);
          own_last = it.own_last;
        }

-- what is so of the task's own moments is so of all
within_all : (plain : Bool) (task : ℕ) (history : History) → IsWithinNext plain task (own_of task history) → IsWithinNext plain task history
within_all plain task history h =
    let it = own_stands task history h.earlier (next_mark task h.count) h.later h.split in record {
      count = h.count;
      earlier = it.earlier;
      later = it.later;
      split = it.split;
      last = ap (λ (m : List Mark). count_by is_next m) (sym (marks_same task it.later) ∙ ap (λ (l : History). marks_of task l) it.own_last) ∙ h.last;
      fewer = subst (λ (n : ℕ). n < h.count)
          (ap (λ (l : History). count_by (begins_countable plain task) l) (sym it.own_last) ∙ countable_same plain task it.later) h.fewer;
    }

counts_all : (plain : Bool) (a : Access) (history : History) → CountsAfter plain a (own_of a.task history) → CountsAfter plain a history
counts_all plain a history (spec.declared is) = spec.declared is
counts_all plain a history (spec.atomic_write plain_one is) = spec.atomic_write plain_one is
counts_all plain a history (spec.within_next plain_one apart within) = spec.within_next plain_one apart (within_all plain a.task history within)
counts_all plain a history (spec.in_nest plain_one raised) =
    spec.in_nest plain_one (subst (λ (m : List Mark). EndsRaised spec.is_nest_open spec.is_nest_close m) (marks_same a.task history) raised)
counts_all plain a history (spec.in_flat plain_one opens) =
    spec.in_flat plain_one (subst (λ (m : List Mark). spec.IsFlatOpen m) (marks_same a.task history) opens)

-- an access begins among its task's own moments where it begins among all
begins_own : (a : Access) (history before later : History) → history ≡ before ++ beginning a ∷ later
    → own_of a.task history ≡ own_of a.task before ++ beginning a ∷ own_of a.task later
begins_own a history before later split =
    ap (λ (h : History). own_of a.task h) split
    ∙ (own_both a.task before (beginning a ∷ later)
    ∙ ap (λ (h : History). own_of a.task before ++ h) (own_head a.task (beginning a) later refl))

module _ (plain : Bool) (history : History) (a : Access) where
  abbrev own : History
  own = own_of a.task history

  counted_own : CountedAsMarked plain history a → CountedAsMarked plain own a
  counted_own h = record {
    before = own_of a.task h.before;
    begins = record { later = own_of a.task h.begins.later; split = begins_own a history h.before h.begins.later h.begins.split };
    counts = counts_own plain a h.before h.counts;
  }

  counted_all : CountedAsMarked plain own a → CountedAsMarked plain history a
  counted_all h =
      let it = own_stands a.task history h.before (beginning a) h.begins.later h.begins.split in record {
        before = it.earlier;
        begins = record { later = it.later; split = it.split };
        counts = counts_all plain a it.earlier (subst (λ (b : History). CountsAfter plain a b) (sym it.own_before) h.counts);
      }

  silenced_own : Silenced history a → Silenced own a
  silenced_own h = record {
    before = own_of a.task h.before;
    begins = record { later = own_of a.task h.begins.later; split = begins_own a history h.before h.begins.later h.begins.split };
    disabled = subst (λ (m : List Mark). EndsRaised is_disable is_enable m) (sym (marks_same a.task h.before)) h.disabled;
  }

  silenced_all : Silenced own a → Silenced history a
  silenced_all h =
      let it = own_stands a.task history h.before (beginning a) h.begins.later h.begins.split in record {
        before = it.earlier;
        begins = record { later = it.later; split = it.split };
        disabled = subst (λ (m : List Mark). EndsRaised is_disable is_enable m)
            (ap (λ (b : History). marks_of a.task b) (sym it.own_before) ∙ marks_same a.task it.earlier) h.disabled;
      }

  -- so the history decides of it what those moments decide
  pub decided_all : (begun : Begun) → IsDecidedIn plain own a begun → IsDecidedIn plain history a begun
  decided_all begun h = record {
    marked = (λ yes. counted_all (h.marked.0 yes), λ so. h.marked.1 (counted_own so));
    silenced = (λ yes. silenced_all (h.silenced.0 yes), λ so. h.silenced.1 (silenced_own so));
  }
