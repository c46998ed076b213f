-- Each mark changes one part of the context, and leaves the others as they are.
use Rattle.std.proofs.Common.{◌≡◌, ◌+◌, ◌-◌, ◌++◌, ◌↔◌, ℕ, List, [], ◌∷◌, Bool, true, false, IsTrue}
use Rattle.std.proofs.Common.{refl, ap, arith, count_by}
use Rattle.access_types.specs.History.{History}
use Rattle.access_types.specs.Marked.{IsFlatOpen, is_disable, is_enable, is_flat, is_nest_close}
use Rattle.access_types.specs.Marked.{is_nest_open, is_next, marks_of}
use Rattle.access_types.specs.declared.history.Happening.TheVariants as happenings
use Rattle.access_types.specs.declared.history.Mark.{Mark}
use Rattle.access_types.specs.declared.history.Mark.TheVariants.{Disable, Enable, NestOpen}
use Rattle.access_types.specs.declared.history.Mark.TheVariants.{NestClose, FlatBegin, FlatEnd}
use Rattle.access_types.specs.declared.history.Mark.TheVariants.{Next}
use Rattle.access_types.specs.declared.history.Moment.{Moment}
use Rattle.task_context.specs.History.{IsLeft, LeadsTo, MarkFollows}
use Rattle.task_context.proofs.FlatMarks.{IsFlatOpen-begin, IsFlatOpen-other, flat-end, flat-nil}
use Rattle.task_context.proofs.FlatMarks.{other-IsFlatOpen}
use Rattle.task_context.proofs.Moments.{marks_of-mark, marks_of-one, marks_of-quiet}
use Rattle.task_context.proofs.NextMarks.{IsLeft-next, IsLeft-nil, IsLeft-other, begun}
use Rattle.task_context.proofs.Surpluses.{count_by-last, one-false, IsSurplus-lowered}
use Rattle.task_context.proofs.Surpluses.{IsSurplus-nil, IsSurplus-other, IsSurplus-raised}

-- at first nothing is open and nothing is left
pub leads-nil : (plain_writes_atomic : Bool) (task : ℕ)
    → LeadsTo plain_writes_atomic task []
    (record { disable_count = 0; nest_count = 0; in_flat = false; atomic_next = 0 })
leads-nil plain_writes_atomic task = record {
  disabled = IsSurplus-nil is_disable is_enable;
  nested = IsSurplus-nil is_nest_open is_nest_close;
  flat = (λ never. cc, λ region. absurd (flat-nil region));
  next = IsLeft-nil plain_writes_atomic task;
}

-- what a mark that isn't flat leaves of a flat region
flat_stays : (marks : List Mark) (m : Mark) (flag : Bool) → is_flat m ≡ false
    → (IsTrue flag ↔ IsFlatOpen marks) → IsTrue flag ↔ IsFlatOpen (marks ++ m ∷ [])
flat_stays marks m flag other h = (
  λ is_open. IsFlatOpen-other marks m other (h.0 is_open),
  λ region. h.1 (other-IsFlatOpen marks m other region),
)

none_next : (m : Mark) → is_next m ≡ false → count_by is_next (m ∷ []) ≡ 0
none_next m other =
    let quiet = one-false is_next m other in omega (arith, count_by-last is_next [] m)

-- what a mark that is no next-mark leaves
left_stays : (plain_writes_atomic : Bool) (task left : ℕ) (xs : History) (m : Mark)
    → is_next m ≡ false → IsLeft plain_writes_atomic task xs left
    → IsLeft plain_writes_atomic task
    (xs ++ (record { task = task; happening = happenings.Mark m }) ∷ []) left
left_stays plain_writes_atomic task left xs m other h =
    let quiet : count_by is_next
    (marks_of task ((record { task = task; happening = happenings.Mark m }) ∷ [])) ≡ 0 =
    rw marks_of-one (none_next m other) in
    IsLeft-other plain_writes_atomic task left left xs
    (record { task = task; happening = happenings.Mark m }) quiet (omega arith) h

pub disable_follows : (disables nests : ℕ) (flag : Bool) (left : ℕ)
    → MarkFollows
    (record
    { disable_count = disables; nest_count = nests; in_flat = flag; atomic_next = left }) Disable
    (record
    { disable_count = disables + 1; nest_count = nests; in_flat = flag; atomic_next = left })
disable_follows disables nests flag left plain_writes_atomic task xs h = record {
  disabled =
      rw marks_of-mark
      (IsSurplus-raised is_disable is_enable
      (marks_of task xs) Disable disables refl refl h.disabled);
  nested =
      rw marks_of-mark
      (IsSurplus-other is_nest_open is_nest_close
      (marks_of task xs) Disable nests refl refl h.nested);
  flat = rw marks_of-mark (flat_stays (marks_of task xs) Disable flag refl h.flat);
  next = left_stays plain_writes_atomic task left xs Disable refl h.next;
}

pub enable_follows : (disables nests : ℕ) (flag : Bool) (left : ℕ)
    → MarkFollows
    (record
    { disable_count = disables; nest_count = nests; in_flat = flag; atomic_next = left }) Enable
    (record
    { disable_count = disables - 1; nest_count = nests; in_flat = flag; atomic_next = left })
enable_follows disables nests flag left plain_writes_atomic task xs h = record {
  disabled =
      rw marks_of-mark
      (IsSurplus-lowered is_disable is_enable
      (marks_of task xs) Enable disables refl refl h.disabled);
  nested =
      rw marks_of-mark
      (IsSurplus-other is_nest_open is_nest_close
      (marks_of task xs) Enable nests refl refl h.nested);
  flat = rw marks_of-mark (flat_stays (marks_of task xs) Enable flag refl h.flat);
  next = left_stays plain_writes_atomic task left xs Enable refl h.next;
}

pub nest_open_follows : (disables nests : ℕ) (flag : Bool) (left : ℕ)
    → MarkFollows
    (record
    { disable_count = disables; nest_count = nests; in_flat = flag; atomic_next = left }) NestOpen
    (record
    { disable_count = disables; nest_count = nests + 1; in_flat = flag; atomic_next = left })
nest_open_follows disables nests flag left plain_writes_atomic task xs h = record {
  disabled =
      rw marks_of-mark
      (IsSurplus-other is_disable is_enable
      (marks_of task xs) NestOpen disables refl refl h.disabled);
  nested =
      rw marks_of-mark
      (IsSurplus-raised is_nest_open is_nest_close
      (marks_of task xs) NestOpen nests refl refl h.nested);
  flat = rw marks_of-mark (flat_stays (marks_of task xs) NestOpen flag refl h.flat);
  next = left_stays plain_writes_atomic task left xs NestOpen refl h.next;
}

pub nest_close_follows : (disables nests : ℕ) (flag : Bool) (left : ℕ)
    → MarkFollows
    (record
    { disable_count = disables; nest_count = nests; in_flat = flag; atomic_next = left }) NestClose
    (record
    { disable_count = disables; nest_count = nests - 1; in_flat = flag; atomic_next = left })
nest_close_follows disables nests flag left plain_writes_atomic task xs h = record {
  disabled =
      rw marks_of-mark
      (IsSurplus-other is_disable is_enable
      (marks_of task xs) NestClose disables refl refl h.disabled);
  nested =
      rw marks_of-mark
      (IsSurplus-lowered is_nest_open is_nest_close
      (marks_of task xs) NestClose nests refl refl h.nested);
  flat = rw marks_of-mark (flat_stays (marks_of task xs) NestClose flag refl h.flat);
  next = left_stays plain_writes_atomic task left xs NestClose refl h.next;
}

pub flat_begin_follows : (disables nests : ℕ) (flag : Bool) (left : ℕ)
    → MarkFollows
    (record
    { disable_count = disables; nest_count = nests; in_flat = flag; atomic_next = left }) FlatBegin
    (record { disable_count = disables; nest_count = nests; in_flat = true; atomic_next = left })
flat_begin_follows disables nests flag left plain_writes_atomic task xs h = record {
  disabled =
      rw marks_of-mark
      (IsSurplus-other is_disable is_enable
      (marks_of task xs) FlatBegin disables refl refl h.disabled);
  nested =
      rw marks_of-mark
      (IsSurplus-other is_nest_open is_nest_close
      (marks_of task xs) FlatBegin nests refl refl h.nested);
  flat = rw marks_of-mark ((λ is_open. IsFlatOpen-begin (marks_of task xs), λ region. refl));
  next = left_stays plain_writes_atomic task left xs FlatBegin refl h.next;
}

pub flat_end_follows : (disables nests : ℕ) (flag : Bool) (left : ℕ)
    → MarkFollows
    (record
    { disable_count = disables; nest_count = nests; in_flat = flag; atomic_next = left }) FlatEnd
    (record { disable_count = disables; nest_count = nests; in_flat = false; atomic_next = left })
flat_end_follows disables nests flag left plain_writes_atomic task xs h = record {
  disabled =
      rw marks_of-mark
      (IsSurplus-other is_disable is_enable
      (marks_of task xs) FlatEnd disables refl refl h.disabled);
  nested =
      rw marks_of-mark
      (IsSurplus-other is_nest_open is_nest_close
      (marks_of task xs) FlatEnd nests refl refl h.nested);
  flat = rw marks_of-mark ((λ never. cc, λ region. absurd (flat-end (marks_of task xs) region)));
  next = left_stays plain_writes_atomic task left xs FlatEnd refl h.next;
}

pub next_follows : (disables nests : ℕ) (flag : Bool) (left n : ℕ)
    → MarkFollows
    (record { disable_count = disables; nest_count = nests; in_flat = flag; atomic_next = left })
    (Next n)
    (record { disable_count = disables; nest_count = nests; in_flat = flag; atomic_next = n })
next_follows disables nests flag left n plain_writes_atomic task xs h = record {
  disabled =
      rw marks_of-mark
      (IsSurplus-other is_disable is_enable (marks_of task xs)
      (Next n) disables refl refl h.disabled);
  nested =
      rw marks_of-mark
      (IsSurplus-other is_nest_open is_nest_close (marks_of task xs)
      (Next n) nests refl refl h.nested);
  flat = rw marks_of-mark (flat_stays (marks_of task xs) (Next n) flag refl h.flat);
  next = IsLeft-next plain_writes_atomic task n xs;
}

-- a moment with no mark of the task takes one of what is left where it begins a countable access of
-- the task
pub quiet_follows : (plain_writes_atomic : Bool) (task : ℕ) (xs : History) (moment : Moment)
    (disables nests : ℕ) (flag : Bool) (left after : ℕ)
    → marks_of task (moment ∷ []) ≡ [] → after ≡ left - begun plain_writes_atomic task moment
    → LeadsTo plain_writes_atomic task xs
    (record { disable_count = disables; nest_count = nests; in_flat = flag; atomic_next = left })
    → LeadsTo plain_writes_atomic task (xs ++ moment ∷ [])
    (record { disable_count = disables; nest_count = nests; in_flat = flag; atomic_next = after })
quiet_follows plain_writes_atomic task xs moment disables nests flag left after quiet takes h =
    let same = marks_of-quiet task xs moment quiet in
    record {
      disabled = rw same h.disabled;
      nested = rw same h.nested;
      flat = rw same h.flat;
      next = IsLeft-other plain_writes_atomic task left after xs moment
          (ap (count_by is_next) quiet) takes h.next;
    }
