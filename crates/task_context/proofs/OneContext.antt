-- Each part of a context is determined by the moments, one after the other.
use Rattle.std.proofs.Common.{◌≡◌, ◌-◌, ◌++◌, ◌==◌, ◌↔◌, ℕ, [], ◌∷◌, Bool, true, false, IsTrue}
use Rattle.std.proofs.Common.{refl, sym, subst, inl, inr, append_assoc}
use Rattle.std.proofs.lemmas.Bool.{cases_eq}
use Rattle.std.proofs.lemmas.List.{append-nil}
use Rattle.access_types.specs.History.{History}
use Rattle.access_types.specs.Marked.{is_disable, is_enable, is_nest_close, is_nest_open, marks_of}
use Rattle.access_types.specs.declared.history.Happening.{Happening}
use Rattle.access_types.specs.declared.history.Happening.TheVariants.{Begin, End, Read, Write, Lock}
use Rattle.access_types.specs.declared.history.Happening.TheVariants.{Unlock}
use Rattle.access_types.specs.declared.history.Happening.TheVariants as happenings
use Rattle.access_types.specs.declared.history.Mark.{Mark}
use Rattle.access_types.specs.declared.history.Mark.TheVariants.{Disable, Enable, NestOpen}
use Rattle.access_types.specs.declared.history.Mark.TheVariants.{NestClose, FlatBegin, FlatEnd}
use Rattle.access_types.specs.declared.history.Mark.TheVariants.{Next}
use Rattle.access_types.specs.declared.history.Moment.{Moment}
use Rattle.task_context.specs.Context.{Context}
use Rattle.task_context.specs.History.{LeadsTo}
use Rattle.task_context.proofs.Leads.{disable_follows, enable_follows, flat_begin_follows}
use Rattle.task_context.proofs.Leads.{flat_end_follows, leads-nil, nest_close_follows}
use Rattle.task_context.proofs.Leads.{nest_open_follows, next_follows, quiet_follows}
use Rattle.task_context.proofs.NextMarks.{IsLeft-one, begun}
use Rattle.task_context.proofs.OtherMoments.{begin_no_mark, other_moment}
use Rattle.task_context.proofs.Surpluses.{IsSurplus-one}

-- a history leads somewhere
abbrev Leads : Bool → ℕ → History → Type 0
Leads plain_writes_atomic task xs = (c : Context) × LeadsTo plain_writes_atomic task xs c

own_mark : (plain_writes_atomic : Bool) (task : ℕ) (xs : History) (mark : Mark)
    → Leads plain_writes_atomic task xs
    → Leads plain_writes_atomic task
    (xs ++ (record { task = task; happening = happenings.Mark mark }) ∷ [])
own_mark plain_writes_atomic task xs Disable h = (
  _,
  disable_follows h.0.disable_count h.0.nest_count h.0.in_flat h.0.atomic_next
      plain_writes_atomic task xs h.1,
)
own_mark plain_writes_atomic task xs Enable h = (
  _,
  enable_follows h.0.disable_count h.0.nest_count h.0.in_flat h.0.atomic_next
      plain_writes_atomic task xs h.1,
)
own_mark plain_writes_atomic task xs NestOpen h = (
  _,
  nest_open_follows h.0.disable_count h.0.nest_count h.0.in_flat h.0.atomic_next
      plain_writes_atomic task xs h.1,
)
own_mark plain_writes_atomic task xs NestClose h = (
  _,
  nest_close_follows h.0.disable_count h.0.nest_count h.0.in_flat h.0.atomic_next
      plain_writes_atomic task xs h.1,
)
own_mark plain_writes_atomic task xs FlatBegin h = (
  _,
  flat_begin_follows h.0.disable_count h.0.nest_count h.0.in_flat h.0.atomic_next
      plain_writes_atomic task xs h.1,
)
own_mark plain_writes_atomic task xs FlatEnd h = (
  _,
  flat_end_follows h.0.disable_count h.0.nest_count h.0.in_flat h.0.atomic_next
      plain_writes_atomic task xs h.1,
)
own_mark plain_writes_atomic task xs (Next count) h = (
  _,
  next_follows h.0.disable_count h.0.nest_count h.0.in_flat h.0.atomic_next count
      plain_writes_atomic task xs h.1,
)

one_more : (plain_writes_atomic : Bool) (task owner : ℕ) (xs : History) (happening : Happening)
    → Leads plain_writes_atomic task xs
    → Leads plain_writes_atomic task (xs ++ (record { task = owner; happening = happening }) ∷ [])
one_more plain_writes_atomic task owner xs (happenings.Mark mark) h =
    elim (cases_eq owner task) [
      | inl own ↦
          let P : ℕ → Type 0 = λ o. Leads plain_writes_atomic task
          (xs ++ (record { task = o; happening = happenings.Mark mark }) ∷ []) in
          subst P (sym own) (own_mark plain_writes_atomic task xs mark h)
      | inr other ↦ (
        h.0,
        other_moment plain_writes_atomic task xs h.0
            (record { task = owner; happening = happenings.Mark mark }) other h.1,
      )
    ]
one_more plain_writes_atomic task owner xs (Begin a) h =
    let moment : Moment = record { task = owner; happening = Begin a } in (
      _,
      quiet_follows plain_writes_atomic task xs moment
          h.0.disable_count h.0.nest_count h.0.in_flat h.0.atomic_next
          (h.0.atomic_next - begun plain_writes_atomic task moment)
          (begin_no_mark (owner == task) a) refl h.1,
    )
one_more plain_writes_atomic task owner xs (End a) h = (
  h.0,
  other_moment plain_writes_atomic task xs h.0 (record { task = owner; happening = End a })
      (λ never. never) h.1,
)
one_more plain_writes_atomic task owner xs (Read bytes value) h = (
  h.0,
  other_moment plain_writes_atomic task xs h.0
      (record { task = owner; happening = Read bytes value }) (λ never. never) h.1,
)
one_more plain_writes_atomic task owner xs (Write bytes value) h = (
  h.0,
  other_moment plain_writes_atomic task xs h.0
      (record { task = owner; happening = Write bytes value }) (λ never. never) h.1,
)
one_more plain_writes_atomic task owner xs (Lock lock) h = (
  h.0,
  other_moment plain_writes_atomic task xs h.0
      (record { task = owner; happening = Lock lock }) (λ never. never) h.1,
)
one_more plain_writes_atomic task owner xs (Unlock lock) h = (
  h.0,
  other_moment plain_writes_atomic task xs h.0
      (record { task = owner; happening = Unlock lock }) (λ never. never) h.1,
)

on : (plain_writes_atomic : Bool) (task : ℕ) (xs ys : History) → Leads plain_writes_atomic task xs
    → Leads plain_writes_atomic task (xs ++ ys)
on plain_writes_atomic task xs [] h = rw append-nil h
on plain_writes_atomic task xs (y ∷ ys) h =
    rw (← append_assoc xs (y ∷ []) ys)
    (on plain_writes_atomic task (xs ++ y ∷ []) ys
    (one_more plain_writes_atomic task y.task xs y.happening h))

-- each history leads to some context
pub some_context : (plain_writes_atomic : Bool) (task : ℕ) (xs : History)
    → Leads plain_writes_atomic task xs
some_context plain_writes_atomic task xs =
    on plain_writes_atomic task [] xs (_, leads-nil plain_writes_atomic task)

flag_one : {P : Type 0} (a b : Bool) → (IsTrue a ↔ P) → (IsTrue b ↔ P) → a ≡ b
flag_one true true h k = refl
flag_one false false h k = refl
flag_one true false h k = let is = k.1 (h.0 refl) in cc
flag_one false true h k = let is = h.1 (k.0 refl) in cc

same_context : (disables d nests n : ℕ) (flag f : Bool) (left l : ℕ) → disables ≡ d → nests ≡ n
    → flag ≡ f → left ≡ l
    → let a : Context = record
    { disable_count = disables; nest_count = nests; in_flat = flag; atomic_next = left } in
    a ≡ record { disable_count = d; nest_count = n; in_flat = f; atomic_next = l }
same_context disables d nests n flag f left l first second third fourth =
    rw (first, second, third, fourth) refl

-- and to no other
pub one_context : (plain_writes_atomic : Bool) (task : ℕ) (xs : History) (a b : Context)
    → LeadsTo plain_writes_atomic task xs a → LeadsTo plain_writes_atomic task xs b → a ≡ b
one_context plain_writes_atomic task xs a b h k =
    let disables = IsSurplus-one is_disable is_enable
    (marks_of task xs) a.disable_count b.disable_count h.disabled k.disabled in
    let nests = IsSurplus-one is_nest_open is_nest_close
    (marks_of task xs) a.nest_count b.nest_count h.nested k.nested in
    let flags = flag_one a.in_flat b.in_flat h.flat k.flat in
    let lefts = IsLeft-one plain_writes_atomic task a.atomic_next b.atomic_next xs h.next k.next in
    same_context _ _ _ _ _ _ _ _ disables nests flags lefts
