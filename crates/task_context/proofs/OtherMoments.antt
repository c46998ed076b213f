-- A moment that doesn't concern a task adds no mark of it and begins no countable access of it.
use Rattle.std.proofs.Common.{◌≡◌, ◌-◌, ◌++◌, ◌==◌, ℕ, List, [], ◌∷◌, Bool, true, false, refl}
use Rattle.std.proofs.Common.{ap, arith}
use Rattle.std.proofs.Math.Bool.{and-false}
use Rattle.std.proofs.lemmas.Bool.{eqb-true, ne_eqb}
use Rattle.access_types.specs.Access.{Access}
use Rattle.access_types.specs.History.{History}
use Rattle.access_types.specs.Marked.{begins_countable, mark_before, marks_of}
use Rattle.access_types.specs.declared.history.Happening.{Happening}
use Rattle.access_types.specs.declared.history.Happening.TheVariants.{Begin, End, Read, Write, Lock}
use Rattle.access_types.specs.declared.history.Happening.TheVariants.{Unlock}
use Rattle.access_types.specs.declared.history.Happening.TheVariants as happenings
use Rattle.access_types.specs.declared.history.Mark.{Mark}
use Rattle.access_types.specs.declared.history.Moment.{Moment}
use Rattle.task_context.specs.Context.{Context}
use Rattle.task_context.specs.History.{Concerns, LeadsTo}
use Rattle.task_context.proofs.Leads.{quiet_follows}
use Rattle.task_context.proofs.NextMarks.{begun}

-- only a mark is a mark
pub begin_no_mark : (own : Bool) (a : Access) → mark_before own (Begin a) [] ≡ []
begin_no_mark true a = refl
begin_no_mark false a = refl

-- the moment adds no mark to those of the task
no_mark : (task owner : ℕ) (happening : Happening) → ¬ Concerns task owner happening
    → marks_of task ((record { task = owner; happening = happening }) ∷ []) ≡ []
no_mark task owner (Begin a) other = begin_no_mark (owner == task) a
no_mark task owner (happenings.Mark mark) other =
    ap (λ own. mark_before own (happenings.Mark mark) (let none : List Mark = [] in none))
    (ne_eqb owner task other)
no_mark task owner (End a) other = nothing (owner == task) where
  nothing : (own : Bool) → mark_before own (End a) [] ≡ []
  nothing true = refl
  nothing false = refl
no_mark task owner (Read bytes value) other = nothing (owner == task) where
  nothing : (own : Bool) → mark_before own (Read bytes value) [] ≡ []
  nothing true = refl
  nothing false = refl
no_mark task owner (Write bytes value) other = nothing (owner == task) where
  nothing : (own : Bool) → mark_before own (Write bytes value) [] ≡ []
  nothing true = refl
  nothing false = refl
no_mark task owner (Lock lock) other = nothing (owner == task) where
  nothing : (own : Bool) → mark_before own (Lock lock) [] ≡ []
  nothing true = refl
  nothing false = refl
no_mark task owner (Unlock lock) other = nothing (owner == task) where
  nothing : (own : Bool) → mark_before own (Unlock lock) [] ≡ []
  nothing true = refl
  nothing false = refl

-- where the moment or the access that it begins is of another task, no countable access of the task
-- begins
begins_none : (plain_writes_atomic : Bool) (task owner : ℕ) (a : Access) (own mine : Bool)
    → (owner == task) ≡ own → (a.task == task) ≡ mine
    → ¬ Concerns task owner (Begin a)
    → begins_countable plain_writes_atomic task (record { task = owner; happening = Begin a })
    ≡ false
begins_none plain_writes_atomic task owner a true true e f other =
    absurd (other (eqb-true owner task e, eqb-true a.task task f))
begins_none plain_writes_atomic task owner a own false e f other = rw f refl
begins_none plain_writes_atomic task owner a false true e f other = rw (e, f, and-false) refl

takes_none : (plain_writes_atomic : Bool) (task owner left : ℕ) (happening : Happening)
    → ¬ Concerns task owner happening
    → left ≡ left - begun plain_writes_atomic task (record { task = owner; happening = happening })
takes_none plain_writes_atomic task owner left (Begin a) other =
    rw (begins_none plain_writes_atomic task owner a _ _ refl refl other) (omega arith)
takes_none plain_writes_atomic task owner left (End a) other = omega arith
takes_none plain_writes_atomic task owner left (Read bytes value) other = omega arith
takes_none plain_writes_atomic task owner left (Write bytes value) other = omega arith
takes_none plain_writes_atomic task owner left (Lock lock) other = omega arith
takes_none plain_writes_atomic task owner left (Unlock lock) other = omega arith
takes_none plain_writes_atomic task owner left (happenings.Mark mark) other = omega arith

-- a moment that doesn't concern the task changes nothing
pub other_moment : (plain_writes_atomic : Bool) (task : ℕ) (xs : History) (c : Context)
    (moment : Moment)
    → ¬ Concerns task moment.task moment.happening → LeadsTo plain_writes_atomic task xs c
    → LeadsTo plain_writes_atomic task (xs ++ moment ∷ []) c
other_moment plain_writes_atomic task xs c moment other h =
    quiet_follows plain_writes_atomic task xs moment
    c.disable_count c.nest_count c.in_flat c.atomic_next c.atomic_next
    (no_mark task moment.task moment.happening other)
    (takes_none plain_writes_atomic task moment.task c.atomic_next moment.happening other) h
