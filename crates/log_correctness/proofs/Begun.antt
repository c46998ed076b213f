-- Which access begins in what a task did.
use Rattle.std.proofs.Common.{◌≡◌, ◌∙◌, ◌⊎◌, ◌++◌, ◌∷◌, [], inl, inr, ℕ, true, false, List, None, Option, Some, ap, refl, subst, sym}
use Rattle.access_types.specs.Access.{Access}
use Rattle.access_types.specs.declared.history.Happening.{Happening}
use Rattle.access_types.specs.declared.history.Happening.TheVariants as happenings
use Rattle.access_run.specs.memory_operation.Effects.{moments_of, read_moments, write_moments}
use Rattle.access_run.specs.declared.memory_operation.effect.Effect.{Effect}
use Rattle.log_correctness.specs.Noted.{begun_by, begun_in}
use Rattle.soundness.specs.Events.{AreMarks, DoesEvent, IsEvent, IsMark, ReadsAtMost, Writes}
use Rattle.slot_table.specs.declared.step.Answer.{Answer}
use Rattle.slot_table.specs.declared.step.Answer.TheVariants as answers
use Rattle.slot_table.specs.declared.step.Step.{Step}
use Rattle.program_order.specs.Standing.{Setting}
use Rattle.slot_table.specs.declared.step.Step.TheVariants.{CellExchange, CellLoad, Clear, Clock, Consume, Insert, Load, LockStore, LockTry, Name, PairLoad, Remove, Tell, TryConsume}

-- none of these begins an access
abbrev pub NoneBegins : List Happening → Type 0
NoneBegins [] = Unit {0}
NoneBegins (happening ∷ later) = (begun_by happening ≡ None) × NoneBegins later

pub none_begun : (did : List Happening) → NoneBegins did → begun_in did ≡ []
none_begun [] all = refl
none_begun (happening ∷ later) all = rw all.0 (none_begun later all.1)

pub none_both : (first later : List Happening) → NoneBegins first → NoneBegins later → NoneBegins (first ++ later)
none_both [] later one two = two
none_both (happening ∷ first) later one two = (one.0, none_both first later one.1 two)

mark_begins_none : (happening : Happening) → IsMark happening → begun_by happening ≡ None
mark_begins_none (happenings.Mark mark) is = refl
mark_begins_none (happenings.Begin a) is = absurd is
mark_begins_none (happenings.End a) is = absurd is
mark_begins_none (happenings.Read bytes value) is = absurd is
mark_begins_none (happenings.Write bytes value) is = absurd is
mark_begins_none (happenings.Lock lock) is = absurd is
mark_begins_none (happenings.Unlock lock) is = absurd is

marks_begin_none : (did : List Happening) → AreMarks did → NoneBegins did
marks_begin_none [] are = tt
marks_begin_none (happening ∷ later) are = (mark_begins_none happening are.0, marks_begin_none later are.1)

read_begins_none : (a : Access) (value : Option ℕ) → NoneBegins (read_moments a value)
read_begins_none a None = tt
read_begins_none a (Some value) = (refl, tt)

write_begins_none : (a : Access) (value : Option ℕ) → NoneBegins (write_moments a value)
write_begins_none a None = tt
write_begins_none a (Some value) = (refl, tt)

pub reads_begin_none : (a : Access) (effect : Effect) → NoneBegins (read_moments a effect.read)
reads_begin_none a effect = read_begins_none a effect.read

pub writes_begin_none : (a : Access) (effect : Effect) → NoneBegins (write_moments a effect.written)
writes_begin_none a effect = write_begins_none a effect.written

pub moments_begin_none : (a : Access) (effect : Effect) → NoneBegins (moments_of a effect)
moments_begin_none a effect = none_both (read_moments a effect.read) (write_moments a effect.written) (reads_begin_none a effect) (writes_begin_none a effect)

nothing : (did : List Happening) → did ≡ [] → NoneBegins did
nothing did is = subst NoneBegins (sym is) tt

reads_none : (s : Setting) (cell : ℕ) (answer : Answer) (did : List Happening) → ReadsAtMost s cell answer did → NoneBegins did
reads_none s cell answer did (inl is) = nothing did is
reads_none s cell answer did (inr read) = subst NoneBegins (sym read.is) (refl, tt)

writes_none : (s : Setting) (cell old new : ℕ) (did : List Happening) → Writes s cell old new did → NoneBegins did
writes_none s cell old new did h = elim h.is [
  | inl is ↦ subst NoneBegins (sym is) (refl, tt)
  | inr both ↦ subst NoneBegins (sym both) (refl, (refl, tt))
]

-- an event begins no access, or one
abbrev OneAtMost : List Happening → Type 0
OneAtMost event = NoneBegins event ⊎ ((a : Access) × (event ≡ happenings.Begin a ∷ []))

module _ (s : Setting) (before : List Happening) where
  -- no step but that of the clock begins an access
  begins_by_clock : (step : Step) (answer : Answer) (event : List Happening) → (step ≡ Clock → ⊥) → IsEvent s before step answer event → NoneBegins event
  begins_by_clock Clock answer event other h = absurd (other refl)
  begins_by_clock (CellLoad cell) answer event other h = reads_none s cell answer event h
  begins_by_clock (CellExchange cell expected new) (answers.Flag true) event other h = writes_none s cell expected new event h
  begins_by_clock (CellExchange cell expected new) (answers.Flag false) event other h = reads_none s cell (answers.Flag false) event h
  begins_by_clock (CellExchange cell expected new) (answers.Word word) event other h = reads_none s cell (answers.Word word) event h
  begins_by_clock (CellExchange cell expected new) (answers.Halves setter finder) event other h = reads_none s cell (answers.Halves setter finder) event h
  begins_by_clock (CellExchange cell expected new) answers.Done event other h = reads_none s cell answers.Done event h
  begins_by_clock (LockTry lock holder) (answers.Flag true) event other h = subst NoneBegins (sym h.4) (refl, tt)
  begins_by_clock (LockTry lock holder) (answers.Flag false) event other h = nothing event h
  begins_by_clock (LockTry lock holder) (answers.Word word) event other h = nothing event h
  begins_by_clock (LockTry lock holder) (answers.Halves setter finder) event other h = nothing event h
  begins_by_clock (LockTry lock holder) answers.Done event other h = nothing event h
  begins_by_clock (LockStore lock) answer event other h = subst NoneBegins (sym h.3) (refl, tt)
  begins_by_clock (Load index) answer event other h = nothing event h
  begins_by_clock (Insert index word) answer event other h = nothing event h
  begins_by_clock (TryConsume index word) answer event other h = nothing event h
  begins_by_clock (Consume index) answer event other h = nothing event h
  begins_by_clock (Remove index) answer event other h = nothing event h
  begins_by_clock (PairLoad index) answer event other h = nothing event h
  begins_by_clock (Name index ticket) answer event other h = nothing event h
  begins_by_clock (Tell index ticket) answer event other h = nothing event h
  begins_by_clock (Clear index) answer event other h = nothing event h

  clocked : (answer : Answer) (event : List Happening) → IsEvent s before Clock answer event → OneAtMost event
  clocked answer event h = elim h.1 [
    | inl begins ↦ inr (h.0, begins)
    | inr ends ↦ inl (subst NoneBegins (sym ends) (refl, tt))
  ]

  one_at_most : (step : Step) (answer : Answer) (event : List Happening) → IsEvent s before step answer event → OneAtMost event
  one_at_most Clock answer event h = clocked answer event h
  one_at_most (CellLoad cell) answer event h = inl (begins_by_clock (CellLoad cell) answer event (λ is. let no : (CellLoad cell) ≡ Clock = is in cc) h)
  one_at_most (CellExchange cell expected new) answer event h = inl (begins_by_clock (CellExchange cell expected new) answer event (λ is. let no : (CellExchange cell expected new) ≡ Clock = is in cc) h)
  one_at_most (LockTry lock holder) answer event h = inl (begins_by_clock (LockTry lock holder) answer event (λ is. let no : (LockTry lock holder) ≡ Clock = is in cc) h)
  one_at_most (LockStore lock) answer event h = inl (begins_by_clock (LockStore lock) answer event (λ is. let no : (LockStore lock) ≡ Clock = is in cc) h)
  one_at_most (Load index) answer event h = inl (begins_by_clock (Load index) answer event (λ is. let no : (Load index) ≡ Clock = is in cc) h)
  one_at_most (Insert index word) answer event h = inl (begins_by_clock (Insert index word) answer event (λ is. let no : (Insert index word) ≡ Clock = is in cc) h)
  one_at_most (TryConsume index word) answer event h = inl (begins_by_clock (TryConsume index word) answer event (λ is. let no : (TryConsume index word) ≡ Clock = is in cc) h)
  one_at_most (Consume index) answer event h = inl (begins_by_clock (Consume index) answer event (λ is. let no : (Consume index) ≡ Clock = is in cc) h)
  one_at_most (Remove index) answer event h = inl (begins_by_clock (Remove index) answer event (λ is. let no : (Remove index) ≡ Clock = is in cc) h)
  one_at_most (PairLoad index) answer event h = inl (begins_by_clock (PairLoad index) answer event (λ is. let no : (PairLoad index) ≡ Clock = is in cc) h)
  one_at_most (Name index ticket) answer event h = inl (begins_by_clock (Name index ticket) answer event (λ is. let no : (Name index ticket) ≡ Clock = is in cc) h)
  one_at_most (Tell index ticket) answer event h = inl (begins_by_clock (Tell index ticket) answer event (λ is. let no : (Tell index ticket) ≡ Clock = is in cc) h)
  one_at_most (Clear index) answer event h = inl (begins_by_clock (Clear index) answer event (λ is. let no : (Clear index) ≡ Clock = is in cc) h)

-- what is done next is nothing, or no begin comes first
abbrev pub NoBeginFirst : List Happening → Type 0
NoBeginFirst next = (next ≡ []) ⊎ ((first : Happening) × (later : List Happening) × (next ≡ first ∷ later) × (begun_by first ≡ None))

module _ (s : Setting) (before : List Happening) (step : Step) (answer : Answer) (next : List Happening) (does : DoesEvent s before step answer next) where
  rest_none : NoneBegins does.marks
  rest_none = marks_begin_none does.marks does.are_marks

  pub none_by_others : (step ≡ Clock → ⊥) → begun_in next ≡ []
  none_by_others other =
      none_begun next (subst NoneBegins (sym does.all) (none_both does.event does.marks (begins_by_clock s before step answer does.event other does.is_event) rest_none))

  pub none_first : NoBeginFirst next → begun_in next ≡ []
  none_first none = elim (one_at_most s before step answer does.event does.is_event) [
    | inl all ↦ none_begun next (subst NoneBegins (sym does.all) (none_both does.event does.marks all rest_none))
    | inr one ↦
        let is : next ≡ happenings.Begin one.0 ∷ does.marks = does.all ∙ ap (λ (e : List Happening). e ++ does.marks) one.1 in
        elim none [
          | inl empty ↦ absurd (let no : [] ≡ happenings.Begin one.0 ∷ does.marks = sym empty ∙ is in cc)
          | inr other ↦
              let both : other.0 ∷ other.1 ≡ happenings.Begin one.0 ∷ does.marks = sym other.2 ∙ is in
              let same : other.0 ≡ happenings.Begin one.0 = cc in
              absurd (let no : None ≡ Some one.0 = sym other.3 ∙ ap begun_by same in cc)
        ]
  ]

  pub one_first : (a : Access) (more : List Happening) → next ≡ happenings.Begin a ∷ more → begun_in next ≡ a ∷ []
  one_first a more is = elim (one_at_most s before step answer does.event does.is_event) [
    | inl all ↦
        let none : NoneBegins (happenings.Begin a ∷ more) =
        subst NoneBegins is (subst NoneBegins (sym does.all) (none_both does.event does.marks all rest_none)) in
        absurd (let no : Some a ≡ None = none.0 in cc)
    | inr one ↦
        let all : next ≡ happenings.Begin one.0 ∷ does.marks = does.all ∙ ap (λ (e : List Happening). e ++ does.marks) one.1 in
        let both : happenings.Begin one.0 ∷ does.marks ≡ happenings.Begin a ∷ more = sym all ∙ is in
        let begins : happenings.Begin one.0 ≡ happenings.Begin a = cc in
        let same : one.0 ≡ a = cc in
        let none : begun_in does.marks ≡ [] = none_begun does.marks rest_none in
        let first : begun_in next ≡ one.0 ∷ begun_in does.marks = ap begun_in all in
        first ∙ (ap (λ (l : List Access). one.0 ∷ l) none ∙ ap (λ (x : Access). x ∷ []) same)
  ]

  pub begins_first : (a : Access) → begun_in next ≡ a ∷ [] → (more : List Happening) × (next ≡ happenings.Begin a ∷ more)
  begins_first a one = elim (one_at_most s before step answer does.event does.is_event) [
    | inl all ↦
        let none : begun_in next ≡ [] = none_begun next (subst NoneBegins (sym does.all) (none_both does.event does.marks all rest_none)) in
        absurd (let no : [] ≡ a ∷ [] = sym none ∙ one in cc)
    | inr it ↦
        let all : next ≡ happenings.Begin it.0 ∷ does.marks = does.all ∙ ap (λ (e : List Happening). e ++ does.marks) it.1 in
        let both : it.0 ∷ begun_in does.marks ≡ a ∷ [] = sym (ap begun_in all) ∙ one in
        let same : it.0 ≡ a = cc in
        (does.marks, all ∙ ap (λ (x : Access). happenings.Begin x ∷ does.marks) same)
  ]
