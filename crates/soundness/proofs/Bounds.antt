-- Accesses begin and end by the steps of the clock, one by each, and by no others.
use Rattle.std.proofs.Common.{◌≡◌, ◌∙◌, ◌≤◌, ◌+◌, ◌∷◌, ◌++◌, [], inl, inr, ℕ, suc, Bool, true, false, List, ap, append_assoc, arith, cond, drop, length, refl, subst, sym, take}
use Rattle.std.proofs.lemmas.Bool.{le-leb}
use Rattle.std.proofs.lemmas.List.{append-nil, length-append, length-take-le, take-append-drop, take_at}
use Rattle.std.proofs.lemmas.List.Elements.{filter-append}
use Rattle.std.proofs.lemmas.List.Sums.{sum_by-cons}
use Rattle.access_types.specs.declared.history.Happening.{Happening}
use Rattle.access_types.specs.declared.history.Happening.TheVariants as happenings
use Rattle.litmus_syntax.specs.Tree.{Block}
use Rattle.setup_access.specs.Check.{Fallen}
use Rattle.slot_table.specs.declared.records.Record.{Record}
use Rattle.slot_table.specs.declared.step.Answer.{Answer}
use Rattle.slot_table.specs.declared.step.Answer.TheVariants as answers
use Rattle.slot_table.specs.declared.step.Step.{Step}
use Rattle.slot_table.specs.declared.step.Step.TheVariants.{CellExchange, CellLoad, Clear, Clock, Consume, Insert, Load, LockStore, LockTry, Name, PairLoad, Remove, Tell, TryConsume}
use Rattle.program_order.specs.InProgress.{bounds_of, clock_steps, is_bound, is_clock}
use Rattle.program_order.specs.Standing.{Point, Setting, point_by}
use Rattle.program_order.specs.TaskObserved.{did_by, to_come}
use Rattle.program_order.specs.WrittenOrder.{WrittenOrder, first_point}
use Rattle.executions.proofs.execution.DoneOnlyGrows.{last_of, whole_chain}
use Rattle.executions.proofs.execution.Histories.{did_of_all}
use Rattle.soundness.specs.Events.{AreMarks, IsEvent, IsMark, ReadsAtMost, Writes}
use Rattle.executions.proofs.execution.AccessesBeginOnce.{begin_once}
use Rattle.soundness.proofs.PointsTell as tells
use Rattle.soundness.proofs.PointsTell.{PointsTell, goes_on, stays, stops}
use Rattle.soundness.proofs.TextTells.{whole_tells}

-- none of these begins or ends an access
abbrev pub NoneBound : List Happening → Type 0
NoneBound [] = Unit {0}
NoneBound (happening ∷ did) = (is_bound happening ≡ false) × NoneBound did

none_bound : (did : List Happening) → NoneBound did → bounds_of did ≡ []
none_bound [] none = refl
none_bound (happening ∷ did) none = rw none.0 (none_bound did none.1)

pub none_both : (first later : List Happening) → NoneBound first → NoneBound later → NoneBound (first ++ later)
none_both [] later one two = two
none_both (happening ∷ first) later one two = (one.0, none_both first later one.1 two)

mark_unbound : (happening : Happening) → IsMark happening → is_bound happening ≡ false
mark_unbound (happenings.Mark mark) is = refl
mark_unbound (happenings.Begin a) is = absurd is
mark_unbound (happenings.End a) is = absurd is
mark_unbound (happenings.Read bytes value) is = absurd is
mark_unbound (happenings.Write bytes value) is = absurd is
mark_unbound (happenings.Lock lock) is = absurd is
mark_unbound (happenings.Unlock lock) is = absurd is

pub marks_unbound : (did : List Happening) → AreMarks did → NoneBound did
marks_unbound [] are = tt
marks_unbound (happening ∷ later) are = (mark_unbound happening are.0, marks_unbound later are.1)

-- a step of the clock begins or ends one access, and another step none
pub data BoundsSo (step : Step) (event : List Happening) : Type 0 where
  bound : (happening : Happening) → is_clock step ≡ true → is_bound happening ≡ true → event ≡ happening ∷ [] → BoundsSo step event
  none : is_clock step ≡ false → NoneBound event → BoundsSo step event

nothing : (step : Step) (event : List Happening) → is_clock step ≡ false → event ≡ [] → BoundsSo step event
nothing step event other is = none other (subst NoneBound (sym is) tt)

reads : (s : Setting) (cell : ℕ) (answer : Answer) (step : Step) (event : List Happening) → is_clock step ≡ false → ReadsAtMost s cell answer event
    → BoundsSo step event
reads s cell answer step event other (inl is) = nothing step event other is
reads s cell answer step event other (inr read) = none other (subst NoneBound (sym read.is) (refl, tt))

writes : (s : Setting) (cell old new : ℕ) (step : Step) (event : List Happening) → is_clock step ≡ false → Writes s cell old new event
    → BoundsSo step event
writes s cell old new step event other h = elim h.is [
  | inl is ↦ none other (subst NoneBound (sym is) (refl, tt))
  | inr both ↦ none other (subst NoneBound (sym both) (refl, (refl, tt)))
]

clocked : (s : Setting) (before : List Happening) (answer : Answer) (event : List Happening) → IsEvent s before Clock answer event → BoundsSo Clock event
clocked s before answer event h = elim h.1 [
  | inl begins ↦ bound (happenings.Begin h.0) refl refl begins
  | inr ends ↦ bound (happenings.End h.0) refl refl ends
]

pub event_bounds : (s : Setting) (before : List Happening) (step : Step) (answer : Answer) (event : List Happening) → IsEvent s before step answer event
    → BoundsSo step event
event_bounds s before Clock answer event h = clocked s before answer event h
event_bounds s before (CellLoad cell) answer event h = reads s cell answer (CellLoad cell) event refl h
event_bounds s before (CellExchange cell expected new) (answers.Flag true) event h = writes s cell expected new (CellExchange cell expected new) event refl h
event_bounds s before (CellExchange cell expected new) (answers.Flag false) event h =
    reads s cell (answers.Flag false) (CellExchange cell expected new) event refl h
event_bounds s before (CellExchange cell expected new) (answers.Word word) event h =
    reads s cell (answers.Word word) (CellExchange cell expected new) event refl h
event_bounds s before (CellExchange cell expected new) (answers.Halves setter finder) event h =
    reads s cell (answers.Halves setter finder) (CellExchange cell expected new) event refl h
event_bounds s before (CellExchange cell expected new) answers.Done event h =
    reads s cell answers.Done (CellExchange cell expected new) event refl h
event_bounds s before (LockTry lock holder) (answers.Flag true) event h = none refl (subst NoneBound (sym h.4) (refl, tt))
event_bounds s before (LockTry lock holder) (answers.Flag false) event h = nothing (LockTry lock holder) event refl h
event_bounds s before (LockTry lock holder) (answers.Word word) event h = nothing (LockTry lock holder) event refl h
event_bounds s before (LockTry lock holder) (answers.Halves setter finder) event h = nothing (LockTry lock holder) event refl h
event_bounds s before (LockTry lock holder) answers.Done event h = nothing (LockTry lock holder) event refl h
event_bounds s before (LockStore lock) answer event h = none refl (subst NoneBound (sym h.3) (refl, tt))
event_bounds s before (Load index) answer event h = nothing (Load index) event refl h
event_bounds s before (Insert index word) answer event h = nothing (Insert index word) event refl h
event_bounds s before (TryConsume index word) answer event h = nothing (TryConsume index word) event refl h
event_bounds s before (Consume index) answer event h = nothing (Consume index) event refl h
event_bounds s before (Remove index) answer event h = nothing (Remove index) event refl h
event_bounds s before (PairLoad index) answer event h = nothing (PairLoad index) event refl h
event_bounds s before (Name index ticket) answer event h = nothing (Name index ticket) event refl h
event_bounds s before (Tell index ticket) answer event h = nothing (Tell index ticket) event refl h
event_bounds s before (Clear index) answer event h = nothing (Clear index) event refl h

-- one for a step of the clock, and none for another
abbrev one_of : Step → ℕ
one_of step = cond {A = ℕ} (is_clock step) 1 0

-- an event has as many begins and ends
event_counted : (step : Step) (event : List Happening) → BoundsSo step event → length (bounds_of event) ≡ one_of step
event_counted step event (bound happening clock is same) =
    let one : bounds_of (happening ∷ []) ≡ happening ∷ [] = rw is refl in
    ap (λ (d : List Happening). length (bounds_of d)) same
    ∙ (ap (λ (d : List Happening). length d) one ∙ sym (ap (λ (b : Bool). cond {A = ℕ} b 1 0) clock))
event_counted step event (none other unbound) =
    ap (λ (d : List Happening). length d) (none_bound event unbound) ∙ sym (ap (λ (b : Bool). cond {A = ℕ} b 1 0) other)

bounds_both : (first later : List Happening) → bounds_of (first ++ later) ≡ bounds_of first ++ bounds_of later
bounds_both first later = filter-append is_bound first later

counted_both : (first later : List Happening) → length (bounds_of (first ++ later)) ≡ length (bounds_of first) + length (bounds_of later)
counted_both first later =
    ap (λ (d : List Happening). length d) (bounds_both first later) ∙ length-append (bounds_of first) (bounds_of later)

clock_first : (first : Record) (later : List Record) → clock_steps (first ∷ later) ≡ one_of first.step + clock_steps later
clock_first first later = sum_by-cons (λ (r : Record). one_of r.step) first later

-- what is left of these records after the first of them
tail_is : (first one : Record) (later p q : List Record) → first ∷ later ≡ (one ∷ p) ++ q → (first ≡ one) × (later ≡ p ++ q)
tail_is first one later p q is = (cc, cc)

parts : (all p q : List Record) → all ≡ p ++ q → length all ≡ length p + length q
parts all p q is = ap (λ (r : List Record). length r) is ∙ length-append p q

-- after some of the records as many have begun or ended as there are steps of the clock among these
counted : (s : Setting) (last : Point) (records : List Record) (did : List Happening) (points : List Point) (outs : List Fallen) → last.progress.did ≡ did
    → PointsTell s records did points outs → (p q : List Record) → records ≡ p ++ q
    → length (bounds_of (point_by (length q) last points).progress.did) ≡ length (bounds_of did) + clock_steps p
counted s last records did points outs same (tells.over d) [] q is =
    let it : length (bounds_of last.progress.did) ≡ length (bounds_of d) = ap (λ (x : List Happening). length (bounds_of x)) same in omega (arith, it)
counted s last records did points outs same (tells.over d) (one ∷ p) q is = absurd (cc)
counted s last records did points outs same (tells.marks r d more point others o here says are goes) p q is =
    let long = parts r p q is in
    let rest = counted s point r point.progress.did others o refl goes p q is in
    let added : length (bounds_of point.progress.did) ≡ length (bounds_of d) + length (bounds_of more) =
    ap (λ (x : List Happening). length (bounds_of x)) says ∙ counted_both d more in
    let unbound : length (bounds_of more) ≡ 0 = ap (λ (x : List Happening). length x) (none_bound more (marks_unbound more are)) in
    ap (λ (t : Point). length (bounds_of t.progress.did)) (goes_on (length q) last point others (omega (arith, here, long)))
    ∙ omega (arith, rest, added, unbound)
counted s last records did points outs same (tells.silent first later d others o event made goes) [] q is =
    let long : suc (length later) ≡ length q = ap (λ (r : List Record). length r) is in
    let it : length (bounds_of last.progress.did) ≡ length (bounds_of d) = ap (λ (x : List Happening). length (bounds_of x)) same in
    ap (λ (t : Point). length (bounds_of t.progress.did)) (stays s (length q) last later d others o goes (omega (arith, long))) ∙ omega (arith, it)
counted s last records did points outs same (tells.silent first later d others o event made goes) (one ∷ p) q is =
    let it = tail_is first one later p q is in
    let rest = counted s last later d others o same goes p q it.1 in
    let none_here : length (bounds_of []) ≡ one_of first.step = event_counted first.step [] (event_bounds s d first.step first.answer [] event) in
    let here : one_of first.step ≡ one_of one.step = ap (λ (r : Record). one_of r.step) it.0 in
    rest ∙ omega (arith, none_here, here, clock_first one p)
counted s last records did points outs same (tells.event first later d more point others o here says event none_so goes) [] q is =
    let long : suc (length later) ≡ length q = ap (λ (r : List Record). length r) is in
    let it : length (bounds_of last.progress.did) ≡ length (bounds_of d) = ap (λ (x : List Happening). length (bounds_of x)) same in
    ap (λ (t : Point). length (bounds_of t.progress.did)) (stops (length q) last point others (omega (arith, here, long))) ∙ omega (arith, it)
counted s last records did points outs same (tells.event first later d more point others o here says event none_so goes) (one ∷ p) q is =
    let it = tail_is first one later p q is in
    let long = parts later p q it.1 in
    let rest = counted s point later point.progress.did others o refl goes p q it.1 in
    let added : length (bounds_of point.progress.did) ≡ length (bounds_of d) + length (bounds_of more) =
    ap (λ (x : List Happening). length (bounds_of x)) says ∙ counted_both d more in
    let now : length (bounds_of more) ≡ one_of first.step = event_counted first.step more (event_bounds s d first.step first.answer more event) in
    let first_is : one_of first.step ≡ one_of one.step = ap (λ (r : Record). one_of r.step) it.0 in
    ap (λ (t : Point). length (bounds_of t.progress.did)) (goes_on (length q) last point others (omega (arith, here, long)))
    ∙ omega (arith, rest, added, now, first_is, clock_first one p)
counted s last records did points outs same (tells.fell r d others o fallen so goes) p q is = counted s last r d others o same goes p q is

-- all points are passed where no record is left
passed : (last : Point) (points : List Point) → point_by 0 last points ≡ last_of last points
passed last [] = refl
passed last (point ∷ points) = rw (le-leb 0 point.to_come (omega arith)) (passed point points)

module _ (s : Setting) (registers : ℕ) (body : Block) (records : List Record) (written : WrittenOrder s registers body records) where
  abbrev all : List Record
  all = records ++ written.more

  abbrev first : Point
  first = first_point (to_come written 0) registers

  told : PointsTell s all [] written.whole.end.way written.whole.end.outcomes
  told = whole_tells s registers body all written.whole (begin_once s registers body all written.whole)

  -- a text's begins and ends are as many as its steps of the clock
  pub bounds_of_whole : length (bounds_of written.whole.end.progress.did) ≡ clock_steps (records ++ written.more)
  bounds_of_whole =
      let chain = whole_chain s registers body all written.whole first refl in
      let it = counted s first all [] written.whole.end.way written.whole.end.outcomes refl told all [] (sym (append-nil all)) in
      let last : (point_by 0 first written.whole.end.way).progress.did ≡ written.whole.end.progress.did =
      ap (λ (p : Point). p.progress.did) (passed first written.whole.end.way) ∙ chain.1 in
      let same = ap (λ (d : List Happening). length (bounds_of d)) last in omega (arith, it, same)

  -- what is done by some of the records has the first of them
  pub bounds_by : (made : ℕ) → made ≤ length records
      → bounds_of (did_by written made) ≡ take (clock_steps (take made records)) (bounds_of written.whole.end.progress.did)
  bounds_by made fits =
      let p : List Record = take made records in
      let q : List Record = drop made records ++ written.more in
      let split : all ≡ p ++ q =
      ap (λ (r : List Record). r ++ written.more) (sym (take-append-drop made records)) ∙ append_assoc p (drop made records) written.more in
      let long = parts all p q split in
      let fewer : length p ≡ made = length-take-le made records fits in
      let whole_long : length all ≡ length records + length written.more = length-append records written.more in
      let left : length q ≡ to_come written made = omega (arith, long, fewer, whole_long) in
      let it = counted s first all [] written.whole.end.way written.whole.end.outcomes refl told p q split in
      let by_then : length (bounds_of (did_by written made)) ≡ length (bounds_of (point_by (length q) first written.whole.end.way).progress.did) =
      ap (λ (n : ℕ). length (bounds_of (point_by n first written.whole.end.way).progress.did)) (sym left) in
      let rest = did_of_all written made in
      let bounds : bounds_of written.whole.end.progress.did ≡ bounds_of (did_by written made) ++ bounds_of rest.0 =
      ap (λ (d : List Happening). bounds_of d) rest.1 ∙ bounds_both (did_by written made) rest.0 in
      sym (ap (λ (d : List Happening). take (clock_steps p) d) bounds
      ∙ take_at (bounds_of (did_by written made)) (bounds_of rest.0) (clock_steps p) (omega (arith, it, by_then)))
