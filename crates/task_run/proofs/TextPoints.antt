-- What a text adds to where a task stands: points at which no more records were to come. Up to its first record no
-- access begins or ends in it.
use Rattle.std.proofs.Common.{◌≡◌, ◌∙◌, ◌<◌, ◌≤◌, ◌+◌, ◌++◌, ◌∷◌, [], inl, inr, ℕ, zero, suc, Bool, true, false, List, None, MatchOption, Option, Some, ap}
use Rattle.std.proofs.Common.{append_assoc, arith, drop, le_refl, length, refl}
use Rattle.std.proofs.Common.{replicate, subst, sym}
use Rattle.std.proofs.lemmas.List.{append-nil, length-append}
use Rattle.access_run.proofs.CheckFronts.{check, close, framed_checks, operates}
use Rattle.access_run.proofs.memory_operation.FrameLemmas.{lock_front}
use Rattle.access_run.specs.declared.memory_operation.effect.Effect.{Effect}
use Rattle.access_run.specs.declared.memory_operation.operation.Operation.{Operation}
use Rattle.access_run.specs.declared.memory_operation.operation.Operation.TheVariants as operations
use Rattle.access_run.specs.memory_operation.Effects.{moments_of, read_moments, write_moments}
use Rattle.access_run.specs.memory_operation.Locks.{TakesLock}
use Rattle.access_types.specs.Access as access
use Rattle.access_types.specs.declared.history.Happening.{Happening}
use Rattle.access_types.specs.declared.history.Happening.TheVariants as happenings
use Rattle.access_types.specs.declared.history.Mark.{Mark}
use Rattle.access_types.specs.declared.history.Mark.TheVariants as marks
use Rattle.litmus_semantics.specs.Calls.{Scoped, scoped_assertion}
use Rattle.litmus_semantics.specs.Expressions.{loading_value}
use Rattle.litmus_semantics.specs.Meaning.{Chooses}
use Rattle.litmus_semantics.specs.Task as meaning
use Rattle.litmus_syntax.specs.Sites.{accesses_of}
use Rattle.litmus_syntax.specs.Tree as tree
use Rattle.litmus_syntax.specs.Tree.{Block, Expression, Statement}
use Rattle.litmus_syntax.specs.Views.{block_of, expression_of, statement_of}
use Rattle.litmus_syntax.specs.declared.statement.Call.TheVariants as calls
use Rattle.program_order.proofs.Induction.{Kept, by_block}
use Rattle.program_order.specs.Access.{Makes, operated}
use Rattle.program_order.specs.Standing.{Point, Setting, Standing, checks_of, coming, counting, doing, lock_number, registered}
use Rattle.program_order.specs.WrittenOrder.{ClosesScope, OpensScope, Steps, StepsOf, StepsOfBlock, StepsOfExpression, StepsOfTurns, StepsInBlock}
use Rattle.program_order.specs.WrittenOrder.{marked_so_often}
use Rattle.setup_access.proofs.DisciplineLemmas.{on_word}
use Rattle.setup_access.specs.Check.{Check, Close, Passes}
use Rattle.setup_access.specs.Records.{MakesDone, MakesWord}
use Rattle.setup_access.specs.declared.begun.Begun.{Begun}
use Rattle.slot_table.specs.declared.records.Record.{Record}
use Rattle.slot_table.specs.declared.step.Step.{Step}
use Rattle.slot_table.specs.declared.step.Step.TheVariants.{Clock}
use Rattle.task_plan.specs.Follow.{Follow, Taker, assigned, condition, goes_on, loaded_by, marks_next, nobody, so_often, to_register}
use Rattle.task_plan.specs.Left.{BlocksLeft, BodyLeft, Closes, DueLeft, EndLeft, NothingLeft, OpenLeft, OutsideLeft, TurnsLeft, WalkLeft}
use Rattle.task_plan.specs.declared.block.AtEnd.{AtEnd}
use Rattle.task_plan.specs.declared.block.AtEnd.TheVariants as ends
use Rattle.task_plan.specs.declared.block.Choice.{Choice}
use Rattle.task_plan.specs.declared.block.Loop.{Loop}
use Rattle.task_plan.specs.declared.block.OpenBlock.{OpenBlock}
use Rattle.task_plan.specs.declared.due.Due.{Due}
use Rattle.task_plan.specs.declared.due.Due.TheVariants as dues
use Rattle.task_plan.specs.declared.walk.Walk.{Walk}
use Rattle.task_run.proofs.AccessesLemmas.{both_none, moments_none, reads_none}
use Rattle.task_run.proofs.ClockLemmas.{close_clocks}
use Rattle.task_run.proofs.ToldLemmas.{of_marks}
use Rattle.task_run.specs.Part.{FollowLeft, TakerLeft}
use Rattle.task_run.specs.Position.{AreOfNoBound}

-- the task did more, and no access began or ended
abbrev pub GoesQuietly : List Happening → List Happening → Type 0
GoesQuietly did all = (does : List Happening) × (all ≡ did ++ does) × AreOfNoBound does

pub quiet_same : (did : List Happening) → GoesQuietly did did
quiet_same did = ([], sym (append-nil did), tt)

quiet_both : (did between all : List Happening) → GoesQuietly did between → GoesQuietly between all → GoesQuietly did all
quiet_both did between all p q = (
  p.0 ++ q.0,
  q.1 ∙ (ap (λ (d : List Happening). d ++ q.0) p.1 ∙ append_assoc did p.0 q.0),
  both_none p.0 q.0 p.2 q.2,
)

-- at each of these points so many records were to come at most; and where so many were, no access had begun or ended
abbrev pub AllAdd : ℕ → List Happening → List Point → Type 0
AllAdd n did [] = Unit {0}
AllAdd n did (point ∷ points) = ((point.to_come ≤ n) × (n ≤ point.to_come → GoesQuietly did point.progress.did)) × AllAdd n did points

-- so it is of what was done at each of these points
abbrev pub EachDid : (List Happening → Type 0) → List Point → Type 0
EachDid P [] = Unit {0}
EachDid P (point ∷ points) = P point.progress.did × EachDid P points

-- at each of these points fewer were to come
abbrev pub AllBelow : ℕ → List Point → Type 0
AllBelow n [] = Unit {0}
AllBelow n (point ∷ points) = (point.to_come < n) × AllBelow n points

add_both : (n : ℕ) (did : List Happening) (first later : List Point) → AllAdd n did first → AllAdd n did later → AllAdd n did (first ++ later)
add_both n did [] later one two = two
add_both n did (point ∷ first) later one two = (one.0, add_both n did first later one.1 two)

add_later : (n m : ℕ) (did between : List Happening) (points : List Point) → m ≤ n → (n ≤ m → GoesQuietly did between) → AllAdd m between points
    → AllAdd n did points
add_later n m did between [] fewer quiet all = tt
add_later n m did between (point ∷ points) fewer quiet all =
    let low : point.to_come ≤ m = all.0.0 in (
      (
        omega (arith, low, fewer),
        λ more. quiet_both did between point.progress.did (quiet (omega (arith, low, more))) (all.0.1 (omega (arith, fewer, more))),
      ),
      add_later n m did between points fewer quiet all.1,
    )

add_below : (n : ℕ) (did : List Happening) (points : List Point) → AllBelow n points → AllAdd n did points
add_below n did [] all = tt
add_below n did (point ∷ points) all =
    let low : point.to_come < n = all.0 in ((omega (arith, low), λ more. absurd (omega (arith, low, more))), add_below n did points all.1)

pub below_both : (n : ℕ) (first later : List Point) → AllBelow n first → AllBelow n later → AllBelow n (first ++ later)
below_both n [] later one two = two
below_both n (point ∷ first) later one two = (one.0, below_both n first later one.1 two)

pub below_more : (n m : ℕ) (points : List Point) → n ≤ m → AllBelow n points → AllBelow m points
below_more n m [] more all = tt
below_more n m (point ∷ points) more all = (let low : point.to_come < n = all.0 in omega (arith, low, more), below_more n m points more all.1)

pub add_is_below : (n m : ℕ) (did : List Happening) (points : List Point) → n < m → AllAdd n did points → AllBelow m points
add_is_below n m did [] more all = tt
add_is_below n m did (point ∷ points) more all = (let low : point.to_come ≤ n = all.0.0 in omega (arith, low, more), add_is_below n m did points more all.1)

-- what is added by a part of a text from these records on, up to those that are left
pub record Adds (before : Standing) (records : List Record) (after : Standing) (rest : List Record) : Type 0 where
  pub points : List Point
  pub adds : after.way ≡ before.way ++ points
  pub each : AllAdd (length records) before.progress.did points
  pub fewer : length rest ≤ length records
  pub quiet : length records ≤ length rest → GoesQuietly before.progress.did after.progress.did

-- so does a part with a record
pub record AddsLater (before : Standing) (records : List Record) (after : Standing) (rest : List Record) : Type 0 where
  pub points : List Point
  pub adds : after.way ≡ before.way ++ points
  pub below : AllBelow (length records) points
  pub less : length rest < length records

pub later_adds : {before : Standing} {records : List Record} {after : Standing} {rest : List Record} → AddsLater before records after rest
    → Adds before records after rest
later_adds {before = before} {records = records} h =
    let less = h.less in record {
      points = h.points;
      adds = h.adds;
      each = add_below (length records) before.progress.did h.points h.below;
      fewer = omega (arith, less);
      quiet = λ more. absurd (omega (arith, less, more));
    }

stays : (before : Standing) (records : List Record) → Adds before records before records
stays before records = record {
  points = [];
  adds = sym (append-nil before.way);
  each = tt;
  fewer = le_refl (length records);
  quiet = λ more. quiet_same before.progress.did;
}

adds_both : (before between after : Standing) (records later rest : List Record) → Adds before records between later → Adds between later after rest
    → Adds before records after rest
adds_both before between after records later rest p q =
    let few = p.fewer in let fewer = q.fewer in record {
      points = p.points ++ q.points;
      adds = q.adds ∙ (ap (λ (l : List Point). l ++ q.points) p.adds ∙ append_assoc before.way p.points q.points);
      each = add_both (length records) before.progress.did p.points q.points p.each
          (add_later (length records) (length later) before.progress.did between.progress.did q.points few p.quiet q.each);
      fewer = omega (arith, few, fewer);
      quiet = λ more. quiet_both before.progress.did between.progress.did after.progress.did
          (p.quiet (omega (arith, fewer, more))) (q.quiet (omega (arith, few, more)));
    }

-- one point before the next record
comes : (before counted : Standing) (records : List Record) (progress : meaning.Progress) → counted.way ≡ before.way
    → GoesQuietly before.progress.did progress.did → Adds before records (coming counted records progress) records
comes before counted records progress way quiet = record {
  points = record { to_come = length records; progress = progress; unbalanced = counted.unbalanced } ∷ [];
  adds = ap (λ (l : List Point). l ++ record { to_come = length records; progress = progress; unbalanced = counted.unbalanced } ∷ []) way;
  each = ((le_refl (length records), λ more. quiet), tt);
  fewer = le_refl (length records);
  quiet = λ more. quiet;
}

-- one point at the end of a part with a record
ends_later : (before : Standing) (records rest : List Record) (progress : meaning.Progress) → length rest < length records
    → AddsLater before records (coming before rest progress) rest
ends_later before records rest progress less = record {
  points = record { to_come = length rest; progress = progress; unbalanced = before.unbalanced } ∷ [];
  adds = refl;
  below = (less, tt);
  less = less;
}

counted_way : (ends_nothing : Bool) (before : Standing) → (counting ends_nothing before).way ≡ before.way
counted_way true before = refl
counted_way false before = refl

counted_did : (ends_nothing : Bool) (before : Standing) → (counting ends_nothing before).progress.did ≡ before.progress.did
counted_did true before = refl
counted_did false before = refl

pub drop_less : (first : Record) (later : List Record) → length (drop 1 (first ∷ later)) < length (first ∷ later)
drop_less first later = omega arith

-- a part that isn't empty leaves fewer records
shorter_by : (records part rest : List Record) → records ≡ part ++ rest → ¬ (part ≡ []) → length rest < length records
shorter_by records [] rest is some = absurd (some refl)
shorter_by records (first ∷ part) rest is some =
    let all : length records ≡ length (first ∷ part) + length rest = ap (λ (l : List Record). length l) is ∙ length-append (first ∷ part) rest in
    omega (arith, all)

no_more : (records part rest : List Record) → records ≡ part ++ rest → length rest ≤ length records
no_more records part rest is =
    let all : length records ≡ length part + length rest = ap (λ (l : List Record). length l) is ∙ length-append part rest in omega (arith, all)

dropped : (records rest : List Record) → length rest < length records → length (drop 1 records) < length records
dropped [] rest less = absurd (omega (arith, less))
dropped (first ∷ later) rest less = omega arith

end_less : (task : ℕ) (records rest : List Record) → MakesWord task Clock (λ stamp later. rest ≡ later) records → length rest < length records
end_less task [] rest h = absurd h
end_less task (first ∷ later) rest h =
    let over : rest ≡ later = (on_word first.answer (λ stamp. rest ≡ later) h.2).2 in
    let size : length rest ≡ length later = ap (λ (l : List Record). length l) over in
    omega (arith, size)

store_less : (task : ℕ) (step : Step) (records rest : List Record) → MakesDone task step (λ later. rest ≡ later) records → length rest < length records
store_less task step [] rest h = absurd h
store_less task step (first ∷ later) rest h =
    let size : length rest ≡ length later = ap (λ (l : List Record). length l) h.2.1 in omega (arith, size)

-- the points of an operation of an access that has begun
pub record Operated (before : Standing) (records : List Record) (after : Standing) : Type 0 where
  pub points : List Point
  pub adds : after.way ≡ before.way ++ points
  pub below : AllBelow (length records + 1) points
  pub each : EachDid (GoesQuietly before.progress.did) points
  pub did : GoesQuietly before.progress.did after.progress.did

dropped_most : (records : List Record) → length (drop 1 records) < length records + 1
dropped_most [] = omega arith
dropped_most (first ∷ later) = omega arith

pub operated_points : (a : access.Access) (operation : Option Operation) (before : Standing) (records : List Record) (effect : Effect) (rest : List Record)
    → length rest ≤ length records → Operated before records (operated a operation before records effect rest)
operated_points a None before records effect rest few = record {
  points = [];
  adds = sym (append-nil before.way);
  below = tt;
  each = tt;
  did = quiet_same before.progress.did;
}
operated_points a (Some operations.Load) before records effect rest few =
    let quiet : GoesQuietly before.progress.did (before.progress.did ++ moments_of a effect) = (moments_of a effect, refl, moments_none a effect) in record {
      points = _;
      adds = refl;
      below = (omega (arith, few), tt);
      each = (quiet, tt);
      did = quiet;
    }
operated_points a (Some (operations.Add amount)) before records effect rest few =
    let did : List Happening = before.progress.did in
    let reads : List Happening = read_moments a effect.read in
    let writes : List Happening = write_moments a effect.written in
    let quiet : GoesQuietly did ((did ++ reads) ++ writes) = (reads ++ writes, append_assoc did reads writes, moments_none a effect) in record {
      points = _;
      adds = append_assoc before.way _ _;
      below = (dropped_most records, (omega (arith, few), tt));
      each = ((reads, refl, reads_none a effect), (quiet, tt));
      did = quiet;
    }
operated_points a (Some (operations.Change change)) before records effect rest few =
    let quiet : GoesQuietly before.progress.did (before.progress.did ++ moments_of a effect) = (moments_of a effect, refl, moments_none a effect) in record {
      points = _;
      adds = refl;
      below = (omega (arith, few), tt);
      each = (quiet, tt);
      did = quiet;
    }

module _ (s : Setting) where
  check_less : (scopes : List Begun) (begun : Begun) (asked : ℕ) (records : List Record) (passes : Passes) (rest : List Record)
      → Check (checks_of s) scopes begun asked records passes rest → length rest < length records
  check_less scopes begun asked records passes rest h =
      let own = (framed_checks (Check (checks_of s) scopes begun asked) (check (checks_of s) scopes begun asked) records passes rest).0 h in
      shorter_by records own.0 rest own.3
      (λ none. (subst (λ (r : List Record). Check (checks_of s) scopes begun asked r own.1 []) none own.2).2)

  close_less : (scope : Begun) (silenced : Bool) (asked : ℕ) (records : List Record) (passes : Passes) (rest : List Record)
      → Close (checks_of s) scope silenced asked records passes rest → length rest < length records
  close_less scope silenced asked records passes rest h =
      let own = (framed_checks (Close (checks_of s) scope silenced asked) (close (checks_of s) scope silenced asked) records passes rest).0 h in
      shorter_by records own.0 rest own.3
      (λ none. let one : 0 ≡ 0 + 1 =
      close_clocks (checks_of s) scope silenced asked [] own.1 []
      (subst (λ (r : List Record). Close (checks_of s) scope silenced asked r own.1 []) none own.2) in
      absurd (omega (arith, one)))

  lock_less : (lock : ℕ) (records rest : List Record) → TakesLock s.text.task lock records rest → length rest < length records
  lock_less lock records rest h =
      let own = lock_front s.text.task lock records rest h in
      shorter_by records own.0 rest own.1 (λ none. subst (λ (r : List Record). TakesLock s.text.task lock (r ++ []) []) none (own.2 []))

  -- the points of an access
  pub record MakesPoints (a : access.Access) (operation : Option Operation) (effect : Effect) (before : Standing) (records : List Record)
      (after : Standing) (rest : List Record) (h : Makes s before a operation records effect after rest) : Type 0 where
    pub own :
        let began : Standing = doing before (drop 1 records) (happenings.Begin a ∷ []) in
        Operated began h.checked (operated a operation began h.checked effect h.done)
    pub checked : length h.checked < length records
    pub first : length (drop 1 records) < length records
    pub less : length rest < length records

  pub makes_points : (a : access.Access) (operation : Option Operation) (effect : Effect) (before : Standing) (records : List Record) (after : Standing)
      (rest : List Record) (h : Makes s before a operation records effect after rest) → MakesPoints a operation effect before records after rest h
  makes_points a operation effect before records after rest h =
      let one = check_less before.scopes h.begun before.asked records h.passes h.checked h.check in
      let front = operates (checks_of s) a operation effect h.checked h.done h.operates in
      let two = no_more h.checked front.0 h.done front.1 in
      let last = end_less s.text.task h.done rest h.ends in record {
        own = operated_points a operation _ h.checked effect h.done two;
        checked = one;
        first = dropped records h.checked one;
        less = omega (arith, one, two, last);
      }

  makes_later : (a : access.Access) (operation : Option Operation) (effect : Effect) (before : Standing) (records : List Record) (after : Standing)
      (rest : List Record) → Makes s before a operation records effect after rest → AddsLater before records after rest
  makes_later a operation effect before records after rest h =
      let began : Standing = doing before (drop 1 records) (happenings.Begin a ∷ []) in
      let made : Standing = operated a operation began h.checked effect h.done in
      let its = makes_points a operation effect before records after rest h in
      let own = its.own in
      let one = its.checked in
      let first : Point = record { to_come = length (drop 1 records); progress = began.progress; unbalanced = before.unbalanced } in
      let end : Point = record { to_come = length rest; progress = meaning.doing made.progress (happenings.End a ∷ []); unbalanced = made.unbalanced } in
      record {
        points = (first ∷ own.points) ++ end ∷ [];
        adds = ap (λ (st : Standing). st.way) h.comes_to
            ∙ (ap (λ (w : List Point). w ++ end ∷ []) (own.adds ∙ append_assoc before.way (first ∷ []) own.points)
            ∙ append_assoc before.way (first ∷ own.points) (end ∷ []));
        below = below_both (length records) (first ∷ own.points) (end ∷ [])
            (its.first, below_more (length h.checked + 1) (length records) own.points (omega (arith, one)) own.below) (its.less, tt);
        less = its.less;
      }

  opens_later : (a : access.Access) (begun : Begun) (before : Standing) (records : List Record) (opened : Standing) (inside : List Record)
      → OpensScope s before a records begun opened inside → AddsLater before records opened inside
  opens_later a begun before records opened inside h =
      let less = check_less before.scopes begun before.asked records h.passes inside h.check in record {
        points = _ ∷ [];
        adds = ap (λ (st : Standing). st.way) h.comes_to;
        below = (dropped records inside less, tt);
        less = less;
      }

  pub opens_first : (a : access.Access) (begun : Begun) (before : Standing) (records : List Record) (opened : Standing) (inside : List Record)
      → OpensScope s before a records begun opened inside → length (drop 1 records) < length records
  opens_first a begun before records opened inside h =
      dropped records inside (check_less before.scopes begun before.asked records h.passes inside h.check)

  pub closes_later : (begun : Begun) (scopes : List Begun) (before : Standing) (records : List Record) (after : Standing) (rest : List Record)
      → ClosesScope s before begun scopes records after rest → AddsLater before records after rest
  closes_later begun scopes before records after rest h =
      let less = close_less begun h.silenced before.asked records h.passes rest h.close in record {
        points = _ ∷ [];
        adds = ap (λ (st : Standing). st.way) h.comes_to;
        below = (less, tt);
        less = less;
      }

  kept_adds : Kept s Adds
  kept_adds = record {
    still = stays;
    joins = adds_both;
    marked = λ ends_nothing count m before records.
        comes before (counting ends_nothing before) records (meaning.doing (counting ends_nothing before).progress (replicate count (happenings.Mark m)))
        (counted_way ends_nothing before) (
          replicate count (happenings.Mark m),
          ap (λ (d : List Happening). d ++ replicate count (happenings.Mark m)) (counted_did ends_nothing before),
          of_marks count m,
        );
    lost = λ before records. comes before (counting true before) records before.progress refl (quiet_same before.progress.did);
    assigned = λ before records register value.
        comes before before records (meaning.assigning before.progress register value) refl (quiet_same before.progress.did);
    makes = λ a operation effect before records after rest h. later_adds (makes_later a operation effect before records after rest h);
    locks = λ lock before records rest is takes.
        later_adds (ends_later before records rest (meaning.doing before.progress (happenings.Lock lock ∷ []))
        (lock_less (lock_number s lock) records rest takes));
    unlocks = λ lock before records rest has frees.
        later_adds (ends_later before records rest (meaning.doing before.progress (happenings.Unlock lock ∷ [])) (store_less s.text.task _ records rest frees));
    scoped = λ a assertion begun before opened closing after records inside later rest opens inner closes.
        adds_both before opened after records inside rest (later_adds (opens_later a begun before records opened inside opens))
        (adds_both opened closing after inside later rest inner (later_adds (closes_later begun before.scopes closing later after rest closes)));
  }

  -- so does each part of what is left of a text
  abbrev EachAdds : Steps → Type 0
  EachAdds P = (before : Standing) (records : List Record) (after : Standing) (rest : List Record)
      → P before records after rest → Adds before records after rest

  block_adds : (site : ℕ) (body : Block) → EachAdds (StepsOfBlock s site body)
  block_adds site body before records after rest h = by_block s Adds kept_adds site body before records after rest h

  nothing_left : EachAdds NothingLeft
  nothing_left before records after rest h =
      subst (λ (st : Standing). Adds before records st rest) (sym h.0)
      (subst (λ (r : List Record). Adds before records before r) (sym h.1) (stays before records))

  register_adds : (register value : ℕ) (before : Standing) (records : List Record) → Adds before records (registered before records register value) records
  register_adds register value before records = kept_adds.assigned before records register value

  turns_adds : (Body : Steps) → EachAdds Body → (register turn left : ℕ) → EachAdds (StepsOfTurns Body register turn left)
  turns_adds Body each register turn zero before records after rest h =
      subst (λ (st : Standing). Adds before records st rest) (sym h.0)
      (subst (λ (r : List Record). Adds before records (registered before records register turn) r) (sym h.1) (register_adds register turn before records))
  turns_adds Body each register turn (suc left) before records after rest h =
      let start : Standing = registered before records register turn in
      adds_both before start after records records rest (register_adds register turn before records)
      (adds_both start h.0 after records h.1 rest (each start records h.0 h.1 h.2) (turns_adds Body each register (suc turn) left h.0 h.1 after rest h.3))

  turns_left : (of : Loop) (number : ℕ) (Next : Steps) → EachAdds Next → EachAdds (TurnsLeft s of number Next)
  turns_left of number Next next before records after rest h =
      adds_both before h.0 after records h.1 rest
      (turns_adds (StepsOfBlock s of.site (block_of of.body.now)) (block_adds of.site (block_of of.body.now)) of.register number _ before records h.0 h.1 h.2)
      (next h.0 h.1 after rest h.3)

  end_left : (at_end : AtEnd) (Next : Steps) → EachAdds Next → EachAdds (EndLeft s at_end Next)
  end_left ends.Leaves Next next before records after rest h = next before records after rest h
  end_left (ends.Repeats turn) Next next before records after rest h = turns_left turn.of _ Next next before records after rest h

  closes_left : (scopes : ℕ) (Next : Steps) → EachAdds Next → EachAdds (Closes s scopes Next)
  closes_left zero Next next before records after rest h = next before records after rest h
  closes_left (suc more) Next next before records after rest h =
      adds_both before h.0 after records h.1 rest (later_adds (closes_later h.2.1 h.2.0 before records h.0 h.1 h.2.3))
      (closes_left more Next next h.0 h.1 after rest h.3)

  open_left : (block : OpenBlock) (Next : Steps) → EachAdds Next → EachAdds (OpenLeft s block Next)
  open_left block Next next before records after rest h =
      adds_both before h.0 after records h.1 rest (block_adds block.site (block_of block.left.now) before records h.0 h.1 h.2)
      (closes_left block.scopes (EndLeft s block.at_end Next) (end_left block.at_end Next next) h.0 h.1 after rest h.3)

  blocks_left : (blocks : List OpenBlock) (Next : Steps) → EachAdds Next → EachAdds (BlocksLeft s blocks Next)
  blocks_left [] Next next before records after rest h = next before records after rest h
  blocks_left (outer ∷ inner) Next next before records after rest h =
      blocks_left inner (OpenLeft s outer Next) (open_left outer Next next) before records after rest h

  outside_left : (walk : Walk) → EachAdds (OutsideLeft s walk)
  outside_left walk = blocks_left walk.blocks.items NothingLeft nothing_left

  by_choice : (choice : Option Choice) (In : Choice → OpenBlock) (Next : Steps) → EachAdds Next → (before : Standing) (records : List Record) (after : Standing)
      (rest : List Record) → MatchOption choice (Next before records after rest) (λ c. OpenLeft s (In c) Next before records after rest)
      → Adds before records after rest
  by_choice None In Next next before records after rest h = next before records after rest h
  by_choice (Some c) In Next next before records after rest h = open_left (In c) Next next before records after rest h

  pub walk_left : (walk : Walk) → EachAdds (WalkLeft s walk)
  walk_left walk before records after rest h =
      by_choice walk.choice (λ c. c.otherwise) (OutsideLeft s walk) (outside_left walk) before records after rest h

  body_left : (walk : Walk) → EachAdds (BodyLeft s walk)
  body_left walk before records after rest h =
      by_choice walk.choice (λ c. c.body) (OutsideLeft s walk) (outside_left walk) before records after rest h

  marked_left : (count : ℕ) (m : Mark) (P : Steps) → EachAdds P → (before : Standing) (records : List Record) (after : Standing) (rest : List Record)
      → P (marked_so_often count (happenings.Mark m) before records) records after rest → Adds before records after rest
  marked_left count m P each before records after rest h =
      adds_both before (marked_so_often count (happenings.Mark m) before records) after records records rest (kept_adds.marked false count m before records)
      (each (marked_so_often count (happenings.Mark m) before records) records after rest h)

  chosen : (value : ℕ) (Holds Fails Goal : Type 0) → Chooses value Holds Fails → (Holds → Goal) → (Fails → Goal) → Goal
  chosen value Holds Fails Goal h holds fails = elim h [ inl p ↦ holds p.1 | inr p ↦ fails p.1 ]

  taker_left : (walk : Walk) (taker : Taker) (loaded : ℕ) → EachAdds (TakerLeft s walk taker loaded)
  taker_left walk nobody loaded before records after rest h = walk_left walk before records after rest h
  taker_left walk (to_register register value data_race) loaded before records after rest h =
      let given : Standing = registered before records register (loading_value before.progress.registers loaded value) in
      adds_both before given after records records rest (register_adds register (loading_value before.progress.registers loaded value) before records)
      (marked_left (so_often data_race) marks.Enable (WalkLeft s walk) (walk_left walk) given records after rest h)
  taker_left walk (condition value) loaded before records after rest h =
      chosen _ _ _ _ h (λ p. body_left walk before records after rest p) (λ p. walk_left walk before records after rest p)

  pub follow_left : (walk : Walk) (follow : Follow) (effect : Effect) → EachAdds (FollowLeft s walk follow effect)
  follow_left walk goes_on effect before records after rest h = walk_left walk before records after rest h
  follow_left walk marks_next effect before records after rest h = marked_left 1 (marks.Next 1) (WalkLeft s walk) (walk_left walk) before records after rest h
  follow_left walk (assigned data_race) effect before records after rest h =
      marked_left (so_often data_race) marks.Enable (WalkLeft s walk) (walk_left walk) before records after rest h
  follow_left walk (loaded_by size data_races taker) effect before records after rest h =
      marked_left data_races marks.Enable (TakerLeft s walk taker _) (taker_left walk taker _) before records after rest h.2

  -- a statement is a block of its own, without what makes an assertion last
  alone_adds : (statement : Statement) → scoped_assertion statement ≡ None → (site : ℕ) → EachAdds (StepsOf s site statement)
  alone_adds statement none site before records after rest h =
      block_adds site (tree.first statement tree.empty) before records after rest
      (subst (λ (x : Option Scoped). StepsInBlock s site x (StepsOf s site statement)
      (λ b r a l. StepsOfBlock s (site + length (accesses_of statement)) tree.empty b r a l) before records after rest) (sym none)
      (after, rest, h, (refl, refl)))

  statement_adds : (statement : Statement) (site : ℕ) → EachAdds (StepsOf s site statement)
  statement_adds (tree.load_only l) site = alone_adds (tree.load_only l) refl site
  statement_adds (tree.assign data_race a) site = alone_adds (tree.assign data_race a) refl site
  statement_adds (tree.if_block e body) site = alone_adds (tree.if_block e body) refl site
  statement_adds (tree.if_else e body otherwise) site = alone_adds (tree.if_else e body otherwise) refl site
  statement_adds (tree.for_turns r turns body) site = alone_adds (tree.for_turns r turns body) refl site
  statement_adds (tree.call (calls.Barrier b)) site = alone_adds (tree.call (calls.Barrier b)) refl site
  statement_adds (tree.call (calls.Lock l)) site = alone_adds (tree.call (calls.Lock l)) refl site
  statement_adds (tree.call (calls.Unlock l)) site = alone_adds (tree.call (calls.Unlock l)) refl site
  statement_adds (tree.call (calls.AssertWriter x scoped)) site = alone_adds (tree.call (calls.AssertWriter x false)) refl site
  statement_adds (tree.call (calls.AssertAccess x scoped)) site = alone_adds (tree.call (calls.AssertAccess x false)) refl site
  statement_adds (tree.call (calls.AssertBits x mask)) site = alone_adds (tree.call (calls.AssertBits x mask)) refl site
  statement_adds (tree.call (calls.Mark m)) site = alone_adds (tree.call (calls.Mark m)) refl site
  statement_adds (tree.call (calls.Check is_write x size)) site = alone_adds (tree.call (calls.Check is_write x size)) refl site

  -- a condition is an if of no block
  either_way : (value : ℕ) (P : Type 0) → P → Chooses value P P
  either_way zero P p = inr (refl, p)
  either_way (suc value) P p = inl (λ none. absurd (let no : suc value ≡ 0 = none in cc), p)

  expression_adds : (e : Expression) (site value : ℕ) (before : Standing) (records : List Record) (between : Standing) (later : List Record)
      → StepsOfExpression s site e before records value between later → Adds before records between later
  expression_adds e site value before records between later h =
      alone_adds (tree.if_block e tree.empty) refl site before records between later (value, between, later, h, either_way value _ (refl, refl))

  -- what is due adds so too
  pub due_adds : (due : Due) (walk : Walk) → EachAdds (DueLeft s due walk)
  due_adds (dues.Statement statement site) walk before records after rest h =
      adds_both before h.0 after records h.1 rest (statement_adds (statement_of statement.now) site before records h.0 h.1 h.2)
      (walk_left walk h.0 h.1 after rest h.3)
  due_adds (dues.Opens kind variable site) walk before records after rest h =
      adds_both before h.1 after records h.2 rest (later_adds (opens_later _ h.0 before records h.1 h.2 h.3)) (walk_left walk h.1 h.2 after rest h.4)
  due_adds (dues.Condition chooses site) walk before records after rest h =
      adds_both before h.1 after records h.2 rest (expression_adds (expression_of chooses.now) site h.0 before records h.1 h.2 h.3)
      (chosen _ _ _ _ h.4 (λ p. body_left walk h.1 h.2 after rest p) (λ p. walk_left walk h.1 h.2 after rest p))
  due_adds (dues.Sets register value) walk before records after rest h =
      adds_both before (registered before records register value) after records records rest (register_adds register value before records)
      (walk_left walk (registered before records register value) records after rest h)
  due_adds dues.Closes walk before records after rest h =
      adds_both before h.0 after records h.1 rest (later_adds (closes_later h.2.1 h.2.0 before records h.0 h.1 h.2.3)) (walk_left walk h.0 h.1 after rest h.3)
  due_adds dues.Leaves walk before records after rest h = walk_left walk before records after rest h
  due_adds dues.Ends walk before records after rest h = nothing_left before records after rest h
