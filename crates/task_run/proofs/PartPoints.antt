-- Where a task stands after its records, by the part of its text that its machine is in: an access of the part has
-- begun with the first of the part's records, and none has ended in it.
use Rattle.std.proofs.Common.{◌≡◌, ◌∙◌, ◌<◌, ◌≤◌, ◌+◌, ◌++◌, ◌∷◌, [], inl, inr, ℕ, List, Option, ap, append_assoc, arith, drop, length, refl, subst, sym}
use Rattle.std.proofs.lemmas.Bool.{le-leb}
use Rattle.std.proofs.lemmas.Bool.Decides.{leb_tells}
use Rattle.std.proofs.lemmas.List.{append-nil, length-append}
use Rattle.access_run.specs.declared.memory_operation.effect.Effect.{Effect}
use Rattle.access_run.specs.declared.memory_operation.operation.Operation.{Operation}
use Rattle.access_types.specs.Access as access
use Rattle.access_types.specs.declared.history.Happening.{Happening}
use Rattle.access_types.specs.declared.history.Happening.TheVariants as happenings
use Rattle.litmus_semantics.specs.Task as meaning
use Rattle.litmus_syntax.specs.Tree.{Block}
use Rattle.program_order.specs.Access.{Makes, operated}
use Rattle.program_order.specs.Standing.{Point, Setting, Standing, doing, point_by}
use Rattle.program_order.specs.TaskObserved.{did_by, to_come}
use Rattle.program_order.specs.WrittenOrder.{WrittenOrder, first_point}
use Rattle.slot_table.specs.declared.records.Record.{Record}
use Rattle.task_plan.specs.declared.walk.Walk.{Walk}
use Rattle.task_run.proofs.PartNotOver.{Goes, part_goes}
use Rattle.task_run.proofs.TextPoints.{Adds, AllAdd, AllBelow, EachDid, GoesQuietly, add_is_below, below_both, below_more, due_adds, follow_left}
use Rattle.task_run.proofs.TextPoints.{makes_points, opens_first, quiet_same, walk_left}
use Rattle.task_run.proofs.ToldLemmas.{fewer_points}
use Rattle.task_run.specs.Agrees.{IsIn}
use Rattle.task_run.specs.Leads.{Leads, stands_at}
use Rattle.task_run.specs.Part.{Part, PartLeft, closes, locks, makes, opens, over, stops, unlocks}
use Rattle.task_run.specs.Position.{AllFrom, last_of}
use Rattle.task_run.specs.declared.machine.Machine.{Machine}
use Rattle.task_run.specs.declared.run.TaskRun.{TaskRun}
use Rattle.task_run.specs.declared.stage.TaskStage.{TaskStage}

-- what the task did up to the begin of the part's access, if that has begun
abbrev pub did_in : Part → List Record → List Happening → List Happening
did_in over mine did = did
did_in (stops due) mine did = did
did_in (makes a operation follow) [] did = did
did_in (makes a operation follow) (first ∷ later) did = did ++ happenings.Begin a ∷ []
did_in (opens a) [] did = did
did_in (opens a) (first ∷ later) did = did ++ happenings.Begin a ∷ []
did_in closes mine did = did
did_in (locks variable) mine did = did
did_in (unlocks variable) mine did = did

-- so it is at each of these points with so many records to come
abbrev EachIf : ℕ → (List Happening → Type 0) → List Point → Type 0
EachIf n P [] = Unit {0}
EachIf n P (point ∷ points) = (n ≤ point.to_come → P point.progress.did) × EachIf n P points

if_below : (n : ℕ) (P : List Happening → Type 0) (points : List Point) → AllBelow n points → EachIf n P points
if_below n P [] all = tt
if_below n P (point ∷ points) all =
    (λ more. let low : point.to_come < n = all.0 in absurd (omega (arith, low, more)), if_below n P points all.1)

if_each : (n : ℕ) (P : List Happening → Type 0) (points : List Point) → EachDid P points → EachIf n P points
if_each n P [] all = tt
if_each n P (point ∷ points) all = (λ more. all.0, if_each n P points all.1)

if_added : (n : ℕ) (did : List Happening) (points : List Point) → AllAdd n did points → EachIf n (GoesQuietly did) points
if_added n did [] all = tt
if_added n did (point ∷ points) all = (all.0.1, if_added n did points all.1)

if_both : (n : ℕ) (P : List Happening → Type 0) (first later : List Point) → EachIf n P first → EachIf n P later → EachIf n P (first ++ later)
if_both n P [] later one two = two
if_both n P (point ∷ first) later one two = (one.0, if_both n P first later one.1 two)

-- wherever among them the task stands
by_points : (P : List Happening → Type 0) (n : ℕ) (last : Point) (points : List Point) → P last.progress.did → EachIf n P points
    → P (point_by n last points).progress.did
by_points P n last [] here each = here
by_points P n last (point ∷ points) here each = elim (leb_tells n point.to_come) [
  | inl more ↦ rw more.0 (by_points P n point points (each.0 more.1) each.1)
  | inr there ↦ rw there.0 here
]

-- past a point with as many records to come
past_first : (P : List Happening → Type 0) (n : ℕ) (last point : Point) (points : List Point) → n ≤ point.to_come → EachIf n P (point ∷ points)
    → P (point_by n last (point ∷ points)).progress.did
past_first P n last point points more each = rw (le-leb n point.to_come more) (by_points P n point points (each.0 more) each.1)

past : (n : ℕ) (last : Point) (first points : List Point) → AllFrom n first → point_by n last (first ++ points) ≡ point_by n (last_of last first) points
past n last [] points all = refl
past n last (next ∷ first) points all = rw (le-leb n next.to_come all.0) (past n next first points all.1)

-- from where a part began to the end of the text: wherever the task stands with these records to come, it did so much
record Stood (before : Standing) (did : List Happening) (more : List Record) (end : Standing) : Type 0 where
  points : List Point
  adds : end.way ≡ before.way ++ points
  stands : (last : Point) → last.progress.did ≡ before.progress.did → GoesQuietly did (point_by (length more) last points).progress.did

-- no access of the part has begun
quiet_stood : (before : Standing) (more : List Record) (end : Standing) (points : List Point) → end.way ≡ before.way ++ points
    → EachIf (length more) (GoesQuietly before.progress.did) points → Stood before before.progress.did more end
quiet_stood before more end points adds each = record {
  points = points;
  adds = adds;
  stands = λ last same. by_points (GoesQuietly before.progress.did) (length more) last points
      (subst (λ (d : List Happening). GoesQuietly before.progress.did d) (sym same) (quiet_same before.progress.did)) each;
}

-- one has
begun_stood : (before : Standing) (did : List Happening) (more : List Record) (end : Standing) (point : Point) (points : List Point)
    → end.way ≡ before.way ++ point ∷ points → length more ≤ point.to_come → EachIf (length more) (GoesQuietly did) (point ∷ points)
    → Stood before did more end
begun_stood before did more end point points adds first each = record {
  points = point ∷ points;
  adds = adds;
  stands = λ last same. past_first (GoesQuietly did) (length more) last point points first each;
}

module _ (s : Setting) (walk : Walk) (before : Standing) (more : List Record) (end : Standing) where
  -- a part of one point, its last
  one_stood : (between : Standing) (rest : List Record) (last : Point) → between.way ≡ before.way ++ last ∷ [] → last.to_come ≡ length rest
      → Adds between rest end [] → length rest < length more → Stood before before.progress.did more end
  one_stood between rest last way at after less =
      quiet_stood before more end (last ∷ after.points)
      (after.adds ∙ (ap (λ (w : List Point). w ++ after.points) way ∙ append_assoc before.way (last ∷ []) after.points))
      (if_below (length more) (GoesQuietly before.progress.did) (last ∷ after.points)
      (omega (arith, at, less), add_is_below (length rest) (length more) between.progress.did after.points less after.each))

  -- an access
  makes_stood : (a : access.Access) (operation : Option Operation) (effect : Effect) (mine : List Record) (between : Standing) (rest : List Record)
      (did : List Happening) → Makes s before a operation (mine ++ more) effect between rest → Adds between rest end [] → length rest < length more
      → ((first : Point) (points : List Point) → first.to_come ≡ length (drop 1 (mine ++ more))
      → first.progress.did ≡ before.progress.did ++ happenings.Begin a ∷ [] → end.way ≡ before.way ++ first ∷ points
      → AllBelow (length (mine ++ more)) (first ∷ points)
      → EachIf (length more) (GoesQuietly (before.progress.did ++ happenings.Begin a ∷ [])) points → Stood before did more end)
      → Stood before did more end
  makes_stood a operation effect mine between rest did h after less goes =
      let all : List Record = mine ++ more in
      let began : Standing = doing before (drop 1 all) (happenings.Begin a ∷ []) in
      let made : Standing = operated a operation began h.checked effect h.done in
      let its = makes_points s a operation effect before all between rest h in
      let own = its.own in
      let first : Point = record { to_come = length (drop 1 all); progress = began.progress; unbalanced = before.unbalanced } in
      let last : Point = record { to_come = length rest; progress = meaning.doing made.progress (happenings.End a ∷ []); unbalanced = made.unbalanced } in
      let fewer : length more ≤ length all = let size = length-append mine more in omega (arith, size) in
      let tail : AllBelow (length more) (last ∷ after.points) =
      (less, add_is_below (length rest) (length more) between.progress.did after.points less after.each) in
      let one = its.checked in
      goes first (own.points ++ last ∷ after.points) refl refl
      (after.adds ∙ (ap (λ (st : Standing). st.way ++ after.points) h.comes_to
      ∙ (ap (λ (w : List Point). (w ++ last ∷ []) ++ after.points) own.adds
      ∙ (append_assoc (began.way ++ own.points) (last ∷ []) after.points
      ∙ (append_assoc began.way own.points (last ∷ after.points)
      ∙ append_assoc before.way (first ∷ []) (own.points ++ (last ∷ after.points))))))) (
        its.first,
        below_both (length all) own.points (last ∷ after.points)
            (below_more (length h.checked + 1) (length all) own.points (omega (arith, one)) own.below)
            (below_more (length more) (length all) (last ∷ after.points) fewer tail),
      )
      (if_both (length more) (GoesQuietly began.progress.did) own.points (last ∷ after.points)
      (if_each (length more) (GoesQuietly began.progress.did) own.points own.each)
      (if_below (length more) (GoesQuietly began.progress.did) (last ∷ after.points) tail))

  part_stood : (part : Part) (mine : List Record) (machine : Machine) (stage : TaskStage) → IsIn s part before mine machine stage
      → PartLeft s part walk before (mine ++ more) end [] → Goes s part before (mine ++ more) more
      → Stood before (did_in part mine before.progress.did) more end
  part_stood (makes a operation follow) [] machine stage is_in h goes =
      makes_stood a operation h.0 [] h.1 h.2 before.progress.did h.3 (follow_left s walk follow h.0 h.1 h.2 end [] h.4) (goes h.0 h.1 h.2 h.3)
      (λ first points at did adds below each.
      quiet_stood before more end (first ∷ points) adds (if_below (length more) (GoesQuietly before.progress.did) (first ∷ points) below))
  part_stood (makes a operation follow) (made ∷ mine) machine stage is_in h goes =
      let did : List Happening = before.progress.did ++ happenings.Begin a ∷ [] in
      makes_stood a operation h.0 (made ∷ mine) h.1 h.2 did h.3 (follow_left s walk follow h.0 h.1 h.2 end [] h.4) (goes h.0 h.1 h.2 h.3)
      (λ first points at is adds below each.
      let size = length-append mine more in
      begun_stood before did more end first points adds (omega (arith, at, size))
      (λ more. subst (λ (d : List Happening). GoesQuietly did d) (sym is) (quiet_same did), each))
  part_stood (opens a) mine machine stage is_in h goes =
      let after = walk_left s walk h.1 h.2 end [] h.4 in
      let less = goes h.0 h.1 h.2 h.3 in
      let began : Standing = doing before (drop 1 (mine ++ more)) (happenings.Begin a ∷ []) in
      let first : Point = record { to_come = length (drop 1 (mine ++ more)); progress = began.progress; unbalanced = before.unbalanced } in
      let adds : end.way ≡ before.way ++ first ∷ after.points =
      after.adds ∙ (ap (λ (st : Standing). st.way ++ after.points) h.3.comes_to ∙ append_assoc before.way (first ∷ []) after.points) in
      let tail = add_is_below (length h.2) (length more) h.1.progress.did after.points less after.each in
      opened_stood a mine first after.points refl refl adds (opens_first s a h.0 before (mine ++ more) h.1 h.2 h.3) tail
    where
      opened_stood : (a : access.Access) (mine : List Record) (first : Point) (points : List Point) → first.to_come ≡ length (drop 1 (mine ++ more))
          → first.progress.did ≡ before.progress.did ++ happenings.Begin a ∷ [] → end.way ≡ before.way ++ first ∷ points
          → length (drop 1 (mine ++ more)) < length (mine ++ more) → AllBelow (length more) points
          → Stood before (did_in (opens a) mine before.progress.did) more end
      opened_stood a [] first points at is adds below tail =
          quiet_stood before more end (first ∷ points) adds
          (if_below (length more) (GoesQuietly before.progress.did) (first ∷ points) (omega (arith, at, below), tail))
      opened_stood a (made ∷ mine) first points at is adds below tail =
          let did : List Happening = before.progress.did ++ happenings.Begin a ∷ [] in
          let size = length-append mine more in
          begun_stood before did more end first points adds (omega (arith, at, size)) (
            λ more. subst (λ (d : List Happening). GoesQuietly did d) (sym is) (quiet_same did),
            if_below (length more) (GoesQuietly did) points tail,
          )
  part_stood closes mine machine stage is_in h goes =
      let closed = h.2 in
      one_stood h.0 h.1 _ (ap (λ (st : Standing). st.way) closed.3.comes_to) refl (walk_left s walk h.0 h.1 end [] h.3)
      (goes closed.0 closed.1 h.0 h.1 closed.2 closed.3)
  part_stood (locks variable) mine machine stage is_in h goes =
      let taken : Standing = doing before h.0 (happenings.Lock variable ∷ []) in
      one_stood taken h.0 _ refl refl (walk_left s walk taken h.0 end [] h.3) (goes h.0 h.2)
  part_stood (unlocks variable) mine machine stage is_in h goes =
      let free : Standing = doing before h.0 (happenings.Unlock variable ∷ []) in
      one_stood free h.0 _ refl refl (walk_left s walk free h.0 end [] h.2) (goes h.0 h.1)
  part_stood over mine machine stage is_in h goes =
      quiet_stood before more end [] (ap (λ (st : Standing). st.way) h.0 ∙ sym (append-nil before.way)) tt
  part_stood (stops due) mine machine stage is_in h goes =
      let own = due_adds s due walk before more end []
      (subst (λ (m : List Record). PartLeft s (stops due) walk before (m ++ more) end []) is_in.1 h) in
      quiet_stood before more end own.points own.adds (if_added (length more) before.progress.did own.points own.each)

module _ (s : Setting) (registers : ℕ) (body : Block) (records : List Record) (run : TaskRun) (leads : Leads s registers body records run)
    (written : WrittenOrder s registers body records) where
  abbrev more : List Record
  more = written.more

  abbrev now : Standing
  now = stands_at leads more

  stood : Stood now (did_in leads.part leads.mine now.progress.did) more written.whole.end
  stood =
      let is_in = (leads.agrees (leads.mine ++ more)).is_in in
      part_stood s run.machine.walk now more written.whole.end leads.part leads.mine run.machine run.stage is_in
      ((leads.left more written.whole.end).0 written.whole.steps) (part_goes s leads.part now leads.mine more run.machine run.stage is_in)

  -- what the task did after its records
  pub did_told : GoesQuietly (did_in leads.part leads.mine now.progress.did) (did_by written (length records))
  did_told =
      let told = leads.told (leads.mine ++ more) in
      let fewer : length more ≤ length (leads.mine ++ more) = let size = length-append leads.mine more in omega (arith, size) in
      let at : to_come written (length records) ≡ length more = let size = length-append records more in omega (arith, size) in
      let start : Point = first_point (to_come written 0) registers in
      let here : Point = last_of start now.way in
      let same : here.progress.did ≡ now.progress.did = ap (λ (p : meaning.Progress). p.did) (told.progress (to_come written 0)) in
      let there : point_by (to_come written (length records)) start written.whole.end.way ≡ point_by (length more) here stood.points =
      ap (λ (n : ℕ). point_by n start written.whole.end.way) at
      ∙ (ap (λ (w : List Point). point_by (length more) start w) stood.adds
      ∙ past (length more) start now.way stood.points (fewer_points (length (leads.mine ++ more)) (length more) now.way fewer told.points)) in
      subst (λ (p : Point). GoesQuietly (did_in leads.part leads.mine now.progress.did) p.progress.did) (sym there) (stood.stands here same)
