-- The registers of a machine are those that the records tell.
use Rattle.std.proofs.Common.{◌≡◌, ◌<◌, ◌≤◌, ◌∙◌, ◌+◌, ◌++◌, ◌∷◌, [], ℕ, List, Option, ap, append_assoc, arith, drop, length, refl, subst, sym}
use Rattle.std.proofs.lemmas.List.{append-nil, length-append}
use Rattle.access_types.specs.Access as access
use Rattle.access_types.specs.declared.history.Happening.TheVariants as happenings
use Rattle.litmus_semantics.specs.Task as meaning
use Rattle.litmus_syntax.specs.Tree.{Block}
use Rattle.access_run.specs.declared.memory_operation.effect.Effect.{Effect}
use Rattle.access_run.specs.declared.memory_operation.operation.Operation.{Operation}
use Rattle.log_correctness.proofs.Afters.{After, follow_left, walk_left}
use Rattle.slot_table.specs.declared.records.Record.{Record}
use Rattle.task_run.proofs.PartNotOver.{Goes, part_goes}
use Rattle.log_correctness.proofs.PointsTold.{AllBelow, AreAs, IsAs, as_by, from_fewer, operated_adds, past}
use Rattle.task_run.specs.Agrees.{IsIn}
use Rattle.task_run.specs.Leads.{Leads, stands_at}
use Rattle.task_run.specs.Part.{Part, PartLeft, closes, locks, makes, opens, over, stops, unlocks}
use Rattle.task_run.specs.Says.{IsStopped}
use Rattle.task_run.specs.Position.{last_of}
use Rattle.task_run.specs.declared.machine.Machine.{Machine}
use Rattle.task_run.specs.declared.run.TaskRun.{TaskRun}
use Rattle.task_run.specs.declared.stage.TaskStage.{TaskStage}
use Rattle.task_run.specs.declared.stage.TaskStage.TheVariants as stages
use Rattle.task_plan.specs.declared.walk.Walk.{Walk}
use Rattle.program_order.specs.Access.{Makes, operated}
use Rattle.program_order.specs.Standing.{Point, Setting, Standing, doing, point_by}
use Rattle.program_order.specs.WrittenOrder.{WrittenOrder, first_point, stands_after}
use Rattle.executions.proofs.observation_determinism.Falling.{AllUpTo}

below_all : (m n : ℕ) (points : List Point) → m < n → AllUpTo m points → AllBelow n points
below_all m n [] less all = tt
below_all m n (point ∷ points) less all = (
  let here : point.to_come ≤ m =
      all.0 in omega (arith, here, less),
  below_all m n points less all.1,
)

-- from where a part began to the end: first points with the same registers, and then points at which fewer records were
-- to come
record Ends (before : Standing) (more : List Record) (end : Standing) : Type 0 where
  middle : List Point
  tail : List Point
  adds : end.way ≡ before.way ++ (middle ++ tail)
  each : AreAs before.progress.registers before.unbalanced middle
  below : AllBelow (length more) tail

module _ (s : Setting) (before : Standing) (all more : List Record) (end : Standing) where
  made_ends : (a : access.Access) (operation : Option Operation) (effect : Effect) (between : Standing) (rest : List Record)
      → Makes s before a operation all effect between rest → After between rest end [] → length rest < length more → Ends before more end
  made_ends a operation effect between rest h after less =
      let began : Standing = doing before (drop 1 all) (happenings.Begin a ∷ []) in
      let made : Standing = operated a operation began h.checked effect h.done in
      let own = operated_adds a operation began h.checked effect h.done in
      let first : Point = record { to_come = length (drop 1 all); progress = began.progress; unbalanced = before.unbalanced } in
      let last : Point = record {
        to_come = length rest;
        progress = meaning.doing made.progress (happenings.End a ∷ []);
        unbalanced =
            made.unbalanced;
      } in
      record {
        middle = first ∷ own.points;
        tail = last ∷ after.points;
        adds = after.adds ∙ (ap (λ (st : Standing). st.way ++ after.points) h.comes_to
            ∙ (ap (λ (w : List Point). (w ++ last ∷ []) ++ after.points) own.adds
            ∙ (append_assoc (began.way ++ own.points) (last ∷ []) after.points
            ∙ (append_assoc began.way own.points (last ∷ after.points) ∙ append_assoc before.way (first ∷ [])
            (own.points ++ (last ∷ after.points))))));
        each = ((refl, refl), own.each);
        below = (less, below_all (length rest) (length more) after.points less after.low);
      }

  -- after a part of one point
  one_ends : (between : Standing) (rest : List Record) (last : Point) → between.way ≡ before.way ++ last ∷ [] → last.to_come ≡ length rest
      → After between rest end [] → length rest < length more → Ends before more end
  one_ends between rest last way at after less = record {
    middle = [];
    tail = last ∷ after.points;
    adds = after.adds ∙ (ap (λ (w : List Point). w ++ after.points) way ∙ append_assoc before.way (last ∷ []) after.points);
    each = tt;
    below = (omega (arith, at, less), below_all (length rest) (length more) after.points less after.low);
  }

module _ (s : Setting) (walk : Walk) (before : Standing) (mine more : List Record) (end : Standing) (machine : Machine) (stage : TaskStage)
    (going : ¬ (stage ≡ stages.Stopped)) where
  abbrev all : List Record
  all = mine ++ more

  part_ends : (part : Part) → IsIn s part before mine machine stage → PartLeft s part walk before all end [] → Goes s part before all more
      → Ends before more end
  part_ends (makes a operation follow) is_in h goes =
      made_ends s before all more end a operation h.0 h.1 h.2 h.3 (follow_left s walk follow h.0 h.1 h.2 end [] h.4) (goes h.0 h.1 h.2 h.3)
  part_ends (opens a) is_in h goes =
      let after = walk_left s walk h.1 h.2 end [] h.4 in
      let less = goes h.0 h.1 h.2 h.3 in
      let began : Standing = doing before (drop 1 all) (happenings.Begin a ∷ []) in
      let first : Point = record { to_come = length (drop 1 all); progress = began.progress; unbalanced = before.unbalanced } in
      record {
        middle = first ∷ [];
        tail = after.points;
        adds = after.adds ∙ (ap (λ (st : Standing). st.way ++ after.points) h.3.comes_to
            ∙ append_assoc before.way (first ∷ []) after.points);
        each = ((refl, refl), tt);
        below = below_all (length h.2) (length more) after.points less after.low;
      }
  part_ends closes is_in h goes =
      let closed = h.2 in
      one_ends s before all more end h.0 h.1 _ (ap (λ (st : Standing). st.way) closed.3.comes_to) refl (walk_left s walk h.0 h.1 end [] h.3)
      (goes closed.0 closed.1 h.0 h.1 closed.2 closed.3)
  part_ends (locks variable) is_in h goes =
      let taken : Standing = doing before h.0 (happenings.Lock variable ∷ []) in
      one_ends s before all more end taken h.0 _ refl refl (walk_left s walk taken h.0 end [] h.3) (goes h.0 h.2)
  part_ends (unlocks variable) is_in h goes =
      let free : Standing = doing before h.0 (happenings.Unlock variable ∷ []) in
      one_ends s before all more end free h.0 _ refl refl (walk_left s walk free h.0 end [] h.2) (goes h.0 h.1)
  part_ends over is_in h goes = record {
    middle = [];
    tail = [];
    adds = ap (λ (st : Standing). st.way) h.0 ∙ sym (append-nil before.way);
    each = tt;
    below = tt;
  }
  part_ends (stops due) is_in h goes = absurd (going is_in.0)

module _ (s : Setting) (registers : ℕ) (body : Block) (records : List Record) (run : TaskRun) (leads : Leads s registers body records run)
    (written : WrittenOrder s registers body records) (going : ¬ IsStopped run) where
  abbrev more : List Record
  more = written.more

  abbrev now : Standing
  now = stands_at leads more

  abbrev end : Standing
  end = written.whole.end

  ends : Ends now more end
  ends =
      let is_in = (leads.agrees (leads.mine ++ more)).is_in in
      part_ends s run.machine.walk now leads.mine more end run.machine run.stage going leads.part is_in
      ((leads.left more end).0 written.whole.steps) (part_goes s leads.part now leads.mine more run.machine run.stage is_in)

  abbrev start : Point
  start = first_point (length (records ++ more)) registers

  same : IsAs now.progress.registers now.unbalanced (stands_after written)
  same =
      let told = leads.told (leads.mine ++ more) in
      let long : length (leads.mine ++ more) ≡ length leads.mine + length more = length-append leads.mine more in
      let here : Point = last_of start now.way in
      let stood : IsAs now.progress.registers now.unbalanced here =
      (ap (λ (p : meaning.Progress). p.registers) (told.progress (length (records ++ more))), told.unbalanced (length (records ++ more))) in
      let at : stands_after written ≡ point_by (length more) here (ends.middle ++ ends.tail) =
      ap (λ (w : List Point). point_by (length more) start w) ends.adds
      ∙ past (length more) start now.way (ends.middle ++ ends.tail)
      (from_fewer (length (leads.mine ++ more)) (length more) now.way (omega (arith, long)) told.points) in
      subst (λ (p : Point). IsAs now.progress.registers now.unbalanced p) (sym at)
      (as_by now.progress.registers now.unbalanced (length more) here ends.middle ends.tail stood ends.each ends.below)

  pub registers_told : now.progress.registers ≡ (stands_after written).progress.registers
  registers_told = sym same.0

  pub unbalanced_told : now.unbalanced ≡ (stands_after written).unbalanced
  unbalanced_told = sym same.1
