-- What is said of a task is so of its copy.
use Rattle.std.proofs.Common.{◌≡◌, ◌↔◌, ◌∙◌, ◌++◌, ℕ, List, [], ◌∷◌, Some, subst, sym}
use Rattle.access_run.proofs.Copies.{accesses_lead}
use Rattle.access_types.specs.Access.{Access}
use Rattle.access_types.specs.declared.history.Happening.TheVariants as happenings
use Rattle.access_types.specs.declared.history.Mark.TheVariants as marks
use Rattle.litmus_semantics.specs.Expressions.{loading_value}
use Rattle.litmus_semantics.specs.Meaning.{Chooses}
use Rattle.litmus_semantics.specs.Values.{sign_extended}
use Rattle.litmus_syntax.specs.Tree.{Block}
use Rattle.access_run.specs.memory_operation.Locks.{TakesLock}
use Rattle.access_run.specs.declared.memory_operation.effect.Effect.{Effect}
use Rattle.prepared_program.specs.program_layout.Lays.{Lays}
use Rattle.prepared_program.specs.declared.program_layout.layout.Layout.{Layout}
use Rattle.setup_access.proofs.Copies as checker
use Rattle.setup_access.specs.Checker.{Checks, Closes}
use Rattle.setup_access.specs.Records.{MakesDone}
use Rattle.setup_access.specs.declared.begun.Begun.{Begun}
use Rattle.task_context.specs.Context.{Context}
use Rattle.task_context.specs.History.{LeadsTo}
use Rattle.slot_table.specs.declared.records.Record.{Record}
use Rattle.slot_table.specs.declared.step.Step.TheVariants.{LockStore}
use Rattle.task_plan.specs.Follow.{Follow, Taker, assigned, condition, goes_on, loaded_by, marks_next, nobody, so_often, to_register}
use Rattle.task_run.specs.Agrees.{Agrees, IsIn, in_part}
use Rattle.task_run.specs.Copies.{IsCopy}
use Rattle.task_run.specs.Leads.{Leads}
use Rattle.task_run.specs.Part.{FollowLeft, Part, PartLeft, TakerLeft, closes, enabled, locks, makes, opens, over, stops, unlocks}
use Rattle.task_run.specs.Stands.{Counts, IsOf, RestsAt}
use Rattle.task_run.specs.Stops.{PassesWith}
use Rattle.task_run.specs.declared.machine.Machine.{Machine}
use Rattle.task_run.specs.declared.run.TaskRun.{TaskRun}
use Rattle.task_run.specs.declared.stage.TaskStage.{TaskStage}
use Rattle.task_plan.proofs.Copies as walk
use Rattle.task_plan.specs.Left.{BodyLeft, ClosesNewest, WalkLeft}
use Rattle.program_order.specs.Access.{Makes}
use Rattle.program_order.specs.Standing.{IsLockAt, Setting, Standing, checks_of, doing, lock_number, moments, registered}
use Rattle.program_order.specs.WrittenOrder.{OpensScope, Steps, StepsOfBlock, at_first}

module _ (machine copy : Machine) (is : IsCopy machine copy) (s : Setting) where
  walk_left : WalkLeft s machine.walk ≡ WalkLeft s copy.walk
  walk_left = walk.same_left machine.walk copy.walk is.walk s

  body_left : BodyLeft s machine.walk ≡ BodyLeft s copy.walk
  body_left = walk.same_body machine.walk copy.walk is.walk s

  -- of the text the same is left after each part
  taker_left : (taker : Taker) (loaded : ℕ) → TakerLeft s machine.walk taker loaded ≡ TakerLeft s copy.walk taker loaded
  taker_left nobody loaded = walk_left
  taker_left (to_register register value data_race) loaded = λ i before records after rest.
      let given = loading_value before.progress.registers loaded value in
      walk_left i (enabled (so_often data_race) (registered before records register given) records) records after rest
  taker_left (condition value) loaded = λ i before records after rest.
      Chooses (loading_value before.progress.registers loaded value) (body_left i before records after rest) (walk_left i before records after rest)

  follow_left : (follow : Follow) (effect : Effect) → FollowLeft s machine.walk follow effect ≡ FollowLeft s copy.walk follow effect
  follow_left goes_on effect = walk_left
  follow_left marks_next effect = λ i before records after rest.
      walk_left i (doing before records (happenings.Mark (marks.Next 1) ∷ [])) records after rest
  follow_left (assigned data_race) effect = λ i before records after rest. walk_left i (enabled (so_often data_race) before records) records after rest
  follow_left (loaded_by size data_races taker) effect = λ i before records after rest.
      (old : ℕ) × (effect.read ≡ Some old) × taker_left taker (sign_extended size old) i (enabled data_races before records) records after rest

  pub part_left : (part : Part) → PartLeft s part machine.walk ≡ PartLeft s part copy.walk
  part_left over = λ i before records after rest. PartLeft s over machine.walk before records after rest
  part_left (stops due) = walk.same_due machine.walk copy.walk is.walk s due
  part_left (makes a operation follow) = λ i before records after rest.
      (effect : Effect) × (between : Standing) × (later : List Record)
      × Makes s before a operation records effect between later × follow_left follow effect i between later after rest
  part_left (opens a) = λ i before records after rest.
      (begun : Begun) × (opened : Standing) × (inside : List Record)
      × OpensScope s before a records begun opened inside × walk_left i opened inside after rest
  part_left closes = λ i before records after rest.
      (between : Standing) × (later : List Record) × ClosesNewest s before records between later × walk_left i between later after rest
  part_left (locks variable) = λ i before records after rest.
      (later : List Record) × IsLockAt s variable × TakesLock s.text.task (lock_number s variable) records later
      × walk_left i (doing before later (happenings.Lock variable ∷ [])) later after rest
  part_left (unlocks variable) = λ i before records after rest.
      (later : List Record) × MakesDone s.text.task (LockStore (lock_number s variable)) (λ more. later ≡ more) records
      × walk_left i (doing before later (happenings.Unlock variable ∷ [])) later after rest

  is_of : IsOf s machine → IsOf s copy
  is_of of = record {
    task = is.task ∙ of.task;
    rules = is.rules ∙ of.rules;
    variables = is.variables ∙ of.variables;
    layout = subst (λ (layout : Layout). Lays s.text.places s.text.variables layout) (sym is.layout) of.layout;
    sites = is.sites ∙ of.sites;
  }

  counted : (before : Standing) → Counts s before machine → Counts s before copy
  counted before counts = record {
    keeps = is.keeps _ _ counts.keeps;
    context = subst (λ (context : Context). LeadsTo s.rules.plain_writes_atomic s.text.task (moments s before) context)
        (sym (checker.copies_have_context machine.checker copy.checker is.checker)) counts.context;
    in_force = is.in_force ∙ counts.in_force;
  }

  rested : (before : Standing) → RestsAt s before machine → RestsAt s before copy
  rested before rests = (
    rests.0,
    checker.copies_rest machine.checker copy.checker is.checker (checks_of s) before.scopes before.asked rests.0 rests.1,
  )

  is_in : (part : Part) (before : Standing) (mine : List Record) (stage : TaskStage) → IsIn s part before mine machine stage → IsIn s part before mine copy stage
  is_in over before mine stage h = (h.0, h.1, rested before h.2)
  is_in (stops due) before mine stage h = (
    h.0,
    h.1,
    rested before h.2,
    subst (λ (Left : Steps). PassesWith s Left before) (walk.same_due machine.walk copy.walk is.walk s due) h.3,
  )
  is_in (makes a operation follow) before mine stage h = (
    h.0,
    h.1,
    h.2,
    h.3,
    h.4,
    h.5,
    h.6,
    accesses_lead machine.checker copy.checker is.checker (checks_of s) before.scopes h.2 before.asked operation mine h.0 h.7,
    h.8,
    is.begins ∙ h.9,
    h.10,
  )
  is_in (opens a) before mine stage h = (
    h.0,
    h.1,
    h.2,
    h.3,
    checker.copies_lead machine.checker copy.checker is.checker (checks_of s) before.scopes (Checks h.0) before.asked mine h.4,
    h.5,
    is.begins ∙ h.6,
    h.7,
    h.8,
  )
  is_in closes before mine stage h = (
    h.0,
    h.1,
    h.2,
    h.3,
    h.4,
    h.5,
    checker.copies_lead machine.checker copy.checker is.checker (checks_of s) h.0 (Closes h.1 h.2) before.asked mine h.6,
    h.7,
  )
  is_in (locks variable) before mine stage h = (h.0, h.1, h.2, h.3, rested before h.4, h.5)
  is_in (unlocks variable) before mine stage h = (h.0, h.1, rested before h.2, h.3)

  pub copies_agree : (part : Part) (before : Standing) (mine : List Record) (stage : TaskStage)
      → Agrees s part before mine machine stage → Agrees s part before mine copy stage
  copies_agree part before mine stage agrees = record {
    of = is_of agrees.of;
    counts = counted (in_part part before) agrees.counts;
    is_in = is_in part before mine stage agrees.is_in;
  }

-- records that lead to a task lead to its copy
pub copies_lead : (run copy : TaskRun) → IsCopy run.machine copy.machine → copy.stage ≡ run.stage
    → (s : Setting) (registers : ℕ) (body : Block) (records : List Record) → Leads s registers body records run → Leads s registers body records copy
copies_lead run copy is stage s registers body records leads = record {
  part = leads.part;
  earlier = leads.earlier;
  mine = leads.mine;
  spelled = leads.spelled;
  waits = leads.waits;
  now = leads.now;
  told = leads.told;
  scopes = leads.scopes;
  accesses = leads.accesses;
  repeats = leads.repeats;
  agrees = λ later. subst (λ (x : TaskStage). Agrees s leads.part (leads.now later) leads.mine copy.machine x) (sym stage)
      (copies_agree run.machine copy.machine is s leads.part (leads.now later) leads.mine run.stage (leads.agrees later));
  left = λ later end. subst (λ (Left : Steps). StepsOfBlock s 0 body (at_first registers) (records ++ later) end []
      ↔ Left (leads.now (leads.mine ++ later)) (leads.mine ++ later) end [])
      (part_left run.machine copy.machine is s leads.part) (leads.left later end);
}
