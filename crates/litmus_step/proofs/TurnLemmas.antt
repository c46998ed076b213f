-- A task asked once more goes on by its own machine, which tells whether it is stuck or has ended.
use Rattle.std.proofs.Common.{◌≡◌, ◌↔◌, ◌≢◌, ◌++◌, ◌∙◌, ◌<◌, ◌∷◌, [], ℕ, List, Some, ap, arith, get_or, inl, inr, length, refl}
use Rattle.std.proofs.Common.{replicate, reverse, slice_get, subst, sym}
use Rattle.std.proofs.lemmas.Bool.Decides.{eqb_tells}
use Rattle.std.proofs.lemmas.List.{append-nil}
use Rattle.std.proofs.lemmas.Option.{slice_get-get_or, slice_get_cases, slice_get_read, slice_get_within}
use Rattle.litmus_step.proofs.FirstLemmas.{idle_has_ended, past as none_beyond}
use Rattle.litmus_step.proofs.OrderLemmas.{asked_ended, asked_none, asked_one, asked_then}
use Rattle.litmus_step.specs.Runs.{HasEnded, IsStuck, tasks_of}
use Rattle.litmus_step.specs.Steps.{IsMachine, IsTaskOver, LeadsTo, Reaches, StepsOn, SteppedLeaves, tasks_in}
use Rattle.litmus_step.specs.Turns.{AllHaveEnded, Asked, NobodyIsStuck, known_of, point}
use Rattle.litmus_step.specs.declared.world.Stepped.{Stepped}
use Rattle.litmus_step.specs.declared.world.Stepped.TheVariants.{Ended, Moved, Stuck}
use Rattle.litmus_step.specs.declared.world.World.{World}
use Rattle.litmus_syntax.specs.Limits.{TaskKeepsLimits}
use Rattle.executions.specs.execution.Run.{Run, idle, task_of, task_setting}
use Rattle.slot_table.specs.Records.{records_of}
use Rattle.slot_table.specs.declared.records.Record.{Record}
use Rattle.prepared_program.specs.step_schedule.Order as order
use Rattle.prepared_program.specs.step_schedule.Order.{AreAsked, IsAsked}
use Rattle.task_run.specs.declared.run.TaskRun.{TaskRun}
use Rattle.program_order.specs.WrittenOrder.{SpellsAll}

-- the records of a task reach its machine
pub reaches : (run : Run) (records : List Record) (world : World) (task : ℕ) (machine : TaskRun)
    → LeadsTo run records world → IsMachine world task machine
    → Reaches (task_setting run task) (length (task_of run task).registers) (task_of run task).body
    (reverse (records_of task records)) machine
reaches run records world task machine leads stands =
    let there : task < length world.tasks.items = slice_get_within world.tasks.items task machine stands in
    let below : task < tasks_of run = subst (λ n. task < n) leads.tasks.all there in
    let limits : TaskKeepsLimits run.program.variables (task_of run task) = leads.can.limits.each_task task idle below in
    record {
      leads = leads.tasks.each task machine stands;
      written = leads.list.tasks task;
      scopes = limits.body.scopes;
      rises = limits.rises;
    }

-- a task that has made the steps of its whole text isn't stuck
pub not_both : (run : Run) (records : List Record) (task : ℕ) → IsStuck run task records → HasEnded run task records → ⊥
not_both run records task stuck ended = stuck.only [] (subst (SpellsAll _ _ _) (sym (append-nil _)) ended)

-- none is stuck, by whatever list leads to the world
pub nobody_at : (run : Run) (records : List Record) (world : World) → LeadsTo run records world → NobodyIsStuck world
    → order.NobodyIsStuck (known_of run) (tasks_of run) (point records world)
nobody_at run records world leads nobody = λ task below stuck.
    let there : task < length world.tasks.items = subst (λ n. task < n) (sym leads.tasks.all) below in
    elim (slice_get_cases world.tasks.items task).1 [
      | inl here ↦ nobody task here.0 here.2 _ _ _ _ (reaches run records world task here.0 leads here.2) stuck
      | inr past ↦ absurd (omega (arith, there, past.0))
    ]

pub asked_nothing : (world : World) → Asked world [] world
asked_nothing world = λ run records leads. (records, leads, asked_none (known_of run) (tasks_of run) (point records world))

-- a task of the world is one of the run
task_below : (run : Run) (records : List Record) (world : World) (task : ℕ) → LeadsTo run records world → task < tasks_in world
    → task < tasks_of run
task_below run records world task leads there =
    let len = world.tasks.ok.0 in
    let all = leads.tasks.all in
    omega (arith, there, len, all)

-- a task is asked once more
pub asked_more : (first before after : World) (order : List ℕ) (task : ℕ) → task < tasks_in before
    → Asked first order before → NobodyIsStuck before
    → ((run : Run) (records : List Record) → LeadsTo run records before → StepsOn run records task before after)
    → Asked first (order ++ task ∷ []) after
asked_more first before after order task there asked nobody steps = λ run records leads.
    let so_far = asked run records leads in
    let now = so_far.0 in
    let here = so_far.1 in
    let below = task_below run now before task here there in
    let free = nobody_at run now before here nobody in
    let then : (to : World) (more : List Record) → LeadsTo run more to → IsAsked (known_of run) task (point now before) (point more to)
    → (all : List Record) × LeadsTo run all to
    × AreAsked (known_of run) (tasks_of run) (point records first) (order ++ task ∷ []) (point all to) =
    λ to more led is. (
      more,
      led,
      asked_then (known_of run) (tasks_of run) (point records first) (point now before) (point more to) order (task ∷ [])
          so_far.2 (asked_one (known_of run) (tasks_of run) (point now before) (point more to) task free is),
    ) in
    elim (steps run now here) [
      | inl rests ↦ then after now (subst (LeadsTo run now) (sym rests.1) here)
          (inl (
            elim rests.0 [
              | inl ended ↦ ended
              | inr stuck ↦ absurd (free task below stuck)
            ],
            ap (λ (w : World). point now w) rests.1,
          ))
      | inr moves ↦ then after (moves.1.made ∷ now) moves.1.leads
          (inr ((λ ended. moves.0 (inl ended)), (moves.1.made, moves.1.own, refl, moves.1.leads)))
    ]

-- a task that has ended is asked more often
pub asked_failed_wait : (first world : World) (order : List ℕ) (task times : ℕ) → Asked first order world → NobodyIsStuck world
    → ((run : Run) (records : List Record) → LeadsTo run records world → HasEnded run task records)
    → Asked first (order ++ replicate times task) world
asked_failed_wait first world order task times asked nobody ended = λ run records leads.
    let so_far = asked run records leads in (
      so_far.0,
      so_far.1,
      asked_then (known_of run) (tasks_of run) (point records first) (point so_far.0 world) (point so_far.0 world)
          order (replicate times task) so_far.2
          (asked_ended (known_of run) (tasks_of run) (point so_far.0 world) task times
          (nobody_at run so_far.0 world so_far.1 nobody)
          (ended run so_far.0 so_far.1)),
    )

-- more are asked after some
pub asked_both : (first before after : World) (order more : List ℕ) → Asked first order before → Asked before more after
    → Asked first (order ++ more) after
asked_both first before after order more asked then = λ run records leads.
    let so_far = asked run records leads in
    let on = then run so_far.0 so_far.1 in (
      on.0,
      on.1,
      asked_then (known_of run) (tasks_of run) (point records first) (point so_far.0 before) (point on.0 after)
          order more so_far.2 on.2,
    )

-- what is so of a task's machine and of all others is so of each
pub each_machine : (P : TaskRun → Type 0) (before after : World) (task : ℕ)
    → ((other : ℕ) → task ≢ other → slice_get after.tasks.items other ≡ slice_get before.tasks.items other)
    → ((at : ℕ) (machine : TaskRun) → IsMachine before at machine → P machine)
    → ((machine : TaskRun) → IsMachine after task machine → P machine)
    → (at : ℕ) (machine : TaskRun) → IsMachine after at machine → P machine
each_machine P before after task others all here at machine stands =
    elim (eqb_tells task at) [
      | inl same ↦ here machine (subst (λ t. IsMachine after t machine) (sym same.1) stands)
      | inr apart ↦ all at machine (sym (others at apart.1) ∙ stands)
    ]

some_same : {X : Type 0} (one other : X) → Some one ≡ Some other → one ≡ other
some_same one other same = cc

-- a machine that is read at the number of a task is the task's
pub machine_at : (world : World) (task : ℕ) (here : TaskRun) → task < tasks_in world
    → here ≡ get_or world.tasks.items task here → IsMachine world task here
machine_at world task here below is = slice_get_read world.tasks.items world.tasks.len task here world.tasks.ok.0 below is

pub same_machine : (world : World) (task : ℕ) (here machine : TaskRun) → task < tasks_in world
    → here ≡ get_or world.tasks.items task here → IsMachine world task machine → here ≡ machine
same_machine world task here machine below is stands =
    some_same here machine (sym (machine_at world task here below is) ∙ stands)

-- by what is told of the machine: whether the task is stuck, and whether it has ended
pub tells_stuck : (run : Run) (records : List Record) (world : World) (task : ℕ) (told : Stepped) (machine : TaskRun)
    → LeadsTo run records world → IsMachine world task machine → SteppedLeaves told machine → told ≡ Stuck ↔ IsStuck run task records
tells_stuck run records world task Moved machine leads stands tells = (
  λ (no : Moved ≡ Stuck). absurd (cc),
  λ stuck. absurd (tells.0 _ _ _ _ (reaches run records world task machine leads stands) stuck),
)
tells_stuck run records world task Ended machine leads stands tells = (
  λ (no : Ended ≡ Stuck). absurd (cc),
  λ stuck. absurd (tells.0 _ _ _ _ (reaches run records world task machine leads stands) stuck),
)
tells_stuck run records world task Stuck machine leads stands tells =
    (λ same. tells _ _ _ _ (reaches run records world task machine leads stands), λ stuck. refl)

pub tells_ended : (run : Run) (records : List Record) (world : World) (task : ℕ) (told : Stepped) (machine : TaskRun)
    → LeadsTo run records world → IsMachine world task machine → SteppedLeaves told machine → told ≡ Ended ↔ HasEnded run task records
tells_ended run records world task Moved machine leads stands tells = (
  λ (no : Moved ≡ Ended). absurd (cc),
  λ ended. absurd (tells.1 _ _ _ _ (reaches run records world task machine leads stands) ended),
)
tells_ended run records world task Ended machine leads stands tells =
    (λ same. tells.1 _ _ _ _ (reaches run records world task machine leads stands), λ ended. refl)
tells_ended run records world task Stuck machine leads stands tells = (
  λ (no : Stuck ≡ Ended). absurd (cc),
  λ ended. absurd (not_both run records task (tells _ _ _ _ (reaches run records world task machine leads stands)) ended),
)

-- each task of the world has a machine
pub some_machine : (world : World) (task : ℕ) (otherwise : TaskRun) → task < tasks_in world
    → IsMachine world task (get_or world.tasks.items task otherwise)
some_machine world task otherwise below =
    let len = world.tasks.ok.0 in
    slice_get-get_or world.tasks.items task otherwise (omega (arith, below, len))

-- whatever leads to the machines of a world, they are over: so all its tasks have ended, by whatever list
pub ended_at : (world : World)
    → ((task : ℕ) (machine : TaskRun) → task < tasks_in world → IsMachine world task machine → IsTaskOver machine)
    → AllHaveEnded world
ended_at world over = λ run records leads task.
    let len = world.tasks.ok.0 in
    let all = leads.tasks.all in
    elim (slice_get_cases world.tasks.items task).1 [
      | inl here ↦
          let there = here.1 in
          over task here.0 (omega (arith, there, len)) here.2 _ _ _ _ (reaches run records world task here.0 leads here.2)
      | inr past ↦
          let beyond = past.0 in
          idle_has_ended (task_setting run task) (task_of run task) (reverse (records_of task records))
          (none_beyond run task (omega (arith, beyond, all))) (leads.list.tasks task)
    ]
