-- What the last step of a task was and what its next is, by the list.
use Rattle.std.proofs.Common.{◌≡◌, ◌∙◌, ◌++◌, ◌<◌, ◌∷◌, [], ℕ, Bool, List, Option, None, Some, ap, append_assoc, is_some, length, refl, reverse}
use Rattle.std.proofs.Common.{set, slice_get, subst, sym}
use Rattle.std.proofs.lemmas.Option.{slice_get_within}
use Rattle.access_types.specs.declared.history.Happening.{Happening}
use Rattle.litmus_syntax.specs.Tree.{Block}
use Rattle.access_run.specs.memory_operation.Leads.{GoesOn}
use Rattle.executions.specs.execution.Run.{Run, task_of, task_setting}
use Rattle.executions.specs.execution.Execution.{Execution}
use Rattle.executions.specs.execution.Observed.{made_by}
use Rattle.log_correctness.specs.Noted.{AreNoted, IsBegun, IsNoted}
use Rattle.setup_access.specs.Parts.{made}
use Rattle.setup_access.specs.declared.begun.Begun.{Begun}
use Rattle.setup_access.specs.declared.outcome.Outcome.{Outcome}
use Rattle.slot_table.specs.Records.{records_of}
use Rattle.slot_table.specs.declared.records.Record.{Record}
use Rattle.slot_table.specs.declared.step.Answer.{Answer}
use Rattle.slot_table.specs.declared.step.Step.{Step}
use Rattle.litmus_step.proofs.KeptLemmas.{OneMoreIsNoted, OthersAreNoted}
use Rattle.litmus_step.proofs.MakeLemmas.{SaysBegin}
use Rattle.litmus_step.proofs.StepLemmas.{by_task, own_reversed, same_some, set_here, set_other}
use Rattle.litmus_step.specs.Leads.{AreAtPoints, IsAtPoint, LeadsTask, steps_noted}
use Rattle.litmus_step.specs.Readers.{IsNext, some_access, some_begins, steps_by, steps_told}
use Rattle.litmus_step.specs.Steps.{IsMachine, LeadsTo}
use Rattle.litmus_step.specs.declared.world.World.{World}
use Rattle.task_log.specs.declared.noted.Noted.{Noted}
use Rattle.task_run.proofs.TellLemmas.{making_begins, opening_begins}
use Rattle.task_run.specs.Agrees.{IsIn}
use Rattle.task_run.specs.Fell.{FellAt}
use Rattle.task_run.specs.Leads.{BeginsNext, Leads, stands_at}
use Rattle.task_run.specs.Part.{Part, closes, locks, makes, opens, over, stops, unlocks}
use Rattle.task_run.specs.Points.{HasMade, Stepped, next_is}
use Rattle.task_run.specs.Says.{Says}
use Rattle.task_run.specs.declared.machine.Machine.{Machine}
use Rattle.task_plan.specs.declared.task_points.points.Before.{Before}
use Rattle.task_run.specs.declared.run.TaskRun.{TaskRun}
use Rattle.task_run.specs.declared.stage.TaskStage.{TaskStage}
use Rattle.program_order.specs.Standing.{Setting, Standing}
use Rattle.program_order.specs.TaskObserved.{did_by, did_next}
use Rattle.program_order.specs.Waits.{OnlyStep}
use Rattle.program_order.specs.WrittenOrder.{SpellsAll, WrittenOrder}

-- an access begins where one is noted
pub begun_so : (plain_writes_atomic : Bool) (task : ℕ) (before next : List Happening) (begins : Option Begun)
    → IsBegun plain_writes_atomic task before next begins → some_begins next ≡ is_some begins
begun_so plain_writes_atomic task before next None is = ap some_access is
begun_so plain_writes_atomic task before next (Some begun) is = ap some_access is.0

-- the steps that are noted of records are those that they tell
pub noted_so : (s : Setting) (registers : ℕ) (body : Block) (records : List Record) (written : WrittenOrder s registers body records)
    (own : List Record) (noted : List Noted) → AreNoted written own noted → steps_noted noted ≡ steps_by written own
noted_so s registers body records written [] [] are = refl
noted_so s registers body records written [] (one ∷ before) are = absurd are
noted_so s registers body records written (latest ∷ earlier) [] are = absurd are
noted_so s registers body records written (latest ∷ earlier) (one ∷ before) are =
    let begins = begun_so s.rules.plain_writes_atomic s.text.task (did_by written (length earlier)) (did_next written (length earlier)) one.begins
    are.1.begins in
    ap (λ (step : Step). record { step = step; begins = is_some one.begins } ∷ steps_noted before) are.1.step
    ∙ (ap (λ (b : Bool). record { step = latest.step; begins = b } ∷ steps_noted before) (sym begins)
    ∙ ap (λ (rest : List Stepped). record { step = latest.step; begins = some_begins (did_next written (length earlier)) } ∷ rest)
    (noted_so s registers body records written earlier before are.0))

-- what is kept of the last steps is kept of one step more
abbrev pub PointsOn : TaskRun → TaskRun → Step → Type 0
PointsOn old after step = (s : Setting) (registers : ℕ) (body : Block) (records : List Record)
    → (leads : Leads s registers body records old)
    → (begins : Option Begun) (steps : List Stepped)
    → BeginsNext s leads.part (stands_at leads []) leads.mine begins → HasMade steps old
    → HasMade (record { step = step; begins = is_some begins } ∷ steps) after

-- so it is of each task after one step more
pub points_more : OneMoreIsNoted → OthersAreNoted → (run : Run) (latest : Record) (earlier : List Record)
    (one : Execution run earlier) (other : Execution run (latest ∷ earlier)) (machines : List TaskRun) (old after : TaskRun) (noted : Noted)
    → AreAtPoints one machines → slice_get machines latest.task ≡ Some old → latest.task < length machines
    → IsNoted (other.tasks latest.task) (made_by latest.task earlier) latest noted
    → ((steps : List Stepped) → HasMade steps old
    → HasMade (record { step = noted.step; begins = is_some noted.begins } ∷ steps) after)
    → AreAtPoints other (set machines latest.task after)
points_more one_more others_noted run latest earlier one other machines old after noted points stands there is_noted on =
    by_task (λ t. (m : TaskRun) → slice_get (set machines latest.task after) t ≡ Some m → IsAtPoint other t m) latest.task
    (λ m is.
    let so_far = points latest.task old stands in
    subst (IsAtPoint other latest.task) (same_some after m (sym (set_here machines latest.task after there) ∙ is)) (record {
      noted = noted ∷ so_far.noted;
      notes = one_more run latest earlier so_far.noted noted one other so_far.notes is_noted;
      made = on (steps_noted so_far.noted) so_far.made;
    }))
    (λ t apart m is.
    let still = points t m (sym (set_other machines latest.task t after apart) ∙ is) in
    record {
      noted = still.noted;
      notes = others_noted run latest earlier t still.noted one other apart still.notes;
      made = still.made;
    })

-- what the law on steps says of points
abbrev pub StepsPoint : Type 0
StepsPoint = (run : Run) (records : List Record) (task : ℕ) (old after : TaskRun) (step : Step) (answer : Answer) (begins : Option Begun)
    (fell : Option Outcome) (machines : List TaskRun)
    → (one : Execution run records) → (other : Execution run (made task step answer ∷ records))
    → (leads : LeadsTask run task records old) → Says old step
    → ((later : List Record) → BeginsNext (task_setting run task) leads.part (stands_at leads later) leads.mine begins)
    → FellAt old fell answer
    → AreAtPoints one machines → slice_get machines task ≡ Some old → task < length machines
    → ((steps : List Stepped) → HasMade steps old → HasMade (record { step = step; begins = is_some begins } ∷ steps) after)
    → AreAtPoints other (set machines task after)

-- in a world after one step more
pub world_points : StepsPoint → (world : World) (task : ℕ) (step : Step) (answer : Answer) (old read after : TaskRun)
    (begins : Option Begun) (fell : Option Outcome)
    → IsMachine world task old → read ≡ old → Says old step → SaysBegin old begins → FellAt old fell answer
    → PointsOn read after step
    → (run : Run) (records : List Record) → LeadsTo run records world → (list : Execution run (made task step answer ∷ records))
    → AreAtPoints list (set world.tasks.items task after)
world_points point world task step answer old read after begins fell stands same says begun fallen on run records leads list =
    let led = leads.tasks.each task old stands in
    let there = slice_get_within world.tasks.items task old stands in
    let on_old = subst (λ (machine : TaskRun). PointsOn machine after step) same on in
    point run records task old after step answer begins fell world.tasks.items leads.list list led says (begun _ _ _ _ led) fallen
    leads.points stands there
    (λ steps has. on_old _ _ _ _ led begins steps (begun _ _ _ _ led []) has)

-- the access that begins with the next step of a part, if one does
pub begins_of : Part → Machine → Option Begun
begins_of (makes a operation follow) machine = machine.begins
begins_of (opens a) machine = machine.begins
begins_of over machine = None
begins_of (stops due) machine = None
begins_of closes machine = None
begins_of (locks variable) machine = None
begins_of (unlocks variable) machine = None

pub begins_in_part : (s : Setting) (before : Standing) (mine : List Record) (machine : Machine) (stage : TaskStage) (part : Part)
    → IsIn s part before mine machine stage → BeginsNext s part before mine (begins_of part machine)
unfolding begins_of
begins_in_part s before mine machine stage (makes a operation follow) h =
    making_begins s before a operation follow h.2 mine machine.begins h.6 h.9
begins_in_part s before mine machine stage (opens a) h = opening_begins s before a h.0 mine machine.begins h.2 h.6
begins_in_part s before mine machine stage over h = refl
begins_in_part s before mine machine stage (stops due) h = refl
begins_in_part s before mine machine stage closes h = refl
begins_in_part s before mine machine stage (locks variable) h = refl
begins_in_part s before mine machine stage (unlocks variable) h = refl

-- the step that a list goes on with is the only one that its records go on with
pub only_so : (run : Run) (records : List Record) (task : ℕ) (said step : Step) (answer : Answer)
    → OnlyStep (task_setting run task) (length (task_of run task).registers) (task_of run task).body (reverse (records_of task records)) said
    → Execution run (made task step answer ∷ records) → step ≡ said
only_so run records task said step answer only other =
    let s = task_setting run task in
    let registers = length (task_of run task).registers in
    let body = (task_of run task).body in
    let latest = made task step answer in
    let own = reverse (records_of task records) in
    let written = other.tasks task in
    let whole : SpellsAll s registers body ((own ++ latest ∷ []) ++ written.more) =
    subst (λ (r : List Record). SpellsAll s registers body (r ++ written.more)) (own_reversed task latest records refl) written.whole in
    let goes : GoesOn task said (latest ∷ written.more) =
    only (latest ∷ written.more) (subst (SpellsAll s registers body) (append_assoc own (latest ∷ []) written.more) whole) in
    goes.1

-- with a step begins what the task's machine says before it
abbrev pub BeginsAreTold : Type 0
BeginsAreTold = (run : Run) (latest : Record) (earlier : List Record) (old : TaskRun) (begins : Option Begun)
    → (list : Execution run (latest ∷ earlier)) → (leads : LeadsTask run latest.task earlier old) → Says old latest.step
    → ((later : List Record) → BeginsNext (task_setting run latest.task) leads.part (stands_at leads later) leads.mine begins)
    → IsBegun run.rules.plain_writes_atomic latest.task (did_by (list.tasks latest.task) (made_by latest.task earlier))
    (did_next (list.tasks latest.task) (made_by latest.task earlier)) begins

-- what is told of a machine's next step, which is this one
abbrev pub TellsBefore : TaskRun → Step → Before → Type 0
TellsBefore machine step before = (s : Setting) (registers : ℕ) (body : Block) (records : List Record)
    → (leads : Leads s registers body records machine)
    → (begins : Option Begun) (steps : List Stepped)
    → BeginsNext s leads.part (stands_at leads []) leads.mine begins → HasMade steps machine
    → before ≡ next_is steps step (is_some begins)

-- that is told of the task's next step by the list
pub next_told : BeginsAreTold → (run : Run) (records : List Record) (list : Execution run records) (task : ℕ) (machine : TaskRun)
    (said : Step) (before : Before) → (leads : LeadsTask run task records machine) → Says machine said
    → OnlyStep (task_setting run task) (length (task_of run task).registers) (task_of run task).body (reverse (records_of task records)) said
    → IsAtPoint list task machine → TellsBefore machine said before → IsNext list task before
next_told told run records list task machine said before leads says only at tells = λ step answer other.
    let same : step ≡ said = only_so run records task said step answer only other in
    let begins = begins_of leads.part machine.machine in
    let begun : (later : List Record) → BeginsNext (task_setting run task) leads.part (stands_at leads later) leads.mine begins =
    λ later. begins_in_part (task_setting run task) (leads.now (leads.mine ++ later)) leads.mine machine.machine machine.stage leads.part
    (leads.agrees (leads.mine ++ later)).is_in in
    let one = begun_so run.rules.plain_writes_atomic task (did_by (other.tasks task) (made_by task records))
    (did_next (other.tasks task) (made_by task records)) begins
    (told run (made task step answer) records machine begins other leads (subst (λ (x : Step). Says machine x) (sym same) says) begun) in
    let steps : steps_noted at.noted ≡ steps_told list task =
    noted_so (task_setting run task) (length (task_of run task).registers) (task_of run task).body (reverse (records_of task records))
    (list.tasks task) (records_of task records) at.noted at.notes in
    tells _ _ _ _ leads begins (steps_noted at.noted) (begun []) at.made
    ∙ (ap (λ (made_so : List Stepped). next_is made_so said (is_some begins)) steps
    ∙ (ap (λ (x : Step). next_is (steps_told list task) x (is_some begins)) (sym same)
    ∙ ap (λ (b : Bool). next_is (steps_told list task) step b) (sym one)))
