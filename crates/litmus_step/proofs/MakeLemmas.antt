-- A world after one step more, by what is changed in it.
use Rattle.std.proofs.Common.{Option, ap, inl, inr, ◌∙◌, ◌≡◌, ◌<◌, ◌≤◌, ◌+◌, ◌∷◌, [], ℕ, List, Some, length, vec_capacity, arith}
use Rattle.std.proofs.Common.{get_or, refl, set, slice_get, subst, sym}
use Rattle.executions.specs.execution.Run.{Run, first_words, task_setting}
use Rattle.executions.specs.execution.Execution.{Execution}
use Rattle.setup_access.specs.Parts.{made}
use Rattle.slot_table.specs.Answer.{Answers}
use Rattle.slot_table.specs.StepLine.{step_line}
use Rattle.slot_table.specs.Words.{Words}
use Rattle.slot_table.specs.declared.records.Record.{Record}
use Rattle.slot_table.specs.declared.step.Answer.{Answer}
use Rattle.slot_table.specs.declared.step.Step.{Step}
use Rattle.litmus_step.proofs.TurnLemmas.{same_machine}
use Rattle.access_types.specs.declared.report.Report.{Report}
use Rattle.log_correctness.specs.Noted.{Notes}
use Rattle.litmus_step.specs.Kept.{Added, AreKept, IsNotedIn, accesses_kept, reports_kept, watches_kept}
use Rattle.litmus_step.specs.Leads.{AreAtPoints, LeadsTask, LeadsTasks, LeadsToAll, MakesNextIn}
use Rattle.litmus_step.specs.Runs.{CanBeMade, tasks_of}
use Rattle.task_log.specs.Keeps.{Keeps}
use Rattle.task_log.specs.declared.log.TaskLog.{TaskLog}
use Rattle.litmus_step.specs.Steps.{IsMachine, LeadsTo, tasks_in}
use Rattle.litmus_step.specs.declared.world.World.{World}
use Rattle.task_plan.specs.Counts.{up_to_last}
use Rattle.task_log.specs.declared.noted.Noted.{Noted}
use Rattle.litmus_syntax.specs.Tree.{Block}
use Rattle.setup_access.specs.declared.begun.Begun.{Begun}
use Rattle.setup_access.specs.declared.outcome.Outcome.{Outcome}
use Rattle.task_run.specs.Fell.{FellAt, fell_of}
use Rattle.task_run.specs.Leads.{BeginsNext, Leads, LeadsOn, stands_at}
use Rattle.task_run.specs.Points.{HasMade}
use Rattle.task_run.specs.Says.{Says}
use Rattle.program_order.specs.Standing.{Setting}
use Rattle.std.proofs.lemmas.List.{append-nil, get_or-set_same}
use Rattle.std.proofs.lemmas.Option.{slice_get_cases}
use Rattle.task_run.specs.declared.run.TaskRun.{TaskRun}

-- followed by the record of a step and its answer a list leads on
abbrev pub StepsLead : Type 0
StepsLead = (run : Run) (records : List Record) (words : Words) (machines : List TaskRun) (steps : ℕ) (logs more_logs : List TaskLog)
    (reports more_reports : List Report) (room more_room task : ℕ) (step : Step)
    (answer : Answer) (after : TaskRun) → LeadsToAll run records words machines steps logs reports room
    → (next : MakesNextIn machines task step)
    → Answers step answer → answer ≡ (step_line words step).answer → LeadsOn next.machine after answer
    → ((list : Execution run (made task step answer ∷ records)) → AreKept list more_logs more_reports more_room)
    → ((list : Execution run (made task step answer ∷ records)) → AreAtPoints list (set machines task after))
    → LeadsToAll run (made task step answer ∷ records) (step_line words step).after (set machines task after)
    (up_to_last (steps + 1)) more_logs more_reports more_room

-- what a list leads to goes by its words and its count
leads_alike : (run : Run) (records : List Record) (words others : Words) (machines : List TaskRun) (steps count : ℕ)
    (logs : List TaskLog) (reports : List Report) (room : ℕ)
    → others ≡ words → count ≡ steps → LeadsToAll run records words machines steps logs reports room
    → LeadsToAll run records others machines count logs reports room
leads_alike run records words others machines steps count logs reports room same_words same_steps leads =
    subst (λ (w : Words). LeadsToAll run records w machines count logs reports room) (sym same_words)
    (subst (λ n. LeadsToAll run records words machines n logs reports room) (sym same_steps) leads)

pub world_leads : StepsLead → (world : World) (task : ℕ) (step : Step) (answer : Answer) (here after : TaskRun) (words : Words) (steps : ℕ)
    (logs : List TaskLog) (reports : List Report) (room : ℕ)
    → (next : MakesNextIn world.tasks.items task step) → task < tasks_in world → here ≡ get_or world.tasks.items task here
    → Answers step answer → answer ≡ (step_line world.board step).answer → words ≡ (step_line world.board step).after
    → steps ≡ up_to_last (world.steps + 1) → LeadsOn here after answer
    → (run : Run) (records : List Record) → LeadsTo run records world
    → ((list : Execution run (made task step answer ∷ records)) → AreKept list logs reports room)
    → ((list : Execution run (made task step answer ∷ records)) → AreAtPoints list (set world.tasks.items task after))
    → LeadsToAll run (made task step answer ∷ records) words (set world.tasks.items task after) steps logs reports room
world_leads lead world task step answer here after words steps logs reports room next below is answers as_answered left counted on run
    records leads keeps points =
    let same = same_machine world task here next.machine below is next.stands in
    leads_alike run (made task step answer ∷ records) (step_line world.board step).after words (set world.tasks.items task after)
    (up_to_last (world.steps + 1)) steps logs reports room left counted
    (lead run records world.board world.tasks.items world.steps world.logs.items logs world.reports.items reports
    (vec_capacity world.reports) room
    task step answer after leads next answers as_answered
    (subst (λ (machine : TaskRun). LeadsOn machine after answer) same on) keeps points)

-- the list without a step leads to a world before its first step
pub first_world : (run : Run) (board : Words) (machines : List TaskRun) (logs : List TaskLog) (reports : List Report) (room : ℕ)
    → CanBeMade run → (list : Execution run []) → board ≡ first_words run → LeadsTasks run [] machines → AreKept list logs reports room
    → AreAtPoints list machines → LeadsToAll run [] board machines 0 logs reports room
first_world run board machines logs reports room can list words tasks kept points =
    record { can = can; list = list; leaves = words; tasks = tasks; counts = refl; kept = kept; points = points }

-- before the first step none is the last
pub first_points : ((run : Run) (list : Execution run []) → (task : ℕ) → Notes list task []) → (run : Run) (list : Execution run [])
    (machines : List TaskRun) → ((task : ℕ) (machine : TaskRun) → slice_get machines task ≡ Some machine → HasMade [] machine)
    → AreAtPoints list machines
first_points none run list machines each = λ task machine stands.
    record { noted = []; notes = none run list task; made = each task machine stands }

-- before the first step nothing is kept
pub first_kept : ((run : Run) (list : Execution run []) → (task : ℕ) → Notes list task []) → (run : Run) (list : Execution run [])
    (logs : List TaskLog) (reports : List Report) (room : ℕ) → length logs ≡ tasks_of run
    → ((task : ℕ) (log : TaskLog) → slice_get logs task ≡ Some log → Keeps (accesses_kept run task) (watches_kept run task) [] log)
    → reports ≡ [] → reports_kept run ≤ room → AreKept list logs reports room
first_kept none run list logs reports room all each empty space = record {
  logs_are = record {
    all = all;
    each = λ task log stands. record { noted = []; notes = none run list task; keeps = each task log stands };
  };
  reports_are = record { later = []; reported = append-nil reports ∙ empty; full = inl refl; space = space };
}

-- where a task's log notes the step that its machine makes, what is kept is what the list says still
abbrev pub StepsKeep : Type 0
StepsKeep = (run : Run) (records : List Record) (task : ℕ) (old : TaskRun) (step : Step) (answer : Answer) (begins : Option Begun)
    (fell : Option Outcome) (logs : List TaskLog) (reports more_reports : List Report) (room : ℕ) (log after : TaskLog)
    (report : Option Report)
    → (one : Execution run records) → (other : Execution run (made task step answer ∷ records))
    → (leads : LeadsTask run task records old) → Says old step
    → ((later : List Record) → BeginsNext (task_setting run task) leads.part (stands_at leads later) leads.mine begins)
    → FellAt old fell answer
    → AreKept one logs reports room → slice_get logs task ≡ Some log → task < length logs
    → IsNotedIn log (record { step = step; answer = answer; begins = begins; outcome = fell }) after report
    → Added report room reports more_reports
    → AreKept other (set logs task after) more_reports room

-- this access begins with the next step, by whatever records lead to the machine
abbrev pub SaysBegin : TaskRun → Option Begun → Type 0
SaysBegin machine begins = (s : Setting) (registers : ℕ) (body : Block) (records : List Record)
    → (leads : Leads s registers body records machine)
    → (later : List Record) → BeginsNext s leads.part (stands_at leads later) leads.mine begins

-- the task's log notes this, and the reports grow by what is reported
abbrev pub NotesStep : World → ℕ → Noted → List TaskLog → List Report → Type 0
NotesStep world task noted logs reports = (log : TaskLog) → slice_get world.logs.items task ≡ Some log
    → (after : TaskLog) × (report : Option Report) × IsNotedIn log noted after report × (logs ≡ set world.logs.items task after)
    × Added report (vec_capacity world.reports) world.reports.items reports

pub noted_more : StepsKeep
    → (world : World) (task : ℕ) (step : Step) (answer : Answer) (old : TaskRun) (begins : Option Begun) (fell : Option Outcome)
    (logs : List TaskLog) (reports : List Report) (room : ℕ)
    → task < tasks_in world → IsMachine world task old → Says old step → SaysBegin old begins → FellAt old fell answer
    → NotesStep world task (record { step = step; answer = answer; begins = begins; outcome = fell }) logs reports
    → room ≡ vec_capacity world.reports
    → (run : Run) (records : List Record) → LeadsTo run records world → (list : Execution run (made task step answer ∷ records))
    → AreKept list logs reports room
noted_more keep world task step answer old begins fell logs reports room below stands says begun fallen notes same_room run records leads
    list =
    let logs_all = leads.kept.logs_are.all in
    let tasks_all = leads.tasks.all in
    let tasks_len = world.tasks.ok.0 in
    let there : task < length world.logs.items = omega (arith, below, logs_all, tasks_all, tasks_len) in
    elim (slice_get_cases world.logs.items task).1 [
      | inl here ↦
          let did = notes here.0 here.2 in
          let led = leads.tasks.each task old stands in
          subst (λ (all : List TaskLog). AreKept list all reports room) (sym did.3)
          (subst (λ n. AreKept list (set world.logs.items task did.0) reports n) (sym same_room)
          (keep run records task old step answer begins fell world.logs.items world.reports.items reports (vec_capacity world.reports)
          here.0 did.0 did.1 leads.list list led says (begun _ _ _ _ led) fallen leads.kept here.2 there did.2 did.4))
      | inr past ↦ absurd (omega (arith, there, past.0))
    ]

-- what fell is what the machine after the answer says
pub fell_in : (machines : List TaskRun) (task : ℕ) (old read after latest : TaskRun) (outcome : Option Outcome) (answer : Answer)
    → task < length machines → read ≡ old → latest ≡ get_or (set machines task after) task latest → outcome ≡ fell_of latest
    → FellAt read (fell_of after) answer → FellAt old outcome answer
fell_in machines task old read after latest outcome answer there same is says fell =
    let newest : latest ≡ after = is ∙ get_or-set_same machines task after latest there in
    subst (λ (machine : TaskRun). FellAt machine outcome answer) same
    (subst (λ (o : Option Outcome). FellAt read o answer) (sym (says ∙ ap fell_of newest)) fell)
