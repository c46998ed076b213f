-- A task at its seat: one step more, and what is found of it once it makes none.
use Rattle.std.proofs.Common.{◌≡◌, ◌<◌, ◌≤◌, ◌+◌, ◌*◌, ◌^◌, ◌++◌, ◌∙◌, ◌∷◌, [], ℕ, suc, List, Option, ap, arith, inl, inr, length, reverse, subst, sym}
use Rattle.std.proofs.lemmas.List.{append-nil, length-append, reverse-reverse}
use Rattle.access_types.specs.declared.report.Report.{Report}
use Rattle.litmus_step.specs.Kept.{Added, IsNotedIn, watches_kept}
use Rattle.litmus_step.specs.Leads.{MakesNext}
use Rattle.litmus_step.specs.Runs.{CanBeMade, tasks_of}
use Rattle.litmus_step.specs.Steps.{Reaches}
use Rattle.litmus_syntax.specs.Limits.{BlockScopes, BodyKeepsLimits, TaskKeepsLimits, block_repeats, block_rises}
use Rattle.litmus_syntax.specs.Tree.{Block}
use Rattle.executions.specs.execution.Run.{Run, first_words, idle, task_of, task_setting}
use Rattle.log_correctness.specs.Noted.{AreNoted}
use Rattle.runner.specs.TaskResult.{IsFound}
use Rattle.litmus_step.specs.Kept.{AreFirst}
use Rattle.runner.specs.Led.{IsLed}
use Rattle.runner.specs.Machine.{SaysBegin}
use Rattle.runner.specs.Terms.{AreTerms, run_by}
use Rattle.runner.specs.declared.seated.TaskResult.{TaskResult}
use Rattle.runner.specs.declared.terms.Terms.{Terms}
use Rattle.setup_access.specs.Parts.{made}
use Rattle.setup_access.specs.declared.begun.Begun.{Begun}
use Rattle.setup_access.specs.declared.outcome.Outcome.{Outcome}
use Rattle.shared_table.specs.Given as given
use Rattle.shared_table.specs.Seats.{MayMake, Opened, Sitting, seat_after}
use Rattle.slot_table.specs.Answer.{Answers}
use Rattle.slot_table.specs.Discipline.{Allows}
use Rattle.slot_table.specs.StepLine.{Names}
use Rattle.slot_table.specs.Words.{Words}
use Rattle.slot_table.specs.declared.records.Record.{Record}
use Rattle.slot_table.specs.declared.step.Answer.{Answer}
use Rattle.slot_table.specs.declared.step.Step.{Step}
use Rattle.task_log.specs.Reports.{reported_in}
use Rattle.task_log.specs.declared.log.TaskLog.{TaskLog}
use Rattle.task_log.specs.declared.noted.Noted.{Noted}
use Rattle.task_plan.specs.Counts.{up_to_last}
use Rattle.task_run.specs.Fell.{FellAt, fell_of}
use Rattle.task_run.specs.Leads.{Leads, LeadsOn, stands_at}
use Rattle.task_run.specs.Says.{IsStopped}
use Rattle.task_run.specs.declared.run.TaskRun.{TaskRun}
use Rattle.program_order.specs.Standing.{Setting}
use Rattle.program_order.specs.WrittenOrder.{SpellsAll, WrittenOrder, stands_after}

-- what the laws on tasks at their seats say
abbrev pub NamesWord : Type 0
NamesWord = (run : Run) (task : ℕ) (own : List Record) (machine : TaskRun) (log : TaskLog) (reports : List Report) (room : ℕ) (step : Step)
    → CanBeMade run → task < tasks_of run → IsLed run task own machine log reports room → MakesNext machine step → Names (first_words run) step

abbrev pub IsAllowed : Type 0
IsAllowed = (run : Run) (task : ℕ) (own : List Record) (machine : TaskRun) (log : TaskLog) (reports : List Report) (room : ℕ) (step : Step)
    → CanBeMade run → task < tasks_of run → IsLed run task own machine log reports room → MakesNext machine step → Allows task own step

abbrev pub SeatsLeadOn : Type 0
SeatsLeadOn = (run : Run) (task : ℕ) (own : List Record) (old after : TaskRun) (log more_log : TaskLog) (reports more_reports : List Report)
    (room : ℕ) (step : Step) (answer : Answer) (begins : Option Begun) (fell : Option Outcome) (report : Option Report)
    → CanBeMade run → task < tasks_of run → IsLed run task own old log reports room → MakesNext old step
    → Answers step answer → LeadsOn old after answer → SaysBegin old begins → FellAt old fell answer
    → IsNotedIn log (record { step = step; answer = answer; begins = begins; outcome = fell }) more_log report
    → Added report room reports more_reports
    → IsLed run task (made task step answer ∷ own) after more_log more_reports room

abbrev pub NoTaskStops : Type 0
NoTaskStops = (s : Setting) (registers : ℕ) (body : Block) (records : List Record) (machine : TaskRun) → Leads s registers body records machine
    → WrittenOrder s registers body records → BlockScopes 0 body → block_rises body ≤ 2 ^ 32 → ¬ IsStopped machine

abbrev pub FewAreReported : Type 0
FewAreReported = (s : Setting) (registers : ℕ) (body : Block) (records : List Record) (noted : List Noted) → BodyKeepsLimits body
    → (written : WrittenOrder s registers body records) → AreNoted written (reverse records) noted
    → length (reported_in noted) ≤ 9 * block_repeats 1 body

abbrev pub RegistersAreTold : Type 0
RegistersAreTold = (s : Setting) (registers : ℕ) (body : Block) (records : List Record) (machine : TaskRun)
    → (leads : Leads s registers body records machine) → (written : WrittenOrder s registers body records) → ¬ IsStopped machine
    → (stands_at leads written.more).progress.registers ≡ (stands_after written).progress.registers

abbrev pub CallsAreTold : Type 0
CallsAreTold = (s : Setting) (registers : ℕ) (body : Block) (records : List Record) (machine : TaskRun)
    → (leads : Leads s registers body records machine) → (written : WrittenOrder s registers body records) → ¬ IsStopped machine
    → (stands_at leads written.more).unbalanced ≡ (stands_after written).unbalanced

-- these are the registers of a machine, and its calls with nothing to end
abbrev pub HasRegisters : TaskRun → List ℕ → Type 0
HasRegisters machine values = (s : Setting) (registers : ℕ) (body : Block) (records : List Record)
    → (leads : Leads s registers body records machine) → (later : List Record) → values ≡ (stands_at leads later).progress.registers

abbrev pub HasCalls : TaskRun → ℕ → Type 0
HasCalls machine calls = (s : Setting) (registers : ℕ) (body : Block) (records : List Record)
    → (leads : Leads s registers body records machine) → (later : List Record) → calls ≡ up_to_last (stands_at leads later).unbalanced

-- a step was noted in the log, and what is reported at it was added to the reports
abbrev pub NotesStep : TaskLog → List Report → ℕ → Noted → TaskLog → List Report → Type 0
NotesStep log reports room noted more_log more_reports =
    (report : Option Report) × IsNotedIn log noted more_log report × Added report room reports more_reports

-- the discipline allows the step that a task makes next, and it names a word
pub may_make : NamesWord → IsAllowed → (terms : Terms) (task : ℕ) (seat : Sitting) (machine : TaskRun) (log : TaskLog) (reports : List Report)
    (room : ℕ) (step : Step) → AreTerms terms → task < tasks_of (run_by terms) → seat.table ≡ terms.table.now → seat.task ≡ task
    → IsLed (run_by terms) task seat.records machine log reports room → MakesNext machine step → MayMake seat step
may_make names allows terms task seat machine log reports room step are below at own led next = record {
  names = subst (λ (w : Words). Names w step) (sym (ap (λ (t : Opened). given.first_words t.given) at ∙ are.words))
      (names (run_by terms) task seat.records machine log reports room step are.can below led next);
  allowed = subst (λ (t : ℕ). Allows t seat.records step) (sym own)
      (allows (run_by terms) task seat.records machine log reports room step are.can below led next);
}

-- whoever sits there sits there still
pub table_stays : (seat more_seat : Sitting) (step : Step) (answer : Answer) (table : Opened) → more_seat ≡ seat_after seat step answer
    → seat.table ≡ table → more_seat.table ≡ table
table_stays seat more_seat step answer table seated is = ap (λ (s : Sitting). s.table) seated ∙ is

pub task_stays : (seat more_seat : Sitting) (step : Step) (answer : Answer) (task : ℕ) → more_seat ≡ seat_after seat step answer
    → seat.task ≡ task → more_seat.task ≡ task
task_stays seat more_seat step answer task seated is = ap (λ (s : Sitting). s.task) seated ∙ is

-- the step made, the records of the seat lead on
pub seat_leads_on : SeatsLeadOn → (run : Run) (task : ℕ) (seat more_seat : Sitting) (old after : TaskRun) (log more_log : TaskLog)
    (reports more_reports : List Report) (room more_room : ℕ) (step : Step) (answer : Answer) (begins : Option Begun) (fell : Option Outcome)
    → CanBeMade run → task < tasks_of run → seat.task ≡ task → IsLed run task seat.records old log reports room → MakesNext old step
    → Answers step answer → more_seat ≡ seat_after seat step answer → LeadsOn old after answer → SaysBegin old begins
    → FellAt old (fell_of after) answer → fell ≡ fell_of after
    → NotesStep log reports room (record { step = step; answer = answer; begins = begins; outcome = fell }) more_log more_reports
    → more_room ≡ room → IsLed run task more_seat.records after more_log more_reports more_room
seat_leads_on lead run task seat more_seat old after log more_log reports more_reports room more_room step answer begins fell can below own
    led next answers seated on begun fallen same_fell notes same_room =
    let is : more_seat.records ≡ made task step answer ∷ seat.records =
    ap (λ (s : Sitting). s.records) seated ∙ ap (λ (t : ℕ). made t step answer ∷ seat.records) own in
    subst (λ (r : List Record). IsLed run task r after more_log more_reports more_room) (sym is)
    (subst (λ (n : ℕ). IsLed run task (made task step answer ∷ seat.records) after more_log more_reports n) (sym same_room)
    (lead run task seat.records old after log more_log reports more_reports room step answer begins fell notes.0 can below led next
    answers on begun (subst (λ (o : Option Outcome). FellAt old o answer) (sym same_fell) fallen) notes.1 notes.2))

-- the records at the seat of a task reach its machine
pub seat_reaches : (run : Run) (task : ℕ) (own : List Record) (machine : TaskRun) (log : TaskLog) (reports : List Report) (room : ℕ)
    → CanBeMade run → task < tasks_of run → IsLed run task own machine log reports room
    → Reaches (task_setting run task) (length (task_of run task).registers) (task_of run task).body (reverse own) machine
seat_reaches run task own machine log reports room can below led =
    let limits : TaskKeepsLimits run.program.variables (task_of run task) = can.limits.each_task task idle below in
    record { leads = led.leads; written = led.written; scopes = limits.body.scopes; rises = limits.rises }

-- reports that are no more than there is room for are all kept
none_left_out : (reports later all : List Report) (room : ℕ) → reports ++ later ≡ all → room ≤ length reports → length all ≤ room → reports ≡ all
none_left_out reports [] all room is over few = sym (append-nil reports) ∙ is
none_left_out reports (one ∷ later) all room is over few =
    let long : length all ≡ length reports + suc (length later) = sym (ap length is) ∙ length-append reports (one ∷ later) in
    absurd (omega (arith, long, over, few))

all_kept : (reports all : List Report) (room : ℕ) → AreFirst reports room all → length all ≤ room → reports ≡ all
all_kept reports all room first few =
    elim first.full [
      | inl none ↦ sym (append-nil reports) ∙ (ap (λ (rs : List Report). reports ++ rs) (sym none) ∙ first.reported)
      | inr over ↦ none_left_out reports first.later all room first.reported over few
    ]

-- what is found of a task that has made the steps of its whole text
pub is_found : NoTaskStops → FewAreReported → RegistersAreTold → CallsAreTold
    → (run : Run) (opened : Opened) (task : ℕ) (found : TaskResult) (machine : TaskRun) (room : ℕ) → CanBeMade run → task < tasks_of run
    → found.seat.table ≡ opened → found.seat.task ≡ task → IsLed run task found.seat.records machine found.log found.reports.items room
    → watches_kept run task ≤ room
    → SpellsAll (task_setting run task) (length (task_of run task).registers) (task_of run task).body (reverse found.seat.records)
    → HasRegisters machine found.registers.items → HasCalls machine found.unbalanced → IsFound run opened task found
is_found stops few registers_told calls_told run opened task found machine room can below at own led space whole registers calls =
    let limits : TaskKeepsLimits run.program.variables (task_of run task) = can.limits.each_task task idle below in
    let goes : ¬ IsStopped machine = stops _ _ _ _ machine led.leads led.written limits.body.scopes limits.rises in
    let count = few (task_setting run task) (length (task_of run task).registers) (task_of run task).body (reverse found.seat.records) led.noted
    limits.body led.written
    (subst (λ (r : List Record). AreNoted led.written r led.noted) (sym (reverse-reverse found.seat.records)) led.notes) in
    let fits : length (reported_in led.noted) ≤ room = omega (arith, count, space) in
    record {
      table = at;
      own = own;
      written = led.written;
      within = led.within;
      whole = whole;
      noted = led.noted;
      notes = led.notes;
      keeps = led.keeps;
      reported = all_kept found.reports.items (reported_in led.noted) room led.reported fits;
      registers = registers _ _ _ _ led.leads led.written.more ∙ registers_told _ _ _ _ machine led.leads led.written goes;
      unbalanced = calls _ _ _ _ led.leads led.written.more ∙ ap up_to_last (calls_told _ _ _ _ machine led.leads led.written goes);
    }
