-- One step more of a task at its seat.
use Rattle.std.proofs.Common.{◌≡◌, ◌<◌, ◌≤◌, ◌++◌, ◌∙◌, ◌∷◌, [], ℕ, List, Option, ap, arith, length, reverse, subst, sym}
use Rattle.std.proofs.lemmas.List.{reverse-reverse}
use Rattle.std.specs.Option.{option_to_list}
use Rattle.access_types.specs.declared.report.Report.{Report}
use Rattle.context_bound.proofs.completeness.Words.{last_of_all}
use Rattle.litmus_step.proofs.NameLemmas.{some_answer}
use Rattle.litmus_step.proofs.StepLemmas.{AnAnswerLeadsOn, StepsNameWords, reversed}
use Rattle.litmus_step.specs.Kept.{Added, IsNotedIn, accesses_kept, watches_kept}
use Rattle.litmus_step.proofs.KeptLemmas.{more_reports}
use Rattle.litmus_step.specs.Leads.{MakesNext}
use Rattle.litmus_step.specs.Runs.{CanBeMade, tasks_of}
use Rattle.litmus_syntax.specs.Tree.{Block}
use Rattle.executions.specs.execution.Run.{Run, first_words, idle, task_of, task_setting}
use Rattle.executions.specs.execution.Execution.{InWrittenOrder}
use Rattle.log_correctness.proofs.MachineMatchesRecords.{says_what_is_noted}
use Rattle.log_correctness.specs.Noted.{AreNoted, IsNoted}
use Rattle.soundness.proofs.DoneWith.{does_last}
use Rattle.runner.specs.Led.{IsLed}
use Rattle.runner.specs.Machine.{SaysBegin}
use Rattle.setup_access.specs.Parts.{made}
use Rattle.setup_access.specs.declared.begun.Begun.{Begun}
use Rattle.setup_access.specs.declared.outcome.Outcome.{Outcome}
use Rattle.slot_table.specs.Answer.{Answers}
use Rattle.slot_table.specs.Discipline.{Allows, Discipline}
use Rattle.slot_table.specs.StepLine.{Names}
use Rattle.slot_table.specs.declared.records.Record.{Record}
use Rattle.slot_table.specs.declared.step.Answer.{Answer}
use Rattle.slot_table.specs.declared.step.Step.{Step}
use Rattle.task_log.specs.Reports.{reported_in}
use Rattle.task_log.specs.declared.log.TaskLog.{TaskLog}
use Rattle.task_log.specs.declared.noted.Noted.{Noted}
use Rattle.task_run.specs.Fell.{FellAt}
use Rattle.task_run.specs.Leads.{Leads, LeadsOn}
use Rattle.task_run.specs.declared.run.TaskRun.{TaskRun}
use Rattle.program_order.specs.Standing.{Setting}
use Rattle.program_order.specs.Waits.{WithinTurns}
use Rattle.program_order.specs.WrittenOrder.{WrittenOrder}

abbrev pub KeepsDiscipline : Type 0
KeepsDiscipline = (s : Setting) (registers : ℕ) (body : Block) (records : List Record)
    → WrittenOrder s registers body records → Discipline s.text.task (reverse records)

abbrev pub OneMoreIsNoted : Type 0
OneMoreIsNoted = (s : Setting) (registers : ℕ) (body : Block) (records : List Record) (latest : Record) (before : List Noted) (noted : Noted)
    → (one : WrittenOrder s registers body records) → (other : WrittenOrder s registers body (records ++ latest ∷ []))
    → AreNoted one (reverse records) before → IsNoted other (length records) latest noted
    → AreNoted other (reverse (records ++ latest ∷ [])) (noted ∷ before)

-- the same of records that stand the other way round
noted_so : (s : Setting) (registers : ℕ) (body : Block) (records all own : List Record) (noted : List Noted) → all ≡ records
    → reverse records ≡ own → (written : WrittenOrder s registers body all)
    → ((w : WrittenOrder s registers body records) → AreNoted w (reverse records) noted) → AreNoted written own noted
noted_so s registers body records all own noted is turned =
    subst (λ (r : List Record). (written : WrittenOrder s registers body r)
    → ((w : WrittenOrder s registers body records) → AreNoted w (reverse records) noted) → AreNoted written own noted) (sym is)
    (λ written each. subst (λ (r : List Record). AreNoted written r noted) turned (each written))

module _ (leads_on : AnAnswerLeadsOn) (names : StepsNameWords) (keeps : KeepsDiscipline) (one_more : OneMoreIsNoted)
    (run : Run) (task : ℕ) (own : List Record) (machine : TaskRun) (log : TaskLog) (reports : List Report) (room : ℕ) (step : Step)
    (can : CanBeMade run) (below : task < tasks_of run) (led : IsLed run task own machine log reports room) (next : MakesNext machine step) where
  abbrev s : Setting
  s = task_setting run task

  abbrev registers : ℕ
  registers = length (task_of run task).registers

  abbrev body : Block
  body = (task_of run task).body

  written : (answer : Answer) → Answers step answer → WrittenOrder s registers body (reverse own ++ made task step answer ∷ [])
  written answer answers =
      leads_on s (task_of run task) (reverse own) step answer (can.placed task below) (can.limits.each_task task idle below) answers led.written
      (next.only s registers body (reverse own) led.leads)

  pub names_word : Names (first_words run) step
  names_word =
      let some = some_answer step in
      let slots : 3 ≤ run.rules.slots = can.slots in
      let all = names run task (reverse own ++ made task step some.0 ∷ []) (omega arith) (written some.0 some.1) in
      last_of_all (λ (r : Record). Names (first_words run) r.step) (reverse own) (made task step some.0) all

  pub is_allowed : Allows task own step
  is_allowed =
      let some = some_answer step in
      let latest : Record = made task step some.0 in
      let turned : reverse (reverse own ++ latest ∷ []) ≡ latest ∷ own =
      ap reverse (sym (reversed latest own)) ∙ reverse-reverse (latest ∷ own) in
      let all : Discipline task (latest ∷ own) = subst (Discipline task) turned (keeps s registers body (reverse own ++ latest ∷ []) (written some.0 some.1)) in
      all.1

  module _ (answer : Answer) (after : TaskRun) (begins : Option Begun) (fell : Option Outcome) (more_log : TaskLog) (report : Option Report)
      (reports_after : List Report) (answers : Answers step answer) (on : LeadsOn machine after answer) (begun : SaysBegin machine begins)
      (fallen : FellAt machine fell answer)
      (in_log : IsNotedIn log (record { step = step; answer = answer; begins = begins; outcome = fell }) more_log report)
      (added : Added report room reports reports_after) where
    abbrev latest : Record
    latest = made task step answer

    abbrev noted : Noted
    noted = record { step = step; answer = answer; begins = begins; outcome = fell }

    turned : reverse (latest ∷ own) ≡ reverse own ++ latest ∷ []
    turned = reversed latest own

    is_written : InWrittenOrder run task (latest ∷ own)
    is_written = subst (WrittenOrder s registers body) (sym turned) (written answer answers)

    is_noted : (w : WrittenOrder s registers body (reverse own ++ latest ∷ [])) → IsNoted w (length (reverse own)) latest noted
    is_noted w =
        says_what_is_noted s registers body (reverse own) machine step answer begins fell led.leads next.says (begun s registers body (reverse own) led.leads)
        fallen w (does_last s registers body (reverse own) latest w)

    is_within : WithinTurns run.rules.turns (latest ∷ own)
    is_within =
        subst (WithinTurns run.rules.turns) (ap reverse (sym turned) ∙ reverse-reverse (latest ∷ own))
        (next.within s registers body (reverse own) led.leads
        (subst (WithinTurns run.rules.turns) (sym (reverse-reverse own)) led.within) answer)

    are_noted : (w : WrittenOrder s registers body (reverse own ++ latest ∷ [])) → AreNoted w (reverse (reverse own ++ latest ∷ [])) (noted ∷ led.noted)
    are_noted w =
        one_more s registers body (reverse own) latest led.noted noted led.written w
        (subst (λ (r : List Record). AreNoted led.written r led.noted) (sym (reverse-reverse own)) led.notes) (is_noted w)

    pub leads_more : IsLed run task (latest ∷ own) after more_log reports_after room
    leads_more = record {
      written = is_written;
      within = is_within;
      leads = subst (λ (r : List Record). Leads s registers body r after) (sym turned)
          (on s registers body (reverse own) step led.leads next.says);
      noted = noted ∷ led.noted;
      notes = noted_so s registers body (reverse own ++ latest ∷ []) (reverse (latest ∷ own)) (latest ∷ own) (noted ∷ led.noted) turned
          (ap reverse (sym turned) ∙ reverse-reverse (latest ∷ own)) is_written are_noted;
      keeps = in_log.keeps (accesses_kept run task) (watches_kept run task) led.noted led.keeps;
      reported = more_reports report room reports reports_after (reported_in led.noted) (reported_in (noted ∷ led.noted)) led.reported
          (ap (λ (r : Option Report). reported_in led.noted ++ option_to_list r) (sym (in_log.reported (accesses_kept run task) (watches_kept run task) led.noted led.keeps))) added;
    }
