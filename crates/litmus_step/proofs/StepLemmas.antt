-- One record more of a task leads on.
use Rattle.std.proofs.Common.{◌≡◌, ◌≢◌, ◌<◌, ◌≤◌, ◌+◌, ◌++◌, ◌∙◌, ◌∷◌, [], ℕ, zero, suc, List, Some, ap, arith, inl, inr, length}
use Rattle.std.proofs.Common.{refl, reverse, set, slice_get, subst, sym}
use Rattle.std.proofs.lemmas.Bool.{eq-eqb, ne_eqb}
use Rattle.std.proofs.lemmas.Bool.Decides.{eqb_tells}
use Rattle.std.proofs.lemmas.List.{length-set, reverse-append, reverse-reverse}
use Rattle.std.proofs.lemmas.Option.{slice_get_within}
use Rattle.executions.specs.execution.Run.{Run, first_words, idle, task_of, task_setting}
use Rattle.executions.specs.execution.Execution.{InWrittenOrder, Execution}
use Rattle.setup_access.specs.Parts.{made}
use Rattle.slot_table.specs.Answer.{Answers}
use Rattle.slot_table.specs.Records.{records_of, words_after}
use Rattle.slot_table.specs.StepLine.{Names, step_line}
use Rattle.slot_table.specs.Words.{Words}
use Rattle.slot_table.specs.declared.records.Record.{Record}
use Rattle.slot_table.specs.declared.step.Answer.{Answer}
use Rattle.slot_table.specs.declared.step.Step.{Step}
pub use Rattle.context_bound.proofs.completeness.NextRecords.{AnAnswerLeadsOn, StepsNameWords}
use Rattle.context_bound.proofs.completeness.Words.{after_as_many, answered, last_of_all, names_as_many}
use Rattle.litmus_step.proofs.NameLemmas.{some_answer}
use Rattle.access_types.specs.declared.report.Report.{Report}
use Rattle.litmus_step.specs.Kept.{AreKept}
use Rattle.litmus_step.specs.Leads.{AreAtPoints, GoesOnWith, LeadsTask, LeadsToAll, MakesNextIn}
use Rattle.task_log.specs.declared.log.TaskLog.{TaskLog}
use Rattle.litmus_step.specs.Runs.{CanBeMade, tasks_of}
use Rattle.task_plan.specs.Counts.{up_to_last}
use Rattle.task_run.specs.Leads as task_run
use Rattle.task_run.specs.Leads.{LeadsOn}
use Rattle.task_run.specs.declared.run.TaskRun.{TaskRun}
use Rattle.program_order.specs.Waits.{OnlyStep, WithinTurns}
use Rattle.program_order.specs.WrittenOrder.{WrittenOrder}

pub own_first : (task : ℕ) (first : Record) (records : List Record) → first.task ≡ task
    → records_of task (first ∷ records) ≡ first ∷ records_of task records
own_first task first records own = rw (eq-eqb first.task task own) refl

pub others_first : (task : ℕ) (first : Record) (records : List Record) → first.task ≢ task
    → records_of task (first ∷ records) ≡ records_of task records
others_first task first records other = rw (ne_eqb first.task task other) refl

pub reversed : (first : Record) (later : List Record) → reverse (first ∷ later) ≡ reverse later ++ first ∷ []
reversed first later = reverse-append (first ∷ []) later

-- where a task's own records stand one after the other, with one more
pub own_reversed : (task : ℕ) (first : Record) (records : List Record) → first.task ≡ task
    → reverse (records_of task (first ∷ records)) ≡ reverse (records_of task records) ++ first ∷ []
own_reversed task first records own =
    ap reverse (own_first task first records own) ∙ reversed first (records_of task records)

pub set_here : {X : Type 0} (xs : List X) (at : ℕ) (x : X) → at < length xs → slice_get (set xs at x) at ≡ Some x
set_here [] at x below = absurd (omega (arith, below))
set_here (first ∷ later) zero x below = refl
set_here (first ∷ later) (suc at) x below = set_here later at x (omega (arith, below))

pub set_other : {X : Type 0} (xs : List X) (at other : ℕ) (x : X) → at ≢ other
    → slice_get (set xs at x) other ≡ slice_get xs other
set_other [] at other x apart = refl
set_other (first ∷ later) zero zero x apart = absurd (apart refl)
set_other (first ∷ later) zero (suc other) x apart = refl
set_other (first ∷ later) (suc at) zero x apart = refl
set_other (first ∷ later) (suc at) (suc other) x apart = set_other later at other x (λ same. apart (ap suc same))

pub same_some : {X : Type 0} (one other : X) → Some one ≡ Some other → one ≡ other
same_some one other same = cc

-- what is so of one task and of all others is so of each
pub by_task : (P : ℕ → Type 0) (task : ℕ) → P task → ((other : ℕ) → task ≢ other → P other) → (at : ℕ) → P at
by_task P task here others at =
    elim (eqb_tells task at) [ inl same ↦ subst P same.1 here | inr apart ↦ others at apart.1 ]

counted : (steps : ℕ) (records : List Record) (first : Record) → steps ≡ up_to_last (length records)
    → up_to_last (steps + 1) ≡ up_to_last (length (first ∷ records))
counted steps records first is = rest (length records) (is)
  where
    rest : (n : ℕ) → steps ≡ up_to_last n → up_to_last (steps + 1) ≡ up_to_last (suc n)
    rest n same = rw same (omega arith)

module _ (leads_on : AnAnswerLeadsOn) (names : StepsNameWords) where
  -- with an answer that may be its, the only step that a task goes on with keeps it in the written order
  written : (run : Run) (records : List Record) (task : ℕ) (step : Step) (answer : Answer)
      → CanBeMade run → task < tasks_of run → InWrittenOrder run task (records_of task records)
      → OnlyStep (task_setting run task) (length (task_of run task).registers) (task_of run task).body
      (reverse (records_of task records)) step → Answers step answer
      → WrittenOrder (task_setting run task) (length (task_of run task).registers) (task_of run task).body
      (reverse (records_of task records) ++ made task step answer ∷ [])
  written run records task step answer can below in_order only answers =
      leads_on (task_setting run task) (task_of run task) (reverse (records_of task records)) step answer (can.placed task below)
      (can.limits.each_task task idle below) answers in_order only

  pub named : (run : Run) (records : List Record) (task : ℕ) (step : Step)
      → CanBeMade run → task < tasks_of run → InWrittenOrder run task (records_of task records)
      → OnlyStep (task_setting run task) (length (task_of run task).registers) (task_of run task).body
      (reverse (records_of task records)) step
      → Names (words_after (first_words run) records) step
  named run records task step can below in_order only =
      let some = some_answer step in
      let own = reverse (records_of task records) in
      let slots : 3 ≤ run.rules.slots = can.slots in
      let all = names run task (own ++ made task step some.0 ∷ []) (omega arith)
      (written run records task step some.0 can below in_order only some.1) in
      names_as_many (first_words run) (words_after (first_words run) records) step
      (after_as_many (first_words run) records)
      (last_of_all (λ (r : Record). Names (first_words run) r.step) own (made task step some.0) all)

  -- the step of a machine that a list leads to names a word
  pub names_word : (run : Run) (records : List Record) (words : Words) (machines : List TaskRun) (steps : ℕ) (logs : List TaskLog)
      (reports : List Report) (room task : ℕ) (step : Step)
      → LeadsToAll run records words machines steps logs reports room → MakesNextIn machines task step → Names words step
  names_word run records words machines steps logs reports room task step leads next =
      let there : task < length machines = slice_get_within machines task next.machine next.stands in
      let below : task < tasks_of run = subst (λ n. task < n) leads.tasks.all there in
      let only = next.makes.only _ _ _ _ (leads.tasks.each task next.machine next.stands) in
      subst (λ (w : Words). Names w step) (sym leads.leaves)
      (named run records task step leads.can below (leads.list.tasks task) only)

  -- followed by the record of the step, with the answer that the words give, it is an execution
  pub list_more : (run : Run) (records : List Record) (words : Words) (machines : List TaskRun) (steps : ℕ) (logs : List TaskLog)
      (reports : List Report) (room task : ℕ) (step : Step) (answer : Answer)
      → LeadsToAll run records words machines steps logs reports room → MakesNextIn machines task step → Answers step answer
      → answer ≡ (step_line words step).answer → Execution run (made task step answer ∷ records)
  list_more run records words machines steps logs reports room task step answer leads next answers is =
      let latest = made task step answer in
      let there : task < length machines = slice_get_within machines task next.machine next.stands in
      let below : task < tasks_of run = subst (λ n. task < n) leads.tasks.all there in
      let led = leads.tasks.each task next.machine next.stands in
      let only = next.makes.only _ _ _ _ led in
      let earlier = records_of task records in
      let still : WithinTurns run.rules.turns (latest ∷ earlier) =
      subst (WithinTurns run.rules.turns) (ap reverse (sym (reversed latest earlier)) ∙ reverse-reverse (latest ∷ earlier))
      (next.makes.within _ _ _ _ led
      (subst (WithinTurns run.rules.turns) (sym (reverse-reverse earlier)) (leads.list.within task)) answer) in
      record {
        legal = (
          leads.list.legal,
          record {
            names = named run records task step leads.can below (leads.list.tasks task) only;
            answer = subst (λ (w : Words). answer ≡ (step_line w step).answer) leads.leaves is;
          },
        );
        tasks = by_task (λ t. InWrittenOrder run t (records_of t (latest ∷ records))) task
            (subst (WrittenOrder (task_setting run task) (length (task_of run task).registers) (task_of run task).body)
            (sym (own_reversed task latest records refl))
            (written run records task step answer leads.can below (leads.list.tasks task) only answers))
            (λ other apart. subst (InWrittenOrder run other) (sym (others_first other latest records apart)) (leads.list.tasks other));
        within = by_task (λ t. WithinTurns run.rules.turns (records_of t (latest ∷ records))) task
            (subst (WithinTurns run.rules.turns) (sym (own_first task latest records refl)) still)
            (λ other apart. subst (WithinTurns run.rules.turns) (sym (others_first other latest records apart)) (leads.list.within other));
        sites = leads.list.sites;
      }

  -- with its step a task goes on, and with no other
  pub goes_on_with : (run : Run) (records : List Record) (words : Words) (machines : List TaskRun) (steps : ℕ) (logs : List TaskLog)
      (reports : List Report) (room task : ℕ) (step : Step)
      → LeadsToAll run records words machines steps logs reports room → MakesNextIn machines task step → GoesOnWith run task records step
  goes_on_with run records words machines steps logs reports room task step leads next = record {
    only = next.makes.only _ _ _ _ (leads.tasks.each task next.machine next.stands);
    answer = (step_line words step).answer;
    list = list_more run records words machines steps logs reports room task step (step_line words step).answer leads next
        (answered words step) refl;
  }

  -- followed by the record of the step and its answer it leads on
  pub leads_more : (run : Run) (records : List Record) (words : Words) (machines : List TaskRun) (steps : ℕ)
      (logs more_logs : List TaskLog) (reports more_reports : List Report) (room more_room task : ℕ)
      (step : Step) (answer : Answer) (after : TaskRun)
      → LeadsToAll run records words machines steps logs reports room → (next : MakesNextIn machines task step) → Answers step answer
      → answer ≡ (step_line words step).answer → LeadsOn next.machine after answer
      → ((list : Execution run (made task step answer ∷ records)) → AreKept list more_logs more_reports more_room)
      → ((list : Execution run (made task step answer ∷ records)) → AreAtPoints list (set machines task after))
      → LeadsToAll run (made task step answer ∷ records) (step_line words step).after (set machines task after)
      (up_to_last (steps + 1)) more_logs more_reports more_room
  leads_more run records words machines steps logs more_logs reports more_reports room more_room task step answer after leads next
      answers is on keeps points =
      let latest = made task step answer in
      let there : task < length machines = slice_get_within machines task next.machine next.stands in
      let led = leads.tasks.each task next.machine next.stands in
      let word = ap (λ (w : Words). (step_line w step).after) leads.leaves in
      let list = list_more run records words machines steps logs reports room task step answer leads next answers is in
      record {
        can = leads.can;
        list = list;
        leaves = word;
        tasks = record {
          all = length-set machines task after ∙ leads.tasks.all;
          each = by_task (λ t. (machine : TaskRun) → slice_get (set machines task after) t ≡ Some machine
              → LeadsTask run t (latest ∷ records) machine) task
              (λ machine stands. let is_after = same_some _ _ (sym (set_here machines task after there) ∙ stands) in
              subst (LeadsTask run task (latest ∷ records)) is_after
              (subst (λ (all : List Record). task_run.Leads (task_setting run task) (length (task_of run task).registers)
              (task_of run task).body all after)
              (sym (own_reversed task latest records refl)) (on _ _ _ _ step led next.makes.says)))
              (λ other apart machine stands.
              subst (λ (all : List Record). task_run.Leads (task_setting run other) (length (task_of run other).registers)
              (task_of run other).body all machine)
              (ap reverse (sym (others_first other latest records apart)))
              (leads.tasks.each other machine (sym (set_other machines task other after apart) ∙ stands)));
        };
        counts = counted steps records latest leads.counts;
        kept = keeps list;
        points = points list;
      }
