-- The one list of all seats is an execution, and what was found of each task is what it says.
use Rattle.std.proofs.Common.{◌≡◌, ◌<◌, ◌≤◌, ◌++◌, ◌∙◌, ◌∷◌, [], ℕ, zero, suc, List, Some, All, ap, append_assoc, arith, flat_map, get_or, inl, inr, length, map, refl, reverse, slice_get, subst, sym, take}
use Rattle.std.proofs.lemmas.List.{append-nil, length-map, reverse-reverse}
use Rattle.std.proofs.lemmas.List.Elements.{All-contains}
use Rattle.std.proofs.lemmas.Option.{get_or_from_slice_get, slice_get_cases, slice_get_within}
use Rattle.access_types.specs.declared.report.Report.{Report}
use Rattle.litmus_step.specs.Kept.{AreLogs, accesses_kept, watches_kept}
use Rattle.litmus_step.specs.Readers.{AreRegisters}
use Rattle.litmus_step.specs.Runs.{CanBeMade, tasks_of}
use Rattle.litmus_syntax.specs.Limits.{KeepsLimits}
use Rattle.litmus_syntax.specs.Tree.{Block, Task}
use Rattle.soundness.specs.Headline.{Headline}
use Rattle.log_correctness.specs.Setters.{AreReports, reports_by}
use Rattle.executions.specs.execution.Reports.{reports_of}
use Rattle.executions.specs.execution.Run.{Run, first_words, idle, task_of, task_setting}
use Rattle.executions.specs.execution.Execution.{AllHaveEnded, InWrittenOrder, Execution}
use Rattle.log_correctness.specs.Lists.{ByTask}
use Rattle.log_correctness.specs.Noted.{AreNoted, Notes}
use Rattle.log_correctness.specs.Totals.{IsUnbalanced, unbalanced_below}
use Rattle.runner.specs.TaskResult.{AreFound, IsFound, calls_below, calls_of}
use Rattle.runner.specs.Hits.{AllHitsOverlap}
use Rattle.runner.specs.Result.{IsOf}
use Rattle.runner.specs.declared.result.RunResult.{RunResult}
use Rattle.runner.specs.declared.seated.TaskResult.{TaskResult}
use Rattle.shared_table.specs.Ended.{Ended, HasUnfinished, IsListOf, IsMissing}
use Rattle.shared_table.specs.Given as given
use Rattle.shared_table.specs.Given.{Given}
use Rattle.shared_table.specs.Seats.{Opened, Sitting}
use Rattle.slot_table.specs.Discipline.{IsFinished}
use Rattle.slot_table.specs.Records.{Legal, records_of, words_after}
use Rattle.slot_table.specs.Words.{Words}
use Rattle.slot_table.specs.declared.records.Record.{Record}
use Rattle.task_log.specs.Counters.{together}
use Rattle.task_log.specs.Keeps.{Keeps}
use Rattle.task_log.specs.Reports.{reported_in}
use Rattle.task_log.specs.declared.log.TaskLog.{TaskLog}
use Rattle.task_log.specs.declared.noted.Noted.{Noted}
use Rattle.task_plan.specs.Counts.{up_to_last}
use Rattle.program_order.specs.Standing.{Setting}
use Rattle.program_order.specs.Waits.{WithinTurns}
use Rattle.program_order.specs.WrittenOrder.{SpellsAll, at_first, stands_after}

-- what the laws on the reports of a task, and on the headline, say
abbrev pub ReportsItsOwn : Type 0
ReportsItsOwn = (run : Run) (records : List Record) (list : Execution run records) (task : ℕ) (noted : List Noted) → Notes list task noted
    → reports_by task (reports_of list) ≡ reported_in noted

abbrev pub HeadlineHolds : Type 0
HeadlineHolds = (run : Run) (records : List Record) → (list : Execution run records) → Headline list

-- what the law on the two sides of hits says
abbrev pub SidesOfHitsOverlap : Type 0
SidesOfHitsOverlap = (run : Run) (records : List Record) (list : Execution run records) → KeepsLimits run.program → AllHaveEnded run records
    → AllHitsOverlap list

-- what was found of a task is what its records say
record TellsFound (run : Run) (task : ℕ) (own : List Record) (written : InWrittenOrder run task own) (one : TaskResult) : Type 0 where
  noted : List Noted
  notes : AreNoted written own noted
  keeps : Keeps (accesses_kept run task) (watches_kept run task) noted one.log
  reported : one.reports.items ≡ reported_in noted
  registers : one.registers.items ≡ (stands_after written).progress.registers
  unbalanced : one.unbalanced ≡ up_to_last (stands_after written).unbalanced

-- so it is of a task's records in the list
record AllTold (run : Run) (records : List Record) (found : List TaskResult) (task : ℕ) : Type 0 where
  written : InWrittenOrder run task (records_of task records)
  within : WithinTurns run.rules.turns (records_of task records)
  whole : SpellsAll (task_setting run task) (length (task_of run task).registers) (task_of run task).body
      (reverse (records_of task records))
  tells : (one : TaskResult) → slice_get found task ≡ Some one → TellsFound run task (records_of task records) written one

alike : (run : Run) (task : ℕ) (own all : List Record) (one : TaskResult) → all ≡ own → (w : InWrittenOrder run task own)
    → TellsFound run task own w one → (v : InWrittenOrder run task all) × TellsFound run task all v one
alike run task own all one is w tells = subst (λ (r : List Record). (v : InWrittenOrder run task r) × TellsFound run task r v one) (sym is) (w, tells)

some_same : {X : Type 0} (one other : X) → Some one ≡ Some other → one ≡ other
some_same one other same = cc

at_map : {X Y : Type 0} (f : X → Y) (xs : List X) (at : ℕ) (x : X) (d : Y) → slice_get xs at ≡ Some x → get_or (map f xs) at d ≡ f x
at_map f [] at x d is = absurd (cc)
at_map f (first ∷ later) zero x d is = ap f (some_same first x is)
at_map f (first ∷ later) (suc at) x d is = at_map f later at x d is

-- past the last task there is none that does anything
past : (run : Run) (task : ℕ) → tasks_of run ≤ task → task_of run task ≡ idle
past run task beyond = over run.program.tasks task beyond
  where
    over : (tasks : List Task) (at : ℕ) → length tasks ≤ at → get_or tasks at idle ≡ idle
    over [] at beyond = refl
    over (first ∷ later) zero beyond = absurd (omega (arith, beyond))
    over (first ∷ later) (suc at) beyond = over later at (omega (arith, beyond))

together_rests : (one other : ℕ) → together one (up_to_last other) ≡ together one other
together_rests one other = omega arith

-- those of each task, one task after the other
by_task : {X : Type 0} (Of : ℕ → List X → Type 0) (f : TaskResult → List X) (found : List TaskResult)
    → ((task : ℕ) (one : TaskResult) → slice_get found task ≡ Some one → Of task (f one)) → ByTask Of (length found) (flat_map f found)
by_task Of f found each = subst (λ (all : List _). ByTask Of (length found) (flat_map f all)) (take_all found) (up_to (length found) (omega arith))
  where
    take_all : (fs : List TaskResult) → take (length fs) fs ≡ fs
    take_all [] = refl
    take_all (x ∷ fs) = ap (λ (rest : List TaskResult). x ∷ rest) (take_all fs)

    one_more : (fs : List TaskResult) (n : ℕ) (x : TaskResult) → slice_get fs n ≡ Some x → flat_map f (take (suc n) fs) ≡ flat_map f (take n fs) ++ f x
    one_more [] n x is = absurd (cc)
    one_more (y ∷ fs) zero x is = append-nil (f y) ∙ ap f (some_same y x is)
    one_more (y ∷ fs) (suc n) x is = ap (λ (rest : List _). f y ++ rest) (one_more fs n x is) ∙ sym (append_assoc (f y) (flat_map f (take n fs)) (f x))

    up_to : (n : ℕ) → n ≤ length found → ByTask Of n (flat_map f (take n found))
    up_to zero below = refl
    up_to (suc n) below =
        elim (slice_get_cases found n).1 [
          | inl there ↦ (flat_map f (take n found), f there.0, one_more found n there.0 there.2, up_to n (omega (arith, below)), each n there.0 there.2)
          | inr beyond ↦ let over : length found ≤ n = beyond.0 in absurd (omega (arith, below, over))
        ]

module _ (run : Run) (opened : Opened) (found : List TaskResult) (records : List Record) (ended : Ended)
    (are : AreFound run opened found) (first : Execution run []) (seats : ended.seats ≡ map (λ (f : TaskResult). f.seat) found)
    (tasks : ended.given.tasks ≡ tasks_of run) (words : given.first_words ended.given ≡ first_words run) (is : IsListOf ended records) where
  -- the records of a task are those of its seat
  own_of : (task : ℕ) (one : TaskResult) → slice_get found task ≡ Some one → records_of task records ≡ one.seat.records
  own_of task one stands =
      let it = are.each task one stands in
      let there : task < length found = slice_get_within found task one stands in
      let sits : task < length ended.seats = rw (ap length seats ∙ length-map found (λ (f : TaskResult). f.seat)) there in
      let is_seat : get_or ended.seats task one.seat ≡ one.seat =
      ap (λ (all : List Sitting). get_or all task one.seat) seats ∙ at_map (λ (f : TaskResult). f.seat) found task one one.seat stands in
      let own : records_of one.seat.task records ≡ one.seat.records =
      subst (λ (seat : Sitting). records_of seat.task records ≡ seat.records) is_seat (is.seats task one.seat sits) in
      ap (λ (t : ℕ). records_of t records) (sym it.own) ∙ own

  told_here : (task : ℕ) (one : TaskResult) → slice_get found task ≡ Some one → AllTold run records found task
  told_here task one stands =
      let it : IsFound run opened task one = are.each task one stands in
      let same = own_of task one stands in
      let both = alike run task one.seat.records (records_of task records) one same it.written
      (record { noted = it.noted; notes = it.notes; keeps = it.keeps; reported = it.reported; registers = it.registers; unbalanced = it.unbalanced }) in
      record {
        written = both.0;
        within = subst (WithinTurns run.rules.turns) (sym same) it.within;
        whole = subst (λ (r : List Record). SpellsAll (task_setting run task) (length (task_of run task).registers) (task_of run task).body (reverse r))
            (sym same) it.whole;
        tells = λ other stood. subst (λ (f : TaskResult). TellsFound run task (records_of task records) both.0 f) (some_same one other (sym stands ∙ stood)) both.1;
      }

  told_past : (task : ℕ) → length found ≤ task → AllTold run records found task
  told_past task beyond =
      let more : tasks_of run ≤ task = subst (λ (n : ℕ). n ≤ task) are.all beyond in
      let none : records_of task records ≡ [] = is.others task (subst (λ (n : ℕ). n ≤ task) (sym tasks) more) in
      record {
        written = subst (InWrittenOrder run task) (sym none) (first.tasks task);
        within = subst (WithinTurns run.rules.turns) (sym none) tt;
        whole = subst (λ (r : List Record). SpellsAll (task_setting run task) (length (task_of run task).registers) (task_of run task).body (reverse r))
            (sym none)
            (subst (λ (t : Task). SpellsAll (task_setting run task) (length t.registers) t.body []) (sym (past run task more))
            (record { end = at_first 0; steps = (refl, refl) }));
        tells = λ one stands. let there : task < length found = slice_get_within found task one stands in absurd (omega (arith, there, beyond));
      }

  told : (task : ℕ) → AllTold run records found task
  told task =
      elim (slice_get_cases found task).1 [
        | inl there ↦ told_here task there.0 there.2
        | inr beyond ↦ told_past task beyond.0
      ]

  pub one_list : Execution run records
  one_list = record {
    legal = subst (λ (w : Words). Legal w records) words is.legal.legal;
    tasks = λ task. (told task).written;
    within = λ task. (told task).within;
    sites = first.sites;
  }

  pub all_ended : AllHaveEnded run records
  all_ended = λ task. (told task).whole

  pub logs_are : (logs : List TaskLog) → logs ≡ map (λ (f : TaskResult). f.log) found → AreLogs one_list logs
  unfolding one_list told
  logs_are logs is_map = record {
    all = ap length is_map ∙ (length-map found (λ (f : TaskResult). f.log) ∙ are.all);
    each = λ task log stands.
        elim (slice_get_cases found task).1 [
          | inl there ↦
              let it = (told task).tells there.0 there.2 in
              let same : log ≡ there.0.log =
              sym (get_or_from_slice_get logs task log log stands)
              ∙ (ap (λ (all : List TaskLog). get_or all task log) is_map ∙ at_map (λ (f : TaskResult). f.log) found task there.0 log there.2) in
              record { noted = it.noted; notes = it.notes; keeps = subst (Keeps (accesses_kept run task) (watches_kept run task) it.noted) (sym same) it.keeps }
          | inr beyond ↦
              let below : task < length logs = slice_get_within logs task log stands in
              let long : length logs ≡ length found = ap length is_map ∙ length-map found (λ (f : TaskResult). f.log) in
              let over : length found ≤ task = beyond.0 in
              absurd (omega (arith, below, long, over))
        ];
  }

  pub registers_are : {V : Type 0} (items : V → List ℕ) (of : TaskResult → V) → ((f : TaskResult) → items (of f) ≡ f.registers.items)
      → (all : List V) → all ≡ map of found → (task : ℕ) (values : V) → slice_get all task ≡ Some values → AreRegisters one_list task (items values)
  unfolding one_list told
  registers_are items of same_items all is_map task values stands =
      elim (slice_get_cases found task).1 [
        | inl there ↦
            let it = (told task).tells there.0 there.2 in
            let same : values ≡ of there.0 =
            sym (get_or_from_slice_get all task values values stands)
            ∙ (ap (λ (vs : List _). get_or vs task values) is_map ∙ at_map of found task there.0 values there.2) in
            ap items same ∙ (same_items there.0 ∙ it.registers)
        | inr beyond ↦
            let below : task < length all = slice_get_within all task values stands in
            let long : length all ≡ length found = ap length is_map ∙ length-map found of in
            let over : length found ≤ task = beyond.0 in
            absurd (omega (arith, below, long, over))
      ]

  -- what was reported of each task is what the list gives for it
  reports_are_its : ReportsItsOwn → (task : ℕ) (one : TaskResult) → slice_get found task ≡ Some one
      → one.reports.items ≡ reports_by task (reports_of one_list)
  unfolding one_list told
  reports_are_its own task one stands =
      let it = (told task).tells one stands in it.reported ∙ sym (own run records one_list task it.noted it.notes)

  pub reports_are : ReportsItsOwn → (all : List Report) → all ≡ flat_map (λ (f : TaskResult). f.reports.items) found → AreReports one_list all
  reports_are own all is_all =
      let Of : ℕ → List Report → Type 0 = λ task some. some ≡ reports_by task (reports_of one_list) in
      subst (λ (n : ℕ). ByTask Of n all) are.all
      (subst (λ (rs : List Report). ByTask Of (length found) rs) (sym is_all)
      (by_task Of (λ (f : TaskResult). f.reports.items) found (reports_are_its own)))

  unbalanced_by : (n : ℕ) → n ≤ length found → calls_below found n ≡ unbalanced_below one_list n
  unfolding one_list told
  unbalanced_by zero below = refl
  unbalanced_by (suc n) below =
      elim (slice_get_cases found n).1 [
        | inl there ↦
            let it = (told n).tells there.0 there.2 in
            let before = unbalanced_by n (omega (arith, below)) in
            let here : calls_of (slice_get found n) ≡ up_to_last (stands_after (told n).written).unbalanced = ap calls_of there.2 ∙ it.unbalanced in
            ap (λ (m : ℕ). together m (calls_of (slice_get found n))) before
            ∙ (ap (λ (m : ℕ). together (unbalanced_below one_list n) m) here
            ∙ together_rests (unbalanced_below one_list n) (stands_after (told n).written).unbalanced)
        | inr beyond ↦ let over : length found ≤ n = beyond.0 in absurd (omega (arith, below, over))
      ]

  pub is_unbalanced : (count : ℕ) → count ≡ calls_below found (length found) → IsUnbalanced one_list count
  is_unbalanced count is_sum =
      is_sum ∙ (unbalanced_by (length found) (omega arith) ∙ ap (λ (n : ℕ). unbalanced_below one_list n) are.all)

-- so what came of a run is what the list gives
pub is_of : ReportsItsOwn → HeadlineHolds → SidesOfHitsOverlap → (run : Run) (opened : Opened) (found : List TaskResult) (result : RunResult) (records : List Record)
    → CanBeMade run → AreFound run opened found → (first : Execution run []) → result.gathered.seats ≡ map (λ (f : TaskResult). f.seat) found
    → result.gathered.given.tasks ≡ tasks_of run → given.first_words result.gathered.given ≡ first_words run
    → IsListOf result.gathered records → result.logs.items ≡ map (λ (f : TaskResult). f.log) found
    → result.reports.items ≡ flat_map (λ (f : TaskResult). f.reports.items) found
    → result.registers.items ≡ map (λ (f : TaskResult). f.registers) found → result.unbalanced ≡ calls_below found (length found)
    → (list : Execution run records) × IsOf list result
is_of own holds overlap run opened found result records can are first seats tasks words is logs reports registers unbalanced =
    let list = one_list run opened found records result.gathered are first seats tasks words is in
    let ended = all_ended run opened found records result.gathered are first seats tasks words is in (
      list,
      record {
        can = can;
        ended = ended;
        headline = holds run records list;
        hits_overlap = overlap run records list can.limits ended;
        gathered = is;
        logs = logs_are run opened found records result.gathered are first seats tasks words is result.logs.items logs;
        reports = reports_are run opened found records result.gathered are first seats tasks words is own result.reports.items reports;
        registers = registers_are run opened found records result.gathered are first seats tasks words is (λ values. values.items)
            (λ (f : TaskResult). f.registers) (λ f. refl) result.registers.items registers;
        tasks = ap length registers ∙ (length-map found (λ (f : TaskResult). f.registers) ∙ are.all);
        unbalanced = is_unbalanced run opened found records result.gathered are first seats tasks words is result.unbalanced unbalanced;
        memory = is.cells ∙ ap (λ (w : Words). (words_after w records).cells) words;
      },
    )

-- what a task does in the written order of its whole text leaves no check unfinished
abbrev pub FinishesAtTheEnd : Type 0
FinishesAtTheEnd = (s : Setting) (registers : ℕ) (body : Block) (records : List Record) → SpellsAll s registers body records
    → IsFinished (reverse records)

-- the seats of all tasks that were found can be put together: none is missing, and none has a check unfinished
module _ (run : Run) (opened : Opened) (found : List TaskResult) (given : Given) (seats : List Sitting) (are : AreFound run opened found)
    (seats_are : seats ≡ map (λ (f : TaskResult). f.seat) found) (tasks : given.tasks ≡ tasks_of run) where
  at_seat : (k : ℕ) (one : TaskResult) (d : Sitting) → slice_get found k ≡ Some one → get_or seats k d ≡ one.seat
  at_seat k one d stands = ap (λ (all : List Sitting). get_or all k d) seats_are ∙ at_map (λ (f : TaskResult). f.seat) found k one d stands

  seats_long : length seats ≡ length found
  seats_long = ap length seats_are ∙ length-map found (λ (f : TaskResult). f.seat)

  pub none_is_missing : IsMissing given seats → ⊥
  none_is_missing missing =
      let task = missing.0 in
      let below : task < length found = subst (λ n. task < n) (tasks ∙ sym are.all) missing.1 in
      elim (slice_get_cases found task).1 [
        | inl there ↦
            let one : TaskResult = there.0 in
            let sits : task < length seats = subst (λ n. task < n) (sym seats_long) below in
            missing.2 task one.seat sits
            (ap (λ (s : Sitting). s.task) (at_seat task one one.seat there.2) ∙ (are.each task one there.2).own)
        | inr beyond ↦ let over : length found ≤ task = beyond.0 in absurd (omega (arith, below, over))
      ]

  pub none_is_unfinished : FinishesAtTheEnd → HasUnfinished seats → ⊥
  none_is_unfinished finishes unfinished =
      let all : All (λ (s : Sitting). IsFinished s.records) seats = λ k d within.
      elim (slice_get_cases found k).1 [
        | inl there ↦
            let one : TaskResult = there.0 in
            let done : IsFinished one.seat.records =
            subst IsFinished (reverse-reverse one.seat.records)
            (finishes _ _ _ (reverse one.seat.records) (are.each k one there.2).whole) in
            subst (λ (s : Sitting). IsFinished s.records) (sym (at_seat k one d there.2)) done
        | inr beyond ↦ let over : length found ≤ k = beyond.0 in absurd (omega (arith, within, over, seats_long))
      ] in
      unfinished.2 (All-contains (λ (s : Sitting). IsFinished s.records) seats unfinished.0 all unfinished.1)
