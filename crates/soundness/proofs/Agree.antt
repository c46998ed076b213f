-- The totals of a list agree once all its tasks have ended.
use Rattle.std.proofs.Common.{◌≡◌, ◌≤◌, ◌+◌, ◌∙◌, ℕ, List, Some, arith, count_by, length, subst, sym}
use Rattle.std.proofs.lemmas.List.Sorted.{length_permutation}
use Rattle.std.specs.List.Sorted.{IsPermutation}
use Rattle.slot_table.specs.Discipline.{AllAreFinished, LegalInDiscipline}
use Rattle.slot_table.specs.Hearings.{EachHearsTheOther}
use Rattle.slot_table.specs.Meetings.{finders_told, setters_heard}
use Rattle.slot_table.specs.Words.{words_at_first}
use Rattle.slot_table.specs.declared.records.Record.{Record}
use Rattle.task_log.specs.Counters.{is_arming, is_lost, is_quiet, is_taken, is_unknown}
use Rattle.executions.specs.execution.Answers.{is_answer}
use Rattle.executions.specs.execution.Run.{Run, first_cells, locks_of}
use Rattle.executions.specs.execution.Execution.{Execution}
use Rattle.executions.specs.execution.Observed.{OutcomeAt, outcomes_of}
use Rattle.soundness.specs.Takings.{EachSettles}
use Rattle.soundness.specs.Totals.{Totals, is_try, made_so}
use Rattle.soundness.proofs.Answered.{answers_heard, kinds_of_answers, unknown_quiet}
use Rattle.soundness.proofs.EndedOrInHand.{arms_end, hits_end, is_taking, is_tell, of_clear, of_end, takings_end}
use Rattle.soundness.proofs.Heard.{of_hearing, takings_heard}
use Rattle.soundness.proofs.Bags.{clears_heard, tells_told, tries_end}
use Rattle.soundness.proofs.Weights.{alike_all, counts_weigh, of_step, weigh, weigh_both}

module _ (run : Run) (records : List Record) (list : Execution run records)
    (rules : LegalInDiscipline run.rules.slots (locks_of run) (first_cells run) records) (over : AllAreFinished records) where
  arms_ended : made_so is_arming records ≡ made_so is_quiet records + made_so is_taken records
  arms_ended =
      let arms = counts_weigh is_arming records in
      let quiet = counts_weigh is_quiet records in
      let taken = counts_weigh is_taken records in
      let both : weigh (of_step is_arming) records ≡ weigh of_end records =
      alike_all (of_step is_arming) of_end records (λ task. arms_end task _ (rules.keeps task) (over task)) in
      let parts : weigh of_end records ≡ weigh (of_step is_quiet) records + weigh (of_step is_taken) records =
      weigh_both (of_step is_quiet) (of_step is_taken) records in
      omega (arith, arms, quiet, taken, both, parts)

  takings_met : EachHearsTheOther records → IsPermutation (setters_heard records) (finders_told records)
      → weigh (of_step is_taking) records ≡ weigh (of_step is_taken) records
  takings_met hears bags =
      let takings : weigh (of_step is_taking) records ≡ weigh (of_step is_tell) records =
      alike_all (of_step is_taking) (of_step is_tell) records (λ task. takings_end task _ (rules.keeps task) (over task)) in
      let tells : length (finders_told records) ≡ weigh (of_step is_tell) records = tells_told records hears in
      let bag : length (finders_told records) ≡ length (setters_heard records) = length_permutation (setters_heard records) (finders_told records) bags in
      let clears : length (setters_heard records) ≡ weigh of_clear records = clears_heard records rules.keeps hears in
      let hits : weigh (of_step is_taken) records ≡ weigh of_clear records =
      alike_all (of_step is_taken) of_clear records (λ task. hits_end task _ (rules.keeps task) (over task)) in
      takings ∙ (sym tells ∙ (bag ∙ (clears ∙ sym hits)))

  tries_ended : EachHearsTheOther records → IsPermutation (setters_heard records) (finders_told records)
      → made_so is_try records ≡ made_so is_taken records + made_so is_lost records
  tries_ended hears bags =
      let tries = counts_weigh is_try records in
      let lost = counts_weigh is_lost records in
      let taken = counts_weigh is_taken records in
      let parts = weigh_both (of_step is_taking) (of_step is_lost) records in
      let all = tries_end (words_at_first run.rules.slots (locks_of run) (first_cells run)) records rules.legal in
      let met = takings_met hears bags in omega (arith, tries, lost, taken, parts, all, met)

  taken_answered : EachSettles list records
      → made_so is_taken records ≡ count_by (λ (came : OutcomeAt). is_answer came.outcome) (outcomes_of list)
  taken_answered settles =
      counts_weigh is_taken records
      ∙ (alike_all (of_step is_taken) of_hearing records (λ task. takings_heard run records list task (rules.keeps task) (over task))
      ∙ sym (answers_heard list records settles))

  unknown_most : EachSettles list records → count_by (λ (came : OutcomeAt). is_unknown (Some came.outcome)) (outcomes_of list) ≤ made_so is_quiet records
  unknown_most settles =
      subst (λ (n : ℕ). count_by (λ (came : OutcomeAt). is_unknown (Some came.outcome)) (outcomes_of list) ≤ n) (sym (counts_weigh is_quiet records))
      (unknown_quiet list records settles)

  pub totals : EachHearsTheOther records → IsPermutation (setters_heard records) (finders_told records) → EachSettles list records
      → Totals records (outcomes_of list)
  totals hears bags settles = record {
    arms = arms_ended;
    tries = tries_ended hears bags;
    taken = taken_answered settles ∙ kinds_of_answers (outcomes_of list);
    unknown = unknown_most settles;
  }
