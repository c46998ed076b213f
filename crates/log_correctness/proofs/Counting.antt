-- The counters of tasks, added one after the other, are those of the list.
use Rattle.std.proofs.Common.{◌≡◌, ◌∙◌, ◌+◌, [], ℕ, suc, Bool, false, List, None, Option, Some, ap, arith, count_by, length, refl, subst, sym}
use Rattle.executions.specs.execution.Run.{Run}
use Rattle.executions.specs.execution.Execution.{Execution}
use Rattle.executions.specs.execution.Observed.{OutcomeAt, outcomes_of}
use Rattle.log_correctness.specs.Noted.{Notes}
use Rattle.log_correctness.specs.Totals.{AddUp, Counted, CountsList, CountsTasks, outcomes_below}
use Rattle.log_correctness.proofs.Sums.{all_below, all_came, below, no_outcome_below, none_below, of_record, of_step, one_task_came, one_task_more, outcomes_noted, resting_sum, steps_noted}
use Rattle.setup_access.specs.declared.outcome.Outcome.{Outcome}
use Rattle.slot_table.specs.Records.{records_of}
use Rattle.slot_table.specs.declared.records.Record.{Record}
use Rattle.slot_table.specs.declared.step.Answer.{Answer}
use Rattle.slot_table.specs.declared.step.Step.{Step}
use Rattle.task_log.specs.Counters.{Count, is_arming, is_capacity, is_encoding, is_lost, is_masked, is_quiet, is_same, is_taken, is_two_sided, is_unencodable, is_unknown, resting, together}
use Rattle.task_log.specs.declared.counters.Counters.{Counters}
use Rattle.task_log.specs.declared.noted.Noted.{Noted}

both_rest : (some one both a b c : ℕ) → some ≡ resting a → one ≡ resting b → both ≡ together some one → c ≡ a + b → both ≡ resting c
both_rest some one both a b c first second is sum =
    is ∙ (ap (λ (n : ℕ). together n one) first ∙ (ap (λ (n : ℕ). together (resting a) n) second ∙ (resting_sum a b ∙ ap resting (sym sum))))

module _ (run : Run) (all : List Record) (list : Execution run all) where
  no_steps : (p : Step → Answer → Bool) (none : ℕ) → none ≡ resting (count_by (of_step p) []) → none ≡ resting (count_by (of_record p) (below 0 all))
  no_steps p none is = is ∙ ap resting (sym (none_below p all))

  no_outcomes : (p : Option Outcome → Bool) (apart : p None ≡ false) (none : ℕ) → none ≡ resting (count_by (λ (n : Noted). p n.outcome) [])
      → none ≡ resting (count_by (λ (c : OutcomeAt). p (Some c.outcome)) (outcomes_below list 0 all))
  no_outcomes p apart none is = is ∙ ap resting (sym (no_outcome_below p apart run all list all))

  pub none_counted : (counters : Counters) → Count [] counters → CountsTasks list 0 counters
  none_counted counters counts = record {
    arms = no_steps is_arming counters.arms counts.arms;
    quiet = no_steps is_quiet counters.quiet counts.quiet;
    taken = no_steps is_taken counters.taken counts.taken;
    lost = no_steps is_lost counters.lost counts.lost;
    two_sided = no_outcomes is_two_sided refl counters.two_sided counts.two_sided;
    unknown = no_outcomes is_unknown refl counters.unknown counts.unknown;
    encoding = no_outcomes is_encoding refl counters.encoding counts.encoding;
    same = no_outcomes is_same refl counters.same counts.same;
    masked = no_outcomes is_masked refl counters.masked counts.masked;
    capacity = no_outcomes is_capacity refl counters.capacity counts.capacity;
    unencodable = no_outcomes is_unencodable refl counters.unencodable counts.unencodable;
  }

  module _ (task : ℕ) (noted : List Noted) (notes : Notes list task noted) where
    more_steps : (p : Step → Answer → Bool) (some one both : ℕ) → some ≡ resting (count_by (of_record p) (below task all))
        → one ≡ resting (count_by (of_step p) noted) → both ≡ together some one → both ≡ resting (count_by (of_record p) (below (suc task) all))
    more_steps p some one both first second is =
        let own : count_by (of_step p) noted ≡ count_by (of_record p) (records_of task all) = steps_noted p (list.tasks task) (records_of task all) noted notes in
        let sum = one_task_more p task all in
        both_rest some one both (count_by (of_record p) (below task all)) (count_by (of_step p) noted) (count_by (of_record p) (below (suc task) all)) first second is
        (omega (arith, own, sum))

    more_outcomes : (p : Option Outcome → Bool) (apart : p None ≡ false) (some one both : ℕ)
        → some ≡ resting (count_by (λ (c : OutcomeAt). p (Some c.outcome)) (outcomes_below list task all))
        → one ≡ resting (count_by (λ (n : Noted). p n.outcome) noted) → both ≡ together some one
        → both ≡ resting (count_by (λ (c : OutcomeAt). p (Some c.outcome)) (outcomes_below list (suc task) all))
    more_outcomes p apart some one both first second is =
        let own = outcomes_noted p apart run all list task all noted notes in
        let sum = one_task_came p apart run all list task all in
        both_rest some one both (count_by (λ (c : OutcomeAt). p (Some c.outcome)) (outcomes_below list task all)) (count_by (λ (n : Noted). p n.outcome) noted)
        (count_by (λ (c : OutcomeAt). p (Some c.outcome)) (outcomes_below list (suc task) all)) first second is (omega (arith, own, sum))

    pub more_counted : (some one both : Counters) → CountsTasks list task some → Count noted one → AddUp some one both → CountsTasks list (suc task) both
    more_counted some one both counts own sum = record {
      arms = more_steps is_arming some.arms one.arms both.arms counts.arms own.arms sum.arms;
      quiet = more_steps is_quiet some.quiet one.quiet both.quiet counts.quiet own.quiet sum.quiet;
      taken = more_steps is_taken some.taken one.taken both.taken counts.taken own.taken sum.taken;
      lost = more_steps is_lost some.lost one.lost both.lost counts.lost own.lost sum.lost;
      two_sided = more_outcomes is_two_sided refl some.two_sided one.two_sided both.two_sided counts.two_sided own.two_sided sum.two_sided;
      unknown = more_outcomes is_unknown refl some.unknown one.unknown both.unknown counts.unknown own.unknown sum.unknown;
      encoding = more_outcomes is_encoding refl some.encoding one.encoding both.encoding counts.encoding own.encoding sum.encoding;
      same = more_outcomes is_same refl some.same one.same both.same counts.same own.same sum.same;
      masked = more_outcomes is_masked refl some.masked one.masked both.masked counts.masked own.masked sum.masked;
      capacity = more_outcomes is_capacity refl some.capacity one.capacity both.capacity counts.capacity own.capacity sum.capacity;
      unencodable = more_outcomes is_unencodable refl some.unencodable one.unencodable both.unencodable counts.unencodable own.unencodable sum.unencodable;
    }

  pub all_counted : (counters : Counters) → CountsTasks list (length run.program.tasks) counters → CountsList list counters
  all_counted counters counts =
      subst (λ (r : List Record). Counted r (outcomes_of list) counters) (all_below run all list)
      (subst (λ (o : List OutcomeAt). Counted (below (length run.program.tasks) all) o counters) (all_came run all list) counts)
