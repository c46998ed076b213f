-- How the totals of a list agree.
use Rattle.std.specs.Prelude.{◌≡◌, ◌≤◌, ◌+◌, ℕ, Bool, true, false, List, Option, Some, count_by}
use Rattle.executions.specs.execution.Observed.{OutcomeAt}
use Rattle.setup_access.specs.declared.outcome.Outcome.{Outcome}
use Rattle.slot_table.specs.declared.records.Record.{Record}
use Rattle.slot_table.specs.declared.step.Answer.{Answer}
use Rattle.slot_table.specs.declared.step.Step.{Step}
use Rattle.slot_table.specs.declared.step.Step.TheVariants.{TryConsume}
use Rattle.task_log.specs.Counters.{is_arming, is_encoding, is_lost, is_masked, is_quiet, is_same, is_taken}
use Rattle.task_log.specs.Counters.{is_two_sided, is_unknown}

-- a watchpoint that was found is tried
abbrev pub is_try : Step → Answer → Bool
is_try (TryConsume index word) answer = true
is_try step answer = false

-- how many of these records are of such a step with such an answer
abbrev pub made_so : (Step → Answer → Bool) → List Record → ℕ
made_so is records = count_by (λ made. is made.step made.answer) records

-- how many of these outcomes are such
abbrev pub came_so : (Option Outcome → Bool) → List OutcomeAt → ℕ
came_so is outcomes = count_by (λ came. is (Some came.outcome)) outcomes

-- Each arming ends quiet or taken. Each try takes or loses. Each arming that ends taken is reported on
-- two sides, or dropped: for its encoding, the same value, or the mask. Only one that ends quiet may
-- bring a report of unknown origin.
pub record Totals (records : List Record) (outcomes : List OutcomeAt) : Type 0 where
  pub arms : made_so is_arming records ≡ made_so is_quiet records + made_so is_taken records
  pub tries : made_so is_try records ≡ made_so is_taken records + made_so is_lost records
  pub taken : made_so is_taken records
      ≡ came_so is_two_sided outcomes + came_so is_encoding outcomes + came_so is_same outcomes
      + came_so is_masked outcomes
  pub unknown : came_so is_unknown outcomes ≤ made_so is_quiet records
