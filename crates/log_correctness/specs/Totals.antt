-- How often each thing comes of the checks in an execution.
use Rattle.std.specs.Prelude.{◌≡◌, ◌++◌, ℕ, zero, suc, length, List, [], ◌∷◌, Some, count_by, filter, nat_lt, if◌then◌else◌}
use Rattle.executions.specs.execution.Run.{Run}
use Rattle.executions.specs.execution.Execution.{Execution}
use Rattle.executions.specs.execution.Observed.{OutcomeAt, came_next, outcomes_of}
use Rattle.slot_table.specs.declared.records.Record.{Record}
use Rattle.task_log.specs.Counters.{is_arming, is_capacity, is_encoding, is_lost, is_masked, is_quiet, is_same, is_taken, is_two_sided, is_unencodable, is_unknown, resting, together}
use Rattle.task_log.specs.declared.counters.Counters.{Counters}
use Rattle.program_order.specs.WrittenOrder.{stands_after}

-- the outcomes that fell at these records of the tasks below a number
abbrev pub outcomes_below : {run : Run} {all : List Record} → Execution run all → ℕ → List Record → List OutcomeAt
outcomes_below list tasks [] = []
outcomes_below list tasks (latest ∷ earlier) =
    outcomes_below list tasks earlier
    ++ (if nat_lt latest.task tasks then came_next list latest earlier else [])

-- Each count is that of these records, and of these outcomes: armings, the consumes that end a watch quiet
-- or taken, and the tries that lost; and what came of checks, by its kind.
pub record Counted (records : List Record) (outcomes : List OutcomeAt) (counters : Counters) : Type 0 where
  pub arms : counters.arms ≡ resting (count_by (λ made. is_arming made.step made.answer) records)
  pub quiet : counters.quiet ≡ resting (count_by (λ made. is_quiet made.step made.answer) records)
  pub taken : counters.taken ≡ resting (count_by (λ made. is_taken made.step made.answer) records)
  pub lost : counters.lost ≡ resting (count_by (λ made. is_lost made.step made.answer) records)
  pub two_sided : counters.two_sided ≡ resting (count_by (λ came. is_two_sided (Some came.outcome)) outcomes)
  pub unknown : counters.unknown ≡ resting (count_by (λ came. is_unknown (Some came.outcome)) outcomes)
  pub encoding : counters.encoding ≡ resting (count_by (λ came. is_encoding (Some came.outcome)) outcomes)
  pub same : counters.same ≡ resting (count_by (λ came. is_same (Some came.outcome)) outcomes)
  pub masked : counters.masked ≡ resting (count_by (λ came. is_masked (Some came.outcome)) outcomes)
  pub capacity : counters.capacity ≡ resting (count_by (λ came. is_capacity (Some came.outcome)) outcomes)
  pub unencodable : counters.unencodable ≡ resting (count_by (λ came. is_unencodable (Some came.outcome)) outcomes)

-- the counters are those of the whole list
abbrev pub CountsList : {run : Run} {all : List Record} → Execution run all → Counters → Type 0
CountsList {all = all} list counters = Counted all (outcomes_of list) counters

-- the counters are those of its tasks below a number
abbrev pub CountsTasks : {run : Run} {all : List Record} → Execution run all → ℕ → Counters → Type 0
CountsTasks {all = all} list tasks counters =
    Counted (filter (λ made. nat_lt made.task tasks) all) (outcomes_below list tasks all) counters

-- the counters of some tasks and those of one more are together these
pub record AddUp (some one both : Counters) : Type 0 where
  pub arms : both.arms ≡ together some.arms one.arms
  pub quiet : both.quiet ≡ together some.quiet one.quiet
  pub taken : both.taken ≡ together some.taken one.taken
  pub lost : both.lost ≡ together some.lost one.lost
  pub two_sided : both.two_sided ≡ together some.two_sided one.two_sided
  pub unknown : both.unknown ≡ together some.unknown one.unknown
  pub encoding : both.encoding ≡ together some.encoding one.encoding
  pub same : both.same ≡ together some.same one.same
  pub masked : both.masked ≡ together some.masked one.masked
  pub capacity : both.capacity ≡ together some.capacity one.capacity
  pub unencodable : both.unencodable ≡ together some.unencodable one.unencodable

-- how many calls of the tasks below a number had nothing to end; the sum rests at the largest number of 64 bits
abbrev pub unbalanced_below : {run : Run} {all : List Record} → Execution run all → ℕ → ℕ
unbalanced_below list zero = 0
unbalanced_below list (suc task) = together (unbalanced_below list task) (stands_after (list.tasks task)).unbalanced

-- the count is of the calls of all its tasks that had nothing to end
abbrev pub IsUnbalanced : {run : Run} {all : List Record} → Execution run all → ℕ → Type 0
IsUnbalanced {run = run} list count = count ≡ unbalanced_below list (length run.program.tasks)
