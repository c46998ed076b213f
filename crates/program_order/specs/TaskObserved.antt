-- What a task's records tell: what it did, record by record, and what came of its checks. What it would
-- still do is as it completes its records in the written order.
use Rattle.std.specs.Prelude.{◌+◌, ◌-◌, ◌++◌, ◌==◌, ℕ, List, drop, length}
use Rattle.std.specs.List.{filter}
use Rattle.access_types.specs.Access.{Access}
use Rattle.access_types.specs.declared.history.Happening.{Happening}
use Rattle.litmus_syntax.specs.Tree.{Block}
use Rattle.setup_access.specs.Check.{Fallen}
use Rattle.setup_access.specs.declared.outcome.Outcome.{Outcome}
use Rattle.slot_table.specs.declared.records.Record.{Record}
use Rattle.program_order.specs.Standing.{Point, Setting, point_by}
use Rattle.program_order.specs.WrittenOrder.{WrittenOrder, first_point}

-- how many records of a task were still to come after so many of them
abbrev pub to_come : {s : Setting} {registers : ℕ} {body : Block} {records : List Record}
    → WrittenOrder s registers body records → ℕ → ℕ
to_come {records = records} written made = length (records ++ written.more) - made

-- where the task stood then: what it computes between two steps it has computed after the earlier one
abbrev pub stands_by : {s : Setting} {registers : ℕ} {body : Block} {records : List Record}
    → WrittenOrder s registers body records → ℕ → Point
stands_by {registers = registers} written made =
    point_by (to_come written made) (first_point (to_come written 0) registers)
    written.whole.end.way

-- what it had done by then
abbrev pub did_by : {s : Setting} {registers : ℕ} {body : Block} {records : List Record}
    → WrittenOrder s registers body records → ℕ → List Happening
did_by written made = (stands_by written made).progress.did

-- what it did with its next record, up to the one after that
abbrev pub did_next : {s : Setting} {registers : ℕ} {body : Block} {records : List Record}
    → WrittenOrder s registers body records → ℕ → List Happening
did_next written made = drop (length (did_by written made)) (did_by written (made + 1))

-- the outcomes of its checks that fell at its next record
abbrev pub fell_next : {s : Setting} {registers : ℕ} {body : Block} {records : List Record}
    → WrittenOrder s registers body records → ℕ → List Fallen
fell_next written made =
    filter (λ fallen. length fallen.later == to_come written (made + 1)) written.whole.end.outcomes

-- what came of checking an access once
pub record Came : Type 0 where
  pub access : Access
  pub outcome : Outcome

abbrev pub came_of : Fallen → Came
came_of fallen = record { access = fallen.access; outcome = fallen.outcome }
