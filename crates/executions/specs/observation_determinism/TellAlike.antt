-- What records tell, whatever completes them.
use Rattle.std.specs.Prelude.{◌≡◌, ◌<◌, ◌≤◌, ℕ, List, map}
use Rattle.litmus_syntax.specs.Tree.{Block}
use Rattle.slot_table.specs.declared.records.Record.{Record}
use Rattle.program_order.specs.Standing.{Point, Setting}
use Rattle.program_order.specs.TaskObserved.{came_of, did_next, fell_next, stands_by}
use Rattle.program_order.specs.WrittenOrder.{WrittenOrder}

-- a task stands at both points alike: it has done the same, with the same registers, and as many of its
-- calls have had nothing to end
pub record StandsAlike (one other : Point) : Type 0 where
  pub progress : one.progress ≡ other.progress
  pub unbalanced : one.unbalanced ≡ other.unbalanced

-- Two readings of a text tell the same by so many records: where the task stood before and after each of
-- them, what it did with it and before the next, and the outcomes of its checks that fell at it.
pub record TellAlike {s : Setting} {registers : ℕ} {body : Block} {records others : List Record}
    (one : WrittenOrder s registers body records) (other : WrittenOrder s registers body others)
    (shared : ℕ) : Type 0 where
  pub stands : (made : ℕ) → made ≤ shared → StandsAlike (stands_by one made) (stands_by other made)
  pub did : (made : ℕ) → made < shared → did_next one made ≡ did_next other made
  pub came : (made : ℕ) → made < shared
      → map came_of (fell_next one made) ≡ map came_of (fell_next other made)
