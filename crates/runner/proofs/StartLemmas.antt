-- Tasks before their first steps.
use Rattle.std.proofs.Common.{◌≡◌, ◌+◌, ◌∙◌, [], ℕ, zero, suc, Some, ap, arith, inl, length, map, refl, slice_get, sym}
use Rattle.std.proofs.lemmas.List.{length-map}
use Rattle.std.proofs.lemmas.List.FromFn.{length-range_with_len}
use Rattle.std.specs.List.{range_with_len}
use Rattle.litmus_step.specs.Kept.{accesses_kept, watches_kept}
use Rattle.litmus_step.specs.Leads.{LeadsTask}
use Rattle.executions.specs.execution.Run.{Run}
use Rattle.executions.specs.execution.Execution.{Execution}
use Rattle.runner.specs.Led.{IsLed}
use Rattle.shared_table.specs.Seats.{Opened, Sitting, new_seats}
use Rattle.task_log.specs.Keeps.{Keeps}
use Rattle.task_log.specs.declared.log.TaskLog.{TaskLog}
use Rattle.task_run.specs.declared.run.TaskRun.{TaskRun}

some_same : (one other : Sitting) → Some one ≡ Some other → one ≡ other
some_same one other same = cc

abbrev new_seat : Opened → ℕ → Sitting
new_seat opened task = record { table = opened; task = task; records = [] }

-- the seat at a place is that of the task of this number
pub seats_of : (opened : Opened) (tasks at : ℕ) (seat : Sitting) → slice_get (new_seats opened tasks) at ≡ Some seat
    → seat ≡ record { table = opened; task = at; records = [] }
seats_of opened tasks at seat is = from tasks 0 at is ∙ ap (new_seat opened) (omega arith)
  where
    from : (n first k : ℕ) → slice_get (map (new_seat opened) (range_with_len first n)) k ≡ Some seat → seat ≡ new_seat opened (first + k)
    from zero first k is = absurd (cc)
    from (suc n) first zero is = sym (some_same (new_seat opened first) seat is) ∙ ap (new_seat opened) (omega arith)
    from (suc n) first (suc k) is = from n (first + 1) k is ∙ ap (new_seat opened) (omega arith)

pub seats_are : (opened : Opened) (tasks : ℕ) → length (new_seats opened tasks) ≡ tasks
seats_are opened tasks = length-map (range_with_len 0 tasks) (new_seat opened) ∙ length-range_with_len 0 tasks

-- a task that has made no step is led to by no record
pub first_led : (run : Run) (task : ℕ) (machine : TaskRun) (log : TaskLog) (room : ℕ) → Execution run [] → LeadsTask run task [] machine
    → Keeps (accesses_kept run task) (watches_kept run task) [] log → IsLed run task [] machine log [] room
first_led run task machine log room list leads keeps = record {
  written = list.tasks task;
  within = list.within task;
  leads = leads;
  noted = [];
  notes = tt;
  keeps = keeps;
  reported = record { later = []; reported = refl; full = inl refl };
}
