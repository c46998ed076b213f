-- What a seat holds, tasks with their records, and how it changes as seats are cut, joined and make steps.
use Rattle.std.specs.Prelude.{ℕ, List, [], ◌∷◌, map, ◌++◌}
use Rattle.std.specs.List.{range_with_len}
use Rattle.slot_table.specs.declared.records.Record.{Record}
use Rattle.slot_table.specs.declared.step.Answer.{Answer}
use Rattle.slot_table.specs.declared.step.Step.{Step}
use Rattle.shared_table.specs.Given.{Given}
use Rattle.shared_table.specs.declared.view.Held.{Held}
use Rattle.shared_table.specs.declared.view.View.{View}

-- a seat that holds the records of one task
abbrev pub alone : Given → ℕ → List Record → View
alone given task records =
    record { opening = given; held = record { task = task; records = records } ∷ [] }

-- so many tasks from a number on, with no record
abbrev pub unbegun : ℕ → ℕ → List Held
unbegun from count =
    map (λ task. record { task = task; records = [] }) (range_with_len from count)

-- a seat that holds these
abbrev pub holding : Given → ℕ → ℕ → View
holding given from count = record { opening = given; held = unbegun from count }

-- the first seat holds all tasks, and no record
abbrev pub everyone : Given → View
everyone given = holding given 0 given.tasks

-- the first task leaves a seat for one of its own
abbrev pub first_of : List Held → List Held
first_of [] = []
first_of (own ∷ others) = own ∷ []

abbrev pub without_first : List Held → List Held
without_first [] = []
without_first (own ∷ others) = others

-- the task of a seat of one task
abbrev pub own_task : List Held → ℕ
own_task [] = 0
own_task (own ∷ others) = own.task

-- the records that a seat of one task holds
abbrev pub own_records : List Held → List Record
own_records [] = []
own_records (own ∷ others) = own.records

-- one more record of the one task
abbrev pub with_record : Step → Answer → List Held → List Held
with_record step answer [] = []
with_record step answer (own ∷ others) =
    record own {
      records = record { task = own.task; step = step; answer = answer } ∷ own.records;
    } ∷ others

-- the view of a seat of one task after its step
abbrev pub noted : View → Step → Answer → View
noted view step answer = record view { held = with_record step answer view.held }

-- a seat takes in what another holds
abbrev pub with_both : View → View → View
with_both view other = record view { held = other.held ++ view.held }

-- the other holds nothing any more
abbrev pub nothing_held : View
nothing_held = record {
  opening = record { page_slots = 0; tasks = 0; locks = 0; cells = [] };
  held = [];
}
