-- The text so far and that of the tasks to come are the text of all.
use Rattle.std.proofs.Common.{◌≡◌, ◌++◌, drop, map}
use Rattle.std.specs.String.{string_bytes}
use Rattle.litmus_syntax.specs.PrintedForm.{tasks_text}
use Rattle.litmus_syntax.specs.Views.{task_of}
use Rattle.litmus_print.proofs.program.append_tasks.Given as goal

abbrev pub invariant-loop-number : goal.invariant-loop-number
invariant-loop-number l =
    string_bytes l.text ++ tasks_text l.variables l.number (map task_of (drop l.number l.tasks))
    ≡ string_bytes l.initial.text ++ tasks_text l.variables 0 (map task_of l.tasks)
