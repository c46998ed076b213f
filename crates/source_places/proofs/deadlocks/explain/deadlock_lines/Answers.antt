-- What is said of the program is said of its text.
use Rattle.std.proofs.Common.{ℕ, List, subst}
use Rattle.std.proofs.lemmas.Result.{IfOk-weaker}
use Rattle.litmus_parse.specs.Read.{IsReadAs}
use Rattle.prepared_program.specs.step_schedule.Order.{asked_by}
use Rattle.source_places.proofs.deadlocks.explain.deadlock_lines.Goals as goal
use Rattle.source_places.specs.deadlocks.Explained.{AreSaidIn}

pub returns-in-Ok : goal.returns-in-Ok
returns-in-Ok c =
    let program = c.in-Ok.reading.program in
    let text = c.args.text.now in
    let read : IsReadAs text program = record { spelled = c.in-Ok.ensures.spelled; limits = c.in-Ok.ensures.keeps_limits } in
    IfOk-weaker c.lines_behind.result _ _
    (λ said is. record {
      program = program;
      read = read;
      is = subst (λ (file : List ℕ). AreSaidIn program file text c.args.settings.now (asked_by c.args.entries.now) said.items)
          c.as_bytes.ensures.value is;
    })
    c.lines_behind.ensures
