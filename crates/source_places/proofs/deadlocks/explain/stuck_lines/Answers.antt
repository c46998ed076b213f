-- What is said of the program is said of its text.
use Rattle.std.proofs.Common.{ℕ, List, subst}
use Rattle.std.proofs.lemmas.Result.{IfOk-weaker}
use Rattle.litmus_parse.specs.Read.{IsReadAs}
use Rattle.source_places.proofs.deadlocks.explain.stuck_lines.Goals as goal
use Rattle.source_places.specs.deadlocks.Explained.{AreSaidIn}

pub returns-in-Ok : goal.returns-in-Ok
returns-in-Ok c =
    let program = c.in-Ok.reading.program in
    let text = c.args.text.now in
    let read : IsReadAs text program = record { spelled = c.in-Ok.ensures.spelled; limits = c.in-Ok.ensures.keeps_limits } in
    IfOk-weaker c.lines_stuck.result _ _
    (λ said is. (
      is.0,
      record {
        program = program;
        read = read;
        is = subst (λ (file : List ℕ). AreSaidIn program file text c.args.settings.now is.0 said.items) c.as_bytes.ensures.value is.1;
      },
    ))
    c.lines_stuck.ensures
