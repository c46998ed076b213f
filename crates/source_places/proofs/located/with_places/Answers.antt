-- What is found of the program is found of its text.
use Rattle.std.proofs.Common.{ℕ, List, subst}
use Rattle.std.proofs.lemmas.Result.{IfOk-weaker}
use Rattle.litmus_parse.specs.Read.{IsReadAs}
use Rattle.source_places.specs.Located.{IsLocatedIn}
use Rattle.source_places.proofs.located.with_places.Goals as goal

pub returns-in-Ok : goal.returns-in-Ok
returns-in-Ok c =
    let program = c.in-Ok.reading.program in
    let text = c.args.text.now in
    let read : IsReadAs text program = record { spelled = c.in-Ok.ensures.spelled; limits = c.in-Ok.ensures.keeps_limits } in
    IfOk-weaker c.with_program.result _ _
    (λ found is. record {
      program = program;
      read = read;
      is = subst (λ (file : List ℕ). IsLocatedIn program file text c.args.settings.now c.args.output.now found.items)
          c.as_bytes.ensures.value is;
    })
    c.with_program.ensures
