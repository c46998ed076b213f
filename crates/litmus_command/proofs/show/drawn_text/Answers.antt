-- what is found of the program that is read is found of its text
use Rattle.std.proofs.Common.{◌≡◌, inl, inr, subst, sym}
use Rattle.std.proofs.lemmas.Result.{IfOk-weaker}
use Rattle.file_commands.specs.declared.failure.Failure.{Failure}
use Rattle.litmus_command.proofs.ResultLemmas.{map_err}
use Rattle.litmus_command.specs.Show.{IsUnsuited}
use Rattle.litmus_parse.specs.Read.{IsReadAs}
use Rattle.litmus_command.proofs.show.drawn_text.Goals as goal

pub returns-in-Ok-clause-drawn : goal.returns-in-Ok-clause-drawn
returns-in-Ok-clause-drawn c =
    let program = c.in-Ok.reading.program in
    let read : IsReadAs c.args.text.now program = record { spelled = c.in-Ok.ensures.spelled; limits = c.in-Ok.ensures.keeps_limits } in
    IfOk-weaker c.drawn_reading.result _ _
    (λ written found. record { program = program; read = read; labels = found.0; labels_are = found.1; drawn = found.2 })
    c.drawn_reading.ensures.drawn

pub returns-in-Ok-clause-undrawn : goal.returns-in-Ok-clause-undrawn
returns-in-Ok-clause-undrawn c =
    let program = c.in-Ok.reading.program in
    let read : IsReadAs c.args.text.now program = record { spelled = c.in-Ok.ensures.spelled; limits = c.in-Ok.ensures.keeps_limits } in
    map_err c.drawn_reading.result
    (λ why is. elim is [
      | inl memory ↦ subst (λ (f : Failure). IsUnsuited c.args.text.now c.args.picture.now f) (sym memory) tt
      | inr other ↦ subst (λ (f : Failure). IsUnsuited c.args.text.now c.args.picture.now f) (sym other.0)
          (record { program = program; read = read; unfit = other.1 })
    ])
    c.drawn_reading.ensures.undrawn

pub returns-in-Err-clause-undrawn : goal.returns-in-Err-clause-undrawn
returns-in-Err-clause-undrawn c = λ program spells. (c.in-Err.ensures.complete program spells).1
