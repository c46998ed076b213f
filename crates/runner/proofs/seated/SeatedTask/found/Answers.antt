-- By the records at the seat, which reach the machine.
use Rattle.std.proofs.Common.{◌≡◌, ◌∙◌, false, inl, inr, length, reverse, sym, true, vec_capacity}
use Rattle.executions.specs.execution.Run.{task_of, task_setting}
use Rattle.runner.proofs.SeatedLemmas.{HasRegisters, is_found, seat_reaches}
use Rattle.runner.proofs.seated.SeatedTask.found.Goals as goal
use Rattle.runner.specs.Terms.{run_by}
use Rattle.program_order.specs.WrittenOrder.{SpellsAll}

pub returns-then-stuck-clause-stuck : goal.returns-then-stuck-clause-stuck
returns-then-stuck-clause-stuck c = λ terms are seated failed.
    let it = c.args.self in
    let reach = seat_reaches (run_by terms) it.number it.seat.records it.run it.log it.reports.items (vec_capacity it.reports) are.can
    seated.there seated.led in
    (it.seat.records, (c.stuck.ensures.records _ _ _ _ reach.leads reach.written reach.scopes reach.rises).0 c.if-stuck.true)

pub returns-clause-found : goal.returns-clause-found
returns-clause-found c = λ terms are seated.
    let it = c.args.self in
    let run = run_by terms in
    let reach = seat_reaches run it.number it.seat.records it.run it.log it.reports.items (vec_capacity it.reports) are.can
    seated.there seated.led in
    let whole : SpellsAll (task_setting run it.number) (length (task_of run it.number).registers) (task_of run it.number).body
    (reverse it.seat.records) =
    elim (c.requires.over _ _ _ _ reach) [
      | inl spells ↦ spells
      | inr stuck ↦
          let is = (c.stuck.ensures.records _ _ _ _ reach.leads reach.written reach.scopes reach.rises).1 stuck in
          let no : true ≡ false = sym is ∙ c.if-stuck.false in absurd (cc)
    ] in
    let values : HasRegisters it.run c.in_ok-registers.registers.items = λ s registers body records leads later.
    c.in_ok-registers.ensures.items_if_clones_equal (λ x y same. same) ∙ c.registers.ensures s registers body records leads later in
    is_found c.law_no_task_stops.ensures c.law_few_watches_are_over.ensures.reports c.law_machines_stand_where_the_records_tell.ensures.registers
    c.law_machines_stand_where_the_records_tell.ensures.unbalanced run terms.table.now it.number
    (record {
      seat = it.seat;
      log = it.log;
      reports = it.reports;
      registers = c.in_ok-registers.registers;
      unbalanced = c.unbalanced-unbalanced.result;
    })
    it.run (vec_capacity it.reports) are.can seated.there seated.table seated.own seated.led seated.room whole values
    c.unbalanced-unbalanced.ensures
