-- By the law on tasks at their seats.
use Rattle.std.proofs.Common.{◌≡◌, ◌≤◌, ◌∙◌, ap, false, is_some, refl, subst, sym, true, vec_capacity}
use Rattle.litmus_step.specs.Kept.{watches_kept}
use Rattle.litmus_step.specs.Leads.{MakesNext}
use Rattle.runner.proofs.SeatedLemmas.{may_make, seat_leads_on, table_stays, task_stays}
use Rattle.runner.proofs.seated.SeatedTask.steps.Goals as goal
use Rattle.runner.proofs.seated.SeatedTask.steps.Goals.{in-None, in-Some+in_default}
use Rattle.runner.specs.Terms.{run_by}
use Rattle.shared_table.specs.Seats.{Sitting}

pub loop-init : goal.loop-init
loop-init g c =
    let is = c.board-board.ensures in
    let seated = c.requires.seated in
    record {
      table = ap (λ (s : Sitting). s.table) is ∙ seated.table;
      own = ap (λ (s : Sitting). s.task) is ∙ seated.own;
      led = rw is seated.led;
      room = seated.room;
    }

pub step-answer-requires : goal.step-answer-requires
step-answer-requires g c =
    let next : MakesNext c.loop.run c.in-Some-next.step =
    record { says = c.in-Some-next.ensures.says; only = c.in-Some-next.ensures.only; within = c.in-Some-next.ensures.within } in
    may_make c.law_seats_lead_on.ensures.names c.law_seats_lead_on.ensures.allows c.args.terms c.args.self.number c.loop.board c.loop.run c.loop.log
    c.loop.reports.items (vec_capacity c.loop.reports) c.in-Some-next.step c.requires.terms c.requires.seated.there c.loop.invariant.table
    c.loop.invariant.own c.loop.invariant.led next

pub loop-preserved : goal.loop-preserved
loop-preserved g c =
    let next : MakesNext c.loop.run c.in-Some-next.step =
    record { says = c.in-Some-next.ensures.says; only = c.in-Some-next.ensures.only; within = c.in-Some-next.ensures.within } in
    record {
      table = table_stays c.loop.board c.step-answer.new.self c.in-Some-next.step c.step-answer.result c.args.terms.table.now
          c.step-answer.ensures.made c.loop.invariant.table;
      own = task_stays c.loop.board c.step-answer.new.self c.in-Some-next.step c.step-answer.result c.args.self.number
          c.step-answer.ensures.made c.loop.invariant.own;
      led = seat_leads_on c.law_seats_lead_on.ensures.leads (run_by c.args.terms) c.args.self.number c.loop.board c.step-answer.new.self c.loop.run
          c.answer.new.self c.loop.log c.note.new.log c.loop.reports.items c.note.new.reports.items (vec_capacity c.loop.reports)
          (vec_capacity c.note.new.reports) c.in-Some-next.step c.step-answer.result c.begins-begins.result c.last_outcome.result
          c.requires.terms.can c.requires.seated.there c.loop.invariant.own c.loop.invariant.led next c.step-answer.ensures.kind
          c.step-answer.ensures.made c.answer.ensures.leads c.begins-begins.ensures c.answer.ensures.fell c.last_outcome.ensures
          c.note.ensures.noted c.note.ensures.room;
      room = subst (λ n. watches_kept (run_by c.args.terms) c.args.self.number ≤ n) (sym c.note.ensures.room) c.loop.invariant.room;
    }

pub returns-clause-seated : goal.returns-clause-seated
returns-clause-seated g c =
    let is = c.into_seat.ensures in
    record {
      there = c.requires.seated.there;
      number = refl;
      table = ◌∙◌ {b = c.loop.board.table} (ap (λ (s : Sitting). s.table) is) c.loop.invariant.table;
      own = ◌∙◌ {b = c.loop.board.task} (ap (λ (s : Sitting). s.task) is) c.loop.invariant.own;
      led = rw is c.loop.invariant.led;
      room = c.loop.invariant.room;
    }

pub returns-clause-over : goal.returns-clause-over
returns-clause-over g c = λ s registers body records reach.
    elim c.match-next.branch [
      | in-None w ↦ let no : false ≡ true = w.in-None.ensures.steps in absurd (cc)
      | in-Some+in_default w ↦ (w.next-in-loop.ensures.over s registers body records reach.leads reach.written reach.scopes reach.rises).0
          (ap is_some w.in_default.is)
    ]
