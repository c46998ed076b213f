-- The lines are of the waits.
use Rattle.std.proofs.Common.{List, subst}
use Rattle.std.proofs.lemmas.Result.{IfOk-weaker}
use Rattle.source_places.proofs.deadlocks.explain.lines_at.Goals as goal
use Rattle.source_places.specs.deadlocks.Lines.{AreWaitLines}
use Rattle.source_places.specs.declared.deadlocks.waits.LockWait.{LockWait}

pub returns : goal.returns
returns c = λ run records leads.
    IfOk-weaker c.wait_lines.result _ _
    (λ said are. record {
      waits = c.in_ok-waits.waits.items;
      waits_are = c.in_ok-waits.ensures run records leads;
      lines = subst (λ (waits : List LockWait). AreWaitLines c.args.variables.now c.args.file.now c.args.text.now waits said.items)
          c.deref-2.ensures.value are;
    })
    c.wait_lines.ensures
