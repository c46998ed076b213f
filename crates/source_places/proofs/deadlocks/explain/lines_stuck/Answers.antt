-- The world is one where some steps lead.
use Rattle.std.proofs.Common.{[], List, subst}
use Rattle.std.proofs.lemmas.Result.{IfOk-weaker}
use Rattle.std.specs.Arc.{arc_value}
use Rattle.litmus_step.specs.Runs.{run_of}
use Rattle.litmus_syntax.specs.declared.program.Variable.{Variable}
use Rattle.source_places.proofs.deadlocks.explain.lines_stuck.Goals as goal
use Rattle.source_places.specs.deadlocks.Explained.{AreSaidAt}

pub returns : goal.returns
returns c =
    let settings = c.args.settings.now in
    let run = run_of c.args.program.now settings (arc_value c.in_ok-world.world.sites) in
    let first = c.in_ok-world.ensures.leads settings c.in-Ok.ensures.prepared in
    let led = c.make_steps_in_turn.ensures.1 run [] first in
    IfOk-weaker c.lines_at.result _ _
    (λ said is. (
      c.make_steps_in_turn.ensures.0,
      record {
        sites = arc_value c.in_ok-world.world.sites;
        records = led.0;
        asked = led.2;
        list = led.1.list;
        at = subst (λ (variables : List Variable). AreSaidAt run led.0 variables c.args.file.now c.args.text.now said.items)
            c.as_slice.ensures is;
      },
    ))
    (c.lines_at.ensures run led.0 led.1)
