-- By what the run has of the list.
use Rattle.litmus_step.specs.Runs.{run_of}
use Rattle.run_output.proofs.finals.found_of.Goals as goal

pub returns : goal.returns
returns g c = λ settings sites records comes prepared.
    let run = run_of c.args.program.now settings sites in
    record {
      counters = c.counters.ensures run records comes;
      unbalanced = c.unbalanced.ensures run records comes;
      held = (c.in_ok-end.ensures settings sites records comes prepared).held;
    }
