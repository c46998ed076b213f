-- Each world is of its run; without watching the accesses by ticket are the same.
use Rattle.std.proofs.Common.{[], subst}
use Rattle.access_types.specs.Sites.{AccessMap}
use Rattle.litmus_step.specs.Runs.{run_of}
use Rattle.litmus_step.specs.Steps.{LeadsTo}
use Rattle.race_verdicts.proofs.firsts.Firsts.new.Goals as goal
use Rattle.race_verdicts.specs.Firsts.{unwatched_settings}
use Rattle.race_search.specs.unwatched_executions.Unwatched.{unwatched}

pub first_world-requires-2-clause-ready : goal.first_world-requires-2-clause-ready
first_world-requires-2-clause-ready c =
    let ready = c.requires.ready in
    (unwatched_settings ready.0, c.in_ok-without.ensures.prepared c.args.program.now ready.0 ready.1)

pub returns : goal.returns
returns c = λ settings is. record {
  watched = c.in_ok-world.ensures settings is;
  unwatched_leads =
      subst (λ (sites : AccessMap). LeadsTo (unwatched (run_of c.args.program.now settings sites)) [] c.in_ok-unwatched.unwatched) c.in_ok-without.ensures.sites
      (c.in_ok-unwatched.ensures (unwatched_settings settings) (c.in_ok-without.ensures.prepared c.args.program.now settings is));
}
