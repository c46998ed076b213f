-- What is kept is of the runs so far, and what is ready comes of runs of the program.
use Rattle.std.proofs.Common.{All}
use Rattle.prepared_program.specs.program_sites.Prepared.{sites_in}
use Rattle.run_stats.specs.Made.{AreMadeSoFar}
use Rattle.run_stats.specs.Runs.{AreNumberedFrom, Comes}
use Rattle.run_stats.proofs.made.made_of.Given as goal

abbrev pub invariant-loop-run : goal.invariant-loop-run
invariant-loop-run g l = record {
  made : AreMadeSoFar l.plan.program.now l.plan.settings.now (sites_in l.plan.prepared.now) l.plan.times l.run l.made;
  ready : All (Comes l.plan.program.now l.plan.settings.now) l.ready.items;
  numbers : AreNumberedFrom l.run l.ready.items;
}
