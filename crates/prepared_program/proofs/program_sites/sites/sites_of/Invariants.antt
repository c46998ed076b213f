-- The accesses of earlier tasks are added.
use Rattle.std.proofs.Common.{◌<◌}
use Rattle.litmus_syntax.specs.Views.{program_of}
use Rattle.prepared_program.specs.program_layout.Places.{places_of}
use Rattle.prepared_program.specs.program_sites.Added.{Adds}
use Rattle.prepared_program.specs.program_sites.Sites.{IsOfProgram}
use Rattle.prepared_program.proofs.program_sites.sites.sites_of.Given as goal

abbrev pub invariant-loop-number : goal.invariant-loop-number
invariant-loop-number l =
    Adds l.initial.sites l.sites (λ a. (a.task < l.number) × IsOfProgram (program_of l.program) (places_of l.places) a)
