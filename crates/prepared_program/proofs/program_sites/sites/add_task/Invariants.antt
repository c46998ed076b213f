-- The accesses at earlier sites are added.
use Rattle.std.proofs.Common.{◌<◌}
use Rattle.prepared_program.specs.program_sites.Added.{Adds, IsAt}
use Rattle.prepared_program.proofs.program_sites.sites.add_task.Given as goal

abbrev pub invariant-loop-site_number : goal.invariant-loop-site_number
invariant-loop-site_number l =
    Adds l.initial.sites l.sites (λ a. (a.site < l.site_number) × IsAt l.number l.site-items a)
