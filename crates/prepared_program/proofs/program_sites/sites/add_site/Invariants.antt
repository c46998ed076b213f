-- The accesses of earlier repetitions are added.
use Rattle.std.proofs.Common.{◌≡◌, ◌<◌}
use Rattle.litmus_semantics.specs.TextSites.{access_at}
use Rattle.prepared_program.specs.program_sites.Added.{Adds}
use Rattle.prepared_program.proofs.program_sites.sites.add_site.Given as goal

abbrev pub invariant-loop-rep : goal.invariant-loop-rep
invariant-loop-rep l =
    Adds l.initial.sites l.sites (λ a. (a.rep < l.rep) × (a ≡ access_at l.task l.number l.site a.rep))
