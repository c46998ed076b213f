-- What the sites of a program are told of by.
use Rattle.std.proofs.Common.{◌≡◌, ◌↔◌, Contains, List, refl, subst, sym}
use Rattle.std.specs.Arc.{arc_value}
use Rattle.litmus_step.specs.Runs.{run_of}
use Rattle.litmus_syntax.specs.declared.program.Program.{Program}
use Rattle.litmus_syntax.specs.declared.program.Variable.{Variable}
use Rattle.prepared_program.specs.declared.program_layout.layout.Layout.{Layout}
use Rattle.prepared_program.specs.declared.program_sites.prepared.Prepared.{Prepared}
use Rattle.prepared_program.specs.declared.program_sites.settings.Settings.{Settings}
use Rattle.prepared_program.specs.program_layout.Lays.{Lays}
use Rattle.prepared_program.specs.program_layout.Places.{places_of}
use Rattle.prepared_program.specs.program_sites.Prepared.{IsPrepared, sites_in}
use Rattle.race_output.specs.Sites.{AreSourcesOf}
use Rattle.races.specs.Pairs.{HasSite, run_with}
use Rattle.races.specs.declared.placed.PlacedSite.{PlacedSite}

-- the sites and the variables of a program that is made ready are those of its run
pub are_sources : (program : Program) (settings : Settings) (prepared : Prepared) (found sites : List PlacedSite) (variables : List Variable) (layout : Layout)
    → IsPrepared program settings prepared
    → ((placed : PlacedSite) → Contains found placed ↔ HasSite (run_with program settings (sites_in prepared)) placed.name placed.site)
    → sites ≡ found → variables ≡ program.variables → layout ≡ arc_value prepared.layout
    → AreSourcesOf (run_of program settings (sites_in prepared)) sites variables layout settings.plain_writes_atomic
are_sources program settings prepared found sites variables layout ready are s v l = record {
  sites_are = subst (λ (all : List PlacedSite). (placed : PlacedSite)
      → Contains all placed ↔ HasSite (run_with program settings (sites_in prepared)) placed.name placed.site) (sym s) are;
  variables_are = v;
  lays = subst (Lays (places_of settings.places.items) variables) (sym l)
      (subst (λ (all : List Variable). Lays (places_of settings.places.items) all (arc_value prepared.layout)) (sym v) ready.lays);
  atomic = refl;
}
