-- By what its parts are made of.
use Rattle.std.proofs.Common.{◌∙◌, arith, subst, sym}
use Rattle.access_types.specs.Sites.{AccessMap}
use Rattle.litmus_syntax.specs.Views.{program_of}
use Rattle.prepared_program.specs.program_layout.Lays.{Lays}
use Rattle.prepared_program.specs.program_layout.Places.{AreFit, places_of}
use Rattle.prepared_program.specs.declared.program_layout.layout.Layout.{Layout}
use Rattle.prepared_program.specs.program_sites.Sites.{AreSitesOf}
use Rattle.prepared_program.proofs.program_sites.ErrorLemmas.{layout_fails, no_slots, no_value, of_preparing, sites_fail}
use Rattle.prepared_program.proofs.program_sites.prepared.Prepared.new.Goals as goal

pub returns-clause-prepared : goal.returns-clause-prepared
returns-clause-prepared c =
    let program = c.args.program.now in
    let places = places_of c.args.settings.now.places.items in
    let lays = rw (c.as_slice-places.ensures.value, c.as_slice.ensures) at c.in_ok-layout.ensures.lays in
    let are = rw c.as_slice-places.ensures.value at c.in_ok-sites.ensures.sites in
    let parts = c.in_ok-prepared.ensures.parts in
    let laid = c.in_ok-prepared.ensures.laid _ _ lays in
    record {
      some_slots = omega (arith, c.if-settings-lt3.false);
      few_slots = omega (arith, c.if-settings-gt1024.false);
      turns = c.rules.ensures.turns;
      fit = rw (c.as_slice-places.ensures.value, c.as_slice.ensures) at c.in_ok-layout.ensures.fit;
      lays = subst (λ (layout : Layout). Lays places program.variables layout) (sym parts.0) lays;
      locks = laid.0;
      cells = laid.1;
      words = laid.2;
      sites = subst (λ (sites : AccessMap). AreSitesOf (program_of program) places sites) (sym parts.1) are;
      accesses = c.in_ok-prepared.ensures.accesses ∙ c.in_ok-accesses.ensures;
      rules = parts.2 ∙ c.rules.ensures.are;
    }

pub returns-in_err-layout : goal.returns-in_err-layout
returns-in_err-layout c =
    let Fit : Type 0 = AreFit c.args.program.now.variables c.args.settings.now.places.items in
    let tells = layout_fails Fit c.from_residual.result c.in_err-layout.field-0.0 c.from_residual.ensures.1
    (rw (c.as_slice-places.ensures.value, c.as_slice.ensures) at c.in_err-layout.ensures.bad_place) in
    record {
      prepared = no_value c.from_residual.result _ c.from_residual.ensures.0;
      bad_slots = no_slots Fit c.from_residual.result tells;
      bad_place = tells.bad_place;
      errors = of_preparing Fit c.from_residual.result tells;
    }

pub returns-in_err-sites : goal.returns-in_err-sites
returns-in_err-sites c =
    let Fit : Type 0 = AreFit c.args.program.now.variables c.args.settings.now.places.items in
    let tells = sites_fail Fit c.from_residual-in_err-sites.result c.in_err-sites.field-0.0 c.from_residual-in_err-sites.ensures.1
    (rw c.as_slice-places.ensures.value at c.in_err-sites.ensures.bad_place) c.in_err-sites.ensures.errors in
    record {
      prepared = no_value c.from_residual-in_err-sites.result _ c.from_residual-in_err-sites.ensures.0;
      bad_slots = no_slots Fit c.from_residual-in_err-sites.result tells;
      bad_place = tells.bad_place;
      errors = of_preparing Fit c.from_residual-in_err-sites.result tells;
    }
