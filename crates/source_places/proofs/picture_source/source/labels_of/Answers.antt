-- the labels are those of the sites of the program
use Rattle.std.proofs.Common.{◌≡◌, ◌∙◌, [], List, ap, false, map, subst, sym, true}
use Rattle.std.specs.Arc.{arc_value}
use Rattle.litmus_syntax.specs.declared.program.Variable.{Variable}
use Rattle.prepared_program.specs.declared.program_layout.layout.Layout.{Layout}
use Rattle.prepared_program.specs.program_layout.Lays.{Lays}
use Rattle.prepared_program.specs.program_layout.Places.{places_of}
use Rattle.prepared_program.specs.program_sites.Prepared.{sites_in}
use Rattle.races.specs.declared.placed.PlacedSite.{PlacedSite}
use Rattle.source_places.specs.picture_source.Fit.{fits}
use Rattle.source_places.specs.picture_source.Labels.{site_says}
use Rattle.source_places.proofs.picture_source.source.labels_of.Goals as goal

pub returns-then-not-branch : goal.returns-then-not-branch
returns-then-not-branch c =
    let settings = c.plain_settings-settings.result in
    let no : c.in_ok-fits.field-0 ≡ false = cc in
    record {
      settings = settings;
      unplaced = c.plain_settings-settings.ensures;
      accesses = sites_in c.in-Ok.prepared;
      sites = c.in_ok-sites.sites.items;
      sites_are = c.in_ok-sites.ensures.sites settings c.in-Ok.ensures.prepared;
      order = c.in_ok-sites.ensures.order;
      begins = [];
      found = ap (λ (sites : List PlacedSite). fits sites c.args.rows.now) (sym c.deref.ensures.value) ∙ sym c.in_ok-fits.ensures ∙ no;
    }

pub returns : goal.returns
returns c =
    let program = c.args.reading.now.program in
    let settings = c.plain_settings-settings.result in
    let ready = c.in-Ok.ensures.prepared in
    let places = places_of settings.places.items in
    let text = c.args.text.now in
    let begins = map (λ own. own.items) c.deref-2.result.now in
    let yes : c.in_ok-fits.field-0 ≡ true = cc in
    let lays = subst (λ (layout : Layout). Lays places c.as_slice.result.now layout) (sym c.deref-3.ensures)
    (subst (λ (variables : List Variable). Lays places variables (arc_value c.in-Ok.prepared.layout)) (sym c.as_slice.ensures) ready.lays) in
    record {
      settings = settings;
      unplaced = c.plain_settings-settings.ensures;
      accesses = sites_in c.in-Ok.prepared;
      sites = c.in_ok-sites.sites.items;
      sites_are = c.in_ok-sites.ensures.sites settings ready;
      order = c.in_ok-sites.ensures.order;
      begins = begins;
      found = (
        ap (λ (sites : List PlacedSite). fits sites c.args.rows.now) (sym c.deref.ensures.value) ∙ sym c.in_ok-fits.ensures ∙ yes,
        c.in_ok-found.ensures places lays
            ∙ (ap (λ (variables : List Variable). map (site_says places variables text begins) c.deref-4.result.now) c.as_slice.ensures
            ∙ ap (λ (sites : List PlacedSite). map (site_says places program.variables text begins) sites) c.deref-4.ensures.value),
      );
    }
