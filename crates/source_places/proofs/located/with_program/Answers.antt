-- The places are those of the sites of the program.
use Rattle.std.proofs.Common.{◌∙◌, List, ap, map, subst, sym}
use Rattle.std.proofs.lemmas.Result.{IfOk-weaker}
use Rattle.std.specs.Arc.{arc_value}
use Rattle.litmus_syntax.specs.declared.program.Variable.{Variable}
use Rattle.prepared_program.specs.declared.program_layout.layout.Layout.{Layout}
use Rattle.prepared_program.specs.program_layout.Lays.{Lays}
use Rattle.prepared_program.specs.program_layout.Places.{places_of}
use Rattle.prepared_program.specs.program_sites.Prepared.{sites_in}
use Rattle.races.specs.declared.placed.PlacedSite.{PlacedSite}
use Rattle.source_places.specs.Lines.{Place, located, place_of}
use Rattle.source_places.specs.Sites.{site_place}
use Rattle.source_places.specs.declared.lines.SitePlace.{SitePlace}
use Rattle.source_places.proofs.located.with_program.Goals as goal

pub returns : goal.returns
returns c =
    let program = c.args.reading.now.program in
    let settings = c.args.settings.now in
    let ready = c.in-Ok.ensures.prepared in
    let places = places_of settings.places.items in
    let file = c.args.file.now in
    let text = c.args.text.now in
    let begins = map (λ own. own.items) c.deref.result.now in
    let lays = subst (λ (layout : Layout). Lays places c.as_slice.result.now layout) (sym c.deref-2.ensures)
    (subst (λ (variables : List Variable). Lays places variables (arc_value c.in-Ok.prepared.layout)) (sym c.as_slice.ensures) ready.lays) in
    let are = c.in_ok-places.ensures places lays
    ∙ (ap (λ (variables : List Variable). map (site_place places variables file text begins) c.deref-3.result.now) c.as_slice.ensures
    ∙ ap (λ (sites : List PlacedSite). map (site_place places program.variables file text begins) sites) c.deref-3.ensures.value) in
    IfOk-weaker c.located.result _ _
    (λ found is. record {
      accesses = sites_in c.in-Ok.prepared;
      sites = c.in_ok-sites.sites.items;
      sites_are = c.in_ok-sites.ensures.sites settings ready;
      order = c.in_ok-sites.ensures.order;
      begins = begins;
      found_is = is ∙ (ap (λ (all : List SitePlace). located (map place_of all) c.args.output.now) c.deref-4.ensures.value
          ∙ ap (λ (all : List Place). located all c.args.output.now) are);
    })
    c.located.ensures
