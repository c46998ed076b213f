-- All sites of a program.
use Rattle.std.proofs.Common.{◌∙◌, [], ap, List, map, subst, sym, slice_get}
use Rattle.litmus_semantics.specs.TextSites.{bytes_among}
use Rattle.litmus_syntax.specs.Views.{task_of}
use Rattle.litmus_syntax.specs.declared.program.Task.{Task}
use Rattle.prepared_program.specs.program_sites.Prepared.{sites_in}
use Rattle.races.proofs.RunLemmas.{are_sites, bytes_are, listed}
use Rattle.races.specs.Lists.{AddsInOrder}
use Rattle.races.specs.Pairs.{run_with}
use Rattle.races.specs.Placed.{IsSiteBy, PlacedBefore}
use Rattle.races.proofs.placed.placed_sites.Goals as goal

pub add_tasks-requires-clause-listed : goal.add_tasks-requires-clause-listed
add_tasks-requires-clause-listed c number task is =
    let are = bytes_are c.args.program.now c.requires.ready.0 c.args.prepared.now c.deref.result.now c.as_slice-2.result.now c.in_ok-bytes.bytes.items
    c.requires.ready.1 c.deref.ensures c.as_slice-2.ensures.value c.in_ok-bytes.ensures in
    listed (run_with c.args.program.now c.requires.ready.0 (sites_in c.args.prepared.now)) c.as_slice-2.result.now are c.requires.limits number task
    (ap (λ (ts : List Task). slice_get (map task_of ts) number) (sym c.as_slice.ensures) ∙ is)

pub returns-clause-sites : goal.returns-clause-sites
returns-clause-sites c settings prepared =
    let are = bytes_are c.args.program.now settings c.args.prepared.now c.deref.result.now c.as_slice-2.result.now c.in_ok-bytes.bytes.items prepared
    c.deref.ensures c.as_slice-2.ensures.value c.in_ok-bytes.ensures in
    are_sites (run_with c.args.program.now settings (sites_in c.args.prepared.now)) c.as_slice-2.result.now are c.add_tasks.new.found.items
    (subst (λ (ts : List Task). AddsInOrder PlacedBefore [] c.add_tasks.new.found.items (IsSiteBy (bytes_among c.as_slice-2.result.now) (map task_of ts)))
    c.as_slice.ensures c.in_ok-add_tasks.ensures)
