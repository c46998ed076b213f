-- One site more.
use Rattle.std.proofs.Common.{◌≡◌, ◌∙◌, List, ap, arith, subst, sym}
use Rattle.std.proofs.lemmas.Option.{slice_get-get_or, slice_get_within}
use Rattle.access_types.specs.declared.history.Bytes.{Bytes}
use Rattle.litmus_semantics.specs.TextSites.{AllLoopsFit, block_by, bytes_among}
use Rattle.litmus_semantics.specs.declared.site.Site.{Site}
use Rattle.litmus_syntax.specs.Views.{block_of}
use Rattle.litmus_syntax.specs.declared.statement.Statement.{Statement}
use Rattle.prepared_program.specs.program_sites.Added.{HaveAccesses, IsAt}
use Rattle.prepared_program.proofs.program_sites.AddsLemmas.{adds_same, adds_site}
use Rattle.prepared_program.proofs.program_sites.sites.add_task.Goals as goal

-- the sites that were found are those of the text
found : (bytes : List Bytes) (text passed : List Statement) (sites items : List Site) → passed ≡ text → AllLoopsFit 1 (block_of text)
    → (AllLoopsFit 1 (block_of passed) → sites ≡ block_by (bytes_among bytes) (block_of passed)) → items ≡ sites
    → items ≡ block_by (bytes_among bytes) (block_of text)
found bytes text passed sites items same fit is iterated =
    iterated ∙ (is (subst (λ (t : List Statement). AllLoopsFit 1 (block_of t)) (sym same) fit)
    ∙ ap (λ (t : List Statement). block_by (bytes_among bytes) (block_of t)) same)

pub add_site-requires-clause-proper : goal.add_site-requires-clause-proper
add_site-requires-clause-proper c =
    let all = found c.args.bytes.now c.args.task.now.body.items c.as_slice.result.now c.in_ok-text.text.items c.deref-site-items.result.now c.as_slice.ensures.value c.requires.loops
    c.in_ok-text.ensures.among c.deref-site-items.ensures.value in
    (subst HaveAccesses (sym all) c.requires.accesses).proper c.loop-site_number.site_number _
    (slice_get-get_or c.deref-site-items.result.now c.loop-site_number.site_number _ c.loop-site_number-test.true)

pub loop-site_number-preserved : goal.loop-site_number-preserved
loop-site_number-preserved c =
    adds_site c.args.number c.loop-site_number.site_number c.deref-site-items.result.now _ c.args.sites.now c.loop-site_number.sites c.add_site.new.sites
    (slice_get-get_or c.deref-site-items.result.now c.loop-site_number.site_number _ c.loop-site_number-test.true)
    c.loop-site_number.invariant c.in_ok-add_site.ensures

pub returns : goal.returns
returns c =
    let all = found c.args.bytes.now c.args.task.now.body.items c.as_slice.result.now c.in_ok-text.text.items c.deref-site-items.result.now c.as_slice.ensures.value c.requires.loops
    c.in_ok-text.ensures.among c.deref-site-items.ensures.value in
    adds_same (c.loop-site_number.invariant)
    (λ a p. subst (λ (sites : List Site). IsAt c.args.number sites a) all p.1)
    (λ a p. let there = subst (λ (sites : List Site). IsAt c.args.number sites a) (sym all) p in
    (omega (arith, slice_get_within c.deref-site-items.result.now a.site there.0 there.1, c.loop-site_number-test.false), there))
