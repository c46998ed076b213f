-- Those of one task more follow.
use Rattle.std.proofs.Common.{◌≡◌, ◌+◌, ◌++◌, ◌∙◌, ℕ, List, ap, arith, flat_map, length, refl, suc, sym, take}
use Rattle.std.proofs.lemmas.Option.{slice_get_read}
use Rattle.runner.proofs.PartLemmas.{take_all, take_more}
use Rattle.access_types.specs.declared.report.Report.{Report}
use Rattle.runner.proofs.together.reports_of.Goals as goal
use Rattle.runner.specs.declared.seated.TaskResult.{TaskResult}

abbrev own : TaskResult → List Report
own one = one.reports.items

pub loop-one-preserved : goal.loop-one-preserved
loop-one-preserved c =
    let all = c.args.found.now in
    let at : ℕ = c.loop-one.one-index in
    let stands = slice_get_read all (length all) at c.one-item.result refl c.loop-one-test.true c.one-item.is in
    let next : suc at ≡ at + 1 = omega arith in
    c.in_ok-extend_from_slice.ensures.items
    ∙ (ap (λ (reports : List Report). reports ++ c.as_slice.result.now) c.loop-one.invariant
    ∙ (ap (λ (reports : List Report). flat_map own (take at all) ++ reports) c.as_slice.ensures.value
    ∙ (sym (take_more own all at c.one-item.result stands) ∙ ap (λ (n : ℕ). flat_map own (take n all)) next)))

pub returns : goal.returns
returns c =
    let over : c.loop-one.one-index ≡ length c.args.found.now = omega (arith, c.loop-one-test.false, c.loop-one.auto.one-index-end) in
    c.loop-one.invariant ∙ (ap (λ n. flat_map own (take n c.args.found.now)) over ∙ ap (flat_map own) (take_all c.args.found.now))
