use Rattle.std.proofs.Common.{◌+◌, ◌<◌, length, vec_len, refl, sym, ◌∙◌, arith, below_more}
use Rattle.std.proofs.lemmas.List.{ext_get_or, get_or-set_other, get_or-set_same}
use Rattle.std.specs.Slots.{slots_counts, slots_items}
use Rattle.shared_table.specs.Row.{section}
use Rattle.shared_table.proofs.Gathering.{found_at}
use Rattle.shared_table.proofs.Sections.{section_at, section_length}
use Rattle.shared_table.proofs.gathered.read_cells.Goals as goal

pub loop-cell-preserved : goal.loop-cell-preserved
loop-cell-preserved c =
    let items = c.loop-cell.cells.items in
    let cell = c.loop-cell.cell in
    let within : cell < length items = omega (arith, c.loop-cell-test.true, c.len-cell-end.ensures, c.loop-cell.invariant.counts, c.loop-cell.cells.ok.0) in
    record {
      counts = c.loop-cell.invariant.counts;
      read = below_more _ _
          (λ k below. get_or-set_other items cell k c.word.result 0 (λ same. omega arith) ∙ c.loop-cell.invariant.read k below)
          (get_or-set_same items cell c.word.result 0 within ∙ sym (found_at (slots_items c.args.closed.now.words) (c.args.from + cell) c.word.result c.word.ensures));
    }

pub returns : goal.returns
returns c =
    let words = slots_items c.args.closed.now.words in
    let n = vec_len c.args.cells in
    let long = slots_counts c.args.closed.now.words in
    let cut = section_length c.args.from n words (omega (arith, c.requires.fits, long.0)) in
    ext_get_or 0 c.loop-cell.cells.items (section c.args.from n words)
    (omega (arith, cut, c.loop-cell.cells.ok.0, c.loop-cell.invariant.counts))
    (λ k below.
    let here : k < n = omega (arith, below, c.loop-cell.cells.ok.0, c.loop-cell.invariant.counts) in
    c.loop-cell.invariant.read k (omega (arith, here, c.loop-cell-test.false, c.len-cell-end.ensures))
    ∙ section_at c.args.from n words k (c.args.from + k) refl here)
