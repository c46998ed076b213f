-- One pair more has its lines behind those so far.
use Rattle.std.proofs.Common.{◌∙◌, ◌++◌, ℕ, List, ap, arith, map, sym}
use Rattle.std.specs.List.{flat_map}
use Rattle.std.proofs.lemmas.Grind.{flat_map-append}
use Rattle.std.proofs.lemmas.List.{append-nil}
use Rattle.race_output.specs.Blocks.{pair_text}
use Rattle.output_pieces.proofs.Grown.{grown}
use Rattle.race_output.proofs.table.pairs_text.Goals as goal

pub loop-one-preserved : goal.loop-one-preserved
loop-one-preserved c = λ run of.
    let lines = pair_text run c.args.sources.text.now (map (λ own. own.items) c.args.sources.places.now) in
    c.in_ok-add_text.ensures (lines c.one-item.result) (c.pair_text.ensures run of)
    ∙ (ap (λ (t : List ℕ). c.loop-one.lines.items ++ t) (sym (append-nil (lines c.one-item.result)))
    ∙ grown (flat_map lines) (flat_map-append lines) c.args.pairs.now c.loop-one.one-index c.one-item.result (omega arith) c.one-item.is _
    (c.loop-one.invariant run of))
