-- One pair more has one value more.
use Rattle.std.proofs.Common.{◌∙◌, arith, map}
use Rattle.std.proofs.lemmas.List.{map-append}
use Rattle.race_output.specs.Json.{pair_data}
use Rattle.output_pieces.proofs.Grown.{grown}
use Rattle.race_output.proofs.json.pairs_value.Goals as goal

pub loop-one-preserved : goal.loop-one-preserved
loop-one-preserved c = λ run of.
    let value = pair_data run c.args.sources.text.now (map (λ own. own.items) c.args.sources.places.now) in
    c.in_ok-add_item.ensures (value c.one-item.result) (c.pair_value.ensures run of)
    ∙ grown (map value) (map-append value) c.args.pairs.now c.loop-one.one-index c.one-item.result (omega arith) c.one-item.is _
    (c.loop-one.invariant run of)
