-- The members, one behind the other.
use Rattle.std.proofs.Common.{refl}
use Rattle.output_pieces.specs.Values.{column_data, line_data, statement_data}
use Rattle.race_output.specs.Json.{site_data}
use Rattle.race_output.proofs.json.site_value.Goals as goal

pub returns : goal.returns
unfolding site_data
returns c =
    let text = c.args.text.now in
    let at = c.args.site.at in
    c.build.ensures _ (c.value-3.ensures _ (statement_data text at) (c.number-2.ensures _ _ (c.number.ensures _ _
    (c.value-2.ensures _ (line_data text at) (c.value.ensures _ (column_data text at) (c.text.ensures _ _ c.new.ensures c.words.ensures)
    c.column_value.ensures) c.line_value.ensures) refl) refl) c.statement_value.ensures)
