-- The pairs, the settings, what was searched and the counts, one behind the other.
use Rattle.std.proofs.Common.{◌∙◌, ap}
use Rattle.std.specs.List.{flat_map}
use Rattle.std.proofs.lemmas.Result.{IfOk-weaker}
use Rattle.race_output.specs.Blocks.{pair_text}
use Rattle.race_output.specs.Counts.{pairs_line}
use Rattle.race_output.specs.Table.{races_text}
use Rattle.race_output.proofs.table.races_text.Goals as goal

pub returns : goal.returns
unfolding races_text
returns c = λ run of.
    c.build.ensures _ (c.text-4.ensures _ _ (c.text-3.ensures _ _ (c.text-2.ensures _ _ (c.text.ensures _ _ c.new.ensures
    (IfOk-weaker c.pairs_text.result _ _ (λ text is. is ∙ ap (flat_map (pair_text run _ _)) c.as_slice-pairs.ensures.value)
    (c.pairs_text.ensures run of))) c.settings_line.ensures) c.search_lines.ensures)
    (IfOk-weaker c.pairs_line.result _ _ (λ text is. is ∙ ap pairs_line c.as_slice-pairs.ensures.value) c.pairs_line.ensures))
