-- The members, one behind the other.
use Rattle.std.proofs.Common.{◌∙◌, ap, refl}
use Rattle.race_output.specs.Json.{whole_data}
use Rattle.race_output.specs.Words.{file_word, verdict_of}
use Rattle.serde_json.specs.View.{view}
use Rattle.race_output.proofs.json.whole_value.Goals as goal

pub returns : goal.returns
unfolding whole_data
returns c =
    c.build.ensures _ (c.text-2.ensures _ _ (c.flag.ensures _ _ (c.value-3.ensures _ _ (c.value-2.ensures _ _ (c.number.ensures _ _
    (c.value.ensures _ (view c.args.pairs) (c.text.ensures _ _ c.new.ensures refl) refl) refl) c.settings_value.ensures) c.states_value.ensures)
    c.is_stopped.ensures)
    (c.file_word-word.ensures ∙ ap file_word (c.verdict_of.ensures ∙ ap verdict_of c.as_slice.ensures.value)))
