-- The members, one behind the other.
use Rattle.race_output.specs.Json.{told_data}
use Rattle.race_output.proofs.json.told_value.Goals as goal

pub returns : goal.returns
unfolding told_data
returns c =
    c.build.ensures _ (c.value-4.ensures _ _ (c.text.ensures _ _ (c.value-3.ensures _ _ (c.value-2.ensures _ _ (c.value.ensures _ _
    (c.flag.ensures _ _ c.new.ensures c.is_reported.ensures) c.schedule_if_value.ensures) c.sites_value-sites.ensures)
    c.variable_value-variable.ensures) c.verdict_words.ensures) c.why_value.ensures)
