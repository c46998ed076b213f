-- Those of the items of the member.
use Rattle.std.proofs.Common.{◌∙◌, Option, ap, map}
use Rattle.std.proofs.lemmas.Result.{IfOk-weaker}
use Rattle.part_search.proofs.part_file.Lists.{read_each}
use Rattle.part_search.specs.part_file.Reads.{report_in, list_in}
use Rattle.serde_json.specs.Data.{Items}
use Rattle.serde_json.specs.View.{view}
use Rattle.serde_json.specs.declared.value.Value.{Value}
use Rattle.part_search.proofs.part_file.reading.known_at.Goals as goal

pub returns-in-Some : goal.returns-in-Some
returns-in-Some c =
    IfOk-weaker c.known_of.result _ _ (λ all is. is
    ∙ ap (map (λ (value : Value). report_in (view value))) c.as_slice.ensures.value
    ∙ read_each report_in c.in-Some.items.now.items
    ∙ ap (λ (found : Option Items). map report_in (list_in found)) c.in-Some.ensures) c.known_of.ensures

pub returns-in-None : goal.returns-in-None
returns-in-None c = c.new.ensures.items ∙ ap (λ (found : Option Items). map report_in (list_in found)) c.in-None.ensures
