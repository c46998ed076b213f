-- The values of the reports, as one.
use Rattle.std.proofs.Common.{◌≡◌, ◌∙◌, List, ap, map, subst}
use Rattle.access_types.specs.declared.report.Report.{Report}
use Rattle.part_search.specs.part_file.Reads.{report_in}
use Rattle.part_search.specs.part_file.Values.{report_data}
use Rattle.serde_json.specs.Data.{Data, array}
use Rattle.serde_json.specs.View.{items_of}
use Rattle.part_search.proofs.part_file.values.known_value.Goals as goal

pub returns : goal.returns
returns c = (
  c.array_value.ensures
      ∙ ap (λ (all : List Data). array (items_of all)) (c.in_ok-values.ensures.0 ∙ ap (map report_data) c.as_slice.ensures.value),
  subst (λ (all : List Report). map report_in (map report_data all) ≡ all) c.as_slice.ensures.value c.in_ok-values.ensures.1,
)
