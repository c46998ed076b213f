-- One report more has one value more, and is read of it.
use Rattle.std.proofs.Common.{◌≡◌, ◌∙◌, ◌+◌, ◌<◌, ◌++◌, ◌∷◌, [], ℕ, List, ap, arith, get_or, length, map, sym, take}
use Rattle.std.proofs.lemmas.List.{map-append, map_more, take_more}
use Rattle.access_types.specs.declared.report.Report.{Report}
use Rattle.part_search.specs.part_file.Reads.{report_in}
use Rattle.part_search.specs.part_file.Values.{report_data}
use Rattle.serde_json.specs.Data.{Data}
use Rattle.part_search.proofs.part_file.values.report_values.Goals as goal

one_more : (reports : List Report) (i : ℕ) (d : Report) (before after : List Data) → i < length reports
    → after ≡ before ++ report_data (get_or reports i d) ∷ []
    → report_in (report_data (get_or reports i d)) ≡ get_or reports i d
    → (before ≡ map report_data (take i reports)) × (map report_in (map report_data (take i reports)) ≡ take i reports)
    → (after ≡ map report_data (take (i + 1) reports))
    × (map report_in (map report_data (take (i + 1) reports)) ≡ take (i + 1) reports)
one_more reports i d before after within is back so_far = (
  is ∙ ap (λ (all : List Data). all ++ report_data (get_or reports i d) ∷ []) so_far.0 ∙ sym (map_more report_data reports i d within),
  ap (map report_in) (map_more report_data reports i d within)
      ∙ map-append report_in (map report_data (take i reports)) (report_data (get_or reports i d) ∷ [])
      ∙ ap (λ (all : List Report). all ++ report_in (report_data (get_or reports i d)) ∷ []) so_far.1
      ∙ ap (λ (one : Report). take i reports ++ one ∷ []) back
      ∙ sym (take_more reports i d within),
)

pub loop-report-preserved : goal.loop-report-preserved
loop-report-preserved c =
    one_more c.args.reports.now c.loop-report.report-index _ _ _ (omega arith) (c.in_ok-add_item.ensures _ c.report_value.ensures.value)
    c.report_value.ensures.back c.loop-report.invariant
