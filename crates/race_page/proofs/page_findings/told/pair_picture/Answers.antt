-- the picture is drawn by the schedule of the pair
use Rattle.std.proofs.Common.{◌∙◌, List, Some, ap, sym}
use Rattle.std.proofs.lemmas.Option.{IfSome_then}
use Rattle.std.proofs.lemmas.Result.{IfOk-weaker}
use Rattle.race_page.specs.page_findings.Told.{entries_in}
use Rattle.prepared_program.specs.declared.step_schedule.schedule.Entry.{Entry}
use Rattle.race_page.proofs.page_findings.told.pair_picture.Goals as goal

pub returns-in-Reported : goal.returns-in-Reported
returns-in-Reported c =
    let entries : List Entry = c.as_slice.result.now in
    IfOk-weaker c.picture_by.result _ _ (λ found is. IfSome_then found is (λ svg by. (
      entries,
      ap entries_in c.in-Some.is ∙ sym (ap (λ (own : List Entry). Some own) c.as_slice.ensures.value),
      by,
    ))) c.picture_by.ensures
