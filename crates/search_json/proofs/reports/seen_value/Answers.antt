-- The members, one behind the other.
use Rattle.std.proofs.Common.{◌∙◌, ap, refl}
use Rattle.std.proofs.lemmas.Result.{IfOk-weaker}
use Rattle.output_pieces.specs.Values.{schedule_data}
use Rattle.search_json.specs.Reports.{count_data, new_data, old_data, seen_data}
use Rattle.serde_json.specs.View.{view}
use Rattle.search_json.proofs.reports.seen_value.Goals as goal

pub returns : goal.returns
unfolding seen_data
returns c =
    c.build.ensures _ (c.value-6.ensures _ (view c.args.setter) (c.value-5.ensures _ (schedule_data c.args.seen.now.1) (c.value-4.ensures _ (old_data c.args.change)
    (c.value-3.ensures _ (new_data c.args.change) (c.value-2.ensures _ (view c.args.finder)
    (c.value.ensures _ (count_data c.args.counted c.args.seen.now.0) c.new.ensures
    (c.count_value.ensures ∙ ap (count_data c.args.counted) c.times.ensures)) refl) c.new_value.ensures)
    c.old_value.ensures) (IfOk-weaker c.schedule_value.result _ _ (λ value is. is ∙ ap schedule_data c.first.ensures) c.schedule_value.ensures)) refl)
