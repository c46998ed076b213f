-- The members, one behind the other.
use Rattle.std.proofs.Common.{◌∙◌, ap}
use Rattle.std.proofs.lemmas.Result.{IfOk-weaker}
use Rattle.output_pieces.specs.Values.{schedule_data}
use Rattle.search_json.specs.Json.{deadlock_data}
use Rattle.search_json.specs.Reports.{count_data}
use Rattle.search_json.proofs.json.deadlock_value.Goals as goal

pub returns : goal.returns
unfolding deadlock_data
returns c =
    c.build.ensures _ (c.value-2.ensures _ (schedule_data c.args.seen.now.1) (c.value.ensures _ (count_data c.args.counted c.args.seen.now.0) c.new.ensures
    (c.count_value.ensures ∙ ap (count_data c.args.counted) c.times.ensures)) (IfOk-weaker c.schedule_value.result _ _ (λ value is. is ∙ ap schedule_data c.first.ensures) c.schedule_value.ensures))
