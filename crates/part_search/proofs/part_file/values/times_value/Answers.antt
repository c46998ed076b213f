-- The members, one behind the other.
use Rattle.std.proofs.Common.{◌∙◌, ap}
use Rattle.std.proofs.lemmas.Result.{IfOk-weaker}
use Rattle.part_search.specs.part_file.Values.{entries_data, times_data}
use Rattle.part_search.proofs.part_file.values.times_value.Goals as goal

pub returns : goal.returns
unfolding times_data
returns c =
    let seen = c.args.seen.now in
    c.build.ensures _ (c.value.ensures _ (entries_data seen.1) (c.number.ensures _ seen.0 c.new.ensures c.times.ensures)
    (IfOk-weaker c.entries_value.result _ _ (λ value is. is ∙ ap entries_data c.first.ensures) c.entries_value.ensures))
