-- The value takes no more than its own bits in the word.
use Rattle.std.proofs.Common.{◌≡◌, ◌*◌, ◌%◌, ◌^◌, arith}
use Rattle.access_run.proofs.memory_operation.WordLemmas.{place_fits, place_is, placed_fits}
use Rattle.access_run.proofs.memory_operation.values.with_value.Goals as goal

pub overflow_mul-result-2 : goal.overflow_mul-result-2
overflow_mul-result-2 c =
    let place = 8 * c.args.source.first in
    let bits = 8 * c.args.access.now.size in
    let at : 1 * 2 ^ place % 2 ^ 64 ≡ 2 ^ place = place_is place (omega arith) in
    rw at (omega (arith, place_fits c.args.value bits place c.requires.held (omega arith)))

pub overflow_add-result : goal.overflow_add-result
overflow_add-result c =
    let place = 8 * c.args.source.first in
    let bits = 8 * c.args.access.now.size in
    let at : 1 * 2 ^ place % 2 ^ 64 ≡ 2 ^ place = place_is place (omega arith) in
    rw (c.value_in.ensures, at) (omega (arith, placed_fits c.args.word c.args.value bits place (omega arith) c.requires.held (omega arith)))
