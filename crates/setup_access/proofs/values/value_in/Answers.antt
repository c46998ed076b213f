-- Eight bytes and more are the whole of what is left of the word; above them nothing is left.
use Rattle.std.proofs.Common.{◌*◌, ◌≤◌, arith, sym}
use Rattle.setup_access.proofs.ValuesLemmas.{no_value, whole_value}
use Rattle.setup_access.proofs.values.value_in.Goals as goal

pub returns-else-size-lt8 : goal.returns-else-size-lt8
returns-else-size-lt8 c =
    let eight : 8 ≤ c.args.access.now.size = omega arith in
    sym (whole_value c.args.word (8 * c.args.source.first) c.args.access.now.size (omega arith) eight)

pub returns-then-source-gt7 : goal.returns-then-source-gt7
returns-then-source-gt7 c =
    let eight : 8 ≤ c.args.source.first = omega arith in
    no_value c.args.word c.args.source.first c.args.access.now.size (omega arith) eight
