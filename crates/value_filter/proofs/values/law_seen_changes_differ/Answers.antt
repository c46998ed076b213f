-- both ways, from a bit to the values and from the values to a bit
use Rattle.value_filter.proofs.ChangedBits.{bits_from_differ, differ_from_bits}
use Rattle.value_filter.proofs.values.law_seen_changes_differ.Goals as goal

pub returns : goal.returns
returns c = λ mask old new. (differ_from_bits mask old new, bits_from_differ mask old new)
