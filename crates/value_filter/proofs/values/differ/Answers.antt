-- the test of the changed bits for 0, with a mask and without
use Rattle.std.proofs.Common.{◌↔◌, IsTrue, bit_and, bit_xor, nat_eq, not, subst, sym}
use Rattle.value_filter.specs.Change.{BitDiffers}
use Rattle.value_filter.proofs.ChangedBits.{changed_bits-test}
use Rattle.value_filter.proofs.values.differ.Goals as goal

pub returns-in-Some : goal.returns-in-Some
returns-in-Some c =
    subst
    (λ mask. IsTrue (not (nat_eq (bit_and (bit_xor c.args.old c.args.new) c.in-Some.mask) 0))
    ↔ BitDiffers mask c.args.old c.args.new)
    (sym c.in-Some.is) (changed_bits-test _ c.args.old c.args.new)

pub returns-in-None : goal.returns-in-None
returns-in-None c =
    subst
    (λ mask. IsTrue (not (nat_eq (bit_xor c.args.old c.args.new) 0))
    ↔ BitDiffers mask c.args.old c.args.new)
    (sym c.in-None.is) (changed_bits-test _ c.args.old c.args.new)
