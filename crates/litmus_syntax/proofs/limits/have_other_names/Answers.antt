-- Each variable was looked at.
use Rattle.std.proofs.Common.{◌≤◌, arith, length}
use Rattle.litmus_syntax.proofs.limits.have_other_names.Goals as goal

pub returns : goal.returns
returns c =
    λ is k d below. c.loop-variable.invariant k d
    (let past : length c.args.variables.now ≤ c.loop-variable.variable-index = c.loop-variable-test.false in omega (arith, past, below))
