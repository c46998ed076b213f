-- The load is made first, and leaves the registers.
use Rattle.std.proofs.Common.{◌≡◌, ap}
use Rattle.litmus_semantics.specs.Task.{Progress}
use Rattle.oracle_semantics.proofs.oracle_meaning.load.evaluates.Goals as goal

pub returns-in_ok-after-in-Loading-clause-means : goal.returns-in_ok-after-in-Loading-clause-means
returns-in_ok-after-in-Loading-clause-means c = λ s is.
    let loads = rw c.load_in.ensures at (c.in_ok-after-in-Loading.ensures.means s is) in
    let registers : c.in_ok-after-in-Loading.after.registers.items ≡ c.args.before.registers.items = ap (λ (p : Progress). p.registers) loads.comes_to in
    rw c.in-Loading.is (c.in_ok-after-in-Loading.loaded, loads, rw (c.as_slice-in-Loading.ensures.value, registers) at c.loading_value-value.ensures)
