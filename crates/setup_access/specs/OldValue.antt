-- The old value of a watch: what its setter loaded of the watched bytes once the word stood and the setter was named. It is 0 before that
-- load, where the bytes have no cell to load, and from the verdict on.
use Rattle.std.specs.Prelude.{ℕ, None, Option, Some}
use Rattle.setup_access.specs.declared.pass.Pass.{Pass}
use Rattle.setup_access.specs.declared.pass.Pass.TheVariants as passes
use Rattle.setup_access.specs.declared.setup.Setup.{Setup}
use Rattle.setup_access.specs.declared.setup.Setup.TheVariants as setups
use Rattle.setup_access.specs.declared.stage.CheckStage.{CheckStage}
use Rattle.setup_access.specs.declared.stage.CheckStage.TheVariants as stages

-- of the two values that a watch has loaded the old one; 0 where it has loaded none
abbrev pub first_of : Option (ℕ × ℕ) → ℕ
first_of None = 0
first_of (Some values) = values.0

abbrev pub setup_old : Setup → ℕ
setup_old (setups.Insert place word) = 0
setup_old (setups.Name index) = 0
setup_old (setups.LoadOld index source) = 0
setup_old (setups.LoadNew index source old) = old
setup_old (setups.Consume index values) = first_of values
setup_old (setups.HearFinder index values tries) = first_of values

abbrev pub pass_old : Pass → ℕ
pass_old (passes.Find find) = 0
pass_old (passes.Found found) = 0
pass_old (passes.Setup setup) = setup_old setup
pass_old (passes.Clear index) = 0
pass_old (passes.Remove index) = 0

abbrev pub stage_old : CheckStage → ℕ
stage_old stages.Rest = 0
stage_old (stages.Begin begun) = 0
stage_old (stages.Check role begun pass) = pass_old pass
stage_old (stages.End begun) = 0
