-- Which wait a check is in, and the count of its failed tries.
use Rattle.std.specs.Prelude.{◌≡◌, ◌-◌, ◌^◌, ℕ, Option, None, Some, min}
use Rattle.slot_table.specs.declared.step.Answer.{Answer}
use Rattle.slot_table.specs.declared.step.Step.{Step}
use Rattle.setup_access.specs.Found.{finder_half, setter_half}
use Rattle.setup_access.specs.Waits.{Wait, wait_on}
use Rattle.setup_access.specs.declared.found.Found.{Found}
use Rattle.setup_access.specs.declared.found.Found.TheVariants as founds
use Rattle.setup_access.specs.declared.found.Taking.{Taking}
use Rattle.setup_access.specs.declared.found.Taking.TheVariants as takings
use Rattle.setup_access.specs.declared.pass.Pass.{Pass}
use Rattle.setup_access.specs.declared.pass.Pass.TheVariants as passes
use Rattle.setup_access.specs.declared.pass.Next.{Next}
use Rattle.setup_access.specs.declared.pass.Next.TheVariants as tos
use Rattle.setup_access.specs.declared.setup.Setup.{Setup}
use Rattle.setup_access.specs.declared.setup.Setup.TheVariants as setups
use Rattle.setup_access.specs.declared.setup.Watching.{Watching}
use Rattle.setup_access.specs.declared.setup.Watching.TheVariants as watchings
use Rattle.setup_access.specs.declared.stage.CheckStage.{CheckStage}
use Rattle.setup_access.specs.declared.stage.CheckStage.TheVariants as stages

-- the wait that each part of a check is in
abbrev pub found_wait : Found → Option Wait
found_wait (founds.TryConsume watchpoint) = None
found_wait (founds.HearSetter index tries) = Some (record { half = setter_half; tries = tries })
found_wait (founds.Tell index setter) = None

abbrev pub taking_wait : Taking → Option Wait
taking_wait (takings.Going found) = found_wait found
taking_wait (takings.Over outcome) = None

abbrev pub setup_wait : Setup → Option Wait
setup_wait (setups.Insert place word) = None
setup_wait (setups.Name index) = None
setup_wait (setups.LoadOld index source) = None
setup_wait (setups.LoadNew index source old) = None
setup_wait (setups.Consume index values) = None
setup_wait (setups.HearFinder index values tries) = Some (record { half = finder_half; tries = tries })

abbrev pub watching_wait : Watching → Option Wait
watching_wait (watchings.Going setup) = setup_wait setup
watching_wait watchings.Full = None
watching_wait (watchings.Judged index outcome) = None

abbrev pub pass_wait : Pass → Option Wait
pass_wait (passes.Find find) = None
pass_wait (passes.Found found) = found_wait found
pass_wait (passes.Setup setup) = setup_wait setup
pass_wait (passes.Clear index) = None
pass_wait (passes.Remove index) = None

abbrev pub to_wait : Next → Option Wait
to_wait (tos.Going pass) = pass_wait pass
to_wait tos.Settled = None
to_wait tos.Unsettled = None

abbrev pub stage_wait : CheckStage → Option Wait
stage_wait stages.Rest = None
stage_wait (stages.Begin begun) = None
stage_wait (stages.Check role begun pass) = pass_wait pass
stage_wait (stages.End scope) = None

-- its failed tries
abbrev pub tries_of : Option Wait → Option ℕ
tries_of None = None
tries_of (Some wait) = Some wait.tries

-- the count of failed tries rests at its last value
abbrev pub capped : Option Wait → Option Wait
capped None = None
capped (Some wait) = Some (record wait { tries = min wait.tries (2 ^ 64 - 1) })

-- an answer makes of the one wait the other
abbrev pub Counts : Option Wait → Step → Answer → Option Wait → Type 0
Counts before step answer after = (wait : Option Wait) → before ≡ capped wait → after ≡ capped (wait_on wait step answer)
