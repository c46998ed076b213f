-- A machine is before one step at most.
use Rattle.std.proofs.Common.{◌≡◌, ◌∙◌, ◌⊎◌, [], Some, inl, inr, subst, sym}
use Rattle.access_run.specs.Leads as accesses
use Rattle.access_run.specs.declared.stage.AccessStage as access_stages
use Rattle.access_run.specs.declared.stage.AccessStage.TheVariants.{Check, End, Operate, Over}
use Rattle.access_types.specs.Sites.{map_of}
use Rattle.setup_access.specs.Leads as checks
use Rattle.setup_access.specs.declared.checker.Checker.{Checker}
use Rattle.slot_table.specs.declared.step.Step.{Step}
use Rattle.task_run.specs.Says.{Says, StageSays}
use Rattle.task_run.specs.declared.run.TaskRun.{TaskRun}
use Rattle.task_run.specs.declared.stage.TaskStage.{TaskStage}
use Rattle.task_run.specs.declared.stage.TaskStage.TheVariants as stages

pub one_some : (a b : Step) → Some a ≡ Some b → a ≡ b
one_some a b is = cc

check_says : (checker : Checker) (one other : Step) → checks.Says checker one → checks.Says checker other → one ≡ other
check_says checker one other h k = one_some one other (sym (h (map_of [])) ∙ k (map_of []))

access_says : (checker : Checker) (stage : access_stages.AccessStage) (one other : Step) → accesses.StageSays stage checker one → accesses.StageSays stage checker other
    → one ≡ other
access_says checker (Check run) one other h k = check_says checker one other h k
access_says checker (Operate run) one other h k = one_some one other (sym h ∙ k)
access_says checker (End effect) one other h k = h ∙ sym k
access_says checker (Over effect) one other h k = absurd h

pub one_says : (run : TaskRun) (stage : TaskStage) (one other : Step) → StageSays stage run one → StageSays stage run other → one ≡ other
one_says run stages.Over one other h k = absurd h
one_says run stages.Stopped one other h k = absurd h
one_says run (stages.Making access follow) one other h k = access_says run.machine.checker access.stage one other h k
one_says run stages.Opening one other h k = check_says run.machine.checker one other h k
one_says run stages.Closing one other h k = check_says run.machine.checker one other h k
one_says run (stages.Locking wait variable) one other h k = h.1 ∙ sym k.1
one_says run (stages.Unlocking variable) one other h k = h ∙ sym k

-- in a check of a scoped assertion it is before the step of its checker
pub says_as_check : (run : TaskRun) (step : Step) → (run.stage ≡ stages.Opening) ⊎ (run.stage ≡ stages.Closing) → Says run step
    → checks.Says run.machine.checker step
says_as_check run step (inl is) says = subst (λ (stage : TaskStage). StageSays stage run step) is says
says_as_check run step (inr is) says = subst (λ (stage : TaskStage). StageSays stage run step) is says
