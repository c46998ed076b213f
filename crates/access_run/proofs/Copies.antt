-- What is said of an access and its task's checker is so of the access and a copy of the checker.
use Rattle.std.proofs.Common.{◌∙◌, ℕ, List, Option, Some}
use Rattle.access_run.specs.Leads.{AccessIsComplete, AccessLeads, AccessSays, IsChecked, StageLeads, StageSays}
use Rattle.access_run.specs.declared.access.AccessRun.{AccessRun}
use Rattle.access_run.specs.declared.stage.AccessStage.{AccessStage}
use Rattle.access_run.specs.declared.stage.AccessStage.TheVariants as stages
use Rattle.access_run.specs.declared.memory_operation.effect.Effect.{Effect}
use Rattle.access_run.specs.declared.memory_operation.operation.Operation.{Operation}
use Rattle.setup_access.specs.Checker.{Checks}
use Rattle.setup_access.specs.Copies.{IsCopy}
use Rattle.setup_access.specs.Setting.{Setting}
use Rattle.setup_access.specs.declared.begun.Begun.{Begun}
use Rattle.setup_access.specs.declared.checker.Checker.{Checker}
use Rattle.setup_access.proofs.Copies.{copies_have_outcomes, copies_lead, copies_rest, copies_say}
use Rattle.slot_table.specs.declared.records.Record.{Record}
use Rattle.slot_table.specs.declared.step.Step.{Step}

module _ (checker copy : Checker) (same : IsCopy checker copy) where
  module _ (s : Setting) (scopes : List Begun) (begun : Begun) (asked : ℕ) where
    pub checked_by_copy : (records : List Record) → IsChecked s scopes begun asked records checker → IsChecked s scopes begun asked records copy
    checked_by_copy records checked = record {
      now = checked.now;
      fallen = checked.fallen;
      outcomes = copies_have_outcomes checker copy same ∙ checked.outcomes;
      whole = checked.whole;
      rests = copies_rest checker copy same s scopes checked.now (Some begun) checked.rests;
    }

    pub complete_by_copy : (operation : Option Operation) (records : List Record) (effect : Effect)
        → AccessIsComplete s scopes begun asked operation records effect checker → AccessIsComplete s scopes begun asked operation records effect copy
    complete_by_copy operation records effect complete = record {
      now = complete.now;
      fallen = complete.fallen;
      outcomes = copies_have_outcomes checker copy same ∙ complete.outcomes;
      makes = complete.makes;
      alone = complete.alone;
      rests = copies_rest checker copy same s scopes complete.now (Some begun) complete.rests;
    }

    pub stage_by_copy : (operation : Option Operation) (records : List Record) (stage : AccessStage)
        → StageLeads s scopes begun asked operation records stage checker → StageLeads s scopes begun asked operation records stage copy
    stage_by_copy operation records (stages.Check run) leads = (copies_lead checker copy same s scopes (Checks begun) asked records leads.0, leads.1, leads.2)
    stage_by_copy operation records (stages.Operate run) leads =
        (leads.0, leads.1, leads.2, checked_by_copy leads.0 leads.3, leads.4, leads.5)
    stage_by_copy operation records (stages.End effect) leads = (leads.0, leads.1, leads.2, checked_by_copy leads.0 leads.3, leads.4)
    stage_by_copy operation records (stages.Over effect) leads = complete_by_copy operation records effect leads

    pub accesses_lead : (operation : Option Operation) (records : List Record) (run : AccessRun)
        → AccessLeads s scopes begun asked operation records run checker → AccessLeads s scopes begun asked operation records run copy
    accesses_lead operation records run leads = record {
      stage = stage_by_copy operation records run.stage leads.stage;
      begin = leads.begin;
      end = leads.end;
    }

  pub stage_says : (stage : AccessStage) (step : Step) → StageSays stage checker step → StageSays stage copy step
  stage_says (stages.Check run) step says = copies_say checker copy same step says
  stage_says (stages.Operate run) step says = says
  stage_says (stages.End effect) step says = says
  stage_says (stages.Over effect) step says = absurd says

  pub accesses_say : (run : AccessRun) (step : Step) → AccessSays run checker step → AccessSays run copy step
  accesses_say run step says = stage_says run.stage step says
