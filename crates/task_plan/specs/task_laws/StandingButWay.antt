-- Where a task stands, but for the way there and for what came of its checks: these two hang on the records
-- that are still to come, and nothing else does.
use Rattle.std.specs.Prelude.{ℕ, List, count_by}
use Rattle.litmus_semantics.specs.Task.{Progress, begins_at}
use Rattle.setup_access.specs.Check.{Fallen}
use Rattle.setup_access.specs.declared.begun.Begun.{Begun}
use Rattle.program_order.specs.Standing.{Point, Standing}

pub record Core : Type 0 where
  pub progress : Progress
  pub unbalanced : ℕ
  pub asked : ℕ
  pub scopes : List Begun

abbrev pub core_of : Standing → Core
core_of before = record {
  progress = before.progress;
  unbalanced = before.unbalanced;
  asked = before.asked;
  scopes = before.scopes;
}

-- a task stands there, which has come this way
abbrev pub standing : Core → List Point → List Fallen → Standing
standing at way outcomes = record {
  progress = at.progress;
  unbalanced = at.unbalanced;
  way = way;
  asked = at.asked;
  scopes = at.scopes;
  outcomes = outcomes;
}

-- how many accesses of the task began at a site
abbrev pub begun_at : ℕ → Core → ℕ
begun_at site at = count_by (begins_at site) at.progress.did
