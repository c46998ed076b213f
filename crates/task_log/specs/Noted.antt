-- What one step of a task says.
use Rattle.std.specs.Prelude.{ℕ, true, List, [], ◌∷◌, Option, None, Some}
use Rattle.std.specs.Option.{option_or}
use Rattle.access_types.specs.declared.arms.ArmOutcome.{ArmOutcome}
use Rattle.access_types.specs.declared.arms.ArmOutcome.TheVariants as arms
use Rattle.access_types.specs.declared.arms.HitResult.{HitResult}
use Rattle.access_types.specs.declared.arms.HitResult.TheVariants as results
use Rattle.setup_access.specs.declared.outcome.Outcome.{Outcome}
use Rattle.setup_access.specs.declared.outcome.Outcome.TheVariants as outcomes
use Rattle.slot_table.specs.declared.step.Answer.{Answer}
use Rattle.slot_table.specs.declared.step.Answer.TheVariants.{Flag, Halves}
use Rattle.slot_table.specs.declared.step.Step.{Step}
use Rattle.slot_table.specs.declared.step.Step.TheVariants.{Insert, Name, PairLoad}
use Rattle.task_log.specs.declared.noted.Noted.{Noted}
use Rattle.value_filter.specs.declared.verdict.Reason.{Reason}
use Rattle.value_filter.specs.declared.verdict.Reason.TheVariants.{Encoding, MaskedBits, SameValue}

abbrev pub named_by : Step → Option ℕ
named_by (Name index ticket) = Some ticket
named_by step = None

-- the ticket by which a setter named itself
abbrev pub named : Noted → Option ℕ
named noted = named_by noted.step

abbrev pub armed_by : Step → Answer → Option ℕ
armed_by (Insert index word) (Flag true) = Some word
armed_by step answer = None

-- the watch word of a watchpoint that was set up
abbrev pub armed : Noted → Option ℕ
armed noted = armed_by noted.step noted.answer

-- the finder's half of a pair that was loaded, where there is none 0
abbrev pub finder_heard : Step → Answer → ℕ
finder_heard (PairLoad index) (Halves setter finder) = finder
finder_heard step answer = 0

-- why a hit was dropped
abbrev pub dropped : Reason → HitResult
dropped Encoding = results.Encoding
dropped SameValue = results.Same
dropped MaskedBits = results.Masked

-- what became of a watchpoint, by the verdict on it; a hit has its finder
abbrev pub became_of : Option Outcome → ℕ → Option ArmOutcome
became_of (Some outcomes.Quiet) finder = Some arms.Quiet
became_of (Some (outcomes.Unknown old new)) finder = Some arms.Origin
became_of (Some (outcomes.Report pair seen)) finder = Some (arms.Hit finder results.Report)
became_of (Some (outcomes.Dropped reason)) finder = Some (arms.Hit finder (dropped reason))
became_of outcome finder = None

-- what became of a watchpoint on which a verdict falls by this step
abbrev pub became : Noted → Option ArmOutcome
became noted = became_of noted.outcome (finder_heard noted.step noted.answer)

-- what the latest step that says it says, of a task's steps, the latest first
abbrev pub last_of : {A : Type 0} → (Noted → Option A) → List Noted → Option A
last_of says [] = None
last_of says (latest ∷ earlier) = option_or (says latest) (last_of says earlier)
