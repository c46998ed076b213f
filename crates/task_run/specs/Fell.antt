-- The outcome that fell at the last answer.
use Rattle.std.specs.Prelude.{◌≡◌, ◌==◌, ◌++◌, ℕ, List, [], ◌∷◌, None, Option, length}
use Rattle.std.specs.List.{filter}
use Rattle.std.specs.Option.{option_to_list}
use Rattle.litmus_syntax.specs.Tree.{Block}
use Rattle.access_run.specs.declared.memory_operation.effect.Effect.{Effect}
use Rattle.setup_access.specs.Check.{Fallen}
use Rattle.setup_access.specs.Fallen.{outcomes_in}
use Rattle.setup_access.specs.Parts.{made}
use Rattle.setup_access.specs.declared.begun.Begun.{Begun}
use Rattle.setup_access.specs.declared.outcome.Outcome.{Outcome}
use Rattle.slot_table.specs.declared.records.Record.{Record}
use Rattle.slot_table.specs.declared.step.Answer.{Answer}
use Rattle.slot_table.specs.declared.step.Step.{Step}
use Rattle.task_run.specs.Leads.{Leads}
use Rattle.task_run.specs.Part.{Part, closes, makes, opens}
use Rattle.task_run.specs.Says.{Says}
use Rattle.task_run.specs.declared.run.TaskRun.{TaskRun}
use Rattle.program_order.specs.Access.{Makes}
use Rattle.program_order.specs.Standing.{Setting, Standing}
use Rattle.program_order.specs.WrittenOrder.{ClosesScope, OpensScope}

abbrev pub fell_of : TaskRun → Option Outcome
fell_of run = run.news.fell

-- of these outcomes this one falls at the record just before these, or none does
abbrev pub FallsBefore : List Record → List Fallen → Option Outcome → Type 0
FallsBefore later outcomes fell =
    outcomes_in (filter (λ fallen. length fallen.later == length later) outcomes) ≡ option_to_list fell

-- However a part is completed by these records, this outcome of its checks falls at the record just
-- before those that are to come, or none does.
abbrev pub FallsInPart : Setting → Part → Standing → List Record → List Record → Option Outcome → Type 0
FallsInPart s (makes a operation follow) before records later fell =
    (effect : Effect) (between : Standing) (rest : List Record)
    → (makes : Makes s before a operation records effect between rest)
    → FallsBefore later makes.passes.outcomes fell
FallsInPart s (opens a) before records later fell =
    (begun : Begun) (opened : Standing) (inside : List Record)
    → (opens : OpensScope s before a records begun opened inside)
    → FallsBefore later opens.passes.outcomes fell
FallsInPart s closes before records later fell =
    (scopes : List Begun) (newest : Begun) (closed : Standing) (rest : List Record)
    → before.scopes ≡ scopes ++ newest ∷ []
    → (closes : ClosesScope s before newest scopes records closed rest)
    → FallsBefore later closes.passes.outcomes fell
FallsInPart s part before records later fell = fell ≡ None

-- the outcome is what fell at the record of this answer, by whatever completes the part
abbrev pub FellAt : TaskRun → Option Outcome → Answer → Type 0
FellAt old fell answer =
    (s : Setting) (registers : ℕ) (body : Block) (records : List Record) (step : Step)
    → (leads : Leads s registers body records old) → Says old step → (later : List Record)
    → let all = leads.mine ++ made s.text.task step answer ∷ later in
    FallsInPart s leads.part (leads.now all) all later fell
