-- Before each insertion and each try its task has an access in progress for which it makes it.
use Rattle.std.proofs.Common.{◌≡◌, ◌∙◌, ◌<◌, ◌++◌, [], ◌∷◌, ℕ, List, append_assoc, length, refl, subst, sym}
use Rattle.access_types.specs.Access.{Access}
use Rattle.setup_access.specs.OwnAccesses.{IsOwn}
use Rattle.slot_table.specs.declared.records.Record.{Record}
use Rattle.slot_table.specs.declared.step.Step.{Step}
use Rattle.slot_table.specs.declared.step.Step.TheVariants.{Insert, TryConsume}
use Rattle.program_order.specs.Standing.{checks_of}
use Rattle.program_order.specs.TaskObserved.{did_by}
use Rattle.executions.specs.execution.Run.{Run, task_setting}
use Rattle.executions.specs.execution.Execution.{Execution}
use Rattle.executions.specs.execution.Observed.{made_by}
use Rattle.executions.proofs.execution.Histories.{in_progress}
use Rattle.executions.proofs.execution.Intervals.{IsOpen}
use Rattle.soundness.specs.Made.{EachIsMadeFor, IsInHand, IsMadeFor}
use Rattle.soundness.proofs.RecordsDoEvents.{made_at}
use Rattle.soundness.proofs.PointsTell.{MadeFor}
use Rattle.soundness.proofs.Watches.{is_below, of_program}

module _ (run : Run) (records : List Record) (list : Execution run records) where
  in_hand_at : (later earlier : List Record) (task : ℕ) → records ≡ later ++ earlier → task < length run.program.tasks → (a : Access)
      → IsOwn (checks_of (task_setting run task)) a → IsOpen (did_by (list.tasks task) (made_by task earlier)) a → IsInHand list task earlier a
  in_hand_at later earlier task is below a own goes =
      let mine : a.task ≡ task = own.task in
      record {
        mine = mine;
        access_is = of_program run records list task (made_by task earlier) a mine goes;
        goes = in_progress run records list later earlier is a (subst (λ (t : ℕ). t < length run.program.tasks) (sym mine) below)
            (subst (λ (t : ℕ). IsOpen (did_by (list.tasks t) (made_by t earlier)) a) (sym mine) goes);
      }

  by_step : (later earlier : List Record) (task : ℕ) → records ≡ later ++ earlier → task < length run.program.tasks → (step : Step)
      → MadeFor (task_setting run task) (did_by (list.tasks task) (made_by task earlier)) step → IsMadeFor list task earlier step
  by_step later earlier task is below (Insert index word) made = (made.0, in_hand_at later earlier task is below made.0 made.1 made.2, made.3)
  by_step later earlier task is below (TryConsume index word) made = (made.0, in_hand_at later earlier task is below made.0 made.1 made.2, made.3)
  by_step later earlier task is below step made = tt

  each_by : (later earlier : List Record) → records ≡ later ++ earlier → EachIsMadeFor list earlier
  each_by later [] is = tt
  each_by later (latest ∷ earlier) is =
      let before : records ≡ (later ++ latest ∷ []) ++ earlier = is ∙ sym (append_assoc later (latest ∷ []) earlier) in (
        each_by (later ++ latest ∷ []) earlier before,
        by_step (later ++ latest ∷ []) earlier latest.task before (is_below run records list latest earlier later is) latest.step
            (made_at run records list later latest earlier is),
      )

  pub each_is_made_for : EachIsMadeFor list records
  each_is_made_for = each_by [] records refl
