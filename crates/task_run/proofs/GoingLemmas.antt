-- A machine that is in a part of its text is before a step, and the records go on with no other. So the records spell
-- the whole text only where the machine is over, and the part that they are stuck in waits too long.
use Rattle.std.proofs.Common.{◌≡◌, ◌≢◌, ◌↔◌, ◌++◌, ◌^◌, ◌≤◌, [], ℕ, List, None, Option, Some, ap, count_by, refl, reverse, subst, sym, take}
use Rattle.std.proofs.lemmas.List.{append-nil}
use Rattle.access_run.proofs.LeadsLemmas.{check_only, end_only, operate_only, over_done}
use Rattle.access_run.specs.Leads as accesses
use Rattle.access_run.specs.Leads.{AccessIsDone, AccessOnlyStep, StageLeads}
use Rattle.access_run.specs.Whole.{NoneWhole}
use Rattle.access_run.specs.declared.access.AccessRun.{AccessRun}
use Rattle.access_run.specs.declared.stage.AccessStage as access_stages
use Rattle.access_run.specs.declared.stage.AccessStage.TheVariants.{Check, End, Operate, Over}
use Rattle.access_types.specs.Sites.{AccessMap, map_of}
use Rattle.litmus_syntax.specs.Limits.{BlockScopes, block_rises}
use Rattle.litmus_syntax.specs.Tree.{Block}
use Rattle.access_run.proofs.memory_operation.LeadsLemmas as operations_lemmas
use Rattle.access_run.proofs.memory_operation.LockLemmas.{only_try}
use Rattle.access_run.specs.memory_operation.Leads as operations
use Rattle.access_run.specs.memory_operation.Operations.{Operates}
use Rattle.access_run.specs.memory_operation.Stages as operation_stages
use Rattle.access_run.specs.memory_operation.Values.{new_value, with_value}
use Rattle.access_run.specs.declared.memory_operation.lock.LockWait.{LockWait}
use Rattle.access_run.specs.declared.memory_operation.operation.Operation.{Operation}
use Rattle.access_run.specs.declared.memory_operation.run.OperationRun.{OperationRun}
use Rattle.access_run.specs.declared.memory_operation.stage.OperationStage as operating
use Rattle.access_run.specs.declared.memory_operation.stage.OperationStage.TheVariants as operating_stages
use Rattle.setup_access.proofs.NextLemmas.{complete_at_rest, only_step}
use Rattle.setup_access.specs.Checker.{Checks, Closes, Doing}
use Rattle.setup_access.specs.Kept.{setting_with}
use Rattle.setup_access.specs.Leads as checks
use Rattle.setup_access.specs.PassLeft.{pass_step}
use Rattle.setup_access.specs.Setting as settings
use Rattle.setup_access.specs.Values.{value_in}
use Rattle.setup_access.specs.declared.begun.Begun.{Begun}
use Rattle.setup_access.specs.declared.checker.Checker.{Checker}
use Rattle.setup_access.specs.declared.pass.Pass.{Pass}
use Rattle.setup_access.specs.declared.pass.Pass.TheVariants as passes
use Rattle.setup_access.specs.declared.setting.Setting as kept_settings
use Rattle.setup_access.specs.declared.setup.Setup.TheVariants as setups
use Rattle.setup_access.specs.declared.stage.CheckStage as check_stages
use Rattle.setup_access.specs.declared.stage.CheckStage.TheVariants as checking
use Rattle.slot_table.specs.declared.records.Record.{Record}
use Rattle.slot_table.specs.declared.step.Step.{Step}
use Rattle.slot_table.specs.declared.step.Step.TheVariants.{CellExchange, CellLoad, Clock, LockStore, LockTry}
use Rattle.task_plan.specs.declared.follow.Then.{Then}
use Rattle.task_run.proofs.NextLemmas.{closing_agrees, closing_only, locking_agrees, locking_leads, locking_only, making_agrees, making_leads}
use Rattle.task_run.proofs.NextLemmas.{making_only, making_part, opening_agrees, opening_only, over_spelled, too_much_stuck, unlocking_only}
use Rattle.task_run.proofs.StuckLemmas.{lock_going, none_stops, one_next, over_waits_not, stuck_by_records}
use Rattle.task_run.specs.Leads.{IsStuck, Leads}
use Rattle.task_run.specs.Says.{IsGoing, IsGoingIn, Says, StageSays}
use Rattle.task_run.specs.declared.run.TaskRun.{TaskRun}
use Rattle.task_run.specs.declared.stage.TaskStage.{TaskStage}
use Rattle.task_run.specs.declared.stage.TaskStage.TheVariants as stages
use Rattle.program_order.specs.Standing.{Setting, Standing, checks_of, is_lock, lock_number}
use Rattle.program_order.specs.Waits as waits
use Rattle.program_order.specs.Waits.{IsTooMuch, OnlyStep}
use Rattle.program_order.specs.WrittenOrder.{SpellsAll, WrittenOrder}

-- a check makes the same step whatever accesses the tickets name
same_step : (kept : kept_settings.Setting) (begun : Begun) (pass : Pass) (one other : AccessMap)
    → pass_step (setting_with kept one) begun pass ≡ pass_step (setting_with kept other) begun pass
same_step kept begun (passes.Find find) one other = refl
same_step kept begun (passes.Found found) one other = refl
same_step kept begun (passes.Setup (setups.Insert place word)) one other = refl
same_step kept begun (passes.Setup (setups.Name index)) one other = refl
same_step kept begun (passes.Setup (setups.LoadOld index source)) one other = refl
same_step kept begun (passes.Setup (setups.LoadNew index source old)) one other = refl
same_step kept begun (passes.Setup (setups.Consume index values)) one other = refl
same_step kept begun (passes.Setup (setups.HearFinder index values tries)) one other = refl
same_step kept begun (passes.Clear index) one other = refl
same_step kept begun (passes.Remove index) one other = refl

-- a checker that doesn't rest is before a step
stage_says : (checker : Checker) (stage : check_stages.CheckStage) → checker.stage ≡ stage → stage ≢ checking.Rest → (step : Step) × checks.Says checker step
stage_says checker checking.Rest is going = absurd (going refl)
stage_says checker (checking.Begin begun) is going =
    (Clock, λ sites. subst (λ (x : check_stages.CheckStage). checks.stage_step (setting_with checker.setting sites) x ≡ Some Clock) (sym is) refl)
stage_says checker (checking.Check role begun pass) is going =
    let step : Step = pass_step (setting_with checker.setting (map_of [])) begun pass in (
      step,
      λ sites. subst (λ (x : check_stages.CheckStage). checks.stage_step (setting_with checker.setting sites) x ≡ Some step) (sym is)
          (ap Some (same_step checker.setting begun pass sites (map_of []))),
    )
stage_says checker (checking.End scope) is going =
    (Clock, λ sites. subst (λ (x : check_stages.CheckStage). checks.stage_step (setting_with checker.setting sites) x ≡ Some Clock) (sym is) refl)

module _ (s : settings.Setting) (scopes : List Begun) (doing : Doing) (asked : ℕ) (records : List Record) (checker : Checker)
    (leads : checks.Leads s scopes doing asked records checker) where
  checker_says : ¬ checks.IsDone s scopes doing asked records → (step : Step) × checks.Says checker step
  checker_says going = stage_says checker checker.stage refl (λ rests.
      let complete = complete_at_rest s scopes doing asked records checker leads rests in going (_, complete.does))

  only_says : (step : Step) → checks.Says checker step → checks.OnlyStep s scopes doing asked records step
  only_says step says = only_step s scopes doing asked records checker step leads
      (subst (λ (t : settings.Setting). checks.stage_step t checker.stage ≡ Some step) leads.setting (says s.sites))

-- an operation that isn't over is before a step
operation_says : (now : OperationRun) (stage : operating.OperationStage) → now.stage ≡ stage → stage ≢ operating_stages.Over → (step : Step) × operations.Says now step
operation_says now operating_stages.Over is going = absurd (going refl)
operation_says now (operating_stages.Load kind) is going =
    let step : Step = CellLoad now.source.cell in
    (step, subst (λ (x : operating.OperationStage). operation_stages.stage_step now.access now.source x ≡ Some step) (sym is) refl)
operation_says now (operating_stages.Exchange change seen tries) is going =
    let step : Step = CellExchange now.source.cell seen (with_value now.access now.source seen (new_value now.access.size change (value_in now.access now.source seen))) in
    (step, subst (λ (x : operating.OperationStage). operation_stages.stage_step now.access now.source x ≡ Some step) (sym is) refl)

module _ (s : settings.Setting) (scopes : List Begun) (begun : Begun) (asked : ℕ) (operation : Option Operation) (records : List Record) (checker : Checker) where
  -- so is an access
  access_says : (stage : access_stages.AccessStage) → StageLeads s scopes begun asked operation records stage checker
      → ¬ AccessIsDone s scopes begun asked operation records → (step : Step) × accesses.StageSays stage checker step
  access_says (Check run) leads going = checker_says s scopes (Checks begun) asked records checker leads.0
      (λ done. leads.1 records [] done.0 (sym (append-nil records)) done.1)
  access_says (Operate run) leads going = operation_says run run.stage refl (λ over. by_operation operation leads.4 leads.5 over)
    where
      by_operation : (o : Option Operation) → NoneWhole (Operates s begun.access o) leads.1 → accesses.Runs s begun.access o leads.1 run → run.stage ≡ operating_stages.Over → ⊥
      by_operation None none runs over = absurd runs
      by_operation (Some of) none runs over = none leads.1 [] run.effect (sym (append-nil leads.1))
          (runs.0, runs.1, operations_lemmas.over_is_whole s.task begun.access runs.0 of leads.1 run runs.2 over)
  access_says (End effect) leads going = (Clock, refl)
  access_says (Over effect) leads going = absurd (going (over_done s scopes begun asked operation records checker effect leads))

  access_only : (stage : access_stages.AccessStage) → StageLeads s scopes begun asked operation records stage checker
      → (step : Step) → accesses.StageSays stage checker step → AccessOnlyStep s scopes begun asked operation records step
  access_only (Check run) leads step says = check_only s scopes begun asked operation records checker run leads step
      (only_says s scopes (Checks begun) asked records checker leads.0 step says)
  access_only (Operate run) leads step says = operate_only s scopes begun asked operation records checker run leads step
      (λ source of done led. operations_lemmas.only_step s.task begun.access source of done run led step says)
  access_only (End effect) leads step says = subst (λ (x : Step). AccessOnlyStep s scopes begun asked operation records x) (sym says)
      (end_only s scopes begun asked operation records checker effect leads)
  access_only (Over effect) leads step says = absurd says

module _ (s : Setting) (registers : ℕ) (body : Block) (records : List Record) (run : TaskRun) (leads : Leads s registers body records run) where
  abbrev Next : TaskStage → Type 0
  Next stage = (step : Step) × StageSays stage run step × OnlyStep s registers body records step

  abbrev here : Standing
  here = leads.now leads.mine

  making_next : (own : AccessRun) (kept : Then) → run.stage ≡ stages.Making own kept → Next (stages.Making own kept)
  making_next own kept is =
      let agrees = making_agrees s registers body records run leads own kept is in
      let part = making_part s registers body records run leads own kept is in
      let at = access_says (checks_of s) here.scopes agrees.is_in.2 here.asked part.1 leads.mine run.machine.checker own.stage
      (making_leads s registers body records run leads own kept is).stage agrees.is_in.8 in (
        at.0,
        at.1,
        making_only s registers body records run leads own kept is at.0 (λ scopes begun asked operation so_far l.
            access_only (checks_of s) scopes begun asked operation so_far run.machine.checker own.stage l.stage at.0 at.1),
      )

  opening_next : run.stage ≡ stages.Opening → Next stages.Opening
  opening_next is =
      let is_in = (opening_agrees s registers body records run leads is).is_in in
      let at = checker_says (checks_of s) here.scopes (Checks is_in.0) here.asked leads.mine run.machine.checker is_in.4
      (λ done. is_in.5 leads.mine [] done.0 (sym (append-nil leads.mine)) done.1) in (
        at.0,
        at.1,
        opening_only s registers body records run leads is at.0 (λ scopes doing asked so_far l.
            only_says (checks_of s) scopes doing asked so_far run.machine.checker l at.0 at.1),
      )

  closing_next : run.stage ≡ stages.Closing → Next stages.Closing
  closing_next is =
      let is_in = (closing_agrees s registers body records run leads is).is_in in
      let at = checker_says (checks_of s) is_in.0 (Closes is_in.1 is_in.2) here.asked leads.mine run.machine.checker is_in.6
      (λ done. is_in.7 leads.mine [] done.0 (sym (append-nil leads.mine)) done.1) in (
        at.0,
        at.1,
        closing_only s registers body records run leads is at.0 (λ scopes doing asked so_far l.
            only_says (checks_of s) scopes doing asked so_far run.machine.checker l at.0 at.1),
      )

  locking_next : (wait : LockWait) (variable : ℕ) → run.stage ≡ stages.Locking wait variable → Next (stages.Locking wait variable)
  locking_next wait variable is =
      let step : Step = LockTry wait.lock wait.task in
      let going = lock_going s.text.task (lock_number s variable) leads.mine wait (locking_leads s registers body records run leads wait variable is)
      (locking_agrees s registers body records run leads wait variable is).is_in.5 in (
        step,
        (going, refl),
        locking_only s registers body records run leads wait variable is going step
            (λ lock so_far l. only_try s.text.task lock so_far wait l step (going, refl)),
      )

  next_in : (stage : TaskStage) → run.stage ≡ stage → IsGoingIn stage → Next stage
  next_in stages.Over is going = absurd going
  next_in stages.Stopped is going = absurd going
  next_in (stages.Making own kept) is going = making_next own kept is
  next_in stages.Opening is going = opening_next is
  next_in stages.Closing is going = closing_next is
  next_in (stages.Locking wait variable) is going = locking_next wait variable is
  next_in (stages.Unlocking variable) is going = (
    LockStore (count_by (λ v. is_lock v.contents) (take variable run.machine.variables.now)),
    refl,
    unlocking_only s registers body records run leads variable is,
  )

  -- in a part of the text the machine is before a step
  pub going_next : IsGoing run → (step : Step) × Says run step × OnlyStep s registers body records step
  going_next going = next_in run.stage refl going

  -- whichever stage it is in, it is in a part of the text, or over, or stopped
  module _ (P : Type 0) (going : IsGoing run → P) (over : run.stage ≡ stages.Over → P) (stopped : run.stage ≡ stages.Stopped → P) where
    by_stage : (stage : TaskStage) → run.stage ≡ stage → P
    by_stage stages.Over is = over is
    by_stage stages.Stopped is = stopped is
    by_stage (stages.Making own kept) is = going (subst IsGoingIn (sym is) tt)
    by_stage stages.Opening is = going (subst IsGoingIn (sym is) tt)
    by_stage stages.Closing is = going (subst IsGoingIn (sym is) tt)
    by_stage (stages.Locking wait variable) is = going (subst IsGoingIn (sym is) tt)
    by_stage (stages.Unlocking variable) is = going (subst IsGoingIn (sym is) tt)

  module _ (few : BlockScopes 0 body) (rises : block_rises body ≤ 2 ^ 32) where
    -- nothing but the end of the text is the end of the machine's parts
    pub over_where_spelled : SpellsAll s registers body records → run.stage ≡ stages.Over
    over_where_spelled all =
        let whole : SpellsAll s registers body (records ++ []) = subst (λ (r : List Record). SpellsAll s registers body r) (sym (append-nil records)) all in
        by_stage (run.stage ≡ stages.Over) (λ going. absurd ((going_next going).2 [] whole)) (λ is. is)
        (λ is. absurd (none_stops s registers body records run leads (record { more = []; whole = whole }) few rises is)) run.stage refl

    -- the part waits too long exactly where the task is stuck by its records
    pub stuck_as_told : WrittenOrder s registers body records → IsStuck leads ↔ waits.IsStuck s registers body records
    stuck_as_told written = (stuck_by_records s registers body records run leads written, from)
      where
        from : waits.IsStuck s registers body records → IsStuck leads
        from by = by_stage (IsStuck leads)
            (λ going.
            let next = going_next going in
            let same : by.step ≡ next.0 = one_next s.text.task by.step next.0 by.written.more
            (by.only by.written.more by.written.whole) (next.2 by.written.more by.written.whole) in
            too_much_stuck s registers body records run leads next.0 next.1
            (subst (λ (x : Step). IsTooMuch s.rules.turns x (reverse records)) same by.tried))
            (λ is. absurd (over_waits_not s registers body records (over_spelled s registers body records run leads is) by))
            (λ is. absurd (none_stops s registers body records run leads written few rises is)) run.stage refl
