-- A part that waits too long is stuck by the records: the only step that they go on with is a try too much.
use Rattle.std.proofs.Common.{◌≡◌, ◌↔◌, ◌⊎◌, ◌∙◌, ◌++◌, ◌^◌, ◌≤◌, ◌∷◌, [], ℕ, Bool, true, false, IfSome, IsNone, List, None, Option, Some, ap, inl, inr, refl, reverse, subst, sym}
use Rattle.std.proofs.lemmas.List.{append-nil}
use Rattle.access_run.proofs.CheckFronts.{check, close, framed_checks}
use Rattle.access_run.proofs.LeadsLemmas.{check_only, check_stuck, end_not_stuck, operate_only, operate_stuck}
use Rattle.access_run.proofs.WholeLemmas.{split}
use Rattle.access_run.specs.Leads.{AccessIsComplete, AccessLeads, IsStuckIn, Runs, StageLeads}
use Rattle.access_run.specs.Moved.{FramedChecks}
use Rattle.access_run.specs.Whole.{NoneWhole}
use Rattle.access_run.specs.declared.access.AccessRun.{AccessRun}
use Rattle.access_run.specs.declared.stage.AccessStage as access_stages
use Rattle.access_run.specs.declared.stage.AccessStage.TheVariants as accessing
use Rattle.access_types.specs.Access as access
use Rattle.litmus_syntax.specs.Limits.{BlockScopes, block_rises}
use Rattle.litmus_syntax.specs.Tree.{Block}
use Rattle.access_run.proofs.memory_operation.LeadsLemmas as operations_lemmas
use Rattle.access_run.proofs.memory_operation.LockLemmas.{only_try, taken_whole}
use Rattle.access_run.specs.memory_operation.LockLeads.{LockLeads}
use Rattle.access_run.specs.memory_operation.Leads as operations
use Rattle.access_run.specs.memory_operation.Locks.{TakesLock}
use Rattle.access_run.specs.declared.memory_operation.lock.LockWait.{LockWait}
use Rattle.access_run.specs.declared.memory_operation.operation.Operation.{Operation}
use Rattle.access_run.specs.declared.memory_operation.run.OperationRun.{OperationRun}
use Rattle.setup_access.proofs.NextLemmas.{only_step}
use Rattle.setup_access.specs.Check.{Check, Close, Passes}
use Rattle.setup_access.specs.Checker.{Checks, Closes, Doing}
use Rattle.setup_access.specs.Leads as checks
use Rattle.setup_access.specs.Setting as settings
use Rattle.setup_access.specs.Waits.{IsStuckBy}
use Rattle.setup_access.proofs.LeadsLemmas.{same_ends}
use Rattle.setup_access.specs.declared.begun.Begun.{Begun}
use Rattle.setup_access.specs.declared.source.Source.{Source}
use Rattle.slot_table.specs.declared.records.Record.{Record}
use Rattle.slot_table.specs.declared.step.Step.{Step}
use Rattle.slot_table.specs.declared.step.Step.TheVariants.{LockTry, PairLoad}
use Rattle.task_plan.specs.Views.{follow_of}
use Rattle.task_plan.specs.declared.follow.Then.{Then}
use Rattle.task_run.proofs.EndLemmas.{begins_one, one_answer}
use Rattle.task_run.proofs.LeadsLemmas.{agrees_in}
use Rattle.task_run.proofs.LongLemmas.{LoadsNext, check_long, lock_long, operation_long}
use Rattle.task_run.proofs.NextLemmas.{closing_is, closing_only, closing_part, locking_leads, locking_part, locking_only, making_agrees, making_is, making_leads, making_only, making_part, opening_is}
use Rattle.task_run.proofs.NextLemmas.{opening_only, opening_part, over_stuck, stopped_stuck, too_much_stuck, unlocking_stuck}
use Rattle.task_run.proofs.PairLemmas.{AreOfOne, check_of_one, close_of_one}
use Rattle.task_run.proofs.TriesLemmas.{all_onto, onto, onto_both}
use Rattle.task_run.specs.Leads.{IsStuck, Leads, WaitsTooLong}
use Rattle.task_run.specs.Agrees.{IsIn}
use Rattle.task_run.specs.Part.{Part, PartLeft, closes, locks, makes, opens, over, stops, unlocks}
use Rattle.task_run.specs.Says.{IsStopped, Says}
use Rattle.task_run.specs.declared.machine.Machine.{Machine}
use Rattle.task_run.specs.declared.run.TaskRun.{TaskRun}
use Rattle.task_run.specs.declared.stage.TaskStage.{TaskStage}
use Rattle.task_run.specs.declared.stage.TaskStage.TheVariants as stages
use Rattle.program_order.proofs.text_bounds.Passes.{passes_none}
use Rattle.task_plan.specs.Left.{DueLeft}
use Rattle.task_plan.specs.declared.due.Due.{Due}
use Rattle.program_order.specs.Standing.{Setting, Standing, checks_of, lock_number}
use Rattle.program_order.specs.Waits as waits
use Rattle.program_order.specs.Waits.{IsTooMuch, OnlyStep}
use Rattle.program_order.specs.WrittenOrder.{SpellsAll, WrittenOrder}

loads_next : (task index : ℕ) (records : List Record) → checks.GoOn task (PairLoad index) records → LoadsNext index records
loads_next task index [] h = h
loads_next task index (first ∷ later) h = h.1

-- records that are none of a check yet, with what completes the check: it goes on with a load of the pair
goes_of_one : (task index : ℕ) (Begins : List Record → Passes → List Record → Type 0) → FramedChecks Begins
    → ((records : List Record) (passes : Passes) → Begins records passes [] → AreOfOne records)
    → (mine later : List Record) (passes : Passes) (rest : List Record) → NoneWhole Begins mine
    → ((more : List Record) (all : Passes) → Begins (mine ++ more) all [] → checks.GoOn task (PairLoad index) more)
    → Begins (mine ++ later) passes rest → (more : List Record) × AreOfOne (mine ++ more) × LoadsNext index more
goes_of_one task index Begins framed one mine later passes rest none only h =
    let own = (framed (mine ++ later) passes rest).0 h in
    elim (split mine later own.0 rest own.3) [
      | inl less ↦ absurd (none own.0 less.0 own.1 less.1 own.2)
      | inr more ↦
          let all : Begins (mine ++ more.0) own.1 [] = subst (λ (l : List Record). Begins l own.1 []) more.1 own.2 in
          (more.0, one (mine ++ more.0) own.1 all, loads_next task index more.0 (only more.0 own.1 all))
    ]

one_run : (one other : AccessRun) (first second : Then) → stages.Making one first ≡ stages.Making other second → one ≡ other
one_run one other first second is = cc

one_source : (one other : Source) → Some one ≡ Some other → one ≡ other
one_source one other is = cc

pub lock_going : (task lock : ℕ) (mine : List Record) (wait : LockWait) → LockLeads task lock mine wait → ¬ TakesLock task lock mine [] → wait.is_taken ≡ false
lock_going task lock mine wait leads none = by_taken wait.is_taken refl
  where
    by_taken : (taken : Bool) → wait.is_taken ≡ taken → taken ≡ false
    by_taken true is = absurd (none (taken_whole task lock mine wait leads is))
    by_taken false is = refl

module _ (s : Setting) (registers : ℕ) (body : Block) (records : List Record) (run : TaskRun) (leads : Leads s registers body records run)
    (written : WrittenOrder s registers body records) where
  -- where the part began, with what completes the records still to come
  abbrev there : Standing
  there = leads.now (leads.mine ++ written.more)

  told : (step : Step) → OnlyStep s registers body records step → IsTooMuch s.rules.turns step (onto leads.mine (reverse leads.earlier))
      → waits.IsStuck s registers body records
  told step only tried = record {
    step = step;
    written = written;
    only = only;
    tried = subst (λ (r : List Record). IsTooMuch s.rules.turns step r)
        (sym (ap (λ (r : List Record). reverse r) leads.spelled ∙ all_onto leads.earlier leads.mine)) tried;
  }

  whole : (part : Part) → leads.part ≡ part → PartLeft s part run.machine.walk there (leads.mine ++ written.more) written.whole.end []
  whole part is = subst (λ (p : Part). PartLeft s p run.machine.walk there (leads.mine ++ written.more) written.whole.end []) is
      ((leads.left written.more written.whole.end).0 written.whole.steps)

  -- A load of a pair is next, and comes after so many failed tries.
  abbrev pub LoadsAfter : ℕ → Type 0
  LoadsAfter tries =
      (index : ℕ) × ((of : settings.Setting) → checks.stage_step of run.machine.checker.stage ≡ Some (PairLoad index))
      × IsTooMuch tries (PairLoad index) (onto leads.mine (reverse leads.earlier))

  pub opening_loads : run.stage ≡ stages.Opening → (tries : ℕ) → IsStuckBy tries leads.mine → LoadsAfter tries
  opening_loads is tries by =
      let part = opening_part s registers body records run leads is in
      let agrees = agrees_in s registers body records run leads (opens part.0) part.1 (leads.mine ++ written.more) in
      let is_in = agrees.is_in in
      let long = check_long (checks_of s) there.scopes (Checks is_in.0) there.asked leads.mine run.machine.checker is_in.4 tries by in
      let left = whole (opens part.0) part.1 in
      let same = begins_one s there part.0 left.0 is_in.0 left.3.begins is_in.2 in
      let Begins : List Record → Passes → List Record → Type 0 = Check (checks_of s) there.scopes is_in.0 there.asked in
      let next = goes_of_one s.text.task long.0 Begins (framed_checks Begins (check (checks_of s) there.scopes is_in.0 there.asked))
      (λ r p h. check_of_one (checks_of s) there.scopes is_in.0 there.asked r p [] h tt) leads.mine written.more left.3.passes left.2 is_in.5
      (only_step (checks_of s) there.scopes (Checks is_in.0) there.asked leads.mine run.machine.checker (PairLoad long.0) is_in.4 (long.1 (checks_of s)))
      (subst (λ (b : Begun). Check (checks_of s) there.scopes b there.asked (leads.mine ++ written.more) left.3.passes left.2) same left.3.check) in
      (long.0, long.1, long.2 (reverse leads.earlier) next.0 next.1 next.2)

  opening_waits : run.stage ≡ stages.Opening → IsStuck leads → waits.IsStuck s registers body records
  opening_waits is stuck =
      let long = opening_loads is s.rules.turns ((opening_is s registers body records run leads is).1 stuck) in
      told (PairLoad long.0)
      (opening_only s registers body records run leads is (PairLoad long.0) (λ scopes doing asked so_far l.
      only_step (checks_of s) scopes doing asked so_far run.machine.checker (PairLoad long.0) l (long.1 (checks_of s))))
      long.2

  pub closing_loads : run.stage ≡ stages.Closing → (tries : ℕ) → IsStuckBy tries leads.mine → LoadsAfter tries
  closing_loads is tries by =
      let part = closing_part s registers body records run leads is in
      let agrees = agrees_in s registers body records run leads closes part (leads.mine ++ written.more) in
      let is_in = agrees.is_in in
      let doing : Doing = Closes is_in.1 is_in.2 in
      let long = check_long (checks_of s) is_in.0 doing there.asked leads.mine run.machine.checker is_in.6 tries by in
      let left = whole closes part in
      let closed = left.2 in
      let made = closed.3 in
      let ends = same_ends closed.0 is_in.0 closed.1 is_in.1 (sym closed.2 ∙ is_in.4) in
      let says : made.silenced ≡ is_in.2 = one_answer made.silenced is_in.2 _ made.is_silenced is_in.5 in
      let Begins : List Record → Passes → List Record → Type 0 = Close (checks_of s) is_in.1 is_in.2 there.asked in
      let next = goes_of_one s.text.task long.0 Begins (framed_checks Begins (close (checks_of s) is_in.1 is_in.2 there.asked))
      (λ r p h. close_of_one (checks_of s) is_in.1 is_in.2 there.asked r p [] h tt) leads.mine written.more made.passes left.1 is_in.7
      (only_step (checks_of s) is_in.0 doing there.asked leads.mine run.machine.checker (PairLoad long.0) is_in.6 (long.1 (checks_of s)))
      (subst (λ (b : Bool). Close (checks_of s) is_in.1 b there.asked (leads.mine ++ written.more) made.passes left.1) says
      (subst (λ (b : Begun). Close (checks_of s) b made.silenced there.asked (leads.mine ++ written.more) made.passes left.1) ends.1 made.close)) in
      (long.0, long.1, long.2 (reverse leads.earlier) next.0 next.1 next.2)

  closing_waits : run.stage ≡ stages.Closing → IsStuck leads → waits.IsStuck s registers body records
  closing_waits is stuck =
      let long = closing_loads is s.rules.turns ((closing_is s registers body records run leads is).1 stuck) in
      told (PairLoad long.0)
      (closing_only s registers body records run leads is (PairLoad long.0) (λ scopes what asked so_far l.
      only_step (checks_of s) scopes what asked so_far run.machine.checker (PairLoad long.0) l (long.1 (checks_of s))))
      long.2

  locking_waits : (wait : LockWait) (variable : ℕ) → run.stage ≡ stages.Locking wait variable → IsStuck leads → waits.IsStuck s registers body records
  locking_waits wait variable is stuck =
      let part = locking_part s registers body records run leads wait variable is in
      let by : WaitsTooLong s (locks variable) (leads.now leads.mine) leads.mine =
      subst (λ (p : Part). WaitsTooLong s p (leads.now leads.mine) leads.mine) part stuck in
      let its = locking_leads s registers body records run leads wait variable is in
      let going = lock_going s.text.task (lock_number s variable) leads.mine wait its by.0 in
      told (LockTry wait.lock wait.task)
      (locking_only s registers body records run leads wait variable is going (LockTry wait.lock wait.task)
      (λ lock so_far l. only_try s.text.task lock so_far wait l (LockTry wait.lock wait.task) (going, refl)))
      (lock_long s.text.task (lock_number s variable) leads.mine wait its going s.rules.turns by.1 (reverse leads.earlier))

  -- an operation that was refused so often
  refused : (a : access.Access) (now : OperationRun) (done : List Record) (operation : Option Operation) → Runs (checks_of s) a operation done now
      → IsStuckIn (checks_of s) a operation done
      → (step : Step) × operations.Says now step × ((before : List Record) → IsTooMuch s.rules.turns step (onto done before))
  refused a now done None runs stuck = absurd runs
  refused a now done (Some operation) runs stuck =
      let same : stuck.0 ≡ runs.0 = one_source stuck.0 runs.0 (sym stuck.1 ∙ runs.1) in
      operation_long s.text.task a runs.0 operation done now runs.2 s.rules.turns stuck.2.1 stuck.2.2
      (subst (λ (x : Source). ¬ operations.IsDone s.text.task a x operation done) same stuck.2.0)

  module _ (own : AccessRun) (kept : Then) (is : run.stage ≡ stages.Making own kept) where
    abbrev here : Standing
    here = leads.now leads.mine

    pub check_loads : (ready : Option OperationRun) → own.stage ≡ accessing.Check ready → (tries : ℕ) → IsStuckBy tries leads.mine → LoadsAfter tries
    check_loads ready at tries by =
        let part = making_part s registers body records run leads own kept is in
        let begun = (making_agrees s registers body records run leads own kept is).is_in.2 in
        let here_leads : StageLeads (checks_of s) here.scopes begun here.asked part.1 leads.mine (accessing.Check ready) run.machine.checker =
        subst (λ (x : access_stages.AccessStage). StageLeads (checks_of s) here.scopes begun here.asked part.1 leads.mine x run.machine.checker) at
        (making_leads s registers body records run leads own kept is).stage in
        let long = check_long (checks_of s) here.scopes (Checks begun) here.asked leads.mine run.machine.checker here_leads.0 tries by in
        let then = agrees_in s registers body records run leads (makes part.0 part.1 (follow_of kept)) part.2 (leads.mine ++ written.more) in
        let is_in = then.is_in in
        let its : AccessLeads (checks_of s) there.scopes is_in.2 there.asked part.1 leads.mine own run.machine.checker =
        subst (λ (r : AccessRun). AccessLeads (checks_of s) there.scopes is_in.2 there.asked part.1 leads.mine r run.machine.checker)
        (one_run is_in.0 own is_in.1 kept (sym is_in.3 ∙ is)) is_in.7 in
        let there_leads : StageLeads (checks_of s) there.scopes is_in.2 there.asked part.1 leads.mine (accessing.Check ready) run.machine.checker =
        subst (λ (x : access_stages.AccessStage). StageLeads (checks_of s) there.scopes is_in.2 there.asked part.1 leads.mine x run.machine.checker) at its.stage in
        let left = whole (makes part.0 part.1 (follow_of kept)) part.2 in
        let made = left.3 in
        let same = begins_one s there part.0 made.begun is_in.2 made.begins is_in.6 in
        let Begins : List Record → Passes → List Record → Type 0 = Check (checks_of s) there.scopes is_in.2 there.asked in
        let next = goes_of_one s.text.task long.0 Begins (framed_checks Begins (check (checks_of s) there.scopes is_in.2 there.asked))
        (λ r p h. check_of_one (checks_of s) there.scopes is_in.2 there.asked r p [] h tt) leads.mine written.more made.passes made.checked there_leads.1
        (only_step (checks_of s) there.scopes (Checks is_in.2) there.asked leads.mine run.machine.checker (PairLoad long.0) there_leads.0 (long.1 (checks_of s)))
        (subst (λ (b : Begun). Check (checks_of s) there.scopes b there.asked (leads.mine ++ written.more) made.passes made.checked) same made.check) in
        (long.0, long.1, long.2 (reverse leads.earlier) next.0 next.1 next.2)

    check_waits : (ready : Option OperationRun) → own.stage ≡ accessing.Check ready → IsStuck leads → waits.IsStuck s registers body records
    check_waits ready at stuck =
        let part = making_part s registers body records run leads own kept is in
        let begun = (making_agrees s registers body records run leads own kept is).is_in.2 in
        let here_leads : StageLeads (checks_of s) here.scopes begun here.asked part.1 leads.mine (accessing.Check ready) run.machine.checker =
        subst (λ (x : access_stages.AccessStage). StageLeads (checks_of s) here.scopes begun here.asked part.1 leads.mine x run.machine.checker) at
        (making_leads s registers body records run leads own kept is).stage in
        let long = check_loads ready at s.rules.turns
        ((check_stuck (checks_of s) here.scopes begun here.asked part.1 leads.mine run.machine.checker ready here_leads).1
        ((making_is s registers body records run leads own kept is).1 stuck)) in
        told (PairLoad long.0)
        (making_only s registers body records run leads own kept is (PairLoad long.0) (λ scopes of asked operation so_far l.
        let now : StageLeads (checks_of s) scopes of asked operation so_far (accessing.Check ready) run.machine.checker =
        subst (λ (x : access_stages.AccessStage). StageLeads (checks_of s) scopes of asked operation so_far x run.machine.checker) at l.stage in
        check_only (checks_of s) scopes of asked operation so_far run.machine.checker ready now (PairLoad long.0)
        (only_step (checks_of s) scopes (Checks of) asked so_far run.machine.checker (PairLoad long.0) now.0 (long.1 (checks_of s)))))
        long.2

    operate_waits : (now : OperationRun) → own.stage ≡ accessing.Operate now → IsStuck leads → waits.IsStuck s registers body records
    operate_waits now at stuck =
        let part = making_part s registers body records run leads own kept is in
        let agrees = making_agrees s registers body records run leads own kept is in
        let begun = agrees.is_in.2 in
        let here_leads : StageLeads (checks_of s) here.scopes begun here.asked part.1 leads.mine (accessing.Operate now) run.machine.checker =
        subst (λ (x : access_stages.AccessStage). StageLeads (checks_of s) here.scopes begun here.asked part.1 leads.mine x run.machine.checker) at
        (making_leads s registers body records run leads own kept is).stage in
        let within = (operate_stuck (checks_of s) here.scopes begun here.asked part.1 leads.mine run.machine.checker now here_leads).1
        ((making_is s registers body records run leads own kept is).1 stuck) in
        let long = refused begun.access now here_leads.1 part.1 here_leads.5 within in
        told long.0
        (making_only s registers body records run leads own kept is long.0 (λ scopes of asked operation so_far l.
        let there_leads : StageLeads (checks_of s) scopes of asked operation so_far (accessing.Operate now) run.machine.checker =
        subst (λ (x : access_stages.AccessStage). StageLeads (checks_of s) scopes of asked operation so_far x run.machine.checker) at l.stage in
        operate_only (checks_of s) scopes of asked operation so_far run.machine.checker now there_leads long.0
        (λ source kind done led. operations_lemmas.only_step s.text.task of.access source kind done now led long.0 long.1)))
        (subst (λ (r : List Record). IsTooMuch s.rules.turns long.0 r)
        (sym (ap (λ (r : List Record). onto r (reverse leads.earlier)) here_leads.2 ∙ onto_both here_leads.0 here_leads.1 (reverse leads.earlier)))
        (long.2 (onto here_leads.0 (reverse leads.earlier))))

    making_waits : IsStuck leads → waits.IsStuck s registers body records
    making_waits stuck = by_stage own.stage refl
      where
        by_stage : (stage : access_stages.AccessStage) → own.stage ≡ stage → waits.IsStuck s registers body records
        by_stage (accessing.Check ready) at = check_waits ready at stuck
        by_stage (accessing.Operate now) at = operate_waits now at stuck
        by_stage (accessing.End effect) at =
            let part = making_part s registers body records run leads own kept is in
            let begun = (making_agrees s registers body records run leads own kept is).is_in.2 in
            absurd (end_not_stuck (checks_of s) here.scopes begun here.asked part.1 leads.mine run.machine.checker effect
            (subst (λ (x : access_stages.AccessStage). StageLeads (checks_of s) here.scopes begun here.asked part.1 leads.mine x run.machine.checker) at
            (making_leads s registers body records run leads own kept is).stage)
            ((making_is s registers body records run leads own kept is).1 stuck))
        by_stage (accessing.Over effect) at =
            let part = making_part s registers body records run leads own kept is in
            let begun = (making_agrees s registers body records run leads own kept is).is_in.2 in
            let complete : AccessIsComplete (checks_of s) here.scopes begun here.asked part.1 leads.mine effect run.machine.checker =
            subst (λ (x : access_stages.AccessStage). StageLeads (checks_of s) here.scopes begun here.asked part.1 leads.mine x run.machine.checker) at
            (making_leads s registers body records run leads own kept is).stage in
            absurd (((making_is s registers body records run leads own kept is).1 stuck).going (_, effect, complete.makes))

  pub stuck_waits : IsStuck leads → waits.IsStuck s registers body records
  stuck_waits stuck = by_stage run.stage refl
    where
      by_stage : (stage : TaskStage) → run.stage ≡ stage → waits.IsStuck s registers body records
      by_stage stages.Over is = absurd (over_stuck s registers body records run leads is stuck)
      by_stage stages.Stopped is = absurd (stopped_stuck s registers body records run leads is stuck)
      by_stage (stages.Making own kept) is = making_waits own kept is stuck
      by_stage stages.Opening is = opening_waits is stuck
      by_stage stages.Closing is = closing_waits is stuck
      by_stage (stages.Locking wait variable) is = locking_waits wait variable is stuck
      by_stage (stages.Unlocking variable) is = absurd (unlocking_stuck s registers body records run leads variable is stuck)

pub stuck_by_records : (s : Setting) (registers : ℕ) (body : Block) (records : List Record) (run : TaskRun) (leads : Leads s registers body records run)
    → WrittenOrder s registers body records → IsStuck leads → waits.IsStuck s registers body records
stuck_by_records s registers body records run leads written stuck = stuck_waits s registers body records run leads written stuck

-- the same step both times
pub one_next : (task : ℕ) (one other : Step) (records : List Record) → operations.GoesOn task one records → operations.GoesOn task other records → one ≡ other
one_next task one other [] h k = absurd h
one_next task one other (first ∷ later) h k = sym h.1 ∙ k.1

-- only a part that stops has a machine that stopped
in_stopped : (s : Setting) (before : Standing) (mine : List Record) (machine : Machine) (stage : TaskStage) (part : Part) → IsIn s part before mine machine stage
    → stage ≡ stages.Stopped → (due : Due) × (part ≡ stops due)
in_stopped s before mine machine stage (makes a operation follow) h is = absurd (let no : stages.Making h.0 h.1 ≡ stages.Stopped = sym h.3 ∙ is in cc)
in_stopped s before mine machine stage (opens a) h is = absurd (let no : stages.Opening ≡ stages.Stopped = sym h.1 ∙ is in cc)
in_stopped s before mine machine stage closes h is = absurd (let no : stages.Closing ≡ stages.Stopped = sym h.3 ∙ is in cc)
in_stopped s before mine machine stage (locks variable) h is = absurd (let no : stages.Locking h.0 variable ≡ stages.Stopped = sym h.1 ∙ is in cc)
in_stopped s before mine machine stage over h is = absurd (let no : stages.Over ≡ stages.Stopped = sym h.0 ∙ is in cc)
in_stopped s before mine machine stage (stops due) h is = (due, refl)
in_stopped s before mine machine stage (unlocks variable) h is = absurd (let no : stages.Unlocking variable ≡ stages.Stopped = sym h.0 ∙ is in cc)

-- whatever completes the records of such a one has the task pass a limit, which no text that keeps the limits does
pub none_stops : (s : Setting) (registers : ℕ) (body : Block) (records : List Record) (run : TaskRun) → Leads s registers body records run
    → WrittenOrder s registers body records → BlockScopes 0 body → block_rises body ≤ 2 ^ 32 → ¬ IsStopped run
none_stops s registers body records run leads written few rises stopped =
    let all : List Record = leads.mine ++ written.more in
    let part = in_stopped s (leads.now all) leads.mine run.machine run.stage leads.part (leads.agrees all).is_in stopped in
    let agrees = agrees_in s registers body records run leads (stops part.0) part.1 all in
    let left : DueLeft s part.0 run.machine.walk (leads.now all) all written.whole.end [] =
    subst (λ (p : Part). PartLeft s p run.machine.walk (leads.now all) all written.whole.end []) part.1
    ((leads.left written.more written.whole.end).0 written.whole.steps) in
    passes_none s registers body (records ++ written.more) few rises written.whole (agrees.is_in.3 (leads.scopes all) all written.whole.end left)

-- no step is left exactly where the text is over, or the task is stuck by its records
module _ (s : Setting) (registers : ℕ) (body : Block) (records : List Record) (run : TaskRun) (leads : Leads s registers body records run) (o : Option Step)
    (only : IfSome o (OnlyStep s registers body records)) (says : IfSome o (λ step. Says run step)) (stuck_none : IsStuck leads → IsNone o) where
  none_by_records : waits.IsStuck s registers body records → IsNone o
  none_by_records by = at_step o only says stuck_none
    where
      at_step : (x : Option Step) → IfSome x (OnlyStep s registers body records) → IfSome x (λ step. Says run step) → (IsStuck leads → IsNone x) → IsNone x
      at_step None one here none = refl
      at_step (Some step) one here none =
          let same : by.step ≡ step = one_next s.text.task by.step step by.written.more (by.only by.written.more by.written.whole) (one by.written.more by.written.whole) in
          none (too_much_stuck s registers body records run leads step here
          (subst (λ (x : Step). IsTooMuch s.rules.turns x (reverse records)) same by.tried))

  pub over_by_records : (IsNone o ↔ (SpellsAll s registers body records ⊎ (IsStuck leads ⊎ IsStopped run))) → WrittenOrder s registers body records
      → BlockScopes 0 body → block_rises body ≤ 2 ^ 32 → IsNone o ↔ (SpellsAll s registers body records ⊎ waits.IsStuck s registers body records)
  over_by_records none written few rises = (to, from)
    where
      to : IsNone o → SpellsAll s registers body records ⊎ waits.IsStuck s registers body records
      to h = elim (none.0 h) [
        | inl all ↦ inl all
        | inr rest ↦ elim rest [
          | inl stuck ↦ inr (stuck_by_records s registers body records run leads written stuck)
          | inr stopped ↦ absurd (none_stops s registers body records run leads written few rises stopped)
        ]
      ]

      from : SpellsAll s registers body records ⊎ waits.IsStuck s registers body records → IsNone o
      from (inl all) = none.1 (inl all)
      from (inr by) = none_by_records by

-- a text that is over has no wait
pub over_waits_not : (s : Setting) (registers : ℕ) (body : Block) (records : List Record) → SpellsAll s registers body records → ¬ waits.IsStuck s registers body records
over_waits_not s registers body records all by =
    by.only [] (subst (λ (r : List Record). SpellsAll s registers body r) (sym (append-nil records)) all)
