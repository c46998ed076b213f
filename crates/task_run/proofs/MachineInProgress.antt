-- A task's machine tells which accesses of the task are in progress.
use Rattle.std.proofs.Common.{◌≡◌, ◌↔◌, ◌∙◌, ◌++◌, ◌∷◌, [], ℕ, Bool, Contains, List, None, Option, Some, ap, append_assoc, length, refl, subst, sym}
use Rattle.std.proofs.lemmas.List.{append-nil}
use Rattle.std.specs.Option.{option_to_list}
use Rattle.access_run.specs.Leads.{AccessIsDone, StageLeads}
use Rattle.access_run.specs.declared.memory_operation.operation.Operation.{Operation}
use Rattle.access_run.specs.declared.stage.AccessStage.{AccessStage}
use Rattle.access_run.specs.declared.stage.AccessStage.TheVariants as own_stages
use Rattle.access_run.specs.Whole.{NoneWhole}
use Rattle.access_types.specs.Access.{Access}
use Rattle.access_types.specs.declared.history.Happening.{Happening}
use Rattle.access_types.specs.declared.history.Happening.TheVariants.{Begin}
use Rattle.litmus_syntax.specs.Tree.{Block}
use Rattle.program_order.specs.InProgress.{IsInProgressAs, clock_steps}
use Rattle.program_order.specs.Standing.{BeginsNow, Setting, Standing, checks_of}
use Rattle.program_order.specs.TaskObserved.{did_by}
use Rattle.program_order.specs.WrittenOrder.{WrittenOrder}
use Rattle.setup_access.proofs.NextLemmas.{complete_at_rest}
use Rattle.setup_access.specs.Check.{Check, Close, Passes}
use Rattle.setup_access.specs.Checker.{Checks, Closes, HasBegun, IsClosing}
use Rattle.setup_access.specs.Leads as checks
use Rattle.setup_access.specs.Setting as settings
use Rattle.setup_access.specs.Shown.{begun_at, begun_of, closing_at, closing_check, closing_of, scoped_of}
use Rattle.setup_access.specs.declared.begun.Begun.{Begun}
use Rattle.setup_access.specs.declared.checker.Checker.{Checker}
use Rattle.setup_access.specs.declared.stage.CheckStage.{CheckStage}
use Rattle.setup_access.specs.declared.stage.CheckStage.TheVariants as checking
use Rattle.setup_access.specs.declared.stage.Role.{Role}
use Rattle.setup_access.specs.declared.stage.Role.TheVariants as roles
use Rattle.slot_table.specs.declared.records.Record.{Record}
use Rattle.task_plan.proofs.StepsLemmas.{through}
use Rattle.task_run.proofs.InProgressLemmas.{Told, told_at, told_begin, told_quiet}
use Rattle.task_run.proofs.PartPoints.{did_in, did_told}
use Rattle.task_run.proofs.TextPoints.{GoesQuietly}
use Rattle.task_run.specs.Accesses.{IsNewAt, begun_in, in_progress_of}
use Rattle.task_run.specs.Agrees.{IsIn}
use Rattle.task_run.specs.Leads.{Leads, stands_at}
use Rattle.task_run.specs.Part.{Part, closes, locks, makes, opens, over, stops, unlocks}
use Rattle.task_run.specs.declared.machine.Machine.{Machine}
use Rattle.task_run.specs.declared.run.TaskRun.{TaskRun}
use Rattle.task_run.specs.declared.stage.TaskStage.{TaskStage}
use Rattle.task_run.specs.declared.stage.TaskStage.TheVariants as stages

-- what has begun is the last access
begun_last : (stage : CheckStage) (last : Option Begun) → HasBegun stage → begun_at stage last ≡ last
begun_last checking.Rest last has = refl
begun_last (checking.Begin begun) last has = absurd has
begun_last (checking.Check role begun pass) last has = refl
begun_last (checking.End scope) last has = refl

module _ (s : settings.Setting) (scopes : List Begun) (begun : Begun) (asked : ℕ) (checker : Checker) where
  -- no access has begun before the first record of its check
  check_none : checks.Leads s scopes (Checks begun) asked [] checker → begun_of checker ≡ None
  check_none leads = ap (λ (x : CheckStage). begun_at x checker.last) leads.stands

  -- it has after the first
  check_some : (first : Record) (mine : List Record) → checks.Leads s scopes (Checks begun) asked (first ∷ mine) checker → begun_of checker ≡ Some begun
  check_some first mine leads = begun_last checker.stage checker.last leads.stands ∙ leads.last

  rests_some : (now : ℕ) → checks.Rests s scopes now (Some begun) checker → begun_of checker ≡ Some begun
  rests_some now rests = ap (λ (x : CheckStage). begun_at x checker.last) rests.stage ∙ rests.may_open

  -- a check has a record
  none_checked : (checked done : List Record) (passes : Passes) → Check s scopes begun asked checked passes [] → ¬ ([] ≡ checked ++ done)
  none_checked [] done passes h = λ is. h.2
  none_checked (first ∷ checked) done passes h = λ is. absurd (let no : [] ≡ first ∷ (checked ++ done) = is in cc)

  module _ (operation : Option Operation) where
    access_none : (stage : AccessStage) → StageLeads s scopes begun asked operation [] stage checker → ¬ AccessIsDone s scopes begun asked operation []
        → begun_of checker ≡ None
    access_none (own_stages.Check run) leads going = check_none leads.0
    access_none (own_stages.Operate run) leads going = absurd (none_checked leads.0 leads.1 _ leads.3.whole.0 leads.2)
    access_none (own_stages.End came) leads going = absurd (none_checked leads.0 leads.1 _ leads.3.whole.0 leads.2)
    access_none (own_stages.Over came) leads going = absurd (going (_, came, leads.makes))

    access_some : (first : Record) (mine : List Record) (stage : AccessStage) → StageLeads s scopes begun asked operation (first ∷ mine) stage checker
        → begun_of checker ≡ Some begun
    access_some first mine (own_stages.Check run) leads = check_some first mine leads.0
    access_some first mine (own_stages.Operate run) leads = rests_some leads.3.now leads.3.rests
    access_some first mine (own_stages.End came) leads = rests_some leads.3.now leads.3.rests
    access_some first mine (own_stages.Over came) leads = rests_some leads.now leads.rests

    access_scopes : (mine : List Record) (stage : AccessStage) → StageLeads s scopes begun asked operation mine stage checker → scoped_of checker ≡ scopes
    access_scopes mine (own_stages.Check run) leads = leads.0.in_force
    access_scopes mine (own_stages.Operate run) leads = leads.3.rests.in_force
    access_scopes mine (own_stages.End came) leads = leads.3.rests.in_force
    access_scopes mine (own_stages.Over came) leads = leads.rests.in_force

-- a scope that closes is the newest as long as its last check isn't over
module _ (s : settings.Setting) (scopes : List Begun) (newest : Begun) (silenced : Bool) (asked : ℕ) (mine : List Record) (checker : Checker) where
  check_closing : (role : Role) (begun : Begun) → role ≡ roles.Closing → begun ≡ newest → closing_check role begun ≡ Some newest
  check_closing role begun is same = ap (λ (r : Role). closing_check r begun) is ∙ ap (λ (b : Begun). Some b) same

  closing_some : checks.Leads s scopes (Closes newest silenced) asked mine checker → NoneWhole (Close s newest silenced asked) mine
      → closing_of checker ≡ Some newest
  closing_some leads none = at_stage checker.stage refl
    where
      at_stage : (stage : CheckStage) → checker.stage ≡ stage → closing_at stage ≡ Some newest
      at_stage checking.Rest is =
          absurd (none mine [] _ (sym (append-nil mine)) (complete_at_rest s scopes (Closes newest silenced) asked mine checker leads is).does)
      at_stage (checking.Begin begun) is = absurd (subst (λ (x : CheckStage). IsClosing newest x) is leads.stands)
      at_stage (checking.Check role begun pass) is =
          let closes_it : IsClosing newest (checking.Check role begun pass) = subst (λ (x : CheckStage). IsClosing newest x) is leads.stands in
          check_closing role begun closes_it.0 closes_it.1
      at_stage (checking.End begun) is =
          ap (λ (b : Begun). Some b) (subst (λ (x : CheckStage). IsClosing newest x) is leads.stands)

module _ (s : Setting) (stamps : ℕ) where
  -- the accesses of a list that is the same are those in progress
  tells_list : (list scopes : List Begun) (did all : List Happening) → list ≡ scopes → all ≡ did → Told s stamps did scopes
      → (begun : Begun) → Contains list begun ↔ IsInProgressAs s all begun
  tells_list list scopes did all same is told =
      subst (λ (l : List Begun). (begun : Begun) → Contains l begun ↔ IsInProgressAs s all begun) (sym same)
      (subst (λ (d : List Happening). (begun : Begun) → Contains scopes begun ↔ IsInProgressAs s d begun) (sym is) told.tells)

  module _ (before : Standing) (machine : Machine) (stage : TaskStage) (told : Told s stamps before.progress.did before.scopes) (all : List Happening) where
    abbrev listed : List Begun
    listed = scoped_of machine.checker ++ option_to_list (begun_in machine.checker stage)

    abbrev Tells : Type 0
    Tells = (begun : Begun) → Contains listed begun ↔ IsInProgressAs s all begun

    list_is : (scopes : List Begun) (also : TaskStage) (one : Option Begun) → stage ≡ also → scoped_of machine.checker ≡ scopes
        → begun_in machine.checker also ≡ one → listed ≡ scopes ++ option_to_list one
    list_is scopes also one is in_force begun =
        ap (λ (l : List Begun). l ++ option_to_list (begun_in machine.checker stage)) in_force
        ∙ ap (λ (o : Option Begun). scopes ++ option_to_list o) (ap (begun_in machine.checker) is ∙ begun)

    -- none has begun in the part
    quiet_tells : listed ≡ before.scopes ++ [] → GoesQuietly before.progress.did all → Tells
    quiet_tells is quiet =
        tells_list listed before.scopes (before.progress.did ++ quiet.0) all (is ∙ append-nil before.scopes) quiet.1
        (told_quiet s stamps before.progress.did before.scopes told quiet.0 quiet.2)

    -- this one has
    begun_tells : (a : Access) (begun : Begun) → GoesQuietly (before.progress.did ++ Begin a ∷ []) all → listed ≡ before.scopes ++ begun ∷ []
        → IsNewAt a before → BeginsNow s before a begun → Tells
    begun_tells a begun quiet is new begins one =
        let so = told_begin s stamps before before.scopes told a begun new begins quiet.0 quiet.2 in
        let list : Contains listed one ↔ Contains (before.scopes ++ begun ∷ []) one =
        subst (λ (l : List Begun). Contains listed one ↔ Contains l one) is (λ h. h, λ h. h) in
        let joined : before.progress.did ++ Begin a ∷ quiet.0 ≡ all =
        sym (quiet.1 ∙ append_assoc before.progress.did (Begin a ∷ []) quiet.0) in
        through list (subst (λ (d : List Happening). Contains (before.scopes ++ begun ∷ []) one ↔ IsInProgressAs s d one) joined (so.tells one))

    part_tells : (part : Part) (mine : List Record) → IsIn s part before mine machine stage → GoesQuietly (did_in part mine before.progress.did) all → Tells
    part_tells over mine h quiet = quiet_tells (list_is before.scopes stages.Over None h.0 h.2.1.in_force refl) quiet
    part_tells (stops due) mine h quiet = quiet_tells (list_is before.scopes stages.Stopped None h.0 h.2.1.in_force refl) quiet
    part_tells (locks variable) mine h quiet = quiet_tells (list_is before.scopes (stages.Locking h.0 variable) None h.1 h.4.1.in_force refl) quiet
    part_tells (unlocks variable) mine h quiet = quiet_tells (list_is before.scopes (stages.Unlocking variable) None h.0 h.2.1.in_force refl) quiet
    part_tells closes mine h quiet =
        let newest = closing_some (checks_of s) h.0 h.1 h.2 before.asked mine machine.checker h.6 h.7 in
        quiet_tells (list_is h.0 stages.Closing (Some h.1) h.3 h.6.in_force newest ∙ (sym h.4 ∙ sym (append-nil before.scopes))) quiet
    part_tells (makes a operation follow) [] h quiet =
        quiet_tells (list_is before.scopes (stages.Making h.0 h.1) None h.3
        (access_scopes (checks_of s) before.scopes h.2 before.asked machine.checker operation [] h.0.stage h.7.stage)
        (access_none (checks_of s) before.scopes h.2 before.asked machine.checker operation h.0.stage h.7.stage h.8)) quiet
    part_tells (makes a operation follow) (first ∷ mine) h quiet =
        begun_tells a h.2 quiet
        (list_is before.scopes (stages.Making h.0 h.1) (Some h.2) h.3
        (access_scopes (checks_of s) before.scopes h.2 before.asked machine.checker operation (first ∷ mine) h.0.stage h.7.stage)
        (access_some (checks_of s) before.scopes h.2 before.asked machine.checker operation first mine h.0.stage h.7.stage)) h.10 h.6
    part_tells (opens a) [] h quiet =
        quiet_tells (list_is before.scopes stages.Opening None h.1 h.4.in_force
        (check_none (checks_of s) before.scopes h.0 before.asked machine.checker h.4)) quiet
    part_tells (opens a) (first ∷ mine) h quiet =
        begun_tells a h.0 quiet
        (list_is before.scopes stages.Opening (Some h.0) h.1 h.4.in_force
        (check_some (checks_of s) before.scopes h.0 before.asked machine.checker first mine h.4)) h.8 h.2

module _ (s : Setting) (registers : ℕ) (body : Block) (records : List Record) (run : TaskRun) (leads : Leads s registers body records run)
    (written : WrittenOrder s registers body records) where
  pub machine_tells : (begun : Begun) → Contains (in_progress_of run) begun ↔ IsInProgressAs s (did_by written (length records)) begun
  machine_tells =
      let now : Standing = stands_at leads written.more in
      let at : List Record = leads.mine ++ written.more in
      part_tells s (clock_steps leads.earlier) now run.machine run.stage (told_at s leads.earlier now (leads.accesses at) (leads.repeats at))
      (did_by written (length records)) leads.part leads.mine (leads.agrees at).is_in (did_told s registers body records run leads written)
