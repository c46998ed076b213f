-- What ends a part of a text is no failed try of a lock.
use Rattle.std.proofs.Common.{◌≡◌, ◌&&◌, ◌++◌, ◌∷◌, [], ℕ, suc, Bool, true, false, List, MatchBool, None, Some, ap, refl, reverse, subst, sym, if◌then◌else◌}
use Rattle.task_run.proofs.SaysLemmas.{one_some}
use Rattle.std.proofs.lemmas.List.{reverse-append}
use Rattle.access_run.specs.Leads as accesses
use Rattle.access_run.specs.declared.stage.AccessStage as access_stages
use Rattle.access_run.specs.declared.stage.AccessStage.TheVariants.{Check, End, Operate, Over}
use Rattle.access_types.specs.Sites.{map_of}
use Rattle.access_run.specs.memory_operation.Locks.{TakesLock}
use Rattle.access_run.specs.memory_operation.Stages as operation_stages
use Rattle.access_run.specs.declared.memory_operation.run.OperationRun.{OperationRun}
use Rattle.access_run.specs.declared.memory_operation.stage.OperationStage as operating
use Rattle.access_run.specs.declared.memory_operation.stage.OperationStage.TheVariants as operating_stages
use Rattle.setup_access.proofs.DisciplineLemmas.{on_flag}
use Rattle.setup_access.specs.Kept.{setting_with}
use Rattle.setup_access.specs.Leads as checks
use Rattle.setup_access.specs.PassLeft.{pass_step}
use Rattle.setup_access.specs.Records.{OnFlag}
use Rattle.setup_access.specs.Setting as settings
use Rattle.setup_access.specs.declared.begun.Begun.{Begun}
use Rattle.setup_access.specs.declared.checker.Checker.{Checker}
use Rattle.setup_access.specs.declared.found.Found.TheVariants as founds
use Rattle.setup_access.specs.declared.pass.Pass.{Pass}
use Rattle.setup_access.specs.declared.pass.Pass.TheVariants as passes
use Rattle.setup_access.specs.declared.setup.Setup.TheVariants as setups
use Rattle.setup_access.specs.declared.stage.CheckStage as check_stages
use Rattle.setup_access.specs.declared.stage.CheckStage.TheVariants as checking
use Rattle.slot_table.specs.declared.records.Record.{Record}
use Rattle.slot_table.specs.declared.step.Answer.{Answer}
use Rattle.slot_table.specs.declared.step.Answer.TheVariants as answers
use Rattle.slot_table.specs.declared.step.Step.{Step}
use Rattle.slot_table.specs.declared.step.Step.TheVariants.{CellExchange, CellLoad, Clear, Clock, Consume, Insert, Load, LockStore, LockTry, Name, PairLoad, Remove, Tell, TryConsume}
use Rattle.task_run.specs.Leads.{EndInNoWait}
use Rattle.program_order.specs.Waits.{is_no, is_refused, tries_lock, failed_tries, is_tried_again}

-- the step tries no lock
abbrev pub IsNoTry : Step → Type 0
IsNoTry (LockTry lock task) = ⊥
IsNoTry step = Unit {0}

-- the step is one of a check
abbrev pub IsOfCheck : Step → Type 0
IsOfCheck (LockTry lock task) = ⊥
IsOfCheck (LockStore lock) = ⊥
IsOfCheck (CellExchange cell seen new) = ⊥
IsOfCheck step = Unit {0}

pub of_check_tries_none : (step : Step) → IsOfCheck step → IsNoTry step
of_check_tries_none (Load index) is = tt
of_check_tries_none (Insert index word) is = tt
of_check_tries_none (TryConsume index word) is = tt
of_check_tries_none (Consume index) is = tt
of_check_tries_none (Remove index) is = tt
of_check_tries_none (PairLoad index) is = tt
of_check_tries_none (Name index ticket) is = tt
of_check_tries_none (Tell index ticket) is = tt
of_check_tries_none (Clear index) is = tt
of_check_tries_none (CellLoad cell) is = tt
of_check_tries_none (CellExchange cell seen new) is = tt
of_check_tries_none (LockTry lock task) is = is
of_check_tries_none (LockStore lock) is = tt
of_check_tries_none Clock is = tt

and_false : (b : Bool) → (b && false) ≡ false
and_false true = refl
and_false false = refl

-- after the record a try of a lock begins a new wait
abbrev pub IsNoWait : Record → Type 0
IsNoWait made = (lock task : ℕ) → is_tried_again made.step made.answer (LockTry lock task) ≡ false

pub no_try_no_wait : (step : Step) (answer : Answer) → IsNoTry step → (lock task : ℕ) → is_tried_again step answer (LockTry lock task) ≡ false
no_try_no_wait (Load index) answer ok lock task = refl
no_try_no_wait (Insert index word) answer ok lock task = refl
no_try_no_wait (TryConsume index word) answer ok lock task = refl
no_try_no_wait (Consume index) answer ok lock task = refl
no_try_no_wait (Remove index) answer ok lock task = refl
no_try_no_wait (PairLoad index) answer ok lock task = refl
no_try_no_wait (Name index ticket) answer ok lock task = refl
no_try_no_wait (Tell index ticket) answer ok lock task = refl
no_try_no_wait (Clear index) answer ok lock task = refl
no_try_no_wait (CellLoad cell) answer ok lock task = refl
no_try_no_wait (CellExchange cell seen new) answer ok lock task = and_false (is_refused answer)
no_try_no_wait (LockTry at holder) answer ok lock task = absurd ok
no_try_no_wait (LockStore at) answer ok lock task = refl
no_try_no_wait Clock answer ok lock task = refl

pub ends_in_no_wait : (records : List Record) (made : Record) → IsNoWait made → EndInNoWait (records ++ made ∷ [])
ends_in_no_wait records made none lock task =
    let last : failed_tries (LockTry lock task) (made ∷ reverse records) ≡ 0 =
    ap (λ (b : Bool). if b then suc (failed_tries made.step (reverse records)) else 0) (none lock task) in
    subst (λ (r : List Record). failed_tries (LockTry lock task) r ≡ 0) (sym (reverse-append records (made ∷ []))) last

-- the steps of a check are
pass_of_check : (s : settings.Setting) (begun : Begun) (pass : Pass) → IsOfCheck (pass_step s begun pass)
pass_of_check s begun (passes.Find find) = tt
pass_of_check s begun (passes.Found (founds.TryConsume watchpoint)) = tt
pass_of_check s begun (passes.Found (founds.HearSetter index tries)) = tt
pass_of_check s begun (passes.Found (founds.Tell index setter)) = tt
pass_of_check s begun (passes.Setup (setups.Insert place word)) = tt
pass_of_check s begun (passes.Setup (setups.Name index)) = tt
pass_of_check s begun (passes.Setup (setups.LoadOld index source)) = tt
pass_of_check s begun (passes.Setup (setups.LoadNew index source old)) = tt
pass_of_check s begun (passes.Setup (setups.Consume index values)) = tt
pass_of_check s begun (passes.Setup (setups.HearFinder index values tries)) = tt
pass_of_check s begun (passes.Clear index) = tt
pass_of_check s begun (passes.Remove index) = tt

stage_of_check : (s : settings.Setting) (stage : check_stages.CheckStage) (step : Step) → checks.stage_step s stage ≡ Some step → IsOfCheck step
stage_of_check s checking.Rest step is = absurd (let no : None ≡ Some step = is in cc)
stage_of_check s (checking.Begin begun) step is = subst IsOfCheck (one_some Clock step is) tt
stage_of_check s (checking.Check role begun pass) step is = subst IsOfCheck (one_some (pass_step s begun pass) step is) (pass_of_check s begun pass)
stage_of_check s (checking.End scope) step is = subst IsOfCheck (one_some Clock step is) tt

pub check_says : (checker : Checker) (step : Step) → checks.Says checker step → IsOfCheck step
check_says checker step says = stage_of_check (setting_with checker.setting (map_of [])) checker.stage step (says (map_of []))

operating_no_try : (run : OperationRun) (stage : operating.OperationStage) (step : Step) → operation_stages.stage_step run.access run.source stage ≡ Some step → IsNoTry step
operating_no_try run operating_stages.Over step is = absurd (let no : None ≡ Some step = is in cc)
operating_no_try run (operating_stages.Load operation) step is = subst IsNoTry (one_some (CellLoad run.source.cell) step is) tt
operating_no_try run (operating_stages.Exchange change seen tries) step is = subst IsNoTry (one_some _ step is) tt

-- an access tries no lock
pub access_no_try : (checker : Checker) (stage : access_stages.AccessStage) (step : Step) → accesses.StageSays stage checker step → IsNoTry step
access_no_try checker (Check run) step says = of_check_tries_none step (check_says checker step says)
access_no_try checker (Operate run) step says = operating_no_try run run.stage step says
access_no_try checker (End effect) step says = subst IsNoTry (sym says) tt
access_no_try checker (Over effect) step says = absurd says

-- the try of a lock that takes it ends the wait for it
was_free : (answer : Answer) (P : Type 0) → OnFlag answer (λ free. MatchBool free P ⊥) → is_no answer ≡ false
was_free (answers.Word word) P h = absurd h
was_free (answers.Flag true) P h = refl
was_free (answers.Flag false) P h = absurd h
was_free (answers.Halves setter finder) P h = absurd h
was_free answers.Done P h = absurd h

none_left : (more : List Record) (last : Record) → [] ≡ more ++ last ∷ [] → ⊥
none_left [] last is = cc
none_left (first ∷ more) last is = absurd (let no : [] ≡ first ∷ (more ++ last ∷ []) = is in cc)

pub taken_no_wait : (task lock : ℕ) (mine : List Record) (last : Record) → TakesLock task lock (mine ++ last ∷ []) [] → IsNoWait last
taken_no_wait task lock [] last h = λ at holder.
    let no : is_no last.answer ≡ false = was_free last.answer _ h.2 in
    subst (λ (step : Step). is_tried_again step last.answer (LockTry at holder) ≡ false) (sym h.1)
    (ap (λ (b : Bool). b && tries_lock lock (LockTry at holder)) no)
taken_no_wait task lock (first ∷ more) last h =
    let got = on_flag first.answer _ h.2 in
    by_flag got.0 got.2 (λ again. taken_no_wait task lock more last again)
  where
    by_flag : (free : Bool) → MatchBool free ([] ≡ more ++ last ∷ []) (TakesLock task lock (more ++ last ∷ []) [])
        → (TakesLock task lock (more ++ last ∷ []) [] → IsNoWait last) → IsNoWait last
    by_flag true is on = absurd (none_left more last is)
    by_flag false again on = on again
