-- What a machine is before a step of isn't over before it.
use Rattle.std.proofs.Common.{◌≡◌, ◌∙◌, ◌≤◌, ◌+◌, ◌++◌, ◌∷◌, [], inl, inr, ℕ, suc, true, false, Bool, List, Option, Some, ap, append_assoc, arith, length, refl, subst, sym}
use Rattle.std.proofs.lemmas.List.{append-nil, length-append}
use Rattle.access_run.specs.Access.{MakesAccess}
use Rattle.access_run.specs.Leads.{AccessOnlyStep, StageLeads, StageSays}
use Rattle.access_run.specs.Moved.{FramedChecks, moved}
use Rattle.access_run.specs.Whole.{NoneWhole}
use Rattle.access_run.specs.declared.stage.AccessStage.{AccessStage}
use Rattle.access_run.specs.declared.stage.AccessStage.TheVariants as own_stages
use Rattle.access_run.proofs.CheckFronts.{check, close, framed_checks, makes_access}
use Rattle.access_run.proofs.LeadsLemmas.{check_only, end_only, operate_only}
use Rattle.access_run.proofs.WholeLemmas.{split}
use Rattle.access_types.specs.Access as access
use Rattle.access_run.specs.memory_operation.LockLeads.{LockLeads, LockLeft, LockSays}
use Rattle.access_run.specs.memory_operation.Locks.{TakesLock}
use Rattle.access_run.specs.memory_operation.Operations.{Operates}
use Rattle.access_run.specs.declared.memory_operation.effect.Effect.{Effect}
use Rattle.access_run.specs.declared.memory_operation.lock.LockWait.{LockWait}
use Rattle.access_run.specs.declared.memory_operation.operation.Operation.{Operation}
use Rattle.access_run.proofs.memory_operation.FrameLemmas.{lock_front}
use Rattle.access_run.proofs.memory_operation.Fronts.{framed}
use Rattle.access_run.proofs.memory_operation.LeadsLemmas as operations
use Rattle.setup_access.specs.Check.{Check, Close, Passes}
use Rattle.setup_access.specs.Checker.{Checks}
use Rattle.setup_access.specs.Leads as checks
use Rattle.setup_access.specs.Parts.{made}
use Rattle.setup_access.specs.Records.{MakesDone}
use Rattle.setup_access.specs.Setting as settings
use Rattle.setup_access.specs.declared.begun.Begun.{Begun}
use Rattle.setup_access.specs.declared.checker.Checker.{Checker}
use Rattle.setup_access.proofs.LeadsLemmas.{same_ends}
use Rattle.setup_access.proofs.NextLemmas as nexts
use Rattle.slot_table.specs.declared.records.Record.{Record}
use Rattle.slot_table.specs.declared.step.Answer.TheVariants as answers
use Rattle.slot_table.specs.declared.step.Step.{Step}
use Rattle.slot_table.specs.declared.step.Step.TheVariants.{LockStore, LockTry}
use Rattle.task_run.specs.Agrees.{IsIn}
use Rattle.task_run.specs.Part.{Part, closes, locks, makes, opens, over, stops, unlocks}
use Rattle.task_run.specs.Says as says_of
use Rattle.task_run.specs.declared.run.TaskRun.{TaskRun}
use Rattle.task_run.specs.declared.stage.TaskStage.TheVariants as stages
use Rattle.task_run.specs.declared.stage.TaskStage as machine_stages
use Rattle.task_run.proofs.EndLemmas.{begins_one, lock_only, one_answer}
use Rattle.program_order.specs.Access.{Makes}
use Rattle.program_order.specs.Standing.{Setting, Standing, checks_of, lock_number}
use Rattle.program_order.specs.WrittenOrder.{ClosesScope, OpensScope}

-- an access goes on with the step that it says
says_only : (s : settings.Setting) (scopes : List Begun) (begun : Begun) (asked : ℕ) (operation : Option Operation) (mine : List Record) (checker : Checker)
    (stage : AccessStage) (step : Step) → StageLeads s scopes begun asked operation mine stage checker → StageSays stage checker step
    → AccessOnlyStep s scopes begun asked operation mine step
says_only s scopes begun asked operation mine checker (own_stages.Check run) step leads says =
    check_only s scopes begun asked operation mine checker run leads step
    (nexts.only_step s scopes (Checks begun) asked mine checker step leads.0
    (subst (λ (x : settings.Setting). checks.stage_step x checker.stage ≡ Some step) leads.0.setting (says s.sites)))
says_only s scopes begun asked operation mine checker (own_stages.Operate run) step leads says =
    operate_only s scopes begun asked operation mine checker run leads step
    (λ source of done its. operations.only_step s.task begun.access source of done run its step says)
says_only s scopes begun asked operation mine checker (own_stages.End effect) step leads says =
    subst (λ (x : Step). AccessOnlyStep s scopes begun asked operation mine x) (sym says)
    (end_only s scopes begun asked operation mine checker effect leads)
says_only s scopes begun asked operation mine checker (own_stages.Over effect) step leads says = absurd says

-- what is left after the first of some records
one_less : (x : Record) (left : List Record) (some : Record) (more rest : List Record) → x ∷ left ≡ (some ∷ more) ++ rest → length rest ≤ length left
one_less x left some more rest is =
    let all : suc (length left) ≡ length ((some ∷ more) ++ rest) = ap (λ (l : List Record). length l) is in
    let parts : length ((some ∷ more) ++ rest) ≡ length (some ∷ more) + length rest = length-append (some ∷ more) rest in
    omega (arith, all, parts)

module _ (s : settings.Setting) (scopes : List Begun) (begun : Begun) (asked : ℕ) (operation : Option Operation) (mine : List Record) (x : Record)
    (left : List Record) where
  pub access_goes : (step : Step) → AccessOnlyStep s scopes begun asked operation mine step → (passes : Passes) (effect : Effect) (rest : List Record)
      → MakesAccess s scopes begun asked operation (mine ++ x ∷ left) passes effect rest → length rest ≤ length left
  access_goes step only passes effect rest h =
      let Begins : List Record → Passes → List Record → Type 0 = λ r p l. MakesAccess s scopes begun asked operation r p effect l in
      let frames = framed_checks Begins (makes_access s scopes begun asked operation effect) in
      let own = (frames (mine ++ x ∷ left) passes rest).0 h in
      let never : (more : List Record) → mine ≡ own.0 ++ more → ⊥ = λ (more : List Record) (is : mine ≡ own.0 ++ more).
      let early : Begins (own.0 ++ more) (moved more own.1) more = (frames (own.0 ++ more) (moved more own.1) more).1 (own.0, own.1, own.2, refl, refl) in
      only [] (moved more own.1) effect more (subst (λ (r : List Record). Begins r (moved more own.1) more) (sym is ∙ sym (append-nil mine)) early) in
      elim (split mine (x ∷ left) own.0 rest own.3) [
        | inl less ↦ absurd (never less.0 less.1)
        | inr more ↦ by_more own.0 more.0 rest more.1 more.2 never
      ]
    where
      by_more : (front more rest : List Record) → front ≡ mine ++ more → x ∷ left ≡ more ++ rest → ((early : List Record) → mine ≡ front ++ early → ⊥)
          → length rest ≤ length left
      by_more front [] rest is ending never = absurd (never [] (sym (append-nil front ∙ (is ∙ append-nil mine))))
      by_more front (some ∷ more) rest is ending never = one_less x left some more rest ending

module _ (Begins : List Record → Passes → List Record → Type 0)
    (frames : (passes : Passes) (records rest : List Record) → Begins records passes rest
    → (part : List Record) × (alone : Passes) × Begins part alone [] × (records ≡ part ++ rest)) (mine : List Record) (x : Record) (left : List Record) where
  pub check_goes : NoneWhole Begins mine → (passes : Passes) (rest : List Record) → Begins (mine ++ x ∷ left) passes rest → length rest ≤ length left
  check_goes none passes rest h =
      let own = frames passes (mine ++ x ∷ left) rest h in
      elim (split mine (x ∷ left) own.0 rest own.3) [
        | inl less ↦ absurd (none own.0 less.0 own.1 less.1 own.2)
        | inr more ↦ by_more own.0 more.0 rest more.1 more.2 own.1 own.2
      ]
    where
      by_more : (front more rest : List Record) → front ≡ mine ++ more → x ∷ left ≡ more ++ rest → (alone : Passes) → Begins front alone []
          → length rest ≤ length left
      by_more front [] rest is ending alone whole = absurd (none front [] alone (sym (append-nil front ∙ (is ∙ append-nil mine))) whole)
      by_more front (some ∷ more) rest is ending alone whole = one_less x left some more rest ending

module _ (task lock : ℕ) (mine : List Record) (x : Record) (left : List Record) where
  some_left : (more : List Record) (last : Record) → [] ≡ more ++ last ∷ [] → ⊥
  some_left [] last is = cc
  some_left (first ∷ more) last is = absurd (let no : [] ≡ first ∷ (more ++ last ∷ []) = is in cc)

  never_taken : (wait : LockWait) → LockLeads task lock mine wait → wait.is_taken ≡ false → (part more : List Record) → mine ≡ part ++ more
      → TakesLock task lock part [] → ⊥
  never_taken wait leads going part more is taken =
      let free : List Record = made task (LockTry lock task) (answers.Flag true) ∷ [] in
      let still : LockLeft task lock wait.is_taken free = subst (λ (b : Bool). LockLeft task lock b free) (sym going) (refl, refl, refl) in
      let all : TakesLock task lock (mine ++ free) [] = (leads.left free).1 still in
      let joined : mine ++ free ≡ part ++ (more ++ free) = ap (λ (l : List Record). l ++ free) is ∙ append_assoc part more free in
      some_left more (made task (LockTry lock task) (answers.Flag true))
      (lock_only task lock part (more ++ free) [] taken (subst (λ (l : List Record). TakesLock task lock l []) joined all))

  pub lock_goes : (wait : LockWait) → LockLeads task lock mine wait → wait.is_taken ≡ false → (rest : List Record) → TakesLock task lock (mine ++ x ∷ left) rest
      → length rest ≤ length left
  lock_goes wait leads going rest h =
      let own = (framed (λ r l. TakesLock task lock r l) (lock_front task lock) (mine ++ x ∷ left) rest).0 h in
      elim (split mine (x ∷ left) own.0 rest own.2) [
        | inl less ↦ absurd (never_taken wait leads going own.0 less.0 less.1 own.1)
        | inr more ↦ by_more own.0 more.0 rest more.1 more.2 own.1
      ]
    where
      by_more : (front more rest : List Record) → front ≡ mine ++ more → x ∷ left ≡ more ++ rest → TakesLock task lock front [] → length rest ≤ length left
      by_more front [] rest is ending taken = absurd (never_taken wait leads going front [] (sym (append-nil front ∙ (is ∙ append-nil mine))) taken)
      by_more front (some ∷ more) rest is ending taken = one_less x left some more rest ending

-- the part isn't over before the record
abbrev pub Unfinished : Setting → Part → Standing → List Record → List Record → Type 0
Unfinished s (makes a operation follow) before all left =
    (effect : Effect) (between : Standing) (rest : List Record) → Makes s before a operation all effect between rest → length rest ≤ length left
Unfinished s (opens a) before all left =
    (begun : Begun) (opened : Standing) (inside : List Record) → OpensScope s before a all begun opened inside → length inside ≤ length left
Unfinished s closes before all left =
    (scopes : List Begun) (newest : Begun) (closed : Standing) (rest : List Record) → before.scopes ≡ scopes ++ newest ∷ []
    → ClosesScope s before newest scopes all closed rest → length rest ≤ length left
Unfinished s (locks variable) before all left =
    (rest : List Record) → TakesLock s.text.task (lock_number s variable) all rest → length rest ≤ length left
Unfinished s (unlocks variable) before all left =
    (rest : List Record) → MakesDone s.text.task (LockStore (lock_number s variable)) (λ more. rest ≡ more) all → length rest ≤ length left
Unfinished s over before all left = ⊥
Unfinished s (stops due) before all left = ⊥

frames_of : (Begins : List Record → Passes → List Record → Type 0) → FramedChecks Begins → (passes : Passes) (records rest : List Record)
    → Begins records passes rest → (part : List Record) × (alone : Passes) × Begins part alone [] × (records ≡ part ++ rest)
frames_of Begins frames passes records rest h = let own = (frames records passes rest).0 h in (own.0, own.1, own.2, own.3)

module _ (s : Setting) (old : TaskRun) (before : Standing) (mine : List Record) (x : Record) (left : List Record) (step : Step) where
  abbrev all : List Record
  all = mine ++ x ∷ left

  by_stage : (stage : machine_stages.TaskStage) → old.stage ≡ stage → says_of.Says old step → says_of.StageSays stage old step
  by_stage stage is says = subst (λ (st : machine_stages.TaskStage). says_of.StageSays st old step) is says

  -- before the step that a machine says its part isn't over
  pub unfinished : (part : Part) → IsIn s part before mine old.machine old.stage → says_of.Says old step → Unfinished s part before all left
  unfinished (makes a operation follow) h says = λ effect between rest makes_so.
      let same : makes_so.begun ≡ h.2 = begins_one s before a makes_so.begun h.2 makes_so.begins h.6 in
      let whole : MakesAccess (checks_of s) before.scopes h.2 before.asked operation all makes_so.passes effect rest = record {
        checked = makes_so.checked;
        done = makes_so.done;
        check = subst (λ (b : Begun). Check (checks_of s) before.scopes b before.asked all makes_so.passes makes_so.checked) same makes_so.check;
        operates = subst (λ (y : access.Access). Operates (checks_of s) y operation makes_so.checked effect makes_so.done) (sym h.6.access) makes_so.operates;
        ends = makes_so.ends;
      } in
      access_goes (checks_of s) before.scopes h.2 before.asked operation mine x left step
      (says_only (checks_of s) before.scopes h.2 before.asked operation mine old.machine.checker h.0.stage step h.7.stage (by_stage (stages.Making h.0 h.1) h.3 says))
      makes_so.passes effect rest whole
  unfinished (opens a) h says = λ begun opened inside opens_so.
      let same : begun ≡ h.0 = begins_one s before a begun h.0 opens_so.begins h.2 in
      let Begins : List Record → Passes → List Record → Type 0 = Check (checks_of s) before.scopes h.0 before.asked in
      check_goes Begins (frames_of Begins (framed_checks Begins (check (checks_of s) before.scopes h.0 before.asked))) mine x left h.5 opens_so.passes inside
      (subst (λ (b : Begun). Check (checks_of s) before.scopes b before.asked all opens_so.passes inside) same opens_so.check)
  unfinished closes h says = λ scopes newest closed rest in_force closes_so.
      let ends = same_ends scopes h.0 newest h.1 (sym in_force ∙ h.4) in
      let silent : closes_so.silenced ≡ h.2 = one_answer closes_so.silenced h.2 _ closes_so.is_silenced h.5 in
      let Begins : List Record → Passes → List Record → Type 0 = Close (checks_of s) h.1 h.2 before.asked in
      check_goes Begins (frames_of Begins (framed_checks Begins (close (checks_of s) h.1 h.2 before.asked))) mine x left h.7 closes_so.passes rest
      (subst (λ (b : Bool). Close (checks_of s) h.1 b before.asked all closes_so.passes rest) silent
      (subst (λ (b : Begun). Close (checks_of s) b closes_so.silenced before.asked all closes_so.passes rest) ends.1 closes_so.close))
  unfinished (locks variable) h says = λ rest takes_so.
      let lock_says : LockSays h.0 step = by_stage (stages.Locking h.0 variable) h.1 says in
      lock_goes s.text.task (lock_number s variable) mine x left h.0 h.3 lock_says.0 rest takes_so
  unfinished (unlocks variable) h says = λ rest done_so.
      let alone : MakesDone s.text.task (LockStore (lock_number s variable)) (λ more. rest ≡ more) (x ∷ left) =
      subst (λ (l : List Record). MakesDone s.text.task (LockStore (lock_number s variable)) (λ more. rest ≡ more) (l ++ x ∷ left)) h.1 done_so in
      let same : length rest ≡ length left = ap (λ (l : List Record). length l) alone.2.1 in omega (arith, same)
  unfinished over h says = absurd (by_stage stages.Over h.0 says)
  unfinished (stops due) h says = absurd (by_stage stages.Stopped h.0 says)
