-- A part of a text that a machine is in is not over by its records so far: what completes them has one of it at least.
use Rattle.std.proofs.Common.{◌≡◌, ◌<◌, ◌∙◌, ◌+◌, ◌++◌, ◌∷◌, [], inl, inr, ℕ, Bool, true, false, List, Option, ap, append_assoc, arith, length, refl, subst}
use Rattle.std.proofs.Common.{sym}
use Rattle.std.proofs.lemmas.List.{append-nil, length-append}
use Rattle.access_run.proofs.CheckFronts.{check, close, framed_checks, makes_access, operates}
use Rattle.access_run.proofs.WholeLemmas.{split}
use Rattle.access_run.specs.Access.{MakesAccess}
use Rattle.access_run.specs.Leads.{AccessIsDone, StageLeads}
use Rattle.access_run.specs.Moved.{FramedChecks, moved}
use Rattle.access_run.specs.Whole.{NoneWhole}
use Rattle.access_run.specs.declared.stage.AccessStage.{AccessStage}
use Rattle.access_run.specs.declared.stage.AccessStage.TheVariants as own_stages
use Rattle.access_types.specs.Access as access
use Rattle.access_run.proofs.memory_operation.FrameLemmas.{lock_front}
use Rattle.access_run.proofs.memory_operation.Fronts.{framed}
use Rattle.access_run.specs.memory_operation.LockLeads.{LockLeads, LockLeft}
use Rattle.access_run.specs.memory_operation.Locks.{TakesLock}
use Rattle.access_run.specs.memory_operation.Operations.{Operates}
use Rattle.access_run.specs.declared.memory_operation.effect.Effect.{Effect}
use Rattle.access_run.specs.declared.memory_operation.lock.LockWait.{LockWait}
use Rattle.access_run.specs.declared.memory_operation.operation.Operation.{Operation}
use Rattle.setup_access.proofs.LeadsLemmas.{same_ends}
use Rattle.setup_access.specs.Check.{Check, Close, Passes}
use Rattle.setup_access.specs.Parts.{made}
use Rattle.setup_access.specs.Records.{MakesDone, MakesWord}
use Rattle.setup_access.specs.Setting as settings
use Rattle.setup_access.specs.declared.begun.Begun.{Begun}
use Rattle.setup_access.specs.declared.checker.Checker.{Checker}
use Rattle.slot_table.specs.declared.records.Record.{Record}
use Rattle.slot_table.specs.declared.step.Answer.TheVariants as answers
use Rattle.slot_table.specs.declared.step.Step.TheVariants.{Clock, LockStore, LockTry}
use Rattle.task_run.proofs.EndLemmas.{begins_one, lock_only, one_answer}
use Rattle.task_run.specs.Agrees.{IsIn}
use Rattle.task_run.specs.Part.{Part, closes, locks, makes, opens, over, stops, unlocks}
use Rattle.task_run.specs.declared.machine.Machine.{Machine}
use Rattle.task_run.specs.declared.stage.TaskStage as machine_stages
use Rattle.program_order.specs.Access.{Makes}
use Rattle.program_order.specs.Standing.{Setting, Standing, checks_of, lock_number}
use Rattle.program_order.specs.WrittenOrder.{ClosesScope, OpensScope}

-- where no beginning of the records is so, a part that is so has one record more at least
shorter : (P : List Record → Type 0) (mine more part rest : List Record)
    → ((front later : List Record) → mine ≡ front ++ later → ¬ P front) → P part
    → mine ++ more ≡ part ++ rest → length rest < length more
shorter P mine more part rest none so is = elim (split mine more part rest is) [
  | inl less ↦ absurd (none part less.0 less.1 so)
  | inr longer ↦ by_more longer.0 longer.1 longer.2
]
  where
    by_more : (some : List Record) → part ≡ mine ++ some → more ≡ some ++ rest → length rest < length more
    by_more [] at ending = absurd (none part [] (sym (append-nil part ∙ (at ∙ append-nil mine))) so)
    by_more (first ∷ some) at ending =
        let all : length more ≡ length (first ∷ some) + length rest =
        ap (λ (l : List Record). length l) ending ∙ length-append (first ∷ some) rest in
        omega (arith, all)

-- an access under way is not over
module _ (s : settings.Setting) (scopes : List Begun) (begun : Begun) (asked : ℕ) (operation : Option Operation) (mine : List Record)
    (checker : Checker) where
  no_clock : (rest records : List Record) → records ≡ [] → ¬ MakesWord s.task Clock (λ stamp later. rest ≡ later) records
  no_clock rest [] is h = h
  no_clock rest (first ∷ later) is h = absurd (let no : first ∷ later ≡ [] = is in cc)

  access_open : (stage : AccessStage) → StageLeads s scopes begun asked operation mine stage checker
      → ¬ AccessIsDone s scopes begun asked operation mine
      → (passes : Passes) (effect : Effect) (rest : List Record) → ¬ MakesAccess s scopes begun asked operation mine passes effect rest
  access_open (own_stages.Check run) leads going passes effect rest h =
      let own = (framed_checks (Check s scopes begun asked) (check s scopes begun asked) mine passes h.checked).0 h.check in
      leads.1 own.0 h.checked own.1 own.3 own.2
  access_open (own_stages.Operate run) leads going passes effect rest h =
      let checked = leads.3.whole.1 leads.1 passes h.checked
      (subst (λ (r : List Record). Check s scopes begun asked r passes h.checked) leads.2 h.check) in
      let own = (framed (λ r l. Operates s begun.access operation r effect l) (operates s begun.access operation effect) leads.1 h.done).0
      (subst (λ (r : List Record). Operates s begun.access operation r effect h.done) checked.0 h.operates) in
      leads.4 own.0 h.done effect own.2 own.1
  access_open (own_stages.End came) leads going passes effect rest h =
      let checked = leads.3.whole.1 leads.1 passes h.checked
      (subst (λ (r : List Record). Check s scopes begun asked r passes h.checked) leads.2 h.check) in
      let over = leads.4.1 [] effect h.done
      (subst (λ (r : List Record). Operates s begun.access operation r effect h.done) (checked.0 ∙ sym (append-nil leads.1)) h.operates) in
      no_clock rest h.done over.0 h.ends
  access_open (own_stages.Over came) leads going passes effect rest h = going (_, came, leads.makes)

  access_goes : (stage : AccessStage) → StageLeads s scopes begun asked operation mine stage checker
      → ¬ AccessIsDone s scopes begun asked operation mine
      → (more : List Record) (passes : Passes) (effect : Effect) (rest : List Record)
      → MakesAccess s scopes begun asked operation (mine ++ more) passes effect rest → length rest < length more
  access_goes stage leads going more passes effect rest h =
      let Begins : List Record → Passes → List Record → Type 0 = λ r p l. MakesAccess s scopes begun asked operation r p effect l in
      let frames = framed_checks Begins (makes_access s scopes begun asked operation effect) in
      let own = (frames (mine ++ more) passes rest).0 h in
      shorter (λ part. Begins part own.1 []) mine more own.0 rest
      (λ front later is whole. access_open stage leads going (moved later own.1) effect later
      (subst (λ (r : List Record). Begins r (moved later own.1) later) (sym is)
      ((frames (front ++ later) (moved later own.1) later).1 (front, own.1, whole, refl, refl)))) own.2 own.3

check_goes : (Begins : List Record → Passes → List Record → Type 0) → FramedChecks Begins → (mine more : List Record)
    → NoneWhole Begins mine
    → (passes : Passes) (rest : List Record) → Begins (mine ++ more) passes rest → length rest < length more
check_goes Begins frames mine more none passes rest h =
    let own = (frames (mine ++ more) passes rest).0 h in
    shorter (λ part. Begins part own.1 []) mine more own.0 rest (λ front later is whole. none front later own.1 is whole) own.2 own.3

-- tries of a lock that isn't taken are not over
some_left : (more : List Record) (last : Record) → [] ≡ more ++ last ∷ [] → ⊥
some_left [] last is = cc
some_left (first ∷ more) last is = absurd (let no : [] ≡ first ∷ (more ++ last ∷ []) = is in cc)

module _ (task lock : ℕ) (mine : List Record) (wait : LockWait) (leads : LockLeads task lock mine wait)
    (going : ¬ TakesLock task lock mine []) where
  is_free : (taken : Bool) → wait.is_taken ≡ taken → taken ≡ false
  is_free false is = refl
  is_free true is =
      let left : LockLeft task lock wait.is_taken [] = subst (λ (b : Bool). LockLeft task lock b []) (sym is) refl in
      absurd (going (subst (λ (r : List Record). TakesLock task lock r []) (append-nil mine) ((leads.left []).1 left)))

  never_taken : (front later : List Record) → mine ≡ front ++ later → ¬ TakesLock task lock front []
  never_taken front later is taken =
      let free : List Record = made task (LockTry lock task) (answers.Flag true) ∷ [] in
      let still : LockLeft task lock wait.is_taken free =
      subst (λ (b : Bool). LockLeft task lock b free) (sym (is_free wait.is_taken refl)) (refl, refl, refl) in
      let all : TakesLock task lock (mine ++ free) [] = (leads.left free).1 still in
      let joined : mine ++ free ≡ front ++ (later ++ free) = ap (λ (l : List Record). l ++ free) is ∙ append_assoc front later free in
      some_left later (made task (LockTry lock task) (answers.Flag true))
      (lock_only task lock front (later ++ free) [] taken (subst (λ (l : List Record). TakesLock task lock l []) joined all))

  lock_goes : (more rest : List Record) → TakesLock task lock (mine ++ more) rest → length rest < length more
  lock_goes more rest h =
      let own = (framed (λ r l. TakesLock task lock r l) (lock_front task lock) (mine ++ more) rest).0 h in
      shorter (λ part. TakesLock task lock part []) mine more own.0 rest never_taken own.1 own.2

store_goes : (task lock : ℕ) (records rest : List Record) → MakesDone task (LockStore lock) (λ later. rest ≡ later) records
    → length rest < length records
store_goes task lock [] rest h = absurd h
store_goes task lock (first ∷ later) rest h =
    let same : length rest ≡ length later = ap (λ (l : List Record). length l) h.2.1 in omega (arith, same)

-- whatever completes the part leaves fewer records than were to come
abbrev pub Goes : Setting → Part → Standing → List Record → List Record → Type 0
Goes s (makes a operation follow) before all more =
    (effect : Effect) (between : Standing) (rest : List Record) → Makes s before a operation all effect between rest
    → length rest < length more
Goes s (opens a) before all more =
    (begun : Begun) (opened : Standing) (inside : List Record) → OpensScope s before a all begun opened inside → length inside < length more
Goes s closes before all more =
    (scopes : List Begun) (newest : Begun) (closed : Standing) (rest : List Record) → before.scopes ≡ scopes ++ newest ∷ []
    → ClosesScope s before newest scopes all closed rest → length rest < length more
Goes s (locks variable) before all more =
    (rest : List Record) → TakesLock s.text.task (lock_number s variable) all rest → length rest < length more
Goes s (unlocks variable) before all more =
    (rest : List Record) → MakesDone s.text.task (LockStore (lock_number s variable)) (λ later. rest ≡ later) all
    → length rest < length more
Goes s over before all more = Unit {0}
Goes s (stops due) before all more = Unit {0}

pub part_goes : (s : Setting) (part : Part) (before : Standing) (mine more : List Record) (machine : Machine) (stage : machine_stages.TaskStage)
    → IsIn s part before mine machine stage → Goes s part before (mine ++ more) more
part_goes s (makes a operation follow) before mine more machine stage h = λ effect between rest makes_so.
    let same : makes_so.begun ≡ h.2 = begins_one s before a makes_so.begun h.2 makes_so.begins h.6 in
    let whole : MakesAccess (checks_of s) before.scopes h.2 before.asked operation (mine ++ more) makes_so.passes effect rest = record {
      checked = makes_so.checked;
      done = makes_so.done;
      check = subst (λ (b : Begun). Check (checks_of s) before.scopes b before.asked
          (mine ++ more) makes_so.passes makes_so.checked) same makes_so.check;
      operates = subst (λ (y : access.Access). Operates (checks_of s) y operation makes_so.checked effect makes_so.done)
          (sym h.6.access) makes_so.operates;
      ends = makes_so.ends;
    } in
    access_goes (checks_of s) before.scopes h.2 before.asked operation mine machine.checker h.0.stage h.7.stage h.8 more
    makes_so.passes effect rest whole
part_goes s (opens a) before mine more machine stage h = λ begun opened inside opens_so.
    let same : begun ≡ h.0 = begins_one s before a begun h.0 opens_so.begins h.2 in
    let Begins : List Record → Passes → List Record → Type 0 = Check (checks_of s) before.scopes h.0 before.asked in
    check_goes Begins (framed_checks Begins (check (checks_of s) before.scopes h.0 before.asked)) mine more h.5 opens_so.passes inside
    (subst (λ (b : Begun). Check (checks_of s) before.scopes b before.asked (mine ++ more) opens_so.passes inside) same opens_so.check)
part_goes s closes before mine more machine stage h = λ scopes newest closed rest in_force closes_so.
    let ends = same_ends scopes h.0 newest h.1 (sym in_force ∙ h.4) in
    let silent : closes_so.silenced ≡ h.2 = one_answer closes_so.silenced h.2 _ closes_so.is_silenced h.5 in
    let Begins : List Record → Passes → List Record → Type 0 = Close (checks_of s) h.1 h.2 before.asked in
    check_goes Begins (framed_checks Begins (close (checks_of s) h.1 h.2 before.asked)) mine more h.7 closes_so.passes rest
    (subst (λ (b : Bool). Close (checks_of s) h.1 b before.asked (mine ++ more) closes_so.passes rest) silent
    (subst (λ (b : Begun). Close (checks_of s) b closes_so.silenced before.asked
    (mine ++ more) closes_so.passes rest) ends.1 closes_so.close))
part_goes s (locks variable) before mine more machine stage h = λ rest takes_so.
    lock_goes s.text.task (lock_number s variable) mine h.0 h.3 h.5 more rest takes_so
part_goes s (unlocks variable) before mine more machine stage h = λ rest done_so.
    store_goes s.text.task (lock_number s variable) more rest
    (subst (λ (l : List Record). MakesDone s.text.task (LockStore (lock_number s variable)) (λ later. rest ≡ later)
    (l ++ more)) h.1 done_so)
part_goes s over before mine more machine stage h = tt
part_goes s (stops due) before mine more machine stage h = tt
