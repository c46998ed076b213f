-- One record more leads a task's machine on, in each of its stages.
use Rattle.std.proofs.Common.{◌≡◌, ◌↔◌, ◌∙◌, ◌+◌, ◌-◌, ◌++◌, ◌<◌, ℕ, Bool, true, false, IsSomeAnd, List, [], ◌∷◌, None, Option, Some, ap, arith, drop, length, refl, slice_get, subst, sym, unwrap_or}
use Rattle.std.specs.Arc.{arc_value}
use Rattle.std.proofs.lemmas.List.{length-append}
use Rattle.std.proofs.lemmas.Option.{slice_get_within}
use Rattle.access_run.specs.Leads.{AccessIsComplete, AccessIsDone, AccessLeads}
use Rattle.access_run.specs.Whole.{IsWhole}
use Rattle.access_run.specs.Moved.{moved}
use Rattle.access_run.specs.declared.access.AccessRun.{AccessRun}
use Rattle.access_types.specs.Access as access
use Rattle.access_types.specs.declared.history.Happening.TheVariants as happenings
use Rattle.litmus_syntax.specs.Tree.{Block}
use Rattle.access_run.specs.memory_operation.LockLeads.{LockLeads}
use Rattle.access_run.specs.memory_operation.Locks.{TakesLock}
use Rattle.access_run.specs.memory_operation.Operations.{Operates}
use Rattle.access_run.specs.declared.memory_operation.effect.Effect.{Effect}
use Rattle.access_run.specs.declared.memory_operation.lock.LockWait.{LockWait}
use Rattle.access_run.specs.declared.memory_operation.operation.Operation.{Operation}
use Rattle.setup_access.specs.Check.{Check, Close}
use Rattle.setup_access.specs.Checker.{Checks, Closes, Doing}
use Rattle.setup_access.specs.Leads as checks
use Rattle.setup_access.specs.OwnAccesses.{IsOwn}
use Rattle.setup_access.specs.Setting as settings
use Rattle.setup_access.specs.Shown.{context_of}
use Rattle.setup_access.specs.declared.begun.Begun.{Begun}
use Rattle.setup_access.specs.declared.checker.Checker.{Checker}
use Rattle.slot_table.specs.declared.records.Record.{Record}
use Rattle.slot_table.specs.declared.step.Answer.TheVariants.{Done}
use Rattle.slot_table.specs.declared.step.Step.{Step}
use Rattle.slot_table.specs.declared.step.Step.TheVariants.{LockStore, LockTry}
use Rattle.task_context.specs.Context.{Context}
use Rattle.task_context.specs.History.{LeadsTo}
use Rattle.task_plan.proofs.KeepsLemmas.{keeps_alike}
use Rattle.task_plan.specs.Follow.{Follow, assigned, goes_on, loaded_by, marks_next}
use Rattle.task_plan.specs.Keeps.{Keeps}
use Rattle.task_plan.specs.Views.{follow_of}
use Rattle.task_plan.specs.declared.follow.Then.{Then}
use Rattle.task_plan.specs.declared.progress.Progress.{Progress}
use Rattle.program_order.specs.InProgress.{clock_steps}
use Rattle.task_run.proofs.AccessesLemmas.{AreTold, access_accesses, accesses_on, closing_accesses, done_accesses, opening_accesses}
use Rattle.task_run.proofs.ClockLemmas.{check_clocks, close_clocks, end_clocks, lock_clocks, operates_clocks, store_clocks}
use Rattle.task_run.proofs.AnswerLemmas.{OtherChecker, access_over, access_stands, begun_before, check_goes, check_whole, close_goes, close_whole, closing_over, counts_kept, lock_over, of_kept, opening_over, stands_locked, walk_kept}
use Rattle.task_run.proofs.CountsLemmas.{counts_silent, history_of}
use Rattle.task_run.proofs.EndLemmas.{after_access, after_closing, after_opening, passes_of}
use Rattle.task_run.proofs.LeadsLemmas.{agrees_in, inside, next_part}
use Rattle.access_run.proofs.memory_operation.ReadLemmas.{operation_reads}
use Rattle.task_run.proofs.ScopeLemmas.{access_scopes, closing_scopes, done_scopes, opening_scopes, scopes_on}
use Rattle.task_run.proofs.StageLemmas.{in_closing, in_locking, in_making, in_opening, in_unlocking}
use Rattle.task_run.proofs.ToldLemmas.{access_told, closing_told, done_told, opening_told, told_on}
use Rattle.task_run.proofs.WaitLemmas.{IsNoWait, no_try_no_wait, taken_no_wait}
use Rattle.task_run.specs.Agrees.{Agrees, Begins, IsFit}
use Rattle.task_run.specs.Due.{EndsAtOnce}
use Rattle.task_run.specs.Follows.{IsRead}
use Rattle.task_run.specs.Leads.{Leads}
use Rattle.task_run.specs.Part.{FollowLeft, PartLeft, closes, locks, makes, opens, unlocks}
use Rattle.task_run.specs.Stands.{Counts, IsOf, Stands, StandsBy}
use Rattle.task_run.specs.declared.machine.Machine.{Machine}
use Rattle.task_run.specs.declared.run.TaskRun.{TaskRun}
use Rattle.task_run.specs.declared.stage.TaskStage.TheVariants as stages
use Rattle.task_plan.proofs.StepsLemmas.{through}
use Rattle.task_plan.specs.Left.{WalkLeft}
use Rattle.task_plan.specs.declared.walk.Walk.{Walk}
use Rattle.program_order.specs.Access.{operated}
use Rattle.program_order.specs.Standing.{Setting, Standing, checks_of, doing, lock_number}
use Rattle.program_order.specs.Waits.{is_tried_again}

-- what is there is within the list
pub in_list : {A : Type 0} (xs : List A) (index : ℕ) (P : A → Type 0) → IsSomeAnd (slice_get xs index) P → index < length xs
in_list {A = A} xs index P some = within (slice_get xs index) refl some
  where
    within : (o : Option A) → slice_get xs index ≡ o → IsSomeAnd o P → index < length xs
    within None is there = absurd there
    within (Some x) is there = slice_get_within xs index x is

-- so is a lock that a task has
pub had_lock : (held : List Bool) (variable : ℕ) → unwrap_or (slice_get held variable) false ≡ true → variable < length held
had_lock held variable has = within (slice_get held variable) refl has
  where
    within : (o : Option Bool) → slice_get held variable ≡ o → unwrap_or o false ≡ true → variable < length held
    within None is there = absurd (let no : false ≡ true = there in cc)
    within (Some x) is there = slice_get_within held variable x is

-- what follows on an access takes a value only where one was read
pub read_where_fit : (s : settings.Setting) (a : access.Access) (follow : Follow) (operation : Option Operation) (records : List Record) (effect : Effect)
    (rest : List Record) → IsFit follow operation → Operates s a operation records effect rest → IsRead follow effect
read_where_fit s a goes_on operation records effect rest fit h = tt
read_where_fit s a marks_next operation records effect rest fit h = tt
read_where_fit s a (assigned data_race) operation records effect rest fit h = tt
read_where_fit s a (loaded_by size data_races taker) operation records effect rest fit h = operation_reads s a operation records effect rest fit h

one_wait : (one other : LockWait) (variable : ℕ) → stages.Locking one variable ≡ stages.Locking other variable → one ≡ other
one_wait one other variable is = cc

one_run : (one other : AccessRun) (first second : Then) → stages.Making one first ≡ stages.Making other second → one ≡ other
one_run one other first second is = cc

module _ (s : Setting) (registers : ℕ) (body : Block) (records : List Record) (old : TaskRun) (leads : Leads s registers body records old) (made : Record) where
  abbrev mine : List Record
  mine = leads.mine ++ made ∷ []

  -- the standing at the beginning of the part, where these follow on one record more
  abbrev at_begin : List Record → Standing
  at_begin later = leads.now (mine ++ later)

  -- what is told of the accesses there
  told_now : (later : List Record) → AreTold s leads.earlier (leads.now later)
  told_now later = (leads.accesses later, leads.repeats later)

  module _ (wait next_wait : LockWait) (variable : ℕ) (is : old.stage ≡ stages.Locking wait variable)
      (leads_on : (lock : ℕ) (so_far : List Record) → LockLeads s.text.task lock so_far wait → LockLeads s.text.task lock (so_far ++ made ∷ []) next_wait) where
    lock_part : leads.part ≡ locks variable
    lock_part = in_locking s (leads.now []) leads.mine old.machine old.stage leads.part (leads.agrees []).is_in wait variable is

    lock_agrees : (later : List Record) → Agrees s (locks variable) (leads.now later) leads.mine old.machine old.stage
    lock_agrees = agrees_in s registers body records old leads (locks variable) lock_part

    lock_leads : (later : List Record) → LockLeads s.text.task (lock_number s variable) mine next_wait
    lock_leads later = let a = lock_agrees later in
        leads_on (lock_number s variable) leads.mine
        (subst (λ (w : LockWait). LockLeads s.text.task (lock_number s variable) leads.mine w) (one_wait a.is_in.0 wait variable (sym a.is_in.1 ∙ is)) a.is_in.3)

    pub lock_inside : ((lock : ℕ) (so_far : List Record) → LockLeads s.text.task lock so_far next_wait → ¬ TakesLock s.text.task lock so_far [])
        → Leads s registers body (records ++ made ∷ []) (record old { stage = stages.Locking next_wait variable })
    lock_inside going = inside s registers body records old leads (locks variable) lock_part made (record old { stage = stages.Locking next_wait variable }) refl
        (λ later. let a = lock_agrees later in record {
          of = a.of;
          counts = a.counts;
          is_in = (next_wait, refl, a.is_in.2, lock_leads later, a.is_in.4, going (lock_number s variable) mine (lock_leads later));
        })

    pub lock_ended : ((lock : ℕ) (so_far : List Record) → LockLeads s.text.task lock so_far next_wait → TakesLock s.text.task lock so_far [])
        → (progress : Progress)
        → ((variables : ℕ) (before : Standing) (later : List Record) → Keeps variables before old.machine.progress → variable < variables
        → Keeps variables (doing before later (happenings.Lock variable ∷ [])) progress)
        → (new : TaskRun)
        → ((before : List Record → Standing) → StandsBy s before (record old.machine { progress = progress })
        → Begins s (WalkLeft s old.machine.walk) before new.machine new.stage)
        → Leads s registers body (records ++ made ∷ []) new
    lock_ended taken progress keeps new goes =
        let next : List Record → Standing = λ later. doing (at_begin later) later (happenings.Lock variable ∷ []) in
        next_part s registers body records old leads (locks variable) lock_part made
        (taken_no_wait s.text.task (lock_number s variable) leads.mine made (taken (lock_number s variable) mine (lock_leads []))) new old.machine.walk next
        (λ later. done_told registers mine (at_begin later) later (happenings.Lock variable) (leads.told (mine ++ later)))
        (λ later. done_scopes (at_begin later) (next later) (happenings.Lock variable ∷ []) refl refl (refl, tt) (leads.scopes (mine ++ later)))
        (λ later. done_accesses s leads.earlier mine (at_begin later) (next later) (happenings.Lock variable ∷ []) refl refl (refl, tt)
        (lock_clocks s.text.task (lock_number s variable) mine [] (taken (lock_number s variable) mine (lock_leads []))) (told_now (mine ++ later)))
        (λ later end. let a = lock_agrees (mine ++ later) in
        lock_over s (at_begin later) variable mine old.machine.walk a.is_in.2
        (taken (lock_number s variable) mine (lock_leads (mine ++ later))) later end)
        (goes next (λ later. let a = lock_agrees (mine ++ later) in
        stands_locked s (at_begin later) old.machine progress later (happenings.Lock variable) (λ task no. no)
        (keeps (length s.text.variables) (at_begin later) later a.counts.keeps (in_list s.text.variables variable _ a.is_in.2))
        (record { of = a.of; counts = a.counts; rests = a.is_in.4 })))

  module _ (run next_run : AccessRun) (kept : Then) (machine : Machine) (is : old.stage ≡ stages.Making run kept) (other : OtherChecker old.machine machine)
      (context : context_of machine.checker ≡ context_of old.machine.checker)
      (leads_on : (scopes : List Begun) (begun : Begun) (asked : ℕ) (operation : Option Operation) (so_far : List Record)
      → (checks_of s).sites ≡ arc_value old.machine.sites → AccessLeads (checks_of s) scopes begun asked operation so_far run old.machine.checker
      → AccessLeads (checks_of s) scopes begun asked operation (so_far ++ made ∷ []) next_run machine.checker) where
    making : (a : access.Access) × (operation : Option Operation) × (leads.part ≡ makes a operation (follow_of kept))
    making = in_making s (leads.now []) leads.mine old.machine old.stage leads.part (leads.agrees []).is_in run kept is

    access_agrees : (later : List Record) → Agrees s (makes making.0 making.1 (follow_of kept)) (leads.now later) leads.mine old.machine old.stage
    access_agrees = agrees_in s registers body records old leads (makes making.0 making.1 (follow_of kept)) making.2

    access_leads : (later : List Record) → let a = access_agrees later in
        AccessLeads (checks_of s) (leads.now later).scopes a.is_in.2 (leads.now later).asked making.1 mine next_run machine.checker
    access_leads later = let a = access_agrees later in
        leads_on (leads.now later).scopes a.is_in.2 (leads.now later).asked making.1 leads.mine (sym a.of.sites)
        (subst (λ (r : AccessRun). AccessLeads (checks_of s) (leads.now later).scopes a.is_in.2 (leads.now later).asked making.1 leads.mine r old.machine.checker)
        (one_run a.is_in.0 run a.is_in.1 kept (sym a.is_in.3 ∙ is)) a.is_in.7)

    pub access_inside : ((scopes : List Begun) (begun : Begun) (asked : ℕ) (operation : Option Operation) (so_far : List Record)
        → AccessLeads (checks_of s) scopes begun asked operation so_far next_run machine.checker → ¬ AccessIsDone (checks_of s) scopes begun asked operation so_far)
        → machine.begins ≡ None
        → Leads s registers body (records ++ made ∷ []) (record old { machine = machine; stage = stages.Making next_run kept })
    access_inside going none_begins = inside s registers body records old leads (makes making.0 making.1 (follow_of kept)) making.2 made
        (record old { machine = machine; stage = stages.Making next_run kept }) (walk_kept s old.machine machine other)
        (λ later. let a = access_agrees later in record {
          of = of_kept s old.machine machine other a.of;
          counts = counts_kept s old.machine machine other (doing (leads.now later) [] (happenings.Begin making.0 ∷ [])) context a.counts;
          is_in = (
            next_run,
            kept,
            a.is_in.2,
            refl,
            refl,
            a.is_in.5,
            a.is_in.6,
            access_leads later,
            going (leads.now later).scopes a.is_in.2 (leads.now later).asked making.1 mine (access_leads later),
            begun_before a.is_in.2 leads.mine made machine.begins none_begins,
            a.is_in.10,
          );
        })

    pub access_ended : IsNoWait made → (effect : Effect)
        → ((scopes : List Begun) (begun : Begun) (asked : ℕ) (operation : Option Operation) (so_far : List Record)
        → AccessLeads (checks_of s) scopes begun asked operation so_far next_run machine.checker
        → AccessIsComplete (checks_of s) scopes begun asked operation so_far effect machine.checker)
        → (after : Machine)
        → ((before : List Record → Standing) → StandsBy s before machine → IsRead (follow_of kept) effect
        → EndsAtOnce s (FollowLeft s machine.walk (follow_of kept) effect) before after)
        → (new : TaskRun) → ((before : List Record → Standing) → StandsBy s before after → Begins s (WalkLeft s after.walk) before new.machine new.stage)
        → Leads s registers body (records ++ made ∷ []) new
    access_ended none effect ends after follows new goes =
        let complete : (later : List Record) → AccessIsComplete (checks_of s) (at_begin later).scopes (access_agrees (mine ++ later)).is_in.2 (at_begin later).asked making.1 mine effect machine.checker =
        λ later. ends (at_begin later).scopes (access_agrees (mine ++ later)).is_in.2 (at_begin later).asked making.1 mine (access_leads (mine ++ later)) in
        let next : List Record → Standing = λ later. let a = access_agrees (mine ++ later) in
        after_access s (at_begin later) making.0 making.1 a.is_in.2 mine effect machine.checker a.is_in.6 (complete later) later in
        let stands : StandsBy s next machine = λ later. let a = access_agrees (mine ++ later) in
        access_stands s (at_begin later) making.0 making.1 a.is_in.2 mine effect machine a.is_in.6 (complete later)
        (of_kept s old.machine machine other a.of)
        (counts_kept s old.machine machine other (doing (at_begin later) [] (happenings.Begin making.0 ∷ [])) context a.counts) later in
        let first = access_agrees (mine ++ []) in
        let read : IsRead (follow_of kept) effect = read_where_fit (checks_of s) first.is_in.2.access (follow_of kept) making.1 _ effect _ first.is_in.5 (complete []).makes.operates in
        let over = follows next stands read in
        next_part s registers body records old leads (makes making.0 making.1 (follow_of kept)) making.2 made none new after.walk over.0
        (λ later. told_on registers (over.3 later)
        (access_told registers (checks_of s) making.0 (access_agrees (mine ++ later)).is_in.2.access making.1 (at_begin later) leads.mine made
        (complete later).makes.checked (complete later).makes.done later effect (complete later).makes.done (complete later).fallen (complete later).now
        (complete later).makes.operates (leads.told (mine ++ later))))
        (λ later. let began : Standing = doing (at_begin later) (drop 1 (mine ++ later)) (happenings.Begin making.0 ∷ []) in
        let made : Standing = operated making.0 making.1 began ((complete later).makes.checked ++ later) effect ((complete later).makes.done ++ later) in
        scopes_on (over.3 later) (access_scopes making.0 making.1 (at_begin later) began made (next later) ((complete later).makes.checked ++ later) effect
        ((complete later).makes.done ++ later) refl refl refl refl refl (leads.scopes (mine ++ later))))
        (λ later. let began : Standing = doing (at_begin later) (drop 1 (mine ++ later)) (happenings.Begin making.0 ∷ []) in
        let made : Standing = operated making.0 making.1 began ((complete later).makes.checked ++ later) effect ((complete later).makes.done ++ later) in
        let makes_it = (complete later).makes in
        let begun = (access_agrees (mine ++ later)).is_in.2 in
        let check_one = check_clocks (checks_of s) (at_begin later).scopes begun (at_begin later).asked mine _ makes_it.checked makes_it.check in
        let quiet = operates_clocks (checks_of s) begun.access making.1 makes_it.checked effect makes_it.done makes_it.operates in
        let last = end_clocks s.text.task makes_it.done [] makes_it.ends in
        let two : clock_steps mine ≡ 2 = omega (arith, check_one, quiet, last) in
        accesses_on s (leads.earlier ++ mine) (over.3 later) (access_accesses s leads.earlier mine making.0 making.1 (at_begin later) began made (next later)
        ((complete later).makes.checked ++ later) effect ((complete later).makes.done ++ later) refl refl refl refl refl
        (access_agrees (mine ++ later)).is_in.10 two (told_now (mine ++ later))))
        (λ later end. let a = access_agrees (mine ++ later) in
        through (subst (λ (w : Walk). PartLeft s (makes making.0 making.1 (follow_of kept)) w (at_begin later) (mine ++ later) end []
        ↔ FollowLeft s machine.walk (follow_of kept) effect (next later) later end []) (walk_kept s old.machine machine other)
        (access_over s (at_begin later) making.0 making.1 a.is_in.2 mine effect machine a.is_in.6 (complete later) machine.walk (follow_of kept) later end))
        (over.2 later end))
        (goes over.0 over.1)

  module _ (variable : ℕ) (is : old.stage ≡ stages.Unlocking variable) where
    unlock_part : leads.part ≡ unlocks variable
    unlock_part = in_unlocking s (leads.now []) leads.mine old.machine old.stage leads.part (leads.agrees []).is_in variable is

    unlock_agrees : (later : List Record) → Agrees s (unlocks variable) (leads.now later) leads.mine old.machine old.stage
    unlock_agrees = agrees_in s registers body records old leads (unlocks variable) unlock_part

    pub unlock_ended : made.task ≡ s.text.task → ((before : Standing) → Stands s before old.machine → made.step ≡ LockStore (lock_number s variable)) → made.answer ≡ Done
        → (progress : Progress)
        → ((variables : ℕ) (before : Standing) (later : List Record) → Keeps variables before old.machine.progress → variable < variables
        → Keeps variables (doing before later (happenings.Unlock variable ∷ [])) progress)
        → (new : TaskRun)
        → ((before : List Record → Standing) → StandsBy s before (record old.machine { progress = progress })
        → Begins s (WalkLeft s old.machine.walk) before new.machine new.stage)
        → Leads s registers body (records ++ made ∷ []) new
    unlock_ended task step answer progress keeps new goes =
        let next : List Record → Standing = λ later. doing (at_begin later) later (happenings.Unlock variable ∷ []) in
        let stands : (later : List Record) → Stands s (at_begin later) old.machine = λ later. let a = unlock_agrees (mine ++ later) in
        record { of = a.of; counts = a.counts; rests = a.is_in.2 } in
        let only : (later : List Record) → mine ++ later ≡ made ∷ later = λ later.
        ap (λ (m : List Record). (m ++ made ∷ []) ++ later) (unlock_agrees []).is_in.1 in
        let none : IsNoWait made = subst (λ (x : Step). (lock task : ℕ) → is_tried_again x made.answer (LockTry lock task) ≡ false)
        (sym (step (at_begin []) (stands []))) (no_try_no_wait (LockStore (lock_number s variable)) made.answer tt) in
        next_part s registers body records old leads (unlocks variable) unlock_part made none new old.machine.walk next
        (λ later. done_told registers mine (at_begin later) later (happenings.Unlock variable) (leads.told (mine ++ later)))
        (λ later. done_scopes (at_begin later) (next later) (happenings.Unlock variable ∷ []) refl refl (refl, tt) (leads.scopes (mine ++ later)))
        (λ later. done_accesses s leads.earlier mine (at_begin later) (next later) (happenings.Unlock variable ∷ []) refl refl (refl, tt)
        (ap (λ (m : List Record). clock_steps (m ++ made ∷ [])) (unlock_agrees []).is_in.1
        ∙ store_clocks made (lock_number s variable) (step (at_begin []) (stands []))) (told_now (mine ++ later)))
        (λ later end. subst (λ (r : List Record). PartLeft s (unlocks variable) old.machine.walk (at_begin later) r end []
        ↔ WalkLeft s old.machine.walk (next later) later end []) (sym (only later)) (
          λ h. subst (λ (l : List Record). WalkLeft s old.machine.walk (doing (at_begin later) l (happenings.Unlock variable ∷ [])) l end []) h.1.2.1 h.2,
          λ q. (later, (task, step (at_begin later) (stands later), (answer, refl)), q),
        ))
        (goes next (λ later.
        stands_locked s (at_begin later) old.machine progress later (happenings.Unlock variable) (λ task no. no)
        (keeps (length s.text.variables) (at_begin later) later (stands later).counts.keeps
        (subst (λ (n : ℕ). variable < n) (stands later).counts.keeps.locks (had_lock old.machine.progress.held.items variable
        ((stands later).counts.keeps.held variable ∙ (unlock_agrees (mine ++ later)).is_in.3)))) (stands later)))

  module _ (machine : Machine) (is : old.stage ≡ stages.Opening) (other : OtherChecker old.machine machine)
      (context : context_of machine.checker ≡ context_of old.machine.checker)
      (leads_on : (scopes : List Begun) (what : Doing) (asked : ℕ) (so_far : List Record) → (checks_of s).sites ≡ arc_value old.machine.sites
      → checks.Leads (checks_of s) scopes what asked so_far old.machine.checker
      → checks.Leads (checks_of s) scopes what asked (so_far ++ made ∷ []) machine.checker) where
    opening : (a : access.Access) × (leads.part ≡ opens a)
    opening = in_opening s (leads.now []) leads.mine old.machine old.stage leads.part (leads.agrees []).is_in is

    opening_agrees : (later : List Record) → Agrees s (opens opening.0) (leads.now later) leads.mine old.machine old.stage
    opening_agrees = agrees_in s registers body records old leads (opens opening.0) opening.1

    opening_leads : (later : List Record)
        → checks.Leads (checks_of s) (leads.now later).scopes (Checks (opening_agrees later).is_in.0) (leads.now later).asked mine machine.checker
    opening_leads later = let a = opening_agrees later in
        leads_on (leads.now later).scopes (Checks a.is_in.0) (leads.now later).asked leads.mine (sym a.of.sites) a.is_in.4

    pub opening_inside : ((scopes : List Begun) (what : Doing) (asked : ℕ) (so_far : List Record) → checks.Leads (checks_of s) scopes what asked so_far machine.checker
        → ¬ checks.IsDone (checks_of s) scopes what asked so_far)
        → machine.begins ≡ None
        → Leads s registers body (records ++ made ∷ []) (record old { machine = machine; stage = stages.Opening })
    opening_inside going none_begins = inside s registers body records old leads (opens opening.0) opening.1 made
        (record old { machine = machine; stage = stages.Opening })
        (walk_kept s old.machine machine other)
        (λ later. let a = opening_agrees later in record {
          of = of_kept s old.machine machine other a.of;
          counts = counts_kept s old.machine machine other (doing (leads.now later) [] (happenings.Begin opening.0 ∷ [])) context a.counts;
          is_in = (
            a.is_in.0,
            refl,
            a.is_in.2,
            a.is_in.3,
            opening_leads later,
            check_goes (checks_of s) (leads.now later).scopes a.is_in.0 (leads.now later).asked leads.mine made a.is_in.5
                (going (leads.now later).scopes (Checks a.is_in.0) (leads.now later).asked mine (opening_leads later)),
            begun_before a.is_in.0 leads.mine made machine.begins none_begins,
            a.is_in.7,
            a.is_in.8,
          );
        })

    pub opening_ended : IsNoWait made → ((scopes : List Begun) (what : Doing) (asked : ℕ) (so_far : List Record) → checks.Leads (checks_of s) scopes what asked so_far machine.checker
        → checks.IsComplete (checks_of s) scopes what asked so_far machine.checker)
        → (checker : Checker)
        → ((scopes : List Begun) (begun : Begun) (asked : ℕ) → checks.Rests (checks_of s) scopes asked (Some begun) machine.checker → IsOwn (checks_of s) begun.access
        → length scopes < 8 → checks.Rests (checks_of s) (scopes ++ begun ∷ []) asked None checker)
        → context_of checker ≡ context_of machine.checker → (in_force : ℕ) → (machine.in_force < 8 → in_force ≡ machine.in_force + 1) → (new : TaskRun)
        → ((before : List Record → Standing) → StandsBy s before (record machine { checker = checker; in_force = in_force })
        → Begins s (WalkLeft s machine.walk) before new.machine new.stage)
        → Leads s registers body (records ++ made ∷ []) new
    opening_ended none ends checker opened context_on in_force rises new goes =
        let Complete : List Record → Type 0 = λ later.
        checks.IsComplete (checks_of s) (at_begin later).scopes (Checks (opening_agrees (mine ++ later)).is_in.0) (at_begin later).asked mine machine.checker in
        let complete : (later : List Record) → Complete later = λ later.
        ends (at_begin later).scopes (Checks (opening_agrees (mine ++ later)).is_in.0) (at_begin later).asked mine (opening_leads (mine ++ later)) in
        let whole : (later : List Record) → IsWhole moved
        (Check (checks_of s) (at_begin later).scopes (opening_agrees (mine ++ later)).is_in.0 (at_begin later).asked) mine (passes_of (complete later).now (complete later).fallen) =
        λ later. let a = opening_agrees (mine ++ later) in
        check_whole (checks_of s) (at_begin later).scopes a.is_in.0 (at_begin later).asked leads.mine made machine.checker (opening_leads (mine ++ later)) a.is_in.5 (complete later) in
        let next : List Record → Standing = λ later. let a = opening_agrees (mine ++ later) in
        after_opening s (at_begin later) opening.0 a.is_in.0 mine (passes_of (complete later).now (complete later).fallen) a.is_in.2 (whole later) later in
        let stands : StandsBy s next (record machine { checker = checker; in_force = in_force }) = λ later.
        let a = opening_agrees (mine ++ later) in
        let of : IsOf s machine = of_kept s old.machine machine other a.of in
        let began : Standing = doing (at_begin later) [] (happenings.Begin opening.0 ∷ []) in
        let counts : Counts s began machine = counts_kept s old.machine machine other began context a.counts in
        let own : IsOwn (checks_of s) a.is_in.0.access = subst (λ (x : access.Access). IsOwn (checks_of s) x) (sym a.is_in.2.access) a.is_in.2.own in
        let room : machine.in_force < 8 = subst (λ (n : ℕ). n < 8) (sym counts.in_force) a.is_in.3 in record {
          of = record {
            task = of.task;
            rules = of.rules;
            variables = of.variables;
            layout = of.layout;
            sites = of.sites;
          };
          counts = record {
            keeps = keeps_alike (length s.text.variables) began (next later) machine.progress (record { progress = refl; unbalanced = refl }) counts.keeps;
            context = subst (λ (c : Context). LeadsTo s.rules.plain_writes_atomic s.text.task (history_of s.text.task began.progress.did) c) (sym context_on) counts.context;
            in_force = rises room ∙ (ap (λ (n : ℕ). n + 1) counts.in_force ∙ sym (length-append (at_begin later).scopes (a.is_in.0 ∷ [])));
          };
          rests = (None, opened (at_begin later).scopes a.is_in.0 (complete later).now (complete later).rests own a.is_in.3);
        } in
        next_part s registers body records old leads (opens opening.0) opening.1 made none new machine.walk next
        (λ later. opening_told registers opening.0 (opening_agrees (mine ++ later)).is_in.0 (at_begin later) leads.mine made later (complete later).fallen
        (complete later).now (leads.told (mine ++ later)))
        (λ later. let a = opening_agrees (mine ++ later) in
        opening_scopes opening.0 a.is_in.0 (at_begin later) (next later) a.is_in.7 a.is_in.2.access refl refl (leads.scopes (mine ++ later)))
        (λ later. let a = opening_agrees (mine ++ later) in
        opening_accesses s leads.earlier mine opening.0 a.is_in.0 (at_begin later) (next later) refl refl a.is_in.2 a.is_in.8
        (check_clocks (checks_of s) (at_begin later).scopes a.is_in.0 (at_begin later).asked mine _ [] (whole later).0) (told_now (mine ++ later)))
        (λ later end. let a = opening_agrees (mine ++ later) in
        subst (λ (w : Walk). PartLeft s (opens opening.0) w (at_begin later) (mine ++ later) end [] ↔ WalkLeft s machine.walk (next later) later end [])
        (walk_kept s old.machine machine other)
        (opening_over s (at_begin later) opening.0 a.is_in.0 mine (passes_of (complete later).now (complete later).fallen) a.is_in.2 (whole later) machine.walk later end))
        (goes next stands)

  module _ (machine : Machine) (is : old.stage ≡ stages.Closing) (other : OtherChecker old.machine machine)
      (context : context_of machine.checker ≡ context_of old.machine.checker)
      (leads_on : (scopes : List Begun) (what : Doing) (asked : ℕ) (so_far : List Record) → (checks_of s).sites ≡ arc_value old.machine.sites
      → checks.Leads (checks_of s) scopes what asked so_far old.machine.checker
      → checks.Leads (checks_of s) scopes what asked (so_far ++ made ∷ []) machine.checker) where
    closing : leads.part ≡ closes
    closing = in_closing s (leads.now []) leads.mine old.machine old.stage leads.part (leads.agrees []).is_in is

    closing_agrees : (later : List Record) → Agrees s closes (leads.now later) leads.mine old.machine old.stage
    closing_agrees = agrees_in s registers body records old leads closes closing

    closing_leads : (later : List Record) → let a = closing_agrees later in
        checks.Leads (checks_of s) a.is_in.0 (Closes a.is_in.1 a.is_in.2) (leads.now later).asked mine machine.checker
    closing_leads later = let a = closing_agrees later in
        leads_on a.is_in.0 (Closes a.is_in.1 a.is_in.2) (leads.now later).asked leads.mine (sym a.of.sites) a.is_in.6

    pub closing_inside : ((scopes : List Begun) (what : Doing) (asked : ℕ) (so_far : List Record) → checks.Leads (checks_of s) scopes what asked so_far machine.checker
        → ¬ checks.IsDone (checks_of s) scopes what asked so_far)
        → Leads s registers body (records ++ made ∷ []) (record old { machine = machine; stage = stages.Closing })
    closing_inside going = inside s registers body records old leads closes closing made
        (record old { machine = machine; stage = stages.Closing })
        (walk_kept s old.machine machine other)
        (λ later. let a = closing_agrees later in record {
          of = of_kept s old.machine machine other a.of;
          counts = counts_kept s old.machine machine other (leads.now later) context a.counts;
          is_in = (
            a.is_in.0,
            a.is_in.1,
            a.is_in.2,
            refl,
            a.is_in.4,
            a.is_in.5,
            closing_leads later,
            close_goes (checks_of s) a.is_in.0 a.is_in.1 a.is_in.2 (leads.now later).asked leads.mine made a.is_in.7
                (going a.is_in.0 (Closes a.is_in.1 a.is_in.2) (leads.now later).asked mine (closing_leads later)),
          );
        })

    pub closing_ended : IsNoWait made → ((scopes : List Begun) (what : Doing) (asked : ℕ) (so_far : List Record) → checks.Leads (checks_of s) scopes what asked so_far machine.checker
        → checks.IsComplete (checks_of s) scopes what asked so_far machine.checker)
        → (new : TaskRun)
        → ((before : List Record → Standing) → StandsBy s before (record machine { in_force = machine.in_force - 1 })
        → Begins s (WalkLeft s machine.walk) before new.machine new.stage)
        → Leads s registers body (records ++ made ∷ []) new
    closing_ended none ends new goes =
        let Complete : List Record → Type 0 = λ later. let a = closing_agrees (mine ++ later) in
        checks.IsComplete (checks_of s) a.is_in.0 (Closes a.is_in.1 a.is_in.2) (at_begin later).asked mine machine.checker in
        let complete : (later : List Record) → Complete later = λ later. let a = closing_agrees (mine ++ later) in
        ends a.is_in.0 (Closes a.is_in.1 a.is_in.2) (at_begin later).asked mine (closing_leads (mine ++ later)) in
        let whole : (later : List Record) → let a = closing_agrees (mine ++ later) in
        IsWhole moved (Close (checks_of s) a.is_in.1 a.is_in.2 (at_begin later).asked) mine (passes_of (complete later).now (complete later).fallen) =
        λ later. let a = closing_agrees (mine ++ later) in
        close_whole (checks_of s) a.is_in.0 a.is_in.1 a.is_in.2 (at_begin later).asked leads.mine made machine.checker (closing_leads (mine ++ later)) a.is_in.7 (complete later) in
        let next : List Record → Standing = λ later. let a = closing_agrees (mine ++ later) in
        after_closing s (at_begin later) a.is_in.0 a.is_in.1 a.is_in.2 mine (passes_of (complete later).now (complete later).fallen) a.is_in.4 a.is_in.5 (whole later) later in
        let stands : StandsBy s next (record machine { in_force = machine.in_force - 1 }) = λ later.
        let a = closing_agrees (mine ++ later) in
        let of : IsOf s machine = of_kept s old.machine machine other a.of in
        let counts : Counts s (at_begin later) machine = counts_kept s old.machine machine other (at_begin later) context a.counts in
        let ended : Counts s (doing (at_begin later) later (happenings.End a.is_in.1.access ∷ [])) machine =
        counts_silent s (at_begin later) machine counts later (happenings.End a.is_in.1.access ∷ []) (tt, tt) in
        let length_is : length (at_begin later).scopes ≡ length a.is_in.0 + 1 = ap (λ (l : List Begun). length l) a.is_in.4 ∙ length-append a.is_in.0 (a.is_in.1 ∷ []) in record {
          of = record {
            task = of.task;
            rules = of.rules;
            variables = of.variables;
            layout = of.layout;
            sites = of.sites;
          };
          counts = record {
            keeps = keeps_alike (length s.text.variables) (doing (at_begin later) later (happenings.End a.is_in.1.access ∷ [])) (next later) machine.progress
                (record { progress = refl; unbalanced = refl }) ended.keeps;
            context = ended.context;
            in_force = let force = counts.in_force in omega (arith, force, length_is);
          };
          rests = (None, (complete later).rests);
        } in
        next_part s registers body records old leads closes closing made none new machine.walk next
        (λ later. let a = closing_agrees (mine ++ later) in
        closing_told registers a.is_in.1.access a.is_in.0 (at_begin later) mine later (complete later).fallen (complete later).now (leads.told (mine ++ later)))
        (λ later. let a = closing_agrees (mine ++ later) in
        closing_scopes a.is_in.0 a.is_in.1 (at_begin later) (next later) a.is_in.4 refl refl (leads.scopes (mine ++ later)))
        (λ later. let a = closing_agrees (mine ++ later) in
        closing_accesses s leads.earlier mine a.is_in.0 a.is_in.1 (at_begin later) (next later) a.is_in.4 refl refl
        (close_clocks (checks_of s) a.is_in.1 a.is_in.2 (at_begin later).asked mine _ [] (whole later).0) (told_now (mine ++ later)))
        (λ later end. let a = closing_agrees (mine ++ later) in
        subst (λ (w : Walk). PartLeft s closes w (at_begin later) (mine ++ later) end [] ↔ WalkLeft s machine.walk (next later) later end [])
        (walk_kept s old.machine machine other)
        (closing_over s (at_begin later) a.is_in.0 a.is_in.1 a.is_in.2 mine (passes_of (complete later).now (complete later).fallen) a.is_in.4 a.is_in.5 (whole later)
        machine.walk later end))
        (goes next stands)
