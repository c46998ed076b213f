-- What a task's machine says of where the task stands, and of its next step.
use Rattle.std.proofs.Common.{◌≡◌, ◌↔◌, ◌∙◌, ◌++◌, ◌∷◌, [], append_assoc, ℕ, Bool, false, true, List, Option}
use Rattle.std.proofs.Common.{None, Some, IfSome, IsNone, ◌⊎◌, ap, count_by, length, reverse, take, inl, inr, refl, subst, sym}
use Rattle.std.proofs.lemmas.List.{append-nil, reverse-append}
use Rattle.access_run.specs.Leads.{AccessIsOver, AccessIsStuck, AccessLeads, AccessOnlyStep, AccessSays}
use Rattle.access_run.specs.Whole.{NoneWhole}
use Rattle.access_run.proofs.CheckFronts.{check, close, framed_checks}
use Rattle.access_run.proofs.WholeLemmas.{split}
use Rattle.access_run.specs.declared.access.AccessRun.{AccessRun}
use Rattle.access_run.specs.Access.{MakesAccess}
use Rattle.access_run.specs.Moved.{FramedChecks}
use Rattle.access_types.specs.Access as access
use Rattle.litmus_syntax.specs.Tree.{Block}
use Rattle.litmus_syntax.specs.declared.program.Variable.{Variable}
use Rattle.access_run.specs.memory_operation.Leads as operations
use Rattle.access_run.specs.memory_operation.LockLeads.{IsStuckAtLock, LockIsOver, LockLeads, LockLeft, LockSays, OnlyLockStep}
use Rattle.access_run.specs.memory_operation.Locks.{TakesLock}
use Rattle.access_run.specs.memory_operation.Operations.{Operates}
use Rattle.access_run.specs.declared.memory_operation.lock.LockWait.{LockWait}
use Rattle.access_run.specs.declared.memory_operation.operation.Operation.{Operation}
use Rattle.setup_access.specs.Check.{Check, Close, Passes}
use Rattle.setup_access.specs.Checker.{Checks, Closes, Doing}
use Rattle.setup_access.specs.Leads as checks
use Rattle.setup_access.specs.Records.{MakesDone}
use Rattle.setup_access.proofs.LeadsLemmas.{same_ends}
use Rattle.setup_access.specs.declared.begun.Begun.{Begun}
use Rattle.setup_access.specs.declared.rules.Rules.{Rules}
use Rattle.slot_table.specs.declared.records.Record.{Record}
use Rattle.slot_table.specs.declared.step.Step.{Step}
use Rattle.slot_table.specs.declared.step.Answer.{Answer}
use Rattle.slot_table.specs.declared.step.Answer.TheVariants as answers
use Rattle.slot_table.specs.declared.step.Step.TheVariants.{LockStore, LockTry}
use Rattle.setup_access.specs.Parts.{made}
use Rattle.access_run.proofs.memory_operation.FrameLemmas.{lock_front}
use Rattle.access_run.proofs.memory_operation.Fronts.{framed}
use Rattle.task_plan.specs.Views.{follow_of}
use Rattle.task_plan.specs.declared.follow.Then.{Then}
use Rattle.task_run.proofs.LeadsLemmas.{agrees_in}
use Rattle.task_run.proofs.EndLemmas.{begins_one, lock_only, one_answer}
use Rattle.task_run.proofs.AccessesLemmas.{accesses_on, first_accesses}
use Rattle.task_run.proofs.ScopeLemmas.{first_scopes, scopes_on}
use Rattle.task_run.proofs.ToldLemmas.{first_told, told_on}
use Rattle.task_run.proofs.TriesLemmas.{access_tried, all_onto, check_tried, lock_tried, onto}
use Rattle.task_run.proofs.StageLemmas.{in_closing, in_locking, in_making, in_opening, in_unlocking}
use Rattle.setup_access.specs.Shown.{context_of}
use Rattle.task_context.proofs.Leads.{leads-nil}
use Rattle.task_context.specs.Context.{Context, idle}
use Rattle.task_context.specs.History.{LeadsTo}
use Rattle.task_plan.specs.Keeps.{Keeps}
use Rattle.task_run.specs.Stands.{IsOf, Stands, StandsBy}
use Rattle.task_run.specs.declared.machine.Machine.{Machine}
use Rattle.task_plan.proofs.StepsLemmas.{through}
use Rattle.task_plan.specs.Left.{Same, WalkLeft}
use Rattle.program_order.specs.WrittenOrder.{SpellsAll, StepsOfBlock, at_first}
use Rattle.task_run.specs.Agrees.{Agrees, Begins, IsIn, in_part}
use Rattle.task_run.specs.Leads.{IsStuck, Leads, WaitsTooLong}
use Rattle.program_order.specs.Waits.{IsTooMuch, OnlyStep, WithinTurns, failed_tries}
use Rattle.task_run.specs.Says.{IsStopped, Says, StageSays}
use Rattle.setup_access.specs.Waits.{IsStuckBy}
use Rattle.task_run.specs.Part.{Part, PartLeft, closes, locks, makes, opens, over, stops, unlocks}
use Rattle.task_run.specs.declared.run.TaskRun.{TaskRun}
use Rattle.task_run.specs.declared.stage.TaskStage.{TaskStage}
use Rattle.task_run.specs.declared.stage.TaskStage.TheVariants as stages
use Rattle.program_order.specs.Standing.{Setting, Standing, checks_of, is_lock, lock_number}

-- an access that begins leaves the registers as they are, and how many calls had nothing to end
pub part_registers : (part : Part) (before : Standing) → (in_part part before).progress.registers ≡ before.progress.registers
part_registers (makes a operation follow) before = refl
part_registers (opens a) before = refl
part_registers over before = refl
part_registers (stops due) before = refl
part_registers closes before = refl
part_registers (locks variable) before = refl
part_registers (unlocks variable) before = refl

pub part_unbalanced : (part : Part) (before : Standing) → (in_part part before).unbalanced ≡ before.unbalanced
part_unbalanced (makes a operation follow) before = refl
part_unbalanced (opens a) before = refl
part_unbalanced over before = refl
part_unbalanced (stops due) before = refl
part_unbalanced closes before = refl
part_unbalanced (locks variable) before = refl
part_unbalanced (unlocks variable) before = refl

-- what goes on with a step goes on with it before more records too
further : (task : ℕ) (step : Step) (records more : List Record) → checks.GoOn task step records → operations.GoesOn task step (records ++ more)
further task step [] more h = absurd h
further task step (first ∷ later) more h = h

same_goes : (task : ℕ) (step : Step) (records : List Record) → checks.GoOn task step records → operations.GoesOn task step records
same_goes task step [] h = absurd h
same_goes task step (first ∷ later) h = h

further_on : (task : ℕ) (step : Step) (records more : List Record) → operations.GoesOn task step records → operations.GoesOn task step (records ++ more)
further_on task step [] more h = absurd h
further_on task step (first ∷ later) more h = h

-- The records of a check are none of it yet, and whatever completes them goes on with a step: so does whatever begins
-- with the check.
front_goes : (task : ℕ) (step : Step) (Begins : List Record → Passes → List Record → Type 0) → FramedChecks Begins → (mine later : List Record) (passes : Passes)
    (rest : List Record) → NoneWhole Begins mine → ((more : List Record) (all : Passes) → Begins (mine ++ more) all [] → checks.GoOn task step more)
    → Begins (mine ++ later) passes rest → operations.GoesOn task step later
front_goes task step Begins framed mine later passes rest none only h =
    let own = (framed (mine ++ later) passes rest).0 h in
    elim (split mine later own.0 rest own.3) [
      | inl less ↦ absurd (none own.0 less.0 own.1 less.1 own.2)
      | inr more ↦
          subst (λ (l : List Record). operations.GoesOn task step l) (sym more.2)
          (further task step more.0 rest (only more.0 own.1 (subst (λ (l : List Record). Begins l own.1 []) more.1 own.2)))
    ]

some_left : (more : List Record) (last : Record) → [] ≡ more ++ last ∷ [] → ⊥
some_left [] last is = cc
some_left (first ∷ more) last is = absurd (let no : [] ≡ first ∷ (more ++ last ∷ []) = is in cc)

-- while the lock isn't taken no beginning of the records has taken it
none_taken : (task lock : ℕ) (mine : List Record) (wait : LockWait) → LockLeads task lock mine wait → wait.is_taken ≡ false → (part more : List Record)
    → mine ≡ part ++ more → ¬ TakesLock task lock part []
none_taken task lock mine wait leads going part more is taken =
    let free : List Record = made task (LockTry lock task) (answers.Flag true) ∷ [] in
    let left : LockLeft task lock wait.is_taken free = subst (λ (b : Bool). LockLeft task lock b free) (sym going) (refl, refl, refl) in
    let all : TakesLock task lock (mine ++ free) [] = (leads.left free).1 left in
    let joined : mine ++ free ≡ part ++ (more ++ free) = ap (λ (l : List Record). l ++ free) is ∙ append_assoc part more free in
    some_left more (made task (LockTry lock task) (answers.Flag true)) (lock_only task lock part (more ++ free) [] taken (subst (λ (l : List Record). TakesLock task lock l []) joined all))

gives_back : (task lock : ℕ) (records rest : List Record) → MakesDone task (LockStore lock) (λ more. rest ≡ more) records
    → operations.GoesOn task (LockStore lock) records
gives_back task lock [] rest h = absurd h
gives_back task lock (first ∷ later) rest h = (h.0, h.1, h.2.0)

module _ (s : Setting) (registers : ℕ) (body : Block) (records : List Record) (run : TaskRun) (leads : Leads s registers body records run) where
  -- the step of an access under way
  pub making_only : (own : AccessRun) (kept : Then) → run.stage ≡ stages.Making own kept → (step : Step)
      → ((scopes : List Begun) (begun : Begun) (asked : ℕ) (operation : Option Operation) (so_far : List Record)
      → AccessLeads (checks_of s) scopes begun asked operation so_far own run.machine.checker
      → AccessOnlyStep (checks_of s) scopes begun asked operation so_far step)
      → OnlyStep s registers body records step
  making_only own kept is step only later whole =
      let part = in_making s (leads.now []) leads.mine run.machine run.stage leads.part (leads.agrees []).is_in own kept is in
      let agrees = agrees_in s registers body records run leads (makes part.0 part.1 (follow_of kept)) part.2 (leads.mine ++ later) in
      let before = leads.now (leads.mine ++ later) in
      let is_in = agrees.is_in in
      let both : stages.Making is_in.0 is_in.1 ≡ stages.Making own kept = sym is_in.3 ∙ is in
      let same : is_in.0 ≡ own = cc in
      let left : PartLeft s (makes part.0 part.1 (follow_of kept)) run.machine.walk before (leads.mine ++ later) whole.end [] =
      subst (λ (p : Part). PartLeft s p run.machine.walk before (leads.mine ++ later) whole.end []) part.2 ((leads.left later whole.end).0 whole.steps) in
      let made = left.3 in
      let begun_same = begins_one s before part.0 made.begun is_in.2 made.begins is_in.6 in
      let all : MakesAccess (checks_of s) before.scopes is_in.2 before.asked part.1 (leads.mine ++ later) made.passes left.0 left.2 = record {
        checked = made.checked;
        done = made.done;
        check = subst (λ (b : Begun). Check (checks_of s) before.scopes b before.asked (leads.mine ++ later) made.passes made.checked) begun_same made.check;
        operates = subst (λ (x : access.Access). Operates (checks_of s) x part.1 made.checked left.0 made.done) (sym is_in.6.access) made.operates;
        ends = made.ends;
      } in
      same_goes s.text.task step later
      (only before.scopes is_in.2 before.asked part.1 leads.mine
      (subst (λ (r : AccessRun). AccessLeads (checks_of s) before.scopes is_in.2 before.asked part.1 leads.mine r run.machine.checker) same is_in.7)
      later made.passes left.0 left.2 all)

  -- of the check of a scoped assertion
  pub opening_only : run.stage ≡ stages.Opening → (step : Step)
      → ((scopes : List Begun) (doing : Doing) (asked : ℕ) (so_far : List Record) → checks.Leads (checks_of s) scopes doing asked so_far run.machine.checker
      → checks.OnlyStep (checks_of s) scopes doing asked so_far step)
      → OnlyStep s registers body records step
  opening_only is step only later whole =
      let part = in_opening s (leads.now []) leads.mine run.machine run.stage leads.part (leads.agrees []).is_in is in
      let agrees = agrees_in s registers body records run leads (opens part.0) part.1 (leads.mine ++ later) in
      let before = leads.now (leads.mine ++ later) in
      let is_in = agrees.is_in in
      let left : PartLeft s (opens part.0) run.machine.walk before (leads.mine ++ later) whole.end [] =
      subst (λ (p : Part). PartLeft s p run.machine.walk before (leads.mine ++ later) whole.end []) part.1 ((leads.left later whole.end).0 whole.steps) in
      let begun_same = begins_one s before part.0 left.0 is_in.0 left.3.begins is_in.2 in
      front_goes s.text.task step (Check (checks_of s) before.scopes is_in.0 before.asked)
      (framed_checks (Check (checks_of s) before.scopes is_in.0 before.asked) (check (checks_of s) before.scopes is_in.0 before.asked))
      leads.mine later left.3.passes left.2 is_in.5 (only before.scopes (Checks is_in.0) before.asked leads.mine is_in.4)
      (subst (λ (b : Begun). Check (checks_of s) before.scopes b before.asked (leads.mine ++ later) left.3.passes left.2) begun_same left.3.check)

  -- of its last check
  pub closing_only : run.stage ≡ stages.Closing → (step : Step)
      → ((scopes : List Begun) (doing : Doing) (asked : ℕ) (so_far : List Record) → checks.Leads (checks_of s) scopes doing asked so_far run.machine.checker
      → checks.OnlyStep (checks_of s) scopes doing asked so_far step)
      → OnlyStep s registers body records step
  closing_only is step only later whole =
      let part = in_closing s (leads.now []) leads.mine run.machine run.stage leads.part (leads.agrees []).is_in is in
      let agrees = agrees_in s registers body records run leads closes part (leads.mine ++ later) in
      let before = leads.now (leads.mine ++ later) in
      let is_in = agrees.is_in in
      let left : PartLeft s closes run.machine.walk before (leads.mine ++ later) whole.end [] =
      subst (λ (p : Part). PartLeft s p run.machine.walk before (leads.mine ++ later) whole.end []) part ((leads.left later whole.end).0 whole.steps) in
      let closed = left.2 in
      let made = closed.3 in
      let ends = same_ends closed.0 is_in.0 closed.1 is_in.1 (sym closed.2 ∙ is_in.4) in
      let says : made.silenced ≡ is_in.2 = one_answer made.silenced is_in.2 _ made.is_silenced is_in.5 in
      front_goes s.text.task step (Close (checks_of s) is_in.1 is_in.2 before.asked)
      (framed_checks (Close (checks_of s) is_in.1 is_in.2 before.asked) (close (checks_of s) is_in.1 is_in.2 before.asked))
      leads.mine later made.passes left.1 is_in.7 (only is_in.0 (Closes is_in.1 is_in.2) before.asked leads.mine is_in.6)
      (subst (λ (b : Bool). Close (checks_of s) is_in.1 b before.asked (leads.mine ++ later) made.passes left.1) says
      (subst (λ (b : Begun). Close (checks_of s) b made.silenced before.asked (leads.mine ++ later) made.passes left.1) ends.1 made.close))

  -- of the step that gives a lock back
  pub unlocking_only : (variable : ℕ) → run.stage ≡ stages.Unlocking variable
      → OnlyStep s registers body records (LockStore (count_by (λ v. is_lock v.contents) (take variable run.machine.variables.now)))
  unlocking_only variable is later whole =
      let part = in_unlocking s (leads.now []) leads.mine run.machine run.stage leads.part (leads.agrees []).is_in variable is in
      let agrees = agrees_in s registers body records run leads (unlocks variable) part (leads.mine ++ later) in
      let before = leads.now (leads.mine ++ later) in
      let left : PartLeft s (unlocks variable) run.machine.walk before (leads.mine ++ later) whole.end [] =
      subst (λ (p : Part). PartLeft s p run.machine.walk before (leads.mine ++ later) whole.end []) part ((leads.left later whole.end).0 whole.steps) in
      let Goal : List Variable → Type 0 = λ v. operations.GoesOn s.text.task (LockStore (count_by (λ v. is_lock v.contents) (take variable v))) later in
      subst Goal (sym agrees.of.variables)
      (gives_back s.text.task (lock_number s variable) later left.0 (subst (λ (l : List Record). MakesDone s.text.task (LockStore (lock_number s variable)) (λ more. left.0 ≡ more) (l ++ later)) agrees.is_in.1 left.1))

  -- of the tries of a lock
  pub locking_only : (wait : LockWait) (variable : ℕ) → run.stage ≡ stages.Locking wait variable → wait.is_taken ≡ false → (step : Step)
      → ((lock : ℕ) (so_far : List Record) → LockLeads s.text.task lock so_far wait → OnlyLockStep s.text.task lock so_far step)
      → OnlyStep s registers body records step
  locking_only wait variable is going step only later whole =
      let part = in_locking s (leads.now []) leads.mine run.machine run.stage leads.part (leads.agrees []).is_in wait variable is in
      let agrees = agrees_in s registers body records run leads (locks variable) part (leads.mine ++ later) in
      let before = leads.now (leads.mine ++ later) in
      let is_in = agrees.is_in in
      let both : stages.Locking is_in.0 variable ≡ stages.Locking wait variable = sym is_in.1 ∙ is in
      let same : is_in.0 ≡ wait = cc in
      let lock = lock_number s variable in
      let waits : LockLeads s.text.task lock leads.mine wait = subst (λ (w : LockWait). LockLeads s.text.task lock leads.mine w) same is_in.3 in
      let left : PartLeft s (locks variable) run.machine.walk before (leads.mine ++ later) whole.end [] =
      subst (λ (p : Part). PartLeft s p run.machine.walk before (leads.mine ++ later) whole.end []) part ((leads.left later whole.end).0 whole.steps) in
      let own = (framed (λ r l. TakesLock s.text.task lock r l) (lock_front s.text.task lock) (leads.mine ++ later) left.0).0 left.2 in
      elim (split leads.mine later own.0 left.0 own.2) [
        | inl less ↦ absurd (none_taken s.text.task lock leads.mine wait waits going own.0 less.0 less.1 own.1)
        | inr more ↦
            subst (λ (l : List Record). operations.GoesOn s.text.task step l) (sym more.2)
            (further_on s.text.task step more.0 left.0
            (only lock leads.mine waits more.0 (subst (λ (l : List Record). TakesLock s.text.task lock l []) more.1 own.1)))
      ]

-- what is so of the step that there is, if there is one
pub step_only : (o : Option Step) (P : Step → Type 0) → ((step : Step) → o ≡ Some step → P step) → IfSome o P
step_only None P h = tt
step_only (Some step) P h = h step refl

pub some_says : (o : Option Step) (P : Step → Type 0) (step : Step) → o ≡ Some step → IfSome o P → P step
some_says o P step is h = subst (λ (x : Option Step). IfSome x P) is h

-- a machine that has done nothing stands at the beginning of the text
pub first_stands : (s : Setting) (registers : ℕ) (machine : Machine) → IsOf s machine → Keeps (length s.text.variables) (at_first registers) machine.progress
    → context_of machine.checker ≡ idle → machine.in_force ≡ 0 → checks.Rests (checks_of s) [] 0 None machine.checker → Stands s (at_first registers) machine
first_stands s registers machine of keeps context in_force rests = record {
  of = of;
  counts = record {
    keeps = keeps;
    context = subst (λ (c : Context). LeadsTo s.rules.plain_writes_atomic s.text.task [] c) (sym context) (leads-nil s.rules.plain_writes_atomic s.text.task);
    in_force = in_force;
  };
  rests = (None, rests);
}

-- and where the text begins from there, no record has led there yet
pub starts : (s : Setting) (registers : ℕ) (body : Block) (machine : Machine) (new : TaskRun) → Stands s (at_first registers) machine
    → Same (StepsOfBlock s 0 body) (WalkLeft s machine.walk)
    → ((before : List Record → Standing) → StandsBy s before machine → Begins s (WalkLeft s machine.walk) before new.machine new.stage)
    → Leads s registers body [] new
starts s registers body machine new stands same goes =
    let begins = goes (λ later. at_first registers) (λ later. stands) in record {
      part = begins.0;
      earlier = [];
      waits = λ lock task. refl;
      mine = [];
      spelled = refl;
      now = begins.1;
      told = λ later. told_on registers (begins.4 later) (first_told registers later);
      scopes = λ later. scopes_on (begins.4 later) (first_scopes registers);
      accesses = λ later. (accesses_on s [] (begins.4 later) (first_accesses s registers)).0;
      repeats = λ later. (accesses_on s [] (begins.4 later) (first_accesses s registers)).1;
      agrees = begins.2;
      left = λ later end. through (same (at_first registers) later end []) (begins.3 later end);
    }

-- where the records spell the whole text, no step follows
spelled_none : (s : Setting) (registers : ℕ) (body : Block) (records : List Record) (o : Option Step) → IfSome o (OnlyStep s registers body records)
    → SpellsAll s registers body records → IsNone o
spelled_none s registers body records None only all = refl
spelled_none s registers body records (Some step) only all =
    absurd (only [] (subst (λ (r : List Record). SpellsAll s registers body r) (sym (append-nil records)) all))

-- only some parts have a wait
over_waits : (s : Setting) (before then : Standing) (mine : List Record) (machine : Machine) (stage : TaskStage) (part : Part) → IsIn s part before mine machine stage
    → stage ≡ stages.Over → ¬ WaitsTooLong s part then mine
over_waits s before then mine machine stage (makes a operation follow) h is = absurd (let no : stages.Making h.0 h.1 ≡ stages.Over = sym h.3 ∙ is in cc)
over_waits s before then mine machine stage (opens a) h is = absurd (let no : stages.Opening ≡ stages.Over = sym h.1 ∙ is in cc)
over_waits s before then mine machine stage closes h is = absurd (let no : stages.Closing ≡ stages.Over = sym h.3 ∙ is in cc)
over_waits s before then mine machine stage (locks variable) h is = absurd (let no : stages.Locking h.0 variable ≡ stages.Over = sym h.1 ∙ is in cc)
over_waits s before then mine machine stage over h is = λ w. w
over_waits s before then mine machine stage (stops due) h is = λ w. w
over_waits s before then mine machine stage (unlocks variable) h is = λ w. w

stopped_waits : (s : Setting) (before then : Standing) (mine : List Record) (machine : Machine) (stage : TaskStage) (part : Part) → IsIn s part before mine machine stage
    → stage ≡ stages.Stopped → ¬ WaitsTooLong s part then mine
stopped_waits s before then mine machine stage (makes a operation follow) h is = absurd (let no : stages.Making h.0 h.1 ≡ stages.Stopped = sym h.3 ∙ is in cc)
stopped_waits s before then mine machine stage (opens a) h is = absurd (let no : stages.Opening ≡ stages.Stopped = sym h.1 ∙ is in cc)
stopped_waits s before then mine machine stage closes h is = absurd (let no : stages.Closing ≡ stages.Stopped = sym h.3 ∙ is in cc)
stopped_waits s before then mine machine stage (locks variable) h is = absurd (let no : stages.Locking h.0 variable ≡ stages.Stopped = sym h.1 ∙ is in cc)
stopped_waits s before then mine machine stage over h is = λ w. w
stopped_waits s before then mine machine stage (stops due) h is = λ w. w
stopped_waits s before then mine machine stage (unlocks variable) h is = λ w. w

in_over : (s : Setting) (before : Standing) (mine : List Record) (machine : Machine) (stage : TaskStage) (part : Part) → IsIn s part before mine machine stage
    → stage ≡ stages.Over → part ≡ over
in_over s before mine machine stage (makes a operation follow) h is = absurd (let no : stages.Making h.0 h.1 ≡ stages.Over = sym h.3 ∙ is in cc)
in_over s before mine machine stage (opens a) h is = absurd (let no : stages.Opening ≡ stages.Over = sym h.1 ∙ is in cc)
in_over s before mine machine stage closes h is = absurd (let no : stages.Closing ≡ stages.Over = sym h.3 ∙ is in cc)
in_over s before mine machine stage (locks variable) h is = absurd (let no : stages.Locking h.0 variable ≡ stages.Over = sym h.1 ∙ is in cc)
in_over s before mine machine stage over h is = refl
in_over s before mine machine stage (stops due) h is = absurd (let no : stages.Stopped ≡ stages.Over = sym h.0 ∙ is in cc)
in_over s before mine machine stage (unlocks variable) h is = absurd (let no : stages.Unlocking variable ≡ stages.Over = sym h.0 ∙ is in cc)

-- whether the task is stuck, by its part
module _ (s : Setting) (registers : ℕ) (body : Block) (records : List Record) (run : TaskRun) (leads : Leads s registers body records run) where
  abbrev here : Standing
  here = leads.now leads.mine

  abbrev IsOverNow : Type 0
  IsOverNow = SpellsAll s registers body records ⊎ (IsStuck leads ⊎ IsStopped run)

  -- no step is left exactly where the text is over or the part is stuck
  pub none_left : (o : Option Step) → IfSome o (OnlyStep s registers body records) → (IsNone o → IsStuck leads) → (IsStuck leads → IsNone o) → ¬ IsStopped run
      → IsNone o ↔ IsOverNow
  none_left o only to from going = (
    λ h. inr (inl (to h)),
    λ h. elim h [
      | inl all ↦ spelled_none s registers body records o only all
      | inr rest ↦ elim rest [
        | inl stuck ↦ from stuck
        | inr stopped ↦ absurd (going stopped)
      ]
    ],
  )

  pub over_stuck : run.stage ≡ stages.Over → ¬ IsStuck leads
  over_stuck is = over_waits s here here leads.mine run.machine run.stage leads.part (leads.agrees leads.mine).is_in is

  pub stopped_stuck : run.stage ≡ stages.Stopped → ¬ IsStuck leads
  stopped_stuck is = stopped_waits s here here leads.mine run.machine run.stage leads.part (leads.agrees leads.mine).is_in is

  pub unlocking_stuck : (variable : ℕ) → run.stage ≡ stages.Unlocking variable → ¬ IsStuck leads
  unlocking_stuck variable is stuck =
      let part = in_unlocking s here leads.mine run.machine run.stage leads.part (leads.agrees leads.mine).is_in variable is in
      let none : WaitsTooLong s (unlocks variable) here leads.mine = subst (λ (p : Part). WaitsTooLong s p here leads.mine) part stuck in none

  -- the text is over
  pub over_spelled : run.stage ≡ stages.Over → SpellsAll s registers body records
  over_spelled is =
      let part = in_over s here leads.mine run.machine run.stage leads.part (leads.agrees leads.mine).is_in is in
      let agrees = agrees_in s registers body records run leads over part leads.mine in
      let end = leads.now (leads.mine ++ []) in
      let nothing : PartLeft s over run.machine.walk end (leads.mine ++ []) end [] = (refl, sym (append-nil leads.mine ∙ agrees.is_in.1)) in record {
        end = end;
        steps = subst (λ (r : List Record). StepsOfBlock s 0 body (at_first registers) r end []) (append-nil records)
            ((leads.left [] end).1 (subst (λ (p : Part). PartLeft s p run.machine.walk end (leads.mine ++ []) end []) (sym part) nothing));
      }

  module _ (own : AccessRun) (kept : Then) (is : run.stage ≡ stages.Making own kept) where
    pub making_part : (a : access.Access) × (operation : Option Operation) × (leads.part ≡ makes a operation (follow_of kept))
    making_part = in_making s here leads.mine run.machine run.stage leads.part (leads.agrees leads.mine).is_in own kept is

    pub making_agrees : Agrees s (makes making_part.0 making_part.1 (follow_of kept)) here leads.mine run.machine run.stage
    making_agrees = agrees_in s registers body records run leads (makes making_part.0 making_part.1 (follow_of kept)) making_part.2 leads.mine

    pub making_leads : AccessLeads (checks_of s) here.scopes making_agrees.is_in.2 here.asked making_part.1 leads.mine own run.machine.checker
    making_leads =
        let both : stages.Making making_agrees.is_in.0 making_agrees.is_in.1 ≡ stages.Making own kept = sym making_agrees.is_in.3 ∙ is in
        let same : making_agrees.is_in.0 ≡ own = cc in
        subst (λ (r : AccessRun). AccessLeads (checks_of s) here.scopes making_agrees.is_in.2 here.asked making_part.1 leads.mine r run.machine.checker) same making_agrees.is_in.7

    pub making_is : AccessIsStuck (checks_of s) here.scopes making_agrees.is_in.2 here.asked making_part.1 leads.mine ↔ IsStuck leads
    making_is = (
      λ stuck. subst (λ (p : Part). WaitsTooLong s p here leads.mine) (sym making_part.2) (making_agrees.is_in.2, making_agrees.is_in.6, stuck),
      λ stuck. let at : WaitsTooLong s (makes making_part.0 making_part.1 (follow_of kept)) here leads.mine =
          subst (λ (p : Part). WaitsTooLong s p here leads.mine) making_part.2 stuck in
          subst (λ (b : Begun). AccessIsStuck (checks_of s) here.scopes b here.asked making_part.1 leads.mine)
          (begins_one s here making_part.0 at.0 making_agrees.is_in.2 at.1 making_agrees.is_in.6) at.2,
    )

    pub making_stuck : (Says : Type 0) → ((scopes : List Begun) (begun : Begun) (asked : ℕ) (operation : Option Operation) (so_far : List Record)
        → AccessLeads (checks_of s) scopes begun asked operation so_far own run.machine.checker
        → Says ↔ AccessIsStuck (checks_of s) scopes begun asked operation so_far) → Says ↔ IsStuck leads
    making_stuck Says says =
        let all = says here.scopes making_agrees.is_in.2 here.asked making_part.1 leads.mine making_leads in
        (λ h. making_is.0 (all.0 h), λ stuck. all.1 (making_is.1 stuck))

    pub making_none : (Says : Type 0) → ((scopes : List Begun) (begun : Begun) (asked : ℕ) (operation : Option Operation) (so_far : List Record)
        → AccessLeads (checks_of s) scopes begun asked operation so_far own run.machine.checker
        → Says ↔ AccessIsOver (checks_of s) scopes begun asked operation so_far) → Says ↔ IsStuck leads
    making_none Says says =
        let all = says here.scopes making_agrees.is_in.2 here.asked making_part.1 leads.mine making_leads in (
          λ h. elim (all.0 h) [
            | inl done ↦ absurd (making_agrees.is_in.8 done)
            | inr stuck ↦ making_is.0 stuck
          ],
          λ stuck. all.1 (inr (making_is.1 stuck)),
        )

    pub making_tried : (before : List Record) (step : Step) → AccessSays own run.machine.checker step → IsTooMuch s.rules.turns step (onto leads.mine before)
        → IsStuck leads
    making_tried before step says tried = making_is.0 (access_tried (checks_of s) here.scopes making_agrees.is_in.2 here.asked making_part.1 leads.mine own
        run.machine.checker making_leads making_agrees.is_in.8 before step says tried)

  module _ (is : run.stage ≡ stages.Opening) where
    pub opening_part : (a : access.Access) × (leads.part ≡ opens a)
    opening_part = in_opening s here leads.mine run.machine run.stage leads.part (leads.agrees leads.mine).is_in is

    pub opening_agrees : Agrees s (opens opening_part.0) here leads.mine run.machine run.stage
    opening_agrees = agrees_in s registers body records run leads (opens opening_part.0) opening_part.1 leads.mine

    pub opening_is : IsStuckBy s.rules.turns leads.mine ↔ IsStuck leads
    opening_is = (
      λ stuck. subst (λ (p : Part). WaitsTooLong s p here leads.mine) (sym opening_part.1) stuck,
      λ stuck. subst (λ (p : Part). WaitsTooLong s p here leads.mine) opening_part.1 stuck,
    )

    pub opening_stuck : (Says : Type 0) → ((scopes : List Begun) (doing : Doing) (asked : ℕ) (so_far : List Record)
        → checks.Leads (checks_of s) scopes doing asked so_far run.machine.checker → Says ↔ IsStuckBy s.rules.turns so_far) → Says ↔ IsStuck leads
    opening_stuck Says says =
        let all = says here.scopes (Checks opening_agrees.is_in.0) here.asked leads.mine opening_agrees.is_in.4 in
        (λ h. opening_is.0 (all.0 h), λ stuck. all.1 (opening_is.1 stuck))

    pub opening_none : (Says : Type 0) → ((scopes : List Begun) (doing : Doing) (asked : ℕ) (so_far : List Record)
        → checks.Leads (checks_of s) scopes doing asked so_far run.machine.checker → Says ↔ checks.IsCheckOver (checks_of s) scopes doing asked so_far)
        → Says ↔ IsStuck leads
    opening_none Says says =
        let all = says here.scopes (Checks opening_agrees.is_in.0) here.asked leads.mine opening_agrees.is_in.4 in (
          λ h. elim (all.0 h) [
            | inl done ↦ absurd (opening_agrees.is_in.5 leads.mine [] done.0 (sym (append-nil leads.mine)) done.1)
            | inr stuck ↦ opening_is.0 stuck
          ],
          λ stuck. all.1 (inr (opening_is.1 stuck)),
        )

    pub opening_tried : (before : List Record) (step : Step) → checks.Says run.machine.checker step → IsTooMuch s.rules.turns step (onto leads.mine before)
        → IsStuck leads
    opening_tried before step says tried = opening_is.0 (check_tried (checks_of s) here.scopes (Checks opening_agrees.is_in.0) here.asked leads.mine
        run.machine.checker opening_agrees.is_in.4 s.rules.turns before step says tried)

  module _ (is : run.stage ≡ stages.Closing) where
    pub closing_part : leads.part ≡ closes
    closing_part = in_closing s here leads.mine run.machine run.stage leads.part (leads.agrees leads.mine).is_in is

    pub closing_agrees : Agrees s closes here leads.mine run.machine run.stage
    closing_agrees = agrees_in s registers body records run leads closes closing_part leads.mine

    pub closing_is : IsStuckBy s.rules.turns leads.mine ↔ IsStuck leads
    closing_is = (
      λ stuck. subst (λ (p : Part). WaitsTooLong s p here leads.mine) (sym closing_part) stuck,
      λ stuck. subst (λ (p : Part). WaitsTooLong s p here leads.mine) closing_part stuck,
    )

    pub closing_stuck : (Says : Type 0) → ((scopes : List Begun) (doing : Doing) (asked : ℕ) (so_far : List Record)
        → checks.Leads (checks_of s) scopes doing asked so_far run.machine.checker → Says ↔ IsStuckBy s.rules.turns so_far) → Says ↔ IsStuck leads
    closing_stuck Says says =
        let all = says closing_agrees.is_in.0 (Closes closing_agrees.is_in.1 closing_agrees.is_in.2) here.asked leads.mine closing_agrees.is_in.6 in
        (λ h. closing_is.0 (all.0 h), λ stuck. all.1 (closing_is.1 stuck))

    pub closing_none : (Says : Type 0) → ((scopes : List Begun) (doing : Doing) (asked : ℕ) (so_far : List Record)
        → checks.Leads (checks_of s) scopes doing asked so_far run.machine.checker → Says ↔ checks.IsCheckOver (checks_of s) scopes doing asked so_far)
        → Says ↔ IsStuck leads
    closing_none Says says =
        let all = says closing_agrees.is_in.0 (Closes closing_agrees.is_in.1 closing_agrees.is_in.2) here.asked leads.mine closing_agrees.is_in.6 in (
          λ h. elim (all.0 h) [
            | inl done ↦ absurd (closing_agrees.is_in.7 leads.mine [] done.0 (sym (append-nil leads.mine)) done.1)
            | inr stuck ↦ closing_is.0 stuck
          ],
          λ stuck. all.1 (inr (closing_is.1 stuck)),
        )

    pub closing_tried : (before : List Record) (step : Step) → checks.Says run.machine.checker step → IsTooMuch s.rules.turns step (onto leads.mine before)
        → IsStuck leads
    closing_tried before step says tried = closing_is.0 (check_tried (checks_of s) closing_agrees.is_in.0
        (Closes closing_agrees.is_in.1 closing_agrees.is_in.2) here.asked leads.mine run.machine.checker closing_agrees.is_in.6 s.rules.turns before step says tried)

  module _ (wait : LockWait) (variable : ℕ) (is : run.stage ≡ stages.Locking wait variable) where
    pub locking_part : leads.part ≡ locks variable
    locking_part = in_locking s here leads.mine run.machine run.stage leads.part (leads.agrees leads.mine).is_in wait variable is

    pub locking_agrees : Agrees s (locks variable) here leads.mine run.machine run.stage
    locking_agrees = agrees_in s registers body records run leads (locks variable) locking_part leads.mine

    pub locking_leads : LockLeads s.text.task (lock_number s variable) leads.mine wait
    locking_leads =
        let both : stages.Locking locking_agrees.is_in.0 variable ≡ stages.Locking wait variable = sym locking_agrees.is_in.1 ∙ is in
        let same : locking_agrees.is_in.0 ≡ wait = cc in
        subst (λ (w : LockWait). LockLeads s.text.task (lock_number s variable) leads.mine w) same locking_agrees.is_in.3

    pub locking_is : IsStuckAtLock run.machine.rules.turns s.text.task (lock_number s variable) leads.mine ↔ IsStuck leads
    locking_is = (
      λ stuck. subst (λ (p : Part). WaitsTooLong s p here leads.mine) (sym locking_part)
          (subst (λ (n : ℕ). IsStuckAtLock n s.text.task (lock_number s variable) leads.mine) (ap (λ (r : Rules). r.turns) locking_agrees.of.rules) stuck),
      λ stuck. subst (λ (n : ℕ). IsStuckAtLock n s.text.task (lock_number s variable) leads.mine) (sym (ap (λ (r : Rules). r.turns) locking_agrees.of.rules))
          (subst (λ (p : Part). WaitsTooLong s p here leads.mine) locking_part stuck),
    )

    pub locking_stuck : (Says : Type 0)
        → ((lock : ℕ) (so_far : List Record) → LockLeads s.text.task lock so_far wait → Says ↔ IsStuckAtLock run.machine.rules.turns s.text.task lock so_far) → Says ↔ IsStuck leads
    locking_stuck Says says =
        let all = says (lock_number s variable) leads.mine locking_leads in
        (λ h. locking_is.0 (all.0 h), λ stuck. all.1 (locking_is.1 stuck))

    pub locking_none : (Says : Type 0)
        → ((lock : ℕ) (so_far : List Record) → LockLeads s.text.task lock so_far wait → Says ↔ LockIsOver run.machine.rules.turns s.text.task lock so_far) → Says ↔ IsStuck leads
    locking_none Says says =
        let all = says (lock_number s variable) leads.mine locking_leads in (
          λ h. elim (all.0 h) [
            | inl taken ↦ absurd (locking_agrees.is_in.5 taken)
            | inr stuck ↦ locking_is.0 stuck
          ],
          λ stuck. all.1 (inr (locking_is.1 stuck)),
        )

    pub locking_tried : (before : List Record) → ((lock task : ℕ) → failed_tries (LockTry lock task) before ≡ 0) → (step : Step) → LockSays wait step
        → IsTooMuch s.rules.turns step (onto leads.mine before) → IsStuck leads
    locking_tried before none step says tried = subst (λ (p : Part). WaitsTooLong s p here leads.mine) (sym locking_part)
        (lock_tried s.rules.turns s.text.task (lock_number s variable) leads.mine before wait none locking_agrees.is_in.5 step says tried)

  -- the step that a machine is before is a try too much only where its part is stuck
  pub too_much_stuck : (step : Step) → Says run step → IsTooMuch s.rules.turns step (reverse records) → IsStuck leads
  too_much_stuck step says tried = by_stage run.stage refl says
    where
      before : List Record
      before = reverse leads.earlier

      too_much : IsTooMuch s.rules.turns step (onto leads.mine before)
      too_much = subst (λ (r : List Record). IsTooMuch s.rules.turns step r) (ap (λ (r : List Record). reverse r) leads.spelled ∙ all_onto leads.earlier leads.mine) tried

      by_stage : (stage : TaskStage) → run.stage ≡ stage → StageSays stage run step → IsStuck leads
      by_stage stages.Over is h = absurd h
      by_stage stages.Stopped is h = absurd h
      by_stage (stages.Making own kept) is h = making_tried own kept is before step h too_much
      by_stage stages.Opening is h = opening_tried is before step h too_much
      by_stage stages.Closing is h = closing_tried is before step h too_much
      by_stage (stages.Locking wait variable) is h = locking_tried wait variable is before leads.waits step h too_much
      by_stage (stages.Unlocking variable) is h =
          let none : IsTooMuch s.rules.turns (LockStore (count_by (λ v. is_lock v.contents) (take variable run.machine.variables.now))) (onto leads.mine before) =
          subst (λ (x : Step). IsTooMuch s.rules.turns x (onto leads.mine before)) h too_much in absurd none.0

  -- so with its record the records are within the turns
  pub within_on : (o : Option Step) → IfSome o (λ step. Says run step) → (IsStuck leads → IsNone o) → WithinTurns s.rules.turns (reverse records)
      → IfSome o (λ step. (answer : Answer) → WithinTurns s.rules.turns (reverse (records ++ made s.text.task step answer ∷ [])))
  within_on None says none within = tt
  within_on (Some step) says none within = λ answer.
      subst (λ (r : List Record). WithinTurns s.rules.turns r) (sym (reverse-append records (made s.text.task step answer ∷ [])))
      (within, λ tried. let no : true ≡ false = none (too_much_stuck step says tried) in cc)
