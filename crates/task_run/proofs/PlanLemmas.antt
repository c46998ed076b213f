-- What is due at a statement is the access that is planned for it.
use Rattle.std.proofs.Common.{◌≡◌, ◌↔◌, ◌==◌, ℕ, Bool, true, false, IsTrue, List, [], ◌∷◌, MatchBool, None, Option, Some, if◌then◌else◌, refl, subst, sym}
use Rattle.litmus_semantics.specs.Assignments.{compound_kind, write_kind}
use Rattle.litmus_semantics.specs.Calls.{check_kind, checked_bytes}
use Rattle.litmus_semantics.specs.Loads.{exchange_kind, load_in}
use Rattle.access_types.specs.declared.history.Happening.TheVariants as happenings
use Rattle.access_types.specs.declared.history.Mark.{Mark}
use Rattle.litmus_semantics.specs.Task.{access_now, bytes_in}
use Rattle.litmus_semantics.specs.Expressions.{pure_value}
use Rattle.litmus_semantics.specs.Meaning.{Chooses}
use Rattle.litmus_syntax.specs.Tree.{Assignment, Fetch, Load, Loading, Pure}
use Rattle.litmus_syntax.specs.Tree as tree
use Rattle.litmus_syntax.specs.declared.statement.Barrier.{Barrier}
use Rattle.litmus_syntax.specs.declared.statement.Call.{Call}
use Rattle.litmus_syntax.specs.declared.statement.Call.TheVariants as calls
use Rattle.slot_table.specs.declared.records.Record.{Record}
use Rattle.task_plan.specs.Follow.{Taker, condition, goes_on, nobody, so_often, to_register}
use Rattle.task_plan.specs.Plans.{assignment_plan, call_plan, check_plan, load_plan, planned_access}
use Rattle.task_plan.specs.Views.{Plan}
use Rattle.task_run.proofs.EndLemmas.{one_answer}
use Rattle.task_run.proofs.FollowLemmas.{begins_as, ends_standing}
use Rattle.task_run.proofs.PartLemmas.{assigned_left, bits_left, check_left, condition_left, load_left, only_left, register_left}
use Rattle.task_run.proofs.ToldLemmas.{counts_more}
use Rattle.access_run.specs.memory_operation.Operations.{Reads}
use Rattle.task_run.specs.Agrees.{IsFit}
use Rattle.task_run.specs.Due.{ConditionDue, PartBegins, StatementDue}
use Rattle.task_run.specs.Part.{disabled}
use Rattle.task_run.specs.Plans.{LoadLeft, PlanLeft}
use Rattle.task_run.specs.Stands.{Stands}
use Rattle.task_run.specs.Position as computes
use Rattle.task_run.specs.declared.machine.Machine.{Machine}
use Rattle.task_run.specs.declared.stage.TaskStage.{TaskStage}
use Rattle.task_plan.specs.Left.{BodyLeft, WalkLeft}
use Rattle.task_plan.specs.declared.walk.Walk.{Walk}
use Rattle.program_order.specs.Standing.{EndsNothing, Setting, Standing, counting, doing}
use Rattle.program_order.specs.WrittenOrder.{ChecksAt, Only, Steps, StepsOfCall, fetch_operation}

-- a load reads
fetch_fits : (registers : List ℕ) (fetch : Fetch) → Reads (Some (fetch_operation registers fetch))
fetch_fits registers (tree.read form variable) = tt
fetch_fits registers (tree.exchange variable value) = tt
fetch_fits registers (tree.compare_exchange variable expected replacement) = tt

pub load_fits : (s : Setting) (registers : List ℕ) (load : Load) (taker : Taker) →
    IsFit (load_plan s.text registers load taker).follow (load_plan s.text registers load taker).operation
load_fits s registers load taker = fetch_fits registers load.fetch

no_plan : {P : Type 0} (plan : Plan) → None ≡ Some plan → P
no_plan plan is = absurd (let no : None ≡ Some plan = is in cc)

one_plan : (a b : Plan) → Some a ≡ Some b → a ≡ b
one_plan a b is = cc

fits_as : (a b : Plan) → Some a ≡ Some b → IsFit a.follow a.operation → IsFit b.follow b.operation
fits_as a b is fit = subst (λ (p : Plan). IsFit p.follow p.operation) (one_plan a b is) fit

pub assignment_fits : (s : Setting) (registers : List ℕ) (assignment : Assignment) (data_race : Bool) (plan : Plan)
    → assignment_plan s.text registers assignment data_race ≡ Some plan → IsFit plan.follow plan.operation
assignment_fits s registers (tree.to_register r (tree.pure v)) data_race plan is = no_plan plan is
assignment_fits s registers (tree.to_register r (tree.loading v)) data_race plan is = fits_as _ plan is (fetch_fits registers _)
assignment_fits s registers (tree.write form x v) data_race plan is = fits_as _ plan is tt
assignment_fits s registers (tree.add x v) data_race plan is = fits_as _ plan is tt
assignment_fits s registers (tree.increment x) data_race plan is = fits_as _ plan is tt
assignment_fits s registers (tree.atomic_add v x) data_race plan is = fits_as _ plan is tt
assignment_fits s registers (tree.atomic_increment x) data_race plan is = fits_as _ plan is tt
assignment_fits s registers (tree.atomic_decrement x) data_race plan is = fits_as _ plan is tt

check_fits : (b : Bool) (a plan : Plan) → (if b then None else Some a) ≡ Some plan → IsFit a.follow a.operation → IsFit plan.follow plan.operation
check_fits true a plan is fit = no_plan plan is
check_fits false a plan is fit = fits_as a plan is fit

pub call_fits : (s : Setting) (call : Call) (plan : Plan) → call_plan s.text call ≡ Some plan → IsFit plan.follow plan.operation
call_fits s (calls.Barrier b) plan is = no_plan plan is
call_fits s (calls.Lock l) plan is = no_plan plan is
call_fits s (calls.Unlock l) plan is = no_plan plan is
call_fits s (calls.AssertWriter x scoped) plan is = fits_as _ plan is tt
call_fits s (calls.AssertAccess x scoped) plan is = fits_as _ plan is tt
call_fits s (calls.AssertBits x mask) plan is = fits_as _ plan is tt
call_fits s (calls.Mark m) plan is = no_plan plan is
call_fits s (calls.Check w x size) plan is = check_fits (size == 0) _ plan is tt

module _ (s : Setting) (walk : Walk) (site : ℕ) (before : Standing) (records : List Record) (after : Standing) (rest : List Record) where
  left_as : (P : Type 0) (a b : Plan) → Some a ≡ Some b → P ↔ PlanLeft s walk site a before records after rest → P ↔ PlanLeft s walk site b before records after rest
  left_as P a b is same = subst (λ (p : Plan). P ↔ PlanLeft s walk site p before records after rest) (one_plan a b is) same

  pub assignment_left : (assignment : Assignment) (data_race : Bool) (plan : Plan) → assignment_plan s.text before.progress.registers assignment data_race ≡ Some plan
      → StatementDue s (tree.assign data_race assignment) site walk before records after rest ↔ PlanLeft s walk site plan before records after rest
  assignment_left (tree.to_register r (tree.pure v)) data_race plan is = no_plan plan is
  assignment_left (tree.to_register r (tree.loading v)) data_race plan is = left_as _ _ plan is (register_left s walk site r v data_race before records after rest)
  assignment_left (tree.write form x v) data_race plan is = left_as _ _ plan is
      (assigned_left s walk data_race (access_now s.text site (disabled (so_often data_race) before records).progress (bytes_in s.text x) (write_kind form) None) _ before records after rest)
  assignment_left (tree.add x v) data_race plan is = left_as _ _ plan is
      (assigned_left s walk data_race (access_now s.text site (disabled (so_often data_race) before records).progress (bytes_in s.text x) compound_kind None) _ before records after rest)
  assignment_left (tree.increment x) data_race plan is = left_as _ _ plan is
      (assigned_left s walk data_race (access_now s.text site (disabled (so_often data_race) before records).progress (bytes_in s.text x) compound_kind None) _ before records after rest)
  assignment_left (tree.atomic_add v x) data_race plan is = left_as _ _ plan is
      (assigned_left s walk data_race (access_now s.text site (disabled (so_often data_race) before records).progress (bytes_in s.text x) exchange_kind None) _ before records after rest)
  assignment_left (tree.atomic_increment x) data_race plan is = left_as _ _ plan is
      (assigned_left s walk data_race (access_now s.text site (disabled (so_often data_race) before records).progress (bytes_in s.text x) exchange_kind None) _ before records after rest)
  assignment_left (tree.atomic_decrement x) data_race plan is = left_as _ _ plan is
      (assigned_left s walk data_race (access_now s.text site (disabled (so_often data_race) before records).progress (bytes_in s.text x) exchange_kind None) _ before records after rest)

  checked_left : (write : Bool) (x size : ℕ) (empty : Bool) (plan : Plan)
      → (if empty then None else Some (check_plan (checked_bytes s.text x size) (check_kind write) None goes_on)) ≡ Some plan
      → ((between : Standing) × (later : List Record) × MatchBool empty (Only before records between later)
      (ChecksAt s site (checked_bytes s.text x size) (check_kind write) None before records between later) × WalkLeft s walk between later after rest)
      ↔ PlanLeft s walk site plan before records after rest
  checked_left write x size true plan is = no_plan plan is
  checked_left write x size false plan is = left_as _ _ plan is
      (check_left s walk (access_now s.text site before.progress (checked_bytes s.text x size) (check_kind write) None) before records after rest)

  pub call_left : (call : Call) (plan : Plan) → call_plan s.text call ≡ Some plan
      → StatementDue s (tree.call call) site walk before records after rest ↔ PlanLeft s walk site plan before records after rest
  call_left (calls.Barrier b) plan is = no_plan plan is
  call_left (calls.Lock l) plan is = no_plan plan is
  call_left (calls.Unlock l) plan is = no_plan plan is
  call_left (calls.AssertWriter x scoped) plan is = left_as _ _ plan is
      (check_left s walk (planned_access s before (check_plan (bytes_in s.text x) _ None goes_on) site) before records after rest)
  call_left (calls.AssertAccess x scoped) plan is = left_as _ _ plan is
      (check_left s walk (planned_access s before (check_plan (bytes_in s.text x) _ None goes_on) site) before records after rest)
  call_left (calls.AssertBits x mask) plan is = left_as _ _ plan is
      (bits_left s walk (planned_access s before (check_plan (bytes_in s.text x) _ (Some mask) goes_on) site) before records after rest)
  call_left (calls.Mark m) plan is = no_plan plan is
  call_left (calls.Check w x size) plan is = checked_left w x size (size == 0) plan is

-- a call that does nothing
pub ends_nothing : (s : Setting) (call : Call) (site : ℕ) (machine : Machine)
    → ((before : Standing) (records : List Record) (between : Standing) (later : List Record)
    → StepsOfCall s site call before records between later ↔ Only before records between later)
    → PartBegins s (StatementDue s (tree.call call) site machine.walk) machine machine None
ends_nothing s call site machine nothing = λ before stands.
    ends_standing s (StatementDue s (tree.call call) site machine.walk) before before machine.walk machine refl
    (λ later end. let only = only_left s machine.walk (before later) later end [] in (
      λ h. only.0 (h.0, h.1, (nothing (before later) later h.0 h.1).0 h.2, h.3),
      λ n. let h = only.1 n in (h.0, h.1, (nothing (before later) later h.0 h.1).1 h.2, h.3),
    )) stands (λ later. computes.nothing)

-- a condition without a load chooses at once
pub decides_left : (s : Setting) (walk : Walk) (site : ℕ) (value : Pure) (before : Standing) (records : List Record) (after : Standing) (rest : List Record)
    → ConditionDue s (tree.pure value) site walk before records after rest
    ↔ Chooses (pure_value before.progress.registers value) (BodyLeft s walk before records after rest) (WalkLeft s walk before records after rest)
decides_left s walk site value before records after rest = (
  λ h. subst (λ (v : ℕ). Chooses v (BodyLeft s walk before records after rest) (WalkLeft s walk before records after rest)) h.3.0
      (subst (λ (b : Standing). Chooses h.0 (BodyLeft s walk b records after rest) (WalkLeft s walk b records after rest)) h.3.1
      (subst (λ (l : List Record). Chooses h.0 (BodyLeft s walk h.1 l after rest) (WalkLeft s walk h.1 l after rest)) h.3.2 h.4)),
  λ chosen. (pure_value before.progress.registers value, before, records, (refl, refl, refl), chosen),
)

module _ (s : Setting) (walk : Walk) (site : ℕ) (plan : Plan) (old new : Machine) (stage : Option TaskStage) where
  -- it begins by its plan
  begins_plan : (P : Steps)
      → ((before : Standing) (later : List Record) (end : Standing) → Stands s before old → P before later end [] ↔ PlanLeft s walk site plan before later end [])
      → ((before : Standing) → Stands s before old → IsFit plan.follow plan.operation)
      → (IsFit plan.follow plan.operation → PartBegins s (PlanLeft s walk site plan) old new stage) → PartBegins s P old new stage
  begins_plan P same fit begins = λ before stands.
      begins_as s P (PlanLeft s walk site plan) old new stage (λ there stands_there later end. same (there later) later end (stands_there later))
      (begins (fit (before []) (stands []))) before stands

  pub begins_load : (load : Load) (taker : Taker)
      → ((before : Standing) → Stands s before old → plan ≡ load_plan s.text before.progress.registers load taker)
      → (IsFit plan.follow plan.operation → PartBegins s (PlanLeft s walk site plan) old new stage) → PartBegins s (LoadLeft s walk site load taker) old new stage
  begins_load load taker planned begins = begins_plan (LoadLeft s walk site load taker)
      (λ before later end stands. subst (λ (p : Plan). LoadLeft s walk site load taker before later end [] ↔ PlanLeft s walk site p before later end [])
      (sym (planned before stands)) (λ h. h, λ h. h))
      (λ before stands. subst (λ (p : Plan). IsFit p.follow p.operation) (sym (planned before stands)) (load_fits s before.progress.registers load taker))
      begins

  pub begins_assignment : (assignment : Assignment) (data_race : Bool)
      → ((before : Standing) → Stands s before old → assignment_plan s.text before.progress.registers assignment data_race ≡ Some plan)
      → (IsFit plan.follow plan.operation → PartBegins s (PlanLeft s walk site plan) old new stage)
      → PartBegins s (StatementDue s (tree.assign data_race assignment) site walk) old new stage
  begins_assignment assignment data_race planned begins = begins_plan (StatementDue s (tree.assign data_race assignment) site walk)
      (λ before later end stands. assignment_left s walk site before later end [] assignment data_race plan (planned before stands))
      (λ before stands. assignment_fits s before.progress.registers assignment data_race plan (planned before stands))
      begins

  pub begins_call : (call : Call) → ((before : Standing) → Stands s before old → call_plan s.text call ≡ Some plan)
      → (IsFit plan.follow plan.operation → PartBegins s (PlanLeft s walk site plan) old new stage)
      → PartBegins s (StatementDue s (tree.call call) site walk) old new stage
  begins_call call planned begins = begins_plan (StatementDue s (tree.call call) site walk)
      (λ before later end stands. call_left s walk site before later end [] call plan (planned before stands))
      (λ before stands. call_fits s call plan (planned before stands))
      begins

-- what begins for a load begins for the statement that is one, or for the condition that has it
pub begins_load_only : (s : Setting) (site : ℕ) (load : Load) (old new : Machine) (stage : Option TaskStage)
    → PartBegins s (LoadLeft s old.walk site load nobody) old new stage → PartBegins s (StatementDue s (tree.load_only load) site old.walk) old new stage
begins_load_only s site load old new stage begins =
    begins_as s (StatementDue s (tree.load_only load) site old.walk) (LoadLeft s old.walk site load nobody) old new stage
    (λ before stands later end. load_left s old.walk site load (before later) later end []) begins

pub begins_condition : (s : Setting) (site : ℕ) (value : Loading) (load : Load) (old new : Machine) (stage : Option TaskStage) → load ≡ load_in value
    → PartBegins s (LoadLeft s old.walk site load (condition value)) old new stage → PartBegins s (ConditionDue s (tree.loading value) site old.walk) old new stage
begins_condition s site value load old new stage is begins =
    begins_as s (ConditionDue s (tree.loading value) site old.walk) (LoadLeft s old.walk site (load_in value) (condition value)) old new stage
    (λ before stands later end. condition_left s old.walk site value (before later) later end [])
    (subst (λ (l : Load). PartBegins s (LoadLeft s old.walk site l (condition value)) old new stage) is begins)

-- a barrier does nothing, and so does a check of size 0
pub ends_barrier : (s : Setting) (barrier : Barrier) (site : ℕ) (machine : Machine)
    → PartBegins s (StatementDue s (tree.call (calls.Barrier barrier)) site machine.walk) machine machine None
ends_barrier s barrier site machine = ends_nothing s (calls.Barrier barrier) site machine (λ before records between later. (λ h. h, λ h. h))

pub ends_empty_check : (s : Setting) (write : Bool) (x size site : ℕ) (machine : Machine) → size ≡ 0
    → PartBegins s (StatementDue s (tree.call (calls.Check write x size)) site machine.walk) machine machine None
ends_empty_check s write x size site machine is =
    subst (λ (n : ℕ). PartBegins s (StatementDue s (tree.call (calls.Check write x n)) site machine.walk) machine machine None) (sym is)
    (ends_nothing s (calls.Check write x 0) site machine (λ before records between later. (λ h. h, λ h. h)))

-- a mark is made at once
pub ends_mark : (s : Setting) (m : Mark) (site : ℕ) (old new : Machine) → new.walk ≡ old.walk
    → ((before : Standing) → Stands s before old → (ends : Bool) × (IsTrue ends ↔ EndsNothing s before m)
    × ((later : List Record) → Stands s (doing (counting ends before) later (happenings.Mark m ∷ [])) new))
    → PartBegins s (StatementDue s (tree.call (calls.Mark m)) site old.walk) old new None
ends_mark s m site old new walk makes = λ before stands.
    ends_standing s (StatementDue s (tree.call (calls.Mark m)) site old.walk) before
    (λ later. doing (counting (makes (before later) (stands later)).0 (before later)) later (happenings.Mark m ∷ [])) old.walk new walk
    (λ later end. let made = makes (before later) (stands later) in
    let only = only_left s old.walk (doing (counting made.0 (before later)) later (happenings.Mark m ∷ [])) later end [] in (
      λ h. only.0 (
        h.0,
        h.1,
        subst (λ (b : Bool). Only (doing (counting b (before later)) later (happenings.Mark m ∷ [])) later h.0 h.1)
            (one_answer h.2.0 made.0 _ h.2.1 made.1) h.2.2,
        h.3,
      ),
      λ n. let h = only.1 n in (h.0, h.1, (made.0, made.1, h.2), h.3),
    ))
    (λ later. (makes (before later) (stands later)).2 later)
    (λ later. counts_more later (before later) (makes (before later) (stands later)).0 (happenings.Mark m ∷ []) (refl, tt))

pub begins_register : (s : Setting) (site register : ℕ) (value : Loading) (data_race : Bool) (load : Load) (old new : Machine) (stage : Option TaskStage) → load ≡ load_in value
    → PartBegins s (LoadLeft s old.walk site load (to_register register value data_race)) old new stage
    → PartBegins s (StatementDue s (tree.assign data_race (tree.to_register register (tree.loading value))) site old.walk) old new stage
begins_register s site register value data_race load old new stage is begins =
    begins_as s (StatementDue s (tree.assign data_race (tree.to_register register (tree.loading value))) site old.walk)
    (LoadLeft s old.walk site (load_in value) (to_register register value data_race)) old new stage
    (λ before stands later end. register_left s old.walk site register value data_race (before later) later end [])
    (subst (λ (l : Load). PartBegins s (LoadLeft s old.walk site l (to_register register value data_race)) old new stage) is begins)
