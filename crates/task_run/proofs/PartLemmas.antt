-- What is due in a text is the part that begins with it, before what is left.
use Rattle.std.proofs.Common.{◌≡◌, ◌↔◌, ◌∙◌, ℕ, Bool, true, false, List, [], ◌∷◌, None, MatchBool, Option, Some, ap, refl, subst, sym}
use Rattle.access_types.specs.Access as access
use Rattle.access_types.specs.declared.history.Happening.TheVariants as happenings
use Rattle.access_types.specs.declared.history.Mark.TheVariants as marks
use Rattle.litmus_semantics.specs.Expressions.{loading_value, pure_value}
use Rattle.litmus_semantics.specs.Loads.{load_in, variable_of}
use Rattle.litmus_semantics.specs.Meaning.{Chooses}
use Rattle.litmus_semantics.specs.Task.{bytes_in, has_lock}
use Rattle.litmus_semantics.specs.Values.{sign_extended}
use Rattle.litmus_syntax.specs.Tree.{Load, Loading, Pure}
use Rattle.litmus_syntax.specs.Tree as tree
use Rattle.litmus_syntax.specs.declared.statement.Call.TheVariants as calls
use Rattle.access_run.specs.declared.memory_operation.effect.Effect.{Effect}
use Rattle.access_run.specs.declared.memory_operation.operation.Operation.{Operation}
use Rattle.access_run.specs.declared.memory_operation.operation.Operation.TheVariants as operations
use Rattle.slot_table.specs.declared.records.Record.{Record}
use Rattle.task_run.specs.Due.{ConditionDue, StatementDue}
use Rattle.task_plan.specs.Follow.{assigned, condition, goes_on, marks_next, nobody, so_often, to_register}
use Rattle.task_run.specs.Part.{PartLeft, disabled, enabled, locks, makes, unlocks}
use Rattle.task_plan.specs.Plans.{load_plan}
use Rattle.task_run.specs.Plans.{PlanLeft}
use Rattle.task_plan.specs.Left.{BodyLeft, WalkLeft}
use Rattle.task_plan.specs.declared.walk.Walk.{Walk}
use Rattle.program_order.specs.Access.{Makes, operated}
use Rattle.program_order.specs.Standing.{Setting, Standing, coming, counting, doing, registered}
use Rattle.program_order.specs.WrittenOrder.{Only, Steps}

-- a part from a standing is one from a standing that is the same
pub on : (N : Steps) {a b : Standing} → a ≡ b → (records : List Record) (after : Standing) (rest : List Record)
    → N a records after rest → N b records after rest
on N is records after rest h = subst (λ (x : Standing). N x records after rest) is h

-- the same where the standing counts the records to come
pub on_both : (N : Steps) (F : List Record → Standing) {b : Standing} {later records : List Record} → b ≡ F later → later ≡ records
    → (after : Standing) (rest : List Record) → N b later after rest → N (F records) records after rest
on_both N F {later = later} is last after rest h =
    subst (λ (l : List Record). N (F l) l after rest) last (subst (λ (x : Standing). N x later after rest) is h)

-- one case of two
pub if_true : {b : Bool} (P Q : Type 0) → b ≡ true → (MatchBool b P Q ↔ P)
if_true P Q is = subst (λ (x : Bool). MatchBool x P Q ↔ P) (sym is) (λ h. h, λ h. h)

pub if_false : {b : Bool} (P Q : Type 0) → b ≡ false → (MatchBool b P Q ↔ Q)
if_false P Q is = subst (λ (x : Bool). MatchBool x P Q ↔ Q) (sym is) (λ h. h, λ h. h)

-- an access leaves the registers as they are
operated_registers : (a : access.Access) (operation : Option Operation) (before : Standing) (records : List Record) (effect : Effect)
    (rest : List Record) → (operated a operation before records effect rest).progress.registers ≡ before.progress.registers
operated_registers a None before records effect rest = refl
operated_registers a (Some operations.Load) before records effect rest = refl
operated_registers a (Some (operations.Add amount)) before records effect rest = refl
operated_registers a (Some (operations.Change change)) before records effect rest = refl

pub makes_registers : {s : Setting} {before : Standing} {a : access.Access} {operation : Option Operation} {records : List Record}
    {effect : Effect} {after : Standing} {rest : List Record} → Makes s before a operation records effect after rest
    → after.progress.registers ≡ before.progress.registers
makes_registers {a = a} {operation = operation} {effect = effect} made =
    ap (λ (x : Standing). x.progress.registers) made.comes_to
    ∙ operated_registers a operation _ made.checked effect made.done

module _ (s : Setting) (walk : Walk) where
  -- a load whose value nobody takes
  pub load_left : (site : ℕ) (load : Load) (before : Standing) (records : List Record) (after : Standing) (rest : List Record)
      → StatementDue s (tree.load_only load) site walk before records after rest
      ↔ PlanLeft s walk site (load_plan s.text before.progress.registers load nobody) before records after rest
  load_left site load before records after rest = (
    λ h. let loads = h.2.1 in
        (loads.1, loads.2, h.1, loads.3, (loads.0, loads.4, on (WalkLeft s walk) loads.6 h.1 after rest h.3)),
    λ q. (
      enabled load.data_races q.1 q.2,
      q.2,
      (sign_extended (bytes_in s.text (variable_of load.fetch)).size q.4.0, (q.4.0, q.0, q.1, q.3, q.4.1, refl, refl)),
      q.4.2,
    ),
  )

  -- a register gets the value of an expression with a load
  pub register_left : (site register : ℕ) (value : Loading) (data_race : Bool) (before : Standing) (records : List Record)
      (after : Standing) (rest : List Record)
      → StatementDue s (tree.assign data_race (tree.to_register register (tree.loading value))) site walk before records after rest
      ↔ PlanLeft s walk site (load_plan s.text before.progress.registers (load_in value) (to_register register value data_race))
      before records after rest
  register_left site register value data_race before records after rest = (
    λ h. let loads = h.2.1.2.1 in
        let size = (bytes_in s.text (variable_of (load_in value).fetch)).size in
        let between = enabled (load_in value).data_races loads.2 h.1 in
        let given : h.2.1.0 ≡ loading_value between.progress.registers (sign_extended size loads.0) value =
        h.2.1.2.2 ∙ (ap (λ (l : ℕ). loading_value before.progress.registers l value) loads.5
        ∙ ap (λ (r : List ℕ). loading_value r (sign_extended size loads.0) value) (sym (makes_registers loads.3))) in
        let stands = h.2.2 ∙ ap (λ (x : Standing). enabled (so_often data_race) x h.1)
        (h.2.1.3 ∙ (ap (λ (x : Standing). registered x h.1 register h.2.1.0) loads.6
        ∙ ap (λ (v : ℕ). registered between h.1 register v) given)) in
        (loads.1, loads.2, h.1, loads.3, (loads.0, loads.4, on (WalkLeft s walk) stands h.1 after rest h.3)),
    λ q. let size = (bytes_in s.text (variable_of (load_in value).fetch)).size in
        let between = enabled (load_in value).data_races q.1 q.2 in
        let given = loading_value between.progress.registers (sign_extended size q.4.0) value in
        let is : given ≡ loading_value before.progress.registers (sign_extended size q.4.0) value =
        ap (λ (r : List ℕ). loading_value r (sign_extended size q.4.0) value) (makes_registers q.3) in (
          enabled (so_often data_race) (registered between q.2 register given) q.2,
          q.2,
          (
            registered between q.2 register given,
            (given, between, (sign_extended size q.4.0, (q.4.0, q.0, q.1, q.3, q.4.1, refl, refl), is), refl),
            refl,
          ),
          q.4.2,
        ),
  )

  -- a condition with a load
  pub condition_left : (site : ℕ) (value : Loading) (before : Standing) (records : List Record) (after : Standing) (rest : List Record)
      → ConditionDue s (tree.loading value) site walk before records after rest
      ↔ PlanLeft s walk site (load_plan s.text before.progress.registers (load_in value) (condition value)) before records after rest
  condition_left site value before records after rest = (
    λ h. let loads = h.3.1 in
        let size = (bytes_in s.text (variable_of (load_in value).fetch)).size in
        let between = enabled (load_in value).data_races loads.2 h.2 in
        let given : h.0 ≡ loading_value between.progress.registers (sign_extended size loads.0) value =
        h.3.2 ∙ (ap (λ (l : ℕ). loading_value before.progress.registers l value) loads.5
        ∙ ap (λ (r : List ℕ). loading_value r (sign_extended size loads.0) value) (sym (makes_registers loads.3))) in
        let decides = subst (λ (v : ℕ). Chooses v (BodyLeft s walk h.1 h.2 after rest) (WalkLeft s walk h.1 h.2 after rest)) given h.4 in (
          loads.1,
          loads.2,
          h.2,
          loads.3,
          (
            loads.0,
            loads.4,
            subst (λ (x : Standing). Chooses (loading_value between.progress.registers (sign_extended size loads.0) value)
                (BodyLeft s walk x h.2 after rest) (WalkLeft s walk x h.2 after rest)) loads.6 decides,
          ),
        ),
    λ q. let size = (bytes_in s.text (variable_of (load_in value).fetch)).size in
        let between = enabled (load_in value).data_races q.1 q.2 in
        let given = loading_value between.progress.registers (sign_extended size q.4.0) value in
        let is : given ≡ loading_value before.progress.registers (sign_extended size q.4.0) value =
        ap (λ (r : List ℕ). loading_value r (sign_extended size q.4.0) value) (makes_registers q.3) in
        (given, between, q.2, (sign_extended size q.4.0, (q.4.0, q.0, q.1, q.3, q.4.1, refl, refl), is), q.4.2),
  )

  -- a register gets the value of an expression without a load, at once
  pub at_once_left : (site register : ℕ) (value : Pure) (data_race : Bool) (before : Standing) (records : List Record)
      (after : Standing) (rest : List Record)
      → StatementDue s (tree.assign data_race (tree.to_register register (tree.pure value))) site walk before records after rest
      ↔ WalkLeft s walk (enabled (so_often data_race) (registered (disabled (so_often data_race) before records) records register
      (pure_value before.progress.registers value)) records) records after rest
  at_once_left site register value data_race before records after rest =
      let start = disabled (so_often data_race) before records in
      let given = pure_value before.progress.registers value in
      let F : List Record → Standing = λ l. enabled (so_often data_race) (registered start l register given) l in (
        λ h. let is = h.2.2 ∙ ap (λ (x : Standing). enabled (so_often data_race) x h.1)
            (h.2.1.3 ∙ (ap (λ (x : Standing). registered x h.1 register h.2.1.0) h.2.1.2.1
            ∙ ap (λ (v : ℕ). registered start h.1 register v) h.2.1.2.0)) in
            on_both (WalkLeft s walk) F is h.2.1.2.2 after rest h.3,
        λ n. (F records, records, (registered start records register given, (given, start, (refl, refl, refl), refl), refl), n),
      )

  -- an assignment to a variable, inside data_race( ) or not
  pub assigned_left : (data_race : Bool) (a : access.Access) (operation : Operation) (before : Standing) (records : List Record)
      (after : Standing) (rest : List Record)
      → ((b : Standing) × (later : List Record)
      × ((between : Standing) × ((effect : Effect)
      × Makes s (disabled (so_often data_race) before records) a (Some operation) records effect between later)
      × (b ≡ enabled (so_often data_race) between later)) × WalkLeft s walk b later after rest)
      ↔ PartLeft s (makes a (Some operation) (assigned data_race)) walk (disabled (so_often data_race) before records)
      records after rest
  assigned_left data_race a operation before records after rest = (
    λ h. (h.2.1.0, h.2.0, h.1, h.2.1.1, on (WalkLeft s walk) h.2.2 h.1 after rest h.3),
    λ q. (enabled (so_often data_race) q.1 q.2, q.2, (q.1, (q.0, q.3), refl), q.4),
  )

  -- a check, and an assertion that doesn't last
  pub check_left : (a : access.Access) (before : Standing) (records : List Record) (after : Standing) (rest : List Record)
      → ((b : Standing) × (later : List Record) × ((effect : Effect) × Makes s before a None records effect b later)
      × WalkLeft s walk b later after rest)
      ↔ PartLeft s (makes a None goes_on) walk before records after rest
  check_left a before records after rest = (
    λ h. (h.2.0, h.0, h.1, h.2.1, h.3),
    λ q. (q.1, q.2, (q.0, q.3), q.4),
  )

  -- an assertion of bits, by which the next access counts as marked
  pub bits_left : (a : access.Access) (before : Standing) (records : List Record) (after : Standing) (rest : List Record)
      → ((b : Standing) × (later : List Record)
      × ((between : Standing) × ((effect : Effect) × Makes s before a None records effect between later)
      × (b ≡ doing between later (happenings.Mark (marks.Next 1) ∷ []))) × WalkLeft s walk b later after rest)
      ↔ PartLeft s (makes a None marks_next) walk before records after rest
  bits_left a before records after rest = (
    λ h. (h.2.1.0, h.2.0, h.1, h.2.1.1, on (WalkLeft s walk) h.2.2 h.1 after rest h.3),
    λ q. (doing q.1 q.2 (happenings.Mark (marks.Next 1) ∷ []), q.2, (q.1, (q.0, q.3), refl), q.4),
  )

  -- a lock
  pub lock_left : (site variable : ℕ) (before : Standing) (records : List Record) (after : Standing) (rest : List Record)
      → StatementDue s (tree.call (calls.Lock variable)) site walk before records after rest
      ↔ PartLeft s (locks variable) walk before records after rest
  lock_left site variable before records after rest = (
    λ h. (h.1, h.2.0, h.2.1, on (WalkLeft s walk) h.2.2 h.1 after rest h.3),
    λ q. (doing before q.0 (happenings.Lock variable ∷ []), q.0, (q.1, q.2, refl), q.3),
  )

  -- an unlock of a lock that the task has
  pub unlock_left : (site variable : ℕ) (before : Standing) (records : List Record) (after : Standing) (rest : List Record)
      → has_lock variable before.progress.did ≡ true
      → StatementDue s (tree.call (calls.Unlock variable)) site walk before records after rest
      ↔ PartLeft s (unlocks variable) walk before records after rest
  unlock_left site variable before records after rest has = (
    λ h. let gives = (if_true _ _ has).0 h.2 in
        (h.1, gives.0, on (WalkLeft s walk) gives.1 h.1 after rest h.3),
    λ q. (doing before q.0 (happenings.Unlock variable ∷ []), q.0, (if_true _ _ has).1 (q.1, refl), q.2),
  )

  -- a call that makes no step comes to this
  pub only_left : (this : Standing) (records : List Record) (after : Standing) (rest : List Record)
      → ((b : Standing) × (later : List Record) × Only this records b later × WalkLeft s walk b later after rest)
      ↔ WalkLeft s walk this records after rest
  only_left this records after rest = (
    λ h. on_both (WalkLeft s walk) (λ (l : List Record). this) h.2.0 h.2.1 after rest h.3,
    λ n. (this, records, (refl, refl), n),
  )

  -- and one of a lock that it hasn't
  pub no_unlock_left : (site variable : ℕ) (before : Standing) (records : List Record) (after : Standing) (rest : List Record)
      → has_lock variable before.progress.did ≡ false
      → StatementDue s (tree.call (calls.Unlock variable)) site walk before records after rest
      ↔ WalkLeft s walk (coming (counting true before) records before.progress) records after rest
  no_unlock_left site variable before records after rest hasnt =
      let only = only_left (coming (counting true before) records before.progress) records after rest in (
        λ h. only.0 (h.0, h.1, (if_false _ _ hasnt).0 h.2, h.3),
        λ n. let h = only.1 n in (h.0, h.1, (if_false _ _ hasnt).1 h.2, h.3),
      )
