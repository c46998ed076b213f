-- Assignments are open: whatever their steps are answered they go on, if what may follow on them does.
use Rattle.std.proofs.Common.{◌≡◌, ◌<◌, ◌≤◌, ◌+◌, ◌-◌, ◌^◌, ℕ, Bool, true, List, None, Some, ap, arith, refl, replicate, if◌then◌else◌}
use Rattle.access_types.specs.declared.history.Happening.{Happening}
use Rattle.access_types.specs.declared.history.Happening.TheVariants as happenings
use Rattle.access_types.specs.declared.history.Mark.TheVariants as marks
use Rattle.access_types.specs.declared.kind.Kind.{Kind}
use Rattle.litmus_semantics.specs.Assignments.{compound_kind, write_kind}
use Rattle.litmus_semantics.specs.Expressions.{pure_value}
use Rattle.litmus_semantics.specs.Loads.{exchange_kind}
use Rattle.litmus_semantics.specs.Task.{access_now, bytes_in}
use Rattle.litmus_syntax.specs.Limits.{AssignmentTyped, IsVariable}
use Rattle.litmus_syntax.specs.Sites.{assignment_has_access, expression_has_access}
use Rattle.litmus_syntax.specs.Tree.{Assignment, Expression}
use Rattle.litmus_syntax.specs.Tree as tree
use Rattle.access_run.specs.declared.memory_operation.effect.Effect.{Effect}
use Rattle.access_run.specs.declared.memory_operation.operation.Change.TheVariants as changes
use Rattle.access_run.specs.declared.memory_operation.operation.Operation.{Operation}
use Rattle.access_run.specs.declared.memory_operation.operation.Operation.TheVariants as operations
use Rattle.setup_access.specs.OwnAccesses.{AreOwn}
use Rattle.task_plan.proofs.task_laws.Parts.{set_at}
use Rattle.task_plan.proofs.task_laws.Statements.{atomic_bytes, doing_at, few_at, integer_bytes, write_bytes}
use Rattle.task_plan.specs.task_laws.Begins.{one_at, own_begins}
use Rattle.task_plan.specs.task_laws.StandingButWay.{Core, begun_at, core_of, standing}
use Rattle.task_plan.specs.task_laws.Fits.{ArePlaced, HasBytes}
use Rattle.task_plan.proofs.task_laws.Loads.{expression_open, made_to_open}
use Rattle.task_plan.proofs.task_laws.Places.{Plain, StepsAreOpen, WithinFrom, part_via}
use Rattle.task_plan.proofs.KeepsLemmas.{begun_still, marks_other}
use Rattle.program_order.specs.Access.{Makes}
use Rattle.program_order.specs.Standing.{Setting, checks_of, doing, registered}
use Rattle.program_order.specs.WrittenOrder.{MakesTo, Steps, StepsInDataRace, StepsOfAssignment, StepsOfExpression}

module _ (s : Setting) (placed : ArePlaced s) where
  -- a register gets the value of an expression
  to_register_open : (registers : ℕ) (at : Core) (site r : ℕ) (e : Expression) → AssignmentTyped (IsVariable s.text.variables) registers (tree.to_register r e)
      → (expression_has_access e ≡ true → site < 256) → ((k : ℕ) → begun_at k at + own_begins (expression_has_access e) site k ≤ 256)
      → AreOwn (checks_of s) at.scopes
      → StepsAreOpen (λ before records after rest. StepsOfAssignment s site (tree.to_register r e) before records after rest) at
      (own_begins (expression_has_access e) site)
  to_register_open registers at site r e typed below room own =
      part_via ℕ (Unit {0}) (λ before records value after rest. StepsOfExpression s site e before records value after rest)
      (Plain (λ before records after rest. StepsOfAssignment s site (tree.to_register r e) before records after rest)) at at
      (λ value. tt) (λ value between. set_at between r value)
      (λ value after. WithinFrom at (own_begins (expression_has_access e) site) after)
      (λ value after. WithinFrom at (own_begins (expression_has_access e) site) after)
      (λ way outcomes records value after rest h. (way, outcomes, h.0, h.1, h.2, refl, ap core_of h.3))
      (λ way outcomes records. (way, outcomes, λ value between rest steps. (registered between rest r value, (value, between, steps, refl), refl)))
      (expression_open s placed registers at site e typed.1 below room own)
      (λ value between is. record { counts = is.counts; scopes = is.scopes })

  -- an access to a variable, by an assignment
  abbrev MakesChange : ℕ → ℕ → Kind → Operation → Steps
  MakesChange site x kind operation before records after rest = (effect : Effect) × MakesTo s site x kind operation before records effect after rest

  change_open : (at : Core) (site x : ℕ) (kind : Kind) (operation : Operation) → site < 256 → ((k : ℕ) → begun_at k at + one_at site k ≤ 256)
      → AreOwn (checks_of s) at.scopes → HasBytes s x
      → StepsAreOpen (λ before records after rest. MakesChange site x kind operation before records after rest) at (one_at site)
  change_open at site x kind operation below room own has =
      part_via Effect (Unit {0})
      (λ before records effect after rest.
      Makes s before (access_now s.text site at.progress (bytes_in s.text x) kind None) (Some operation) records effect after rest)
      (Plain (λ before records after rest. MakesChange site x kind operation before records after rest)) at at (λ effect. tt) (λ effect between. between)
      (λ effect after. WithinFrom at (one_at site) after) (λ value after. WithinFrom at (one_at site) after)
      (λ way outcomes records value after rest h. (way, outcomes, h.0, after, h.1, refl, refl))
      (λ way outcomes records. (way, outcomes, λ effect between rest makes. (between, (effect, makes), refl)))
      (made_to_open s placed at site x kind operation below (few_at s placed site at room) own has) (λ effect between is. is)

  assignment_open : (registers : ℕ) (at : Core) (site : ℕ) (a : Assignment) → AssignmentTyped (IsVariable s.text.variables) registers a
      → (assignment_has_access a ≡ true → site < 256) → ((k : ℕ) → begun_at k at + own_begins (assignment_has_access a) site k ≤ 256)
      → AreOwn (checks_of s) at.scopes
      → StepsAreOpen (λ before records after rest. StepsOfAssignment s site a before records after rest) at (own_begins (assignment_has_access a) site)
  assignment_open registers at site (tree.to_register r e) typed below room own = to_register_open registers at site r e typed below room own
  assignment_open registers at site (tree.write form x e) typed below room own =
      change_open at site x (write_kind form) (operations.Change (changes.Write (pure_value at.progress.registers e))) (below refl) room own
      (write_bytes s placed form x typed.0)
  assignment_open registers at site (tree.add x e) typed below room own =
      change_open at site x compound_kind (operations.Add (pure_value at.progress.registers e)) (below refl) room own (integer_bytes s placed x typed.0)
  assignment_open registers at site (tree.increment x) typed below room own =
      change_open at site x compound_kind (operations.Add 1) (below refl) room own (integer_bytes s placed x typed)
  assignment_open registers at site (tree.atomic_add e x) typed below room own =
      change_open at site x exchange_kind (operations.Change (changes.AtomicAdd (pure_value at.progress.registers e))) (below refl) room own
      (atomic_bytes s placed x typed.1)
  assignment_open registers at site (tree.atomic_increment x) typed below room own =
      change_open at site x exchange_kind (operations.Change (changes.AtomicAdd 1)) (below refl) room own (atomic_bytes s placed x typed)
  assignment_open registers at site (tree.atomic_decrement x) typed below room own =
      change_open at site x exchange_kind (operations.Change (changes.AtomicAdd (2 ^ 64 - 1))) (below refl) room own (atomic_bytes s placed x typed)

  -- the same inside data_race( ) or not
  module _ (count : ℕ) where
    abbrev off : List Happening
    off = replicate count (happenings.Mark marks.Disable)

    abbrev on : List Happening
    on = replicate count (happenings.Mark marks.Enable)

    begun_off : (at : Core) (k : ℕ) → begun_at k (doing_at at off) ≡ begun_at k at
    begun_off at k = begun_still k at.progress.did off (marks_other count marks.Disable)

    marked_within : (at : Core) (most : ℕ → ℕ) (between : Core) → WithinFrom (doing_at at off) most between → WithinFrom at most (doing_at between on)
    marked_within at most between is = record {
      counts = λ k.
          let first = begun_off at k in
          let more = is.counts k in
          let last : begun_at k (doing_at between on) ≡ begun_at k between = begun_still k between.progress.did on (marks_other count marks.Enable) in
          omega (arith, first, more, last);
      scopes = is.scopes;
    }

  pub assign_open : (registers : ℕ) (at : Core) (site : ℕ) (data_race : Bool) (a : Assignment) → AssignmentTyped (IsVariable s.text.variables) registers a
      → (assignment_has_access a ≡ true → site < 256) → ((k : ℕ) → begun_at k at + own_begins (assignment_has_access a) site k ≤ 256)
      → AreOwn (checks_of s) at.scopes
      → StepsAreOpen (λ before records after rest. StepsInDataRace s site data_race a before records after rest) at (own_begins (assignment_has_access a) site)
  assign_open registers at site data_race a typed below room own =
      let count : ℕ = if data_race then 1 else 0 in
      let most : ℕ → ℕ = own_begins (assignment_has_access a) site in
      let from : Core = doing_at at (off count) in
      part_via (Unit {0}) (Unit {0}) (Plain (λ before records after rest. StepsOfAssignment s site a before records after rest))
      (Plain (λ before records after rest. StepsInDataRace s site data_race a before records after rest)) at from (λ value. tt)
      (λ value between. doing_at between (on count))
      (λ value after. WithinFrom from most after) (λ value after. WithinFrom at most after)
      (λ way outcomes records value after rest h. ((doing (standing at way outcomes) records (off count)).way, outcomes, tt, h.0, h.1, refl, ap core_of h.2))
      (λ way outcomes records. (
        (doing (standing at way outcomes) records (off count)).way,
        outcomes,
        λ value between rest steps. (doing between rest (on count), (between, steps, refl), refl),
      ))
      (assignment_open registers from site a typed below (λ k. let same = begun_off count at k in let all = room k in omega (arith, same, all)) own)
      (λ value between is. marked_within count at most between is)
