-- Loads and expressions are open.
use Rattle.std.proofs.Common.{◌≡◌, ◌<◌, ◌≤◌, ◌∙◌, ◌+◌, ℕ, true, List, None, Option, Some, ap, arith, refl, replicate, sym}
use Rattle.access_types.specs.Access.{Access}
use Rattle.access_types.specs.declared.history.Happening.{Happening}
use Rattle.access_types.specs.declared.history.Happening.TheVariants as happenings
use Rattle.access_types.specs.declared.history.Mark.TheVariants as marks
use Rattle.access_types.specs.declared.kind.Kind.{Kind}
use Rattle.litmus_semantics.specs.Expressions.{loading_value, pure_value}
use Rattle.litmus_semantics.specs.Loads.{fetch_kind, load_in, variable_of}
use Rattle.litmus_semantics.specs.Task.{access_now, bytes_in}
use Rattle.litmus_semantics.specs.Values.{sign_extended}
use Rattle.litmus_syntax.specs.Limits.{ExpressionTyped, IsVariable}
use Rattle.litmus_syntax.specs.Sites.{expression_has_access}
use Rattle.litmus_syntax.specs.Tree.{Expression, Load}
use Rattle.litmus_syntax.specs.Tree as tree
use Rattle.access_run.specs.declared.memory_operation.effect.Effect.{Effect}
use Rattle.access_run.specs.declared.memory_operation.operation.Operation.{Operation}
use Rattle.setup_access.specs.Check.{Fallen}
use Rattle.setup_access.specs.OwnAccesses.{AreOwn}
use Rattle.slot_table.specs.declared.records.Record.{Record}
use Rattle.access_run.proofs.memory_operation.ReadLemmas.{HasRead, operation_reads}
use Rattle.task_plan.proofs.task_laws.ReadLemmas.{fetch_reads}
use Rattle.task_plan.proofs.task_laws.Statements.{doing_at, few_at, in_range, load_bytes, no_mask, own_access}
use Rattle.task_plan.specs.task_laws.Begins.{one_at, own_begins}
use Rattle.task_plan.specs.task_laws.StandingButWay.{Core, begun_at, core_of, standing}
use Rattle.task_plan.specs.task_laws.Fits.{ArePlaced, HasBytes}
use Rattle.task_plan.proofs.task_laws.Accesses.{makes_open}
use Rattle.task_plan.proofs.task_laws.Places.{PartIsOpen, Valued, WithinFrom, part_still, part_via}
use Rattle.task_plan.proofs.KeepsLemmas.{begun_still, marks_other}
use Rattle.program_order.specs.Access.{Makes}
use Rattle.program_order.specs.Standing.{Point, Setting, Standing, checks_of, doing}
use Rattle.program_order.specs.WrittenOrder.{StepsOfExpression, StepsOfLoad, fetch_operation}

-- the value that was read, or 0
abbrev read_or_none : Option ℕ → ℕ
read_or_none None = 0
read_or_none (Some value) = value

module _ (s : Setting) (placed : ArePlaced s) where
  -- an access to a variable, with an operation
  pub made_to_open : (at : Core) (site x : ℕ) (kind : Kind) (operation : Operation) → site < 256 → begun_at site at < 256
      → AreOwn (checks_of s) at.scopes → HasBytes s x
      → PartIsOpen Effect (λ before records effect after rest.
      Makes s before (access_now s.text site at.progress (bytes_in s.text x) kind None) (Some operation) records effect after rest) at
      (λ effect after. WithinFrom at (one_at site) after)
  made_to_open at site x kind operation below few own has =
      let a : Access = access_now s.text site at.progress (bytes_in s.text x) kind None in
      makes_open s at a (Some operation) (own_access s placed site at.progress (bytes_in s.text x) kind None below few (in_range s placed x has)
      (no_mask s placed))
      has.some own (has.in_cell a refl refl)

  -- a load: its data_race( ) mark it before and after
  module _ (at : Core) (site : ℕ) (load : Load) where
    abbrev off : List Happening
    off = replicate load.data_races (happenings.Mark marks.Disable)

    abbrev on : List Happening
    on = replicate load.data_races (happenings.Mark marks.Enable)

    abbrev operation : Operation
    operation = fetch_operation at.progress.registers load.fetch

    abbrev accessed : Access
    accessed = access_now s.text site (doing_at at off).progress (bytes_in s.text (variable_of load.fetch)) (fetch_kind load.fetch) None

    abbrev AccessSteps : Valued Effect
    AccessSteps before records effect after rest = Makes s before accessed (Some operation) records effect after rest

    abbrev LoadSteps : Valued ℕ
    LoadSteps before records loaded after rest = StepsOfLoad s site load before records loaded after rest

    abbrev value_of : Effect → ℕ
    value_of effect = sign_extended (bytes_in s.text (variable_of load.fetch)).size (read_or_none effect.read)

    abbrev end_of : Effect → Core → Core
    end_of effect between = doing_at between on

    into : (way : List Point) (outcomes : List Fallen) (records : List Record) (loaded : ℕ) (after : Standing) (rest : List Record)
        → LoadSteps (standing at way outcomes) records loaded after rest
        → (farther : List Point) × (more : List Fallen) × (effect : Effect) × (between : Standing)
        × AccessSteps (standing (doing_at at off) farther more) records effect between rest
        × (loaded ≡ value_of effect) × (core_of after ≡ end_of effect (core_of between))
    into way outcomes records loaded after rest h = (
      (doing (standing at way outcomes) records off).way,
      outcomes,
      h.1,
      h.2,
      h.3,
      h.5 ∙ ap (λ (read : Option ℕ). sign_extended (bytes_in s.text (variable_of load.fetch)).size (read_or_none read)) (sym h.4),
      ap core_of h.6,
    )

    out : (way : List Point) (outcomes : List Fallen) (records : List Record)
        → (farther : List Point) × (more : List Fallen)
        × ((effect : Effect) (between : Standing) (rest : List Record) → AccessSteps (standing (doing_at at off) farther more) records effect between rest
        → (after : Standing) × LoadSteps (standing at way outcomes) records (value_of effect) after rest
        × (core_of after ≡ end_of effect (core_of between)))
    out way outcomes records = (
      (doing (standing at way outcomes) records off).way,
      outcomes,
      λ effect between rest makes.
          let read : HasRead effect = operation_reads (checks_of s) accessed (Some operation) makes.checked effect makes.done
          (fetch_reads at.progress.registers load.fetch) makes.operates in
          let value : value_of effect ≡ sign_extended (bytes_in s.text (variable_of load.fetch)).size read.0 =
          ap (λ (o : Option ℕ). sign_extended (bytes_in s.text (variable_of load.fetch)).size (read_or_none o)) read.1 in
          (doing between rest on, (read.0, effect, between, makes, read.1, value, refl), refl),
    )

    begun_off : (k : ℕ) → begun_at k (doing_at at off) ≡ begun_at k at
    begun_off k = begun_still k at.progress.did off (marks_other load.data_races marks.Disable)

    within : (between : Core) → WithinFrom (doing_at at off) (one_at site) between → WithinFrom at (one_at site) (doing_at between on)
    within between is = record {
      counts = λ k.
          let first = begun_off k in
          let more = is.counts k in
          let last : begun_at k (doing_at between on) ≡ begun_at k between = begun_still k between.progress.did on (marks_other load.data_races marks.Enable) in
          omega (arith, first, more, last);
      scopes = is.scopes;
    }

    pub load_open : site < 256 → begun_at site at < 256 → AreOwn (checks_of s) at.scopes → HasBytes s (variable_of load.fetch)
        → PartIsOpen ℕ (λ before records loaded after rest. StepsOfLoad s site load before records loaded after rest) at
        (λ loaded after. WithinFrom at (one_at site) after)
    load_open below few own has =
        let few_off : begun_at site (doing_at at off) < 256 = (let same = begun_off site in omega (arith, same, few)) in
        part_via Effect ℕ AccessSteps LoadSteps at (doing_at at off) value_of end_of
        (λ effect between. WithinFrom (doing_at at off) (one_at site) between) (λ loaded after. WithinFrom at (one_at site) after) into out
        (made_to_open (doing_at at off) site (variable_of load.fetch) (fetch_kind load.fetch) operation below few_off own has)
        (λ effect between is. within between is)

  -- an expression
  pub expression_open : (registers : ℕ) (at : Core) (site : ℕ) (e : Expression) → ExpressionTyped (IsVariable s.text.variables) registers e
      → (expression_has_access e ≡ true → site < 256) → ((k : ℕ) → begun_at k at + own_begins (expression_has_access e) site k ≤ 256)
      → AreOwn (checks_of s) at.scopes
      → PartIsOpen ℕ (λ before records value after rest. StepsOfExpression s site e before records value after rest) at
      (λ value after. WithinFrom at (own_begins (expression_has_access e) site) after)
  expression_open registers at site (tree.pure e) typed below room own =
      part_still ℕ (λ before records value after rest. StepsOfExpression s site (tree.pure e) before records value after rest) at
      (pure_value at.progress.registers e) at (λ value after. WithinFrom at (λ k. 0) after)
      (record { counts = λ k. omega arith; scopes = refl })
      (λ way outcomes records value after rest h. (h.0, ap core_of h.1, h.2))
      (λ way outcomes records. (standing at way outcomes, (refl, refl, refl), refl))
  expression_open registers at site (tree.loading e) typed below room own =
      part_via ℕ ℕ (λ before records loaded after rest. StepsOfLoad s site (load_in e) before records loaded after rest)
      (λ before records value after rest. StepsOfExpression s site (tree.loading e) before records value after rest) at at
      (λ loaded. loading_value at.progress.registers loaded e) (λ loaded between. between)
      (λ loaded after. WithinFrom at (one_at site) after) (λ value after. WithinFrom at (one_at site) after)
      (λ way outcomes records value after rest h. (way, outcomes, h.0, after, h.1, h.2, refl))
      (λ way outcomes records. (way, outcomes, λ loaded between rest steps. (between, (loaded, steps, refl), refl)))
      (load_open at site (load_in e) (below refl) (few_at s placed site at room) own (load_bytes s placed registers e typed))
      (λ loaded between is. is)
