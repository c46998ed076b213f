-- A part of a text leaves the scoped assertions in force as they were.
use Rattle.std.proofs.Common.{◌≡◌, ◌∙◌, ℕ, Bool, true, false, List, [], ◌∷◌, None, Option, Some, ap, drop, refl}
use Rattle.access_types.specs.Access as access
use Rattle.access_types.specs.declared.history.Happening.TheVariants as happenings
use Rattle.litmus_syntax.specs.Tree.{Block}
use Rattle.access_run.specs.declared.memory_operation.effect.Effect.{Effect}
use Rattle.access_run.specs.declared.memory_operation.operation.Operation.{Operation}
use Rattle.access_run.specs.declared.memory_operation.operation.Operation.TheVariants as operations
use Rattle.slot_table.specs.declared.records.Record.{Record}
use Rattle.program_order.specs.Access.{operated}
use Rattle.program_order.specs.Standing.{Setting, Standing, counting, doing}
use Rattle.program_order.specs.WrittenOrder.{StepsOfBlock}
use Rattle.program_order.proofs.Induction.{Kept, by_block}

abbrev pub SameScopes : Standing → List Record → Standing → List Record → Type 0
SameScopes before records after rest = after.scopes ≡ before.scopes

-- so do a call that is counted, and an operation
pub counting_scopes : (ends_nothing : Bool) (before : Standing) → (counting ends_nothing before).scopes ≡ before.scopes
counting_scopes true before = refl
counting_scopes false before = refl

pub operated_scopes : (a : access.Access) (operation : Option Operation) (before : Standing) (records : List Record) (effect : Effect) (rest : List Record)
    → (operated a operation before records effect rest).scopes ≡ before.scopes
operated_scopes a None before records effect rest = refl
operated_scopes a (Some operations.Load) before records effect rest = refl
operated_scopes a (Some (operations.Add amount)) before records effect rest = refl
operated_scopes a (Some (operations.Change change)) before records effect rest = refl

pub kept_scopes : (s : Setting) → Kept s SameScopes
kept_scopes s = record {
  still = λ before records. refl;
  joins = λ before between after records later rest p q. q ∙ p;
  marked = λ ends_nothing count m before records. counting_scopes ends_nothing before;
  lost = λ before records. refl;
  assigned = λ before records register value. refl;
  makes = λ a operation effect before records after rest h.
      ap (λ (st : Standing). st.scopes) h.comes_to
      ∙ operated_scopes a operation (doing before (drop 1 records) (happenings.Begin a ∷ [])) h.checked effect h.done;
  locks = λ lock before records rest is takes. refl;
  unlocks = λ lock before records rest has stores. refl;
  scoped = λ a assertion begun before opened closing after records inside later rest opens p closes. ap (λ (st : Standing). st.scopes) closes.comes_to;
}

pub block_leaves_scopes : (s : Setting) (site : ℕ) (body : Block) (before : Standing) (records : List Record) (after : Standing) (rest : List Record)
    → StepsOfBlock s site body before records after rest → after.scopes ≡ before.scopes
block_leaves_scopes s = by_block s SameScopes (kept_scopes s)
