-- The steps of an access: its check, its operation on memory, and its end.
use Rattle.std.specs.Prelude.{◌≡◌, ◌++◌, List, [], ◌∷◌, Option, None, Some, drop}
use Rattle.access_types.specs.Access as access
use Rattle.access_types.specs.declared.history.Happening.TheVariants.{Begin, End}
use Rattle.access_run.specs.memory_operation.Effects.{moments_of, read_moments, write_moments}
use Rattle.access_run.specs.memory_operation.Operations.{Operates}
use Rattle.access_run.specs.declared.memory_operation.effect.Effect.{Effect}
use Rattle.access_run.specs.declared.memory_operation.operation.Operation.{Operation}
use Rattle.access_run.specs.declared.memory_operation.operation.Operation.TheVariants as operations
use Rattle.slot_table.specs.declared.records.Record.{Record}
use Rattle.slot_table.specs.declared.step.Step.TheVariants.{Clock}
use Rattle.setup_access.specs.Check.{Check, Passes}
use Rattle.setup_access.specs.Records.{MakesWord}
use Rattle.setup_access.specs.declared.begun.Begun.{Begun}
use Rattle.program_order.specs.Standing.{BeginsNow, Setting, Standing, checks_of, doing}

-- after an operation of which this came has happened: a compound assignment reads at its first step,
-- and all else happens at the last step
abbrev pub operated : access.Access → Option Operation → Standing → List Record → Effect
    → List Record → Standing
operated a None before records effect rest = before
operated a (Some operations.Load) before records effect rest =
    doing before rest (moments_of a effect)
operated a (Some (operations.Add amount)) before records effect rest =
    doing (doing before (drop 1 records) (read_moments a effect.read)) rest
    (write_moments a effect.written)
operated a (Some (operations.Change change)) before records effect rest =
    doing before rest (moments_of a effect)

-- the records begin with an access: its check, its operation on memory, if it has one, of which this
-- comes, and the clock step of its end. It begins at the first of them, and ends at the last.
pub record Makes (s : Setting) (before : Standing) (a : access.Access)
    (operation : Option Operation) (records : List Record) (effect : Effect) (after : Standing)
    (rest : List Record) : Type 0 where
  pub begun : Begun
  pub passes : Passes
  pub checked : List Record
  pub done : List Record
  pub begins : BeginsNow s before a begun
  pub check : Check (checks_of s) before.scopes begun before.asked records passes checked
  pub operates : Operates (checks_of s) a operation checked effect done
  pub ends : MakesWord s.text.task Clock (λ stamp later. rest ≡ later) done
  pub comes_to :
      let began : Standing = doing before (drop 1 records) (Begin a ∷ []) in
      let made : Standing = operated a operation began checked effect done in
      after ≡ record (doing made rest (End a ∷ []))
      { asked = passes.asked; outcomes = before.outcomes ++ passes.outcomes }
