-- The access that a statement makes, if it makes one.
use Rattle.std.specs.Prelude.{◌-◌, ◌^◌, ◌==◌, ℕ, Bool, List, Option, None, Some, if◌then◌else◌}
use Rattle.access_types.specs.Access as access
use Rattle.access_types.specs.Access.{proper_mask}
use Rattle.access_types.specs.declared.history.Bytes.{Bytes}
use Rattle.access_types.specs.declared.kind.Claim.TheVariants.{NoAccesses, NoWrites}
use Rattle.access_types.specs.declared.kind.Kind.{Kind}
use Rattle.access_types.specs.declared.kind.Kind.TheVariants as kinds
use Rattle.litmus_semantics.specs.Assignments.{compound_kind, write_kind}
use Rattle.litmus_semantics.specs.Calls.{check_kind, checked_bytes}
use Rattle.litmus_semantics.specs.Expressions.{pure_value}
use Rattle.litmus_semantics.specs.Loads.{exchange_kind, fetch_kind, load_in, variable_of}
use Rattle.litmus_semantics.specs.Task as meaning
use Rattle.litmus_semantics.specs.Task.{access_now, bytes_in}
use Rattle.litmus_syntax.specs.Tree.{Assignment, Load}
use Rattle.litmus_syntax.specs.Tree as tree
use Rattle.litmus_syntax.specs.declared.statement.Call.{Call}
use Rattle.litmus_syntax.specs.declared.statement.Call.TheVariants as calls
use Rattle.access_run.specs.declared.memory_operation.operation.Change.TheVariants as changes
use Rattle.access_run.specs.declared.memory_operation.operation.Operation.{Operation}
use Rattle.access_run.specs.declared.memory_operation.operation.Operation.TheVariants as operations
use Rattle.task_plan.specs.Follow.{Follow, Taker, assigned, goes_on, loaded_by, marks_next, to_register}
use Rattle.task_plan.specs.Views.{Plan}
use Rattle.program_order.specs.Standing.{Setting, Standing}
use Rattle.program_order.specs.WrittenOrder.{fetch_operation}

-- of a load, whose value is taken so, with these registers
abbrev pub load_plan : meaning.Setting → List ℕ → Load → Taker → Plan
load_plan s registers load taker = record {
  bytes = bytes_in s (variable_of load.fetch);
  kind = fetch_kind load.fetch;
  mask = None;
  operation = Some (fetch_operation registers load.fetch);
  follow = loaded_by (bytes_in s (variable_of load.fetch)).size load.data_races taker;
}

-- of an assignment to a variable, inside data_race( ) or not
abbrev pub variable_plan : meaning.Setting → ℕ → Kind → Operation → Bool → Plan
variable_plan s variable kind operation data_race = record {
  bytes = bytes_in s variable;
  kind = kind;
  mask = None;
  operation = Some operation;
  follow = assigned data_race;
}

-- of an assignment; one of a value without a load to a register makes none
abbrev pub assignment_plan : meaning.Setting → List ℕ → Assignment → Bool → Option Plan
assignment_plan s registers (tree.to_register register (tree.pure value)) data_race = None
assignment_plan s registers (tree.to_register register (tree.loading value)) data_race =
    Some (load_plan s registers (load_in value) (to_register register value data_race))
assignment_plan s registers (tree.write form variable value) data_race =
    Some (variable_plan s variable (write_kind form)
    (operations.Change (changes.Write (pure_value registers value))) data_race)
assignment_plan s registers (tree.add variable value) data_race =
    Some (variable_plan s variable compound_kind (operations.Add (pure_value registers value)) data_race)
assignment_plan s registers (tree.increment variable) data_race =
    Some (variable_plan s variable compound_kind (operations.Add 1) data_race)
assignment_plan s registers (tree.atomic_add value variable) data_race =
    Some (variable_plan s variable exchange_kind
    (operations.Change (changes.AtomicAdd (pure_value registers value))) data_race)
assignment_plan s registers (tree.atomic_increment variable) data_race =
    Some (variable_plan s variable exchange_kind (operations.Change (changes.AtomicAdd 1)) data_race)
assignment_plan s registers (tree.atomic_decrement variable) data_race =
    Some (variable_plan s variable exchange_kind
    (operations.Change (changes.AtomicAdd (2 ^ 64 - 1))) data_race)

-- of a check or an assertion, which leaves memory alone
abbrev pub check_plan : Bytes → Kind → Option ℕ → Follow → Plan
check_plan bytes kind mask follow = record {
  bytes = bytes;
  kind = kind;
  mask = mask;
  operation = None;
  follow = follow;
}

-- of a call; a check of size 0 makes none
abbrev pub call_plan : meaning.Setting → Call → Option Plan
call_plan s (calls.Barrier barrier) = None
call_plan s (calls.Lock variable) = None
call_plan s (calls.Unlock variable) = None
call_plan s (calls.AssertWriter variable scoped) =
    Some (check_plan (bytes_in s variable) (kinds.Assert NoWrites) None goes_on)
call_plan s (calls.AssertAccess variable scoped) =
    Some (check_plan (bytes_in s variable) (kinds.Assert NoAccesses) None goes_on)
call_plan s (calls.AssertBits variable mask) =
    Some (check_plan (bytes_in s variable) (kinds.Assert NoWrites) (Some mask) marks_next)
call_plan s (calls.Mark mark) = None
call_plan s (calls.Check write variable size) =
    if size == 0
    then None
    else Some (check_plan (checked_bytes s variable size) (check_kind write) None goes_on)

-- the access that is planned at a site, which begins now; a mask without a bit is no mask
abbrev pub planned_access : Setting → Standing → Plan → ℕ → access.Access
planned_access s before plan site =
    access_now s.text site before.progress plan.bytes plan.kind (proper_mask plan.mask)
