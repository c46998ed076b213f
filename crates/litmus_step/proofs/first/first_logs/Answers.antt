-- One log more is of no step.
use Rattle.std.proofs.Common.{◌≡◌, ◌∙◌, ◌*◌, [], ℕ, List, Some, arith, length, slice_get, slice_index_or, subst, sym}
use Rattle.litmus_step.proofs.FirstLemmas.{each_push}
use Rattle.litmus_step.proofs.first.first_logs.Goals as goal
use Rattle.task_log.specs.Keeps.{Keeps}
use Rattle.task_log.specs.declared.log.TaskLog.{TaskLog}

-- there is room for so many accesses as the list has of a task
abbrev HasRoom : List ℕ → ℕ → TaskLog → Type 0
HasRoom accesses task log = Keeps (slice_index_or accesses task 0) (9 * slice_index_or accesses task 0) [] log

pub loop-one-preserved : goal.loop-one-preserved
loop-one-preserved c =
    let at : c.loop-one.one-index ≡ length c.loop-one.logs.items = sym c.loop-one.invariant.made ∙ c.loop-one.logs.ok.0 in
    record {
      made = omega (arith, c.push_reserved.ensures.len, c.loop-one.invariant.made);
      room = omega (arith, c.push_reserved.ensures.capacity, c.loop-one.invariant.room);
      each = subst (λ (items : List TaskLog). (task : ℕ) (log : TaskLog) → slice_get items task ≡ Some log → HasRoom c.args.accesses.now task log)
          (sym c.push_reserved.ensures.items)
          (each_push (HasRoom c.args.accesses.now) c.loop-one.logs.items c.in_ok-first_log.field-0 c.loop-one.invariant.each
          (subst (λ (n : ℕ). HasRoom c.args.accesses.now n c.in_ok-first_log.field-0) at c.in_ok-first_log.ensures));
    }
