-- Reports are turned off, the register gets the value, and reports are turned on.
use Rattle.task_run.proofs.StopLemmas.{on_err}
use Rattle.std.proofs.Common.{◌≡◌, ◌↔◌, ◌∙◌, ℕ, List, [], ap, length, refl, subst, sym}
use Rattle.access_types.specs.declared.history.Mark.TheVariants as marks
use Rattle.litmus_semantics.specs.Expressions.{pure_value}
use Rattle.litmus_syntax.specs.Tree as tree
use Rattle.litmus_syntax.specs.Views.{pure_of}
use Rattle.slot_table.specs.declared.records.Record.{Record}
use Rattle.task_plan.specs.Follow.{so_often}
use Rattle.task_run.proofs.FollowLemmas.{ends_standing}
use Rattle.task_run.proofs.PartLemmas.{at_once_left}
use Rattle.task_run.proofs.StandsLemmas.{stands_keeping}
use Rattle.task_run.proofs.ToldLemmas.{marks_more, marks_now, registers_more}
use Rattle.task_run.specs.Due.{StatementDue}
use Rattle.task_run.specs.Part.{disabled, enabled}
use Rattle.task_run.specs.Stands.{Stands}
use Rattle.std.proofs.Common.{◌+◌, ◌<◌, ◌^◌}
use Rattle.setup_access.specs.Shown.{context_of}
use Rattle.task_run.proofs.StopLemmas.{at_once_stops}
use Rattle.task_run.proofs.machine.Machine.assigns_at_once.Goals as goal
use Rattle.task_plan.specs.Left.{WalkLeft}
use Rattle.program_order.specs.Standing.{Standing, registered}

pub returns-clause-begins : goal.returns-clause-begins
returns-clause-begins c = λ s site before stands.
    let often : ℕ = so_often c.args.data_race in
    let value : ℕ = c.pure_value-value.result in
    let start : List Record → Standing = λ later. disabled often (before later) later in
    let began : (later : List Record) → Stands s (start later) c.disable.new.self = λ later.
    subst (λ (n : ℕ). Stands s (disabled n (before later) later) c.disable.new.self) c.so_often.ensures (c.in_ok-disable.ensures.stands s (before later) later (stands later)) in
    let given : (later : List Record) → value ≡ pure_value (before later).progress.registers (pure_of c.args.value.now) = λ later.
    c.pure_value-value.ensures ∙ ap (λ (r : List ℕ). pure_value r (pure_of c.args.value.now))
    (c.registers.ensures (length s.text.variables) (start later) (began later).counts.keeps) in
    ends_standing s (StatementDue s (tree.assign c.args.data_race (tree.to_register c.args.register (tree.pure (pure_of c.args.value.now)))) site c.args.self.now.walk) before
    (λ later. enabled often (registered (start later) later c.args.register value) later) c.args.self.now.walk c.enable.new.self (c.enable.ensures.walk ∙ c.disable.ensures.walk)
    (λ later end. subst (λ (v : ℕ). StatementDue s (tree.assign c.args.data_race (tree.to_register c.args.register (tree.pure (pure_of c.args.value.now)))) site c.args.self.now.walk
    (before later) later end [] ↔ WalkLeft s c.args.self.now.walk (enabled often (registered (start later) later c.args.register v) later) later end []) (sym (given later))
    (at_once_left s c.args.self.now.walk site c.args.register (pure_of c.args.value.now) c.args.data_race (before later) later end []))
    (λ later. subst (λ (n : ℕ). Stands s (enabled n (registered (start later) later c.args.register value) later) c.enable.new.self) c.so_often-2.ensures
    (c.enable.ensures.stands s (registered (start later) later c.args.register value) later
    (stands_keeping s (start later) (registered (start later) later c.args.register value) c.disable.new.self c.assign.new.self refl refl refl
    (c.assign.ensures.keeps (length s.text.variables) (start later) later (began later).counts.keeps) (began later))))
    (λ later. marks_more later (before later) _ often marks.Enable (registers_more later (before later) _ c.args.register value (marks_now later (before later) often marks.Disable)))

pub returns-in_err-disable-clause-stops : goal.returns-in_err-disable-clause-stops
returns-in_err-disable-clause-stops c = on_err c.from_residual.result (λ s site. at_once_stops s site c.args.register (pure_of c.args.value.now) c.args.data_race c.args.self.now
    (subst (λ (n : ℕ). 2 ^ 32 < (context_of c.args.self.now.checker).disable_count + n) c.so_often.ensures c.in_err-disable.ensures.many))
