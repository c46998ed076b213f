-- Who takes the value of a load.
use Rattle.std.proofs.Common.{◌∙◌, ℕ, List, ap, length, refl, subst, sym}
use Rattle.litmus_semantics.specs.Expressions.{loading_value}
use Rattle.litmus_syntax.specs.Views.{loading_of}
use Rattle.task_run.proofs.BeginsLemmas.{walked}
use Rattle.task_run.proofs.FollowLemmas.{takes_failing, takes_holding, takes_nobody, takes_register}
use Rattle.task_run.proofs.StandsLemmas.{stands_keeping}
use Rattle.task_run.specs.Part.{enabled}
use Rattle.task_run.specs.Stands.{Stands}
use Rattle.task_run.proofs.machine.Machine.takes.Goals as goal
use Rattle.program_order.specs.Standing.{registered}

pub returns-in-Nobody-clause-stands : goal.returns-in-Nobody-clause-stands
returns-in-Nobody-clause-stands c = λ s before stands. rw c.in-Nobody.is (takes_nobody s c.args.self.now.walk before c.args.self.now c.args.loaded refl stands)

pub returns-in-Register-clause-stands : goal.returns-in-Register-clause-stands
returns-in-Register-clause-stands c = λ s before stands. rw c.in-Register.is
    (takes_register s c.args.self.now.walk before c.enable.new.self c.in-Register.register (loading_of c.in-Register.value.now) c.in-Register.data_race c.args.loaded
    c.loading_value-value.result
    (λ later. c.loading_value-value.ensures
    ∙ ap (λ (r : List ℕ). loading_value r c.args.loaded (loading_of c.in-Register.value.now))
    (c.registers.ensures (length s.text.variables) (before later) (stands later).counts.keeps))
    c.enable.ensures.walk
    (λ later. subst (λ (n : ℕ). Stands s (enabled n (registered (before later) later c.in-Register.register c.loading_value-value.result) later) c.enable.new.self) c.so_often.ensures
    (c.enable.ensures.stands s (registered (before later) later c.in-Register.register c.loading_value-value.result) later
    (stands_keeping s (before later) (registered (before later) later c.in-Register.register c.loading_value-value.result) c.args.self.now c.assign.new.self refl refl refl
    (c.assign.ensures.keeps (length s.text.variables) (before later) later (stands later).counts.keeps) (stands later)))))

pub returns-then-loading_value-ne0-clause-stands : goal.returns-then-loading_value-ne0-clause-stands
returns-then-loading_value-ne0-clause-stands c = λ s before stands. rw c.in-Condition.is
    (takes_holding s c.args.self.now.walk before _ (loading_of c.in-Condition.value.now) c.args.loaded
    (λ later none. c.if-loading_value-ne0.true (c.loading_value.ensures
    ∙ (ap (λ (r : List ℕ). loading_value r c.args.loaded (loading_of c.in-Condition.value.now))
    (c.registers-in-Condition.ensures (length s.text.variables) (before later) (stands later).counts.keeps) ∙ none)))
    (c.holds.ensures.left s) (λ later. walked s (before later) c.args.self.now _ refl (stands later)))

pub returns-else-loading_value-ne0-clause-stands : goal.returns-else-loading_value-ne0-clause-stands
returns-else-loading_value-ne0-clause-stands c = λ s before stands. rw c.in-Condition.is
    (takes_failing s c.args.self.now.walk before c.args.self.now (loading_of c.in-Condition.value.now) c.args.loaded
    (λ later. sym (c.loading_value.ensures
    ∙ ap (λ (r : List ℕ). loading_value r c.args.loaded (loading_of c.in-Condition.value.now))
    (c.registers-in-Condition.ensures (length s.text.variables) (before later) (stands later).counts.keeps))
    ∙ c.if-loading_value-ne0.false) refl stands)
