-- One small step of the walk more, and what is due there.
use Rattle.std.proofs.Common.{◌∙◌, ◌++◌, ◌∷◌, ap, refl}
use Rattle.setup_access.specs.Shown as checker
use Rattle.task_plan.specs.Room as progress
use Rattle.task_run.proofs.BeginsLemmas.{begins_then, ends_then, to_end, walked}
use Rattle.task_run.proofs.machine.Machine.advance.Goals as goal
use Rattle.task_run.specs.Position.{nothing}
use Rattle.task_plan.specs.Left.{DueLeft, WalkLeft}

pub loop-next-init : goal.loop-next-init
loop-next-init c = record {
  stands = λ s before stands. (before, stands, λ later end. (λ h. h, λ h. h), λ later. nothing);
  room = refl;
}

pub loop-next-preserved : goal.loop-next-preserved
loop-next-preserved c = record {
  stands = λ s before stands. let so_far = c.loop-next.invariant.stands s before stands in
      ends_then s (WalkLeft s c.args.self.now.walk) before (DueLeft s c.go_on-due.result c.go_on-due.new.self) so_far.0 c.begins.new.self
      (to_end (WalkLeft s c.args.self.now.walk) (WalkLeft s c.loop-next.self.walk) (DueLeft s c.go_on-due.result c.go_on-due.new.self) before so_far.0 so_far.2 (c.go_on-due.ensures.left s))
      so_far.3
      ((rw c.in_default.is at (c.begins.ensures.begins s)) so_far.0 (λ later. walked s (so_far.0 later) c.loop-next.self _ refl (so_far.1 later)));
  room = c.begins.ensures.room ∙ (ap (λ n. n ∷ (progress.room_of c.loop-next.self.progress ++ checker.room_of c.loop-next.self.checker)) c.go_on-due.ensures.room ∙ c.loop-next.invariant.room);
}

pub returns-in-Some-clause-begins : goal.returns-in-Some-clause-begins
returns-in-Some-clause-begins c = λ s before stands. let so_far = c.loop-next.invariant.stands s before stands in
    begins_then s (WalkLeft s c.args.self.now.walk) before (DueLeft s c.go_on-due.result c.go_on-due.new.self) so_far.0 c.begins.new.self c.in-Some.next
    (to_end (WalkLeft s c.args.self.now.walk) (WalkLeft s c.loop-next.self.walk) (DueLeft s c.go_on-due.result c.go_on-due.new.self) before so_far.0 so_far.2 (c.go_on-due.ensures.left s))
    so_far.3
    ((rw c.in-Some.is at (c.begins.ensures.begins s)) so_far.0 (λ later. walked s (so_far.0 later) c.loop-next.self _ refl (so_far.1 later)))
