-- What follows on an access.
use Rattle.std.proofs.Common.{ℕ, refl, subst}
use Rattle.litmus_semantics.specs.Values.{sign_extended}
use Rattle.task_plan.specs.Views.{taker_of}
use Rattle.task_run.proofs.FollowLemmas.{follows_assignment, follows_load, follows_mark, follows_nothing}
use Rattle.task_run.specs.Due.{EndsAtOnce}
use Rattle.task_run.specs.Part.{TakerLeft, enabled}
use Rattle.task_run.specs.Stands.{Stands}
use Rattle.task_run.proofs.machine.Machine.follows.Goals as goal
use Rattle.task_plan.specs.declared.walk.Walk.{Walk}

pub returns-in-GoesOn-clause-stands : goal.returns-in-GoesOn-clause-stands
returns-in-GoesOn-clause-stands c = λ s before stands read. rw c.in-GoesOn.is (follows_nothing s c.args.self.now.walk before c.args.self.now c.args.effect refl stands)

pub returns-in-MarksNext-clause-stands : goal.returns-in-MarksNext-clause-stands
returns-in-MarksNext-clause-stands c = λ s before stands read. rw c.in-MarksNext.is
    (follows_mark s c.args.self.now.walk before c.marks_next.new.self c.args.effect c.marks_next.ensures.walk
    (λ later. c.marks_next.ensures.stands s (before later) later (stands later)))

pub returns-in-Assigned-clause-stands : goal.returns-in-Assigned-clause-stands
returns-in-Assigned-clause-stands c = λ s before stands read. rw c.in-Assigned.is
    (follows_assignment s c.args.self.now.walk before c.enable.new.self c.in-Assigned.data_race c.args.effect c.enable.ensures.walk
    (λ later. subst (λ (n : ℕ). Stands s (enabled n (before later) later) c.enable.new.self) c.so_often.ensures (c.enable.ensures.stands s (before later) later (stands later))))

pub returns-in-Some-clause-stands : goal.returns-in-Some-clause-stands
returns-in-Some-clause-stands c = λ s before stands read. rw c.in-Loaded.is
    (follows_load s c.args.self.now.walk before c.takes.new.self c.in-Loaded.size c.in-Loaded.data_races (taker_of c.in-Loaded.taker) c.args.effect c.in-Some.old c.in-Some.is
    (subst (λ (w : Walk). EndsAtOnce s (TakerLeft s w (taker_of c.in-Loaded.taker) (sign_extended c.in-Loaded.size c.in-Some.old)) (λ later. enabled c.in-Loaded.data_races (before later) later) c.takes.new.self)
    c.enable-in-Loaded.ensures.walk
    (subst (λ (n : ℕ). EndsAtOnce s (TakerLeft s c.enable-in-Loaded.new.self.walk (taker_of c.in-Loaded.taker) n) (λ later. enabled c.in-Loaded.data_races (before later) later) c.takes.new.self)
    c.sign_extended.ensures
    (c.takes.ensures.stands s (λ later. enabled c.in-Loaded.data_races (before later) later)
    (λ later. c.enable-in-Loaded.ensures.stands s (before later) later (stands later))))))
