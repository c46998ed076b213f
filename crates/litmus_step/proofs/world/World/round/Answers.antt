-- Each task is asked once more, and where none goes on all have ended.
use Rattle.std.proofs.Common.{◌≡◌, ◌∙◌, ◌<◌, ◌+◌, ap, arith, false, inl, inr, refl, subst, sym, true}
use Rattle.std.proofs.lemmas.Bool.Decides.{eqb_tells}
use Rattle.std.specs.List.{range_with_len}
use Rattle.litmus_step.proofs.FurtherLemmas.{further_both, further_none, moved_further, step_further}
use Rattle.litmus_step.proofs.RoundLemmas.{asked_along, nobody_after, range_more, round_spelled}
use Rattle.litmus_step.proofs.TurnLemmas.{asked_more, asked_nothing, ended_at}
use Rattle.litmus_step.proofs.world.World.round.Goals as goal
use Rattle.litmus_step.proofs.world.World.round.Goals.{in-Ended, in-Moved}
use Rattle.litmus_step.specs.Steps.{IsMachine, tasks_in}
use Rattle.litmus_step.specs.declared.world.Stepped.TheVariants.{Ended, Moved, Stuck}

pub loop-task-init : goal.loop-task-init
loop-task-init c = record {
  asked = asked_nothing c.args.self.now;
  nobody = c.requires;
  ended = λ same task machine below. absurd (omega (arith, below));
  further = λ (no : false ≡ true). absurd (cc);
  no_less = further_none c.args.self.now;
  tasks = refl;
  sites = refl;
  room = refl;
}

pub returns-in-Stuck-clause-stops : goal.returns-in-Stuck-clause-stops
returns-in-Stuck-clause-stops c =
    let below : c.loop-task.task < tasks_in c.args.self.now = omega (arith, c.loop-task-test.true, c.tasks-task-end.ensures) in
    let there : c.loop-task.task < tasks_in c.loop-task.self = omega (arith, below, c.loop-task.invariant.tasks) in
    record {
      task = c.loop-task.task;
      is = refl;
      there = omega (arith, below, c.step.ensures.tasks, c.loop-task.invariant.tasks);
      stuck = λ run records leads. (c.in-Stuck.ensures.stuck run records leads).0 refl;
      front = _;
      later = _;
      spelled = round_spelled c.loop-task.task (tasks_in c.args.self.now) below;
      asked = asked_more c.args.self.now c.loop-task.self c.step.new.self (range_with_len 0 c.loop-task.task) c.loop-task.task there
          c.loop-task.invariant.asked c.loop-task.invariant.nobody c.step.ensures.steps;
    }

pub returns-clause-asked : goal.returns-clause-asked
returns-clause-asked c =
    let all : c.loop-task.task ≡ tasks_in c.args.self.now =
    omega (arith, c.loop-task-test.false, c.tasks-task-end.ensures, c.loop-task.auto.task-end) in (
      asked_along c.args.self.now c.loop-task.self (range_with_len 0 c.loop-task.task) (range_with_len 0 (tasks_in c.args.self.now))
          (ap (λ n. range_with_len 0 n) all) c.loop-task.invariant.asked,
      c.loop-task.invariant.nobody,
    )

pub loop-task-preserved : goal.loop-task-preserved
loop-task-preserved c =
    let there : c.loop-task.task < tasks_in c.loop-task.self =
    omega (arith, c.loop-task-test.true, c.tasks-task-end.ensures, c.loop-task.invariant.tasks) in
    let asked = asked_along c.args.self.now c.step.new.self _ (range_with_len 0 (c.loop-task.task + 1)) (range_more c.loop-task.task)
    (asked_more c.args.self.now c.loop-task.self c.step.new.self (range_with_len 0 c.loop-task.task) c.loop-task.task there
    c.loop-task.invariant.asked c.loop-task.invariant.nobody c.step.ensures.steps) in
    let no_less = further_both c.args.self.now c.loop-task.self c.step.new.self 0 0 c.loop-task.invariant.no_less
    (step_further c.loop-task.self c.step.new.self c.loop-task.task c.step.ensures.steps) in
    elim c.match-step.branch [
      | in-Moved w ↦ record {
        asked = asked;
        nobody = nobody_after c.loop-task.self c.step.new.self c.loop-task.task Moved c.loop-task.invariant.nobody c.step.ensures.others
            w.in-Moved.ensures.tells (λ (no : Moved ≡ Stuck). cc);
        ended = λ same. let no : true ≡ false = sym w.goes_on-is ∙ same in absurd (cc);
        further = λ same. further_both c.args.self.now c.loop-task.self c.step.new.self 0 1 c.loop-task.invariant.no_less
            (moved_further c.loop-task.self c.step.new.self c.loop-task.task c.step.ensures.steps
            w.in-Moved.ensures.ended w.in-Moved.ensures.stuck);
        no_less = no_less;
        tasks = c.step.ensures.tasks ∙ c.loop-task.invariant.tasks;
        sites = c.step.ensures.sites ∙ c.loop-task.invariant.sites;
        room = c.step.ensures.room ∙ c.loop-task.invariant.room;
      }
      | in-Ended w ↦ record {
        asked = asked;
        nobody = nobody_after c.loop-task.self c.step.new.self c.loop-task.task Ended c.loop-task.invariant.nobody c.step.ensures.others
            w.in-Ended.ensures.tells (λ (no : Ended ≡ Stuck). cc);
        ended = λ same task machine within stands.
            elim (eqb_tells c.loop-task.task task) [
              | inl here ↦ (w.in-Ended.ensures.tells machine (subst (λ t. IsMachine c.step.new.self t machine) (sym here.1) stands)).1
              | inr apart ↦
                  let other = apart.1 in
                  c.loop-task.invariant.ended (sym w.goes_on-is ∙ same) task machine (omega (arith, within, other))
                  (sym (c.step.ensures.others task other) ∙ stands)
            ];
        further = λ same. further_both c.args.self.now c.loop-task.self c.step.new.self 1 0
            (c.loop-task.invariant.further (sym w.goes_on-is ∙ same))
            (step_further c.loop-task.self c.step.new.self c.loop-task.task c.step.ensures.steps);
        no_less = no_less;
        tasks = c.step.ensures.tasks ∙ c.loop-task.invariant.tasks;
        sites = c.step.ensures.sites ∙ c.loop-task.invariant.sites;
        room = c.step.ensures.room ∙ c.loop-task.invariant.room;
      }
    ]

pub returns-clause-ended : goal.returns-clause-ended
returns-clause-ended c = λ is.
    let same : c.loop-task.goes_on ≡ false = cc in
    let tasks = c.loop-task.invariant.tasks in
    ended_at c.loop-task.self (λ task machine below stands. c.loop-task.invariant.ended same task machine
    (omega (arith, below, tasks, c.loop-task-test.false, c.tasks-task-end.ensures)) stands)
