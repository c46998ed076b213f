-- One task more is led to by no record.
use Rattle.std.proofs.Common.{◌≡◌, ◌∙◌, [], ℕ, List, Some, ap, arith, length, slice_get, subst, sym}
use Rattle.std.proofs.lemmas.List.{length-map}
use Rattle.litmus_syntax.specs.Views.{task_of}
use Rattle.litmus_step.proofs.FirstLemmas.{each_push}
use Rattle.litmus_step.proofs.first.first_tasks.Goals as goal
use Rattle.litmus_step.specs.Leads.{LeadsTask}
use Rattle.prepared_program.specs.program_sites.Prepared.{sites_in}
use Rattle.litmus_step.specs.Runs.{run_of}
use Rattle.task_run.specs.Points.{HasMade}
use Rattle.task_run.specs.declared.run.TaskRun.{TaskRun}

pub loop-number-preserved : goal.loop-number-preserved
loop-number-preserved c =
    record {
      room = omega (arith, c.push_reserved.ensures.capacity, c.loop-number.invariant.room);
      made = omega (arith, c.push_reserved.ensures.len, c.loop-number.invariant.made);
      led = λ settings prepared.
          let run = run_of c.args.program.now settings (sites_in c.args.prepared.now) in
          let number : c.loop-number.number ≡ length c.loop-number.machines.items = sym c.loop-number.invariant.made
          ∙ c.loop-number.machines.ok.0 in
          subst (λ (items : List TaskRun). (task : ℕ) (machine : TaskRun)
          → slice_get items task ≡ Some machine → LeadsTask run task [] machine)
          (sym c.push_reserved.ensures.items)
          (each_push (λ task machine. LeadsTask run task [] machine) c.loop-number.machines.items c.in_ok-machine.machine
          (c.loop-number.invariant.led settings prepared)
          (subst (λ n. LeadsTask run n [] c.in_ok-machine.machine) number (c.in_ok-machine.ensures.led settings prepared)));
      points = subst (λ (items : List TaskRun). (task : ℕ) (machine : TaskRun) → slice_get items task ≡ Some machine → HasMade [] machine)
          (sym c.push_reserved.ensures.items)
          (each_push (λ task machine. HasMade [] machine) c.loop-number.machines.items c.in_ok-machine.machine c.loop-number.invariant.points
          c.in_ok-machine.ensures.points);
    }

pub returns-clause-led : goal.returns-clause-led
returns-clause-led c = λ settings prepared. record {
  all =
      let number : c.loop-number.machines.len ≡ length c.as_slice-count.result.now =
      omega (arith, c.loop-number.invariant.made, c.loop-number-test.false) in
      sym c.loop-number.machines.ok.0 ∙ number ∙ ap length c.as_slice-count.ensures
      ∙ sym (length-map c.args.program.now.tasks task_of);
  each = c.loop-number.invariant.led settings prepared;
}
