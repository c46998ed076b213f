-- each turn adds the registers of one task
use Rattle.std.proofs.Common.{◌≡◌, ◌+◌, ◌++◌, ◌∷◌, [], ◌∙◌, ap, arith, length, length-append, map, rules, subst, sym}
use Rattle.std.proofs.lemmas.List.{length-map, map-append}
use Rattle.run_output.proofs.FinalLemmas.{registers_go_on}
use Rattle.run_output.proofs.finals.registers_of.Goals as goal
use Rattle.run_output.specs.Finals.{AreRegistersFrom}

pub loop-task-init : goal.loop-task-init
loop-task-init g c = (
  search rules,
  λ run records comes. subst (λ items. AreRegistersFrom (g.R.Ran.list_of c.args.ran.now run records comes) 0
      (map (λ values. values.items) items)) (sym c.new-registers.ensures.items) tt,
)

pub loop-task-preserved : goal.loop-task-preserved
loop-task-preserved g c =
    let copied : c.in_ok-to_vec.field-0.items ≡ c.registers.result.now = search rules in
    let all = c.loop-task.registers.items in
    let seen = c.loop-task.invariant in
    let pushed : c.push.new.self.items ≡ all ++ c.in_ok-to_vec.field-0 ∷ [] = c.in_ok-push.ensures.items in (
      ap length pushed ∙ length-append all _ ∙ ap (λ n. n + 1) seen.0,
      λ run records comes.
          let list = g.R.Ran.list_of c.args.ran.now run records comes in
          subst (λ items. AreRegistersFrom list 0 (map (λ values. values.items) items)) (sym pushed)
          (rw map-append (registers_go_on list 0 c.loop-task.task (map (λ values. values.items) all) _
          (let same = length-map all (λ values. values.items) ∙ seen.0 in omega (arith, same)) (seen.1 run records comes)
          (rw copied (c.registers.ensures run records comes)))),
    )

pub returns : goal.returns
returns g c = λ run records comes. record {
  all = length-map c.loop-task.registers.items (λ values. values.items) ∙ c.loop-task.invariant.0
      ∙ omega (arith, c.loop-task-test.false, c.loop-task.auto.task-end) ∙ c.tasks-task-end.ensures.all run records comes;
  each = c.loop-task.invariant.1 run records comes;
}
