-- The operation goes on, or the end follows.
use Rattle.std.proofs.Common.{◌≡◌, ◌++◌, ◌∷◌, [], false, refl, true}
use Rattle.access_run.proofs.LeadsLemmas.{operated_now, still_operates}
use Rattle.access_run.proofs.stage.after_step.Goals as goal

pub returns-clause-leads : goal.returns-clause-leads
returns-clause-leads c = λ s scopes begun asked operation checked done last checker whole none runs. (
  checked,
  done ++ last ∷ [],
  refl,
  whole,
  operated_now s begun.access operation done last c.args.run.now c.effect.result none runs
      (λ source of leads. c.effect.ensures.complete s.task begun.access source of (done ++ last ∷ []) leads
      ((c.is_over.ensures s.task begun.access source of (done ++ last ∷ []) leads).0 c.if-not-is_over.false)),
)

pub returns-then-not-is_over-clause-leads : goal.returns-then-not-is_over-clause-leads
returns-then-not-is_over-clause-leads c = λ s scopes begun asked operation checked done last checker whole none runs. (
  checked,
  done ++ last ∷ [],
  refl,
  whole,
  still_operates s begun.access operation done last c.args.run.now none runs
      (λ source of leads over. let yes : c.is_over.result ≡ true = (c.is_over.ensures s.task begun.access source of (done ++ last ∷ []) leads).1 over in
      let no : c.is_over.result ≡ false = c.if-not-is_over.true in cc),
  runs,
)
