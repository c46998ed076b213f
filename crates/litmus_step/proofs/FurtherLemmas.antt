-- Worlds to which longer lists lead.
use Rattle.std.proofs.Common.{◌≡◌, ◌↔◌, ◌+◌, ◌∷◌, ℕ, List, arith, inl, inr, subst, sym}
use Rattle.litmus_step.specs.Runs.{HasEnded, IsStuck}
use Rattle.litmus_step.specs.Steps.{LeadsTo, StepsOn}
use Rattle.litmus_step.specs.Turns.{LeadsFurther}
use Rattle.litmus_step.specs.declared.world.Stepped.TheVariants.{Ended, Moved, Stuck}
use Rattle.litmus_step.specs.declared.world.World.{World}
use Rattle.executions.specs.execution.Run.{Run}
use Rattle.slot_table.specs.declared.records.Record.{Record}

pub further_none : (world : World) → LeadsFurther 0 world world
further_none world = λ run records leads. (records, leads, omega arith)

pub further_both : (first between after : World) (some more : ℕ) → LeadsFurther some first between
    → LeadsFurther more between after → LeadsFurther (some + more) first after
further_both first between after some more one other = λ run records leads.
    let so_far = one run records leads in
    let on = other run so_far.0 so_far.1 in
    let longer = so_far.2 in
    let yet = on.2 in
    (on.0, on.1, omega (arith, longer, yet))

-- a task that is asked makes the list no shorter
pub step_further : (before after : World) (task : ℕ)
    → ((run : Run) (records : List Record) → LeadsTo run records before → StepsOn run records task before after)
    → LeadsFurther 0 before after
step_further before after task steps = λ run records leads.
    elim (steps run records leads) [
      | inl rests ↦ (records, subst (LeadsTo run records) (sym rests.1) leads, omega arith)
      | inr moves ↦ (moves.1.made ∷ records, moves.1.leads, omega arith)
    ]

-- one that goes on makes it longer
pub moved_further : (before after : World) (task : ℕ)
    → ((run : Run) (records : List Record) → LeadsTo run records before → StepsOn run records task before after)
    → ((run : Run) (records : List Record) → LeadsTo run records after → (Moved ≡ Ended ↔ HasEnded run task records))
    → ((run : Run) (records : List Record) → LeadsTo run records after → (Moved ≡ Stuck ↔ IsStuck run task records))
    → LeadsFurther 1 before after
moved_further before after task steps ended stuck = λ run records leads.
    elim (steps run records leads) [
      | inl rests ↦
          let still = subst (LeadsTo run records) (sym rests.1) leads in
          absurd (elim rests.0 [
            | inl over ↦ no_end ((ended run records still).1 over)
            | inr waits ↦ not_stuck ((stuck run records still).1 waits)
          ])
      | inr moves ↦ (moves.1.made ∷ records, moves.1.leads, omega arith)
    ]
  where
    no_end : Moved ≡ Ended → ⊥
    no_end same = cc

    not_stuck : Moved ≡ Stuck → ⊥
    not_stuck same = cc
