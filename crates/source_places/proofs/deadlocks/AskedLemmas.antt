-- Tasks that are asked one after the other.
use Rattle.std.proofs.Common.{◌≡◌, ◌≢◌, ◌≤◌, ◌↔◌, ◌++◌, ◌∷◌, [], ℕ, zero, suc, List, arith, inl, inr, refl, replicate, reverse, subst, sym}
use Rattle.source_places.specs.deadlocks.Asked.{AreAsked, Asks, AsksSome, IsAsked}
use Rattle.executions.specs.execution.Run.{Run, task_of, task_setting}
use Rattle.litmus_step.proofs.FirstLemmas.{idle_has_ended, past}
use Rattle.litmus_step.specs.Runs.{HasEnded, IsStuck, tasks_of}
use Rattle.litmus_step.specs.Steps.{LeadsTo, MakesNoStep, StepsOn, tasks_in}
use Rattle.litmus_step.specs.declared.world.Stepped.{Stepped}
use Rattle.litmus_step.specs.declared.world.Stepped.TheVariants.{Ended, Moved, Stuck}
use Rattle.litmus_step.specs.declared.world.World.{World}
use Rattle.slot_table.specs.Records.{records_of}
use Rattle.slot_table.specs.declared.records.Record.{Record}

asked_one : (run : Run) (task : ℕ) (before after : List Record) → IsAsked run task before after → AreAsked run (task ∷ []) before after
asked_one run task before after asked = (after, asked, refl)

asked_then : (run : Run) (order more : List ℕ) (before between after : List Record) → AreAsked run order before between
    → AreAsked run more between after → AreAsked run (order ++ more) before after
asked_then run [] more before between after first then = subst (λ (records : List Record). AreAsked run more records after) first then
asked_then run (task ∷ order) more before between after first then =
    (first.0, first.1, asked_then run order more first.0 between after first.2 then)

asked_rest : (run : Run) (task times : ℕ) (records : List Record) → MakesNoStep run records task
    → AreAsked run (replicate times task) records records
asked_rest run task zero records none = refl
asked_rest run task (suc times) records none = (records, inl (none, refl), asked_rest run task times records none)

pub asks_nothing : (world : World) → Asks [] world world
asks_nothing world = λ run records leads. (records, leads, refl)

pub asks_along : (before after : World) (order other : List ℕ) → order ≡ other → Asks order before after → Asks other before after
asks_along before after order other same asks = subst (λ (o : List ℕ). Asks o before after) same asks

pub asks_then : (before between after : World) (order more : List ℕ) → Asks order before between → Asks more between after
    → Asks (order ++ more) before after
asks_then before between after order more first then = λ run records leads.
    let one = first run records leads in
    let two = then run one.0 one.1 in (
      two.0,
      two.1,
      asked_then run order more records one.0 two.0 one.2 two.2,
    )

pub asks_step : (before after : World) (task : ℕ)
    → ((run : Run) (records : List Record) → LeadsTo run records before → StepsOn run records task before after)
    → Asks (task ∷ []) before after
asks_step before after task steps = λ run records leads.
    elim (steps run records leads) [
      | inl rests ↦ (records, subst (LeadsTo run records) (sym rests.1) leads, asked_one run task records records (inl (rests.0, refl)))
      | inr moves ↦ (
        moves.1.made ∷ records,
        moves.1.leads,
        asked_one run task records (moves.1.made ∷ records) (inr (moves.0, (moves.1.made, moves.1.own, refl))),
      )
    ]

pub asks_rest : (world : World) (task times : ℕ)
    → ((run : Run) (records : List Record) → LeadsTo run records world → MakesNoStep run records task)
    → Asks (replicate times task) world world
asks_rest world task times none = λ run records leads. (records, leads, asked_rest run task times records (none run records leads))

-- a task that isn't there makes no step
pub asks_beyond : (world : World) (task times : ℕ) → tasks_in world ≤ task → Asks (replicate times task) world world
asks_beyond world task times beyond = asks_rest world task times
    (λ run records leads.
    let len = world.tasks.ok.0 in
    let all = leads.tasks.all in
    let over : tasks_of run ≤ task = omega (arith, beyond, len, all) in
    inl (idle_has_ended (task_setting run task) (task_of run task) (reverse (records_of task records)) (past run task over)
    (leads.list.tasks task)))

-- one that doesn't go on makes no step more
pub no_step : (run : Run) (records : List Record) (task : ℕ) (told : Stepped) → told ≢ Moved → told ≡ Ended ↔ HasEnded run task records
    → told ≡ Stuck ↔ IsStuck run task records → MakesNoStep run records task
no_step run records task Moved stays ended stuck = absurd (stays refl)
no_step run records task Ended stays ended stuck = inl (ended.0 refl)
no_step run records task Stuck stays ended stuck = inr (stuck.0 refl)

pub some_then : (before between after : World) → AsksSome before between → AsksSome between after → AsksSome before after
some_then before between after first then =
    (first.0 ++ then.0, asks_then before between after first.0 then.0 first.1 then.1)
