-- The step that the check of one access makes next, and the records and outcomes that it has left.
use Rattle.std.specs.Prelude.{◌≡◌, ℕ, List, [], ◌∷◌, Bool, true, false, Option, None, Some}
use Rattle.skip_sampler.specs.Sampler.{LeadsTo, Sampler}
use Rattle.slot_table.specs.declared.records.Record.{Record}
use Rattle.slot_table.specs.declared.step.Step.{Step}
use Rattle.slot_table.specs.declared.step.Step.TheVariants.{Clear, Remove}
use Rattle.setup_access.specs.Check.{Ends, Fallen, GoesOn, Pass, fallen_of}
use Rattle.setup_access.specs.Parts.{FindLeft, FoundLeft, SetupLeft, find_step, found_step, setup_step}
use Rattle.setup_access.specs.Records.{MakesDone}
use Rattle.setup_access.specs.Setting.{Setting, seed_of}
use Rattle.setup_access.specs.Setup.{Frees, Judged}
use Rattle.setup_access.specs.declared.begun.Begun.{Begun}
use Rattle.setup_access.specs.declared.outcome.Outcome.{Outcome}
use Rattle.setup_access.specs.declared.outcome.Watchpoint.{Watchpoint}
use Rattle.setup_access.specs.declared.pass.Pass as code
use Rattle.setup_access.specs.declared.pass.Pass.TheVariants as passes
use Rattle.setup_access.specs.declared.pass.Next.{Next}
use Rattle.setup_access.specs.declared.pass.Next.TheVariants as tos
use Rattle.setup_access.specs.declared.pass.Transition.{Transition}

-- the task's sampler has been asked so many times
abbrev pub Samples : Setting → ℕ → Sampler → Type 0
Samples s asked sampler = LeadsTo s.rules.skip s.rules.randomize (seed_of s) asked sampler

-- what a check of an access still comes to: the outcomes that are still to come, and what a pass says besides
pub record Given : Type 0 where
  pub outcomes : List Fallen
  pub settled : Bool
  pub asked : ℕ

-- all of a pass
abbrev pub given_of : Begun → Pass → Given
given_of begun pass = record { outcomes = fallen_of begun.access pass ∷ []; settled = pass.settled; asked = pass.asked }

-- nothing but what is known
abbrev pub nothing_given : Bool → ℕ → Given
nothing_given settled asked = record { outcomes = []; settled = settled; asked = asked }

-- an outcome before what is still to come
abbrev pub with_outcome : Option Fallen → Given → Given
with_outcome None given = given
with_outcome (Some outcome) given = record { outcomes = outcome ∷ given.outcomes; settled = given.settled; asked = given.asked }

-- an outcome of this access falls before these records
abbrev pub falls_before : Begun → List Record → Option Outcome → Option Fallen
falls_before begun records None = None
falls_before begun records (Some outcome) = Some (record { access = begun.access; outcome = outcome; later = records })

-- the step of a check
abbrev pub pass_step : Setting → Begun → code.Pass → Step
pass_step s begun (passes.Find find) = find_step s begun.access find
pass_step s begun (passes.Found found) = found_step begun.access found
pass_step s begun (passes.Setup setup) = setup_step s begun.access setup
pass_step s begun (passes.Clear index) = Clear index
pass_step s begun (passes.Remove index) = Remove index

-- what follows on a look-up
abbrev pub GoesOnGiven : Setting → Begun → ℕ → Option Watchpoint → List Record → Given → List Record → Type 0
GoesOnGiven s begun asked found records given rest =
    (pass : Pass) × GoesOn s begun.access begun.marked asked found records pass rest × (given ≡ given_of begun pass)

-- what follows on a watch
abbrev pub EndsGiven : Setting → Begun → ℕ → Option Judged → List Record → Given → List Record → Type 0
EndsGiven s begun asked judged records given rest = (pass : Pass) × Ends s asked judged records pass rest × (given ≡ given_of begun pass)

-- the records are what a check has left to do
abbrev pub PassLeft : Setting → Begun → code.Pass → ℕ → List Record → Given → List Record → Type 0
PassLeft s begun (passes.Find find) asked records given rest =
    (found : Option Watchpoint) × (later : List Record) × FindLeft s begun.access find records found later × GoesOnGiven s begun asked found later given rest
PassLeft s begun (passes.Found found) asked records given rest =
    (outcome : Outcome) × FoundLeft s begun.access found records outcome rest × (given ≡ record { outcomes = record { access = begun.access; outcome = outcome; later = rest } ∷ []; settled = true; asked = asked })
PassLeft s begun (passes.Setup setup) asked records given rest =
    (judged : Option Judged) × (later : List Record) × SetupLeft s begun.access setup records judged later × EndsGiven s begun asked judged later given rest
PassLeft s begun (passes.Clear index) asked records given rest = Frees s index records rest × (given ≡ nothing_given true asked)
PassLeft s begun (passes.Remove index) asked records given rest =
    MakesDone s.task (Remove index) (λ after. rest ≡ after) records × (given ≡ nothing_given true asked)

-- what is left where an answer leads
abbrev pub ToLeft : Setting → Begun → Next → ℕ → List Record → Given → List Record → Type 0
ToLeft s begun (tos.Going pass) asked records given rest = PassLeft s begun pass asked records given rest
ToLeft s begun tos.Settled asked records given rest = (given ≡ nothing_given true asked) × (rest ≡ records)
ToLeft s begun tos.Unsettled asked records given rest = (given ≡ nothing_given false asked) × (rest ≡ records)

-- the same, with the outcome of the answer
abbrev pub TurnLeft : Setting → Begun → Transition → ℕ → List Record → Given → List Record → Type 0
TurnLeft s begun turn asked records given rest =
    (more : Given) × ToLeft s begun turn.to asked records more rest × (given ≡ with_outcome (falls_before begun records turn.outcome) more)
