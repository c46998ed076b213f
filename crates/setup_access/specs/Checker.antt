-- What a task does with its checker, and the records and outcomes that each stage has left.
use Rattle.std.specs.Prelude.{◌≡◌, ◌+◌, ◌-◌, ◌++◌, ℕ, List, [], ◌∷◌, Bool, Option, None, Some, drop}
use Rattle.slot_table.specs.declared.records.Record.{Record}
use Rattle.slot_table.specs.declared.step.Step.TheVariants.{Clock}
use Rattle.setup_access.specs.Check.{Check, ChecksStamped, Close, Passes, Rechecks, left_to_check}
use Rattle.setup_access.specs.Due.{pass_due}
use Rattle.setup_access.specs.PassLeft.{Given, PassLeft, ToLeft}
use Rattle.setup_access.specs.Records.{MakesWord}
use Rattle.setup_access.specs.Setting.{Setting}
use Rattle.setup_access.specs.declared.begun.Begun.{Begun}
use Rattle.setup_access.specs.declared.pass.Next.{Next}
use Rattle.setup_access.specs.declared.stage.Role.{Role}
use Rattle.setup_access.specs.declared.stage.Role.TheVariants as roles
use Rattle.setup_access.specs.declared.stage.CheckStage.{CheckStage}
use Rattle.setup_access.specs.declared.stage.CheckStage.TheVariants as stages

-- what a task does with its checker: steps 1 to 6 of an access that has begun, or the close of a scoped assertion while
-- its task is silenced or not
pub data Doing : Type 0 where
  Checks : Begun → Doing
  Closes : Begun → Bool → Doing

-- the access that may be put in force as a scoped assertion afterwards
abbrev pub last_of : Doing → Option Begun
last_of (Checks begun) = Some begun
last_of (Closes scope silenced) = None

-- the records are those of what is done, while these scoped assertions are in force, the oldest first
abbrev pub Does : Setting → List Begun → Doing → ℕ → List Record → Passes → Type 0
Does s scopes (Checks begun) asked records passes = Check s scopes begun asked records passes []
Does s scopes (Closes scope silenced) asked records passes = Close s scope silenced asked records passes []

-- what follows on the check of one access
abbrev pub RoleLeft : Setting → List Begun → Role → Bool → ℕ → List Record → Passes → Type 0
RoleLeft s scopes roles.Access settled asked records passes = Rechecks s (left_to_check settled scopes) asked records passes []
RoleLeft s scopes (roles.Scope number) settled asked records passes = Rechecks s (drop (number + 1) scopes) asked records passes []
RoleLeft s scopes roles.Closing settled asked records passes =
    (passes ≡ record { outcomes = []; asked = asked }) × MakesWord s.task Clock (λ stamp after. [] ≡ after) records

-- the records are what is left of what is done, with what it still gives
abbrev pub StageLeft : Setting → List Begun → CheckStage → ℕ → List Record → Passes → Type 0
StageLeft s scopes stages.Rest asked records passes = (passes ≡ record { outcomes = []; asked = asked }) × ([] ≡ records)
StageLeft s scopes (stages.Begin begun) asked records passes = ChecksStamped s scopes begun asked records passes []
StageLeft s scopes (stages.Check role begun pass) asked records passes =
    (given : Given) × (later : List Record) × (more : Passes) × PassLeft s begun pass asked records given later
    × RoleLeft s scopes role given.settled given.asked later more
    × (passes ≡ record { outcomes = given.outcomes ++ more.outcomes; asked = more.asked })
StageLeft s scopes (stages.End scope) asked records passes =
    (passes ≡ record { outcomes = []; asked = asked }) × MakesWord s.task Clock (λ stamp after. [] ≡ after) records

-- what is left where a check of an access leads, and what follows on it
abbrev pub ToRoleLeft : Setting → List Begun → Next → Role → Begun → ℕ → List Record → Passes → Type 0
ToRoleLeft s scopes to role begun asked records passes =
    (given : Given) × (later : List Record) × (more : Passes) × ToLeft s begun to asked records given later
    × RoleLeft s scopes role given.settled given.asked later more
    × (passes ≡ record { outcomes = given.outcomes ++ more.outcomes; asked = more.asked })

-- how many outcomes may follow on a check of an access: one for each scoped assertion left
abbrev pub role_due : Role → ℕ
role_due roles.Access = 8
role_due (roles.Scope number) = 7 - number
role_due roles.Closing = 0

-- how many outcomes may still come
abbrev pub stage_due : CheckStage → ℕ
stage_due stages.Rest = 0
stage_due (stages.Begin begun) = 9
stage_due (stages.Check role begun pass) = pass_due pass + role_due role
stage_due (stages.End scope) = 0

-- the access has begun: the stamp of its begin isn't to be drawn
abbrev pub HasBegun : CheckStage → Type 0
HasBegun stages.Rest = Unit {0}
HasBegun (stages.Begin begun) = ⊥
HasBegun (stages.Check role begun pass) = Unit {0}
HasBegun (stages.End scope) = Unit {0}

-- the scope of this assertion closes, or is closed: what is checked, and what ends, is the assertion with what was
-- decided at its begin
abbrev pub IsClosing : Begun → CheckStage → Type 0
IsClosing scope stages.Rest = Unit {0}
IsClosing scope (stages.Begin begun) = ⊥
IsClosing scope (stages.Check role begun pass) = (role ≡ roles.Closing) × (begun ≡ scope)
IsClosing scope (stages.End begun) = begun ≡ scope

-- after these records of what is done: an access has begun where there is one, and a scope that closes is this one
abbrev pub StandsAt : Doing → List Record → CheckStage → Type 0
StandsAt (Checks begun) [] stage = stage ≡ stages.Begin begun
StandsAt (Checks begun) (first ∷ later) stage = HasBegun stage
StandsAt (Closes scope silenced) records stage = IsClosing scope stage
