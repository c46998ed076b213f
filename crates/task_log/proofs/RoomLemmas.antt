-- What a task keeps grows with its steps, and there is room for it as long as all of it fits.
use Rattle.std.proofs.Common.{◌≡◌, ◌+◌, ◌<◌, ◌≤◌, ◌++◌, ℕ, suc, Global, Vec, true, false, List, [], ◌∷◌, None, Option, Some, ap, arith, cond, length, refl}
use Rattle.std.proofs.lemmas.List.{length-append}
use Rattle.std.specs.List.{list_any}
use Rattle.std.specs.Prelude.{vec_capacity, vec_len}
use Rattle.access_types.specs.Arms.{Arm}
use Rattle.access_types.specs.Takes.{Take}
use Rattle.setup_access.specs.declared.begun.Begun.{Begun}
use Rattle.setup_access.specs.declared.outcome.Outcome.{Outcome}
use Rattle.slot_table.specs.declared.step.Answer.{Answer}
use Rattle.slot_table.specs.declared.step.Answer.TheVariants.{Word}
use Rattle.slot_table.specs.declared.step.Step.{Step}
use Rattle.slot_table.specs.declared.step.Step.TheVariants.{Clock, Remove, Tell}
use Rattle.task_log.specs.Arms.{arm_removed, arms_at, setter_told, takes_at}
use Rattle.task_log.specs.Keeps.{HasRoomToRemove, HasRoomToTell}
use Rattle.task_log.specs.Touches.{HasRoomToBegin, end_newest, goes_on, touches_at}
use Rattle.task_log.specs.declared.log.TaskLog.{TaskLog}
use Rattle.task_log.specs.declared.noted.Noted.{Noted}
use Rattle.task_log.specs.declared.touches.Touch.{Touch}

same_length : (stamp : ℕ) (touches : List Touch) → length (end_newest stamp touches) ≡ length touches
same_length stamp [] = refl
same_length stamp (touch ∷ newer) =
    elim (list_any goes_on newer) as (λ b. length (cond b (touch ∷ end_newest stamp newer)
    (cond (goes_on touch) (record touch { end = Some stamp }) touch ∷ newer)) ≡ suc (length newer)) [
      | true ↦ ap suc (same_length stamp newer)
      | false ↦ refl
    ]

one_more : {X : Type 0} (xs : List X) (x : X) → length (xs ++ x ∷ []) ≡ length xs + 1
one_more xs x = length-append xs (x ∷ [])

pub touches_grow : (step : Step) (answer : Answer) (begins : Option Begun) (before : List Touch)
    → length before ≤ length (touches_at step answer begins before)
touches_grow Clock (Word stamp) (Some begun) before =
    omega (arith, one_more before (record { begun = begun; begin = stamp; end = None }))
touches_grow Clock (Word stamp) None before = omega (arith, same_length stamp before)
touches_grow step answer begins before = omega arith

within_room : {X : Type 0} (kept : Vec X Global) (before : List X) (x : X) (few : ℕ) → kept.items ≡ before
    → length (before ++ x ∷ []) ≤ few → few ≤ vec_capacity kept → vec_len kept < vec_capacity kept
within_room {X = X} kept before x few is fits room =
    let same : length kept.items ≡ length before = ap (λ (xs : List X). length xs) is in
    omega (arith, kept.ok.0, same, one_more before x, fits, room)

pub room_to_begin : (step : Step) (answer : Answer) (begins : Option Begun) (kept : Vec Touch Global) (before : List Touch) (accesses : ℕ)
    → kept.items ≡ before → length (touches_at step answer begins before) ≤ accesses → accesses ≤ vec_capacity kept
    → HasRoomToBegin step answer begins (vec_len kept) (vec_capacity kept)
room_to_begin Clock (Word stamp) (Some begun) kept before accesses is few room =
    within_room kept before (record { begun = begun; begin = stamp; end = None }) accesses is few room
room_to_begin step answer begins kept before accesses is few room = tt

pub room_to_remove : (step : Step) (earlier : List Noted) (log : TaskLog) (before : List Arm) (watches : ℕ)
    → log.arms.items ≡ before → length (arms_at step earlier before) ≤ watches → watches ≤ vec_capacity log.arms
    → HasRoomToRemove step log
room_to_remove (Remove index) earlier log before watches is few room =
    within_room log.arms before (arm_removed index earlier before) watches is few room
room_to_remove step earlier log before watches is few room = tt

pub room_to_tell : (step : Step) (outcome : Option Outcome) (log : TaskLog) (before : List Take) (watches : ℕ)
    → log.takes.items ≡ before → length (takes_at step outcome before) ≤ watches → watches ≤ vec_capacity log.takes
    → HasRoomToTell step log
room_to_tell (Tell index ticket) outcome log before watches is few room =
    within_room log.takes before _ watches is few room
room_to_tell step outcome log before watches is few room = tt

-- the taking that a tell ends
take_told : ℕ → ℕ → Option Outcome → Take
take_told index ticket outcome = record { finder = ticket; index = index; setter = setter_told outcome }

pub arms_grow : (step : Step) (earlier : List Noted) (before : List Arm) → length before ≤ length (arms_at step earlier before)
arms_grow (Remove index) earlier before = omega (arith, one_more before (arm_removed index earlier before))
arms_grow step earlier before = omega arith

pub takes_grow : (step : Step) (outcome : Option Outcome) (before : List Take) → length before ≤ length (takes_at step outcome before)
unfolding take_told
takes_grow (Tell index ticket) outcome before = omega (arith, one_more before (take_told index ticket outcome))
takes_grow step outcome before = omega arith
