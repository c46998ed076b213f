-- The accesses of a task, by the stamps that its steps drew.
use Rattle.std.specs.Prelude.{◌<◌, ℕ, Bool, List, [], ◌∷◌, ◌++◌, Option, None, Some, if◌then◌else◌, is_none}
use Rattle.std.specs.List.{filter_map, list_any}
use Rattle.access_types.specs.Stamped.{Stamped}
use Rattle.setup_access.specs.declared.begun.Begun.{Begun}
use Rattle.slot_table.specs.declared.step.Answer.{Answer}
use Rattle.slot_table.specs.declared.step.Answer.TheVariants.{Word}
use Rattle.slot_table.specs.declared.step.Step.{Step}
use Rattle.slot_table.specs.declared.step.Step.TheVariants.{Clock}
use Rattle.task_log.specs.declared.noted.Noted.{Noted}
use Rattle.task_log.specs.declared.touches.Touch.{Touch}

-- an access goes on
abbrev pub goes_on : Touch → Bool
goes_on touch = is_none touch.end

-- the newest access that goes on ends at a stamp
abbrev pub end_newest : ℕ → List Touch → List Touch
end_newest stamp [] = []
end_newest stamp (touch ∷ newer) =
    if list_any goes_on newer
    then touch ∷ end_newest stamp newer
    else (if goes_on touch then record touch { end = Some stamp } else touch) ∷ newer

-- a step of the clock begins an access or ends the newest that goes on: accesses of a task never
-- overlap but for those of scoped assertions, and these end in the other order
abbrev pub touches_at : Step → Answer → Option Begun → List Touch → List Touch
touches_at Clock (Word stamp) (Some begun) before =
    before ++ record { begun = begun; begin = stamp; end = None } ∷ []
touches_at Clock (Word stamp) None before = end_newest stamp before
touches_at step answer begins before = before

-- there is room for the access that a step begins, if it begins one
abbrev pub HasRoomToBegin : Step → Answer → Option Begun → ℕ → ℕ → Type 0
HasRoomToBegin Clock (Word stamp) (Some begun) count capacity = count < capacity
HasRoomToBegin step answer begins count capacity = Unit {0}

-- the accesses of a task's steps, the latest step first, in the order of their begins
abbrev pub touches_of : List Noted → List Touch
touches_of [] = []
touches_of (latest ∷ earlier) =
    touches_at latest.step latest.answer latest.begins (touches_of earlier)

abbrev pub stamped_at : Begun → ℕ → Option ℕ → Option Stamped
stamped_at begun begin None = None
stamped_at begun begin (Some end) = Some (record {
  access = begun.access;
  begin = begin;
  end = end;
  marked = begun.marked;
  silenced = begun.silenced;
})

-- an access that has ended
abbrev pub stamped : Touch → Option Stamped
stamped touch = stamped_at touch.begun touch.begin touch.end

-- those that have ended, in the order of their begins
abbrev pub accesses_of : List Noted → List Stamped
accesses_of own = filter_map stamped (touches_of own)
