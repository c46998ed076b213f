-- What became of the watchpoints of an access, where that was no report of two accesses.
use Rattle.std.specs.Prelude.{◌+◌, ◌-◌, ◌^◌, ◌==◌, ◌&&◌, ◌++◌, ◌∷◌, ℕ, Bool, List, [], codes, fold, if◌then◌else◌, min, true}
use Rattle.std.specs.Fmt.{decimal}
use Rattle.std.specs.List.{concat}
use Rattle.access_types.specs.Stamped.{Stamped}
use Rattle.access_types.specs.Ticket.{ticket_number}
use Rattle.access_types.specs.declared.arms.ArmOutcome.{ArmOutcome}
use Rattle.access_types.specs.declared.arms.ArmOutcome.TheVariants.{Quiet, Origin, Hit}
use Rattle.access_types.specs.declared.arms.HitResult.{HitResult}
use Rattle.access_types.specs.declared.arms.HitResult.TheVariants.{Report, Encoding, Same, Masked}
use Rattle.timeline.specs.declared.picture.watches.Watch.{Watch}
use Rattle.picture_svg.specs.declared.notes.Tally.{Tally}
use Rattle.picture_svg.specs.Lines.{line_end, line_start}

-- one more, up to 2^64 - 1
abbrev pub one_more : ℕ → ℕ
one_more count = min (count + 1) (2 ^ 64 - 1)

-- with one watchpoint more that came to this end
abbrev pub with_hit : Tally → HitResult → Tally
with_hit tally Report = tally
with_hit tally Encoding = record tally { encoding = one_more tally.encoding }
with_hit tally Same = record tally { same = one_more tally.same }
with_hit tally Masked = record tally { masked = one_more tally.masked }

abbrev pub with_outcome : Tally → ArmOutcome → Tally
with_outcome tally Quiet = record tally { quiet = one_more tally.quiet }
with_outcome tally Origin = record tally { origin = one_more tally.origin }
with_outcome tally (Hit finder result) = with_hit tally result

-- with one watchpoint more, if the access with this ticket had set it up
abbrev pub with_watch : (setter : ℕ) → Tally → Watch → Tally
with_watch setter tally watch = if watch.arm.setter == setter then with_outcome tally watch.arm.outcome else tally

-- how many watchpoints of the access came to which end
abbrev pub none : Tally
none = record { quiet = 0; origin = 0; encoding = 0; same = 0; masked = 0 }

abbrev pub tally_of : List Watch → Stamped → Tally
tally_of watches s = fold (with_watch (ticket_number s.access)) none watches

-- how often, if more than once
abbrev pub times : ℕ → List ℕ
times count = if count == 1 then [] else decimal count ++ codes " "

-- that so many came to this end, behind those that are told already
abbrev pub entry : (is_first : Bool) → (count : ℕ) → (word : List ℕ) → List ℕ
entry is_first count word = if count == 0 then []
    else concat ((if is_first then [] else codes ", ") ∷ times count ∷ word ∷ [])

abbrev pub quiet_entry : Tally → List ℕ
quiet_entry t = entry true t.quiet (codes "quiet")

abbrev pub origin_entry : Tally → List ℕ
origin_entry t = entry (t.quiet == 0) t.origin (codes "unknown origin")

abbrev pub encoding_entry : Tally → List ℕ
encoding_entry t = entry ((t.quiet == 0) && (t.origin == 0)) t.encoding (codes "discarded: encoding")

abbrev pub same_entry : Tally → List ℕ
same_entry t = entry (((t.quiet == 0) && (t.origin == 0)) && (t.encoding == 0)) t.same (codes "discarded: same")

abbrev pub masked_entry : Tally → List ℕ
masked_entry t = entry ((((t.quiet == 0) && (t.origin == 0)) && (t.encoding == 0)) && (t.same == 0)) t.masked (codes "discarded: masked")

abbrev pub note_of : Tally → List ℕ
note_of t = concat (quiet_entry t ∷ origin_entry t ∷ encoding_entry t ∷ same_entry t ∷ masked_entry t ∷ [])

-- the note on the watchpoints of the access, as 2 quiet, discarded: same
abbrev pub note : List Watch → Stamped → List ℕ
note watches s = note_of (tally_of watches s)

abbrev pub is_silent : Tally → Bool
is_silent t = (((((t.quiet == 0) && (t.origin == 0)) && (t.encoding == 0)) && (t.same == 0)) && (t.masked == 0))

-- the same as a line in the row in which the access ends
abbrev pub told : Tally → (x y : ℕ) → List ℕ
told t x y = concat (line_start x y (codes "0.65") ∷ quiet_entry t ∷ origin_entry t ∷ encoding_entry t ∷ same_entry t
    ∷ masked_entry t ∷ line_end ∷ codes "\n" ∷ [])

abbrev pub note_text : List Watch → Stamped → (x y : ℕ) → List ℕ
note_text watches s x y = if is_silent (tally_of watches s) then [] else told (tally_of watches s) x y
