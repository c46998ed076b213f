-- What is said of an access.
use Rattle.std.specs.Prelude.{◌&&◌, ◌++◌, ◌∷◌, ℕ, List, [], codes, if◌then◌else◌, not}
use Rattle.std.specs.Fmt.{decimal}
use Rattle.std.specs.List.{concat}
use Rattle.access_types.specs.Kind.{access_words, is_marked}
use Rattle.access_types.specs.ReportText.{hex, repeat_words}
use Rattle.access_types.specs.Stamped.{Stamped}
use Rattle.access_types.specs.Ticket.{rep_in, site_in, task_in}
use Rattle.access_types.specs.declared.arms.ArmOutcome.{ArmOutcome}
use Rattle.access_types.specs.declared.arms.ArmOutcome.TheVariants.{Quiet, Origin, Hit}
use Rattle.access_types.specs.declared.arms.HitResult.{HitResult}
use Rattle.access_types.specs.declared.arms.HitResult.TheVariants.{Report, Encoding, Same, Masked}

-- the access of a task at a site and a repetition, as P0 site 2 repeat 1
abbrev pub place : (task site rep : ℕ) → List ℕ
place task site rep = codes "P" ++ decimal task ++ codes " site " ++ decimal site ++ repeat_words rep

abbrev pub place_of : Stamped → List ℕ
place_of s = place s.access.task s.access.site s.access.rep

abbrev pub place_in : ℕ → List ℕ
place_in ticket = place (task_in ticket) (site_in ticket) (rep_in ticket)

-- what it does, in front of where it does it, as P0 read
abbrev pub doing : Stamped → List ℕ
doing s = concat (codes "P" ∷ decimal s.access.task ∷ codes " " ∷ access_words s.access.kind ∷ codes " " ∷ [])

-- the address of its first byte, as 0x10000
abbrev pub address : Stamped → List ℕ
address s = codes "0x" ++ hex 1 s.access.addr

-- how many bytes it has
abbrev pub size_words : Stamped → List ℕ
size_words s = decimal s.access.size ++ codes " bytes"

-- it counted as marked, and isn't declared so; it was silenced
abbrev pub marked_words : Stamped → List ℕ
marked_words s = if s.marked && not (is_marked s.access.kind) then codes " (counts as marked)" else []

abbrev pub silenced_words : Stamped → List ℕ
silenced_words s = if s.silenced then codes " (silenced)" else []

-- its site and repetition, and what its task's context made of it
abbrev pub site_words : Stamped → List ℕ
site_words s = codes "site " ++ decimal s.access.site ++ repeat_words s.access.rep ++ marked_words s ++ silenced_words s

-- what became of a hit
abbrev pub result_word : HitResult → List ℕ
result_word Report = codes "report"
result_word Encoding = codes "encoding"
result_word Same = codes "same"
result_word Masked = codes "masked"

-- who took a watchpoint, and what became of that
abbrev pub hit_words : (finder : ℕ) → HitResult → List ℕ
hit_words finder result = codes "taken by " ++ place_in finder ++ codes ": " ++ result_word result

-- what became of a watchpoint
abbrev pub outcome_words : ArmOutcome → List ℕ
outcome_words Quiet = codes "quiet"
outcome_words Origin = codes "unknown origin"
outcome_words (Hit finder result) = hit_words finder result
