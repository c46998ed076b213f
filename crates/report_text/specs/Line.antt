-- How each line of a trace is spelled.
use Rattle.std.specs.Prelude.{◌==◌, ◌++◌, ℕ, List, [], Bool, codes, if◌then◌else◌, unwrap_or}
use Rattle.std.specs.Fmt.{decimal}
use Rattle.access_types.specs.ReportText.{hex, line}
use Rattle.access_types.specs.Arms.{Arm}
use Rattle.access_types.specs.Stamped.{Stamped}
use Rattle.access_types.specs.Takes.{Take}
use Rattle.access_types.specs.Ticket.{rep_in, site_in, task_in}
use Rattle.access_types.specs.declared.kind.Claim.{Claim}
use Rattle.access_types.specs.declared.kind.Claim.TheVariants.{NoWrites, NoAccesses}
use Rattle.access_types.specs.declared.kind.Kind.{Kind}
use Rattle.access_types.specs.declared.kind.Kind.TheVariants as kinds
use Rattle.access_types.specs.declared.kind.Operation.{Operation}
use Rattle.access_types.specs.declared.kind.Operation.TheVariants.{Read, Write, ReadWrite}
use Rattle.access_types.specs.declared.arms.ArmOutcome.{ArmOutcome}
use Rattle.access_types.specs.declared.arms.ArmOutcome.TheVariants.{Quiet, Origin, Hit}
use Rattle.access_types.specs.declared.arms.HitResult.{HitResult}
use Rattle.access_types.specs.declared.arms.HitResult.TheVariants as results
use Rattle.access_types.specs.declared.report.Report.{Report}
use Rattle.access_types.specs.declared.report.Report.TheVariants.{Two, Unknown}
use Rattle.report_text.specs.declared.line.Line.{Line}
use Rattle.report_text.specs.declared.line.Line.TheVariants as lines

-- a number in 16 hexadecimal digits
abbrev pub hex_field : ℕ → List ℕ
hex_field number = codes "0x" ++ hex 16 number

-- a repetition above 0 stands behind a dot
abbrev pub repetition : ℕ → List ℕ
repetition rep = if rep == 0 then [] else codes "." ++ decimal rep

-- an access by its task, its site and its repetition
abbrev pub name : ℕ → ℕ → ℕ → List ℕ
name task site rep = decimal task ++ codes " " ++ decimal site ++ repetition rep

-- the access that a ticket names
abbrev pub name_in : ℕ → List ℕ
name_in ticket = name (task_in ticket) (site_in ticket) (rep_in ticket)

-- the letter of an operation
abbrev pub operation_letter : Operation → List ℕ
operation_letter Read = codes "r"
operation_letter Write = codes "w"
operation_letter ReadWrite = codes "u"

-- the letters of an assertion
abbrev pub claim_letters : Claim → List ℕ
claim_letters NoWrites = codes "ra"
claim_letters NoAccesses = codes "wa"

-- the letters of a kind: a scope has none
abbrev pub kind_letters : Kind → List ℕ
kind_letters (kinds.Plain operation) = operation_letter operation
kind_letters (kinds.Marked operation) = operation_letter operation ++ codes "m"
kind_letters (kinds.Assert claim) = claim_letters claim
kind_letters (kinds.AssertScoped claim) = claim_letters claim

-- a letter that stands if this holds
abbrev pub letter_if : Bool → List ℕ → List ℕ
letter_if holds letter = if holds then letter else []

-- what the access is, whether it counted as marked, and whether it was silenced
abbrev pub letters : Stamped → List ℕ
letters s = kind_letters s.access.kind ++ letter_if s.marked (codes "c") ++ letter_if s.silenced (codes "s")

-- an access that has ended, with its stamps
unfoldable pub spell_access : Stamped → List ℕ
spell_access s = line (codes "access " ++ name s.access.task s.access.site s.access.rep
    ++ codes " " ++ letters s ++ codes " " ++ hex_field s.access.addr
    ++ codes " " ++ decimal s.access.size ++ codes " " ++ hex_field (unwrap_or s.access.mask 0)
    ++ codes " " ++ decimal s.begin ++ codes " " ++ decimal s.end)

-- what became of a hit, behind a blank
abbrev pub hit_word : HitResult → List ℕ
hit_word results.Report = codes " report"
hit_word results.Encoding = codes " encoding"
hit_word results.Same = codes " same"
hit_word results.Masked = codes " masked"

-- what became of an arming
abbrev pub outcome_words : ArmOutcome → List ℕ
outcome_words Quiet = codes "quiet"
outcome_words Origin = codes "origin"
outcome_words (Hit finder result) = name_in finder ++ hit_word result

-- an arming that is over
unfoldable pub spell_arm : Arm → List ℕ
spell_arm a = line (codes "arm " ++ name_in a.setter ++ codes " " ++ decimal a.number
    ++ codes " " ++ decimal a.index ++ codes " " ++ hex_field a.watch_word
    ++ codes " " ++ outcome_words a.outcome)

-- a taking that is over
unfoldable pub spell_take : Take → List ℕ
spell_take t = line (codes "take " ++ name_in t.finder ++ codes " " ++ decimal t.index
    ++ codes " " ++ name_in t.setter)

-- a race, by its setter and its finder
unfoldable pub spell_race : ℕ → ℕ → List ℕ
spell_race setter finder = line (codes "race " ++ name_in setter ++ codes " " ++ name_in finder)

-- a change of unknown origin, from one value to another
unfoldable pub spell_origin : ℕ → ℕ → ℕ → List ℕ
spell_origin setter old new =
    line (codes "origin " ++ name_in setter ++ codes " " ++ hex_field old ++ codes " " ++ hex_field new)

-- a report
abbrev pub spell_report : Report → List ℕ
spell_report (Two setter finder seen) = spell_race setter finder
spell_report (Unknown setter old new) = spell_origin setter old new

-- a line of a trace
abbrev pub line_text : Line → List ℕ
line_text (lines.Access s) = spell_access s
line_text (lines.Arm a) = spell_arm a
line_text (lines.Take t) = spell_take t
line_text (lines.Report r) = spell_report r
