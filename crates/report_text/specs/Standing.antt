-- Which line may stand after others in a trace: by its kind, its stamps, and the accesses that it names.
use Rattle.std.specs.Prelude.{◌≡◌, ◌≢◌, ◌<◌, ◌≤◌, ◌+◌, ◌^◌, ◌==◌, ℕ, List, [], ◌∷◌, All, Contains, IsTrue, count_by, unwrap_or}
use Rattle.access_types.specs.Access.{IsInLimits}
use Rattle.access_types.specs.Arms.{Arm}
use Rattle.access_types.specs.Kind.{is_assertion, is_marked}
use Rattle.access_types.specs.Stamped.{Stamped}
use Rattle.access_types.specs.Takes.{Take}
use Rattle.access_types.specs.Ticket.{ticket_number}
use Rattle.access_types.specs.declared.arms.ArmOutcome.{ArmOutcome}
use Rattle.access_types.specs.declared.arms.ArmOutcome.TheVariants.{Quiet, Origin, Hit}
use Rattle.access_types.specs.declared.report.Report.{Report}
use Rattle.access_types.specs.declared.report.Report.TheVariants.{Two, Unknown}
use Rattle.report_text.specs.TraceText.{Head, first, second}
use Rattle.report_text.specs.declared.line.Line.{Line}
use Rattle.report_text.specs.declared.line.Line.TheVariants as lines

-- the accesses among lines, in order
abbrev pub accesses_of : List Line → List Stamped
accesses_of [] = []
accesses_of (lines.Access s ∷ more) = s ∷ accesses_of more
accesses_of (lines.Arm a ∷ more) = accesses_of more
accesses_of (lines.Take t ∷ more) = accesses_of more
accesses_of (lines.Report r ∷ more) = accesses_of more

-- the armings among them
abbrev pub arms_of : List Line → List Arm
arms_of [] = []
arms_of (lines.Access s ∷ more) = arms_of more
arms_of (lines.Arm a ∷ more) = a ∷ arms_of more
arms_of (lines.Take t ∷ more) = arms_of more
arms_of (lines.Report r ∷ more) = arms_of more

-- the takings among them
abbrev pub takes_of : List Line → List Take
takes_of [] = []
takes_of (lines.Access s ∷ more) = takes_of more
takes_of (lines.Arm a ∷ more) = takes_of more
takes_of (lines.Take t ∷ more) = t ∷ takes_of more
takes_of (lines.Report r ∷ more) = takes_of more

-- the reports among them
abbrev pub reports_of : List Line → List Report
reports_of [] = []
reports_of (lines.Access s ∷ more) = reports_of more
reports_of (lines.Arm a ∷ more) = reports_of more
reports_of (lines.Take t ∷ more) = reports_of more
reports_of (lines.Report r ∷ more) = r ∷ reports_of more

-- the place of a line among the kinds
abbrev pub kind_place : Line → ℕ
kind_place (lines.Access s) = 0
kind_place (lines.Arm a) = 1
kind_place (lines.Take t) = 2
kind_place (lines.Report r) = 3

-- the ticket names this access, which stands among the lines
pub record Names (before : List Line) (ticket : ℕ) (s : Stamped) : Type 0 where
  pub stands : Contains (accesses_of before) s
  pub ticket_is : ticket_number s.access ≡ ticket

-- the ticket names an access that stands among the lines
abbrev pub NamesOne : List Line → ℕ → Type 0
NamesOne before ticket = (s : Stamped) × Names before ticket s

-- what is declared marked counts as marked, and an assertion doesn't
pub record LettersAgree (s : Stamped) : Type 0 where
  pub marked : IsTrue (is_marked s.access.kind) → IsTrue s.marked
  pub assertion : IsTrue (is_assertion s.access.kind) → ¬ IsTrue s.marked

-- the two have no stamp in common
pub record HaveOtherStamps (s t : Stamped) : Type 0 where
  pub begins : s.begin ≢ t.begin
  pub ends : s.end ≢ t.end
  pub begin_end : s.begin ≢ t.end
  pub end_begin : s.end ≢ t.begin

-- an access may stand after these lines: it has bytes, it ends after it began, and neither its name
-- nor a stamp of it stood before
pub record AccessStands (before : List Line) (s : Stamped) : Type 0 where
  pub limits : IsInLimits s.access
  pub has_bytes : 0 < s.access.size
  pub mask : unwrap_or s.access.mask 0 < 2 ^ 64
  pub letters : LettersAgree s
  pub ends_later : s.begin < s.end
  pub end_limit : s.end < 2 ^ 64
  pub new_stamps : All (HaveOtherStamps s) (accesses_of before)
  pub new_name : All (λ t. ticket_number t.access ≢ ticket_number s.access) (accesses_of before)

-- the finder of a hit stands among the lines
abbrev pub FinderStands : List Line → ArmOutcome → Type 0
FinderStands before Quiet = Unit {0}
FinderStands before Origin = Unit {0}
FinderStands before (Hit finder result) = NamesOne before finder

-- an arming may stand after these lines: its accesses stand there, and its number is that of the
-- earlier armings of its access
pub record ArmStands (slots : ℕ) (before : List Line) (a : Arm) : Type 0 where
  pub setter : NamesOne before a.setter
  pub number : a.number ≡ count_by (λ b. b.setter == a.setter) (arms_of before)
  pub index : a.index ≤ slots + 1
  pub watch_word : a.watch_word < 2 ^ 64
  pub finder : FinderStands before a.outcome

-- a taking may stand after these lines
pub record TakeStands (slots : ℕ) (before : List Line) (t : Take) : Type 0 where
  pub finder : NamesOne before t.finder
  pub index : t.index ≤ slots + 1
  pub setter : NamesOne before t.setter

-- a report may stand after these lines
abbrev pub ReportStands : List Line → Report → Type 0
ReportStands before (Two setter finder seen) = NamesOne before setter × NamesOne before finder
ReportStands before (Unknown setter old new) =
    NamesOne before setter × (old < 2 ^ 64) × (new < 2 ^ 64)

-- what a line of a trace says may stand after these lines
abbrev pub ContentStands : Head → List Line → Line → Type 0
ContentStands head before (lines.Access s) = AccessStands before s
ContentStands first before (lines.Arm a) = ⊥
ContentStands (second slots layout) before (lines.Arm a) = ArmStands slots before a
ContentStands first before (lines.Take t) = ⊥
ContentStands (second slots layout) before (lines.Take t) = TakeStands slots before t
ContentStands head before (lines.Report r) = ReportStands before r

-- the line may stand after these lines: none of a later kind is among them, and what it says may
pub record Stands (head : Head) (before : List Line) (line : Line) : Type 0 where
  pub in_order : All (λ earlier. kind_place earlier ≤ kind_place line) before
  pub content : ContentStands head before line
