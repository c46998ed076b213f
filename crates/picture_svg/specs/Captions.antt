-- What stands above a picture: its title and its settings.
use Rattle.std.specs.Prelude.{◌==◌, ◌++◌, ◌∷◌, ℕ, Bool, List, [], codes, count_by, false, if◌then◌else◌, length, nat_lt, not, true}
use Rattle.std.specs.Fmt.{decimal}
use Rattle.std.specs.List.{concat}
use Rattle.access_types.specs.declared.arms.ArmOutcome.{ArmOutcome}
use Rattle.access_types.specs.declared.arms.ArmOutcome.TheVariants.{Quiet, Hit}
use Rattle.access_types.specs.declared.arms.ArmOutcome.TheVariants as outcomes
use Rattle.access_types.specs.declared.arms.HitResult.{HitResult}
use Rattle.access_types.specs.declared.arms.HitResult.TheVariants.{Report, Encoding, Same, Masked}
use Rattle.report_text.specs.TraceText as trace
use Rattle.trace_replay.specs.declared.trace_lines.head.Head.{Head}
use Rattle.trace_replay.specs.declared.trace_lines.head.Head.TheVariants.{First, Second}
use Rattle.trace_replay.specs.declared.trace_lines.head.Shape.{Shape}
use Rattle.watch_word.specs.declared.layout.Layout.{Layout}
use Rattle.timeline.specs.Texts.{known_or, spelled}
use Rattle.timeline.specs.declared.texts.Markup.TheVariants.{Xml}
use Rattle.timeline.specs.declared.picture.columns.Column.{Column}
use Rattle.timeline.specs.declared.picture.draw.Picture.{Picture}
use Rattle.timeline.specs.declared.picture.rows.Mark.{Mark}
use Rattle.timeline.specs.declared.picture.rows.Mark.TheVariants.{Begin, End, Race, Origin}

-- the task has accesses
abbrev pub is_shown : Column → Bool
is_shown column = not (length column.begins.items == 0)

-- the mark is that of a report
abbrev pub is_report : Mark → Bool
is_report (Begin s) = false
is_report (End s) = false
is_report (Race setter finder) = true
is_report (Origin setter old new) = true

-- a watchpoint that came to this end was taken without a report
abbrev pub is_discarded : HitResult → Bool
is_discarded Report = false
is_discarded Encoding = true
is_discarded Same = true
is_discarded Masked = true

abbrev pub is_discard : ArmOutcome → Bool
is_discard Quiet = false
is_discard outcomes.Origin = false
is_discard (Hit finder result) = is_discarded result

-- a number in front of what it counts, and the end of the noun behind it
abbrev pub number : ℕ → List ℕ
number count = if count == 0 then codes "no" else decimal count

abbrev pub ending : ℕ → List ℕ
ending count = if nat_lt count 2 then [] else codes "s"

-- so many of what the noun names: no report, 1 report, 2 reports
abbrev pub counted : ℕ → List ℕ → List ℕ
counted count noun = concat (number count ∷ codes " " ∷ noun ∷ ending count ∷ [])

-- how many tasks have accesses, how many reports there are, and how many discards, if there are any
abbrev pub tasks : Picture → List ℕ
tasks picture = counted (count_by is_shown picture.columns.items) (codes "task")

abbrev pub reports : Picture → List ℕ
reports picture = counted (count_by (λ row. is_report row.mark) picture.rows.items) (codes "report")

abbrev pub some_discards : ℕ → List ℕ
some_discards count = if count == 0 then []
    else concat (codes ", " ∷ decimal count ∷ codes " " ∷ codes "discard" ∷ ending count ∷ [])

abbrev pub discards : Picture → List ℕ
discards picture = some_discards (count_by (λ watch. is_discard watch.arm.outcome) picture.watches.items)

-- what stands between a test and its outcome
abbrev pub colon : List ℕ → List ℕ
colon [] = []
colon (byte ∷ more) = codes ": "

-- the outcome behind the name of a test, and a text
abbrev pub outcome : Picture → (test behind : List ℕ) → List ℕ
outcome picture test behind = concat (colon test ∷ tasks picture ∷ codes ", " ∷ reports picture ∷ discards picture ∷ behind ∷ [])

-- the title: the test, where it is known, and the outcome
abbrev pub title : (spelling : List ℕ → List ℕ) → Picture → (test : List ℕ) → List ℕ
title spelling picture test = spelling test ++ outcome picture test []

-- the same between texts
abbrev pub title_between : Picture → (test before behind : List ℕ) → List ℕ
title_between picture test before behind = before ++ (spelled Xml test ++ outcome picture test behind)

-- how wide watch words are
abbrev pub width_word : Layout → List ℕ
width_word layout = trace.width_word layout

-- the settings that a trace has: in version 1 none
abbrev pub shape_words : Shape → List ℕ
shape_words shape = concat (decimal shape.slots ∷ codes " slots, watch words of " ∷ width_word shape.layout ∷ codes " bits" ∷ [])

abbrev pub head_words : Head → List ℕ
head_words First = []
head_words (Second shape) = shape_words shape

-- the settings that are known, or else those of the trace
abbrev pub settings_in : (spelling : List ℕ → List ℕ) → Picture → (settings : List ℕ) → List ℕ
settings_in spelling picture settings = known_or spelling (head_words picture.head) settings

-- the same on a line
abbrev pub settings_line : Picture → (settings : List ℕ) → List ℕ
settings_line picture settings = codes "<text x=\"1em\" y=\"2.5em\"><tspan>"
    ++ (settings_in (spelled Xml) picture settings ++ codes "</tspan></text>\n")
