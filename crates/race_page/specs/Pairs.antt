-- A pair of sites.
use Rattle.std.specs.Prelude.{ℕ, List, [], ◌∷◌, None, Option, Some, codes, option_map}
use Rattle.std.specs.List.{concat, flat_map}
use Rattle.prepared_program.specs.declared.step_schedule.schedule.Entry.{Entry}
use Rattle.race_output.specs.Reasons.{reasons_of}
use Rattle.race_output.specs.Words.{said_of}
use Rattle.race_page.specs.Escape.{escaped}
use Rattle.race_page.specs.Sites.{site_row}
use Rattle.race_page.specs.Verdicts.{said_text}
use Rattle.race_page.specs.declared.values.PairTold.{PairTold}
use Rattle.races.specs.declared.verdict.Verdict.{Verdict}
use Rattle.races.specs.declared.verdict.Verdict.TheVariants as verdicts
use Rattle.search_text.specs.Schedules.{schedule_text}

-- a reason for a verdict
unfoldable pub reason_text : List ℕ → List ℕ
reason_text reason = concat (codes "<p>" ∷ escaped reason ∷ codes "</p>\n" ∷ [])

-- the reasons for the verdict on a pair
unfoldable pub why_text : PairTold → List ℕ
why_text one = flat_map reason_text (reasons_of one.first one.second one.verdict)

-- what a schedule shows: a report of the two, or that they are at once
abbrev pub by_words : Verdict → List ℕ
by_words verdicts.Reported = codes "reported by"
by_words verdict = codes "at once by"

-- a schedule, and what it shows
unfoldable pub by_schedule : Verdict → List Entry → List ℕ
by_schedule verdict entries = concat
    (codes "<p>" ∷ by_words verdict ∷ codes " <code>step --schedule " ∷ schedule_text entries
    ∷ codes "</code></p>\n" ∷ [])

-- the schedule of a pair, if there is one
abbrev pub by_text : Verdict → Option (List Entry) → List ℕ
by_text verdict None = []
by_text verdict (Some entries) = by_schedule verdict entries

-- a picture, if there is one
abbrev pub picture_text : Option (List ℕ) → List ℕ
picture_text None = []
picture_text (Some svg) = concat (codes "<figure>\n" ∷ svg ∷ codes "</figure>\n" ∷ [])

-- the verdict on a pair, and its variable
unfoldable pub pair_heading : PairTold → List ℕ
pair_heading one = concat
    (codes "<h3>" ∷ said_text (said_of one.verdict) ∷ codes " <code>" ∷ escaped one.variable.items
    ∷ codes "</code></h3>\n" ∷ [])

-- the sites of a pair
unfoldable pub pair_sites : (file : ℕ) → (text : List ℕ) → PairTold → List ℕ
pair_sites file text one = concat
    (codes "<table>\n" ∷ site_row file text one.first ∷ site_row file text one.second ∷ codes "</table>\n" ∷ [])

-- A pair of the file of this number: its verdict and variable, its sites, the reasons, a schedule that shows it, and
-- the picture.
unfoldable pub pair_text : (file : ℕ) → (text : List ℕ) → PairTold → List ℕ
pair_text file text one = concat
    (codes "<article>\n" ∷ pair_heading one ∷ pair_sites file text one ∷ why_text one
    ∷ by_text one.verdict (option_map (λ entries. entries.items) one.schedule)
    ∷ picture_text (option_map (λ svg. svg.items) one.picture) ∷ codes "</article>\n" ∷ [])
