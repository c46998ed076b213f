-- What is written of a pair.
use Rattle.std.specs.Prelude.{◌-◌, ℕ, List, [], ◌∷◌, None, Option, Some, codes, length, max, option_map, replicate}
use Rattle.std.specs.Fmt.{decimal}
use Rattle.std.specs.List.{concat}
use Rattle.executions.specs.execution.Run.{Run}
use Rattle.litmus_syntax.specs.declared.program.Variable.{Variable}
use Rattle.prepared_program.specs.declared.step_schedule.schedule.Entry.{Entry}
use Rattle.program_table.specs.text_pieces.Pieces.{padded}
use Rattle.race_output.specs.Reasons.{reasons_text}
use Rattle.race_output.specs.Sites.{told_of}
use Rattle.output_pieces.specs.Spots.{spot_text, statement_text}
use Rattle.output_pieces.specs.Variables.{label}
use Rattle.race_output.specs.Words.{verdict_words}
use Rattle.race_output.specs.declared.sites.SiteTold.{SiteTold}
use Rattle.races.specs.declared.verdict.PairFound.{PairFound}
use Rattle.races.specs.declared.verdict.Verdict.{Verdict}
use Rattle.races.specs.declared.verdict.Verdict.TheVariants as verdicts
use Rattle.search_text.specs.Schedules.{schedule_text}

-- what a site is called, and where it stands in the text
unfoldable pub site_text : (text : List ℕ) → SiteTold → List ℕ
site_text text site = concat
    (codes "P" ∷ decimal site.task ∷ codes " site " ∷ decimal site.site ∷ codes "  " ∷ spot_text text site.at ∷ [])

-- How many of 100 columns are left behind so many, and those of two blanks.
abbrev pub room_behind : (columns more : ℕ) → ℕ
room_behind columns more = max (98 - columns - more) 2

-- the line of a site behind what stands before it
unfoldable pub site_line : (before text : List ℕ) → SiteTold → List ℕ
site_line before text site = concat
    (before ∷ site_text text site
    ∷ statement_text text site.at (room_behind (length before) (length (site_text text site))) ∷ codes "\n" ∷ [])

-- what is told of the schedule of a pair, if it has one: under it the two are reported, or are at once
abbrev pub by_words : Verdict → List ℕ
by_words verdicts.Reported = codes "step --schedule "
by_words verdict = codes "at once by step --schedule "

abbrev pub by_text : Verdict → Option (List Entry) → List ℕ
by_text verdict None = []
by_text verdict (Some entries) = concat (by_words verdict ∷ schedule_text entries ∷ [])

-- the reasons and the schedule, of which each may be nothing, behind so many blanks; no line where there is neither
unfoldable pub last_line : (indent : ℕ) → (reasons by : List ℕ) → List ℕ
last_line indent [] [] = []
last_line indent [] by = concat (replicate indent 32 ∷ by ∷ codes "\n" ∷ [])
last_line indent reasons [] = concat (replicate indent 32 ∷ reasons ∷ codes "\n" ∷ [])
last_line indent reasons by = concat (replicate indent 32 ∷ reasons ∷ codes "; " ∷ by ∷ codes "\n" ∷ [])

-- what is written of accesses at these sites, under what stands before the first
unfoldable pub lines_of : (before text : List ℕ) → (first second : SiteTold) → Verdict → Option (List Entry) → List ℕ
lines_of before text first second verdict schedule = concat
    (site_line before text first ∷ site_line (replicate (length before) 32) text second
    ∷ last_line (length before) (reasons_text first second verdict) (by_text verdict schedule) ∷ [])

-- what stands before the first site of a pair: the verdict and the variable
unfoldable pub before_of : List Variable → (first second : SiteTold) → Verdict → List ℕ
before_of variables first second verdict = concat
    (padded (verdict_words verdict) 13 ∷ label variables first.variable second.variable ∷ codes "  " ∷ [])

-- What is written of a pair: the verdict, the variable and the two sites, each with its line and column and what is
-- written there, and behind them the reasons and a schedule that shows it.
unfoldable pub pair_text : Run → (text : List ℕ) → (places : List (List ℕ)) → PairFound → List ℕ
pair_text run text places one =
    let first = told_of run text places one.pair.first in
    let second = told_of run text places one.pair.second in
    lines_of (before_of run.program.variables first second one.verdict) text first second one.verdict
    (option_map (λ entries. entries.items) one.schedule)
