-- What is written of runs.
use Rattle.std.specs.Prelude.{◌≡◌, ◌≤◌, ◌<◌, ◌+◌, ◌++◌, ◌∷◌, [], ◌==◌, ◌&&◌, ℕ, All, Bool, List, Option, IfSome, count_by, false, is_some, length, map, not, true}
use Rattle.std.specs.List.{flat_map, sum_by}
use Rattle.access_types.specs.Sites.{AccessMap}
use Rattle.access_types.specs.declared.report.Report.{Report}
use Rattle.prepared_program.specs.declared.program_sites.settings.Settings.{Settings}
use Rattle.litmus_syntax.specs.Views.{program_of}
use Rattle.litmus_syntax.specs.declared.program.Program.{Program}
use Rattle.prepared_program.specs.program_layout.Places.{AreFit, places_of}
use Rattle.prepared_program.specs.program_sites.Sites.{AreSitesOf}
use Rattle.report_text.specs.printed_reports.Printed.{printed_reports}
use Rattle.report_text.specs.Groups.{AreGroupsOf, Group, group_text}
use Rattle.report_text.specs.ReportOf.{report_text}
use Rattle.run_output.specs.Lines.{condition_line, counters_line, stuck_line}
use Rattle.litmus_parse.specs.Read.{IsReadAs}
use Rattle.run_output.specs.Traces.{IsToBeAccepted, IsTraceOf}
use Rattle.run_stats.specs.Runs.{AreMadeApart, OneRun, StuckRun}
use Rattle.run_stats.specs.declared.times.Times.{Times}
use Rattle.task_log.specs.Counters.{resting}
use Rattle.task_log.specs.declared.counters.Counters.{Counters}

-- the reports of all runs, one run after the other
abbrev pub reports_in : {program : Program} {settings : Settings} → List (OneRun program settings) → List Report
reports_in runs = flat_map (λ one. one.result.reports.items) runs

-- and those of them that are printed, where those of unknown origin are wanted or not
abbrev pub printed_in : {program : Program} {settings : Settings} → (unknown : Bool) → AccessMap → List (OneRun program settings) → List Report
printed_in unknown sites runs = flat_map (λ one. printed_reports unknown sites one.result.reports.items) runs

-- how often each thing came of the checks of all: each sum rests at the largest number of 64 bits
pub record AreSums (all : List Counters) (sums : Counters) : Type 0 where
  pub arms : sums.arms ≡ resting (sum_by (λ one. one.arms) all)
  pub quiet : sums.quiet ≡ resting (sum_by (λ one. one.quiet) all)
  pub taken : sums.taken ≡ resting (sum_by (λ one. one.taken) all)
  pub lost : sums.lost ≡ resting (sum_by (λ one. one.lost) all)
  pub two_sided : sums.two_sided ≡ resting (sum_by (λ one. one.two_sided) all)
  pub unknown : sums.unknown ≡ resting (sum_by (λ one. one.unknown) all)
  pub encoding : sums.encoding ≡ resting (sum_by (λ one. one.encoding) all)
  pub same : sums.same ≡ resting (sum_by (λ one. one.same) all)
  pub masked : sums.masked ≡ resting (sum_by (λ one. one.masked) all)
  pub capacity : sums.capacity ≡ resting (sum_by (λ one. one.capacity) all)
  pub unencodable : sums.unencodable ≡ resting (sum_by (λ one. one.unencodable) all)

-- how many calls of all runs had nothing to end; the sum rests at the largest number of 64 bits
abbrev pub unbalanced_in : {program : Program} {settings : Settings} → List (OneRun program settings) → ℕ
unbalanced_in runs = resting (sum_by (λ one. one.found.unbalanced) runs)

-- in how many of the runs the condition held
abbrev pub held_in : {program : Program} {settings : Settings} → List (OneRun program settings) → ℕ
held_in runs = count_by (λ one. one.found.held) runs

-- What is found of runs that ended: each distinct report with how often it was seen, the sums of the counters, and in
-- how many of so many runs the condition held.
abbrev pub found_text : List Group → Counters → (unbalanced held ended : ℕ) → List ℕ
found_text groups sums unbalanced held ended = flat_map group_text groups ++ counters_line sums unbalanced ++ condition_line held ended

-- in how many of so many runs a task got stuck, where these are counted
abbrev pub stuck_text : (counted : Bool) → (stuck many : ℕ) → List ℕ
stuck_text true stuck many = stuck_line stuck many
stuck_text false stuck many = []

-- The output of runs that ended, and so many more in which a task got stuck: each distinct report that is printed, where
-- those of unknown origin are wanted or not, in the order in which they were first seen, with how often it was seen, the sums of the counters, in how many of those that ended the
-- condition held, and, where stuck runs are counted, how many of all got stuck.
pub record IsOutput {program : Program} {settings : Settings} (unknown counted : Bool) (runs : List (OneRun program settings)) (stuck : ℕ)
    (output : List ℕ) : Type 0 where
  pub sites : AccessMap
  pub sites_are : AreSitesOf (program_of program) (places_of settings.places.items) sites
  pub groups : List Group
  pub groups_are : AreGroupsOf (map (report_text sites) (printed_in unknown sites runs)) groups
  pub sums : Counters
  pub sums_are : AreSums (map (λ one. one.found.counters) runs) sums
  pub spelled : output ≡ found_text groups sums (unbalanced_in runs) (held_in runs) (length runs)
      ++ stuck_text counted stuck (length runs + stuck)

-- the trace of the last of the runs, which `replay` accepts
pub record IsTraceOfLast {program : Program} {settings : Settings} (runs : List (OneRun program settings)) (bytes : List ℕ) : Type 0 where
  pub before : List (OneRun program settings)
  pub last : OneRun program settings
  pub runs_are : runs ≡ before ++ last ∷ []
  pub trace_is : IsTraceOf settings last.once.list last.result.reports.items bytes
  pub accepted : IsToBeAccepted bytes

-- no run but the last has a report that is printed
abbrev pub AreQuietBeforeLast : {program : Program} {settings : Settings} → (unknown : Bool) → AccessMap → List (OneRun program settings) → Type 0
AreQuietBeforeLast {program = program} {settings = settings} unknown sites runs =
    (before : List (OneRun program settings)) (last : OneRun program settings) → runs ≡ before ++ last ∷ []
    → printed_in unknown sites before ≡ []

-- Of the runs that are asked for these were made and ended, and in these others a task got stuck. That is all of them,
-- or, where it is asked for, those up to the first with a report that is printed; and stuck ones are among them only where they are
-- counted. Each that ended was made by a call of its own, under a number below how many all these are. The numbers
-- rise, so just as many are left out as runs got stuck: none stands in for another that was dropped under an earlier
-- number.
pub record AreAsMany {program : Program} {settings : Settings} (times : Times) (sites : AccessMap) (runs : List (OneRun program settings))
    (stuck : List (StuckRun program settings)) : Type 0 where
  pub most : length runs + length stuck ≤ times.runs
  pub fewer : length runs + length stuck < times.runs → (times.stop_at_first ≡ true) × ¬ (printed_in times.unknown_origin sites runs ≡ [])
  pub first : times.stop_at_first ≡ true → AreQuietBeforeLast times.unknown_origin sites runs
  pub counted : times.keep_going ≡ false → stuck ≡ []
  pub apart : AreMadeApart runs
  pub numbers : All (λ one. one.result.number < length runs + length stuck) runs

-- This is left of runs of the program on threads, under these settings, as often as is asked for: whether there was a
-- report that is printed, the output, and the trace of the last run that ended, where one is wanted and there is such a run.
pub record Leave (program : Program) (settings : Settings) (times : Times) (traced : Bool) (raced : Bool) (output : List ℕ)
    (trace : Option (List ℕ)) : Type 0 where
  pub fit : AreFit program.variables settings.places.items
  pub sites : AccessMap
  pub sites_are : AreSitesOf (program_of program) (places_of settings.places.items) sites
  pub runs : List (OneRun program settings)
  pub stuck : List (StuckRun program settings)
  pub many_are : AreAsMany times sites runs stuck
  pub output_is : IsOutput times.unknown_origin times.keep_going runs (length stuck) output
  pub trace_is : IfSome trace (IsTraceOfLast runs)
  pub traced_is : is_some trace ≡ (traced && not (length runs == 0))
  pub raced_is : raced ≡ not (length (printed_in times.unknown_origin sites runs) == 0)

-- so it is of the program that the text is read as
pub record TextLeaves (text : List ℕ) (settings : Settings) (times : Times) (traced : Bool) (raced : Bool) (output : List ℕ)
    (trace : Option (List ℕ)) : Type 0 where
  pub program : Program
  pub read : IsReadAs text program
  pub leave : Leave program settings times traced raced output trace
