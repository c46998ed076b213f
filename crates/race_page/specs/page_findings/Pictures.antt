-- The picture of the execution that a schedule gives.
use Rattle.std.specs.Global.{Global}
use Rattle.std.specs.Prelude.{◌≡◌, [], ℕ, List, None, Option, Some, Vec}
use Rattle.executions.specs.execution.Execution.{AllHaveEnded, Execution}
use Rattle.executions.specs.execution.Reports.{reports_of}
use Rattle.executions.specs.execution.Run.{Run}
use Rattle.litmus_step.specs.Runs.{tasks_of}
use Rattle.prepared_program.specs.declared.program_sites.settings.Settings.{Settings}
use Rattle.prepared_program.specs.declared.step_schedule.schedule.Entry.{Entry}
use Rattle.prepared_program.specs.step_schedule.Order.{Runs}
use Rattle.run_output.specs.Traces.{IsTraceOf}
use Rattle.schedule_search.specs.Again.{tasks_known}
use Rattle.slot_table.specs.declared.records.Record.{Record}
use Rattle.timeline.specs.declared.picture.draw.Picture.{Picture}
use Rattle.timeline.specs.picture.Drawn.{IsPictureOf}
use Rattle.litmus_syntax.specs.declared.program.Program.{Program}
use Rattle.source_places.specs.picture_source.Source.{AreLabelsIn}
use Rattle.picture_svg.specs.Svg.{captioned_svg}
use Rattle.timeline.specs.declared.picture.labels.Label.{Label}

-- The bytes are the trace of an execution: from the first step on tasks are asked as the entries say, and then in turn,
-- until all have ended.
pub record IsTraceBy (run : Run) (settings : Settings) (entries : List Entry) (trace : List ℕ) : Type 0 where
  pub records : List Record
  pub list : Execution run records
  pub runs : Runs (tasks_known run) (tasks_of run) entries [] records
  pub over : AllHaveEnded run records
  pub trace_is : IsTraceOf settings list (reports_of list) trace

-- what is known of sites: nothing, where nothing was found
abbrev pub labels_in : Option (Vec Label Global) → List Label
labels_in None = []
labels_in (Some labels) = labels.items

-- the bytes are a picture, as SVG, with the name of the test, and with what the text of its program says of the sites
pub record IsLabelled (program : Program) (text : List ℕ) (picture : Picture) (svg : List ℕ) : Type 0 where
  pub labels : Option (Vec Label Global)
  pub labels_are : AreLabelsIn program text picture.rows.items labels
  pub svg_is : svg ≡ captioned_svg picture program.name [] (labels_in labels)

-- the bytes are the picture of a trace, as SVG, with what the text of a program says of its sites
pub record IsSvgOf (program : Program) (text trace svg : List ℕ) : Type 0 where
  pub picture : Picture
  pub drawn : IsPictureOf trace picture
  pub labelled : IsLabelled program text picture svg

-- so they are of the trace of the execution that the entries give
pub record IsPictureBy (run : Run) (program : Program) (settings : Settings) (text : List ℕ) (entries : List Entry) (svg : List ℕ) :
    Type 0 where
  pub trace : List ℕ
  pub traced : IsTraceBy run settings entries trace
  pub drawn : IsSvgOf program text trace svg
