-- The statuses that the program ends with.
use Rattle.std.specs.Prelude.{ℕ}
use Rattle.file_commands.specs.declared.failure.Failure.{Failure}
use Rattle.file_commands.specs.declared.failure.Failure.TheVariants as failure
use Rattle.file_commands.specs.declared.complaint.Complaint.{Complaint}
use Rattle.file_commands.specs.declared.complaint.Complaint.TheVariants as complaint
use Rattle.litmus_syntax.specs.declared.error.ParseError.{ParseError}
use Rattle.litmus_syntax.specs.declared.error.ParseError.TheVariants as parse
use Rattle.prepared_program.specs.declared.program_sites.error.RunError.{RunError}
use Rattle.prepared_program.specs.declared.program_sites.error.RunError.TheVariants as run
use Rattle.run_output.specs.declared.error.EngineError.{EngineError}
use Rattle.run_output.specs.declared.error.EngineError.TheVariants as engine
use Rattle.timeline.specs.declared.picture.error.PictureError.{PictureError}
use Rattle.timeline.specs.declared.picture.error.PictureError.TheVariants as picture
use Rattle.trace_replay.specs.declared.accepted.TraceError.{TraceError}
use Rattle.trace_replay.specs.declared.accepted.TraceError.TheVariants as trace

-- the status for a litmus text that is refused
abbrev pub text_status_of : ParseError → ℕ
text_status_of parse.OutOfMemory = 71
text_status_of (parse.Syntax line) = 65
text_status_of (parse.Unsupported line) = 65
text_status_of (parse.Limit limit) = 65
text_status_of parse.NotAscii = 65

-- the status for a program that can't be run, or whose run doesn't come to its end
abbrev pub run_status_of : RunError → ℕ
run_status_of run.BadSlots = 64
run_status_of run.BadPlace = 64
run_status_of run.OutOfMemory = 71
run_status_of (run.Stuck task) = 70
run_status_of run.BadSchedule = 64
run_status_of run.NoThread = 71

-- the status for a file that has no output
abbrev pub engine_status_of : EngineError → ℕ
engine_status_of (engine.Text error) = text_status_of error
engine_status_of (engine.Run error) = run_status_of error
engine_status_of engine.SinkFailed = 74

-- the status for a trace that is not accepted
abbrev pub trace_status_of : TraceError → ℕ
trace_status_of trace.OutOfMemory = 71
trace_status_of (trace.BadTrace line) = 65
trace_status_of (trace.FalseReport line) = 65

-- the status for a trace that is not drawn
abbrev pub picture_status_of : PictureError → ℕ
picture_status_of (picture.Trace error) = trace_status_of error
picture_status_of picture.TooLong = 65

-- the status for a failure
abbrev pub status_of : Failure → ℕ
status_of failure.BadSchedule = 64
status_of failure.BadPlace = 64
status_of failure.CannotRead = 66
status_of failure.CannotWrite = 74
status_of failure.OutOfMemory = 71
status_of (failure.Engine error) = engine_status_of error
status_of (failure.Trace error) = trace_status_of error
status_of (failure.Picture error) = picture_status_of error
status_of failure.OtherSource = 65

-- the status that a complaint comes with
abbrev pub complaint_status_of : Complaint → ℕ
complaint_status_of (complaint.Usage error) = 64
complaint_status_of (complaint.Failure error) = status_of error
complaint_status_of (complaint.Explained error lines) = status_of error
complaint_status_of (complaint.Overwrites lines) = 64
complaint_status_of (complaint.Unjoined lines) = 65
complaint_status_of (complaint.Warned lines) = 0
