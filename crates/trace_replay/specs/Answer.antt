-- What is answered of a trace.
use Rattle.std.specs.Prelude.{◌≡◌, ◌++◌, ℕ, List, [], ◌∷◌, Err, MatchResult, Ok, Result, length}
use Rattle.report_text.specs.Faults.{BadTraceAt, FalseReportAt, IsTrueTrace}
use Rattle.report_text.specs.Standing.{Stands, accesses_of, arms_of, reports_of, takes_of}
use Rattle.report_text.specs.TraceText.{Head, first, second}
use Rattle.report_text.specs.Truth.{IsTrueLine}
use Rattle.report_text.specs.declared.line.Line.{Line}
use Rattle.trace_replay.specs.Story.{IsStoryOf}
use Rattle.trace_replay.specs.declared.accepted.Accepted.{Accepted}
use Rattle.trace_replay.specs.declared.accepted.Accepted.TheVariants as accepted
use Rattle.trace_replay.specs.declared.accepted.TraceError.{TraceError}
use Rattle.trace_replay.specs.declared.accepted.TraceError.TheVariants.{OutOfMemory, BadTrace, FalseReport}
use Rattle.trace_replay.specs.declared.story.Story.{Story}

-- how many lines of each kind there are, in a trace with this head
abbrev pub accepted_of : Head → List Line → Accepted
accepted_of first all = accepted.First (length (accesses_of all)) (length (reports_of all))
accepted_of (second slots layout) all =
    accepted.Second (length (accesses_of all)) (length (arms_of all)) (length (takes_of all)) (length (reports_of all))

-- the bytes are a true trace, of so many lines of each kind
pub record IsAccepted (bytes : List ℕ) (counts : Accepted) : Type 0 where
  pub head : Head
  pub all : List Line
  pub is_true : IsTrueTrace bytes head all
  pub counts_are : counts ≡ accepted_of head all

-- this is refused of the bytes: the line is the first that fails, in this way
abbrev pub IsRefused : List ℕ → TraceError → Type 0
IsRefused bytes OutOfMemory = Unit {0}
IsRefused bytes (BadTrace line) = BadTraceAt bytes line
IsRefused bytes (FalseReport line) = FalseReportAt bytes line

-- what is to be answered of the bytes: that they are a true trace, with its numbers, or its first line that fails
abbrev pub IsAnswerTo : List ℕ → Result Accepted TraceError → Type 0
IsAnswerTo bytes (Ok counts) = IsAccepted bytes counts
IsAnswerTo bytes (Err OutOfMemory) = ⊥
IsAnswerTo bytes (Err (BadTrace line)) = BadTraceAt bytes line
IsAnswerTo bytes (Err (FalseReport line)) = FalseReportAt bytes line

-- the line of this number, behind these lines, is refused in this way
abbrev pub IsRefusedLine : Head → List Line → Line → ℕ → TraceError → Type 0
IsRefusedLine head all next number OutOfMemory = Unit {0}
IsRefusedLine head all next number (BadTrace line) = (line ≡ number) × (¬ Stands head all next)
IsRefusedLine head all next number (FalseReport line) =
    (line ≡ number) × Stands head all next × (¬ IsTrueLine head all next)

-- the line is true behind these lines, and the story goes on with it
pub record GoesOn (head : Head) (all : List Line) (next : Line) (story : Story) : Type 0 where
  pub stands : Stands head all next
  pub is_true : IsTrueLine head all next
  pub tells : IsStoryOf (all ++ next ∷ []) story

-- what is answered of a line behind these lines
abbrev pub IsTakenIn : Head → List Line → Line → ℕ → Result (Unit {0}) TraceError → Story → Type 0
IsTakenIn head all next number result story = MatchResult result
    (λ done. GoesOn head all next story)
    (λ error. IsRefusedLine head all next number error)
