-- Which bytes are a true trace, and which line of others is the first that is bad or false.
use Rattle.std.specs.Prelude.{◌≡◌, ◌+◌, ◌<◌, ◌≤◌, ◌++◌, ℕ, List, [], ◌∷◌, length}
use Rattle.std.specs.List.{flat_map}
use Rattle.watch_word.specs.declared.layout.Layout.{Layout}
use Rattle.report_text.specs.Line.{line_text}
use Rattle.report_text.specs.Standing.{Stands}
use Rattle.report_text.specs.TraceText.{Head, end_line, first, first_version, head_text, second, second_version, shape_line}
use Rattle.report_text.specs.Truth.{IsTrueEnd, IsTrueLine}
use Rattle.report_text.specs.declared.line.Line.{Line}

-- a trace has at most so many bytes
abbrev pub size_limit : ℕ
size_limit = 33554432

-- so many slots there may be
abbrev pub MayHaveSlots : ℕ → Type 0
MayHaveSlots slots = (3 ≤ slots) × (slots ≤ 1024)

-- the head is one of a trace
abbrev pub HeadStands : Head → Type 0
HeadStands first = Unit {0}
HeadStands (second slots layout) = MayHaveSlots slots

-- how many lines the head has
abbrev pub head_lines : Head → ℕ
head_lines first = 1
head_lines (second slots layout) = 2

-- each of the lines may stand after those before it, and is true
abbrev pub AreTrue : Head → List Line → List Line → Type 0
AreTrue head before [] = Unit {0}
AreTrue head before (line ∷ more) =
    Stands head before line × IsTrueLine head before line × AreTrue head (before ++ line ∷ []) more

-- the bytes are a head, and lines that may stand there and are true, and then the rest
pub record BeginsTruly (bytes : List ℕ) (head : Head) (all : List Line) (rest : List ℕ) : Type 0 where
  pub within : length bytes ≤ size_limit
  pub head_stands : HeadStands head
  pub spelled : bytes ≡ head_text head ++ flat_map line_text all ++ rest
  pub lines_true : AreTrue head [] all

-- the bytes are a true trace of these lines
pub record IsTrueTrace (bytes : List ℕ) (head : Head) (all : List Line) : Type 0 where
  pub begins : BeginsTruly bytes head all end_line
  pub end_true : IsTrueEnd head all

-- the number of the line after these
abbrev pub next_line : Head → List Line → ℕ
next_line head all = head_lines head + length all + 1

-- some bytes begin with the text
abbrev pub BeginsWith : List ℕ → List ℕ → Type 0
BeginsWith text bytes = (more : List ℕ) × (bytes ≡ text ++ more)

-- the bytes begin with a second line of version 2
abbrev pub BeginsWithShape : List ℕ → Type 0
BeginsWithShape bytes = (slots : ℕ) × (layout : Layout) × MayHaveSlots slots × BeginsWith (shape_line slots layout) bytes

-- the bytes begin with a line that may stand after these
abbrev pub BeginsWithLine : Head → List Line → List ℕ → Type 0
BeginsWithLine head before bytes = (line : Line) × Stands head before line × BeginsWith (line_text line) bytes

-- the line of this number is the first that fails, by its form or its place; a file above the limit
-- fails at line 0
pub data BadTraceAt (bytes : List ℕ) (number : ℕ) : Type 0 where
  too_long : size_limit < length bytes → number ≡ 0 → BadTraceAt bytes number
  no_version : length bytes ≤ size_limit → ¬ BeginsWith first_version bytes
      → ¬ BeginsWith second_version bytes → number ≡ 1 → BadTraceAt bytes number
  no_shape : (rest : List ℕ) → length bytes ≤ size_limit → bytes ≡ second_version ++ rest
      → ¬ BeginsWithShape rest → number ≡ 2 → BadTraceAt bytes number
  no_line : (head : Head) (all : List Line) (rest : List ℕ) → BeginsTruly bytes head all rest
      → ¬ BeginsWithLine head all rest → ¬ BeginsWith end_line rest
      → number ≡ next_line head all → BadTraceAt bytes number
  goes_on : (head : Head) (all : List Line) (more : List ℕ) → BeginsTruly bytes head all (end_line ++ more)
      → IsTrueEnd head all → 0 < length more
      → number ≡ next_line head all + 1 → BadTraceAt bytes number

-- the line of this number is the first that fails: it may stand there, and isn't true
pub data FalseReportAt (bytes : List ℕ) (number : ℕ) : Type 0 where
  false_line : (head : Head) (all : List Line) (line : Line) (more : List ℕ)
      → BeginsTruly bytes head all (line_text line ++ more) → Stands head all line
      → ¬ IsTrueLine head all line → number ≡ next_line head all → FalseReportAt bytes number
  false_end : (head : Head) (all : List Line) (more : List ℕ) → BeginsTruly bytes head all (end_line ++ more)
      → ¬ IsTrueEnd head all → number ≡ next_line head all → FalseReportAt bytes number
