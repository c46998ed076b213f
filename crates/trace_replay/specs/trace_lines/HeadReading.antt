-- When the head of a trace stands at the front of bytes, and reading it, as functions of bytes.
use Rattle.std.specs.Prelude.{◌≡◌, ◌++◌, ◌||◌, ℕ, List, Some, None, codes, if◌then◌else◌, nat_lt}
use Rattle.watch_word.specs.declared.layout.Layout.{Layout}
use Rattle.watch_word.specs.declared.layout.Layout.TheVariants.{W64, W32}
use Rattle.report_text.specs.Faults.{BeginsWith, BeginsWithShape, HeadStands, MayHaveSlots}
use Rattle.report_text.specs.TraceText.{Head, first, first_version, head_text, second, second_version, shape_line}
use Rattle.trace_replay.specs.declared.trace_lines.head.Head as coded
use Rattle.trace_replay.specs.declared.trace_lines.head.Head.TheVariants as heads
use Rattle.trace_replay.specs.declared.trace_lines.head.Shape.{Shape}
use Rattle.trace_replay.specs.trace_lines.FieldReaders.{◌>>=◌, decimal_at, either, means, past}
use Rattle.trace_replay.specs.trace_lines.Reading.{Read}

-- the head that code has
abbrev pub head_of : coded.Head → Head
head_of heads.First = first
head_of (heads.Second shape) = second shape.slots shape.layout

-- the bytes begin with the head of a trace, and these stand behind it
pub record IsHeadAt (bytes : List ℕ) (head : Head) (rest : List ℕ) : Type 0 where
  pub stands : HeadStands head
  pub spelled : bytes ≡ head_text head ++ rest

-- the bytes begin with a second line of version 2
pub record IsShapeAt (bytes : List ℕ) (shape : Shape) (rest : List ℕ) : Type 0 where
  pub slots : MayHaveSlots shape.slots
  pub spelled : bytes ≡ shape_line shape.slots shape.layout ++ rest

-- the bytes begin with no head, and this line of it is the first that fails
pub data HeadFailsAt (bytes : List ℕ) (number : ℕ) : Type 0 where
  no_version : ¬ BeginsWith first_version bytes → ¬ BeginsWith second_version bytes → number ≡ 1 → HeadFailsAt bytes number
  no_shape : (rest : List ℕ) → bytes ≡ second_version ++ rest → ¬ BeginsWithShape rest → number ≡ 2 → HeadFailsAt bytes number

-- the width of watch words, and the end of the line
unfoldable pub layout_at : List ℕ → Read Layout
layout_at bytes = either (means W64 (past (codes " 64\n") bytes)) (means W32 (past (codes " 32\n") bytes))

-- the second line of version 2
unfoldable pub shape_at : List ℕ → Read Shape
shape_at bytes = past (codes "shape ") bytes >>= λ b. decimal_at b >>= λ slots. layout_at slots.1 >>= λ layout.
    if nat_lt slots.0 3 || nat_lt 1024 slots.0 then None else Some (record { slots = slots.0; layout = layout.0 }, layout.1)
