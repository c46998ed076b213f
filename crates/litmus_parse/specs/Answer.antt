-- What is answered of a text that is refused.
use Rattle.std.specs.Prelude.{◌<◌, ℕ, List, length, slice_index}
use Rattle.litmus_syntax.specs.declared.error.Limit.{Limit}
use Rattle.litmus_syntax.specs.declared.error.Limit.TheVariants as limits
use Rattle.litmus_syntax.specs.declared.error.ParseError.{ParseError}
use Rattle.litmus_syntax.specs.declared.error.ParseError.TheVariants as errors
use Rattle.litmus_lex.specs.declared.cursor.Excess.{Excess}
use Rattle.litmus_lex.specs.declared.cursor.Excess.TheVariants as excesses
use Rattle.litmus_lex.specs.Lines.{line_at}
use Rattle.litmus_parse.specs.declared.answer.Reason.{Reason}
use Rattle.litmus_parse.specs.declared.answer.Reason.TheVariants as reasons
use Rattle.litmus_parse.specs.Text.{IsTextByte}

-- the limit that is passed
abbrev pub limit_of : Excess → Limit
limit_of excesses.Tasks = limits.Tasks
limit_of excesses.Statements = limits.Statements
limit_of excesses.Variables = limits.Variables
limit_of excesses.Registers = limits.Registers
limit_of excesses.Nesting = limits.Nesting
limit_of excesses.Operators = limits.Operators
limit_of excesses.Scoped = limits.Scoped
limit_of excesses.Number = limits.Number
limit_of excesses.Check = limits.Check
limit_of excesses.Turns = limits.Repeats
limit_of excesses.Repeats = limits.Repeats

-- the error for a text that is refused at a place, which has the line of the place
abbrev pub error_of : List ℕ → ℕ → Reason → ParseError
error_of text at reasons.OutOfMemory = errors.OutOfMemory
error_of text at reasons.File = errors.Limit limits.File
error_of text at reasons.NotAscii = errors.NotAscii
error_of text at (reasons.Limit excess) = errors.Limit (limit_of excess)
error_of text at (reasons.Syntax fault expected) = errors.Syntax (line_at text at)
error_of text at (reasons.Unsupported unread expected) = errors.Unsupported (line_at text at)

-- the first byte that no text has is at the place
pub record IsFirstForeign (text : List ℕ) (at : ℕ) : Type 0 where
  pub within : at < length text
  pub foreign : IsTextByte (slice_index text at) → ⊥
  pub others : (k : ℕ) → k < at → IsTextByte (slice_index text k)
