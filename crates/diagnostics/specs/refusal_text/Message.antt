-- What is said of a text that is refused.
use Rattle.std.specs.Prelude.{◌≡◌, ℕ, List, [], ◌∷◌, codes, drop}
use Rattle.std.specs.Fmt.{decimal}
use Rattle.std.specs.List.{concat}
use Rattle.litmus_lex.specs.Lines.{column_at, line_at}
use Rattle.litmus_parse.specs.Text.{file_bytes}
use Rattle.litmus_parse.specs.declared.answer.Reason.{Reason}
use Rattle.litmus_parse.specs.declared.answer.Reason.TheVariants as reasons
use Rattle.diagnostics.specs.refusal_text.Before.{word_before}
use Rattle.diagnostics.specs.refusal_text.Excerpt.{excerpt}
use Rattle.diagnostics.specs.refusal_text.Expected.{expected_text}
use Rattle.diagnostics.specs.refusal_text.FormNotes.{note_line}
use Rattle.program_table.specs.text_pieces.Shown.{shown}
use Rattle.diagnostics.specs.refusal_text.Token.{IsTokenAt}
use Rattle.diagnostics.specs.refusal_text.Words.{behind, excess_words, fault_words, more_than, unread_words}

-- what a refusal is called
abbrev pub kind_words : Reason → List ℕ
kind_words reasons.OutOfMemory = codes "out of memory"
kind_words reasons.File = codes "limit"
kind_words reasons.NotAscii = codes "not ascii"
kind_words (reasons.Limit excess) = codes "limit"
kind_words (reasons.Syntax fault expected) = codes "syntax"
kind_words (reasons.Unsupported unread expected) = codes "unsupported"

-- why it is refused, mostly behind the token that offends
unfoldable pub reason_text : Reason → List ℕ → List ℕ
reason_text reasons.OutOfMemory token = []
reason_text reasons.File token = more_than file_bytes (codes " bytes")
reason_text reasons.NotAscii token = behind token (codes "is no byte of a litmus file")
reason_text (reasons.Limit excess) token = excess_words excess
reason_text (reasons.Syntax fault expected) token = behind token (fault_words fault)
reason_text (reasons.Unsupported unread expected) token = behind token (unread_words unread)

-- the line that says where, how and why: the line is that of the error, and the column that of the byte
unfoldable pub heading : (name text : List ℕ) → (at : ℕ) → Reason → (token : List ℕ) → List ℕ
heading name text at reason token = concat
    (shown name ∷ codes ":" ∷ decimal (line_at text at) ∷ codes ":" ∷ decimal (column_at text at) ∷ codes ": "
    ∷ kind_words reason ∷ codes ": " ∷ reason_text reason token ∷ codes "\n" ∷ [])

-- what would stand there, where it is no limit that is passed
unfoldable pub expected_of : Reason → List ℕ
expected_of reasons.OutOfMemory = []
expected_of reasons.File = []
expected_of reasons.NotAscii = []
expected_of (reasons.Limit excess) = []
expected_of (reasons.Syntax fault expected) = expected_text expected
expected_of (reasons.Unsupported unread expected) = expected_text expected

-- what is said of a text that is refused at a place where this token stands, in a file of this name: nothing where
-- memory is refused
unfoldable pub refusal_text : (name text : List ℕ) → (at : ℕ) → Reason → (token : List ℕ) → List ℕ
refusal_text name text at reasons.OutOfMemory token = []
refusal_text name text at reason token = concat
    (heading name text at reason token ∷ excerpt text at ∷ expected_of reason ∷ note_line reason token (word_before text at) (drop at text) ∷ [])

-- what is said of a text that is refused at a place, in a file of this name
pub record IsRefusalText (name text : List ℕ) (at : ℕ) (reason : Reason) (said : List ℕ) : Type 0 where
  pub token : List ℕ
  pub stands : IsTokenAt text at token
  pub is : said ≡ refusal_text name text at reason token
