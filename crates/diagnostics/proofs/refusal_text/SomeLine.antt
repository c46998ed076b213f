-- Each refusal ends with a line on what to write: the note on its token, or else the form that is read there.
use Rattle.std.proofs.Common.{◌≡◌, ◌≢◌, ◌∙◌, ◌==◌, ℕ, Bool, List, [], ◌∷◌, ap, arith, false, length, refl, sym, true, true≢false}
use Rattle.std.specs.Prelude.{if◌then◌else◌}
use Rattle.std.proofs.lemmas.Bool.{ne_eqb}
use Rattle.litmus_lex.specs.declared.cursor.Excess.{Excess}
use Rattle.litmus_lex.specs.declared.cursor.Excess.TheVariants as excesses
use Rattle.litmus_lex.specs.declared.reason.Expected.{Expected}
use Rattle.litmus_lex.specs.declared.reason.Expected.TheVariants as places
use Rattle.litmus_lex.specs.declared.reason.Fault.{Fault}
use Rattle.litmus_lex.specs.declared.reason.Fault.TheVariants as faults
use Rattle.litmus_lex.specs.declared.sign.Sign.{Sign}
use Rattle.litmus_lex.specs.declared.sign.Sign.TheVariants as signs
use Rattle.litmus_parse.specs.declared.answer.Reason.{Reason}
use Rattle.litmus_parse.specs.declared.answer.Reason.TheVariants as reasons
use Rattle.check_notes.specs.Notes.{note_of}
use Rattle.diagnostics.specs.refusal_text.FormNotes.{fault_form, form_note, general_note, limit_note, loop_note, note_line, sign_form}

-- it has no byte
abbrev is_blank_line : List ℕ → Bool
is_blank_line [] = true
is_blank_line (byte ∷ bytes) = false

at_sign : (sign : Sign) → is_blank_line (sign_form sign) ≡ false
unfolding sign_form loop_note
at_sign signs.OpenBrace = refl
at_sign signs.CloseBrace = refl
at_sign signs.OpenParen = refl
at_sign signs.CloseParen = refl
at_sign signs.OpenBracket = refl
at_sign signs.CloseBracket = refl
at_sign signs.Semicolon = refl
at_sign signs.Comma = refl
at_sign signs.Colon = refl
at_sign signs.Assign = refl
at_sign signs.AddAssign = refl
at_sign signs.Increment = refl
at_sign signs.Plus = refl
at_sign signs.Minus = refl
at_sign signs.Star = refl
at_sign signs.Tilde = refl
at_sign signs.Not = refl
at_sign signs.Ampersand = refl
at_sign signs.Caret = refl
at_sign signs.Bar = refl
at_sign signs.Less = refl
at_sign signs.Greater = refl
at_sign signs.LessEqual = refl
at_sign signs.GreaterEqual = refl
at_sign signs.Equal = refl
at_sign signs.NotEqual = refl
at_sign signs.Conjunction = refl
at_sign signs.Disjunction = refl
at_sign signs.Slash = refl
at_sign signs.Percent = refl
at_sign signs.ShiftLeft = refl
at_sign signs.ShiftRight = refl
at_sign signs.LogicalAnd = refl
at_sign signs.LogicalOr = refl
at_sign signs.Question = refl

at_place : (expected : Expected) → is_blank_line (form_note expected) ≡ false
unfolding form_note loop_note
at_place places.Head = refl
at_place (places.Sign sign) = at_sign sign
at_place places.ParameterEnd = refl
at_place places.ItemEnd = refl
at_place places.DeclarationEnd = refl
at_place places.Number = refl
at_place places.Zero = refl
at_place places.Value = refl
at_place places.Type = refl
at_place places.Variable = refl
at_place places.IntegerVariable = refl
at_place places.AtomicVariable = refl
at_place places.LockVariable = refl
at_place places.MemoryVariable = refl
at_place places.Process = refl
at_place places.Register = refl
at_place places.Counter = refl
at_place places.Statement = refl
at_place places.Simple = refl
at_place places.Load = refl
at_place places.Expression = refl
at_place places.Pure = refl
at_place places.Operator = refl
at_place places.Condition = refl
at_place places.Exists = refl
at_place places.Proposition = refl
at_place places.Task = refl
at_place places.End = refl

at_limit : (excess : Excess) → is_blank_line (limit_note excess) ≡ false
unfolding limit_note
at_limit excesses.Tasks = refl
at_limit excesses.Statements = refl
at_limit excesses.Variables = refl
at_limit excesses.Registers = refl
at_limit excesses.Nesting = refl
at_limit excesses.Operators = refl
at_limit excesses.Scoped = refl
at_limit excesses.Number = refl
at_limit excesses.Check = refl
at_limit excesses.Turns = refl
at_limit excesses.Repeats = refl

at_fault : (fault : Fault) (expected : Expected) → is_blank_line (fault_form fault expected) ≡ false
unfolding fault_form
at_fault faults.Token expected = at_place expected
at_fault faults.Stray expected = at_place expected
at_fault faults.Unclosed expected = refl
at_fault faults.End expected = at_place expected
at_fault faults.Variable expected = at_place expected
at_fault faults.Unknown expected = at_place expected
at_fault faults.Twice expected = at_place expected
at_fault faults.Task expected = at_place expected

at_reason : (reason : Reason) → reason ≢ reasons.OutOfMemory → is_blank_line (general_note reason) ≡ false
unfolding general_note
at_reason reasons.OutOfMemory stays = absurd (stays refl)
at_reason reasons.File stays = refl
at_reason reasons.NotAscii stays = refl
at_reason (reasons.Limit excess) stays = at_limit excess
at_reason (reasons.Syntax fault expected) stays = at_fault fault expected
at_reason (reasons.Unsupported unread expected) stays = at_place expected

-- of two lines the second, where the first has no byte
one_of : (note other : List ℕ) → is_blank_line other ≡ false → is_blank_line (if length note == 0 then other else note) ≡ false
one_of [] other some = some
one_of (byte ∷ bytes) other some =
    ap (λ (b : Bool). is_blank_line (if b then other else byte ∷ bytes)) (ne_eqb (length (byte ∷ bytes)) 0 (λ h. absurd (omega (arith, h))))

some_line : (line : List ℕ) → is_blank_line line ≡ false → line ≢ []
some_line line some = λ empty. true≢false (sym (ap is_blank_line empty) ∙ some)

pub ends_with_line : (reason : Reason) → reason ≢ reasons.OutOfMemory → (token before rest : List ℕ)
    → note_line reason token before rest ≢ []
unfolding note_line
ends_with_line reason stays token before rest =
    some_line (note_line reason token before rest) (one_of (note_of reason token before rest) (general_note reason) (at_reason reason stays))
