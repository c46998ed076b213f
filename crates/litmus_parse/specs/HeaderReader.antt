-- Reading types and initial values: what the parser's functions answer, apart from which refusal it is.
use Rattle.std.specs.Prelude.{ℕ, List, Option, Some, None, Bool, true, false, if◌then◌else◌}
use Rattle.litmus_lex.specs.declared.sign.Sign.TheVariants.{OpenParen, CloseParen}
use Rattle.litmus_lex.specs.declared.words.VariableType.{VariableType}
use Rattle.litmus_lex.specs.declared.words.Word.{Word}
use Rattle.litmus_lex.specs.declared.words.Word.TheVariants as words
use Rattle.litmus_lex.specs.Front.{◌>>=◌, first, others, take_sign, take_signed, word_at}
use Rattle.litmus_lex.specs.Words.{Symbol}

-- the type that a word is
abbrev pub type_of_word : Option Word → Option VariableType
type_of_word (Some (words.Type type)) = Some type
type_of_word _ = None

-- the type that a symbol is
abbrev pub type_at : Symbol → Option VariableType
type_at symbol = type_of_word (word_at symbol)

-- the symbols behind a type, if one was next
abbrev pub behind_type : Option VariableType → List Symbol → List Symbol
behind_type (Some type) symbols = others symbols
behind_type None symbols = symbols

abbrev pub is_atomic_init_word : Option Word → Bool
is_atomic_init_word (Some words.AtomicInit) = true
is_atomic_init_word _ = false

abbrev pub is_atomic_init : Symbol → Bool
is_atomic_init symbol = is_atomic_init_word (word_at symbol)

-- `( [-] NUMBER )`
unfoldable pub enclosed_value : List Symbol → Option (ℕ × List Symbol)
enclosed_value symbols =
    take_sign OpenParen symbols >>= λ opened. take_signed opened >>= λ v. take_sign CloseParen v.1 >>= λ closed.
    Some (v.0, closed)

-- `[-] NUMBER` or `ATOMIC_INIT ( [-] NUMBER )`
unfoldable pub value_at : List Symbol → Option (ℕ × List Symbol)
value_at symbols = if is_atomic_init (first symbols) then enclosed_value (others symbols) else take_signed symbols
