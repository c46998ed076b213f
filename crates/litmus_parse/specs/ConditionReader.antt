-- Reading conditions: what the parser's functions answer, apart from which refusal it is.
use Rattle.std.specs.Prelude.{ℕ, List, Option, Some, None, Bool, true, false, if◌then◌else◌}
use Rattle.litmus_lex.specs.declared.sign.Sign.TheVariants.{Assign, Tilde}
use Rattle.litmus_syntax.specs.declared.proposition.Quantifier.{Quantifier}
use Rattle.litmus_syntax.specs.declared.proposition.Quantifier.TheVariants.{Exists, NotExists, Forall}
use Rattle.litmus_lex.specs.declared.words.Word.{Word}
use Rattle.litmus_lex.specs.declared.words.Word.TheVariants as words
use Rattle.litmus_lex.specs.Front.{◌>>=◌, first, is_sign, others, take_sign, take_signed, word_at}
use Rattle.litmus_lex.specs.Words.{Symbol}

abbrev pub is_forall_word : Option Word → Bool
is_forall_word (Some words.Forall) = true
is_forall_word _ = false

abbrev pub is_forall : Symbol → Bool
is_forall symbol = is_forall_word (word_at symbol)

abbrev pub is_exists_word : Option Word → Bool
is_exists_word (Some words.Exists) = true
is_exists_word _ = false

abbrev pub is_exists : Symbol → Bool
is_exists symbol = is_exists_word (word_at symbol)

-- `exists` is taken
abbrev pub take_exists : List Symbol → Option (List Symbol)
take_exists symbols = if is_exists (first symbols) then Some (others symbols) else None

-- `exists`, `~exists` or `forall`
unfoldable pub quantifier_at : List Symbol → Option (Quantifier × List Symbol)
quantifier_at symbols =
    if is_forall (first symbols)
    then Some (Forall, others symbols)
    else (if is_sign Tilde (first symbols)
    then (take_exists (others symbols) >>= λ rest. Some (NotExists, rest))
    else (take_exists symbols >>= λ rest. Some (Exists, rest)))

-- `= num`
unfoldable pub given_value : List Symbol → Option (ℕ × List Symbol)
given_value symbols = take_sign Assign symbols >>= λ rest. take_signed rest
