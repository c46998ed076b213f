-- Names, words, numbers, signs and blanks before bytes that are read.
use Rattle.std.proofs.Common.{◌≡◌, ◌≢◌, ◌∙◌, ◌+◌, ◌^◌, ◌<◌, ◌≤◌, ℕ, suc, List, [], ◌∷◌, ◌++◌, Option, Some, None, true, false, inr, length, map, refl, sym, ap, subst, arith}
use Rattle.std.specs.Fmt.{decimal}
use Rattle.std.specs.Char.{digit_value}
use Rattle.std.specs.Str.Parse.{AllDigits}
use Rattle.std.proofs.lemmas.Bool.Decides.{nat_tests}
use Rattle.std.proofs.lemmas.Fmt.{decimal_is_IsNumeral}
use Rattle.litmus_lex.specs.declared.bytes.Class.{Class}
use Rattle.litmus_lex.specs.declared.bytes.Class.TheVariants.{Blank, NameStart, NamePart, Digit}
use Rattle.litmus_lex.specs.declared.gap.Comment.{Comment}
use Rattle.litmus_lex.specs.declared.gap.Comment.TheVariants.{Parens, Slashes, Line}
use Rattle.litmus_lex.specs.declared.sign.Sign.{Sign}
use Rattle.litmus_lex.specs.declared.token.Part.{Part}
use Rattle.litmus_lex.specs.Bytes.{belongs, IsRun}
use Rattle.litmus_lex.specs.Gap.{IsAtToken, IsGap, Opens}
use Rattle.litmus_lex.specs.Sign.{sign_bytes, IsLongestSign}
use Rattle.litmus_lex.specs.Token as terminals
use Rattle.litmus_lex.specs.Token.{BeginsHexadecimal, IsName, IsNumber, Spells, Terminal}
use Rattle.litmus_lex.specs.Tokens.{AreTokens, First, Placed, StartsAt, part_after, place_of}
use Rattle.litmus_lex.specs.declared.words.Word.{Word}
use Rattle.litmus_lex.specs.Words.{Symbol, identifier, number, sign, symbol_of, symbol_of_name, word, word_of}
use Rattle.litmus_parse.specs.Grammar.{symbol_at}
use Rattle.print_roundtrip.specs.printed_bytes.Reads.{AreText, Ends, IsIdentifier, Reads}
use Rattle.print_roundtrip.proofs.printed_bytes.TextBytes.{blank_text, both_text, digits_text, name_text, sign_text}

-- ---- a token, and a blank

pub end_reads : (part : Part) → Reads part [] []
end_reads part = (tt, λ at. ([], ([], refl, tt), refl))

-- bytes that spell a token at a place
token_there : (part : Part) (at : ℕ) (rest : List ℕ) (symbols : List Symbol) (t : Terminal) (spelled : List ℕ) (s : Symbol)
    → StartsAt part t (spelled ++ rest) → Spells t spelled rest → ((n : ℕ) → place_of t n spelled ≡ n) → symbol_of t ≡ s
    → ((at : ℕ) → (tokens : List Placed) × AreTokens (part_after part t) at rest tokens × (map symbol_at tokens ≡ symbols))
    → (tokens : List Placed) × AreTokens part at (spelled ++ rest) tokens × (map symbol_at tokens ≡ s ∷ symbols)
token_there part at rest symbols t spelled s starts spells place is more =
    let token : Placed = record { terminal = t; at = at } in
    let here : at ≡ at + 0 = omega arith in
    let later = more (at + 0 + length spelled) in
    let first : First part at (spelled ++ rest) token = record {
      gap = [];
      spelled = spelled;
      rest = rest;
      whole = refl;
      separated = ([], refl, tt);
      starts = starts;
      spells = spells;
      place = here ∙ sym (place (at + 0));
    } in
    (token ∷ later.0, (first, later.1), ap (λ (x : Symbol). x ∷ map symbol_at later.0) is ∙ ap (λ (xs : List Symbol). s ∷ xs) later.2)

-- bytes that spell a token before what is read
token_reads : {part : Part} {rest : List ℕ} {symbols : List Symbol} (t : Terminal) (spelled : List ℕ) (s : Symbol)
    → AreText spelled → StartsAt part t (spelled ++ rest) → Spells t spelled rest → ((n : ℕ) → place_of t n spelled ≡ n) → symbol_of t ≡ s
    → Reads (part_after part t) rest symbols → Reads part (spelled ++ rest) (s ∷ symbols)
token_reads {part = part} {rest = rest} {symbols = symbols} t spelled s text starts spells place is more =
    (both_text spelled rest text more.0, λ at. token_there part at rest symbols t spelled s starts spells place is more.1)

blank_gap : (part : Part) (byte : ℕ) (gap rest : List ℕ) → belongs Blank byte ≡ true → IsGap part gap rest
    → IsGap part (byte ∷ gap) rest
blank_gap part byte gap rest blank is = ((byte ∷ []) ∷ is.0, ap (λ (xs : List ℕ). byte ∷ xs) is.1, (blank, is.2))

blank_tokens : (part : Part) (byte : ℕ) (rest : List ℕ) (at : ℕ) (tokens : List Placed) → belongs Blank byte ≡ true
    → AreTokens part (at + 1) rest tokens → AreTokens part at (byte ∷ rest) tokens
blank_tokens part byte rest at [] blank is = blank_gap part byte rest [] blank is
blank_tokens part byte rest at (token ∷ tokens) blank is =
    let f = is.0 in
    let sum : at + 1 + length f.gap ≡ at + suc (length f.gap) = omega arith in
    let first : First part at (byte ∷ rest) token = record {
      gap = byte ∷ f.gap;
      spelled = f.spelled;
      rest = f.rest;
      whole = ap (λ (xs : List ℕ). byte ∷ xs) f.whole;
      separated = blank_gap part byte f.gap (f.spelled ++ f.rest) blank f.separated;
      starts = f.starts;
      spells = f.spells;
      place = f.place ∙ ap (λ (n : ℕ). place_of token.terminal n f.spelled) sum;
    } in
    (first, subst (λ (n : ℕ). AreTokens (part_after part token.terminal) (n + length f.spelled) f.rest tokens) sum is.1)

pub blank_reads : {part : Part} {rest : List ℕ} {symbols : List Symbol} (byte : ℕ) → belongs Blank byte ≡ true
    → Reads part rest symbols → Reads part (byte ∷ rest) symbols
blank_reads {part = part} {rest = rest} byte blank more = (
  (blank_text byte blank, more.0),
  λ at. let later = more.1 (at + 1) in (later.0, blank_tokens part byte rest at later.0 blank later.1, later.2),
)

-- ---- where a token begins

-- no blank, no `(` and no `/`
no_comment : (part : Part) (byte next : ℕ) → 48 ≤ byte → (comment : Comment) → Opens part comment byte next → ⊥
no_comment part byte next large Parens opens = let is = opens.1 in absurd (omega (arith, is))
no_comment part byte next large Slashes opens = let is = opens.1 in absurd (omega (arith, is))
no_comment part byte next large Line opens = let is = opens.1 in absurd (omega (arith, is))

no_blank : (byte : ℕ) → 48 ≤ byte → belongs Blank byte ≡ false
no_blank byte large = grind (arith, nat_tests)

at_token : (part : Part) (byte : ℕ) (rest : List ℕ) → 48 ≤ byte → IsAtToken part (byte ∷ rest)
at_token part byte [] large = no_blank byte large
at_token part byte (next ∷ rest) large = (no_blank byte large, no_comment part byte next large)

name_large : (byte : ℕ) → belongs NameStart byte ≡ true → 48 ≤ byte
name_large byte is = grind (arith, nat_tests)

digit_large : (byte : ℕ) → belongs Digit byte ≡ true → 48 ≤ byte
digit_large byte is = grind (arith, nat_tests)

-- ---- names and words

pub run_before : (class : Class) (run rest : List ℕ) → IsRun class run [] → IsRun class [] rest → IsRun class run rest
run_before class [] rest is ends = ends
run_before class (byte ∷ run) rest is ends = (is.0, run_before class run rest is.1 ends)

name_before : (bytes rest : List ℕ) → IsName bytes [] → Ends rest → IsName bytes rest
name_before [] rest is ends = is
name_before (byte ∷ bytes) rest is ends = (is.0, run_before NamePart bytes rest is.1 ends)

name_token : (part : Part) (bytes rest : List ℕ) → IsName bytes [] → IsAtToken part (bytes ++ rest)
name_token part [] rest is = absurd is
name_token part (byte ∷ bytes) rest is = at_token part byte (bytes ++ rest) (name_large byte is.0)

named_reads : {part : Part} {rest : List ℕ} {symbols : List Symbol} (bytes : List ℕ) (o : Option Word) → IsName bytes []
    → word_of bytes ≡ o → Ends rest → Reads part rest symbols → Reads part (bytes ++ rest) (symbol_of_name bytes o ∷ symbols)
named_reads {part = part} {rest = rest} {symbols = symbols} bytes o is says ends more =
    token_reads (terminals.name bytes) bytes (symbol_of_name bytes o) (name_text bytes [] is) (name_token part bytes rest is)
    (refl, name_before bytes rest is ends) (λ n. refl) (ap (λ (w : Option Word). symbol_of_name bytes w) says) more

pub name_reads : {part : Part} {rest : List ℕ} {symbols : List Symbol} (name : List ℕ) → IsIdentifier name → Ends rest
    → Reads part rest symbols → Reads part (name ++ rest) (identifier name ∷ symbols)
name_reads {part = part} {rest = rest} {symbols = symbols} name is ends more = named_reads name None is.0 is.1 ends more

pub word_reads : {part : Part} {rest : List ℕ} {symbols : List Symbol} (name : List ℕ) (w : Word) → IsName name []
    → word_of name ≡ Some w → Ends rest
    → Reads part rest symbols → Reads part (name ++ rest) (word w ∷ symbols)
word_reads {part = part} {rest = rest} {symbols = symbols} name w is says ends more = named_reads name (Some w) is says ends more

-- ---- numbers

digit_is : (c : ℕ) → digit_value c < 10 → belongs Digit c ≡ true
digit_is c small = grind (arith, nat_tests)

no_digit : (c : ℕ) → belongs NamePart c ≡ false → belongs Digit c ≡ false
no_digit c ends = grind (arith, nat_tests)

digits_end : (rest : List ℕ) → Ends rest → IsRun Digit [] rest
digits_end [] ends = tt
digits_end (c ∷ rest) ends = no_digit c ends

digits_run : (digits rest : List ℕ) → AllDigits 10 digits → Ends rest → IsRun Digit digits rest
digits_run [] rest all ends = digits_end rest ends
digits_run (c ∷ digits) rest all ends = (digit_is c all.0, digits_run digits rest all.1 ends)

no_x : (c : ℕ) → belongs NamePart c ≡ false → c ≢ 120
no_x c ends is = let x : belongs NamePart 120 ≡ false = subst (λ (n : ℕ). belongs NamePart n ≡ false) is ends in absurd cc

x_no_digit : (c : ℕ) → digit_value c < 10 → c ≢ 120
x_no_digit c small is = let x : digit_value 120 < 10 = subst (λ (n : ℕ). digit_value n < 10) is small in absurd (omega (arith, x))

is_plain : (digits rest : List ℕ) → AllDigits 10 digits → Ends rest → 0 < length digits → BeginsHexadecimal (digits ++ rest) → ⊥
is_plain [] rest all ends some is = absurd (omega (arith, some))
is_plain (a ∷ []) [] all ends some is = is
is_plain (a ∷ []) (b ∷ []) all ends some is = is
is_plain (a ∷ []) (b ∷ c ∷ rest) all ends some is = no_x b ends is.1
is_plain (a ∷ b ∷ []) [] all ends some is = is
is_plain (a ∷ b ∷ []) (c ∷ rest) all ends some is = x_no_digit b all.1.0 is.1
is_plain (a ∷ b ∷ c ∷ digits) rest all ends some is = x_no_digit b all.1.0 is.1

number_token : (part : Part) (digits rest : List ℕ) → AllDigits 10 digits → 0 < length digits → IsAtToken part (digits ++ rest)
number_token part [] rest all some = absurd (omega (arith, some))
number_token part (c ∷ digits) rest all some = at_token part c (digits ++ rest) (digit_large c (digit_is c all.0))

pub number_reads : {part : Part} {rest : List ℕ} {symbols : List Symbol} (n : ℕ) → n < 2 ^ 64 → Ends rest
    → Reads part rest symbols → Reads part (decimal n ++ rest) (number n ∷ symbols)
number_reads {part = part} {rest = rest} {symbols = symbols} n small ends more =
    let numeral = decimal_is_IsNumeral n small in
    let some = numeral.0.0 in
    let all = numeral.0.1 in
    let spelled : IsNumber (decimal n) rest n = inr (record {
      some = some;
      run = digits_run (decimal n) rest all ends;
      plain = is_plain (decimal n) rest all ends some;
      is = sym numeral.1;
    }) in
    token_reads (terminals.number n) (decimal n) (number n) (digits_text (decimal n) all) (number_token part (decimal n) rest all some)
    (spelled, small) (λ k. refl) refl more

-- ---- signs

pub sign_reads : {part : Part} {rest : List ℕ} {symbols : List Symbol} (s : Sign) → IsAtToken part (sign_bytes s ++ rest)
    → IsLongestSign s (sign_bytes s ++ rest)
    → Reads (part_after part (terminals.sign s)) rest symbols → Reads part (sign_bytes s ++ rest) (sign s ∷ symbols)
sign_reads {part = part} {rest = rest} {symbols = symbols} s starts longest more =
    token_reads (terminals.sign s) (sign_bytes s) (sign s) (sign_text s) starts (refl, longest) (λ n. refl) refl more
