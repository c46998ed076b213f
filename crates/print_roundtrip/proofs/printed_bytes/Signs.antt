-- The signs of a body, whatever follows.
use Rattle.std.proofs.Common.{◌≡◌, ◌≢◌, ◌+◌, ◌<◌, ℕ, List, [], ◌∷◌, ◌++◌, Some, true, false, refl, sym, ap, subst, arith}
use Rattle.std.proofs.lemmas.Bool.Decides.{nat_tests}
use Rattle.litmus_lex.specs.declared.bytes.Class.TheVariants.{Blank}
use Rattle.litmus_lex.specs.declared.sign.Sign.{Sign}
use Rattle.litmus_lex.specs.declared.sign.Sign.TheVariants.{OpenBrace, CloseBrace, OpenParen, CloseParen, Semicolon, Comma, Assign, AddAssign, Increment, Star, Less}
use Rattle.litmus_lex.specs.declared.token.Part.{Part}
use Rattle.litmus_lex.specs.declared.token.Part.TheVariants.{Body}
use Rattle.litmus_lex.specs.Bytes.{belongs}
use Rattle.litmus_lex.specs.Gap.{IsAtToken}
use Rattle.litmus_lex.specs.Part.{closed}
use Rattle.litmus_lex.specs.Sign.{sign_bytes}
use Rattle.litmus_lex.specs.Token as terminals
use Rattle.litmus_lex.specs.Tokens.{part_after}
use Rattle.litmus_lex.specs.declared.words.Word.{Word}
use Rattle.litmus_lex.specs.Words.{Symbol, sign, word, word_of}
use Rattle.print_roundtrip.specs.printed_bytes.Reads.{Ends, Reads}
use Rattle.print_roundtrip.proofs.printed_bytes.Lexed.{blank_reads, sign_reads, word_reads}
use Rattle.print_roundtrip.proofs.printed_bytes.Pieces.{alone, begins_longer, double, ended, is_word, paren_token, plain_token, word_is}

-- blanks, as many as there are
abbrev pub Blanks : List ℕ → Type 0
Blanks [] = Unit {0}
Blanks (b ∷ bytes) = (belongs Blank b ≡ true) × Blanks bytes

pub one_more : (bytes : List ℕ) → Blanks bytes → Blanks (bytes ++ 9 ∷ [])
one_more [] blanks = (refl, tt)
one_more (b ∷ bytes) blanks = (blanks.0, one_more bytes blanks.1)

pub blanks_read : {part : Part} {rest : List ℕ} {symbols : List Symbol} (bytes : List ℕ) → Blanks bytes → Reads part rest symbols
    → Reads part (bytes ++ rest) symbols
blanks_read [] blanks reads = reads
blanks_read (b ∷ bytes) blanks reads = blank_reads b blanks.0 (blanks_read bytes blanks.1 reads)

-- a word
pub says : {part : Part} {rest : List ℕ} {symbols : List Symbol} (name : List ℕ) (w : Word) → is_word name ≡ true
    → word_of name ≡ Some w → Ends rest → Reads part rest symbols → Reads part (name ++ rest) (word w ∷ symbols)
says name w spelled is ends reads = word_reads name w (word_is name spelled) is ends reads

-- a sign of one byte with which neither a longer one nor a comment begins
pub single : {part : Part} {rest : List ℕ} {symbols : List Symbol} (s : Sign) (byte : ℕ) → sign_bytes s ≡ byte ∷ []
    → begins_longer byte ≡ false → belongs Blank byte ≡ false → byte ≢ 40 → byte ≢ 47
    → Reads (part_after part (terminals.sign s)) rest symbols → Reads part (byte ∷ rest) (sign s ∷ symbols)
single {part = part} {rest = rest} {symbols = symbols} s byte is short blank paren slash reads =
    let whole : sign_bytes s ++ rest ≡ byte ∷ rest = ap (λ (l : List ℕ). l ++ rest) is in
    subst (λ (l : List ℕ). Reads part l (sign s ∷ symbols)) whole
    (sign_reads s (subst (λ (l : List ℕ). IsAtToken part l) (sym whole) (plain_token part byte rest blank paren slash))
    (alone s byte rest is short) reads)

pub semicolon : {part : Part} {rest : List ℕ} {symbols : List Symbol} → Reads part rest symbols
    → Reads part (59 ∷ rest) (sign Semicolon ∷ symbols)
semicolon reads = single Semicolon 59 refl refl refl (λ is. omega (arith, is)) (λ is. omega (arith, is)) reads

pub comma : {part : Part} {rest : List ℕ} {symbols : List Symbol} → Reads part rest symbols
    → Reads part (44 ∷ rest) (sign Comma ∷ symbols)
comma reads = single Comma 44 refl refl refl (λ is. omega (arith, is)) (λ is. omega (arith, is)) reads

pub closing : {part : Part} {rest : List ℕ} {symbols : List Symbol} → Reads part rest symbols
    → Reads part (41 ∷ rest) (sign CloseParen ∷ symbols)
closing reads = single CloseParen 41 refl refl refl (λ is. omega (arith, is)) (λ is. omega (arith, is)) reads

pub star : {part : Part} {rest : List ℕ} {symbols : List Symbol} → Reads part rest symbols
    → Reads part (42 ∷ rest) (sign Star ∷ symbols)
star reads = single Star 42 refl refl refl (λ is. omega (arith, is)) (λ is. omega (arith, is)) reads

pub opening : {d : ℕ} {rest : List ℕ} {symbols : List Symbol} → Reads (Body d) rest symbols
    → Reads (Body d) (40 ∷ rest) (sign OpenParen ∷ symbols)
opening {d = d} {rest = rest} reads = sign_reads OpenParen (paren_token d rest) (alone OpenParen 40 rest refl refl) reads

pub open_brace : {d : ℕ} {rest : List ℕ} {symbols : List Symbol} → Reads (Body (d + 1)) rest symbols
    → Reads (Body d) (123 ∷ rest) (sign OpenBrace ∷ symbols)
open_brace reads = single OpenBrace 123 refl refl refl (λ is. omega (arith, is)) (λ is. omega (arith, is)) reads

closed_body : (d : ℕ) → 0 < d → closed (Body (d + 1)) ≡ Body d
closed_body d some = grind (arith, nat_tests)

pub close_brace : {d : ℕ} {rest : List ℕ} {symbols : List Symbol} → 0 < d → Reads (Body d) rest symbols
    → Reads (Body (d + 1)) (125 ∷ rest) (sign CloseBrace ∷ symbols)
close_brace {d = d} {rest = rest} {symbols = symbols} some reads =
    single CloseBrace 125 refl refl refl (λ is. omega (arith, is)) (λ is. omega (arith, is))
    (subst (λ (p : Part). Reads p rest symbols) (sym (closed_body d some)) reads)

-- ` = `, ` += ` and ` < `
pub gives : {part : Part} {rest : List ℕ} {symbols : List Symbol} → Reads part rest symbols
    → Reads part (32 ∷ 61 ∷ 32 ∷ rest) (sign Assign ∷ symbols)
gives {part = part} {rest = rest} reads =
    blank_reads 32 refl (sign_reads Assign (plain_token part 61 (32 ∷ rest) refl (λ is. omega (arith, is)) (λ is. omega (arith, is)))
    (ended Assign 61 32 rest refl refl) (blank_reads 32 refl reads))

pub adds : {d : ℕ} {rest : List ℕ} {symbols : List Symbol} → Reads (Body d) rest symbols
    → Reads (Body d) (32 ∷ 43 ∷ 61 ∷ 32 ∷ rest) (sign AddAssign ∷ symbols)
adds {d = d} {rest = rest} reads =
    blank_reads 32 refl (sign_reads AddAssign
    (plain_token (Body d) 43 (61 ∷ 32 ∷ rest) refl (λ is. omega (arith, is)) (λ is. omega (arith, is)))
    (double AddAssign (32 ∷ rest) refl) (blank_reads 32 refl reads))

pub less : {d : ℕ} {rest : List ℕ} {symbols : List Symbol} → Reads (Body d) rest symbols
    → Reads (Body d) (32 ∷ 60 ∷ 32 ∷ rest) (sign Less ∷ symbols)
less {d = d} {rest = rest} reads =
    blank_reads 32 refl (sign_reads Less (plain_token (Body d) 60 (32 ∷ rest) refl (λ is. omega (arith, is)) (λ is. omega (arith, is)))
    (ended Less 60 32 rest refl refl) (blank_reads 32 refl reads))

pub rises : {d : ℕ} {rest : List ℕ} {symbols : List Symbol} → Reads (Body d) rest symbols
    → Reads (Body d) (43 ∷ 43 ∷ rest) (sign Increment ∷ symbols)
rises {d = d} {rest = rest} reads = sign_reads Increment
    (plain_token (Body d) 43 (43 ∷ rest) refl (λ is. omega (arith, is)) (λ is. omega (arith, is)))
    (double Increment rest refl) reads
