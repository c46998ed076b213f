-- The initialization block, whatever follows.
use Rattle.std.proofs.Common.{ℕ, suc, List, [], ◌∷◌, ◌++◌, refl, sym, subst, append_assoc, arith}
use Rattle.std.specs.Prelude.{ℤ, pos, negsuc, codes}
use Rattle.std.specs.Fmt.{signed_decimal}
use Rattle.litmus_lex.specs.declared.sign.Sign.TheVariants.{OpenBrace, CloseBrace, Semicolon, Assign, Minus}
use Rattle.litmus_lex.specs.declared.token.Part.{Part}
use Rattle.litmus_lex.specs.declared.token.Part.TheVariants.{Init, Between}
use Rattle.litmus_syntax.specs.declared.program.Contents.{Contents}
use Rattle.litmus_syntax.specs.declared.program.Contents.TheVariants as contents
use Rattle.litmus_syntax.specs.declared.program.Variable.{Variable}
use Rattle.litmus_syntax.specs.PrintedForm.{initial_text, initialization_line, item_text, items_text, type_name}
use Rattle.litmus_lex.specs.declared.words.VariableType.TheVariants as types
use Rattle.litmus_lex.specs.declared.words.Word.TheVariants as words
use Rattle.litmus_lex.specs.Words.{Symbol, identifier, sign, word, word_of}
use Rattle.print_roundtrip.specs.printed_texts.PrintedProcess.{type_of}
use Rattle.print_roundtrip.specs.printed_texts.PrintedProgram.{initial_symbols, items_symbols, signed_symbols}
use Rattle.print_roundtrip.specs.printed_bytes.Reads.{Ends, IsIdentifier, Reads}
use Rattle.print_roundtrip.specs.printed_bytes.Programs.{ContentsAreSpelled, SignedIsShort, VariablesAreSpelled}
use Rattle.print_roundtrip.proofs.printed_bytes.Lexed.{blank_reads, name_reads, number_reads, sign_reads}
use Rattle.print_roundtrip.proofs.printed_bytes.Pieces.{ended, grouped, plain_token}
use Rattle.print_roundtrip.proofs.printed_bytes.Signs.{says, semicolon, single}

pub types_read : {part : Part} {rest : List ℕ} {symbols : List Symbol} (c : Contents) → Ends rest → Reads part rest symbols
    → Reads part (type_name c ++ rest) (word (words.Type (type_of c)) ∷ symbols)
unfolding word_of
types_read (contents.Char n) ends reads = says (codes "char") (words.Type types.Char) refl refl ends reads
types_read (contents.Short n) ends reads = says (codes "short") (words.Type types.Short) refl refl ends reads
types_read (contents.Int n) ends reads = says (codes "int") (words.Type types.Int) refl refl ends reads
types_read (contents.Long n) ends reads = says (codes "long") (words.Type types.Long) refl refl ends reads
types_read (contents.Atomic n) ends reads = says (codes "atomic_t") (words.Type types.Atomic) refl refl ends reads
types_read contents.Lock ends reads = says (codes "spinlock_t") (words.Type types.Lock) refl refl ends reads

-- ---- initial values

signed_reads : {part : Part} {rest : List ℕ} {symbols : List Symbol} (z : ℤ) → SignedIsShort z → Ends rest → Reads part rest symbols
    → Reads part (signed_decimal z ++ rest) (signed_symbols z symbols)
signed_reads (pos n) is ends reads = number_reads n is ends reads
signed_reads (negsuc n) is ends reads =
    single Minus 45 refl refl refl (λ is. omega (arith, is)) (λ is. omega (arith, is)) (number_reads (suc n) is ends reads)

given_reads : {part : Part} {rest : List ℕ} {symbols : List Symbol} (z : ℤ) → SignedIsShort z → Ends rest → Reads part rest symbols
    → Reads part (32 ∷ 61 ∷ 32 ∷ (signed_decimal z ++ rest)) (sign Assign ∷ signed_symbols z symbols)
given_reads {part = part} {rest = rest} z is ends reads =
    blank_reads 32 refl (sign_reads Assign
    (plain_token part 61 (32 ∷ (signed_decimal z ++ rest)) refl (λ is. omega (arith, is)) (λ is. omega (arith, is)))
    (ended Assign 61 32 (signed_decimal z ++ rest) refl refl) (blank_reads 32 refl (signed_reads z is ends reads)))

initial_reads : {part : Part} {rest : List ℕ} {symbols : List Symbol} (c : Contents) → ContentsAreSpelled c → Ends rest
    → Reads part rest symbols → Reads part (initial_text c ++ rest) (initial_symbols c symbols)
initial_reads (contents.Char n) is ends reads = given_reads n is ends reads
initial_reads (contents.Short n) is ends reads = given_reads n is ends reads
initial_reads (contents.Int n) is ends reads = given_reads n is ends reads
initial_reads (contents.Long n) is ends reads = given_reads n is ends reads
initial_reads (contents.Atomic n) is ends reads = given_reads n is ends reads
initial_reads contents.Lock is ends reads = reads

-- what ends a name stands behind it, with an initial value or none
initial_ends : (c : Contents) (rest : List ℕ) → Ends rest → Ends (initial_text c ++ rest)
initial_ends (contents.Char n) rest ends = refl
initial_ends (contents.Short n) rest ends = refl
initial_ends (contents.Int n) rest ends = refl
initial_ends (contents.Long n) rest ends = refl
initial_ends (contents.Atomic n) rest ends = refl
initial_ends contents.Lock rest ends = ends

-- ---- items

item_reads : {part : Part} {rest : List ℕ} {symbols : List Symbol} (v : Variable) → IsIdentifier v.name → ContentsAreSpelled v.contents
    → Reads part rest symbols
    → Reads part (item_text v ++ rest)
    (word (words.Type (type_of v.contents)) ∷ identifier v.name ∷ initial_symbols v.contents (sign Semicolon ∷ symbols))
item_reads {part = part} {rest = rest} {symbols = symbols} v named is reads =
    let value : List ℕ = initial_text v.contents in
    let behind : Reads part ((value ++ 59 ∷ []) ++ rest) (initial_symbols v.contents (sign Semicolon ∷ symbols)) =
    grouped value (59 ∷ []) rest (initial_reads v.contents is refl (semicolon reads)) in
    let ends : Ends ((value ++ 59 ∷ []) ++ rest) =
    subst (λ (l : List ℕ). Ends l) (sym (append_assoc value (59 ∷ []) rest)) (initial_ends v.contents (59 ∷ rest) refl) in
    blank_reads 32 refl (grouped (type_name v.contents) (32 ∷ (v.name ++ (value ++ 59 ∷ []))) rest
    (types_read v.contents refl (blank_reads 32 refl (grouped v.name (value ++ 59 ∷ []) rest (name_reads v.name named ends behind)))))

items_read : {rest : List ℕ} {symbols : List Symbol} (variables : List Variable) → VariablesAreSpelled variables → Reads Init rest symbols
    → Reads Init (items_text variables ++ rest) (items_symbols variables symbols)
items_read [] are reads = reads
items_read {rest = rest} (v ∷ more) are reads =
    grouped (item_text v) (items_text more) rest (item_reads v are.0 are.1.0 (items_read more are.1.1 reads))

pub initialization_reads : {rest : List ℕ} {symbols : List Symbol} (variables : List Variable) → VariablesAreSpelled variables
    → Reads Between rest symbols
    → Reads Init (initialization_line variables ++ rest) (sign OpenBrace ∷ items_symbols variables (sign CloseBrace ∷ symbols))
initialization_reads {rest = rest} variables are reads =
    single OpenBrace 123 refl refl refl (λ is. omega (arith, is)) (λ is. omega (arith, is))
    (grouped (items_text variables) (32 ∷ 125 ∷ 10 ∷ []) rest (items_read variables are (blank_reads 32 refl
    (single CloseBrace 125 refl refl refl (λ is. omega (arith, is)) (λ is. omega (arith, is)) (blank_reads 10 refl reads)))))
