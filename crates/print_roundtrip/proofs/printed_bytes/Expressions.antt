-- Expressions, whatever follows.
use Rattle.std.proofs.Common.{◌≡◌, ◌<◌, ℕ, zero, suc, List, [], ◌∷◌, ◌++◌, true, false, length, refl, sym, ap, subst, append_assoc, arith}
use Rattle.std.specs.Prelude.{◌^◌, codes}
use Rattle.std.specs.Char.{digit_value}
use Rattle.std.specs.Fmt.{decimal}
use Rattle.std.specs.Str.Parse.{AllDigits}
use Rattle.std.proofs.lemmas.Bool.Decides.{nat_tests}
use Rattle.std.proofs.lemmas.Fmt.{decimal_is_IsNumeral}
use Rattle.litmus_lex.specs.declared.bytes.Class.TheVariants.{NameStart}
use Rattle.litmus_lex.specs.declared.sign.Sign.TheVariants as signs
use Rattle.litmus_lex.specs.declared.sign.Sign.TheVariants.{OpenParen, CloseParen, Comma}
use Rattle.litmus_lex.specs.declared.token.Part.TheVariants.{Body}
use Rattle.litmus_lex.specs.Bytes.{belongs}
use Rattle.litmus_lex.specs.Token.{IsName}
use Rattle.litmus_syntax.specs.declared.expression.BinaryOperator.{BinaryOperator}
use Rattle.litmus_syntax.specs.declared.expression.BinaryOperator.TheVariants as binaries
use Rattle.litmus_syntax.specs.declared.expression.ReadForm.{ReadForm}
use Rattle.litmus_syntax.specs.declared.expression.ReadForm.TheVariants as forms
use Rattle.litmus_syntax.specs.declared.expression.UnaryOperator.{UnaryOperator}
use Rattle.litmus_syntax.specs.declared.expression.UnaryOperator.TheVariants as unaries
use Rattle.litmus_syntax.specs.declared.program.Variable.{Variable}
use Rattle.litmus_syntax.specs.PrintedForm.{binary_sign, expression_text, fetch_text, joined, load_text, loading_text, name_at, parenthesized, pure_text, read_text, repeated, unary_sign, variable_name}
use Rattle.litmus_syntax.specs.Tree.{Expression, Fetch, Load, Loading, Pure}
use Rattle.litmus_syntax.specs.Tree as tree
use Rattle.litmus_lex.specs.declared.words.LoadWord.TheVariants as loads
use Rattle.litmus_lex.specs.declared.words.Word.TheVariants as words
use Rattle.litmus_lex.specs.Words.{Symbol, identifier, sign, word, word_of}
use Rattle.litmus_expression.specs.Expressions.{sign_of_binary, sign_of_unary}
use Rattle.litmus_expression.specs.Names.{Names}
use Rattle.print_roundtrip.specs.printed_texts.PrintedSymbols.{closes, expression_symbols, fetch_symbols, load_symbols, loading_symbols, opens, pure_symbols, read_symbols}
use Rattle.print_roundtrip.specs.printed_bytes.Reads.{Ends, IsIdentifier, Reads}
use Rattle.print_roundtrip.specs.printed_bytes.Expressions.{ExpressionIsSpelled, FetchIsSpelled, LoadIsSpelled, LoadingIsSpelled, PureIsSpelled}
use Rattle.print_roundtrip.proofs.printed_bytes.Lexed.{blank_reads, name_reads, number_reads, sign_reads}
use Rattle.print_roundtrip.proofs.printed_bytes.Pieces.{double, ended, ends_longer, grouped, plain_token}
use Rattle.print_roundtrip.proofs.printed_bytes.Signs.{closing, comma, opening, says, single, star}

-- ---- what begins an expression makes no sign before it longer

abbrev IsApart : List ℕ → Type 0
IsApart [] = ⊥
IsApart (byte ∷ bytes) = ends_longer byte ≡ false

abbrev BeginsApart : List ℕ → Type 0
BeginsApart text = (rest : List ℕ) → IsApart (text ++ rest)

letter_apart : (byte : ℕ) → belongs NameStart byte ≡ true → ends_longer byte ≡ false
letter_apart byte is = grind (arith, nat_tests)

digit_apart : (byte : ℕ) → digit_value byte < 10 → ends_longer byte ≡ false
digit_apart byte small = grind (arith, nat_tests)

name_apart : (name : List ℕ) → IsName name [] → BeginsApart name
name_apart [] is rest = absurd is
name_apart (byte ∷ name) is rest = letter_apart byte is.0

digits_apart : (digits : List ℕ) → AllDigits 10 digits → 0 < length digits → BeginsApart digits
digits_apart [] all some rest = absurd (omega (arith, some))
digits_apart (byte ∷ digits) all some rest = digit_apart byte all.0

number_apart : (n : ℕ) → n < 2 ^ 64 → BeginsApart (decimal n)
number_apart n small rest =
    let numeral = decimal_is_IsNumeral n small in
    digits_apart (decimal n) numeral.0.1 numeral.0.0 rest

-- ---- operators

-- bytes are read with these symbols in a body, before what ends a name and a number
abbrev ReadsAs : List ℕ → (List Symbol → List Symbol) → Type 0
ReadsAs text spell =
    (d : ℕ) (rest : List ℕ) (symbols : List Symbol) → Ends rest → Reads (Body d) rest symbols
    → Reads (Body d) (text ++ rest) (spell symbols)

not_reads : (d : ℕ) (rest : List ℕ) (symbols : List Symbol) → IsApart rest → Reads (Body d) rest symbols
    → Reads (Body d) (33 ∷ rest) (sign signs.Not ∷ symbols)
not_reads d [] symbols apart reads = absurd apart
not_reads d (next ∷ rest) symbols apart reads =
    sign_reads signs.Not (plain_token (Body d) 33 (next ∷ rest) refl (λ is. omega (arith, is)) (λ is. omega (arith, is)))
    (ended signs.Not 33 next rest refl apart) reads

prefix_reads : (op : UnaryOperator) (d : ℕ) (rest : List ℕ) (symbols : List Symbol) → IsApart rest → Reads (Body d) rest symbols
    → Reads (Body d) (unary_sign op ++ rest) (sign (sign_of_unary op) ∷ symbols)
prefix_reads unaries.Negate d rest symbols apart reads =
    single signs.Minus 45 refl refl refl (λ is. omega (arith, is)) (λ is. omega (arith, is)) reads
prefix_reads unaries.Not d rest symbols apart reads = not_reads d rest symbols apart reads
prefix_reads unaries.Complement d rest symbols apart reads =
    single signs.Tilde 126 refl refl refl (λ is. omega (arith, is)) (λ is. omega (arith, is)) reads

-- an operator before a blank
infix_reads : (op : BinaryOperator) (d : ℕ) (rest : List ℕ) (symbols : List Symbol) → Reads (Body d) (32 ∷ rest) symbols
    → Reads (Body d) (binary_sign op ++ (32 ∷ rest)) (sign (sign_of_binary op) ∷ symbols)
infix_reads binaries.Multiply d rest symbols reads = star reads
infix_reads binaries.Add d rest symbols reads =
    sign_reads signs.Plus (plain_token (Body d) 43 (32 ∷ rest) refl (λ is. omega (arith, is)) (λ is. omega (arith, is)))
    (ended signs.Plus 43 32 rest refl refl) reads
infix_reads binaries.Subtract d rest symbols reads =
    single signs.Minus 45 refl refl refl (λ is. omega (arith, is)) (λ is. omega (arith, is)) reads
infix_reads binaries.Less d rest symbols reads =
    sign_reads signs.Less (plain_token (Body d) 60 (32 ∷ rest) refl (λ is. omega (arith, is)) (λ is. omega (arith, is)))
    (ended signs.Less 60 32 rest refl refl) reads
infix_reads binaries.Greater d rest symbols reads =
    sign_reads signs.Greater (plain_token (Body d) 62 (32 ∷ rest) refl (λ is. omega (arith, is)) (λ is. omega (arith, is)))
    (ended signs.Greater 62 32 rest refl refl) reads
infix_reads binaries.LessOrEqual d rest symbols reads =
    sign_reads signs.LessEqual (plain_token (Body d) 60 (61 ∷ 32 ∷ rest) refl (λ is. omega (arith, is)) (λ is. omega (arith, is)))
    (double signs.LessEqual (32 ∷ rest) refl) reads
infix_reads binaries.GreaterOrEqual d rest symbols reads =
    sign_reads signs.GreaterEqual (plain_token (Body d) 62 (61 ∷ 32 ∷ rest) refl (λ is. omega (arith, is)) (λ is. omega (arith, is)))
    (double signs.GreaterEqual (32 ∷ rest) refl) reads
infix_reads binaries.Equal d rest symbols reads =
    sign_reads signs.Equal (plain_token (Body d) 61 (61 ∷ 32 ∷ rest) refl (λ is. omega (arith, is)) (λ is. omega (arith, is)))
    (double signs.Equal (32 ∷ rest) refl) reads
infix_reads binaries.NotEqual d rest symbols reads =
    sign_reads signs.NotEqual (plain_token (Body d) 33 (61 ∷ 32 ∷ rest) refl (λ is. omega (arith, is)) (λ is. omega (arith, is)))
    (double signs.NotEqual (32 ∷ rest) refl) reads
infix_reads binaries.BitAnd d rest symbols reads =
    sign_reads signs.Ampersand (plain_token (Body d) 38 (32 ∷ rest) refl (λ is. omega (arith, is)) (λ is. omega (arith, is)))
    (ended signs.Ampersand 38 32 rest refl refl) reads
infix_reads binaries.BitXor d rest symbols reads =
    single signs.Caret 94 refl refl refl (λ is. omega (arith, is)) (λ is. omega (arith, is)) reads
infix_reads binaries.BitOr d rest symbols reads =
    sign_reads signs.Bar (plain_token (Body d) 124 (32 ∷ rest) refl (λ is. omega (arith, is)) (λ is. omega (arith, is)))
    (ended signs.Bar 124 32 rest refl refl) reads

prefixed_reads : (op : UnaryOperator) (a : List ℕ) (spell : List Symbol → List Symbol) → ReadsAs a spell → BeginsApart a
    → ReadsAs (parenthesized (unary_sign op ++ a))
    (λ symbols. sign OpenParen ∷ sign (sign_of_unary op) ∷ spell (sign CloseParen ∷ symbols))
prefixed_reads op a spell reads_a apart d rest symbols ends reads =
    opening (grouped (unary_sign op ++ a) (41 ∷ []) rest (grouped (unary_sign op) a (41 ∷ rest)
    (prefix_reads op d (a ++ (41 ∷ rest)) (spell (sign CloseParen ∷ symbols)) (apart (41 ∷ rest))
    (reads_a d (41 ∷ rest) (sign CloseParen ∷ symbols) refl (closing reads)))))

joined_reads : (op : BinaryOperator) (a b : List ℕ) (spell_a spell_b : List Symbol → List Symbol) → ReadsAs a spell_a → ReadsAs b spell_b
    → ReadsAs (joined a (binary_sign op) b)
    (λ symbols. sign OpenParen ∷ spell_a (sign (sign_of_binary op) ∷ spell_b (sign CloseParen ∷ symbols)))
joined_reads op a b spell_a spell_b reads_a reads_b d rest symbols ends reads =
    let reads_right : Reads (Body d) (b ++ (41 ∷ rest)) (spell_b (sign CloseParen ∷ symbols)) =
    reads_b d (41 ∷ rest) (sign CloseParen ∷ symbols) refl (closing reads) in
    let behind : List ℕ = 32 ∷ (binary_sign op ++ (32 ∷ b)) in
    opening (grouped (a ++ behind) (41 ∷ []) rest (grouped a behind (41 ∷ rest)
    (reads_a d (behind ++ (41 ∷ rest)) (sign (sign_of_binary op) ∷ spell_b (sign CloseParen ∷ symbols)) refl
    (blank_reads 32 refl (grouped (binary_sign op) (32 ∷ b) (41 ∷ rest)
    (infix_reads op d (b ++ (41 ∷ rest)) (spell_b (sign CloseParen ∷ symbols)) (blank_reads 32 refl reads_right)))))))

-- ---- expressions without a load

module _ (variables : List Variable) (registers : Names) where
  pure_apart : (e : Pure) → PureIsSpelled registers e → BeginsApart (pure_text registers e)
  pure_apart (tree.number n) is rest = number_apart n is rest
  pure_apart (tree.register r) is rest = name_apart (name_at registers r) is.0 rest
  pure_apart (tree.unary op e) is rest = refl
  pure_apart (tree.binary op a b) is rest = refl

  pure_as : (e : Pure) → PureIsSpelled registers e → ReadsAs (pure_text registers e) (pure_symbols variables registers e)
  pure_as (tree.number n) is d rest symbols ends reads = number_reads n is ends reads
  pure_as (tree.register r) is d rest symbols ends reads = name_reads (name_at registers r) is ends reads
  pure_as (tree.unary op e) is d rest symbols ends reads =
      prefixed_reads op (pure_text registers e) (pure_symbols variables registers e) (pure_as e is) (pure_apart e is)
      d rest symbols ends reads
  pure_as (tree.binary op a b) is d rest symbols ends reads =
      joined_reads op (pure_text registers a) (pure_text registers b) (pure_symbols variables registers a)
      (pure_symbols variables registers b) (pure_as a is.0) (pure_as b is.1) d rest symbols ends reads

  pub pure_reads : {d : ℕ} {rest : List ℕ} {symbols : List Symbol} (e : Pure) → PureIsSpelled registers e → Ends rest
      → Reads (Body d) rest symbols → Reads (Body d) (pure_text registers e ++ rest) (pure_symbols variables registers e symbols)
  pure_reads {d = d} {rest = rest} {symbols = symbols} e is ends reads = pure_as e is d rest symbols ends reads

  -- ---- loads

  -- the name of a variable, up to a `)`
  enclosed : {d : ℕ} {rest : List ℕ} {symbols : List Symbol} (x : List ℕ) → IsIdentifier x → Reads (Body d) rest symbols
      → Reads (Body d) ((x ++ 41 ∷ []) ++ rest) (identifier x ∷ sign CloseParen ∷ symbols)
  enclosed {rest = rest} x is reads = grouped x (41 ∷ []) rest (name_reads x is refl (closing reads))

  read_as : (form : ReadForm) (x : List ℕ) → IsIdentifier x → ReadsAs (read_text form x) (read_symbols form x)
  unfolding word_of
  read_as forms.Plain x is d rest symbols ends reads = star (name_reads x is ends reads)
  read_as forms.Once x is d rest symbols ends reads =
      says (codes "READ_ONCE") (words.Load (loads.Read forms.Once)) refl refl refl (opening (star (enclosed x is reads)))
  read_as forms.Acquire x is d rest symbols ends reads =
      says (codes "smp_load_acquire") (words.Load (loads.Read forms.Acquire)) refl refl refl (opening (enclosed x is reads))
  read_as forms.Atomic x is d rest symbols ends reads =
      says (codes "atomic_read") (words.Load (loads.Read forms.Atomic)) refl refl refl (opening (enclosed x is reads))

  -- `, ` and an expression before what goes on
  value_reads : {d : ℕ} {symbols : List Symbol} (e : Pure) (more rest : List ℕ) → PureIsSpelled registers e → Ends (more ++ rest)
      → Reads (Body d) (more ++ rest) symbols
      → Reads (Body d) (44 ∷ 32 ∷ ((pure_text registers e ++ more) ++ rest)) (sign Comma ∷ pure_symbols variables registers e symbols)
  value_reads e more rest is ends reads =
      comma (blank_reads 32 refl (grouped (pure_text registers e) more rest (pure_reads e is ends reads)))

  fetch_as : (f : Fetch) → FetchIsSpelled variables registers f
      → ReadsAs (fetch_text variables registers f) (fetch_symbols variables registers f)
  unfolding word_of
  fetch_as (tree.read form x) is d rest symbols ends reads = read_as form (variable_name variables x) is d rest symbols ends reads
  fetch_as (tree.exchange x e) is d rest symbols ends reads =
      says (codes "xchg") (words.Load loads.Exchange) refl refl refl
      (opening (grouped (variable_name variables x) _ rest (name_reads (variable_name variables x) is.0 refl
      (value_reads e (41 ∷ []) rest is.1 refl (closing reads)))))
  fetch_as (tree.compare_exchange x e f) is d rest symbols ends reads =
      says (codes "cmpxchg") (words.Load loads.CompareExchange) refl refl refl
      (opening (grouped (variable_name variables x) _ rest (name_reads (variable_name variables x) is.0 refl
      (value_reads e (44 ∷ 32 ∷ (pure_text registers f ++ 41 ∷ [])) rest is.1.0 refl
      (value_reads f (41 ∷ []) rest is.1.1 refl (closing reads))))))

  opens_last : (n : ℕ) (symbols : List Symbol)
      → opens n (word words.DataRace ∷ sign OpenParen ∷ symbols) ≡ word words.DataRace ∷ sign OpenParen ∷ opens n symbols
  opens_last zero symbols = refl
  opens_last (suc n) symbols = ap (λ (l : List Symbol). word words.DataRace ∷ sign OpenParen ∷ l) (opens_last n symbols)

  opens_read : (n d : ℕ) (rest : List ℕ) (symbols : List Symbol) → Reads (Body d) rest symbols
      → Reads (Body d) (repeated n (codes "data_race(") ++ rest) (opens n symbols)
  unfolding word_of
  opens_read zero d rest symbols reads = reads
  opens_read (suc n) d rest symbols reads =
      grouped (repeated n (codes "data_race(")) (codes "data_race(") rest
      (subst (λ (l : List Symbol). Reads (Body d) (repeated n (codes "data_race(") ++ (codes "data_race(" ++ rest)) l)
      (opens_last n symbols)
      (opens_read n d (codes "data_race(" ++ rest) (word words.DataRace ∷ sign OpenParen ∷ symbols)
      (says (codes "data_race") words.DataRace refl refl refl (opening reads))))

  closes_read : (n d : ℕ) (rest : List ℕ) (symbols : List Symbol) → Reads (Body d) rest symbols
      → Reads (Body d) (repeated n (codes ")") ++ rest) (closes n symbols)
  closes_read zero d rest symbols reads = reads
  closes_read (suc n) d rest symbols reads =
      grouped (repeated n (codes ")")) (41 ∷ []) rest (closes_read n d (41 ∷ rest) (sign CloseParen ∷ symbols) (closing reads))

  closes_end : (n : ℕ) (rest : List ℕ) → Ends rest → Ends (repeated n (codes ")") ++ rest)
  closes_end zero rest ends = ends
  closes_end (suc n) rest ends =
      subst (λ (l : List ℕ). Ends l) (sym (append_assoc (repeated n (codes ")")) (41 ∷ []) rest)) (closes_end n (41 ∷ rest) refl)

  load_as : (l : Load) → LoadIsSpelled variables registers l
      → ReadsAs (load_text variables registers l) (load_symbols variables registers l)
  load_as l is d rest symbols ends reads =
      let n = l.data_races in
      let closing_text = repeated n (codes ")") in
      let fetched = fetch_text variables registers l.fetch in
      grouped (repeated n (codes "data_race(")) (fetched ++ closing_text) rest
      (opens_read n d ((fetched ++ closing_text) ++ rest) (fetch_symbols variables registers l.fetch (closes n symbols))
      (grouped fetched closing_text rest
      (fetch_as l.fetch is d (closing_text ++ rest) (closes n symbols) (closes_end n rest ends) (closes_read n d rest symbols reads))))

  pub load_reads : {d : ℕ} {rest : List ℕ} {symbols : List Symbol} (l : Load) → LoadIsSpelled variables registers l → Ends rest
      → Reads (Body d) rest symbols
      → Reads (Body d) (load_text variables registers l ++ rest) (load_symbols variables registers l symbols)
  load_reads {d = d} {rest = rest} {symbols = symbols} l is ends reads = load_as l is d rest symbols ends reads

  fetch_apart : (f : Fetch) → BeginsApart (fetch_text variables registers f)
  fetch_apart (tree.read forms.Plain x) rest = refl
  fetch_apart (tree.read forms.Once x) rest = refl
  fetch_apart (tree.read forms.Acquire x) rest = refl
  fetch_apart (tree.read forms.Atomic x) rest = refl
  fetch_apart (tree.exchange x e) rest = refl
  fetch_apart (tree.compare_exchange x e f) rest = refl

  opens_apart : (n : ℕ) (text : List ℕ) → IsApart text → IsApart (repeated n (codes "data_race(") ++ text)
  opens_apart zero text apart = apart
  opens_apart (suc n) text apart =
      subst (λ (l : List ℕ). IsApart l) (sym (append_assoc (repeated n (codes "data_race(")) (codes "data_race(") text))
      (opens_apart n (codes "data_race(" ++ text) refl)

  load_apart : (l : Load) → BeginsApart (load_text variables registers l)
  load_apart l rest =
      let n = l.data_races in
      let closing_text = repeated n (codes ")") in
      let fetched = fetch_text variables registers l.fetch in
      subst (λ (t : List ℕ). IsApart t) (sym (append_assoc (repeated n (codes "data_race(")) (fetched ++ closing_text) rest))
      (opens_apart n ((fetched ++ closing_text) ++ rest)
      (subst (λ (t : List ℕ). IsApart t) (sym (append_assoc fetched closing_text rest)) (fetch_apart l.fetch (closing_text ++ rest))))

  -- ---- expressions with a load

  loading_apart : (e : Loading) → BeginsApart (loading_text variables registers e)
  loading_apart (tree.load l) rest = load_apart l rest
  loading_apart (tree.unary_of op e) rest = refl
  loading_apart (tree.left op a b) rest = refl
  loading_apart (tree.right op a b) rest = refl

  loading_as : (e : Loading) → LoadingIsSpelled variables registers e
      → ReadsAs (loading_text variables registers e) (loading_symbols variables registers e)
  loading_as (tree.load l) is d rest symbols ends reads = load_as l is d rest symbols ends reads
  loading_as (tree.unary_of op e) is d rest symbols ends reads =
      prefixed_reads op (loading_text variables registers e) (loading_symbols variables registers e) (loading_as e is)
      (loading_apart e) d rest symbols ends reads
  loading_as (tree.left op a b) is d rest symbols ends reads =
      joined_reads op (loading_text variables registers a) (pure_text registers b) (loading_symbols variables registers a)
      (pure_symbols variables registers b) (loading_as a is.0) (pure_as b is.1) d rest symbols ends reads
  loading_as (tree.right op a b) is d rest symbols ends reads =
      joined_reads op (pure_text registers a) (loading_text variables registers b) (pure_symbols variables registers a)
      (loading_symbols variables registers b) (pure_as a is.0) (loading_as b is.1) d rest symbols ends reads

  pub expression_reads : {d : ℕ} {rest : List ℕ} {symbols : List Symbol} (e : Expression)
      → ExpressionIsSpelled variables registers e → Ends rest → Reads (Body d) rest symbols
      → Reads (Body d) (expression_text variables registers e ++ rest) (expression_symbols variables registers e symbols)
  expression_reads {d = d} {rest = rest} {symbols = symbols} (tree.pure e) is ends reads = pure_as e is d rest symbols ends reads
  expression_reads {d = d} {rest = rest} {symbols = symbols} (tree.loading e) is ends reads = loading_as e is d rest symbols ends reads
