-- What stands at the front of symbols, and what is taken from there. A reader answers a value and the symbols
-- behind it, or none.
use Rattle.std.specs.Prelude.{◌≡◌, ◌-◌, ◌%◌, ◌^◌, ◌==◌, ◌&&◌, ℕ, List, [], ◌∷◌, Option, Some, None, Result, Ok, Err, Bool, true, false, map, if◌then◌else◌}
use Rattle.std.specs.Borrow.{Bor}
use Rattle.litmus_lex.specs.declared.sign.Sign.{Sign}
use Rattle.litmus_lex.specs.declared.sign.Sign.TheVariants.{OpenBrace, CloseBrace, OpenParen, CloseParen, OpenBracket, CloseBracket, Semicolon, Comma, Colon, Assign}
use Rattle.litmus_lex.specs.declared.sign.Sign.TheVariants.{AddAssign, Increment, Plus, Minus, Star, Tilde, Not, Ampersand, Caret, Bar}
use Rattle.litmus_lex.specs.declared.sign.Sign.TheVariants.{Less, Greater, LessEqual, GreaterEqual, Equal, NotEqual, Conjunction, Disjunction, Slash, Percent}
use Rattle.litmus_lex.specs.declared.sign.Sign.TheVariants.{ShiftLeft, ShiftRight, LogicalAnd, LogicalOr, Question}
use Rattle.litmus_lex.specs.declared.token.Token.{Token}
use Rattle.litmus_lex.specs.declared.token.Token.TheVariants as tokens
use Rattle.litmus_lex.specs.declared.cursor.Cursor.{Cursor}
use Rattle.litmus_lex.specs.declared.cursor.Refusal.{Refusal}
use Rattle.litmus_lex.specs.declared.cursor.Refusal.TheVariants.{OutOfMemory}
use Rattle.litmus_lex.specs.declared.cursor.Spot.{Spot}
use Rattle.litmus_lex.specs.declared.words.Word.{Word}
use Rattle.litmus_lex.specs.Words.{Symbol, word, identifier, number, sign, fault, symbol_of_name, word_of}

-- the symbol of a token of the code
abbrev pub symbol_of_token : Token → Symbol
symbol_of_token (tokens.Name bytes) = symbol_of_name bytes.now (word_of bytes.now)
symbol_of_token (tokens.Number value) = number value
symbol_of_token (tokens.Sign s) = sign s
symbol_of_token tokens.TooLarge = fault
symbol_of_token tokens.Stray = fault
symbol_of_token tokens.Unclosed = fault
symbol_of_token tokens.End = fault

abbrev pub symbol_of_spot : Spot → Symbol
symbol_of_spot spot = symbol_of_token spot.token

-- the symbols that are left
abbrev pub symbols_left : Cursor → List Symbol
symbols_left cursor = map symbol_of_spot cursor.left.now

-- the symbol that is next, or a fault at the end
abbrev pub first : List Symbol → Symbol
first [] = fault
first (symbol ∷ rest) = symbol

-- the symbols after it
abbrev pub others : List Symbol → List Symbol
others [] = []
others (symbol ∷ rest) = rest

-- the place of a sign among all
abbrev pub sign_number : Sign → ℕ
sign_number OpenBrace = 0
sign_number CloseBrace = 1
sign_number OpenParen = 2
sign_number CloseParen = 3
sign_number OpenBracket = 4
sign_number CloseBracket = 5
sign_number Semicolon = 6
sign_number Comma = 7
sign_number Colon = 8
sign_number Assign = 9
sign_number AddAssign = 10
sign_number Increment = 11
sign_number Plus = 12
sign_number Minus = 13
sign_number Star = 14
sign_number Tilde = 15
sign_number Not = 16
sign_number Ampersand = 17
sign_number Caret = 18
sign_number Bar = 19
sign_number Less = 20
sign_number Greater = 21
sign_number LessEqual = 22
sign_number GreaterEqual = 23
sign_number Equal = 24
sign_number NotEqual = 25
sign_number Conjunction = 26
sign_number Disjunction = 27
sign_number Slash = 28
sign_number Percent = 29
sign_number ShiftLeft = 30
sign_number ShiftRight = 31
sign_number LogicalAnd = 32
sign_number LogicalOr = 33
sign_number Question = 34

abbrev pub same_sign : Sign → Sign → Bool
same_sign a b = sign_number a == sign_number b

-- whether the symbol is the sign
abbrev pub is_sign : Sign → Symbol → Bool
is_sign s (word w) = false
is_sign s (identifier name) = false
is_sign s (number n) = false
is_sign s (sign t) = same_sign t s
is_sign s fault = false

-- the word that a symbol is
abbrev pub word_at : Symbol → Option Word
word_at (word w) = Some w
word_at (identifier name) = None
word_at (number n) = None
word_at (sign s) = None
word_at fault = None

-- the name that a symbol is
abbrev pub identifier_at : Symbol → Option (List ℕ)
identifier_at (word w) = None
identifier_at (identifier name) = Some name
identifier_at (number n) = None
identifier_at (sign s) = None
identifier_at fault = None

-- the bytes of a name, without where they lie in memory
abbrev pub now : Bor (List ℕ) → List ℕ
now name = name.now

-- whether the symbol is a name, or a word
abbrev pub is_name : Symbol → Bool
is_name (word w) = true
is_name (identifier name) = true
is_name (number n) = false
is_name (sign s) = false
is_name fault = false

-- a name and `(` are next
abbrev pub begins_call : List Symbol → Bool
begins_call symbols = is_name (first symbols) && is_sign OpenParen (first (others symbols))

-- the sign is taken
unfoldable pub take_sign : Sign → List Symbol → Option (List Symbol)
take_sign s symbols = if is_sign s (first symbols) then Some (others symbols) else None

-- a number is taken
abbrev pub number_of : Symbol → List Symbol → Option (ℕ × List Symbol)
number_of (word w) rest = None
number_of (identifier name) rest = None
number_of (number n) rest = Some (n, rest)
number_of (sign s) rest = None
number_of fault rest = None

unfoldable pub take_number : List Symbol → Option (ℕ × List Symbol)
take_number symbols = number_of (first symbols) (others symbols)

infixl 10 ◌>>=◌
-- one reader behind another
abbrev pub ◌>>=◌ : {A B : Type 0} → Option A → (A → Option B) → Option B
None >>= f = None
(Some x) >>= f = f x

-- a number or its negative, modulo 2^64, is taken
unfoldable pub take_signed : List Symbol → Option (ℕ × List Symbol)
take_signed symbols =
    if is_sign Minus (first symbols)
    then (take_number (others symbols) >>= λ found. Some ((2 ^ 64 - found.0) % 2 ^ 64, found.1))
    else take_number symbols

-- what a parsing function answers, seen by a view, is what a reader reads, memory aside
abbrev pub Answers : {X Y : Type 0} → Result X Refusal → (X → Y) → Option Y → Type 0
Answers (Ok x) view read = read ≡ Some (view x)
Answers (Err refusal) view read = (refusal ≡ OutOfMemory → ⊥) → read ≡ None
