-- Which symbols the tokens of bytes have.
use Rattle.std.specs.Prelude.{◌≡◌, ℕ, List, [], ◌∷◌, None, map}
use Rattle.litmus_lex.specs.declared.bytes.Class.TheVariants.{NamePart}
use Rattle.litmus_lex.specs.declared.token.Part.{Part}
use Rattle.litmus_lex.specs.Bytes.{IsRun}
use Rattle.litmus_lex.specs.Token.{IsName}
use Rattle.litmus_lex.specs.Tokens.{AreTokens, Placed}
use Rattle.litmus_lex.specs.Words.{Symbol, word_of}
use Rattle.litmus_parse.specs.Grammar.{symbol_at}
use Rattle.litmus_parse.specs.Text.{IsTextByte}

-- a text may have each of the bytes
abbrev pub AreText : List ℕ → Type 0
AreText [] = Unit {0}
AreText (byte ∷ bytes) = IsTextByte byte × AreText bytes

-- a text may have the bytes, and wherever they stand, they have tokens with these symbols, in this part of a text
abbrev pub Reads : Part → List ℕ → List Symbol → Type 0
Reads part bytes symbols =
    AreText bytes × ((at : ℕ) → (tokens : List Placed) × AreTokens part at bytes tokens × (map symbol_at tokens ≡ symbols))

-- a name or a number before the bytes goes on with none of them
abbrev pub Ends : List ℕ → Type 0
Ends bytes = IsRun NamePart [] bytes

-- a name that is no word
abbrev pub IsIdentifier : List ℕ → Type 0
IsIdentifier name = IsName name [] × (word_of name ≡ None)
