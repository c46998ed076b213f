-- What the crate's own functions answer about the bytes that they are given, for their contracts
use Rattle.std.specs.Prelude.{◌≡◌, ◌-◌, ◌^◌, ◌<◌, ◌≤◌, ℕ, List, [], ◌∷◌, ◌++◌, true, MatchOption, length, take, drop, if◌then◌else◌, nat_lt, slice_index}
use Rattle.std.specs.Char.{digit_value}
use Rattle.litmus_lex.specs.declared.bytes.Class.{Class}
use Rattle.litmus_lex.specs.declared.bytes.Class.TheVariants.{HexDigit}
use Rattle.litmus_lex.specs.declared.gap.Front.{Front}
use Rattle.litmus_lex.specs.declared.gap.Front.TheVariants as fronts
use Rattle.litmus_lex.specs.declared.gap.Gap.{Gap}
use Rattle.litmus_lex.specs.declared.gap.Gap.TheVariants as gaps
use Rattle.litmus_lex.specs.declared.head.Passed.{Passed}
use Rattle.litmus_lex.specs.declared.head.Passed.TheVariants as passed
use Rattle.litmus_lex.specs.declared.head.Title.{Title}
use Rattle.litmus_lex.specs.declared.next.Ending.{Ending}
use Rattle.litmus_lex.specs.declared.token.Part.{Part}
use Rattle.litmus_lex.specs.declared.token.Token.{Token}
use Rattle.litmus_lex.specs.declared.token.Token.TheVariants.{Number, TooLarge}
use Rattle.litmus_lex.specs.Bytes.{belongs, IsRun}
use Rattle.litmus_lex.specs.Gap.{IsAtToken, IsGap, IsSeparator, IsUnclosed}
use Rattle.litmus_lex.specs.Head.{HasTitle, IsAtBrace, IsPassed}
use Rattle.litmus_lex.specs.Token.{Terminal, unclosed, terminal_of, Spells}

-- a token, a blank or comment of so many bytes, or a comment that doesn't end
abbrev pub IsFront : Part → List ℕ → Front → Type 0
IsFront part bytes fronts.Token = IsAtToken part bytes
IsFront part bytes (fronts.Separator len) =
    (0 < len) × (len ≤ length bytes) × IsSeparator part (take len bytes) (drop len bytes)
IsFront part bytes fronts.Unclosed = IsUnclosed part bytes

-- a gap of so many bytes before a token or the end, or one that goes on to the end in a comment
abbrev pub IsGapOf : Part → List ℕ → Gap → Type 0
IsGapOf part bytes (gaps.Before len) =
    (len ≤ length bytes) × IsGap part (take len bytes) (drop len bytes)
    × IsAtToken part (drop len bytes)
IsGapOf part bytes gaps.Unclosed =
    (gap comment : List ℕ) × (bytes ≡ gap ++ comment) × IsGap part gap comment
    × IsUnclosed part comment

-- the first byte is of the class
abbrev pub BeginsWith : Class → List ℕ → Type 0
BeginsWith class [] = ⊥
BeginsWith class (first ∷ bytes) = belongs class first ≡ true

-- the bytes spell the terminal, which is no open comment
abbrev pub SpellsClosed : Terminal → List ℕ → List ℕ → Type 0
SpellsClosed unclosed spelled rest = ⊥
SpellsClosed terminal spelled rest = Spells terminal spelled rest

-- a token of so many bytes stands at the front, and none where there are no bytes
abbrev pub IsEnding : List ℕ → Ending → Type 0
IsEnding bytes ending =
    (ending.len ≤ length bytes)
    × MatchOption (terminal_of ending.token) (bytes ≡ [])
    (λ terminal. (0 < ending.len)
    × SpellsClosed terminal (take ending.len bytes) (drop ending.len bytes))

-- each byte is a digit below the radix
abbrev pub AreDigits : ℕ → List ℕ → Type 0
AreDigits radix digits = (k : ℕ) → k < length digits → digit_value (slice_index digits k) < radix

-- `0x` and these hexadecimal digits stand at the front, and no digit more
abbrev pub FollowsPrefix : List ℕ → List ℕ → Type 0
FollowsPrefix bytes digits =
    (rest : List ℕ) × (bytes ≡ 48 ∷ 120 ∷ (digits ++ rest)) × (0 < length digits)
    × IsRun HexDigit digits rest

-- a number's token, by its value
abbrev pub number_is : ℕ → Token
number_is value = if nat_lt value (2 ^ 64) then Number value else TooLarge

-- the test's name stands at the title's place
abbrev pub IsTitle : List ℕ → Title → Type 0
IsTitle bytes title =
    (title.start ≤ title.end) × (title.end ≤ length bytes)
    × HasTitle bytes (take (title.end - title.start) (drop title.start bytes))
    (drop title.end bytes)

-- no `{` and no piece that could be passed over begins here
abbrev pub IsNowhere : List ℕ → Type 0
IsNowhere bytes =
    ((piece rest : List ℕ) → bytes ≡ piece ++ rest → ¬ IsPassed piece rest) × ¬ IsAtBrace bytes

-- a `{`, a piece of so many bytes that is passed over, or neither
abbrev pub IsPassedOf : List ℕ → Passed → Type 0
IsPassedOf bytes passed.Brace = IsAtBrace bytes
IsPassedOf bytes (passed.Over len) =
    (0 < len) × (len ≤ length bytes) × IsPassed (take len bytes) (drop len bytes)
IsPassedOf bytes passed.End = IsNowhere bytes
