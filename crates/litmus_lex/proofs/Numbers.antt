-- Names, numbers and stray bytes at the front, from what the code found out about the first bytes
-- and the run
-- after them.
use Rattle.std.proofs.Common.{◌≡◌, ℕ, zero, suc, ◌+◌, ◌^◌, ◌<◌, ◌≤◌, List, [], ◌∷◌, ◌++◌, ◌∙◌, Bool, true, false}
use Rattle.std.proofs.Common.{if◌then◌else◌, nat_lt, inl, inr, length-append, length-take-le, ap, arith, drop, get_or, length, refl, subst, sym, take, ltb-true, ltb-false}
use Rattle.std.specs.Prelude.{MatchOption}
use Rattle.std.specs.Char.{digit_value}
use Rattle.std.specs.Str.Parse.{digits_value}
use Rattle.std.proofs.lemmas.Bool.Decides.{nat_tests}
use Rattle.std.proofs.lemmas.List.{drop_at, take_at, take-append-drop}
use Rattle.litmus_lex.specs.declared.bytes.Class.{Class}
use Rattle.litmus_lex.specs.declared.bytes.Class.TheVariants.{NameStart, NamePart, Digit, HexDigit}
use Rattle.litmus_lex.specs.declared.sign.Sign.{Sign}
use Rattle.litmus_lex.specs.declared.token.Token.{Token}
use Rattle.litmus_lex.specs.declared.token.Token.TheVariants.{Number, TooLarge}
use Rattle.litmus_lex.specs.Bytes.{belongs, IsRun}
use Rattle.litmus_lex.specs.Sign.{Begins}
use Rattle.litmus_lex.specs.Token.{terminal_of, BeginsHexadecimal, IsName, IsNumber, IsStray}
use Rattle.litmus_lex.specs.Found.{BeginsWith, FollowsPrefix, SpellsClosed, number_is}

-- each byte of a run is of its class
pub run_reads : (class : Class) (run rest : List ℕ) → IsRun class run rest → (k : ℕ)
    → k < length run → belongs class (get_or run k 0) ≡ true
run_reads class [] rest is k inside = absurd (omega arith)
run_reads class (byte ∷ run) rest is zero inside = is.0
run_reads class (byte ∷ run) rest is (suc k) inside = run_reads class run rest is.1 k (omega arith)

pub digit_value-decimal : (byte : ℕ) → belongs Digit byte ≡ true → digit_value byte < 10
digit_value-decimal byte is = grind (arith, nat_tests)

pub digit_value-hexadecimal : (byte : ℕ) → belongs HexDigit byte ≡ true → digit_value byte < 16
digit_value-hexadecimal byte is = grind (arith, nat_tests)

-- the token of a number spells it
spells_by : (large : Bool) (value : ℕ) (spelled rest : List ℕ) (empty some : Type 0)
    → nat_lt value (2 ^ 64) ≡ large
    → IsNumber spelled rest value → some
    → MatchOption (terminal_of (if large then Number value else TooLarge)) empty
    (λ terminal. some × SpellsClosed terminal spelled rest)
spells_by true value spelled rest empty some test is here =
    (here, (is, ltb-true value (2 ^ 64) test))
spells_by false value spelled rest empty some test is here =
    (here, (value, is, ltb-false value (2 ^ 64) test))

number_spells : (value : ℕ) (token : Token) (spelled rest a b : List ℕ) (empty some : Type 0)
    → token ≡ number_is value → spelled ≡ a → rest ≡ b
    → IsNumber spelled rest value → some
    → MatchOption (terminal_of token) empty (λ terminal. some × SpellsClosed terminal a b)
number_spells value token spelled rest a b empty some token_is front back is here =
    subst (λ t. MatchOption (terminal_of t) empty (λ terminal. some × SpellsClosed terminal a b))
    (sym token_is)
    (subst (λ xs. MatchOption (terminal_of (number_is value)) empty
    (λ terminal. some × SpellsClosed terminal a xs)) back
    (subst (λ xs. MatchOption (terminal_of (number_is value)) empty
    (λ terminal. some × SpellsClosed terminal xs rest)) front
    (spells_by (nat_lt value (2 ^ 64)) value spelled rest empty some refl is here)))

-- hexadecimal digits after `0x`
pub record Stands (bytes : List ℕ) (token : Token) (len : ℕ) : Type 0 where
  pub within : len ≤ length bytes
  pub spells : MatchOption (terminal_of token) (bytes ≡ [])
      (λ terminal. (0 < len) × SpellsClosed terminal (take len bytes) (drop len bytes))

pub hexadecimal_stands : (bytes digits : List ℕ) (token : Token) → FollowsPrefix bytes digits
    → token ≡ number_is (digits_value 16 digits)
    → Stands bytes token (2 + length digits)
hexadecimal_stands bytes digits token follows is =
    let spelled : List ℕ = 48 ∷ 120 ∷ digits in
    let size : length spelled ≡ 2 + length digits = omega arith in
    let whole : bytes ≡ spelled ++ follows.0 = follows.1 in
    let front : spelled ≡ take (2 + length digits) bytes =
    sym (ap (take (2 + length digits)) whole
    ∙ take_at spelled follows.0 (2 + length digits) size) in
    let back : follows.0 ≡ drop (2 + length digits) bytes =
    sym (ap (drop (2 + length digits)) whole
    ∙ drop_at spelled follows.0 (2 + length digits) size) in
    let parts = ap length whole in
    record {
      within = omega (arith, length-append spelled follows.0);
      spells = number_spells (digits_value 16 digits) token spelled follows.0 _ _ _ _ is front back
          (inl (record {
            digits = digits;
            spelled = refl;
            some = follows.2;
            run = follows.3;
            is =
                refl;
          })) (omega arith);
    }

-- a run that begins with a byte of its class isn't empty
pub run_some : (class : Class) (bytes : List ℕ) (len : ℕ) → BeginsWith class bytes
    → IsRun class (take len bytes) (drop len bytes) → 0 < len
run_some class [] len begins is = absurd begins
run_some class (byte ∷ bytes) zero begins is = cc
run_some class (byte ∷ bytes) (suc len) begins is = omega arith

pub decimal_stands : (bytes : List ℕ) (len : ℕ) (token : Token) → BeginsWith Digit bytes
    → len ≤ length bytes → IsRun Digit (take len bytes) (drop len bytes)
    → ¬ BeginsHexadecimal bytes → token ≡ number_is (digits_value 10 (take len bytes))
    → Stands bytes token len
decimal_stands bytes len token begins within run plain is =
    let some = run_some Digit bytes len begins run in
    let size = length-take-le len bytes within in
    record {
      within = within;
      spells = number_spells (digits_value 10 (take len bytes)) token (take len bytes)
          (drop len bytes) _ _ _ _ is refl refl
          (inr (record {
            some = omega arith;
            run = run;
            plain =
                subst (λ xs. BeginsHexadecimal xs → ⊥) (sym (take-append-drop len bytes)) plain;
            is = refl;
          })) some;
    }

-- a letter or `_` and the run after it
pub name_first : (bytes others : List ℕ) (len : ℕ) → 1 ≤ length bytes → others ≡ drop 1 bytes
    → belongs NameStart (get_or bytes 0 0) ≡ true
    → IsRun NamePart (take len others) (drop len others)
    → IsName (take (1 + len) bytes) (drop (1 + len) bytes)
name_first [] others len one is start run = absurd (omega arith)
name_first (byte ∷ bytes) others len one is start run =
    let more : 1 + len ≡ suc len = omega arith in
    rw more (start, subst (λ xs. IsRun NamePart (take len xs) (drop len xs)) is run)

-- a byte that begins nothing
pub stray_first : (bytes : List ℕ) → 1 ≤ length bytes
    → belongs NameStart (get_or bytes 0 0) ≡ false → belongs Digit (get_or bytes 0 0) ≡ false
    → ((sign : Sign) → Begins sign bytes → ⊥) → (byte : ℕ) × (take 1 bytes ≡ byte ∷ [])
    × IsStray byte (drop 1 bytes)
stray_first [] one no_name no_number no_sign = absurd (omega arith)
stray_first (byte ∷ bytes) one no_name no_number no_sign =
    (byte, refl, record { no_name = no_name; no_number = no_number; no_sign = no_sign })
