-- A list of bytes has one first token, and so at most one list of tokens.
use Rattle.std.proofs.Common.{◌≡◌, ◌↔◌, ℕ, ◌+◌, ◌<◌, List, [], ◌∷◌, ◌++◌, ◌∙◌, Option, Some, None, true, false, if◌then◌else◌, ap, append-nil, arith}
use Rattle.std.proofs.Common.{inl, inr, length, lit<, refl, subst, sym, take, ◌==◌}
use Rattle.std.proofs.lemmas.Bool.Decides.{nat_tests}
use Rattle.std.proofs.lemmas.List.{append_cancel_left, take_at}
use Rattle.std.specs.Str.Parse.{digits_value}
use Rattle.litmus_lex.specs.declared.bytes.Class.TheVariants.{NameStart, NamePart, Digit, HexDigit}
use Rattle.litmus_lex.specs.declared.sign.Sign.{Sign}
use Rattle.litmus_lex.specs.declared.sign.Sign.TheVariants.{OpenBrace, CloseBrace, OpenParen, CloseParen, OpenBracket, CloseBracket, Semicolon, Comma, Colon, Assign}
use Rattle.litmus_lex.specs.declared.sign.Sign.TheVariants.{AddAssign, Increment, Plus, Minus, Star, Tilde, Not, Ampersand, Caret, Bar}
use Rattle.litmus_lex.specs.declared.sign.Sign.TheVariants.{Less, Greater, LessEqual, GreaterEqual, Equal, NotEqual, Conjunction, Disjunction, Slash, Percent}
use Rattle.litmus_lex.specs.declared.sign.Sign.TheVariants.{ShiftLeft, ShiftRight, LogicalAnd, LogicalOr, Question}
use Rattle.litmus_lex.specs.declared.token.Part.{Part}
use Rattle.litmus_lex.specs.Bytes.{belongs, IsRun}
use Rattle.litmus_lex.specs.Gap.{IsAtToken, IsGap, IsUnclosed}
use Rattle.litmus_lex.specs.Sign.{sign_bytes, IsLongestSign}
use Rattle.litmus_lex.specs.Token.{Terminal, name, number, sign, too_large, stray, unclosed, BeginsHexadecimal, IsHexadecimal, IsName, IsNumber, Spells}
use Rattle.litmus_lex.specs.Tokens.{Placed, First, AreTokens, StartsAt, part_after, place_of}
use Rattle.litmus_lex.proofs.Unique.{GapStops, Same, gap_unique, run_unique, unclosed_token}

-- ---- signs

-- the sign that has these bytes
sign_read : List ℕ → Option Sign
sign_read [] = None
sign_read (a ∷ []) =
    if a == 123 then Some OpenBrace else
    (if a == 125 then Some CloseBrace else
    (if a == 40 then Some OpenParen else (if a == 41 then Some CloseParen else
    (if a == 91 then Some OpenBracket else
    (if a == 93 then Some CloseBracket else
    (if a == 59 then Some Semicolon else (if a == 44 then Some Comma else
    (if a == 58 then Some Colon else
    (if a == 61 then Some Assign else
    (if a == 43 then Some Plus else (if a == 45 then Some Minus else
    (if a == 42 then Some Star else
    (if a == 126 then Some Tilde else
    (if a == 33 then Some Not else (if a == 38 then Some Ampersand else
    (if a == 94 then Some Caret else
    (if a == 124 then Some Bar else
    (if a == 60 then Some Less else (if a == 62 then Some Greater else
    (if a == 47 then Some Slash else
    (if a == 37 then Some Percent else
    (if a == 63 then Some Question else None))))))))))))))))))))))
sign_read (a ∷ b ∷ more) =
    if b == 61 then
    (if a == 43 then Some AddAssign else
    (if a == 60 then Some LessEqual else
    (if a == 62 then Some GreaterEqual else (if a == 61 then Some Equal else Some NotEqual))))
    else (if a == 43 then Some Increment else
    (if a == 47 then Some Conjunction else
    (if a == 92 then Some Disjunction else (if a == 60 then Some ShiftLeft else
    (if a == 62 then Some ShiftRight else (if a == 38 then Some LogicalAnd else Some LogicalOr))))))

sign_read-sign_bytes : (s : Sign) → sign_read (sign_bytes s) ≡ Some s
unfolding sign_read
sign_read-sign_bytes OpenBrace = refl
sign_read-sign_bytes _ = refl

sign_some : (s : Sign) → 0 < length (sign_bytes s)
sign_some OpenBrace = lit< tt
sign_some _ = lit< tt

-- the longest sign at the front is one
sign_unique : (s t : Sign) (bytes : List ℕ) → IsLongestSign s bytes → IsLongestSign t bytes → s ≡ t
sign_unique s t bytes first second =
    let size : length (sign_bytes t) ≡ length (sign_bytes s) =
    omega (arith, first.longest t second.begins, second.longest s first.begins) in
    let one = take_at (sign_bytes s) first.begins.0 (length (sign_bytes s)) refl in
    let two = take_at (sign_bytes t) second.begins.0 (length (sign_bytes s)) size in
    let same : sign_bytes s ≡ sign_bytes t =
    sym one ∙ (ap (take (length (sign_bytes s))) (sym first.begins.1 ∙ second.begins.1) ∙ two) in
    let read : Some s ≡ Some t = sym (sign_read-sign_bytes s)
    ∙ (ap sign_read same ∙ sign_read-sign_bytes t) in
    cc

-- ---- the first byte says which kind of token it is

data Start : Type 0 where
  nothing : Start
  word : Start
  digits : Start
  mark : Start

start_at : List ℕ → Start
start_at [] = nothing
start_at (byte ∷ bytes) =
    if belongs NameStart byte then word else (if belongs Digit byte then digits else mark)

-- what a token begins with
start_of : Terminal → Start
start_of (name bytes) = word
start_of (number value) = digits
start_of (sign s) = mark
start_of too_large = digits
start_of stray = mark
start_of unclosed = nothing

digit_starts : (byte : ℕ) (bytes : List ℕ) → belongs Digit byte ≡ true
    → start_at (byte ∷ bytes) ≡ digits
unfolding start_at
digit_starts byte bytes is =
    let no_name : belongs NameStart byte ≡ false = grind (arith, nat_tests) in
    rw (no_name, is) refl

number_starts : (a x : List ℕ) (value : ℕ) → IsNumber a x value → start_at (a ++ x) ≡ digits
number_starts a x value (inl hexadecimal) = ap (λ xs. start_at (xs ++ x)) hexadecimal.spelled
    ∙ digit_starts 48 _ refl
number_starts [] x value (inr decimal) = absurd (omega (arith, decimal.some))
number_starts (byte ∷ a) x value (inr decimal) = digit_starts byte (a ++ x) decimal.run.0

sign_starts : (s : Sign) (x : List ℕ) → start_at (sign_bytes s ++ x) ≡ mark
unfolding start_at
sign_starts OpenBrace x = refl
sign_starts _ x = refl

spelled_starts : (t : Terminal) (a x : List ℕ) → Spells t a x → (t ≡ unclosed → ⊥)
    → start_at (a ++ x) ≡ start_of t
unfolding start_at start_of
spelled_starts (name bytes) [] x spells ends = absurd spells.1
spelled_starts (name bytes) (byte ∷ a) x spells ends = rw spells.1.0 refl
spelled_starts (number value) a x spells ends = number_starts a x value spells.0
spelled_starts (sign s) a x spells ends = ap (λ xs. start_at (xs ++ x)) spells.0 ∙ sign_starts s x
spelled_starts too_large a x spells ends = number_starts a x spells.0 spells.1
spelled_starts stray a x spells ends =
    ap (λ xs. start_at (xs ++ x)) spells.1 ∙ rw (spells.2.no_name, spells.2.no_number) refl
spelled_starts unclosed a x spells ends = absurd (ends refl)

-- ---- one token

name_unique : (a x b y : List ℕ) → IsName a x → IsName b y → a ++ x ≡ b ++ y → Same a x b y
name_unique [] x b y first second whole = absurd first
name_unique (p ∷ a) x [] y first second whole = absurd second
name_unique (p ∷ a) x (q ∷ b) y first second whole =
    let head : p ≡ q = cc in
    let tail : a ++ x ≡ b ++ y = cc in
    let more = run_unique NamePart a x b y first.1 second.1 tail in
    let others = more.front in
    record { front = cc; rest = more.rest }

-- two numbers at the front have the same bytes and the same value
pub record SameNumber (a x : List ℕ) (v : ℕ) (b y : List ℕ) (w : ℕ) : Type 0 where
  pub bytes : Same a x b y
  pub value : v ≡ w

hexadecimal_begins : (a x : List ℕ) (v : ℕ) → IsHexadecimal a x v → BeginsHexadecimal (a ++ x)
hexadecimal_begins a x v is =
    subst (λ xs. BeginsHexadecimal (xs ++ x)) (sym is.spelled)
    (begins is.digits is.some is.run) where
      begins : (ds : List ℕ) → 0 < length ds → IsRun HexDigit ds x
          → BeginsHexadecimal ((48 ∷ 120 ∷ ds) ++ x)
      begins [] some run = absurd (omega arith)
      begins (d ∷ ds) some run = (refl, refl, run.0)

number_unique : (a x : List ℕ) (v : ℕ) (b y : List ℕ) (w : ℕ) → IsNumber a x v → IsNumber b y w
    → a ++ x ≡ b ++ y → SameNumber a x v b y w
number_unique a x v b y w (inl first) (inl second) whole =
    let one = first.spelled in
    let two = second.spelled in
    let both : (48 ∷ 120 ∷ first.digits) ++ x ≡ (48 ∷ 120 ∷ second.digits) ++ y =
    sym (ap (λ xs. xs ++ x) one) ∙ (whole ∙ ap (λ xs. xs ++ y) two) in
    let tail : first.digits ++ x ≡ second.digits ++ y = cc in
    let run = run_unique HexDigit first.digits x second.digits y first.run second.run tail in
    let digits = run.front in
    let values = ap (digits_value 16) digits in
    record {
      bytes = record {
        front = one ∙ (ap (λ ds. 48 ∷ 120 ∷ ds) digits ∙ sym two);
        rest =
            run.rest;
      };
      value = first.is ∙ (values ∙ sym second.is);
    }
number_unique a x v b y w (inl first) (inr second) whole =
    absurd (second.plain (subst BeginsHexadecimal whole (hexadecimal_begins a x v first)))
number_unique a x v b y w (inr first) (inl second) whole =
    absurd (first.plain (subst BeginsHexadecimal (sym whole) (hexadecimal_begins b y w second)))
number_unique a x v b y w (inr first) (inr second) whole =
    let run = run_unique Digit a x b y first.run second.run whole in
    record { bytes = run; value = first.is ∙ (ap (digits_value 10) run.front ∙ sym second.is) }

-- two tokens at the front are one
record SameToken (t : Terminal) (a x : List ℕ) (u : Terminal) (b y : List ℕ) : Type 0 where
  pub terminal : t ≡ u
  pub bytes : Same a x b y

stray_unique : (a x b y : List ℕ) → Spells stray a x → Spells stray b y → a ++ x ≡ b ++ y
    → Same a x b y
stray_unique a x b y first second whole =
    let one = first.1 in
    let two = second.1 in
    let both : (first.0 ∷ []) ++ x ≡ (second.0 ∷ []) ++ y = sym (ap (λ xs. xs ++ x) one)
    ∙ (whole ∙ ap (λ xs. xs ++ y) two) in
    let head : first.0 ≡ second.0 = cc in
    record { front = cc; rest = cc }

sign_stray : (s : Sign) (a x b y : List ℕ) → Spells (sign s) a x → Spells stray b y
    → a ++ x ≡ b ++ y → ⊥
sign_stray s a x b y first second whole =
    second.2.no_sign s (
      x,
      ap (λ xs. xs ++ y) (sym second.1)
          ∙ (sym whole ∙ ap (λ xs. xs ++ x) first.0),
    )

token_unique : (part : Part) (t u : Terminal) (a x b y : List ℕ) → StartsAt part t (a ++ x)
    → StartsAt part u (b ++ y)
    → Spells t a x → Spells u b y → a ++ x ≡ b ++ y → SameToken t a x u b y
unfolding start_of
token_unique part (name m) (name n) a x b y start start' first second whole =
    let same = name_unique a x b y first.1 second.1 whole in
    record { terminal = ap (λ xs. name xs) (first.0 ∙ (same.front ∙ sym second.0)); bytes = same }
token_unique part (number v) (number w) a x b y start start' first second whole =
    let same = number_unique a x v b y w first.0 second.0 whole in
    record { terminal = ap (λ n. number n) same.value; bytes = same.bytes }
token_unique part (number v) too_large a x b y start start' first second whole =
    let same = number_unique a x v b y second.0 first.0 second.1 whole in
    absurd (omega (arith, same.value, first.1, second.2))
token_unique part too_large (number w) a x b y start start' first second whole =
    let same = number_unique a x first.0 b y w first.1 second.0 whole in
    absurd (omega (arith, same.value, first.2, second.1))
token_unique part too_large too_large a x b y start start' first second whole =
    record {
      terminal = refl;
      bytes =
          (number_unique a x first.0 b y second.0 first.1 second.1 whole).bytes;
    }
token_unique part (sign s) (sign t) a x b y start start' first second whole =
    let one = sign_unique s t (a ++ x) first.1 (subst (IsLongestSign t) (sym whole) second.1) in
    let front : a ≡ b = first.0 ∙ (ap sign_bytes one ∙ sym second.0) in
    record {
      terminal = ap (λ s. sign s) one;
      bytes =
          record {
            front = front;
            rest =
                append_cancel_left b x y (ap (λ xs. xs ++ x) (sym front) ∙ whole);
          };
    }
token_unique part (sign s) stray a x b y start start' first second whole =
    absurd (sign_stray s a x b y first second whole)
token_unique part stray (sign s) a x b y start start' first second whole =
    absurd (sign_stray s b y a x second first (sym whole))
token_unique part stray stray a x b y start start' first second whole =
    record { terminal = refl; bytes = stray_unique a x b y first second whole }
token_unique part unclosed unclosed a x b y start start' first second whole =
    let front : a ≡ b = sym (append-nil a)
    ∙ (ap (λ xs. a ++ xs) (sym first) ∙ (whole ∙ (ap (λ xs. b ++ xs) second ∙ append-nil b))) in
    record { terminal = refl; bytes = record { front = front; rest = first ∙ sym second } }
token_unique part unclosed u a x b y start start' first second whole =
    absurd (unclosed_token part (a ++ x) start (subst (IsAtToken part) (sym whole) start'))
token_unique part t unclosed a x b y start start' first second whole =
    absurd (unclosed_token part (b ++ y) start' (subst (IsAtToken part) whole start))
token_unique part t u a x b y start start' first second whole =
    let clash : start_of t ≡ start_of u = sym (spelled_starts t a x first (λ is. cc))
    ∙ (ap start_at whole ∙ spelled_starts u b y second (λ is. cc)) in
    cc

starts_stops : (part : Part) (t : Terminal) (bytes : List ℕ) → StartsAt part t bytes
    → GapStops part bytes
starts_stops part unclosed bytes starts = inr starts
starts_stops part (name n) bytes starts = inl starts
starts_stops part t bytes starts = inl starts

-- the first tokens of some bytes are one
pub record SameFirst (part : Part) (at : ℕ) (bytes : List ℕ) (t u : Placed)
    (f : First part at bytes t) (g : First part at bytes u) : Type 0 where
  pub token : t ≡ u
  pub gap : f.gap ≡ g.gap
  pub spelled : f.spelled ≡ g.spelled
  pub rest : f.rest ≡ g.rest

first_unique : (part : Part) (at : ℕ) (bytes : List ℕ) (t u : Placed) (f : First part at bytes t)
    (g : First part at bytes u) → SameFirst part at bytes t u f g
first_unique part at bytes t u f g =
    let gaps = gap_unique part f.gap (f.spelled ++ f.rest) g.gap
    (g.spelled ++ g.rest) f.separated g.separated
    (starts_stops part t.terminal (f.spelled ++ f.rest) f.starts)
    (starts_stops part u.terminal (g.spelled ++ g.rest) g.starts) (sym f.whole ∙ g.whole) in
    let tokens = token_unique part t.terminal u.terminal f.spelled f.rest g.spelled g.rest
    f.starts g.starts f.spells g.spells gaps.rest in
    let terminal = tokens.terminal in
    let gap = gaps.front in
    let spelled = tokens.bytes.front in
    let here : t.at ≡ u.at =
    f.place ∙ ((λ i. place_of (terminal i) (at + length (gap i)) (spelled i)) ∙ sym g.place) in
    record {
      token = λ i. record { terminal = terminal i; at = here i };
      gap = gap;
      spelled =
          spelled;
      rest = tokens.bytes.rest;
    }

-- no token stands at the end
terminal_some : (part : Part) (t : Terminal) (a x : List ℕ) → StartsAt part t (a ++ x)
    → Spells t a x → [] ≡ a ++ x → ⊥
unfolding start_at start_of
terminal_some part unclosed a x starts spells whole = subst (IsUnclosed part) (sym whole) starts
terminal_some part (name n) a x starts spells whole =
    let clash : start_at [] ≡ start_of (name n) = ap start_at whole
    ∙ spelled_starts (name n) a x spells (λ is. cc) in
    cc
terminal_some part t a x starts spells whole =
    let clash : start_at [] ≡ start_of t = ap start_at whole
    ∙ spelled_starts t a x spells (λ is. cc) in
    cc

pub no_first : (part : Part) (at : ℕ) (bytes : List ℕ) (t : Placed) → IsGap part bytes []
    → First part at bytes t → ⊥
no_first part at bytes t gap first =
    let gaps = gap_unique part bytes [] first.gap
    (first.spelled ++ first.rest) gap first.separated (inl tt)
    (starts_stops part t.terminal (first.spelled ++ first.rest) first.starts)
    (append-nil bytes ∙ first.whole) in
    terminal_some part t.terminal first.spelled first.rest first.starts first.spells gaps.rest

-- ---- all tokens

-- the same bytes at the same place have the same tokens
pub tokens_at : (p q : Part) (m n : ℕ) (a b : List ℕ) (tokens : List Placed) → p ≡ q → m ≡ n
    → a ≡ b → AreTokens p m a tokens → AreTokens q n b tokens
tokens_at p q m n a b tokens part place bytes are =
    subst (λ xs. AreTokens q n xs tokens) bytes
    (subst (λ k. AreTokens q k a tokens) place (subst (λ r. AreTokens r m a tokens) part are))

-- the tokens behind a first token are those behind any
behind_same : (part : Part) (at : ℕ) (bytes : List ℕ) (t u : Placed) (f : First part at bytes t)
    (g : First part at bytes u) (tokens : List Placed)
    → SameFirst part at bytes t u f g
    → AreTokens (part_after part t.terminal) (at + length f.gap + length f.spelled) f.rest tokens
    → AreTokens (part_after part u.terminal) (at + length g.gap + length g.spelled) g.rest tokens
behind_same part at bytes t u f g tokens same are =
    tokens_at _ _ _ _ _ _ tokens (ap (λ v. part_after part v.terminal) same.token)
    (λ i. at + length (same.gap i) + length (same.spelled i)) same.rest are

pub tokens_unique : (part : Part) (at : ℕ) (bytes : List ℕ) (xs ys : List Placed)
    → AreTokens part at bytes xs → AreTokens part at bytes ys → xs ≡ ys
tokens_unique part at bytes [] [] first second = refl
tokens_unique part at bytes [] (u ∷ ys) first second =
    absurd (no_first part at bytes u first second.0)
tokens_unique part at bytes (t ∷ xs) [] first second =
    absurd (no_first part at bytes t second first.0)
tokens_unique part at bytes (t ∷ xs) (u ∷ ys) first second =
    let same = first_unique part at bytes t u first.0 second.0 in
    let more = behind_same part at bytes t u first.0 second.0 xs same first.1 in
    let others = tokens_unique (part_after part u.terminal)
    (at + length second.0.gap + length second.0.spelled) second.0.rest xs ys more second.1 in
    let token = same.token in
    cc

-- the tokens from here are those behind the first one, with it before them
pub tokens_behind : (part : Part) (at : ℕ) (bytes : List ℕ) (t : Placed)
    (f : First part at bytes t) (tokens : List Placed)
    → AreTokens part at bytes tokens
    ↔ ((rest : List Placed) × (tokens ≡ t ∷ rest)
    × AreTokens (part_after part t.terminal) (at + length f.gap + length f.spelled) f.rest rest)
tokens_behind part at bytes t f [] = (
  λ are. absurd (no_first part at bytes t are f),
  λ some. cc some.1,
)
tokens_behind part at bytes t f (u ∷ tokens) = (
  λ are.
      let same = first_unique part at bytes u t are.0 f in (
        tokens,
        ap (λ v. v ∷ tokens) same.token,
        behind_same part at bytes u t are.0 f tokens same are.1,
      ),
  λ some.
      let here : AreTokens part at bytes (t ∷ some.0) = (f, some.2) in
      subst (AreTokens part at bytes) (sym some.1) here,
)

pub tokens_end : (part : Part) (at : ℕ) (bytes : List ℕ) → IsGap part bytes []
    → (tokens : List Placed) → AreTokens part at bytes tokens ↔ (tokens ≡ [])
tokens_end part at bytes gap [] = (λ are. refl, λ is. gap)
tokens_end part at bytes gap (t ∷ tokens) =
    (λ are. absurd (no_first part at bytes t gap are.0), λ is. cc is)
