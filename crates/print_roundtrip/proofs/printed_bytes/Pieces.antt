-- Signs, blanks and words, whatever follows.
use Rattle.std.proofs.Common.{inl, inr, ◌≡◌, ◌≢◌, ◌∙◌, ◌⊎◌, ◌≤◌, ℕ, List, [], ◌∷◌, ◌++◌, Bool, true}
use Rattle.std.proofs.Common.{false, length, get_or, refl, sym, ap, subst, append_assoc, arith, ◌==◌, ◌||◌, ◌&&◌, lit≤}
use Rattle.litmus_lex.specs.declared.bytes.Class.TheVariants.{Blank, NamePart, NameStart}
use Rattle.litmus_lex.specs.declared.gap.Comment.{Comment}
use Rattle.litmus_lex.specs.declared.gap.Comment.TheVariants.{Parens, Slashes, Line}
use Rattle.litmus_lex.specs.declared.sign.Sign.{Sign}
use Rattle.litmus_lex.specs.declared.sign.Sign.TheVariants.{AddAssign, Increment}
use Rattle.litmus_lex.specs.declared.sign.Sign.TheVariants.{LessEqual, GreaterEqual, Equal, NotEqual, Conjunction, Disjunction, ShiftLeft, ShiftRight, LogicalAnd, LogicalOr}
use Rattle.litmus_lex.specs.declared.token.Part.{Part}
use Rattle.litmus_lex.specs.declared.token.Part.TheVariants.{Body}
use Rattle.litmus_lex.specs.Bytes.{belongs, IsRun}
use Rattle.litmus_lex.specs.Gap.{IsAtToken, Opens}
use Rattle.litmus_lex.specs.Sign.{sign_bytes, Begins, IsLongestSign}
use Rattle.litmus_lex.specs.Token.{IsName}
use Rattle.litmus_lex.specs.Words.{Symbol}
use Rattle.print_roundtrip.specs.printed_bytes.Reads.{Reads}

and_first : (a b : Bool) → (a && b) ≡ true → a ≡ true
and_first true b is = refl
and_first false b is = is

and_second : (a b : Bool) → (a && b) ≡ true → b ≡ true
and_second true b is = is
and_second false b is = absurd cc

-- texts one after the other
pub grouped : {part : Part} {symbols : List Symbol} (a b rest : List ℕ) → Reads part (a ++ (b ++ rest)) symbols
    → Reads part ((a ++ b) ++ rest) symbols
grouped {part = part} {symbols = symbols} a b rest reads =
    subst (λ (l : List ℕ). Reads part l symbols) (sym (append_assoc a b rest)) reads

pub grouped_behind : {part : Part} {symbols : List Symbol} (c : ℕ) (a b rest : List ℕ) → Reads part (c ∷ (a ++ (b ++ rest))) symbols
    → Reads part (c ∷ ((a ++ b) ++ rest)) symbols
grouped_behind {part = part} {symbols = symbols} c a b rest reads =
    subst (λ (l : List ℕ). Reads part (c ∷ l) symbols) (sym (append_assoc a b rest)) reads

-- ---- names

-- the bytes are a name
abbrev pub are_parts : List ℕ → Bool
are_parts [] = true
are_parts (b ∷ bytes) = belongs NamePart b && are_parts bytes

abbrev pub is_word : List ℕ → Bool
is_word [] = false
is_word (b ∷ bytes) = belongs NameStart b && are_parts bytes

parts_run : (bytes : List ℕ) → are_parts bytes ≡ true → IsRun NamePart bytes []
parts_run [] are = tt
parts_run (b ∷ bytes) are = (and_first _ _ are, parts_run bytes (and_second _ _ are))

pub word_is : (bytes : List ℕ) → is_word bytes ≡ true → IsName bytes []
word_is [] is = absurd cc
word_is (b ∷ bytes) is = (and_first _ _ is, parts_run bytes (and_second _ _ is))

-- ---- which bytes begin a longer sign

abbrev pub begins_longer : ℕ → Bool
begins_longer byte =
    (byte == 43 || byte == 60) || ((byte == 62 || byte == 61)
    || ((byte == 33 || byte == 47) || ((byte == 92 || byte == 38) || byte == 124)))

-- and which end one
abbrev pub ends_longer : ℕ → Bool
ends_longer byte =
    (byte == 61 || byte == 43) || ((byte == 92 || byte == 47) || ((byte == 60 || byte == 62) || (byte == 38 || byte == 124)))

byte_at : ℕ → List ℕ → ℕ
byte_at n bytes = get_or bytes n 0

record Longer (s : Sign) : Type 0 where
  pub size : length (sign_bytes s) ≡ 2
  pub first : (rest : List ℕ) → begins_longer (byte_at 0 (sign_bytes s ++ rest)) ≡ true
  pub second : (rest : List ℕ) → ends_longer (byte_at 1 (sign_bytes s ++ rest)) ≡ true

one_or_longer : (s : Sign) → (length (sign_bytes s) ≤ 1) ⊎ Longer s
unfolding byte_at
one_or_longer AddAssign = inr (record { size = refl; first = λ rest. refl; second = λ rest. refl })
one_or_longer Increment = inr (record { size = refl; first = λ rest. refl; second = λ rest. refl })
one_or_longer LessEqual = inr (record { size = refl; first = λ rest. refl; second = λ rest. refl })
one_or_longer GreaterEqual = inr (record { size = refl; first = λ rest. refl; second = λ rest. refl })
one_or_longer Equal = inr (record { size = refl; first = λ rest. refl; second = λ rest. refl })
one_or_longer NotEqual = inr (record { size = refl; first = λ rest. refl; second = λ rest. refl })
one_or_longer Conjunction = inr (record { size = refl; first = λ rest. refl; second = λ rest. refl })
one_or_longer Disjunction = inr (record { size = refl; first = λ rest. refl; second = λ rest. refl })
one_or_longer ShiftLeft = inr (record { size = refl; first = λ rest. refl; second = λ rest. refl })
one_or_longer ShiftRight = inr (record { size = refl; first = λ rest. refl; second = λ rest. refl })
one_or_longer LogicalAnd = inr (record { size = refl; first = λ rest. refl; second = λ rest. refl })
one_or_longer LogicalOr = inr (record { size = refl; first = λ rest. refl; second = λ rest. refl })
one_or_longer _ = inl (lit≤ tt)

two_at_most : (s : Sign) → length (sign_bytes s) ≤ 2
two_at_most s =
    elim (one_or_longer s) [
      | inl le ↦ omega (arith, le)
      | inr longer ↦ let is = longer.size in omega (arith, is)
    ]

no_first : (byte : ℕ) (rest : List ℕ) → begins_longer byte ≡ false → (other : Sign) → Begins other (byte ∷ rest)
    → length (sign_bytes other) ≤ 1
unfolding byte_at
no_first byte rest single other begins =
    elim (one_or_longer other) [
      | inl le ↦ le
      | inr longer ↦
          let one : begins_longer byte ≡ true = ap (λ (l : List ℕ). begins_longer (byte_at 0 l)) begins.1 ∙ longer.first begins.0 in
          absurd cc
    ]

no_second : (byte next : ℕ) (rest : List ℕ) → ends_longer next ≡ false → (other : Sign) → Begins other (byte ∷ (next ∷ rest))
    → length (sign_bytes other) ≤ 1
unfolding byte_at
no_second byte next rest single other begins =
    elim (one_or_longer other) [
      | inl le ↦ le
      | inr longer ↦
          let one : ends_longer next ≡ true = ap (λ (l : List ℕ). ends_longer (byte_at 1 l)) begins.1 ∙ longer.second begins.0 in
          absurd cc
    ]

-- a sign of one byte with which no longer one begins
pub alone : (s : Sign) (byte : ℕ) (rest : List ℕ) → sign_bytes s ≡ byte ∷ [] → begins_longer byte ≡ false
    → IsLongestSign s (sign_bytes s ++ rest)
alone s byte rest is single =
    let whole : sign_bytes s ++ rest ≡ byte ∷ rest = ap (λ (l : List ℕ). l ++ rest) is in
    let one : length (sign_bytes s) ≡ 1 = ap (λ (l : List ℕ). length l) is in
    record {
      begins = (rest, refl);
      longest = λ other begins. let le = no_first byte rest single other (begins.0, sym whole ∙ begins.1) in omega (arith, le, one);
    }

-- a sign of one byte before one that ends no longer sign, as a blank
pub ended : (s : Sign) (byte next : ℕ) (rest : List ℕ) → sign_bytes s ≡ byte ∷ [] → ends_longer next ≡ false
    → IsLongestSign s (sign_bytes s ++ (next ∷ rest))
ended s byte next rest is single =
    let whole : sign_bytes s ++ (next ∷ rest) ≡ byte ∷ (next ∷ rest) = ap (λ (l : List ℕ). l ++ (next ∷ rest)) is in
    let one : length (sign_bytes s) ≡ 1 = ap (λ (l : List ℕ). length l) is in
    record {
      begins = (next ∷ rest, refl);
      longest = λ other begins. let le = no_second byte next rest single other (begins.0, sym whole ∙ begins.1) in
          omega (arith, le, one);
    }

-- a sign of two bytes
pub double : (s : Sign) (rest : List ℕ) → length (sign_bytes s) ≡ 2 → IsLongestSign s (sign_bytes s ++ rest)
double s rest two = record {
  begins = (rest, refl);
  longest = λ other begins. let le = two_at_most other in omega (arith, le, two);
}

-- ---- where no comment begins

pub plain_token : (part : Part) (byte : ℕ) (rest : List ℕ) → belongs Blank byte ≡ false → byte ≢ 40 → byte ≢ 47
    → IsAtToken part (byte ∷ rest)
plain_token part byte [] blank paren slash = blank
plain_token part byte (b ∷ rest) blank paren slash = (blank, no_comment)
  where
    no_comment : (comment : Comment) → ¬ Opens part comment byte b
    no_comment Parens opens = paren opens.1
    no_comment Slashes opens = slash opens.1
    no_comment Line opens = slash opens.1

-- 40 is '(' and 47 is '/'
no_slash : ◌≢◌ {A = ℕ} 40 47
no_slash is = absurd (omega (arith, is))

-- in a body `(` begins no comment
pub paren_token : (d : ℕ) (rest : List ℕ) → IsAtToken (Body d) (40 ∷ rest)
paren_token d [] = refl
paren_token d (b ∷ rest) = (refl, no_comment)
  where
    no_comment : (comment : Comment) → ¬ Opens (Body d) comment 40 b
    no_comment Parens opens = opens.0
    no_comment Slashes opens = no_slash opens.1
    no_comment Line opens = no_slash opens.1

-- elsewhere it begins none unless `*` follows
pub paren_before : (part : Part) (next : ℕ) (rest : List ℕ) → next ≢ 42 → IsAtToken part (40 ∷ (next ∷ rest))
paren_before part next rest other = (refl, no_comment)
  where
    no_comment : (comment : Comment) → ¬ Opens part comment 40 next
    no_comment Parens opens = other opens.2
    no_comment Slashes opens = no_slash opens.1
    no_comment Line opens = no_slash opens.1
