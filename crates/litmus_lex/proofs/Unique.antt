-- A list of bytes begins with one run of a class, one comment, one gap: of two that it begins
-- with, each is the
-- other. By induction on both, byte by byte.
use Rattle.std.proofs.Common.{◌≡◌, ◌⊎◌, ℕ, List, [], ◌∷◌, ◌++◌, ◌∙◌, true, ap, append_assoc, arith, inl, inr, refl, subst, sym}
use Rattle.std.specs.List.{concat}
use Rattle.litmus_lex.specs.declared.bytes.Class.{Class}
use Rattle.litmus_lex.specs.declared.bytes.Class.TheVariants.{Blank, InLine}
use Rattle.litmus_lex.specs.declared.gap.Comment.{Comment}
use Rattle.litmus_lex.specs.declared.gap.Comment.TheVariants.{Parens, Slashes, Line}
use Rattle.litmus_lex.specs.declared.token.Part.{Part}
use Rattle.litmus_lex.specs.Bytes.{belongs, EndsAtPair, InRow, IsRow, IsRun, LacksPair}
use Rattle.litmus_lex.specs.Gap.{Closes, IsAtToken, IsGap, IsSeparator, IsUnclosed, NeverCloses, Opens}

-- two splits of one list are the same
pub record Same (a x b y : List ℕ) : Type 0 where
  pub front : a ≡ b
  pub rest : x ≡ y

same_cons : (p q : ℕ) (a x b y : List ℕ) → p ≡ q → Same a x b y → Same (p ∷ a) x (q ∷ b) y
same_cons p q a x b y head tail =
    let front = tail.front in
    record { front = cc; rest = tail.rest }

pub run_unique : (class : Class) (a x b y : List ℕ) → IsRun class a x → IsRun class b y
    → a ++ x ≡ b ++ y → Same a x b y
run_unique class [] x [] y first second whole = record { front = refl; rest = whole }
run_unique class [] [] (q ∷ b) y first second whole = cc
run_unique class [] (p ∷ x) (q ∷ b) y first second whole =
    let head : p ≡ q = cc in
    let is = ap (belongs class) head in
    let is_not = second.0 in
    cc
run_unique class (p ∷ a) x [] [] first second whole = cc
run_unique class (p ∷ a) x [] (q ∷ y) first second whole =
    let head : p ≡ q = cc in
    let is = ap (belongs class) head in
    let is_not = first.0 in
    cc
run_unique class (p ∷ a) x (q ∷ b) y first second whole =
    let head : p ≡ q = cc in
    let tail : a ++ x ≡ b ++ y = cc in
    same_cons p q a x b y head (run_unique class a x b y first.1 second.1 tail)

pub pair_unique : (f s : ℕ) (a x b y : List ℕ) → EndsAtPair f s a → EndsAtPair f s b
    → a ++ x ≡ b ++ y → Same a x b y
pair_unique f s [] x b y first second whole = absurd first
pair_unique f s (p ∷ []) x b y first second whole = absurd first
pair_unique f s (p ∷ q ∷ []) x [] y first second whole = absurd second
pair_unique f s (p ∷ q ∷ []) x (t ∷ []) y first second whole = absurd second
pair_unique f s (p ∷ q ∷ []) x (t ∷ u ∷ []) y first second whole =
    let one : p ≡ t = cc in
    let two : q ≡ u = cc in
    record { front = cc; rest = cc }
pair_unique f s (p ∷ q ∷ []) x (t ∷ u ∷ v ∷ b) y first second whole =
    let one : p ≡ t = cc in
    let two : q ≡ u = cc in
    absurd (second.0 (sym one ∙ first.0, sym two ∙ first.1))
pair_unique f s (p ∷ q ∷ r ∷ a) x [] y first second whole = absurd second
pair_unique f s (p ∷ q ∷ r ∷ a) x (t ∷ []) y first second whole = absurd second
pair_unique f s (p ∷ q ∷ r ∷ a) x (t ∷ u ∷ []) y first second whole =
    let one : p ≡ t = cc in
    let two : q ≡ u = cc in
    absurd (first.0 (one ∙ second.0, two ∙ second.1))
pair_unique f s (p ∷ q ∷ r ∷ a) x (t ∷ u ∷ v ∷ b) y first second whole =
    let one : p ≡ t = cc in
    let tail : (q ∷ r ∷ a) ++ x ≡ (u ∷ v ∷ b) ++ y = cc in
    same_cons p t (q ∷ r ∷ a) x (u ∷ v ∷ b) y one
    (pair_unique f s (q ∷ r ∷ a) x (u ∷ v ∷ b) y first.1 second.1 tail)

-- what ends with the pair has it
pub pair_stands : (f s : ℕ) (a x : List ℕ) → EndsAtPair f s a → LacksPair f s (a ++ x) → ⊥
pair_stands f s [] x ends lacks = ends
pair_stands f s (p ∷ []) x ends lacks = ends
pair_stands f s (p ∷ q ∷ []) x ends lacks = lacks.0 ends
pair_stands f s (p ∷ q ∷ r ∷ a) x ends lacks = pair_stands f s (q ∷ r ∷ a) x ends.1 lacks.1

-- the first two bytes say which comment it is, and none begins with a blank
pub opens_unique : (part : Part) (k l : Comment) (p q : ℕ) → Opens part k p q → Opens part l p q
    → k ≡ l
opens_unique part Parens Parens p q first second = refl
opens_unique part Parens Slashes p q first second = absurd (omega (arith, first.1, second.1))
opens_unique part Parens Line p q first second = absurd (omega (arith, first.1, second.1))
opens_unique part Slashes Parens p q first second = absurd (omega (arith, first.1, second.1))
opens_unique part Slashes Slashes p q first second = refl
opens_unique part Slashes Line p q first second = absurd (omega (arith, first.2, second.2))
opens_unique part Line Parens p q first second = absurd (omega (arith, first.1, second.1))
opens_unique part Line Slashes p q first second = absurd (omega (arith, first.2, second.2))
opens_unique part Line Line p q first second = refl

pub blank_opens : (part : Part) (k : Comment) (p q : ℕ) → belongs Blank p ≡ true
    → Opens part k p q → ⊥
blank_opens part Parens p q blank opens = let is = ap (belongs Blank) opens.1 in cc
blank_opens part Slashes p q blank opens = let is = ap (belongs Blank) opens.1 in cc
blank_opens part Line p q blank opens = let is = ap (belongs Blank) opens.1 in cc

closes_unique : (k : Comment) (a x b y : List ℕ) → Closes k a x → Closes k b y → a ++ x ≡ b ++ y
    → Same a x b y
closes_unique Parens a x b y first second whole = pair_unique _ _ a x b y first second whole
closes_unique Slashes a x b y first second whole = pair_unique _ _ a x b y first second whole
closes_unique Line a x b y first second whole = run_unique InLine a x b y first second whole

closes_never : (k : Comment) (a x : List ℕ) → Closes k a x → NeverCloses k (a ++ x) → ⊥
closes_never Parens a x closes never = pair_stands _ _ a x closes never
closes_never Slashes a x closes never = pair_stands _ _ a x closes never
closes_never Line a x closes never = never

pub separator_unique : (part : Part) (a x b y : List ℕ) → IsSeparator part a x
    → IsSeparator part b y → a ++ x ≡ b ++ y → Same a x b y
separator_unique part [] x b y first second whole = absurd first
separator_unique part (p ∷ []) x [] y first second whole = absurd second
separator_unique part (p ∷ []) x (t ∷ []) y first second whole =
    let one : p ≡ t = cc in
    record { front = cc; rest = cc }
separator_unique part (p ∷ []) x (t ∷ u ∷ b) y first second whole =
    let one : t ≡ p = cc in
    absurd (blank_opens part second.0 t u (ap (belongs Blank) one ∙ first) second.1)
separator_unique part (p ∷ q ∷ a) x [] y first second whole = absurd second
separator_unique part (p ∷ q ∷ a) x (t ∷ []) y first second whole =
    let one : p ≡ t = cc in
    absurd (blank_opens part first.0 p q (ap (belongs Blank) one ∙ second) first.1)
separator_unique part (p ∷ q ∷ a) x (t ∷ u ∷ b) y first second whole =
    let one : p ≡ t = cc in
    let two : q ≡ u = cc in
    let tail : a ++ x ≡ b ++ y = cc in
    let here : Opens part second.0 p q =
    subst (λ v. Opens part second.0 v q) (sym one)
    (subst (λ v. Opens part second.0 t v) (sym two) second.1) in
    let kind : second.0 ≡ first.0 = opens_unique part second.0 first.0 p q here first.1 in
    same_cons p t (q ∷ a) x (u ∷ b) y one
    (same_cons q u a x b y two
    (closes_unique first.0 a x b y first.2 (subst (λ k. Closes k b y) kind second.2) tail))

-- where a token begins, or a comment that doesn't end, no blank and no comment stands
pub token_separator : (part : Part) (a x : List ℕ) → IsAtToken part (a ++ x)
    → IsSeparator part a x → ⊥
token_separator part [] x token stands = stands
token_separator part (p ∷ []) [] token stands = cc
token_separator part (p ∷ []) (q ∷ x) token stands = let is_not = token.0 in cc
token_separator part (p ∷ q ∷ a) x token stands = token.1 stands.0 stands.1

pub unclosed_separator : (part : Part) (a x : List ℕ) → IsUnclosed part (a ++ x)
    → IsSeparator part a x → ⊥
unclosed_separator part [] x unclosed stands = stands
unclosed_separator part (p ∷ []) [] unclosed stands = unclosed
unclosed_separator part (p ∷ []) (q ∷ x) unclosed stands =
    blank_opens part unclosed.0 p q stands unclosed.1
unclosed_separator part (p ∷ q ∷ a) x unclosed stands =
    let kind = opens_unique part unclosed.0 stands.0 p q unclosed.1 stands.1 in
    closes_never stands.0 a x stands.2 (subst (λ k. NeverCloses k (a ++ x)) kind unclosed.2)

pub unclosed_token : (part : Part) (bytes : List ℕ) → IsUnclosed part bytes
    → IsAtToken part bytes → ⊥
unclosed_token part [] unclosed token = unclosed
unclosed_token part (p ∷ []) unclosed token = unclosed
unclosed_token part (p ∷ q ∷ bytes) unclosed token = token.1 unclosed.0 unclosed.1

-- Rows of pieces: where one piece is unique, and none stands where the row stops, the row is
-- unique.
module _ (Stands : List ℕ → List ℕ → Type 0) (Stops : List ℕ → Type 0)
    (unique : (a x b y : List ℕ) → Stands a x → Stands b y → a ++ x ≡ b ++ y → Same a x b y)
    (none : (a x : List ℕ) → Stops (a ++ x) → Stands a x → ⊥) where
  pieces_unique : (ps qs : List (List ℕ)) (x y : List ℕ) → InRow Stands ps x → InRow Stands qs y
      → Stops x → Stops y
      → concat ps ++ x ≡ concat qs ++ y → Same (concat ps) x (concat qs) y
  pieces_unique [] [] x y first second stop end whole = record { front = refl; rest = whole }
  pieces_unique [] (q ∷ qs) x y first second stop end whole =
      absurd (none q (concat qs ++ y)
      (subst Stops (whole ∙ append_assoc q (concat qs) y) stop) second.0)
  pieces_unique (p ∷ ps) [] x y first second stop end whole =
      absurd (none p (concat ps ++ x)
      (subst Stops (sym whole ∙ append_assoc p (concat ps) x) end) first.0)
  pieces_unique (p ∷ ps) (q ∷ qs) x y first second stop end whole =
      let split : p ++ (concat ps ++ x) ≡ q ++ (concat qs ++ y) =
      sym (append_assoc p (concat ps) x) ∙ (whole ∙ append_assoc q (concat qs) y) in
      let here = unique p (concat ps ++ x) q (concat qs ++ y) first.0 second.0 split in
      let more = pieces_unique ps qs x y first.1 second.1 stop end here.rest in
      let one = here.front in
      let others = more.front in
      record { front = cc; rest = more.rest }

  pub row_unique : (a x b y : List ℕ) → IsRow Stands a x → IsRow Stands b y → Stops x → Stops y
      → a ++ x ≡ b ++ y → Same a x b y
  row_unique a x b y first second stop end whole =
      let row = pieces_unique first.0 second.0 x y first.2 second.2 stop end
      (ap (λ front. front ++ x) (sym first.1) ∙ (whole ∙ ap (λ front. front ++ y) second.1)) in
      record { front = first.1 ∙ (row.front ∙ sym second.1); rest = row.rest }

-- a gap ends here: a token begins, or a comment that doesn't end
abbrev pub GapStops : Part → List ℕ → Type 0
GapStops part bytes = IsAtToken part bytes ⊎ IsUnclosed part bytes

stop_separator : (part : Part) (a x : List ℕ) → GapStops part (a ++ x) → IsSeparator part a x → ⊥
stop_separator part a x stops stands =
    elim stops [
      | inl token ↦ token_separator part a x token stands
      | inr unclosed ↦
          unclosed_separator part a x unclosed stands
    ]

pub gap_unique : (part : Part) (a x b y : List ℕ) → IsGap part a x → IsGap part b y
    → GapStops part x → GapStops part y → a ++ x ≡ b ++ y → Same a x b y
gap_unique part a x b y first second stop end whole =
    row_unique (IsSeparator part) (GapStops part) (separator_unique part)
    (stop_separator part) a x b y first second stop end whole
