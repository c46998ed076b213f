-- The text at the front of bytes, and what is behind it.
use Rattle.std.proofs.Common.{◌≡◌, ◌≢◌, ◌∙◌, ◌+◌, ◌<◌, ◌≤◌, ℕ, List, [], ◌∷◌, ◌++◌, Bool, true}
use Rattle.std.proofs.Common.{false, cond, Option, Some, None, refl, add-one, ap, arith, drop, drop-cons, eq-eqb, get_or, length, ◌==◌}
use Rattle.std.proofs.lemmas.Bool.{eqb-true, ne_eqb}
use Rattle.std.proofs.lemmas.List.{drop_all}
use Rattle.std.specs.Prelude.{codes}
use Rattle.trace_replay.specs.trace_lines.FieldReaders.{◌>>=◌, next, parted, past}
use Rattle.trace_replay.specs.trace_lines.Reading.{Read}

pub past_there : (text rest : List ℕ) → past text (text ++ rest) ≡ Some rest
unfolding past
past_there [] rest = refl
past_there (c ∷ text) rest = ap (λ b. cond b (past text (text ++ rest)) None) (eq-eqb c c refl) ∙ past_there text rest

pub past_is : (text bytes rest : List ℕ) → past text bytes ≡ Some rest → bytes ≡ text ++ rest
unfolding past
past_is [] bytes rest e = cc
past_is (c ∷ text) [] rest e = absurd cc
past_is (c ∷ text) (b ∷ bytes) rest e = by (c == b) refl e (past_is text bytes rest)
  where
    by : (t : Bool) → (c == b) ≡ t → cond t (past text bytes) None ≡ Some rest
        → (past text bytes ≡ Some rest → bytes ≡ text ++ rest) → b ∷ bytes ≡ c ∷ (text ++ rest)
    by true p e more = let same = eqb-true c b p in let tail = more e in cc
    by false p e more = absurd cc

-- ---- the text and the bytes are compared one by one

-- too few bytes are there
pub past_short : (text bytes : List ℕ) → length bytes < length text → past text bytes ≡ None
unfolding past
past_short [] bytes short = absurd (omega (arith, short))
past_short (c ∷ text) [] short = refl
past_short (c ∷ text) (b ∷ bytes) short = by (c == b) (past_short text bytes (omega (arith, short)))
  where
    by : (t : Bool) → past text bytes ≡ None → cond t (past text bytes) None ≡ None
    by true e = e
    by false e = refl

-- what is left of both begins with these
begins : (text bytes : List ℕ) (i : ℕ) → i < length text → i < length bytes
    → past (drop i text) (drop i bytes) ≡ past (get_or text i 0 ∷ drop (i + 1) text) (get_or bytes i 0 ∷ drop (i + 1) bytes)
begins text bytes i below within =
    rw (add-one, drop-cons text i 0 below, drop-cons bytes i 0 within)

same_byte : (c b : ℕ) (text bytes : List ℕ) → c ≡ b → past (c ∷ text) (b ∷ bytes) ≡ past text bytes
unfolding past
same_byte c b text bytes e = ap (λ t. cond t (past text bytes) None) (eq-eqb c b e)

other_byte : (c b : ℕ) (text bytes : List ℕ) → c ≢ b → past (c ∷ text) (b ∷ bytes) ≡ None
unfolding past
other_byte c b text bytes e = ap (λ t. cond t (past text bytes) None) (ne_eqb c b e)

-- one byte more is the same
pub past_step : (text bytes : List ℕ) (i : ℕ) → i < length text → i < length bytes → get_or text i 0 ≡ get_or bytes i 0
    → past (drop i text) (drop i bytes) ≡ past (drop (i + 1) text) (drop (i + 1) bytes)
past_step text bytes i below within e = begins text bytes i below within
    ∙ same_byte (get_or text i 0) (get_or bytes i 0) (drop (i + 1) text) (drop (i + 1) bytes) e

-- one byte is another
pub past_other : (text bytes : List ℕ) (i : ℕ) → i < length text → i < length bytes → get_or text i 0 ≢ get_or bytes i 0
    → past (drop i text) (drop i bytes) ≡ None
past_other text bytes i below within e = begins text bytes i below within
    ∙ other_byte (get_or text i 0) (get_or bytes i 0) (drop (i + 1) text) (drop (i + 1) bytes) e

-- no byte of the text is left
pub past_end : (text bytes : List ℕ) (i : ℕ) → length text ≤ i → past (drop i text) bytes ≡ Some bytes
unfolding past
past_end text bytes i over = ap (λ xs. past xs bytes) (drop_all i text over)

-- ---- one reader behind another

pub bind_is : {A B : Type 0} (o : Option A) (x : A) (f : A → Option B) → o ≡ Some x → (o >>= f) ≡ f x
bind_is o x f e = ap (λ p. p >>= f) e

pub bind_some : {A B : Type 0} (o : Option A) (f : A → Option B) (y : B) → (o >>= f) ≡ Some y → (x : A) × (o ≡ Some x) × (f x ≡ Some y)
bind_some None f y e = absurd cc
bind_some (Some x) f y e = (x, refl, e)

-- the same, for what is shown next
pub bind_then : {A B P : Type 0} (o : Option A) (f : A → Option B) (y : B) → (o >>= f) ≡ Some y
    → ((x : A) → o ≡ Some x → f x ≡ Some y → P) → P
bind_then None f y e go_on = absurd cc
bind_then (Some x) f y e go_on = go_on x refl e

abbrev given : {A : Type 0} → A → Option A
given x = Some x

pub same_given : {A : Type 0} (x y : A) → given x ≡ given y → x ≡ y
same_given x y e = cc

-- ---- a number behind a blank

module _ (reader : List ℕ → Read ℕ) where
  pub next_there : (t u v : List ℕ) (number : ℕ) → past (codes " ") t ≡ Some u → reader u ≡ Some (number, v)
      → next reader (Some t) ≡ (number, Some v)
  unfolding next
  next_there t u v number e f = rw (e, f)

  -- what was read where bytes are behind the number
  pub record Stood (bytes : Option (List ℕ)) (rest : List ℕ) : Type 0 where
    pub before : List ℕ
    pub behind : List ℕ
    pub were : bytes ≡ Some before
    pub spelled : before ≡ codes " " ++ behind
    pub read : reader behind ≡ Some ((next reader bytes).0, rest)

  pub next_spelled : (bytes : Option (List ℕ)) (rest : List ℕ) → (next reader bytes).1 ≡ Some rest → Stood bytes rest
  unfolding next
  next_spelled None rest e = absurd cc
  next_spelled (Some t) rest e = by (past (codes " ") t) refl e
    where
      read_on : (u : List ℕ) (found : Read ℕ) → past (codes " ") t ≡ Some u → reader u ≡ found → (parted found).1 ≡ Some rest
          → Stood (Some t) rest
      read_on u None p q e = absurd cc
      read_on u (Some x) p q e = let same : x ≡ ((next reader (Some t)).0, rest) = rw (p, q) (ap (λ r. (x.0, r)) (same_given x.1 rest e)) in
          record { before = t; behind = u; were = refl; spelled = past_is (codes " ") t u p; read = q ∙ ap (λ y. Some y) same }

      by : (o : Option (List ℕ)) → past (codes " ") t ≡ o → (parted (o >>= reader)).1 ≡ Some rest → Stood (Some t) rest
      by None p e = absurd cc
      by (Some u) p e = read_on u (reader u) p refl e
