-- Escaped texts: what is so of each byte is computed.
use Rattle.std.proofs.Common.{◌≡◌, ◌==◌, ◌<◌, ◌≤◌, ◌∷◌, ◌∙◌, ◌⊎◌, ℕ, suc, All, Bool, List, [], true, false, arith, eq-eqb, get_or, inl, inr, length, refl, subst, zero-add, sym}
use Rattle.std.specs.Prelude.{◌&&◌, ◌||◌, not, nat_le}
use Rattle.std.proofs.lemmas.Bool.{eqb-true, leb-true}
use Rattle.std.proofs.lemmas.List.Elements.{All-append, All-nil}
use Rattle.std.proofs.lemmas.List.Sums.{AllPass-from_list_all}
use Rattle.std.proofs.lemmas.List.FromFn.{get_or-range_with_len, length-range_with_len}
use Rattle.std.specs.List.{list_all, range_with_len}
use Rattle.race_page.specs.Escape.{IsHarmless, escaped, escaped_byte, entities}
use Rattle.race_page.specs.Followed.{followed}
use Rattle.race_page.proofs.FollowedLemmas.{followed-append, left_true, right_true}

-- what is so of each number below another is so of one of them
below : (test : ℕ → Bool) (count number : ℕ) → number < count → list_all test (range_with_len 0 count) ≡ true → test number ≡ true
below test count number small all =
    let numbers : List ℕ = range_with_len 0 count in
    let within : number < length numbers = subst (λ (n : ℕ). number < n) (sym (length-range_with_len 0 count)) small in
    let is : get_or numbers number 0 ≡ number = get_or-range_with_len 0 count number 0 small ∙ zero-add number in
    subst (λ (n : ℕ). test n ≡ true) is (AllPass-from_list_all test numbers all number 0 within)

byte_entities : (byte : ℕ) → byte < 256 → followed 38 entities (escaped_byte byte) ≡ true
byte_entities byte small = below (λ (b : ℕ). followed 38 entities (escaped_byte b)) 256 byte small refl

pub head_of : {X : Type 0} (P : X → Type 0) (x : X) (xs : List X) → All P (x ∷ xs) → P x
head_of P x xs all = all 0 x (omega arith)

pub tail_of : {X : Type 0} (P : X → Type 0) (x : X) (xs : List X) → All P (x ∷ xs) → All P xs
tail_of P x xs all = λ k d within. all (suc k) d (omega (arith, within))

pub escaped_entities : (text : List ℕ) → All (λ (byte : ℕ). byte < 256) text → followed 38 entities (escaped text) ≡ true
escaped_entities [] small = refl
escaped_entities (byte ∷ text) small =
    let P : ℕ → Type 0 = λ b. b < 256 in
    followed-append 38 entities (escaped_byte byte) (escaped text) (byte_entities byte (head_of P byte text small))
    (escaped_entities text (tail_of P byte text small))

-- a test for what is so of a harmless byte
harmless : ℕ → Bool
harmless byte =
    not (byte == 60) && (not (byte == 62) && (not (byte == 34) && (not (byte == 39)
    && ((byte == 9) || (nat_le 32 byte && nat_le byte 126)))))

isnt : (byte other : ℕ) → not (byte == other) ≡ true → byte ≡ other → ⊥
isnt byte other told is = let same : (byte == other) ≡ true = eq-eqb byte other is in cc

shows : (byte : ℕ) (tab shown : Bool) → (tab ≡ true → byte ≡ 9) → (shown ≡ true → (32 ≤ byte) × (byte ≤ 126)) → (tab || shown) ≡ true
    → (byte ≡ 9) ⊎ ((32 ≤ byte) × (byte ≤ 126))
shows byte true shown t s told = inl (t refl)
shows byte false shown t s told = inr (s told)

harmless_is : (byte : ℕ) → harmless byte ≡ true → IsHarmless byte
unfolding harmless
harmless_is byte told =
    let one = not (byte == 60) in let two = not (byte == 62) in let three = not (byte == 34) in let four = not (byte == 39) in
    let tab = byte == 9 in let shown = nat_le 32 byte && nat_le byte 126 in
    let after_one = right_true one (two && (three && (four && (tab || shown)))) told in
    let after_two = right_true two (three && (four && (tab || shown))) after_one in
    let after_three = right_true three (four && (tab || shown)) after_two in
    record {
      opens_none = isnt byte 60 (left_true one (two && (three && (four && (tab || shown)))) told);
      closes_none = isnt byte 62 (left_true two (three && (four && (tab || shown))) after_one);
      no_quote = isnt byte 34 (left_true three (four && (tab || shown)) after_two);
      no_apostrophe = isnt byte 39 (left_true four (tab || shown) after_three);
      shows = shows byte tab shown (eqb-true byte 9)
          (λ told. (
            leb-true 32 byte (left_true (nat_le 32 byte) (nat_le byte 126) told),
            leb-true byte 126 (right_true (nat_le 32 byte) (nat_le byte 126) told),
          ))
          (right_true four (tab || shown) after_three);
    }

byte_harmless : (byte : ℕ) → byte < 256 → list_all harmless (escaped_byte byte) ≡ true
unfolding harmless
byte_harmless byte small = below (λ (b : ℕ). list_all harmless (escaped_byte b)) 256 byte small refl

all_harmless : (text : List ℕ) → All (λ (byte : ℕ). byte < 256) text → All IsHarmless (escaped text)
all_harmless [] small = All-nil IsHarmless
all_harmless (byte ∷ text) small =
    let P : ℕ → Type 0 = λ b. b < 256 in
    let own = AllPass-from_list_all harmless (escaped_byte byte) (byte_harmless byte (head_of P byte text small)) in
    All-append IsHarmless (escaped_byte byte) (escaped text) (λ k d within. harmless_is (get_or (escaped_byte byte) k d) (own k d within))
    (all_harmless text (tail_of P byte text small))

pub escaped_harmless : (text : List ℕ) → All (λ (byte : ℕ). byte < 256) text → All IsHarmless (escaped text)
escaped_harmless = all_harmless
