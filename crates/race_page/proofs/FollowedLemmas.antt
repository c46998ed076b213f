-- What follows a sign in texts that are put together.
use Rattle.std.proofs.Common.{◌≡◌, ◌==◌, ◌++◌, ◌∷◌, ◌∙◌, ℕ, Bool, List, [], true, false, ap, eq-eqb, refl, subst}
use Rattle.std.proofs.Math.Bool.{or-true}
use Rattle.std.proofs.lemmas.List.Folds.{list_any-append}
use Rattle.std.specs.Cmp.Derive.{both_true}
use Rattle.std.specs.List.{concat, flat_map, list_all, list_any}
use Rattle.std.specs.Prelude.{◌&&◌, ◌||◌, if◌then◌else◌}
use Rattle.race_page.specs.Followed.{followed, is_prefix}

pub left_true : (a b : Bool) → (a && b) ≡ true → a ≡ true
left_true true b h = refl
left_true false b h = h

pub right_true : (a b : Bool) → (a && b) ≡ true → b ≡ true
right_true true b h = h
right_true false b h = cc

-- one of two holds, and so does one of two others
one_too : (a b c d : Bool) → (a ≡ true → c ≡ true) → (b ≡ true → d ≡ true) → (a || b) ≡ true → (c || d) ≡ true
one_too true b c d f g h = ap (λ (x : Bool). x || d) (f refl)
one_too false b c d f g h = ap (λ (x : Bool). c || x) (g h) ∙ or-true c

if_too : (test a b : Bool) → (a ≡ true → b ≡ true) → (if test then a else true) ≡ true → (if test then b else true) ≡ true
if_too true a b f h = f h
if_too false a b f h = refl

-- a word that stands at the front of a text stands at that of a longer one
is_prefix_longer : (word text more : List ℕ) → is_prefix word text ≡ true → is_prefix word (text ++ more) ≡ true
is_prefix_longer [] text more h = refl
is_prefix_longer (sign ∷ word) [] more h = cc
is_prefix_longer (sign ∷ word) (byte ∷ text) more h =
    both_true (left_true (sign == byte) (is_prefix word text) h)
    (is_prefix_longer word text more (right_true (sign == byte) (is_prefix word text) h))

some_longer : (words : List (List ℕ)) (text more : List ℕ)
    → list_any (λ (word : List ℕ). is_prefix word text) words ≡ true
    → list_any (λ (word : List ℕ). is_prefix word (text ++ more)) words ≡ true
some_longer [] text more h = h
some_longer (word ∷ words) text more h =
    one_too (is_prefix word text) (list_any (λ (w : List ℕ). is_prefix w text) words) (is_prefix word (text ++ more))
    (list_any (λ (w : List ℕ). is_prefix w (text ++ more)) words)
    (is_prefix_longer word text more) (some_longer words text more) h

-- texts one behind the other
pub followed-append : (sign : ℕ) (words : List (List ℕ)) (one other : List ℕ) → followed sign words one ≡ true
    → followed sign words other ≡ true → followed sign words (one ++ other) ≡ true
followed-append sign words [] other h k = k
followed-append sign words (byte ∷ one) other h k =
    let some : Bool = list_any (λ (word : List ℕ). is_prefix word one) words in
    let front : Bool = if byte == sign then some else true in
    both_true (if_too (byte == sign) some (list_any (λ (word : List ℕ). is_prefix word (one ++ other)) words)
    (some_longer words one other) (left_true front (followed sign words one) h))
    (followed-append sign words one other (right_true front (followed sign words one) h) k)

pub followed-concat : (sign : ℕ) (words : List (List ℕ)) (pieces : List (List ℕ))
    → list_all (λ (piece : List ℕ). followed sign words piece) pieces ≡ true → followed sign words (concat pieces) ≡ true
followed-concat sign words [] h = refl
followed-concat sign words (piece ∷ pieces) h =
    followed-append sign words piece (concat pieces)
    (left_true (followed sign words piece) (list_all (λ (p : List ℕ). followed sign words p) pieces) h)
    (followed-concat sign words pieces
    (right_true (followed sign words piece) (list_all (λ (p : List ℕ). followed sign words p) pieces) h))

pub followed-flat_map : {X : Type 0} (sign : ℕ) (words : List (List ℕ)) (f : X → List ℕ) (xs : List X)
    → ((x : X) → followed sign words (f x) ≡ true) → followed sign words (flat_map f xs) ≡ true
followed-flat_map sign words f [] h = refl
followed-flat_map sign words f (x ∷ xs) h =
    followed-append sign words (f x) (flat_map f xs) (h x) (followed-flat_map sign words f xs h)

-- at each place of the sign one of the words follows
pub followed_at : (sign : ℕ) (words : List (List ℕ)) (before after : List ℕ)
    → followed sign words (before ++ sign ∷ after) ≡ true → list_any (λ (word : List ℕ). is_prefix word after) words ≡ true
followed_at sign words [] after h =
    let some : Bool = list_any (λ (word : List ℕ). is_prefix word after) words in
    subst (λ (b : Bool). (if b then some else true) ≡ true) (eq-eqb sign sign refl)
    (left_true (if sign == sign then some else true) (followed sign words after) h)
followed_at sign words (byte ∷ before) after h =
    let some : Bool = list_any (λ (word : List ℕ). is_prefix word (before ++ sign ∷ after)) words in
    followed_at sign words before after
    (right_true (if byte == sign then some else true) (followed sign words (before ++ sign ∷ after)) h)

-- behind a text in which the sign is followed so, what matters is what comes behind it
pub followed-after : (sign : ℕ) (words : List (List ℕ)) (one other : List ℕ) → followed sign words one ≡ true
    → followed sign words (one ++ other) ≡ followed sign words other
followed-after sign words [] other h = refl
followed-after sign words (byte ∷ one) other h =
    let some : Bool = list_any (λ (word : List ℕ). is_prefix word one) words in
    let more : Bool = list_any (λ (word : List ℕ). is_prefix word (one ++ other)) words in
    let front : (if byte == sign then more else true) ≡ true =
    if_too (byte == sign) some more (some_longer words one other)
    (left_true (if byte == sign then some else true) (followed sign words one) h) in
    ap (λ (b : Bool). b && followed sign words (one ++ other)) front
    ∙ followed-after sign words one other (right_true (if byte == sign then some else true) (followed sign words one) h)

some_more : (fewer more : List (List ℕ)) (text : List ℕ) → list_any (λ (word : List ℕ). is_prefix word text) more ≡ true
    → list_any (λ (word : List ℕ). is_prefix word text) (fewer ++ more) ≡ true
some_more fewer more text h =
    let test = λ (word : List ℕ). is_prefix word text in
    list_any-append test fewer more ∙ (ap (λ (b : Bool). list_any test fewer || b) h ∙ or-true (list_any test fewer))

-- with words more
pub followed-more : (sign : ℕ) (fewer more : List (List ℕ)) (text : List ℕ) → followed sign more text ≡ true
    → followed sign (fewer ++ more) text ≡ true
followed-more sign fewer more [] h = refl
followed-more sign fewer more (byte ∷ text) h =
    let test = λ (word : List ℕ). is_prefix word text in
    let front : Bool = if byte == sign then list_any test more else true in
    both_true
    (if_too (byte == sign) (list_any test more) (list_any test (fewer ++ more)) (some_more fewer more text)
    (left_true front (followed sign more text) h))
    (followed-more sign fewer more text (right_true front (followed sign more text) h))
