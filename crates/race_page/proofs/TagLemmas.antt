-- What is written of a text from a file, of numbers and of words has no tag, or tags of a page.
use Rattle.std.proofs.Common.{◌≡◌, ◌==◌, ◌+◌, ◌/◌, ◌%◌, ◌++◌, ◌<◌, ◌∷◌, [], ℕ, zero, suc, All, Bool, List, arith, false, refl, subst, sym, true}
use Rattle.std.proofs.lemmas.Bool.{ltb-true, ne_eqb}
use Rattle.std.specs.Fmt.{decimal, digit_glyph, digits, digits_onto}
use Rattle.std.specs.List.{flat_map, list_any}
use Rattle.std.specs.Prelude.{◌&&◌, codes, if◌then◌else◌, nat_le, nat_lt}
use Rattle.program_table.specs.text_pieces.Shown.{by_number, shown_byte}
use Rattle.race_output.specs.Words.{file_word, said_words}
use Rattle.race_output.specs.declared.words.FileVerdict.{FileVerdict}
use Rattle.race_output.specs.declared.words.FileVerdict.TheVariants as files
use Rattle.race_output.specs.declared.words.Said.{Said}
use Rattle.race_output.specs.declared.words.Said.TheVariants.{Apart, Missed, NoRace, NotSettled, Race, Reported}
use Rattle.race_page.specs.Escape.{escaped, escaped_byte}
use Rattle.race_page.specs.Followed.{followed, is_prefix}
use Rattle.race_page.specs.Tags.{tags}
use Rattle.race_page.specs.Verdicts.{file_text, said_class, said_text, strong}
use Rattle.race_page.proofs.EscapeLemmas.{head_of, tail_of}
use Rattle.race_page.proofs.FollowedLemmas.{followed-after, followed-append}

-- wherever a `<` stands in the text, it is that of a tag of a page
abbrev pub IsTagged : List ℕ → Type 0
IsTagged text = followed 60 tags text ≡ true

-- behind such a text it matters what follows it
pub after : (one other : List ℕ) → IsTagged one → followed 60 tags (one ++ other) ≡ followed 60 tags other
after one other = followed-after 60 tags one other

pub both : (one other : List ℕ) → IsTagged one → IsTagged other → IsTagged (one ++ other)
both one other = followed-append 60 tags one other

pub of_each : {X : Type 0} (text : X → List ℕ) (xs : List X) → ((x : X) → IsTagged (text x)) → IsTagged (flat_map text xs)
of_each text [] each = refl
of_each text (x ∷ xs) each = both (text x) (flat_map text xs) (each x) (of_each text xs each)

pub of_all : {X : Type 0} (P : X → Type 0) (text : X → List ℕ) (xs : List X) → All P xs → ((x : X) → P x → IsTagged (text x))
    → IsTagged (flat_map text xs)
of_all P text [] all each = refl
of_all P text (x ∷ xs) all each =
    both (text x) (flat_map text xs) (each x (head_of P x xs all)) (of_all P text xs (tail_of P x xs all) each)

-- what is so of either of two texts is so of the one that a test picks
pub by_test : (P : List ℕ → Type 0) (test : Bool) (one other : List ℕ) → (test ≡ true → P one) → (test ≡ false → P other)
    → P (if test then one else other)
by_test P true one other t f = t refl
by_test P false one other t f = f refl

-- a byte that is no `<`
byte_before : (byte : ℕ) (text : List ℕ) → (byte == 60) ≡ false → IsTagged text → IsTagged (byte ∷ text)
byte_before byte text isnt rest =
    let some : Bool = list_any (λ (word : List ℕ). is_prefix word text) tags in
    subst (λ (b : Bool). ((if b then some else true) && followed 60 tags text) ≡ true) (sym isnt) rest

glyph : (digit : ℕ) → digit_glyph false digit ≡ 60 → ⊥
glyph digit is = isnt (nat_lt digit 10) (λ small. ltb-true digit 10 small) is where
  isnt : (test : Bool) → (test ≡ true → digit < 10) → (if test then 48 + digit else 87 + digit) ≡ 60 → ⊥
  isnt true small is = let within : digit < 10 = small refl in omega arith
  isnt false small is = omega arith

glyph_before : (digit : ℕ) (text : List ℕ) → IsTagged text → IsTagged (digit_glyph false digit ∷ text)
glyph_before digit text rest = byte_before (digit_glyph false digit) text (ne_eqb (digit_glyph false digit) 60 (glyph digit)) rest

-- ---- numbers

onto : (k n : ℕ) (text : List ℕ) → IsTagged text → IsTagged (digits_onto k 10 false n text)
onto zero n text rest = rest
onto (suc k) n text rest =
    let own : IsTagged (digit_glyph false (n % 10) ∷ text) = glyph_before (n % 10) text rest in
    by_test IsTagged (n / 10 == 0) (digit_glyph false (n % 10) ∷ text)
    (digits_onto k 10 false (n / 10) (digit_glyph false (n % 10) ∷ text)) (λ _. own)
    (λ _. onto k (n / 10) (digit_glyph false (n % 10) ∷ text) own)

pub decimal_tagged : (n : ℕ) → IsTagged (decimal n)
unfolding digits
decimal_tagged n = onto 64 n [] refl

-- ---- texts from files

number_tagged : (byte : ℕ) → IsTagged (by_number byte)
number_tagged byte = glyph_before (byte / 16) _ (glyph_before (byte % 16) [] refl)

shown_tagged : (byte : ℕ) → (byte == 60) ≡ false → IsTagged (shown_byte byte)
shown_tagged byte isnt =
    by_test IsTagged (byte == 9) (32 ∷ []) _ (λ _. refl)
    (λ _. by_test IsTagged (nat_le 32 byte && nat_le byte 126) (byte ∷ []) (by_number byte)
    (λ _. byte_before byte [] isnt refl) (λ _. number_tagged byte))

pub byte_tagged : (byte : ℕ) → IsTagged (escaped_byte byte)
byte_tagged byte =
    by_test IsTagged (byte == 38) (codes "&amp;") _ (λ _. refl)
    (λ _. by_test IsTagged (byte == 60) (codes "&lt;") _ (λ _. refl)
    (λ isnt. by_test IsTagged (byte == 62) (codes "&gt;") _ (λ _. refl)
    (λ _. by_test IsTagged (byte == 34) (codes "&quot;") _ (λ _. refl)
    (λ _. by_test IsTagged (byte == 39) (codes "&#39;") _ (λ _. refl)
    (λ _. by_test IsTagged (byte == 9) (9 ∷ []) _ (λ _. refl)
    (λ _. by_test IsTagged (byte == 13) (32 ∷ []) (shown_byte byte) (λ _. refl) (λ _. shown_tagged byte isnt)))))))

pub escaped_tagged : (text : List ℕ) → IsTagged (escaped text)
escaped_tagged text = of_each escaped_byte text byte_tagged

-- ---- verdicts

pub class_tagged : (said : Said) → IsTagged (said_class said)
class_tagged Apart = refl
class_tagged NoRace = refl
class_tagged NotSettled = refl
class_tagged Reported = refl
class_tagged Race = refl
class_tagged Missed = refl

pub words_tagged : (said : Said) → IsTagged (said_words said)
words_tagged Apart = refl
words_tagged NoRace = refl
words_tagged NotSettled = refl
words_tagged Reported = refl
words_tagged Race = refl
words_tagged Missed = refl

word_tagged : (verdict : FileVerdict) → IsTagged (file_word verdict)
word_tagged files.Free = refl
word_tagged files.Reported = refl
word_tagged files.Missed = refl
word_tagged files.Stopped = refl

pub strong_tagged : (class words : List ℕ) → IsTagged class → IsTagged words → IsTagged (strong class words)
unfolding strong tags
strong_tagged class words c w = simp after

pub said_tagged : (said : Said) → IsTagged (said_text said)
said_tagged said = strong_tagged (said_class said) (said_words said) (class_tagged said) (words_tagged said)

pub file_tagged : (verdict : FileVerdict) → IsTagged (file_text verdict)
file_tagged verdict = strong_tagged (file_word verdict) (file_word verdict) (word_tagged verdict) (word_tagged verdict)
