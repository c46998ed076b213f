-- What a name is among the words of its length, it is among all.
use Rattle.std.proofs.Common.{◌≡◌, ◌≢◌, ℕ, List, [], ◌∷◌, Bool, true, false, cond, Option, Some, length, refl, sym, ap, ◌∙◌, arith}
use Rattle.std.specs.Prelude.{◌==◌, ◌||◌, filter, not}
use Rattle.std.specs.Cmp.Lexicographic.{same_text}
use Rattle.litmus_lex.specs.declared.words.Word.{Word}
use Rattle.litmus_lex.specs.Words.{is_same, look_up, table, word_of}

-- the words with a length that the test takes
abbrev pub of_lengths : (ℕ → Bool) → List (List ℕ × Word) → List (List ℕ × Word)
of_lengths test entries = filter (λ entry. test (length entry.0)) entries

-- one entry more, which is kept or not, and is that of the name or not
one_more : (entry : List ℕ × Word) (entries kept : List (List ℕ × Word)) (name : List ℕ) (keeps same : Bool)
    → is_same entry.0 name ≡ same → (same ≡ true → keeps ≡ true) → look_up kept name ≡ look_up entries name
    → look_up (cond keeps (entry ∷ kept) kept) name ≡ cond same (Some entry.1) (look_up entries name)
one_more entry entries kept name true same is only rest = ap (λ (b : Bool). cond b (Some entry.1) (look_up kept name)) is ∙ ap (λ (o : Option Word). cond same (Some entry.1) o) rest
one_more entry entries kept name false true is only rest = let no : false ≡ true = only refl in absurd cc
one_more entry entries kept name false false is only rest = rest

among : (test : ℕ → Bool) (entries : List (List ℕ × Word)) (name : List ℕ) → test (length name) ≡ true
    → look_up (of_lengths test entries) name ≡ look_up entries name
among test [] name takes = refl
among test (entry ∷ entries) name takes =
    one_more entry entries (of_lengths test entries) name (test (length entry.0)) (is_same entry.0 name) refl
    (λ same. ap (λ (l : List ℕ). test (length l)) (same_text entry.0 name (sym same)) ∙ takes)
    (among test entries name takes)

pub word_among : (test : ℕ → Bool) (name : List ℕ) → test (length name) ≡ true → look_up (of_lengths test table) name ≡ word_of name
unfolding word_of
word_among test name takes = among test table name takes

-- the words of a length
pub word_of_length : (n : ℕ) (name : List ℕ) → length name ≡ n → look_up (of_lengths (λ m. m == n) table) name ≡ word_of name
word_of_length n name is = word_among (λ m. m == n) name (ap (λ (m : ℕ). m == n) is ∙ grind arith)

-- the lengths that have a table of their own
abbrev pub has_table : ℕ → Bool
has_table n = n == 1 || n == 2 || n == 3 || n == 4 || n == 5 || n == 6 || n == 7 || n == 8 || n == 9 || n == 10 || n == 11

abbrev pub HasNoTable : ℕ → Type 0
HasNoTable n =
    (n ≢ 1) × (n ≢ 2) × (n ≢ 3) × (n ≢ 4) × (n ≢ 5) × (n ≢ 6) × (n ≢ 7) × (n ≢ 8) × (n ≢ 9) × (n ≢ 10) × (n ≢ 11)

has_none : (n : ℕ) → HasNoTable n → has_table n ≡ false
has_none n none = grind arith

-- the words of the other lengths
pub word_of_other_length : (name : List ℕ) → HasNoTable (length name) → look_up (of_lengths (λ m. not (has_table m)) table) name ≡ word_of name
word_of_other_length name none = word_among (λ m. not (has_table m)) name (ap (λ (b : Bool). not b) (has_none (length name) none))
