-- A mention changes what is known of its variable, and of no other.
use Rattle.std.proofs.Common.{inl, inr, ◌≡◌, ◌≢◌, ◌∙◌, ◌++◌, ◌<◌, ◌≤◌, ℕ, zero, suc, List, [], ◌∷◌, Bool, true, false, cond, get_or, Option}
use Rattle.std.proofs.Common.{Some, None, length, refl, sym, ap, subst, arith}
use Rattle.std.specs.Prelude.{Contains, set, slice_get}
use Rattle.std.proofs.lemmas.Bool.{cases_lt}
use Rattle.std.proofs.lemmas.List.{get_or-set_other, get_or-set_same, get_or_append_left, length-append, length-set}
use Rattle.std.proofs.lemmas.Option.{slice_get-get_or, slice_get_within}
use Rattle.litmus_lex.specs.Front.{◌>>=◌}
use Rattle.litmus_lex.specs.Words.{is_same}
use Rattle.litmus_expression.specs.Followed.{Differ}
use Rattle.litmus_expression.specs.NameReader.{index_of}
use Rattle.litmus_expression.specs.Names.{Names, Numbered, known, new}
use Rattle.litmus_expression.proofs.Named.{differ_more, found_at, index_there, is_itself, nowhere, same_name}
use Rattle.litmus_expression.proofs.Taken.{same_given}
use Rattle.litmus_parse.specs.Entries.{Entry, changed, changed_from, fresh, grown}
use Rattle.litmus_parse.specs.Mentions.{Mention}
use Rattle.litmus_parse.specs.Mentioned.{Noted, told, told_of}
use Rattle.litmus_parse.proofs.Numbers.{number_spelled}

-- names and a table that belong together
pub record Tidy (names : Names) (table : List Entry) : Type 0 where
  pub differ : Differ names
  pub few : length names ≤ 32
  pub sized : length table ≡ length names

abbrev pub entry_at : List Entry → Option ℕ → Entry
entry_at table None = fresh
entry_at table (Some n) = get_or table n fresh

-- what is known of a name
abbrev pub entry_in : Names → List Entry → List ℕ → Entry
entry_in names table name = entry_at table (index_of names name)

-- ---- a name gets a number

-- what a number among names means for the table
pub record Grows (names : Names) (table : List Entry) (name : List ℕ) (n : ℕ) (later : Names) : Type 0 where
  pub tidy : Tidy later (grown table (index_of names name))
  pub found : index_of later name ≡ Some n
  pub within : n < length (grown table (index_of names name))
  pub same : (other : List ℕ) → entry_in later (grown table (index_of names name)) other ≡ entry_in names table other

index_within : (names : Names) (name : List ℕ) (n : ℕ) → index_of names name ≡ Some n → n < length names
index_within names name n is = slice_get_within names n name (index_there names name n is)

abbrev Same : Names → List Entry → Names → List Entry → List ℕ → Type 0
Same names table later after other = entry_in later after other ≡ entry_in names table other

known_grows : (names : Names) (table : List Entry) (name : List ℕ) (n : ℕ) → Tidy names table → index_of names name ≡ Some n
    → Grows names table name n names
known_grows names table name n tidy is =
    let stays : grown table (index_of names name) ≡ table = ap (λ (o : Option ℕ). grown table o) is in
    let lt = index_within names name n is in
    record {
      tidy = subst (λ (t : List Entry). Tidy names t) (sym stays) tidy;
      found = is;
      within = subst (λ (t : List Entry). n < length t) (sym stays) (omega (arith, lt, tidy.sized));
      same = λ other. ap (λ (t : List Entry). entry_in names t other) stays;
    }

append_there : (names : Names) (x : List ℕ) → slice_get (names ++ x ∷ []) (length names) ≡ Some x
append_there [] x = refl
append_there (n ∷ names) x = append_there names x

append_within : (names : Names) (x : List ℕ) (n : ℕ) → n < length names → slice_get (names ++ x ∷ []) n ≡ slice_get names n
append_within [] x n lt = absurd (omega arith)
append_within (m ∷ names) x zero lt = refl
append_within (m ∷ names) x (suc n) lt = append_within names x n (omega arith)

append_before : (names : Names) (x y : List ℕ) (n : ℕ) → slice_get names n ≡ Some y → slice_get (names ++ x ∷ []) n ≡ Some y
append_before [] x y n is = absurd cc
append_before (m ∷ names) x y zero is = is
append_before (m ∷ names) x y (suc n) is = append_before names x y n is

fresh_behind : (table : List Entry) (k : ℕ) → length table ≤ k → get_or (table ++ fresh ∷ []) k fresh ≡ fresh
fresh_behind [] zero le = refl
fresh_behind [] (suc k) le = refl
fresh_behind (e ∷ table) zero le = absurd (omega arith)
fresh_behind (e ∷ table) (suc k) le = fresh_behind table k (omega arith)

-- a name that stands behind others
module _ (names : Names) (table : List Entry) (name : List ℕ) (tidy : Tidy names table) (out : ¬ Contains names name) where
  apart : Differ (names ++ name ∷ [])
  apart = differ_more names name tidy.differ out

  -- the number of a name that had none is that of the last
  at_the_end : (other : List ℕ) (k : ℕ) → index_of names other ≡ None → index_of (names ++ name ∷ []) other ≡ Some k → length names ≤ k
  at_the_end other k none found = elim (cases_lt k (length names)) [
    | inl lt ↦
        let there : slice_get (names ++ name ∷ []) k ≡ Some other = index_there (names ++ name ∷ []) other k found in
        let before : slice_get names k ≡ Some other = sym (append_within names name k lt) ∙ there in
        absurd (cc (sym none ∙ found_at names other k tidy.differ before))
    | inr le ↦ le
  ]

  unchanged_from : (other : List ℕ) (o p : Option ℕ) → index_of names other ≡ o → index_of (names ++ name ∷ []) other ≡ p
      → entry_at (table ++ fresh ∷ []) p ≡ entry_at table o
  unchanged_from other (Some k) p is found =
      let within = index_within names other k is in
      let there = found_at (names ++ name ∷ []) other k apart (append_before names name other k (index_there names other k is)) in
      ap (λ (q : Option ℕ). entry_at (table ++ fresh ∷ []) q) (sym found ∙ there)
      ∙ get_or_append_left table (fresh ∷ []) fresh k (omega (arith, within, tidy.sized))
  unchanged_from other None None is found = refl
  unchanged_from other None (Some k) is found = let le = at_the_end other k is found in fresh_behind table k (omega (arith, le, tidy.sized))

  new_grows : length names < 32 → Grows names table name (length names) (names ++ name ∷ [])
  new_grows lt =
      let none = nowhere names name out in
      let more : grown table (index_of names name) ≡ table ++ fresh ∷ [] = ap (λ (o : Option ℕ). grown table o) none in
      let two = length-append table (fresh ∷ []) in
      let one = length-append names (name ∷ []) in
      record {
        tidy = subst (λ (t : List Entry). Tidy (names ++ name ∷ []) t) (sym more) (record {
          differ = apart;
          few = omega (arith, one, lt);
          sized = omega (arith, one, two, tidy.sized);
        });
        found = found_at (names ++ name ∷ []) name (length names) apart (append_there names name);
        within = subst (λ (t : List Entry). length names < length t) (sym more) (omega (arith, two, tidy.sized));
        same = λ other. ap (λ (t : List Entry). entry_in (names ++ name ∷ []) t other) more
            ∙ unchanged_from other (index_of names other) (index_of (names ++ name ∷ []) other) refl refl;
      }

pub numbered_grows : (names : Names) (table : List Entry) (name : List ℕ) (n : ℕ) (later : Names) → Tidy names table
    → Numbered 32 names name n later
    → Grows names table name n later
numbered_grows names table name n later tidy (known there) = known_grows names table name n tidy (found_at names name n tidy.differ there)
numbered_grows names table name n later tidy (new out lt) = new_grows names table name tidy out lt

not_both : (b : Bool) → b ≡ true → b ≡ false → ⊥
not_both b e f = cc

-- ---- an entry is changed

-- what a change of one name's entry means
abbrev pub Changes : (Entry → Option Entry) → List ℕ → Names → List Entry → List Entry → Type 0
Changes f name names table after =
    (other : List ℕ) → cond (is_same name other) (f (entry_in names table other)) (Some (entry_in names table other))
    ≡ Some (entry_in names after other)

module _ (f : Entry → Option Entry) (names : Names) (table after : List Entry) (name : List ℕ) (n : ℕ) (differ : Differ names)
    (found : index_of names name ≡ Some n) (within : n < length table) (is : changed f table n ≡ Some after) where
  here : slice_get table n ≡ Some (get_or table n fresh)
  here = slice_get-get_or table n fresh within

  made : (o : Option Entry) → f (get_or table n fresh) ≡ o → (o >>= λ g. Some (set table n g)) ≡ Some after
  unfolding changed
  made o e = ap (λ (p : Option Entry). p >>= λ g. Some (set table n g)) (sym e)
      ∙ ap (λ (p : Option Entry). changed_from f table n p) (sym here) ∙ is

  -- the entry that is put in its place
  put_from : (o : Option Entry) → f (get_or table n fresh) ≡ o → (g : Entry) × (f (get_or table n fresh) ≡ Some g) × (set table n g ≡ after)
  put_from None e = absurd (cc (made None e))
  put_from (Some g) e = (g, e, same_given (set table n g) after (made (Some g) e))

  put : (g : Entry) × (f (get_or table n fresh) ≡ Some g) × (set table n g ≡ after)
  put = put_from (f (get_or table n fresh)) refl

  pub changed_sized : length after ≡ length table
  changed_sized = ap (λ (t : List Entry). length t) (sym put.2) ∙ length-set table n put.0

  names_meet : (other : List ℕ) (k : ℕ) → index_of names other ≡ Some k → k ≡ n → name ≡ other
  names_meet other k at same =
      let one = index_there names other k at in
      let two = index_there names name n found in
      same_given name other (sym two ∙ ap (λ (m : ℕ). slice_get names m) (sym same) ∙ one)

  one_name : (other : List ℕ) (b : Bool) → is_same name other ≡ b
      → cond b (f (entry_in names table other)) (Some (entry_in names table other)) ≡ Some (entry_in names after other)
  one_name other true same =
      let is_name : name ≡ other = same_name name other same in
      let at : index_of names other ≡ Some n = subst (λ (m : List ℕ). index_of names m ≡ Some n) is_name found in
      ap (λ (o : Option ℕ). f (entry_at table o)) at
      ∙ put.1
      ∙ ap (λ (e : Entry). Some e) (sym (get_or-set_same table n put.0 fresh within) ∙ ap (λ (t : List Entry). get_or t n fresh) put.2
      ∙ ap (λ (o : Option ℕ). entry_at after o) (sym at))
  one_name other false differs_here = ap (λ (e : Entry). Some e) (elsewhere (index_of names other) refl)
    where
      elsewhere : (o : Option ℕ) → index_of names other ≡ o → entry_at table (index_of names other) ≡ entry_at after (index_of names other)
      elsewhere None none = ap (λ (o : Option ℕ). entry_at table o) none ∙ ap (λ (o : Option ℕ). entry_at after o) (sym none)
      elsewhere (Some k) at =
          let differs : k ≢ n = λ same. not_both (is_same name other)
          (ap (λ (m : List ℕ). is_same name m) (sym (names_meet other k at same)) ∙ is_itself name) differs_here in
          ap (λ (o : Option ℕ). entry_at table o) at
          ∙ sym (get_or-set_other table n k put.0 fresh differs)
          ∙ ap (λ (t : List Entry). get_or t k fresh) put.2
          ∙ ap (λ (o : Option ℕ). entry_at after o) (sym at)

  pub changes : Changes f name names table after
  changes other = one_name other (is_same name other) refl

-- ---- a mention is noted

-- what a mention means: names and the table still belong together, its name has its number, and what is known of
-- each name is what the mention makes of it
pub record TellsMention (m : Mention) (names : Names) (table : List Entry) (n : ℕ) (later : Names) (after : List Entry) : Type 0 where
  pub tidy : Tidy later after
  pub numbered : Numbered 32 names m.name n later
  pub found : index_of later m.name ≡ Some n
  pub tells : (name : List ℕ) → told_of name m (entry_in names table name) ≡ Some (entry_in later after name)

pub noted_tells : (m : Mention) (names later : Names) (table after : List Entry) (noted : Noted m names table later after)
    → Tidy names table
    → TellsMention m names table noted.number later after
noted_tells m names later table after noted tidy =
    let numbered = number_spelled names m.name (noted.number, later) tidy.few noted.numbered in
    let g = numbered_grows names table m.name noted.number later tidy numbered in
    let mid : List Entry = grown table (index_of names m.name) in
    let sized = changed_sized (told m.said) later mid after m.name noted.number g.tidy.differ g.found g.within noted.changes in
    record {
      tidy = record { differ = g.tidy.differ; few = g.tidy.few; sized = omega (arith, sized, g.tidy.sized) };
      numbered = numbered;
      found = g.found;
      tells = λ name. ap (λ (e : Entry). told_of name m e) (sym (g.same name))
          ∙ changes (told m.said) later mid after m.name noted.number g.tidy.differ g.found g.within noted.changes name;
    }

-- a name that has a number keeps it
pub keeps_number : (names later : Names) (x : List ℕ) (n : ℕ) → Numbered 32 names x n later → Differ later → (name : List ℕ) (k : ℕ)
    → index_of names name ≡ Some k → index_of later name ≡ Some k
keeps_number names later x n (known there) differ name k is = is
keeps_number names later x n (new out lt) differ name k is =
    found_at (names ++ x ∷ []) name k differ (append_before names x name k (index_there names name k is))
