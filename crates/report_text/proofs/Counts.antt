-- The groups of texts are each text once, in the order in which they were first seen, with its count.
use Rattle.std.proofs.Common.{◌≡◌, ◌+◌, ◌-◌, ◌^◌, ◌++◌, ◌∷◌, ◌∙◌, ℕ, List, [], Bool, true, false, ap, append_assoc, append-nil, arith, cond, map, min, refl, subst, sym, if◌then◌else◌}
use Rattle.std.specs.Prelude.{count_by, fold}
use Rattle.std.specs.List.{list_any}
use Rattle.std.proofs.lemmas.Cmp.{nat_list_eq_equiv}
use Rattle.std.proofs.lemmas.List.Sums.{fold-append}
use Rattle.report_text.specs.Groups.{AreGroupsOf, Group, count_in, counted, is_text, one_more, seen_too}

-- once more, or not
abbrev more_if : Bool → ℕ → ℕ
more_if b n = if b then one_more n else n

keys_counted : (groups : List Group) (text : List ℕ)
    → map (λ group. group.0) (counted groups text) ≡ seen_too (map (λ group. group.0) groups) text
keys_counted [] text = refl
keys_counted (group ∷ groups) text = by (is_text text group.0) refl (list_any (is_text text) (map (λ g. g.0) groups)) refl (keys_counted groups text)
  where
    by : (b : Bool) → is_text text group.0 ≡ b → (c : Bool) → list_any (is_text text) (map (λ g. g.0) groups) ≡ c
        → map (λ g. g.0) (counted groups text) ≡ seen_too (map (λ g. g.0) groups) text
        → map (λ g. g.0) (counted (group ∷ groups) text) ≡ seen_too (map (λ g. g.0) (group ∷ groups)) text
    by true p c q rest = rw p
    by false p true q rest = rw (p, q) (ap (λ ts. group.0 ∷ ts) (rest ∙ rw q))
    by false p false q rest = rw (p, q) (ap (λ ts. group.0 ∷ ts) (rest ∙ rw q))

counts_counted : (groups : List Group) (text other : List ℕ)
    → count_in other (counted groups text) ≡ more_if (is_text other text) (count_in other groups)
counts_counted [] text other = refl
counts_counted (group ∷ groups) text other = by (is_text text group.0) refl (is_text other group.0) refl (counts_counted groups text other)
  where
    by : (b : Bool) → is_text text group.0 ≡ b → (c : Bool) → is_text other group.0 ≡ c
        → count_in other (counted groups text) ≡ more_if (is_text other text) (count_in other groups)
        → count_in other (counted (group ∷ groups) text) ≡ more_if (is_text other text) (count_in other (group ∷ groups))
    by true p true q rest =
        let e : is_text other text ≡ true = nat_list_eq_equiv.symm other text ∙ nat_list_eq_equiv.congr text group.0 other p
        ∙ nat_list_eq_equiv.symm group.0 other ∙ q in
        rw (p, q, e)
    by true p false q rest =
        let e : is_text other text ≡ false = nat_list_eq_equiv.symm other text ∙ nat_list_eq_equiv.congr text group.0 other p
        ∙ nat_list_eq_equiv.symm group.0 other ∙ q in
        rw (p, q, e)
    by false p true q rest =
        let e : is_text other text ≡ false = nat_list_eq_equiv.congr other group.0 text q
        ∙ nat_list_eq_equiv.symm group.0 text ∙ p in
        rw (p, q, e)
    by false p false q rest = rw (p, q) rest

count_last : (p : List ℕ → Bool) (texts : List (List ℕ)) (text : List ℕ)
    → count_by p (texts ++ text ∷ []) ≡ count_by p texts + cond (p text) 1 0
count_last p texts text = fold-append (λ a x. a + cond (p x) 1 0) 0 texts (text ∷ [])

bounded : (b : Bool) (n : ℕ) → more_if b (min n (2 ^ 64 - 1)) ≡ min (n + cond b 1 0) (2 ^ 64 - 1)
bounded true n = omega arith
bounded false n = omega arith

-- one text more
step : (texts : List (List ℕ)) (groups : List Group) (text : List ℕ) → AreGroupsOf texts groups
    → AreGroupsOf (texts ++ text ∷ []) (counted groups text)
step texts groups text h = record {
  order = keys_counted groups text ∙ ap (λ keys. seen_too keys text) h.order ∙ sym (fold-append seen_too [] texts (text ∷ []));
  counts = λ other. counts_counted groups text other ∙ ap (more_if (is_text other text)) (h.counts other)
      ∙ bounded (is_text other text) (count_by (is_text other) texts)
      ∙ ap (λ n. min n (2 ^ 64 - 1)) (sym (count_last (is_text other) texts text));
}

-- more texts, one after the other
go : (texts rest : List (List ℕ)) (groups : List Group) → AreGroupsOf texts groups
    → AreGroupsOf (texts ++ rest) (fold counted groups rest)
go texts [] groups h = subst (λ ts. AreGroupsOf ts groups) (sym (append-nil texts)) h
go texts (text ∷ rest) groups h = subst (λ ts. AreGroupsOf ts (fold counted (counted groups text) rest))
    (append_assoc texts (text ∷ []) rest)
    (go (texts ++ text ∷ []) rest (counted groups text) (step texts groups text h))

pub groups_are_counts : (texts : List (List ℕ)) → AreGroupsOf texts (fold counted [] texts)
groups_are_counts texts = go [] texts [] (record { order = refl; counts = λ other. refl })
