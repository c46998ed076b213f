-- Places and the registers that count the loops round them.
use Rattle.std.proofs.Common.{◌≡◌, ◌∙◌, ◌++◌, ℕ, zero, suc, ◌+◌, ◌<◌, ◌≤◌, ◌==◌, List, [], ◌∷◌, Bool, true, false, Option, Some, None, length, refl, sym, subst, arith, eq-eqb}
use Rattle.std.proofs.lemmas.Bool.{eqb-true}
use Rattle.std.proofs.lemmas.List.{get_or-set_other, get_or-set_same, length-replicate, length-set}
use Rattle.std.proofs.lemmas.Option.{slice_get_within}
use Rattle.std.specs.Prelude.{Contains, replicate, set, slice_get}
use Rattle.litmus_syntax.specs.Tree as tree
use Rattle.litmus_expression.specs.Counters.{AreCounters}
use Rattle.litmus_expression.specs.Names.{Names, Numbered, known, new}
use Rattle.litmus_expression.specs.Places.{NestingPlace, asserting, deeper, is_counter}
use Rattle.litmus_expression.proofs.Fewer.{at_last, either_way, unless_it}
use Rattle.litmus_expression.proofs.Named.{among, in_front, in_none, in_rest}
use Rattle.litmus_body.specs.StatementReader.{begins_scope, behind}

pub not_both : (b : Bool) → b ≡ true → b ≡ false → ⊥
not_both b e f = cc

-- ---- names that have numbers

at_end : (names : Names) (name : List ℕ) → slice_get (names ++ name ∷ []) (length names) ≡ Some name
at_end [] name = refl
at_end (n ∷ names) name = at_end names name

pub numbered_stands : (name : List ℕ) (register : ℕ) (before later : Names) → Numbered 32 before name register later → slice_get later register ≡ Some name
numbered_stands name register before later (known there) = there
numbered_stands name register before later (new out lt) = at_end before name

pub numbered_below : (name : List ℕ) (register : ℕ) (before later : Names) → length before ≤ 32 → Numbered 32 before name register later → register < 32
numbered_below name register before later few (known there) = let lt = slice_get_within before register name there in omega arith
numbered_below name register before later few (new out lt) = lt

-- ---- registers that count loops

module _ (flags : List Bool) (counters : List ℕ) (register : ℕ) (lt : register < length flags) (are : AreCounters flags counters) where
  here : is_counter (set flags register true) register ≡ true
  here = get_or-set_same flags register true false lt

  elsewhere : (k : ℕ) → (k == register) ≡ false → is_counter (set flags register true) k ≡ is_counter flags k
  elsewhere k differs = get_or-set_other flags register k true false (λ same. not_both (k == register) (eq-eqb k register same) differs)

  listed_more : (k : ℕ) (b : Bool) → (k == register) ≡ b → is_counter (set flags register true) k ≡ true → Contains (register ∷ counters) k
  listed_more k true same is =
      subst (λ (j : ℕ). Contains (register ∷ counters) j) (sym (eqb-true k register same)) (in_front register counters)
  listed_more k false differs is = in_rest register k counters (are.listed k (sym (elsewhere k differs) ∙ is))

  flagged_more : (k : ℕ) (b : Bool) → (k == register) ≡ b → Contains counters k → is_counter (set flags register true) k ≡ true
  flagged_more k true same there = subst (λ (j : ℕ). is_counter (set flags register true) j ≡ true) (sym (eqb-true k register same)) here
  flagged_more k false differs there = elsewhere k differs ∙ are.flagged k there

  -- in a loop that the register counts
  pub counters_more : AreCounters (set flags register true) (register ∷ counters)
  counters_more = record {
    sized = length-set flags register true ∙ are.sized;
    listed = λ k is. listed_more k (k == register) refl is;
    flagged = λ k there. among register k counters (is_counter (set flags register true) k ≡ true) there
        (λ same. subst (λ (j : ℕ). is_counter (set flags register true) j ≡ true) same here)
        (λ later. flagged_more k (k == register) refl later);
  }

none_counts : (n k : ℕ) → is_counter (replicate n false) k ≡ false
none_counts zero k = refl
none_counts (suc n) zero = refl
none_counts (suc n) (suc k) = none_counts n k

-- outside all loops
pub counters_none : AreCounters (replicate 32 false) []
counters_none = record {
  sized = length-replicate 32 false;
  listed = λ k is. absurd (not_both (is_counter (replicate 32 false) k) is (none_counts 32 k));
  flagged = λ k there. absurd (in_none k there);
}

-- ---- places inside others, and behind others

pub record Deeper (p q : NestingPlace) : Type 0 where
  pub below : p.depth < 16
  pub depth : q.depth ≡ suc p.depth
  pub counters : q.counters ≡ p.counters
  pub scopes : q.scopes ≡ p.scopes
  pub turns : q.turns ≡ p.turns

not_all : (n : ℕ) → (n == 16) ≡ false → n ≤ 16 → n < 16
not_all n e le = grind (arith, eq-eqb n 16)

pub deeper_is : (p q : NestingPlace) → p.depth ≤ 16 → deeper p ≡ Some q → Deeper p q
deeper_is p q le e =
    unless_it (p.depth == 16) (Some (record p { depth = p.depth + 1 })) (Deeper p) q e (λ no e.
    at_last (record p { depth = p.depth + 1 }) (Deeper p) q e
    (record { below = not_all p.depth no le; depth = omega arith; counters = refl; scopes = refl; turns = refl }))

pub record Later (p q : NestingPlace) : Type 0 where
  pub depth : q.depth ≡ p.depth
  pub counters : q.counters ≡ p.counters
  pub scopes : q.scopes ≤ 8
  pub turns : q.turns ≡ p.turns

not_all_scopes : (n : ℕ) → (n == 8) ≡ false → n ≤ 8 → n + 1 ≤ 8
not_all_scopes n e le = grind (arith, eq-eqb n 8)

asserting_is : (p q : NestingPlace) → p.scopes ≤ 8 → asserting p ≡ Some q → Later p q
asserting_is p q le e =
    unless_it (p.scopes == 8) (Some (record p { scopes = p.scopes + 1 })) (Later p) q e (λ no e.
    at_last (record p { scopes = p.scopes + 1 }) (Later p) q e
    (record { depth = refl; counters = refl; scopes = not_all_scopes p.scopes no le; turns = refl }))

same_place : (p q : NestingPlace) → p.scopes ≤ 8 → Some p ≡ Some q → Later p q
same_place p q le e = at_last p (Later p) q e (record { depth = refl; counters = refl; scopes = le; turns = refl })

pub behind_is : (p q : NestingPlace) (x : Option tree.Statement) → p.scopes ≤ 8 → behind p x ≡ Some q → Later p q
behind_is p q None le e = same_place p q le e
behind_is p q (Some s) le e =
    either_way (begins_scope s) (asserting p) (Some p) (Later p) q e
    (λ scoped e. asserting_is p q le e) (λ none e. same_place p q le e)
