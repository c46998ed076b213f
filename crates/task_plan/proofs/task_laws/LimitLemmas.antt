-- Where a text keeps its limits, no more than 256 accesses begin at a site.
use Rattle.std.proofs.Common.{◌≡◌, ◌<◌, ◌≤◌, ◌⊎◌, ◌∙◌, ◌+◌, ◌*◌, ◌==◌, ◌++◌, ℕ, Bool, true, false, List, []}
use Rattle.std.proofs.Common.{◌∷◌, add-zero, ap, arith, inl, inr, length, length-append, ne_eqb, refl, subst, sym, zero-add, if◌then◌else◌}
use Rattle.std.proofs.Math.Nat.{mul-zero, mul_assoc}
use Rattle.std.proofs.lemmas.Bool.{cases_eq}
use Rattle.litmus_semantics.specs.Meaning.{after_condition}
use Rattle.litmus_syntax.specs.Limits.{BlockTurns, StatementTurns}
use Rattle.litmus_syntax.specs.Sites.{accesses_of, assignment_has_access, call_has_access, expression_has_access, itself, sites_of}
use Rattle.litmus_syntax.specs.Tree.{Block, Statement}
use Rattle.litmus_syntax.specs.Tree as tree
use Rattle.task_plan.specs.task_laws.Begins.{block_begins, own_begins, statement_begins}

-- none begin at a site, or it is one of so many from a site on
abbrev Within : ℕ → ℕ → ℕ → ℕ → Type 0
Within count site at sites = (count ≡ 0) ⊎ ((site ≤ at) × (at < site + sites))

own_within : (has : Bool) (statement : Statement) (site at : ℕ) → Within (own_begins has site at) site at (length (if has then statement ∷ [] else []))
own_within false statement site at = inl refl
own_within true statement site at = elim (cases_eq site at) [
  | inl same ↦ inr (omega arith, omega arith)
  | inr other ↦ inl (rw (ne_eqb site at other) refl)
]

both_within : (first second site at one two : ℕ) → Within first site at one → Within second (site + one) at two → Within (first + second) site at (one + two)
both_within first second site at one two (inl none) (inl also) = inl (omega arith)
both_within first second site at one two (inl none) (inr is) = let low = is.0 in let high = is.1 in inr (omega arith, omega arith)
both_within first second site at one two (inr is) other = let low = is.0 in let high = is.1 in inr (omega arith, omega arith)

times_within : (turns count site at sites : ℕ) → Within count site at sites → Within (turns * count) site at sites
times_within turns count site at sites (inl none) = inl (ap (λ (n : ℕ). turns * n) none ∙ mul-zero turns)
times_within turns count site at sites (inr is) = inr is

after_is : (has : Bool) (statement : Statement) (site : ℕ) → (if has then site + 1 else site) ≡ site + length (if has then statement ∷ [] else [])
after_is true statement site = refl
after_is false statement site = sym (add-zero site)

mutual
  statement_within : (statement : Statement) (site at : ℕ) → Within (statement_begins site statement at) site at (length (accesses_of statement))
  statement_within (tree.load_only l) site at = own_within true (tree.load_only l) site at
  statement_within (tree.assign data_race a) site at = own_within (assignment_has_access a) (tree.assign data_race a) site at
  statement_within (tree.call c) site at = own_within (call_has_access c) (tree.call c) site at
  statement_within (tree.if_block e body) site at =
      let own : List Statement = itself (tree.if_block e body) in
      let inside : Within (block_begins (after_condition site e) body at) (site + length own) at (length (sites_of body)) =
      subst (λ (n : ℕ). Within (block_begins (after_condition site e) body at) n at (length (sites_of body)))
      (after_is (expression_has_access e) (tree.if_block e body) site) (block_within body (after_condition site e) at) in
      subst (λ (n : ℕ). Within (statement_begins site (tree.if_block e body) at) site at n) (sym (length-append own (sites_of body)))
      (both_within (own_begins (expression_has_access e) site at) (block_begins (after_condition site e) body at) site at (length own) (length (sites_of body))
      (own_within (expression_has_access e) (tree.if_block e body) site at) inside)
  statement_within (tree.if_else e body otherwise) site at =
      let own : List Statement = itself (tree.if_else e body otherwise) in
      let first : ℕ = after_condition site e in
      let second : ℕ = first + length (sites_of body) in
      let counts : ℕ = block_begins first body at + block_begins second otherwise at in
      let both : Within counts first at (length (sites_of body) + length (sites_of otherwise)) =
      both_within (block_begins first body at) (block_begins second otherwise at) first at (length (sites_of body)) (length (sites_of otherwise))
      (block_within body first at) (block_within otherwise second at) in
      let inside : Within counts (site + length own) at (length (sites_of body ++ sites_of otherwise)) =
      subst (λ (n : ℕ). Within counts n at (length (sites_of body ++ sites_of otherwise)))
      (after_is (expression_has_access e) (tree.if_else e body otherwise) site)
      (subst (λ (n : ℕ). Within counts first at n) (sym (length-append (sites_of body) (sites_of otherwise))) both) in
      subst (λ (n : ℕ). Within (statement_begins site (tree.if_else e body otherwise) at) site at n)
      (sym (length-append own (sites_of body ++ sites_of otherwise)))
      (both_within (own_begins (expression_has_access e) site at) counts site at (length own) (length (sites_of body ++ sites_of otherwise))
      (own_within (expression_has_access e) (tree.if_else e body otherwise) site at) inside)
  statement_within (tree.for_turns r turns body) site at =
      times_within turns (block_begins site body at) site at (length (sites_of body)) (block_within body site at)

  block_within : (body : Block) (site at : ℕ) → Within (block_begins site body at) site at (length (sites_of body))
  block_within tree.empty site at = inl refl
  block_within (tree.first statement rest) site at =
      subst (λ (n : ℕ). Within (block_begins site (tree.first statement rest) at) site at n) (sym (length-append (accesses_of statement) (sites_of rest)))
      (both_within (statement_begins site statement at) (block_begins (site + length (accesses_of statement)) rest at) site at
      (length (accesses_of statement)) (length (sites_of rest))
      (statement_within statement site at) (block_within rest (site + length (accesses_of statement)) at))

once_few : (turns : ℕ) (b : Bool) → turns ≤ 256 → turns * (if b then 1 else 0) ≤ 256
once_few turns true few = omega arith
once_few turns false few = omega arith

own_few : (turns : ℕ) (has : Bool) (site at : ℕ) → turns ≤ 256 → turns * own_begins has site at ≤ 256
own_few turns true site at few = once_few turns (site == at) few
own_few turns false site at few = omega arith

-- two parts don't share a site
both_few : (turns first second site at one two : ℕ) → Within first site at one → Within second (site + one) at two
    → turns * first ≤ 256 → turns * second ≤ 256 → turns * (first + second) ≤ 256
both_few turns first second site at one two (inl none) other few also =
    subst (λ (n : ℕ). turns * n ≤ 256) (sym (ap (λ (n : ℕ). n + second) none ∙ zero-add second)) also
both_few turns first second site at one two (inr is) (inl none) few also =
    subst (λ (n : ℕ). turns * n ≤ 256) (sym (ap (λ (n : ℕ). first + n) none ∙ add-zero first)) few
both_few turns first second site at one two (inr is) (inr other) few also =
    let high = is.1 in let low = other.0 in absurd (omega arith)

mutual
  statement_few : (turns : ℕ) (statement : Statement) (site at : ℕ) → turns ≤ 256 → StatementTurns turns statement
      → turns * statement_begins site statement at ≤ 256
  statement_few turns (tree.load_only l) site at few keeps = own_few turns true site at few
  statement_few turns (tree.assign data_race a) site at few keeps = own_few turns (assignment_has_access a) site at few
  statement_few turns (tree.call c) site at few keeps = own_few turns (call_has_access c) site at few
  statement_few turns (tree.if_block e body) site at few keeps =
      let own : List Statement = itself (tree.if_block e body) in
      let inside : Within (block_begins (after_condition site e) body at) (site + length own) at (length (sites_of body)) =
      subst (λ (n : ℕ). Within (block_begins (after_condition site e) body at) n at (length (sites_of body)))
      (after_is (expression_has_access e) (tree.if_block e body) site) (block_within body (after_condition site e) at) in
      both_few turns (own_begins (expression_has_access e) site at) (block_begins (after_condition site e) body at) site at (length own) (length (sites_of body))
      (own_within (expression_has_access e) (tree.if_block e body) site at) inside
      (own_few turns (expression_has_access e) site at few) (block_few turns body (after_condition site e) at few keeps)
  statement_few turns (tree.if_else e body otherwise) site at few keeps =
      let own : List Statement = itself (tree.if_else e body otherwise) in
      let first : ℕ = after_condition site e in
      let second : ℕ = first + length (sites_of body) in
      let counts : ℕ = block_begins first body at + block_begins second otherwise at in
      let both : Within counts first at (length (sites_of body) + length (sites_of otherwise)) =
      both_within (block_begins first body at) (block_begins second otherwise at) first at (length (sites_of body)) (length (sites_of otherwise))
      (block_within body first at) (block_within otherwise second at) in
      let inside : Within counts (site + length own) at (length (sites_of body) + length (sites_of otherwise)) =
      subst (λ (n : ℕ). Within counts n at (length (sites_of body) + length (sites_of otherwise)))
      (after_is (expression_has_access e) (tree.if_else e body otherwise) site) both in
      both_few turns (own_begins (expression_has_access e) site at) counts site at (length own) (length (sites_of body) + length (sites_of otherwise))
      (own_within (expression_has_access e) (tree.if_else e body otherwise) site at) inside
      (own_few turns (expression_has_access e) site at few)
      (both_few turns (block_begins first body at) (block_begins second otherwise at) first at (length (sites_of body)) (length (sites_of otherwise))
      (block_within body first at) (block_within otherwise second at)
      (block_few turns body first at few keeps.0) (block_few turns otherwise second at few keeps.1))
  statement_few turns (tree.for_turns r inner body) site at few keeps =
      subst (λ (n : ℕ). n ≤ 256) (mul_assoc turns inner (block_begins site body at)) (block_few (turns * inner) body site at keeps.1.0 keeps.1.1)

  pub block_few : (turns : ℕ) (body : Block) (site at : ℕ) → turns ≤ 256 → BlockTurns turns body → turns * block_begins site body at ≤ 256
  block_few turns tree.empty site at few keeps = omega arith
  block_few turns (tree.first statement rest) site at few keeps =
      both_few turns (statement_begins site statement at) (block_begins (site + length (accesses_of statement)) rest at) site at
      (length (accesses_of statement)) (length (sites_of rest))
      (statement_within statement site at) (block_within rest (site + length (accesses_of statement)) at)
      (statement_few turns statement site at few keeps.0) (block_few turns rest (site + length (accesses_of statement)) at few keeps.1)
