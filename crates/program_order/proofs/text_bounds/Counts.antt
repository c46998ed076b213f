-- What a text does counts no more than its parts, by induction on the text.
use Rattle.std.proofs.Common.{◌≡◌, ◌≤◌, ◌+◌, ◌*◌, ◌++◌, ℕ, zero, suc, Bool, true, false, List, [], ◌∷◌, None, Option, Some, ap, arith, count_by, inl, inr, length, refl}
use Rattle.std.proofs.Math.Nat.{suc-mul}
use Rattle.access_types.specs.Access.{Access}
use Rattle.access_types.specs.declared.history.Happening.{Happening}
use Rattle.access_types.specs.declared.history.Happening.TheVariants.{Begin, End}
use Rattle.access_types.specs.declared.history.Mark.{Mark}
use Rattle.litmus_semantics.specs.Calls.{Scoped, scoped_access, scoped_assertion}
use Rattle.litmus_semantics.specs.Meaning.{Chooses, InBlock, Means, MeansBlock, Turns, after_condition}
use Rattle.litmus_semantics.specs.Task.{Progress, Setting, assigning, doing}
use Rattle.litmus_syntax.specs.Sites.{accesses_of, sites_of}
use Rattle.litmus_syntax.specs.Tree.{Assignment, Block, Expression, Load, Statement}
use Rattle.litmus_syntax.specs.Tree as tree
use Rattle.litmus_syntax.specs.declared.statement.Call.{Call}
use Rattle.litmus_syntax.specs.declared.statement.Call.TheVariants as calls
use Rattle.program_order.proofs.text_bounds.Statements.{assign_does, assign_weight, call_does_most, call_weight, expression_does, expression_weight, load_does, load_weight}
use Rattle.program_order.proofs.text_bounds.Weights.{DoesAtMost, Weighs, one, weight_both, weight_first}

-- what statements and blocks count, at most: no less than their parts
pub record Bounds (at_site : ℕ → ℕ) (of_mark : Mark → ℕ) (statement : ℕ → Statement → ℕ) (block : ℕ → Block → ℕ) : Type 0 where
  pub loads : (site : ℕ) (l : Load) → load_weight site l at_site of_mark ≤ statement site (tree.load_only l)
  pub assigns : (site : ℕ) (data_race : Bool) (a : Assignment) → assign_weight site data_race a at_site of_mark ≤ statement site (tree.assign data_race a)
  pub calls : (site : ℕ) (c : Call) → call_weight site c at_site of_mark ≤ statement site (tree.call c)
  pub ifs : (site : ℕ) (e : Expression) (body : Block)
      → expression_weight site e at_site of_mark + block (after_condition site e) body ≤ statement site (tree.if_block e body)
  pub if_elses : (site : ℕ) (e : Expression) (body otherwise : Block)
      → expression_weight site e at_site of_mark
      + (block (after_condition site e) body + block (after_condition site e + length (sites_of body)) otherwise)
      ≤ statement site (tree.if_else e body otherwise)
  pub turns : (site r turns : ℕ) (body : Block) → turns * block site body ≤ statement site (tree.for_turns r turns body)
  pub firsts : (site : ℕ) (first : Statement) (rest : Block)
      → statement site first + block (site + length (accesses_of first)) rest ≤ block site (tree.first first rest)

module _ (s : Setting) (weighs : Happening → Bool) (at_site : ℕ → ℕ) (of_mark : Mark → ℕ) (is : Weighs weighs at_site of_mark)
    (begins : (a : Access) → one weighs (Begin a) ≤ at_site a.site) (ends : (a : Access) → weighs (End a) ≡ false)
    (statement_most : ℕ → Statement → ℕ) (block_most : ℕ → Block → ℕ) (bounds : Bounds at_site of_mark statement_most block_most) where
  -- no more was counted from one point to another than this
  abbrev pub Grows : ℕ → Progress → Progress → Type 0
  Grows most before after = count_by weighs after.did ≤ count_by weighs before.did + most

  does_grows : (before after : Progress) (most : (ℕ → ℕ) → (Mark → ℕ) → ℕ) → DoesAtMost before after most → Grows (most at_site of_mark) before after
  does_grows before after most own =
      let comes_to : count_by weighs after.did ≡ count_by weighs (before.did ++ own.does) = ap (λ (did : List Happening). count_by weighs did) own.comes_to in
      let both = weight_both weighs before.did own.does in
      let more = own.weight weighs at_site of_mark is in
      omega (arith, comes_to, both, more)

  opened_grows : (before : Progress) (a : Access) → Grows (at_site a.site) before (doing before (Begin a ∷ []))
  opened_grows before a =
      let both = weight_both weighs before.did (Begin a ∷ []) in
      let first = weight_first weighs (Begin a) [] in
      let own = begins a in
      omega (arith, both, first, own)

  closed_grows : (before after : Progress) (a : Access) → after ≡ doing before (End a ∷ []) → Grows 0 before after
  closed_grows before after a is_after =
      let comes_to : count_by weighs after.did ≡ count_by weighs (before.did ++ End a ∷ []) = ap (λ (p : Progress). count_by weighs p.did) is_after in
      let both = weight_both weighs before.did (End a ∷ []) in
      let first = weight_first weighs (End a) [] in
      let none : one weighs (End a) ≡ 0 = rw (ends a) refl in
      omega (arith, comes_to, both, first, none)

  -- a scoped assertion counts no more than its statement
  abbrev ScopedWeighs : Option Scoped → ℕ → ℕ → Type 0
  ScopedWeighs None site most = Unit {0}
  ScopedWeighs (Some scoped) site most = at_site site ≤ most

  scoped_weighs : (statement : Statement) (site : ℕ) → ScopedWeighs (scoped_assertion statement) site (statement_most site statement)
  scoped_weighs (tree.load_only l) site = tt
  scoped_weighs (tree.assign data_race a) site = tt
  scoped_weighs (tree.call (calls.Barrier b)) site = tt
  scoped_weighs (tree.call (calls.Lock l)) site = tt
  scoped_weighs (tree.call (calls.Unlock l)) site = tt
  scoped_weighs (tree.call (calls.AssertWriter x true)) site = bounds.calls site (calls.AssertWriter x true)
  scoped_weighs (tree.call (calls.AssertWriter x false)) site = tt
  scoped_weighs (tree.call (calls.AssertAccess x true)) site = bounds.calls site (calls.AssertAccess x true)
  scoped_weighs (tree.call (calls.AssertAccess x false)) site = tt
  scoped_weighs (tree.call (calls.AssertBits x mask)) site = tt
  scoped_weighs (tree.call (calls.Mark m)) site = tt
  scoped_weighs (tree.call (calls.Check is_write x size)) site = tt
  scoped_weighs (tree.if_block e body) site = tt
  scoped_weighs (tree.if_else e body otherwise) site = tt
  scoped_weighs (tree.for_turns r turns body) site = tt

  in_block_grows : (scoped : Option Scoped) (Own Rest : Progress → Progress → Type 0) (site few more : ℕ) → ScopedWeighs scoped site few
      → ((start end : Progress) → Own start end → Grows few start end) → ((start end : Progress) → Rest start end → Grows more start end)
      → (before after : Progress) → InBlock s site scoped Own Rest before after → Grows (few + more) before after
  in_block_grows None Own Rest site few more own_weighs first later before after h =
      let one_part = first before h.0 h.1 in let other = later h.0 after h.2 in omega (arith, one_part, other)
  in_block_grows (Some scoped) Own Rest site few more own_weighs first later before after h =
      let a : Access = scoped_access s site before scoped in
      let opened = opened_grows before a in
      let inside = later (doing before (Begin a ∷ [])) h.0 h.1 in
      let closed = closed_grows h.0 after a h.2 in
      omega (arith, opened, inside, closed, own_weighs)

  -- the turns of a loop
  turns_grow : (Body : Progress → Progress → Type 0) (most r turn left : ℕ) → ((start end : Progress) → Body start end → Grows most start end)
      → (before after : Progress) → Turns Body r turn left before after → Grows (left * most) before after
  turns_grow Body most r turn zero each before after h =
      let same : count_by weighs after.did ≡ count_by weighs before.did = ap (λ (p : Progress). count_by weighs p.did) h in omega (arith, same)
  turns_grow Body most r turn (suc left) each before after h =
      let own = each (assigning before r turn) h.0 h.1 in
      let others = turns_grow Body most r (suc turn) left each h.0 after h.2 in
      let parts = suc-mul left most in
      omega (arith, own, others, parts)

  chosen_grows : (value : ℕ) (Holds Fails : Type 0) (before after : Progress) (holds fails : ℕ) → Chooses value Holds Fails
      → (Holds → Grows holds before after) → (Fails → Grows fails before after) → Grows (holds + fails) before after
  chosen_grows value Holds Fails before after holds fails h first second = elim h [
    | inl is_chosen ↦ let own = first is_chosen.1 in omega (arith, own)
    | inr is_not ↦ let own = second is_not.1 in omega (arith, own)
  ]

  mutual
    statement_grows : (statement : Statement) (site : ℕ) (before after : Progress) → Means s site statement before after
        → Grows (statement_most site statement) before after
    statement_grows (tree.load_only l) site before after h =
        let own = does_grows before after (load_weight site l) (load_does s site l before h.0 after h.1) in
        let most = bounds.loads site l in omega (arith, own, most)
    statement_grows (tree.assign data_race a) site before after h =
        let own = does_grows before after (assign_weight site data_race a) (assign_does s site data_race a before after h) in
        let most = bounds.assigns site data_race a in omega (arith, own, most)
    statement_grows (tree.call c) site before after h =
        let own = does_grows before after (call_weight site c) (call_does_most s site c before after h) in
        let most = bounds.calls site c in omega (arith, own, most)
    statement_grows (tree.if_block e body) site before after h =
        let value = does_grows before h.1 (expression_weight site e) (expression_does s site e before h.0 h.1 h.2) in
        let chosen : Grows (block_most (after_condition site e) body + 0) h.1 after =
        chosen_grows h.0 (MeansBlock s (after_condition site e) body h.1 after) (after ≡ h.1) h.1 after (block_most (after_condition site e) body) 0 h.3
        (λ means. block_grows body (after_condition site e) h.1 after means)
        (λ same. let none : count_by weighs after.did ≡ count_by weighs (h.1).did = ap (λ (p : Progress). count_by weighs p.did) same in omega (arith, none)) in
        let most = bounds.ifs site e body in
        omega (arith, value, chosen, most)
    statement_grows (tree.if_else e body otherwise) site before after h =
        let first : ℕ = after_condition site e in
        let second : ℕ = first + length (sites_of body) in
        let value = does_grows before h.1 (expression_weight site e) (expression_does s site e before h.0 h.1 h.2) in
        let chosen : Grows (block_most first body + block_most second otherwise) h.1 after =
        chosen_grows h.0 (MeansBlock s first body h.1 after) (MeansBlock s second otherwise h.1 after) h.1 after (block_most first body)
        (block_most second otherwise) h.3
        (λ means. block_grows body first h.1 after means) (λ means. block_grows otherwise second h.1 after means) in
        let most = bounds.if_elses site e body otherwise in
        omega (arith, value, chosen, most)
    statement_grows (tree.for_turns r turns body) site before after h =
        let own = turns_grow (λ start end. MeansBlock s site body start end) (block_most site body) r 0 turns
        (λ start end means. block_grows body site start end means) before after h in
        let most = bounds.turns site r turns body in omega (arith, own, most)

    pub block_grows : (body : Block) (site : ℕ) (before after : Progress) → MeansBlock s site body before after → Grows (block_most site body) before after
    block_grows tree.empty site before after h =
        let same : count_by weighs after.did ≡ count_by weighs before.did = ap (λ (p : Progress). count_by weighs p.did) h in omega (arith, same)
    block_grows (tree.first statement rest) site before after h =
        let own = in_block_grows (scoped_assertion statement) (λ start end. Means s site statement start end)
        (λ start end. MeansBlock s (site + length (accesses_of statement)) rest start end) site (statement_most site statement)
        (block_most (site + length (accesses_of statement)) rest) (scoped_weighs statement site)
        (λ start end means. statement_grows statement site start end means)
        (λ start end means. block_grows rest (site + length (accesses_of statement)) start end means) before after h in
        let most = bounds.firsts site statement rest in omega (arith, own, most)
