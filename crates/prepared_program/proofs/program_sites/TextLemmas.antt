-- The sites of a text that keeps the limits: accesses can be made of them.
use Rattle.std.proofs.Common.{◌≡◌, ◌≤◌, ◌+◌, ◌^◌, ◌++◌, ◌==◌, ℕ, zero, suc, Bool, true, false, List, [], ◌∷◌, Option, None, Some, ap, arith, map, refl, slice_get, subst, if◌then◌else◌}
use Rattle.std.proofs.lemmas.Option.{same_Some}
use Rattle.access_types.specs.Access.{proper_mask}
use Rattle.access_types.specs.declared.history.Bytes.{Bytes}
use Rattle.access_types.specs.declared.kind.Kind.{Kind}
use Rattle.access_types.specs.declared.kind.Kind.TheVariants as kinds
use Rattle.access_types.specs.declared.kind.Claim.TheVariants.{NoWrites}
use Rattle.litmus_syntax.specs.Limits.{BlockTyped, CallTyped, Sort, StatementTyped}
use Rattle.litmus_syntax.specs.Tree.{Assignment, Block, Expression, Statement}
use Rattle.litmus_syntax.specs.Tree as tree
use Rattle.litmus_syntax.specs.declared.statement.Call.{Call}
use Rattle.litmus_syntax.specs.declared.statement.Call.TheVariants as calls
use Rattle.litmus_semantics.specs.Calls.{check_kind}
use Rattle.litmus_semantics.specs.TextSites.{assignment_by, block_by, call_by, expression_by, once, repeated, statement_by}
use Rattle.litmus_semantics.specs.declared.site.Site.{Site}
use Rattle.prepared_program.specs.program_sites.Added.{IsProper}

-- an access can be made of each of these
abbrev AreProper : List Site → Type 0
AreProper [] = Unit {0}
AreProper (x ∷ xs) = IsProper x × AreProper xs

proper_append : (xs ys : List Site) → AreProper xs → AreProper ys → AreProper (xs ++ ys)
proper_append [] ys p q = q
proper_append (x ∷ xs) ys p q = (p.0, proper_append xs ys p.1 q)

proper_repeated : (turns : ℕ) (xs : List Site) → AreProper xs → AreProper (map (repeated turns) xs)
proper_repeated turns [] p = tt
proper_repeated turns (x ∷ xs) p = (record { range = p.0.range; mask = p.0.mask }, proper_repeated turns xs p.1)

-- a mask without a bit stays dropped
dropped_once : (none : Bool) (mask : ℕ) → (mask == 0) ≡ none → proper_mask (if none then None else Some mask) ≡ (if none then None else Some mask)
dropped_once true mask is = refl
dropped_once false mask is = ap (λ (b : Bool). if b then None else Some mask) is

masked : (mask : ℕ) → proper_mask (proper_mask (Some mask)) ≡ proper_mask (Some mask)
masked mask = dropped_once (mask == 0) mask refl

-- bytes that stand low enough, and aren't many
abbrev pub IsLow : Bytes → Type 0
IsLow bytes = (bytes.addr ≤ 2 ^ 62) × (bytes.size ≤ 8)

proper_once : (bytes : Bytes) (kind : Kind) (mask : Option ℕ) → bytes.addr + bytes.size ≤ 2 ^ 63 → proper_mask mask ≡ mask → AreProper (once bytes kind mask)
proper_once bytes kind mask range is = (record { range = range; mask = is }, tt)

proper_sized : (empty : Bool) (xs : List Site) → AreProper xs → AreProper (if empty then [] else xs)
proper_sized true xs p = tt
proper_sized false xs p = p

module _ (Has : Sort → ℕ → Type 0) (registers : ℕ) (bytes : ℕ → Bytes) (low : (x : ℕ) → IsLow (bytes x)) where
  unmasked : (x : ℕ) (kind : Kind) → AreProper (once (bytes x) kind None)
  unmasked x kind =
      let addr : (bytes x).addr ≤ 2 ^ 62 = (low x).0 in
      let size : (bytes x).size ≤ 8 = (low x).1 in
      proper_once (bytes x) kind None (omega arith) refl

  proper_expression : (e : Expression) → AreProper (expression_by bytes e)
  proper_expression (tree.pure e) = tt
  proper_expression (tree.loading e) = unmasked _ _

  proper_assignment : (a : Assignment) → AreProper (assignment_by bytes a)
  proper_assignment (tree.to_register r e) = proper_expression e
  proper_assignment (tree.write form x e) = unmasked x _
  proper_assignment (tree.add x e) = unmasked x _
  proper_assignment (tree.increment x) = unmasked x _
  proper_assignment (tree.atomic_add e x) = unmasked x _
  proper_assignment (tree.atomic_increment x) = unmasked x _
  proper_assignment (tree.atomic_decrement x) = unmasked x _

  proper_call : (c : Call) → CallTyped Has registers c → AreProper (call_by bytes c)
  proper_call (calls.Barrier b) typed = tt
  proper_call (calls.Lock l) typed = tt
  proper_call (calls.Unlock l) typed = tt
  proper_call (calls.AssertWriter x scoped) typed = unmasked x _
  proper_call (calls.AssertAccess x scoped) typed = unmasked x _
  proper_call (calls.AssertBits x mask) typed =
      let addr : (bytes x).addr ≤ 2 ^ 62 = (low x).0 in
      let size : (bytes x).size ≤ 8 = (low x).1 in
      proper_once (bytes x) (kinds.Assert NoWrites) (proper_mask (Some mask)) (omega arith) (masked mask)
  proper_call (calls.Mark m) typed = tt
  proper_call (calls.Check is_write x size) typed =
      let addr : (bytes x).addr ≤ 2 ^ 62 = (low x).0 in
      let short : size ≤ 1048576 = typed.1 in
      proper_sized (size == 0) (once (record (bytes x) { size = size }) (check_kind is_write) None)
      (proper_once (record (bytes x) { size = size }) (check_kind is_write) None (omega arith) refl)

  mutual
    proper_statement : (st : Statement) → StatementTyped Has registers st → AreProper (statement_by bytes st)
    proper_statement (tree.load_only l) typed = unmasked _ _
    proper_statement (tree.assign data_race a) typed = proper_assignment a
    proper_statement (tree.call c) typed = proper_call c typed
    proper_statement (tree.if_block e body) typed =
        proper_append (expression_by bytes e) (block_by bytes body) (proper_expression e) (proper_block body typed.1)
    proper_statement (tree.if_else e body otherwise) typed =
        proper_append (expression_by bytes e) (block_by bytes body ++ block_by bytes otherwise) (proper_expression e)
        (proper_append (block_by bytes body) (block_by bytes otherwise) (proper_block body typed.1.0) (proper_block otherwise typed.1.1))
    proper_statement (tree.for_turns r turns body) typed = proper_repeated turns (block_by bytes body) (proper_block body typed.1)

    proper_block : (body : Block) → BlockTyped Has registers body → AreProper (block_by bytes body)
    proper_block tree.empty typed = tt
    proper_block (tree.first st rest) typed =
        proper_append (statement_by bytes st) (block_by bytes rest) (proper_statement st typed.0) (proper_block rest typed.1)

  proper_at : (xs : List Site) (n : ℕ) (site : Site) → AreProper xs → slice_get xs n ≡ Some site → IsProper site
  proper_at [] n site p is = cc
  proper_at (x ∷ xs) zero site p is = subst IsProper (same_Some x site is) p.0
  proper_at (x ∷ xs) (suc n) site p is = proper_at xs n site p.1 is

  -- an access can be made of each site of a text that is typed
  pub proper_sites : (body : Block) → BlockTyped Has registers body → (n : ℕ) (site : Site) → slice_get (block_by bytes body) n ≡ Some site → IsProper site
  proper_sites body typed n site is = proper_at (block_by bytes body) n site (proper_block body typed) is
