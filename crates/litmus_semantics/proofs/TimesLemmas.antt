-- Where the loops of a text fit, each of its sites begins at most 256 times.
use Rattle.std.proofs.Common.{◌≡◌, ◌≤◌, ◌*◌, ◌++◌, ◌==◌, ℕ, zero, suc, Bool, true, false, List, [], ◌∷◌, Option, None, Some, ap, arith, map, slice_get, subst, if◌then◌else◌}
use Rattle.std.proofs.Math.Nat.{mul_assoc}
use Rattle.access_types.specs.declared.history.Bytes.{Bytes}
use Rattle.access_types.specs.declared.kind.Kind.{Kind}
use Rattle.litmus_syntax.specs.Tree.{Assignment, Block, Expression, Statement}
use Rattle.litmus_syntax.specs.Tree as tree
use Rattle.litmus_syntax.specs.declared.statement.Call.{Call}
use Rattle.litmus_syntax.specs.declared.statement.Call.TheVariants as calls
use Rattle.litmus_semantics.specs.Calls.{check_kind}
use Rattle.litmus_semantics.specs.TextSites.{AllLoopsFit, LoopsFit, assignment_by, block_by, call_by, expression_by, once, repeated, statement_by}
use Rattle.litmus_semantics.specs.declared.site.Site.{Site}

-- in loops whose turns multiply to so many, each of these begins at most 256 times
abbrev AllFit : ℕ → List Site → Type 0
AllFit t [] = Unit {0}
AllFit t (x ∷ xs) = (t * x.times ≤ 256) × AllFit t xs

fits_append : (t : ℕ) (xs ys : List Site) → AllFit t xs → AllFit t ys → AllFit t (xs ++ ys)
fits_append t [] ys p q = q
fits_append t (x ∷ xs) ys p q = (p.0, fits_append t xs ys p.1 q)

fits_repeated : (t turns : ℕ) (xs : List Site) → AllFit (t * turns) xs → AllFit t (map (repeated turns) xs)
fits_repeated t turns [] p = tt
fits_repeated t turns (x ∷ xs) p =
    (subst (λ (n : ℕ). n ≤ 256) (mul_assoc t turns x.times) p.0, fits_repeated t turns xs p.1)

fits_once : (t : ℕ) (bytes : Bytes) (kind : Kind) (mask : Option ℕ) → t ≤ 256 → AllFit t (once bytes kind mask)
fits_once t bytes kind mask low = (omega arith, tt)

fits_sized : (t : ℕ) (empty : Bool) (xs : List Site) → AllFit t xs → AllFit t (if empty then [] else xs)
fits_sized t true xs p = tt
fits_sized t false xs p = p

module _ (bytes : ℕ → Bytes) where
  fits_expression : (t : ℕ) (e : Expression) → t ≤ 256 → AllFit t (expression_by bytes e)
  fits_expression t (tree.pure e) low = tt
  fits_expression t (tree.loading e) low = (omega arith, tt)

  fits_assignment : (t : ℕ) (a : Assignment) → t ≤ 256 → AllFit t (assignment_by bytes a)
  fits_assignment t (tree.to_register r e) low = fits_expression t e low
  fits_assignment t (tree.write form x e) low = (omega arith, tt)
  fits_assignment t (tree.add x e) low = (omega arith, tt)
  fits_assignment t (tree.increment x) low = (omega arith, tt)
  fits_assignment t (tree.atomic_add e x) low = (omega arith, tt)
  fits_assignment t (tree.atomic_increment x) low = (omega arith, tt)
  fits_assignment t (tree.atomic_decrement x) low = (omega arith, tt)

  fits_call : (t : ℕ) (c : Call) → t ≤ 256 → AllFit t (call_by bytes c)
  fits_call t (calls.Barrier b) low = tt
  fits_call t (calls.Lock l) low = tt
  fits_call t (calls.Unlock l) low = tt
  fits_call t (calls.AssertWriter x scoped) low = (omega arith, tt)
  fits_call t (calls.AssertAccess x scoped) low = (omega arith, tt)
  fits_call t (calls.AssertBits x mask) low = (omega arith, tt)
  fits_call t (calls.Mark m) low = tt
  fits_call t (calls.Check is_write x size) low =
      fits_sized t (size == 0) (once (record (bytes x) { size = size }) (check_kind is_write) None)
      (fits_once t (record (bytes x) { size = size }) (check_kind is_write) None low)

  mutual
    fits_statement : (t : ℕ) (st : Statement) → t ≤ 256 → LoopsFit t st → AllFit t (statement_by bytes st)
    fits_statement t (tree.load_only l) low fit = (omega arith, tt)
    fits_statement t (tree.assign data_race a) low fit = fits_assignment t a low
    fits_statement t (tree.call c) low fit = fits_call t c low
    fits_statement t (tree.if_block e body) low fit =
        fits_append t (expression_by bytes e) (block_by bytes body) (fits_expression t e low) (fits_block t body low fit)
    fits_statement t (tree.if_else e body otherwise) low fit =
        fits_append t (expression_by bytes e) (block_by bytes body ++ block_by bytes otherwise) (fits_expression t e low)
        (fits_append t (block_by bytes body) (block_by bytes otherwise) (fits_block t body low fit.0) (fits_block t otherwise low fit.1))
    fits_statement t (tree.for_turns r turns body) low fit =
        fits_repeated t turns (block_by bytes body) (fits_block (t * turns) body fit.0 fit.1)

    fits_block : (t : ℕ) (body : Block) → t ≤ 256 → AllLoopsFit t body → AllFit t (block_by bytes body)
    fits_block t tree.empty low fit = tt
    fits_block t (tree.first st rest) low fit =
        fits_append t (statement_by bytes st) (block_by bytes rest) (fits_statement t st low fit.0) (fits_block t rest low fit.1)

  same_site : (x y : Site) → Some x ≡ Some y → x.times ≡ y.times
  same_site x y is = ap (λ (s : Site). s.times) some where
    some : x ≡ y
    some = cc

  fits_at : (xs : List Site) (n : ℕ) (site : Site) → AllFit 1 xs → slice_get xs n ≡ Some site → site.times ≤ 256
  fits_at [] n site p is = cc
  fits_at (x ∷ xs) zero site p is = omega (arith, p.0, same_site x site is)
  fits_at (x ∷ xs) (suc n) site p is = fits_at xs n site p.1 is

  -- a site of a text whose loops fit begins at most 256 times
  pub site_times : (body : Block) → AllLoopsFit 1 body → (n : ℕ) (site : Site) → slice_get (block_by bytes body) n ≡ Some site → site.times ≤ 256
  site_times body fit n site is = fits_at (block_by bytes body) n site (fits_block 1 body (omega arith) fit) is
