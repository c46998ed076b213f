-- What a statement or a block counts, and where it begins scopes.
use Rattle.std.proofs.Common.{◌≡◌, ℕ, ◌+◌, ◌≤◌, ◌==◌, Bool, true, false, cond, Option, Some, None, List, refl, ap, arith}
use Rattle.std.proofs.lemmas.Bool.{eqb-true}
use Rattle.litmus_syntax.specs.Limits.{BlockScopes, BlockTurns, StatementScopes, StatementTurns, block_count, block_repeats, call_scopes, own_repeats, scopes_of, statement_count, statement_repeats}
use Rattle.litmus_syntax.specs.Tree as tree
use Rattle.litmus_syntax.specs.declared.statement.Call.{Call}
use Rattle.litmus_syntax.specs.declared.statement.Call.TheVariants as calls
use Rattle.litmus_expression.specs.Followed.{accesses}
use Rattle.litmus_expression.specs.Places.{NestingPlace, asserting}
use Rattle.litmus_body.specs.StatementReader.{behind}
use Rattle.litmus_body.specs.Statements.{Enclosable, alone, assignment, kept, load, raced}

-- a place by its parts
abbrev pub place : (depth scopes turns : ℕ) → List Bool → NestingPlace
place d k t f = record { depth = d; scopes = k; turns = t; counters = f }

-- what is kept of a statement, if anything: how many statements, how often their accesses are made, how deep the
-- turns of its loops go, and the scopes in force
abbrev pub count_of : Option tree.Statement → ℕ
count_of None = 0
count_of (Some s) = statement_count s

abbrev pub spent : ℕ → Option tree.Statement → ℕ
spent t None = 0
spent t (Some s) = statement_repeats t s

abbrev pub Turns : ℕ → Option tree.Statement → Type 0
Turns t None = Unit {0}
Turns t (Some s) = StatementTurns t s

abbrev pub Scopes : ℕ → Option tree.Statement → Type 0
Scopes k None = Unit {0}
Scopes k (Some s) = StatementScopes k s

abbrev pub scopes_behind : ℕ → Option tree.Statement → ℕ
scopes_behind k None = k
scopes_behind k (Some s) = k + scopes_of s

-- nothing of it passes a limit, where so much is counted before it
pub record Fits (k t st n : ℕ) (x : Option tree.Statement) : Type 0 where
  pub statements : st + count_of x ≤ 256
  pub repeats : n + spent t x ≤ 1024
  pub turns : Turns t x
  pub scopes : Scopes k x

pub record BlockFits (k t st n : ℕ) (b : tree.Block) : Type 0 where
  pub statements : st + block_count b ≤ 256
  pub repeats : n + block_repeats t b ≤ 1024
  pub turns : BlockTurns t b
  pub scopes : BlockScopes k b

-- ---- a statement before others

pub kept_count : (x : Option tree.Statement) (b : tree.Block) → block_count (kept x b) ≡ count_of x + block_count b
kept_count None b = omega arith
kept_count (Some s) b = refl

pub kept_spent : (t : ℕ) (x : Option tree.Statement) (b : tree.Block) → block_repeats t (kept x b) ≡ spent t x + block_repeats t b
kept_spent t None b = omega arith
kept_spent t (Some s) b = refl

kept_turns : (t : ℕ) (x : Option tree.Statement) (b : tree.Block) → BlockTurns t (kept x b) → Turns t x × BlockTurns t b
kept_turns t None b turns = (tt, turns)
kept_turns t (Some s) b turns = turns

kept_scopes : (k : ℕ) (x : Option tree.Statement) (b : tree.Block) → BlockScopes k (kept x b) → Scopes k x × BlockScopes (scopes_behind k x) b
kept_scopes k None b scopes = (tt, scopes)
kept_scopes k (Some s) b scopes = scopes

pub fits_first : (k t st n : ℕ) (x : Option tree.Statement) (b : tree.Block) → BlockFits k t st n (kept x b) → Fits k t st n x
fits_first k t st n x b fits = record {
  statements = omega (arith, fits.statements, kept_count x b);
  repeats = omega (arith, fits.repeats, kept_spent t x b);
  turns = (kept_turns t x b fits.turns).0;
  scopes = (kept_scopes k x b fits.scopes).0;
}

pub fits_rest : (k t st n : ℕ) (x : Option tree.Statement) (b : tree.Block) → BlockFits k t st n (kept x b)
    → BlockFits (scopes_behind k x) t (st + count_of x) (n + spent t x) b
fits_rest k t st n x b fits = record {
  statements = omega (arith, fits.statements, kept_count x b);
  repeats = omega (arith, fits.repeats, kept_spent t x b);
  turns = (kept_turns t x b fits.turns).1;
  scopes = (kept_scopes k x b fits.scopes).1;
}

-- ---- scopes

no_more : (d k t : ℕ) (f : List Bool) → Some (place d k t f) ≡ Some (place d (k + 0) t f)
no_more d k t f = let same : k ≡ k + 0 = omega arith in ap (λ (j : ℕ). Some (place d j t f)) same

below_eight : (k : ℕ) → k + 1 ≤ 8 → (k == 8) ≡ false
below_eight k le = grind (arith, eqb-true k 8)

scoped_there : (d k t : ℕ) (f : List Bool) (scoped : Bool) → k + cond scoped 1 0 ≤ 8
    → cond scoped (asserting (place d k t f)) (Some (place d k t f)) ≡ Some (place d (k + cond scoped 1 0) t f)
scoped_there d k t f true le = ap (λ (b : Bool). cond b None (Some (place d (k + 1) t f))) (below_eight k le)
scoped_there d k t f false le = no_more d k t f

call_behind : (d k t : ℕ) (f : List Bool) (c : Call) → k + call_scopes c ≤ 8
    → behind (place d k t f) (Some (tree.call c)) ≡ Some (place d (k + call_scopes c) t f)
call_behind d k t f (calls.Barrier b) le = no_more d k t f
call_behind d k t f (calls.Lock x) le = no_more d k t f
call_behind d k t f (calls.Unlock x) le = no_more d k t f
call_behind d k t f (calls.AssertWriter x scoped) le = scoped_there d k t f scoped le
call_behind d k t f (calls.AssertAccess x scoped) le = scoped_there d k t f scoped le
call_behind d k t f (calls.AssertBits x mask) le = no_more d k t f
call_behind d k t f (calls.Mark m) le = no_more d k t f
call_behind d k t f (calls.Check write x size) le = no_more d k t f

pub behind_there : (d k t : ℕ) (f : List Bool) (x : Option tree.Statement) → Scopes k x → behind (place d k t f) x ≡ Some (place d (scopes_behind k x) t f)
behind_there d k t f None scopes = refl
behind_there d k t f (Some (tree.load_only l)) scopes = no_more d k t f
behind_there d k t f (Some (tree.assign race a)) scopes = no_more d k t f
behind_there d k t f (Some (tree.call c)) scopes = call_behind d k t f c scopes
behind_there d k t f (Some (tree.if_block condition body)) scopes = no_more d k t f
behind_there d k t f (Some (tree.if_else condition body otherwise)) scopes = no_more d k t f
behind_there d k t f (Some (tree.for_turns register turns body)) scopes = no_more d k t f

-- ---- what single statements count

pub alone_count : (x : Enclosable) → statement_count (alone x) ≡ 1
alone_count (load l) = refl
alone_count (assignment a) = refl

pub alone_spent : (t : ℕ) (x : Enclosable) → statement_repeats t (alone x) ≡ own_repeats t (alone x)
alone_spent t (load l) = refl
alone_spent t (assignment a) = refl

pub raced_count : (x : Enclosable) → statement_count (raced x) ≡ 1
raced_count (load l) = refl
raced_count (assignment a) = refl

pub raced_spent : (t : ℕ) (x : Enclosable) → statement_repeats t (raced x) ≡ own_repeats t (alone x)
raced_spent t (load l) = refl
raced_spent t (assignment a) = refl

pub branch_spent : (t : ℕ) (condition : tree.Expression) (body : tree.Block) → own_repeats t (tree.if_block condition body) ≡ accesses t condition
branch_spent t (tree.pure a) body = refl
branch_spent t (tree.loading a) body = refl

pub choice_spent : (t : ℕ) (condition : tree.Expression) (body otherwise : tree.Block)
    → own_repeats t (tree.if_else condition body otherwise) ≡ accesses t condition
choice_spent t (tree.pure a) body otherwise = refl
choice_spent t (tree.loading a) body otherwise = refl
