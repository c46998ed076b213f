-- What a part of a text means, from what its parts mean.
use Rattle.std.proofs.Common.{◌≡◌, ◌≢◌, ◌+◌, ◌-◌, ◌∷◌, [], ℕ, zero, suc, None, Option, Some, arith, length, refl, subst}
use Rattle.access_types.specs.declared.history.Happening.TheVariants.{Begin, End}
use Rattle.litmus_semantics.specs.Calls.{Scoped, scoped_access, scoped_assertion}
use Rattle.litmus_semantics.specs.Meaning.{InBlock, Means, MeansBlock, Turns}
use Rattle.litmus_semantics.specs.Task.{Progress, Setting, assigning, doing}
use Rattle.litmus_syntax.specs.Sites.{accesses_of}
use Rattle.litmus_syntax.specs.Tree.{Block, Statement}
use Rattle.litmus_syntax.specs.Tree as tree

-- a turn, and those after it
pub turns_more : (Body : Progress → Progress → Type 0) (r turn next left : ℕ) (before between after : Progress)
    → left ≢ 0 → next ≡ turn + 1 → Body (assigning before r turn) between → Turns Body r next (left - 1) between after
    → Turns Body r turn left before after
turns_more Body r turn next zero before between after some is body rest = absurd (some refl)
turns_more Body r turn next (suc left) before between after some is body rest =
    let one : suc left - 1 ≡ left = omega arith in
    let then : next ≡ suc turn = omega (arith, is) in
    (between, body, subst (λ (n : ℕ). Turns Body r n left between after) then (subst (λ (n : ℕ). Turns Body r next n between after) one rest))

-- a statement that is no scoped assertion, and those after it
plain : (s : Setting) (site : ℕ) (scoped : Option Scoped) → scoped ≡ None → (Own Rest : Progress → Progress → Type 0)
    → (before between after : Progress) → Own before between → Rest between after → InBlock s site scoped Own Rest before after
plain s site None is Own Rest before between after own rest = (between, own, rest)
plain s site (Some scoped) is Own Rest before between after own rest = cc

pub plain_first : (s : Setting) (site next : ℕ) (statement : Statement) (later : Block) (before between after : Progress)
    → scoped_assertion statement ≡ None → next ≡ site + length (accesses_of statement)
    → Means s site statement before between → MeansBlock s next later between after
    → MeansBlock s site (tree.first statement later) before after
plain_first s site next statement later before between after is at own rest =
    plain s site (scoped_assertion statement) is (λ start end. Means s site statement start end)
    (λ start end. MeansBlock s (site + length (accesses_of statement)) later start end) before between after own
    (subst (λ (n : ℕ). MeansBlock s n later between after) at rest)

-- a scoped assertion, and the statements after it
opened : (s : Setting) (site : ℕ) (option : Option Scoped) (scoped : Scoped) → option ≡ Some scoped → (Own Rest : Progress → Progress → Type 0)
    → (before between : Progress) → Rest (doing before (Begin (scoped_access s site before scoped) ∷ [])) between
    → InBlock s site option Own Rest before (doing between (End (scoped_access s site before scoped) ∷ []))
opened s site None scoped is Own Rest before between rest = cc
opened s site (Some other) scoped is Own Rest before between rest =
    let same : other ≡ scoped = cc in
    subst (λ (x : Scoped). InBlock s site (Some x) Own Rest before (doing between (End (scoped_access s site before scoped) ∷ [])))
    (same_back same) (between, rest, refl)
  where
    same_back : other ≡ scoped → scoped ≡ other
    same_back e = cc

pub scoped_first : (s : Setting) (site next : ℕ) (statement : Statement) (later : Block) (scoped : Scoped) (before between : Progress)
    → scoped_assertion statement ≡ Some scoped → next ≡ site + length (accesses_of statement)
    → MeansBlock s next later (doing before (Begin (scoped_access s site before scoped) ∷ [])) between
    → MeansBlock s site (tree.first statement later) before (doing between (End (scoped_access s site before scoped) ∷ []))
scoped_first s site next statement later scoped before between is at rest =
    opened s site (scoped_assertion statement) scoped is (λ start end. Means s site statement start end)
    (λ start end. MeansBlock s (site + length (accesses_of statement)) later start end) before between
    (subst (λ (n : ℕ). MeansBlock s n later (doing before (Begin (scoped_access s site before scoped) ∷ [])) between) at rest)
