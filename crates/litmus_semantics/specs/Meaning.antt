-- What a text means: from where a task stands to where it stands afterwards, with the values of
-- its reads free. It knows accesses, bytes and values.
use Rattle.std.specs.Prelude.{◌≡◌, ◌≢◌, ◌⊎◌, ◌+◌, ℕ, zero, suc, [], ◌∷◌, Option, None, Some, length, if◌then◌else◌}
use Rattle.access_types.specs.declared.history.Happening.TheVariants.{Begin, End}
use Rattle.litmus_syntax.specs.Sites.{accesses_of, expression_has_access, sites_of}
use Rattle.litmus_syntax.specs.Tree.{Block, Expression, Statement}
use Rattle.litmus_syntax.specs.Tree as tree
use Rattle.litmus_semantics.specs.Assignments.{AssignsIn}
use Rattle.litmus_semantics.specs.Calls.{Scoped, call_does, scoped_access, scoped_assertion}
use Rattle.litmus_semantics.specs.Loads.{Evaluates, Loads}
use Rattle.litmus_semantics.specs.Task.{Progress, Setting, assigning, doing}

-- the turns of a loop from one on, of which so many are left, where this is what its body means in
-- one: the register is the number of the turn, and that of the first turn not made afterwards
abbrev pub Turns : (Progress → Progress → Type 0) → ℕ → ℕ → ℕ → Progress → Progress → Type 0
Turns Body r turn zero before after = after ≡ assigning before r turn
Turns Body r turn (suc left) before after =
    (between : Progress) × Body (assigning before r turn) between
    × Turns Body r (suc turn) left between after

-- a condition holds where its value isn't 0
abbrev pub Chooses : ℕ → Type 0 → Type 0 → Type 0
Chooses value Holds Fails = ((value ≢ 0) × Holds) ⊎ ((value ≡ 0) × Fails)

-- the first site after the condition of an if
abbrev pub after_condition : ℕ → Expression → ℕ
after_condition site e = if expression_has_access e then site + 1 else site

-- the statement, and those after it in its block, where this is what these mean: a scoped assertion
-- begins at its statement and ends with the block, so the newest ends first
abbrev pub InBlock : Setting → ℕ → Option Scoped → (Progress → Progress → Type 0)
    → (Progress → Progress → Type 0) → Progress → Progress → Type 0
InBlock s site None Means Rest before after =
    (between : Progress) × Means before between × Rest between after
InBlock s site (Some scoped) Means Rest before after =
    let a = scoped_access s site before scoped in
    (between : Progress) × Rest (doing before (Begin a ∷ [])) between
    × (after ≡ doing between (End a ∷ []))

abbrev mutual
  -- what a statement means whose first site is this one
  pub Means : Setting → ℕ → Statement → Progress → Progress → Type 0
  Means s site (tree.load_only l) before after =
      (loaded : ℕ) × Loads s site l before loaded after
  Means s site (tree.assign data_race a) before after = AssignsIn s site data_race a before after
  Means s site (tree.call c) before after = after ≡ doing before (call_does s site c before)
  Means s site (tree.if_block e body) before after =
      (value : ℕ) × (between : Progress) × Evaluates s site e before value between
      × Chooses value (MeansBlock s (after_condition site e) body between after) (after ≡ between)
  Means s site (tree.if_else e body otherwise) before after =
      (value : ℕ) × (between : Progress) × Evaluates s site e before value between
      × Chooses value (MeansBlock s (after_condition site e) body between after)
      (MeansBlock s (after_condition site e + length (sites_of body)) otherwise between after)
  Means s site (tree.for_turns r turns body) before after =
      Turns (λ start end. MeansBlock s site body start end) r 0 turns before after

  -- what a block means whose first site is this one: its statements, one after the other
  pub MeansBlock : Setting → ℕ → Block → Progress → Progress → Type 0
  MeansBlock s site tree.empty before after = after ≡ before
  MeansBlock s site (tree.first statement rest) before after =
      InBlock s site (scoped_assertion statement)
      (λ start end. Means s site statement start end)
      (λ start end. MeansBlock s (site + length (accesses_of statement)) rest start end)
      before after
