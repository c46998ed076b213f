-- Tickets have room for the sites of a text that keeps the limits.
use Rattle.std.proofs.Common.{◌≡◌, ◌≤◌, ◌*◌, ◌++◌, ℕ, Bool, true, false, [], ◌∷◌, arith, length, length-append, if◌then◌else◌}
use Rattle.litmus_syntax.specs.Limits.{BlockTurns, BodyKeepsLimits, StatementTurns, block_count, statement_count}
use Rattle.litmus_syntax.specs.Sites.{accesses_of, assignment_has_access, call_has_access, expression_has_access, itself, sites_of}
use Rattle.litmus_syntax.specs.Tree.{Assignment, Block, Expression, Statement}
use Rattle.litmus_syntax.specs.Tree as tree
use Rattle.litmus_semantics.proofs.TextSitesLemmas.{block_length}
use Rattle.litmus_semantics.proofs.TimesLemmas.{site_times}
use Rattle.litmus_semantics.specs.Task.{Setting, bytes_in}
use Rattle.litmus_semantics.specs.TextSites.{AllLoopsFit, FitsTickets, LoopsFit, block_by, block_sites}

-- a text has no more sites than statements
itself_few : (s : Statement) (b : Bool) → length (if b then s ∷ [] else []) ≤ 1
itself_few s true = omega arith
itself_few s false = omega arith

mutual
  pub statement_sites : (s : Statement) → length (accesses_of s) ≤ statement_count s
  statement_sites (tree.load_only l) = omega arith
  statement_sites (tree.assign data_race a) = itself_few (tree.assign data_race a) (assignment_has_access a)
  statement_sites (tree.call c) = itself_few (tree.call c) (call_has_access c)
  statement_sites (tree.if_block e body) =
      let all = length-append (itself (tree.if_block e body)) (sites_of body) in
      omega (arith, all, itself_few (tree.if_block e body) (expression_has_access e), block_sites_few body)
  statement_sites (tree.if_else e body otherwise) =
      let all = length-append (itself (tree.if_else e body otherwise)) (sites_of body ++ sites_of otherwise) in
      let both = length-append (sites_of body) (sites_of otherwise) in
      omega (arith, all, both, itself_few (tree.if_else e body otherwise) (expression_has_access e), block_sites_few body, block_sites_few otherwise)
  statement_sites (tree.for_turns r turns body) = omega (arith, block_sites_few body)

  pub block_sites_few : (b : Block) → length (sites_of b) ≤ block_count b
  block_sites_few tree.empty = omega arith
  block_sites_few (tree.first s rest) =
      let all = length-append (accesses_of s) (sites_of rest) in
      omega (arith, all, statement_sites s, block_sites_few rest)

-- the loops fit
mutual
  loops_fit : (turns : ℕ) (s : Statement) → StatementTurns turns s → LoopsFit turns s
  loops_fit turns (tree.load_only l) keeps = tt
  loops_fit turns (tree.assign data_race a) keeps = tt
  loops_fit turns (tree.call c) keeps = tt
  loops_fit turns (tree.if_block e body) keeps = all_loops_fit turns body keeps
  loops_fit turns (tree.if_else e body otherwise) keeps = (all_loops_fit turns body keeps.0, all_loops_fit turns otherwise keeps.1)
  loops_fit turns (tree.for_turns r inner body) keeps = (keeps.1.0, all_loops_fit (turns * inner) body keeps.1.1)

  pub all_loops_fit : (turns : ℕ) (b : Block) → BlockTurns turns b → AllLoopsFit turns b
  all_loops_fit turns tree.empty keeps = tt
  all_loops_fit turns (tree.first s rest) keeps = (loops_fit turns s keeps.0, all_loops_fit turns rest keeps.1)

-- where the limits are kept, tickets have room
pub tickets_fit : (s : Setting) (body : Block) → BodyKeepsLimits body → FitsTickets (block_sites s body)
tickets_fit s body keeps = record {
  numbers =
      let same : length (block_by (bytes_in s) body) ≡ length (sites_of body) = block_length s body in
      let few = block_sites_few body in
      let counted : block_count body ≤ 256 = keeps.statements in
      omega (arith, same, few, counted);
  times = λ number site is. site_times (bytes_in s) body (all_loops_fit 1 body keeps.turns) number site is;
}

pub few_sites : (body : Block) → BodyKeepsLimits body → length (sites_of body) ≤ 256
few_sites body keeps =
    let few = block_sites_few body in
    let counted : block_count body ≤ 256 = keeps.statements in
    omega (arith, few, counted)
