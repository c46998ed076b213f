-- How many accesses of a text begin at a site, at most.
use Rattle.std.specs.Prelude.{◌+◌, ◌*◌, ◌==◌, ℕ, Bool, length, if◌then◌else◌}
use Rattle.litmus_semantics.specs.Meaning.{after_condition}
use Rattle.litmus_syntax.specs.Sites.{accesses_of, assignment_has_access, call_has_access, expression_has_access, sites_of}
use Rattle.litmus_syntax.specs.Tree.{Block, Statement}
use Rattle.litmus_syntax.specs.Tree as tree

-- one access begins at the first of these sites
abbrev pub one_at : ℕ → ℕ → ℕ
one_at site at = if site == at then 1 else 0

-- one does, or none
abbrev pub own_begins : Bool → ℕ → ℕ → ℕ
own_begins has_access site at = if has_access then one_at site at else 0

abbrev mutual
  -- in a statement whose first site is this one: in both blocks of an if, and in each turn of a loop
  pub statement_begins : ℕ → Statement → ℕ → ℕ
  statement_begins site (tree.load_only l) at = one_at site at
  statement_begins site (tree.assign data_race a) at = own_begins (assignment_has_access a) site at
  statement_begins site (tree.call c) at = own_begins (call_has_access c) site at
  statement_begins site (tree.if_block e body) at =
      own_begins (expression_has_access e) site at + block_begins (after_condition site e) body at
  statement_begins site (tree.if_else e body otherwise) at =
      own_begins (expression_has_access e) site at
      + (block_begins (after_condition site e) body at
      + block_begins (after_condition site e + length (sites_of body)) otherwise at)
  statement_begins site (tree.for_turns r turns body) at = turns * block_begins site body at

  -- in a block
  pub block_begins : ℕ → Block → ℕ → ℕ
  block_begins site tree.empty at = 0
  block_begins site (tree.first s rest) at =
      statement_begins site s at + block_begins (site + length (accesses_of s)) rest at
