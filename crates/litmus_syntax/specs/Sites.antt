-- Which statements make an access, and at which site.
use Rattle.std.specs.Prelude.{◌==◌, ◌++◌, Bool, true, false, not, List, [], ◌∷◌, if◌then◌else◌}
use Rattle.litmus_syntax.specs.Tree.{Expression, Assignment, Statement, Block}
use Rattle.litmus_syntax.specs.Tree as tree
use Rattle.litmus_syntax.specs.declared.statement.Call.{Call}
use Rattle.litmus_syntax.specs.declared.statement.Call.TheVariants as calls

abbrev pub expression_has_access : Expression → Bool
expression_has_access (tree.pure e) = false
expression_has_access (tree.loading e) = true

abbrev pub assignment_has_access : Assignment → Bool
assignment_has_access (tree.to_register r e) = expression_has_access e
assignment_has_access (tree.write form x e) = true
assignment_has_access (tree.add x e) = true
assignment_has_access (tree.increment x) = true
assignment_has_access (tree.atomic_add e x) = true
assignment_has_access (tree.atomic_increment x) = true
assignment_has_access (tree.atomic_decrement x) = true

-- a lock has no bytes, and a check of size 0 no access
abbrev pub call_has_access : Call → Bool
call_has_access (calls.Barrier b) = false
call_has_access (calls.Lock l) = false
call_has_access (calls.Unlock l) = false
call_has_access (calls.AssertWriter x scoped) = true
call_has_access (calls.AssertAccess x scoped) = true
call_has_access (calls.AssertBits x mask) = true
call_has_access (calls.Mark m) = false
call_has_access (calls.Check is_write x size) = not (size == 0)

-- a statement makes an access itself; an if does where its condition loads
abbrev pub has_access : Statement → Bool
has_access (tree.load_only l) = true
has_access (tree.assign data_race a) = assignment_has_access a
has_access (tree.call c) = call_has_access c
has_access (tree.if_block e body) = expression_has_access e
has_access (tree.if_else e body otherwise) = expression_has_access e
has_access (tree.for_turns r turns body) = false

-- the statement, if it makes an access itself
abbrev pub itself : Statement → List Statement
itself s = if has_access s then s ∷ [] else []

abbrev mutual
  -- the statements with an access of a statement and of all that stands in it, in text order
  pub accesses_of : Statement → List Statement
  accesses_of (tree.load_only l) = itself (tree.load_only l)
  accesses_of (tree.assign data_race a) = itself (tree.assign data_race a)
  accesses_of (tree.call c) = itself (tree.call c)
  accesses_of (tree.if_block e body) = itself (tree.if_block e body) ++ sites_of body
  accesses_of (tree.if_else e body otherwise) =
      itself (tree.if_else e body otherwise) ++ (sites_of body ++ sites_of otherwise)
  accesses_of (tree.for_turns r turns body) = sites_of body

  -- The same of a block. A site of a task is a place in this list of its body: the number, from 0
  -- in text order, of a statement with an access.
  pub sites_of : Block → List Statement
  sites_of tree.empty = []
  sites_of (tree.first s rest) = accesses_of s ++ sites_of rest
