-- What comes next in a text, by its form.
use Rattle.std.specs.Prelude.{◌≡◌}
use Rattle.access_types.specs.declared.kind.Claim.{Claim}
use Rattle.access_types.specs.declared.kind.Kind.TheVariants.{AssertScoped}
use Rattle.litmus_syntax.specs.Tree.{Statement}
use Rattle.litmus_syntax.specs.Tree as tree
use Rattle.litmus_syntax.specs.Views.{statement_of}
use Rattle.task_plan.specs.declared.due.Due.{Due}
use Rattle.task_plan.specs.declared.due.Due.TheVariants as dues

-- no block stands in the statement
abbrev pub HasNoBlock : Statement → Type 0
HasNoBlock (tree.load_only l) = Unit {0}
HasNoBlock (tree.assign data_race a) = Unit {0}
HasNoBlock (tree.call c) = Unit {0}
HasNoBlock (tree.if_block e body) = ⊥
HasNoBlock (tree.if_else e body otherwise) = ⊥
HasNoBlock (tree.for_turns r turns body) = ⊥

-- what is due as a statement has no block, and what opens is a scoped assertion
abbrev pub IsOfForm : Due → Type 0
IsOfForm (dues.Statement statement site) = HasNoBlock (statement_of statement.now)
IsOfForm (dues.Opens kind variable site) = (claim : Claim) × (kind ≡ AssertScoped claim)
IsOfForm due = Unit {0}
