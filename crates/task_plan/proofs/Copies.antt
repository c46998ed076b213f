-- What is so of a walk is so of its copy.
use Rattle.std.proofs.Common.{◌≡◌, ◌+◌, ℕ, List, MatchOption, Option, refl, subst, sym}
use Rattle.litmus_syntax.specs.Views.{expression_of, statement_of}
use Rattle.litmus_semantics.specs.Calls.{scoped_access}
use Rattle.litmus_semantics.specs.Meaning.{Chooses}
use Rattle.setup_access.specs.declared.begun.Begun.{Begun}
use Rattle.slot_table.specs.declared.records.Record.{Record}
use Rattle.task_plan.specs.Capacity.{room_of}
use Rattle.task_plan.specs.Copies.{IsCopy}
use Rattle.task_plan.specs.Cost.{blocks_cost, choice_cost, walk_cost}
use Rattle.task_plan.specs.Left.{BlocksLeft, BodyLeft, ClosesNewest, DueLeft, IsWalkOver, NothingLeft, OpenLeft, OutsideLeft, Same, Then, WalkLeft}
use Rattle.task_plan.specs.declared.block.Choice.{Choice}
use Rattle.task_plan.specs.declared.block.OpenBlock.{OpenBlock}
use Rattle.task_plan.specs.declared.due.Due.{Due}
use Rattle.task_plan.specs.declared.due.Due.TheVariants as dues
use Rattle.task_plan.specs.declared.walk.Walk.{Walk}
use Rattle.program_order.specs.Standing.{Setting, Standing, registered}
use Rattle.program_order.specs.WrittenOrder.{OpensScope, Steps, StepsOf, StepsOfExpression}

-- a block of the choice is left where there is one, and what is outside of it
abbrev choosing : Setting → (Choice → OpenBlock) → List OpenBlock → Option Choice → Steps
choosing s of blocks choice before records after rest =
    MatchOption choice (BlocksLeft s blocks NothingLeft before records after rest)
    (λ chosen. OpenLeft s (of chosen) (BlocksLeft s blocks NothingLeft) before records after rest)

module _ (walk copy : Walk) (is : IsCopy walk copy) where
  -- a walk is a copy of its copy
  pub copies_back : IsCopy copy walk
  copies_back = record { blocks = sym is.blocks; choice = sym is.choice; room = sym is.room }

  pub same_room : room_of copy ≡ room_of walk
  same_room = is.room

  pub same_cost : walk_cost copy ≡ walk_cost walk
  same_cost = λ i. blocks_cost (is.blocks i) + choice_cost (is.choice i)

  -- of the text the same is left
  pub same_outside : (s : Setting) → OutsideLeft s walk ≡ OutsideLeft s copy
  same_outside s = sym (λ i. BlocksLeft s (is.blocks i) NothingLeft)

  pub same_left : (s : Setting) → WalkLeft s walk ≡ WalkLeft s copy
  same_left s = sym (λ i. choosing s (λ choice. choice.otherwise) (is.blocks i) (is.choice i))

  pub same_body : (s : Setting) → BodyLeft s walk ≡ BodyLeft s copy
  same_body s = sym (λ i. choosing s (λ choice. choice.body) (is.blocks i) (is.choice i))

  pub same_due : (s : Setting) (due : Due) → DueLeft s due walk ≡ DueLeft s due copy
  same_due s (dues.Statement statement site) =
      λ i before records after rest. Then (StepsOf s site (statement_of statement.now)) (same_left s i) before records after rest
  same_due s (dues.Opens kind variable site) = λ i before records after rest.
      let a = scoped_access s.text site before.progress (record { kind = kind; variable = variable }) in
      (begun : Begun) × (opened : Standing) × (inside : List Record)
      × OpensScope s before a records begun opened inside × same_left s i opened inside after rest
  same_due s (dues.Condition condition site) = λ i before records after rest.
      (value : ℕ) × (between : Standing) × (later : List Record)
      × StepsOfExpression s site (expression_of condition.now) before records value between later
      × Chooses value (same_body s i between later after rest) (same_left s i between later after rest)
  same_due s (dues.Sets register value) =
      λ i before records after rest. same_left s i (registered before records register value) records after rest
  same_due s dues.Closes = λ i before records after rest. Then (ClosesNewest s) (same_left s i) before records after rest
  same_due s dues.Leaves = same_left s
  same_due s dues.Ends = refl

  pub same_over : IsWalkOver walk → IsWalkOver copy
  same_over over s = subst (λ (Left : Steps). Same Left NothingLeft) (same_left s) (over s)
