-- What is left of a text where a task stands in it.
use Rattle.std.specs.Prelude.{◌≡◌, ◌↔◌, ◌+◌, ◌-◌, ◌++◌, ℕ, zero, suc, List, [], ◌∷◌, MatchOption, Option, length}
use Rattle.litmus_syntax.specs.Sites.{sites_of}
use Rattle.litmus_syntax.specs.Tree.{Block, Expression, Statement}
use Rattle.litmus_syntax.specs.Views.{block_of, expression_of, statement_of}
use Rattle.litmus_semantics.specs.Calls.{Scoped, scoped_access, scoped_assertion}
use Rattle.litmus_semantics.specs.Meaning.{Chooses, after_condition}
use Rattle.setup_access.specs.declared.begun.Begun.{Begun}
use Rattle.slot_table.specs.declared.records.Record.{Record}
use Rattle.task_plan.specs.declared.block.AtEnd.{AtEnd}
use Rattle.task_plan.specs.declared.block.AtEnd.TheVariants as ends
use Rattle.task_plan.specs.declared.due.Due.{Due}
use Rattle.task_plan.specs.declared.due.Due.TheVariants as dues
use Rattle.task_plan.specs.declared.block.Loop.{Loop}
use Rattle.task_plan.specs.declared.block.OpenBlock.{OpenBlock}
use Rattle.task_plan.specs.declared.walk.Walk.{Walk}
use Rattle.program_order.specs.Standing.{Setting, Standing, registered}
use Rattle.program_order.specs.WrittenOrder.{ClosesScope, OpensScope, Steps, StepsInBlock, StepsOf, StepsOfBlock, StepsOfExpression, StepsOfTurns}

-- two parts of a text have the same steps
abbrev pub Same : Steps → Steps → Type 0
Same P Q = (before : Standing) (records : List Record) (after : Standing) (rest : List Record)
    → P before records after rest ↔ Q before records after rest

-- nothing is left
abbrev pub NothingLeft : Steps
NothingLeft before records after rest = (after ≡ before) × (rest ≡ records)

-- a part is left, and then another
abbrev pub Then : Steps → Steps → Steps
Then P Q before records after rest =
    (between : Standing) × (later : List Record)
    × P before records between later × Q between later after rest

-- the newest scoped assertion in force closes
abbrev pub ClosesNewest : Setting → Steps
ClosesNewest s before records after rest =
    (scopes : List Begun) × (newest : Begun) × (before.scopes ≡ scopes ++ newest ∷ [])
    × ClosesScope s before newest scopes records after rest

-- so many close, the newest first
abbrev pub Closes : Setting → ℕ → Steps → Steps
Closes s zero Next before records after rest = Next before records after rest
Closes s (suc more) Next before records after rest =
    Then (ClosesNewest s) (Closes s more Next) before records after rest

-- the turns of a loop from one on, before what follows on the loop
abbrev pub TurnsLeft : Setting → Loop → ℕ → Steps → Steps
TurnsLeft s of number Next before records after rest =
    Then
    (StepsOfTurns (StepsOfBlock s of.site (block_of of.body.now)) of.register number (of.turns - number))
    Next before records after rest

-- what follows on the end of a block, before what follows on its statement
abbrev pub EndLeft : Setting → AtEnd → Steps → Steps
EndLeft s ends.Leaves Next before records after rest = Next before records after rest
EndLeft s (ends.Repeats turn) Next before records after rest =
    TurnsLeft s turn.of (turn.number + 1) Next before records after rest

-- a block, before what follows on its statement: the statements left, the closes of its scoped
-- assertions, and its end
abbrev pub OpenLeft : Setting → OpenBlock → Steps → Steps
OpenLeft s block Next before records after rest =
    Then (StepsOfBlock s block.site (block_of block.left.now))
    (Closes s block.scopes (EndLeft s block.at_end Next)) before records after rest

-- blocks that stand in each other, the outermost first: the innermost is left first
abbrev pub BlocksLeft : Setting → List OpenBlock → Steps → Steps
BlocksLeft s [] Next before records after rest = Next before records after rest
BlocksLeft s (outer ∷ inner) Next before records after rest =
    BlocksLeft s inner (OpenLeft s outer Next) before records after rest

-- what is left outside of a choice that isn't made
abbrev pub OutsideLeft : Setting → Walk → Steps
OutsideLeft s walk = BlocksLeft s walk.blocks.items NothingLeft

-- what is left of the text where a task stands in it, and where a condition doesn't hold that it has
-- come to
abbrev pub WalkLeft : Setting → Walk → Steps
WalkLeft s walk before records after rest =
    MatchOption walk.choice
    (OutsideLeft s walk before records after rest)
    (λ choice. OpenLeft s choice.otherwise (OutsideLeft s walk) before records after rest)

-- nothing is left of the text, whatever a task goes by
abbrev pub IsWalkOver : Walk → Type 0
IsWalkOver walk = (s : Setting) → Same (WalkLeft s walk) NothingLeft

-- what is left where a condition holds that it has come to
abbrev pub BodyLeft : Setting → Walk → Steps
BodyLeft s walk before records after rest =
    MatchOption walk.choice
    (OutsideLeft s walk before records after rest)
    (λ choice. OpenLeft s choice.body (OutsideLeft s walk) before records after rest)

-- a statement, a scoped assertion or one whose steps are `Own`, and its block after it
abbrev pub InBlockLeft : Setting → ℕ → Option Scoped → Steps → OpenBlock → Steps → Steps
InBlockLeft s site scoped Own block Next before records after rest =
    Then (StepsInBlock s site scoped Own (StepsOfBlock s block.site (block_of block.left.now)))
    (Closes s block.scopes (EndLeft s block.at_end Next)) before records after rest

-- a statement, and its block after it
abbrev pub StatementLeft : Setting → Statement → ℕ → OpenBlock → Steps → Steps
StatementLeft s statement site block Next before records after rest =
    InBlockLeft s site (scoped_assertion statement) (StepsOf s site statement) block Next
    before records after rest

-- a condition, and the block that it chooses
abbrev pub ChoiceLeft : Setting → Expression → ℕ → Block → Block → Steps → Steps
ChoiceLeft s condition site body otherwise Next before records after rest =
    let inside = after_condition site condition in
    (value : ℕ) × (between : Standing) × (later : List Record)
    × StepsOfExpression s site condition before records value between later
    × Chooses value
    (Then (StepsOfBlock s inside body) Next between later after rest)
    (Then (StepsOfBlock s (inside + length (sites_of body)) otherwise) Next between later after rest)

-- what comes next, and then what is left
abbrev pub DueLeft : Setting → Due → Walk → Steps
DueLeft s (dues.Statement statement site) walk before records after rest =
    Then (StepsOf s site (statement_of statement.now)) (WalkLeft s walk) before records after rest
DueLeft s (dues.Opens kind variable site) walk before records after rest =
    let a = scoped_access s.text site before.progress (record { kind = kind; variable = variable }) in
    (begun : Begun) × (opened : Standing) × (inside : List Record)
    × OpensScope s before a records begun opened inside × WalkLeft s walk opened inside after rest
DueLeft s (dues.Condition condition site) walk before records after rest =
    (value : ℕ) × (between : Standing) × (later : List Record)
    × StepsOfExpression s site (expression_of condition.now) before records value between later
    × Chooses value (BodyLeft s walk between later after rest) (WalkLeft s walk between later after rest)
DueLeft s (dues.Sets register value) walk before records after rest =
    WalkLeft s walk (registered before records register value) records after rest
DueLeft s dues.Closes walk before records after rest =
    Then (ClosesNewest s) (WalkLeft s walk) before records after rest
DueLeft s dues.Leaves walk before records after rest = WalkLeft s walk before records after rest
DueLeft s dues.Ends walk before records after rest = NothingLeft before records after rest
