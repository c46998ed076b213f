-- Where a task has a register: in a statement that reads or assigns it, and where the condition names it.
use Rattle.std.specs.Prelude.{◌==◌, ◌&&◌, ◌||◌, ℕ, Bool, false, if◌then◌else◌}
use Rattle.litmus_syntax.specs.Tree.{Assignment, Block, Expression, Fetch, Loading, Proposition, Pure, Statement}
use Rattle.litmus_syntax.specs.Tree as tree
use Rattle.check_warnings.specs.declared.registers.Role.{Role}
use Rattle.check_warnings.specs.declared.registers.Role.TheVariants as roles

-- the register stands in an expression without a load
abbrev pub in_pure : ℕ → Pure → Bool
in_pure register (tree.number n) = false
in_pure register (tree.register r) = r == register
in_pure register (tree.unary op a) = in_pure register a
in_pure register (tree.binary op a b) = in_pure register a || in_pure register b

-- it stands in what a load does
abbrev pub in_fetch : ℕ → Fetch → Bool
in_fetch register (tree.read form variable) = false
in_fetch register (tree.exchange variable value) = in_pure register value
in_fetch register (tree.compare_exchange variable expected replacement) = in_pure register expected || in_pure register replacement

-- it stands in an expression with a load
abbrev pub in_loading : ℕ → Loading → Bool
in_loading register (tree.load l) = in_fetch register l.fetch
in_loading register (tree.unary_of op a) = in_loading register a
in_loading register (tree.left op a b) = in_loading register a || in_pure register b
in_loading register (tree.right op a b) = in_pure register a || in_loading register b

-- it stands in an expression
abbrev pub in_expression : ℕ → Expression → Bool
in_expression register (tree.pure a) = in_pure register a
in_expression register (tree.loading a) = in_loading register a

-- an assignment reads it
abbrev pub in_assignment : ℕ → Assignment → Bool
in_assignment register (tree.to_register r value) = in_expression register value
in_assignment register (tree.write form variable value) = in_pure register value
in_assignment register (tree.add variable value) = in_pure register value
in_assignment register (tree.atomic_add value variable) = in_pure register value
in_assignment register _ = false

abbrev mutual
  -- a statement reads it
  pub reads : ℕ → Statement → Bool
  reads register (tree.load_only l) = in_fetch register l.fetch
  reads register (tree.assign data_race a) = in_assignment register a
  reads register (tree.call c) = false
  reads register (tree.if_block condition body) = in_expression register condition || reads_in register body
  reads register (tree.if_else condition body otherwise) =
      in_expression register condition || reads_in register body || reads_in register otherwise
  reads register (tree.for_turns counter turns body) = reads_in register body

  -- a statement of a block reads it
  pub reads_in : ℕ → Block → Bool
  reads_in register tree.empty = false
  reads_in register (tree.first s rest) = reads register s || reads_in register rest

-- an assignment is to it
abbrev pub is_to : ℕ → Assignment → Bool
is_to register (tree.to_register r value) = r == register
is_to register _ = false

abbrev mutual
  -- a statement assigns it: a loop the register that it counts with
  pub assigns : ℕ → Statement → Bool
  assigns register (tree.assign data_race a) = is_to register a
  assigns register (tree.if_block condition body) = assigns_in register body
  assigns register (tree.if_else condition body otherwise) = assigns_in register body || assigns_in register otherwise
  assigns register (tree.for_turns counter turns body) = counter == register || assigns_in register body
  assigns register _ = false

  -- a statement of a block assigns it
  pub assigns_in : ℕ → Block → Bool
  assigns_in register tree.empty = false
  assigns_in register (tree.first s rest) = assigns register s || assigns_in register rest

-- the condition names the register of a task
abbrev pub names : (task register : ℕ) → Proposition → Bool
names task register (tree.register_is t r value) = t == task && r == register
names task register (tree.negation p) = names task register p
names task register (tree.both p q) = names task register p || names task register q
names task register (tree.either p q) = names task register p || names task register q
names task register _ = false

-- what a register of a task with this body is there and in the condition
unfoldable pub role_of : (task register : ℕ) → Block → Proposition → Role
role_of task register body condition =
    if assigns_in register body then roles.Assigned
    else if reads_in register body then roles.Read
    else if names task register condition then roles.Named
    else roles.Unused
