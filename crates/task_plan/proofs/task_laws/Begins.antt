-- At each site no more accesses begin than the text has room for.
use Rattle.std.proofs.Common.{◌≤◌, ◌+◌, ◌*◌, ◌==◌, ℕ, Bool, true, false, List, arith, le_refl, length, not, refl, if◌then◌else◌}
use Rattle.litmus_semantics.specs.Task.{begins_at}
use Rattle.litmus_syntax.specs.Sites.{accesses_of, assignment_has_access, call_has_access, expression_has_access}
use Rattle.litmus_syntax.specs.Tree.{Assignment, Block, Expression}
use Rattle.litmus_syntax.specs.Tree as tree
use Rattle.litmus_syntax.specs.declared.statement.Call.{Call}
use Rattle.litmus_syntax.specs.declared.statement.Call.TheVariants as calls
use Rattle.slot_table.specs.declared.records.Record.{Record}
use Rattle.task_plan.specs.task_laws.Begins.{block_begins, one_at, own_begins, statement_begins}
use Rattle.task_plan.specs.task_laws.StandingButWay.{begun_at, core_of}
use Rattle.program_order.proofs.text_bounds.Counts.{Bounds, block_grows}
use Rattle.program_order.proofs.text_bounds.Statements.{assignment_weight, call_weight, expression_weight}
use Rattle.program_order.proofs.text_bounds.Weights.{Weighs}
use Rattle.program_order.proofs.MeaningLemmas.{by_block}
use Rattle.program_order.specs.Standing.{Setting, Standing}
use Rattle.program_order.specs.WrittenOrder.{StepsOfBlock}

module _ (at : ℕ) where
  begins_weigh : Weighs (begins_at at) (λ site. one_at site at) (λ m. 0)
  begins_weigh = record {
    begins = λ a plain. le_refl (one_at a.site at);
    ends = λ a plain. refl;
    reads = λ bytes value. refl;
    writes = λ bytes value. refl;
    locks = λ lock. refl;
    unlocks = λ lock. refl;
    marks = λ m. le_refl 0;
    enables = refl;
    nexts = refl;
  }

  expression_within : (site : ℕ) (e : Expression) → expression_weight site e (λ other. one_at other at) (λ m. 0) ≤ own_begins (expression_has_access e) site at
  expression_within site (tree.pure e) = le_refl 0
  expression_within site (tree.loading e) = omega arith

  assignment_within : (site : ℕ) (a : Assignment) → assignment_weight site a (λ other. one_at other at) (λ m. 0) ≤ own_begins (assignment_has_access a) site at
  assignment_within site (tree.to_register r e) = expression_within site e
  assignment_within site (tree.write form x e) = le_refl (one_at site at)
  assignment_within site (tree.add x e) = le_refl (one_at site at)
  assignment_within site (tree.increment x) = le_refl (one_at site at)
  assignment_within site (tree.atomic_add e x) = le_refl (one_at site at)
  assignment_within site (tree.atomic_increment x) = le_refl (one_at site at)
  assignment_within site (tree.atomic_decrement x) = le_refl (one_at site at)

  check_within : (none : Bool) (count : ℕ) → (if none then 0 else count) ≤ (if not none then count else 0)
  check_within true count = le_refl 0
  check_within false count = le_refl count

  call_within : (site : ℕ) (c : Call) → call_weight site c (λ other. one_at other at) (λ m. 0) ≤ own_begins (call_has_access c) site at
  call_within site (calls.Barrier b) = le_refl 0
  call_within site (calls.Lock l) = le_refl 0
  call_within site (calls.Unlock l) = le_refl 0
  call_within site (calls.AssertWriter x scoped) = le_refl (one_at site at)
  call_within site (calls.AssertAccess x scoped) = le_refl (one_at site at)
  call_within site (calls.AssertBits x mask) = le_refl (one_at site at)
  call_within site (calls.Mark m) = le_refl 0
  call_within site (calls.Check is_write x size) = check_within (size == 0) (one_at site at)

  begins_bound : Bounds (λ site. one_at site at) (λ m. 0) (λ site statement. statement_begins site statement at) (λ site body. block_begins site body at)
  begins_bound = record {
    loads = λ site l. omega arith;
    assigns = λ site data_race a. let most = assignment_within site a in omega (arith, most);
    calls = λ site c. call_within site c;
    ifs = λ site e body. let most = expression_within site e in omega (arith, most);
    if_elses = λ site e body otherwise. let most = expression_within site e in omega (arith, most);
    turns = λ site r turns body. le_refl (turns * block_begins site body at);
    firsts = λ site first rest. le_refl (statement_begins site first at + block_begins (site + length (accesses_of first)) rest at);
  }

pub begins_grow : (s : Setting) (site : ℕ) (body : Block) (before : Standing) (records : List Record) (end : Standing) (rest : List Record)
    → StepsOfBlock s site body before records end rest → (at : ℕ)
    → begun_at at (core_of end) ≤ begun_at at (core_of before) + block_begins site body at
begins_grow s site body before records end rest steps at =
    block_grows s.text (begins_at at) (λ other. one_at other at) (λ m. 0) (begins_weigh at) (λ a. le_refl (one_at a.site at)) (λ a. refl)
    (λ other statement. statement_begins other statement at) (λ other block. block_begins other block at)
    (begins_bound at) body site before.progress end.progress
    (by_block s site body before records end rest steps)
