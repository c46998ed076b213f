-- The marks of a text raise the counts of its task's context no more often than the text says.
use Rattle.std.proofs.Common.{◌≡◌, ◌≤◌, ◌+◌, ◌*◌, ◌==◌, ℕ, Bool, true, false, List, [], ◌∷◌, arith, count_by, eq-eqb, le_refl, map, refl, if◌then◌else◌}
use Rattle.std.proofs.lemmas.List.Sums.{sum_by-cons}
use Rattle.access_types.specs.Marked.{is_disable, is_nest_open, mark_before, marks_of}
use Rattle.access_types.specs.declared.history.Happening.{Happening}
use Rattle.access_types.specs.declared.history.Happening.TheVariants.{Begin, End, Lock, Read, Unlock, Write}
use Rattle.access_types.specs.declared.history.Happening.TheVariants as happenings
use Rattle.access_types.specs.declared.history.Mark.{Mark}
use Rattle.access_types.specs.declared.history.Mark.TheVariants.{Disable, Enable, FlatBegin, FlatEnd, NestClose, NestOpen, Next}
use Rattle.litmus_semantics.specs.Loads.{load_in}
use Rattle.litmus_syntax.specs.Limits.{assignment_rises, block_rises, call_rises, expression_rises, loading_rises, mark_rises, statement_rises}
use Rattle.litmus_syntax.specs.Tree.{Assignment, Block, Expression, Loading, Statement}
use Rattle.litmus_syntax.specs.Tree as tree
use Rattle.litmus_syntax.specs.declared.statement.Call.{Call}
use Rattle.litmus_syntax.specs.declared.statement.Call.TheVariants as calls
use Rattle.slot_table.specs.declared.records.Record.{Record}
use Rattle.program_order.proofs.text_bounds.Counts.{Bounds, block_grows}
use Rattle.program_order.proofs.text_bounds.Statements.{assignment_weight, call_weight, expression_weight}
use Rattle.program_order.proofs.text_bounds.Weights.{Weighs, none_or_none, one, weight_first}
use Rattle.program_order.proofs.MeaningLemmas.{by_block}
use Rattle.program_order.specs.Standing.{Setting, Standing, moments}
use Rattle.program_order.specs.WrittenOrder.{StepsOfBlock}

-- a mark of this sort
abbrev is_mark : (Mark → Bool) → Happening → Bool
is_mark sort (Begin a) = false
is_mark sort (End a) = false
is_mark sort (Read bytes value) = false
is_mark sort (Write bytes value) = false
is_mark sort (Lock lock) = false
is_mark sort (Unlock lock) = false
is_mark sort (happenings.Mark m) = sort m

-- it raises a count where the text says so
abbrev Raises : (Mark → Bool) → Type 0
Raises sort = (m : Mark) → (if sort m then 1 else 0) ≤ mark_rises m

disables_raise : Raises is_disable
disables_raise Disable = le_refl 1
disables_raise Enable = le_refl 0
disables_raise NestOpen = omega arith
disables_raise NestClose = le_refl 0
disables_raise FlatBegin = le_refl 0
disables_raise FlatEnd = le_refl 0
disables_raise (Next count) = le_refl 0

nest_opens_raise : Raises is_nest_open
nest_opens_raise Disable = omega arith
nest_opens_raise Enable = le_refl 0
nest_opens_raise NestOpen = le_refl 1
nest_opens_raise NestClose = le_refl 0
nest_opens_raise FlatBegin = le_refl 0
nest_opens_raise FlatEnd = le_refl 0
nest_opens_raise (Next count) = le_refl 0

mark_weighs : (sort : Mark → Bool) → Raises sort → Weighs (is_mark sort) (λ site. 0) mark_rises
mark_weighs sort raises = record {
  begins = λ a plain. le_refl 0;
  ends = λ a plain. refl;
  reads = λ bytes value. refl;
  writes = λ bytes value. refl;
  locks = λ lock. refl;
  unlocks = λ lock. refl;
  marks = raises;
  enables = refl;
  nexts = refl;
}

-- what the text says is no less than what its parts do
loading_same : (e : Loading) → (load_in e).data_races ≡ loading_rises e
loading_same (tree.load l) = refl
loading_same (tree.unary_of op e) = loading_same e
loading_same (tree.left op a b) = loading_same a
loading_same (tree.right op a b) = loading_same b

expression_within : (site : ℕ) (e : Expression) → expression_weight site e (λ site. 0) mark_rises ≤ expression_rises e
expression_within site (tree.pure e) = le_refl 0
expression_within site (tree.loading e) = let same = loading_same e in omega (arith, same)

assignment_within : (site : ℕ) (a : Assignment) → assignment_weight site a (λ site. 0) mark_rises ≤ assignment_rises a
assignment_within site (tree.to_register r e) = expression_within site e
assignment_within site (tree.write form x e) = le_refl 0
assignment_within site (tree.add x e) = le_refl 0
assignment_within site (tree.increment x) = le_refl 0
assignment_within site (tree.atomic_add e x) = le_refl 0
assignment_within site (tree.atomic_increment x) = le_refl 0
assignment_within site (tree.atomic_decrement x) = le_refl 0

call_within : (site : ℕ) (c : Call) → call_weight site c (λ site. 0) mark_rises ≤ call_rises c
call_within site (calls.Barrier b) = le_refl 0
call_within site (calls.Lock l) = le_refl 0
call_within site (calls.Unlock l) = le_refl 0
call_within site (calls.AssertWriter x scoped) = le_refl 0
call_within site (calls.AssertAccess x scoped) = le_refl 0
call_within site (calls.AssertBits x mask) = le_refl 0
call_within site (calls.Mark m) = le_refl (mark_rises m)
call_within site (calls.Check is_write x size) = none_or_none (size == 0)

rises_bound : Bounds (λ site. 0) mark_rises (λ site statement. statement_rises statement) (λ site body. block_rises body)
rises_bound = record {
  loads = λ site l. omega arith;
  assigns = λ site data_race a. let most = assignment_within site a in omega (arith, most);
  calls = λ site c. call_within site c;
  ifs = λ site e body. let most = expression_within site e in omega (arith, most);
  if_elses = λ site e body otherwise. let most = expression_within site e in omega (arith, most);
  turns = λ site r turns body. le_refl (turns * block_rises body);
  firsts = λ site first rest. le_refl (statement_rises first + block_rises rest);
}

-- the marks of a task are those of what it did
module _ (sort : Mark → Bool) where
  one_mark : (happening : Happening) (others : List Mark)
      → count_by sort (mark_before true happening others) ≡ one (is_mark sort) happening + count_by sort others
  one_mark (Begin a) others = omega arith
  one_mark (End a) others = omega arith
  one_mark (Read bytes value) others = omega arith
  one_mark (Write bytes value) others = omega arith
  one_mark (Lock lock) others = omega arith
  one_mark (Unlock lock) others = omega arith
  one_mark (happenings.Mark m) others = sum_by-cons (λ (each : Mark). if sort each then 1 else 0) m others

  marks_counted : (task : ℕ) (did : List Happening)
      → count_by sort (marks_of task (map (λ happening. record { task = task; happening = happening }) did)) ≡ count_by (is_mark sort) did
  marks_counted task [] = refl
  marks_counted task (first ∷ later) =
      let others = marks_counted task later in
      let own = one_mark first (marks_of task (map (λ happening. record { task = task; happening = happening }) later)) in
      let parts = weight_first (is_mark sort) first later in
      rw (eq-eqb task task refl) (omega (arith, others, own, parts))

  pub marks_grow : Raises sort → (s : Setting) (site : ℕ) (body : Block) (before : Standing) (records : List Record) (end : Standing) (rest : List Record)
      → StepsOfBlock s site body before records end rest
      → count_by sort (marks_of s.text.task (moments s end)) ≤ count_by sort (marks_of s.text.task (moments s before)) + block_rises body
  marks_grow raises s site body before records end rest steps =
      let first = marks_counted s.text.task before.progress.did in
      let last = marks_counted s.text.task end.progress.did in
      let grows = block_grows s.text (is_mark sort) (λ at. 0) mark_rises (mark_weighs sort raises) (λ a. le_refl 0) (λ a. refl)
      (λ at statement. statement_rises statement) (λ at block. block_rises block) rises_bound body site before.progress end.progress
      (by_block s site body before records end rest steps) in
      omega (arith, first, last, grows)

pub disables_grow : (s : Setting) (site : ℕ) (body : Block) (before : Standing) (records : List Record) (end : Standing) (rest : List Record)
    → StepsOfBlock s site body before records end rest
    → count_by is_disable (marks_of s.text.task (moments s end)) ≤ count_by is_disable (marks_of s.text.task (moments s before)) + block_rises body
disables_grow s site body before records end rest steps = marks_grow is_disable disables_raise s site body before records end rest steps

pub nest_opens_grow : (s : Setting) (site : ℕ) (body : Block) (before : Standing) (records : List Record) (end : Standing) (rest : List Record)
    → StepsOfBlock s site body before records end rest
    → count_by is_nest_open (marks_of s.text.task (moments s end)) ≤ count_by is_nest_open (marks_of s.text.task (moments s before)) + block_rises body
nest_opens_grow s site body before records end rest steps = marks_grow is_nest_open nest_opens_raise s site body before records end rest steps
