-- In what is spelled each register is one of those that are named in the end, and each variable is of the sort that its
-- place takes.
use Rattle.std.proofs.Common.{◌<◌, ◌≤◌, ℕ, List, [], ◌∷◌, Option, Some, None, length, arith}
use Rattle.std.proofs.lemmas.List.{length-append}
use Rattle.std.proofs.lemmas.Option.{slice_get_within}
use Rattle.litmus_syntax.specs.declared.expression.BinaryOperator.{BinaryOperator}
use Rattle.litmus_syntax.specs.declared.expression.UnaryOperator.{UnaryOperator}
use Rattle.litmus_syntax.specs.declared.statement.Call.{Call}
use Rattle.litmus_syntax.specs.Limits as limits
use Rattle.litmus_syntax.specs.Limits.{AssignmentTyped, BlockTyped, CallTyped, ExpressionTyped, FetchTyped, PureTyped, Sort, StatementTyped}
use Rattle.litmus_syntax.specs.Tree as tree
use Rattle.litmus_lex.specs.Words.{Symbol}
use Rattle.litmus_expression.specs.Expressions as grammar
use Rattle.litmus_expression.specs.Expressions.{Applied, Combined, Expression, Level, Load, Operand, Pure}
use Rattle.litmus_expression.specs.Names.{HasBytes, IsAtomic, IsInteger, IsLock, IsVariable, Names, Numbered, Parameter, known, new}
use Rattle.litmus_body.specs.Statements as statements
use Rattle.litmus_body.specs.Statements.{Body, Calls, Declared, Enclosable, Simple, Statement, Statements, alone, kept, raced}

-- ---- registers only grow

pub numbered_grow : {limit number : ℕ} {name : List ℕ} {before later : Names} → Numbered limit before name number later
    → length before ≤ length later
numbered_grow (known there) = omega arith
numbered_grow {name = name} {before = before} (new out lt) = let n = length-append before (name ∷ []) in omega (arith, n)

numbered_below : {limit number : ℕ} {name : List ℕ} {before later : Names} → Numbered limit before name number later → number < length later
numbered_below {number = number} {name = name} {before = before} (known there) = slice_get_within before number name there
numbered_below {name = name} {before = before} (new out lt) = let n = length-append before (name ∷ []) in omega (arith, n)

mutual
  level_grows : {P : List Parameter} {k d : ℕ} {before later : Names} {symbols rest : List Symbol} {e : tree.Expression}
      → Level P k d before symbols e rest later → length before ≤ length later
  level_grows (grammar.operand o) = operand_grows o
  level_grows (grammar.prefixed op l a) = level_grows l
  level_grows (grammar.stronger l) = level_grows l
  level_grows (grammar.infixed op is l r both) = let one = level_grows l in let two = level_grows r in omega arith

  operand_grows : {P : List Parameter} {d : ℕ} {before later : Names} {symbols rest : List Symbol} {e : tree.Expression}
      → Operand P d before symbols e rest later → length before ≤ length later
  operand_grows grammar.a_number = omega arith
  operand_grows (grammar.a_register r) = numbered_grow r.numbered
  operand_grows (grammar.a_load l) = load_grows l
  operand_grows (grammar.parenthesized lt l) = level_grows l

  load_grows : {P : List Parameter} {d : ℕ} {before later : Names} {symbols rest : List Symbol} {l : tree.Load}
      → Load P d before symbols l rest later → length before ≤ length later
  load_grows (grammar.plain v) = omega arith
  load_grows (grammar.once v) = omega arith
  load_grows (grammar.acquire v) = omega arith
  load_grows (grammar.atomic v) = omega arith
  load_grows (grammar.exchange v p) = pure_grows p
  load_grows (grammar.compare_exchange v p q) = let one = pure_grows p in let two = pure_grows q in omega arith
  load_grows (grammar.enclosed l) = load_grows l

  pure_grows : {P : List Parameter} {d : ℕ} {before later : Names} {symbols rest : List Symbol} {a : tree.Pure}
      → Pure P d before symbols a rest later → length before ≤ length later
  pure_grows (grammar.whole l le) = level_grows l

simple_grows : {P : List Parameter} {d : ℕ} {counters : List ℕ} {before later : Names} {symbols rest : List Symbol} {x : Enclosable}
    → Simple P d counters before symbols x rest later → length before ≤ length later
simple_grows (statements.to_register is value) = let one = numbered_grow is.is.numbered in let two = level_grows value.level in omega arith
simple_grows (statements.a_load l) = load_grows l
simple_grows (statements.write is value) = pure_grows value
simple_grows (statements.add is value) = pure_grows value
simple_grows (statements.increment is) = omega arith
simple_grows (statements.write_once is value) = pure_grows value
simple_grows (statements.release is value) = pure_grows value
simple_grows (statements.atomic_set is value) = pure_grows value
simple_grows (statements.atomic_add value is) = pure_grows value
simple_grows (statements.atomic_increment is) = omega arith
simple_grows (statements.atomic_decrement is) = omega arith

declared_grows : {P : List Parameter} {counters : List ℕ} {before later : Names} {symbols rest : List Symbol}
    → Declared P counters before symbols rest later → length before ≤ length later
declared_grows (statements.last is) = numbered_grow is.is.numbered
declared_grows (statements.more is later) = let one = numbered_grow is.is.numbered in let two = declared_grows later in omega arith

mutual
  statement_grows : {P : List Parameter} {d : ℕ} {counters : List ℕ} {before later : Names} {symbols rest : List Symbol} {x : Option tree.Statement}
      → Statement P d counters before symbols x rest later → length before ≤ length later
  statement_grows statements.nothing = omega arith
  statement_grows (statements.declaration integer d) = declared_grows d
  statement_grows (statements.given integer is value) =
      let one = numbered_grow is.is.numbered in let two = level_grows value.level in omega arith
  statement_grows (statements.simple none x) = simple_grows x
  statement_grows (statements.data_race x) = simple_grows x
  statement_grows (statements.a_call c) = omega arith
  statement_grows (statements.if_alone condition body none) =
      let one = level_grows condition.level in let two = body_grows body in omega arith
  statement_grows (statements.if_else condition body otherwise) =
      let one = level_grows condition.level in
      let two = body_grows body in
      let three = body_grows otherwise in
      omega arith
  statement_grows (statements.for_turns is body) = let one = numbered_grow is.is.numbered in let two = body_grows body in omega arith

  body_grows : {P : List Parameter} {d : ℕ} {counters : List ℕ} {before later : Names} {symbols rest : List Symbol} {b : tree.Block}
      → Body P d counters before symbols b rest later → length before ≤ length later
  body_grows (statements.braces lt inside) = statements_grow inside
  body_grows (statements.one lt inside) = statement_grows inside

  statements_grow : {P : List Parameter} {d : ℕ} {counters : List ℕ} {before later : Names} {symbols rest : List Symbol} {b : tree.Block}
      → Statements P d counters before symbols b rest later → length before ≤ length later
  statements_grow statements.end = omega arith
  statements_grow (statements.next s later) = let one = statement_grows s in let two = statements_grow later in omega arith

-- ---- what is named is of its sort

-- the variables of parameters have the sorts that their types say
pub record Sorted (P : List Parameter) (Has : Sort → ℕ → Type 0) : Type 0 where
  pub integers : (name : List ℕ) (v : ℕ) → IsVariable P IsInteger name v → Has limits.integers v
  pub atomics : (name : List ℕ) (v : ℕ) → IsVariable P IsAtomic name v → Has limits.atomics v
  pub locks : (name : List ℕ) (v : ℕ) → IsVariable P IsLock name v → Has limits.locks v
  pub memory : (name : List ℕ) (v : ℕ) → IsVariable P HasBytes name v → Has limits.memory v

module _ (P : List Parameter) (Has : Sort → ℕ → Type 0) (sorted : Sorted P Has) (n : ℕ) where
  applied_typed : (op : UnaryOperator) (e f : tree.Expression) → Applied op e f → ExpressionTyped Has n e → ExpressionTyped Has n f
  applied_typed op e f grammar.to_pure t = t
  applied_typed op e f grammar.to_loading t = t

  combined_typed : (op : BinaryOperator) (a b c : tree.Expression) → Combined op a b c → ExpressionTyped Has n a → ExpressionTyped Has n b
      → ExpressionTyped Has n c
  combined_typed op a b c grammar.none t u = (t, u)
  combined_typed op a b c grammar.left t u = (t, u)
  combined_typed op a b c grammar.right t u = (t, u)

  mutual
    level_typed : {k d : ℕ} {before later : Names} {symbols rest : List Symbol} {e : tree.Expression}
        → Level P k d before symbols e rest later → length later ≤ n → ExpressionTyped Has n e
    level_typed (grammar.operand o) le = operand_typed o le
    level_typed (grammar.prefixed {e = e} {f = f} op l a) le = applied_typed op e f a (level_typed l le)
    level_typed (grammar.stronger l) le = level_typed l le
    level_typed (grammar.infixed {a = a} {b = b} {c = c} op is l r both) le =
        let more = level_grows r in
        combined_typed op a b c both (level_typed l (omega arith)) (level_typed r le)

    operand_typed : {d : ℕ} {before later : Names} {symbols rest : List Symbol} {e : tree.Expression}
        → Operand P d before symbols e rest later → length later ≤ n → ExpressionTyped Has n e
    operand_typed grammar.a_number le = tt
    operand_typed (grammar.a_register r) le = let lt = numbered_below r.numbered in omega arith
    operand_typed (grammar.a_load l) le = load_typed l le
    operand_typed (grammar.parenthesized lt l) le = level_typed l le

    load_typed : {d : ℕ} {before later : Names} {symbols rest : List Symbol} {l : tree.Load}
        → Load P d before symbols l rest later → length later ≤ n → FetchTyped Has n l.fetch
    load_typed (grammar.plain v) le = sorted.integers _ _ v
    load_typed (grammar.once v) le = sorted.integers _ _ v
    load_typed (grammar.acquire v) le = sorted.integers _ _ v
    load_typed (grammar.atomic v) le = sorted.atomics _ _ v
    load_typed (grammar.exchange v p) le = (sorted.integers _ _ v, pure_typed p le)
    load_typed (grammar.compare_exchange v p q) le =
        let more = pure_grows q in
        (sorted.integers _ _ v, (pure_typed p (omega arith), pure_typed q le))
    load_typed (grammar.enclosed l) le = load_typed l le

    pure_typed : {d : ℕ} {before later : Names} {symbols rest : List Symbol} {a : tree.Pure}
        → Pure P d before symbols a rest later → length later ≤ n → PureTyped Has n a
    pure_typed (grammar.whole l le) few = level_typed l few

  abbrev EnclosableTyped : Enclosable → Type 0
  EnclosableTyped (statements.load l) = FetchTyped Has n l.fetch
  EnclosableTyped (statements.assignment a) = AssignmentTyped Has n a

  alone_typed : (x : Enclosable) → EnclosableTyped x → StatementTyped Has n (alone x)
  alone_typed (statements.load l) t = t
  alone_typed (statements.assignment a) t = t

  raced_typed : (x : Enclosable) → EnclosableTyped x → StatementTyped Has n (raced x)
  raced_typed (statements.load l) t = t
  raced_typed (statements.assignment a) t = t

  simple_typed : {d : ℕ} {counters : List ℕ} {before later : Names} {symbols rest : List Symbol} {x : Enclosable}
      → Simple P d counters before symbols x rest later → length later ≤ n → EnclosableTyped x
  simple_typed (statements.to_register is value) le =
      let lt = numbered_below is.is.numbered in
      let more = level_grows value.level in
      (omega arith, level_typed value.level le)
  simple_typed (statements.a_load l) le = load_typed l le
  simple_typed (statements.write is value) le = (sorted.integers _ _ is, pure_typed value le)
  simple_typed (statements.add is value) le = (sorted.integers _ _ is, pure_typed value le)
  simple_typed (statements.increment is) le = sorted.integers _ _ is
  simple_typed (statements.write_once is value) le = (sorted.integers _ _ is, pure_typed value le)
  simple_typed (statements.release is value) le = (sorted.integers _ _ is, pure_typed value le)
  simple_typed (statements.atomic_set is value) le = (sorted.atomics _ _ is, pure_typed value le)
  simple_typed (statements.atomic_add value is) le = (pure_typed value le, sorted.atomics _ _ is)
  simple_typed (statements.atomic_increment is) le = sorted.atomics _ _ is
  simple_typed (statements.atomic_decrement is) le = sorted.atomics _ _ is

  call_typed : {symbols rest : List Symbol} {c : Call} → Calls P symbols c rest → CallTyped Has n c
  call_typed (statements.barrier b) = tt
  call_typed (statements.lock v) = sorted.locks _ _ v
  call_typed (statements.unlock v) = sorted.locks _ _ v
  call_typed (statements.assert_writer scoped v) = sorted.memory _ _ v
  call_typed (statements.assert_access scoped v) = sorted.memory _ _ v
  call_typed (statements.assert_bits v) = sorted.memory _ _ v
  call_typed (statements.mark m plain) = tt
  call_typed statements.atomic_next = tt
  call_typed (statements.check write v le) = (sorted.memory _ _ v, le)

  abbrev KeptTyped : Option tree.Statement → Type 0
  KeptTyped None = Unit {0}
  KeptTyped (Some s) = StatementTyped Has n s

  kept_typed : (x : Option tree.Statement) (b : tree.Block) → KeptTyped x → BlockTyped Has n b → BlockTyped Has n (kept x b)
  kept_typed None b t u = u
  kept_typed (Some s) b t u = (t, u)

  mutual
    statement_typed : {d : ℕ} {counters : List ℕ} {before later : Names} {symbols rest : List Symbol} {x : Option tree.Statement}
        → Statement P d counters before symbols x rest later → length later ≤ n → KeptTyped x
    statement_typed statements.nothing le = tt
    statement_typed (statements.declaration integer d) le = tt
    statement_typed (statements.given integer is value) le =
        let lt = numbered_below is.is.numbered in
        let more = level_grows value.level in
        (omega arith, level_typed value.level le)
    statement_typed (statements.simple {s = s} none x) le = alone_typed s (simple_typed x le)
    statement_typed (statements.data_race {s = s} x) le = raced_typed s (simple_typed x le)
    statement_typed (statements.a_call c) le = call_typed c
    statement_typed (statements.if_alone condition body none) le =
        let more = body_grows body in
        (level_typed condition.level (omega arith), body_typed body le)
    statement_typed (statements.if_else condition body otherwise) le =
        let more = body_grows body in
        let yet_more = body_grows otherwise in
        (level_typed condition.level (omega arith), (body_typed body (omega arith), body_typed otherwise le))
    statement_typed (statements.for_turns is body) le =
        let lt = numbered_below is.is.numbered in
        let more = body_grows body in
        (omega arith, body_typed body le)

    body_typed : {d : ℕ} {counters : List ℕ} {before later : Names} {symbols rest : List Symbol} {b : tree.Block}
        → Body P d counters before symbols b rest later → length later ≤ n → BlockTyped Has n b
    body_typed (statements.braces lt inside) le = statements_typed inside le
    body_typed (statements.one {s = x} lt inside) le = kept_typed x tree.empty (statement_typed inside le) tt

    pub statements_typed : {d : ℕ} {counters : List ℕ} {before later : Names} {symbols rest : List Symbol} {b : tree.Block}
        → Statements P d counters before symbols b rest later → length later ≤ n → BlockTyped Has n b
    statements_typed statements.end le = tt
    statements_typed (statements.next {s = x} {block = b} s later) le =
        let more = statements_grow later in
        kept_typed x b (statement_typed s (omega arith)) (statements_typed later le)
