-- Names of registers keep their numbers behind what is spelled.
use Rattle.std.proofs.Common.{◌≡◌, ℕ, List, Option, Some}
use Rattle.std.specs.Prelude.{slice_get}
use Rattle.litmus_syntax.specs.Tree as tree
use Rattle.litmus_lex.specs.Words.{Symbol}
use Rattle.litmus_expression.specs.Expressions as grammar
use Rattle.litmus_expression.specs.Expressions.{Level, Load, Operand, Pure}
use Rattle.litmus_expression.specs.Names.{Names, Numbered, Parameter}
use Rattle.litmus_body.specs.Statements as statements
use Rattle.litmus_body.specs.Statements.{Body, Declared, Enclosable, Simple, Statement, Statements}
use Rattle.litmus_parse.proofs.Becomes.{numbered_grown}

-- each number has the name that it had
pub record Grown (before later : Names) : Type 0 where
  pub keeps : (k : ℕ) (x : List ℕ) → slice_get before k ≡ Some x → slice_get later k ≡ Some x

pub numbered_grows : {limit number : ℕ} {name : List ℕ} {before later : Names} → Numbered limit before name number later
    → Grown before later
numbered_grows n = record { keeps = numbered_grown n }

pub same : {names : Names} → Grown names names
same = record { keeps = λ k x is. is }

pub then : {before between later : Names} → Grown before between → Grown between later → Grown before later
then one two = record { keeps = λ k x is. two.keeps k x (one.keeps k x is) }

mutual
  pub level_grows : {P : List Parameter} {k d : ℕ} {before later : Names} {symbols rest : List Symbol} {e : tree.Expression}
      → Level P k d before symbols e rest later → Grown before later
  level_grows (grammar.operand o) = operand_grows o
  level_grows (grammar.prefixed op l a) = level_grows l
  level_grows (grammar.stronger l) = level_grows l
  level_grows (grammar.infixed op is l r both) = then (level_grows l) (level_grows r)

  operand_grows : {P : List Parameter} {d : ℕ} {before later : Names} {symbols rest : List Symbol} {e : tree.Expression}
      → Operand P d before symbols e rest later → Grown before later
  operand_grows grammar.a_number = same
  operand_grows (grammar.a_register r) = numbered_grows r.numbered
  operand_grows (grammar.a_load l) = load_grows l
  operand_grows (grammar.parenthesized lt l) = level_grows l

  pub load_grows : {P : List Parameter} {d : ℕ} {before later : Names} {symbols rest : List Symbol} {l : tree.Load}
      → Load P d before symbols l rest later → Grown before later
  load_grows (grammar.plain v) = same
  load_grows (grammar.once v) = same
  load_grows (grammar.acquire v) = same
  load_grows (grammar.atomic v) = same
  load_grows (grammar.exchange v p) = pure_grows p
  load_grows (grammar.compare_exchange v p q) = then (pure_grows p) (pure_grows q)
  load_grows (grammar.enclosed l) = load_grows l

  pub pure_grows : {P : List Parameter} {d : ℕ} {before later : Names} {symbols rest : List Symbol} {a : tree.Pure}
      → Pure P d before symbols a rest later → Grown before later
  pure_grows (grammar.whole l le) = level_grows l

pub simple_grows : {P : List Parameter} {d : ℕ} {counters : List ℕ} {before later : Names} {symbols rest : List Symbol} {x : Enclosable}
    → Simple P d counters before symbols x rest later → Grown before later
simple_grows (statements.to_register is value) = then (numbered_grows is.is.numbered) (level_grows value.level)
simple_grows (statements.a_load l) = load_grows l
simple_grows (statements.write is value) = pure_grows value
simple_grows (statements.add is value) = pure_grows value
simple_grows (statements.increment is) = same
simple_grows (statements.write_once is value) = pure_grows value
simple_grows (statements.release is value) = pure_grows value
simple_grows (statements.atomic_set is value) = pure_grows value
simple_grows (statements.atomic_add value is) = pure_grows value
simple_grows (statements.atomic_increment is) = same
simple_grows (statements.atomic_decrement is) = same

declared_grows : {P : List Parameter} {counters : List ℕ} {before later : Names} {symbols rest : List Symbol}
    → Declared P counters before symbols rest later → Grown before later
declared_grows (statements.last is) = numbered_grows is.is.numbered
declared_grows (statements.more is later) = then (numbered_grows is.is.numbered) (declared_grows later)

mutual
  pub statement_grows : {P : List Parameter} {d : ℕ} {counters : List ℕ} {before later : Names} {symbols rest : List Symbol}
      {x : Option tree.Statement} → Statement P d counters before symbols x rest later → Grown before later
  statement_grows statements.nothing = same
  statement_grows (statements.declaration integer d) = declared_grows d
  statement_grows (statements.given integer is value) = then (numbered_grows is.is.numbered) (level_grows value.level)
  statement_grows (statements.simple none x) = simple_grows x
  statement_grows (statements.data_race x) = simple_grows x
  statement_grows (statements.a_call c) = same
  statement_grows (statements.if_alone condition body none) = then (level_grows condition.level) (body_grows body)
  statement_grows (statements.if_else condition body otherwise) =
      then (then (level_grows condition.level) (body_grows body)) (body_grows otherwise)
  statement_grows (statements.for_turns is body) = then (numbered_grows is.is.numbered) (body_grows body)

  pub body_grows : {P : List Parameter} {d : ℕ} {counters : List ℕ} {before later : Names} {symbols rest : List Symbol} {b : tree.Block}
      → Body P d counters before symbols b rest later → Grown before later
  body_grows (statements.braces lt inside) = statements_grow inside
  body_grows (statements.one lt inside) = statement_grows inside

  pub statements_grow : {P : List Parameter} {d : ℕ} {counters : List ℕ} {before later : Names} {symbols rest : List Symbol} {b : tree.Block}
      → Statements P d counters before symbols b rest later → Grown before later
  statements_grow statements.end = same
  statements_grow (statements.next s later) = then (statement_grows s) (statements_grow later)
