-- Names of registers still differ, and are no more than may be, behind what is spelled.
use Rattle.std.proofs.Common.{ℕ, ◌≤◌, List, [], ◌∷◌, Option, length, arith, length-append}
use Rattle.litmus_syntax.specs.Tree as tree
use Rattle.litmus_lex.specs.Words.{Symbol}
use Rattle.litmus_expression.specs.Expressions as grammar
use Rattle.litmus_expression.specs.Expressions.{Expression, Level, Load, Operand, Pure}
use Rattle.litmus_expression.specs.Followed.{Differ}
use Rattle.litmus_expression.specs.Names.{Names, Numbered, Parameter, known, new}
use Rattle.litmus_expression.proofs.Named.{differ_more}
use Rattle.litmus_body.specs.Statements as statements
use Rattle.litmus_body.specs.Statements.{Body, Declared, Enclosable, Simple, Statement, Statements}

pub record Named (names : Names) : Type 0 where
  pub differ : Differ names
  pub few : length names ≤ 32

pub numbered_named : (name : List ℕ) (register : ℕ) (before later : Names) → Named before → Numbered 32 before name register later → Named later
numbered_named name register before later named (known there) = named
numbered_named name register before later named (new out lt) = record {
  differ = differ_more before name named.differ out;
  few = omega (arith, lt, length-append before (name ∷ []));
}

mutual
  level_named : {P : List Parameter} {k d : ℕ} {before later : Names} {symbols rest : List Symbol} {e : tree.Expression} → Named before
      → Level P k d before symbols e rest later → Named later
  level_named named (grammar.operand o) = operand_named named o
  level_named named (grammar.prefixed op l a) = level_named named l
  level_named named (grammar.stronger l) = level_named named l
  level_named named (grammar.infixed op is l r c) = level_named (level_named named l) r

  operand_named : {P : List Parameter} {d : ℕ} {before later : Names} {symbols rest : List Symbol} {e : tree.Expression} → Named before
      → Operand P d before symbols e rest later → Named later
  operand_named named grammar.a_number = named
  operand_named named (grammar.a_register r) = numbered_named _ _ _ _ named r.numbered
  operand_named named (grammar.a_load l) = load_named named l
  operand_named named (grammar.parenthesized lt l) = level_named named l

  load_named : {P : List Parameter} {d : ℕ} {before later : Names} {symbols rest : List Symbol} {l : tree.Load} → Named before
      → Load P d before symbols l rest later → Named later
  load_named named (grammar.plain v) = named
  load_named named (grammar.once v) = named
  load_named named (grammar.acquire v) = named
  load_named named (grammar.atomic v) = named
  load_named named (grammar.exchange v p) = pure_named named p
  load_named named (grammar.compare_exchange v p q) = pure_named (pure_named named p) q
  load_named named (grammar.enclosed l) = load_named named l

  pure_named : {P : List Parameter} {d : ℕ} {before later : Names} {symbols rest : List Symbol} {a : tree.Pure} → Named before
      → Pure P d before symbols a rest later → Named later
  pure_named named (grammar.whole l le) = level_named named l

pub expression_named : {P : List Parameter} {d : ℕ} {before later : Names} {symbols rest : List Symbol} {e : tree.Expression} → Named before
    → Expression P d before symbols e rest later → Named later
expression_named named e = level_named named e.level

pub simple_named : {P : List Parameter} {d : ℕ} {counters : List ℕ} {before later : Names} {symbols rest : List Symbol} {x : Enclosable} → Named before
    → Simple P d counters before symbols x rest later → Named later
simple_named named (statements.to_register is value) = expression_named (numbered_named _ _ _ _ named is.is.numbered) value
simple_named named (statements.a_load l) = load_named named l
simple_named named (statements.write is value) = pure_named named value
simple_named named (statements.add is value) = pure_named named value
simple_named named (statements.increment is) = named
simple_named named (statements.write_once is value) = pure_named named value
simple_named named (statements.release is value) = pure_named named value
simple_named named (statements.atomic_set is value) = pure_named named value
simple_named named (statements.atomic_add value is) = pure_named named value
simple_named named (statements.atomic_increment is) = named
simple_named named (statements.atomic_decrement is) = named

pub declared_named : {P : List Parameter} {counters : List ℕ} {before later : Names} {symbols rest : List Symbol} → Named before
    → Declared P counters before symbols rest later → Named later
declared_named named (statements.last is) = numbered_named _ _ _ _ named is.is.numbered
declared_named named (statements.more is later) = declared_named (numbered_named _ _ _ _ named is.is.numbered) later

mutual
  pub statement_named : {P : List Parameter} {d : ℕ} {counters : List ℕ} {before later : Names} {symbols rest : List Symbol} {x : Option tree.Statement}
      → Named before → Statement P d counters before symbols x rest later → Named later
  statement_named named statements.nothing = named
  statement_named named (statements.declaration integer d) = declared_named named d
  statement_named named (statements.given integer is value) = expression_named (numbered_named _ _ _ _ named is.is.numbered) value
  statement_named named (statements.simple none x) = simple_named named x
  statement_named named (statements.data_race x) = simple_named named x
  statement_named named (statements.a_call c) = named
  statement_named named (statements.if_alone condition body none) = body_named (expression_named named condition) body
  statement_named named (statements.if_else condition body otherwise) = body_named (body_named (expression_named named condition) body) otherwise
  statement_named named (statements.for_turns is body) = body_named (numbered_named _ _ _ _ named is.is.numbered) body

  pub body_named : {P : List Parameter} {d : ℕ} {counters : List ℕ} {before later : Names} {symbols rest : List Symbol} {b : tree.Block}
      → Named before → Body P d counters before symbols b rest later → Named later
  body_named named (statements.braces lt inside) = statements_named named inside
  body_named named (statements.one lt inside) = statement_named named inside

  pub statements_named : {P : List Parameter} {d : ℕ} {counters : List ℕ} {before later : Names} {symbols rest : List Symbol} {b : tree.Block}
      → Named before → Statements P d counters before symbols b rest later → Named later
  statements_named named statements.end = named
  statements_named named (statements.next s later) = statements_named (statement_named named s) later
