-- Names of registers are no parameters' behind what is spelled.
use Rattle.std.proofs.Common.{ℕ, List, [], ◌∷◌, Option, subst}
use Rattle.std.specs.Prelude.{Contains}
use Rattle.litmus_syntax.specs.Tree as tree
use Rattle.litmus_lex.specs.Words.{Symbol}
use Rattle.litmus_expression.specs.Expressions as grammar
use Rattle.litmus_expression.specs.Expressions.{Level, Load, Operand, Pure}
use Rattle.litmus_expression.specs.Names.{IsFree, IsRegister, Names, Numbered, Parameter, known, new}
use Rattle.litmus_expression.proofs.Named.{among, in_none}
use Rattle.litmus_body.specs.Statements as statements
use Rattle.litmus_body.specs.Statements.{Body, Declared, Enclosable, Simple, Statement, Statements}
use Rattle.print_roundtrip.proofs.printed_texts.Declarations.{split}

-- names that are no parameters' are joined by none that is one's
pub record Frees (P : List Parameter) (before later : Names) : Type 0 where
  pub free : ((m : List ℕ) → Contains before m → IsFree P m) → (m : List ℕ) → Contains later m → IsFree P m

numbered_frees : (P : List Parameter) {limit number : ℕ} {name : List ℕ} {before later : Names} → IsFree P name
    → Numbered limit before name number later → Frees P before later
numbered_frees P is (known there) = record { free = λ free. free }
numbered_frees P {name = name} {before = before} is (new out lt) = record {
  free = λ free m at. split before (name ∷ []) m (IsFree P m) at (λ first. free m first)
      (λ last. among name m [] (IsFree P m) last (λ same. subst (λ (n : List ℕ). IsFree P n) same is) (λ never. absurd (in_none m never)));
}

register_frees : {P : List Parameter} {number : ℕ} {name : List ℕ} {before later : Names} → IsRegister P before name number later
    → Frees P before later
register_frees {P} is = numbered_frees P is.free is.numbered

same : {P : List Parameter} {names : Names} → Frees P names names
same = record { free = λ free. free }

then : {P : List Parameter} {before between later : Names} → Frees P before between → Frees P between later → Frees P before later
then one two = record { free = λ free. two.free (one.free free) }

mutual
  pub level_frees : {P : List Parameter} {k d : ℕ} {before later : Names} {symbols rest : List Symbol} {e : tree.Expression}
      → Level P k d before symbols e rest later → Frees P before later
  level_frees (grammar.operand o) = operand_frees o
  level_frees (grammar.prefixed op l a) = level_frees l
  level_frees (grammar.stronger l) = level_frees l
  level_frees (grammar.infixed op is l r both) = then (level_frees l) (level_frees r)

  operand_frees : {P : List Parameter} {d : ℕ} {before later : Names} {symbols rest : List Symbol} {e : tree.Expression}
      → Operand P d before symbols e rest later → Frees P before later
  operand_frees grammar.a_number = same
  operand_frees (grammar.a_register r) = register_frees r
  operand_frees (grammar.a_load l) = load_frees l
  operand_frees (grammar.parenthesized lt l) = level_frees l

  pub load_frees : {P : List Parameter} {d : ℕ} {before later : Names} {symbols rest : List Symbol} {l : tree.Load}
      → Load P d before symbols l rest later → Frees P before later
  load_frees (grammar.plain v) = same
  load_frees (grammar.once v) = same
  load_frees (grammar.acquire v) = same
  load_frees (grammar.atomic v) = same
  load_frees (grammar.exchange v p) = pure_frees p
  load_frees (grammar.compare_exchange v p q) = then (pure_frees p) (pure_frees q)
  load_frees (grammar.enclosed l) = load_frees l

  pub pure_frees : {P : List Parameter} {d : ℕ} {before later : Names} {symbols rest : List Symbol} {a : tree.Pure}
      → Pure P d before symbols a rest later → Frees P before later
  pure_frees (grammar.whole l le) = level_frees l

pub simple_frees : {P : List Parameter} {d : ℕ} {counters : List ℕ} {before later : Names} {symbols rest : List Symbol} {x : Enclosable}
    → Simple P d counters before symbols x rest later → Frees P before later
simple_frees (statements.to_register is value) = then (register_frees is.is) (level_frees value.level)
simple_frees (statements.a_load l) = load_frees l
simple_frees (statements.write is value) = pure_frees value
simple_frees (statements.add is value) = pure_frees value
simple_frees (statements.increment is) = same
simple_frees (statements.write_once is value) = pure_frees value
simple_frees (statements.release is value) = pure_frees value
simple_frees (statements.atomic_set is value) = pure_frees value
simple_frees (statements.atomic_add value is) = pure_frees value
simple_frees (statements.atomic_increment is) = same
simple_frees (statements.atomic_decrement is) = same

declared_frees : {P : List Parameter} {counters : List ℕ} {before later : Names} {symbols rest : List Symbol}
    → Declared P counters before symbols rest later → Frees P before later
declared_frees (statements.last is) = register_frees is.is
declared_frees (statements.more is later) = then (register_frees is.is) (declared_frees later)

mutual
  pub statement_frees : {P : List Parameter} {d : ℕ} {counters : List ℕ} {before later : Names} {symbols rest : List Symbol}
      {x : Option tree.Statement} → Statement P d counters before symbols x rest later → Frees P before later
  statement_frees statements.nothing = same
  statement_frees (statements.declaration integer d) = declared_frees d
  statement_frees (statements.given integer is value) = then (register_frees is.is) (level_frees value.level)
  statement_frees (statements.simple none x) = simple_frees x
  statement_frees (statements.data_race x) = simple_frees x
  statement_frees (statements.a_call c) = same
  statement_frees (statements.if_alone condition body none) = then (level_frees condition.level) (body_frees body)
  statement_frees (statements.if_else condition body otherwise) =
      then (then (level_frees condition.level) (body_frees body)) (body_frees otherwise)
  statement_frees (statements.for_turns is body) = then (register_frees is.is) (body_frees body)

  pub body_frees : {P : List Parameter} {d : ℕ} {counters : List ℕ} {before later : Names} {symbols rest : List Symbol} {b : tree.Block}
      → Body P d counters before symbols b rest later → Frees P before later
  body_frees (statements.braces lt inside) = statements_free inside
  body_frees (statements.one lt inside) = statement_frees inside

  pub statements_free : {P : List Parameter} {d : ℕ} {counters : List ℕ} {before later : Names} {symbols rest : List Symbol} {b : tree.Block}
      → Statements P d counters before symbols b rest later → Frees P before later
  statements_free statements.end = same
  statements_free (statements.next s later) = then (statement_frees s) (statements_free later)
