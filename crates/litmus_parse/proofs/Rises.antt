-- How often counts rise in a body is bounded by the symbols that spell it: each rise takes a symbol, once for each
-- turn.
use Rattle.std.proofs.Common.{◌≡◌, ◌+◌, ◌*◌, ◌≤◌, ℕ, List, [], ◌∷◌, Option, Some, None, length, refl, sym, subst, arith}
use Rattle.std.proofs.Math.Nat.{mul_assoc, mul-le-mul_left, mul-le-mul_right}
use native.Mathlib.Nat.{mul-add}
use Rattle.access_types.specs.declared.history.Mark.{Mark}
use Rattle.access_types.specs.declared.history.Mark.TheVariants as marks
use Rattle.litmus_syntax.specs.declared.expression.BinaryOperator.{BinaryOperator}
use Rattle.litmus_syntax.specs.declared.expression.UnaryOperator.{UnaryOperator}
use Rattle.litmus_syntax.specs.declared.statement.Call.{Call}
use Rattle.litmus_syntax.specs.Limits.{BlockTurns, StatementTurns, assignment_rises, block_rises, call_rises, expression_rises, mark_rises, statement_rises}
use Rattle.litmus_syntax.specs.Tree as tree
use Rattle.litmus_lex.specs.declared.words.Word.TheVariants as words
use Rattle.litmus_lex.specs.Words.{Symbol, word}
use Rattle.litmus_expression.specs.Expressions as grammar
use Rattle.litmus_expression.specs.Expressions.{Applied, Combined, Expression, Level, Load, Operand, Pure}
use Rattle.litmus_expression.specs.Names.{Names, Parameter}
use Rattle.litmus_body.specs.Statements as statements
use Rattle.litmus_body.specs.Statements.{Body, Calls, Declared, Enclosable, Simple, Statement, Statements, alone, kept, raced}

-- ---- expressions

applied_rises : (op : UnaryOperator) (e f : tree.Expression) → Applied op e f → expression_rises f ≡ expression_rises e
applied_rises op e f grammar.to_pure = refl
applied_rises op e f grammar.to_loading = refl

combined_rises : (op : BinaryOperator) (a b c : tree.Expression) → Combined op a b c → expression_rises c ≤ expression_rises a + expression_rises b
combined_rises op a b c grammar.none = omega arith
combined_rises op a b c grammar.left = omega arith
combined_rises op a b c grammar.right = omega arith

mutual
  level_rises : {P : List Parameter} {k d : ℕ} {before later : Names} {symbols rest : List Symbol} {e : tree.Expression}
      → Level P k d before symbols e rest later → expression_rises e + length rest ≤ length symbols
  level_rises (grammar.operand o) = operand_rises o
  level_rises (grammar.prefixed {e = e} {f = f} op l a) =
      let one = level_rises l in
      let same = applied_rises op e f a in
      omega arith
  level_rises (grammar.stronger l) = level_rises l
  level_rises (grammar.infixed {a = a} {b = b} {c = c} op is l r both) =
      let one = level_rises l in
      let two = level_rises r in
      let le = combined_rises op a b c both in
      omega arith

  operand_rises : {P : List Parameter} {d : ℕ} {before later : Names} {symbols rest : List Symbol} {e : tree.Expression}
      → Operand P d before symbols e rest later → expression_rises e + length rest ≤ length symbols
  operand_rises grammar.a_number = omega arith
  operand_rises (grammar.a_register r) = omega arith
  operand_rises (grammar.a_load l) = load_rises l
  operand_rises (grammar.parenthesized lt l) = let one = level_rises l in omega arith

  load_rises : {P : List Parameter} {d : ℕ} {before later : Names} {symbols rest : List Symbol} {l : tree.Load}
      → Load P d before symbols l rest later → l.data_races + length rest ≤ length symbols
  load_rises (grammar.plain v) = omega arith
  load_rises (grammar.once v) = omega arith
  load_rises (grammar.acquire v) = omega arith
  load_rises (grammar.atomic v) = omega arith
  load_rises (grammar.exchange v p) = let one = pure_rises p in omega arith
  load_rises (grammar.compare_exchange v p q) =
      let one = pure_rises p in
      let two = pure_rises q in
      omega arith
  load_rises (grammar.enclosed l) = let one = load_rises l in omega arith

  pure_rises : {P : List Parameter} {d : ℕ} {before later : Names} {symbols rest : List Symbol} {a : tree.Pure}
      → Pure P d before symbols a rest later → length rest ≤ length symbols
  pure_rises (grammar.whole l le) = let one = level_rises l in omega arith

-- ---- simple statements

abbrev own_rises : Enclosable → ℕ
own_rises (statements.load l) = l.data_races
own_rises (statements.assignment a) = assignment_rises a

alone_rises : (x : Enclosable) → statement_rises (alone x) ≡ own_rises x
alone_rises (statements.load l) = refl
alone_rises (statements.assignment a) = omega arith

raced_rises : (x : Enclosable) → statement_rises (raced x) ≡ own_rises x + 1
raced_rises (statements.load l) = refl
raced_rises (statements.assignment a) = omega arith

simple_rises : {P : List Parameter} {d : ℕ} {counters : List ℕ} {before later : Names} {symbols rest : List Symbol} {x : Enclosable}
    → Simple P d counters before symbols x rest later → own_rises x + length rest ≤ length symbols
simple_rises (statements.to_register is value) = let one = level_rises value.level in omega arith
simple_rises (statements.a_load l) = load_rises l
simple_rises (statements.write is value) = let one = pure_rises value in omega arith
simple_rises (statements.add is value) = let one = pure_rises value in omega arith
simple_rises (statements.increment is) = omega arith
simple_rises (statements.write_once is value) = let one = pure_rises value in omega arith
simple_rises (statements.release is value) = let one = pure_rises value in omega arith
simple_rises (statements.atomic_set is value) = let one = pure_rises value in omega arith
simple_rises (statements.atomic_add value is) = let one = pure_rises value in omega arith
simple_rises (statements.atomic_increment is) = omega arith
simple_rises (statements.atomic_decrement is) = omega arith

one_mark : (m : Mark) → mark_rises m ≤ 1
one_mark marks.Disable = omega arith
one_mark marks.Enable = omega arith
one_mark marks.NestOpen = omega arith
one_mark marks.NestClose = omega arith
one_mark marks.FlatBegin = omega arith
one_mark marks.FlatEnd = omega arith
one_mark (marks.Next count) = omega arith

calls_rise : {P : List Parameter} {symbols rest : List Symbol} {c : Call} → Calls P symbols c rest → call_rises c + length rest ≤ length symbols
calls_rise (statements.barrier b) = omega arith
calls_rise (statements.lock v) = omega arith
calls_rise (statements.unlock v) = omega arith
calls_rise (statements.assert_writer scoped v) = omega arith
calls_rise (statements.assert_access scoped v) = omega arith
calls_rise (statements.assert_bits v) = omega arith
calls_rise (statements.mark m plain) = let one = one_mark m in omega arith
calls_rise statements.atomic_next = omega arith
calls_rise (statements.check write v le) = omega arith

declared_shorter : {P : List Parameter} {counters : List ℕ} {before later : Names} {symbols rest : List Symbol}
    → Declared P counters before symbols rest later → length rest ≤ length symbols
declared_shorter (statements.last is) = omega arith
declared_shorter (statements.more is later) = let one = declared_shorter later in omega arith

-- ---- statements, each in loops that repeat it so often

abbrev kept_rises : Option tree.Statement → ℕ
kept_rises None = 0
kept_rises (Some s) = statement_rises s

abbrev KeptTurns : ℕ → Option tree.Statement → Type 0
KeptTurns turns None = Unit {0}
KeptTurns turns (Some s) = StatementTurns turns s

block_kept : (x : Option tree.Statement) (b : tree.Block) → block_rises (kept x b) ≡ kept_rises x + block_rises b
block_kept None b = omega arith
block_kept (Some s) b = refl

kept_turns : (turns : ℕ) (x : Option tree.Statement) (b : tree.Block) → BlockTurns turns (kept x b) → KeptTurns turns x × BlockTurns turns b
kept_turns turns None b t = (tt, t)
kept_turns turns (Some s) b t = t

-- so many symbols at most are left behind these rises
abbrev Bounded : (turns rises : ℕ) → (symbols rest : List Symbol) → Type 0
Bounded turns rises symbols rest = turns * rises + 256 * length rest ≤ 256 * length symbols

bounded : (turns rises : ℕ) (symbols rest : List Symbol) → turns ≤ 256 → rises + length rest ≤ length symbols → Bounded turns rises symbols rest
bounded turns rises symbols rest few le =
    let one : turns * rises ≤ 256 * rises = mul-le-mul_right rises few in
    let two : 256 * (rises + length rest) ≤ 256 * length symbols = mul-le-mul_left 256 le in
    omega arith

both_parts : (turns a b : ℕ) (symbols middle rest : List Symbol) → Bounded turns a symbols middle → Bounded turns b middle rest
    → Bounded turns (a + b) symbols rest
both_parts turns a b symbols middle rest one two =
    let sum : turns * (a + b) ≡ turns * a + turns * b = mul-add turns a b in
    omega (arith, sum, one, two)

same_bound : (turns a b : ℕ) (symbols rest : List Symbol) → a ≡ b → Bounded turns a symbols rest → Bounded turns b symbols rest
same_bound turns a b symbols rest same is = subst (λ (n : ℕ). Bounded turns n symbols rest) same is

shorter : (turns a : ℕ) (symbols rest middle : List Symbol) → length rest ≤ length middle → Bounded turns a symbols middle
    → Bounded turns a symbols rest
shorter turns a symbols rest middle le is = omega (arith, le, is)

longer : (turns a : ℕ) (symbols front rest : List Symbol) → length symbols ≤ length front → Bounded turns a symbols rest
    → Bounded turns a front rest
longer turns a symbols front rest le is = omega (arith, le, is)

mutual
  statement_bounded : {P : List Parameter} {d : ℕ} {counters : List ℕ} {before later : Names} {symbols rest : List Symbol}
      {x : Option tree.Statement} → Statement P d counters before symbols x rest later → (turns : ℕ) → turns ≤ 256 → KeptTurns turns x
      → Bounded turns (kept_rises x) symbols rest
  statement_bounded {symbols = symbols} {rest = rest} statements.nothing turns few t = bounded turns 0 symbols rest few (omega arith)
  statement_bounded {symbols = symbols} {rest = rest} (statements.declaration integer d) turns few t =
      let le = declared_shorter d in bounded turns 0 symbols rest few (omega arith)
  statement_bounded {symbols = symbols} {rest = rest} (statements.given {value = e} integer is value) turns few t =
      let le = level_rises value.level in
      bounded turns (0 + expression_rises e) symbols rest few (omega arith)
  statement_bounded {symbols = symbols} {rest = rest} (statements.simple {s = s} none x) turns few t =
      let le = simple_rises x in
      let same = alone_rises s in
      bounded turns (statement_rises (alone s)) symbols rest few (omega arith)
  statement_bounded {symbols = symbols} {rest = rest} (statements.data_race {s = s} x) turns few t =
      let le = simple_rises x in
      let same = raced_rises s in
      bounded turns (statement_rises (raced s)) symbols rest few (omega arith)
  statement_bounded {symbols = symbols} {rest = rest} (statements.a_call {c = c} x) turns few t =
      let le = calls_rise x in
      bounded turns (call_rises c) symbols rest few (omega arith)
  statement_bounded {symbols = whole} {rest = rest} (statements.if_alone {middle = middle} {condition = e} {body = b} condition body none) turns few t =
      let le = level_rises condition.level in
      both_parts turns (expression_rises e) (block_rises b) whole middle rest
      (bounded turns (expression_rises e) whole middle few (omega arith)) (body_bounded body turns few t)
  statement_bounded {symbols = whole} {rest = rest} (statements.if_else {middle = middle} {others = others} {condition = e} {body = b} {otherwise = o} condition body otherwise) turns few t =
      let le = level_rises condition.level in
      let two = body_bounded body turns few t.0 in
      let three = body_bounded otherwise turns few t.1 in
      both_parts turns (expression_rises e) (block_rises b + block_rises o) whole middle rest
      (bounded turns (expression_rises e) whole middle few (omega arith))
      (both_parts turns (block_rises b) (block_rises o) middle others rest (shorter turns (block_rises b) middle others (word words.Else ∷ others) (omega arith) two) three)
  statement_bounded {symbols = whole} {rest = rest} (statements.for_turns {turns = inner} {symbols = symbols} {body = b} is body) turns few t =
      let one : (turns * inner) * block_rises b + 256 * length rest ≤ 256 * length symbols = body_bounded body (turns * inner) t.1.0 t.1.1 in
      let same : (turns * inner) * block_rises b ≡ turns * (inner * block_rises b) = mul_assoc turns inner (block_rises b) in
      let two : Bounded turns (inner * block_rises b) symbols rest = omega (arith, one, same) in
      longer turns (inner * block_rises b) symbols whole rest (omega arith) two

  body_bounded : {P : List Parameter} {d : ℕ} {counters : List ℕ} {before later : Names} {symbols rest : List Symbol} {b : tree.Block}
      → Body P d counters before symbols b rest later → (turns : ℕ) → turns ≤ 256 → BlockTurns turns b → Bounded turns (block_rises b) symbols rest
  body_bounded {symbols = whole} {rest = rest} (statements.braces {symbols = symbols} {block = b} lt inside) turns few t =
      longer turns (block_rises b) symbols whole rest (omega arith) (statements_bounded inside turns few t)
  body_bounded {symbols = symbols} {rest = rest} (statements.one {s = x} lt inside) turns few t =
      let same = block_kept x tree.empty in
      same_bound turns (kept_rises x) (block_rises (kept x tree.empty)) symbols rest (omega (arith, same))
      (statement_bounded inside turns few (kept_turns turns x tree.empty t).0)

  statements_bounded : {P : List Parameter} {d : ℕ} {counters : List ℕ} {before later : Names} {symbols rest : List Symbol} {b : tree.Block}
      → Statements P d counters before symbols b rest later → (turns : ℕ) → turns ≤ 256 → BlockTurns turns b
      → Bounded turns (block_rises b) symbols rest
  statements_bounded {symbols = symbols} {rest = rest} statements.end turns few t = bounded turns 0 symbols rest few (omega arith)
  statements_bounded {symbols = symbols} {rest = rest} (statements.next {middle = middle} {s = x} {block = b} s later) turns few t =
      let k = kept_turns turns x b t in
      same_bound turns (kept_rises x + block_rises b) (block_rises (kept x b)) symbols rest (sym (block_kept x b))
      (both_parts turns (kept_rises x) (block_rises b) symbols middle rest (statement_bounded s turns few k.0) (statements_bounded later turns few k.1))

-- the counts of a body rise no more than 256 times a symbol
pub body_rises : {P : List Parameter} {middle rest : List Symbol} {body : tree.Block} {registers : Names} → Statements P 1 [] [] middle body rest registers
    → BlockTurns 1 body → (block_rises body ≤ 256 * length middle) × (length rest ≤ length middle)
body_rises {middle} {rest} {body} spelled turns =
    let one : 1 * block_rises body + 256 * length rest ≤ 256 * length middle = statements_bounded spelled 1 (omega arith) turns in
    (omega (arith, one), omega (arith, one))
