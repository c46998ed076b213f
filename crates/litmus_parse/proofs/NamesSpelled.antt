-- The names and the numbers of a program are among the symbols that spell it: what holds of each of these holds of
-- the program's.
use Rattle.std.proofs.Common.{◌≡◌, ◌^◌, ◌-◌, ◌%◌, ℕ, zero, suc, List, [], ◌∷◌, ◌++◌, Option, Some, None, map, refl, sym, subst, arith}
use Rattle.std.specs.Prelude.{All, Contains, set, slice_get}
use Rattle.access_types.specs.declared.history.Mark.{Mark}
use Rattle.access_types.specs.declared.history.Mark.TheVariants as marks
use Rattle.litmus_syntax.specs.declared.expression.BinaryOperator.{BinaryOperator}
use Rattle.litmus_syntax.specs.declared.expression.UnaryOperator.{UnaryOperator}
use Rattle.litmus_syntax.specs.declared.statement.Call.{Call}
use Rattle.litmus_syntax.specs.declared.statement.Call.TheVariants as calls
use Rattle.litmus_syntax.specs.declared.program.Variable.{Variable}
use Rattle.litmus_syntax.specs.declared.proposition.Quantifier.{Quantifier}
use Rattle.litmus_syntax.specs.Tree as tree
use Rattle.litmus_lex.specs.Words.{Symbol, word, identifier, number, sign, fault}
use Rattle.litmus_expression.specs.Expressions as grammar
use Rattle.litmus_expression.specs.Expressions.{Applied, Combined, Expression, Level, Load, Operand, Pure}
use Rattle.litmus_expression.specs.Names.{Names, Numbered, Parameter, known, new}
use Rattle.litmus_expression.proofs.Named.{in_front, in_rest}
use Rattle.litmus_expression.proofs.Taken.{same_given}
use Rattle.litmus_body.specs.Statements as statements
use Rattle.litmus_body.specs.Statements.{Body, Calls, Declared, Enclosable, IsPlainMark, Simple, Statement, Statements, alone, assignment, kept, load, raced}
use Rattle.litmus_parse.specs.Conditions as conditions
use Rattle.litmus_parse.specs.Conditions.{Atom, Conjoined, Disjoined, Negation, Quantifies, with_registers}
use Rattle.litmus_parse.specs.Mentions as mentions
use Rattle.litmus_parse.specs.Mentions.{AreDeclared, AreNumbered, Mention}
use Rattle.litmus_parse.specs.Grammar.{Grammar, task_of}
use Rattle.litmus_parse.specs.Headers as headers
use Rattle.litmus_parse.specs.Headers.{IsProcess, Item, Items, Listed, Parameters, Process, Processes, Signed, Value}

-- what holds of a first and of all others holds of all
pub all_more : {X : Type 0} (Q : X → Type 0) (x : X) (xs : List X) → Q x → All Q xs → All Q (x ∷ xs)
all_more Q x xs is later zero d lt = is
all_more Q x xs is later (suc k) d lt = later k d (omega arith)

module _ (P : List ℕ → Type 0) (N : ℕ → Type 0) where
  -- what holds of a symbol that is a name or a number
  abbrev pub OfSymbol : Symbol → Type 0
  OfSymbol (word w) = Unit {0}
  OfSymbol (identifier name) = P name
  OfSymbol (number n) = N n
  OfSymbol (sign s) = Unit {0}
  OfSymbol fault = Unit {0}

  -- what holds of each name and each number among symbols
  abbrev pub Spell : List Symbol → Type 0
  Spell [] = Unit {0}
  Spell (symbol ∷ rest) = OfSymbol symbol × Spell rest

  abbrev pub Have : Names → Type 0
  Have [] = Unit {0}
  Have (name ∷ names) = P name × Have names

  -- names, and the symbols that are left
  abbrev pub Kept : Names → List Symbol → Type 0
  Kept names symbols = Have names × Spell symbols

  have_more : (names : Names) (name : List ℕ) → Have names → P name → Have (names ++ name ∷ [])
  have_more [] name have is = (is, tt)
  have_more (other ∷ names) name have is = (have.0, have_more names name have.1 is)

  numbered_kept : {limit number : ℕ} {name : List ℕ} {before later : Names} → Have before → P name → Numbered limit before name number later
      → Have later
  numbered_kept have is (known there) = have
  numbered_kept {name = name} {before = before} have is (new out lt) = have_more before name have is

  -- ---- what holds of each number of a program

  abbrev pub PureHas : tree.Pure → Type 0
  PureHas (tree.number n) = N n
  PureHas (tree.register r) = Unit {0}
  PureHas (tree.unary op a) = PureHas a
  PureHas (tree.binary op a b) = PureHas a × PureHas b

  abbrev pub FetchHas : tree.Fetch → Type 0
  FetchHas (tree.read form x) = Unit {0}
  FetchHas (tree.exchange x a) = PureHas a
  FetchHas (tree.compare_exchange x a b) = PureHas a × PureHas b

  abbrev pub LoadHas : tree.Load → Type 0
  LoadHas l = FetchHas l.fetch

  abbrev pub LoadingHas : tree.Loading → Type 0
  LoadingHas (tree.load l) = LoadHas l
  LoadingHas (tree.unary_of op a) = LoadingHas a
  LoadingHas (tree.left op a b) = LoadingHas a × PureHas b
  LoadingHas (tree.right op a b) = PureHas a × LoadingHas b

  abbrev pub ExpressionHas : tree.Expression → Type 0
  ExpressionHas (tree.pure a) = PureHas a
  ExpressionHas (tree.loading a) = LoadingHas a

  abbrev pub AssignmentHas : tree.Assignment → Type 0
  AssignmentHas (tree.to_register r e) = ExpressionHas e
  AssignmentHas (tree.write form x e) = PureHas e
  AssignmentHas (tree.add x e) = PureHas e
  AssignmentHas (tree.increment x) = Unit {0}
  AssignmentHas (tree.atomic_add e x) = PureHas e
  AssignmentHas (tree.atomic_increment x) = Unit {0}
  AssignmentHas (tree.atomic_decrement x) = Unit {0}

  abbrev pub MarkHas : Mark → Type 0
  MarkHas (marks.Next n) = N n
  MarkHas marks.Disable = Unit {0}
  MarkHas marks.Enable = Unit {0}
  MarkHas marks.NestOpen = Unit {0}
  MarkHas marks.NestClose = Unit {0}
  MarkHas marks.FlatBegin = Unit {0}
  MarkHas marks.FlatEnd = Unit {0}

  abbrev pub CallHas : Call → Type 0
  CallHas (calls.Barrier b) = Unit {0}
  CallHas (calls.Lock l) = Unit {0}
  CallHas (calls.Unlock l) = Unit {0}
  CallHas (calls.AssertWriter x scoped) = Unit {0}
  CallHas (calls.AssertAccess x scoped) = Unit {0}
  CallHas (calls.AssertBits x mask) = N mask
  CallHas (calls.Mark m) = MarkHas m
  CallHas (calls.Check write x size) = N size

  abbrev mutual
    pub StatementHas : tree.Statement → Type 0
    StatementHas (tree.load_only l) = LoadHas l
    StatementHas (tree.assign data_race a) = AssignmentHas a
    StatementHas (tree.call c) = CallHas c
    StatementHas (tree.if_block e body) = ExpressionHas e × BlockHas body
    StatementHas (tree.if_else e body otherwise) = ExpressionHas e × (BlockHas body × BlockHas otherwise)
    StatementHas (tree.for_turns r turns body) = N turns × BlockHas body

    pub BlockHas : tree.Block → Type 0
    BlockHas tree.empty = Unit {0}
    BlockHas (tree.first s more) = StatementHas s × BlockHas more

  abbrev pub PropositionHas : tree.Proposition → Type 0
  PropositionHas tree.always = Unit {0}
  PropositionHas tree.never = Unit {0}
  PropositionHas (tree.register_is k r n) = N k × N n
  PropositionHas (tree.variable_is x n) = N n
  PropositionHas (tree.negation a) = PropositionHas a
  PropositionHas (tree.both a b) = PropositionHas a × PropositionHas b
  PropositionHas (tree.either a b) = PropositionHas a × PropositionHas b

  -- ---- expressions

  applied_has : {op : UnaryOperator} {e f : tree.Expression} → Applied op e f → ExpressionHas e → ExpressionHas f
  applied_has grammar.to_pure has = has
  applied_has grammar.to_loading has = has

  combined_has : {op : BinaryOperator} {a b c : tree.Expression} → Combined op a b c → ExpressionHas a → ExpressionHas b → ExpressionHas c
  combined_has grammar.none has too = (has, too)
  combined_has grammar.left has too = (has, too)
  combined_has grammar.right has too = (has, too)

  mutual
    level_kept : {PS : List Parameter} {k d : ℕ} {before later : Names} {symbols rest : List Symbol} {e : tree.Expression}
        → Kept before symbols → Level PS k d before symbols e rest later → ExpressionHas e × Kept later rest
    level_kept h (grammar.operand o) = operand_kept h o
    level_kept h (grammar.prefixed op l a) = let one = level_kept (h.0, h.1.1) l in (applied_has a one.0, one.1)
    level_kept h (grammar.stronger l) = level_kept h l
    level_kept h (grammar.infixed op is l r c) =
        let one = level_kept h l in
        let two = level_kept (one.1.0, one.1.1.1) r in
        (combined_has c one.0 two.0, two.1)

    operand_kept : {PS : List Parameter} {d : ℕ} {before later : Names} {symbols rest : List Symbol} {e : tree.Expression}
        → Kept before symbols → Operand PS d before symbols e rest later → ExpressionHas e × Kept later rest
    operand_kept h grammar.a_number = (h.1.0, (h.0, h.1.1))
    operand_kept h (grammar.a_register r) = (tt, (numbered_kept h.0 h.1.0 r.numbered, h.1.1))
    operand_kept h (grammar.a_load l) = load_kept h l
    operand_kept h (grammar.parenthesized lt l) = let one = level_kept (h.0, h.1.1) l in (one.0, (one.1.0, one.1.1.1))

    load_kept : {PS : List Parameter} {d : ℕ} {before later : Names} {symbols rest : List Symbol} {l : tree.Load}
        → Kept before symbols → Load PS d before symbols l rest later → LoadHas l × Kept later rest
    load_kept h (grammar.plain v) = (tt, (h.0, h.1.1.1))
    load_kept h (grammar.once v) = (tt, (h.0, h.1.1.1.1.1.1))
    load_kept h (grammar.acquire v) = (tt, (h.0, h.1.1.1.1.1))
    load_kept h (grammar.atomic v) = (tt, (h.0, h.1.1.1.1.1))
    load_kept h (grammar.exchange v p) = let one = pure_kept (h.0, h.1.1.1.1.1) p in (one.0, (one.1.0, one.1.1.1))
    load_kept h (grammar.compare_exchange v p q) =
        let one = pure_kept (h.0, h.1.1.1.1.1) p in
        let two = pure_kept (one.1.0, one.1.1.1) q in
        ((one.0, two.0), (two.1.0, two.1.1.1))
    load_kept h (grammar.enclosed l) = let one = load_kept (h.0, h.1.1.1) l in (one.0, (one.1.0, one.1.1.1))

    pure_kept : {PS : List Parameter} {d : ℕ} {before later : Names} {symbols rest : List Symbol} {a : tree.Pure}
        → Kept before symbols → Pure PS d before symbols a rest later → PureHas a × Kept later rest
    pure_kept h (grammar.whole l le) = level_kept h l

  -- ---- statements

  abbrev EnclosableHas : Enclosable → Type 0
  EnclosableHas (load l) = LoadHas l
  EnclosableHas (assignment a) = AssignmentHas a

  alone_has : (x : Enclosable) → EnclosableHas x → StatementHas (alone x)
  alone_has (load l) has = has
  alone_has (assignment a) has = has

  raced_has : (x : Enclosable) → EnclosableHas x → StatementHas (raced x)
  raced_has (load l) has = has
  raced_has (assignment a) has = has

  abbrev KeptHas : Option tree.Statement → Type 0
  KeptHas None = Unit {0}
  KeptHas (Some s) = StatementHas s

  kept_has : (x : Option tree.Statement) (b : tree.Block) → KeptHas x → BlockHas b → BlockHas (kept x b)
  kept_has None b has more = more
  kept_has (Some s) b has more = (has, more)

  mark_has : (m : Mark) → IsPlainMark m → MarkHas m
  mark_has (marks.Next n) plain = absurd (plain n refl)
  mark_has marks.Disable plain = tt
  mark_has marks.Enable plain = tt
  mark_has marks.NestOpen plain = tt
  mark_has marks.NestClose plain = tt
  mark_has marks.FlatBegin plain = tt
  mark_has marks.FlatEnd plain = tt

  simple_kept : {PS : List Parameter} {d : ℕ} {counters : List ℕ} {before later : Names} {symbols rest : List Symbol} {x : Enclosable}
      → Kept before symbols → Simple PS d counters before symbols x rest later → EnclosableHas x × Kept later rest
  simple_kept h (statements.to_register is value) = level_kept (numbered_kept h.0 h.1.0 is.is.numbered, h.1.1.1) value.level
  simple_kept h (statements.a_load l) = load_kept h l
  simple_kept h (statements.write is value) = pure_kept (h.0, h.1.1.1.1) value
  simple_kept h (statements.add is value) = pure_kept (h.0, h.1.1.1.1) value
  simple_kept h (statements.increment is) = (tt, (h.0, h.1.1.1.1.1.1))
  simple_kept h (statements.write_once is value) =
      let one = pure_kept (h.0, h.1.1.1.1.1.1) value in (one.0, (one.1.0, one.1.1.1))
  simple_kept h (statements.release is value) = let one = pure_kept (h.0, h.1.1.1.1.1) value in (one.0, (one.1.0, one.1.1.1))
  simple_kept h (statements.atomic_set is value) = let one = pure_kept (h.0, h.1.1.1.1.1) value in (one.0, (one.1.0, one.1.1.1))
  simple_kept h (statements.atomic_add value is) = let one = pure_kept (h.0, h.1.1.1) value in (one.0, (one.1.0, one.1.1.1.1.1))
  simple_kept h (statements.atomic_increment is) = (tt, (h.0, h.1.1.1.1.1))
  simple_kept h (statements.atomic_decrement is) = (tt, (h.0, h.1.1.1.1.1))

  call_kept : {PS : List Parameter} {symbols rest : List Symbol} {c : Call} → Spell symbols → Calls PS symbols c rest
      → CallHas c × Spell rest
  call_kept s (statements.barrier b) = (tt, s.1.1.1)
  call_kept s (statements.lock v) = (tt, s.1.1.1.1)
  call_kept s (statements.unlock v) = (tt, s.1.1.1.1)
  call_kept s (statements.assert_writer scoped v) = (tt, s.1.1.1.1.1)
  call_kept s (statements.assert_access scoped v) = (tt, s.1.1.1.1.1)
  call_kept s (statements.assert_bits v) = (s.1.1.1.1.1.0, s.1.1.1.1.1.1.1)
  call_kept s (statements.mark m plain) = (mark_has m plain, s.1.1.1)
  call_kept s statements.atomic_next = (s.1.1.0, s.1.1.1.1)
  call_kept s (statements.check write v le) = (s.1.1.1.1.0, s.1.1.1.1.1.1)

  declared_kept : {PS : List Parameter} {counters : List ℕ} {before later : Names} {symbols rest : List Symbol}
      → Kept before symbols → Declared PS counters before symbols rest later → Kept later rest
  declared_kept h (statements.last is) = (numbered_kept h.0 h.1.0 is.is.numbered, h.1.1.1)
  declared_kept h (statements.more is later) = declared_kept (numbered_kept h.0 h.1.0 is.is.numbered, h.1.1.1) later

  mutual
    statement_kept : {PS : List Parameter} {d : ℕ} {counters : List ℕ} {before later : Names} {symbols rest : List Symbol}
        {x : Option tree.Statement} → Kept before symbols → Statement PS d counters before symbols x rest later
        → KeptHas x × Kept later rest
    statement_kept h statements.nothing = (tt, (h.0, h.1.1))
    statement_kept h (statements.declaration integer d) = (tt, declared_kept (h.0, h.1.1) d)
    statement_kept h (statements.given integer is value) =
        let one = level_kept (numbered_kept h.0 h.1.1.0 is.is.numbered, h.1.1.1.1) value.level in
        (one.0, (one.1.0, one.1.1.1))
    statement_kept h (statements.simple {s = s} none x) =
        let one = simple_kept h x in (alone_has s one.0, (one.1.0, one.1.1.1))
    statement_kept h (statements.data_race {s = s} x) =
        let one = simple_kept (h.0, h.1.1.1) x in (raced_has s one.0, (one.1.0, one.1.1.1.1))
    statement_kept h (statements.a_call c) = let one = call_kept h.1 c in (one.0, (h.0, one.1.1))
    statement_kept h (statements.if_alone condition body none) =
        let one = level_kept (h.0, h.1.1.1) condition.level in
        let two = body_kept (one.1.0, one.1.1.1) body in
        ((one.0, two.0), two.1)
    statement_kept h (statements.if_else condition body otherwise) =
        let one = level_kept (h.0, h.1.1.1) condition.level in
        let two = body_kept (one.1.0, one.1.1.1) body in
        let three = body_kept (two.1.0, two.1.1.1) otherwise in
        ((one.0, (two.0, three.0)), three.1)
    statement_kept h (statements.for_turns is body) =
        let one = body_kept (numbered_kept h.0 h.1.1.1.0 is.is.numbered, h.1.1.1.1.1.1.1.1.1.1.1.1.1.1) body in
        ((h.1.1.1.1.1.1.1.1.1.0, one.0), one.1)

    body_kept : {PS : List Parameter} {d : ℕ} {counters : List ℕ} {before later : Names} {symbols rest : List Symbol} {b : tree.Block}
        → Kept before symbols → Body PS d counters before symbols b rest later → BlockHas b × Kept later rest
    body_kept h (statements.braces lt inside) = statements_kept (h.0, h.1.1) inside
    body_kept h (statements.one {s = s} lt inside) = let one = statement_kept h inside in (kept_has s tree.empty one.0 tt, one.1)

    statements_kept : {PS : List Parameter} {d : ℕ} {counters : List ℕ} {before later : Names} {symbols rest : List Symbol} {b : tree.Block}
        → Kept before symbols → Statements PS d counters before symbols b rest later → BlockHas b × Kept later rest
    statements_kept h statements.end = (tt, (h.0, h.1.1))
    statements_kept h (statements.next {s = x} {block = b} s later) =
        let one = statement_kept h s in
        let two = statements_kept one.1 later in
        (kept_has x b one.0 two.0, two.1)

  -- ---- items and parameters

  signed_kept : {symbols rest : List Symbol} {value : ℕ} → Spell symbols → Signed symbols value rest → Spell rest
  signed_kept s headers.positive = s.1
  signed_kept s headers.negative = s.1.1

  value_kept : {symbols rest : List Symbol} {value : ℕ} → Spell symbols → Value symbols value rest → Spell rest
  value_kept s (headers.plain v) = signed_kept s v
  value_kept s (headers.in_atomic_init v) = (signed_kept s.1.1 v).1

  -- each mention has a name of which it holds
  abbrev Mentioned : List Mention → Type 0
  Mentioned [] = Unit {0}
  Mentioned (m ∷ later) = P m.name × Mentioned later

  item_kept : {symbols rest : List Symbol} {m : Mention} → Spell symbols → Item symbols m rest → P m.name × Spell rest
  item_kept s headers.bare = (s.0, s.1)
  item_kept s (headers.given v) = (s.0, value_kept s.1.1 v)
  item_kept s headers.typed = (s.1.0, s.1.1)
  item_kept s (headers.typed_given v) = (s.1.0, value_kept s.1.1.1 v)

  items_kept : {symbols rest : List Symbol} {items : List Mention} → Spell symbols → Items symbols items rest → Mentioned items × Spell rest
  items_kept s headers.none = (tt, s.1)
  items_kept s (headers.last i) = let one = item_kept s i in ((one.0, tt), one.1.1)
  items_kept s (headers.more i later) =
      let one = item_kept s i in
      let two = items_kept one.1.1 later in
      ((one.0, two.0), two.1)

  mentions_kept : {before later : Names} {items : List Mention} → Have before → Mentioned items → AreNumbered before items later → Have later
  mentions_kept have said mentions.none = have
  mentions_kept have said (mentions.more n rest) = mentions_kept (numbered_kept have said.0 n) said.1 rest

  listed_kept : {before later : Names} {symbols rest : List Symbol} {ps : List Parameter} → Kept before symbols
      → Listed before symbols ps rest later → Kept later rest
  listed_kept h (headers.last n) = (numbered_kept h.0 h.1.1.1.0 n, h.1.1.1.1.1)
  listed_kept h (headers.more n later out) = listed_kept (numbered_kept h.0 h.1.1.1.0 n, h.1.1.1.1.1) later

  parameters_kept : {before later : Names} {symbols rest : List Symbol} {ps : List Parameter} → Kept before symbols
      → Parameters before symbols ps rest later → Kept later rest
  parameters_kept h headers.none = (h.0, h.1.1)
  parameters_kept h (headers.some l) = listed_kept h l

  -- ---- processes

  abbrev pub ProcessHas : Process → Type 0
  ProcessHas p = Have p.registers × BlockHas p.body

  -- of each process
  abbrev pub AllHave : List Process → Type 0
  AllHave [] = Unit {0}
  AllHave (p ∷ ps) = ProcessHas p × AllHave ps

  process_kept : {task : ℕ} {before later : Names} {symbols rest : List Symbol} {p : Process} → Kept before symbols
      → IsProcess task before symbols p rest later → ProcessHas p × Kept later rest
  process_kept h (headers.process listed inside keeps) =
      let one = parameters_kept (h.0, h.1.1.1) listed in
      let two = statements_kept (tt, one.1.1) inside in
      ((two.1.0, two.0), (one.0, two.1.1))

  processes_kept : {task : ℕ} {before later : Names} {symbols rest : List Symbol} {ps : List Process} → Kept before symbols
      → Processes task before symbols ps rest later → AllHave ps × Kept later rest
  processes_kept h (headers.last lt p) = let one = process_kept h p in ((one.0, tt), one.1)
  processes_kept h (headers.more lt p later) =
      let one = process_kept h p in
      let two = processes_kept one.1 later in
      ((one.0, two.0), two.1)

  -- ---- conditions

  quantifier_kept : {symbols rest : List Symbol} {q : Quantifier} → Spell symbols → Quantifies symbols q rest → Spell rest
  quantifier_kept s conditions.exists = s.1
  quantifier_kept s conditions.not_exists = s.1.1
  quantifier_kept s conditions.for_all = s.1

  process_at : (ps : List Process) (task : ℕ) (p : Process) → AllHave ps → slice_get ps task ≡ Some p → ProcessHas p
  process_at [] task p have is = absurd cc
  process_at (q ∷ ps) zero p have is = subst (λ (r : Process). ProcessHas r) (same_given q p is) have.0
  process_at (q ∷ ps) (suc task) p have is = process_at ps task p have.1 is

  process_set : (ps : List Process) (task : ℕ) (p : Process) → AllHave ps → ProcessHas p → AllHave (set ps task p)
  process_set [] task p have is = tt
  process_set (q ∷ ps) zero p have is = (is, have.1)
  process_set (q ∷ ps) (suc task) p have is = (have.0, process_set ps task p have.1 is)

  abbrev Asked : List Process → List Symbol → Type 0
  Asked ps symbols = AllHave ps × Spell symbols

  -- what holds of a number holds of it with a minus before it
  abbrev pub Negates : Type 0
  Negates = (n : ℕ) → N n → N ((2 ^ 64 - n) % 2 ^ 64)

  signed_has : {symbols rest : List Symbol} {value : ℕ} → Negates → Spell symbols → Signed symbols value rest → N value × Spell rest
  signed_has negates s headers.positive = (s.0, s.1)
  signed_has negates s (headers.negative {value = n}) = (negates n s.1.0, s.1.1)

  atom_kept : {ms : List Mention} {names : Names} {before later : List Process} {symbols rest : List Symbol} {a : tree.Proposition}
      → Negates → Asked before symbols → Atom ms names before symbols a rest later → PropositionHas a × Asked later rest
  atom_kept negates h conditions.always = (tt, (h.0, h.1.1))
  atom_kept negates h conditions.never = (tt, (h.0, h.1.1))
  atom_kept negates h (conditions.variable_is is v) = let one = signed_has negates h.1.1.1 v in (one.0, (h.0, one.1))
  atom_kept negates h (conditions.in_brackets is v) = let one = signed_has negates h.1.1.1.1.1 v in (one.0, (h.0, one.1))
  atom_kept negates h (conditions.register_is {before = before} {task = task} {process = p} {registers = registers} there is v) =
      let has = process_at before task p h.0 there in
      let one = signed_has negates h.1.1.1.1.1 v in (
        (h.1.0, one.0),
        (process_set before task (with_registers p registers) h.0 (numbered_kept has.0 h.1.1.1.0 is.numbered, has.1), one.1),
      )

  mutual
    disjoined_kept : {ms : List Mention} {names : Names} {d : ℕ} {before later : List Process} {symbols rest : List Symbol} {a : tree.Proposition}
        → Negates → Asked before symbols → Disjoined ms names d before symbols a rest later → PropositionHas a × Asked later rest
    disjoined_kept negates h (conditions.conjunction c) = conjoined_kept negates h c
    disjoined_kept negates h (conditions.or l c) =
        let one = disjoined_kept negates h l in
        let two = conjoined_kept negates (one.1.0, one.1.1.1) c in
        ((one.0, two.0), two.1)

    conjoined_kept : {ms : List Mention} {names : Names} {d : ℕ} {before later : List Process} {symbols rest : List Symbol} {a : tree.Proposition}
        → Negates → Asked before symbols → Conjoined ms names d before symbols a rest later → PropositionHas a × Asked later rest
    conjoined_kept negates h (conditions.negation n) = negation_kept negates h n
    conjoined_kept negates h (conditions.and l n) =
        let one = conjoined_kept negates h l in
        let two = negation_kept negates (one.1.0, one.1.1.1) n in
        ((one.0, two.0), two.1)

    negation_kept : {ms : List Mention} {names : Names} {d : ℕ} {before later : List Process} {symbols rest : List Symbol} {a : tree.Proposition}
        → Negates → Asked before symbols → Negation ms names d before symbols a rest later → PropositionHas a × Asked later rest
    negation_kept negates h (conditions.atom a) = atom_kept negates h a
    negation_kept negates h (conditions.not n) = negation_kept negates (h.0, h.1.1) n
    negation_kept negates h (conditions.parenthesized lt c) =
        let one = disjoined_kept negates (h.0, h.1.1) c in (one.0, (one.1.0, one.1.1.1))

  -- ---- whole texts

  abbrev NamedTask : tree.Task → Type 0
  NamedTask t = All P t.registers

  abbrev NumberedTask : tree.Task → Type 0
  NumberedTask t = BlockHas t.body

  abbrev NamedVariable : Variable → Type 0
  NamedVariable v = P v.name

  all_names : (names : Names) → Have names → All P names
  all_names [] have = λ k d lt. absurd (omega arith)
  all_names (name ∷ names) have = all_more P name names have.0 (all_names names have.1)

  all_tasks : (ps : List Process) → AllHave ps → All NamedTask (map task_of ps)
  all_tasks [] have = λ k d lt. absurd (omega arith)
  all_tasks (p ∷ ps) have = all_more NamedTask (task_of p) (map task_of ps) (all_names p.registers have.0.0) (all_tasks ps have.1)

  all_bodies : (ps : List Process) → AllHave ps → All NumberedTask (map task_of ps)
  all_bodies [] have = λ k d lt. absurd (omega arith)
  all_bodies (p ∷ ps) have = all_more NumberedTask (task_of p) (map task_of ps) have.0.1 (all_bodies ps have.1)

  all_variables : {ms : List Mention} {names : Names} {variables : List Variable} → Have names → AreDeclared ms names variables
      → All NamedVariable variables
  all_variables have mentions.none = λ k d lt. absurd (omega arith)
  all_variables have (mentions.more {variables = variables} {variable = v} is later) =
      all_more NamedVariable v variables (subst (λ (n : List ℕ). P n) (sym is.name_is) have.0) (all_variables have.1 later)

  -- what holds of each name and number of a program
  pub record Holds (p : tree.Program) : Type 0 where
    pub variables : All NamedVariable p.variables
    pub registers : All NamedTask p.tasks
    pub bodies : All NumberedTask p.tasks
    pub condition : PropositionHas p.condition

  -- what holds of each name and each number among symbols holds of those of the program that they spell
  pub spelled_holds : (symbols : List Symbol) (p : tree.Program) → Negates → Grammar symbols p → Spell symbols → Holds p
  spelled_holds symbols p negates g s =
      let inside = (subst (λ (l : List Symbol). Spell l) g.begins s).1 in
      let items = items_kept inside g.initialization in
      let names = mentions_kept tt items.0 g.numbered in
      let bodies = processes_kept (names, items.1) g.bodies in
      let last = disjoined_kept negates (bodies.0, quantifier_kept bodies.1.1 g.quantifier) g.condition in
      record {
        variables = all_variables bodies.1.0 g.declared;
        registers = subst (λ (l : List tree.Task). All NamedTask l) (sym g.tasks) (all_tasks g.later last.1.0);
        bodies = subst (λ (l : List tree.Task). All NumberedTask l) (sym g.tasks) (all_bodies g.later last.1.0);
        condition = last.0;
      }

-- nothing is asked of a number
abbrev pub Any : ℕ → Type 0
Any n = Unit {0}

-- symbols among others
spelled_among : (all : List Symbol) (symbols : List Symbol) → ((s : Symbol) → Contains symbols s → Contains all s)
    → Spell (λ name. Contains all (identifier name)) Any symbols
spelled_among all [] among = tt
spelled_among all (s ∷ symbols) are =
    (of_one all s (are s (in_front s symbols)), spelled_among all symbols (λ t there. are t (in_rest s t symbols there)))
  where
    of_one : (all : List Symbol) (s : Symbol) → Contains all s → OfSymbol (λ name. Contains all (identifier name)) Any s
    of_one all (word w) there = tt
    of_one all (identifier name) there = there
    of_one all (number n) there = tt
    of_one all (sign s) there = tt
    of_one all fault there = tt

-- each name of a variable and of a register is among the symbols
pub names_among : (symbols : List Symbol) (p : tree.Program) → Grammar symbols p
    → All (λ (v : Variable). Contains symbols (identifier v.name)) p.variables
    × All (λ (t : tree.Task). All (λ (name : List ℕ). Contains symbols (identifier name)) t.registers) p.tasks
names_among symbols p g =
    let held = spelled_holds (λ name. Contains symbols (identifier name)) Any symbols p (λ n is. tt) g
    (spelled_among symbols symbols (λ s there. there)) in
    (held.variables, held.registers)
