-- The symbols of a body's printed form spell it, where some symbols do and the form keeps the limit of nesting.
use Rattle.std.proofs.Common.{◌≡◌, ◌+◌, ℕ, zero, suc, List, ◌∷◌, Bool, true, false, Option, Some, None, refl, ap, subst, arith}
use Rattle.std.specs.Prelude.{Contains}
use Rattle.access_types.specs.declared.history.Mark.{Mark}
use Rattle.access_types.specs.declared.history.Mark.TheVariants as marks
use Rattle.litmus_lex.specs.declared.sign.Sign.TheVariants.{CloseBrace, CloseParen, Comma, OpenBrace, Semicolon}
use Rattle.litmus_syntax.specs.declared.expression.ReadForm.{ReadForm}
use Rattle.litmus_syntax.specs.declared.expression.ReadForm.TheVariants as reads
use Rattle.litmus_syntax.specs.declared.program.Variable.{Variable}
use Rattle.litmus_syntax.specs.declared.statement.Call.{Call}
use Rattle.litmus_syntax.specs.declared.statement.Call.TheVariants as call_variants
use Rattle.litmus_syntax.specs.declared.statement.WriteForm.{WriteForm}
use Rattle.litmus_syntax.specs.declared.statement.WriteForm.TheVariants as writes
use Rattle.litmus_syntax.specs.PrintedForm.{variable_name}
use Rattle.litmus_syntax.specs.Tree as tree
use Rattle.litmus_lex.specs.declared.words.VariableType.{VariableType}
use Rattle.litmus_lex.specs.declared.words.Word.{Word}
use Rattle.litmus_lex.specs.declared.words.Word.TheVariants as words
use Rattle.litmus_lex.specs.Front.{first}
use Rattle.litmus_lex.specs.Words.{Symbol, word, identifier, number, sign, fault}
use Rattle.litmus_expression.specs.Names.{Names, Parameter}
use Rattle.litmus_body.specs.Statements as statements
use Rattle.litmus_body.specs.Statements.{Body, Calls, Enclosable, IsNoDataRace, IsNoElse, Simple, Statement, Statements, alone, kept, raced}
use Rattle.print_roundtrip.specs.printed_texts.PrintedNesting.{AssignmentNests, BlockNests, StatementNests}
use Rattle.print_roundtrip.specs.printed_texts.PrintedSymbols.{assignment_symbols, block_symbols, call_symbols, closes, fetch_symbols, mark_symbols, opens, read_symbols, statement_symbols, write_symbols}
use Rattle.print_roundtrip.proofs.printed_texts.Expressions.{PrintedFetch, expression_printed, load_printed, printed_changed, printed_variable, pure_printed, whole_load}
use Rattle.print_roundtrip.proofs.printed_texts.Grown.{Grown, body_grows, level_grows, statements_grow, then}

-- ---- with which symbols parts begin

abbrev is_else_word : Word → Bool
is_else_word words.Else = true
is_else_word _ = false

abbrev is_else : Symbol → Bool
is_else (word w) = is_else_word w
is_else (identifier name) = false
is_else (number n) = false
is_else (sign s) = false
is_else fault = false

abbrev is_race_word : Word → Bool
is_race_word words.DataRace = true
is_race_word _ = false

abbrev is_race : Symbol → Bool
is_race (word w) = is_race_word w
is_race (identifier name) = false
is_race (number n) = false
is_race (sign s) = false
is_race fault = false

not_both : (b : Bool) → b ≡ true → b ≡ false → ⊥
not_both b e f = cc

no_else : (symbols : List Symbol) → is_else (first symbols) ≡ false → IsNoElse symbols
no_else symbols none = λ rest same. not_both (is_else (first symbols)) (ap (λ (l : List Symbol). is_else (first l)) same) none

no_race : (symbols : List Symbol) → is_race (first symbols) ≡ false → IsNoDataRace symbols
no_race symbols none = λ rest same. not_both (is_race (first symbols)) (ap (λ (l : List Symbol). is_race (first l)) same) none

-- what begins with no `else` and no `data_race`
abbrev Plain : List Symbol → Type 0
Plain symbols = (is_else (first symbols) ≡ false) × (is_race (first symbols) ≡ false)

read_begins : (form : ReadForm) (x : List ℕ) (rest : List Symbol) → Plain (read_symbols form x rest)
read_begins reads.Plain x rest = (refl, refl)
read_begins reads.Once x rest = (refl, refl)
read_begins reads.Acquire x rest = (refl, refl)
read_begins reads.Atomic x rest = (refl, refl)

mark_begins : (m : Mark) (rest : List Symbol) → Plain (mark_symbols m rest)
mark_begins marks.Disable rest = (refl, refl)
mark_begins marks.Enable rest = (refl, refl)
mark_begins marks.NestOpen rest = (refl, refl)
mark_begins marks.NestClose rest = (refl, refl)
mark_begins marks.FlatBegin rest = (refl, refl)
mark_begins marks.FlatEnd rest = (refl, refl)
mark_begins (marks.Next count) rest = (refl, refl)

module _ (variables : List Variable) (names : Names) where
  fetch_begins : (f : tree.Fetch) (rest : List Symbol) → Plain (fetch_symbols variables names f rest)
  fetch_begins (tree.read form x) rest = read_begins form (variable_name variables x) rest
  fetch_begins (tree.exchange x e) rest = (refl, refl)
  fetch_begins (tree.compare_exchange x e f) rest = (refl, refl)

  opens_begins : (n : ℕ) (symbols : List Symbol) → is_else (first symbols) ≡ false → is_else (first (opens n symbols)) ≡ false
  opens_begins zero symbols none = none
  opens_begins (suc n) symbols none = refl

  write_begins : (form : WriteForm) (x : List ℕ) (e : tree.Pure) (rest : List Symbol) → Plain (write_symbols variables names form x e rest)
  write_begins writes.Plain x e rest = (refl, refl)
  write_begins writes.Once x e rest = (refl, refl)
  write_begins writes.Release x e rest = (refl, refl)
  write_begins writes.Atomic x e rest = (refl, refl)

  assignment_begins : (a : tree.Assignment) (rest : List Symbol) → Plain (assignment_symbols variables names a rest)
  assignment_begins (tree.to_register r e) rest = (refl, refl)
  assignment_begins (tree.write form x e) rest = write_begins form (variable_name variables x) e rest
  assignment_begins (tree.add x e) rest = (refl, refl)
  assignment_begins (tree.increment x) rest = (refl, refl)
  assignment_begins (tree.atomic_add e x) rest = (refl, refl)
  assignment_begins (tree.atomic_increment x) rest = (refl, refl)
  assignment_begins (tree.atomic_decrement x) rest = (refl, refl)

  call_begins : (c : Call) (rest : List Symbol) → is_else (first (call_symbols variables names c rest)) ≡ false
  call_begins (call_variants.Barrier b) rest = refl
  call_begins (call_variants.Lock l) rest = refl
  call_begins (call_variants.Unlock l) rest = refl
  call_begins (call_variants.AssertWriter x scoped) rest = refl
  call_begins (call_variants.AssertAccess x scoped) rest = refl
  call_begins (call_variants.AssertBits x mask) rest = refl
  call_begins (call_variants.Mark m) rest = (mark_begins m rest).0
  call_begins (call_variants.Check write x size) rest = refl

  statement_begins : (s : tree.Statement) (rest : List Symbol) → is_else (first (statement_symbols variables names s rest)) ≡ false
  statement_begins (tree.load_only l) rest =
      opens_begins l.data_races (fetch_symbols variables names l.fetch (closes l.data_races (sign Semicolon ∷ rest)))
      (fetch_begins l.fetch (closes l.data_races (sign Semicolon ∷ rest))).0
  statement_begins (tree.assign true a) rest = refl
  statement_begins (tree.assign false a) rest = (assignment_begins a (sign Semicolon ∷ rest)).0
  statement_begins (tree.call c) rest = call_begins c (sign Semicolon ∷ rest)
  statement_begins (tree.if_block e body) rest = refl
  statement_begins (tree.if_else e body otherwise) rest = refl
  statement_begins (tree.for_turns r turns body) rest = refl

  block_begins : (b : tree.Block) (rest : List Symbol) → is_else (first rest) ≡ false
      → is_else (first (block_symbols variables names b rest)) ≡ false
  block_begins tree.empty rest none = none
  block_begins (tree.first s more) rest none = statement_begins s (block_symbols variables names more rest)

-- ---- statements

module _ (P : List Parameter) (variables : List Variable) (names : Names)
    (named : (name : List ℕ) (v : ℕ) (type : VariableType) → Contains P (record { name = name; variable = v; type = type }) → variable_name variables v ≡ name) where
  -- what the printed form of an assignment is
  abbrev PrintedAssignment : List ℕ → tree.Assignment → Type 0
  PrintedAssignment counters a = (d : ℕ) → AssignmentNests d a → (rest : List Symbol)
      → Simple P d counters names (assignment_symbols variables names a rest) (statements.assignment a) rest names

  abbrev PrintedSimple : List ℕ → Enclosable → Type 0
  PrintedSimple counters (statements.load l) = PrintedFetch P variables names named l.fetch
  PrintedSimple counters (statements.assignment a) = PrintedAssignment counters a

  simple_printed : {d : ℕ} {counters : List ℕ} {before later : Names} {symbols rest : List Symbol} {x : Enclosable}
      → Simple P d counters before symbols x rest later → Grown later names → PrintedSimple counters x
  simple_printed (statements.to_register is value) grown = λ d nests rest.
      statements.to_register (printed_changed P variables names named is (then (level_grows value.level) grown))
      (expression_printed P variables names named value grown d nests rest)
  simple_printed (statements.a_load l) grown = load_printed P variables names named l grown
  simple_printed (statements.write is value) grown = λ d nests rest.
      statements.write (printed_variable P variables names named is) (pure_printed P variables names named value grown d nests rest)
  simple_printed (statements.add is value) grown = λ d nests rest.
      statements.add (printed_variable P variables names named is) (pure_printed P variables names named value grown d nests rest)
  simple_printed (statements.increment is) grown = λ d nests rest. statements.increment (printed_variable P variables names named is)
  simple_printed (statements.write_once is value) grown = λ d nests rest.
      statements.write_once (printed_variable P variables names named is)
      (pure_printed P variables names named value grown d nests (sign CloseParen ∷ rest))
  simple_printed (statements.release is value) grown = λ d nests rest.
      statements.release (printed_variable P variables names named is)
      (pure_printed P variables names named value grown d nests (sign CloseParen ∷ rest))
  simple_printed (statements.atomic_set is value) grown = λ d nests rest.
      statements.atomic_set (printed_variable P variables names named is)
      (pure_printed P variables names named value grown d nests (sign CloseParen ∷ rest))
  simple_printed (statements.atomic_add {variable = v} value is) grown = λ d nests rest.
      statements.atomic_add
      (pure_printed P variables names named value grown d nests
      (sign Comma ∷ identifier (variable_name variables v) ∷ sign CloseParen ∷ rest))
      (printed_variable P variables names named is)
  simple_printed (statements.atomic_increment is) grown = λ d nests rest.
      statements.atomic_increment (printed_variable P variables names named is)
  simple_printed (statements.atomic_decrement is) grown = λ d nests rest.
      statements.atomic_decrement (printed_variable P variables names named is)

  mark_printed : (m : Mark) → statements.IsPlainMark m → (rest : List Symbol) → Calls P (mark_symbols m rest) (call_variants.Mark m) rest
  mark_printed marks.Disable plain rest = statements.mark marks.Disable plain
  mark_printed marks.Enable plain rest = statements.mark marks.Enable plain
  mark_printed marks.NestOpen plain rest = statements.mark marks.NestOpen plain
  mark_printed marks.NestClose plain rest = statements.mark marks.NestClose plain
  mark_printed marks.FlatBegin plain rest = statements.mark marks.FlatBegin plain
  mark_printed marks.FlatEnd plain rest = statements.mark marks.FlatEnd plain
  mark_printed (marks.Next count) plain rest = absurd (plain count refl)

  call_printed : {symbols behind : List Symbol} {c : Call} → Calls P symbols c behind → (rest : List Symbol)
      → Calls P (call_symbols variables names c rest) c rest
  call_printed (statements.barrier b) rest = statements.barrier b
  call_printed (statements.lock v) rest = statements.lock (printed_variable P variables names named v)
  call_printed (statements.unlock v) rest = statements.unlock (printed_variable P variables names named v)
  call_printed (statements.assert_writer scoped v) rest = statements.assert_writer scoped (printed_variable P variables names named v)
  call_printed (statements.assert_access scoped v) rest = statements.assert_access scoped (printed_variable P variables names named v)
  call_printed (statements.assert_bits v) rest = statements.assert_bits (printed_variable P variables names named v)
  call_printed (statements.mark m plain) rest = mark_printed m plain rest
  call_printed statements.atomic_next rest = statements.atomic_next
  call_printed (statements.check write v le) rest = statements.check write (printed_variable P variables names named v) le

  -- what the printed form of a statement is: no `else` follows it
  abbrev PrintedStatement : List ℕ → tree.Statement → Type 0
  PrintedStatement counters s = (d : ℕ) → StatementNests d s → (rest : List Symbol) → IsNoElse rest
      → Statement P d counters names (statement_symbols variables names s rest) (Some s) rest names

  abbrev PrintedKept : List ℕ → Option tree.Statement → Type 0
  PrintedKept counters None = Unit {0}
  PrintedKept counters (Some s) = PrintedStatement counters s

  abbrev PrintedBlock : List ℕ → tree.Block → Type 0
  PrintedBlock counters b = (d : ℕ) → BlockNests d b → (rest : List Symbol)
      → Statements P d counters names (block_symbols variables names b (sign CloseBrace ∷ rest)) b rest names

  -- a load alone: without `data_race` it is simple
  load_alone : (counters : List ℕ) (n : ℕ) (f : tree.Fetch) → PrintedFetch P variables names named f
      → PrintedStatement counters (tree.load_only (record { data_races = n; fetch = f }))
  load_alone counters zero f printed = λ d nests rest none.
      statements.simple (no_race (fetch_symbols variables names f (sign Semicolon ∷ rest)) (fetch_begins variables names f (sign Semicolon ∷ rest)).1)
      (statements.a_load (whole_load P variables names named zero f printed d nests (sign Semicolon ∷ rest)))
  load_alone counters (suc n) f printed = λ d nests rest none.
      let more : n + 1 ≡ suc n = omega arith in
      subst (λ (k : ℕ). Statement P d counters names
      (statement_symbols variables names (tree.load_only (record { data_races = suc n; fetch = f })) rest)
      (Some (tree.load_only (record { data_races = k; fetch = f }))) rest names) more
      (statements.data_race (statements.a_load (whole_load P variables names named n f printed d nests (sign CloseParen ∷ sign Semicolon ∷ rest))))

  alone_printed : (counters : List ℕ) (x : Enclosable) → PrintedSimple counters x → PrintedStatement counters (alone x)
  alone_printed counters (statements.load l) printed = load_alone counters l.data_races l.fetch printed
  alone_printed counters (statements.assignment a) printed = λ d nests rest none.
      statements.simple (no_race (assignment_symbols variables names a (sign Semicolon ∷ rest))
      (assignment_begins variables names a (sign Semicolon ∷ rest)).1) (printed d nests (sign Semicolon ∷ rest))

  raced_printed : (counters : List ℕ) (x : Enclosable) → PrintedSimple counters x → PrintedStatement counters (raced x)
  raced_printed counters (statements.load l) printed = load_alone counters (l.data_races + 1) l.fetch printed
  raced_printed counters (statements.assignment a) printed = λ d nests rest none.
      statements.data_race (printed d nests (sign CloseParen ∷ sign Semicolon ∷ rest))

  -- a statement before others, if it is kept
  kept_printed : (counters : List ℕ) (x : Option tree.Statement) (b : tree.Block) → PrintedKept counters x → PrintedBlock counters b
      → PrintedBlock counters (kept x b)
  kept_printed counters None b one more = more
  kept_printed counters (Some s) b one more = λ d nests rest.
      let behind : List Symbol = block_symbols variables names b (sign CloseBrace ∷ rest) in
      statements.next (one d nests.0 behind (no_else behind (block_begins variables names b (sign CloseBrace ∷ rest) refl)))
      (more d nests.1 rest)

  empty_printed : (counters : List ℕ) → PrintedBlock counters tree.empty
  empty_printed counters = λ d nests rest. statements.end

  mutual
    statement_printed : {d : ℕ} {counters : List ℕ} {before later : Names} {symbols rest : List Symbol} {x : Option tree.Statement}
        → Statement P d counters before symbols x rest later → Grown later names → PrintedKept counters x
    statement_printed statements.nothing grown = tt
    statement_printed (statements.declaration integer d) grown = tt
    statement_printed (statements.given {register = r} {value = e} integer is value) grown = λ d nests rest none.
        statements.simple (no_race (assignment_symbols variables names (tree.to_register r e) (sign Semicolon ∷ rest)) refl)
        (statements.to_register (printed_changed P variables names named is (then (level_grows value.level) grown))
        (expression_printed P variables names named value grown d nests (sign Semicolon ∷ rest)))
    statement_printed (statements.simple {counters = counters} {s = s} none x) grown = alone_printed counters s (simple_printed x grown)
    statement_printed (statements.data_race {counters = counters} {s = s} x) grown = raced_printed counters s (simple_printed x grown)
    statement_printed (statements.a_call c) grown = λ d nests rest none. statements.a_call (call_printed c (sign Semicolon ∷ rest))
    statement_printed (statements.if_alone {body = b} condition body none) grown = λ d nests rest no_other.
        statements.if_alone
        (expression_printed P variables names named condition (then (body_grows body) grown) d nests.0
        (sign CloseParen ∷ sign OpenBrace ∷ block_symbols variables names b (sign CloseBrace ∷ rest)))
        (statements.braces nests.1.0 (body_printed body grown (suc d) nests.1.1 rest)) no_other
    statement_printed (statements.if_else {body = b} {otherwise = o} condition body otherwise) grown = λ d nests rest no_other.
        let last : List Symbol = word words.Else ∷ sign OpenBrace ∷ block_symbols variables names o (sign CloseBrace ∷ rest) in
        statements.if_else
        (expression_printed P variables names named condition (then (then (body_grows body) (body_grows otherwise)) grown) d nests.0
        (sign CloseParen ∷ sign OpenBrace ∷ block_symbols variables names b (sign CloseBrace ∷ last)))
        (statements.braces nests.1.0 (body_printed body (then (body_grows otherwise) grown) (suc d) nests.1.1.0 last))
        (statements.braces nests.1.0 (body_printed otherwise grown (suc d) nests.1.1.1 rest))
    statement_printed (statements.for_turns is body) grown = λ d nests rest no_other.
        statements.for_turns (printed_changed P variables names named is (then (body_grows body) grown))
        (statements.braces nests.0 (body_printed body grown (suc d) nests.1 rest))

    body_printed : {d : ℕ} {counters : List ℕ} {before later : Names} {symbols rest : List Symbol} {b : tree.Block}
        → Body P d counters before symbols b rest later → Grown later names → PrintedBlock counters b
    body_printed (statements.braces lt inside) grown = statements_printed inside grown
    body_printed (statements.one {counters = counters} {s = x} lt inside) grown =
        kept_printed counters x tree.empty (statement_printed inside grown) (empty_printed counters)

    pub statements_printed : {d : ℕ} {counters : List ℕ} {before later : Names} {symbols rest : List Symbol} {b : tree.Block}
        → Statements P d counters before symbols b rest later → Grown later names → PrintedBlock counters b
    statements_printed (statements.end {counters = counters}) grown = empty_printed counters
    statements_printed (statements.next {counters = counters} {s = x} {block = b} s later) grown =
        kept_printed counters x b (statement_printed s (then (statements_grow later) grown)) (statements_printed later grown)
