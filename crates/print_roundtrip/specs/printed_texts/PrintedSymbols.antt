-- The symbols of the printed form: those of each part, before what follows it.
use Rattle.std.specs.Prelude.{ℕ, zero, suc, Bool, true, false, List, ◌∷◌}
use Rattle.access_types.specs.declared.history.Mark.{Mark}
use Rattle.access_types.specs.declared.history.Mark.TheVariants.{Disable, Enable, NestOpen, NestClose, FlatBegin, FlatEnd, Next}
use Rattle.litmus_lex.specs.declared.sign.Sign.TheVariants.{OpenBrace, CloseBrace, OpenParen, CloseParen, Semicolon, Comma, Assign, AddAssign, Increment, Star, Less}
use Rattle.litmus_syntax.specs.Tree.{Pure, Fetch, Load, Loading, Expression, Assignment, Statement, Block}
use Rattle.litmus_syntax.specs.Tree as tree
use Rattle.litmus_syntax.specs.PrintedForm.{name_at, variable_name}
use Rattle.litmus_syntax.specs.declared.expression.ReadForm.{ReadForm}
use Rattle.litmus_syntax.specs.declared.expression.ReadForm.TheVariants as reads
use Rattle.litmus_syntax.specs.declared.program.Variable.{Variable}
use Rattle.litmus_syntax.specs.declared.statement.WriteForm.{WriteForm}
use Rattle.litmus_syntax.specs.declared.statement.WriteForm.TheVariants as writes
use Rattle.litmus_syntax.specs.declared.statement.Call.{Call}
use Rattle.litmus_syntax.specs.declared.statement.Call.TheVariants as calls
use Rattle.litmus_lex.specs.declared.words.Word.TheVariants as words
use Rattle.litmus_lex.specs.declared.words.LoadWord.TheVariants as loads
use Rattle.litmus_lex.specs.declared.words.StoreWord.TheVariants as stores
use Rattle.litmus_lex.specs.declared.words.CallWord.TheVariants as asks
use Rattle.litmus_lex.specs.Words.{Symbol, word, identifier, number, sign}
use Rattle.litmus_expression.specs.Expressions.{sign_of_binary, sign_of_unary}
use Rattle.litmus_expression.specs.Names.{Names}

-- `data_race(` so many times, and so many `)`
abbrev pub opens : ℕ → List Symbol → List Symbol
opens zero symbols = symbols
opens (suc n) symbols = word words.DataRace ∷ sign OpenParen ∷ opens n symbols

abbrev pub closes : ℕ → List Symbol → List Symbol
closes zero rest = rest
closes (suc n) rest = closes n (sign CloseParen ∷ rest)

abbrev pub read_symbols : ReadForm → List ℕ → List Symbol → List Symbol
read_symbols reads.Plain x rest = sign Star ∷ identifier x ∷ rest
read_symbols reads.Once x rest =
    word (words.Load (loads.Read reads.Once)) ∷ sign OpenParen ∷ sign Star ∷ identifier x ∷ sign CloseParen ∷ rest
read_symbols reads.Acquire x rest =
    word (words.Load (loads.Read reads.Acquire)) ∷ sign OpenParen ∷ identifier x ∷ sign CloseParen ∷ rest
read_symbols reads.Atomic x rest =
    word (words.Load (loads.Read reads.Atomic)) ∷ sign OpenParen ∷ identifier x ∷ sign CloseParen ∷ rest

abbrev pub mark_symbols : Mark → List Symbol → List Symbol
mark_symbols Disable rest = word (words.Call (asks.Mark Disable)) ∷ sign OpenParen ∷ sign CloseParen ∷ rest
mark_symbols Enable rest = word (words.Call (asks.Mark Enable)) ∷ sign OpenParen ∷ sign CloseParen ∷ rest
mark_symbols NestOpen rest = word (words.Call (asks.Mark NestOpen)) ∷ sign OpenParen ∷ sign CloseParen ∷ rest
mark_symbols NestClose rest = word (words.Call (asks.Mark NestClose)) ∷ sign OpenParen ∷ sign CloseParen ∷ rest
mark_symbols FlatBegin rest = word (words.Call (asks.Mark FlatBegin)) ∷ sign OpenParen ∷ sign CloseParen ∷ rest
mark_symbols FlatEnd rest = word (words.Call (asks.Mark FlatEnd)) ∷ sign OpenParen ∷ sign CloseParen ∷ rest
mark_symbols (Next count) rest = word (words.Call asks.AtomicNext) ∷ sign OpenParen ∷ number count ∷ sign CloseParen ∷ rest

-- a statement in `data_race( )` or not, up to its `;`
abbrev pub assign_symbols : Bool → (List Symbol → List Symbol) → List Symbol → List Symbol
assign_symbols true symbols rest = word words.DataRace ∷ sign OpenParen ∷ symbols (sign CloseParen ∷ sign Semicolon ∷ rest)
assign_symbols false symbols rest = symbols (sign Semicolon ∷ rest)

-- the first line of a loop
abbrev pub for_symbols : List ℕ → ℕ → List Symbol → List Symbol
for_symbols i turns rest =
    word words.For ∷ sign OpenParen ∷ identifier i ∷ sign Assign ∷ number 0 ∷ sign Semicolon ∷ identifier i ∷ sign Less ∷ number turns
    ∷ sign Semicolon ∷ identifier i ∷ sign Increment ∷ sign CloseParen ∷ sign OpenBrace ∷ rest

module _ (variables : List Variable) (registers : Names) where
  abbrev pub pure_symbols : Pure → List Symbol → List Symbol
  pure_symbols (tree.number n) rest = number n ∷ rest
  pure_symbols (tree.register r) rest = identifier (name_at registers r) ∷ rest
  pure_symbols (tree.unary op e) rest = sign OpenParen ∷ sign (sign_of_unary op) ∷ pure_symbols e (sign CloseParen ∷ rest)
  pure_symbols (tree.binary op a b) rest =
      sign OpenParen ∷ pure_symbols a (sign (sign_of_binary op) ∷ pure_symbols b (sign CloseParen ∷ rest))

  abbrev pub fetch_symbols : Fetch → List Symbol → List Symbol
  fetch_symbols (tree.read form x) rest = read_symbols form (variable_name variables x) rest
  fetch_symbols (tree.exchange x e) rest =
      word (words.Load loads.Exchange) ∷ sign OpenParen ∷ identifier (variable_name variables x) ∷ sign Comma
      ∷ pure_symbols e (sign CloseParen ∷ rest)
  fetch_symbols (tree.compare_exchange x e f) rest =
      word (words.Load loads.CompareExchange) ∷ sign OpenParen ∷ identifier (variable_name variables x) ∷ sign Comma
      ∷ pure_symbols e (sign Comma ∷ pure_symbols f (sign CloseParen ∷ rest))

  abbrev pub load_symbols : Load → List Symbol → List Symbol
  load_symbols l rest = opens l.data_races (fetch_symbols l.fetch (closes l.data_races rest))

  abbrev pub loading_symbols : Loading → List Symbol → List Symbol
  loading_symbols (tree.load l) rest = load_symbols l rest
  loading_symbols (tree.unary_of op e) rest = sign OpenParen ∷ sign (sign_of_unary op) ∷ loading_symbols e (sign CloseParen ∷ rest)
  loading_symbols (tree.left op a b) rest =
      sign OpenParen ∷ loading_symbols a (sign (sign_of_binary op) ∷ pure_symbols b (sign CloseParen ∷ rest))
  loading_symbols (tree.right op a b) rest =
      sign OpenParen ∷ pure_symbols a (sign (sign_of_binary op) ∷ loading_symbols b (sign CloseParen ∷ rest))

  abbrev pub expression_symbols : Expression → List Symbol → List Symbol
  expression_symbols (tree.pure e) rest = pure_symbols e rest
  expression_symbols (tree.loading e) rest = loading_symbols e rest

  abbrev pub write_symbols : WriteForm → List ℕ → Pure → List Symbol → List Symbol
  write_symbols writes.Plain x e rest = sign Star ∷ identifier x ∷ sign Assign ∷ pure_symbols e rest
  write_symbols writes.Once x e rest =
      word (words.Store (stores.Write writes.Once)) ∷ sign OpenParen ∷ sign Star ∷ identifier x ∷ sign Comma
      ∷ pure_symbols e (sign CloseParen ∷ rest)
  write_symbols writes.Release x e rest =
      word (words.Store (stores.Write writes.Release)) ∷ sign OpenParen ∷ identifier x ∷ sign Comma
      ∷ pure_symbols e (sign CloseParen ∷ rest)
  write_symbols writes.Atomic x e rest =
      word (words.Store (stores.Write writes.Atomic)) ∷ sign OpenParen ∷ identifier x ∷ sign Comma
      ∷ pure_symbols e (sign CloseParen ∷ rest)

  abbrev pub assignment_symbols : Assignment → List Symbol → List Symbol
  assignment_symbols (tree.to_register r e) rest = identifier (name_at registers r) ∷ sign Assign ∷ expression_symbols e rest
  assignment_symbols (tree.write form x e) rest = write_symbols form (variable_name variables x) e rest
  assignment_symbols (tree.add x e) rest = sign Star ∷ identifier (variable_name variables x) ∷ sign AddAssign ∷ pure_symbols e rest
  assignment_symbols (tree.increment x) rest =
      sign OpenParen ∷ sign Star ∷ identifier (variable_name variables x) ∷ sign CloseParen ∷ sign Increment ∷ rest
  assignment_symbols (tree.atomic_add e x) rest =
      word (words.Store stores.Add) ∷ sign OpenParen
      ∷ pure_symbols e (sign Comma ∷ identifier (variable_name variables x) ∷ sign CloseParen ∷ rest)
  assignment_symbols (tree.atomic_increment x) rest =
      word (words.Store stores.Increment) ∷ sign OpenParen ∷ identifier (variable_name variables x) ∷ sign CloseParen ∷ rest
  assignment_symbols (tree.atomic_decrement x) rest =
      word (words.Store stores.Decrement) ∷ sign OpenParen ∷ identifier (variable_name variables x) ∷ sign CloseParen ∷ rest

  abbrev pub call_symbols : Call → List Symbol → List Symbol
  call_symbols (calls.Barrier b) rest = word (words.Call (asks.Barrier b)) ∷ sign OpenParen ∷ sign CloseParen ∷ rest
  call_symbols (calls.Lock l) rest =
      word (words.Call asks.Lock) ∷ sign OpenParen ∷ identifier (variable_name variables l) ∷ sign CloseParen ∷ rest
  call_symbols (calls.Unlock l) rest =
      word (words.Call asks.Unlock) ∷ sign OpenParen ∷ identifier (variable_name variables l) ∷ sign CloseParen ∷ rest
  call_symbols (calls.AssertWriter x scoped) rest =
      word (words.Call (asks.AssertWriter scoped)) ∷ sign OpenParen ∷ sign Star ∷ identifier (variable_name variables x)
      ∷ sign CloseParen ∷ rest
  call_symbols (calls.AssertAccess x scoped) rest =
      word (words.Call (asks.AssertAccess scoped)) ∷ sign OpenParen ∷ sign Star ∷ identifier (variable_name variables x)
      ∷ sign CloseParen ∷ rest
  call_symbols (calls.AssertBits x mask) rest =
      word (words.Call asks.AssertBits) ∷ sign OpenParen ∷ sign Star ∷ identifier (variable_name variables x) ∷ sign Comma ∷ number mask
      ∷ sign CloseParen ∷ rest
  call_symbols (calls.Mark m) rest = mark_symbols m rest
  call_symbols (calls.Check write x size) rest =
      word (words.Call (asks.Check write)) ∷ sign OpenParen ∷ identifier (variable_name variables x) ∷ sign Comma ∷ number size
      ∷ sign CloseParen ∷ rest

  abbrev mutual
    pub statement_symbols : Statement → List Symbol → List Symbol
    statement_symbols (tree.load_only l) rest = load_symbols l (sign Semicolon ∷ rest)
    statement_symbols (tree.assign data_race a) rest = assign_symbols data_race (assignment_symbols a) rest
    statement_symbols (tree.call c) rest = call_symbols c (sign Semicolon ∷ rest)
    statement_symbols (tree.if_block e body) rest =
        word words.If ∷ sign OpenParen ∷ expression_symbols e (sign CloseParen ∷ sign OpenBrace
        ∷ block_symbols body (sign CloseBrace ∷ rest))
    statement_symbols (tree.if_else e body otherwise) rest =
        word words.If ∷ sign OpenParen ∷ expression_symbols e (sign CloseParen ∷ sign OpenBrace
        ∷ block_symbols body (sign CloseBrace ∷ word words.Else ∷ sign OpenBrace ∷ block_symbols otherwise (sign CloseBrace ∷ rest)))
    statement_symbols (tree.for_turns r turns body) rest =
        for_symbols (name_at registers r) turns (block_symbols body (sign CloseBrace ∷ rest))

    pub block_symbols : Block → List Symbol → List Symbol
    block_symbols tree.empty rest = rest
    block_symbols (tree.first s more) rest = statement_symbols s (block_symbols more rest)
