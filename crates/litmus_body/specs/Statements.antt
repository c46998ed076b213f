-- The grammar of statements and blocks. Each relation is between the registers known before, the symbols,
-- what they spell at their front, the symbols left behind it, and the registers known after.
use Rattle.std.specs.Prelude.{◌≡◌, ◌≤◌, ◌<◌, ℕ, suc, List, ◌∷◌, Bool, true, false, Option, Some, None}
use Rattle.access_types.specs.declared.history.Mark.{Mark}
use Rattle.access_types.specs.declared.history.Mark.TheVariants.{Next}
use Rattle.litmus_lex.specs.declared.sign.Sign.TheVariants.{OpenBrace, CloseBrace, OpenParen, CloseParen, Semicolon, Comma, Assign, AddAssign, Increment, Star, Less}
use Rattle.litmus_syntax.specs.declared.statement.Barrier.{Barrier}
use Rattle.litmus_syntax.specs.declared.statement.Call.{Call}
use Rattle.litmus_syntax.specs.declared.statement.Call.TheVariants as calls
use Rattle.litmus_syntax.specs.declared.statement.WriteForm.TheVariants as writes
use Rattle.litmus_syntax.specs.Tree as tree
use Rattle.litmus_lex.specs.declared.words.VariableType.{VariableType}
use Rattle.litmus_lex.specs.declared.words.Word.TheVariants as words
use Rattle.litmus_lex.specs.declared.words.StoreWord.TheVariants as stores
use Rattle.litmus_lex.specs.declared.words.CallWord.TheVariants as asks
use Rattle.litmus_lex.specs.Words.{Symbol, word, identifier, number, sign}
use Rattle.litmus_expression.specs.Expressions.{Load, Pure, Expression, enclosed_once}
use Rattle.litmus_syntax.specs.Limits.{check_limit, nesting_limit}
use Rattle.litmus_expression.specs.Names.{Names, Parameter, IsVariable, IsInteger, IsAtomic, IsLock, HasBytes, IsChanged}

-- a load or an assignment, which may stand alone or inside data_race( )
pub data Enclosable : Type 0 where
  load : tree.Load → Enclosable
  assignment : tree.Assignment → Enclosable

-- the statement that it is alone
abbrev pub alone : Enclosable → tree.Statement
alone (load l) = tree.load_only l
alone (assignment a) = tree.assign false a

-- the statement that it is inside data_race( )
abbrev pub raced : Enclosable → tree.Statement
raced (load l) = tree.load_only (enclosed_once l)
raced (assignment a) = tree.assign true a

-- a simple statement, without what ends it
pub data Simple (parameters : List Parameter) (depth : ℕ) (counters : List ℕ) : (before : Names) → List Symbol → Enclosable → List Symbol → (after : Names) → Type 0 where
  to_register : {register : ℕ} {before between after : Names} {symbols rest : List Symbol} {name : List ℕ} {value : tree.Expression}
      → IsChanged parameters counters before name register between
      → Expression parameters depth between symbols value rest after
      → Simple parameters depth counters before (identifier name ∷ sign Assign ∷ symbols) (assignment (tree.to_register register value)) rest after
  a_load : {before after : Names} {symbols rest : List Symbol} {l : tree.Load}
      → Load parameters depth before symbols l rest after
      → Simple parameters depth counters before symbols (load l) rest after
  write : {variable : ℕ} {before after : Names} {symbols rest : List Symbol} {name : List ℕ} {value : tree.Pure}
      → IsVariable parameters IsInteger name variable
      → Pure parameters depth before symbols value rest after
      → Simple parameters depth counters before (sign Star ∷ identifier name ∷ sign Assign ∷ symbols) (assignment (tree.write writes.Plain variable value)) rest after
  add : {variable : ℕ} {before after : Names} {symbols rest : List Symbol} {name : List ℕ} {value : tree.Pure}
      → IsVariable parameters IsInteger name variable
      → Pure parameters depth before symbols value rest after
      → Simple parameters depth counters before (sign Star ∷ identifier name ∷ sign AddAssign ∷ symbols) (assignment (tree.add variable value)) rest after
  increment : {variable : ℕ} {before : Names} {rest : List Symbol} {name : List ℕ}
      → IsVariable parameters IsInteger name variable
      → Simple parameters depth counters before (sign OpenParen ∷ sign Star ∷ identifier name ∷ sign CloseParen ∷ sign Increment ∷ rest)
      (assignment (tree.increment variable)) rest before
  write_once : {variable : ℕ} {before after : Names} {symbols rest : List Symbol} {name : List ℕ} {value : tree.Pure}
      → IsVariable parameters IsInteger name variable
      → Pure parameters depth before symbols value (sign CloseParen ∷ rest) after
      → Simple parameters depth counters before (word (words.Store (stores.Write writes.Once)) ∷ sign OpenParen ∷ sign Star ∷ identifier name ∷ sign Comma ∷ symbols)
      (assignment (tree.write writes.Once variable value)) rest after
  release : {variable : ℕ} {before after : Names} {symbols rest : List Symbol} {name : List ℕ} {value : tree.Pure}
      → IsVariable parameters IsInteger name variable
      → Pure parameters depth before symbols value (sign CloseParen ∷ rest) after
      → Simple parameters depth counters before (word (words.Store (stores.Write writes.Release)) ∷ sign OpenParen ∷ identifier name ∷ sign Comma ∷ symbols)
      (assignment (tree.write writes.Release variable value)) rest after
  atomic_set : {variable : ℕ} {before after : Names} {symbols rest : List Symbol} {name : List ℕ} {value : tree.Pure}
      → IsVariable parameters IsAtomic name variable
      → Pure parameters depth before symbols value (sign CloseParen ∷ rest) after
      → Simple parameters depth counters before (word (words.Store (stores.Write writes.Atomic)) ∷ sign OpenParen ∷ identifier name ∷ sign Comma ∷ symbols)
      (assignment (tree.write writes.Atomic variable value)) rest after
  atomic_add : {variable : ℕ} {before after : Names} {symbols rest : List Symbol} {name : List ℕ} {value : tree.Pure}
      → Pure parameters depth before symbols value (sign Comma ∷ identifier name ∷ sign CloseParen ∷ rest) after
      → IsVariable parameters IsAtomic name variable
      → Simple parameters depth counters before (word (words.Store stores.Add) ∷ sign OpenParen ∷ symbols)
      (assignment (tree.atomic_add value variable)) rest after
  atomic_increment : {variable : ℕ} {before : Names} {rest : List Symbol} {name : List ℕ}
      → IsVariable parameters IsAtomic name variable
      → Simple parameters depth counters before (word (words.Store stores.Increment) ∷ sign OpenParen ∷ identifier name ∷ sign CloseParen ∷ rest)
      (assignment (tree.atomic_increment variable)) rest before
  atomic_decrement : {variable : ℕ} {before : Names} {rest : List Symbol} {name : List ℕ}
      → IsVariable parameters IsAtomic name variable
      → Simple parameters depth counters before (word (words.Store stores.Decrement) ∷ sign OpenParen ∷ identifier name ∷ sign CloseParen ∷ rest)
      (assignment (tree.atomic_decrement variable)) rest before

-- the mark is one that a word names
abbrev pub IsPlainMark : Mark → Type 0
IsPlainMark mark = (count : ℕ) → ¬ (mark ≡ Next count)

-- a call that gives no value, without what ends it
pub data Calls (parameters : List Parameter) : List Symbol → Call → List Symbol → Type 0 where
  barrier : {rest : List Symbol} (b : Barrier)
      → Calls parameters (word (words.Call (asks.Barrier b)) ∷ sign OpenParen ∷ sign CloseParen ∷ rest) (calls.Barrier b) rest
  lock : {variable : ℕ} {rest : List Symbol} {name : List ℕ}
      → IsVariable parameters IsLock name variable
      → Calls parameters (word (words.Call asks.Lock) ∷ sign OpenParen ∷ identifier name ∷ sign CloseParen ∷ rest) (calls.Lock variable) rest
  unlock : {variable : ℕ} {rest : List Symbol} {name : List ℕ}
      → IsVariable parameters IsLock name variable
      → Calls parameters (word (words.Call asks.Unlock) ∷ sign OpenParen ∷ identifier name ∷ sign CloseParen ∷ rest) (calls.Unlock variable) rest
  assert_writer : {variable : ℕ} {rest : List Symbol} {name : List ℕ} (scoped : Bool)
      → IsVariable parameters HasBytes name variable
      → Calls parameters (word (words.Call (asks.AssertWriter scoped)) ∷ sign OpenParen ∷ sign Star ∷ identifier name ∷ sign CloseParen ∷ rest)
      (calls.AssertWriter variable scoped) rest
  assert_access : {variable : ℕ} {rest : List Symbol} {name : List ℕ} (scoped : Bool)
      → IsVariable parameters HasBytes name variable
      → Calls parameters (word (words.Call (asks.AssertAccess scoped)) ∷ sign OpenParen ∷ sign Star ∷ identifier name ∷ sign CloseParen ∷ rest)
      (calls.AssertAccess variable scoped) rest
  assert_bits : {variable mask : ℕ} {rest : List Symbol} {name : List ℕ}
      → IsVariable parameters HasBytes name variable
      → Calls parameters (word (words.Call asks.AssertBits) ∷ sign OpenParen ∷ sign Star ∷ identifier name ∷ sign Comma ∷ number mask ∷ sign CloseParen ∷ rest)
      (calls.AssertBits variable mask) rest
  mark : {rest : List Symbol} (m : Mark)
      → IsPlainMark m
      → Calls parameters (word (words.Call (asks.Mark m)) ∷ sign OpenParen ∷ sign CloseParen ∷ rest) (calls.Mark m) rest
  atomic_next : {count : ℕ} {rest : List Symbol}
      → Calls parameters (word (words.Call asks.AtomicNext) ∷ sign OpenParen ∷ number count ∷ sign CloseParen ∷ rest) (calls.Mark (Next count)) rest
  check : {variable size : ℕ} {rest : List Symbol} {name : List ℕ} (write : Bool)
      → IsVariable parameters HasBytes name variable
      → size ≤ check_limit
      → Calls parameters (word (words.Call (asks.Check write)) ∷ sign OpenParen ∷ identifier name ∷ sign Comma ∷ number size ∷ sign CloseParen ∷ rest)
      (calls.Check write variable size) rest

-- REG {, REG} ;
pub data Declared (parameters : List Parameter) (counters : List ℕ) : (before : Names) → List Symbol → List Symbol → (after : Names) → Type 0 where
  last : {register : ℕ} {before after : Names} {rest : List Symbol} {name : List ℕ}
      → IsChanged parameters counters before name register after
      → Declared parameters counters before (identifier name ∷ sign Semicolon ∷ rest) rest after
  more : {register : ℕ} {before between after : Names} {symbols rest : List Symbol} {name : List ℕ}
      → IsChanged parameters counters before name register between
      → Declared parameters counters between symbols rest after
      → Declared parameters counters before (identifier name ∷ sign Comma ∷ symbols) rest after

-- the statements of a block with one before them, if it is kept
abbrev pub kept : Option tree.Statement → tree.Block → tree.Block
kept None block = block
kept (Some s) block = tree.first s block

-- the symbols don't begin with `data_race`
abbrev pub IsNoDataRace : List Symbol → Type 0
IsNoDataRace symbols = (rest : List Symbol) → ¬ (symbols ≡ word words.DataRace ∷ rest)

-- no `else` follows
abbrev pub IsNoElse : List Symbol → Type 0
IsNoElse symbols = (rest : List Symbol) → ¬ (symbols ≡ word words.Else ∷ rest)

mutual
  -- one statement, and what is kept of it, in so many open blocks and in loops that these registers count
  pub data Statement (parameters : List Parameter) : (depth : ℕ) (counters : List ℕ) (before : Names) → List Symbol → Option tree.Statement → List Symbol → (after : Names) → Type 0 where
    nothing : {depth : ℕ} {counters : List ℕ} {before : Names} {rest : List Symbol}
        → Statement parameters depth counters before (sign Semicolon ∷ rest) None rest before
    declaration : {depth : ℕ} {counters : List ℕ} {before after : Names} {symbols rest : List Symbol} {type : VariableType}
        → IsInteger type
        → Declared parameters counters before symbols rest after
        → Statement parameters depth counters before (word (words.Type type) ∷ symbols) None rest after
    given : {depth register : ℕ} {counters : List ℕ} {before between after : Names} {symbols rest : List Symbol} {type : VariableType} {name : List ℕ} {value : tree.Expression}
        → IsInteger type
        → IsChanged parameters counters before name register between
        → Expression parameters depth between symbols value (sign Semicolon ∷ rest) after
        → Statement parameters depth counters before (word (words.Type type) ∷ identifier name ∷ sign Assign ∷ symbols)
        (Some (tree.assign false (tree.to_register register value))) rest after
    simple : {depth : ℕ} {counters : List ℕ} {before after : Names} {symbols rest : List Symbol} {s : Enclosable}
        → IsNoDataRace symbols
        → Simple parameters depth counters before symbols s (sign Semicolon ∷ rest) after
        → Statement parameters depth counters before symbols (Some (alone s)) rest after
    data_race : {depth : ℕ} {counters : List ℕ} {before after : Names} {symbols rest : List Symbol} {s : Enclosable}
        → Simple parameters depth counters before symbols s (sign CloseParen ∷ sign Semicolon ∷ rest) after
        → Statement parameters depth counters before (word words.DataRace ∷ sign OpenParen ∷ symbols) (Some (raced s)) rest after
    a_call : {depth : ℕ} {counters : List ℕ} {before : Names} {symbols rest : List Symbol} {c : Call}
        → Calls parameters symbols c (sign Semicolon ∷ rest)
        → Statement parameters depth counters before symbols (Some (tree.call c)) rest before
    if_alone : {depth : ℕ} {counters : List ℕ} {before between after : Names} {symbols middle rest : List Symbol} {condition : tree.Expression} {body : tree.Block}
        → Expression parameters depth before symbols condition (sign CloseParen ∷ middle) between
        → Body parameters depth counters between middle body rest after
        → IsNoElse rest
        → Statement parameters depth counters before (word words.If ∷ sign OpenParen ∷ symbols) (Some (tree.if_block condition body)) rest after
    if_else : {depth : ℕ} {counters : List ℕ} {before between later after : Names} {symbols middle others rest : List Symbol} {condition : tree.Expression} {body otherwise : tree.Block}
        → Expression parameters depth before symbols condition (sign CloseParen ∷ middle) between
        → Body parameters depth counters between middle body (word words.Else ∷ others) later
        → Body parameters depth counters later others otherwise rest after
        → Statement parameters depth counters before (word words.If ∷ sign OpenParen ∷ symbols) (Some (tree.if_else condition body otherwise)) rest after
    for_turns : {depth register turns : ℕ} {counters : List ℕ} {before between after : Names} {symbols rest : List Symbol} {name : List ℕ} {body : tree.Block}
        → IsChanged parameters counters before name register between
        → Body parameters depth (register ∷ counters) between symbols body rest after
        → Statement parameters depth counters before
        (word words.For ∷ sign OpenParen ∷ identifier name ∷ sign Assign ∷ number 0 ∷ sign Semicolon ∷ identifier name ∷ sign Less ∷ number turns
        ∷ sign Semicolon ∷ identifier name ∷ sign Increment ∷ sign CloseParen ∷ symbols)
        (Some (tree.for_turns register turns body)) rest after

  -- a block, or one statement, which is a block of its own
  pub data Body (parameters : List Parameter) : (depth : ℕ) (counters : List ℕ) (before : Names) → List Symbol → tree.Block → List Symbol → (after : Names) → Type 0 where
    braces : {depth : ℕ} {counters : List ℕ} {before after : Names} {symbols rest : List Symbol} {block : tree.Block}
        → depth < nesting_limit
        → Statements parameters (suc depth) counters before symbols block rest after
        → Body parameters depth counters before (sign OpenBrace ∷ symbols) block rest after
    one : {depth : ℕ} {counters : List ℕ} {before after : Names} {symbols rest : List Symbol} {s : Option tree.Statement}
        → depth < nesting_limit
        → Statement parameters (suc depth) counters before symbols s rest after
        → Body parameters depth counters before symbols (kept s tree.empty) rest after

  -- statements up to the `}` of their block
  pub data Statements (parameters : List Parameter) : (depth : ℕ) (counters : List ℕ) (before : Names) → List Symbol → tree.Block → List Symbol → (after : Names) → Type 0 where
    end : {depth : ℕ} {counters : List ℕ} {before : Names} {rest : List Symbol}
        → Statements parameters depth counters before (sign CloseBrace ∷ rest) tree.empty rest before
    next : {depth : ℕ} {counters : List ℕ} {before between after : Names} {symbols middle rest : List Symbol} {s : Option tree.Statement} {block : tree.Block}
        → Statement parameters depth counters before symbols s middle between
        → Statements parameters depth counters between middle block rest after
        → Statements parameters depth counters before symbols (kept s block) rest after
