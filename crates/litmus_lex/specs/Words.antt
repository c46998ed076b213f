-- The words of the grammar, and the symbols that it is over.
use Rattle.std.specs.Prelude.{ℕ, List, [], ◌∷◌, ◌==◌, Option, Some, None, Bool, true, false, codes, if◌then◌else◌}
use Rattle.std.specs.Cmp.Lexicographic.{pointwise}
use Rattle.litmus_lex.specs.declared.sign.Sign.{Sign}
use Rattle.litmus_lex.specs.Token.{Terminal}
use Rattle.litmus_lex.specs.Token as terminals
use Rattle.litmus_syntax.specs.declared.expression.ReadForm.TheVariants as reads
use Rattle.litmus_syntax.specs.declared.statement.WriteForm.TheVariants as writes
use Rattle.litmus_syntax.specs.declared.statement.Barrier.TheVariants as barriers
use Rattle.access_types.specs.declared.history.Mark.TheVariants as marks
use Rattle.litmus_lex.specs.declared.words.Word.{Word}
use Rattle.litmus_lex.specs.declared.words.Word.TheVariants as words
use Rattle.litmus_lex.specs.declared.words.VariableType.TheVariants as types
use Rattle.litmus_lex.specs.declared.words.LoadWord.TheVariants as loads
use Rattle.litmus_lex.specs.declared.words.StoreWord.TheVariants as stores
use Rattle.litmus_lex.specs.declared.words.CallWord.TheVariants as calls

-- the words, each with what it says
abbrev pub table : List (List ℕ × Word)
table =
    (codes "char", words.Type types.Char) ∷
    (codes "short", words.Type types.Short) ∷
    (codes "int", words.Type types.Int) ∷
    (codes "long", words.Type types.Long) ∷
    (codes "atomic_t", words.Type types.Atomic) ∷
    (codes "spinlock_t", words.Type types.Lock) ∷
    (codes "ATOMIC_INIT", words.AtomicInit) ∷
    (codes "if", words.If) ∷
    (codes "else", words.Else) ∷
    (codes "for", words.For) ∷
    (codes "data_race", words.DataRace) ∷
    (codes "READ_ONCE", words.Load (loads.Read reads.Once)) ∷
    (codes "smp_load_acquire", words.Load (loads.Read reads.Acquire)) ∷
    (codes "atomic_read", words.Load (loads.Read reads.Atomic)) ∷
    (codes "xchg", words.Load loads.Exchange) ∷
    (codes "cmpxchg", words.Load loads.CompareExchange) ∷
    (codes "WRITE_ONCE", words.Store (stores.Write writes.Once)) ∷
    (codes "smp_store_release", words.Store (stores.Write writes.Release)) ∷
    (codes "atomic_set", words.Store (stores.Write writes.Atomic)) ∷
    (codes "atomic_add", words.Store stores.Add) ∷
    (codes "atomic_inc", words.Store stores.Increment) ∷
    (codes "atomic_dec", words.Store stores.Decrement) ∷
    (codes "smp_mb", words.Call (calls.Barrier barriers.Full)) ∷
    (codes "smp_rmb", words.Call (calls.Barrier barriers.Read)) ∷
    (codes "smp_wmb", words.Call (calls.Barrier barriers.Write)) ∷
    (codes "smp_mb__before_atomic", words.Call (calls.Barrier barriers.BeforeAtomic)) ∷
    (codes "smp_mb__after_atomic", words.Call (calls.Barrier barriers.AfterAtomic)) ∷
    (codes "smp_mb__after_spinlock", words.Call (calls.Barrier barriers.AfterSpinlock)) ∷
    (codes "smp_mb__after_unlock_lock", words.Call (calls.Barrier barriers.AfterUnlockLock)) ∷
    (codes "spin_lock", words.Call calls.Lock) ∷
    (codes "spin_unlock", words.Call calls.Unlock) ∷
    (codes "ASSERT_EXCLUSIVE_WRITER", words.Call (calls.AssertWriter false)) ∷
    (codes "ASSERT_EXCLUSIVE_WRITER_SCOPED", words.Call (calls.AssertWriter true)) ∷
    (codes "ASSERT_EXCLUSIVE_ACCESS", words.Call (calls.AssertAccess false)) ∷
    (codes "ASSERT_EXCLUSIVE_ACCESS_SCOPED", words.Call (calls.AssertAccess true)) ∷
    (codes "ASSERT_EXCLUSIVE_BITS", words.Call calls.AssertBits) ∷
    (codes "kcsan_disable_current", words.Call (calls.Mark marks.Disable)) ∷
    (codes "kcsan_enable_current", words.Call (calls.Mark marks.Enable)) ∷
    (codes "kcsan_nestable_atomic_begin", words.Call (calls.Mark marks.NestOpen)) ∷
    (codes "kcsan_nestable_atomic_end", words.Call (calls.Mark marks.NestClose)) ∷
    (codes "kcsan_flat_atomic_begin", words.Call (calls.Mark marks.FlatBegin)) ∷
    (codes "kcsan_flat_atomic_end", words.Call (calls.Mark marks.FlatEnd)) ∷
    (codes "kcsan_atomic_next", words.Call calls.AtomicNext) ∷
    (codes "kcsan_check_read", words.Call (calls.Check false)) ∷
    (codes "kcsan_check_write", words.Call (calls.Check true)) ∷
    (codes "exists", words.Exists) ∷
    (codes "forall", words.Forall) ∷
    (codes "true", words.True) ∷
    (codes "false", words.False) ∷
    (codes "_SCOPED", words.Scoped) ∷
    (codes "while", words.Foreign) ∷
    (codes "do", words.Foreign) ∷
    (codes "filter", words.Foreign) ∷
    (codes "locations", words.Foreign) ∷
    (codes "struct", words.Foreign) ∷
    (codes "unsigned", words.Foreign) ∷
    (codes "volatile", words.Foreign) ∷
    []

-- two names have the same bytes
abbrev pub is_same : List ℕ → List ℕ → Bool
is_same a b = pointwise ◌==◌ a b

-- the word that a name is, in a table
abbrev pub look_up : List (List ℕ × Word) → List ℕ → Option Word
look_up [] name = None
look_up (entry ∷ entries) name = if is_same entry.0 name then Some entry.1 else look_up entries name

-- the word that a name is
unfoldable pub word_of : List ℕ → Option Word
word_of = look_up table

-- what the grammar sees of a token: a word, a name that is no word, a number, a sign, or what no rule takes
pub data Symbol : Type 0 where
  word : Word → Symbol
  identifier : List ℕ → Symbol
  number : ℕ → Symbol
  sign : Sign → Symbol
  fault : Symbol

-- the symbol of a name
abbrev pub symbol_of_name : List ℕ → Option Word → Symbol
symbol_of_name name None = identifier name
symbol_of_name name (Some w) = word w

-- the symbol of a token
abbrev pub symbol_of : Terminal → Symbol
symbol_of (terminals.name bytes) = symbol_of_name bytes (word_of bytes)
symbol_of (terminals.number value) = number value
symbol_of (terminals.sign s) = sign s
symbol_of terminals.too_large = fault
symbol_of terminals.stray = fault
symbol_of terminals.unclosed = fault
