-- What is printed of a call reads back as its symbols, whatever follows.
use Rattle.std.proofs.Common.{◌≡◌, ℕ, List, [], ◌∷◌, ◌++◌, Some, true, false, refl}
use Rattle.std.specs.Prelude.{codes}
use Rattle.std.specs.Fmt.{decimal}
use Rattle.access_types.specs.declared.history.Mark.{Mark}
use Rattle.access_types.specs.declared.history.Mark.TheVariants as marks
use Rattle.litmus_lex.specs.declared.sign.Sign.TheVariants.{OpenParen, CloseParen, Comma}
use Rattle.litmus_lex.specs.declared.token.Part.TheVariants.{Body}
use Rattle.litmus_syntax.specs.declared.program.Variable.{Variable}
use Rattle.litmus_syntax.specs.declared.statement.Barrier.{Barrier}
use Rattle.litmus_syntax.specs.declared.statement.Barrier.TheVariants as barriers
use Rattle.litmus_syntax.specs.declared.statement.Call.{Call}
use Rattle.litmus_syntax.specs.declared.statement.Call.TheVariants as calls
use Rattle.litmus_syntax.specs.PrintedForm.{barrier_name, call_text, mark_text, variable_name}
use Rattle.litmus_lex.specs.declared.words.Word.TheVariants as words
use Rattle.litmus_lex.specs.declared.words.CallWord.{CallWord}
use Rattle.litmus_lex.specs.declared.words.CallWord.TheVariants as asks
use Rattle.litmus_lex.specs.Words.{Symbol, identifier, number, sign, word, word_of}
use Rattle.litmus_expression.specs.Names.{Names}
use Rattle.print_roundtrip.specs.printed_texts.PrintedSymbols.{call_symbols, mark_symbols}
use Rattle.print_roundtrip.specs.printed_bytes.Reads.{Reads}
use Rattle.print_roundtrip.specs.printed_bytes.Expressions.{IsNamed, IsShort}
use Rattle.print_roundtrip.specs.printed_bytes.Statements.{CallIsSpelled, MarkIsSpelled}
use Rattle.print_roundtrip.proofs.printed_bytes.Lexed.{blank_reads, name_reads, number_reads}
use Rattle.print_roundtrip.proofs.printed_bytes.Pieces.{grouped, is_word}
use Rattle.print_roundtrip.proofs.printed_bytes.Signs.{closing, comma, opening, says, star}

module _ (variables : List Variable) (registers : Names) where
  -- a word and `()`
  bare : {d : ℕ} {rest : List ℕ} {symbols : List Symbol} (name : List ℕ) (w : CallWord) → is_word name ≡ true
      → word_of name ≡ Some (words.Call w) → Reads (Body d) rest symbols
      → Reads (Body d) (name ++ (40 ∷ 41 ∷ rest)) (word (words.Call w) ∷ sign OpenParen ∷ sign CloseParen ∷ symbols)
  bare name w spelled is reads = says name (words.Call w) spelled is refl (opening (closing reads))

  -- the name of a variable, up to a `)`
  enclosed : {d : ℕ} {rest : List ℕ} {symbols : List Symbol} (x : ℕ) → IsNamed variables x → Reads (Body d) rest symbols
      → Reads (Body d) ((variable_name variables x ++ 41 ∷ []) ++ rest)
      (identifier (variable_name variables x) ∷ sign CloseParen ∷ symbols)
  enclosed {rest = rest} x named reads =
      grouped (variable_name variables x) (41 ∷ []) rest (name_reads (variable_name variables x) named refl (closing reads))

  -- the name of a variable and a number, up to a `)`
  sized : {d : ℕ} {rest : List ℕ} {symbols : List Symbol} (x n : ℕ) → IsNamed variables x → IsShort n → Reads (Body d) rest symbols
      → Reads (Body d) ((variable_name variables x ++ (44 ∷ 32 ∷ (decimal n ++ 41 ∷ []))) ++ rest)
      (identifier (variable_name variables x) ∷ sign Comma ∷ number n ∷ sign CloseParen ∷ symbols)
  sized {rest = rest} x n named is reads =
      grouped (variable_name variables x) _ rest (name_reads (variable_name variables x) named refl
      (comma (blank_reads 32 refl (grouped (decimal n) (41 ∷ []) rest (number_reads n is refl (closing reads))))))

  barriers_read : {d : ℕ} {rest : List ℕ} {symbols : List Symbol} (b : Barrier) → Reads (Body d) rest symbols
      → Reads (Body d) ((barrier_name b ++ codes "()") ++ rest)
      (word (words.Call (asks.Barrier b)) ∷ sign OpenParen ∷ sign CloseParen ∷ symbols)
  unfolding word_of
  barriers_read barriers.Full reads = bare (codes "smp_mb") (asks.Barrier barriers.Full) refl refl reads
  barriers_read barriers.Read reads = bare (codes "smp_rmb") (asks.Barrier barriers.Read) refl refl reads
  barriers_read barriers.Write reads = bare (codes "smp_wmb") (asks.Barrier barriers.Write) refl refl reads
  barriers_read barriers.BeforeAtomic reads =
      bare (codes "smp_mb__before_atomic") (asks.Barrier barriers.BeforeAtomic) refl refl reads
  barriers_read barriers.AfterAtomic reads =
      bare (codes "smp_mb__after_atomic") (asks.Barrier barriers.AfterAtomic) refl refl reads
  barriers_read barriers.AfterSpinlock reads =
      bare (codes "smp_mb__after_spinlock") (asks.Barrier barriers.AfterSpinlock) refl refl reads
  barriers_read barriers.AfterUnlockLock reads =
      bare (codes "smp_mb__after_unlock_lock") (asks.Barrier barriers.AfterUnlockLock) refl refl reads

  marks_read : {d : ℕ} {rest : List ℕ} {symbols : List Symbol} (m : Mark) → MarkIsSpelled m → Reads (Body d) rest symbols
      → Reads (Body d) (mark_text m ++ rest) (mark_symbols m symbols)
  unfolding word_of
  marks_read marks.Disable is reads = bare (codes "kcsan_disable_current") (asks.Mark marks.Disable) refl refl reads
  marks_read marks.Enable is reads = bare (codes "kcsan_enable_current") (asks.Mark marks.Enable) refl refl reads
  marks_read marks.NestOpen is reads = bare (codes "kcsan_nestable_atomic_begin") (asks.Mark marks.NestOpen) refl refl reads
  marks_read marks.NestClose is reads = bare (codes "kcsan_nestable_atomic_end") (asks.Mark marks.NestClose) refl refl reads
  marks_read marks.FlatBegin is reads = bare (codes "kcsan_flat_atomic_begin") (asks.Mark marks.FlatBegin) refl refl reads
  marks_read marks.FlatEnd is reads = bare (codes "kcsan_flat_atomic_end") (asks.Mark marks.FlatEnd) refl refl reads
  marks_read {rest = rest} (marks.Next n) is reads =
      says (codes "kcsan_atomic_next") (words.Call asks.AtomicNext) refl refl refl
      (opening (grouped (decimal n) (41 ∷ []) rest (number_reads n is refl (closing reads))))

  pub calls_read : {d : ℕ} {rest : List ℕ} {symbols : List Symbol} (c : Call) → CallIsSpelled variables c → Reads (Body d) rest symbols
      → Reads (Body d) (call_text variables c ++ rest) (call_symbols variables registers c symbols)
  unfolding word_of
  calls_read (calls.Barrier b) is reads = barriers_read b reads
  calls_read (calls.Lock l) is reads =
      says (codes "spin_lock") (words.Call asks.Lock) refl refl refl (opening (enclosed l is reads))
  calls_read (calls.Unlock l) is reads =
      says (codes "spin_unlock") (words.Call asks.Unlock) refl refl refl (opening (enclosed l is reads))
  calls_read (calls.AssertWriter x true) is reads =
      says (codes "ASSERT_EXCLUSIVE_WRITER_SCOPED") (words.Call (asks.AssertWriter true)) refl refl refl
      (opening (star (enclosed x is reads)))
  calls_read (calls.AssertWriter x false) is reads =
      says (codes "ASSERT_EXCLUSIVE_WRITER") (words.Call (asks.AssertWriter false)) refl refl refl
      (opening (star (enclosed x is reads)))
  calls_read (calls.AssertAccess x true) is reads =
      says (codes "ASSERT_EXCLUSIVE_ACCESS_SCOPED") (words.Call (asks.AssertAccess true)) refl refl refl
      (opening (star (enclosed x is reads)))
  calls_read (calls.AssertAccess x false) is reads =
      says (codes "ASSERT_EXCLUSIVE_ACCESS") (words.Call (asks.AssertAccess false)) refl refl refl
      (opening (star (enclosed x is reads)))
  calls_read (calls.AssertBits x mask) is reads =
      says (codes "ASSERT_EXCLUSIVE_BITS") (words.Call asks.AssertBits) refl refl refl
      (opening (star (sized x mask is.0 is.1 reads)))
  calls_read (calls.Mark m) is reads = marks_read m is reads
  calls_read (calls.Check true x size) is reads =
      says (codes "kcsan_check_write") (words.Call (asks.Check true)) refl refl refl (opening (sized x size is.0 is.1 reads))
  calls_read (calls.Check false x size) is reads =
      says (codes "kcsan_check_read") (words.Call (asks.Check false)) refl refl refl (opening (sized x size is.0 is.1 reads))
