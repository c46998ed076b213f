-- Assignments and calls, whatever follows.
use Rattle.std.proofs.Common.{ℕ, List, [], ◌∷◌, ◌++◌, refl}
use Rattle.std.specs.Prelude.{codes}
use Rattle.litmus_lex.specs.declared.sign.Sign.TheVariants.{CloseParen, Comma}
use Rattle.litmus_lex.specs.declared.token.Part.TheVariants.{Body}
use Rattle.litmus_syntax.specs.declared.program.Variable.{Variable}
use Rattle.litmus_syntax.specs.declared.statement.WriteForm.{WriteForm}
use Rattle.litmus_syntax.specs.declared.statement.WriteForm.TheVariants as writes
use Rattle.litmus_syntax.specs.PrintedForm.{assignment_text, name_at, pure_text, variable_name, write_text}
use Rattle.litmus_syntax.specs.Tree.{Assignment, Pure}
use Rattle.litmus_syntax.specs.Tree as tree
use Rattle.litmus_lex.specs.declared.words.Word.TheVariants as words
use Rattle.litmus_lex.specs.declared.words.StoreWord.TheVariants as stores
use Rattle.litmus_lex.specs.Words.{Symbol, identifier, sign, word_of}
use Rattle.litmus_expression.specs.Names.{Names}
use Rattle.print_roundtrip.specs.printed_texts.PrintedSymbols.{assignment_symbols, pure_symbols, write_symbols}
use Rattle.print_roundtrip.specs.printed_bytes.Reads.{Ends, Reads}
use Rattle.print_roundtrip.specs.printed_bytes.Expressions.{IsNamed, PureIsSpelled}
use Rattle.print_roundtrip.specs.printed_bytes.Statements.{AssignmentIsSpelled}
use Rattle.print_roundtrip.proofs.printed_bytes.Expressions.{expression_reads, pure_reads}
use Rattle.print_roundtrip.proofs.printed_bytes.Lexed.{blank_reads, name_reads}
use Rattle.print_roundtrip.proofs.printed_bytes.Pieces.{grouped}
use Rattle.print_roundtrip.proofs.printed_bytes.Signs.{adds, closing, comma, gives, opening, rises, says, star}

module _ (variables : List Variable) (registers : Names) where
  -- `, ` and an expression, up to a `)`
  value_reads : {d : ℕ} {rest : List ℕ} {symbols : List Symbol} (e : Pure) → PureIsSpelled registers e → Reads (Body d) rest symbols
      → Reads (Body d) (44 ∷ 32 ∷ ((pure_text registers e ++ 41 ∷ []) ++ rest))
      (sign Comma ∷ pure_symbols variables registers e (sign CloseParen ∷ symbols))
  value_reads {rest = rest} e is reads =
      comma (blank_reads 32 refl (grouped (pure_text registers e) (41 ∷ []) rest
      (pure_reads variables registers e is refl (closing reads))))

  writes_read : {d : ℕ} {rest : List ℕ} {symbols : List Symbol} (form : WriteForm) (x : ℕ) (e : Pure) → IsNamed variables x
      → PureIsSpelled registers e → Ends rest → Reads (Body d) rest symbols
      → Reads (Body d) (write_text form (variable_name variables x) (pure_text registers e) ++ rest)
      (write_symbols variables registers form (variable_name variables x) e symbols)
  unfolding word_of
  writes_read {rest = rest} writes.Plain x e named is ends reads =
      star (grouped (variable_name variables x) _ rest (name_reads (variable_name variables x) named refl
      (gives (pure_reads variables registers e is ends reads))))
  writes_read {rest = rest} writes.Once x e named is ends reads =
      says (codes "WRITE_ONCE") (words.Store (stores.Write writes.Once)) refl refl refl
      (opening (star (grouped (variable_name variables x) _ rest (name_reads (variable_name variables x) named refl
      (value_reads e is reads)))))
  writes_read {rest = rest} writes.Release x e named is ends reads =
      says (codes "smp_store_release") (words.Store (stores.Write writes.Release)) refl refl refl
      (opening (grouped (variable_name variables x) _ rest (name_reads (variable_name variables x) named refl
      (value_reads e is reads))))
  writes_read {rest = rest} writes.Atomic x e named is ends reads =
      says (codes "atomic_set") (words.Store (stores.Write writes.Atomic)) refl refl refl
      (opening (grouped (variable_name variables x) _ rest (name_reads (variable_name variables x) named refl
      (value_reads e is reads))))

  -- the name of a variable, up to a `)`
  enclosed : {d : ℕ} {rest : List ℕ} {symbols : List Symbol} (x : ℕ) → IsNamed variables x → Reads (Body d) rest symbols
      → Reads (Body d) ((variable_name variables x ++ 41 ∷ []) ++ rest)
      (identifier (variable_name variables x) ∷ sign CloseParen ∷ symbols)
  enclosed {rest = rest} x named reads =
      grouped (variable_name variables x) (41 ∷ []) rest (name_reads (variable_name variables x) named refl (closing reads))

  pub assignments_read : {d : ℕ} {rest : List ℕ} {symbols : List Symbol} (a : Assignment) → AssignmentIsSpelled variables registers a
      → Ends rest → Reads (Body d) rest symbols
      → Reads (Body d) (assignment_text variables registers a ++ rest) (assignment_symbols variables registers a symbols)
  unfolding word_of
  assignments_read {rest = rest} (tree.to_register r e) is ends reads =
      grouped (name_at registers r) _ rest (name_reads (name_at registers r) is.0 refl
      (gives (expression_reads variables registers e is.1 ends reads)))
  assignments_read (tree.write form x e) is ends reads = writes_read form x e is.0 is.1 ends reads
  assignments_read {rest = rest} (tree.add x e) is ends reads =
      star (grouped (variable_name variables x) _ rest (name_reads (variable_name variables x) is.0 refl
      (adds (pure_reads variables registers e is.1 ends reads))))
  assignments_read {rest = rest} (tree.increment x) is ends reads =
      opening (star (grouped (variable_name variables x) _ rest (name_reads (variable_name variables x) is refl
      (closing (rises reads)))))
  assignments_read {rest = rest} (tree.atomic_add e x) is ends reads =
      says (codes "atomic_add") (words.Store stores.Add) refl refl refl
      (opening (grouped (pure_text registers e) _ rest (pure_reads variables registers e is.1 refl
      (comma (blank_reads 32 refl (enclosed x is.0 reads))))))
  assignments_read (tree.atomic_increment x) is ends reads =
      says (codes "atomic_inc") (words.Store stores.Increment) refl refl refl (opening (enclosed x is reads))
  assignments_read (tree.atomic_decrement x) is ends reads =
      says (codes "atomic_dec") (words.Store stores.Decrement) refl refl refl (opening (enclosed x is reads))
