-- Statements and blocks, whatever follows.
use Rattle.std.proofs.Common.{◌+◌, ◌<◌, ℕ, List, [], ◌∷◌, ◌++◌, Bool, true, false, refl, subst, arith}
use Rattle.std.specs.Prelude.{codes}
use Rattle.std.specs.Fmt.{decimal}
use Rattle.std.proofs.lemmas.Fmt.{decimal_digit}
use Rattle.litmus_lex.specs.declared.sign.Sign.TheVariants.{CloseBrace, CloseParen, OpenBrace, OpenParen, Semicolon}
use Rattle.litmus_lex.specs.declared.token.Part.{Part}
use Rattle.litmus_lex.specs.declared.token.Part.TheVariants.{Body}
use Rattle.litmus_syntax.specs.declared.program.Variable.{Variable}
use Rattle.litmus_syntax.specs.PrintedForm.{assign_text, assignment_text, block_text, call_text, expression_text, for_head, if_head, line, load_text, name_at, statement_text}
use Rattle.litmus_syntax.specs.Tree.{Assignment, Block, Expression, Statement}
use Rattle.litmus_syntax.specs.Tree as tree
use Rattle.litmus_lex.specs.declared.words.Word.TheVariants as words
use Rattle.litmus_lex.specs.Words.{Symbol, number, sign, word, word_of}
use Rattle.litmus_expression.specs.Names.{Names}
use Rattle.print_roundtrip.specs.printed_texts.PrintedSymbols.{assign_symbols, assignment_symbols, block_symbols, expression_symbols, for_symbols, statement_symbols}
use Rattle.print_roundtrip.specs.printed_bytes.Reads.{Ends, IsIdentifier, Reads}
use Rattle.print_roundtrip.specs.printed_bytes.Expressions.{ExpressionIsSpelled, IsShort}
use Rattle.print_roundtrip.specs.printed_bytes.Statements.{AssignmentIsSpelled, BlockIsSpelled, StatementIsSpelled}
use Rattle.print_roundtrip.proofs.printed_bytes.Assignments.{assignments_read}
use Rattle.print_roundtrip.proofs.printed_bytes.Expressions.{expression_reads, load_reads}
use Rattle.print_roundtrip.proofs.printed_bytes.Calls.{calls_read}
use Rattle.print_roundtrip.proofs.printed_bytes.Lexed.{blank_reads, name_reads, number_reads}
use Rattle.print_roundtrip.proofs.printed_bytes.Pieces.{grouped}
use Rattle.print_roundtrip.proofs.printed_bytes.Signs.{Blanks, blanks_read, close_brace, closing, gives, less, one_more, open_brace, opening, rises, says, semicolon}

-- a line behind blanks
pub line_reads : {part : Part} {symbols : List Symbol} (tabs text rest : List ℕ) → Blanks tabs → Reads part (text ++ (10 ∷ rest)) symbols
    → Reads part (line tabs text ++ rest) symbols
line_reads tabs text rest blanks reads =
    grouped tabs (text ++ 10 ∷ []) rest (blanks_read tabs blanks (grouped text (10 ∷ []) rest reads))

-- a `;` and the end of the line
ending : {d : ℕ} {rest : List ℕ} {symbols : List Symbol} → Reads (Body d) rest symbols
    → Reads (Body d) (59 ∷ 10 ∷ rest) (sign Semicolon ∷ symbols)
ending reads = semicolon (blank_reads 10 refl reads)

-- the line that closes a body
close_line : {d : ℕ} {symbols : List Symbol} (tabs rest : List ℕ) → Blanks tabs → 0 < d → Reads (Body d) rest symbols
    → Reads (Body (d + 1)) (line tabs (codes "}") ++ rest) (sign CloseBrace ∷ symbols)
close_line tabs rest blanks some reads = line_reads tabs (125 ∷ []) rest blanks (close_brace some (blank_reads 10 refl reads))

-- the line between the bodies of an if
else_line : {d : ℕ} {symbols : List Symbol} (tabs rest : List ℕ) → Blanks tabs → 0 < d → Reads (Body (d + 1)) rest symbols
    → Reads (Body (d + 1)) (line tabs (codes "} else {") ++ rest) (sign CloseBrace ∷ word words.Else ∷ sign OpenBrace ∷ symbols)
unfolding word_of
else_line tabs rest blanks some reads =
    line_reads tabs (codes "} else {") rest blanks (close_brace some (blank_reads 32 refl
    (says (codes "else") words.Else refl refl refl (blank_reads 32 refl (open_brace (blank_reads 10 refl reads))))))

zero_reads : {d : ℕ} {rest : List ℕ} {symbols : List Symbol} → Ends rest → Reads (Body d) rest symbols
    → Reads (Body d) (48 ∷ rest) (number 0 ∷ symbols)
zero_reads {d = d} {rest = rest} {symbols = symbols} ends reads =
    subst (λ (l : List ℕ). Reads (Body d) (l ++ rest) (number 0 ∷ symbols)) (decimal_digit 0 (omega arith))
    (number_reads 0 (omega arith) ends reads)

-- the first line of a loop
for_head_reads : {d : ℕ} {rest : List ℕ} {symbols : List Symbol} (i : List ℕ) (turns : ℕ) → IsIdentifier i → IsShort turns
    → Reads (Body (d + 1)) rest symbols → Reads (Body d) (for_head i turns ++ rest) (for_symbols i turns symbols)
unfolding word_of
for_head_reads {rest = rest} i turns is few reads =
    says (codes "for") words.For refl refl refl (blank_reads 32 refl (opening
    (grouped i _ rest (name_reads i is refl (gives (zero_reads refl (semicolon (blank_reads 32 refl
    (grouped i _ rest (name_reads i is refl (less
    (grouped (decimal turns) _ rest (number_reads turns few refl (semicolon (blank_reads 32 refl
    (grouped i _ rest (name_reads i is refl (rises (closing (blank_reads 32 refl (open_brace reads)))))))))))))))))))))

module _ (variables : List Variable) (registers : Names) where
  -- an assignment in `data_race( )` or not, up to the end of its line
  assign_reads : {d : ℕ} {rest : List ℕ} {symbols : List Symbol} (data_race : Bool) (a : Assignment)
      → AssignmentIsSpelled variables registers a → Reads (Body d) rest symbols
      → Reads (Body d) ((assign_text data_race (assignment_text variables registers a) ++ codes ";") ++ (10 ∷ rest))
      (assign_symbols data_race (assignment_symbols variables registers a) symbols)
  unfolding word_of
  assign_reads {rest = rest} true a is reads =
      says (codes "data_race") words.DataRace refl refl refl (opening
      (grouped (assignment_text variables registers a ++ 41 ∷ []) (59 ∷ []) (10 ∷ rest)
      (grouped (assignment_text variables registers a) (41 ∷ []) (59 ∷ 10 ∷ rest)
      (assignments_read variables registers a is refl (closing (ending reads))))))
  assign_reads {rest = rest} false a is reads =
      grouped (assignment_text variables registers a) (59 ∷ []) (10 ∷ rest)
      (assignments_read variables registers a is refl (ending reads))

  if_head_reads : {d : ℕ} {rest : List ℕ} {symbols : List Symbol} (e : Expression) → ExpressionIsSpelled variables registers e
      → Reads (Body (d + 1)) rest symbols
      → Reads (Body d) (if_head (expression_text variables registers e) ++ rest)
      (word words.If ∷ sign OpenParen ∷ expression_symbols variables registers e (sign CloseParen ∷ sign OpenBrace ∷ symbols))
  unfolding word_of
  if_head_reads {rest = rest} e is reads =
      says (codes "if") words.If refl refl refl (blank_reads 32 refl (opening
      (grouped (expression_text variables registers e) _ rest (expression_reads variables registers e is refl
      (closing (blank_reads 32 refl (open_brace reads)))))))

  mutual
    pub statements_read : {d : ℕ} {symbols : List Symbol} (s : Statement) (tabs rest : List ℕ)
        → StatementIsSpelled variables registers s → Blanks tabs → 0 < d → Reads (Body d) rest symbols
        → Reads (Body d) (statement_text variables registers tabs s ++ rest) (statement_symbols variables registers s symbols)
    statements_read (tree.load_only l) tabs rest is blanks some reads =
        line_reads tabs (load_text variables registers l ++ codes ";") rest blanks
        (grouped (load_text variables registers l) (59 ∷ []) (10 ∷ rest) (load_reads variables registers l is refl (ending reads)))
    statements_read (tree.assign data_race a) tabs rest is blanks some reads =
        line_reads tabs _ rest blanks (assign_reads data_race a is reads)
    statements_read (tree.call c) tabs rest is blanks some reads =
        line_reads tabs (call_text variables c ++ codes ";") rest blanks
        (grouped (call_text variables c) (59 ∷ []) (10 ∷ rest) (calls_read variables registers c is (ending reads)))
    statements_read (tree.if_block e body) tabs rest is blanks some reads =
        grouped (line tabs (if_head (expression_text variables registers e))) _ rest
        (line_reads tabs (if_head (expression_text variables registers e)) _ blanks (if_head_reads e is.0 (blank_reads 10 refl
        (grouped (block_text variables registers (tabs ++ codes "\t") body) _ rest
        (blocks_read body (tabs ++ codes "\t") _ is.1 (one_more tabs blanks) (omega arith)
        (close_line tabs rest blanks some reads))))))
    statements_read (tree.if_else e body otherwise) tabs rest is blanks some reads =
        grouped (line tabs (if_head (expression_text variables registers e))) _ rest
        (line_reads tabs (if_head (expression_text variables registers e)) _ blanks (if_head_reads e is.0 (blank_reads 10 refl
        (grouped (block_text variables registers (tabs ++ codes "\t") body) _ rest
        (blocks_read body (tabs ++ codes "\t") _ is.1.0 (one_more tabs blanks) (omega arith)
        (grouped (line tabs (codes "} else {")) _ rest
        (else_line tabs _ blanks some
        (grouped (block_text variables registers (tabs ++ codes "\t") otherwise) _ rest
        (blocks_read otherwise (tabs ++ codes "\t") _ is.1.1 (one_more tabs blanks) (omega arith)
        (close_line tabs rest blanks some reads))))))))))
    statements_read (tree.for_turns r turns body) tabs rest is blanks some reads =
        grouped (line tabs (for_head (name_at registers r) turns)) _ rest
        (line_reads tabs (for_head (name_at registers r) turns) _ blanks (for_head_reads (name_at registers r) turns is.0 is.1.0
        (blank_reads 10 refl
        (grouped (block_text variables registers (tabs ++ codes "\t") body) _ rest
        (blocks_read body (tabs ++ codes "\t") _ is.1.1 (one_more tabs blanks) (omega arith)
        (close_line tabs rest blanks some reads))))))

    pub blocks_read : {d : ℕ} {symbols : List Symbol} (b : Block) (tabs rest : List ℕ)
        → BlockIsSpelled variables registers b → Blanks tabs → 0 < d → Reads (Body d) rest symbols
        → Reads (Body d) (block_text variables registers tabs b ++ rest) (block_symbols variables registers b symbols)
    blocks_read tree.empty tabs rest is blanks some reads = reads
    blocks_read (tree.first s more) tabs rest is blanks some reads =
        grouped (statement_text variables registers tabs s) (block_text variables registers tabs more) rest
        (statements_read s tabs (block_text variables registers tabs more ++ rest) is.0 blanks some
        (blocks_read more tabs rest is.1 blanks some reads))
