-- Tasks, whatever follows.
use Rattle.std.proofs.Common.{◌≡◌, ◌+◌, ◌<◌, ℕ, suc, Option, Some, None, List, [], ◌∷◌, ◌++◌, true, refl, subst, arith}
use Rattle.std.specs.Prelude.{codes, slice_get}
use Rattle.std.specs.Char.{digit_value}
use Rattle.std.specs.Fmt.{decimal}
use Rattle.std.specs.Str.Parse.{AllDigits}
use Rattle.std.proofs.lemmas.Bool.Decides.{nat_tests}
use Rattle.std.proofs.lemmas.Fmt.{decimal_is_IsNumeral}
use Rattle.litmus_lex.specs.declared.bytes.Class.TheVariants.{NamePart}
use Rattle.litmus_lex.specs.declared.sign.Sign.TheVariants.{OpenBrace, CloseBrace}
use Rattle.litmus_lex.specs.declared.token.Part.TheVariants.{Between, Body}
use Rattle.litmus_lex.specs.Bytes.{belongs, IsRun}
use Rattle.litmus_syntax.specs.declared.program.Contents.{Contents}
use Rattle.litmus_syntax.specs.declared.program.Contents.TheVariants as contents
use Rattle.litmus_syntax.specs.declared.program.Variable.{Variable}
use Rattle.litmus_syntax.specs.PrintedForm.{block_text, continued, declaration, declarations, listed, parameter_of, parameter_texts, task_text, tasks_text, type_name}
use Rattle.litmus_syntax.specs.Tree.{Task}
use Rattle.litmus_lex.specs.declared.words.VariableType.TheVariants.{Int}
use Rattle.litmus_lex.specs.declared.words.Word.TheVariants as words
use Rattle.litmus_lex.specs.Words.{Symbol, sign, word_of}
use Rattle.litmus_expression.specs.Names.{Names}
use Rattle.litmus_parse.specs.Headers.{process_name}
use Rattle.print_roundtrip.specs.printed_texts.PrintedProcess.{continued_symbols, declarations_symbols, listed_symbols, parameter_symbols, task_symbols}
use Rattle.print_roundtrip.specs.printed_texts.PrintedProgram.{tasks_symbols}
use Rattle.print_roundtrip.specs.printed_bytes.Reads.{Ends, IsIdentifier, Reads}
use Rattle.print_roundtrip.specs.printed_bytes.Expressions.{IsShort}
use Rattle.print_roundtrip.specs.printed_bytes.Programs.{NamesAreSpelled, ParameterIsSpelled, ParametersAreSpelled, TasksAreSpelled}
use Rattle.print_roundtrip.proofs.printed_bytes.Items.{types_read}
use Rattle.print_roundtrip.proofs.printed_bytes.Lexed.{blank_reads, name_reads}
use Rattle.print_roundtrip.proofs.printed_bytes.Pieces.{grouped, grouped_behind}
use Rattle.print_roundtrip.proofs.printed_bytes.Propositions.{NoStar, opens}
use Rattle.print_roundtrip.proofs.printed_bytes.Signs.{closing, comma, says, semicolon, single, star}
use Rattle.print_roundtrip.proofs.printed_bytes.Statements.{blocks_read, line_reads}

-- ---- parameters

parameters_read : {rest : List ℕ} {symbols : List Symbol} (o : Option Variable) → ParameterIsSpelled o → Ends rest
    → Reads Between rest symbols → Reads Between (parameter_of o ++ rest) (parameter_symbols o symbols)
parameters_read None is ends reads = absurd is
parameters_read {rest = rest} (Some v) is ends reads =
    grouped (type_name v.contents) (32 ∷ 42 ∷ v.name) rest
    (types_read v.contents refl (blank_reads 32 refl (star (name_reads v.name is ends reads))))

continued_ends : (variables : List Variable) (ns rest : List ℕ) → Ends rest → Ends (continued (parameter_texts variables ns) ++ rest)
continued_ends variables [] rest ends = ends
continued_ends variables (n ∷ more) rest ends = refl

continued_read : {rest : List ℕ} {symbols : List Symbol} (variables : List Variable) (ns : List ℕ)
    → ParametersAreSpelled variables ns → Ends rest → Reads Between rest symbols
    → Reads Between (continued (parameter_texts variables ns) ++ rest) (continued_symbols variables ns symbols)
continued_read variables [] is ends reads = reads
continued_read {rest = rest} variables (n ∷ more) is ends reads =
    comma (blank_reads 32 refl (grouped (parameter_of (slice_get variables n)) (continued (parameter_texts variables more)) rest
    (parameters_read (slice_get variables n) is.0 (continued_ends variables more rest ends)
    (continued_read variables more is.1 ends reads))))

listed_read : {rest : List ℕ} {symbols : List Symbol} (variables : List Variable) (ns : List ℕ) → ParametersAreSpelled variables ns
    → Ends rest → Reads Between rest symbols
    → Reads Between (listed (parameter_texts variables ns) ++ rest) (listed_symbols variables ns symbols)
listed_read variables [] is ends reads = reads
listed_read {rest = rest} variables (n ∷ more) is ends reads =
    grouped (parameter_of (slice_get variables n)) (continued (parameter_texts variables more)) rest
    (parameters_read (slice_get variables n) is.0 (continued_ends variables more rest ends)
    (continued_read variables more is.1 ends reads))

type_no_star : (c : Contents) (name more rest : List ℕ) → NoStar (((type_name c ++ name) ++ more) ++ rest)
type_no_star (contents.Char n) name more rest = λ e. omega (arith, e)
type_no_star (contents.Short n) name more rest = λ e. omega (arith, e)
type_no_star (contents.Int n) name more rest = λ e. omega (arith, e)
type_no_star (contents.Long n) name more rest = λ e. omega (arith, e)
type_no_star (contents.Atomic n) name more rest = λ e. omega (arith, e)
type_no_star contents.Lock name more rest = λ e. omega (arith, e)

parameter_no_star : (o : Option Variable) (more rest : List ℕ) → ParameterIsSpelled o → NoStar ((parameter_of o ++ more) ++ rest)
parameter_no_star None more rest is = absurd is
parameter_no_star (Some v) more rest is = type_no_star v.contents (32 ∷ 42 ∷ v.name) more rest

listed_no_star : (variables : List Variable) (ns rest : List ℕ) → ParametersAreSpelled variables ns
    → NoStar (listed (parameter_texts variables ns) ++ (41 ∷ rest))
listed_no_star variables [] rest is = λ e. omega (arith, e)
listed_no_star variables (n ∷ more) rest is = parameter_no_star (slice_get variables n) _ (41 ∷ rest) is.0

-- ---- registers

declarations_read : {rest : List ℕ} {symbols : List Symbol} (names : Names) → NamesAreSpelled names → Reads (Body 1) rest symbols
    → Reads (Body 1) (declarations names ++ rest) (declarations_symbols names symbols)
unfolding word_of
declarations_read [] is reads = reads
declarations_read {rest = rest} (r ∷ more) is reads =
    grouped (declaration r) (declarations more) rest
    (line_reads (9 ∷ []) (codes "int " ++ (r ++ codes ";")) (declarations more ++ rest) (refl, tt)
    (says (codes "int") (words.Type Int) refl refl refl (blank_reads 32 refl
    (grouped r (59 ∷ []) (10 ∷ (declarations more ++ rest)) (name_reads r is.0 refl (semicolon (blank_reads 10 refl
    (declarations_read more is.1 reads))))))))

-- ---- the name of a process

digit_part : (c : ℕ) → digit_value c < 10 → belongs NamePart c ≡ true
digit_part c small = grind (arith, nat_tests)

digits_part : (digits : List ℕ) → AllDigits 10 digits → IsRun NamePart digits []
digits_part [] all = tt
digits_part (c ∷ digits) all = (digit_part c all.0, digits_part digits all.1)

process_named : (k : ℕ) → IsShort k → IsIdentifier (process_name k)
unfolding word_of
process_named k short = ((refl, digits_part (decimal k) (decimal_is_IsNumeral k short).0.1), refl)

-- ---- tasks

body_opens : {rest : List ℕ} {symbols : List Symbol} → Reads (Body 1) rest symbols
    → Reads Between (123 ∷ rest) (sign OpenBrace ∷ symbols)
body_opens reads = single OpenBrace 123 refl refl refl (λ is. omega (arith, is)) (λ is. omega (arith, is)) reads

body_closes : {rest : List ℕ} {symbols : List Symbol} → Reads Between rest symbols
    → Reads (Body 1) (125 ∷ rest) (sign CloseBrace ∷ symbols)
body_closes reads = single CloseBrace 125 refl refl refl (λ is. omega (arith, is)) (λ is. omega (arith, is)) reads

task_reads : {symbols : List Symbol} (variables : List Variable) (k : ℕ) (t : Task) (more : List Task) (rest : List ℕ)
    → TasksAreSpelled variables k (t ∷ more)
    → Reads Between rest symbols → Reads Between (task_text variables k t ++ rest) (task_symbols variables k t symbols)
task_reads variables k t more rest is reads =
    let body = grouped (block_text variables t.registers (codes "\t") t.body) (codes "}\n") rest
    (blocks_read variables t.registers t.body (9 ∷ []) (125 ∷ 10 ∷ rest) is.0.1.1.1 (refl, tt) (omega arith)
    (body_closes (blank_reads 10 refl reads))) in
    let inside = grouped (declarations t.registers) _ rest (declarations_read t.registers is.0.1.1.0 body) in
    let braced = closing (blank_reads 10 refl (body_opens (blank_reads 10 refl inside))) in
    let listed = grouped_behind 40 (listed (parameter_texts variables t.parameters)) _ rest
    (opens _ (listed_no_star variables t.parameters _ is.0.1.0) (listed_read variables t.parameters is.0.1.0 refl braced)) in
    grouped_behind 80 (decimal k) _ rest (name_reads (process_name k) (process_named k is.0.0) refl listed)

pub tasks_read : (variables : List Variable) (ts : List Task) (k : ℕ) (rest : List ℕ) {symbols : List Symbol}
    → TasksAreSpelled variables k ts
    → Reads Between rest symbols → Reads Between (tasks_text variables k ts ++ rest) (tasks_symbols variables k ts symbols)
tasks_read variables [] k rest is reads = reads
tasks_read variables (t ∷ more) k rest {symbols = symbols} is reads =
    let e : suc k ≡ k + 1 = omega arith in
    let later = subst (λ (m : ℕ). Reads Between (tasks_text variables m more ++ rest) (tasks_symbols variables (suc k) more symbols)) e
    (tasks_read variables more (suc k) rest is.1 reads) in
    grouped (task_text variables k t) (tasks_text variables (k + 1) more) rest
    (task_reads variables k t more (tasks_text variables (k + 1) more ++ rest) is later)
