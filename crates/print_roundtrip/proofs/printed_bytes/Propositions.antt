-- Propositions and quantifiers, whatever follows.
use Rattle.std.proofs.Common.{◌≡◌, ◌≢◌, ℕ, List, [], length, ◌∷◌, ◌++◌, true, false, ◌<◌, refl, subst, arith}
use Rattle.std.specs.Prelude.{codes}
use Rattle.std.specs.Fmt.{decimal}
use Rattle.std.specs.Char.{digit_value}
use Rattle.std.specs.Str.Parse.{AllDigits}
use Rattle.std.proofs.lemmas.Bool.Decides.{nat_tests}
use Rattle.std.proofs.lemmas.Fmt.{decimal_is_IsNumeral}
use Rattle.litmus_lex.specs.declared.bytes.Class.TheVariants.{NameStart}
use Rattle.litmus_lex.specs.declared.gap.Comment.{Comment}
use Rattle.litmus_lex.specs.declared.gap.Comment.TheVariants.{Parens, Slashes, Line}
use Rattle.litmus_lex.specs.Bytes.{belongs}
use Rattle.litmus_lex.specs.Gap.{IsAtToken, Opens}
use Rattle.litmus_lex.specs.Sign.{IsLongestSign}
use Rattle.litmus_lex.specs.Token.{IsName}
use Rattle.litmus_lex.specs.declared.sign.Sign.TheVariants.{OpenParen, Colon, Assign, Tilde, Conjunction, Disjunction}
use Rattle.litmus_lex.specs.declared.token.Part.TheVariants.{Between}
use Rattle.litmus_syntax.specs.declared.program.Variable.{Variable}
use Rattle.litmus_syntax.specs.declared.proposition.Quantifier.{Quantifier}
use Rattle.litmus_syntax.specs.declared.proposition.Quantifier.TheVariants.{Exists, NotExists, Forall}
use Rattle.litmus_syntax.specs.PrintedForm.{name_at, proposition_text, quantifier_text, registers_of, variable_name}
use Rattle.litmus_syntax.specs.Tree.{Proposition, Task}
use Rattle.litmus_syntax.specs.Tree as tree
use Rattle.litmus_lex.specs.declared.words.Word.TheVariants as words
use Rattle.litmus_lex.specs.Words.{Symbol, number, sign, word_of}
use Rattle.print_roundtrip.specs.printed_texts.PrintedCondition.{proposition_symbols, quantifier_symbols}
use Rattle.print_roundtrip.specs.printed_bytes.Reads.{Ends, Reads}
use Rattle.print_roundtrip.specs.printed_bytes.Expressions.{IsShort}
use Rattle.print_roundtrip.specs.printed_bytes.Programs.{PropositionIsSpelled}
use Rattle.print_roundtrip.proofs.printed_bytes.Lexed.{blank_reads, name_reads, number_reads, sign_reads}
use Rattle.print_roundtrip.proofs.printed_bytes.Pieces.{alone, double, ended, ends_longer, grouped, grouped_behind, paren_before, plain_token}
use Rattle.print_roundtrip.proofs.printed_bytes.Signs.{closing, says, single}

tilde : {rest : List ℕ} {symbols : List Symbol} → Reads Between rest symbols → Reads Between (126 ∷ rest) (sign Tilde ∷ symbols)
tilde reads = single Tilde 126 refl refl refl (λ is. omega (arith, is)) (λ is. omega (arith, is)) reads

colon : {rest : List ℕ} {symbols : List Symbol} → Reads Between rest symbols → Reads Between (58 ∷ rest) (sign Colon ∷ symbols)
colon reads = single Colon 58 refl refl refl (λ is. omega (arith, is)) (λ is. omega (arith, is)) reads

pub quantifiers_read : {rest : List ℕ} {symbols : List Symbol} (q : Quantifier) → Ends rest → Reads Between rest symbols
    → Reads Between (quantifier_text q ++ rest) (quantifier_symbols q symbols)
unfolding word_of
quantifiers_read Exists ends reads = says (codes "exists") words.Exists refl refl ends reads
quantifiers_read NotExists ends reads = tilde (says (codes "exists") words.Exists refl refl ends reads)
quantifiers_read Forall ends reads = says (codes "forall") words.Forall refl refl ends reads

-- ---- `=` before a number

digit_ends : (c : ℕ) → digit_value c < 10 → ends_longer c ≡ false
digit_ends c small = grind (arith, nat_tests)

digits_end : (digits rest : List ℕ) → AllDigits 10 digits → 0 < length digits → IsLongestSign Assign (61 ∷ (digits ++ rest))
digits_end [] rest all some = absurd (omega (arith, some))
digits_end (c ∷ digits) rest all some = ended Assign 61 c (digits ++ rest) refl (digit_ends c all.0)

equals : {rest : List ℕ} {symbols : List Symbol} (n : ℕ) → IsShort n → Ends rest → Reads Between rest symbols
    → Reads Between (61 ∷ (decimal n ++ rest)) (sign Assign ∷ number n ∷ symbols)
equals {rest = rest} n short ends reads =
    let numeral = decimal_is_IsNumeral n short in
    sign_reads Assign (plain_token Between 61 (decimal n ++ rest) refl (λ is. omega (arith, is)) (λ is. omega (arith, is)))
    (digits_end (decimal n) rest numeral.0.1 numeral.0.0) (number_reads n short ends reads)

-- ---- `(` where no `*` follows; 42 is '*'

abbrev pub NoStar : List ℕ → Type 0
NoStar [] = Unit {0}
NoStar (b ∷ bytes) = b ≢ 42

paren_at : (bytes : List ℕ) → NoStar bytes → IsAtToken Between (40 ∷ bytes)
paren_at [] no_star = refl
paren_at (b ∷ bytes) no_star = paren_before Between b bytes no_star

pub opens : {symbols : List Symbol} (rest : List ℕ) → NoStar rest → Reads Between rest symbols
    → Reads Between (40 ∷ rest) (sign OpenParen ∷ symbols)
opens rest no_star reads = sign_reads OpenParen (paren_at rest no_star) (alone OpenParen 40 rest refl refl) reads

start_no_star : (b : ℕ) → belongs NameStart b ≡ true → b ≢ 42
start_no_star b starts is = let s : belongs NameStart 42 ≡ true = subst (λ (n : ℕ). belongs NameStart n ≡ true) is starts in absurd cc

digit_no_star : (b : ℕ) → digit_value b < 10 → b ≢ 42
digit_no_star b small is = let s : digit_value 42 < 10 = subst (λ (n : ℕ). digit_value n < 10) is small in absurd (omega (arith, s))

name_no_star : (name more rest : List ℕ) → IsName name [] → NoStar ((name ++ more) ++ rest)
name_no_star [] more rest is = absurd is
name_no_star (b ∷ name) more rest is = start_no_star b is.0

digits_no_star : (digits more rest : List ℕ) → AllDigits 10 digits → 0 < length digits → NoStar ((digits ++ more) ++ rest)
digits_no_star [] more rest all some = absurd (omega (arith, some))
digits_no_star (c ∷ digits) more rest all some = digit_no_star c all.0

-- ---- the signs of two bytes

conjunction : {rest : List ℕ} {symbols : List Symbol} → Reads Between rest symbols
    → Reads Between (47 ∷ (92 ∷ rest)) (sign Conjunction ∷ symbols)
conjunction {rest = rest} reads = sign_reads Conjunction (refl, no_comment) (double Conjunction rest refl) reads
  where
    no_comment : (comment : Comment) → ¬ Opens Between comment 47 92
    no_comment Parens opens = let is = opens.1 in absurd (omega (arith, is))
    no_comment Slashes opens = let is = opens.2 in absurd (omega (arith, is))
    no_comment Line opens = let is = opens.2 in absurd (omega (arith, is))

disjunction : {rest : List ℕ} {symbols : List Symbol} → Reads Between rest symbols
    → Reads Between (92 ∷ (47 ∷ rest)) (sign Disjunction ∷ symbols)
disjunction {rest = rest} reads = sign_reads Disjunction
    (plain_token Between 92 (47 ∷ rest) refl (λ is. omega (arith, is)) (λ is. omega (arith, is))) (double Disjunction rest refl) reads

module _ (variables : List Variable) (tasks : List Task) where
  no_star : (p : Proposition) (rest : List ℕ) → PropositionIsSpelled variables tasks p
      → NoStar (proposition_text variables tasks p ++ rest)
  no_star tree.always rest is = λ e. omega (arith, e)
  no_star tree.never rest is = λ e. omega (arith, e)
  no_star (tree.register_is k r n) rest is =
      let numeral = decimal_is_IsNumeral k is.0 in digits_no_star (decimal k) _ rest numeral.0.1 numeral.0.0
  no_star (tree.variable_is x n) rest is = name_no_star (variable_name variables x) _ rest is.0.0
  no_star (tree.negation p) rest is = λ e. omega (arith, e)
  no_star (tree.both p q) rest is = λ e. omega (arith, e)
  no_star (tree.either p q) rest is = λ e. omega (arith, e)

  pub propositions_read : (p : Proposition) (rest : List ℕ) {symbols : List Symbol} → PropositionIsSpelled variables tasks p → Ends rest
      → Reads Between rest symbols
      → Reads Between (proposition_text variables tasks p ++ rest) (proposition_symbols variables tasks p symbols)
  unfolding word_of
  propositions_read tree.always rest is ends reads = says (codes "true") words.True refl refl ends reads
  propositions_read tree.never rest is ends reads = says (codes "false") words.False refl refl ends reads
  propositions_read (tree.register_is k r n) rest is ends reads =
      grouped (decimal k) _ rest (number_reads k is.0 refl (colon
      (grouped (name_at (registers_of tasks k) r) _ rest (name_reads (name_at (registers_of tasks k) r) is.1.0 refl
      (equals n is.1.1 ends reads)))))
  propositions_read (tree.variable_is x n) rest is ends reads =
      grouped (variable_name variables x) _ rest (name_reads (variable_name variables x) is.0 refl (equals n is.1 ends reads))
  propositions_read (tree.negation p) rest is ends reads =
      opens _ (λ e. omega (arith, e)) (tilde (grouped (proposition_text variables tasks p) (41 ∷ []) rest
      (propositions_read p (41 ∷ rest) is refl (closing reads))))
  propositions_read (tree.both p q) rest is ends reads =
      grouped_behind 40 (proposition_text variables tasks p ++ _) (41 ∷ []) rest
      (grouped_behind 40 (proposition_text variables tasks p) (32 ∷ 47 ∷ 92 ∷ 32 ∷ proposition_text variables tasks q) (41 ∷ rest)
      (opens _ (no_star p _ is.0) (propositions_read p _ is.0 refl (blank_reads 32 refl (conjunction (blank_reads 32 refl
      (propositions_read q (41 ∷ rest) is.1 refl (closing reads))))))))
  propositions_read (tree.either p q) rest is ends reads =
      grouped_behind 40 (proposition_text variables tasks p ++ _) (41 ∷ []) rest
      (grouped_behind 40 (proposition_text variables tasks p) (32 ∷ 92 ∷ 47 ∷ 32 ∷ proposition_text variables tasks q) (41 ∷ rest)
      (opens _ (no_star p _ is.0) (propositions_read p _ is.0 refl (blank_reads 32 refl (disjunction (blank_reads 32 refl
      (propositions_read q (41 ∷ rest) is.1 refl (closing reads))))))))
