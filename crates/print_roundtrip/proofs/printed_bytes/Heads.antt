-- The head of a printed text.
use Rattle.std.proofs.Common.{◌≡◌, inr, ℕ, List, [], ◌∷◌, ◌++◌, inl, false, true, drop, length, length-append, map, refl, sym, subst, append_assoc, ap, arith}
use Rattle.std.specs.Prelude.{All}
use Rattle.std.proofs.lemmas.Bool.Decides.{nat_tests}
use Rattle.std.proofs.lemmas.List.{drop_at}
use Rattle.litmus_lex.specs.declared.bytes.Class.TheVariants.{Blank, Graphic}
use Rattle.litmus_lex.specs.declared.token.Part.TheVariants.{Init}
use Rattle.litmus_lex.specs.Bytes.{belongs, IsRun}
use Rattle.litmus_lex.specs.Head.{HasTitle, IsAtBrace, IsHead, IsText}
use Rattle.litmus_lex.specs.Tokens.{AreTokens, Placed}
use Rattle.litmus_syntax.specs.PrintedForm.{name_line}
use Rattle.litmus_lex.specs.Words.{Symbol}
use Rattle.litmus_parse.specs.Grammar.{symbol_at}
use Rattle.litmus_parse.specs.Text.{IsTextByte}
use Rattle.print_roundtrip.specs.printed_bytes.Reads.{AreText, Reads}
use Rattle.print_roundtrip.specs.printed_bytes.Programs.{IsTestName}
use Rattle.print_roundtrip.proofs.printed_bytes.Lexed.{run_before}
use Rattle.print_roundtrip.proofs.printed_bytes.TextBytes.{all_text, between, both_text, graphics_text}

graphic_no_blank : (byte : ℕ) → belongs Graphic byte ≡ true → belongs Blank byte ≡ false
graphic_no_blank byte is = grind (arith, nat_tests)

name_no_blank : (name rest : List ℕ) → IsTestName name → IsRun Blank [] (name ++ rest)
name_no_blank [] rest is = let some = is.0 in absurd (omega (arith, some))
name_no_blank (byte ∷ name) rest is = graphic_no_blank byte is.1.0

titled : (name body : List ℕ) → IsTestName name → HasTitle (name_line name ++ body) name (10 ∷ body)
titled name body is = record {
  blanks = 32 ∷ [];
  whole = ap (λ (l : List ℕ). 67 ∷ 32 ∷ l) (append_assoc name (10 ∷ []) body);
  some_blank = omega arith;
  blank = (refl, name_no_blank name (10 ∷ body) is);
  some_name = is.0;
  longest = run_before Graphic name (10 ∷ body) is.1 refl;
}

head_is : (name body : List ℕ) → IsTestName name → IsAtBrace body → IsHead (name_line name ++ body) name (length (name_line name))
head_is name body is brace = record {
  gap = [];
  titled = name_line name ++ body;
  behind = 10 ∷ body;
  passed = 10 ∷ [];
  rest = body;
  whole = refl;
  separated = ([], refl, tt);
  title = titled name body is;
  tail = refl;
  passes = ((10 ∷ []) ∷ [], refl, (inl refl, tt));
  brace = brace;
  place = sym (length-append (name_line name) body);
}

line_text : (name : List ℕ) → IsTestName name → AreText (name_line name)
line_text name is = (
  between 67 (omega arith) (omega arith),
  (
    between 32 (omega arith) (omega arith),
    both_text name (10 ∷ []) (graphics_text name [] is.1) (inr (inl refl), tt),
  ),
)

-- a text of a printed head and what is read behind it
pub text_is : (name body : List ℕ) (symbols : List Symbol) → IsTestName name → IsAtBrace body → Reads Init body symbols
    → (tokens : List Placed) × IsText (name_line name ++ body) name tokens × (map symbol_at tokens ≡ symbols)
    × All IsTextByte (name_line name ++ body)
text_is name body symbols is brace reads =
    let at = length (name_line name) in
    let read = reads.1 at in
    let behind : drop at (name_line name ++ body) ≡ body = drop_at (name_line name) body at refl in (
      read.0,
      record {
        at = at;
        head = head_is name body is brace;
        body = subst (λ (l : List ℕ). AreTokens Init at l read.0) (sym behind) read.1;
      },
      read.2,
      all_text (name_line name ++ body) (both_text (name_line name) body (line_text name is) reads.0),
    )
