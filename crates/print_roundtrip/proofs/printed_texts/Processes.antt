-- The symbols of a process's printed form spell it with all its registers, where some symbols spell its body.
use Rattle.std.proofs.Common.{◌≡◌, ◌∙◌, ◌<◌, ◌≤◌, ℕ, List, [], ◌∷◌, ◌++◌, Option, None, length, map, refl, sym, ap, subst, append_assoc, arith}
use Rattle.std.specs.Prelude.{Contains, option_map, slice_get, unwrap_or}
use Rattle.std.proofs.lemmas.List.{length-append}
use Rattle.litmus_lex.specs.declared.sign.Sign.TheVariants.{CloseBrace, CloseParen, OpenBrace, Star}
use Rattle.litmus_syntax.specs.declared.program.Variable.{Variable}
use Rattle.litmus_syntax.specs.Limits.{BodyKeepsLimits}
use Rattle.litmus_syntax.specs.PrintedForm.{variable_name}
use Rattle.litmus_syntax.specs.Tree as tree
use Rattle.litmus_lex.specs.declared.words.VariableType.{VariableType}
use Rattle.litmus_lex.specs.declared.words.Word.TheVariants as words
use Rattle.litmus_lex.specs.Words.{Symbol, identifier, sign, word}
use Rattle.litmus_expression.specs.Followed.{Differ, name_of}
use Rattle.litmus_expression.specs.Names.{IsFree, Names, Parameter, known, new}
use Rattle.litmus_expression.proofs.Named.{among, in_front, in_none, in_rest}
use Rattle.litmus_body.specs.Statements as statements
use Rattle.litmus_body.specs.Statements.{Statement, Statements}
use Rattle.litmus_parse.specs.Grammar.{task_of, variable_of}
use Rattle.litmus_parse.specs.Headers as headers
use Rattle.litmus_parse.specs.Headers.{IsProcess, Listed, Parameters, Process, process_name}
use Rattle.print_roundtrip.specs.printed_texts.PrintedNames.{AreNames, IsOf}
use Rattle.print_roundtrip.specs.printed_texts.PrintedNesting.{BlockNests}
use Rattle.print_roundtrip.specs.printed_texts.PrintedProcess.{continued_symbols, declarations_symbols, listed_symbols, parameter_symbols, task_symbols}
use Rattle.print_roundtrip.specs.printed_texts.PrintedSymbols.{block_symbols}
use Rattle.print_roundtrip.proofs.printed_texts.Grown.{Grown}
use Rattle.print_roundtrip.proofs.printed_texts.Statements.{statements_printed}

-- ---- registers, each in its line

append_nothing : (names : Names) → names ++ [] ≡ names
append_nothing [] = refl
append_nothing (n ∷ names) = ap (λ (l : Names). n ∷ l) (append_nothing names)

behind_others : (xs ys : Names) (n : List ℕ) → Contains ys n → Contains (xs ++ ys) n
behind_others [] ys n there = there
behind_others (x ∷ xs) ys n there = in_rest x n (xs ++ ys) (behind_others xs ys n there)

pub not_before : (before more : Names) (r : List ℕ) → Differ (before ++ r ∷ more) → ¬ Contains before r
not_before [] more r differ = λ there. in_none r there
not_before (b ∷ before) more r differ = λ there.
    among b r before ⊥ there
    (λ same. differ.0 (subst (λ (n : List ℕ). Contains (before ++ r ∷ more) n) (sym same)
    (behind_others before (r ∷ more) r (in_front r more))))
    (λ later. not_before before more r differ.1 later)

module _ (P : List Parameter) where
  declared_all : (before more whole later : Names) (symbols rest : List Symbol) (body : tree.Block) → before ++ more ≡ whole → Differ whole
      → length whole ≤ 32 → ((name : List ℕ) → Contains more name → IsFree P name)
      → Statements P 1 [] whole symbols body rest later → Statements P 1 [] before (declarations_symbols more symbols) body rest later
  declared_all before [] whole later symbols rest body is differ few free spelled =
      subst (λ (l : Names). Statements P 1 [] l symbols body rest later) (sym (sym (append_nothing before) ∙ is)) spelled
  declared_all before (r ∷ more) whole later symbols rest body is differ few free spelled =
      let n = length-append before (r ∷ more) in
      let size : length (before ++ r ∷ more) ≡ length whole = ap (λ (l : Names). length l) is in
      let out = not_before before more r (subst (λ (l : Names). Differ l) (sym is) differ) in
      let lt : length before < 32 = omega (arith, n, size, few) in
      statements.next {s = None}
      (statements.declaration tt (statements.last (record {
        is = record { free = free r (in_front r more); numbered = new out lt };
        counts_none = λ there. in_none (length before) there;
      })))
      (declared_all (before ++ r ∷ []) more whole later symbols rest body (append_assoc before (r ∷ []) more ∙ is) differ few
      (λ name there. free name (in_rest r name more there)) spelled)

-- ---- parameters

module _ (variables : List Variable) (names : Names) where
  parameter_is : (p : Parameter) → IsOf variables names p → (rest : List Symbol)
      → parameter_symbols (slice_get variables p.variable) rest ≡ word (words.Type p.type) ∷ sign Star ∷ identifier p.name ∷ rest
  parameter_is p is rest =
      ap (λ (o : Option Variable). parameter_symbols o rest) is.there
      ∙ ap (λ (t : VariableType). word (words.Type t) ∷ sign Star ∷ identifier is.variable.name ∷ rest) is.typed
      ∙ ap (λ (n : List ℕ). word (words.Type p.type) ∷ sign Star ∷ identifier n ∷ rest) is.named

  listed_printed : (p : Parameter) (ps : List Parameter) (rest : List Symbol)
      → ((q : Parameter) → Contains (p ∷ ps) q → IsOf variables names q) → Differ (map name_of (p ∷ ps))
      → Listed names (listed_symbols variables (map variable_of (p ∷ ps)) (sign CloseParen ∷ rest)) (p ∷ ps) rest names
  listed_printed p [] rest are differ =
      let is = are p (in_front p []) in
      subst (λ (l : List Symbol). Listed names l (p ∷ []) rest names) (sym (parameter_is p is (sign CloseParen ∷ rest)))
      (headers.last (known is.numbered))
  listed_printed p (q ∷ ps) rest are differ =
      let is = are p (in_front p (q ∷ ps)) in
      let behind : List Symbol = continued_symbols variables (map variable_of (q ∷ ps)) (sign CloseParen ∷ rest) in
      subst (λ (l : List Symbol). Listed names l (p ∷ q ∷ ps) rest names) (sym (parameter_is p is behind))
      (headers.more (known is.numbered) (listed_printed q ps rest (λ r there. are r (in_rest p r (q ∷ ps) there)) differ.1) differ.0)

  parameters_printed : (ps : List Parameter) (rest : List Symbol) → ((q : Parameter) → Contains ps q → IsOf variables names q)
      → Differ (map name_of ps)
      → Parameters names (listed_symbols variables (map variable_of ps) (sign CloseParen ∷ rest)) ps rest names
  parameters_printed [] rest are differ = headers.none
  parameters_printed (p ∷ ps) rest are differ = headers.some (listed_printed p ps rest are differ)

  called : (p : Parameter) → IsOf variables names p → variable_name variables p.variable ≡ p.name
  called p is = ap (λ (o : Option Variable). unwrap_or (option_map (λ (v : Variable). v.name) o) []) is.there ∙ is.named

  -- ---- the whole process

  pub process_printed : (task : ℕ) (ps : List Parameter) (before registers : Names) (symbols behind rest : List Symbol) (body : tree.Block)
      → AreNames variables names ps registers → Statements ps 1 [] [] symbols body behind before → BodyKeepsLimits body
      → Grown before registers → BlockNests 1 body
      → IsProcess task names (task_symbols variables task (task_of (record { parameters = ps; registers = registers; body = body })) rest)
      (record { parameters = ps; registers = registers; body = body }) rest names
  process_printed task ps before registers symbols behind rest body are spelled keeps grown nests =
      let inside = statements_printed ps variables registers
      (λ name v type there. called (record { name = name; variable = v; type = type })
      (are.parameters_are (record { name = name; variable = v; type = type }) there)) spelled grown 1 nests rest in
      headers.process
      (parameters_printed ps (sign OpenBrace ∷ declarations_symbols registers (block_symbols variables registers body (sign CloseBrace ∷ rest)))
      are.parameters_are are.parameters_differ)
      (declared_all ps [] registers registers registers (block_symbols variables registers body (sign CloseBrace ∷ rest)) rest body refl
      are.registers_differ are.registers_few are.registers_free inside) keeps
