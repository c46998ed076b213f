-- What is spelled as a declaration, or as the header of a loop, is read so.
use Rattle.std.proofs.Common.{◌≡◌, ◌∙◌, ℕ, ◌+◌, ◌*◌, ◌≤◌, ◌==◌, nat_lt, List, ◌∷◌, Bool, true, false, cond, Option, Some, None, map, refl, ap, subst, arith, eq-eqb}
use Rattle.std.proofs.lemmas.Bool.{eqb-true, le-ltb}
use Rattle.std.specs.Prelude.{Contains}
use Rattle.litmus_lex.specs.declared.sign.Sign.TheVariants.{OpenParen, CloseParen, Semicolon, Comma, Assign, Increment}
use Rattle.litmus_lex.specs.declared.sign.Sign.TheVariants as signs
use Rattle.litmus_syntax.specs.Tree as tree
use Rattle.litmus_lex.specs.declared.words.VariableType.{VariableType}
use Rattle.litmus_lex.specs.declared.words.Word.TheVariants as words
use Rattle.litmus_lex.specs.Front.{◌>>=◌, take_number, take_sign}
use Rattle.litmus_lex.specs.Words.{Symbol, word, identifier, number, sign}
use Rattle.litmus_expression.specs.Counters.{AreCounters}
use Rattle.litmus_expression.specs.Expressions.{Expression}
use Rattle.litmus_expression.specs.ExpressionReader.{expression_at}
use Rattle.litmus_expression.specs.Followed.{Differ, Follows, accesses, name_of}
use Rattle.litmus_expression.specs.NameReader.{free_name, parameter_named}
use Rattle.litmus_expression.specs.Names.{IsChanged, IsFree, Names, Parameter}
use Rattle.litmus_expression.specs.PlaceReader.{count_statement, take_changed}
use Rattle.litmus_expression.specs.Places.{is_counter, repeats_of}
use Rattle.litmus_expression.specs.States.{State, after, with_left}
use Rattle.litmus_expression.proofs.Complete.{expression_read, placed, register_back}
use Rattle.litmus_expression.proofs.Named.{found_at, free_named}
use Rattle.litmus_body.specs.declared.statement.LoopHeader.{LoopHeader}
use Rattle.litmus_body.specs.StatementReader.{behind_register, bound_at, counter_at, declaration_at, header_at, is_number, is_the_register, more_declared}
use Rattle.litmus_body.specs.StatementReader.{step_at, take_again, take_zero}
use Rattle.litmus_body.specs.Statements as grammar
use Rattle.litmus_body.specs.Statements.{Declared}
use Rattle.litmus_body.proofs.Declared.{more_unrolls}
use Rattle.litmus_body.proofs.statement_laws.Counts.{place}
use Rattle.litmus_body.proofs.statement_laws.HeaderSound.{header_symbols}
use Rattle.litmus_body.proofs.statement_laws.Named.{Named, numbered_named}
use Rattle.litmus_body.proofs.statement_laws.Places.{numbered_stands}

pub below_limit : (st : ℕ) → st + 1 ≤ 256 → (st == 256) ≡ false
below_limit st le = grind (arith, eqb-true st 256)

pub follows_semicolon : (rest : List Symbol) → Follows 7 (sign Semicolon ∷ rest)
follows_semicolon rest = record { no_foreign = refl; no_call = refl; weaker = λ op is. absurd cc }

pub count_there : (P : List Parameter) (st : ℕ) (symbols : List Symbol) (names : Names) (n : ℕ) → st + 1 ≤ 256
    → count_statement (placed P st symbols names n) ≡ Some (placed P (st + 1) symbols names n)
count_there P st symbols names n le = ap (λ (b : Bool). cond b None (Some (placed P (st + 1) symbols names n))) (below_limit st le)

pub free_there : (P : List Parameter) (name : List ℕ) → IsFree P name → parameter_named P name ≡ None
free_there P name free =
    free_named P name (λ p named there. free p.variable p.type (subst (λ (m : List ℕ). Contains P
    (record { name = m; variable = p.variable; type = p.type })) named there))

not_counted : (flags : List Bool) (counters : List ℕ) (register : ℕ) (b : Bool) → is_counter flags register ≡ b → AreCounters flags counters
    → ¬ Contains counters register → b ≡ false
not_counted flags counters register true is are out = absurd (out (are.listed register is))
not_counted flags counters register false is are out = refl

module _ (P : List Parameter) (apart : Differ (map name_of P)) (f : List Bool) (counters : List ℕ) (are : AreCounters f counters) where
  pub changed_there : (st : ℕ) (name : List ℕ) (register : ℕ) (names later : Names) (rest : List Symbol) (n : ℕ) → Differ names
      → IsChanged P counters names name register later
      → take_changed f (placed P st (identifier name ∷ rest) names n) ≡ Some (register, placed P st rest later n)
  unfolding take_changed
  changed_there st name register names later rest n differ is =
      ap (λ (o : Option (ℕ × State)). o >>= λ r. cond (is_counter f r.0) None (Some (r.0, after r.1)))
      (register_back P st apart name register names later rest n differ is.is)
      ∙ ap (λ (b : Bool). cond b None (Some (register, placed P st rest later n))) (not_counted f counters register
      (is_counter f register) refl are is.counts_none)

  -- ---- declarations

  declared_there : (st : ℕ) {names later : Names} {symbols rest : List Symbol} (n : ℕ) → Named names → Declared P counters names symbols rest later
      → (take_changed f (placed P st symbols names n) >>= λ r. more_declared f r.1 r.1.symbols) ≡ Some (placed P st (sign Semicolon ∷ rest) later n)
  declared_there st n named (grammar.last {register = r} {before = names} {after = later} {rest = rest} {name = name} is) =
      ap (λ (o : Option (ℕ × State)). o >>= λ r. more_declared f r.1 r.1.symbols)
      (changed_there st name r names later (sign Semicolon ∷ rest) n named.differ is)
      ∙ more_unrolls f (placed P st (sign Semicolon ∷ rest) later n) (sign Semicolon ∷ rest)
  declared_there st n named
      (grammar.more {register = r} {before = names} {between = between} {after = later} {symbols = symbols} {rest = rest} {name = name} is next) =
      ap (λ (o : Option (ℕ × State)). o >>= λ r. more_declared f r.1 r.1.symbols)
      (changed_there st name r names between (sign Comma ∷ symbols) n named.differ is)
      ∙ more_unrolls f (placed P st (sign Comma ∷ symbols) between n) (sign Comma ∷ symbols)
      ∙ declared_there st n (numbered_named name r names between named is.is.numbered) next

  abbrev ended : Option State → Option (Option tree.Statement × State)
  ended o = o >>= λ u. take_sign Semicolon u.symbols >>= λ l. Some (None, with_left u l)

  pub declaration_there : (d k t st : ℕ) (type : VariableType) {names later : Names} {symbols rest : List Symbol} (n : ℕ) → Named names
      → Declared P counters names symbols rest later
      → declaration_at (place d k t f) (placed P st (word (words.Type type) ∷ symbols) names n) ≡ Some (None, placed P st rest later n)
  unfolding declaration_at take_sign
  declaration_there d k t st type n named (grammar.last {register = r} {before = names} {after = later} {rest = rest} {name = name} is) =
      ap (λ (o : Option (ℕ × State)). o >>= λ r. behind_register (place d k t f) r.0 r.1)
      (changed_there st name r names later (sign Semicolon ∷ rest) n named.differ is)
      ∙ ap ended (more_unrolls f (placed P st (sign Semicolon ∷ rest) later n) (sign Semicolon ∷ rest))
  declaration_there d k t st type n named
      (grammar.more {register = r} {before = names} {between = between} {after = later} {symbols = symbols} {rest = rest} {name = name} is next) =
      ap (λ (o : Option (ℕ × State)). o >>= λ r. behind_register (place d k t f) r.0 r.1)
      (changed_there st name r names between (sign Comma ∷ symbols) n named.differ is)
      ∙ ap ended (more_unrolls f (placed P st (sign Comma ∷ symbols) between n) (sign Comma ∷ symbols)
      ∙ declared_there st n (numbered_named name r names between named is.is.numbered) next)

  pub given_there : (d k t st : ℕ) (type : VariableType) (name : List ℕ) (register : ℕ) (names between later : Names) (symbols rest : List Symbol) (n : ℕ)
      (value : tree.Expression) → Named names → IsChanged P counters names name register between
      → Expression P d between symbols value (sign Semicolon ∷ rest) later → st + 1 ≤ 256 → n + accesses t value ≤ 1024
      → declaration_at (place d k t f) (placed P st (word (words.Type type) ∷ identifier name ∷ sign Assign ∷ symbols) names n)
      ≡ Some (Some (tree.assign false (tree.to_register register value)), placed P (st + 1) rest later (n + accesses t value))
  unfolding declaration_at take_sign
  given_there d k t st type name register names between later symbols rest n value named is spelled le limit =
      ap (λ (o : Option (ℕ × State)). o >>= λ r. behind_register (place d k t f) r.0 r.1)
      (changed_there st name register names between (sign Assign ∷ symbols) n named.differ is)
      ∙ ap (λ (o : Option State). o >>= λ c. expression_at t d (after c) >>= λ x. take_sign Semicolon x.1.symbols >>= λ l. Some
      (Some (tree.assign false (tree.to_register register x.0)), with_left x.1 l)) (count_there P st (sign Assign ∷ symbols) between n le)
      ∙ ap (λ (o : Option (tree.Expression × State)). o >>= λ x. take_sign Semicolon x.1.symbols >>= λ l. Some
      (Some (tree.assign false (tree.to_register register x.0)), with_left x.1 l))
      (expression_read P (st + 1) t apart d between later symbols (sign Semicolon ∷ rest) value n
      (numbered_named name register names between named is.is.numbered).differ spelled (follows_semicolon rest) limit)

  -- ---- the header of a loop

  again_there : (st : ℕ) (name : List ℕ) (register : ℕ) (names later : Names) (rest : List Symbol) (n : ℕ) → Named names
      → IsChanged P counters names name register later
      → take_again register (placed P st (identifier name ∷ rest) later n) ≡ Some (placed P st rest later n)
  unfolding take_again
  again_there st name register names later rest n named is =
      let well = numbered_named name register names later named is.is.numbered in
      ap (λ (o : Option Parameter). cond (is_the_register later register (free_name name o)) (Some (placed P st rest later n)) None)
      (free_there P name is.is.free)
      ∙ ap (λ (o : Option ℕ). cond (is_number register o) (Some (placed P st rest later n)) None)
      (found_at later name register well.differ (numbered_stands name register names later is.is.numbered))
      ∙ ap (λ (b : Bool). cond b (Some (placed P st rest later n)) None) (eq-eqb register register refl)

  counter_there : (st : ℕ) (name : List ℕ) (register : ℕ) (names later : Names) (rest : List Symbol) (n : ℕ) → Named names
      → IsChanged P counters names name register later
      → counter_at f (placed P st (sign OpenParen ∷ identifier name ∷ sign Assign ∷ number 0 ∷ sign Semicolon ∷ rest) names n)
      ≡ Some (register, placed P st rest later n)
  unfolding counter_at take_sign
  counter_there st name register names later rest n named is =
      ap (λ (o : Option (ℕ × State)). o >>= λ r. take_sign Assign r.1.symbols >>= λ m. take_zero m >>= λ z. take_sign Semicolon z >>= λ l. Some
      (r.0, with_left r.1 l)) (changed_there st name register names later (sign Assign ∷ number 0 ∷ sign Semicolon ∷ rest) n named.differ is)

  repeats_there : (d k t turns : ℕ) → turns ≤ 256 → t * turns ≤ 256 → repeats_of (place d k t f) turns ≡ Some (t * turns)
  repeats_there d k t turns one two =
      ap (λ (b : Bool). cond b None (cond (nat_lt 256 (t * turns)) None (Some (t * turns)))) (le-ltb 256 turns one)
      ∙ ap (λ (b : Bool). cond b None (Some (t * turns))) (le-ltb 256 (t * turns) two)

  bound_there : (d k t st : ℕ) (name : List ℕ) (register turns : ℕ) (names later : Names) (rest : List Symbol) (n : ℕ) → Named names
      → IsChanged P counters names name register later → turns ≤ 256 → t * turns ≤ 256
      → bound_at (place d k t f) register (placed P st (identifier name ∷ sign signs.Less ∷ number turns ∷ sign Semicolon ∷ rest) later n)
      ≡ Some (record { register = register; turns = turns; repeats = t * turns }, placed P st rest later n)
  unfolding bound_at take_sign take_number
  bound_there d k t st name register turns names later rest n named is one two =
      ap (λ (o : Option State). o >>= λ u. take_sign signs.Less u.symbols >>= λ l. take_number l >>= λ m. repeats_of (place d k t f) m.0 >>= λ r.
      take_sign Semicolon m.1 >>= λ j. Some (record { register = register; turns = m.0; repeats = r }, with_left u j))
      (again_there st name register names later (sign signs.Less ∷ number turns ∷ sign Semicolon ∷ rest) n named is)
      ∙ ap (λ (o : Option ℕ). o >>= λ r. Some (record { register = register; turns = turns; repeats = r }, placed P st rest later n))
      (repeats_there d k t turns one two)

  step_there : (st : ℕ) (name : List ℕ) (register : ℕ) (names later : Names) (rest : List Symbol) (n : ℕ) → Named names
      → IsChanged P counters names name register later
      → step_at register (placed P st (identifier name ∷ sign Increment ∷ sign CloseParen ∷ rest) later n) ≡ Some (placed P st rest later n)
  unfolding step_at take_sign
  step_there st name register names later rest n named is =
      ap (λ (o : Option State). o >>= λ u. take_sign Increment u.symbols >>= λ l. take_sign CloseParen l >>= λ m. Some (with_left u m))
      (again_there st name register names later (sign Increment ∷ sign CloseParen ∷ rest) n named is)

  pub header_there : (d k t st : ℕ) (name : List ℕ) (register turns : ℕ) (names later : Names) (rest : List Symbol) (n : ℕ) → Named names
      → IsChanged P counters names name register later → turns ≤ 256 → t * turns ≤ 256
      → header_at (place d k t f) (placed P st (header_symbols name turns rest) names n)
      ≡ Some (record { register = register; turns = turns; repeats = t * turns }, placed P st rest later n)
  unfolding header_at
  header_there d k t st name register turns names later rest n named is one two =
      let stepped : List Symbol = identifier name ∷ sign Increment ∷ sign CloseParen ∷ rest in
      let bounded : List Symbol = identifier name ∷ sign signs.Less ∷ number turns ∷ sign Semicolon ∷ stepped in
      ap (λ (o : Option (ℕ × State)). o >>= λ r. bound_at (place d k t f) r.0 r.1 >>= λ h. step_at r.0 h.1 >>= λ u. Some (h.0, u))
      (counter_there st name register names later bounded n named is)
      ∙ ap (λ (o : Option (LoopHeader × State)). o >>= λ h. step_at register h.1 >>= λ u. Some (h.0, u))
      (bound_there d k t st name register turns names later stepped n named is one two)
      ∙ ap (λ (o : Option State). o >>= λ u. Some (record { register = register; turns = turns; repeats = t * turns }, u))
      (step_there st name register names later rest n named is)
