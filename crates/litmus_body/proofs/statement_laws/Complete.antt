-- What is spelled as a statement or as a block is read so, where it fits the limits.
use Rattle.std.proofs.Common.{◌≡◌, ◌∙◌, ℕ, suc, ◌+◌, ◌*◌, ◌<◌, ◌≤◌, ◌==◌, List, [], ◌∷◌, Bool, true, false, cond, Option, Some, None, length, map, refl, sym, ap, arith}
use Rattle.std.proofs.lemmas.Bool.{eqb-true}
use Rattle.std.specs.Prelude.{set}
use Rattle.litmus_lex.specs.declared.sign.Sign.{Sign}
use Rattle.litmus_lex.specs.declared.sign.Sign.TheVariants.{OpenParen, CloseParen, OpenBrace, CloseBrace, Semicolon, Assign}
use Rattle.litmus_syntax.specs.Limits.{block_count, block_repeats, own_repeats}
use Rattle.litmus_syntax.specs.Tree as tree
use Rattle.litmus_syntax.specs.declared.statement.Call.{Call}
use Rattle.litmus_lex.specs.declared.words.CallWord.{CallWord}
use Rattle.litmus_lex.specs.declared.words.VariableType.{VariableType}
use Rattle.litmus_lex.specs.declared.words.VariableType.TheVariants as types
use Rattle.litmus_lex.specs.declared.words.Word.TheVariants as words
use Rattle.litmus_lex.specs.Front.{◌>>=◌, first, is_sign, take_sign}
use Rattle.litmus_lex.specs.Words.{Symbol, word, identifier, number, sign, fault}
use Rattle.litmus_expression.specs.Counters.{AreCounters}
use Rattle.litmus_expression.specs.Expressions as expressions
use Rattle.litmus_expression.specs.Expressions.{Expression}
use Rattle.litmus_expression.specs.ExpressionReader.{expression_at}
use Rattle.litmus_expression.specs.Followed.{Differ, accesses, name_of}
use Rattle.litmus_expression.specs.Names.{IsInteger, Names, Parameter}
use Rattle.litmus_expression.specs.Places.{NestingPlace, deeper}
use Rattle.litmus_expression.specs.States.{State, after, with_left}
use Rattle.litmus_expression.proofs.Complete.{expression_read, follows_close, placed}
use Rattle.litmus_expression.proofs.Taken.{bind_some, is_sign_is}
use Rattle.litmus_body.specs.declared.statement.Counted.{Counted}
use Rattle.litmus_body.specs.declared.statement.Counted.TheVariants as counteds
use Rattle.litmus_body.specs.declared.statement.LoopHeader.{LoopHeader}
use Rattle.litmus_body.specs.declared.statement.Opening.{Opening}
use Rattle.litmus_body.specs.declared.statement.Opening.TheVariants as openings
use Rattle.litmus_body.specs.CallReader.{call_accesses, call_at}
use Rattle.litmus_body.specs.Reads.{EndsSimple}
use Rattle.litmus_body.specs.SimpleReader.{data_race_at, simple_at}
use Rattle.litmus_body.specs.StatementReader.{added, behind, behind_body, block_at, body_at, counted_at, header_at, is_else, joined, more_at, opening_at, opening_of_name, opening_of_type, opening_with, readers, statement_at, statement_with}
use Rattle.litmus_body.specs.Statements as grammar
use Rattle.litmus_body.specs.Statements.{Body, Calls, Enclosable, IsNoDataRace, IsNoElse, Simple, Statement, Statements, alone, kept, raced}
use Rattle.litmus_body.proofs.Blocks.{joined_nothing}
use Rattle.litmus_body.proofs.CallLemmas.{call_is_read}
use Rattle.litmus_body.proofs.SimpleComplete.{simple_is_read}
use Rattle.litmus_body.proofs.SimpleSound.{register_accesses}
use Rattle.litmus_body.proofs.Unrolled.{block_unrolls, body_unrolls, branch_unrolls, counted_unrolls, loop_reads, more_unrolls, statement_unrolls}
use Rattle.litmus_body.proofs.statement_laws.Counts.{BlockFits, Fits, alone_count, alone_spent, behind_there, branch_spent, choice_spent, count_of}
use Rattle.litmus_body.proofs.statement_laws.Counts.{fits_first, fits_rest, kept_count, kept_spent, place, raced_count, raced_spent, scopes_behind, spent}
use Rattle.litmus_body.proofs.statement_laws.HeaderComplete.{count_there, declaration_there, follows_semicolon, free_there, given_there, header_there}
use Rattle.litmus_body.proofs.statement_laws.HeaderSound.{header_symbols}
use Rattle.litmus_body.proofs.statement_laws.Named.{Named, body_named, expression_named, numbered_named, statement_named}
use Rattle.litmus_body.proofs.statement_laws.Places.{counters_more, numbered_below}
use Rattle.litmus_body.proofs.statement_laws.Sound.{later_block}

-- ---- how a statement begins

opening_type : (type : VariableType) → IsInteger type → opening_of_type type ≡ Some openings.Declaration
opening_type types.Char is = refl
opening_type types.Short is = refl
opening_type types.Int is = refl
opening_type types.Long is = refl
opening_type types.Atomic is = absurd is
opening_type types.Lock is = absurd is

not_given : (o : Opening) → None ≡ Some o → ⊥
not_given o e = cc

-- what begins a statement is no brace
no_brace : (s : State) (t : Sign) (o : Opening) → ((u : State) → opening_with u (sign t) ≡ None) → opening_at s ≡ Some o → is_sign t (first s.symbols) ≡ false
unfolding opening_at
no_brace s t o none opens = if_so (is_sign t (first s.symbols)) refl
  where
    if_so : (b : Bool) → is_sign t (first s.symbols) ≡ b → b ≡ false
    if_so true is =
        let never : None ≡ Some o = sym (none s) ∙ ap (opening_with s) (sym (is_sign_is t (first s.symbols) is)) ∙ opens in
        absurd (not_given o never)
    if_so false is = refl

begun : (p : NestingPlace) (s : State) (x : Option tree.Statement × State) → statement_at p s ≡ Some x → (o : Opening) × (opening_at s ≡ Some o)
begun p s x e =
    let b = bind_some (opening_at s) (λ o. statement_with readers p s o) x (sym (statement_unrolls p s) ∙ e) in
    (b.0, b.1)

else_none : (rest : List Symbol) → IsNoElse rest → is_else (first rest) ≡ false
else_none [] none = refl
else_none (word words.Else ∷ rest) none = absurd (none rest refl)
else_none (word (words.Type type) ∷ rest) none = refl
else_none (word words.AtomicInit ∷ rest) none = refl
else_none (word words.If ∷ rest) none = refl
else_none (word words.For ∷ rest) none = refl
else_none (word words.DataRace ∷ rest) none = refl
else_none (word (words.Load w) ∷ rest) none = refl
else_none (word (words.Store w) ∷ rest) none = refl
else_none (word (words.Call w) ∷ rest) none = refl
else_none (word words.Exists ∷ rest) none = refl
else_none (word words.Forall ∷ rest) none = refl
else_none (word words.True ∷ rest) none = refl
else_none (word words.False ∷ rest) none = refl
else_none (word words.Scoped ∷ rest) none = refl
else_none (word words.Foreign ∷ rest) none = refl
else_none (identifier name ∷ rest) none = refl
else_none (number n ∷ rest) none = refl
else_none (sign t ∷ rest) none = refl
else_none (fault ∷ rest) none = refl

ends_semicolon : (rest : List Symbol) → EndsSimple (sign Semicolon ∷ rest)
ends_semicolon rest = record { follows = follows_semicolon rest; no_assign = refl; no_add = refl }

ends_close : (rest : List Symbol) → EndsSimple (sign CloseParen ∷ rest)
ends_close rest = record { follows = follows_close rest; no_assign = refl; no_add = refl }

-- where names of registers are known and loops are counted
pub record Starts (f : List Bool) (counters : List ℕ) (names : Names) : Type 0 where
  pub are : AreCounters f counters
  pub named : Named names

module _ (P : List Parameter) (apart : Differ (map name_of P)) where
  abbrev found : {A : Type 0} → A → List Symbol → Names → ℕ → ℕ → Option (A × State)
  found x rest names a n = Some (x, placed P a rest names n)

  same_counts : {A : Type 0} (x : A) (rest : List Symbol) (names : Names) {a b n m : ℕ} → a ≡ b → n ≡ m → found x rest names a n ≡ found x rest names b m
  same_counts x rest names {b = b} {n = n} e g =
      ap (λ (i : ℕ). found x rest names i n) e ∙ ap (λ (i : ℕ). found x rest names b i) g

  simple_opens : {d : ℕ} {counters : List ℕ} {names later : Names} {symbols rest : List Symbol} {x : Enclosable} (st n : ℕ) → IsNoDataRace symbols
      → Simple P d counters names symbols x rest later → opening_at (placed P st symbols names n) ≡ Some (openings.Counted counteds.Simple)
  unfolding opening_at
  simple_opens st n none (grammar.to_register {name = name} is value) = ap opening_of_name (free_there P name is.is.free)
  simple_opens st n none (grammar.a_load (expressions.plain is)) = refl
  simple_opens st n none (grammar.a_load (expressions.once is)) = refl
  simple_opens st n none (grammar.a_load (expressions.acquire is)) = refl
  simple_opens st n none (grammar.a_load (expressions.atomic is)) = refl
  simple_opens st n none (grammar.a_load (expressions.exchange is value)) = refl
  simple_opens st n none (grammar.a_load (expressions.compare_exchange is expected value)) = refl
  simple_opens st n none (grammar.a_load (expressions.enclosed l)) = absurd (none _ refl)
  simple_opens st n none (grammar.write is value) = refl
  simple_opens st n none (grammar.add is value) = refl
  simple_opens st n none (grammar.increment is) = refl
  simple_opens st n none (grammar.write_once is value) = refl
  simple_opens st n none (grammar.release is value) = refl
  simple_opens st n none (grammar.atomic_set is value) = refl
  simple_opens st n none (grammar.atomic_add value is) = refl
  simple_opens st n none (grammar.atomic_increment is) = refl
  simple_opens st n none (grammar.atomic_decrement is) = refl

  -- ---- from what a statement begins with

  opened : (p : NestingPlace) (s : State) (o : Opening) (x : Option (Option tree.Statement × State)) → opening_at s ≡ Some o → statement_with readers p s o ≡ x
      → statement_at p s ≡ x
  opened p s o x opens e = statement_unrolls p s ∙ ap (λ (m : Option Opening). m >>= λ o. statement_with readers p s o) opens ∙ e

  counted : (p : NestingPlace) (c : Counted) (symbols : List Symbol) (names : Names) (st n : ℕ) (y : tree.Statement) (u : State)
      → opening_at (placed P st symbols names n) ≡ Some (openings.Counted c) → st + 1 ≤ 256
      → counted_at p c (placed P (st + 1) symbols names n) ≡ Some (y, u)
      → statement_at p (placed P st symbols names n) ≡ Some (Some y, u)
  counted p c symbols names st n y u opens le e =
      opened p (placed P st symbols names n) (openings.Counted c) (Some (Some y, u)) opens
      (ap (λ (o : Option State). o >>= λ s. counted_at p c s >>= λ x. Some (Some x.0, x.1)) (count_there P st symbols names n le)
      ∙ ap (λ (o : Option (tree.Statement × State)). o >>= λ x. Some (Some x.0, x.1)) e)

  simple_there : (p : NestingPlace) (symbols rest : List Symbol) (names later : Names) (st n m : ℕ) (x : Enclosable)
      → simple_at p (placed P st symbols names n) ≡ Some (x, placed P st (sign Semicolon ∷ rest) later m)
      → counted_at p counteds.Simple (placed P st symbols names n) ≡ Some (alone x, placed P st rest later m)
  unfolding take_sign
  simple_there p symbols rest names later st n m x inside =
      counted_unrolls p counteds.Simple (placed P st symbols names n)
      ∙ ap (λ (o : Option (Enclosable × State)). o >>= λ z. take_sign Semicolon z.1.symbols >>= λ l. Some (alone z.0, with_left z.1 l)) inside

  race_there : (p : NestingPlace) (symbols rest : List Symbol) (names later : Names) (st n m : ℕ) (x : Enclosable)
      → simple_at p (placed P st symbols names n) ≡ Some (x, placed P st (sign CloseParen ∷ sign Semicolon ∷ rest) later m)
      → counted_at p counteds.DataRace (placed P st (word words.DataRace ∷ sign OpenParen ∷ symbols) names n) ≡ Some (raced x, placed P st rest later m)
  unfolding data_race_at take_sign
  race_there p symbols rest names later st n m x inside =
      counted_unrolls p counteds.DataRace (placed P st (word words.DataRace ∷ sign OpenParen ∷ symbols) names n)
      ∙ ap (λ (o : Option (Enclosable × State)). o >>= λ z. take_sign CloseParen z.1.symbols >>= λ c. take_sign Semicolon c >>= λ l. Some
      (raced z.0, with_left z.1 l)) inside

  call_there : (d k t : ℕ) (f : List Bool) (w : CallWord) (symbols rest : List Symbol) (names : Names) (st n m : ℕ) (c : Call)
      → call_at t k w (placed P st symbols names n) ≡ Some (c, placed P st (sign Semicolon ∷ rest) names m)
      → counted_at (place d k t f) (counteds.Call w) (placed P st symbols names n) ≡ Some (tree.call c, placed P st rest names m)
  unfolding take_sign
  call_there d k t f w symbols rest names st n m c inside =
      counted_unrolls (place d k t f) (counteds.Call w) (placed P st symbols names n)
      ∙ ap (λ (o : Option (Call × State)). o >>= λ z. take_sign Semicolon z.1.symbols >>= λ l. Some (tree.call z.0, with_left z.1 l)) inside

  -- an `if` up to its body
  branch_there : (d k t : ℕ) (f : List Bool) (symbols middle : List Symbol) (names between : Names) (st n m : ℕ) (condition : tree.Expression)
      (body : tree.Block)
      (u : State)
      → expression_at t d (placed P st symbols names n) ≡ Some (condition, placed P st (sign CloseParen ∷ middle) between m)
      → body_at (place d k t f) (placed P st middle between m) ≡ Some (body, u)
      → counted_at (place d k t f) counteds.If (placed P st (word words.If ∷ sign OpenParen ∷ symbols) names n)
      ≡ behind_body readers (place d k t f) condition body u
  unfolding take_sign
  branch_there d k t f symbols middle names between st n m condition body u tested inside =
      let p = place d k t f in
      let s = placed P st (word words.If ∷ sign OpenParen ∷ symbols) names n in
      counted_unrolls p counteds.If s
      ∙ branch_unrolls p s
      ∙ ap (λ (o : Option (tree.Expression × State)). o >>= λ c. take_sign CloseParen c.1.symbols >>= λ l. body_at p (with_left c.1 l) >>= λ b.
      behind_body readers p c.0 b.0 b.1) tested
      ∙ ap (λ (o : Option (tree.Block × State)). o >>= λ b. behind_body readers p condition b.0 b.1) inside

  alone_there : (p : NestingPlace) (condition : tree.Expression) (body : tree.Block) (rest : List Symbol) (names : Names) (st n : ℕ) → IsNoElse rest
      → behind_body readers p condition body (placed P st rest names n) ≡ Some (tree.if_block condition body, placed P st rest names n)
  alone_there p condition body rest names st n none =
      let s = placed P st rest names n in
      ap (λ (b : Bool). cond b (body_at p (after s) >>= λ x. Some (tree.if_else condition body x.0, x.1)) (Some (tree.if_block condition body, s)))
      (else_none rest none)

  otherwise_there : (p : NestingPlace) (condition : tree.Expression) (body otherwise : tree.Block) (symbols : List Symbol) (names : Names) (st n : ℕ) (u : State)
      → body_at p (placed P st symbols names n) ≡ Some (otherwise, u)
      → behind_body readers p condition body (placed P st (word words.Else ∷ symbols) names n) ≡ Some (tree.if_else condition body otherwise, u)
  otherwise_there p condition body otherwise symbols names st n u inside =
      ap (λ (o : Option (tree.Block × State)). o >>= λ x. Some (tree.if_else condition body x.0, x.1)) inside

  loop_there : (d k t : ℕ) (f : List Bool) (name : List ℕ) (register turns : ℕ) (symbols : List Symbol) (names between : Names) (st n : ℕ)
      (body : tree.Block) (u : State)
      → header_at (place d k t f) (placed P st (header_symbols name turns symbols) names n)
      ≡ Some (record { register = register; turns = turns; repeats = t * turns }, placed P st symbols between n)
      → body_at (place d k (t * turns) (set f register true)) (placed P st symbols between n) ≡ Some (body, u)
      → counted_at (place d k t f) counteds.For (placed P st (word words.For ∷ header_symbols name turns symbols) names n)
      ≡ Some (tree.for_turns register turns body, u)
  loop_there d k t f name register turns symbols names between st n body u header inside =
      let p = place d k t f in
      let s = placed P st (word words.For ∷ header_symbols name turns symbols) names n in
      let h : LoopHeader = record { register = register; turns = turns; repeats = t * turns } in
      counted_unrolls p counteds.For s
      ∙ loop_reads p (place d k (t * turns) (set f register true)) s (placed P st symbols between n) u h body header refl inside

  empty_opens : (rest : List Symbol) (names : Names) (st n : ℕ) → opening_at (placed P st (sign Semicolon ∷ rest) names n) ≡ Some openings.Empty
  unfolding opening_at
  empty_opens rest names st n = refl

  type_opens : (type : VariableType) (symbols : List Symbol) (names : Names) (st n : ℕ) → IsInteger type
      → opening_at (placed P st (word (words.Type type) ∷ symbols) names n) ≡ Some openings.Declaration
  unfolding opening_at
  type_opens type symbols names st n integer = opening_type type integer

  race_opens : (symbols : List Symbol) (names : Names) (st n : ℕ)
      → opening_at (placed P st (word words.DataRace ∷ symbols) names n) ≡ Some (openings.Counted counteds.DataRace)
  unfolding opening_at
  race_opens symbols names st n = refl

  if_opens : (symbols : List Symbol) (names : Names) (st n : ℕ)
      → opening_at (placed P st (word words.If ∷ symbols) names n) ≡ Some (openings.Counted counteds.If)
  unfolding opening_at
  if_opens symbols names st n = refl

  for_opens : (symbols : List Symbol) (names : Names) (st n : ℕ)
      → opening_at (placed P st (word words.For ∷ symbols) names n) ≡ Some (openings.Counted counteds.For)
  unfolding opening_at
  for_opens symbols names st n = refl

  call_opens : (w : CallWord) (symbols : List Symbol) (names : Names) (st n : ℕ) → first symbols ≡ word (words.Call w)
      → opening_at (placed P st symbols names n) ≡ Some (openings.Counted (counteds.Call w))
  unfolding opening_at
  call_opens w symbols names st n next = ap (opening_with (placed P st symbols names n)) next

  -- ---- blocks

  inside_there : (d k t : ℕ) (f : List Bool) → d < 16 → deeper (place d k t f) ≡ Some (place (suc d) k t f)
  inside_there d k t f lt =
      let no : (d == 16) ≡ false = grind (arith, eqb-true d 16) in
      let depth_is : d + 1 ≡ suc d = omega arith in
      ap (λ (b : Bool). cond b None (Some (place (d + 1) k t f))) no ∙ ap (λ (i : ℕ). Some (place i k t f)) depth_is

  pub block_there : (d k t : ℕ) (f : List Bool) (symbols : List Symbol) (names : Names) (st n : ℕ) (x : Option (tree.Block × State)) → d < 16
      → more_at (place (suc d) k t f) tree.empty (placed P st symbols names n) ≡ x
      → block_at (place d k t f) (placed P st (sign OpenBrace ∷ symbols) names n) ≡ x
  block_there d k t f symbols names st n x lt inside =
      block_unrolls (place d k t f) (placed P st (sign OpenBrace ∷ symbols) names n)
      ∙ ap (λ (o : Option NestingPlace). o >>= λ q. more_at q tree.empty (placed P st symbols names n)) (inside_there d k t f lt)
      ∙ inside

  one_there : (d k t : ℕ) (f : List Bool) (s u : State) (x : Option tree.Statement) → d < 16 → statement_at (place (suc d) k t f) s ≡ Some (x, u)
      → body_at (place d k t f) s ≡ Some (kept x tree.empty, u)
  one_there d k t f s u x lt inside =
      let p = place d k t f in
      let o = begun (place (suc d) k t f) s (x, u) inside in
      body_unrolls p s
      ∙ ap (λ (b : Bool). cond b (block_at p s) (opening_at s >>= λ o. deeper p >>= λ q. statement_at q s >>= λ z. Some (kept z.0 tree.empty, z.1)))
      (no_brace s OpenBrace o.0 (λ u. refl) o.1)
      ∙ ap (λ (m : Option Opening). m >>= λ o. deeper p >>= λ q. statement_at q s >>= λ z. Some (kept z.0 tree.empty, z.1)) o.1
      ∙ ap (λ (m : Option NestingPlace). m >>= λ q. statement_at q s >>= λ z. Some (kept z.0 tree.empty, z.1)) (inside_there d k t f lt)
      ∙ ap (λ (m : Option (Option tree.Statement × State)). m >>= λ z. Some (kept z.0 tree.empty, z.1)) inside

  next_there : (p q : NestingPlace) (before : tree.Block) (s u : State) (x : Option tree.Statement) → statement_at p s ≡ Some (x, u) → behind p x ≡ Some q
      → more_at p before s ≡ more_at q (added before x) u
  next_there p q before s u x one later =
      let o = begun p s (x, u) one in
      more_unrolls p before s
      ∙ ap (λ (b : Bool). cond b (Some (before, after s)) (statement_at p s >>= λ z. behind p z.0 >>= λ q. more_at q (added before z.0) z.1))
      (no_brace s CloseBrace o.0 (λ u. refl) o.1)
      ∙ ap (λ (m : Option (Option tree.Statement × State)). m >>= λ z. behind p z.0 >>= λ q. more_at q (added before z.0) z.1) one
      ∙ ap (λ (m : Option NestingPlace). m >>= λ q. more_at q (added before x) u) later

  -- ---- each rule

  mutual
    pub statement_is_read : {d : ℕ} {counters : List ℕ} {names later : Names} {symbols rest : List Symbol} {x : Option tree.Statement}
        → Statement P d counters names symbols x rest later → (k t : ℕ) (f : List Bool) (st n : ℕ) → Starts f counters names → Fits k t st n x
        → statement_at (place d k t f) (placed P st symbols names n) ≡ Some (x, placed P (st + count_of x) rest later (n + spent t x))
    statement_is_read (grammar.nothing {depth = d} {before = names} {rest = rest}) k t f st n starts fits =
        let a : st ≡ st + 0 = omega arith in
        let b : n ≡ n + 0 = omega arith in
        opened (place d k t f) (placed P st (sign Semicolon ∷ rest) names n) openings.Empty (Some (None, placed P st rest names n))
        (empty_opens rest names st n) refl
        ∙ same_counts None rest names a b
    statement_is_read (grammar.declaration {depth = d} {counters = counters} {before = names} {after = later} {symbols = symbols} {rest = rest} {type = type}
        integer declared) k t f st n starts fits =
        let a : st ≡ st + 0 = omega arith in
        let b : n ≡ n + 0 = omega arith in
        opened (place d k t f) (placed P st (word (words.Type type) ∷ symbols) names n) openings.Declaration (Some (None, placed P st rest later n))
        (type_opens type symbols names st n integer) (declaration_there P apart f counters starts.are d k t st type n starts.named declared)
        ∙ same_counts None rest later a b
    statement_is_read (grammar.given {depth = d} {register = r} {counters = counters} {before = names} {between = between} {after = later} {symbols = symbols}
        {rest = rest} {type = type} {name = name} {value = value} integer is spelled) k t f st n starts fits =
        let count = register_accesses t r value in
        let limit : n + accesses t value ≤ 1024 = omega (arith, fits.repeats, count) in
        let a : st + 1 ≡ st + 1 = refl in
        let b : n + accesses t value ≡ n + spent t (Some (tree.assign false (tree.to_register r value))) = omega (arith, count) in
        opened (place d k t f) (placed P st (word (words.Type type) ∷ identifier name ∷ sign Assign ∷ symbols) names n) openings.Declaration
        (Some (Some (tree.assign false (tree.to_register r value)), placed P (st + 1) rest later (n + accesses t value)))
        (type_opens type (identifier name ∷ sign Assign ∷ symbols) names st n integer)
        (given_there P apart f counters starts.are d k t st type name r names between later symbols rest n value starts.named is spelled fits.statements limit)
        ∙ same_counts (Some (tree.assign false (tree.to_register r value))) rest later a b
    statement_is_read (grammar.simple {depth = d} {counters = counters} {before = names} {after = later} {symbols = symbols} {rest = rest} {s = x} none
        spelled) k t f st n starts fits =
        let one = alone_count x in
        let count = alone_spent t x in
        let le : st + 1 ≤ 256 = omega (arith, fits.statements, one) in
        let limit : n + own_repeats t (alone x) ≤ 1024 = omega (arith, fits.repeats, count) in
        let a : st + 1 ≡ st + count_of (Some (alone x)) = omega (arith, one) in
        let b : n + own_repeats t (alone x) ≡ n + spent t (Some (alone x)) = omega (arith, count) in
        counted (place d k t f) counteds.Simple symbols names st n (alone x) (placed P (st + 1) rest later (n + own_repeats t (alone x)))
        (simple_opens st n none spelled) le
        (simple_there (place d k t f) symbols rest names later (st + 1) n (n + own_repeats t (alone x)) x
        (simple_is_read P (st + 1) (place d k t f) apart counters n starts.are starts.named.differ (ends_semicolon rest) limit spelled))
        ∙ same_counts (Some (alone x)) rest later a b
    statement_is_read (grammar.data_race {depth = d} {counters = counters} {before = names} {after = later} {symbols = symbols} {rest = rest} {s = x}
        spelled) k t f st n starts fits =
        let one = raced_count x in
        let count = raced_spent t x in
        let le : st + 1 ≤ 256 = omega (arith, fits.statements, one) in
        let limit : n + own_repeats t (alone x) ≤ 1024 = omega (arith, fits.repeats, count) in
        let a : st + 1 ≡ st + count_of (Some (raced x)) = omega (arith, one) in
        let b : n + own_repeats t (alone x) ≡ n + spent t (Some (raced x)) = omega (arith, count) in
        counted (place d k t f) counteds.DataRace (word words.DataRace ∷ sign OpenParen ∷ symbols) names st n (raced x)
        (placed P (st + 1) rest later (n + own_repeats t (alone x))) (race_opens (sign OpenParen ∷ symbols) names st n) le
        (race_there (place d k t f) symbols rest names later (st + 1) n (n + own_repeats t (alone x)) x
        (simple_is_read P (st + 1) (place d k t f) apart counters n starts.are starts.named.differ (ends_close (sign Semicolon ∷ rest)) limit spelled))
        ∙ same_counts (Some (raced x)) rest later a b
    statement_is_read (grammar.a_call {depth = d} {before = names} {symbols = symbols} {rest = rest} {c = c} spelled) k t f st n starts fits =
        let r = call_is_read P (st + 1) t k apart names n spelled fits.scopes fits.repeats in
        counted (place d k t f) (counteds.Call r.0) symbols names st n (tree.call c) (placed P (st + 1) rest names (n + call_accesses t c))
        (call_opens r.0 symbols names st n r.1) fits.statements
        (call_there d k t f r.0 symbols rest names (st + 1) n (n + call_accesses t c) c r.2)
    statement_is_read (grammar.if_alone {depth = d} {counters = counters} {before = names} {between = between} {after = later} {symbols = symbols}
        {middle = middle} {rest = rest} {condition = condition} {body = body} tested inside none) k t f st n starts fits =
        let count = branch_spent t condition body in
        let limit : n + accesses t condition ≤ 1024 = omega (arith, fits.repeats, count) in
        let le : st + 1 ≤ 256 = omega (arith, fits.statements) in
        let all : (st + 1) + block_count body ≤ 256 = omega (arith, fits.statements) in
        let total : (n + accesses t condition) + block_repeats t body ≤ 1024 = omega (arith, fits.repeats, count) in
        let a : (st + 1) + block_count body ≡ st + count_of (Some (tree.if_block condition body)) = omega arith in
        let b : (n + accesses t condition) + block_repeats t body ≡ n + spent t (Some (tree.if_block condition body)) = omega (arith, count) in
        let later_state = placed P ((st + 1) + block_count body) rest later ((n + accesses t condition) + block_repeats t body) in
        counted (place d k t f) counteds.If (word words.If ∷ sign OpenParen ∷ symbols) names st n (tree.if_block condition body) later_state
        (if_opens (sign OpenParen ∷ symbols) names st n) le
        (branch_there d k t f symbols middle names between (st + 1) n (n + accesses t condition) condition body later_state
        (expression_read P (st + 1) t apart d names between symbols (sign CloseParen ∷ middle) condition n starts.named.differ tested
        (follows_close middle) limit)
        (body_is_read inside k t f (st + 1) (n + accesses t condition)
        (record { are = starts.are; named = expression_named starts.named tested })
        (record { statements = all; repeats = total; turns = fits.turns; scopes = fits.scopes }))
        ∙ alone_there (place d k t f) condition body rest later ((st + 1) + block_count body) ((n + accesses t condition) + block_repeats t body) none)
        ∙ same_counts (Some (tree.if_block condition body)) rest later a b
    statement_is_read (grammar.if_else {depth = d} {counters = counters} {before = names} {between = between} {later = last} {after = later}
        {symbols = symbols} {middle = middle} {others = behind_else} {rest = rest} {condition = condition} {body = body} {otherwise = otherwise}
        tested inside outside) k t f st n starts fits =
        let count = choice_spent t condition body otherwise in
        let limit : n + accesses t condition ≤ 1024 = omega (arith, fits.repeats, count) in
        let le : st + 1 ≤ 256 = omega (arith, fits.statements) in
        let all_one : (st + 1) + block_count body ≤ 256 = omega (arith, fits.statements) in
        let total_one : (n + accesses t condition) + block_repeats t body ≤ 1024 = omega (arith, fits.repeats, count) in
        let all_two : ((st + 1) + block_count body) + block_count otherwise ≤ 256 = omega (arith, fits.statements) in
        let total_two : ((n + accesses t condition) + block_repeats t body) + block_repeats t otherwise ≤ 1024 = omega (arith, fits.repeats, count) in
        let a : ((st + 1) + block_count body) + block_count otherwise ≡ st + count_of (Some (tree.if_else condition body otherwise)) = omega arith in
        let b : ((n + accesses t condition) + block_repeats t body) + block_repeats t otherwise ≡ n + spent t (Some (tree.if_else condition body otherwise)) =
        omega (arith, count) in
        let well = expression_named starts.named tested in
        let behind_body_state = placed P ((st + 1) + block_count body) (word words.Else ∷ behind_else) last
        ((n + accesses t condition) + block_repeats t body) in
        let later_state = placed P (((st + 1) + block_count body) + block_count otherwise) rest later
        (((n + accesses t condition) + block_repeats t body) + block_repeats t otherwise) in
        counted (place d k t f) counteds.If (word words.If ∷ sign OpenParen ∷ symbols) names st n (tree.if_else condition body otherwise) later_state
        (if_opens (sign OpenParen ∷ symbols) names st n) le
        (branch_there d k t f symbols middle names between (st + 1) n (n + accesses t condition) condition body behind_body_state
        (expression_read P (st + 1) t apart d names between symbols (sign CloseParen ∷ middle) condition n starts.named.differ tested
        (follows_close middle) limit)
        (body_is_read inside k t f (st + 1) (n + accesses t condition) (record { are = starts.are; named = well })
        (record { statements = all_one; repeats = total_one; turns = fits.turns.0; scopes = fits.scopes.0 }))
        ∙ otherwise_there (place d k t f) condition body otherwise behind_else last ((st + 1) + block_count body)
        ((n + accesses t condition) + block_repeats t body)
        later_state
        (body_is_read outside k t f ((st + 1) + block_count body) ((n + accesses t condition) + block_repeats t body)
        (record { are = starts.are; named = body_named well inside })
        (record { statements = all_two; repeats = total_two; turns = fits.turns.1; scopes = fits.scopes.1 })))
        ∙ same_counts (Some (tree.if_else condition body otherwise)) rest later a b
    statement_is_read (grammar.for_turns {depth = d} {register = r} {turns = turns} {counters = counters} {before = names} {between = between} {after = later}
        {symbols = symbols} {rest = rest} {name = name} {body = body} is inside) k t f st n starts fits =
        let le : st + 1 ≤ 256 = omega (arith, fits.statements) in
        let all : (st + 1) + block_count body ≤ 256 = omega (arith, fits.statements) in
        let a : (st + 1) + block_count body ≡ st + count_of (Some (tree.for_turns r turns body)) = omega arith in
        let few : r < 32 = numbered_below name r names between starts.named.few is.is.numbered in
        let below : r < length f = omega (arith, few, starts.are.sized) in
        let later_state = placed P ((st + 1) + block_count body) rest later (n + block_repeats (t * turns) body) in
        counted (place d k t f) counteds.For (word words.For ∷ header_symbols name turns symbols) names st n (tree.for_turns r turns body) later_state
        (for_opens (header_symbols name turns symbols) names st n) le
        (loop_there d k t f name r turns symbols names between (st + 1) n body later_state
        (header_there P apart f counters starts.are d k t (st + 1) name r turns names between symbols n starts.named is fits.turns.0 fits.turns.1.0)
        (body_is_read inside k (t * turns) (set f r true) (st + 1) n
        (record { are = counters_more f counters r below starts.are; named = numbered_named name r names between starts.named is.is.numbered })
        (record { statements = all; repeats = fits.repeats; turns = fits.turns.1.1; scopes = fits.scopes })))
        ∙ same_counts (Some (tree.for_turns r turns body)) rest later a refl

    pub body_is_read : {d : ℕ} {counters : List ℕ} {names later : Names} {symbols rest : List Symbol} {b : tree.Block}
        → Body P d counters names symbols b rest later → (k t : ℕ) (f : List Bool) (st n : ℕ) → Starts f counters names → BlockFits k t st n b
        → body_at (place d k t f) (placed P st symbols names n) ≡ Some (b, placed P (st + block_count b) rest later (n + block_repeats t b))
    body_is_read (grammar.braces {depth = d} {before = names} {after = later} {symbols = symbols} {rest = rest} {block = b} lt inside) k t f st n starts fits =
        body_unrolls (place d k t f) (placed P st (sign OpenBrace ∷ symbols) names n)
        ∙ block_there d k t f symbols names st n (Some (b, placed P (st + block_count b) rest later (n + block_repeats t b))) lt
        (more_is_read inside k t f st n tree.empty starts fits)
    body_is_read (grammar.one {depth = d} {before = names} {after = later} {symbols = symbols} {rest = rest} {s = x} lt inside) k t f st n starts fits =
        let a : st + count_of x ≡ st + block_count (kept x tree.empty) = omega (arith, kept_count x tree.empty) in
        let b : n + spent t x ≡ n + block_repeats t (kept x tree.empty) = omega (arith, kept_spent t x tree.empty) in
        one_there d k t f (placed P st symbols names n) (placed P (st + count_of x) rest later (n + spent t x)) x lt
        (statement_is_read inside k t f st n starts (fits_first k t st n x tree.empty fits))
        ∙ same_counts (kept x tree.empty) rest later a b

    pub more_is_read : {d : ℕ} {counters : List ℕ} {names later : Names} {symbols rest : List Symbol} {b : tree.Block}
        → Statements P d counters names symbols b rest later → (k t : ℕ) (f : List Bool) (st n : ℕ) (before : tree.Block) → Starts f counters names
        → BlockFits k t st n b
        → more_at (place d k t f) before (placed P st symbols names n)
        ≡ Some (joined before b, placed P (st + block_count b) rest later (n + block_repeats t b))
    more_is_read (grammar.end {depth = d} {before = names} {rest = rest}) k t f st n before starts fits =
        let a : st ≡ st + 0 = omega arith in
        let b : n ≡ n + 0 = omega arith in
        more_unrolls (place d k t f) before (placed P st (sign CloseBrace ∷ rest) names n)
        ∙ ap (λ (c : tree.Block). Some (c, placed P st rest names n)) (sym (joined_nothing before))
        ∙ same_counts (joined before tree.empty) rest names a b
    more_is_read (grammar.next {depth = d} {before = names} {between = between} {after = later} {symbols = symbols} {middle = middle} {rest = rest}
        {s = x} {block = b} one two) k t f st n before starts fits =
        let a : (st + count_of x) + block_count b ≡ st + block_count (kept x b) = omega (arith, kept_count x b) in
        let c : (n + spent t x) + block_repeats t b ≡ n + block_repeats t (kept x b) = omega (arith, kept_spent t x b) in
        let first_fits = fits_first k t st n x b fits in
        next_there (place d k t f) (place d (scopes_behind k x) t f) before (placed P st symbols names n)
        (placed P (st + count_of x) middle between (n + spent t x)) x
        (statement_is_read one k t f st n starts first_fits) (behind_there d k t f x first_fits.scopes)
        ∙ more_is_read two (scopes_behind k x) t f (st + count_of x) (n + spent t x) (added before x)
        (record { are = starts.are; named = statement_named starts.named one }) (fits_rest k t st n x b fits)
        ∙ ap (λ (j : tree.Block). Some (j, placed P ((st + count_of x) + block_count b) rest later ((n + spent t x) + block_repeats t b)))
        (later_block before b x)
        ∙ same_counts (joined before (kept x b)) rest later a c
