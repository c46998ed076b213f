-- What the readers of statements and blocks read is spelled so.
use Rattle.std.proofs.Common.{◌≡◌, ◌∙◌, ℕ, zero, suc, ◌+◌, ◌*◌, ◌<◌, ◌≤◌, List, [], ◌∷◌, Bool, true, false, Option, Some, None, length, refl, sym, ap, subst, arith}
use Rattle.litmus_lex.specs.declared.sign.Sign.TheVariants.{OpenParen, CloseParen, OpenBrace, CloseBrace, Semicolon}
use Rattle.litmus_syntax.specs.Tree as tree
use Rattle.litmus_lex.specs.declared.words.Word.TheVariants as words
use Rattle.litmus_lex.specs.Front.{◌>>=◌, first, is_sign, others, take_sign}
use Rattle.litmus_lex.specs.Words.{Symbol, word, sign}
use Rattle.litmus_expression.specs.Counters.{AreCounters}
use Rattle.litmus_expression.specs.Expressions.{Expression}
use Rattle.litmus_expression.specs.ExpressionReader.{expression_at}
use Rattle.litmus_expression.specs.Names.{Names, Parameter}
use Rattle.litmus_expression.specs.PlaceReader.{count_statement}
use Rattle.litmus_expression.specs.Places.{NestingPlace, deeper, in_loop, outermost}
use Rattle.litmus_expression.specs.States.{State, after, with_left}
use Rattle.litmus_expression.proofs.Fewer.{at_last, behind_it, either_way}
use Rattle.litmus_expression.proofs.Taken.{front, is_sign_is, sign_taken}
use Rattle.litmus_expression.proofs.Whole.{expression_reads}
use Rattle.litmus_body.specs.declared.statement.Counted.{Counted}
use Rattle.litmus_body.specs.declared.statement.Counted.TheVariants as counteds
use Rattle.litmus_body.specs.declared.statement.Opening.{Opening}
use Rattle.litmus_body.specs.declared.statement.Opening.TheVariants as openings
use Rattle.litmus_body.specs.CallReader.{call_at}
use Rattle.litmus_body.specs.SimpleReader.{data_race_at, simple_at}
use Rattle.litmus_body.specs.StatementReader.{Readers, added, behind, behind_body, block_at, body_at, by, deep, header_at, idle, is_else, joined, opening_at, statement_at, statement_with}
use Rattle.litmus_body.specs.Statements as grammar
use Rattle.litmus_body.specs.Statements.{Body, IsNoElse, Simple, Statement, Statements, alone, kept, raced}
use Rattle.litmus_body.proofs.Blocks.{joined_nothing, joined_twice}
use Rattle.litmus_body.proofs.CallLemmas.{call_reads}
use Rattle.litmus_body.proofs.SimpleSound.{simple_reads}
use Rattle.litmus_body.specs.statement_laws.Reads.{ReadsBody, ReadsStatement, ReadsWhole, Stands}
use Rattle.litmus_body.proofs.statement_laws.HeaderSound.{SameSpot, counted_spot, declaration_reads, few, header_reads, header_symbols, renamed}
use Rattle.litmus_body.proofs.statement_laws.Openings.{Begins, no_data_race, opens_counted, opens_declaration, opens_empty}
use Rattle.litmus_body.proofs.statement_laws.Places.{Deeper, behind_is, counters_more, counters_none, deeper_is, not_both}

-- a block from its `{` on
pub record ReadsBlock (p : NestingPlace) (counters : List ℕ) (s : State) (x : tree.Block × State) : Type 0 where
  pub opens : s.symbols ≡ sign OpenBrace ∷ others s.symbols
  pub below : p.depth < 16
  pub spelled : Statements s.parameters (suc p.depth) counters s.names (others s.symbols) x.0 x.1.symbols x.1.names
  pub within : length x.1.names ≤ 32
  pub parameters : x.1.parameters ≡ s.parameters

-- what is left of a block, behind what was read of it before
pub record ReadsMore (p : NestingPlace) (counters : List ℕ) (before : tree.Block) (s : State) (x : tree.Block × State) : Type 0 where
  pub block : tree.Block
  pub made : x.0 ≡ joined before block
  pub spelled : Statements s.parameters p.depth counters s.names s.symbols block x.1.symbols x.1.names
  pub within : length x.1.names ≤ 32
  pub parameters : x.1.parameters ≡ s.parameters

pub record Sound (R : Readers) : Type 0 where
  pub statement : (p : NestingPlace) (counters : List ℕ) (s : State) (x : Option tree.Statement × State) → Stands p counters s → R.statement p s ≡ Some x
      → ReadsStatement p counters s x
  pub counted : (p : NestingPlace) (c : Counted) (counters : List ℕ) (s : State) (x : tree.Statement × State) → Stands p counters s → Begins c (first s.symbols)
      → R.counted p c s ≡ Some x → ReadsStatement p counters s (Some x.0, x.1)
  pub branch : (p : NestingPlace) (counters : List ℕ) (s : State) (x : tree.Statement × State) → Stands p counters s → first s.symbols ≡ word words.If
      → R.branch p s ≡ Some x → ReadsStatement p counters s (Some x.0, x.1)
  pub repetition : (p : NestingPlace) (counters : List ℕ) (s : State) (x : tree.Statement × State) → Stands p counters s → first s.symbols ≡ word words.For
      → R.repetition p s ≡ Some x → ReadsStatement p counters s (Some x.0, x.1)
  pub body : (p : NestingPlace) (counters : List ℕ) (s : State) (x : tree.Block × State) → Stands p counters s → R.body p s ≡ Some x → ReadsBody p counters s x
  pub block : (p : NestingPlace) (counters : List ℕ) (s : State) (x : tree.Block × State) → Stands p counters s → R.block p s ≡ Some x → ReadsBlock p counters s x
  pub more : (p : NestingPlace) (before : tree.Block) (counters : List ℕ) (s : State) (x : tree.Block × State) → Stands p counters s → R.more p before s ≡ Some x
      → ReadsMore p counters before s x

pub stands_with : (p : NestingPlace) (counters : List ℕ) (s u : State) → Stands p counters s → length u.names ≤ 32 → Stands p counters u
stands_with p counters s u stands few_names =
    record { are = stands.are; depth = stands.depth; scopes = stands.scopes; registers = few_names }

pub stands_deeper : (p q : NestingPlace) (counters : List ℕ) (s : State) → Stands p counters s → Deeper p q → Stands q counters s
stands_deeper p q counters s stands d = record {
  are = subst (λ (f : List Bool). AreCounters f counters) (sym d.counters) stands.are;
  depth = omega (arith, d.depth, d.below);
  scopes = omega (arith, d.scopes, stands.scopes);
  registers = stands.registers;
}

reads_same : (p : NestingPlace) (counters : List ℕ) (s u : State) (x : Option tree.Statement × State) → SameSpot s u → ReadsStatement p counters u x
    → ReadsStatement p counters s x
reads_same p counters s u x same r = record {
  spelled = subst (λ (l : List Symbol). Statement s.parameters p.depth counters s.names l x.0 x.1.symbols x.1.names) same.symbols
      (renamed (λ P n. Statement P p.depth counters n u.symbols x.0 x.1.symbols x.1.names) same.parameters same.names r.spelled);
  within = r.within;
  parameters = r.parameters ∙ same.parameters;
}

else_is : (y : Symbol) → is_else y ≡ true → y ≡ word words.Else
else_is (word words.Else) e = refl
else_is _ e = absurd cc

no_else : (symbols : List Symbol) → is_else (first symbols) ≡ false → IsNoElse symbols
no_else symbols none rest is = not_both (is_else (first symbols)) (ap (λ (l : List Symbol). is_else (first l)) is) none

pub later_block : (before block : tree.Block) (z : Option tree.Statement) → joined (added before z) block ≡ joined before (kept z block)
later_block before block None = refl
later_block before block (Some s) = joined_twice before (tree.first s tree.empty) block

module _ (R : Readers) (h : Sound R) where
  statement_sound : (p : NestingPlace) (counters : List ℕ) (s : State) (o : Opening) (x : Option tree.Statement × State) → Stands p counters s
      → opening_at s ≡ Some o → statement_with R p s o ≡ Some x → ReadsStatement p counters s x
  statement_sound p counters s openings.Empty x stands opens e =
      at_last (None, after s) (ReadsStatement p counters s) x e (record {
        spelled = subst (λ (l : List Symbol). Statement s.parameters p.depth counters s.names l None (others s.symbols) s.names) (sym (opens_empty s opens))
            grammar.nothing;
        within = stands.registers;
        parameters = refl;
      })
  statement_sound p counters s openings.Declaration x stands opens e = declaration_reads p counters s x stands (opens_declaration s opens) e
  statement_sound p counters s (openings.Counted c) x stands opens e =
      behind_it (count_statement s) (λ u. R.counted p c u >>= λ z. Some (Some z.0, z.1)) (ReadsStatement p counters s) x e (λ u counted e.
      behind_it (R.counted p c u) (λ z. Some (Some z.0, z.1)) (ReadsStatement p counters s) x e (λ z is e.
      at_last (Some z.0, z.1) (ReadsStatement p counters s) x e
      (let same = counted_spot s u counted in
      let begins = subst (λ (l : List Symbol). Begins c (first l)) (sym same.symbols) (opens_counted s c opens) in
      reads_same p counters s u (Some z.0, z.1) same
      (h.counted p c counters u z (stands_with p counters s u stands (few same.names stands.registers)) begins is))))

  counted_sound : (p : NestingPlace) (c : Counted) (counters : List ℕ) (s : State) (x : tree.Statement × State) → Stands p counters s → Begins c (first s.symbols)
      → (by R).counted p c s ≡ Some x → ReadsStatement p counters s (Some x.0, x.1)
  unfolding data_race_at
  counted_sound p counteds.If counters s x stands begins e = h.branch p counters s x stands begins e
  counted_sound p counteds.For counters s x stands begins e = h.repetition p counters s x stands begins e
  counted_sound p counteds.DataRace counters s x stands begins e =
      behind_it (take_sign OpenParen (others s.symbols)) (λ l. simple_at p (with_left s l) >>= λ z. take_sign CloseParen z.1.symbols >>= λ m.
      take_sign Semicolon m >>= λ n. Some (raced z.0, with_left z.1 n)) (λ (y : tree.Statement × State). ReadsStatement p counters s
      (Some y.0, y.1)) x e (λ l opens e.
      behind_it (simple_at p (with_left s l)) (λ z. take_sign CloseParen z.1.symbols >>= λ m. take_sign Semicolon m
      >>= λ n. Some (raced z.0, with_left z.1 n)) (λ (y : tree.Statement × State). ReadsStatement p counters s (Some y.0, y.1)) x e (λ z is e.
      behind_it (take_sign CloseParen z.1.symbols) (λ m. take_sign Semicolon m >>= λ n. Some (raced z.0, with_left z.1 n))
      (λ (y : tree.Statement × State). ReadsStatement p counters s (Some y.0, y.1)) x e (λ m closes e.
      behind_it (take_sign Semicolon m) (λ n. Some (raced z.0, with_left z.1 n))
      (λ (y : tree.Statement × State). ReadsStatement p counters s (Some y.0, y.1)) x e (λ n ends e.
      at_last (raced z.0, with_left z.1 n) (λ (y : tree.Statement × State). ReadsStatement p counters s (Some y.0, y.1)) x e
      (let r = simple_reads p counters (with_left s l) z stands.are stands.depth stands.registers is in
      let whole : s.symbols ≡ word words.DataRace ∷ sign OpenParen ∷ l = front s.symbols (word words.DataRace) begins (λ never. cc)
      ∙ ap (λ (j : List Symbol). word words.DataRace ∷ j) (sign_taken OpenParen (others s.symbols) l opens) in
      let behind : z.1.symbols ≡ sign CloseParen ∷ sign Semicolon ∷ n = sign_taken CloseParen z.1.symbols m closes
      ∙ ap (λ (j : List Symbol). sign CloseParen ∷ j) (sign_taken Semicolon m n ends) in
      let inside = subst (λ (j : List Symbol). Simple s.parameters p.depth counters s.names l z.0 j z.1.names) behind r.spelled in
      record {
        spelled = subst (λ (j : List Symbol). Statement s.parameters p.depth counters s.names j (Some (raced z.0)) n z.1.names) (sym whole)
            (grammar.data_race inside);
        within = r.within;
        parameters = r.parameters;
      })))))
  counted_sound p (counteds.Call w) counters s x stands begins e =
      behind_it (call_at p.turns p.scopes w s) (λ z. take_sign Semicolon z.1.symbols >>= λ l. Some (tree.call z.0, with_left z.1 l))
      (λ (y : tree.Statement × State). ReadsStatement p counters s (Some y.0, y.1)) x e (λ z is e.
      behind_it (take_sign Semicolon z.1.symbols) (λ l. Some (tree.call z.0, with_left z.1 l))
      (λ (y : tree.Statement × State). ReadsStatement p counters s (Some y.0, y.1)) x e (λ l ends e.
      at_last (tree.call z.0, with_left z.1 l) (λ (y : tree.Statement × State). ReadsStatement p counters s (Some y.0, y.1)) x e
      (let r = call_reads p.turns p.scopes w s z stands.scopes begins is in
      let there = subst (λ (j : List Symbol). grammar.Calls s.parameters s.symbols z.0 j) (sign_taken Semicolon z.1.symbols l ends) r.spelled in
      record {
        spelled = subst (λ (n : Names). Statement s.parameters p.depth counters s.names s.symbols (Some (tree.call z.0)) l n) (sym r.names)
            (grammar.a_call there);
        within = few r.names stands.registers;
        parameters = r.parameters;
      })))
  counted_sound p counteds.Simple counters s x stands begins e =
      behind_it (simple_at p s) (λ z. take_sign Semicolon z.1.symbols >>= λ l. Some (alone z.0, with_left z.1 l))
      (λ (y : tree.Statement × State). ReadsStatement p counters s (Some y.0, y.1)) x e (λ z is e.
      behind_it (take_sign Semicolon z.1.symbols) (λ l. Some (alone z.0, with_left z.1 l))
      (λ (y : tree.Statement × State). ReadsStatement p counters s (Some y.0, y.1)) x e (λ l ends e.
      at_last (alone z.0, with_left z.1 l) (λ (y : tree.Statement × State). ReadsStatement p counters s (Some y.0, y.1)) x e
      (let r = simple_reads p counters s z stands.are stands.depth stands.registers is in
      let there = subst (λ (j : List Symbol). Simple s.parameters p.depth counters s.names s.symbols z.0 j z.1.names)
      (sign_taken Semicolon z.1.symbols l ends) r.spelled in
      record {
        spelled = grammar.simple (no_data_race s.symbols begins) there;
        within = r.within;
        parameters = r.parameters;
      })))

  branch_sound : (p : NestingPlace) (counters : List ℕ) (s : State) (x : tree.Statement × State) → Stands p counters s → first s.symbols ≡ word words.If
      → (by R).branch p s ≡ Some x → ReadsStatement p counters s (Some x.0, x.1)
  branch_sound p counters s x stands begins e =
      behind_it (take_sign OpenParen (others s.symbols)) (λ l. expression_at p.turns p.depth (with_left s l) >>= λ c. take_sign CloseParen c.1.symbols
      >>= λ m. R.body p (with_left c.1 m) >>= λ b. behind_body R p c.0 b.0 b.1)
      (λ (y : tree.Statement × State). ReadsStatement p counters s (Some y.0, y.1)) x e (λ l opens e.
      behind_it (expression_at p.turns p.depth (with_left s l)) (λ c. take_sign CloseParen c.1.symbols >>= λ m. R.body p (with_left c.1 m)
      >>= λ b. behind_body R p c.0 b.0 b.1) (λ (y : tree.Statement × State). ReadsStatement p counters s (Some y.0, y.1)) x e (λ c condition e.
      behind_it (take_sign CloseParen c.1.symbols) (λ m. R.body p (with_left c.1 m) >>= λ b. behind_body R p c.0 b.0 b.1)
      (λ (y : tree.Statement × State). ReadsStatement p counters s (Some y.0, y.1)) x e (λ m closes e.
      behind_it (R.body p (with_left c.1 m)) (λ b. behind_body R p c.0 b.0 b.1)
      (λ (y : tree.Statement × State). ReadsStatement p counters s (Some y.0, y.1)) x e (λ b inside e.
      let q = (expression_reads p.turns p.depth (with_left s l) c stands.depth stands.registers condition).reads in
      let r = h.body p counters (with_left c.1 m) b (stands_with p counters s (with_left c.1 m) stands q.within) inside in
      let whole : s.symbols ≡ word words.If ∷ sign OpenParen ∷ l = front s.symbols (word words.If) begins (λ never. cc)
      ∙ ap (λ (j : List Symbol). word words.If ∷ j) (sign_taken OpenParen (others s.symbols) l opens) in
      let tested = subst (λ (j : List Symbol). Expression s.parameters p.depth s.names l c.0 j c.1.names)
      (sign_taken CloseParen c.1.symbols m closes) q.spelled in
      let done = subst (λ (P : List Parameter). Body P p.depth counters c.1.names m b.0 b.1.symbols b.1.names) q.parameters r.spelled in
      let parameters : b.1.parameters ≡ s.parameters = r.parameters ∙ q.parameters in
      either_way (is_else (first b.1.symbols)) (R.body p (after b.1) >>= λ z. Some (tree.if_else c.0 b.0 z.0, z.1)) (Some (tree.if_block c.0 b.0, b.1))
      (λ (y : tree.Statement × State). ReadsStatement p counters s (Some y.0, y.1)) x e
      (λ is e.
      behind_it (R.body p (after b.1)) (λ z. Some (tree.if_else c.0 b.0 z.0, z.1))
      (λ (y : tree.Statement × State). ReadsStatement p counters s (Some y.0, y.1)) x e (λ z otherwise e.
      at_last (tree.if_else c.0 b.0 z.0, z.1) (λ (y : tree.Statement × State). ReadsStatement p counters s (Some y.0, y.1)) x e
      (let k = h.body p counters (after b.1) z (stands_with p counters s (after b.1) stands r.within) otherwise in
      let next : b.1.symbols ≡ word words.Else ∷ others b.1.symbols = front b.1.symbols (word words.Else) (else_is (first b.1.symbols) is) (λ never. cc) in
      let one = subst (λ (j : List Symbol). Body s.parameters p.depth counters c.1.names m b.0 j b.1.names) next done in
      let two = subst (λ (P : List Parameter). Body P p.depth counters b.1.names (others b.1.symbols) z.0 z.1.symbols z.1.names) parameters k.spelled in
      record {
        spelled = subst (λ (j : List Symbol). Statement s.parameters p.depth counters s.names j (Some (tree.if_else c.0 b.0 z.0)) z.1.symbols z.1.names)
            (sym whole) (grammar.if_else tested one two);
        within = k.within;
        parameters = k.parameters ∙ parameters;
      })))
      (λ none e.
      at_last (tree.if_block c.0 b.0, b.1) (λ (y : tree.Statement × State). ReadsStatement p counters s (Some y.0, y.1)) x e
      (record {
        spelled = subst (λ (j : List Symbol). Statement s.parameters p.depth counters s.names j (Some (tree.if_block c.0 b.0)) b.1.symbols b.1.names)
            (sym whole) (grammar.if_alone tested done (no_else b.1.symbols none));
        within = r.within;
        parameters = parameters;
      }))))))

  repetition_sound : (p : NestingPlace) (counters : List ℕ) (s : State) (x : tree.Statement × State) → Stands p counters s → first s.symbols ≡ word words.For
      → (by R).repetition p s ≡ Some x → ReadsStatement p counters s (Some x.0, x.1)
  repetition_sound p counters s x stands begins e =
      behind_it (header_at p (after s)) (λ n. R.body (in_loop p n.0.register n.0.repeats) n.1
      >>= λ b. Some (tree.for_turns n.0.register n.0.turns b.0, b.1)) (λ (y : tree.Statement × State). ReadsStatement p counters s (Some y.0, y.1)) x e
      (λ n header e.
      behind_it (R.body (in_loop p n.0.register n.0.repeats) n.1) (λ b. Some (tree.for_turns n.0.register n.0.turns b.0, b.1))
      (λ (y : tree.Statement × State). ReadsStatement p counters s (Some y.0, y.1)) x e (λ b inside e.
      at_last (tree.for_turns n.0.register n.0.turns b.0, b.1) (λ (y : tree.Statement × State). ReadsStatement p counters s (Some y.0, y.1)) x e
      (let k = header_reads p counters (after s) n stands.are stands.registers header in
      let below : n.0.register < length p.counters = omega (arith, k.below, stands.are.sized) in
      let r = h.body (in_loop p n.0.register n.0.repeats) (n.0.register ∷ counters) n.1 b (record {
        are = counters_more p.counters counters n.0.register below stands.are;
        depth = stands.depth;
        scopes = stands.scopes;
        registers = k.within;
      }) inside in
      let whole : s.symbols ≡ word words.For ∷ header_symbols k.name n.0.turns n.1.symbols = front s.symbols (word words.For) begins (λ never. cc)
      ∙ ap (λ (j : List Symbol). word words.For ∷ j) k.next in
      let done = subst (λ (P : List Parameter). Body P p.depth
      (n.0.register ∷ counters) n.1.names n.1.symbols b.0 b.1.symbols b.1.names) k.parameters r.spelled in
      record {
        spelled = subst (λ (j : List Symbol). Statement s.parameters p.depth counters s.names j (Some (tree.for_turns n.0.register n.0.turns b.0)) b.1.symbols
            b.1.names) (sym whole) (grammar.for_turns k.is done);
        within = r.within;
        parameters = r.parameters ∙ k.parameters;
      })))

  body_sound : (p : NestingPlace) (counters : List ℕ) (s : State) (x : tree.Block × State) → Stands p counters s → (by R).body p s ≡ Some x
      → ReadsBody p counters s x
  body_sound p counters s x stands e =
      either_way (is_sign OpenBrace (first s.symbols)) (R.block p s)
      (opening_at s >>= λ o. deeper p >>= λ q. R.statement q s >>= λ z. Some (kept z.0 tree.empty, z.1)) (ReadsBody p counters s) x e
      (λ brace e.
      let r = h.block p counters s x stands e in
      record {
        spelled = subst (λ (j : List Symbol). Body s.parameters p.depth counters s.names j x.0 x.1.symbols x.1.names) (sym r.opens)
            (grammar.braces r.below r.spelled);
        within = r.within;
        parameters = r.parameters;
      })
      (λ none e.
      behind_it (opening_at s) (λ o. deeper p >>= λ q. R.statement q s >>= λ z. Some (kept z.0 tree.empty, z.1)) (ReadsBody p counters s) x e (λ o opens e.
      behind_it (deeper p) (λ q. R.statement q s >>= λ z. Some (kept z.0 tree.empty, z.1)) (ReadsBody p counters s) x e (λ q inside e.
      behind_it (R.statement q s) (λ z. Some (kept z.0 tree.empty, z.1)) (ReadsBody p counters s) x e (λ z is e.
      at_last (kept z.0 tree.empty, z.1) (ReadsBody p counters s) x e
      (let d = deeper_is p q stands.depth inside in
      let r = h.statement q counters s z (stands_deeper p q counters s stands d) is in
      let there = subst (λ (k : ℕ). Statement s.parameters k counters s.names s.symbols z.0 z.1.symbols z.1.names) d.depth r.spelled in
      record {
        spelled = grammar.one d.below there;
        within = r.within;
        parameters = r.parameters;
      })))))

  block_sound : (p : NestingPlace) (counters : List ℕ) (s : State) (x : tree.Block × State) → Stands p counters s → (by R).block p s ≡ Some x
      → ReadsBlock p counters s x
  block_sound p counters s x stands e =
      either_way (is_sign OpenBrace (first s.symbols)) (deeper p >>= λ q. R.more q tree.empty (after s)) None (ReadsBlock p counters s) x e
      (λ brace e.
      behind_it (deeper p) (λ q. R.more q tree.empty (after s)) (ReadsBlock p counters s) x e (λ q inside e.
      let d = deeper_is p q stands.depth inside in
      let r = h.more q tree.empty counters (after s) x (stands_deeper p q counters (after s) (stands_with p counters s
      (after s) stands stands.registers) d) e in
      let one = subst (λ (k : ℕ). Statements s.parameters k counters s.names (others s.symbols) r.block x.1.symbols x.1.names) d.depth r.spelled in
      record {
        opens = front s.symbols (sign OpenBrace) (is_sign_is OpenBrace (first s.symbols) brace) (λ never. cc);
        below = d.below;
        spelled = subst (λ (b : tree.Block). Statements s.parameters (suc p.depth) counters s.names (others s.symbols) b x.1.symbols x.1.names)
            (sym r.made) one;
        within = r.within;
        parameters = r.parameters;
      }))
      (λ none e. absurd cc)

  more_sound : (p : NestingPlace) (before : tree.Block) (counters : List ℕ) (s : State) (x : tree.Block × State) → Stands p counters s
      → (by R).more p before s ≡ Some x → ReadsMore p counters before s x
  more_sound p before counters s x stands e =
      either_way (is_sign CloseBrace (first s.symbols)) (Some (before, after s))
      (R.statement p s >>= λ z. behind p z.0 >>= λ q. R.more q (added before z.0) z.1) (ReadsMore p counters before s) x e
      (λ brace e. at_last (before, after s) (ReadsMore p counters before s) x e (record {
        block = tree.empty;
        made = sym (joined_nothing before);
        spelled = subst (λ (j : List Symbol). Statements s.parameters p.depth counters s.names j tree.empty (others s.symbols) s.names)
            (sym (front s.symbols (sign CloseBrace) (is_sign_is CloseBrace (first s.symbols) brace) (λ never. cc))) grammar.end;
        within = stands.registers;
        parameters = refl;
      }))
      (λ none e.
      behind_it (R.statement p s) (λ z. behind p z.0 >>= λ q. R.more q (added before z.0) z.1) (ReadsMore p counters before s) x e (λ z is e.
      behind_it (behind p z.0) (λ q. R.more q (added before z.0) z.1) (ReadsMore p counters before s) x e (λ q later e.
      let one = h.statement p counters s z stands is in
      let place = behind_is p q z.0 stands.scopes later in
      let two = h.more q (added before z.0) counters z.1 x (record {
        are = subst (λ (f : List Bool). AreCounters f counters) (sym place.counters) stands.are;
        depth = omega (arith, place.depth, stands.depth);
        scopes = place.scopes;
        registers = one.within;
      }) e in
      let rest = subst (λ (k : ℕ). Statements s.parameters k counters z.1.names z.1.symbols two.block x.1.symbols x.1.names) place.depth
      (subst (λ (P : List Parameter). Statements P q.depth counters z.1.names z.1.symbols two.block x.1.symbols x.1.names) one.parameters two.spelled) in
      record {
        block = kept z.0 two.block;
        made = two.made ∙ later_block before two.block z.0;
        spelled = grammar.next one.spelled rest;
        within = two.within;
        parameters = two.parameters ∙ one.parameters;
      })))

  statement_whole : (p : NestingPlace) (counters : List ℕ) (s : State) (x : Option tree.Statement × State) → Stands p counters s → (by R).statement p s ≡ Some x
      → ReadsStatement p counters s x
  statement_whole p counters s x stands e =
      behind_it (opening_at s) (λ o. statement_with R p s o) (ReadsStatement p counters s) x e (λ o opens e.
      statement_sound p counters s o x stands opens e)

  by_sound : Sound (by R)
  by_sound = record {
    statement = statement_whole;
    counted = counted_sound;
    branch = branch_sound;
    repetition = repetition_sound;
    body = body_sound;
    block = block_sound;
    more = more_sound;
  }

idle_sound : Sound idle
idle_sound = record {
  statement = λ p counters s x stands e. absurd cc;
  counted = λ p c counters s x stands begins e. absurd cc;
  branch = λ p counters s x stands begins e. absurd cc;
  repetition = λ p counters s x stands begins e. absurd cc;
  body = λ p counters s x stands e. absurd cc;
  block = λ p counters s x stands e. absurd cc;
  more = λ p before counters s x stands e. absurd cc;
}

pub deep_sound : (fuel : ℕ) → Sound (deep fuel)
unfolding deep
deep_sound zero = idle_sound
deep_sound (suc fuel) = by_sound (deep fuel) (deep_sound fuel)

-- ---- the readers

pub statement_reads : (p : NestingPlace) (counters : List ℕ) (s : State) (x : Option tree.Statement × State) → Stands p counters s → statement_at p s ≡ Some x
    → ReadsStatement p counters s x
unfolding statement_at
statement_reads p counters s x stands e = (deep_sound (10 * length s.symbols + 10)).statement p counters s x stands e

pub body_reads : (p : NestingPlace) (counters : List ℕ) (s : State) (x : tree.Block × State) → Stands p counters s → body_at p s ≡ Some x → ReadsBody p counters s x
unfolding body_at
body_reads p counters s x stands e = (deep_sound (10 * length s.symbols + 10)).body p counters s x stands e

pub block_reads : (p : NestingPlace) (counters : List ℕ) (s : State) (x : tree.Block × State) → Stands p counters s → block_at p s ≡ Some x → ReadsBlock p counters s x
unfolding block_at
block_reads p counters s x stands e = (deep_sound (10 * length s.symbols + 10)).block p counters s x stands e

pub whole_reads : (s : State) (x : tree.Block × State) → s.names ≡ [] → block_at outermost s ≡ Some x → ReadsWhole s x
whole_reads s x none e =
    let r = block_reads outermost [] s x (record {
      are = counters_none;
      depth = omega arith;
      scopes = omega arith;
      registers = subst (λ (n : Names). length n ≤ 32) (sym none) (omega arith);
    }) e in
    record {
      inside = others s.symbols;
      opens = r.opens;
      spelled = subst (λ (n : Names). Statements s.parameters 1 [] n (others s.symbols) x.0 x.1.symbols x.1.names) none r.spelled;
      within = r.within;
      parameters = r.parameters;
    }
