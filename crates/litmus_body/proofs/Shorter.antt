-- What is read of statements and blocks takes symbols.
use Rattle.std.proofs.Common.{◌≡◌, ℕ, zero, suc, ◌<◌, ◌≤◌, List, Bool, true, false, cond, Option, Some, None, length, refl, arith}
use Rattle.litmus_lex.specs.declared.sign.Sign.{Sign}
use Rattle.litmus_lex.specs.declared.sign.Sign.TheVariants.{OpenParen, CloseParen, OpenBrace, CloseBrace, Semicolon}
use Rattle.litmus_syntax.specs.Tree as tree
use Rattle.litmus_lex.specs.Front.{◌>>=◌, first, is_sign, others, take_sign}
use Rattle.litmus_lex.specs.Words.{Symbol, word, identifier, number, sign, fault}
use Rattle.litmus_expression.specs.ExpressionReader.{expression_at}
use Rattle.litmus_expression.specs.PlaceReader.{count_statement}
use Rattle.litmus_expression.specs.Places.{NestingPlace, deeper, in_loop}
use Rattle.litmus_expression.specs.States.{State, after, with_left}
use Rattle.litmus_expression.proofs.Fewer.{TakesAny, TakesSome, at_last, behind_it, either_way, expression_fewer}
use Rattle.litmus_expression.proofs.Taken.{is_sign_is, others_fewer, sign_fewer}
use Rattle.litmus_body.specs.declared.statement.Counted.{Counted}
use Rattle.litmus_body.specs.declared.statement.Counted.TheVariants as counteds
use Rattle.litmus_body.specs.declared.statement.Opening.{Opening}
use Rattle.litmus_body.specs.declared.statement.Opening.TheVariants as openings
use Rattle.litmus_body.specs.CallReader.{call_at}
use Rattle.litmus_body.specs.SimpleReader.{simple_at}
use Rattle.litmus_body.specs.StatementReader.{Readers, added, behind, behind_body, by, deep, header_at, idle, is_else, opening_at, opening_with, statement_with}
use Rattle.litmus_body.specs.Statements.{alone, kept}
use Rattle.litmus_body.proofs.Fewer.{call_fewer, counted_same, data_race_fewer, declaration_fewer, header_fewer, others_at_most, simple_fewer}

-- ---- what begins a statement or a block is a symbol that is left

opening_some_of : (s : State) (y : Symbol) (o : Opening) → first s.symbols ≡ y → opening_with s y ≡ Some o → length (others s.symbols) < length s.symbols
opening_some_of s (word w) o next e = others_fewer s.symbols (word w) next (λ never. cc)
opening_some_of s (identifier name) o next e = others_fewer s.symbols (identifier name) next (λ never. cc)
opening_some_of s (number n) o next e = others_fewer s.symbols (number n) next (λ never. cc)
opening_some_of s (sign t) o next e = others_fewer s.symbols (sign t) next (λ never. cc)
opening_some_of s fault o next e = absurd cc

pub opening_some : (s : State) (o : Opening) → opening_at s ≡ Some o → length (others s.symbols) < length s.symbols
unfolding opening_at
opening_some s o e = opening_some_of s (first s.symbols) o refl e

pub sign_some : (t : Sign) (symbols : List Symbol) → is_sign t (first symbols) ≡ true → length (others symbols) < length symbols
sign_some t symbols e = others_fewer symbols (sign t) (is_sign_is t (first symbols) e) (λ never. cc)

-- ---- the parts

pub record Shorter (R : Readers) : Type 0 where
  pub statement : (p : NestingPlace) (s : State) (x : Option tree.Statement × State) → R.statement p s ≡ Some x → TakesSome s x
  pub counted : (p : NestingPlace) (c : Counted) (s : State) (x : tree.Statement × State) → R.counted p c s ≡ Some x → TakesSome s x
  pub branch : (p : NestingPlace) (s : State) (x : tree.Statement × State) → R.branch p s ≡ Some x → TakesSome s x
  pub repetition : (p : NestingPlace) (s : State) (x : tree.Statement × State) → R.repetition p s ≡ Some x → TakesSome s x
  pub body : (p : NestingPlace) (s : State) (x : tree.Block × State) → R.body p s ≡ Some x → TakesSome s x
  pub block : (p : NestingPlace) (s : State) (x : tree.Block × State) → R.block p s ≡ Some x → TakesSome s x
  pub more : (p : NestingPlace) (before : tree.Block) (s : State) (x : tree.Block × State) → R.more p before s ≡ Some x → TakesSome s x

module _ (R : Readers) (h : Shorter R) where
  statement_shorter : (p : NestingPlace) (s : State) (o : Opening) (x : Option tree.Statement × State) → opening_at s ≡ Some o → statement_with R p s o ≡ Some x
      → TakesSome s x
  statement_shorter p s openings.Empty x opens e = at_last _ (TakesSome s) x e (opening_some s openings.Empty opens)
  statement_shorter p s openings.Declaration x opens e = declaration_fewer p s x e
  statement_shorter p s (openings.Counted c) x opens e =
      behind_it (count_statement s) (λ u. R.counted p c u >>= λ z. Some (Some z.0, z.1)) (TakesSome s) x e (λ u counted e.
      behind_it (R.counted p c u) (λ z. Some (Some z.0, z.1)) (TakesSome s) x e (λ z is e.
      at_last _ (TakesSome s) x e
      (let same = counted_same s u counted in
      let inside : TakesSome u z = h.counted p c u z is in
      omega arith)))

  counted_shorter : (p : NestingPlace) (c : Counted) (s : State) (x : tree.Statement × State) → (by R).counted p c s ≡ Some x → TakesSome s x
  counted_shorter p counteds.If s x e = h.branch p s x e
  counted_shorter p counteds.For s x e = h.repetition p s x e
  counted_shorter p counteds.DataRace s x e = data_race_fewer p s x e
  counted_shorter p (counteds.Call w) s x e =
      behind_it (call_at p.turns p.scopes w s) (λ z. take_sign Semicolon z.1.symbols >>= λ l. Some (tree.call z.0, with_left z.1 l)) (TakesSome s) x e
      (λ z is e.
      behind_it (take_sign Semicolon z.1.symbols) (λ l. Some (tree.call z.0, with_left z.1 l)) (TakesSome s) x e (λ l ends e.
      at_last _ (TakesSome s) x e
      (let one : TakesSome s z = call_fewer p.turns p.scopes w s z is in
      let two = sign_fewer Semicolon z.1.symbols l ends in
      omega arith)))
  counted_shorter p counteds.Simple s x e =
      behind_it (simple_at p s) (λ z. take_sign Semicolon z.1.symbols >>= λ l. Some (alone z.0, with_left z.1 l)) (TakesSome s) x e (λ z is e.
      behind_it (take_sign Semicolon z.1.symbols) (λ l. Some (alone z.0, with_left z.1 l)) (TakesSome s) x e (λ l ends e.
      at_last _ (TakesSome s) x e
      (let one : TakesSome s z = simple_fewer p s z is in
      let two = sign_fewer Semicolon z.1.symbols l ends in
      omega arith)))

  behind_body_shorter : (p : NestingPlace) (condition : tree.Expression) (body : tree.Block) (s : State) (x : tree.Statement × State)
      → behind_body R p condition body s ≡ Some x → TakesAny s x
  behind_body_shorter p condition body s x e =
      either_way (is_else (first s.symbols)) (R.body p (after s) >>= λ z. Some (tree.if_else condition body z.0, z.1)) (Some (tree.if_block condition body, s))
      (TakesAny s) x e
      (λ is e.
      behind_it (R.body p (after s)) (λ z. Some (tree.if_else condition body z.0, z.1)) (TakesAny s) x e (λ z inside e.
      at_last _ (TakesAny s) x e
      (let zero = others_at_most s.symbols in
      let one : TakesSome (after s) z = h.body p (after s) z inside in
      omega arith)))
      (λ none e. at_last _ (TakesAny s) x e (omega arith))

  branch_shorter : (p : NestingPlace) (s : State) (x : tree.Statement × State) → (by R).branch p s ≡ Some x → TakesSome s x
  branch_shorter p s x e =
      behind_it (take_sign OpenParen (others s.symbols)) (λ l. expression_at p.turns p.depth (with_left s l) >>= λ c. take_sign CloseParen c.1.symbols
      >>= λ m. R.body p (with_left c.1 m) >>= λ b. behind_body R p c.0 b.0 b.1) (TakesSome s) x e (λ l opens e.
      behind_it (expression_at p.turns p.depth (with_left s l)) (λ c. take_sign CloseParen c.1.symbols >>= λ m. R.body p (with_left c.1 m)
      >>= λ b. behind_body R p c.0 b.0 b.1) (TakesSome s) x e (λ c condition e.
      behind_it (take_sign CloseParen c.1.symbols) (λ m. R.body p (with_left c.1 m) >>= λ b. behind_body R p c.0 b.0 b.1) (TakesSome s) x e (λ m closes e.
      behind_it (R.body p (with_left c.1 m)) (λ b. behind_body R p c.0 b.0 b.1) (TakesSome s) x e (λ b inside e.
      let zero = others_at_most s.symbols in
      let one = sign_fewer OpenParen (others s.symbols) l opens in
      let two : TakesSome (with_left s l) c = expression_fewer p.turns p.depth (with_left s l) c condition in
      let three = sign_fewer CloseParen c.1.symbols m closes in
      let four : TakesSome (with_left c.1 m) b = h.body p (with_left c.1 m) b inside in
      let five : TakesAny b.1 x = behind_body_shorter p c.0 b.0 b.1 x e in
      omega arith))))

  repetition_shorter : (p : NestingPlace) (s : State) (x : tree.Statement × State) → (by R).repetition p s ≡ Some x → TakesSome s x
  repetition_shorter p s x e =
      behind_it (header_at p (after s)) (λ n. R.body (in_loop p n.0.register n.0.repeats) n.1
      >>= λ b. Some (tree.for_turns n.0.register n.0.turns b.0, b.1)) (TakesSome s) x e (λ n header e.
      behind_it (R.body (in_loop p n.0.register n.0.repeats) n.1) (λ b. Some (tree.for_turns n.0.register n.0.turns b.0, b.1)) (TakesSome s) x e
      (λ b inside e.
      at_last _ (TakesSome s) x e
      (let zero = others_at_most s.symbols in
      let one : TakesSome (after s) n = header_fewer p (after s) n header in
      let two : TakesSome n.1 b = h.body (in_loop p n.0.register n.0.repeats) n.1 b inside in
      omega arith)))

  body_shorter : (p : NestingPlace) (s : State) (x : tree.Block × State) → (by R).body p s ≡ Some x → TakesSome s x
  body_shorter p s x e =
      either_way (is_sign OpenBrace (first s.symbols)) (R.block p s)
      (opening_at s >>= λ o. deeper p >>= λ q. R.statement q s >>= λ z. Some (kept z.0 tree.empty, z.1)) (TakesSome s) x e
      (λ brace e. h.block p s x e)
      (λ none e.
      behind_it (opening_at s) (λ o. deeper p >>= λ q. R.statement q s >>= λ z. Some (kept z.0 tree.empty, z.1)) (TakesSome s) x e (λ o opens e.
      behind_it (deeper p) (λ q. R.statement q s >>= λ z. Some (kept z.0 tree.empty, z.1)) (TakesSome s) x e (λ q inside e.
      behind_it (R.statement q s) (λ z. Some (kept z.0 tree.empty, z.1)) (TakesSome s) x e (λ z is e.
      at_last _ (TakesSome s) x e
      (h.statement q s z is)))))

  block_shorter : (p : NestingPlace) (s : State) (x : tree.Block × State) → (by R).block p s ≡ Some x → TakesSome s x
  block_shorter p s x e =
      either_way (is_sign OpenBrace (first s.symbols)) (deeper p >>= λ q. R.more q tree.empty (after s)) None (TakesSome s) x e
      (λ brace e.
      behind_it (deeper p) (λ q. R.more q tree.empty (after s)) (TakesSome s) x e (λ q inside e.
      let zero = sign_some OpenBrace s.symbols brace in
      let one : TakesSome (after s) x = h.more q tree.empty (after s) x e in
      omega arith))
      (λ none e. absurd cc)

  more_shorter : (p : NestingPlace) (before : tree.Block) (s : State) (x : tree.Block × State) → (by R).more p before s ≡ Some x → TakesSome s x
  more_shorter p before s x e =
      either_way (is_sign CloseBrace (first s.symbols)) (Some (before, after s))
      (R.statement p s >>= λ z. behind p z.0 >>= λ q. R.more q (added before z.0) z.1) (TakesSome s) x e
      (λ brace e. at_last _ (TakesSome s) x e (sign_some CloseBrace s.symbols brace))
      (λ none e.
      behind_it (R.statement p s) (λ z. behind p z.0 >>= λ q. R.more q (added before z.0) z.1) (TakesSome s) x e (λ z is e.
      behind_it (behind p z.0) (λ q. R.more q (added before z.0) z.1) (TakesSome s) x e (λ q later e.
      let one : TakesSome s z = h.statement p s z is in
      let two : TakesSome z.1 x = h.more q (added before z.0) z.1 x e in
      omega arith)))

  statement_whole : (p : NestingPlace) (s : State) (x : Option tree.Statement × State) → (by R).statement p s ≡ Some x → TakesSome s x
  statement_whole p s x e =
      behind_it (opening_at s) (λ o. statement_with R p s o) (TakesSome s) x e (λ o opens e.
      statement_shorter p s o x opens e)

  by_shorter : Shorter (by R)
  by_shorter = record {
    statement = statement_whole;
    counted = counted_shorter;
    branch = branch_shorter;
    repetition = repetition_shorter;
    body = body_shorter;
    block = block_shorter;
    more = more_shorter;
  }

idle_shorter : Shorter idle
idle_shorter = record {
  statement = λ p s x e. absurd cc;
  counted = λ p c s x e. absurd cc;
  branch = λ p s x e. absurd cc;
  repetition = λ p s x e. absurd cc;
  body = λ p s x e. absurd cc;
  block = λ p s x e. absurd cc;
  more = λ p before s x e. absurd cc;
}

pub deep_shorter : (fuel : ℕ) → Shorter (deep fuel)
unfolding deep
deep_shorter zero = idle_shorter
deep_shorter (suc fuel) = by_shorter (deep fuel) (deep_shorter fuel)
