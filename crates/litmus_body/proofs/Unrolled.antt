-- How deep the calls of readers go doesn't count where it suffices: each reader is given by the others.
use Rattle.std.proofs.Common.{◌≡◌, ◌∙◌, ℕ, zero, suc, ◌+◌, ◌*◌, ◌<◌, ◌≤◌, List, Bool, true, false, cond, Option, Some, None, length, refl, sym, ap, arith}
use Rattle.litmus_lex.specs.declared.sign.Sign.TheVariants.{OpenParen, CloseParen, OpenBrace, CloseBrace}
use Rattle.litmus_syntax.specs.Tree as tree
use Rattle.litmus_syntax.proofs.TreeLemmas.{statement_of-For, statement_of-If, statement_of-IfElse}
use Rattle.litmus_lex.specs.Front.{◌>>=◌, first, is_sign, others, take_sign}
use Rattle.litmus_lex.specs.Words.{Symbol}
use Rattle.litmus_expression.specs.ExpressionReader.{expression_at}
use Rattle.litmus_expression.specs.PlaceReader.{count_statement}
use Rattle.litmus_expression.specs.Places.{NestingPlace, deeper, in_loop}
use Rattle.litmus_expression.specs.States.{State, after, with_left}
use Rattle.litmus_expression.proofs.Fewer.{TakesAny, TakesSome, expression_fewer}
use Rattle.litmus_expression.proofs.Taken.{sign_fewer}
use Rattle.litmus_expression.proofs.Unrolled.{bind_same, choice_same, then_same}
use Rattle.litmus_body.specs.declared.statement.Counted.{Counted}
use Rattle.litmus_body.specs.declared.statement.Counted.TheVariants as counteds
use Rattle.litmus_body.specs.declared.statement.LoopHeader.{LoopHeader}
use Rattle.litmus_body.specs.declared.statement.Opening.{Opening}
use Rattle.litmus_body.specs.declared.statement.Opening.TheVariants as openings
use Rattle.litmus_body.specs.StatementReader.{Readers, added, behind, behind_body, by, deep, header_at, idle, is_else, opening_at, readers, statement_with}
use Rattle.litmus_body.specs.StatementReader.{block_at, body_at, branch_at, counted_at, more_at, repetition_at, statement_at}
use Rattle.litmus_body.specs.Statements.{kept}
use Rattle.litmus_body.proofs.Blocks.{block_more}
use Rattle.litmus_body.proofs.Fewer.{counted_same, header_fewer, others_at_most}
use Rattle.litmus_body.proofs.Shorter.{Shorter, deep_shorter, sign_some}

-- ---- readers that agree where calls go no deeper than so

pub record Agree (f g : ℕ) (R Q : Readers) : Type 0 where
  pub statement : (p : NestingPlace) (s : State) → 10 * length s.symbols + 2 < f → 10 * length s.symbols + 2 < g → R.statement p s ≡ Q.statement p s
  pub counted : (p : NestingPlace) (c : Counted) (s : State) → 10 * length s.symbols + 1 < f → 10 * length s.symbols + 1 < g → R.counted p c s ≡ Q.counted p c s
  pub branch : (p : NestingPlace) (s : State) → 10 * length s.symbols < f → 10 * length s.symbols < g → R.branch p s ≡ Q.branch p s
  pub repetition : (p : NestingPlace) (s : State) → 10 * length s.symbols < f → 10 * length s.symbols < g → R.repetition p s ≡ Q.repetition p s
  pub body : (p : NestingPlace) (s : State) → 10 * length s.symbols + 3 < f → 10 * length s.symbols + 3 < g → R.body p s ≡ Q.body p s
  pub block : (p : NestingPlace) (s : State) → 10 * length s.symbols < f → 10 * length s.symbols < g → R.block p s ≡ Q.block p s
  pub more : (p : NestingPlace) (before : tree.Block) (s : State) → 10 * length s.symbols + 3 < f → 10 * length s.symbols + 3 < g
      → R.more p before s ≡ Q.more p before s

module _ (f g : ℕ) (R Q : Readers) (short : Shorter R) (h : Agree f g R Q) where
  statement_agrees : (p : NestingPlace) (s : State) (o : Opening) → 10 * length s.symbols + 2 < suc f → 10 * length s.symbols + 2 < suc g
      → statement_with R p s o ≡ statement_with Q p s o
  statement_agrees p s openings.Empty lf lg = refl
  statement_agrees p s openings.Declaration lf lg = refl
  statement_agrees p s (openings.Counted c) lf lg =
      then_same (count_statement s) (λ u. R.counted p c u >>= λ x. Some (Some x.0, x.1)) (λ u. Q.counted p c u >>= λ x. Some (Some x.0, x.1))
      (λ u counted.
      let same = counted_same s u counted in
      ap (λ (o : Option (tree.Statement × State)). o >>= λ x. Some (Some x.0, x.1)) (h.counted p c u (omega arith) (omega arith)))

  counted_agrees : (p : NestingPlace) (c : Counted) (s : State) → 10 * length s.symbols + 1 < suc f → 10 * length s.symbols + 1 < suc g
      → (by R).counted p c s ≡ (by Q).counted p c s
  counted_agrees p counteds.If s lf lg = h.branch p s (omega arith) (omega arith)
  counted_agrees p counteds.For s lf lg = h.repetition p s (omega arith) (omega arith)
  counted_agrees p counteds.DataRace s lf lg = refl
  counted_agrees p (counteds.Call w) s lf lg = refl
  counted_agrees p counteds.Simple s lf lg = refl

  behind_body_agrees : (p : NestingPlace) (condition : tree.Expression) (body : tree.Block) (s : State) → 10 * length s.symbols + 3 < f → 10 * length s.symbols + 3 < g
      → behind_body R p condition body s ≡ behind_body Q p condition body s
  behind_body_agrees p condition body s lf lg =
      let le = others_at_most s.symbols in
      ap (λ (o : Option (tree.Block × State)). cond (is_else (first s.symbols)) (o >>= λ x. Some (tree.if_else condition body x.0, x.1)) (Some
      (tree.if_block condition body, s)))
      (h.body p (after s) (omega arith) (omega arith))

  branch_agrees : (p : NestingPlace) (s : State) → 10 * length s.symbols < suc f → 10 * length s.symbols < suc g → (by R).branch p s ≡ (by Q).branch p s
  branch_agrees p s lf lg =
      then_same (take_sign OpenParen (others s.symbols)) (λ l. expression_at p.turns p.depth (with_left s l) >>= λ c. take_sign CloseParen c.1.symbols
      >>= λ m. R.body p (with_left c.1 m) >>= λ b. behind_body R p c.0 b.0 b.1) (λ l. expression_at p.turns p.depth (with_left s l) >>= λ c.
      take_sign CloseParen c.1.symbols >>= λ m. Q.body p (with_left c.1 m) >>= λ b. behind_body Q p c.0 b.0 b.1)
      (λ l opens.
      then_same (expression_at p.turns p.depth (with_left s l)) (λ c. take_sign CloseParen c.1.symbols >>= λ m. R.body p (with_left c.1 m)
      >>= λ b. behind_body R p c.0 b.0 b.1) (λ c. take_sign CloseParen c.1.symbols >>= λ m. Q.body p (with_left c.1 m) >>= λ b. behind_body Q p c.0 b.0 b.1)
      (λ c condition.
      then_same (take_sign CloseParen c.1.symbols) (λ m. R.body p (with_left c.1 m) >>= λ b. behind_body R p c.0 b.0 b.1)
      (λ m. Q.body p (with_left c.1 m) >>= λ b. behind_body Q p c.0 b.0 b.1)
      (λ m closes.
      let zero = others_at_most s.symbols in
      let one = sign_fewer OpenParen (others s.symbols) l opens in
      let two : TakesSome (with_left s l) c = expression_fewer p.turns p.depth (with_left s l) c condition in
      let three = sign_fewer CloseParen c.1.symbols m closes in
      bind_same (R.body p (with_left c.1 m)) (Q.body p (with_left c.1 m)) (λ b. behind_body R p c.0 b.0 b.1) (λ b. behind_body Q p c.0 b.0 b.1)
      (h.body p (with_left c.1 m) (omega arith) (omega arith))
      (λ b inside.
      let four : TakesSome (with_left c.1 m) b = short.body p (with_left c.1 m) b inside in
      behind_body_agrees p c.0 b.0 b.1 (omega arith) (omega arith)))))

  repetition_agrees : (p : NestingPlace) (s : State) → 10 * length s.symbols < suc f → 10 * length s.symbols < suc g → (by R).repetition p s ≡ (by Q).repetition p s
  repetition_agrees p s lf lg =
      then_same (header_at p (after s)) (λ n. R.body (in_loop p n.0.register n.0.repeats) n.1
      >>= λ x. Some (tree.for_turns n.0.register n.0.turns x.0, x.1)) (λ n. Q.body (in_loop p n.0.register n.0.repeats) n.1
      >>= λ x. Some (tree.for_turns n.0.register n.0.turns x.0, x.1))
      (λ n header.
      let zero = others_at_most s.symbols in
      let one : TakesSome (after s) n = header_fewer p (after s) n header in
      ap (λ (o : Option (tree.Block × State)). o >>= λ x. Some (tree.for_turns n.0.register n.0.turns x.0, x.1))
      (h.body (in_loop p n.0.register n.0.repeats) n.1 (omega arith) (omega arith)))

  body_agrees : (p : NestingPlace) (s : State) → 10 * length s.symbols + 3 < suc f → 10 * length s.symbols + 3 < suc g → (by R).body p s ≡ (by Q).body p s
  body_agrees p s lf lg =
      choice_same (is_sign OpenBrace (first s.symbols)) (R.block p s)
      (opening_at s >>= λ o. deeper p >>= λ q. R.statement q s >>= λ x. Some (kept x.0 tree.empty, x.1)) (Q.block p s)
      (opening_at s >>= λ o. deeper p >>= λ q. Q.statement q s >>= λ x. Some (kept x.0 tree.empty, x.1))
      (h.block p s (omega arith) (omega arith))
      (λ none.
      then_same (opening_at s) (λ o. deeper p >>= λ q. R.statement q s >>= λ x. Some (kept x.0 tree.empty, x.1)) (λ o. deeper p
      >>= λ q. Q.statement q s >>= λ x. Some (kept x.0 tree.empty, x.1))
      (λ o opens.
      then_same (deeper p) (λ q. R.statement q s >>= λ x. Some (kept x.0 tree.empty, x.1)) (λ q. Q.statement q s >>= λ x. Some (kept x.0 tree.empty, x.1))
      (λ q inside.
      ap (λ (o : Option (Option tree.Statement × State)). o >>= λ x. Some (kept x.0 tree.empty, x.1)) (h.statement q s (omega arith) (omega arith)))))

  block_agrees : (p : NestingPlace) (s : State) → 10 * length s.symbols < suc f → 10 * length s.symbols < suc g → (by R).block p s ≡ (by Q).block p s
  block_agrees p s lf lg = if_so (is_sign OpenBrace (first s.symbols)) refl
    where
      if_so : (b : Bool) → is_sign OpenBrace (first s.symbols) ≡ b
          → cond b (deeper p >>= λ q. R.more q tree.empty (after s)) None ≡ cond b (deeper p >>= λ q. Q.more q tree.empty (after s)) None
      if_so true brace =
          let lt = sign_some OpenBrace s.symbols brace in
          then_same (deeper p) (λ q. R.more q tree.empty (after s)) (λ q. Q.more q tree.empty (after s))
          (λ q inside. h.more q tree.empty (after s) (omega arith) (omega arith))
      if_so false none = refl

  more_agrees : (p : NestingPlace) (before : tree.Block) (s : State) → 10 * length s.symbols + 3 < suc f → 10 * length s.symbols + 3 < suc g
      → (by R).more p before s ≡ (by Q).more p before s
  more_agrees p before s lf lg =
      choice_same (is_sign CloseBrace (first s.symbols)) (Some (before, after s))
      (R.statement p s >>= λ z. behind p z.0 >>= λ q. R.more q (added before z.0) z.1) (Some (before, after s))
      (Q.statement p s >>= λ z. behind p z.0 >>= λ q. Q.more q (added before z.0) z.1)
      refl
      (λ none.
      bind_same (R.statement p s) (Q.statement p s) (λ z. behind p z.0 >>= λ q. R.more q (added before z.0) z.1)
      (λ z. behind p z.0 >>= λ q. Q.more q (added before z.0) z.1)
      (h.statement p s (omega arith) (omega arith))
      (λ z is.
      let one : TakesSome s z = short.statement p s z is in
      then_same (behind p z.0) (λ q. R.more q (added before z.0) z.1) (λ q. Q.more q (added before z.0) z.1)
      (λ q later. h.more q (added before z.0) z.1 (omega arith) (omega arith))))

  by_agrees : Agree (suc f) (suc g) (by R) (by Q)
  by_agrees = record {
    statement = λ p s lf lg. then_same (opening_at s) (λ o. statement_with R p s o) (λ o. statement_with Q p s o) (λ o opens. statement_agrees p s o lf lg);
    counted = counted_agrees;
    branch = branch_agrees;
    repetition = repetition_agrees;
    body = body_agrees;
    block = block_agrees;
    more = more_agrees;
  }

none_agree : (f g : ℕ) (R Q : Readers) → ((n : ℕ) → n < f → n < g → ⊥) → Agree f g R Q
none_agree f g R Q never = record {
  statement = λ p s lf lg. absurd (never (10 * length s.symbols + 2) lf lg);
  counted = λ p c s lf lg. absurd (never (10 * length s.symbols + 1) lf lg);
  branch = λ p s lf lg. absurd (never (10 * length s.symbols) lf lg);
  repetition = λ p s lf lg. absurd (never (10 * length s.symbols) lf lg);
  body = λ p s lf lg. absurd (never (10 * length s.symbols + 3) lf lg);
  block = λ p s lf lg. absurd (never (10 * length s.symbols) lf lg);
  more = λ p before s lf lg. absurd (never (10 * length s.symbols + 3) lf lg);
}

deep_agree : (f g : ℕ) → Agree f g (deep f) (deep g)
unfolding deep
deep_agree zero g = none_agree zero g (deep zero) (deep g) (λ n lf lg. omega arith)
deep_agree (suc f) zero = none_agree (suc f) zero (deep (suc f)) (deep zero) (λ n lf lg. omega arith)
deep_agree (suc f) (suc g) = by_agrees f g (deep f) (deep g) (deep_shorter f) (deep_agree f g)

-- readers that are as deep as they have to be are as deep as any
deep_readers : (f : ℕ) → Agree f f (deep f) readers
unfolding statement_at counted_at branch_at repetition_at body_at block_at more_at
deep_readers f = record {
  statement = λ p s lf lg. (deep_agree f (10 * length s.symbols + 10)).statement p s lf (omega arith);
  counted = λ p c s lf lg. (deep_agree f (10 * length s.symbols + 10)).counted p c s lf (omega arith);
  branch = λ p s lf lg. (deep_agree f (10 * length s.symbols + 10)).branch p s lf (omega arith);
  repetition = λ p s lf lg. (deep_agree f (10 * length s.symbols + 10)).repetition p s lf (omega arith);
  body = λ p s lf lg. (deep_agree f (10 * length s.symbols + 10)).body p s lf (omega arith);
  block = λ p s lf lg. (deep_agree f (10 * length s.symbols + 10)).block p s lf (omega arith);
  more = λ p before s lf lg. (deep_agree f (10 * length s.symbols + 10)).more p before s lf (omega arith);
}

-- one call deeper
step_readers : (f : ℕ) → Agree (suc f) (suc f) (deep (suc f)) (by readers)
unfolding deep
step_readers f = by_agrees f f (deep f) readers (deep_shorter f) (deep_readers f)

-- the readers are those that call them
module _ (s : State) where
  enough : Agree (10 * length s.symbols + 10) (suc (10 * length s.symbols + 9)) (deep (10 * length s.symbols + 10)) (deep (suc (10 * length s.symbols + 9)))
  enough = deep_agree (10 * length s.symbols + 10) (suc (10 * length s.symbols + 9))

  one_more : Agree (suc (10 * length s.symbols + 9)) (suc (10 * length s.symbols + 9)) (deep (suc (10 * length s.symbols + 9))) (by readers)
  one_more = step_readers (10 * length s.symbols + 9)

pub statement_unrolls : (p : NestingPlace) (s : State) → statement_at p s ≡ (by readers).statement p s
unfolding statement_at
statement_unrolls p s = (enough s).statement p s (omega arith) (omega arith) ∙ (one_more s).statement p s (omega arith) (omega arith)

pub counted_unrolls : (p : NestingPlace) (c : Counted) (s : State) → counted_at p c s ≡ (by readers).counted p c s
unfolding counted_at
counted_unrolls p c s = (enough s).counted p c s (omega arith) (omega arith) ∙ (one_more s).counted p c s (omega arith) (omega arith)

pub branch_unrolls : (p : NestingPlace) (s : State) → branch_at p s ≡ (by readers).branch p s
unfolding branch_at
branch_unrolls p s = (enough s).branch p s (omega arith) (omega arith) ∙ (one_more s).branch p s (omega arith) (omega arith)

pub repetition_unrolls : (p : NestingPlace) (s : State) → repetition_at p s ≡ (by readers).repetition p s
unfolding repetition_at
repetition_unrolls p s = (enough s).repetition p s (omega arith) (omega arith) ∙ (one_more s).repetition p s (omega arith) (omega arith)

pub body_unrolls : (p : NestingPlace) (s : State) → body_at p s ≡ (by readers).body p s
unfolding body_at
body_unrolls p s = (enough s).body p s (omega arith) (omega arith) ∙ (one_more s).body p s (omega arith) (omega arith)

pub block_unrolls : (p : NestingPlace) (s : State) → block_at p s ≡ (by readers).block p s
unfolding block_at
block_unrolls p s = (enough s).block p s (omega arith) (omega arith) ∙ (one_more s).block p s (omega arith) (omega arith)

pub more_unrolls : (p : NestingPlace) (before : tree.Block) (s : State) → more_at p before s ≡ (by readers).more p before s
unfolding more_at
more_unrolls p before s = (enough s).more p before s (omega arith) (omega arith) ∙ (one_more s).more p before s (omega arith) (omega arith)

-- a loop whose header and body were read
pub loop_reads : (p q : NestingPlace) (s u w : State) (h : LoopHeader) (b : tree.Block) → header_at p (after s) ≡ Some (h, u) → q ≡ in_loop p h.register h.repeats
    → body_at q u ≡ Some (b, w) → repetition_at p s ≡ Some (tree.for_turns h.register h.turns b, w)
loop_reads p q s u w h b header inside body =
    repetition_unrolls p s
    ∙ ap (λ (o : Option (LoopHeader × State)). o >>= λ r. body_at (in_loop p r.0.register r.0.repeats) r.1 >>= λ x. Some
    (tree.for_turns r.0.register r.0.turns x.0, x.1)) header
    ∙ ap (λ (o : Option (tree.Block × State)). o >>= λ x. Some (tree.for_turns h.register h.turns x.0, x.1))
    (ap (λ (r : NestingPlace). body_at r u) (sym inside) ∙ body)

pub ruleset unrolls = (
  statement_unrolls,
  counted_unrolls,
  branch_unrolls,
  repetition_unrolls,
  body_unrolls,
  block_unrolls,
  more_unrolls,
  block_more,
  statement_of-If,
  statement_of-IfElse,
  statement_of-For,
)
