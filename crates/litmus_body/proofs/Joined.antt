-- Readers of two parts, one behind the other: the readers that they are parts of are given by them.
use Rattle.std.proofs.Common.{◌≡◌, ◌∙◌, ℕ, List, Bool, Option, Some, None, refl, sym, ap}
use Rattle.litmus_lex.specs.declared.sign.Sign.{Sign}
use Rattle.litmus_lex.specs.declared.sign.Sign.TheVariants.{OpenParen, CloseParen, Comma, Semicolon, Assign, Increment, Less}
use Rattle.litmus_syntax.specs.Tree as tree
use Rattle.litmus_syntax.specs.declared.statement.Call.{Call}
use Rattle.litmus_syntax.specs.declared.statement.WriteForm.{WriteForm}
use Rattle.litmus_syntax.proofs.TreeLemmas.{statement_of-If, statement_of-IfElse}
use Rattle.litmus_lex.specs.Front.{◌>>=◌, others, take_number, take_sign}
use Rattle.litmus_lex.specs.Words.{Symbol}
use Rattle.litmus_expression.specs.declared.process.Takes.{Takes}
use Rattle.litmus_expression.specs.declared.process.Takes.TheVariants.{Integers, Memory}
use Rattle.litmus_expression.specs.ExpressionReader.{expression_at, pure_at, take_star}
use Rattle.litmus_expression.specs.NameReader.{count_access, take_variable, variable_before}
use Rattle.litmus_expression.specs.PlaceReader.{take_changed}
use Rattle.litmus_expression.specs.Places.{NestingPlace, repeats_of}
use Rattle.litmus_expression.specs.States.{State, with_left}
use Rattle.litmus_expression.proofs.Unrolled.{then_same, variable_joins}
use Rattle.litmus_body.specs.declared.statement.LoopHeader.{LoopHeader}
use Rattle.litmus_body.specs.CallReader.{check, sized}
use Rattle.litmus_body.specs.SimpleReader.{behind_variable, increment, starred, starred_variable}
use Rattle.litmus_body.specs.StatementReader.{again_before, behind_body, bound_at, condition_at, counter_at, readers, step_at, take_again, take_start, take_zero}
use Rattle.litmus_body.specs.StatementReader.{body_at, branch_at}
use Rattle.litmus_body.specs.Statements.{Enclosable, assignment}
use Rattle.litmus_body.specs.StoreReader.{written}
use Rattle.litmus_body.proofs.Unrolled.{branch_unrolls}

-- what stands behind two readers stands behind the second
nested : {A B C : Type 0} (o : Option A) (f : A → Option B) (g : B → Option C) → ((o >>= f) >>= g) ≡ (o >>= λ x. f x >>= g)
nested None f g = refl
nested (Some x) f g = refl

-- ---- simple statements

pub starred_joins : (p : NestingPlace) (s : State) → starred p s
    ≡ (count_access p.turns s >>= λ c. starred_variable Integers c >>= λ v. behind_variable p v.0 v.1)
unfolding starred starred_variable
starred_joins p s =
    then_same (count_access p.turns s) (λ c. take_star c >>= λ u. take_variable Integers u >>= λ v. behind_variable p v.0 v.1)
    (λ c. (take_star c >>= λ u. take_variable Integers u) >>= λ v. behind_variable p v.0 v.1)
    (λ c counted. sym (nested (take_star c) (λ u. take_variable Integers u) (λ v. behind_variable p v.0 v.1)))

pub increment_joins : (p : NestingPlace) (s : State) → increment p s
    ≡ (count_access p.turns s >>= λ c. take_sign OpenParen c.symbols >>= λ l. take_star (with_left c l) >>= λ u.
    variable_before CloseParen Integers u >>= λ v. take_sign Increment v.1.symbols >>= λ m.
    Some (assignment (tree.increment v.0), with_left v.1 m))
unfolding increment
increment_joins p s =
    then_same (count_access p.turns s) (λ c. take_sign OpenParen c.symbols >>= λ l. behind_star (take_star (with_left c l)))
    (λ c. take_sign OpenParen c.symbols >>= λ l. take_star (with_left c l) >>= λ u. joined u)
    (λ c counted.
    then_same (take_sign OpenParen c.symbols) (λ l. behind_star (take_star (with_left c l))) (λ l. take_star (with_left c l) >>= λ u. joined u)
    (λ l opened.
    then_same (take_star (with_left c l)) (λ u. apart u) (λ u. joined u)
    (λ u starred. sym (variable_joins CloseParen Integers u (λ v. take_sign Increment v.1.symbols >>= λ m. Some (assignment (tree.increment v.0), with_left v.1 m))))))
  where
    apart : State → Option (Enclosable × State)
    apart u =
        take_variable Integers u >>= λ v. take_sign CloseParen v.1.symbols >>= λ l. take_sign Increment l >>= λ m.
        Some (assignment (tree.increment v.0), with_left v.1 m)

    joined : State → Option (Enclosable × State)
    joined u =
        variable_before CloseParen Integers u >>= λ v. take_sign Increment v.1.symbols >>= λ m.
        Some (assignment (tree.increment v.0), with_left v.1 m)

    behind_star : Option State → Option (Enclosable × State)
    behind_star o = o >>= λ u. apart u

pub written_joins : (t d : ℕ) (k : Takes) (form : WriteForm) (s : State) → written t d k form s
    ≡ (variable_before Comma k s >>= λ v. pure_at t d v.1 >>= λ x. Some (tree.write form v.0 x.0, x.1))
unfolding written
written_joins t d k form s = sym (variable_joins Comma k s (λ v. pure_at t d v.1 >>= λ x. Some (tree.write form v.0 x.0, x.1)))

pub check_joins : (t : ℕ) (write : Bool) (s : State) → check t write s
    ≡ (variable_before Comma Memory s >>= λ v. take_number v.1.symbols >>= λ n. sized t write v.0 n.0 (with_left v.1 n.1))
unfolding check
check_joins t write s =
    sym (variable_joins Comma Memory s (λ v. take_number v.1.symbols >>= λ n. sized t write v.0 n.0 (with_left v.1 n.1)))

-- ---- the header of a loop

again_joins : {A : Type 0} (g : Sign) (k : ℕ) (s : State) (f : State → Option A)
    → (again_before g k s >>= f) ≡ (take_again k s >>= λ u. take_sign g u.symbols >>= λ l. f (with_left u l))
unfolding again_before
again_joins g k s f =
    nested (take_again k s) (λ u. take_sign g u.symbols >>= λ l. Some (with_left u l)) f
    ∙ then_same (take_again k s) (λ u. (take_sign g u.symbols >>= λ l. Some (with_left u l)) >>= f) (λ u. take_sign g u.symbols >>= λ l. f (with_left u l))
    (λ u again. nested (take_sign g u.symbols) (λ l. Some (with_left u l)) f)

numbered : ℕ × State → List Symbol → Option (ℕ × State)
numbered r m = Some (r.0, with_left r.1 m)

started : (r : ℕ × State)
    → (take_sign Assign r.1.symbols >>= λ given. take_zero given >>= λ zero. take_sign Semicolon zero >>= λ m. numbered r m)
    ≡ (take_start r.1.symbols >>= λ m. numbered r m)
started r =
    then_same (take_sign Assign r.1.symbols) (λ given. take_zero given >>= λ zero. take_sign Semicolon zero >>= λ m. numbered r m)
    (λ given. (take_zero given >>= λ zero. take_sign Semicolon zero) >>= λ m. numbered r m)
    (λ given is. sym (nested (take_zero given) (λ zero. take_sign Semicolon zero) (λ m. numbered r m)))
    ∙ sym (nested (take_sign Assign r.1.symbols) (λ given. take_zero given >>= λ zero. take_sign Semicolon zero) (λ m. numbered r m))

pub counter_joins : (counters : List Bool) (s : State) → counter_at counters s
    ≡ (take_sign OpenParen s.symbols >>= λ l. take_changed counters (with_left s l) >>= λ r. take_start r.1.symbols >>= λ m. Some (r.0, with_left r.1 m))
unfolding counter_at numbered
counter_joins counters s =
    then_same (take_sign OpenParen s.symbols)
    (λ l. take_changed counters (with_left s l) >>= λ r. take_sign Assign r.1.symbols >>= λ given. take_zero given >>= λ zero. take_sign Semicolon zero
    >>= λ m. numbered r m)
    (λ l. take_changed counters (with_left s l) >>= λ r. take_start r.1.symbols >>= λ m. numbered r m)
    (λ l opened.
    then_same (take_changed counters (with_left s l))
    (λ r. take_sign Assign r.1.symbols >>= λ given. take_zero given >>= λ zero. take_sign Semicolon zero >>= λ m. numbered r m)
    (λ r. take_start r.1.symbols >>= λ m. numbered r m)
    (λ r changed. started r))

pub bound_joins : (p : NestingPlace) (register : ℕ) (s : State) → bound_at p register s
    ≡ (again_before Less register s >>= λ u. take_number u.symbols >>= λ n. repeats_of p n.0 >>= λ repeats. take_sign Semicolon n.1 >>= λ l.
    Some (record { register = register; turns = n.0; repeats = repeats }, with_left u l))
unfolding bound_at
bound_joins p register s =
    sym (again_joins Less register s (λ u. take_number u.symbols >>= λ n. repeats_of p n.0 >>= λ repeats. take_sign Semicolon n.1 >>= λ l. Some
    (record { register = register; turns = n.0; repeats = repeats }, with_left u l)))

pub step_joins : (register : ℕ) (s : State) → step_at register s
    ≡ (again_before Increment register s >>= λ u. take_sign CloseParen u.symbols >>= λ l. Some (with_left u l))
unfolding step_at
step_joins register s = sym (again_joins Increment register s (λ u. take_sign CloseParen u.symbols >>= λ l. Some (with_left u l)))

-- ---- the condition of an `if`

pub branch_joins : (p : NestingPlace) (s : State) → branch_at p s
    ≡ (condition_at p s >>= λ c. body_at p c.1 >>= λ b. behind_body readers p c.0 b.0 b.1)
unfolding condition_at
branch_joins p s =
    branch_unrolls p s
    ∙ sym (nested (take_sign OpenParen (others s.symbols)) (λ l. conditioned (with_left s l)) behind
    ∙ then_same (take_sign OpenParen (others s.symbols)) (λ l. conditioned (with_left s l) >>= behind) (λ l. apart (with_left s l))
    (λ l opened.
    nested (expression_at p.turns p.depth (with_left s l)) (λ c. take_sign CloseParen c.1.symbols >>= λ m. Some (c.0, with_left c.1 m)) behind
    ∙ then_same (expression_at p.turns p.depth (with_left s l)) (λ c. (take_sign CloseParen c.1.symbols >>= λ m. Some (c.0, with_left c.1 m)) >>= behind)
    (λ c. take_sign CloseParen c.1.symbols >>= λ m. behind (c.0, with_left c.1 m))
    (λ c condition. nested (take_sign CloseParen c.1.symbols) (λ m. Some (c.0, with_left c.1 m)) behind)))
  where
    behind : tree.Expression × State → Option (tree.Statement × State)
    behind c = body_at p c.1 >>= λ b. behind_body readers p c.0 b.0 b.1

    conditioned : State → Option (tree.Expression × State)
    conditioned u = expression_at p.turns p.depth u >>= λ c. take_sign CloseParen c.1.symbols >>= λ m. Some (c.0, with_left c.1 m)

    apart : State → Option (tree.Statement × State)
    apart u = expression_at p.turns p.depth u >>= λ c. take_sign CloseParen c.1.symbols >>= λ m. behind (c.0, with_left c.1 m)

pub ruleset branches = (branch_joins, statement_of-If, statement_of-IfElse)
