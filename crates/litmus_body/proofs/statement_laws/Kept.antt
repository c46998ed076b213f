-- What is read of statements and blocks keeps the limits, and is counted.
use Rattle.std.proofs.Common.{◌≡◌, ◌∙◌, ℕ, zero, suc, ◌+◌, ◌*◌, ◌<◌, ◌≤◌, ◌==◌, nat_lt, List, [], ◌∷◌, Bool, true, false, cond, Option, Some, None, length, refl, sym}
use Rattle.std.proofs.Common.{subst, arith, eq-eqb}
use Rattle.std.proofs.lemmas.Bool.{ltb-false}
use Rattle.access_types.specs.declared.history.Mark.{Mark}
use Rattle.access_types.specs.declared.history.Mark.TheVariants as marks
use Rattle.litmus_lex.specs.declared.sign.Sign.TheVariants.{OpenParen, CloseParen, OpenBrace, CloseBrace, Semicolon, Comma, Assign, Increment}
use Rattle.litmus_lex.specs.declared.sign.Sign.TheVariants as signs
use Rattle.litmus_syntax.specs.Limits.{BlockScopes, BlockTurns, BodyKeepsLimits, StatementScopes, StatementTurns, block_count, block_repeats, call_scopes}
use Rattle.litmus_syntax.specs.Limits.{own_repeats, statement_count, statement_repeats}
use Rattle.litmus_syntax.specs.Sites.{has_access}
use Rattle.litmus_syntax.specs.Tree as tree
use Rattle.litmus_syntax.specs.declared.statement.Call.{Call}
use Rattle.litmus_syntax.specs.declared.statement.Call.TheVariants as calls
use Rattle.litmus_lex.specs.declared.words.CallWord.{CallWord}
use Rattle.litmus_lex.specs.declared.words.CallWord.TheVariants as asks
use Rattle.litmus_lex.specs.declared.words.StoreWord.{StoreWord}
use Rattle.litmus_lex.specs.Front.{◌>>=◌, begins_call, first, is_sign, others, take_number, take_sign}
use Rattle.litmus_lex.specs.Words.{Symbol}
use Rattle.litmus_expression.specs.Counters.{AreCounters}
use Rattle.litmus_expression.specs.declared.process.Takes.TheVariants.{Integers, Locks, Memory}
use Rattle.litmus_expression.specs.ExpressionReader.{expression_at, load_at, take_star}
use Rattle.litmus_expression.specs.NameReader.{count_access, register_at, register_name, take_variable}
use Rattle.litmus_expression.specs.Names.{Parameter}
use Rattle.litmus_expression.specs.PlaceReader.{count_statement, take_changed}
use Rattle.litmus_expression.specs.Places.{NestingPlace, asserting, deeper, in_loop, is_counter, outermost, repeats_of}
use Rattle.litmus_expression.specs.States.{State, after, entering, with_left}
use Rattle.litmus_expression.proofs.Fewer.{at_last, behind_it, either_way, unless_it}
use Rattle.litmus_expression.proofs.Whole.{changed_reads, expression_reads}
use Rattle.litmus_body.specs.declared.statement.Counted.{Counted}
use Rattle.litmus_body.specs.declared.statement.Counted.TheVariants as counteds
use Rattle.litmus_body.specs.declared.statement.LoopHeader.{LoopHeader}
use Rattle.litmus_body.specs.declared.statement.Opening.{Opening}
use Rattle.litmus_body.specs.declared.statement.Opening.TheVariants as openings
use Rattle.litmus_body.specs.CallReader.{arguments, call_at, check, count_assertion, count_call, count_check, marked, sized, target}
use Rattle.litmus_body.specs.Reads.{ReadsSimple}
use Rattle.litmus_body.specs.SimpleReader.{Start, star, parenthesis, a_store, a_load, a_name, nothing, behind_variable, data_race_at, increment}
use Rattle.litmus_body.specs.SimpleReader.{register_assignment, simple_at, simple_with, start_of, starred}
use Rattle.litmus_body.specs.StatementReader.{Readers, added, behind, behind_body, behind_register, block_at, bound_at, by, counter_at, declaration_at, deep}
use Rattle.litmus_body.specs.StatementReader.{header_at, idle, is_else, is_the_register, joined, more_declared, opening_at, statement_with, step_at}
use Rattle.litmus_body.specs.StatementReader.{take_again, take_zero}
use Rattle.litmus_body.specs.Statements.{Enclosable, alone, assignment, kept, load, raced}
use Rattle.litmus_body.specs.StoreReader.{store_at, stored}
use Rattle.litmus_body.proofs.Blocks.{joined_nothing}
use Rattle.litmus_body.proofs.CallLemmas.{call_reads}
use Rattle.litmus_body.proofs.SimpleSound.{register_accesses, simple_reads}
use Rattle.litmus_body.specs.statement_laws.Reads.{Stands}
use Rattle.litmus_body.proofs.statement_laws.Counts.{Scopes, Turns, alone_count, alone_spent, branch_spent, choice_spent, count_of, kept_count, kept_spent, raced_count, raced_spent}
use Rattle.litmus_body.proofs.statement_laws.Counts.{scopes_behind, spent}
use Rattle.litmus_body.proofs.statement_laws.HeaderSound.{counted_spot, few, header_reads}
use Rattle.litmus_body.proofs.statement_laws.Low.{Low, Same, access_low, counted_low, expression_low, load_is_low, low_same, register_same, same_both, star_same, variable_same}
use Rattle.litmus_body.proofs.statement_laws.Openings.{Begins, opens_counted}
use Rattle.litmus_body.proofs.statement_laws.Places.{behind_is, counters_more, counters_none, deeper_is}
use Rattle.litmus_body.proofs.statement_laws.Sound.{Sound, deep_sound, later_block, stands_deeper, stands_with}

-- what is counted passes no limit yet
pub record Limited (s : State) : Type 0 where
  pub few : s.statements ≤ 256
  pub low : Low s

limited_same : (s u : State) → Same s u → Limited s → Limited u
limited_same s u same l = record {
  few = subst (λ (n : ℕ). n ≤ 256) (sym same.statements) l.few;
  low = low_same s u same l.low;
}

-- ---- calls

count_assertion_low : (t k : ℕ) (scoped : Bool) (s c : State) → count_assertion t k scoped s ≡ Some c → Low c
count_assertion_low t k true s c e = unless_it (k == 8) (count_access t s) Low c e (λ free e. access_low t s c e)
count_assertion_low t k false s c e = access_low t s c e

count_call_low : (t k : ℕ) (w : CallWord) (s c : State) → Low s → count_call t k w s ≡ Some c → Low c
count_call_low t k (asks.Barrier b) s c low e = at_last s Low c e low
count_call_low t k asks.Lock s c low e = at_last s Low c e low
count_call_low t k asks.Unlock s c low e = at_last s Low c e low
count_call_low t k (asks.AssertWriter scoped) s c low e = count_assertion_low t k scoped s c e
count_call_low t k (asks.AssertAccess scoped) s c low e = count_assertion_low t k scoped s c e
count_call_low t k asks.AssertBits s c low e = access_low t s c e
count_call_low t k (asks.Mark m) s c low e = at_last s Low c e low
count_call_low t k asks.AtomicNext s c low e = at_last s Low c e low
count_call_low t k (asks.Check write) s c low e = at_last s Low c e low

abbrev LowCall : Call × State → Type 0
LowCall y = Low y.1

target_same : (s : State) (x : ℕ × State) → target s ≡ Some x → Same s x.1
unfolding target
target_same s x e =
    behind_it (take_star s) (λ u. take_variable Memory u) (λ (y : ℕ × State). Same s y.1) x e (λ u is e.
    same_both s u x.1 (star_same s u is) (variable_same Memory u x e))

check_low : (t : ℕ) (write : Bool) (s : State) (x : Call × State) → Low s → check t write s ≡ Some x → Low x.1
unfolding check
check_low t write s x low e =
    behind_it (take_variable Memory s) (λ v. take_sign Comma v.1.symbols >>= λ l. take_number l >>= λ n. sized t write v.0 n.0 (with_left v.1 n.1))
    LowCall x e (λ v named e.
    behind_it (take_sign Comma v.1.symbols) (λ l. take_number l >>= λ n. sized t write v.0 n.0 (with_left v.1 n.1)) LowCall x e (λ l comma e.
    behind_it (take_number l) (λ n. sized t write v.0 n.0 (with_left v.1 n.1)) LowCall x e (λ n taken e.
    unless_it (nat_lt 1048576 n.0) (count_check t n.0 (with_left v.1 n.1) >>= λ c. Some (calls.Check write v.0 n.0, c)) LowCall x e (λ short e.
    behind_it (count_check t n.0 (with_left v.1 n.1)) (λ c. Some (calls.Check write v.0 n.0, c)) LowCall x e (λ c counted e.
    at_last (calls.Check write v.0 n.0, c) LowCall x e
    (either_way (nat_lt 0 n.0) (count_access t (with_left v.1 n.1)) (Some (with_left v.1 n.1)) Low c counted
    (λ some counted. access_low t (with_left v.1 n.1) c counted)
    (λ none counted. at_last (with_left v.1 n.1) Low c counted (low_same s v.1 (variable_same Memory s v named) low))))))))

marked_low : (m : Mark) (s : State) (x : Call × State) → Low s → marked m s ≡ Some x → Low x.1
marked_low marks.Disable s x low e = at_last (calls.Mark marks.Disable, s) LowCall x e low
marked_low marks.Enable s x low e = at_last (calls.Mark marks.Enable, s) LowCall x e low
marked_low marks.NestOpen s x low e = at_last (calls.Mark marks.NestOpen, s) LowCall x e low
marked_low marks.NestClose s x low e = at_last (calls.Mark marks.NestClose, s) LowCall x e low
marked_low marks.FlatBegin s x low e = at_last (calls.Mark marks.FlatBegin, s) LowCall x e low
marked_low marks.FlatEnd s x low e = at_last (calls.Mark marks.FlatEnd, s) LowCall x e low
marked_low (marks.Next n) s x low e = absurd cc

arguments_low : (t : ℕ) (w : CallWord) (s : State) (x : Call × State) → Low s → arguments t w s ≡ Some x → Low x.1
unfolding arguments
arguments_low t (asks.Barrier b) s x low e = at_last (calls.Barrier b, s) LowCall x e low
arguments_low t asks.Lock s x low e =
    behind_it (take_variable Locks s) (λ v. Some (calls.Lock v.0, v.1)) LowCall x e (λ v is e.
    at_last (calls.Lock v.0, v.1) LowCall x e (low_same s v.1 (variable_same Locks s v is) low))
arguments_low t asks.Unlock s x low e =
    behind_it (take_variable Locks s) (λ v. Some (calls.Unlock v.0, v.1)) LowCall x e (λ v is e.
    at_last (calls.Unlock v.0, v.1) LowCall x e (low_same s v.1 (variable_same Locks s v is) low))
arguments_low t (asks.AssertWriter scoped) s x low e =
    behind_it (target s) (λ v. Some (calls.AssertWriter v.0 scoped, v.1)) LowCall x e (λ v is e.
    at_last (calls.AssertWriter v.0 scoped, v.1) LowCall x e (low_same s v.1 (target_same s v is) low))
arguments_low t (asks.AssertAccess scoped) s x low e =
    behind_it (target s) (λ v. Some (calls.AssertAccess v.0 scoped, v.1)) LowCall x e (λ v is e.
    at_last (calls.AssertAccess v.0 scoped, v.1) LowCall x e (low_same s v.1 (target_same s v is) low))
arguments_low t asks.AssertBits s x low e =
    behind_it (target s) (λ v. take_sign Comma v.1.symbols >>= λ l. take_number l >>= λ n. Some (calls.AssertBits v.0 n.0, with_left v.1 n.1))
    LowCall x e (λ v is e.
    behind_it (take_sign Comma v.1.symbols) (λ l. take_number l >>= λ n. Some (calls.AssertBits v.0 n.0, with_left v.1 n.1)) LowCall x e (λ l comma e.
    behind_it (take_number l) (λ n. Some (calls.AssertBits v.0 n.0, with_left v.1 n.1)) LowCall x e (λ n taken e.
    at_last (calls.AssertBits v.0 n.0, with_left v.1 n.1) LowCall x e (low_same s v.1 (target_same s v is) low))))
arguments_low t (asks.Mark m) s x low e = marked_low m s x low e
arguments_low t asks.AtomicNext s x low e =
    behind_it (take_number s.symbols) (λ n. Some (calls.Mark (marks.Next n.0), with_left s n.1)) LowCall x e (λ n taken e.
    at_last (calls.Mark (marks.Next n.0), with_left s n.1) LowCall x e low)
arguments_low t (asks.Check write) s x low e = check_low t write s x low e

call_low : (t k : ℕ) (w : CallWord) (s : State) (x : Call × State) → Low s → call_at t k w s ≡ Some x → Low x.1
unfolding call_at
call_low t k w s x low e =
    behind_it (count_call t k w s) (λ c. take_sign OpenParen (others c.symbols) >>= λ l. arguments t w (with_left c l) >>= λ z.
    take_sign CloseParen z.1.symbols >>= λ m. Some (z.0, with_left z.1 m)) LowCall x e (λ c counted e.
    behind_it (take_sign OpenParen (others c.symbols)) (λ l. arguments t w (with_left c l) >>= λ z.
    take_sign CloseParen z.1.symbols >>= λ m. Some (z.0, with_left z.1 m)) LowCall x e (λ l opens e.
    behind_it (arguments t w (with_left c l)) (λ z. take_sign CloseParen z.1.symbols >>= λ m. Some (z.0, with_left z.1 m)) LowCall x e (λ z is e.
    behind_it (take_sign CloseParen z.1.symbols) (λ m. Some (z.0, with_left z.1 m)) LowCall x e (λ m closes e.
    at_last (z.0, with_left z.1 m) LowCall x e (arguments_low t w (with_left c l) z (count_call_low t k w s c low counted) is)))))

-- ---- simple statements

own_at_most : (t : ℕ) (s : tree.Statement) → own_repeats t s ≤ t
own_at_most t s = one (has_access s)
  where
    one : (b : Bool) → cond b t 0 ≤ t
    one true = omega arith
    one false = omega arith

-- what is counted first is all that is counted
all_counted : (n t own m : ℕ) → n + t ≤ 1024 → own ≤ t → m ≡ n + own → m ≤ 1024
all_counted n t own m le few is = omega arith

abbrev Counted_first : ℕ → State → Type 0
Counted_first t s = s.repeats + t ≤ 1024

store_first : (p : NestingPlace) (s : State) (w : StoreWord) (y : tree.Assignment × State) → store_at p.turns p.depth w s ≡ Some y → Counted_first p.turns s
unfolding store_at
store_first p s w y e =
    behind_it (count_access p.turns s) (λ c. take_sign OpenParen (others c.symbols) >>= λ l. stored p.turns p.depth w (with_left c l) >>= λ z.
    take_sign CloseParen z.1.symbols >>= λ m. Some (z.0, with_left z.1 m)) (λ (z : tree.Assignment × State). Counted_first p.turns s) y e
    (λ c counted e. counted_low p.turns s c counted)

changed_same : (f : List Bool) (s : State) (x : ℕ × State) → take_changed f s ≡ Some x → Same s x.1
unfolding take_changed
changed_same f s x e =
    behind_it (register_at s) (λ r. cond (is_counter f r.0) None (Some (r.0, after r.1))) (λ (y : ℕ × State). Same s y.1) x e (λ r is e.
    unless_it (is_counter f r.0) (Some (r.0, after r.1)) (λ (y : ℕ × State). Same s y.1) x e (λ free e.
    at_last (r.0, after r.1) (λ (y : ℕ × State). Same s y.1) x e
    (let k = register_same s r is in record { statements = k.statements; repeats = k.repeats })))

register_low : (p : NestingPlace) (s : State) (x : tree.Assignment × State) → Low s → register_assignment p s ≡ Some x → Low x.1
unfolding register_assignment
register_low p s x low e =
    unless_it (begins_call s.symbols) (take_changed p.counters s >>= λ r. take_sign Assign r.1.symbols >>= λ l.
    expression_at p.turns p.depth (with_left r.1 l) >>= λ z. Some (tree.to_register r.0 z.0, z.1)) (λ (y : tree.Assignment × State). Low y.1) x e (λ none e.
    behind_it (take_changed p.counters s) (λ r. take_sign Assign r.1.symbols >>= λ l.
    expression_at p.turns p.depth (with_left r.1 l) >>= λ z. Some (tree.to_register r.0 z.0, z.1)) (λ (y : tree.Assignment × State). Low y.1) x e (λ r is e.
    behind_it (take_sign Assign r.1.symbols) (λ l. expression_at p.turns p.depth (with_left r.1 l) >>= λ z. Some (tree.to_register r.0 z.0, z.1))
    (λ (y : tree.Assignment × State). Low y.1) x e (λ l assigns e.
    behind_it (expression_at p.turns p.depth (with_left r.1 l)) (λ z. Some (tree.to_register r.0 z.0, z.1))
    (λ (y : tree.Assignment × State). Low y.1) x e (λ z value e.
    at_last (tree.to_register r.0 z.0, z.1) (λ (y : tree.Assignment × State). Low y.1) x e
    (expression_low p.turns p.depth (with_left r.1 l) z (low_same s r.1 (changed_same p.counters s r is) low) value)))))

abbrev LowSimple : Enclosable × State → Type 0
LowSimple y = Low y.1

module _ (p : NestingPlace) (counters : List ℕ) (s : State) (x : Enclosable × State) (r : ReadsSimple p counters s x) where
  first_is : Counted_first p.turns s → Low x.1
  first_is le = all_counted s.repeats p.turns (own_repeats p.turns (alone x.0)) x.1.repeats le (own_at_most p.turns (alone x.0)) r.repeats

  simple_from : (b : Start) → Low s → simple_with p s b ≡ Some x → Low x.1
  unfolding starred increment
  simple_from star low e =
      first_is (behind_it (count_access p.turns s) (λ c. take_star c >>= λ u. take_variable Integers u >>= λ v. behind_variable p v.0 v.1)
      (λ (z : Enclosable × State). Counted_first p.turns s) x e (λ c counted e. counted_low p.turns s c counted))
  simple_from parenthesis low e =
      first_is (behind_it (count_access p.turns s) (λ c. take_sign OpenParen c.symbols >>= λ l. take_star (with_left c l) >>= λ u.
      take_variable Integers u >>= λ v. take_sign CloseParen v.1.symbols >>= λ m. take_sign Increment m >>= λ n.
      Some (assignment (tree.increment v.0), with_left v.1 n))
      (λ (z : Enclosable × State). Counted_first p.turns s) x e (λ c counted e. counted_low p.turns s c counted))
  simple_from (a_store w) low e =
      first_is (behind_it (store_at p.turns p.depth w s) (λ z. Some (assignment z.0, z.1)) (λ (z : Enclosable × State). Counted_first p.turns s) x e
      (λ z is e. store_first p s w z is))
  simple_from a_load low e =
      behind_it (load_at p.turns p.depth s) (λ z. Some (load z.0, z.1)) LowSimple x e (λ z is e.
      at_last (load z.0, z.1) LowSimple x e (load_is_low p.turns p.depth s z low is))
  simple_from a_name low e =
      behind_it (register_assignment p s) (λ z. Some (assignment z.0, z.1)) LowSimple x e (λ z is e.
      at_last (assignment z.0, z.1) LowSimple x e (register_low p s z low is))
  simple_from nothing low e = absurd cc

simple_low : (p : NestingPlace) (counters : List ℕ) (s : State) (x : Enclosable × State) → ReadsSimple p counters s x → Low s → simple_at p s ≡ Some x → Low x.1
unfolding simple_at
simple_low p counters s x r low e = simple_from p counters s x r (start_of (first s.symbols)) low e

-- ---- counting a statement

record One (s u : State) : Type 0 where
  statements : u.statements ≡ s.statements + 1
  repeats : u.repeats ≡ s.repeats
  few : u.statements ≤ 256

not_all : (n : ℕ) → (n == 256) ≡ false → n ≤ 256 → n + 1 ≤ 256
not_all n e le = grind (arith, eq-eqb n 256)

one_more : (s u : State) → s.statements ≤ 256 → count_statement s ≡ Some u → One s u
one_more s u le e =
    unless_it (s.statements == 256) (Some (record s { statements = s.statements + 1 })) (One s) u e (λ no e.
    at_last (record s { statements = s.statements + 1 }) (One s) u e
    (record { statements = refl; repeats = refl; few = not_all s.statements no le }))

-- ---- headers of loops

more_same : (f : List Bool) (s : State) (symbols : List Symbol) (u : State) → more_declared f s symbols ≡ Some u → Same s u
unfolding more_declared
more_same f s [] u e = at_last (with_left s []) (Same s) u e (record { statements = refl; repeats = refl })
more_same f s (a ∷ []) u e =
    unless_it (is_sign Comma a) (Some (with_left s (a ∷ []))) (Same s) u e (λ no e.
    at_last (with_left s (a ∷ [])) (Same s) u e (record { statements = refl; repeats = refl }))
more_same f s (a ∷ b ∷ symbols) u e =
    either_way (is_sign Comma a) (take_changed f (with_left s (b ∷ symbols)) >>= λ r. more_declared f r.1 symbols)
    (Some (with_left s (a ∷ b ∷ symbols))) (Same s) u e
    (λ comma e.
    behind_it (take_changed f (with_left s (b ∷ symbols))) (λ r. more_declared f r.1 symbols) (Same s) u e (λ r is e.
    let one = changed_same f (with_left s (b ∷ symbols)) r is in
    same_both s r.1 u (record { statements = one.statements; repeats = one.repeats }) (more_same f r.1 symbols u e)))
    (λ none e. at_last (with_left s (a ∷ b ∷ symbols)) (Same s) u e (record { statements = refl; repeats = refl }))

again_same : (register : ℕ) (s u : State) → take_again register s ≡ Some u → Same s u
unfolding take_again
again_same register s u e =
    either_way (is_the_register s.names register (register_name s)) (Some (after s)) None (Same s) u e
    (λ yes e. at_last (after s) (Same s) u e (record { statements = refl; repeats = refl })) (λ no e. absurd cc)

counter_same : (f : List Bool) (s : State) (x : ℕ × State) → counter_at f s ≡ Some x → Same s x.1
unfolding counter_at
counter_same f s x e =
    behind_it (take_sign OpenParen s.symbols) (λ o. take_changed f (with_left s o) >>= λ r. take_sign Assign r.1.symbols >>= λ g.
    take_zero g >>= λ z. take_sign Semicolon z >>= λ l. Some (r.0, with_left r.1 l)) (λ (y : ℕ × State). Same s y.1) x e (λ o opens e.
    behind_it (take_changed f (with_left s o)) (λ r. take_sign Assign r.1.symbols >>= λ g.
    take_zero g >>= λ z. take_sign Semicolon z >>= λ l. Some (r.0, with_left r.1 l)) (λ (y : ℕ × State). Same s y.1) x e (λ r is e.
    behind_it (take_sign Assign r.1.symbols) (λ g. take_zero g >>= λ z. take_sign Semicolon z >>= λ l. Some (r.0, with_left r.1 l))
    (λ (y : ℕ × State). Same s y.1) x e (λ g assigns e.
    behind_it (take_zero g) (λ z. take_sign Semicolon z >>= λ l. Some (r.0, with_left r.1 l)) (λ (y : ℕ × State). Same s y.1) x e (λ z zeroed e.
    behind_it (take_sign Semicolon z) (λ l. Some (r.0, with_left r.1 l)) (λ (y : ℕ × State). Same s y.1) x e (λ l ends e.
    at_last (r.0, with_left r.1 l) (λ (y : ℕ × State). Same s y.1) x e
    (let k = changed_same f (with_left s o) r is in record { statements = k.statements; repeats = k.repeats }))))))

-- the header of a loop, whose turns keep the limit
record CountsHeader (p : NestingPlace) (s : State) (x : LoopHeader × State) : Type 0 where
  same : Same s x.1
  few : x.0.turns ≤ 256
  inside : p.turns * x.0.turns ≤ 256
  repeats : x.0.repeats ≡ p.turns * x.0.turns

record Repeats (p : NestingPlace) (turns n : ℕ) : Type 0 where
  few : turns ≤ 256
  inside : p.turns * turns ≤ 256
  is : n ≡ p.turns * turns

repeats_are : (p : NestingPlace) (turns n : ℕ) → repeats_of p turns ≡ Some n → Repeats p turns n
repeats_are p turns n e =
    unless_it (nat_lt 256 turns) (cond (nat_lt 256 (p.turns * turns)) None (Some (p.turns * turns))) (Repeats p turns) n e (λ few e.
    unless_it (nat_lt 256 (p.turns * turns)) (Some (p.turns * turns)) (Repeats p turns) n e (λ inside e.
    at_last (p.turns * turns) (Repeats p turns) n e
    (record { few = ltb-false 256 turns few; inside = ltb-false 256 (p.turns * turns) inside; is = refl })))

bound_counts : (p : NestingPlace) (register : ℕ) (s : State) (x : LoopHeader × State) → bound_at p register s ≡ Some x → CountsHeader p s x
unfolding bound_at
bound_counts p register s x e =
    behind_it (take_again register s) (λ u. take_sign signs.Less u.symbols >>= λ b. take_number b >>= λ n. repeats_of p n.0 >>= λ m.
    take_sign Semicolon n.1 >>= λ l. Some (record { register = register; turns = n.0; repeats = m }, with_left u l)) (CountsHeader p s) x e (λ u again e.
    behind_it (take_sign signs.Less u.symbols) (λ b. take_number b >>= λ n. repeats_of p n.0 >>= λ m.
    take_sign Semicolon n.1 >>= λ l. Some (record { register = register; turns = n.0; repeats = m }, with_left u l)) (CountsHeader p s) x e (λ b less e.
    behind_it (take_number b) (λ n. repeats_of p n.0 >>= λ m.
    take_sign Semicolon n.1 >>= λ l. Some (record { register = register; turns = n.0; repeats = m }, with_left u l)) (CountsHeader p s) x e (λ n taken e.
    behind_it (repeats_of p n.0) (λ m. take_sign Semicolon n.1 >>= λ l.
    Some (record { register = register; turns = n.0; repeats = m }, with_left u l)) (CountsHeader p s) x e (λ m repeated e.
    behind_it (take_sign Semicolon n.1) (λ l. Some (record { register = register; turns = n.0; repeats = m }, with_left u l)) (CountsHeader p s) x e (λ l ends e.
    at_last _ (CountsHeader p s) x e
    (let k = again_same register s u again in
    let t = repeats_are p n.0 m repeated in
    record { same = record { statements = k.statements; repeats = k.repeats }; few = t.few; inside = t.inside; repeats = t.is }))))))

step_same : (register : ℕ) (s u : State) → step_at register s ≡ Some u → Same s u
unfolding step_at
step_same register s u e =
    behind_it (take_again register s) (λ v. take_sign Increment v.symbols >>= λ i. take_sign CloseParen i >>= λ l. Some (with_left v l)) (Same s) u e (λ v again e.
    behind_it (take_sign Increment v.symbols) (λ i. take_sign CloseParen i >>= λ l. Some (with_left v l)) (Same s) u e (λ i steps e.
    behind_it (take_sign CloseParen i) (λ l. Some (with_left v l)) (Same s) u e (λ l closes e.
    at_last (with_left v l) (Same s) u e
    (let k = again_same register s v again in record { statements = k.statements; repeats = k.repeats }))))

header_counts : (p : NestingPlace) (s : State) (x : LoopHeader × State) → header_at p s ≡ Some x → CountsHeader p s x
unfolding header_at
header_counts p s x e =
    behind_it (counter_at p.counters s) (λ r. bound_at p r.0 r.1 >>= λ h. step_at r.0 h.1 >>= λ u. Some (h.0, u)) (CountsHeader p s) x e (λ r counter e.
    behind_it (bound_at p r.0 r.1) (λ h. step_at r.0 h.1 >>= λ u. Some (h.0, u)) (CountsHeader p s) x e (λ h bound e.
    behind_it (step_at r.0 h.1) (λ u. Some (h.0, u)) (CountsHeader p s) x e (λ u step e.
    at_last (h.0, u) (CountsHeader p s) x e
    (let b = bound_counts p r.0 r.1 h bound in
    record {
      same = same_both s h.1 u (same_both s r.1 h.1 (counter_same p.counters s r counter) b.same) (step_same r.0 h.1 u step);
      few = b.few;
      inside = b.inside;
      repeats = b.repeats;
    }))))

-- ---- statements

-- a statement, or nothing, with what is counted
pub record Counts (p : NestingPlace) (s : State) (x : Option tree.Statement × State) : Type 0 where
  pub statements : x.1.statements ≡ s.statements + count_of x.0
  pub repeats : x.1.repeats ≡ s.repeats + spent p.turns x.0
  pub limited : Limited x.1
  pub turns : Turns p.turns x.0
  pub scopes : Scopes p.scopes x.0

-- a statement that is counted already
pub record Inside (p : NestingPlace) (s : State) (x : tree.Statement × State) : Type 0 where
  pub statements : x.1.statements + 1 ≡ s.statements + statement_count x.0
  pub repeats : x.1.repeats ≡ s.repeats + statement_repeats p.turns x.0
  pub limited : Limited x.1
  pub turns : StatementTurns p.turns x.0
  pub scopes : StatementScopes p.scopes x.0

pub record CountsBlock (p : NestingPlace) (s : State) (x : tree.Block × State) : Type 0 where
  pub statements : x.1.statements ≡ s.statements + block_count x.0
  pub repeats : x.1.repeats ≡ s.repeats + block_repeats p.turns x.0
  pub limited : Limited x.1
  pub turns : BlockTurns p.turns x.0
  pub scopes : BlockScopes p.scopes x.0

pub record CountsMore (p : NestingPlace) (before : tree.Block) (s : State) (x : tree.Block × State) : Type 0 where
  pub block : tree.Block
  pub made : x.0 ≡ joined before block
  pub counts : CountsBlock p s (block, x.1)

declaration_counts : (p : NestingPlace) (counters : List ℕ) (s : State) (x : Option tree.Statement × State) → Stands p counters s → Limited s
    → declaration_at p s ≡ Some x → Counts p s x
unfolding declaration_at
declaration_counts p counters s x stands limited e =
    behind_it (take_changed p.counters (after s)) (λ r. behind_register p r.0 r.1) (Counts p s) x e (λ r changed e.
    let k = changed_reads p.counters counters (after s) r stands.are stands.registers changed in
    let same : Same s r.1 = record { statements = k.statements; repeats = k.repeats } in
    let l = limited_same s r.1 same limited in
    either_way (is_sign Assign (first r.1.symbols))
    (count_statement r.1 >>= λ c. expression_at p.turns p.depth (after c) >>= λ z. take_sign Semicolon z.1.symbols >>= λ m. Some
    (Some (tree.assign false (tree.to_register r.0 z.0)), with_left z.1 m))
    (more_declared p.counters r.1 r.1.symbols >>= λ u. take_sign Semicolon u.symbols >>= λ m. Some (None, with_left u m))
    (Counts p s) x e
    (λ assigns e.
    behind_it (count_statement r.1) (λ c. expression_at p.turns p.depth (after c) >>= λ z. take_sign Semicolon z.1.symbols >>= λ m. Some
    (Some (tree.assign false (tree.to_register r.0 z.0)), with_left z.1 m)) (Counts p s) x e (λ c counted e.
    behind_it (expression_at p.turns p.depth (after c)) (λ z. take_sign Semicolon z.1.symbols >>= λ m. Some
    (Some (tree.assign false (tree.to_register r.0 z.0)), with_left z.1 m)) (Counts p s) x e (λ z value e.
    behind_it (take_sign Semicolon z.1.symbols) (λ m. Some
    (Some (tree.assign false (tree.to_register r.0 z.0)), with_left z.1 m)) (Counts p s) x e (λ m ends e.
    at_last _ (Counts p s) x e
    (let one = one_more r.1 c l.few counted in
    let spot = counted_spot r.1 c counted in
    let low : Low (after c) = subst (λ (n : ℕ). n ≤ 1024) (sym one.repeats) l.low in
    let q = (expression_reads p.turns p.depth (after c) z stands.depth (few spot.names k.within) value).reads in
    record {
      statements = omega (arith, q.statements, one.statements, k.statements);
      repeats = omega (arith, q.repeats, one.repeats, k.repeats, register_accesses p.turns r.0 z.0);
      limited = record {
        few = subst (λ (n : ℕ). n ≤ 256) (sym q.statements) one.few;
        low = expression_low p.turns p.depth (after c) z low value;
      };
      turns = tt;
      scopes = tt;
    })))))
    (λ none e.
    behind_it (more_declared p.counters r.1 r.1.symbols) (λ u. take_sign Semicolon u.symbols >>= λ m. Some (None, with_left u m)) (Counts p s) x e (λ u more e.
    behind_it (take_sign Semicolon u.symbols) (λ m. Some (None, with_left u m)) (Counts p s) x e (λ m ends e.
    at_last (None, with_left u m) (Counts p s) x e
    (let all = same_both s r.1 u same (more_same p.counters r.1 r.1.symbols u more) in
    record {
      statements = omega (arith, all.statements);
      repeats = omega (arith, all.repeats);
      limited = limited_same s (with_left u m) (record { statements = all.statements; repeats = all.repeats }) limited;
      turns = tt;
      scopes = tt;
    })))))

pub record Counting (R : Readers) : Type 0 where
  pub statement : (p : NestingPlace) (counters : List ℕ) (s : State) (x : Option tree.Statement × State) → Stands p counters s → Limited s
      → R.statement p s ≡ Some x → Counts p s x
  pub counted : (p : NestingPlace) (c : Counted) (counters : List ℕ) (s : State) (x : tree.Statement × State) → Stands p counters s → Limited s
      → Begins c (first s.symbols) → R.counted p c s ≡ Some x → Inside p s x
  pub branch : (p : NestingPlace) (counters : List ℕ) (s : State) (x : tree.Statement × State) → Stands p counters s → Limited s
      → R.branch p s ≡ Some x → Inside p s x
  pub repetition : (p : NestingPlace) (counters : List ℕ) (s : State) (x : tree.Statement × State) → Stands p counters s → Limited s
      → R.repetition p s ≡ Some x → Inside p s x
  pub body : (p : NestingPlace) (counters : List ℕ) (s : State) (x : tree.Block × State) → Stands p counters s → Limited s
      → R.body p s ≡ Some x → CountsBlock p s x
  pub block : (p : NestingPlace) (counters : List ℕ) (s : State) (x : tree.Block × State) → Stands p counters s → Limited s
      → R.block p s ≡ Some x → CountsBlock p s x
  pub more : (p : NestingPlace) (before : tree.Block) (counters : List ℕ) (s : State) (x : tree.Block × State) → Stands p counters s → Limited s
      → R.more p before s ≡ Some x → CountsMore p before s x

alone_turns : (t : ℕ) (x : Enclosable) → StatementTurns t (alone x)
alone_turns t (load l) = tt
alone_turns t (assignment a) = tt

alone_scopes : (k : ℕ) (x : Enclosable) → StatementScopes k (alone x)
alone_scopes k (load l) = tt
alone_scopes k (assignment a) = tt

raced_turns : (t : ℕ) (x : Enclosable) → StatementTurns t (raced x)
raced_turns t (load l) = tt
raced_turns t (assignment a) = tt

raced_scopes : (k : ℕ) (x : Enclosable) → StatementScopes k (raced x)
raced_scopes k (load l) = tt
raced_scopes k (assignment a) = tt

-- ---- scopes behind a statement

record Behind (p q : NestingPlace) (x : Option tree.Statement) : Type 0 where
  turns : q.turns ≡ p.turns
  scopes : q.scopes ≡ scopes_behind p.scopes x

scoped_behind : (p q : NestingPlace) (scoped : Bool) (n : ℕ) → n ≡ cond scoped 1 0 → cond scoped (asserting p) (Some p) ≡ Some q
    → (q.turns ≡ p.turns) × (q.scopes ≡ p.scopes + n)
scoped_behind p q true n is e =
    unless_it (p.scopes == 8) (Some (record p { scopes = p.scopes + 1 })) (λ (r : NestingPlace). (r.turns ≡ p.turns) × (r.scopes ≡ p.scopes + n)) q e (λ no e.
    at_last (record p { scopes = p.scopes + 1 }) (λ (r : NestingPlace). (r.turns ≡ p.turns) × (r.scopes ≡ p.scopes + n)) q e (refl, omega (arith, is)))
scoped_behind p q false n is e =
    at_last p (λ (r : NestingPlace). (r.turns ≡ p.turns) × (r.scopes ≡ p.scopes + n)) q e (refl, omega (arith, is))

call_behind : (p q : NestingPlace) (c : Call) → behind p (Some (tree.call c)) ≡ Some q → (q.turns ≡ p.turns) × (q.scopes ≡ p.scopes + call_scopes c)
call_behind p q (calls.Barrier b) e = scoped_behind p q false 0 refl e
call_behind p q (calls.Lock x) e = scoped_behind p q false 0 refl e
call_behind p q (calls.Unlock x) e = scoped_behind p q false 0 refl e
call_behind p q (calls.AssertWriter x scoped) e = scoped_behind p q scoped (cond scoped 1 0) refl e
call_behind p q (calls.AssertAccess x scoped) e = scoped_behind p q scoped (cond scoped 1 0) refl e
call_behind p q (calls.AssertBits x mask) e = scoped_behind p q false 0 refl e
call_behind p q (calls.Mark m) e = scoped_behind p q false 0 refl e
call_behind p q (calls.Check write x size) e = scoped_behind p q false 0 refl e

behind_so : (p q : NestingPlace) (x : Option tree.Statement) → behind p x ≡ Some q → (q.turns ≡ p.turns) × (q.scopes ≡ scopes_behind p.scopes x)
behind_so p q None e = at_last p (λ (r : NestingPlace). (r.turns ≡ p.turns) × (r.scopes ≡ p.scopes)) q e (refl, refl)
behind_so p q (Some (tree.load_only l)) e = scoped_behind p q false 0 refl e
behind_so p q (Some (tree.assign race a)) e = scoped_behind p q false 0 refl e
behind_so p q (Some (tree.call c)) e = call_behind p q c e
behind_so p q (Some (tree.if_block condition body)) e = scoped_behind p q false 0 refl e
behind_so p q (Some (tree.if_else condition body otherwise)) e = scoped_behind p q false 0 refl e
behind_so p q (Some (tree.for_turns register turns body)) e = scoped_behind p q false 0 refl e

-- ---- a statement before others

kept_turns : (t : ℕ) (x : Option tree.Statement) (b : tree.Block) → Turns t x → BlockTurns t b → BlockTurns t (kept x b)
kept_turns t None b one two = two
kept_turns t (Some s) b one two = (one, two)

kept_scopes : (k : ℕ) (x : Option tree.Statement) (b : tree.Block) → Scopes k x → BlockScopes (scopes_behind k x) b → BlockScopes k (kept x b)
kept_scopes k None b one two = two
kept_scopes k (Some s) b one two = (one, two)

-- what is counted of a block stays so where its place has the same turns and scopes
same_place : (p q : NestingPlace) (s : State) (x : tree.Block × State) → q.turns ≡ p.turns → q.scopes ≡ p.scopes → CountsBlock q s x → CountsBlock p s x
same_place p q s x turns scopes c = record {
  statements = c.statements;
  repeats = subst (λ (t : ℕ). x.1.repeats ≡ s.repeats + block_repeats t x.0) turns c.repeats;
  limited = c.limited;
  turns = subst (λ (t : ℕ). BlockTurns t x.0) turns c.turns;
  scopes = subst (λ (k : ℕ). BlockScopes k x.0) scopes c.scopes;
}

module _ (R : Readers) (h : Sound R) (n : Counting R) where
  statement_counting : (p : NestingPlace) (counters : List ℕ) (s : State) (o : Opening) (x : Option tree.Statement × State) → Stands p counters s → Limited s
      → opening_at s ≡ Some o → statement_with R p s o ≡ Some x → Counts p s x
  statement_counting p counters s openings.Empty x stands limited opens e =
      at_last (None, after s) (Counts p s) x e (record {
        statements = omega arith;
        repeats = omega arith;
        limited = record { few = limited.few; low = limited.low };
        turns = tt;
        scopes = tt;
      })
  statement_counting p counters s openings.Declaration x stands limited opens e = declaration_counts p counters s x stands limited e
  statement_counting p counters s (openings.Counted c) x stands limited opens e =
      behind_it (count_statement s) (λ u. R.counted p c u >>= λ z. Some (Some z.0, z.1)) (Counts p s) x e (λ u counted e.
      behind_it (R.counted p c u) (λ z. Some (Some z.0, z.1)) (Counts p s) x e (λ z is e.
      at_last (Some z.0, z.1) (Counts p s) x e
      (let one = one_more s u limited.few counted in
      let same = counted_spot s u counted in
      let begins = subst (λ (l : List Symbol). Begins c (first l)) (sym same.symbols) (opens_counted s c opens) in
      let low : Low u = subst (λ (m : ℕ). m ≤ 1024) (sym one.repeats) limited.low in
      let i = n.counted p c counters u z (stands_with p counters s u stands (few same.names stands.registers)) (record { few = one.few; low = low }) begins is in
      record {
        statements = omega (arith, i.statements, one.statements);
        repeats = omega (arith, i.repeats, one.repeats);
        limited = i.limited;
        turns = i.turns;
        scopes = i.scopes;
      })))

  counted_counting : (p : NestingPlace) (c : Counted) (counters : List ℕ) (s : State) (x : tree.Statement × State) → Stands p counters s → Limited s
      → Begins c (first s.symbols) → (by R).counted p c s ≡ Some x → Inside p s x
  unfolding data_race_at
  counted_counting p counteds.If counters s x stands limited begins e = n.branch p counters s x stands limited e
  counted_counting p counteds.For counters s x stands limited begins e = n.repetition p counters s x stands limited e
  counted_counting p counteds.DataRace counters s x stands limited begins e =
      behind_it (take_sign OpenParen (others s.symbols)) (λ l. simple_at p (with_left s l) >>= λ z. take_sign CloseParen z.1.symbols >>= λ m.
      take_sign Semicolon m >>= λ k. Some (raced z.0, with_left z.1 k)) (Inside p s) x e (λ l opens e.
      behind_it (simple_at p (with_left s l)) (λ z. take_sign CloseParen z.1.symbols >>= λ m. take_sign Semicolon m
      >>= λ k. Some (raced z.0, with_left z.1 k)) (Inside p s) x e (λ z is e.
      behind_it (take_sign CloseParen z.1.symbols) (λ m. take_sign Semicolon m >>= λ k. Some (raced z.0, with_left z.1 k)) (Inside p s) x e (λ m closes e.
      behind_it (take_sign Semicolon m) (λ k. Some (raced z.0, with_left z.1 k)) (Inside p s) x e (λ k ends e.
      at_last (raced z.0, with_left z.1 k) (Inside p s) x e
      (let r = simple_reads p counters (with_left s l) z stands.are stands.depth stands.registers is in
      record {
        statements = omega (arith, r.statements, raced_count z.0);
        repeats = omega (arith, r.repeats, raced_spent p.turns z.0);
        limited = record {
          few = subst (λ (i : ℕ). i ≤ 256) (sym r.statements) limited.few;
          low = simple_low p counters (with_left s l) z r limited.low is;
        };
        turns = raced_turns p.turns z.0;
        scopes = raced_scopes p.scopes z.0;
      })))))
  counted_counting p (counteds.Call w) counters s x stands limited begins e =
      behind_it (call_at p.turns p.scopes w s) (λ z. take_sign Semicolon z.1.symbols >>= λ l. Some (tree.call z.0, with_left z.1 l)) (Inside p s) x e (λ z is e.
      behind_it (take_sign Semicolon z.1.symbols) (λ l. Some (tree.call z.0, with_left z.1 l)) (Inside p s) x e (λ l ends e.
      at_last (tree.call z.0, with_left z.1 l) (Inside p s) x e
      (let r = call_reads p.turns p.scopes w s z stands.scopes begins is in
      record {
        statements = omega (arith, r.statements);
        repeats = r.repeats;
        limited = record {
          few = subst (λ (i : ℕ). i ≤ 256) (sym r.statements) limited.few;
          low = call_low p.turns p.scopes w s z limited.low is;
        };
        turns = tt;
        scopes = r.scopes_left;
      })))
  counted_counting p counteds.Simple counters s x stands limited begins e =
      behind_it (simple_at p s) (λ z. take_sign Semicolon z.1.symbols >>= λ l. Some (alone z.0, with_left z.1 l)) (Inside p s) x e (λ z is e.
      behind_it (take_sign Semicolon z.1.symbols) (λ l. Some (alone z.0, with_left z.1 l)) (Inside p s) x e (λ l ends e.
      at_last (alone z.0, with_left z.1 l) (Inside p s) x e
      (let r = simple_reads p counters s z stands.are stands.depth stands.registers is in
      record {
        statements = omega (arith, r.statements, alone_count z.0);
        repeats = omega (arith, r.repeats, alone_spent p.turns z.0);
        limited = record {
          few = subst (λ (i : ℕ). i ≤ 256) (sym r.statements) limited.few;
          low = simple_low p counters s z r limited.low is;
        };
        turns = alone_turns p.turns z.0;
        scopes = alone_scopes p.scopes z.0;
      })))

  branch_counting : (p : NestingPlace) (counters : List ℕ) (s : State) (x : tree.Statement × State) → Stands p counters s → Limited s
      → (by R).branch p s ≡ Some x → Inside p s x
  branch_counting p counters s x stands limited e =
      behind_it (take_sign OpenParen (others s.symbols)) (λ l. expression_at p.turns p.depth (with_left s l) >>= λ c. take_sign CloseParen c.1.symbols
      >>= λ m. R.body p (with_left c.1 m) >>= λ b. behind_body R p c.0 b.0 b.1) (Inside p s) x e (λ l opens e.
      behind_it (expression_at p.turns p.depth (with_left s l)) (λ c. take_sign CloseParen c.1.symbols >>= λ m. R.body p (with_left c.1 m)
      >>= λ b. behind_body R p c.0 b.0 b.1) (Inside p s) x e (λ c condition e.
      behind_it (take_sign CloseParen c.1.symbols) (λ m. R.body p (with_left c.1 m) >>= λ b. behind_body R p c.0 b.0 b.1) (Inside p s) x e (λ m closes e.
      behind_it (R.body p (with_left c.1 m)) (λ b. behind_body R p c.0 b.0 b.1) (Inside p s) x e (λ b inside e.
      let q = (expression_reads p.turns p.depth (with_left s l) c stands.depth stands.registers condition).reads in
      let low = expression_low p.turns p.depth (with_left s l) c limited.low condition in
      let f : c.1.statements ≤ 256 = subst (λ (i : ℕ). i ≤ 256) (sym q.statements) limited.few in
      let there = stands_with p counters s (with_left c.1 m) stands q.within in
      let one = n.body p counters (with_left c.1 m) b there (record { few = f; low = low }) inside in
      let r = h.body p counters (with_left c.1 m) b there inside in
      either_way (is_else (first b.1.symbols)) (R.body p (after b.1) >>= λ z. Some (tree.if_else c.0 b.0 z.0, z.1)) (Some (tree.if_block c.0 b.0, b.1))
      (Inside p s) x e
      (λ is e.
      behind_it (R.body p (after b.1)) (λ z. Some (tree.if_else c.0 b.0 z.0, z.1)) (Inside p s) x e (λ z otherwise e.
      at_last (tree.if_else c.0 b.0 z.0, z.1) (Inside p s) x e
      (let two = n.body p counters (after b.1) z (stands_with p counters s (after b.1) stands r.within)
      (record { few = one.limited.few; low = one.limited.low }) otherwise in
      record {
        statements = omega (arith, two.statements, one.statements, q.statements);
        repeats = omega (arith, two.repeats, one.repeats, q.repeats, choice_spent p.turns c.0 b.0 z.0);
        limited = two.limited;
        turns = (one.turns, two.turns);
        scopes = (one.scopes, two.scopes);
      })))
      (λ none e.
      at_last (tree.if_block c.0 b.0, b.1) (Inside p s) x e (record {
        statements = omega (arith, one.statements, q.statements);
        repeats = omega (arith, one.repeats, q.repeats, branch_spent p.turns c.0 b.0);
        limited = one.limited;
        turns = one.turns;
        scopes = one.scopes;
      }))))))

  repetition_counting : (p : NestingPlace) (counters : List ℕ) (s : State) (x : tree.Statement × State) → Stands p counters s → Limited s
      → (by R).repetition p s ≡ Some x → Inside p s x
  repetition_counting p counters s x stands limited e =
      behind_it (header_at p (after s)) (λ m. R.body (in_loop p m.0.register m.0.repeats) m.1
      >>= λ b. Some (tree.for_turns m.0.register m.0.turns b.0, b.1)) (Inside p s) x e (λ m header e.
      behind_it (R.body (in_loop p m.0.register m.0.repeats) m.1) (λ b. Some (tree.for_turns m.0.register m.0.turns b.0, b.1)) (Inside p s) x e (λ b inside e.
      at_last (tree.for_turns m.0.register m.0.turns b.0, b.1) (Inside p s) x e
      (let k = header_reads p counters (after s) m stands.are stands.registers header in
      let c = header_counts p (after s) m header in
      let below : m.0.register < length p.counters = omega (arith, k.below, stands.are.sized) in
      let limits : Limited m.1 = limited_same (after s) m.1 c.same (record { few = limited.few; low = limited.low }) in
      let one = n.body (in_loop p m.0.register m.0.repeats) (m.0.register ∷ counters) m.1 b (record {
        are = counters_more p.counters counters m.0.register below stands.are;
        depth = stands.depth;
        scopes = stands.scopes;
        registers = k.within;
      }) limits inside in
      let spent_inside : b.1.repeats ≡ m.1.repeats + block_repeats (p.turns * m.0.turns) b.0 =
      subst (λ (t : ℕ). b.1.repeats ≡ m.1.repeats + block_repeats t b.0) c.repeats one.repeats in
      record {
        statements = omega (arith, one.statements, c.same.statements);
        repeats = omega (arith, spent_inside, c.same.repeats);
        limited = one.limited;
        turns = (c.few, (c.inside, subst (λ (t : ℕ). BlockTurns t b.0) c.repeats one.turns));
        scopes = one.scopes;
      })))

  body_counting : (p : NestingPlace) (counters : List ℕ) (s : State) (x : tree.Block × State) → Stands p counters s → Limited s
      → (by R).body p s ≡ Some x → CountsBlock p s x
  body_counting p counters s x stands limited e =
      either_way (is_sign OpenBrace (first s.symbols)) (R.block p s)
      (opening_at s >>= λ o. deeper p >>= λ q. R.statement q s >>= λ z. Some (kept z.0 tree.empty, z.1)) (CountsBlock p s) x e
      (λ brace e. n.block p counters s x stands limited e)
      (λ none e.
      behind_it (opening_at s) (λ o. deeper p >>= λ q. R.statement q s >>= λ z. Some (kept z.0 tree.empty, z.1)) (CountsBlock p s) x e (λ o opens e.
      behind_it (deeper p) (λ q. R.statement q s >>= λ z. Some (kept z.0 tree.empty, z.1)) (CountsBlock p s) x e (λ q inside e.
      behind_it (R.statement q s) (λ z. Some (kept z.0 tree.empty, z.1)) (CountsBlock p s) x e (λ z is e.
      at_last (kept z.0 tree.empty, z.1) (CountsBlock p s) x e
      (let d = deeper_is p q stands.depth inside in
      let one = n.statement q counters s z (stands_deeper p q counters s stands d) limited is in
      same_place p q s (kept z.0 tree.empty, z.1) d.turns d.scopes (record {
        statements = omega (arith, one.statements, kept_count z.0 tree.empty);
        repeats = omega (arith, one.repeats, kept_spent q.turns z.0 tree.empty);
        limited = one.limited;
        turns = kept_turns q.turns z.0 tree.empty one.turns tt;
        scopes = kept_scopes q.scopes z.0 tree.empty one.scopes tt;
      }))))))

  block_counting : (p : NestingPlace) (counters : List ℕ) (s : State) (x : tree.Block × State) → Stands p counters s → Limited s
      → (by R).block p s ≡ Some x → CountsBlock p s x
  block_counting p counters s x stands limited e =
      either_way (is_sign OpenBrace (first s.symbols)) (deeper p >>= λ q. R.more q tree.empty (after s)) None (CountsBlock p s) x e
      (λ brace e.
      behind_it (deeper p) (λ q. R.more q tree.empty (after s)) (CountsBlock p s) x e (λ q inside e.
      let d = deeper_is p q stands.depth inside in
      let m = n.more q tree.empty counters (after s) x (stands_deeper p q counters (after s) (stands_with p counters s
      (after s) stands stands.registers) d) (record { few = limited.few; low = limited.low }) e in
      let there = same_place p q s (m.block, x.1) d.turns d.scopes (record {
        statements = m.counts.statements;
        repeats = m.counts.repeats;
        limited = m.counts.limited;
        turns = m.counts.turns;
        scopes = m.counts.scopes;
      }) in
      subst (λ (b : tree.Block). CountsBlock p s (b, x.1)) (sym m.made) there))
      (λ none e. absurd cc)

  more_counting : (p : NestingPlace) (before : tree.Block) (counters : List ℕ) (s : State) (x : tree.Block × State) → Stands p counters s → Limited s
      → (by R).more p before s ≡ Some x → CountsMore p before s x
  more_counting p before counters s x stands limited e =
      either_way (is_sign CloseBrace (first s.symbols)) (Some (before, after s))
      (R.statement p s >>= λ z. behind p z.0 >>= λ q. R.more q (added before z.0) z.1) (CountsMore p before s) x e
      (λ brace e. at_last (before, after s) (CountsMore p before s) x e (record {
        block = tree.empty;
        made = sym (joined_nothing before);
        counts = record {
          statements = omega arith;
          repeats = omega arith;
          limited = record { few = limited.few; low = limited.low };
          turns = tt;
          scopes = tt;
        };
      }))
      (λ none e.
      behind_it (R.statement p s) (λ z. behind p z.0 >>= λ q. R.more q (added before z.0) z.1) (CountsMore p before s) x e (λ z is e.
      behind_it (behind p z.0) (λ q. R.more q (added before z.0) z.1) (CountsMore p before s) x e (λ q later e.
      let one = n.statement p counters s z stands limited is in
      let r = h.statement p counters s z stands is in
      let place = behind_is p q z.0 stands.scopes later in
      let so = behind_so p q z.0 later in
      let two = n.more q (added before z.0) counters z.1 x (record {
        are = subst (λ (f : List Bool). AreCounters f counters) (sym place.counters) stands.are;
        depth = omega (arith, place.depth, stands.depth);
        scopes = place.scopes;
        registers = r.within;
      }) one.limited e in
      let spent_behind : x.1.repeats ≡ z.1.repeats + block_repeats p.turns two.block =
      subst (λ (t : ℕ). x.1.repeats ≡ z.1.repeats + block_repeats t two.block) so.0 two.counts.repeats in
      record {
        block = kept z.0 two.block;
        made = two.made ∙ later_block before two.block z.0;
        counts = record {
          statements = omega (arith, one.statements, two.counts.statements, kept_count z.0 two.block);
          repeats = omega (arith, one.repeats, spent_behind, kept_spent p.turns z.0 two.block);
          limited = two.counts.limited;
          turns = kept_turns p.turns z.0 two.block one.turns (subst (λ (t : ℕ). BlockTurns t two.block) so.0 two.counts.turns);
          scopes = kept_scopes p.scopes z.0 two.block one.scopes (subst (λ (k : ℕ). BlockScopes k two.block) so.1 two.counts.scopes);
        };
      })))

  statement_from : (p : NestingPlace) (counters : List ℕ) (s : State) (x : Option tree.Statement × State) → Stands p counters s → Limited s
      → (by R).statement p s ≡ Some x → Counts p s x
  statement_from p counters s x stands limited e =
      behind_it (opening_at s) (λ o. statement_with R p s o) (Counts p s) x e (λ o opens e.
      statement_counting p counters s o x stands limited opens e)

  by_counting : Counting (by R)
  by_counting = record {
    statement = statement_from;
    counted = counted_counting;
    branch = branch_counting;
    repetition = repetition_counting;
    body = body_counting;
    block = block_counting;
    more = more_counting;
  }

idle_counting : Counting idle
idle_counting = record {
  statement = λ p counters s x stands limited e. absurd cc;
  counted = λ p c counters s x stands limited begins e. absurd cc;
  branch = λ p counters s x stands limited e. absurd cc;
  repetition = λ p counters s x stands limited e. absurd cc;
  body = λ p counters s x stands limited e. absurd cc;
  block = λ p counters s x stands limited e. absurd cc;
  more = λ p before counters s x stands limited e. absurd cc;
}

deep_counting : (fuel : ℕ) → Counting (deep fuel)
unfolding deep
deep_counting zero = idle_counting
deep_counting (suc fuel) = by_counting (deep fuel) (deep_sound fuel) (deep_counting fuel)

-- the whole body of a process keeps the limits
pub whole_keeps : (parameters : List Parameter) (symbols : List Symbol) (x : tree.Block × State)
    → block_at outermost (entering parameters symbols) ≡ Some x → BodyKeepsLimits x.0
unfolding block_at
whole_keeps parameters symbols x e =
    let s : State = entering parameters symbols in
    let c = (deep_counting (10 * length symbols + 10)).block outermost [] s x (record {
      are = counters_none;
      depth = omega arith;
      scopes = omega arith;
      registers = omega arith;
    }) (record { few = omega arith; low = omega arith }) e in
    record {
      statements = omega (arith, c.statements, c.limited.few);
      turns = c.turns;
      repeats = omega (arith, c.repeats, c.limited.low);
      scopes = c.scopes;
    }
