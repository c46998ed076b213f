-- What is read of a simple statement, of a declaration or of a call takes symbols.
use Rattle.std.proofs.Common.{◌≡◌, ◌∙◌, ℕ, zero, suc, ◌+◌, ◌<◌, ◌≤◌, ◌==◌, nat_lt, List, [], ◌∷◌, Bool, true, false, cond, Option, Some, None, length}
use Rattle.std.proofs.Common.{refl, sym, ap, subst, arith, if◌then◌else◌}
use Rattle.access_types.specs.declared.history.Mark.{Mark}
use Rattle.access_types.specs.declared.history.Mark.TheVariants as marks
use Rattle.litmus_lex.specs.declared.sign.Sign.TheVariants.{OpenParen, CloseParen, Comma, Semicolon, Assign, AddAssign, Increment}
use Rattle.litmus_lex.specs.declared.sign.Sign.TheVariants as signs
use Rattle.litmus_syntax.specs.Tree as tree
use Rattle.litmus_syntax.specs.declared.expression.ReadForm.TheVariants as reads
use Rattle.litmus_syntax.specs.declared.statement.Call.{Call}
use Rattle.litmus_syntax.specs.declared.statement.Call.TheVariants as calls
use Rattle.litmus_syntax.specs.declared.statement.WriteForm.{WriteForm}
use Rattle.litmus_syntax.specs.declared.statement.WriteForm.TheVariants as writes
use Rattle.litmus_lex.specs.declared.words.CallWord.{CallWord}
use Rattle.litmus_lex.specs.declared.words.CallWord.TheVariants as asks
use Rattle.litmus_lex.specs.declared.words.StoreWord.{StoreWord}
use Rattle.litmus_lex.specs.declared.words.StoreWord.TheVariants as stores
use Rattle.litmus_lex.specs.Front.{◌>>=◌, begins_call, first, is_sign, number_of, others, take_number, take_sign}
use Rattle.litmus_lex.specs.Words.{Symbol, word, identifier, number, sign, fault}
use Rattle.litmus_expression.specs.declared.process.Takes.{Takes}
use Rattle.litmus_expression.specs.declared.process.Takes.TheVariants.{Integers, Atomics, Locks, Memory}
use Rattle.litmus_expression.specs.Expressions.{bare}
use Rattle.litmus_expression.specs.ExpressionReader.{expression_at, load_at, pure_at, take_star}
use Rattle.litmus_expression.specs.NameReader.{count_access, register_name, take_variable}
use Rattle.litmus_expression.specs.PlaceReader.{count_statement, take_changed}
use Rattle.litmus_expression.specs.Places.{NestingPlace, repeats_of}
use Rattle.litmus_expression.specs.States.{State, after, with_left}
use Rattle.litmus_expression.proofs.Fewer.{TakesAny, TakesSome, at_last, behind_it, changed_fewer, either_way, expression_fewer, load_fewer}
use Rattle.litmus_expression.proofs.Fewer.{pure_fewer, star_fewer, unless_it}
use Rattle.litmus_expression.proofs.Shorter.{Less, access_same, variable_fewer}
use Rattle.litmus_expression.proofs.Taken.{same_given, sign_fewer}
use Rattle.litmus_body.specs.declared.statement.LoopHeader.{LoopHeader}
use Rattle.litmus_body.specs.CallReader.{arguments, call_at, check, count_assertion, count_call, count_check, marked, sized, target}
use Rattle.litmus_body.specs.SimpleReader.{Start, star, parenthesis, a_store, a_load, a_name, nothing, behind_variable, data_race_at, increment}
use Rattle.litmus_body.specs.SimpleReader.{register_assignment, simple_at, simple_with, start_of, starred}
use Rattle.litmus_body.specs.StatementReader.{behind_register, bound_at, counter_at, declaration_at, header_at, is_the_register, more_declared}
use Rattle.litmus_body.specs.StatementReader.{step_at, take_again, take_zero, zero_of}
use Rattle.litmus_body.specs.Statements.{Enclosable, assignment, load, raced}
use Rattle.litmus_body.specs.StoreReader.{store_at, stored, write, written}

-- ---- what stays, and what is behind the first symbol

symbols_same : (s c : State) → c.symbols ≡ s.symbols → length c.symbols ≡ length s.symbols
symbols_same s c e = ap (λ (l : List Symbol). length l) e

pub others_at_most : (symbols : List Symbol) → length (others symbols) ≤ length symbols
others_at_most [] = omega arith
others_at_most (s ∷ rest) = omega arith

number_fewer_of : (y : Symbol) (rest : List Symbol) (x : ℕ × List Symbol) → number_of y rest ≡ Some x → x.1 ≡ rest
number_fewer_of (word w) rest x e = absurd cc
number_fewer_of (identifier name) rest x e = absurd cc
number_fewer_of (number n) rest x e = sym (ap (λ (z : ℕ × List Symbol). z.1) (same_given (n, rest) x e))
number_fewer_of (sign t) rest x e = absurd cc
number_fewer_of fault rest x e = absurd cc

pub number_at_most : (symbols : List Symbol) (x : ℕ × List Symbol) → take_number symbols ≡ Some x → length x.1 ≤ length symbols
unfolding take_number
number_at_most symbols x e =
    subst (λ (l : List Symbol). length l ≤ length symbols) (sym (number_fewer_of (first symbols) (others symbols) x e)) (others_at_most symbols)

-- ---- calls that change a variable

written_at_most : (t d : ℕ) (takes : Takes) (form : WriteForm) (s : State) (x : tree.Assignment × State)
    → written t d takes form s ≡ Some x → TakesAny s x
unfolding written
written_at_most t d takes form s x e =
    behind_it (take_variable takes s) (λ v. take_sign Comma v.1.symbols >>= λ l. pure_at t d (with_left v.1 l)
    >>= λ z. Some (tree.write form v.0 z.0, z.1)) (TakesAny s) x e (λ v named e.
    behind_it (take_sign Comma v.1.symbols) (λ l. pure_at t d (with_left v.1 l) >>= λ z. Some (tree.write form v.0 z.0, z.1)) (TakesAny s) x e (λ l comma e.
    behind_it (pure_at t d (with_left v.1 l)) (λ z. Some (tree.write form v.0 z.0, z.1)) (TakesAny s) x e (λ z value e.
    at_last _ (TakesAny s) x e
    (let one : TakesSome s v = variable_fewer takes s v named in
    let two = sign_fewer Comma v.1.symbols l comma in
    let three : TakesSome (with_left v.1 l) z = pure_fewer t d (with_left v.1 l) z value in
    omega arith))))

write_at_most : (t d : ℕ) (form : WriteForm) (s : State) (x : tree.Assignment × State) → write t d form s ≡ Some x → TakesAny s x
unfolding write
write_at_most t d writes.Plain s x e = absurd cc
write_at_most t d writes.Once s x e =
    behind_it (take_star s) (λ u. written t d Integers writes.Once u) (TakesAny s) x e (λ u stars e.
    let one : Less u s = star_fewer s u stars in
    let two : TakesAny u x = written_at_most t d Integers writes.Once u x e in
    omega arith)
write_at_most t d writes.Release s x e = written_at_most t d Integers writes.Release s x e
write_at_most t d writes.Atomic s x e = written_at_most t d Atomics writes.Atomic s x e

stored_at_most : (t d : ℕ) (w : StoreWord) (s : State) (x : tree.Assignment × State) → stored t d w s ≡ Some x → TakesAny s x
unfolding stored
stored_at_most t d (stores.Write form) s x e = write_at_most t d form s x e
stored_at_most t d stores.Add s x e =
    behind_it (pure_at t d s) (λ z. take_sign Comma z.1.symbols >>= λ l. take_variable Atomics (with_left z.1 l)
    >>= λ v. Some (tree.atomic_add z.0 v.0, v.1)) (TakesAny s) x e (λ z value e.
    behind_it (take_sign Comma z.1.symbols) (λ l. take_variable Atomics (with_left z.1 l) >>= λ v. Some (tree.atomic_add z.0 v.0, v.1)) (TakesAny s) x e
    (λ l comma e.
    behind_it (take_variable Atomics (with_left z.1 l)) (λ v. Some (tree.atomic_add z.0 v.0, v.1)) (TakesAny s) x e (λ v named e.
    at_last _ (TakesAny s) x e
    (let one : TakesSome s z = pure_fewer t d s z value in
    let two = sign_fewer Comma z.1.symbols l comma in
    let three : TakesSome (with_left z.1 l) v = variable_fewer Atomics (with_left z.1 l) v named in
    omega arith))))
stored_at_most t d stores.Increment s x e =
    behind_it (take_variable Atomics s) (λ v. Some (tree.atomic_increment v.0, v.1)) (TakesAny s) x e (λ v named e.
    at_last _ (TakesAny s) x e
    (let one : TakesSome s v = variable_fewer Atomics s v named in omega arith))
stored_at_most t d stores.Decrement s x e =
    behind_it (take_variable Atomics s) (λ v. Some (tree.atomic_decrement v.0, v.1)) (TakesAny s) x e (λ v named e.
    at_last _ (TakesAny s) x e
    (let one : TakesSome s v = variable_fewer Atomics s v named in omega arith))

pub store_fewer : (t d : ℕ) (w : StoreWord) (s : State) (x : tree.Assignment × State) → store_at t d w s ≡ Some x → TakesSome s x
unfolding store_at
store_fewer t d w s x e =
    behind_it (count_access t s) (λ c. take_sign OpenParen (others c.symbols) >>= λ l. stored t d w (with_left c l) >>= λ z.
    take_sign CloseParen z.1.symbols >>= λ m. Some (z.0, with_left z.1 m)) (TakesSome s) x e (λ c counted e.
    behind_it (take_sign OpenParen (others c.symbols)) (λ l. stored t d w (with_left c l) >>= λ z. take_sign CloseParen z.1.symbols
    >>= λ m. Some (z.0, with_left z.1 m)) (TakesSome s) x e (λ l opens e.
    behind_it (stored t d w (with_left c l)) (λ z. take_sign CloseParen z.1.symbols >>= λ m. Some (z.0, with_left z.1 m)) (TakesSome s) x e (λ z inside e.
    behind_it (take_sign CloseParen z.1.symbols) (λ m. Some (z.0, with_left z.1 m)) (TakesSome s) x e (λ m closes e.
    at_last _ (TakesSome s) x e
    (let same = symbols_same s c (access_same t s c counted) in
    let zero = others_at_most c.symbols in
    let one = sign_fewer OpenParen (others c.symbols) l opens in
    let two : TakesAny (with_left c l) z = stored_at_most t d w (with_left c l) z inside in
    let three = sign_fewer CloseParen z.1.symbols m closes in
    omega arith)))))

-- ---- simple statements

assignment_fewer : (p : NestingPlace) (s : State) (x : tree.Assignment × State) → register_assignment p s ≡ Some x → TakesSome s x
unfolding register_assignment
assignment_fewer p s x e =
    unless_it (begins_call s.symbols) (take_changed p.counters s >>= λ r. take_sign Assign r.1.symbols >>= λ l. expression_at p.turns p.depth
    (with_left r.1 l) >>= λ z. Some (tree.to_register r.0 z.0, z.1))
    (TakesSome s) x e (λ no e.
    behind_it (take_changed p.counters s) (λ r. take_sign Assign r.1.symbols >>= λ l. expression_at p.turns p.depth (with_left r.1 l)
    >>= λ z. Some (tree.to_register r.0 z.0, z.1)) (TakesSome s) x e (λ r changed e.
    behind_it (take_sign Assign r.1.symbols) (λ l. expression_at p.turns p.depth (with_left r.1 l)
    >>= λ z. Some (tree.to_register r.0 z.0, z.1)) (TakesSome s) x e (λ l assigns e.
    behind_it (expression_at p.turns p.depth (with_left r.1 l)) (λ z. Some (tree.to_register r.0 z.0, z.1)) (TakesSome s) x e (λ z value e.
    at_last _ (TakesSome s) x e
    (let one : TakesSome s r = changed_fewer p.counters s r changed in
    let two = sign_fewer Assign r.1.symbols l assigns in
    let three : TakesSome (with_left r.1 l) z = expression_fewer p.turns p.depth (with_left r.1 l) z value in
    omega arith)))))

behind_at_most : (p : NestingPlace) (variable : ℕ) (s : State) (x : Enclosable × State) → behind_variable p variable s ≡ Some x → TakesAny s x
behind_at_most p variable s x e =
    either_way (is_sign Assign (first s.symbols)) (pure_at p.turns p.depth (after s) >>= λ z. Some (assignment (tree.write writes.Plain variable z.0), z.1))
    (cond (is_sign AddAssign (first s.symbols)) (pure_at p.turns p.depth (after s) >>= λ z. Some (assignment (tree.add variable z.0), z.1)) (Some (
      load
          (bare (tree.read reads.Plain variable)),
      s,
    )))
    (TakesAny s) x e
    (λ assigns e.
    behind_it (pure_at p.turns p.depth (after s)) (λ z. Some (assignment (tree.write writes.Plain variable z.0), z.1)) (TakesAny s) x e (λ z value e.
    at_last _ (TakesAny s) x e
    (let le = others_at_most s.symbols in
    let lt : TakesSome (after s) z = pure_fewer p.turns p.depth (after s) z value in
    omega arith)))
    (λ none e. either_way (is_sign AddAssign (first s.symbols)) (pure_at p.turns p.depth (after s) >>= λ z. Some (assignment (tree.add variable z.0), z.1))
    (Some (load (bare (tree.read reads.Plain variable)), s)) (TakesAny s) x e
    (λ adds e.
    behind_it (pure_at p.turns p.depth (after s)) (λ z. Some (assignment (tree.add variable z.0), z.1)) (TakesAny s) x e (λ z value e.
    at_last _ (TakesAny s) x e
    (let le = others_at_most s.symbols in
    let lt : TakesSome (after s) z = pure_fewer p.turns p.depth (after s) z value in
    omega arith)))
    (λ no_more e. at_last _ (TakesAny s) x e (omega arith)))

starred_fewer : (p : NestingPlace) (s : State) (x : Enclosable × State) → starred p s ≡ Some x → TakesSome s x
unfolding starred
starred_fewer p s x e =
    behind_it (count_access p.turns s) (λ c. take_star c >>= λ u. take_variable Integers u >>= λ v. behind_variable p v.0 v.1) (TakesSome s) x e
    (λ c counted e.
    behind_it (take_star c) (λ u. take_variable Integers u >>= λ v. behind_variable p v.0 v.1) (TakesSome s) x e (λ u stars e.
    behind_it (take_variable Integers u) (λ v. behind_variable p v.0 v.1) (TakesSome s) x e (λ v named e.
    let same = symbols_same s c (access_same p.turns s c counted) in
    let one : Less u c = star_fewer c u stars in
    let two : TakesSome u v = variable_fewer Integers u v named in
    let three : TakesAny v.1 x = behind_at_most p v.0 v.1 x e in
    omega arith)))

increment_fewer : (p : NestingPlace) (s : State) (x : Enclosable × State) → increment p s ≡ Some x → TakesSome s x
unfolding increment
increment_fewer p s x e =
    behind_it (count_access p.turns s) (λ c. take_sign OpenParen c.symbols >>= λ l. take_star (with_left c l) >>= λ u. take_variable Integers u
    >>= λ v. take_sign CloseParen v.1.symbols >>= λ m. take_sign Increment m
    >>= λ n. Some (assignment (tree.increment v.0), with_left v.1 n)) (TakesSome s) x e (λ c counted e.
    behind_it (take_sign OpenParen c.symbols) (λ l. take_star (with_left c l) >>= λ u. take_variable Integers u >>= λ v.
    take_sign CloseParen v.1.symbols >>= λ m. take_sign Increment m >>= λ n. Some (assignment (tree.increment v.0), with_left v.1 n)) (TakesSome s) x e
    (λ l opens e.
    behind_it (take_star (with_left c l)) (λ u. take_variable Integers u >>= λ v. take_sign CloseParen v.1.symbols >>= λ m. take_sign Increment m
    >>= λ n. Some (assignment (tree.increment v.0), with_left v.1 n)) (TakesSome s) x e (λ u stars e.
    behind_it (take_variable Integers u) (λ v. take_sign CloseParen v.1.symbols >>= λ m. take_sign Increment m
    >>= λ n. Some (assignment (tree.increment v.0), with_left v.1 n)) (TakesSome s) x e (λ v named e.
    behind_it (take_sign CloseParen v.1.symbols) (λ m. take_sign Increment m
    >>= λ n. Some (assignment (tree.increment v.0), with_left v.1 n)) (TakesSome s) x e (λ m closes e.
    behind_it (take_sign Increment m) (λ n. Some (assignment (tree.increment v.0), with_left v.1 n)) (TakesSome s) x e (λ n increments e.
    at_last _ (TakesSome s) x e
    (let same = symbols_same s c (access_same p.turns s c counted) in
    let one = sign_fewer OpenParen c.symbols l opens in
    let two : Less u (with_left c l) = star_fewer (with_left c l) u stars in
    let three : TakesSome u v = variable_fewer Integers u v named in
    let four = sign_fewer CloseParen v.1.symbols m closes in
    let five = sign_fewer Increment m n increments in
    omega arith)))))))

simple_with_fewer : (p : NestingPlace) (s : State) (b : Start) (x : Enclosable × State) → simple_with p s b ≡ Some x → TakesSome s x
simple_with_fewer p s star x e = starred_fewer p s x e
simple_with_fewer p s parenthesis x e = increment_fewer p s x e
simple_with_fewer p s (a_store w) x e =
    behind_it (store_at p.turns p.depth w s) (λ z. Some (assignment z.0, z.1)) (TakesSome s) x e (λ z is e.
    at_last _ (TakesSome s) x e
    (store_fewer p.turns p.depth w s z is))
simple_with_fewer p s a_load x e =
    behind_it (load_at p.turns p.depth s) (λ z. Some (load z.0, z.1)) (TakesSome s) x e (λ z is e.
    at_last _ (TakesSome s) x e
    (load_fewer p.turns p.depth s z is))
simple_with_fewer p s a_name x e =
    behind_it (register_assignment p s) (λ z. Some (assignment z.0, z.1)) (TakesSome s) x e (λ z is e.
    at_last _ (TakesSome s) x e
    (assignment_fewer p s z is))
simple_with_fewer p s nothing x e = absurd cc

pub simple_fewer : (p : NestingPlace) (s : State) (x : Enclosable × State) → simple_at p s ≡ Some x → TakesSome s x
unfolding simple_at
simple_fewer p s x e = simple_with_fewer p s (start_of (first s.symbols)) x e

-- `data_race ( simple ) ;`
pub data_race_fewer : (p : NestingPlace) (s : State) (x : tree.Statement × State) → data_race_at p s ≡ Some x → TakesSome s x
unfolding data_race_at
data_race_fewer p s x e =
    behind_it (take_sign OpenParen (others s.symbols)) (λ l. simple_at p (with_left s l) >>= λ z. take_sign CloseParen z.1.symbols >>= λ m.
    take_sign Semicolon m >>= λ n. Some (raced z.0, with_left z.1 n)) (TakesSome s) x e (λ l opens e.
    behind_it (simple_at p (with_left s l)) (λ z. take_sign CloseParen z.1.symbols >>= λ m. take_sign Semicolon m
    >>= λ n. Some (raced z.0, with_left z.1 n)) (TakesSome s) x e (λ z is e.
    behind_it (take_sign CloseParen z.1.symbols) (λ m. take_sign Semicolon m >>= λ n. Some (raced z.0, with_left z.1 n)) (TakesSome s) x e (λ m closes e.
    behind_it (take_sign Semicolon m) (λ n. Some (raced z.0, with_left z.1 n)) (TakesSome s) x e (λ n ends e.
    at_last _ (TakesSome s) x e
    (let zero = others_at_most s.symbols in
    let one = sign_fewer OpenParen (others s.symbols) l opens in
    let two : TakesSome (with_left s l) z = simple_fewer p (with_left s l) z is in
    let three = sign_fewer CloseParen z.1.symbols m closes in
    let four = sign_fewer Semicolon m n ends in
    omega arith)))))

-- ---- calls

marked_same : (m : Mark) (s : State) (x : Call × State) → marked m s ≡ Some x → TakesAny s x
marked_same marks.Disable s x e = at_last _ (TakesAny s) x e (omega arith)
marked_same marks.Enable s x e = at_last _ (TakesAny s) x e (omega arith)
marked_same marks.NestOpen s x e = at_last _ (TakesAny s) x e (omega arith)
marked_same marks.NestClose s x e = at_last _ (TakesAny s) x e (omega arith)
marked_same marks.FlatBegin s x e = at_last _ (TakesAny s) x e (omega arith)
marked_same marks.FlatEnd s x e = at_last _ (TakesAny s) x e (omega arith)
marked_same (marks.Next n) s x e = absurd cc

target_fewer : (s : State) (x : ℕ × State) → target s ≡ Some x → TakesSome s x
unfolding target
target_fewer s x e =
    behind_it (take_star s) (λ u. take_variable Memory u) (TakesSome s) x e (λ u stars e.
    let one : Less u s = star_fewer s u stars in
    let two : TakesSome u x = variable_fewer Memory u x e in
    omega arith)

checked_same : (t size : ℕ) (s c : State) → count_check t size s ≡ Some c → length c.symbols ≤ length s.symbols
checked_same t size s c e =
    either_way (nat_lt 0 size) (count_access t s) (Some s) (λ (u : State). length u.symbols ≤ length s.symbols) c e
    (λ some counts. let same = symbols_same s c (access_same t s c counts) in omega arith)
    (λ none is. at_last _ (λ (u : State). length u.symbols ≤ length s.symbols) c is (omega arith))

sized_same : (t : ℕ) (write : Bool) (variable size : ℕ) (s : State) (x : Call × State) → sized t write variable size s ≡ Some x → TakesAny s x
sized_same t write variable size s x e =
    unless_it (nat_lt 1048576 size) (count_check t size s >>= λ c. Some (calls.Check write variable size, c)) (TakesAny s) x e (λ no e.
    behind_it (count_check t size s) (λ c. Some (calls.Check write variable size, c)) (TakesAny s) x e (λ c counted e.
    at_last _ (TakesAny s) x e
    (checked_same t size s c counted)))

check_at_most : (t : ℕ) (write : Bool) (s : State) (x : Call × State) → check t write s ≡ Some x → TakesAny s x
unfolding check
check_at_most t write s x e =
    behind_it (take_variable Memory s) (λ v. take_sign Comma v.1.symbols >>= λ l. take_number l
    >>= λ n. sized t write v.0 n.0 (with_left v.1 n.1)) (TakesAny s) x e (λ v named e.
    behind_it (take_sign Comma v.1.symbols) (λ l. take_number l >>= λ n. sized t write v.0 n.0 (with_left v.1 n.1)) (TakesAny s) x e (λ l comma e.
    behind_it (take_number l) (λ n. sized t write v.0 n.0 (with_left v.1 n.1)) (TakesAny s) x e (λ n is e.
    let one : TakesSome s v = variable_fewer Memory s v named in
    let two = sign_fewer Comma v.1.symbols l comma in
    let three = number_at_most l n is in
    let four : TakesAny (with_left v.1 n.1) x = sized_same t write v.0 n.0 (with_left v.1 n.1) x e in
    omega arith)))

named_at_most : (takes : Takes) (made : ℕ → Call) (s : State) (x : Call × State) → (take_variable takes s >>= λ v. Some (made v.0, v.1)) ≡ Some x → TakesAny s x
named_at_most takes made s x e =
    behind_it (take_variable takes s) (λ v. Some (made v.0, v.1)) (TakesAny s) x e (λ v named e.
    at_last _ (TakesAny s) x e
    (let one : TakesSome s v = variable_fewer takes s v named in omega arith))

targeted_at_most : (made : ℕ → Call) (s : State) (x : Call × State) → (target s >>= λ v. Some (made v.0, v.1)) ≡ Some x → TakesAny s x
targeted_at_most made s x e =
    behind_it (target s) (λ v. Some (made v.0, v.1)) (TakesAny s) x e (λ v named e.
    at_last _ (TakesAny s) x e
    (let one : TakesSome s v = target_fewer s v named in omega arith))

arguments_at_most : (t : ℕ) (w : CallWord) (s : State) (x : Call × State) → arguments t w s ≡ Some x → TakesAny s x
unfolding arguments
arguments_at_most t (asks.Barrier b) s x e = at_last _ (TakesAny s) x e (omega arith)
arguments_at_most t asks.Lock s x e = named_at_most Locks (λ v. calls.Lock v) s x e
arguments_at_most t asks.Unlock s x e = named_at_most Locks (λ v. calls.Unlock v) s x e
arguments_at_most t (asks.AssertWriter scoped) s x e = targeted_at_most (λ v. calls.AssertWriter v scoped) s x e
arguments_at_most t (asks.AssertAccess scoped) s x e = targeted_at_most (λ v. calls.AssertAccess v scoped) s x e
arguments_at_most t asks.AssertBits s x e =
    behind_it (target s) (λ v. take_sign Comma v.1.symbols >>= λ l. take_number l
    >>= λ n. Some (calls.AssertBits v.0 n.0, with_left v.1 n.1)) (TakesAny s) x e (λ v named e.
    behind_it (take_sign Comma v.1.symbols) (λ l. take_number l >>= λ n. Some (calls.AssertBits v.0 n.0, with_left v.1 n.1)) (TakesAny s) x e (λ l comma e.
    behind_it (take_number l) (λ n. Some (calls.AssertBits v.0 n.0, with_left v.1 n.1)) (TakesAny s) x e (λ n is e.
    at_last _ (TakesAny s) x e
    (let one : TakesSome s v = target_fewer s v named in
    let two = sign_fewer Comma v.1.symbols l comma in
    let three = number_at_most l n is in
    omega arith))))
arguments_at_most t (asks.Mark m) s x e = marked_same m s x e
arguments_at_most t asks.AtomicNext s x e =
    behind_it (take_number s.symbols) (λ n. Some (calls.Mark (marks.Next n.0), with_left s n.1)) (TakesAny s) x e (λ n is e.
    at_last _ (TakesAny s) x e
    (number_at_most s.symbols n is))
arguments_at_most t (asks.Check write) s x e = check_at_most t write s x e

assertion_same : (t k : ℕ) (scoped : Bool) (s c : State) → count_assertion t k scoped s ≡ Some c → c.symbols ≡ s.symbols
assertion_same t k true s c e = unless_it (k == 8) (count_access t s) (λ (u : State). u.symbols ≡ s.symbols) c e (λ no e. access_same t s c e)
assertion_same t k false s c e = access_same t s c e

uncounted_same : (s c : State) → Some s ≡ Some c → c.symbols ≡ s.symbols
uncounted_same s c e = at_last s (λ (u : State). u.symbols ≡ s.symbols) c e refl

call_same : (t k : ℕ) (w : CallWord) (s c : State) → count_call t k w s ≡ Some c → c.symbols ≡ s.symbols
call_same t k (asks.Barrier b) s c e = uncounted_same s c e
call_same t k asks.Lock s c e = uncounted_same s c e
call_same t k asks.Unlock s c e = uncounted_same s c e
call_same t k (asks.AssertWriter scoped) s c e = assertion_same t k scoped s c e
call_same t k (asks.AssertAccess scoped) s c e = assertion_same t k scoped s c e
call_same t k asks.AssertBits s c e = access_same t s c e
call_same t k (asks.Mark m) s c e = uncounted_same s c e
call_same t k asks.AtomicNext s c e = uncounted_same s c e
call_same t k (asks.Check write) s c e = uncounted_same s c e

pub call_fewer : (t k : ℕ) (w : CallWord) (s : State) (x : Call × State) → call_at t k w s ≡ Some x → TakesSome s x
unfolding call_at
call_fewer t k w s x e =
    behind_it (count_call t k w s) (λ c. take_sign OpenParen (others c.symbols) >>= λ l. arguments t w (with_left c l) >>= λ z.
    take_sign CloseParen z.1.symbols >>= λ m. Some (z.0, with_left z.1 m)) (TakesSome s) x e (λ c counted e.
    behind_it (take_sign OpenParen (others c.symbols)) (λ l. arguments t w (with_left c l) >>= λ z. take_sign CloseParen z.1.symbols
    >>= λ m. Some (z.0, with_left z.1 m)) (TakesSome s) x e (λ l opens e.
    behind_it (arguments t w (with_left c l)) (λ z. take_sign CloseParen z.1.symbols >>= λ m. Some (z.0, with_left z.1 m)) (TakesSome s) x e (λ z inside e.
    behind_it (take_sign CloseParen z.1.symbols) (λ m. Some (z.0, with_left z.1 m)) (TakesSome s) x e (λ m closes e.
    at_last _ (TakesSome s) x e
    (let same = symbols_same s c (call_same t k w s c counted) in
    let zero = others_at_most c.symbols in
    let one = sign_fewer OpenParen (others c.symbols) l opens in
    let two : TakesAny (with_left c l) z = arguments_at_most t w (with_left c l) z inside in
    let three = sign_fewer CloseParen z.1.symbols m closes in
    omega arith)))))

-- ---- declarations

pub more_at_most : (counters : List Bool) (s : State) (symbols : List Symbol) (u : State) → more_declared counters s symbols ≡ Some u
    → length u.symbols ≤ length symbols
unfolding more_declared
more_at_most counters s [] u e = at_last _ (λ (w : State). length w.symbols ≤ 0) u e (omega arith)
more_at_most counters s (a ∷ []) u e =
    unless_it (is_sign Comma a) (Some (with_left s (a ∷ []))) (λ (w : State). length w.symbols ≤ 1) u e
    (λ no e. at_last _ (λ (w : State). length w.symbols ≤ 1) u e (omega arith))
more_at_most counters s (a ∷ b ∷ symbols) u e =
    either_way (is_sign Comma a) (take_changed counters (with_left s (b ∷ symbols)) >>= λ r. more_declared counters r.1 symbols)
    (Some (with_left s (a ∷ b ∷ symbols))) (λ (w : State). length w.symbols ≤ length (a ∷ b ∷ symbols)) u e
    (λ comma e.
    behind_it (take_changed counters (with_left s (b ∷ symbols))) (λ r. more_declared counters r.1 symbols)
    (λ (w : State). length w.symbols ≤ length (a ∷ b ∷ symbols)) u e (λ r changed e.
    let le = more_at_most counters r.1 symbols u e in omega arith))
    (λ none e. at_last _ (λ (w : State). length w.symbols ≤ length (a ∷ b ∷ symbols)) u e (omega arith))

pub counted_same : (s c : State) → count_statement s ≡ Some c → length c.symbols ≡ length s.symbols
counted_same s c e =
    unless_it (s.statements == 256) (Some (record s { statements = s.statements + 1 })) (λ (u : State). length u.symbols ≡ length s.symbols) c e
    (λ no e. at_last _ (λ (u : State). length u.symbols ≡ length s.symbols) c e refl)

behind_register_at_most : (p : NestingPlace) (register : ℕ) (s : State) (x : Option tree.Statement × State)
    → behind_register p register s ≡ Some x → TakesAny s x
behind_register_at_most p register s x e =
    either_way (is_sign Assign (first s.symbols))
    (count_statement s >>= λ c. expression_at p.turns p.depth (after c) >>= λ z. take_sign Semicolon z.1.symbols >>= λ l. Some (
      Some (tree.assign false
          (tree.to_register register z.0)),
      with_left z.1 l,
    ))
    (more_declared p.counters s s.symbols >>= λ u. take_sign Semicolon u.symbols >>= λ l. Some (None, with_left u l))
    (TakesAny s) x e
    (λ assigns e.
    behind_it (count_statement s) (λ c. expression_at p.turns p.depth (after c) >>= λ z. take_sign Semicolon z.1.symbols
    >>= λ l. Some (Some (tree.assign false (tree.to_register register z.0)), with_left z.1 l)) (TakesAny s) x e (λ c counted e.
    behind_it (expression_at p.turns p.depth (after c)) (λ z. take_sign Semicolon z.1.symbols
    >>= λ l. Some (Some (tree.assign false (tree.to_register register z.0)), with_left z.1 l)) (TakesAny s) x e (λ z value e.
    behind_it (take_sign Semicolon z.1.symbols) (λ l. Some (Some (tree.assign false (tree.to_register register z.0)), with_left z.1 l)) (TakesAny s) x e
    (λ l ends e.
    at_last _ (TakesAny s) x e
    (let same = counted_same s c counted in
    let zero = others_at_most c.symbols in
    let one : TakesSome (after c) z = expression_fewer p.turns p.depth (after c) z value in
    let two = sign_fewer Semicolon z.1.symbols l ends in
    omega arith)))))
    (λ none e.
    behind_it (more_declared p.counters s s.symbols) (λ u. take_sign Semicolon u.symbols >>= λ l. Some (None, with_left u l)) (TakesAny s) x e
    (λ u declared e.
    behind_it (take_sign Semicolon u.symbols) (λ l. Some (None, with_left u l)) (TakesAny s) x e (λ l ends e.
    at_last _ (TakesAny s) x e
    (let one = more_at_most p.counters s s.symbols u declared in
    let two = sign_fewer Semicolon u.symbols l ends in
    omega arith))))

pub declaration_fewer : (p : NestingPlace) (s : State) (x : Option tree.Statement × State) → declaration_at p s ≡ Some x → TakesSome s x
unfolding declaration_at
declaration_fewer p s x e =
    behind_it (take_changed p.counters (after s)) (λ r. behind_register p r.0 r.1) (TakesSome s) x e (λ r changed e.
    let zero = others_at_most s.symbols in
    let one : TakesSome (after s) r = changed_fewer p.counters (after s) r changed in
    let two : TakesAny r.1 x = behind_register_at_most p r.0 r.1 x e in
    omega arith)

-- ---- what the parentheses of a loop say

again_at_most : (register : ℕ) (s u : State) → take_again register s ≡ Some u → length u.symbols ≤ length s.symbols
unfolding take_again
again_at_most register s u e =
    either_way (is_the_register s.names register (register_name s)) (Some (after s)) None (λ (w : State). length w.symbols ≤ length s.symbols) u e
    (λ yes e. at_last _ (λ (w : State). length w.symbols ≤ length s.symbols) u e (others_at_most s.symbols)) (λ no e. absurd cc)

zero_of_same : (y : Symbol) (rest given : List Symbol) → zero_of y rest ≡ Some given → given ≡ rest
zero_of_same (word w) rest given e = absurd cc
zero_of_same (identifier name) rest given e = absurd cc
zero_of_same (number n) rest given e =
    either_way (n == 0) (Some rest) None (λ (l : List Symbol). l ≡ rest) given e
    (λ yes e. at_last _ (λ (l : List Symbol). l ≡ rest) given e refl) (λ no e. absurd cc)
zero_of_same (sign t) rest given e = absurd cc
zero_of_same fault rest given e = absurd cc

zero_at_most : (symbols rest : List Symbol) → take_zero symbols ≡ Some rest → length rest ≤ length symbols
zero_at_most symbols rest e =
    subst (λ (l : List Symbol). length l ≤ length symbols) (sym (zero_of_same (first symbols) (others symbols) rest e)) (others_at_most symbols)

counter_fewer : (counters : List Bool) (s : State) (x : ℕ × State) → counter_at counters s ≡ Some x → TakesSome s x
unfolding counter_at
counter_fewer counters s x e =
    behind_it (take_sign OpenParen s.symbols) (λ l. take_changed counters (with_left s l) >>= λ r. take_sign Assign r.1.symbols >>= λ m. take_zero m
    >>= λ z. take_sign Semicolon z >>= λ n. Some (r.0, with_left r.1 n)) (TakesSome s) x e (λ l opens e.
    behind_it (take_changed counters (with_left s l)) (λ r. take_sign Assign r.1.symbols >>= λ m. take_zero m >>= λ z. take_sign Semicolon z
    >>= λ n. Some (r.0, with_left r.1 n)) (TakesSome s) x e (λ r changed e.
    behind_it (take_sign Assign r.1.symbols) (λ m. take_zero m >>= λ z. take_sign Semicolon z >>= λ n. Some (r.0, with_left r.1 n)) (TakesSome s) x e
    (λ m assigns e.
    behind_it (take_zero m) (λ z. take_sign Semicolon z >>= λ n. Some (r.0, with_left r.1 n)) (TakesSome s) x e (λ z zeroes e.
    behind_it (take_sign Semicolon z) (λ n. Some (r.0, with_left r.1 n)) (TakesSome s) x e (λ n ends e.
    at_last _ (TakesSome s) x e
    (let one = sign_fewer OpenParen s.symbols l opens in
    let two : TakesSome (with_left s l) r = changed_fewer counters (with_left s l) r changed in
    let three = sign_fewer Assign r.1.symbols m assigns in
    let four = zero_at_most m z zeroes in
    let five = sign_fewer Semicolon z n ends in
    omega arith))))))

bound_at_most : (p : NestingPlace) (register : ℕ) (s : State) (x : LoopHeader × State) → bound_at p register s ≡ Some x → TakesAny s x
unfolding bound_at
bound_at_most p register s x e =
    behind_it (take_again register s) (λ u. take_sign signs.Less u.symbols >>= λ l. take_number l >>= λ n. repeats_of p n.0 >>= λ r.
    take_sign Semicolon n.1 >>= λ m. Some (record { register = register; turns = n.0; repeats = r }, with_left u m)) (TakesAny s) x e (λ u again e.
    behind_it (take_sign signs.Less u.symbols) (λ l. take_number l >>= λ n. repeats_of p n.0 >>= λ r. take_sign Semicolon n.1
    >>= λ m. Some (record { register = register; turns = n.0; repeats = r }, with_left u m)) (TakesAny s) x e (λ l less e.
    behind_it (take_number l) (λ n. repeats_of p n.0 >>= λ r. take_sign Semicolon n.1
    >>= λ m. Some (record { register = register; turns = n.0; repeats = r }, with_left u m)) (TakesAny s) x e (λ n bound e.
    behind_it (repeats_of p n.0) (λ r. take_sign Semicolon n.1
    >>= λ m. Some (record { register = register; turns = n.0; repeats = r }, with_left u m)) (TakesAny s) x e (λ r repeated e.
    behind_it (take_sign Semicolon n.1) (λ m. Some (record { register = register; turns = n.0; repeats = r }, with_left u m)) (TakesAny s) x e (λ m ends e.
    at_last _ (TakesAny s) x e
    (let one = again_at_most register s u again in
    let two = sign_fewer signs.Less u.symbols l less in
    let three = number_at_most l n bound in
    let four = sign_fewer Semicolon n.1 m ends in
    omega arith))))))

step_at_most : (register : ℕ) (s u : State) → step_at register s ≡ Some u → length u.symbols ≤ length s.symbols
unfolding step_at
step_at_most register s u e =
    behind_it (take_again register s) (λ v. take_sign Increment v.symbols >>= λ l. take_sign CloseParen l >>= λ m. Some (with_left v m))
    (λ (w : State). length w.symbols ≤ length s.symbols) u e (λ v again e.
    behind_it (take_sign Increment v.symbols) (λ l. take_sign CloseParen l >>= λ m. Some (with_left v m))
    (λ (w : State). length w.symbols ≤ length s.symbols) u e (λ l steps e.
    behind_it (take_sign CloseParen l) (λ m. Some (with_left v m)) (λ (w : State). length w.symbols ≤ length s.symbols) u e (λ m closes e.
    at_last _ (λ (w : State). length w.symbols ≤ length s.symbols) u e
    (let one = again_at_most register s v again in
    let two = sign_fewer Increment v.symbols l steps in
    let three = sign_fewer CloseParen l m closes in
    omega arith))))

pub header_fewer : (p : NestingPlace) (s : State) (x : LoopHeader × State) → header_at p s ≡ Some x → TakesSome s x
unfolding header_at
header_fewer p s x e =
    behind_it (counter_at p.counters s) (λ r. bound_at p r.0 r.1 >>= λ h. step_at r.0 h.1 >>= λ u. Some (h.0, u)) (TakesSome s) x e (λ r counter e.
    behind_it (bound_at p r.0 r.1) (λ h. step_at r.0 h.1 >>= λ u. Some (h.0, u)) (TakesSome s) x e (λ h bound e.
    behind_it (step_at r.0 h.1) (λ u. Some (h.0, u)) (TakesSome s) x e (λ u step e.
    at_last _ (TakesSome s) x e
    (let one : TakesSome s r = counter_fewer p.counters s r counter in
    let two : TakesAny r.1 h = bound_at_most p r.0 r.1 h bound in
    let three = step_at_most r.0 h.1 u step in
    omega arith))))
