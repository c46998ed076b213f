-- What is read as a simple statement is spelled so.
use Rattle.std.proofs.Common.{◌≡◌, ◌∙◌, ℕ, ◌+◌, ◌<◌, ◌≤◌, List, [], ◌∷◌, Bool, true, false, cond, Option, Some, None, length, refl, sym, ap, subst, arith}
use Rattle.litmus_lex.specs.declared.sign.Sign.TheVariants.{OpenParen, CloseParen, Comma, Semicolon, Assign, AddAssign, Increment, Star}
use Rattle.litmus_syntax.specs.Limits.{own_repeats}
use Rattle.litmus_syntax.specs.Sites.{assignment_has_access}
use Rattle.litmus_syntax.specs.Tree as tree
use Rattle.litmus_syntax.specs.declared.expression.ReadForm.TheVariants as reads
use Rattle.litmus_syntax.specs.declared.statement.WriteForm.{WriteForm}
use Rattle.litmus_syntax.specs.declared.statement.WriteForm.TheVariants as writes
use Rattle.litmus_lex.specs.declared.words.StoreWord.{StoreWord}
use Rattle.litmus_lex.specs.declared.words.StoreWord.TheVariants as stores
use Rattle.litmus_lex.specs.declared.words.Word.TheVariants as words
use Rattle.litmus_lex.specs.Front.{◌>>=◌, begins_call, first, is_sign, others, take_sign}
use Rattle.litmus_lex.specs.Words.{Symbol, word, identifier, number, sign, fault}
use Rattle.litmus_expression.specs.declared.process.Takes.{Takes}
use Rattle.litmus_expression.specs.declared.process.Takes.TheVariants.{Integers, Atomics}
use Rattle.litmus_expression.specs.Counters.{AreCounters}
use Rattle.litmus_expression.specs.Expressions.{Expression, Pure, bare}
use Rattle.litmus_expression.specs.Expressions as expressions
use Rattle.litmus_expression.specs.ExpressionReader.{expression_at, load_at, pure_at, take_star}
use Rattle.litmus_expression.specs.Followed.{accesses}
use Rattle.litmus_expression.specs.NameReader.{count_access, take_variable}
use Rattle.litmus_expression.specs.Names.{IsAtomic, IsInteger, IsVariable, Names, Parameter}
use Rattle.litmus_expression.specs.PlaceReader.{take_changed}
use Rattle.litmus_expression.specs.Places.{NestingPlace}
use Rattle.litmus_expression.specs.States.{State, after, with_left}
use Rattle.litmus_expression.proofs.Fewer.{at_last, behind_it, either_way, unless_it}
use Rattle.litmus_expression.proofs.Sound.{Counted, ReadsVariable, atomic_variable, integer_variable, variable_reads}
use Rattle.litmus_expression.proofs.Taken.{front, is_sign_is, sign_taken}
use Rattle.litmus_expression.proofs.Whole.{changed_reads, counted_reads, expression_reads, load_reads, pure_reads, star_reads}
use Rattle.litmus_body.specs.SimpleReader.{Start, star, parenthesis, a_store, a_load, a_name, nothing, behind_variable, increment}
use Rattle.litmus_body.specs.SimpleReader.{register_assignment, simple_at, simple_with, start_of, starred}
use Rattle.litmus_body.specs.Reads.{ReadsSimple}
use Rattle.litmus_body.specs.Statements as grammar
use Rattle.litmus_body.specs.Statements.{Enclosable, Simple, alone, assignment, load}
use Rattle.litmus_body.specs.StoreReader.{store_at, stored, write, written}

-- a relation over parameters and names that are known otherwise
renamed : {P Q : List Parameter} {m n : Names} (Rel : List Parameter → Names → Type 0) → Q ≡ P → m ≡ n → Rel Q m → Rel P n
renamed {P = P} {Q = Q} {m = m} {n = n} Rel parameters names r = subst (λ (k : Names). Rel P k) names (subst (λ (p : List Parameter). Rel p m) parameters r)

few : {m n : Names} → m ≡ n → length n ≤ 32 → length m ≤ 32
few same le = subst (λ (k : Names). length k ≤ 32) (sym same) le

-- ---- calls that change a variable

-- between the parentheses of a call
abbrev begun : StoreWord → List Symbol → List Symbol
begun w symbols = word (words.Store w) ∷ sign OpenParen ∷ symbols

record ReadsStored (d : ℕ) (counters : List ℕ) (w : StoreWord) (u : State) (y : tree.Assignment × State) : Type 0 where
  spelled : (rest : List Symbol) → y.1.symbols ≡ sign CloseParen ∷ rest
      → Simple u.parameters d counters u.names (begun w u.symbols) (assignment y.0) rest y.1.names
  has_access : assignment_has_access y.0 ≡ true
  within : length y.1.names ≤ 32
  parameters : y.1.parameters ≡ u.parameters
  statements : y.1.statements ≡ u.statements
  repeats : y.1.repeats ≡ u.repeats

-- `VAR , pure`
record ReadsWritten (d : ℕ) (takes : Takes) (form : WriteForm) (u : State) (y : tree.Assignment × State) : Type 0 where
  v : ℕ × State
  variable : ReadsVariable takes u v
  middle : List Symbol
  value : tree.Pure
  made : y.0 ≡ tree.write form v.0 value
  next : u.symbols ≡ identifier variable.name ∷ sign Comma ∷ middle
  spelled : Pure u.parameters d u.names middle value y.1.symbols y.1.names
  within : length y.1.names ≤ 32
  parameters : y.1.parameters ≡ u.parameters
  statements : y.1.statements ≡ u.statements
  repeats : y.1.repeats ≡ u.repeats

written_reads : (t d : ℕ) (takes : Takes) (form : WriteForm) (u : State) (y : tree.Assignment × State) → d ≤ 16 → length u.names ≤ 32
    → written t d takes form u ≡ Some y
    → ReadsWritten d takes form u y
unfolding written
written_reads t d takes form u y deep within e =
    behind_it (take_variable takes u) (λ v. take_sign Comma v.1.symbols >>= λ l. pure_at t d (with_left v.1 l)
    >>= λ z. Some (tree.write form v.0 z.0, z.1)) (ReadsWritten d takes form u) y e (λ v named e.
    behind_it (take_sign Comma v.1.symbols) (λ l. pure_at t d (with_left v.1 l)
    >>= λ z. Some (tree.write form v.0 z.0, z.1)) (ReadsWritten d takes form u) y e (λ l comma e.
    behind_it (pure_at t d (with_left v.1 l)) (λ z. Some (tree.write form v.0 z.0, z.1)) (ReadsWritten d takes form u) y e (λ z value e.
    at_last _ (ReadsWritten d takes form u) y e
    (let r = variable_reads takes u v named in
    let q = pure_reads t d (with_left v.1 l) z deep (few r.moved.names within) value in
    record {
      v = v;
      variable = r;
      middle = l;
      value = z.0;
      made = refl;
      next = r.next ∙ ap (λ (k : List Symbol). identifier r.name ∷ k) (sign_taken Comma v.1.symbols l comma);
      spelled = renamed (λ P n. Pure P d n l z.0 z.1.symbols z.1.names) r.moved.parameters r.moved.names q.spelled;
      within = q.within;
      parameters = q.parameters ∙ r.moved.parameters;
      statements = q.statements ∙ r.moved.statements;
      repeats = omega (arith, q.repeats, r.moved.repeats);
    }))))

-- a write whose variable and value stand behind what its form has before them
write_made : (d : ℕ) (counters : List ℕ) (w : StoreWord) (takes : Takes) (form : WriteForm) (before : List Symbol
    → List Symbol) (s u : State) (y : tree.Assignment × State)
    → s.symbols ≡ before u.symbols → u.parameters ≡ s.parameters → u.names ≡ s.names → u.statements ≡ s.statements → u.repeats ≡ s.repeats
    → (r : ReadsWritten d takes form u y)
    → ((rest : List Symbol) → Pure s.parameters d s.names r.middle r.value (sign CloseParen ∷ rest) y.1.names
    → Simple s.parameters d counters s.names (begun w (before (identifier r.variable.name ∷ sign Comma ∷ r.middle))) (assignment
    (tree.write form r.v.0 r.value)) rest y.1.names)
    → ReadsStored d counters w s y
write_made d counters w takes form before s u y next parameters names statements repeats r spells = record {
  spelled = λ rest closes.
      let value = subst (λ (l : List Symbol). Pure s.parameters d s.names r.middle r.value l y.1.names) closes
      (renamed (λ P n. Pure P d n r.middle r.value y.1.symbols y.1.names) parameters names r.spelled) in
      let all : s.symbols ≡ before (identifier r.variable.name ∷ sign Comma ∷ r.middle) = next ∙ ap before r.next in
      subst (λ (a : tree.Assignment). Simple s.parameters d counters s.names (begun w s.symbols) (assignment a) rest y.1.names) (sym r.made)
      (subst (λ (l : List Symbol). Simple s.parameters d counters s.names (begun w l) (assignment (tree.write form r.v.0 r.value)) rest y.1.names) (sym all)
      (spells rest value));
  has_access = ap assignment_has_access r.made;
  within = r.within;
  parameters = r.parameters ∙ parameters;
  statements = r.statements ∙ statements;
  repeats = r.repeats ∙ repeats;
}

abbrev as_it_is : List Symbol → List Symbol
as_it_is symbols = symbols

write_reads : (t d : ℕ) (counters : List ℕ) (form : WriteForm) (s : State) (y : tree.Assignment × State) → d ≤ 16 → length s.names ≤ 32
    → write t d form s ≡ Some y
    → ReadsStored d counters (stores.Write form) s y
unfolding write
write_reads t d counters writes.Plain s y deep within e = absurd cc
write_reads t d counters writes.Once s y deep within e =
    behind_it (take_star s) (λ u. written t d Integers writes.Once u) (ReadsStored d counters (stores.Write writes.Once) s) y e (λ u stars e.
    let star_is = star_reads s u stars in
    let r = written_reads t d Integers writes.Once u y deep (few star_is.names within) e in
    write_made d counters (stores.Write writes.Once) Integers writes.Once
    (λ symbols. sign Star ∷ symbols) s u y star_is.next star_is.parameters star_is.names
    star_is.statements star_is.repeats r (λ rest value. grammar.write_once (subst
    (λ P. IsVariable P IsInteger r.variable.name r.v.0) star_is.parameters (integer_variable u r.v r.variable)) value))
write_reads t d counters writes.Release s y deep within e =
    let r = written_reads t d Integers writes.Release s y deep within e in
    write_made d counters (stores.Write writes.Release) Integers writes.Release as_it_is s s y refl refl refl refl refl r
    (λ rest value. grammar.release (integer_variable s r.v r.variable) value)
write_reads t d counters writes.Atomic s y deep within e =
    let r = written_reads t d Atomics writes.Atomic s y deep within e in
    write_made d counters (stores.Write writes.Atomic) Atomics writes.Atomic as_it_is s s y refl refl refl refl refl r
    (λ rest value. grammar.atomic_set (atomic_variable s r.v r.variable) value)

-- a variable alone between the parentheses
alone_reads : (d : ℕ) (counters : List ℕ) (w : StoreWord) (made : ℕ → tree.Assignment) (s : State) (y : tree.Assignment × State) → length s.names ≤ 32
    → ((x : ℕ) → assignment_has_access (made x) ≡ true)
    → ((name : List ℕ) (x : ℕ) (rest : List Symbol) → IsVariable s.parameters IsAtomic name x
    → Simple s.parameters d counters s.names (begun w (identifier name ∷ sign CloseParen ∷ rest)) (assignment (made x)) rest s.names)
    → (take_variable Atomics s >>= λ v. Some (made v.0, v.1)) ≡ Some y → ReadsStored d counters w s y
alone_reads d counters w made s y within accesses_it spells e =
    behind_it (take_variable Atomics s) (λ v. Some (made v.0, v.1)) (ReadsStored d counters w s) y e (λ v named e.
    at_last _ (ReadsStored d counters w s) y e
    (let r = variable_reads Atomics s v named in
    record {
      spelled = λ rest closes.
          let all : s.symbols ≡ identifier r.name ∷ sign CloseParen ∷ rest = r.next ∙ ap (λ (l : List Symbol). identifier r.name ∷ l) closes in
          subst (λ (n : Names). Simple s.parameters d counters s.names (begun w s.symbols) (assignment (made v.0)) rest n) (sym r.moved.names)
          (subst (λ (l : List Symbol). Simple s.parameters d counters s.names (begun w l) (assignment (made v.0)) rest s.names) (sym all)
          (spells r.name v.0 rest (atomic_variable s v r)));
      has_access = accesses_it v.0;
      within = few r.moved.names within;
      parameters = r.moved.parameters;
      statements = r.moved.statements;
      repeats = r.moved.repeats;
    }))

stored_reads : (t d : ℕ) (counters : List ℕ) (w : StoreWord) (s : State) (y : tree.Assignment × State) → d ≤ 16 → length s.names ≤ 32 → stored t d w s ≡ Some y
    → ReadsStored d counters w s y
unfolding stored
stored_reads t d counters (stores.Write form) s y deep within e = write_reads t d counters form s y deep within e
stored_reads t d counters stores.Add s y deep within e =
    behind_it (pure_at t d s) (λ z. take_sign Comma z.1.symbols >>= λ l. take_variable Atomics (with_left z.1 l)
    >>= λ v. Some (tree.atomic_add z.0 v.0, v.1)) (ReadsStored d counters stores.Add s) y e (λ z value e.
    behind_it (take_sign Comma z.1.symbols) (λ l. take_variable Atomics (with_left z.1 l)
    >>= λ v. Some (tree.atomic_add z.0 v.0, v.1)) (ReadsStored d counters stores.Add s) y e (λ l comma e.
    behind_it (take_variable Atomics (with_left z.1 l)) (λ v. Some (tree.atomic_add z.0 v.0, v.1)) (ReadsStored d counters stores.Add s) y e (λ v named e.
    at_last _ (ReadsStored d counters stores.Add s) y e
    (let q = pure_reads t d s z deep within value in
    let r = variable_reads Atomics (with_left z.1 l) v named in
    record {
      spelled = λ rest closes.
          let behind : z.1.symbols ≡ sign Comma ∷ identifier r.name ∷ sign CloseParen ∷ rest = sign_taken Comma z.1.symbols l comma
          ∙ ap (λ (k : List Symbol). sign Comma ∷ k) (r.next ∙ ap (λ (k : List Symbol). identifier r.name ∷ k) closes) in
          let value_is = subst (λ (k : List Symbol). Pure s.parameters d s.names s.symbols z.0 k z.1.names) behind q.spelled in
          let variable_is = subst (λ P. IsVariable P IsAtomic r.name v.0) q.parameters (atomic_variable (with_left z.1 l) v r) in
          subst (λ (n : Names). Simple s.parameters d counters s.names (begun stores.Add s.symbols) (assignment (tree.atomic_add z.0 v.0)) rest n) (sym
          r.moved.names)
          (grammar.atomic_add value_is variable_is);
      has_access = refl;
      within = few r.moved.names q.within;
      parameters = r.moved.parameters ∙ q.parameters;
      statements = r.moved.statements ∙ q.statements;
      repeats = omega (arith, q.repeats, r.moved.repeats);
    }))))
stored_reads t d counters stores.Increment s y deep within e =
    alone_reads d counters stores.Increment (λ x. tree.atomic_increment x) s y within (λ x. refl) (λ name x rest is. grammar.atomic_increment is) e
stored_reads t d counters stores.Decrement s y deep within e =
    alone_reads d counters stores.Decrement (λ x. tree.atomic_decrement x) s y within (λ x. refl) (λ name x rest is. grammar.atomic_decrement is) e

-- ---- what an access of a simple statement counts

pub register_accesses : (t register : ℕ) (e : tree.Expression) → own_repeats t (tree.assign false (tree.to_register register e)) ≡ accesses t e
register_accesses t register (tree.pure a) = refl
register_accesses t register (tree.loading a) = refl

one_access : (t : ℕ) (a : tree.Assignment) → assignment_has_access a ≡ true → own_repeats t (tree.assign false a) ≡ t
one_access t a is = ap (λ (b : Bool). cond b t 0) is

store_reads : (p : NestingPlace) (counters : List ℕ) (w : StoreWord) (s : State) (y : tree.Assignment × State) → p.depth ≤ 16 → length s.names ≤ 32
    → first s.symbols ≡ word (words.Store w) → store_at p.turns p.depth w s ≡ Some y → ReadsSimple p counters s (assignment y.0, y.1)
unfolding store_at
store_reads p counters w s y deep within next e =
    behind_it (count_access p.turns s) (λ c. take_sign OpenParen (others c.symbols) >>= λ l. stored p.turns p.depth w (with_left c l) >>= λ z.
    take_sign CloseParen z.1.symbols >>= λ m. Some (z.0, with_left z.1 m))
    (λ (x : tree.Assignment × State). ReadsSimple p counters s (assignment x.0, x.1)) y e (λ c counted e.
    behind_it (take_sign OpenParen (others c.symbols)) (λ l. stored p.turns p.depth w (with_left c l) >>= λ z. take_sign CloseParen z.1.symbols
    >>= λ m. Some (z.0, with_left z.1 m)) (λ (x : tree.Assignment × State). ReadsSimple p counters s (assignment x.0, x.1)) y e (λ l opens e.
    behind_it (stored p.turns p.depth w (with_left c l)) (λ z. take_sign CloseParen z.1.symbols >>= λ m. Some (z.0, with_left z.1 m))
    (λ (x : tree.Assignment × State). ReadsSimple p counters s (assignment x.0, x.1)) y e (λ z inside e.
    behind_it (take_sign CloseParen z.1.symbols) (λ m. Some (z.0, with_left z.1 m))
    (λ (x : tree.Assignment × State). ReadsSimple p counters s (assignment x.0, x.1)) y e (λ m closes e.
    at_last _ (λ (x : tree.Assignment × State). ReadsSimple p counters s (assignment x.0, x.1)) y e
    (let k = counted_reads p.turns s c counted in
    let r = stored_reads p.turns p.depth counters w (with_left c l) z deep (few k.names within) inside in
    let opened : others s.symbols ≡ sign OpenParen ∷ l = ap others (sym k.symbols) ∙ sign_taken OpenParen (others c.symbols) l opens in
    let whole : s.symbols ≡ begun w l = front s.symbols (word (words.Store w)) next (λ never. cc) ∙ ap
    (λ (j : List Symbol). word (words.Store w) ∷ j) opened in
    let inner = r.spelled m (sign_taken CloseParen z.1.symbols m closes) in
    let here = renamed (λ P n. Simple P p.depth counters n (begun w l) (assignment z.0) m z.1.names) k.parameters k.names inner in
    let one = one_access p.turns z.0 r.has_access in
    record {
      spelled = subst (λ (j : List Symbol). Simple s.parameters p.depth counters s.names j (assignment z.0) m z.1.names) (sym whole) here;
      within = r.within;
      parameters = r.parameters ∙ k.parameters;
      statements = r.statements ∙ k.statements;
      repeats = omega (arith, r.repeats, k.repeats, one);
    })))))

-- ---- the others

assignment_reads : (p : NestingPlace) (counters : List ℕ) (s : State) (y : tree.Assignment × State) → AreCounters p.counters counters → p.depth ≤ 16
    → length s.names ≤ 32
    → register_assignment p s ≡ Some y → ReadsSimple p counters s (assignment y.0, y.1)
unfolding register_assignment
assignment_reads p counters s y are deep within e =
    unless_it (begins_call s.symbols) (take_changed p.counters s >>= λ r. take_sign Assign r.1.symbols
    >>= λ l. expression_at p.turns p.depth (with_left r.1 l) >>= λ z. Some (tree.to_register r.0 z.0, z.1))
    (λ (x : tree.Assignment × State). ReadsSimple p counters s (assignment x.0, x.1)) y e (λ no e.
    behind_it (take_changed p.counters s) (λ r. take_sign Assign r.1.symbols >>= λ l. expression_at p.turns p.depth (with_left r.1 l)
    >>= λ z. Some (tree.to_register r.0 z.0, z.1)) (λ (x : tree.Assignment × State). ReadsSimple p counters s (assignment x.0, x.1)) y e (λ r changed e.
    behind_it (take_sign Assign r.1.symbols) (λ l. expression_at p.turns p.depth (with_left r.1 l) >>= λ z. Some (tree.to_register r.0 z.0, z.1))
    (λ (x : tree.Assignment × State). ReadsSimple p counters s (assignment x.0, x.1)) y e (λ l assigns e.
    behind_it (expression_at p.turns p.depth (with_left r.1 l)) (λ z. Some (tree.to_register r.0 z.0, z.1))
    (λ (x : tree.Assignment × State). ReadsSimple p counters s (assignment x.0, x.1)) y e (λ z value e.
    at_last _ (λ (x : tree.Assignment × State). ReadsSimple p counters s (assignment x.0, x.1)) y e
    (let k = changed_reads p.counters counters s r are within changed in
    let q = (expression_reads p.turns p.depth (with_left r.1 l) z deep k.within value).reads in
    let whole : s.symbols ≡ identifier k.name ∷ sign Assign ∷ l = k.next ∙ ap
    (λ (j : List Symbol). identifier k.name ∷ j) (sign_taken Assign r.1.symbols l assigns) in
    let value_is = subst (λ P. Expression P p.depth r.1.names l z.0 z.1.symbols z.1.names) k.parameters q.spelled in
    let count = register_accesses p.turns r.0 z.0 in
    record {
      spelled = subst (λ (j : List Symbol). Simple s.parameters p.depth counters s.names j (assignment (tree.to_register r.0 z.0)) z.1.symbols z.1.names)
          (sym whole)
          (grammar.to_register k.is value_is);
      within = q.within;
      parameters = q.parameters ∙ k.parameters;
      statements = q.statements ∙ k.statements;
      repeats = omega (arith, q.repeats, k.repeats, count);
    })))))

-- what stands behind `* VAR`
record ReadsBehind (p : NestingPlace) (counters : List ℕ) (name : List ℕ) (variable : ℕ) (s u : State) (x : Enclosable × State) : Type 0 where
  spelled : Simple s.parameters p.depth counters s.names (sign Star ∷ identifier name ∷ u.symbols) x.0 x.1.symbols x.1.names
  within : length x.1.names ≤ 32
  parameters : x.1.parameters ≡ u.parameters
  statements : x.1.statements ≡ u.statements
  repeats : x.1.repeats ≡ u.repeats
  one : own_repeats p.turns (alone x.0) ≡ p.turns

behind_reads : (p : NestingPlace) (counters : List ℕ) (name : List ℕ) (variable : ℕ) (s u : State) (x : Enclosable × State) → p.depth ≤ 16 → length u.names ≤ 32
    → u.parameters ≡ s.parameters → u.names ≡ s.names → IsVariable s.parameters IsInteger name variable → behind_variable p variable u ≡ Some x
    → ReadsBehind p counters name variable s u x
behind_reads p counters name variable s u x deep few_names parameters names is_variable e =
    either_way (is_sign Assign (first u.symbols)) (pure_at p.turns p.depth (after u) >>= λ z. Some (assignment (tree.write writes.Plain variable z.0), z.1))
    (cond (is_sign AddAssign (first u.symbols)) (pure_at p.turns p.depth (after u)
    >>= λ z. Some (assignment (tree.add variable z.0), z.1)) (Some (load (bare (tree.read reads.Plain variable)), u))) (ReadsBehind p counters name
    variable s u) x e
    (λ is e.
    behind_it (pure_at p.turns p.depth (after u))
    (λ z. Some (assignment (tree.write writes.Plain variable z.0), z.1)) (ReadsBehind p counters name variable s u) x e (λ z value e.
    at_last _ (ReadsBehind p counters name variable s u) x e
    (let q = pure_reads p.turns p.depth (after u) z deep few_names value in
    let next : u.symbols ≡ sign Assign ∷ others u.symbols = front u.symbols (sign Assign) (is_sign_is Assign (first u.symbols) is) (λ never. cc) in
    let value_is = renamed (λ P n. Pure P p.depth n (others u.symbols) z.0 z.1.symbols z.1.names) parameters names q.spelled in
    record {
      spelled = subst (λ (j : List Symbol). Simple s.parameters p.depth counters s.names (sign Star ∷ identifier name ∷ j) (assignment (tree.write
          writes.Plain variable z.0)) z.1.symbols z.1.names) (sym next)
          (grammar.write is_variable value_is);
      within = q.within;
      parameters = q.parameters;
      statements = q.statements;
      repeats = omega (arith, q.repeats);
      one = refl;
    })))
    (λ none e.
    either_way (is_sign AddAssign (first u.symbols)) (pure_at p.turns p.depth (after u)
    >>= λ z. Some (assignment (tree.add variable z.0), z.1)) (Some (load (bare (tree.read reads.Plain variable)), u)) (ReadsBehind p counters name variable
    s u) x e
    (λ is e.
    behind_it (pure_at p.turns p.depth (after u)) (λ z. Some (assignment (tree.add variable z.0), z.1)) (ReadsBehind p counters name variable s u) x e
    (λ z value e.
    at_last _ (ReadsBehind p counters name variable s u) x e
    (let q = pure_reads p.turns p.depth (after u) z deep few_names value in
    let next : u.symbols ≡ sign AddAssign ∷ others u.symbols = front u.symbols (sign AddAssign) (is_sign_is AddAssign (first u.symbols) is) (λ never. cc) in
    let value_is = renamed (λ P n. Pure P p.depth n (others u.symbols) z.0 z.1.symbols z.1.names) parameters names q.spelled in
    record {
      spelled = subst (λ (j : List Symbol). Simple s.parameters p.depth counters s.names (sign Star ∷ identifier name ∷ j) (assignment (tree.add variable
          z.0)) z.1.symbols z.1.names) (sym next)
          (grammar.add is_variable value_is);
      within = q.within;
      parameters = q.parameters;
      statements = q.statements;
      repeats = omega (arith, q.repeats);
      one = refl;
    })))
    (λ no_more e. at_last _ (ReadsBehind p counters name variable s u) x e (record {
      spelled = subst (λ (n : Names). Simple s.parameters p.depth counters s.names (sign Star ∷ identifier name ∷ u.symbols) (load (bare
          (tree.read reads.Plain variable))) u.symbols n)
          (sym names) (grammar.a_load (expressions.plain is_variable));
      within = few_names;
      parameters = refl;
      statements = refl;
      repeats = refl;
      one = refl;
    })))

starred_reads : (p : NestingPlace) (counters : List ℕ) (s : State) (x : Enclosable × State) → p.depth ≤ 16 → length s.names ≤ 32 → starred p s ≡ Some x
    → ReadsSimple p counters s x
unfolding starred
starred_reads p counters s x deep within e =
    behind_it (count_access p.turns s) (λ c. take_star c >>= λ u. take_variable Integers u
    >>= λ v. behind_variable p v.0 v.1) (ReadsSimple p counters s) x e (λ c counted e.
    behind_it (take_star c) (λ u. take_variable Integers u >>= λ v. behind_variable p v.0 v.1) (ReadsSimple p counters s) x e (λ u stars e.
    behind_it (take_variable Integers u) (λ v. behind_variable p v.0 v.1) (ReadsSimple p counters s) x e (λ v named e.
    let k = counted_reads p.turns s c counted in
    let t = star_reads c u stars in
    let r = variable_reads Integers u v named in
    let parameters : v.1.parameters ≡ s.parameters = r.moved.parameters ∙ t.parameters ∙ k.parameters in
    let names : v.1.names ≡ s.names = r.moved.names ∙ t.names ∙ k.names in
    let variable_is = subst (λ P. IsVariable P IsInteger r.name v.0) (t.parameters ∙ k.parameters) (integer_variable u v r) in
    let b = behind_reads p counters r.name v.0 s v.1 x deep (few names within) parameters names variable_is e in
    let whole : s.symbols ≡ sign Star ∷ identifier r.name ∷ v.1.symbols = sym k.symbols ∙ t.next ∙ ap (λ (j : List Symbol). sign Star ∷ j) r.next in
    record {
      spelled = subst (λ (j : List Symbol). Simple s.parameters p.depth counters s.names j x.0 x.1.symbols x.1.names) (sym whole) b.spelled;
      within = b.within;
      parameters = b.parameters ∙ parameters;
      statements = b.statements ∙ r.moved.statements ∙ t.statements ∙ k.statements;
      repeats = omega (arith, b.repeats, r.moved.repeats, t.repeats, k.repeats, b.one);
    })))

increment_reads : (p : NestingPlace) (counters : List ℕ) (s : State) (x : Enclosable × State) → length s.names ≤ 32 → increment p s ≡ Some x
    → ReadsSimple p counters s x
unfolding increment
increment_reads p counters s x within e =
    behind_it (count_access p.turns s) (λ c. take_sign OpenParen c.symbols >>= λ l. take_star (with_left c l) >>= λ u. take_variable Integers u
    >>= λ v. take_sign CloseParen v.1.symbols >>= λ m. take_sign Increment m
    >>= λ n. Some (assignment (tree.increment v.0), with_left v.1 n)) (ReadsSimple p counters s) x e (λ c counted e.
    behind_it (take_sign OpenParen c.symbols) (λ l. take_star (with_left c l) >>= λ u. take_variable Integers u >>= λ v.
    take_sign CloseParen v.1.symbols >>= λ m. take_sign Increment m
    >>= λ n. Some (assignment (tree.increment v.0), with_left v.1 n)) (ReadsSimple p counters s) x e (λ l opens e.
    behind_it (take_star (with_left c l)) (λ u. take_variable Integers u >>= λ v. take_sign CloseParen v.1.symbols >>= λ m. take_sign Increment m
    >>= λ n. Some (assignment (tree.increment v.0), with_left v.1 n)) (ReadsSimple p counters s) x e (λ u stars e.
    behind_it (take_variable Integers u) (λ v. take_sign CloseParen v.1.symbols >>= λ m. take_sign Increment m
    >>= λ n. Some (assignment (tree.increment v.0), with_left v.1 n)) (ReadsSimple p counters s) x e (λ v named e.
    behind_it (take_sign CloseParen v.1.symbols) (λ m. take_sign Increment m
    >>= λ n. Some (assignment (tree.increment v.0), with_left v.1 n)) (ReadsSimple p counters s) x e (λ m closes e.
    behind_it (take_sign Increment m) (λ n. Some (assignment (tree.increment v.0), with_left v.1 n)) (ReadsSimple p counters s) x e (λ n increments e.
    at_last _ (ReadsSimple p counters s) x e
    (let k = counted_reads p.turns s c counted in
    let t = star_reads (with_left c l) u stars in
    let r = variable_reads Integers u v named in
    let names : v.1.names ≡ s.names = r.moved.names ∙ t.names ∙ k.names in
    let variable_is = subst (λ P. IsVariable P IsInteger r.name v.0) (t.parameters ∙ k.parameters) (integer_variable u v r) in
    let behind : v.1.symbols ≡ sign CloseParen ∷ sign Increment ∷ n = sign_taken CloseParen v.1.symbols m closes ∙ ap
    (λ (j : List Symbol). sign CloseParen ∷ j) (sign_taken Increment m n increments) in
    let inner : u.symbols ≡ identifier r.name ∷ sign CloseParen ∷ sign Increment ∷ n = r.next ∙ ap (λ (j : List Symbol). identifier r.name ∷ j) behind in
    let whole : s.symbols ≡ sign OpenParen ∷ sign Star ∷ identifier r.name ∷ sign CloseParen ∷ sign Increment ∷ n = sym k.symbols ∙ sign_taken OpenParen
    c.symbols l opens
    ∙ ap (λ (j : List Symbol). sign OpenParen ∷ j) (t.next ∙ ap (λ (j : List Symbol). sign Star ∷ j) inner) in
    record {
      spelled = subst (λ (q : Names). Simple s.parameters p.depth counters s.names s.symbols (assignment (tree.increment v.0)) n q) (sym names)
          (subst (λ (j : List Symbol). Simple s.parameters p.depth counters s.names j (assignment (tree.increment v.0)) n s.names) (sym whole)
          (grammar.increment variable_is));
      within = few names within;
      parameters = r.moved.parameters ∙ t.parameters ∙ k.parameters;
      statements = r.moved.statements ∙ t.statements ∙ k.statements;
      repeats = omega (arith, r.moved.repeats, t.repeats, k.repeats);
    })))))))

starts_with_store : (y : Symbol) (w : StoreWord) → start_of y ≡ a_store w → y ≡ word (words.Store w)
starts_with_store (word (words.Store v)) w e = cc
starts_with_store (word words.DataRace) w e = absurd cc
starts_with_store (word (words.Load l)) w e = absurd cc
starts_with_store (word _) w e = absurd cc
starts_with_store (identifier name) w e = absurd cc
starts_with_store (number n) w e = absurd cc
starts_with_store (sign OpenParen) w e = absurd cc
starts_with_store (sign Star) w e = absurd cc
starts_with_store (sign _) w e = absurd cc
starts_with_store fault w e = absurd cc

simple_with_reads : (p : NestingPlace) (counters : List ℕ) (s : State) (b : Start) (x : Enclosable × State) → AreCounters p.counters counters → p.depth ≤ 16
    → length s.names ≤ 32
    → start_of (first s.symbols) ≡ b → simple_with p s b ≡ Some x → ReadsSimple p counters s x
simple_with_reads p counters s star x are deep within starts e = starred_reads p counters s x deep within e
simple_with_reads p counters s parenthesis x are deep within starts e = increment_reads p counters s x within e
simple_with_reads p counters s (a_store w) x are deep within starts e =
    behind_it (store_at p.turns p.depth w s) (λ z. Some (assignment z.0, z.1)) (ReadsSimple p counters s) x e (λ z is e.
    at_last _ (ReadsSimple p counters s) x e
    (store_reads p counters w s z deep within (starts_with_store (first s.symbols) w starts) is))
simple_with_reads p counters s a_load x are deep within starts e =
    behind_it (load_at p.turns p.depth s) (λ z. Some (load z.0, z.1)) (ReadsSimple p counters s) x e (λ z is e.
    at_last _ (ReadsSimple p counters s) x e
    (let r = load_reads p.turns p.depth s z deep within is in
    record { spelled = grammar.a_load r.spelled; within = r.within; parameters = r.parameters; statements = r.statements; repeats = r.repeats }))
simple_with_reads p counters s a_name x are deep within starts e =
    behind_it (register_assignment p s) (λ z. Some (assignment z.0, z.1)) (ReadsSimple p counters s) x e (λ z is e.
    at_last _ (ReadsSimple p counters s) x e
    (assignment_reads p counters s z are deep within is))
simple_with_reads p counters s nothing x are deep within starts e = absurd cc

-- what is read as a simple statement is spelled so
pub simple_reads : (p : NestingPlace) (counters : List ℕ) (s : State) (x : Enclosable × State) → AreCounters p.counters counters → p.depth ≤ 16 → length s.names ≤ 32
    → simple_at p s ≡ Some x → ReadsSimple p counters s x
unfolding simple_at
simple_reads p counters s x are deep within e = simple_with_reads p counters s (start_of (first s.symbols)) x are deep within refl e
