-- What is spelled as a simple statement is read so, whatever follows it that can't continue it.
use Rattle.std.proofs.Common.{◌≡◌, ◌∙◌, ℕ, ◌+◌, ◌<◌, ◌≤◌, List, [], ◌∷◌, Bool, true, false, cond, Option, Some, None, map, refl, sym, ap, subst, arith}
use Rattle.std.proofs.lemmas.Bool.{le-ltb}
use Rattle.std.specs.Prelude.{Contains}
use Rattle.litmus_lex.specs.declared.sign.Sign.TheVariants.{OpenParen, CloseParen, Comma, Assign, AddAssign, Increment, Star}
use Rattle.litmus_syntax.specs.Limits.{own_repeats}
use Rattle.litmus_syntax.specs.Tree as tree
use Rattle.litmus_syntax.specs.declared.expression.ReadForm.TheVariants as reads
use Rattle.litmus_syntax.specs.declared.statement.WriteForm.{WriteForm}
use Rattle.litmus_syntax.specs.declared.statement.WriteForm.TheVariants as writes
use Rattle.litmus_lex.specs.declared.words.StoreWord.{StoreWord}
use Rattle.litmus_lex.specs.declared.words.StoreWord.TheVariants as stores
use Rattle.litmus_lex.specs.declared.words.VariableType.{VariableType}
use Rattle.litmus_lex.specs.declared.words.Word.TheVariants as words
use Rattle.litmus_lex.specs.Front.{◌>>=◌, first, is_sign, others, take_sign}
use Rattle.litmus_lex.specs.Words.{Symbol, word, identifier, number, sign}
use Rattle.litmus_expression.specs.declared.process.Takes.{Takes}
use Rattle.litmus_expression.specs.declared.process.Takes.TheVariants.{Integers, Atomics}
use Rattle.litmus_expression.specs.Counters.{AreCounters}
use Rattle.litmus_expression.specs.Expressions.{Expression, Load, Pure, bare}
use Rattle.litmus_expression.specs.Expressions as expressions
use Rattle.litmus_expression.specs.ExpressionReader.{expression_at, load_at, pure_at, take_star}
use Rattle.litmus_expression.specs.Followed.{Differ, Follows, accesses, name_of}
use Rattle.litmus_expression.specs.NameReader.{count_access, register_at, take_variable, takes_type}
use Rattle.litmus_expression.specs.Names.{IsAtomic, IsChanged, IsInteger, IsRegister, IsVariable, Names, Parameter}
use Rattle.litmus_expression.specs.PlaceReader.{take_changed}
use Rattle.litmus_expression.specs.Places.{NestingPlace, is_counter}
use Rattle.litmus_expression.specs.States.{State, after, with_left}
use Rattle.litmus_expression.proofs.Complete.{atomic_back, expression_read, follows_close, follows_comma, integer_back, load_is_read, numbered_differ}
use Rattle.litmus_expression.proofs.Complete.{placed, pure_is_read, register_back, star_there}
use Rattle.litmus_body.specs.Reads.{EndsSimple}
use Rattle.litmus_body.specs.SimpleReader.{Start, star, parenthesis, a_store, a_load, a_name, nothing, behind_variable, increment}
use Rattle.litmus_body.specs.SimpleReader.{register_assignment, simple_at, simple_with, start_of, starred}
use Rattle.litmus_body.specs.Statements as grammar
use Rattle.litmus_body.specs.Statements.{Enclosable, Simple, alone, assignment, load}
use Rattle.litmus_body.specs.StoreReader.{store_at, stored, write, written}
use Rattle.litmus_body.proofs.SimpleSound.{register_accesses}

module _ (P : List Parameter) (st : ℕ) (p : NestingPlace) (apart : Differ (map name_of P)) where
  access_there : (symbols : List Symbol) (names : Names) (n : ℕ) → n + p.turns ≤ 1024
      → count_access p.turns (placed P st symbols names n) ≡ Some (placed P st symbols names (n + p.turns))
  access_there symbols names n le = ap (λ (b : Bool). cond b None (Some (placed P st symbols names (n + p.turns)))) (le-ltb 1024 (n + p.turns) le)

  -- ---- calls that change a variable

  abbrev begun : StoreWord → List Symbol → List Symbol
  begun w symbols = word (words.Store w) ∷ sign OpenParen ∷ symbols

  abbrev IsReadAs : List Symbol → Names → ℕ → Enclosable → List Symbol → Names → Type 0
  IsReadAs symbols names n x rest later =
      simple_at p (placed P st symbols names n) ≡ Some (x, placed P st rest later (n + own_repeats p.turns (alone x)))

  abbrev as_simple : Option (tree.Assignment × State) → Option (Enclosable × State)
  as_simple o = o >>= λ x. Some (assignment x.0, x.1)

  -- a call from what stands between its parentheses
  enclosed : (w : StoreWord) (symbols rest : List Symbol) (names later : Names) (n : ℕ) (a : tree.Assignment) → n + p.turns ≤ 1024
      → stored p.turns p.depth w (placed P st symbols names (n + p.turns)) ≡ Some (a, placed P st (sign CloseParen ∷ rest) later (n + p.turns))
      → simple_at p (placed P st (begun w symbols) names n) ≡ Some (assignment a, placed P st rest later (n + p.turns))
  unfolding simple_at store_at take_sign
  enclosed w symbols rest names later n a le inside =
      ap (λ (o : Option State). as_simple (o >>= λ u. take_sign OpenParen (others u.symbols) >>= λ l. stored p.turns p.depth w (with_left u l) >>= λ x.
      take_sign CloseParen x.1.symbols >>= λ m. Some (x.0, with_left x.1 m))) (access_there (begun w symbols) names n le)
      ∙ ap (λ (o : Option (tree.Assignment × State)). as_simple (o >>= λ x. take_sign CloseParen x.1.symbols >>= λ m. Some (x.0, with_left x.1 m))) inside

  pure_there : (symbols rest : List Symbol) (names later : Names) (n : ℕ) (value : tree.Pure) → Differ names → n ≤ 1024 → Follows 7 rest
      → Pure P p.depth names symbols value rest later → pure_at p.turns p.depth (placed P st symbols names n) ≡ Some (value, placed P st rest later n)
  pure_there symbols rest names later n value differ le follows spelled =
      pure_is_read P st p.turns apart p.depth names later symbols rest value n differ spelled follows le

  written_there : (takes : Takes) (form : WriteForm) (name : List ℕ) (variable : ℕ) (symbols rest : List Symbol) (names later : Names) (n : ℕ)
      (value : tree.Pure)
      → take_variable takes (placed P st (identifier name ∷ sign Comma ∷ symbols) names n) ≡ Some (variable, placed P st (sign Comma ∷ symbols) names n)
      → pure_at p.turns p.depth (placed P st symbols names n) ≡ Some (value, placed P st rest later n)
      → written p.turns p.depth takes form (placed P st (identifier name ∷ sign Comma ∷ symbols) names n) ≡ Some
      (tree.write form variable value, placed P st rest later n)
  unfolding written take_sign
  written_there takes form name variable symbols rest names later n value named inside =
      ap (λ (o : Option (ℕ × State)). o >>= λ v. take_sign Comma v.1.symbols >>= λ l. pure_at p.turns p.depth (with_left v.1 l) >>= λ z. Some
      (tree.write form v.0 z.0, z.1)) named
      ∙ ap (λ (o : Option (tree.Pure × State)). o >>= λ z. Some (tree.write form variable z.0, z.1)) inside

  once_there : (name : List ℕ) (symbols rest : List Symbol) (names later : Names) (n : ℕ) (a : tree.Assignment)
      → written p.turns p.depth Integers writes.Once (placed P st (identifier name ∷ symbols) names n) ≡ Some (a, placed P st rest later n)
      → stored p.turns p.depth (stores.Write writes.Once) (placed P st (sign Star ∷ identifier name ∷ symbols) names n) ≡ Some (a, placed P st rest later n)
  unfolding stored write
  once_there name symbols rest names later n a inside =
      ap (λ (o : Option State). o >>= λ u. written p.turns p.depth Integers writes.Once u) (star_there P st p.turns apart
      (identifier name ∷ symbols) names n) ∙ inside

  add_there : (name : List ℕ) (variable : ℕ) (symbols rest : List Symbol) (names later : Names) (n : ℕ) (value : tree.Pure)
      → pure_at p.turns p.depth (placed P st symbols names n) ≡ Some (value, placed P st (sign Comma ∷ identifier name ∷ rest) later n)
      → take_variable Atomics (placed P st (identifier name ∷ rest) later n) ≡ Some (variable, placed P st rest later n)
      → stored p.turns p.depth stores.Add (placed P st symbols names n) ≡ Some (tree.atomic_add value variable, placed P st rest later n)
  unfolding stored take_sign
  add_there name variable symbols rest names later n value inside named =
      ap (λ (o : Option (tree.Pure × State)). o >>= λ z. take_sign Comma z.1.symbols >>= λ l. take_variable Atomics (with_left z.1 l) >>= λ v. Some
      (tree.atomic_add z.0 v.0, v.1)) inside
      ∙ ap (λ (o : Option (ℕ × State)). o >>= λ v. Some (tree.atomic_add value v.0, v.1)) named

  -- ---- `* VAR` and what stands behind it

  behind_star : (name : List ℕ) (variable : ℕ) (symbols : List Symbol) (names : Names) (n : ℕ) (x : Option (Enclosable × State))
      → IsVariable P IsInteger name variable → n + p.turns ≤ 1024
      → behind_variable p variable (placed P st symbols names (n + p.turns)) ≡ x
      → simple_at p (placed P st (sign Star ∷ identifier name ∷ symbols) names n) ≡ x
  unfolding simple_at starred
  behind_star name variable symbols names n x is le behind =
      ap (λ (o : Option State). o >>= λ c. take_star c >>= λ u. take_variable Integers u >>= λ v. behind_variable p v.0 v.1)
      (access_there (sign Star ∷ identifier name ∷ symbols) names n le)
      ∙ ap (λ (o : Option State). o >>= λ u. take_variable Integers u >>= λ v. behind_variable p v.0 v.1)
      (star_there P st p.turns apart (identifier name ∷ symbols) names (n + p.turns))
      ∙ ap (λ (o : Option (ℕ × State)). o >>= λ v. behind_variable p v.0 v.1) (integer_back P st apart name variable is symbols names (n + p.turns))
      ∙ behind

  assigned_there : (variable : ℕ) (symbols rest : List Symbol) (names later : Names) (n : ℕ) (value : tree.Pure)
      → pure_at p.turns p.depth (placed P st symbols names n) ≡ Some (value, placed P st rest later n)
      → behind_variable p variable (placed P st (sign Assign ∷ symbols) names n) ≡ Some (
        assignment
            (tree.write writes.Plain variable value),
        placed P st rest later n,
      )
  assigned_there variable symbols rest names later n value inside =
      ap (λ (o : Option (tree.Pure × State)). o >>= λ z. Some (assignment (tree.write writes.Plain variable z.0), z.1)) inside

  more_there : (variable : ℕ) (symbols rest : List Symbol) (names later : Names) (n : ℕ) (value : tree.Pure)
      → pure_at p.turns p.depth (placed P st symbols names n) ≡ Some (value, placed P st rest later n)
      → behind_variable p variable (placed P st (sign AddAssign ∷ symbols) names n) ≡ Some (assignment (tree.add variable value), placed P st rest later n)
  more_there variable symbols rest names later n value inside =
      ap (λ (o : Option (tree.Pure × State)). o >>= λ z. Some (assignment (tree.add variable z.0), z.1)) inside

  alone_there : (variable : ℕ) (rest : List Symbol) (names : Names) (n : ℕ) → EndsSimple rest
      → behind_variable p variable (placed P st rest names n) ≡ Some (load (bare (tree.read reads.Plain variable)), placed P st rest names n)
  alone_there variable rest names n ends =
      let s = placed P st rest names n in
      ap (λ (b : Bool). cond b (pure_at p.turns p.depth (after s) >>= λ z. Some (assignment (tree.write writes.Plain variable z.0), z.1))
      (cond (is_sign AddAssign (first rest)) (pure_at p.turns p.depth (after s) >>= λ z. Some (assignment (tree.add variable z.0), z.1))
      (Some (load (bare (tree.read reads.Plain variable)), s)))) ends.no_assign
      ∙ ap (λ (b : Bool). cond b (pure_at p.turns p.depth (after s) >>= λ z. Some (assignment (tree.add variable z.0), z.1))
      (Some (load (bare (tree.read reads.Plain variable)), s))) ends.no_add

  incremented_there : (name : List ℕ) (variable : ℕ) (rest : List Symbol) (names : Names) (n : ℕ) → IsVariable P IsInteger name variable → n + p.turns ≤ 1024
      → simple_at p (placed P st (sign OpenParen ∷ sign Star ∷ identifier name ∷ sign CloseParen ∷ sign Increment ∷ rest) names n)
      ≡ Some (assignment (tree.increment variable), placed P st rest names (n + p.turns))
  unfolding simple_at increment take_sign
  incremented_there name variable rest names n is le =
      let behind : List Symbol = sign CloseParen ∷ sign Increment ∷ rest in
      ap (λ (o : Option State). o >>= λ c. take_sign OpenParen c.symbols >>= λ l. take_star (with_left c l) >>= λ u. take_variable Integers u >>= λ v.
      take_sign CloseParen v.1.symbols >>= λ m. take_sign Increment m >>= λ k. Some (assignment (tree.increment v.0), with_left v.1 k))
      (access_there (sign OpenParen ∷ sign Star ∷ identifier name ∷ behind) names n le)
      ∙ ap (λ (o : Option State). o >>= λ u. take_variable Integers u >>= λ v.
      take_sign CloseParen v.1.symbols >>= λ m. take_sign Increment m >>= λ k. Some (assignment (tree.increment v.0), with_left v.1 k))
      (star_there P st p.turns apart (identifier name ∷ behind) names (n + p.turns))
      ∙ ap (λ (o : Option (ℕ × State)). o >>= λ v. take_sign CloseParen v.1.symbols >>= λ m. take_sign Increment m >>= λ k.
      Some (assignment (tree.increment v.0), with_left v.1 k)) (integer_back P st apart name variable is behind names (n + p.turns))

  -- ---- registers

  not_counted : (counters : List ℕ) (register : ℕ) (b : Bool) → is_counter p.counters register ≡ b → AreCounters p.counters counters
      → ¬ Contains counters register → b ≡ false
  not_counted counters register true is are out = absurd (out (are.listed register is))
  not_counted counters register false is are out = refl

  changed_there : (counters : List ℕ) (name : List ℕ) (register : ℕ) (names later : Names) (rest : List Symbol) (n : ℕ) → AreCounters p.counters counters
      → Differ names
      → IsChanged P counters names name register later
      → take_changed p.counters (placed P st (identifier name ∷ rest) names n) ≡ Some (register, placed P st rest later n)
  unfolding take_changed
  changed_there counters name register names later rest n are differ is =
      ap (λ (o : Option (ℕ × State)). o >>= λ r. cond (is_counter p.counters r.0) None (Some (r.0, after r.1)))
      (register_back P st apart name register names later rest n differ is.is)
      ∙ ap (λ (b : Bool). cond b None (Some (register, placed P st rest later n))) (not_counted counters register
      (is_counter p.counters register) refl are is.counts_none)

  given_there : (name : List ℕ) (register : ℕ) (symbols rest : List Symbol) (names between later : Names) (n m : ℕ) (value : tree.Expression)
      → take_changed p.counters (placed P st (identifier name ∷ sign Assign ∷ symbols) names n) ≡ Some (register, placed P st (sign Assign ∷ symbols) between n)
      → expression_at p.turns p.depth (placed P st symbols between n) ≡ Some (value, placed P st rest later m)
      → simple_at p (placed P st (identifier name ∷ sign Assign ∷ symbols) names n) ≡ Some (
        assignment
            (tree.to_register register value),
        placed P st rest later m,
      )
  unfolding simple_at register_assignment take_sign
  given_there name register symbols rest names between later n m value changed inside =
      ap (λ (o : Option (ℕ × State)). as_simple (o >>= λ r. take_sign Assign r.1.symbols >>= λ l. expression_at p.turns p.depth (with_left r.1 l) >>= λ z.
      Some (tree.to_register r.0 z.0, z.1))) changed
      ∙ ap (λ (o : Option (tree.Expression × State)). as_simple (o >>= λ z. Some (tree.to_register register z.0, z.1))) inside

  -- ---- loads

  loaded_there : (symbols rest : List Symbol) (names later : Names) (n : ℕ) (l : tree.Load) → start_of (first symbols) ≡ a_load → Differ names
      → n + p.turns ≤ 1024
      → Load P p.depth names symbols l rest later → simple_at p (placed P st symbols names n) ≡ Some (load l, placed P st rest later (n + p.turns))
  unfolding simple_at
  loaded_there symbols rest names later n l starts differ le spelled =
      ap (simple_with p (placed P st symbols names n)) starts
      ∙ ap (λ (o : Option (tree.Load × State)). o >>= λ x. Some (load x.0, x.1))
      (load_is_read P st p.turns apart p.depth names later symbols rest l n differ spelled le)

  -- ---- each rule

  pub simple_is_read : (counters : List ℕ) (n : ℕ) {names later : Names} {symbols rest : List Symbol} {x : Enclosable} → AreCounters p.counters counters
      → Differ names → EndsSimple rest
      → n + own_repeats p.turns (alone x) ≤ 1024 → Simple P p.depth counters names symbols x rest later → IsReadAs symbols names n x rest later
  unfolding stored write
  simple_is_read counters n are differ ends le
      (grammar.to_register {register = r} {before = names} {between = between} {after = later} {symbols = symbols} {rest = rest} {name = name}
      {value = value} is spelled) =
      let count = register_accesses p.turns r value in
      subst (λ (m : ℕ). simple_at p (placed P st (identifier name ∷ sign Assign ∷ symbols) names n) ≡ Some (
        assignment
            (tree.to_register r value),
        placed P st rest later (n + m),
      )) (sym count)
      (given_there name r symbols rest names between later n (n + accesses p.turns value) value
      (changed_there counters name r names between (sign Assign ∷ symbols) n are differ is)
      (expression_read P st p.turns apart p.depth between later symbols rest value n
      (numbered_differ name r names between differ is.is.numbered) spelled ends.follows (omega (arith, le, count))))
  simple_is_read counters n are differ ends le (grammar.a_load (expressions.plain {variable = x} {before = names} {rest = rest} {name = name} is)) =
      behind_star name x rest names n (Some (load (bare (tree.read reads.Plain x)), placed P st rest names (n + p.turns))) is le (alone_there x rest names
      (n + p.turns) ends)
  simple_is_read counters n are differ ends le (grammar.a_load (expressions.once is)) =
      loaded_there _ _ _ _ n _ refl differ le (expressions.once is)
  simple_is_read counters n are differ ends le (grammar.a_load (expressions.acquire is)) =
      loaded_there _ _ _ _ n _ refl differ le (expressions.acquire is)
  simple_is_read counters n are differ ends le (grammar.a_load (expressions.atomic is)) =
      loaded_there _ _ _ _ n _ refl differ le (expressions.atomic is)
  simple_is_read counters n are differ ends le (grammar.a_load (expressions.exchange is value)) =
      loaded_there _ _ _ _ n _ refl differ le (expressions.exchange is value)
  simple_is_read counters n are differ ends le (grammar.a_load (expressions.compare_exchange is expected value)) =
      loaded_there _ _ _ _ n _ refl differ le (expressions.compare_exchange is expected value)
  simple_is_read counters n are differ ends le (grammar.a_load (expressions.enclosed inner)) =
      loaded_there _ _ _ _ n _ refl differ le (expressions.enclosed inner)
  simple_is_read counters n are differ ends le
      (grammar.write {variable = x} {before = names} {after = later} {symbols = symbols} {rest = rest} {name = name} {value = value} is spelled) =
      behind_star name x (sign Assign ∷ symbols) names n (Some (assignment (tree.write writes.Plain x value), placed P st rest later (n + p.turns))) is le
      (assigned_there x symbols rest names later (n + p.turns) value (pure_there symbols rest names later (n + p.turns) value differ le ends.follows spelled))
  simple_is_read counters n are differ ends le
      (grammar.add {variable = x} {before = names} {after = later} {symbols = symbols} {rest = rest} {name = name} {value = value} is spelled) =
      behind_star name x (sign AddAssign ∷ symbols) names n (Some (assignment (tree.add x value), placed P st rest later (n + p.turns))) is le
      (more_there x symbols rest names later (n + p.turns) value (pure_there symbols rest names later (n + p.turns) value differ le ends.follows spelled))
  simple_is_read counters n are differ ends le
      (grammar.increment {variable = x} {before = names} {rest = rest} {name = name} is) = incremented_there name x rest names n is le
  simple_is_read counters n are differ ends le
      (grammar.write_once {variable = x} {before = names} {after = later} {symbols = symbols} {rest = rest} {name = name} {value = value} is spelled) =
      enclosed (stores.Write writes.Once) (sign Star ∷ identifier name ∷ sign Comma ∷ symbols) rest names later n (tree.write writes.Once x value) le
      (once_there name (sign Comma ∷ symbols) (sign CloseParen ∷ rest) names later (n + p.turns) (tree.write writes.Once x value)
      (written_there Integers writes.Once name x symbols (sign CloseParen ∷ rest) names later (n + p.turns) value
      (integer_back P st apart name x is (sign Comma ∷ symbols) names (n + p.turns))
      (pure_there symbols (sign CloseParen ∷ rest) names later (n + p.turns) value differ le (follows_close rest) spelled)))
  simple_is_read counters n are differ ends le
      (grammar.release {variable = x} {before = names} {after = later} {symbols = symbols} {rest = rest} {name = name} {value = value} is spelled) =
      enclosed (stores.Write writes.Release) (identifier name ∷ sign Comma ∷ symbols) rest names later n (tree.write writes.Release x value) le
      (written_there Integers writes.Release name x symbols (sign CloseParen ∷ rest) names later (n + p.turns) value
      (integer_back P st apart name x is (sign Comma ∷ symbols) names (n + p.turns))
      (pure_there symbols (sign CloseParen ∷ rest) names later (n + p.turns) value differ le (follows_close rest) spelled))
  simple_is_read counters n are differ ends le
      (grammar.atomic_set {variable = x} {before = names} {after = later} {symbols = symbols} {rest = rest} {name = name} {value = value} is spelled) =
      enclosed (stores.Write writes.Atomic) (identifier name ∷ sign Comma ∷ symbols) rest names later n (tree.write writes.Atomic x value) le
      (written_there Atomics writes.Atomic name x symbols (sign CloseParen ∷ rest) names later (n + p.turns) value
      (atomic_back P st apart name x is (sign Comma ∷ symbols) names (n + p.turns))
      (pure_there symbols (sign CloseParen ∷ rest) names later (n + p.turns) value differ le (follows_close rest) spelled))
  simple_is_read counters n are differ ends le
      (grammar.atomic_add {variable = x} {before = names} {after = later} {symbols = symbols} {rest = rest} {name = name} {value = value} spelled is) =
      enclosed stores.Add symbols rest names later n (tree.atomic_add value x) le
      (add_there name x symbols (sign CloseParen ∷ rest) names later (n + p.turns) value
      (pure_there symbols (sign Comma ∷ identifier name ∷ sign CloseParen ∷ rest) names later (n + p.turns) value differ le (follows_comma
      (identifier name ∷ sign CloseParen ∷ rest)) spelled)
      (atomic_back P st apart name x is (sign CloseParen ∷ rest) later (n + p.turns)))
  simple_is_read counters n are differ ends le (grammar.atomic_increment {variable = x} {before = names} {rest = rest} {name = name} is) =
      enclosed stores.Increment (identifier name ∷ sign CloseParen ∷ rest) rest names names n (tree.atomic_increment x) le
      (ap (λ (o : Option (ℕ × State)). o >>= λ v. Some (tree.atomic_increment v.0, v.1)) (atomic_back P st apart name x is (sign CloseParen ∷ rest) names
      (n + p.turns)))
  simple_is_read counters n are differ ends le (grammar.atomic_decrement {variable = x} {before = names} {rest = rest} {name = name} is) =
      enclosed stores.Decrement (identifier name ∷ sign CloseParen ∷ rest) rest names names n (tree.atomic_decrement x) le
      (ap (λ (o : Option (ℕ × State)). o >>= λ v. Some (tree.atomic_decrement v.0, v.1)) (atomic_back P st apart name x is (sign CloseParen ∷ rest) names
      (n + p.turns)))
