-- What is spelled as a proposition is read so, whatever follows it that can't continue it.
use Rattle.std.proofs.Common.{◌≡◌, ◌∙◌, ℕ, zero, suc, ◌+◌, ◌-◌, ◌<◌, ◌≤◌, ◌==◌, nat_lt, List, [], ◌∷◌, Bool, true, false, cond, get_or}
use Rattle.std.proofs.Common.{Option, Some, None, refl, sym, ap, subst, arith, eq-eqb}
use Rattle.std.specs.Prelude.{set, slice_get}
use Rattle.std.proofs.lemmas.Bool.{eqb-true, lt-ltb}
use Rattle.litmus_lex.specs.declared.sign.Sign.{Sign}
use Rattle.litmus_lex.specs.declared.sign.Sign.TheVariants.{OpenParen, CloseParen, OpenBracket, CloseBracket, Colon, Assign, Tilde}
use Rattle.litmus_lex.specs.declared.sign.Sign.TheVariants.{Conjunction, Disjunction}
use Rattle.litmus_syntax.specs.Limits.{connectives}
use Rattle.litmus_syntax.specs.Tree as tree
use Rattle.litmus_lex.specs.declared.words.Word.TheVariants as words
use Rattle.litmus_lex.specs.Front.{◌>>=◌, first, is_sign, others, sign_number, take_sign, take_signed}
use Rattle.litmus_lex.specs.Words.{Symbol, word, identifier, sign}
use Rattle.litmus_expression.specs.NameReader.{index_of, take_register}
use Rattle.litmus_expression.specs.Names.{IsRegister, Names}
use Rattle.litmus_expression.specs.States.{State, after}
use Rattle.litmus_expression.proofs.Complete.{numbered_differ, placed, register_back}
use Rattle.litmus_expression.proofs.Taken.{same_given}
use Rattle.litmus_parse.specs.ConditionReader.{given_value}
use Rattle.litmus_parse.specs.Conditions as grammar
use Rattle.litmus_parse.specs.Conditions.{Atom, Conjoined, Disjoined, IsKnown, Negation, with_registers}
use Rattle.litmus_parse.specs.Distinct.{AllDistinct, Distinct}
use Rattle.litmus_parse.specs.ProcessHeaders.{Process, Signed}
use Rattle.litmus_parse.specs.Mentions.{Mention}
use Rattle.litmus_parse.specs.Seen.{process_of, seen}
use Rattle.litmus_parse.specs.PropositionReader.{Asked, and_more_at, asked_behind, asked_past, at_the_end, atom_at, behind_bracket}
use Rattle.litmus_parse.specs.PropositionReader.{conjunction_at, disjunction_at, inside_by, negation_at, or_more_at, readers}
use Rattle.litmus_parse.specs.PropositionReader.{register_atom, register_in, register_with, take_connective, variable_atom, whole_at}
use Rattle.litmus_parse.specs.VariableReader.{known_variable, unless_lock}
use Rattle.litmus_parse.proofs.PropositionSound.{seen_set}
use Rattle.litmus_parse.proofs.PropositionUnrolled.{Found, and_more_unrolls, conjunction_unrolls, disjunction_unrolls, negation_unrolls, or_more_unrolls}
use Rattle.litmus_parse.proofs.Values.{signed_read}

-- ---- the front

pub sign_there : (s : Sign) (rest : List Symbol) → take_sign s (sign s ∷ rest) ≡ Some rest
unfolding take_sign
sign_there s rest = ap (λ (b : Bool). cond b (Some rest) None) (eq-eqb (sign_number s) (sign_number s) refl)

pub value_there : {symbols rest : List Symbol} {value : ℕ} → Signed symbols value rest → given_value (sign Assign ∷ symbols) ≡ Some (value, rest)
unfolding given_value
value_there {symbols} spelled = ap (λ (o : Option (List Symbol)). o >>= λ l. take_signed l) (sign_there Assign symbols) ∙ signed_read spelled

-- ---- processes of which each has names that differ

distinct_there : (states : List State) (task : ℕ) (s : State) → AllDistinct states → slice_get states task ≡ Some s → Distinct s
distinct_there [] task s apart e = absurd cc
distinct_there (t ∷ states) zero s apart e = subst (λ (u : State). Distinct u) (same_given t s e) apart.0
distinct_there (t ∷ states) (suc task) s apart e = distinct_there states task s apart.1 e

distinct_set : (states : List State) (task : ℕ) (s : State) → AllDistinct states → Distinct s → AllDistinct (set states task s)
distinct_set [] task s apart is = tt
distinct_set (t ∷ states) zero s apart is = (is, apart.1)
distinct_set (t ∷ states) (suc task) s apart is = (apart.0, distinct_set states task s apart.1 is)

-- a process that is seen is one of a state
record Behind (states : List State) (bodies : List tree.Block) (task : ℕ) (process : Process) : Type 0 where
  state : State
  there : slice_get states task ≡ Some state
  is : process ≡ process_of state (get_or bodies task tree.empty)

seen_back : (states : List State) (bodies : List tree.Block) (task : ℕ) (process : Process) → slice_get (seen states bodies) task ≡ Some process
    → Behind states bodies task process
seen_back [] bodies task process e = absurd cc
seen_back (t ∷ states) [] zero process e = record { state = t; there = refl; is = sym (same_given (process_of t tree.empty) process e) }
seen_back (t ∷ states) [] (suc task) process e = let b = seen_back states [] task process e in record { state = b.state; there = b.there; is = b.is }
seen_back (t ∷ states) (b ∷ bodies) zero process e = record { state = t; there = refl; is = sym (same_given (process_of t b) process e) }
seen_back (t ∷ states) (b ∷ bodies) (suc task) process e = let r = seen_back states bodies task process e in record { state = r.state; there = r.there; is = r.is }

-- ---- the parts of what is asked

abbrev pub asked : List Symbol → List State → ℕ → Asked
asked symbols states operators = record { symbols = symbols; states = states; operators = operators }

-- processes behind what is read
pub record Then (read : List State → Type 0) (bodies : List tree.Block) (later : List Process) : Type 0 where
  pub states : List State
  pub reads : read states
  pub are : seen states bodies ≡ later
  pub apart : AllDistinct states

-- a register is taken, and its process has it
abbrev taken_after : Option (ℕ × State) → Option (ℕ × State)
taken_after o = o >>= λ y. Some (y.0, after y.1)

abbrev put_back : (task : ℕ) → List State → ℕ → Option (ℕ × State) → Option (ℕ × Asked)
put_back task states m o = o >>= λ r. Some (r.0, asked r.1.symbols (set states task r.1) m)

-- REG of a process in its place
register_there : (bodies : List tree.Block) (before : List Process) (states : List State) (task register m : ℕ) (process : Process) (name : List ℕ)
    (registers : Names) (rest : List Symbol) → seen states bodies ≡ before → AllDistinct states → slice_get before task ≡ Some process
    → IsRegister process.parameters process.registers name register registers
    → Then (λ later. register_in task (asked (identifier name ∷ rest) states m) ≡ Some (register, asked rest later m)) bodies
    (set before task (with_registers process registers))
unfolding register_in take_register
register_there bodies before states task register m process name registers rest are apart there is =
    let b = seen_back states bodies task process (ap (λ (l : List Process). slice_get l task) are ∙ there) in
    let s : State = b.state in
    let g = distinct_there states task s apart b.there in
    let of_state : IsRegister s.parameters s.names name register registers =
    subst (λ (p : Process). IsRegister p.parameters p.registers name register registers) b.is is in
    let u : State = placed s.parameters s.statements rest registers s.repeats in
    record {
      states = set states task u;
      reads = ap (λ (o : Option State). o >>= λ v. register_with task (asked (identifier name ∷ rest) states m) v) b.there
          ∙ ap (λ (o : Option (ℕ × State)). put_back task states m (taken_after o))
          (register_back s.parameters s.statements g.0 name register s.names registers rest s.repeats g.1 of_state);
      are = seen_set states bodies task u
          ∙ ap (λ (l : List Process). set l task (process_of u (get_or bodies task tree.empty))) are
          ∙ ap (λ (p : Process). set before task (with_registers p registers)) (sym b.is);
      apart = distinct_set states task u apart (g.0, numbered_differ name register s.names registers g.1 of_state.numbered);
    }

-- the operator that is next is taken
connective_there : (symbols : List Symbol) (states : List State) (n m : ℕ) → n ≡ m + 1 → take_connective (asked symbols states n)
    ≡ Some (asked (others symbols) states m)
unfolding take_connective
connective_there symbols states n m is =
    let some : (n == 0) ≡ false = grind (arith, eqb-true n 0) in
    let fewer : n - 1 ≡ m = omega arith in
    ap (λ (b : Bool). cond b None (Some (asked (others symbols) states (n - 1)))) some
    ∙ ap (λ (k : ℕ). Some (asked (others symbols) states k)) fewer

module _ (mentions : List Mention) (names : Names) (locks : List Bool) (bodies : List tree.Block)
    (is_open : (name : List ℕ) (v : ℕ) → IsKnown mentions names name v → (index_of names name ≡ Some v) × (get_or locks v false ≡ false)) where
  known_there : (name : List ℕ) (v : ℕ) (rest : List Symbol) → IsKnown mentions names name v
      → known_variable names locks (identifier name ∷ rest) ≡ Some (v, rest)
  unfolding known_variable
  known_there name v rest is =
      let o = is_open name v is in
      ap (λ (p : Option ℕ). unless_lock locks (identifier name ∷ rest) p) o.0
      ∙ ap (λ (b : Bool). cond b None (Some (v, rest))) o.1

  variable_there : (name : List ℕ) (v value n : ℕ) (symbols rest : List Symbol) (states : List State) → IsKnown mentions names name v
      → Signed symbols value rest
      → variable_atom names locks false (asked (identifier name ∷ sign Assign ∷ symbols) states n)
      ≡ Some (tree.variable_is v value, asked rest states n)
  unfolding variable_atom
  variable_there name v value n symbols rest states is spelled =
      ap (λ (o : Option (ℕ × List Symbol)). o >>= λ v. behind_bracket false v.1 >>= λ l. given_value l >>= λ w.
      Some (tree.variable_is v.0 w.0, asked w.1 states n)) (known_there name v (sign Assign ∷ symbols) is)
      ∙ ap (λ (o : Option (ℕ × List Symbol)). o >>= λ w. Some (tree.variable_is v w.0, asked w.1 states n)) (value_there spelled)

  bracketed_there : (name : List ℕ) (v value n : ℕ) (symbols rest : List Symbol) (states : List State) → IsKnown mentions names name v
      → Signed symbols value rest
      → variable_atom names locks true (asked (identifier name ∷ sign CloseBracket ∷ sign Assign ∷ symbols) states n)
      ≡ Some (tree.variable_is v value, asked rest states n)
  unfolding variable_atom
  bracketed_there name v value n symbols rest states is spelled =
      ap (λ (o : Option (ℕ × List Symbol)). o >>= λ v. behind_bracket true v.1 >>= λ l. given_value l >>= λ w.
      Some (tree.variable_is v.0 w.0, asked w.1 states n)) (known_there name v (sign CloseBracket ∷ sign Assign ∷ symbols) is)
      ∙ ap (λ (o : Option (List Symbol)). o >>= λ l. given_value l >>= λ w. Some (tree.variable_is v w.0, asked w.1 states n))
      (sign_there CloseBracket (sign Assign ∷ symbols))
      ∙ ap (λ (o : Option (ℕ × List Symbol)). o >>= λ w. Some (tree.variable_is v w.0, asked w.1 states n)) (value_there spelled)

  abbrev AtomRead : List Symbol → tree.Proposition → List Symbol → List State → List Process → Type 0
  AtomRead symbols p rest states later =
      (n m : ℕ) → n ≡ m + connectives p → Then (λ after. atom_at names locks (asked symbols states n) ≡ Some (p, asked rest after m)) bodies later

  -- what is read leaves the states as they are
  as_they_are : (symbols rest : List Symbol) (p : tree.Proposition) (states : List State) (before : List Process)
      → ((n : ℕ) → atom_at names locks (asked symbols states n) ≡ Some (p, asked rest states n)) → connectives p ≡ 0
      → seen states bodies ≡ before → AllDistinct states → AtomRead symbols p rest states before
  as_they_are symbols rest p states before reads none are apart = λ n m is. record {
    states = states;
    reads = let same : n ≡ m = omega arith in reads n ∙ ap (λ (k : ℕ). Some (p, asked rest states k)) same;
    are = are;
    apart = apart;
  }

  atom_read : {before later : List Process} {symbols rest : List Symbol} {p : tree.Proposition} → Atom mentions names before symbols p rest later
      → (states : List State) → seen states bodies ≡ before → AllDistinct states → AtomRead symbols p rest states later
  unfolding atom_at register_atom
  atom_read (grammar.always {rest = rest}) states are apart = as_they_are (word words.True ∷ rest) rest tree.always states _ (λ n. refl) refl are apart
  atom_read (grammar.never {rest = rest}) states are apart = as_they_are (word words.False ∷ rest) rest tree.never states _ (λ n. refl) refl are apart
  atom_read (grammar.variable_is {variable = v} {value = value} {name = name} {symbols = symbols} {rest = rest} is spelled) states are apart =
      as_they_are (identifier name ∷ sign Assign ∷ symbols) rest (tree.variable_is v value) states _
      (λ n. variable_there name v value n symbols rest states is spelled) refl are apart
  atom_read (grammar.in_brackets {variable = v} {value = value} {name = name} {symbols = symbols} {rest = rest} is spelled) states are apart =
      as_they_are (sign OpenBracket ∷ identifier name ∷ sign CloseBracket ∷ sign Assign ∷ symbols) rest (tree.variable_is v value) states _
      (λ n. bracketed_there name v value n symbols rest states is spelled) refl are apart
  atom_read (grammar.register_is {before = before} {task = task} {register = register} {value = value} {process = process} {name = name} {registers = registers} {symbols = symbols} {rest = rest} there is spelled) states are apart =
      λ n m fewer.
      let same : n ≡ m = omega arith in
      let r = register_there bodies before states task register n process name registers (sign Assign ∷ symbols) are apart there is in
      record {
        states = r.states;
        reads = ap (λ (o : Option (List Symbol)). o >>= λ l. register_in task (asked l states n) >>= λ r. given_value r.1.symbols >>= λ v.
            Some (tree.register_is task r.0 v.0, asked_behind r.1 v.1)) (sign_there Colon (identifier name ∷ sign Assign ∷ symbols))
            ∙ ap (λ (o : Option (ℕ × Asked)). o >>= λ r. given_value r.1.symbols >>= λ v.
            Some (tree.register_is task r.0 v.0, asked_behind r.1 v.1)) r.reads
            ∙ ap (λ (o : Option (ℕ × List Symbol)). o >>= λ v. Some (tree.register_is task register v.0, asked v.1 r.states n)) (value_there spelled)
            ∙ ap (λ (k : ℕ). Some (tree.register_is task register value, asked rest r.states k)) same;
        are = r.are;
        apart = r.apart;
      }

  -- what begins an atom is no `~` and no `(`
  atom_begins : {before later : List Process} {symbols rest : List Symbol} {p : tree.Proposition} → Atom mentions names before symbols p rest later
      → (is_sign Tilde (first symbols) ≡ false) × (is_sign OpenParen (first symbols) ≡ false)
  atom_begins grammar.always = (refl, refl)
  atom_begins grammar.never = (refl, refl)
  atom_begins (grammar.variable_is is spelled) = (refl, refl)
  atom_begins (grammar.in_brackets is spelled) = (refl, refl)
  atom_begins (grammar.register_is there is spelled) = (refl, refl)

  -- ---- what the loops do

  abbrev or_goes : ℕ → tree.Proposition → Option Asked → Option Found
  or_goes d p o = o >>= λ u. conjunction_at names locks d u >>= λ x. or_more_at names locks d (tree.either p x.0) x.1

  abbrev and_goes : ℕ → tree.Proposition → Option Asked → Option Found
  and_goes d p o = o >>= λ u. negation_at names locks d u >>= λ x. and_more_at names locks d (tree.both p x.0) x.1

  abbrev denied : ℕ → Option Asked → Option Found
  denied d o = o >>= λ u. negation_at names locks d u >>= λ x. Some (tree.negation x.0, x.1)

  or_stops : (d : ℕ) (p : tree.Proposition) (a : Asked) → is_sign Disjunction (first a.symbols) ≡ false → or_more_at names locks d p a
      ≡ Some (p, a)
  or_stops d p a none =
      or_more_unrolls names locks d p a ∙ ap (λ (b : Bool). cond b (or_goes d p (take_connective a)) (Some (p, a))) none

  and_stops : (d : ℕ) (p : tree.Proposition) (a : Asked) → is_sign Conjunction (first a.symbols) ≡ false → and_more_at names locks d p a
      ≡ Some (p, a)
  and_stops d p a none =
      and_more_unrolls names locks d p a ∙ ap (λ (b : Bool). cond b (and_goes d p (take_connective a)) (Some (p, a))) none

  or_joins : (d : ℕ) (p q : tree.Proposition) (middle : List Symbol) (states : List State) (n m : ℕ) (a : Asked) → n ≡ m + 1
      → conjunction_at names locks d (asked middle states m) ≡ Some (q, a)
      → or_more_at names locks d p (asked (sign Disjunction ∷ middle) states n) ≡ or_more_at names locks d (tree.either p q) a
  or_joins d p q middle states n m a one right =
      or_more_unrolls names locks d p (asked (sign Disjunction ∷ middle) states n)
      ∙ ap (λ (o : Option Asked). or_goes d p o) (connective_there (sign Disjunction ∷ middle) states n m one)
      ∙ ap (λ (o : Option Found). o >>= λ x. or_more_at names locks d (tree.either p x.0) x.1) right

  and_joins : (d : ℕ) (p q : tree.Proposition) (middle : List Symbol) (states : List State) (n m : ℕ) (a : Asked) → n ≡ m + 1
      → negation_at names locks d (asked middle states m) ≡ Some (q, a)
      → and_more_at names locks d p (asked (sign Conjunction ∷ middle) states n) ≡ and_more_at names locks d (tree.both p q) a
  and_joins d p q middle states n m a one right =
      and_more_unrolls names locks d p (asked (sign Conjunction ∷ middle) states n)
      ∙ ap (λ (o : Option Asked). and_goes d p o) (connective_there (sign Conjunction ∷ middle) states n m one)
      ∙ ap (λ (o : Option Found). o >>= λ x. and_more_at names locks d (tree.both p x.0) x.1) right

  not_joins : (d : ℕ) (p : tree.Proposition) (symbols : List Symbol) (states : List State) (n m : ℕ) (a : Asked) → n ≡ m + 1
      → negation_at names locks d (asked symbols states m) ≡ Some (p, a)
      → negation_at names locks d (asked (sign Tilde ∷ symbols) states n) ≡ Some (tree.negation p, a)
  not_joins d p symbols states n m a one inside =
      negation_unrolls names locks d (asked (sign Tilde ∷ symbols) states n)
      ∙ ap (λ (o : Option Asked). denied d o) (connective_there (sign Tilde ∷ symbols) states n m one)
      ∙ ap (λ (o : Option Found). o >>= λ x. Some (tree.negation x.0, x.1)) inside

  abbrev closed_behind : Option Found → Option Found
  closed_behind o = o >>= λ x. take_sign CloseParen x.1.symbols >>= λ l. Some (x.0, asked_behind x.1 l)

  parentheses_join : (d : ℕ) (p : tree.Proposition) (symbols rest : List Symbol) (states after : List State) (n m : ℕ) → d < 16
      → disjunction_at names locks (suc d) (asked symbols states n) ≡ Some (p, asked (sign CloseParen ∷ rest) after m)
      → negation_at names locks d (asked (sign OpenParen ∷ symbols) states n) ≡ Some (p, asked rest after m)
  parentheses_join d p symbols rest states after n m lt inside =
      let deeper : d + 1 ≡ suc d = omega arith in
      negation_unrolls names locks d (asked (sign OpenParen ∷ symbols) states n)
      ∙ ap (λ (b : Bool). cond b (closed_behind (disjunction_at names locks (d + 1) (asked symbols states n))) None) (lt-ltb d 16 lt)
      ∙ ap (λ (k : ℕ). closed_behind (disjunction_at names locks k (asked symbols states n))) deeper
      ∙ ap (λ (o : Option Found). closed_behind o) inside
      ∙ ap (λ (o : Option (List Symbol)). o >>= λ l. Some (p, asked l after m)) (sign_there CloseParen rest)

  atom_joins : (d : ℕ) (a : Asked) (x : Found) → is_sign Tilde (first a.symbols) ≡ false → is_sign OpenParen (first a.symbols) ≡ false
      → atom_at names locks a ≡ Some x → negation_at names locks d a ≡ Some x
  atom_joins d a x plain none is =
      negation_unrolls names locks d a
      ∙ ap (λ (b : Bool). cond b (denied d (take_connective a)) (cond (is_sign OpenParen (first a.symbols))
      (cond (nat_lt d 16) (inside_by (readers names locks) d (asked_past a)) None) (atom_at names locks a))) plain
      ∙ ap (λ (b : Bool). cond b (cond (nat_lt d 16) (inside_by (readers names locks) d (asked_past a)) None) (atom_at names locks a)) none
      ∙ is

  -- ---- how far a reader has come

  abbrev DisjoinedReached : ℕ → List Symbol → tree.Proposition → List Symbol → List State → List Process → Type 0
  DisjoinedReached d symbols p rest states later =
      (n m : ℕ) → n ≡ m + connectives p → is_sign Conjunction (first rest) ≡ false
      → Then (λ after. disjunction_at names locks d (asked symbols states n) ≡ or_more_at names locks d p (asked rest after m)) bodies later

  abbrev ConjoinedReached : ℕ → List Symbol → tree.Proposition → List Symbol → List State → List Process → Type 0
  ConjoinedReached d symbols p rest states later =
      (n m : ℕ) → n ≡ m + connectives p
      → Then (λ after. conjunction_at names locks d (asked symbols states n) ≡ and_more_at names locks d p (asked rest after m)) bodies later

  abbrev NegationRead : ℕ → List Symbol → tree.Proposition → List Symbol → List State → List Process → Type 0
  NegationRead d symbols p rest states later =
      (n m : ℕ) → n ≡ m + connectives p
      → Then (λ after. negation_at names locks d (asked symbols states n) ≡ Some (p, asked rest after m)) bodies later

  conjoined_ends : (d n m : ℕ) (symbols rest : List Symbol) (p : tree.Proposition) (states : List State) (later : List Process)
      → ConjoinedReached d symbols p rest states later → n ≡ m + connectives p → is_sign Conjunction (first rest) ≡ false
      → Then (λ after. conjunction_at names locks d (asked symbols states n) ≡ Some (p, asked rest after m)) bodies later
  conjoined_ends d n m symbols rest p states later reached counted ends =
      let r = reached n m counted in
      record { states = r.states; reads = r.reads ∙ and_stops d p (asked rest r.states m) ends; are = r.are; apart = r.apart }

  disjoined_ends : (d n m : ℕ) (symbols rest : List Symbol) (p : tree.Proposition) (states : List State) (later : List Process)
      → DisjoinedReached d symbols p rest states later → n ≡ m + connectives p → is_sign Conjunction (first rest) ≡ false
      → is_sign Disjunction (first rest) ≡ false
      → Then (λ after. disjunction_at names locks d (asked symbols states n) ≡ Some (p, asked rest after m)) bodies later
  disjoined_ends d n m symbols rest p states later reached counted ends last =
      let r = reached n m counted ends in
      record { states = r.states; reads = r.reads ∙ or_stops d p (asked rest r.states m) last; are = r.are; apart = r.apart }

  mutual
    disjoined_reached : {d : ℕ} {before later : List Process} {symbols rest : List Symbol} {p : tree.Proposition}
        → Disjoined mentions names d before symbols p rest later
        → (states : List State) → seen states bodies ≡ before → AllDistinct states → DisjoinedReached d symbols p rest states later
    disjoined_reached (grammar.conjunction {depth = d} {after = later} {symbols = symbols} {rest = rest} {a = p} c) states are apart = λ n m counted ends.
        let r = conjoined_ends d n m symbols rest p states later (conjoined_reached c states are apart) counted ends in
        record {
          states = r.states;
          reads = disjunction_unrolls names locks d (asked symbols states n)
              ∙ ap (λ (o : Option Found). o >>= λ x. or_more_at names locks d x.0 x.1) r.reads;
          are = r.are;
          apart = r.apart;
        }
    disjoined_reached (grammar.or {depth = d} {after = later} {symbols = symbols} {middle = middle} {rest = rest} {a = p} {b = q} l c) states are apart = λ n m counted ends.
        let k : ℕ = m + connectives q in
        let r = disjoined_reached l states are apart n (k + 1) (omega (arith, counted)) refl in
        let s = conjoined_ends d k m middle rest q r.states later (conjoined_reached c r.states r.are r.apart) refl ends in
        record {
          states = s.states;
          reads = r.reads ∙ or_joins d p q middle r.states (k + 1) k (asked rest s.states m) refl s.reads;
          are = s.are;
          apart = s.apart;
        }

    conjoined_reached : {d : ℕ} {before later : List Process} {symbols rest : List Symbol} {p : tree.Proposition}
        → Conjoined mentions names d before symbols p rest later
        → (states : List State) → seen states bodies ≡ before → AllDistinct states → ConjoinedReached d symbols p rest states later
    conjoined_reached (grammar.negation {depth = d} {symbols = symbols} c) states are apart = λ n m counted.
        let r = negation_read c states are apart n m counted in
        record {
          states = r.states;
          reads = conjunction_unrolls names locks d (asked symbols states n)
              ∙ ap (λ (o : Option Found). o >>= λ x. and_more_at names locks d x.0 x.1) r.reads;
          are = r.are;
          apart = r.apart;
        }
    conjoined_reached (grammar.and {depth = d} {symbols = symbols} {middle = middle} {rest = rest} {a = p} {b = q} l c) states are apart = λ n m counted.
        let k : ℕ = m + connectives q in
        let r = conjoined_reached l states are apart n (k + 1) (omega (arith, counted)) in
        let s = negation_read c r.states r.are r.apart k m refl in
        record {
          states = s.states;
          reads = r.reads ∙ and_joins d p q middle r.states (k + 1) k (asked rest s.states m) refl s.reads;
          are = s.are;
          apart = s.apart;
        }

    negation_read : {d : ℕ} {before later : List Process} {symbols rest : List Symbol} {p : tree.Proposition}
        → Negation mentions names d before symbols p rest later
        → (states : List State) → seen states bodies ≡ before → AllDistinct states → NegationRead d symbols p rest states later
    negation_read (grammar.atom {depth = d} {symbols = symbols} {rest = rest} {a = p} x) states are apart = λ n m counted.
        let r = atom_read x states are apart n m counted in
        let begins = atom_begins x in
        record {
          states = r.states;
          reads = atom_joins d (asked symbols states n) (p, asked rest r.states m) begins.0 begins.1 r.reads;
          are = r.are;
          apart = r.apart;
        }
    negation_read (grammar.not {depth = d} {symbols = symbols} {rest = rest} {a = p} c) states are apart = λ n m counted.
        let k : ℕ = m + connectives p in
        let r = negation_read c states are apart k m refl in
        record {
          states = r.states;
          reads = not_joins d p symbols states n k (asked rest r.states m) (omega (arith, counted)) r.reads;
          are = r.are;
          apart = r.apart;
        }
    negation_read (grammar.parenthesized {depth = d} {after = later} {symbols = symbols} {rest = rest} {a = p} lt c) states are apart = λ n m counted.
        let r = disjoined_ends (suc d) n m symbols (sign CloseParen ∷ rest) p states later (disjoined_reached c states are apart) counted refl refl in
        record {
          states = r.states;
          reads = parentheses_join d p symbols rest states r.states n m lt r.reads;
          are = r.are;
          apart = r.apart;
        }

  pub whole_read : (symbols : List Symbol) (before later : List Process) (states : List State) (p : tree.Proposition)
      → Disjoined mentions names 0 before symbols p [] later → seen states bodies ≡ before → AllDistinct states → connectives p ≤ 256
      → (after : List State) × (whole_at names locks symbols states ≡ Some (p, after)) × (seen after bodies ≡ later)
  unfolding whole_at
  whole_read symbols before later states p spelled are apart few =
      let r = disjoined_ends 0 256 (256 - connectives p) symbols [] p states later (disjoined_reached spelled states are apart) (omega (arith, few)) refl refl in
      (r.states, ap (λ (o : Option Found). o >>= λ x. at_the_end x) r.reads, r.are)

-- a whole proposition that is spelled is read
pub whole_complete : (all : List Mention) (names : Names) (locks : List Bool) (symbols : List Symbol) (before later : List Process)
    (states : List State) (bodies : List tree.Block) (p : tree.Proposition)
    → Disjoined all names 0 before symbols p [] later
    → seen states bodies ≡ before → AllDistinct states
    → ((name : List ℕ) (v : ℕ) → IsKnown all names name v → (index_of names name ≡ Some v) × (get_or locks v false ≡ false))
    → connectives p ≤ 256
    → (after : List State) × (whole_at names locks symbols states ≡ Some (p, after)) × (seen after bodies ≡ later)
whole_complete all names locks symbols before later states bodies p spelled are apart is_open few =
    whole_read all names locks bodies is_open symbols before later states p spelled are apart few
