-- What the readers of propositions read is spelled so.
use Rattle.std.proofs.Common.{◌≡◌, ◌∙◌, ℕ, zero, suc, ◌+◌, ◌-◌, ◌*◌, ◌<◌, ◌≤◌, ◌==◌, nat_lt, List, [], ◌∷◌, Bool, true, false, cond, get_or}
use Rattle.std.proofs.Common.{Option, Some, None, length, refl, sym, ap, subst, arith}
use Rattle.std.specs.Prelude.{set, slice_get}
use Rattle.std.proofs.lemmas.Bool.{eqb-false, eqb-true, ltb-true}
use Rattle.std.proofs.lemmas.List.{length-set}
use Rattle.litmus_lex.specs.declared.sign.Sign.{Sign}
use Rattle.litmus_lex.specs.declared.sign.Sign.TheVariants.{OpenParen, CloseParen, OpenBracket, CloseBracket, Colon, Assign, Tilde}
use Rattle.litmus_lex.specs.declared.sign.Sign.TheVariants.{Conjunction, Disjunction}
use Rattle.litmus_syntax.specs.Limits.{connectives}
use Rattle.litmus_syntax.specs.Tree as tree
use Rattle.litmus_lex.specs.declared.words.Word.TheVariants as words
use Rattle.litmus_lex.specs.Front.{◌>>=◌, first, identifier_at, is_sign, number_of, others, take_sign, take_signed}
use Rattle.litmus_lex.specs.Words.{Symbol, word, identifier, number, sign, fault}
use Rattle.litmus_expression.specs.NameReader.{index_of, register_at, take_register}
use Rattle.litmus_expression.specs.Names.{IsRegister, Names, Parameter}
use Rattle.litmus_expression.specs.States.{State, after, with_left}
use Rattle.litmus_expression.proofs.Fewer.{at_last, behind_it, either_way, unless_it}
use Rattle.litmus_expression.proofs.Named.{index_there}
use Rattle.litmus_expression.proofs.Sound.{register_reads}
use Rattle.litmus_expression.proofs.Taken.{front, is_sign_is, same_given, sign_taken}
use Rattle.litmus_parse.specs.ConditionReader.{given_value}
use Rattle.litmus_parse.specs.Conditions as grammar
use Rattle.litmus_parse.specs.Conditions.{Atom, Conjoined, Disjoined, IsKnown, Negation, with_registers}
use Rattle.litmus_parse.specs.ProcessHeaders.{Process, Signed}
use Rattle.litmus_parse.specs.Mentions.{Mention}
use Rattle.litmus_parse.specs.Seen.{process_of, seen}
use Rattle.litmus_parse.specs.PropositionReader.{Asked, Readers, asked_behind, asked_past, at_the_end, atom_at, behind_bracket, by, deep}
use Rattle.litmus_parse.specs.PropositionReader.{disjunction_at, idle, inside_by, is_false, is_true}
use Rattle.litmus_parse.specs.PropositionReader.{numbered_or_not, register_atom, register_in, register_with, take_connective, variable_atom}
use Rattle.litmus_parse.specs.PropositionReader.{whole_at}
use Rattle.litmus_parse.specs.VariableReader.{known_named, known_variable, unless_lock}
use Rattle.litmus_parse.proofs.Items.{identifier_is}
use Rattle.litmus_parse.proofs.PropositionUnrolled.{Found, false_is, true_is}
use Rattle.litmus_parse.proofs.Values.{signed_spelled}

-- ---- processes that are seen

pub seen_there : (states : List State) (bodies : List tree.Block) (task : ℕ) (s : State) → slice_get states task ≡ Some s
    → slice_get (seen states bodies) task ≡ Some (process_of s (get_or bodies task tree.empty))
seen_there [] bodies task s e = absurd cc
seen_there (t ∷ states) [] zero s e = ap (λ (u : State). Some (process_of u tree.empty)) (same_given t s e)
seen_there (t ∷ states) [] (suc task) s e = seen_there states [] task s e
seen_there (t ∷ states) (b ∷ bodies) zero s e = ap (λ (u : State). Some (process_of u b)) (same_given t s e)
seen_there (t ∷ states) (b ∷ bodies) (suc task) s e = seen_there states bodies task s e

pub seen_set : (states : List State) (bodies : List tree.Block) (task : ℕ) (s : State)
    → seen (set states task s) bodies ≡ set (seen states bodies) task (process_of s (get_or bodies task tree.empty))
seen_set [] bodies task s = refl
seen_set (t ∷ states) [] zero s = refl
seen_set (t ∷ states) [] (suc task) s = ap (λ (l : List Process). process_of t tree.empty ∷ l) (seen_set states [] task s)
seen_set (t ∷ states) (b ∷ bodies) zero s = refl
seen_set (t ∷ states) (b ∷ bodies) (suc task) s = ap (λ (l : List Process). process_of t b ∷ l) (seen_set states bodies task s)

-- each process has no more registers than it may have
abbrev pub AllFew : List State → Type 0
AllFew [] = Unit {0}
AllFew (s ∷ states) = (length s.names ≤ 32) × AllFew states

few_there : (states : List State) (task : ℕ) (s : State) → AllFew states → slice_get states task ≡ Some s → length s.names ≤ 32
few_there [] task s few e = absurd cc
few_there (t ∷ states) zero s few e = subst (λ (u : State). length u.names ≤ 32) (same_given t s e) few.0
few_there (t ∷ states) (suc task) s few e = few_there states task s few.1 e

few_set : (states : List State) (task : ℕ) (s : State) → AllFew states → length s.names ≤ 32 → AllFew (set states task s)
few_set [] task s few le = tt
few_set (t ∷ states) zero s few le = (le, few.1)
few_set (t ∷ states) (suc task) s few le = (few.0, few_set states task s few.1 le)

-- ---- numbers and registers

value_reads : (symbols : List Symbol) (v : ℕ × List Symbol) → given_value symbols ≡ Some v → (l : List Symbol)
    × (symbols ≡ sign Assign ∷ l) × Signed l v.0 v.1
unfolding given_value
value_reads symbols v e =
    behind_it (take_sign Assign symbols) (λ l. take_signed l) (λ (w : ℕ × List Symbol). (l : List Symbol) × (symbols ≡ sign Assign ∷ l)
    × Signed l w.0 w.1) v e
    (λ l given e. (l, sign_taken Assign symbols l given, signed_spelled l v e))

-- REG of a process in its place
record ReadsIn (task : ℕ) (a : Asked) (bodies : List tree.Block) (x : ℕ × Asked) : Type 0 where
  process : Process
  name : List ℕ
  registers : Names
  there : slice_get (seen a.states bodies) task ≡ Some process
  next : a.symbols ≡ identifier name ∷ x.1.symbols
  is : IsRegister process.parameters process.registers name x.0 registers
  after : seen x.1.states bodies ≡ set (seen a.states bodies) task (with_registers process registers)
  few : AllFew x.1.states
  sized : length x.1.states ≡ length a.states
  operators : x.1.operators ≡ a.operators

register_taken : (task : ℕ) (a : Asked) (bodies : List tree.Block) (s : State) (x : ℕ × Asked) → AllFew a.states → slice_get a.states task
    ≡ Some s
    → register_with task a s ≡ Some x → ReadsIn task a bodies x
unfolding take_register
register_taken task a bodies s x few there e =
    behind_it (register_at (with_left s a.symbols) >>= λ y. Some (y.0, after y.1))
    (λ r. Some (r.0, record a { symbols = r.1.symbols; states = set a.states task r.1 })) (ReadsIn task a bodies) x e (λ r taken e.
    behind_it (register_at (with_left s a.symbols)) (λ y. Some (y.0, after y.1))
    (λ (q : ℕ × State). r ≡ q → ReadsIn task a bodies x) r taken (λ y is taken.
    at_last (y.0, after y.1) (λ (q : ℕ × State). r ≡ q → ReadsIn task a bodies x) r taken (λ same.
    let g = register_reads (with_left s a.symbols) y (few_there a.states task s few there) is in
    let b = get_or bodies task tree.empty in
    at_last _ (ReadsIn task a bodies) x (subst (λ (q : ℕ × State). Some
    (q.0, record a { symbols = q.1.symbols; states = set a.states task q.1 }) ≡ Some x) same e)
    (record {
      process = process_of s b;
      name = g.name;
      registers = y.1.names;
      there = seen_there a.states bodies task s there;
      next = g.next ∙ ap (λ (l : List Symbol). identifier g.name ∷ others l) (sym g.symbols);
      is = g.is;
      after = seen_set a.states bodies task (after y.1)
          ∙ ap (λ (ps : List Parameter). set (seen a.states bodies) task
          (record { parameters = ps; registers = y.1.names; body = b })) g.parameters;
      few = few_set a.states task (after y.1) few g.within;
      sized = length-set a.states task (after y.1);
      operators = refl;
    }))) refl)

register_in_reads : (task : ℕ) (a : Asked) (bodies : List tree.Block) (x : ℕ × Asked) → AllFew a.states → register_in task a ≡ Some x
    → ReadsIn task a bodies x
unfolding register_in
register_in_reads task a bodies x few e =
    behind_it (slice_get a.states task) (λ s. register_with task a s) (ReadsIn task a bodies) x e
    (λ s there e. register_taken task a bodies s x few there e)

-- ---- variables

record ReadsKnown (names : Names) (locks : List Bool) (symbols : List Symbol) (x : ℕ × List Symbol) : Type 0 where
  name : List ℕ
  next : symbols ≡ identifier name ∷ x.1
  stands : slice_get names x.0 ≡ Some name
  no_lock : get_or locks x.0 false ≡ false

known_of : (names : Names) (locks : List Bool) (symbols : List Symbol) (name : List ℕ) (o : Option ℕ) (x : ℕ × List Symbol) → symbols
    ≡ identifier name ∷ others symbols
    → index_of names name ≡ o → unless_lock locks symbols o ≡ Some x → ReadsKnown names locks symbols x
known_of names locks symbols name None x next is e = absurd cc
known_of names locks symbols name (Some v) x next is e =
    unless_it (get_or locks v false) (Some (v, others symbols)) (ReadsKnown names locks symbols) x e (λ no_lock e.
    at_last (v, others symbols) (ReadsKnown names locks symbols) x e
    (record { name = name; next = next; stands = index_there names name v is; no_lock = no_lock }))

known_named_reads : (names : Names) (locks : List Bool) (symbols : List Symbol) (o : Option (List ℕ)) (x : ℕ × List Symbol)
    → identifier_at (first symbols) ≡ o
    → known_named names locks symbols o ≡ Some x → ReadsKnown names locks symbols x
known_named_reads names locks symbols None x is e = absurd cc
known_named_reads names locks symbols (Some name) x is e =
    known_of names locks symbols name (index_of names name) x (front symbols (identifier name) (identifier_is (first symbols) name is)
    (λ never. cc)) refl e

known_reads : (names : Names) (locks : List Bool) (symbols : List Symbol) (x : ℕ × List Symbol) → known_variable names locks symbols
    ≡ Some x
    → ReadsKnown names locks symbols x
unfolding known_variable
known_reads names locks symbols x e = known_named_reads names locks symbols (identifier_at (first symbols)) x refl e

-- ---- atoms

number_at : (y : Symbol) (rest : List Symbol) (n : ℕ × List Symbol) → number_of y rest ≡ Some n → (y ≡ number n.0) × (rest ≡ n.1)
number_at (word w) rest n e = absurd cc
number_at (identifier name) rest n e = absurd cc
number_at (number m) rest n e =
    let same = same_given (m, rest) n e in (ap (λ (z : ℕ × List Symbol). number z.0) same, ap (λ (z : ℕ × List Symbol). z.1) same)
number_at (sign t) rest n e = absurd cc
number_at fault rest n e = absurd cc

module _ (mentions : List Mention) (names : Names) (locks : List Bool) (bodies : List tree.Block)
    (is_known : (v : ℕ) (name : List ℕ) → slice_get names v ≡ Some name → get_or locks v false ≡ false
    → IsKnown mentions names name v) where
  record ReadsAtom (a : Asked) (x : Found) : Type 0 where
    spelled : Atom mentions names (seen a.states bodies) a.symbols x.0 x.1.symbols (seen x.1.states bodies)
    counted : connectives x.0 + x.1.operators ≡ a.operators
    few : AllFew x.1.states
    sized : length x.1.states ≡ length a.states

  register_atom_reads : (task : ℕ) (a : Asked) (x : Found) → AllFew a.states → first a.symbols ≡ number task
      → register_atom task (asked_past a) ≡ Some x → ReadsAtom a x
  unfolding register_atom
  register_atom_reads task a x few next e =
      behind_it (take_sign Colon (others a.symbols)) (λ l. register_in task (asked_behind a l) >>= λ r. given_value r.1.symbols >>= λ v.
      Some (tree.register_is task r.0 v.0, asked_behind r.1 v.1)) (ReadsAtom a) x e (λ l colon e.
      behind_it (register_in task (asked_behind a l)) (λ r. given_value r.1.symbols >>= λ v. Some
      (tree.register_is task r.0 v.0, asked_behind r.1 v.1))
      (ReadsAtom a) x e (λ r is e.
      behind_it (given_value r.1.symbols) (λ v. Some (tree.register_is task r.0 v.0, asked_behind r.1 v.1)) (ReadsAtom a) x e (λ v value e.
      at_last _ (ReadsAtom a) x e
      (let g = register_in_reads task (asked_behind a l) bodies r few is in
      let w = value_reads r.1.symbols v value in
      let whole : a.symbols ≡ number task ∷ sign Colon ∷ identifier g.name ∷ sign Assign ∷ w.0 =
      front a.symbols (number task) next (λ never. cc)
      ∙ ap (λ (j : List Symbol). number task ∷ j) (sign_taken Colon (others a.symbols) l colon
      ∙ ap (λ (j : List Symbol). sign Colon ∷ j) (g.next ∙ ap (λ (j : List Symbol). identifier g.name ∷ j) w.1)) in
      record {
        spelled = subst (λ (j : List Symbol). Atom mentions names (seen a.states bodies) j (tree.register_is task r.0 v.0) v.1
            (seen r.1.states bodies)) (sym whole)
            (subst (λ (ps : List Process). Atom mentions names (seen a.states bodies)
            (number task ∷ sign Colon ∷ identifier g.name ∷ sign Assign ∷ w.0)
            (tree.register_is task r.0 v.0) v.1 ps) (sym g.after) (grammar.register_is g.there g.is w.2));
        counted = omega (arith, g.operators);
        few = g.few;
        sized = g.sized;
      }))))

  plain_variable_reads : (a : Asked) (x : Found) → AllFew a.states → variable_atom names locks false a ≡ Some x → ReadsAtom a x
  unfolding variable_atom
  plain_variable_reads a x few e =
      behind_it (known_variable names locks a.symbols) (λ v. behind_bracket false v.1 >>= λ l. given_value l >>= λ w.
      Some (tree.variable_is v.0 w.0, asked_behind a w.1)) (ReadsAtom a) x e (λ v known e.
      behind_it (given_value v.1) (λ w. Some (tree.variable_is v.0 w.0, asked_behind a w.1)) (ReadsAtom a) x e (λ w value e.
      at_last _ (ReadsAtom a) x e
      (let k = known_reads names locks a.symbols v known in
      let g = value_reads v.1 w value in
      record {
        spelled = subst (λ (j : List Symbol). Atom mentions names (seen a.states bodies) j (tree.variable_is v.0 w.0) w.1
            (seen a.states bodies))
            (sym (k.next ∙ ap (λ (j : List Symbol). identifier k.name ∷ j) g.1))
            (grammar.variable_is (is_known v.0 k.name k.stands k.no_lock) g.2);
        counted = omega arith;
        few = few;
        sized = refl;
      })))

  bracketed_reads : (a : Asked) (x : Found) → AllFew a.states → is_sign OpenBracket (first a.symbols) ≡ true
      → variable_atom names locks true (asked_past a) ≡ Some x
      → ReadsAtom a x
  unfolding variable_atom
  bracketed_reads a x few opens e =
      behind_it (known_variable names locks (others a.symbols)) (λ v. behind_bracket true v.1 >>= λ l. given_value l >>= λ w.
      Some (tree.variable_is v.0 w.0, asked_behind a w.1)) (ReadsAtom a) x e (λ v known e.
      behind_it (take_sign CloseBracket v.1) (λ l. given_value l >>= λ w. Some (tree.variable_is v.0 w.0, asked_behind a w.1))
      (ReadsAtom a) x e (λ l closes e.
      behind_it (given_value l) (λ w. Some (tree.variable_is v.0 w.0, asked_behind a w.1)) (ReadsAtom a) x e (λ w value e.
      at_last _ (ReadsAtom a) x e
      (let k = known_reads names locks (others a.symbols) v known in
      let g = value_reads l w value in
      let whole : a.symbols ≡ sign OpenBracket ∷ identifier k.name ∷ sign CloseBracket ∷ sign Assign ∷ g.0 =
      front a.symbols (sign OpenBracket) (is_sign_is OpenBracket (first a.symbols) opens) (λ never. cc)
      ∙ ap (λ (j : List Symbol). sign OpenBracket ∷ j) (k.next ∙ ap (λ (j : List Symbol). identifier k.name ∷ j)
      (sign_taken CloseBracket v.1 l closes ∙ ap (λ (j : List Symbol). sign CloseBracket ∷ j) g.1)) in
      record {
        spelled = subst (λ (j : List Symbol). Atom mentions names (seen a.states bodies) j (tree.variable_is v.0 w.0) w.1
            (seen a.states bodies)) (sym whole)
            (grammar.in_brackets (is_known v.0 k.name k.stands k.no_lock) g.2);
        counted = omega arith;
        few = few;
        sized = refl;
      }))))

  numbered_reads : (a : Asked) (x : Found) → AllFew a.states → (o : Option (ℕ × List Symbol))
      → number_of (first a.symbols) (others a.symbols) ≡ o
      → numbered_or_not names locks a o ≡ Some x → ReadsAtom a x
  numbered_reads a x few None is e =
      either_way (is_sign OpenBracket (first a.symbols)) (variable_atom names locks true (asked_past a))
      (variable_atom names locks false a) (ReadsAtom a) x e
      (λ opens e. bracketed_reads a x few opens e)
      (λ none e. plain_variable_reads a x few e)
  numbered_reads a x few (Some n) is e =
      let at = number_at (first a.symbols) (others a.symbols) n is in
      register_atom_reads n.0 a x few at.0 (subst (λ (l : List Symbol). register_atom n.0 (asked_behind a l) ≡ Some x) (sym at.1) e)

  atom_reads : (a : Asked) (x : Found) → AllFew a.states → atom_at names locks a ≡ Some x → ReadsAtom a x
  unfolding atom_at
  atom_reads a x few e =
      either_way (is_true (first a.symbols)) (Some (tree.always, asked_past a))
      (cond (is_false (first a.symbols)) (Some (tree.never, asked_past a))
      (numbered_or_not names locks a (number_of (first a.symbols) (others a.symbols))))
      (ReadsAtom a) x e
      (λ is e. at_last (tree.always, asked_past a) (ReadsAtom a) x e (record {
        spelled = subst (λ (j : List Symbol). Atom mentions names (seen a.states bodies) j tree.always (others a.symbols)
            (seen a.states bodies))
            (sym (front a.symbols (word words.True) (true_is (first a.symbols) is) (λ never. cc))) grammar.always;
        counted = omega arith;
        few = few;
        sized = refl;
      }))
      (λ no e.
      either_way (is_false (first a.symbols)) (Some (tree.never, asked_past a))
      (numbered_or_not names locks a (number_of (first a.symbols) (others a.symbols)))
      (ReadsAtom a) x e
      (λ is e. at_last (tree.never, asked_past a) (ReadsAtom a) x e (record {
        spelled = subst (λ (j : List Symbol). Atom mentions names (seen a.states bodies) j tree.never (others a.symbols)
            (seen a.states bodies))
            (sym (front a.symbols (word words.False) (false_is (first a.symbols) is) (λ never. cc))) grammar.never;
        counted = omega arith;
        few = few;
        sized = refl;
      }))
      (λ no e. numbered_reads a x few (number_of (first a.symbols) (others a.symbols)) refl e))

  -- ---- propositions

  -- a proposition of a part of the grammar, and what one makes of another before it
  record ReadsPart (Part : List Process → List Symbol → tree.Proposition → List Symbol → List Process → Type 0) (a : Asked)
      (x : Found) : Type 0 where
    spelled : Part (seen a.states bodies) a.symbols x.0 x.1.symbols (seen x.1.states bodies)
    counted : connectives x.0 + x.1.operators ≡ a.operators
    few : AllFew x.1.states
    sized : length x.1.states ≡ length a.states

  record ReadsMore (Part : List Process → List Symbol → tree.Proposition → List Symbol → List Process → Type 0) (p : tree.Proposition)
      (a : Asked) (x : Found) : Type 0 where
    spelled : (before : List Process) (symbols : List Symbol) → Part before symbols p a.symbols (seen a.states bodies)
        → Part before symbols x.0 x.1.symbols (seen x.1.states bodies)
    counted : connectives x.0 + x.1.operators ≡ connectives p + a.operators
    few : AllFew x.1.states
    sized : length x.1.states ≡ length a.states

  abbrev Or : ℕ → List Process → List Symbol → tree.Proposition → List Symbol → List Process → Type 0
  Or d before symbols p rest after = Disjoined mentions names d before symbols p rest after

  abbrev And : ℕ → List Process → List Symbol → tree.Proposition → List Symbol → List Process → Type 0
  And d before symbols p rest after = Conjoined mentions names d before symbols p rest after

  abbrev Not : ℕ → List Process → List Symbol → tree.Proposition → List Symbol → List Process → Type 0
  Not d before symbols p rest after = Negation mentions names d before symbols p rest after

  record Sound (R : Readers) : Type 0 where
    disjunction : (d : ℕ) (a : Asked) (x : Found) → AllFew a.states → R.disjunction d a ≡ Some x → ReadsPart (Or d) a x
    or_more : (d : ℕ) (p : tree.Proposition) (a : Asked) (x : Found) → AllFew a.states → R.or_more d p a ≡ Some x → ReadsMore (Or d) p a x
    conjunction : (d : ℕ) (a : Asked) (x : Found) → AllFew a.states → R.conjunction d a ≡ Some x → ReadsPart (And d) a x
    and_more : (d : ℕ) (p : tree.Proposition) (a : Asked) (x : Found) → AllFew a.states → R.and_more d p a ≡ Some x
        → ReadsMore (And d) p a x
    negation : (d : ℕ) (a : Asked) (x : Found) → AllFew a.states → R.negation d a ≡ Some x → ReadsPart (Not d) a x

  -- the operator that is taken
  record Taken (s : Sign) (a u : Asked) : Type 0 where
    next : a.symbols ≡ sign s ∷ u.symbols
    states : u.states ≡ a.states
    counted : u.operators + 1 ≡ a.operators

  taken : (s : Sign) (a u : Asked) → is_sign s (first a.symbols) ≡ true → take_connective a ≡ Some u → Taken s a u
  unfolding take_connective
  taken s a u is e =
      unless_it (a.operators == 0) (Some (record { symbols = others a.symbols; states = a.states; operators = a.operators - 1 }))
      (Taken s a) u e (λ some e.
      at_last _ (Taken s a) u e (record {
        next = front a.symbols (sign s) (is_sign_is s (first a.symbols) is) (λ never. cc);
        states = refl;
        counted = (let no = eqb-false a.operators 0 some in omega (arith, no));
      }))

  few_of : (a u : Asked) → u.states ≡ a.states → AllFew a.states → AllFew u.states
  few_of a u same few = subst (λ (s : List State). AllFew s) (sym same) few

  module _ (R : Readers) (h : Sound R) where
    disjunction_sound : (d : ℕ) (a : Asked) (x : Found) → AllFew a.states → (by names locks R).disjunction d a ≡ Some x
        → ReadsPart (Or d) a x
    disjunction_sound d a x few e =
        behind_it (R.conjunction d a) (λ y. R.or_more d y.0 y.1) (ReadsPart (Or d) a) x e (λ y is e.
        let one = h.conjunction d a y few is in
        let two = h.or_more d y.0 y.1 x one.few e in
        record {
          spelled = two.spelled (seen a.states bodies) a.symbols (grammar.conjunction one.spelled);
          counted = two.counted ∙ one.counted;
          few = two.few;
          sized = two.sized ∙ one.sized;
        })

    or_more_sound : (d : ℕ) (p : tree.Proposition) (a : Asked) (x : Found) → AllFew a.states → (by names locks R).or_more d p a ≡ Some x
        → ReadsMore (Or d) p a x
    or_more_sound d p a x few e =
        either_way (is_sign Disjunction (first a.symbols)) (take_connective a >>= λ u. R.conjunction d u >>= λ y. R.or_more d
        (tree.either p y.0) y.1) (Some (p, a))
        (ReadsMore (Or d) p a) x e
        (λ or e.
        behind_it (take_connective a) (λ u. R.conjunction d u >>= λ y. R.or_more d (tree.either p y.0) y.1) (ReadsMore (Or d) p a) x e
        (λ u is e.
        let t = taken Disjunction a u or is in
        behind_it (R.conjunction d u) (λ y. R.or_more d (tree.either p y.0) y.1) (ReadsMore (Or d) p a) x e (λ y is e.
        let one = h.conjunction d u y (few_of a u t.states few) is in
        let two = h.or_more d (tree.either p y.0) y.1 x one.few e in
        record {
          spelled = λ before symbols spelled. two.spelled before symbols
              (grammar.or (subst (λ (l : List Symbol). Or d before symbols p l (seen a.states bodies)) t.next spelled)
              (subst (λ (s : List State). And d (seen s bodies) u.symbols y.0 y.1.symbols (seen y.1.states bodies)) t.states one.spelled));
          counted = omega (arith, two.counted, one.counted, t.counted);
          few = two.few;
          sized = two.sized ∙ one.sized ∙ ap (λ (s : List State). length s) t.states;
        })))
        (λ none e. at_last (p, a) (ReadsMore (Or d) p a) x e
        (record { spelled = λ before symbols spelled. spelled; counted = refl; few = few; sized = refl }))

    conjunction_sound : (d : ℕ) (a : Asked) (x : Found) → AllFew a.states → (by names locks R).conjunction d a ≡ Some x
        → ReadsPart (And d) a x
    conjunction_sound d a x few e =
        behind_it (R.negation d a) (λ y. R.and_more d y.0 y.1) (ReadsPart (And d) a) x e (λ y is e.
        let one = h.negation d a y few is in
        let two = h.and_more d y.0 y.1 x one.few e in
        record {
          spelled = two.spelled (seen a.states bodies) a.symbols (grammar.negation one.spelled);
          counted = two.counted ∙ one.counted;
          few = two.few;
          sized = two.sized ∙ one.sized;
        })

    and_more_sound : (d : ℕ) (p : tree.Proposition) (a : Asked) (x : Found) → AllFew a.states → (by names locks R).and_more d p a ≡ Some x
        → ReadsMore (And d) p a x
    and_more_sound d p a x few e =
        either_way (is_sign Conjunction (first a.symbols)) (take_connective a >>= λ u. R.negation d u >>= λ y. R.and_more d
        (tree.both p y.0) y.1) (Some (p, a))
        (ReadsMore (And d) p a) x e
        (λ and e.
        behind_it (take_connective a) (λ u. R.negation d u >>= λ y. R.and_more d (tree.both p y.0) y.1) (ReadsMore (And d) p a) x e
        (λ u is e.
        let t = taken Conjunction a u and is in
        behind_it (R.negation d u) (λ y. R.and_more d (tree.both p y.0) y.1) (ReadsMore (And d) p a) x e (λ y is e.
        let one = h.negation d u y (few_of a u t.states few) is in
        let two = h.and_more d (tree.both p y.0) y.1 x one.few e in
        record {
          spelled = λ before symbols spelled. two.spelled before symbols
              (grammar.and (subst (λ (l : List Symbol). And d before symbols p l (seen a.states bodies)) t.next spelled)
              (subst (λ (s : List State). Not d (seen s bodies) u.symbols y.0 y.1.symbols (seen y.1.states bodies)) t.states one.spelled));
          counted = omega (arith, two.counted, one.counted, t.counted);
          few = two.few;
          sized = two.sized ∙ one.sized ∙ ap (λ (s : List State). length s) t.states;
        })))
        (λ none e. at_last (p, a) (ReadsMore (And d) p a) x e
        (record { spelled = λ before symbols spelled. spelled; counted = refl; few = few; sized = refl }))

    denied_sound : (d : ℕ) (a : Asked) (x : Found) → AllFew a.states → is_sign Tilde (first a.symbols) ≡ true
        → (take_connective a >>= λ u. R.negation d u >>= λ y. Some (tree.negation y.0, y.1)) ≡ Some x → ReadsPart (Not d) a x
    denied_sound d a x few denied e =
        behind_it (take_connective a) (λ u. R.negation d u >>= λ y. Some (tree.negation y.0, y.1)) (ReadsPart (Not d) a) x e (λ u is e.
        let t = taken Tilde a u denied is in
        behind_it (R.negation d u) (λ y. Some (tree.negation y.0, y.1)) (ReadsPart (Not d) a) x e (λ y is e.
        at_last (tree.negation y.0, y.1) (ReadsPart (Not d) a) x e
        (let one = h.negation d u y (few_of a u t.states few) is in
        record {
          spelled = subst (λ (l : List Symbol). Not d (seen a.states bodies) l (tree.negation y.0) y.1.symbols (seen y.1.states bodies))
              (sym t.next)
              (grammar.not (subst (λ (s : List State). Not d (seen s bodies) u.symbols y.0 y.1.symbols
              (seen y.1.states bodies)) t.states one.spelled));
          counted = omega (arith, one.counted, t.counted);
          few = one.few;
          sized = one.sized ∙ ap (λ (s : List State). length s) t.states;
        })))

    inside_sound : (d : ℕ) (a : Asked) (x : Found) → AllFew a.states → is_sign OpenParen (first a.symbols) ≡ true → d < 16
        → inside_by R d (asked_past a) ≡ Some x → ReadsPart (Not d) a x
    inside_sound d a x few opens lt e =
        behind_it (R.disjunction (d + 1) (asked_past a)) (λ y. take_sign CloseParen y.1.symbols >>= λ l. Some (y.0, asked_behind y.1 l))
        (ReadsPart (Not d) a) x e (λ y is e.
        behind_it (take_sign CloseParen y.1.symbols) (λ l. Some (y.0, asked_behind y.1 l)) (ReadsPart (Not d) a) x e (λ l closes e.
        at_last (y.0, asked_behind y.1 l) (ReadsPart (Not d) a) x e
        (let one = h.disjunction (d + 1) (asked_past a) y few is in
        let deeper : d + 1 ≡ suc d = omega arith in
        let inside = subst (λ (n : ℕ). Or n (seen a.states bodies) (others a.symbols) y.0 y.1.symbols
        (seen y.1.states bodies)) deeper one.spelled in
        record {
          spelled = subst (λ (j : List Symbol). Not d (seen a.states bodies) j y.0 l (seen y.1.states bodies))
              (sym (front a.symbols (sign OpenParen) (is_sign_is OpenParen (first a.symbols) opens) (λ never. cc)))
              (grammar.parenthesized lt (subst (λ (j : List Symbol). Or (suc d) (seen a.states bodies) (others a.symbols) y.0 j
              (seen y.1.states bodies))
              (sign_taken CloseParen y.1.symbols l closes) inside));
          counted = one.counted;
          few = one.few;
          sized = one.sized;
        })))

    negation_sound : (d : ℕ) (a : Asked) (x : Found) → AllFew a.states → (by names locks R).negation d a ≡ Some x → ReadsPart (Not d) a x
    negation_sound d a x few e =
        either_way (is_sign Tilde (first a.symbols)) (take_connective a >>= λ u. R.negation d u >>= λ y. Some (tree.negation y.0, y.1))
        (cond (is_sign OpenParen (first a.symbols)) (cond (nat_lt d 16) (inside_by R d (asked_past a)) None) (atom_at names locks a))
        (ReadsPart (Not d) a) x e
        (λ denied e. denied_sound d a x few denied e)
        (λ plain e.
        either_way (is_sign OpenParen (first a.symbols)) (cond (nat_lt d 16) (inside_by R d (asked_past a)) None) (atom_at names locks a)
        (ReadsPart (Not d) a) x e
        (λ opens e.
        either_way (nat_lt d 16) (inside_by R d (asked_past a)) None (ReadsPart (Not d) a) x e
        (λ below e. inside_sound d a x few opens (ltb-true d 16 below) e)
        (λ many e. absurd cc))
        (λ none e.
        let r = atom_reads a x few e in
        record { spelled = grammar.atom r.spelled; counted = r.counted; few = r.few; sized = r.sized }))

    by_sound : Sound (by names locks R)
    by_sound = record {
      disjunction = disjunction_sound;
      or_more = or_more_sound;
      conjunction = conjunction_sound;
      and_more = and_more_sound;
      negation = negation_sound;
    }

  idle_sound : Sound idle
  idle_sound = record {
    disjunction = λ d a x few e. absurd cc;
    or_more = λ d p a x few e. absurd cc;
    conjunction = λ d a x few e. absurd cc;
    and_more = λ d p a x few e. absurd cc;
    negation = λ d a x few e. absurd cc;
  }

  deep_sound : (f : ℕ) → Sound (deep names locks f)
  unfolding deep
  deep_sound zero = idle_sound
  deep_sound (suc f) = by_sound (deep names locks f) (deep_sound f)

  -- a whole proposition
  pub record ReadsWhole (a : Asked) (x : tree.Proposition × List State) : Type 0 where
    pub spelled : Disjoined mentions names 0 (seen a.states bodies) a.symbols x.0 [] (seen x.1 bodies)
    pub counted : connectives x.0 ≤ a.operators
    pub sized : length x.1 ≡ length a.states

  nothing_left : (symbols : List Symbol) → length symbols ≡ 0 → symbols ≡ []
  nothing_left [] none = refl
  nothing_left (s ∷ symbols) none = absurd (omega arith)

  pub whole_reads : (symbols : List Symbol) (states : List State) (x : tree.Proposition × List State) → AllFew states
      → whole_at names locks symbols states ≡ Some x
      → ReadsWhole (record { symbols = symbols; states = states; operators = 256 }) x
  unfolding whole_at disjunction_at
  whole_reads symbols states x few e =
      let a : Asked = record { symbols = symbols; states = states; operators = 256 } in
      behind_it ((deep names locks (10 * length symbols + 10)).disjunction 0 a) (λ y. at_the_end y) (ReadsWhole a) x e (λ y is e.
      either_way (length y.1.symbols == 0) (Some (y.0, y.1.states)) None (ReadsWhole a) x e
      (λ ends e. at_last (y.0, y.1.states) (ReadsWhole a) x e
      (let r = (deep_sound (10 * length symbols + 10)).disjunction 0 a y few is in
      record {
        spelled = subst (λ (l : List Symbol). Disjoined mentions names 0 (seen states bodies) symbols y.0 l (seen y.1.states bodies))
            (nothing_left y.1.symbols (eqb-true (length y.1.symbols) 0 ends)) r.spelled;
        counted = omega (arith, r.counted);
        sized = r.sized;
      }))
      (λ more e. absurd cc))
