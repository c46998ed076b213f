-- What is spelled as processes is read so, before what is no process.
use Rattle.std.proofs.Common.{◌≡◌, ◌∙◌, ◌++◌, ◌<◌, ◌≤◌, ℕ, suc, List, [], ◌∷◌, true, false, Option, Some, length, map, refl}
use Rattle.std.proofs.Common.{ap, subst, append_assoc, arith}
use Rattle.std.specs.Prelude.{Contains, flat_map}
use Rattle.std.proofs.lemmas.List.{length-append}
use Rattle.litmus_lex.specs.declared.sign.Sign.TheVariants.{OpenBrace, OpenParen}
use Rattle.litmus_syntax.specs.Limits.{BodyKeepsLimits, block_count, block_repeats}
use Rattle.litmus_syntax.specs.declared.proposition.Quantifier.{Quantifier}
use Rattle.litmus_syntax.specs.Tree as tree
use Rattle.litmus_lex.specs.Front.{◌>>=◌, first}
use Rattle.litmus_lex.specs.Words.{Symbol, identifier, sign}
use Rattle.litmus_expression.specs.Followed.{Differ}
use Rattle.litmus_expression.specs.Names.{Names, Parameter}
use Rattle.litmus_expression.specs.States.{State}
use Rattle.litmus_expression.proofs.Complete.{placed}
use Rattle.litmus_expression.proofs.Named.{among, in_front, in_none, in_rest, is_itself}
use Rattle.litmus_body.specs.Statements.{Statements}
use Rattle.litmus_body.proofs.statement_laws.Named.{statements_named}
use Rattle.litmus_body.proofs.statement_laws.Whole.{whole_is_read}
use Rattle.litmus_parse.specs.Conditions as conditions
use Rattle.litmus_parse.specs.Conditions.{Quantifies}
use Rattle.litmus_parse.specs.Distinct.{AllDistinct, Distinct, body_of}
use Rattle.litmus_parse.specs.Entries.{Entry}
use Rattle.litmus_parse.specs.ItemReader.{Heading}
use Rattle.litmus_parse.specs.Mentions.{Mention}
use Rattle.litmus_parse.specs.Seen.{process_of, seen}
use Rattle.litmus_parse.specs.Typed.{AreTyped}
use Rattle.litmus_parse.proofs.Fits.{Behind, Fits}
use Rattle.litmus_parse.proofs.ItemsComplete.{heading}
use Rattle.litmus_parse.proofs.ParametersComplete.{parameters_complete}
use Rattle.litmus_parse.proofs.Tidy.{entry_in}
use Rattle.litmus_parse.proofs.Unrolled.{Listing}
use Rattle.litmus_parse.specs.Grammar.{mentions_of}
use Rattle.litmus_parse.specs.Headers as grammar
use Rattle.litmus_parse.specs.Headers.{IsProcess, Parameters, Process, Processes, mention_of, name_of, process_name}
use Rattle.litmus_parse.specs.ProcessReader.{Course, is_process, process_at, process_with, processes_at}
use Rattle.litmus_parse.proofs.Processes.{told_both}
use Rattle.litmus_parse.proofs.ProcessUnrolled.{no_more, read_more}

-- ---- mentions among more

pub contains_first : {A : Type 0} (xs ys : List A) (m : A) → Contains xs m → Contains (xs ++ ys) m
contains_first [] ys m there = absurd (in_none m there)
contains_first (x ∷ xs) ys m there =
    among x m xs (Contains (x ∷ (xs ++ ys)) m) there
    (λ same. subst (λ (y : _). Contains (x ∷ (xs ++ ys)) y) same (in_front x (xs ++ ys)))
    (λ later. in_rest x m (xs ++ ys) (contains_first xs ys m later))

pub contains_rest : {A : Type 0} (xs ys : List A) (m : A) → Contains ys m → Contains (xs ++ ys) m
contains_rest [] ys m there = there
contains_rest (x ∷ xs) ys m there = in_rest x m (xs ++ ys) (contains_rest xs ys m there)

typed_first : (all xs ys : List Mention) → AreTyped all (xs ++ ys) → AreTyped all xs
typed_first all xs ys typed = λ m there. typed m (contains_first xs ys m there)

typed_rest : (all xs ys : List Mention) → AreTyped all (xs ++ ys) → AreTyped all ys
typed_rest all xs ys typed = λ m there. typed m (contains_rest xs ys m there)

-- ---- one process

-- a process that is read behind its name
pub record ProcessGoes (all : List Mention) (h : Heading) (p : Process) (rest : List Symbol) (later : Names) : Type 0 where
  pub behind : Behind all (mentions_of p) h rest later
  pub state : State
  pub reads : process_at h ≡ Some ((state, p.body), heading rest later behind.table)
  pub is : process_of state p.body ≡ p
  pub apart : Distinct state

module _ (all : List Mention) where
  registers_differ : {P : List Parameter} {middle rest : List Symbol} {body : tree.Block} {registers : Names}
      → Statements P 1 [] [] middle body rest registers → Differ registers
  registers_differ spelled = let few : 0 ≤ 32 = omega arith in (statements_named (record { differ = tt; few = few }) spelled).differ

  process_goes : (inside middle rest : List Symbol) (before after registers : Names) (table : List Entry) (ps : List Parameter)
      (body : tree.Block) → Parameters before inside ps (sign OpenBrace ∷ middle) after
      → Statements ps 1 [] [] middle body rest registers → BodyKeepsLimits body
      → Fits all before table → AreTyped all (map mention_of ps)
      → ProcessGoes all (heading (sign OpenParen ∷ inside) before table) (record { parameters = ps; registers = registers; body = body }) rest after
  unfolding process_at
  process_goes inside middle rest before after registers table ps body listed spelled keeps fits typed =
      let g = parameters_complete all (heading (sign OpenParen ∷ inside) before table) inside (sign OpenBrace ∷ middle) ps after refl listed fits typed in
      let s : State = placed ps (block_count body) rest registers (block_repeats 1 body) in
      record {
        behind = record {
          table = g.behind.table;
          fits = g.behind.fits;
          said = record { tidy = g.behind.said.tidy; tells = g.behind.said.tells };
        };
        state = s;
        reads = ap (λ (o : Option Listing). o >>= λ p. process_with p) g.reads
            ∙ ap (λ (o : Option (tree.Block × State)). o >>= λ b. Some ((b.1, b.0), heading b.1.symbols after g.behind.table))
            (whole_is_read ps g.differ middle rest body registers spelled keeps);
        is = refl;
        apart = (g.differ, registers_differ spelled);
      }

  -- ---- one behind the other

  abbrev course : Heading → List State → List tree.Block → Course
  course h states bodies = record { heading = h; states = states; bodies = bodies }

  -- processes that are read behind others
  pub record ProcessesGo (c : Course) (ps : List Process) (rest : List Symbol) (later : Names) : Type 0 where
    pub behind : Behind all (flat_map mentions_of ps) c.heading rest later
    pub states : List State
    pub reads : processes_at c ≡ Some (course (heading rest later behind.table) (c.states ++ states) (c.bodies ++ map body_of ps))
    pub are : seen states (map body_of ps) ≡ ps
    pub apart : AllDistinct states

  below : (task : ℕ) → task < 16 → task ≡ 16 → ⊥
  below task lt same = omega arith

  named : (task : ℕ) (symbols : List Symbol) → is_process task (first (identifier (process_name task) ∷ symbols)) ≡ true
  named task symbols = is_itself (process_name task)

  sized : (states : List State) (s : State) (task : ℕ) → length states ≡ task → length (states ++ s ∷ []) ≡ suc task
  sized states s task is = let n = length-append states (s ∷ []) in omega (arith, n, is)

  -- the last process
  last_goes : (task : ℕ) (symbols : List Symbol) (before : Names) (table : List Entry) (states : List State) (bodies : List tree.Block)
      (p : Process) (rest : List Symbol) (later : Names) → length states ≡ task → task < 16 → ((n : ℕ) → is_process n (first rest) ≡ false)
      → ProcessGoes all (heading symbols before table) p rest later
      → ProcessesGo (course (heading (identifier (process_name task) ∷ symbols) before table) states bodies) (p ∷ []) rest later
  last_goes task symbols before table states bodies p rest later is lt ends one = record {
    behind = record {
      table = one.behind.table;
      fits = one.behind.fits;
      said = record {
        tidy = one.behind.said.tidy;
        tells = λ name. told_both (mentions_of p) [] name (entry_in before table name) (entry_in later one.behind.table name)
            (entry_in later one.behind.table name) (one.behind.said.tells name) refl;
      };
    };
    states = one.state ∷ [];
    reads = read_more (course (heading (identifier (process_name task) ∷ symbols) before table) states bodies) task is
        ((one.state, p.body), heading rest later one.behind.table) (named task symbols) (below task lt) one.reads
        ∙ no_more (course (heading rest later one.behind.table) (states ++ one.state ∷ []) (bodies ++ p.body ∷ [])) (suc task)
        (sized states one.state task is) (ends (suc task)) (λ zero. absurd cc);
    are = ap (λ (q : Process). q ∷ []) one.is;
    apart = (one.apart, tt);
  }

  -- a process before others
  more_go : (task : ℕ) (symbols : List Symbol) (before between : Names) (table : List Entry) (states : List State) (bodies : List tree.Block)
      (p : Process) (ps : List Process) (middle rest : List Symbol) (later : Names) → length states ≡ task → task < 16
      → (one : ProcessGoes all (heading symbols before table) p middle between)
      → ProcessesGo (course (heading middle between one.behind.table) (states ++ one.state ∷ []) (bodies ++ p.body ∷ [])) ps rest later
      → ProcessesGo (course (heading (identifier (process_name task) ∷ symbols) before table) states bodies) (p ∷ ps) rest later
  more_go task symbols before between table states bodies p ps middle rest later is lt one more = record {
    behind = record {
      table = more.behind.table;
      fits = more.behind.fits;
      said = record {
        tidy = more.behind.said.tidy;
        tells = λ name. told_both (mentions_of p) (flat_map mentions_of ps) name (entry_in before table name)
            (entry_in between one.behind.table name) (entry_in later more.behind.table name) (one.behind.said.tells name)
            (more.behind.said.tells name);
      };
    };
    states = one.state ∷ more.states;
    reads = read_more (course (heading (identifier (process_name task) ∷ symbols) before table) states bodies) task is
        ((one.state, p.body), heading middle between one.behind.table) (named task symbols) (below task lt) one.reads
        ∙ more.reads
        ∙ ap (λ (l : List State). Some (course (heading rest later more.behind.table) l ((bodies ++ p.body ∷ []) ++ map body_of ps)))
        (append_assoc states (one.state ∷ []) more.states)
        ∙ ap (λ (l : List tree.Block). Some (course (heading rest later more.behind.table) (states ++ one.state ∷ more.states) l))
        (append_assoc bodies (p.body ∷ []) (map body_of ps));
    are = ap (λ (q : Process). q ∷ seen more.states (map body_of ps)) one.is ∙ ap (λ (l : List Process). p ∷ l) more.are;
    apart = (one.apart, more.apart);
  }

  processes_go : {task : ℕ} {before later : Names} {symbols rest : List Symbol} {ps : List Process} → Processes task before symbols ps rest later
      → (table : List Entry) (states : List State) (bodies : List tree.Block) → length states ≡ task → Fits all before table
      → AreTyped all (flat_map mentions_of ps) → ((n : ℕ) → is_process n (first rest) ≡ false)
      → ProcessesGo (course (heading symbols before table) states bodies) ps rest later
  processes_go (grammar.last {task = task} {before = before} {after = later} {rest = rest} lt
      (grammar.process {registers = registers} {parameters = ps} {symbols = inside} {middle = middle} {body = body} listed spelled keeps))
      table states bodies is fits typed ends =
      last_goes task (sign OpenParen ∷ inside) before table states bodies _ rest later is lt ends
      (process_goes inside middle rest before later registers table ps body listed spelled keeps fits
      (typed_first all (map mention_of ps) [] typed))
  processes_go (grammar.more {task = task} {before = before} {between = between} {after = later} {processes = later_ones} {middle = behind_it} {rest = rest} lt
      (grammar.process {registers = registers} {parameters = ps} {symbols = inside} {middle = middle} {body = body} listed spelled keeps) others)
      table states bodies is fits typed ends =
      let one = process_goes inside middle behind_it before between registers table ps body listed spelled keeps fits
      (typed_first all (map mention_of ps) (flat_map mentions_of later_ones) typed) in
      more_go task (sign OpenParen ∷ inside) before between table states bodies _ later_ones behind_it rest later is lt one
      (processes_go others one.behind.table (states ++ one.state ∷ []) (bodies ++ body ∷ []) (sized states one.state task is) one.behind.fits
      (typed_rest all (map mention_of ps) (flat_map mentions_of later_ones) typed) ends)

  pub processes_complete : (c : Course) (ps : List Process) (rest : List Symbol) (later : Names)
      → Processes (length c.states) c.heading.names c.heading.symbols ps rest later
      → Fits all c.heading.names c.heading.table → AreTyped all (flat_map mentions_of ps)
      → ((n : ℕ) → is_process n (first rest) ≡ false)
      → ProcessesGo c ps rest later
  processes_complete c ps rest later spelled fits typed ends =
      processes_go spelled c.heading.table c.states c.bodies refl fits typed ends

-- a quantifier begins no process
pub quantifier_is_no_process : (symbols rest : List Symbol) (q : Quantifier) → Quantifies symbols q rest → (n : ℕ)
    → is_process n (first symbols) ≡ false
quantifier_is_no_process symbols rest q conditions.exists n = refl
quantifier_is_no_process symbols rest q conditions.not_exists n = refl
quantifier_is_no_process symbols rest q conditions.for_all n = refl
