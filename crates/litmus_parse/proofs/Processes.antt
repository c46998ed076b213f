-- What is read as processes is spelled as such.
use Rattle.std.proofs.Common.{◌≡◌, ◌∙◌, ◌++◌, ◌<◌, ◌≤◌, ◌==◌, ℕ, zero, suc, List, [], ◌∷◌, Bool, true, false, cond, Option, Some, None}
use Rattle.std.proofs.Common.{length, map, refl, sym, ap, subst, append_assoc, arith}
use Rattle.std.specs.Prelude.{flat_map}
use Rattle.std.proofs.lemmas.Bool.{eqb-false}
use Rattle.std.proofs.lemmas.List.{length-append}
use Rattle.litmus_lex.specs.declared.sign.Sign.TheVariants.{OpenParen}
use Rattle.litmus_syntax.specs.Limits.{BodyKeepsLimits}
use Rattle.litmus_syntax.specs.Tree as tree
use Rattle.litmus_lex.specs.Front.{◌>>=◌, first, identifier_at, others}
use Rattle.litmus_lex.specs.Words.{Symbol, identifier, sign}
use Rattle.litmus_expression.specs.Names.{Parameter}
use Rattle.litmus_expression.specs.Places.{outermost}
use Rattle.litmus_expression.specs.States.{State, entering}
use Rattle.litmus_expression.proofs.Fewer.{at_last, behind_it}
use Rattle.litmus_expression.proofs.Named.{same_name}
use Rattle.litmus_expression.proofs.Taken.{front, same_given}
use Rattle.litmus_body.specs.StatementReader.{block_at}
use Rattle.litmus_body.specs.statement_laws.Reads.{ReadsWhole}
use Rattle.litmus_body.proofs.statement_laws.Kept.{whole_keeps}
use Rattle.litmus_body.proofs.statement_laws.Sound.{whole_reads}
use Rattle.litmus_parse.specs.ItemReader.{Heading, past}
use Rattle.litmus_parse.specs.Mentions.{Mention}
use Rattle.litmus_parse.specs.ParameterReader.{parameters_at}
use Rattle.litmus_parse.specs.Seen.{process_of}
use Rattle.litmus_parse.specs.Seen.{seen}
use Rattle.litmus_parse.specs.Mentioned.{all_told, told_of}
use Rattle.litmus_parse.specs.Turns.{again, done, going, turned}
use Rattle.litmus_parse.specs.Entries.{Entry}
use Rattle.litmus_parse.proofs.Items.{identifier_is}
use Rattle.litmus_parse.proofs.Listed.{ReadsParameters, parameters_read}
use Rattle.litmus_parse.proofs.PropositionSound.{AllFew}
use Rattle.litmus_parse.proofs.Spelled.{Said}
use Rattle.litmus_parse.proofs.Tidy.{Tidy, entry_in}
use Rattle.litmus_parse.proofs.Unrolled.{Listing}
use Rattle.litmus_parse.specs.Grammar.{mentions_of}
use Rattle.litmus_parse.specs.Headers as grammar
use Rattle.litmus_parse.specs.Headers.{IsProcess, Parameters, Process, Processes, mention_of, name_of, process_name}
use Rattle.litmus_parse.specs.ProcessReader.{Course, and_process, is_called, is_process, process_at, process_with, processes_at}
use Rattle.litmus_parse.specs.ProcessReader.{processes_by}

abbrev Found : Type 0
Found = (State × tree.Block) × Heading

-- a process behind its name
pub record ReadsProcess (h : Heading) (x : Found) : Type 0 where
  pub spelled : (task : ℕ) → IsProcess task h.names (identifier (process_name task) ∷ h.symbols) (process_of x.0.0 x.0.1) x.1.symbols x.1.names
  pub said : Said (map mention_of x.0.0.parameters) h x.1
  pub within : length x.0.0.names ≤ 32

process_read : (h : Heading) (x : Found) → Tidy h.names h.table → process_at h ≡ Some x → ReadsProcess h x
unfolding process_at
process_read h x tidy e =
    behind_it (parameters_at h) (λ p. process_with p) (λ (y : Found). ReadsProcess h y) x e (λ p is e.
    behind_it (block_at outermost (entering p.0 p.1.symbols)) (λ b. Some ((b.1, b.0), record p.1 { symbols = b.1.symbols }))
    (λ (y : Found). ReadsProcess h y) x e (λ b body e.
    at_last _ (λ (y : Found). ReadsProcess h y) x e (one h p b (parameters_read h p tidy is)
    (whole_reads (entering p.0 p.1.symbols) b refl body) (whole_keeps p.0 p.1.symbols b body))))
  where
    one : (h : Heading) (p : Listing) (b : tree.Block × State) → ReadsParameters h p → ReadsWhole (entering p.0 p.1.symbols) b
        → BodyKeepsLimits b.0 → ReadsProcess h ((b.1, b.0), record p.1 { symbols = b.1.symbols })
    one h p b r w keeps = record {
      spelled = λ task.
          subst (λ (l : List Symbol). IsProcess task h.names (identifier (process_name task) ∷ l)
          (process_of b.1 b.0) b.1.symbols p.1.names) (sym r.opens)
          (subst (λ (ps : List Parameter). IsProcess task h.names (identifier (process_name task) ∷ sign OpenParen ∷ r.inside)
          (record { parameters = ps; registers = b.1.names; body = b.0 }) b.1.symbols p.1.names) (sym w.parameters)
          (grammar.process (subst (λ (l : List Symbol). Parameters h.names r.inside p.0 l p.1.names) w.opens r.spelled) w.spelled keeps));
      said = subst (λ (ps : List Parameter). Said (map mention_of ps) h (record p.1 { symbols = b.1.symbols })) (sym w.parameters)
          (record { tidy = r.said.tidy; tells = r.said.tells });
      within = w.within;
    }

-- ---- one process behind the other

abbrev pub Pair : Type 0
Pair = State × tree.Block

abbrev pub proc : Pair → Process
proc x = process_of x.0 x.1

abbrev pub state : Pair → State
state x = x.0

abbrev pub body : Pair → tree.Block
body x = x.1

-- the course with one more process
abbrev pub grew : Course → Found → Course
grew c p = record { heading = p.1; states = c.states ++ p.0.0 ∷ []; bodies = c.bodies ++ p.0.1 ∷ [] }

abbrev pub SomeProcesses : Course → List Pair → Course → Type 0
SomeProcesses c [] d = Unit {0}
SomeProcesses c (x ∷ later) d =
    Processes (length c.states) c.heading.names c.heading.symbols (map proc (x ∷ later)) d.heading.symbols d.heading.names

-- what processes are read behind others
pub record Reads (c : Course) (later : List Pair) (d : Course) : Type 0 where
  pub states : d.states ≡ c.states ++ map state later
  pub bodies : d.bodies ≡ c.bodies ++ map body later
  pub none : later ≡ [] → c ≡ d
  pub spelled : SomeProcesses c later d
  pub said : Said (flat_map mentions_of (map proc later)) c.heading d.heading
  pub some : length c.states ≡ 0 → later ≡ [] → ⊥
  pub few : AllFew (map state later)

append_nothing : {A : Type 0} (xs : List A) → xs ≡ xs ++ []
append_nothing [] = refl
append_nothing (x ∷ xs) = ap (λ (l : List _). x ∷ l) (append_nothing xs)

pub told_both : (one two : List Mention) (name : List ℕ) (e f g : Entry) → all_told one name e ≡ Some f → all_told two name f ≡ Some g
    → all_told (one ++ two) name e ≡ Some g
told_both [] two name e f g first later = subst (λ (h : Entry). all_told two name h ≡ Some g) (sym (same_given e f first)) later
told_both (m ∷ one) two name e f g first later =
    behind_it (told_of name m e) (λ h. all_told one name h) (λ (k : Entry). k ≡ f → all_told (m ∷ (one ++ two)) name e ≡ Some g) f first
    (λ h is first here. ap (λ (o : Option Entry). o >>= λ k. all_told (one ++ two) name k) is
    ∙ told_both one two name h f g first later) refl

mentions_same : (ps : List Parameter) (s : State) (b : tree.Block) → s.parameters ≡ ps → mentions_of (process_of s b) ≡ map mention_of ps
mentions_same ps s b is = ap (λ (l : List Parameter). map mention_of l) is

module _ (c d : Course) (p : Found) (tidy : Tidy c.heading.names c.heading.table) (few : length c.states < 16)
    (begins : c.heading.symbols ≡ identifier (process_name (length c.states)) ∷ others c.heading.symbols)
    (r : ReadsProcess (past c.heading) p) where
  process_first : (later : List Pair) → Reads (grew c p) later d
      → Processes (length c.states) c.heading.names c.heading.symbols (map proc (p.0 ∷ later)) d.heading.symbols d.heading.names
  process_first [] rest =
      let is : IsProcess (length c.states) c.heading.names c.heading.symbols (proc p.0) p.1.symbols p.1.names =
      subst (λ (l : List Symbol). IsProcess (length c.states) c.heading.names l (proc p.0) p.1.symbols p.1.names) (sym begins)
      (r.spelled (length c.states)) in
      let same = rest.none refl in
      subst (λ (e : Course). Processes (length c.states) c.heading.names c.heading.symbols
      (proc p.0 ∷ []) e.heading.symbols e.heading.names) same
      (grammar.last few is)
  process_first (x ∷ later) rest =
      let is : IsProcess (length c.states) c.heading.names c.heading.symbols (proc p.0) p.1.symbols p.1.names =
      subst (λ (l : List Symbol). IsProcess (length c.states) c.heading.names l (proc p.0) p.1.symbols p.1.names) (sym begins)
      (r.spelled (length c.states)) in
      let count : length (c.states ++ p.0.0 ∷ []) ≡ suc (length c.states) =
      (let n = length-append c.states (p.0.0 ∷ []) in omega (arith, n)) in
      grammar.more few is
      (subst (λ (n : ℕ). Processes n p.1.names p.1.symbols (map proc (x ∷ later)) d.heading.symbols d.heading.names) count
      rest.spelled)

  one_more : (later : List Pair) → Reads (grew c p) later d → Reads c (p.0 ∷ later) d
  one_more later rest = record {
    states = rest.states ∙ append_assoc c.states (p.0.0 ∷ []) (map state later);
    bodies = rest.bodies ∙ append_assoc c.bodies (p.0.1 ∷ []) (map body later);
    none = λ none. absurd cc;
    spelled = process_first later rest;
    said = record {
      tidy = rest.said.tidy;
      tells = λ name. told_both (map mention_of p.0.0.parameters) (flat_map mentions_of (map proc later)) name
          (entry_in c.heading.names c.heading.table name) (entry_in p.1.names p.1.table name)
          (entry_in d.heading.names d.heading.table name)
          (r.said.tells name) (rest.said.tells name);
    };
    some = λ zero none. absurd cc;
    few = (r.within, rest.few);
  }

-- the processes that are read
pub record Follow (c d : Course) : Type 0 where
  pub later : List Pair
  pub reads : Reads c later d

called_is : (name : List ℕ) (y : Symbol) (o : Option (List ℕ)) → identifier_at y ≡ o → is_called name o ≡ true → y ≡ identifier name
called_is name y None is e = absurd cc
called_is name y (Some found) is e = identifier_is y found is ∙ ap (λ (n : List ℕ). identifier n) (same_name found name e)

process_next : (c : Course) → is_process (length c.states) (first c.heading.symbols) ≡ true
    → c.heading.symbols ≡ identifier (process_name (length c.states)) ∷ others c.heading.symbols
process_next c is =
    front c.heading.symbols (identifier (process_name (length c.states)))
    (called_is (process_name (length c.states)) (first c.heading.symbols) (identifier_at (first c.heading.symbols)) refl is) (λ never. cc)

abbrev Later : ℕ → Course → Type 0
Later f d = (e : Course) → Tidy e.heading.names e.heading.table → length e.states ≤ 16 → going processes_by f e ≡ Some d → Follow e d

below : (n : ℕ) → n ≤ 16 → (n == 16) ≡ false → n < 16
below n le e = let no = eqb-false n 16 e in omega (arith, no)

-- another process, or none
process_behind : (f : ℕ) (c d : Course) → Tidy c.heading.names c.heading.table → length c.states ≤ 16 → Later f d
    → is_process (length c.states) (first c.heading.symbols) ≡ true → (full : Bool) → (length c.states == 16) ≡ full
    → (o : Option Found) → process_at (past c.heading) ≡ o
    → (cond full None (o >>= λ p. Some (again (grew c p))) >>= λ t. turned (going processes_by f) t) ≡ Some d → Follow c d
process_behind f c d tidy most later begins true full o is e = absurd cc
process_behind f c d tidy most later begins false few None is e = absurd cc
process_behind f c d tidy most later begins false few (Some p) is e =
    let r = process_read (past c.heading) p tidy is in
    let lt = below (length c.states) most few in
    let n = length-append c.states (p.0.0 ∷ []) in
    let rest = later (grew c p) r.said.tidy (omega (arith, n, lt)) e in
    record { later = p.0 ∷ rest.later; reads = one_more c d p tidy lt (process_next c begins) r rest.later rest.reads }

no_more : (f : ℕ) (c d : Course) → Tidy c.heading.names c.heading.table → (none : Bool) → (length c.states == 0) ≡ none
    → (cond none None (Some (done c)) >>= λ t. turned (going processes_by f) t) ≡ Some d → Follow c d
no_more f c d tidy true none e = absurd cc
no_more f c d tidy false some e =
    subst (λ (x : Course). Follow c x) (same_given c d e) (record {
      later = [];
      reads = record {
        states = append_nothing c.states;
        bodies = append_nothing c.bodies;
        none = λ none. refl;
        spelled = tt;
        said = record { tidy = tidy; tells = λ name. refl };
        some = λ zero none. eqb-false (length c.states) 0 some zero;
        few = tt;
      };
    })

processes_from : (f : ℕ) (c d : Course) → Tidy c.heading.names c.heading.table → length c.states ≤ 16 → Later f d
    → (b : Bool) → is_process (length c.states) (first c.heading.symbols) ≡ b
    → (cond b (and_process c) (cond (length c.states == 0) None (Some (done c))) >>= λ t. turned (going processes_by f) t) ≡ Some d
    → Follow c d
processes_from f c d tidy most later true is e = process_behind f c d tidy most later is (length c.states == 16) refl
    (process_at (past c.heading)) refl e
processes_from f c d tidy most later false none e = no_more f c d tidy (length c.states == 0) refl e

processes_going : (f : ℕ) (c d : Course) → Tidy c.heading.names c.heading.table → length c.states ≤ 16 → going processes_by f c ≡ Some d
    → Follow c d
unfolding going
processes_going zero c d tidy most e = absurd cc
processes_going (suc f) c d tidy most e =
    processes_from f c d tidy most (λ u t n e. processes_going f u d t n e) (is_process (length c.states) (first c.heading.symbols)) refl e

pub processes_read : (c d : Course) → Tidy c.heading.names c.heading.table → length c.states ≤ 16 → processes_at c ≡ Some d → Follow c d
unfolding processes_at
processes_read c d tidy most e = processes_going (suc (length c.heading.symbols)) c d tidy most e

-- ---- what is seen of processes

pub seen_is : (later : List Pair) → seen (map state later) (map body later) ≡ map proc later
seen_is [] = refl
seen_is (x ∷ later) = ap (λ (l : List Process). proc x ∷ l) (seen_is later)
