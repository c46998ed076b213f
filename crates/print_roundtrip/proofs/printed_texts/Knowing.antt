-- What the condition knows of a variable is known beside the items of the printed form.
use Rattle.std.proofs.Common.{inl, inr, ◌≡◌, ◌≢◌, ◌∙◌, ℕ, List, [], ◌∷◌, Option, Some, None, map, sym, ap, subst}
use Rattle.std.proofs.lemmas.List.Elements.{Contains-append_left, Contains-append_right}
use Rattle.std.specs.Prelude.{◌⊎◌, Contains, flat_map, option_map, unwrap_or}
use Rattle.litmus_syntax.specs.declared.program.Contents.{Contents}
use Rattle.litmus_syntax.specs.declared.program.Variable.{Variable}
use Rattle.litmus_syntax.specs.PrintedForm.{variable_name}
use Rattle.litmus_syntax.specs.Tree as tree
use Rattle.litmus_lex.specs.declared.words.VariableType.{VariableType}
use Rattle.litmus_lex.specs.declared.words.VariableType.TheVariants.{Int, Lock}
use Rattle.litmus_lex.specs.Words.{Symbol}
use Rattle.litmus_expression.specs.Followed.{Differ}
use Rattle.litmus_expression.specs.Names.{Names, Numbered, Parameter, known, new}
use Rattle.litmus_expression.proofs.Named.{among, in_front, in_none, in_rest}
use Rattle.litmus_parse.specs.Conditions.{IsKnown}
use Rattle.litmus_parse.specs.Grammar.{Grammar, mentions_of, said_by}
use Rattle.litmus_parse.specs.Headers as headers
use Rattle.litmus_parse.specs.Headers.{IsProcess, Listed, Parameters, Process, Processes, mention_of}
use Rattle.litmus_parse.specs.Mentions as mentions
use Rattle.litmus_parse.specs.Mentions.{AreNumbered, HasType, Mention, Said, Says, contents_of, item, parameter}
use Rattle.print_roundtrip.specs.printed_texts.PrintedNames.{IsOf}
use Rattle.print_roundtrip.specs.printed_texts.PrintedProcess.{type_of}
use Rattle.print_roundtrip.specs.printed_texts.PrintedProgram as printed
use Rattle.print_roundtrip.proofs.printed_texts.Declarations.{got, split, typed}
use Rattle.print_roundtrip.proofs.printed_texts.Wholes.{declared_at, type_kept}

-- ---- each name has a mention

-- a name stood before, or one of these mentions has it
abbrev Mentioned : Names → List Mention → List ℕ → Type 1
Mentioned before ms x = (R : Type 0) → (Contains before x → R) → ((m : Mention) → Contains ms m → m.name ≡ x → R) → R

numbered_mentioned : {limit number : ℕ} {name : List ℕ} {before later : Names} → Numbered limit before name number later → (x : List ℕ)
    → Contains later x → (R : Type 0) → (Contains before x → R) → (name ≡ x → R) → R
numbered_mentioned (known there) x at R f g = f at
numbered_mentioned {name = name} {before = before} (new out lt) x at R f g =
    split before (name ∷ []) x R at f (λ last. among name x [] R last g (λ never. absurd (in_none x never)))

items_mentioned : {before later : Names} {ms : List Mention} → AreNumbered before ms later → (x : List ℕ) → Contains later x
    → Mentioned before ms x
items_mentioned mentions.none x at R f g = f at
items_mentioned (mentions.more {mention = m} {later = ms} n rest) x at R f g =
    items_mentioned rest x at R
    (λ between. numbered_mentioned n x between R f (λ same. g m (in_front m ms) same))
    (λ k there same. g k (in_rest m k ms there) same)

listed_mentioned : {before later : Names} {symbols rest : List Symbol} {ps : List Parameter} → Listed before symbols ps rest later
    → (x : List ℕ) → Contains later x → Mentioned before (map mention_of ps) x
listed_mentioned (headers.last {type = t} {name = name} {variable = v} n) x at R f g =
    numbered_mentioned n x at R f (λ same. g (mention_of (headers.parameter_of name v t)) (in_front _ []) same)
listed_mentioned (headers.more {type = t} {name = name} {variable = v} {parameters = ps} n others out) x at R f g =
    listed_mentioned others x at R
    (λ between. numbered_mentioned n x between R f (λ same. g (mention_of (headers.parameter_of name v t)) (in_front _ (map mention_of ps)) same))
    (λ k there same. g k (in_rest (mention_of (headers.parameter_of name v t)) k (map mention_of ps) there) same)

parameters_mentioned : {before later : Names} {symbols rest : List Symbol} {ps : List Parameter} → Parameters before symbols ps rest later
    → (x : List ℕ) → Contains later x → Mentioned before (map mention_of ps) x
parameters_mentioned headers.none x at R f g = f at
parameters_mentioned (headers.some l) x at R f g = listed_mentioned l x at R f g

process_mentioned : {task : ℕ} {before later : Names} {symbols rest : List Symbol} {p : Process} → IsProcess task before symbols p rest later
    → (x : List ℕ) → Contains later x → Mentioned before (map mention_of p.parameters) x
process_mentioned (headers.process listed inside keeps) x at R f g = parameters_mentioned listed x at R f g

processes_mentioned : {task : ℕ} {before later : Names} {symbols rest : List Symbol} {ps : List Process}
    → Processes task before symbols ps rest later → (x : List ℕ) → Contains later x → Mentioned before (flat_map mentions_of ps) x
processes_mentioned (headers.last {process = p} lt is) x at R f g =
    process_mentioned is x at R f (λ m there same. g m (Contains-append_left (map mention_of p.parameters) [] m there) same)
processes_mentioned (headers.more {process = p} {processes = ps} lt is others) x at R f g =
    processes_mentioned others x at R
    (λ between. process_mentioned is x between R f
    (λ m there same. g m (Contains-append_left (map mention_of p.parameters) (flat_map mentions_of ps) m there) same))
    (λ m there same. g m (Contains-append_right (map mention_of p.parameters) (flat_map mentions_of ps) m there) same)

-- ---- a name that is no lock's by one type is none by another

lock_said : (all : List Mention) (name : List ℕ) (t : VariableType) → HasType all name t → HasType all name Lock → (s : Said) → Says all name s
    → t ≡ Lock
lock_said all name t one two (item None value) says = either (two.untyped value says)
  where
    either : (Lock ≡ Int) ⊎ Says all name (parameter Lock) → t ≡ Lock
    either (inl never) = absurd cc
    either (inr there) = one.parameters Lock there
lock_said all name t one two (item (Some g) value) says = one.items g value says ∙ sym (two.items g value says)
lock_said all name t one two (parameter g) says = one.parameters g says ∙ sym (two.parameters g says)

module _ (symbols : List Symbol) (p : tree.Program) (g : Grammar symbols p) (own : Differ (map (λ (v : Variable). v.name) p.variables))
    (are : (q : Process) → Contains g.later q → (r : Parameter) → Contains q.parameters r → IsOf p.variables g.names r) where
  abbrev all : List Mention
  all = said_by g.items g.processes

  not_lock : (name : List ℕ) (v : ℕ) (t : VariableType) → IsKnown all g.names name v → HasType all name t → t ≢ Lock
  not_lock name v t is has = λ lock.
      let lock_has : HasType all name Lock = subst (λ (u : VariableType). HasType all name u) lock has in
      let same : (m : Mention) → Contains all m → m.name ≡ name → is.type ≡ Lock = λ m there called.
      lock_said all name is.type is.typed lock_has m.said
      (subst (λ (n : List ℕ). Contains all (record { name = n; said = m.said })) called there) in
      is.no_lock (processes_mentioned g.bodies name (got g.names v name is.stands) (is.type ≡ Lock)
      (λ before. items_mentioned g.numbered name before (is.type ≡ Lock) (λ never. absurd (in_none name never))
      (λ m there called. same m (Contains-append_left g.items (flat_map mentions_of g.processes) m there) called))
      (λ m there called. same m (Contains-append_right g.items (flat_map mentions_of g.processes) m there) called))

  pub known_printed : (name : List ℕ) (v : ℕ) → IsKnown all g.names name v
      → IsKnown (said_by (map printed.mention_of p.variables) g.later) g.names (variable_name p.variables v) v
  known_printed name v is =
      let d = declared_at g.declared v name is.stands in
      let w : Variable = d.variable in
      let called : variable_name p.variables v ≡ name =
      ap (λ (o : Option Variable). unwrap_or (option_map (λ (x : Variable). x.name) o) []) d.there ∙ d.is.name_is in
      let kept : type_of w.contents ≡ d.is.type =
      ap (λ (c : Contents). type_of c) d.is.contents ∙ type_kept d.is.type (mentions.last_value all name 0) in
      record {
        type = type_of w.contents;
        stands = is.stands ∙ ap (λ (n : List ℕ). Some n) (sym called);
        typed = subst (λ (n : List ℕ). HasType (said_by (map printed.mention_of p.variables) g.later) n (type_of w.contents))
            (d.is.name_is ∙ sym called)
            (typed p.variables g.names own g.later are w (got p.variables v w d.there));
        no_lock = λ lock. not_lock name v d.is.type is d.is.typed (sym kept ∙ lock);
      }
