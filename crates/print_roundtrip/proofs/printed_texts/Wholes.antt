-- The processes of a program have names that may be printed.
use Rattle.std.proofs.Common.{◌≡◌, ◌∙◌, ◌≤◌, ℕ, zero, suc, List, [], ◌∷◌, Some, length, map, refl, ap, subst, arith}
use Rattle.std.proofs.lemmas.List.Elements.{Contains-append_left, Contains-append_right}
use Rattle.std.specs.Prelude.{Contains, flat_map, slice_get}
use Rattle.litmus_syntax.specs.declared.program.Contents.{Contents}
use Rattle.litmus_syntax.specs.declared.program.Variable.{Variable}
use Rattle.litmus_syntax.specs.Tree as tree
use Rattle.litmus_lex.specs.declared.words.VariableType.{VariableType}
use Rattle.litmus_lex.specs.declared.words.VariableType.TheVariants.{Char, Short, Int, Long, Atomic, Lock}
use Rattle.litmus_lex.specs.Words.{Symbol}
use Rattle.litmus_expression.specs.Followed.{Differ, name_of}
use Rattle.litmus_expression.specs.Names.{Names, Parameter}
use Rattle.litmus_expression.proofs.Named.{in_none}
use Rattle.litmus_expression.proofs.Taken.{same_given}
use Rattle.litmus_body.proofs.statement_laws.Named.{Named, statements_named}
use Rattle.litmus_parse.specs.Grammar.{Grammar, mentions_of, said_by}
use Rattle.litmus_parse.specs.Headers as headers
use Rattle.litmus_parse.specs.Headers.{IsProcess, Listed, Parameters, Process, Processes, mention_of}
use Rattle.litmus_parse.specs.Mentions as mentions
use Rattle.litmus_parse.specs.Mentions.{AreDeclared, IsDeclared, Mention, contents_of}
use Rattle.litmus_parse.proofs.Becomes.{At, Becomes, Grown, at_grown, at_there, becomes_then, mention_there, mentions_become, parameters_are}
use Rattle.print_roundtrip.specs.printed_texts.PrintedNames.{IsOf}
use Rattle.print_roundtrip.specs.printed_texts.PrintedProcess.{type_of}
use Rattle.print_roundtrip.specs.printed_texts.Whole.{AllWhole, Whole}
use Rattle.print_roundtrip.proofs.printed_texts.Free.{statements_free}

-- the variable of a number
pub record DeclaredAt (all : List Mention) (variables : List Variable) (k : ℕ) (name : List ℕ) : Type 0 where
  pub variable : Variable
  pub there : slice_get variables k ≡ Some variable
  pub is : IsDeclared all name variable

pub declared_at : {all : List Mention} {names : Names} {variables : List Variable} → AreDeclared all names variables → (k : ℕ) (name : List ℕ)
    → slice_get names k ≡ Some name → DeclaredAt all variables k name
declared_at mentions.none k name there = absurd cc
declared_at {all} (mentions.more {name = first} {variable = v} is later) zero name there =
    record { variable = v; there = refl; is = subst (λ (n : List ℕ). IsDeclared all n v) (same_given first name there) is }
declared_at {all} (mentions.more is later) (suc k) name there =
    let d = declared_at later k name there in record { variable = d.variable; there = d.there; is = d.is }

pub type_kept : (t : VariableType) (value : ℕ) → type_of (contents_of t value) ≡ t
type_kept Char value = refl
type_kept Short value = refl
type_kept Int value = refl
type_kept Long value = refl
type_kept Atomic value = refl
type_kept Lock value = refl

listed_differ : {before later : Names} {symbols rest : List Symbol} {ps : List Parameter} → Listed before symbols ps rest later
    → Differ (map name_of ps)
listed_differ (headers.last n) = (in_none _, tt)
listed_differ (headers.more n others out) = (out, listed_differ others)

parameters_differ : {before later : Names} {symbols rest : List Symbol} {ps : List Parameter} → Parameters before symbols ps rest later
    → Differ (map name_of ps)
parameters_differ headers.none = tt
parameters_differ (headers.some l) = listed_differ l

module _ (all : List Mention) (names : Names) (variables : List Variable) (declared : AreDeclared all names variables) where
  parameter_is : (ps : List Parameter) → At names ps → ((m : Mention) → Contains (map mention_of ps) m → Contains all m) → (p : Parameter)
      → Contains ps p → IsOf variables names p
  parameter_is ps at said p there =
      let numbered = at_there names ps p at there in
      let d = declared_at declared p.variable p.name numbered in
      let same : d.is.type ≡ p.type = d.is.typed.parameters p.type (said (mention_of p) (mention_there ps p there)) in
      record {
        variable = d.variable;
        there = d.there;
        named = d.is.name_is;
        typed = ap (λ (c : Contents). type_of c) d.is.contents ∙ type_kept d.is.type (mentions.last_value all p.name 0) ∙ same;
        numbered = numbered;
      }

  record Reads (before later : Names) (p : Process) : Type 0 where
    becomes : Becomes before later
    at : At later p.parameters
    whole : At names p.parameters → ((m : Mention) → Contains (map mention_of p.parameters) m → Contains all m) → Whole variables names p

  one_is : {task : ℕ} {before later : Names} {symbols rest : List Symbol} {p : Process} → Named before
      → IsProcess task before symbols p rest later → Reads before later p
  one_is named (headers.process {registers = registers} {parameters = ps} {middle = middle} {body = body} listed inside keeps) =
      let l = parameters_are named listed in
      let none : 0 ≤ 32 = omega arith in
      let n = statements_named (record { differ = tt; few = none }) inside in
      record {
        becomes = l.becomes;
        at = l.at;
        whole = λ at said. record {
          are = record {
            parameters_are = parameter_is ps at said;
            parameters_differ = parameters_differ listed;
            registers_differ = n.differ;
            registers_few = n.few;
            registers_free = (statements_free inside).free (λ m never. absurd (in_none m never));
          };
          before = registers;
          symbols = middle;
          behind = _;
          spelled = inside;
          keeps = keeps;
          grown = λ k name there. there;
        };
      }

  record AllReads (before later : Names) (ps : List Process) : Type 0 where
    becomes : Becomes before later
    whole : Grown later names → ((m : Mention) → Contains (flat_map mentions_of ps) m → Contains all m) → AllWhole variables names ps

  many_are : {task : ℕ} {before later : Names} {symbols rest : List Symbol} {ps : List Process} → Named before
      → Processes task before symbols ps rest later → AllReads before later ps
  many_are {later = later} named (headers.last {process = p} lt is) =
      let one = one_is named is in
      record {
        becomes = one.becomes;
        whole = λ grown said. (
          one.whole (at_grown later names p.parameters grown one.at)
              (λ m there. said m (Contains-append_left (map mention_of p.parameters) [] m there)),
          tt,
        );
      }
  many_are {before = before} {later = later} named (headers.more {between = between} {process = p} {processes = ps} lt is others_are) =
      let one = one_is named is in
      let two = many_are one.becomes.named others_are in
      record {
        becomes = becomes_then before between later one.becomes two.becomes;
        whole = λ grown said. (
          one.whole (at_grown between names p.parameters (λ k x there. grown k x (two.becomes.grown k x there)) one.at)
              (λ m there. said m (Contains-append_left (map mention_of p.parameters) (flat_map mentions_of ps) m there)),
          two.whole grown (λ m there. said m (Contains-append_right (map mention_of p.parameters) (flat_map mentions_of ps) m there)),
        );
      }

-- the names of a program that some symbols spell
pub record Names_of (symbols : List Symbol) (p : tree.Program) (g : Grammar symbols p) : Type 0 where
  pub differ : Differ g.names
  pub few : length g.names ≤ 32
  pub whole : AllWhole p.variables g.names g.processes

pub names_are : (symbols : List Symbol) (p : tree.Program) (g : Grammar symbols p) → Names_of symbols p g
names_are symbols p g =
    let none : 0 ≤ 32 = omega arith in
    let items = mentions_become (record { differ = tt; few = none }) g.numbered in
    let many = many_are (said_by g.items g.processes) g.names p.variables g.declared items.named g.bodies in
    record {
      differ = many.becomes.named.differ;
      few = many.becomes.named.few;
      whole = many.whole (λ k x there. there) (λ m there. Contains-append_right g.items (flat_map mentions_of g.processes) m there);
    }

-- variables have names of their own
pub own_names : {all : List Mention} {names : Names} {variables : List Variable} → AreDeclared all names variables
    → map (λ (v : Variable). v.name) variables ≡ names
own_names mentions.none = refl
own_names (mentions.more {names = names} {variables = variables} {name = name} {variable = v} is later) =
    ap (λ (n : List ℕ). n ∷ map (λ (w : Variable). w.name) variables) is.name_is ∙ ap (λ (l : Names). name ∷ l) (own_names later)
