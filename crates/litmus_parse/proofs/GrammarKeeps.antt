-- A program that symbols spell keeps the limits and the rules of types, where the symbols are no more than a text can
-- have.
use Rattle.std.proofs.Common.{◌≡◌, ◌≢◌, ◌∙◌, ◌+◌, ◌*◌, ◌<◌, ◌≤◌, ℕ, zero, suc, List, [], ◌∷◌, Some, length, map, refl, sym, ap}
use Rattle.std.proofs.Common.{subst, arith}
use Rattle.std.specs.Prelude.{All, Contains, flat_map, set, slice_get}
use Rattle.std.proofs.lemmas.List.{length-map, length-set}
use Rattle.std.proofs.lemmas.List.Kept.{AllPairs-cons}
use Rattle.std.proofs.Math.Nat.{mul-le-mul_left}
use Rattle.litmus_syntax.specs.declared.program.Contents.{Contents}
use Rattle.litmus_syntax.specs.declared.program.Variable.{Variable}
use Rattle.litmus_syntax.specs.Limits as limits
use Rattle.litmus_syntax.specs.Limits.{BlockTyped, BodyKeepsLimits, HaveOwnNames, IsOfSort, KeepsLimits, Sort, TaskKeepsLimits, block_rises}
use Rattle.litmus_syntax.specs.Tree as tree
use Rattle.litmus_lex.specs.declared.words.VariableType.{VariableType}
use Rattle.litmus_lex.specs.declared.words.VariableType.TheVariants.{Char, Short, Int, Long, Atomic, Lock}
use Rattle.litmus_lex.specs.Words.{Symbol}
use Rattle.litmus_expression.specs.Followed.{Differ}
use Rattle.litmus_expression.specs.Names.{HasBytes, IsAtomic, IsInteger, IsLock, IsVariable, Names, Numbered, Parameter}
use Rattle.litmus_expression.proofs.Named.{in_front, in_rest}
use Rattle.litmus_expression.proofs.Taken.{same_given}
use Rattle.litmus_body.proofs.statement_laws.Named.{Named, numbered_named, statements_named}
use Rattle.litmus_parse.specs.Conditions as conditions
use Rattle.litmus_parse.specs.Conditions.{Atom, Conjoined, Disjoined, Negation, with_registers}
use Rattle.litmus_parse.specs.Mentions as mentions
use Rattle.litmus_parse.specs.Mentions.{AreDeclared, IsDeclared, Mention, contents_of, parameter}
use Rattle.litmus_parse.proofs.Items.{item_fewer}
use Rattle.litmus_parse.specs.Grammar.{Grammar, mentions_of, said_by, task_of}
use Rattle.litmus_parse.specs.Headers as headers
use Rattle.litmus_parse.specs.Headers.{IsProcess, Items, Process, Processes, mention_of}
use Rattle.litmus_parse.proofs.Becomes.{At, Becomes, Grown, at_grown, at_there, becomes_then, mention_there, mentions_become, parameters_are}
use Rattle.litmus_parse.proofs.NamesSpelled.{all_more}
use Rattle.litmus_parse.proofs.ProcessesComplete.{contains_first, contains_rest}
use Rattle.litmus_parse.proofs.RegistersTyped.{Sorted, numbered_grow, statements_typed}
use Rattle.litmus_parse.proofs.Rises.{body_rises}

items_shorter : {symbols rest : List Symbol} {items : List Mention} → Items symbols items rest → length rest ≤ length symbols
items_shorter headers.none = omega arith
items_shorter (headers.last i) = let lt = item_fewer i in omega arith
items_shorter (headers.more i later) = let lt = item_fewer i in let le = items_shorter later in omega arith

-- ---- variables have the sorts of their types

of_integers : (t : VariableType) (value : ℕ) → IsInteger t → limits.IsInteger (contents_of t value)
of_integers Char value is = tt
of_integers Short value is = tt
of_integers Int value is = tt
of_integers Long value is = tt
of_integers Atomic value is = absurd is
of_integers Lock value is = absurd is

of_atomics : (t : VariableType) (value : ℕ) → IsAtomic t → limits.IsAtomic (contents_of t value)
of_atomics t value is = subst (λ (u : VariableType). limits.IsAtomic (contents_of u value)) (sym is) tt

of_locks : (t : VariableType) (value : ℕ) → IsLock t → limits.IsLock (contents_of t value)
of_locks t value is = subst (λ (u : VariableType). limits.IsLock (contents_of u value)) (sym is) tt

of_memory : (t : VariableType) (value : ℕ) → HasBytes t → ¬ limits.IsLock (contents_of t value)
of_memory Char value is = λ never. never
of_memory Short value is = λ never. never
of_memory Int value is = λ never. never
of_memory Long value is = λ never. never
of_memory Atomic value is = λ never. never
of_memory Lock value is = absurd (is refl)

-- the variable of a number
record DeclaredAt (all : List Mention) (variables : List Variable) (k : ℕ) (name : List ℕ) : Type 0 where
  variable : Variable
  there : slice_get variables k ≡ Some variable
  is : IsDeclared all name variable

declared_at : {all : List Mention} {names : Names} {variables : List Variable} → AreDeclared all names variables → (k : ℕ) (name : List ℕ)
    → slice_get names k ≡ Some name → DeclaredAt all variables k name
declared_at mentions.none k name there = absurd cc
declared_at {all} (mentions.more {name = first} {variable = v} is later) zero name there =
    record { variable = v; there = refl; is = subst (λ (n : List ℕ). IsDeclared all n v) (same_given first name there) is }
declared_at {all} (mentions.more is later) (suc k) name there =
    let d = declared_at later k name there in record { variable = d.variable; there = d.there; is = d.is }

declared_sized : {all : List Mention} {names : Names} {variables : List Variable} → AreDeclared all names variables
    → length variables ≡ length names
declared_sized mentions.none = refl
declared_sized (mentions.more is later) = let same = declared_sized later in omega arith

-- ---- variables have names of their own

apart_from : {all : List Mention} {names : Names} {variables : List Variable} → AreDeclared all names variables → (v : Variable)
    → ¬ Contains names v.name → All (λ (w : Variable). v.name ≢ w.name) variables
apart_from mentions.none v out = λ k d lt. absurd (omega arith)
apart_from (mentions.more {names = names} {variables = variables} {name = name} {variable = w} is later) v out =
    all_more (λ (x : Variable). v.name ≢ x.name) w variables
    (λ same. out (subst (λ (n : List ℕ). Contains (name ∷ names) n) (sym (same ∙ is.name_is)) (in_front name names)))
    (apart_from later v (λ there. out (in_rest name v.name names there)))

own_names : {all : List Mention} {names : Names} {variables : List Variable} → AreDeclared all names variables → Differ names
    → HaveOwnNames variables
own_names mentions.none differ = λ i j d lt below. absurd (omega arith)
own_names (mentions.more {names = names} {variables = variables} {name = name} {variable = v} is later) differ =
    AllPairs-cons (λ (x y : Variable). x.name ≢ y.name) v variables
    (apart_from later v (λ there. differ.0 (subst (λ (n : List ℕ). Contains names n) is.name_is there)))
    (own_names later differ.1)

module _ (all : List Mention) (names : Names) (variables : List Variable) (declared : AreDeclared all names variables) (most : ℕ) where
  abbrev Has : Sort → ℕ → Type 0
  Has = limits.IsVariable variables

  -- a variable that a parameter names
  module _ (ps : List Parameter) (at : At names ps) (said : (m : Mention) → Contains (map mention_of ps) m → Contains all m) where
    of_form : (sort : Sort) (Form : VariableType → Type 0)
        → ((t : VariableType) (value : ℕ) → Form t → IsOfSort sort (contents_of t value))
        → (name : List ℕ) (v : ℕ) → IsVariable ps Form name v → Has sort v
    of_form sort Form of name v is =
        let p : Parameter = record { name = name; variable = v; type = is.type } in
        let d = declared_at declared v name (at_there names ps p at is.parameter) in
        let same : d.is.type ≡ is.type = d.is.typed.parameters is.type (said (mention_of p) (mention_there ps p is.parameter)) in
        record {
          variable = d.variable;
          stands = d.there;
          of_sort = subst (λ (c : Contents). IsOfSort sort c) (sym d.is.contents)
              (of d.is.type (mentions.last_value all name 0) (subst (λ (t : VariableType). Form t) (sym same) is.of_form));
        }

    sorted : Sorted ps Has
    sorted = record {
      integers = of_form limits.integers IsInteger of_integers;
      atomics = of_form limits.atomics IsAtomic of_atomics;
      locks = of_form limits.locks IsLock of_locks;
      memory = of_form limits.memory HasBytes of_memory;
    }

  -- ---- processes

  -- a process of which no more than so many symbols are left when its body begins
  record Reads (later : Names) (p : Process) : Type 0 where
    named : Named p.registers
    at : At later p.parameters
    keeps : BodyKeepsLimits p.body
    rises : block_rises p.body ≤ 256 * most
    typed : Sorted p.parameters Has → (n : ℕ) → length p.registers ≤ n → BlockTyped Has n p.body

  abbrev AllRead : Names → List Process → Type 0
  AllRead later [] = Unit {0}
  AllRead later (p ∷ ps) = Reads later p × AllRead later ps

  record ReadsOne (before later : Names) (symbols rest : List Symbol) (p : Process) : Type 0 where
    becomes : Becomes before later
    reads : Reads later p
    shorter : length rest ≤ length symbols

  one_is : {task : ℕ} {before later : Names} {symbols rest : List Symbol} {p : Process} → length symbols ≤ most → Named before
      → IsProcess task before symbols p rest later → ReadsOne before later symbols rest p
  one_is few named (headers.process {middle = middle} {body = body} listed inside keeps) =
      let l = parameters_are named listed in
      let b = body_rises inside keeps.turns in
      let shorter = l.shorter in
      let rises = b.0 in
      let less = b.1 in
      let bound : 256 * length middle ≤ 256 * most = mul-le-mul_left 256 (omega arith) in
      let none : 0 ≤ 32 = omega arith in
      record {
        becomes = l.becomes;
        reads = record {
          named = statements_named (record { differ = tt; few = none }) inside;
          at = l.at;
          keeps = keeps;
          rises = omega (arith, rises, bound);
          typed = λ sorted n le. statements_typed _ Has sorted n inside le;
        };
        shorter = omega (arith, shorter, less);
      }

  reads_grown : (before later : Names) (p : Process) → Grown before later → Reads before p → Reads later p
  reads_grown before later p grown r = record {
    named = r.named;
    at = at_grown before later p.parameters grown r.at;
    keeps = r.keeps;
    rises = r.rises;
    typed = r.typed;
  }

  record ReadsMany (task : ℕ) (before later : Names) (ps : List Process) : Type 0 where
    becomes : Becomes before later
    reads : AllRead later ps
    few : task + length ps ≤ 16
    some : 0 < length ps

  many_are : {task : ℕ} {before later : Names} {symbols rest : List Symbol} {ps : List Process} → length symbols ≤ most → Named before
      → Processes task before symbols ps rest later → ReadsMany task before later ps
  many_are few named (headers.last lt p) =
      let one = one_is few named p in
      record { becomes = one.becomes; reads = (one.reads, tt); few = omega arith; some = omega arith }
  many_are {task} {before} {later} few named (headers.more {between = between} {process = p} lt is others_are) =
      let one = one_is few named is in
      let le = one.shorter in
      let two = many_are (omega arith) one.becomes.named others_are in
      let count = two.few in
      record {
        becomes = becomes_then before between later one.becomes two.becomes;
        reads = (reads_grown between later p two.becomes.grown one.reads, two.reads);
        few = omega arith;
        some = omega arith;
      }

  -- a process that keeps the limits, however many more registers it gets
  record Keeps (p : Process) : Type 0 where
    named : Named p.registers
    keeps : BodyKeepsLimits p.body
    rises : block_rises p.body ≤ 256 * most
    typed : (n : ℕ) → length p.registers ≤ n → BlockTyped Has n p.body

  abbrev AllKeep : List Process → Type 0
  AllKeep [] = Unit {0}
  AllKeep (p ∷ ps) = Keeps p × AllKeep ps

  all_keep : (ps : List Process) → AllRead names ps → ((m : Mention) → Contains (flat_map mentions_of ps) m → Contains all m) → AllKeep ps
  all_keep [] reads said = tt
  all_keep (p ∷ ps) reads said = (
    record {
      named = reads.0.named;
      keeps = reads.0.keeps;
      rises = reads.0.rises;
      typed = reads.0.typed (sorted p.parameters reads.0.at
          (λ m there. said m (contains_first (map mention_of p.parameters) (flat_map mentions_of ps) m there)));
    },
    all_keep ps reads.1 (λ m there. said m (contains_rest (map mention_of p.parameters) (flat_map mentions_of ps) m there)),
  )

  -- ---- the condition

  keeps_at : (ps : List Process) (task : ℕ) (p : Process) → AllKeep ps → slice_get ps task ≡ Some p → Keeps p
  keeps_at [] task p keep is = absurd cc
  keeps_at (q ∷ ps) zero p keep is = subst (λ (r : Process). Keeps r) (same_given q p is) keep.0
  keeps_at (q ∷ ps) (suc task) p keep is = keeps_at ps task p keep.1 is

  keeps_set : (ps : List Process) (task : ℕ) (p : Process) → AllKeep ps → Keeps p → AllKeep (set ps task p)
  keeps_set [] task p keep is = tt
  keeps_set (q ∷ ps) zero p keep is = (is, keep.1)
  keeps_set (q ∷ ps) (suc task) p keep is = (keep.0, keeps_set ps task p keep.1 is)

  more_registers : (p : Process) (name : List ℕ) (register : ℕ) (registers : Names) → Keeps p
      → Numbered 32 p.registers name register registers → Keeps (with_registers p registers)
  more_registers p name register registers k n =
      let more = numbered_grow n in
      record {
        named = numbered_named name register p.registers registers k.named n;
        keeps = k.keeps;
        rises = k.rises;
        typed = λ m le. k.typed m (omega arith);
      }

  record Still (before later : List Process) : Type 0 where
    keep : AllKeep later
    sized : length later ≡ length before

  still_same : (ps : List Process) → AllKeep ps → Still ps ps
  still_same ps keep = record { keep = keep; sized = refl }

  still_then : (before between later : List Process) → Still before between → Still between later → Still before later
  still_then before between later one two = record { keep = two.keep; sized = two.sized ∙ one.sized }

  atom_still : {before later : List Process} {symbols rest : List Symbol} {a : tree.Proposition} → AllKeep before
      → Atom all names before symbols a rest later → Still before later
  atom_still {before} keep conditions.always = still_same before keep
  atom_still {before} keep conditions.never = still_same before keep
  atom_still {before} keep (conditions.variable_is is v) = still_same before keep
  atom_still {before} keep (conditions.in_brackets is v) = still_same before keep
  atom_still {before} keep (conditions.register_is {task = task} {register = register} {process = p} {name = name} {registers = registers} there is v) =
      record {
        keep = keeps_set before task (with_registers p registers) keep
            (more_registers p name register registers (keeps_at before task p keep there) is.numbered);
        sized = length-set before task (with_registers p registers);
      }

  mutual
    disjoined_still : {d : ℕ} {before later : List Process} {symbols rest : List Symbol} {a : tree.Proposition} → AllKeep before
        → Disjoined all names d before symbols a rest later → Still before later
    disjoined_still keep (conditions.conjunction c) = conjoined_still keep c
    disjoined_still {before = before} {later = later} keep (conditions.or {between = between} l c) =
        let one = disjoined_still keep l in still_then before between later one (conjoined_still one.keep c)

    conjoined_still : {d : ℕ} {before later : List Process} {symbols rest : List Symbol} {a : tree.Proposition} → AllKeep before
        → Conjoined all names d before symbols a rest later → Still before later
    conjoined_still keep (conditions.negation n) = negation_still keep n
    conjoined_still {before = before} {later = later} keep (conditions.and {between = between} l n) =
        let one = conjoined_still keep l in still_then before between later one (negation_still one.keep n)

    negation_still : {d : ℕ} {before later : List Process} {symbols rest : List Symbol} {a : tree.Proposition} → AllKeep before
        → Negation all names d before symbols a rest later → Still before later
    negation_still keep (conditions.atom a) = atom_still keep a
    negation_still keep (conditions.not n) = negation_still keep n
    negation_still keep (conditions.parenthesized lt c) = disjoined_still keep c

  -- ---- tasks

  all_tasks : (ps : List Process) → most ≤ 65536 → AllKeep ps → All (TaskKeepsLimits variables) (map task_of ps)
  all_tasks [] few keep = λ k d lt. absurd (omega arith)
  all_tasks (p ∷ ps) few keep =
      let rises = keep.0.rises in
      let bound : 256 * most ≤ 256 * 65536 = mul-le-mul_left 256 few in
      all_more (TaskKeepsLimits variables) (task_of p) (map task_of ps) (record {
        registers = keep.0.named.few;
        body = keep.0.keeps;
        rises = omega (arith, rises, bound);
        typed = keep.0.typed (length p.registers) (omega arith);
      }) (all_tasks ps few keep.1)

pub grammar_keeps : (symbols : List Symbol) (p : tree.Program) → Grammar symbols p → length symbols ≤ 65536 → KeepsLimits p
grammar_keeps symbols p g few =
    let none : 0 ≤ 32 = omega arith in
    let all : List Mention = said_by g.items g.processes in
    let items = mentions_become (record { differ = tt; few = none }) g.numbered in
    let begins : length symbols ≡ suc (length g.after_brace) = ap (λ (l : List Symbol). length l) g.begins in
    let le = items_shorter g.initialization in
    let many = many_are all g.names p.variables g.declared 65536 (omega (arith, begins, le, few)) items.named g.bodies in
    let keep = all_keep all g.names p.variables g.declared 65536 g.processes many.reads
    (λ m there. contains_rest g.items (flat_map mentions_of g.processes) m there) in
    let still = disjoined_still all g.names p.variables g.declared 65536 keep g.condition in
    let tasks : length p.tasks ≡ length g.processes =
    ap (λ (l : List tree.Task). length l) g.tasks ∙ length-map g.later task_of ∙ still.sized in
    let count = many.few in
    let some = many.some in
    let sized = declared_sized g.declared in
    let names = many.becomes.named.few in
    record {
      some_task = omega (arith, tasks, some);
      tasks = omega (arith, tasks, count);
      variables = omega (arith, sized, names);
      names = own_names g.declared many.becomes.named.differ;
      each_task = subst (λ (l : List tree.Task). All (TaskKeepsLimits p.variables) l) (sym g.tasks)
          (all_tasks all g.names p.variables g.declared 65536 g.later (omega arith) still.keep);
    }
