-- The symbols of a program's printed form spell the program, where some symbols do and the form keeps the limit of
-- nesting.
use Rattle.std.proofs.Common.{◌≡◌, ◌∙◌, ◌+◌, ◌<◌, ◌≤◌, ℕ, zero, suc, List, [], ◌∷◌, Some, length, map, refl, sym, subst, arith}
use Rattle.std.specs.Prelude.{Contains, set, slice_get}
use Rattle.std.proofs.lemmas.List.{length-append, length-set}
use Rattle.litmus_lex.specs.declared.sign.Sign.TheVariants.{CloseBrace}
use Rattle.litmus_syntax.specs.declared.program.Variable.{Variable}
use Rattle.litmus_syntax.specs.Tree as tree
use Rattle.litmus_lex.specs.Words.{Symbol, sign}
use Rattle.litmus_expression.specs.Followed.{Differ}
use Rattle.litmus_expression.specs.Names.{IsFree, IsRegister, Names, Numbered, Parameter, known, new}
use Rattle.litmus_expression.proofs.Complete.{numbered_differ}
use Rattle.litmus_expression.proofs.Named.{among, in_none}
use Rattle.litmus_parse.specs.Conditions as conditions
use Rattle.litmus_parse.specs.Conditions.{Atom, Conjoined, Disjoined, IsKnown, Negation, with_registers}
use Rattle.litmus_parse.specs.Grammar.{Grammar, said_by, task_of}
use Rattle.litmus_parse.specs.Headers as headers
use Rattle.litmus_parse.specs.Headers.{IsProcess, Process, Processes}
use Rattle.litmus_parse.specs.Mentions.{Mention}
use Rattle.print_roundtrip.specs.printed_texts.PrintedCondition.{proposition_symbols, quantifier_symbols}
use Rattle.print_roundtrip.specs.printed_texts.PrintedNesting.{BlockNests}
use Rattle.print_roundtrip.specs.printed_texts.PrintedProgram.{Nests, TasksNest, items_symbols, mention_of, program_symbols, tasks_symbols}
use Rattle.print_roundtrip.specs.printed_texts.Whole.{AllWhole, Whole}
use Rattle.print_roundtrip.proofs.printed_texts.Declarations.{declared_printed, split}
use Rattle.print_roundtrip.proofs.printed_texts.Grown.{numbered_grows}
use Rattle.print_roundtrip.proofs.printed_texts.Items.{items_printed, numbers_printed}
use Rattle.print_roundtrip.proofs.printed_texts.Knowing.{known_printed}
use Rattle.print_roundtrip.proofs.printed_texts.Processes.{process_printed}
use Rattle.print_roundtrip.proofs.printed_texts.Propositions.{covers_themselves, proposition_printed, quantifier_printed}

-- ---- processes in the end

module _ (variables : List Variable) (names : Names) where
  one_printed : (task : ℕ) (p : Process) (rest : List Symbol) → Whole variables names p → BlockNests 1 p.body
      → IsProcess task names (tasks_symbols variables task (map task_of (p ∷ [])) rest) p rest names
  one_printed task p rest w nests =
      process_printed variables names task p.parameters w.before p.registers w.symbols w.behind rest p.body w.are w.spelled w.keeps
      (record { keeps = w.grown }) nests

  pub processes_printed : (task : ℕ) (p : Process) (ps : List Process) (rest : List Symbol) → task + length (p ∷ ps) ≤ 16
      → AllWhole variables names (p ∷ ps) → TasksNest (map task_of (p ∷ ps))
      → Processes task names (tasks_symbols variables task (map task_of (p ∷ ps)) rest) (p ∷ ps) rest names
  processes_printed task p [] rest few whole nests =
      headers.last (omega arith) (one_printed task p rest whole.0 nests.0)
  processes_printed task p (q ∷ ps) rest few whole nests =
      headers.more (omega arith)
      (one_printed task p (tasks_symbols variables (suc task) (map task_of (q ∷ ps)) rest) whole.0 nests.0)
      (processes_printed (suc task) q ps rest (omega arith) whole.1 nests.1)

  -- ---- the condition names more registers

  whole_at : (ps : List Process) (task : ℕ) (p : Process) → AllWhole variables names ps → slice_get ps task ≡ Some p
      → Whole variables names p
  whole_at [] task p whole is = absurd cc
  whole_at (q ∷ ps) zero p whole is = subst (λ (r : Process). Whole variables names r) (given_is q p is) whole.0
    where
      given_is : (q p : Process) → Some q ≡ Some p → q ≡ p
      given_is q p e = cc
  whole_at (q ∷ ps) (suc task) p whole is = whole_at ps task p whole.1 is

  whole_set : (ps : List Process) (task : ℕ) (p : Process) → AllWhole variables names ps → Whole variables names p
      → AllWhole variables names (set ps task p)
  whole_set [] task p whole is = tt
  whole_set (q ∷ ps) zero p whole is = (is, whole.1)
  whole_set (q ∷ ps) (suc task) p whole is = (whole.0, whole_set ps task p whole.1 is)

  few_more : {number : ℕ} {name : List ℕ} {before later : Names} → length before ≤ 32 → Numbered 32 before name number later
      → length later ≤ 32
  few_more few (known there) = few
  few_more {name = name} {before = before} few (new out lt) = let n = length-append before (name ∷ []) in omega (arith, n, lt)

  free_more : (P : List Parameter) {number : ℕ} {name : List ℕ} {before later : Names} → ((m : List ℕ) → Contains before m → IsFree P m)
      → IsFree P name
      → Numbered 32 before name number later → (m : List ℕ) → Contains later m → IsFree P m
  free_more P free is (known there) m at = free m at
  free_more P {name = name} {before = before} free is (new out lt) m at =
      split before (name ∷ []) m (IsFree P m) at (λ first. free m first)
      (λ last. among name m [] (IsFree P m) last (λ same. subst (λ (n : List ℕ). IsFree P n) same is) (λ never. absurd (in_none m never)))

  more_registers : (p : Process) (name : List ℕ) (register : ℕ) (registers : Names) → Whole variables names p
      → IsRegister p.parameters p.registers name register registers → Whole variables names (with_registers p registers)
  more_registers p name register registers w is = record {
    are = record {
      parameters_are = w.are.parameters_are;
      parameters_differ = w.are.parameters_differ;
      registers_differ = numbered_differ name register p.registers registers w.are.registers_differ is.numbered;
      registers_few = few_more w.are.registers_few is.numbered;
      registers_free = free_more p.parameters w.are.registers_free is.free is.numbered;
    };
    before = w.before;
    symbols = w.symbols;
    behind = w.behind;
    spelled = w.spelled;
    keeps = w.keeps;
    grown = λ n m there. (numbered_grows is.numbered).keeps n m (w.grown n m there);
  }

  record Still (before later : List Process) : Type 0 where
    whole : AllWhole variables names later
    sized : length later ≡ length before

  still_then : (before between later : List Process) → Still before between → Still between later → Still before later
  still_then before between later one two = record { whole = two.whole; sized = two.sized ∙ one.sized }

  module _ (all : List Mention) where
    atom_still : {before later : List Process} {symbols rest : List Symbol} {a : tree.Proposition} → AllWhole variables names before
        → Atom all names before symbols a rest later → Still before later
    atom_still whole conditions.always = record { whole = whole; sized = refl }
    atom_still whole conditions.never = record { whole = whole; sized = refl }
    atom_still whole (conditions.variable_is is v) = record { whole = whole; sized = refl }
    atom_still whole (conditions.in_brackets is v) = record { whole = whole; sized = refl }
    atom_still {before} whole (conditions.register_is {task = task} {register = register} {process = p} {name = name} {registers = registers} there is v) =
        record {
          whole = whole_set before task (with_registers p registers) whole
              (more_registers p name register registers (whole_at before task p whole there) is);
          sized = length-set before task (with_registers p registers);
        }

    mutual
      disjoined_still : {d : ℕ} {before later : List Process} {symbols rest : List Symbol} {a : tree.Proposition}
          → AllWhole variables names before
          → Disjoined all names d before symbols a rest later → Still before later
      disjoined_still whole (conditions.conjunction c) = conjoined_still whole c
      disjoined_still {before = before} {later = later} whole (conditions.or {between = between} l c) =
          let one = disjoined_still whole l in still_then before between later one (conjoined_still one.whole c)

      conjoined_still : {d : ℕ} {before later : List Process} {symbols rest : List Symbol} {a : tree.Proposition}
          → AllWhole variables names before
          → Conjoined all names d before symbols a rest later → Still before later
      conjoined_still whole (conditions.negation n) = negation_still whole n
      conjoined_still {before = before} {later = later} whole (conditions.and {between = between} l n) =
          let one = conjoined_still whole l in still_then before between later one (negation_still one.whole n)

      negation_still : {d : ℕ} {before later : List Process} {symbols rest : List Symbol} {a : tree.Proposition}
          → AllWhole variables names before
          → Negation all names d before symbols a rest later → Still before later
      negation_still whole (conditions.atom a) = atom_still whole a
      negation_still whole (conditions.not n) = negation_still whole n
      negation_still whole (conditions.parenthesized lt c) = disjoined_still whole c

  some_printed : (ps : List Process) (rest : List Symbol) → 0 < length ps → length ps ≤ 16 → AllWhole variables names ps
      → TasksNest (map task_of ps) → Processes 0 names (tasks_symbols variables 0 (map task_of ps) rest) ps rest names
  some_printed [] rest some few whole nests = absurd (omega arith)
  some_printed (p ∷ ps) rest some few whole nests = processes_printed 0 p ps rest (omega arith) whole nests

  parameters_of : (ps : List Process) → AllWhole variables names ps → (q : Process) → Contains ps q → Whole variables names q
  parameters_of [] whole q there = absurd (in_none q there)
  parameters_of (p ∷ ps) whole q there =
      among p q ps (Whole variables names q) there
      (λ same. subst (λ (r : Process). Whole variables names r) same whole.0)
      (λ later. parameters_of ps whole.1 q later)

-- how many processes there are
processes_sized : {task : ℕ} {before later : Names} {symbols rest : List Symbol} {ps : List Process}
    → Processes task before symbols ps rest later
    → (0 < length ps) × (task + length ps ≤ 16)
processes_sized (headers.last lt p) = (omega arith, omega arith)
processes_sized (headers.more lt p others) = let r = processes_sized others in let le = r.1 in (omega arith, omega arith)

-- the condition leaves each process with names that may be printed
pub later_are_whole : (symbols : List Symbol) (p : tree.Program) (g : Grammar symbols p) → AllWhole p.variables g.names g.processes
    → AllWhole p.variables g.names g.later
later_are_whole symbols p g whole = (disjoined_still p.variables g.names (said_by g.items g.processes) whole g.condition).whole

pub program_printed : (symbols : List Symbol) (p : tree.Program) (g : Grammar symbols p) → Differ g.names → length g.names ≤ 32
    → Differ (map (λ (v : Variable). v.name) p.variables) → AllWhole p.variables g.names g.processes
    → Nests p → Grammar (program_symbols p) p
program_printed symbols p g differ few own whole nests =
    let all : List Mention = said_by g.items g.processes in
    let still = disjoined_still p.variables g.names all whole g.condition in
    let are = λ (q : Process) (there : Contains g.later q) (r : Parameter) (at : Contains q.parameters r).
    (parameters_of p.variables g.names g.later still.whole q there).are.parameters_are r at in
    let size = processes_sized g.bodies in
    let sized = still.sized in
    let some = size.0 in
    let most = size.1 in
    let condition : List Symbol = proposition_symbols p.variables p.tasks p.condition [] in
    let quantifier : List Symbol = quantifier_symbols p.quantifier condition in
    let tasks_nest = subst (λ (l : List tree.Task). TasksNest l) g.tasks nests.tasks in
    record {
      items = map mention_of p.variables;
      item_names = g.names;
      names = g.names;
      processes = g.later;
      later = g.later;
      after_brace = items_symbols p.variables (sign CloseBrace ∷ tasks_symbols p.variables 0 p.tasks quantifier);
      after_items = tasks_symbols p.variables 0 p.tasks quantifier;
      after_processes = quantifier;
      after_quantifier = condition;
      begins = refl;
      initialization = items_printed p.variables (tasks_symbols p.variables 0 p.tasks quantifier);
      numbered = numbers_printed g.declared differ few;
      bodies = subst (λ (l : List tree.Task). Processes 0 g.names (tasks_symbols p.variables 0 l quantifier) g.later quantifier g.names)
          (sym g.tasks) (some_printed p.variables g.names g.later quantifier (omega (arith, sized, some)) (omega (arith, sized, most))
          still.whole tasks_nest);
      quantifier = quantifier_printed g.quantifier condition;
      condition = subst (λ (l : List tree.Task). Disjoined (said_by (map mention_of p.variables) g.later) g.names 0 g.later
          (proposition_symbols p.variables l p.condition []) p.condition [] g.later) (sym g.tasks)
          (proposition_printed all (said_by (map mention_of p.variables) g.later) g.names p.variables g.later (known_printed symbols p g own are) g.condition
          (covers_themselves g.later) 0 nests.condition []);
      operators = g.operators;
      declared = declared_printed p.variables g.names own g.later
          (λ q there r at. (parameters_of p.variables g.names g.later still.whole q there).are.parameters_are r at) g.declared (λ v there. there);
      tasks = g.tasks;
    }
