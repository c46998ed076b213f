-- A program that a text spells has names and numbers that a text can have.
use Rattle.std.proofs.Common.{◌≡◌, ◌∙◌, ◌+◌, ◌^◌, ◌-◌, ◌%◌, ◌<◌, ◌≤◌, ℕ, suc, ℤ, pos, negsuc, List, [], ◌∷◌, Option, Some, drop, length, map, sym, ap, subst, arith}
use Rattle.std.specs.Prelude.{All, Contains, FitsSigned, option_map, slice_get, unwrap_or}
use Rattle.std.specs.Int.{w8, w16, w32, w64, cast_signed}
use Rattle.std.proofs.Math.Facts.{sfits_to_z, sfits_widen}
use Rattle.std.proofs.Math.Nat.{mod-lt}
use Rattle.std.proofs.lemmas.List.{length-map}
use Rattle.std.proofs.lemmas.List.Elements.{All-get_or}
use Rattle.std.proofs.lemmas.Option.{get_or_from_slice_get, slice_get-map, slice_get_within, unwrap_or-slice_get}
use Rattle.litmus_lex.specs.declared.bytes.Class.TheVariants.{Graphic}
use Rattle.litmus_lex.specs.declared.token.Part.TheVariants.{Init}
use Rattle.litmus_syntax.specs.declared.program.Contents.{Contents}
use Rattle.litmus_syntax.specs.declared.program.Variable.{Variable}
use Rattle.litmus_syntax.specs.Limits.{IsVariable, Sort, TaskKeepsLimits}
use Rattle.litmus_syntax.specs.PrintedForm.{name_at, registers_of}
use Rattle.litmus_syntax.specs.Tree as tree
use Rattle.litmus_lex.specs.declared.words.VariableType.{VariableType}
use Rattle.litmus_lex.specs.declared.words.VariableType.TheVariants.{Char, Short, Int, Long, Atomic, Lock}
use Rattle.litmus_lex.specs.Words.{Symbol}
use Rattle.litmus_expression.specs.Names.{Names, Parameter}
use Rattle.litmus_expression.proofs.Named.{in_front, in_rest}
use Rattle.litmus_parse.specs.Conditions as conditions
use Rattle.litmus_parse.specs.Conditions.{Atom, Conjoined, Disjoined, IsKnown, Negation}
use Rattle.litmus_parse.specs.Grammar.{SpellsProgram, said_by, symbol_at, task_of, variable_of}
use Rattle.litmus_parse.specs.Headers.{Process}
use Rattle.litmus_parse.specs.Mentions as mentions
use Rattle.litmus_parse.specs.Mentions.{AreDeclared, Mention, contents_of, last_value}
use Rattle.litmus_parse.proofs.GrammarKeeps.{grammar_keeps}
use Rattle.litmus_parse.proofs.NamesSpelled.{BlockHas, PropositionHas, spelled_holds}
use Rattle.litmus_parse.proofs.NamesUtf8.{symbols_few}
use Rattle.print_roundtrip.specs.printed_texts.Covered.{Covers}
use Rattle.print_roundtrip.specs.printed_texts.PrintedNames.{IsOf}
use Rattle.print_roundtrip.specs.printed_texts.Whole.{AllWhole}
use Rattle.print_roundtrip.proofs.printed_texts.Programs.{later_are_whole}
use Rattle.print_roundtrip.proofs.printed_texts.Propositions.{Called, conjoined_covers, covers_themselves, covers_then, negation_covers, register_called}
use Rattle.print_roundtrip.proofs.printed_texts.Wholes.{declared_at, names_are}
use Rattle.print_roundtrip.specs.printed_bytes.Expressions.{IsNamed, IsShort}
use Rattle.print_roundtrip.specs.printed_bytes.Programs.{ContentsAreSpelled, IsSpelled, NamesAreSpelled, ParameterIsSpelled, ParametersAreSpelled, PropositionIsSpelled}
use Rattle.print_roundtrip.specs.printed_bytes.Programs.{SignedIsShort, TasksAreSpelled, VariablesAreSpelled}
use Rattle.print_roundtrip.specs.printed_bytes.Reads.{IsIdentifier}
use Rattle.print_roundtrip.proofs.printed_bytes.Named.{block_spelled}
use Rattle.print_roundtrip.proofs.printed_bytes.Symbols.{run_alone, symbols_spell}

-- what holds of all holds of the one that stands at a number
all_there : {X : Type 0} (Q : X → Type 0) (xs : List X) (k : ℕ) (x : X) → All Q xs → slice_get xs k ≡ Some x → Q x
all_there Q xs k x all is =
    subst Q (get_or_from_slice_get xs k x x is) (All-get_or Q xs k x (slice_get_within xs k x is) all)

all_behind : {X : Type 0} (Q : X → Type 0) (x : X) (xs : List X) → All Q (x ∷ xs) → All Q xs
all_behind Q x xs all = λ k d lt. all (suc k) d (omega (arith, lt))

-- ---- variables

short_of : (z : ℤ) → FitsSigned w64 z → SignedIsShort z
short_of (pos n) fits = let lt = fits.sfits in omega (arith, lt)
short_of (negsuc n) fits = let lt = fits.sfits in omega (arith, lt)

contents_spelled : (t : VariableType) (value : ℕ) → ContentsAreSpelled (contents_of t value)
contents_spelled Char value =
    short_of (cast_signed w8 (value % 2 ^ 8)) (sfits_widen tt (sfits_to_z {w = w8} (record { fits = mod-lt value (omega arith) })))
contents_spelled Short value =
    short_of (cast_signed w16 (value % 2 ^ 16)) (sfits_widen tt (sfits_to_z {w = w16} (record { fits = mod-lt value (omega arith) })))
contents_spelled Int value =
    short_of (cast_signed w32 (value % 2 ^ 32)) (sfits_widen tt (sfits_to_z {w = w32} (record { fits = mod-lt value (omega arith) })))
contents_spelled Long value =
    short_of (cast_signed w64 (value % 2 ^ 64)) (sfits_to_z {w = w64} (record { fits = mod-lt value (omega arith) }))
contents_spelled Atomic value =
    short_of (cast_signed w32 (value % 2 ^ 32)) (sfits_widen tt (sfits_to_z {w = w32} (record { fits = mod-lt value (omega arith) })))
contents_spelled Lock value = tt

abbrev NamedVariable : Variable → Type 0
NamedVariable v = IsIdentifier v.name

variables_spelled : {all : List Mention} {names : Names} {variables : List Variable} → AreDeclared all names variables
    → All NamedVariable variables → VariablesAreSpelled variables
variables_spelled mentions.none named = tt
variables_spelled {all = all} (mentions.more {variables = variables} {name = name} {variable = v} is later) named = (
  named 0 v (omega arith),
  (
    subst (λ (c : Contents). ContentsAreSpelled c) (sym is.contents) (contents_spelled is.type (last_value all name 0)),
    variables_spelled later (all_behind NamedVariable v variables named),
  ),
)

-- ---- tasks

abbrev Registered : tree.Task → Type 0
Registered t = All IsIdentifier t.registers

abbrev Shortened : tree.Task → Type 0
Shortened t = BlockHas IsIdentifier IsShort t.body

names_spelled : (names : Names) → All IsIdentifier names → NamesAreSpelled names
names_spelled [] named = tt
names_spelled (name ∷ names) named = (named 0 name (omega arith), names_spelled names (all_behind IsIdentifier name names named))

called : (registers : Names) → All IsIdentifier registers → (r : ℕ) → r < length registers → IsIdentifier (name_at registers r)
called registers named r lt =
    subst (λ (n : List ℕ). IsIdentifier n) (sym (unwrap_or-slice_get registers r [])) (All-get_or IsIdentifier registers r [] lt named)

module _ (variables : List Variable) (all_named : All NamedVariable variables) where
  variable_named : (x : ℕ) (v : Variable) → slice_get variables x ≡ Some v → IsNamed variables x
  variable_named x v there =
      subst (λ (n : List ℕ). IsIdentifier n)
      (sym (ap (λ (o : Option Variable). unwrap_or (option_map (λ (w : Variable). w.name) o) []) there))
      (all_there NamedVariable variables x v all_named there)

  named : (sort : Sort) (x : ℕ) → IsVariable variables sort x → IsNamed variables x
  named sort x is = variable_named x is.variable is.stands

  parameters_spelled : {names : Names} (ps : List Parameter) → ((p : Parameter) → Contains ps p → IsOf variables names p)
      → ParametersAreSpelled variables (map variable_of ps)
  parameters_spelled [] are = tt
  parameters_spelled (p ∷ ps) are =
      let is = are p (in_front p ps) in (
        subst (λ (o : Option Variable). ParameterIsSpelled o) (sym is.there)
            (all_there NamedVariable variables p.variable is.variable all_named is.there),
        parameters_spelled ps (λ q there. are q (in_rest p q ps there)),
      )

  tasks_spelled : (names : Names) (k : ℕ) (ps : List Process) → k + length ps ≤ 16 → AllWhole variables names ps
      → All (TaskKeepsLimits variables) (map task_of ps) → All Registered (map task_of ps) → All Shortened (map task_of ps)
      → TasksAreSpelled variables k (map task_of ps)
  tasks_spelled names k [] few whole keeps registers bodies = tt
  tasks_spelled names k (p ∷ ps) few whole keeps registers bodies =
      let task : tree.Task = task_of p in
      let first : All IsIdentifier p.registers = registers 0 task (omega arith) in
      let kept : TaskKeepsLimits variables task = keeps 0 task (omega arith) in (
        (
          omega (arith, few),
          (
            parameters_spelled p.parameters whole.0.are.parameters_are,
            (
              names_spelled p.registers first,
              block_spelled variables p.registers named (called p.registers first) p.body (bodies 0 task (omega arith)) kept.typed,
            ),
          ),
        ),
        tasks_spelled names (suc k) ps (omega (arith, few)) whole.1 (all_behind (TaskKeepsLimits variables) task (map task_of ps) keeps)
            (all_behind Registered task (map task_of ps) registers) (all_behind Shortened task (map task_of ps) bodies),
      )

  -- ---- the condition

  module _ (said : List Mention) (names : Names) (declared : AreDeclared said names variables) (last : List Process)
      (registers : All Registered (map task_of last)) where
    known_named : (name : List ℕ) (x : ℕ) → IsKnown said names name x → IsNamed variables x
    known_named name x known = let d = declared_at declared x name known.stands in variable_named x d.variable d.there

    register_named : (k r : ℕ) (p : Process) (name : List ℕ) → Called last p k r name
        → IsIdentifier (name_at (registers_of (map task_of last) k) r)
    register_named k r p name c =
        let task : tree.Task = task_of c.process in
        let there : slice_get (map task_of last) k ≡ Some task =
        slice_get-map task_of last k ∙ ap (λ (o : Option Process). option_map task_of o) c.there in
        let named : All IsIdentifier c.process.registers = all_there Registered (map task_of last) k task registers there in
        subst (λ (n : List ℕ). IsIdentifier n) (sym c.called) (all_there IsIdentifier c.process.registers r name named c.stands)

    abbrev Spelled : tree.Proposition → Type 0
    Spelled a = PropositionHas IsIdentifier IsShort a → PropositionIsSpelled variables (map task_of last) a

    atom_spelled : {before later : List Process} {symbols rest : List Symbol} {a : tree.Proposition}
        → Atom said names before symbols a rest later → Covers later last → Spelled a
    atom_spelled conditions.always covers = λ has. tt
    atom_spelled conditions.never covers = λ has. tt
    atom_spelled (conditions.variable_is {variable = x} {name = name} is value) covers = λ has. (known_named name x is, has)
    atom_spelled (conditions.in_brackets {variable = x} {name = name} is value) covers = λ has. (known_named name x is, has)
    atom_spelled (conditions.register_is {before = before} {task = k} {register = r} {process = p} {name = name} {registers = more} there is value) covers =
        λ has. (has.0, (register_named k r p name (register_called last k r p name more before there is covers), has.1))

    mutual
      disjoined_spelled : {d : ℕ} {before later : List Process} {symbols rest : List Symbol} {a : tree.Proposition}
          → Disjoined said names d before symbols a rest later → Covers later last → Spelled a
      disjoined_spelled (conditions.conjunction c) covers = conjoined_spelled c covers
      disjoined_spelled (conditions.or {between = between} {after = later} l c) covers = λ has. (
        disjoined_spelled l (covers_then between later last (conjoined_covers said names c) covers) has.0,
        conjoined_spelled c covers has.1,
      )

      conjoined_spelled : {d : ℕ} {before later : List Process} {symbols rest : List Symbol} {a : tree.Proposition}
          → Conjoined said names d before symbols a rest later → Covers later last → Spelled a
      conjoined_spelled (conditions.negation n) covers = negation_spelled n covers
      conjoined_spelled (conditions.and {between = between} {after = later} l n) covers = λ has. (
        conjoined_spelled l (covers_then between later last (negation_covers said names n) covers) has.0,
        negation_spelled n covers has.1,
      )

      negation_spelled : {d : ℕ} {before later : List Process} {symbols rest : List Symbol} {a : tree.Proposition}
          → Negation said names d before symbols a rest later → Covers later last → Spelled a
      negation_spelled (conditions.atom a) covers = atom_spelled a covers
      negation_spelled (conditions.not n) covers = λ has. negation_spelled n covers has
      negation_spelled (conditions.parenthesized lt c) covers = λ has. disjoined_spelled c covers has

pub program_spelled : (text : List ℕ) (p : tree.Program) → SpellsProgram text p → IsSpelled p
program_spelled text p spells =
    let symbols : List Symbol = map symbol_at spells.tokens in
    let g = spells.parsed in
    let head = spells.lexed.head in
    let size = spells.size in
    let short = symbols_few text p.name spells.tokens spells.lexed in
    let keeps = grammar_keeps symbols p g (omega (arith, short, size)) in
    let held = spelled_holds IsIdentifier IsShort symbols p (λ n is. mod-lt (2 ^ 64 - n) (omega arith)) g
    (symbols_spell Init spells.lexed.at (drop spells.lexed.at text) spells.tokens spells.lexed.body) in
    let names = names_are symbols p g in
    let whole = later_are_whole symbols p g names.whole in
    let most = keeps.tasks in
    let as_many : length p.tasks ≡ length (map task_of g.later) = ap (λ (l : List tree.Task). length l) g.tasks in
    let sized = length-map g.later task_of in
    let registers = subst (λ (l : List tree.Task). All Registered l) g.tasks held.registers in
    let bodies = subst (λ (l : List tree.Task). All Shortened l) g.tasks held.bodies in
    let limits = subst (λ (l : List tree.Task). All (TaskKeepsLimits p.variables) l) g.tasks keeps.each_task in
    record {
      name = (head.title.some_name, run_alone Graphic p.name head.behind head.title.longest);
      variables = variables_spelled g.declared held.variables;
      tasks = subst (λ (l : List tree.Task). TasksAreSpelled p.variables 0 l) (sym g.tasks)
          (tasks_spelled p.variables held.variables g.names 0 g.later (omega (arith, most, as_many, sized)) whole limits registers bodies);
      condition = subst (λ (l : List tree.Task). PropositionIsSpelled p.variables l p.condition) (sym g.tasks)
          (disjoined_spelled p.variables held.variables (said_by g.items g.processes) g.names g.declared g.later registers g.condition
          (covers_themselves g.later) held.condition);
    }
