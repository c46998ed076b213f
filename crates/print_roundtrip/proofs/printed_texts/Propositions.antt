-- The symbols of a proposition's printed form spell it, where some symbols do and the form keeps the limit of nesting.
use Rattle.std.proofs.Common.{◌≡◌, ◌∙◌, ℕ, zero, suc, List, [], ◌∷◌, Option, Some, map, refl, sym, ap, subst}
use Rattle.std.specs.Prelude.{set, slice_get, unwrap_or}
use Rattle.litmus_lex.specs.declared.sign.Sign.TheVariants.{CloseParen, Conjunction, Disjunction}
use Rattle.litmus_syntax.specs.declared.program.Variable.{Variable}
use Rattle.litmus_syntax.specs.declared.proposition.Quantifier.{Quantifier}
use Rattle.litmus_syntax.specs.PrintedForm.{name_at, registers_of, variable_name}
use Rattle.litmus_syntax.specs.Tree as tree
use Rattle.litmus_lex.specs.Words.{Symbol, sign}
use Rattle.litmus_expression.specs.Names.{IsFree, IsRegister, Names, Parameter, known}
use Rattle.litmus_parse.specs.Conditions as conditions
use Rattle.litmus_parse.specs.Conditions.{Atom, Conjoined, Disjoined, IsKnown, Negation, Quantifies, with_registers}
use Rattle.litmus_parse.specs.Grammar.{task_of}
use Rattle.litmus_parse.specs.Headers as headers
use Rattle.litmus_parse.specs.Headers.{Process}
use Rattle.litmus_parse.specs.Mentions.{Mention}
use Rattle.litmus_parse.proofs.Becomes.{numbered_at}
use Rattle.print_roundtrip.specs.printed_texts.Covered.{Covers, Extends}
use Rattle.print_roundtrip.specs.printed_texts.PrintedCondition.{PropositionNests, proposition_symbols, quantifier_symbols}
use Rattle.print_roundtrip.proofs.printed_texts.Grown.{numbered_grows}

-- ---- processes that have more registers

given_is : {A : Type 0} (x y : A) → Some x ≡ Some y → x ≡ y
given_is x y e = ap (λ (o : Option _). unwrap_or o x) e

extends_itself : (p : Process) → Extends p p
extends_itself p = record { parameters = refl; registers = λ n name is. is }

pub covers_themselves : (ps : List Process) → Covers ps ps
covers_themselves ps = record { covers = λ k p is. (p, is, extends_itself p) }

pub covers_then : (before between later : List Process) → Covers before between → Covers between later → Covers before later
covers_then before between later one two = record {
  covers = λ k p is.
      let c = one.covers k p is in
      let d = two.covers k c.0 c.1 in (
        d.0,
        d.1,
        record {
          parameters = d.2.parameters ∙ c.2.parameters;
          registers = λ n name there. d.2.registers n name (c.2.registers n name there);
        },
      );
}

set_there : (ps : List Process) (task : ℕ) (p q : Process) → slice_get ps task ≡ Some p → slice_get (set ps task q) task ≡ Some q
set_there [] task p q is = absurd cc
set_there (r ∷ ps) zero p q is = refl
set_there (r ∷ ps) (suc task) p q is = set_there ps task p q is

set_same : (ps : List Process) (task : ℕ) (p : Process) → slice_get ps task ≡ Some p → set ps task p ≡ ps
set_same [] task p is = absurd cc
set_same (r ∷ ps) zero p is = ap (λ (q : Process). q ∷ ps) (sym (given_is r p is))
set_same (r ∷ ps) (suc task) p is = ap (λ (l : List Process). r ∷ l) (set_same ps task p is)

covered_at : (ps : List Process) (task : ℕ) (p q : Process) → slice_get ps task ≡ Some p → Extends p q → (k : ℕ) (r : Process)
    → slice_get ps k ≡ Some r → (s : Process) × (slice_get (set ps task q) k ≡ Some s) × Extends r s
covered_at [] task p q is more k r there = absurd cc
covered_at (o ∷ ps) zero p q is more zero r there =
    (q, refl, subst (λ (x : Process). Extends x q) (sym (given_is o p is) ∙ given_is o r there) more)
covered_at (o ∷ ps) zero p q is more (suc k) r there = (r, there, extends_itself r)
covered_at (o ∷ ps) (suc task) p q is more zero r there = (r, there, extends_itself r)
covered_at (o ∷ ps) (suc task) p q is more (suc k) r there = covered_at ps task p q is more k r there

covers_set : (ps : List Process) (task : ℕ) (p q : Process) → slice_get ps task ≡ Some p → Extends p q → Covers ps (set ps task q)
covers_set ps task p q is more = record { covers = covered_at ps task p q is more }

module _ (mentions : List Mention) (names : Names) where
  atom_covers : {before later : List Process} {symbols rest : List Symbol} {a : tree.Proposition}
      → Atom mentions names before symbols a rest later → Covers before later
  atom_covers (conditions.always {before = before}) = covers_themselves before
  atom_covers (conditions.never {before = before}) = covers_themselves before
  atom_covers (conditions.variable_is {before = before} is v) = covers_themselves before
  atom_covers (conditions.in_brackets {before = before} is v) = covers_themselves before
  atom_covers (conditions.register_is {before = before} {task = task} {process = p} {registers = registers} there is v) =
      let grown = numbered_grows is.numbered in
      covers_set before task p (with_registers p registers) there (record { parameters = refl; registers = grown.keeps })

  mutual
    disjoined_covers : {d : ℕ} {before later : List Process} {symbols rest : List Symbol} {a : tree.Proposition}
        → Disjoined mentions names d before symbols a rest later → Covers before later
    disjoined_covers (conditions.conjunction c) = conjoined_covers c
    disjoined_covers (conditions.or {before = before} {between = between} {after = later} l c) =
        covers_then before between later (disjoined_covers l) (conjoined_covers c)

    pub conjoined_covers : {d : ℕ} {before later : List Process} {symbols rest : List Symbol} {a : tree.Proposition}
        → Conjoined mentions names d before symbols a rest later → Covers before later
    conjoined_covers (conditions.negation n) = negation_covers n
    conjoined_covers (conditions.and {before = before} {between = between} {after = later} l n) =
        covers_then before between later (conjoined_covers l) (negation_covers n)

    pub negation_covers : {d : ℕ} {before later : List Process} {symbols rest : List Symbol} {a : tree.Proposition}
        → Negation mentions names d before symbols a rest later → Covers before later
    negation_covers (conditions.atom a) = atom_covers a
    negation_covers (conditions.not n) = negation_covers n
    negation_covers (conditions.parenthesized lt c) = disjoined_covers c

-- ---- propositions

task_there : (ps : List Process) (k : ℕ) (p : Process) → slice_get ps k ≡ Some p → registers_of (map task_of ps) k ≡ p.registers
task_there [] k p is = absurd cc
task_there (q ∷ ps) zero p is = ap (λ (r : Process). r.registers) (given_is q p is)
task_there (q ∷ ps) (suc k) p is = task_there ps k p is

-- a register's name among all that its process has
pub record Called (last : List Process) (p : Process) (k r : ℕ) (name : List ℕ) : Type 0 where
  pub process : Process
  pub there : slice_get last k ≡ Some process
  pub parameters : process.parameters ≡ p.parameters
  pub stands : slice_get process.registers r ≡ Some name
  pub called : name_at (registers_of (map task_of last) k) r ≡ name

pub register_called : (last : List Process) (k r : ℕ) (p : Process) (name : List ℕ) (registers : Names) (before : List Process)
    → slice_get before k ≡ Some p → IsRegister p.parameters p.registers name r registers
    → Covers (set before k (with_registers p registers)) last → Called last p k r name
register_called last k r p name registers before there is covers =
    let c = covers.covers k (with_registers p registers) (set_there before k p (with_registers p registers) there) in
    let q : Process = c.0 in
    let at : slice_get q.registers r ≡ Some name = c.2.registers r name (numbered_at is.numbered) in
    record {
      process = q;
      there = c.1;
      parameters = c.2.parameters;
      stands = at;
      called = ap (λ (l : Names). name_at l r) (task_there last k q c.1) ∙ ap (λ (o : Option (List ℕ)). unwrap_or o []) at;
    }

module _ (mentions said : List Mention) (names : Names) (variables : List Variable) (last : List Process)
    (is_known : (name : List ℕ) (v : ℕ) → IsKnown mentions names name v → IsKnown said names (variable_name variables v) v) where
  abbrev tasks : List tree.Task
  tasks = map task_of last

  abbrev Printed : tree.Proposition → Type 0
  Printed a = (d : ℕ) → PropositionNests d a → (rest : List Symbol)
      → Negation said names d last (proposition_symbols variables tasks a rest) a rest last

  -- a register among all that its process has
  register_printed : (k r n : ℕ) (p : Process) (name : List ℕ) (registers : Names) (before : List Process) → slice_get before k ≡ Some p
      → IsRegister p.parameters p.registers name r registers → Covers (set before k (with_registers p registers)) last
      → Printed (tree.register_is k r n)
  register_printed k r n p name registers before there is covers = λ d nests rest.
      let c = register_called last k r p name registers before there is covers in
      let q : Process = c.process in
      let free : IsFree q.parameters name = subst (λ (ps : List Parameter). IsFree ps name) (sym c.parameters) is.free in
      let known_there : IsRegister q.parameters q.registers (name_at (registers_of tasks k) r) r q.registers =
      subst (λ (m : List ℕ). IsRegister q.parameters q.registers m r q.registers) (sym c.called)
      (record { free = free; numbered = known c.stands }) in
      subst (λ (after : List Process). Negation said names d last (proposition_symbols variables tasks (tree.register_is k r n) rest)
      (tree.register_is k r n) rest after) (set_same last k q c.there)
      (conditions.atom (conditions.register_is c.there known_there headers.positive))

  atom_printed : {before later : List Process} {symbols rest : List Symbol} {a : tree.Proposition}
      → Atom mentions names before symbols a rest later → Covers later last → Printed a
  atom_printed conditions.always covers = λ d nests rest. conditions.atom conditions.always
  atom_printed conditions.never covers = λ d nests rest. conditions.atom conditions.never
  atom_printed (conditions.variable_is {variable = v} {name = name} is value) covers = λ d nests rest.
      conditions.atom (conditions.variable_is (is_known name v is) headers.positive)
  atom_printed (conditions.in_brackets {variable = v} {name = name} is value) covers = λ d nests rest.
      conditions.atom (conditions.variable_is (is_known name v is) headers.positive)
  atom_printed (conditions.register_is {before = before} {task = k} {register = r} {value = n} {process = p} {name = name} {registers = registers} there is value) covers =
      register_printed k r n p name registers before there is covers

  mutual
    disjoined_printed : {d : ℕ} {before later : List Process} {symbols rest : List Symbol} {a : tree.Proposition}
        → Disjoined mentions names d before symbols a rest later → Covers later last → Printed a
    disjoined_printed (conditions.conjunction c) covers = conjoined_printed c covers
    disjoined_printed (conditions.or {between = between} {after = later} {a = p} {b = q} l c) covers = λ d nests rest.
        let behind : List Symbol = proposition_symbols variables tasks q (sign CloseParen ∷ rest) in
        conditions.parenthesized nests.0 (conditions.or
        (conditions.conjunction (conditions.negation (disjoined_printed l (covers_then between later last (conjoined_covers mentions names c) covers)
        (suc d) nests.1.0 (sign Disjunction ∷ behind))))
        (conditions.negation (conjoined_printed c covers (suc d) nests.1.1 (sign CloseParen ∷ rest))))

    conjoined_printed : {d : ℕ} {before later : List Process} {symbols rest : List Symbol} {a : tree.Proposition}
        → Conjoined mentions names d before symbols a rest later → Covers later last → Printed a
    conjoined_printed (conditions.negation n) covers = negation_printed n covers
    conjoined_printed (conditions.and {between = between} {after = later} {a = p} {b = q} l n) covers = λ d nests rest.
        let behind : List Symbol = proposition_symbols variables tasks q (sign CloseParen ∷ rest) in
        conditions.parenthesized nests.0 (conditions.conjunction (conditions.and
        (conditions.negation (conjoined_printed l (covers_then between later last (negation_covers mentions names n) covers)
        (suc d) nests.1.0 (sign Conjunction ∷ behind)))
        (negation_printed n covers (suc d) nests.1.1 (sign CloseParen ∷ rest))))

    negation_printed : {d : ℕ} {before later : List Process} {symbols rest : List Symbol} {a : tree.Proposition}
        → Negation mentions names d before symbols a rest later → Covers later last → Printed a
    negation_printed (conditions.atom a) covers = atom_printed a covers
    negation_printed (conditions.not n) covers = λ d nests rest.
        conditions.parenthesized nests.0 (conditions.conjunction (conditions.negation (conditions.not
        (negation_printed n covers (suc d) nests.1 (sign CloseParen ∷ rest)))))
    negation_printed (conditions.parenthesized lt c) covers = disjoined_printed c covers

  pub proposition_printed : {d : ℕ} {before later : List Process} {symbols behind : List Symbol} {a : tree.Proposition}
      → Disjoined mentions names d before symbols a behind later → Covers later last → (depth : ℕ) → PropositionNests depth a
      → (rest : List Symbol) → Disjoined said names depth last (proposition_symbols variables tasks a rest) a rest last
  proposition_printed spelled covers depth nests rest =
      conditions.conjunction (conditions.negation (disjoined_printed spelled covers depth nests rest))

pub quantifier_printed : {symbols behind : List Symbol} {q : Quantifier} → Quantifies symbols q behind → (rest : List Symbol)
    → Quantifies (quantifier_symbols q rest) q rest
quantifier_printed conditions.exists rest = conditions.exists
quantifier_printed conditions.not_exists rest = conditions.not_exists
quantifier_printed conditions.for_all rest = conditions.for_all
