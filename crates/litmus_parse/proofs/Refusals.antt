-- What a refusal means where names are made of what is read.
use Rattle.std.proofs.Common.{◌≡◌, ◌∙◌, ◌++◌, ◌≤◌, ℕ, List, [], ◌∷◌, Bool, true, false, cond, Option, Some, None, Bor, get_or, length, map, refl}
use Rattle.std.proofs.Common.{sym, ap, subst, arith}
use Rattle.std.specs.Prelude.{All}
use Rattle.std.specs.Str.{IsUtf8}
use Rattle.litmus_syntax.specs.Tree as tree
use Rattle.litmus_syntax.specs.declared.program.Variable.{Variable}
use Rattle.litmus_syntax.specs.declared.proposition.Quantifier.{Quantifier}
use Rattle.litmus_lex.specs.Front.{◌>>=◌, now}
use Rattle.litmus_lex.specs.Words.{Symbol}
use Rattle.litmus_expression.specs.declared.process.Process.{Process}
use Rattle.litmus_expression.specs.States.{State, state_of}
use Rattle.litmus_expression.proofs.Taken.{same_given}
use Rattle.litmus_parse.specs.ConditionReader.{quantifier_at}
use Rattle.litmus_parse.specs.ItemReader.{Heading, initialization_at, unnamed}
use Rattle.litmus_parse.specs.Seen.{process_of, seen}
use Rattle.litmus_parse.specs.PropositionReader.{whole_at}
use Rattle.litmus_parse.specs.Variables.{has_contradiction, locks_in, variables_in}
use Rattle.litmus_parse.proofs.DeclarationRefusals.{all_there}
use Rattle.litmus_parse.specs.Grammar.{task_of}
use Rattle.litmus_parse.specs.ProcessReader.{Course, processes_at, unbegun}
use Rattle.litmus_parse.specs.TextReader.{Parts, condition_at, ended, parts_at, parts_behind, program_at, put_together}

-- ---- names that are made

pub name_there : (ns : List (Bor (List ℕ))) (made whole : List (List ℕ)) (d : Bor (List ℕ)) → 1 ≤ length ns → made ++ map now ns ≡ whole
    → All IsUtf8 whole → IsUtf8 (get_or ns 0 d).now
name_there [] made whole d some is all = absurd (omega arith)
name_there (n ∷ ns) made whole d some is all =
    all_there IsUtf8 made n.now (map now ns) (subst (λ (l : List (List ℕ)). All IsUtf8 l) (sym is) all)

-- the registers of a task
abbrev NamedTask : tree.Task → Type 0
NamedTask t = All IsUtf8 t.registers

task_there_at : (ps : List Process) (bodies : List tree.Block) (made whole : List tree.Task) (q : Process)
    → made ++ map task_of (seen (map state_of (q ∷ ps)) bodies) ≡ whole → All NamedTask whole → All IsUtf8 (map now q.registers.items)
task_there_at ps [] made whole q is all =
    all_there NamedTask made (task_of (process_of (state_of q) tree.empty)) (map task_of (seen (map state_of ps) []))
    (subst (λ (l : List tree.Task). All NamedTask l) (sym is) all)
task_there_at ps (b ∷ bodies) made whole q is all =
    all_there NamedTask made (task_of (process_of (state_of q) b)) (map task_of (seen (map state_of ps) bodies))
    (subst (λ (l : List tree.Task). All NamedTask l) (sym is) all)

pub task_there : (ps : List Process) (bodies : List tree.Block) (made whole : List tree.Task) (p : Process) → 1 ≤ length ps → p ≡ get_or ps 0 p
    → made ++ map task_of (seen (map state_of ps) bodies) ≡ whole → All NamedTask whole → All IsUtf8 (map now p.registers.items)
task_there [] bodies made whole p some first_is is all = absurd (omega arith)
task_there (q ∷ ps) bodies made whole p some first_is is all =
    subst (λ (r : Process). All IsUtf8 (map now r.registers.items)) (sym first_is) (task_there_at ps bodies made whole q is all)

-- ---- a program is put together of parts

-- the program of a test's name and of parts, if there are any
abbrev put_if : List ℕ → Option Parts → Option tree.Program
put_if name o = o >>= λ r. Some (put_together name r)

ended_put : (name : List ℕ) (c : Course) (q : Quantifier) (x : tree.Proposition × List State) (b : Bool) → has_contradiction c.heading.table ≡ b
    → ended name c q x ≡ put_if name (parts_behind c q x)
ended_put name c q x true is =
    ap (λ (b : Bool). cond b None (Some (put_together name (record {
      names = c.heading.names;
      table = c.heading.table;
      states = x.1;
      bodies = c.bodies;
      quantifier = q;
      condition = x.0;
    })))) is
    ∙ sym (ap (λ (b : Bool). put_if name (cond b None (Some (record {
      names = c.heading.names;
      table = c.heading.table;
      states = x.1;
      bodies = c.bodies;
      quantifier = q;
      condition = x.0;
    })))) is)
ended_put name c q x false is =
    ap (λ (b : Bool). cond b None (Some (put_together name (record {
      names = c.heading.names;
      table = c.heading.table;
      states = x.1;
      bodies = c.bodies;
      quantifier = q;
      condition = x.0;
    })))) is
    ∙ sym (ap (λ (b : Bool). put_if name (cond b None (Some (record {
      names = c.heading.names;
      table = c.heading.table;
      states = x.1;
      bodies = c.bodies;
      quantifier = q;
      condition = x.0;
    })))) is)

condition_put : (name : List ℕ) (c : Course) (q : Quantifier) (o : Option (tree.Proposition × List State))
    → (o >>= λ x. ended name c q x) ≡ put_if name (o >>= λ x. parts_behind c q x)
condition_put name c q None = refl
condition_put name c q (Some x) = ended_put name c q x (has_contradiction c.heading.table) refl

quantified_put : (name : List ℕ) (c : Course) (o : Option (Quantifier × List Symbol))
    → (o >>= λ q. whole_at c.heading.names (locks_in c.heading.table) q.1 c.states >>= λ x. ended name c q.0 x)
    ≡ put_if name (o >>= λ q. whole_at c.heading.names (locks_in c.heading.table) q.1 c.states >>= λ x. parts_behind c q.0 x)
quantified_put name c None = refl
quantified_put name c (Some q) = condition_put name c q.0 (whole_at c.heading.names (locks_in c.heading.table) q.1 c.states)

-- the parts behind processes
abbrev parts_with : Course → Option Parts
parts_with c = quantifier_at c.heading.symbols >>= λ q. whole_at c.heading.names (locks_in c.heading.table) q.1 c.states >>= λ x. parts_behind c q.0 x

processes_put : (name : List ℕ) (o : Option Course) → (o >>= λ c. condition_at name c) ≡ put_if name (o >>= λ c. parts_with c)
processes_put name None = refl
processes_put name (Some c) = quantified_put name c (quantifier_at c.heading.symbols)

items_put : (name : List ℕ) (o : Option Heading) → (o >>= λ h. processes_at (unbegun h) >>= λ c. condition_at name c)
    ≡ put_if name (o >>= λ h. processes_at (unbegun h) >>= λ c. parts_with c)
items_put name None = refl
items_put name (Some h) = processes_put name (processes_at (unbegun h))

program_put : (name : List ℕ) (symbols : List Symbol) → program_at name symbols ≡ put_if name (parts_at symbols)
unfolding program_at parts_at
program_put name symbols = items_put name (initialization_at (unnamed symbols))

pub program_reads : (name : List ℕ) (symbols : List Symbol) (r : Parts) → parts_at symbols ≡ Some r
    → program_at name symbols ≡ Some (put_together name r)
program_reads name symbols r is = program_put name symbols ∙ ap (λ (o : Option Parts). put_if name o) is

pub nothing_reads : (name : List ℕ) (symbols : List Symbol) → parts_at symbols ≡ None → program_at name symbols ≡ None
nothing_reads name symbols is = program_put name symbols ∙ ap (λ (o : Option Parts). put_if name o) is

pub variables_named : (name : List ℕ) (symbols : List Symbol) (r : Parts) (p : tree.Program) → parts_at symbols ≡ Some r
    → program_at name symbols ≡ Some p → All (λ (v : Variable). IsUtf8 v.name) p.variables
    → All (λ (v : Variable). IsUtf8 v.name) (variables_in r.names r.table)
variables_named name symbols r p is reads all =
    subst (λ (q : tree.Program). All (λ (v : Variable). IsUtf8 v.name) q.variables)
    (same_given p (put_together name r) (sym reads ∙ program_reads name symbols r is)) all

pub tasks_named : (name : List ℕ) (symbols : List Symbol) (r : Parts) (p : tree.Program) → parts_at symbols ≡ Some r
    → program_at name symbols ≡ Some p → All (λ (t : tree.Task). All IsUtf8 t.registers) p.tasks
    → All (λ (t : tree.Task). All IsUtf8 t.registers) (map task_of (seen r.states r.bodies))
tasks_named name symbols r p is reads all =
    subst (λ (q : tree.Program). All (λ (t : tree.Task). All IsUtf8 t.registers) q.tasks)
    (same_given p (put_together name r) (sym reads ∙ program_reads name symbols r is)) all
