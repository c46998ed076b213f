-- Where a name isn't UTF-8, no program with such names is read.
use Rattle.std.proofs.Common.{◌≡◌, ◌∙◌, ℕ, All, List, Some, ap, map, subst, sym}
use Rattle.std.specs.Str.{IsUtf8}
use Rattle.litmus_syntax.specs.Tree as tree
use Rattle.litmus_syntax.specs.Views as views
use Rattle.litmus_syntax.specs.declared.program.Variable.{Variable}
use Rattle.litmus_lex.specs.Front.{symbols_left}
use Rattle.litmus_expression.specs.declared.process.Process.{Process}
use Rattle.litmus_expression.specs.States.{state_of}
use Rattle.litmus_parse.specs.Seen.{seen}
use Rattle.litmus_parse.specs.Variables.{variables_in}
use Rattle.litmus_parse.proofs.DeclarationRefusals.{err_holds}
use Rattle.litmus_parse.specs.Grammar.{task_of}
use Rattle.litmus_parse.specs.Refused.{Refuses}
use Rattle.litmus_parse.specs.TextReader.{Parts, bodies_of, parts_of, program_at}
use Rattle.litmus_parse.proofs.Refusals.{program_reads, tasks_named, variables_named}
use Rattle.litmus_parse.proofs.text.whole.Goals as goal

pub returns-in_err-variables-clause-refuses : goal.returns-in_err-variables-clause-refuses
returns-in_err-variables-clause-refuses c =
    err_holds (λ refusal. Refuses refusal (program_at c.args.name (symbols_left c.args.cursor))) c.from_residual-in_err-variables.result
    c.in_err-variables.field-0.0 c.from_residual-in_err-variables.ensures.1
    (λ other program reads named. other (c.in_err-variables.ensures.err
    (variables_named c.args.name (symbols_left c.args.cursor) (parts_of c.in_ok-read.read) program c.in_ok-read.ensures.reads reads named.0)))

pub returns-in_err-tasks-clause-refuses : goal.returns-in_err-tasks-clause-refuses
returns-in_err-tasks-clause-refuses c =
    err_holds (λ refusal. Refuses refusal (program_at c.args.name (symbols_left c.args.cursor))) c.from_residual-in_err-tasks.result
    c.in_err-tasks.field-0.0 c.from_residual-in_err-tasks.ensures.1
    (λ other program reads named. other (c.in_err-tasks.ensures.err
    (subst (λ (ps : List Process). All (λ (t : tree.Task). All IsUtf8 t.registers)
    (map task_of (seen (map state_of ps) (bodies_of c.in_ok-read.read.bodies.items)))) (sym c.deref.ensures.value)
    (tasks_named c.args.name (symbols_left c.args.cursor) (parts_of c.in_ok-read.read) program c.in_ok-read.ensures.reads reads named.1))))

pub returns-clause-reads : goal.returns-clause-reads
returns-clause-reads c =
    let r : Parts = parts_of c.in_ok-read.read in
    let made = c.from_vec.ensures in
    let done = c.from_vec-2.ensures in
    let called = c.name.view_is in
    let variables : variables_in r.names r.table ≡ c.from_vec.result = sym (made ∙ c.in_ok-variables.ensures.ok) in
    let tasks : map task_of (seen r.states r.bodies) ≡ map views.task_of c.from_vec-2.result =
    sym (ap (λ (l : _). map views.task_of l) done ∙ c.in_ok-tasks.ensures.ok
    ∙ ap (λ (ps : List Process). map task_of (seen (map state_of ps) r.bodies)) c.deref.ensures.value) in
    let name : c.args.name ≡ c.name.inside.text.bytes.items = cc in
    program_reads c.args.name (symbols_left c.args.cursor) r c.in_ok-read.ensures.reads
    ∙ ap (λ (vs : List Variable). Some (record {
      name = c.args.name;
      variables = vs;
      tasks = map task_of (seen r.states r.bodies);
      quantifier = r.quantifier;
      condition = r.condition;
    })) variables
    ∙ ap (λ (ts : List tree.Task). Some (record {
      name = c.args.name;
      variables = c.from_vec.result;
      tasks = ts;
      quantifier = r.quantifier;
      condition = r.condition;
    })) tasks
    ∙ ap (λ (n : List ℕ). Some (record {
      name = n;
      variables = c.from_vec.result;
      tasks = map views.task_of c.from_vec-2.result;
      quantifier = r.quantifier;
      condition = r.condition;
    })) name
