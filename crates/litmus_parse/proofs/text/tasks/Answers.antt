-- The task of the first process that is left, with the first body.
use Rattle.std.proofs.Common.{All, ◌≡◌, ◌++◌, ◌-◌, ◌<◌, List, [], ◌∷◌, Vec, Global, drop, length, map, sym, subst, take, arith}
use Rattle.litmus_syntax.specs.Tree as tree
use Rattle.litmus_syntax.specs.Views as views
use Rattle.litmus_syntax.specs.declared.program.Task.{Task}
use Rattle.litmus_syntax.specs.declared.statement.Statement.{Statement}
use Rattle.litmus_expression.specs.States.{state_of}
use Rattle.litmus_parse.specs.Seen.{seen}
use Rattle.litmus_parse.proofs.DeclarationRefusals.{err_holds}
use Rattle.litmus_parse.specs.Grammar.{task_of}
use Rattle.std.specs.Str.{IsUtf8}
use Rattle.litmus_lex.specs.declared.cursor.Refusal.TheVariants.{OutOfMemory}
use Rattle.litmus_parse.specs.TextReader.{bodies_of}
use Rattle.litmus_parse.proofs.Refusals.{task_there}
use Rattle.litmus_parse.proofs.Tasks.{next_task, rest_sized}
use Rattle.litmus_parse.proofs.text.tasks.Goals as goal

pub loop-processes-preserved : goal.loop-processes-preserved
loop-processes-preserved c =
    let l = c.loop-processes in
    let some : 0 < length l.bodies.items = omega (arith, l.invariant.sized, c.in-len1-up.len_at_least) in
    let whole : List tree.Task = map task_of (seen (map state_of c.args.processes.now) (bodies_of c.args.bodies.items)) in
    record {
      sized = rest_sized l.processes.now _ _ l.invariant.sized c.in-len1-up.len_at_least c.remove-body.ensures.len;
      made = subst (λ (ts : List Task). map views.task_of ts ++ map task_of
          (seen (map state_of (take (length l.processes.now - 1) (drop 1 l.processes.now)))
          (bodies_of c.remove-body.new.self.items)) ≡ whole) (sym c.in_ok-push.ensures.items)
          (subst (λ (bs : List (Vec Statement Global)). map views.task_of (l.tasks.items ++ c.in_ok-task.field-0 ∷ [])
          ++ map task_of (seen (map state_of (take (length l.processes.now - 1) (drop 1 l.processes.now))) (bodies_of bs)) ≡ whole)
          (sym c.remove-body.ensures.items)
          (next_task l.tasks.items c.in_ok-task.field-0 l.processes.now c.process-item.result l.bodies.items c.remove-body.result whole c.in-len1-up.len_at_least
          c.process-item.is some c.remove-body.ensures.value c.in_ok-task.ensures.ok l.invariant.made));
    }

pub returns-in_err-task-clause-err : goal.returns-in_err-task-clause-err
returns-in_err-task-clause-err c =
    let l = c.loop-processes in
    err_holds (λ refusal. All (λ (t : tree.Task). All IsUtf8 t.registers) (map task_of (seen (map state_of c.args.processes.now)
    (bodies_of c.args.bodies.items))) → refusal ≡ OutOfMemory) c.from_residual.result c.in_err-task.field-0.0 c.from_residual.ensures.1
    (λ named. c.in_err-task.ensures.err
    (task_there l.processes.now (bodies_of l.bodies.items) (map views.task_of l.tasks.items) _ c.process-item.result c.in-len1-up.len_at_least
    c.process-item.is l.invariant.made named))
