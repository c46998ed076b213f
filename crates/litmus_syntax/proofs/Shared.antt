-- Threads may share a program: so it is of each of its parts, as it stands alone and in what holds it.
use denote.Param.Send.{IsSync, sendable}
use Rattle.litmus_syntax.proofs.expression.BinaryOperator.TheSendSync as binary_operator
use Rattle.litmus_syntax.proofs.expression.Loading.TheLaws.TheKnot.{sync-Loading}
use Rattle.litmus_syntax.proofs.expression.Pure.TheLaws.TheKnot.{sync-Pure}
use Rattle.litmus_syntax.proofs.expression.ReadForm.TheSendSync as read_form
use Rattle.litmus_syntax.proofs.expression.UnaryOperator.TheSendSync as unary_operator
use Rattle.litmus_syntax.proofs.names.Name.TheSendSync as name
use Rattle.litmus_syntax.proofs.names.Sequence.TheSendSync as sequence
use Rattle.litmus_syntax.proofs.program.Variable.TheSendSync as variable
use Rattle.litmus_syntax.proofs.proposition.Proposition.TheLaws.TheKnot.{sync-Proposition}
use Rattle.litmus_syntax.proofs.proposition.Quantifier.TheSendSync as quantifier
use Rattle.litmus_syntax.proofs.statement.Call.TheSendSync as call
use Rattle.litmus_syntax.proofs.statement.Statement.TheLaws.TheKnot.{sync-Statement}
use Rattle.litmus_syntax.proofs.statement.WriteForm.TheSendSync as write_form
use Rattle.litmus_syntax.specs.contracts.expression.Expression as Expression
use Rattle.litmus_syntax.specs.contracts.expression.Fetch as Fetch
use Rattle.litmus_syntax.specs.contracts.expression.Load as Load
use Rattle.litmus_syntax.specs.contracts.expression.Loading as Loading
use Rattle.litmus_syntax.specs.contracts.expression.Pure as Pure
use Rattle.litmus_syntax.specs.contracts.program.Program as Program
use Rattle.litmus_syntax.specs.contracts.program.Task as Task
use Rattle.litmus_syntax.specs.contracts.proposition.Proposition as Proposition
use Rattle.litmus_syntax.specs.contracts.statement.Assignment as Assignment
use Rattle.litmus_syntax.specs.contracts.statement.Statement as Statement
use Rattle.std.proofs.Crossing.{crosses}

pure_field : IsSync (Pure.the_field).row
pure_field = search (sendable, crosses, sync-Pure, unary_operator.the_field_sync, binary_operator.the_field_sync) depth 20

fetch_field : IsSync (Fetch.the_field).row
fetch_field = let p = pure_field in search (sendable, crosses, p, read_form.the_field_sync) depth 20

pub load_field : IsSync (Load.the_field).row
load_field = let f = fetch_field in search (sendable, crosses, f) depth 20

pub loading_field : IsSync (Loading.the_field).row
loading_field =
    let p = pure_field in
    let l = load_field in
    search (sendable, crosses, sync-Loading, p, l, unary_operator.the_field_sync, binary_operator.the_field_sync) depth 20

pub expression_field : IsSync (Expression.the_field).row
expression_field = let p = pure_field in let l = loading_field in search (sendable, crosses, p, l) depth 20

pub assignment_field : IsSync (Assignment.the_field).row
assignment_field = let p = pure_field in let e = expression_field in search (sendable, crosses, p, e, write_form.the_field_sync) depth 20

pub statement_shared : IsSync Statement.the_row
statement_shared =
    search (sendable, crosses, sync-Statement, load_field, expression_field, assignment_field, call.the_field_sync) depth 20

pub task_shared : IsSync Task.the_row
task_shared = search (sendable, crosses, statement_shared, sequence.the_sync, name.the_sync) depth 20

pub proposition_field : IsSync (Proposition.the_field).row
proposition_field = search (sendable, crosses, sync-Proposition) depth 20

pub program_shared : IsSync Program.the_row
program_shared =
    search (sendable, crosses, task_shared, proposition_field, sequence.the_sync, name.the_sync, variable.the_sync, quantifier.the_field_sync) depth 20
