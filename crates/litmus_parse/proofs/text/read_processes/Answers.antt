-- A process more is read, or all are.
use Rattle.std.proofs.Common.{rules, ◌≡◌, ◌∙◌, ◌++◌, ◌∷◌, [], List, None, Some, Vec, Global, length, map, sym, ap, subst, arith}
use Rattle.std.proofs.lemmas.Bool.{eqb-false, eqb-true}
use Rattle.std.proofs.lemmas.List.{length-map}
use Rattle.litmus_syntax.specs.declared.statement.Statement.{Statement}
use Rattle.litmus_syntax.specs.Tree as tree
use Rattle.litmus_syntax.specs.Views.{block_of}
use Rattle.litmus_lex.specs.declared.cursor.Refusal.TheVariants.{OutOfMemory}
use Rattle.litmus_lex.specs.Words.{Symbol}
use Rattle.litmus_expression.specs.declared.process.Process.{Process}
use Rattle.litmus_expression.specs.States.{State, state_of}
use Rattle.litmus_parse.specs.ItemReader.{Heading, heading_of}
use Rattle.litmus_parse.specs.ProcessReader.{Course, process_at, processes_at, unbegun}
use Rattle.litmus_parse.specs.TextReader.{bodies_of}
use Rattle.litmus_parse.proofs.ProcessUnrolled.{bodies_more, no_more, none_at_all, read_more, refused, states_more, too_many}
use Rattle.litmus_parse.proofs.text.read_processes.Goals as goal

pub returns-then-len-eq-TASKS-clause-reads : goal.returns-then-len-eq-TASKS-clause-reads
returns-then-len-eq-TASKS-clause-reads c =
    let l = c.loop-processes in
    let now : Course = record {
      heading = heading_of l.header;
      states = map state_of l.processes.items;
      bodies = bodies_of l.bodies.items;
    } in
    let read : length (map state_of l.processes.items) ≡ c.len.result =
    (let same = length-map l.processes.items state_of in omega (arith, same, c.len.ensures)) in
    λ memory. l.invariant.reads ∙ too_many now c.len.result read (sym c.is_at_process.ensures.exact ∙ c.loop-processes-test.true)
    (omega arith)

pub returns-in_err-process-clause-reads : goal.returns-in_err-process-clause-reads
returns-in_err-process-clause-reads c =
    let l = c.loop-processes in
    let now : Course = record {
      heading = heading_of l.header;
      states = map state_of l.processes.items;
      bodies = bodies_of l.bodies.items;
    } in
    let read : length (map state_of l.processes.items) ≡ c.len.result =
    (let same = length-map l.processes.items state_of in omega (arith, same, c.len.ensures)) in
    let few : c.len.result ≡ 16 → ⊥ = λ full. omega arith in
    let none : (c.in_err-process.field-0.0 ≡ OutOfMemory → ⊥) → processes_at (unbegun (heading_of c.args.header.now)) ≡ None =
    λ memory. l.invariant.reads ∙ refused now c.len.result read (sym c.is_at_process.ensures.exact ∙ c.loop-processes-test.true) few
    (subst (λ (s : List Symbol). process_at (record (heading_of l.header) { symbols = s }) ≡ None) c.advance.ensures.symbols
    (c.in_err-process.ensures.reads memory)) in
    search (none, rules)

pub loop-processes-preserved : goal.loop-processes-preserved
loop-processes-preserved c =
    let l = c.loop-processes in
    let now : Course = record {
      heading = heading_of l.header;
      states = map state_of l.processes.items;
      bodies = bodies_of l.bodies.items;
    } in
    let read : length (map state_of l.processes.items) ≡ c.len.result =
    (let same = length-map l.processes.items state_of in omega (arith, same, c.len.ensures)) in
    let few : c.len.result ≡ 16 → ⊥ = λ full. omega arith in
    let p : (State × tree.Block) × Heading = (
      (state_of c.in_ok-process.process, block_of c.in_ok-process.body.items),
      heading_of c.read_process.new.header,
    ) in
    let is = subst (λ (s : List Symbol). process_at (record (heading_of l.header) { symbols = s })
    ≡ Some p) c.advance.ensures.symbols c.in_ok-process.ensures.reads in
    record {
      few = omega (arith, c.in_ok-push.ensures.len);
      sized = omega (arith, c.in_ok-push.ensures.len, c.in_ok-push-2.ensures.len);
      reads = l.invariant.reads
          ∙ read_more now c.len.result read p (sym c.is_at_process.ensures.exact ∙ c.loop-processes-test.true) few is
          ∙ ap (λ (s : List State). processes_at (record { heading = p.1; states = s; bodies = bodies_of l.bodies.items ++ p.0.1 ∷ [] }))
          (sym (states_more l.processes.items c.in_ok-process.process)
          ∙ ap (λ (ps : List Process). map state_of ps) (sym c.in_ok-push.ensures.items))
          ∙ ap (λ (b : List tree.Block). processes_at (record { heading = p.1; states = map state_of c.push.new.self.items; bodies = b }))
          (sym (bodies_more l.bodies.items c.in_ok-process.body)
          ∙ ap (λ (bs : List (Vec Statement Global)). bodies_of bs) (sym c.in_ok-push-2.ensures.items));
    }

pub returns-then-is_empty-clause-reads : goal.returns-then-is_empty-clause-reads
returns-then-is_empty-clause-reads c =
    let l = c.loop-processes in
    let now : Course = record {
      heading = heading_of l.header;
      states = map state_of l.processes.items;
      bodies = bodies_of l.bodies.items;
    } in
    let read : length (map state_of l.processes.items) ≡ c.len.result =
    (let same = length-map l.processes.items state_of in omega (arith, same, c.len.ensures)) in
    λ memory. l.invariant.reads ∙ none_at_all now c.len.result read (sym c.is_at_process.ensures.exact ∙ c.loop-processes-test.false)
    (let none = eqb-true _ 0 (sym c.if-is_empty.ensures) in omega (arith, none, c.len.ensures))

pub returns-clause-reads : goal.returns-clause-reads
returns-clause-reads c =
    let l = c.loop-processes in
    let now : Course = record {
      heading = heading_of l.header;
      states = map state_of l.processes.items;
      bodies = bodies_of l.bodies.items;
    } in
    let read : length (map state_of l.processes.items) ≡ c.len.result =
    (let same = length-map l.processes.items state_of in omega (arith, same, c.len.ensures)) in
    l.invariant.reads ∙ no_more now c.len.result read (sym c.is_at_process.ensures.exact ∙ c.loop-processes-test.false)
    (λ zero. let some = eqb-false _ 0 (sym c.if-is_empty.ensures) in some (sym c.len.ensures ∙ zero))
