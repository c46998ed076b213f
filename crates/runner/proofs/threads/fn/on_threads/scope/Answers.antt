-- By what each start is of.
use Rattle.std.proofs.Common.{rules, ◌≡◌, ◌<◌, ◌∷◌, ◌++◌, ◌∙◌, [], ℕ, suc, List, Some, ap, arith, length, map, slice_get, slice_index_or, subst, sym, refl, vec_len}
use Rattle.std.proofs.lemmas.List.{append-nil, length-map}
use Rattle.std.specs.Vec.Iter.{into_iter_items}
use Rattle.runner.proofs.TurnLemmas.{Came, empty_of, none_promised, promised_on, same_number}
use Rattle.std.proofs.alloc.Global.TheSendSync as global
use denote.Exit.{yes}
use denote.Param.{param}
use denote.RattleType.{RattleType}
use denote.Struct.Declared as declared
use denote.Struct.Field.{shr_ref_field, shr_slice_field}
use denote.Struct.Tuple.{type_at}
use mir.Syntax.{named}
use Rattle.prepared_program.specs.contracts.program_sites.prepared.Prepared as prepared_row
use Rattle.prepared_program.specs.contracts.program_sites.settings.Settings as settings_row
use Rattle.litmus_syntax.specs.contracts.program.Program as program_row
use Rattle.runner.specs.contracts.first.TaskStarts as start_row
use Rattle.shared_table.specs.contracts.table.SharedTable as table_row
use Rattle.std.specs.contracts.alloc.Global as global_row
use Rattle.runner.proofs.threads.fn.on_threads.scope.Lts as lts
use Rattle.std.proofs.lemmas.Option.{get_or_from_slice_get, slice_get_read, slice_get_within}
use denote.Param.Send.{AllSend, IsSend, arg_send, param_send, recorded_send, shr_send, shr_slice_send, struct_send}
use denote.Struct.Struct.{Struct}
use Rattle.litmus_step.proofs.FirstLemmas.{each_push}
use Rattle.litmus_step.specs.Runs.{run_of, tasks_of}
use Rattle.executions.specs.execution.Run.{Run}
use Rattle.prepared_program.proofs.program_sites.prepared.Prepared.TheSendSync as prepared
use Rattle.prepared_program.specs.program_sites.Prepared.{sites_in}
use Rattle.prepared_program.proofs.program_sites.settings.Settings.TheSendSync as settings
use Rattle.litmus_syntax.proofs.Shared.{program_shared}
use Rattle.runner.proofs.first.TaskStarts.TheSendSync as start
use Rattle.shared_table.proofs.table.SharedTable.TheSendSync as table
use Rattle.runner.proofs.threads.fn.on_threads.scope.Goals as goal
use Rattle.runner.specs.Starts.{AreSomeStarts, IsOutcomeOfEach}
use Rattle.runner.specs.Terms.{run_of_batch}
use Rattle.runner.specs.declared.first.TaskStarts.{TaskStarts}
use Rattle.runner.specs.declared.threads.OfTask.{OfTask}
use Rattle.shared_table.specs.Seats.{Opened}

pub loop-start-init : goal.loop-start-init
loop-start-init g c = record {
  made = omega (arith, c.in_ok-handles.ensures.len);
  room = omega (arith, c.in_ok-handles.ensures.capacity, c.len.ensures, c.into_iter-start-iterator.ensures.into_iter_gives.1);
  rest = subst (AreSomeStarts c.captures.tables.now (tasks_of (run_of c.captures.program.now c.captures.settings.now (sites_in c.captures.prepared.now)))) (sym c.into_iter-start-iterator.ensures.into_iter_gives.0) c.requires.starts;
  runs = λ at handle is. absurd (let none : slice_get [] at ≡ Some handle = ap (λ (xs : List _). slice_get xs at) (sym c.in_ok-handles.ensures.items) ∙ is in cc);
  tables = λ at handle is. absurd (let none : slice_get [] at ≡ Some handle = ap (λ (xs : List _). slice_get xs at) (sym c.in_ok-handles.ensures.items) ∙ is in cc);
  tasks = none_promised _ _ _ _ c.in_ok-handles.ensures.items;
}

-- a closure may be sent where each that it captures may
closure_send : (T : declared.Declared) → AllSend (declared.shape T).fields → IsSend (declared.row T)
closure_send T all = recorded_send (Struct (declared.shape T)) T.D T.to T.to_one (struct_send (declared.shape T) all)

pub spawn_with-requires-send-F : goal.spawn_with-requires-send-F
spawn_with-requires-send-F g c κs within =
    let rows : List RattleType =
    (shr_ref_field (record { mir = named 6; lft = κs.1.1.1.1.1.1.0 }) program_row.the_row tt).row
    ∷ (shr_ref_field (record { mir = named 7; lft = κs.1.1.1.1.1.1.1.0 }) settings_row.the_row tt).row
    ∷ (shr_ref_field (record { mir = named 8; lft = κs.1.1.1.1.1.1.1.1.0 }) prepared_row.the_row tt).row
    ∷ (shr_slice_field (record { mir = named 9; lft = κs.1.1.1.1.1.1.1.1.1.0 }) table_row.the_row tt).row
    ∷ start_row.the_row
    ∷ (shr_ref_field (record { mir = named 10; lft = κs.1.1.1.1.1.1.1.1.1.1.0 }) (param 0 g.row.R) tt).row
    ∷ global_row.the_row
    ∷ (shr_slice_field (record { mir = named 11; lft = κs.1.1.1.1.1.1.1.1.1.1.1.0 }) (param 1 g.row.S) tt).row
    ∷ (shr_slice_field (record { mir = named 12; lft = κs.1.1.1.1.1.1.1.1.1.1.1.1.0 }) (param 2 g.row.G) tt).row
    ∷ [] in
    let all : AllSend rows = (
      shr_send _ _ _ program_shared,
      (
        shr_send _ _ _ settings.the_sync,
        (
          shr_send _ _ _ prepared.the_sync,
          (
            shr_slice_send _ _ _ table.the_sync,
            (start.the_send, (shr_send _ _ _ c.requires.sync.0, (global.the_send, (shr_slice_send _ _ _ c.requires.sync.1, (shr_slice_send _ _ _ c.requires.sync.2, tt))))),
          ),
        ),
      ),
    ) in
    param_send 2 (lts.arg-7-2 g.row.R g.row.S g.row.G g.R.laws g.S.laws g.G.laws g.R.Threads-dict g.R.Wait-dict g.S.Stall-dict g.G.Gate-dict κs)
    (arg_send _ yes _ (closure_send (type_at _ rows) all))

pub spawn_with-requires-clause-runs : goal.spawn_with-requires-clause-runs
spawn_with-requires-clause-runs g c κs within =
    let steps = c.in-Some.ensures.steps in
    let it = c.loop-start.invariant.rest 0 c.in-Some.start (ap (λ (xs : List TaskStarts). slice_get xs 0) steps.0) in
    (c.requires.given, (it.0, (it.1, (c.requires.stalls, (c.requires.gates, search rules)))))

pub spawn_with-requires-clause-keeps : goal.spawn_with-requires-clause-keeps
spawn_with-requires-clause-keeps g c κs within = λ r kept. kept

pub push_reserved-requires : goal.push_reserved-requires
push_reserved-requires g c =
    let was = c.loop-start.invariant in
    let steps = c.in-Some.ensures.steps in
    omega (arith, was.made, was.room, steps.1)

pub loop-start-preserved : goal.loop-start-preserved
loop-start-preserved g c =
    let was = c.loop-start.invariant in
    let steps = c.in-Some.ensures.steps in
    let pushed = c.push_reserved.ensures in
    let run : Run = run_of c.captures.program.now c.captures.settings.now (sites_in c.captures.prepared.now) in
    record {
      made = omega (arith, was.made, steps.1, pushed.len);
      room = omega (arith, was.room, pushed.capacity);
      rest = λ at start is. was.rest (suc at) start (ap (λ (xs : List TaskStarts). slice_get xs (suc at)) steps.0 ∙ is);
      runs = subst (λ (all : List _). (at : ℕ) (handle : _) → slice_get all at ≡ Some handle → run_of_batch handle.promise.batch ≡ run) (sym pushed.items)
          (each_push (λ at handle. run_of_batch handle.promise.batch ≡ run) c.loop-start.handles.items c.in-Ok.handle was.runs
          (ap (λ (p : OfTask). run_of_batch p.batch) c.in-Ok.ensures.ok));
      tables = subst (λ (all : List _). (at : ℕ) (handle : _) → slice_get all at ≡ Some handle → handle.promise.batch.tables.now ≡ c.captures.tables.now)
          (sym pushed.items)
          (each_push (λ at handle. handle.promise.batch.tables.now ≡ c.captures.tables.now) c.loop-start.handles.items c.in-Ok.handle was.tables
          (ap (λ (p : OfTask). p.batch.tables.now) c.in-Ok.ensures.ok));
      tasks = rw pushed.items (promised_on (λ handle. handle.promise.task) (λ (start : TaskStarts). start.number) c.loop-start.handles.items
          c.in-Ok.handle c.in-Some.start _ _ (ap (λ (p : OfTask). p.task) c.in-Ok.ensures.ok)
          (ap (λ (xs : List TaskStarts). map (λ handle. handle.promise.task) c.loop-start.handles.items ++ map (λ (start : TaskStarts). start.number) xs)
          (sym steps.0) ∙ was.tasks));
    }

pub returns-in-Ok-join_promised : goal.returns-in-Ok-join_promised
returns-in-Ok-join_promised g c =
    let was = c.loop-start.invariant in
    let run : Run = run_of c.captures.program.now c.captures.settings.now (sites_in c.captures.prepared.now) in
    let handles = c.loop-start.handles.items in
    let starts = c.captures.starts.items in
    let outcomes = c.in-Ok-join_promised.outcomes.items in
    let joined : vec_len c.in-Ok-join_promised.outcomes ≡ vec_len c.loop-start.handles = c.in-Ok-join_promised.ensures.len in
    let none : into_iter_items c.loop-start.start-iterator ≡ [] =
    empty_of (into_iter_items c.loop-start.start-iterator) (let over = c.in-None.ensures.steps.0 in omega (arith, over, c.loop-start.start-iterator.rest.ok.0)) in
    let tasks : map (λ handle. handle.promise.task) handles ≡ map (λ (start : TaskStarts). start.number) starts =
    sym (append-nil (map (λ handle. handle.promise.task) handles))
    ∙ (ap (λ (xs : List TaskStarts). map (λ handle. handle.promise.task) handles ++ map (λ (start : TaskStarts). start.number) xs) (sym none)
    ∙ (was.tasks ∙ ap (map (λ (start : TaskStarts). start.number)) c.into_iter-start-iterator.ensures.into_iter_gives.0)) in
    let many : length handles ≡ length starts =
    sym (length-map handles (λ handle. handle.promise.task))
    ∙ (ap length tasks ∙ length-map starts (λ (start : TaskStarts). start.number)) in
    record {
      outcomes = record {
        all = omega (arith, joined, many, c.in-Ok-join_promised.outcomes.ok.0, c.loop-start.handles.ok.0);
        each = λ at start outcome is_start is.
            let within : at < length outcomes = slice_get_within outcomes at outcome is in
            let below : at < vec_len c.loop-start.handles = omega (arith, within, joined, c.in-Ok-join_promised.outcomes.ok.0) in
            let kept = (c.in-Ok-join_promised.ensures.each at outcome below).1 in
            let same = get_or_from_slice_get outcomes at outcome outcome is in
            let stands = slice_get_read handles (length handles) at kept.handle refl (let b : at < length handles = omega (arith, below, c.loop-start.handles.ok.0) in b)
            kept.handle_is in
            let promise : OfTask = kept.handle.promise in
            let found : Came = slice_index_or outcomes at outcome in
            let number : promise.task ≡ start.number =
            same_number (λ handle. handle.promise.task) (λ (s : TaskStarts). s.number) handles starts at kept.handle start tasks stands is_start in
            subst (λ (o : Came). IsOutcomeOfEach run c.captures.tables.now start.number o.items) same
            (subst (λ (n : ℕ). IsOutcomeOfEach run c.captures.tables.now n found.items) number
            (subst (λ (t : List Opened). IsOutcomeOfEach run t promise.task found.items) (was.tables at kept.handle stands)
            (subst (λ (r : Run). IsOutcomeOfEach r promise.batch.tables.now promise.task found.items) (was.runs at kept.handle stands) kept.kept)));
      };
      errors = tt;
    }
