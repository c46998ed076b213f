-- A task that has made no step stands at the beginning of its text. It is the task of this number.
use Rattle.std.proofs.Common.{◌≡◌, ◌<◌, ◌∙◌, [], List, None, Some, ap, arith, length, refl, slice_get, subst, sym}
use Rattle.std.proofs.lemmas.Option.{slice_get_read}
use Rattle.litmus_syntax.specs.Views.{block_of}
use Rattle.litmus_syntax.specs.declared.program.Task.{Task}
use Rattle.prepared_program.specs.program_layout.Lays.{Lays}
use Rattle.prepared_program.specs.program_layout.Places.{places_of}
use Rattle.prepared_program.specs.declared.program_layout.layout.Layout.{Layout}
use Rattle.prepared_program.specs.program_sites.Prepared.{sites_in}
use Rattle.task_run.proofs.LimitLemmas.{few_task_sites, few_tasks}
use Rattle.task_run.proofs.NextLemmas.{first_stands, starts}
use Rattle.task_run.proofs.run.TaskRun.prepared.Goals as goal
use Rattle.task_run.specs.First.{setting_of}
use Rattle.task_run.specs.Leads.{Leads}
use Rattle.task_run.specs.declared.machine.Machine.{Machine}
use Rattle.task_plan.specs.declared.task_points.points.Latest.TheVariants.{Other}
use Rattle.task_run.specs.declared.run.TaskRun.{TaskRun}
use Rattle.program_order.specs.Standing.{Setting}

some_same : {X : Type 0} (one other : X) → Some one ≡ Some other → one ≡ other
some_same one other same = cc

pub new-requires : goal.new-requires
new-requires c =
    let tasks = c.as_slice.result.now in
    let same : length tasks ≡ length c.args.program.now.tasks = ap length c.as_slice.ensures in
    let below : c.args.number < length tasks = omega (arith, c.requires.there, same) in
    let stands : slice_get c.args.program.now.tasks c.args.number ≡ Some c.index-as_slice-number.result =
    subst (λ (all : List Task). slice_get all c.args.number ≡ Some c.index-as_slice-number.result) c.as_slice.ensures
    (slice_get_read tasks (length tasks) c.args.number c.index-as_slice-number.result refl below c.index-as_slice-number.is) in
    rw c.as_slice-2.ensures.value (few_task_sites c.args.program.now c.args.number c.index-as_slice-number.result c.requires.limits stands)

pub checker-requires-clause-task : goal.checker-requires-clause-task
checker-requires-clause-task c =
    let tasks = c.as_slice.result.now in
    let same : length tasks ≡ length c.args.program.now.tasks = ap length c.as_slice.ensures in
    let below : c.args.number < length tasks = omega (arith, c.requires.there, same) in
    let stands : slice_get c.args.program.now.tasks c.args.number ≡ Some c.index-as_slice-number.result =
    subst (λ (all : List Task). slice_get all c.args.number ≡ Some c.index-as_slice-number.result) c.as_slice.ensures
    (slice_get_read tasks (length tasks) c.args.number c.index-as_slice-number.result refl below c.index-as_slice-number.is) in
    let few = few_tasks c.args.program.now c.args.number c.index-as_slice-number.result c.requires.limits stands in omega arith

pub checker-requires-clause-slots : goal.checker-requires-clause-slots
checker-requires-clause-slots c =
    let ready = c.requires.ready.1 in
    rw ready.rules (ready.some_slots, ready.few_slots)

pub returns-clause-leads : goal.returns-clause-leads
returns-clause-leads c = λ settings task prepared is.
    let program = c.args.program.now in
    let tasks = c.as_slice.result.now in
    let same : length tasks ≡ length program.tasks = ap length c.as_slice.ensures in
    let below : c.args.number < length tasks = omega (arith, c.requires.there, same) in
    let read = c.index-as_slice-number.result in
    let stands : slice_get program.tasks c.args.number ≡ Some read =
    subst (λ (all : List Task). slice_get all c.args.number ≡ Some read) c.as_slice.ensures
    (slice_get_read tasks (length tasks) c.args.number read refl below c.index-as_slice-number.is) in
    let registers = length read.registers in
    let s : Setting = setting_of program settings (sites_in c.args.prepared.now) c.args.number in
    let places = places_of settings.places.items in
    let lays = subst (λ (layout : Layout). Lays places program.variables layout) (sym c.in_ok-layout.ensures) prepared.lays in
    let machine : Machine = record {
      task = c.args.number;
      rules = c.args.prepared.now.rules;
      variables = c.as_slice-variables.result;
      layout = c.in_ok-layout.layout;
      sites = c.in-Ok.sites;
      walk = c.in-Ok-new.walk;
      progress = c.in-Ok-new-2.progress;
      in_force = 0;
      checker = c.in-Ok-checker.checker;
      begins = None;
    } in
    let new : TaskRun = record { machine = c.advance.new.self; stage = c.advance.new.stage; news = record { fell = None; latest = Other } } in
    subst (λ (t : Task). Leads s (length t.registers) (block_of t.body.items) [] new) (some_same read task (sym stands ∙ is))
    (starts s registers (block_of read.body.items) machine new
    (first_stands s registers machine
    (record { task = refl; rules = prepared.rules; variables = c.as_slice-variables.ensures; layout = lays; sites = c.in-Ok.ensures })
    (rw (← c.as_slice-variables.ensures, ← c.as_slice-registers.ensures) c.in-Ok-new-2.ensures) c.in-Ok-checker.ensures.context refl
    (rw (← prepared.cells, ← prepared.rules) (c.in-Ok-checker.ensures.rests (sites_in c.args.prepared.now))))
    (λ before records after rest. rw (← c.as_slice-2.ensures.value) (c.in-Ok-new.ensures.left s before records after rest))
    (λ before stands. c.advance.ensures.begins s before stands))
