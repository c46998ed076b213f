-- One record more leads on, whichever access begins by it.
use Rattle.std.proofs.Common.{arith, map, vec_capacity, ◌∷◌, ◌∙◌, ℕ, List, ap, refl, subst, sym}
use Rattle.std.proofs.Math.Logic.{∥∥₁_map}
use Rattle.std.proofs.Props.{props}
use mathlib.Core.Logic.{∥∥₁_elim}
use Rattle.setup_access.specs.Parts.{made}
use Rattle.std.proofs.lemmas.Option.{slice_get_within}
use Rattle.litmus_step.proofs.MakeLemmas.{fell_in, noted_more, world_leads}
use Rattle.litmus_step.proofs.UnloggedLemmas.{some_begin}
use Rattle.litmus_step.proofs.NameLemmas.{names_prop}
use Rattle.litmus_step.proofs.PointLemmas.{world_points}
use Rattle.litmus_step.proofs.RoomLemmas.{same_mapped}
use Rattle.litmus_step.proofs.StepLemmas.{set_other}
use Rattle.litmus_step.proofs.TurnLemmas.{same_machine}
use Rattle.litmus_step.proofs.world.World.make_unlogged.Goals as goal
use Rattle.litmus_step.specs.Kept.{rooms_of}
use Rattle.litmus_step.specs.Steps.{Room}
use Rattle.task_log.specs.Keeps as task_log
use Rattle.task_run.specs.Fell.{fell_of}
use Rattle.task_run.specs.Room.{task_room}
use Rattle.task_run.specs.Says.{Says}
use Rattle.task_run.specs.declared.run.TaskRun.{TaskRun}

pub step-answer-requires : goal.step-answer-requires
step-answer-requires c =
    ∥∥₁_elim c.args.self.now.led (names_prop c.args.self.now.board c.args.step)
    (λ is. c.law_steps_lead_on.ensures.names is.run is.records c.args.self.now.board c.args.self.now.tasks.items c.args.self.now.steps
    c.args.self.now.logs.items c.args.self.now.reports.items (vec_capacity c.args.self.now.reports)
    c.args.task c.args.step is.leads c.requires.next)

pub answer-requires-clause-says : goal.answer-requires-clause-says
answer-requires-clause-says c =
    let same = same_machine c.args.self.now c.args.task c.index_mut.result.now c.requires.next.machine c.requires.there
    c.index_mut.ensures.value
    c.requires.next.stands in
    subst (λ (machine : TaskRun). Says machine c.args.step) (sym same) c.requires.next.makes.says

pub note_fallen-requires-clause-there : goal.note_fallen-requires-clause-there
note_fallen-requires-clause-there c =
    ∥∥₁_elim c.args.self.now.led (hlevel props)
    (λ is.
    let logs = is.leads.kept.logs_are.all in
    let tasks = is.leads.tasks.all in
    let logs_len = c.args.self.now.logs.ok.0 in
    let tasks_len = c.args.self.now.tasks.ok.0 in
    omega (arith, logs, tasks, logs_len, tasks_len, c.requires.there))

pub invariant_of-self : goal.invariant_of-self
invariant_of-self c =
    let same_mut = same_machine c.args.self.now c.args.task c.index_mut.result.now c.requires.next.machine c.requires.there
    c.index_mut.ensures.value
    c.requires.next.stands in
    let there = slice_get_within c.args.self.now.tasks.items c.args.task c.requires.next.machine c.requires.next.stands in
    let begun = some_begin c.requires.next.machine in
    let fallen = fell_in c.args.self.now.tasks.items c.args.task c.requires.next.machine c.index_mut.result.now c.answer.new.self
    c.index.result.now (fell_of c.index.result.now) c.step-answer.result there same_mut c.index.ensures refl
    c.answer.ensures.fell in
    record {
      led = ∥∥₁_map c.args.self.now.led (λ is. record {
        run = is.run;
        records = made c.args.task c.args.step c.step-answer.result ∷ is.records;
        leads = (world_leads c.law_steps_lead_on.ensures.leads c.args.self.now c.args.task c.args.step c.step-answer.result
            c.index_mut.result.now
            c.answer.new.self c.step-answer.new.self c.saturating_add-self.result c.note_fallen.new.logs.items c.note_fallen.new.reports.items
            (vec_capacity c.note_fallen.new.reports) c.requires.next c.requires.there c.index_mut.ensures.value
            c.step-answer.ensures.kind c.step-answer.ensures.answer c.step-answer.ensures.after c.saturating_add-self.ensures
            c.answer.ensures.leads is.run is.records is.leads
            (noted_more c.law_steps_are_kept.ensures.more c.args.self.now c.args.task c.args.step c.step-answer.result
            c.requires.next.machine begun.0
            (fell_of c.index.result.now) c.note_fallen.new.logs.items c.note_fallen.new.reports.items
            (vec_capacity c.note_fallen.new.reports) c.requires.there c.requires.next.stands
            c.requires.next.makes.says begun.1 fallen
            (c.note_fallen.ensures.noted begun.0) c.note_fallen.ensures.room is.run is.records is.leads)
            (world_points c.law_steps_are_kept.ensures.points c.args.self.now c.args.task c.args.step c.step-answer.result
            c.requires.next.machine c.index_mut.result.now c.answer.new.self begun.0 (fell_of c.index.result.now)
            c.requires.next.stands same_mut c.requires.next.makes.says begun.1 fallen c.answer.ensures.points
            is.run is.records is.leads));
      });
    }

pub returns-clause-moves : goal.returns-clause-moves
returns-clause-moves c =
    let same_mut = same_machine c.args.self.now c.args.task c.index_mut.result.now c.requires.next.machine c.requires.there
    c.index_mut.ensures.value
    c.requires.next.stands in
    let there = slice_get_within c.args.self.now.tasks.items c.args.task c.requires.next.machine c.requires.next.stands in
    let begun = some_begin c.requires.next.machine in
    let fallen = fell_in c.args.self.now.tasks.items c.args.task c.requires.next.machine c.index_mut.result.now c.answer.new.self
    c.index.result.now (fell_of c.index.result.now) c.step-answer.result there same_mut c.index.ensures refl
    c.answer.ensures.fell in
    λ run records leads.
    (world_leads c.law_steps_lead_on.ensures.leads c.args.self.now c.args.task c.args.step c.step-answer.result c.index_mut.result.now
    c.answer.new.self c.step-answer.new.self c.saturating_add-self.result c.note_fallen.new.logs.items c.note_fallen.new.reports.items
    (vec_capacity c.note_fallen.new.reports) c.requires.next c.requires.there c.index_mut.ensures.value
    c.step-answer.ensures.kind c.step-answer.ensures.answer c.step-answer.ensures.after c.saturating_add-self.ensures
    c.answer.ensures.leads run records leads
    (noted_more c.law_steps_are_kept.ensures.more c.args.self.now c.args.task c.args.step c.step-answer.result c.requires.next.machine
    begun.0
    (fell_of c.index.result.now) c.note_fallen.new.logs.items c.note_fallen.new.reports.items
    (vec_capacity c.note_fallen.new.reports) c.requires.there c.requires.next.stands
    c.requires.next.makes.says begun.1 fallen
    (c.note_fallen.ensures.noted begun.0) c.note_fallen.ensures.room run records leads)
    (world_points c.law_steps_are_kept.ensures.points c.args.self.now c.args.task c.args.step c.step-answer.result
    c.requires.next.machine c.index_mut.result.now c.answer.new.self begun.0 (fell_of c.index.result.now)
    c.requires.next.stands same_mut c.requires.next.makes.says begun.1 fallen c.answer.ensures.points
    run records leads))

pub returns-clause-others : goal.returns-clause-others
returns-clause-others c = λ other apart. set_other c.args.self.now.tasks.items c.args.task other c.answer.new.self apart

-- the machine that took the answer has as much room as before, and so have the logs
pub returns-clause-room : goal.returns-clause-room
returns-clause-room c =
    let world = c.args.self.now in
    let same_mut = same_machine world c.args.task c.index_mut.result.now c.requires.next.machine c.requires.there c.index_mut.ensures.value
    c.requires.next.stands in
    let machines = same_mapped task_room world.tasks.items c.args.task c.requires.next.machine c.answer.new.self c.requires.next.stands
    (c.answer.ensures.room ∙ ap task_room same_mut) in
    let room : List (List ℕ) → ℕ → List task_log.Room → ℕ → Room = λ machines logs each reports.
    record { tasks = vec_capacity world.tasks; machines = machines; logs = logs; each = each; reports = reports } in
    let before = map task_room world.tasks.items in
    let logs = c.note_fallen.new.logs in
    let reports = vec_capacity c.note_fallen.new.reports in
    ap (λ machines. room machines (vec_capacity logs) (rooms_of logs.items) reports) machines
    ∙ (ap (λ count. room before count (rooms_of logs.items) reports) c.note_fallen.ensures.logs
    ∙ (ap (λ each. room before (vec_capacity world.logs) each reports) c.note_fallen.ensures.each
    ∙ ap (λ count. room before (vec_capacity world.logs) (rooms_of world.logs.items) count) c.note_fallen.ensures.room))
