-- By what the log says of the step.
use Rattle.std.proofs.Common.{◌≡◌, ◌∙◌, Some, refl, subst, sym}
use Rattle.std.proofs.lemmas.Option.{slice_get_read}
use Rattle.litmus_step.proofs.world.note_in.Goals as goal
use Rattle.litmus_step.proofs.RoomLemmas.{same_mapped}
use Rattle.litmus_step.specs.Kept.{IsNotedIn}
use Rattle.task_log.specs.Keeps.{room_in}
use Rattle.task_log.specs.declared.log.TaskLog.{TaskLog}

same_some : (one other : TaskLog) → Some one ≡ Some other → one ≡ other
same_some one other same = cc

pub returns-clause-noted : goal.returns-clause-noted
returns-clause-noted c = λ log stands.
    let here = slice_get_read c.args.logs.now.items c.args.logs.now.len c.args.task c.index_mut.result.now c.args.logs.now.ok.0 c.requires
    c.index_mut.ensures.value in
    let same : c.index_mut.result.now ≡ log = same_some c.index_mut.result.now log (sym here ∙ stands) in (
      c.note.new.log,
      c.note.ensures.noted.0,
      subst (λ (l : TaskLog). IsNotedIn l c.args.noted.now c.note.new.log c.note.ensures.noted.0) same c.note.ensures.noted.1,
      refl,
      c.note.ensures.noted.2,
    )

pub returns-clause-each : goal.returns-clause-each
returns-clause-each c =
    let here = slice_get_read c.args.logs.now.items c.args.logs.now.len c.args.task c.index_mut.result.now c.args.logs.now.ok.0 c.requires
    c.index_mut.ensures.value in
    same_mapped room_in c.args.logs.now.items c.args.task c.index_mut.result.now c.note.new.log here c.note.ensures.log
