use Rattle.std.proofs.Common.{◌≤◌, ◌∙◌, ap, arith, length, subst, sym}
use Rattle.std.specs.Prelude.{vec_capacity}
use Rattle.task_log.proofs.RoomLemmas.{arms_grow, room_to_begin, room_to_remove, room_to_tell, takes_grow, touches_grow}
use Rattle.task_log.specs.Arms.{arms_at, arms_of, takes_at, takes_of}
use Rattle.task_log.specs.Counters.{Count}
use Rattle.task_log.specs.Keeps.{IsLatest}
use Rattle.task_log.specs.Touches.{touches_at, touches_of}
use Rattle.task_log.specs.declared.log.TaskLog.{TaskLog}
use Rattle.task_log.proofs.log.TaskLog.note.Goals as goal

pub returns-clause-keeps : goal.returns-clause-keeps
returns-clause-keeps c = λ accesses watches own keeps.
    let noted = c.args.noted.now in
    let kept = c.over.ensures.kept in
    let capacity = ap (λ (log : TaskLog). vec_capacity log.touches) kept in
    record {
      touches = λ few.
          let before : length (touches_of own) ≤ accesses =
          omega (arith, touches_grow noted.step noted.answer noted.begins (touches_of own), few) in
          let room = room_to_begin noted.step noted.answer noted.begins c.args.self.now.touches (touches_of own) accesses
          (keeps.touches before) few keeps.room_for_accesses in
          ap (λ (log : TaskLog). log.touches.items) kept ∙ c.note.ensures.items room
          ∙ ap (touches_at noted.step noted.answer noted.begins) (keeps.touches before);
      arms = λ few.
          let before : length (arms_of own) ≤ watches = omega (arith, arms_grow noted.step own (arms_of own), few) in
          let room = room_to_remove noted.step own (record c.args.self.now { touches = c.note.new.touches }) (arms_of own) watches
          (keeps.arms before) few keeps.room_for_arms in
          c.over.ensures.arms own keeps.latest keeps.armings room ∙ ap (arms_at noted.step own) (keeps.arms before);
      armings = c.over.ensures.counts keeps.armings;
      takes = λ few.
          let before : length (takes_of own) ≤ watches = omega (arith, takes_grow noted.step noted.outcome (takes_of own), few) in
          let room = room_to_tell noted.step noted.outcome (record c.args.self.now { touches = c.note.new.touches }) (takes_of own) watches
          (keeps.takes before) few keeps.room_for_takes in
          c.over.ensures.takes room ∙ ap (takes_at noted.step noted.outcome) (keeps.takes before);
      latest = c.note-2.ensures own
          (subst (IsLatest own) (sym (ap (λ (log : TaskLog). log.latest) kept)) keeps.latest);
      counts = c.note-3.ensures own
          (subst (Count own) (sym (ap (λ (log : TaskLog). log.counters) kept)) keeps.counts);
      room_for_accesses = omega arith;
      room_for_arms = omega arith;
      room_for_takes = omega arith;
    }
