-- Each part is a law of its own.
use Rattle.soundness.proofs.Named.{all_race}
use Rattle.soundness.proofs.laws.law_the_headline_holds.Goals as goal

pub returns : goal.returns
returns c = λ run records list. record {
  history = c.law_executions_tell_runs_of_the_program.ensures run records list;
  roles = c.law_roles_of_executions.ensures.table run records list;
  made_for = c.law_watchpoints_are_of_accesses_in_progress.ensures run records list;
  taken_once = c.law_roles_of_executions.ensures.taken_once run records list;
  one_answer = λ index number both.
      c.law_takings_of_ended_accesses_have_one_answer.ensures run records list index number both.setter
      both.word both.finder both.taken_word both.armed both.taken;
  verdicts = c.law_answers_are_on_a_watch_and_a_find.ensures run records list;
  true_races = all_race run records list (c.law_answers_are_on_a_watch_and_a_find.ensures run records list)
      (c.law_reports_name_two_sides.ensures run records list);
  origins_changed = c.law_unknown_origins_changed.ensures.watched run records list;
  reports = c.law_reports_are_true.ensures.all run records list;
  totals = c.law_totals_agree.ensures run records list;
}
