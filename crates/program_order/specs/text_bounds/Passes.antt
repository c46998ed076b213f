-- When a task did more than a text may have it do.
use Rattle.std.specs.Prelude.{◌≡◌, ◌++◌, ◌<◌, ◌^◌, List, count_by}
use Rattle.access_types.specs.Marked.{is_disable, is_nest_open, marks_of}
use Rattle.access_types.specs.declared.history.Happening.{Happening}
use Rattle.litmus_syntax.specs.Limits.{scoped_limit}
use Rattle.program_order.specs.text_bounds.Scopes.{in_force}
use Rattle.program_order.specs.Standing.{Setting, Standing, moments}

-- A task that stands here passed a limit on its way: it turned reports off, or began nestable atomic regions,
-- more than 2^32 times, or more scoped assertions than the limit were in force at one moment.
pub data PassesALimit (s : Setting) (end : Standing) : Type 0 where
  disables : 2 ^ 32 < count_by is_disable (marks_of s.text.task (moments s end)) → PassesALimit s end
  nest_opens : 2 ^ 32 < count_by is_nest_open (marks_of s.text.task (moments s end)) → PassesALimit s end
  scopes : (front back : List Happening) → end.progress.did ≡ front ++ back → scoped_limit < in_force front → PassesALimit s end
