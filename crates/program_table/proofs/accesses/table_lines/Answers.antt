-- One task more.
use Rattle.std.proofs.Common.{◌≡◌, ◌<◌, ◌+◌, ◌++◌, ◌∙◌, List, Some, ap, arith, drop, length, map, refl, slice_get, subst, ℕ}
use Rattle.std.proofs.lemmas.Option.{slice_get-map, slice_get_read}
use Rattle.std.specs.List.{flat_map}
use Rattle.std.specs.Option.{option_map}
use Rattle.litmus_semantics.proofs.LimitLemmas.{few_sites}
use Rattle.litmus_syntax.specs.Limits.{TaskKeepsLimits}
use Rattle.litmus_syntax.specs.Sites.{sites_of}
use Rattle.litmus_syntax.specs.Views.{block_of, task_of}
use Rattle.litmus_syntax.specs.declared.program.Task.{Task}
use Rattle.program_table.proofs.CountLemmas.{of_each}
use Rattle.program_table.proofs.RowLemmas.{lines_left}
use Rattle.program_table.specs.Accesses.{line_of}
use Rattle.program_table.specs.Rows.{rows_from, rows_of_task}
use Rattle.program_table.proofs.accesses.table_lines.Goals as goal

-- the task of the turn
stands : (tasks passed : List Task) (number : ℕ) (task : Task) → passed ≡ tasks → number < length passed
    → slice_get passed number ≡ Some task → slice_get tasks number ≡ Some task
stands tasks passed number task same within is = subst (λ (ts : List Task). slice_get ts number ≡ Some task) same is

pub site_count-requires : goal.site_count-requires
site_count-requires c =
    let passed : List Task = c.as_slice-task-items.result.now in
    let is : slice_get passed c.loop-number.number ≡ Some c.task-item.result =
    slice_get_read passed (length passed) c.loop-number.number c.task-item.result refl c.loop-number-test.true c.task-item.is in
    let there = stands c.args.program.now.tasks passed c.loop-number.number c.task-item.result c.as_slice-task-items.ensures c.loop-number-test.true is in
    (of_each task_of (TaskKeepsLimits c.args.program.now.variables) c.args.program.now.tasks c.loop-number.number c.task-item.result
    c.requires.limits.each_task there).body

pub add_task-requires-clause-sites : goal.add_task-requires-clause-sites
add_task-requires-clause-sites c =
    let passed : List Task = c.as_slice-task-items.result.now in
    let is : slice_get passed c.loop-number.number ≡ Some c.task-item.result =
    slice_get_read passed (length passed) c.loop-number.number c.task-item.result refl c.loop-number-test.true c.task-item.is in
    let there = stands c.args.program.now.tasks passed c.loop-number.number c.task-item.result c.as_slice-task-items.ensures c.loop-number-test.true is in
    let keeps = of_each task_of (TaskKeepsLimits c.args.program.now.variables) c.args.program.now.tasks c.loop-number.number c.task-item.result
    c.requires.limits.each_task there in
    omega (arith, c.in_ok-count.ensures, few_sites (block_of c.task-item.result.body.items) keeps.body)

pub loop-number-preserved : goal.loop-number-preserved
loop-number-preserved c = λ words.
    let passed : List Task = c.as_slice-task-items.result.now in
    let is : slice_get passed c.loop-number.number ≡ Some c.task-item.result =
    slice_get_read passed (length passed) c.loop-number.number c.task-item.result refl c.loop-number-test.true c.task-item.is in
    let there = stands c.args.program.now.tasks passed c.loop-number.number c.task-item.result c.as_slice-task-items.ensures c.loop-number-test.true is in
    let text = c.args.listed.text.now in
    let places = map (λ own. own.items) c.args.listed.places.now in
    let sites = c.args.listed.sites.now in
    let line = line_of c.args.table in
    let number = c.loop-number.number in
    let tasks = map task_of c.args.program.now.tasks in
    let seen : slice_get tasks number ≡ Some (task_of c.task-item.result) =
    slice_get-map task_of c.args.program.now.tasks number ∙ ap (option_map task_of) there in
    let lines : List ℕ = c.loop-number.lines.items in
    let rest : List ℕ = flat_map line (rows_from text places words.of sites (number + 1) (drop (number + 1) tasks)) in
    let added : c.add_task.new.lines.items
    ≡ lines ++ flat_map line (rows_of_task text places words.of sites number (length (sites_of (block_of c.task-item.result.body.items)))) =
    c.in_ok-add_task.ensures words
    ∙ ap (λ (count : ℕ). lines ++ flat_map line (rows_of_task text places words.of sites number count)) c.in_ok-count.ensures in
    ap (λ (t : List ℕ). t ++ rest) added
    ∙ (lines_left text places words.of sites line tasks number (task_of c.task-item.result) lines seen ∙ c.loop-number.invariant words)
