-- What is so of the checks of each task's text is so of the outcomes that the list tells.
use Rattle.std.proofs.Common.{◌≡◌, ◌<◌, ◌==◌, ◌∙◌, ◌+◌, ◌++◌, ◌∷◌, [], ℕ, Bool, true, false, All, Contains, List, Option}
use Rattle.std.proofs.Common.{Some, ap, arith, length, map, refl, reverse, slice_get, subst, sym}
use Rattle.std.specs.List.{filter}
use Rattle.std.proofs.lemmas.Bool.{le-leb}
use Rattle.std.proofs.lemmas.List.{length-append, length-reverse}
use Rattle.std.proofs.lemmas.List.Elements.{All-append, All-cons, All-contains, All-nil}
use Rattle.access_types.specs.Access as access
use Rattle.access_types.specs.History.{beginning, ending, happenings_of}
use Rattle.access_types.specs.Marked.{CountedAsMarked, Silenced}
use Rattle.access_types.specs.declared.history.Happening.{Happening}
use Rattle.access_types.specs.declared.history.Happening.TheVariants as happenings
use Rattle.access_types.specs.declared.history.Moment.{Moment}
use Rattle.litmus_semantics.proofs.TicketLemmas.{of_text}
use Rattle.litmus_syntax.specs.Tree as tree
use Rattle.executions.specs.execution.Run.{Run, task_of, task_setting}
use Rattle.executions.specs.execution.Execution.{AllHaveEnded, Execution}
use Rattle.executions.specs.execution.Observed.{Armed, OutcomeAt, armed_by, came_next, history_of, made_by, outcome_at, outcomes_by, outcomes_of}
use Rattle.executions.proofs.execution.Begun.{heard_so, there, unmarked_so}
use Rattle.executions.proofs.execution.Histories.{did_of_all, has_own, of_task, own_has}
use Rattle.executions.proofs.execution.Intervals.{Has, contains_has, has_contains, has_first}
use Rattle.executions.proofs.execution.DoneOnlyGrows.{last_of, whole_chain}
use Rattle.setup_access.specs.Check.{Fallen}
use Rattle.slot_table.specs.Records.{records_of}
use Rattle.slot_table.specs.declared.records.Record.{Record}
use Rattle.program_order.specs.Standing as tasks
use Rattle.program_order.specs.Standing.{Point, Standing, point_by}
use Rattle.program_order.specs.TaskObserved.{did_by, to_come}
use Rattle.program_order.specs.WrittenOrder.{SpellsAll, first_point}
use Rattle.program_order.proofs.MeaningLemmas.{whole_means}
use Rattle.soundness.proofs.Opens.{has_split}
use Rattle.log_correctness.specs.Watched.{FitsItsTask, IfTold, IfWatched}
use Rattle.log_correctness.proofs.Checked.{Each, FallsSo, all_closed, all_fall, all_fit}

those : (keep : Fallen → Bool) (at : ℕ) (arming : Option Armed) (P : Fallen → Type 0) (Q : OutcomeAt → Type 0) (outs : List Fallen) → Each P outs
    → ((f : Fallen) → P f → Q (outcome_at at arming f)) → All Q (map (outcome_at at arming) (filter keep outs))
those keep at arming P Q [] falls each = All-nil Q
those keep at arming P Q (f ∷ outs) falls each = by (keep f) refl (those keep at arming P Q outs falls.1 each)
  where
    by : (b : Bool) → keep f ≡ b → All Q (map (outcome_at at arming) (filter keep outs)) → All Q (map (outcome_at at arming) (filter keep (f ∷ outs)))
    by true e more = rw e (All-cons Q (outcome_at at arming f) _ (each f falls.0) more)
    by false e more = rw e more

-- at the end of a way stands its last point
pub at_last : (last : Point) (points : List Point) → point_by 0 last points ≡ last_of last points
at_last last [] = refl
at_last last (point ∷ points) = rw (le-leb 0 point.to_come (omega arith)) (at_last point points)

module _ (run : Run) (records : List Record) (list : Execution run records) where
  abbrev end_of : ℕ → Standing
  end_of task = (list.tasks task).whole.end

  abbrev whole : ℕ → List Record
  whole task = reverse (records_of task records) ++ (list.tasks task).more

  abbrev IsSo : OutcomeAt → Type 0
  IsSo came = IfWatched list came × IfTold list came

  came_so : (task at : ℕ) (arming : Option Armed) (f : Fallen) → FallsSo (task_setting run task) (end_of task) f → IsSo (outcome_at at arming f)
  came_so task at arming f h = (
    λ yes.
        let it = h.0 yes in
        record {
          encodable = it.encodable;
          unmarked = subst (λ (x : access.Access). ¬ CountedAsMarked run.rules.plain_writes_atomic (history_of list) x) it.is (unmarked_so run records list task it.by it.known it.unmarked);
          heard = subst (λ (x : access.Access). ¬ Silenced (history_of list) x) it.is (heard_so run records list task it.by it.known it.unsilenced);
        },
    λ pair told.
        let it = h.1 pair told in
        subst (λ (x : access.Access). ¬ Silenced (history_of list) x) it.is (heard_so run records list task it.by it.known it.unsilenced),
  )

  so_by : (earlier : List Record) → All IsSo (outcomes_by list earlier)
  so_by [] = All-nil IsSo
  so_by (latest ∷ earlier) =
      let task : ℕ = latest.task in
      let written = list.tasks task in
      let now = those (λ fallen. length fallen.later == to_come written (made_by task earlier + 1)) (length earlier) (armed_by task (latest ∷ earlier))
      (FallsSo (task_setting run task) (end_of task)) IsSo (end_of task).outcomes
      (all_fall (task_setting run task) (length (task_of run task).registers) (task_of run task).body (whole task) written.whole)
      (came_so task (length earlier) (armed_by task (latest ∷ earlier))) in
      All-append IsSo (outcomes_by list earlier) (came_next list latest earlier) (so_by earlier) now

  pub all_watched : All (IfWatched list) (outcomes_of list)
  all_watched = λ place other below. (so_by records place other below).0

  pub all_told : All (IfTold list) (outcomes_of list)
  all_told = λ place other below. (so_by records place other below).1

  -- what a task did in all it has done, where nothing is left
  did_all : (task : ℕ) → (list.tasks task).more ≡ [] → did_by (list.tasks task) (made_by task records) ≡ (end_of task).progress.did
  did_all task none =
      let s : tasks.Setting = task_setting run task in
      let written = list.tasks task in
      let first : Point = first_point (to_come written 0) (length (task_of run task).registers) in
      let chain = whole_chain s (length (task_of run task).registers) (task_of run task).body (whole task) written.whole first refl in
      let long : length (whole task) ≡ length (records_of task records) + length written.more =
      length-append (reverse (records_of task records)) written.more ∙ ap (λ (n : ℕ). n + length written.more) (length-reverse (records_of task records)) in
      let no_more : length written.more ≡ 0 = ap (λ (r : List Record). length r) none in
      let left : to_come written (made_by task records) ≡ 0 = omega (arith, long, no_more) in
      ap (λ (n : ℕ). (point_by n first written.whole.end.way).progress.did) left
      ∙ (ap (λ (p : Point). p.progress.did) (at_last first written.whole.end.way) ∙ chain.1)

  module _ (nothing : (s : tasks.Setting) (registers : ℕ) (body : tree.Block) (mine more : List Record) → SpellsAll s registers body mine
      → SpellsAll s registers body (mine ++ more) → more ≡ [])
      (below : All (λ (moment : Moment). moment.task < length run.program.tasks) (history_of list)) (ended : AllHaveEnded run records) where
    pub has_ended : (a : access.Access) → Contains (history_of list) (beginning a) → Contains (history_of list) (ending a)
    has_ended a begins =
        let t : ℕ = a.task in
        let few : t < length run.program.tasks = All-contains (λ (moment : Moment). moment.task < length run.program.tasks) (history_of list) (beginning a) below begins in
        let none = nothing (task_setting run t) (length (task_of run t).registers) (task_of run t).body (reverse (records_of t records)) (list.tasks t).more
        (ended t) (list.tasks t).whole in
        let own : happenings_of t (history_of list) ≡ (end_of t).progress.did = of_task run records list t few records ∙ did_all t none in
        let has : Has (end_of t).progress.did (happenings.Begin a) =
        subst (λ (d : List Happening). Has d (happenings.Begin a)) own
        (has_own t (history_of list) (happenings.Begin a) (contains_has (history_of list) (beginning a) begins)) in
        let closed = all_closed (task_setting run t) (length (task_of run t).registers) (task_of run t).body (whole t) (list.tasks t).whole in
        has_contains (history_of list) (ending a)
        (own_has t (history_of list) (happenings.End a) (subst (λ (d : List Happening). Has d (happenings.End a)) (sym own) (closed a has)))

-- an access that has begun is in the limits, and has bytes
pub begun_fits : (run : Run) (records : List Record) (list : Execution run records) → All (λ (moment : Moment). moment.task < length run.program.tasks) (history_of list)
    → (a : access.Access) → Contains (history_of list) (beginning a) → FitsItsTask run a
begun_fits run records list below a begins =
    let t : ℕ = a.task in
    let few : t < length run.program.tasks = All-contains (λ (moment : Moment). moment.task < length run.program.tasks) (history_of list) (beginning a) below begins in
    let written = list.tasks t in
    let own : happenings_of t (history_of list) ≡ did_by written (made_by t records) = of_task run records list t few records in
    let front = did_of_all written (made_by t records) in
    let by_then : Has (did_by written (made_by t records)) (happenings.Begin a) =
    subst (λ (d : List Happening). Has d (happenings.Begin a)) own
    (has_own t (history_of list) (happenings.Begin a) (contains_has (history_of list) (beginning a) begins)) in
    let has : Has written.whole.end.progress.did (happenings.Begin a) =
    subst (λ (d : List Happening). Has d (happenings.Begin a)) (sym front.1) (has_first (did_by written (made_by t records)) front.0 (happenings.Begin a) by_then) in
    let it = all_fit (task_setting run t) (length (task_of run t).registers) (task_of run t).body (reverse (records_of t records) ++ written.more) written.whole a has in
    let at = has_split written.whole.end.progress.did (happenings.Begin a) has in
    let means = whole_means (task_setting run t) (length (task_of run t).registers) (task_of run t).body
    (reverse (records_of t records) ++ written.more) written.whole in
    record {
      below = few;
      limits = it.0.in_limits;
      has_bytes = it.1;
      mask = it.0.mask;
      is_of = of_text (task_setting run t).text (task_of run t).body _ written.whole.end.progress means (length at.0) a
          (subst (λ (d : List Happening). slice_get d (length at.0) ≡ Some (happenings.Begin a)) (sym at.2) (there at.0 at.1 (happenings.Begin a)));
    }
