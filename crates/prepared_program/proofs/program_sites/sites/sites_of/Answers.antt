-- One task more.
use Rattle.std.proofs.Common.{◌≡◌, ◌<◌, ◌∙◌, ◌+◌, ℕ, List, Some, ap, arith, inl, inr, length, map as mapped, refl, slice_get, subst, sym}
use Rattle.std.proofs.lemmas.Bool.{cases_lt}
use Rattle.std.proofs.lemmas.List.{length-map}
use Rattle.std.proofs.lemmas.Option.{none-some, slice_get-map, slice_get_read}
use Rattle.std.specs.FinMap as map
use Rattle.std.specs.FinMap.{get-empty}
use Rattle.std.specs.Option.{option_map}
use Rattle.std.specs.Ordering.{nat_cmp}
use Rattle.access_types.specs.Sites.{AccessMap}
use Rattle.access_types.specs.declared.history.Bytes.{Bytes}
use Rattle.litmus_semantics.proofs.LimitLemmas.{all_loops_fit}
use Rattle.litmus_semantics.specs.Layout.{bytes_of_variable}
use Rattle.litmus_semantics.specs.TextSites.{bytes_among}
use Rattle.litmus_syntax.specs.Limits.{TaskKeepsLimits}
use Rattle.litmus_syntax.specs.Views.{block_of, program_of, task_of}
use Rattle.litmus_syntax.specs.declared.program.Task.{Task}
use Rattle.litmus_syntax.specs.declared.program.Variable.{Variable}
use Rattle.prepared_program.specs.program_layout.Places.{AreFit, places_of}
use Rattle.prepared_program.specs.program_layout.Lays.{Lays}
use Rattle.prepared_program.specs.program_sites.Added.{Adds, first_ticket}
use Rattle.prepared_program.specs.program_sites.Sites.{IsOfProgram}
use Rattle.prepared_program.proofs.program_sites.AddsLemmas.{adds_both, below_after}
use Rattle.prepared_program.proofs.program_sites.ErrorLemmas.{layout_fails, no_value}
use Rattle.prepared_program.proofs.program_sites.ProgramLemmas.{from_program, have_accesses, of_program, task_at, to_program}
use Rattle.prepared_program.proofs.program_sites.sites.sites_of.Goals as goal

-- the task of the turn, as the tree has it
stands : (tasks passed : List Task) (number : ℕ) (task : Task) → passed ≡ tasks → number < length passed
    → slice_get passed number ≡ Some task → slice_get (mapped task_of tasks) number ≡ Some (task_of task)
stands tasks passed number task same within is =
    slice_get-map task_of tasks number ∙ (ap (λ (ts : List Task). option_map task_of (slice_get ts number)) (sym same) ∙ ap (option_map task_of) is)

pub add_task-requires-clause-loops : goal.add_task-requires-clause-loops
add_task-requires-clause-loops c =
    let passed : List Task = c.as_slice-task-items.result.now in
    let is : slice_get passed c.loop-number.number ≡ Some c.task-item.result =
    slice_get_read passed (length passed) c.loop-number.number c.task-item.result refl c.loop-number-test.true c.task-item.is in
    let there = stands c.args.program.now.tasks passed c.loop-number.number c.task-item.result c.as_slice-task-items.ensures c.loop-number-test.true is in
    let keeps = task_at (TaskKeepsLimits c.args.program.now.variables) (mapped task_of c.args.program.now.tasks) c.loop-number.number (task_of c.task-item.result) there c.requires.each_task in
    all_loops_fit 1 (block_of c.task-item.result.body.items) keeps.body.turns

pub add_task-requires-clause-accesses : goal.add_task-requires-clause-accesses
add_task-requires-clause-accesses c =
    let passed : List Task = c.as_slice-task-items.result.now in
    let is : slice_get passed c.loop-number.number ≡ Some c.task-item.result =
    slice_get_read passed (length passed) c.loop-number.number c.task-item.result refl c.loop-number-test.true c.task-item.is in
    let there = stands c.args.program.now.tasks passed c.loop-number.number c.task-item.result c.as_slice-task-items.ensures c.loop-number-test.true is in
    let keeps = task_at (TaskKeepsLimits c.args.program.now.variables) (mapped task_of c.args.program.now.tasks) c.loop-number.number (task_of c.task-item.result) there c.requires.each_task in
    let lays : Lays (places_of c.args.places.now) c.args.program.now.variables c.in_ok-layout.layout =
    subst (λ (vs : List Variable). Lays (places_of c.args.places.now) vs c.in_ok-layout.layout) c.as_slice.ensures c.in_ok-layout.ensures.lays in
    let are : (x : ℕ) → bytes_among c.as_slice-in-loop-number.result.now x ≡ bytes_of_variable (places_of c.args.places.now) c.args.program.now.variables x =
    λ x. ap (λ (bs : List Bytes). bytes_among bs x) c.as_slice-in-loop-number.ensures.value
    ∙ c.in_ok-bytes.ensures (places_of c.args.places.now) c.args.program.now.variables lays x in
    let fit : AreFit c.args.program.now.variables c.args.places.now =
    subst (λ (vs : List Variable). AreFit vs c.args.places.now) c.as_slice.ensures c.in_ok-layout.ensures.fit in
    have_accesses c.args.program.now.variables c.args.places.now c.as_slice-in-loop-number.result.now (task_of c.task-item.result) fit c.requires.variables are keeps

pub add_task-requires-clause-below : goal.add_task-requires-clause-below
add_task-requires-clause-below c =
    below_after (first_ticket 0 0) (first_ticket c.loop-number.number 0)
    (λ ticket a is. absurd (none-some a (sym (ap (λ (m : AccessMap). map.get m ticket) c.new-sites.ensures ∙ get-empty nat_cmp ticket) ∙ is)))
    c.loop-number.invariant (omega arith)
    (λ a p. omega (arith, p.0, (of_program (program_of c.args.program.now) (places_of c.args.places.now) c.requires a p.1).1))

pub loop-number-preserved : goal.loop-number-preserved
loop-number-preserved c =
    let passed : List Task = c.as_slice-task-items.result.now in
    let is : slice_get passed c.loop-number.number ≡ Some c.task-item.result =
    slice_get_read passed (length passed) c.loop-number.number c.task-item.result refl c.loop-number-test.true c.task-item.is in
    let there = stands c.args.program.now.tasks passed c.loop-number.number c.task-item.result c.as_slice-task-items.ensures c.loop-number-test.true is in
    let lays : Lays (places_of c.args.places.now) c.args.program.now.variables c.in_ok-layout.layout =
    subst (λ (vs : List Variable). Lays (places_of c.args.places.now) vs c.in_ok-layout.layout) c.as_slice.ensures c.in_ok-layout.ensures.lays in
    let are : (x : ℕ) → bytes_among c.as_slice-in-loop-number.result.now x ≡ bytes_of_variable (places_of c.args.places.now) c.args.program.now.variables x =
    λ x. ap (λ (bs : List Bytes). bytes_among bs x) c.as_slice-in-loop-number.ensures.value
    ∙ c.in_ok-bytes.ensures (places_of c.args.places.now) c.args.program.now.variables lays x in
    let added : Adds c.new-sites.result c.add_task.new.sites
    (λ a. (a.task < c.loop-number.number + 1) × IsOfProgram (program_of c.args.program.now) (places_of c.args.places.now) a) =
    adds_both c.loop-number.invariant c.in_ok-add_task.ensures
    (λ a p. (omega (arith, p.0), p.1))
    (λ a p. let got = to_program (program_of c.args.program.now) (places_of c.args.places.now) c.as_slice-in-loop-number.result.now are c.loop-number.number (task_of c.task-item.result) there a p in
    (omega (arith, got.0), got.1))
    (λ a p. elim (cases_lt a.task c.loop-number.number) [
      | inl low ↦ inl (low, p.1)
      | inr high ↦ inr (from_program (program_of c.args.program.now) (places_of c.args.places.now) c.as_slice-in-loop-number.result.now are c.loop-number.number (task_of c.task-item.result) there a
          (omega (arith, p.0)) p.1)
    ]) in
    added

pub returns-clause-sites : goal.returns-clause-sites
returns-clause-sites c = record {
  each = λ ticket a is. elim (c.loop-number.invariant.each ticket a is) [
    | inl was ↦ absurd (none-some a (sym (ap (λ (m : AccessMap). map.get m ticket) c.new-sites.ensures ∙ get-empty nat_cmp ticket) ∙ was))
    | inr x ↦ (x.0.1, x.1)
  ];
  all = λ a of.
      let within : a.task < length (mapped task_of c.args.program.now.tasks) = (of_program (program_of c.args.program.now) (places_of c.args.places.now) c.requires a of).0 in
      let all : length c.as_slice-task-items.result.now ≡ length c.args.program.now.tasks = ap length c.as_slice-task-items.ensures in
      c.loop-number.invariant.added a (omega (arith, within, length-map c.args.program.now.tasks task_of, all, c.loop-number-test.false), of);
}

pub returns-in_err-layout : goal.returns-in_err-layout
returns-in_err-layout c =
    let tells = layout_fails (AreFit c.args.program.now.variables c.args.places.now) c.from_residual.result c.in_err-layout.field-0.0
    c.from_residual.ensures.1 (rw c.as_slice.ensures at c.in_err-layout.ensures.bad_place) in
    record { sites = no_value c.from_residual.result _ c.from_residual.ensures.0; bad_place = tells.bad_place; errors = tells.errors }
