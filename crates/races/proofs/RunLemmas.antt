-- The sites and the pairs that were found are those of the run.
use Rattle.std.proofs.Common.{◌≡◌, ◌↔◌, ◌≤◌, ◌∙◌, [], inl, inr, ℕ, Contains, List, Some, ap, arith, length, refl, slice_get, subst, sym}
use Rattle.std.proofs.lemmas.List.Elements.{All-get_or}
use Rattle.std.proofs.lemmas.Option.{get_or_from_slice_get, slice_get-get_or, slice_get_within}
use Rattle.std.specs.Arc.{arc_value}
use Rattle.access_types.specs.declared.history.Bytes.{Bytes}
use Rattle.executions.specs.execution.Run.{Run, task_of}
use Rattle.litmus_semantics.proofs.LimitLemmas.{all_loops_fit, tickets_fit}
use Rattle.litmus_semantics.specs.Layout.{VariablePlace, bytes_of_variable}
use Rattle.litmus_semantics.specs.RunOfProgram.{setting_of}
use Rattle.litmus_semantics.specs.Task.{Setting, bytes_in}
use Rattle.litmus_semantics.specs.TextSites.{block_by, bytes_among}
use Rattle.litmus_syntax.specs.Limits.{KeepsLimits, TaskKeepsLimits}
use Rattle.litmus_syntax.specs.Tree as tree
use Rattle.litmus_syntax.specs.declared.program.Variable.{Variable}
use Rattle.litmus_syntax.specs.declared.program.Program.{Program}
use Rattle.prepared_program.specs.declared.program_layout.layout.Layout.{Layout}
use Rattle.prepared_program.specs.declared.program_sites.prepared.Prepared.{Prepared}
use Rattle.prepared_program.specs.declared.program_sites.settings.Settings.{Settings}
use Rattle.prepared_program.specs.program_layout.Lays.{Lays}
use Rattle.prepared_program.specs.program_layout.Places.{places_of}
use Rattle.prepared_program.specs.program_sites.Prepared.{IsPrepared}
use Rattle.races.specs.Lists.{AddsInOrder}
use Rattle.races.specs.Pairs.{Conflicts, HasSite}
use Rattle.races.specs.Placed.{ComesBefore, IsListed, IsPairAmong, IsSiteBy, PlacedBefore}
use Rattle.races.specs.declared.pair.SitePair.{SitePair}
use Rattle.races.specs.declared.placed.PlacedSite.{PlacedSite}

-- the bytes of a layout are those of the variables
pub bytes_are : (program : Program) (settings : Settings) (prepared : Prepared) (layout : Layout) (bytes items : List Bytes)
    → IsPrepared program settings prepared → layout ≡ arc_value prepared.layout → bytes ≡ items
    → ((places : List VariablePlace) (variables : List Variable) → Lays places variables layout
    → (x : ℕ) → bytes_among items x ≡ bytes_of_variable places variables x)
    → (x : ℕ) → bytes_among bytes x ≡ bytes_of_variable (places_of settings.places.items) program.variables x
bytes_are program settings prepared layout bytes items is of same are x =
    ap (λ (b : List Bytes). bytes_among b x) same
    ∙ are (places_of settings.places.items) program.variables (subst (Lays (places_of settings.places.items) program.variables) (sym of) is.lays) x

module _ (run : Run) (bytes : List Bytes) (are : (x : ℕ) → bytes_among bytes x ≡ bytes_of_variable run.places run.program.variables x) where
  -- each task can be listed
  pub listed : KeepsLimits run.program → (number : ℕ) (task : tree.Task) → slice_get run.program.tasks number ≡ Some task → IsListed (bytes_among bytes) task
  listed keeps number task is =
      let s : Setting = setting_of run.program run.places number in
      let same : ◌≡◌ {A = ℕ → Bytes} (bytes_in s) (bytes_among bytes) = λ i x. sym (are x) i in
      let task_keeps : TaskKeepsLimits run.program.variables task =
      subst (TaskKeepsLimits run.program.variables) (get_or_from_slice_get run.program.tasks number task task is)
      (All-get_or (TaskKeepsLimits run.program.variables) run.program.tasks number task (slice_get_within run.program.tasks number task is) keeps.each_task) in
      record {
        loops = all_loops_fit 1 task.body task_keeps.body.turns;
        few = subst (λ (b : ℕ → Bytes). length (block_by b task.body) ≤ 256) same (tickets_fit s task.body task_keeps.body).numbers;
      }

  -- the sites that were found are those of the texts
  pub are_sites : (xs : List PlacedSite) → AddsInOrder PlacedBefore [] xs (IsSiteBy (bytes_among bytes) run.program.tasks)
      → (placed : PlacedSite) → Contains xs placed ↔ HasSite run placed.name placed.site
  are_sites xs adds placed =
      let s : Setting = setting_of run.program run.places placed.name.task in
      let same : ◌≡◌ {A = ℕ → Bytes} (bytes_among bytes) (bytes_in s) = λ i x. are x i in
      let Stands : (ℕ → Bytes) → Type 0 =
      λ b. slice_get (block_by b (task_of run placed.name.task).body) placed.name.site ≡ Some placed.site in (
        λ h. elim (adds.each placed h) [ inl was ↦ absurd (omega (arith, was.1)) | inr by ↦ record { there = subst Stands same by } ],
        λ has. adds.added placed (subst Stands (sym same) has.there),
      )

-- the pairs that were found are those that conflict
pub are_conflicts : (run : Run) (sites : List PlacedSite) (pairs : List SitePair)
    → ((placed : PlacedSite) → Contains sites placed ↔ HasSite run placed.name placed.site)
    → AddsInOrder ComesBefore [] pairs (IsPairAmong sites) → (pair : SitePair) → Contains pairs pair ↔ Conflicts run pair
are_conflicts run sites pairs all adds pair = (there, back) where
  contained : (place : ℕ) (placed : PlacedSite) → slice_get sites place ≡ Some placed → Contains sites placed
  contained place placed is = (place, slice_get_within sites place placed is, get_or_from_slice_get sites place placed placed is)

  among : IsPairAmong sites pair → Conflicts run pair
  among of =
      let first : PlacedSite = of.first in
      let second : PlacedSite = of.second.second in
      subst (Conflicts run) (sym of.second.is) (record {
        order = of.second.conflicts.order;
        first = first.site;
        second = second.site;
        first_there = (all first).0 (contained of.place first of.there);
        second_there = (all second).0 (contained of.second.place second of.second.there);
        overlap = of.second.conflicts.overlap;
        breaks = of.second.conflicts.breaks;
      })

  there : Contains pairs pair → Conflicts run pair
  there h = elim (adds.each pair h) [ inl was ↦ absurd (omega (arith, was.1)) | inr of ↦ among of ]

  at : (placed : PlacedSite) → (h : Contains sites placed) → slice_get sites h.0 ≡ Some placed
  at placed h = slice_get-get_or sites h.0 placed h.1 ∙ ap Some h.2

  back : Conflicts run pair → Contains pairs pair
  back of =
      let first : PlacedSite = record { name = pair.first; site = of.first } in
      let second : PlacedSite = record { name = pair.second; site = of.second } in
      let first_in = (all first).1 of.first_there in
      let second_in = (all second).1 of.second_there in
      adds.added pair (record {
        first = first;
        place = first_in.0;
        there = at first first_in;
        second = record {
          second = second;
          place = second_in.0;
          there = at second second_in;
          conflicts = record { order = of.order; overlap = of.overlap; breaks = of.breaks };
          is = refl;
        };
      })
