-- One site more, and the sites of one task more.
use Rattle.std.proofs.Common.{◌≡◌, ◌<◌, ◌⊎◌, ◌∙◌, ◌+◌, ◌++◌, ◌∷◌, [], inl, inr, ℕ, Contains, List, Some, ap, arith, length, refl, slice_get}
use Rattle.std.proofs.Common.{slice_index_or, subst, sym}
use Rattle.std.proofs.Math.ListN.{get_or-eq_default}
use Rattle.std.proofs.lemmas.Bool.{cases_lt}
use Rattle.std.proofs.lemmas.Option.{get_or_from_slice_get, none-some, same_Some}
use Rattle.access_types.specs.declared.history.Bytes.{Bytes}
use Rattle.executions.specs.execution.Run.{idle}
use Rattle.litmus_semantics.specs.TextSites.{block_by}
use Rattle.litmus_semantics.specs.declared.site.Site.{Site}
use Rattle.litmus_syntax.specs.Tree.{Task}
use Rattle.races.proofs.AddsLemmas.{adds_both, adds_one, adds_same}
use Rattle.races.specs.Lists.{AddsInOrder}
use Rattle.races.specs.Placed.{AreOfTasksBelow, IsSiteBy, IsSiteOf, PlacedBefore}
use Rattle.races.specs.declared.placed.PlacedSite.{PlacedSite}

-- the sites of a task below a number
module _ (task : ℕ) (sites : List Site) where
  abbrev AreBelow : ℕ → PlacedSite → Type 0
  AreBelow number placed = (placed.name.site < number) × IsSiteOf task sites placed

  abbrev at : ℕ → Site → PlacedSite
  at number site = record { name = record { task = task; site = number }; site = site }

  -- a site of the task with this number is the one that is added
  at_number : (number : ℕ) (site : Site) (x : PlacedSite) → slice_get sites number ≡ Some site → IsSiteOf task sites x
      → x.name.site ≡ number → at number site ≡ x
  at_number number site x is of same =
      let one : site ≡ x.site = same_Some site x.site (sym is ∙ (ap (λ (n : ℕ). slice_get sites n) (sym same) ∙ of.1)) in
      λ i. record { name = record { task = sym of.0 i; site = sym same i }; site = one i }

  -- the next site is added
  pub site_more : (number : ℕ) (site : Site) (old xs : List PlacedSite) → slice_get sites number ≡ Some site → AreOfTasksBelow task old
      → AddsInOrder PlacedBefore old xs (λ placed. (placed.name.site < number) × IsSiteOf task sites placed)
      → AddsInOrder PlacedBefore old (xs ++ record { name = record { task = task; site = number }; site = site } ∷ [])
      (λ placed. (placed.name.site < number + 1) × IsSiteOf task sites placed)
  site_more number site old xs is below adds =
      adds_same PlacedBefore (adds_one PlacedBefore xs (at number site) adds before) there back where
        before : (x : PlacedSite) → Contains xs x → PlacedBefore x (at number site)
        before x h = elim (adds.each x h) [ inl was ↦ inl (below x was) | inr p ↦ inr (p.1.0, p.0) ]

        last : AreBelow (number + 1) (at number site)
        last = (omega arith, (refl, is))

        there : (x : PlacedSite) → AreBelow number x ⊎ (at number site ≡ x) → AreBelow (number + 1) x
        there x h = elim h [ inl p ↦ (omega (arith, p.0), p.1) | inr same ↦ subst (AreBelow (number + 1)) same last ]

        back : (x : PlacedSite) → AreBelow (number + 1) x → AreBelow number x ⊎ (at number site ≡ x)
        back x p = elim (cases_lt x.name.site number) [
          | inl low ↦ inl (low, p.1)
          | inr high ↦ inr (at_number number site x is p.1 (omega (arith, p.0)))
        ]

-- the sites of the tasks below a number
module _ (bytes : ℕ → Bytes) (tasks : List Task) where
  abbrev AreByTasks : ℕ → PlacedSite → Type 0
  AreByTasks number placed = (placed.name.task < number) × IsSiteBy bytes tasks placed

  -- the sites of the next task are added
  pub task_more : (number : ℕ) (task : Task) (sites : List Site) (xs new : List PlacedSite)
      → slice_get tasks number ≡ Some task → sites ≡ block_by bytes task.body
      → AddsInOrder PlacedBefore [] xs (λ placed. (placed.name.task < number) × IsSiteBy bytes tasks placed)
      → AddsInOrder PlacedBefore xs new (IsSiteOf number sites)
      → AddsInOrder PlacedBefore [] new (λ placed. (placed.name.task < number + 1) × IsSiteBy bytes tasks placed)
  task_more number task sites xs new is all earlier adds =
      adds_same PlacedBefore (adds_both PlacedBefore earlier adds) there back where
        of_task : (x : PlacedSite) → x.name.task ≡ number → block_by bytes (slice_index_or tasks x.name.task idle).body ≡ sites
        of_task x same =
            let here : slice_get tasks x.name.task ≡ Some task = ap (λ (n : ℕ). slice_get tasks n) same ∙ is in
            ap (λ (t : Task). block_by bytes t.body) (get_or_from_slice_get tasks x.name.task task idle here) ∙ sym all

        there : (x : PlacedSite) → AreByTasks number x ⊎ IsSiteOf number sites x → AreByTasks (number + 1) x
        there x h = elim h [
          | inl p ↦ (omega (arith, p.0), p.1)
          | inr p ↦ (omega (arith, p.0), ap (λ (s : List Site). slice_get s x.name.site) (of_task x p.0) ∙ p.1)
        ]

        back : (x : PlacedSite) → AreByTasks (number + 1) x → AreByTasks number x ⊎ IsSiteOf number sites x
        back x p = elim (cases_lt x.name.task number) [
          | inl low ↦ inl (low, p.1)
          | inr high ↦ let same : x.name.task ≡ number = omega (arith, p.0) in
              inr (same, ap (λ (s : List Site). slice_get s x.name.site) (sym (of_task x same)) ∙ p.1)
        ]

  -- the site is of a task that is there
  pub task_within : (x : PlacedSite) → IsSiteBy bytes tasks x → x.name.task < length tasks
  task_within x there = elim (cases_lt x.name.task (length tasks)) [
    | inl low ↦ low
    | inr high ↦
        let none : block_by bytes (slice_index_or tasks x.name.task idle).body ≡ [] =
        ap (λ (t : Task). block_by bytes t.body) (get_or-eq_default tasks idle high) in
        absurd (none-some x.site (sym (ap (λ (s : List Site). slice_get s x.name.site) none) ∙ there))
  ]
