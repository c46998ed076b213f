-- The site of a name, among those of a run.
use Rattle.std.proofs.Common.{◌≡◌, ◌↔◌, ◌<◌, ◌∙◌, ℕ, Contains, List, None, Option, Some, ap, length, refl, slice_get, sym}
use Rattle.std.specs.Prelude.{unwrap_or}
use Rattle.std.proofs.lemmas.Option.{slice_get-get_or}
use Rattle.executions.specs.execution.Run.{Run, task_of}
use Rattle.litmus_semantics.specs.RunOfProgram.{setting_of}
use Rattle.litmus_semantics.specs.TextSites.{block_sites}
use Rattle.litmus_semantics.specs.declared.site.Site.{Site}
use Rattle.races.specs.Pairs.{HasSite}
use Rattle.races.specs.declared.pair.SiteName.{SiteName}
use Rattle.races.specs.declared.placed.PlacedSite.{PlacedSite}
use Rattle.race_output.specs.Sites.{no_site, site_in}

-- these are the sites of the run
abbrev pub AreSites : Run → List PlacedSite → Type 0
AreSites run sites = (placed : PlacedSite) → Contains sites placed ↔ HasSite run placed.name placed.site

-- the site that the text of a task has under a name
abbrev site_there : Run → SiteName → Option Site
site_there run at = slice_get (block_sites (setting_of run.program run.places at.task) (task_of run at.task).body) at.site

-- a site that is listed is that of its name
pub named : (run : Run) (sites : List PlacedSite) (k : ℕ) (placed : PlacedSite) (at : SiteName) → AreSites run sites
    → k < length sites → slice_get sites k ≡ Some placed → placed.name ≡ at → placed.site ≡ site_in run at
named run sites k placed at are within is same =
    let listed : Contains sites placed = (k, within, some_same (slice_get-get_or sites k placed within) is) in
    let there : site_there run placed.name ≡ Some placed.site = ((are placed).0 listed).there in
    ap (λ (o : Option Site). unwrap_or o no_site) (sym there) ∙ ap (site_in run) same where
      some_same : {A : Type 0} {x y : A} {o : Option A} → o ≡ Some x → o ≡ Some y → x ≡ y
      some_same p q = cc

-- a name that none of the listed sites has is that of no site
pub unnamed : (run : Run) (sites : List PlacedSite) (at : SiteName) → AreSites run sites
    → ((k : ℕ) (placed : PlacedSite) → k < length sites → slice_get sites k ≡ Some placed → placed.name ≡ at → ⊥)
    → no_site ≡ site_in run at
unnamed run sites at are none = by_case (site_there run at) refl where
  by_case : (o : Option Site) → site_there run at ≡ o → no_site ≡ site_in run at
  by_case None is = ap (λ (o : Option Site). unwrap_or o no_site) (sym is)
  by_case (Some site) is =
      let placed : PlacedSite = record { name = at; site = site } in
      let listed = (are placed).1 (record { there = is }) in
      absurd (none listed.0 placed listed.1 (slice_get-get_or sites listed.0 placed listed.1 ∙ ap Some listed.2) refl)
