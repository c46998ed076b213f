-- The sites of a program in order, and the pairs of them that conflict.
use Rattle.std.specs.Prelude.{◌≡◌, ◌<◌, ◌≤◌, ◌⊎◌, ℕ, Contains, List, Some, length, slice_get, slice_index_or}
use Rattle.access_types.specs.Access.{Breaks, Overlap}
use Rattle.access_types.specs.declared.history.Bytes.{Bytes}
use Rattle.executions.specs.execution.Run.{idle}
use Rattle.litmus_semantics.specs.TextSites.{AllLoopsFit, block_by}
use Rattle.litmus_semantics.specs.declared.site.Site.{Site}
use Rattle.litmus_syntax.specs.Tree.{Task}
use Rattle.races.specs.Pairs.{first_at}
use Rattle.races.specs.declared.pair.SiteName.{SiteName}
use Rattle.races.specs.declared.pair.SitePair.{SitePair}
use Rattle.races.specs.declared.placed.PlacedSite.{PlacedSite}

-- a site comes before another: by its task, then by its number
abbrev pub StandsBefore : SiteName → SiteName → Type 0
StandsBefore a b = (a.task < b.task) ⊎ ((a.task ≡ b.task) × (a.site < b.site))

-- so it is with the sites of these names
abbrev pub PlacedBefore : PlacedSite → PlacedSite → Type 0
PlacedBefore a b = StandsBefore a.name b.name

-- a pair comes before another: by its first site, then by its second; so no pair comes before itself
abbrev pub ComesBefore : SitePair → SitePair → Type 0
ComesBefore p q = StandsBefore p.first q.first ⊎ ((p.first ≡ q.first) × StandsBefore p.second q.second)

-- the loops of the task's text fit, and names have room for its sites
pub record IsListed (bytes : ℕ → Bytes) (task : Task) : Type 0 where
  pub loops : AllLoopsFit 1 task.body
  pub few : length (block_by bytes task.body) ≤ 256

-- it is one of these sites of the task
abbrev pub IsSiteOf : ℕ → List Site → PlacedSite → Type 0
IsSiteOf task sites placed = (placed.name.task ≡ task) × (slice_get sites placed.name.site ≡ Some placed.site)

-- it is one of the text of its task, where the variables have these bytes
abbrev pub IsSiteBy : (ℕ → Bytes) → List Task → PlacedSite → Type 0
IsSiteBy bytes tasks placed =
    slice_get (block_by bytes (slice_index_or tasks placed.name.task idle).body) placed.name.site ≡ Some placed.site

-- the sites are of tasks below this
abbrev pub AreOfTasksBelow : ℕ → List PlacedSite → Type 0
AreOfTasksBelow task sites = (placed : PlacedSite) → Contains sites placed → placed.name.task < task

-- the site is of a later task than the first one, and accesses at the two conflict
pub record ConflictsWith (first second : PlacedSite) : Type 0 where
  pub order : first.name.task < second.name.task
  pub overlap : Overlap (first_at first.name first.site) (first_at second.name second.site)
  pub breaks : Breaks (first_at first.name first.site) (first_at second.name second.site)

-- the pair is that of the two sites
abbrev pub pair_of : PlacedSite → PlacedSite → SitePair
pair_of first second = record { first = first.name; second = second.name }

-- it is a pair of the first site and of one of these that conflicts with it
pub record IsPairWith (first : PlacedSite) (sites : List PlacedSite) (pair : SitePair) : Type 0 where
  pub second : PlacedSite
  pub place : ℕ
  pub there : slice_get sites place ≡ Some second
  pub conflicts : ConflictsWith first second
  pub is : pair ≡ pair_of first second

-- it is a pair of two of these sites that conflict
pub record IsPairAmong (sites : List PlacedSite) (pair : SitePair) : Type 0 where
  pub first : PlacedSite
  pub place : ℕ
  pub there : slice_get sites place ≡ Some first
  pub second : IsPairWith first sites pair

-- the first sites of the pairs come before this site
abbrev pub AreOfSitesBefore : PlacedSite → List SitePair → Type 0
AreOfSitesBefore first pairs = (pair : SitePair) → Contains pairs pair → StandsBefore pair.first first.name
