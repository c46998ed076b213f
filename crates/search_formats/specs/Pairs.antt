-- The pairs of sites that reports tell of.
use Rattle.std.specs.Prelude.{◌++◌, ◌&&◌, ◌||◌, ◌==◌, ℕ, Bool, List, [], ◌∷◌, Option, None, Some, fold, if◌then◌else◌, map}
use Rattle.std.specs.List.{list_any}
use Rattle.std.specs.FinMap as found
use Rattle.access_types.specs.Access.{Access}
use Rattle.access_types.specs.Sites.{AccessMap}
use Rattle.access_types.specs.declared.report.Report.{Report}
use Rattle.access_types.specs.declared.report.Report.TheVariants.{Two, Unknown}
use Rattle.search_formats.specs.declared.pairs.ReportedPair.{ReportedPair}
use Rattle.search_formats.specs.declared.pairs.ReportedSite.{ReportedSite}

-- the site of an access
abbrev pub site_of : Access → ReportedSite
site_of access = record { task = access.task; site = access.site }

-- the sites of two accesses, if both are there
abbrev pub pair_in : Option Access → Option Access → Option ReportedPair
pair_in (Some setter) (Some finder) = Some (record { setter = site_of setter; finder = site_of finder })
pair_in _ _ = None

-- the sites of the accesses of a report that has two, which its tickets name
abbrev pub pair_of : AccessMap → Report → Option ReportedPair
pair_of sites (Two setter finder seen) = pair_in (found.get sites setter) (found.get sites finder)
pair_of sites (Unknown setter old new) = None

-- the two are one site
abbrev pub is_site : (one other : ReportedSite) → Bool
is_site one other = (one.task == other.task) && (one.site == other.site)

-- the two are one pair of sites, whichever of them armed
abbrev pub is_pair : (one other : ReportedPair) → Bool
is_pair one other =
    (is_site one.setter other.setter && is_site one.finder other.finder)
    || (is_site one.setter other.finder && is_site one.finder other.setter)

-- the pair is one of these
abbrev pub is_among : List ReportedPair → ReportedPair → Bool
is_among pairs pair = list_any (λ other. is_pair pair other) pairs

-- the pair of a report, if it has one, stands last among those that were met, unless it is one of them
abbrev pub pair_too : List ReportedPair → Option ReportedPair → List ReportedPair
pair_too before None = before
pair_too before (Some pair) = if is_among before pair then before else before ++ pair ∷ []

-- the pairs of sites of reports of two accesses, each once, in the order in which they are first met
abbrev pub pairs_of : AccessMap → List Report → List ReportedPair
pairs_of sites reports = fold pair_too [] (map (pair_of sites) reports)
