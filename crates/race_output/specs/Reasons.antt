-- The reasons for verdicts.
use Rattle.std.specs.Prelude.{◌≡◌, ◌++◌, ℕ, Bool, List, [], ◌∷◌, Vec, codes, if◌then◌else◌, map}
use Rattle.std.specs.Fmt.{decimal}
use Rattle.std.specs.List.{concat, flat_map}
use Rattle.std.specs.Global.{Global}
use Rattle.race_output.specs.declared.sites.SiteTold.{SiteTold}
use Rattle.races.specs.declared.verdict.HowMarked.{HowMarked}
use Rattle.races.specs.declared.verdict.HowMarked.TheVariants.{AlignedWrite, Form, RegionOrNext}
use Rattle.races.specs.declared.verdict.MissedWhy.{MissedWhy}
use Rattle.races.specs.declared.verdict.NoRaceWhy.{NoRaceWhy}
use Rattle.races.specs.declared.verdict.Verdict.{Verdict}
use Rattle.races.specs.declared.verdict.Verdict.TheVariants as verdicts

-- how an access counts as marked
abbrev pub how_words : HowMarked → List ℕ
how_words Form = codes "by form"
how_words AlignedWrite = codes "as an aligned plain write"
how_words RegionOrNext = codes "by a region or kcsan_atomic_next()"

-- that both accesses count as marked, and how each does
unfoldable pub both_marked : SiteTold → SiteTold → List ℕ
both_marked first second = concat
    (codes "both marked (P" ∷ decimal first.task ∷ codes " " ∷ how_words first.how ∷ codes ", P" ∷ decimal second.task
    ∷ codes " " ∷ how_words second.how ∷ codes ")" ∷ [])

-- a reason, where it holds
abbrev pub one_if : Bool → List ℕ → List (List ℕ)
one_if holds reason = if holds then reason ∷ [] else []

-- texts in vectors
abbrev pub texts : List (Vec ℕ Global) → List (List ℕ)
texts all = map (λ (one : Vec ℕ Global). one.items) all

-- a reason is added, where it holds
abbrev pub AddsIf : Bool → List ℕ → List (Vec ℕ Global) → List (Vec ℕ Global) → Type 0
AddsIf holds reason old new = texts new ≡ texts old ++ one_if holds reason

-- why a race is missed
abbrev pub missed_reasons : MissedWhy → List (List ℕ)
missed_reasons why =
    one_if why.same_value (codes "same value") ++ one_if why.masked (codes "masked") ++ one_if why.origin (codes "origin")
    ++ one_if why.never_taken (codes "never taken") ++ one_if why.never_armed (codes "never armed")

-- why accesses at these sites that are in progress at one moment are no race
abbrev pub no_race_reasons : SiteTold → SiteTold → NoRaceWhy → List (List ℕ)
no_race_reasons first second why =
    one_if why.both_marked (both_marked first second) ++ one_if why.silenced (codes "silenced")
    ++ one_if why.other_bits (codes "other bits")

-- the reasons for a verdict
abbrev pub reasons_of : SiteTold → SiteTold → Verdict → List (List ℕ)
reasons_of first second (verdicts.Missed why) = missed_reasons why
reasons_of first second (verdicts.Race why) = missed_reasons why
reasons_of first second (verdicts.NoRace why) = no_race_reasons first second why
reasons_of first second verdict = []

-- a text behind another
abbrev pub behind : List ℕ → List ℕ
behind text = codes ", " ++ text

-- texts, with commas between them
abbrev pub separated : List (List ℕ) → List ℕ
separated [] = []
separated (first ∷ more) = first ++ flat_map behind more

-- the reasons of a race that is not reported so far: there may be none
abbrev pub so_far : List (List ℕ) → List ℕ
so_far [] = codes "not reported so far"
so_far (first ∷ more) = separated (first ∷ more)

-- the reasons as they are told
abbrev pub reasons_text : SiteTold → SiteTold → Verdict → List ℕ
reasons_text first second (verdicts.Race why) = so_far (missed_reasons why)
reasons_text first second verdict = separated (reasons_of first second verdict)
