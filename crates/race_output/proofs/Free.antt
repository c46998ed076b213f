-- A run whose pairs are no races has none.
use Rattle.std.proofs.Common.{◌≡◌, ◌<◌, ◌∙◌, inl, inr, ℕ, Bool, Contains, List, None, Option, Some, ap, false, map, refl, slice_get, subst, sym, true}
use Rattle.std.specs.Prelude.{◌||◌, if◌then◌else◌}
use Rattle.std.specs.Option.{option_map}
use Rattle.std.specs.List.{list_any}
use Rattle.std.proofs.lemmas.List.Folds.{list_any_at}
use Rattle.std.proofs.lemmas.Option.{get_or_from_slice_get, slice_get-get_or, slice_get-map, slice_get_within}
use Rattle.access_types.specs.Access.{Access, Breaks, Overlap}
use Rattle.executions.specs.execution.Run.{Run, task_of}
use Rattle.litmus_semantics.specs.RunOfProgram.{setting_of}
use Rattle.litmus_semantics.specs.TextSites.{access_at, block_sites}
use Rattle.race_output.specs.Results.{HasNoMask, HasNoRace}
use Rattle.race_output.specs.Words.{has_said, is_said, verdict_of}
use Rattle.race_output.specs.declared.words.FileVerdict.TheVariants as files
use Rattle.race_output.specs.declared.words.Said.{Said}
use Rattle.race_output.specs.declared.words.Said.TheVariants as said
use Rattle.race_verdicts.specs.Judged.{AreRacesOf}
use Rattle.race_verdicts.specs.declared.find.RacesFound.{RacesFound}
use Rattle.races.specs.Pairs.{AreOf, Conflicts, HasSite, IsAt}
use Rattle.races.specs.Shown.{AreTrueRace, BreaksMask, SomeShows}
use Rattle.races.specs.Verdicts.{Fits, IsRace}
use Rattle.races.specs.declared.pair.SiteName.{SiteName}
use Rattle.races.specs.declared.pair.SitePair.{SitePair}
use Rattle.races.specs.declared.verdict.PairFound.{PairFound}
use Rattle.races.specs.declared.verdict.Verdict.{Verdict}
use Rattle.races.specs.declared.verdict.Verdict.TheVariants as verdicts

-- the site of an access of the program
has_site : (run : Run) (at : SiteName) (a : Access) → (is : IsAt run at a) → HasSite run at is.is.site
has_site run at a is =
    let Stands : ℕ → ℕ → Type 0 =
    λ task site. slice_get (block_sites (setting_of run.program run.places task) (task_of run task).body) site ≡ Some is.is.site in
    record { there = subst (λ (task : ℕ). Stands task at.site) is.task (subst (Stands a.task) is.site is.is.stands) }

-- accesses at the sites of a pair conflict as the first ones there do
conflict : (run : Run) (pair : SitePair) (first second : Access) → pair.first.task < pair.second.task
    → AreOf run pair first second → Conflicts run pair
conflict run pair first second order are = record {
  order = order;
  first = are.first_is.is.site;
  second = are.second_is.is.site;
  first_there = has_site run pair.first first are.first_is;
  second_there = has_site run pair.second second are.second_is;
  overlap = subst (Overlap (access_at first.task first.site are.first_is.is.site first.rep)) are.second_is.is.is
      (subst (λ (a : Access). Overlap a second) are.first_is.is.is are.overlap);
  breaks = subst (Breaks (access_at first.task first.site are.first_is.is.site first.rep)) are.second_is.is.is
      (subst (λ (a : Access). Breaks a second) are.first_is.is.is are.breaks);
}

-- what is among values is the value of an element
of_mapped : {A B : Type 0} (f : A → B) (xs : List A) (y : B) → Contains (map f xs) y → (x : A) × Contains xs x × (f x ≡ y)
of_mapped {A = A} f xs y there = by_case (slice_get xs there.0) refl where
  has : option_map f (slice_get xs there.0) ≡ Some y
  has = sym (slice_get-map f xs there.0) ∙ (slice_get-get_or (map f xs) there.0 y there.1 ∙ ap Some there.2)

  by_case : (o : Option A) → slice_get xs there.0 ≡ o → (x : A) × Contains xs x × (f x ≡ y)
  by_case None is = let none : None ≡ Some y = ap (option_map f) (sym is) ∙ has in let no : ⊥ = cc in absurd no
  by_case (Some x) is =
      let same : Some (f x) ≡ Some y = ap (option_map f) (sym is) ∙ has in
      (x, (there.0, slice_get_within xs there.0 x is, get_or_from_slice_get xs there.0 x x is), (cc))

-- a true race without masks is a race
race : (run : Run) (pair : SitePair) → HasNoMask run pair → SomeShows run (AreTrueRace run pair) → IsRace run pair
race run pair no_mask shown = (
  shown.0,
  shown.1,
  record {
    true_race = shown.2;
    first_mask = unbroken shown.2.first pair.second shown.2.second shown.2.first.mask (no_mask shown.2.first (inl shown.2.are.first_is));
    second_mask = unbroken shown.2.second pair.first shown.2.first shown.2.second.mask (no_mask shown.2.second (inr shown.2.are.second_is));
  },
) where
  unbroken : (assertion : Access) (at : SiteName) (other : Access) (mask : Option ℕ) → mask ≡ None → BreaksMask shown.1 assertion at other mask
  unbroken assertion at other mask none = subst (BreaksMask shown.1 assertion at other) (sym none) tt

-- no pair has a verdict that none has
no_said : (pairs : List PairFound) (wanted : Said) (one : PairFound) → has_said pairs wanted ≡ false → Contains pairs one
    → is_said wanted one.verdict ≡ true → ⊥
no_said pairs wanted one none there is =
    let p : PairFound → Bool = λ x. is_said wanted x.verdict in
    let has : list_any p pairs ≡ true = list_any_at p pairs there.0 one there.1 (ap p there.2 ∙ is) in
    let both : true ≡ false = sym has ∙ none in
    cc

-- where the verdict on a file is that it is free of races, none of the others holds
none_holds : (missed race reported open_ : Bool)
    → (if missed || race then files.Missed else if reported then files.Reported else if open_ then files.Stopped else files.Free) ≡ files.Free
    → (missed ≡ false) × (race ≡ false) × (reported ≡ false) × (open_ ≡ false)
none_holds true race reported open_ is = let no : ⊥ = cc in absurd no
none_holds false true reported open_ is = let no : ⊥ = cc in absurd no
none_holds false false true open_ is = let no : ⊥ = cc in absurd no
none_holds false false false true is = let no : ⊥ = cc in absurd no
none_holds false false false false is = (refl, refl, refl, refl)

-- so no pair is missed, a race, reported or not settled
none_said : (pairs : List PairFound) → verdict_of pairs ≡ files.Free
    → (has_said pairs said.Missed ≡ false) × (has_said pairs said.Race ≡ false) × (has_said pairs said.Reported ≡ false)
    × (has_said pairs said.NotSettled ≡ false)
none_said pairs free =
    none_holds (has_said pairs said.Missed) (has_said pairs said.Race) (has_said pairs said.Reported) (has_said pairs said.NotSettled) free

-- a verdict that a free file has says that there is no race
no_race : (run : Run) (pair : SitePair) (pairs : List PairFound) (one : PairFound) (verdict : Verdict) → verdict_of pairs ≡ files.Free
    → Contains pairs one → one.verdict ≡ verdict → Fits run pair verdict → ¬ IsRace run pair
no_race run pair pairs one verdicts.Reported free there is fits =
    absurd (no_said pairs said.Reported one (none_said pairs free).2 there (ap (is_said said.Reported) is))
no_race run pair pairs one (verdicts.Missed why) free there is fits =
    absurd (no_said pairs said.Missed one (none_said pairs free).0 there (ap (is_said said.Missed) is))
no_race run pair pairs one (verdicts.Race why) free there is fits =
    absurd (no_said pairs said.Race one (none_said pairs free).1 there (ap (is_said said.Race) is))
no_race run pair pairs one (verdicts.NoRace why) free there is fits = fits.1
no_race run pair pairs one verdicts.Apart free there is fits = fits.1
no_race run pair pairs one verdicts.NotSettled free there is fits =
    absurd (no_said pairs said.NotSettled one (none_said pairs free).3 there (ap (is_said said.NotSettled) is))

-- what is found of a run whose file is free of races rules them out
pub free_of : (run : Run) (found : RacesFound) → AreRacesOf run found → verdict_of found.pairs.items ≡ files.Free → HasNoRace run
free_of run found are free = record {
  races = none;
  true_races = λ pair no_mask order shown. none pair order (race run pair no_mask shown);
} where
  none : (pair : SitePair) → pair.first.task < pair.second.task → ¬ IsRace run pair
  none pair order shown =
      let race = shown.2.true_race in
      let listed = (are.pairs pair).0 (conflict run pair race.first race.second order race.are) in
      let of = of_mapped (λ (one : PairFound). one.pair) found.pairs.items pair listed in
      let fits = (are.each of.0 of.1).fits in
      no_race run pair found.pairs.items of.0 of.0.verdict free of.1 refl (subst (λ (p : SitePair). Fits run p of.0.verdict) of.2 fits) shown
