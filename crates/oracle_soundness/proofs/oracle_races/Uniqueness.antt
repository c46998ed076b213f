-- One settled verdict fits given facts at most.
use Rattle.std.proofs.Common.{◌≡◌, ◌↔◌, Bool, IsTrue, false, refl, true}
use Rattle.races.specs.Verdicts.{AreMissedReasons, AreNoRaceReasons, Facts, FitsFacts, IsSettled}
use Rattle.races.specs.declared.verdict.MissedWhy.{MissedWhy}
use Rattle.races.specs.declared.verdict.NoRaceWhy.{NoRaceWhy}
use Rattle.races.specs.declared.verdict.Verdict.{Verdict}
use Rattle.races.specs.declared.verdict.Verdict.TheVariants as verdicts

-- two tests of one fact say the same
same_test : (one other : Bool) {P : Type 0} → (IsTrue one ↔ P) → (IsTrue other ↔ P) → one ≡ other
same_test true true p q = refl
same_test true false p q = absurd (let bad : false ≡ true = q.1 (p.0 refl) in cc)
same_test false true p q = absurd (let bad : false ≡ true = p.1 (q.0 refl) in cc)
same_test false false p q = refl

module _ {facts : Facts} where
  same_missed : (why why' : MissedWhy) → AreMissedReasons facts why → AreMissedReasons facts why' → why ≡ why'
  same_missed why why' are are' = λ i. record {
    same_value = same_test why.same_value why'.same_value are.same_value are'.same_value i;
    masked = same_test why.masked why'.masked are.masked are'.masked i;
    origin = same_test why.origin why'.origin are.origin are'.origin i;
    never_taken = same_test why.never_taken why'.never_taken are.never_taken are'.never_taken i;
    never_armed = same_test why.never_armed why'.never_armed are.never_armed are'.never_armed i;
  }

  same_no_race : (why why' : NoRaceWhy) → AreNoRaceReasons facts why → AreNoRaceReasons facts why' → why ≡ why'
  same_no_race why why' are are' = λ i. record {
    both_marked = same_test why.both_marked why'.both_marked are.both_marked are'.both_marked i;
    silenced = same_test why.silenced why'.silenced are.silenced are'.silenced i;
    other_bits = same_test why.other_bits why'.other_bits are.other_bits are'.other_bits i;
  }

pub one_fits : (facts : Facts) (one other : Verdict) → IsSettled one → IsSettled other → FitsFacts facts one → FitsFacts facts other → one ≡ other
one_fits facts verdicts.Reported verdicts.Reported settled settled' fits fits' = refl
one_fits facts verdicts.Reported (verdicts.Missed why') settled settled' fits fits' = absurd (fits'.0 fits)
one_fits facts verdicts.Reported (verdicts.Race why') settled settled' fits fits' = absurd settled'
one_fits facts verdicts.Reported (verdicts.NoRace why') settled settled' fits fits' = absurd (fits'.0 fits)
one_fits facts verdicts.Reported verdicts.Apart settled settled' fits fits' = absurd (fits'.0 fits)
one_fits facts verdicts.Reported verdicts.NotSettled settled settled' fits fits' = absurd settled'
one_fits facts (verdicts.Missed why) verdicts.Reported settled settled' fits fits' = absurd (fits.0 fits')
one_fits facts (verdicts.Missed why) (verdicts.Missed why') settled settled' fits fits' =
    λ i. verdicts.Missed (same_missed why why' fits.2 fits'.2 i)
one_fits facts (verdicts.Missed why) (verdicts.Race why') settled settled' fits fits' = absurd settled'
one_fits facts (verdicts.Missed why) (verdicts.NoRace why') settled settled' fits fits' = absurd (fits'.1 fits.1)
one_fits facts (verdicts.Missed why) verdicts.Apart settled settled' fits fits' = absurd (fits'.1 fits.1)
one_fits facts (verdicts.Missed why) verdicts.NotSettled settled settled' fits fits' = absurd settled'
one_fits facts (verdicts.Race why) other settled settled' fits fits' = absurd settled
one_fits facts (verdicts.NoRace why) verdicts.Reported settled settled' fits fits' = absurd (fits.0 fits')
one_fits facts (verdicts.NoRace why) (verdicts.Missed why') settled settled' fits fits' = absurd (fits.1 fits'.1)
one_fits facts (verdicts.NoRace why) (verdicts.Race why') settled settled' fits fits' = absurd settled'
one_fits facts (verdicts.NoRace why) (verdicts.NoRace why') settled settled' fits fits' =
    λ i. verdicts.NoRace (same_no_race why why' fits.3 fits'.3 i)
one_fits facts (verdicts.NoRace why) verdicts.Apart settled settled' fits fits' = absurd (fits'.2 fits.2)
one_fits facts (verdicts.NoRace why) verdicts.NotSettled settled settled' fits fits' = absurd settled'
one_fits facts verdicts.Apart verdicts.Reported settled settled' fits fits' = absurd (fits.0 fits')
one_fits facts verdicts.Apart (verdicts.Missed why') settled settled' fits fits' = absurd (fits.1 fits'.1)
one_fits facts verdicts.Apart (verdicts.Race why') settled settled' fits fits' = absurd settled'
one_fits facts verdicts.Apart (verdicts.NoRace why') settled settled' fits fits' = absurd (fits.2 fits'.2)
one_fits facts verdicts.Apart verdicts.Apart settled settled' fits fits' = refl
one_fits facts verdicts.Apart verdicts.NotSettled settled settled' fits fits' = absurd settled'
one_fits facts verdicts.NotSettled other settled settled' fits fits' = absurd settled
