-- Why a race is missed, by what was found between its accesses.
use Rattle.std.proofs.Common.{◌≡◌, ◌∙◌, ◌↔◌, ◌⊎◌, Bool, IsTrue, List, inl, inr, subst, sym}
use Rattle.executions.specs.execution.Run.{Run}
use Rattle.race_search.specs.Facts.{AreFacts, NextTells}
use Rattle.race_verdicts.specs.Judged.{IsEither}
use Rattle.race_search.specs.declared.facts.Fact.{Fact}
use Rattle.race_search.specs.declared.facts.Facts.{Facts}
use Rattle.race_verdicts.specs.declared.missed.Between.{Between}
use Rattle.races.specs.Shown.{IsDroppedIn, IsOriginIn, IsTakenIn, SomeShows}
use Rattle.races.specs.Verdicts.{AreMissedReasons, AreReasonsSoFar, HasReason, IsArmed, facts_of}
use Rattle.races.specs.Verdicts as reasons
use Rattle.races.specs.declared.pair.SitePair.{SitePair}
use Rattle.races.specs.declared.verdict.MissedWhy.{MissedWhy}
use Rattle.slot_table.specs.declared.records.Record.{Record}
use Rattle.value_filter.specs.declared.verdict.Reason.TheVariants.{MaskedBits, SameValue}

-- what the next records tell was found, and nothing else; so a fact that was found is shown, and one that is shown was found
module _ (run : Run) (visited : List (List Record)) (facts : Facts) (are : AreFacts run visited facts) (one other : Fact) (said : Bool)
    (is : IsTrue said ↔ IsEither facts one other) (Shows : Type 0) where
  pub said_so : (NextTells run visited one ⊎ NextTells run visited other → Shows) → IsTrue said → Shows
  said_so law true_is = law (elim (is.0 true_is) [ inl first ↦ inl ((are one).0 first) | inr second ↦ inr ((are other).0 second) ])

  pub so_said : (Shows → NextTells run visited one ⊎ NextTells run visited other) → Shows → IsTrue said
  so_said law shows = is.1 (elim (law shows) [ inl first ↦ inl ((are one).1 first) | inr second ↦ inr ((are other).1 second) ])

-- what is said of the reasons
pub record AreWhys (settled : Bool) (found : Between) (why : MissedWhy) : Type 0 where
  pub same_value : why.same_value ≡ found.same_value
  pub masked : why.masked ≡ found.masked
  pub origin : why.origin ≡ found.origin
  pub never_taken : IsTrue why.never_taken ↔ (IsTrue settled × ((¬ IsTrue found.same_value) × (¬ IsTrue found.masked) × (¬ IsTrue found.origin))
      × IsTrue found.armed × (¬ IsTrue found.taken))
  pub never_armed : IsTrue why.never_armed ↔ (IsTrue settled × ((¬ IsTrue found.same_value) × (¬ IsTrue found.masked) × (¬ IsTrue found.origin))
      × (¬ IsTrue found.armed))

module _ (run : Run) (pair : SitePair) (settled : Bool) (found : Between) (why : MissedWhy) (whys : AreWhys settled found why) where
  -- all was visited
  module _ (all : IsTrue settled) (same_value : IsTrue found.same_value ↔ SomeShows run (IsDroppedIn run pair SameValue))
      (masked : IsTrue found.masked ↔ SomeShows run (IsDroppedIn run pair MaskedBits)) (origin : IsTrue found.origin ↔ SomeShows run (IsOriginIn run pair))
      (armed : IsTrue found.armed ↔ IsArmed run pair) (taken : IsTrue found.taken ↔ SomeShows run (IsTakenIn run pair)) where
    none : ((¬ IsTrue found.same_value) × (¬ IsTrue found.masked) × (¬ IsTrue found.origin)) → ¬ HasReason (facts_of run pair)
    none lacks (reasons.same_value shows) = lacks.0 (same_value.1 shows)
    none lacks (reasons.masked shows) = lacks.1 (masked.1 shows)
    none lacks (reasons.origin shows) = lacks.2 (origin.1 shows)

    no_reason : ¬ HasReason (facts_of run pair) → ((¬ IsTrue found.same_value) × (¬ IsTrue found.masked) × (¬ IsTrue found.origin))
    no_reason lacks = (
      λ is. lacks (reasons.same_value (same_value.0 is)),
      λ is. lacks (reasons.masked (masked.0 is)),
      λ is. lacks (reasons.origin (origin.0 is)),
    )

    pub are_reasons : AreMissedReasons (facts_of run pair) why
    are_reasons = record {
      same_value = subst (λ (b : Bool). IsTrue b ↔ SomeShows run (IsDroppedIn run pair SameValue)) (sym whys.same_value) same_value;
      masked = subst (λ (b : Bool). IsTrue b ↔ SomeShows run (IsDroppedIn run pair MaskedBits)) (sym whys.masked) masked;
      origin = subst (λ (b : Bool). IsTrue b ↔ SomeShows run (IsOriginIn run pair)) (sym whys.origin) origin;
      never_taken = (
        λ is.
            let it = whys.never_taken.0 is in
            (none it.1, (λ shows. it.3 (taken.1 shows)), armed.0 it.2),
        λ is. whys.never_taken.1 (all, no_reason is.0, armed.1 is.2, (λ told. is.1 (taken.0 told))),
      );
      never_armed = (
        λ is.
            let it = whys.never_armed.0 is in
            (none it.1, (λ shows. it.2 (armed.1 shows))),
        λ is. whys.never_armed.1 (all, no_reason is.0, (λ told. is.1 (armed.0 told))),
      );
    }

  -- not all was
  pub are_so_far : ¬ IsTrue settled → (IsTrue found.same_value → SomeShows run (IsDroppedIn run pair SameValue))
      → (IsTrue found.masked → SomeShows run (IsDroppedIn run pair MaskedBits)) → (IsTrue found.origin → SomeShows run (IsOriginIn run pair))
      → AreReasonsSoFar (facts_of run pair) why
  are_so_far not_all same_value masked origin = record {
    same_value = λ is. same_value (sym whys.same_value ∙ is);
    masked = λ is. masked (sym whys.masked ∙ is);
    origin = λ is. origin (sym whys.origin ∙ is);
    never_taken = λ is. not_all (whys.never_taken.0 is).0;
    never_armed = λ is. not_all (whys.never_armed.0 is).0;
  }
