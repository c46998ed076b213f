-- Whether accesses at a site never write, as a test says it.
use Rattle.std.proofs.Common.{◌↔◌, ℕ, Bool, IsTrue, List, None, Option, Some, inl, inr, not}
use Rattle.std.proofs.lemmas.Bool.{not-true, not_from_false, false_from_ne_true}
use Rattle.std.proofs.lemmas.Bool.{both_ways}
use Rattle.access_types.specs.Access.{Access}
use Rattle.access_types.specs.History.{History}
use Rattle.oracle_soundness.specs.oracle_races.Shown.{AreRace, BreaksMask, SomeTwo}
use Rattle.oracle_soundness.specs.declared.oracle_races.observed.Observed.{Observed}
use Rattle.races.specs.declared.pair.SitePair.{SitePair}

-- a test that says no
pub says_no : {test : Bool} {P : Type 0} → (IsTrue test ↔ P) → IsTrue (not test) ↔ (¬ P)
says_no {test = test} p = (
  λ no fact. both_ways test (not-true test no) (p.1 fact),
  λ none. not_from_false test (false_from_ne_true test (λ said. none (p.0 said))),
)

module _ (history : History) where
  breaks_on : (a b : Access) {Never Never' : Type 0} → (Never → Never') → (mask : Option ℕ) → BreaksMask history a b Never mask
      → BreaksMask history a b Never' mask
  breaks_on a b on None breaks = breaks
  breaks_on a b on (Some mask) (inl changes) = inl changes
  breaks_on a b on (Some mask) (inr never) = inr (on never)

  pub race_on : (plain_writes_atomic : Bool) {FirstNever FirstNever' SecondNever SecondNever' : Type 0} → (FirstNever → FirstNever')
      → (SecondNever → SecondNever') → (a b : Access) → AreRace plain_writes_atomic FirstNever SecondNever history a b
      → AreRace plain_writes_atomic FirstNever' SecondNever' history a b
  race_on plain_writes_atomic first second a b race = record {
    race = race.race;
    first_mask = breaks_on a b second a.mask race.first_mask;
    second_mask = breaks_on b a first b.mask race.second_mask;
  }

-- what is of two accesses is of them by another name
pub some_two_on : (executions : List Observed) (pair : SitePair) (AreSuch AreSuch' : History → Access → Access → Type 0)
    → ((history : History) (a b : Access) → AreSuch history a b → AreSuch' history a b)
    → SomeTwo executions pair AreSuch → SomeTwo executions pair AreSuch'
some_two_on executions pair AreSuch AreSuch' on some =
    let two = some.4 in (
      some.0,
      some.1,
      some.2,
      some.3,
      record {
        access = two.access;
        is = two.is;
        such = record {
          access = two.such.access;
          is = two.such.is;
          such = on some.1.history.items two.access two.such.access two.such.such;
        };
      },
    )
