-- One more arming is counted at its site.
use Rattle.std.proofs.Common.{◌≡◌, ◌+◌, ◌<◌, ◌≤◌, ◌++◌, ◌∙◌, ℕ, inl, inr, List, [], ◌∷◌, ap, arith, get_or, length, length-set, set, subst, sym, zero-add}
use Rattle.std.proofs.lemmas.Bool.{cases_eq}
use Rattle.std.proofs.lemmas.Bool.Decides.{nat_tests}
use Rattle.std.proofs.lemmas.Grind.{get_or-set_at}
use Rattle.std.proofs.lemmas.List.{get_or-set_other}
use Rattle.std.proofs.lemmas.List.Sums.{sum_by-append}
use Rattle.std.specs.Prelude.{◌==◌, if◌then◌else◌}
use Rattle.access_types.specs.Arms.{Arm}
use Rattle.access_types.specs.Ticket.{site_in}
use Rattle.task_log.specs.Armings.{CountsBySite, CountsArmings, armings_by}
use Rattle.task_log.specs.declared.armings.Highest.{Highest}

one_by : (setter : ℕ) (arms : List Arm) (arm : Arm)
    → armings_by setter (arms ++ arm ∷ []) ≡ armings_by setter arms + (if arm.setter == setter then 1 else 0)
one_by setter arms arm =
    sum_by-append (λ (a : Arm). if a.setter == setter then 1 else 0) arms (arm ∷ [])
    ∙ ap (λ n. armings_by setter arms + n) (zero-add (if arm.setter == setter then 1 else 0))

-- an arming of another setter
by_other : (setter : ℕ) (arms : List Arm) (arm : Arm) → (arm.setter ≡ setter → ⊥)
    → armings_by setter (arms ++ arm ∷ []) ≡ armings_by setter arms
by_other setter arms arm other = grind (arith, nat_tests, one_by setter arms arm)

-- an arming of this setter
by_same : (setter : ℕ) (arms : List Arm) (arm : Arm) → arm.setter ≡ setter
    → armings_by setter (arms ++ arm ∷ []) ≡ armings_by setter arms + 1
by_same setter arms arm is = grind (arith, nat_tests, one_by setter arms arm)

-- a place tells of other setters as before
tells_other : (arms : List Arm) (arm : Arm) (setter : ℕ) (highest : Highest) → (arm.setter ≡ setter → ⊥)
    → CountsArmings arms setter highest → CountsArmings (arms ++ arm ∷ []) setter highest
tells_other arms arm setter highest other tells = record {
  above = λ higher. by_other setter arms arm other ∙ tells.above higher;
  same = λ is. tells.same is ∙ sym (by_other setter arms arm other);
}

-- a setter that is no lower than the highest of its site is the highest
tells_new : (arms : List Arm) (arm : Arm) (setter : ℕ) (was now : Highest) → was.setter ≤ arm.setter → now.setter ≡ arm.setter
    → now.number ≡ armings_by arm.setter arms + 1
    → CountsArmings arms setter was → CountsArmings (arms ++ arm ∷ []) setter now
tells_new arms arm setter was now under named number tells = record {
  above = λ higher.
      by_other setter arms arm (λ is. omega arith) ∙ tells.above (omega arith);
  same = λ is. let own : arm.setter ≡ setter = sym named ∙ is in
      number ∙ ap (λ s. armings_by s arms + 1) own ∙ sym (by_same setter arms arm own);
}

pub placed : (arms : List Arm) (arm : Arm) (sites : List Highest) (place : ℕ) (was now : Highest)
    → place ≡ site_in arm.setter → place < length sites → was ≡ get_or sites place was → was.setter ≤ arm.setter
    → now.setter ≡ arm.setter → now.number ≡ armings_by arm.setter arms + 1
    → CountsBySite arms sites → CountsBySite (arms ++ arm ∷ []) (set sites place now)
placed arms arm sites place was now here inside at under named number counts = record {
  places = length-set sites place now ∙ counts.places;
  each = λ setter d.
      elim (cases_eq (site_in setter) place) [
        | inl same ↦ subst (CountsArmings (arms ++ arm ∷ []) setter) (sym (get_or-set_at sites place (site_in setter) now d same inside))
            (tells_new arms arm setter was now under named number
            (subst (CountsArmings arms setter) (ap (λ n. get_or sites n was) same ∙ sym at) (counts.each setter was)))
        | inr other ↦ subst (CountsArmings (arms ++ arm ∷ []) setter) (sym (get_or-set_other sites place (site_in setter) now d other))
            (tells_other arms arm setter (get_or sites (site_in setter) d) (λ is. other (ap site_in (sym is) ∙ sym here))
            (counts.each setter d))
      ];
}
