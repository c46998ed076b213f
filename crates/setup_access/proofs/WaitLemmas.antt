-- What an answer makes of a wait, in the definition and in the code's count of failed tries.
use Rattle.std.proofs.Common.{◌≡◌, ◌<◌, ◌≤◌, ◌+◌, ◌-◌, ◌^◌, ◌↔◌, ◌∷◌, ◌++◌, ◌∙◌, [], ℕ, zero, suc}
use Rattle.std.proofs.Common.{Bool, true, false, List, Option, None, Some, IsSomeAnd, min, ap, refl, subst, sym, arith, if◌then◌else◌}
use Rattle.slot.specs.Pair.{Halves}
use Rattle.slot_table.specs.declared.records.Record.{Record}
use Rattle.slot_table.specs.declared.step.Answer.TheVariants.{Flag, Halves as Heard}
use Rattle.setup_access.specs.Found.{setter_half}
use Rattle.setup_access.specs.Parts.{after_name, after_refusal}
use Rattle.slot_table.specs.index_order.Indices.{place_after}
use Rattle.setup_access.specs.Waiting.{capped, taking_wait, tries_of, watching_wait}
use Rattle.setup_access.specs.Waits.{Wait, after_consume, after_half, after_load, after_try, wait_from, wait_on}
use Rattle.setup_access.specs.declared.found.Found.TheVariants.{HearSetter, Tell}
use Rattle.setup_access.specs.declared.found.Taking.{Taking}
use Rattle.setup_access.specs.declared.found.Taking.TheVariants as takings
use Rattle.setup_access.specs.declared.outcome.Outcome.{Outcome}
use Rattle.setup_access.specs.declared.outcome.Outcome.TheVariants.{Lost}
use Rattle.slot_table.specs.declared.index_order.place.ProbeIndex.{ProbeIndex}
use Rattle.slot_table.specs.declared.index_order.place.ProbeIndex.TheVariants.{First, Second, Third}
use Rattle.setup_access.specs.declared.setup.Setup.TheVariants as setups
use Rattle.setup_access.specs.declared.setup.Watching.{Watching}
use Rattle.setup_access.specs.declared.setup.Watching.TheVariants as watchings
use Rattle.setup_access.specs.declared.source.Source.{Source}

-- one record more
pub wait_after_one : (wait : Option Wait) (records : List Record) (last : Record)
    → wait_from wait (records ++ last ∷ []) ≡ wait_on (wait_from wait records) last.step last.answer
wait_after_one wait [] last = refl
wait_after_one wait (first ∷ later) last = wait_after_one (wait_on wait first.step first.answer) later last

-- a half of the pair that no wait is for
abbrev none_of : Halves → ℕ
none_of both = 0

abbrev half_in : Option Wait → Halves → ℕ
half_in None = none_of
half_in (Some wait) = wait.half

abbrev tries_in : Option Wait → ℕ
tries_in None = 0
tries_in (Some wait) = wait.tries

heard_half : (wait : Wait) (n : ℕ) → 0 < n → after_half wait n ≡ None
heard_half wait zero above = absurd (omega (arith, above))
heard_half wait (suc n) above = refl

module _ (half : Halves → ℕ) (tries setter finder : ℕ) where
  abbrev pub heard : Halves
  heard = record { setter = setter; finder = finder }

  -- the half was empty: the wait goes on with one failed try more
  pub failed_counts : (wait : Option Wait) → Some (record { half = half; tries = tries }) ≡ capped wait → half heard ≡ 0
      → Some (record { half = half; tries = min (tries + 1) (2 ^ 64 - 1) }) ≡ capped (after_load wait (Heard setter finder))
  failed_counts None is empty = absurd (let no : Some (record { half = half; tries = tries }) ≡ None = is in cc)
  failed_counts (Some wait) is empty =
      let same : half ≡ wait.half = ap half_in is in
      let count : tries ≡ min wait.tries (2 ^ 64 - 1) = ap tries_in is in
      let here : wait.half heard ≡ 0 = subst (λ (h : Halves → ℕ). h heard ≡ 0) same empty in
      let next : min (tries + 1) (2 ^ 64 - 1) ≡ min (wait.tries + 1) (2 ^ 64 - 1) = rw count (capped_next wait.tries) in
      rw here (ap (λ (h : Halves → ℕ). Some (record { half = h; tries = min (tries + 1) (2 ^ 64 - 1) })) same ∙ ap (λ (n : ℕ). Some (record { half = wait.half; tries = n })) next)
    where
      capped_next : (n : ℕ) → min (min n (2 ^ 64 - 1) + 1) (2 ^ 64 - 1) ≡ min (n + 1) (2 ^ 64 - 1)
      capped_next n = omega arith

  -- it stood: the wait is over
  pub heard_counts : (wait : Option Wait) → Some (record { half = half; tries = tries }) ≡ capped wait → 0 < half heard
      → None ≡ capped (after_load wait (Heard setter finder))
  heard_counts None is above = absurd (let no : Some (record { half = half; tries = tries }) ≡ None = is in cc)
  heard_counts (Some wait) is above =
      let same : half ≡ wait.half = ap half_in is in
      let here : 0 < wait.half heard = subst (λ (h : Halves → ℕ). 0 < h heard) same above in
      sym (ap capped (heard_half wait (wait.half heard) here))

-- a finder has read the pair
pub heard_setter_counts : (index tries setter finder : ℕ) (result : Taking) (wait : Option Wait) → Some (record { half = setter_half; tries = tries }) ≡ capped wait
    → (setter ≡ 0 → result ≡ takings.Going (HearSetter index (min (tries + 1) (2 ^ 64 - 1)))) → (0 < setter → result ≡ takings.Going (Tell index setter))
    → taking_wait result ≡ capped (after_load wait (Heard setter finder))
heard_setter_counts index tries zero finder result wait is failed stands =
    ap taking_wait (failed refl) ∙ failed_counts setter_half tries 0 finder wait is refl
heard_setter_counts index tries (suc n) finder result wait is failed stands =
    let above : 0 < suc n = omega arith in
    ap taking_wait (stands above) ∙ heard_counts setter_half tries (suc n) finder wait is above

-- a try
pub tried_counts : (index : ℕ) (taken : Bool) (result : Taking) → result ≡ (if taken then takings.Going (HearSetter index 0) else takings.Over Lost)
    → taking_wait result ≡ capped (after_try (Flag taken))
tried_counts index true result is = ap taking_wait is
tried_counts index false result is = ap taking_wait is

-- a consume
pub consumed_counts : (index : ℕ) (values : Option (ℕ × ℕ)) (untouched : Bool) (result : Watching) (P : Outcome → Type 0)
    → (untouched ≡ true → (outcome : Outcome) × P outcome × (result ≡ watchings.Judged index outcome))
    → (untouched ≡ false → result ≡ watchings.Going (setups.HearFinder index values 0))
    → watching_wait result ≡ capped (after_consume (Flag untouched))
consumed_counts index values true result P over on = ap watching_wait (over refl).2
consumed_counts index values false result P over on = ap watching_wait (on refl)

-- an insertion waits for nobody
pub inserted_counts : (word index : ℕ) (place : ProbeIndex) (accepted : Bool) (result : Watching) → (accepted ≡ true → result ≡ watchings.Going (setups.Name index))
    → (accepted ≡ false → result ≡ after_refusal word (place_after place)) → watching_wait result ≡ None
inserted_counts word index place true result stands again = ap watching_wait (stands refl)
inserted_counts word index First false result stands again = ap watching_wait (again refl)
inserted_counts word index Second false result stands again = ap watching_wait (again refl)
inserted_counts word index Third false result stands again = ap watching_wait (again refl)

-- nor does a setter that has named itself
pub named_counts : (index : ℕ) (source : Option Source) (result : Watching) → result ≡ watchings.Going (after_name index source) → watching_wait result ≡ None
named_counts index None result is = ap watching_wait is
named_counts index (Some source) result is = ap watching_wait is

-- a count that rests at its last value has reached what the true one has
pub reached : (turns : ℕ) (counted wait : Option Wait) → turns < 2 ^ 64 → counted ≡ capped wait
    → (IsSomeAnd (tries_of counted) (λ tries. turns ≤ tries) ↔ IsSomeAnd wait (λ w. turns ≤ w.tries))
reached turns counted None below is = rw is (λ h. h, λ h. h)
reached turns counted (Some wait) below is = rw is (λ h. omega (arith, h), λ h. omega (arith, h))
