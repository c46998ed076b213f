-- What is noted and reported of a task is no more than the outcomes that fall.
use Rattle.std.proofs.Common.{◌≡◌, ◌∙◌, ◌≤◌, ◌+◌, ◌-◌, ◌==◌, ◌++◌, ◌∷◌, ◌⊎◌, [], inl, inr, ℕ, zero}
use Rattle.std.proofs.Common.{suc, Bool, true, false, List, None, Option, Some, ap, arith, cond, count_by, length, refl, sym}
use Rattle.std.specs.List.{filter}
use Rattle.std.specs.Option.{option_to_list}
use Rattle.std.proofs.lemmas.Bool.{eq-eqb, ne_eqb}
use Rattle.std.proofs.lemmas.Bool.Decides.{eqb_tells}
use Rattle.std.proofs.lemmas.List.{length-append, length-map}
use Rattle.access_types.specs.Arms.{Arm}
use Rattle.access_types.specs.Takes.{Take}
use Rattle.litmus_syntax.specs.Tree.{Block}
use Rattle.log_correctness.specs.Noted.{AreNoted}
use Rattle.log_correctness.proofs.Sums.{counted, of_step}
use Rattle.log_correctness.proofs.Watches.{is_remove, is_tell}
use Rattle.setup_access.specs.Check.{Fallen}
use Rattle.setup_access.specs.declared.outcome.Outcome.{Outcome}
use Rattle.setup_access.specs.declared.outcome.Outcome.TheVariants as outcomes
use Rattle.slot_table.specs.declared.records.Record.{Record}
use Rattle.slot_table.specs.declared.step.Answer.{Answer}
use Rattle.slot_table.specs.declared.step.Step.{Step}
use Rattle.slot_table.specs.declared.step.Step.TheVariants as steps
use Rattle.task_log.specs.Arms.{arm_removed, arms_at, arms_of, takes_at, takes_of}
use Rattle.task_log.specs.Reports.{reported, reported_in}
use Rattle.task_log.specs.declared.noted.Noted.{Noted}
use Rattle.program_order.specs.Standing.{Setting}
use Rattle.program_order.specs.TaskObserved.{fell_next, to_come}
use Rattle.program_order.specs.WrittenOrder.{WrittenOrder}

-- an arming for each remove, and a taking for each tell
one_longer : {X : Type 0} (xs : List X) (x : X) → length (xs ++ x ∷ []) ≡ 1 + length xs
one_longer xs x = let all = length-append xs (x ∷ []) in omega (arith, all)

none_longer : (n : ℕ) → n ≡ 0 + n
none_longer n = omega arith

arms_longer : (step : Step) (answer : Answer) (earlier : List Noted) (before : List Arm)
    → length (arms_at step earlier before) ≡ cond (is_remove step answer) 1 0 + length before
arms_longer (steps.Remove index) answer earlier before = one_longer before (arm_removed index earlier before)
arms_longer step answer earlier before = none_longer (length before)

pub so_many_arms : (noted : List Noted) → length (arms_of noted) ≡ count_by (of_step is_remove) noted
so_many_arms [] = refl
so_many_arms (now ∷ before) =
    let rest = so_many_arms before in
    let one = arms_longer now.step now.answer before (arms_of before) in
    let all = counted (of_step is_remove) now before in omega (arith, rest, one, all)

takes_longer : (step : Step) (answer : Answer) (outcome : Option Outcome) (before : List Take)
    → length (takes_at step outcome before) ≡ cond (is_tell step answer) 1 0 + length before
takes_longer (steps.Tell index ticket) answer outcome before = one_longer before _
takes_longer step answer outcome before = none_longer (length before)

pub so_many_takes : (noted : List Noted) → length (takes_of noted) ≡ count_by (of_step is_tell) noted
so_many_takes [] = refl
so_many_takes (now ∷ before) =
    let rest = so_many_takes before in
    let one = takes_longer now.step now.answer now.outcome (takes_of before) in
    let all = counted (of_step is_tell) now before in omega (arith, rest, one, all)

-- the outcomes that fall before so many records, or more
abbrev at_least : ℕ → ℕ → Bool
at_least n zero = true
at_least zero (suc k) = false
at_least (suc n) (suc k) = at_least n k

next_least : (n k : ℕ) → cond (at_least n (suc k)) 1 0 + cond (n == k) 1 0 ≤ cond (at_least n k) 1 0
next_least zero zero = omega arith
next_least (suc n) zero = rw (ne_eqb (suc n) 0 (λ is. omega (arith, is))) (omega arith)
next_least zero (suc k) = rw (ne_eqb 0 (suc k) (λ is. omega (arith, is))) (omega arith)
next_least (suc n) (suc k) =
    let rest = next_least n k in
    let same : (suc n == suc k) ≡ (n == k) = by_equal (eqb_tells n k) in
    let here : ◌≡◌ {A = ℕ} (cond (suc n == suc k) 1 0) (cond (n == k) 1 0) = ap (λ (b : Bool). cond {A = ℕ} b 1 0) same in omega (arith, rest, here)
  where
    by_equal : ((n == k) ≡ true) × (n ≡ k) ⊎ ((n == k) ≡ false) × (n ≡ k → ⊥) → (suc n == suc k) ≡ (n == k)
    by_equal (inl is) = eq-eqb (suc n) (suc k) (ap suc is.1) ∙ sym is.0
    by_equal (inr isnt) = ne_eqb (suc n) (suc k) (λ both. isnt.1 (let same : suc n ≡ suc k = both in omega (arith, same))) ∙ sym isnt.0

-- those that fall before just so many
abbrev falls_at : ℕ → List Fallen → List Fallen
falls_at k fallen = filter (λ (f : Fallen). length f.later == k) fallen

abbrev falls_from : ℕ → List Fallen → ℕ
falls_from k fallen = count_by (λ (f : Fallen). at_least (length f.later) k) fallen

one_or_none : (b : Bool) (f : Fallen) (fallen : List Fallen) → length (cond b (f ∷ fallen) fallen) ≡ cond b 1 0 + length fallen
one_or_none true f fallen = omega arith
one_or_none false f fallen = omega arith

next_from : (k : ℕ) (fallen : List Fallen) → falls_from (suc k) fallen + length (falls_at k fallen) ≤ falls_from k fallen
next_from k [] = omega arith
next_from k (f ∷ fallen) =
    let rest = next_from k fallen in
    let more = counted (λ (g : Fallen). at_least (length g.later) (suc k)) f fallen in
    let all = counted (λ (g : Fallen). at_least (length g.later) k) f fallen in
    let here = one_or_none (length f.later == k) f (falls_at k fallen) in
    let own = next_least (length f.later) k in omega (arith, rest, more, all, here, own)

at_most_all : {X : Type 0} (p : X → Bool) (xs : List X) → count_by p xs ≤ length xs
at_most_all p [] = omega arith
at_most_all p (x ∷ xs) =
    let rest = at_most_all p xs in
    let one = counted p x xs in
    let most = one_most (p x) in omega (arith, rest, one, most)
  where
    one_most : (b : Bool) → cond b 1 0 ≤ 1
    one_most true = omega arith
    one_most false = omega arith

none_above : (k : ℕ) (fallen : List Fallen) → 0 ≤ falls_from k fallen
none_above k fallen = omega arith

module _ {s : Setting} {registers : ℕ} {body : Block} {records : List Record} (written : WrittenOrder s registers body records) where
  abbrev outs : List Fallen
  outs = written.whole.end.outcomes

  -- the outcomes that fall at the first records
  abbrev pub fell_by : ℕ → ℕ
  fell_by zero = 0
  fell_by (suc made) = fell_by made + length (fell_next written made)

  fell_from : (made : ℕ) → made ≤ length (records ++ written.more)
      → fell_by made ≤ falls_from (length (records ++ written.more) - made) outs
  fell_from zero within = none_above (length (records ++ written.more) - 0) outs
  fell_from (suc made) within =
      let total : ℕ = length (records ++ written.more) in
      let rest = fell_from made (omega (arith, within)) in
      let before : total - made ≡ suc (total - suc made) = omega (arith, within) in
      let at : to_come written (made + 1) ≡ total - suc made = omega arith in
      let from : falls_from (total - made) outs ≡ falls_from (suc (total - suc made)) outs = ap (λ (k : ℕ). falls_from k outs) before in
      let here : length (fell_next written made) ≡ length (falls_at (total - suc made) outs) = ap (λ (k : ℕ). length (falls_at k outs)) at in
      let next = next_from (total - suc made) outs in
      omega (arith, rest, from, here, next)

  pub few_fell : (made : ℕ) → made ≤ length (records ++ written.more) → fell_by made ≤ length outs
  few_fell made within =
      let from = fell_from made within in
      let all = at_most_all (λ (f : Fallen). at_least (length f.later) (length (records ++ written.more) - made)) outs in omega (arith, from, all)

  -- what is reported at a step
  one_reported : (outcome : Option Outcome) (earlier : List Noted)
      → length (option_to_list (reported outcome earlier)) ≤ length (option_to_list outcome)
  one_reported None earlier = omega arith
  one_reported (Some (outcomes.Report pair seen)) earlier = omega arith
  one_reported (Some (outcomes.Unknown old new)) earlier = omega arith
  one_reported (Some outcome) earlier = omega arith

  pub few_reported_in : (own : List Record) (noted : List Noted) → AreNoted written own noted
      → length (reported_in noted) ≤ fell_by (length own)
  few_reported_in [] [] are = omega arith
  few_reported_in [] (now ∷ before) are = absurd are
  few_reported_in (latest ∷ earlier) [] are = absurd are
  few_reported_in (latest ∷ earlier) (now ∷ before) are =
      let rest = few_reported_in earlier before are.0 in
      let all = length-append (reported_in before) (option_to_list (reported now.outcome before)) in
      let one = one_reported now.outcome before in
      let fell : length (fell_next written (length earlier)) ≡ length (option_to_list now.outcome) =
      sym (length-map (fell_next written (length earlier)) (λ (f : Fallen). f.outcome)) ∙ ap (λ (l : List Outcome). length l) are.1.outcome in
      omega (arith, rest, all, one, fell)
