-- The armings of takings, and those of tells, are all different.
use Rattle.std.proofs.Common.{◌≡◌, ◌≢◌, ◌<◌, inl, inr, ℕ, suc, true, List, [], ◌∷◌, Option, None}
use Rattle.std.proofs.Common.{Some, length, refl, sym, ◌∙◌, arith}
use Rattle.std.proofs.lemmas.Bool.Decides.{eqb_tells}
use Rattle.std.proofs.lemmas.List.Elements.{All-cons}
use Rattle.std.proofs.lemmas.List.Kept.{AllPairs-cons}
use Rattle.std.specs.List.{All, AllPairs, cons_option}
use Rattle.slot_table.specs.Armings.{MeetOnce, MeetsAnew, armings_taken, armings_told, finder_at}
use Rattle.slot_table.specs.Armings.{last_arming_number, number_after, taken_after, told_after}
use Rattle.slot_table.specs.Armings.{told_at, with_taken, with_told}
use Rattle.slot_table.specs.declared.records.Record.{Record}
use Rattle.slot_table.specs.declared.step.Answer.{Answer}
use Rattle.slot_table.specs.declared.step.Answer.TheVariants as answers
use Rattle.slot_table.specs.declared.step.Step.{Step}
use Rattle.slot_table.specs.declared.step.Step.TheVariants.{Insert, TryConsume, Tell}

-- an arming stands in the list
below_after : (index : ℕ) (step : Step) (answer : Answer) (n : ℕ) (before : Option ℕ) (p : ℕ)
    → number_after index step answer n before ≡ Some p → (before ≡ Some p → p < n) → p < suc n
below_after index (Insert at word) (answers.Flag true) n before p e within =
    elim (eqb_tells at index) [
      | inl same ↦
          let is : Some n ≡ Some p = rw same.0 at e in
          let number : n ≡ p = cc in
          omega arith
      | inr apart ↦
          let is : before ≡ Some p = rw apart.0 at e in
          let h = within is in
          omega arith
    ]
below_after index step answer n before p e within = let h = within e in omega arith

below : (index : ℕ) (records : List Record) (p : ℕ)
    → last_arming_number index records ≡ Some p → p < length records
below index [] p e = absurd (cc)
below index (latest ∷ earlier) p e =
    below_after index latest.step latest.answer (length earlier)
    (last_arming_number index earlier) p e (below index earlier p)

-- it is at one index
module _ (i j : ℕ) where
  one_number_after : (step : Step) (answer : Answer) (n : ℕ) (here there : Option ℕ) (p : ℕ)
      → number_after i step answer n here ≡ Some p
      → number_after j step answer n there ≡ Some p
      → (here ≡ Some p → p < n) → (there ≡ Some p → p < n)
      → (here ≡ Some p → there ≡ Some p → i ≡ j)
      → i ≡ j
  one_number_after (Insert at word) (answers.Flag true) n here there p d e within also one =
      elim (eqb_tells at i) [
        | inl same ↦
            let first : Some n ≡ Some p = rw same.0 at d in
            let number : n ≡ p = cc in
            elim (eqb_tells at j) [
              | inl other ↦ sym same.1 ∙ other.1
              | inr apart ↦
                  let second : there ≡ Some p = rw apart.0 at e in
                  let h = also second in
                  absurd (omega arith)
            ]
        | inr differs ↦
            let first : here ≡ Some p = rw differs.0 at d in
            elim (eqb_tells at j) [
              | inl other ↦
                  let second : Some n ≡ Some p = rw other.0 at e in
                  let number : n ≡ p = cc in
                  let h = within first in
                  absurd (omega arith)
              | inr apart ↦ let second : there ≡ Some p = rw apart.0 at e in one first second
            ]
      ]
  one_number_after step answer n here there p d e within also one = one d e

  one_number : (records : List Record) (p : ℕ)
      → last_arming_number i records ≡ Some p → last_arming_number j records ≡ Some p → i ≡ j
  one_number [] p d e = absurd (cc)
  one_number (latest ∷ earlier) p d e =
      let here = last_arming_number i earlier in
      let there = last_arming_number j earlier in
      one_number_after latest.step latest.answer (length earlier) here there p d e
      (below i earlier p) (below j earlier p) (one_number earlier p)

-- numbers below one are below the next
more : (n : ℕ) (ps : List ℕ) → All (λ p. p < n) ps → All (λ p. p < suc n) ps
more n ps within k d h = let lt = within k d h in omega arith

cons_below : (o : Option ℕ) (n : ℕ) (ps : List ℕ)
    → ((p : ℕ) → o ≡ Some p → p < n) → All (λ p. p < n) ps → All (λ p. p < n) (cons_option o ps)
cons_below None n ps first rest = rest
cons_below (Some p) n ps first rest = All-cons (λ p. p < n) p ps (first p refl) rest

-- numbers that are below another differ from it
differ : (n : ℕ) (ps : List ℕ) → All (λ p. p < n) ps → All (λ p. n ≢ p) ps
differ n ps within k d h = λ e. let lt = within k d h in omega arith

cons_apart : (o : Option ℕ) (n : ℕ) (ps : List ℕ)
    → ((p : ℕ) → o ≡ Some p → n ≢ p) → All (λ p. n ≢ p) ps → All (λ p. n ≢ p) (cons_option o ps)
cons_apart None n ps first rest = rest
cons_apart (Some p) n ps first rest = All-cons (λ p. n ≢ p) p ps (first p refl) rest

cons_pairs : (o : Option ℕ) (ps : List ℕ)
    → ((n : ℕ) → o ≡ Some n → All (λ p. n ≢ p) ps) → AllPairs (λ a b. a ≢ b) ps
    → AllPairs (λ a b. a ≢ b) (cons_option o ps)
cons_pairs None ps first rest = rest
cons_pairs (Some n) ps first rest = AllPairs-cons (λ a b. a ≢ b) n ps (first n refl) rest

-- the last arming at another index has another number
apart_at : (at index : ℕ) (records : List Record) (n : ℕ)
    → at ≢ index → last_arming_number index records ≡ Some n
    → (p : ℕ) → last_arming_number at records ≡ Some p → n ≢ p
apart_at at index records n apart numbered p its same =
    let mine : last_arming_number at records ≡ Some n = rw same its in
    apart (one_number at index records n mine numbered)

-- the armings taken stand in the list
taken_below-step : (step : Step) (answer : Answer) (earlier : List Record) (ps : List ℕ)
    → All (λ p. p < length earlier) ps
    → All (λ p. p < length earlier) (with_taken step answer earlier ps)
taken_below-step (TryConsume at word) (answers.Flag true) earlier ps within =
    cons_below (last_arming_number at earlier) (length earlier) ps (below at earlier) within
taken_below-step step answer earlier ps within = within

taken_below : (records : List Record) → All (λ p. p < length records) (armings_taken records)
taken_below [] = λ k d h. absurd (omega arith)
taken_below (latest ∷ earlier) =
    let before = armings_taken earlier in
    more (length earlier) (with_taken latest.step latest.answer earlier before)
    (taken_below-step latest.step latest.answer earlier before (taken_below earlier))

-- an arming that nobody took is none of them
untaken-step : (index task : ℕ) (step : Step) (answer : Answer) (earlier : List Record) (n : ℕ)
    → number_after index step answer (length earlier) (last_arming_number index earlier) ≡ Some n
    → taken_after index task step answer (finder_at index earlier) ≡ None
    → (last_arming_number index earlier ≡ Some n → finder_at index earlier ≡ None
    → All (λ p. n ≢ p) (armings_taken earlier))
    → All (λ p. n ≢ p) (with_taken step answer earlier (armings_taken earlier))
untaken-step index task (Insert at word) (answers.Flag true) earlier n numbered free rest =
    elim (eqb_tells at index) [
      | inl same ↦
          let is : Some (length earlier) ≡ Some n = rw same.0 at numbered in
          let number : length earlier ≡ n = cc in
          rw (← number) (differ (length earlier) (armings_taken earlier) (taken_below earlier))
      | inr apart ↦
          let is : last_arming_number index earlier ≡ Some n = rw apart.0 at numbered in
          let none : finder_at index earlier ≡ None = rw apart.0 at free in
          rest is none
    ]
untaken-step index task (TryConsume at word) (answers.Flag true) earlier n numbered free rest =
    elim (eqb_tells at index) [
      | inl same ↦ let none : Some task ≡ None = rw same.0 at free in absurd (cc)
      | inr apart ↦
          let none : finder_at index earlier ≡ None = rw apart.0 at free in
          cons_apart (last_arming_number at earlier) n (armings_taken earlier)
          (apart_at at index earlier n apart.1 numbered) (rest numbered none)
    ]
untaken-step index task step answer earlier n numbered free rest = rest numbered free

untaken : (index : ℕ) (records : List Record) (n : ℕ)
    → last_arming_number index records ≡ Some n → finder_at index records ≡ None
    → All (λ p. n ≢ p) (armings_taken records)
untaken index [] n numbered free = absurd (cc)
untaken index (latest ∷ earlier) n numbered free =
    untaken-step index latest.task latest.step latest.answer earlier n numbered free
    (untaken index earlier n)

-- the armings taken differ
taken-step : (step : Step) (answer : Answer) (earlier : List Record)
    → MeetsAnew step answer earlier → AllPairs (λ a b. a ≢ b) (armings_taken earlier)
    → AllPairs (λ a b. a ≢ b) (with_taken step answer earlier (armings_taken earlier))
taken-step (TryConsume at word) (answers.Flag true) earlier anew rest =
    cons_pairs (last_arming_number at earlier) (armings_taken earlier)
    (λ n numbered. untaken at earlier n numbered anew.1) rest
taken-step step answer earlier anew rest = rest

pub taken_differ : (records : List Record)
    → MeetOnce records → AllPairs (λ a b. a ≢ b) (armings_taken records)
taken_differ [] once = λ i j d h k. absurd (omega arith)
taken_differ (latest ∷ earlier) once =
    taken-step latest.step latest.answer earlier once.1 (taken_differ earlier once.0)

-- the armings told of stand in the list
told_below-step : (step : Step) (earlier : List Record) (ps : List ℕ)
    → All (λ p. p < length earlier) ps → All (λ p. p < length earlier) (with_told step earlier ps)
told_below-step (Tell at ticket) earlier ps within =
    cons_below (last_arming_number at earlier) (length earlier) ps (below at earlier) within
told_below-step step earlier ps within = within

told_below : (records : List Record) → All (λ p. p < length records) (armings_told records)
told_below [] = λ k d h. absurd (omega arith)
told_below (latest ∷ earlier) =
    let before = armings_told earlier in
    more (length earlier) (with_told latest.step earlier before)
    (told_below-step latest.step earlier before (told_below earlier))

-- an arming that nobody was told of is none of them
untold-step : (index : ℕ) (step : Step) (answer : Answer) (earlier : List Record) (n : ℕ)
    → number_after index step answer (length earlier) (last_arming_number index earlier) ≡ Some n
    → told_after index step answer (told_at index earlier) ≡ None
    → (last_arming_number index earlier ≡ Some n → told_at index earlier ≡ None
    → All (λ p. n ≢ p) (armings_told earlier))
    → All (λ p. n ≢ p) (with_told step earlier (armings_told earlier))
untold-step index (Insert at word) (answers.Flag true) earlier n numbered free rest =
    elim (eqb_tells at index) [
      | inl same ↦
          let is : Some (length earlier) ≡ Some n = rw same.0 at numbered in
          let number : length earlier ≡ n = cc in
          rw (← number) (differ (length earlier) (armings_told earlier) (told_below earlier))
      | inr apart ↦
          let is : last_arming_number index earlier ≡ Some n = rw apart.0 at numbered in
          let none : told_at index earlier ≡ None = rw apart.0 at free in
          rest is none
    ]
untold-step index (Tell at ticket) answer earlier n numbered free rest =
    elim (eqb_tells at index) [
      | inl same ↦ let none : Some ticket ≡ None = rw same.0 at free in absurd (cc)
      | inr apart ↦
          let none : told_at index earlier ≡ None = rw apart.0 at free in
          cons_apart (last_arming_number at earlier) n (armings_told earlier)
          (apart_at at index earlier n apart.1 numbered) (rest numbered none)
    ]
untold-step index step answer earlier n numbered free rest = rest numbered free

untold : (index : ℕ) (records : List Record) (n : ℕ)
    → last_arming_number index records ≡ Some n → told_at index records ≡ None
    → All (λ p. n ≢ p) (armings_told records)
untold index [] n numbered free = absurd (cc)
untold index (latest ∷ earlier) n numbered free =
    untold-step index latest.step latest.answer earlier n numbered free (untold index earlier n)

-- the armings told of differ
told-step : (step : Step) (answer : Answer) (earlier : List Record)
    → MeetsAnew step answer earlier → AllPairs (λ a b. a ≢ b) (armings_told earlier)
    → AllPairs (λ a b. a ≢ b) (with_told step earlier (armings_told earlier))
told-step (Tell at ticket) answer earlier anew rest =
    cons_pairs (last_arming_number at earlier) (armings_told earlier)
    (λ n numbered. untold at earlier n numbered anew) rest
told-step step answer earlier anew rest = rest

pub told_differ : (records : List Record)
    → MeetOnce records → AllPairs (λ a b. a ≢ b) (armings_told records)
told_differ [] once = λ i j d h k. absurd (omega arith)
told_differ (latest ∷ earlier) once =
    told-step latest.step latest.answer earlier once.1 (told_differ earlier once.0)
