-- No more watchpoints are removed, and no more are told of, than outcomes fall.
use Rattle.std.proofs.Common.{◌≡◌, ◌∙◌, ◌<◌, ◌≤◌, ◌+◌, ◌++◌, ◌∷◌, [], inl, inr, ℕ, zero, suc, Bool}
use Rattle.std.proofs.Common.{true, false, List, MatchBool, None, Option, Some, ap, arith, cond, count_by, length, refl, reverse, sym}
use Rattle.std.proofs.lemmas.Bool.{eq-eqb}
use Rattle.std.proofs.lemmas.Bool.Decides.{eqb_tells}
use Rattle.std.proofs.lemmas.List.{length-append, length-map, reverse-append}
use Rattle.log_correctness.proofs.Sums.{counted, counted_both, of_record}
use Rattle.executions.proofs.execution.CheckFacts.{back}
use Rattle.soundness.specs.Settles.{One, Settles, hears_finder}
use Rattle.soundness.proofs.Falls.{Falls, outcomes_in}
use Rattle.setup_access.specs.Check.{Fallen}
use Rattle.setup_access.specs.declared.outcome.Outcome.{Outcome}
use Rattle.slot.specs.Pair.{Halves}
use Rattle.slot_table.specs.Discipline.{Allows, Discipline, hand_after, heard, heard_after, in_hand}
use Rattle.slot_table.specs.declared.discipline.InHand.{InHand}
use Rattle.slot_table.specs.declared.discipline.Part.{Part}
use Rattle.slot_table.specs.declared.discipline.Part.TheVariants.{Cleared, Hit, Inserted, Named, Taken, Untouched}
use Rattle.slot_table.specs.declared.records.Record.{Record}
use Rattle.slot_table.specs.declared.step.Answer.{Answer}
use Rattle.slot_table.specs.declared.step.Answer.TheVariants as answers
use Rattle.slot_table.specs.declared.step.Step.{Step}
use Rattle.slot_table.specs.declared.step.Step.TheVariants as steps

abbrev pub is_remove : Step → Answer → Bool
is_remove (steps.Remove index) answer = true
is_remove step answer = false

abbrev pub is_tell : Step → Answer → Bool
is_tell (steps.Tell index ticket) answer = true
is_tell step answer = false

-- an arming in hand whose verdict has fallen
abbrev above : ℕ → ℕ
above zero = 0
above (suc n) = 1

abbrev heard_one : Option Halves → ℕ
heard_one None = 0
heard_one (Some both) = above both.finder

abbrev pend_part : Part → Option Halves → ℕ
pend_part (Inserted word) hears = 0
pend_part (Named ticket) hears = 0
pend_part (Taken word) hears = 0
pend_part Untouched hears = 1
pend_part Hit hears = heard_one hears
pend_part Cleared hears = 1

abbrev pend : Option InHand → (ℕ → Option Halves) → ℕ
pend None hears = 0
pend (Some hand) hears = pend_part hand.part (hears hand.index)

hit_hears : (index finder : ℕ) → 0 < finder → hears_finder (Some (record { index = index; part = Hit })) index finder ≡ true
hit_hears index zero more = absurd (omega (arith, more))
hit_hears index (suc finder) more = eq-eqb index index refl

one_long : (Is : Outcome → Type 0) (fell : List Outcome) → One Is fell → length fell ≡ 1
one_long Is fell one = ap (λ (l : List Outcome). length l) one.1

above_one : (n : ℕ) → 0 < n → above n ≡ 1
above_one zero more = absurd (omega (arith, more))
above_one (suc n) more = refl

heard_above : (both : Halves) (hears : Option Halves) → hears ≡ Some both → 0 < both.finder → heard_one hears ≡ 1
heard_above both hears is more = ap heard_one is ∙ above_one both.finder more

at_most_one : (hears : Option Halves) → heard_one hears ≤ 1
at_most_one None = omega arith
at_most_one (Some both) = by_half both.finder
  where
    by_half : (n : ℕ) → above n ≤ 1
    by_half zero = omega arith
    by_half (suc n) = omega arith

module _ (task : ℕ) (own : List Record) (fell : List Outcome) where
  abbrev Few : Step → Answer → Type 0
  Few step answer =
      cond (is_remove step answer) 1 0 + pend (hand_after step answer (in_hand own)) (λ index. heard_after index step answer (heard index own))
      ≤ length fell + pend (in_hand own) (λ index. heard index own)

  inserts : (index word : ℕ) (answer : Answer) → Few (steps.Insert index word) answer
  inserts index word (answers.Flag true) = omega arith
  inserts index word (answers.Flag false) = omega arith
  inserts index word (answers.Word w) = omega arith
  inserts index word (answers.Halves setter finder) = omega arith
  inserts index word answers.Done = omega arith

  tries : (index word : ℕ) (answer : Answer) → Few (steps.TryConsume index word) answer
  tries index word (answers.Flag true) = omega arith
  tries index word (answers.Flag false) = omega arith
  tries index word (answers.Word w) = omega arith
  tries index word (answers.Halves setter finder) = omega arith
  tries index word answers.Done = omega arith

  -- the part in hand
  pends_in : (index : ℕ) (part : Part) → in_hand own ≡ Some (record { index = index; part = part })
      → pend (in_hand own) (λ at. heard at own) ≡ pend_part part (heard index own)
  pends_in index part has = ap (λ (h : Option InHand). pend h (λ at. heard at own)) has

  still_named : (index ticket : ℕ) (answer : Answer) → in_hand own ≡ Some (record { index = index; part = Named ticket })
      → pend (in_hand own) (λ at. heard_after at (steps.Consume index) answer (heard at own)) ≤ length fell + pend (in_hand own) (λ at. heard at own)
  still_named index ticket answer has =
      let none : pend (in_hand own) (λ at. heard_after at (steps.Consume index) answer (heard at own)) ≡ 0 =
      ap (λ (h : Option InHand). pend h (λ at. heard_after at (steps.Consume index) answer (heard at own))) has in omega (arith, none)

  consumes : (index ticket : ℕ) (answer : Answer) → in_hand own ≡ Some (record { index = index; part = Named ticket })
      → Settles (in_hand own) (steps.Consume index) answer fell → Few (steps.Consume index) answer
  consumes index ticket (answers.Flag true) has settles = let one = one_long _ fell settles in omega (arith, one)
  consumes index ticket (answers.Flag false) has settles =
      let none : heard_after index (steps.Consume index) (answers.Flag false) (heard index own) ≡ None = rw (eq-eqb index index refl) refl in
      let unheard : heard_one (heard_after index (steps.Consume index) (answers.Flag false) (heard index own)) ≡ 0 = ap heard_one none ∙ nothing in
      omega (arith, unheard)
    where
      nothing : heard_one None ≡ 0
      nothing = refl
  consumes index ticket (answers.Word w) has settles = let less = still_named index ticket (answers.Word w) has in omega (arith, less)
  consumes index ticket (answers.Halves setter finder) has settles =
      let less = still_named index ticket (answers.Halves setter finder) has in omega (arith, less)
  consumes index ticket answers.Done has settles = let less = still_named index ticket answers.Done has in omega (arith, less)

  clears : (index : ℕ) (answer : Answer) → Allows task own (steps.Clear index) → Few (steps.Clear index) answer
  clears index answer (inl untouched) = let one = pends_in index Untouched untouched in omega (arith, one)
  clears index answer (inr hit) =
      let some = pends_in index Hit hit.0 in
      let one = heard_above hit.1.0 (heard index own) hit.1.1 hit.1.2 in omega (arith, some, one)

  -- a load of the pair of a word that was hit
  loads_hit : (index at setter finder : ℕ) → in_hand own ≡ Some (record { index = at; part = Hit })
      → Settles (in_hand own) (steps.PairLoad index) (answers.Halves setter finder) fell
      → heard_one (heard_after at (steps.PairLoad index) (answers.Halves setter finder) (heard at own)) ≤ length fell + heard_one (heard at own)
  loads_hit index at setter finder has settles = elim (eqb_tells index at) [
    | inl here ↦
        let now : heard_after at (steps.PairLoad index) (answers.Halves setter finder) (heard at own) ≡ Some (record { setter = setter; finder = finder }) =
        rw here.0 refl in
        let same : heard_one (heard_after at (steps.PairLoad index) (answers.Halves setter finder) (heard at own)) ≡ above finder = ap heard_one now ∙ heard_is finder in
        let less = by_finder here.1 finder settles in omega (arith, same, less)
    | inr apart ↦
        let same : heard_one (heard_after at (steps.PairLoad index) (answers.Halves setter finder) (heard at own)) ≡ heard_one (heard at own) =
        ap heard_one (let stays : heard_after at (steps.PairLoad index) (answers.Halves setter finder) (heard at own) ≡ heard at own = rw apart.0 refl in stays) in
        omega (arith, same)
  ]
    where
      heard_is : (n : ℕ) → heard_one (Some (record { setter = setter; finder = n })) ≡ above n
      heard_is n = refl

      one_if : (b : Bool) (Is : Outcome → Type 0) → b ≡ true → MatchBool b (One Is fell) (fell ≡ []) → length fell ≡ 1
      one_if true Is so h = one_long Is fell h
      one_if false Is so h = absurd (cc)

      by_finder : index ≡ at → (n : ℕ) → Settles (in_hand own) (steps.PairLoad index) (answers.Halves setter n) fell → above n ≤ length fell
      by_finder same zero h = omega arith
      by_finder same (suc n) h =
          let hits : in_hand own ≡ Some (record { index = index; part = Hit }) = has ∙ ap (λ (i : ℕ). Some (record { index = i; part = Hit })) (sym same) in
          let yes : hears_finder (in_hand own) index (suc n) ≡ true =
          ap (λ (h : Option InHand). hears_finder h index (suc n)) hits ∙ hit_hears index (suc n) (omega arith) in
          let one = one_if (hears_finder (in_hand own) index (suc n)) _ yes h in omega (arith, one)

  abbrev LoadsIn : ℕ → ℕ → ℕ → Option InHand → Type 0
  LoadsIn index setter finder hand =
      pend hand (λ at. heard_after at (steps.PairLoad index) (answers.Halves setter finder) (heard at own)) ≤ length fell + pend hand (λ at. heard at own)

  loads_part : (index at setter finder : ℕ) (part : Part) → in_hand own ≡ Some (record { index = at; part = part })
      → Settles (in_hand own) (steps.PairLoad index) (answers.Halves setter finder) fell → LoadsIn index setter finder (Some (record { index = at; part = part }))
  loads_part index at setter finder Hit has settles = loads_hit index at setter finder has settles
  loads_part index at setter finder (Inserted word) has settles = omega arith
  loads_part index at setter finder (Named ticket) has settles = omega arith
  loads_part index at setter finder (Taken word) has settles = omega arith
  loads_part index at setter finder Untouched has settles = omega arith
  loads_part index at setter finder Cleared has settles = omega arith

  loads_hand : (index setter finder : ℕ) (hand : Option InHand) → in_hand own ≡ hand
      → Settles (in_hand own) (steps.PairLoad index) (answers.Halves setter finder) fell → LoadsIn index setter finder hand
  loads_hand index setter finder None has settles = omega arith
  loads_hand index setter finder (Some hand) has settles = loads_part index hand.index setter finder hand.part has settles

  loads_pair : (index : ℕ) (answer : Answer) → Settles (in_hand own) (steps.PairLoad index) answer fell → Few (steps.PairLoad index) answer
  loads_pair index (answers.Halves setter finder) settles =
      let less = loads_hand index setter finder (in_hand own) refl settles in omega (arith, less)
  loads_pair index (answers.Word w) settles = omega arith
  loads_pair index (answers.Flag flag) settles = omega arith
  loads_pair index answers.Done settles = omega arith

  one_step : (step : Step) (answer : Answer) → Allows task own step → Settles (in_hand own) step answer fell → Few step answer
  one_step (steps.Insert index word) answer allows settles = inserts index word answer
  one_step (steps.TryConsume index word) answer allows settles = tries index word answer
  one_step (steps.Name index ticket) answer allows settles = omega arith
  one_step (steps.Consume index) answer allows settles = consumes index allows.0 answer allows.1 settles
  one_step (steps.Clear index) answer allows settles = clears index answer allows
  one_step (steps.Remove index) answer allows settles = let one = pends_in index Cleared allows in omega (arith, one)
  one_step (steps.Tell index ticket) answer allows settles = omega arith
  one_step (steps.PairLoad index) answer allows settles = loads_pair index answer settles
  one_step (steps.Load index) answer allows settles = omega arith
  one_step (steps.CellLoad cell) answer allows settles = omega arith
  one_step (steps.CellExchange cell expected new) answer allows settles = omega arith
  one_step (steps.LockTry lock holder) answer allows settles = omega arith
  one_step (steps.LockStore lock) answer allows settles = omega arith
  one_step steps.Clock answer allows settles = omega arith

  one_tell : (step : Step) (answer : Answer) → Settles (in_hand own) step answer fell → cond (is_tell step answer) 1 0 ≤ length fell
  one_tell (steps.Tell index ticket) answer settles = let one = one_long _ fell settles in omega (arith, one)
  one_tell (steps.Insert index word) answer settles = omega arith
  one_tell (steps.TryConsume index word) answer settles = omega arith
  one_tell (steps.Name index ticket) answer settles = omega arith
  one_tell (steps.Consume index) answer settles = omega arith
  one_tell (steps.Clear index) answer settles = omega arith
  one_tell (steps.Remove index) answer settles = omega arith
  one_tell (steps.PairLoad index) answer settles = omega arith
  one_tell (steps.Load index) answer settles = omega arith
  one_tell (steps.CellLoad cell) answer settles = omega arith
  one_tell (steps.CellExchange cell expected new) answer settles = omega arith
  one_tell (steps.LockTry lock holder) answer settles = omega arith
  one_tell (steps.LockStore lock) answer settles = omega arith
  one_tell steps.Clock answer settles = omega arith

-- the first of more records is one that those before it allow
kept_then : (task : ℕ) (later own : List Record) → Discipline task (back later own) → Discipline task own
kept_then task [] own keeps = keeps
kept_then task (first ∷ later) own keeps = (kept_then task later (first ∷ own) keeps).0

removes_few : (task : ℕ) (records own : List Record) (outs : List Fallen) → Falls own records outs → Discipline task (back records own)
    → count_by (of_record is_remove) records ≤ length outs + pend (in_hand own) (λ index. heard index own)
removes_few task [] own outs falls keeps = omega arith
removes_few task (first ∷ later) own outs falls keeps =
    let allows : Allows task own first.step = (kept_then task later (first ∷ own) keeps).1 in
    let rest = removes_few task later (first ∷ own) falls.1 falls.6 keeps in
    let one = counted (of_record is_remove) first later in
    let here : length (outcomes_in falls.0) ≡ length falls.0 = length-map falls.0 (λ (f : Fallen). f.outcome) in
    let all : length outs ≡ length falls.0 + length falls.1 = ap (λ (l : List Fallen). length l) falls.2 ∙ length-append falls.0 falls.1 in
    let now = one_step task own (outcomes_in falls.0) first.step first.answer allows falls.4 in
    omega (arith, rest, one, here, all, now)

tells_few : (records own : List Record) (outs : List Fallen) → Falls own records outs → count_by (of_record is_tell) records ≤ length outs
tells_few [] own outs falls = omega arith
tells_few (first ∷ later) own outs falls =
    let rest = tells_few later (first ∷ own) falls.1 falls.6 in
    let one = counted (of_record is_tell) first later in
    let here : length (outcomes_in falls.0) ≡ length falls.0 = length-map falls.0 (λ (f : Fallen). f.outcome) in
    let all : length outs ≡ length falls.0 + length falls.1 = ap (λ (l : List Fallen). length l) falls.2 ∙ length-append falls.0 falls.1 in
    let now = one_tell 0 own (outcomes_in falls.0) first.step first.answer falls.4 in
    omega (arith, rest, one, here, all, now)

-- from the beginning on
pub few_removes : (task : ℕ) (records : List Record) (outs : List Fallen) → Falls [] records outs → Discipline task (back records [])
    → count_by (of_record is_remove) records ≤ length outs
few_removes task records outs falls keeps = let few = removes_few task records [] outs falls keeps in omega (arith, few)

pub few_tells : (records : List Record) (outs : List Fallen) → Falls [] records outs → count_by (of_record is_tell) records ≤ length outs
few_tells records outs falls = tells_few records [] outs falls

-- in whatever order
pub count_reverse : (p : Step → Answer → Bool) (records : List Record)
    → count_by (of_record p) (reverse records) ≡ count_by (of_record p) records
count_reverse p [] = refl
count_reverse p (first ∷ later) =
    let both : count_by (of_record p) (reverse later ++ first ∷ []) ≡ count_by (of_record p) (reverse later) + count_by (of_record p) (first ∷ []) =
    counted_both (of_record p) (reverse later) (first ∷ []) in
    let turned : count_by (of_record p) (reverse (first ∷ later)) ≡ count_by (of_record p) (reverse later ++ first ∷ []) =
    ap (λ (r : List Record). count_by (of_record p) r) (reverse-append (first ∷ []) later) in
    let rest = count_reverse p later in
    let one = counted (of_record p) first later in
    let alone = counted (of_record p) first [] in omega (arith, both, turned, rest, one, alone)
