-- How often a number stands in what was told or heard, and which outcomes are answers.
use Rattle.std.proofs.Common.{◌≡◌, ◌≢◌, ◌<◌, ◌≤◌, ◌==◌, ◌&&◌, ◌⊎◌, ◌+◌, ◌∙◌, ◌∷◌, [], inl, inr, ℕ, zero, suc, Bool, true, false, List, Option, None}
use Rattle.std.proofs.Common.{Some, Contains, ap, arith, cond, length, map, refl, subst, sym}
use Rattle.std.specs.List.{AllPairs, filter}
use Rattle.std.specs.Option.{option_map}
use Rattle.std.specs.Prelude.{slice_index_or}
use Rattle.std.proofs.lemmas.Bool.{eq-eqb, ne_eqb}
use Rattle.std.proofs.lemmas.Bool.Decides.{eqb_tells}
use Rattle.executions.specs.execution.Answers.{is_answer}
use Rattle.executions.specs.execution.Observed.{Armed, OutcomeAt, outcome_at}
use Rattle.setup_access.specs.Check.{Fallen}
use Rattle.setup_access.specs.declared.outcome.Outcome.{Outcome}
use Rattle.setup_access.specs.declared.outcome.Outcome.TheVariants as outcomes
use Rattle.slot.specs.Pair.{Halves}
use Rattle.slot_table.specs.Meetings.{Meeting, meetings_at, numbers_met}
use Rattle.slot_table.specs.declared.discipline.InHand.{InHand}
use Rattle.slot_table.specs.declared.discipline.Part.{Part}
use Rattle.slot_table.specs.declared.discipline.Part.TheVariants as parts
use Rattle.slot_table.specs.declared.step.Answer.{Answer}
use Rattle.slot_table.specs.declared.step.Answer.TheVariants as answers
use Rattle.slot_table.specs.declared.step.Step.{Step}
use Rattle.slot_table.specs.declared.step.Step.TheVariants.{Consume, Insert, Load, PairLoad, Tell, TryConsume}
use Rattle.slot_table.proofs.Phases as phases
use Rattle.slot_table.proofs.Phases.{Fits, View, told_in}
use Rattle.soundness.specs.Settles.{AnswersTo, IsUntouched, IsUnwatched, One, OneAtMost, Settles, TellsOf, hears_finder, is_hit}
use Rattle.soundness.specs.Takings as spec
use Rattle.soundness.proofs.Falls.{outcomes_in}

-- how many of these meetings are of an arming's number
abbrev pub times : ℕ → List Meeting → ℕ
times n meetings = length (filter (λ met. met.number == n) meetings)

one_longer : {X : Type 0} (b : Bool) (x : X) (xs : List X) → length (cond b (x ∷ xs) xs) ≡ cond b 1 0 + length xs
one_longer true x xs = let same : suc (length xs) ≡ 1 + length xs = omega arith in same
one_longer false x xs = let same : length xs ≡ 0 + length xs = omega arith in same

pub times_more : (n number : ℕ) (met : Meeting) (meetings : List Meeting) → met.number ≡ number
    → times n (met ∷ meetings) ≡ cond (number == n) 1 0 + times n meetings
times_more n number met meetings is =
    one_longer (met.number == n) met (filter (λ (m : Meeting). m.number == n) meetings) ∙ ap (λ (k : ℕ). cond (k == n) 1 0 + times n meetings) is

pub covers : (n index number : ℕ) (phase : phases.Phase) (heard : List Meeting) → times n heard ≤ times n (told_in index number phase heard)
covers n index number (phases.NamedTold finder ticket telling) heard =
    let more = times_more n number (phases.meeting index number ticket telling) heard refl in omega (arith, more)
covers n index number (phases.HitTold finder ticket telling) heard =
    let more = times_more n number (phases.meeting index number ticket telling) heard refl in omega (arith, more)
covers n index number phase heard = omega arith

pub told_covers : (n index : ℕ) (v : View) → Fits index v → times n v.heard ≤ times n v.told
told_covers n index v (hears, inl idle) = let same : times n v.told ≡ times n v.heard = ap (times n) idle.told in omega (arith, same)
told_covers n index v (hears, inr (phase, h)) =
    let same : times n v.told ≡ times n (told_in index h.number phase v.heard) = ap (times n) h.told in
    let less = covers n index h.number phase v.heard in omega (arith, same, less)

-- a meeting stands among those of its number at its index
pub fewer_of : (p q : Bool) (x : Meeting) (n index : ℕ) (xs : List Meeting) → (x.number == n) ≡ p → (x.index == index) ≡ q
    → times n (meetings_at index xs) ≤ times n (meetings_at index (x ∷ xs))
fewer_of true true x n index xs is there = rw (there, is) (omega arith)
fewer_of false true x n index xs is there = rw (there, is) (omega arith)
fewer_of p false x n index xs is there = rw there (omega arith)

pub stands_once : (xs : List Meeting) (met : Meeting) → Contains xs met → 1 ≤ times met.number (meetings_at met.index xs)
stands_once [] met h = let none : h.0 < 0 = h.1 in absurd (omega (arith, none))
stands_once (x ∷ xs) met (zero, below, is) =
    rw (eq-eqb x.index met.index (ap (λ (m : Meeting). m.index) is), eq-eqb x.number met.number (ap (λ (m : Meeting). m.number) is)) (omega arith)
stands_once (x ∷ xs) met (suc k, below, is) =
    let rest = stands_once xs met (k, let it : suc k < suc (length xs) = below in omega (arith, it), is) in
    let more = fewer_of (x.number == met.number) (x.index == met.index) x met.number met.index xs refl refl in omega (arith, rest, more)

-- where all numbers differ, no number stands twice
none_left : (xs : List Meeting) (n index : ℕ) → ((j d : ℕ) → j < length (numbers_met xs) → n ≢ slice_index_or (numbers_met xs) j d)
    → times n (meetings_at index xs) ≡ 0
none_left [] n index apart = refl
none_left (x ∷ xs) n index apart =
    let rest = none_left xs n index (λ j d below. apart (suc j) d (omega (arith, below))) in
    let other : x.number ≢ n = λ is. apart 0 0 (omega arith) (sym is) in
    elim (eqb_tells x.index index) [
      | inl here ↦ rw (here.0, ne_eqb x.number n other) rest
      | inr elsewhere ↦ rw elsewhere.0 rest
    ]

pub once_at_most : (xs : List Meeting) (n index : ℕ) → AllPairs (λ a b. a ≢ b) (numbers_met xs) → times n (meetings_at index xs) ≤ 1
once_at_most [] n index differ = omega arith
once_at_most (x ∷ xs) n index differ =
    let rest = once_at_most xs n index (λ i j d less below. differ (suc i) (suc j) d (omega (arith, less)) (omega (arith, below))) in
    elim (eqb_tells x.index index) [
      | inl here ↦ elim (eqb_tells x.number n) [
        | inl same ↦
            let none : times n (meetings_at index xs) ≡ 0 =
            none_left xs n index (λ j d below. subst (λ (k : ℕ). k ≢ slice_index_or (numbers_met xs) j d) same.1
            (differ 0 (suc j) d (omega arith) (omega (arith, below)))) in
            rw (here.0, same.0) (omega (arith, none))
        | inr apart ↦ rw (here.0, apart.0) rest
      ]
      | inr elsewhere ↦ rw elsewhere.0 rest
    ]

-- none of these outcomes is an answer
abbrev pub NoAnswer : List Outcome → Type 0
NoAnswer [] = Unit {0}
NoAnswer (outcome ∷ others) = (is_answer outcome ≡ false) × NoAnswer others

-- an answer fell, at the load by which a setter hears its finder
pub record Answered (hand : Option InHand) (step : Step) (answer : Answer) (fell : List Outcome) : Type 0 where
  pub index : ℕ
  pub setter : ℕ
  pub finder : ℕ
  pub step_is : step ≡ PairLoad index
  pub answer_is : answer ≡ answers.Halves setter finder
  pub has : hand ≡ Some (record { index = index; part = parts.Hit })
  pub above : 0 < finder
  pub outcome : Outcome
  pub only : fell ≡ outcome ∷ []
  pub answers : is_answer outcome ≡ true

pub record Unanswered (hand : Option InHand) (step : Step) (answer : Answer) (fell : List Outcome) : Type 0 where
  pub none : NoAnswer fell
  pub silent : (index setter finder : ℕ) → step ≡ PairLoad index → answer ≡ answers.Halves setter finder
      → hand ≡ Some (record { index = index; part = parts.Hit }) → 0 < finder → ⊥

no_fell : (fell : List Outcome) → fell ≡ [] → NoAnswer fell
no_fell fell is = subst NoAnswer (sym is) tt

one_fell : (fell : List Outcome) (outcome : Outcome) → fell ≡ outcome ∷ [] → is_answer outcome ≡ false → NoAnswer fell
one_fell fell outcome is none = subst NoAnswer (sym is) (none, tt)

pub unwatched_none : (outcome : Outcome) → IsUnwatched outcome → is_answer outcome ≡ false
unwatched_none outcomes.Nothing is = refl
unwatched_none outcomes.Unencodable is = refl
unwatched_none outcome is = absurd is

pub untouched_none : (outcome : Outcome) → IsUntouched outcome → is_answer outcome ≡ false
untouched_none outcomes.Quiet is = refl
untouched_none (outcomes.Unknown old new) is = refl
untouched_none outcome is = absurd is

pub tells_none : (ticket : ℕ) (outcome : Outcome) → TellsOf ticket outcome → is_answer outcome ≡ false
tells_none ticket (outcomes.Told pair) is = refl
tells_none ticket outcome is = absurd is

pub answers_all : (both : Halves) (outcome : Outcome) → AnswersTo both outcome → is_answer outcome ≡ true
answers_all both (outcomes.Report pair seen) is = refl
answers_all both (outcomes.Dropped reason) is = refl
answers_all both outcome is = absurd is

at_most_none : (Is : Outcome → Type 0) → ((outcome : Outcome) → Is outcome → is_answer outcome ≡ false) → (fell : List Outcome) → OneAtMost Is fell
    → NoAnswer fell
at_most_none Is none fell (inl empty) = no_fell fell empty
at_most_none Is none fell (inr one) = one_fell fell one.0 one.1 (none one.0 one.2)

-- a task with a part at an index
abbrev pub hand_with : ℕ → Part → Option InHand
hand_with index part = Some (record { index = index; part = part })

hit_there : (at index : ℕ) (part : Part) → (is_hit part && at == index) ≡ true → hand_with at part ≡ hand_with index parts.Hit
hit_there at index parts.Hit is = elim (eqb_tells at index) [
  | inl here ↦ ap (λ (i : ℕ). hand_with i parts.Hit) here.1
  | inr apart ↦ absurd (let both : false ≡ true = sym apart.0 ∙ is in cc)
]
hit_there at index (parts.Inserted word) is = absurd (cc)
hit_there at index (parts.Named ticket) is = absurd (cc)
hit_there at index parts.Untouched is = absurd (cc)
hit_there at index parts.Cleared is = absurd (cc)
hit_there at index (parts.Taken word) is = absurd (cc)

hears_hit : (hand : Option InHand) (index finder : ℕ) → hears_finder hand index finder ≡ true
    → (hand ≡ Some (record { index = index; part = parts.Hit })) × (0 < finder)
hears_hit None index finder is = absurd (cc)
hears_hit (Some hand) index zero is = absurd (cc)
hears_hit (Some hand) index (suc finder) is = (hit_there hand.index index hand.part is, omega arith)

hit_hears : (index finder : ℕ) → 0 < finder → hears_finder (Some (record { index = index; part = parts.Hit })) index finder ≡ true
hit_hears index zero above = absurd (omega (arith, above))
hit_hears index (suc finder) above = eq-eqb index index refl

halves_of : Answer → Halves
halves_of (answers.Halves setter finder) = record { setter = setter; finder = finder }
halves_of answer = record { setter = 0; finder = 0 }

loaded_at : Step → ℕ
loaded_at (PairLoad index) = index
loaded_at step = 0

by_hearing : (hand : Option InHand) (at setter finder : ℕ) (fell : List Outcome) (b : Bool) → hears_finder hand at finder ≡ b
    → Settles hand (PairLoad at) (answers.Halves setter finder) fell
    → Unanswered hand (PairLoad at) (answers.Halves setter finder) fell ⊎ Answered hand (PairLoad at) (answers.Halves setter finder) fell
unfolding halves_of loaded_at
by_hearing hand at setter finder fell true is h =
    let one : One (AnswersTo (record { setter = setter; finder = finder })) fell = rw is at h in
    let hit = hears_hit hand at finder is in
    inr (record {
      index = at;
      setter = setter;
      finder = finder;
      step_is = refl;
      answer_is = refl;
      has = hit.0;
      above = hit.1;
      outcome = one.0;
      only = one.1;
      answers = answers_all (record { setter = setter; finder = finder }) one.0 one.2;
    })
by_hearing hand at setter finder fell false is h =
    let none : fell ≡ [] = rw is at h in
    inl (record {
      none = no_fell fell none;
      silent = λ index s f step_is answer_is has above.
          let same : at ≡ index = ap loaded_at step_is in
          let other : finder ≡ f = ap (λ (a : Answer). (halves_of a).finder) answer_is in
          let hears : hears_finder hand index f ≡ true = ap (λ (x : Option InHand). hears_finder x index f) has ∙ hit_hears index f above in
          let here : hears_finder hand at finder ≡ true =
          ap (λ (i : ℕ). hears_finder hand i finder) same ∙ (ap (λ (k : ℕ). hears_finder hand index k) other ∙ hears) in
          let both : false ≡ true = sym is ∙ here in absurd (cc);
    })

pub fell_cases : (hand : Option InHand) (step : Step) (answer : Answer) (fell : List Outcome) → Settles hand step answer fell
    → Unanswered hand step answer fell ⊎ Answered hand step answer fell
fell_cases hand (PairLoad index) (answers.Halves setter finder) fell h = by_hearing hand index setter finder fell (hears_finder hand index finder) refl h
fell_cases hand (PairLoad index) answer fell h = inl (record { none = no_fell fell h; silent = λ index s f step_is answer_is has above. absurd (cc) })
fell_cases hand (Load index) answer fell h =
    inl (record { none = at_most_none IsUnwatched unwatched_none fell h; silent = λ index s f step_is answer_is has above. absurd (cc) })
fell_cases hand (Insert index word) (answers.Flag false) fell h = inl (record {
  none = at_most_none (λ (o : Outcome). o ≡ outcomes.Capacity) (λ o is. ap is_answer is) fell h;
  silent = λ index s f step_is answer_is has above. absurd (cc);
})
fell_cases hand (TryConsume index word) (answers.Flag false) fell h =
    inl (record { none = one_fell fell h.0 h.1 (ap is_answer h.2); silent = λ index s f step_is answer_is has above. absurd (cc) })
fell_cases hand (Consume index) (answers.Flag true) fell h =
    inl (record { none = one_fell fell h.0 h.1 (untouched_none h.0 h.2); silent = λ index s f step_is answer_is has above. absurd (cc) })
fell_cases hand (Tell index ticket) answer fell h =
    inl (record { none = one_fell fell h.0 h.1 (tells_none ticket h.0 h.2); silent = λ index s f step_is answer_is has above. absurd (cc) })
fell_cases hand step answer fell h = inl (record { none = no_fell fell h; silent = λ index s f step_is answer_is has above. absurd (cc) })

-- how many of the outcomes of a record answer the taking of an arming
module _ (index n : ℕ) where
  abbrev pub its : List OutcomeAt → List OutcomeAt
  its outs = filter (spec.answers index n) outs

  pub none_its : (count : ℕ) (arming : Option Armed) (here : List Fallen) → NoAnswer (outcomes_in here) → its (map (outcome_at count arming) here) ≡ []
  none_its count arming [] none = refl
  none_its count arming (fallen ∷ here) none = rw none.0 (none_its count arming here none.1)

  elsewhere_its : (count at number : ℕ) (fallen : Fallen) (b : Bool) → is_answer fallen.outcome ≡ b → at ≢ index
      → its (outcome_at count (Some (record { index = at; number = number })) fallen ∷ []) ≡ []
  elsewhere_its count at number fallen true is apart = rw (is, ne_eqb at index apart) refl
  elsewhere_its count at number fallen false is apart = rw is refl

  unarmed_its : (count : ℕ) (fallen : Fallen) (b : Bool) → is_answer fallen.outcome ≡ b → its (outcome_at count None fallen ∷ []) ≡ []
  unarmed_its count fallen true is = rw is refl
  unarmed_its count fallen false is = rw is refl

  pub elsewhere_alone : (count : ℕ) (arming : Option Armed) (at : ℕ) (last : Option ℕ) (fallen : Fallen) → at ≢ index
      → arming ≡ option_map (λ (x : ℕ). record { index = at; number = x }) last → length (its (outcome_at count arming fallen ∷ [])) ≡ 0
  elsewhere_alone count arming at None fallen apart is =
      ap (λ (a : Option Armed). length (its (outcome_at count a fallen ∷ []))) is
      ∙ ap (λ (l : List OutcomeAt). length l) (unarmed_its count fallen (is_answer fallen.outcome) refl)
  elsewhere_alone count arming at (Some number) fallen apart is =
      ap (λ (a : Option Armed). length (its (outcome_at count a fallen ∷ []))) is
      ∙ ap (λ (l : List OutcomeAt). length l) (elsewhere_its count at number fallen (is_answer fallen.outcome) refl apart)

  pub one_its : (count number : ℕ) (fallen : Fallen) → is_answer fallen.outcome ≡ true
      → length (its (outcome_at count (Some (record { index = index; number = number })) fallen ∷ [])) ≡ cond (number == n) 1 0
  one_its count number fallen is =
      rw (is, eq-eqb index index refl) (one_longer (number == n) (outcome_at count (Some (record { index = index; number = number })) fallen) [] ∙ plus_none
      (number == n))
    where
      plus_none : (b : Bool) → cond b 1 0 + 0 ≡ cond b 1 0
      plus_none true = refl
      plus_none false = refl
