-- What a task has settled of the arming in its hand, step by step.
use Rattle.std.proofs.Common.{◌≡◌, ◌≢◌, ◌∙◌, ◌⊎◌, ◌<◌, ◌++◌, ◌∷◌, [], inl, inr, ℕ, zero, suc, true, false, List, None, Option, Some, ap, arith, refl, subst, sym}
use Rattle.std.specs.Option.{option_or}
use Rattle.std.proofs.lemmas.Bool.{eq-eqb}
use Rattle.std.proofs.lemmas.Bool.Decides.{eqb_tells}
use Rattle.access_types.specs.Arms.{Arm}
use Rattle.access_types.specs.Ticket.{ticket_number}
use Rattle.access_types.specs.declared.arms.ArmOutcome.{ArmOutcome}
use Rattle.executions.specs.execution.Observed.{OutcomeAt}
use Rattle.log_correctness.specs.Lists.{Became}
use Rattle.soundness.proofs.Falls.{ClearsNext}
use Rattle.slot.specs.Pair.{Halves}
use Rattle.slot_table.specs.Armings.{number_made_after}
use Rattle.slot_table.specs.Discipline.{Allows, hand_after, heard, heard_after, in_hand}
use Rattle.slot_table.specs.declared.discipline.InHand.{InHand}
use Rattle.slot_table.specs.declared.discipline.Part.{Part}
use Rattle.slot_table.specs.declared.discipline.Part.TheVariants.{Cleared, Hit, Inserted, Named, Taken, Untouched}
use Rattle.slot_table.specs.declared.records.Record.{Record}
use Rattle.slot_table.specs.declared.step.Answer.{Answer}
use Rattle.slot_table.specs.declared.step.Answer.TheVariants as answers
use Rattle.slot_table.specs.declared.step.Step.{Step}
use Rattle.slot_table.specs.declared.step.Step.TheVariants as steps
use Rattle.task_log.specs.Noted.{named_by}

-- what is known of a task: the verdicts that fell, the armings that are over, its last name, the number of its last
-- arming at each index, and what last became of one
pub record Known : Type 0 where
  pub verdicts : List OutcomeAt
  pub arms : List Arm
  pub name : Option ℕ
  pub made : ℕ → Option ℕ
  pub kept : Option ArmOutcome

module _ (records : List Record) where
  -- an arming that is over, and the verdict on it
  pub record Suits (arm : Arm) (verdict : OutcomeAt) : Type 0 where
    pub number : ℕ
    pub on : verdict.arming ≡ Some (record { index = arm.index; number = number })
    pub setter : arm.setter ≡ ticket_number verdict.access
    pub became : Became records arm.index number arm.setter verdict.outcome arm.outcome

  abbrev pub Match : List Arm → List OutcomeAt → Type 0
  Match [] [] = Unit {0}
  Match [] (verdict ∷ verdicts) = ⊥
  Match (arm ∷ arms) [] = ⊥
  Match (arm ∷ arms) (verdict ∷ verdicts) = Suits arm verdict × Match arms verdicts

  pub match_with : (arms : List Arm) (verdicts : List OutcomeAt) (arm : Arm) (verdict : OutcomeAt) → Match arms verdicts → Suits arm verdict
      → Match (arms ++ arm ∷ []) (verdicts ++ verdict ∷ [])
  match_with [] [] arm verdict all one = (one, tt)
  match_with [] (other ∷ verdicts) arm verdict all one = absurd all
  match_with (other ∷ arms) [] arm verdict all one = absurd all
  match_with (other ∷ arms) (its ∷ verdicts) arm verdict all one = (all.0, match_with arms verdicts arm verdict all.1 one)

  -- the verdict on the arming in hand has fallen
  pub record Pending (index : ℕ) (known : Known) : Type 0 where
    pub older : List OutcomeAt
    pub verdict : OutcomeAt
    pub all_are : known.verdicts ≡ older ++ verdict ∷ []
    pub matched : Match known.arms older
    pub number : ℕ
    pub made : known.made index ≡ Some number
    pub on : verdict.arming ≡ Some (record { index = index; number = number })
    pub named : known.name ≡ Some (ticket_number verdict.access)
    pub outcome : ArmOutcome
    pub kept : known.kept ≡ Some outcome
    pub became : Became records index number (ticket_number verdict.access) verdict.outcome outcome

  -- all armings that had a verdict are over
  abbrev pub Settled : Known → Type 0
  Settled known = Match known.arms known.verdicts

  -- of a word that was hit the verdict falls as the finder is heard
  abbrev pub HitSays : Option Halves → ℕ → Known → Type 0
  HitSays None index known = Settled known
  HitSays (Some both) index known = ((both.finder ≡ 0) × Settled known) ⊎ ((0 < both.finder) × Pending index known)

  abbrev pub PartSays : Part → ℕ → (ℕ → Option Halves) → Known → Type 0
  PartSays (Inserted word) index hears known = Settled known
  PartSays (Named ticket) index hears known = Settled known
  PartSays (Taken word) index hears known = Settled known
  PartSays Untouched index hears known = Pending index known
  PartSays Hit index hears known = HitSays (hears index) index known
  PartSays Cleared index hears known = Pending index known

  abbrev pub HandSays : Option InHand → (ℕ → Option Halves) → Known → Type 0
  HandSays None hears known = Settled known
  HandSays (Some hand) hears known = PartSays hand.part hand.index hears known

  -- after a step at which no verdict falls and no arming is removed
  module _ (task : ℕ) (own : List Record) (known : Known) (number : ℕ)
      (says : HandSays (in_hand own) (λ index. heard index own) known) where
    abbrev pub after : Step → Answer → Known
    after step answer = record {
      verdicts = known.verdicts;
      arms = known.arms;
      name = option_or (named_by step) known.name;
      made = λ index. number_made_after task index task step answer number (known.made index);
      kept = known.kept;
    }

    abbrev pub After : Step → Answer → Type 0
    After step answer =
        HandSays (hand_after step answer (in_hand own)) (λ index. heard_after index step answer (heard index own)) (after step answer)

    -- what the hand says
    pub in_hand_says : (hand : Option InHand) → in_hand own ≡ hand → HandSays hand (λ index. heard index own) known
    in_hand_says hand has = subst (λ (h : Option InHand). HandSays h (λ index. heard index own) known) has says

    inserts : (index word : ℕ) (answer : Answer) → in_hand own ≡ None → After (steps.Insert index word) answer
    inserts index word (answers.Flag true) has = in_hand_says None has
    inserts index word (answers.Flag false) has = says
    inserts index word (answers.Word w) has = says
    inserts index word (answers.Halves setter finder) has = says
    inserts index word answers.Done has = says

    tries : (index word : ℕ) (answer : Answer) → in_hand own ≡ None → After (steps.TryConsume index word) answer
    tries index word (answers.Flag true) has = in_hand_says None has
    tries index word (answers.Flag false) has = says
    tries index word (answers.Word w) has = says
    tries index word (answers.Halves setter finder) has = says
    tries index word answers.Done has = says

    named_still : (index ticket : ℕ) (answer : Answer) → in_hand own ≡ Some (record { index = index; part = Named ticket })
        → HandSays (in_hand own) (λ at. heard_after at (steps.Consume index) answer (heard at own)) (after (steps.Consume index) answer)
    named_still index ticket answer has =
        subst (λ (h : Option InHand). HandSays h (λ at. heard_after at (steps.Consume index) answer (heard at own)) (after (steps.Consume index) answer)) (sym has)
        (in_hand_says (Some (record { index = index; part = Named ticket })) has)

    consumes : (index ticket : ℕ) (answer : Answer) → in_hand own ≡ Some (record { index = index; part = Named ticket })
        → answer ≢ answers.Flag true → After (steps.Consume index) answer
    consumes index ticket (answers.Flag true) has other = absurd (other refl)
    consumes index ticket (answers.Flag false) has other =
        subst (λ (h : Option Halves). HitSays h index known) (let none : None ≡ heard_after index (steps.Consume index) (answers.Flag false) (heard index own) =
        rw (eq-eqb index index refl) refl in none)
        (in_hand_says (Some (record { index = index; part = Named ticket })) has)
    consumes index ticket (answers.Word w) has other = named_still index ticket (answers.Word w) has
    consumes index ticket (answers.Halves setter finder) has other = named_still index ticket (answers.Halves setter finder) has
    consumes index ticket answers.Done has other = named_still index ticket answers.Done has

    -- a setter that was hit and heard its finder
    heard_pends : (index : ℕ) (both : Halves) (hears : Option Halves) → hears ≡ Some both → 0 < both.finder → HitSays hears index known
        → Pending index known
    heard_pends index both hears is above h = elim (subst (λ (o : Option Halves). HitSays o index known) is h) [
      | inl none ↦ let zero_half : both.finder ≡ 0 = none.0 in absurd (omega (arith, zero_half, above))
      | inr some ↦ some.1
    ]

    pub unheard_settled : (index : ℕ) (hears : Option Halves) → ((both : Halves) → hears ≡ Some both → 0 < both.finder → ⊥)
        → HitSays hears index known
        → Settled known
    unheard_settled index None never h = h
    unheard_settled index (Some both) never h = elim h [ inl none ↦ none.1 | inr some ↦ absurd (never both refl some.0) ]

    clears : (index : ℕ) (answer : Answer) → Allows task own (steps.Clear index) → After (steps.Clear index) answer
    clears index answer (inl untouched) = in_hand_says (Some (record { index = index; part = Untouched })) untouched
    clears index answer (inr hit) =
        heard_pends index hit.1.0 (heard index own) hit.1.1 hit.1.2 (in_hand_says (Some (record { index = index; part = Hit })) hit.0)

    -- a load of a pair by which no finder is heard
    abbrev Silent : ℕ → ℕ → Type 0
    Silent index finder = in_hand own ≡ Some (record { index = index; part = Hit }) → 0 < finder → ⊥

    loads_hit : (index at setter finder : ℕ) → in_hand own ≡ Some (record { index = at; part = Hit }) → Silent index finder
        → ClearsNext own (steps.PairLoad index)
        → HitSays (heard_after at (steps.PairLoad index) (answers.Halves setter finder) (heard at own)) at known
    loads_hit index at setter finder has silent next =
        let before : HitSays (heard at own) at known = in_hand_says (Some (record { index = at; part = Hit })) has in
        let settled : Settled known = unheard_settled at (heard at own)
        (λ both is above. let no : steps.PairLoad index ≡ steps.Clear at = next at has (both, is, above) in cc) before in
        elim (eqb_tells index at) [
          | inl here ↦ by_finder here.1 settled finder silent (rw here.0 refl)
          | inr apart ↦ subst (λ (h : Option Halves). HitSays h at known) (let same : heard at own ≡ heard_after at (steps.PairLoad index)
              (answers.Halves setter finder) (heard at own) = rw apart.0 refl in same) before
        ]
      where
        by_finder : index ≡ at → Settled known → (half : ℕ) → Silent index half
            → Some (record { setter = setter; finder = half }) ≡ heard_after at (steps.PairLoad index) (answers.Halves setter half) (heard at own)
            → HitSays (heard_after at (steps.PairLoad index) (answers.Halves setter half) (heard at own)) at known
        by_finder same settled zero never is = subst (λ (h : Option Halves). HitSays h at known) is (inl (refl, settled))
        by_finder same settled (suc more) never is =
            absurd (never (has ∙ ap (λ (i : ℕ). Some (record { index = i; part = Hit })) (sym same)) (omega arith))

    abbrev LoadsIn : ℕ → ℕ → ℕ → Option InHand → Type 0
    LoadsIn index setter finder hand =
        HandSays hand (λ at. heard_after at (steps.PairLoad index) (answers.Halves setter finder) (heard at own)) known

    loads_part : (index at setter finder : ℕ) (part : Part) → in_hand own ≡ Some (record { index = at; part = part }) → Silent index finder
        → ClearsNext own (steps.PairLoad index) → LoadsIn index setter finder (Some (record { index = at; part = part }))
    loads_part index at setter finder Hit has silent next = loads_hit index at setter finder has silent next
    loads_part index at setter finder (Inserted word) has silent next =
        in_hand_says (Some (record { index = at; part = Inserted word })) has
    loads_part index at setter finder (Named ticket) has silent next = in_hand_says (Some (record { index = at; part = Named ticket })) has
    loads_part index at setter finder (Taken word) has silent next = in_hand_says (Some (record { index = at; part = Taken word })) has
    loads_part index at setter finder Untouched has silent next = in_hand_says (Some (record { index = at; part = Untouched })) has
    loads_part index at setter finder Cleared has silent next = in_hand_says (Some (record { index = at; part = Cleared })) has

    loads_hand : (index setter finder : ℕ) (hand : Option InHand) → in_hand own ≡ hand → Silent index finder
        → ClearsNext own (steps.PairLoad index)
        → LoadsIn index setter finder hand
    loads_hand index setter finder None has silent next = in_hand_says None has
    loads_hand index setter finder (Some hand) has silent next = loads_part index hand.index setter finder hand.part has silent next

    loads_pair : (index : ℕ) (answer : Answer)
        → ((setter finder : ℕ) → answer ≡ answers.Halves setter finder → Silent index finder) → ClearsNext own (steps.PairLoad index)
        → After (steps.PairLoad index) answer
    loads_pair index (answers.Halves setter finder) silent next =
        loads_hand index setter finder (in_hand own) refl (silent setter finder refl) next
    loads_pair index (answers.Word w) silent next = says
    loads_pair index (answers.Flag flag) silent next = says
    loads_pair index answers.Done silent next = says

    -- no verdict falls at the step
    pub record IsSilent (step : Step) (answer : Answer) : Type 0 where
      pub consumes : (index : ℕ) → step ≡ steps.Consume index → answer ≢ answers.Flag true
      pub hears : (index setter finder : ℕ) → step ≡ steps.PairLoad index → answer ≡ answers.Halves setter finder → Silent index finder
      pub removes : (index : ℕ) → step ≢ steps.Remove index

    pub silently : (step : Step) (answer : Answer) → Allows task own step → ClearsNext own step → IsSilent step answer → After step answer
    silently (steps.Insert index word) answer allows next silent = inserts index word answer allows.1
    silently (steps.TryConsume index word) answer allows next silent = tries index word answer allows.2
    silently (steps.Name index ticket) answer allows next silent =
        in_hand_says (Some (record { index = index; part = Inserted allows.1 })) allows.2
    silently (steps.Consume index) answer allows next silent = consumes index allows.0 answer allows.1 (silent.consumes index refl)
    silently (steps.Clear index) answer allows next silent = clears index answer allows
    silently (steps.Remove index) answer allows next silent = absurd (silent.removes index refl)
    silently (steps.Tell index ticket) answer allows next silent =
        in_hand_says (Some (record { index = index; part = Taken allows.1.0 })) allows.1.1
    silently (steps.PairLoad index) answer allows next silent =
        loads_pair index answer (λ setter finder is. silent.hears index setter finder refl is) next
    silently (steps.Load index) answer allows next silent = says
    silently (steps.CellLoad cell) answer allows next silent = says
    silently (steps.CellExchange cell expected new) answer allows next silent = says
    silently (steps.LockTry lock holder) answer allows next silent = says
    silently (steps.LockStore lock) answer allows next silent = says
    silently steps.Clock answer allows next silent = says

-- what is in hand says the same where the numbers of armings stay
pub carried : (records : List Record) (hand : Option InHand) (hears : ℕ → Option Halves) (known : Known) (made : ℕ → Option ℕ)
    → ((index number : ℕ) → known.made index ≡ Some number → made index ≡ Some number) → HandSays records hand hears known
    → HandSays records hand hears (record known { made = made })
carried records None hears known made stays says = says
carried records (Some hand) hears known made stays says = in_part hand.part says
  where
    pends : (index : ℕ) → Pending records index known → Pending records index (record known { made = made })
    pends index h = record {
      older = h.older;
      verdict = h.verdict;
      all_are = h.all_are;
      matched = h.matched;
      number = h.number;
      made = stays index h.number h.made;
      on = h.on;
      named = h.named;
      outcome = h.outcome;
      kept = h.kept;
      became = h.became;
    }

    in_hit : (heard_so : Option Halves) → HitSays records heard_so hand.index known → HitSays records heard_so hand.index (record known { made = made })
    in_hit None h = h
    in_hit (Some both) h = elim h [ inl none ↦ inl none | inr some ↦ inr (some.0, pends hand.index some.1) ]

    in_part : (part : Part) → PartSays records part hand.index hears known → PartSays records part hand.index hears (record known { made = made })
    in_part (Inserted word) h = h
    in_part (Named ticket) h = h
    in_part (Taken word) h = h
    in_part Untouched h = pends hand.index h
    in_part Hit h = in_hit (hears hand.index) h
    in_part Cleared h = pends hand.index h
