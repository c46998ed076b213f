-- While a task has an arming in hand, the word and the name that it last set up are those of this arming.
use Rattle.std.proofs.Common.{◌≡◌, ◌∷◌, [], inl, inr, ℕ, true, false, List, None, Option, Some, refl, subst, sym}
use Rattle.std.specs.Option.{option_or}
use Rattle.std.proofs.lemmas.Bool.{eq-eqb}
use Rattle.log_correctness.proofs.Naming.{last_name}
use Rattle.slot_table.specs.Armings.{Arming, armed_after, last_arming, named_after, named_at}
use Rattle.slot_table.specs.Discipline.{Allows, Discipline, hand_after, in_hand}
use Rattle.slot_table.specs.declared.discipline.InHand.{InHand}
use Rattle.slot_table.specs.declared.discipline.Part.{Part}
use Rattle.slot_table.specs.declared.discipline.Part.TheVariants.{Cleared, Hit, Inserted, Named, Taken, Untouched}
use Rattle.slot_table.specs.declared.records.Record.{Record}
use Rattle.slot_table.specs.declared.step.Answer.{Answer}
use Rattle.slot_table.specs.declared.step.Answer.TheVariants as answers
use Rattle.slot_table.specs.declared.step.Step.{Step}
use Rattle.slot_table.specs.declared.step.Step.TheVariants as steps
use Rattle.task_log.specs.Noted.{armed_by, named_by}

-- the watch word that a task's records, the latest first, last set up
abbrev pub last_word : List Record → Option ℕ
last_word [] = None
last_word (latest ∷ earlier) = option_or (armed_by latest.step latest.answer) (last_word earlier)

-- the last word set up is that of the last arming at the index
abbrev pub IsArmed : Option ℕ → Option Arming → Type 0
IsArmed word arming = (w : ℕ) × (setter : ℕ) × (word ≡ Some w) × (arming ≡ Some (record { setter = setter; word = w }))

-- and the last name is that of the last arming there too
abbrev pub IsNamed : Option ℕ → Option Arming → Option ℕ → Option ℕ → Type 0
IsNamed word arming name named = IsArmed word arming × ((ticket : ℕ) × (name ≡ Some ticket) × (named ≡ Some ticket))

abbrev pub PartSays : Part → Option ℕ → Option Arming → Option ℕ → Option ℕ → Type 0
PartSays (Inserted w) word arming name named = IsArmed word arming
PartSays (Named ticket) word arming name named = IsNamed word arming name named
PartSays Untouched word arming name named = IsNamed word arming name named
PartSays Hit word arming name named = IsNamed word arming name named
PartSays Cleared word arming name named = IsNamed word arming name named
PartSays (Taken w) word arming name named = Unit {0}

abbrev pub HandSays : Option InHand → Option ℕ → (ℕ → Option Arming) → Option ℕ → (ℕ → Option ℕ) → Type 0
HandSays None word arming name named = Unit {0}
HandSays (Some hand) word arming name named = PartSays hand.part word (arming hand.index) name (named hand.index)

-- what is in hand says so of these records
abbrev pub Says : List Record → Type 0
Says own = HandSays (in_hand own) (last_word own) (λ index. last_arming index own) (last_name own) (λ index. named_at index own)

module _ (task : ℕ) (own : List Record) (says : Says own) where
  abbrev After : Step → Answer → Type 0
  After step answer =
      HandSays (hand_after step answer (in_hand own)) (option_or (armed_by step answer) (last_word own))
      (λ index. armed_after index task step answer (last_arming index own)) (option_or (named_by step) (last_name own))
      (λ index. named_after index step answer (named_at index own))

  -- what the part in hand says
  pub in_part : (index : ℕ) (part : Part) → in_hand own ≡ Some (record { index = index; part = part })
      → PartSays part (last_word own) (last_arming index own) (last_name own) (named_at index own)
  in_part index part has =
      subst (λ (h : Option InHand). HandSays h (last_word own) (λ i. last_arming i own) (last_name own) (λ i. named_at i own)) has says

  inserts : (index word : ℕ) (answer : Answer) → After (steps.Insert index word) answer
  inserts index word (answers.Flag true) = (word, task, refl, rw (eq-eqb index index refl) refl)
  inserts index word (answers.Flag false) = says
  inserts index word (answers.Word w) = says
  inserts index word (answers.Halves setter finder) = says
  inserts index word answers.Done = says

  tries : (index word : ℕ) (answer : Answer) → After (steps.TryConsume index word) answer
  tries index word (answers.Flag true) = tt
  tries index word (answers.Flag false) = says
  tries index word (answers.Word w) = says
  tries index word (answers.Halves setter finder) = says
  tries index word answers.Done = says

  consumes : (index : ℕ) (answer : Answer) → (ticket : ℕ) × (in_hand own ≡ Some (record { index = index; part = Named ticket })) → After (steps.Consume index) answer
  consumes index (answers.Flag true) allows = in_part index (Named allows.0) allows.1
  consumes index (answers.Flag false) allows = in_part index (Named allows.0) allows.1
  consumes index (answers.Word w) allows = says
  consumes index (answers.Halves setter finder) allows = says
  consumes index answers.Done allows = says

  names : (index ticket word : ℕ) (answer : Answer) → in_hand own ≡ Some (record { index = index; part = Inserted word }) → After (steps.Name index ticket) answer
  names index ticket word answer has = (in_part index (Inserted word) has, (ticket, refl, rw (eq-eqb index index refl) refl))

  pub one_step : (step : Step) (answer : Answer) → Allows task own step → After step answer
  one_step (steps.Insert index word) answer allows = inserts index word answer
  one_step (steps.TryConsume index word) answer allows = tries index word answer
  one_step (steps.Name index ticket) answer allows = names index ticket allows.1 answer allows.2
  one_step (steps.Consume index) answer allows = consumes index answer allows
  one_step (steps.Clear index) answer allows = elim allows [
    | inl untouched ↦ in_part index Untouched untouched
    | inr hit ↦ in_part index Hit hit.0
  ]
  one_step (steps.Remove index) answer allows = tt
  one_step (steps.Tell index ticket) answer allows = tt
  one_step (steps.Load index) answer allows = says
  one_step (steps.PairLoad index) answer allows = says
  one_step (steps.CellLoad cell) answer allows = says
  one_step (steps.CellExchange cell expected new) answer allows = says
  one_step (steps.LockTry lock holder) answer allows = says
  one_step (steps.LockStore lock) answer allows = says
  one_step steps.Clock answer allows = says

abbrev pub AreOf : ℕ → List Record → Type 0
AreOf task [] = Unit {0}
AreOf task (latest ∷ earlier) = (latest.task ≡ task) × AreOf task earlier

-- so it is of all records of a task that keeps the discipline
pub all_say : (task : ℕ) (own : List Record) → AreOf task own → Discipline task own → Says own
all_say task [] of keeps = tt
all_say task (latest ∷ earlier) of keeps =
    let one = one_step task earlier (all_say task earlier of.1 keeps.0) latest.step latest.answer keeps.1 in
    subst (λ (t : ℕ). HandSays (hand_after latest.step latest.answer (in_hand earlier)) (option_or (armed_by latest.step latest.answer) (last_word earlier))
    (λ index. armed_after index t latest.step latest.answer (last_arming index earlier)) (option_or (named_by latest.step) (last_name earlier))
    (λ index. named_after index latest.step latest.answer (named_at index earlier))) (sym of.0) one
