-- Each arming that was hit has its finder heard once.
use Rattle.std.proofs.Common.{◌≡◌, ◌<◌, ◌+◌, ◌==◌, ◌∷◌, ◌++◌, ◌∙◌, [], inl, inr, ℕ, zero, suc, Bool, true, false, List, Option, None, Some, ap, append_assoc, arith, cond, refl, subst, sym}
use Rattle.std.proofs.lemmas.Bool.{eq-eqb, ne_eqb}
use Rattle.std.proofs.lemmas.Bool.Decides.{eqb_tells}
use Rattle.slot.specs.Pair.{Halves}
use Rattle.slot_table.specs.Discipline.{Allows, Discipline, IsFinished, hand_after, heard, heard_after, in_hand}
use Rattle.slot_table.specs.Records.{records_of}
use Rattle.slot_table.specs.declared.discipline.InHand.{InHand}
use Rattle.slot_table.specs.declared.discipline.Part.{Part}
use Rattle.slot_table.specs.declared.discipline.Part.TheVariants.{Hit}
use Rattle.slot_table.specs.declared.discipline.Part.TheVariants as parts
use Rattle.slot_table.specs.declared.records.Record.{Record}
use Rattle.slot_table.specs.declared.step.Answer.{Answer}
use Rattle.slot_table.specs.declared.step.Answer.TheVariants as answers
use Rattle.slot_table.specs.declared.step.Step.{Step}
use Rattle.slot_table.specs.declared.step.Step.TheVariants.{Clear, Consume, Insert, Name, PairLoad, Remove, Tell, TryConsume}
use Rattle.task_log.specs.Counters.{is_taken}
use Rattle.executions.specs.execution.Run.{Run}
use Rattle.executions.specs.execution.Execution.{Execution}
use Rattle.executions.proofs.execution.OwnLasts.{own_latest}
use Rattle.soundness.specs.Settles.{hears_finder, is_hit}
use Rattle.soundness.proofs.Falls.{ClearsNext}
use Rattle.soundness.proofs.Lists.{settled_at}
use Rattle.soundness.proofs.Weights.{Weight, of_step, weigh_own}

-- a setter hears its finder
abbrev pub hears_now : Step → Answer → Option InHand → Bool
hears_now (PairLoad index) (answers.Halves setter finder) hand = hears_finder hand index finder
hears_now step answer hand = false

abbrev pub of_hearing : Weight
of_hearing latest own = cond (hears_now latest.step latest.answer (in_hand own)) 1 0

-- a setter whose word was hit has not heard of its finder yet
abbrev none_of : ℕ → ℕ
none_of zero = 1
none_of (suc finder) = 0

abbrev unheard : Option Halves → ℕ
unheard None = 1
unheard (Some both) = none_of both.finder

abbrev awaits : Part → Option Halves → ℕ
awaits Hit both = unheard both
awaits part both = 0

abbrev waiting : Option InHand → (ℕ → Option Halves) → ℕ
waiting None both = 0
waiting (Some hand) both = awaits hand.part (both hand.index)

abbrev heard_of : List Record → ℕ → Option Halves
heard_of own index = heard index own

abbrev heard_next : List Record → Step → Answer → ℕ → Option Halves
heard_next own step answer index = heard_after index step answer (heard index own)

none_above : (n : ℕ) → 0 < n → none_of n ≡ 0
none_above zero above = absurd (omega (arith, above))
none_above (suc n) above = refl

-- who has heard its finder clears, so who loads has not heard
still_none : (own : List Record) (step : Step) (index : ℕ) (both : Halves) (finder : ℕ) → both.finder ≡ finder
    → in_hand own ≡ Some (record { index = index; part = Hit }) → heard index own ≡ Some both → ClearsNext own step
    → ((at : ℕ) → step ≡ Clear at → ⊥) → none_of finder ≡ 1
still_none own step index both zero is has it clears apart = refl
still_none own step index both (suc finder) is has it clears apart =
    absurd (apart index (clears index has (both, it, omega (arith, is))))

still_unheard : (own : List Record) (step : Step) (index : ℕ) (both : Option Halves) → heard index own ≡ both
    → in_hand own ≡ Some (record { index = index; part = Hit }) → ClearsNext own step → ((at : ℕ) → step ≡ Clear at → ⊥) → unheard both ≡ 1
still_unheard own step index None it has clears apart = refl
still_unheard own step index (Some both) it has clears apart = still_none own step index both both.finder refl has it clears apart

-- it hears a half above 0, or waits on
half_heard : (setter finder : ℕ) (index : ℕ) → 1 ≡ cond (hears_finder (Some (record { index = index; part = Hit })) index finder) 1 0 + none_of finder
half_heard setter zero index = refl
half_heard setter (suc finder) index = rw (eq-eqb index index refl) refl

not_elsewhere : (index at finder : ℕ) → (index == at) ≡ false → hears_finder (Some (record { index = index; part = Hit })) at finder ≡ false
not_elsewhere index at zero apart = refl
not_elsewhere index at (suc finder) apart = rw apart refl

none_more : (n : ℕ) → n ≡ 0 + n
none_more n = omega arith

load_hit : (own : List Record) (at setter finder index : ℕ) → in_hand own ≡ Some (record { index = index; part = Hit }) → ClearsNext own (PairLoad at)
    → unheard (heard index own)
    ≡ cond (hears_finder (Some (record { index = index; part = Hit })) at finder) 1 0
    + unheard (heard_next own (PairLoad at) (answers.Halves setter finder) index)
load_hit own at setter finder index has clears = elim (eqb_tells at index) [
  | inl here ↦
      let none : unheard (heard index own) ≡ 1 = still_unheard own (PairLoad at) index (heard index own) refl has clears (λ x e. absurd (cc)) in
      let half : 1 ≡ cond (hears_finder (Some (record { index = index; part = Hit })) index finder) 1 0 + none_of finder = half_heard setter finder index in
      rw here.0 (rw here.1 (none ∙ half))
  | inr apart ↦
      let differs = apart.1 in
      rw (apart.0, not_elsewhere index at finder (ne_eqb index at (λ (is : index ≡ at). differs (sym is)))) (none_more (unheard (heard index own)))
]

silent : (index at finder : ℕ) (part : Part) → is_hit part ≡ false → hears_finder (Some (record { index = index; part = part })) at finder ≡ false
silent index at zero part is = refl
silent index at (suc finder) part is = rw is refl

none_here : (b : Bool) → b ≡ false → 0 ≡ cond b 1 0 + 0
none_here true is = absurd (cc)
none_here false is = refl

load_part : (own : List Record) (at setter finder index : ℕ) (part : Part) → in_hand own ≡ Some (record { index = index; part = part })
    → ClearsNext own (PairLoad at)
    → awaits part (heard index own)
    ≡ cond (hears_finder (Some (record { index = index; part = part })) at finder) 1 0
    + awaits part (heard_next own (PairLoad at) (answers.Halves setter finder) index)
load_part own at setter finder index parts.Hit has clears = load_hit own at setter finder index has clears
load_part own at setter finder index (parts.Inserted word) has clears = none_here _ (silent index at finder (parts.Inserted word) refl)
load_part own at setter finder index (parts.Named ticket) has clears = none_here _ (silent index at finder (parts.Named ticket) refl)
load_part own at setter finder index parts.Untouched has clears = none_here _ (silent index at finder parts.Untouched refl)
load_part own at setter finder index parts.Cleared has clears = none_here _ (silent index at finder parts.Cleared refl)
load_part own at setter finder index (parts.Taken word) has clears = none_here _ (silent index at finder (parts.Taken word) refl)

load_step : (own : List Record) (at setter finder : ℕ) (hand : Option InHand) → in_hand own ≡ hand → ClearsNext own (PairLoad at)
    → waiting hand (heard_of own)
    ≡ cond (hears_finder hand at finder) 1 0 + waiting hand (heard_next own (PairLoad at) (answers.Halves setter finder))
load_step own at setter finder None has clears = refl
load_step own at setter finder (Some hand) has clears = load_part own at setter finder hand.index hand.part has clears

-- a setter clears once it has heard its finder
cleared : (index : ℕ) (own : List Record) (both : Halves) → heard index own ≡ Some both → 0 < both.finder → 0 + unheard (heard index own) ≡ 0
cleared index own both it above = sym (none_more (unheard (heard index own))) ∙ (ap unheard it ∙ none_above both.finder above)

-- each step keeps what was hit equal to what was heard, and what waits
heard_step : (task : ℕ) (own : List Record) (step : Step) (answer : Answer) → Allows task own step → ClearsNext own step
    → cond (is_taken step answer) 1 0 + waiting (in_hand own) (heard_of own)
    ≡ cond (hears_now step answer (in_hand own)) 1 0 + waiting (hand_after step answer (in_hand own)) (heard_next own step answer)
heard_step task own (PairLoad index) (answers.Halves setter finder) allows clears =
    sym (none_more (waiting (in_hand own) (heard_of own))) ∙ load_step own index setter finder (in_hand own) refl clears
heard_step task own (Insert index word) (answers.Flag true) allows clears = rw allows.1 refl
heard_step task own (TryConsume index word) (answers.Flag true) allows clears = rw allows.2 refl
heard_step task own (Name index ticket) answer allows clears = rw allows.2 refl
heard_step task own (Consume index) (answers.Flag true) allows clears = rw allows.1 refl
heard_step task own (Consume index) (answers.Flag false) allows clears = rw (allows.1, eq-eqb index index refl) refl
heard_step task own (Consume index) answer allows clears = rw allows.1 refl
heard_step task own (Clear index) answer (inl untouched) clears = rw untouched refl
heard_step task own (Clear index) answer (inr hit) clears = rw hit.0 (cleared index own hit.1.0 hit.1.1 hit.1.2)
heard_step task own (Remove index) answer allows clears = rw allows refl
heard_step task own (Tell index ticket) answer allows clears = rw allows.1.1 refl
heard_step task own step answer allows clears = refl

-- each of a task's own records clears where it has to
abbrev EachClears : List Record → Type 0
EachClears [] = Unit {0}
EachClears (latest ∷ earlier) = EachClears earlier × ClearsNext earlier latest.step

held : (task : ℕ) (own : List Record) → Discipline task own → EachClears own
    → weigh_own (of_step is_taken) own ≡ weigh_own of_hearing own + waiting (in_hand own) (heard_of own)
held task [] keeps clears = refl
held task (latest ∷ earlier) keeps clears =
    let before = held task earlier keeps.0 clears.0 in
    let now = heard_step task earlier latest.step latest.answer keeps.1 clears.1 in
    let both : cond (is_taken latest.step latest.answer) 1 0 + weigh_own (of_step is_taken) earlier
    ≡ (cond (hears_now latest.step latest.answer (in_hand earlier)) 1 0 + weigh_own of_hearing earlier)
    + waiting (hand_after latest.step latest.answer (in_hand earlier)) (heard_next earlier latest.step latest.answer) =
    omega (arith, before, now) in both

hearings_end : (task : ℕ) (own : List Record) → Discipline task own → EachClears own → IsFinished own
    → weigh_own (of_step is_taken) own ≡ weigh_own of_hearing own
hearings_end task own keeps clears over =
    let all = held task own keeps clears in
    let none : waiting (in_hand own) (heard_of own) ≡ 0 = ap (λ (h : Option InHand). waiting h (heard_of own)) over in omega (arith, all, none)

-- so it is of each task of an execution
module _ (run : Run) (records : List Record) (list : Execution run records) where
  each_clears : (task : ℕ) (later earlier : List Record) → records ≡ later ++ earlier → EachClears (records_of task earlier)
  each_clears task later [] is = tt
  each_clears task later (latest ∷ earlier) is =
      let rest : EachClears (records_of task earlier) =
      each_clears task (later ++ latest ∷ []) earlier (is ∙ sym (append_assoc later (latest ∷ []) earlier)) in
      elim (eqb_tells latest.task task) [
        | inl mine ↦
            let it = settled_at run records list later latest earlier is in
            let now : ClearsNext (records_of task earlier) latest.step =
            subst (λ (t : ℕ). ClearsNext (records_of t earlier) latest.step) mine.1 it.clears in
            subst EachClears (sym (own_latest task latest earlier mine.1)) (rest, now)
        | inr others ↦ rw others.0 rest
      ]

  pub takings_heard : (task : ℕ) → Discipline task (records_of task records) → IsFinished (records_of task records)
      → weigh_own (of_step is_taken) (records_of task records) ≡ weigh_own of_hearing (records_of task records)
  takings_heard task keeps over = hearings_end task (records_of task records) keeps (each_clears task [] records refl) over
