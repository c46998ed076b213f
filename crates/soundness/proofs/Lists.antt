-- What each record of an execution settles.
use Rattle.std.proofs.Common.{◌≡◌, ◌<◌, ◌≤◌, ◌==◌, ◌+◌, ◌∙◌, ◌∷◌, ◌++◌, [], inl, inr, ℕ, suc, List, Option, ap, append_assoc, arith, length, map, refl, reverse, subst, sym}
use Rattle.std.specs.List.{filter}
use Rattle.std.proofs.lemmas.Bool.{eq-eqb, ne_eqb}
use Rattle.std.proofs.lemmas.Bool.Decides.{eqb_tells}
use Rattle.std.proofs.lemmas.List.{append-nil, length-append, length-reverse, reverse-append}
use Rattle.std.proofs.lemmas.List.Elements.{filter-append}
use Rattle.setup_access.specs.Check.{Fallen}
use Rattle.setup_access.specs.declared.outcome.Outcome.{Outcome}
use Rattle.slot_table.specs.Discipline.{in_hand}
use Rattle.slot_table.specs.Records.{records_of}
use Rattle.slot_table.specs.declared.records.Record.{Record}
use Rattle.program_order.specs.TaskObserved.{fell_next, to_come}
use Rattle.executions.specs.execution.Run.{Run, task_of, task_setting}
use Rattle.executions.specs.execution.Execution.{Execution}
use Rattle.executions.specs.execution.Observed.{Armed, OutcomeAt, armed_by, made_by, outcome_at}
use Rattle.executions.proofs.execution.CheckFacts.{back}
use Rattle.executions.proofs.execution.Histories.{front_of}
use Rattle.executions.proofs.execution.OwnLasts.{own_latest}
use Rattle.executions.proofs.execution.TwoSides.{back_own}
use Rattle.soundness.specs.Settles.{Settles}
use Rattle.soundness.specs.Takings.{EachSettles}
use Rattle.soundness.proofs.Falls.{AllBefore, ClearsNext, Falls, outcomes_in}
use Rattle.soundness.proofs.Texts.{whole_falls}

-- fewer records follow on each of these outcomes
abbrev AllShorter : ℕ → List Fallen → Type 0
AllShorter n [] = Unit {0}
AllShorter n (fallen ∷ others) = (length fallen.later < n) × AllShorter n others

shorter_both : (n : ℕ) (first second : List Fallen) → AllShorter n first → AllShorter n second → AllShorter n (first ++ second)
shorter_both n [] second one two = two
shorter_both n (fallen ∷ first) second one two = (one.0, shorter_both n first second one.1 two)

shorter_more : (n m : ℕ) (outs : List Fallen) → n ≤ m → AllShorter n outs → AllShorter m outs
shorter_more n m [] more short = tt
shorter_more n m (fallen ∷ outs) more short =
    (let below : length fallen.later < n = short.0 in omega (arith, below, more), shorter_more n m outs more short.1)

before_shorter : (later : List Record) (here : List Fallen) → AllBefore later here → AllShorter (suc (length later)) here
before_shorter later [] all = tt
before_shorter later (fallen ∷ here) all =
    (let same : length fallen.later ≡ length later = ap (λ (r : List Record). length r) all.0 in omega (arith, same), before_shorter later here all.1)

falls_shorter : (own records : List Record) (outs : List Fallen) → Falls own records outs → AllShorter (length records) outs
falls_shorter own [] outs falls = subst (AllShorter 0) (sym falls) tt
falls_shorter own (first ∷ later) outs falls =
    subst (AllShorter (suc (length later))) (sym falls.2)
    (shorter_both (suc (length later)) falls.0 falls.1 (before_shorter later falls.0 falls.3)
    (shorter_more (length later) (suc (length later)) falls.1 (omega arith) (falls_shorter (first ∷ own) later falls.1 falls.6)))

-- those that fall before so many records
abbrev at : ℕ → List Fallen → List Fallen
at n outs = filter (λ fallen. length fallen.later == n) outs

none_at : (n m : ℕ) (outs : List Fallen) → n ≤ m → AllShorter n outs → at m outs ≡ []
none_at n m [] more short = refl
none_at n m (fallen ∷ outs) more short = elim (eqb_tells (length fallen.later) m) [
  | inl here ↦ let below : length fallen.later < n = short.0 in let same : length fallen.later ≡ m = here.1 in absurd (omega (arith, below, more, same))
  | inr apart ↦ rw apart.0 (none_at n m outs more short.1)
]

all_at : (later : List Record) (here : List Fallen) → AllBefore later here → at (length later) here ≡ here
all_at later [] all = refl
all_at later (fallen ∷ here) all =
    rw (eq-eqb (length fallen.later) (length later) (ap (λ (r : List Record). length r) all.0)) (ap (λ (l : List Fallen). fallen ∷ l) (all_at later here all.1))

none_before : (later : List Record) (m : ℕ) (here : List Fallen) → m < length later → AllBefore later here → at m here ≡ []
none_before later m [] fewer all = refl
none_before later m (fallen ∷ here) fewer all =
    let same : length fallen.later ≡ length later = ap (λ (r : List Record). length r) all.0 in
    rw (ne_eqb (length fallen.later) m (λ is. let it : length fallen.later ≡ m = is in omega (arith, it, same, fewer))) (none_before later m here fewer all.1)

-- what falls at one of the records
pub record FallsHere (own : List Record) (first : Record) (later : List Record) (outs : List Fallen) : Type 0 where
  pub here : List Fallen
  pub all : at (length later) outs ≡ here
  pub settles : Settles (in_hand own) first.step first.answer (outcomes_in here)
  pub clears : ClearsNext own first.step

falls_at : (p q own : List Record) (x : Record) (outs : List Fallen) → Falls own (p ++ x ∷ q) outs → FallsHere (back p own) x q outs
falls_at [] q own x outs falls = record {
  here = falls.0;
  all = ap (at (length q)) falls.2
      ∙ (filter-append (λ (fallen : Fallen). length fallen.later == length q) falls.0 falls.1
      ∙ (ap (λ (l : List Fallen). at (length q) falls.0 ++ l) (none_at (length q) (length q) falls.1 (omega arith) (falls_shorter (x ∷ own) q falls.1 falls.6))
      ∙ (append-nil (at (length q) falls.0) ∙ all_at q falls.0 falls.3)));
  settles = falls.4;
  clears = falls.5;
}
falls_at (first ∷ p) q own x outs falls =
    let it = falls_at p q (first ∷ own) x falls.1 falls.6 in
    let longer : length (p ++ x ∷ q) ≡ length p + suc (length q) = length-append p (x ∷ q) in
    record {
      here = it.here;
      all = ap (at (length q)) falls.2
          ∙ (filter-append (λ (fallen : Fallen). length fallen.later == length q) falls.0 falls.1
          ∙ (ap (λ (l : List Fallen). l ++ at (length q) falls.1) (none_before (p ++ x ∷ q) (length q) falls.0 (omega (arith, longer)) falls.3) ∙ it.all));
      settles = it.settles;
      clears = it.clears;
    }

told_outcomes : (count : ℕ) (arming : Option Armed) (here : List Fallen)
    → map (λ (came : OutcomeAt). came.outcome) (map (outcome_at count arming) here) ≡ outcomes_in here
told_outcomes count arming [] = refl
told_outcomes count arming (fallen ∷ here) = ap (λ (l : List Outcome). fallen.outcome ∷ l) (told_outcomes count arming here)

module _ (run : Run) (records : List Record) (list : Execution run records) where
  -- what a record of the list settles
  pub record SettledAt (latest : Record) (earlier : List Record) : Type 0 where
    pub here : List Fallen
    pub all : fell_next (list.tasks latest.task) (made_by latest.task earlier) ≡ here
    pub settles : Settles (in_hand (records_of latest.task earlier)) latest.step latest.answer (outcomes_in here)
    pub clears : ClearsNext (records_of latest.task earlier) latest.step

  pub settled_at : (later : List Record) (latest : Record) (earlier : List Record) → records ≡ later ++ latest ∷ earlier → SettledAt latest earlier
  settled_at later latest earlier is =
      let task : ℕ = latest.task in
      let written = list.tasks task in
      let own : List Record = records_of task earlier in
      let whole : List Record = reverse (records_of task records) ++ written.more in
      let outs : List Fallen = written.whole.end.outcomes in
      let front = front_of run records list task later (latest ∷ earlier) is in
      let split : whole ≡ reverse own ++ latest ∷ front.0 =
      front.1 ∙ (ap (λ (r : List Record). reverse r ++ front.0) (own_latest task latest earlier refl)
      ∙ (ap (λ (r : List Record). r ++ front.0) (reverse-append (latest ∷ []) own) ∙ append_assoc (reverse own) (latest ∷ []) front.0)) in
      let falls = whole_falls (task_setting run task) (length (task_of run task).registers) (task_of run task).body whole written.whole in
      let it = falls_at (reverse own) front.0 [] latest outs (subst (λ (r : List Record). Falls [] r outs) split falls) in
      let long : length whole ≡ length (reverse own) + suc (length front.0) =
      ap (λ (r : List Record). length r) split ∙ length-append (reverse own) (latest ∷ front.0) in
      let same : length (reverse own) ≡ length own = length-reverse own in
      let left : to_come written (made_by task earlier + 1) ≡ length front.0 = omega (arith, long, same) in
      record {
        here = it.here;
        all = ap (λ (n : ℕ). at n outs) left ∙ it.all;
        settles = subst (λ (r : List Record). Settles (in_hand r) latest.step latest.answer (outcomes_in it.here)) (back_own own) it.settles;
        clears = subst (λ (r : List Record). ClearsNext r latest.step) (back_own own) it.clears;
      }

  each_by : (later earlier : List Record) → records ≡ later ++ earlier → EachSettles list earlier
  each_by later [] is = tt
  each_by later (latest ∷ earlier) is =
      let it = settled_at later latest earlier is in
      let hand = in_hand (records_of latest.task earlier) in (
        each_by (later ++ latest ∷ []) earlier (is ∙ sym (append_assoc later (latest ∷ []) earlier)),
        subst (λ (l : List Outcome). Settles hand latest.step latest.answer l)
            (sym (ap (λ (l : List Fallen). map (λ (came : OutcomeAt). came.outcome)
            (map (outcome_at (length earlier) (armed_by latest.task (latest ∷ earlier))) l)) it.all
            ∙ told_outcomes (length earlier) (armed_by latest.task (latest ∷ earlier)) it.here))
            it.settles,
      )

  pub each_settles : EachSettles list records
  each_settles = each_by [] records refl
