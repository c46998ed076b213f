-- Each arming that a task has removed has a verdict of its own, on the access that set it up, in the same order.
use Rattle.std.proofs.Common.{◌≡◌, ◌∙◌, ◌++◌, ◌∷◌, [], inl, inr, ℕ, All, List, None, Option, Some, ap, map, refl, sym}
use Rattle.std.proofs.lemmas.List.{append-nil, map-append}
use Rattle.access_types.specs.Arms.{Arm}
use Rattle.access_types.specs.Ticket.{ticket_number}
use Rattle.executions.specs.execution.Run.{Run, first_cells, locks_of}
use Rattle.executions.specs.execution.Execution.{Execution}
use Rattle.executions.specs.execution.Observed.{OutcomeAt, outcomes_of}
use Rattle.log_correctness.specs.Lists.{AreArmsBy, verdicts_by}
use Rattle.log_correctness.proofs.Settling.{HandSays, HitSays, Known, Match, PartSays, Pending, Settled}
use Rattle.log_correctness.proofs.Pairing.{all_paired}
use Rattle.soundness.specs.Watches.{IfVerdict}
use Rattle.slot.specs.Pair.{Halves}
use Rattle.slot_table.specs.Discipline.{heard, in_hand}
use Rattle.slot_table.specs.Records.{records_of}
use Rattle.slot_table.specs.declared.discipline.InHand.{InHand}
use Rattle.slot_table.specs.declared.discipline.Part.{Part}
use Rattle.slot_table.specs.declared.discipline.Part.TheVariants.{Cleared, Hit, Inserted, Named, Taken, Untouched}
use Rattle.slot_table.specs.declared.records.Record.{Record}
use Rattle.slot_table.proofs.Lists.{Keeps}

abbrev tickets : List OutcomeAt → List ℕ
tickets verdicts = map (λ (came : OutcomeAt). ticket_number came.access) verdicts

abbrev setters : List Arm → List ℕ
setters arms = map (λ (arm : Arm). arm.setter) arms

module _ (records : List Record) where
  alike : (arms : List Arm) (verdicts : List OutcomeAt) → Match records arms verdicts → tickets verdicts ≡ setters arms
  alike [] [] match_so = refl
  alike [] (verdict ∷ verdicts) match_so = absurd match_so
  alike (arm ∷ arms) [] match_so = absurd match_so
  alike (arm ∷ arms) (verdict ∷ verdicts) match_so =
      ap (λ (n : ℕ). n ∷ tickets verdicts) (sym match_so.0.setter) ∙ ap (λ (l : List ℕ). arm.setter ∷ l) (alike arms verdicts match_so.1)

  abbrev Own : Known → Type 0
  Own known = (more : List ℕ) × (tickets known.verdicts ≡ setters known.arms ++ more)

  settled_own : (known : Known) → Settled records known → Own known
  settled_own known match_so = ([], alike known.arms known.verdicts match_so ∙ sym (append-nil (setters known.arms)))

  pending_own : (index : ℕ) (known : Known) → Pending records index known → Own known
  pending_own index known h = (
    ticket_number h.verdict.access ∷ [],
    ap tickets h.all_are ∙ (map-append (λ (came : OutcomeAt). ticket_number came.access) h.older (h.verdict ∷ [])
        ∙ ap (λ (l : List ℕ). l ++ ticket_number h.verdict.access ∷ []) (alike known.arms h.older h.matched)),
  )

  hit_own : (index : ℕ) (known : Known) (hears : Option Halves) → HitSays records hears index known → Own known
  hit_own index known None h = settled_own known h
  hit_own index known (Some both) h = elim h [ inl none ↦ settled_own known none.1 | inr some ↦ pending_own index known some.1 ]

  part_own : (index : ℕ) (known : Known) (hears : ℕ → Option Halves) (part : Part) → PartSays records part index hears known → Own known
  part_own index known hears (Inserted word) h = settled_own known h
  part_own index known hears (Named ticket) h = settled_own known h
  part_own index known hears (Taken word) h = settled_own known h
  part_own index known hears Untouched h = pending_own index known h
  part_own index known hears Hit h = hit_own index known (hears index) h
  part_own index known hears Cleared h = pending_own index known h

  hand_own : (known : Known) (hears : ℕ → Option Halves) (hand : Option InHand) → HandSays records hand hears known → Own known
  hand_own known hears None h = settled_own known h
  hand_own known hears (Some hand) h = part_own hand.index known hears hand.part h

module _ (run : Run) (all : List Record) (list : Execution run all) (rules : Keeps run.rules.slots (locks_of run) (first_cells run) all)
    (watches : All (IfVerdict list) (outcomes_of list)) where
  pub own_verdicts : (later earlier : List Record) (task : ℕ) (arms : List Arm) → all ≡ later ++ earlier → AreArmsBy list task earlier arms
      → (more : List ℕ) × (tickets (verdicts_by list task earlier) ≡ setters arms ++ more)
  own_verdicts later earlier task arms is are =
      let paired = all_paired run all list rules watches task later earlier is arms are in
      hand_own all _ (λ index. heard index (records_of task earlier)) (in_hand (records_of task earlier)) paired.says
