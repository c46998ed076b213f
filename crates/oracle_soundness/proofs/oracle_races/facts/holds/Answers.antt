-- Fact by fact.
use Rattle.std.proofs.Common.{◌↔◌, Bool, IfOk, IsTrue, subst, sym}
use Rattle.oracle_soundness.specs.declared.oracle_races.facts.Fact.{Fact}
use Rattle.oracle_soundness.specs.oracle_races.Searched.{Holds}
use Rattle.oracle_soundness.specs.oracle_races.Shown.{BreaksMask}
use Rattle.oracle_soundness.proofs.oracle_races.Deciding.{both_yes, first_no}
use Rattle.oracle_soundness.proofs.oracle_races.facts.holds.Goals as goal
use Rattle.oracle_soundness.proofs.oracle_races.facts.holds.Goals.{else-breaks_mask, then-breaks_mask}

pub returns-in-AtOnce : goal.returns-in-AtOnce
returns-in-AtOnce c =
    subst (λ (f : Fact). IsTrue c.are_at_once-at_once.result ↔ Holds f c.args.history.now c.args.a.now c.args.b.now) (sym c.in-AtOnce.is)
    c.are_at_once-at_once.ensures

pub returns-then-branch : goal.returns-then-branch
returns-then-branch c =
    subst (λ (f : Fact). IsTrue c.are_at_once-at_once.result ↔ Holds f c.args.history.now c.args.a.now c.args.b.now) (sym c.in-BothMarked.is)
    (both_yes c.if-branch.true c.in_ok-both_count-in-BothMarked.ensures c.are_at_once-at_once.ensures
    (λ counted at_once. record { at_once = at_once; first_counts = counted.0; second_counts = counted.1 }) (λ so. so.at_once))

pub returns-else-branch : goal.returns-else-branch
returns-else-branch c =
    subst (λ (f : Fact). IsTrue c.in_ok-both_count-in-BothMarked.field-0 ↔ Holds f c.args.history.now c.args.a.now c.args.b.now)
    (sym c.in-BothMarked.is)
    (first_no c.if-branch.false c.in_ok-both_count-in-BothMarked.ensures (λ so. (so.first_counts, so.second_counts)))

pub returns-then-branch-2 : goal.returns-then-branch-2
returns-then-branch-2 c =
    subst (λ (f : Fact). IsTrue c.are_at_once-at_once.result ↔ Holds f c.args.history.now c.args.a.now c.args.b.now) (sym c.in-OneSilenced.is)
    (both_yes c.if-branch-2.true c.in_ok-is_one_silenced-in-OneSilenced.ensures c.are_at_once-at_once.ensures
    (λ silenced at_once. record { at_once = at_once; silenced = silenced }) (λ so. so.at_once))

pub returns-else-branch-2 : goal.returns-else-branch-2
returns-else-branch-2 c =
    subst (λ (f : Fact). IsTrue c.in_ok-is_one_silenced-in-OneSilenced.field-0 ↔ Holds f c.args.history.now c.args.a.now c.args.b.now)
    (sym c.in-OneSilenced.is)
    (first_no c.if-branch-2.false c.in_ok-is_one_silenced-in-OneSilenced.ensures (λ so. so.silenced))

pub returns-in-TrueRace : goal.returns-in-TrueRace
returns-in-TrueRace c =
    subst (λ (f : Fact). IfOk c.true_race.result (λ found. IsTrue found ↔ Holds f c.args.history.now c.args.a.now c.args.b.now))
    (sym c.in-TrueRace.is) c.true_race.ensures

pub returns-then-branch-3 : goal.returns-then-branch-3
returns-then-branch-3 c =
    let First : Type 0 = BreaksMask c.args.history.now c.args.a.now c.args.b.now (IsTrue c.in-Race.b_never) c.args.a.now.mask in
    let Second : Type 0 = BreaksMask c.args.history.now c.args.b.now c.args.a.now (IsTrue c.in-Race.a_never) c.args.b.now.mask in
    let broken : IsTrue c.if-breaks_mask.broken ↔ (First × Second) = elim c.if-breaks_mask.branch [
      | then-breaks_mask w ↦ subst (λ (t : Bool). IsTrue t ↔ (First × Second)) (sym w.broken-is)
          (both_yes w.if-breaks_mask.true c.breaks_mask.ensures w.breaks_mask-broken.ensures (λ p q. (p, q)) (λ both. both.1))
      | else-breaks_mask w ↦ subst (λ (t : Bool). IsTrue t ↔ (First × Second)) (sym w.broken-is)
          (first_no w.if-breaks_mask.false c.breaks_mask.ensures (λ both. both.0))
    ] in
    subst (λ (f : Fact). IsTrue c.if-breaks_mask.broken ↔ Holds f c.args.history.now c.args.a.now c.args.b.now) (sym c.in-Race.is)
    (both_yes c.if-branch-3.true c.in_ok-true_race-in-Race.ensures broken
    (λ race masks. record { race = race; first_mask = masks.0; second_mask = masks.1 }) (λ so. (so.first_mask, so.second_mask)))

pub returns-else-branch-3 : goal.returns-else-branch-3
returns-else-branch-3 c =
    subst (λ (f : Fact). IsTrue c.in_ok-true_race-in-Race.field-0 ↔ Holds f c.args.history.now c.args.a.now c.args.b.now) (sym c.in-Race.is)
    (first_no c.if-branch-3.false c.in_ok-true_race-in-Race.ensures (λ so. so.race))
