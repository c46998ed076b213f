-- One entry more was looked at: it is of the pair, and was counted; or it isn't.
use Rattle.std.proofs.Common.{◌≡◌, ◌∙◌, ◌↔◌, ◌⊎◌, Bool, IsTrue, false, inr, sym, true}
use Rattle.race_verdicts.proofs.ShownLemmas.{counted, skipped}
use Rattle.race_search.specs.Found.{Anything, AreBothMarked, IsOneSilenced, MayRace}
use Rattle.race_verdicts.proofs.shown.shown_of.Goals as goal

-- anything counts
always : (was now : Bool) → IsTrue now → IsTrue now ↔ (IsTrue was ⊎ Unit {0})
always was now is = ((λ said. inr tt), (λ some. is))

pub loop-shown-preserved-then-is_of : goal.loop-shown-preserved-then-is_of
loop-shown-preserved-then-is_of c =
    let pair = c.args.pair in
    let was = c.loop-shown.all in
    let now = c.with_shown-all.result in
    let first = c.in-Some.shown.now in
    let left = c.loop-shown.shown-iterator in
    let rest = c.next.new.self in
    let is = c.in-Some.ensures.steps in
    let of_pair = (c.is_of.ensures).0 c.if-is_of.true in
    let so_far = c.loop-shown.invariant in
    record {
      at_once = counted pair Anything _ was.at_once now.at_once first left rest is so_far.at_once of_pair
          (always was.at_once now.at_once c.with_shown-all.ensures.at_once);
      both_marked = counted pair AreBothMarked _ was.both_marked now.both_marked first left rest is so_far.both_marked of_pair
          c.with_shown-all.ensures.both_marked;
      silenced = counted pair IsOneSilenced _ was.silenced now.silenced first left rest is so_far.silenced of_pair c.with_shown-all.ensures.silenced;
      true_race = counted pair MayRace _ was.true_race now.true_race first left rest is so_far.true_race of_pair c.with_shown-all.ensures.true_race;
    }

pub loop-shown-preserved : goal.loop-shown-preserved
loop-shown-preserved c =
    let pair = c.args.pair in
    let was = c.loop-shown.all in
    let first = c.in-Some.shown.now in
    let left = c.loop-shown.shown-iterator in
    let rest = c.next.new.self in
    let is = c.in-Some.ensures.steps in
    let other : ¬ (first.pair ≡ pair) = λ same. let bad : false ≡ true = sym c.if-is_of.false ∙ (c.is_of.ensures).1 same in cc in
    let so_far = c.loop-shown.invariant in
    record {
      at_once = skipped pair Anything _ was.at_once was.at_once first left rest is so_far.at_once other;
      both_marked = skipped pair AreBothMarked _ was.both_marked was.both_marked first left rest is so_far.both_marked other;
      silenced = skipped pair IsOneSilenced _ was.silenced was.silenced first left rest is so_far.silenced other;
      true_race = skipped pair MayRace _ was.true_race was.true_race first left rest is so_far.true_race other;
    }
