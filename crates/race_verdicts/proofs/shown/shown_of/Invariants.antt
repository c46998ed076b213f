-- What is left decides with what was shown so far.
use Rattle.std.proofs.Common.{◌↔◌, ◌⊎◌, IsTrue}
use Rattle.race_verdicts.proofs.ShownLemmas.{IsAmong}
use Rattle.race_search.specs.Found.{Anything, AreBothMarked, IsOneSilenced, IsPairFound, MayRace}
use Rattle.race_verdicts.proofs.shown.shown_of.Given as goal

abbrev pub invariant-loop-shown : goal.invariant-loop-shown
invariant-loop-shown l = record {
  at_once : IsPairFound l.fn.found l.pair Anything ↔ (IsTrue l.all.at_once ⊎ IsAmong l.shown-iterator l.pair Anything);
  both_marked : IsPairFound l.fn.found l.pair AreBothMarked ↔ (IsTrue l.all.both_marked ⊎ IsAmong l.shown-iterator l.pair AreBothMarked);
  silenced : IsPairFound l.fn.found l.pair IsOneSilenced ↔ (IsTrue l.all.silenced ⊎ IsAmong l.shown-iterator l.pair IsOneSilenced);
  true_race : IsPairFound l.fn.found l.pair MayRace ↔ (IsTrue l.all.true_race ⊎ IsAmong l.shown-iterator l.pair MayRace);
}
