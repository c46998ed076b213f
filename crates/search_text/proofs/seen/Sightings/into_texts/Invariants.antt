-- With the texts to come it is all texts.
use Rattle.std.proofs.Common.{◌≡◌, ◌++◌}
use Rattle.search_text.specs.Joined.{sightings_of}
use Rattle.search_text.proofs.Shown.{shown}
use Rattle.search_text.proofs.seen.Sightings.into_texts.Given as goal

abbrev pub invariant-loop-text : goal.invariant-loop-text
invariant-loop-text l = sightings_of l.texts.items ++ shown l.text-iterator ≡ l.fn.self
