-- With the texts to come it is what all texts make.
use Rattle.std.proofs.Common.{◌≡◌, fold}
use Rattle.search_text.specs.Joined.{joined, sightings_of}
use Rattle.search_text.proofs.seen.Sightings.add_texts.Given as goal

abbrev pub invariant-loop-one : goal.invariant-loop-one
invariant-loop-one l =
    fold joined l.self (sightings_of l.one-iterator.rest.items) ≡ fold joined l.fn.self (sightings_of l.fn.texts.items)
