-- With the texts to come it is what all texts make.
use Rattle.std.proofs.Common.{◌≡◌, fold}
use Rattle.search_text.specs.Seen.{sighted}
use Rattle.search_text.specs.Texts.{texts_in}
use Rattle.search_text.proofs.found.add_texts.Given as goal

abbrev pub invariant-loop-text : goal.invariant-loop-text
invariant-loop-text l =
    fold (sighted l.schedule) l.sightings (texts_in l.text-iterator.rest.items)
    ≡ fold (sighted l.schedule) l.fn.sightings (texts_in l.fn.texts.items)
