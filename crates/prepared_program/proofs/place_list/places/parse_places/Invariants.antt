use Rattle.std.proofs.Common.{take}
use Rattle.prepared_program.specs.Lists.{SpellEach}
use Rattle.prepared_program.specs.place_list.Spelling.{SpellsPlace}
use Rattle.prepared_program.proofs.ListLemmas.{texts_of}
use Rattle.prepared_program.proofs.place_list.places.parse_places.Given as goal

-- the items before the index spell the places so far
abbrev pub invariant-loop-item : goal.invariant-loop-item
invariant-loop-item l = SpellEach SpellsPlace (texts_of (take l.item-index l.item-items)) l.places.items
