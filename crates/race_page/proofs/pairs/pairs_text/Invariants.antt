-- The pairs so far are written.
use Rattle.std.proofs.Common.{◌≡◌, take}
use Rattle.std.specs.List.{flat_map}
use Rattle.race_page.specs.Pairs as spec
use Rattle.race_page.proofs.pairs.pairs_text.Given as goal

abbrev pub invariant-loop-one : goal.invariant-loop-one
invariant-loop-one l = l.found.items ≡ flat_map (spec.pair_text l.file l.text) (take l.one-index l.pairs)
