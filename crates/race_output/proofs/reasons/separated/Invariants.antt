-- The texts so far, behind the first, are separated.
use Rattle.std.proofs.Common.{◌≡◌, ◌++◌, take}
use Rattle.std.specs.List.{flat_map}
use Rattle.race_output.specs.Reasons.{behind, texts}
use Rattle.race_output.proofs.reasons.separated.Given as goal

abbrev pub invariant-loop-one : goal.invariant-loop-one
invariant-loop-one l = l.text.items ≡ l.initial.text.items ++ flat_map behind (texts (take l.one-index l.more))
