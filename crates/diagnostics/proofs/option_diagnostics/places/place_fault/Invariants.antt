-- Each item so far is read.
use Rattle.std.proofs.Common.{◌≡◌, ◌<◌, List, Some, ℕ, slice_get}
use Rattle.diagnostics.specs.option_diagnostics.Item.{items_of}
use Rattle.diagnostics.specs.option_diagnostics.Places.{Reads}
use Rattle.diagnostics.proofs.option_diagnostics.places.place_fault.Given as goal

abbrev pub invariant-loop-number : goal.invariant-loop-number
invariant-loop-number l =
    (k : ℕ) (other : List ℕ) → k < l.number → slice_get (items_of l.text) k ≡ Some other → Reads other
