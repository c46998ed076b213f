-- Those so far are in order, and the others are left.
use Rattle.std.proofs.Common.{◌≡◌, ◌++◌, map}
use Rattle.std.specs.List.Sorted.{IsPermutation}
use Rattle.part_search.specs.Order.{numbers_to}
use Rattle.part_search.proofs.order.in_order.Given as goal

abbrev pub invariant-loop-before : goal.invariant-loop-before
invariant-loop-before l =
    (map (λ part. part.part) l.ordered.items ≡ numbers_to l.before) × IsPermutation l.fn.parts.items (l.ordered.items ++ l.parts.items)
