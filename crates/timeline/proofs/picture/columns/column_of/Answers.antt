-- the stamps in order
use Rattle.std.proofs.Common.{refl, subst}
use Rattle.std.specs.List.Sorted.{IsPermutation}
use Rattle.std.proofs.lemmas.List.Sorted.{IsNonDecreasingBy-from_sort}
use Rattle.timeline.proofs.picture.columns.column_of.Goals as goal

pub returns : goal.returns
returns c = record {
  task_is = refl;
  begins = subst (λ xs. IsPermutation xs c.sort.new.self.items) c.in_ok-begins.ensures c.in_ok-sort.ensures.permutation;
  ends = subst (λ xs. IsPermutation xs c.sort-2.new.self.items) c.in_ok-ends.ensures c.in_ok-sort-2.ensures.permutation;
  in_order = record {
    begins_rise = IsNonDecreasingBy-from_sort (λ x. x) c.sort.new.self.items c.in_ok-sort.ensures.sorted;
    ends_rise = IsNonDecreasingBy-from_sort (λ x. x) c.sort-2.new.self.items c.in_ok-sort-2.ensures.sorted;
  };
}
