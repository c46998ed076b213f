-- all rows, in order
use Rattle.std.proofs.Common.{◌≡◌, ◌++◌, ◌∙◌, ap, rules, subst}
use Rattle.std.specs.List.{flat_map}
use Rattle.std.specs.List.Sorted.{IsPermutation}
use Rattle.std.proofs.lemmas.List.Sorted.{IsNonDecreasingBy-from_sort_by_key}
use Rattle.timeline.specs.picture.Rows.{place, rows_of}
use Rattle.timeline.proofs.picture.rows.rows.Goals as goal

pub returns : goal.returns
returns c =
    let whole : c.extend_from_slice.new.self.items ≡ flat_map rows_of c.args.accesses.now ++ c.in_ok-of_reports.of_reports.items =
    c.in_ok-extend_from_slice.ensures.items ∙ ap (λ xs. c.in_ok-rows.rows.items ++ xs) c.deref.ensures.value
    ∙ ap (λ xs. xs ++ c.in_ok-of_reports.of_reports.items) c.in_ok-rows.ensures in
    record {
      of_reports = c.in_ok-of_reports.of_reports.items;
      each_report = c.in_ok-of_reports.ensures c.args.accesses.now c.requires.0 c.requires.1;
      each_once = subst (λ xs. IsPermutation xs c.sort_by_key.new.self.items) whole c.in_ok-sort_by_key.ensures.permutation;
      rising = IsNonDecreasingBy-from_sort_by_key place c.sort_by_key.new.self.items c.in_ok-sort_by_key.ensures.sorted
          (λ a r q k. search rules);
    }
