-- what has begun and what has ended stands in front
use Rattle.std.proofs.Common.{◌≡◌, ◌-◌, ◌∙◌, ℕ, Bool, ap, leb, rules, subst, sym}
use Rattle.std.specs.Prelude.{count_by}
use Rattle.std.specs.List.Sorted.{IsNonDecreasing}
use Rattle.std.proofs.lemmas.List.Sorted.{IsPartitionPoint-from_clause, IsPartitionedBy-leb}
use Rattle.timeline.proofs.picture.Counting.{partition_counts}
use Rattle.timeline.proofs.picture.columns.Column.running.Goals as goal

pub returns : goal.returns
returns c =
    let p : ℕ → Bool = λ y. leb y c.args.stamp in
    let begun : c.partition_point-begun.result ≡ count_by p c.args.self.now.begins.items =
    partition_counts p c.deref.result.now c.partition_point-begun.result c.partition_point-begun.ensures.bound
    (IsPartitionPoint-from_clause p c.deref.result.now c.partition_point-begun.result c.partition_point-begun.ensures.partitioned
    (IsPartitionedBy-leb (λ x. x) c.deref.result.now c.args.stamp
    (subst (λ xs. IsNonDecreasing xs) (sym c.deref.ensures.value) c.requires.begins_rise)) (λ a r q k. search rules))
    ∙ ap (λ xs. count_by p xs) c.deref.ensures.value in
    let ended : c.partition_point-ended.result ≡ count_by p c.args.self.now.ends.items =
    partition_counts p c.deref-2.result.now c.partition_point-ended.result c.partition_point-ended.ensures.bound
    (IsPartitionPoint-from_clause p c.deref-2.result.now c.partition_point-ended.result c.partition_point-ended.ensures.partitioned
    (IsPartitionedBy-leb (λ x. x) c.deref-2.result.now c.args.stamp
    (subst (λ xs. IsNonDecreasing xs) (sym c.deref-2.ensures.value) c.requires.ends_rise)) (λ a r q k. search rules))
    ∙ ap (λ xs. count_by p xs) c.deref-2.ensures.value in
    c.saturating_sub.ensures ∙ ap (λ n. n - c.partition_point-ended.result) begun
    ∙ ap (λ n. count_by p c.args.self.now.begins.items - n) ended
