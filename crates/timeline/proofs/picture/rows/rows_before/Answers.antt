-- the rows before the stamp stand in front
use Rattle.std.proofs.Common.{ltb, rules}
use Rattle.std.proofs.lemmas.List.Sorted.{IsPartitionPoint-from_clause, IsPartitionedBy-ltb}
use Rattle.timeline.specs.declared.picture.rows.Row.{Row}
use Rattle.timeline.proofs.picture.Counting.{partition_counts}
use Rattle.timeline.proofs.picture.rows.rows_before.Goals as goal

pub returns : goal.returns
returns c = partition_counts (λ (row : Row). ltb row.stamp c.args.stamp) c.args.rows.now c.partition_point.result c.partition_point.ensures.bound
    (IsPartitionPoint-from_clause (λ (row : Row). ltb row.stamp c.args.stamp) c.args.rows.now c.partition_point.result
    c.partition_point.ensures.partitioned
    (IsPartitionedBy-ltb (λ (row : Row). row.stamp) c.args.rows.now c.args.stamp c.requires) (λ a r q k. search rules))
