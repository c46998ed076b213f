-- The operation that fetches a value is that of a load.
use Rattle.std.proofs.Common.{ℕ, List, Some}
use Rattle.access_run.specs.memory_operation.Operations.{Reads}
use Rattle.litmus_syntax.specs.Tree.{Fetch}
use Rattle.litmus_syntax.specs.Tree as tree
use Rattle.program_order.specs.WrittenOrder.{fetch_operation}

pub fetch_reads : (registers : List ℕ) (fetch : Fetch) → Reads (Some (fetch_operation registers fetch))
fetch_reads registers (tree.read form x) = tt
fetch_reads registers (tree.exchange x e) = tt
fetch_reads registers (tree.compare_exchange x e f) = tt
