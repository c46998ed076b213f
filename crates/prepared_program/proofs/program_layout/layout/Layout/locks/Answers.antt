-- Locks are the variables without bytes.
use Rattle.std.proofs.Common.{◌∙◌, ◌==◌, ℕ, List, ap, count_by}
use Rattle.access_types.specs.declared.history.Bytes.{Bytes}
use Rattle.prepared_program.proofs.program_layout.CellLemmas.{locks_counted}
use Rattle.prepared_program.proofs.program_layout.layout.Layout.locks.Goals as goal

pub returns : goal.returns
returns c = λ places variables lays.
    c.without_bytes.ensures
    ∙ (ap (λ (all : List (Bytes × ℕ)). count_by (λ (laid : Bytes × ℕ). laid.0.size == 0) all) lays ∙ locks_counted places 0 variables)
