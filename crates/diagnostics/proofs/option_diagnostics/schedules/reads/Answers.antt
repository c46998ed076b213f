-- by what is read of the item alone
use Rattle.std.proofs.Common.{refl}
use Rattle.diagnostics.proofs.option_diagnostics.ItemLemmas.{nothing}
use Rattle.diagnostics.proofs.option_diagnostics.schedules.reads.Goals as goal
use Rattle.diagnostics.proofs.option_diagnostics.schedules.reads.Goals.{in-None, in-Some}

pub returns-clause-no : goal.returns-clause-no
returns-clause-no c =
    elim c.match-branch-2.branch [
      | in-Some w ↦ rw w.result-is (λ read. refl)
      | in-None w ↦ rw w.result-is (λ read. absurd (nothing _ _ _ w.in-None.is ((c.in_ok-parse.ensures read.entries).0 read.spelled)))
    ]
