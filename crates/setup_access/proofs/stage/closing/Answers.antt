-- A silenced assertion ends, and another is checked a last time.
use Rattle.std.proofs.Common.{◌≡◌, ◌||◌, false, true}
use Rattle.setup_access.proofs.StageLemmas.{closing_heard, closing_silenced}
use Rattle.setup_access.proofs.stage.closing.Goals as goal
use Rattle.setup_access.proofs.stage.closing.Goals.{then-begun-via-then-begun, then-begun-via-else-begun+then-silenced}

pub returns-then-begun-clause-left : goal.returns-then-begun-clause-left
returns-then-begun-clause-left c = λ s scopes asked records passes.
    let quiet : c.args.begun.silenced || c.args.silenced ≡ true = elim c.then-begun.branch [
      | then-begun-via-then-begun w ↦ rw w.if-begun.true
      | then-begun-via-else-begun+then-silenced w ↦ rw (w.if-begun.false, w.if-silenced.true)
    ] in
    closing_silenced s c.args.begun c.args.silenced scopes asked records passes quiet

pub returns-clause-left : goal.returns-clause-left
returns-clause-left c = λ s scopes asked records passes.
    let heard : c.args.begun.silenced || c.args.silenced ≡ false = rw (c.if-begun.false, c.if-silenced.false) in
    rw c.check_of.ensures (closing_heard s c.args.begun c.args.silenced scopes asked records passes heard)
