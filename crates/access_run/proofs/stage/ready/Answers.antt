-- The operation runs in the cell that the checker finds.
use Rattle.std.proofs.Common.{◌∙◌, sym}
use Rattle.access_run.proofs.LeadsLemmas.{never_ready, ready_run}
use Rattle.access_run.proofs.stage.ready.Goals as goal

pub returns-in_err-source : goal.returns-in_err-source
returns-in_err-source c = λ s scopes asked last rests has.
    absurd (never_ready s c.args.access.now c.args.operation c.in_ok-operation.operation c.in_ok-operation.was
    (sym (c.source.ensures.value s scopes asked last rests) ∙ c.in_err-source.was) has)

pub returns : goal.returns
returns c = λ s scopes asked last rests has.
    ready_run s c.args.access.now c.args.operation c.in_ok-operation.operation c.in_ok-source.source c.new.result c.in_ok-operation.was
    (sym (c.source.ensures.value s scopes asked last rests) ∙ c.in_ok-source.was) (c.new.ensures s.task)
