-- it ended, or it is stuck and counted
use Rattle.std.proofs.Common.{Ok, ap, inl, sym, ◌∙◌}
use Rattle.run_stats.proofs.MadeLemmas.{on_ok}
use Rattle.run_stats.proofs.made.Made.add.Goals as goal

pub returns-in-Ok-clause-made : goal.returns-in-Ok-clause-made
returns-in-Ok-clause-made c = λ runs stuck was.
    on_ok c.add_ended.result (λ more. inl (more.0, c.in-Ok.is ∙ ap Ok (sym more.1), more.2)) (c.add_ended.ensures.made runs stuck was)
