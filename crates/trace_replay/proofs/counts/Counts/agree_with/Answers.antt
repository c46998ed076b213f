-- each has the other's counts
use Rattle.std.proofs.Common.{◌∙◌, sym, true≢false}
use Rattle.trace_replay.proofs.Counted.{alike, each_has}
use Rattle.trace_replay.proofs.counts.Counts.agree_with.Goals as goal

pub returns-then-here : goal.returns-then-here
returns-then-here g c = (
  λ t. alike g.K.PartialEq.eq g.met.K.Eq.laws c.args.self.now.by_key.entries c.args.others.now.by_key.entries
      (c.stand_in-here.ensures.decided.0 c.if-here.true) (c.stand_in-there.ensures.decided.0 t),
  λ same. c.stand_in-there.ensures.decided.1 (each_has g.K.PartialEq.eq g.met.K.Eq.laws c.args.others.now.by_key.entries
      c.args.self.now.by_key.entries c.stand_in-there.ensures.distinct (λ key. sym (same key))),
)

pub returns-else-here : goal.returns-else-here
returns-else-here g c = (
  λ t. absurd (true≢false (sym t ∙ c.if-here.false)),
  λ same. c.stand_in-here.ensures.decided.1 (each_has g.K.PartialEq.eq g.met.K.Eq.laws c.args.self.now.by_key.entries
      c.args.others.now.by_key.entries c.stand_in-here.ensures.distinct same),
)
