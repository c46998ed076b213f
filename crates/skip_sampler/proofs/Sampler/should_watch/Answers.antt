-- a counter above 0 has its position still to come, and one at 0 has reached it
use Rattle.std.proofs.Common.{arith}
use Rattle.skip_sampler.proofs.Positions.{leads-yes, not_yet}
use Rattle.skip_sampler.proofs.Sampler.should_watch.Goals as goal

pub returns-then-self-gt0-clause-watched : goal.returns-then-self-gt0-clause-watched
returns-then-self-gt0-clause-watched c = rw (← c.self.view_is)
    (λ skip randomize seed askings h. (
      λ never. cc,
      λ here. absurd (not_yet skip randomize seed askings _ (omega arith) h here),
    ))

pub returns-clause-follows : goal.returns-clause-follows
returns-clause-follows c = rw (← c.self.view_is)
    (λ skip randomize seed askings h. leads-yes skip randomize seed askings _ _ _
    (omega arith) c.next_gap-self-inside.ensures.gap c.next_gap-self-inside.ensures.rest h)
