-- each entry is compared
use Rattle.std.proofs.Common.{◌≡◌, ◌∙◌, ℕ, sym}
use Rattle.trace_replay.specs.Counts.{count_at}
use Rattle.trace_replay.proofs.Counted.{at_start, none_left, one_fails, one_less}
use Rattle.trace_replay.proofs.counts.Counts.stand_in.Goals as goal

pub loop-key-init : goal.loop-key-init
loop-key-init g c = at_start (λ (entry : g.row.K.Denot × ℕ). entry.1 ≡ count_at g.K.PartialEq.eq c.args.others.now entry.0)
    c.args.self.now.by_key.entries c.into_iter-key-iterator.result
    (c.into_iter-key-iterator.ensures.into_iter_gives ∙ c.iter-key-items.ensures.rest)

pub loop-key-preserved : goal.loop-key-preserved
loop-key-preserved g c = one_less (λ (entry : g.row.K.Denot × ℕ). entry.1 ≡ count_at g.K.PartialEq.eq c.args.others.now entry.0)
    c.loop-key.key-iterator c.next.new.self (c.in-Some.key.now, c.in-Some.count.now) c.loop-key.invariant c.in-Some.ensures.steps
    (c.if-count-of.false ∙ c.of.ensures)

pub returns-then-count-of-clause-decided : goal.returns-then-count-of-clause-decided
returns-then-count-of-clause-decided g c =
    one_fails (λ (entry : g.row.K.Denot × ℕ). entry.1 ≡ count_at g.K.PartialEq.eq c.args.others.now entry.0)
    c.loop-key.key-iterator c.next.new.self (c.in-Some.key.now, c.in-Some.count.now) c.loop-key.invariant c.in-Some.ensures.steps
    (λ p. c.if-count-of.true (p ∙ sym c.of.ensures))

pub returns-clause-decided : goal.returns-clause-decided
returns-clause-decided g c = none_left (λ (entry : g.row.K.Denot × ℕ). entry.1 ≡ count_at g.K.PartialEq.eq c.args.others.now entry.0)
    c.loop-key.key-iterator c.loop-key.invariant c.in-None.ensures.steps.0
