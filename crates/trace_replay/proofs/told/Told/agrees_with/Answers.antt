-- each agrees
use Rattle.std.proofs.Common.{◌≡◌, ◌∙◌, sym, true, true≢false}
use Rattle.trace_replay.proofs.Bags.{told_alike}
use Rattle.trace_replay.proofs.told.Told.agrees_with.Goals as goal
use Rattle.trace_replay.proofs.told.Told.agrees_with.Goals.{then-agree_with, else-agree_with}

pub returns-then-agree_with-2 : goal.returns-then-agree_with-2
returns-then-agree_with-2 c = elim c.if-agree_with.branch [
  | then-agree_with w ↦ λ takes races origins takes' races' origins' h k.
      let one = told_alike takes races origins takes' races' origins' c.args.self.now c.args.others.now h k in
      let second : w.agree_with-then-agree_with.result ≡ true = cc in (
        λ t. one.0 (c.agree_with.ensures.0 w.if-agree_with.true, w.agree_with-then-agree_with.ensures.0 second, c.agree_with-then-agree_with-2.ensures.0 t),
        λ bags. c.agree_with-then-agree_with-2.ensures.1 (one.1 bags).2,
      )
  | else-agree_with w ↦ absurd cc
]

pub returns-else-agree_with-2 : goal.returns-else-agree_with-2
returns-else-agree_with-2 c = elim c.if-agree_with.branch [
  | then-agree_with w ↦ λ takes races origins takes' races' origins' h k.
      let one = told_alike takes races origins takes' races' origins' c.args.self.now c.args.others.now h k in (
        λ t. absurd (true≢false (sym t ∙ c.if-agree_with-2.false)),
        λ bags. let second = w.agree_with-then-agree_with.ensures.1 (one.1 bags).1 in w.value-is ∙ second,
      )
  | else-agree_with w ↦ λ takes races origins takes' races' origins' h k.
      let one = told_alike takes races origins takes' races' origins' c.args.self.now c.args.others.now h k in (
        λ t. absurd (true≢false (sym t ∙ c.if-agree_with-2.false)),
        λ bags. let first = c.agree_with.ensures.1 (one.1 bags).0 in absurd (true≢false (sym first ∙ w.if-agree_with.false)),
      )
]
