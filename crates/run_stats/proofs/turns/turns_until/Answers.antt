-- it was asked as often as may be
use Rattle.std.proofs.Common.{◌≡◌, ℕ, arith, inl, refl, subst}
use Rattle.run_stats.specs.Asked.{AnswersNo}
use Rattle.run_stats.proofs.turns.turns_until.Goals as goal

pub returns : goal.returns
returns g c =
    let over : c.loop-turn.turn ≡ c.args.most = omega (arith, c.loop-turn-test.false, c.loop-turn.auto.turn-end) in (
      c.loop-turn.is_so,
      subst (λ (n : ℕ). AnswersNo (λ from answer to. goal.F-step g from answer to) n c.args.is_so c.loop-turn.is_so) over c.loop-turn.invariant.1,
      inl refl,
    )
