-- it answered no so often
use Rattle.run_stats.specs.Asked.{AnswersNo}
use Rattle.run_stats.proofs.turns.turns_until.Given as goal

abbrev pub invariant-loop-turn : goal.invariant-loop-turn
invariant-loop-turn g l =
    goal.F-IsAlwaysCallable g l.is_so
    × AnswersNo (λ from answer to. goal.F-step g from answer to) l.turn l.fn.is_so l.is_so
