-- What was asked of tasks was asked of them in a view of their states too, where moves and ends are kept.
use Rattle.std.proofs.Common.{◌↔◌, ℕ, List, [], ◌∷◌, ap, inl, inr}
use Rattle.prepared_program.specs.step_schedule.Order.{AreAsked, IsAsked, Tasks}

-- what was asked of tasks in states was asked of them in what is seen of these states, where as much is known of them
module _ {S T : Type 0} (known : Tasks S) (others : Tasks T) (view : S → T)
    (moves : (task : ℕ) (before after : S) → known.Moves task before after → others.Moves task (view before) (view after))
    (ended : (task : ℕ) (at : S) → known.HasEnded task at ↔ others.HasEnded task (view at))
    (stuck : (task : ℕ) (at : S) → others.IsStuck task (view at) → known.IsStuck task at) where
  asked_so : (task : ℕ) (before after : S) → IsAsked known task before after → IsAsked others task (view before) (view after)
  asked_so task before after (inl rests) = inl ((ended task before).0 rests.0, ap view rests.1)
  asked_so task before after (inr goes) =
      inr ((λ has. goes.0 ((ended task before).1 has)), moves task before after goes.1)

  pub seen_so : (tasks : ℕ) (before : S) (order : List ℕ) (after : S) → AreAsked known tasks before order after
      → AreAsked others tasks (view before) order (view after)
  unfolding AreAsked
  seen_so tasks before [] after same = ap view same
  seen_so tasks before (task ∷ order) after asked = (
    view asked.0,
    (
      (λ other below is. asked.1.0 other below (stuck other before is)),
      asked_so task before asked.0 asked.1.1,
      seen_so tasks asked.0 order after asked.1.2,
    ),
  )
