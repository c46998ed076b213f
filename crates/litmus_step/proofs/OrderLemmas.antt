-- Tasks that are asked one after the other.
use Rattle.std.proofs.Common.{◌≡◌, ◌++◌, ◌∙◌, ◌+◌, ◌∷◌, [], ℕ, zero, suc, List, ap, arith, inl, refl, replicate, subst}
use Rattle.prepared_program.specs.step_schedule.Order.{AreAsked, IsAsked, NobodyIsStuck, Tasks}

module _ {State : Type 0} (known : Tasks State) (tasks : ℕ) where
  pub asked_none : (state : State) → AreAsked known tasks state [] state
  unfolding AreAsked
  asked_none state = refl

  pub asked_one : (before after : State) (task : ℕ) → NobodyIsStuck known tasks before → IsAsked known task before after
      → AreAsked known tasks before (task ∷ []) after
  unfolding AreAsked
  asked_one before after task nobody asked = (after, (nobody, asked, refl))

  pub asked_then : (before between after : State) (order more : List ℕ) → AreAsked known tasks before order between
      → AreAsked known tasks between more after → AreAsked known tasks before (order ++ more) after
  unfolding AreAsked
  asked_then before between after [] more first then =
      subst (λ (state : State). AreAsked known tasks state more after) first then
  asked_then before between after (task ∷ order) more first then =
      (first.0, (first.1.0, first.1.1, asked_then first.0 between after order more first.1.2 then))

  -- one that has ended is passed over, however often it is asked
  pub asked_ended : (state : State) (task times : ℕ) → NobodyIsStuck known tasks state → known.HasEnded task state
      → AreAsked known tasks state (replicate times task) state
  unfolding AreAsked
  asked_ended state task zero nobody ended = refl
  asked_ended state task (suc times) nobody ended =
      (state, (nobody, inl (ended, refl), asked_ended state task times nobody ended))

pub one_more : (times : ℕ) (task : ℕ) → replicate times task ++ task ∷ [] ≡ replicate (times + 1) task
one_more times task = let same : suc times ≡ times + 1 = omega arith in on times ∙ ap (λ n. replicate n task) same
  where
    on : (n : ℕ) → replicate n task ++ task ∷ [] ≡ replicate (suc n) task
    on zero = refl
    on (suc n) = ap (λ (rest : List ℕ). task ∷ rest) (on n)

pub some_more : (times more task : ℕ) → replicate times task ++ replicate more task ≡ replicate (times + more) task
some_more zero more task = let same : more ≡ zero + more = omega arith in ap (λ n. replicate n task) same
some_more (suc times) more task =
    let same : suc (times + more) ≡ suc times + more = omega arith in
    ap (λ (rest : List ℕ). task ∷ rest) (some_more times more task) ∙ ap (λ n. replicate n task) same
