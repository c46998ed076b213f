-- A counter has the number of noted steps that pass its test, up to the largest number of 64 bits.
use Rattle.std.proofs.Common.{◌≡◌, ◌+◌, ◌∙◌, ◌∷◌, ℕ, Bool, true, false, List, ap, arith, sym}
use Rattle.std.proofs.lemmas.List.Sums.{sum_by-cons}
use Rattle.std.specs.Prelude.{count_by, if◌then◌else◌}
use Rattle.task_log.specs.Counters.{counting, resting}
use Rattle.task_log.specs.declared.noted.Noted.{Noted}

one_more : (more : Bool) (n : ℕ) → counting more (resting n) ≡ resting ((if more then 1 else 0) + n)
one_more true n = omega arith
one_more false n = omega arith

-- one more step is counted, or not
pub counted : (p : Noted → Bool) (noted : Noted) (own : List Noted) (old new : ℕ)
    → new ≡ counting (p noted) old → old ≡ resting (count_by p own) → new ≡ resting (count_by p (noted ∷ own))
counted p noted own old new counts kept =
    counts ∙ ap (counting (p noted)) kept ∙ one_more (p noted) (count_by p own)
    ∙ ap resting (sym (sum_by-cons (λ (n : Noted). if p n then 1 else 0) noted own))
