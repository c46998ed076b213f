-- What is reported or dropped is one of four things.
use Rattle.std.proofs.Common.{◌≡◌, ◌+◌, ◌∷◌, [], Bool, List, Some, arith, cond, count_by, refl, ℕ}
use Rattle.std.proofs.lemmas.List.Sums.{sum_by-cons}
use Rattle.oracle_soundness.specs.oracle_headline.Tried.{came_so, is_answer}
use Rattle.oracle_soundness.specs.declared.oracle_headline.told.Came.{Came}
use Rattle.setup_access.specs.declared.outcome.Outcome.{Outcome}
use Rattle.setup_access.specs.declared.outcome.Outcome.TheVariants as outcomes
use Rattle.task_log.specs.Counters.{is_encoding, is_masked, is_same, is_two_sided}
use Rattle.value_filter.specs.declared.verdict.Reason.TheVariants.{Encoding, SameValue, MaskedBits}

-- 1 where the test says yes, else 0
abbrev one : Bool → ℕ
one test = cond test 1 0

one_of_four : (outcome : Outcome) → one (is_answer outcome)
    ≡ one (is_two_sided (Some outcome)) + one (is_encoding (Some outcome)) + one (is_same (Some outcome))
    + one (is_masked (Some outcome))
one_of_four (outcomes.Report pair seen) = refl
one_of_four (outcomes.Dropped Encoding) = refl
one_of_four (outcomes.Dropped SameValue) = refl
one_of_four (outcomes.Dropped MaskedBits) = refl
one_of_four outcome = refl

pub answered_sum : (outcomes : List Came) → count_by (λ came. is_answer came.outcome) outcomes
    ≡ came_so is_two_sided outcomes + came_so is_encoding outcomes + came_so is_same outcomes + came_so is_masked outcomes
answered_sum [] = refl
answered_sum (came ∷ others) =
    let rest = answered_sum others in
    let first = one_of_four came.outcome in
    let answers = sum_by-cons (λ (c : Came). one (is_answer c.outcome)) came others in
    let two_sided = sum_by-cons (λ (c : Came). one (is_two_sided (Some c.outcome))) came others in
    let encoding = sum_by-cons (λ (c : Came). one (is_encoding (Some c.outcome))) came others in
    let same = sum_by-cons (λ (c : Came). one (is_same (Some c.outcome))) came others in
    let masked = sum_by-cons (λ (c : Came). one (is_masked (Some c.outcome))) came others in
    omega arith
