-- The pair that is found is the first, since none stood before it; at the end none stands anywhere.
use Rattle.std.proofs.Common.{◌≡◌, ℕ, suc, ◌+◌, ◌-◌, ◌<◌, List, ap, arith, get_or, length, subst, take, ◌∙◌}
use Rattle.litmus_lex.specs.Bytes.{EndsAtPair}
use Rattle.litmus_lex.proofs.Runs.{IsPairAt, ends_at_pair_from_reads, lacks_pair_from_reads}
use Rattle.litmus_lex.proofs.bytes.pair_len.Goals as goal

-- the same, where the pair's second byte stands at `at`
found_at : (first second : ℕ) (bytes : List ℕ) (at : ℕ) → 0 < at → at < length bytes
    → ((k : ℕ) → suc k < at → IsPairAt first second bytes k → ⊥)
    → get_or bytes (at - 1) 0 ≡ first → get_or bytes at 0 ≡ second
    → EndsAtPair first second (take (at + 1) bytes)
found_at first second bytes at some within before front back =
    let ends : suc (suc (at - 1)) ≡ at + 1 = omega arith in
    let second_is : suc (at - 1) ≡ at = omega arith in
    subst (λ n. EndsAtPair first second (take n bytes)) ends
    (ends_at_pair_from_reads first second bytes (at - 1) (omega arith)
    (λ k below pair. before k (omega arith) pair)
    (front, ap (λ n. get_or bytes n 0) second_is ∙ back))

pub returns-then-bytes-at-2-clause-found : goal.returns-then-bytes-at-2-clause-found
returns-then-bytes-at-2-clause-found c =
    found_at _ _ _ _ (omega arith)
    (omega arith) c.loop-at.invariant c.if-bytes-at.true c.if-bytes-at-2.true

pub returns-clause-none : goal.returns-clause-none
returns-clause-none c =
    lacks_pair_from_reads _ _ _ (λ k below pair. c.loop-at.invariant k (omega arith) pair)
