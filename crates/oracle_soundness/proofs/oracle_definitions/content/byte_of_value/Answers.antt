-- each turn of the loop divides by 256 once more
use Rattle.std.proofs.Common.{◌≡◌, ◌+◌, ◌/◌, ◌^◌, ◌∙◌, ℕ, add-one, ap, refl}
use Rattle.std.proofs.Math.Nat.{div-div-eq-div-mul, pow-suc}
use Rattle.oracle_soundness.proofs.oracle_definitions.content.byte_of_value.Goals as goal

-- one byte more is one division more
one_byte_more : (value offset rest : ℕ) → rest ≡ value / 256 ^ offset
    → rest / 256 ≡ value / 256 ^ (offset + 1)
one_byte_more value offset rest so_far =
    ap (λ n. n / 256) so_far ∙ div-div-eq-div-mul value (256 ^ offset) 256
    ∙ rw (add-one, pow-suc) refl

pub loop-preserved : goal.loop-preserved
loop-preserved c = one_byte_more _ _ _ c.loop.invariant
