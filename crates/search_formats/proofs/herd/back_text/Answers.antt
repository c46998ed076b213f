-- The parts, one behind the other.
use Rattle.std.proofs.Common.{◌≡◌, ◌∙◌, ℕ, List, ap, codes, refl}
use Rattle.search_formats.proofs.Pieces.{five}
use Rattle.search_formats.proofs.herd.back_text.Goals as goal
use Rattle.search_formats.specs.Herd.{back_text, witnesses}
use Rattle.search_text.specs.Write.{observation_line}

same_witnesses : (held failed h f : ℕ) → held ≡ h → failed ≡ f → witnesses held failed ≡ witnesses h f
same_witnesses held failed h f p q = ap (λ n. witnesses n failed) p ∙ ap (witnesses h) q

same_line : (name n : List ℕ) (held failed h f : ℕ) → name ≡ n → held ≡ h → failed ≡ f
    → observation_line name held failed ≡ observation_line n h f
same_line name n held failed h f p q r =
    ap (λ t. observation_line t held failed) p ∙ ap (λ m. observation_line n m failed) q ∙ ap (λ m. observation_line n h m) r

pub returns : goal.returns
unfolding back_text
returns c =
    c.in_ok-text.ensures
    ∙ five _ _ (codes "Condition ") _ _ _ _ (codes "Condition ") _ _
    (c.deref.ensures.value ∙ (c.in_ok-witnesses.ensures ∙ same_witnesses _ _ _ _ c.held-held.ensures c.failed-failed.ensures))
    (c.as_bytes.ensures.value ∙ c.flag_line.ensures) refl (c.deref-2.ensures.value ∙ c.in_ok-condition.ensures)
    (c.deref-3.ensures.value
    ∙ (c.in_ok-observed.ensures ∙ same_line _ _ _ _ _ _ c.as_str.ensures c.held-held.ensures c.failed-failed.ensures))
