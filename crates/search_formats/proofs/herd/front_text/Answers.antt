-- The parts, one behind the other.
use Rattle.std.proofs.Common.{◌≡◌, ◌∙◌, ℕ, List, ap}
use Rattle.litmus_syntax.specs.declared.proposition.Quantifier.{Quantifier}
use Rattle.search_formats.proofs.Pieces.{three}
use Rattle.search_formats.proofs.herd.front_text.Goals as goal
use Rattle.search_formats.specs.Herd.{front_text, states_text, test_line, validated_line}

same_validated : (quantifier : Quantifier) (held failed h f : ℕ) → held ≡ h → failed ≡ f
    → validated_line quantifier held failed ≡ validated_line quantifier h f
same_validated quantifier held failed h f p q =
    ap (λ n. validated_line quantifier n failed) p ∙ ap (λ n. validated_line quantifier h n) q

same_test : (name kind n k : List ℕ) → name ≡ n → kind ≡ k → test_line name kind ≡ test_line n k
same_test name kind n k p q = ap (λ t. test_line t kind) p ∙ ap (test_line n) q

pub returns : goal.returns
unfolding front_text
returns c =
    c.in_ok-text.ensures
    ∙ three _ _ _ _ _ _
    (c.deref.ensures.value ∙ (c.in_ok-test.ensures ∙ same_test _ _ _ _ c.as_str.ensures c.kind_word.ensures))
    (c.deref-2.ensures.value ∙ (c.in_ok-states.ensures ∙ ap states_text c.states.ensures))
    (c.as_bytes.ensures.value ∙ (c.validated_line-validated.ensures ∙ same_validated _ _ _ _ _ c.held.ensures c.failed.ensures))
