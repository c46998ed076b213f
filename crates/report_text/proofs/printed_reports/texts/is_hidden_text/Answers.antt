-- the title's beginning is that of one without an assertion
use Rattle.std.proofs.Common.{◌≡◌, ◌-◌, ◌∙◌, ◌∷◌, ◌&&◌, [], Bool, List, ap, arith, drop, length, sym, true, ℕ}
use Rattle.std.proofs.lemmas.List.{length-drop, take_all}
use Rattle.std.specs.List.{starts_with}
use Rattle.std.specs.Prelude.{nat_eq}
use Rattle.access_types.specs.ReportText.{rule}
use Rattle.report_text.specs.printed_reports.Texts.{behind_digits, head, is_hidden_text}
use Rattle.report_text.proofs.printed_reports.texts.is_hidden_text.Goals as goal

pub returns-then-starts_with : goal.returns-then-starts_with
unfolding rule is_hidden_text
returns-then-starts_with c =
    let text = c.args.text.now in
    let first : starts_with nat_eq text head ≡ true = sym c.starts_with.ensures.value ∙ c.if-starts_with.true in
    c.starts_with-then-starts_with.ensures.value
    ∙ ap (λ (rest : List ℕ). starts_with nat_eq rest (10 ∷ [])) c.behind_digits.ensures
    ∙ ap (λ (rest : List ℕ). starts_with nat_eq (behind_digits rest) (10 ∷ []))
    (take_all (length text - 93) (drop 93 text) (omega (arith, length-drop 93 text)))
    ∙ sym (ap (λ (b : Bool). b && starts_with nat_eq (behind_digits (drop (length head) text)) (10 ∷ [])) first)
