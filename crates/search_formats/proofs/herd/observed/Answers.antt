-- The word and the counts, with blanks between them.
use Rattle.std.proofs.Common.{◌≡◌, ◌∙◌, ◌++◌, ℕ, [], List, ap, codes}
use Rattle.std.proofs.lemmas.List.{append_assoc}
use Rattle.access_types.specs.ReportText.{line}
use Rattle.search_formats.proofs.herd.observed.Goals as goal
use Rattle.search_text.specs.Write.{count_text, observed, word_of}

abbrev pieces : (word held failed : List ℕ) → List ℕ
pieces word held failed = codes " " ++ (word ++ (codes " " ++ (held ++ (codes " " ++ (failed ++ (codes "\n" ++ []))))))

same : (word held failed w h f : List ℕ) → word ≡ w → held ≡ h → failed ≡ f → pieces word held failed ≡ pieces w h f
same word held failed w h f p q r =
    ap (λ (t : List ℕ). pieces t held failed) p ∙ ap (λ (t : List ℕ). pieces w t failed) q ∙ ap (λ (t : List ℕ). pieces w h t) r

told : (word held failed : List ℕ)
    → pieces word held failed ≡ line (codes " " ++ word ++ codes " " ++ held ++ codes " " ++ failed)
told word held failed = simp append_assoc

pub returns : goal.returns
unfolding observed
returns c =
    let word = word_of c.args.held c.args.failed in
    let held = count_text c.args.held in
    let failed = count_text c.args.failed in
    c.in_ok-text.ensures
    ∙ same _ _ _ word held failed (c.as_bytes.ensures.value ∙ c.word.ensures) (c.deref.ensures.value ∙ c.in_ok-positive.ensures)
    (c.deref-2.ensures.value ∙ c.in_ok-negative.ensures)
    ∙ told word held failed
