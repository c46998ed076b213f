-- the pieces spell the line
use Rattle.std.proofs.Common.{◌≡◌, ◌++◌, ◌∙◌, [], List, ap, append_assoc, append-nil, codes, ℕ}
use Rattle.std.specs.Fmt.{decimal}
use Rattle.access_types.specs.ReportText.{line}
use Rattle.report_text.proofs.SinkSteps.{writes_same}
use Rattle.search_text.specs.Write.{at_least, count_text, observed, word_of}
use Rattle.search_text.proofs.write.write_observed.Goals as goal

-- a word and two numbers, each behind what stands before it
spelled : (blank word one held two failed end : List ℕ)
    → blank ++ (word ++ (blank ++ (one ++ (held ++ (blank ++ (two ++ (failed ++ (end ++ []))))))))
    ≡ (blank ++ word ++ blank ++ (one ++ held) ++ blank ++ (two ++ failed)) ++ end
spelled blank word one held two failed end = simp (append_assoc, append-nil)

abbrev line_of : (word one held two failed : List ℕ) → List ℕ
line_of word one held two failed = line (codes " " ++ word ++ codes " " ++ (one ++ held) ++ codes " " ++ (two ++ failed))

pub returns : goal.returns
unfolding count_text observed
returns g c =
    let held = decimal c.args.held in
    let failed = decimal c.args.failed in
    let own = word_of c.args.held c.args.failed in
    writes_same g.K.Sink.written g.K.Sink.failures _ _ _ _ _
    (spelled (codes " ") c.word.result.now c.at_least.result.now held c.at_least-2.result.now failed (codes "\n")
    ∙ ap (λ word. line_of word c.at_least.result.now held c.at_least-2.result.now failed) c.word.ensures
    ∙ ap (λ one. line_of own one held c.at_least-2.result.now failed) c.at_least.ensures
    ∙ ap (λ two. line_of own (at_least c.args.held) held two failed) c.at_least-2.ensures) c.write_pieces.ensures
