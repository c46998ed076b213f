-- both are what is read there
use Rattle.std.proofs.Common.{◌≡◌, ◌∙◌, ℕ, List, ap, sym}
use Rattle.report_text.specs.declared.line.Line.{Line}
use Rattle.trace_replay.specs.trace_lines.LineReaders.{line_at}
use Rattle.trace_replay.proofs.trace_lines.LineTexts.{line_there}
use Rattle.trace_replay.proofs.trace_lines.Words.{same_given}
use Rattle.trace_replay.proofs.trace_lines.laws.law_lines_are_told_apart.Goals as goal

same_pair : (one other : Line) (rest more : List ℕ) → ◌≡◌ {A = Line × List ℕ} (one, rest) (other, more) → (one ≡ other) × (rest ≡ more)
same_pair one other rest more e = (ap (λ (p : Line × List ℕ). p.0) e, ap (λ (p : Line × List ℕ). p.1) e)

pub returns : goal.returns
returns c = λ one other rest more is_one is_other same.
    same_pair one other rest more (same_given (one, rest) (other, more)
    (sym (line_there one rest is_one) ∙ ap line_at same ∙ line_there other more is_other))
