-- By cases on the reason.
use Rattle.diagnostics.proofs.refusal_text.SomeLine.{ends_with_line}
use Rattle.diagnostics.proofs.refusal_text.laws.law_each_refusal_has_a_note.Goals as goal

pub returns : goal.returns
returns c = ends_with_line
