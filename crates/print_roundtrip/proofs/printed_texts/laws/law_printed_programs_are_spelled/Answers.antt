-- Part by part.
use Rattle.std.proofs.Common.{sym, subst}
use Rattle.litmus_expression.specs.Followed.{Differ}
use Rattle.litmus_expression.specs.Names.{Names}
use Rattle.print_roundtrip.proofs.printed_texts.Programs.{program_printed}
use Rattle.print_roundtrip.proofs.printed_texts.Wholes.{names_are, own_names}
use Rattle.print_roundtrip.proofs.printed_texts.laws.law_printed_programs_are_spelled.Goals as goal

pub returns : goal.returns
returns c = λ symbols program grammar nests.
    let n = names_are symbols program grammar in
    program_printed symbols program grammar n.differ n.few
    (subst (λ (l : Names). Differ l) (sym (own_names grammar.declared)) n.differ) n.whole nests
