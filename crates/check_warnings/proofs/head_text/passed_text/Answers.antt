-- The `C` is the first byte of text, and behind the test's name comes what is passed over.
use Rattle.check_warnings.proofs.HeadLemmas.{found_behind, nothing_found}
use Rattle.check_warnings.proofs.head_text.passed_text.Goals as goal

pub returns-in_err-letter-clause-exact : goal.returns-in_err-letter-clause-exact
returns-in_err-letter-clause-exact c = λ name at head.
    nothing_found c.args.text.now c.from_residual.result c.in_err-letter.ensures.exact c.from_residual.ensures name at head

pub returns-clause-exact : goal.returns-clause-exact
returns-clause-exact c = λ name at head.
    found_behind c.args.text.now c.in_ok-letter.letter c.text_at-2.result c.in_ok-letter.ensures.exact c.text_at-2.ensures.exact name at head
