-- The line of the text is that of the part, which is read of it, and whose text it is.
use Rattle.std.proofs.Common.{◌∙◌, ap, subst, sym}
use Rattle.std.specs.Prelude.{IsUtf8}
use Rattle.std.proofs.lemmas.List.{same_from_push}
use Rattle.std.proofs.lemmas.Result.{MatchResult-weaker, err_from_is_err_and}
use Rattle.part_search.specs.part_file.Texts.{line_of, text_of}
use Rattle.serde_json.specs.Read.{read}
use Rattle.part_search.proofs.part_file.text.read_part.Goals as goal

pub returns-in_default-clause-back : goal.returns-in_default-clause-back
returns-in_default-clause-back c = λ part of. absurd (c.in_default.ensures (line_of part) of.written)

pub returns-in_err-part-clause-back : goal.returns-in_err-part-clause-back
returns-in_err-part-clause-back c = λ part of.
    let p = err_from_is_err_and c.from_residual.result c.from_residual.ensures.1 in
    let line = (same_from_push c.in-Some.line.now (line_of part) 10 10 (sym c.in-Some.ensures ∙ of.written)).0 in
    rw (p.1, p.2) (c.in_err-part.ensures part (subst IsUtf8 (sym line) of.valid) (ap read line ∙ of.spelled) of.back)

pub returns-clause-back : goal.returns-clause-back
returns-clause-back c = λ part of.
    let line = (same_from_push c.in-Some.line.now (line_of part) 10 10 (sym c.in-Some.ensures ∙ of.written)).0 in
    let is = c.in_ok-part.ensures part (subst IsUtf8 (sym line) of.valid) (ap read line ∙ of.spelled) of.back in
    MatchResult-weaker c.checked.result (c.checked.ensures.back (of.written ∙ ap text_of (sym is))) (λ again same. same ∙ is) (λ error memory. memory)
