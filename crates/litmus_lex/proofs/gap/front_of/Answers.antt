-- A comment that opens at the front is the front's separator with the bytes that close it.
use Rattle.std.proofs.lemmas.List.{take_rest}
use Rattle.litmus_lex.proofs.Separators.{comment_first}
use Rattle.litmus_lex.proofs.gap.front_of.Goals as goal

pub returns-in-Some-comment_len : goal.returns-in-Some-comment_len
returns-in-Some-comment_len c =
    let found = c.in-Some-comment_len.ensures in
    let first = comment_first _ _ _ _ _ c.in-len2-up.len_at_least
    (take_rest _ 2) c.in-Some.ensures.found found.within found.found in
    (first.some, first.within, first.stands)
