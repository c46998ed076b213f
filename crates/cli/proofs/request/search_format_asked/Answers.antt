-- by whether `--part` is given
use Rattle.std.proofs.Common.{codes, inl}
use Rattle.clap.specs.Words.{found_of, rows_of}
use Rattle.cli.proofs.PartLemmas.{asked_part, not_both, not_there, part_asked}
use Rattle.cli.proofs.ValueLemmas.{some_read}
use Rattle.cli.proofs.request.search_format_asked.Goals as goal

pub returns-in_default-clause-asked : goal.returns-in_default-clause-asked
returns-in_default-clause-asked c =
    inl (not_there (found_of c.args.search.now) (codes "part") c.get_str.result c.get_str.ensures c.in_default.not-Some, c.search_format_named.ensures.named)

pub returns-then-not-goes_with_part-clause-complete : goal.returns-then-not-goes_with_part-clause-complete
returns-then-not-goes_with_part-clause-complete c = λ format keeps asks.
    let given = some_read (found_of c.args.search.now) (codes "part") c.get_str.result _ c.get_str.ensures c.in-Some.is in
    let asked = asked_part (rows_of (found_of c.args.search.now)) c.in-Some.text.now format given asks in
    absurd (not_both c.goes_with_part.result c.if-not-goes_with_part.true (c.goes_with_part.ensures.1 asked.1))

pub returns-clause-asked : goal.returns-clause-asked
returns-clause-asked c =
    let given = some_read (found_of c.args.search.now) (codes "part") c.get_str.result _ c.get_str.ensures c.in-Some.is in
    part_asked (rows_of (found_of c.args.search.now)) c.in-Some.text.now c.part_of.result given
    (c.goes_with_part.ensures.0 c.if-not-goes_with_part.false) c.part_of.ensures.asked

pub returns-clause-complete : goal.returns-clause-complete
returns-clause-complete c = λ format keeps asks.
    let given = some_read (found_of c.args.search.now) (codes "part") c.get_str.result _ c.get_str.ensures c.in-Some.is in
    let asked = asked_part (rows_of (found_of c.args.search.now)) c.in-Some.text.now format given asks in
    c.part_of.ensures.complete format keeps asked.0
