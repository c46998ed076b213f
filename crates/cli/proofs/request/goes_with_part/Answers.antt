-- each is what was read of its option
use Rattle.std.proofs.Common.{◌≡◌, ◌∙◌, codes, rules, sym}
use Rattle.clap.specs.Words.{found_of, rows_of}
use Rattle.cli.proofs.PartLemmas.{goes_by, value_or}
use Rattle.cli.proofs.request.goes_with_part.Goals as goal

pub returns : goal.returns
returns c =
    let value = value_or (found_of c.args.search.now) (codes "format") c.get_str.result _ c.unwrap_or.result c.get_str.ensures c.unwrap_or.ensures in
    let one : c.args.files ≡ 1 = search rules in
    goes_by (rows_of (found_of c.args.search.now)) c.has_value.result c.is_output_asked.result c.eq.result c.unwrap_or.result.now
    (sym c.requires ∙ one) c.has_value.ensures c.if-has_value.false c.is_output_asked.ensures c.if-is_output_asked.false c.eq.ensures value
