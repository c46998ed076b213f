-- the name is the value of the option, or else `text`
use Rattle.std.proofs.Common.{◌∙◌, ap, codes, sym}
use Rattle.clap.specs.Words.{found_of}
use Rattle.cli.specs.Words.{search_format_of}
use Rattle.cli.proofs.PartLemmas.{value_or}
use Rattle.cli.proofs.SearchLemmas.{text_format}
use Rattle.cli.proofs.request.search_format_named.Goals as goal

pub returns-in-json-clause-named : goal.returns-in-json-clause-named
returns-in-json-clause-named c =
    let value = value_or (found_of c.args.search.now) (codes "format") c.get_str.result _ c.unwrap_or.result c.get_str.ensures c.unwrap_or.ensures in
    sym (ap search_format_of (sym value ∙ c.in-json.is))

pub returns-in-csv-clause-named : goal.returns-in-csv-clause-named
returns-in-csv-clause-named c =
    let value = value_or (found_of c.args.search.now) (codes "format") c.get_str.result _ c.unwrap_or.result c.get_str.ensures c.unwrap_or.ensures in
    sym (ap search_format_of (sym value ∙ c.in-csv.is))

pub returns-in-herd-clause-named : goal.returns-in-herd-clause-named
returns-in-herd-clause-named c =
    let value = value_or (found_of c.args.search.now) (codes "format") c.get_str.result _ c.unwrap_or.result c.get_str.ensures c.unwrap_or.ensures in
    sym (ap search_format_of (sym value ∙ c.in-herd.is))

pub returns-in_default-clause-named : goal.returns-in_default-clause-named
returns-in_default-clause-named c =
    let value = value_or (found_of c.args.search.now) (codes "format") c.get_str.result _ c.unwrap_or.result c.get_str.ensures c.unwrap_or.ensures in
    sym (ap search_format_of (sym value) ∙ text_format c.unwrap_or.result.now c.in_default.not-json c.in_default.not-csv c.in_default.not-herd)
