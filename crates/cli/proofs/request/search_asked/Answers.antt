-- by how many files there are and in which format
use Rattle.std.proofs.Common.{◌≡◌, ◌<◌, ◌≤◌, ap, arith, length, rules, subst}
use Rattle.clap.specs.Words.{found_of, rows_of}
use Rattle.cli.proofs.SearchLemmas.{asked_format, asked_one, asked_search, asked_several, some_file}
use Rattle.cli.proofs.ValueLemmas.{is_there}
use Rattle.cli.specs.Words.{AskFormat}
use Rattle.cli.specs.declared.request.SearchFormat.TheVariants as search_formats
use Rattle.cli.proofs.request.search_asked.Goals as goal

pub returns-in_default-clause-complete : goal.returns-in_default-clause-complete
returns-in_default-clause-complete c = λ request keeps asks.
    let values = rows_of (found_of c.args.search.now) in
    let format = asked_format values (asked_search values request keeps asks) in
    absurd (is_there c.search_format_asked.result c.in_default.not-Some (c.search_format_asked.ensures.complete format.0 format.1.0 format.1.1))

pub returns-in-empty-default-clause-complete : goal.returns-in-empty-default-clause-complete
returns-in-empty-default-clause-complete c = λ request keeps asks.
    let values = rows_of (found_of c.args.search.now) in
    let some : 0 < length c.in_ok-files.files.items =
    some_file values c.in_ok-files.files.items c.in_ok-files.ensures (asked_search values request keeps asks) in
    let long = ap length c.as_slice.ensures.value in
    absurd (omega arith)

pub returns-in-len1-Text-clause-complete : goal.returns-in-len1-Text-clause-complete
returns-in-len1-Text-clause-complete c = λ request keeps asks.
    let values = rows_of (found_of c.args.search.now) in
    let long = ap length c.as_slice.ensures.value in
    let few : length c.in_ok-files.files.items < 2 = omega arith in
    let text : AskFormat values search_formats.Text =
    subst (AskFormat values) c.in-len1-Text.is-1 c.in-Some.ensures.asked in
    let one = asked_one values c.in_ok-files.files.items c.in_ok-files.ensures few text (asked_search values request keeps asks) in
    c.search_request.ensures.complete one.0 one.1.0 one.1.1

pub returns-clause-complete : goal.returns-clause-complete
returns-clause-complete c = λ request keeps asks.
    let values = rows_of (found_of c.args.search.now) in
    let long = ap length c.as_slice.ensures.value in
    let several : c.in-Some.format ≡ search_formats.Text → 2 ≤ length c.in_ok-files.files.items = search rules in
    let asked = asked_several values c.in_ok-files.files.items c.in-Some.format c.in_ok-files.ensures several c.in-Some.ensures.asked
    (asked_search values request keeps asks) in
    c.searches_request.ensures.complete asked.0 asked.1.0 asked.1.1
