-- races are asked for of one file at least
use Rattle.std.proofs.Common.{◌≡◌, length, rules}
use Rattle.clap.specs.Words.{found_of, rows_of}
use Rattle.cli.proofs.RacesLemmas.{no_file}
use Rattle.cli.proofs.request.races_asked.Goals as goal

pub returns-then-is_empty-clause-complete : goal.returns-then-is_empty-clause-complete
returns-then-is_empty-clause-complete c = λ request keeps asks.
    let none : length c.in_ok-files.files.items ≡ 0 = search rules in
    absurd (no_file (rows_of (found_of c.args.races.now)) c.in_ok-files.files.items request c.in_ok-files.ensures none keeps asks)
