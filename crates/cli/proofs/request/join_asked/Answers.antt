-- parts are asked for of one file at least
use Rattle.std.proofs.Common.{◌≡◌, codes, length, refl, rules}
use Rattle.clap.specs.Words.{found_of, rows_of}
use Rattle.cli.proofs.JoinLemmas.{no_part}
use Rattle.cli.proofs.ValueLemmas.{flag_read}
use Rattle.cli.proofs.request.join_asked.Goals as goal

pub returns-then-is_empty-clause-complete : goal.returns-then-is_empty-clause-complete
returns-then-is_empty-clause-complete c = λ request keeps asks.
    let none : length c.in_ok-files.files.items ≡ 0 = search rules in
    absurd (no_part (rows_of (found_of c.args.join.now)) c.in_ok-files.files.items request c.in_ok-files.ensures none keeps asks)

pub returns-clause-asked : goal.returns-clause-asked
returns-clause-asked c = (
  refl,
  record {
    files = c.in_ok-files.ensures;
    located = flag_read (found_of c.args.join.now) (codes "where") c.get_flag.result c.get_flag.ensures.none c.get_flag.ensures.value
        c.get_flag.ensures.other;
    settings_line = flag_read (found_of c.args.join.now) (codes "settings") c.get_flag-2.result c.get_flag-2.ensures.none c.get_flag-2.ensures.value
        c.get_flag-2.ensures.other;
  },
)
