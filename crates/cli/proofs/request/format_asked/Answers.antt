-- the name is the value of the option
use Rattle.std.proofs.Common.{ap, codes, if◌then◌else◌}
use Rattle.clap.specs.Words.{found_of}
use Rattle.cli.proofs.ValueLemmas.{some_read, text_there}
use Rattle.cli.specs.declared.request.RacesFormat.TheVariants as race_formats
use Rattle.cli.proofs.request.format_asked.Goals as goal

pub returns-then-eq-clause-asked : goal.returns-then-eq-clause-asked
returns-then-eq-clause-asked c = record {
  name = c.in_ok-name.name.now;
  given = some_read (found_of c.args.matches.now) (codes "format") c.get_str.result _ c.get_str.ensures c.in_ok-name.was;
  is = ap (λ same. if same then race_formats.Json else race_formats.Text) c.if-eq.ensures;
}

pub returns-else-eq-clause-asked : goal.returns-else-eq-clause-asked
returns-else-eq-clause-asked c = record {
  name = c.in_ok-name.name.now;
  given = some_read (found_of c.args.matches.now) (codes "format") c.get_str.result _ c.get_str.ensures c.in_ok-name.was;
  is = ap (λ same. if same then race_formats.Json else race_formats.Text) c.if-eq.ensures;
}

pub returns-in_err-name-clause-complete : goal.returns-in_err-name-clause-complete
returns-in_err-name-clause-complete c = λ format asks.
    absurd (text_there (found_of c.args.matches.now) (codes "format") c.get_str.result asks.name c.get_str.ensures
    asks.given c.in_err-name.was)
