-- By whether the option has a value.
use Rattle.std.proofs.Common.{◌≤◌}
use Rattle.clap.specs.Words.{found_of}
use Rattle.cli.proofs.ValueLemmas.{none_read, not_missing, number_asked}
use Rattle.cli.proofs.request.number_if_given.Goals as goal

pub returns-in-None-clause-asked : goal.returns-in-None-clause-asked
returns-in-None-clause-asked c = none_read (found_of c.args.matches.now) c.args.option.now c.get_str.result c.get_str.ensures c.in-None.is

pub returns-in_err-number-in-Some-clause-complete : goal.returns-in_err-number-in-Some-clause-complete
returns-in_err-number-in-Some-clause-complete c = λ given bounds asks.
    let asked = number_asked (found_of c.args.matches.now) c.args.option.now c.get_str.result _ given c.get_str.ensures c.in-Some.is
    (λ number. (c.args.bounds.0 ≤ number) × (number ≤ c.args.bounds.1)) bounds asks in
    absurd (not_missing c.number.result (c.number.ensures.complete asked.0 asked.1.0 asked.1.1 asked.2) c.in_err-number-in-Some.was)
