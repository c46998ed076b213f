-- each value is that of its option
use Rattle.std.proofs.Common.{codes, refl}
use Rattle.clap.specs.Words.{found_of, rows_of}
use Rattle.cli.proofs.ValueLemmas.{none_holds, not_missing, text_read}
use Rattle.cli.specs.Bounds.{MayBeAsked}
use Rattle.cli.specs.Words.{IsAskedBy}
use Rattle.cli.proofs.request.races_request.Goals as goal

pub returns : goal.returns
returns c = record {
  bounds = record {
    some = c.requires.some;
    limit = c.in_ok-number.ensures.within.0;
    limit_to = c.in_ok-number.ensures.within.1;
    seconds = c.in_ok-number_if_given.ensures.within;
    jobs = c.in_ok-number-2.ensures.within.0;
    jobs_to = c.in_ok-number-2.ensures.within.1;
    options = c.in_ok-settings.ensures.bounds;
  };
  asked = (
    refl,
    record {
      files = c.requires.files;
      limit = c.in_ok-number.ensures.asked;
      seconds = c.in_ok-number_if_given.ensures.asked;
      jobs = c.in_ok-number-2.ensures.asked;
      format = c.in_ok-format_asked.ensures.asked;
      html = text_read (found_of c.args.races.now) (codes "html") c.get_str.result c.get_str.ensures;
      settings = c.in_ok-settings.ensures.asked;
      untraced = c.in_ok-settings.ensures.trace;
    },
  );
  complete = λ request bounds asks. refl;
}

pub returns-in_err-number : goal.returns-in_err-number
returns-in_err-number c = record {
  bounds = none_holds MayBeAsked c.from_residual.result c.from_residual.ensures;
  asked = none_holds (IsAskedBy (codes "races") (rows_of (found_of c.args.races.now))) c.from_residual.result c.from_residual.ensures;
  complete = λ request bounds asks.
      absurd (not_missing c.number.result (c.number.ensures.complete request.limit bounds.limit bounds.limit_to asks.limit) c.in_err-number.was);
}

pub returns-in_err-number_if_given : goal.returns-in_err-number_if_given
returns-in_err-number_if_given c = record {
  bounds = none_holds MayBeAsked c.from_residual-in_err-number_if_given.result c.from_residual-in_err-number_if_given.ensures;
  asked = none_holds (IsAskedBy (codes "races") (rows_of (found_of c.args.races.now))) c.from_residual-in_err-number_if_given.result c.from_residual-in_err-number_if_given.ensures;
  complete = λ request bounds asks.
      absurd (not_missing c.number_if_given.result (c.number_if_given.ensures.complete request.seconds bounds.seconds asks.seconds) c.in_err-number_if_given.was);
}

pub returns-in_err-number-2 : goal.returns-in_err-number-2
returns-in_err-number-2 c = record {
  bounds = none_holds MayBeAsked c.from_residual-in_err-number-2.result c.from_residual-in_err-number-2.ensures;
  asked = none_holds (IsAskedBy (codes "races") (rows_of (found_of c.args.races.now))) c.from_residual-in_err-number-2.result c.from_residual-in_err-number-2.ensures;
  complete = λ request bounds asks.
      absurd (not_missing c.number-2.result (c.number-2.ensures.complete request.jobs bounds.jobs bounds.jobs_to asks.jobs) c.in_err-number-2.was);
}

pub returns-in_err-format_asked : goal.returns-in_err-format_asked
returns-in_err-format_asked c = record {
  bounds = none_holds MayBeAsked c.from_residual-in_err-format_asked.result c.from_residual-in_err-format_asked.ensures;
  asked = none_holds (IsAskedBy (codes "races") (rows_of (found_of c.args.races.now))) c.from_residual-in_err-format_asked.result c.from_residual-in_err-format_asked.ensures;
  complete = λ request bounds asks.
      absurd (not_missing c.format_asked.result (c.format_asked.ensures.complete request.format asks.format) c.in_err-format_asked.was);
}

pub returns-in_err-settings : goal.returns-in_err-settings
returns-in_err-settings c = record {
  bounds = none_holds MayBeAsked c.from_residual-in_err-settings.result c.from_residual-in_err-settings.ensures;
  asked = none_holds (IsAskedBy (codes "races") (rows_of (found_of c.args.races.now))) c.from_residual-in_err-settings.result c.from_residual-in_err-settings.ensures;
  complete = λ request bounds asks.
      absurd (not_missing c.settings.result (c.settings.ensures.complete request.options bounds.options asks.settings) c.in_err-settings.was);
}
