-- each value is that of its option
use Rattle.std.proofs.Common.{◌∙◌, ap, codes, false, refl, sym}
use Rattle.clap.specs.Words.{found_of, rows_of}
use Rattle.cli.proofs.ValueLemmas.{flag_read, none_holds, not_missing, text_read}
use Rattle.cli.specs.Bounds.{MayBeAsked}
use Rattle.cli.specs.Words.{IsAskedBy, choice_of}
use Rattle.cli.proofs.request.search_request.Goals as goal

pub returns : goal.returns
returns c = record {
  bounds = record {
    switches = c.in_ok-switches_asked.ensures.bounds;
    limit = c.in_ok-number.ensures.within.0;
    limit_to = c.in_ok-number.ensures.within.1;
    seconds = c.in_ok-number_if_given.ensures.within;
    jobs = c.in_ok-number-2.ensures.within.0;
    jobs_to = c.in_ok-number-2.ensures.within.1;
    options = c.in_ok-options.ensures.bounds;
  };
  asked = (
    refl,
    record {
      file = c.requires.file;
      switches = c.in_ok-switches_asked.ensures.asked;
      limit = c.in_ok-number.ensures.asked;
      seconds = c.in_ok-number_if_given.ensures.asked;
      reduces = c.choice.ensures
          ∙ ap (λ word. choice_of word false) (sym (text_read (found_of c.args.search.now) (codes "reduce") c.get_str.result c.get_str.ensures));
      jobs = c.in_ok-number-2.ensures.asked;
      format = c.requires.format;
      settings_line = flag_read (found_of c.args.search.now) (codes "settings") c.get_flag.result c.get_flag.ensures.none c.get_flag.ensures.value
          c.get_flag.ensures.other;
      options = c.in_ok-options.ensures.asked;
    },
  );
  complete = λ request bounds asks. refl;
}

pub returns-in_err-switches_asked : goal.returns-in_err-switches_asked
returns-in_err-switches_asked c = record {
  bounds = none_holds MayBeAsked c.from_residual.result c.from_residual.ensures;
  asked = none_holds (IsAskedBy (codes "search") (rows_of (found_of c.args.search.now))) c.from_residual.result c.from_residual.ensures;
  complete = λ request bounds asks.
      absurd (not_missing c.switches_asked.result (c.switches_asked.ensures.complete request.switches bounds.switches asks.switches) c.in_err-switches_asked.was);
}

pub returns-in_err-number : goal.returns-in_err-number
returns-in_err-number c = record {
  bounds = none_holds MayBeAsked c.from_residual-in_err-number.result c.from_residual-in_err-number.ensures;
  asked = none_holds (IsAskedBy (codes "search") (rows_of (found_of c.args.search.now))) c.from_residual-in_err-number.result c.from_residual-in_err-number.ensures;
  complete = λ request bounds asks.
      absurd (not_missing c.number.result (c.number.ensures.complete request.limit bounds.limit bounds.limit_to asks.limit) c.in_err-number.was);
}

pub returns-in_err-number_if_given : goal.returns-in_err-number_if_given
returns-in_err-number_if_given c = record {
  bounds = none_holds MayBeAsked c.from_residual-in_err-number_if_given.result c.from_residual-in_err-number_if_given.ensures;
  asked = none_holds (IsAskedBy (codes "search") (rows_of (found_of c.args.search.now))) c.from_residual-in_err-number_if_given.result c.from_residual-in_err-number_if_given.ensures;
  complete = λ request bounds asks.
      absurd (not_missing c.number_if_given.result (c.number_if_given.ensures.complete request.seconds bounds.seconds asks.seconds) c.in_err-number_if_given.was);
}

pub returns-in_err-number-2 : goal.returns-in_err-number-2
returns-in_err-number-2 c = record {
  bounds = none_holds MayBeAsked c.from_residual-in_err-number-2.result c.from_residual-in_err-number-2.ensures;
  asked = none_holds (IsAskedBy (codes "search") (rows_of (found_of c.args.search.now))) c.from_residual-in_err-number-2.result c.from_residual-in_err-number-2.ensures;
  complete = λ request bounds asks.
      absurd (not_missing c.number-2.result (c.number-2.ensures.complete request.jobs bounds.jobs bounds.jobs_to asks.jobs) c.in_err-number-2.was);
}

pub returns-in_err-options : goal.returns-in_err-options
returns-in_err-options c = record {
  bounds = none_holds MayBeAsked c.from_residual-in_err-options.result c.from_residual-in_err-options.ensures;
  asked = none_holds (IsAskedBy (codes "search") (rows_of (found_of c.args.search.now))) c.from_residual-in_err-options.result c.from_residual-in_err-options.ensures;
  complete = λ request bounds asks.
      absurd (not_missing c.options.result (c.options.ensures.complete request.options bounds.options asks.options) c.in_err-options.was);
}
