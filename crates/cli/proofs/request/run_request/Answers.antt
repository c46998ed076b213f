-- each value is that of its option
use Rattle.std.proofs.Common.{arith, codes, refl}
use Rattle.clap.specs.Words.{found_of, rows_of}
use Rattle.cli.proofs.ValueLemmas.{flag_read, none_holds, not_missing, some_read, text_there}
use Rattle.cli.specs.Bounds.{MayBeAsked}
use Rattle.cli.specs.Words.{IsAskedBy}
use Rattle.cli.proofs.request.run_request.Goals as goal

pub returns : goal.returns
returns c = record {
  bounds = record {
    runs = c.in_ok-number.ensures.within.0;
    runs_to = c.in_ok-number.ensures.within.1;
    delay = c.in_ok-number-2.ensures.within.1;
    jobs = c.in_ok-number-3.ensures.within.0;
    jobs_to = c.in_ok-number-3.ensures.within.1;
    options = c.in_ok-options.ensures.bounds;
  };
  asked = (
    refl,
    record {
      file = some_read (found_of c.args.run.now) (codes "FILE") c.get_str.result _ c.get_str.ensures c.in_ok-get_str.was;
      runs = c.in_ok-number.ensures.asked;
      delay = c.in_ok-number-2.ensures.asked;
      jobs = c.in_ok-number-3.ensures.asked;
      stop_at_first = flag_read (found_of c.args.run.now) (codes "stop-at-first") c.get_flag.result c.get_flag.ensures.none c.get_flag.ensures.value
          c.get_flag.ensures.other;
      keep_going = flag_read (found_of c.args.run.now) (codes "keep-going") c.get_flag-2.result c.get_flag-2.ensures.none c.get_flag-2.ensures.value
          c.get_flag-2.ensures.other;
      options = c.in_ok-options.ensures.asked;
    },
  );
  complete = λ request bounds asks. refl;
}

pub returns-in_err-get_str : goal.returns-in_err-get_str
returns-in_err-get_str c = record {
  bounds = none_holds MayBeAsked c.from_residual.result c.from_residual.ensures;
  asked = none_holds (IsAskedBy (codes "run") (rows_of (found_of c.args.run.now))) c.from_residual.result c.from_residual.ensures;
  complete = λ request bounds asks.
      absurd (text_there (found_of c.args.run.now) (codes "FILE") c.get_str.result request.file.now c.get_str.ensures
      asks.file c.in_err-get_str.was);
}

pub returns-in_err-number : goal.returns-in_err-number
returns-in_err-number c = record {
  bounds = none_holds MayBeAsked c.from_residual-in_err-number.result c.from_residual-in_err-number.ensures;
  asked = none_holds (IsAskedBy (codes "run") (rows_of (found_of c.args.run.now))) c.from_residual-in_err-number.result c.from_residual-in_err-number.ensures;
  complete = λ request bounds asks.
      absurd (not_missing c.number.result (c.number.ensures.complete request.runs bounds.runs bounds.runs_to asks.runs) c.in_err-number.was);
}

pub returns-in_err-number-2 : goal.returns-in_err-number-2
returns-in_err-number-2 c = record {
  bounds = none_holds MayBeAsked c.from_residual-in_err-number-2.result c.from_residual-in_err-number-2.ensures;
  asked = none_holds (IsAskedBy (codes "run") (rows_of (found_of c.args.run.now))) c.from_residual-in_err-number-2.result c.from_residual-in_err-number-2.ensures;
  complete = λ request bounds asks.
      absurd (not_missing c.number-2.result (c.number-2.ensures.complete request.delay (omega arith) bounds.delay asks.delay) c.in_err-number-2.was);
}

pub returns-in_err-number-3 : goal.returns-in_err-number-3
returns-in_err-number-3 c = record {
  bounds = none_holds MayBeAsked c.from_residual-in_err-number-3.result c.from_residual-in_err-number-3.ensures;
  asked = none_holds (IsAskedBy (codes "run") (rows_of (found_of c.args.run.now))) c.from_residual-in_err-number-3.result c.from_residual-in_err-number-3.ensures;
  complete = λ request bounds asks.
      absurd (not_missing c.number-3.result (c.number-3.ensures.complete request.jobs bounds.jobs bounds.jobs_to asks.jobs) c.in_err-number-3.was);
}

pub returns-in_err-options : goal.returns-in_err-options
returns-in_err-options c = record {
  bounds = none_holds MayBeAsked c.from_residual-in_err-options.result c.from_residual-in_err-options.ensures;
  asked = none_holds (IsAskedBy (codes "run") (rows_of (found_of c.args.run.now))) c.from_residual-in_err-options.result c.from_residual-in_err-options.ensures;
  complete = λ request bounds asks.
      absurd (not_missing c.options.result (c.options.ensures.complete request.options bounds.options asks.options) c.in_err-options.was);
}
