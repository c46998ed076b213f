-- each value is that of its option
use Rattle.std.proofs.Common.{codes, refl}
use Rattle.clap.specs.Words.{found_of, rows_of}
use Rattle.cli.proofs.ValueLemmas.{none_holds, not_missing, some_read, text_there}
use Rattle.cli.specs.Bounds.{MayBeAsked}
use Rattle.cli.specs.Words.{IsAskedBy}
use Rattle.cli.proofs.request.step_request.Goals as goal

pub returns : goal.returns
returns c = record {
  bounds = c.in_ok-options.ensures.bounds;
  asked = (
    refl,
    record {
      file = some_read (found_of c.args.step.now) (codes "FILE") c.get_str.result _ c.get_str.ensures c.in_ok-get_str.was;
      schedule = some_read (found_of c.args.step.now) (codes "schedule") c.get_str-2.result _ c.get_str-2.ensures c.in_ok-get_str-2.was;
      options = c.in_ok-options.ensures.asked;
    },
  );
  complete = λ request bounds asks. refl;
}

pub returns-in_err-get_str : goal.returns-in_err-get_str
returns-in_err-get_str c = record {
  bounds = none_holds MayBeAsked c.from_residual.result c.from_residual.ensures;
  asked = none_holds (IsAskedBy (codes "step") (rows_of (found_of c.args.step.now))) c.from_residual.result c.from_residual.ensures;
  complete = λ request bounds asks.
      absurd (text_there (found_of c.args.step.now) (codes "FILE") c.get_str.result request.file.now c.get_str.ensures
      asks.file c.in_err-get_str.was);
}

pub returns-in_err-get_str-2 : goal.returns-in_err-get_str-2
returns-in_err-get_str-2 c = record {
  bounds = none_holds MayBeAsked c.from_residual-in_err-get_str-2.result c.from_residual-in_err-get_str-2.ensures;
  asked = none_holds (IsAskedBy (codes "step") (rows_of (found_of c.args.step.now))) c.from_residual-in_err-get_str-2.result c.from_residual-in_err-get_str-2.ensures;
  complete = λ request bounds asks.
      absurd (text_there (found_of c.args.step.now) (codes "schedule") c.get_str-2.result request.schedule.now c.get_str-2.ensures
      asks.schedule c.in_err-get_str-2.was);
}

pub returns-in_err-options : goal.returns-in_err-options
returns-in_err-options c = record {
  bounds = none_holds MayBeAsked c.from_residual-in_err-options.result c.from_residual-in_err-options.ensures;
  asked = none_holds (IsAskedBy (codes "step") (rows_of (found_of c.args.step.now))) c.from_residual-in_err-options.result c.from_residual-in_err-options.ensures;
  complete = λ request bounds asks.
      absurd (not_missing c.options.result (c.options.ensures.complete request.options bounds asks.options) c.in_err-options.was);
}
