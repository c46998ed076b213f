-- each value is that of its option
use Rattle.std.proofs.Common.{codes, refl}
use Rattle.clap.specs.Words.{found_of, rows_of}
use Rattle.cli.proofs.ValueLemmas.{flag_read, none_holds, not_missing, some_read, text_there}
use Rattle.cli.specs.Bounds.{MayBeAsked}
use Rattle.cli.specs.Words.{IsAskedBy}
use Rattle.cli.proofs.request.check_request.Goals as goal

pub returns : goal.returns
returns c = record {
  bounds = record {
    some = c.requires.some;
    slots_from = c.in_ok-number.ensures.within.0;
    slots_to = c.in_ok-number.ensures.within.1;
  };
  asked = (
    refl,
    record {
      files = c.requires.files;
      uncalled = c.requires.uncalled;
      print = flag_read (found_of c.args.check.now) (codes "print") c.get_flag.result c.get_flag.ensures.none c.get_flag.ensures.value
          c.get_flag.ensures.other;
      schedule = some_read (found_of c.args.check.now) (codes "schedule") c.get_str.result _ c.get_str.ensures c.in_ok-get_str.was;
      places = some_read (found_of c.args.check.now) (codes "place") c.get_str-2.result _ c.get_str-2.ensures c.in_ok-get_str-2.was;
      slots = c.in_ok-number.ensures.asked;
      layout = c.in_ok-layout.ensures.asked;
    },
  );
  complete = λ request bounds asks. refl;
}

pub returns-in_err-get_str : goal.returns-in_err-get_str
returns-in_err-get_str c = record {
  bounds = none_holds MayBeAsked c.from_residual.result c.from_residual.ensures;
  asked = none_holds (IsAskedBy (codes "check") (rows_of (found_of c.args.check.now))) c.from_residual.result c.from_residual.ensures;
  complete = λ request bounds asks.
      absurd (text_there (found_of c.args.check.now) (codes "schedule") c.get_str.result request.schedule.now c.get_str.ensures
      asks.schedule c.in_err-get_str.was);
}

pub returns-in_err-get_str-2 : goal.returns-in_err-get_str-2
returns-in_err-get_str-2 c = record {
  bounds = none_holds MayBeAsked c.from_residual-in_err-get_str-2.result c.from_residual-in_err-get_str-2.ensures;
  asked = none_holds (IsAskedBy (codes "check") (rows_of (found_of c.args.check.now))) c.from_residual-in_err-get_str-2.result c.from_residual-in_err-get_str-2.ensures;
  complete = λ request bounds asks.
      absurd (text_there (found_of c.args.check.now) (codes "place") c.get_str-2.result request.places.now c.get_str-2.ensures
      asks.places c.in_err-get_str-2.was);
}

pub returns-in_err-number : goal.returns-in_err-number
returns-in_err-number c = record {
  bounds = none_holds MayBeAsked c.from_residual-in_err-number.result c.from_residual-in_err-number.ensures;
  asked = none_holds (IsAskedBy (codes "check") (rows_of (found_of c.args.check.now))) c.from_residual-in_err-number.result c.from_residual-in_err-number.ensures;
  complete = λ request bounds asks.
      absurd (not_missing c.number.result (c.number.ensures.complete request.slots bounds.slots_from bounds.slots_to asks.slots) c.in_err-number.was);
}

pub returns-in_err-layout : goal.returns-in_err-layout
returns-in_err-layout c = record {
  bounds = none_holds MayBeAsked c.from_residual-in_err-layout.result c.from_residual-in_err-layout.ensures;
  asked = none_holds (IsAskedBy (codes "check") (rows_of (found_of c.args.check.now))) c.from_residual-in_err-layout.result c.from_residual-in_err-layout.ensures;
  complete = λ request bounds asks.
      absurd (not_missing c.layout.result (c.layout.ensures.complete request.layout asks.layout) c.in_err-layout.was);
}
