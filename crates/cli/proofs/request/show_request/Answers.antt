-- each value is that of its option
use Rattle.std.proofs.Common.{codes, refl}
use Rattle.clap.specs.Words.{found_of, rows_of}
use Rattle.cli.proofs.ValueLemmas.{flag_read, none_holds, some_read, text_read, text_there}
use Rattle.cli.specs.Bounds.{MayBeAsked}
use Rattle.cli.specs.Words.{IsAskedBy}
use Rattle.cli.proofs.request.show_request.Goals as goal

pub returns : goal.returns
returns c = record {
  bounds = tt;
  asked = (
    refl,
    record {
      trace = some_read (found_of c.args.show.now) (codes "TRACE") c.get_str.result _ c.get_str.ensures c.in_ok-get_str.was;
      source = text_read (found_of c.args.show.now) (codes "source") c.get_str-2.result c.get_str-2.ensures;
      svg = text_read (found_of c.args.show.now) (codes "svg") c.get_str-3.result c.get_str-3.ensures;
      ascii = flag_read (found_of c.args.show.now) (codes "ascii") c.get_flag.result c.get_flag.ensures.none c.get_flag.ensures.value
          c.get_flag.ensures.other;
      slots = flag_read (found_of c.args.show.now) (codes "slots") c.get_flag-2.result c.get_flag-2.ensures.none c.get_flag-2.ensures.value
          c.get_flag-2.ensures.other;
    },
  );
  complete = λ request asks. refl;
}

pub returns-in_err-get_str : goal.returns-in_err-get_str
returns-in_err-get_str c = record {
  bounds = none_holds MayBeAsked c.from_residual.result c.from_residual.ensures;
  asked = none_holds (IsAskedBy (codes "show") (rows_of (found_of c.args.show.now))) c.from_residual.result c.from_residual.ensures;
  complete = λ request asks.
      absurd (text_there (found_of c.args.show.now) (codes "TRACE") c.get_str.result request.trace.now c.get_str.ensures
      asks.trace c.in_err-get_str.was);
}
