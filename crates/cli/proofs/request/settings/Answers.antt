-- each value is that of its option
use Rattle.std.proofs.Common.{◌≡◌, ◌∙◌, ap, arith, codes, false, is_some, refl, sym, true}
use Rattle.clap.specs.Words.{found_of, rows_of}
use Rattle.cli.proofs.SearchLemmas.{not_unread, unread}
use Rattle.cli.proofs.ValueLemmas.{flag_read, none_holds, not_missing, some_read, text_read, text_there}
use Rattle.cli.specs.Bounds.{KeepsBounds}
use Rattle.cli.specs.Words.{AskSettings, choice_of, choices_of}
use Rattle.cli.proofs.request.settings.Goals as goal

pub returns : goal.returns
returns c =
    let found = found_of c.args.matches.now in
    let none : is_some c.get_str.result ≡ false = sym c.is_some.ensures ∙ c.if-is_some.false in
    record {
      bounds = record {
        slots_from = c.in_ok-number.ensures.within.0;
        slots_to = c.in_ok-number.ensures.within.1;
        skip = c.in_ok-number-2.ensures.within.1;
        turns_from = c.in_ok-number-4.ensures.within.0;
        turns_to = c.in_ok-number-4.ensures.within.1;
      };
      asked = record {
        places = some_read found (codes "place") c.get_str-2.result _ c.get_str-2.ensures c.in_ok-get_str.was;
        slots = c.in_ok-number.ensures.asked;
        skip = c.in_ok-number-2.ensures.asked;
        randomize = flag_read found (codes "randomize") c.get_flag.result c.get_flag.ensures.none c.get_flag.ensures.value
            c.get_flag.ensures.other;
        seed = c.in_ok-number-3.ensures.asked;
        choices = c.in_ok-choices.ensures.asked;
        unread = unread found (codes "kconfig") c.get_str.result c.get_str.ensures none;
        layout = c.in_ok-layout.ensures.asked;
        turns = c.in_ok-number-4.ensures.asked;
        located = flag_read found (codes "where") c.get_flag-2.result c.get_flag-2.ensures.none c.get_flag-2.ensures.value
            c.get_flag-2.ensures.other;
        unknown_origin = c.choice.ensures
            ∙ ap (λ word. choice_of word false) (sym (text_read found (codes "unknown-origin") c.get_str-3.result c.get_str-3.ensures));
      };
      trace = refl;
      complete = λ options bounds asks. refl;
    }

pub returns-then-is_some : goal.returns-then-is_some
returns-then-is_some c = record {
  bounds = tt;
  asked = tt;
  trace = tt;
  complete = λ options bounds asks.
      let some : is_some c.get_str.result ≡ true = sym c.is_some.ensures ∙ c.if-is_some.true in
      absurd (not_unread (found_of c.args.matches.now) (codes "kconfig") c.get_str.result c.get_str.ensures some asks.unread);
}

pub returns-in_err-choices : goal.returns-in_err-choices
returns-in_err-choices c = record {
  bounds = none_holds KeepsBounds c.from_residual.result c.from_residual.ensures;
  asked = none_holds (AskSettings (rows_of (found_of c.args.matches.now))) c.from_residual.result c.from_residual.ensures;
  trace = none_holds (λ options. options.trace ≡ c.args.trace) c.from_residual.result c.from_residual.ensures;
  complete = λ options bounds asks.
      absurd (not_missing c.choices_asked.result (c.choices_asked.ensures.complete (choices_of options) asks.choices) c.in_err-choices.was);
}

pub returns-in_err-get_str : goal.returns-in_err-get_str
returns-in_err-get_str c = record {
  bounds = none_holds KeepsBounds c.from_residual-in_err-get_str.result c.from_residual-in_err-get_str.ensures;
  asked = none_holds (AskSettings (rows_of (found_of c.args.matches.now))) c.from_residual-in_err-get_str.result c.from_residual-in_err-get_str.ensures;
  trace = none_holds (λ options. options.trace ≡ c.args.trace) c.from_residual-in_err-get_str.result c.from_residual-in_err-get_str.ensures;
  complete = λ options bounds asks.
      absurd (text_there (found_of c.args.matches.now) (codes "place") c.get_str-2.result options.places.now c.get_str-2.ensures
      asks.places c.in_err-get_str.was);
}

pub returns-in_err-number : goal.returns-in_err-number
returns-in_err-number c = record {
  bounds = none_holds KeepsBounds c.from_residual-in_err-number.result c.from_residual-in_err-number.ensures;
  asked = none_holds (AskSettings (rows_of (found_of c.args.matches.now))) c.from_residual-in_err-number.result c.from_residual-in_err-number.ensures;
  trace = none_holds (λ options. options.trace ≡ c.args.trace) c.from_residual-in_err-number.result c.from_residual-in_err-number.ensures;
  complete = λ options bounds asks.
      absurd (not_missing c.number.result (c.number.ensures.complete options.slots bounds.slots_from bounds.slots_to asks.slots) c.in_err-number.was);
}

pub returns-in_err-number-2 : goal.returns-in_err-number-2
returns-in_err-number-2 c = record {
  bounds = none_holds KeepsBounds c.from_residual-in_err-number-2.result c.from_residual-in_err-number-2.ensures;
  asked = none_holds (AskSettings (rows_of (found_of c.args.matches.now))) c.from_residual-in_err-number-2.result c.from_residual-in_err-number-2.ensures;
  trace = none_holds (λ options. options.trace ≡ c.args.trace) c.from_residual-in_err-number-2.result c.from_residual-in_err-number-2.ensures;
  complete = λ options bounds asks.
      absurd (not_missing c.number-2.result (c.number-2.ensures.complete options.skip (omega arith) bounds.skip asks.skip) c.in_err-number-2.was);
}

pub returns-in_err-number-3 : goal.returns-in_err-number-3
returns-in_err-number-3 c = record {
  bounds = none_holds KeepsBounds c.from_residual-in_err-number-3.result c.from_residual-in_err-number-3.ensures;
  asked = none_holds (AskSettings (rows_of (found_of c.args.matches.now))) c.from_residual-in_err-number-3.result c.from_residual-in_err-number-3.ensures;
  trace = none_holds (λ options. options.trace ≡ c.args.trace) c.from_residual-in_err-number-3.result c.from_residual-in_err-number-3.ensures;
  complete = λ options bounds asks.
      let fits = asks.seed.fits in
      absurd (not_missing c.number-3.result (c.number-3.ensures.complete options.seed (omega arith) (omega (arith, fits)) asks.seed) c.in_err-number-3.was);
}

pub returns-in_err-layout : goal.returns-in_err-layout
returns-in_err-layout c = record {
  bounds = none_holds KeepsBounds c.from_residual-in_err-layout.result c.from_residual-in_err-layout.ensures;
  asked = none_holds (AskSettings (rows_of (found_of c.args.matches.now))) c.from_residual-in_err-layout.result c.from_residual-in_err-layout.ensures;
  trace = none_holds (λ options. options.trace ≡ c.args.trace) c.from_residual-in_err-layout.result c.from_residual-in_err-layout.ensures;
  complete = λ options bounds asks.
      absurd (not_missing c.layout.result (c.layout.ensures.complete options.layout asks.layout) c.in_err-layout.was);
}

pub returns-in_err-number-4 : goal.returns-in_err-number-4
returns-in_err-number-4 c = record {
  bounds = none_holds KeepsBounds c.from_residual-in_err-number-4.result c.from_residual-in_err-number-4.ensures;
  asked = none_holds (AskSettings (rows_of (found_of c.args.matches.now))) c.from_residual-in_err-number-4.result c.from_residual-in_err-number-4.ensures;
  trace = none_holds (λ options. options.trace ≡ c.args.trace) c.from_residual-in_err-number-4.result c.from_residual-in_err-number-4.ensures;
  complete = λ options bounds asks.
      absurd (not_missing c.number-4.result (c.number-4.ensures.complete options.turns bounds.turns_from bounds.turns_to asks.turns) c.in_err-number-4.was);
}
