-- the bits are the value of the option
use Rattle.std.proofs.Common.{ap, codes, if◌then◌else◌}
use Rattle.watch_word.specs.declared.layout.Layout.TheVariants as layouts
use Rattle.clap.specs.Words.{found_of}
use Rattle.cli.proofs.ValueLemmas.{some_read, text_there}
use Rattle.cli.proofs.request.layout.Goals as goal

pub returns-then-eq-clause-asked : goal.returns-then-eq-clause-asked
returns-then-eq-clause-asked c = record {
  bits = c.in_ok-bits.bits.now;
  given = some_read (found_of c.args.matches.now) (codes "word") c.get_str.result _ c.get_str.ensures c.in_ok-bits.was;
  is = ap (λ same. if same then layouts.W32 else layouts.W64) c.if-eq.ensures;
}

pub returns-else-eq-clause-asked : goal.returns-else-eq-clause-asked
returns-else-eq-clause-asked c = record {
  bits = c.in_ok-bits.bits.now;
  given = some_read (found_of c.args.matches.now) (codes "word") c.get_str.result _ c.get_str.ensures c.in_ok-bits.was;
  is = ap (λ same. if same then layouts.W32 else layouts.W64) c.if-eq.ensures;
}

pub returns-in_err-bits-clause-complete : goal.returns-in_err-bits-clause-complete
returns-in_err-bits-clause-complete c = λ layout asks.
    absurd (text_there (found_of c.args.matches.now) (codes "word") c.get_str.result asks.bits c.get_str.ensures
    asks.given c.in_err-bits.was)
