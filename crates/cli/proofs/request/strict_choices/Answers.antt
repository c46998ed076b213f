-- neither option has a value
use Rattle.std.proofs.Common.{◌≡◌, ◌∙◌, ap, codes, false, is_some, refl, sym, true}
use Rattle.clap.specs.Words.{found_of}
use Rattle.cli.proofs.SearchLemmas.{not_unread, unread}
use Rattle.cli.specs.Words.{choice_of}
use Rattle.cli.proofs.request.strict_choices.Goals as goal

pub returns-clause-asked : goal.returns-clause-asked
returns-clause-asked c =
    let found = found_of c.args.matches.now in
    let one : is_some c.get_str.result ≡ false = sym c.is_some.ensures ∙ c.if-is_some.false in
    let other : is_some c.get_str-2.result ≡ false = sym c.is_some-2.ensures ∙ c.if-is_some-2.false in
    let changed = unread found (codes "value-change-only") c.get_str.result c.get_str.ensures one in
    let atomic = unread found (codes "plain-writes-atomic") c.get_str-2.result c.get_str-2.ensures other in
    record {
      strict = true;
      strict_is = (λ yes. c.requires.strict, λ given. refl);
      value_change_only = sym (ap (λ word. choice_of word true) changed);
      plain_writes_atomic = sym (ap (λ word. choice_of word true) atomic);
      alone = λ yes. (changed, atomic);
    }

pub returns-then-is_some-clause-complete : goal.returns-then-is_some-clause-complete
returns-then-is_some-clause-complete c = λ choices asks.
    let some : is_some c.get_str.result ≡ true = sym c.is_some.ensures ∙ c.if-is_some.true in
    absurd (not_unread (found_of c.args.matches.now) (codes "value-change-only") c.get_str.result c.get_str.ensures some
    (asks.alone (asks.strict_is.1 c.requires.strict)).0)

pub returns-then-is_some-2-clause-complete : goal.returns-then-is_some-2-clause-complete
returns-then-is_some-2-clause-complete c = λ choices asks.
    let some : is_some c.get_str-2.result ≡ true = sym c.is_some-2.ensures ∙ c.if-is_some-2.true in
    absurd (not_unread (found_of c.args.matches.now) (codes "plain-writes-atomic") c.get_str-2.result c.get_str-2.ensures some
    (asks.alone (asks.strict_is.1 c.requires.strict)).1)
