-- each is what its option says
use Rattle.std.proofs.Common.{◌∙◌, ap, codes, false, subst, sym}
use Rattle.std.specs.Prelude.{◌↔◌, IsTrue}
use Rattle.clap.specs.Words.{found_of, rows_of}
use Rattle.cli.proofs.ValueLemmas.{text_read}
use Rattle.cli.specs.Words.{IsGiven, choice_of}
use Rattle.cli.proofs.request.choices_asked.Goals as goal

pub returns-clause-asked : goal.returns-clause-asked
returns-clause-asked c =
    let found = found_of c.args.matches.now in
    record {
      strict = false;
      strict_is = subst (λ strict. IsTrue strict ↔ IsGiven (rows_of found) (codes "strict")) c.if-is_given.false c.is_given.ensures;
      value_change_only = c.choice.ensures
          ∙ ap (λ word. choice_of word false) (sym (text_read found (codes "value-change-only") c.get_str.result c.get_str.ensures));
      plain_writes_atomic = c.choice-2.ensures
          ∙ ap (λ word. choice_of word false) (sym (text_read found (codes "plain-writes-atomic") c.get_str-2.result c.get_str-2.ensures));
      alone = λ yes. absurd (cc);
    }
