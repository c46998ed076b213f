-- What is added is the text in colours.
use Rattle.cli.proofs.colors.ColoredLemmas.{added_is}
use Rattle.cli.proofs.colors.lines.colored.Goals as goal

pub returns : goal.returns
returns c =
    added_is c.new-found.result.items c.new-line.result.items c.args.text.now c.add_text.new.text.items c.new-found.ensures.items
    c.new-line.ensures.items c.in_ok-add_text.ensures
