-- its first value is the word
use Rattle.clap.specs.Words.{found_of}
use Rattle.cli.proofs.ValueLemmas.{value_read, value_unread}
use Rattle.cli.proofs.request.has_value.Goals as goal

pub returns-in-Some : goal.returns-in-Some
returns-in-Some c =
    value_read (found_of c.args.matches.now) c.args.option.now c.args.word.now c.get_str.result c.in-Some.value c.eq.result c.get_str.ensures
    c.in-Some.is c.eq.ensures

pub returns-in-None : goal.returns-in-None
returns-in-None c = value_unread (found_of c.args.matches.now) c.args.option.now c.args.word.now c.get_str.result c.get_str.ensures c.in-None.is
