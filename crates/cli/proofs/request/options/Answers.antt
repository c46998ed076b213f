-- the trace is the value of its option
use Rattle.std.proofs.Common.{◌≡◌, ◌∙◌, IfSome, None, Option, Some, ap, codes, option_map, sym}
use Rattle.std.specs.Borrow.{Bor}
use Rattle.clap.specs.Words.{Text, found_of, rows_of}
use Rattle.cli.proofs.ValueLemmas.{text_read}
use Rattle.cli.specs.Words.{AskOptions, AskSettings}
use Rattle.cli.specs.declared.request.RunOptions.{RunOptions}
use Rattle.cli.proofs.request.options.Goals as goal

-- what holds of a value by two facts holds of it where it is there
both_hold : (P Q R : RunOptions → Type 0) (result : Option RunOptions) → ((options : RunOptions) → P options → Q options → R options)
    → IfSome result P → IfSome result Q → IfSome result R
both_hold P Q R None follows one other = tt
both_hold P Q R (Some options) follows one other = follows options one other

pub returns-clause-asked : goal.returns-clause-asked
returns-clause-asked c =
    let found = found_of c.args.matches.now in
    both_hold (AskSettings (rows_of found)) (λ options. options.trace ≡ c.get_str.result) (AskOptions (rows_of found)) c.settings.result
    (λ options asks trace. record {
      settings = asks;
      trace = text_read found (codes "trace") c.get_str.result c.get_str.ensures
          ∙ ap (option_map (λ (path : Bor Text). path.now)) (sym trace);
    }) c.settings.ensures.asked c.settings.ensures.trace

pub returns-clause-complete : goal.returns-clause-complete
returns-clause-complete c = λ options bounds asks. c.settings.ensures.complete options bounds asks.settings
