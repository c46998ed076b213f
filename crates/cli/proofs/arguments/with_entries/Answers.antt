-- Each entry adds to the command so far.
use Rattle.std.proofs.Common.{◌≡◌, ◌∙◌, ap, arith, fold, subst}
use Rattle.std.proofs.lemmas.List.{take_all}
use Rattle.std.proofs.lemmas.List.Sums.{fold_more}
use Rattle.std.specs.Prelude.{IfOk}
use Rattle.clap.specs.Words.{App, app_of}
use Rattle.cli.specs.Tables.{with_entries, with_entry}
use Rattle.cli.proofs.arguments.with_entries.Goals as goal

pub loop-entry-preserved : goal.loop-entry-preserved
loop-entry-preserved c = let added = c.in_ok-command-2.ensures in grind (arith, fold_more, added)

pub returns : goal.returns
unfolding with_entries
returns c = λ app before.
    let first = subst (λ made. IfOk made (λ command. app_of command ≡ app)) c.in_ok-command.was before in
    c.loop-entry.invariant
    ∙ (ap (λ entries. fold (with_entry c.args.names) (app_of c.in_ok-command.command) entries) (take_all c.loop-entry.entry-index c.args.entries.now c.loop-entry-test.false)
    ∙ ap (λ (app : App). fold (with_entry c.args.names) app c.args.entries.now) first)
