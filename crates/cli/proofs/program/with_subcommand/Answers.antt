-- the subcommand adds its shape
use Rattle.std.proofs.Common.{◌≡◌, ◌∙◌, IfOk, ap, ap₂, subst}
use Rattle.std.proofs.lemmas.Result.{IfOk-weaker}
use Rattle.clap.specs.Words.{App, app_of, with_subcommand}
use Rattle.cli.proofs.ValueLemmas.{third_is_not}
use Rattle.cli.proofs.program.with_subcommand.Goals as goal

pub returns : goal.returns
returns c = λ app sub before one plain.
    let before_is = subst (λ made. IfOk made (λ command. app_of command ≡ app)) c.in-Ok-command.is before in
    let one_is = subst (λ made. IfOk made (λ command. app_of command ≡ sub)) c.in-Ok.is one in
    IfOk-weaker c.subcommand.result _ _
    (λ command adds. adds.shape (third_is_not _ _ _ _ (ap (λ (a : App). a.top.is_plain) one_is ∙ plain))
    ∙ ap₂ with_subcommand before_is (ap (λ (a : App). a.top) one_is)) c.subcommand.ensures
