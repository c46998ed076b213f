-- each command adds its shape
use Rattle.std.proofs.Common.{◌∙◌, ap, refl, true}
use Rattle.std.proofs.lemmas.Result.{IfOk-weaker}
use Rattle.clap.specs.Simple.{app_of_fields, on_top}
use Rattle.cli.specs.Words.{check_app, join_app, program_app, races_app, replay_app, run_app, search_app, show_app, step_app, with_options, with_settings}
use Rattle.cli.proofs.program.program.Goals as goal

pub returns : goal.returns
unfolding program_app step_app with_options with_settings run_app search_app join_app races_app replay_app show_app check_app
returns c =
    let first = ap app_of_fields c.subcommand_required.ensures
    ∙ ap (on_top (λ shape. record shape { subcommand_required = true }))
    (ap app_of_fields c.version.ensures ∙ ap (on_top (λ shape. record shape { has_version = true })) c.named-top.ensures) in
    let e1 = c.with_subcommand-command.ensures _ _ first c.step_command.ensures refl in
    let e2 = c.with_subcommand-command-2.ensures _ _ e1 c.run_command.ensures refl in
    let e3 = c.with_subcommand-command-3.ensures _ _ e2 c.search_command.ensures refl in
    let e4 = c.with_subcommand-command-4.ensures _ _ e3 c.join_command.ensures refl in
    let e5 = c.with_subcommand-command-5.ensures _ _ e4 c.races_command.ensures refl in
    let e6 = c.with_subcommand-command-6.ensures _ _ e5 c.replay_command.ensures refl in
    let e7 = c.with_subcommand-command-7.ensures _ _ e6 c.show_command.ensures refl in
    IfOk-weaker c.with_subcommand.result _ _ (λ command adds. record {
      names = c.option_names-names.result;
      names_are = c.option_names-names.ensures;
      is = adds;
    }) (c.with_subcommand.ensures _ _ e7 c.check_command.ensures refl)
