-- the calls were written, as far as standard output took them
use Rattle.std.proofs.Common.{◌∙◌, ℕ, List, ap, inl, inr, refl, subst}
use Rattle.cli.specs.declared.request.Request.TheVariants.{Calls}
use Rattle.litmus_command.proofs.CommandLemmas.{fails_to_write}
use Rattle.litmus_command.proofs.command.list_calls.Goals as goal
use Rattle.report_text.specs.Sink.{HoldsBeginning, appended}

pub returns-in-Ok : goal.returns-in-Ok
returns-in-Ok g c = record {
  done = inr (inl (
    refl,
    record {
      written = c.in-Ok.ensures.writes.holds
          ∙ ap (λ (text : List ℕ). appended (g.D.Desk.state c.args.desk.now).written text) (c.as_bytes.ensures.value ∙ c.calls.ensures);
      files = c.print.ensures.files;
    },
  ));
  faults = c.print.ensures.faults;
  told = c.print.ensures.told;
}

pub returns-in-Err : goal.returns-in-Err
returns-in-Err g c =
    fails_to_write Calls _ _ c.in-Err.ensures.writes.counted
    (record {
      begun = subst (λ (text : List ℕ). HoldsBeginning text (g.D.Desk.state c.args.desk.now).written (g.D.Desk.state c.print.new.self).written)
          (c.as_bytes.ensures.value ∙ c.calls.ensures) c.in-Err.ensures.writes.begun;
      files = c.print.ensures.files;
    })
    c.print.ensures.faults c.print.ensures.told
