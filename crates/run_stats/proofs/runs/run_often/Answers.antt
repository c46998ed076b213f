-- what is kept of the runs is what is left of them
use Rattle.std.proofs.Common.{◌∙◌, ◌&&◌, Bool, ap, subst, sym}
use Rattle.run_stats.proofs.MadeLemmas.{a_last_tells, items_if_some, lent_is_there, some_items, traces_last}
use Rattle.prepared_program.specs.program_sites.Prepared.{sites_in}
use Rattle.run_stats.specs.Output.{IsTraceOfLast}
use Rattle.run_stats.specs.Runs.{IsLast}
use Rattle.run_stats.proofs.runs.run_often.Goals as goal

pub returns-clause-leaves : goal.returns-clause-leaves
returns-clause-leaves g c =
    let made = c.in_ok-made.ensures.made in
    let ready = c.in_ok-prepared.ensures.prepared in
    let last = subst (IsLast made.runs) (sym c.last.ensures) made.made_are.last_is in
    let trace = c.in_ok-trace_if.field-0 in
    record {
      fit = ready.fit;
      sites = sites_in c.in_ok-prepared.prepared;
      sites_are = ready.sites;
      runs = made.runs;
      stuck = made.stuck;
      many_are = made.many_are;
      output_is = c.in_ok-output.ensures c.args.times.unknown_origin _ _ _ made.runs made.stuck made.made_are ready.sites;
      trace_is = items_if_some (IsTraceOfLast made.runs) trace
          (traces_last made.runs c.last.result c.args.traced trace last ready.few_slots c.in_ok-trace_if.ensures.written
          c.in_ok-trace_if.ensures.accepted c.in_ok-trace_if.ensures.wanted);
      traced_is = some_items trace
          ∙ (c.in_ok-trace_if.ensures.wanted
          ∙ ap (λ (b : Bool). c.args.traced && b) (lent_is_there c.last.result ∙ a_last_tells made.runs _ last));
      raced_is = c.raced.ensures ∙ made.made_are.tallies.raced;
    }
