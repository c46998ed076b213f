-- each turn adds one run
use Rattle.std.proofs.Common.{◌≡◌, ◌<◌, ◌++◌, ◌∷◌, ◌∙◌, [], arith, false, inl, inr, length, refl, subst, sym, true, Ok, Result}
use Rattle.std.proofs.lemmas.List.{length-append}
use Rattle.prepared_program.specs.program_sites.Prepared.{sites_in}
use Rattle.run_stats.proofs.MadeLemmas.{more_apart, more_below, none_before_none, none_of, quiet_before, still_below}
use Rattle.run_stats.specs.Runs.{IsNumbered, OneRun}
use Rattle.prepared_program.specs.declared.program_sites.error.RunError.{RunError}
use Rattle.runner.specs.declared.result.RunResult.{RunResult}
use Rattle.run_stats.specs.Output.{printed_in}
use Rattle.run_stats.proofs.made.made_of.Goals as goal
use Rattle.run_stats.proofs.made.made_of.Goals.{else-times-via-then-times+else-raced, else-times-via-else-times}

pub loop-run-init : goal.loop-run-init
loop-run-init g c = record {
  made = record {
    runs = [];
    stuck = [];
    made_are = c.new-made.ensures c.args.plan.now.times.unknown_origin c.args.plan.now.program.now c.args.plan.now.settings.now (sites_in c.args.plan.now.prepared.now);
    many_are = refl;
    first = λ stop. none_before_none c.args.plan.now.times.unknown_origin (sites_in c.args.plan.now.prepared.now);
    counted = λ off. refl;
    apart = λ i j d before within. absurd (omega (arith, within));
    numbers = λ at d below. absurd (omega (arith, below));
  };
  numbers = λ at d below. absurd (let none = c.new-ready.ensures.items in
      let no = subst (λ items. at < length items) none below in omega (arith, no));
  ready = λ at d below. absurd (let none = c.new-ready.ensures.items in
      let no = subst (λ items. at < length items) none below in omega (arith, no));
}

pub loop-run-preserved : goal.loop-run-preserved
loop-run-preserved g c =
    let was = c.loop-run.invariant.made in
    let unknown = c.args.plan.now.times.unknown_origin in
    let sites = sites_in c.args.plan.now.prepared.now in
    let quiet : c.args.plan.now.times.stop_at_first ≡ true → printed_in unknown sites was.runs ≡ [] = λ stop.
    none_of (printed_in unknown sites was.runs) (sym was.made_are.tallies.raced
    ∙ (elim c.else-times.branch [
      | else-times-via-then-times+else-raced w ↦ sym w.raced.ensures ∙ w.if-raced.false
      | else-times-via-else-times w ↦ absurd (let no : true ≡ false = sym stop ∙ w.if-times.false in cc)
    ])) in
    let number : (one : OneRun c.args.plan.now.program.now c.args.plan.now.settings.now) → c.in_ok-outcome.outcome ≡ Ok one.result
    → one.result.number ≡ c.loop-run.run = λ one is.
    subst (λ (outcome : Result RunResult RunError). IsNumbered c.loop-run.run outcome) is c.in_ok-outcome.ensures.number in
    elim (c.in_ok-add.ensures.made was.runs was.stuck was.made_are) [
      | inl ended ↦ record {
        made = record {
          runs = was.runs ++ ended.0 ∷ [];
          stuck = was.stuck;
          made_are = ended.2;
          many_are = let many = was.many_are in omega (arith, many, length-append was.runs (ended.0 ∷ []));
          first = λ stop. quiet_before unknown sites was.runs ended.0 (quiet stop);
          counted = was.counted;
          apart = more_apart was.runs ended.0 c.loop-run.run was.apart was.numbers (number ended.0 ended.1);
          numbers = more_below was.runs ended.0 c.loop-run.run was.numbers (number ended.0 ended.1);
        };
        ready = c.in_ok-outcome.ensures.ready;
        numbers = c.in_ok-outcome.ensures.numbers;
      }
      | inr stuck ↦ record {
        made = record {
          runs = was.runs;
          stuck = was.stuck ++ stuck.1.0 ∷ [];
          made_are = stuck.1.1;
          many_are = let many = was.many_are in omega (arith, many, length-append was.stuck (stuck.1.0 ∷ []));
          first = was.first;
          counted = λ off. absurd (let no : true ≡ false = sym stuck.0 ∙ off in cc);
          apart = was.apart;
          numbers = still_below was.runs c.loop-run.run was.numbers;
        };
        ready = c.in_ok-outcome.ensures.ready;
        numbers = c.in_ok-outcome.ensures.numbers;
      }
    ]
