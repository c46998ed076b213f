-- the command of this name asks for it
use Rattle.std.proofs.Common.{IfOk, IfSome, subst, sym}
use Rattle.clap.specs.Words.{found_of, rows_of}
use Rattle.cli.proofs.CalledLemmas.{asked_other, asked_replay, asked_run, asked_show, asked_step}
use Rattle.cli.specs.Words.{IsAskedBy}
use Rattle.cli.proofs.request.called.Goals as goal

pub returns-in-step : goal.returns-in-step
returns-in-step c =
    let rows = rows_of (found_of c.args.values.now) in
    record {
      bounds = c.step_request.ensures.bounds;
      asked = subst (λ name. IfSome c.step_request.result (IsAskedBy name rows)) (sym c.in-step.is) c.step_request.ensures.asked;
      complete = λ request bounds asks.
          let it = asked_step rows request bounds (subst (λ name. IsAskedBy name rows request) c.in-step.is asks) in
          c.step_request.ensures.complete it.0 it.1.0 it.1.1;
    }

pub returns-in-run : goal.returns-in-run
returns-in-run c =
    let rows = rows_of (found_of c.args.values.now) in
    record {
      bounds = c.run_request.ensures.bounds;
      asked = subst (λ name. IfSome c.run_request.result (IsAskedBy name rows)) (sym c.in-run.is) c.run_request.ensures.asked;
      complete = λ request bounds asks.
          let it = asked_run rows request bounds (subst (λ name. IsAskedBy name rows request) c.in-run.is asks) in
          c.run_request.ensures.complete it.0 it.1.0 it.1.1;
    }

pub returns-in-search : goal.returns-in-search
returns-in-search c =
    let rows = rows_of (found_of c.args.values.now) in
    record {
      bounds = c.search_asked.ensures.bounds;
      asked = subst (λ name. IfOk c.search_asked.result (λ request. IfSome request (IsAskedBy name rows))) (sym c.in-search.is) c.search_asked.ensures.asked;
      complete = λ request bounds asks.
          c.search_asked.ensures.complete request bounds (subst (λ name. IsAskedBy name rows request) c.in-search.is asks);
    }

pub returns-in-join : goal.returns-in-join
returns-in-join c =
    let rows = rows_of (found_of c.args.values.now) in
    record {
      bounds = c.join_asked.ensures.bounds;
      asked = subst (λ name. IfOk c.join_asked.result (λ request. IfSome request (IsAskedBy name rows))) (sym c.in-join.is) c.join_asked.ensures.asked;
      complete = λ request bounds asks.
          c.join_asked.ensures.complete request bounds (subst (λ name. IsAskedBy name rows request) c.in-join.is asks);
    }

pub returns-in-races : goal.returns-in-races
returns-in-races c =
    let rows = rows_of (found_of c.args.values.now) in
    record {
      bounds = c.races_asked.ensures.bounds;
      asked = subst (λ name. IfOk c.races_asked.result (λ request. IfSome request (IsAskedBy name rows))) (sym c.in-races.is) c.races_asked.ensures.asked;
      complete = λ request bounds asks.
          c.races_asked.ensures.complete request bounds (subst (λ name. IsAskedBy name rows request) c.in-races.is asks);
    }

pub returns-in-replay : goal.returns-in-replay
returns-in-replay c =
    let rows = rows_of (found_of c.args.values.now) in
    record {
      bounds = c.replay_request.ensures.bounds;
      asked = subst (λ name. IfSome c.replay_request.result (IsAskedBy name rows)) (sym c.in-replay.is) c.replay_request.ensures.asked;
      complete = λ request bounds asks.
          let it = asked_replay rows request (subst (λ name. IsAskedBy name rows request) c.in-replay.is asks) in
          c.replay_request.ensures.complete it.0 it.1;
    }

pub returns-in-show : goal.returns-in-show
returns-in-show c =
    let rows = rows_of (found_of c.args.values.now) in
    record {
      bounds = c.show_request.ensures.bounds;
      asked = subst (λ name. IfSome c.show_request.result (IsAskedBy name rows)) (sym c.in-show.is) c.show_request.ensures.asked;
      complete = λ request bounds asks.
          let it = asked_show rows request (subst (λ name. IsAskedBy name rows request) c.in-show.is asks) in
          c.show_request.ensures.complete it.0 it.1;
    }

pub returns-in-check : goal.returns-in-check
returns-in-check c =
    let rows = rows_of (found_of c.args.values.now) in
    record {
      bounds = c.check_asked.ensures.bounds;
      asked = subst (λ name. IfOk c.check_asked.result (λ request. IfSome request (IsAskedBy name rows))) (sym c.in-check.is) c.check_asked.ensures.asked;
      complete = λ request bounds asks.
          c.check_asked.ensures.complete request bounds (subst (λ name. IsAskedBy name rows request) c.in-check.is asks);
    }

pub returns-in_default : goal.returns-in_default
returns-in_default c = record {
  bounds = tt;
  asked = tt;
  complete = λ request bounds asks.
      absurd (asked_other c.args.name.now (rows_of (found_of c.args.values.now)) request c.in_default.not-step c.in_default.not-run
      c.in_default.not-search c.in_default.not-join c.in_default.not-races c.in_default.not-replay c.in_default.not-show c.in_default.not-check asks);
}
