-- the command that was called asks by its values
use Rattle.std.proofs.Common.{◌≡◌, IfOk, IfSome, Some, subst, sym}
use Rattle.clap.specs.Words.{found_of, rows_of, subcommand_rows_of}
use Rattle.cli.proofs.ValueLemmas.{both_read}
use Rattle.cli.specs.Words.{IsAskedOf}
use Rattle.cli.proofs.request.request_of.Goals as goal

pub returns-in-Some : goal.returns-in-Some
returns-in-Some c =
    let called : subcommand_rows_of c.args.matches.now ≡ Some (c.in-Some.name.now, rows_of (found_of c.in-Some.values.now)) =
    both_read _ _ _ c.in-Some.name.now (rows_of (found_of c.in-Some.values.now)) c.in-Some.ensures.name c.in-Some.ensures.rows in
    record {
      bounds = c.called.ensures.bounds;
      asked = subst (λ called. IfOk c.called.result (λ request. IfSome request (IsAskedOf called))) (sym called) c.called.ensures.asked;
      complete = λ request bounds asks.
          c.called.ensures.complete request bounds (subst (λ called. IsAskedOf called request) called asks);
    }
