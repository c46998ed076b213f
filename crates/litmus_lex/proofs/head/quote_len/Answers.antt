-- The byte behind the run is a quote.
use Rattle.litmus_lex.proofs.HeadPieces.{quote_from_run}
use Rattle.litmus_lex.proofs.head.quote_len.Goals as goal

pub returns-then-quoted-bytes-clause-found : goal.returns-then-quoted-bytes-clause-found
returns-then-quoted-bytes-clause-found c =
    quote_from_run c.args.bytes.now c.run_len-quoted.result c.if-quoted-bytes.true
    c.run_len-quoted.ensures.run
