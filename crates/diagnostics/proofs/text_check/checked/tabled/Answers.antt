-- The tables are those of the program as it was made ready.
use Rattle.std.proofs.Common.{Global, Vec, map, ℕ}
use Rattle.diagnostics.proofs.text_check.EachWord.{words_in}
use Rattle.diagnostics.proofs.text_check.checked.tabled.Goals as goal

pub returns-in-Ok : goal.returns-in-Ok
returns-in-Ok c = λ settings ready.
    let words = words_in c.args.prepared.now.rules.layout in (
      record {
        prepared = c.args.prepared.now;
        ready = ready;
        words = words;
        places = map (λ (own : Vec ℕ Global). own.items) c.deref.result.now;
        is = c.in_ok-tables.ensures settings words ready;
      },
      c.in-Ok.ensures.printed,
      c.in_ok-warnings.ensures,
    )
