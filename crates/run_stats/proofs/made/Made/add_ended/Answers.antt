-- one run more is kept
use Rattle.std.proofs.Common.{◌∷◌, [], arith, refl}
use Rattle.std.proofs.lemmas.List.{length-append}
use Rattle.prepared_program.specs.program_sites.Prepared.{sites_in}
use Rattle.run_stats.proofs.NameLemmas.{reports_are_named}
use Rattle.run_stats.proofs.made.Made.add_ended.Goals as goal

pub add-requires-clause-names : goal.add-requires-clause-names
add-requires-clause-names c =
    reports_are_named c.args.program.now c.args.settings.now (sites_in c.args.prepared.now) c.args.ended c.requires.ready.sites c.requires.once

pub returns-clause-made : goal.returns-clause-made
returns-clause-made c = λ runs stuck was.
    let more = c.in_ok-add.ensures c.args.settings.now runs was.tallies c.requires.ready c.requires.once in (
      more.0,
      more.1,
      record {
        ended = let before = was.ended in omega (arith, before, length-append runs (more.0 ∷ []));
        stuck_are = was.stuck_are;
        tallies = more.2;
        last_is = (runs, more.0, refl, more.1);
      },
    )
