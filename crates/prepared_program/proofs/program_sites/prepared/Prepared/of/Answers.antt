-- What it is made of.
use Rattle.std.proofs.Common.{refl}
use Rattle.prepared_program.proofs.program_sites.prepared.Prepared.of.Goals as goal

pub returns : goal.returns
returns c = record {
  parts = (c.in_ok-layout.ensures.ok, c.in_ok-sites.ensures.ok, refl);
  accesses = refl;
  laid = λ places variables lays. (
    c.locks-locks.ensures places variables lays,
    c.in_ok-cells.ensures places variables lays,
    c.in_ok-words.ensures places variables lays,
  );
}
