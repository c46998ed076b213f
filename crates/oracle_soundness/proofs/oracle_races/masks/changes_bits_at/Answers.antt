-- The lowest 64 bits of the contents tell whether a bit of the mask differs.
use Rattle.std.proofs.Common.{◌≡◌, ◌∙◌, add-one, ap, false, sym, true}
use Rattle.std.proofs.Common.{◌%◌, ◌^◌, ℕ}
use Rattle.access_types.specs.History.{content}
use Rattle.access_types.specs.Race.{bytes_of}
use Rattle.oracle_soundness.proofs.oracle_races.LowBits.{differs}
use Rattle.oracle_soundness.proofs.oracle_races.masks.changes_bits_at.Goals as goal
use Rattle.oracle_soundness.proofs.oracle_races.masks.changes_bits_at.Goals.{then-writes_at, else-writes_at}

pub returns-then-in_progress : goal.returns-then-in_progress
returns-then-in_progress c = elim c.if-writes_at.branch [
  | then-writes_at w ↦
      let next = ap (λ (k : ℕ). content (λ _. 0) c.args.history.now k (bytes_of c.args.a.now) % 2 ^ 64) (add-one c.args.place) in
      let test = differs _ _ _ _ c.args.mask c.ranges.mask.fits c.low_content.ensures (c.low_content-2.ensures ∙ next) in (
        (λ yes. record {
          writes = c.writes_at.ensures.0 w.if-writes_at.true;
          assertion_goes = w.in_progress.ensures.0 (sym w.value-is ∙ c.if-in_progress.true);
          differ = test.0 yes;
        }),
        (λ at. test.1 at.differ),
      )
  | else-writes_at w ↦ absurd (let bad : false ≡ true = sym w.if-writes_at.false ∙ (sym w.value-is ∙ c.if-in_progress.true) in cc)
]
