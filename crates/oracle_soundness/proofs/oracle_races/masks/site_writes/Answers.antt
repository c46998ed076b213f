-- the search ends at an access that writes, or finds none
use Rattle.std.proofs.Common.{◌≡◌, ◌∙◌, false, subst, sym, true}
use Rattle.access_types.specs.declared.history.Happening.TheVariants.{Begin}
use Rattle.oracle_soundness.specs.oracle_races.Shown.{IsAt, Writes}
use Rattle.oracle_soundness.proofs.oracle_races.Searches.{BeginsNone, has_begun, none_at, one_more}
use Rattle.oracle_soundness.proofs.oracle_races.masks.site_writes.Goals as goal
use Rattle.oracle_soundness.proofs.oracle_races.masks.site_writes.Goals.{else-is_at-via-else-is_at, else-is_at-via-then-is_at+else-writes}
use Rattle.oracle_soundness.proofs.oracle_races.masks.site_writes.Goals.{in-Begin+else-is_at, in_default}

pub loop-moment-preserved : goal.loop-moment-preserved
loop-moment-preserved c =
    one_more (BeginsNone c.args.site (Writes c.args.history.now)) c.args.history.now c.loop-moment.moment-index
    c.moment-item.result c.moment-item.is c.loop-moment-test.true c.loop-moment.invariant
    (λ a begins at writes. elim c.match-moment.branch [
      | in-Begin+else-is_at w ↦
          let begun : Begin a ≡ Begin w.in-Begin.a = sym begins ∙ w.in-Begin.is in
          let same : a ≡ w.in-Begin.a = cc in
          elim w.else-is_at.branch [
            | else-is_at-via-then-is_at+else-writes v ↦
                let found = v.writes.ensures.1 (subst (Writes c.args.history.now) same writes) in
                let bad : false ≡ true = sym v.if-writes.false ∙ found in cc
            | else-is_at-via-else-is_at v ↦
                let found = w.is_at.ensures.1 (subst (IsAt c.args.site) same at) in
                let bad : false ≡ true = sym v.if-is_at.false ∙ found in cc
          ]
      | in_default w ↦ w.in_default.not-Begin a begins
    ])

pub returns : goal.returns
returns c = (
  (λ no. cc),
  (λ some. absurd (none_at c.args.history.now c.args.site (Writes c.args.history.now) c.loop-moment.moment-index
      c.loop-moment-test.false c.loop-moment.invariant
      (λ a found. has_begun c.args.history.now a found.place found.at.goes) some)),
)
