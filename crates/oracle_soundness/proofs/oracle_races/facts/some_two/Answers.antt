-- the search ends at an execution, or finds none
use Rattle.std.proofs.Common.{List, refl, subst, sym}
use Rattle.access_types.specs.declared.history.Moment.{Moment}
use Rattle.oracle_soundness.specs.oracle_races.Searched.{Holds}
use Rattle.oracle_soundness.specs.oracle_races.Shown.{HasTwo}
use Rattle.oracle_soundness.proofs.oracle_races.Searches.{none_of, one_more}
use Rattle.oracle_soundness.proofs.oracle_races.facts.some_two.Goals as goal

pub returns-then-branch : goal.returns-then-branch
returns-then-branch c = (
  (λ said. (
    c.loop-told.told-index,
    c.told-item.result,
    c.loop-told-test.true,
    sym c.told-item.is,
    subst (λ (h : List Moment). HasTwo c.args.pair (Holds c.args.fact h)) c.deref.ensures.value
        (c.in_ok-has_two.ensures.0 c.if-branch.true),
  )),
  (λ some. refl),
)

pub loop-told-preserved : goal.loop-told-preserved
loop-told-preserved c =
    one_more (λ told. ¬ HasTwo c.args.pair (Holds c.args.fact told.history.items)) c.args.executions.now c.loop-told.told-index
    c.told-item.result c.told-item.is c.loop-told-test.true c.loop-told.invariant
    (λ two. let found = c.in_ok-has_two.ensures.1 (subst (λ (h : List Moment). HasTwo c.args.pair (Holds c.args.fact h)) (sym c.deref.ensures.value) two) in cc)

pub returns : goal.returns
returns c = (
  (λ no. cc),
  (λ some. absurd (none_of (λ told. HasTwo c.args.pair (Holds c.args.fact told.history.items)) c.args.executions.now
      c.loop-told.told-index c.loop-told-test.false c.loop-told.invariant some)),
)
