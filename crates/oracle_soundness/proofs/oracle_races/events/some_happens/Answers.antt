-- the search ends at an execution, or finds none
use Rattle.std.proofs.Common.{refl, sym}
use Rattle.oracle_soundness.specs.oracle_races.Searched.{Happens}
use Rattle.oracle_soundness.proofs.oracle_races.Searches.{none_of, one_more}
use Rattle.oracle_soundness.proofs.oracle_races.events.some_happens.Goals as goal

pub returns-then-happens : goal.returns-then-happens
returns-then-happens c = (
  (λ said. (
    c.loop-told.told-index,
    c.told-item.result,
    c.loop-told-test.true,
    sym c.told-item.is,
    c.happens.ensures.0 c.if-happens.true,
  )),
  (λ some. refl),
)

pub loop-told-preserved : goal.loop-told-preserved
loop-told-preserved c =
    one_more (λ told. ¬ Happens c.args.pair c.args.event told) c.args.executions.now c.loop-told.told-index
    c.told-item.result c.told-item.is c.loop-told-test.true c.loop-told.invariant
    (λ here. let found = c.happens.ensures.1 here in cc)

pub returns : goal.returns
returns c = (
  (λ no. cc),
  (λ some. absurd (none_of (Happens c.args.pair c.args.event) c.args.executions.now
      c.loop-told.told-index c.loop-told-test.false c.loop-told.invariant some)),
)
