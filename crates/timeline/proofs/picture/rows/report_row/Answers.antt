-- the row is where its accesses are in progress
use Rattle.timeline.proofs.picture.Placed.{origin_placed, race_placed}
use Rattle.timeline.proofs.picture.rows.report_row.Goals as goal

pub returns-in-Two : goal.returns-in-Two
returns-in-Two c = λ accesses named holds. race_placed accesses c.args.report.now _ _ _ c.in-Two.is c.the.result c.the-in-Two.result c.race_row.result
    (c.the.ensures accesses named) (c.the-in-Two.ensures accesses named) holds c.race_row.ensures.mark c.race_row.ensures.stamp

pub returns-in-Unknown : goal.returns-in-Unknown
returns-in-Unknown c = λ accesses named holds. origin_placed accesses c.args.report.now _ _ _ c.in-Unknown.is c.the-in-Unknown.result c.origin_row.result
    (c.the-in-Unknown.ensures accesses named) holds c.origin_row.ensures.mark c.origin_row.ensures.stamp
