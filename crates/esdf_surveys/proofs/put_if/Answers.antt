-- `esdf_surveys::put_if` meets its contract: both lists by one test.
-- Assumes nothing.
use Rattle.esdf_surveys.proofs.Walking.{put_yes, put_no}
use Rattle.esdf_surveys.proofs.put_if.Goals as goal

pub returns-then-size-threshold : goal.returns-then-size-threshold
returns-then-size-threshold c =
    let a = c.args in
    put_yes a.threshold a.key a.distance _ c.size.ensures _ _ _ _ _ c.if-size-threshold.true
    c.put.ensures c.put-then-size-threshold.ensures

pub returns-else-size-threshold : goal.returns-else-size-threshold
returns-else-size-threshold c =
    let a = c.args in
    put_no a.threshold a.key a.distance _ c.size.ensures _ _ _ c.if-size-threshold.false
