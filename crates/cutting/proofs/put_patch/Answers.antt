-- `cutting::put_patch` meets its contract: no triangle, one or two are put.
-- Assumes nothing.
use native.Mathlib.Omega.{arith}
use Rattle.cutting.proofs.PutLaws.{empty_put, single_put, double_put}
use Rattle.cutting.proofs.put_patch.Goals as goal

pub returns-in-Empty : goal.returns-in-Empty
returns-in-Empty c =
    record {
      puts = rw c.in-Empty.is (empty_put _ _ _ _);
      upper_bound = omega arith;
    }

pub returns-in-Single : goal.returns-in-Single
returns-in-Single c =
    let told = c.in-Single.is in
    let e = c.put_triangle.ensures in
    record {
      puts = rw told (single_put _ _ _ _ _ _ _ _ e.t0_after e.t1_after e.t2_after);
      upper_bound = omega arith;
    }

pub returns-in-Double : goal.returns-in-Double
returns-in-Double c =
    let told = c.in-Double.is in
    let d = c.put_triangle-in-Double.ensures in
    let e = c.put_triangle-in-Double-2.ensures in
    record {
      puts = rw told (double_put _ _ _ _ _ _ _ _ _ _ _ _ d.t0_after d.t1_after d.t2_after e.t0_after e.t1_after e.t2_after);
      upper_bound = omega arith;
    }
