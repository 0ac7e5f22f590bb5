-- `owning::load_own` meets its contract: the own keys get their seats, and each column its own values.
-- Assumes nothing.
use native.Mathlib.Omega.{arith}
use lib.ListN.{length, take}
use lib.Seq.{length-take-le}
use lib.Ieee.{of_bits, nan_bits}
use Rattle.table.proofs.RowLaws.{lengths_known}
use Rattle.gathering.proofs.Planning.{located_within}
use Rattle.owning.proofs.load_own.Goals as goal

pub locate-requires : goal.locate-requires
locate-requires c =
    let s = c.args in
    let f = lengths_known (length s.rows.now.keys.now) (length s.rows.now.distances.now) (length s.rows.now.weights.now) s.rows.now.count c.requires.count_value in
    let o = lengths_known (length s.own_keys.now) (length s.own_distances.now) (length s.own_weights.now) s.own c.requires.own_value in
    record {
      count_in_bounds = (f.0, f.3, c.requires.keys_value.0);
      own_in_bounds = (o.0, c.requires.keys_value.1, c.requires.keys_value.2);
    }

pub load-requires : goal.load-requires
load-requires c =
    let s = c.args in
    let f = lengths_known (length s.rows.now.keys.now) (length s.rows.now.distances.now) (length s.rows.now.weights.now) s.rows.now.count c.requires.count_value in
    let o = lengths_known (length s.own_keys.now) (length s.own_distances.now) (length s.own_weights.now) s.own c.requires.own_value in
    record {
      own_in_bounds = (omega (arith, c.locate.auto.seats, c.requires.keys_value.1), omega (arith, o));
      within = located_within (take s.rows.now.count s.rows.now.keys.now) s.own_keys.now _ s.own c.locate.ensures o.0
          (omega (arith, c.locate.auto.seats, c.requires.keys_value.1)) _
          (omega (arith, f, length-take-le s.rows.now.count s.rows.now.keys.now f.0));
    }

pub load-requires-2 : goal.load-requires-2
load-requires-2 c =
    let s = c.args in
    let f = lengths_known (length s.rows.now.keys.now) (length s.rows.now.distances.now) (length s.rows.now.weights.now) s.rows.now.count c.requires.count_value in
    let o = lengths_known (length s.own_keys.now) (length s.own_distances.now) (length s.own_weights.now) s.own c.requires.own_value in
    record {
      own_in_bounds = (omega (arith, c.locate.auto.seats, c.requires.keys_value.1), omega (arith, o));
      within = located_within (take s.rows.now.count s.rows.now.keys.now) s.own_keys.now _ s.own c.locate.ensures o.0
          (omega (arith, c.locate.auto.seats, c.requires.keys_value.1)) _
          (omega (arith, f, length-take-le s.rows.now.count s.rows.now.keys.now f.0));
    }

pub float_from_bits-load : goal.float_from_bits-load
unfolding nan_bits
float_from_bits-load c = tt

pub returns : goal.returns
unfolding of_bits
returns c =
    record {
      seats = c.locate.ensures;
      distances = c.load.ensures;
      weights = c.load-2.ensures;
    }
