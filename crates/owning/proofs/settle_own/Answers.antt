-- `owning::settle_own` meets its contract: each column is settled by the seats of the own rows that stand.
-- Assumes nothing.
use mathlib.Core.Path.{◌∙◌}
use native.Mathlib.Omega.{arith}
use lib.ListN.{length}
use Rattle.table.proofs.RowLaws.{lengths_known}
use Rattle.gathering.proofs.Planning.{planned}
use Rattle.owning.proofs.settle_own.Goals as goal

pub hold_back-requires : goal.hold_back-requires
hold_back-requires c =
    let s = c.args in
    let o = lengths_known (length s.own_keys.now) (length s.own_distances.now) (length s.own_weights.now) s.own c.requires.own_value in
    (omega (arith, o), c.requires.own_keys_value.1)

pub settle-requires : goal.settle-requires
settle-requires c =
    let s = c.args in
    let f = lengths_known (length s.keys.now) (length s.distances.now) (length s.weights.now) s.count c.requires.count_value in
    let o = lengths_known (length s.own_keys.now) (length s.own_distances.now) (length s.own_weights.now) s.own c.requires.own_value in
    let p =
    planned s.most s.keys.now s.distances.now s.weights.now s.count c.requires.count_value
    s.own_keys.now s.own_distances.now s.own_weights.now s.own c.requires.own_value
    c.requires.own_keys_value.0 s.seats.now c.requires.own_keys_value.1 c.requires.own_keys_value.2 _ c.hold_back.ensures in
    let total = c.requires.total_value in record {
      within = (p.within, p.order);
      settles = record {
        column = f.0;
        seats = omega (arith, c.hold_back.auto.seats, c.requires.own_keys_value.1);
        values = o.0;
        makes = total.0 ∙ p.keys;
        room = total.1;
      };
      settles_2 = record {
        column = omega (arith, f);
        seats = omega (arith, c.hold_back.auto.seats, c.requires.own_keys_value.1);
        values = omega (arith, o);
        makes = total.0 ∙ p.distances;
        room = omega (arith, f, total.1);
      };
      settles_3 = record {
        column = omega (arith, f);
        seats = omega (arith, c.hold_back.auto.seats, c.requires.own_keys_value.1);
        values = omega (arith, o);
        makes = total.0 ∙ p.weights;
        room = omega (arith, f, total.1);
      };
    }

pub returns : goal.returns
returns c =
    let s = c.args in
    let did = c.settle.ensures in
    (planned s.most s.keys.now s.distances.now s.weights.now s.count c.requires.count_value
    s.own_keys.now s.own_distances.now s.own_weights.now s.own c.requires.own_value
    c.requires.own_keys_value.0 s.seats.now c.requires.own_keys_value.1 c.requires.own_keys_value.2 _ c.hold_back.ensures).settled
    _ _ _ s.total did.keys_after did.distances_after did.weights_after c.requires.total_value.0
