-- `gathering::settle` meets its contract: each turn puts the last own row that stands behind what is left, in each column by one law.
use mathlib.Core.Path.{◌≡◌}
use Prim.Native.Nat.{suc, ◌-◌, ◌<◌}
use native.Mathlib.Omega.{arith}
use lib.Ieee.{nan}
use lib.ListN.{get_or}
use Rattle.gathering.proofs.Settling.{begins, waits, ended, seat_fits, seat_down}
use Rattle.gathering.proofs.settle.Goals as goal

pub loop-i-init : goal.loop-i-init
loop-i-init c = (
  begins 0 c.requires.settles c.requires.within.0,
  begins nan c.requires.settles_2 c.requires.within.0,
  begins nan c.requires.settles_3 c.requires.within.0,
)

pub seat_row-place-requires : goal.seat_row-place-requires
seat_row-place-requires c =
    let l = c.loop-i in
    let e : l.i ≡ suc (l.i - 1) = omega (arith, c.loop-i-test.true) in
    let some : 0 < get_or c.args.seats.now (l.i - 1) 0 = omega (arith, c.if-seat-ne0.true) in
    let keys = seat_fits 0 c.requires.settles l.invariant.0 (l.i - 1) e some c.requires.within.1 in
    let distances = seat_fits nan c.requires.settles_2 l.invariant.1 (l.i - 1) e some c.requires.within.1 in
    let weights = seat_fits nan c.requires.settles_3 l.invariant.2 (l.i - 1) e some c.requires.within.1 in
    record { seat_bound = (keys.0, keys.1, keys.3); place_in_bounds = (keys.2, distances.2, weights.2) }

pub loop-i-preserved-then-seat-ne0 : goal.loop-i-preserved-then-seat-ne0
loop-i-preserved-then-seat-ne0 c =
    let l = c.loop-i in
    let e : l.i ≡ suc (l.i - 1) = omega (arith, c.loop-i-test.true) in
    let some : 0 < get_or c.args.seats.now (l.i - 1) 0 = omega (arith, c.if-seat-ne0.true) in
    let row = c.seat_row-place.ensures in
    let below = c.rows_below-rows.ensures in (
      seat_down 0 c.requires.settles l.invariant.0 (l.i - 1) e some c.requires.within.1 _ _ _ below row.value row.keys_after,
      seat_down nan c.requires.settles_2 l.invariant.1 (l.i - 1) e some c.requires.within.1 _ _ _ below row.value row.distances_after,
      seat_down nan c.requires.settles_3 l.invariant.2 (l.i - 1) e some c.requires.within.1 _ _ _ below row.value row.weights_after,
    )

pub loop-i-preserved : goal.loop-i-preserved
loop-i-preserved c =
    let l = c.loop-i in
    let e : l.i ≡ suc (l.i - 1) = omega (arith, c.loop-i-test.true) in (
      waits 0 c.requires.settles l.invariant.0 (l.i - 1) e c.if-seat-ne0.false,
      waits nan c.requires.settles_2 l.invariant.1 (l.i - 1) e c.if-seat-ne0.false,
      waits nan c.requires.settles_3 l.invariant.2 (l.i - 1) e c.if-seat-ne0.false,
    )

pub returns : goal.returns
returns c =
    let l = c.loop-i in
    let none = c.loop-i-test.false in record {
      keys_after = ended 0 c.requires.settles l.invariant.0 none;
      distances_after = ended nan c.requires.settles_2 l.invariant.1 none;
      weights_after = ended nan c.requires.settles_3 l.invariant.2 none;
    }
