-- `higher::places_of` meets its contract: the cells are the neighbours of the row's.
-- Assumes nothing.
use Rattle.std.proofs.Common.{not}
use Prim.Native.Nat.{ℕ}
use native.Mathlib.Omega.{arith}
use mathlib.Core.Path.{◌≡◌, ap}
use mathlib.Core.Bool.{Bool, true, ◌&&◌}
use mathlib.Core.List.{List}
use lib.Dec.{ltb}
use lib.Ieee.{Float}
use lib.ListN.{length, get_or}
use Rattle.lists.specs.Padding.{padded}
use Rattle.lists.proofs.Bools.{yes, no}
use Rattle.table.specs.Table.{lengths_ok}
use Rattle.neighbors.specs.Neighbors.{neighbours}
use Rattle.neighbors.proofs.NeighborLaws.{at_most_14, cells_known}
use Rattle.higher.specs.Places.{places_in}
use Rattle.higher.specs.Steps.{AtRow}
use Rattle.higher.proofs.PlaceLaws.{fit, within}
use Rattle.higher.proofs.places_of.Goals as goal

-- what the code tests is what the definition tests
tested :
    (ks : List ℕ) (distances : ℕ) (ws : List Float) (n row : ℕ) {ok : Bool}
    → ok ≡ lengths_ok (length ks) distances (length ws) n
    → (ok && ltb row n) ≡ fit ks distances ws n row
tested ks distances ws n row = ap (λ (b : Bool). b && ltb row n)

-- the row stands within the lists
stands :
    (ks : List ℕ) (distances : ℕ) (ws : List Float) (n row : ℕ) {ok : Bool}
    → ok ≡ lengths_ok (length ks) distances (length ws) n
    → (ok && ltb row n) ≡ true
    → AtRow ks ws n row
stands ks distances ws n row e t = within ks distances ws n row (yes (tested ks distances ws n row e) (ap not t))

pub returns-then-not-lengths_ok-row : goal.returns-then-not-lengths_ok-row
unfolding places_in padded
returns-then-not-lengths_ok-row c = rw (no (tested _ c.args.distances _ _ _ c.lengths_ok.ensures) (ap not c.if-not-lengths_ok-row.true))

pub offset_bounds-keys-row : goal.offset_bounds-keys-row
offset_bounds-keys-row c = let h = stands _ c.args.distances _ _ _ c.lengths_ok.ensures c.if-not-lengths_ok-row.false in omega arith

pub bounds-keys-row : goal.bounds-keys-row
bounds-keys-row c = let h = stands _ c.args.distances _ _ _ c.lengths_ok.ensures c.if-not-lengths_ok-row.false in omega arith

pub gather-requires : goal.gather-requires
gather-requires c =
    let key = get_or c.args.keys.now c.args.row 0 in
    let cells : c.cells.result.now ≡ neighbours key = cells_known key c.around-near.ensures c.cells.ensures in
    (stands _ c.args.distances _ _ _ c.lengths_ok.ensures c.if-not-lengths_ok-row.false, rw cells (at_most_14 key))

pub returns : goal.returns
unfolding places_in
returns c =
    let a = c.args in
    let key = get_or a.keys.now a.row 0 in
    let cells : c.cells.result.now ≡ neighbours key = cells_known key c.around-near.ensures c.cells.ensures in
    rw (yes (tested a.keys.now a.distances a.weights.now a.count a.row c.lengths_ok.ensures) (ap not c.if-not-lengths_ok-row.false))
    (rw cells at c.gather.ensures)
