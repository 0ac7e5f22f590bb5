-- On an accepted table the search finds the weights of the rows, so two rows cross as the definition says.
-- Assumes nothing.
use Rattle.std.specs.Prelude.{Some, None, Option}
use Prim.Native.Nat.{ℕ, ◌<◌}
use native.Mathlib.Omega.{arith}
use mathlib.Core.Path.{◌≡◌, refl, fun_ext}
use mathlib.Core.Bool.{Bool, true, false}
use mathlib.Core.List.{List}
use borrow.Author.Tests.{lt-ltb}
use lib.Ieee.{Float}
use lib.ListN.{length, take}
use Rattle.rings.specs.Sides.{weighted, opposed}
use Rattle.rings.specs.Rings.{weighted_at, weighted_found, weighted_by, joint_by, crosses_scan}
use Rattle.search.specs.Keys.{find_by}
use Rattle.search.specs.Nearby.{find_near}
use Rattle.search.proofs.NearbyLaws.{find_near_lem}
use Rattle.table.specs.Table.{Row, rows_of, table}
use Rattle.edges.specs.Steps.{Accepted, row_at}
use Rattle.edges.proofs.ListingLaws.{place_below, none_stored, one_stored}

module _ (ks : List ℕ) (ds ws : List Float) (n : ℕ) (acc : Accepted (table ks ds ws n)) where
  -- the weight where a search finds a key is that of the row
  pub found_weight : (key : ℕ) (f : Option ℕ) → f ≡ find_by key (take n ks) → weighted_found ws f ≡ weighted_at (rows_of ks ds ws n) key
  unfolding weighted_found weighted_at weighted
  found_weight key (Some i) e =
      let h : i < length ws = omega (arith, place_below ks ds ws n acc key (Some i) e i refl, acc.fits, acc.weights) in
      rw (lt-ltb i (length ws) h, one_stored ks ds ws n acc key (Some i) e i refl)
  found_weight key None e = rw (none_stored ks ds ws n acc key None e refl)

  weighted_by_lem : (near : ℕ) → weighted_by ks ws n near ≡ weighted_at (rows_of ks ds ws n)
  weighted_by_lem near = fun_ext (λ key. found_weight key (find_near key (take n ks) near) (find_near_lem key (take n ks) near acc.rising))

  -- the rows at two places
  module _ (i j : ℕ) where
    abbrev r : Row
    r = row_at ks ds ws i

    abbrev s : Row
    s = row_at ks ds ws j

    abbrev sides : Bool
    sides = opposed r.distance r.weight s.distance s.weight

    pub one_side : sides ≡ false → false ≡ crosses_scan (rows_of ks ds ws n) r s
    unfolding crosses_scan
    one_side e = rw e

    pub both_sides : sides ≡ true → (near : ℕ) (b : Bool) → b ≡ joint_by (weighted_by ks ws n near) r.key s.key → b ≡ crosses_scan (rows_of ks ds ws n) r s
    unfolding crosses_scan
    both_sides e near b q = rw (e, ← weighted_by_lem near) q
