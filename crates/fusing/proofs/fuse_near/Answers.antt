-- `fusing::fuse_near` meets its contract: a stored key's voxel is changed in place, and a new key is added.
-- Assumes nothing.
use Rattle.std.specs.Prelude.{Some, Option}
use Rattle.std.proofs.Common.{ap, not}
use mathlib.Core.Path.{◌≡◌, sym, ◌∙◌}
use Prim.Native.Nat.{ℕ}
use mathlib.Core.List.{List}
use mathlib.Core.Bool.{true}
use native.Mathlib.Omega.{arith}
use lib.ListN.{take}
use Rattle.search.specs.Keys.{find, find_by, ascending}
use Rattle.lists.proofs.Bools.{yes, no}
use Rattle.search.proofs.KeyLaws.{find_by-find}
use Rattle.fusing.proofs.Storing.{too_large, changed}
use Rattle.table.proofs.Putting.{place_in}
use Rattle.fusing.proofs.fuse_near.Goals as goal

-- what the search told, where it found the key
told : (k n : ℕ) (ks : List ℕ) {f : Option ℕ} {i : ℕ} → ascending (take n ks) ≡ true → f ≡ find_by k (take n ks) → f ≡ Some i → find k (take n ks) ≡ Some i
told k n ks a e w = sym (find_by-find _ _ a) ∙ sym e ∙ w

pub add_row-requires : goal.add_row-requires
add_row-requires c = record {
  count_value = c.requires.count_value;
  keys_value = c.requires.keys_value;
  keys_value_2 = sym (find_by-find _ _ c.requires.keys_value) ∙ sym c.find_row.ensures ∙ c.in_default.is;
}

pub offset_bounds-rows-i : goal.offset_bounds-rows-i
offset_bounds-rows-i c = omega (
  arith,
  place_in c.args.rows.now.keys.now c.args.rows.now.distances.now c.args.rows.now.weights.now c.args.rows.now.count c.requires.count_value _ _
      (told c.args.key c.args.rows.now.count c.args.rows.now.keys.now c.requires.keys_value c.find_row.ensures c.in-Some.is),
)

pub bounds-rows-i : goal.bounds-rows-i
bounds-rows-i c = (place_in c.args.rows.now.keys.now c.args.rows.now.distances.now c.args.rows.now.weights.now c.args.rows.now.count c.requires.count_value _ _
    (told c.args.key c.args.rows.now.count c.args.rows.now.keys.now c.requires.keys_value c.find_row.ensures c.in-Some.is)).0

pub offset_bounds-rows-i-2 : goal.offset_bounds-rows-i-2
offset_bounds-rows-i-2 c = omega (
  arith,
  place_in c.args.rows.now.keys.now c.args.rows.now.distances.now c.args.rows.now.weights.now c.args.rows.now.count c.requires.count_value _ _
      (told c.args.key c.args.rows.now.count c.args.rows.now.keys.now c.requires.keys_value c.find_row.ensures c.in-Some.is),
)

pub bounds-rows-i-2 : goal.bounds-rows-i-2
bounds-rows-i-2 c = (place_in c.args.rows.now.keys.now c.args.rows.now.distances.now c.args.rows.now.weights.now c.args.rows.now.count c.requires.count_value _ _
    (told c.args.key c.args.rows.now.count c.args.rows.now.keys.now c.requires.keys_value c.find_row.ensures c.in-Some.is)).1

pub returns-then-not-within-clause-table_after : goal.returns-then-not-within-clause-table_after
returns-then-not-within-clause-table_after c =
    too_large _ _ _ _ _ _ _ _
    (told c.args.key c.args.rows.now.count c.args.rows.now.keys.now c.requires.keys_value c.find_row.ensures c.in-Some.is) _ c.fused_voxel-v.ensures (no c.within.ensures (ap not c.if-not-within.true))

pub offset_bounds-rows-i-3 : goal.offset_bounds-rows-i-3
offset_bounds-rows-i-3 c =
    omega (
      arith,
      place_in c.args.rows.now.keys.now c.args.rows.now.distances.now c.args.rows.now.weights.now c.args.rows.now.count c.requires.count_value _ _
          (told c.args.key c.args.rows.now.count c.args.rows.now.keys.now c.requires.keys_value c.find_row.ensures c.in-Some.is),
    )

pub bounds-rows-i-3 : goal.bounds-rows-i-3
bounds-rows-i-3 c =
    (place_in c.args.rows.now.keys.now c.args.rows.now.distances.now c.args.rows.now.weights.now c.args.rows.now.count c.requires.count_value _ _
    (told c.args.key c.args.rows.now.count c.args.rows.now.keys.now c.requires.keys_value c.find_row.ensures c.in-Some.is)).0

pub offset_bounds-rows-i-4 : goal.offset_bounds-rows-i-4
offset_bounds-rows-i-4 c =
    omega (
      arith,
      place_in c.args.rows.now.keys.now c.args.rows.now.distances.now c.args.rows.now.weights.now c.args.rows.now.count c.requires.count_value _ _
          (told c.args.key c.args.rows.now.count c.args.rows.now.keys.now c.requires.keys_value c.find_row.ensures c.in-Some.is),
    )

pub bounds-rows-i-4 : goal.bounds-rows-i-4
bounds-rows-i-4 c =
    (place_in c.args.rows.now.keys.now c.args.rows.now.distances.now c.args.rows.now.weights.now c.args.rows.now.count c.requires.count_value _ _
    (told c.args.key c.args.rows.now.count c.args.rows.now.keys.now c.requires.keys_value c.find_row.ensures c.in-Some.is)).1

pub returns-clause-table_after : goal.returns-clause-table_after
returns-clause-table_after c =
    changed _ _ _ _ _ _ _ _ (told c.args.key c.args.rows.now.count c.args.rows.now.keys.now c.requires.keys_value c.find_row.ensures c.in-Some.is) _ c.fused_voxel-v.ensures
    (yes c.within.ensures (ap not c.if-not-within.false)) c.requires.count_value c.requires.keys_value
