-- `higher::higher_of` meets its contract: both columns are read at the places of the row's higher neighbours.
-- Assumes nothing.
use Prim.Native.Nat.{ℕ}
use mathlib.Core.Path.{ap, ◌∙◌}
use mathlib.Core.Bool.{false}
use mathlib.Core.List.{List, map}
use lib.ListN.{length}
use Rattle.lists.specs.Padding.{padded}
use Rattle.handful.specs.declared.Handful.{Handful}
use Rattle.table.specs.declared.Rows.{Rows}
use Rattle.higher.specs.Places.{key_at, is_inside_at, places_in, higher_of}
use Rattle.higher.proofs.PlaceLaws.{places_few, places_below}
use Rattle.higher.proofs.ColumnLaws.{same_numbers}
use Rattle.higher.proofs.higher_of.Goals as goal

-- the places of a row's higher neighbours
abbrev known : Rows → ℕ → List ℕ
known rows row = places_in rows.keys.now (length rows.distances.now) rows.weights.now rows.count row

pub keys_at-requires : goal.keys_at-requires
keys_at-requires c =
    let r = c.args.rows.now in
    rw (same_numbers (known r c.args.row) c.as_slice.ensures c.places_of-places.ensures) (
      places_few r.keys.now (length r.distances.now) r.weights.now r.count c.args.row,
      λ i m. (places_below r.keys.now (length r.distances.now) r.weights.now r.count c.args.row i m).0,
    )

pub inside_at-requires : goal.inside_at-requires
inside_at-requires c =
    let r = c.args.rows.now in
    rw (same_numbers (known r c.args.row) c.as_slice-2.ensures c.places_of-places.ensures) (
      places_few r.keys.now (length r.distances.now) r.weights.now r.count c.args.row,
      λ i m. (places_below r.keys.now (length r.distances.now) r.weights.now r.count c.args.row i m).1,
    )

pub returns : goal.returns
unfolding higher_of
returns c =
    let r = c.args.rows.now in
    let e = c.places_of-places.ensures in
    let ks = c.keys_at.ensures ∙ ap (λ (l : List ℕ). padded 0 14 (map (key_at r.keys.now) l)) (same_numbers (known r c.args.row) c.as_slice.ensures e) in
    let is =
    c.inside_at.ensures
    ∙ ap (λ (l : List ℕ). padded false 14 (map (is_inside_at r.distances.now) l)) (same_numbers (known r c.args.row) c.as_slice-2.ensures e) in
    let n = ap (λ (h : Handful). h.count) e in
    λ i. record { keys = ks i; inside = is i; count = n i }
