-- The neighbours on the lattice and the zero-crossing test are symmetric, a product of floats being so; so the zero-crossing edges meet demand 3.
-- Assumes nothing.
use Prim.Native.Nat.{ℕ, ◌*◌}
use native.Mathlib.Nat.{mul_comm, sub_self}
use mathlib.Core.Path.{◌≡◌, refl}
use mathlib.Core.Bool.{Bool, true, false, ◌&&◌, and-false}
use mathlib.Core.List.{List}
use lib.Dec.{eqb}
use lib.Ieee.{Float, nan, inf, fin, Format, binary32, mul, ne, unlike, up, down}
use Rattle.floats.specs.Floats.{zero32}
use Rattle.ids.specs.Key.{head_of, x_of, y_of, z_of}
use Rattle.neighbors.specs.Neighbors.{neighbours, adjacent, one_step}
use Rattle.neighbors.proofs.Adjacency.{adjacent_sym, neighbour_adjacent, adjacent_neighbour, neighbours_distinct}
use Rattle.search.specs.Keys.{ascending}
use Rattle.table.specs.Table.{Row}
use Rattle.table.specs.Rows.{keys_of}
use Rattle.edges.specs.Edges.{Edge, edges}
use Rattle.edges.specs.EdgeList.{Neighbourhood, Symmetric, IsEdgeList}
use Rattle.edges.specs.ZeroCrossing.{crossing, crosses_zero, zero_crossing_edges}
use Rattle.edges.proofs.EdgeLaws.{edges_are, edges_only}

pub unlike_comm : (s t : Bool) → unlike s t ≡ unlike t s
unlike_comm true true = refl
unlike_comm true false = refl
unlike_comm false true = refl
unlike_comm false false = refl

-- a product does not turn on the order of its factors
pub mul_either : (f : Format) (x y : Float) → mul f x y ≡ mul f y x
unfolding mul
mul_either f nan nan = refl
mul_either f nan (inf t) = refl
mul_either f nan (fin t n d) = refl
mul_either f (inf s) nan = refl
mul_either f (inf s) (inf t) = rw (unlike_comm s t)
mul_either f (inf s) (fin t n d) = rw (unlike_comm s t)
mul_either f (fin s m e) nan = refl
mul_either f (fin s m e) (inf t) = rw (unlike_comm s t)
mul_either f (fin s m e) (fin t n d) = rw (unlike_comm s t, mul_comm (m * up e) (n * up d), mul_comm (down e) (down d))

and_swap : (a b c : Bool) → (a && (b && c)) ≡ (b && (a && c))
and_swap true b c = refl
and_swap false true c = refl
and_swap false false c = refl

-- two rows cross whichever is named first
pub crosses_either : Symmetric crosses_zero
unfolding crossing
crosses_either r s = rw (mul_either binary32 r.distance s.distance) (and_swap (ne r.weight zero32) (ne s.weight zero32) _)

-- no cell is adjacent to itself
not_adjacent : (k : ℕ) → adjacent k k ≡ false
unfolding adjacent one_step
not_adjacent k = rw (sub_self (x_of k), sub_self (y_of k), sub_self (z_of k)) (and-false (eqb (head_of k) (head_of k)))

pub lattice : Neighbourhood neighbours adjacent
lattice =
    record {
      once = λ k. neighbours_distinct k;
      exactly = λ k l. (neighbour_adjacent k l, adjacent_neighbour k l);
      both = adjacent_sym;
      apart = not_adjacent;
    }

-- Of ascending rows, for any test of two rows that is symmetric, the list holds every pair of adjacent stored cells that cross, and no other, each pair
-- once, smaller key first, in document 01's order; and no other list does.
module _ (crosses : Row → Row → Bool) (both : Symmetric crosses) (rows : List Row) (up : ascending (keys_of rows) ≡ true) where
  pub demand_3_over : IsEdgeList neighbours adjacent crosses rows (edges neighbours crosses rows)
  demand_3_over = edges_are neighbours adjacent crosses rows lattice both up

  pub demand_3_over_only : (l : List Edge) → IsEdgeList neighbours adjacent crosses rows l → l ≡ edges neighbours crosses rows
  demand_3_over_only l h = edges_only neighbours adjacent crosses rows lattice both up l h

-- Of ascending rows, the edge list holds every pair of adjacent stored cells with nonzero weights whose f32 distance product is below zero, each pair
-- once, smaller key first, in document 01's order, and no other; and no other list does.
module _ (rows : List Row) (up : ascending (keys_of rows) ≡ true) where
  pub demand_3_edges : IsEdgeList neighbours adjacent crosses_zero rows (zero_crossing_edges rows)
  demand_3_edges = demand_3_over crosses_zero crosses_either rows up

  pub demand_3_edges_only : (l : List Edge) → IsEdgeList neighbours adjacent crosses_zero rows l → l ≡ zero_crossing_edges rows
  demand_3_edges_only l h = demand_3_over_only crosses_zero crosses_either rows up l h
