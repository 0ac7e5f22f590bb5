-- Edges: rows ascending; for each, neighbours in their order. A pair is listed when both are stored, they cross, and the row's key is the smaller.
use Rattle.std.specs.Prelude.{ℕ, Bool, false, ◌&&◌, ltb, None, Option, Some}
use mathlib.Core.List.{List, map}
use Rattle.lists.specs.Lists.{kept, joined}
use Rattle.table.specs.Table.{Row}
use Rattle.table.specs.Rows.{stored}

-- two cells, the smaller key first
pub record Edge : Type 0 where
  pub first : ℕ
  pub second : ℕ

abbrev pub edge : ℕ → ℕ → Edge
edge a b = record { first = a; second = b }

-- a row crosses with what is stored of a neighbour
abbrev pub crosses_with : (Row → Row → Bool) → Row → Option Row → Bool
crosses_with crosses r None = false
crosses_with crosses r (Some s) = crosses r s

-- `near` gives a key's neighbours in order, and `crosses` says of two rows whether the surface lies between them
module _ (near : ℕ → List ℕ) (crosses : Row → Row → Bool) (rows : List Row) where
  -- a row and a neighbour are listed
  unfoldable pub listed : Row → ℕ → Bool
  listed r k = ltb r.key k && crosses_with crosses r (stored k rows)

  -- the edges of a row to those of some keys that are listed
  unfoldable pub edges_to : Row → List ℕ → List Edge
  unfolding listed kept
  edges_to r ks = map (λ (k : ℕ). edge r.key k) (kept (listed r) ks)

  -- the edges that a row lists
  abbrev pub edges_of : Row → List Edge
  edges_of r = edges_to r (near r.key)

  -- the edge list
  unfoldable pub edges : List Edge
  unfolding edges_to joined
  edges = joined edges_of rows
