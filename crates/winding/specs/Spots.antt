-- Points by whole numbers, and on which side of three of them a fourth lies.
use Rattle.std.specs.Prelude.{ℕ, ◌+◌, ◌*◌, Bool, ltb}
use Rattle.ids.specs.Key.{x_of, y_of, z_of}
use Rattle.winding.specs.declared.Spot.{Spot}

-- a point with the coordinates of two added
abbrev pub both : Spot → Spot → Spot
both a b = record { x = a.x + b.x; y = a.y + b.y; z = a.z + b.z }

-- a cell's coordinates
abbrev pub cell_spot : ℕ → Spot
cell_spot k = record { x = x_of k; y = y_of k; z = z_of k }

-- the point halfway between two cells, in doubled coordinates; of a cell and itself that is where the cell stands
abbrev pub halfway : ℕ → ℕ → Spot
halfway k l = both (cell_spot k) (cell_spot l)

-- Of the determinant of three points as rows the three products with a plus; those with a minus are the same with two points exchanged.
unfoldable pub triple : Spot → Spot → Spot → ℕ
triple a b c = a.x * (b.y * c.z) + (b.x * (c.y * a.z) + c.x * (a.y * b.z))

-- Of the determinant of b - a, c - a and p - a the twelve products with a plus; those with a minus are the same with a and b exchanged.
unfoldable pub plus_terms : Spot → Spot → Spot → Spot → ℕ
unfolding triple
plus_terms a b c p = triple b c p + (triple a p c + (triple a b p + triple a c b))

-- p lies in front of a, b, c: the determinant is above 0, and seen from p they turn to the left
unfoldable pub in_front : Spot → Spot → Spot → Spot → Bool
unfolding plus_terms
in_front a b c p = ltb (plus_terms b a c p) (plus_terms a b c p)

-- The normal of a, b, c points from p to q: its product with q - p, which is the determinant at q less that at p, is above 0.
unfoldable pub points_from_to : Spot → Spot → Spot → Spot → Spot → Bool
unfolding plus_terms
points_from_to a b c p q = ltb (plus_terms b a c q + plus_terms a b c p) (plus_terms a b c q + plus_terms b a c p)
