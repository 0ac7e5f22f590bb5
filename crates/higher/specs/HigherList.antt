-- What is said of a row's higher neighbours in a table.
use Rattle.std.specs.Prelude.{ℕ, ◌≤◌, ◌≡◌, List, map, length, take}
use Rattle.table.specs.Table.{Row}
use Rattle.tetrahedra.specs.ClosedEdges.{inside_at}
use Rattle.tetrahedra.specs.Near.{higher}
use Rattle.higher.specs.declared.Higher.{Higher}

-- h holds the higher neighbours of the cell k, and which of them are inside, in rooms of 14
pub record IsHigher (rows : List Row) (k : ℕ) (h : Higher) : Type 0 where
  pub cells : take h.count h.keys ≡ higher rows k
  pub sides : take h.count h.inside ≡ map (inside_at rows) (higher rows k)
  pub number : h.count ≡ length (higher rows k)
  pub few : h.count ≤ 14
  pub keys_room : length h.keys ≡ 14
  pub inside_room : length h.inside ≡ 14
