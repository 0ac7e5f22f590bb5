-- The march on the lattice: its neighbours and the lengths of its steps.
use Rattle.std.specs.Prelude.{ℕ, cond, List, ltb, Float}
use Rattle.floats.specs.Floats.{f32}
use Rattle.neighbors.specs.Neighbors.{neighbours}
use Rattle.table.specs.Table.{Row}
use Rattle.marching.specs.declared.Course.{Course}
use Rattle.marching.specs.March.{Field, Rooms, Going, diagonal, seeds, march}

-- 2
abbrev pub axial : Float
axial = f32 0x4000_0000

-- the root of 3 for the first eight places of the surviving neighbours, 2 after
unfoldable pub length_at : ℕ → Float
length_at p = cond (ltb p 8) diagonal axial

-- the lattice with a voxel size and a maximum distance
abbrev pub lattice : Float → Float → Field
lattice size most = record { near = neighbours; reach = λ k p. length_at p; size = size; most = most }

-- the lattice of a course
abbrev pub lattice_of : Course → Field
lattice_of c = lattice c.size c.most

-- a march over a fused table's rows
abbrev pub march_from : Float → Float → Rooms → Float → List Row → Going
march_from size most m threshold rs = march (lattice size most) m (seeds threshold rs)
