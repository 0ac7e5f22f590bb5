-- A march with just enough places, computed on the definition, and two with a place too few. Assumes nothing.
use mathlib.Core.Path.{◌≡◌, refl}
use mathlib.Core.Bool.{cond}
use mathlib.Core.List.{List, [], ◌∷◌, map}
use Prim.Native.Nat.{ℕ, ◌+◌}
use lib.Dec.{eqb}
use lib.ListN.{length}
use lib.Ieee.{of_bits, to_bits, binary32, add, mul, lt, eq, le, neg}
use Rattle.ids.specs.Key.{key_of}
use Rattle.ids.specs.Morton.{morton, respaced}
use Rattle.neighbors.specs.Neighbors.{offsets, in_box, reached_from, shown, neighbours_by}
use Rattle.search.specs.Keys.{member}
use Rattle.lists.specs.Lists.{insert}
use Rattle.table.specs.Table.{row}
use Rattle.refusals.specs.Refusals.{number_of}
use Rattle.floats.specs.Floats.{f32}
use Rattle.marching.specs.March.{MarchedRow, rooms, Going, on, refused, and_then, distance_of, store, wait, wait_all, seeds, sow, sow_all, candidate, heard, settling, settled, spread, settle, visit, taking, take_up_to, march}
use Rattle.marching.specs.Lattice.{length_at, march_from}

-- one row at a coordinate on all three axes, with its distance's bits; the maximum distance's bits; rooms of rows and of waiting cells
pub record Sample : Type 0 where
  pub at : ℕ
  pub distance : ℕ
  pub most : ℕ
  pub rows : ℕ
  pub cells : ℕ

abbrev pub of : ℕ → ℕ → ℕ → ℕ → ℕ → Sample
of a d m r c = record { at = a; distance = d; most = m; rows = r; cells = c }

-- size 1, weight 1, threshold 0.5
abbrev pub marched : Sample → Going
marched s =
    march_from (f32 0x3F80_0000) (f32 s.most) (rooms s.rows s.cells) (f32 0x3F00_0000)
    (row (key_of 0 s.at s.at s.at) (f32 s.distance) (f32 0x3F80_0000) ∷ [])

-- how many rows have a distance of these bits
unfoldable pub holding : ℕ → List MarchedRow → ℕ
holding b [] = 0
holding b (r ∷ rs) = cond (eqb (to_bits binary32 r.distance) b) 1 0 + holding b rs

-- rows, takings, rows at 0, at the root of 3, at 2 and at 1.9; or the refusal's number
unfoldable pub told : Going → List ℕ
told (on s) = length s.stored ∷ s.takings ∷ map (λ b. holding b s.stored) (0 ∷ 0x3FDDB3D7 ∷ 0x40000000 ∷ 0x3FF33333 ∷ [])
told (refused why) = number_of why ∷ []

pub samples :
    map (λ s. told (marched s))
    (of 10 0 0x40000000 15 14 ∷ of 10 0 0x40000000 14 14 ∷ of 10 0 0x40000000 15 13 ∷ [])
    ≡ (15 ∷ 14 ∷ 1 ∷ 8 ∷ 6 ∷ 0 ∷ []) ∷ (6 ∷ []) ∷ (8 ∷ []) ∷ []
unfolding holding told insert and_then member distance_of store wait wait_all seeds sow sow_all candidate heard settling
    settled spread settle visit taking take_up_to march length_at
    morton respaced offsets in_box reached_from shown neighbours_by of_bits to_bits add mul lt eq le neg
samples = refl
