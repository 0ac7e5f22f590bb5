-- Document 01's cases marked P, and those of document 02's requests: what the definitions give beside what the documents say, one list and one
-- statement. Floats stand as their bits, whole numbers below 0 as 32 bits.
-- Assumes nothing.
use Rattle.std.specs.Prelude.{Ok, Err, Result, Float}
use Prim.Native.Nat.{ℕ, ◌+◌, ◌-◌}
use mathlib.Core.Path.{◌≡◌, refl}
use mathlib.Core.Bool.{cond}
use mathlib.Core.List.{List, [], ◌∷◌, ◌++◌, map}
use lib.Count.{count_trailing_zeros}
use lib.Dec.{eqb}
use lib.IntN.{ℤ, pos, negsuc}
use lib.Ieee.{binary32, span, climb, size, odd, units, round, neg, sum, add, sub, mul, div, lt, le, eq, ne, of_int, of_fields, of_bits, to_bits}
use lib.ListN.{length, replicate}
use Rattle.floats.specs.Floats.{f32, zero32, one32}
use Rattle.lists.specs.Beside.{beside_by}
use Rattle.lists.specs.Lists.{joined, insert}
use Rattle.refusals.specs.Refusals.{number_of}
use Rattle.ids.specs.Key.{key_of, same_parity}
use Rattle.ids.specs.Morton.{respaced, morton}
use Rattle.neighbors.specs.Neighbors.{offsets, in_box, reached_from, shown, neighbours_by}
use Rattle.search.specs.Keys.{member, rises_from, ascending, next, find, place_of}
use Rattle.root.specs.Root.{root_answer}
use Rattle.bcc_utils.specs.Snapping.{even, on_lattice, even_down, even_up, odd_up, odd_down, square_of, squared_distance, nearest, nearer, nearest_candidate, is_end, snapped, snapped_number, snapped_place}
use Rattle.table.specs.Table.{Row, row, Table, table, rows, rows_ok, settings_of, need, check_with, put, relaid}
use Rattle.table.specs.Rows.{stored}
use Rattle.measuring.specs.declared.Reading.TheVariants.{Direct}
use Rattle.measuring.specs.Readings.{admit_if, admitted}
use Rattle.fusing.specs.Fusing.{new_weight, fused_voxel, voxel_at, has_place, step_at, stored as fused-stored, fused_near, fused_if, fuse_if, effect_of, fuse, fused_number}
use Rattle.batching.specs.Batches.{stop_or, batch_from, ahead_of, answers_from, counting, counts_of, batch_if, batch, batched_number, batched_counts, batched_at}
use Rattle.edges.specs.Edges.{edges}
use Rattle.edges.specs.ZeroCrossing.{crossing, zero_crossing_edges}
use Rattle.edges.specs.Listing.{firsts, seconds}
use Rattle.slopes.specs.declared.Vertex.{Vertex}
use Rattle.slopes.specs.Stored.{or_zero}
use Rattle.slopes.specs.Vertices.{part_of, vertex_of, vertex_at, vertices_of}
use Rattle.vertices.specs.StoredRows.{distance_of as distance-stored, distance_in}
use Rattle.marching.specs.March.{MarchedRow, rooms, Going, on, refused, and_then, distance_of, store, wait, wait_all, seeds, sow, sow_all, candidate, heard, settling, settled, spread, settle, visit, taking, take_up_to, march}
use Rattle.marching.specs.Lattice.{length_at, march_from}
use Rattle.refusals.specs.declared.Refusal.{Refusal}

-- ---- how a case is written down

-- a row by its key and the bits of its distance and weight
abbrev row_bits : Row → List ℕ
row_bits r = r.key ∷ to_bits binary32 r.distance ∷ to_bits binary32 r.weight ∷ []

-- a direct reading: key, distance and confidence
pub record SampleReading : Type 0 where
  pub key : ℕ
  pub distance : ℕ
  pub confidence : ℕ

abbrev given : ℕ → ℕ → ℕ → SampleReading
given k d c = record { key = k; distance = d; confidence = c }

-- the answers to readings in turn, 102 New, 103 Changed, 100 Far or a refusal's number, then the rows that they leave
unfoldable fused_into : ℕ → ℕ → Table → List SampleReading → List ℕ
fused_into truncation most t [] = joined row_bits (rows t)
fused_into truncation most t (g ∷ gs) =
    let o = fuse (settings_of (f32 truncation) (f32 most) one32 one32) t g.key (Direct (record { 0 = f32 g.distance }) (f32 g.confidence)) in
    fused_number o.answer ∷ fused_into truncation most o.left gs

-- readings into an empty table of so many places, under a truncation and a maximum weight
abbrev fused : ℕ → ℕ → ℕ → List SampleReading → List ℕ
fused truncation most places gs =
    fused_into truncation most (table (replicate places 0) (replicate places zero32) (replicate places zero32) 0) gs

-- the same readings as a batch: its number, what it added, changed and found far, the reading that it names, and the rows
abbrev batched : ℕ → ℕ → ℕ → List SampleReading → List ℕ
batched truncation most places gs =
    let o = batch (settings_of (f32 truncation) (f32 most) one32 one32)
    (table (replicate places 0) (replicate places zero32) (replicate places zero32) 0)
    (map (λ (g : SampleReading). g.key) gs) (map (λ (g : SampleReading). f32 g.distance) gs)
    (map (λ (g : SampleReading). f32 g.confidence) gs) in
    let n = batched_counts o.answer in
    batched_number o.answer ∷ n.added ∷ n.changed ∷ n.far ∷ batched_at o.answer ∷ joined row_bits (rows o.left)

unfoldable int_bits : ℤ → ℕ
int_bits (pos n) = n
int_bits (negsuc n) = 0xFFFF_FFFF - n

-- a snapped place
abbrev snaps : ℤ → ℤ → ℤ → List ℕ
snaps x y z =
    let s = snapped x y z in
    let p = snapped_place s in
    snapped_number s ∷ int_bits p.0 ∷ int_bits p.1 ∷ int_bits p.2 ∷ []

-- (10, 10, 10) and (11, 11, 11), of head 0
abbrev ten : ℕ
ten = key_of 0 10 10 10

abbrev eleven : ℕ
eleven = key_of 0 11 11 11

-- the edges of rows, each by its two keys and the vertex on it, at size 1
abbrev vertex_bits : Vertex → List ℕ
vertex_bits v = to_bits binary32 v.x.0 ∷ to_bits binary32 v.y.0 ∷ to_bits binary32 v.z.0 ∷ []

abbrev crossed : List Row → List ℕ
crossed rs =
    let es = zero_crossing_edges rs in
    firsts es ++ seconds es ++ joined vertex_bits (vertices_of (distance_in rs) one32 (firsts es) (seconds es))

-- two cells, (10, 10, 10) and (11, 11, 11), of weight 1, by their distances
abbrev pair : ℕ → ℕ → List Row
pair d e = row ten (f32 d) one32 ∷ row eleven (f32 e) one32 ∷ []

unfoldable rooted : Result Float Refusal → List ℕ
rooted (Ok x) = to_bits binary32 x ∷ []
rooted (Err why) = []

-- how many rows have a distance of these bits
unfoldable holding : ℕ → List MarchedRow → ℕ
holding b [] = 0
holding b (r ∷ rs) = cond (eqb (to_bits binary32 r.distance) b) 1 0 + holding b rs

-- rows, takings, and the rows at 0, the root of 3, 2, 1.9, and 3; or the refusal's number
unfoldable told : Going → List ℕ
told (on s) =
    length s.stored ∷ s.takings ∷ map (λ b. holding b s.stored) (0 ∷ 0x3FDD_B3D7 ∷ 0x4000_0000 ∷ 0x3FF3_3333 ∷ 0x4040_0000 ∷ [])
told (refused why) = number_of why ∷ []

-- a march from one seed of distance 0 at a coordinate on all three axes: size 1, threshold 0.5, the maximum, rooms for 100 rows and cells
abbrev marched : ℕ → ℕ → List ℕ
marched at most = told (march_from one32 (f32 most) (rooms 100 100) (f32 0x3F00_0000) (row (key_of 0 at at at) zero32 one32 ∷ []))

-- ---- the cases

-- what the definitions give, and what the document says
pub record Sample : Type 0 where
  pub found : List ℕ
  pub said : List ℕ

abbrev sample : List ℕ → List ℕ → Sample
sample found said = record { found = found; said = said }

unfoldable pub samples : List Sample
unfolding fused_into int_bits rooted holding told
samples =
    -- 0.5 then -0.25: distance 0.125, weight 2
    sample (fused 0x3F80_0000 0x42C8_0000 2 (given 7 0x3F00_0000 0x3F80_0000 ∷ given 7 0xBE80_0000 0x3F80_0000 ∷ []))
    (102 ∷ 103 ∷ 7 ∷ 0x3E00_0000 ∷ 0x4000_0000 ∷ [])
    -- maximum weight 1, 0.5 twice: distance 1.0, weight 1
    ∷ sample (fused 0x3F80_0000 0x3F80_0000 2 (given 7 0x3F00_0000 0x3F80_0000 ∷ given 7 0x3F00_0000 0x3F80_0000 ∷ []))
    (102 ∷ 103 ∷ 7 ∷ 0x3F80_0000 ∷ 0x3F80_0000 ∷ [])
    -- reading 1.0 is stored; the next float above is Far, even with a full table
    ∷ sample (fused 0x3F80_0000 0x42C8_0000 1 (given 8 0x3F80_0000 0x3F80_0000 ∷ given 7 0x3F80_0001 0x3F80_0000 ∷ []))
    (102 ∷ 100 ∷ 8 ∷ 0x3F80_0000 ∷ 0x3F80_0000 ∷ [])
    -- confidence 0, reading 0.25, new key: row (0.25, 0)
    ∷ sample (fused 0x3F80_0000 0x42C8_0000 2 (given ten 0x3E80_0000 0 ∷ [])) (102 ∷ ten ∷ 0x3E80_0000 ∷ 0 ∷ [])
    -- no edge meanwhile
    ∷ sample (crossed (row ten (f32 0x3E80_0000) zero32 ∷ row eleven (f32 0xBE80_0000) one32 ∷ [])) []
    -- snap (5,6,7) gives (5,7,7)
    ∷ sample (snaps (pos 5) (pos 6) (pos 7)) (0 ∷ 5 ∷ 7 ∷ 7 ∷ [])
    -- (4,5,6) gives (4,4,6)
    ∷ sample (snaps (pos 4) (pos 5) (pos 6)) (0 ∷ 4 ∷ 4 ∷ 6 ∷ [])
    -- (-3,0,0) gives (-4,0,0)
    ∷ sample (snaps (negsuc 2) (pos 0) (pos 0)) (0 ∷ 0xFFFF_FFFC ∷ 0 ∷ 0 ∷ [])
    -- (10,10,10) at 0.25 and (11,11,11) at -0.25: one edge, vertex (10.5, 10.5, 10.5)
    ∷ sample (crossed (pair 0x3E80_0000 0xBE80_0000)) (ten ∷ eleven ∷ 0x4128_0000 ∷ 0x4128_0000 ∷ 0x4128_0000 ∷ [])
    -- the same at 1e-30 and -1e-30: no edge, the product is -0
    ∷ sample (crossed (pair 0x0DA2_4260 0x8DA2_4260)) []
    ∷ sample (to_bits binary32 (mul binary32 (f32 0x0DA2_4260) (f32 0x8DA2_4260)) ∷ []) (0x8000_0000 ∷ [])
    -- root of 0.75 has bits 3F5DB3D7
    ∷ sample (rooted (root_answer (f32 0x3F40_0000))) (0x3F5D_B3D7 ∷ [])
    -- one seed 0 at (10,10,10), threshold 0.5, maximum 2: 15 rows, eight at the root of 3, six at 2, 14 takings
    ∷ sample (marched 10 0x4000_0000) (15 ∷ 14 ∷ 1 ∷ 8 ∷ 6 ∷ 0 ∷ 0 ∷ [])
    -- with maximum 1.9 the six read 1.9
    ∷ sample (marched 10 0x3FF3_3333) (15 ∷ 14 ∷ 1 ∷ 8 ∷ 0 ∷ 6 ∷ 0 ∷ [])
    -- the seed at (0,0,0), maximum 2: 5 rows, four at the root of 3, 4 takings
    ∷ sample (marched 0 0x4000_0000) (5 ∷ 4 ∷ 1 ∷ 4 ∷ 0 ∷ 0 ∷ 0 ∷ [])
    -- not the document's: maximum 3, where a wrong axial length would not be clamped away
    ∷ sample (marched 10 0x4040_0000) (15 ∷ 14 ∷ 1 ∷ 8 ∷ 6 ∷ 0 ∷ 0 ∷ [])
    -- document 02, No. 2: Changed even if the bits come out the same, and of a stored row of weight 0
    ∷ sample (fused 0x3F80_0000 0x42C8_0000 2 (given 7 0x3E80_0000 0 ∷ given 7 0x3E80_0000 0 ∷ [])) (102 ∷ 103 ∷ 7 ∷ 0x3E80_0000 ∷ 0 ∷ [])
    -- a key twice in a batch is one New and one Changed, beside one that is far
    ∷ sample (batched 0x3F80_0000 0x42C8_0000 2 (given 7 0x3F00_0000 0x3F80_0000 ∷ given 8 0x4000_0000 0x3F80_0000 ∷ given 7 0xBE80_0000 0x3F80_0000 ∷ []))
    (0 ∷ 1 ∷ 1 ∷ 1 ∷ 0 ∷ 7 ∷ 0x3E00_0000 ∷ 0x4000_0000 ∷ [])
    -- a refused batch reports the counts of the readings before it: no place for the fourth, the fifth is not looked at
    ∷ sample (batched 0x3F80_0000 0x42C8_0000 1
    (given 7 0x3F00_0000 0x3F80_0000 ∷ given 8 0x4000_0000 0x3F80_0000 ∷ given 7 0xBE80_0000 0x3F80_0000 ∷ given 8 0x3F00_0000 0x3F80_0000
    ∷ given 7 0x3F00_0000 0x3F80_0000 ∷ []))
    (6 ∷ 1 ∷ 1 ∷ 1 ∷ 3 ∷ 7 ∷ 0x3E00_0000 ∷ 0x4000_0000 ∷ [])
    -- refused by its tests, it has counted none: truncation 0
    ∷ sample (batched 0 0x42C8_0000 1 (given 7 0 0x3F80_0000 ∷ [])) (1 ∷ 0 ∷ 0 ∷ 0 ∷ 0 ∷ [])
    -- an empty batch
    ∷ sample (batched 0x3F80_0000 0x42C8_0000 1 []) (0 ∷ 0 ∷ 0 ∷ 0 ∷ 0 ∷ [])
    ∷ []

-- Each case is as the documents say.
pub samples_hold : map (λ (s : Sample). s.found) samples ≡ map (λ (s : Sample). s.said) samples
unfolding samples fused_into int_bits rooted holding told count_trailing_zeros span climb size odd units round neg sum add sub mul div lt le eq ne of_int
    of_fields of_bits to_bits beside_by joined insert respaced morton same_parity offsets in_box reached_from shown neighbours_by member rises_from
    ascending next find place_of root_answer even on_lattice even_down even_up odd_up odd_down square_of squared_distance nearest nearer nearest_candidate
    is_end snapped rows_ok need check_with put relaid stored admit_if admitted new_weight fused_voxel voxel_at has_place step_at fused-stored fused_near
    fused_if fuse_if effect_of fuse stop_or batch_from ahead_of answers_from counting counts_of batch_if batch edges crossing or_zero part_of vertex_of
    vertex_at vertices_of distance-stored and_then distance_of store wait wait_all seeds sow sow_all candidate heard settling settled spread settle visit
    taking take_up_to march length_at
samples_hold = refl
