-- Samples of fusing beside document 01's (crate samples): rows in order, rays, the refusals and their order: settings, readings from an
-- empty table on, what each answers, and the rows that are left. By computation.
-- Assumes nothing.
use Prim.Native.Nat.{ℕ}
use mathlib.Core.Path.{◌≡◌, refl}
use mathlib.Core.Bool.{Bool, true, false, ◌&&◌}
use mathlib.Core.List.{List, [], ◌∷◌}
use lib.Count.{count_trailing_zeros}
use lib.Dec.{eqb}
use lib.Ieee.{span, climb, size, odd, units, round, neg, sum, add, sub, mul, div, lt, eq, le, of_fields, of_bits, to_bits, of_int, binary32}
use lib.ListN.{replicate}
use Rattle.lists.specs.Beside.{beside_by}
use Rattle.floats.specs.Floats.{f32, zero32}
use Rattle.floats.specs.declared.Metres.{Metres}
use Rattle.ids.specs.Key.{same_parity}
use Rattle.ids.specs.Morton.{respaced}
use Rattle.root.specs.Root.{root_below, isqrt, rounded, root_of}
use Rattle.table.specs.declared.Settings.{Settings}
use Rattle.search.specs.Keys.{rises_from, ascending, next, find}
use Rattle.table.specs.Table.{Row, Table, table, settings_of, rows, rows_ok, need, check_with, put, relaid}
use Rattle.measuring.specs.declared.Reading.{Reading}
use Rattle.measuring.specs.declared.Reading.TheVariants.{Direct, Ray}
use Rattle.measuring.specs.Readings.{squares, ray_distance, admit_if, admitted}
use Rattle.fusing.specs.Fusing.{new_weight, fused_voxel, voxel_at, has_place, step_at, stored, fused_near, fused_if, fuse_if, effect_of, fuse, fused_number}

-- floats stand as bits throughout
abbrev pub metres : ℕ → Metres
metres b = record { 0 = f32 b }

-- a reading of a key, and its answer: 102 New, 103 Changed, 100 Far, else the refusal's number
pub record Step : Type 0 where
  pub key : ℕ
  pub reading : Reading
  pub answer : ℕ

pub record Bits : Type 0 where
  pub key : ℕ
  pub distance : ℕ
  pub weight : ℕ

pub record Sample : Type 0 where
  pub truncation : ℕ
  pub most : ℕ
  pub room : ℕ
  pub steps : List Step
  pub left : List Bits

abbrev pub step : ℕ → ℕ → ℕ → ℕ → Step
step k d c a = record { key = k; reading = Direct (metres d) (f32 c); answer = a }

abbrev pub ray : ℕ → ℕ → ℕ → ℕ → ℕ → ℕ → ℕ → Step
ray k x y z depth c a = record { key = k; reading = Ray (metres x) (metres y) (metres z) (metres depth) (f32 c); answer = a }

abbrev pub bits : ℕ → ℕ → ℕ → Bits
bits k d w = record { key = k; distance = d; weight = w }

-- size 1, maximum distance 1
abbrev pub settings_under : Sample → Settings
settings_under s = settings_of (f32 s.truncation) (f32 s.most) (f32 0x3F80_0000) (f32 0x3F80_0000)

unfoldable pub same_rows : List Row → List Bits → Bool
same_rows [] [] = true
same_rows [] (b ∷ bs) = false
same_rows (r ∷ rs) [] = false
same_rows (r ∷ rs) (b ∷ bs) =
    eqb r.key b.key
    && (eqb (to_bits binary32 r.distance) b.distance && (eqb (to_bits binary32 r.weight) b.weight && same_rows rs bs))

-- each reading answers as it should, and the rows are right in the end
unfoldable pub runs : Settings → List Bits → Table → List Step → Bool
runs s left t [] = same_rows (rows t) left
runs s left t (r ∷ rs) =
    let o = fuse s t r.key r.reading in
    eqb (fused_number o.answer) r.answer && runs s left o.left rs

abbrev pub holds : Sample → Bool
holds s = runs (settings_under s) s.left (table (replicate s.room 0) (replicate s.room zero32) (replicate s.room zero32) 0) s.steps

unfoldable pub all_hold : List Sample → Bool
all_hold [] = true
all_hold (s ∷ ss) = holds s && all_hold ss

unfoldable pub samples : List Sample
samples =
    -- a full table: a new key that is far is Far, and one within the truncation has no place (6)
    record {
      truncation = 0x3F80_0000;
      most = 0x42C8_0000;
      room = 1;
      steps =
          step 8 0x3F80_0000 0x3F80_0000 102 ∷ step 7 0x3F80_0001 0x3F80_0000 100 ∷ step 7 0x3F80_0000 0x3F80_0000 6 ∷ [];
      left = bits 8 0x3F80_0000 0x3F80_0000 ∷ [];
    }
    -- rows stand ascending by key
    ∷ record {
      truncation = 0x3F80_0000;
      most = 0x42C8_0000;
      room = 3;
      steps =
          step 15 0x3F00_0000 0x3F80_0000 102 ∷ step 7 0x3E80_0000 0x3F80_0000 102 ∷ step 8 0xBE80_0000 0x3F80_0000 102 ∷ [];
      left = bits 7 0x3E80_0000 0x3F80_0000 ∷ bits 8 0xBE80_0000 0x3F80_0000 ∷ bits 15 0x3F00_0000 0x3F80_0000 ∷ [];
    }
    -- rays to (1, 1, 1): from (1, 1, 5) at depth 4.5 a distance of 0.5; from (1, 1, 2 ^ 100) the square overflows, Far
    ∷ record {
      truncation = 0x3F80_0000;
      most = 0x42C8_0000;
      room = 2;
      steps =
          ray 7 0x3F80_0000 0x3F80_0000 0x40A0_0000 0x4090_0000 0x3F80_0000 102
          ∷ ray 7 0x3F80_0000 0x3F80_0000 0x7180_0000 0x4090_0000 0x3F80_0000 100 ∷ [];
      left = bits 7 0x3F00_0000 0x3F80_0000 ∷ [];
    }
    -- truncation 0 (1); a key off the lattice (4) before a confidence above 1 and infinite readings (5)
    ∷ record { truncation = 0; most = 0x42C8_0000; room = 2; steps = step 6 0x7F80_0000 0x3F80_0000 1 ∷ []; left = [] }
    ∷ record {
      truncation = 0x3F80_0000;
      most = 0x42C8_0000;
      room = 2;
      steps =
          step 6 0x7F80_0000 0x3F80_0000 4 ∷ step 7 0 0x3F80_0001 5 ∷ step 7 0x7F80_0000 0x3F80_0000 5
          ∷ ray 7 0 0x7F80_0000 0 0 0 5 ∷ [];
      left = [];
    }
    ∷ []

pub fusing_samples : all_hold samples ≡ true
unfolding count_trailing_zeros span climb size odd units round neg sum add sub mul div lt eq le of_fields of_bits to_bits of_int
    beside_by rows_ok rises_from ascending need check_with next find put relaid admit_if admitted squares ray_distance root_below
    isqrt rounded root_of respaced same_parity new_weight fused_voxel voxel_at has_place step_at stored fused_near fused_if fuse_if effect_of fuse same_rows
    runs all_hold samples
fusing_samples = refl
