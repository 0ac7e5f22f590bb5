-- The table: rows side by side in three lists, ascending by key.
use Rattle.std.specs.Prelude.{ℕ, Bool, true, false, cond, not, ◌&&◌, List, [], ◌∷◌, ◌++◌, map, length, take, drop, leb, ltb, eqb, Float, Ok, Err, Result}
use Rattle.std.specs.Float.Ieee.{to_bits}
use Rattle.std.specs.Float.{binary32}
use Rattle.floats.specs.Floats.{f32, zero32, thousand, million, between, within, positive_to}
use Rattle.floats.specs.declared.Metres.{Metres}
use Rattle.ids.specs.Key.{on_lattice}
use Rattle.lists.specs.Beside.{beside_by}
use Rattle.refusals.specs.declared.Refusal.{Refusal}
use Rattle.refusals.specs.declared.Refusal.TheVariants.{Setting, Lengths, BadRow}
use Rattle.table.specs.declared.Settings.{Settings}
use Rattle.search.specs.Keys.{ascending}

-- the four settings in their one order
abbrev pub settings_of : Float → Float → Float → Float → Settings
settings_of truncation weight size farthest =
    record {
      truncation = record { 0 = truncation };
      max_weight = weight;
      voxel_size = record { 0 = size };
      max_distance = record { 0 = farthest };
    }

-- the default maximum weight is 100 and the default voxel size 0.02
abbrev pub defaults : Metres → Metres → Settings
defaults truncation farthest = settings_of truncation.0 (f32 0x42C8_0000) (f32 0x3CA3_D70A) farthest.0

-- a row: a cell's key, its signed distance and its weight
pub record Row : Type 0 where
  pub key : ℕ
  pub distance : Float
  pub weight : Float

abbrev pub row : ℕ → Float → Float → Row
row k d w = record { key = k; distance = d; weight = w }

-- what a caller lends: three lists and how many of their places are rows
pub record Table : Type 0 where
  pub keys : List ℕ
  pub distances : List Float
  pub weights : List Float
  pub count : ℕ

abbrev pub table : List ℕ → List Float → List Float → ℕ → Table
table ks ds ws n = record { keys = ks; distances = ds; weights = ws; count = n }

-- three lists side by side, as far as all three go
abbrev pub beside : List ℕ → List Float → List Float → List Row
beside ks ds ws = beside_by row ks ds ws

-- the rows of the first n places
abbrev pub rows_of : List ℕ → List Float → List Float → ℕ → List Row
rows_of ks ds ws n = take n (beside ks ds ws)

abbrev pub rows : Table → List Row
rows t = rows_of t.keys t.distances t.weights t.count

-- 0 to 1,000,000, and not -0
abbrev pub farthest_ok : Float → Bool
farthest_ok x = between zero32 million x && not (eqb (to_bits binary32 x) 0x8000_0000)

-- truncation and voxel size above 0 to 1,000, maximum weight above 0 to 1,000,000, and the maximum distance
abbrev pub settings_ok : Settings → Bool
settings_ok s =
    positive_to thousand s.truncation.0
    && (positive_to million s.max_weight
    && (positive_to thousand s.voxel_size.0 && farthest_ok s.max_distance.0))

-- equal lengths of at most 65,536, and no more rows than places
abbrev pub lengths_ok : ℕ → ℕ → ℕ → ℕ → Bool
lengths_ok a b c n = eqb a b && (eqb a c && (leb a 65536 && leb n a))

-- on the lattice, the distance at most 1,000,000 in size, the weight from 0 to the maximum
abbrev pub row_ok : Float → ℕ → Float → Float → Bool
row_ok most k d w = on_lattice k && (within million d && between zero32 most w)

unfoldable pub rows_ok : Float → List Row → Bool
rows_ok most [] = true
rows_ok most (r ∷ rs) = row_ok most r.key r.distance r.weight && rows_ok most rs

-- every row is in range and the keys ascend
abbrev pub table_ok : Float → Table → Bool
table_ok most t = rows_ok most (rows t) && ascending (take t.count t.keys)

-- a test that must pass before the rest counts
unfoldable pub need : Bool → Refusal → Result (Unit {0}) Refusal → Result (Unit {0}) Refusal
need true why rest = rest
need false why rest = Err why

-- the tests of a call, in this order: a setting (1), a lent list, its own, which `fits` tells, or the table's (2), a row (3)
unfoldable pub check_with : Bool → Settings → Table → Result (Unit {0}) Refusal
unfolding need
check_with fits s t =
    need (settings_ok s) Setting
    (need (fits && lengths_ok (length t.keys) (length t.distances) (length t.weights) t.count) Lengths
    (need (table_ok s.max_weight t) BadRow (Ok tt)))

-- those of a call that lends no list but the table's
abbrev pub table_check : Settings → Table → Result (Unit {0}) Refusal
table_check s t = check_with true s t

-- what passed goes on to what the call tests after them
unfoldable pub then_test : Result (Unit {0}) Refusal → Result (Unit {0}) Refusal → Result (Unit {0}) Refusal
then_test (Ok tt) rest = rest
then_test (Err why) rest = Err why

-- r in the place of the row with its key, or as a new row before the first with a larger key
unfoldable pub put : Row → List Row → List Row
put r [] = r ∷ []
put r (s ∷ t) = cond (ltb s.key r.key) (s ∷ put r t) (cond (eqb s.key r.key) (r ∷ t) (r ∷ (s ∷ t)))

-- a list with the values vs from its first place on, the places past them as they were
abbrev pub laid : {A : Type 0} → List A → List A → List A
laid vs l = vs ++ drop (length vs) l

-- the table with the rows rs
unfoldable pub relaid : Table → List Row → Table
relaid t rs =
    table
    (laid (map (λ (r : Row). r.key) rs) t.keys)
    (laid (map (λ (r : Row). r.distance) rs) t.distances)
    (laid (map (λ (r : Row). r.weight) rs) t.weights)
    (length rs)
