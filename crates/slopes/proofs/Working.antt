-- What the code works out, step by step, is what the definitions say.
-- Assumes nothing.
use Rattle.std.specs.Prelude.{Ok, Err, Some, None, Option, Result, unwrap_or}
use Rattle.std.specs.Result.{result_unwrap_or}
use mathlib.Core.Path.{◌≡◌, refl, ap, ◌∙◌}
use mathlib.Core.Bool.{true, false}
use mathlib.Core.List.{List}
use Prim.Native.Nat.{ℕ, ◌+◌, ◌<◌, ◌≤◌}
use native.Mathlib.Numerals.{add-one}
use native.Mathlib.Omega.{arith}
use borrow.Author.Tests.{eq-eqb, ne_eqb}
use lib.IntN.{pos}
use lib.ListN.{length, get_or, drop, drop_of_length-le}
use lib.Seq.{drop-cons}
use lib.Ieee.{Float, binary32, add, sub, mul, div, neg, lt, of_int}
use Rattle.refusals.specs.declared.Refusal.{Refusal}
use Rattle.floats.specs.Floats.{zero32, one32, size_of, clamp_of}
use Rattle.floats.specs.declared.Metres.{Metres}
use Rattle.ids.specs.Key.{x_of, y_of, z_of}
use Rattle.ids.specs.declared.Coords.{Coords}
use Rattle.neighbors.specs.Neighbors.{neighbours}
use Rattle.bcc_utils.specs.Metres.{metres_of}
use Rattle.root.specs.Root.{root_answer}
use Rattle.slopes.specs.declared.Slopes.{Slopes}
use Rattle.slopes.specs.Stored.{Lookup, or_zero}
use Rattle.slopes.specs.Vertices.{tiny, half, part_of, place_of, vertex_of, vertex_at}
use Rattle.slopes.specs.Normals.{normal, no_normal, rooted_or, length_of, direction_of, step_of, no_slopes, slopes_with, slopes_from, mean_of, normal_by}

-- ---- a vertex

module _ (d1 d2 s t r : Float) (size : s ≡ size_of (sub binary32 d2 d1)) (last : r ≡ clamp_of t zero32 one32) where
  pub part_divided : lt tiny s ≡ true → t ≡ div binary32 (neg d1) (sub binary32 d2 d1) → r ≡ part_of d1 d2
  unfolding part_of
  part_divided h e = last ∙ rw (e, ← size, h)

  pub part_halved : lt tiny s ≡ false → t ≡ half → r ≡ part_of d1 d2
  unfolding part_of
  part_halved h e = last ∙ rw (e, ← size, h)

-- the distance, or 0
or_zero_is : (s : Option Float) → unwrap_or s zero32 ≡ or_zero s
unfolding or_zero
or_zero_is (Some d) = refl
or_zero_is None = refl

-- the coordinates of a key
abbrev coords_of : ℕ → Coords
coords_of key = record { x = x_of key; y = y_of key; z = z_of key }

pub vertex_is :
    (size : Float) (k1 : ℕ) (d1 : Float) (k2 : ℕ) (d2 t : Float) (c1 c2 : Coords) (x y z : Metres)
    → t ≡ part_of d1 d2
    → c1 ≡ coords_of k1
    → c2 ≡ coords_of k2
    → x ≡ place_of t (metres_of c1.x size) (metres_of c2.x size)
    → y ≡ place_of t (metres_of c1.y size) (metres_of c2.y size)
    → z ≡ place_of t (metres_of c1.z size) (metres_of c2.z size)
    → record { x = x; y = y; z = z } ≡ vertex_of size k1 d1 k2 d2
unfolding vertex_of
vertex_is size k1 d1 k2 d2 t c1 c2 x y z et e1 e2 ex ey ez = rw (ex, ey, ez, et, e1, e2)

pub vertex_looked :
    (look : Lookup) (size : Float) (k1 k2 : ℕ) {d1 d2 : Float} {s1 s2 : Option Float}
    → d1 ≡ unwrap_or s1 zero32
    → d2 ≡ unwrap_or s2 zero32
    → s1 ≡ look k1
    → s2 ≡ look k2
    → vertex_of size k1 d1 k2 d2 ≡ vertex_at look size k1 k2
unfolding vertex_at
vertex_looked look size k1 k2 {s1 = s1} {s2 = s2} e1 e2 f1 f2 = rw (e1 ∙ or_zero_is s1, e2 ∙ or_zero_is s2, f1, f2)

-- ---- a length and a direction

pub rooted : (s : Float) {r : Float} (a : Result Float Refusal) → r ≡ result_unwrap_or a s → a ≡ root_answer s → r ≡ rooted_or s (root_answer s)
unfolding rooted_or
rooted s (Ok r) e f = e ∙ rw (← f)
rooted s (Err why) e f = e ∙ rw (← f)

module _ (x y z l : Float) (e : l ≡ length_of x y z) where
  pub has_direction : lt tiny l ≡ true → normal (div binary32 x l) (div binary32 y l) (div binary32 z l) ≡ direction_of x y z
  unfolding direction_of
  has_direction h = rw (← e, h)

  pub has_no_direction : lt tiny l ≡ false → no_normal ≡ direction_of x y z
  unfolding direction_of
  has_no_direction h = rw (← e, h)

-- ---- the slopes

module _ (size : Float) (key : ℕ) (d : Float) (sum : Slopes) (k : ℕ) (s : Option Float) where
  pub slopes_stored :
      (dn : Float) (c1 c2 : Coords) (x y z : Metres)
      → s ≡ Some dn
      → c1 ≡ coords_of key
      → c2 ≡ coords_of k
      → x.0 ≡ step_of size c1.x c2.x
      → y.0 ≡ step_of size c1.y c2.y
      → z.0 ≡ step_of size c1.z c2.z
      → record {
        x = add binary32 sum.x (mul binary32 (sub binary32 dn d) x.0);
        y = add binary32 sum.y (mul binary32 (sub binary32 dn d) y.0);
        z = add binary32 sum.z (mul binary32 (sub binary32 dn d) z.0);
        count = sum.count + 1;
      }
      ≡ slopes_with size key d sum k s
  unfolding slopes_with
  slopes_stored dn c1 c2 x y z es e1 e2 ex ey ez = rw (es, ex, ey, ez, e1, e2)

-- one neighbour adds at most one to the count
count_with : (size : Float) (key : ℕ) (d : Float) (sum : Slopes) (k : ℕ) (s : Option Float) → (slopes_with size key d sum k s).count ≤ sum.count + 1
unfolding slopes_with
count_with size key d sum k (Some dn) = omega arith
count_with size key d sum k None = omega arith

pub count_more :
    (size : Float) (key : ℕ) (d : Float) (sum sum' : Slopes) (k : ℕ) (s : Option Float) (i : ℕ)
    → sum' ≡ slopes_with size key d sum k s
    → sum.count ≤ i
    → sum'.count ≤ i + 1
count_more size key d sum sum' k s i e h = rw e (omega (arith, count_with size key d sum k s))

module _ (look : Lookup) (size : Float) (key : ℕ) (d : Float) (ks cells : List ℕ) (same : cells ≡ ks) where
  -- one neighbour more, the one at place i
  pub slopes_more :
      (sum sum' : Slopes) (s : Option Float) (i : ℕ)
      → i < length cells
      → s ≡ look (get_or cells i 0)
      → sum' ≡ slopes_with size key d sum (get_or cells i 0) s
      → slopes_from look size key d sum (drop i ks) ≡ slopes_from look size key d sum' (drop (i + 1) ks)
  unfolding slopes_from
  slopes_more sum sum' s i l es e =
      let at : get_or cells i 0 ≡ get_or ks i 0 = ap (λ (x : List ℕ). get_or x i 0) same in
      let within : i < length ks = rw (← same) l in
      rw (drop-cons ks i 0 within, add-one i, e, es, at)

  pub slopes_done : (sum : Slopes) (i : ℕ) → length ks ≤ i → slopes_from look size key d sum (drop i ks) ≡ sum
  unfolding slopes_from
  slopes_done sum i l = rw (drop_of_length-le ks {i = i} l)

-- ---- the mean and the normal

module _ (sum : Slopes) where
  pub mean_none : sum.count ≡ 0 → no_normal ≡ mean_of sum
  unfolding mean_of
  mean_none h = rw (eq-eqb sum.count 0 h)

  pub mean_some :
      (sum.count ≡ 0 → ⊥)
      → direction_of (div binary32 sum.x (of_int binary32 (pos sum.count)))
      (div binary32 sum.y (of_int binary32 (pos sum.count)))
      (div binary32 sum.z (of_int binary32 (pos sum.count))) ≡ mean_of sum
  unfolding mean_of
  mean_some h = rw (ne_eqb sum.count 0 h)

module _ (look : Lookup) (size : Float) (key : ℕ) (s : Option Float) (e : s ≡ look key) where
  pub normal_none : s ≡ None → no_normal ≡ normal_by look size key (look key)
  unfolding normal_by
  normal_none h = rw (← e, h)

  pub normal_some :
      (d : Float) (sum : Slopes)
      → s ≡ Some d
      → slopes_from look size key d no_slopes (neighbours key) ≡ sum
      → mean_of sum ≡ normal_by look size key (look key)
  unfolding normal_by
  normal_some d sum h t = rw (← e, h, t)
