-- Lists that are written from the front: what is left to write says what the whole says.
-- Assumes nothing.
use mathlib.Core.Path.{◌≡◌, refl, sym, ◌∙◌}
use mathlib.Core.Logic.{⊎_elim}
use mathlib.Core.List.{List, [], ◌∷◌, map}
use Prim.Native.Nat.{ℕ, ◌+◌, ◌<◌, ◌≤◌, min}
use native.Mathlib.Numerals.{add-one}
use native.Mathlib.Omega.{arith}
use lib.ListN.{length, get_or, take, drop, set, length-take, drop_of_length-le}
use lib.Seq.{sets, drop-cons, get_or-take}
use lib.Ieee.{Float}
use Rattle.floats.proofs.Values.{le_or_lt}
use Rattle.slopes.specs.declared.Vertex.{Vertex}
use Rattle.slopes.specs.declared.Normal.{Normal}
use Rattle.slopes.specs.Stored.{Lookup}
use Rattle.slopes.specs.Vertices.{vertex_at, vertices_of}
use Rattle.slopes.specs.Normals.{normal_at, normals_of}

-- ---- one column

module _ {A : Type 0} (g : A → Float) (l : List Float) (i : ℕ) where
  -- one place more
  pub column_more : (l' : List Float) (x : A) (rest next : List A) → rest ≡ x ∷ next → l' ≡ set l i (g x) → sets l i (map g rest) ≡ sets l' (i + 1) (map g next)
  column_more l' x rest next e h = rw (e, h, add-one i)

  -- no place left
  pub column_done : (whole : List Float) (rest : List A) → whole ≡ sets l i (map g rest) → rest ≡ [] → l ≡ whole
  column_done whole rest e h = sym (e ∙ rw h)

-- ---- the first n of a list, from place i on

module _ (n : ℕ) (ks : List ℕ) (i : ℕ) where
  front_next : i < n → i < length ks → drop i (take n ks) ≡ get_or ks i 0 ∷ drop (i + 1) (take n ks)
  front_next h g = drop-cons (take n ks) i 0 (rw length-take (omega arith)) ∙ rw (get_or-take n ks i 0 h, add-one i)

  front_past : min n (length ks) ≤ i → drop i (take n ks) ≡ []
  front_past h = drop_of_length-le (take n ks) {i = i} (rw length-take h)

-- ---- the vertices and the normals from place i on

no_second : (look : Lookup) (size : Float) (ks : List ℕ) → vertices_of look size ks [] ≡ []
unfolding vertices_of
no_second look size [] = refl
no_second look size (k ∷ ks) = refl

module _ (look : Lookup) (size : Float) (n : ℕ) (first second : List ℕ) where
  abbrev pub vertices_from : ℕ → List Vertex
  vertices_from i = vertices_of look size (drop i (take n first)) (drop i (take n second))

  pub vertex_next :
      (i : ℕ)
      → i < min n (min (length first) (length second))
      → vertices_from i ≡ vertex_at look size (get_or first i 0) (get_or second i 0) ∷ vertices_from (i + 1)
  unfolding vertices_of
  vertex_next i h = rw (front_next n first i (omega arith) (omega arith), front_next n second i (omega arith) (omega arith))

  pub vertices_end : (i : ℕ) → min n (min (length first) (length second)) ≤ i → vertices_from i ≡ []
  unfolding vertices_of
  vertices_end i h =
      ⊎_elim (λ l. rw (front_past n first i l)) (λ l. rw (front_past n second i (omega arith)) (no_second look size (drop i (take n first))))
      (le_or_lt (min n (length first)) i)

module _ (look : Lookup) (size : Float) (n : ℕ) (first : List ℕ) where
  abbrev pub normals_from : ℕ → List Normal
  normals_from i = normals_of look size (drop i (take n first))

  pub normal_next : (i : ℕ) → i < min n (length first) → normals_from i ≡ normal_at look size (get_or first i 0) ∷ normals_from (i + 1)
  normal_next i h = rw (front_next n first i (omega arith) (omega arith))

  pub normals_end : (i : ℕ) → min n (length first) ≤ i → normals_from i ≡ []
  normals_end i h = rw (front_past n first i h)
