-- A mesh's file, part by part: what is written after what, and triangle by triangle.
-- Assumes nothing.
use Prim.Native.Nat.{ℕ, zero, suc, ◌+◌, ◌*◌, ◌<◌, ◌≤◌}
use native.Mathlib.Omega.{arith}
use mathlib.Core.Path.{◌≡◌, refl, sym, ap, subst, ◌∙◌}
use mathlib.Core.Bool.{Bool, true, false}
use mathlib.Core.List.{List, [], ◌∷◌, ◌++◌, map}
use lib.ListN.{length, get_or, drop}
use lib.Seq.{sets}
use lib.Ieee.{Float, nan, is_nan, neg, le, lt, eq, of_bits}
use Rattle.lists.specs.Lists.{joined}
use Rattle.lists.specs.Threes.{three}
use Rattle.lists.proofs.Bools.{and_first, and_second}
use Rattle.lists.proofs.Parts.{Written, written_more}
use Rattle.lists.proofs.Writing.{sets_append}
use Rattle.floats.specs.Floats.{zero32, within}
use Rattle.floats.proofs.Order.{le_second}
use Rattle.slopes.specs.declared.Vertex.{Vertex}
use Rattle.corners.specs.Corners.{every, vertex, vertex_ok, vertices_in, Triangle, triangle, triangles_in, triangle_ok, farthest}
use Rattle.corners.proofs.Sets.{next, none_left, entry_is}
use Rattle.surfaces.specs.Areas.{numbered}
use Rattle.surfaces.proofs.AreaLaws.{named}
use Rattle.surfaces.proofs.Roots.{passed}
use Rattle.stl.specs.Files.{Facet, facet_bytes}
use Rattle.stl.specs.Calls.{facets_lent}
use Rattle.stl.specs.Steps.{Writable}

-- one part and then another, and so on
module _ (l : List ℕ) (at : ℕ) (xs : List ℕ) (end : ℕ) (ys : List ℕ) where
  two_parts : {m n : List ℕ} → m ≡ sets l at xs → end ≡ at + length xs → n ≡ sets m end ys → n ≡ sets l at (xs ++ ys)
  two_parts e p f = rw (sets_append l at xs ys, ← e, ← p) f

  pub three_parts : (end' : ℕ) (zs : List ℕ) {m n o : List ℕ}
      → m ≡ sets l at xs
      → end ≡ at + length xs
      → n ≡ sets m end ys
      → end' ≡ end + length ys
      → o ≡ sets n end' zs
      → o ≡ sets l at (xs ++ (ys ++ zs))
  three_parts end' zs {m} e p f q g = rw (sets_append l at xs (ys ++ zs), ← e, ← p, sets_append m end ys zs, ← f, ← q) g

pub five_parts :
    (l : List ℕ) (at : ℕ) (xs : List ℕ) (end : ℕ) (ys : List ℕ) (end2 : ℕ) (zs : List ℕ) (end3 : ℕ) (us : List ℕ) (end4 : ℕ) (vs : List ℕ) {m n o p q : List ℕ}
    → m ≡ sets l at xs
    → end ≡ at + length xs
    → n ≡ sets m end ys
    → end2 ≡ end + length ys
    → o ≡ sets n end2 zs
    → end3 ≡ end2 + length zs
    → p ≡ sets o end3 us
    → end4 ≡ end3 + length us
    → q ≡ sets p end4 vs
    → q ≡ sets l at (xs ++ (ys ++ (zs ++ (us ++ vs))))
five_parts l at xs end ys end2 zs end3 us end4 vs {m} {n} e1 p1 e2 p2 e3 p3 e4 p4 e5 =
    three_parts l at xs end ys end2 (zs ++ (us ++ vs)) e1 p1 e2 p2 (three_parts n end2 zs end3 us end4 vs e3 p3 e4 p4 e5)

-- no coordinate of a vertex that passes is a NaN
number : (x : Float) → within farthest x ≡ true → is_nan x ≡ false
number x h = le_second (neg farthest) x (and_first _ _ h)

pub record AllNumbers (v : Vertex) : Type 0 where
  pub x : is_nan v.x.0 ≡ false
  pub y : is_nan v.y.0 ≡ false
  pub z : is_nan v.z.0 ≡ false

pub numbers : (v : Vertex) → vertex_ok v ≡ true → AllNumbers v
numbers v h =
    let p = passed v h in
    record { x = number v.x.0 p.x; y = number v.y.0 p.y; z = number v.z.0 p.z }

-- where all of a list pass a test, and what stands for none does, each does
every_at : {A : Type 0} (test : A → Bool) (l : List A) (d : A) (i : ℕ) → test d ≡ true → every test l ≡ true → test (get_or l i d) ≡ true
unfolding every
every_at test [] d i h e = h
every_at test (x ∷ xs) d zero h e = and_first (test x) (every test xs) e
every_at test (x ∷ xs) d (suc i) h e = every_at test xs d i h (and_second (test x) (every test xs) e)

zero_ok : vertex_ok (vertex zero32 zero32 zero32) ≡ true
unfolding le lt eq neg of_bits
zero_ok = refl

-- so does every vertex by its number
pub numbered_ok : (vs : List Vertex) (k : ℕ) → every vertex_ok vs ≡ true → vertex_ok (numbered vs k) ≡ true
numbered_ok vs k e = every_at vertex_ok vs (vertex zero32 zero32 zero32) k zero_ok e

pub drop_map : {A B : Type 0} (f : A → B) (i : ℕ) (l : List A) → drop i (map f l) ≡ map f (drop i l)
drop_map f zero l = refl
drop_map f (suc i) [] = refl
drop_map f (suc i) (x ∷ xs) = drop_map f i xs

-- a triangle is fifty bytes
pub facet_length : (t : Facet) → length (facet_bytes t) ≡ 50
unfolding facet_bytes
facet_length t = refl

joined_next : (ts : List Facet) (t : Facet) (rest : List Facet) → ts ≡ t ∷ rest → joined facet_bytes ts ≡ facet_bytes t ++ joined facet_bytes rest
unfolding joined
joined_next ts t rest e = rw e

module _ (xs ys zs : List Float) (n : ℕ) (is js ks : List ℕ) (m room : ℕ) (w : Writable xs ys zs n is js ks m room) (i : ℕ) where
  abbrev vs : List Vertex
  vs = vertices_in xs ys zs n

  abbrev ts : List Triangle
  ts = triangles_in is js ks m

  abbrev fs : List Facet
  fs = facets_lent xs ys zs n is js ks m

  -- a corner that is read is that of its number, and passes
  corner : (k : ℕ) (v : Vertex) → v ≡ vertex (get_or xs k nan) (get_or ys k nan) (get_or zs k nan) → k < n → numbered vs k ≡ v
  corner k v e h = entry_is vertex nan xs ys zs n w.vertices k (vertex zero32 zero32 zero32) h ∙ sym e

  corner_ok : (k : ℕ) (v : Vertex) → v ≡ vertex (get_or xs k nan) (get_or ys k nan) (get_or zs k nan) → k < n → vertex_ok v ≡ true
  corner_ok k v e h = subst (λ (u : Vertex). vertex_ok u ≡ true) (corner k v e h) (numbered_ok vs k w.in_range)

  module _ (h : i < m) (e : every (triangle_ok n) (drop i ts) ≡ true) (a b c : Vertex)
      (ea : a ≡ vertex (get_or xs (get_or is i 0) nan) (get_or ys (get_or is i 0) nan) (get_or zs (get_or is i 0) nan))
      (eb : b ≡ vertex (get_or xs (get_or js i 0) nan) (get_or ys (get_or js i 0) nan) (get_or zs (get_or js i 0) nan))
      (ec : c ≡ vertex (get_or xs (get_or ks i 0) nan) (get_or ys (get_or ks i 0) nan) (get_or zs (get_or ks i 0) nan)) where
    k : (get_or is i 0 < n) × (get_or js i 0 < n) × (get_or ks i 0 < n)
    k = named xs ys zs n w.vertices is js ks m w.triangles i h e

    pub corners_ok : (vertex_ok a ≡ true) × (vertex_ok b ≡ true) × (vertex_ok c ≡ true)
    corners_ok = (corner_ok _ a ea k.0, corner_ok _ b eb k.1, corner_ok _ c ec k.2)

    -- the triangle at place i, and those after it
    pub facet_next : drop i fs ≡ three a b c ∷ drop (i + 1) fs
    facet_next =
        drop_map _ i ts
        ∙ ap (map _) (next triangle 0 is js ks m w.triangles i h)
        ∙ rw (corner _ a ea k.0, corner _ b eb k.1, corner _ c ec k.2) (ap (λ (z : List Facet). three a b c ∷ z) (sym (drop_map _ (i + 1) ts)))

    -- one triangle more
    pub facet_written : (l l' l'' : List ℕ)
        → Written (joined facet_bytes fs) 84 l (joined facet_bytes (drop i fs)) (84 + 50 * i) l'
        → l'' ≡ sets l' (84 + 50 * i) (facet_bytes (three a b c))
        → Written (joined facet_bytes fs) 84 l (joined facet_bytes (drop (i + 1) fs)) (84 + 50 * (i + 1)) l''
    facet_written l l' l'' v g =
        let on : 84 + 50 * i + length (facet_bytes (three a b c)) ≡ 84 + 50 * (i + 1) = omega (arith, facet_length (three a b c)) in
        rw (g, ← on)
        (written_more (joined facet_bytes fs) 84 l (joined facet_bytes (drop i fs)) (84 + 50 * i) l' (facet_bytes (three a b c))
        (joined facet_bytes (drop (i + 1) fs))
        (joined_next (drop i fs) (three a b c) (drop (i + 1) fs) facet_next) v)

  pub facets_end : m ≤ i → joined facet_bytes (drop i fs) ≡ []
  unfolding joined
  facets_end h = rw (drop_map {B = Facet} _ i ts, none_left triangle 0 is js ks m w.triangles i h)
