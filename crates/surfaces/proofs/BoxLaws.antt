-- The box, vertex by vertex.
-- Assumes nothing.
use Rattle.std.specs.Prelude.{Ok, Some, None, Option, Result}
use Prim.Native.Nat.{ℕ, ◌+◌, ◌<◌, ◌≤◌}
use mathlib.Core.Path.{◌≡◌, ◌∙◌}
use mathlib.Core.List.{List, ◌∷◌}
use lib.ListN.{get_or, drop}
use lib.Ieee.{Float, nan}
use Rattle.slopes.specs.declared.Vertex.{Vertex}
use Rattle.corners.specs.Corners.{vertex, vertices_in}
use Rattle.surfaces.specs.Boxes.{lower_of, upper_of, lowest, highest, box_of}
use Rattle.corners.specs.Steps.{Lent}
use Rattle.corners.proofs.Sets.{next, none_left}
use Rattle.refusals.specs.declared.Refusal.{Refusal}

pub box_none : (px py pz : List Float) (n : ℕ) → n ≡ 0 → (Ok None) ≡ box_of (vertices_in px py pz n)
unfolding box_of
box_none px py pz n e = rw e

box_cons : (vs : List Vertex) (v : Vertex) (ws : List Vertex) → vs ≡ v ∷ ws → box_of vs ≡ Ok (Some (lowest v ws, highest v ws))
unfolding box_of
box_cons vs v ws e = rw e

-- the two corners so far, with the vertices that are left
abbrev pub corners_from : Vertex → Vertex → List Vertex → Result (Option (Vertex × Vertex)) Refusal
corners_from low high vs = Ok (Some (lowest low vs, highest high vs))

corners_cons :
    (low high low' high' v : Vertex) (vs ws : List Vertex)
    → vs ≡ v ∷ ws
    → low' ≡ lower_of low v
    → high' ≡ upper_of high v
    → corners_from low high vs ≡ corners_from low' high' ws
unfolding lowest highest
corners_cons low high low' high' v vs ws e el eh = rw (e, el, eh)

module _ (px py pz : List Float) (n : ℕ) (l : Lent px py pz n) where
  pub box_first :
      0 < n
      → (v : Vertex)
      → v ≡ vertex (get_or px 0 nan) (get_or py 0 nan) (get_or pz 0 nan)
      → box_of (vertices_in px py pz n) ≡ corners_from v v (drop 1 (vertices_in px py pz n))
  box_first h v e =
      box_cons (vertices_in px py pz n) v (drop 1 (vertices_in px py pz n)) (next vertex nan px py pz n l 0 h ∙ rw e)

  pub box_more :
      (i : ℕ)
      → i < n
      → (low high low' high' v : Vertex)
      → v ≡ vertex (get_or px i nan) (get_or py i nan) (get_or pz i nan)
      → low' ≡ lower_of low v
      → high' ≡ upper_of high v
      → corners_from low high (drop i (vertices_in px py pz n)) ≡ corners_from low' high' (drop (i + 1) (vertices_in px py pz n))
  box_more i h low high low' high' v e el eh =
      corners_cons low high low' high' v (drop i (vertices_in px py pz n)) (drop (i + 1) (vertices_in px py pz n)) (next vertex nan px py pz n l i h ∙ rw e) el eh

  pub box_done : (i : ℕ) → n ≤ i → (low high : Vertex) → corners_from low high (drop i (vertices_in px py pz n)) ≡ Ok (Some (low, high))
  unfolding lowest highest
  box_done i h low high = rw (none_left vertex nan px py pz n l i h)
