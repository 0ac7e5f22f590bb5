-- The box around a mesh: along each axis the least and the greatest coordinate, an earlier one kept unless a later is strictly beyond it.
use Rattle.std.specs.Prelude.{ℕ, cond, List, [], ◌∷◌, length, Float, Ok, Err, Some, None, Option, Result}
use Rattle.floats.specs.Floats.{smaller_of, larger_of}
use Rattle.refusals.specs.Refusals.{number_of, absent_number}
use Rattle.refusals.specs.declared.Refusal.TheVariants.{Lengths, BadVertex}
use Rattle.slopes.specs.declared.Vertex.{Vertex}
use Rattle.corners.specs.Corners.{set_ok, every, vertex, vertices_in, vertex_ok}
use Rattle.refusals.specs.declared.Refusal.{Refusal}

-- the smaller coordinates of two vertices, and the larger
unfoldable pub lower_of : Vertex → Vertex → Vertex
lower_of v w = vertex (smaller_of v.x.0 w.x.0) (smaller_of v.y.0 w.y.0) (smaller_of v.z.0 w.z.0)

unfoldable pub upper_of : Vertex → Vertex → Vertex
upper_of v w = vertex (larger_of v.x.0 w.x.0) (larger_of v.y.0 w.y.0) (larger_of v.z.0 w.z.0)

-- the same of a vertex and some more, in order
unfoldable pub lowest : Vertex → List Vertex → Vertex
unfolding lower_of
lowest v [] = v
lowest v (w ∷ ws) = lowest (lower_of v w) ws

unfoldable pub highest : Vertex → List Vertex → Vertex
unfolding upper_of
highest v [] = v
highest v (w ∷ ws) = highest (upper_of v w) ws

-- the box around some vertices; none around none
unfoldable pub box_of : List Vertex → Result (Option (Vertex × Vertex)) Refusal
unfolding lowest highest
box_of [] = (Ok None)
box_of (v ∷ vs) = Ok (Some (lowest v vs, highest v vs))

-- refused with 2 for lengths, then with 10 for a vertex out of range
unfoldable pub box_answer : List Float → List Float → List Float → ℕ → Result (Option (Vertex × Vertex)) Refusal
unfolding box_of every
box_answer xs ys zs n =
    let vs = vertices_in xs ys zs n in
    cond (set_ok (length xs) (length ys) (length zs) n) (cond (every vertex_ok vs) (box_of vs) (Err BadVertex)) (Err Lengths)

-- the number of an answer: 0 where there is a box, Absent's, or document 01's of the refusal
abbrev pub box_number : Result (Option (Vertex × Vertex)) Refusal → ℕ
box_number (Ok (Some (low, high))) = 0
box_number (Ok None) = absent_number
box_number (Err why) = number_of why
