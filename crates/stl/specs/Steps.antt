-- What the private functions of the writer and the reader promise each other.
use Rattle.std.specs.Prelude.{ℕ, ◌+◌, ◌*◌, ◌≤◌, ◌≡◌, Bool, true, cond, ◌&&◌, List, [], ◌∷◌, leb, length, Float, Ok, Err, Result}
use Rattle.std.proofs.lemmas.List.Edits.{sets}
use Rattle.refusals.specs.declared.Refusal.TheVariants.{Lengths, BadVertex, BadLength}
use Rattle.lists.specs.Listing.{room_for}
use Rattle.floats.specs.Floats.{f32}
use Rattle.corners.specs.Corners.{set_ok, every, vertex_ok, vertices_in, triangle_ok, triangles_in}
use Rattle.corners.specs.Steps.{Lent}
use Rattle.stl.specs.Files.{stated_in, length_bad}
use Rattle.stl.specs.Calls.{file_fits}
use Rattle.refusals.specs.declared.Refusal.{Refusal}

-- a mesh that passes the tests, and room for its file
pub record Writable (xs ys zs : List Float) (n : ℕ) (is js ks : List ℕ) (m room : ℕ) : Type 0 where
  pub vertices : Lent xs ys zs n
  pub triangles : Lent is js ks m
  pub in_range : every vertex_ok (vertices_in xs ys zs n) ≡ true
  pub named : every (triangle_ok n) (triangles_in is js ks m) ≡ true
  pub few : m ≤ 1048576
  pub fits : 84 + 50 * m ≤ room

-- ---- reading

-- three floats by their patterns, from a place on, where there is room for all three
abbrev pub put_three : List Float → ℕ → ℕ → ℕ → ℕ → List Float
put_three l at a b c = cond (leb (at + 3) (length l)) (sets l at (f32 a ∷ f32 b ∷ f32 c ∷ [])) l

-- a list that has room for three values of each triangle was written from the front, where all passed; its length stayed
pub record ColumnRead (passed : Bool) (count : ℕ) (l xs l' : List Float) : Type 0 where
  pub long : length l' ≡ length l
  pub written : passed ≡ true → 3 * count ≤ length l → l' ≡ sets l 0 xs

-- how many triangles a file states, or why it is refused before its corners are looked at
unfoldable pub stated_for : List ℕ → ℕ → ℕ → ℕ → Result ℕ Refusal
stated_for file a b c =
    cond (file_fits (length file) && set_ok a b c 0) (cond (length_bad file) (Err BadLength) (Ok (stated_in file))) (Err Lengths)

-- what is answered by it, whether the corners passed, and the places of a list
unfoldable pub read_answer : Result ℕ Refusal → Bool → ℕ → Result ℕ Refusal
read_answer (Ok n) passed room = cond passed (room_for (3 * n) room) (Err BadVertex)
read_answer (Err why) passed room = Err why
