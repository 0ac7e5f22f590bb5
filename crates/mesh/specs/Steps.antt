-- What the private functions promise each other.
use Rattle.std.specs.Prelude.{ℕ, ◌≤◌, ◌≡◌, true, cond, ◌&&◌, List, eqb, leb, length, Ok, Err, Result}
use Rattle.lists.specs.Padding.{padded}
use Rattle.lists.specs.Listing.{room_for}
use Rattle.lists.specs.Threes.{column0, column1, column2}
use Rattle.refusals.specs.declared.Refusal.TheVariants.{NoPlace}
use Rattle.table.specs.Table.{Table}
use Rattle.edges.specs.Listing.{firsts, seconds}
use Rattle.edges.specs.declared.Surface.{Surface}
use Rattle.triangles.specs.Building.{Rooms as Lent, room_for_both}
use Rattle.mesh.specs.declared.Drawn.{Drawn}
use Rattle.mesh.specs.Mesh.{surface_edges, groups_on, triangles_on}
use Rattle.refusals.specs.declared.Refusal.{Refusal}

-- n vertices in a room, and the answer to the triangles
abbrev pub with_built : ℕ → Result ℕ Refusal → Result (ℕ × ℕ) Refusal
with_built n (Ok m) = Ok (n, m)
with_built n (Err why) = Err why

abbrev pub with_vertices : ℕ → ℕ → Result ℕ Refusal → Result (ℕ × ℕ) Refusal
with_vertices n room built = cond (leb n room) (with_built n built) (Err NoPlace)

abbrev pub with_edges : Result ℕ Refusal → ℕ → Result ℕ Refusal → Result (ℕ × ℕ) Refusal
with_edges (Ok n) room built = with_vertices n room built
with_edges (Err why) room built = Err why

-- the tests' verdict, the edges' answer, the vertices' room and the triangles' answer together
unfoldable pub answer_for : Result (Unit {0}) Refusal → Result ℕ Refusal → ℕ → Result ℕ Refusal → Result (ℕ × ℕ) Refusal
answer_for (Ok tt) edges room built = with_edges edges room built
answer_for (Err why) edges room built = Err why

-- a verdict that passed, and lists for groups and triangles that fit
pub record Fit (v : Result (Unit {0}) Refusal) (l : Lent) : Type 0 where
  pub passed : v ≡ (Ok tt)
  pub rest : leb l.groups 1048576 && ((eqb l.t0 l.t1 && eqb l.t0 l.t2) && leb l.t0 1048576) ≡ true

-- a surface's edges, groups and triangles are drawn: what is answered, and what the lists hold where the edges have room
pub record Drawing (o : Surface) (t : Table) (a b : ℕ) (l : Lent) (d : Drawn) (as' bs gs is js ks : List ℕ) : Type 0 where
  pub edges : d.edges ≡ room_for (length (surface_edges o t)) a
  pub first : length (surface_edges o t) ≤ a → as' ≡ padded 0 a (firsts (surface_edges o t))
  pub second : length (surface_edges o t) ≤ a → bs ≡ padded 0 b (seconds (surface_edges o t))
  pub built : length (surface_edges o t) ≤ a → d.built ≡ room_for_both (length (groups_on o t)) l.groups (length (triangles_on o t)) l.t0
  pub groups : length (surface_edges o t) ≤ a → (j : ℕ) → d.built ≡ Ok j → gs ≡ padded 0 l.groups (groups_on o t)
  pub t0 : length (surface_edges o t) ≤ a → (j : ℕ) → d.built ≡ Ok j → is ≡ padded 0 l.t0 (column0 (triangles_on o t))
  pub t1 : length (surface_edges o t) ≤ a → (j : ℕ) → d.built ≡ Ok j → js ≡ padded 0 l.t1 (column1 (triangles_on o t))
  pub t2 : length (surface_edges o t) ≤ a → (j : ℕ) → d.built ≡ Ok j → ks ≡ padded 0 l.t2 (column2 (triangles_on o t))
