-- What the marks of a march say. The marched lists hold a mark for each stored cell, and for each of some waiting ones, in no order.
use Rattle.std.specs.Prelude.{ℕ, ◌≤◌, ◌≡◌, Bool, true, false, cond, List, length, take, Float, None, Option, Some}
use Rattle.floats.specs.Floats.{f32, is_finite}
use Rattle.marks.specs.Marks.{look, Kept}
use Rattle.search.specs.Keys.{member, ascending}
use Rattle.marching.specs.March.{MarchedRow, Field, keys_of, distance_of}
use Rattle.marching.specs.Lattice.{lattice_of}
use Rattle.marching.specs.Spreading.{seed_in}
use Rattle.table.specs.Read.{rows_in}
use Rattle.hearing.specs.declared.Plan.{Plan}
use Rattle.table.specs.Table.{Table}

-- the mark of a cell that waits: +infinity
abbrev pub waiting_mark : Float
waiting_mark = f32 0x7F80_0000

-- the distance where there is one, else the mark of a cell that waits
unfoldable pub or_waits : Option Float → Bool → Option Float
or_waits (Some d) b = Some d
or_waits None true = Some waiting_mark
or_waits None false = None

-- the mark of k where the rows rs are stored and the cells ws have the mark of a waiting cell
abbrev pub mark_of : List MarchedRow → List ℕ → ℕ → Option Float
mark_of rs ws k = or_waits (distance_of k rs) (member k ws)

-- the distance that a mark says, none where it is no number
abbrev pub said : Float → Option Float
said d = cond (is_finite d) (Some d) None

-- two lists hold the marks of the rows rs and the cells ws; 1 is the key of no cell
pub record Marked (rs : List MarchedRow) (ws : List ℕ) (ks : List ℕ) (ds : List Float) : Type 0 where
  pub marks : (k : ℕ) → (k ≡ 1 → ⊥) → look k ks ds ≡ mark_of rs ws k
  pub kept : Kept ks
  pub long : length ds ≡ length ks
  pub finite : (k : ℕ) (d : Float) → distance_of k rs ≡ Some d → is_finite d ≡ true
  pub ascends : ascending (keys_of rs) ≡ true

-- three lists of one length with n rows whose keys ascend
pub record Lent (t : Table) : Type 0 where
  pub fits : t.count ≤ length t.keys
  pub distances : length t.distances ≡ length t.keys
  pub weights : length t.weights ≡ length t.keys
  pub ascends : ascending (take t.count t.keys) ≡ true

-- whether a plan's table has a seed at a key
abbrev pub seeds_of : Plan → ℕ → Bool
seeds_of p = seed_in p.threshold (rows_in p.fused)

-- where a plan carries distances
abbrev pub field_of : Plan → Field
field_of p = lattice_of p.course
