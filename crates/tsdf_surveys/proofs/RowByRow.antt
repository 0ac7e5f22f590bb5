-- What the rows from a place on say, unfolded by one row.
-- Assumes nothing.
use Prim.Native.Nat.{ℕ, ◌+◌, ◌<◌, ◌≤◌}
use native.Mathlib.Numerals.{add-one}
use native.Mathlib.Omega.{arith}
use mathlib.Core.Path.{◌≡◌, sym, ◌∙◌}
use mathlib.Core.Bool.{Bool, true, false, cond}
use mathlib.Core.List.{List, [], ◌∷◌}
use lib.ListN.{get_or, set, drop, length-take, drop_of_length-le}
use lib.Seq.{sets}
use lib.Ieee.{Float, nan, binary32, add, lt}
use Rattle.ends.specs.Ends.{widened}
use Rattle.floats.specs.Floats.{zero32, size_of}
use Rattle.lists.specs.Lists.{kept}
use Rattle.table.specs.Table.{Row, rows_of, table}
use Rattle.table.proofs.RowLaws.{row_at_lem}
use Rattle.tsdf_surveys.specs.declared.Tally.{Tally}
use Rattle.tsdf_surveys.specs.Surface.{is_surface, surface_keys}
use Rattle.tsdf_surveys.specs.Statistics.{tallied, tallied_all}
use Rattle.tsdf_questions.specs.Steps.{Accepted}

module _ (ks : List ℕ) (ds ws : List Float) (n : ℕ) where
  -- the rows from place i on
  abbrev pub rest : ℕ → List Row
  rest i = drop i (rows_of ks ds ws n)

  pub none_left : (i : ℕ) → n ≤ i → rest i ≡ []
  none_left i h = drop_of_length-le (rows_of ks ds ws n) {i = i} (rw length-take (omega arith))

  pub surface_ended : (i : ℕ) → n ≤ i → (threshold : Float) → surface_keys threshold (rest i) ≡ []
  unfolding surface_keys kept
  surface_ended i h threshold = rw (none_left i h)

  pub rows_tallied : (i : ℕ) → n ≤ i → (size : Float) (t : Tally) → tallied_all size t (rest i) ≡ t
  unfolding tallied_all
  rows_tallied i h size t = rw (none_left i h)

  module _ (ok : Accepted (table ks ds ws n)) (i : ℕ) (h : i < n) where
    -- a row of the surface, and another
    pub surface_taken :
        (threshold : Float)
        → is_surface threshold (get_or ds i nan) (get_or ws i nan) ≡ true
        → surface_keys threshold (rest i) ≡ get_or ks i 0 ∷ surface_keys threshold (rest (i + 1))
    unfolding surface_keys kept
    surface_taken threshold e = rw (row_at_lem ks ds ws n i ok.distances ok.weights h ok.fits, e, add-one)

    pub surface_skipped :
        (threshold : Float)
        → is_surface threshold (get_or ds i nan) (get_or ws i nan) ≡ false
        → surface_keys threshold (rest i) ≡ surface_keys threshold (rest (i + 1))
    unfolding surface_keys kept
    surface_skipped threshold e = rw (row_at_lem ks ds ws n i ok.distances ok.weights h ok.fits, e, add-one)

    pub row_tallied : (size : Float) (t : Tally) → tallied_all size t (rest i) ≡ tallied_all size (tallied size t (get_or ds i nan) (get_or ws i nan)) (rest (i + 1))
    unfolding tallied_all
    row_tallied size t = rw (row_at_lem ks ds ws n i ok.distances ok.weights h ok.fits, add-one)

-- a row adds one cell at most
pub tallied_near : (size : Float) (t : Tally) (d w : Float) → (tallied size t d w).near ≤ t.near + 1
unfolding tallied
tallied_near size t d w = go (lt zero32 w) (lt (size_of d) size)
  where
    more : Bool → Tally
    more b = record { near = cond b (t.near + 1) t.near; ends = widened t.ends d; weight = add binary32 t.weight w }

    go : (a b : Bool) → (cond a (more b) t).near ≤ t.near + 1
    go true true = omega arith
    go true false = omega arith
    go false b = omega arith

-- writing goes on: one more from place n on, and none left
pub wrote_more : (whole out out' : List ℕ) (n x : ℕ) (xs ys : List ℕ) → whole ≡ sets out n xs → xs ≡ x ∷ ys → out' ≡ set out n x → whole ≡ sets out' (n + 1) ys
wrote_more whole out out' n x xs ys p q r = p ∙ rw (q, r, add-one)

pub wrote_all : (whole out : List ℕ) (n : ℕ) (xs : List ℕ) → whole ≡ sets out n xs → xs ≡ [] → out ≡ whole
wrote_all whole out n xs p q = sym (p ∙ rw q)
