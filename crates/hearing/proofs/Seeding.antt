-- A seed is looked up in the fused table. Assumes nothing.
use Rattle.std.specs.Prelude.{Some, None}
use mathlib.Core.Path.{◌≡◌, refl, sym, ◌∙◌}
use mathlib.Core.Bool.{Bool, true, false, ◌||◌, or-true}
use mathlib.Core.List.{List}
use Prim.Native.Nat.{ℕ, ◌<◌}
use lib.ListN.{get_or, take}
use lib.Seq.{get_or-take, length-take-le}
use lib.Ieee.{Float, nan, le}
use Rattle.search.specs.Keys.{find_by}
use Rattle.search.proofs.KeyLaws.{find_by-find, found}
use Rattle.table.specs.Table.{row, rows_of, table}
use Rattle.table.proofs.Laying.{columns}
use Rattle.marching.specs.March.{Field, is_seed, onward}
use Rattle.marching.specs.Spreading.{seed_in, has_spread, seed_at}
use Rattle.marching.proofs.Telling.{seed_found}
use Rattle.hearing.specs.Hearing.{Lent}

module _ (t : Float) (ks : List ℕ) (ds ws : List Float) (n : ℕ) (lent : Lent (table ks ds ws n)) (k : ℕ) where
  by_place : seed_in t (rows_of ks ds ws n) k ≡ seed_at t (find_by k (take n ks)) (take n ds) (take n ws)
  by_place =
      let c = columns ks ds ws n lent.distances lent.weights in
      seed_found t (rows_of ks ds ws n) k ∙ rw (c.0, c.1, c.2, find_by-find k (take n ks) lent.ascends)

  pub place_below : (i : ℕ) → find_by k (take n ks) ≡ Some i → i < n
  place_below i e =
      let h = (found k (take n ks) i (sym (find_by-find k (take n ks) lent.ascends) ∙ e)).0 in
      rw (length-take-le n ks lent.fits) at h

  pub seed_absent : find_by k (take n ks) ≡ None → false ≡ seed_in t (rows_of ks ds ws n) k
  unfolding seed_at
  seed_absent e = sym (by_place ∙ rw e)

  pub seed_at_lem : (i : ℕ) → find_by k (take n ks) ≡ Some i → is_seed t (row k (get_or ds i nan) (get_or ws i nan)) ≡ seed_in t (rows_of ks ds ws n) k
  unfolding seed_at
  seed_at_lem i e =
      let l = place_below i e in
      sym (by_place ∙ rw (e, get_or-take n ds i nan l, get_or-take n ws i nan l))

-- ---- a stored row has spread

module _ (seed : ℕ → Bool) (f : Field) (k : ℕ) (d e : Float) (at : e ≡ onward f d) (b : Bool) (told : b ≡ le e f.most) where
  pub spread_on : b ≡ true → true ≡ has_spread seed f k (Some d)
  unfolding has_spread
  spread_on h = sym (rw (← at, ← told, h) (or-true (seed k)))

  pub spread_seed : b ≡ false → (s : Bool) → s ≡ seed k → s ≡ has_spread seed f k (Some d)
  unfolding has_spread
  spread_seed h s q = q ∙ sym (rw (← at, ← told, h) (or_no (seed k)))
    where
      or_no : (c : Bool) → c || false ≡ c
      or_no true = refl
      or_no false = refl
