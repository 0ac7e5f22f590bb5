-- A loop that lists edges: what is left to write says what the whole says.
-- Assumes nothing.
use Prim.Native.Nat.{ℕ, suc, ◌+◌, ◌≤◌, ◌<◌}
use native.Mathlib.Numerals.{add-one}
use native.Mathlib.Omega.{arith}
use mathlib.Core.Path.{◌≡◌, refl, sym, ap, ◌∙◌}
use mathlib.Core.Bool.{Bool, true, false}
use mathlib.Core.List.{List, [], ◌∷◌, ◌++◌, map, map-append}
use lib.ListN.{length, get_or, drop, set, length-append, length-map, drop_of_length-le}
use lib.Seq.{sets, length-sets, drop-cons}
use Rattle.lists.specs.Lists.{kept, joined}
use Rattle.lists.proofs.Writing.{sets_append}
use Rattle.table.specs.Table.{Row}
use Rattle.edges.specs.Edges.{Edge, edge, listed, edges_to, edges_of}
use Rattle.edges.specs.Listing.{firsts, seconds}
use Rattle.edges.specs.Steps.{Wrote}

-- `whole`, written from `at` on, is what is written now and `rest`, from `end` on
pub record Writing (whole : List Edge) (at : ℕ) (first second : List ℕ) (rest : List Edge) (end : ℕ) (first' second' : List ℕ) : Type 0 where
  pub count : at + length whole ≡ end + length rest
  pub ones : sets first at (firsts whole) ≡ sets first' end (firsts rest)
  pub others : sets second at (seconds whole) ≡ sets second' end (seconds rest)
  pub long : length first' ≡ length first
  pub long' : length second' ≡ length second

pub begun : (whole : List Edge) (at : ℕ) (first second : List ℕ) → Writing whole at first second whole at first second
begun whole at first second = record { count = refl; ones = refl; others = refl; long = refl; long' = refl }

-- one column
column : (g : Edge → ℕ) (es rest : List Edge) (l : List ℕ) (end : ℕ)
    → sets l end (map g (es ++ rest)) ≡ sets (sets l end (map g es)) (end + length es) (map g rest)
column g es rest l end = rw (map-append g es rest, sets_append l end (map g es) (map g rest), length-map es g)

module _ (whole : List Edge) (at : ℕ) (first second : List ℕ) where
  -- some more are written
  pub more : (es rest : List Edge) (end : ℕ) (f s : List ℕ) (end' : ℕ) (f' s' : List ℕ)
      → Writing whole at first second (es ++ rest) end f s
      → Wrote es end f s end' f' s'
      → Writing whole at first second rest end' f' s'
  more es rest end f s end' f' s' w h =
      record {
        count = rw h.count (omega (arith, w.count, length-append es rest));
        ones = w.ones ∙ rw (h.ones, h.count) (column (λ (e : Edge). e.first) es rest f end);
        others = w.others ∙ rw (h.others, h.count) (column (λ (e : Edge). e.second) es rest s end);
        long = ap length h.ones ∙ length-sets f end (firsts es) ∙ w.long;
        long' = ap length h.others ∙ length-sets s end (seconds es) ∙ w.long';
      }

  -- nothing is left
  pub done : (end : ℕ) (f s : List ℕ) → Writing whole at first second [] end f s → Wrote whole at first second end f s
  done end f s w = record { count = omega (arith, w.count); ones = sym w.ones; others = sym w.others }

-- one edge written
pub one : (a b end : ℕ) (f s f' s' : List ℕ) → f' ≡ set f end a → s' ≡ set s end b → Wrote (edge a b ∷ []) end f s (end + 1) f' s'
one a b end f s f' s' p q = record { count = refl; ones = p; others = q }

-- the edges of a row to the keys from a place on: one more, or none
module _ (near : ℕ → List ℕ) (crosses : Row → Row → Bool) (rows : List Row) (r : Row) (ks : List ℕ) (i : ℕ) (h : i < length ks) where
  abbrev to : ℕ → List Edge
  to j = edges_to near crosses rows r (drop j ks)

  pub listed_next : listed near crosses rows r (get_or ks i 0) ≡ true → to i ≡ (edge r.key (get_or ks i 0) ∷ []) ++ to (i + 1)
  unfolding edges_to kept
  listed_next e = rw (drop-cons ks i 0 h, e, add-one)

  pub unlisted_next : listed near crosses rows r (get_or ks i 0) ≡ false → to i ≡ to (i + 1)
  unfolding edges_to kept
  unlisted_next e = rw (drop-cons ks i 0 h, e, add-one)

  -- a turn of the loop over a row's neighbours
  module _ (whole : List Edge) (at : ℕ) (first second : List ℕ) (end : ℕ) (f s : List ℕ) (end' : ℕ) (f' s' : List ℕ)
      (w : Writing whole at first second (to i) end f s) (b : Bool)
      (e : b ≡ listed near crosses rows r (get_or ks i 0)) where
    pub turn_listed : b ≡ true
        → (k : ℕ)
        → k ≡ get_or ks i 0
        → f' ≡ set f end r.key
        → s' ≡ set s end k
        → end' ≡ end + 1
        → Writing whole at first second (to (i + 1)) end' f' s'
    turn_listed t k q p o n =
        let wrote : Wrote (edge r.key (get_or ks i 0) ∷ []) end f s end' f' s' = rw n (one r.key (get_or ks i 0) end f s f' s' p (o ∙ ap (set s end) q)) in
        more whole at first second (edge r.key (get_or ks i 0) ∷ []) (to (i + 1)) end f s end' f' s' (rw (listed_next (sym e ∙ t)) at w) wrote

    pub turn_unlisted : b ≡ false → f' ≡ f → s' ≡ s → end' ≡ end → Writing whole at first second (to (i + 1)) end' f' s'
    turn_unlisted t p o n = rw (p, o, n) (rw (unlisted_next (sym e ∙ t)) at w)

-- no key is left
pub none_left : (near : ℕ → List ℕ) (crosses : Row → Row → Bool) (rows : List Row) (r : Row) (ks : List ℕ) (i : ℕ)
    → length ks ≤ i
    → edges_to near crosses rows r (drop i ks) ≡ []
unfolding edges_to kept
none_left near crosses rows r ks i h = rw (drop_of_length-le ks {i = i} h)

-- the rows from a place on
module _ (near : ℕ → List ℕ) (crosses : Row → Row → Bool) (rows : List Row) where
  abbrev pub from : ℕ → List Edge
  from i = joined (edges_of near crosses rows) (drop i rows)

  pub row_next : (i : ℕ) (r : Row) → drop i rows ≡ r ∷ drop (suc i) rows → from i ≡ edges_of near crosses rows r ++ from (i + 1)
  unfolding joined
  row_next i r e = rw (e, add-one)

  pub no_row_left : (i : ℕ) → length rows ≤ i → from i ≡ []
  unfolding joined
  no_row_left i h = rw (drop_of_length-le rows {i = i} h)

  -- a turn of the loop over the rows
  pub row_turn : (i : ℕ) (r : Row)
      → drop i rows ≡ r ∷ drop (suc i) rows
      → (whole : List Edge) (at : ℕ) (first second : List ℕ) (end : ℕ) (f s : List ℕ) (end' : ℕ) (f' s' : List ℕ)
      → Writing whole at first second (from i) end f s
      → Wrote (edges_of near crosses rows r) end f s end' f' s'
      → Writing whole at first second (from (i + 1)) end' f' s'
  row_turn i r e whole at first second end f s end' f' s' w h =
      more whole at first second (edges_of near crosses rows r) (from (i + 1)) end f s end' f' s' (rw (row_next i r e) at w) h
