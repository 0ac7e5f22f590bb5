-- Looking a row up by its key.
-- Assumes nothing.
use Rattle.std.specs.Prelude.{Option, Some}
use Prim.Native.Nat.{ℕ, ◌<◌}
use native.Mathlib.Omega.{arith}
use mathlib.Core.Path.{◌≡◌, refl, sym, ap, ◌∙◌}
use mathlib.Core.Logic.{⊎_elim}
use mathlib.Core.Bool.{Bool, true, false, cond}
use mathlib.Core.List.Memᴰ
use mathlib.Core.List.{List, [], ◌∷◌}
use lib.Dec.{eqb}
use borrow.Author.Tests.{eqb-true, eq-eqb, ne_eqb}
use Rattle.lists.specs.Lists.{◌∈◌, Ordered}
use Rattle.lists.proofs.ListLaws.{unmap_ordered}
use Rattle.search.specs.Keys.{ascending}
use Rattle.search.proofs.KeyLaws.{ascending_keys}
use Rattle.table.specs.Table.{Row}
use Rattle.table.specs.Rows.{keys_of, stored}

pub ascending_rows : (rows : List Row) → ascending (keys_of rows) ≡ true → Ordered (λ r s. r.key < s.key) rows
ascending_rows rows e = unmap_ordered ◌<◌ (λ (r : Row). r.key) rows (ascending_keys (keys_of rows) e)

-- the row that is looked up stands there, and has the key
pub stored_in : (k : ℕ) (rows : List Row) {s : Row} → stored k rows ≡ Some s → (s ∈ rows) × (s.key ≡ k)
unfolding stored
stored_in k [] {s} e = let no : ◌≡◌ {A = ℕ} 0 1 = cc in let z : ⊥ = omega arith in absurd z
stored_in k (r ∷ rs) {s} e = go (eqb r.key k) refl (λ h. stored_in k rs h) e
  where
    go :
        (b : Bool)
        → eqb r.key k ≡ b
        → (stored k rs ≡ Some s → (s ∈ rs) × (s.key ≡ k))
        → cond b (Some r) (stored k rs) ≡ Some s
        → (s ∈ (r ∷ rs)) × (s.key ≡ k)
    go true q rest f = let same : r ≡ s = cc in (Memᴰ.head (sym same), ap (λ (x : Row). x.key) (sym same) ∙ eqb-true r.key k q)
    go false q rest f = let t = rest f in (Memᴰ.tail t.0, t.1)

-- of ascending rows each is found by its key
pub in_stored : (rows : List Row) → Ordered (λ r s. r.key < s.key) rows → (s : Row) → s ∈ rows → stored s.key rows ≡ Some s
unfolding stored Ordered
in_stored [] o s m = absurd (Memᴰ.not-nil m)
in_stored (r ∷ rs) o s m =
    ⊎_elim (λ e. let same : r.key ≡ s.key = ap (λ (x : Row). x.key) (sym e) in rw (eq-eqb r.key s.key same) (ap {B = Option Row} Some (sym e)))
    (λ t. let h = o.0 s t in rw (ne_eqb r.key s.key (λ e. omega arith)) (in_stored rs o.1 s t))
    (Memᴰ.cases_cons m)
