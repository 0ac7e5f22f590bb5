-- Rows by their keys.
use Rattle.std.specs.Prelude.{ℕ, cond, List, [], ◌∷◌, map, eqb, None, Option, Some}
use Rattle.table.specs.Table.{Row}

-- the keys of rows
abbrev pub keys_of : List Row → List ℕ
keys_of rows = map (λ (r : Row). r.key) rows

-- the row of a key, where there is one
unfoldable pub stored : ℕ → List Row → Option Row
stored k [] = None
stored k (r ∷ rs) = cond (eqb r.key k) (Some r) (stored k rs)
