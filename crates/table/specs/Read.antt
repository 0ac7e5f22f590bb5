-- A table that is lent, to be read or to be written.
use Rattle.std.specs.Prelude.{List, ◌≡◌}
use Rattle.table.specs.Table.{Row, Table, table, rows_of}
use Rattle.table.specs.declared.Rows.{Rows}
use Rattle.table.specs.declared.RowsMut.{RowsMut}

-- the table that the lent lists make
abbrev pub table_of : Rows → Table
table_of r = table r.keys.now r.distances.now r.weights.now r.count

-- its rows
abbrev pub rows_in : Rows → List Row
rows_in r = rows_of r.keys.now r.distances.now r.weights.now r.count

-- the table that the lists make which are lent to be written
abbrev pub table_in : RowsMut → Table
table_in r = table r.keys.now r.distances.now r.weights.now r.count

-- the lists of both are the same, whatever they hold
abbrev pub same_lists : RowsMut → RowsMut → Type 0
same_lists a b = (b.keys.ghost_name ≡ a.keys.ghost_name)
    × (b.distances.ghost_name ≡ a.distances.ghost_name)
    × (b.weights.ghost_name ≡ a.weights.ghost_name)
