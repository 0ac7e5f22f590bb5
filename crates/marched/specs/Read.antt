-- A marched table that is lent to be read.
use Rattle.std.specs.Prelude.{List}
use Rattle.stored.specs.declared.Distances.{Distances}
use Rattle.marching.specs.March.{MarchedRow}
use Rattle.marched.specs.Marched.{MarchedTable, marched_table, marched_rows_of}

-- the table that the lent lists make
abbrev pub marched_in : Distances → MarchedTable
marched_in d = marched_table d.keys.now d.distances.now d.count

-- its rows
abbrev pub marched_rows_in : Distances → List MarchedRow
marched_rows_in d = marched_rows_of d.keys.now d.distances.now d.count
