-- The readings of a batch that are lent to be read.
use Rattle.std.specs.Prelude.{◌≡◌, List, length}
use Rattle.batching.specs.Batches.{Entry, entries}
use Rattle.batching.specs.declared.Readings.{Readings}

-- the readings that the lent lists make
abbrev pub entries_in : Readings → List Entry
entries_in r = entries r.keys.now r.distances.now r.confidences.now

-- the three lists are of one length
abbrev pub OneLength : Readings → Type 0
OneLength r = (length r.distances.now ≡ length r.keys.now) × (length r.confidences.now ≡ length r.keys.now)
