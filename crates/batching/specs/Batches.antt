-- A batch of direct readings, taken in order.
use Rattle.std.specs.Prelude.{ℕ, suc, List, [], ◌∷◌, length, Float, Ok, Err, Result}
use Rattle.lists.specs.Beside.{beside_by}
use Rattle.refusals.specs.Refusals.{number_of}
use Rattle.table.specs.declared.Settings.{Settings}
use Rattle.table.specs.Table.{Table, lengths_ok, check_with}
use Rattle.measuring.specs.declared.Reading.{Reading}
use Rattle.measuring.specs.declared.Reading.TheVariants.{Direct}
use Rattle.fusing.specs.declared.Fused.{Fused}
use Rattle.batching.specs.declared.Counts.{Counts}
use Rattle.batching.specs.declared.RefusedReading.{RefusedReading}
use Rattle.batching.specs.declared.RefusedBatch.{RefusedBatch}
use Rattle.fusing.specs.Fusing.{fuse}
use Rattle.refusals.specs.declared.Refusal.{Refusal}

-- why a reading is refused, and which it is, counted from 0
abbrev pub refused_reading : Refusal → ℕ → RefusedReading
refused_reading why i = record { why = why; at = i }

-- how the readings of a batch end: all are taken, or one is refused
abbrev pub Ending : Type 0
Ending = Result (Unit {0}) RefusedReading

-- how many readings added a row, changed one, and were far
abbrev pub counts : ℕ → ℕ → ℕ → Counts
counts added changed far = record { added = added; changed = changed; far = far }

-- why a batch is refused, the reading that is, and the counts of those before it
abbrev pub refused_batch : Refusal → ℕ → Counts → RefusedBatch
refused_batch why i n = record { why = why; at = i; counts = n }

-- what the tests refuse names reading 0 and has counted none
abbrev pub refused_at_once : Refusal → RefusedBatch
refused_at_once why = refused_batch why 0 (counts 0 0 0)

-- what a batch answers: the counts of its readings, or where it is refused
abbrev pub Batched : Type 0
Batched = Result Counts RefusedBatch

-- what a batch answers, and the table that it leaves
pub record BatchOutcome : Type 0 where
  pub answer : Batched
  pub left : Table

abbrev pub batch_outcome : Batched → Table → BatchOutcome
batch_outcome a t = record { answer = a; left = t }

-- how its readings end, and the table that they leave
pub record BatchEnd : Type 0 where
  pub ending : Ending
  pub left : Table

abbrev pub batch_end : Ending → Table → BatchEnd
batch_end e t = record { ending = e; left = t }

-- how many of n readings are taken: all, or those before the refused one
abbrev pub readings_taken : Ending → ℕ → ℕ
readings_taken (Ok tt) n = n
readings_taken (Err refused) n = refused.at

-- what is answered to an ending, with the counts of the readings that were taken
abbrev pub batched_of : Ending → Counts → Batched
batched_of (Ok tt) n = Ok n
batched_of (Err refused) n = Err (refused_batch refused.why refused.at n)

abbrev pub answer_of : BatchEnd → Counts → BatchOutcome
answer_of e n = batch_outcome (batched_of e.ending n) e.left

-- a reading of a batch: a cell's key, a direct distance and its confidence
pub record Entry : Type 0 where
  pub key : ℕ
  pub distance : Float
  pub confidence : Float

abbrev pub entry : ℕ → Float → Float → Entry
entry k d c = record { key = k; distance = d; confidence = c }

-- the three lists of a batch side by side, as far as all three go
abbrev pub entries : List ℕ → List Float → List Float → List Entry
entries ks ds cs = beside_by entry ks ds cs

abbrev pub direct_of : Entry → Reading
direct_of r = Direct (record { 0 = r.distance }) r.confidence

-- a refusal ends the batch and names its reading
unfoldable pub stop_or : Result Fused Refusal → ℕ → Table → BatchEnd → BatchEnd
stop_or (Err why) i t rest = batch_end (Err (refused_reading why i)) t
stop_or (Ok Fused.Far) i t rest = rest
stop_or (Ok Fused.New) i t rest = rest
stop_or (Ok Fused.Changed) i t rest = rest

-- the readings in order, the first of them the i-th, each fused into what those before it left
unfoldable pub batch_from : Settings → ℕ → Table → List Entry → BatchEnd
batch_from s i t [] = batch_end (Ok tt) t
batch_from s i t (r ∷ rs) =
    let o = fuse s t r.key (direct_of r) in
    stop_or o.answer i o.left (batch_from s (suc i) o.left rs)

-- an answer ahead of the later ones; a refused reading and those after it have none
unfoldable pub ahead_of : Result Fused Refusal → List (Result Fused Refusal) → List (Result Fused Refusal)
ahead_of (Err why) rest = []
ahead_of (Ok Fused.Far) rest = (Ok Fused.Far) ∷ rest
ahead_of (Ok Fused.New) rest = (Ok Fused.New) ∷ rest
ahead_of (Ok Fused.Changed) rest = (Ok Fused.Changed) ∷ rest

-- what the readings that are taken are answered, in turn
unfoldable pub answers_from : Settings → Table → List Entry → List (Result Fused Refusal)
answers_from s t [] = []
answers_from s t (r ∷ rs) = let o = fuse s t r.key (direct_of r) in ahead_of o.answer (answers_from s o.left rs)

-- New counts as added, Changed as changed, Far as far, and a refusal as none
unfoldable pub counting : Result Fused Refusal → Counts → Counts
counting (Ok Fused.New) n = counts (suc n.added) n.changed n.far
counting (Ok Fused.Changed) n = counts n.added (suc n.changed) n.far
counting (Ok Fused.Far) n = counts n.added n.changed (suc n.far)
counting (Err why) n = n

-- the counts of answers
unfoldable pub counts_of : List (Result Fused Refusal) → Counts
counts_of [] = counts 0 0 0
counts_of (a ∷ rest) = counting a (counts_of rest)

-- what the tests refuse stays refused, names reading 0 and has counted none
unfoldable pub batch_if : Result (Unit {0}) Refusal → Settings → Table → List Entry → BatchOutcome
unfolding batch_from answers_from counts_of
batch_if (Err why) s t rs = batch_outcome (Err (refused_at_once why)) t
batch_if (Ok tt) s t rs = answer_of (batch_from s 0 t rs) (counts_of (answers_from s t rs))

-- refusals 1, 2 and 3; the three lists of readings are equal and at most 65,536 long
abbrev pub batch_check : Settings → Table → ℕ → ℕ → ℕ → Result (Unit {0}) Refusal
batch_check s t a b c = check_with (lengths_ok a b c 0) s t

-- a batch: its tests, then its readings
unfoldable pub batch : Settings → Table → List ℕ → List Float → List Float → BatchOutcome
unfolding batch_if
batch s t ks ds cs = batch_if (batch_check s t (length ks) (length ds) (length cs)) s t (entries ks ds cs)

-- the number of an answer, 0 for done, the reading that a refusal names, and the counts
abbrev pub batched_number : Batched → ℕ
batched_number (Ok n) = 0
batched_number (Err refused) = number_of refused.why

abbrev pub batched_at : Batched → ℕ
batched_at (Ok n) = 0
batched_at (Err refused) = refused.at

abbrev pub batched_counts : Batched → Counts
batched_counts (Ok n) = n
batched_counts (Err refused) = refused.counts
