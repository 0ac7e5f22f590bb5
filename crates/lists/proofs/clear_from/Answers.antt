-- `lists::clear_from` meets its contract: the places passed hold the value.
-- Assumes nothing.
use Rattle.std.proofs.Common.{ℕ, ◌+◌, ◌-◌, ◌<◌, ◌≡◌, subst, List, length, set, replicate, arith}
use Rattle.std.proofs.lemmas.List.Edits.{fill_from_more}
use native.Mathlib.Nat.{zero-add}
use lib.Seq.{paste}
use borrow.Rule.Slice.PartMut.{mid_of}
use Rattle.lists.proofs.clear_from.Goals as goal

module _ {A : Type 0} (v : A) where
  -- one place more
  one_more : (m : List A) (i : ℕ) → i < length m → set (paste m 0 (replicate i v) i) i v ≡ paste m 0 (replicate (i + 1) v) (i + 1)
  one_more m i h =
      subst (λ (k : ℕ). set (paste m 0 (replicate i v) i) k v ≡ paste m 0 (replicate (i + 1) v) (i + 1)) (zero-add i) (fill_from_more m 0 i v (omega arith))

pub loop-place-preserved : goal.loop-place-preserved
loop-place-preserved g c =
    rw c.loop-place.invariant (one_more c.args.value (mid_of c.args.n (length c.args.list.now - c.args.n) c.args.list.now) c.loop-place.place-index c.loop-place-test.true)
