-- `owning::fuse_own` meets its contract: a reading that is not near leaves the own rows, and a near one is fused into its own.
-- Assumes nothing.
use Rattle.std.specs.Prelude.{Ok}
use Rattle.std.proofs.lemmas.Result.{err_from_is_err_and}
use mathlib.Core.Path.{refl, sym, ap, ◌∙◌}
use native.Mathlib.Omega.{arith}
use lib.ListN.{length}
use Rattle.table.proofs.RowLaws.{lengths_known}
use Rattle.batching.specs.Batches.{entry}
use Rattle.measuring.proofs.Admitting.{near_known}
use Rattle.owning.proofs.Stepping.{numbered_place, near_left}
use Rattle.owning.proofs.Running.{no_left, far_left, no_tells, far_tells, near_tells}
use Rattle.owning.proofs.fuse_own.Goals as goal

pub overflow_sub-place : goal.overflow_sub-place
overflow_sub-place c =
    let s = c.args in
    let f = lengths_known (length s.own_keys.now) (length s.own_distances.now) (length s.own_weights.now) s.own c.requires.own_value in
    omega (arith, (numbered_place s.own_keys.now s.own s.key s.slot f.0 c.requires.numbered).0)

pub fuse_place-requires : goal.fuse_place-requires
fuse_place-requires c =
    let s = c.args in
    let f = lengths_known (length s.own_keys.now) (length s.own_distances.now) (length s.own_weights.now) s.own c.requires.own_value in
    (omega (arith, (numbered_place s.own_keys.now s.own s.key s.slot f.0 c.requires.numbered).1, f), omega (arith, f))

pub returns-in_err-near : goal.returns-in_err-near
returns-in_err-near c =
    let n = sym c.admit.ensures ∙ c.in_err-near.was in
    let p = err_from_is_err_and c.from_residual.result c.from_residual.ensures.1 in
    rw (p.1, p.2) (record {
      stepped = (λ t added ready room. no_left _ _ _ _ _ _ _ ready _ _ n);
      result_value = no_tells _ _ _ n;
    })

pub returns-in_default : goal.returns-in_default
returns-in_default c =
    let n = sym c.admit.ensures ∙ c.in_ok-near.was ∙ ap Ok c.in_default.is in
    record {
      stepped = (λ t added ready room. far_left _ _ _ _ _ _ _ ready _ n);
      result_value = far_tells _ _ n;
    }

pub returns : goal.returns
returns c =
    let s = c.args in
    let f = lengths_known (length s.own_keys.now) (length s.own_distances.now) (length s.own_weights.now) s.own c.requires.own_value in
    let o = numbered_place s.own_keys.now s.own s.key s.slot f.0 c.requires.numbered in
    let n = sym c.admit.ensures ∙ c.in_ok-near.was ∙ ap Ok c.in-Some.is in
    let r = entry s.key s.distance s.confidence in
    let did = rw c.from.ensures at c.fuse_place.ensures in record {
      stepped = λ t added ready room.
          near_left s.settings t s.own_keys.now s.own_distances.now s.own_weights.now
          s.own added ready _ s.key o.1 o.2 _ (near_known _ _ _ _ n).1 r refl n s.spare room _ _ _ did;
      result_value = near_tells s.settings r _ _ _ _ _ _ _ _ _ n did;
    }
