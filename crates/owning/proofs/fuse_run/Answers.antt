-- `owning::fuse_run` meets its contract: what is left of the readings ends as the whole does.
use Rattle.std.specs.Prelude.{Ok}
use Rattle.owning.specs.declared.Owned.{Owned}
use mathlib.Core.Path.{◌≡◌, ap, ◌∙◌}
use native.Mathlib.Omega.{arith}
use borrow.Author.Tests.{ltb-true}
use lib.Dec.{ltb}
use lib.ListN.{get_or}
use lib.Ieee.{nan}
use Rattle.lists.proofs.BesideLaws.{by_length}
use Rattle.batching.specs.Batches.{entry}
use Rattle.batching.specs.Read.{entries_in}
use Rattle.batching.proofs.Batching.{entry_at}
use Rattle.owning.specs.Runs.{passed_far}
use Rattle.owning.proofs.Running.{passes_over, changes, adds, refuses, stays, ends, one_far, one_near}
use borrow.Author.Rules.{rules}
use Rattle.owning.proofs.fuse_run.Goals as goal
use Rattle.owning.proofs.fuse_run.Goals.{in-Ok-Far, in-Ok-Changed, in-Ok-Added}

pub loop-i-preserved : goal.loop-i-preserved
unfolding passed_far
loop-i-preserved c =
    let s = c.args in
    let l = c.loop-i in
    let len = c.requires.batch_distances_len in
    let ks = s.readings.now.keys.now in
    let ds = s.readings.now.distances.now in
    let cs = s.readings.now.confidences.now in
    let rs = entries_in s.readings.now in
    let this = entry (get_or ks l.i 0) (get_or ds l.i nan) (get_or cs l.i nan) in
    let stands = entry_at ks ds cs l.i len.0 len.1 (omega (arith, c.loop-i-test.true)) in
    elim c.match-step-2.branch [
      | in-Ok-Far w ↦
          let e : c.fuse_own-step.result ≡ Ok Owned.Far = search rules in (
            omega arith,
            omega (arith, c.loop-i-test.true),
            omega arith,
            c.fuse_own-step.auto.own_distances ∙ l.invariant.3,
            c.fuse_own-step.auto.own_weights ∙ l.invariant.4,
            rw w.added-is (passes_over s.settings s.own_keys.now s.own_distances.now s.own_weights.now s.own s.room rs s.from l.i l.added l.own_distances l.own_weights
                l.invariant.5 this stands (ltb l.added s.room) (λ b. ltb-true l.added s.room b) _ _ (rw e at c.fuse_own-step.ensures.stepped)),
            omega arith,
            rw w.far-is (one_far s.settings rs s.from l.i l.far l.invariant.7 this stands c.fuse_own-step.result c.fuse_own-step.ensures.result_value e),
          )
      | in-Ok-Changed w ↦
          let e : c.fuse_own-step.result ≡ Ok Owned.Changed = search rules in (
            omega arith,
            omega (arith, c.loop-i-test.true),
            omega arith,
            c.fuse_own-step.auto.own_distances ∙ l.invariant.3,
            c.fuse_own-step.auto.own_weights ∙ l.invariant.4,
            rw w.added-is (changes s.settings s.own_keys.now s.own_distances.now s.own_weights.now s.own s.room rs s.from l.i l.added l.own_distances l.own_weights
                l.invariant.5 this stands (ltb l.added s.room) (λ b. ltb-true l.added s.room b) _ _ (rw e at c.fuse_own-step.ensures.stepped)),
            omega arith,
            rw w.far-is (one_near s.settings rs s.from l.i l.far l.invariant.7 this stands c.fuse_own-step.result c.fuse_own-step.ensures.result_value (ap passed_far e)),
          )
      | in-Ok-Added w ↦
          let e : c.fuse_own-step.result ≡ Ok Owned.Added = search rules in (
            omega arith,
            omega (arith, c.loop-i-test.true),
            omega arith,
            c.fuse_own-step.auto.own_distances ∙ l.invariant.3,
            c.fuse_own-step.auto.own_weights ∙ l.invariant.4,
            rw w.added-is (adds s.settings s.own_keys.now s.own_distances.now s.own_weights.now s.own s.room rs s.from l.i l.added l.own_distances l.own_weights
                l.invariant.5 this stands (ltb l.added s.room) (λ b. ltb-true l.added s.room b) _ _ (rw e at c.fuse_own-step.ensures.stepped)),
            omega arith,
            rw w.far-is (one_near s.settings rs s.from l.i l.far l.invariant.7 this stands c.fuse_own-step.result c.fuse_own-step.ensures.result_value (ap passed_far e)),
          )
    ]

pub returns-in-Ok-Unknown : goal.returns-in-Ok-Unknown
returns-in-Ok-Unknown c =
    let s = c.args in
    let l = c.loop-i in
    let len = c.requires.batch_distances_len in
    let ks = s.readings.now.keys.now in
    let ds = s.readings.now.distances.now in
    let cs = s.readings.now.confidences.now in
    let rs = entries_in s.readings.now in
    let this = entry (get_or ks l.i 0) (get_or ds l.i nan) (get_or cs l.i nan) in
    let stands = entry_at ks ds cs l.i len.0 len.1 (omega (arith, c.loop-i-test.true)) in
    let e : c.fuse_own-step.result ≡ Ok Owned.Unknown = search rules in (
      stays s.settings s.own_keys.now s.own_distances.now s.own_weights.now s.own s.room rs s.from l.i l.added l.own_distances l.own_weights
          l.invariant.5 this stands (ltb l.added s.room) (λ b. ltb-true l.added s.room b) _ _
          (omega arith) (rw (by_length entry ks ds cs len.0 len.1) (omega arith)) (rw e at c.fuse_own-step.ensures.stepped) l.far,
      l.invariant.7,
    )

pub returns-in-Err : goal.returns-in-Err
returns-in-Err c =
    let s = c.args in
    let l = c.loop-i in
    let len = c.requires.batch_distances_len in
    let ks = s.readings.now.keys.now in
    let ds = s.readings.now.distances.now in
    let cs = s.readings.now.confidences.now in
    let rs = entries_in s.readings.now in
    let this = entry (get_or ks l.i 0) (get_or ds l.i nan) (get_or cs l.i nan) in
    let stands = entry_at ks ds cs l.i len.0 len.1 (omega (arith, c.loop-i-test.true)) in (
      refuses s.settings s.own_keys.now s.own_distances.now s.own_weights.now s.own s.room rs s.from l.i l.added l.own_distances l.own_weights
          l.invariant.5 this stands (ltb l.added s.room) (λ b. ltb-true l.added s.room b) _ _ _
          (rw c.in-Err.is at c.fuse_own-step.ensures.stepped) l.far,
      l.invariant.7,
    )

pub returns : goal.returns
returns c =
    let s = c.args in
    let l = c.loop-i in
    let len = c.requires.batch_distances_len in
    let rs = entries_in s.readings.now in
    let all : l.i ≡ s.to = omega arith in (
      rw (← all) (ends s.settings s.own_keys.now s.own_distances.now s.own_weights.now s.own s.room rs s.from l.i l.added l.own_distances l.own_weights l.invariant.5 (omega arith)
          (rw (by_length entry s.readings.now.keys.now s.readings.now.distances.now s.readings.now.confidences.now len.0 len.1) (omega arith)) l.far),
      rw (← all) l.invariant.7,
    )
