-- `batches::batch_sound` meets its contract: what is left of the batch ends as the whole does, and the far readings before it are counted.
use mathlib.Core.List.{List}
use mathlib.Core.Path.{◌≡◌, refl, sym, ap, ◌∙◌}
use Prim.Native.Nat.{ℕ, ◌+◌, ◌≤◌}
use native.Mathlib.Omega.{arith}
use lib.ListN.{length}
use lib.Ieee.{Float}
use Rattle.table.specs.declared.Settings.{Settings}
use Rattle.lists.proofs.BesideLaws.{by_length}
use Rattle.batching.specs.Batches.{entry, entries}
use Rattle.batching.specs.Read.{entries_in}
use Rattle.batching.specs.Steps.{far_up_to}
use Rattle.batching.proofs.CountLaws.{far_few}
use Rattle.batching.proofs.Batching.{ended}
use Rattle.owning.specs.Runs.{left_off}
use Rattle.owning.proofs.Running.{run_stops, run_goes}
use borrow.Author.Rules.{rules}
use Rattle.batches.proofs.batch_sound.Goals as goal

-- there are no more far readings than readings, and those are counted in a usize
few : (s : Settings) (ks : List ℕ) (ds cs : List Float)
    → length ds ≡ length ks
    → length cs ≡ length ks
    → (n : ℕ)
    → far_up_to s (entries ks ds cs) n ≤ length ks
few s ks ds cs d e n = rw (by_length entry ks ds cs d e) at (far_few s (entries ks ds cs) n)

more_far : {a b c : ℕ} (m : ℕ) → a ≡ b → c ≡ b + m → a + m ≡ c
more_far m p q = rw p (sym q)

pub loop-i-init : goal.loop-i-init
unfolding far_up_to
loop-i-init c = (search rules, c.requires.count_value, refl, (refl, refl, refl), refl)

pub overflow_add-far : goal.overflow_add-far
overflow_add-far c =
    let r = c.args.readings.now in
    omega (
      arith,
      c.loop-i.invariant.4,
      c.batch_step-run.ensures.table_after.2,
      few c.args.settings r.keys.now r.distances.now r.confidences.now c.requires.batch_distances_len.0 c.requires.batch_distances_len.1
          (left_off c.batch_step-run.result.end),
    )

pub returns-in-Err : goal.returns-in-Err
returns-in-Err c =
    let r = run_stops _ _ _ _ _ _ _ c.batch_step-run.ensures.table_after _ c.in-Err.is in
    record {
      count_after = sym (c.loop-i.invariant.2 ∙ r.0);
      far_value = more_far c.batch_step-run.result.far c.loop-i.invariant.4 r.1;
      same_lists = (
        c.batch_step-run.ensures.same_lists.0 ∙ c.loop-i.invariant.3.0,
        c.batch_step-run.ensures.same_lists.1 ∙ c.loop-i.invariant.3.1,
        c.batch_step-run.ensures.same_lists.2 ∙ c.loop-i.invariant.3.2,
      );
    }

pub loop-i-smaller : goal.loop-i-smaller
loop-i-smaller c =
    let a = c.args.readings.now in
    let n = by_length entry a.keys.now a.distances.now a.confidences.now c.requires.batch_distances_len.0 c.requires.batch_distances_len.1 in
    let r = run_goes _ _ _ _ _ _ _ c.batch_step-run.ensures.table_after _ c.in-Ok.is in
    omega (arith, n, r.1, r.2, c.loop-i-test.true)

pub loop-i-preserved : goal.loop-i-preserved
loop-i-preserved c =
    let a = c.args.readings.now in
    let n = by_length entry a.keys.now a.distances.now a.confidences.now c.requires.batch_distances_len.0 c.requires.batch_distances_len.1 in
    let r = run_goes _ _ _ _ _ _ _ c.batch_step-run.ensures.table_after _ c.in-Ok.is in (
      omega (arith, n, r.2),
      c.batch_step-run.ensures.table_after.1,
      c.loop-i.invariant.2 ∙ r.0,
      (
        c.batch_step-run.ensures.same_lists.0 ∙ c.loop-i.invariant.3.0,
        c.batch_step-run.ensures.same_lists.1 ∙ c.loop-i.invariant.3.1,
        c.batch_step-run.ensures.same_lists.2 ∙ c.loop-i.invariant.3.2,
      ),
      more_far c.batch_step-run.result.far c.loop-i.invariant.4 r.3,
    )

pub returns : goal.returns
returns c =
    let a = c.args.readings.now in
    let all : c.loop-i.i ≡ length a.keys.now = omega (arith, c.loop-i.invariant.0, c.loop-i-test.false) in record {
      count_after = sym (c.loop-i.invariant.2
          ∙ ended c.args.settings _ a.keys.now a.distances.now a.confidences.now
          c.loop-i.i c.loop-i-test.false);
      far_value = c.loop-i.invariant.4 ∙ ap (far_up_to c.args.settings (entries_in a)) all;
      same_lists = c.loop-i.invariant.3;
    }
