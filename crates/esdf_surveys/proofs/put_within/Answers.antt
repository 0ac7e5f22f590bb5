-- `esdf_surveys::put_within` meets its contract: what is left to put says what the whole puts.
use mathlib.Core.Path.{refl, ◌∙◌}
use Rattle.marched.specs.Marched.{marched_rows_of}
use Rattle.marched.proofs.MarchedLaws.{pair_at, pair_end}
use Rattle.esdf_surveys.proofs.Walking.{put_begun, put_next, put_few, put_done}
use borrow.Author.Rules.{rules}
use Rattle.esdf_surveys.proofs.put_within.Goals as goal

pub loop-i-init : goal.loop-i-init
loop-i-init c =
    let a = c.args in (
      search rules,
      search rules,
      refl,
      refl,
      put_begun a.threshold (marched_rows_of a.field.now.keys.now a.field.now.distances.now a.field.now.count) a.out_keys.now
          a.out_distances.now,
    )

pub loop-i-preserved : goal.loop-i-preserved
loop-i-preserved c =
    let a = c.args in
    let p = c.requires.0 in
    let l = c.loop-i in
    let t = c.loop-i-test.true in
    let k = c.put_if-n.auto in
    let rs = marched_rows_of a.field.now.keys.now a.field.now.distances.now a.field.now.count in (
      search rules,
      put_few a.threshold rs l.i l.n a.out_keys.now a.out_distances.now l.out_keys
          l.out_distances l.invariant.4 l.invariant.1 _ _ _ _ c.put_if-n.ensures,
      k.out_keys ∙ l.invariant.2,
      k.out_distances ∙ l.invariant.3,
      put_next a.threshold rs l.i l.n a.out_keys.now a.out_distances.now l.out_keys
          l.out_distances l.invariant.4 _
          (pair_at a.field.now.keys.now a.field.now.distances.now a.field.now.count l.i p.distances t p.fits) _ _ _
          c.put_if-n.ensures,
    )

pub returns : goal.returns
returns c =
    let a = c.args in
    let l = c.loop-i in
    let rs = marched_rows_of a.field.now.keys.now a.field.now.distances.now a.field.now.count in
    put_done a.threshold rs l.i l.n a.out_keys.now a.out_distances.now l.out_keys l.out_distances
    l.invariant.4 (pair_end a.field.now.keys.now a.field.now.distances.now a.field.now.count l.i c.loop-i-test.false)
