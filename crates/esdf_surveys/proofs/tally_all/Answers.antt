-- `esdf_surveys::tally_all` meets its contract: the rows that are left say what all say.
use mathlib.Core.Path.{sym, ◌∙◌}
use lib.Ieee.{of_bits, neg}
use Rattle.marched.specs.Marched.{marched_rows_of}
use Rattle.marched.proofs.MarchedLaws.{pair_at, pair_end}
use Rattle.esdf_surveys.proofs.Walking.{tally_more, tally_none, tally_few}
use borrow.Author.Rules.{rules}
use Rattle.esdf_surveys.proofs.tally_all.Goals as goal

pub loop-i-init : goal.loop-i-init
unfolding of_bits neg
loop-i-init c = (search rules, search rules, search rules, rw c.none.ensures)

pub loop-i-preserved : goal.loop-i-preserved
loop-i-preserved c =
    let a = c.args in
    let p = c.requires.0 in
    let l = c.loop-i in
    let t = c.loop-i-test.true in
    let e = c.tally_with-tally.ensures in
    let f = tally_few l.tally _ l.i l.invariant.1 l.invariant.2 in (
      search rules,
      rw e f.0,
      rw e f.1,
      l.invariant.3
          ∙ tally_more l.tally _ _ (marched_rows_of a.field.now.keys.now a.field.now.distances.now a.field.now.count) l.i
          (pair_at a.field.now.keys.now a.field.now.distances.now a.field.now.count l.i p.distances t p.fits) e,
    )

pub returns : goal.returns
returns c =
    let a = c.args in
    let l = c.loop-i in
    sym (l.invariant.3
    ∙ tally_none l.tally (marched_rows_of a.field.now.keys.now a.field.now.distances.now a.field.now.count) l.i
    (pair_end a.field.now.keys.now a.field.now.distances.now a.field.now.count l.i c.loop-i-test.false))
