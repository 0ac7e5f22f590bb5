-- `esdf_surveys::stats` meets its contract: the verdict, then the tally.
-- Assumes nothing.
use Rattle.std.proofs.lemmas.Result.{err_from_is_err_and}
use Rattle.marched.specs.Marched.{once_passed}
use Rattle.marched.proofs.MarchedLaws.{accepted, short, pair_count}
use Rattle.esdf_surveys.specs.Statistics.{stats_of}
use Rattle.esdf_surveys.proofs.stats.Goals as goal

pub tally_all-tally-requires : goal.tally_all-tally-requires
tally_all-tally-requires c =
    let a = c.args.field.now in (
      accepted a.keys.now a.distances.now a.count _ _ c.check.ensures c.in_ok-check.was,
      short a.keys.now a.distances.now a.count _ _ c.check.ensures c.in_ok-check.was,
    )

pub returns-in_err-check : goal.returns-in_err-check
unfolding once_passed
returns-in_err-check c =
    let p = err_from_is_err_and c.from_residual.result c.from_residual.ensures.1 in
    rw (p.1, p.2, ← c.check.ensures, c.in_err-check.was)

pub returns : goal.returns
unfolding once_passed stats_of
returns c =
    let a = c.args.field.now in
    let h = accepted a.keys.now a.distances.now a.count _ _ c.check.ensures c.in_ok-check.was in
    rw (← c.check.ensures, c.in_ok-check.was, pair_count a.keys.now a.distances.now a.count h.distances h.fits, ← c.tally_all-tally.ensures) cc
