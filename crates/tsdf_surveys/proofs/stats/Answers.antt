-- `tsdf_surveys::stats` meets its contract: the check, then what the rows tally.
-- Assumes nothing.
use Rattle.std.proofs.lemmas.Result.{err_from_is_err_and}
use mathlib.Core.Path.{sym, ◌∙◌}
use native.Mathlib.Omega.{arith}
use Rattle.tsdf_surveys.specs.Statistics.{statistics_if, statistics_of, stats_of}
use Rattle.tsdf_questions.proofs.Answers.{accepted}
use Rattle.tsdf_surveys.proofs.stats.Goals as goal

pub tally_rows-sum-requires : goal.tally_rows-sum-requires
tally_rows-sum-requires c = accepted _ _ _ _ _ (sym c.check_table.ensures ∙ c.in_ok-check_table.was)

pub mean-requires : goal.mean-requires
mean-requires c =
    let ok = accepted _ _ _ _ _ (sym c.check_table.ensures ∙ c.in_ok-check_table.was) in
    omega (arith, ok.fits, ok.small)

pub returns-in_err-check_table : goal.returns-in_err-check_table
unfolding statistics_of statistics_if
returns-in_err-check_table c =
    let p = err_from_is_err_and c.from_residual.result c.from_residual.ensures.1 in
    rw (p.1, p.2, ← c.check_table.ensures, c.in_err-check_table.was)

pub returns : goal.returns
unfolding statistics_of statistics_if stats_of
returns c =
    rw (
      ← c.check_table.ensures,
      c.in_ok-check_table.was,
      ← c.tally_rows-sum.ensures,
      c.mean.ensures,
      c.lowest.ensures,
      c.highest.ensures,
    )
