-- `cutting::cut_checked` meets its contract: where the edges are refused, nothing is cut.
-- Assumes nothing.
use Rattle.std.proofs.lemmas.Result.{err_from_is_err_and}
use Rattle.cutting.proofs.ClosedLaws.{refused_cut}
use Rattle.cutting.proofs.cut_checked.Goals as goal

pub cut_listed-requires : goal.cut_listed-requires
cut_listed-requires c = c.requires _ c.in_ok-edges.was

pub returns : goal.returns
returns c = rw c.in_ok-edges.was c.cut_listed.ensures

pub returns-in_err-edges : goal.returns-in_err-edges
returns-in_err-edges c =
    let p = err_from_is_err_and c.from_residual.result c.from_residual.ensures.1 in
    rw p.1 (refused_cut _ _ _ _ _ _ (rw (c.in_err-edges.was, p.2)))
